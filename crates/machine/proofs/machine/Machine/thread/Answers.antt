use Rattle.std.proofs.Common.{refl}
use Rattle.machine.proofs.machine.Machine.thread.Goals as goal

pub returns-in-Some : goal.returns-in-Some
returns-in-Some g c = rw c.in-Some.is (c.if-has_thread.ensures.0 refl, c.thread.ensures (g.S.Store.meaning c.args.self.now.store))
