use Rattle.std.proofs.Common.{Some, ap}
use Rattle.machine.proofs.machine.Machine.header.Goals as goal

pub returns-in-Some : goal.returns-in-Some
returns-in-Some g c = rw c.in-Some.is (ap Some (c.header.ensures (g.S.Store.meaning c.args.self.now.store)))
