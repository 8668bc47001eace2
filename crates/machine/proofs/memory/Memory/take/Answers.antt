use Rattle.std.proofs.Common.{refl}
use Rattle.rules.specs.Rules.{on_empty}
use Rattle.machine.proofs.Operations.{none_waits, taken, not_taken}
use Rattle.machine.proofs.memory.Memory.take.Goals as goal

pub returns-in_default : goal.returns-in_default
returns-in_default g c = let q = c.queue.ensures (g.S.Store.meaning c.args.store.now) in λ t. on_empty (none_waits _ (cc))

pub returns-in-Ok : goal.returns-in-Ok
returns-in-Ok g c = let q = c.queue.ensures (g.S.Store.meaning c.args.store.now) in λ t. taken _ t c.in-Some.name refl (cc) c.in-Ok.ensures

pub returns-in-Err : goal.returns-in-Err
returns-in-Err g c = let q = c.queue.ensures (g.S.Store.meaning c.args.store.now) in λ t. not_taken _ t c.in-Some.name refl (cc) c.in-Err.ensures
