-- The bytes below i are written.
use Rattle.machine.proofs.Network.{FilledTo}
use Rattle.machine.proofs.memory.network.fill.Given as goal

abbrev pub invariant-loop-i : goal.invariant-loop-i
invariant-loop-i g l = FilledTo l.i (g.S.Store.meaning l.initial.store) l.name l.bytes (g.S.Store.meaning l.store)
