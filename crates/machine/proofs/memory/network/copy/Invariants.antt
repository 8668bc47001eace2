-- The bytes below i are copied.
use Rattle.std.proofs.Common.{◌≡◌, Some}
use Rattle.std.proofs.Math.Seq.{paste}
use Rattle.store.specs.Packets.{Packet}
use Rattle.store.specs.Meaning.{found}
use Rattle.machine.proofs.memory.network.copy.Given as goal

abbrev pub invariant-loop-i : goal.invariant-loop-i
invariant-loop-i g l = (p : Packet) → found (g.S.Store.meaning l.store) l.name ≡ Some p → l.byte-items ≡ paste l.initial.byte-items 0 p.bytes l.i
