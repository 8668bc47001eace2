use Rattle.std.proofs.Common.{◌≡◌, ◌≤◌, take}
use Rattle.slab_store.proofs.Changes.{taken}
use Rattle.slab_store.proofs.slots.SlotsLent.used.Given as goal

abbrev pub invariant-loop-slot : goal.invariant-loop-slot
invariant-loop-slot l = (l.sum ≡ taken (take l.slot-index l.self.slots.now)) × (l.sum ≤ l.slot-index)
