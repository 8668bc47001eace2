use Rattle.std.proofs.Common.{rules, refl}
use Rattle.slab_store.proofs.Changes.{alive-within, rows_release}
use Rattle.slab_store.proofs.slots.SlotsLent.release.Goals as goal

pub offset_bounds-self-slot : goal.offset_bounds-self-slot
offset_bounds-self-slot c =
    let w = alive-within c.args.self.now.slots.now c.args.self.now.memory.now c.args.slot c.requires.alive in search rules

pub bounds-self-slot : goal.bounds-self-slot
bounds-self-slot c = alive-within c.args.self.now.slots.now c.args.self.now.memory.now c.args.slot c.requires.alive

pub returns-clause-released : goal.returns-clause-released
returns-clause-released c =
    let l = c.args.self.now in
    rows_release l.slots.now l.memory.now c.args.slot (alive-within l.slots.now l.memory.now c.args.slot c.requires.alive) _ refl
