use Rattle.std.proofs.Common.{rules, sym, ◌∙◌}
use Rattle.slab_store.proofs.Changes.{alive-within, label_is, label-at, small_at}
use Rattle.slab_store.proofs.slots.Slots.label.Goals as goal

pub offset_bounds-self-slot : goal.offset_bounds-self-slot
offset_bounds-self-slot c =
    let w = alive-within c.args.self.now.slots.now c.args.self.now.memory.now c.args.slot c.requires in search rules

pub bounds-self-slot : goal.bounds-self-slot
bounds-self-slot c = alive-within c.args.self.now.slots.now c.args.self.now.memory.now c.args.slot c.requires

pub unwrap-requires : goal.unwrap-requires
unwrap-requires c =
    let l = c.args.self.now in
    let w = alive-within l.slots.now l.memory.now c.args.slot c.requires in
    let s = label_is l.slots.now l.memory.now c.args.slot c.requires in
    rw (sym (label-at l.slots.now c.args.slot c.index-self-slot.result w) ∙ s.1) (search rules)

pub returns : goal.returns
returns c =
    let l = c.args.self.now in
    let w = alive-within l.slots.now l.memory.now c.args.slot c.requires in
    let k = label-at l.slots.now c.args.slot c.index-self-slot.result w ∙ c.unwrap.ensures in
    record { within = w; kept = k; small = small_at l.slots.now c.args.slot c.unwrap.result k }
