use Rattle.slab_store.proofs.Changes.{size_is}
use Rattle.slab_store.proofs.slots.SlotsLent.size.Goals as goal

pub returns : goal.returns
returns c =
    let l = c.args.self.now in
    size_is l.slots.now l.memory.now c.args.slot c.label.result c.label.ensures.kept c.label.ensures.within c.requires.sound
