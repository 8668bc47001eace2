use Rattle.slab_store.proofs.Changes.{holder_is}
use Rattle.slab_store.proofs.slots.SlotsLent.holder.Goals as goal

pub returns : goal.returns
returns c = let l = c.args.self.now in holder_is l.slots.now l.memory.now c.args.slot c.label.result c.label.ensures.kept
