use Rattle.std.proofs.Common.{refl}
use Rattle.slab_store.proofs.Changes.{rows_hand}
use Rattle.slab_store.proofs.slots.SlotsLent.hand.Goals as goal

pub returns-clause-handed : goal.returns-clause-handed
returns-clause-handed c =
    let l = c.args.self.now in
    rows_hand l.slots.now l.memory.now c.args.slot c.label-label.result c.label-label.ensures.kept c.label-label.ensures.within c.args.holder _ refl
