use Rattle.std.proofs.Common.{Some, sym, ◌∙◌}
use Rattle.slab_store.proofs.Changes.{place-rows}
use Rattle.slab_store.proofs.slots.SlotsLent.seek.Goals as goal

pub returns : goal.returns
returns c = c.find.ensures ∙ sym (place-rows (Some c.args.name) c.args.self.now.slots.now c.args.self.now.memory.now)
