use Rattle.std.proofs.Common.{sym}
use Rattle.slab_store.proofs.Changes.{length-rows}
use Rattle.slab_store.proofs.slots.SlotsLent.capacity.Goals as goal

pub returns : goal.returns
returns c = sym (length-rows c.args.self.now.slots.now c.args.self.now.memory.now)
