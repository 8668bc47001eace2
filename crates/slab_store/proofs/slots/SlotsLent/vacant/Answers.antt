use Rattle.slab_store.proofs.Changes.{vacancy}
use Rattle.slab_store.proofs.slots.SlotsLent.vacant.Goals as goal

pub returns : goal.returns
returns c = vacancy c.args.self.now.slots.now c.args.self.now.memory.now c.args._size c.find.result c.find.ensures
