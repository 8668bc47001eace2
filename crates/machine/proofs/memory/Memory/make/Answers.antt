-- By the lemma on the packet that a maker makes next.
use Rattle.machine.proofs.Changes.{makes}
use Rattle.machine.proofs.memory.Memory.make.Goals as goal

pub returns-clause-state : goal.returns-clause-state
returns-clause-state g c =
    makes c.args.self.now (g.S.Store.meaning c.args.store.now) (g.S.Store.meaning c.make.new.self) c.args.maker c.args.size c.from-index.result c.requires.allowed c.requires.to c.from-index.ensures c.make.ensures.after
