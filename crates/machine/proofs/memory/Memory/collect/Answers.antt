-- By the lemma on the state that a collect leaves.
use Rattle.machine.proofs.Network.{collects}
use Rattle.machine.proofs.memory.Memory.collect.Goals as goal

pub returns-clause-state : goal.returns-clause-state
returns-clause-state g c =
    collects c.args.self.now (g.S.Store.meaning c.args.store.now) _ c.args.name c.args.buffer.now _ c.remove_first.new.self c.remove_first.result c.requires
    c.remove_first.ensures.first c.remove_first.ensures.none (cc)
