-- Each arm, by its lemma on what the memory stands for.
use Rattle.machine.proofs.Changes.{discards, writes, takes, puts}
use Rattle.machine.proofs.memory.Memory.act.Goals as goal

pub returns-in-Discard-clause-state : goal.returns-in-Discard-clause-state
returns-in-Discard-clause-state g c =
    discards c.args.self.now (g.S.Store.meaning c.args.store.now) (g.S.Store.meaning c.discard.new.self) c.args.thread c.args.outside c.requires.allowed c.in-Discard.name c.in-Discard.is c.discard.ensures.after

pub returns-in-Write-clause-state : goal.returns-in-Write-clause-state
returns-in-Write-clause-state g c =
    writes c.args.self.now (g.S.Store.meaning c.args.store.now) (g.S.Store.meaning c.write.new.self) c.args.thread c.args.outside c.requires.allowed c.in-Write.name c.in-Write.offset c.in-Write.byte c.in-Write.is c.write.ensures.after

pub returns-in-Take-clause-state : goal.returns-in-Take-clause-state
returns-in-Take-clause-state g c =
    takes c.args.self.now (g.S.Store.meaning c.args.store.now) (g.S.Store.meaning c.hand.new.self) c.args.thread c.args.outside c.requires.allowed
    c.from.result c.index-queues-from.result c.remove_first.new.self c.in-Take.queue c.in-Take.name c.remove_first.result c.in-Take.is c.from.ensures
    c.remove_first.ensures.first c.remove_first.ensures.none c.hand.ensures.after

pub returns-in-Put-clause-state : goal.returns-in-Put-clause-state
returns-in-Put-clause-state g c =
    puts c.args.self.now (g.S.Store.meaning c.args.store.now) (g.S.Store.meaning c.args.store.now) c.args.thread c.args.outside c.requires.allowed
    c.from-in-Put.result c.index-queues-from-in-Put.result c.push.new.self c.in-Put.queue c.in-Put.name c.in-Put.is c.from-in-Put.ensures
    (rw c.unwrap-in-Put.ensures at c.push.ensures.ok)
