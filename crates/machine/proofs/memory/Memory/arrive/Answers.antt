-- By the lemmas on a packet that is made, then filled, its name put at the end of a queue.
use Rattle.std.proofs.Common.{ap}
use Rattle.rules.specs.State.{name}
use Rattle.machine.proofs.Network.{to_fill, arrives}
use Rattle.machine.proofs.memory.Memory.arrive.Goals as goal

pub fill-requires : goal.fill-requires
fill-requires g c =
    let m = g.S.Store.meaning c.args.store.now in
    to_fill c.args.self.now c.make.new.self m (g.S.Store.meaning c.make.new.store) c.args.bytes.now _ (ap (name 0) (c.made.ensures m)) c.make.ensures.state

pub returns-clause-state : goal.returns-clause-state
returns-clause-state g c =
    let m = g.S.Store.meaning c.args.store.now in
    arrives c.args.self.now c.make.new.self m (g.S.Store.meaning c.make.new.store) c.args.bytes.now _ (ap (name 0) (c.made.ensures m)) c.make.ensures.state
    (g.S.Store.meaning c.fill.new.store) c.fill.ensures _ c.push.new.self c.requires.waits (rw c.unwrap.ensures at c.push.ensures.ok)
