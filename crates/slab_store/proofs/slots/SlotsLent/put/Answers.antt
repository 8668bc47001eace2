use Rattle.std.proofs.Common.{rules}
use Rattle.slab_store.proofs.Changes.{bytes-within, rows-put}
use Rattle.slab_store.proofs.slots.SlotsLent.put.Goals as goal

pub overflow_mul-self : goal.overflow_mul-self
overflow_mul-self c =
    let l = c.args.self.now in
    let w = bytes-within l.slots.now l.memory.now c.args.slot c.requires.sound c.args.offset c.requires.inside in search rules

pub overflow_add-self : goal.overflow_add-self
overflow_add-self c =
    let l = c.args.self.now in
    let w = bytes-within l.slots.now l.memory.now c.args.slot c.requires.sound c.args.offset c.requires.inside in search rules

pub bounds-self-slot : goal.bounds-self-slot
bounds-self-slot c =
    let l = c.args.self.now in
    (bytes-within l.slots.now l.memory.now c.args.slot c.requires.sound c.args.offset c.requires.inside).1

pub returns-clause-written : goal.returns-clause-written
returns-clause-written c =
    let l = c.args.self.now in
    rows-put l.slots.now l.memory.now c.args.slot c.requires.sound c.args.offset c.requires.inside c.args.byte
