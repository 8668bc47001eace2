use Rattle.std.proofs.Common.{rules}
use Rattle.slab_store.proofs.Changes.{bytes-within, byte_is}
use Rattle.slab_store.proofs.slots.SlotsLent.byte.Goals as goal

pub overflow_mul-result : goal.overflow_mul-result
overflow_mul-result c =
    let l = c.args.self.now in
    let w = bytes-within l.slots.now l.memory.now c.args.slot c.requires.sound c.args.offset c.requires.inside in search rules

pub overflow_add-result : goal.overflow_add-result
overflow_add-result c =
    let l = c.args.self.now in
    let w = bytes-within l.slots.now l.memory.now c.args.slot c.requires.sound c.args.offset c.requires.inside in search rules

pub bounds-self-slot : goal.bounds-self-slot
bounds-self-slot c =
    let l = c.args.self.now in
    (bytes-within l.slots.now l.memory.now c.args.slot c.requires.sound c.args.offset c.requires.inside).1

pub returns : goal.returns
returns c = byte_is c.args.self.now.slots.now c.args.self.now.memory.now c.args.slot c.requires.sound c.args.offset c.requires.inside
