use Rattle.std.proofs.Common.{ℕ, ◌*◌, ◌<◌, length, sym, refl, ap, ◌∙◌, arith, length-set, rules}
use Rattle.store.proofs.Gathered.{free_from, free-within}
use Rattle.slab_store.specs.Slabs.{rows}
use Rattle.slab_store.proofs.Changes.{length-rows, rows_fill, whole_fill}
use Rattle.slab_store.proofs.slots.SlotsLent.fill.Goals as goal

pub wipe-requires : goal.wipe-requires
wipe-requires c =
    let l = c.args.self.now in
    let w = free-within (rows l) c.args.slot (free_from (rows l) c.args.slot (sym c.requires.vacant.0)) in
    let n = length-rows l.slots.now l.memory.now in
    let s = c.requires.sound in omega arith

pub offset_bounds-self-slot : goal.offset_bounds-self-slot
offset_bounds-self-slot c =
    let l = c.args.self.now in
    let w = free-within (rows l) c.args.slot (free_from (rows l) c.args.slot (sym c.requires.vacant.0)) in
    let n = length-rows l.slots.now l.memory.now in
    let e = ap length c.wipe.ensures.slots in
    let b : c.args.slot < length c.wipe.new.self.slots.now = omega arith in search rules

pub bounds-self-slot : goal.bounds-self-slot
bounds-self-slot c =
    let l = c.args.self.now in
    let w = free-within (rows l) c.args.slot (free_from (rows l) c.args.slot (sym c.requires.vacant.0)) in
    let n = length-rows l.slots.now l.memory.now in
    let e = ap length c.wipe.ensures.slots in
    omega arith

pub returns : goal.returns
returns c =
    let l = c.args.self.now in
    let w = free-within (rows l) c.args.slot (free_from (rows l) c.args.slot (sym c.requires.vacant.0)) in
    let n = length-rows l.slots.now l.memory.now in
    let b : c.args.slot < length l.slots.now = omega arith in
    record {
      sound =
          ap length c.wipe.ensures.memory
          ∙ whole_fill l.slots.now l.memory.now c.args.slot c.args.size b c.requires.small c.requires.sound
          ∙ ap (λ (k : ℕ). 256 * k) (sym (length-set c.wipe.new.self.slots.now c.args.slot _ ∙ ap length c.wipe.ensures.slots));
      filled = rows_fill l.slots.now l.memory.now c.args.slot b c.requires.sound c.args.name c.args.name.maker c.args.size _ c.requires.small refl _ _ c.wipe.ensures.slots c.wipe.ensures.memory;
    }
