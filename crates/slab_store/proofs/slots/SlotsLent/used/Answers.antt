use Rattle.std.proofs.Common.{◌≡◌, ◌+◌, [], ◌∷◌, ◌++◌, take, sym, ap, ◌∙◌, arith}
use Rattle.std.proofs.lemmas.List.{take_more, take_all}
use Rattle.slab_store.specs.declared.slot.Slot.{Slot}
use Rattle.slab_store.proofs.Changes.{taken, one_if, length-rows, total-rows, taken-append, taken-within, one_some, one_none}
use Rattle.slab_store.proofs.slots.SlotsLent.used.Goals as goal
use Rattle.slab_store.proofs.slots.SlotsLent.used.Goals.{then-is_some, else-is_some}

pub loop-slot-preserved : goal.loop-slot-preserved
loop-slot-preserved c =
    let ss = c.args.self.now.slots.now in
    let i = c.loop-slot.slot-index in
    let x = c.slot-item.result in
    let m : taken (take (i + 1) ss) ≡ taken (take i ss) + one_if x.label =
    ap taken (take_more ss i x c.loop-slot-test.true ∙ ap (λ (s : Slot). take i ss ++ s ∷ []) (sym c.slot-item.is)) ∙ taken-append (take i ss) x in
    let v = c.loop-slot.invariant.0 in
    let w = c.loop-slot.invariant.1 in
    elim c.if-is_some.branch [
      | then-is_some w ↦ let o = one_some x.label (sym w.if-is_some.ensures) in let e = w.sum-is in (omega arith, omega arith)
      | else-is_some w ↦ let o = one_none x.label (sym w.if-is_some.ensures) in let e = w.sum-is in (omega arith, omega arith)
    ]

pub returns : goal.returns
returns c =
    let l = c.args.self.now in
    let all : c.loop-slot.sum ≡ taken l.slots.now = c.loop-slot.invariant.0 ∙ ap taken (take_all c.loop-slot.slot-index l.slots.now c.loop-slot-test.false) in
    let t = total-rows l.slots.now l.memory.now in
    let w = taken-within l.slots.now in
    let n = length-rows l.slots.now l.memory.now in
    record { value = all ∙ sym t; within = omega arith }
