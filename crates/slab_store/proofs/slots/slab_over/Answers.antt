use Rattle.std.proofs.Common.{ℕ, ◌*◌, ◌≤◌, length, take, sym, ap, ◌∙◌, arith}
use Rattle.std.proofs.lemmas.List.{length-take-le}
use Rattle.slab_store.proofs.Changes.{apart_free, meaning_free}
use Rattle.slab_store.proofs.slots.slab_over.Goals as goal

pub over-requires : goal.over-requires
over-requires c =
    let m = c.min-count.ensures in
    let n : c.min-count.result ≤ length c.args.slots.now = omega arith in
    let k : 256 * c.min-count.result ≤ length c.args.memory.now = omega arith in
    let e = c.fill.ensures.len ∙ length-take-le c.min-count.result c.args.slots.now n in (
      omega arith,
      (
        length-take-le (256 * c.min-count.result) c.args.memory.now k ∙ ap (λ (j : ℕ). 256 * j) (sym e),
        apart_free c.fill.new.self _ c.free.result (take (256 * c.min-count.result) c.args.memory.now) c.free.ensures (c.fill.ensures.after (λ y k. k)),
      ),
    )

pub returns-clause-meaning : goal.returns-clause-meaning
returns-clause-meaning c =
    let m = c.min-count.ensures in
    let n : c.min-count.result ≤ length c.args.slots.now = omega arith in
    c.over.ensures.meaning
    ∙ meaning_free c.fill.new.self _ c.free.result (take (256 * c.min-count.result) c.args.memory.now) c.free.ensures (c.fill.ensures.after (λ y k. k)) _
    (c.fill.ensures.len ∙ length-take-le c.min-count.result c.args.slots.now n ∙ m)
