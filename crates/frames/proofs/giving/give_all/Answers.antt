use Rattle.std.proofs.Common.{◌≡◌, ◌<◌, [], ◌∷◌, ◌++◌, length, drop, sym, ap, ◌∙◌, append_assoc, length-append, arith}
use Rattle.std.proofs.lemmas.Grind.{common_steps}
use Rattle.std.proofs.lemmas.List.{append-nil}
use Rattle.rows.specs.Rows.{items}
use Rattle.code.specs.Copies.{bytes_of}
use Rattle.checker.proofs.Giving.{wanted_next}
use Rattle.frames.proofs.Lists.{counts_differ, giving_all, giving_next, giving_none, giving_unread, giving_done}
use Rattle.frames.proofs.giving.give_all.Goals as goal

pub returns-then-from-len : goal.returns-then-from-len
returns-then-from-len c room = counts_differ (bytes_of c.args.code.now) (items c.args.variables.now) c.args.values (items c.args.types.now) (λ same. omega arith)

pub loop-ty-init : goal.loop-ty-init
loop-ty-init c = ([], giving_all _ _ c.args.values (items c.args.types.now) (omega arith), sym (append-nil (items c.args.given.now)), grind (arith, common_steps))

pub returns-in_err-value : goal.returns-in_err-value
returns-in_err-value c =
    let is = wanted_next _ (items c.args.types.now) c.loop-ty.ty-index c.as_slice-ty-items.ensures c.loop-ty-test.true in
    let (xs, g, joined, long) = c.loop-ty.invariant in
    rw c.from_residual.ensures (λ room. giving_unread _ _ c.args.values _ _ c.loop-ty.place _ _ xs (rw is at g) c.in_err-value.ensures)

pub returns-in_err-give : goal.returns-in_err-give
returns-in_err-give c =
    let is = wanted_next _ (items c.args.types.now) c.loop-ty.ty-index c.as_slice-ty-items.ensures c.loop-ty-test.true in
    let (xs, g, joined, long) = c.loop-ty.invariant in
    rw c.from_residual-in_err-give.ensures
    (λ room. giving_none _ _ c.args.values _ _ c.loop-ty.place _ _ xs (rw is at g) c.in_ok-value.value c.in_ok-value.next c.in_ok-value.ensures c.in_err-give.ensures.0)

-- where there is room for all that may be given, the row is not full
pub returns-in_err-ok : goal.returns-in_err-ok
returns-in_err-ok c =
    let (xs, g, joined, long) = c.loop-ty.invariant in
    let full : length (items c.loop-ty.given) < 16 → ⊥ = λ space. let pushed = c.push.ensures.room.1 space in grind (arith, common_steps) in
    rw c.from_residual-in_err-ok.ensures (λ room. absurd (full (omega (arith, simp length-append at (ap length joined), ap length c.as_slice-ty-items.ensures))))

pub loop-ty-preserved : goal.loop-ty-preserved
loop-ty-preserved c =
    let is = wanted_next _ (items c.args.types.now) c.loop-ty.ty-index c.as_slice-ty-items.ensures c.loop-ty-test.true in
    let (xs, g, joined, long) = c.loop-ty.invariant in
    let longer : items c.push.new.self ≡ items c.loop-ty.given ++ c.in_ok-give.field-0 ∷ [] = grind (arith, common_steps) in (
      _,
      giving_next _ _ c.args.values _ _ c.loop-ty.place _ _ xs (rw is at g) c.in_ok-value.value c.in_ok-value.next c.in_ok-give.field-0 _ c.in_ok-value.ensures c.in_ok-give.ensures,
      longer ∙ ap (λ hs. hs ++ c.in_ok-give.field-0 ∷ []) joined ∙ append_assoc (items c.args.given.now) xs (c.in_ok-give.field-0 ∷ []),
      grind (arith, common_steps),
    )

pub returns : goal.returns
returns c =
    let (xs, g, joined, long) = c.loop-ty.invariant in
    let none_left : drop c.loop-ty.ty-index (items c.args.types.now) ≡ [] = grind (arith, common_steps) in
    let (vs, reads, gives) = giving_done _ _ c.args.values _ _ c.loop-ty.place xs (rw none_left at g) in
    (vs, xs, reads, gives, joined)
