use Rattle.std.proofs.Common.{arith}
use Rattle.std.proofs.lemmas.Grind.{common_steps}
use Rattle.rows.specs.Rows.{items}
use Rattle.checker.proofs.Giving.{wanted_next, giving_next, giving_reads}
use Rattle.checker.proofs.walks.Walk.give_all.Goals as goal

pub returns-in_err-value : goal.returns-in_err-value
returns-in_err-value c vs h =
    let is = wanted_next _ (items c.args.wanted.now) c.loop-ty.ty-index c.as_slice-ty-items.ensures c.loop-ty-test.true in
    absurd (giving_reads c.args.self.now.window _ _ c.loop-ty.place _ _ (c.loop-ty.invariant.0 vs h) _ _ is c.in_err-value.field-0.0 c.in_err-value.ensures.reads)

pub loop-ty-preserved : goal.loop-ty-preserved
loop-ty-preserved c =
    let is = wanted_next _ (items c.args.wanted.now) c.loop-ty.ty-index c.as_slice-ty-items.ensures c.loop-ty-test.true in (
      λ vs h. giving_next c.args.self.now.window _ _ c.loop-ty.place _ _ (c.loop-ty.invariant.0 vs h) _ _ is c.in_ok-value.value c.in_ok-value.next _ _ c.in_ok-value.ensures.reads c.in_ok-give.ensures c.note.ensures,
      grind (arith, common_steps),
    )
