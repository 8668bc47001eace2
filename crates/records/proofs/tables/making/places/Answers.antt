use Rattle.std.proofs.Common.{◌≡◌, [], ◌∷◌, ◌++◌, length, arith, rules}
use Rattle.std.proofs.lemmas.Grind.{common_steps}
use Rattle.rows.specs.Rows.{items}
use Rattle.records.proofs.Growing.{starts-step}
use Rattle.records.proofs.tables.making.places.Goals as goal

pub loop-preserved : goal.loop-preserved
loop-preserved c =
    let b = c.args.program.now in
    let grown : items c.push.new.self ≡ items c.loop.places ++ c.loop.place ∷ [] = search rules in (
      starts-step b (length b) c.args.count c.loop.counter c.loop.place c.place_after-place.result
          (items c.loop.places) (items c.push.new.self) _ (omega arith) grown c.place_after-place.ensures c.loop.invariant.0,
      grind (arith, common_steps),
    )
