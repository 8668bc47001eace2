use Rattle.std.proofs.Common.{rules, tests, ◌∙◌}
use Rattle.std.proofs.lemmas.Iterator.{YieldsList-from_slice}
use Rattle.std.proofs.lemmas.Iterator.Search.{position_from_yields_List}
use Rattle.store.specs.Names.{same}
use Rattle.store.specs.Rows.{alike}
use Rattle.store.proofs.Tables.{position_is}
use Rattle.store.proofs.named.find.Goals as goal

pub returns : goal.returns
unfolding same
returns g c =
    let f = g.R.Named.named in
    position_from_yields_List (λ r. alike (f r) c.args.name) _ _ c.position.result c.position.ensures.ran (YieldsList-from_slice _ c.iter.ensures.rest) (λ x b q k. search (rules, tests))
    ∙ position_is f c.args.name c.args.records.now
