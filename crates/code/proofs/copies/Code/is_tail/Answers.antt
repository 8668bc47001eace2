use Rattle.std.proofs.Common.{refl, ne_eqb}
use Rattle.code.specs.Copies.{bytes_of}
use Rattle.code.proofs.Nodes.{Whole, tail_return, tail_counts, tail_other}
use Rattle.code.proofs.copies.Code.is_tail.Goals as goal

pub returns-then-values-results : goal.returns-then-values-results
returns-then-values-results c =
    let b = bytes_of c.args.self.now in
    let whole : Whole b c.window.result = record { bytes = c.window.ensures.bytes; function = c.window.ensures.function } in
    tail_return b c.args.place c.args.first c.args.results c.in-Return.values c.window.result c.sight.result c.consecutive.result whole c.sight.ensures c.in-Return.is c.if-values-results.true c.consecutive.ensures

pub returns-else-values-results : goal.returns-else-values-results
returns-else-values-results c =
    let b = bytes_of c.args.self.now in
    tail_counts b c.args.place c.args.first c.args.results c.in-Return.values c.sight.result _ c.sight.ensures c.in-Return.is c.if-values-results.false (ne_eqb c.in-Return.values.count c.args.results c.if-values-results.false)

pub returns-in_default : goal.returns-in_default
returns-in_default c = tail_other (bytes_of c.args.self.now) c.args.place c.args.first c.args.results c.sight.result _ c.sight.ensures c.in_default.not-Return refl
