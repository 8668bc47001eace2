use Rattle.std.proofs.Common.{◌≡◌, sym, ap, ◌∙◌, arith}
use Rattle.std.proofs.lemmas.Grind.{common_steps}
use Rattle.reader.specs.declared.types.Ty.TheVariants as ty
use Rattle.reader.specs.declared.values.Value.TheVariants as v
use Rattle.rows.specs.Rows.{items}
use Rattle.frames.proofs.Sharing.{remaining, integer_given, truth_given, unbound_given, unfit_given, held_given, unspent}
use Rattle.frames.proofs.giving.give.Goals as goal

pub returns-in_err-get-in-Variable : goal.returns-in_err-get-in-Variable
returns-in_err-get-in-Variable c =
    unbound_given c.args.variables.now _ c.from-place.result _ _ (c.in-Variable.is ∙ ap v.Variable (sym c.from-place.ensures)) c.in_err-get-in-Variable.ensures c.from_residual.ensures

pub returns-in_err-given-in-Variable : goal.returns-in_err-given-in-Variable
returns-in_err-given-in-Variable c =
    unfit_given c.args.variables.now _ c.from-place.result c.in_ok-get-in-Variable.field-0 _ _ (c.in-Variable.is ∙ ap v.Variable (sym c.from-place.ensures)) c.in_ok-get-in-Variable.ensures c.in_err-given-in-Variable.ensures c.from_residual-in_err-given-in-Variable.ensures

pub returns-in-Integer : goal.returns-in-Integer
returns-in-Integer c = integer_given c.args.variables.now _ c.in-Integer.integer _ _ c.in-Integer.is c.share.ensures

pub returns-in-Truth : goal.returns-in-Truth
returns-in-Truth c = truth_given c.args.variables.now _ c.in-Truth.truth _ _ c.in-Truth.is c.share-in-Truth.ensures

pub returns-then-eq : goal.returns-then-eq
returns-then-eq c =
    let packet : c.args.ty ≡ ty.Packet = grind (arith, common_steps) in
    held_given (items c.args.variables.now) _ _ c.from-place.result c.in_ok-get-in-Variable.field-0 _ _ (c.in-Variable.is ∙ ap v.Variable (sym c.from-place.ensures)) c.in_ok-get-in-Variable.ensures c.in_ok-given-in-Variable.ensures
    (c.put.ensures ∙ ap (λ τ. remaining τ (items c.args.variables.now) c.from-place.result) (sym packet))

pub returns-else-eq : goal.returns-else-eq
returns-else-eq c =
    held_given (items c.args.variables.now) _ _ c.from-place.result c.in_ok-get-in-Variable.field-0 _ _ (c.in-Variable.is ∙ ap v.Variable (sym c.from-place.ensures)) c.in_ok-get-in-Variable.ensures c.in_ok-given-in-Variable.ensures
    (unspent c.args.ty _ c.from-place.result (λ is. grind (arith, common_steps)))
