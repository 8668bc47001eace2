use Rattle.std.proofs.Common.{◌∙◌, [], ◌∷◌, refl}
use Rattle.rows.specs.Rows.{items}
use Rattle.reader.specs.declared.operations.Operation.TheVariants.{Compare}
use Rattle.rules.specs.declared.held.Held.TheVariants.{Integer as integer}
use Rattle.rules.specs.Rules.{compares}
use Rattle.typing.specs.Signatures.{int, bool}
use Rattle.machine.proofs.Decides.{at_call}
use Rattle.machine.proofs.Offers.{no_integer, integer_keeps, integer_given, not-first, not-next, gives_more, gives_none}
use Rattle.machine.proofs.Serving.{answered, unread, ungiven, two_values}
use Rattle.machine.proofs.computing.compared.Goals as goal

pub returns-in_err-a : goal.returns-in_err-a
returns-in_err-a c s t p fs d at =
    answered _ s t d _ c.from_residual.result c.from_residual.ensures (unread c.args.code.now s t p _ c.args.top.now c.args.arguments fs at c.in_err-a.ensures.0 _ _ refl c.in_err-a.ensures.1)

pub returns-in_err-a-2 : goal.returns-in_err-a-2
returns-in_err-a-2 c s t p fs d at =
    let (as', stop, k, read, count, v, long) = c.in_ok-a.ensures in
    answered _ s t d _ c.from_residual-in_err-a-2.result c.from_residual-in_err-a-2.ensures
    (ungiven c.args.code.now s t p _ c.args.top.now c.args.arguments fs at c.in_err-a-2.ensures.stuck _ _ refl 2 _ c.in_ok-a.next c.in_ok-a.ensures
    (λ bs w us. not-first bs (w ∙ two_values _ _ long) (no_integer c.in_err-a-2.ensures.finds)))

pub returns-in_err-b : goal.returns-in_err-b
returns-in_err-b c s t p fs d at =
    let (as', stop, k, read, count, v, long) = c.in_ok-a.ensures in
    answered _ s t d _ c.from_residual-in_err-b.result c.from_residual-in_err-b.ensures
    (ungiven c.args.code.now s t p _ c.args.top.now c.args.arguments fs at c.in_err-b.ensures.stuck _ _ refl 2 _ c.in_ok-a.next c.in_ok-a.ensures
    (λ bs w us. not-next bs (w ∙ two_values _ _ long) integer_keeps (λ cs w'. not-first cs w' (no_integer c.in_err-b.ensures.finds))))

pub returns : goal.returns
returns c s t p fs d at =
    let (as', stop, k, read, count, v, long) = c.in_ok-a.ensures in
    let vs = items c.args.top.now.variables in
    c.bind.ensures c.args.code.now s t p k c.args.top.now (Compare c.args.operation) as' fs (int ∷ int ∷ []) (bool ∷ []) (integer c.in_ok-a-2.a ∷ integer c.in_ok-b.b ∷ []) d (at_call c.args.code.now s t p _ c.args.top.now fs _ at read count)
    (λ g e. absurd (cc)) refl
    (gives_more as' (v ∙ two_values _ _ long) (integer_given vs _ ((c.in_ok-a-2.ensures.finds _).1 refl)) (λ bs w. gives_more bs w (integer_given vs _ ((c.in_ok-b.ensures.finds _).1 refl)) gives_none))
    (rw (c.gives.ensures, c.compare.ensures) (compares, tt))
