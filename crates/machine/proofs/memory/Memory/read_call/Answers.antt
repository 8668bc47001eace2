use Rattle.std.proofs.Common.{◌∙◌, [], ◌∷◌, refl}
use Rattle.reader.specs.declared.operations.Operation.TheVariants.{Read}
use Rattle.rows.specs.Rows.{items}
use Rattle.rules.specs.declared.held.Held.TheVariants.{Integer as integer, Alias as alias}
use Rattle.typing.specs.Signatures.{int, alias as lent}
use Rattle.machine.specs.States.{state_of}
use Rattle.machine.proofs.Decides.{at_call}
use Rattle.machine.proofs.Offers.{no_integer, integer_given, no_alias, alias_keeps, alias_given, not-first, not-next, gives_more, gives_none}
use Rattle.machine.proofs.Serving.{answered, unread, ungiven, two_values}
use Rattle.machine.proofs.memory.Memory.read_call.Goals as goal

pub returns-in_err-packet : goal.returns-in_err-packet
returns-in_err-packet g c t p fs d at =
    answered _ (state_of c.args.self.now (g.S.Store.meaning c.args.store.now)) t d _ c.from_residual.result c.from_residual.ensures
    (unread c.args.self.now.code (state_of c.args.self.now (g.S.Store.meaning c.args.store.now)) t p _ c.args.top.now c.args.arguments fs at c.in_err-packet.ensures.0 (lent ∷ int ∷ []) (int ∷ []) refl c.in_err-packet.ensures.1)

pub returns-in_err-name : goal.returns-in_err-name
returns-in_err-name g c t p fs d at =
    let (as', stop, k, read, count, v, long) = c.in_ok-packet.ensures in
    answered _ (state_of c.args.self.now (g.S.Store.meaning c.args.store.now)) t d _ c.from_residual-in_err-name.result c.from_residual-in_err-name.ensures
    (ungiven c.args.self.now.code (state_of c.args.self.now (g.S.Store.meaning c.args.store.now)) t p _ c.args.top.now c.args.arguments fs at c.in_err-name.ensures.stuck (lent ∷ int ∷ []) (int ∷ []) refl 2 _ c.in_ok-packet.next c.in_ok-packet.ensures (λ bs w us. not-first bs (w ∙ two_values _ _ long) (no_alias c.in_err-name.ensures.finds)))

pub returns-in_err-offset : goal.returns-in_err-offset
returns-in_err-offset g c t p fs d at =
    let (as', stop, k, read, count, v, long) = c.in_ok-packet.ensures in
    answered _ (state_of c.args.self.now (g.S.Store.meaning c.args.store.now)) t d _ c.from_residual-in_err-offset.result c.from_residual-in_err-offset.ensures
    (ungiven c.args.self.now.code (state_of c.args.self.now (g.S.Store.meaning c.args.store.now)) t p _ c.args.top.now c.args.arguments fs at c.in_err-offset.ensures.stuck (lent ∷ int ∷ []) (int ∷ []) refl 2 _ c.in_ok-packet.next c.in_ok-packet.ensures (λ bs w us. not-next bs (w ∙ two_values _ _ long) alias_keeps (λ c1 w1. not-first c1 w1 (no_integer c.in_err-offset.ensures.finds))))

pub returns : goal.returns
returns g c t p fs d at =
    let (as', stop, k, read, count, v, long) = c.in_ok-packet.ensures in
    let vs = items c.args.top.now.variables in
    c.bind.ensures c.args.self.now.code (state_of c.args.self.now (g.S.Store.meaning c.args.store.now)) t p k c.args.top.now Read as' fs (lent ∷ int ∷ []) (int ∷ []) (alias c.in_ok-name.name ∷ integer c.in_ok-offset.offset ∷ []) d
    (at_call c.args.self.now.code (state_of c.args.self.now (g.S.Store.meaning c.args.store.now)) t p _ c.args.top.now fs _ at read count) (λ g e. absurd (cc)) refl
    (gives_more as' (v ∙ two_values _ _ long) (alias_given vs _ ((c.in_ok-name.ensures.finds _).1 refl)) (λ bs w. gives_more bs w (integer_given vs _ ((c.in_ok-offset.ensures.finds _).1 refl)) gives_none))
    (c.read.ensures (state_of c.args.self.now (g.S.Store.meaning c.args.store.now)) t refl)
