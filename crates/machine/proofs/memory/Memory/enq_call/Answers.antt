use Rattle.std.proofs.Common.{◌∙◌, [], ◌∷◌, refl}
use Rattle.reader.specs.declared.operations.Operation.TheVariants.{Enq}
use Rattle.rows.specs.Rows.{items}
use Rattle.rules.specs.declared.held.Held.TheVariants.{Owner as owner}
use Rattle.typing.specs.Signatures.{packet, ◌⇒◌}
use Rattle.machine.specs.States.{state_of}
use Rattle.machine.proofs.Decides.{at_call}
use Rattle.machine.proofs.Offers.{no_owner, owner_given, owner_inside, not-first, gives_more, gives_none}
use Rattle.machine.proofs.Serving.{answered, unread, ungiven, one_value, unknown, standing, none_standing}
use Rattle.machine.proofs.memory.Memory.enq_call.Goals as goal

pub returns-in_err-packet : goal.returns-in_err-packet
returns-in_err-packet g c t p fs d at =
    answered _ (state_of c.args.self.now (g.S.Store.meaning c.args.store.now)) t d _ c.from_residual.result c.from_residual.ensures
    (unread c.args.self.now.code (state_of c.args.self.now (g.S.Store.meaning c.args.store.now)) t p _ c.args.top.now c.args.arguments fs at c.in_err-packet.ensures.0 (packet ∷ []) [] (standing ((packet ∷ []) ⇒ []) c.fills.ensures c.if-not-fills.false) c.in_err-packet.ensures.1)

pub returns-in_err-variable : goal.returns-in_err-variable
returns-in_err-variable g c t p fs d at =
    let (as', stop, k, read, count, v, long) = c.in_ok-packet.ensures in
    answered _ (state_of c.args.self.now (g.S.Store.meaning c.args.store.now)) t d _ c.from_residual-in_err-variable.result c.from_residual-in_err-variable.ensures
    (ungiven c.args.self.now.code (state_of c.args.self.now (g.S.Store.meaning c.args.store.now)) t p _ c.args.top.now c.args.arguments fs at c.in_err-variable.ensures.stuck (packet ∷ []) [] (standing ((packet ∷ []) ⇒ []) c.fills.ensures c.if-not-fills.false) 1 _ c.in_ok-packet.next c.in_ok-packet.ensures (λ bs w us. not-first bs (w ∙ one_value _ _ long) (no_owner c.in_err-variable.ensures.finds)))

pub returns-then-not-fills : goal.returns-then-not-fills
returns-then-not-fills g c t p fs d at =
    unknown c.args.self.now.code (state_of c.args.self.now (g.S.Store.meaning c.args.store.now)) t p _ c.args.top.now c.args.arguments fs at refl (none_standing ((packet ∷ []) ⇒ []) c.fills.ensures c.if-not-fills.true)

pub returns : goal.returns
returns g c t p fs d at =
    let (as', stop, k, read, count, v, long) = c.in_ok-packet.ensures in
    let vs = items c.args.top.now.variables in
    let owned = (c.in_ok-variable.ensures.finds _ _).1 refl in
    c.spend.ensures c.args.self.now.code (state_of c.args.self.now (g.S.Store.meaning c.args.store.now)) t p k c.args.top.now (Enq c.args.queue) as' fs (packet ∷ []) [] (owner c.in_ok-variable.name ∷ []) d
    (at_call c.args.self.now.code (state_of c.args.self.now (g.S.Store.meaning c.args.store.now)) t p _ c.args.top.now fs _ at read count) (λ g e. absurd (cc)) (standing ((packet ∷ []) ⇒ []) c.fills.ensures c.if-not-fills.false) (owner_inside vs _ owned.1)
    (gives_more as' (v ∙ one_value _ _ long) (owner_given vs _ owned) gives_none) (c.put.ensures _ t _ _ (standing ((packet ∷ []) ⇒ []) c.fills.ensures c.if-not-fills.false))
