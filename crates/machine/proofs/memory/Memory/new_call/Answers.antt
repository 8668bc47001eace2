use Rattle.std.proofs.Common.{◌∙◌, [], ◌∷◌, refl}
use Rattle.reader.specs.declared.operations.Operation.TheVariants.{New}
use Rattle.rows.specs.Rows.{items}
use Rattle.rules.specs.declared.held.Held.TheVariants.{Integer as integer}
use Rattle.typing.specs.Signatures.{int, packet}
use Rattle.machine.specs.States.{state_of}
use Rattle.machine.proofs.Decides.{at_call}
use Rattle.machine.proofs.Offers.{no_integer, integer_given, not-first, gives_more, gives_none}
use Rattle.machine.proofs.Serving.{answered, unread, ungiven, one_value}
use Rattle.machine.proofs.memory.Memory.new_call.Goals as goal

pub returns-in_err-size : goal.returns-in_err-size
returns-in_err-size g c p fs d at =
    answered _ (state_of c.args.self.now (g.S.Store.meaning c.args.store.now)) c.args.thread d _ c.from_residual.result c.from_residual.ensures
    (unread c.args.self.now.code (state_of c.args.self.now (g.S.Store.meaning c.args.store.now)) c.args.thread p _ c.args.top.now c.args.arguments fs at c.in_err-size.ensures.0 (int ∷ []) (packet ∷ []) refl c.in_err-size.ensures.1)

pub returns-in_err-size-2 : goal.returns-in_err-size-2
returns-in_err-size-2 g c p fs d at =
    let (as', stop, k, read, count, v, long) = c.in_ok-size.ensures in
    answered _ (state_of c.args.self.now (g.S.Store.meaning c.args.store.now)) c.args.thread d _ c.from_residual-in_err-size-2.result c.from_residual-in_err-size-2.ensures
    (ungiven c.args.self.now.code (state_of c.args.self.now (g.S.Store.meaning c.args.store.now)) c.args.thread p _ c.args.top.now c.args.arguments fs at c.in_err-size-2.ensures.stuck (int ∷ []) (packet ∷ []) refl 1 _ c.in_ok-size.next c.in_ok-size.ensures (λ bs w us. not-first bs (w ∙ one_value _ _ long) (no_integer c.in_err-size-2.ensures.finds)))

pub returns : goal.returns
returns g c p fs d at =
    let (as', stop, k, read, count, v, long) = c.in_ok-size.ensures in
    c.bind.ensures c.args.self.now.code (state_of c.args.self.now (g.S.Store.meaning c.args.store.now)) c.args.thread p k c.args.top.now New as' fs (int ∷ []) (packet ∷ []) (integer c.in_ok-size-2.size ∷ []) d
    (at_call c.args.self.now.code (state_of c.args.self.now (g.S.Store.meaning c.args.store.now)) c.args.thread p _ c.args.top.now fs _ at read count) (λ g e. absurd (cc)) refl
    (gives_more as' (v ∙ one_value _ _ long) (integer_given (items c.args.top.now.variables) _ ((c.in_ok-size-2.ensures.finds _).1 refl)) gives_none) c.new_packet.ensures
