use Rattle.std.proofs.Common.{◌∙◌, [], ◌∷◌, refl}
use Rattle.reader.specs.declared.operations.Operation.TheVariants.{Deq}
use Rattle.typing.specs.Signatures.{packet, ◌⇒◌}
use Rattle.machine.specs.States.{state_of}
use Rattle.machine.proofs.Decides.{at_call}
use Rattle.machine.proofs.Offers.{gives_none}
use Rattle.machine.proofs.Serving.{answered, unread, no_value, unknown, standing, none_standing}
use Rattle.machine.proofs.memory.Memory.deq_call.Goals as goal

pub returns-then-not-empties : goal.returns-then-not-empties
returns-then-not-empties g c t p fs d at =
    unknown c.args.self.now.code (state_of c.args.self.now (g.S.Store.meaning c.args.store.now)) t p _ c.args.top.now c.args.arguments fs at refl (none_standing ([] ⇒ (packet ∷ [])) c.empties.ensures c.if-not-empties.true)

pub returns-in_err-next : goal.returns-in_err-next
returns-in_err-next g c t p fs d at =
    answered _ (state_of c.args.self.now (g.S.Store.meaning c.args.store.now)) t d _ c.from_residual.result c.from_residual.ensures
    (unread c.args.self.now.code (state_of c.args.self.now (g.S.Store.meaning c.args.store.now)) t p _ c.args.top.now c.args.arguments fs at c.in_err-next.ensures.0 [] (packet ∷ []) (standing ([] ⇒ (packet ∷ [])) c.empties.ensures c.if-not-empties.false) c.in_err-next.ensures.1)

pub returns : goal.returns
returns g c t p fs d at =
    let (as', stop, k, read, count, v, long) = c.in_ok-next.ensures in
    c.bind.ensures c.args.self.now.code (state_of c.args.self.now (g.S.Store.meaning c.args.store.now)) t p k c.args.top.now (Deq c.args.queue) as' fs [] (packet ∷ []) [] d
    (at_call c.args.self.now.code (state_of c.args.self.now (g.S.Store.meaning c.args.store.now)) t p _ c.args.top.now fs _ at read count) (λ g e. absurd (cc)) (standing ([] ⇒ (packet ∷ [])) c.empties.ensures c.if-not-empties.false)
    (gives_none as' (v ∙ no_value _ long)) (c.take.ensures t)
