use Rattle.std.proofs.Common.{sym, refl, subst}
use Rattle.rules.specs.State.{State}
use Rattle.rules.specs.Rules.{Step}
use Rattle.rules.specs.declared.outcomes.Outcome.TheVariants.{Advanced}
use Rattle.rules.proofs.Steps.{advanced_by}
use Rattle.machine.specs.States.{state_of}
use Rattle.machine.proofs.memory.Memory.step.Goals as goal

pub returns-in-Ok : goal.returns-in-Ok
returns-in-Ok g c =
    let s = state_of c.args.self.now (g.S.Store.meaning c.args.store.now) in
    subst (λ (x : State). Step s c.args.thread Advanced x) (sym c.perform.ensures.state) (advanced_by s c.args.thread refl c.in-Ok.ensures.0)
