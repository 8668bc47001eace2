use Rattle.std.proofs.Common.{refl, ◌∙◌, sym}
use Rattle.rules.specs.Calls.{step, denies, step_first, no_thread, steps}
use Rattle.machine.proofs.Decides.{false_not_true}
use Rattle.machine.proofs.Machines.{led-loaded, led-fit, led-on, led-promised, stays-unloaded, goes-loaded}
use Rattle.machine.proofs.machine.Machine.step.Goals as goal

pub returns-in_default-clause-does : goal.returns-in_default-clause-does
returns-in_default-clause-does g c = stays-unloaded (step c.args.thread) _ c.in_default.is (denies step_first refl)

pub returns-then-not-has_thread-clause-does : goal.returns-then-not-has_thread-clause-does
returns-then-not-has_thread-clause-does g c =
    goes-loaded (step c.args.thread) _ c.in-Some.is
    (denies (no_thread (λ from to. false_not_true (sym c.if-not-has_thread.true ∙ c.has_thread.ensures.1 (from, to)))) refl)

pub returns-then-not-has_thread-clause-promise : goal.returns-then-not-has_thread-clause-promise
returns-then-not-has_thread-clause-promise g c = led-promised _ (led-loaded c.args.self.now.reached c.in-Some.is)

pub step-requires : goal.step-requires
step-requires g c =
    let there = c.has_thread.ensures.0 c.if-not-has_thread.false in
    led-fit _ c.args.thread (led-loaded c.args.self.now.reached c.in-Some.is) there.0 there.1

pub invariant_of-self-2 : goal.invariant_of-self-2
invariant_of-self-2 g c =
    let there = c.has_thread.ensures.0 c.if-not-has_thread.false in
    record { reached = led-on (led-loaded c.args.self.now.reached c.in-Some.is) (steps there.0 there.1 c.step.ensures) }

pub returns-clause-does : goal.returns-clause-does
returns-clause-does g c =
    let there = c.has_thread.ensures.0 c.if-not-has_thread.false in
    goes-loaded (step c.args.thread) _ c.in-Some.is (steps there.0 there.1 c.step.ensures)

pub returns-clause-promise : goal.returns-clause-promise
returns-clause-promise g c =
    let there = c.has_thread.ensures.0 c.if-not-has_thread.false in
    led-promised _ (led-on (led-loaded c.args.self.now.reached c.in-Some.is) (steps there.0 there.1 c.step.ensures))
