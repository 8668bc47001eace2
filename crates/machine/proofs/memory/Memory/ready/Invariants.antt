use Rattle.std.proofs.Common.{◌≢◌, ℕ, ◌≤◌, ◌<◌}
use Rattle.rules.specs.declared.outcomes.Outcome.{Outcome as Came}
use Rattle.rules.specs.declared.outcomes.Outcome.TheVariants as outcome
use Rattle.rules.specs.Rules.{Step}
use Rattle.machine.specs.States.{state_of}
use Rattle.machine.proofs.memory.Memory.ready.Given as goal

-- none of the threads before would advance
abbrev pub invariant-loop-thread : goal.invariant-loop-thread
invariant-loop-thread g l =
    let s = state_of l.self (g.S.Store.meaning l.store) in
    record {
      from : 1 ≤ l.thread;
      tried : (t : ℕ) → 1 ≤ t → t < l.thread → (a : Came) × (a ≢ outcome.Advanced) × Step s t a s;
    }
