use Rattle.std.proofs.Common.{◌≡◌, ℕ, List, length, Result}
use Rattle.reader.specs.declared.faults.Fault.{Fault}
use Rattle.reader.specs.Syntax.{Function}
use Rattle.checker.specs.Walks.{Answers}
use Rattle.checker.proofs.Each.{Led}
use Rattle.checker.proofs.layers.each.Given as goal

abbrev pub invariant-loop-function : goal.invariant-loop-function
invariant-loop-function g l =
    (asks : ℕ → Function → Result (Unit {0}) Fault) (Fs : List Function) → length Fs ≡ l.functions → Answers (goal.A-post g l.ask) asks Fs → Led asks Fs l.function
