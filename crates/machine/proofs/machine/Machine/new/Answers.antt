use Rattle.rules.specs.Calls.{at_first}
use Rattle.machine.proofs.machine.Machine.new.Goals as goal

pub invariant_of-result : goal.invariant_of-result
invariant_of-result g c = record { reached = ∣ at_first c.used-used.ensures.least ∣₁ }
