use Rattle.std.proofs.Common.{◌-◌}
use Rattle.reader.proofs.Skips.{Left}
use Rattle.reader.proofs.windows.Window.skip.Given as goal

abbrev pub invariant-loop : goal.invariant-loop
invariant-loop g l = Left (goal.F-post g l.item) l.self (l.count - l.counter) l.next l.count l.place
