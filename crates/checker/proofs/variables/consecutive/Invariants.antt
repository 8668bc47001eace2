use Rattle.std.proofs.Common.{◌≡◌, ◌-◌}
use Rattle.reader.specs.Fields.{read_in, values_at}
use Rattle.checker.specs.Walks.{in_row}
use Rattle.checker.proofs.variables.consecutive.Given as goal

abbrev pub invariant-loop-number : goal.invariant-loop-number
invariant-loop-number l =
    in_row l.number (l.number-end - l.number) (read_in l.fn.window values_at (l.number-end - l.number) l.place)
    ≡ in_row l.fn.first l.fn.values.count (read_in l.fn.window values_at l.fn.values.count l.fn.values.place)
