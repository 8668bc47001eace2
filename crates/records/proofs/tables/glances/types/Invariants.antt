use Rattle.std.proofs.Common.{◌≡◌, ◌-◌, length}
use Rattle.reader.specs.Fields.{read_in}
use Rattle.reader.specs.Programs.{types_at}
use Rattle.rows.specs.Rows.{items}
use Rattle.records.proofs.Growing.{joined}
use Rattle.records.proofs.tables.glances.types.Given as goal

abbrev pub invariant-loop : goal.invariant-loop
invariant-loop l =
    (joined (items l.types) (read_in l.window types_at (l.count - l.counter) l.next) ≡ read_in l.window types_at l.count l.place)
    × (length (items l.types) ≡ l.counter)
