use Rattle.std.proofs.Common.{◌≡◌, ◌-◌, ◌++◌, length}
use Rattle.rows.specs.Rows.{items}
use Rattle.records.specs.Glances.{starts}
use Rattle.records.proofs.tables.making.places.Given as goal

abbrev pub invariant-loop : goal.invariant-loop
invariant-loop l =
    (items l.places ++ starts l.program (length l.program) (l.count - l.counter) l.place ≡ starts l.program (length l.program) l.count 6)
    × (length (items l.places) ≡ l.counter)
