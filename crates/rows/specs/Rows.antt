-- The values of a row, as a list.
use Rattle.std.specs.Prelude.{ℕ, List, take}
use Rattle.rows.specs.declared.row.Row.{Row}

abbrev pub items : {T : Type 0} {n : ℕ} → Row T n → List T
items r = take r.len r.items
