use Rattle.std.proofs.Common.{◌≡◌, take}
use Rattle.rows.specs.Rows.{items}
use Rattle.records.proofs.callees.calls.row.Given as goal

abbrev pub invariant-loop-ty : goal.invariant-loop-ty
invariant-loop-ty l = items l.row ≡ take l.ty-index l.types
