use Rattle.std.proofs.Common.{◌≡◌, map, take}
use Rattle.rows.specs.Rows.{items}
use Rattle.records.specs.Tables.{ForProgram}
use Rattle.code.specs.Copies.{function_of}
use Rattle.code.proofs.copies.making.functions.Given as goal

abbrev pub invariant-loop-number : goal.invariant-loop-number
invariant-loop-number l = ForProgram l.fn.table (λ P. map (function_of l.fn.table.program.now) (items l.functions) ≡ take l.number P.functions)
