use Rattle.std.proofs.Common.{◌≤◌, List, [], length, drop}
use Rattle.reader.specs.declared.values.Operand.{Operand}
use Rattle.rows.specs.Rows.{items}
use Rattle.typing.specs.Marks.{gives}
use Rattle.checker.specs.Walks.{context, Holds}
use Rattle.checker.proofs.Giving.{Giving}
use Rattle.checker.proofs.walks.Walk.give_all.Given as goal

abbrev pub invariant-loop-ty : goal.invariant-loop-ty
invariant-loop-ty l =
    ((vs : List Operand) → Holds l.self.window l.fn.values vs
    → Giving l.self.window (context l.marks) (items l.named) l.place (drop l.ty-index (items l.wanted)) (gives l.self.window.function (context l.initial.marks) [] vs (items l.wanted)))
    × (length (items l.named) ≤ l.ty-index)
