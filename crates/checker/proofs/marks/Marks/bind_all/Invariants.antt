use Rattle.std.proofs.Common.{◌≡◌, ◌++◌, map, take, Some}
use Rattle.rows.specs.Rows.{items}
use Rattle.checker.specs.Walks.{context}
use Rattle.checker.proofs.marks.Marks.bind_all.Given as goal

abbrev pub invariant-loop-ty : goal.invariant-loop-ty
invariant-loop-ty l = context l.self ≡ context l.initial.self ++ map Some (take l.ty-index (items l.types))
