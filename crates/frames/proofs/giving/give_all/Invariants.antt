use Rattle.std.proofs.Common.{◌≡◌, List, ◌++◌, length, drop}
use Rattle.rows.specs.Rows.{items}
use Rattle.rules.specs.declared.held.Held.{Held}
use Rattle.code.specs.Copies.{bytes_of}
use Rattle.frames.proofs.Lists.{Giving}
use Rattle.frames.proofs.giving.give_all.Given as goal

-- a value was given for each type that the loop has passed, and what they gave joined the rest
abbrev pub invariant-loop-ty : goal.invariant-loop-ty
invariant-loop-ty l =
    (xs : List Held)
    × Giving (bytes_of l.code) (items l.initial.variables) l.fn.values (items l.types) (items l.variables) l.place (drop l.ty-index (items l.types)) xs
    × (items l.given ≡ items l.initial.given ++ xs)
    × (length xs ≡ l.ty-index)
