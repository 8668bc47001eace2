use Rattle.std.specs.List.{copy_within}
use Rattle.std.proofs.Common.{◌≡◌, ℕ, zero, suc, ◌-◌, ◌≤◌, List, [], ◌∷◌, length, take, slice_get, Some, arith}
use Rattle.std.proofs.lemmas.Grind.{common_steps}
use Rattle.rows.proofs.row.Row.remove_first.Goals as goal

-- the first n, after those behind the first of them moved up by one
moved : {A : Type 0} (xs ys : List A) (n : ℕ) (x : A) → n ≤ length xs → Some x ≡ slice_get (take n xs) 0 → ys ≡ copy_within xs 1 n 0 → take n xs ≡ x ∷ take (n - 1) ys
moved xs ys zero x within got after = cc
moved [] ys (suc n) x within got after = absurd (omega arith)
moved (z ∷ xs) ys (suc n) x within got after = grind (arith, common_steps)

pub returns-clause-first : goal.returns-clause-first
returns-clause-first g c = moved _ _ c.args.self.now.len c.in_ok-first.first (omega arith) c.in_ok-first.ensures c.copy_within.ensures.after
