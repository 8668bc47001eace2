-- Items in a row, skipped one after another.
use Rattle.std.proofs.Common.{List, [], ◌≡◌, ℕ, zero, suc, ◌+◌, ◌-◌, ◌<◌, Ok, ap, ◌∙◌, sym, arith}
use Rattle.std.specs.Borrow.{Bor}
use Rattle.reader.specs.declared.windows.Window.{Window}
use Rattle.reader.specs.Fields.{Read, then, placed, ReadsAs, skipped}
use Rattle.reader.proofs.Results.{then_ext, placed-then, then-place}

-- skipping m items from q on comes to skipping n items from p on
abbrev pub Left : {X : Type 0} → (Bor Window → ℕ → Read X → Type 0) → Window → (m q n p : ℕ) → Type 0
Left {X} reads w m q n p = (one : ℕ → Read X) → ReadsAs reads w one → skipped one m q ≡ skipped one n p

-- one item less is left after one more
pub skipped_more : {X : Type 0} (one : ℕ → Read X) (n i p : ℕ) → i < n → skipped one (n - i) p ≡ then (one p) (λ x. skipped one (n - (i + 1)) x.1)
skipped_more one n i p h = let s : n - i ≡ suc (n - (i + 1)) = omega arith in ap (λ k. skipped one k p) s

-- the place after a row, where the row is read item by item
pub row_skipped : {X Y : Type 0} (one : ℕ → Read X) (row : ℕ → ℕ → Read (List Y)) (add : ℕ → X → List Y → List Y)
    → ((p : ℕ) → row 0 p ≡ Ok ([], p)) → ((n p : ℕ) → row (suc n) p ≡ then (one p) (λ x. then (row n x.1) (λ ys. Ok (add p x.0 ys.0, ys.1))))
    → (n p : ℕ) → skipped one n p ≡ placed (row n p)
row_skipped one row add none more zero p = ap placed (sym (none p))
row_skipped one row add none more (suc n) p =
    then_ext (one p) _ _ (λ x. row_skipped one row add none more n x.1 ∙ sym (placed-then (row n x.1) _ ∙ then-place (row n x.1)))
    ∙ sym (ap placed (more n p) ∙ placed-then (one p) _)
