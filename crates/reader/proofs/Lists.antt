-- Values in a row: one more, and how many.
use Rattle.std.proofs.Common.{◌≡◌, ℕ, zero, suc, ◌+◌, ◌<◌, ◌≤◌, ◌&&◌, leb, List, ◌∷◌, length, get_or, IfOk, Ok, Err, sym, refl, ap, ◌∙◌, arith}
use Rattle.std.proofs.lemmas.Result.{IfOk-weaker}
use Rattle.std.proofs.lemmas.Bool.Decides.{nat_tests}
use Rattle.reader.specs.declared.values.Operand.{Operand}
use Rattle.reader.specs.declared.questions.Question.{Question}
use Rattle.reader.specs.Fields.{Read, then, byte_at, range_at, count_at, value_at, values_at, list_at, Onward, placed, listed, skipped}
use Rattle.reader.proofs.Skips.{row_skipped}
use Rattle.reader.proofs.Results.{made_any, made_then, then_ok, pass_ok, ok_same, go}

module _ (b : List ℕ) (e f : ℕ) where
  pub values_skipped : (n p : ℕ) → skipped (value_at b e f) n p ≡ placed (values_at b e f n p)
  values_skipped = row_skipped (value_at b e f) (values_at b e f) (λ p v vs. record { place = p; value = v } ∷ vs) (λ p. refl) (λ n p. refl)

  -- values end no earlier than they begin, and inside
  values-onward : (n p : ℕ) → p ≤ e → IfOk (values_at b e f n p) (λ x. (p ≤ x.1) × (x.1 ≤ e))
  values-onward zero p h = (omega arith, omega arith)
  values-onward (suc n) p h =
      made_then (value_at b e f p) (λ v. (p < v.1) × (v.1 ≤ e)) (λ x. (p ≤ x.1) × (x.1 ≤ e)) _ (value-onward p) λ v h.
      made_then (values_at b e f n v.1) (λ x. (v.1 ≤ x.1) × (x.1 ≤ e)) (λ x. (p ≤ x.1) × (x.1 ≤ e)) _ (values-onward n v.1 h.1) λ x k. (omega arith, omega arith)
    where
      value-onward : (p : ℕ) → Onward p e (value_at b e f p)
      value-onward p = grind (arith, nat_tests)

  pub list_onward : (p : ℕ) → Onward p e (listed p (list_at b e f p))
  list_onward p =
      onward p (list_at b e f p)
      (made_then (count_at b e f p) (λ v. (p < v.1) × (v.1 ≤ e)) (λ x. (p < x.1) × (x.1 ≤ e)) (λ n. values_at b e f n.0 n.1) (count-onward p) λ v h.
      IfOk-weaker (values_at b e f v.0 v.1) (λ x. (v.1 ≤ x.1) × (x.1 ≤ e)) (λ x. (p < x.1) × (x.1 ≤ e)) (λ x k. (omega arith, omega arith)) (values-onward v.0 v.1 h.1))
    where
      count-onward : (p : ℕ) → Onward p e (count_at b e f p)
      count-onward p = grind (arith, nat_tests)

      onward : (p : ℕ) (r : Read (List Operand)) → Onward p e r → Onward p e (listed p r)
      onward p (Ok x) h = h
      onward p (Err x) h = tt

  -- as many as were asked for
  pub values-long : (n p : ℕ) → IfOk (values_at b e f n p) (λ x. length x.0 ≡ n)
  values-long zero p = refl
  values-long (suc n) p =
      made_then (value_at b e f p) (λ _. Unit {0}) (λ x. length x.0 ≡ suc n) _ (made_any (value_at b e f p)) λ v h.
      made_then (values_at b e f n v.1) (λ x. length x.0 ≡ n) (λ x. length x.0 ≡ suc n) _ (values-long n v.1) λ x k. ap suc k

-- a list whose values were passed over, as the place where they stand
pub listed_at : (n p : ℕ) (r : Read (List Operand)) → IfOk r (λ x. length x.0 ≡ n) → listed p r ≡ then (placed r) (λ z. Ok (record { count = n; place = p + 1 }, z))
listed_at n p (Ok x) h = ap (λ m. Ok (record { count = m; place = p + 1 }, x.1)) h
listed_at n p (Err x) h = refl

module _ (b : List ℕ) (e f : ℕ) where
  pub byte_after : (p : ℕ) (x : ℕ × ℕ) → byte_at b e f p ≡ Ok x → x.1 ≡ p + 1
  byte_after p x h = sym (ap (λ y. y.1) (ok_same (get_or b p 0, p + 1) x (pass_ok (leb (p + 1) e) _ _ x h).1))

  pub range_after : (k : Question) (low high p : ℕ) (x : ℕ × ℕ) → range_at k low high b e f p ≡ Ok x → x.1 ≡ p + 1
  range_after k low high p x h =
      let n = then_ok (byte_at b e f p) _ x h in
      let j = pass_ok (leb low n.0.0 && leb n.0.0 high) _ _ x n.2 in
      sym (ap (λ y. y.1) (ok_same n.0 x j.1)) ∙ byte_after p n.0 n.1

  -- the count, and its values skipped
  pub list_is : (p n z : ℕ) → Ok (n, z) ≡ count_at b e f p
      → listed p (list_at b e f p) ≡ then (skipped (value_at b e f) n z) (λ y. Ok (record { count = n; place = z }, y))
  list_is p n z h =
      ap (listed p) (go (λ x. values_at b e f x.0 x.1) (sym h) refl)
      ∙ listed_at n p (values_at b e f n z) (values-long b e f n z)
      ∙ (λ i. then (sym (values_skipped b e f n z) i) (λ y. Ok (record { count = n; place = sym (range_after _ 0 8 p (n, z) (sym h)) i }, y)))

  pub list_stands : (p n z y : ℕ) → Ok (n, z) ≡ count_at b e f p → Ok y ≡ skipped (value_at b e f) n z
      → Ok (record { count = n; place = z }, y) ≡ listed p (list_at b e f p)
  list_stands p n z y h k = ap (λ r. then r (λ w. Ok (record { count = n; place = z }, w))) k ∙ sym (list_is p n z h)
