-- Bytes that stand in other bytes.
use Rattle.std.proofs.Common.{◌≡◌, ℕ, zero, suc, ◌+◌, ◌<◌, List, [], ◌∷◌, ◌++◌, length, get_or, take, drop, refl, sym, ap, ◌∙◌, subst, arith}
use Rattle.reader.specs.Spans.{Span}
use Rattle.std.proofs.lemmas.List.{ext_get_or, get_or-take, get_or-drop}
use Rattle.std.specs.Int.{w32, from_be_bytes}
use Rattle.std.specs.Prelude.{slice_index}
use Rattle.reader.specs.Fields.{word}

module _ (b : List ℕ) where
  pub span-end : (p z : ℕ) (xs : List ℕ) → Span b p z xs → z ≡ p + length xs
  span-end p z [] s = omega arith
  span-end p z (x ∷ xs) s = omega (arith, span-end (p + 1) z xs s.1)

  pub span_join : (p q z : ℕ) (xs ys : List ℕ) → Span b p q xs → Span b q z ys → Span b p z (xs ++ ys)
  span_join p q z [] ys s t = subst (λ x. Span b x z ys) s t
  span_join p q z (x ∷ xs) ys s t = (s.0, span_join (p + 1) q z xs ys s.1 t)

  pub span-first : (p z : ℕ) (xs ys : List ℕ) → Span b p z (xs ++ ys) → Span b p (p + length xs) xs
  span-first p z [] ys s = omega arith
  span-first p z (x ∷ xs) ys s = (s.0, subst (λ w. Span b (p + 1) w xs) (omega arith) (span-first (p + 1) z xs ys s.1))

  pub span_second : (p z : ℕ) (xs ys : List ℕ) → Span b p z (xs ++ ys) → Span b (p + length xs) z ys
  span_second p z [] ys s = subst (λ w. Span b w z ys) (omega arith) s
  span_second p z (x ∷ xs) ys s = subst (λ w. Span b w z ys) (omega arith) (span_second (p + 1) z xs ys s.1)

  span-at : (p z k : ℕ) (xs : List ℕ) → Span b p z xs → k < length xs → get_or b (p + k) 0 ≡ get_or xs k 0
  span-at p z k [] s l = absurd (omega arith)
  span-at p z zero (x ∷ xs) s l = ap (λ i. get_or b i 0) (omega arith) ∙ s.0
  span-at p z (suc k) (x ∷ xs) s l = ap (λ i. get_or b i 0) (omega arith) ∙ span-at (p + 1) z k xs s.1 (omega arith)

  -- what spans all bytes is these bytes
  pub span-whole : (xs : List ℕ) → Span b 0 (length b) xs → xs ≡ b
  span-whole xs s =
      let n = span-end 0 (length b) xs s in
      ext_get_or 0 xs b (omega arith) (λ k l. sym (span-at 0 (length b) k xs s l) ∙ ap (λ i. get_or b i 0) (omega arith))

  span_of : (p z : ℕ) (xs : List ℕ) → z ≡ p + length xs → ((k : ℕ) → k < length xs → get_or b (p + k) 0 ≡ get_or xs k 0) → Span b p z xs
  span_of p z [] l h = omega arith
  span_of p z (x ∷ xs) l h = (ap (λ i. get_or b i 0) (omega arith) ∙ h 0 (omega arith), span_of (p + 1) z xs (omega arith) (λ k m. ap (λ i. get_or b i 0) (omega arith) ∙ h (suc k) (omega arith)))

  pub span_same : Span b 0 (length b) b
  span_same = span_of 0 (length b) b (omega arith) (λ k l. ap (λ i. get_or b i 0) (omega arith))

-- the number that four bytes write down
pub word_of : (b : List ℕ) (p : ℕ) → from_be_bytes w32 (take 4 (drop p b)) ≡ word b p
word_of b p = omega (arith, at 0 p (omega arith) (omega arith), at 1 _ (omega arith) refl, at 2 _ (omega arith) refl, at 3 _ (omega arith) refl)
  where
    at : (i q : ℕ) → i < 4 → p + i ≡ q → slice_index (take 4 (drop p b)) i ≡ slice_index b q
    at i q l e = get_or-take 4 (drop p b) i 0 l ∙ get_or-drop p b i 0 ∙ ap (slice_index b) e
