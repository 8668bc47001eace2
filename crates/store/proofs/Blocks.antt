-- The bytes of one block, as memory changes in another or in itself.
use Rattle.std.proofs.Common.{◌≡◌, ℕ, zero, suc, ◌+◌, ◌-◌, ◌*◌, ◌<◌, ◌≤◌, min, ◌≢◌, ◌⊎◌, List, [], ◌∷◌, ◌++◌, length, get_or, take, drop, set, sym, refl, ap, ◌∙◌, subst, inl, inr, mul-le-mul_left, mul-add, arith, length-drop, length-set, length-take, length-take-le, get_or-drop, get_or-set_other, get_or-take, get_or-set_same, take-take, take_at, drop_at, rules}
use borrow.Rule.Slice.PartMut.{put_mid, post_of}
use Rattle.std.proofs.lemmas.List.{same_lists, places}
use Rattle.std.proofs.lemmas.Slice.{overwrites}
use Rattle.std.proofs.lemmas.Bool.{cases_eq, cases_lt}
use Rattle.store.specs.Blocks.{block}

pub take-set : (n k b : ℕ) (xs : List ℕ) → take n (set xs k b) ≡ set (take n xs) k b
take-set zero k b xs = refl
take-set (suc n) k b [] = refl
take-set (suc n) zero b (x ∷ xs) = refl
take-set (suc n) (suc k) b (x ∷ xs) = ap (λ (r : List ℕ). x ∷ r) (take-set n k b xs)

module _ (w : ℕ) where
  -- a place of one block lies in no earlier and in no later one
  before : (i j : ℕ) → i < j → w * i + w ≤ w * j
  before i j h = let a = mul-le-mul_left {m = i + 1} {n = j} w (omega arith) in let b = mul-add w i 1 in omega arith

  pub outside : (i j k : ℕ) → j ≢ i → k < w → w * i ≤ w * j + k → w * j + k < w * i + w → ⊥
  outside i j k n h a b = go (cases_lt i j)
    where
      go : (i < j) ⊎ (j ≤ i) → ⊥
      go (inl c) = let d = before i j c in omega arith
      go (inr c) = let e : j < i = omega arith in let d = before j i e in omega arith

  length-block : (i : ℕ) (memory : List ℕ) → length (block w i memory) ≤ w
  length-block i memory = simp length-take (omega arith)

  -- memory that differs in block i alone
  block_apart : (i j : ℕ) (memory changed : List ℕ) → length changed ≡ length memory
      → ((p d : ℕ) → (w * i ≤ p → p < w * i + w → ⊥) → get_or changed p d ≡ get_or memory p d) → j ≢ i → block w j changed ≡ block w j memory
  block_apart i j memory changed len agree apart =
      same_lists (block w j changed) (block w j memory) (simp (length-take, length-drop) (ap (λ n. min w n) (omega arith)))
      λ k d h.
      let b = length-block j changed in
      let s : k < w = omega arith in
      get_or-take w (drop (w * j) changed) k d s
      ∙ get_or-drop (w * j) changed k d
      ∙ agree (w * j + k) d (outside i j k apart s)
      ∙ sym (get_or-drop (w * j) memory k d)
      ∙ sym (get_or-take w (drop (w * j) memory) k d s)

  -- ---- a byte is written
  pub block-set : (i off b : ℕ) (memory : List ℕ) → off < w → block w i (set memory (w * i + off) b) ≡ set (block w i memory) off b
  block-set i off b memory h =
      same_lists _ _ len
      λ k d g.
      let c = length-block i (set memory (w * i + off) b) in
      let s : k < w = omega arith in
      get_or-take w (drop (w * i) (set memory (w * i + off) b)) k d s
      ∙ get_or-drop (w * i) (set memory (w * i + off) b) k d
      ∙ at k d g (cases_eq k off)
    where
      len : length (block w i (set memory (w * i + off) b)) ≡ length (set (block w i memory) off b)
      len = simp (length-set, length-take, length-drop)

      at : (k d : ℕ) → k < length (block w i (set memory (w * i + off) b)) → (k ≡ off) ⊎ (k ≡ off → ⊥)
          → get_or (set memory (w * i + off) b) (w * i + k) d ≡ get_or (set (block w i memory) off b) k d
      at k d g (inl v) =
          let e : length (block w i (set memory (w * i + off) b)) ≡ min w (length memory - w * i) = simp (length-take, length-drop, length-set) in
          let f : length (block w i memory) ≡ min w (length memory - w * i) = simp (length-take, length-drop) in
          let l : w * i + off < length memory = omega arith in
          let r : off < length (block w i memory) = omega arith in
          subst (λ (n : ℕ). get_or (set memory (w * i + off) b) (w * i + n) d ≡ get_or (set (block w i memory) off b) n d) (sym v)
          (get_or-set_same memory (w * i + off) b d l ∙ sym (get_or-set_same (block w i memory) off b d r))
      at k d g (inr n) =
          let c = length-block i (set memory (w * i + off) b) in
          get_or-set_other memory (w * i + off) (w * i + k) b d (λ v. n (omega arith))
          ∙ sym (get_or-drop (w * i) memory k d)
          ∙ sym (get_or-take w (drop (w * i) memory) k d (omega arith))
          ∙ sym (get_or-set_other (block w i memory) off k b d n)

  pub others-set : (i off b : ℕ) (memory : List ℕ) → off < w → (j : ℕ) → j ≢ i → block w j (set memory (w * i + off) b) ≡ block w j memory
  others-set i off b memory h j n =
      block_apart i j memory (set memory (w * i + off) b) (length-set memory (w * i + off) b)
      (λ p d out. get_or-set_other memory (w * i + off) p b d (λ v. out (omega arith) (omega arith))) n

  -- ---- the front of a block is filled
  pub others_put : (i k : ℕ) (memory ys : List ℕ) → k ≤ w → length ys ≡ k → w * i + k ≤ length memory → (j : ℕ) → j ≢ i → block w j (put_mid (w * i) k memory ys) ≡ block w j memory
  others_put i k memory ys h e f j n =
      block_apart i j memory (put_mid (w * i) k memory ys) (search (rules, overwrites, places)) (λ p d out. let c = cases_lt p (w * i) in grind (arith, places)) n

  pub block-put : (i k : ℕ) (memory ys : List ℕ) → k ≤ w → length ys ≡ k → w * i + k ≤ length memory → take k (block w i (put_mid (w * i) k memory ys)) ≡ ys
  block-put i k memory ys h e f =
      take-take k w (drop (w * i) (put_mid (w * i) k memory ys)) h
      ∙ ap (take k) (drop_at (take (w * i) memory) (ys ++ post_of (w * i) k memory) (w * i) (length-take-le (w * i) memory (omega arith)))
      ∙ take_at ys (post_of (w * i) k memory) k e
