-- A body is one node with what follows it, whatever is left of the record.
use Rattle.std.proofs.Common.{◌≡◌, ℕ, zero, suc, ◌+◌, ◌-◌, ◌<◌, ◌≤◌, Bool, true, false, eqb, leb, List, IfOk, Ok, sym, refl, ap, ◌∙◌, arith}
use Rattle.std.proofs.lemmas.Bool.{lt-leb}
use Rattle.std.proofs.lemmas.Result.{IfOk-weaker}
use Rattle.std.proofs.lemmas.Bool.Decides.{nat_tests}
use Rattle.reader.specs.declared.questions.Question.{Question}
use Rattle.reader.specs.declared.questions.Question.TheVariants as q
use Rattle.reader.specs.Fields.{Read, denied, then, field_at, byte_at, half_at, value_at, values_at, range_at, count_at, list_at}
use Rattle.reader.specs.Syntax.{Body, branch, call}
use Rattle.reader.specs.Nodes.{Head, returns, branches, calls, if_at, call_at, node_at, followed, body_by, body_at}
use Rattle.reader.proofs.Results.{made_then, then_same, choose_same}

-- what is read moves on
abbrev Moves : {X : Type 0} (p : ℕ) → Read X → Type 0
Moves p r = IfOk r (λ x. p < x.1)

choose_both : {X : Type 0} (P : X → Type 0) (t : Bool) (a b : X) → P a → P b → P (elim t [ true ↦ a | false ↦ b ])
choose_both P true a b p q = p
choose_both P false a b p q = q

module _ (b : List ℕ) (e f : ℕ) where
  field-moves : (w n p : ℕ) → 0 < w → Moves p (field_at w n e f p)
  field-moves w n p h = grind (arith, nat_tests)

  value-moves : (p : ℕ) → Moves p (value_at b e f p)
  value-moves p = grind (arith, nat_tests)

  range-moves : (k : Question) (low high p : ℕ) → Moves p (range_at k low high b e f p)
  range-moves k low high p = grind (arith, nat_tests)

  values-later : (n p : ℕ) → IfOk (values_at b e f n p) (λ x. p ≤ x.1)
  values-later zero p = omega arith
  values-later (suc n) p =
      made_then (value_at b e f p) (λ v. p < v.1) (λ x. p ≤ x.1) _ (value-moves p) λ v h.
      made_then (values_at b e f n v.1) (λ x. v.1 ≤ x.1) (λ x. p ≤ x.1) _ (values-later n v.1) λ x k. omega arith

  list-moves : (p : ℕ) → Moves p (list_at b e f p)
  list-moves p =
      made_then (count_at b e f p) (λ v. p < v.1) (λ x. p < x.1) (λ n. values_at b e f n.0 n.1) (range-moves q.ListLength 0 8 p) λ v h.
      IfOk-weaker (values_at b e f v.0 v.1) (λ x. v.1 ≤ x.1) (λ x. p < x.1) (λ x k. omega arith) (values-later v.0 v.1)

  call-moves : (p : ℕ) → Moves p (call_at b e f p)
  call-moves p =
      made_then (byte_at b e f p) (λ k. p < k.1) (λ x. p < x.1) _ (field-moves 1 _ p (omega arith)) λ k hk.
      made_then (byte_at b e f k.1) (λ i. k.1 < i.1) (λ x. p < x.1) _ (field-moves 1 _ k.1 (omega arith)) λ i hi.
      made_then (list_at b e f i.1) (λ a. i.1 < a.1) (λ x. p < x.1) _ (list-moves i.1) λ a ha.
      made_then (count_at b e f a.1) (λ n. a.1 < n.1) (λ x. p < x.1) _ (range-moves q.ListLength 0 8 a.1) λ n hn. omega arith

  if-moves : (ifs p z : ℕ) → Moves z (if_at b e f ifs p z)
  if-moves ifs p z =
      choose_both (Moves z) (leb 16 ifs) _ _ tt
      (made_then (value_at b e f z) (λ v. z < v.1) (λ x. z < x.1) _ (value-moves z) λ v hv.
      made_then (half_at b e f v.1) (λ n. v.1 < n.1) (λ x. z < x.1) _ (field-moves 2 _ v.1 (omega arith)) λ n hn. omega arith)

  pub node-moves : (ifs p : ℕ) → Moves p (node_at b e f ifs p)
  node-moves ifs p =
      made_then (byte_at b e f p) (λ t. p < t.1) (λ x. p < x.1) _ (field-moves 1 _ p (omega arith)) λ t ht.
      choose_both (Moves p) (eqb t.0 1) _ _ (made_then (list_at b e f t.1) (λ a. t.1 < a.1) (λ x. p < x.1) _ (list-moves t.1) (λ a h. omega arith))
      (choose_both (Moves p) (eqb t.0 2) _ _
      (IfOk-weaker (if_at b e f ifs p t.1) (λ x. t.1 < x.1) (λ x. p < x.1) (λ x k. omega arith) (if-moves ifs p t.1))
      (choose_both (Moves p) (eqb t.0 3) _ _
      (IfOk-weaker (call_at b e f t.1) (λ x. t.1 < x.1) (λ x. p < x.1) (λ x k. omega arith) (call-moves t.1))
      tt))

  -- what follows a node ends no earlier than it begins
  followed-later : (rest : ℕ → ℕ → Read Body) → ((i q : ℕ) → Moves q (rest i q)) → (ifs p z : ℕ) (h : Head) → IfOk (followed rest f ifs p h z) (λ x. z ≤ x.1)
  followed-later rest on ifs p z (returns vs) = omega arith
  followed-later rest on ifs p z (branches v field n) =
      made_then (rest (ifs + 1) z) (λ s. z < s.1) (λ x. z ≤ x.1) _ (on (ifs + 1) z) λ s hs.
      choose_both (λ r. IfOk r (λ x. z ≤ x.1)) (eqb (s.1 - z) n) _ _
      (made_then (rest (ifs + 1) s.1) (λ u. s.1 < u.1) (λ x. z ≤ x.1) _ (on (ifs + 1) s.1) (λ u hu. omega arith)) tt
  followed-later rest on ifs p z (calls o vs n) =
      made_then (rest ifs z) (λ r. z < r.1) (λ x. z ≤ x.1) _ (on ifs z) λ r hr. omega arith

  pub body-moves : (k ifs p : ℕ) → Moves p (body_by b e f k ifs p)
  unfolding body_by
  body-moves zero ifs p = tt
  body-moves (suc k) ifs p =
      made_then (node_at b e f ifs p) (λ h. p < h.1) (λ x. p < x.1) _ (node-moves ifs p) λ h hh.
      IfOk-weaker (followed (body_by b e f k) f ifs p h.0 h.1) (λ x. h.1 ≤ x.1) (λ x. p < x.1) (λ x l. omega arith) (followed-later (body_by b e f k) (body-moves k) ifs p h.1 h.0)

  -- what follows a node depends only on what is read from there on
  followed_same : (r s : ℕ → ℕ → Read Body) (ifs p z : ℕ) (h : Head) → ((i q : ℕ) → Moves q (r i q)) → ((i q : ℕ) → z ≤ q → r i q ≡ s i q)
      → followed r f ifs p h z ≡ followed s f ifs p h z
  followed_same r s ifs p z (returns vs) on same = refl
  followed_same r s ifs p z (branches v field n) on same =
      then_same (r (ifs + 1) z) (λ u. z < u.1) _ _ (on (ifs + 1) z) (λ u hu.
      choose_same (eqb (u.1 - z) n) _ _ _ _ (ap (λ x. then x (λ w. Ok (branch p v u.0 w.0, w.1))) (same (ifs + 1) u.1 (omega arith))) refl)
      ∙ ap (λ x. then x (λ u. elim (eqb (u.1 - z) n) [ true ↦ then (s (ifs + 1) u.1) (λ w. Ok (branch p v u.0 w.0, w.1)) | false ↦ denied q.BranchLength f field ])) (same (ifs + 1) z (omega arith))
  followed_same r s ifs p z (calls o vs n) on same = ap (λ x. then x (λ w. Ok (call p o vs n w.0, w.1))) (same ifs z (omega arith))

  -- where nothing is left, no node is read
  pub node-outside : (ifs p : ℕ) → e ≤ p → node_at b e f ifs p ≡ denied q.Inside f p
  node-outside ifs p h = let t : leb (p + 1) e ≡ false = lt-leb (p + 1) e (omega arith) in rw (t, field_at)

  -- the same body by any number of bytes that is not too small
  body-enough : (k m ifs p : ℕ) → e - p ≤ k → e - p ≤ m → body_by b e f k ifs p ≡ body_by b e f m ifs p
  unfolding body_by
  body-enough zero zero ifs p h g = refl
  body-enough zero (suc m) ifs p h g = sym (ap (λ x. then x (λ w. followed (body_by b e f m) f ifs p w.0 w.1)) (node-outside ifs p (omega arith)))
  body-enough (suc k) zero ifs p h g = ap (λ x. then x (λ w. followed (body_by b e f k) f ifs p w.0 w.1)) (node-outside ifs p (omega arith))
  body-enough (suc k) (suc m) ifs p h g =
      then_same (node_at b e f ifs p) (λ x. p < x.1) _ _ (node-moves ifs p) λ x hx.
      followed_same (body_by b e f k) (body_by b e f m) ifs p x.1 x.0 (body-moves k) (λ i q l. body-enough k m i q (omega arith) (omega arith))

  -- the equation by which a body is read
  pub body_is : (ifs p : ℕ) → body_at b e f ifs p ≡ then (node_at b e f ifs p) (λ h. followed (body_at b e f) f ifs p h.0 h.1)
  unfolding body_by
  body_is ifs p =
      body-enough (e - p) (suc (e - p)) ifs p (omega arith) (omega arith)
      ∙ then_same (node_at b e f ifs p) (λ x. p < x.1) _ _ (node-moves ifs p) λ x hx.
      followed_same (body_by b e f (e - p)) (body_at b e f) ifs p x.1 x.0 (body-moves (e - p)) (λ i q l. body-enough (e - p) (e - q) i q (omega arith) (omega arith))
