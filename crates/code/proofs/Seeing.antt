-- What a place shows: one node at a time, and a body that reads.
use Rattle.std.proofs.Common.{◌≡◌, ℕ, zero, suc, ◌+◌, ◌-◌, ◌<◌, ◌≤◌, eqb, List, length, IfOk, Ok, Err, sym, refl, ap, ◌∙◌, arith}
use Rattle.std.proofs.lemmas.Bool.{eqb-true}
use Rattle.std.proofs.lemmas.Result.{IfOk-at_ok}
use Rattle.reader.specs.Fields.{Read}
use Rattle.reader.specs.Syntax.{Body, return, branch, call}
use Rattle.reader.specs.Nodes.{Head, returns, branches, calls, node_at, followed, body_by, body_at}
use Rattle.reader.proofs.Results.{then_ok, pass_ok, ok_same}
use Rattle.reader.proofs.Following.{node-moves, node-outside, body-moves}
use Rattle.code.specs.Sights.{lost, shown, sees_by, sees}
use Rattle.code.proofs.Wider.{node_kept}

-- what follows a node depends only on what is behind it
shown_same : (r s : ℕ → Body) (p : ℕ) (x : Read Head) → IfOk x (λ x. p < x.1) → ((z : ℕ) → p < z → r z ≡ s z) → shown r p x ≡ shown s p x
shown_same r s p (Ok (returns vs, z)) on same = refl
shown_same r s p (Ok (branches v field n, z)) on same = λ i. branch p v (same z on i) (same (z + n) (omega arith) i)
shown_same r s p (Ok (calls o vs n, z)) on same = ap (call p o vs n) (same z on)
shown_same r s p (Err e) on same = refl

module _ (b : List ℕ) where
  nothing-shown : (r : ℕ → Body) (p : ℕ) → length b ≤ p → shown r p (node_at b (length b) 255 0 p) ≡ lost
  nothing-shown r p h = ap (shown r p) (node-outside b (length b) 255 0 p h)

  -- the same by any number of bytes that is not too small
  sees_enough : (k m p : ℕ) → length b - p ≤ k → length b - p ≤ m → sees_by b k p ≡ sees_by b m p
  unfolding sees_by
  sees_enough zero zero p h g = refl
  sees_enough zero (suc m) p h g = sym (nothing-shown (sees_by b m) p (omega arith))
  sees_enough (suc k) zero p h g = nothing-shown (sees_by b k) p (omega arith)
  sees_enough (suc k) (suc m) p h g =
      shown_same (sees_by b k) (sees_by b m) p (node_at b (length b) 255 0 p) (node-moves b (length b) 255 0 p)
      (λ z l. sees_enough k m z (omega arith) (omega arith))

  -- a place shows the node that is read there, with what the places behind it show
  pub sees_is : (p : ℕ) → sees b p ≡ shown (sees b) p (node_at b (length b) 255 0 p)
  unfolding sees_by
  sees_is p =
      sees_enough (length b - p) (suc (length b - p)) p (omega arith) (omega arith)
      ∙ shown_same (sees_by b (length b - p)) (sees b) p (node_at b (length b) 255 0 p) (node-moves b (length b) 255 0 p)
      (λ z l. sees_enough (length b - p) (length b - z) z (omega arith) (omega arith))

  module _ (e f : ℕ) (inside : e ≤ length b) where
    -- what is behind a node of a body, where what is behind it shows
    behind : (k ifs p : ℕ) (t : Body × ℕ) → ((i q : ℕ) (u : Body × ℕ) → body_by b e f k i q ≡ Ok u → sees b q ≡ u.0)
        → (x : Head) (z : ℕ) → followed (body_by b e f k) f ifs p x z ≡ Ok t → shown (sees b) p (Ok (x, z)) ≡ t.0
    behind k ifs p t seen (returns vs) z h = ap (λ (y : Body × ℕ). y.0) (ok_same (return p vs, z) t h)
    behind k ifs p t seen (branches v field n) z h =
        let u = then_ok (body_by b e f k (ifs + 1) z) _ t h in
        let c = pass_ok (eqb (u.0.1 - z) n) _ _ t u.2 in
        let w = then_ok (body_by b e f k (ifs + 1) u.0.1) _ t c.1 in
        let on = IfOk-at_ok (λ x. z < x.1) u.1 (body-moves b e f k (ifs + 1) z) in
        let took = eqb-true (u.0.1 - z) n c.0 in
        let second : z + n ≡ u.0.1 = omega arith in
        (λ i. branch p v (seen (ifs + 1) z u.0 u.1 i) (sees b (second i)))
        ∙ ap (branch p v u.0.0) (seen (ifs + 1) u.0.1 w.0 w.1)
        ∙ ap (λ (y : Body × ℕ). y.0) (ok_same (branch p v u.0.0 w.0.0, w.0.1) t w.2)
    behind k ifs p t seen (calls o vs n) z h =
        let u = then_ok (body_by b e f k ifs z) _ t h in
        ap (call p o vs n) (seen ifs z u.0 u.1) ∙ ap (λ (y : Body × ℕ). y.0) (ok_same (call p o vs n u.0.0, u.0.1) t u.2)

    -- a body that reads in part of the bytes is what its place shows
    body_by-seen : (k ifs p : ℕ) (t : Body × ℕ) → body_by b e f k ifs p ≡ Ok t → sees b p ≡ t.0
    unfolding body_by
    body_by-seen zero ifs p t h = absurd (let z : ◌≡◌ {A = ℕ} 0 1 = cc in omega arith)
    body_by-seen (suc k) ifs p t h =
        let g = then_ok (node_at b e f ifs p) _ t h in
        sees_is p
        ∙ ap (shown (sees b) p) (node_kept b e f (length b) 255 inside ifs p g.0 g.1)
        ∙ behind k ifs p t (body_by-seen k) g.0.0 g.0.1 g.2

    pub body-seen : (ifs p : ℕ) (t : Body × ℕ) → body_at b e f ifs p ≡ Ok t → sees b p ≡ t.0
    body-seen ifs p = body_by-seen (e - p) ifs p
