-- Where the parts of a function's record stand.
use Rattle.std.proofs.Common.{◌≡◌, ℕ, zero, suc, ◌+◌, ◌-◌, ◌&&◌, ◌||◌, eqb, leb, List, [], ◌∷◌, length, Some, None, Ok, sym, ap, ◌∙◌, subst, inl, inr, arith}
use mathlib.Core.Option.{Option as Maybe, none, some}
use lib.ListN.{get_elem?}
use Rattle.std.specs.Prelude.{slice_get}
use Rattle.reader.specs.declared.questions.Question.TheVariants as q
use Rattle.reader.specs.declared.types.Ty.{Ty}
use Rattle.reader.specs.Fields.{Read, byte_at, type_at, count_at}
use Rattle.reader.specs.Nodes.{Head, returns, branches, calls, node_at, followed, body_at}
use Rattle.reader.specs.Programs.{types_at, signature_at}
use Rattle.reader.specs.Syntax.{Body, return, branch, call, Function, Program}
use Rattle.reader.proofs.Results.{then_ok, pass_ok, which, ok_same}
use Rattle.reader.proofs.Lists.{byte_after, range_after}
use Rattle.reader.proofs.Following.{body_is}
use Rattle.rows.specs.Rows.{items}
use Rattle.typing.specs.Layers.{empty, thread_ready}
use Rattle.records.specs.declared.tables.Table.{Table}
use Rattle.records.specs.declared.tables.Record.{Record}
use Rattle.records.specs.Tables.{places, Stands, Says, Recorded}
use Rattle.records.proofs.Standing as standing
use Rattle.records.proofs.Tabling.{program-records, place_of}

-- the place of a body's first tag
abbrev root : Body → ℕ
root (return p vs) = p
root (branch p v e₁ e₂) = p
root (call p f vs j e) = p

body-root : (b : List ℕ) (e f ifs p : ℕ) (t : Body × ℕ) → body_at b e f ifs p ≡ Ok t → root t.0 ≡ p
body-root b e f ifs p t h =
    let g = then_ok (node_at b e f ifs p) _ t (sym (body_is b e f ifs p) ∙ h) in
    of g.0.0 g.0.1 g.2
  where
    of : (h : Head) (z : ℕ) → followed (body_at b e f) f ifs p h z ≡ Ok t → root t.0 ≡ p
    of (returns vs) z k = sym (ap (λ (y : Body × ℕ). root y.0) (ok_same (return p vs, z) t k))
    of (branches v field n) z k =
        let u = then_ok (body_at b e f (ifs + 1) z) _ t k in
        let c = pass_ok (eqb (u.0.1 - z) n) _ _ t u.2 in
        let w = then_ok (body_at b e f (ifs + 1) u.0.1) _ t c.1 in
        sym (ap (λ (y : Body × ℕ). root y.0) (ok_same (branch p v u.0.0 w.0.0, w.0.1) t w.2))
    of (calls o vs n) z k =
        let u = then_ok (body_at b e f ifs z) _ t k in
        sym (ap (λ (y : Body × ℕ). root y.0) (ok_same (call p o vs n u.0.0, u.0.1) t u.2))

module _ (b : List ℕ) (e f : ℕ) where
  type-after : (p : ℕ) (x : Ty × ℕ) → type_at b e f p ≡ Ok x → x.1 ≡ p + 1
  type-after p x h =
      let n = then_ok (byte_at b e f p) _ x h in
      let m = byte_after b e f p n.0 n.1 in
      elim (which (eqb n.0.0 1) _ _ (Ok x) n.2) [
        | inl k ↦ at _ n.0.1 m k.1
        | inr k ↦
            elim (which (eqb n.0.0 2) _ _ (Ok x) k.1) [
              | inl k ↦ at _ n.0.1 m k.1
              | inr k ↦
                  elim (which (eqb n.0.0 3) _ _ (Ok x) k.1) [ inl k ↦ at _ n.0.1 m k.1 | inr k ↦ at _ n.0.1 m (pass_ok (eqb n.0.0 4) _ _ x k.1).1 ]
            ]
      ]
    where
      at : (u : Ty) (z : ℕ) → z ≡ p + 1 → ◌≡◌ {A = Read Ty} (Ok (u, z)) (Ok x) → x.1 ≡ p + 1
      at u z m k = sym (ap (λ (y : Ty × ℕ). y.1) (ok_same (u, z) x k)) ∙ m

  types-after : (n p : ℕ) (x : List Ty × ℕ) → types_at b e f n p ≡ Ok x → (x.1 ≡ p + n) × (length x.0 ≡ n)
  types-after zero p x h = let m = ok_same ([], p) x h in (omega (arith, ap (λ (y : List Ty × ℕ). y.1) m), sym (ap (λ (y : List Ty × ℕ). length y.0) m))
  types-after (suc n) p x h =
      let u = then_ok (type_at b e f p) _ x h in
      let us = then_ok (types_at b e f n u.0.1) _ x u.2 in
      let m = ok_same (u.0.0 ∷ us.0.0, us.0.1) x us.2 in
      let r = types-after n u.0.1 us.0 us.1 in
      (omega (arith, ap (λ (y : List Ty × ℕ). y.1) m, type-after p u.0 u.1, r.0), sym (ap (λ (y : List Ty × ℕ). length y.0) m) ∙ ap suc r.1)

  signature-after : (p : ℕ) (x : List Ty × ℕ) → signature_at b e f p ≡ Ok x → x.1 ≡ p + 1 + length x.0
  signature-after p x h =
      let n = then_ok (count_at b e f p) _ x h in
      let r = types-after n.0.0 n.0.1 x n.2 in
      omega (arith, range_after b e f q.ListLength 0 8 p n.0 n.1, r.0, r.1)

module _ (t : Table) (P : Program) (s : Stands t P) (i : ℕ) (F : Function) (h : get_elem? P.functions i ≡ some F) where
  -- the body follows the types of the results, which follow those of the parameters
  pub body-place : (r : Record) → Says t.program.now i F r → r.body ≡ F.place + 5 + length F.params + length F.results
  body-place r y =
      let b = t.program.now in
      let found = standing.records-found b (length b) (length P.functions) 0 6 i (P.functions, length b) F (program-records b P s.reads).read h in
      let k = (standing.record_parts b (length b) (0 + i) F.place (F, found.end) found.read).0 in
      let here = body-root b r.end i 0 r.body (F.body, r.end) y.body in
      let there = body-root b k.end (0 + i) 0 k.results (F.body, k.end) k.body_read in
      let one = byte_after b k.end (0 + i) (F.place + 2) (F.depth, k.depth) k.depth_read in
      let two = signature-after b k.end (0 + i) k.depth (F.params, k.params) k.params_read in
      let three = signature-after b k.end (0 + i) k.params (F.results, k.results) k.results_read in
      omega arith

  -- the question of threads, as the code puts it
  pub ready-is : (r : Record) → Says t.program.now i F r → (leb t.header.threads i || (empty (items r.params) && empty (items r.results))) ≡ thread_ready P i F
  ready-is r y = λ j. leb (s.counts j).threads i || (empty (y.params j) && empty (y.results j))

-- the place and the record that a table gives are those of the function
same : (F G : Function) (o : Maybe Function) → o ≡ some F → o ≡ some G → F ≡ G
same F G o h k = cc

pub place_is : (P : Program) (i p : ℕ) (F : Function) → Some p ≡ slice_get (places P.functions) i → get_elem? P.functions i ≡ some F → p ≡ F.place
place_is P i p F h k = let (G, g, is) = place_of P.functions i (Some p) h in is ∙ ap (λ (K : Function). K.place) (same G F _ g k)

pub says_of : (b : List ℕ) (P : Program) (i : ℕ) (F : Function) (r : Record) → Recorded b P i (Some r) → get_elem? P.functions i ≡ some F → Says b i F r
says_of b P i F r (G, h, y) k = subst (λ (K : Function). Says b i K r) (same G F _ h k) y

pub place_none : (P : Program) (i : ℕ) (F : Function) → None ≡ slice_get (places P.functions) i → get_elem? P.functions i ≡ some F → ⊥
place_none P i F h k = other F _ (place_of P.functions i None h) k
  where
    other : (F : Function) (o : Maybe Function) → o ≡ none → o ≡ some F → ⊥
    other F o h k = let z : ◌≡◌ {A = ℕ} 0 1 = cc in omega arith
