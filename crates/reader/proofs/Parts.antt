-- A body that reads, taken apart at its first node as the code sees it.
use Rattle.std.proofs.Common.{◌≡◌, ℕ, ◌+◌, ◌-◌, eqb, leb, List, length, Ok, Err, sym, refl, ap, ◌∙◌, subst, inl, inr, arith}
use Rattle.std.proofs.lemmas.Result.{IfOk-at_ok}
use Rattle.reader.specs.declared.questions.Question.TheVariants as q
use Rattle.reader.specs.declared.faults.Fault.{Fault}
use Rattle.reader.specs.declared.operations.Operation.{Operation}
use Rattle.reader.specs.declared.values.Operand.{Operand}
use Rattle.reader.specs.declared.values.Values.{Values}
use Rattle.reader.specs.declared.nodes.Node.{Node}
use Rattle.reader.specs.declared.nodes.Node.TheVariants as node
use Rattle.reader.specs.Operations.{operation}
use Rattle.reader.specs.Syntax.{Body, return, branch, call}
use Rattle.reader.specs.Fields.{Read, then, byte_at, half_at, value_at, values_at, count_at, list_at}
use Rattle.reader.specs.Nodes.{Head, returns, branches, calls, if_at, call_at, node_at, followed, body_at, seen, sight}
use Rattle.reader.proofs.Results.{then_ok, pass_ok, shun_ok, which, ok_same}
use Rattle.reader.proofs.Lists.{values-long, byte_after, range_after}
use Rattle.reader.proofs.Following.{body_is}

module _ (b : List ℕ) (e f : ℕ) where
  -- the values of a list stand after its count
  list_there : (p : ℕ) (x : List Operand × ℕ) → list_at b e f p ≡ Ok x → values_at b e f (length x.0) (p + 1) ≡ Ok x
  list_there p x h =
      let n = then_ok (count_at b e f p) _ x h in
      let long = IfOk-at_ok (λ y. length y.0 ≡ n.0.0) n.2 (values-long b e f n.0.0 n.0.1) in
      let after = range_after b e f q.ListLength 0 8 p n.0 n.1 in
      (λ i. values_at b e f (long i) (sym after i)) ∙ n.2

  -- where the values of a node stand
  abbrev pub Heading : ℕ → Head × ℕ → Type 0
  Heading p (returns vs, z) = values_at b e f (length vs) (p + 2) ≡ Ok (vs, z)
  Heading p (branches v field n, z) = Unit {0}
  Heading p (calls o vs n, z) = (y : ℕ) × (values_at b e f (length vs) (p + 4) ≡ Ok (vs, y))

  pub heading : (ifs p : ℕ) (h : Head × ℕ) → node_at b e f ifs p ≡ Ok h → Heading p h
  heading ifs p h k =
      let t = then_ok (byte_at b e f p) _ h k in
      let one = byte_after b e f p t.0 t.1 in
      elim (which (eqb t.0.0 1) _ _ (Ok h) t.2) [
        | inl k ↦ return-at t.0.1 one k.1
        | inr k ↦ elim (which (eqb t.0.0 2) _ _ (Ok h) k.1) [
          | inl k ↦ if-at t.0.1 k.1
          | inr k ↦ call-at t.0.1 one (pass_ok (eqb t.0.0 3) _ _ h k.1).1
        ]
      ]
    where
      return-at : (z : ℕ) → z ≡ p + 1 → then (list_at b e f z) (λ a. Ok (returns a.0, a.1)) ≡ Ok h → Heading p h
      return-at z one k =
          let a = then_ok (list_at b e f z) _ h k in
          let two : z + 1 ≡ p + 2 = omega arith in
          subst (Heading p) (ok_same (returns a.0.0, a.0.1) h a.2) (ap (values_at b e f (length a.0.0)) (sym two) ∙ list_there z a.0 a.1)

      if-at : (z : ℕ) → if_at b e f ifs p z ≡ Ok h → Heading p h
      if-at z k =
          let i = shun_ok (leb 16 ifs) _ _ h k in
          let v = then_ok (value_at b e f z) _ h i.1 in
          let n = then_ok (half_at b e f v.0.1) _ h v.2 in
          subst (Heading p) (ok_same (branches (record { place = z; value = v.0.0 }) v.0.1 n.0.0, n.0.1) h n.2) tt

      call-at : (z : ℕ) → z ≡ p + 1 → call_at b e f z ≡ Ok h → Heading p h
      call-at z one k =
          let m = then_ok (byte_at b e f z) _ h k in
          let i = then_ok (byte_at b e f m.0.1) _ h m.2 in
          let a = then_ok (list_at b e f i.0.1) _ h i.2 in
          let n = then_ok (count_at b e f a.0.1) _ h a.2 in
          let four : i.0.1 + 1 ≡ p + 4 = omega (arith, byte_after b e f z m.0 m.1, byte_after b e f m.0.1 i.0 i.1) in
          subst (Heading p) (ok_same (calls (operation m.0.0 i.0.0) a.0.0 n.0.0, n.0.1) h n.2)
          (a.0.1, ap (values_at b e f (length a.0.0)) (sym four) ∙ list_there i.0.1 a.0 a.1)

  pub record ReturnParts (p next : ℕ) (t : Body × ℕ) (vs : Values) : Type 0 where
    pub operands : List Operand
    pub long : length operands ≡ vs.count
    pub reads : values_at b e f vs.count vs.place ≡ Ok (operands, next)
    pub is : t ≡ (return p operands, next)

  pub record BranchParts (ifs p next : ℕ) (t : Body × ℕ) (v : Operand) : Type 0 where
    pub first : Body × ℕ
    pub second : Body × ℕ
    pub reads_first : body_at b e f (ifs + 1) next ≡ Ok first
    pub reads_second : body_at b e f (ifs + 1) first.1 ≡ Ok second
    pub is : t ≡ (branch p v first.0 second.0, second.1)

  pub record CallParts (ifs p next : ℕ) (t : Body × ℕ) (o : Operation) (vs : Values) (n : ℕ) : Type 0 where
    pub operands : List Operand
    pub stop : ℕ
    pub rest : Body × ℕ
    pub long : length operands ≡ vs.count
    pub reads : values_at b e f vs.count vs.place ≡ Ok (operands, stop)
    pub reads-rest : body_at b e f ifs next ≡ Ok rest
    pub is : t ≡ (call p o operands n rest.0, rest.1)

  abbrev pub Parts : (ifs p : ℕ) → Body × ℕ → Node × ℕ → Type 0
  Parts ifs p t (node.Return vs, next) = ReturnParts p next t vs
  Parts ifs p t (node.Branch v field n, next) = BranchParts ifs p next t v
  Parts ifs p t (node.Call o vs n, next) = CallParts ifs p next t o vs n

  pub parts : (ifs p : ℕ) (t : Body × ℕ) (x : Node × ℕ) → body_at b e f ifs p ≡ Ok t → Ok x ≡ sight p (node_at b e f ifs p) → Parts ifs p t x
  parts ifs p t x h k =
      let g = then_ok (node_at b e f ifs p) _ t (sym (body_is b e f ifs p) ∙ h) in
      let s = ok_same x (seen p g.0.0, g.0.1) (k ∙ ap (sight p) g.1) in
      subst (Parts ifs p t) (sym s) (of g.0 (heading ifs p g.0 g.1) g.2)
    where
      of : (h : Head × ℕ) → Heading p h → followed (body_at b e f) f ifs p h.0 h.1 ≡ Ok t → Parts ifs p t (seen p h.0, h.1)
      of (returns vs, z) l k =
          record { operands = vs; long = refl; reads = ap (values_at b e f (length vs)) (omega arith) ∙ l; is = sym (ok_same (return p vs, z) t k) }
      of (branches v field n, z) l k =
          let u = then_ok (body_at b e f (ifs + 1) z) _ t k in
          let c = pass_ok (eqb (u.0.1 - z) n) _ _ t u.2 in
          let w = then_ok (body_at b e f (ifs + 1) u.0.1) _ t c.1 in
          record { first = u.0; second = w.0; reads_first = u.1; reads_second = w.1; is = sym (ok_same (branch p v u.0.0 w.0.0, w.0.1) t w.2) }
      of (calls o vs n, z) l k =
          let u = then_ok (body_at b e f ifs z) _ t k in
          record { operands = vs; stop = l.0; rest = u.0; long = refl; reads = ap (values_at b e f (length vs)) (omega arith) ∙ l.1; reads-rest = u.1; is = sym (ok_same (call p o vs n u.0.0, u.0.1) t u.2) }

  -- the first node of a body that reads is read
  pub node-reads : (ifs p : ℕ) (t : Body × ℕ) (x : Fault) → body_at b e f ifs p ≡ Ok t → Err x ≡ sight p (node_at b e f ifs p) → ⊥
  node-reads ifs p t x h k =
      let g = then_ok (node_at b e f ifs p) _ t (sym (body_is b e f ifs p) ∙ h) in
      never x (seen p g.0.0, g.0.1) (k ∙ ap (sight p) g.1)
    where
      never : (x : Fault) (y : Node × ℕ) → ◌≡◌ {A = Read Node} (Err x) (Ok y) → ⊥
      never x y h = let z : ◌≡◌ {A = ℕ} 0 1 = cc in omega arith
