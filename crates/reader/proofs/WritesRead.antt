-- What is read was written: each part has its bytes, its limits and its places.
use Rattle.std.proofs.Common.{◌≡◌, ℕ, zero, suc, ◌+◌, ◌-◌, ◌*◌, ◌/◌, ◌%◌, ◌<◌, ◌≤◌, ◌&&◌, eqb, leb, List, [], ◌∷◌, ◌++◌, length, get_or, Ok, Err, Result, sym, refl, ap, ◌∙◌, subst, inl, inr, arith}
use Rattle.std.proofs.lemmas.Bool.{leb-true, leb-false, eqb-true, and_parts}
use Rattle.reader.specs.declared.questions.Question.{Question}
use Rattle.reader.specs.declared.questions.Question.TheVariants as q
use Rattle.reader.specs.declared.faults.Fault.{Fault}
use Rattle.reader.specs.declared.values.Value.{Value}
use Rattle.reader.specs.Fields as r
use Rattle.reader.specs.Fields.{Read, then, field_at, byte_at, half_at, word_at, truth_at, value_at, values_at, range_at, count_at, list_at}
use Rattle.reader.specs.declared.values.Operand.{Operand}
use Rattle.reader.specs.declared.operations.Operation.{Operation}
use Rattle.reader.specs.Operations.{kind, index, operation}
use Rattle.reader.specs.Syntax.{Body, return, branch, call}
use Rattle.reader.specs.Nodes.{Head, returns, branches, calls, if_at, call_at, node_at, followed, body_by}
use Rattle.reader.specs.Encoding
use Rattle.reader.specs.Spans.{Span}
use Rattle.reader.proofs.Results.{then_ok, pass_ok, shun_ok, which, ok_same}
use Rattle.reader.proofs.Names.{kind-named, index-named}
use Rattle.reader.proofs.Spans.{span-end, span_join}

module _ (b : List ℕ) (small : (i : ℕ) → get_or b i 0 < 256) (e f : ℕ) where
  field-said : (w n p : ℕ) (x : ℕ × ℕ) → field_at w n e f p ≡ Ok x → (n ≡ x.0) × (x.1 ≡ p + w)
  field-said w n p x h =
      let m = ok_same (n, p + w) x (pass_ok (leb (p + w) e) _ _ x h).1 in
      (ap (λ y. y.0) m, sym (ap (λ y. y.1) m))

  pub byte_said : (p : ℕ) (x : ℕ × ℕ) → byte_at b e f p ≡ Ok x → Span b p x.1 (x.0 ∷ [])
  byte_said p x h = field-said 1 (get_or b p 0) p x h

  pub byte_is : (p n : ℕ) (x : ℕ × ℕ) → byte_at b e f p ≡ Ok x → x.0 ≡ n → Span b p x.1 (n ∷ [])
  byte_is p n x h k = let s = field-said 1 (get_or b p 0) p x h in (s.0 ∙ k, s.1)

  pub half_said : (p : ℕ) (x : ℕ × ℕ) → half_at b e f p ≡ Ok x → Span b p x.1 (Encoding.half x.0) × (x.0 < 65536)
  half_said p x h =
      let s = field-said 2 (r.half b p) p x h in
      let i = small p in
      let j = small (p + 1) in
      ((omega arith, (omega arith, omega arith)), omega arith)

  word-said : (p : ℕ) (x : ℕ × ℕ) → word_at b e f p ≡ Ok x → Span b p x.1 (Encoding.word x.0) × (x.0 < 4294967296)
  word-said p x h =
      let s = field-said 4 (r.word b p) p x h in
      let i0 = small p in
      let i1 = small (p + 1) in
      let i2 = small (p + 2) in
      let i3 = small (p + 3) in
      let hi : r.half b p ≡ x.0 / 65536 = omega arith in
      let lo : get_or b (p + 2) 0 * 256 + get_or b (p + 3) 0 ≡ x.0 % 65536 = omega arith in
      let c : get_or b (p + 1 + 1) 0 ≡ get_or b (p + 2) 0 = ap (λ y. get_or b y 0) (omega arith) in
      let d : get_or b (p + 1 + 1 + 1) 0 ≡ get_or b (p + 3) 0 = ap (λ y. get_or b y 0) (omega arith) in
      ((omega arith, (omega arith, (omega arith, (omega arith, omega arith)))), omega arith)

  pub record ValueSaid (p : ℕ) (x : Value × ℕ) : Type 0 where
    pub span : Span b p x.1 (Encoding.value x.0)
    pub fits : Encoding.FitsValue x.0

  pub value_said : (p : ℕ) (x : Value × ℕ) → value_at b e f p ≡ Ok x → ValueSaid p x
  value_said p x h =
      let t = then_ok (byte_at b e f p) _ x h in
      elim (which (eqb t.0.0 16) _ _ (Ok x) t.2) [
        | inl k ↦
            let n = then_ok (word_at b e f t.0.1) _ x k.1 in
            let s = word-said t.0.1 n.0 n.1 in
            subst (ValueSaid p) (ok_same _ x n.2) (record { span = span_join b p t.0.1 n.0.1 (16 ∷ []) (Encoding.word n.0.0) (byte_is p 16 t.0 t.1 (eqb-true _ 16 k.0)) s.0; fits = s.1 })
        | inr k ↦ elim (which (eqb t.0.0 17) _ _ (Ok x) k.1) [
          | inl k ↦
              let n = then_ok (byte_at b e f t.0.1) _ x k.1 in
              truth-said p t.0.1 n.0 x (byte_is p 17 t.0 t.1 (eqb-true _ 17 k.0)) n.1 n.2
          | inr k ↦
              let j = pass_ok (eqb t.0.0 18) _ _ x k.1 in
              let n = then_ok (byte_at b e f t.0.1) _ x j.1 in
              let s = byte_said t.0.1 n.0 n.1 in
              subst (ValueSaid p) (ok_same _ x n.2) (record { span = span_join b p t.0.1 n.0.1 (18 ∷ []) (n.0.0 ∷ []) (byte_is p 18 t.0 t.1 (eqb-true _ 18 j.0)) s; fits = subst (λ y. y < 256) s.0 (small t.0.1) })
        ]
      ]
    where
      truth-said : (p o : ℕ) (n : ℕ × ℕ) (x : Value × ℕ) → Span b p o (17 ∷ []) → byte_at b e f o ≡ Ok n → truth_at f p n ≡ Ok x → ValueSaid p x
      truth-said p o n x s h k = elim (which (eqb n.0 0) _ _ (Ok x) k) [
        | inl j ↦ subst (ValueSaid p) (ok_same _ x j.1) (record { span = span_join b p o n.1 (17 ∷ []) (0 ∷ []) s (byte_is o 0 n h (eqb-true _ 0 j.0)); fits = tt })
        | inr j ↦ let i = pass_ok (eqb n.0 1) _ _ x j.1 in
            subst (ValueSaid p) (ok_same _ x i.1) (record { span = span_join b p o n.1 (17 ∷ []) (1 ∷ []) s (byte_is o 1 n h (eqb-true _ 1 i.0)); fits = tt })
      ]

  pub record ValuesSaid (n p : ℕ) (x : List Operand × ℕ) : Type 0 where
    pub long : length x.0 ≡ n
    pub span : Span b p x.1 (Encoding.values x.0)
    pub fits : Encoding.FitsValues x.0
    pub places : Encoding.values_from p x.0 ≡ x.0

  pub values_said : (n p : ℕ) (x : List Operand × ℕ) → values_at b e f n p ≡ Ok x → ValuesSaid n p x
  values_said zero p x h = subst (ValuesSaid zero p) (ok_same ([], p) x h) (record { long = refl; span = refl; fits = tt; places = refl })
  values_said (suc n) p x h =
      let v = then_ok (value_at b e f p) _ x h in
      let vs = then_ok (values_at b e f n v.0.1) _ x v.2 in
      let s = value_said p v.0 v.1 in
      let ss = values_said n v.0.1 vs.0 vs.1 in
      let m = span-end b p v.0.1 (Encoding.value v.0.0) s.span in
      subst (ValuesSaid (suc n) p) (ok_same _ x vs.2) (record {
        long = ap suc ss.long;
        span = span_join b p v.0.1 vs.0.1 (Encoding.value v.0.0) (Encoding.values vs.0.0) s.span ss.span;
        fits = (s.fits, ss.fits);
        places = ap (λ ws. record { place = p; value = v.0.0 } ∷ ws) (ap (λ o. Encoding.values_from o vs.0.0) (sym m) ∙ ss.places);
      })

  pub record RangeSaid (low high p : ℕ) (x : ℕ × ℕ) : Type 0 where
    pub span : Span b p x.1 (x.0 ∷ [])
    pub least : low ≤ x.0
    pub most : x.0 ≤ high

  pub range_said : (k : Question) (low high p : ℕ) (x : ℕ × ℕ) → range_at k low high b e f p ≡ Ok x → RangeSaid low high p x
  range_said k low high p x h =
      let n = then_ok (byte_at b e f p) _ x h in
      let j = pass_ok (leb low n.0.0 && leb n.0.0 high) _ _ x n.2 in
      let y = and_parts (leb low n.0.0) (leb n.0.0 high) j.0 in
      subst (RangeSaid low high p) (ok_same n.0 x j.1) (record { span = byte_said p n.0 n.1; least = leb-true low _ y.0; most = leb-true _ high y.1 })

  pub record ListSaid (p : ℕ) (x : List Operand × ℕ) : Type 0 where
    pub span : Span b p x.1 (length x.0 ∷ Encoding.values x.0)
    pub short : length x.0 ≤ 8
    pub fits : Encoding.FitsValues x.0
    pub places : Encoding.values_from (p + 1) x.0 ≡ x.0

  pub list_said : (p : ℕ) (x : List Operand × ℕ) → list_at b e f p ≡ Ok x → ListSaid p x
  list_said p x h =
      let n = then_ok (count_at b e f p) _ x h in
      let c = range_said q.ListLength 0 8 p n.0 n.1 in
      let s = values_said n.0.0 n.0.1 x n.2 in
      record {
        span = span_join b p n.0.1 x.1 (length x.0 ∷ []) (Encoding.values x.0) (c.span.0 ∙ sym s.long, c.span.1) s.span;
        short = omega (arith, c.most, s.long);
        fits = s.fits;
        places = ap (λ o. Encoding.values_from o x.0) (sym c.span.1) ∙ s.places;
      }

  -- the parts of a call that was read
  record CallSaid (p : ℕ) (o : Operation) (vs : List Operand) (n z : ℕ) : Type 0 where
    span : (y : ℕ) (ys : List ℕ) → Span b z y ys → Span b p y (kind o ∷ index o ∷ length vs ∷ Encoding.values vs ++ (n ∷ ys))
    fits : Encoding.FitsCall o vs n
    places : Encoding.values_from (p + 3) vs ≡ vs
    stop : z ≡ p + 3 + length (Encoding.values vs) + 1

  call-of : (p : ℕ) (k i : ℕ × ℕ) (a : List Operand × ℕ) (n : ℕ × ℕ) → Span b p k.1 (k.0 ∷ []) → Span b k.1 i.1 (i.0 ∷ []) → ListSaid i.1 a → RangeSaid 0 8 a.1 n
      → CallSaid p (operation k.0 i.0) a.0 n.0 n.1
  call-of p k i a n sk si sa sn =
      let three : i.1 + 1 ≡ p + 3 = omega (arith, sk.1, si.1) in
      let m = span-end b i.1 a.1 (length a.0 ∷ Encoding.values a.0) sa.span in
      let o = operation k.0 i.0 in
      let ek = kind-named k.0 i.0 in
      let ei = index-named k.0 i.0 in
      record {
        span = λ z ys s. span_join b p k.1 z (kind o ∷ []) (index o ∷ length a.0 ∷ Encoding.values a.0 ++ (n.0 ∷ ys)) (sk.0 ∙ sym ek, sk.1)
            (span_join b k.1 i.1 z (index o ∷ []) (length a.0 ∷ Encoding.values a.0 ++ (n.0 ∷ ys)) (si.0 ∙ sym ei, si.1)
            (span_join b i.1 a.1 z (length a.0 ∷ Encoding.values a.0) (n.0 ∷ ys) sa.span (span_join b a.1 n.1 z (n.0 ∷ []) ys sn.span s)));
        fits = record {
          operation = record {
            small_kind = subst (λ y. y < 256) (sk.0 ∙ sym ek) (small p);
            small_index = subst (λ y. y < 256) (si.0 ∙ sym ei) (small k.1);
            named = λ j. operation (ek j) (ei j);
          };
          few = sa.short;
          values = sa.fits;
          results = sn.most;
        };
        places = ap (λ o. Encoding.values_from o a.0) (sym three) ∙ sa.places;
        stop = omega (arith, sn.span.1);
      }

  pub record BodySaid (n p : ℕ) (x : Body × ℕ) : Type 0 where
    pub span : Span b p x.1 (Encoding.body x.0)
    pub fits : Encoding.FitsBody x.0
    pub ifs : n + Encoding.ifs x.0 ≤ 16
    pub places : Encoding.body_from p x.0 ≡ x.0

  return_of : (n p z : ℕ) (a : List Operand × ℕ) → Span b p z (1 ∷ []) → n ≤ 16 → ListSaid z a → BodySaid n p (return p a.0, a.1)
  return_of n p z a s l sa =
      let two : z + 1 ≡ p + 2 = omega (arith, s.1) in
      record {
        span = span_join b p z a.1 (1 ∷ []) (length a.0 ∷ Encoding.values a.0) s sa.span;
        fits = (sa.short, sa.fits);
        ifs = omega arith;
        places = ap (return p) (ap (λ o. Encoding.values_from o a.0) (sym two) ∙ sa.places);
      }

  branch-of : (n p z : ℕ) (v : Value × ℕ) (m : ℕ × ℕ) (u w : Body × ℕ) → Span b p z (2 ∷ []) → ValueSaid z v → Span b v.1 m.1 (Encoding.half m.0) × (m.0 < 65536)
      → u.1 - m.1 ≡ m.0 → BodySaid (n + 1) m.1 u → BodySaid (n + 1) u.1 w → BodySaid n p (branch p (record { place = z; value = v.0 }) u.0 w.0, w.1)
  branch-of n p z v m u w s sv sm c su sw =
      let vb = Encoding.value v.0 in
      let ub = Encoding.body u.0 in
      let wb = Encoding.body w.0 in
      let ev = span-end b z v.1 vb sv.span in
      let em = span-end b v.1 m.1 (Encoding.half m.0) sm.0 in
      let eu = span-end b m.1 u.1 ub su.span in
      let long : m.0 ≡ length ub = omega arith in
      let two : m.1 ≡ p + 1 + length vb + 2 = omega (arith, s.1) in
      let three : u.1 ≡ p + 1 + length vb + 2 + length ub = omega (arith, s.1) in
      let hu = span_join b v.1 m.1 u.1 (Encoding.half (length ub)) ub (subst (λ y. Span b v.1 m.1 (Encoding.half y)) long sm.0) su.span in
      let pu : Encoding.body_from (p + 1 + length vb + 2) u.0 ≡ u.0 = ap (λ o. Encoding.body_from o u.0) (sym two) ∙ su.places in
      let pw : Encoding.body_from (p + 1 + length vb + 2 + length ub) w.0 ≡ w.0 = ap (λ o. Encoding.body_from o w.0) (sym three) ∙ sw.places in
      record {
        span = span_join b p z w.1 (2 ∷ []) (vb ++ (Encoding.counted ub ++ wb)) s
            (span_join b z v.1 w.1 vb (Encoding.counted ub ++ wb) sv.span
            (span_join b v.1 u.1 w.1 (Encoding.counted ub) wb hu sw.span));
        fits = (sv.fits, omega (arith, sm.1), su.fits, sw.fits);
        ifs = omega (arith, su.ifs, sw.ifs);
        places = λ i. branch p (record { place = sym s.1 i; value = v.0 }) (pu i) (pw i);
      }

  next_of : (n p z : ℕ) (o : Operation) (vs : List Operand) (m y : ℕ) (u : Body × ℕ) → Span b p z (3 ∷ []) → CallSaid z o vs m y → BodySaid n y u → BodySaid n p (call p o vs m u.0, u.1)
  next_of n p z o vs m y u s sg su =
      let vb = Encoding.values vs in
      let four : z + 3 ≡ p + 4 = omega (arith, s.1) in
      let next : y ≡ p + 4 + length vb + 1 = omega (arith, s.1, sg.stop) in
      let pg : Encoding.values_from (p + 4) vs ≡ vs = ap (λ o. Encoding.values_from o vs) (sym four) ∙ sg.places in
      let pu : Encoding.body_from (p + 4 + length vb + 1) u.0 ≡ u.0 = ap (λ o. Encoding.body_from o u.0) (sym next) ∙ su.places in
      record {
        span = span_join b p z u.1 (3 ∷ []) (kind o ∷ index o ∷ length vs ∷ vb ++ (m ∷ Encoding.body u.0)) s (sg.span u.1 (Encoding.body u.0) su.span);
        fits = (sg.fits, su.fits);
        ifs = su.ifs;
        places = λ i. call p o (pg i) m (pu i);
      }

  -- one node, where what follows it is as it was written
  node-said : (rest : ℕ → ℕ → Read Body) → ((n p : ℕ) (x : Body × ℕ) → n ≤ 16 → rest n p ≡ Ok x → BodySaid n p x)
      → (n p : ℕ) (x : Body × ℕ) → n ≤ 16 → then (node_at b e f n p) (λ h. followed rest f n p h.0 h.1) ≡ Ok x → BodySaid n p x
  node-said rest said n p x l h =
      let g = then_ok (node_at b e f n p) _ x h in
      let t = then_ok (byte_at b e f p) _ g.0 g.1 in
      elim (which (eqb t.0.0 1) _ _ (Ok g.0) t.2) [
        | inl k ↦ return-said t.0.1 g.0 (byte_is p 1 t.0 t.1 (eqb-true _ 1 k.0)) k.1 g.2
        | inr k ↦ elim (which (eqb t.0.0 2) _ _ (Ok g.0) k.1) [
          | inl k ↦ branch-said t.0.1 g.0 (byte_is p 2 t.0 t.1 (eqb-true _ 2 k.0)) k.1 g.2
          | inr k ↦ let j = pass_ok (eqb t.0.0 3) _ _ g.0 k.1 in call-said t.0.1 g.0 (byte_is p 3 t.0 t.1 (eqb-true _ 3 j.0)) j.1 g.2
        ]
      ]
    where
      on : (h g : Head × ℕ) → h ≡ g → followed rest f n p g.0 g.1 ≡ Ok x → followed rest f n p h.0 h.1 ≡ Ok x
      on h g q k = ap (λ (y : Head × ℕ). followed rest f n p y.0 y.1) q ∙ k

      return-said : (z : ℕ) (g : Head × ℕ) → Span b p z (1 ∷ []) → then (list_at b e f z) (λ a. Ok (returns a.0, a.1)) ≡ Ok g → followed rest f n p g.0 g.1 ≡ Ok x → BodySaid n p x
      return-said z g s k q =
          let a = then_ok (list_at b e f z) _ g k in
          let r = on (returns a.0.0, a.0.1) g (ok_same _ g a.2) q in
          subst (BodySaid n p) (ok_same (return p a.0.0, a.0.1) x r) (return_of n p z a.0 s l (list_said z a.0 a.1))

      branch-said : (z : ℕ) (g : Head × ℕ) → Span b p z (2 ∷ []) → if_at b e f n p z ≡ Ok g → followed rest f n p g.0 g.1 ≡ Ok x → BodySaid n p x
      branch-said z g s k q =
          let i = shun_ok (leb 16 n) _ _ g k in
          let v = then_ok (value_at b e f z) _ g i.1 in
          let m = then_ok (half_at b e f v.0.1) _ g v.2 in
          let r = on (branches (record { place = z; value = v.0.0 }) v.0.1 m.0.0, m.0.1) g (ok_same _ g m.2) q in
          let u = then_ok (rest (n + 1) m.0.1) _ x r in
          let c = pass_ok (eqb (u.0.1 - m.0.1) m.0.0) _ _ x u.2 in
          let w = then_ok (rest (n + 1) u.0.1) _ x c.1 in
          let low : n + 1 ≤ 16 = omega (arith, leb-false 16 n i.0) in
          let sv = value_said z v.0 v.1 in
          let sm = half_said v.0.1 m.0 m.1 in
          let su = said (n + 1) m.0.1 u.0 low u.1 in
          let sw = said (n + 1) u.0.1 w.0 low w.1 in
          subst (BodySaid n p) (ok_same (branch p (record { place = z; value = v.0.0 }) u.0.0 w.0.0, w.0.1) x w.2) (branch-of n p z v.0 m.0 u.0 w.0 s sv sm (eqb-true _ _ c.0) su sw)

      call-said : (z : ℕ) (g : Head × ℕ) → Span b p z (3 ∷ []) → call_at b e f z ≡ Ok g → followed rest f n p g.0 g.1 ≡ Ok x → BodySaid n p x
      call-said z g s h o =
          let k = then_ok (byte_at b e f z) _ g h in
          let i = then_ok (byte_at b e f k.0.1) _ g k.2 in
          let a = then_ok (list_at b e f i.0.1) _ g i.2 in
          let m = then_ok (count_at b e f a.0.1) _ g a.2 in
          let r = on (calls (operation k.0.0 i.0.0) a.0.0 m.0.0, m.0.1) g (ok_same _ g m.2) o in
          let u = then_ok (rest n m.0.1) _ x r in
          let sc = call-of z k.0 i.0 a.0 m.0 (byte_said z k.0 k.1) (byte_said k.0.1 i.0 i.1) (list_said i.0.1 a.0 a.1) (range_said q.ListLength 0 8 a.0.1 m.0 m.1) in
          subst (BodySaid n p) (ok_same (call p (operation k.0.0 i.0.0) a.0.0 m.0.0 u.0.0, u.0.1) x u.2)
          (next_of n p z (operation k.0.0 i.0.0) a.0.0 m.0.0 m.0.1 u.0 s sc (said n m.0.1 u.0 l u.1))

  never-ok : {X : Type 0} (x : Fault) (y : X) → ◌≡◌ {A = Result X Fault} (Err x) (Ok y) → ⊥
  never-ok x y h = let z : ◌≡◌ {A = ℕ} 0 1 = cc in omega arith

  pub body_said : (k n p : ℕ) (x : Body × ℕ) → n ≤ 16 → body_by b e f k n p ≡ Ok x → BodySaid n p x
  unfolding body_by
  body_said zero n p x l h = absurd (never-ok _ x h)
  body_said (suc k) n p x l h = node-said (body_by b e f k) (body_said k) n p x l h
