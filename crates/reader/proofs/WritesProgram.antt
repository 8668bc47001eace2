-- A program that is read was written.
use Rattle.std.proofs.Common.{◌≡◌, ℕ, zero, suc, ◌+◌, ◌-◌, ◌<◌, ◌≤◌, true, ◌&&◌, eqb, leb, List, [], ◌∷◌, ◌++◌, length, get_or, Ok, sym, refl, ap, ◌∙◌, subst, inl, inr, arith}
use Rattle.std.proofs.lemmas.Bool.{leb-true, eqb-true, and_parts}
use Rattle.reader.specs.declared.questions.Question.TheVariants as q
use Rattle.reader.specs.Fields as fields
use Rattle.reader.specs.Fields.{Read, then, byte_at, half_at, type_at, range_at, count_at}
use Rattle.reader.specs.declared.types.Ty.{Ty}
use Rattle.reader.specs.declared.types.Ty.TheVariants as t
use Rattle.reader.specs.declared.headers.Header.{Header}
use Rattle.reader.specs.Syntax.{Body, Function, Program}
use Rattle.reader.specs.Nodes.{body_at}
use Rattle.reader.specs.Programs.{types_at, signature_at, ended, record_in, record_at, records_at, length_ok, header_at, program_in, reading}
use Rattle.reader.specs.Encoding
use Rattle.reader.specs.Encoding.{Limits, FitsFunction, Writes}
use Rattle.reader.specs.Spans.{Span}
use Rattle.reader.proofs.Spans.{span-end, span_join, span-whole}
use Rattle.reader.proofs.Results.{then_ok, pass_ok, which, ok_same}
use Rattle.reader.proofs.WritesRead.{byte_is, half_said, range_said, BodySaid, body_said}
use Rattle.reader.proofs.ReadsProgram.{types_long}

pub ended_ok : {X : Type 0} (e f : ℕ) (r : Read X) (x : X × ℕ) → ended e f r ≡ Ok x → (r ≡ Ok x) × (x.1 ≡ e)
ended_ok e f r x h =
    let y = then_ok r _ x h in
    let c = pass_ok (eqb y.0.1 e) _ (Ok y.0) x y.2 in
    (y.1 ∙ c.1, sym (ap (λ z. z.1) (ok_same y.0 x c.1)) ∙ eqb-true _ _ c.0)

module _ (b : List ℕ) (small : (i : ℕ) → get_or b i 0 < 256) where
  type-said : (e f p : ℕ) (x : Ty × ℕ) → type_at b e f p ≡ Ok x → Span b p x.1 (Encoding.type x.0 ∷ [])
  type-said e f p x h =
      let n = then_ok (byte_at b e f p) _ x h in
      elim (which (eqb n.0.0 1) _ _ (Ok x) n.2) [
        | inl k ↦ said t.Int n.0 n.1 (eqb-true _ 1 k.0) k.1
        | inr k ↦
            elim (which (eqb n.0.0 2) _ _ (Ok x) k.1) [
              | inl k ↦ said t.Bool n.0 n.1 (eqb-true _ 2 k.0) k.1
              | inr k ↦
                  elim (which (eqb n.0.0 3) _ _ (Ok x) k.1) [
                    | inl k ↦ said t.Packet n.0 n.1 (eqb-true _ 3 k.0) k.1
                    | inr k ↦
                        let j = pass_ok (eqb n.0.0 4) _ _ x k.1 in said t.Alias n.0 n.1 (eqb-true _ 4 j.0) j.1
                  ]
            ]
      ]
    where
      said : (u : Ty) (n : ℕ × ℕ) → byte_at b e f p ≡ Ok n → n.0 ≡ Encoding.type u → ◌≡◌ {A = Read Ty} (Ok (u, n.1)) (Ok x) → Span b p x.1 (Encoding.type x.0 ∷ [])
      said u n r c k = subst (λ (y : Ty × ℕ). Span b p y.1 (Encoding.type y.0 ∷ [])) (ok_same (u, n.1) x k) (byte_is b small e f p (Encoding.type u) n r c)

  record TypesSaid (n p : ℕ) (x : List Ty × ℕ) : Type 0 where
    long : length x.0 ≡ n
    span : Span b p x.1 (Encoding.types x.0)

  types-said : (e f n p : ℕ) (x : List Ty × ℕ) → types_at b e f n p ≡ Ok x → TypesSaid n p x
  types-said e f zero p x h = subst (TypesSaid zero p) (ok_same ([], p) x h) (record { long = refl; span = refl })
  types-said e f (suc n) p x h =
      let u = then_ok (type_at b e f p) _ x h in
      let us = then_ok (types_at b e f n u.0.1) _ x u.2 in
      let ss = types-said e f n u.0.1 us.0 us.1 in
      subst (TypesSaid (suc n) p) (ok_same (u.0.0 ∷ us.0.0, us.0.1) x us.2) (record {
        long = ap suc ss.long;
        span = span_join b p u.0.1 us.0.1 (Encoding.type u.0.0 ∷ []) (Encoding.types us.0.0) (type-said e f p u.0 u.1) ss.span;
      })

  record SignatureSaid (p : ℕ) (x : List Ty × ℕ) : Type 0 where
    span : Span b p x.1 (length x.0 ∷ Encoding.types x.0)
    short : length x.0 ≤ 8
    stop : x.1 ≡ p + 1 + length x.0

  signature-said : (e f p : ℕ) (x : List Ty × ℕ) → signature_at b e f p ≡ Ok x → SignatureSaid p x
  signature-said e f p x h =
      let n = then_ok (count_at b e f p) _ x h in
      let c = range_said b small e f q.ListLength 0 8 p n.0 n.1 in
      let s = types-said e f n.0.0 n.0.1 x n.2 in
      let m = span-end b n.0.1 x.1 (Encoding.types x.0) s.span in
      record {
        span = span_join b p n.0.1 x.1 (length x.0 ∷ []) (Encoding.types x.0) (c.span.0 ∙ sym s.long, c.span.1) s.span;
        short = omega (arith, c.most, s.long);
        stop = omega (arith, c.span.1, types_long b x.0);
      }

  record ContentsSaid (o p : ℕ) (x : Function × ℕ) : Type 0 where
    span : Span b p x.1 (Encoding.contents x.0)
    depth : x.0.depth ≤ 7
    params : length x.0.params ≤ 8
    results : length x.0.results ≤ 8
    body : Encoding.FitsBody x.0.body
    ifs : Encoding.ifs x.0.body ≤ 16
    places : record { place = o; depth = x.0.depth; params = x.0.params; results = x.0.results; body = Encoding.body_from (p + 2 + length x.0.params + 1 + length x.0.results) x.0.body } ≡ x.0

  contents-said : (e f o p : ℕ) (x : Function × ℕ) → record_in b e f o p ≡ Ok x → ContentsSaid o p x × (x.1 ≡ e)
  contents-said e f o p x h =
      let d = then_ok (range_at q.DepthLimit 0 7 b e f p) _ x h in
      let ps = then_ok (signature_at b e f d.0.1) _ x d.2 in
      let rs = then_ok (signature_at b e f ps.0.1) _ x ps.2 in
      let n = ended_ok e f _ x rs.2 in
      let t = then_ok (body_at b e f 0 rs.0.1) _ x n.0 in
      let sd = range_said b small e f q.DepthLimit 0 7 p d.0 d.1 in
      let sp = signature-said e f d.0.1 ps.0 ps.1 in
      let sr = signature-said e f ps.0.1 rs.0 rs.1 in
      let st = body_said b small e f (e - rs.0.1) 0 rs.0.1 t.0 (omega arith) t.1 in
      (subst (ContentsSaid o p) (ok_same (record { place = o; depth = d.0.0; params = ps.0.0; results = rs.0.0; body = t.0.0 }, t.0.1) x t.2) (contents-of d.0 ps.0 rs.0 t.0 sd.span sd.most sp sr st), n.1)
    where
      contents-of : (d : ℕ × ℕ) (ps rs : List Ty × ℕ) (t : Body × ℕ) → Span b p d.1 (d.0 ∷ []) → d.0 ≤ 7 → SignatureSaid d.1 ps → SignatureSaid ps.1 rs → BodySaid b small e f 0 rs.1 t
          → ContentsSaid o p (record { place = o; depth = d.0; params = ps.0; results = rs.0; body = t.0 }, t.1)
      contents-of d ps rs t sd ld sp sr st =
          let start : rs.1 ≡ p + 2 + length ps.0 + 1 + length rs.0 = omega (arith, sd.1, sp.stop, sr.stop) in
          let pt : Encoding.body_from (p + 2 + length ps.0 + 1 + length rs.0) t.0 ≡ t.0 = ap (λ y. Encoding.body_from y t.0) (sym start) ∙ st.places in
          record {
            span = span_join b p d.1 t.1 (d.0 ∷ []) (length ps.0 ∷ Encoding.types ps.0 ++ (length rs.0 ∷ Encoding.types rs.0 ++ Encoding.body t.0)) sd
                (span_join b d.1 ps.1 t.1 (length ps.0 ∷ Encoding.types ps.0) (length rs.0 ∷ Encoding.types rs.0 ++ Encoding.body t.0) sp.span
                (span_join b ps.1 rs.1 t.1 (length rs.0 ∷ Encoding.types rs.0) (Encoding.body t.0) sr.span st.span));
            depth = ld;
            params = sp.short;
            results = sr.short;
            body = st.fits;
            ifs = omega (arith, st.ifs);
            places = λ i. record { place = o; depth = d.0; params = ps.0; results = rs.0; body = pt i };
          }

  record FunctionSaid (p : ℕ) (x : Function × ℕ) : Type 0 where
    span : Span b p x.1 (Encoding.counted (Encoding.contents x.0))
    fits : FitsFunction x.0
    places : Encoding.function_from p x.0 ≡ x.0

  function-said : (e f p : ℕ) (x : Function × ℕ) → record_at b e f p ≡ Ok x → FunctionSaid p x
  function-said e f p x h =
      let n = then_ok (half_at b e f p) _ x h in
      let c = pass_ok (leb (n.0.1 + n.0.0) e) _ _ x n.2 in
      let s = half_said b small e f p n.0 n.1 in
      let i = contents-said (n.0.1 + n.0.0) f p n.0.1 x c.1 in
      function_of n.0 s i.0 i.1
    where
      function_of : (n : ℕ × ℕ) → Span b p n.1 (Encoding.half n.0) × (n.0 < 65536) → ContentsSaid p n.1 x → x.1 ≡ n.1 + n.0 → FunctionSaid p x
      function_of n s i last =
          let ib = Encoding.contents x.0 in
          let ei = span-end b n.1 x.1 ib i.span in
          let en = span-end b p n.1 (Encoding.half n.0) s.0 in
          let long : n.0 ≡ length ib = omega arith in
          let start : p + 4 + length x.0.params + 1 + length x.0.results ≡ n.1 + 2 + length x.0.params + 1 + length x.0.results = omega arith in
          record {
            span = span_join b p n.1 x.1 (Encoding.half (length ib)) ib (subst (λ y. Span b p n.1 (Encoding.half y)) long s.0) i.span;
            fits = record { depth = i.depth; params = i.params; results = i.results; body = i.body; ifs = i.ifs; long = omega (arith, s.1) };
            places = (λ j. record { place = p; depth = x.0.depth; params = x.0.params; results = x.0.results; body = Encoding.body_from (start j) x.0.body }) ∙ i.places;
          }

  record FunctionsSaid (n p : ℕ) (x : List Function × ℕ) : Type 0 where
    long : length x.0 ≡ n
    span : Span b p x.1 (Encoding.functions x.0)
    fits : Encoding.FitsFunctions x.0
    places : Encoding.functions_from p x.0 ≡ x.0

  functions-said : (e n f p : ℕ) (x : List Function × ℕ) → records_at b e n f p ≡ Ok x → FunctionsSaid n p x
  functions-said e zero f p x h = subst (FunctionsSaid zero p) (ok_same ([], p) x h) (record { long = refl; span = refl; fits = tt; places = refl })
  functions-said e (suc n) f p x h =
      let g = then_ok (record_at b e f p) _ x h in
      let gs = then_ok (records_at b e n (suc f) g.0.1) _ x g.2 in
      let s = function-said e f p g.0 g.1 in
      let ss = functions-said e n (suc f) g.0.1 gs.0 gs.1 in
      subst (FunctionsSaid (suc n) p) (ok_same (g.0.0 ∷ gs.0.0, gs.0.1) x gs.2) (more n p g.0 gs.0 s ss)
    where
      more : (n p : ℕ) (g : Function × ℕ) (gs : List Function × ℕ) → FunctionSaid p g → FunctionsSaid n g.1 gs → FunctionsSaid (suc n) p (g.0 ∷ gs.0, gs.1)
      more n p g gs s ss =
          let m = span-end b p g.1 (Encoding.counted (Encoding.contents g.0)) s.span in
          let pr : Encoding.functions_from (p + length (Encoding.counted (Encoding.contents g.0))) gs.0 ≡ gs.0 = ap (λ y. Encoding.functions_from y gs.0) (sym m) ∙ ss.places in
          record {
            long = ap suc ss.long;
            span = span_join b p g.1 gs.1 (Encoding.counted (Encoding.contents g.0)) (Encoding.functions gs.0) s.span ss.span;
            fits = (s.fits, ss.fits);
            places = λ i. s.places i ∷ pr i;
          }

  record HeaderSaid (x : Header × ℕ) : Type 0 where
    span : Span b 2 x.1 (1 ∷ x.0.threads ∷ x.0.queues ∷ x.0.functions ∷ [])
    some : 1 ≤ x.0.threads
    threads : x.0.threads ≤ 8
    queues : x.0.queues ≤ 6
    bodies : x.0.threads ≤ x.0.functions
    functions : x.0.functions ≤ 64

  header-said : (e : ℕ) (x : Header × ℕ) → header_at b e 255 2 ≡ Ok x → HeaderSaid x
  header-said e x h =
      let v = then_ok (range_at q.Version 1 1 b e 255 2) _ x h in
      let t = then_ok (range_at q.ThreadCount 1 8 b e 255 v.0.1) _ x v.2 in
      let o = then_ok (range_at q.QueueCount 0 6 b e 255 t.0.1) _ x t.2 in
      let n = then_ok (range_at q.FunctionCount t.0.0 64 b e 255 o.0.1) _ x o.2 in
      let sv = range_said b small e 255 q.Version 1 1 2 v.0 v.1 in
      let st = range_said b small e 255 q.ThreadCount 1 8 v.0.1 t.0 t.1 in
      let so = range_said b small e 255 q.QueueCount 0 6 t.0.1 o.0 o.1 in
      let sn = range_said b small e 255 q.FunctionCount t.0.0 64 o.0.1 n.0 n.1 in
      let one : v.0.0 ≡ 1 = omega (arith, sv.least, sv.most) in
      subst HeaderSaid (ok_same _ x n.2) (record {
        span = span_join b 2 v.0.1 n.0.1 (1 ∷ []) (t.0.0 ∷ o.0.0 ∷ n.0.0 ∷ []) (sv.span.0 ∙ one, sv.span.1)
            (span_join b v.0.1 t.0.1 n.0.1 (t.0.0 ∷ []) (o.0.0 ∷ n.0.0 ∷ []) st.span
            (span_join b t.0.1 o.0.1 n.0.1 (o.0.0 ∷ []) (n.0.0 ∷ []) so.span sn.span));
        some = st.least;
        threads = st.most;
        queues = so.most;
        bodies = sn.least;
        functions = sn.most;
      })

  program_of : (h : Header × ℕ) (r : List Function × ℕ) → length_ok b ≡ true → HeaderSaid h → FunctionsSaid h.0.functions h.1 r → r.1 ≡ length b
      → Writes (record { threads = h.0.threads; queues = h.0.queues; functions = r.0 }) b
  program_of h r k sh sr last =
      let e = length b in
      let fb = Encoding.functions r.0 in
      let hb = 1 ∷ h.0.threads ∷ h.0.queues ∷ length r.0 ∷ [] in
      let ys = 1 ∷ h.0.threads ∷ h.0.queues ∷ length r.0 ∷ fb in
      let k1 = and_parts (leb 2 e && leb e 4096) (eqb (fields.half b 0 + 2) e) k in
      let k2 = and_parts (leb 2 e) (leb e 4096) k1.0 in
      let k3 = eqb-true (fields.half b 0 + 2) e k1.1 in
      let most = leb-true e 4096 k2.1 in
      let six = span-end b 2 h.1 (1 ∷ h.0.threads ∷ h.0.queues ∷ h.0.functions ∷ []) sh.span in
      let from-two : Span b 2 e ys = span_join b 2 h.1 e hb fb
      (subst (λ n. Span b 2 h.1 (1 ∷ h.0.threads ∷ h.0.queues ∷ n ∷ [])) (sym sr.long) sh.span) (subst (λ z. Span b h.1 z fb) last sr.span) in
      let long = span-end b 2 e ys from-two in
      let z0 = small 0 in
      let z1 = small 1 in
      let whole : Span b 0 e (Encoding.counted ys) = (omega arith, (omega arith, from-two)) in
      let is = span-whole b (Encoding.counted ys) whole in
      let pr : Encoding.functions_from 6 r.0 ≡ r.0 = ap (λ y. Encoding.functions_from y r.0) (sym six) ∙ sr.places in
      record {
        bytes = is;
        places = λ i. record { threads = h.0.threads; queues = h.0.queues; functions = pr i };
        limits = record {
          some = sh.some;
          threads = sh.threads;
          queues = sh.queues;
          bodies = omega (arith, sh.bodies, sr.long);
          functions = omega (arith, sh.functions, sr.long);
          each = sr.fits;
          total = omega (arith, ap length is);
        };
      }

  pub program_said : (P : Program) → reading b ≡ Ok P → Writes P b
  program_said P h =
      let e = length b in
      let c = pass_ok (length_ok b) _ _ P h in
      let w = then_ok (program_in b e) _ P c.1 in
      let g = then_ok (header_at b e 255 2) _ w.0 w.1 in
      let u = ended_ok e 255 _ w.0 g.2 in
      let r = then_ok (records_at b e g.0.0.functions 0 g.0.1) _ w.0 u.0 in
      let m = ok_same (record { threads = g.0.0.threads; queues = g.0.0.queues; functions = r.0.0 }, r.0.1) w.0 r.2 in
      subst (λ (Q : Program). Writes Q b) (ap (λ (y : Program × ℕ). y.0) m ∙ ok_same w.0.0 P w.2)
      (program_of g.0 r.0 c.0 (header-said e g.0 g.1) (functions-said e g.0.0.functions 0 g.0.1 r.0 r.1) (ap (λ (y : Program × ℕ). y.1) m ∙ u.1))
