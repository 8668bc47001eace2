-- A program that is written is read.
use Rattle.std.proofs.Common.{◌≡◌, ℕ, suc, ◌+◌, ◌-◌, ◌≤◌, List, [], ◌∷◌, ◌++◌, length, Ok, sym, refl, ap, ◌∙◌, subst, arith}
use Rattle.std.proofs.lemmas.Bool.{le-leb, eq-eqb, and_from}
use Rattle.reader.specs.declared.questions.Question.TheVariants as q
use Rattle.reader.specs.Fields as r
use Rattle.reader.specs.Fields.{type_at}
use Rattle.reader.specs.declared.types.Ty.{Ty}
use Rattle.reader.specs.declared.types.Ty.TheVariants as t
use Rattle.reader.specs.Syntax.{Function, Program}
use Rattle.reader.specs.Programs.{types_at, signature_at, record_in, record_at, records_at, header_at, reading}
use Rattle.reader.specs.Encoding
use Rattle.reader.specs.Encoding.{Limits, FitsFunction}
use Rattle.reader.specs.Spans.{Span}
use Rattle.reader.proofs.Spans.{span-end, span-first, span_second, span_same}
use Rattle.reader.proofs.Results.{go, pass}
use Rattle.reader.proofs.ReadsWritten.{byte_reads, range_reads, count-reads, half_is, half-reads, body_reads, half-first, half-second, half_third}

module _ (b : List ℕ) where
  type_reads : (e f : ℕ) (t : Ty) (p z : ℕ) → Span b p z (Encoding.type t ∷ []) → z ≤ e → type_at b e f p ≡ Ok (t, z)
  type_reads e f t.Int p z s l = go _ (byte_reads b e f 1 p z s l) refl
  type_reads e f t.Bool p z s l = go _ (byte_reads b e f 2 p z s l) refl
  type_reads e f t.Packet p z s l = go _ (byte_reads b e f 3 p z s l) refl
  type_reads e f t.Alias p z s l = go _ (byte_reads b e f 4 p z s l) refl

  types-read : (e f : ℕ) (ts : List Ty) (p z : ℕ) → Span b p z (Encoding.types ts) → z ≤ e → types_at b e f (length ts) p ≡ Ok (ts, z)
  types-read e f [] p z s l = ap (λ y. Ok ([], y)) (sym s)
  types-read e f (u ∷ ts) p z s l =
      let m = span-end b (p + 1) z (Encoding.types ts) s.1 in
      go _ (type_reads e f u p (p + 1) (s.0, refl) (omega arith)) (go _ (types-read e f ts (p + 1) z s.1 l) refl)

  signature-reads : (e f : ℕ) (ts : List Ty) (p z : ℕ) → Span b p z (length ts ∷ Encoding.types ts) → z ≤ e → length ts ≤ 8 → signature_at b e f p ≡ Ok (ts, z)
  signature-reads e f ts p z s l h =
      let m = span-end b (p + 1) z (Encoding.types ts) s.1 in
      go _ (count-reads b e f (length ts) p (p + 1) (s.0, refl) (omega arith) h) (types-read e f ts (p + 1) z s.1 l)

  pub types_long : (ts : List Ty) → length (Encoding.types ts) ≡ length ts
  types_long [] = refl
  types_long (t ∷ ts) = ap suc (types_long ts)

  contents-read : (e f o p : ℕ) (g : Function) → Span b p e (Encoding.contents g) → FitsFunction g
      → record_in b e f o p ≡ Ok (record { place = o; depth = g.depth; params = g.params; results = g.results; body = Encoding.body_from (p + 2 + length g.params + 1 + length g.results) g.body }, e)
  contents-read e f o p g s k =
      let tp = Encoding.types g.params in
      let tr = Encoding.types g.results in
      let bd = Encoding.body g.body in
      let a = span-first b (p + 1 + 1) e tp (length g.results ∷ tr ++ bd) s.1.1 in
      let c = span_second b (p + 1 + 1) e tp (length g.results ∷ tr ++ bd) s.1.1 in
      let d = span-first b (p + 1 + 1 + length tp + 1) e tr bd c.1 in
      let h = span_second b (p + 1 + 1 + length tp + 1) e tr bd c.1 in
      let m = span-end b _ e bd h in
      let start : p + 1 + 1 + length tp + 1 + length tr ≡ p + 2 + length g.params + 1 + length g.results = omega (arith, types_long g.params, types_long g.results) in
      go _ (range_reads b e f q.DepthLimit 0 7 g.depth p (p + 1) (s.0, refl) (omega arith) (omega arith) k.depth)
      (go _ (signature-reads e f g.params (p + 1) _ (s.1.0, a) (omega arith) k.params)
      (go _ (signature-reads e f g.results _ _ (c.0, d) (omega arith) k.results)
      (go _ (go _ (body_reads b e f g.body (e - (p + 1 + 1 + length tp + 1 + length tr)) 0 (p + 1 + 1 + length tp + 1 + length tr) e h (omega arith) k.body (omega (arith, k.ifs)) (omega arith)) refl)
      (pass _ (eq-eqb e e refl) (ap (λ y. Ok (record { place = o; depth = g.depth; params = g.params; results = g.results; body = Encoding.body_from y g.body }, e)) start)))))

  function-reads : (e f p z : ℕ) (g : Function) (ys : List ℕ) → Span b p z (Encoding.counted (Encoding.contents g) ++ ys) → z ≤ e → FitsFunction g
      → record_at b e f p ≡ Ok (Encoding.function_from p g, p + length (Encoding.counted (Encoding.contents g)))
  function-reads e f p z g ys s l k =
      let ib = Encoding.contents g in
      let a = half-first b e f p z ib ys s in
      let c = half-second b e f p z ib ys s in
      let m = span-end b _ z ys (half_third b e f p z ib ys s) in
      let last : p + 2 + length ib ≡ p + length (Encoding.counted ib) = omega arith in
      let start : p + 2 + 2 + length g.params + 1 + length g.results ≡ p + 4 + length g.params + 1 + length g.results = omega arith in
      go _ (half-reads b e f (length ib) p (p + 2) a (omega arith))
      (pass _ (le-leb (p + 2 + length ib) e (omega arith))
      (contents-read (p + 2 + length ib) f p (p + 2) g c k
      ∙ (λ i. Ok (record { place = p; depth = g.depth; params = g.params; results = g.results; body = Encoding.body_from (start i) g.body }, last i))))

  functions-read : (e f p z : ℕ) (gs : List Function) → Span b p z (Encoding.functions gs) → z ≤ e → Encoding.FitsFunctions gs → records_at b e (length gs) f p ≡ Ok (Encoding.functions_from p gs, z)
  functions-read e f p z [] s l k = ap (λ y. Ok ([], y)) (sym s)
  functions-read e f p z (g ∷ gs) s l k =
      go _ (function-reads e f p z g (Encoding.functions gs) s l k.0)
      (go _ (functions-read e (suc f) _ z gs (span_second b p z (Encoding.counted (Encoding.contents g)) (Encoding.functions gs) s) l k.1) refl)

  header-reads : (P : Program) (e : ℕ) → Span b 0 e (Encoding.encode P) → Limits P → 6 ≤ e
      → header_at b e 255 2 ≡ Ok (record { threads = P.threads; queues = P.queues; functions = length P.functions }, 6)
  header-reads P e s k l =
      go _ (range_reads b e 255 q.Version 1 1 1 2 3 (s.1.1.0, refl) (omega arith) (omega arith) (omega arith))
      (go _ (range_reads b e 255 q.ThreadCount 1 8 P.threads 3 4 (s.1.1.1.0, refl) (omega arith) k.some k.threads)
      (go _ (range_reads b e 255 q.QueueCount 0 6 P.queues 4 5 (s.1.1.1.1.0, refl) (omega arith) (omega arith) k.queues)
      (go _ (range_reads b e 255 q.FunctionCount P.threads 64 (length P.functions) 5 6 (s.1.1.1.1.1.0, refl) (omega arith) k.bodies k.functions) refl)))

  pub program-reads : (P : Program) → Encoding.encode P ≡ b → Limits P → reading b ≡ Ok (Encoding.located P)
  program-reads P h k =
      let e = length b in
      let long : length (Encoding.encode P) ≡ e = ap length h in
      let s : Span b 0 e (Encoding.encode P) = subst (Span b 0 e) (sym h) (span_same b) in
      let fs = Encoding.functions P.functions in
      let half = half_is b e 255 (suc (suc (suc (suc (length fs))))) 0 2 (s.0, (s.1.0, refl)) in
      pass _ (and_from _ _ (and_from _ _ (le-leb 2 e (omega arith)) (le-leb e 4096 (omega (arith, k.total)))) (eq-eqb (r.half b 0 + 2) e (omega arith)))
      (go _
      (go _ (header-reads P e s k (omega arith))
      (go _ (go _ (functions-read e 0 6 e P.functions s.1.1.1.1.1.1 (omega arith) k.each) refl)
      (pass _ (eq-eqb e e refl) refl)))
      refl)
