-- What is written is read: each part, from the place where its bytes stand.
use Rattle.std.proofs.Common.{◌≡◌, ℕ, zero, suc, ◌+◌, ◌-◌, ◌/◌, ◌%◌, ◌≤◌, true, false, List, [], ◌∷◌, ◌++◌, length, get_or, Ok, sym, refl, ap, ◌∙◌, subst, arith}
use Rattle.std.proofs.lemmas.Bool.{le-leb, lt-leb, eq-eqb, and_from}
use Rattle.reader.specs.declared.questions.Question.{Question}
use Rattle.reader.specs.declared.questions.Question.TheVariants as q
use Rattle.reader.specs.declared.values.Value.{Value}
use Rattle.reader.specs.declared.values.Value.TheVariants.{Integer, Truth, Variable}
use Rattle.reader.specs.Fields as r
use Rattle.reader.specs.Fields.{Read, denied, then, field_at, byte_at, half_at, word_at, value_at, values_at, range_at, count_at, list_at}
use Rattle.reader.specs.declared.values.Operand.{Operand}
use Rattle.reader.specs.declared.operations.Operation.{Operation}
use Rattle.reader.specs.Operations.{kind, index}
use Rattle.reader.specs.Syntax.{Body, return, branch, call}
use Rattle.reader.specs.Nodes.{calls, call_at, body_by}
use Rattle.reader.specs.Encoding
use Rattle.reader.specs.Spans.{Span}
use Rattle.reader.proofs.Results.{go, pass, shun}
use Rattle.reader.proofs.Spans.{span-end, span-first, span_second}

module _ (b : List ℕ) (e f : ℕ) where
  field-reads : (w n m p : ℕ) → n ≡ m → p + w ≤ e → field_at w n e f p ≡ Ok (m, p + w)
  field-reads w n m p h l = pass _ (le-leb (p + w) e l) (ap (λ x. Ok (x, p + w)) h)

  pub byte_reads : (x p z : ℕ) → Span b p z (x ∷ []) → z ≤ e → byte_at b e f p ≡ Ok (x, z)
  byte_reads x p z s l = field-reads 1 (get_or b p 0) x p s.0 (omega (arith, s.1)) ∙ ap (λ y. Ok (x, y)) (sym s.1)

  pub half_is : (n p z : ℕ) → Span b p z (Encoding.half n) → r.half b p ≡ n
  half_is n p z s = omega (arith, s.0, s.1.0)

  pub half-reads : (n p z : ℕ) → Span b p z (Encoding.half n) → z ≤ e → half_at b e f p ≡ Ok (n, z)
  half-reads n p z s l =
      let m = span-end b p z (Encoding.half n) s in
      field-reads 2 (r.half b p) n p (half_is n p z s) (omega arith) ∙ ap (λ y. Ok (n, y)) (omega arith)

  word-reads : (n p z : ℕ) → Span b p z (Encoding.word n) → z ≤ e → word_at b e f p ≡ Ok (n, z)
  word-reads n p z s l =
      let m = span-end b p z (Encoding.word n) s in
      let h = half_is (n / 65536) p (p + 2) (span-first b p z (Encoding.half (n / 65536)) (Encoding.half (n % 65536)) s) in
      let i = half_is (n % 65536) (p + 2) z (span_second b p z (Encoding.half (n / 65536)) (Encoding.half (n % 65536)) s) in
      let d : get_or b (p + 2 + 1) 0 ≡ get_or b (p + 3) 0 = ap (λ y. get_or b y 0) (omega arith) in
      field-reads 4 (r.word b p) n p (omega arith) (omega arith) ∙ ap (λ y. Ok (n, y)) (omega arith)

  pub value-reads : (v : Value) (p z : ℕ) → Span b p z (Encoding.value v) → z ≤ e → value_at b e f p ≡ Ok (v, z)
  value-reads (Integer n) p z s l =
      let m = span-end b p z (Encoding.value (Integer n)) s in
      go _ (byte_reads 16 p (p + 1) (s.0, refl) (omega arith)) (go _ (word-reads n (p + 1) z s.1 l) refl)
  value-reads (Truth false) p z s l =
      let m = span-end b p z (Encoding.value (Truth false)) s in
      go _ (byte_reads 17 p (p + 1) (s.0, refl) (omega arith)) (go _ (byte_reads 0 (p + 1) z s.1 l) refl)
  value-reads (Truth true) p z s l =
      let m = span-end b p z (Encoding.value (Truth true)) s in
      go _ (byte_reads 17 p (p + 1) (s.0, refl) (omega arith)) (go _ (byte_reads 1 (p + 1) z s.1 l) refl)
  value-reads (Variable i) p z s l =
      let m = span-end b p z (Encoding.value (Variable i)) s in
      go _ (byte_reads 18 p (p + 1) (s.0, refl) (omega arith)) (go _ (byte_reads i (p + 1) z s.1 l) refl)

  pub values-read : (vs : List Operand) (p z : ℕ) → Span b p z (Encoding.values vs) → z ≤ e → values_at b e f (length vs) p ≡ Ok (Encoding.values_from p vs, z)
  values-read [] p z s l = ap (λ y. Ok ([], y)) (sym s)
  values-read (v ∷ vs) p z s l =
      let a = span-first b p z (Encoding.value v.value) (Encoding.values vs) s in
      let c = span_second b p z (Encoding.value v.value) (Encoding.values vs) s in
      let m = span-end b _ z (Encoding.values vs) c in
      go _ (value-reads v.value p _ a (omega arith)) (go _ (values-read vs _ z c l) refl)

  pub range_reads : (k : Question) (low high n p z : ℕ) → Span b p z (n ∷ []) → z ≤ e → low ≤ n → n ≤ high → range_at k low high b e f p ≡ Ok (n, z)
  range_reads k low high n p z s l g h = go _ (byte_reads n p z s l) (pass _ (and_from _ _ (le-leb low n g) (le-leb n high h)) refl)

  pub count-reads : (n p z : ℕ) → Span b p z (n ∷ []) → z ≤ e → n ≤ 8 → count_at b e f p ≡ Ok (n, z)
  count-reads n p z s l h = range_reads q.ListLength 0 8 n p z s l (omega arith) h

  pub list_reads : (vs : List Operand) (p z : ℕ) → Span b p z (length vs ∷ Encoding.values vs) → z ≤ e → length vs ≤ 8 → list_at b e f p ≡ Ok (Encoding.values_from (p + 1) vs, z)
  list_reads vs p z s l h =
      let m = span-end b (p + 1) z (Encoding.values vs) s.1 in
      go _ (count-reads (length vs) p (p + 1) (s.0, refl) (omega arith) h) (values-read vs (p + 1) z s.1 l)

  -- what is preceded by its length, and what follows it
  pub half-first : (p z : ℕ) (xs ys : List ℕ) → Span b p z (Encoding.counted xs ++ ys) → Span b p (p + 2) (Encoding.half (length xs))
  half-first p z xs ys s = (s.0, (s.1.0, omega arith))

  pub half-second : (p z : ℕ) (xs ys : List ℕ) → Span b p z (Encoding.counted xs ++ ys) → Span b (p + 2) (p + 2 + length xs) xs
  half-second p z xs ys s = span-first b (p + 2) z xs ys (subst (λ w. Span b w z (xs ++ ys)) (omega arith) s.1.1)

  pub half_third : (p z : ℕ) (xs ys : List ℕ) → Span b p z (Encoding.counted xs ++ ys) → Span b (p + 2 + length xs) z ys
  half_third p z xs ys s = span_second b (p + 2) z xs ys (subst (λ w. Span b w z (xs ++ ys)) (omega arith) s.1.1)

  call-reads : (o : Operation) (vs : List Operand) (n p z : ℕ) (ys : List ℕ) → Span b p z (kind o ∷ index o ∷ length vs ∷ Encoding.values vs ++ (n ∷ ys)) → z ≤ e → Encoding.FitsCall o vs n
      → call_at b e f p ≡ Ok (calls o (Encoding.values_from (p + 1 + 1 + 1) vs) n, p + 1 + 1 + 1 + length (Encoding.values vs) + 1)
  call-reads o vs n p z ys s l k =
      let a = span-first b (p + 1 + 1 + 1) z (Encoding.values vs) (n ∷ ys) s.1.1.1 in
      let c = span_second b (p + 1 + 1 + 1) z (Encoding.values vs) (n ∷ ys) s.1.1.1 in
      let m = span-end b _ z ys c.1 in
      go _ (byte_reads (kind o) p (p + 1) (s.0, refl) (omega arith))
      (go _ (byte_reads (index o) (p + 1) (p + 1 + 1) (s.1.0, refl) (omega arith))
      (go _ (list_reads vs (p + 1 + 1) _ (s.1.1.0, a) (omega arith) k.few)
      (go _ (count-reads n _ _ (c.0, refl) (omega arith) k.results)
      (ap (λ w. Ok (calls w (Encoding.values_from (p + 1 + 1 + 1) vs) n, p + 1 + 1 + 1 + length (Encoding.values vs) + 1)) k.operation.named))))

  pub body_reads : (t : Body) (k n p z : ℕ) → Span b p z (Encoding.body t) → z ≤ e → Encoding.FitsBody t → n + Encoding.ifs t ≤ 16 → z ≤ p + k → body_by b e f k n p ≡ Ok (Encoding.body_from p t, z)
  unfolding body_by
  body_reads (return o vs) zero n p z s l x i h = absurd (omega (arith, span-end b p z (Encoding.body (return o vs)) s))
  body_reads (branch o v u w) zero n p z s l x i h = absurd (omega (arith, span-end b p z (Encoding.body (branch o v u w)) s))
  body_reads (call o g vs m u) zero n p z s l x i h = absurd (omega (arith, span-end b p z (Encoding.body (call o g vs m u)) s))
  body_reads (return o vs) (suc k) n p z s l x i h =
      let m = span-end b p z (Encoding.body (return o vs)) s in
      go _ (go _ (byte_reads 1 p (p + 1) (s.0, refl) (omega arith)) (go _ (list_reads vs (p + 1) z s.1 l x.0) refl))
      (ap (λ y. Ok (return p (Encoding.values_from y vs), z)) (omega arith))
  body_reads (branch o v u w) (suc k) n p z s l x i h =
      let m = span-end b p z (Encoding.body (branch o v u w)) s in
      let vb = Encoding.value v.value in
      let a = span-first b (p + 1) z vb (Encoding.counted (Encoding.body u) ++ Encoding.body w) s.1 in
      let c = span_second b (p + 1) z vb (Encoding.counted (Encoding.body u) ++ Encoding.body w) s.1 in
      let fu = half-second (p + 1 + length vb) z (Encoding.body u) (Encoding.body w) c in
      let fw = half_third (p + 1 + length vb) z (Encoding.body u) (Encoding.body w) c in
      let mw = span-end b _ z (Encoding.body w) fw in
      go _
      (go _ (byte_reads 2 p (p + 1) (s.0, refl) (omega arith))
      (shun _ (lt-leb 16 n (omega arith))
      (go _ (value-reads v.value (p + 1) _ a (omega arith))
      (go _ (half-reads (length (Encoding.body u)) _ _ (half-first (p + 1 + length vb) z (Encoding.body u) (Encoding.body w) c) (omega arith)) refl))))
      (go _ (body_reads u k (n + 1) _ _ fu (omega arith) x.2 (omega arith) (omega arith))
      (pass _ (eq-eqb (p + 1 + length vb + 2 + length (Encoding.body u) - (p + 1 + length vb + 2)) (length (Encoding.body u)) (omega arith))
      (go _ (body_reads w k (n + 1) _ z fw l x.3 (omega arith) (omega arith)) refl)))
  body_reads (call o g vs m u) (suc k) n p z s l x i h =
      let c = span_second b (p + 1 + 1 + 1 + 1) z (Encoding.values vs) (m ∷ Encoding.body u) s.1.1.1.1 in
      let d = span-end b _ z (Encoding.body u) c.1 in
      go _ (go _ (byte_reads 3 p (p + 1) (s.0, refl) (omega arith)) (call-reads g vs m (p + 1) z (Encoding.body u) s.1 l x.0))
      (go _ (body_reads u k n _ z c.1 l x.1 i (omega arith))
      (ap (λ y. Ok (call p g (Encoding.values_from y vs) m (Encoding.body_from (y + length (Encoding.values vs) + 1) u), z)) (omega arith)))
