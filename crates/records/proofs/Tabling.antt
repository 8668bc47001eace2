-- A table and the program that it stands for.
use Rattle.std.proofs.Common.{◌≡◌, ℕ, zero, suc, ◌+◌, ◌≤◌, ◌&&◌, leb, List, [], ◌∷◌, length, Ok, Err, Option, Result, sym, refl, ap, ◌∙◌, subst, arith, MatchOption, Some}
use mathlib.Core.Option.{none, some}
use lib.ListN.{get_elem?}
use Rattle.std.specs.Result.{result_ok}
use Rattle.std.proofs.lemmas.Bool.{leb-true, and_parts}
use Rattle.reader.specs.declared.questions.Question.{Question}
use Rattle.reader.specs.declared.questions.Question.TheVariants as q
use Rattle.reader.specs.declared.faults.Fault.{Fault}
use Rattle.reader.specs.declared.headers.Header.{Header}
use Rattle.reader.specs.Syntax.{Function, Program}
use Rattle.reader.specs.Fields.{byte_at, range_at}
use Rattle.reader.specs.Nodes.{body_at}
use Rattle.reader.specs.Programs.{records_at, length_ok, header_at, program_in, reading, header, headed}
use Rattle.reader.proofs.Results.{then_ok, pass_ok, ok_same}
use Rattle.std.proofs.lemmas.Result.{IfOk-at_ok}
use Rattle.reader.proofs.Lists.{range_after}
use Rattle.reader.proofs.Rows.{records-long}
use Rattle.reader.proofs.WritesProgram.{ended_ok}
use Rattle.std.specs.Prelude.{slice_get}
use Rattle.records.specs.declared.tables.Record.{Record}
use Rattle.records.specs.Tables.{places, Recorded}
use Rattle.records.specs.Glances.{Glance, glance, glanced, glance_at, starts}
use Rattle.records.proofs.Standing.{Parts, record_parts, glance_of, starts_are, Found, records-found}

range_most : (k : Question) (low high : ℕ) (b : List ℕ) (e f p : ℕ) (x : ℕ × ℕ) → range_at k low high b e f p ≡ Ok x → x.0 ≤ high
range_most k low high b e f p x h =
    let n = then_ok (byte_at b e f p) _ x h in
    let j = pass_ok (leb low n.0.0 && leb n.0.0 high) _ _ x n.2 in
    let l = leb-true n.0.0 high (and_parts (leb low n.0.0) (leb n.0.0 high) j.0).1 in
    omega (arith, ap (λ (y : ℕ × ℕ). y.0) (ok_same n.0 x j.1))

-- the counts end at 6, and say that there are at most 64 functions
header-ends : (b : List ℕ) (e : ℕ) (x : Header × ℕ) → header_at b e 255 2 ≡ Ok x → (x.1 ≡ 6) × (x.0.functions ≤ 64)
header-ends b e x h =
    let v = then_ok (range_at q.Version 1 1 b e 255 2) _ x h in
    let t = then_ok (range_at q.ThreadCount 1 8 b e 255 v.0.1) _ x v.2 in
    let o = then_ok (range_at q.QueueCount 0 6 b e 255 t.0.1) _ x t.2 in
    let n = then_ok (range_at q.FunctionCount t.0.0 64 b e 255 o.0.1) _ x o.2 in
    let a = range_after b e 255 q.Version 1 1 2 v.0 v.1 in
    let c = range_after b e 255 q.ThreadCount 1 8 v.0.1 t.0 t.1 in
    let d = range_after b e 255 q.QueueCount 0 6 t.0.1 o.0 o.1 in
    let g = range_after b e 255 q.FunctionCount t.0.0 64 o.0.1 n.0 n.1 in
    let l = range_most q.FunctionCount t.0.0 64 b e 255 o.0.1 n.0 n.1 in
    let m = ok_same (record { threads = t.0.0; queues = o.0.0; functions = n.0.0 }, n.0.1) x n.2 in
    (omega (arith, ap (λ (y : Header × ℕ). y.1) m), omega (arith, ap (λ (y : Header × ℕ). y.0.functions) m))

-- the records of a program that reads, one after the other from 6 up to the end
pub record Records (b : List ℕ) (P : Program) : Type 0 where
  pub read : records_at b (length b) (length P.functions) 0 6 ≡ Ok (P.functions, length b)
  pub most : length P.functions ≤ 64

pub program-records : (b : List ℕ) (P : Program) → reading b ≡ Ok P → Records b P
program-records b P h =
    let e = length b in
    let c = pass_ok (length_ok b) _ _ P h in
    let w = then_ok (program_in b e) _ P c.1 in
    let g = then_ok (header_at b e 255 2) _ w.0 w.1 in
    let u = ended_ok e 255 _ w.0 g.2 in
    let r = then_ok (records_at b e g.0.0.functions 0 g.0.1) _ w.0 u.0 in
    let m = ok_same (record { threads = g.0.0.threads; queues = g.0.0.queues; functions = r.0.0 }, r.0.1) w.0 r.2 in
    let fs : r.0.0 ≡ P.functions = ap (λ (y : Program × ℕ). y.0.functions) m ∙ ap (λ (Q : Program). Q.functions) (ok_same w.0.0 P w.2) in
    let last : r.0.1 ≡ e = ap (λ (y : Program × ℕ). y.1) m ∙ u.1 in
    let long = IfOk-at_ok (λ x. length x.0 ≡ g.0.0.functions) r.1 (records-long b e g.0.0.functions 0 g.0.1) in
    let k = header-ends b e g.0 g.1 in
    records_of g.0.0.functions g.0.1 r.0 r.1 fs last long k.0 k.1
  where
    records_of : (n z : ℕ) (r : List Function × ℕ) → records_at b (length b) n 0 z ≡ Ok r → r.0 ≡ P.functions → r.1 ≡ length b → length r.0 ≡ n → z ≡ 6 → n ≤ 64 → Records b P
    records_of n z r h fs last long six l =
        let count : length P.functions ≡ n = ap length (sym fs) ∙ long in
        record { read = (λ i. records_at b (length b) (count i) 0 (sym six i)) ∙ h ∙ (λ i. Ok (fs i, last i)); most = omega arith }

-- the record of each function of a program that reads is read where it stands; the next one begins where it ends
pub program-found : (b : List ℕ) (P : Program) (i : ℕ) (F : Function) → reading b ≡ Ok P → get_elem? P.functions i ≡ some F → Found b (length b) i P.functions i F
program-found b P i F h k =
    let r = records-found b (length b) (length P.functions) 0 6 i (P.functions, length b) F (program-records b P h).read k in
    let z : 0 + i ≡ i = omega arith in
    subst (λ (f : ℕ). Found b (length b) f P.functions i F) z r

-- its parts
pub program-parts : (b : List ℕ) (P : Program) (i : ℕ) (F : Function) → reading b ≡ Ok P → get_elem? P.functions i ≡ some F → Parts b (length b) i F.place F
program-parts b P i F h k = let f = program-found b P i F h k in (record_parts b (length b) i F.place (F, f.end) f.read).0

-- the counts that layer 1 answers, and the places that the lengths lead to, are those of the program
pub tabled : (b : List ℕ) (h : Header) (ps : List ℕ) → Ok h ≡ headed (reading b) → ps ≡ starts b (length b) h.functions 6
    → (P : Program) × (reading b ≡ Ok P) × (h ≡ header P) × (ps ≡ places P.functions)
tabled b h ps k s =
    let p = then_ok (reading b) (λ Q. Ok (header Q)) h (sym k) in
    let is = ok_same (header p.0) h p.2 in
    let r = program-records b p.0 p.1 in
    (p.0, p.1, sym is, s ∙ ap (λ (g : Header). starts b (length b) g.functions 6) (sym is) ∙ starts_are b (length b) (length p.0.functions) 0 6 (p.0.functions, length b) r.read)

pub functions-most : (b : List ℕ) (h : Header) → Ok h ≡ headed (reading b) → h.functions ≤ 64
functions-most b h k =
    let p = then_ok (reading b) (λ Q. Ok (header Q)) h (sym k) in
    omega (arith, ap (λ (g : Header). g.functions) (ok_same (header p.0) h p.2), (program-records b p.0 p.1).most)

-- what stands among the places for function i: the place of its record, if there is such a function
abbrev pub PlaceOf : List Function → ℕ → Option ℕ → Type 0
PlaceOf Fs i o = MatchOption o (get_elem? Fs i ≡ none) (λ p. (F : Function) × (get_elem? Fs i ≡ some F) × (p ≡ F.place))

pub place_of : (Fs : List Function) (i : ℕ) (o : Option ℕ) → o ≡ slice_get (places Fs) i → PlaceOf Fs i o
place_of Fs i o h = subst (PlaceOf Fs i) (sym h) (at Fs i)
  where
    at : (Fs : List Function) (i : ℕ) → PlaceOf Fs i (slice_get (places Fs) i)
    at [] i = refl
    at (F ∷ Fs) zero = (F, refl, refl)
    at (F ∷ Fs) (suc i) = at Fs i

-- what is read where the record of a function stands is what it says
pub recorded : (b : List ℕ) (P : Program) (i p : ℕ) (r : Result Record Fault) → reading b ≡ Ok P → Some p ≡ slice_get (places P.functions) i
    → glanced r ≡ glance_at b (length b) i p → Recorded b P i (result_ok r)
recorded b P i p r h at k =
    let f = place_of P.functions i (Some p) at in
    let s = program-parts b P i f.0 h f.1 in
    said r f.0 f.1 s (k ∙ ap (glance_at b (length b) i) f.2 ∙ glance_of b (length b) i f.0.place f.0 s)
  where
    said : (r : Result Record Fault) (F : Function) → get_elem? P.functions i ≡ some F → (s : Parts b (length b) i F.place F)
        → glanced r ≡ Ok (record { depth = F.depth; params = F.params; results = F.results; body = s.results; end = s.end }) → Recorded b P i (result_ok r)
    said (Err x) F g s k = absurd (let z : ◌≡◌ {A = ℕ} 0 1 = cc in omega arith)
    said (Ok r) F g s k =
        let m = ok_same (glance r) (record { depth = F.depth; params = F.params; results = F.results; body = s.results; end = s.end }) k in
        let body : r.body ≡ s.results = ap (λ (y : Glance). y.body) m in
        let end : r.end ≡ s.end = ap (λ (y : Glance). y.end) m in (
          F,
          g,
          record {
            depth = ap (λ (y : Glance). y.depth) m;
            params = ap (λ (y : Glance). y.params) m;
            results = ap (λ (y : Glance). y.results) m;
            body = (λ j. body_at b (end j) i 0 (body j)) ∙ s.body_read ∙ ap (λ z. Ok (F.body, z)) (sym end);
            inside = omega (arith, s.inside);
          },
        )
