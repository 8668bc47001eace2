-- The limits of a program that was read, from whatever numbers.
use Rattle.std.proofs.Common.{◌≡◌, ℕ, zero, suc, ◌+◌, ◌≤◌, ◌&&◌, T, leb, List, [], ◌∷◌, length, Ok, sym, refl, ap, ◌∙◌, subst, leb→le}
use mathlib.Core.Option.{some, some-injective, none-ne-some}
use lib.ListN.{get_elem?}
use Rattle.reader.specs.declared.questions.Question.{Question}
use Rattle.reader.specs.declared.questions.Question.TheVariants as q
use Rattle.reader.specs.declared.types.Ty.{Ty}
use Rattle.reader.specs.declared.headers.Header.{Header}
use Rattle.reader.specs.Fields.{byte_at, half_at, range_at, count_at, type_at}
use Rattle.reader.specs.Nodes.{body_at}
use Rattle.reader.specs.Programs.{types_at, signature_at, record_in, record_at, records_at, length_ok, header_at, program_in, reading}
use Rattle.reader.specs.Syntax.{Function, Program}
use Rattle.reader.proofs.Results.{then_ok, pass_ok, ok_same}
use Rattle.reader.proofs.WritesProgram.{ended_ok}
use Rattle.typing.specs.Typing.{EachFunction}
use Rattle.typing.proofs.Tests.{and_left, and_right}

pub record Small (P : Program) : Type 0 where
  pub some_thread : 1 ≤ P.threads
  pub threads : P.threads ≤ 8
  pub queues : P.queues ≤ 6
  pub enough : P.threads ≤ length P.functions
  pub functions : length P.functions ≤ 64
  pub depths : EachFunction P (λ i F. F.depth ≤ 7)
  pub params : EachFunction P (λ i F. length F.params ≤ 8)

range_read : (b : List ℕ) (k : Question) (low high e f p : ℕ) (x : ℕ × ℕ) → range_at k low high b e f p ≡ Ok x → (low ≤ x.0) × (x.0 ≤ high)
range_read b k low high e f p x h =
    let n = then_ok (byte_at b e f p) _ x h in
    let (t, r) = pass_ok (leb low n.0.0 && leb n.0.0 high) _ (Ok n.0) x n.2 in
    let u : T (leb low n.0.0 && leb n.0.0 high) = subst T (sym t) tt in
    let m : n.0.0 ≡ x.0 = ap (λ (z : ℕ × ℕ). z.0) (ok_same n.0 x r) in
    (subst (λ z. low ≤ z) m (leb→le low n.0.0 (and_left (leb low n.0.0) (leb n.0.0 high) u)), subst (λ z. z ≤ high) m (leb→le n.0.0 high (and_right (leb low n.0.0) (leb n.0.0 high) u)))

types-read : (b : List ℕ) (e f n p : ℕ) (x : List Ty × ℕ) → types_at b e f n p ≡ Ok x → length x.0 ≡ n
types-read b e f zero p x h = ap (λ (z : List Ty × ℕ). length z.0) (sym (ok_same ([], p) x h))
types-read b e f (suc n) p x h =
    let t = then_ok (type_at b e f p) _ x h in
    let ts = then_ok (types_at b e f n t.0.1) _ x t.2 in
    ap (λ (z : List Ty × ℕ). length z.0) (sym (ok_same (t.0.0 ∷ ts.0.0, ts.0.1) x ts.2)) ∙ ap suc (types-read b e f n t.0.1 ts.0 ts.1)

signature-read : (b : List ℕ) (e f p : ℕ) (x : List Ty × ℕ) → signature_at b e f p ≡ Ok x → length x.0 ≤ 8
signature-read b e f p x h =
    let n = then_ok (count_at b e f p) _ x h in
    subst (λ z. z ≤ 8) (sym (types-read b e f n.0.0 n.0.1 x n.2)) (range_read b q.ListLength 0 8 e f p n.0 n.1).1

abbrev Fits : Function → Type 0
Fits F = (F.depth ≤ 7) × (length F.params ≤ 8)

contents-read : (b : List ℕ) (e f o p : ℕ) (x : Function × ℕ) → record_in b e f o p ≡ Ok x → Fits x.0
contents-read b e f o p x h =
    let d = then_ok (range_at q.DepthLimit 0 7 b e f p) _ x h in
    let ps = then_ok (signature_at b e f d.0.1) _ x d.2 in
    let rs = then_ok (signature_at b e f ps.0.1) _ x ps.2 in
    let n = ended_ok e f _ x rs.2 in
    let t = then_ok (body_at b e f 0 rs.0.1) _ x n.0 in
    subst (λ (z : Function × ℕ). Fits z.0) (ok_same (record { place = o; depth = d.0.0; params = ps.0.0; results = rs.0.0; body = t.0.0 }, t.0.1) x t.2)
    ((range_read b q.DepthLimit 0 7 e f p d.0 d.1).1, signature-read b e f d.0.1 ps.0 ps.1)

record_read : (b : List ℕ) (e f p : ℕ) (x : Function × ℕ) → record_at b e f p ≡ Ok x → Fits x.0
record_read b e f p x h =
    let n = then_ok (half_at b e f p) _ x h in
    let c = pass_ok (leb (n.0.1 + n.0.0) e) _ (record_in b (n.0.1 + n.0.0) f p n.0.1) x n.2 in
    contents-read b (n.0.1 + n.0.0) f p n.0.1 x c.1

abbrev Each : List Function → Type 0
Each fs = (i : ℕ) (F : Function) → get_elem? fs i ≡ some F → Fits F

each_more : (G : Function) (fs : List Function) → Fits G → Each fs → Each (G ∷ fs)
each_more G fs g e zero F h = subst Fits (some-injective G F h) g
each_more G fs g e (suc i) F h = e i F h

records-read : (b : List ℕ) (e n f p : ℕ) (x : List Function × ℕ) → records_at b e n f p ≡ Ok x → (length x.0 ≡ n) × Each x.0
records-read b e zero f p x h = subst (λ (z : List Function × ℕ). (length z.0 ≡ 0) × Each z.0) (ok_same ([], p) x h) (refl, λ i F k. absurd (none-ne-some F k))
records-read b e (suc n) f p x h =
    let g = then_ok (record_at b e f p) _ x h in
    let gs = then_ok (records_at b e n (suc f) g.0.1) _ x g.2 in
    let (l, r) = records-read b e n (suc f) g.0.1 gs.0 gs.1 in
    subst (λ (z : List Function × ℕ). (length z.0 ≡ suc n) × Each z.0) (ok_same (g.0.0 ∷ gs.0.0, gs.0.1) x gs.2)
    (ap suc l, each_more g.0.0 gs.0.0 (record_read b e f p g.0 g.1) r)

record Headed (x : Header × ℕ) : Type 0 where
  some_thread : 1 ≤ x.0.threads
  threads : x.0.threads ≤ 8
  queues : x.0.queues ≤ 6
  enough : x.0.threads ≤ x.0.functions
  functions : x.0.functions ≤ 64

header_read : (b : List ℕ) (e : ℕ) (x : Header × ℕ) → header_at b e 255 2 ≡ Ok x → Headed x
header_read b e x h =
    let v = then_ok (range_at q.Version 1 1 b e 255 2) _ x h in
    let t = then_ok (range_at q.ThreadCount 1 8 b e 255 v.0.1) _ x v.2 in
    let o = then_ok (range_at q.QueueCount 0 6 b e 255 t.0.1) _ x t.2 in
    let n = then_ok (range_at q.FunctionCount t.0.0 64 b e 255 o.0.1) _ x o.2 in
    let rt = range_read b q.ThreadCount 1 8 e 255 v.0.1 t.0 t.1 in
    let rn = range_read b q.FunctionCount t.0.0 64 e 255 o.0.1 n.0 n.1 in
    subst Headed (ok_same (record { threads = t.0.0; queues = o.0.0; functions = n.0.0 }, n.0.1) x n.2)
    (record { some_thread = rt.0; threads = rt.1; queues = (range_read b q.QueueCount 0 6 e 255 t.0.1 o.0 o.1).1; enough = rn.0; functions = rn.1 })

small_of : (h : Header × ℕ) (r : List Function × ℕ) → Headed h → (length r.0 ≡ h.0.functions) × Each r.0
    → Small (record { threads = h.0.threads; queues = h.0.queues; functions = r.0 })
small_of h r a (l, e) = record {
  some_thread = a.some_thread;
  threads = a.threads;
  queues = a.queues;
  enough = subst (λ n. h.0.threads ≤ n) (sym l) a.enough;
  functions = subst (λ n. n ≤ 64) (sym l) a.functions;
  depths = λ i F k. (e i F k).0;
  params = λ i F k. (e i F k).1;
}

pub reading_small : (b : List ℕ) (P : Program) → reading b ≡ Ok P → Small P
reading_small b P h =
    let g = pass_ok (length_ok b) _ _ P h in
    let x = then_ok (program_in b (length b)) _ P g.1 in
    let hd = then_ok (header_at b (length b) 255 2) _ x.0 x.1 in
    let n = ended_ok (length b) 255 _ x.0 hd.2 in
    let r = then_ok (records_at b (length b) hd.0.0.functions 0 hd.0.1) _ x.0 n.0 in
    subst Small (ok_same x.0.0 P x.2)
    (subst (λ (z : Program × ℕ). Small z.0) (ok_same (record { threads = hd.0.0.threads; queues = hd.0.0.queues; functions = r.0.0 }, r.0.1) x.0 r.2)
    (small_of hd.0 r.0 (header_read b (length b) hd.0 hd.1) (records-read b (length b) hd.0.0.functions 0 hd.0.1 r.0 r.1)))
