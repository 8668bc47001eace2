-- The records of a program that reads: where each stands, and what it says.
use Rattle.std.proofs.Common.{◌≡◌, ℕ, zero, suc, ◌+◌, ◌≤◌, true, false, ◌&&◌, leb, List, [], ◌∷◌, Ok, sym, refl, ap, ◌∙◌, subst, arith}
use mathlib.Core.Option.{some}
use lib.ListN.{get_elem?}
use Rattle.std.proofs.lemmas.Bool.{leb-true, le-leb}
use Rattle.reader.specs.declared.questions.Question.{Question}
use Rattle.reader.specs.declared.questions.Question.TheVariants as q
use Rattle.reader.specs.declared.types.Ty.{Ty}
use Rattle.reader.specs.Syntax.{Body, Function}
use Rattle.reader.specs.Fields.{denied, half, byte_at, half_at, range_at}
use Rattle.reader.specs.Nodes.{body_at}
use Rattle.reader.specs.Programs.{signature_at, record_in, record_at, records_at}
use Rattle.reader.proofs.Results.{then_ok, pass_ok, ok_same, go, pass}
use Rattle.reader.proofs.WritesProgram.{ended_ok}
use Rattle.records.specs.Tables.{places}
use Rattle.records.specs.Glances.{glance_in, glance_at, after, starts}

-- the record of function f at p, which is F, in bytes that end at e: its parts, one after the other
pub record Parts (b : List ℕ) (e f p : ℕ) (F : Function) : Type 0 where
  pub place : F.place ≡ p
  -- where it ends: its length leads there
  pub end : ℕ
  pub long : end ≡ p + 2 + half b p
  pub inside : end ≤ e
  -- where each part ends
  pub depth : ℕ
  pub params : ℕ
  pub results : ℕ
  pub depth_read : byte_at b end f (p + 2) ≡ Ok (F.depth, depth)
  pub params_read : signature_at b end f depth ≡ Ok (F.params, params)
  pub results_read : signature_at b end f params ≡ Ok (F.results, results)
  pub body_read : body_at b end f 0 results ≡ Ok (F.body, end)

range_byte : (k : Question) (low high : ℕ) (b : List ℕ) (e f p : ℕ) (x : ℕ × ℕ) → range_at k low high b e f p ≡ Ok x → byte_at b e f p ≡ Ok x
range_byte k low high b e f p x h =
    let n = then_ok (byte_at b e f p) _ x h in
    n.1 ∙ (pass_ok (leb low n.0.0 && leb n.0.0 high) _ _ x n.2).1

-- a record that is read has parts, and ends where its length leads
pub record_parts : (b : List ℕ) (e f p : ℕ) (x : Function × ℕ) → record_at b e f p ≡ Ok x → (s : Parts b e f p x.0) × (x.1 ≡ s.end)
record_parts b e f p x h =
    let n = then_ok (half_at b e f p) _ x h in
    let m = ok_same (half b p, p + 2) n.0 (pass_ok (leb (p + 2) e) _ _ n.0 n.1).1 in
    let c = pass_ok (leb (n.0.1 + n.0.0) e) _ _ x n.2 in
    parts (n.0.1 + n.0.0) n.0.1 (sym (ap (λ (y : ℕ × ℕ). y.1) m)) (omega (arith, ap (λ (y : ℕ × ℕ). y.0) m, ap (λ (y : ℕ × ℕ). y.1) m)) (leb-true _ e c.0) c.1
  where
    of_parts : (z s : ℕ) (d : ℕ × ℕ) (ps rs : List Ty × ℕ) (t : Body × ℕ) (x : Function × ℕ) → s ≡ p + 2 → z ≡ p + 2 + half b p → z ≤ e
        → byte_at b z f s ≡ Ok d → signature_at b z f d.1 ≡ Ok ps → signature_at b z f ps.1 ≡ Ok rs → body_at b z f 0 rs.1 ≡ Ok t
        → (record { place = p; depth = d.0; params = ps.0; results = rs.0; body = t.0 }, t.1) ≡ x → x.1 ≡ z
        → (s : Parts b e f p x.0) × (x.1 ≡ s.end)
    of_parts z s d ps rs t x at long l hd hp hr ht is last =
        let stop : t.1 ≡ z = ap (λ (y : Function × ℕ). y.1) is ∙ last in
        let G : Function = record { place = p; depth = d.0; params = ps.0; results = rs.0; body = t.0 } in
        let R : Parts b e f p G = record {
          place = refl;
          end = z;
          long = long;
          inside = l;
          depth = d.1;
          params = ps.1;
          results = rs.1;
          depth_read = ap (byte_at b z f) (sym at) ∙ hd;
          params_read = hp;
          results_read = hr;
          body_read = ht ∙ ap (λ y. Ok (t.0, y)) stop;
        } in
        subst (λ (y : Function × ℕ). (s : Parts b e f p y.0) × (y.1 ≡ s.end)) is (R, stop)

    parts : (z s : ℕ) → s ≡ p + 2 → z ≡ p + 2 + half b p → z ≤ e → record_in b z f p s ≡ Ok x → (s : Parts b e f p x.0) × (x.1 ≡ s.end)
    parts z s at long l h =
        let d = then_ok (range_at q.DepthLimit 0 7 b z f s) _ x h in
        let ps = then_ok (signature_at b z f d.0.1) _ x d.2 in
        let rs = then_ok (signature_at b z f ps.0.1) _ x ps.2 in
        let n = ended_ok z f _ x rs.2 in
        let t = then_ok (body_at b z f 0 rs.0.1) _ x n.0 in
        of_parts z s d.0 ps.0 rs.0 t.0 x at long l (range_byte q.DepthLimit 0 7 b z f s d.0 d.1) ps.1 rs.1 t.1 (ok_same _ x t.2) n.1

-- what a record with these parts says before its body
pub glance_of : (b : List ℕ) (e f p : ℕ) (F : Function) (s : Parts b e f p F)
    → glance_at b e f p ≡ Ok (record { depth = F.depth; params = F.params; results = F.results; body = s.results; end = s.end })
glance_of b e f p F s =
    let wide : p + 2 ≤ e = omega (arith, s.long, s.inside) in
    let room : p + 2 + half b p ≤ e = omega (arith, s.long, s.inside) in
    go (λ n. elim (leb (n.1 + n.0) e) [ true ↦ glance_in b (n.1 + n.0) f n.1 | false ↦ denied q.Inside f p ])
    (pass (denied q.Inside f p) (le-leb (p + 2) e wide) refl)
    (pass (denied q.Inside f p) (le-leb (p + 2 + half b p) e room)
    (ap (λ z. glance_in b z f (p + 2)) (sym s.long)
    ∙ go _ s.depth_read (go _ s.params_read (go _ s.results_read refl))))

-- the place after a record with these parts
pub after_of : (b : List ℕ) (e f p : ℕ) (F : Function) (s : Parts b e f p F) → after b e p ≡ s.end
after_of b e f p F s =
    let room : p + 2 + half b p ≤ e = omega (arith, s.long, s.inside) in
    pass e (le-leb (p + 2 + half b p) e room) (sym s.long)

module _ (b : List ℕ) (e : ℕ) where
  -- the lengths lead to the places of the records
  pub starts_are : (n f p : ℕ) (x : List Function × ℕ) → records_at b e n f p ≡ Ok x → starts b e n p ≡ places x.0
  starts_are zero f p x h = ap (λ (y : List Function × ℕ). places y.0) (ok_same ([], p) x h)
  starts_are (suc n) f p x h =
      let r = then_ok (record_at b e f p) _ x h in
      let rs = then_ok (records_at b e n (suc f) r.0.1) _ x r.2 in
      let s = record_parts b e f p r.0 r.1 in
      let tail = starts_are n (suc f) r.0.1 rs.0 rs.1 in
      let head = s.0.place in
      let on : after b e p ≡ r.0.1 = after_of b e f p r.0.0 s.0 ∙ sym s.1 in
      ap (λ q. p ∷ starts b e n q) on ∙ (λ j. sym head j ∷ tail j) ∙ ap (λ (y : List Function × ℕ). places y.0) (ok_same (r.0.0 ∷ rs.0.0, rs.0.1) x rs.2)

  -- the first of some records stands where they begin
  pub first-place : (n f p : ℕ) (x : List Function × ℕ) (F : Function) → records_at b e n f p ≡ Ok x → get_elem? x.0 0 ≡ some F → F.place ≡ p
  first-place zero f p x F h k =
      absurd (let m = ap (λ (y : List Function × ℕ). get_elem? y.0 0) (ok_same ([], p) x h) in let z : ◌≡◌ {A = ℕ} 0 1 = cc in omega arith)
  first-place (suc n) f p x F h k =
      let r = then_ok (record_at b e f p) _ x h in
      let rs = then_ok (records_at b e n (suc f) r.0.1) _ x r.2 in
      let s = record_parts b e f p r.0 r.1 in
      let m = ap (λ (y : List Function × ℕ). get_elem? y.0 0) (ok_same (r.0.0 ∷ rs.0.0, rs.0.1) x rs.2) in
      let o : r.0.0 ≡ F = cc in
      ap (λ (G : Function). G.place) (sym o) ∙ s.0.place

  -- the record of function f is read where it stands; the next record begins where it ends
  pub record Found (f : ℕ) (fs : List Function) (i : ℕ) (F : Function) : Type 0 where
    pub end : ℕ
    pub read : record_at b e f F.place ≡ Ok (F, end)
    pub inside : end ≤ e
    pub next : (G : Function) → get_elem? fs (suc i) ≡ some G → G.place ≡ end

  found_first : (n f p : ℕ) (r : Function × ℕ) (rs : List Function × ℕ) → record_at b e f p ≡ Ok r → records_at b e n (suc f) r.1 ≡ Ok rs
      → Found f (r.0 ∷ rs.0) zero r.0
  found_first n f p r rs h k =
      let s = record_parts b e f p r h in
      record {
        end = r.1;
        read = ap (record_at b e f) s.0.place ∙ h;
        inside = omega (arith, s.0.inside, s.1);
        next = λ G. first-place n (suc f) r.1 rs G k;
      }

  pub records-found : (n f p i : ℕ) (x : List Function × ℕ) (F : Function) → records_at b e n f p ≡ Ok x → get_elem? x.0 i ≡ some F → Found (f + i) x.0 i F
  records-found zero f p i x F h k =
      absurd (let m = ap (λ (y : List Function × ℕ). get_elem? y.0 i) (ok_same ([], p) x h) in let z : ◌≡◌ {A = ℕ} 0 1 = cc in omega arith)
  records-found (suc n) f p i x F h k =
      let r = then_ok (record_at b e f p) _ x h in
      let rs = then_ok (records_at b e n (suc f) r.0.1) _ x r.2 in
      let m = ok_same (r.0.0 ∷ rs.0.0, rs.0.1) x rs.2 in
      subst (λ (y : List Function × ℕ). Found (f + i) y.0 i F) m
      (at i r.0 rs.0 r.1 rs.1 (λ j G. records-found n (suc f) r.0.1 j rs.0 G rs.1) (ap (λ (y : List Function × ℕ). get_elem? y.0 i) m ∙ k))
    where
      at : (i : ℕ) (r : Function × ℕ) (rs : List Function × ℕ) → record_at b e f p ≡ Ok r → records_at b e n (suc f) r.1 ≡ Ok rs
          → ((j : ℕ) (G : Function) → get_elem? rs.0 j ≡ some G → Found (suc f + j) rs.0 j G)
          → get_elem? (r.0 ∷ rs.0) i ≡ some F → Found (f + i) (r.0 ∷ rs.0) i F
      at zero r rs h hs more k =
          let o : r.0 ≡ F = cc in
          let z : f ≡ f + 0 = omega arith in
          subst (λ (G : Function). Found (f + 0) (r.0 ∷ rs.0) 0 G) o (subst (λ (g : ℕ). Found g (r.0 ∷ rs.0) 0 r.0) z (found_first n f p r rs h hs))
      at (suc j) r rs h hs more k =
          let z : suc f + j ≡ f + suc j = omega arith in
          let t = subst (λ (g : ℕ). Found g rs.0 j F) z (more j F k) in
          record { end = t.end; read = t.read; inside = t.inside; next = t.next }
