-- The questions put to a body are answered yes exactly where it has a derivation and keeps the limits.
use Rattle.std.proofs.Common.{◌≡◌, ℕ, ◌+◌, ◌≤◌, ◌&&◌, T, eqb, leb, List, [], ◌++◌, map, length, Ok, sym, subst, arith, le→leb, eqb→eq, leb→le, length-append}
use lib.ListN.{length-map}
use Rattle.reader.specs.Syntax.{Body, return, branch, call, Function, Program}
use Rattle.reader.proofs.Results.{then_ok, go}
use Rattle.typing.specs.Signatures.{Ty, ◌⇒◌, signature, callee_depth}
use Rattle.typing.specs.Typing.{Entry, has, Ctx, Unlent, Every, ◌∣◌⊢ᵉ◌⦂◌, Room, Deep}
use Rattle.typing.specs.Marks.{gives, test, all_spent, is_tail, depth_holds, body}
use Rattle.typing.specs.Theorems.{BodiesDecided}
use Rattle.typing.proofs.Answered.{ask_ok, ok_ask, asked_ok, ok_asked, known_ok, ok_known}
use Rattle.typing.proofs.Tests.{and_left, and_right, and_both, eq→eqb, DeepHere, depth-sound, depth_complete}
use Rattle.typing.proofs.Given.{test-given, given-test, gives-uses, uses-gives, uses-count, uses-length}
use Rattle.typing.proofs.Inversion.{by_node}

-- what is bound after a call
pub grown : (H H' : Ctx) (σs : List Ty) (j : ℕ) → length H' ≡ length H → j ≡ length σs → length (H' ++ map has σs) ≡ length H + j
grown H H' σs j l m = let a = length-append H' (map has σs) in let b = length-map {B = Entry} σs has in omega arith

sound : (P : Program) (i : ℕ) (F : Function) → Every Unlent F.results → (H : Ctx) (e : Body) → body P i F H e ≡ Ok tt
    → (P ∣ H ⊢ᵉ e ⦂ F.results) × Room (length H) e × Deep P F.depth (length H) e
sound P i F u H (return p vs) h =
    let (c, r) = asked_ok _ _ _ (eqb (length vs) (length F.results)) _ h in
    let (H', g, s) = then_ok (gives i H [] vs F.results) _ tt r in (
      (by_node P F.results H (return p vs)).1
          record {
            left = H';
            uses = gives-uses i vs F.results H [] H' (eqb→eq (length vs) (length F.results) c) g;
            spent = ask_ok _ _ _ (all_spent H') s;
            unlent = u;
          },
      tt,
      tt,
    )
sound P i F u H (branch p v e₁ e₂) h =
    let (_, t, r) = then_ok (test i H v) _ tt h in
    let (_, a₁, a₂) = then_ok (body P i F H e₁) _ tt r in
    let (d₁, r₁, p₁) = sound P i F u H e₁ a₁ in
    let (d₂, r₂, p₂) = sound P i F u H e₂ a₂ in
    ((by_node P F.results H (branch p v e₁ e₂)).1 record { tested = test-given i H v t; then_first = d₁; or_second = d₂ }, (r₁, r₂), (p₁, p₂))
sound P i F u H (call p f vs j e) h =
    let (s, found, r) = known_ok _ _ _ (signature P f) _ h in
    let (c, r₁) = asked_ok _ _ _ (eqb (length vs) (length s.params) && eqb j (length s.results)) _ r in
    let (H', g, r₂) = then_ok (gives i H [] vs s.params) _ tt r₁ in
    let (few, r₃) = asked_ok _ _ _ (leb (length H' + j) 16) _ r₂ in
    let (deep, r₄) = asked_ok _ _ _ (depth_holds F.depth (callee_depth P f) (is_tail (length H') j e)) _ r₃ in
    let l : length vs ≡ length s.params = eqb→eq (length vs) (length s.params) (and_left (eqb (length vs) (length s.params)) (eqb j (length s.results)) c) in
    let m : j ≡ length s.results = eqb→eq j (length s.results) (and_right (eqb (length vs) (length s.params)) (eqb j (length s.results)) c) in
    let us = gives-uses i vs s.params H [] H' l g in
    let same : length H' ≡ length H = uses-length us in
    let (de, re, pe) = sound P i F u (H' ++ map has s.results) e r₄ in
    let n = grown H H' s.results j same m in (
      (by_node P F.results H (call p f vs j e)).1
          record { params = s.params; results = s.results; left = H'; callee = found; count = m; uses = us; rest = de },
      ((let k : length H' + j ≤ 16 = leb→le (length H' + j) 16 few in omega arith), subst (λ k. Room k e) n re),
      (
        depth-sound F.depth (callee_depth P f) (length H) j e (subst (λ k. T (depth_holds F.depth (callee_depth P f) (is_tail k j e))) same deep),
        subst (λ k. Deep P F.depth k e) n pe,
      ),
    )

complete : (P : Program) (i : ℕ) (F : Function) (H : Ctx) (e : Body) → P ∣ H ⊢ᵉ e ⦂ F.results → Room (length H) e → Deep P F.depth (length H) e
    → body P i F H e ≡ Ok tt
complete P i F H (return p vs) d room deep =
    let n = (by_node P F.results H (return p vs)).0 d in
    ok_asked _ _ _ (eqb (length vs) (length F.results)) _ (eq→eqb (uses-count n.uses))
    (go _ (uses-gives i n.uses) (ok_ask _ _ _ (all_spent n.left) n.spent))
complete P i F H (branch p v e₁ e₂) d room deep =
    let n = (by_node P F.results H (branch p v e₁ e₂)).0 d in
    go _ (given-test i v n.tested)
    (go _ (complete P i F H e₁ n.then_first room.0 deep.0) (complete P i F H e₂ n.or_second room.1 deep.1))
complete P i F H (call p f vs j e) d room deep =
    let n = (by_node P F.results H (call p f vs j e)).0 d in
    let H' = n.left in
    let same : length H' ≡ length H = uses-length n.uses in
    let more = sym (grown H H' n.results j same n.count) in
    let few : length H' + j ≤ 16 = (let k = room.0 in omega arith) in
    ok_known _ _ _ (signature P f) _ (n.params ⇒ n.results) n.callee
    (ok_asked _ _ _ (eqb (length vs) (length n.params) && eqb j (length n.results)) _
    (and_both (eqb (length vs) (length n.params)) (eqb j (length n.results)) (eq→eqb (uses-count n.uses)) (eq→eqb n.count))
    (go _ (uses-gives i n.uses)
    (ok_asked _ _ _ (leb (length H' + j) 16) _ (le→leb (length H' + j) 16 few)
    (ok_asked _ _ _ (depth_holds F.depth (callee_depth P f) (is_tail (length H') j e)) _
    (depth_complete F.depth (callee_depth P f) (length H') j e (subst (λ k. DeepHere F.depth (callee_depth P f) k j e) (sym same) deep.0))
    (complete P i F (H' ++ map has n.results) e n.rest (subst (λ k. Room k e) more room.1) (subst (λ k. Deep P F.depth k e) more deep.1))))))

pub bodies_decided : BodiesDecided
bodies_decided P i F u H e = ((λ h. sound P i F u H e h), λ t. complete P i F H e t.0 t.1 t.2)
