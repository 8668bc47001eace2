-- Rows that grow by what is read: one more.
use Rattle.std.proofs.Common.{◌≡◌, ℕ, suc, ◌+◌, ◌-◌, ◌<◌, List, [], ◌∷◌, ◌++◌, Ok, Err, sym, refl, ap, ◌∙◌, arith}
use Rattle.std.proofs.lemmas.List.{append_assoc}
use Rattle.reader.specs.declared.types.Ty.{Ty}
use Rattle.reader.specs.Fields.{Read, then, type_at}
use Rattle.reader.specs.Programs.{types_at}
use Rattle.records.specs.Glances.{after, starts}

-- a list that was read, after a list that stands before it
abbrev pub joined : {X : Type 0} → List X → Read (List X) → Read (List X)
joined xs (Ok r) = Ok (xs ++ r.0, r.1)
joined xs (Err e) = Err e

joined_more : {X : Type 0} (xs : List X) (x : X) (r : Read (List X)) → joined xs (then r λ ys. Ok (x ∷ ys.0, ys.1)) ≡ joined (xs ++ x ∷ []) r
joined_more xs x (Ok r) = ap (λ ys. Ok (ys, r.1)) (sym (append_assoc xs (x ∷ []) r.0))
joined_more xs x (Err e) = refl

-- one more type
pub types-step : (b : List ℕ) (e f n i p q : ℕ) (u : Ty) (ts us : List Ty) (all : Read (List Ty)) → i < n → us ≡ ts ++ u ∷ [] → Ok (u, q) ≡ type_at b e f p
    → joined ts (types_at b e f (n - i) p) ≡ all → joined us (types_at b e f (n - (i + 1)) q) ≡ all
types-step b e f n i p q u ts us all l grown read h =
    let s : n - i ≡ suc (n - (i + 1)) = omega arith in
    ap (λ vs. joined vs (types_at b e f (n - (i + 1)) q)) grown
    ∙ sym (joined_more ts u (types_at b e f (n - (i + 1)) q))
    ∙ ap (λ r. joined ts (then r (λ (t : Ty × ℕ). then (types_at b e f (n - (i + 1)) t.1) λ vs. Ok (t.0 ∷ vs.0, vs.1)))) read
    ∙ ap (λ k. joined ts (types_at b e f k p)) (sym s)
    ∙ h

-- one more place, where the last record ended
pub starts-step : (b : List ℕ) (e n i p q : ℕ) (ps qs all : List ℕ) → i < n → qs ≡ ps ++ p ∷ [] → q ≡ after b e p
    → ps ++ starts b e (n - i) p ≡ all → qs ++ starts b e (n - (i + 1)) q ≡ all
starts-step b e n i p q ps qs all l grown moved h =
    let s : n - i ≡ suc (n - (i + 1)) = omega arith in
    (λ y. grown y ++ starts b e (n - (i + 1)) (moved y))
    ∙ append_assoc ps (p ∷ []) (starts b e (n - (i + 1)) (after b e p))
    ∙ ap (λ k. ps ++ starts b e k p) (sym s)
    ∙ h
