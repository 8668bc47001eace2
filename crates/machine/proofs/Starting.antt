-- The threads, queues and counts as they begin.
use Rattle.std.proofs.Common.{◌≡◌, ℕ, zero, suc, ◌+◌, ◌<◌, ◌≤◌, List, [], ◌∷◌, ◌++◌, length, map, take, replicate, slice_set, Some, None, Option, refl, ap, ◌∙◌, arith}
use Rattle.std.specs.Option.{IsSome}
use Rattle.std.proofs.lemmas.List.{map-append, take_more_set, take-replicate}
use Rattle.std.proofs.Math.Option.{some, none}
use Rattle.std.proofs.Math.ListN.{get_elem?}
use Rattle.reader.specs.Syntax.{Function, Program}
use Rattle.store.specs.declared.name.Name.{Name}
use Rattle.store.specs.Meaning.{Meaning}
use Rattle.rules.specs.State.{frame, Thread, running}
use Rattle.rules.specs.Calls.{starts, initial}
use Rattle.code.specs.declared.functions.Function.{Function as Copy}
use Rattle.code.specs.Copies.{Listed}

-- ---- a function that a program has is found
there : (fs : List Function) (i : ℕ) → i < length fs → get_elem? fs i ≡ none → ⊥
there [] i h e = omega arith
there (G ∷ fs) zero h e = cc
there (G ∷ fs) (suc i) h e = there fs i (omega arith) e

pub is_listed : (b : List ℕ) (P : Program) (i : ℕ) (r : Option Copy) → i < length P.functions → Listed b P i r → IsSome r
is_listed b P i (Some F) h l = refl
is_listed b P i None h l = absurd (there P.functions i h l)

-- ---- one thread more begins
starts_more : (i k : ℕ) (fs : List Function) (F : Function) → get_elem? fs k ≡ some F → starts i (suc k) fs ≡ starts i k fs ++ running (frame (i + k) F.body []) [] ∷ []
starts_more i k [] F e = absurd (cc)
starts_more i zero (G ∷ fs) F e = let g : G ≡ F = cc in let z : i ≡ i + 0 = omega arith in cc
starts_more i (suc k) (G ∷ fs) F e =
    let z : suc i + k ≡ i + suc k = omega arith in
    ap (λ (ts : List Thread). running (frame i G.body []) [] ∷ ts)
    (starts_more (suc i) k fs F e ∙ ap (λ (j : ℕ). starts (suc i) k fs ++ running (frame j F.body []) [] ∷ []) z)

pub begun_more : {X : Type 0} (f : X → Thread) (xs : List X) (i j : ℕ) (x : X) (fs : List Function) (F : Function) → map f (take i xs) ≡ starts 0 i fs → i < length xs → j ≡ i
    → f x ≡ running (frame i F.body []) [] → get_elem? fs i ≡ some F → map f (take (i + 1) (slice_set xs j x)) ≡ starts 0 (i + 1) fs
begun_more f xs i j x fs F begun inside at begins e =
    let more = starts_more 0 i fs F e in
    let z : 0 + i ≡ i = omega arith in
    let k : i + 1 ≡ suc i = omega arith in
    let left = ap (λ (j : ℕ). map f (take (i + 1) (slice_set xs j x))) at ∙ ap (map f) (take_more_set xs i x inside) ∙ map-append f (take i xs) (x ∷ []) in
    cc

-- ---- no name waits
pub none_wait : {X Y : Type 0} (f : X → Y) (k n : ℕ) (x : X) (y : Y) → k ≤ n → f x ≡ y → map f (take k (replicate n x)) ≡ replicate k y
none_wait f k n x y h e = ap (map f) (take-replicate k n x h) ∙ all k
  where
    all : (k : ℕ) → map f (replicate k x) ≡ replicate k y
    all zero = refl
    all (suc k) = let rest = all k in cc

pub initial_is : (P : Program) (limit : ℕ) (m : Meaning) (ts : List Thread) (qs : List (List Name)) (cs : List ℕ) → ts ≡ starts 0 P.threads P.functions → qs ≡ replicate (2 + P.queues) []
    → cs ≡ replicate (1 + P.threads) 0 → record { program = P; threads = ts; queues = qs; counts = cs; limit = limit; store = m } ≡ initial P limit m
initial_is P limit m ts qs cs h k l = cc
