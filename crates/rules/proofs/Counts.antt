-- How often names stand in variables, frames and threads, and the laws of such sums.
use Rattle.std.proofs.Common.{◌≡◌, ℕ, zero, suc, ◌+◌, ◌<◌, ◌≤◌, ◌≢◌, ◌⊎◌, List, [], ◌∷◌, ◌++◌, length, get_or, set, Some, None, Option, sym, refl, ap, subst, inl, inr, le_of_suc-le-suc, not-suc-le-zero, zero-add, arith}
use mathlib.Core.Option.{some, some-injective, none-ne-some}
use lib.ListN.{get_elem?}
use Rattle.store.specs.declared.name.Name.{Name}
use Rattle.store.specs.Names.{same_refl}
use Rattle.store.specs.Packets.{Packet, Packets, lookup}
use Rattle.store.proofs.Maps.{apart-same}
use Rattle.rules.specs.State.{Held, nothing, integer, truth, owner, alias, Frame, frame, Thread, frames, put}
use Rattle.rules.specs.Promises.{total, is}
use Rattle.rules.proofs.Puts.{same?, lookup-same, lookup_other}

-- as an owner, and as an alias
abbrev pub own : Name → Held → ℕ
own n nothing = 0
own n (integer k) = 0
own n (truth b) = 0
own n (owner m) = is n m
own n (alias m) = 0

abbrev pub borrow : Name → Held → ℕ
borrow n nothing = 0
borrow n (integer k) = 0
borrow n (truth b) = 0
borrow n (owner m) = 0
borrow n (alias m) = is n m

abbrev pub owned : Name → List Held → ℕ
owned n vs = total (own n) vs

abbrev pub borrowed : Name → List Held → ℕ
borrowed n vs = total (borrow n) vs

-- as an owner in a frame, in frames, in a thread, and in all threads
abbrev pub in_frame : Name → Frame → ℕ
in_frame n (frame f b vs) = owned n vs

abbrev pub in_frames : Name → List Frame → ℕ
in_frames n fs = total (in_frame n) fs

abbrev pub held : Name → Thread → ℕ
held n r = in_frames n (frames r)

abbrev pub held_by : Name → List Thread → ℕ
held_by n rs = total (held n) rs

abbrev pub present : Option Packet → ℕ
present None = 0
present (Some p) = 1

abbrev pub alive : Name → Packets → ℕ
alive n ps = present (lookup n ps)

-- Sums.
pub total-append : {A : Type 0} (f : A → ℕ) (xs ys : List A) → total f (xs ++ ys) ≡ total f xs + total f ys
total-append f [] ys = sym (zero-add (total f ys))
total-append f (x ∷ xs) ys = let h = total-append f xs ys in omega arith

pub total-set : {A : Type 0} (f : A → ℕ) (xs : List A) (i : ℕ) (d y : A) → i < length xs → total f (set xs i y) + f (get_or xs i d) ≡ total f xs + f y
total-set f [] i d y h = absurd (not-suc-le-zero h)
total-set f (x ∷ xs) zero d y h = omega arith
total-set f (x ∷ xs) (suc i) d y h = let r = total-set f xs i d y (le_of_suc-le-suc h) in omega arith

pub total-put : {A : Type 0} (f : A → ℕ) (xs : List A) (i : ℕ) (x y : A) → get_elem? xs i ≡ some x → total f (set xs i y) + f x ≡ total f xs + f y
total-put f [] i x y h = absurd (none-ne-some x h)
total-put f (z ∷ xs) zero x y h = let e : f z ≡ f x = ap f (some-injective z x h) in omega arith
total-put f (z ∷ xs) (suc i) x y h = let r = total-put f xs i x y h in omega arith

-- an element counts in the sum, and two elements do
pub total-at : {A : Type 0} (f : A → ℕ) (xs : List A) (i : ℕ) (x : A) → get_elem? xs i ≡ some x → f x ≤ total f xs
total-at f [] i x h = absurd (none-ne-some x h)
total-at f (z ∷ xs) zero x h = let e : f z ≡ f x = ap f (some-injective z x h) in omega arith
total-at f (z ∷ xs) (suc i) x h = let r = total-at f xs i x h in omega arith

pub total_get_or : {A : Type 0} (f : A → ℕ) (xs : List A) (i : ℕ) (d : A) → f d ≡ 0 → f (get_or xs i d) ≤ total f xs
total_get_or f [] i d z = omega arith
total_get_or f (x ∷ xs) zero d z = omega arith
total_get_or f (x ∷ xs) (suc i) d z = let h = total_get_or f xs i d z in omega arith

pub total_two : {A : Type 0} (f : A → ℕ) (xs : List A) (i j : ℕ) (d : A) → f d ≡ 0 → i ≢ j → f (get_or xs i d) + f (get_or xs j d) ≤ total f xs
total_two f [] i j d z ne = omega arith
total_two f (x ∷ xs) zero zero d z ne = absurd (ne refl)
total_two f (x ∷ xs) zero (suc j) d z ne = let h = total_get_or f xs j d z in omega arith
total_two f (x ∷ xs) (suc i) zero d z ne = let h = total_get_or f xs i d z in omega arith
total_two f (x ∷ xs) (suc i) (suc j) d z ne = let h = total_two f xs i j d z (λ e. ne (ap suc e)) in omega arith

pub pos_split : (a b : ℕ) → 0 < a + b → (0 < a) ⊎ (0 < b)
pos_split zero b h = inr (omega arith)
pos_split (suc a) b h = inl (omega arith)

-- Names.
pub is_same : (n : Name) → is n n ≡ 1
unfolding is
is_same n = rw (same_refl n, is)

pub is_other : (n m : Name) → n ≢ m → is n m ≡ 0
unfolding is
is_other n m h = rw (apart-same n m h, is)

pub is-at-most : (n m : Name) → is n m ≤ 1
is-at-most n m = go (same? n m)
  where
    go : Dec (n ≡ m) → is n m ≤ 1
    go (yes e) = let h = is_same n in let k = ap (is n) e in omega arith
    go (no e) = let h = is_other n m e in omega arith

-- a positive count is an equation
pub is_found : (n m : Name) → 0 < is n m → n ≡ m
is_found n m h = go (same? n m)
  where
    go : Dec (n ≡ m) → n ≡ m
    go (yes e) = e
    go (no e) = let k = is_other n m e in absurd (omega arith)

pub present-at-most : (o : Option Packet) → present o ≤ 1
present-at-most None = omega arith
present-at-most (Some p) = omega arith

pub present-some : (o : Option Packet) → 0 < present o → (p : Packet) × (o ≡ Some p)
present-some None h = absurd (not-suc-le-zero h)
present-some (Some p) h = (p, refl)

pub some_same : {o : Option Packet} {p q : Packet} → o ≡ Some p → o ≡ Some q → p ≡ q
some_same h k = cc

-- what a packet of the name n counts for the name m
abbrev pub weight : Name → Name → Option Packet → ℕ
weight m n None = 0
weight m n (Some p) = is m n

weight-same : (n : Name) (o : Option Packet) → weight n n o ≡ present o
weight-same n None = refl
weight-same n (Some p) = is_same n

weight_other : (m n : Name) (o : Option Packet) → m ≢ n → weight m n o ≡ 0
weight_other m n None h = refl
weight_other m n (Some p) h = is_other m n h

-- what a packet put in its place does to the count of those alive
pub alive-put : (m n : Name) (o : Option Packet) (ps : Packets) → alive m (put n o ps) + weight m n (lookup n ps) ≡ alive m ps + weight m n o
alive-put m n o ps = go (same? m n)
  where
    go : Dec (m ≡ n) → alive m (put n o ps) + weight m n (lookup n ps) ≡ alive m ps + weight m n o
    go (yes p) = subst (λ (k : Name). alive m (put k o ps) + weight m k (lookup k ps) ≡ alive m ps + weight m k o) p here
      where
        here : alive m (put m o ps) + weight m m (lookup m ps) ≡ alive m ps + weight m m o
        here = let a = ap present (lookup-same m o ps) in let b = weight-same m (lookup m ps) in let c = weight-same m o in omega arith
    go (no p) = let a = ap present (lookup_other m n o ps p) in let b = weight_other m n (lookup n ps) p in let c = weight_other m n o p in omega arith
