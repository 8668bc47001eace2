-- Aliases stay below their owners.
use Rattle.std.proofs.Common.{◌≡◌, ℕ, zero, suc, ◌<◌, ◌⊎◌, List, [], ◌∷◌, set, refl, ap, ◌∙◌, subst, inl, inr, ⊎_elim, not-suc-le-zero, arith}
use mathlib.Core.Option.{some, some-injective, none-ne-some}
use lib.ListN.{get_elem?}
use Rattle.reader.specs.declared.types.Ty.{Ty}
use Rattle.reader.specs.declared.types.Ty.TheVariants.{Packet as packet}
use Rattle.reader.specs.declared.values.Value.{Value}
use Rattle.reader.specs.declared.values.Operand.{Operand}
use Rattle.reader.specs.declared.operations.Operation.{Operation}
use Rattle.typing.specs.Typing.{absent, has, Ctx, Every, every_more, Unlent}
use Rattle.typing.proofs.Whole.{typed-unlent}
use Rattle.store.specs.declared.name.Name.{Name}
use Rattle.rules.specs.State.{Held, nothing, owner, alias, Frame, frame, Thread, frames, State, Effect}
use Rattle.rules.specs.Rules.{Give, Gives, Operates, Rule}
use Rattle.rules.proofs.Counts.{own, borrow, owned, borrowed, in_frames, total-append, total-put, total-at, pos_split}
use Rattle.rules.proofs.Contexts.{Leave, Leaves}
use Rattle.rules.proofs.Typed.{type, types, same_some, give-leaves, gives-leave, owned_none}
use Rattle.rules.proofs.Frames.{Placed, at_node, called, function-signature, tail-called, types-length, gives_at}

-- An alias names a packet whose owner stands further down.
abbrev pub Lent : List Frame → Type 0
Lent [] = Unit {0}
Lent (frame f b vs ∷ fs) = ((n : Name) → 0 < borrowed n vs → 0 < in_frames n fs) × Lent fs

-- giving makes no alias where it gives from
give-borrowed : (n : Name) {vs ws : List Held} {a : Value} {τ : Ty} {x : Held} → Give vs a τ x ws → borrowed n ws ≡ borrowed n vs
give-borrowed n Give.an_integer = refl
give-borrowed n Give.a_truth = refl
give-borrowed n (Give.copy_integer h) = refl
give-borrowed n (Give.copy_truth h) = refl
give-borrowed n (Give.copy_alias h) = refl
give-borrowed n (Give.lend h) = refl
give-borrowed n (Give.spend {vs} {x} {n = m} h) = let r = total-put (borrow n) vs x (owner m) nothing h in omega arith

gives-borrowed : (n : Name) {vs us : List Held} {as' : List Operand} {τs : List Ty} {xs : List Held} → Gives vs as' τs xs us → borrowed n us ≡ borrowed n vs
gives-borrowed n Gives.no_more = refl
gives-borrowed n (Gives.one_more h r) = gives-borrowed n r ∙ give-borrowed n h

-- no operation gives an alias
operates-borrowed : (n : Name) {s : State} {t : ℕ} {op : Operation} {xs rs : List Held} {e : Effect} → Operates s t op xs e rs → borrowed n rs ≡ 0
operates-borrowed n Operates.computes = omega arith
operates-borrowed n Operates.compares = omega arith
operates-borrowed n Operates.connects = omega arith
operates-borrowed n (Operates.makes a b c) = omega arith
operates-borrowed n (Operates.kills a) = omega arith
operates-borrowed n (Operates.reads_inside a b) = omega arith
operates-borrowed n (Operates.reads_outside a b) = omega arith
operates-borrowed n (Operates.updates_inside a b) = omega arith
operates-borrowed n (Operates.updates_outside a b) = omega arith
operates-borrowed n (Operates.dequeues a b) = omega arith
operates-borrowed n (Operates.enqueues a) = omega arith

give-unlent : (n : Name) {vs ws : List Held} {a : Value} {τ : Ty} {x : Held} → Give vs a τ x ws → Unlent τ → borrow n x ≡ 0
give-unlent n Give.an_integer u = refl
give-unlent n Give.a_truth u = refl
give-unlent n (Give.copy_integer h) u = refl
give-unlent n (Give.copy_truth h) u = refl
give-unlent n (Give.copy_alias h) u = elim u [ ]
give-unlent n (Give.lend h) u = elim u [ ]
give-unlent n (Give.spend h) u = refl

gives-unlent : (n : Name) {vs us : List Held} {as' : List Operand} {τs : List Ty} {xs : List Held} → Gives vs as' τs xs us → Every Unlent τs → borrowed n xs ≡ 0
gives-unlent n Gives.no_more u = refl
gives-unlent n (Gives.one_more g r) (every_more u us) = let h = give-unlent n g u in let k = gives-unlent n r us in omega arith

-- a variable keeps what it holds, or holds nothing
set-still : {A : Type 0} (xs : List A) (i j : ℕ) (v y : A) → get_elem? xs i ≡ some v → (get_elem? (set xs j y) i ≡ some v) ⊎ (get_elem? (set xs j y) i ≡ some y)
set-still [] i j v y h = inl h
set-still (x ∷ xs) zero zero v y h = inr refl
set-still (x ∷ xs) zero (suc j) v y h = inl h
set-still (x ∷ xs) (suc i) zero v y h = inl h
set-still (x ∷ xs) (suc i) (suc j) v y h = set-still xs i j v y h

abbrev Still : List Held → ℕ → Held → Type 0
Still ws i v = (get_elem? ws i ≡ some v) ⊎ (get_elem? ws i ≡ some nothing)

give-still : {vs ws : List Held} {a : Value} {τ : Ty} {x : Held} (i : ℕ) (v : Held) → Give vs a τ x ws → get_elem? vs i ≡ some v → Still ws i v
give-still i v Give.an_integer h = inl h
give-still i v Give.a_truth h = inl h
give-still i v (Give.copy_integer g) h = inl h
give-still i v (Give.copy_truth g) h = inl h
give-still i v (Give.copy_alias g) h = inl h
give-still i v (Give.lend g) h = inl h
give-still i v (Give.spend {vs} {x = j} g) h = set-still vs i j v nothing h

gives-still : {vs us : List Held} {as' : List Operand} {τs : List Ty} {xs : List Held} (i : ℕ) (v : Held) → Gives vs as' τs xs us → get_elem? vs i ≡ some v → Still us i v
gives-still i v Gives.no_more h = inl h
gives-still i v (Gives.one_more g r) h = ⊎_elim (λ k. gives-still i v r k) (λ k. ⊎_elim (λ m. inr m) (λ m. inr m) (gives-still i nothing r k)) (give-still i v g h)

at-type : (vs : List Held) (i : ℕ) (v : Held) → get_elem? vs i ≡ some v → get_elem? (types vs) i ≡ some (type v)
at-type [] i v h = absurd (none-ne-some v h)
at-type (y ∷ vs) zero v h = ap (λ (z : Held). some (type z)) (some-injective y v h)
at-type (y ∷ vs) (suc i) v h = at-type vs i v h

give-lend : (n : Name) {Δ Γ Γ' : Ctx} {vs ws us : List Held} {a : Value} {τ : Ty} {x : Held} {as' : List Operand} {τs : List Ty} {xs : List Held} → types vs ≡ Γ → types us ≡ Δ
    → Give vs a τ x ws → Leave Δ Γ a τ Γ' → Gives ws as' τs xs us → 0 < borrow n x → (0 < borrowed n vs) ⊎ (0 < owned n us)
give-lend n e d Give.an_integer g r h = absurd (not-suc-le-zero h)
give-lend n e d Give.a_truth g r h = absurd (not-suc-le-zero h)
give-lend n e d (Give.copy_integer k) g r h = absurd (not-suc-le-zero h)
give-lend n e d (Give.copy_truth k) g r h = absurd (not-suc-le-zero h)
give-lend n e d (Give.copy_alias {vs} {x} {n = m} k) g r h = inl (let p = total-at (borrow n) vs x (alias m) k in omega arith)
give-lend n {Γ = Γ} e d (Give.lend {vs} {x} {n = m} k) (Leave.copy_alias g) r h =
    let p : get_elem? Γ x ≡ some (has packet) = subst (λ (Θ : Ctx). get_elem? Θ x ≡ some (has packet)) e (at-type vs x (owner m) k) in
    let z : ◌≡◌ {A = ℕ} 0 1 = cc in absurd (omega arith)
give-lend n {Δ = Δ} {us = us} e d (Give.lend {x} {n = m} k) (Leave.lend g l) r h = ⊎_elim
    (λ q. inr (let p = total-at (own n) us x (owner m) q in omega arith))
    (λ q. let p : get_elem? Δ x ≡ some absent = subst (λ (Θ : Ctx). get_elem? Θ x ≡ some absent) d (at-type us x nothing q) in
    let z : ◌≡◌ {A = ℕ} 0 1 = cc in absurd (omega arith))
    (gives-still x (owner m) r k)
give-lend n e d (Give.spend k) g r h = absurd (not-suc-le-zero h)

-- An alias among what is given was one before, or its owner stays behind.
pub gives-lend : (n : Name) {Δ Γ : Ctx} {vs us : List Held} {as' : List Operand} {τs : List Ty} {xs : List Held} → types vs ≡ Γ → types us ≡ Δ → Gives vs as' τs xs us → Leaves Δ Γ as' τs
    → 0 < borrowed n xs → (0 < borrowed n vs) ⊎ (0 < owned n us)
gives-lend n e d Gives.no_more Leaves.no_more h = absurd (not-suc-le-zero h)
gives-lend n e d (Gives.one_more {x = x} {xs = xs} g r) (Leaves.one_more k m) h = ⊎_elim
    (λ q. give-lend n e d g k r q)
    (λ q. ⊎_elim (λ p. inl (let b = give-borrowed n g in omega arith)) (λ p. inr p) (gives-lend n (give-leaves e g k) d r m q))
    (pos_split (borrow n x) (borrowed n xs) h)

-- The aliases of a thread stay below their owners.
pub lent-kept : {s : State} {t : ℕ} {r r' : Thread} {e : Effect} → Placed s.program r → Lent (frames r) → Rule s t r r' e → Lent (frames r')
lent-kept w l (Rule.operates {vs = vs} {ws = ws} {rs = rs} sg h op) =
    ((λ n b. let p = total-append (borrow n) ws rs in let q = gives-borrowed n h in let z = operates-borrowed n op in let m : 0 < borrowed n vs = omega arith in l.0 n m), l.1)
lent-kept {s} (at_node q c aw) l (Rule.calls {g = g} {vs = vs} {ws = ws} fg nt h lt) =
    let d = called c (function-signature s.program g fg) in (
      (λ n b. ⊎_elim (λ p. let m = l.0 n p in omega arith) (λ p. omega arith) (gives-lend n refl (gives-leave refl h d.leaves) h d.leaves b)),
      ((λ n b. let q = gives-borrowed n h in let m : 0 < borrowed n vs = omega arith in l.0 n m), l.1),
    )
lent-kept {s} (at_node q c aw) l (Rule.tail_calls {g = g} {vs = vs} {ws = ws} fg tl h) =
    let d = called c (function-signature s.program g fg) in
    let left = gives-leave refl h d.leaves in
    let spent = (tail-called d (types-length vs tl)).1 in
    ((λ n b. ⊎_elim (λ p. l.0 n p) (λ p. let z = owned_none n ws d.left left spent in absurd (omega arith)) (gives-lend n refl left h d.leaves b)), l.1)
lent-kept (at_node q c aw) l (Rule.returns {xs = xs} {us = us} qf h) =
    ((λ n b. let p = total-append (borrow n) us xs in let z = gives-unlent n (gives_at (same_some qf q) h) (typed-unlent c.typed) in let m : 0 < borrowed n us = omega arith in l.1.0 n m), l.1.1)
lent-kept w l (Rule.ends qf h) = tt
lent-kept w l (Rule.if_true h) = l
lent-kept w l (Rule.if_false h) = l
