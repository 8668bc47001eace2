-- What giving values does to the types and to the owners of variables; and the types of what operations give.
use Rattle.std.proofs.Common.{◌≡◌, ℕ, zero, suc, ◌+◌, ◌≤◌, Bool, true, false, T, List, [], ◌∷◌, ◌++◌, map, set, sym, refl, ap, ◌∙◌, ap₂, arith}
use mathlib.Core.Option.{Option, some, some-injective, none-ne-some}
use Rattle.reader.specs.declared.values.Value.{Value}
use Rattle.reader.specs.declared.values.Operand.{Operand}
use Rattle.reader.specs.declared.operations.Operation.{Operation}
use Rattle.reader.specs.declared.types.Ty.{Ty}
use Rattle.reader.specs.declared.types.Ty.TheVariants.{Int as int, Bool as bool, Packet as packet, Alias as alias}
use Rattle.typing.specs.Signatures.{Signature, ◌⇒◌, signature, provided}
use Rattle.typing.specs.Typing.{Entry, absent, has, Ctx}
use Rattle.store.specs.declared.name.Name.{Name}
use Rattle.rules.specs.State.{Held, nothing, integer, truth, owner, State, Effect}
use Rattle.rules.specs.State as held
use Rattle.rules.specs.Rules.{Give, Gives, Operates}
use Rattle.rules.proofs.Counts.{own, owned, total-put, is-at-most}
use Rattle.rules.proofs.Contexts.{Leave, Leaves, owner?, owners}

-- the type that a variable can be used as, by what it holds
abbrev pub type : Held → Entry
type nothing = absent
type (integer k) = has int
type (truth b) = has bool
type (owner n) = has packet
type (held.alias n) = has alias

abbrev pub types : List Held → Ctx
types vs = map type vs

pub same_some : {A : Type 0} {o : Option A} {x y : A} → o ≡ some x → o ≡ some y → x ≡ y
same_some {x = x} {y = y} p q = some-injective x y (sym p ∙ q)

pub map-append : {A B : Type 0} (f : A → B) (xs ys : List A) → map f (xs ++ ys) ≡ map f xs ++ map f ys
map-append f [] ys = refl
map-append {B} f (x ∷ xs) ys = ap {B = List B} (λ r. f x ∷ r) (map-append f xs ys)

map-set : {A B : Type 0} (f : A → B) (xs : List A) (i : ℕ) (y : A) → map f (set xs i y) ≡ set (map f xs) i (f y)
map-set f [] i y = refl
map-set f (x ∷ xs) zero y = refl
map-set {B} f (x ∷ xs) (suc i) y = ap {B = List B} (λ r. f x ∷ r) (map-set f xs i y)

-- giving moves owners, and neither makes nor loses one
give-owned : (n : Name) {vs ws : List Held} {a : Value} {τ : Ty} {x : Held} → Give vs a τ x ws → own n x + owned n ws ≡ owned n vs
give-owned n Give.an_integer = omega arith
give-owned n Give.a_truth = omega arith
give-owned n (Give.copy_integer h) = omega arith
give-owned n (Give.copy_truth h) = omega arith
give-owned n (Give.copy_alias h) = omega arith
give-owned n (Give.lend h) = omega arith
give-owned n (Give.spend {vs} {x} {n = m} h) = let r = total-put (own n) vs x (owner m) nothing h in omega arith

pub gives-owned : (n : Name) {vs us : List Held} {as' : List Operand} {τs : List Ty} {xs : List Held} → Gives vs as' τs xs us → owned n xs + owned n us ≡ owned n vs
gives-owned n Gives.no_more = omega arith
gives-owned n (Gives.one_more h r) = let p = give-owned n h in let q = gives-owned n r in omega arith

-- what is given has the type that it is given at
give-type : {vs ws : List Held} {a : Value} {τ : Ty} {x : Held} → Give vs a τ x ws → type x ≡ has τ
give-type Give.an_integer = refl
give-type Give.a_truth = refl
give-type (Give.copy_integer h) = refl
give-type (Give.copy_truth h) = refl
give-type (Give.copy_alias h) = refl
give-type (Give.lend h) = refl
give-type (Give.spend h) = refl

pub gives-types : {vs us : List Held} {as' : List Operand} {τs : List Ty} {xs : List Held} → Gives vs as' τs xs us → types xs ≡ map has τs
gives-types Gives.no_more = refl
gives-types (Gives.one_more h r) = ap₂ ◌∷◌ (give-type h) (gives-types r)

-- the context that typing leaves is the types of what is left
pub give-leaves : {Δ Γ Γ' : Ctx} {vs ws : List Held} {a : Value} {τ : Ty} {x : Held} → types vs ≡ Γ → Give vs a τ x ws → Leave Δ Γ a τ Γ' → types ws ≡ Γ'
give-leaves e Give.an_integer Leave.an_integer = e
give-leaves e Give.a_truth Leave.a_truth = e
give-leaves e (Give.copy_integer h) (Leave.copy_integer g) = e
give-leaves e (Give.copy_truth h) (Leave.copy_truth g) = e
give-leaves e (Give.copy_alias h) (Leave.copy_alias g) = e
give-leaves e (Give.copy_alias h) (Leave.lend g k) = e
give-leaves e (Give.lend h) (Leave.copy_alias g) = e
give-leaves e (Give.lend h) (Leave.lend g k) = e
give-leaves e (Give.spend {vs} {x} h) (Leave.spend g) = map-set type vs x nothing ∙ ap (λ (Γ : Ctx). set Γ x absent) e

pub gives-leave : {Δ Γ : Ctx} {vs us : List Held} {as' : List Operand} {τs : List Ty} {xs : List Held} → types vs ≡ Γ → Gives vs as' τs xs us → Leaves Δ Γ as' τs → types us ≡ Δ
gives-leave e Gives.no_more Leaves.no_more = e
gives-leave e (Gives.one_more h r) (Leaves.one_more g k) = gives-leave (give-leaves e h g) r k

-- rows of the table of signatures
row : {as' bs ρs σs : List Ty} → ◌≡◌ {A = Option Signature} (some (as' ⇒ bs)) (some (ρs ⇒ σs)) → (as' ≡ ρs) × (bs ≡ σs)
row {as'} {bs} {ρs} {σs} h =
    let e = some-injective (as' ⇒ bs) (ρs ⇒ σs) h in
    (ap (λ (z : Signature). z.params) e, ap (λ (z : Signature). z.results) e)

pub provided-row : (b : Bool) {as' bs ρs σs : List Ty} → provided b (as' ⇒ bs) ≡ some (ρs ⇒ σs) → T b × (as' ≡ ρs) × (bs ≡ σs)
provided-row true h = let e = row h in (tt, e.0, e.1)
provided-row false {ρs = ρs} {σs = σs} h = absurd (none-ne-some (ρs ⇒ σs) h)

-- what an operation gives has the types of its row
pub operates-types : {s : State} {t : ℕ} {op : Operation} {ρs σs : List Ty} {xs rs : List Held} {e : Effect}
    → Operates s t op xs e rs → signature s.program op ≡ some (ρs ⇒ σs) → types rs ≡ map has σs
operates-types Operates.computes h = ap (map has) (row h).1
operates-types Operates.compares h = ap (map has) (row h).1
operates-types Operates.connects h = ap (map has) (row h).1
operates-types (Operates.makes a b c) h = ap (map has) (row h).1
operates-types (Operates.kills a) h = ap (map has) (row h).1
operates-types (Operates.reads_inside a b) h = ap (map has) (row h).1
operates-types (Operates.reads_outside a b) h = ap (map has) (row h).1
operates-types (Operates.updates_inside a b) h = ap (map has) (row h).1
operates-types (Operates.updates_outside a b) h = ap (map has) (row h).1
operates-types (Operates.dequeues a b) h = ap (map has) (provided-row _ h).2
operates-types (Operates.enqueues a) h = ap (map has) (provided-row _ h).2

-- no owner by type, no owner by name
own-type : (n : Name) (v : Held) → own n v ≤ owner? (type v)
own-type n nothing = omega arith
own-type n (integer k) = omega arith
own-type n (truth b) = omega arith
own-type n (owner m) = is-at-most n m
own-type n (held.alias m) = omega arith

owned-types : (n : Name) (vs : List Held) → owned n vs ≤ owners (types vs)
owned-types n [] = omega arith
owned-types n (v ∷ vs) = let p = own-type n v in let q = owned-types n vs in omega arith

pub owned_none : (n : Name) (vs : List Held) (Δ : Ctx) → types vs ≡ Δ → owners Δ ≡ 0 → owned n vs ≡ 0
owned_none n vs Δ e z = let p = owned-types n vs in let q = ap owners e in omega arith
