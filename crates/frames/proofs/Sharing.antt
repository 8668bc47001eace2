-- What one value gives: the relation and what is found agree.
use Rattle.std.specs.Prelude.{slice_get, slice_set}
use Rattle.std.proofs.Common.{◌≡◌, ℕ, zero, suc, Bool, List, [], ◌∷◌, Some, None, Option, refl, sym, subst}
use Rattle.std.proofs.Math.Option.{none, some}
use Rattle.std.proofs.Math.ListN.{get_elem?}
use Rattle.reader.specs.declared.types.Ty.{Ty}
use Rattle.reader.specs.declared.types.Ty.TheVariants as ty
use Rattle.reader.specs.declared.values.Value.{Value}
use Rattle.reader.specs.declared.values.Value.TheVariants as v
use Rattle.rows.specs.declared.row.Row.{Row}
use Rattle.rows.specs.Rows.{items}
use Rattle.rules.specs.declared.held.Held.{Held}
use Rattle.rules.specs.declared.held.Held.TheVariants as held
use Rattle.rules.specs.Rules.{Give}
use Rattle.rules.specs.Rules.Give.{an_integer, a_truth, copy_integer, copy_truth, copy_alias, lend, spend}
use Rattle.frames.specs.Giving.{shared, Given}

-- what stands at a place of a list
abbrev pub At : {X : Type 0} → List X → ℕ → Option X → Type 0
At xs i (Some x) = get_elem? xs i ≡ some x
At xs i None = get_elem? xs i ≡ none

pub at_place : {X : Type 0} (xs : List X) (i : ℕ) (o : Option X) → o ≡ slice_get xs i → At xs i o
at_place xs i o h = subst (At xs i) (sym h) (at xs i)
  where
    at : {X : Type 0} (xs : List X) (i : ℕ) → At xs i (slice_get xs i)
    at [] i = refl
    at (x ∷ xs) zero = refl
    at (x ∷ xs) (suc i) = at xs i

-- what a constant gives
integer_shared : (vs : Row Held 16) (k : ℕ) (τ : Ty) → Given vs (v.Integer k) τ (shared (held.Integer k) τ) vs
integer_shared vs k ty.Int = an_integer
integer_shared vs k ty.Bool = (λ x us g. elim g [ ], refl)
integer_shared vs k ty.Packet = (λ x us g. elim g [ ], refl)
integer_shared vs k ty.Alias = (λ x us g. elim g [ ], refl)

truth_shared : (vs : Row Held 16) (b : Bool) (τ : Ty) → Given vs (v.Truth b) τ (shared (held.Truth b) τ) vs
truth_shared vs b ty.Int = (λ x us g. elim g [ ], refl)
truth_shared vs b ty.Bool = a_truth
truth_shared vs b ty.Packet = (λ x us g. elim g [ ], refl)
truth_shared vs b ty.Alias = (λ x us g. elim g [ ], refl)

pub integer_given : (vs : Row Held 16) (a : Value) (k : ℕ) (τ : Ty) (r : Option Held) → a ≡ v.Integer k → r ≡ shared (held.Integer k) τ → Given vs a τ r vs
integer_given vs a k τ r is e = subst (λ b. Given vs b τ r vs) (sym is) (subst (λ s. Given vs (v.Integer k) τ s vs) (sym e) (integer_shared vs k τ))

pub truth_given : (vs : Row Held 16) (a : Value) (b : Bool) (τ : Ty) (r : Option Held) → a ≡ v.Truth b → r ≡ shared (held.Truth b) τ → Given vs a τ r vs
truth_given vs a b τ r is e = subst (λ c. Given vs c τ r vs) (sym is) (subst (λ s. Given vs (v.Truth b) τ s vs) (sym e) (truth_shared vs b τ))

-- what is left in a list of variables where x was given at a type
abbrev pub remaining : Ty → List Held → ℕ → List Held
remaining ty.Packet vs x = slice_set vs x held.Nothing
remaining τ vs x = vs

-- a variable gives what it shares
pub shared_gives : (vs : List Held) (x : ℕ) (h : Held) (τ : Ty) (y : Held) → get_elem? vs x ≡ some h → Some y ≡ shared h τ → Give vs (v.Variable x) τ y (remaining τ vs x)
shared_gives vs x (held.Integer k) ty.Int y at e = let s : held.Integer k ≡ y = cc in subst (λ z. Give vs (v.Variable x) ty.Int z vs) s (copy_integer at)
shared_gives vs x (held.Truth b) ty.Bool y at e = let s : held.Truth b ≡ y = cc in subst (λ z. Give vs (v.Variable x) ty.Bool z vs) s (copy_truth at)
shared_gives vs x (held.Alias n) ty.Alias y at e = let s : held.Alias n ≡ y = cc in subst (λ z. Give vs (v.Variable x) ty.Alias z vs) s (copy_alias at)
shared_gives vs x (held.Owner n) ty.Alias y at e = let s : held.Alias n ≡ y = cc in subst (λ z. Give vs (v.Variable x) ty.Alias z vs) s (lend at)
shared_gives vs x (held.Owner n) ty.Packet y at e =
    let s : held.Owner n ≡ y = cc in subst (λ z. Give vs (v.Variable x) ty.Packet z (slice_set vs x held.Nothing)) s (spend at)
shared_gives vs x h τ y at e = cc

-- and gives nothing else
pub gives_shared : {vs us : List Held} {x : ℕ} {τ : Ty} {y : Held} → Give vs (v.Variable x) τ y us → (h : Held) × (get_elem? vs x ≡ some h) × (Some y ≡ shared h τ)
gives_shared (copy_integer at) = (_, at, refl)
gives_shared (copy_truth at) = (_, at, refl)
gives_shared (copy_alias at) = (_, at, refl)
gives_shared (lend at) = (_, at, refl)
gives_shared (spend at) = (_, at, refl)

-- nothing is given where there is no variable, or where it holds something else
never_unbound : (vs : List Held) (x : ℕ) (τ : Ty) → None ≡ slice_get vs x → (y : Held) (us : List Held) → ¬ Give vs (v.Variable x) τ y us
never_unbound vs x τ got y us g =
    let (h, at, share) = gives_shared g in
    let none_at = at_place vs x None got in
    cc

never_unfit : (vs : List Held) (x : ℕ) (h : Held) (τ : Ty) → Some h ≡ slice_get vs x → None ≡ shared h τ → (y : Held) (us : List Held) → ¬ Give vs (v.Variable x) τ y us
never_unfit vs x h τ got unfit y us g =
    let (k, at, share) = gives_shared g in
    let held_at = at_place vs x (Some h) got in
    let same : k ≡ h = cc in
    cc

none_given : (vs : Row Held 16) (a : Value) (x : ℕ) (τ : Ty) (r : Option Held) → a ≡ v.Variable x → r ≡ None → ((y : Held) (us : List Held) → ¬ Give (items vs) (v.Variable x) τ y us)
    → Given vs a τ r vs
none_given vs a x τ r is e never = subst (λ b. Given vs b τ r vs) (sym is) (subst (λ s. Given vs (v.Variable x) τ s vs) (sym e) (never, refl))

pub unbound_given : (vs : Row Held 16) (a : Value) (x : ℕ) (τ : Ty) (r : Option Held) → a ≡ v.Variable x → None ≡ slice_get (items vs) x → r ≡ None → Given vs a τ r vs
unbound_given vs a x τ r is got e = none_given vs a x τ r is e (never_unbound (items vs) x τ got)

pub unfit_given : (vs : Row Held 16) (a : Value) (x : ℕ) (h : Held) (τ : Ty) (r : Option Held) → a ≡ v.Variable x → Some h ≡ slice_get (items vs) x → None ≡ shared h τ → r ≡ None
    → Given vs a τ r vs
unfit_given vs a x h τ r is got unfit e = none_given vs a x τ r is e (never_unfit (items vs) x h τ got unfit)

pub held_given : (vs ws : List Held) (a : Value) (x : ℕ) (h : Held) (τ : Ty) (y : Held) → a ≡ v.Variable x → Some h ≡ slice_get vs x → Some y ≡ shared h τ → ws ≡ remaining τ vs x
    → Give vs a τ y ws
held_given vs ws a x h τ y is got share e =
    subst (λ b. Give vs b τ y ws) (sym is) (subst (λ us. Give vs (v.Variable x) τ y us) (sym e) (shared_gives vs x h τ y (at_place vs x (Some h) got) share))

pub unspent : (τ : Ty) (vs : List Held) (x : ℕ) → (τ ≡ ty.Packet → ⊥) → vs ≡ remaining τ vs x
unspent ty.Int vs x n = refl
unspent ty.Bool vs x n = refl
unspent ty.Alias vs x n = refl
unspent ty.Packet vs x n = absurd (n refl)
