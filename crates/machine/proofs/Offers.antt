-- What a value gives at a type, by what it holds; and lists of a few values.
use Rattle.std.specs.Prelude.{slice_get, slice_set}
use Rattle.std.proofs.Common.{◌≡◌, ◌⊎◌, ℕ, zero, suc, ◌<◌, Bool, List, [], ◌∷◌, length, Some, Ok, Err, inl, inr, sym, refl, ap, subst, arith}
use mathlib.Core.Option.{some, some-injective, none-ne-some}
use lib.ListN.{get_elem?}
use Rattle.reader.specs.declared.types.Ty.{Ty}
use Rattle.reader.specs.declared.types.Ty.TheVariants as ty
use Rattle.reader.specs.declared.values.Value.{Value}
use Rattle.reader.specs.declared.values.Value.TheVariants as v
use Rattle.reader.specs.declared.values.Operand.{Operand}
use Rattle.store.specs.declared.name.Name.{Name}
use Rattle.rules.specs.declared.held.Held.{Held}
use Rattle.rules.specs.declared.held.Held.TheVariants.{Integer as integer, Truth as truth, Owner as owner, Alias as alias, Nothing as nothing}
use Rattle.rules.specs.declared.outcomes.Outcome.{Outcome}
use Rattle.rules.specs.Rules.{Give, Gives}
use Rattle.code.proofs.Arguments.{values}
use Rattle.frames.specs.Giving.{holds}
use Rattle.machine.specs.Moves.{Finds, FindsAlias, FindsOwner}

held-is : (vs : List Held) (x : ℕ) {h : Held} → get_elem? vs x ≡ some h → slice_get vs x ≡ Some h
held-is [] x e = absurd (none-ne-some _ e)
held-is (w ∷ vs) zero {h} e = ap Some (some-injective w h e)
held-is (w ∷ vs) (suc x) e = held-is vs x e

is-held : (vs : List Held) (x : ℕ) {h : Held} → slice_get vs x ≡ Some h → get_elem? vs x ≡ some h
is-held [] x e = absurd (cc)
is-held (w ∷ vs) zero {h} e = let q : w ≡ h = cc in ap some q
is-held (w ∷ vs) (suc x) e = is-held vs x e

-- ---- one value
pub integer_given : (vs : List Held) (a : Value) {k : ℕ} → holds vs a ≡ Some (integer k) → Give vs a ty.Int (integer k) vs
integer_given vs (v.Integer j) {k} e = let q : j ≡ k = cc in subst (λ (z : ℕ). Give vs (v.Integer j) ty.Int (integer z) vs) q Give.an_integer
integer_given vs (v.Truth b) e = absurd (cc)
integer_given vs (v.Variable x) e = Give.copy_integer (is-held vs x e)

pub given-integer : {vs ws : List Held} {a : Value} {x : Held} → Give vs a ty.Int x ws → (k : ℕ) × (holds vs a ≡ Some (integer k)) × (ws ≡ vs)
given-integer Give.an_integer = (_, refl, refl)
given-integer {vs} (Give.copy_integer {x = x} h) = (_, held-is vs x h, refl)

pub truth_given : (vs : List Held) (a : Value) {b : Bool} → holds vs a ≡ Some (truth b) → Give vs a ty.Bool (truth b) vs
truth_given vs (v.Integer j) e = absurd (cc)
truth_given vs (v.Truth c) {b} e = let q : c ≡ b = cc in subst (λ (z : Bool). Give vs (v.Truth c) ty.Bool (truth z) vs) q Give.a_truth
truth_given vs (v.Variable x) e = Give.copy_truth (is-held vs x e)

pub given-truth : {vs ws : List Held} {a : Value} {x : Held} → Give vs a ty.Bool x ws → (b : Bool) × (holds vs a ≡ Some (truth b)) × (ws ≡ vs)
given-truth Give.a_truth = (_, refl, refl)
given-truth {vs} (Give.copy_truth {x = x} h) = (_, held-is vs x h, refl)

-- an alias of a packet is given by an alias, and by its owner
abbrev Named : List Held → Value → Name → Type 0
Named vs a n = (holds vs a ≡ Some (alias n)) ⊎ (holds vs a ≡ Some (owner n))

pub alias_given : (vs : List Held) (a : Value) {n : Name} → Named vs a n → Give vs a ty.Alias (alias n) vs
alias_given vs (v.Integer j) (inl e) = absurd (cc)
alias_given vs (v.Integer j) (inr e) = absurd (cc)
alias_given vs (v.Truth b) (inl e) = absurd (cc)
alias_given vs (v.Truth b) (inr e) = absurd (cc)
alias_given vs (v.Variable x) (inl e) = Give.copy_alias (is-held vs x e)
alias_given vs (v.Variable x) (inr e) = Give.lend (is-held vs x e)

pub given-alias : {vs ws : List Held} {a : Value} {x : Held} → Give vs a ty.Alias x ws → (n : Name) × Named vs a n × (ws ≡ vs)
given-alias {vs} (Give.copy_alias {x = x} h) = (_, inl (held-is vs x h), refl)
given-alias {vs} (Give.lend {x = x} h) = (_, inr (held-is vs x h), refl)

pub owner_given : (vs : List Held) (a : Value) {x : ℕ} {n : Name} → (a ≡ v.Variable x) × (slice_get vs x ≡ Some (owner n)) → Give vs a ty.Packet (owner n) (slice_set vs x nothing)
owner_given vs a {x} {n} (e, h) = subst (λ (z : Value). Give vs z ty.Packet (owner n) (slice_set vs x nothing)) (sym e) (Give.spend (is-held vs x h))

given-owner : {vs ws : List Held} {a : Value} {y : Held} → Give vs a ty.Packet y ws → (x : ℕ) × (n : Name) × (a ≡ v.Variable x) × (slice_get vs x ≡ Some (owner n))
given-owner {vs} (Give.spend {x = x} h) = (_, _, refl, held-is vs x h)

pub owner_inside : (vs : List Held) (x : ℕ) {h : Held} → slice_get vs x ≡ Some h → x < length vs
owner_inside [] x e = absurd (cc)
owner_inside (w ∷ vs) zero e = omega arith
owner_inside (w ∷ vs) (suc x) e = let z = owner_inside vs x e in omega arith

-- where a value of the kind is not found, none is given
not-made : {X : Type 0} {e : Outcome} {x : X} → Err e ≡ Ok x → ⊥
not-made h = let z : ◌≡◌ {A = ℕ} 0 1 = cc in omega arith

module _ {vs : List Held} {a : Value} {e : Outcome} where
  pub no_integer : Finds integer (holds vs a) (Err e) → (x : Held) (ws : List Held) → ¬ Give vs a ty.Int x ws
  no_integer f x ws g = let (k, h, same) = given-integer g in not-made ((f k).0 h)

  pub no_truth : Finds truth (holds vs a) (Err e) → (x : Held) (ws : List Held) → ¬ Give vs a ty.Bool x ws
  no_truth f x ws g = let (k, h, same) = given-truth g in not-made ((f k).0 h)

  pub no_alias : FindsAlias (holds vs a) (Err e) → (x : Held) (ws : List Held) → ¬ Give vs a ty.Alias x ws
  no_alias f x ws g = let (n, h, same) = given-alias g in not-made ((f n).0 h)

  pub no_owner : FindsOwner vs a (Err e) → (x : Held) (ws : List Held) → ¬ Give vs a ty.Packet x ws
  no_owner f x ws g = let (y, n, i, h) = given-owner g in not-made ((f y n).0 (i, h))

-- ---- lists of values
-- a list that has the values a and then bs
module _ {vs us : List Held} {a : Value} {bs : List Value} {τ : Ty} {τs : List Ty} where
  pub gives_more : {ws xs : List Held} {x : Held} (as' : List Operand) → values as' ≡ a ∷ bs → Give vs a τ x ws → ((cs : List Operand) → values cs ≡ bs → Gives ws cs τs xs us) → Gives vs as' (τ ∷ τs) (x ∷ xs) us
  gives_more [] e g r = absurd (cc)
  gives_more {ws} {x = x} (c ∷ cs) e g r =
      let first : c.value ≡ a = cc in
      let rest : values cs ≡ bs = cc in
      Gives.one_more (subst (λ (z : Value). Give vs z τ x ws) (sym first) g) (r cs rest)

  pub not-first : (as' : List Operand) → values as' ≡ a ∷ bs → ((x : Held) (ws : List Held) → ¬ Give vs a τ x ws) → (xs : List Held) → ¬ Gives vs as' (τ ∷ τs) xs us
  not-first [] e n xs g = absurd (cc)
  not-first (c ∷ cs) e n xs (Gives.one_more {ws = ws} {x = x} g r) = let first : c.value ≡ a = cc in n x ws (subst (λ (z : Value). Give vs z τ x ws) first g)

  -- where the first one leaves the variables as they are
  pub not-next : (as' : List Operand) → values as' ≡ a ∷ bs → ((x : Held) (ws : List Held) → Give vs a τ x ws → ws ≡ vs)
      → ((cs : List Operand) → values cs ≡ bs → (ys : List Held) → ¬ Gives vs cs τs ys us) → (xs : List Held) → ¬ Gives vs as' (τ ∷ τs) xs us
  not-next [] e keeps n xs g = absurd (cc)
  not-next (c ∷ cs) e keeps n xs (Gives.one_more {ws = ws} {x = x} {xs = ys} g r) =
      let first : c.value ≡ a = cc in
      let rest : values cs ≡ bs = cc in
      n cs rest ys (subst (λ (z : List Held). Gives z cs τs ys us) (keeps x ws (subst (λ (z : Value). Give vs z τ x ws) first g)) r)

-- these leave them
pub integer_keeps : {vs : List Held} {a : Value} (x : Held) (ws : List Held) → Give vs a ty.Int x ws → ws ≡ vs
integer_keeps x ws g = (given-integer g).2

pub truth_keeps : {vs : List Held} {a : Value} (x : Held) (ws : List Held) → Give vs a ty.Bool x ws → ws ≡ vs
truth_keeps x ws g = (given-truth g).2

pub alias_keeps : {vs : List Held} {a : Value} (x : Held) (ws : List Held) → Give vs a ty.Alias x ws → ws ≡ vs
alias_keeps x ws g = (given-alias g).2

pub gives_none : {vs : List Held} (as' : List Operand) → values as' ≡ [] → Gives vs as' [] [] vs
gives_none [] e = Gives.no_more
gives_none (c ∷ cs) e = absurd (cc)

pub gives-long : {vs ws : List Held} {as' : List Operand} {τs : List Ty} {xs : List Held} → Gives vs as' τs xs ws → length as' ≡ length τs
gives-long Gives.no_more = refl
gives-long (Gives.one_more h r) = ap suc (gives-long r)
