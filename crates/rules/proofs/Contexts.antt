-- What values leave of a context as they are given, from the left; and that a derivation gives them so.
use Rattle.std.proofs.Common.{◌≡◌, ℕ, suc, ◌+◌, Bool, T, List, [], ◌∷◌, length, set, refl, ap, ◌∙◌, subst, arith, length-set}
use mathlib.Core.Option.{some}
use lib.ListN.{get_elem?}
use Rattle.reader.specs.declared.values.Value.{Value}
use Rattle.reader.specs.declared.values.Value.TheVariants as v
use Rattle.reader.specs.declared.values.Operand.{Operand}
use Rattle.reader.specs.declared.types.Ty.{Ty}
use Rattle.reader.specs.declared.types.Ty.TheVariants.{Int as int, Bool as bool, Packet as packet, Alias as alias}
use Rattle.typing.specs.Typing.{Entry, absent, has, Ctx, Unowned, unowned_int, unowned_bool, unowned_alias}
use Rattle.typing.specs.Marks.{note, all_spent}
use Rattle.typing.proofs.Given.{At, at_here, at_there, use_plain, use_lent, use_owner, UseAt, use_here, use_there, Given, given_integer, given_truth, given_variable, Uses, uses_end, uses_more}
use Rattle.typing.proofs.Keeping.{uses_keep}
use Rattle.typing.proofs.Tests.{member-last}

-- One value. Δ is what the whole list leaves: a variable lent in a list is not spent in it.
pub data Leave (Δ : Ctx) : Ctx → Value → Ty → Ctx → Type 0 where
  an_integer : {Γ : Ctx} {k : ℕ} → Leave Δ Γ (v.Integer k) int Γ
  a_truth : {Γ : Ctx} {b : Bool} → Leave Δ Γ (v.Truth b) bool Γ
  copy_integer : {Γ : Ctx} {x : ℕ} → get_elem? Γ x ≡ some (has int) → Leave Δ Γ (v.Variable x) int Γ
  copy_truth : {Γ : Ctx} {x : ℕ} → get_elem? Γ x ≡ some (has bool) → Leave Δ Γ (v.Variable x) bool Γ
  copy_alias : {Γ : Ctx} {x : ℕ} → get_elem? Γ x ≡ some (has alias) → Leave Δ Γ (v.Variable x) alias Γ
  lend : {Γ : Ctx} {x : ℕ} → get_elem? Γ x ≡ some (has packet) → get_elem? Δ x ≡ some (has packet) → Leave Δ Γ (v.Variable x) alias Γ
  spend : {Γ : Ctx} {x : ℕ} → get_elem? Γ x ≡ some (has packet) → Leave Δ Γ (v.Variable x) packet (set Γ x absent)

pub data Leaves (Δ : Ctx) : Ctx → List Operand → List Ty → Type 0 where
  no_more : Leaves Δ Δ [] []
  one_more : {Γ Γ' : Ctx} {a : Operand} {as' : List Operand} {τ : Ty} {τs : List Ty} → Leave Δ Γ a.value τ Γ' → Leaves Δ Γ' as' τs → Leaves Δ Γ (a ∷ as') (τ ∷ τs)

-- giving binds no variable
leave-length : {Δ Γ Γ' : Ctx} {a : Value} {τ : Ty} → Leave Δ Γ a τ Γ' → length Γ' ≡ length Γ
leave-length an_integer = refl
leave-length a_truth = refl
leave-length (copy_integer g) = refl
leave-length (copy_truth g) = refl
leave-length (copy_alias g) = refl
leave-length (lend g k) = refl
leave-length (spend {Γ} {x} g) = length-set Γ x absent

pub leaves-length : {Δ Γ : Ctx} {as' : List Operand} {τs : List Ty} → Leaves Δ Γ as' τs → length Δ ≡ length Γ
leaves-length no_more = refl
leaves-length (one_more g gs) = leaves-length gs ∙ leave-length g

-- how many owners a context has
abbrev pub owner? : Entry → ℕ
owner? absent = 0
owner? (has int) = 0
owner? (has bool) = 0
owner? (has packet) = 1
owner? (has alias) = 0

abbrev pub owners : Ctx → ℕ
owners [] = 0
owners (e ∷ Γ) = owner? e + owners Γ

pub spent-owners : (Γ : Ctx) → T (all_spent Γ) → owners Γ ≡ 0
spent-owners [] t = refl
spent-owners (absent ∷ Γ) t = let h = spent-owners Γ t in omega arith
spent-owners (has int ∷ Γ) t = let h = spent-owners Γ t in omega arith
spent-owners (has bool ∷ Γ) t = let h = spent-owners Γ t in omega arith
spent-owners (has packet ∷ Γ) t = absurd t
spent-owners (has alias ∷ Γ) t = let h = spent-owners Γ t in omega arith

-- From a derivation.
at_elem : {x : ℕ} {e : Entry} {Γ : Ctx} → At x e Γ → get_elem? Γ x ≡ some e
at_elem at_here = refl
at_elem (at_there a) = at_elem a

data Used : Ty → ℕ → Ctx → Ctx → Type 0 where
  plain : {ρ : Ty} {x : ℕ} {Γ Γ' : Ctx} → Unowned ρ → At x (has ρ) Γ → Γ ≡ Γ' → Used ρ x Γ Γ'
  lent : {x : ℕ} {Γ Γ' : Ctx} → At x (has packet) Γ → Γ ≡ Γ' → Used alias x Γ Γ'
  spent : {x : ℕ} {Γ Γ' : Ctx} → At x (has packet) Γ → set Γ x absent ≡ Γ' → Used packet x Γ Γ'

deeper : {ρ : Ty} {x : ℕ} {Γ Γ' : Ctx} (h : Entry) → Used ρ x Γ Γ' → Used ρ (suc x) (h ∷ Γ) (h ∷ Γ')
deeper h (plain u a e) = plain u (at_there a) (ap {B = Ctx} (λ r. h ∷ r) e)
deeper h (lent a e) = lent (at_there a) (ap {B = Ctx} (λ r. h ∷ r) e)
deeper h (spent a e) = spent (at_there a) (ap {B = Ctx} (λ r. h ∷ r) e)

used : {ρ : Ty} {x : ℕ} {Γ Γ' : Ctx} → UseAt ρ x Γ Γ' → Used ρ x Γ Γ'
used (use_here (use_plain u)) = plain u at_here refl
used (use_here use_lent) = lent at_here refl
used (use_here use_owner) = spent at_here refl
used (use_there {h = h} u) = deeper h (used u)

used-leave : {Δ Γ Γ' : Ctx} {ρ : Ty} {x : ℕ} → Used ρ x Γ Γ' → (At x (has packet) Γ' → At x (has packet) Δ) → Leave Δ Γ (v.Variable x) ρ Γ'
used-leave {Δ} {Γ} {x = x} (plain unowned_int a e) k = subst (Leave Δ Γ (v.Variable x) int) e (copy_integer (at_elem a))
used-leave {Δ} {Γ} {x = x} (plain unowned_bool a e) k = subst (Leave Δ Γ (v.Variable x) bool) e (copy_truth (at_elem a))
used-leave {Δ} {Γ} {x = x} (plain unowned_alias a e) k = subst (Leave Δ Γ (v.Variable x) alias) e (copy_alias (at_elem a))
used-leave {Δ} {Γ} {x = x} (lent a e) k = subst (Leave Δ Γ (v.Variable x) alias) e (lend (at_elem a) (at_elem (k (subst (At x (has packet)) e a))))
used-leave {Δ} {Γ} {x = x} (spent a e) k = subst (Leave Δ Γ (v.Variable x) packet) e (spend (at_elem a))

given-leave : {named : List ℕ} {Γ Γ' Δ : Ctx} {a : Value} {ρ : Ty} {as' : List Operand} {ρs : List Ty} → Given named Γ a ρ Γ' → Uses (note a named) Γ' as' ρs Δ → Leave Δ Γ a ρ Γ'
given-leave given_integer u = an_integer
given-leave given_truth u = a_truth
given-leave {named} (given_variable {x = x} s w) u = used-leave (used w) (λ a. uses_keep u (member-last x named) a)

pub uses-leave : {named : List ℕ} {Γ Δ : Ctx} {as' : List Operand} {ρs : List Ty} → Uses named Γ as' ρs Δ → Leaves Δ Γ as' ρs
uses-leave uses_end = no_more
uses-leave (uses_more g u) = one_more (given-leave g u) (uses-leave u)

-- the value of an if
pub tested-leave : {Γ : Ctx} {a : Value} → Given [] Γ a bool Γ → Leave Γ Γ a bool Γ
tested-leave g = given-leave g uses_end
