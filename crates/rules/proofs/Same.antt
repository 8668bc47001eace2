-- Giving values has one outcome.
use Rattle.std.proofs.Common.{◌≡◌, ℕ, List, ◌∷◌, sym, refl, subst, ap₂, arith}
use mathlib.Core.Option.{some}
use Rattle.reader.specs.declared.types.Ty.{Ty}
use Rattle.reader.specs.declared.values.Value.{Value}
use Rattle.reader.specs.declared.values.Operand.{Operand}
use Rattle.reader.specs.declared.operations.Operation.{Operation}
use Rattle.reader.specs.Syntax.{Program}
use Rattle.typing.specs.Signatures.{Signature, ◌⇒◌, signature}
use Rattle.rules.specs.State.{Held}
use Rattle.rules.specs.Rules.{Give, Gives}
use Rattle.rules.proofs.Typed.{same_some}

pub give-same : {vs ws us : List Held} {a : Value} {τ : Ty} {x y : Held} → Give vs a τ x ws → Give vs a τ y us → (x ≡ y) × (ws ≡ us)
give-same Give.an_integer Give.an_integer = (refl, refl)
give-same Give.a_truth Give.a_truth = (refl, refl)
give-same (Give.copy_integer h) (Give.copy_integer k) = (cc, refl)
give-same (Give.copy_truth h) (Give.copy_truth k) = (cc, refl)
give-same (Give.copy_alias h) (Give.copy_alias k) = (cc, refl)
give-same (Give.copy_alias h) (Give.lend k) = let z : ◌≡◌ {A = ℕ} 0 1 = cc in absurd (omega arith)
give-same (Give.lend h) (Give.copy_alias k) = let z : ◌≡◌ {A = ℕ} 0 1 = cc in absurd (omega arith)
give-same (Give.lend h) (Give.lend k) = (cc, refl)
give-same (Give.spend h) (Give.spend k) = (cc, refl)

pub gives_same : {vs ws us : List Held} {as' : List Operand} {τs : List Ty} {xs ys : List Held} → Gives vs as' τs xs ws → Gives vs as' τs ys us → (xs ≡ ys) × (ws ≡ us)
gives_same Gives.no_more Gives.no_more = (refl, refl)
gives_same (Gives.one_more h r) (Gives.one_more {us = us} {as' = as'} {τs = τs} {xs = ys} k q) =
    let (x, w) = give-same h k in
    let (xs, u) = gives_same r (subst (λ (v : List Held). Gives v as' τs ys us) (sym w) q) in
    (ap₂ ◌∷◌ x xs, u)

-- the arguments of a call
pub arguments-same : (P : Program) (op : Operation) {ρs σs ρs' σs' : List Ty} {vs ws us : List Held} {as' : List Operand} {xs ys : List Held}
    → signature P op ≡ some (ρs ⇒ σs) → signature P op ≡ some (ρs' ⇒ σs') → Gives vs as' ρs xs ws → Gives vs as' ρs' ys us → (xs ≡ ys) × (ws ≡ us)
arguments-same P op {vs = vs} {us = us} {as' = as'} {ys = ys} p q h k =
    gives_same h (subst (λ (z : Signature). Gives vs as' z.params ys us) (sym (same_some p q)) k)
