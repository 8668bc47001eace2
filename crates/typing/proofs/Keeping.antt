-- A variable that an earlier value of its list named keeps its entry to the end of the list: what is lent is not spent beside.
use Rattle.std.proofs.Common.{◌≡◌, ℕ, suc, T, List, refl, ap, subst}
use Rattle.reader.specs.declared.values.Value.{Value}
use Rattle.reader.specs.declared.values.Operand.{Operand}
use Rattle.typing.specs.Signatures.{Ty, packet}
use Rattle.typing.specs.Typing.{integer, truth, variable, Entry, Ctx}
use Rattle.typing.specs.Marks.{member, note}
use Rattle.typing.proofs.Tests.{member_more}
use Rattle.typing.proofs.Given.{At, at_here, at_there, use_plain, use_lent, use_owner, UseAt, use_here, use_there, Given, given_integer, given_truth, given_variable, once-clear, Uses, uses_end, uses_more}

-- only what is given as packet changes
use_keep : {ρ : Ty} {x y : ℕ} {e : Entry} {H H' : Ctx} → UseAt ρ y H H' → At x e H → (ρ ≡ packet → x ≡ y → ⊥) → At x e H'
use_keep (use_here (use_plain u)) a n = a
use_keep (use_here use_lent) a n = a
use_keep (use_here use_owner) at_here n = absurd (n refl refl)
use_keep (use_here use_owner) (at_there a) n = at_there a
use_keep (use_there u) at_here n = at_here
use_keep (use_there u) (at_there a) n = at_there (use_keep u a (λ p q. n p (ap suc q)))

given_keep : {named : List ℕ} {H H' : Ctx} {v : Value} {ρ : Ty} {x : ℕ} {e : Entry} → Given named H v ρ H' → T (member x named) → At x e H → At x e H'
given_keep given_integer m a = a
given_keep given_truth m a = a
given_keep {named} (given_variable {x = y} s u) m a =
    use_keep u a (λ p q. once-clear y named p s (subst (λ z. T (member z named)) q m))

member-note : (v : Value) (x : ℕ) (named : List ℕ) → T (member x named) → T (member x (note v named))
member-note (integer n) x named m = m
member-note (truth b) x named m = m
member-note (variable y) x named m = member_more x y named m

pub uses_keep : {named : List ℕ} {H H' : Ctx} {vs : List Operand} {ρs : List Ty} {x : ℕ} {e : Entry}
    → Uses named H vs ρs H' → T (member x named) → At x e H → At x e H'
uses_keep uses_end m a = a
uses_keep {named} {x = x} (uses_more {v = v} g u) m a = uses_keep u (member-note v.value x named m) (given_keep g m a)
