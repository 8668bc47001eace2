-- Layer 2 of a function, answer by answer.
use Rattle.std.proofs.Common.{◌≡◌, ℕ, ◌+◌, Bool, not, List, [], ◌∷◌, Some, None, Option, Ok, Result, sym, refl, ap, ◌∙◌, add-zero, add_assoc}
use Rattle.std.specs.Prelude.{position}
use Rattle.std.specs.List.{position_from}
use Rattle.std.proofs.lemmas.Iterator.Adapters.{position_from-zero}
use Rattle.reader.specs.declared.questions.Question.TheVariants as q
use Rattle.reader.specs.declared.faults.Fault.{Fault}
use Rattle.reader.specs.declared.types.Ty.{Ty}
use Rattle.reader.specs.Fields.{then, denied}
use Rattle.reader.specs.Syntax.{Function, Program}
use Rattle.typing.specs.Signatures.{int, bool, packet, alias}
use Rattle.typing.specs.Marks.{ask}
use Rattle.typing.specs.Layers.{unlent, no_alias, results_place, thread_ready, outside}

-- what is answered where the first alias has a place among the results, which stand from p on
abbrev pub lent_at : (i p : ℕ) → Option ℕ → Result (Unit {0}) Fault
lent_at i p None = Ok tt
lent_at i p (Some k) = denied q.NoAliasResult i (p + k)

abbrev pub lent : Ty → Bool
lent τ = not (unlent τ)

pub no_alias-position : (i p : ℕ) (τs : List Ty) → no_alias i p τs ≡ lent_at i p (position lent τs)
no_alias-position i p τs = ap (λ n. no_alias i n τs) (sym (add-zero p)) ∙ from 0 τs ∙ ap (lent_at i p) (sym (position_from-zero lent τs))
  where
    from : (k : ℕ) (τs : List Ty) → no_alias i (p + k) τs ≡ lent_at i p (position_from lent k τs)
    from k [] = refl
    from k (int ∷ τs) = ap (λ n. no_alias i n τs) (add_assoc p k 1) ∙ from (k + 1) τs
    from k (bool ∷ τs) = ap (λ n. no_alias i n τs) (add_assoc p k 1) ∙ from (k + 1) τs
    from k (packet ∷ τs) = ap (λ n. no_alias i n τs) (add_assoc p k 1) ∙ from (k + 1) τs
    from k (alias ∷ τs) = refl

-- layer 2 of a function, by what its two questions find
abbrev pub outside_by : (i : ℕ) (F : Function) → (ready : Bool) → (first : Option ℕ) → Result (Unit {0}) Fault
outside_by i F ready first = then (ask q.ThreadSignature i F.place ready) λ _. lent_at i (results_place F) first

pub outside-is : (P : Program) (i : ℕ) (F : Function) (ready : Bool) (first : Option ℕ) → ready ≡ thread_ready P i F → first ≡ position lent F.results
    → outside_by i F ready first ≡ outside P i F
outside-is P i F ready first h k =
    (λ j. outside_by i F (h j) (k j)) ∙ ap (λ r. then (ask q.ThreadSignature i F.place (thread_ready P i F)) (λ _. r)) (sym (no_alias-position i (results_place F) F.results))
