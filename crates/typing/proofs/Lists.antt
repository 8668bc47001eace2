-- Values: those that can be given from the marks are those that a derivation takes, and it leaves what the marks leave.
use Rattle.std.proofs.Common.{◌≡◌, ℕ, suc, T, ◌⊎◌, List, [], ◌∷◌, refl, ap, subst, inl, inr}
use lib.Dec.{not_T}
use Rattle.reader.specs.declared.values.Value.{Value}
use Rattle.reader.specs.declared.values.Operand.{Operand}
use Rattle.typing.specs.Signatures.{Ty, int, bool, packet, alias}
use Rattle.typing.specs.Typing.{variable, Entry, absent, has, Ctx, Beside, beside_int, beside_bool, beside_alias, Before, before_int, before_bool, before_alias, before_owner, Entrywise, neither, first, second, joined, nowhere, both, ◌⊕◌≔◌, ◌▷◌≔◌, Empty, empty_end, empty_more, Only, only_here, only_there, unowned_int, unowned_bool, unowned_alias, ◌⊢ᵛ◌⦂◌, rule_var, rule_int, rule_bool, ◌⊢ˢ◌⦂◌, no_value, one_more}
use Rattle.typing.specs.Marks.{member, note, once}
use Rattle.typing.proofs.Tests.{member-last, member_more, member_split}
use Rattle.typing.proofs.Given.{At, at_here, at_there, Use, use_plain, use_lent, use_owner, UseAt, use_here, use_there, Given, given_integer, given_truth, given_variable, once-clear, Uses, uses_end, uses_more}
use Rattle.typing.proofs.Contexts.{nothing, nothing-empty, absent_left, empty_left, regroup, Spare, kept, spare, Covers, covers_more, empty-covers}

-- no variable that was named is an owner in S
abbrev pub Clear : List ℕ → Ctx → Type 0
Clear named S = (y : ℕ) → T (member y named) → ¬ At y (has packet) S

pub clear_none : {S : Ctx} → Clear [] S
clear_none y m = absurd m

clear-once : (ρ : Ty) (x : ℕ) (named : List ℕ) → (ρ ≡ packet → ¬ T (member x named)) → T (once ρ (variable x) named)
clear-once int x named h = tt
clear-once bool x named h = tt
clear-once packet x named h = not_T (member x named) (h refl)
clear-once alias x named h = tt

-- From what is given to a derivation.

-- one variable: it is given as ρ, which takes h to h₁, and the values after it take s₂ of h₁ and leave h'
use-beside : {ρ : Ty} {h h₁ s₂ h' : Entry} → Use ρ h h₁ → Entrywise Before s₂ h' h₁ → ¬ (s₂ ≡ has packet) → Entrywise Beside (has ρ) s₂ (has ρ)
use-beside (use_plain unowned_int) first n = joined beside_int
use-beside (use_plain unowned_int) second n = first
use-beside (use_plain unowned_int) (joined before_int) n = joined beside_int
use-beside (use_plain unowned_bool) first n = joined beside_bool
use-beside (use_plain unowned_bool) second n = first
use-beside (use_plain unowned_bool) (joined before_bool) n = joined beside_bool
use-beside (use_plain unowned_alias) first n = joined beside_alias
use-beside (use_plain unowned_alias) second n = first
use-beside (use_plain unowned_alias) (joined before_alias) n = joined beside_alias
use-beside use_lent first n = absurd (n refl)
use-beside use_lent second n = first
use-beside use_lent (joined before_owner) n = joined beside_alias
use-beside use_owner neither n = first

use-before : {ρ : Ty} {h h₁ s₂ h' : Entry} → Use ρ h h₁ → Entrywise Before s₂ h' h₁ → ¬ (s₂ ≡ has packet) → Entrywise Before (has ρ) h' h
use-before (use_plain u) first n = first
use-before (use_plain unowned_int) second n = joined before_int
use-before (use_plain unowned_int) (joined before_int) n = joined before_int
use-before (use_plain unowned_bool) second n = joined before_bool
use-before (use_plain unowned_bool) (joined before_bool) n = joined before_bool
use-before (use_plain unowned_alias) second n = joined before_alias
use-before (use_plain unowned_alias) (joined before_alias) n = joined before_alias
use-before use_lent first n = absurd (n refl)
use-before use_lent second n = joined before_owner
use-before use_lent (joined before_owner) n = joined before_owner
use-before use_owner neither n = first

owners-here : {ρ : Ty} {s₂ : Entry} {S₂ : Ctx} (y : ℕ) → At y (has packet) (has ρ ∷ S₂) → At y (has packet) (s₂ ∷ S₂) ⊎ ((ρ ≡ packet) × (y ≡ 0))
owners-here y at_here = inr (refl, refl)
owners-here y (at_there b) = inl (at_there b)

owners-there : {ρ : Ty} {x : ℕ} {s₂ : Entry} {S₂ S : Ctx}
    → ((y : ℕ) → At y (has packet) S → At y (has packet) S₂ ⊎ ((ρ ≡ packet) × (y ≡ x)))
    → (y : ℕ) → At y (has packet) (s₂ ∷ S) → At y (has packet) (s₂ ∷ S₂) ⊎ ((ρ ≡ packet) × (y ≡ suc x))
owners-there f y at_here = inl at_here
owners-there f y (at_there {x = z} b) = elim (f z b) [ inl c ↦ inl (at_there c) | inr c ↦ inr (c.0, ap suc c.1) ]

-- { x : ρ } beside what the values after it take; only x can be an owner more
join : {ρ : Ty} {x : ℕ} {H H₁ S₂ H' : Ctx} → UseAt ρ x H H₁ → S₂ ▷ H' ≔ H₁ → ¬ At x (has packet) S₂
    → (S₁ : Ctx) × (S : Ctx) × Only x ρ S₁ × S₁ ⊕ S₂ ≔ S × S ▷ H' ≔ H × ((y : ℕ) → At y (has packet) S → At y (has packet) S₂ ⊎ ((ρ ≡ packet) × (y ≡ x)))
join {ρ} (use_here u) (both {e₁ = s₂} {Γ₁ = S₂} a r) n = (
  has ρ ∷ nothing S₂,
  has ρ ∷ S₂,
  only_here (nothing-empty S₂),
  both (use-beside u a not_owner) (empty_left S₂),
  both (use-before u a not_owner) r,
  owners-here,
)
  where
    not_owner : ¬ (s₂ ≡ has packet)
    not_owner e = n (rw e at_here)
join {ρ} (use_there {x = x} u) (both {e₁ = s₂} {Γ₁ = S₂} a r) n =
    let (S₁, S, o, p, t, owners) = join u r (λ b. n (at_there b)) in
    (absent ∷ S₁, s₂ ∷ S, only_there o, both (absent_left s₂) p, both a t, owners-there owners)

empty-clear : {S : Ctx} {y : ℕ} → Empty S → ¬ At y (has packet) S
empty-clear empty_end a = elim a [ ]
empty-clear (empty_more e) (at_there a) = empty-clear e a

-- one value, before others
value-sound : {named : List ℕ} {H H₁ H' S₂ : Ctx} {v : Value} {ρ : Ty} → Given named H v ρ H₁ → S₂ ▷ H' ≔ H₁ → Clear (note v named) S₂
    → (S₁ : Ctx) × (S : Ctx) × S₁ ⊢ᵛ v ⦂ ρ × S₁ ⊕ S₂ ≔ S × S ▷ H' ≔ H × Clear named S
value-sound {S₂ = S₂} given_integer t c = (nothing S₂, S₂, rule_int (nothing-empty S₂), empty_left S₂, t, c)
value-sound {S₂ = S₂} given_truth t c = (nothing S₂, S₂, rule_bool (nothing-empty S₂), empty_left S₂, t, c)
value-sound {named} {ρ = ρ} (given_variable {x = x} s u) t c =
    let (S₁, S, o, p, t', owners) = join u t (c x (member-last x named)) in (
      S₁,
      S,
      rule_var o,
      p,
      t',
      λ y m a. elim (owners y a) [
        | inl b ↦ c y (member_more y x named m) b
        | inr e ↦ once-clear x named e.0 s (subst (λ z. T (member z named)) e.1 m)
      ],
    )

-- a list of values
pub uses-sound : {named : List ℕ} {H H' : Ctx} {vs : List Operand} {ρs : List Ty} → Uses named H vs ρs H'
    → (S : Ctx) × (S ⊢ˢ vs ⦂ ρs) × S ▷ H' ≔ H × Clear named S
uses-sound {H = H} uses_end = (nothing H, no_value (nothing-empty H), empty_left H, λ y m. empty-clear (nothing-empty H))
uses-sound (uses_more g u) =
    let (S₂, ds, t₂, c₂) = uses-sound u in
    let (S₁, S, dv, p, t, c) = value-sound g t₂ c₂ in
    (S, one_more dv ds p, t, c)

-- From a derivation to what is given.

-- a variable that a derivation uses as ρ can be given as ρ
use-entry : {ρ : Ty} {g₁ g h : Entry} → Entrywise Before (has ρ) g₁ g → Spare g h → (h₁ : Entry) × Use ρ h h₁ × Spare g₁ h₁
use-entry (first {τ = int}) kept = (has int, use_plain unowned_int, spare unowned_int)
use-entry (first {τ = bool}) kept = (has bool, use_plain unowned_bool, spare unowned_bool)
use-entry (first {τ = packet}) kept = (absent, use_owner, kept)
use-entry (first {τ = alias}) kept = (has alias, use_plain unowned_alias, spare unowned_alias)
use-entry (joined before_int) kept = (has int, use_plain unowned_int, kept)
use-entry (joined before_bool) kept = (has bool, use_plain unowned_bool, kept)
use-entry (joined before_alias) kept = (has alias, use_plain unowned_alias, kept)
use-entry (joined before_owner) kept = (has packet, use_lent, kept)

used : {x : ℕ} {ρ : Ty} {S₁ Γ₁ Γ H : Ctx} → Only x ρ S₁ → S₁ ▷ Γ₁ ≔ Γ → Covers Γ H → (H₁ : Ctx) × UseAt ρ x H H₁ × Covers Γ₁ H₁
used (only_here e) (both a r) (covers_more {H = H} s c) =
    let (h₁, u, s₁) = use-entry a s in
    (h₁ ∷ H, use_here u, covers_more s₁ (empty-covers e r c))
used (only_there o) (both neither r) (covers_more {h = h} s c) =
    let (H₁, u, c₁) = used o r c in
    (h ∷ H₁, use_there u, covers_more s c₁)
used (only_there o) (both second r) (covers_more {h = h} s c) =
    let (H₁, u, c₁) = used o r c in
    (h ∷ H₁, use_there u, covers_more s c₁)

only_at : {x : ℕ} {ρ : Ty} {S₁ S₂ S : Ctx} → Only x ρ S₁ → S₁ ⊕ S₂ ≔ S → At x (has ρ) S
only_at (only_here e) (both first r) = at_here
only_at (only_here e) (both (joined beside_int) r) = at_here
only_at (only_here e) (both (joined beside_bool) r) = at_here
only_at (only_here e) (both (joined beside_alias) r) = at_here
only_at (only_there o) (both a r) = at_there (only_at o r)

beside-owner : {y : ℕ} {S₁ S₂ S : Ctx} → S₁ ⊕ S₂ ≔ S → At y (has packet) S₂ → At y (has packet) S
beside-owner nowhere b = elim b [ ]
beside-owner (both second r) at_here = at_here
beside-owner (both (joined o) r) at_here = elim o [ ]
beside-owner (both a r) (at_there b) = at_there (beside-owner r b)

not_twice : {x : ℕ} {ρ : Ty} {S₁ S₂ S : Ctx} → Only x ρ S₁ → S₁ ⊕ S₂ ≔ S → ¬ At x (has packet) S₂
not_twice (only_here e) (both first r) b = elim b [ ]
not_twice (only_here e) (both (joined o) r) at_here = elim o [ ]
not_twice (only_there o) (both a r) (at_there b) = not_twice o r b

-- one value, before others
value_complete : {named : List ℕ} {v : Value} {ρ : Ty} {S₁ S₂ S Γ₁ Γ H : Ctx} → S₁ ⊢ᵛ v ⦂ ρ → S₁ ⊕ S₂ ≔ S → S₁ ▷ Γ₁ ≔ Γ → Covers Γ H → Clear named S
    → (H₁ : Ctx) × Given named H v ρ H₁ × Covers Γ₁ H₁ × Clear (note v named) S₂
value_complete {H = H} (rule_int e) p t c f = (H, given_integer, empty-covers e t c, λ y m b. f y m (beside-owner p b))
value_complete {H = H} (rule_bool e) p t c f = (H, given_truth, empty-covers e t c, λ y m b. f y m (beside-owner p b))
value_complete {named} {ρ = ρ} {S₂ = S₂} {S = S} (rule_var {x = x} o) p t c f =
    let (H₁, u, c₁) = used o t c in (
      H₁,
      given_variable (clear-once ρ x named (λ e m. f x m (subst (λ r. At x (has r) S) e (only_at o p)))) u,
      c₁,
      λ y m b. elim (member_split y x named m) [
        | inl n ↦ f y n (beside-owner p b)
        | inr e ↦ not_twice o p (subst (λ z. At z (has packet) S₂) e b)
      ],
    )

-- a list of values
pub uses_complete : {vs : List Operand} {ρs : List Ty} {S : Ctx} → S ⊢ˢ vs ⦂ ρs → (named : List ℕ) (Γ₀ Γ H : Ctx) → S ▷ Γ₀ ≔ Γ → Covers Γ H → Clear named S
    → (H' : Ctx) × Uses named H vs ρs H' × Covers Γ₀ H'
uses_complete (no_value e) named Γ₀ Γ H t c f = (H, uses_end, empty-covers e t c)
uses_complete (one_more {v = v} dv ds p) named Γ₀ Γ H t c f =
    let (Γ₁, t₂, t₁) = regroup p t in
    let (H₁, g, c₁, f₁) = value_complete dv p t₁ c f in
    let (H', u, c') = uses_complete ds (note v.value named) Γ₀ Γ₁ H₁ t₂ c₁ f₁ in
    (H', uses_more g u, c')
