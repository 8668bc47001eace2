-- Contexts, variable by variable.
use Rattle.std.proofs.Common.{ℕ, List, [], ◌∷◌, ◌++◌}
use Rattle.reader.specs.Syntax.{Program, Body}
use Rattle.typing.specs.Signatures.{Ty, int, bool, packet, alias}
use Rattle.typing.specs.Typing.{Entry, absent, has, Ctx, Beside, beside_int, beside_bool, beside_alias, Before, before_int, before_bool, before_alias, before_owner, Entrywise, neither, first, second, joined, Everywhere, nowhere, both, ◌⊕◌≔◌, ◌▷◌≔◌, Empty, empty_end, empty_more, Added, added_here, added_there, Unowned, ◌∣◌⊢ᵉ◌⦂◌, rule_weak}

-- the empty context over the variables of another
abbrev pub nothing : Ctx → Ctx
nothing [] = []
nothing (e ∷ Γ) = absent ∷ nothing Γ

pub nothing-empty : (Γ : Ctx) → Empty (nothing Γ)
nothing-empty [] = empty_end
nothing-empty (e ∷ Γ) = empty_more (nothing-empty Γ)

pub absent_left : {Op : Ty → Ty → Ty → Type 0} (e : Entry) → Entrywise Op absent e e
absent_left absent = neither
absent_left (has τ) = second

pub empty_left : {Op : Ty → Ty → Ty → Type 0} (Γ : Ctx) → Everywhere Op (nothing Γ) Γ Γ
empty_left [] = nowhere
empty_left (e ∷ Γ) = both (absent_left e) (empty_left Γ)

pub empty_right : {Op : Ty → Ty → Ty → Type 0} (Γ : Ctx) → Everywhere Op Γ (nothing Γ) Γ
empty_right [] = nowhere
empty_right (absent ∷ Γ) = both neither (empty_right Γ)
empty_right (has τ ∷ Γ) = both first (empty_right Γ)

-- (s₁ + s₂) ; g₀ = s₁ ; (s₂ ; g₀)
regroup_entry : {s₁ s₂ s g₀ g : Entry} → Entrywise Beside s₁ s₂ s → Entrywise Before s g₀ g → (g₁ : Entry) × Entrywise Before s₂ g₀ g₁ × Entrywise Before s₁ g₁ g
regroup_entry neither neither = (absent, neither, neither)
regroup_entry neither (second {τ = τ}) = (has τ, second, second)
regroup_entry first first = (absent, neither, first)
regroup_entry first (joined {τ₂ = τ₂} o) = (has τ₂, second, joined o)
regroup_entry (second {τ = τ}) first = (has τ, first, second)
regroup_entry second (joined {τ = τ} o) = (has τ, joined o, second)
regroup_entry (joined beside_int) first = (has int, first, joined before_int)
regroup_entry (joined beside_int) (joined before_int) = (has int, joined before_int, joined before_int)
regroup_entry (joined beside_bool) first = (has bool, first, joined before_bool)
regroup_entry (joined beside_bool) (joined before_bool) = (has bool, joined before_bool, joined before_bool)
regroup_entry (joined beside_alias) first = (has alias, first, joined before_alias)
regroup_entry (joined beside_alias) (joined before_alias) = (has alias, joined before_alias, joined before_alias)
regroup_entry (joined beside_alias) (joined before_owner) = (has packet, joined before_owner, joined before_owner)

pub regroup : {S₁ S₂ S Γ₀ Γ : Ctx} → S₁ ⊕ S₂ ≔ S → S ▷ Γ₀ ≔ Γ → (Γ₁ : Ctx) × S₂ ▷ Γ₀ ≔ Γ₁ × S₁ ▷ Γ₁ ≔ Γ
regroup nowhere nowhere = ([], nowhere, nowhere)
regroup (both a p) (both b t) =
    let (g, c, d) = regroup_entry a b in
    let (Γ₁, q, r) = regroup p t in
    (g ∷ Γ₁, both c q, both d r)

-- Γ is H but for variables of H that may stay unused
pub data Spare : Entry → Entry → Type 0 where
  kept : {e : Entry} → Spare e e
  spare : {ρ : Ty} → Unowned ρ → Spare absent (has ρ)

pub data Covers : Ctx → Ctx → Type 0 where
  covers_end : Covers [] []
  covers_more : {e h : Entry} {Γ H : Ctx} → Spare e h → Covers Γ H → Covers (e ∷ Γ) (h ∷ H)

pub covers_refl : (Γ : Ctx) → Covers Γ Γ
covers_refl [] = covers_end
covers_refl (e ∷ Γ) = covers_more kept (covers_refl Γ)

pub covers-append : {Γ H : Ctx} → Covers Γ H → (Δ : Ctx) → Covers (Γ ++ Δ) (H ++ Δ)
covers-append covers_end Δ = covers_refl Δ
covers-append (covers_more s c) Δ = covers_more s (covers-append c Δ)

pub added-covers : {x : ℕ} {ρ : Ty} {Γ Γ' H : Ctx} → Added x ρ Γ Γ' → Unowned ρ → Covers Γ' H → Covers Γ H
added-covers added_here u (covers_more kept c) = covers_more (spare u) c
added-covers (added_there a) u (covers_more s c) = covers_more s (added-covers a u c)

pub empty-covers : {E Γ₁ Γ H : Ctx} → Empty E → E ▷ Γ₁ ≔ Γ → Covers Γ H → Covers Γ₁ H
empty-covers empty_end nowhere covers_end = covers_end
empty-covers (empty_more e) (both neither r) (covers_more s c) = covers_more s (empty-covers e r c)
empty-covers (empty_more e) (both second r) (covers_more s c) = covers_more s (empty-covers e r c)

-- variables added one after the other
data Chain : Ctx → Ctx → Type 0 where
  chain_end : {Γ : Ctx} → Chain Γ Γ
  chain_more : {x : ℕ} {ρ : Ty} {Γ Γ₁ Γ₂ : Ctx} → Added x ρ Γ Γ₁ → Unowned ρ → Chain Γ₁ Γ₂ → Chain Γ Γ₂

chain-below : {e : Entry} {Γ H : Ctx} → Chain Γ H → Chain (e ∷ Γ) (e ∷ H)
chain-below chain_end = chain_end
chain-below (chain_more a u c) = chain_more (added_there a) u (chain-below c)

covers-chain : {Γ H : Ctx} → Covers Γ H → Chain Γ H
covers-chain covers_end = chain_end
covers-chain (covers_more kept c) = chain-below (covers-chain c)
covers-chain (covers_more (spare u) c) = chain_more added_here u (chain-below (covers-chain c))

chain-typed : {P : Program} {τs : List Ty} {e : Body} {Γ H : Ctx} → Chain Γ H → P ∣ Γ ⊢ᵉ e ⦂ τs → P ∣ H ⊢ᵉ e ⦂ τs
chain-typed chain_end d = d
chain-typed (chain_more a u c) d = chain-typed c (rule_weak d a u)

-- a derivation stands from every context that covers its own
pub weaken : {P : Program} {τs : List Ty} {e : Body} {Γ H : Ctx} → Covers Γ H → P ∣ Γ ⊢ᵉ e ⦂ τs → P ∣ H ⊢ᵉ e ⦂ τs
weaken c d = chain-typed (covers-chain c) d
