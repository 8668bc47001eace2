-- Derivations by the node at hand: what each asks of the marks and of the nodes that follow, with no weakening left.
use Rattle.std.proofs.Common.{◌≡◌, ℕ, not, T, ◌↔◌, List, [], ◌∷◌, ◌++◌, map, length, sym, refl, subst, ap₂}
use mathlib.Core.Option.{some}
use Rattle.reader.specs.declared.values.Value.{Value}
use Rattle.reader.specs.declared.values.Operand.{Operand}
use Rattle.reader.specs.declared.operations.Operation.{Operation}
use Rattle.reader.specs.Syntax.{Body, return, branch, call, Program}
use Rattle.typing.specs.Signatures.{Ty, int, bool, packet, alias, ◌⇒◌, signature}
use Rattle.typing.specs.Typing.{Entry, has, Ctx, Before, before_int, before_bool, before_alias, before_owner, Entrywise, neither, first, second, joined, nowhere, both, ◌⊕◌≔◌, ◌▷◌≔◌, Empty, empty_end, empty_more, unowned_int, unowned_bool, unowned_alias, Unlent, Every, ◌⊢ᵛ◌⦂◌, no_value, one_more, ◌⊢ˢ◌⦂◌, ◌∣◌⊢ᵉ◌⦂◌, rule_call, rule_return, rule_if, rule_weak}
use Rattle.typing.specs.Marks.{owner, all_spent}
use Rattle.typing.proofs.Tests.{and_left, and_right}
use Rattle.typing.proofs.Given.{Given, Uses, uses_end, uses_more, given_bool}
use Rattle.typing.proofs.Contexts.{nothing, nothing-empty, empty_right, Spare, kept, spare, Covers, covers_end, covers_more, covers_refl, covers-append, added-covers, weaken}
use Rattle.typing.proofs.Lists.{clear_none, uses-sound, uses_complete}

pub record CallNode (P : Program) (τs : List Ty) (H : Ctx) (f : Operation) (vs : List Operand) (j : ℕ) (e : Body) : Type 0 where
  pub params : List Ty
  pub results : List Ty
  -- the marks after the arguments
  pub left : Ctx
  pub callee : signature P f ≡ some (params ⇒ results)
  pub count : j ≡ length results
  pub uses : Uses [] H vs params left
  pub rest : P ∣ left ++ map has results ⊢ᵉ e ⦂ τs

pub record ReturnNode (τs : List Ty) (H : Ctx) (vs : List Operand) : Type 0 where
  -- the marks after the values
  pub left : Ctx
  pub uses : Uses [] H vs τs left
  pub spent : T (all_spent left)
  pub unlent : Every Unlent τs

pub record IfNode (P : Program) (τs : List Ty) (H : Ctx) (v : Value) (e₁ e₂ : Body) : Type 0 where
  pub tested : Given [] H v bool H
  pub then_first : P ∣ H ⊢ᵉ e₁ ⦂ τs
  pub or_second : P ∣ H ⊢ᵉ e₂ ⦂ τs

abbrev pub Node : Program → List Ty → Ctx → Body → Type 0
Node P τs H (return p vs) = ReturnNode τs H vs
Node P τs H (branch p v e₁ e₂) = IfNode P τs H v.value e₁ e₂
Node P τs H (call p f vs j e) = CallNode P τs H f vs j e

-- at a return every owner is spent, so what is left may stay unused
spent-entry : {s h' h : Entry} → Entrywise Before s h' h → T (not (owner h')) → Spare s h
spent-entry neither t = kept
spent-entry first t = kept
spent-entry (second {τ = int}) t = spare unowned_int
spent-entry (second {τ = bool}) t = spare unowned_bool
spent-entry (second {τ = packet}) t = absurd t
spent-entry (second {τ = alias}) t = spare unowned_alias
spent-entry (joined before_int) t = kept
spent-entry (joined before_bool) t = kept
spent-entry (joined before_alias) t = kept
spent-entry (joined before_owner) t = absurd t

spent-covers : {S H' H : Ctx} → S ▷ H' ≔ H → T (all_spent H') → Covers S H
spent-covers nowhere t = covers_end
spent-covers (both {e₂ = h'} {Γ₂ = H'} a r) t =
    covers_more (spent-entry a (and_left (not (owner h')) (all_spent H') t)) (spent-covers r (and_right (not (owner h')) (all_spent H') t))

nothing-spent : (Γ : Ctx) {H : Ctx} → Covers (nothing Γ) H → T (all_spent H)
nothing-spent [] covers_end = tt
nothing-spent (e ∷ Γ) (covers_more kept c) = nothing-spent Γ c
nothing-spent (e ∷ Γ) (covers_more (spare unowned_int) c) = nothing-spent Γ c
nothing-spent (e ∷ Γ) (covers_more (spare unowned_bool) c) = nothing-spent Γ c
nothing-spent (e ∷ Γ) (covers_more (spare unowned_alias) c) = nothing-spent Γ c

-- one value as a list
beside-empty : {S₁ S₂ S : Ctx} → Empty S₂ → S₁ ⊕ S₂ ≔ S → S ≡ S₁
beside-empty empty_end nowhere = refl
beside-empty (empty_more e) (both neither r) = ap₂ {C = Ctx} (λ h H. h ∷ H) refl (beside-empty e r)
beside-empty (empty_more e) (both first r) = ap₂ {C = Ctx} (λ h H. h ∷ H) refl (beside-empty e r)

tested-sound : {H : Ctx} (v : Operand) → Given [] H v.value bool H → (S : Ctx) × S ⊢ᵛ v.value ⦂ bool × S ▷ H ≔ H
tested-sound {H} v g = let (S, ds, t, _) = uses-sound (uses_more g uses_end) in one ds t
  where
    one : {S : Ctx} → S ⊢ˢ v ∷ [] ⦂ bool ∷ [] → S ▷ H ≔ H → (S₁ : Ctx) × S₁ ⊢ᵛ v.value ⦂ bool × S₁ ▷ H ≔ H
    one (one_more {Γ₁ = S₁} dv (no_value e) p) t = (S₁, dv, subst (λ G. G ▷ H ≔ H) (beside-empty e p) t)

tested_complete : {S Γ₂ Γ H : Ctx} (v : Operand) → S ⊢ᵛ v.value ⦂ bool → S ▷ Γ₂ ≔ Γ → Covers Γ H → Given [] H v.value bool H × Covers Γ₂ H
tested_complete {S} {Γ₂} {Γ} {H} v dv t c =
    let (H', u, c') = uses_complete (one_more {v = v} dv (no_value (nothing-empty S)) (empty_right S)) [] Γ₂ Γ H t c clear_none in
    one u c'
  where
    one : {H' : Ctx} → Uses [] H (v ∷ []) (bool ∷ []) H' → Covers Γ₂ H' → Given [] H v.value bool H × Covers Γ₂ H
    one (uses_more g uses_end) c' =
        let e = sym (given_bool g) in
        (subst (λ G. Given [] H v.value bool G) e g, subst (λ G. Covers Γ₂ G) e c')

node_from : {P : Program} {τs : List Ty} {Γ : Ctx} {e : Body} → P ∣ Γ ⊢ᵉ e ⦂ τs → (H : Ctx) → Covers Γ H → Node P τs H e
node_from (rule_call {Γ₀ = Γ₀} {ρs = ρs} {σs = σs} found m ds de t) H c =
    let (H', u, c') = uses_complete ds [] Γ₀ _ H t c clear_none in
    record {
      params = ρs;
      results = σs;
      left = H';
      callee = found;
      count = m;
      uses = u;
      rest = weaken (covers-append c' (map has σs)) de;
    }
node_from (rule_return {Γ = Γ} ds u) H c =
    let (H', g, c') = uses_complete ds [] (nothing Γ) Γ H (empty_right Γ) c clear_none in
    record { left = H'; uses = g; spent = nothing-spent Γ c'; unlent = u }
node_from (rule_if {v = v} dv d₁ d₂ t) H c =
    let (g, c₂) = tested_complete v dv t c in
    record { tested = g; then_first = weaken c₂ d₁; or_second = weaken c₂ d₂ }
node_from (rule_weak d a u) H c = node_from d H (added-covers a u c)

node-typed : {P : Program} {τs : List Ty} {H : Ctx} (e : Body) → Node P τs H e → P ∣ H ⊢ᵉ e ⦂ τs
node-typed (return p vs) n =
    let (S, ds, t, _) = uses-sound n.uses in
    weaken (spent-covers t n.spent) (rule_return ds n.unlent)
node-typed (branch p v e₁ e₂) n =
    let (S, dv, t) = tested-sound v n.tested in
    rule_if dv n.then_first n.or_second t
node-typed (call p f vs j e) n =
    let (S, ds, t, _) = uses-sound n.uses in
    rule_call n.callee n.count ds n.rest t

pub by_node : (P : Program) (τs : List Ty) (H : Ctx) (e : Body) → P ∣ H ⊢ᵉ e ⦂ τs ↔ Node P τs H e
by_node P τs H e = ((λ d. node_from d H (covers_refl H)), λ n. node-typed e n)
