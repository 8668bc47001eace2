-- The type system: contexts, the rules, the depth rule and the limits, and which programs are accepted.
-- Γ ⊢ e : τs says that e gives values of the types τs and needs of the bound variables just what the context Γ has.
use Rattle.std.specs.Prelude.{◌≡◌, ℕ, zero, suc, ◌+◌, ◌<◌, ◌≤◌, Bool, List, [], ◌∷◌, ◌++◌, map, length, Option}
use Rattle.std.proofs.Math.Option.{some}
use Rattle.std.proofs.Math.ListN.{get_elem?}
use Rattle.reader.specs.declared.values.Value.{Value}
use Rattle.reader.specs.declared.values.Operand.{Operand}
use Rattle.reader.specs.declared.operations.Operation.{Operation}
use Rattle.reader.specs.Syntax.{Body, return, branch, call, Function, Program}
use Rattle.typing.specs.Signatures.{Ty, int, bool, packet, alias, ◌⇒◌, signature, callee_depth}
pub use Rattle.reader.specs.declared.values.Value.TheVariants.{Integer as integer, Truth as truth, Variable as variable}
pub use Rattle.std.specs.Prelude.{None as absent, Some as has}

infix 10 ◌⊕◌≔◌ ◌▷◌≔◌
infix 5 ◌⊢ᵛ◌⦂◌ ◌⊢ˢ◌⦂◌ ◌∣◌⊢ᵉ◌⦂◌
-- what a context says of a bound variable: nothing, or that it may be used as a type
abbrev pub Entry : Type 0
Entry = Option Ty

-- a context: one entry for each bound variable, in their order; it has the variables that are not absent
abbrev pub Ctx : Type 0
Ctx = List Entry

-- side by side: τ₁ + τ₂ = τ, in no order; undefined where no line stands
pub data Beside : Ty → Ty → Ty → Type 0 where
  beside_int : Beside int int int
  beside_bool : Beside bool bool bool
  beside_alias : Beside alias alias alias

-- one after the other: τ₁ ; τ₂ = τ; the same, and an owner may be used as alias before it is used as packet
pub data Before : Ty → Ty → Ty → Type 0 where
  before_int : Before int int int
  before_bool : Before bool bool bool
  before_alias : Before alias alias alias
  before_owner : Before alias packet packet

-- an operation on types, at one variable of two contexts: what one of them has stays, what both have is joined
pub data Entrywise (Op : Ty → Ty → Ty → Type 0) : Entry → Entry → Entry → Type 0 where
  neither : Entrywise Op absent absent absent
  first : {τ : Ty} → Entrywise Op (has τ) absent (has τ)
  second : {τ : Ty} → Entrywise Op absent (has τ) (has τ)
  joined : {τ₁ τ₂ τ : Ty} → Op τ₁ τ₂ τ → Entrywise Op (has τ₁) (has τ₂) (has τ)

-- and at every variable
pub data Everywhere (Op : Ty → Ty → Ty → Type 0) : Ctx → Ctx → Ctx → Type 0 where
  nowhere : Everywhere Op [] [] []
  both : {e₁ e₂ e : Entry} {Γ₁ Γ₂ Γ : Ctx} → Entrywise Op e₁ e₂ e → Everywhere Op Γ₁ Γ₂ Γ → Everywhere Op (e₁ ∷ Γ₁) (e₂ ∷ Γ₂) (e ∷ Γ)

-- Γ₁ + Γ₂ = Γ
abbrev pub ◌⊕◌≔◌ : Ctx → Ctx → Ctx → Type 0
Γ₁ ⊕ Γ₂ ≔ Γ = Everywhere Beside Γ₁ Γ₂ Γ

-- Γ₁ ; Γ₂ = Γ
abbrev pub ◌▷◌≔◌ : Ctx → Ctx → Ctx → Type 0
Γ₁ ▷ Γ₂ ≔ Γ = Everywhere Before Γ₁ Γ₂ Γ

-- Γ = ∅
pub data Empty : Ctx → Type 0 where
  empty_end : Empty []
  empty_more : {Γ : Ctx} → Empty Γ → Empty (absent ∷ Γ)

-- Γ = { x : τ }
pub data Only : ℕ → Ty → Ctx → Type 0 where
  only_here : {τ : Ty} {Γ : Ctx} → Empty Γ → Only zero τ (has τ ∷ Γ)
  only_there : {x : ℕ} {τ : Ty} {Γ : Ctx} → Only x τ Γ → Only (suc x) τ (absent ∷ Γ)

-- Γ' = Γ, x : τ for a variable x that Γ does not have
pub data Added : ℕ → Ty → Ctx → Ctx → Type 0 where
  added_here : {τ : Ty} {Γ : Ctx} → Added zero τ (absent ∷ Γ) (has τ ∷ Γ)
  added_there : {x : ℕ} {τ : Ty} {e : Entry} {Γ Γ' : Ctx} → Added x τ Γ Γ' → Added (suc x) τ (e ∷ Γ) (e ∷ Γ')

-- τ is not packet
pub data Unowned : Ty → Type 0 where
  unowned_int : Unowned int
  unowned_bool : Unowned bool
  unowned_alias : Unowned alias

-- τ is not alias
pub data Unlent : Ty → Type 0 where
  unlent_int : Unlent int
  unlent_bool : Unlent bool
  unlent_packet : Unlent packet

-- something of every element
pub data Every {A : Type 0} (Q : A → Type 0) : List A → Type 0 where
  every_end : Every Q []
  every_more : {x : A} {xs : List A} → Q x → Every Q xs → Every Q (x ∷ xs)

-- Γ ⊢ v : τ
pub data ◌⊢ᵛ◌⦂◌ : Ctx → Value → Ty → Type 0 where
  -- { x : τ } ⊢ x : τ
  rule_var : {Γ : Ctx} {x : ℕ} {τ : Ty} → Only x τ Γ → Γ ⊢ᵛ variable x ⦂ τ
  -- ∅ ⊢ n : int
  rule_int : {Γ : Ctx} {n : ℕ} → Empty Γ → Γ ⊢ᵛ integer n ⦂ int
  -- ∅ ⊢ b : bool
  rule_bool : {Γ : Ctx} {b : Bool} → Empty Γ → Γ ⊢ᵛ truth b ⦂ bool

-- Γ₁ ⊢ v₁ : τ₁ … Γₖ ⊢ vₖ : τₖ with Γ = Γ₁ + … + Γₖ
pub data ◌⊢ˢ◌⦂◌ : Ctx → List Operand → List Ty → Type 0 where
  no_value : {Γ : Ctx} → Empty Γ → Γ ⊢ˢ [] ⦂ []
  one_more : {Γ Γ₁ Γ₂ : Ctx} {v : Operand} {vs : List Operand} {τ : Ty} {τs : List Ty}
      → Γ₁ ⊢ᵛ v.value ⦂ τ
      → Γ₂ ⊢ˢ vs ⦂ τs
      → Γ₁ ⊕ Γ₂ ≔ Γ
      → Γ ⊢ˢ v ∷ vs ⦂ τ ∷ τs

-- Γ ⊢ e : τ₁ × … × τₙ, in a program P
pub data ◌∣◌⊢ᵉ◌⦂◌ (P : Program) : Ctx → Body → List Ty → Type 0 where
  -- a call: its arguments, then what follows it, where its results are bound
  rule_call : {Γ Γ₁ Γ₀ : Ctx} {p : ℕ} {f : Operation} {vs : List Operand} {j : ℕ} {e : Body} {ρs σs τs : List Ty}
      → signature P f ≡ some (ρs ⇒ σs)
      → j ≡ length σs
      → Γ₁ ⊢ˢ vs ⦂ ρs
      → P ∣ Γ₀ ++ map has σs ⊢ᵉ e ⦂ τs
      → Γ₁ ▷ Γ₀ ≔ Γ
      → P ∣ Γ ⊢ᵉ call p f vs j e ⦂ τs
  -- a return, which gives no alias
  rule_return : {Γ : Ctx} {p : ℕ} {vs : List Operand} {τs : List Ty}
      → Γ ⊢ˢ vs ⦂ τs
      → Every Unlent τs
      → P ∣ Γ ⊢ᵉ return p vs ⦂ τs
  -- an if: its value, then either branch from the same context
  rule_if : {Γ Γ₁ Γ₂ : Ctx} {p : ℕ} {v : Operand} {e₁ e₂ : Body} {τs : List Ty}
      → Γ₁ ⊢ᵛ v.value ⦂ bool
      → P ∣ Γ₂ ⊢ᵉ e₁ ⦂ τs
      → P ∣ Γ₂ ⊢ᵉ e₂ ⦂ τs
      → Γ₁ ▷ Γ₂ ≔ Γ
      → P ∣ Γ ⊢ᵉ branch p v e₁ e₂ ⦂ τs
  -- weakening: a variable may stay unused, an owner never
  rule_weak : {Γ Γ' : Ctx} {x : ℕ} {ρ : Ty} {e : Body} {τs : List Ty}
      → P ∣ Γ ⊢ᵉ e ⦂ τs
      → Added x ρ Γ Γ'
      → Unowned ρ
      → P ∣ Γ' ⊢ᵉ e ⦂ τs

-- a function: its body gives its results, from a context that has its parameters
abbrev pub FunctionTyped : Program → Function → Type 0
FunctionTyped P F = P ∣ map has F.params ⊢ᵉ F.body ⦂ F.results

-- something of each function of a program, with its number
abbrev pub EachFunction : Program → (ℕ → Function → Type 0) → Type 0
EachFunction P Q = (i : ℕ) (F : Function) → get_elem? P.functions i ≡ some F → Q i F

-- at most 16 variables are bound on any path, n of them before
abbrev pub Room : ℕ → Body → Type 0
Room n (return p vs) = Unit {0}
Room n (branch p v e₁ e₂) = Room n e₁ × Room n e₂
Room n (call p f vs j e) = (n + j ≤ 16) × Room (n + j) e

-- the values are the j variables from n on, in order
pub data Consecutive : ℕ → ℕ → List Operand → Type 0 where
  consecutive_end : {n : ℕ} → Consecutive n zero []
  consecutive_more : {n j : ℕ} {v : Operand} {vs : List Operand} → v.value ≡ variable n → Consecutive (suc n) j vs → Consecutive n (suc j) (v ∷ vs)

-- a tail call: what follows the call returns exactly its j results in order, which are bound from n on
pub data Tail (n j : ℕ) : Body → Type 0 where
  tail : {p : ℕ} {vs : List Operand} → Consecutive n j vs → Tail n j (return p vs)

-- the depth rule for a function of depth d, with n variables bound before:
-- a tail call only to depths of at most d, another call of a function of the program only to depths below d
abbrev pub Deep : Program → (d n : ℕ) → Body → Type 0
Deep P d n (return p vs) = Unit {0}
Deep P d n (branch p v e₁ e₂) = Deep P d n e₁ × Deep P d n e₂
Deep P d n (call p f vs j e) =
    ((c : ℕ) → callee_depth P f ≡ some c → (Tail n j e → c ≤ d) × (¬ Tail n j e → c < d)) × Deep P d (n + j) e

-- which programs are accepted
pub record Accepted (P : Program) : Type 0 where
  -- every function is typed
  pub typed : EachFunction P (λ i F. FunctionTyped P F)
  -- the functions of the threads take and give nothing
  pub threads : EachFunction P (λ i F. i < P.threads → (F.params ≡ []) × (F.results ≡ []))
  -- at most 16 variables are bound on any path
  pub room : EachFunction P (λ i F. Room (length F.params) F.body)
  -- the depth rule
  pub depths : EachFunction P (λ i F. Deep P F.depth (length F.params) F.body)
