-- What giving values comes to.
use Rattle.std.specs.Prelude.{◌≡◌, ℕ, ◌+◌, ◌≤◌, List, [], ◌∷◌, ◌++◌, length, slice_get, slice_set, Some, None, Ok, Option}
use Rattle.reader.specs.declared.types.Ty.{Ty}
use Rattle.reader.specs.declared.types.Ty.TheVariants as ty
use Rattle.reader.specs.declared.values.Value.{Value}
use Rattle.reader.specs.declared.values.Value.TheVariants as value
use Rattle.reader.specs.declared.values.Values.{Values}
use Rattle.reader.specs.declared.values.Operand.{Operand}
use Rattle.rows.specs.declared.row.Row.{Row}
use Rattle.rows.specs.Rows.{items}
use Rattle.rules.specs.declared.held.Held.{Held}
use Rattle.rules.specs.declared.held.Held.TheVariants as held
use Rattle.rules.specs.Rules.{Give, Gives}
use Rattle.code.specs.Sights.{values_of}

-- a value is given; or there is no way to give it, and the variables are as before
abbrev pub Given : Row Held 16 → Value → Ty → Option Held → Row Held 16 → Type 0
Given vs v τ (Some x) ws = Give (items vs) v τ x (items ws)
Given vs v τ None ws = ((x : Held) (us : List Held) → ¬ Give (items vs) v τ x us) × (ws ≡ vs)

-- the values of a list that stands in the bytes b are given, up to the place where the list ends, and what they give joins gs;
-- or there is no way to give them, or no room for it, and how far that was tried is open
abbrev pub GivenAll : List ℕ → (before : Row Held 16) → Values → Row Ty 8 → (gs : Row Held 16) → Option ℕ → (after joined : Row Held 16) → Type 0
GivenAll b vs l τs gs (Some stop) ws joined =
    (as' : List Operand) × (xs : List Held) × (values_of b l ≡ Ok (as', stop)) × Gives (items vs) as' (items τs) xs (items ws) × (items joined ≡ items gs ++ xs)
GivenAll b vs l τs gs None ws joined =
    length (items gs) + length (items τs) ≤ 16 → (as' : List Operand) (stop : ℕ) → values_of b l ≡ Ok (as', stop) → (xs us : List Held) → ¬ Gives (items vs) as' (items τs) xs us

-- what is given at a type by what holds h
abbrev pub shared : Held → Ty → Option Held
shared (held.Integer k) ty.Int = Some (held.Integer k)
shared (held.Truth b) ty.Bool = Some (held.Truth b)
shared (held.Owner n) ty.Packet = Some (held.Owner n)
shared (held.Owner n) ty.Alias = Some (held.Alias n)
shared (held.Alias n) ty.Alias = Some (held.Alias n)
shared h τ = None

-- what a value holds
abbrev pub holds : List Held → Value → Option Held
holds vs (value.Integer k) = Some (held.Integer k)
holds vs (value.Truth b) = Some (held.Truth b)
holds vs (value.Variable x) = slice_get vs x

-- variables of which one may have been emptied
abbrev pub emptied : Option ℕ → List Held → List Held
emptied None vs = vs
emptied (Some x) vs = slice_set vs x held.Nothing

-- what is bound, as a list
abbrev pub bound : Option Held → List Held
bound None = []
bound (Some x) = x ∷ []
