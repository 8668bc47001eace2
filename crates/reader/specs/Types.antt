-- The types by their codes.
use Rattle.std.specs.Prelude.{◌≡◌, ℕ, ◌≢◌, Result, MatchResult}
use Rattle.reader.specs.declared.types.Ty.{Ty}
use Rattle.reader.specs.declared.types.UnknownType.{UnknownType}
use Rattle.reader.specs.Encoding.{type}

-- the type with this code, or an error with a code that no type has
abbrev pub Decodes : ℕ → Result Ty UnknownType → Type 0
Decodes code r = MatchResult r (λ t. type t ≡ code) (λ e. (e.0 ≡ code) × ((t : Ty) → type t ≢ code))
