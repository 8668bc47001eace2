-- The questions are answered yes exactly where there is a derivation and the limits are kept.
use Rattle.std.specs.Prelude.{◌≡◌, ℕ, ◌↔◌, List, length, Ok}
use Rattle.reader.specs.Syntax.{Body, Function, Program}
use Rattle.reader.specs.Programs.{reading}
use Rattle.reader.specs.Encoding.{Bytes, Writes}
use Rattle.typing.specs.Typing.{Ctx, Every, Unlent, ◌∣◌⊢ᵉ◌⦂◌, Room, Deep, Accepted}
use Rattle.typing.specs.Marks.{body}
use Rattle.typing.specs.Layers.{layers, verdict}

-- a body, from any marks, in a function that gives no alias
abbrev pub BodiesDecided : Type 0
BodiesDecided =
    (P : Program) (i : ℕ) (F : Function) → Every Unlent F.results → (H : Ctx) (e : Body)
    → (body P i F H e ≡ Ok tt) ↔ ((P ∣ H ⊢ᵉ e ⦂ F.results) × Room (length H) e × Deep P F.depth (length H) e)

-- a program: layers 2 and 3 find no fault exactly where it is accepted
abbrev pub ProgramsDecided : Type 0
ProgramsDecided = (P : Program) → (layers P ≡ Ok tt) ↔ Accepted P

-- bytes: no layer finds a fault exactly where they read as an accepted program
abbrev pub BytesDecided : Type 0
BytesDecided = (b : List ℕ) → (verdict b ≡ Ok tt) ↔ ((P : Program) × (reading b ≡ Ok P) × Accepted P)

-- and exactly where they are the encoding of one
abbrev pub EncodingsDecided : Type 0
EncodingsDecided = (b : List ℕ) → Bytes b → (verdict b ≡ Ok tt) ↔ ((P : Program) × Writes P b × Accepted P)
