-- The bytes that a hexadecimal text spells.
use Rattle.std.specs.Prelude.{ℕ, ◌+◌, ◌-◌, ◌*◌, ◌%◌, Bool, true, false, not, ◌&&◌, ◌||◌, Some, None, Option, ◌==◌, nat_le}
use Rattle.hex_text.specs.declared.symbols.State.{State}

-- the value of a digit: 0 to 9, A to F, a to f
abbrev pub digit : ℕ → Option ℕ
digit c =
    elim (nat_le 48 c && nat_le c 57) [
      | true ↦ Some (c - 48)
      | false ↦
          elim (nat_le 65 c && nat_le c 70) [
            | true ↦ Some (c - 65 + 10)
            | false ↦
                elim (nat_le 97 c && nat_le c 102) [ true ↦ Some (c - 97 + 10) | false ↦ None ]
          ]
    ]

-- blank, tab, line end
abbrev pub blank : ℕ → Bool
blank c = c == 32 || c == 9 || c == 10 || c == 13

-- a digit after the first one of a pair, or as the first one
abbrev pub pair : Option ℕ → Option ℕ → Option (State × Option ℕ)
pair first None = None
pair None (Some d) = Some (record { comment = false; first = Some d }, None)
pair (Some h) (Some d) = Some (record { comment = false; first = None }, Some (h % 16 * 16 + d))

-- one byte of the text: the state after it and the byte that it completes, or none where it is no part of such a text
abbrev pub step : State → ℕ → Option (State × Option ℕ)
step s c =
    elim s.comment [
      | true ↦ Some (record { comment = not (c == 10); first = s.first }, None)
      | false ↦
          elim (c == 35) [
            | true ↦ Some (record { comment = true; first = s.first }, None)
            | false ↦
                elim (blank c) [ true ↦ Some (s, None) | false ↦ pair s.first (digit c) ]
          ]
    ]
