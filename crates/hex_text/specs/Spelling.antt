-- What decoding a text answers.
use Rattle.std.specs.Prelude.{◌≡◌, ℕ, ◌+◌, false, ◌⊎◌, List, [], ◌∷◌, ◌++◌, Some, None, Ok, Err, vec_items, Option, Result, Vec, ◌==◌, codes, count_by}
use Rattle.std.specs.declared.alloc.Global.{Global}
use Rattle.hex_text.specs.declared.symbols.State.{State}
use Rattle.hex_text.specs.declared.text.Misprint.{Misprint}
use Rattle.hex_text.specs.declared.text.Misprint.TheVariants.{Unknown, Odd, NoMemory}
use Rattle.hex_text.specs.Text.{step}

-- bytes before those of an answer
abbrev pub joined : List ℕ → Result (List ℕ) Misprint → Result (List ℕ) Misprint
joined xs (Ok ys) = Ok (xs ++ ys)
joined xs (Err e) = Err e

abbrev pub listed : Option ℕ → List ℕ
listed None = []
listed (Some x) = x ∷ []

-- the end of a text: no digit waits for its second
abbrev pub ended : Option ℕ → Result (List ℕ) Misprint
ended None = Ok []
ended (Some d) = Err Odd

-- what the text from place p on spells
abbrev pub spelled : ℕ → State → List ℕ → Result (List ℕ) Misprint
spelled p s [] = ended s.first
spelled p s (c ∷ cs) = elim (step s c) [ None ↦ Err (Unknown p) | Some x ↦ joined (listed x.1) (spelled (p + 1) x.0 cs) ]

abbrev pub start : State
start = record { comment = false; first = None }

-- the bytes, or the first misprint; a want of memory says nothing of the text
abbrev pub Decodes : List ℕ → Result (Vec ℕ Global) Misprint → Type 0
Decodes text (Ok v) = spelled 0 start text ≡ Ok (vec_items v)
Decodes text (Err e) = (e ≡ NoMemory) ⊎ (spelled 0 start text ≡ Err e)

-- how many lines end in a text
abbrev pub lines : List ℕ → ℕ
lines text = count_by (λ c. c == 10) text

-- what is printed of a misprint
abbrev pub misprint_text : Misprint → List ℕ
misprint_text (Unknown place) = codes "neither a hexadecimal digit nor white space"
misprint_text Odd = codes "the text ends after the first digit of a byte"
misprint_text NoMemory = codes "no memory for its bytes"
