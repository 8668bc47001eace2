-- Fields and values: what stands at a place, or the first fault.
-- b are the bytes, e is where the record or program that encloses the field ends, f the function that a fault carries, p the place.
use Rattle.std.specs.Borrow.{Bor}
use Rattle.std.specs.Prelude.{◌≡◌, ℕ, zero, suc, ◌+◌, ◌*◌, ◌<◌, ◌≤◌, true, false, ◌&&◌, List, [], ◌∷◌, length, take, drop, IfOk, Ok, Err, Result, ◌==◌, nat_le, slice_index}
use Rattle.reader.specs.declared.questions.Question.{Question}
use Rattle.reader.specs.declared.questions.Question.TheVariants as q
use Rattle.reader.specs.declared.faults.Fault.{Fault}
use Rattle.reader.specs.declared.types.Ty.{Ty}
use Rattle.reader.specs.declared.types.Ty.TheVariants as t
use Rattle.reader.specs.declared.values.Value.{Value}
use Rattle.reader.specs.declared.values.Value.TheVariants as v
use Rattle.reader.specs.declared.windows.Window.{Window}
use Rattle.reader.specs.declared.values.Values.{Values}
use Rattle.reader.specs.Faults.{fault}
use Rattle.reader.specs.declared.values.Operand.{Operand}

-- what is read, with the place after it, or the first fault
abbrev pub Read : Type 0 → Type 0
Read X = Result (X × ℕ) Fault

-- a question answered no
abbrev pub denied : {X : Type 0} → Question → (function place : ℕ) → Result X Fault
denied k f p = Err (fault k f p)

-- one after the other: the first fault decides
abbrev pub then : {X Y : Type 0} → Result X Fault → (X → Result Y Fault) → Result Y Fault
then (Ok x) g = g x
then (Err e) g = Err e

-- two and four bytes, the larger part first
abbrev pub half : List ℕ → ℕ → ℕ
half b p = slice_index b p * 256 + slice_index b (p + 1)

abbrev pub word : List ℕ → ℕ → ℕ
word b p = half b p * 65536 + (slice_index b (p + 2) * 256 + slice_index b (p + 3))

-- a field of w bytes whose value is n
abbrev pub field_at : {X : Type 0} → (w : ℕ) → X → (e f p : ℕ) → Read X
field_at w n e f p = elim (nat_le (p + w) e) [ true ↦ Ok (n, p + w) | false ↦ denied q.Inside f p ]

-- w bytes as they stand
abbrev pub bytes_at : ℕ → List ℕ → (e f p : ℕ) → Read (List ℕ)
bytes_at w b e f p = field_at w (take w (drop p b)) e f p

abbrev pub byte_at : List ℕ → (e f p : ℕ) → Read ℕ
byte_at b e f p = field_at 1 (slice_index b p) e f p

abbrev pub half_at : List ℕ → (e f p : ℕ) → Read ℕ
half_at b e f p = field_at 2 (half b p) e f p

abbrev pub word_at : List ℕ → (e f p : ℕ) → Read ℕ
word_at b e f p = field_at 4 (word b p) e f p

-- a byte from low to high, by a question
abbrev pub range_at : Question → (low high : ℕ) → List ℕ → (e f p : ℕ) → Read ℕ
range_at k low high b e f p = then (byte_at b e f p) λ n. elim (nat_le low n.0 && nat_le n.0 high) [ true ↦ Ok n | false ↦ denied k f p ]

-- a count of at most 8
abbrev pub count_at : List ℕ → (e f p : ℕ) → Read ℕ
count_at b e f p = range_at q.ListLength 0 8 b e f p

-- a type
abbrev pub type_at : List ℕ → (e f p : ℕ) → Read Ty
type_at b e f p = then (byte_at b e f p) λ n.
    elim (n.0 == 1) [
      | true ↦ Ok (t.Int, n.1)
      | false ↦
          elim (n.0 == 2) [
            | true ↦ Ok (t.Bool, n.1)
            | false ↦
                elim (n.0 == 3) [
                  | true ↦ Ok (t.Packet, n.1)
                  | false ↦
                      elim (n.0 == 4) [ true ↦ Ok (t.Alias, n.1) | false ↦ denied q.KnownType f p ]
                ]
          ]
    ]

-- a value's tag, then its payload; a truth byte other than 0 and 1 is a fault of the tag
abbrev pub truth_at : (f p : ℕ) → ℕ × ℕ → Read Value
truth_at f p n =
    elim (n.0 == 0) [
      | true ↦ Ok (v.Truth false, n.1)
      | false ↦
          elim (n.0 == 1) [ true ↦ Ok (v.Truth true, n.1) | false ↦ denied q.KnownValue f p ]
    ]

abbrev pub value_at : List ℕ → (e f p : ℕ) → Read Value
value_at b e f p = then (byte_at b e f p) λ t.
    elim (t.0 == 16) [
      | true ↦ then (word_at b e f t.1) (λ n. Ok (v.Integer n.0, n.1))
      | false ↦
          elim (t.0 == 17) [
            | true ↦ then (byte_at b e f t.1) (λ n. truth_at f p n)
            | false ↦
                elim (t.0 == 18) [ true ↦ then (byte_at b e f t.1) (λ n. Ok (v.Variable n.0, n.1)) | false ↦ denied q.KnownValue f p ]
          ]
    ]

-- n values in a row
abbrev pub values_at : List ℕ → (e f n p : ℕ) → Read (List Operand)
values_at b e f zero p = Ok ([], p)
values_at b e f (suc n) p =
    then (value_at b e f p) λ v. then (values_at b e f n v.1) λ vs. Ok (record { place = p; value = v.0 } ∷ vs.0, vs.1)

-- a count and that many values
abbrev pub list_at : List ℕ → (e f p : ℕ) → Read (List Operand)
list_at b e f p = then (count_at b e f p) λ n. values_at b e f n.0 n.1

-- the place after n items in a row, each as `one` reads it, or the first fault
abbrev pub skipped : {X : Type 0} → (ℕ → Read X) → (n p : ℕ) → Result ℕ Fault
skipped one zero p = Ok p
skipped one (suc n) p = then (one p) λ x. skipped one n x.1

-- what code may read at a place of a window is what `one` says
abbrev pub ReadsAs : {X : Type 0} → (Bor Window → ℕ → Read X → Type 0) → Window → (ℕ → Read X) → Type 0
ReadsAs {X} reads w one = (v : Bor Window) (p : ℕ) (x : Read X) → v.now ≡ w → reads v p x → x ≡ one p

-- what a definition over bytes, an end and a function says in a window
abbrev pub read_in : {X : Type 0} → Window → (List ℕ → ℕ → ℕ → X) → X
read_in w g = g w.bytes.now (length w.bytes.now) w.function

-- the place after what is read
abbrev pub placed : {X : Type 0} → Read X → Result ℕ Fault
placed (Ok x) = Ok x.1
placed (Err e) = Err e

-- what is read moves on, and stays inside
abbrev pub Onward : {X : Type 0} → (p e : ℕ) → Read X → Type 0
Onward p e r = IfOk r (λ x. (p < x.1) × (x.1 ≤ e))

-- a list of values as the place where they stand: how many, and the first one's place, which is after the count at p
abbrev pub standing : ℕ → List Operand → Values
standing p vs = record { count = length vs; place = p + 1 }

abbrev pub listed : ℕ → Read (List Operand) → Read Values
listed p (Ok x) = Ok (standing p x.0, x.1)
listed p (Err e) = Err e
