-- What a store means, and what its calls answer and leave by that meaning.
use Rattle.std.specs.Prelude.{ℕ, ◌+◌, Bool, true, false, not, length, is_some, Some, None, Ok, Err, Option, Result, nat_le, nat_lt, slice_index}
use Rattle.store.specs.declared.name.Name.{Name}
use Rattle.store.specs.declared.denial.Question.{Question}
use Rattle.store.specs.declared.denial.Question.TheVariants.{Unused, Fits, Room, Alive, Inside}
use Rattle.store.specs.declared.denial.Denial.{Denial}
use Rattle.store.specs.declared.denial.Handed.{Handed}
use Rattle.store.specs.Packets.{Packet, Packets, lookup, insert, remove, used, alter, new_packet, with_byte, with_holder}

-- the packets alive, the largest size, the capacity in units, and the need of each size
pub record Meaning : Type 0 where
  pub packets : Packets
  pub largest : ℕ
  pub capacity : ℕ
  pub need : ℕ → ℕ

abbrev pub with_packets : Meaning → Packets → Meaning
with_packets m ps = record { packets = ps; largest = m.largest; capacity = m.capacity; need = m.need }

-- the packet of a name, if it is alive
abbrev pub found : Meaning → Name → Option Packet
found m n = lookup n m.packets

-- the units in use
abbrev pub units : Meaning → ℕ
units m = used m.need m.packets

-- ---- questions
-- a question with its answer, and what comes after a yes
abbrev pub ask : Question → Bool → Option Question → Option Question
ask q true rest = rest
ask q false rest = Some q

-- what a call answers: x, or the question that was answered by no
abbrev pub answer : {X : Type 0} → Option Question → X → Result X Question
answer None x = Ok x
answer (Some q) x = Err q

-- the same, with the number of the store's kind
abbrev pub with_kind : {X : Type 0} → ℕ → Result X Question → Result X Denial
with_kind kind (Ok x) = Ok x
with_kind kind (Err q) = Err (record { question = q; kind = kind })

-- what a call leaves: nothing changes on a denial
abbrev pub after : Option Question → Meaning → Packets → Meaning
after None m ps = with_packets m ps
after (Some q) m ps = m

-- ---- make
abbrev pub room_for : Meaning → ℕ → Bool
room_for m size = nat_le (units m + m.need size) m.capacity

abbrev pub make_no : Meaning → Name → ℕ → Option Question
make_no m n size = ask Unused (not (is_some (found m n))) (ask Fits (nat_le size m.largest) (ask Room (room_for m size) None))

abbrev pub make_answer : Meaning → Name → ℕ → Result (Unit {0}) Question
make_answer m n size = answer (make_no m n size) tt

abbrev pub make_after : Meaning → Name → ℕ → Meaning
make_after m n size = after (make_no m n size) m (insert n (new_packet n size) m.packets)

-- ---- the calls on a name that is to be alive
abbrev pub alive_no : Option Packet → Option Question
alive_no None = Some Alive
alive_no (Some p) = None

abbrev pub discard_answer : Meaning → Name → Result (Unit {0}) Question
discard_answer m n = answer (alive_no (found m n)) tt

abbrev pub discard_after : Meaning → Name → Meaning
discard_after m n = after (alive_no (found m n)) m (remove n m.packets)

-- what a granted hand answers
abbrev pub handed : Handed
handed = record {}

abbrev pub hand_answer : Meaning → Name → Result Handed Question
hand_answer m n = answer (alive_no (found m n)) handed

abbrev pub hand_after : Meaning → Name → ℕ → Meaning
hand_after m n h = after (alive_no (found m n)) m (alter (with_holder h) n m.packets)

abbrev pub size_of : Option Packet → ℕ
size_of None = 0
size_of (Some p) = length p.bytes

abbrev pub size_answer : Meaning → Name → Result ℕ Question
size_answer m n = answer (alive_no (found m n)) (size_of (found m n))

abbrev pub holder_of : Option Packet → ℕ
holder_of None = 0
holder_of (Some p) = p.holder

abbrev pub holder_answer : Meaning → Name → Result ℕ Question
holder_answer m n = answer (alive_no (found m n)) (holder_of (found m n))

-- ---- and with an offset that is to lie inside
abbrev pub inside_no : Option Packet → ℕ → Option Question
inside_no None i = Some Alive
inside_no (Some p) i = ask Inside (nat_lt i (length p.bytes)) None

abbrev pub write_answer : Meaning → Name → ℕ → Result (Unit {0}) Question
write_answer m n i = answer (inside_no (found m n) i) tt

abbrev pub write_after : Meaning → Name → ℕ → ℕ → Meaning
write_after m n i b = after (inside_no (found m n) i) m (alter (with_byte i b) n m.packets)

abbrev pub byte_of : Option Packet → ℕ → ℕ
byte_of None i = 0
byte_of (Some p) i = slice_index p.bytes i

abbrev pub read_answer : Meaning → Name → ℕ → Result ℕ Question
read_answer m n i = answer (inside_no (found m n) i) (byte_of (found m n) i)
