-- Small programs, byte by byte, and what is said of them.
use Rattle.std.specs.Prelude.{◌≡◌, ℕ, zero, suc, ◌+◌, ◌/◌, ◌%◌, List, [], ◌∷◌, ◌++◌, length, take, Ok, Err, Result, slice_set}
use Rattle.reader.specs.declared.faults.Fault.{Fault}
use Rattle.reader.specs.Questions.{number, layer}
use Rattle.typing.specs.Layers.{verdict}

-- a verdict by its numbers: the question, the layer, the function (255 outside records) and the place
abbrev pub numbered : Result (Unit {0}) Fault → Result (Unit {0}) (ℕ × ℕ × ℕ × ℕ)
numbered (Ok u) = Ok u
numbered (Err e) = Err (number e.question, layer e.question, e.function, e.place)

abbrev pub says : List ℕ → Result (Unit {0}) (ℕ × ℕ × ℕ × ℕ)
says b = numbered (verdict b)

-- the smallest program: one thread, which returns
abbrev pub smallest : List ℕ
smallest = 0x00 ∷ 0x0B ∷ 0x01 ∷ 0x01 ∷ 0x00 ∷ 0x01 ∷ 0x00 ∷ 0x05 ∷ 0x00 ∷ 0x00 ∷ 0x00 ∷ 0x01 ∷ 0x00 ∷ []

-- new, then return: the owner is not spent
abbrev pub forgotten : List ℕ
forgotten =
    0x00 ∷ 0x15 ∷ 0x01 ∷ 0x01 ∷ 0x00 ∷ 0x01 ∷ 0x00 ∷ 0x0F ∷ 0x00 ∷ 0x00 ∷ 0x00
    ∷ 0x03 ∷ 0x03 ∷ 0x00 ∷ 0x01 ∷ 0x10 ∷ 0x00 ∷ 0x00 ∷ 0x00 ∷ 0x01 ∷ 0x01
    ∷ 0x01 ∷ 0x00 ∷ []

-- new, kill, then enq of one variable
abbrev pub killed_and_sent : List ℕ
killed_and_sent =
    0x00 ∷ 0x23 ∷ 0x01 ∷ 0x01 ∷ 0x00 ∷ 0x01 ∷ 0x00 ∷ 0x1D ∷ 0x00 ∷ 0x00 ∷ 0x00
    ∷ 0x03 ∷ 0x03 ∷ 0x00 ∷ 0x01 ∷ 0x10 ∷ 0x00 ∷ 0x00 ∷ 0x00 ∷ 0x01 ∷ 0x01
    ∷ 0x03 ∷ 0x03 ∷ 0x01 ∷ 0x01 ∷ 0x12 ∷ 0x00 ∷ 0x00
    ∷ 0x03 ∷ 0x04 ∷ 0x01 ∷ 0x01 ∷ 0x12 ∷ 0x00 ∷ 0x00
    ∷ 0x01 ∷ 0x00 ∷ []

-- a new packet x is given as (x, x) to a function with parameters of two types, which kills the one that is an owner
abbrev pub given_twice : (first second killed : ℕ) → List ℕ
given_twice first second killed =
    0x00 ∷ 0x2E ∷ 0x01 ∷ 0x01 ∷ 0x00 ∷ 0x02 ∷ 0x00 ∷ 0x18 ∷ 0x01 ∷ 0x00 ∷ 0x00
    ∷ 0x03 ∷ 0x03 ∷ 0x00 ∷ 0x01 ∷ 0x10 ∷ 0x00 ∷ 0x00 ∷ 0x00 ∷ 0x01 ∷ 0x01
    ∷ 0x03 ∷ 0x06 ∷ 0x01 ∷ 0x02 ∷ 0x12 ∷ 0x00 ∷ 0x12 ∷ 0x00 ∷ 0x00
    ∷ 0x01 ∷ 0x00
    ∷ 0x00 ∷ 0x0E ∷ 0x00 ∷ 0x02 ∷ first ∷ second ∷ 0x00
    ∷ 0x03 ∷ 0x03 ∷ 0x01 ∷ 0x01 ∷ 0x12 ∷ killed ∷ 0x00
    ∷ 0x01 ∷ 0x00 ∷ []

-- a function of depth 0 calls itself and returns
abbrev pub calls_itself : List ℕ
calls_itself =
    0x00 ∷ 0x10 ∷ 0x01 ∷ 0x01 ∷ 0x00 ∷ 0x01 ∷ 0x00 ∷ 0x0A ∷ 0x00 ∷ 0x00 ∷ 0x00
    ∷ 0x03 ∷ 0x06 ∷ 0x00 ∷ 0x00 ∷ 0x00
    ∷ 0x01 ∷ 0x00 ∷ []

-- and calls itself twice before it returns
abbrev pub calls_itself_twice : List ℕ
calls_itself_twice =
    0x00 ∷ 0x15 ∷ 0x01 ∷ 0x01 ∷ 0x00 ∷ 0x01 ∷ 0x00 ∷ 0x0F ∷ 0x00 ∷ 0x00 ∷ 0x00
    ∷ 0x03 ∷ 0x06 ∷ 0x00 ∷ 0x00 ∷ 0x00
    ∷ 0x03 ∷ 0x06 ∷ 0x00 ∷ 0x00 ∷ 0x00
    ∷ 0x01 ∷ 0x00 ∷ []

pub record Cases : Type 0 where
  pub smallest_passes : says smallest ≡ Ok tt
  pub no_bytes : says [] ≡ Err (20, 1, 255, 0)
  pub last_byte_missing : says (take 12 smallest) ≡ Err (20, 1, 255, 0)
  pub version_two : says (slice_set smallest 2 2) ≡ Err (21, 1, 255, 2)
  pub record_too_long : says (slice_set smallest 7 6) ≡ Err (22, 1, 0, 6)
  pub owner_forgotten : says forgotten ≡ Err (58, 3, 0, 21)
  pub used_after_kill : says killed_and_sent ≡ Err (53, 3, 0, 32)
  pub alias_then_packet : says (given_twice 4 3 1) ≡ Err (55, 3, 0, 27)
  pub packet_then_alias : says (given_twice 3 4 0) ≡ Err (53, 3, 0, 27)
  pub tail_call : says calls_itself ≡ Ok tt
  pub no_tail_call : says calls_itself_twice ≡ Err (57, 3, 0, 11)

-- The other questions of layers 2 and 3.

-- a length in two bytes
abbrev pub half_of : ℕ → List ℕ
half_of n = n / 256 ∷ n % 256 ∷ []

-- a record of depth 0 with a signature and a body, and a program with one thread
abbrev pub record_of : (signature body : List ℕ) → List ℕ
record_of signature body = half_of (length signature + length body + 1) ++ (0 ∷ signature ++ body)

abbrev pub program_of : (count : ℕ) → (records : List ℕ) → List ℕ
program_of count records = half_of (length records + 4) ++ (1 ∷ 1 ∷ 0 ∷ count ∷ records)

-- a thread with a body, alone or before one more function
abbrev pub alone : List ℕ → List ℕ
alone body = program_of 1 (record_of (0 ∷ 0 ∷ []) body)

abbrev pub beside : (body signature other : List ℕ) → List ℕ
beside body signature other = program_of 2 (record_of (0 ∷ 0 ∷ []) body ++ record_of signature other)

-- nodes: return nothing; take a packet from `receive`; kill variable 0; 1 + 1, n times over
abbrev pub stop : List ℕ
stop = 0x01 ∷ 0x00 ∷ []

abbrev pub receive : List ℕ
receive = 0x03 ∷ 0x05 ∷ 0x00 ∷ 0x00 ∷ 0x01 ∷ []

abbrev pub kill : List ℕ
kill = 0x03 ∷ 0x03 ∷ 0x01 ∷ 0x01 ∷ 0x12 ∷ 0x00 ∷ 0x00 ∷ []

abbrev pub sums : ℕ → List ℕ
sums zero = stop
sums (suc n) = 0x03 ∷ 0x00 ∷ 0x00 ∷ 0x02 ∷ 0x10 ∷ 0x00 ∷ 0x00 ∷ 0x00 ∷ 0x01 ∷ 0x10 ∷ 0x00 ∷ 0x00 ∷ 0x00 ∷ 0x01 ∷ 0x01 ∷ sums n

pub record MoreCases : Type 0 where
  pub thread_with_parameter : says (program_of 1 (record_of (1 ∷ 1 ∷ 0 ∷ []) stop)) ≡ Err (40, 2, 0, 6)
  pub alias_result : says (beside stop (1 ∷ 1 ∷ 2 ∷ 1 ∷ 4 ∷ []) stop) ≡ Err (41, 2, 1, 20)
  -- layer 2 of every function goes before layer 3 of any
  pub layer_two_first : says (beside (kill ++ stop) (0 ∷ 1 ∷ 4 ∷ []) stop) ≡ Err (41, 2, 1, 25)
  pub unknown_kind : says (alone (0x03 ∷ 0x07 ∷ 0x00 ∷ 0x00 ∷ 0x00 ∷ stop)) ≡ Err (50, 3, 0, 11)
  pub enq_on_receive : says (alone (0x03 ∷ 0x04 ∷ 0x00 ∷ 0x00 ∷ 0x00 ∷ stop)) ≡ Err (50, 3, 0, 11)
  pub deq_on_transmit : says (alone (0x03 ∷ 0x05 ∷ 0x01 ∷ 0x00 ∷ 0x01 ∷ stop)) ≡ Err (50, 3, 0, 11)
  pub no_such_queue : says (alone (0x03 ∷ 0x05 ∷ 0x02 ∷ 0x00 ∷ 0x01 ∷ stop)) ≡ Err (50, 3, 0, 11)
  pub no_such_function : says (alone (0x03 ∷ 0x06 ∷ 0x01 ∷ 0x00 ∷ 0x00 ∷ stop)) ≡ Err (50, 3, 0, 11)
  pub result_dropped : says (alone (0x03 ∷ 0x05 ∷ 0x00 ∷ 0x00 ∷ 0x00 ∷ stop)) ≡ Err (51, 3, 0, 11)
  pub value_returned : says (alone (0x01 ∷ 0x01 ∷ 0x11 ∷ 0x01 ∷ [])) ≡ Err (51, 3, 0, 11)
  pub unbound : says (alone (kill ++ stop)) ≡ Err (52, 3, 0, 15)
  pub alias_killed : says (beside stop (1 ∷ 4 ∷ 0 ∷ []) (kill ++ stop)) ≡ Err (54, 3, 1, 23)
  pub if_on_spent : says (alone (receive ++ kill ++ (0x02 ∷ 0x12 ∷ 0x00 ∷ 0x00 ∷ 0x02 ∷ stop ++ stop))) ≡ Err (54, 3, 0, 24)
  pub sixteen : says (alone (sums 16)) ≡ Ok tt
  pub seventeen : says (alone (sums 17)) ≡ Err (56, 3, 0, 251)
  -- a function calls itself and returns the result, or a constant
  pub result_returned : says (beside stop (0 ∷ 1 ∷ 2 ∷ []) (0x03 ∷ 0x06 ∷ 0x01 ∷ 0x00 ∷ 0x01 ∷ 0x01 ∷ 0x01 ∷ 0x12 ∷ 0x00 ∷ [])) ≡ Ok tt
  pub constant_returned : says (beside stop (0 ∷ 1 ∷ 2 ∷ []) (0x03 ∷ 0x06 ∷ 0x01 ∷ 0x00 ∷ 0x01 ∷ 0x01 ∷ 0x01 ∷ 0x11 ∷ 0x01 ∷ [])) ≡ Err (57, 3, 1, 19)
  -- both branches spend an owner, or only the first
  pub both_spend : says (alone (receive ++ (0x02 ∷ 0x11 ∷ 0x01 ∷ 0x00 ∷ 0x09 ∷ kill ++ stop ++ kill ++ stop))) ≡ Ok tt
  pub first_spends : says (alone (receive ++ (0x02 ∷ 0x11 ∷ 0x01 ∷ 0x00 ∷ 0x09 ∷ kill ++ stop ++ stop))) ≡ Err (58, 3, 0, 30)
