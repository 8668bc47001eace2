-- Worked cases: what two operations give, and a conversation with a machine.
use Rattle.std.specs.Prelude.{◌≡◌, ℕ, ◌+◌, ◌<◌, List, [], ◌∷◌, ◌++◌, length, replicate, Some, Ok, Err}
use Rattle.reader.specs.declared.operations.Operation.TheVariants as o
use Rattle.reader.specs.declared.operations.Arithmetic.TheVariants.{Subtract}
use Rattle.typing.specs.Cases.{alone, half_of, record_of, stop}
use Rattle.store.specs.declared.name.Name.{Name}
use Rattle.store.specs.Packets.{Packet, empty, lookup, with_byte}
use Rattle.store.specs.Meaning.{Meaning}
use Rattle.rules.specs.State.{integer, alias, State, packets, quiet, storing}
use Rattle.rules.specs.Rules.{Advanced, Waits, Ended, EmptyQueue, NoName, NoRoom, Operates}
use Rattle.rules.specs.Calls.{Sent, BufferHolds, NameLeft, NoneLoaded, ThreadExists, Denied, Machine, unloaded, Call, load, arrive, step, ready, collect, Reply, to_load, to_arrive, to_step, to_ready, to_collect, Does}

-- 0 − 1 is 4,294,967,295
abbrev pub BelowZero : Type 0
BelowZero = (s : State) (t : ℕ) → Operates s t (o.Compute Subtract) (integer 0 ∷ integer 1 ∷ []) quiet (integer 4294967295 ∷ [])

-- an update with 300 keeps 44
abbrev pub UpdateLarge : Type 0
UpdateLarge = (s : State) (t : ℕ) (n : Name) (p : Packet) → lookup n (packets s) ≡ Some p → 0 < length p.bytes
    → Operates s t o.Update (alias n ∷ integer 0 ∷ integer 300 ∷ []) (storing n (Some (with_byte 0 44 p))) []

-- four units, one for each packet, of at most 256 bytes
abbrev pub four_units : Meaning
four_units = record { packets = empty; largest = 256; capacity = 4; need = λ size. 1 }

abbrev pub one_unit : Meaning
one_unit = record { packets = empty; largest = 256; capacity = 1; need = λ size. 1 }

-- a program of two threads with one record
abbrev pub twice : List ℕ → List ℕ
twice r = half_of (length r + length r + 4) ++ (1 ∷ 2 ∷ 0 ∷ 2 ∷ r ++ r)

-- one thread: new(10), updates of 5 at 0 and 10 at 1, enq on `transmit`, return
abbrev pub sender : List ℕ
sender = alone (
    0x03 ∷ 0x03 ∷ 0x00 ∷ 0x01 ∷ 0x10 ∷ 0x00 ∷ 0x00 ∷ 0x00 ∷ 0x0A ∷ 0x01
    ∷ 0x03 ∷ 0x03 ∷ 0x03 ∷ 0x03 ∷ 0x12 ∷ 0x00 ∷ 0x10 ∷ 0x00 ∷ 0x00 ∷ 0x00 ∷ 0x00 ∷ 0x10 ∷ 0x00 ∷ 0x00 ∷ 0x00 ∷ 0x05 ∷ 0x00
    ∷ 0x03 ∷ 0x03 ∷ 0x03 ∷ 0x03 ∷ 0x12 ∷ 0x00 ∷ 0x10 ∷ 0x00 ∷ 0x00 ∷ 0x00 ∷ 0x01 ∷ 0x10 ∷ 0x00 ∷ 0x00 ∷ 0x00 ∷ 0x0A ∷ 0x00
    ∷ 0x03 ∷ 0x04 ∷ 0x01 ∷ 0x01 ∷ 0x12 ∷ 0x00 ∷ 0x00
    ∷ stop)

-- one thread: deq on `receive`, kill, return
abbrev pub receiver : List ℕ
receiver = alone (0x03 ∷ 0x05 ∷ 0x00 ∷ 0x00 ∷ 0x01 ∷ 0x03 ∷ 0x03 ∷ 0x01 ∷ 0x01 ∷ 0x12 ∷ 0x00 ∷ 0x00 ∷ stop)

-- calls one after the other, with their answers
pub data Talks : Machine → List (Call × Reply) → Type 0 where
  nothing_more : {m : Machine} → Talks m []
  says : {m m' : Machine} {c : Call} {r : Reply} {xs : List (Call × Reply)} → Does m c r m' → Talks m' xs → Talks m ((c, r) ∷ xs)

abbrev pub Sends : Type 0
Sends = Talks (unloaded four_units) (
    (load sender 3, to_load (Ok tt))
    ∷ (load sender 3, to_load (Err (Denied NoneLoaded)))
    ∷ (step 2, to_step (Err ThreadExists))
    ∷ (step 1, to_step (Ok Advanced))
    ∷ (step 1, to_step (Ok Advanced))
    ∷ (step 1, to_step (Ok Advanced))
    ∷ (step 1, to_step (Ok Advanced))
    ∷ (step 1, to_step (Ok Advanced))
    ∷ (step 1, to_step (Ok Ended))
    ∷ (collect (replicate 9 170), to_collect (Err BufferHolds) (replicate 9 170))
    ∷ (collect (replicate 12 170), to_collect (Ok 10) (5 ∷ 10 ∷ replicate 8 0 ++ (170 ∷ 170 ∷ [])))
    ∷ (collect [], to_collect (Err Sent) [])
    ∷ [])

abbrev pub Receives : Type 0
Receives = Talks (unloaded four_units) (
    (load receiver 1, to_load (Ok tt))
    ∷ (step 1, to_step (Ok (Waits EmptyQueue)))
    ∷ (arrive (7 ∷ []), to_arrive (Ok tt))
    ∷ (ready, to_ready (Ok (Some 1)))
    ∷ (step 1, to_step (Ok Advanced))
    ∷ (step 1, to_step (Ok Advanced))
    ∷ (step 1, to_step (Ok Advanced))
    ∷ (step 1, to_step (Ok Ended))
    ∷ [])

-- one thread that goes on for ever: deq on `receive`, enq on `transmit`, a tail call of itself
abbrev pub relay : List ℕ
relay = alone (0x03 ∷ 0x05 ∷ 0x00 ∷ 0x00 ∷ 0x01 ∷ 0x03 ∷ 0x04 ∷ 0x01 ∷ 0x01 ∷ 0x12 ∷ 0x00 ∷ 0x00 ∷ 0x03 ∷ 0x06 ∷ 0x00 ∷ 0x00 ∷ 0x00 ∷ stop)

-- the oldest goes first; the network has two names
abbrev pub Relays : Type 0
Relays = Talks (unloaded four_units) (
    (load relay 2, to_load (Ok tt))
    ∷ (arrive (7 ∷ []), to_arrive (Ok tt))
    ∷ (arrive (8 ∷ []), to_arrive (Ok tt))
    ∷ (arrive (9 ∷ []), to_arrive (Err NameLeft))
    ∷ (step 1, to_step (Ok Advanced))
    ∷ (step 1, to_step (Ok Advanced))
    ∷ (step 1, to_step (Ok Advanced))
    ∷ (step 1, to_step (Ok Advanced))
    ∷ (step 1, to_step (Ok Advanced))
    ∷ (collect (0 ∷ []), to_collect (Ok 1) (7 ∷ []))
    ∷ (collect (0 ∷ 0 ∷ []), to_collect (Ok 1) (8 ∷ 0 ∷ []))
    ∷ [])

-- two threads, each: new(1), new(300), kill, kill, return
abbrev pub makers : List ℕ
makers = twice (record_of (0 ∷ 0 ∷ []) (
    0x03 ∷ 0x03 ∷ 0x00 ∷ 0x01 ∷ 0x10 ∷ 0x00 ∷ 0x00 ∷ 0x00 ∷ 0x01 ∷ 0x01
    ∷ 0x03 ∷ 0x03 ∷ 0x00 ∷ 0x01 ∷ 0x10 ∷ 0x00 ∷ 0x00 ∷ 0x01 ∷ 0x2C ∷ 0x01
    ∷ 0x03 ∷ 0x03 ∷ 0x01 ∷ 0x01 ∷ 0x12 ∷ 0x00 ∷ 0x00
    ∷ 0x03 ∷ 0x03 ∷ 0x01 ∷ 0x01 ∷ 0x12 ∷ 0x01 ∷ 0x00
    ∷ stop))

-- one unit and one name a thread: the later thread waits for room; for the earlier one the missing name goes before the missing room
abbrev pub WaitsInOrder : Type 0
WaitsInOrder = Talks (unloaded one_unit) (
    (load makers 1, to_load (Ok tt))
    ∷ (step 1, to_step (Ok Advanced))
    ∷ (step 2, to_step (Ok (Waits NoRoom)))
    ∷ (step 1, to_step (Ok (Waits NoName)))
    ∷ [])

-- room for both: either order of the two threads, and the second packet of each is no larger than the largest
abbrev pub Makes : Type 0
Makes = Talks (unloaded four_units) (
    (load makers 2, to_load (Ok tt))
    ∷ (step 2, to_step (Ok Advanced))
    ∷ (step 1, to_step (Ok Advanced))
    ∷ (step 1, to_step (Ok Advanced))
    ∷ (step 2, to_step (Ok Advanced))
    ∷ (step 2, to_step (Ok Advanced))
    ∷ [])

pub record Cases : Type 0 where
  pub below_zero : BelowZero
  pub update_large : UpdateLarge
  pub sends : Sends
  pub receives : Receives
  pub relays : Relays
  pub waits_in_order : WaitsInOrder
  pub makes : Makes
