-- When a packet may come from the network or go to it.
use Rattle.std.specs.Prelude.{◌≡◌, ℕ, ◌<◌, ◌≤◌, List, ◌∷◌, length, Some, None}
use Rattle.store.specs.declared.name.Name.{Name}
use Rattle.store.specs.Packets.{Packet, lookup, insert, with_bytes}
use Rattle.store.specs.Meaning.{Meaning, with_packets, found}
use Rattle.rules.specs.State.{State, queue, made, packets, next_name}
use Rattle.rules.specs.Rules.{RoomFor}

-- a packet is alive that has as many bytes as these
abbrev pub Filling : Meaning → Name → List ℕ → Type 0
Filling m n bs = (p : Packet) × (found m n ≡ Some p) × (length p.bytes ≡ length bs)

-- the packet has these bytes afterwards, and nothing else differs
abbrev pub Filled : Meaning → Name → List ℕ → (after : Meaning) → Type 0
Filled m n bs after = (p : Packet) → found m n ≡ Some p → after ≡ with_packets m (insert n (with_bytes bs p) m.packets)

-- a packet is alive whose bytes fit a buffer
abbrev pub Copying : Meaning → Name → (buffer : List ℕ) → Type 0
Copying m n buffer = (p : Packet) × (found m n ≡ Some p) × (length p.bytes ≤ length buffer)

-- nothing speaks against an arrival of these bytes, and the name of the network's next packet is not alive
pub record Admits (s : State) (bs : List ℕ) : Type 0 where
  pub fits : length bs ≤ s.store.largest
  pub waits : length (queue s 0) < 16
  pub named : made s 0 < s.limit
  pub room : RoomFor s.store (length bs)
  pub fresh : lookup (next_name s 0) (packets s) ≡ None

-- the oldest name of `transmit` is this one, of a packet that fits the buffer
pub record Sendable (s : State) (n : Name) (buffer : List ℕ) : Type 0 where
  pub first : (ns : List Name) × (queue s 1 ≡ n ∷ ns)
  pub fits : Copying s.store n buffer
