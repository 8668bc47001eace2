-- A slab's table and memory, as rows: slot i has the 256 bytes from 256 * i on.
use Rattle.std.specs.Prelude.{◌≡◌, ℕ, zero, suc, ◌*◌, List, [], ◌∷◌, length, take, drop, Some, None, Option}
use Rattle.slab_store.specs.declared.slot.Slot.{Slot}
use Rattle.slab_store.specs.declared.slots.Slots.{Slots}
use Rattle.store.specs.declared.label.Label.{Label}
use Rattle.store.specs.Meaning.{Meaning}
use Rattle.store.specs.Packets.{packet, empty}
use Rattle.store.specs.Rows.{Row, blank, row_of}

-- a slot's packet is the front of its bytes
abbrev pub row : Option Label → List ℕ → Row
row None bytes = blank
row (Some l) bytes = row_of l.name (packet l.holder (take l.size bytes))

abbrev pub slab_rows : List Slot → List ℕ → List Row
slab_rows [] memory = []
slab_rows (s ∷ ss) memory = row s.label (take 256 memory) ∷ slab_rows ss (drop 256 memory)

abbrev pub rows : Slots → List Row
rows l = slab_rows l.slots.now l.memory.now

-- the label in slot i, if it has one
abbrev pub label_at : List Slot → ℕ → Option Label
label_at [] i = None
label_at (s ∷ ss) zero = s.label
label_at (s ∷ ss) (suc i) = label_at ss i

-- each slot has its bytes, and there are no others
abbrev pub Whole : Slots → Type 0
Whole l = length l.memory.now ≡ 256 * length l.slots.now

-- a slab of so many slots without packets
abbrev pub empty_slab : ℕ → Meaning
empty_slab slots = record { packets = empty; largest = 256; capacity = slots; need = λ _. 1 }
