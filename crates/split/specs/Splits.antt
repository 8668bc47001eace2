-- A split over two stores: what it means, and where its calls keep it.
use Rattle.std.specs.Prelude.{◌≡◌, ℕ, ◌<◌, ◌≤◌, min, max, Bool, true, cond, ◌&&◌, List, [], ◌∷◌, length, Some, None, ◌==◌}
use Rattle.store.specs.declared.name.Name.{Name}
use Rattle.store.specs.Meaning.{Meaning, units}
use Rattle.store.specs.Packets.{Packet, Packets, Entry, empty, insert, lookup, used}

-- all packets of both maps; of two of one name, the first map's
abbrev pub merged_in : List Entry → Packets → Packets
merged_in [] m = m
merged_in (e ∷ es) m = insert e.name e.packet (merged_in es m)

unfoldable pub merged : Packets → Packets → Packets
merged a b = merged_in a.entries b

abbrev pub larger : Meaning → Meaning → ℕ → ℕ
larger a b size = max (a.need size) (b.need size)

-- a split that was made over a store in use is not clean, and holds nothing
abbrev pub split_meaning : Meaning → Meaning → Bool → Meaning
split_meaning a b clean = record {
  packets = cond clean (merged a.packets b.packets) empty;
  largest = min a.largest b.largest;
  capacity = cond clean (min a.capacity b.capacity) 0;
  need = larger a b;
}

-- a split as it is made
abbrev pub unused : Meaning → Meaning → Bool
unused a b = units a == 0 && units b == 0

abbrev pub new_split : Meaning → Meaning → Meaning
new_split a b = record {
  packets = empty;
  largest = min a.largest b.largest;
  capacity = cond (unused a b) (min a.capacity b.capacity) 0;
  need = larger a b;
}

-- no name lies in both stores, each packet lies where its holder says and would fit the other store, and the units count the split's own needs
pub record Fit (a b : Meaning) (bound units : ℕ) : Type 0 where
  pub apart : (n : Name) (p : Packet) → lookup n a.packets ≡ Some p → lookup n b.packets ≡ None
  pub near : (n : Name) (p : Packet) → lookup n a.packets ≡ Some p → (p.holder ≤ bound) × (length p.bytes ≤ min a.largest b.largest)
  pub far : (n : Name) (p : Packet) → lookup n b.packets ≡ Some p → (bound < p.holder) × (length p.bytes ≤ min a.largest b.largest)
  pub sum : units ≡ used (larger a b) (merged a.packets b.packets)
  pub within : units ≤ min a.capacity b.capacity

-- where a split stands
pub record Stands (a b : Meaning) (clean : Bool) (bound count : ℕ) : Type 0 where
  pub least : (size : ℕ) → 1 ≤ larger a b size
  pub sum : count ≡ units (split_meaning a b clean)
  pub within : units (split_meaning a b clean) ≤ (split_meaning a b clean).capacity
  pub fit : clean ≡ true → Fit a b bound count
