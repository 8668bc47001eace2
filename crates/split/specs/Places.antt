-- Where a packet lies, as a search says it.
use Rattle.std.specs.Prelude.{◌≡◌, ℕ, Bool, true, length, Some, None, Ok, Err, Result}
use Rattle.store.specs.declared.name.Name.{Name}
use Rattle.store.specs.declared.denial.Question.{Question}
use Rattle.store.specs.declared.denial.Question.TheVariants.{Alive}
use Rattle.store.specs.Meaning.{Meaning, found}
use Rattle.store.specs.Packets.{Packet}
use Rattle.split.specs.declared.split.Place.{Place}
use Rattle.split.specs.declared.split.Place.TheVariants.{Near, Far}
use Rattle.split.specs.Splits.{split_meaning}

-- the name's packet in a store is the split's, and has that size
pub record Lies (m s : Meaning) (clean : Bool) (n : Name) (size : ℕ) : Type 0 where
  pub live : clean ≡ true
  pub packet : Packet
  pub there : found m n ≡ Some packet
  pub sized : length packet.bytes ≡ size
  pub seen : found m n ≡ found s n

abbrev pub Placed : Meaning → Meaning → Bool → Name → Result Place Question → Type 0
Placed a b clean n (Ok (Near size)) = Lies a (split_meaning a b clean) clean n size
Placed a b clean n (Ok (Far size)) = (found a n ≡ None) × Lies b (split_meaning a b clean) clean n size
Placed a b clean n (Err q) = (q ≡ Alive) × (found (split_meaning a b clean) n ≡ None)
