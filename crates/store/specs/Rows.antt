-- Tables of named records, and the map that a table means: row by row, each with a name or none, and a packet.
use Rattle.std.specs.Prelude.{◌≡◌, ℕ, suc, ◌+◌, ◌<◌, ◌≤◌, Bool, true, cond, not, ◌&&◌, List, [], ◌∷◌, length, is_some, Some, None, Ok, Err, Option, Result, slice_index_or}
use Rattle.std.specs.Option.{option_eq}
use Rattle.store.specs.declared.name.Name.{Name}
use Rattle.store.specs.Names.{same}
use Rattle.store.specs.declared.denial.Question.{Question}
use Rattle.store.specs.Meaning.{Meaning, alive_no, inside_no}
use Rattle.store.specs.Packets.{Packet, Packets, packet, empty, insert, lookup}

-- whether both are one name, or none
abbrev pub alike : Option Name → Option Name → Bool
alike a b = option_eq same a b

abbrev pub next : Option ℕ → Option ℕ
next None = None
next (Some i) = Some (suc i)

-- the place of the first record whose name is n
abbrev pub position : {R : Type 0} → (R → Option Name) → Option Name → List R → Option ℕ
position f n [] = None
position f n (r ∷ rs) = cond (alike (f r) n) (Some 0) (next (position f n rs))

pub record Row : Type 0 where
  pub named : Option Name
  pub packet : Packet

abbrev pub placed : Option Name → Packet → Packets → Packets
placed None p m = m
placed (Some n) p m = insert n p m

abbrev pub gathered : List Row → Packets
gathered [] = empty
gathered (r ∷ rs) = placed r.named r.packet (gathered rs)

-- whether no row has that name
abbrev pub lacks : Name → List Row → Bool
lacks n [] = true
lacks n (r ∷ rs) = not (alike r.named (Some n)) && lacks n rs

abbrev pub fresh : Option Name → List Row → Bool
fresh None rs = true
fresh (Some n) rs = lacks n rs

-- whether no two rows have one name
abbrev pub distinct : List Row → Bool
distinct [] = true
distinct (r ∷ rs) = fresh r.named rs && distinct rs

abbrev pub need_in : (ℕ → ℕ) → Row → Option Name → ℕ
need_in need r None = 0
need_in need r (Some n) = need (length r.packet.bytes)

-- the sum of the needs of all rows with a name
abbrev pub total : (ℕ → ℕ) → List Row → ℕ
total need [] = 0
total need (r ∷ rs) = need_in need r r.named + total need rs

-- a row without a name, and the row at i
abbrev pub blank : Row
blank = record { named = None; packet = packet 0 [] }

abbrev pub row_at : List Row → ℕ → Row
row_at rs i = slice_index_or rs i blank

abbrev pub row_of : Name → Packet → Row
row_of n p = record { named = Some n; packet = p }

-- the row with f of its packet
abbrev pub with_packet : (Packet → Packet) → Row → Row
with_packet f r = record { named = r.named; packet = f r.packet }

-- the place of the first row of that name, or of the first free one
abbrev pub place : Option Name → List Row → Option ℕ
place o rs = position (λ r. r.named) o rs

-- row i is the first of that name, and so has the name's packet
pub record Lies (rs : List Row) (n : Name) (i : ℕ) : Type 0 where
  pub within : i < length rs
  pub row : Some i ≡ place (Some n) rs
  pub alive : is_some (row_at rs i).named ≡ true
  pub packet : lookup n (gathered rs) ≡ Some (row_at rs i).packet

-- what a search for a name says of the map
abbrev pub Sought : List Row → Name → Option ℕ → Type 0
Sought rs n None = lookup n (gathered rs) ≡ None
Sought rs n (Some i) = Lies rs n i

-- the place of the packet of a name, or the question about the name that is answered by no
abbrev pub Placed : List Row → Name → Result ℕ Question → Type 0
Placed rs n (Ok i) = Lies rs n i
Placed rs n (Err q) = alive_no (lookup n (gathered rs)) ≡ Some q

-- and where an offset is to lie inside
abbrev pub Reached : List Row → Name → ℕ → Result ℕ Question → Type 0
Reached rs n k (Ok i) = Lies rs n i × (k < length (row_at rs i).packet.bytes)
Reached rs n k (Err q) = inside_no (lookup n (gathered rs)) k ≡ Some q

-- What a search for a free place says, where each place is a unit: there is one exactly where there is room for a packet of that size.
abbrev pub Vacant : (need : ℕ → ℕ) → List Row → ℕ → Option ℕ → Type 0
Vacant need rs size None = length rs < total need rs + need size
Vacant need rs size (Some i) = (Some i ≡ place None rs) × (total need rs + need size ≤ length rs)

-- what a store of such a table means
abbrev pub meaning_of : List Row → ℕ → ℕ → (ℕ → ℕ) → Meaning
meaning_of rs largest capacity need = record { packets = gathered rs; largest = largest; capacity = capacity; need = need }
