-- Packets alive, as a finite map from names. Entries ascend strictly by name, so that two maps with equal look-ups are equal.
use Rattle.std.specs.Prelude.{◌≡◌, ℕ, ◌+◌, Bool, true, false, cond, List, [], ◌∷◌, length, replicate, Some, None, Option, slice_set, refl}
use Rattle.std.proofs.Common.{sym, subst}
use Rattle.store.specs.declared.name.Name.{Name}
use Rattle.store.specs.Names.{earlier, same, earlier_trans, earlier_other, same_equal}

-- who holds a packet, and its bytes; packets are built and altered by the definitions below alone
pub record Packet : Type 0 where
  pub holder : ℕ
  pub bytes : List ℕ

abbrev pub packet : ℕ → List ℕ → Packet
packet h bs = record { holder = h; bytes = bs }

-- a packet of zeros, held by its maker
abbrev pub new_packet : Name → ℕ → Packet
new_packet n size = packet n.maker (replicate size 0)

abbrev pub with_holder : ℕ → Packet → Packet
with_holder h p = packet h p.bytes

abbrev pub with_bytes : List ℕ → Packet → Packet
with_bytes bs p = packet p.holder bs

abbrev pub with_byte : ℕ → ℕ → Packet → Packet
with_byte i b p = with_bytes (slice_set p.bytes i b) p

pub record Entry : Type 0 where
  pub name : Name
  pub packet : Packet

abbrev pub lookup_in : Name → List Entry → Option Packet
lookup_in n [] = None
lookup_in n (e ∷ es) = cond (same n e.name) (Some e.packet) (lookup_in n es)

abbrev pub insert_in : Name → Packet → List Entry → List Entry
insert_in n p [] = record { name = n; packet = p } ∷ []
insert_in n p (e ∷ es) =
    cond (earlier n e.name)
    (record { name = n; packet = p } ∷ e ∷ es)
    (cond (same n e.name) (record { name = n; packet = p } ∷ es) (e ∷ insert_in n p es))

abbrev pub remove_in : Name → List Entry → List Entry
remove_in n [] = []
remove_in n (e ∷ es) = cond (same n e.name) es (e ∷ remove_in n es)

abbrev pub used_in : (ℕ → ℕ) → List Entry → ℕ
used_in need [] = 0
used_in need (e ∷ es) = need (length e.packet.bytes) + used_in need es

-- every entry is later than n
abbrev pub Above : Name → List Entry → Type 0
Above n [] = Unit {0}
Above n (e ∷ es) = (earlier n e.name ≡ true) × Above n es

abbrev pub Ascending : List Entry → Type 0
Ascending [] = Unit {0}
Ascending (e ∷ es) = Above e.name es × Ascending es

pub above_trans : (m n : Name) (es : List Entry) → earlier m n ≡ true → Above n es → Above m es
above_trans m n [] h a = tt
above_trans m n (e ∷ es) h a = (earlier_trans m n e.name h a.0, above_trans m n es h a.1)

above-insert : (m n : Name) (p : Packet) (es : List Entry) → earlier m n ≡ true → Above m es → Above m (insert_in n p es)
above-insert m n p [] h a = (h, tt)
above-insert m n p (e ∷ es) h a =
    let rest = above-insert m n p es h a.1 in
    let new : Entry = record { name = n; packet = p } in
    elim (earlier n e.name) as (λ b. Above m (cond b (new ∷ e ∷ es) (cond (same n e.name) (new ∷ es) (e ∷ insert_in n p es)))) [
      | true ↦ (h, a)
      | false ↦ elim (same n e.name) as (λ b. Above m (cond b (new ∷ es) (e ∷ insert_in n p es))) [ true ↦ (h, a.1) | false ↦ (a.0, rest) ]
    ]

pub ascending-insert : (n : Name) (p : Packet) (es : List Entry) → Ascending es → Ascending (insert_in n p es)
ascending-insert n p [] a = (tt, tt)
ascending-insert n p (e ∷ es) a = go (earlier n e.name) refl (same n e.name) refl (ascending-insert n p es a.1)
  where
    new : Entry
    new = record { name = n; packet = p }

    go : (b : Bool) → earlier n e.name ≡ b → (c : Bool) → same n e.name ≡ c → Ascending (insert_in n p es)
        → Ascending (cond b (new ∷ e ∷ es) (cond c (new ∷ es) (e ∷ insert_in n p es)))
    go true h c k rest = ((h, above_trans n e.name es h a.0), a)
    go false h true k rest = (subst (λ (m : Name). Above m es) (sym (same_equal n e.name k)) a.0, a.1)
    go false h false k rest = (above-insert e.name n p es (earlier_other n e.name h k) a.0, rest)

above-remove : (m n : Name) (es : List Entry) → Above m es → Above m (remove_in n es)
above-remove m n [] a = tt
above-remove m n (e ∷ es) a =
    let rest = above-remove m n es a.1 in
    elim (same n e.name) as (λ b. Above m (cond b es (e ∷ remove_in n es))) [ true ↦ a.1 | false ↦ (a.0, rest) ]

pub ascending-remove : (n : Name) (es : List Entry) → Ascending es → Ascending (remove_in n es)
ascending-remove n [] a = tt
ascending-remove n (e ∷ es) a =
    let rest = ascending-remove n es a.1 in
    elim (same n e.name) as (λ b. Ascending (cond b es (e ∷ remove_in n es))) [ true ↦ a.1 | false ↦ (above-remove e.name n es a.0, rest) ]

-- The map itself, and its operations.
pub record Packets : Type 0 where
  pub entries : List Entry
  pub ascending : Ascending entries

unfoldable pub empty : Packets
empty = record { entries = []; ascending = tt }

unfoldable pub lookup : Name → Packets → Option Packet
lookup n m = lookup_in n m.entries

unfoldable pub insert : Name → Packet → Packets → Packets
insert n p m = record { entries = insert_in n p m.entries; ascending = ascending-insert n p m.entries m.ascending }

unfoldable pub remove : Name → Packets → Packets
remove n m = record { entries = remove_in n m.entries; ascending = ascending-remove n m.entries m.ascending }

-- the sum of the needs of all packets alive
unfoldable pub used : (ℕ → ℕ) → Packets → ℕ
used need m = used_in need m.entries

-- the need of what a look-up answers
abbrev pub need_of : (ℕ → ℕ) → Option Packet → ℕ
need_of need None = 0
need_of need (Some p) = need (length p.bytes)

-- the map with f of the packet of that name, if it is alive
abbrev pub altered : (Packet → Packet) → Name → Packets → Option Packet → Packets
altered f n m None = m
altered f n m (Some p) = insert n (f p) m

abbrev pub alter : (Packet → Packet) → Name → Packets → Packets
alter f n m = altered f n m (lookup n m)
