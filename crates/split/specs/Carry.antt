-- A packet's bytes on their way from one store to another.
use Rattle.std.specs.Prelude.{◌≡◌, ℕ, ◌++◌, length, take, drop, Some, None, Ok, Result}
use Rattle.store.specs.declared.name.Name.{Name}
use Rattle.store.specs.declared.denial.Handed.{Handed}
use Rattle.store.specs.declared.denial.Question.{Question}
use Rattle.store.specs.Meaning.{Meaning, with_packets, found, make_no, handed, hand_answer, hand_after}
use Rattle.store.specs.Packets.{Packet, insert, remove, with_bytes, with_holder}

-- the second packet with the first i bytes of the first
abbrev pub mixed : ℕ → Packet → Packet → Packet
mixed i p q = with_bytes (take i p.bytes ++ drop i q.bytes) q

-- the first i bytes are those of the source's packet, and nothing else differs
abbrev pub Carried : Meaning → Meaning → Meaning → Name → ℕ → ℕ → Type 0
Carried from old new n size i =
    (p q : Packet) → found from n ≡ Some p → found old n ≡ Some q → length p.bytes ≡ size → length q.bytes ≡ size
    → new ≡ with_packets old (insert n (mixed i p q) old.packets)

-- Where the source has a packet of that size, and the other store would make one of that name: a copy is there, so that a hand makes it the packet with its new holder.
abbrev pub Copied : Meaning → Meaning → Meaning → Name → ℕ → Result (Unit {0}) Question → Type 0
Copied a b b' n size r =
    (p : Packet) → found a n ≡ Some p → length p.bytes ≡ size → make_no b n size ≡ None
    → (r ≡ Ok tt) × (hand_answer b' n ≡ Ok handed) × ((h : ℕ) → hand_after b' n h ≡ with_packets b (insert n (with_holder h p) b.packets))

-- And the packet is moved, with another holder.
abbrev pub Moved : Meaning → Meaning → Meaning → Meaning → Name → ℕ → ℕ → Result Handed Question → Type 0
Moved a a' b b' n size h r =
    (p : Packet) → found a n ≡ Some p → length p.bytes ≡ size → make_no b n size ≡ None
    → (r ≡ Ok handed) × (a' ≡ with_packets a (remove n a.packets)) × (b' ≡ with_packets b (insert n (with_holder h p) b.packets))
