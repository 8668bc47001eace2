-- The effects of rules on a store, by the calls of the store.
use Rattle.std.proofs.Common.{◌≡◌, ℕ, ◌+◌, ◌<◌, ◌≤◌, true, false, T, [], ◌∷◌, length, Some, None, Ok, sym, subst, le→leb, leb→le}
use Rattle.store.specs.declared.name.Name.{Name}
use Rattle.store.specs.Packets.{Packet, new_packet, with_holder, with_byte}
use Rattle.store.specs.Meaning.{Meaning, with_packets, found, units, room_for, make_answer, make_after, discard_answer, discard_after, handed, hand_answer, hand_after, write_answer, write_after}
use Rattle.store.proofs.Answered as call
use Rattle.rules.specs.State.{put, stored}
use Rattle.rules.specs.Rules.{RoomFor}

-- room, by the store's own test
pub room_yes : (m : Meaning) (size : ℕ) → room_for m size ≡ true → RoomFor m size
room_yes m size h = leb→le (units m + m.need size) m.capacity (subst T (sym h) tt)

pub room_no : (m : Meaning) (size : ℕ) → room_for m size ≡ false → ¬ RoomFor m size
room_no m size h r = subst T h (le→leb (units m + m.need size) m.capacity r)

module _ (m : Meaning) (n : Name) where
  pub make_puts : (size : ℕ) → found m n ≡ None → size ≤ m.largest → RoomFor m size
      → (Ok tt ≡ make_answer m n size) × (with_packets m (stored m.packets ((n, Some (new_packet n size)) ∷ [])) ≡ make_after m n size)
  unfolding put
  make_puts size e l r = call.make_granted m n size (call.make_yes m n size e l r)

  module _ (p : Packet) (e : found m n ≡ Some p) where
    pub discard_puts : (Ok tt ≡ discard_answer m n) × (with_packets m (stored m.packets ((n, None) ∷ [])) ≡ discard_after m n)
    unfolding put
    discard_puts = call.discard_alive m n p e

    pub hand_puts : (h : ℕ) → (Ok handed ≡ hand_answer m n) × (with_packets m (stored m.packets ((n, Some (with_holder h p)) ∷ [])) ≡ hand_after m n h)
    unfolding put
    hand_puts h = call.hand_alive m n p e h

    pub write_puts : (i b : ℕ) → i < length p.bytes
        → (Ok tt ≡ write_answer m n i) × (with_packets m (stored m.packets ((n, Some (with_byte i b p)) ∷ [])) ≡ write_after m n i b)
    unfolding put
    write_puts i b l = call.write_inside m n p e i b l
