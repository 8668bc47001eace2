-- What calls answer and leave, once it is known what the name stands for.
use Rattle.std.proofs.Common.{◌≡◌, ℕ, ◌+◌, ◌<◌, ◌≤◌, length, get_or, Some, None, Ok, Err, Option, sym, refl, ap}
use Rattle.std.proofs.lemmas.Bool.{le-leb, lt-leb, lt-ltb, le-ltb}
use Rattle.store.specs.declared.name.Name.{Name}
use Rattle.store.specs.declared.denial.Question.{Question}
use Rattle.store.specs.declared.denial.Question.TheVariants.{Unused, Fits, Room, Alive, Inside}
use Rattle.store.specs.Packets.{Packet, Packets, insert, remove, new_packet, with_byte, with_holder}
use Rattle.store.specs.Meaning.{Meaning, with_packets, found, units, answer, after, make_no, make_answer, make_after, discard_answer, discard_after, handed, hand_answer, hand_after, size_answer, holder_answer, write_answer, write_after, read_answer}

module _ (m : Meaning) (n : Name) where
  -- ---- a name that is not alive
  module _ (e : found m n ≡ None) where
    pub discard_missing : (Err Alive ≡ discard_answer m n) × (m ≡ discard_after m n)
    discard_missing = (rw e, rw e)

    pub hand_missing : (h : ℕ) → (Err Alive ≡ hand_answer m n) × (m ≡ hand_after m n h)
    hand_missing h = (rw e, rw e)

    pub write_missing : (i b : ℕ) → (Err Alive ≡ write_answer m n i) × (m ≡ write_after m n i b)
    write_missing i b = (rw e, rw e)

    pub size_missing : Err Alive ≡ size_answer m n
    size_missing = rw e

    pub holder_missing : Err Alive ≡ holder_answer m n
    holder_missing = rw e

    pub read_missing : (i : ℕ) → Err Alive ≡ read_answer m n i
    read_missing i = rw e

  -- ---- a name that is alive
  module _ (p : Packet) (e : found m n ≡ Some p) where
    pub discard_alive : (Ok tt ≡ discard_answer m n) × (with_packets m (remove n m.packets) ≡ discard_after m n)
    discard_alive = (rw e, rw e)

    pub hand_alive : (h : ℕ) → (Ok handed ≡ hand_answer m n) × (with_packets m (insert n (with_holder h p) m.packets) ≡ hand_after m n h)
    hand_alive h = (rw e, rw e)

    pub size_alive : Ok (length p.bytes) ≡ size_answer m n
    size_alive = rw e

    pub holder-alive : Ok p.holder ≡ holder_answer m n
    holder-alive = rw e

    pub write_outside : (i b : ℕ) → length p.bytes ≤ i → (Err Inside ≡ write_answer m n i) × (m ≡ write_after m n i b)
    write_outside i b h = let t = le-ltb i (length p.bytes) h in (simp (e, t), simp (e, t))

    pub write_inside : (i b : ℕ) → i < length p.bytes → (Ok tt ≡ write_answer m n i) × (with_packets m (insert n (with_byte i b p) m.packets) ≡ write_after m n i b)
    write_inside i b h = let t = lt-ltb i (length p.bytes) h in (simp (e, t), simp (e, t))

    pub read-outside : (i : ℕ) → length p.bytes ≤ i → Err Inside ≡ read_answer m n i
    read-outside i h = let t = le-ltb i (length p.bytes) h in simp (e, t)

    pub read-inside : (i : ℕ) → i < length p.bytes → Ok (get_or p.bytes i 0) ≡ read_answer m n i
    read-inside i h = let t = lt-ltb i (length p.bytes) h in simp (e, t)

  -- ---- make, by the first question that is answered by no
  denied : (size : ℕ) (q : Question) → make_no m n size ≡ Some q → (Err q ≡ make_answer m n size) × (m ≡ make_after m n size)
  denied size q e = (ap (λ (o : Option Question). answer {X = Unit {0}} o tt) (sym e), ap (λ (o : Option Question). after o m (insert n (new_packet n size) m.packets)) (sym e))

  pub make_taken : (size : ℕ) (p : Packet) → found m n ≡ Some p → (Err Unused ≡ make_answer m n size) × (m ≡ make_after m n size)
  make_taken size p e = denied size Unused (rw e)

  pub make_large : (size : ℕ) → found m n ≡ None → m.largest < size → (Err Fits ≡ make_answer m n size) × (m ≡ make_after m n size)
  make_large size e h = let t = lt-leb size m.largest h in denied size Fits (simp (e, t))

  pub make_full : (size : ℕ) → found m n ≡ None → size ≤ m.largest → m.capacity < units m + m.need size
      → (Err Room ≡ make_answer m n size) × (m ≡ make_after m n size)
  make_full size e h k =
      let t = le-leb size m.largest h in
      let v = lt-leb (units m + m.need size) m.capacity k in denied size Room (simp (e, t, v))

  pub make_yes : (size : ℕ) → found m n ≡ None → size ≤ m.largest → units m + m.need size ≤ m.capacity → make_no m n size ≡ None
  make_yes size e h k =
      let t = le-leb size m.largest h in
      let v = le-leb (units m + m.need size) m.capacity k in simp (e, t, v)

  pub make_granted : (size : ℕ) → make_no m n size ≡ None → (Ok tt ≡ make_answer m n size) × (with_packets m (insert n (new_packet n size) m.packets) ≡ make_after m n size)
  make_granted size e = (ap (λ (o : Option Question). answer {X = Unit {0}} o tt) (sym e), ap (λ (o : Option Question). after o m (insert n (new_packet n size) m.packets)) (sym e))

-- ---- largest, capacity and need never change
module _ (o : Option Question) (m : Meaning) (ps : Packets) where
  pub same-largest : (after o m ps).largest ≡ m.largest
  same-largest = elim o as (λ x. (after x m ps).largest ≡ m.largest) [ None ↦ refl | Some q ↦ refl ]

  pub same-capacity : (after o m ps).capacity ≡ m.capacity
  same-capacity = elim o as (λ x. (after x m ps).capacity ≡ m.capacity) [ None ↦ refl | Some q ↦ refl ]

  pub same-need : (after o m ps).need ≡ m.need
  same-need = elim o as (λ x. (after x m ps).need ≡ m.need) [ None ↦ refl | Some q ↦ refl ]
