-- A slab's rows by their places, and as its table and memory change.
use Rattle.std.proofs.Common.{◌≡◌, ℕ, zero, suc, ◌+◌, ◌*◌, ◌<◌, ◌≤◌, min, true, false, cond, ◌&&◌, ◌≢◌, ◌⊎◌, List, [], ◌∷◌, ◌++◌, length, get_or, take, drop, set, replicate, is_some, Some, None, Option, sym, refl, ap, ◌∙◌, subst, inl, inr, true≢false, arith, length-append, length-drop, length-set, length-take, get_or-drop, get_or-set_other, get_or-take, get_or-set_same, drop-drop}
use lib.ListN.{length-replicate}
use lib.Seq.{set-get_or}
use Rattle.std.proofs.lemmas.List.{same_lists}
use Rattle.std.proofs.lemmas.Bool.{cases_eq}
use Rattle.store.specs.declared.label.Label.{Label}
use Rattle.store.specs.declared.name.Name.{Name}
use Rattle.store.specs.Blocks.{block, zeroed}
use Rattle.store.specs.Packets.{packet, with_byte, with_holder, empty}
use Rattle.store.specs.Rows.{Row, Vacant, alike, next, position, place, gathered, row_at, row_of, with_packet, blank, total, need_in, placed, fresh, distinct, meaning_of}
use Rattle.store.proofs.Blocks.{take-set, block-set, others-set, block-put, others_put}
use Rattle.store.proofs.Gathered.{free_from, total_full, total-free}
use Rattle.slab_store.specs.declared.slot.Slot.{Slot}
use Rattle.slab_store.specs.Labels.{name_of}
use Rattle.slab_store.specs.Slabs.{row, slab_rows, label_at, empty_slab}

named-row : (o : Option Label) (bytes : List ℕ) → (row o bytes).named ≡ name_of o
named-row None bytes = refl
named-row (Some l) bytes = refl

pub place-rows : (o : Option Name) (ss : List Slot) (memory : List ℕ) → place o (slab_rows ss memory) ≡ position (λ s. name_of s.label) o ss
place-rows o [] memory = refl
place-rows o (s ∷ ss) memory =
    let e = named-row s.label (take 256 memory) in
    let r = place-rows o ss (drop 256 memory) in
    λ t. cond (alike (e t) o) (Some 0) (next (r t))

pub length-rows : (ss : List Slot) (memory : List ℕ) → length (slab_rows ss memory) ≡ length ss
length-rows [] memory = refl
length-rows (s ∷ ss) memory = ap suc (length-rows ss (drop 256 memory))

-- what a search for a free slot says: each packet takes one unit
pub vacancy : (ss : List Slot) (memory : List ℕ) (size : ℕ) (o : Option ℕ) → o ≡ position (λ s. name_of s.label) None ss → Vacant (λ _. 1) (slab_rows ss memory) size o
vacancy ss memory size None e =
    let a = total_full (λ _. 1) (slab_rows ss memory) (λ _. refl) (place-rows None ss memory ∙ sym e) in omega arith
vacancy ss memory size (Some i) e =
    let p = e ∙ sym (place-rows None ss memory) in
    (p, total-free (λ _. 1) (slab_rows ss memory) i (λ _. refl) (free_from (slab_rows ss memory) i (sym p)))

block-next : (i : ℕ) (memory : List ℕ) → block 256 i (drop 256 memory) ≡ block 256 (suc i) memory
block-next i memory = let w : 256 + 256 * i ≡ 256 * suc i = omega arith in ap (take 256) (drop-drop (256 * i) 256 memory ∙ ap (λ (n : ℕ). drop n memory) w)

get_or-rows : (ss : List Slot) (memory : List ℕ) (i : ℕ) (d : Row) (e : Slot) → i < length ss → get_or (slab_rows ss memory) i d ≡ row (get_or ss i e).label (block 256 i memory)
get_or-rows [] memory i d e h = absurd (let y : ⊥ = omega arith in y)
get_or-rows (s ∷ ss) memory zero d e h = refl
get_or-rows (s ∷ ss) memory (suc i) d e h = get_or-rows ss (drop 256 memory) i d e (omega arith) ∙ ap (row (get_or ss i e).label) (block-next i memory)

-- slot i has another record, and its block other bytes
rows_change : (ss : List Slot) (memory changed : List ℕ) (i : ℕ) (s : Slot) → i < length ss
    → ((j : ℕ) → j ≢ i → block 256 j changed ≡ block 256 j memory)
    → slab_rows (set ss i s) changed ≡ set (slab_rows ss memory) i (row s.label (block 256 i changed))
rows_change ss memory changed i s h others =
    same_lists _ _ (length-rows (set ss i s) changed ∙ length-set ss i s ∙ sym (length-rows ss memory) ∙ sym (length-set (slab_rows ss memory) i (row s.label (block 256 i changed))))
    λ k d b.
    let e = length-rows (set ss i s) changed in
    let f = length-set ss i s in
    let b' : k < length (set ss i s) = omega arith in
    get_or-rows (set ss i s) changed k d s b' ∙ at k d (omega arith) (cases_eq k i)
  where
    at : (k : ℕ) (d : Row) → k < length ss → (k ≡ i) ⊎ (k ≡ i → ⊥) → row (get_or (set ss i s) k s).label (block 256 k changed) ≡ get_or (set (slab_rows ss memory) i (row s.label (block 256 i changed))) k d
    at k d b (inl w) =
        let r : i < length (slab_rows ss memory) = rw (length-rows ss memory) h in
        subst (λ (n : ℕ). row (get_or (set ss i s) n s).label (block 256 n changed) ≡ get_or (set (slab_rows ss memory) i (row s.label (block 256 i changed))) n d) (sym w)
        (ap (λ (x : Slot). row x.label (block 256 i changed)) (get_or-set_same ss i s s h) ∙ sym (get_or-set_same (slab_rows ss memory) i _ d r))
    at k d b (inr n) =
        ap (λ (x : Slot). row x.label (block 256 k changed)) (get_or-set_other ss i k s s n)
        ∙ ap (row (get_or ss k s).label) (others k n)
        ∙ sym (get_or-rows ss memory k d s b)
        ∙ sym (get_or-set_other (slab_rows ss memory) i k _ d n)

-- ---- rows by their places
nowhere : Slot
nowhere = record { label = None; small = λ l e. absurd (let z : ◌≡◌ {A = ℕ} 0 1 = cc in (let y : ⊥ = omega arith in y)) }

pub label-at : (ss : List Slot) (i : ℕ) (x : Slot) → i < length ss → label_at ss i ≡ (get_or ss i x).label
label-at [] i x h = absurd (let y : ⊥ = omega arith in y)
label-at (s ∷ ss) zero x h = refl
label-at (s ∷ ss) (suc i) x h = label-at ss i x (omega arith)

row_is : (ss : List Slot) (memory : List ℕ) (i : ℕ) → row_at (slab_rows ss memory) i ≡ row (label_at ss i) (block 256 i memory)
row_is [] memory i = refl
row_is (s ∷ ss) memory zero = refl
row_is (s ∷ ss) memory (suc i) = row_is ss (drop 256 memory) i ∙ ap (row (label_at ss i)) (block-next i memory)

some_is : (o : Option Label) (bytes : List ℕ) → is_some (row o bytes).named ≡ true → (l : Label) × (o ≡ Some l)
some_is None bytes h = absurd (true≢false (sym h))
some_is (Some l) bytes h = (l, refl)

bytes_some : (o : Option Label) (bytes : List ℕ) (k : ℕ) → k < length (row o bytes).packet.bytes → is_some (row o bytes).named ≡ true
bytes_some None bytes k h = absurd (let y : ⊥ = omega arith in y)
bytes_some (Some l) bytes k h = refl

pub small_at : (ss : List Slot) (i : ℕ) (l : Label) → label_at ss i ≡ Some l → l.size ≤ 256
small_at [] i l e = absurd (let z : ◌≡◌ {A = ℕ} 0 1 = cc in (let y : ⊥ = omega arith in y))
small_at (s ∷ ss) zero l e = s.small l e
small_at (s ∷ ss) (suc i) l e = small_at ss i l e

-- what is alive lies in the table and has a label, and so does what has bytes
pub alive-within : (ss : List Slot) (memory : List ℕ) (i : ℕ) → is_some (row_at (slab_rows ss memory) i).named ≡ true → i < length ss
alive-within [] memory i h = absurd (true≢false (sym h))
alive-within (s ∷ ss) memory zero h = omega arith
alive-within (s ∷ ss) memory (suc i) h = let r = alive-within ss (drop 256 memory) i h in omega arith

pub label_is : (ss : List Slot) (memory : List ℕ) (i : ℕ) → is_some (row_at (slab_rows ss memory) i).named ≡ true → (l : Label) × (label_at ss i ≡ Some l)
label_is ss memory i a = some_is (label_at ss i) (block 256 i memory) (ap (λ (r : Row). is_some r.named) (sym (row_is ss memory i)) ∙ a)

bytes-alive : (ss : List Slot) (memory : List ℕ) (i k : ℕ) → k < length (row_at (slab_rows ss memory) i).packet.bytes → is_some (row_at (slab_rows ss memory) i).named ≡ true
bytes-alive ss memory i k h =
    let e = ap (λ (r : Row). length r.packet.bytes) (row_is ss memory i) in
    ap (λ (r : Row). is_some r.named) (row_is ss memory i) ∙ bytes_some (label_at ss i) (block 256 i memory) k (omega arith)

module _ (ss : List Slot) (memory : List ℕ) (i : ℕ) (l : Label) (e : label_at ss i ≡ Some l) where
  row_some : row_at (slab_rows ss memory) i ≡ row_of l.name (packet l.holder (take l.size (block 256 i memory)))
  row_some = row_is ss memory i ∙ ap (λ o. row o (block 256 i memory)) e

  pub holder_is : l.holder ≡ (row_at (slab_rows ss memory) i).packet.holder
  holder_is = ap (λ (r : Row). r.packet.holder) (sym row_some)

  module _ (h : i < length ss) where
    -- another holder
    pub rows_hand : (holder : ℕ) (s : Slot) → s.label ≡ Some (record { name = l.name; holder = holder; size = l.size })
        → slab_rows (set ss i s) memory ≡ set (slab_rows ss memory) i (with_packet (with_holder holder) (row_at (slab_rows ss memory) i))
    rows_hand holder s n =
        rows_change ss memory memory i s h (λ j d. refl)
        ∙ ap (set (slab_rows ss memory) i) (ap (λ o. row o (block 256 i memory)) n ∙ ap (with_packet (with_holder holder)) (sym row_some))

    module _ (whole : length memory ≡ 256 * length ss) where
      length_full : length (block 256 i memory) ≡ 256
      length_full = simp (length-take, length-drop) (omega arith)

      pub size_is : l.size ≡ length (row_at (slab_rows ss memory) i).packet.bytes
      size_is =
          let s = small_at ss i l e in
          let b = length_full in
          let t : length (take l.size (block 256 i memory)) ≡ min l.size (length (block 256 i memory)) = length-take l.size (block 256 i memory) in
          let f : l.size ≡ length (take l.size (block 256 i memory)) = omega arith in
          f ∙ ap (λ (r : Row). length r.packet.bytes) (sym row_some)

      module _ (off : ℕ) (lt : off < length (row_at (slab_rows ss memory) i).packet.bytes) where
        within : (off < 256) × (256 * i + off < length memory)
        within =
            let s = small_at ss i l e in
            let e = size_is in
            (omega arith, omega arith)

        byte : get_or memory (256 * i + off) 0 ≡ get_or (row_at (slab_rows ss memory) i).packet.bytes off 0
        byte =
            let e = size_is in
            let s : off < l.size = omega arith in
            sym (ap (λ (r : Row). get_or r.packet.bytes off 0) row_some
            ∙ get_or-take l.size (block 256 i memory) off 0 s
            ∙ get_or-take 256 (drop (256 * i) memory) off 0 within.0
            ∙ get_or-drop (256 * i) memory off 0)

        put : (b : ℕ) → slab_rows ss (set memory (256 * i + off) b) ≡ set (slab_rows ss memory) i (with_packet (with_byte off b) (row_at (slab_rows ss memory) i))
        put b =
            let w = within.0 in
            ap (λ (l : List Slot). slab_rows l (set memory (256 * i + off) b)) (sym (set-get_or ss i nowhere))
            ∙ rows_change ss memory (set memory (256 * i + off) b) i (get_or ss i nowhere) h (others-set 256 i off b memory w)
            ∙ ap (λ o. set (slab_rows ss memory) i (row o (block 256 i (set memory (256 * i + off) b)))) (sym (label-at ss i nowhere h) ∙ e)
            ∙ ap (λ (bs : List ℕ). set (slab_rows ss memory) i (row_of l.name (packet l.holder bs)))
            (ap (take l.size) (block-set 256 i off b memory w) ∙ take-set l.size off b (block 256 i memory))
            ∙ ap (λ (r : Row). set (slab_rows ss memory) i (with_packet (with_byte off b) r)) (sym row_some)

module _ (ss : List Slot) (memory : List ℕ) (i : ℕ) (h : i < length ss) where
  -- a slot without a packet
  pub rows_release : (s : Slot) → s.label ≡ None → slab_rows (set ss i s) memory ≡ set (slab_rows ss memory) i blank
  rows_release s n = rows_change ss memory memory i s h (λ j d. refl) ∙ ap (λ o. set (slab_rows ss memory) i (row o (block 256 i memory))) n

  -- zeros in the front of its bytes, and a record of them
  pub rows_fill : length memory ≡ 256 * length ss → (n : Name) (holder size : ℕ) (s : Slot) → size ≤ 256 → s.label ≡ Some (record { name = n; holder = holder; size = size })
      → (ss' : List Slot) (changed : List ℕ) → ss' ≡ ss → changed ≡ zeroed (256 * i) size memory
      → slab_rows (set ss' i s) changed ≡ set (slab_rows ss memory) i (row_of n (packet holder (replicate size 0)))
  rows_fill whole n holder size s small z ss' changed same clear =
      let l : length (replicate {A = ℕ} size 0) ≡ size = length-replicate size 0 in
      let f : 256 * i + size ≤ length memory = omega arith in
      (λ t. slab_rows (set (same t) i s) (clear t))
      ∙ rows_change ss memory (zeroed (256 * i) size memory) i s h (others_put 256 i size memory (replicate size 0) small l f)
      ∙ ap (λ o. set (slab_rows ss memory) i (row o (block 256 i (zeroed (256 * i) size memory)))) z
      ∙ ap (λ (bs : List ℕ). set (slab_rows ss memory) i (row_of n (packet holder bs))) (block-put 256 i size memory (replicate size 0) small l f)

pub whole_fill : (ss : List Slot) (memory : List ℕ) (i size : ℕ) → i < length ss → size ≤ 256 → length memory ≡ 256 * length ss → length (zeroed (256 * i) size memory) ≡ 256 * length ss
whole_fill ss memory i size h small whole = simp (length-append, length-replicate, length-take, length-drop) (omega arith)

-- a byte of a packet: where it lies, what it is, and what another one leaves
module _ (ss : List Slot) (memory : List ℕ) (i : ℕ) (whole : length memory ≡ 256 * length ss) (off : ℕ) (lt : off < length (row_at (slab_rows ss memory) i).packet.bytes) where
  there : i < length ss
  there = alive-within ss memory i (bytes-alive ss memory i off lt)

  label : (l : Label) × (label_at ss i ≡ Some l)
  label = label_is ss memory i (bytes-alive ss memory i off lt)

  pub bytes-within : (off < 256) × (256 * i + off < length memory)
  bytes-within = within ss memory i label.0 label.1 there whole off lt

  pub byte_is : get_or memory (256 * i + off) 0 ≡ get_or (row_at (slab_rows ss memory) i).packet.bytes off 0
  byte_is = byte ss memory i label.0 label.1 there whole off lt

  pub rows-put : (b : ℕ) → slab_rows ss (set memory (256 * i + off) b) ≡ set (slab_rows ss memory) i (with_packet (with_byte off b) (row_at (slab_rows ss memory) i))
  rows-put b = put ss memory i label.0 label.1 there whole off lt b

-- ---- a loop over the records
-- how many slots have a packet
abbrev pub one_if : Option Label → ℕ
one_if None = 0
one_if (Some l) = 1

abbrev pub taken : List Slot → ℕ
taken [] = 0
taken (s ∷ ss) = one_if s.label + taken ss

pub total-rows : (ss : List Slot) (memory : List ℕ) → total (λ _. 1) (slab_rows ss memory) ≡ taken ss
total-rows [] memory = refl
total-rows (s ∷ ss) memory = go s.label (total-rows ss (drop 256 memory))
  where
    go : (o : Option Label) → total (λ _. 1) (slab_rows ss (drop 256 memory)) ≡ taken ss
        → need_in (λ _. 1) (row o (take 256 memory)) (row o (take 256 memory)).named + total (λ _. 1) (slab_rows ss (drop 256 memory)) ≡ one_if o + taken ss
    go None e = omega arith
    go (Some l) e = omega arith

pub taken-append : (ss : List Slot) (s : Slot) → taken (ss ++ s ∷ []) ≡ taken ss + one_if s.label
taken-append [] s = omega arith
taken-append (x ∷ ss) s = let r = taken-append ss s in omega arith

pub taken-within : (ss : List Slot) → taken ss ≤ length ss
taken-within [] = omega arith
taken-within (s ∷ ss) = go s.label (taken-within ss)
  where
    go : (o : Option Label) → taken ss ≤ length ss → one_if o + taken ss ≤ suc (length ss)
    go None r = omega arith
    go (Some l) r = omega arith

pub one_some : (o : Option Label) → is_some o ≡ true → one_if o ≡ 1
one_some None h = absurd (true≢false (sym h))
one_some (Some l) h = refl

pub one_none : (o : Option Label) → is_some o ≡ false → one_if o ≡ 0
one_none None h = refl
one_none (Some l) h = absurd (true≢false h)

-- ---- a table that is cleared
rows_free : (n : ℕ) (s : Slot) (memory : List ℕ) → s.label ≡ None → (gathered (slab_rows (replicate n s) memory) ≡ empty) × (distinct (slab_rows (replicate n s) memory) ≡ true)
rows_free zero s memory e = (refl, refl)
rows_free (suc n) s memory e =
    let r = rows_free n s (drop 256 memory) e in (
      ap (λ o. placed (row o (take 256 memory)).named (row o (take 256 memory)).packet (gathered (slab_rows (replicate n s) (drop 256 memory)))) e ∙ r.0,
      ap (λ o. fresh (row o (take 256 memory)).named (slab_rows (replicate n s) (drop 256 memory)) && distinct (slab_rows (replicate n s) (drop 256 memory))) e ∙ r.1,
    )

module _ (ss : List Slot) (n : ℕ) (s : Slot) (memory : List ℕ) (e : s.label ≡ None) (all : ss ≡ replicate n s) where
  pub apart_free : distinct (slab_rows ss memory) ≡ true
  apart_free = ap (λ l. distinct (slab_rows l memory)) all ∙ (rows_free n s memory e).1

  pub meaning_free : (k : ℕ) → length ss ≡ k → meaning_of (slab_rows ss memory) 256 (length (slab_rows ss memory)) (λ _. 1) ≡ empty_slab k
  meaning_free k l =
      let g = ap (λ l. gathered (slab_rows l memory)) all ∙ (rows_free n s memory e).0 in
      let c = length-rows ss memory ∙ l in
      λ t. record { packets = g t; largest = 256; capacity = c t; need = λ _. 1 }
