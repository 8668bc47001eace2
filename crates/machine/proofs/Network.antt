-- Bytes of packets that come from the network and go to it, one by one; and the state that this leaves.
use Rattle.std.proofs.Common.{◌≡◌, ℕ, ◌+◌, ◌<◌, List, [], ◌∷◌, ◌++◌, length, get_or, set, map, take, drop, slice_set, Some, None, Ok, Option, sym, refl, ap, ◌∙◌, append-nil, arith}
use Rattle.std.specs.Option.{IfSome, IfNone}
use Rattle.std.proofs.Math.Seq.{paste}
use Rattle.std.proofs.lemmas.List.{length-replicate, length-take, drop_all}
use Rattle.std.proofs.lemmas.List.Edits.{paste_more, paste_all, length-paste}
use Rattle.store.specs.declared.name.Name.{Name}
use Rattle.store.specs.Meaning.{Meaning, with_packets, found, size_answer, write_answer, write_after, read_answer, discard_after, hand_after}
use Rattle.store.specs.Packets.{Packet, packet, insert, new_packet, with_holder, with_byte, with_bytes}
use Rattle.store.proofs.Answered.{write_inside, size_alive, read-inside}
use Rattle.store.proofs.Maps.{insert-known, insert-twice, lookup-insert-same}
use Rattle.rows.specs.declared.row.Row.{Row}
use Rattle.rows.specs.Rows.{items}
use Rattle.rules.specs.State.{State, queue, made, next_name, push, popping, making, put, lined, stored, affected}
use Rattle.rules.specs.Calls.{arriving, copied}
use Rattle.code.specs.Copies.{program_of}
use Rattle.machine.specs.States.{state_of}
use Rattle.machine.specs.Moves.{altered}
use Rattle.machine.specs.Network.{Filling, Filled, Copying, Sendable}
use Rattle.machine.specs.declared.memory.Memory.{Memory}
use Rattle.machine.specs.declared.moves.Outside.TheVariants.{Discard, Take, Put}
use Rattle.machine.proofs.Changes.{discards, takes, puts}
use Rattle.machine.proofs.Operations.{taken-length}

-- ---- bytes written
-- the first i bytes are written, and nothing else differs
abbrev pub FilledTo : (i : ℕ) → Meaning → Name → List ℕ → (after : Meaning) → Type 0
FilledTo i m n bs after = (p : Packet) → found m n ≡ Some p → length p.bytes ≡ length bs → after ≡ with_packets m (insert n (with_bytes (paste p.bytes 0 bs i) p) m.packets)

pub filled_none : (m : Meaning) (n : Name) (bs : List ℕ) → FilledTo 0 m n bs m
filled_none m n bs p e l = ap (with_packets m) (sym (insert-known n p m.packets e))

paste_next : (d s : List ℕ) (i : ℕ) → i < length d → i < length s → set (paste d 0 s i) i (get_or s i 0) ≡ paste d 0 s (i + 1)
paste_next d s i h k = let z : i ≡ 0 + i = omega arith in ap (λ (j : ℕ). set (paste d 0 s i) j (get_or s i 0)) z ∙ paste_more d 0 s i 0 (omega arith) k

paste_whole : (d s : List ℕ) (i : ℕ) → i ≡ length s → length d ≡ i → paste d 0 s i ≡ s
paste_whole d s i h k = paste_all d 0 s i h ∙ ap (λ (r : List ℕ). s ++ r) (drop_all (0 + i) d (omega arith)) ∙ append-nil s

module _ (m mid : Meaning) (n : Name) (bs : List ℕ) (i : ℕ) (filled : FilledTo i m n bs mid) (inside : i < length bs) where
  -- the packet on the way
  module _ (p : Packet) (e : found m n ≡ Some p) (l : length p.bytes ≡ length bs) where
    there : found mid n ≡ Some (with_bytes (paste p.bytes 0 bs i) p)
    there = ap (λ (w : Meaning). found w n) (filled p e l) ∙ lookup-insert-same n (with_bytes (paste p.bytes 0 bs i) p) m.packets

    long : i < length (paste p.bytes 0 bs i)
    long = let k = length-paste p.bytes 0 bs i (omega arith) (omega arith) in omega arith

  pub written : Filling m n bs → Ok tt ≡ write_answer mid n i
  written (p, e, l) = (write_inside mid n (with_bytes (paste p.bytes 0 bs i) p) (there p e l) i 0 (long p e l)).0

  pub filled_more : (after : Meaning) → after ≡ write_after mid n i (get_or bs i 0) → FilledTo (i + 1) m n bs after
  filled_more after e p f l =
      let x = with_bytes (paste p.bytes 0 bs i) p in
      let y = with_byte i (get_or bs i 0) x in
      let z : y ≡ with_bytes (paste p.bytes 0 bs (i + 1)) p = ap (λ (b : List ℕ). with_bytes b p) (paste_next p.bytes bs i (omega arith) inside) in
      e ∙ sym (write_inside mid n x (there p f l) i (get_or bs i 0) (long p f l)).1
      ∙ ap (λ (w : Meaning). with_packets w (insert n y w.packets)) (filled p f l)
      ∙ ap (with_packets m) (insert-twice n y x m.packets ∙ ap (λ (v : Packet). insert n v m.packets) z)

pub filled_all : (m after : Meaning) (n : Name) (bs : List ℕ) (i : ℕ) → Filling m n bs → FilledTo i m n bs after → i ≡ length bs → Filled m n bs after
filled_all m after n bs i (q, f, k) filled e p g =
    let same : p ≡ q = cc in
    let l : length p.bytes ≡ length bs = ap (λ (x : Packet). length x.bytes) same ∙ k in
    filled p g l ∙ ap (λ (b : List ℕ). with_packets m (insert n (with_bytes b p) m.packets)) (paste_whole p.bytes bs i e (omega arith))

-- ---- bytes copied out
sized : (m : Meaning) (n : Name) (k : ℕ) (p : Packet) → Ok k ≡ size_answer m n → found m n ≡ Some p → k ≡ length p.bytes
sized m n k p h e = let s = size_alive m n p e in cc

pub copied_more : (m : Meaning) (n : Name) (buffer now : List ℕ) (size i b : ℕ) → Ok size ≡ size_answer m n → i < length (take size buffer) → Ok b ≡ read_answer m n i
    → ((p : Packet) → found m n ≡ Some p → now ≡ paste (take size buffer) 0 p.bytes i)
    → (p : Packet) → found m n ≡ Some p → set now i b ≡ paste (take size buffer) 0 p.bytes (i + 1)
copied_more m n buffer now size i b h k r so_far p e =
    let z = sized m n size p h e in
    let l = length-take size buffer in
    let inside : i < length p.bytes = omega arith in
    let y = read-inside m n p e i inside in
    let same : b ≡ get_or p.bytes i 0 = cc in
    ap (λ (bs : List ℕ). set bs i b) (so_far p e) ∙ ap (set (paste (take size buffer) 0 p.bytes i) i) same ∙ paste_next (take size buffer) p.bytes i k inside

pub copied_all : (m : Meaning) (n : Name) (buffer now : List ℕ) (size i : ℕ) → Copying m n buffer → Ok size ≡ size_answer m n → i ≡ length (take size buffer)
    → ((p : Packet) → found m n ≡ Some p → now ≡ paste (take size buffer) 0 p.bytes i)
    → (p : Packet) → found m n ≡ Some p → now ++ drop size buffer ≡ copied p.bytes buffer
copied_all m n buffer now size i (q, f, room) h end so_far p e =
    let z = sized m n size p h e in
    let w = sized m n size q h f in
    let l = length-take size buffer in
    let k : i ≡ length p.bytes = omega arith in
    let all : now ≡ p.bytes = so_far p e ∙ paste_whole (take size buffer) p.bytes i k (omega arith) in
    ap (λ (bs : List ℕ). bs ++ drop size buffer) all ∙ ap (λ (j : ℕ). p.bytes ++ drop j buffer) z

-- ---- an arrival
module _ (c c' : Memory) (m m1 : Meaning) (bs : List ℕ) (n : Name) where
  abbrev new : Packet
  new = new_packet (next_name (state_of c m) 0) (length bs)

  abbrev Made : Type 0
  Made = state_of c' m1 ≡ affected (making 0 (made (state_of c m) 0) new) (state_of c m)

  module _ (is : n ≡ next_name (state_of c m) 0) (made_so : Made) where
    store_made : m1 ≡ with_packets m (insert n new m.packets)
    unfolding put
    store_made = ap (λ (s : State). s.store) made_so ∙ ap (λ (k : Name). with_packets m (insert k new m.packets)) (sym is)

    made_there : found m1 n ≡ Some new
    made_there = ap (λ (w : Meaning). found w n) store_made ∙ lookup-insert-same n new m.packets

    pub to_fill : Filling m1 n bs
    to_fill = (new, made_there, length-replicate (length bs) 0)

    module _ (m2 : Meaning) (filled : Filled m1 n bs m2) where
      store_filled : m2 ≡ with_packets m (stored m.packets (arriving (state_of c m) bs).puts)
      unfolding put
      store_filled =
          let x = packet 0 bs in
          filled new made_there ∙ ap (λ (w : Meaning). with_packets w (insert n x w.packets)) store_made
          ∙ ap (with_packets m) (insert-twice n x new m.packets ∙ ap (λ (k : Name). insert k x m.packets) is)

      pub arrives : (d r : Row Name 16) → length (queue (state_of c m) 0) < 16 → items r ≡ items (get_or c'.queues 0 d) ++ n ∷ []
          → record (state_of c' m1) { queues = map items (take (2 + (program_of c'.code).queues) (slice_set c'.queues 0 r)); store = m2 } ≡ affected (arriving (state_of c m) bs) (state_of c m)
      arrives d r few more =
          let s = state_of c m in
          let qs = map items (take (2 + (program_of c'.code).queues) (slice_set c'.queues 0 r)) in
          let long = taken-length items (2 + (program_of c'.code).queues) c'.queues (omega (arith, c'.few_queues, c'.eight_queues)) in
          let same = ap (λ (t : State). queue t 0) made_so in
          let few' : length (queue (state_of c' m1) 0) < 16 = omega (arith, ap length same) in
          let q = ap (λ (t : State). t.queues) (puts c' m1 m1 0 (Put 0 n) (omega (arith, long), few') 0 d r 0 n refl refl more)
          ∙ ap (λ (t : State). lined t.queues (Some (0, push n))) made_so ∙ ap (λ (k : Name). lined s.queues (Some (0, push k))) is in
          ap (λ (t : State). record t { queues = qs; store = m2 }) made_so ∙ λ i. record (affected (arriving s bs) s) { queues = q i; store = store_filled i }

-- ---- a collect
pub collects : (c : Memory) (m m' : Meaning) (n : Name) (buffer : List ℕ) (d r : Row Name 16) (first : Option Name) → Sendable (state_of c m) n buffer
    → IfSome first (λ x. items (get_or c.queues 1 d) ≡ x ∷ items r) → IfNone first ((items (get_or c.queues 1 d) ≡ []) × (r ≡ get_or c.queues 1 d))
    → m' ≡ discard_after m n
    → record (state_of c m) { queues = map items (take (2 + (program_of c.code).queues) (slice_set c.queues 1 r)); store = m' } ≡ affected (popping 1 n None) (state_of c m)
collects c m m' n buffer d r first s some none after =
    let (p, e, room) = s.fits in
    let q = ap (λ (s : State). s.queues) (takes c m (hand_after m n 0) 0 (Take 1 n) ((p, e), s.first) 1 d r 1 n first refl refl some none refl)
    ∙ ap (λ (x : Option Packet). lined (state_of c m).queues (altered x (λ p. popping 1 n (Some (with_holder 0 p)))).edit) e in
    let w = ap (λ (s : State). s.store) (discards c m m' 0 (Discard n) (p, e) n refl after) in
    cc
