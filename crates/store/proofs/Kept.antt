-- What the calls of a store answer and leave that keeps its packets in a table of rows, no two of one name, where each row is a unit.
use Rattle.std.proofs.Common.{◌≡◌, ℕ, ◌+◌, ◌<◌, ◌≤◌, true, false, true≢false, List, length, set, is_some, Some, None, Ok, Err, Option, Result, sym, refl, ap, ◌∙◌, arith, length-set}
use Rattle.std.proofs.lemmas.Bool.{le-leb, lt-leb}
use Rattle.std.specs.Option.{ok_or}
use Rattle.std.specs.Result.{is_ok}
use Rattle.store.specs.declared.denial.Question.{Question}
use Rattle.store.specs.declared.denial.Question.TheVariants.{Room, Alive}
use Rattle.store.specs.declared.name.Name.{Name}
use Rattle.store.specs.Packets.{Packet, Packets, lookup, insert, new_packet, with_byte, with_holder}
use Rattle.store.specs.Meaning.{Meaning, with_packets, found, units, alive_no, make_no, make_answer, make_after, discard_after, hand_after, write_after}
use Rattle.store.specs.Rows.{Row, Lies, Sought, Placed, Vacant, place, gathered, distinct, row_at, row_of, with_packet, blank, total, meaning_of}
use Rattle.store.proofs.Answered as call
use Rattle.store.proofs.Gathered.{holds_from, holds-within, holds-name, free_from, lacks_from, lookup_lacking, lookup_holding, gathered-drop, gathered-new, distinct-new, replace_row, used-total}

-- a name that is not alive is in no row
no_place : (n : Name) (rs : List Row) → lookup n (gathered rs) ≡ None → place (Some n) rs ≡ None
no_place n rs e = go (place (Some n) rs) refl
  where
    go : (o : Option ℕ) → place (Some n) rs ≡ o → place (Some n) rs ≡ None
    go None p = p
    go (Some i) p =
        let z = lookup_holding n rs i blank (holds_from n rs i p) in
        cc

-- what a search says
pub sought : (rs : List Row) (n : Name) (o : Option ℕ) → o ≡ place (Some n) rs → Sought rs n o
sought rs n None e = lookup_lacking n rs (lacks_from n rs (sym e))
sought rs n (Some i) e =
    let h = holds_from n rs i (sym e) in
    record { within = holds-within n rs i h; row = e; alive = ap is_some (holds-name n rs i h); packet = lookup_holding n rs i blank h }

pub placed_at : (rs : List Row) (n : Name) (o : Option ℕ) → o ≡ place (Some n) rs → Placed rs n (ok_or o Alive)
placed_at rs n None e = ap alive_no (sought rs n None e)
placed_at rs n (Some i) e = sought rs n (Some i) e

-- a name with no place is not alive
pub gone_from : (rs : List Row) (n : Name) (r : Result ℕ Question) → Placed rs n r → is_ok r ≡ false → lookup n (gathered rs) ≡ None
gone_from rs n (Ok i) p h = absurd (true≢false h)
gone_from rs n (Err q) p h = go (lookup n (gathered rs)) p
  where
    go : (o : Option Packet) → alive_no o ≡ Some q → o ≡ None
    go None e = refl
    go (Some x) e = let y : ◌≡◌ {A = ℕ} 0 1 = cc in absurd (let i : ⊥ = omega arith in i)

-- another row in a place leaves as many rows
pub as_long : (rs new : List Row) (i : ℕ) (r : Row) → new ≡ set rs i r → length new ≡ length rs
as_long rs new i r w = ap length w ∙ length-set rs i r

module _ (rs : List Row) (largest capacity : ℕ) (need : ℕ → ℕ) where
  abbrev pub kept : Meaning
  kept = meaning_of rs largest capacity need

  pub kept-units : distinct rs ≡ true → units kept ≡ total need rs
  kept-units d = used-total need rs d

  changed : (new : List Row) (c : ℕ) (ps : Packets) → gathered new ≡ ps → c ≡ capacity → meaning_of new largest c need ≡ with_packets kept ps
  changed new c ps e l = λ i. record { packets = e i; largest = largest; capacity = l i; need = need }

  module _ (n : Name) where
    -- ---- the row of the name changes
    module _ (i : ℕ) (at : Lies rs n i) (new : List Row) (c : ℕ) (l : c ≡ capacity) where
      pub kept_discard : distinct rs ≡ true → new ≡ set rs i blank → meaning_of new largest c need ≡ discard_after kept n
      kept_discard d w =
          changed new c _ (ap gathered w ∙ gathered-drop n _ rs i (holds_from n rs i (sym at.row)) d) l ∙ (call.discard_alive kept n _ at.packet).1

      other : (f : Packet → Packet) → new ≡ set rs i (with_packet f (row_at rs i)) → meaning_of new largest c need ≡ with_packets kept (insert n (f (row_at rs i).packet) (gathered rs))
      other f w = changed new c _ (replace_row n (f (row_at rs i).packet) rs new i (holds_from n rs i (sym at.row)) w) l

      pub kept_hand : (h : ℕ) → new ≡ set rs i (with_packet (with_holder h) (row_at rs i)) → meaning_of new largest c need ≡ hand_after kept n h
      kept_hand h w = other (with_holder h) w ∙ (call.hand_alive kept n _ at.packet h).1

      pub kept_write : (k b : ℕ) → k < length (row_at rs i).packet.bytes → new ≡ set rs i (with_packet (with_byte k b) (row_at rs i)) → meaning_of new largest c need ≡ write_after kept n k b
      kept_write k b h w = other (with_byte k b) w ∙ (call.write_inside kept n _ at.packet k b h).1

    -- ---- make, under a name that is not alive
    module _ (size : ℕ) (gone : found kept n ≡ None) (d : distinct rs ≡ true) (small : size ≤ largest) (room : units kept + need size ≤ capacity) where
      -- a free row takes the packet
      pub kept_make : (i : ℕ) → Some i ≡ place None rs → (new : List Row) (c : ℕ) → c ≡ capacity → new ≡ set rs i (row_of n (new_packet n size))
          → (make_answer kept n size ≡ Ok tt) × (meaning_of new largest c need ≡ make_after kept n size) × (distinct new ≡ true)
      kept_make i e new c l w =
          let a = call.make_granted kept n size (call.make_yes kept n size gone small room) in
          let f = free_from rs i (sym e) in
          let lack = lacks_from n rs (no_place n rs gone) in
          (sym a.0, changed new c _ (ap gathered w ∙ gathered-new n (new_packet n size) rs i f lack) l ∙ a.1, ap distinct w ∙ distinct-new n rs i _ f lack d)

-- ---- make, where each row is a unit of the capacity
module _ (rs : List Row) (largest : ℕ) (need : ℕ → ℕ) (n : Name) (size : ℕ) (gone : found (kept rs largest (length rs) need) n ≡ None) (d : distinct rs ≡ true) (small : size ≤ largest) where
  abbrev full : Meaning
  full = kept rs largest (length rs) need

  -- no row is free for that size
  pub kept_full : Vacant need rs size None → make_no full n size ≡ Some Room
  kept_full v =
      let u : units full ≡ total need rs = kept-units rs largest (length rs) need d in
      let f : length rs < units full + need size = omega arith in
      rw (gone, le-leb size largest small, lt-leb (units full + need size) (length rs) f) refl

  -- a vacant row takes the packet
  pub kept_vacant : (i : ℕ) → Vacant need rs size (Some i) → (new : List Row) → new ≡ set rs i (row_of n (new_packet n size))
      → (make_answer full n size ≡ Ok tt) × (meaning_of new largest (length new) need ≡ make_after full n size) × (distinct new ≡ true)
  kept_vacant i v new w =
      let u : units full ≡ total need rs = kept-units rs largest (length rs) need d in
      kept_make rs largest (length rs) need n size gone d small (omega arith) i v.0 new (length new) (as_long rs new i _ w) w
