-- The rows of a table of heads, and the needs of its packets.
use Rattle.std.proofs.Common.{◌≡◌, ℕ, zero, suc, ◌+◌, ◌*◌, ◌<◌, ◌≤◌, true, cond, ◌⊎◌, List, [], ◌∷◌, length, get_or, replicate, is_some, Some, None, Option, refl, ap, inl, inr, arith, length-take}
use Rattle.std.proofs.Math.ListN.{get_or-map}
use Rattle.std.proofs.lemmas.List.{length-map, length-replicate}
use Rattle.std.proofs.lemmas.List.Folds.{sum_by-replicate}
use Rattle.std.proofs.lemmas.Bool.{cases_eq}
use Rattle.store.specs.declared.name.Name.{Name}
use Rattle.chain.specs.declared.head.Head.{Head}
use Rattle.chain.specs.declared.head.Stored.{Stored}
use Rattle.chain.specs.Cells.{step, cells, joined, hit, count, within}
use Rattle.chain.specs.Chains.{chain_need, chain_bytes, head_row, chain_rows, cells_of, counts, need_if, needs_of, Linked}
use Rattle.chain.specs.Heads.{no_head, name_of}
use Rattle.store.specs.Packets.{empty}
use Rattle.store.specs.Rows.{Row, row_at, place, need_in, total, gathered, distinct, position, alike, next}
use Rattle.store.proofs.Gathered.{Free, none_next}
use Rattle.chain.proofs.Joined.{length-joined}
use Rattle.chain.proofs.Linked.{hit_same, hit_other, within-below, length-cells, counts-cons, needs-cons}

pub need-least : (size : ℕ) → 1 ≤ chain_need size
need-least size = omega arith

pub need-enough : (size : ℕ) → size ≤ 32 * chain_need size
need-enough size = omega arith

-- ---- rows by their places
pub length-rows : (hs : List Head) (links memory : List ℕ) → length (chain_rows hs links memory) ≡ length hs
length-rows hs links memory = length-map hs (λ (h : Head). head_row links memory h.packet)

pub row_within : (rs : List Row) (i : ℕ) → is_some (row_at rs i).named ≡ true → i < length rs
row_within [] i h = cc
row_within (r ∷ rs) zero h = omega arith
row_within (r ∷ rs) (suc i) h = let w = row_within rs i h in omega arith

pub free-name : (rs : List Row) (i : ℕ) → Free rs i → (row_at rs i).named ≡ None
free-name [] i f = refl
free-name (r ∷ rs) zero f = f
free-name (r ∷ rs) (suc i) f = free-name rs i f

module _ (links memory : List ℕ) where
  abbrev row : Head → Row
  row h = head_row links memory h.packet

  pub at_row : (hs : List Head) (i : ℕ) → row_at (chain_rows hs links memory) i ≡ head_row links memory (get_or hs i no_head).packet
  at_row hs i = get_or-map row hs i no_head

  named-row : (o : Option Stored) → (head_row links memory o).named ≡ name_of o
  named-row None = refl
  named-row (Some s) = refl

  -- a place with a packet keeps something, and one without a packet nothing
  pub some_stored : (o : Option Stored) → is_some (head_row links memory o).named ≡ true → (s : Stored) × (o ≡ Some s)
  some_stored None h = cc
  some_stored (Some s) h = (s, refl)

  pub none_stored : (o : Option Stored) → (head_row links memory o).named ≡ None → o ≡ None
  none_stored None h = refl
  none_stored (Some s) h = cc

  -- what has bytes is alive
  pub bytes-name : (o : Option Stored) (off : ℕ) → off < length (head_row links memory o).packet.bytes → is_some (head_row links memory o).named ≡ true
  bytes-name None off lt = absurd (omega arith)
  bytes-name (Some s) off lt = refl

  pub place-rows : (o : Option Name) (hs : List Head) → place o (chain_rows hs links memory) ≡ position (λ h. name_of h.packet) o hs
  place-rows o [] = refl
  place-rows o (h ∷ hs) =
      let r = place-rows o hs in
      let e = named-row h.packet in
      λ t. cond (alike (e t) o) (Some 0) (next (r t))

  -- ---- sizes and needs
  module _ (n : ℕ) (shape : length memory ≡ 32 * n) where
    pub length-chain : (first size : ℕ) → ((c : ℕ) → count c (cells links first (chain_need size)) ≤ within c n) → length (chain_bytes links memory first size) ≡ size
    length-chain first size w =
        let j = length-joined memory n shape (cells links first (chain_need size)) w in
        let l = length-cells links first (chain_need size) in
        let q = need-enough size in
        let t = length-take size (joined memory (cells links first (chain_need size))) in
        omega arith

    need-row : (o : Option Stored) → ((c : ℕ) → count c (cells_of links o) ≤ within c n) → need_in chain_need (head_row links memory o) (head_row links memory o).named ≡ need_if o
    need-row None w = refl
    need-row (Some s) w = ap chain_need (length-chain s.first s.size w)

    pub total-needs : (hs : List Head) → ((c : ℕ) → counts c hs links ≤ within c n) → total chain_need (chain_rows hs links memory) ≡ needs_of hs
    total-needs [] w = refl
    total-needs (h ∷ hs) w =
        let a = need-row h.packet (λ c. let v = w c in let z = counts-cons c h hs links in omega arith) in
        let r = total-needs hs (λ c. let v = w c in let z = counts-cons c h hs links in omega arith) in
        let z = needs-cons h hs in
        omega arith

-- where no head is free, every unit is in use
pub needs_full : (hs : List Head) → position (λ h. name_of h.packet) None hs ≡ None → length hs ≤ needs_of hs
needs_full [] e = omega arith
needs_full (h ∷ hs) e = go h.packet e (λ z. needs_full hs z) (needs-cons h hs)
  where
    go : (o : Option Stored) → cond (alike (name_of o) None) (Some 0) (next (position (λ h. name_of h.packet) None hs)) ≡ None
        → (position (λ h. name_of h.packet) None hs ≡ None → length hs ≤ needs_of hs) → needs_of (h ∷ hs) ≡ need_if o + needs_of hs → suc (length hs) ≤ needs_of (h ∷ hs)
    go None e rest z = cc
    go (Some s) e rest z = let r = rest (none_next _ e) in let g = need-least s.size in omega arith

-- ---- the start
module _ (links : List ℕ) (n : ℕ) (up : (k : ℕ) → k < n → get_or links k 0 ≡ k + 1) where
  pub start-counts : (m a c : ℕ) → a + m ≡ n → (c < a → count c (cells links a m) ≡ 0) × (count c (cells links a m) ≤ within c n)
  start-counts zero a c e = ((λ h. refl), omega arith)
  start-counts (suc m) a c e =
      let u : step links a ≡ a + 1 = up a (omega arith) in
      let r = start-counts m (a + 1) c (omega arith) in
      let z : count c (cells links (step links a) m) ≡ count c (cells links (a + 1) m) = ap (λ (x : ℕ). count c (cells links x m)) u in
      let r0 = r.0 in
      let r1 = r.1 in
      ((λ h. let s = hit_other c a (λ w. omega arith) in let t = r0 (omega arith) in omega arith), go (cases_eq c a) z r0 r1)
    where
      go : (c ≡ a) ⊎ (c ≡ a → ⊥) → count c (cells links (step links a) m) ≡ count c (cells links (a + 1) m) → (c < a + 1 → count c (cells links (a + 1) m) ≡ 0)
          → count c (cells links (a + 1) m) ≤ within c n → hit c a + count c (cells links (step links a) m) ≤ within c n
      go (inl w) z r0 r1 = let s = hit_same c a w in let t = r0 (omega arith) in let b = within-below c n (omega arith) in omega arith
      go (inr w) z r0 r1 = let s = hit_other c a w in omega arith

-- heads without packets
pub start-rows : (links memory : List ℕ) (n : ℕ) → (gathered (chain_rows (replicate n no_head) links memory) ≡ empty) × (distinct (chain_rows (replicate n no_head) links memory) ≡ true)
start-rows links memory zero = (refl, refl)
start-rows links memory (suc n) = start-rows links memory n

pub start-linked : (links memory : List ℕ) (n : ℕ) → length memory ≡ 32 * n → length links ≡ n → ((k : ℕ) → k < n → get_or links k 0 ≡ k + 1) → Linked (replicate n no_head) links memory 0 n
start-linked links memory n b j up =
    let l = length-replicate n no_head in record {
      bytes = omega arith;
      joins = omega arith;
      units = (let r = sum_by-replicate (λ (h : Head). need_if h.packet) n no_head in omega arith);
      once = λ c.
          let r = sum_by-replicate (λ (h : Head). count c (cells_of links h.packet)) n no_head in
          let s = (start-counts links n up n 0 c (omega arith)).1 in
          let w : within c (length (replicate n no_head)) ≡ within c n = ap (within c) l in
          omega arith;
    }
