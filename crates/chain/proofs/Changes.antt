-- What fill, release, put and hand leave of a chain's lent memory: its rows, and its cells apart.
use Rattle.std.proofs.Common.{◌≡◌, ℕ, ◌+◌, ◌-◌, ◌*◌, ◌/◌, ◌%◌, ◌<◌, ◌≤◌, true, List, length, get_or, take, set, replicate, is_some, Some, None, Option, sym, refl, ap, ◌∙◌, subst, arith, length-set, get_or-take, set-set}
use Rattle.std.proofs.Math.Seq.{take-set-lt}
use lib.Seq.{set-get_or}
use Rattle.std.proofs.lemmas.List.{map-set, take-replicate}
use Rattle.std.proofs.lemmas.List.Sums.{sum_by-set}
use Rattle.store.specs.declared.name.Name.{Name}
use Rattle.chain.specs.declared.cells.Cells.{Cells}
use Rattle.chain.specs.declared.head.Head.{Head}
use Rattle.chain.specs.declared.head.Stored.{Stored}
use Rattle.chain.specs.Cells.{nth_cell, cells, joined, count, within, Wiped}
use Rattle.chain.specs.Chains.{chain_need, chain_bytes, head_row, chain_rows, spot_of, cells_of, counts, need_if, needs_of, Linked}
use Rattle.chain.specs.Heads.{no_head, name_of}
use Rattle.chain.specs.Lents.{rows, Sound}
use Rattle.store.specs.Packets.{packet, new_packet, with_byte, with_holder}
use Rattle.store.specs.Rows.{Row, Vacant, blank, row_at, row_of, with_packet, place, total, position}
use Rattle.store.proofs.Gathered.{free_from, free-within}
use Rattle.store.proofs.Blocks.{others-set}
use Rattle.chain.proofs.Joined.{joined-zeros, joined-put, joined_get}
use Rattle.chain.proofs.Linked.{hit_same, within-most, inside, count-append, cells_add, length-cells, count-nth, cells_splice, counts-apart, rows_apart, rows_same}
use Rattle.chain.proofs.Rows.{need-least, need-enough, length-rows, row_within, free-name, at_row, some_stored, none_stored, bytes-name, place-rows, length-chain, total-needs, needs_full}

module _ (l : Cells) where
  abbrev hs : List Head
  hs = l.heads.now

  abbrev links : List ℕ
  links = l.links.now

  abbrev memory : List ℕ
  memory = l.memory.now

  abbrev free : ℕ
  free = l.free

  abbrev spare : ℕ
  spare = l.spare

  -- ---- places
  pub length-places : length (rows l) ≡ length hs
  length-places = length-rows hs links memory

  pub place-heads : (o : Option Name) → place o (rows l) ≡ position (λ h. name_of h.packet) o hs
  place-heads o = place-rows links memory o hs

  pub alive-stored : (i : ℕ) → is_some (row_at (rows l) i).named ≡ true → (i < length hs) × ((s : Stored) × ((get_or hs i no_head).packet ≡ Some s))
  alive-stored i h =
      let w = row_within (rows l) i h in
      let p = length-places in (
        omega arith,
        some_stored links memory (get_or hs i no_head).packet (sym (ap (λ (r : Row). is_some r.named) (at_row links memory hs i)) ∙ h),
      )

  pub free-head : (i : ℕ) → Some i ≡ place None (rows l) → (i < length hs) × ((get_or hs i no_head).packet ≡ None)
  free-head i e =
      let f = free_from (rows l) i (sym e) in
      let w = free-within (rows l) i f in
      let p = length-places in (
        omega arith,
        none_stored links memory (get_or hs i no_head).packet (sym (ap (λ (r : Row). r.named) (at_row links memory hs i)) ∙ free-name (rows l) i f),
      )

  pub bytes-alive : (i off : ℕ) → off < length (row_at (rows l) i).packet.bytes → is_some (row_at (rows l) i).named ≡ true
  bytes-alive i off = subst (λ (r : Row). off < length r.packet.bytes → is_some r.named ≡ true) (sym (at_row links memory hs i)) (bytes-name links memory (get_or hs i no_head).packet off)

  -- ---- units and spare cells
  pub total-chain : Sound l → total chain_need (rows l) ≡ needs_of hs
  total-chain ok = total-needs links memory (length hs) ok.bytes hs (λ c. let o = ok.once c in omega arith)

  -- the packet of a size takes no more cells than are spare
  pub spare-enough : Sound l → (size i : ℕ) → Vacant chain_need (rows l) size (Some i) → chain_need size ≤ spare
  spare-enough ok size i v = let u = total-chain ok in let p = length-places in let x = ok.units in let w = v.1 in omega arith

  pub cells_short : Sound l → (size : ℕ) → spare < chain_need size → Vacant chain_need (rows l) size None
  cells_short ok size h = let u = total-chain ok in let p = length-places in let x = ok.units in omega arith

  pub vacancy : Sound l → (size : ℕ) → chain_need size ≤ spare → (o : Option ℕ) → o ≡ place None (rows l) → Vacant chain_need (rows l) size o
  vacancy ok size h None f =
      let u = total-chain ok in
      let p = length-places in
      let n = needs_full hs (sym (place-heads None) ∙ sym f) in omega arith
  vacancy ok size h (Some i) f = (f, let u = total-chain ok in let p = length-places in let x = ok.units in omega arith)

  -- the first k spare cells lie in memory
  pub spare-inside : Sound l → (k : ℕ) → k ≤ spare → (c : ℕ) → 1 ≤ count c (cells links free k) → 32 * c + 32 ≤ length memory
  spare-inside ok k le c h =
      let p = ap (count c) (cells_add links free k (spare - k) spare (omega arith)) ∙ count-append c (cells links free k) (cells links (nth_cell links free k) (spare - k)) in
      let o = ok.once c in
      let b = ok.bytes in
      let lt = inside c (length hs) (count c (cells links free spare) + counts c hs links) (omega arith) o in
      omega arith

  module _ (ok : Sound l) (i : ℕ) (lt : i < length l.heads.now) where
    abbrev kept : Option Stored
    kept = (get_or hs i no_head).packet

    -- ---- another record at a place
    counts-at : (c : ℕ) (x : Head) → counts c (set hs i x) links + count c (cells_of links kept) ≡ counts c hs links + count c (cells_of links x.packet)
    counts-at c x = sum_by-set (λ (h : Head). count c (cells_of links h.packet)) hs i x no_head lt

    needs-at : (x : Head) → needs_of (set hs i x) + need_if kept ≡ needs_of hs + need_if x.packet
    needs-at x = sum_by-set (λ (h : Head). need_if h.packet) hs i x no_head lt

    rows-at : (ls m : List ℕ) (x : Head) → chain_rows (set hs i x) ls m ≡ set (chain_rows hs ls m) i (head_row ls m x.packet)
    rows-at ls m x = map-set (λ (h : Head). head_row ls m h.packet) hs i x

    -- ---- fill: the first k spare cells go to a place without a packet
    module _ (free_at : kept ≡ None) (k size : ℕ) (is : k ≡ chain_need size) (le : k ≤ spare) (n : Name) (behind : ℕ) (to : behind ≡ nth_cell links free k) (changed : List ℕ) (w : Wiped links free k memory changed) where
      abbrev new : Head
      new = record { packet = Some (record { name = n; holder = n.maker; size = size; first = free }) }

      parted : (c : ℕ) → count c (cells links free spare) ≡ count c (cells links free k) + count c (cells links (nth_cell links free k) (spare - k))
      parted c = ap (count c) (cells_add links free k (spare - k) spare (omega arith)) ∙ count-append c (cells links free k) (cells links (nth_cell links free k) (spare - k))

      pub fill_linked : Linked (set hs i new) links changed behind (spare - k)
      fill_linked =
          let l = length-set hs i new in
          let v = w.long in
          let b = ok.bytes in
          let j = ok.joins in
          let u = ok.units in
          let m = needs-at new in
          let z : need_if kept ≡ 0 = ap need_if free_at in
          record {
            bytes = omega arith;
            joins = omega arith;
            units = omega arith;
            once = λ c.
                let p = parted c in
                let o = ok.once c in
                let s = counts-at c new in
                let y : count c (cells_of links kept) ≡ 0 = ap (λ (x : Option Stored). count c (cells_of links x)) free_at in
                let t : count c (cells links free (chain_need size)) ≡ count c (cells links free k) = ap (λ (x : ℕ). count c (cells links free x)) (sym is) in
                let f : count c (cells links behind (spare - k)) ≡ count c (cells links (nth_cell links free k) (spare - k)) = ap (λ (x : ℕ). count c (cells links x (spare - k))) to in
                let h : within c (length (set hs i new)) ≡ within c (length hs) = ap (within c) l in
                omega arith;
          }

      pub fill_rows : chain_rows (set hs i new) links changed ≡ set (rows l) i (row_of n (new_packet n size))
      fill_rows =
          let others = rows_same hs links memory changed (λ c h. w.others c (let p = parted c in let o = ok.once c in let m = within-most c (length hs) in omega arith)) in
          let z = joined-zeros changed (cells links free k) w.zeros in
          let l : 32 * length (cells links free k) ≡ 32 * k = ap (λ (x : ℕ). 32 * x) (length-cells links free k) in
          let q = need-enough size in
          let v : chain_bytes links changed free size ≡ replicate size 0 =
          ap (λ (x : ℕ). take size (joined changed (cells links free x))) (sym is) ∙ ap (take size) (z ∙ ap (λ (x : ℕ). replicate x 0) l) ∙ take-replicate size (32 * k) 0 (omega arith) in
          rows-at links changed new
          ∙ (λ t. set (others t) i (row_of n (packet n.maker (v t))))

    -- ---- a place with a packet
    module _ (s : Stored) (at : kept ≡ Some s) where
      abbrev own : List ℕ
      own = cells links s.first (chain_need s.size)

      count-own : (c : ℕ) → count c (cells_of links kept) ≡ count c own
      count-own c = ap (λ (o : Option Stored). count c (cells_of links o)) at

      -- a cell of the packet is no cell of another one, and not spare
      alone : (c : ℕ) → 1 ≤ count c own → (counts c (set hs i no_head) links ≡ 0) × (count c (cells links free spare) ≡ 0)
      alone c h =
          let o = ok.once c in
          let m = within-most c (length hs) in
          let z = counts-at c no_head in
          let y = count-own c in
          (omega arith, omega arith)

      own-within : (c : ℕ) → count c own ≤ within c (length hs)
      own-within c =
          let o = ok.once c in
          let z = counts-at c no_head in
          let y = count-own c in
          omega arith

      own-inside : (q : ℕ) → q < chain_need s.size → nth_cell links s.first q < length hs
      own-inside q h =
          let g = count-nth links s.first q (chain_need s.size) h in inside _ (length hs) (count (nth_cell links s.first q) own) g (own-within (nth_cell links s.first q))

      row_is : (m : List ℕ) → head_row links m kept ≡ row_of s.name (packet s.holder (chain_bytes links m s.first s.size))
      row_is m = ap (head_row links m) at

      pub row_size : s.size ≡ length (row_at (rows l) i).packet.bytes
      row_size =
          sym (ap (λ (r : Row). length r.packet.bytes) (at_row links memory hs i ∙ row_is memory) ∙ length-chain links memory (length hs) ok.bytes s.first s.size own-within)

      -- ---- hand
      module _ (holder : ℕ) where
        abbrev handed : Head
        handed = record { packet = Some (record { name = s.name; holder = holder; size = s.size; first = s.first }) }

        pub hand_linked : Linked (set hs i handed) links memory free spare
        hand_linked =
            let l = length-set hs i handed in
            let b = ok.bytes in
            let j = ok.joins in
            let u = ok.units in
            let m = needs-at handed in
            let z : need_if kept ≡ chain_need s.size = ap need_if at in
            record {
              bytes = omega arith;
              joins = omega arith;
              units = omega arith;
              once = λ c.
                  let o = ok.once c in
                  let t = counts-at c handed in
                  let y = count-own c in
                  let w : within c (length (set hs i handed)) ≡ within c (length hs) = ap (within c) l in
                  omega arith;
            }

        pub hand_rows : chain_rows (set hs i handed) links memory ≡ set (rows l) i (with_packet (with_holder holder) (row_at (rows l) i))
        hand_rows = rows-at links memory handed ∙ ap (λ (r : Row). set (rows l) i (with_packet (with_holder holder) r)) (sym (at_row links memory hs i ∙ row_is memory))

      -- ---- release: the cells of the packet go before the spare ones, by the link of the last
      module _ (k : ℕ) (is : k ≡ chain_need s.size) (last : ℕ) (to : last ≡ nth_cell links s.first (k - 1)) where
        least : 1 ≤ k
        least = let g = need-least s.size in omega arith

        last_own : nth_cell links s.first (k - 1) < length hs
        last_own = let g = least in own-inside (k - 1) (omega arith)

        pub last-inside : (last < length links) × (spare + k ≤ length hs)
        last-inside =
            let a = last_own in
            let j = ok.joins in
            let u = ok.units in
            let m = needs-at no_head in
            let z : need_if kept ≡ chain_need s.size = ap need_if at in
            (omega arith, omega arith)

        front : count (nth_cell links s.first (k - 1)) (cells links s.first (k - 1)) ≡ 0
        front =
            let p = nth_cell links s.first (k - 1) in
            let g = least in
            let w = own-within p in
            let m = within-most p (length hs) in
            let d = ap (count p) (cells_add links s.first (k - 1) 1 (chain_need s.size) (omega arith)) ∙ count-append p (cells links s.first (k - 1)) (cells links (nth_cell links s.first (k - 1)) 1) in
            let h = hit_same p p refl in
            omega arith

        apart : (counts (nth_cell links s.first (k - 1)) (set hs i no_head) links ≡ 0) × (count (nth_cell links s.first (k - 1)) (cells links free spare) ≡ 0)
        apart = let g = least in alone (nth_cell links s.first (k - 1)) (count-nth links s.first (k - 1) (chain_need s.size) (omega arith))

        linked : Linked (set hs i no_head) (set links (nth_cell links s.first (k - 1)) free) memory s.first (spare + k)
        linked =
            let p = nth_cell links s.first (k - 1) in
            let g = least in
            let l = length-set hs i no_head in
            let b = ok.bytes in
            let j = ok.joins in
            let u = ok.units in
            let m = needs-at no_head in
            let z : need_if kept ≡ chain_need s.size = ap need_if at in
            let f = apart in
            let f0 = f.0 in
            let j' = length-set links p free in
            let pl : p < length links = (let a = last_own in omega arith) in
            let sp = cells_splice links s.first (k - 1) free spare (spare + k) (omega arith) pl front f.1 in
            let sk : k - 1 + 1 ≡ chain_need s.size = omega arith in
            record {
              bytes = omega arith;
              joins = omega arith;
              units = omega arith;
              once = λ c.
                  let o = ok.once c in
                  let h = counts-at c no_head in
                  let y = count-own c in
                  let t = counts-apart c (set hs i no_head) links p free f0 in
                  let q = ap (count c) sp ∙ count-append c (cells links s.first (k - 1 + 1)) (cells links free spare) in
                  let r : count c (cells links s.first (k - 1 + 1)) ≡ count c own = ap (λ (x : ℕ). count c (cells links s.first x)) sk in
                  let w : within c (length (set hs i no_head)) ≡ within c (length hs) = ap (within c) l in
                  omega arith;
            }

        pub release_linked : Linked (set hs i no_head) (set links last free) memory s.first (spare + k)
        release_linked = subst (λ (x : ℕ). Linked (set hs i no_head) (set links x free) memory s.first (spare + k)) (sym to) linked

        pub release_rows : chain_rows (set hs i no_head) (set links last free) memory ≡ set (rows l) i blank
        release_rows =
            ap (λ (x : ℕ). chain_rows (set hs i no_head) (set links x free) memory) to
            ∙ rows_apart (set hs i no_head) links memory (nth_cell links s.first (k - 1)) free apart.0
            ∙ rows-at links memory no_head

      -- ---- put and byte: an offset of the packet
      module _ (off : ℕ) (inside_at : off < length (row_at (rows l) i).packet.bytes) where
        reach : off < s.size
        reach = let r = row_size in omega arith

        near : off / 32 < chain_need s.size
        near = let r = reach in omega arith

        abbrev spot : ℕ
        spot = 32 * nth_cell links s.first (off / 32) + off % 32

        pub spot_is : spot_of links kept off ≡ spot
        spot_is = ap (λ (o : Option Stored). spot_of links o off) at

        pub spot_inside : spot < length memory
        spot_inside = let g = own-inside (off / 32) near in let b = ok.bytes in omega arith

        parts : 32 * (off / 32) + off % 32 ≡ off
        parts = omega arith

        low : off % 32 < 32
        low = omega arith

        module _ (b : ℕ) where
          bytes-put : chain_bytes links (set memory spot b) s.first s.size ≡ set (chain_bytes links memory s.first s.size) off b
          bytes-put =
              ap (take s.size) (joined-put memory (length hs) ok.bytes links s.first (chain_need s.size) (off / 32) (off % 32) b own-within near low ∙ ap (λ (x : ℕ). set (joined memory own) x b) parts)
              ∙ take-set-lt s.size (joined memory own) off b reach

          pub put_linked : Linked hs links (set memory (spot_of links kept off) b) free spare
          put_linked = record { bytes = length-set memory (spot_of links kept off) b ∙ ok.bytes; joins = ok.joins; units = ok.units; once = ok.once }

          pub put-rows : chain_rows hs links (set memory (spot_of links kept off) b) ≡ set (rows l) i (with_packet (with_byte off b) (row_at (rows l) i))
          put-rows =
              let p = nth_cell links s.first (off / 32) in
              let f = (alone p (count-nth links s.first (off / 32) (chain_need s.size) near)).0 in
              let others = rows_same (set hs i no_head) links memory (set memory spot b)
              (λ c h. others-set 32 p (off % 32) b memory low c (λ w. let u : counts c (set hs i no_head) links ≡ 0 = ap (λ (y : ℕ). counts y (set hs i no_head) links) w ∙ f in omega arith)) in
              let back : set (set hs i no_head) i (get_or hs i no_head) ≡ hs = set-set hs i no_head (get_or hs i no_head) ∙ set-get_or hs i no_head in
              let r : head_row links (set memory spot b) kept ≡ with_packet (with_byte off b) (row_at (rows l) i) =
              row_is (set memory spot b)
              ∙ ap (λ (bs : List ℕ). row_of s.name (packet s.holder bs)) bytes-put
              ∙ ap (with_packet (with_byte off b)) (sym (at_row links memory hs i ∙ row_is memory)) in
              ap (λ (x : ℕ). chain_rows hs links (set memory x b)) spot_is
              ∙ ap (λ (l : List Head). chain_rows l links (set memory spot b)) (sym back)
              ∙ map-set (λ (h : Head). head_row links (set memory spot b) h.packet) (set hs i no_head) i (get_or hs i no_head)
              ∙ ap (λ (l : List Row). set l i (head_row links (set memory spot b) kept)) (others ∙ rows-at links memory no_head)
              ∙ set-set (rows l) i blank _
              ∙ ap (set (rows l) i) r

        pub get_byte : get_or memory (spot_of links kept off) 0 ≡ get_or (row_at (rows l) i).packet.bytes off 0
        get_byte =
            ap (λ (x : ℕ). get_or memory x 0) spot_is
            ∙ sym (ap (λ (r : Row). get_or r.packet.bytes off 0) (at_row links memory hs i ∙ row_is memory)
            ∙ get_or-take s.size (joined memory own) off 0 reach
            ∙ ap (λ (x : ℕ). get_or (joined memory own) x 0) (sym parts)
            ∙ joined_get memory (length hs) ok.bytes links s.first (chain_need s.size) (off / 32) (off % 32) own-within near low)
