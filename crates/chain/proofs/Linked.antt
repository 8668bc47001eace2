-- Chains of cells: what a change of one link, of some bytes or of one head leaves of the others.
use Rattle.std.proofs.Common.{◌≡◌, ℕ, zero, suc, ◌+◌, ◌<◌, ◌≤◌, ◌≢◌, ◌⊎◌, List, [], ◌∷◌, ◌++◌, length, take, set, Some, None, Option, sym, refl, ap, ◌∙◌, inl, inr, arith, get_or-set_other, get_or-set_same}
use Rattle.std.proofs.lemmas.Bool.{cases_lt, eq-eqb, ne_eqb, lt-ltb, le-ltb}
use Rattle.std.proofs.lemmas.List.Sums.{sum_by-cons}
use Rattle.chain.specs.declared.head.Head.{Head}
use Rattle.chain.specs.declared.head.Stored.{Stored}
use Rattle.chain.specs.Cells.{step, nth_cell, cells, cell_bytes, joined, hit, count, within}
use Rattle.chain.specs.Chains.{chain_need, head_row, chain_rows, cells_of, counts, need_if, needs_of}
use Rattle.store.specs.Packets.{packet}
use Rattle.store.specs.Rows.{row_of}

-- ---- counting
pub hit_same : (c d : ℕ) → c ≡ d → hit c d ≡ 1
hit_same c d e = rw (eq-eqb c d e)

pub hit_other : (c d : ℕ) → (c ≡ d → ⊥) → hit c d ≡ 0
hit_other c d n = rw (ne_eqb c d n)

pub hit_none : (c d : ℕ) → hit c d ≡ 0 → d ≢ c
hit_none c d h e = let s = hit_same c d (sym e) in omega arith

pub within_past : (c n : ℕ) → n ≤ c → within c n ≡ 0
within_past c n h = rw (le-ltb c n h)

pub within-below : (c n : ℕ) → c < n → within c n ≡ 1
within-below c n h = rw (lt-ltb c n h)

pub within-most : (c n : ℕ) → within c n ≤ 1
within-most c n = go (cases_lt c n)
  where
    go : (c < n) ⊎ (n ≤ c) → within c n ≤ 1
    go (inl h) = let s = within-below c n h in omega arith
    go (inr h) = let s = within_past c n h in omega arith

-- what is counted inside lies inside
pub inside : (c n k : ℕ) → 1 ≤ k → k ≤ within c n → c < n
inside c n k h w = go (cases_lt c n)
  where
    go : (c < n) ⊎ (n ≤ c) → c < n
    go (inl lt) = lt
    go (inr ge) = let s = within_past c n ge in omega arith

pub count-append : (c : ℕ) (xs ys : List ℕ) → count c (xs ++ ys) ≡ count c xs + count c ys
count-append c [] ys = omega arith
count-append c (x ∷ xs) ys = let r = count-append c xs ys in omega arith

-- ---- walks
pub nth_back : (links : List ℕ) (c k : ℕ) → nth_cell links c (suc k) ≡ step links (nth_cell links c k)
nth_back links c zero = refl
nth_back links c (suc k) = nth_back links (step links c) k

pub cells_add : (links : List ℕ) (c j k n : ℕ) → n ≡ j + k → cells links c n ≡ cells links c j ++ cells links (nth_cell links c j) k
cells_add links c zero k n e = let w : n ≡ k = omega arith in ap (cells links c) w
cells_add links c (suc j) k zero e = absurd (omega arith)
cells_add links c (suc j) k (suc n) e = ap (λ (l : List ℕ). c ∷ l) (cells_add links (step links c) j k n (omega arith))

pub length-cells : (links : List ℕ) (c k : ℕ) → length (cells links c k) ≡ k
length-cells links c zero = refl
length-cells links c (suc k) = ap suc (length-cells links (step links c) k)

pub count-nth : (links : List ℕ) (c q k : ℕ) → q < k → 1 ≤ count (nth_cell links c q) (cells links c k)
count-nth links c q zero h = omega arith
count-nth links c zero (suc k) h = let s = hit_same c c refl in omega arith
count-nth links c (suc q) (suc k) h = let r = count-nth links (step links c) q k (omega arith) in omega arith

-- a link changes, at a cell that is not on the way
step-apart : (links : List ℕ) (p v c : ℕ) → hit p c ≡ 0 → step (set links p v) c ≡ step links c
step-apart links p v c h = get_or-set_other links p c v 0 (hit_none p c h)

pub cells-apart : (links : List ℕ) (p v c k : ℕ) → count p (cells links c k) ≡ 0 → cells (set links p v) c k ≡ cells links c k
cells-apart links p v c zero h = refl
cells-apart links p v c (suc k) h =
    let e = step-apart links p v c (omega arith) in
    ap (λ (l : List ℕ). c ∷ l) (ap (λ (d : ℕ). cells (set links p v) d k) e ∙ cells-apart links p v (step links c) k (omega arith))

pub nth-apart : (links : List ℕ) (p v c k : ℕ) → count p (cells links c k) ≡ 0 → nth_cell (set links p v) c k ≡ nth_cell links c k
nth-apart links p v c zero h = refl
nth-apart links p v c (suc k) h =
    let e = step-apart links p v c (omega arith) in
    ap (λ (d : ℕ). nth_cell (set links p v) d k) e ∙ nth-apart links p v (step links c) k (omega arith)

-- A chain of k + 1 cells, its last one last, is put before the m cells from f on by one link.
pub cells_splice : (links : List ℕ) (a k f m n : ℕ) → n ≡ k + 1 + m → nth_cell links a k < length links
    → count (nth_cell links a k) (cells links a k) ≡ 0 → count (nth_cell links a k) (cells links f m) ≡ 0
    → cells (set links (nth_cell links a k) f) a n ≡ cells links a (k + 1) ++ cells links f m
cells_splice links a k f m n e lt h g =
    let p = nth_cell links a k in
    let new = set links p f in
    let u : nth_cell new a k ≡ p = nth-apart links p f a k h in
    let s : nth_cell new a (k + 1) ≡ f = (let w : k + 1 ≡ suc k = omega arith in ap (nth_cell new a) w ∙ nth_back new a k ∙ ap (step new) u ∙ get_or-set_same links p f 0 lt) in
    let v : cells new a (k + 1) ≡ cells links a (k + 1) =
    cells_add new a k 1 (k + 1) refl
    ∙ ap (λ (l : List ℕ). l ++ cells new (nth_cell new a k) 1) (cells-apart links p f a k h)
    ∙ ap (λ (d : ℕ). cells links a k ++ (d ∷ [])) u
    ∙ sym (cells_add links a k 1 (k + 1) refl) in
    cells_add new a (k + 1) m n e
    ∙ ap (λ (l : List ℕ). l ++ cells new (nth_cell new a (k + 1)) m) v
    ∙ ap (λ (d : ℕ). cells links a (k + 1) ++ cells new d m) s
    ∙ ap (λ (l : List ℕ). cells links a (k + 1) ++ l) (cells-apart links p f f m g)

-- ---- heads
pub counts-cons : (c : ℕ) (h : Head) (hs : List Head) (links : List ℕ) → counts c (h ∷ hs) links ≡ count c (cells_of links h.packet) + counts c hs links
counts-cons c h hs links = sum_by-cons (λ (x : Head). count c (cells_of links x.packet)) h hs

pub needs-cons : (h : Head) (hs : List Head) → needs_of (h ∷ hs) ≡ need_if h.packet + needs_of hs
needs-cons h hs = sum_by-cons (λ (x : Head). need_if x.packet) h hs

-- a link changes, at a cell of no head
of_apart : (o : Option Stored) (links : List ℕ) (p v : ℕ) → count p (cells_of links o) ≡ 0 → cells_of (set links p v) o ≡ cells_of links o
of_apart None links p v e = refl
of_apart (Some s) links p v e = cells-apart links p v s.first (chain_need s.size) e

pub counts-apart : (c : ℕ) (hs : List Head) (links : List ℕ) (p v : ℕ) → counts p hs links ≡ 0 → counts c hs (set links p v) ≡ counts c hs links
counts-apart c [] links p v e = refl
counts-apart c (h ∷ hs) links p v e =
    let z = counts-cons p h hs links in
    let a = counts-cons c h hs links in
    let b = counts-cons c h hs (set links p v) in
    let f = ap (count c) (of_apart h.packet links p v (omega arith)) in
    let r = counts-apart c hs links p v (omega arith) in omega arith

row_apart : (o : Option Stored) (links memory : List ℕ) (p v : ℕ) → count p (cells_of links o) ≡ 0 → head_row (set links p v) memory o ≡ head_row links memory o
row_apart None links memory p v e = refl
row_apart (Some s) links memory p v e =
    ap (λ (cs : List ℕ). row_of s.name (packet s.holder (take s.size (joined memory cs)))) (cells-apart links p v s.first (chain_need s.size) e)

pub rows_apart : (hs : List Head) (links memory : List ℕ) (p v : ℕ) → counts p hs links ≡ 0 → chain_rows hs (set links p v) memory ≡ chain_rows hs links memory
rows_apart [] links memory p v e = refl
rows_apart (h ∷ hs) links memory p v e =
    let z = counts-cons p h hs links in
    let a = row_apart h.packet links memory p v (omega arith) in
    let r = rows_apart hs links memory p v (omega arith) in
    λ i. a i ∷ r i

-- bytes change, in cells of no head
pub joined_same : (memory changed : List ℕ) (cs : List ℕ) → ((c : ℕ) → 1 ≤ count c cs → cell_bytes c changed ≡ cell_bytes c memory) → joined changed cs ≡ joined memory cs
joined_same memory changed [] same = refl
joined_same memory changed (c ∷ cs) same =
    let a = same c (let s = hit_same c c refl in omega arith) in
    let r = joined_same memory changed cs (λ d h. same d (omega arith)) in
    λ i. a i ++ r i

row_same : (o : Option Stored) (links memory changed : List ℕ) → ((c : ℕ) → 1 ≤ count c (cells_of links o) → cell_bytes c changed ≡ cell_bytes c memory)
    → head_row links changed o ≡ head_row links memory o
row_same None links memory changed same = refl
row_same (Some s) links memory changed same =
    ap (λ (bs : List ℕ). row_of s.name (packet s.holder (take s.size bs))) (joined_same memory changed (cells links s.first (chain_need s.size)) same)

pub rows_same : (hs : List Head) (links memory changed : List ℕ) → ((c : ℕ) → 1 ≤ counts c hs links → cell_bytes c changed ≡ cell_bytes c memory)
    → chain_rows hs links changed ≡ chain_rows hs links memory
rows_same [] links memory changed same = refl
rows_same (h ∷ hs) links memory changed same =
    let a = row_same h.packet links memory changed (λ c k. same c (let z = counts-cons c h hs links in omega arith)) in
    let r = rows_same hs links memory changed (λ c k. same c (let z = counts-cons c h hs links in omega arith)) in
    λ i. a i ∷ r i
