-- A chain's heads, links and memory, as rows, and what keeps its cells apart.
use Rattle.std.specs.Prelude.{◌≡◌, ℕ, ◌+◌, ◌*◌, ◌/◌, ◌%◌, ◌≤◌, max, List, [], length, map, take, sum_by, Some, None, Option}
use Rattle.chain.specs.declared.head.Head.{Head}
use Rattle.chain.specs.declared.head.Stored.{Stored}
use Rattle.chain.specs.Cells.{nth_cell, cells, joined, count, within}
use Rattle.store.specs.Packets.{packet}
use Rattle.store.specs.Rows.{Row, blank, row_of}

-- cells for a size: a cell has 32 bytes, and each packet at least one cell
abbrev pub chain_need : ℕ → ℕ
chain_need size = max 1 ((size + 31) / 32)

-- the bytes of a packet: the front of its joined cells
abbrev pub chain_bytes : List ℕ → List ℕ → ℕ → ℕ → List ℕ
chain_bytes links memory first size = take size (joined memory (cells links first (chain_need size)))

abbrev pub head_row : List ℕ → List ℕ → Option Stored → Row
head_row links memory None = blank
head_row links memory (Some s) = row_of s.name (packet s.holder (chain_bytes links memory s.first s.size))

abbrev pub chain_rows : List Head → List ℕ → List ℕ → List Row
chain_rows hs links memory = map (λ h. head_row links memory h.packet) hs

-- the place in memory of an offset of a head's packet
abbrev pub spot_of : List ℕ → Option Stored → ℕ → ℕ
spot_of links None offset = 0
spot_of links (Some s) offset = 32 * nth_cell links s.first (offset / 32) + offset % 32

-- the cells of one head, and how often c stands in the cells of all heads
abbrev pub cells_of : List ℕ → Option Stored → List ℕ
cells_of links None = []
cells_of links (Some s) = cells links s.first (chain_need s.size)

abbrev pub counts : ℕ → List Head → List ℕ → ℕ
counts c hs links = sum_by (λ h. count c (cells_of links h.packet)) hs

-- the sum of the needs of all heads
abbrev pub need_if : Option Stored → ℕ
need_if None = 0
need_if (Some s) = chain_need s.size

abbrev pub needs_of : List Head → ℕ
needs_of hs = sum_by (λ h. need_if h.packet) hs

-- No cell stands twice among the spare cells and those of all heads, all lie inside, and all units are accounted for.
pub record Linked (hs : List Head) (links memory : List ℕ) (free spare : ℕ) : Type 0 where
  pub bytes : length memory ≡ 32 * length hs
  pub joins : length links ≡ length hs
  pub units : spare + needs_of hs ≡ length hs
  pub once : (c : ℕ) → count c (cells links free spare) + counts c hs links ≤ within c (length hs)
