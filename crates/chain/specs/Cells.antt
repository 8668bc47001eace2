-- Cells of 32 bytes joined by numbers: cell c is followed by the cell that link c names.
use Rattle.std.specs.Prelude.{◌≡◌, ℕ, zero, suc, ◌+◌, ◌≤◌, cond, List, [], ◌∷◌, ◌++◌, ◌==◌, length, replicate, nat_lt, slice_index}
use Rattle.store.specs.Blocks.{block}

abbrev pub step : List ℕ → ℕ → ℕ
step links c = slice_index links c

-- the cell that lies so many links behind c
abbrev pub nth_cell : List ℕ → ℕ → ℕ → ℕ
nth_cell links c zero = c
nth_cell links c (suc k) = nth_cell links (step links c) k

-- the first k cells from c on
abbrev pub cells : List ℕ → ℕ → ℕ → List ℕ
cells links c zero = []
cells links c (suc k) = c ∷ cells links (step links c) k

-- the bytes of cell c
abbrev pub cell_bytes : ℕ → List ℕ → List ℕ
cell_bytes c memory = block 32 c memory

-- the bytes of cells, one after another
abbrev pub joined : List ℕ → List ℕ → List ℕ
joined memory [] = []
joined memory (c ∷ cs) = cell_bytes c memory ++ joined memory cs

-- how often c stands in a list, by its own recursion, which the inductions over cells follow
abbrev pub hit : ℕ → ℕ → ℕ
hit c d = cond (c == d) 1 0

abbrev pub count : ℕ → List ℕ → ℕ
count c [] = 0
count c (d ∷ ds) = hit c d + count c ds

-- 1 for a number below n, else 0
abbrev pub within : ℕ → ℕ → ℕ
within c n = cond (nat_lt c n) 1 0

-- memory after zeros were laid in the first k cells from c on, and in no other
pub record Wiped (links : List ℕ) (c k : ℕ) (memory changed : List ℕ) : Type 0 where
  pub long : length changed ≡ length memory
  pub zeros : (d : ℕ) → 1 ≤ count d (cells links c k) → cell_bytes d changed ≡ replicate 32 0
  pub others : (d : ℕ) → count d (cells links c k) ≡ 0 → cell_bytes d changed ≡ cell_bytes d memory
