-- Memory as blocks of one width.
use Rattle.std.specs.Prelude.{ℕ, ◌*◌, List, ◌++◌, take, drop, replicate}

-- the bytes of block i, which begins at width times i
abbrev pub block : ℕ → ℕ → List ℕ → List ℕ
block width i memory = take width (drop (width * i) memory)

-- memory with so many zeros from a place on
abbrev pub zeroed : ℕ → ℕ → List ℕ → List ℕ
zeroed start amount memory = take start memory ++ (replicate amount 0 ++ drop amount (drop start memory))
