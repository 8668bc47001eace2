-- The operation that two numbers name has these numbers.
use Rattle.std.proofs.Common.{◌≡◌, ℕ, arith}
use Rattle.std.proofs.lemmas.Bool.Decides.{nat_tests}
use Rattle.reader.specs.Operations.{kind, index, operation}

pub kind-named : (k i : ℕ) → kind (operation k i) ≡ k
kind-named k i = grind (arith, nat_tests)

pub index-named : (k i : ℕ) → index (operation k i) ≡ i
index-named k i = grind (arith, nat_tests)
