-- What a machine's copy of a program stands for.
use Rattle.std.specs.Prelude.{◌≡◌, ℕ, List, map, Some, None, Ok, Err, Option, Result}
use Rattle.std.proofs.Math.Option.{none, some}
use Rattle.std.proofs.Math.ListN.{get_elem?}
use Rattle.reader.specs.declared.faults.Fault.{Fault}
use Rattle.reader.specs.Syntax as tree
use Rattle.reader.specs.Syntax.{Program}
use Rattle.reader.specs.Programs.{reading}
use Rattle.typing.specs.Layers.{verdict}
use Rattle.rows.specs.Rows.{items}
use Rattle.code.specs.declared.functions.Function.{Function}
use Rattle.code.specs.declared.copies.Code.{Code}
use Rattle.code.specs.Sights.{sees}

abbrev pub bytes_of : Code → List ℕ
bytes_of c = items c.bytes

-- a function, in bytes b
abbrev pub function_of : List ℕ → Function → tree.Function
function_of b f = record { place = f.place; depth = f.depth; params = items f.params; results = items f.results; body = sees b f.body }

abbrev pub program_of : Code → Program
program_of c = record { threads = c.threads; queues = c.queues; functions = map (function_of (bytes_of c)) (items c.functions) }

-- c is the copy of bytes b: no question of any layer is answered no of them, and c stands for the program that they read as
pub record CopyOf (b : List ℕ) (c : Code) : Type 0 where
  pub accepted : verdict b ≡ Ok tt
  pub bytes : bytes_of c ≡ b
  pub reads : reading b ≡ Ok (program_of c)

-- the copy of bytes, or the first fault
abbrev pub Copied : List ℕ → Result Code Fault → Type 0
Copied b (Ok c) = CopyOf b c
Copied b (Err e) = verdict b ≡ Err e

-- function i of a program, in bytes b, if there is one
abbrev pub Listed : List ℕ → Program → (i : ℕ) → Option Function → Type 0
Listed b P i (Some f) = get_elem? P.functions i ≡ some (function_of b f)
Listed b P i None = get_elem? P.functions i ≡ none
