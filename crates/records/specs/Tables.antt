-- What a table of records says of its program.
use Rattle.std.specs.Prelude.{◌≡◌, ℕ, ◌≤◌, List, [], ◌∷◌, length, Some, None, Ok, Err, Option, Result}
use mathlib.Core.Option.{none, some}
use Rattle.std.proofs.Math.ListN.{get_elem?}
use Rattle.reader.specs.declared.faults.Fault.{Fault}
use Rattle.reader.specs.declared.operations.Operation.{Operation}
use Rattle.reader.specs.Syntax.{Function, Program}
use Rattle.reader.specs.Nodes.{body_at}
use Rattle.reader.specs.Programs.{reading, header}
use Rattle.rows.specs.Rows.{items}
use Rattle.typing.specs.Signatures.{◌⇒◌, signature, callee_depth}
use Rattle.records.specs.declared.tables.Table.{Table}
use Rattle.records.specs.declared.tables.Record.{Record}
use Rattle.records.specs.declared.callees.Callee.{Callee}

-- the places of records
abbrev pub places : List Function → List ℕ
places [] = []
places (F ∷ Fs) = F.place ∷ places Fs

-- a table stands for a program: its bytes read as the program, and it has the counts and the places of the program
pub record Stands (t : Table) (P : Program) : Type 0 where
  pub reads : reading t.program.now ≡ Ok P
  pub counts : t.header ≡ header P
  pub standing : items t.places ≡ places P.functions

-- a fact about the program that a table stands for, if it stands for one
abbrev pub ForProgram : Table → (Program → Type 0) → Type 0
ForProgram t fact = (P : Program) → Stands t P → fact P

-- and about function i of that program, if it has one
abbrev pub ForFunction : Table → (i : ℕ) → (Program → Function → Type 0) → Type 0
ForFunction t i fact = ForProgram t (λ P. (F : Function) → get_elem? P.functions i ≡ some F → fact P F)

-- the table of bytes: one that stands for the program they read as, or the first fault of layer 1
abbrev pub Tabled : List ℕ → Result Table Fault → Type 0
Tabled b (Ok t) = (t.program.now ≡ b) × ((P : Program) × Stands t P)
Tabled b (Err e) = reading b ≡ Err e

-- a record of function i, in bytes b, says what the function F is
pub record Says (b : List ℕ) (i : ℕ) (F : Function) (r : Record) : Type 0 where
  pub depth : r.depth ≡ F.depth
  pub params : items r.params ≡ F.params
  pub results : items r.results ≡ F.results
  pub body : body_at b r.end i 0 r.body ≡ Ok (F.body, r.end)
  pub inside : r.end ≤ length b

-- the record of function i of a program, if there is one
abbrev pub Recorded : List ℕ → Program → (i : ℕ) → Option Record → Type 0
Recorded b P i (Some r) = (F : Function) × (get_elem? P.functions i ≡ some F) × Says b i F r
Recorded b P i None = get_elem? P.functions i ≡ none

abbrev pub maybe : {X : Type 0} → Option X → mathlib.Core.Option.Option X
maybe (Some x) = some x
maybe None = none

-- what an operation takes and gives in a program, if there is such an operation
abbrev pub Called : Program → Operation → Option Callee → Type 0
Called P o (Some c) = (signature P o ≡ some (items c.params ⇒ items c.results)) × (callee_depth P o ≡ maybe c.depth)
Called P o None = signature P o ≡ none

-- a program of no functions, with a number of own queues: all that it can call are the operations of the language
abbrev pub no_functions : (queues : ℕ) → Program
no_functions n = record { threads = 0; queues = n; functions = [] }
