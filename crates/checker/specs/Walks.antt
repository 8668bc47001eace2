-- What the code's walks over a body keep and answer.
use Rattle.std.specs.Prelude.{◌≡◌, ℕ, ◌+◌, Bool, true, false, ◌&&◌, List, [], ◌++◌, map, length, take, Some, None, Ok, Err, Option, Result, ◌==◌, nat_le}
use Rattle.std.proofs.Math.Option.{Option as Maybe, some}
use Rattle.std.proofs.Math.ListN.{get_elem?}
use Rattle.reader.specs.declared.faults.Fault.{Fault}
use Rattle.reader.specs.declared.questions.Question.TheVariants as q
use Rattle.reader.specs.declared.operations.Operation.{Operation}
use Rattle.reader.specs.declared.types.Ty.{Ty}
use Rattle.reader.specs.declared.values.Value.{Value}
use Rattle.reader.specs.declared.values.Operand.{Operand}
use Rattle.reader.specs.declared.values.Values.{Values}
use Rattle.reader.specs.declared.windows.Window.{Window}
use Rattle.reader.specs.Fields.{Read, read_in, then, values_at}
use Rattle.reader.specs.Syntax.{Body, Function, Program}
use Rattle.records.specs.Tables.{Stands, Says}
use Rattle.rows.specs.Rows.{items}
use Rattle.typing.specs.Typing.{Entry, has, Ctx}
use Rattle.typing.specs.Signatures.{signature, callee_depth}
use Rattle.typing.specs.Marks.{ask, known, bound, entry, gives, all_spent, consecutive, is_tail, depth_holds}
use Rattle.checker.specs.declared.walks.Walk.{Walk}
use Rattle.checker.specs.declared.marks.Marks.{Marks}

-- the marks as a context
abbrev pub context : Marks → Ctx
context m = items m.entries

-- what is known of a value, if it is bound
abbrev pub seen : Ctx → Value → Option Entry
seen H v = elim (bound H v) [ true ↦ Some (entry H v) | false ↦ None ]

-- what is known of a value that is asked to be bound
abbrev pub sighted : (i : ℕ) → Ctx → Operand → Result Entry Fault
sighted i H v = then (ask q.Bound i v.place (bound H v.value)) λ _. Ok (entry H v.value)

-- the values of a list that stands in a window
pub record Holds (w : Window) (l : Values) (vs : List Operand) : Type 0 where
  pub stop : ℕ
  pub reads : read_in w values_at l.count l.place ≡ Ok (vs, stop)
  pub long : length vs ≡ l.count

-- is what was read the j variables from n on, in order? What cannot be read is not
abbrev pub in_row : (n j : ℕ) → Read (List Operand) → Bool
in_row n j (Ok x) = consecutive n j x.0
in_row n j (Err e) = false

-- what a change of the marks comes to: the marks after it, or a fault
abbrev pub changed : {X : Type 0} → Result X Fault → Marks → Result Ctx Fault
changed (Ok x) m = Ok (context m)
changed (Err e) m = Err e

-- a return at p of function i, whose results are of the types τs
abbrev pub leaving : (i p : ℕ) → Ctx → List Operand → List Ty → Result (Unit {0}) Fault
leaving i p H vs τs =
    then (ask q.Counts i p (length vs == length τs)) λ _.
    then (gives i H [] vs τs) λ H'.
    ask q.OwnersSpent i p (all_spent H')

-- a call at p of function i, which has depth d, after its arguments: room for its results of the types τs, and the depth of what it calls
abbrev pub binding : (i p d : ℕ) → Maybe ℕ → (j : ℕ) → Body → List Ty → Ctx → Result Ctx Fault
binding i p d c j e τs H =
    then (ask q.Room i p (nat_le (length H + j) 16)) λ _.
    then (ask q.DepthRule i p (depth_holds d c (is_tail (length H) j e))) λ _.
    Ok (H ++ map has τs)

-- the whole call: the marks of what follows it
abbrev pub entering : Program → (i p d : ℕ) → Ctx → Operation → List Operand → (j : ℕ) → Body → Result Ctx Fault
entering P i p d H f vs j e =
    then (known q.Callee i p (signature P f)) λ s.
    then (ask q.Counts i p (length vs == length s.params && j == length s.results)) λ _.
    then (gives i H [] vs s.params) λ H'.
    binding i p d (callee_depth P f) j e s.results H'

-- a walk over the body of a function of a program
pub record Walks (w : Walk) (P : Program) (F : Function) : Type 0 where
  pub stands : Stands w.table P
  pub bytes : w.window.bytes.now ≡ take (length w.window.bytes.now) w.table.program.now
  pub function : get_elem? P.functions w.window.function ≡ some F
  pub says : Says w.table.program.now w.window.function F w.record

-- what a call may answer for each of some functions, by its number, is what asks says
abbrev pub Answers : (ℕ → Result (Unit {0}) Fault → Type 0) → (asks : ℕ → Function → Result (Unit {0}) Fault) → List Function → Type 0
Answers post asks Fs = (k : ℕ) (F : Function) (a : Result (Unit {0}) Fault) → get_elem? Fs k ≡ some F → post k a → a ≡ asks k F
