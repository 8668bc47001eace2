-- What is asked of a program beyond its bytes: layer 2 of all functions, then layer 3 of all functions; the first no decides.
use Rattle.std.specs.Prelude.{ℕ, ◌+◌, Bool, true, false, ◌&&◌, ◌||◌, List, [], ◌∷◌, map, length, Ok, Result, nat_le}
use Rattle.reader.specs.declared.questions.Question.TheVariants as q
use Rattle.reader.specs.declared.faults.Fault.{Fault}
use Rattle.reader.specs.Fields.{then}
use Rattle.reader.specs.Syntax.{Function, Program}
use Rattle.reader.specs.Programs.{reading}
use Rattle.typing.specs.Signatures.{Ty, int, bool, packet, alias}
use Rattle.typing.specs.Typing.{has}
use Rattle.typing.specs.Marks.{ask, body}

abbrev pub empty : List Ty → Bool
empty [] = true
empty (τ ∷ τs) = false

abbrev pub unlent : Ty → Bool
unlent int = true
unlent bool = true
unlent packet = true
unlent alias = false

-- is no result an alias? The types stand from p on
abbrev pub no_alias : (i p : ℕ) → List Ty → Result (Unit {0}) Fault
no_alias i p [] = Ok tt
no_alias i p (τ ∷ τs) = then (ask q.NoAliasResult i p (unlent τ)) λ _. no_alias i (p + 1) τs

-- where the types of a function's results stand: after its record's length, its depth, both counts and the types of its parameters
abbrev pub results_place : Function → ℕ
results_place F = F.place + 5 + length F.params

-- does a function that is a thread's take and give nothing?
abbrev pub thread_ready : Program → (i : ℕ) → Function → Bool
thread_ready P i F = nat_le P.threads i || (empty F.params && empty F.results)

-- layer 2 of function i
abbrev pub outside : Program → (i : ℕ) → Function → Result (Unit {0}) Fault
outside P i F =
    then (ask q.ThreadSignature i F.place (thread_ready P i F)) λ _.
    no_alias i (results_place F) F.results

-- layer 3 of function i
abbrev pub inside : Program → (i : ℕ) → Function → Result (Unit {0}) Fault
inside P i F = body P i F (map has F.params) F.body

-- functions one after the other, numbered from i on
abbrev pub each : (ℕ → Function → Result (Unit {0}) Fault) → (i : ℕ) → List Function → Result (Unit {0}) Fault
each asks i [] = Ok tt
each asks i (F ∷ Fs) = then (asks i F) λ _. each asks (i + 1) Fs

abbrev pub layers : Program → Result (Unit {0}) Fault
layers P =
    then (each (outside P) 0 P.functions) λ _.
    each (inside P) 0 P.functions

-- all three layers: what is asked of bytes
abbrev pub verdict : List ℕ → Result (Unit {0}) Fault
verdict b = then (reading b) layers
