-- What is asked of a body, question by question, and the first no.
-- i is the function that a fault carries, p a place. The marks H say what is known of each bound variable: a spent owner is absent.
use Rattle.std.specs.Prelude.{ℕ, zero, suc, ◌+◌, Bool, true, false, not, ◌&&◌, List, [], ◌∷◌, ◌++◌, map, length, Ok, Result, ◌==◌, nat_le, nat_lt, slice_index_or, slice_set}
use Rattle.std.specs.List.{list_any, list_all}
use Rattle.std.proofs.Math.Option.{Option, none, some}
use Rattle.reader.specs.declared.questions.Question.{Question}
use Rattle.reader.specs.declared.questions.Question.TheVariants as q
use Rattle.reader.specs.declared.faults.Fault.{Fault}
use Rattle.reader.specs.declared.values.Value.{Value}
use Rattle.reader.specs.declared.values.Operand.{Operand}
use Rattle.reader.specs.Fields.{then, denied}
use Rattle.reader.specs.Syntax.{Body, return, branch, call, Function, Program}
use Rattle.typing.specs.Signatures.{Ty, int, bool, packet, alias, signature, callee_depth}
use Rattle.typing.specs.Typing.{integer, truth, variable, Entry, absent, has, Ctx}

-- a question that a test answers
abbrev pub ask : Question → (i p : ℕ) → Bool → Result (Unit {0}) Fault
ask k i p b = elim b [ true ↦ Ok tt | false ↦ denied k i p ]

-- the question whether there is something
abbrev pub known : {X : Type 0} → Question → (i p : ℕ) → Option X → Result X Fault
known k i p (some x) = Ok x
known k i p none = denied k i p

-- may what is held be given where a type is wanted? A type fits itself, and an owner fits as alias
abbrev pub fits : (held wanted : Ty) → Bool
fits int wanted = elim wanted [ int ↦ true | bool ↦ false | packet ↦ false | alias ↦ false ]
fits bool wanted = elim wanted [ int ↦ false | bool ↦ true | packet ↦ false | alias ↦ false ]
fits packet wanted = elim wanted [ int ↦ false | bool ↦ false | packet ↦ true | alias ↦ true ]
fits alias wanted = elim wanted [ int ↦ false | bool ↦ false | packet ↦ false | alias ↦ true ]

-- what is known of a value; a constant is bound and unspent
abbrev pub bound : Ctx → Value → Bool
bound H (integer n) = true
bound H (truth b) = true
bound H (variable x) = nat_lt x (length H)

abbrev pub entry : Ctx → Value → Entry
entry H (integer n) = has int
entry H (truth b) = has bool
entry H (variable x) = slice_index_or H x absent

abbrev pub unspent : Entry → Bool
unspent absent = false
unspent (has τ) = true

abbrev pub fitting : Entry → Ty → Bool
fitting absent wanted = false
fitting (has τ) wanted = fits τ wanted

-- the variables that the earlier values of a list named
abbrev pub member : ℕ → List ℕ → Bool
member x named = list_any (λ y. y == x) named

abbrev pub names : Value → List ℕ → Bool
names (integer n) named = false
names (truth b) named = false
names (variable x) named = member x named

abbrev pub note : Value → List ℕ → List ℕ
note (integer n) named = named
note (truth b) named = named
note (variable x) named = named ++ (x ∷ [])

-- what is given as packet is named by no earlier value of its list
abbrev pub once : (wanted : Ty) → Value → List ℕ → Bool
once int v named = true
once bool v named = true
once packet v named = not (names v named)
once alias v named = true

-- what is given as packet is spent
abbrev pub emptied : Value → Ctx → Ctx
emptied (integer n) H = H
emptied (truth b) H = H
emptied (variable x) H = slice_set H x absent

abbrev pub spend : (wanted : Ty) → Value → Ctx → Ctx
spend int v H = H
spend bool v H = H
spend packet v H = emptied v H
spend alias v H = H

-- one value where a type is wanted: the marks after it
abbrev pub give : (i : ℕ) → Ctx → (named : List ℕ) → Operand → (wanted : Ty) → Result Ctx Fault
give i H named v ρ =
    then (ask q.Bound i v.place (bound H v.value)) λ _.
    then (ask q.Unspent i v.place (unspent (entry H v.value))) λ _.
    then (ask q.Fits i v.place (fitting (entry H v.value) ρ)) λ _.
    then (ask q.Once i v.place (once ρ v.value named)) λ _.
    Ok (spend ρ v.value H)

-- a list of values, from the left; the counts agree
abbrev pub gives : (i : ℕ) → Ctx → (named : List ℕ) → List Operand → List Ty → Result Ctx Fault
gives i H named [] ρs = Ok H
gives i H named (v ∷ vs) [] = Ok H
gives i H named (v ∷ vs) (ρ ∷ ρs) = then (give i H named v ρ) λ H'. gives i H' (note v.value named) vs ρs

-- the value of an if
abbrev pub test : (i : ℕ) → Ctx → Operand → Result (Unit {0}) Fault
test i H v =
    then (ask q.Bound i v.place (bound H v.value)) λ _.
    ask q.Fits i v.place (fitting (entry H v.value) bool)

-- is every owner spent?
abbrev pub owner : Entry → Bool
owner absent = false
owner (has τ) = elim τ [ int ↦ false | bool ↦ false | packet ↦ true | alias ↦ false ]

abbrev pub all_spent : Ctx → Bool
all_spent H = list_all (λ e. not (owner e)) H

-- are the values the j variables from n on, in order?
abbrev pub is_variable : ℕ → Value → Bool
is_variable n (integer m) = false
is_variable n (truth b) = false
is_variable n (variable x) = x == n

abbrev pub consecutive : (n j : ℕ) → List Operand → Bool
consecutive n zero [] = true
consecutive n zero (v ∷ vs) = false
consecutive n (suc j) [] = false
consecutive n (suc j) (v ∷ vs) = is_variable n v.value && consecutive (suc n) j vs

-- does what follows a call return exactly its j results, which are bound from n on?
abbrev pub is_tail : (n j : ℕ) → Body → Bool
is_tail n j (return p vs) = consecutive n j vs
is_tail n j (branch p v e₁ e₂) = false
is_tail n j (call p f vs k e) = false

-- the depth rule for a function of depth d, at a call of what has that depth, if any
abbrev pub deep_enough : (d c : ℕ) → (tailed : Bool) → Bool
deep_enough d c true = nat_le c d
deep_enough d c false = nat_lt c d

abbrev pub depth_holds : (d : ℕ) → Option ℕ → (tailed : Bool) → Bool
depth_holds d none tailed = true
depth_holds d (some c) tailed = deep_enough d c tailed

-- a body of the function F, which is function i of P, from the marks H
abbrev pub body : Program → (i : ℕ) → Function → Ctx → Body → Result (Unit {0}) Fault
body P i F H (return p vs) =
    then (ask q.Counts i p (length vs == length F.results)) λ _.
    then (gives i H [] vs F.results) λ H'.
    ask q.OwnersSpent i p (all_spent H')
body P i F H (branch p v e₁ e₂) =
    then (test i H v) λ _.
    then (body P i F H e₁) λ _.
    body P i F H e₂
body P i F H (call p f vs j e) =
    then (known q.Callee i p (signature P f)) λ s.
    then (ask q.Counts i p (length vs == length s.params && j == length s.results)) λ _.
    then (gives i H [] vs s.params) λ H'.
    then (ask q.Room i p (nat_le (length H' + j) 16)) λ _.
    then (ask q.DepthRule i p (depth_holds F.depth (callee_depth P f) (is_tail (length H') j e))) λ _.
    body P i F (H' ++ map has s.results) e
