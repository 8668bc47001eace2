-- What a place of a program's bytes shows: the node that can be read there, with all that follows it, whatever encloses it.
use Rattle.std.specs.Prelude.{◌≡◌, ◌≢◌, ℕ, zero, suc, ◌+◌, ◌-◌, true, false, List, [], map, length, Some, None, Ok, Err, Option, Result, ◌==◌}
use Rattle.reader.specs.declared.questions.Question.TheVariants as q
use Rattle.reader.specs.declared.faults.Fault.{Fault}
use Rattle.reader.specs.declared.operations.Operation.{Operation}
use Rattle.reader.specs.declared.operations.Operation.TheVariants as o
use Rattle.reader.specs.declared.values.Value.{Value}
use Rattle.reader.specs.declared.values.Values.{Values}
use Rattle.reader.specs.declared.values.Operand.{Operand}
use Rattle.reader.specs.Syntax.{Body, return, branch, call}
use Rattle.code.specs.declared.sights.Sight.{Sight}
use Rattle.code.specs.declared.sights.Sight.TheVariants as shown_as
use Rattle.reader.specs.Operations.{operation}
use Rattle.reader.specs.Fields.{Read, denied, then, byte_at, half_at, value_at, count_at, values_at}
use Rattle.reader.specs.Nodes.{Head, returns, branches, calls, node_at}

-- where nothing can be read; no rule serves it
abbrev pub lost : Body
lost = call 0 (o.Unknown 0 0) [] 0 (return 0 [])

-- a node at p, and by `rest` what follows it
abbrev pub shown : (rest : ℕ → Body) → (p : ℕ) → Read Head → Body
shown rest p (Ok (returns vs, z)) = return p vs
shown rest p (Ok (branches v field n, z)) = branch p v (rest z) (rest (z + n))
shown rest p (Ok (calls f vs n, z)) = call p f vs n (rest z)
shown rest p (Err e) = lost

-- the first number: how many bytes are left
unfoldable pub sees_by : List ℕ → ℕ → ℕ → Body
sees_by b zero p = lost
sees_by b (suc k) p = shown (sees_by b k) p (node_at b (length b) 255 0 p)

abbrev pub sees : List ℕ → (place : ℕ) → Body
sees b p = sees_by b (length b - p) p

-- the values of a list, by where it stands
abbrev pub values_of : List ℕ → Values → Read (List Operand)
values_of b l = values_at b (length b) 255 l.count l.place

-- a return of a list of values, where they can be read
abbrev pub ending : (p : ℕ) → Read (List Operand) → Body
ending p (Ok vs) = return p vs.0
ending p (Err e) = lost

-- a call with its arguments, where its results can be counted
abbrev pub counted : List ℕ → (p : ℕ) → Operation → List Operand → Read ℕ → Body
counted b p f vs (Ok n) = call p f vs n.0 (sees b n.1)
counted b p f vs (Err e) = lost

-- a call of a list of arguments, where they can be read; the count of its results stands behind them
abbrev pub calling : List ℕ → (p : ℕ) → Operation → Read (List Operand) → Body
calling b p f (Ok vs) = counted b p f vs.0 (count_at b (length b) 255 vs.1)
calling b p f (Err e) = lost

-- what code sees at p is what p shows; lists are read where they are needed, and then as here
abbrev pub Showing : List ℕ → (p : ℕ) → Sight → Type 0
Showing b p (shown_as.Return l) = sees b p ≡ ending p (values_of b l)
Showing b p (shown_as.Branch v z y) = sees b p ≡ branch p v (sees b z) (sees b y)
Showing b p (shown_as.Call f l) = sees b p ≡ calling b p f (values_of b l)
Showing b p shown_as.Nothing = sees b p ≡ lost

-- the same as it is read: what follows a node's tag, from z on and up to the first list in it
abbrev pub return_sight : List ℕ → (z : ℕ) → Result Sight Fault
return_sight b z = then (count_at b (length b) 255 z) λ n. Ok (shown_as.Return (record { count = n.0; place = n.1 }))

abbrev pub branch_sight : List ℕ → (z : ℕ) → Result Sight Fault
branch_sight b z = then (value_at b (length b) 255 z) λ v. then (half_at b (length b) 255 v.1) λ n. Ok (shown_as.Branch (record { place = z; value = v.0 }) n.1 (n.1 + n.0))

abbrev pub call_sight : List ℕ → (z : ℕ) → Result Sight Fault
call_sight b z = then (byte_at b (length b) 255 z) λ k. then (byte_at b (length b) 255 k.1) λ i. then (count_at b (length b) 255 i.1) λ n.
    Ok (shown_as.Call (operation k.0 i.0) (record { count = n.0; place = n.1 }))

-- the node at p, by its tag
abbrev pub tag_sight : List ℕ → (p : ℕ) → ℕ × ℕ → Result Sight Fault
tag_sight b p t = elim (t.0 == 1) [
  | true ↦ return_sight b t.1
  | false ↦
      elim (t.0 == 2) [
        | true ↦ branch_sight b t.1
        | false ↦
            elim (t.0 == 3) [ true ↦ call_sight b t.1 | false ↦ denied q.KnownNode 255 p ]
      ]
]

abbrev pub sight_at : List ℕ → (p : ℕ) → Result Sight Fault
sight_at b p = then (byte_at b (length b) 255 p) (tag_sight b p)

-- what is read, if it can be read
abbrev pub found : {X : Type 0} → Result X Fault → Option X
found (Ok x) = Some x
found (Err e) = None

-- the value at p, with the place after it
abbrev pub valued : List ℕ → (p : ℕ) → Option (Value × ℕ)
valued b p = found (value_at b (length b) 255 p)

-- the count at p, with the place after it
abbrev pub count_there : List ℕ → (p : ℕ) → Option (ℕ × ℕ)
count_there b p = found (count_at b (length b) 255 p)

-- the arguments of a call, n of them, with the place of the node after it; or there are not so many with a count of results behind them
abbrev pub Argued : List ℕ → Values → (n : ℕ) → Option (List Value × ℕ) → Type 0
Argued b l n (Some (vs, next)) =
    (as' : List Operand) × (stop k : ℕ) × (values_of b l ≡ Ok (as', stop)) × (count_at b (length b) 255 stop ≡ Ok (k, next)) × (map (λ (a : Operand). a.value) as' ≡ vs) × (length vs ≡ n)
Argued b l n None = (as' : List Operand) (stop k next : ℕ) → values_of b l ≡ Ok (as', stop) → count_at b (length b) 255 stop ≡ Ok (k, next) → length as' ≢ n
