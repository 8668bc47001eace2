-- Nodes and bodies: what stands at a place, or the first fault.
use Rattle.std.specs.Prelude.{ℕ, zero, suc, ◌+◌, ◌-◌, ◌<◌, true, false, List, Ok, Err, ◌==◌, nat_le}
use Rattle.reader.specs.declared.questions.Question.TheVariants as q
use Rattle.reader.specs.declared.operations.Operation.{Operation}
use Rattle.reader.specs.declared.values.Operand.{Operand}
use Rattle.reader.specs.declared.nodes.Node.{Node}
use Rattle.reader.specs.declared.nodes.Node.TheVariants as node
use Rattle.reader.specs.Operations.{operation}
use Rattle.reader.specs.Syntax.{Body, return, branch, call}
use Rattle.reader.specs.Fields.{Read, denied, then, byte_at, half_at, value_at, count_at, list_at, standing}

-- a node without what follows it
--   returns values
--   branches value field length: the length of the first branch, and the place of that field
--   calls callee arguments results
pub data Head : Type 0 where
  returns : List Operand → Head
  branches : Operand → ℕ → ℕ → Head
  calls : Operation → List Operand → ℕ → Head

-- what follows the tag of an if, which stands at p under other ifs
abbrev pub if_at : List ℕ → (e f ifs p z : ℕ) → Read Head
if_at b e f ifs p z = elim (nat_le 16 ifs) [
  | true ↦ denied q.Nesting f p
  | false ↦
      then (value_at b e f z) λ v. then (half_at b e f v.1) λ n. Ok (branches (record { place = z; value = v.0 }) v.1 n.0, n.1)
]

-- what follows the tag of a call
abbrev pub call_at : List ℕ → (e f z : ℕ) → Read Head
call_at b e f z = then (byte_at b e f z) λ k. then (byte_at b e f k.1) λ i. then (list_at b e f i.1) λ a. then (count_at b e f a.1) λ n.
    Ok (calls (operation k.0 i.0) a.0 n.0, n.1)

-- the node at p, under a number of ifs
abbrev pub node_at : List ℕ → (e f ifs p : ℕ) → Read Head
node_at b e f ifs p = then (byte_at b e f p) λ t.
    elim (t.0 == 1) [
      | true ↦ then (list_at b e f t.1) (λ a. Ok (returns a.0, a.1))
      | false ↦
          elim (t.0 == 2) [
            | true ↦ if_at b e f ifs p t.1
            | false ↦
                elim (t.0 == 3) [ true ↦ call_at b e f t.1 | false ↦ denied q.KnownNode f p ]
          ]
    ]

-- a node at p with what follows it from z on; a first branch takes exactly the bytes that its length says
abbrev pub followed : (rest : ℕ → ℕ → Read Body) → (f ifs p : ℕ) → Head → ℕ → Read Body
followed rest f ifs p (returns vs) z = Ok (return p vs, z)
followed rest f ifs p (branches v field n) z =
    then (rest (ifs + 1) z) λ s.
    elim (s.1 - z == n) [ true ↦ then (rest (ifs + 1) s.1) (λ t. Ok (branch p v s.0 t.0, t.1)) | false ↦ denied q.BranchLength f field ]
followed rest f ifs p (calls o vs n) z = then (rest ifs z) λ r. Ok (call p o vs n r.0, r.1)

-- by what is left of the record: with nothing left, the tag lies outside
unfoldable pub body_by : List ℕ → (e f k ifs p : ℕ) → Read Body
body_by b e f zero ifs p = denied q.Inside f p
body_by b e f (suc k) ifs p = then (node_at b e f ifs p) λ h. followed (body_by b e f k) f ifs p h.0 h.1

-- the body at p, under a number of ifs
abbrev pub body_at : List ℕ → (e f ifs p : ℕ) → Read Body
body_at b e f ifs p = body_by b e f (e - p) ifs p

-- a node as the code sees it: lists by where they stand
abbrev pub seen : ℕ → Head → Node
seen p (returns vs) = node.Return (standing (p + 1) vs)
seen p (branches v field n) = node.Branch v field n
seen p (calls o vs n) = node.Call o (standing (p + 3) vs) n

abbrev pub sight : ℕ → Read Head → Read Node
sight p (Ok x) = Ok (seen p x.0, x.1)
sight p (Err e) = Err e

-- a node is an if only under fewer than 16 others
abbrev pub Nested : ℕ → Node → Type 0
Nested ifs (node.Return vs) = Unit {0}
Nested ifs (node.Branch v field n) = ifs < 16
Nested ifs (node.Call o vs n) = Unit {0}
