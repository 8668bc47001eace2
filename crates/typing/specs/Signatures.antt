-- The signature of each operation: what it takes and what it gives.
use Rattle.std.specs.Prelude.{ℕ, ◌+◌, Bool, true, false, not, ◌&&◌, List, [], ◌∷◌, ◌==◌, nat_lt}
use Rattle.std.proofs.Math.Option.{Option, none, some}
use Rattle.std.proofs.Math.ListN.{get_elem?}
use Rattle.reader.specs.declared.operations.Operation.{Operation}
use Rattle.reader.specs.declared.operations.Operation.TheVariants as o
use Rattle.reader.specs.Syntax.{Function, Program}
-- the types by their names in the language: a packet is an owner
pub use Rattle.reader.specs.declared.types.Ty.{Ty}
pub use Rattle.reader.specs.declared.types.Ty.TheVariants.{Int as int, Bool as bool, Packet as packet, Alias as alias}

infix 20 ◌⇒◌
pub record Signature : Type 0 where
  pub params : List Ty
  pub results : List Ty

abbrev pub ◌⇒◌ : List Ty → List Ty → Signature
ps ⇒ rs = record { params = ps; results = rs }

-- a row of the table that stands only under a condition
abbrev pub provided : Bool → Signature → Option Signature
provided true s = some s
provided false s = none

-- the queues are 0 `receive`, 1 `transmit`, and from 2 on the program's own
abbrev pub queue : Program → ℕ → Bool
queue P q = nat_lt q (2 + P.queues)

abbrev pub of_function : Option Function → Option Signature
of_function none = none
of_function (some F) = some (F.params ⇒ F.results)

-- the table: a row for each operation; `receive` has no enq, `transmit` has no deq
abbrev pub signature : Program → Operation → Option Signature
signature P (o.Compute a) = some ((int ∷ int ∷ []) ⇒ (int ∷ []))
signature P (o.Compare c) = some ((int ∷ int ∷ []) ⇒ (bool ∷ []))
signature P (o.Connect c) = some ((bool ∷ bool ∷ []) ⇒ (bool ∷ []))
signature P o.New = some ((int ∷ []) ⇒ (packet ∷ []))
signature P o.Kill = some ((packet ∷ []) ⇒ [])
signature P o.Read = some ((alias ∷ int ∷ []) ⇒ (int ∷ []))
signature P o.Update = some ((alias ∷ int ∷ int ∷ []) ⇒ [])
signature P (o.Enq q) = provided (queue P q && not (q == 0)) ((packet ∷ []) ⇒ [])
signature P (o.Deq q) = provided (queue P q && not (q == 1)) ([] ⇒ (packet ∷ []))
signature P (o.Function i) = of_function (get_elem? P.functions i)
signature P (o.Unknown kind index) = none

abbrev pub depth_of : Option Function → Option ℕ
depth_of none = none
depth_of (some F) = some F.depth

-- the depth of what is called: only the program's functions have one
abbrev pub callee_depth : Program → Operation → Option ℕ
callee_depth P (o.Compute a) = none
callee_depth P (o.Compare c) = none
callee_depth P (o.Connect c) = none
callee_depth P o.New = none
callee_depth P o.Kill = none
callee_depth P o.Read = none
callee_depth P o.Update = none
callee_depth P (o.Enq q) = none
callee_depth P (o.Deq q) = none
callee_depth P (o.Function i) = depth_of (get_elem? P.functions i)
callee_depth P (o.Unknown kind index) = none
