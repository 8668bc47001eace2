-- What is read of a record without its body, and where the lengths of records lead.
use Rattle.std.specs.Prelude.{ℕ, zero, suc, ◌+◌, true, false, List, [], ◌∷◌, Ok, Err, Result, nat_le}
use Rattle.reader.specs.declared.questions.Question.TheVariants as q
use Rattle.reader.specs.declared.faults.Fault.{Fault}
use Rattle.reader.specs.declared.types.Ty.{Ty}
use Rattle.reader.specs.Fields.{Read, then, denied, half, half_at, byte_at}
use Rattle.reader.specs.Programs.{signature_at}
use Rattle.rows.specs.declared.row.Row.{Row}
use Rattle.rows.specs.Rows.{items}
use Rattle.records.specs.declared.tables.Record.{Record}

-- a row of types that was read, as a list
abbrev pub rowed : Result (Row Ty 8 × ℕ) Fault → Read (List Ty)
rowed (Ok x) = Ok (items x.0, x.1)
rowed (Err e) = Err e

-- what a record says before its body, the place of its body, and where it ends
pub record Glance : Type 0 where
  pub depth : ℕ
  pub params : List Ty
  pub results : List Ty
  pub body : ℕ
  pub end : ℕ

abbrev pub glance : Record → Glance
glance r = record { depth = r.depth; params = items r.params; results = items r.results; body = r.body; end = r.end }

abbrev pub glanced : Result Record Fault → Result Glance Fault
glanced (Ok r) = Ok (glance r)
glanced (Err e) = Err e

-- what the record of function f says from s on; the record ends at e
abbrev pub glance_in : List ℕ → (e f s : ℕ) → Result Glance Fault
glance_in b e f s =
    then (byte_at b e f s) λ d. then (signature_at b e f d.1) λ ps. then (signature_at b e f ps.1) λ rs.
    Ok (record { depth = d.0; params = ps.0; results = rs.0; body = rs.1; end = e })

-- the record of function f at p, in a program that ends at e
abbrev pub glance_at : List ℕ → (e f p : ℕ) → Result Glance Fault
glance_at b e f p = then (half_at b e f p) λ n.
    elim (nat_le (n.1 + n.0) e) [ true ↦ glance_in b (n.1 + n.0) f n.1 | false ↦ denied q.Inside f p ]

-- the place after a record: its length leads there
abbrev pub after : List ℕ → (e p : ℕ) → ℕ
after b e p = elim (nat_le (p + 2 + half b p) e) [ true ↦ p + 2 + half b p | false ↦ e ]

-- the places of n records
abbrev pub starts : List ℕ → (e n p : ℕ) → List ℕ
starts b e zero p = []
starts b e (suc n) p = p ∷ starts b e n (after b e p)
