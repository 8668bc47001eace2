-- Records and whole programs: the tree that the bytes write down, or the first fault.
use Rattle.std.specs.Prelude.{ℕ, zero, suc, ◌+◌, Bool, true, false, ◌&&◌, List, [], ◌∷◌, length, Ok, Result, ◌==◌, nat_le}
use Rattle.reader.specs.declared.questions.Question.TheVariants as q
use Rattle.reader.specs.declared.faults.Fault.{Fault}
use Rattle.reader.specs.declared.types.Ty.{Ty}
use Rattle.reader.specs.declared.headers.Header.{Header}
use Rattle.reader.specs.Syntax.{Function, Program}
use Rattle.reader.specs.Fields.{Read, denied, then, half, half_at, type_at, range_at, count_at}
use Rattle.reader.specs.Nodes.{body_at}

-- n types in a row
abbrev pub types_at : List ℕ → (e f n p : ℕ) → Read (List Ty)
types_at b e f zero p = Ok ([], p)
types_at b e f (suc n) p = then (type_at b e f p) λ t. then (types_at b e f n t.1) λ ts. Ok (t.0 ∷ ts.0, ts.1)

-- a count and that many types
abbrev pub signature_at : List ℕ → (e f p : ℕ) → Read (List Ty)
signature_at b e f p = then (count_at b e f p) λ n. types_at b e f n.0 n.1

-- no byte is left between what was read and e
abbrev pub ended : {X : Type 0} → (e f : ℕ) → Read X → Read X
ended e f r = then r λ x. elim (x.1 == e) [ true ↦ Ok x | false ↦ denied q.NothingLeft f x.1 ]

-- what the record of function f holds from s on; the record begins at p and ends at e
abbrev pub record_in : List ℕ → (e f p s : ℕ) → Read Function
record_in b e f p s =
    then (range_at q.DepthLimit 0 7 b e f s) λ d. then (signature_at b e f d.1) λ ps. then (signature_at b e f ps.1) λ rs.
    ended e f (then (body_at b e f 0 rs.1) λ t. Ok (record { place = p; depth = d.0; params = ps.0; results = rs.0; body = t.0 }, t.1))

-- the record of function f at p; the length that it announces lies inside the program, which ends at e
abbrev pub record_at : List ℕ → (e f p : ℕ) → Read Function
record_at b e f p = then (half_at b e f p) λ n.
    elim (nat_le (n.1 + n.0) e) [ true ↦ record_in b (n.1 + n.0) f p n.1 | false ↦ denied q.Inside f p ]

-- n records, from that of function f on
abbrev pub records_at : List ℕ → (e n f p : ℕ) → Read (List Function)
records_at b e zero f p = Ok ([], p)
records_at b e (suc n) f p = then (record_at b e f p) λ r. then (records_at b e n (suc f) r.1) λ rs. Ok (r.0 ∷ rs.0, rs.1)

-- a program is 2 to 4,096 bytes long, and its first two bytes count the rest
abbrev pub length_ok : List ℕ → Bool
length_ok b = nat_le 2 (length b) && nat_le (length b) 4096 && half b 0 + 2 == length b

-- the version, then how many threads, own queues and functions
abbrev pub header_at : List ℕ → (e f p : ℕ) → Read Header
header_at b e f p =
    then (range_at q.Version 1 1 b e f p) λ v. then (range_at q.ThreadCount 1 8 b e f v.1) λ t.
    then (range_at q.QueueCount 0 6 b e f t.1) λ o. then (range_at q.FunctionCount t.0 64 b e f o.1) λ n.
    Ok (record { threads = t.0; queues = o.0; functions = n.0 }, n.1)

abbrev pub program_in : List ℕ → (e : ℕ) → Read Program
program_in b e = then (header_at b e 255 2) λ h.
    ended e 255 (then (records_at b e h.0.functions 0 h.1) λ fs. Ok (record { threads = h.0.threads; queues = h.0.queues; functions = fs.0 }, fs.1))

-- layer 1: the program that the bytes write down, or the first fault
abbrev pub reading : List ℕ → Result Program Fault
reading b = elim (length_ok b) [ true ↦ then (program_in b (length b)) (λ p. Ok p.0) | false ↦ denied q.Length 255 0 ]

-- the counts of a program
abbrev pub header : Program → Header
header p = record { threads = p.threads; queues = p.queues; functions = length p.functions }

abbrev pub headed : Result Program Fault → Result Header Fault
headed r = then r λ p. Ok (header p)
