-- A byte that is the code of no type does not read as one.
use Rattle.std.proofs.Common.{◌≡◌, ℕ, ◌≢◌, List, Ok, sym, arith}
use Rattle.std.proofs.lemmas.Bool.Decides.{nat_tests}
use Rattle.reader.specs.declared.questions.Question.TheVariants as q
use Rattle.reader.specs.declared.types.Ty.{Ty}
use Rattle.reader.specs.declared.types.Ty.TheVariants as t
use Rattle.reader.specs.Encoding.{type}
use Rattle.reader.specs.Fields.{byte_at, denied, type_at}

pub no_type : (b : List ℕ) (e f p code next : ℕ) → Ok (code, next) ≡ byte_at b e f p → ((ty : Ty) → type ty ≢ code) → type_at b e f p ≡ denied q.KnownType f p
no_type b e f p code next h other =
    let one : 1 ≢ code = other t.Int in
    let two : 2 ≢ code = other t.Bool in
    let three : 3 ≢ code = other t.Packet in
    let four : 4 ≢ code = other t.Alias in
    grind (arith, nat_tests, sym h)
