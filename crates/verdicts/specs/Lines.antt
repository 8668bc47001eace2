-- A verdict as text.
use Rattle.std.specs.Prelude.{ℕ, List, ◌++◌, Ok, Err, codes, decimal, Result}
use Rattle.reader.specs.declared.faults.Fault.{Fault}
use Rattle.reader.specs.Questions.{number, layer}

-- the numbers of a fault, with blanks between them
abbrev pub row : Fault → List ℕ
row e = decimal (number e.question) ++ (codes " " ++ (decimal (layer e.question) ++ (codes " " ++ (decimal e.function ++ (codes " " ++ decimal e.place)))))

-- ok, or the numbers of the fault
abbrev pub written : Result (Unit {0}) Fault → List ℕ
written (Ok u) = codes "ok"
written (Err e) = row e
