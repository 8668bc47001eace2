-- The number of each question.
use Rattle.std.specs.Prelude.{ℕ}
use Rattle.store.specs.declared.denial.Question.{Question}
use Rattle.store.specs.declared.denial.Question.TheVariants.{Unused, Fits, Room, Alive, Inside}

abbrev pub number : Question → ℕ
number Unused = 60
number Fits = 61
number Room = 62
number Alive = 63
number Inside = 64
