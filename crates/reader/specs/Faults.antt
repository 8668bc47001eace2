-- A fault: the question answered no, which knows its layer, the function (255 outside records) and the byte place.
use Rattle.std.specs.Prelude.{ℕ}
use Rattle.reader.specs.declared.questions.Question.{Question}
use Rattle.reader.specs.declared.faults.Fault.{Fault}

abbrev pub fault : Question → (function place : ℕ) → Fault
fault q f p = record { question = q; function = f; place = p }
