-- The number of each question and of each cause of a wait.
use Rattle.std.specs.Prelude.{ℕ}
use Rattle.reader.specs.Questions.{number}
use Rattle.rules.specs.declared.outcomes.Cause.{Cause}
use Rattle.rules.specs.declared.outcomes.Cause.TheVariants.{EmptyQueue, FullQueue, NoName, NoRoom}
use Rattle.rules.specs.declared.questions.Question.{Question}
use Rattle.rules.specs.declared.questions.Question.TheVariants.{Loaded, NoneLoaded, SomeNames, StoreUnused, ThreadExists, Fits, ReceiveFree, NameLeft, Room, Sent, BufferHolds}
use Rattle.rules.specs.declared.questions.Refusal.{Refusal}
use Rattle.rules.specs.declared.questions.Refusal.TheVariants.{Denied, Faulty}

abbrev pub cause_number : Cause → ℕ
cause_number EmptyQueue = 1
cause_number FullQueue = 2
cause_number NoName = 3
cause_number NoRoom = 4

abbrev pub question_number : Question → ℕ
question_number Loaded = 1
question_number NoneLoaded = 2
question_number SomeNames = 3
question_number StoreUnused = 4
question_number ThreadExists = 5
question_number Fits = 6
question_number ReceiveFree = 7
question_number NameLeft = 8
question_number Room = 9
question_number Sent = 10
question_number BufferHolds = 11

-- a program's fault has the number of its own question
abbrev pub refusal_number : Refusal → ℕ
refusal_number (Denied q) = question_number q
refusal_number (Faulty e) = number e.question
