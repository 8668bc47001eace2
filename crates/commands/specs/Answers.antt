-- Answers of the calls on a store, and their text.
use Rattle.std.specs.Prelude.{ℕ, List, ◌++◌, Ok, Err, Result, codes, decimal}
use Rattle.commands.specs.declared.answers.Answer.{Answer}
use Rattle.commands.specs.declared.answers.Answer.TheVariants.{Granted, Number, Denied}
use Rattle.store.specs.declared.denial.Denial.{Denial}
use Rattle.store.specs.Questions.{number}

abbrev pub to_grant : Result (Unit {0}) Denial → Answer
to_grant (Ok u) = Granted
to_grant (Err d) = Denied d

abbrev pub to_number : Result ℕ Denial → Answer
to_number (Ok n) = Number n
to_number (Err d) = Denied d

-- granted, the number, or denied with the numbers of the store's kind and of the question
abbrev pub answer_text : Answer → List ℕ
answer_text Granted = codes "granted"
answer_text (Number n) = decimal n
answer_text (Denied d) = codes "denied " ++ (decimal d.kind ++ (codes " " ++ decimal (number d.question)))
