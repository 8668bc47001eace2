-- Answers of the calls on a machine, and their text.
use Rattle.std.specs.Prelude.{ℕ, List, ◌++◌, Some, None, Ok, Err, Option, Result, codes, decimal}
use Rattle.reader.specs.declared.faults.Fault.{Fault}
use Rattle.verdicts.specs.Lines.{row}
use Rattle.rules.specs.declared.outcomes.Outcome.{Outcome}
use Rattle.rules.specs.declared.outcomes.Outcome.TheVariants as o
use Rattle.rules.specs.declared.questions.Question.{Question}
use Rattle.rules.specs.declared.questions.Refusal.{Refusal}
use Rattle.rules.specs.declared.questions.Refusal.TheVariants as r
use Rattle.rules.specs.Numbers.{cause_number, question_number}
use Rattle.rules.specs.Calls as rules
use Rattle.commands.specs.declared.replies.Reply.{Reply}
use Rattle.commands.specs.declared.replies.Reply.TheVariants.{Granted, Denied, Faulty, Stepped, Ready, Collected}

abbrev pub load_reply : Result (Unit {0}) Refusal → Reply
load_reply (Ok u) = Granted
load_reply (Err (r.Denied q)) = Denied q
load_reply (Err (r.Faulty e)) = Faulty e

abbrev pub arrive_reply : Result (Unit {0}) Question → Reply
arrive_reply (Ok u) = Granted
arrive_reply (Err q) = Denied q

abbrev pub step_reply : Result Outcome Question → Reply
step_reply (Ok a) = Stepped a
step_reply (Err q) = Denied q

abbrev pub ready_reply : Result (Option ℕ) Question → Reply
ready_reply (Ok t) = Ready t
ready_reply (Err q) = Denied q

abbrev pub collect_reply : Result ℕ Question → Reply
collect_reply (Ok n) = Collected n
collect_reply (Err q) = Denied q

-- what the rules answer, without the buffer
abbrev pub replied : rules.Reply → Reply
replied (rules.to_load a) = load_reply a
replied (rules.to_arrive a) = arrive_reply a
replied (rules.to_step a) = step_reply a
replied (rules.to_ready a) = ready_reply a
replied (rules.to_collect a buffer) = collect_reply a

-- granted; denied, with the number of the question; the numbers of the fault; what came of a step; a thread or none; or a size
abbrev pub reply_text : Reply → List ℕ
reply_text Granted = codes "granted"
reply_text (Denied q) = codes "denied " ++ decimal (question_number q)
reply_text (Faulty e) = codes "fault " ++ row e
reply_text (Stepped o.Advanced) = codes "advance"
reply_text (Stepped (o.Waits c)) = codes "wait " ++ decimal (cause_number c)
reply_text (Stepped o.Ended) = codes "ended"
reply_text (Stepped o.Stuck) = codes "stuck"
reply_text (Ready (Some t)) = codes "ready " ++ decimal t
reply_text (Ready None) = codes "ready none"
reply_text (Collected n) = codes "size " ++ decimal n
