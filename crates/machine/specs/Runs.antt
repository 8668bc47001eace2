-- Calls and answers as values of the code, and runs of them.
use Rattle.std.specs.Prelude.{◌≡◌, ℕ, List, map, take, drop, length, min}
use Rattle.typing.specs.Typing.{Every}
use Rattle.store.specs.Meaning.{Meaning}
use Rattle.rules.specs.Calls as rules
use Rattle.rules.specs.Calls.{Machine, unloaded, to_load, to_arrive, to_step, to_ready, to_collect, Reply, Turn, Runs, last}
use Rattle.rules.specs.Promises.{Promised}
use Rattle.machine.specs.declared.calls.Call.{Call}
use Rattle.machine.specs.declared.calls.Call.TheVariants as call
use Rattle.machine.specs.declared.calls.Answer.{Answer}
use Rattle.machine.specs.declared.calls.Answer.TheVariants as answer

-- the call of the rules that a value is
abbrev pub call_of : {N : ℕ} → Call N → rules.Call
call_of (call.Load b l) = rules.load b.now l
call_of (call.Arrive bs) = rules.arrive bs.now
call_of (call.Step t) = rules.step t
call_of call.Ready = rules.ready
call_of (call.Collect buffer) = rules.collect buffer

abbrev pub reply_of : {N : ℕ} → Answer N → Reply
reply_of (answer.Load r) = to_load r
reply_of (answer.Arrive r) = to_arrive r
reply_of (answer.Step r) = to_step r
reply_of (answer.Ready r) = to_ready r
reply_of (answer.Collect r buffer) = to_collect r buffer

-- as many calls are made as there are places for their answers
abbrev pub made_of : {N : ℕ} → List (Call N) → List (Answer N) → ℕ
made_of calls answers = min (length calls) (length answers)

-- A run over a store that means m: its turns are turns of the rules, from nothing loaded to the machine at the end, with these calls and these answers.
-- Later places for answers stay. After each turn the promise holds.
pub record Ran {N : ℕ} (m : Meaning) (calls : List (Call N)) (before after : List (Answer N)) (end : Machine) : Type 0 where
  pub turns : List Turn
  pub runs : Runs (unloaded m) turns
  pub made : map (λ (x : Turn). x.call) turns ≡ map call_of (take (made_of calls before) calls)
  pub answered : map (λ (x : Turn). x.reply) turns ≡ map reply_of (take (made_of calls before) after)
  pub later : drop (made_of calls before) after ≡ drop (made_of calls before) before
  pub leads : last (unloaded m) turns ≡ end
  pub keeps : Every (λ (x : Turn). Promised x.after) turns
