-- Calls on a machine as a script asks for them.
use Rattle.std.specs.Prelude.{◌≡◌, ℕ, List}
use Rattle.rules.specs.Calls as rules
use Rattle.commands.specs.declared.requests.Request.{Request}
use Rattle.commands.specs.declared.requests.Request.TheVariants.{Load, Arrive, Step, Ready, Collect}
use Rattle.commands.specs.declared.replies.Reply.{Reply}
use Rattle.commands.specs.Replies.{replied}

-- the call of the rules, with the bytes that a word spells and the buffer
abbrev pub request_call : Request → (bytes buffer : List ℕ) → rules.Call
request_call (Load w limit) bytes buffer = rules.load bytes limit
request_call (Arrive w) bytes buffer = rules.arrive bytes
request_call (Step t) bytes buffer = rules.step t
request_call Ready bytes buffer = rules.ready
request_call (Collect n) bytes buffer = rules.collect buffer

-- the buffer after an answer
abbrev pub buffered : List ℕ → rules.Reply → List ℕ
buffered b (rules.to_load a) = b
buffered b (rules.to_arrive a) = b
buffered b (rules.to_step a) = b
buffered b (rules.to_ready a) = b
buffered b (rules.to_collect a after) = after

-- a call of the rules that was answered so
abbrev pub Answers : rules.Machine → Request → (bytes buffer : List ℕ) → Reply → (after : List ℕ) → rules.Machine → Type 0
Answers m q bytes buffer a after m' =
    (r : rules.Reply) × rules.Does m (request_call q bytes buffer) r m' × (a ≡ replied r) × (after ≡ buffered buffer r)
