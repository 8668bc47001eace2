-- The calls of a machine: what each is denied for, what it answers and what it leaves; and runs of calls.
use Rattle.std.specs.Prelude.{◌≡◌, ℕ, zero, suc, ◌+◌, ◌<◌, ◌≤◌, List, [], ◌∷◌, ◌++◌, length, drop, replicate, Some, None, Ok, Err, Option, Result}
use Rattle.reader.specs.declared.faults.Fault.{Fault}
use Rattle.reader.specs.Syntax.{Function, Program}
use Rattle.reader.specs.Programs.{reading}
use Rattle.typing.specs.Layers.{verdict}
use Rattle.store.specs.declared.name.Name.{Name}
use Rattle.store.specs.Packets.{Packet, packet, lookup}
use Rattle.store.specs.Meaning.{Meaning, units}
use Rattle.rules.specs.State.{frame, Thread, running, State, queue, made, packets, next_name, Effect, push, affected, popping}
use Rattle.rules.specs.Rules.{Outcome, RoomFor, Step, WouldAdvance}
pub use Rattle.rules.specs.declared.questions.Question.{Question}
pub use Rattle.rules.specs.declared.questions.Question.TheVariants.{Loaded, NoneLoaded, SomeNames, StoreUnused, ThreadExists, Fits, ReceiveFree, NameLeft, Room, Sent, BufferHolds}
pub use Rattle.rules.specs.declared.questions.Refusal.{Refusal}
pub use Rattle.rules.specs.declared.questions.Refusal.TheVariants.{Denied, Faulty}

-- nothing is loaded, over a store; or a program is
pub data Machine : Type 0 where
  unloaded : Meaning → Machine
  loaded : State → Machine

-- a load of bytes with a name limit, an arrival of bytes, a step of a thread, and a collect into a buffer
pub data Call : Type 0 where
  load : List ℕ → ℕ → Call
  arrive : List ℕ → Call
  step : ℕ → Call
  ready : Call
  collect : List ℕ → Call

-- what each call answers; a collect also leaves a buffer
pub data Reply : Type 0 where
  to_load : Result (Unit {0}) Refusal → Reply
  to_arrive : Result (Unit {0}) Question → Reply
  to_step : Result Outcome Question → Reply
  to_ready : Result (Option ℕ) Question → Reply
  to_collect : Result ℕ Question → List ℕ → Reply

-- the first frame of each of n threads: function i is the body of the first
abbrev pub starts : (i n : ℕ) → List Function → List Thread
starts i zero fs = []
starts i (suc n) [] = []
starts i (suc n) (F ∷ fs) = running (frame i F.body []) [] ∷ starts (suc i) n fs

-- the state after a granted load
abbrev pub initial : Program → (limit : ℕ) → Meaning → State
initial P limit m = record {
  program = P;
  threads = starts 0 P.threads P.functions;
  queues = replicate (2 + P.queues) [];
  counts = replicate (1 + P.threads) 0;
  limit = limit;
  store = m;
}

-- an arrival: the network's next packet, with these bytes, at the end of `receive`
abbrev pub arriving : State → List ℕ → Effect
arriving s bs = record { edit = Some (0, push (next_name s 0)); count = Some (0, suc (made s 0)); puts = (next_name s 0, Some (packet 0 bs)) ∷ [] }

-- bytes copied to the start of a buffer; its later bytes stay
abbrev pub copied : List ℕ → (buffer : List ℕ) → List ℕ
copied bs buffer = bs ++ drop (length bs) buffer

-- what a denied call answers; a collect leaves its buffer as it is
abbrev pub denied : Question → Call → Reply
denied q (load b l) = to_load (Err (Denied q))
denied q (arrive bs) = to_arrive (Err q)
denied q (step t) = to_step (Err q)
denied q ready = to_ready (Err q)
denied q (collect buffer) = to_collect (Err q) buffer

-- The first question that is answered no.
pub data Denies : Machine → Call → Question → Type 0 where
  arrive_first : {m : Meaning} {bs : List ℕ} → Denies (unloaded m) (arrive bs) Loaded
  step_first : {m : Meaning} {t : ℕ} → Denies (unloaded m) (step t) Loaded
  ready_first : {m : Meaning} → Denies (unloaded m) ready Loaded
  collect_first : {m : Meaning} {buffer : List ℕ} → Denies (unloaded m) (collect buffer) Loaded
  loaded_already : {s : State} {b : List ℕ} {l : ℕ} → Denies (loaded s) (load b l) NoneLoaded
  no_names : {m : Meaning} {b : List ℕ} {l : ℕ} → l ≡ 0 → Denies (unloaded m) (load b l) SomeNames
  in_use : {m : Meaning} {b : List ℕ} {l : ℕ} → 1 ≤ l → 0 < units m → Denies (unloaded m) (load b l) StoreUnused
  no_thread : {s : State} {t : ℕ} → (1 ≤ t → t ≤ s.program.threads → ⊥) → Denies (loaded s) (step t) ThreadExists
  too_long : {s : State} {bs : List ℕ} → s.store.largest < length bs → Denies (loaded s) (arrive bs) Fits
  all_waiting : {s : State} {bs : List ℕ} → length bs ≤ s.store.largest → 16 ≤ length (queue s 0) → Denies (loaded s) (arrive bs) ReceiveFree
  all_named : {s : State} {bs : List ℕ} → length bs ≤ s.store.largest → length (queue s 0) < 16 → s.limit ≤ made s 0 → Denies (loaded s) (arrive bs) NameLeft
  no_room : {s : State} {bs : List ℕ} → length bs ≤ s.store.largest → length (queue s 0) < 16 → made s 0 < s.limit
      → ¬ RoomFor s.store (length bs) → Denies (loaded s) (arrive bs) Room
  nothing_sent : {s : State} {buffer : List ℕ} → queue s 1 ≡ [] → Denies (loaded s) (collect buffer) Sent
  too_small : {s : State} {buffer : List ℕ} {n : Name} {ns : List Name} {p : Packet} → queue s 1 ≡ n ∷ ns → lookup n (packets s) ≡ Some p
      → length buffer < length p.bytes → Denies (loaded s) (collect buffer) BufferHolds

-- What a call answers, and the machine after it.
pub data Does : Machine → Call → Reply → Machine → Type 0 where
  denies : {m : Machine} {c : Call} {q : Question} {r : Reply} → Denies m c q → r ≡ denied q c → Does m c r m
  -- the program's fault is passed on whole
  faults : {m : Meaning} {b : List ℕ} {l : ℕ} {e : Fault} → 1 ≤ l → units m ≡ 0 → verdict b ≡ Err e
      → Does (unloaded m) (load b l) (to_load (Err (Faulty e))) (unloaded m)
  loads : {m : Meaning} {b : List ℕ} {l : ℕ} {P : Program} → 1 ≤ l → units m ≡ 0 → verdict b ≡ Ok tt → reading b ≡ Ok P
      → Does (unloaded m) (load b l) (to_load (Ok tt)) (loaded (initial P l m))
  arrives : {s : State} {bs : List ℕ} → length bs ≤ s.store.largest → length (queue s 0) < 16 → made s 0 < s.limit → RoomFor s.store (length bs)
      → Does (loaded s) (arrive bs) (to_arrive (Ok tt)) (loaded (affected (arriving s bs) s))
  steps : {s s' : State} {t : ℕ} {a : Outcome} → 1 ≤ t → t ≤ s.program.threads → Step s t a s'
      → Does (loaded s) (step t) (to_step (Ok a)) (loaded s')
  -- any thread that would advance
  finds : {s : State} {t : ℕ} → WouldAdvance s t → Does (loaded s) ready (to_ready (Ok (Some t))) (loaded s)
  finds_none : {s : State} → ((t : ℕ) → ¬ WouldAdvance s t) → Does (loaded s) ready (to_ready (Ok None)) (loaded s)
  -- the oldest packet of `transmit` is copied to the buffer and dropped
  collects : {s : State} {buffer : List ℕ} {n : Name} {ns : List Name} {p : Packet} → queue s 1 ≡ n ∷ ns → lookup n (packets s) ≡ Some p
      → length p.bytes ≤ length buffer
      → Does (loaded s) (collect buffer) (to_collect (Ok (length p.bytes)) (copied p.bytes buffer)) (loaded (affected (popping 1 n None) s))

-- A call made, its answer, and the machine after it.
pub record Turn : Type 0 where
  pub call : Call
  pub reply : Reply
  pub after : Machine

-- calls made one after the other
pub data Runs : Machine → List Turn → Type 0 where
  at_rest : {m : Machine} → Runs m []
  goes_on : {m : Machine} {x : Turn} {xs : List Turn} → Does m x.call x.reply x.after → Runs x.after xs → Runs m (x ∷ xs)

-- the machine that a run leads to
abbrev pub last : Machine → List Turn → Machine
last m [] = m
last m (x ∷ xs) = last x.after xs

-- in a store each packet needs at least one unit
abbrev pub Needy : Meaning → Type 0
Needy m = (size : ℕ) → 1 ≤ m.need size

-- A machine that some calls lead to, from nothing loaded over a store in any state.
pub data Reached : Machine → Type 0 where
  at_first : {m : Meaning} → Needy m → Reached (unloaded m)
  by_call : {m m' : Machine} {c : Call} {r : Reply} → Reached m → Does m c r m' → Reached m'
