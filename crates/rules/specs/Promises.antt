-- What is promised of every machine that calls lead to, from the granted load on: ownership, progress and swap.
use Rattle.std.specs.Prelude.{◌≡◌, ℕ, ◌+◌, ◌≤◌, true, false, ◌≢◌, ◌⊎◌, ◌↔◌, List, [], ◌∷◌, Some, None, Ok, Option}
use Rattle.reader.specs.declared.values.Operand.{Operand}
use Rattle.reader.specs.declared.operations.Operation.TheVariants as o
use Rattle.reader.specs.Programs.{reading}
use Rattle.reader.specs.Syntax.{Body, call, Program}
use Rattle.typing.specs.Typing.{Every, Accepted}
use Rattle.store.specs.declared.name.Name.{Name}
use Rattle.store.specs.Names.{same}
use Rattle.store.specs.Packets.{Packet, lookup}
use Rattle.store.specs.Meaning.{Meaning, units}
use Rattle.rules.specs.State.{Held, owner, alias, Frame, frame, Thread, ended, running, State, thread, frames, packets}
use Rattle.rules.specs.Rules.{Cause, Outcome, Advanced, Waits, Stuck, WaitsFor, Step, WouldAdvance}
use Rattle.rules.specs.Calls.{Machine, unloaded, loaded, Call, load, ready, Reply, to_load, to_ready, initial, Does, Turn, Runs, Needy, Reached}

-- x stands in a list
pub data Among {A : Type 0} (x : A) : List A → Type 0 where
  here : {xs : List A} → Among x (x ∷ xs)
  there : {y : A} {xs : List A} → Among x xs → Among x (y ∷ xs)

-- the sum of f over a list
abbrev pub total : {A : Type 0} → (A → ℕ) → List A → ℕ
total f [] = 0
total f (x ∷ xs) = f x + total f xs

-- 1 for the same name, else 0
unfoldable pub is : Name → Name → ℕ
is n m = elim (same n m) [ true ↦ 1 | false ↦ 0 ]

-- how often a name stands in a queue, and in all queues together
abbrev pub occurs : Name → List Name → ℕ
occurs n ms = total (is n) ms

abbrev pub queued : Name → List (List Name) → ℕ
queued n qs = total (occurs n) qs

-- Ownership.

-- a variable names a packet as owner or as alias
pub data Refers (n : Name) : Held → Type 0 where
  as_owner : Refers n (owner n)
  as_alias : Refers n (alias n)

-- a thread names what its frames' variables hold
pub record ThreadNames (s : State) (t : ℕ) (n : Name) : Type 0 where
  pub function : ℕ
  pub node : Body
  pub variables : List Held
  pub held : Held
  pub framed : Among (frame function node variables) (frames (thread s t))
  pub among : Among held variables
  pub refers : Refers n held

-- a queue names what it lists
abbrev pub QueueNames : State → Name → Type 0
QueueNames s n = (q : List Name) × Among q s.queues × Among n q

abbrev pub Alive : State → Name → Type 0
Alive s n = (p : Packet) × (lookup n (packets s) ≡ Some p)

-- the holder alone names it, and no queue does
pub record HeldOnce (s : State) (n : Name) (p : Packet) : Type 0 where
  pub by_holder : ThreadNames s p.holder n
  pub by_no_other : (t : ℕ) → ThreadNames s t n → t ≡ p.holder
  pub by_no_queue : ¬ QueueNames s n

-- no thread names it, and it stands exactly once in all queues together
pub record QueuedOnce (s : State) (n : Name) : Type 0 where
  pub by_no_thread : (t : ℕ) → ¬ ThreadNames s t n
  pub once : queued n s.queues ≡ 1

-- Each packet alive is named by exactly one thread, its holder, and by no queue; or no thread names it and it stands exactly once in all queues together.
-- Threads and queues name only packets alive.
pub record Owned (s : State) : Type 0 where
  pub once : (n : Name) (p : Packet) → lookup n (packets s) ≡ Some p → HeldOnce s n p ⊎ QueuedOnce s n
  pub threads_alive : (t : ℕ) (n : Name) → ThreadNames s t n → Alive s n
  pub queues_alive : (n : Name) → QueueNames s n → Alive s n

-- Progress.

-- A step of a thread that has not ended is answered, and never stuck. It waits exactly when a cause stands, and otherwise advances.
pub record GoesOn (s : State) (t : ℕ) : Type 0 where
  pub answered : (a : Outcome) × (s' : State) × Step s t a s'
  pub never_stuck : (s' : State) → ¬ Step s t Stuck s'
  pub waits_exactly : (c : Cause) → ((s' : State) × Step s t (Waits c) s') ↔ WaitsFor s t (thread s t) c
  -- a wait alters nothing
  pub wait_alters_nothing : (c : Cause) (s' : State) → Step s t (Waits c) s' → s' ≡ s
  pub else_advances : ((c : Cause) → ¬ WaitsFor s t (thread s t) c) → (a : Outcome) (s' : State) → Step s t a s' → a ≡ Advanced

-- and what a step of any thread answers and leaves is settled
abbrev pub Settled : State → Type 0
Settled s = (t : ℕ) (a b : Outcome) (x y : State) → Step s t a x → Step s t b y → (a ≡ b) × (x ≡ y)

-- Ready is answered, by a thread that would advance exactly when there is one, and alters nothing.
pub record ReadyTells (s : State) : Type 0 where
  pub answered : (x : Option ℕ) × Does (loaded s) ready (to_ready (Ok x)) (loaded s)
  pub some_thread : (t : ℕ) → Does (loaded s) ready (to_ready (Ok (Some t))) (loaded s) → WouldAdvance s t
  pub none_exactly : Does (loaded s) ready (to_ready (Ok None)) (loaded s) ↔ ((t : ℕ) → ¬ WouldAdvance s t)
  pub alters_nothing : (r : Reply) (m : Machine) → Does (loaded s) ready r m → m ≡ loaded s

pub record Progress (s : State) : Type 0 where
  pub goes_on : (t : ℕ) → thread s t ≢ ended → GoesOn s t
  pub settled : Settled s
  pub ready_tells : ReadyTells s

-- Swap.

-- a step uses a queue when its thread's node is an enq or a deq of it
pub data Uses (q : ℕ) : Thread → Type 0 where
  by_enq : {f p k : ℕ} {as' : List Operand} {next : Body} {vs : List Held} {fs : List Frame} → Uses q (running (frame f (call p (o.Enq q) as' k next) vs) fs)
  by_deq : {f p k : ℕ} {as' : List Operand} {next : Body} {vs : List Held} {fs : List Frame} → Uses q (running (frame f (call p (o.Deq q) as' k next) vs) fs)

abbrev pub NoQueueShared : State → (a b : ℕ) → Type 0
NoQueueShared s a b = (q : ℕ) → Uses q (thread s a) → ¬ Uses q (thread s b)

-- Two threads whose steps use no queue in common and advance whichever goes first: both orders leave the same state, its frames, queues, counts and packets.
abbrev pub Swaps : State → Type 0
Swaps s = (a b : ℕ) → a ≢ b → NoQueueShared s a b
    → (s₁ s₂ s₃ s₄ : State) → Step s a Advanced s₁ → Step s₁ b Advanced s₂ → Step s b Advanced s₃ → Step s₃ a Advanced s₄ → s₂ ≡ s₄

-- The whole promise, from the granted load on.
pub record Promise (s : State) : Type 0 where
  pub owned : Owned s
  pub progress : Progress s
  pub swaps : Swaps s

abbrev pub Promised : Machine → Type 0
Promised (unloaded m) = Unit {0}
Promised (loaded s) = Promise s

-- Every run of calls, from nothing loaded over a store in any state, keeps the promise after each of them.
abbrev pub RunsKeep : Type 0
RunsKeep = (m : Meaning) → Needy m → (xs : List Turn) → Runs (unloaded m) xs → Every (λ (x : Turn). Promised x.after) xs

-- The same call by call, for the contract of each.
abbrev pub CallsKeep : Type 0
CallsKeep = (m m' : Machine) (c : Call) (r : Reply) → Reached m → Does m c r m' → Reached m' × Promised m'

-- A load is granted exactly where no question of the machine is answered no and the bytes read as an accepted program, and leaves its first state.
abbrev pub LoadsAccepted : Type 0
LoadsAccepted = (m : Meaning) (b : List ℕ) (l : ℕ) (s : State)
    → Does (unloaded m) (load b l) (to_load (Ok tt)) (loaded s)
    ↔ ((1 ≤ l) × (units m ≡ 0) × (P : Program) × (reading b ≡ Ok P) × Accepted P × (s ≡ initial P l m))

-- Every call of such a machine is answered,
abbrev pub CallsAnswered : Type 0
CallsAnswered = (m : Machine) (c : Call) → Reached m → (r : Reply) × (m' : Machine) × Does m c r m'

-- and what it answers and leaves is settled; only which thread ready names is free.
abbrev pub CallsSettled : Type 0
CallsSettled = (m x y : Machine) (c : Call) (r q : Reply) → Reached m → c ≢ ready → Does m c r x → Does m c q y → (r ≡ q) × (x ≡ y)
