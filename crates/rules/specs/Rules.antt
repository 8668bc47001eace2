-- The steps of a thread: a constructor for each rule and for each cause of a wait.
use Rattle.std.specs.Prelude.{◌≡◌, ℕ, ◌+◌, ◌-◌, ◌*◌, ◌%◌, ◌^◌, ◌<◌, ◌≤◌, min, Bool, true, false, ◌&&◌, ◌||◌, List, [], ◌∷◌, ◌++◌, length, Some, None, ◌==◌, bit_and, bit_or, bit_xor, nat_lt, slice_index, slice_set}
use Rattle.std.proofs.Math.Option.{some}
use Rattle.std.proofs.Math.ListN.{get_elem?}
use Rattle.reader.specs.declared.values.Value.{Value}
use Rattle.reader.specs.declared.values.Value.TheVariants as v
use Rattle.reader.specs.declared.values.Operand.{Operand}
use Rattle.reader.specs.declared.operations.Operation.{Operation}
use Rattle.reader.specs.declared.operations.Operation.TheVariants as o
use Rattle.reader.specs.declared.operations.Arithmetic.{Arithmetic}
use Rattle.reader.specs.declared.operations.Arithmetic.TheVariants.{Add, Subtract, Times, BitAnd, BitOr, BitXor}
use Rattle.reader.specs.declared.operations.Comparison.{Comparison}
use Rattle.reader.specs.declared.operations.Comparison.TheVariants.{Equal, Less}
use Rattle.reader.specs.declared.operations.Connective.{Connective}
use Rattle.reader.specs.declared.operations.Connective.TheVariants.{And, Or}
use Rattle.reader.specs.Syntax.{Body, return, branch, call, Function}
use Rattle.reader.specs.declared.types.Ty.{Ty}
use Rattle.reader.specs.declared.types.Ty.TheVariants as ty
use Rattle.typing.specs.Signatures.{◌⇒◌, signature}
use Rattle.typing.specs.Typing.{Tail}
use Rattle.store.specs.declared.name.Name.{Name}
use Rattle.store.specs.Packets.{Packet, lookup, new_packet, with_holder, with_byte}
use Rattle.store.specs.Meaning.{Meaning, units}
use Rattle.rules.specs.State.{Held, nothing, integer, truth, owner, alias, Frame, frame, Thread, ended, running, State, thread, queue, made, packets, next_name, Effect, apply, quiet, pushing, popping, storing, making}
pub use Rattle.rules.specs.declared.outcomes.Cause.{Cause}
pub use Rattle.rules.specs.declared.outcomes.Cause.TheVariants.{EmptyQueue, FullQueue, NoName, NoRoom}
pub use Rattle.rules.specs.declared.outcomes.Outcome.{Outcome}
pub use Rattle.rules.specs.declared.outcomes.Outcome.TheVariants.{Advanced, Waits, Ended, Stuck}

-- Operations on integers of 32 bits and on truth values.
abbrev pub calculate : Arithmetic → ℕ → ℕ → ℕ
calculate Add a b = (a + b) % 2 ^ 32
calculate Subtract a b = (a + 2 ^ 32 - b) % 2 ^ 32
calculate Times a b = a * b % 2 ^ 32
calculate BitAnd a b = bit_and a b
calculate BitOr a b = bit_or a b
calculate BitXor a b = bit_xor a b

abbrev pub compare : Comparison → ℕ → ℕ → Bool
compare Equal a b = a == b
compare Less a b = nat_lt a b

abbrev pub connect : Connective → Bool → Bool → Bool
connect And a b = a && b
connect Or a b = a || b

-- A value given at a type, from variables: what is given, and the variables after it.
-- An owner given as packet leaves nothing in its variable, given as alias it stays.
pub data Give : List Held → Value → Ty → Held → List Held → Type 0 where
  an_integer : {vs : List Held} {k : ℕ} → Give vs (v.Integer k) ty.Int (integer k) vs
  a_truth : {vs : List Held} {b : Bool} → Give vs (v.Truth b) ty.Bool (truth b) vs
  copy_integer : {vs : List Held} {x k : ℕ} → get_elem? vs x ≡ some (integer k) → Give vs (v.Variable x) ty.Int (integer k) vs
  copy_truth : {vs : List Held} {x : ℕ} {b : Bool} → get_elem? vs x ≡ some (truth b) → Give vs (v.Variable x) ty.Bool (truth b) vs
  copy_alias : {vs : List Held} {x : ℕ} {n : Name} → get_elem? vs x ≡ some (alias n) → Give vs (v.Variable x) ty.Alias (alias n) vs
  lend : {vs : List Held} {x : ℕ} {n : Name} → get_elem? vs x ≡ some (owner n) → Give vs (v.Variable x) ty.Alias (alias n) vs
  spend : {vs : List Held} {x : ℕ} {n : Name} → get_elem? vs x ≡ some (owner n) → Give vs (v.Variable x) ty.Packet (owner n) (slice_set vs x nothing)

-- a list of values, from the left
pub data Gives : List Held → List Operand → List Ty → List Held → List Held → Type 0 where
  no_more : {vs : List Held} → Gives vs [] [] [] vs
  one_more : {vs ws us : List Held} {a : Operand} {as' : List Operand} {τ : Ty} {τs : List Ty} {x : Held} {xs : List Held}
      → Give vs a.value τ x ws → Gives ws as' τs xs us → Gives vs (a ∷ as') (τ ∷ τs) (x ∷ xs) us

-- what a store has room for
abbrev pub RoomFor : Meaning → (size : ℕ) → Type 0
RoomFor m size = units m + m.need size ≤ m.capacity

-- how large a packet `new` makes
abbrev pub made_size : State → ℕ → ℕ
made_size s k = min k s.store.largest

-- What an operation of thread t does on these arguments outside the thread, and what it gives.
pub data Operates (s : State) (t : ℕ) : Operation → List Held → Effect → List Held → Type 0 where
  computes : {c : Arithmetic} {a b : ℕ} → Operates s t (o.Compute c) (integer a ∷ integer b ∷ []) quiet (integer (calculate c a b) ∷ [])
  compares : {c : Comparison} {a b : ℕ} → Operates s t (o.Compare c) (integer a ∷ integer b ∷ []) quiet (truth (compare c a b) ∷ [])
  connects : {c : Connective} {a b : Bool} → Operates s t (o.Connect c) (truth a ∷ truth b ∷ []) quiet (truth (connect c a b) ∷ [])
  -- the thread makes its next packet, of zeros
  makes : {k : ℕ} → made s t < s.limit → lookup (next_name s t) (packets s) ≡ None → RoomFor s.store (made_size s k)
      → Operates s t o.New (integer k ∷ []) (making t (made s t) (new_packet (next_name s t) (made_size s k))) (owner (next_name s t) ∷ [])
  kills : {n : Name} {p : Packet} → lookup n (packets s) ≡ Some p → Operates s t o.Kill (owner n ∷ []) (storing n None) []
  reads_inside : {n : Name} {p : Packet} {i : ℕ} → lookup n (packets s) ≡ Some p → i < length p.bytes
      → Operates s t o.Read (alias n ∷ integer i ∷ []) quiet (integer (slice_index p.bytes i) ∷ [])
  reads_outside : {n : Name} {p : Packet} {i : ℕ} → lookup n (packets s) ≡ Some p → length p.bytes ≤ i
      → Operates s t o.Read (alias n ∷ integer i ∷ []) quiet (integer 0 ∷ [])
  updates_inside : {n : Name} {p : Packet} {i k : ℕ} → lookup n (packets s) ≡ Some p → i < length p.bytes
      → Operates s t o.Update (alias n ∷ integer i ∷ integer k ∷ []) (storing n (Some (with_byte i (k % 256) p))) []
  updates_outside : {n : Name} {p : Packet} {i k : ℕ} → lookup n (packets s) ≡ Some p → length p.bytes ≤ i
      → Operates s t o.Update (alias n ∷ integer i ∷ integer k ∷ []) quiet []
  -- the oldest name leaves its queue, and its packet is handed to the thread
  dequeues : {q : ℕ} {n : Name} {ns : List Name} {p : Packet} → queue s q ≡ n ∷ ns → lookup n (packets s) ≡ Some p
      → Operates s t (o.Deq q) [] (popping q n (Some (with_holder t p))) (owner n ∷ [])
  enqueues : {q : ℕ} {n : Name} → length (queue s q) < 16 → Operates s t (o.Enq q) (owner n ∷ []) (pushing q n) []

-- What an operation on these arguments waits for.
pub data Delays (s : State) (t : ℕ) : Operation → List Held → Cause → Type 0 where
  on_empty : {q : ℕ} → queue s q ≡ [] → Delays s t (o.Deq q) [] EmptyQueue
  on_full : {q : ℕ} {n : Name} → 16 ≤ length (queue s q) → Delays s t (o.Enq q) (owner n ∷ []) FullQueue
  on_names : {k : ℕ} → made s t ≡ s.limit → Delays s t o.New (integer k ∷ []) NoName
  on_room : {k : ℕ} → made s t < s.limit → (RoomFor s.store (made_size s k) → ⊥) → Delays s t o.New (integer k ∷ []) NoRoom

-- What a thread becomes by a rule, and the effect outside it.
pub data Rule (s : State) (t : ℕ) : Thread → Thread → Effect → Type 0 where
  operates : {f p k : ℕ} {op : Operation} {as' : List Operand} {next : Body} {ρs σs : List Ty} {vs ws xs rs : List Held} {fs : List Frame} {e : Effect}
      → signature s.program op ≡ some (ρs ⇒ σs) → Gives vs as' ρs xs ws → Operates s t op xs e rs
      → Rule s t (running (frame f (call p op as' k next) vs) fs) (running (frame f next (ws ++ rs)) fs) e
  -- a call of a function of the program adds a frame; there are at most eight
  calls : {f g p k : ℕ} {G : Function} {as' : List Operand} {next : Body} {vs ws xs : List Held} {fs : List Frame}
      → get_elem? s.program.functions g ≡ some G → ¬ Tail (length vs) k next → Gives vs as' G.params xs ws → length fs < 7
      → Rule s t (running (frame f (call p (o.Function g) as' k next) vs) fs) (running (frame g G.body xs) (frame f next ws ∷ fs)) quiet
  -- a tail call replaces the frame
  tail_calls : {f g p k : ℕ} {G : Function} {as' : List Operand} {next : Body} {vs ws xs : List Held} {fs : List Frame}
      → get_elem? s.program.functions g ≡ some G → Tail (length vs) k next → Gives vs as' G.params xs ws
      → Rule s t (running (frame f (call p (o.Function g) as' k next) vs) fs) (running (frame g G.body xs) fs) quiet
  -- a return binds its values in the frame below
  returns : {f g p : ℕ} {F : Function} {as' : List Operand} {next : Body} {vs ws xs us : List Held} {fs : List Frame}
      → get_elem? s.program.functions f ≡ some F → Gives vs as' F.results xs ws
      → Rule s t (running (frame f (return p as') vs) (frame g next us ∷ fs)) (running (frame g next (us ++ xs)) fs) quiet
  -- the last one ends the thread
  ends : {f p : ℕ} {F : Function} {as' : List Operand} {vs ws xs : List Held}
      → get_elem? s.program.functions f ≡ some F → Gives vs as' F.results xs ws
      → Rule s t (running (frame f (return p as') vs) []) ended quiet
  if_true : {f p : ℕ} {a : Operand} {e₁ e₂ : Body} {vs : List Held} {fs : List Frame} → Give vs a.value ty.Bool (truth true) vs
      → Rule s t (running (frame f (branch p a e₁ e₂) vs) fs) (running (frame f e₁ vs) fs) quiet
  if_false : {f p : ℕ} {a : Operand} {e₁ e₂ : Body} {vs : List Held} {fs : List Frame} → Give vs a.value ty.Bool (truth false) vs
      → Rule s t (running (frame f (branch p a e₁ e₂) vs) fs) (running (frame f e₂ vs) fs) quiet

-- Why a thread waits. Its arguments are there: where one is missing, no cause stands.
pub data WaitsFor (s : State) (t : ℕ) : Thread → Cause → Type 0 where
  delayed : {f p k : ℕ} {op : Operation} {as' : List Operand} {next : Body} {ρs σs : List Ty} {vs ws xs : List Held} {fs : List Frame} {c : Cause}
      → signature s.program op ≡ some (ρs ⇒ σs) → Gives vs as' ρs xs ws → Delays s t op xs c
      → WaitsFor s t (running (frame f (call p op as' k next) vs) fs) c

-- What a rule, a cause or the end of a thread answers to a step.
pub data Moves (s : State) (t : ℕ) : Outcome → State → Type 0 where
  advances : {r : Thread} {e : Effect} → Rule s t (thread s t) r e → Moves s t Advanced (apply t r e s)
  waits : {c : Cause} → WaitsFor s t (thread s t) c → Moves s t (Waits c) s
  has_ended : thread s t ≡ ended → Moves s t Ended s

-- A step: by one of these; stuck, with nothing altered, where there is none.
pub data Step (s : State) (t : ℕ) : Outcome → State → Type 0 where
  moves : {a : Outcome} {s' : State} → Moves s t a s' → Step s t a s'
  sticks : ((a : Outcome) (s' : State) → Moves s t a s' → ⊥) → Step s t Stuck s

-- a thread would advance when a step of it now would
abbrev pub WouldAdvance : State → ℕ → Type 0
WouldAdvance s t = (s' : State) × Step s t Advanced s'
