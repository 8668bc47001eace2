-- What a move of a thread means: the thread after it, and the effect outside.
use Rattle.std.specs.Prelude.{◌≡◌, ◌≢◌, ◌↔◌, ◌⊎◌, ℕ, ◌+◌, ◌<◌, ◌≤◌, List, [], ◌∷◌, ◌++◌, length, slice_get, Some, None, Ok, Err, Option, Result}
use Rattle.reader.specs.declared.operations.Operation.{Operation}
use Rattle.reader.specs.declared.values.Value.{Value}
use Rattle.reader.specs.declared.values.Value.TheVariants as value
use Rattle.reader.specs.declared.values.Values.{Values}
use Rattle.reader.specs.declared.values.Operand.{Operand}
use Rattle.reader.specs.Syntax.{Function}
use Rattle.rows.specs.Rows.{items}
use Rattle.std.proofs.Math.Option.{some}
use Rattle.std.proofs.Math.ListN.{get_elem?}
use Rattle.store.specs.declared.name.Name.{Name}
use Rattle.store.specs.Packets.{Packet, lookup, new_packet, with_holder, with_byte}
use Rattle.rules.specs.declared.held.Held.{Held}
use Rattle.rules.specs.declared.held.Held.TheVariants as held
use Rattle.rules.specs.State as state
use Rattle.rules.specs.State.{State, frame, Thread, ended, running, thread, queue, made, packets, next_name, Effect, quiet, pushing, popping, storing, making}
use Rattle.rules.specs.declared.outcomes.Cause.{Cause}
use Rattle.rules.specs.declared.outcomes.Outcome.{Outcome}
use Rattle.rules.specs.declared.outcomes.Outcome.TheVariants.{Advanced, Waits, Ended, Stuck}
use Rattle.rules.specs.Rules.{RoomFor, Gives, Operates, Delays, Rule, Step}
use Rattle.code.specs.declared.copies.Code.{Code}
use Rattle.code.specs.Copies.{bytes_of, program_of}
use Rattle.code.specs.Sights.{sees, values_of, calling, Argued}
use Rattle.frames.specs.declared.frame.Frame.{Frame}
use Rattle.frames.specs.Giving.{bound}
use Rattle.frames.specs.Threads.{frame_of, gone_on}
use Rattle.machine.specs.States.{At}
use Rattle.machine.specs.declared.moves.Draft.{Draft}
use Rattle.machine.specs.declared.moves.Change.{Change}
use Rattle.machine.specs.declared.moves.Change.TheVariants.{Go, Bind, Spend, Top, Enter, Leave, End}
use Rattle.machine.specs.declared.moves.Outside.{Outside}
use Rattle.machine.specs.declared.moves.Outside.TheVariants.{Nothing, Make, Discard, Write, Take, Put}
use Rattle.machine.specs.declared.moves.Move.{Move}

-- a change of the frames alone
abbrev pub quiet_move : Change → Move
quiet_move c = record { change = c; outside = Nothing }

-- a thread after a change of its frames into those of a draft, in a program of the bytes b
abbrev pub changed : List ℕ → Draft → Change → Thread → Thread
changed b d (Go place) r = gone_on (sees b place) None None r
changed b d (Bind place x) r = gone_on (sees b place) None (Some x) r
changed b d (Spend place v) r = gone_on (sees b place) (Some v) None r
changed b d Top ended = ended
changed b d Top (running g fs) = running (frame_of b d.top) fs
changed b d Enter ended = ended
changed b d Enter (running h fs) = running (frame_of b d.top) (frame_of b d.caller ∷ fs)
changed b d Leave ended = ended
changed b d Leave (running g []) = ended
changed b d Leave (running g (h ∷ fs)) = running (frame_of b d.top) fs
changed b d End r = ended

-- a packet that is alive becomes another
abbrev pub altered : Option Packet → (Packet → Effect) → Effect
altered None f = quiet
altered (Some p) f = f p

abbrev pub effect_of : State → (t : ℕ) → Outside → Effect
effect_of s t Nothing = quiet
effect_of s t (Make size) = making t (made s t) (new_packet (next_name s t) size)
effect_of s t (Discard n) = storing n None
effect_of s t (Write n i k) = altered (lookup n (packets s)) (λ p. storing n (Some (with_byte i k p)))
effect_of s t (Take q n) = altered (lookup n (packets s)) (λ p. popping q n (Some (with_holder t p)))
effect_of s t (Put q n) = pushing q n

-- a thread that runs has room for what is bound
abbrev pub Takes : Option Held → Thread → Type 0
Takes x ended = ⊥
Takes x (running (frame f node vs) fs) = length vs + length (bound x) ≤ 16

-- what a change needs of the thread: that it runs, with room for what is bound, with a frame below to leave to, or with room for one more
abbrev pub Roomy : Change → Thread → Type 0
Roomy (Go place) r = Takes None r
Roomy (Bind place x) r = Takes (Some x) r
Roomy (Spend place v) r = Takes None r
Roomy Top ended = ⊥
Roomy Top (running g fs) = Unit {0}
Roomy Enter ended = ⊥
Roomy Enter (running h fs) = length fs < 7
Roomy Leave ended = ⊥
Roomy Leave (running g []) = ⊥
Roomy Leave (running g (h ∷ fs)) = Unit {0}
Roomy End r = Unit {0}

-- a packet alive
abbrev pub Alive : State → Name → Type 0
Alive s n = (p : Packet) × (lookup n (packets s) ≡ Some p)

-- what may be done outside: the store grants it, and the queues have it or have room
abbrev pub Allowed : State → (t : ℕ) → Outside → Type 0
Allowed s t Nothing = Unit {0}
Allowed s t (Make size) = (lookup (next_name s t) (packets s) ≡ None) × (size ≤ s.store.largest) × RoomFor s.store size × (made s t < s.limit)
Allowed s t (Discard n) = Alive s n
Allowed s t (Write n i k) = (p : Packet) × (lookup n (packets s) ≡ Some p) × (i < length p.bytes)
Allowed s t (Take q n) = Alive s n × ((ns : List Name) × (queue s q ≡ n ∷ ns))
Allowed s t (Put q n) = (q < length s.queues) × (length (queue s q) < 16)

-- what thread t does next, its new frames being drafted, or the outcome of a step that is no advance
abbrev pub Decided : List ℕ → State → (t : ℕ) → Draft → Result Move Outcome → Type 0
Decided b s t d (Ok m) = Rule s t (thread s t) (changed b d m.change (thread s t)) (effect_of s t m.outside) × Roomy m.change (thread s t) × Allowed s t m.outside
Decided b s t d (Err a) = (a ≢ Advanced) × Step s t a s

-- what an operation does on these arguments and what it gives, or why neither
abbrev pub Operated : State → (t : ℕ) → Operation → List Held → Result (Outside × Option Held) Outcome → Type 0
Operated s t op xs (Ok x) = Operates s t op xs (effect_of s t x.0) (bound x.1) × Allowed s t x.0
Operated s t op xs (Err Advanced) = ⊥
Operated s t op xs (Err (Waits c)) = Delays s t op xs c
Operated s t op xs (Err Ended) = ⊥
Operated s t op xs (Err Stuck) = ((e : Effect) (rs : List Held) → ¬ Operates s t op xs e rs) × ((c : Cause) → ¬ Delays s t op xs c)

-- an operation that gives nothing, and one that gives a value
abbrev pub alone : Result Outside Outcome → Result (Outside × Option Held) Outcome
alone (Ok o) = Ok (o, None)
alone (Err e) = Err e

abbrev pub bringing : Result (Outside × Held) Outcome → Result (Outside × Option Held) Outcome
bringing (Ok x) = Ok (x.0, Some x.1)
bringing (Err e) = Err e

-- what a thread with this frame on top does next at a call of an operation on a list of arguments
abbrev pub Serves : Code → State → (t : ℕ) → Frame → Operation → Values → Result Move Outcome → Type 0
Serves c s t f op l r = (p : ℕ) (fs : List state.Frame) (d : Draft) → At c s t f (calling (bytes_of c) p op (values_of (bytes_of c) l)) fs → Decided (bytes_of c) s t d r

-- what a return of the list l from the frame f gives at the results of its function, where it joins the variables of the frame g;
-- or there is no way to give it, or no room
abbrev pub Returned : Code → (f : Frame) → (l : Values) → (g : Frame) → Option ℕ → (joined : Frame) → Type 0
Returned c f l g (Some stop) h =
    (F : Function) × (as' : List Operand) × (xs ws : List Held) × (get_elem? (program_of c).functions f.function ≡ some F) × (values_of (bytes_of c) l ≡ Ok (as', stop))
    × Gives (items f.variables) as' F.results xs ws × (h.function ≡ g.function) × (h.place ≡ g.place) × (items h.variables ≡ items g.variables ++ xs)
Returned c f l g None h =
    (F : Function) → get_elem? (program_of c).functions f.function ≡ some F → length (items g.variables) + length F.results ≤ 16 → (as' : List Operand) (stop : ℕ) → values_of (bytes_of c) l ≡ Ok (as', stop)
    → (xs ws : List Held) → ¬ Gives (items f.variables) as' F.results xs ws

-- the arguments of a call, n of them, or an outcome where there are not so many
abbrev pub Argues : List ℕ → Values → (n : ℕ) → Result (List Value × ℕ) Outcome → Type 0
Argues b l n (Ok x) = Argued b l n (Some x)
Argues b l n (Err e) = (e ≡ Stuck) × Argued b l n None

-- an answer that is Ok with what a value of a kind carries, exactly where such a value is held
abbrev pub Finds : {X : Type 0} → (kind : X → Held) → Option Held → Result X Outcome → Type 0
Finds {X} kind h r = (x : X) → (h ≡ Some (kind x)) ↔ (r ≡ Ok x)

-- likewise the name of a packet, where an alias of it can be given
abbrev pub FindsAlias : Option Held → Result Name Outcome → Type 0
FindsAlias h r = (n : Name) → ((h ≡ Some (held.Alias n)) ⊎ (h ≡ Some (held.Owner n))) ↔ (r ≡ Ok n)

-- likewise the variable and the name of an owner
abbrev pub FindsOwner : List Held → Value → Result (ℕ × Name) Outcome → Type 0
FindsOwner vs v r = (x : ℕ) (n : Name) → ((v ≡ value.Variable x) × (slice_get vs x ≡ Some (held.Owner n))) ↔ (r ≡ Ok (x, n))
