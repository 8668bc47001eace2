-- What the memory of a machine stands for.
use Rattle.std.specs.Prelude.{◌≡◌, ℕ, ◌+◌, ◌≤◌, List, ◌∷◌, map, take, length, Some, None, Option}
use Rattle.std.proofs.Math.Option.{some}
use Rattle.std.proofs.Math.ListN.{get_elem?}
use Rattle.reader.specs.declared.operations.Operation.{Operation}
use Rattle.reader.specs.declared.values.Operand.{Operand}
use Rattle.reader.specs.declared.types.Ty.{Ty}
use Rattle.reader.specs.Syntax.{Body, call, Function}
use Rattle.typing.specs.Signatures.{◌⇒◌, signature}
use Rattle.store.specs.Packets.{lookup}
use Rattle.store.specs.Meaning.{Meaning}
use Rattle.rows.specs.Rows.{items}
use Rattle.rules.specs.State as state
use Rattle.rules.specs.State.{frame, running, State, thread, packets, made, next_name}
use Rattle.rules.specs.declared.held.Held.{Held}
use Rattle.rules.specs.Calls.{Machine, unloaded, loaded}
use Rattle.code.specs.Copies.{bytes_of, program_of}
use Rattle.frames.specs.Threads.{thread_of}
use Rattle.code.specs.declared.copies.Code.{Code}
use Rattle.frames.specs.declared.frame.Frame.{Frame}
use Rattle.machine.specs.declared.memory.Memory.{Memory}

-- over a store that means m
abbrev pub state_of : Memory → Meaning → State
state_of c m = record {
  program = program_of c.code;
  threads = map (thread_of (bytes_of c.code)) (take (program_of c.code).threads c.threads);
  queues = map items (take (2 + (program_of c.code).queues) c.queues);
  counts = take (1 + (program_of c.code).threads) c.counts;
  limit = c.limit;
  store = m;
}

abbrev pub machine_of : Option Memory → Meaning → Machine
machine_of None m = unloaded m
machine_of (Some c) m = loaded (state_of c m)

-- What a step of thread t relies on, in every state that calls lead to.
pub record Fit (s : State) (t : ℕ) : Type 0 where
  -- the thread is one of the program's
  pub from : 1 ≤ t
  pub to : t ≤ s.program.threads
  -- the results of an operation have room among the 16 variables
  pub room : (f p k : ℕ) (op : Operation) (as' : List Operand) (next : Body) (vs : List Held) (fs : List state.Frame) (ρs σs : List Ty)
      → thread s t ≡ running (frame f (call p op as' k next) vs) fs → signature s.program op ≡ some (ρs ⇒ σs) → length vs + length σs ≤ 16
  -- and so have those of a return, in the frame below
  pub below : (f g : ℕ) (node next : Body) (vs us : List Held) (fs : List state.Frame) (F : Function)
      → thread s t ≡ running (frame f node vs) (frame g next us ∷ fs) → get_elem? s.program.functions f ≡ some F → length us + length F.results ≤ 16
  -- the packet that it makes next is not alive
  pub fresh : lookup (next_name s t) (packets s) ≡ None
  -- it made no more than the limit allows
  pub limited : made s t ≤ s.limit

-- a thread of a program stands at a node, in the frame f and over the frames fs
pub record At (c : Code) (s : State) (t : ℕ) (f : Frame) (node : Body) (fs : List state.Frame) : Type 0 where
  pub program : s.program ≡ program_of c
  pub fit : Fit s t
  pub standing : thread s t ≡ running (frame f.function node (items f.variables)) fs
