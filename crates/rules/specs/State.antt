-- The state of a machine that runs a program, and the changes that a rule makes to it.
use Rattle.std.specs.Prelude.{ℕ, zero, suc, List, [], ◌∷◌, ◌++◌, Some, None, Option, slice_index, slice_index_or, slice_set}
use Rattle.reader.specs.Syntax.{Body, Program}
use Rattle.store.specs.declared.name.Name.{Name}
use Rattle.store.specs.Packets.{Packet, Packets, insert, remove}
use Rattle.store.specs.Meaning.{Meaning, with_packets}
-- what a variable holds
pub use Rattle.rules.specs.declared.held.Held.{Held}
pub use Rattle.rules.specs.declared.held.Held.TheVariants.{Nothing as nothing, Integer as integer, Truth as truth, Owner as owner, Alias as alias}

-- a function by its number, a node of its body, and what its variables hold, those of them that are bound;
-- while a function that it called runs, a frame stands at the node after the call
pub data Frame : Type 0 where
  frame : ℕ → Body → List Held → Frame

-- a thread has ended, or runs: its frame on top, then those below
pub data Thread : Type 0 where
  ended : Thread
  running : Frame → List Frame → Thread

pub record State : Type 0 where
  pub program : Program
  -- thread 1 stands first
  pub threads : List Thread
  -- 0 `receive`, 1 `transmit`, then the program's own; the oldest name stands first
  pub queues : List (List Name)
  -- how many packets each maker made: the network first, then the threads
  pub counts : List ℕ
  -- how many packets a maker may make
  pub limit : ℕ
  pub store : Meaning

-- threads count from 1
abbrev pub thread : State → ℕ → Thread
thread s zero = ended
thread s (suc i) = slice_index_or s.threads i ended

abbrev pub frames : Thread → List Frame
frames ended = []
frames (running f fs) = f ∷ fs

abbrev pub queue : State → ℕ → List Name
queue s q = slice_index_or s.queues q []

abbrev pub made : State → ℕ → ℕ
made s m = slice_index s.counts m

abbrev pub packets : State → Packets
packets s = s.store.packets

abbrev pub name : (maker count : ℕ) → Name
name m c = record { maker = m; count = c }

-- the name of the packet that a maker makes next
abbrev pub next_name : State → (maker : ℕ) → Name
next_name s m = name m (made s m)

-- a queue gains a name at its end, or loses the one at its front
pub data Edit : Type 0 where
  push : Name → Edit
  pop : Edit

abbrev pub edited : Edit → List Name → List Name
edited (push n) ns = ns ++ (n ∷ [])
edited pop [] = []
edited pop (n ∷ ns) = ns

-- the packets with this one in the place of a name, or with none
unfoldable pub put : Name → Option Packet → Packets → Packets
put n None ps = remove n ps
put n (Some p) ps = insert n p ps

-- What a rule does outside its thread: at most one edit of a queue, at most one new count of a maker, and some packets made, altered or dropped.
pub record Effect : Type 0 where
  pub edit : Option (ℕ × Edit)
  pub count : Option (ℕ × ℕ)
  pub puts : List (Name × Option Packet)

abbrev pub lined : List (List Name) → Option (ℕ × Edit) → List (List Name)
lined qs None = qs
lined qs (Some e) = slice_set qs e.0 (edited e.1 (slice_index_or qs e.0 []))

abbrev pub counted : List ℕ → Option (ℕ × ℕ) → List ℕ
counted cs None = cs
counted cs (Some c) = slice_set cs c.0 c.1

abbrev pub stored : Packets → List (Name × Option Packet) → Packets
stored ps [] = ps
stored ps (x ∷ xs) = stored (put x.0 x.1 ps) xs

-- a state after an effect, its threads as they are
abbrev pub affected : Effect → State → State
affected e s = record {
  program = s.program;
  threads = s.threads;
  queues = lined s.queues e.edit;
  counts = counted s.counts e.count;
  limit = s.limit;
  store = with_packets s.store (stored (packets s) e.puts);
}

-- the threads with another in the place of thread t
abbrev pub replaced : List Thread → ℕ → Thread → List Thread
replaced ts zero r = ts
replaced ts (suc i) r = slice_set ts i r

abbrev pub with_thread : ℕ → Thread → State → State
with_thread t r s = record {
  program = s.program;
  threads = replaced s.threads t r;
  queues = s.queues;
  counts = s.counts;
  limit = s.limit;
  store = s.store;
}

-- what thread t leaves that becomes r, with an effect
abbrev pub apply : ℕ → Thread → Effect → State → State
apply t r e s = with_thread t r (affected e s)

-- The effects of the rules.
abbrev pub quiet : Effect
quiet = record { edit = None; count = None; puts = [] }

abbrev pub pushing : ℕ → Name → Effect
pushing q n = record { edit = Some (q, push n); count = None; puts = [] }

-- the name at the front leaves the queue, and its packet becomes p
abbrev pub popping : ℕ → Name → Option Packet → Effect
popping q n p = record { edit = Some (q, pop); count = None; puts = (n, p) ∷ [] }

abbrev pub storing : Name → Option Packet → Effect
storing n p = record { edit = None; count = None; puts = (n, p) ∷ [] }

-- a maker who made c packets makes one more
abbrev pub making : (maker c : ℕ) → Packet → Effect
making m c p = record { edit = None; count = Some (m, suc c); puts = (name m c, Some p) ∷ [] }
