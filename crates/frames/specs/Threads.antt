-- What a thread in the machine's memory stands for, in a program of the bytes b.
use Rattle.std.specs.Prelude.{◌≡◌, ℕ, ◌+◌, ◌<◌, ◌≤◌, List, [], ◌∷◌, ◌++◌, map, reverse, length, Some, None, Option}
use Rattle.rows.specs.declared.row.Row.{Row}
use Rattle.rows.specs.Rows.{items}
use Rattle.rules.specs.State as state
use Rattle.rules.specs.State.{frame, ended, running, frames}
use Rattle.reader.specs.Syntax.{Body}
use Rattle.code.specs.Sights.{sees}
use Rattle.rules.specs.declared.held.Held.{Held}
use Rattle.frames.specs.Giving.{emptied, bound}
use Rattle.frames.specs.declared.frame.Frame.{Frame}
use Rattle.frames.specs.declared.thread.Thread.{Thread}
use Rattle.frames.specs.declared.thread.Thread.TheVariants as t
use Rattle.frames.specs.declared.thread.Status.{Status}
use Rattle.frames.specs.declared.thread.Status.TheVariants as s

-- a frame stands at what its place shows
abbrev pub frame_of : List ℕ → Frame → state.Frame
frame_of b f = frame f.function (sees b f.place) (items f.variables)

-- the frames below the top, the bottom one last
abbrev pub below_of : List ℕ → Row Frame 7 → List state.Frame
below_of b r = reverse (map (frame_of b) (items r))

abbrev pub thread_of : List ℕ → Thread → state.Thread
thread_of b t.Ended = ended
thread_of b (t.Running top below) = running (frame_of b top) (below_of b below)

-- a thread has ended, has one frame, or has more
abbrev pub Stands : Status → state.Thread → Type 0
Stands s.Ended θ = θ ≡ ended
Stands s.Last θ = (f : state.Frame) × (θ ≡ running f [])
Stands s.Nested θ = (f g : state.Frame) × (fs : List state.Frame) × (θ ≡ running f (g ∷ fs))

-- the frame on top, if there is one
abbrev pub IsTop : List ℕ → Thread → Option Frame → Type 0
IsTop b θ None = thread_of b θ ≡ ended
IsTop b θ (Some f) = (fs : List state.Frame) × (thread_of b θ ≡ running (frame_of b f) fs)

-- the frame next below it, if there is one
abbrev pub IsBelow : List ℕ → Thread → Option Frame → Type 0
IsBelow b θ None = length (frames (thread_of b θ)) < 2
IsBelow b θ (Some f) = (g : state.Frame) × (fs : List state.Frame) × (thread_of b θ ≡ running g (frame_of b f ∷ fs))

-- a thread with another frame on top
abbrev pub topped : state.Frame → state.Thread → state.Thread
topped f ended = ended
topped f (running g fs) = running f fs

-- a frame that goes on, with what is bound, and with a variable that may have been emptied
abbrev pub advanced : (next : Body) → (spent : Option ℕ) → (x : Option Held) → state.Frame → state.Frame
advanced next spent x (frame f node vs) = frame f next (emptied spent (vs ++ bound x))

-- the same of the frame on top of a thread
abbrev pub gone_on : (next : Body) → (spent : Option ℕ) → (x : Option Held) → state.Thread → state.Thread
gone_on next spent x ended = ended
gone_on next spent x (running f fs) = running (advanced next spent x f) fs

-- what is bound has room in the frame on top, if there is one
abbrev pub Bindable : Option Held → state.Thread → Type 0
Bindable x ended = Unit {0}
Bindable x (running (frame f node vs) fs) = length vs + length (bound x) ≤ 16

-- with a frame more on top, its caller below it in the place of the one that was on top
abbrev pub entered : (caller callee : state.Frame) → state.Thread → state.Thread
entered c f ended = ended
entered c f (running g fs) = running f (c ∷ fs)

-- without the frame on top, its caller in the place of the one below
abbrev pub left : (caller : state.Frame) → state.Thread → state.Thread
left c ended = ended
left c (running f []) = running f []
left c (running f (g ∷ fs)) = running c fs
