-- A frame enters where there is room, whatever the bytes are.
use Rattle.std.proofs.Common.{◌≡◌, ◌<◌, List, [], length, Some, None, Option, refl, sym, subst, arith}
use Rattle.rules.specs.State as state
use Rattle.rules.specs.State.{frame, ended, running}
use Rattle.rules.specs.declared.held.Held.{Held}
use Rattle.frames.specs.Threads.{thread_of, Bindable}
use Rattle.machine.specs.Moves.{Takes, Roomy}
use Rattle.machine.specs.declared.moves.Change.{Change}
use Rattle.machine.specs.declared.moves.Change.TheVariants.{Enter}
use Rattle.machine.proofs.moves.Change.apply.Goals as goal

-- a thread with room for a frame runs, with fewer than seven below
with_room : (o : state.Thread) → Roomy Enter o → (h : state.Frame) × (fs : List state.Frame) × (o ≡ running h fs) × (length fs < 7)
with_room ended roomy = absurd roomy
with_room (running h fs) roomy = (h, fs, refl, roomy)

-- what is bound finds the room that is asked for it
bindable : (x : Option Held) (o : state.Thread) → Takes x o → Bindable x o
bindable x ended takes = absurd takes
bindable x (running (frame f node vs) fs) takes = takes

pub unwrap-requires : goal.unwrap-requires
unwrap-requires c = (c.advance.ensures.room []).1 (bindable None (thread_of [] c.args.thread.now) (subst (λ (a : Change). Roomy a (thread_of [] c.args.thread.now)) c.in-Go.is (c.requires [])))

pub unwrap-requires-in-Bind : goal.unwrap-requires-in-Bind
unwrap-requires-in-Bind c =
    (c.advance-in-Bind.ensures.room []).1 (bindable (Some c.in-Bind.held) (thread_of [] c.args.thread.now) (subst (λ (a : Change). Roomy a (thread_of [] c.args.thread.now)) c.in-Bind.is (c.requires [])))

pub unwrap-requires-in-Spend : goal.unwrap-requires-in-Spend
unwrap-requires-in-Spend c =
    (c.advance-in-Spend.ensures.room []).1 (bindable None (thread_of [] c.args.thread.now) (subst (λ (a : Change). Roomy a (thread_of [] c.args.thread.now)) c.in-Spend.is (c.requires [])))

pub unwrap-requires-in-Enter : goal.unwrap-requires-in-Enter
unwrap-requires-in-Enter c =
    let w = with_room (thread_of [] c.args.thread.now) (subst (λ (a : Change). Roomy a (thread_of [] c.args.thread.now)) c.in-Enter.is (c.requires [])) in
    (c.enter.ensures.room []).1 (subst (λ (o : state.Thread). length (state.frames o) < 8) (sym w.2) (let h = w.3 in omega arith))
