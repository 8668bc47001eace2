-- What is done outside leaves the threads, so the change finds the thread as it was.
use Rattle.std.proofs.Common.{ap, sym, ◌∙◌, subst}
use Rattle.rules.specs.State.{thread}
use Rattle.code.specs.Copies.{bytes_of}
use Rattle.machine.specs.States.{state_of}
use Rattle.machine.specs.Moves.{effect_of, Roomy}
use Rattle.machine.proofs.Changes.{thread_any, thread_affected, performs}
use Rattle.machine.proofs.memory.Memory.perform.Goals as goal

pub change-requires-clause-roomy : goal.change-requires-clause-roomy
change-requires-clause-roomy g c = λ m.
    let before = state_of c.args.self.now (g.S.Store.meaning c.args.store.now) in
    let between = g.S.Store.meaning c.act.new.store in
    let same = thread_any c.act.new.self m between c.args.thread ∙ ap (λ s. thread s c.args.thread) c.act.ensures.state
    ∙ thread_affected (effect_of before c.args.thread c.args.next.outside) before c.args.thread
    in
    subst (Roomy c.args.next.change) (sym same) c.requires.roomy

pub returns-clause-state : goal.returns-clause-state
returns-clause-state g c =
    let before = state_of c.args.self.now (g.S.Store.meaning c.args.store.now) in
    let between = g.S.Store.meaning c.act.new.store in
    performs (bytes_of c.args.self.now.code) (bytes_of c.act.new.self.code) c.args.draft.now c.args.next.change c.args.thread (effect_of before c.args.thread c.args.next.outside)
    before (state_of c.act.new.self between) (state_of c.change.new.self between) c.act.ensures.state (ap bytes_of c.act.ensures.code) (c.change.ensures.state between)
