-- The node is the one that the place of the top frame shows; what stands below it is known by the status.
use Rattle.std.specs.Prelude.{slice_get}
use Rattle.std.proofs.Common.{length, ◌-◌, refl, sym, subst, ap, ◌∙◌}
use Rattle.code.specs.Copies.{bytes_of}
use Rattle.code.specs.Sights.{ending, values_of}
use Rattle.machine.specs.States.{state_of, At}
use Rattle.machine.proofs.Changes.{length_below}
use Rattle.machine.proofs.Decides.{decided-ended, ended-by_status, at-node, alone, over_caller, no_caller, stuck-lost}
use Rattle.machine.proofs.memory.Memory.decide.Goals as goal

pub returns-in_default : goal.returns-in_default
returns-in_default g c =
    decided-ended (bytes_of c.args.self.now.code) (state_of c.args.self.now (g.S.Store.meaning c.args.store.now)) c.args.thread c.thread-running.result.now (c.thread-running.ensures (g.S.Store.meaning c.args.store.now)) c.in_default.is

pub returns-in-Return-Last : goal.returns-in-Return-Last
returns-in-Return-Last g c =
    let m = g.S.Store.meaning c.args.store.now in
    let s = state_of c.args.self.now m in
    let b = bytes_of c.args.self.now.code in
    let at = at-node c.args.self.now.code s c.args.thread c.thread-running.result.now c.in-Running.top c.in-Running.below refl c.requires (c.thread-running.ensures m) c.in-Running.is (rw c.in-Return-Last.is-0 at c.sight.ensures) in
    c.end.ensures s c.args.thread c.in-Running.top.place
    (subst (At c.args.self.now.code s c.args.thread c.in-Running.top (ending c.in-Running.top.place (values_of b c.in-Return-Last.values)))
    (alone b c.thread-running.result.now c.in-Running.top c.in-Running.below c.status-status.result c.in-Running.is (c.status-status.ensures b) c.in-Return-Last.is-1) at)

pub returns-in-Some : goal.returns-in-Some
returns-in-Some g c =
    let m = g.S.Store.meaning c.args.store.now in
    let s = state_of c.args.self.now m in
    let b = bytes_of c.args.self.now.code in
    let at = at-node c.args.self.now.code s c.args.thread c.thread-running.result.now c.in-Running.top c.in-Running.below refl c.requires (c.thread-running.ensures m) c.in-Running.is (rw c.in-Return-Nested.is-0 at c.sight.ensures) in
    let o = over_caller b c.thread-running.result.now c.in-Running.top c.in-Running.below c.in-Some.caller.now c.in-Running.is (c.in-Some.ensures.value ∙ ap (λ fs. slice_get fs (length fs - 1)) c.as_slice.ensures) in
    c.leave.ensures s c.args.thread c.in-Running.top.place o.0
    (subst (At c.args.self.now.code s c.args.thread c.in-Running.top (ending c.in-Running.top.place (values_of b c.in-Return-Nested.values))) o.1 at)

pub returns-in-None : goal.returns-in-None
returns-in-None g c =
    let b = bytes_of c.args.self.now.code in
    absurd (no_caller b c.thread-running.result.now c.in-Running.top c.in-Running.below c.status-status.result c.in-Running.is (c.status-status.ensures b) c.in-Return-Nested.is-1 (c.in-None.ensures.value ∙ ap (λ fs. slice_get fs (length fs - 1)) c.as_slice.ensures))

pub returns-in-Return-Ended : goal.returns-in-Return-Ended
returns-in-Return-Ended g c =
    let m = g.S.Store.meaning c.args.store.now in
    let b = bytes_of c.args.self.now.code in
    ended-by_status b (state_of c.args.self.now m) c.args.thread c.thread-running.result.now c.status-status.result (c.thread-running.ensures m) (c.status-status.ensures b) c.in-Return-Ended.is-1

pub returns-in-Branch-default : goal.returns-in-Branch-default
returns-in-Branch-default g c =
    let m = g.S.Store.meaning c.args.store.now in
    let s = state_of c.args.self.now m in
    c.branch-top.ensures c.args.self.now.code s c.args.thread c.in-Running.top.place _ c.args.draft.now
    (at-node c.args.self.now.code s c.args.thread c.thread-running.result.now c.in-Running.top c.in-Running.below refl c.requires (c.thread-running.ensures m) c.in-Running.is (rw c.in-Branch-default.is-0 at c.sight.ensures))

pub returns-in-Call-default : goal.returns-in-Call-default
returns-in-Call-default g c =
    let m = g.S.Store.meaning c.args.store.now in
    let s = state_of c.args.self.now m in
    let b = bytes_of c.args.self.now.code in
    c.call.ensures c.in-Running.top.place _ (length_below b c.in-Running.below ∙ sym c.len.ensures)
    (at-node c.args.self.now.code s c.args.thread c.thread-running.result.now c.in-Running.top c.in-Running.below refl c.requires (c.thread-running.ensures m) c.in-Running.is (rw c.in-Call-default.is-0 at c.sight.ensures))

pub returns-in-Nothing-default : goal.returns-in-Nothing-default
returns-in-Nothing-default g c =
    let m = g.S.Store.meaning c.args.store.now in
    let s = state_of c.args.self.now m in
    stuck-lost
    (at-node c.args.self.now.code s c.args.thread c.thread-running.result.now c.in-Running.top c.in-Running.below refl c.requires (c.thread-running.ensures m) c.in-Running.is (rw c.in-Nothing-default.is-0 at c.sight.ensures))
