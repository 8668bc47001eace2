use Rattle.std.proofs.Common.{◌++◌, ap, ◌∙◌}
use Rattle.machine.proofs.Decides.{stuck_ending, leaves, room_below}
use Rattle.machine.proofs.nodes.leave.Goals as goal

pub returns-in-Some : goal.returns-in-Some
returns-in-Some c s t p fs at =
    let (F, as', xs, ws, i, read, gives, same, stays, joined) = c.in-Some.ensures in
    leaves c.args.code.now s t p c.args.top.now F i as' _ _ read gives c.give_results.new.draft _ c.args.below.now at (same ∙ c.copy_from.ensures.function) (stays ∙ c.copy_from.ensures.place)
    (joined ∙ ap (λ vs. vs ++ xs) c.copy_from.ensures.variables) c.quiet.ensures

pub returns-in-None : goal.returns-in-None
returns-in-None c s t p fs at =
    stuck_ending c.args.code.now s t p c.args.top.now _ _ at (λ as' stop r F xs ws i gives.
    c.in-None.ensures F i (room_below c.args.code.now s t p c.args.top.now F i c.args.below.now c.copy_from.new.self at c.copy_from.ensures.variables) as' stop r xs ws gives)
