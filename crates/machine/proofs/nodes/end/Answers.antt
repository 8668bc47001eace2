use Rattle.std.proofs.Common.{ap, length, arith}
use Rattle.machine.proofs.Decides.{stuck_ending, ends, few_results}
use Rattle.machine.proofs.nodes.end.Goals as goal

pub returns-in-Some : goal.returns-in-Some
returns-in-Some c s t p at =
    let (F, as', xs, ws, i, read, gives, same, stays, joined) = c.in-Some.ensures in
    ends c.args.code.now s t p c.args.top.now F i as' _ _ read gives c.give_results.new.draft _ at c.quiet.ensures

pub returns-in-None : goal.returns-in-None
returns-in-None c s t p at =
    stuck_ending c.args.code.now s t p c.args.top.now _ _ at (λ as' stop r F xs ws i gives.
    c.in-None.ensures F i (omega (arith, ap length c.clear.ensures, few_results c.args.code.now c.args.top.now.function F i)) as' stop r xs ws gives)
