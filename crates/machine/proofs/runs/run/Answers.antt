use Rattle.std.proofs.Common.{arith}
use Rattle.machine.specs.States.{machine_of}
use Rattle.machine.proofs.Turns.{none_so_far, one_more, all_made}
use Rattle.machine.proofs.runs.run.Goals as goal

pub loop-i-init : goal.loop-i-init
loop-i-init g c =
    none_so_far (g.S.Store.meaning c.args.store) c.args.calls.now c.args.answers.now (machine_of c.new-machine.result.memory (g.S.Store.meaning c.new-machine.result.store))
    c.new-machine.result.reached c.new-machine.ensures

pub loop-i-preserved : goal.loop-i-preserved
loop-i-preserved g c =
    let test = c.loop-i-test.true in
    let end = c.min-i-end.ensures in
    let long = c.loop-i.invariant.long in
    one_more c.loop-i.invariant c.index-calls-i.result c.call.result _ c.index-calls-i.is (omega arith) (omega arith) c.call.ensures.does

pub returns : goal.returns
returns g c =
    let test = c.loop-i-test.false in
    let auto = c.loop-i.auto.i-end in
    let end = c.min-i-end.ensures in
    all_made c.loop-i.invariant (omega arith)
