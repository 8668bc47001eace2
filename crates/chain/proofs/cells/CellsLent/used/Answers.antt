use Rattle.std.proofs.Common.{ap, arith}
use Rattle.std.proofs.lemmas.List.{take_all}
use Rattle.chain.specs.Chains.{needs_of}
use Rattle.chain.proofs.Changes.{total-chain}
use Rattle.chain.proofs.cells.CellsLent.used.Goals as goal

pub returns-clause-value : goal.returns-clause-value
returns-clause-value c =
    let e = ap needs_of (take_all c.loop-head.head-index c.args.self.now.heads.now c.loop-head-test.false) in
    let u = total-chain c.args.self.now c.requires in
    let i = c.loop-head.invariant in omega arith
