use Rattle.std.proofs.Common.{◌≡◌, take}
use Rattle.chain.specs.Chains.{needs_of}
use Rattle.chain.proofs.cells.CellsLent.used.Given as goal

abbrev pub invariant-loop-head : goal.invariant-loop-head
invariant-loop-head l = l.sum ≡ needs_of (take l.head-index l.self.heads.now)
