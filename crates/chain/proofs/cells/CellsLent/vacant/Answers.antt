use Rattle.std.proofs.Common.{None, sym, ◌∙◌, arith}
use Rattle.chain.proofs.Changes.{place-heads, cells_short, vacancy}
use Rattle.chain.proofs.cells.CellsLent.vacant.Goals as goal

pub returns-then-need-self : goal.returns-then-need-self
returns-then-need-self c = cells_short c.args.self.now c.requires c.args.size (omega arith)

pub returns : goal.returns
returns c =
    let l = c.args.self.now in
    vacancy l c.requires c.args.size (omega arith) c.find.result (c.find.ensures ∙ sym (place-heads l None))
