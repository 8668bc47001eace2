use Rattle.std.proofs.Common.{◌∙◌}
use Rattle.chain.proofs.Changes.{row_size}
use Rattle.chain.proofs.cells.CellsLent.size.Goals as goal

pub returns : goal.returns
returns c =
    let l = c.args.self.now in
    let e = c.stored.ensures in
    c.from.ensures ∙ row_size l c.requires.sound c.args.place e.within c.stored.result e.kept
