use Rattle.std.proofs.Common.{Some, sym, ◌∙◌}
use Rattle.chain.proofs.Changes.{place-heads}
use Rattle.chain.proofs.cells.CellsLent.seek.Goals as goal

pub returns : goal.returns
returns c =
    let l = c.args.self.now in
    c.find.ensures ∙ sym (place-heads l (Some c.args.name))
