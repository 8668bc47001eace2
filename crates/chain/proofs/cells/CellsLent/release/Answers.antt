use Rattle.std.proofs.Common.{rules, ap, ◌∙◌}
use Rattle.chain.specs.Chains.{chain_need}
use Rattle.chain.proofs.Changes.{last-inside, release_linked, release_rows}
use Rattle.chain.proofs.cells.CellsLent.release.Goals as goal

pub offset_bounds-self-last : goal.offset_bounds-self-last
offset_bounds-self-last c =
    let l = c.args.self.now in
    let e = c.stored-stored.ensures in
    let w = (last-inside l c.requires.sound c.args.place e.within c.stored-stored.result e.kept c.need-amount.result (c.need-amount.ensures ∙ ap chain_need c.from.ensures) c.cell-last.result c.cell-last.ensures).0 in search rules

pub bounds-self-last : goal.bounds-self-last
bounds-self-last c =
    let l = c.args.self.now in
    let e = c.stored-stored.ensures in
    (last-inside l c.requires.sound c.args.place e.within c.stored-stored.result e.kept c.need-amount.result (c.need-amount.ensures ∙ ap chain_need c.from.ensures) c.cell-last.result c.cell-last.ensures).0

pub returns : goal.returns
returns c =
    let l = c.args.self.now in
    let e = c.stored-stored.ensures in
    record {
      sound = release_linked l c.requires.sound c.args.place e.within c.stored-stored.result e.kept c.need-amount.result (c.need-amount.ensures ∙ ap chain_need c.from.ensures) c.cell-last.result c.cell-last.ensures;
      released = release_rows l c.requires.sound c.args.place e.within c.stored-stored.result e.kept c.need-amount.result (c.need-amount.ensures ∙ ap chain_need c.from.ensures) c.cell-last.result c.cell-last.ensures;
    }
