use Rattle.std.proofs.Common.{ℕ, set, ap, ◌∙◌}
use Rattle.chain.specs.Chains.{chain_rows}
use Rattle.chain.proofs.Changes.{bytes-alive, alive-stored, put-rows}
use Rattle.chain.proofs.cells.CellsLent.put.Goals as goal

pub returns-clause-written : goal.returns-clause-written
returns-clause-written c =
    let l = c.args.self.now in
    let s = alive-stored l c.args.place (bytes-alive l c.args.place c.args.offset c.requires.inside) in
    ap (λ (x : ℕ). chain_rows l.heads.now l.links.now (set l.memory.now x c.args.byte)) c.spot-spot.ensures.value
    ∙ put-rows l c.requires.sound c.args.place s.0 s.1.0 s.1.1 c.args.offset c.requires.inside c.args.byte
