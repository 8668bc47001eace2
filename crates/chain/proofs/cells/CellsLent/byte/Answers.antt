use Rattle.std.proofs.Common.{ℕ, get_or, ap, ◌∙◌}
use Rattle.chain.proofs.Changes.{bytes-alive, alive-stored, get_byte}
use Rattle.chain.proofs.cells.CellsLent.byte.Goals as goal

pub returns : goal.returns
returns c =
    let l = c.args.self.now in
    let s = alive-stored l c.args.place (bytes-alive l c.args.place c.args.offset c.requires.inside) in
    ap (λ (x : ℕ). get_or l.memory.now x 0) c.spot.ensures.value
    ∙ get_byte l c.requires.sound c.args.place s.0 s.1.0 s.1.1 c.args.offset c.requires.inside
