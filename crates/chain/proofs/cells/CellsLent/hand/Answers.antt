use Rattle.chain.proofs.Changes.{hand_rows, alive-stored}
use Rattle.chain.proofs.cells.CellsLent.hand.Goals as goal

pub returns-in-Some-clause-handed : goal.returns-in-Some-clause-handed
returns-in-Some-clause-handed c =
    let s = alive-stored c.args.self.now c.args.place c.requires.alive in
    hand_rows c.args.self.now c.requires.sound c.args.place s.0 c.in-Some.stored c.in-Some.is c.args.holder
