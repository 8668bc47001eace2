use Rattle.std.proofs.Common.{ℕ, ◌+◌, ◌*◌, ◌%◌, ◌<◌, length, sym, subst, rules}
use Rattle.chain.proofs.Changes.{bytes-alive, spot_inside}
use Rattle.chain.proofs.cells.Cells.spot.Goals as goal
use Rattle.chain.proofs.cells.Cells.spot.Goals.{After-cell}

pub stored-stored-requires : goal.stored-stored-requires
stored-stored-requires c =
    let l = c.args.self.now in
    bytes-alive l c.args.place c.args.offset c.requires.inside

fits : (c : After-cell) → 32 * c.cell.result + c.args.offset % 32 < length c.args.self.now.memory.now
fits c =
    let l = c.args.self.now in
    let e = c.stored-stored.ensures in
    subst (λ (x : ℕ). 32 * x + c.args.offset % 32 < length l.memory.now) (sym c.cell.ensures)
    (spot_inside l c.requires.sound c.args.place e.within c.stored-stored.result e.kept c.args.offset c.requires.inside)

pub overflow_mul-result : goal.overflow_mul-result
overflow_mul-result c = let s = fits c in search rules

pub overflow_add-result : goal.overflow_add-result
overflow_add-result c = let s = fits c in search rules

pub returns-clause-within : goal.returns-clause-within
returns-clause-within c = fits c
