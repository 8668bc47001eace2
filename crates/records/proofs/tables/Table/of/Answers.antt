use Rattle.std.proofs.Common.{refl}
use Rattle.records.proofs.Tabling.{tabled, functions-most}
use Rattle.records.proofs.tables.Table.of.Goals as goal

pub places-places-requires : goal.places-places-requires
places-places-requires c = functions-most c.args.program.now c.in_ok-header.header c.in_ok-header.ensures.answer

pub returns : goal.returns
returns c =
    let (P, r, h, s) = tabled c.args.program.now c.in_ok-header.header _ c.in_ok-header.ensures.answer c.places-places.ensures in
    (refl, (P, record { reads = r; counts = h; standing = s }))
