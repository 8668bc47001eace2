use Rattle.std.proofs.Common.{sym, subst, ◌∙◌, ap}
use Rattle.std.specs.Prelude.{slice_get}
use Rattle.rows.specs.Rows.{items}
use Rattle.records.specs.Tables.{Recorded}
use Rattle.code.specs.Copies.{Listed}
use Rattle.code.proofs.Copying.{function_is, place-none, place-some}
use Rattle.code.proofs.copies.making.numbered.Goals as goal

pub returns-in_err-place : goal.returns-in_err-place
returns-in_err-place c P s =
    let t = c.args.table.now in
    let got = c.get.ensures ∙ ap (slice_get (items t.places)) c.from.ensures in
    subst (Listed t.program.now P c.args.number) (sym c.from_residual.ensures) (place-none t P s c.args.number c.get.result got c.in_err-place.was)

pub returns : goal.returns
returns c P s =
    let t = c.args.table.now in
    let b = t.program.now in
    let i = c.args.number in
    let got = c.get.ensures ∙ ap (slice_get (items t.places)) c.from.ensures in
    let r = subst (Recorded b P i) c.in_ok-record.was (c.record.ensures P s) in
    function_is b P i c.in_ok-place.place c.in_ok-record.record (place-some t P s i c.in_ok-place.place c.get.result got c.in_ok-place.was) r
