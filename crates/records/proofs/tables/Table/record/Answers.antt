use Rattle.std.proofs.Common.{◌≡◌, None, Some}
use Rattle.std.specs.Prelude.{slice_get}
use Rattle.records.specs.Tables.{places}
use Rattle.records.proofs.Tabling.{place_of, recorded}
use Rattle.records.proofs.tables.Table.record.Goals as goal

pub returns-in_err-place : goal.returns-in_err-place
returns-in_err-place c P h =
    let none : None ≡ slice_get (places P.functions) c.args.function = cc c.in_err-place.ensures in
    rw c.from_residual.ensures (place_of P.functions c.args.function None none)

pub returns : goal.returns
returns c P h =
    let t = c.args.self.now in
    let at : Some c.in_ok-place.place ≡ slice_get (places P.functions) c.args.function = cc c.in_ok-place.ensures in
    rw c.ok.ensures.value (recorded t.program.now P c.args.function c.in_ok-place.place c.glance_at.result h.reads at c.glance_at.ensures)
