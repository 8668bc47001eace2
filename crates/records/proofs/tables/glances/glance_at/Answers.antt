use Rattle.std.proofs.Common.{refl, ◌∙◌}
use Rattle.reader.proofs.Results.{then_both}
use Rattle.reader.proofs.Cuts.{byte_cut, signature_cut, read_opened}
use Rattle.records.specs.Glances.{glance_in}
use Rattle.records.proofs.tables.glances.glance_at.Goals as goal

pub returns : goal.returns
returns c =
    let b = c.args.program.now in
    let f = c.args.function in
    let o = c.in_ok-window in
    c.contents.ensures
    ∙ read_opened b f c.args.place glance_in o.window o.first
    (λ e s. then_both _ _ (byte_cut b e f s) λ d. then_both _ _ (signature_cut b e f d.1) λ ps. then_both _ _ (signature_cut b e f ps.1) (λ rs. refl))
    (o.ensures.inside.0 refl) o.ensures.bytes o.ensures.function o.ensures.first
