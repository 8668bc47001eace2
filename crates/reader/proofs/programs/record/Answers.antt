use Rattle.std.proofs.Common.{refl, ap, ◌∙◌}
use Rattle.reader.specs.Fields.{placed}
use Rattle.reader.specs.Programs.{record_in}
use Rattle.reader.proofs.Cuts.{record_cut, read_opened}
use Rattle.reader.proofs.programs.record.Goals as goal

pub returns : goal.returns
returns c =
    let b = c.args.program.now in
    let f = c.args.function in
    let p = c.args.place in
    let o = c.in_ok-window in
    c.contents.ensures
    ∙ ap placed (read_opened b f p (λ d e g s. record_in d e g p s) o.window o.first (λ e s. record_cut b e f p s) (o.ensures.inside.0 refl) o.ensures.bytes o.ensures.function o.ensures.first)
