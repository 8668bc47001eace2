use Rattle.std.proofs.Common.{sym, subst, ◌∙◌, ap}
use Rattle.std.specs.Prelude.{slice_get}
use Rattle.rows.specs.Rows.{items}
use Rattle.code.specs.Copies.{bytes_of, program_of, Listed}
use Rattle.code.proofs.Copying.{listed}
use Rattle.code.proofs.copies.Code.function.Goals as goal

pub returns : goal.returns
returns c =
    let s = c.args.self.now in
    let b = bytes_of s in
    let is = c.get.ensures ∙ ap (slice_get (items s.functions)) c.from.ensures in
    subst (Listed b (program_of s) c.args.function) (sym is) (listed b s.threads s.queues (items s.functions) c.args.function)
