use Rattle.std.proofs.Common.{sym, rules}
use Rattle.reader.proofs.Rows.{program-stands}
use Rattle.reader.proofs.programs.whole.Goals as goal

pub returns : goal.returns
returns c =
    program-stands c.args.program.now c.in_ok-header.header c.in_ok-header.next c.in_ok-next.next
    (search rules) (sym c.in_ok-header.ensures) (sym c.in_ok-next.ensures) c.if-next-program.false
