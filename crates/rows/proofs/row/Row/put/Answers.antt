use Rattle.std.proofs.Common.{arith}
use Rattle.std.proofs.Math.Seq.{take-set-lt}
use Rattle.rows.proofs.row.Row.put.Goals as goal

pub returns-then-i-self : goal.returns-then-i-self
returns-then-i-self g c = take-set-lt c.args.self.now.len c.args.self.now.items c.args.i c.args.x (omega arith)
