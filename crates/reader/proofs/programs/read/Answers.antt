use Rattle.std.proofs.Common.{arith}
use Rattle.reader.proofs.Law.{reads_back, written-reads}
use Rattle.reader.proofs.programs.read.Goals as goal

pub returns : goal.returns
returns c = record { answer = c.whole.ensures; law = reads_back c.args.program.now (λ i. omega (arith, c.type_inv.program i)); written = written-reads }
