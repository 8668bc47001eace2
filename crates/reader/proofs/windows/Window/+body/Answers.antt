use Rattle.std.proofs.Common.{length, rules}
use Rattle.reader.proofs.Following.{body_is}
use Rattle.reader.proofs.windows.Window.+body.Goals as goal

pub returns-then-second-next-clause-reads : goal.returns-then-second-next-clause-reads
returns-then-second-next-clause-reads t c =
    let s = c.args.self.now in rw (body_is s.bytes.now (length s.bytes.now) s.function c.args.ifs c.args.place) (search rules)

pub returns-else-second-next-clause-reads : goal.returns-else-second-next-clause-reads
returns-else-second-next-clause-reads t c =
    let s = c.args.self.now in rw (body_is s.bytes.now (length s.bytes.now) s.function c.args.ifs c.args.place) (search rules)
