use Rattle.code.specs.Copies.{bytes_of}
use Rattle.code.proofs.Nodes.{showing}
use Rattle.code.proofs.copies.Code.sight.Goals as goal

pub returns : goal.returns
returns c = showing (bytes_of c.args.self.now) c.args.place c.glance.result _ c.glance.ensures c.unwrap_or.ensures
