use Rattle.std.proofs.Common.{arith}
use Rattle.split.proofs.Carrying.{carried_none, carried_more, byte_read}
use Rattle.split.proofs.carry.carry.Goals as goal

pub loop-i-init : goal.loop-i-init
loop-i-init g c = carried_none (g.X.Store.meaning c.args.from.now) (g.Y.Store.meaning c.args.to.now) c.args.name c.args.size

pub loop-i-preserved : goal.loop-i-preserved
loop-i-preserved g c =
    let from = g.X.Store.meaning c.args.from.now in
    carried_more from (g.Y.Store.meaning c.args.to.now) (g.Y.Store.meaning c.loop-i.to) (g.Y.Store.meaning c.write.new.self) c.args.name c.args.size c.loop-i.i _ c.loop-i.invariant c.loop-i-test.true
    (λ p e l. byte_read from c.args.name c.loop-i.i c.read.result _ c.unwrap_or-byte.ensures c.read.ensures p e (omega (arith, c.loop-i-test.true)))
    c.write.ensures.after
