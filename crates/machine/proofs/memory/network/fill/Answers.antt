-- Byte by byte, over what the store means.
use Rattle.std.proofs.Common.{sym, subst, refl, ◌∙◌, arith}
use Rattle.std.specs.Result.{IsOk}
use Rattle.machine.proofs.Network.{filled_none, written, filled_more, filled_all}
use Rattle.machine.proofs.memory.network.fill.Goals as goal

pub loop-i-init : goal.loop-i-init
loop-i-init g c = filled_none (g.S.Store.meaning c.args.store.now) c.args.name c.args.bytes.now

pub unwrap-requires : goal.unwrap-requires
unwrap-requires g c =
    let w = written (g.S.Store.meaning c.args.store.now) (g.S.Store.meaning c.loop-i.store) c.args.name c.args.bytes.now c.loop-i.i c.loop-i.invariant c.loop-i-test.true c.requires in
    subst IsOk (w ∙ sym c.write.ensures.answer) refl

pub loop-i-preserved : goal.loop-i-preserved
loop-i-preserved g c =
    filled_more (g.S.Store.meaning c.args.store.now) (g.S.Store.meaning c.loop-i.store) c.args.name c.args.bytes.now c.loop-i.i c.loop-i.invariant c.loop-i-test.true (g.S.Store.meaning c.write.new.self)
    c.write.ensures.after

pub returns : goal.returns
returns g c =
    filled_all (g.S.Store.meaning c.args.store.now) (g.S.Store.meaning c.loop-i.store) c.args.name c.args.bytes.now c.loop-i.i c.requires c.loop-i.invariant (omega arith)
