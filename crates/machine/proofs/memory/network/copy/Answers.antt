-- Byte by byte; the packet is as long as the part of the buffer.
use Rattle.std.proofs.Common.{sym, ◌∙◌, arith}
use Rattle.machine.proofs.Network.{copied_more, copied_all}
use Rattle.machine.proofs.memory.network.copy.Goals as goal

pub loop-i-preserved : goal.loop-i-preserved
loop-i-preserved g c =
    copied_more (g.S.Store.meaning c.args.store.now) c.args.name c.args.buffer.now c.loop-i.byte-items c.unwrap-size.result c.loop-i.i c.unwrap.result (sym c.unwrap-size.ensures ∙ c.size.ensures)
    c.loop-i-test.true (sym c.unwrap.ensures ∙ c.read.ensures) c.loop-i.invariant

pub returns : goal.returns
returns g c =
    copied_all (g.S.Store.meaning c.args.store.now) c.args.name c.args.buffer.now c.loop-i.byte-items c.unwrap-size.result c.loop-i.i c.requires (sym c.unwrap-size.ensures ∙ c.size.ensures)
    (omega arith) c.loop-i.invariant
