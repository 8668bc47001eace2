-- Each arm, by what its operation is.
use Rattle.std.proofs.Common.{refl}
use Rattle.machine.specs.States.{state_of}
use Rattle.machine.proofs.Serving.{unknown}
use Rattle.machine.proofs.memory.Memory.operate.Goals as goal

pub returns-in-Compute : goal.returns-in-Compute
returns-in-Compute g c nf = rw c.in-Compute.is (c.compute.ensures (state_of c.args.self.now (g.S.Store.meaning c.args.store.now)) c.args.thread)

pub returns-in-Compare : goal.returns-in-Compare
returns-in-Compare g c nf = rw c.in-Compare.is (c.compared.ensures (state_of c.args.self.now (g.S.Store.meaning c.args.store.now)) c.args.thread)

pub returns-in-Connect : goal.returns-in-Connect
returns-in-Connect g c nf = rw c.in-Connect.is (c.connected.ensures (state_of c.args.self.now (g.S.Store.meaning c.args.store.now)) c.args.thread)

pub returns-in-New : goal.returns-in-New
returns-in-New g c nf = rw c.in-New.is (c.new_call.ensures)

pub returns-in-Kill : goal.returns-in-Kill
returns-in-Kill g c nf = rw c.in-Kill.is (c.kill_call.ensures c.args.thread)

pub returns-in-Read : goal.returns-in-Read
returns-in-Read g c nf = rw c.in-Read.is (c.read_call.ensures c.args.thread)

pub returns-in-Update : goal.returns-in-Update
returns-in-Update g c nf = rw c.in-Update.is (c.update_call.ensures c.args.thread)

pub returns-in-Enq : goal.returns-in-Enq
returns-in-Enq g c nf = rw c.in-Enq.is (c.enq_call.ensures c.args.thread)

pub returns-in-Deq : goal.returns-in-Deq
returns-in-Deq g c nf = rw c.in-Deq.is (c.deq_call.ensures c.args.thread)

pub returns-in-Function : goal.returns-in-Function
returns-in-Function g c nf p fs d at = absurd (nf _ c.in-Function.is)

pub returns-in-Unknown : goal.returns-in-Unknown
returns-in-Unknown g c nf p fs d at = unknown c.args.self.now.code (state_of c.args.self.now (g.S.Store.meaning c.args.store.now)) c.args.thread p _ c.args.top.now c.args.arguments fs (rw c.in-Unknown.is at at) refl refl
