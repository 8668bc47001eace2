use Rattle.machine.specs.States.{state_of}
use Rattle.machine.proofs.memory.Memory.call.Goals as goal

pub returns-in-Function : goal.returns-in-Function
returns-in-Function g c p fs l at = c.enter.ensures (state_of c.args.self.now (g.S.Store.meaning c.args.store.now)) c.args.thread p fs l (rw c.in-Function.is at at)

pub returns-in_default : goal.returns-in_default
returns-in_default g c p fs l at = c.operate.ensures c.in_default.not-Function p fs c.args.draft.now at
