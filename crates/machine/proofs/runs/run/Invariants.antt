use Rattle.machine.specs.States.{machine_of}
use Rattle.machine.proofs.Turns.{SoFar}
use Rattle.machine.proofs.runs.run.Given as goal

abbrev pub invariant-loop-i : goal.invariant-loop-i
invariant-loop-i g l = SoFar (g.S.Store.meaning l.fn.store) l.calls l.fn.answers l.answers l.i (machine_of l.machine.memory (g.S.Store.meaning l.machine.store))
