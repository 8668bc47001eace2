use Rattle.split.specs.Carry.{Carried}
use Rattle.split.proofs.carry.carry.Given as goal

abbrev pub invariant-loop-i : goal.invariant-loop-i
invariant-loop-i g l = Carried (g.X.Store.meaning l.from) (g.Y.Store.meaning l.initial.to) (g.Y.Store.meaning l.to) l.name l.size l.i
