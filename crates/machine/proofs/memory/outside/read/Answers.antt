use Rattle.machine.proofs.Operations.{read_inside, read_outside}
use Rattle.machine.proofs.memory.outside.read.Goals as goal

pub returns-in-Ok : goal.returns-in-Ok
returns-in-Ok g c = λ s t e. rw (c.gives.ensures, c.from.ensures) (read_inside s t _ e c.in-Ok.ensures)

pub returns-in-Err-Inside : goal.returns-in-Err-Inside
returns-in-Err-Inside g c = λ s t e. rw c.gives-in-Err-Inside.ensures (read_outside s t _ e (rw c.in-Err-Inside.field-0-is at c.in-Err-Inside.ensures))
