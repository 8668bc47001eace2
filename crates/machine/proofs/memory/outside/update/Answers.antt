use Rattle.machine.proofs.Operations.{updated_inside, updated_outside}
use Rattle.machine.proofs.memory.outside.update.Goals as goal

pub returns-in-Ok : goal.returns-in-Ok
returns-in-Ok g c = λ s t e. updated_inside s t _ e c.in-Ok.ensures c.if-offset-size.true

pub returns-in-Ok-2 : goal.returns-in-Ok-2
returns-in-Ok-2 g c = λ s t e. updated_outside s t _ e c.in-Ok.ensures c.if-offset-size.false
