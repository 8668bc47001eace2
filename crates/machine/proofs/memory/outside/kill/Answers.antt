use Rattle.machine.proofs.Operations.{killed}
use Rattle.machine.proofs.memory.outside.kill.Goals as goal

pub returns-in-Ok : goal.returns-in-Ok
returns-in-Ok g c = λ s t e. killed s t _ e c.in-Ok.ensures
