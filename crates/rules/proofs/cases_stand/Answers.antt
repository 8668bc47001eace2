use Rattle.rules.proofs.cases_stand.Goals as goal
use Rattle.rules.proofs.Cases.{cases}

pub returns : goal.returns
returns c = cases
