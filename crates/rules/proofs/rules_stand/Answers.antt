use Rattle.rules.proofs.rules_stand.Goals as goal
use Rattle.rules.proofs.Calls.{runs_keep, calls_keep}
use Rattle.rules.proofs.Settled.{loads-accepted, calls-answered, calls-settled}

pub returns : goal.returns
returns c = record { runs = runs_keep; calls = calls_keep; loads = loads-accepted; answered = calls-answered; settled = calls-settled }
