use Rattle.std.proofs.Common.{subst}
use Rattle.code.specs.Copies.{bytes_of}
use Rattle.machine.specs.Moves.{alone, Operated}
use Rattle.machine.proofs.Decides.{pauses, goes_on}
use Rattle.machine.proofs.Serving.{answered}
use Rattle.machine.proofs.computing.go.Goals as goal

pub returns-in_err-happens : goal.returns-in_err-happens
returns-in_err-happens c c' s t p k f op as' fs ρs σs xs d at nf sg gs h =
    answered (bytes_of c') s t d _ c.from_residual.result c.from_residual.ensures (pauses c.args.next at nf sg gs _ (subst (λ r. Operated s t op xs (alone r)) c.in_err-happens.was h))

pub returns : goal.returns
returns c c' s t p k f op as' fs ρs σs xs d at nf sg gs h = goes_on c.args.next at nf sg d _ gs (subst (λ r. Operated s t op xs (alone r)) c.in_ok-happens.was h)
