use Rattle.std.proofs.Common.{subst}
use Rattle.code.specs.Copies.{bytes_of}
use Rattle.machine.specs.Moves.{bringing, Operated}
use Rattle.machine.proofs.Decides.{pauses, binds}
use Rattle.machine.proofs.Serving.{answered}
use Rattle.machine.proofs.computing.bind.Goals as goal

pub returns-in_err-outside : goal.returns-in_err-outside
returns-in_err-outside c c' s t p k f op as' fs ρs σs xs d at nf sg gs h =
    answered (bytes_of c') s t d _ c.from_residual.result c.from_residual.ensures (pauses c.args.next at nf sg gs _ (subst (λ r. Operated s t op xs (bringing r)) c.in_err-outside.was h))

pub returns : goal.returns
returns c c' s t p k f op as' fs ρs σs xs d at nf sg gs h = binds c.args.next at nf sg d (c.in_ok-outside.outside, c.in_ok-outside.held) gs (subst (λ r. Operated s t op xs (bringing r)) c.in_ok-outside.was h)
