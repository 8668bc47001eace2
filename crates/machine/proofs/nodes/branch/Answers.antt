use Rattle.std.proofs.Common.{◌≡◌, Bool, true, false, refl, sym, ap, ◌∙◌}
use Rattle.code.specs.Copies.{bytes_of}
use Rattle.machine.proofs.Decides.{stuck_if, if_goes}
use Rattle.machine.proofs.Serving.{answered, halts}
use Rattle.machine.proofs.nodes.branch.Goals as goal
use Rattle.machine.proofs.nodes.branch.Goals.{then-truth, else-truth}

pub returns-in_err-truth : goal.returns-in_err-truth
returns-in_err-truth c c' s t p fs d at =
    answered (bytes_of c') s t d _ c.from_residual.result c.from_residual.ensures
    (halts c.in_err-truth.ensures.stuck (stuck_if at (λ k h. let z = (c.in_err-truth.ensures.finds k).0 h in cc)))

pub returns : goal.returns
returns c c' s t p fs d at =
    let place : c.if-truth.place ≡ elim c.in_ok-truth.truth [ true ↦ c.args.first | false ↦ c.args.second ] =
    elim c.if-truth.branch [
      | then-truth w ↦ w.place-is ∙ ap (λ (k : Bool). elim k [ true ↦ c.args.first | false ↦ c.args.second ]) (sym w.if-truth.true)
      | else-truth w ↦ w.place-is ∙ ap (λ (k : Bool). elim k [ true ↦ c.args.first | false ↦ c.args.second ]) (sym w.if-truth.false)
    ]
    in
    if_goes at d _ c.args.first c.args.second _ c.in_ok-truth.truth refl refl ((c.in_ok-truth.ensures.finds _).1 refl) place c.quiet.ensures
