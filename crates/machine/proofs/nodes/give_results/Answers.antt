use Rattle.std.proofs.Common.{sym, ◌∙◌, subst}
use mathlib.Core.Option.{none-ne-some}
use Rattle.machine.specs.Moves.{Returned}
use Rattle.machine.proofs.Decides.{returned}
use Rattle.machine.proofs.nodes.give_results.Goals as goal

pub returns-in_err-function : goal.returns-in_err-function
returns-in_err-function c =
    subst (λ r. Returned c.args.code.now c.args.top.now c.args.values c.args.draft.now.top r c.args.draft.now.top) (sym c.from_residual.ensures)
    (λ G i room as' stop read xs ws gives. none-ne-some G (sym c.in_err-function.ensures ∙ i))

pub returns : goal.returns
returns c = returned c.args.code.now c.args.top.now c.args.draft.now.top c.in_ok-function.function c.args.values c.copy_from.new.self.variables c.give_all.new.variables c.give_all.new.given c.give_all.result c.in_ok-function.ensures c.copy_from.ensures.variables c.give_all.ensures
