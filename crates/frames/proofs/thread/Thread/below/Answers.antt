use Rattle.std.specs.Prelude.{slice_get}
use Rattle.std.proofs.Common.{◌-◌, length, ap, ◌∙◌}
use Rattle.frames.proofs.Stacks.{next_below}
use Rattle.frames.proofs.thread.Thread.below.Goals as goal

pub returns-in-Running : goal.returns-in-Running
returns-in-Running c b =
    next_below b c.args.self.now c.in-Running.top c.in-Running.below c.in-Running.is c.copied.result
    (c.copied.ensures ∙ c.last.ensures.value ∙ ap (λ fs. slice_get fs (length fs - 1)) c.as_slice.ensures)
