use Rattle.std.proofs.Common.{refl}
use Rattle.frames.proofs.Stacks.{one_frame, more_frames}
use Rattle.frames.proofs.thread.Thread.status.Goals as goal

pub returns-in-Running : goal.returns-in-Running
returns-in-Running c b = one_frame b c.args.self.now c.in-Running.top c.in-Running.below c.in-Running.is (c.if-is_empty.ensures.0 refl)

pub returns-in-Running-2 : goal.returns-in-Running-2
returns-in-Running-2 c b = more_frames b c.args.self.now c.in-Running.top c.in-Running.below c.in-Running.is (λ none. let no = c.if-is_empty.ensures.1 none in cc)
