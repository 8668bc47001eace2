use Rattle.std.proofs.Common.{ap}
use Rattle.frames.specs.Threads.{thread_of}
use Rattle.frames.proofs.thread.Thread.top.Goals as goal

pub returns-in-Running : goal.returns-in-Running
returns-in-Running c b = (_, ap (thread_of b) c.in-Running.is)
