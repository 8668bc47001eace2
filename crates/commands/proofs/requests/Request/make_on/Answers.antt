use Rattle.std.proofs.Common.{refl}
use Rattle.rules.specs.Calls.{to_load, to_arrive, to_step, to_ready, to_collect}
use Rattle.commands.proofs.requests.Request.make_on.Goals as goal

pub returns-in-Load : goal.returns-in-Load
returns-in-Load g c = rw c.in-Load.is (to_load c.load.result, c.load.ensures.does, c.into.ensures, refl)

pub returns-in-Arrive : goal.returns-in-Arrive
returns-in-Arrive g c = rw c.in-Arrive.is (to_arrive c.arrive.result, c.arrive.ensures.does, c.into-in-Arrive.ensures, refl)

pub returns-in-Step : goal.returns-in-Step
returns-in-Step g c = rw c.in-Step.is (to_step c.step.result, c.step.ensures.does, c.into-in-Step.ensures, refl)

pub returns-in-Ready : goal.returns-in-Ready
returns-in-Ready g c = rw c.in-Ready.is (to_ready c.ready.result, c.ready.ensures.does, c.into-in-Ready.ensures, refl)

pub returns-in-Collect : goal.returns-in-Collect
returns-in-Collect g c = rw c.in-Collect.is (to_collect c.collect.result c.collect.new.buffer, c.collect.ensures.does, c.into-in-Collect.ensures, refl)
