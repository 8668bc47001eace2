use Rattle.std.proofs.Common.{refl}
use Rattle.rules.specs.Calls.{ready, denies, ready_first}
use Rattle.machine.specs.States.{state_of}
use Rattle.machine.proofs.Machines.{led-loaded, led-fit, led-promised, stays-loaded, stays-unloaded, ready-does}
use Rattle.machine.proofs.machine.Machine.ready.Goals as goal

pub ready-requires : goal.ready-requires
ready-requires g c = λ t from to. led-fit _ t (led-loaded c.args.self.now.reached c.in-Some.is) from to

pub returns-in-Some-clause-does : goal.returns-in-Some-clause-does
returns-in-Some-clause-does g c =
    stays-loaded ready _ c.in-Some.is
    (ready-does (state_of c.in-Some.memory (g.S.Store.meaning c.args.self.now.store)) (led-loaded c.args.self.now.reached c.in-Some.is) c.ready.result c.ready.ensures.some c.ready.ensures.none)

pub returns-in-Some-clause-promise : goal.returns-in-Some-clause-promise
returns-in-Some-clause-promise g c = led-promised _ c.args.self.now.reached

pub returns-in-None-clause-does : goal.returns-in-None-clause-does
returns-in-None-clause-does g c = stays-unloaded ready _ c.in-None.is (denies ready_first refl)
