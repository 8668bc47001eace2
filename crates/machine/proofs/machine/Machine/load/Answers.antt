use Rattle.std.proofs.Common.{refl, sym, ◌∙◌, arith}
use Rattle.rules.specs.Calls.{load, denies, loaded_already, no_names, in_use, faults}
use Rattle.rules.proofs.Limits.{reading_small}
use Rattle.code.specs.Copies.{program_of}
use Rattle.machine.proofs.Machines.{nothing_loaded, something_loaded, stays-loaded, stays-unloaded, goes-unloaded, load-does, led-on, led-promised}
use Rattle.machine.proofs.machine.Machine.load.Goals as goal

pub returns-then-is_some-clause-does : goal.returns-then-is_some-clause-does
returns-then-is_some-clause-does g c =
    let there = something_loaded c.args.self.now.memory (sym c.is_some.ensures ∙ c.if-is_some.true) in
    stays-loaded (load c.args.program.now c.args.limit) _ there.1 (denies loaded_already refl)

pub returns-then-is_some-clause-promise : goal.returns-then-is_some-clause-promise
returns-then-is_some-clause-promise g c = led-promised _ c.args.self.now.reached

pub returns-then-limit-eq0-clause-does : goal.returns-then-limit-eq0-clause-does
returns-then-limit-eq0-clause-does g c =
    let none = nothing_loaded c.args.self.now.memory (sym c.is_some.ensures ∙ c.if-is_some.false) in
    stays-unloaded (load c.args.program.now c.args.limit) _ none (denies (no_names (omega arith)) refl)

pub returns-then-used-gt0-clause-does : goal.returns-then-used-gt0-clause-does
returns-then-used-gt0-clause-does g c =
    let none = nothing_loaded c.args.self.now.memory (sym c.is_some.ensures ∙ c.if-is_some.false) in
    let value = c.used.ensures.value in
    stays-unloaded (load c.args.program.now c.args.limit) _ none (denies (in_use (omega arith) (omega arith)) refl)

pub start-requires-clause-functions : goal.start-requires-clause-functions
start-requires-clause-functions g c = (reading_small c.args.program.now (program_of c.in-Ok.code) c.in-Ok.ensures.reads).enough

pub invariant_of-self : goal.invariant_of-self
invariant_of-self g c =
    let m = g.S.Store.meaning c.args.self.now.store in
    let none = nothing_loaded c.args.self.now.memory (sym c.is_some.ensures ∙ c.if-is_some.false) in
    let value = c.used.ensures.value in
    let d = goes-unloaded (load c.args.program.now c.args.limit) _ none
    (load-does c.args.program.now c.args.limit m c.in-Ok.code c.start.result (omega arith) (omega arith) c.in-Ok.ensures.accepted c.in-Ok.ensures.reads (c.start.ensures m)) in
    record { reached = led-on c.args.self.now.reached d }

pub returns-in-Ok-clause-does : goal.returns-in-Ok-clause-does
returns-in-Ok-clause-does g c =
    let m = g.S.Store.meaning c.args.self.now.store in
    let none = nothing_loaded c.args.self.now.memory (sym c.is_some.ensures ∙ c.if-is_some.false) in
    let value = c.used.ensures.value in
    goes-unloaded (load c.args.program.now c.args.limit) _ none
    (load-does c.args.program.now c.args.limit m c.in-Ok.code c.start.result (omega arith) (omega arith) c.in-Ok.ensures.accepted c.in-Ok.ensures.reads (c.start.ensures m))

pub returns-in-Ok-clause-promise : goal.returns-in-Ok-clause-promise
returns-in-Ok-clause-promise g c =
    let m = g.S.Store.meaning c.args.self.now.store in
    let none = nothing_loaded c.args.self.now.memory (sym c.is_some.ensures ∙ c.if-is_some.false) in
    let value = c.used.ensures.value in
    let d = goes-unloaded (load c.args.program.now c.args.limit) _ none
    (load-does c.args.program.now c.args.limit m c.in-Ok.code c.start.result (omega arith) (omega arith) c.in-Ok.ensures.accepted c.in-Ok.ensures.reads (c.start.ensures m)) in
    led-promised _ (led-on c.args.self.now.reached d)

pub returns-in-Err-clause-does : goal.returns-in-Err-clause-does
returns-in-Err-clause-does g c =
    let none = nothing_loaded c.args.self.now.memory (sym c.is_some.ensures ∙ c.if-is_some.false) in
    let value = c.used.ensures.value in
    stays-unloaded (load c.args.program.now c.args.limit) _ none (faults (omega arith) (omega arith) c.in-Err.ensures)
