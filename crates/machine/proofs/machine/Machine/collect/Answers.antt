use Rattle.std.specs.Prelude.{slice_get}
use Rattle.std.proofs.Common.{refl, ap, ◌∙◌, arith}
use Rattle.rules.specs.Calls.{collect, denies, collect_first, nothing_sent, too_small}
use Rattle.machine.specs.States.{state_of}
use Rattle.machine.proofs.Machines.{no_first, first-is, sized, not_sized, led-loaded, led-queued, led-on, led-promised, stays-unloaded, goes-loaded, collect-does}
use Rattle.machine.proofs.machine.Machine.collect.Goals as goal

pub returns-in_default-clause-does : goal.returns-in_default-clause-does
returns-in_default-clause-does g c = stays-unloaded (collect c.args.buffer.now) _ c.in_default.is (denies collect_first refl)

pub returns-in_default-copied-clause-does : goal.returns-in_default-copied-clause-does
returns-in_default-copied-clause-does g c =
    let m = g.S.Store.meaning c.args.self.now.store in
    let found = c.copied.ensures ∙ c.first.ensures.value ∙ ap (λ ns. slice_get ns 0) (c.sent.ensures m) in
    goes-loaded (collect c.args.buffer.now) _ c.in-Some.is (denies (nothing_sent (no_first _ c.copied.result found c.in_default-copied.is)) refl)

pub returns-in_default-copied-clause-promise : goal.returns-in_default-copied-clause-promise
returns-in_default-copied-clause-promise g c = led-promised _ (led-loaded c.args.self.now.reached c.in-Some.is)

pub returns-in_default-size-clause-does : goal.returns-in_default-size-clause-does
returns-in_default-size-clause-does g c =
    let m = g.S.Store.meaning c.args.self.now.store in
    let found = c.copied.ensures ∙ c.first.ensures.value ∙ ap (λ ns. slice_get ns 0) (c.sent.ensures m) in
    let first = first-is _ c.copied.result c.in-Some-copied.name found c.in-Some-copied.is in
    absurd (led-queued (state_of c.in-Some.memory m) 1 c.in-Some-copied.name first.0 (led-loaded c.args.self.now.reached c.in-Some.is) first.1 (not_sized m c.in-Some-copied.name c.size.result c.in_default-size.field-0 c.size.ensures c.in_default-size.is))

pub returns-in_default-size-clause-promise : goal.returns-in_default-size-clause-promise
returns-in_default-size-clause-promise g c = led-promised _ (led-loaded c.args.self.now.reached c.in-Some.is)

pub returns-then-size-buffer-clause-does : goal.returns-then-size-buffer-clause-does
returns-then-size-buffer-clause-does g c =
    let m = g.S.Store.meaning c.args.self.now.store in
    let found = c.copied.ensures ∙ c.first.ensures.value ∙ ap (λ ns. slice_get ns 0) (c.sent.ensures m) in
    let first = first-is _ c.copied.result c.in-Some-copied.name found c.in-Some-copied.is in
    let (p, alive, long) = sized m c.in-Some-copied.name c.size.result c.in-Ok.size c.size.ensures c.in-Ok.is in
    goes-loaded (collect c.args.buffer.now) _ c.in-Some.is (denies (too_small first.1 alive (omega arith)) refl)

pub returns-then-size-buffer-clause-promise : goal.returns-then-size-buffer-clause-promise
returns-then-size-buffer-clause-promise g c = led-promised _ (led-loaded c.args.self.now.reached c.in-Some.is)

pub collect-requires : goal.collect-requires
collect-requires g c =
    let m = g.S.Store.meaning c.args.self.now.store in
    let found = c.copied.ensures ∙ c.first.ensures.value ∙ ap (λ ns. slice_get ns 0) (c.sent.ensures m) in
    let (p, alive, long) = sized m c.in-Some-copied.name c.size.result c.in-Ok.size c.size.ensures c.in-Ok.is in
    record { first = first-is _ c.copied.result c.in-Some-copied.name found c.in-Some-copied.is; fits = (p, alive, omega arith) }

pub invariant_of-self-2 : goal.invariant_of-self-2
invariant_of-self-2 g c =
    let m = g.S.Store.meaning c.args.self.now.store in
    let found = c.copied.ensures ∙ c.first.ensures.value ∙ ap (λ ns. slice_get ns 0) (c.sent.ensures m) in
    let first = first-is _ c.copied.result c.in-Some-copied.name found c.in-Some-copied.is in
    let (p, alive, long) = sized m c.in-Some-copied.name c.size.result c.in-Ok.size c.size.ensures c.in-Ok.is in
    let led = led-loaded c.args.self.now.reached c.in-Some.is in
    let s = state_of c.in-Some.memory m in
    let d = collect-does s c.in-Some-copied.name c.in-Ok.size c.args.buffer.now c.collect.new.buffer first.0 first.1 p alive long (omega arith) c.collect.ensures.state c.collect.ensures.buffer in
    record { reached = led-on led d }

pub returns-clause-does : goal.returns-clause-does
returns-clause-does g c =
    let m = g.S.Store.meaning c.args.self.now.store in
    let found = c.copied.ensures ∙ c.first.ensures.value ∙ ap (λ ns. slice_get ns 0) (c.sent.ensures m) in
    let first = first-is _ c.copied.result c.in-Some-copied.name found c.in-Some-copied.is in
    let (p, alive, long) = sized m c.in-Some-copied.name c.size.result c.in-Ok.size c.size.ensures c.in-Ok.is in
    let s = state_of c.in-Some.memory m in
    let d = collect-does s c.in-Some-copied.name c.in-Ok.size c.args.buffer.now c.collect.new.buffer first.0 first.1 p alive long (omega arith) c.collect.ensures.state c.collect.ensures.buffer in
    goes-loaded (collect c.args.buffer.now) _ c.in-Some.is d

pub returns-clause-promise : goal.returns-clause-promise
returns-clause-promise g c =
    let m = g.S.Store.meaning c.args.self.now.store in
    let found = c.copied.ensures ∙ c.first.ensures.value ∙ ap (λ ns. slice_get ns 0) (c.sent.ensures m) in
    let first = first-is _ c.copied.result c.in-Some-copied.name found c.in-Some-copied.is in
    let (p, alive, long) = sized m c.in-Some-copied.name c.size.result c.in-Ok.size c.size.ensures c.in-Ok.is in
    let led = led-loaded c.args.self.now.reached c.in-Some.is in
    let s = state_of c.in-Some.memory m in
    let d = collect-does s c.in-Some-copied.name c.in-Ok.size c.args.buffer.now c.collect.new.buffer first.0 first.1 p alive long (omega arith) c.collect.ensures.state c.collect.ensures.buffer in
    led-promised _ (led-on led d)
