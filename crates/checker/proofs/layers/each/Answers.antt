use Rattle.std.proofs.Common.{◌≡◌, Ok, Err, ◌∙◌, arith, rules}
use Rattle.checker.proofs.Each.{led_next, led_fault}
use Rattle.checker.proofs.layers.each.Goals as goal

pub returns-in_err-ask : goal.returns-in_err-ask
returns-in_err-ask g c asks Fs n h =
    let i = c.loop-function.function in
    let e = c.in_err-ask.field-0.0 in
    let is : c.from_residual.result ≡ Err e = search rules in
    is ∙ led_fault asks Fs i e (omega arith) (c.loop-function.invariant asks Fs n h) (λ F at. h i F (Err e) at c.in_err-ask.ensures)

pub loop-function-preserved : goal.loop-function-preserved
loop-function-preserved g c asks Fs n h =
    let i = c.loop-function.function in
    led_next asks Fs i (omega arith) (c.loop-function.invariant asks Fs n h) (λ F at. h i F (Ok tt) at c.in_ok-ask.ensures)
