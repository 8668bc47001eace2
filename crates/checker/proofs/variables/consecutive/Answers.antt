use Rattle.std.proofs.Common.{◌≡◌, ◌+◌, ◌-◌, arith}
use Rattle.reader.specs.Fields.{read_in, values_at}
use Rattle.checker.specs.Walks.{in_row}
use Rattle.checker.proofs.Tails.{row_next, row_unread}
use Rattle.checker.proofs.variables.consecutive.Goals as goal

pub loop-number-init : goal.loop-number-init
loop-number-init c =
    let w = c.args.window.now in
    let n = c.from-first.result in
    let count : n + c.from.result - n ≡ c.args.values.count = omega (arith, c.from.ensures) in
    λ i. in_row (c.from-first.ensures i) (count i) (read_in w values_at (count i) c.args.values.place)

pub returns-in_default : goal.returns-in_default
returns-in_default c =
    let k = c.loop-number.number in
    let end = c.from-first.result + c.from.result in
    row_unread c.args.window.now k (end - (k + 1)) (end - k) c.loop-number.place c.in_default.field-0 _ (omega arith) c.in_default.ensures.reads c.loop-number.invariant

pub returns-then-not-is_variable : goal.returns-then-not-is_variable
returns-then-not-is_variable c =
    let k = c.loop-number.number in
    let end = c.from-first.result + c.from.result in
    row_next c.args.window.now k (end - (k + 1)) (end - k) c.loop-number.place (c.in-Ok.value, c.in-Ok.next) _ _ (omega arith) c.in-Ok.ensures.reads c.if-not-is_variable.ensures c.loop-number.invariant

pub loop-number-preserved : goal.loop-number-preserved
loop-number-preserved c =
    let k = c.loop-number.number in
    let end = c.from-first.result + c.from.result in
    row_next c.args.window.now k (end - (k + 1)) (end - k) c.loop-number.place (c.in-Ok.value, c.in-Ok.next) _ _ (omega arith) c.in-Ok.ensures.reads c.if-not-is_variable.ensures c.loop-number.invariant
