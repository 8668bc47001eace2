use Rattle.std.proofs.Common.{◌≡◌, [], ◌∷◌, ◌++◌, subst, arith}
use Rattle.std.proofs.lemmas.Result.{IfOk-at_ok}
use Rattle.rows.specs.Rows.{items}
use Rattle.code.specs.Copies.{Listed}
use Rattle.code.proofs.Copying.{is_there, room_for, counted, copied_more}
use Rattle.code.proofs.copies.making.functions.Goals as goal

pub unwrap-function-requires : goal.unwrap-function-requires
unwrap-function-requires c =
    let t = c.args.table.now in
    let (P, s) = c.requires in
    is_there t.program.now P c.loop-number.number c.numbered.result (omega (arith, counted t P s, c.loop-number-test.true)) (c.numbered.ensures P s)

pub unwrap-requires : goal.unwrap-requires
unwrap-requires c =
    let t = c.args.table.now in
    let (P, s) = c.requires in
    c.push.ensures.room.1 (room_for t P s (items c.loop-number.functions) c.loop-number.number c.loop-number-test.true (c.loop-number.invariant P s))

pub loop-number-preserved : goal.loop-number-preserved
loop-number-preserved c P s =
    let t = c.args.table.now in
    let b = t.program.now in
    let f = c.unwrap-function.result in
    let at = subst (Listed b P c.loop-number.number) c.unwrap-function.ensures (c.numbered.ensures P s) in
    let grown = IfOk-at_ok (λ _. items c.push.new.self ≡ items c.loop-number.functions ++ f ∷ []) c.unwrap.ensures c.push.ensures.ok in
    copied_more b P c.loop-number.number f (items c.loop-number.functions) (items c.push.new.self) (c.loop-number.invariant P s) at grown
