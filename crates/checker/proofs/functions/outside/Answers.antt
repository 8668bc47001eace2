use Rattle.std.proofs.Common.{◌≡◌, ◌+◌, true, false, None, Some, Err, length, refl, ap, ◌∙◌, arith}
use Rattle.std.specs.Prelude.{position, slice_get}
use Rattle.reader.specs.declared.questions.Question.TheVariants.{ThreadSignature, NoAliasResult}
use Rattle.reader.specs.Faults.{fault}
use Rattle.records.specs.Tables.{places}
use Rattle.typing.specs.Layers.{results_place}
use Rattle.checker.proofs.Aliases.{lent, outside-is}
use Rattle.checker.proofs.Places.{place_is, place_none, ready-is, body-place, says_of}
use Rattle.checker.proofs.functions.outside.Goals as goal

pub returns-in_default : goal.returns-in_default
returns-in_default c P s F h =
    let none : None ≡ slice_get (places P.functions) c.args.function = cc c.in_default.ensures in
    absurd (place_none P c.args.function F none h)

pub returns-then-not-is_ready : goal.returns-then-not-is_ready
returns-then-not-is_ready c P s F h =
    let t = c.args.table.now in
    let i = c.args.function in
    let r = c.in-Some-record.record in
    let y = says_of t.program.now P i F r (c.in-Some-record.ensures P s) h in
    let at : Some c.in-Some.place ≡ slice_get (places P.functions) i = cc c.in-Some.ensures in
    ap Err (c.new.ensures ∙ ap (fault ThreadSignature i) (place_is P i c.in-Some.place F at h))
    ∙ outside-is P i F false _ (c.if-not-is_ready.ensures ∙ ready-is t P s i F h r y) refl

pub returns-in-None : goal.returns-in-None
returns-in-None c P s F h =
    let t = c.args.table.now in
    let i = c.args.function in
    let r = c.in-Some-record.record in
    let y = says_of t.program.now P i F r (c.in-Some-record.ensures P s) h in
    outside-is P i F true None (c.if-not-is_ready.ensures ∙ ready-is t P s i F h r y) (c.in-None.ensures ∙ ap (position lent) y.results)

pub returns-in-Some-first_alias : goal.returns-in-Some-first_alias
returns-in-Some-first_alias c P s F h =
    let t = c.args.table.now in
    let i = c.args.function in
    let k = c.in-Some-first_alias.i in
    let r = c.in-Some-record.record in
    let y = says_of t.program.now P i F r (c.in-Some-record.ensures P s) h in
    let here : c.saturating_sub.result + k ≡ results_place F + k = omega (arith, body-place t P s i F h r y, ap length y.results) in
    ap Err (c.new-in-Some-first_alias.ensures ∙ ap (fault NoAliasResult i) here)
    ∙ outside-is P i F true (Some k) (c.if-not-is_ready.ensures ∙ ready-is t P s i F h r y) (c.in-Some-first_alias.ensures ∙ ap (position lent) y.results)
