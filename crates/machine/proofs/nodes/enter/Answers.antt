use Rattle.std.proofs.Common.{◌≡◌, ℕ, List, ◌++◌, length, ap, sym, ◌∙◌, subst, arith}
use Rattle.reader.specs.declared.types.Ty.{Ty}
use Rattle.reader.specs.declared.values.Operand.{Operand}
use Rattle.reader.specs.Fields.{count_at}
use Rattle.reader.proofs.Results.{ok_same}
use Rattle.rows.specs.Rows.{items}
use Rattle.typing.specs.Signatures.{of_function}
use Rattle.typing.specs.Typing.{Tail}
use Rattle.rules.specs.declared.held.Held.{Held}
use Rattle.rules.specs.State.{frame}
use Rattle.rules.specs.Rules.{Gives}
use Rattle.code.specs.Copies.{bytes_of}
use Rattle.code.specs.Sights.{sees}
use Rattle.code.proofs.Arguments.{found_read, unfound_read}
use Rattle.machine.proofs.Decides.{false_not_true, stuck_calling, none_called, none_given, at_call, room_for_types, tail_enters, enters, stuck-deep}
use Rattle.machine.proofs.nodes.enter.Goals as goal

-- the same variables give the same
given_from : {vs ws us xs : List Held} {as' : List Operand} {τs : List Ty} → vs ≡ ws → Gives vs as' τs xs us → Gives ws as' τs xs us
given_from {us = us} {xs = xs} {as' = as'} {τs = τs} e g = subst (λ zs. Gives zs as' τs xs us) e g

pub returns-in_default : goal.returns-in_default
returns-in_default c s t p fs l at = stuck_calling c.args.code.now s t p _ c.args.top.now fs _ at (λ as' stop k next r q. none_called (ap of_function c.in_default.ensures))

pub returns-in_default-give_all : goal.returns-in_default-give_all
returns-in_default-give_all c s t p fs l at =
    stuck_calling c.args.code.now s t p _ c.args.top.now fs _ at (λ as' stop k next r q.
    none_given (ap of_function c.in-Some.ensures) (λ xs us g. c.in_default-give_all.ensures (room_for_types c.clear.new.self c.in-Some.entered.params c.clear.ensures) as' stop r xs us (given_from (sym c.copy_from.ensures.variables) g)))

pub returns-in_default-results : goal.returns-in_default-results
returns-in_default-results c s t p fs l at =
    let (bs, xs, read, gives, joined) = c.in-Some-give_all.ensures in
    let b = bytes_of c.args.code.now in
    stuck_calling c.args.code.now s t p _ c.args.top.now fs _ at (λ as' stop k next r q a.
    unfound_read (count_at b (length b) 255 c.in-Some-give_all.end) (k, next) c.in_default-results.ensures
    (ap (λ (x : List Operand × ℕ). count_at b (length b) 255 x.1) (ok_same (bs, c.in-Some-give_all.end) (as', stop) (sym read ∙ r)) ∙ q))

pub returns-then-is_tail : goal.returns-then-is_tail
returns-then-is_tail c s t p fs l at =
    let (as', xs, read, gives, joined) = c.in-Some-give_all.ensures in
    let b = bytes_of c.args.code.now in
    let count = found_read (count_at b (length b) 255 c.in-Some-give_all.end) _ c.in-Some-results.ensures in
    tail_enters (at_call c.args.code.now s t p _ c.args.top.now fs _ at read count) c.in-Some.entered c.in-Some.ensures
    (record { top = record { function = c.args.function; place = c.in-Some.entered.body; variables = c.give_all.new.given }; caller = record { function = c.copy_from.new.self.function; place = c.copy_from.new.self.place; variables = c.give_all.new.variables } }) c.quiet.result (given_from c.copy_from.ensures.variables gives)
    (subst (λ n. Tail n c.in-Some-results.results (sees b c.in-Some-results.next)) c.len.ensures (c.is_tail.ensures.0 c.if-is_tail.true))
    (ap (frame c.args.function (sees b c.in-Some.entered.body)) (joined ∙ ap (λ vs. vs ++ xs) c.clear.ensures)) c.quiet.ensures

pub returns-then-below-ge7 : goal.returns-then-below-ge7
returns-then-below-ge7 c s t p fs l at =
    let (as', xs, read, gives, joined) = c.in-Some-give_all.ensures in
    let b = bytes_of c.args.code.now in
    let count = found_read (count_at b (length b) 255 c.in-Some-give_all.end) _ c.in-Some-results.ensures in
    stuck-deep (at_call c.args.code.now s t p _ c.args.top.now fs _ at read count)
    (λ x. false_not_true (sym c.if-is_tail.false ∙ c.is_tail.ensures.1 (subst (λ n. Tail n c.in-Some-results.results (sees b c.in-Some-results.next)) (sym c.len.ensures) x))) (omega arith)

pub returns : goal.returns
returns c s t p fs l at =
    let (as', xs, read, gives, joined) = c.in-Some-give_all.ensures in
    let b = bytes_of c.args.code.now in
    let count = found_read (count_at b (length b) 255 c.in-Some-give_all.end) _ c.in-Some-results.ensures in
    enters (at_call c.args.code.now s t p _ c.args.top.now fs _ at read count) c.in-Some.entered c.in-Some.ensures
    (record { top = record { function = c.args.function; place = c.in-Some.entered.body; variables = c.give_all.new.given }; caller = record { function = c.copy_from.new.self.function; place = c.in-Some-results.next; variables = c.give_all.new.variables } }) c.quiet-2.result (given_from c.copy_from.ensures.variables gives)
    (λ x. false_not_true (sym c.if-is_tail.false ∙ c.is_tail.ensures.1 (subst (λ n. Tail n c.in-Some-results.results (sees b c.in-Some-results.next)) (sym c.len.ensures) x))) (omega arith)
    (ap (frame c.args.function (sees b c.in-Some.entered.body)) (joined ∙ ap (λ vs. vs ++ xs) c.clear.ensures)) (ap (λ f. frame f (sees b c.in-Some-results.next) (items c.give_all.new.variables)) c.copy_from.ensures.function) c.quiet-2.ensures
