use Rattle.std.proofs.Common.{ℕ, arith, subst, ◌∙◌, length-set}
use Rattle.std.proofs.lemmas.List.{length-replicate}
use Rattle.code.specs.Copies.{bytes_of}
use Rattle.code.proofs.Arguments.{Reading, reading_none, reading_next, unread, uncounted, argued, other_count}
use Rattle.code.proofs.copies.Code.arguments.Goals as goal

pub returns-then-from : goal.returns-then-from
returns-then-from g c = other_count (bytes_of c.args.self.now) c.args.values g.row.N (λ same. omega arith)

pub loop-i-init : goal.loop-i-init
loop-i-init g c = (reading_none (bytes_of c.args.self.now) c.args.values g.row.N _ (omega arith), length-replicate _ _, omega arith)

pub returns-in_err-value : goal.returns-in_err-value
returns-in_err-value g c =
    unread (bytes_of c.args.self.now) c.args.values g.row.N c.loop-i.i c.loop-i.place c.loop-i.arguments c.loop-i.invariant.0 c.loop-i-test.true _ c.in_err-value.ensures c.from_residual.ensures

pub loop-i-preserved : goal.loop-i-preserved
loop-i-preserved g c = (
  reading_next (bytes_of c.args.self.now) c.args.values g.row.N c.loop-i.i c.loop-i.place c.loop-i.arguments c.loop-i.invariant.0 c.loop-i-test.true c.in_ok-value.value c.in_ok-value.next c.in_ok-value.ensures c.loop-i.invariant.1,
  length-set _ _ _ ∙ c.loop-i.invariant.1,
  omega (arith, c.loop-i-test.true),
)

pub returns-in_err-next : goal.returns-in_err-next
returns-in_err-next g c =
    uncounted (bytes_of c.args.self.now) c.args.values g.row.N c.loop-i.place c.loop-i.arguments
    (subst (λ (i : ℕ). Reading (bytes_of c.args.self.now) c.args.values g.row.N i c.loop-i.place c.loop-i.arguments) (omega (arith, c.loop-i.invariant.2, c.loop-i-test.false)) c.loop-i.invariant.0) _
    c.in_err-next.ensures c.from_residual-in_err-next.ensures

pub returns : goal.returns
returns g c =
    argued (bytes_of c.args.self.now) c.args.values g.row.N c.loop-i.place c.loop-i.arguments
    (subst (λ (i : ℕ). Reading (bytes_of c.args.self.now) c.args.values g.row.N i c.loop-i.place c.loop-i.arguments) (omega (arith, c.loop-i.invariant.2, c.loop-i-test.false)) c.loop-i.invariant.0)
    c.in_ok-next.field-0-0 c.in_ok-next.next c.in_ok-next.ensures c.loop-i.invariant.1
