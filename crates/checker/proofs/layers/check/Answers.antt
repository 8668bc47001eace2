use Rattle.std.proofs.Common.{◌≡◌, Err, ap, sym, arith, rules}
use Rattle.reader.specs.declared.headers.Header.{Header}
use Rattle.typing.specs.Layers.{outside, inside}
use Rattle.checker.proofs.Verdicts.{unread, denied-signature, asked_bodies}
use Rattle.checker.proofs.layers.check.Goals as goal

pub returns-in_err-table-clause-granted : goal.returns-in_err-table-clause-granted
returns-in_err-table-clause-granted c =
    let e : c.from_residual.result ≡ Err c.in_err-table.field-0.0 = search rules in
    (unread c.args.program.now (λ i. omega (arith, c.type_inv.program i)) c.from_residual.result c.in_err-table.field-0.0 e c.in_err-table.ensures).granted

pub returns-in_err-each-clause-granted : goal.returns-in_err-each-clause-granted
returns-in_err-each-clause-granted c =
    let e : c.from_residual-in_err-each.result ≡ Err c.in_err-each.field-0.0 = search rules in
    (denied-signature c.args.program.now (λ i. omega (arith, c.type_inv.program i)) c.in_ok-table.table c.in_ok-table.ensures c.from_residual-in_err-each.result c.in_err-each.field-0.0 e
    (λ P s. c.in_err-each.ensures (outside P) P.functions (ap (λ (h : Header). h.functions) (sym s.counts)) (λ k F a at post. search rules))).granted

pub returns : goal.returns
returns c =
    let g = asked_bodies c.args.program.now (λ i. omega (arith, c.type_inv.program i)) c.in_ok-table.table c.in_ok-table.ensures c.each-2.result
    (λ P s. c.in_ok-each.ensures (outside P) P.functions (ap (λ (h : Header). h.functions) (sym s.counts)) (λ k F a at post. search rules))
    (λ P s. c.each-2.ensures (inside P) P.functions (ap (λ (h : Header). h.functions) (sym s.counts)) (λ k F a at post. search rules)) in
    record { answer = g.answer; granted = g.granted }
