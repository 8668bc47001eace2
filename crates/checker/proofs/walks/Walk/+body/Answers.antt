use Rattle.std.proofs.Common.{◌≡◌, ℕ, ◌+◌, Ok, Err, Result, ap, ◌∙◌, rules, length}
use Rattle.reader.specs.declared.faults.Fault.{Fault}
use Rattle.reader.specs.declared.nodes.Node.TheVariants as node
use Rattle.reader.specs.Fields.{read_in, then}
use Rattle.reader.specs.Nodes.{body_at}
use Rattle.reader.proofs.Parts.{node-reads}
use Rattle.checker.specs.Walks.{context}
use Rattle.checker.proofs.Paths.{answer_at, path_return, path_branch, path_call, after-body, taken}
use Rattle.checker.proofs.walks.Walk.+body.Goals as goal

pub returns-in_err-node-clause-answer : goal.returns-in_err-node-clause-answer
returns-in_err-node-clause-answer t c P F u s h =
    let w = c.args.self.now.window in
    absurd (node-reads w.bytes.now (length w.bytes.now) w.function c.args.ifs c.args.place u c.in_err-node.field-0.0 h c.in_err-node.ensures.reads)

pub returns-in_err-leave-in-Return-clause-answer : goal.returns-in_err-leave-in-Return-clause-answer
returns-in_err-leave-in-Return-clause-answer t c P F u s h =
    let w = c.args.self.now in
    let next = c.in_ok-node.next in
    let r = taken w c.args.ifs c.args.place next u c.in_ok-node.node (node.Return c.in-Return.values) h c.in_ok-node.ensures.reads c.in-Return.is in
    let x = c.in_err-leave-in-Return.field-0.0 in
    let e : c.from_residual-in_err-leave-in-Return.result ≡ Err x = search rules in
    e ∙ path_return w P F s (context c.args.marks.now) u c.args.place next r.operands (Err x) r.is (c.in_err-leave-in-Return.ensures r.operands (record { stop = next; reads = r.reads; long = r.long }))

pub returns-in_ok-leave-in-Return-clause-answer : goal.returns-in_ok-leave-in-Return-clause-answer
returns-in_ok-leave-in-Return-clause-answer t c P F u s h =
    let w = c.args.self.now in
    let next = c.in_ok-node.next in
    let r = taken w c.args.ifs c.args.place next u c.in_ok-node.node (node.Return c.in-Return.values) h c.in_ok-node.ensures.reads c.in-Return.is in
    path_return w P F s (context c.args.marks.now) u c.args.place next r.operands (Ok tt) r.is (c.in_ok-leave-in-Return.ensures r.operands (record { stop = next; reads = r.reads; long = r.long }))

pub returns-in_err-test-in-Branch-clause-answer : goal.returns-in_err-test-in-Branch-clause-answer
returns-in_err-test-in-Branch-clause-answer t c P F u s h =
    let w = c.args.self.now in
    let b = c.in-Branch in
    let r = taken w c.args.ifs c.args.place c.in_ok-node.next u c.in_ok-node.node (node.Branch b.value b.field b.length) h c.in_ok-node.ensures.reads b.is in
    let x = c.in_err-test-in-Branch.field-0.0 in
    let e : c.from_residual-in_err-test-in-Branch.result ≡ Err x = search rules in
    e ∙ path_branch w P F s (context c.args.marks.now) u c.args.place b.value r.first r.second (Err x) r.is c.in_err-test-in-Branch.ensures

pub returns-in_err-second-in-Branch-clause-answer : goal.returns-in_err-second-in-Branch-clause-answer
returns-in_err-second-in-Branch-clause-answer t c P F u s h =
    let w = c.args.self.now in
    let H = context c.args.marks.now in
    let b = c.in-Branch in
    let r = taken w c.args.ifs c.args.place c.in_ok-node.next u c.in_ok-node.node (node.Branch b.value b.field b.length) h c.in_ok-node.ensures.reads b.is in
    let x = c.in_err-second-in-Branch.field-0.0 in
    let e : c.from_residual-in_err-second-in-Branch.result ≡ Err x = search rules in
    e
    ∙ ap (λ (y : Result ℕ Fault). then y (λ _. answer_at P w.window.function F H r.second)) (c.in_err-second-in-Branch.ensures.answer P F r.first s r.reads_first)
    ∙ path_branch w P F s H u c.args.place b.value r.first r.second (Ok tt) r.is c.in_ok-test-in-Branch.ensures

pub returns-in_ok-second-in-Branch-clause-answer : goal.returns-in_ok-second-in-Branch-clause-answer
returns-in_ok-second-in-Branch-clause-answer t c P F u s h =
    let w = c.args.self.now in
    let H = context c.args.marks.now in
    let b = c.in-Branch in
    let r = taken w c.args.ifs c.args.place c.in_ok-node.next u c.in_ok-node.node (node.Branch b.value b.field b.length) h c.in_ok-node.ensures.reads b.is in
    let one = c.in_ok-second-in-Branch.ensures.answer P F r.first s r.reads_first in
    let there = after-body _ c.in_ok-second-in-Branch.second r.first.1 one in
    let two = c.body-in-Branch.ensures.answer P F r.second s (ap (read_in w.window body_at (c.args.ifs + 1)) there ∙ r.reads_second) in
    two
    ∙ ap (λ (y : Result ℕ Fault). then y (λ _. answer_at P w.window.function F H r.second)) one
    ∙ path_branch w P F s H u c.args.place b.value r.first r.second (Ok tt) r.is c.in_ok-test-in-Branch.ensures

pub returns-in_err-enter-in-Call-clause-answer : goal.returns-in_err-enter-in-Call-clause-answer
returns-in_err-enter-in-Call-clause-answer t c P F u s h =
    let w = c.args.self.now in
    let a = c.in-Call in
    let r = taken w c.args.ifs c.args.place c.in_ok-node.next u c.in_ok-node.node (node.Call a.operation a.arguments a.results) h c.in_ok-node.ensures.reads a.is in
    let x = c.in_err-enter-in-Call.field-0.0 in
    let e : c.from_residual-in_err-enter-in-Call.result ≡ Err x = search rules in
    e ∙ path_call w P F s (context c.args.marks.now) u c.args.place a.operation r.operands a.results r.rest (Err x) r.is
    (c.in_err-enter-in-Call.ensures P s.stands r.operands r.rest (record { stop = r.stop; reads = r.reads; long = r.long }) r.reads-rest)

pub returns-in_ok-enter-in-Call-clause-answer : goal.returns-in_ok-enter-in-Call-clause-answer
returns-in_ok-enter-in-Call-clause-answer t c P F u s h =
    let w = c.args.self.now in
    let a = c.in-Call in
    let r = taken w c.args.ifs c.args.place c.in_ok-node.next u c.in_ok-node.node (node.Call a.operation a.arguments a.results) h c.in_ok-node.ensures.reads a.is in
    c.body-in-Call.ensures.answer P F r.rest s r.reads-rest
    ∙ path_call w P F s (context c.args.marks.now) u c.args.place a.operation r.operands a.results r.rest (Ok (context c.enter.new.marks)) r.is
    (c.in_ok-enter-in-Call.ensures P s.stands r.operands r.rest (record { stop = r.stop; reads = r.reads; long = r.long }) r.reads-rest)
