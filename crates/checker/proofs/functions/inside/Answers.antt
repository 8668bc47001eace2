use Rattle.std.proofs.Common.{◌≡◌, ℕ, ◌≤◌, ◌++◌, map, length, take, Ok, Err, sym, ap, ◌∙◌, arith, rules}
use Rattle.std.proofs.lemmas.List.{length-take-le}
use Rattle.reader.proofs.Cuts.{body_cut}
use Rattle.reader.specs.Nodes.{body_at}
use Rattle.typing.specs.Typing.{has}
use Rattle.checker.specs.Walks.{context}
use Rattle.checker.proofs.Paths.{inside_is}
use Rattle.checker.proofs.Places.{says_of}
use Rattle.checker.proofs.functions.inside.Goals as goal

pub returns-in_err-body : goal.returns-in_err-body
returns-in_err-body c P s F h =
    let t = c.args.table.now in
    let i = c.args.function in
    let r = c.in-Some.record in
    let y = says_of t.program.now P i F r (c.in-Some.ensures P s) h in
    let end = c.min-end.result in
    let e : end ≡ r.end = omega (arith, y.inside, c.min-end.ensures) in
    let within : end ≤ length t.program.now = omega (arith, c.min-end.ensures) in
    let whole = ap (λ (z : ℕ). take z t.program.now) (sym (length-take-le end t.program.now within)) in
    let x : c.from_residual.result ≡ Err c.in_err-body.field-0.0 = search rules in
    x ∙ inside_is P i F (context c.bind_all.new.self) r.end (Err c.in_err-body.field-0.0)
    (c.in_err-body.ensures.answer P F (F.body, r.end) (record { stands = s; bytes = whole; function = h; says = y })
    (body_cut t.program.now end i within 0 r.body ∙ ap (λ z. body_at t.program.now z i 0 r.body) e ∙ y.body))
    (c.bind_all.ensures ∙ (λ j. c.new.ensures j ++ map has (y.params j)))

pub returns : goal.returns
returns c P s F h =
    let t = c.args.table.now in
    let i = c.args.function in
    let r = c.in-Some.record in
    let y = says_of t.program.now P i F r (c.in-Some.ensures P s) h in
    let end = c.min-end.result in
    let e : end ≡ r.end = omega (arith, y.inside, c.min-end.ensures) in
    let within : end ≤ length t.program.now = omega (arith, c.min-end.ensures) in
    let whole = ap (λ (z : ℕ). take z t.program.now) (sym (length-take-le end t.program.now within)) in
    inside_is P i F (context c.bind_all.new.self) r.end (Ok c.in_ok-body.field-0)
    (c.in_ok-body.ensures.answer P F (F.body, r.end) (record { stands = s; bytes = whole; function = h; says = y })
    (body_cut t.program.now end i within 0 r.body ∙ ap (λ z. body_at t.program.now z i 0 r.body) e ∙ y.body))
    (c.bind_all.ensures ∙ (λ j. c.new.ensures j ++ map has (y.params j)))
