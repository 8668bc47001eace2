use Rattle.std.proofs.Common.{sym, subst, ap, ◌∙◌, ne_eqb, length}
use Rattle.reader.proofs.Parts.{node-reads}
use Rattle.typing.specs.Marks.{consecutive}
use Rattle.checker.specs.Walks.{in_row}
use Rattle.checker.proofs.Tails.{consecutive-long, TailBy, tail_by, tail_other}
use Rattle.checker.proofs.walks.Walk.is_tail.Goals as goal

pub returns-in_default : goal.returns-in_default
returns-in_default c t h =
    let w = c.args.self.now.window in
    absurd (node-reads w.bytes.now (length w.bytes.now) w.function c.args.ifs c.args.place t c.in_default.field-0 h c.in_default.ensures.reads)

pub returns-in_default-node : goal.returns-in_default-node
returns-in_default-node c t h =
    let w = c.args.self.now.window in
    tail_other w c.args.first c.args.results t.0 c.in-Ok.node (tail_by w c.args.ifs c.args.first c.args.results c.args.place _ t c.in-Ok.node h c.in-Ok.ensures.reads) c.in_default-node.not-Return

pub returns-then-values-results : goal.returns-then-values-results
returns-then-values-results c t h =
    let w = c.args.self.now.window in
    let (vs, holds, is) = subst (TailBy w c.args.first c.args.results t.0) c.in-Return.is (tail_by w c.args.ifs c.args.first c.args.results c.args.place _ t c.in-Ok.node h c.in-Ok.ensures.reads) in
    c.consecutive.ensures
    ∙ ap (in_row c.args.first c.in-Return.values.count) holds.reads
    ∙ ap (λ n. consecutive c.args.first n vs) c.if-values-results.true
    ∙ sym is

pub returns-else-values-results : goal.returns-else-values-results
returns-else-values-results c t h =
    let w = c.args.self.now.window in
    let (vs, holds, is) = subst (TailBy w c.args.first c.args.results t.0) c.in-Return.is (tail_by w c.args.ifs c.args.first c.args.results c.args.place _ t c.in-Ok.node h c.in-Ok.ensures.reads) in
    ne_eqb c.in-Return.values.count c.args.results c.if-values-results.false
    ∙ sym (is ∙ consecutive-long c.args.first c.args.results vs (λ e. c.if-values-results.false (sym holds.long ∙ e)))
