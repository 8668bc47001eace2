use Rattle.std.proofs.Common.{length, sym, subst, rules}
use Rattle.reader.specs.Fields.{value_at, Onward}
use Rattle.reader.proofs.Lists.{list_is, list_stands, list_onward}
use Rattle.reader.proofs.windows.Window.list.Goals as goal

pub returns-in_err-next-clause-reads : goal.returns-in_err-next-clause-reads
returns-in_err-next-clause-reads c =
    let s = c.args.self.now in
    let b = s.bytes.now in
    let one = c.in_err-next.ensures (value_at b (length b) s.function) (λ v p x same read. search rules) in
    rw (list_is b (length b) s.function c.args.place c.in_ok-count.count c.in_ok-count.first c.in_ok-count.ensures.reads) (search rules)

pub returns : goal.returns
returns c =
    let s = c.args.self.now in
    let b = s.bytes.now in
    let e = length b in
    let f = s.function in
    let p = c.args.place in
    let reads = list_stands b e f p c.in_ok-count.count c.in_ok-count.first c.in_ok-next.next c.in_ok-count.ensures.reads
    (c.in_ok-next.ensures (value_at b e f) (λ v p x same read. search rules)) in
    record { reads = reads; onward = subst (Onward p e) (sym reads) (list_onward b e f p) }
