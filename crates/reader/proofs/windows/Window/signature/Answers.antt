use Rattle.std.proofs.Common.{length, sym, ◌∙◌, rules}
use Rattle.reader.specs.Fields.{type_at}
use Rattle.reader.proofs.Rows.{signature_is}
use Rattle.reader.proofs.windows.Window.signature.Goals as goal

pub returns : goal.returns
returns c =
    let s = c.args.self.now in
    let b = s.bytes.now in
    let f = s.function in
    c.skip.ensures (type_at b (length b) f) (λ v p x same read. search rules)
    ∙ sym (signature_is b (length b) f c.args.place c.in_ok-count.count c.in_ok-count.next c.in_ok-count.ensures.reads)
