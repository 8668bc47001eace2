use Rattle.std.proofs.Common.{◌≤◌, sym, ap, ◌∙◌, arith}
use Rattle.store.specs.Meaning.{answer}
use Rattle.store.proofs.Kept.{gone_from, kept_vacant, kept_full}
use Rattle.store.proofs.lent_store.LentStoreStore.make.Goals as goal

pub returns-in_default-clause-answer : goal.returns-in_default-clause-answer
returns-in_default-clause-answer g c =
    let rs = g.L.Lent.rows c.args.self.now.lent in
    let gone = gone_from rs c.args.name c.place.result c.place.ensures (sym c.is_ok.ensures.value ∙ c.if-is_ok.false) in
    let small : c.args.size ≤ g.L.Lent.largest = omega arith in
    ap (λ o. answer o tt) (sym (kept_full rs g.L.Lent.largest g.L.Lent.need c.args.name c.args.size gone c.args.self.now.apart small c.in_default.ensures))

pub returns-in_default-clause-after : goal.returns-in_default-clause-after
returns-in_default-clause-after g c =
    let rs = g.L.Lent.rows c.args.self.now.lent in
    let gone = gone_from rs c.args.name c.place.result c.place.ensures (sym c.is_ok.ensures.value ∙ c.if-is_ok.false) in
    let small : c.args.size ≤ g.L.Lent.largest = omega arith in
    rw (kept_full rs g.L.Lent.largest g.L.Lent.need c.args.name c.args.size gone c.args.self.now.apart small c.in_default.ensures)

pub invariant_of-self : goal.invariant_of-self
invariant_of-self g c =
    let rs = g.L.Lent.rows c.args.self.now.lent in
    let gone = gone_from rs c.args.name c.place.result c.place.ensures (sym c.is_ok.ensures.value ∙ c.if-is_ok.false) in
    let small : c.args.size ≤ g.L.Lent.largest = omega arith in
    record {
      sound = c.fill.ensures.sound;
      apart = (kept_vacant rs g.L.Lent.largest g.L.Lent.need c.args.name c.args.size gone c.args.self.now.apart small c.in-Some.place c.in-Some.ensures _ c.fill.ensures.filled).2;
    }

pub returns : goal.returns
returns g c =
    let rs = g.L.Lent.rows c.args.self.now.lent in
    let gone = gone_from rs c.args.name c.place.result c.place.ensures (sym c.is_ok.ensures.value ∙ c.if-is_ok.false) in
    let small : c.args.size ≤ g.L.Lent.largest = omega arith in
    let made = kept_vacant rs g.L.Lent.largest g.L.Lent.need c.args.name c.args.size gone c.args.self.now.apart small c.in-Some.place c.in-Some.ensures _ c.fill.ensures.filled in
    record { answer = sym made.0; after = made.1 }
