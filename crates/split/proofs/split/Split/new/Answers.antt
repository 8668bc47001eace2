use Rattle.std.proofs.Common.{◌≡◌}
use Rattle.split.specs.Splits.{unused}
use Rattle.split.proofs.States.{new-meaning, new-stands, clean_yes, clean_no}
use Rattle.split.proofs.split.Split.new.Goals as goal
use Rattle.split.proofs.split.Split.new.Goals.{then-near_used-eq0, else-near_used-eq0}

pub invariant_of-result : goal.invariant_of-result
invariant_of-result g c =
    let a = g.N.Store.meaning c.args.near in
    let b = g.F.Store.meaning c.args.far in
    let clean = c.if-near_used-eq0.clean in
    let e : clean ≡ unused a b = elim c.if-near_used-eq0.branch [
      | then-near_used-eq0 w ↦ clean_yes a b clean c.used-near_used.ensures.value c.used-far_used.ensures.value w.if-near_used-eq0.true w.clean-is
      | else-near_used-eq0 w ↦ clean_no a b clean c.used-near_used.ensures.value c.used-far_used.ensures.value w.if-near_used-eq0.false w.clean-is
    ] in
    record { stands = new-stands a b c.used-near_used.ensures.least c.used-far_used.ensures.least clean e c.args.bound }

pub returns-clause-meaning : goal.returns-clause-meaning
returns-clause-meaning g c =
    let a = g.N.Store.meaning c.args.near in
    let b = g.F.Store.meaning c.args.far in
    let clean = c.if-near_used-eq0.clean in
    let e : clean ≡ unused a b = elim c.if-near_used-eq0.branch [
      | then-near_used-eq0 w ↦ clean_yes a b clean c.used-near_used.ensures.value c.used-far_used.ensures.value w.if-near_used-eq0.true w.clean-is
      | else-near_used-eq0 w ↦ clean_no a b clean c.used-near_used.ensures.value c.used-far_used.ensures.value w.if-near_used-eq0.false w.clean-is
    ] in
    new-meaning a b c.used-near_used.ensures.least c.used-far_used.ensures.least clean e
