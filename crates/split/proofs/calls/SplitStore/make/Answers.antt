use Rattle.std.proofs.Common.{sym, ◌∙◌}
use Rattle.split.proofs.States.{near_make, far_make}
use Rattle.split.proofs.calls.SplitStore.make.Goals as goal

pub invariant_of-self : goal.invariant_of-self
invariant_of-self g c = let s = c.args.self.now in record { stands = (near_make s.stands c.args.name c.args.size c.place.result (sym c.is_ok.ensures.value ∙ c.if-is_ok.false) c.place.ensures c.largest.ensures c.if-size-largest.false c.need-need.ensures.value c.capacity.ensures c.if-need-capacity.false c.if-name-self.true c.make.ensures.after).stands }

pub returns-then-name-self-clause-after : goal.returns-then-name-self-clause-after
returns-then-name-self-clause-after g c = let s = c.args.self.now in (near_make s.stands c.args.name c.args.size c.place.result (sym c.is_ok.ensures.value ∙ c.if-is_ok.false) c.place.ensures c.largest.ensures c.if-size-largest.false c.need-need.ensures.value c.capacity.ensures c.if-need-capacity.false c.if-name-self.true c.make.ensures.after).means

pub invariant_of-self-else-name-self : goal.invariant_of-self-else-name-self
invariant_of-self-else-name-self g c = let s = c.args.self.now in record { stands = (far_make s.stands c.args.name c.args.size c.place.result (sym c.is_ok.ensures.value ∙ c.if-is_ok.false) c.place.ensures c.largest.ensures c.if-size-largest.false c.need-need.ensures.value c.capacity.ensures c.if-need-capacity.false c.if-name-self.false c.make-else-name-self.ensures.after).stands }

pub returns-else-name-self-clause-after : goal.returns-else-name-self-clause-after
returns-else-name-self-clause-after g c = let s = c.args.self.now in (far_make s.stands c.args.name c.args.size c.place.result (sym c.is_ok.ensures.value ∙ c.if-is_ok.false) c.place.ensures c.largest.ensures c.if-size-largest.false c.need-need.ensures.value c.capacity.ensures c.if-need-capacity.false c.if-name-self.false c.make-else-name-self.ensures.after).means
