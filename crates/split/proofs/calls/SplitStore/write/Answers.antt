use Rattle.split.proofs.States.{near_write, far_write}
use Rattle.split.proofs.calls.SplitStore.write.Goals as goal

pub invariant_of-self : goal.invariant_of-self
invariant_of-self g c = let s = c.args.self.now in record { stands = (near_write s.stands c.args.name c.in-Near.is c.in_ok-place.ensures c.args.offset c.args.byte c.write.ensures.after).stands }

pub returns-in-Near-clause-after : goal.returns-in-Near-clause-after
returns-in-Near-clause-after g c = let s = c.args.self.now in (near_write s.stands c.args.name c.in-Near.is c.in_ok-place.ensures c.args.offset c.args.byte c.write.ensures.after).means

pub invariant_of-self-in-Far : goal.invariant_of-self-in-Far
invariant_of-self-in-Far g c = let s = c.args.self.now in record { stands = (far_write s.stands c.args.name c.in-Far.is c.in_ok-place.ensures c.args.offset c.args.byte c.write-in-Far.ensures.after).stands }

pub returns-in-Far-clause-after : goal.returns-in-Far-clause-after
returns-in-Far-clause-after g c = let s = c.args.self.now in (far_write s.stands c.args.name c.in-Far.is c.in_ok-place.ensures c.args.offset c.args.byte c.write-in-Far.ensures.after).means
