use Rattle.std.proofs.Common.{arith}
use Rattle.split.proofs.States.{near_counted, far_counted, near_discard, far_discard}
use Rattle.split.proofs.calls.SplitStore.discard.Goals as goal

pub overflow_sub-self : goal.overflow_sub-self
overflow_sub-self g c = let s = c.args.self.now in omega (arith, near_counted s.stands c.args.name c.in-Near.is c.in_ok-size.ensures, c.need.ensures.value)

pub invariant_of-self : goal.invariant_of-self
invariant_of-self g c = let s = c.args.self.now in record { stands = (near_discard s.stands c.args.name c.in-Near.is c.in_ok-size.ensures c.need.ensures.value c.discard.ensures.after).stands }

pub returns-in-Near-clause-after : goal.returns-in-Near-clause-after
returns-in-Near-clause-after g c = let s = c.args.self.now in (near_discard s.stands c.args.name c.in-Near.is c.in_ok-size.ensures c.need.ensures.value c.discard.ensures.after).means

pub overflow_sub-self-in-Far : goal.overflow_sub-self-in-Far
overflow_sub-self-in-Far g c = let s = c.args.self.now in omega (arith, far_counted s.stands c.args.name c.in-Far.is c.in_ok-size.ensures, c.need-in-Far.ensures.value)

pub invariant_of-self-in-Far : goal.invariant_of-self-in-Far
invariant_of-self-in-Far g c = let s = c.args.self.now in record { stands = (far_discard s.stands c.args.name c.in-Far.is c.in_ok-size.ensures c.need-in-Far.ensures.value c.discard-in-Far.ensures.after).stands }

pub returns-in-Far-clause-after : goal.returns-in-Far-clause-after
returns-in-Far-clause-after g c = let s = c.args.self.now in (far_discard s.stands c.args.name c.in-Far.is c.in_ok-size.ensures c.need-in-Far.ensures.value c.discard-in-Far.ensures.after).means
