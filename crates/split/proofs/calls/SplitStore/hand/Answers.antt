use Rattle.split.proofs.States.{near_hand, far_hand, near_move, far_move}
use Rattle.split.proofs.calls.SplitStore.hand.Goals as goal

pub invariant_of-self : goal.invariant_of-self
invariant_of-self g c = let s = c.args.self.now in record { stands = (near_hand s.stands c.args.name c.in-Near-true.is-0 c.in_ok-place.ensures c.in-Near-true.is-1 c.hand.ensures.after).stands }

pub returns-in-Near-true-clause-after : goal.returns-in-Near-true-clause-after
returns-in-Near-true-clause-after g c = let s = c.args.self.now in (near_hand s.stands c.args.name c.in-Near-true.is-0 c.in_ok-place.ensures c.in-Near-true.is-1 c.hand.ensures.after).means

pub invariant_of-self-in-Near-false : goal.invariant_of-self-in-Near-false
invariant_of-self-in-Near-false g c = let s = c.args.self.now in record { stands = ((near_move s.stands c.args.name c.in-Near-false.is-0 c.in_ok-place.ensures c.in-Near-false.is-1 c.transfer.ensures).1).stands }

pub returns-in-Near-false-clause-answer : goal.returns-in-Near-false-clause-answer
returns-in-Near-false-clause-answer g c = let s = c.args.self.now in (near_move s.stands c.args.name c.in-Near-false.is-0 c.in_ok-place.ensures c.in-Near-false.is-1 c.transfer.ensures).0

pub returns-in-Near-false-clause-after : goal.returns-in-Near-false-clause-after
returns-in-Near-false-clause-after g c = let s = c.args.self.now in (near_move s.stands c.args.name c.in-Near-false.is-0 c.in_ok-place.ensures c.in-Near-false.is-1 c.transfer.ensures).1.means

pub invariant_of-self-in-Far-true : goal.invariant_of-self-in-Far-true
invariant_of-self-in-Far-true g c = let s = c.args.self.now in record { stands = ((far_move s.stands c.args.name c.in-Far-true.is-0 c.in_ok-place.ensures c.in-Far-true.is-1 c.transfer-in-Far-true.ensures).1).stands }

pub returns-in-Far-true-clause-answer : goal.returns-in-Far-true-clause-answer
returns-in-Far-true-clause-answer g c = let s = c.args.self.now in (far_move s.stands c.args.name c.in-Far-true.is-0 c.in_ok-place.ensures c.in-Far-true.is-1 c.transfer-in-Far-true.ensures).0

pub returns-in-Far-true-clause-after : goal.returns-in-Far-true-clause-after
returns-in-Far-true-clause-after g c = let s = c.args.self.now in (far_move s.stands c.args.name c.in-Far-true.is-0 c.in_ok-place.ensures c.in-Far-true.is-1 c.transfer-in-Far-true.ensures).1.means

pub invariant_of-self-in-Far-false : goal.invariant_of-self-in-Far-false
invariant_of-self-in-Far-false g c = let s = c.args.self.now in record { stands = (far_hand s.stands c.args.name c.in-Far-false.is-0 c.in_ok-place.ensures c.in-Far-false.is-1 c.hand-in-Far-false.ensures.after).stands }

pub returns-in-Far-false-clause-after : goal.returns-in-Far-false-clause-after
returns-in-Far-false-clause-after g c = let s = c.args.self.now in (far_hand s.stands c.args.name c.in-Far-false.is-0 c.in_ok-place.ensures c.in-Far-false.is-1 c.hand-in-Far-false.ensures.after).means
