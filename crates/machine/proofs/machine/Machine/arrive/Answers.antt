use Rattle.std.proofs.Common.{length, refl, sym, ap, ◌∙◌, arith}
use Rattle.rules.specs.Calls.{arrive, denies, arrive_first, too_long, all_waiting, all_named, no_room}
use Rattle.machine.specs.States.{state_of}
use Rattle.machine.proofs.Decides.{false_not_true}
use Rattle.machine.proofs.Machines.{led-loaded, led-fresh, led-on, led-promised, stays-unloaded, goes-loaded, arrive-does}
use Rattle.machine.proofs.machine.Machine.arrive.Goals as goal

pub returns-in_default-clause-does : goal.returns-in_default-clause-does
returns-in_default-clause-does g c = stays-unloaded (arrive c.args.bytes.now) _ c.in_default.is (denies arrive_first refl)

pub returns-then-bytes-largest-clause-does : goal.returns-then-bytes-largest-clause-does
returns-then-bytes-largest-clause-does g c =
    let largest = c.largest.ensures in
    goes-loaded (arrive c.args.bytes.now) _ c.in-Some.is (denies (too_long (omega arith)) refl)

pub returns-then-bytes-largest-clause-promise : goal.returns-then-bytes-largest-clause-promise
returns-then-bytes-largest-clause-promise g c = led-promised _ (led-loaded c.args.self.now.reached c.in-Some.is)

pub returns-then-received-ge-QUEUE_LIMIT-clause-does : goal.returns-then-received-ge-QUEUE_LIMIT-clause-does
returns-then-received-ge-QUEUE_LIMIT-clause-does g c =
    let largest = c.largest.ensures in
    let waiting = ap length (c.received.ensures (g.S.Store.meaning c.args.self.now.store)) in
    goes-loaded (arrive c.args.bytes.now) _ c.in-Some.is (denies (all_waiting (omega arith) (omega arith)) refl)

pub returns-then-received-ge-QUEUE_LIMIT-clause-promise : goal.returns-then-received-ge-QUEUE_LIMIT-clause-promise
returns-then-received-ge-QUEUE_LIMIT-clause-promise g c = led-promised _ (led-loaded c.args.self.now.reached c.in-Some.is)

pub returns-then-made-limit-clause-does : goal.returns-then-made-limit-clause-does
returns-then-made-limit-clause-does g c =
    let m = g.S.Store.meaning c.args.self.now.store in
    let largest = c.largest.ensures in
    let waiting = ap length (c.received.ensures m) in
    let made = c.made.ensures m in
    let limit = c.limit.ensures m in
    goes-loaded (arrive c.args.bytes.now) _ c.in-Some.is (denies (all_named (omega arith) (omega arith) (omega arith)) refl)

pub returns-then-made-limit-clause-promise : goal.returns-then-made-limit-clause-promise
returns-then-made-limit-clause-promise g c = led-promised _ (led-loaded c.args.self.now.reached c.in-Some.is)

pub returns-then-not-has_room-clause-does : goal.returns-then-not-has_room-clause-does
returns-then-not-has_room-clause-does g c =
    let m = g.S.Store.meaning c.args.self.now.store in
    let largest = c.largest.ensures in
    let waiting = ap length (c.received.ensures m) in
    let made = c.made.ensures m in
    let limit = c.limit.ensures m in
    goes-loaded (arrive c.args.bytes.now) _ c.in-Some.is
    (denies (no_room (omega arith) (omega arith) (omega arith) (λ r. false_not_true (sym c.if-not-has_room.true ∙ c.has_room.ensures.1 r))) refl)

pub returns-then-not-has_room-clause-promise : goal.returns-then-not-has_room-clause-promise
returns-then-not-has_room-clause-promise g c = led-promised _ (led-loaded c.args.self.now.reached c.in-Some.is)

pub arrive-requires : goal.arrive-requires
arrive-requires g c =
    let m = g.S.Store.meaning c.args.self.now.store in
    let largest = c.largest.ensures in
    let waiting = ap length (c.received.ensures m) in
    let made = c.made.ensures m in
    let limit = c.limit.ensures m in
    record {
      fits = omega arith;
      waits = omega arith;
      named = omega arith;
      room = c.has_room.ensures.0 c.if-not-has_room.false;
      fresh = led-fresh (state_of c.in-Some.memory m) (led-loaded c.args.self.now.reached c.in-Some.is);
    }

pub invariant_of-self-2 : goal.invariant_of-self-2
invariant_of-self-2 g c =
    let m = g.S.Store.meaning c.args.self.now.store in
    let largest = c.largest.ensures in
    let waiting = ap length (c.received.ensures m) in
    let made = c.made.ensures m in
    let limit = c.limit.ensures m in
    let led = led-loaded c.args.self.now.reached c.in-Some.is in
    let s = state_of c.in-Some.memory m in
    let d = arrive-does s c.args.bytes.now (omega arith) (omega arith) (omega arith) (c.has_room.ensures.0 c.if-not-has_room.false) c.arrive.ensures.state in
    record { reached = led-on led d }

pub returns-clause-does : goal.returns-clause-does
returns-clause-does g c =
    let m = g.S.Store.meaning c.args.self.now.store in
    let largest = c.largest.ensures in
    let waiting = ap length (c.received.ensures m) in
    let made = c.made.ensures m in
    let limit = c.limit.ensures m in
    let s = state_of c.in-Some.memory m in
    let d = arrive-does s c.args.bytes.now (omega arith) (omega arith) (omega arith) (c.has_room.ensures.0 c.if-not-has_room.false) c.arrive.ensures.state in
    goes-loaded (arrive c.args.bytes.now) _ c.in-Some.is d

pub returns-clause-promise : goal.returns-clause-promise
returns-clause-promise g c =
    let m = g.S.Store.meaning c.args.self.now.store in
    let largest = c.largest.ensures in
    let waiting = ap length (c.received.ensures m) in
    let made = c.made.ensures m in
    let limit = c.limit.ensures m in
    let led = led-loaded c.args.self.now.reached c.in-Some.is in
    let s = state_of c.in-Some.memory m in
    let d = arrive-does s c.args.bytes.now (omega arith) (omega arith) (omega arith) (c.has_room.ensures.0 c.if-not-has_room.false) c.arrive.ensures.state in
    led-promised _ (led-on led d)
