use Rattle.std.proofs.Common.{arith, rules, sym, ◌∙◌}
use Rattle.rules.specs.Rules.{on_names}
use Rattle.machine.proofs.Decides.{false_not_true}
use Rattle.machine.proofs.Operations.{room_awaited, made_packet}
use Rattle.machine.proofs.memory.Memory.new_packet.Goals as goal

pub returns-then-count-self : goal.returns-then-count-self
returns-then-count-self g c = on_names (omega (arith, c.made-count.ensures (g.S.Store.meaning c.args.store.now)))

pub returns-then-not-has_room : goal.returns-then-not-has_room
returns-then-not-has_room g c =
    let made = c.made-count.ensures (g.S.Store.meaning c.args.store.now) in
    room_awaited _ _ _ {size = c.min-size.result} (search rules) (omega arith) (λ r. false_not_true (sym c.if-not-has_room.true ∙ c.has_room.ensures.1 r))

pub returns : goal.returns
returns g c =
    let made = c.made-count.ensures (g.S.Store.meaning c.args.store.now) in
    made_packet _ _ _ (search rules) (omega arith) made c.requires.fresh (c.has_room.ensures.0 c.if-not-has_room.false)
