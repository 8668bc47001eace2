use Rattle.store.specs.Packets.{with_holder}
use Rattle.store.proofs.Gathered.{distinct-packet}
use Rattle.store.proofs.Kept.{as_long, kept_hand}
use Rattle.store.proofs.lent_store.LentStoreStore.hand.Goals as goal

pub invariant_of-self : goal.invariant_of-self
invariant_of-self g c = record {
  sound = c.hand.ensures.sound;
  apart = distinct-packet (with_holder c.args.holder) (g.L.Lent.rows c.args.self.now.lent) _ c.in_ok-place.place c.in_ok-place.ensures.within c.args.self.now.apart c.hand.ensures.handed;
}

pub returns-clause-after : goal.returns-clause-after
returns-clause-after g c =
    kept_hand (g.L.Lent.rows c.args.self.now.lent) g.L.Lent.largest _ g.L.Lent.need c.args.name c.in_ok-place.place c.in_ok-place.ensures _ _ (as_long _ _ _ _ c.hand.ensures.handed) c.args.holder c.hand.ensures.handed
