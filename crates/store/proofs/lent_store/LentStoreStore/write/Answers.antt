use Rattle.store.specs.Packets.{with_byte}
use Rattle.store.proofs.Gathered.{distinct-packet}
use Rattle.store.proofs.Kept.{as_long, kept_write}
use Rattle.store.proofs.lent_store.LentStoreStore.write.Goals as goal

pub invariant_of-self : goal.invariant_of-self
invariant_of-self g c = record {
  sound = c.put.ensures.sound;
  apart = distinct-packet (with_byte c.args.offset c.args.byte) (g.L.Lent.rows c.args.self.now.lent) _ c.in_ok-place.place c.in_ok-place.ensures.0.within c.args.self.now.apart c.put.ensures.written;
}

pub returns-clause-after : goal.returns-clause-after
returns-clause-after g c =
    kept_write (g.L.Lent.rows c.args.self.now.lent) g.L.Lent.largest _ g.L.Lent.need c.args.name c.in_ok-place.place c.in_ok-place.ensures.0 _ _ (as_long _ _ _ _ c.put.ensures.written) c.args.offset c.args.byte c.in_ok-place.ensures.1 c.put.ensures.written
