use Rattle.std.proofs.Common.{ap, ◌∙◌}
use Rattle.store.specs.Rows.{distinct}
use Rattle.store.proofs.Gathered.{distinct-drop}
use Rattle.store.proofs.Kept.{as_long, kept_discard}
use Rattle.store.proofs.lent_store.LentStoreStore.discard.Goals as goal

pub invariant_of-self : goal.invariant_of-self
invariant_of-self g c = record {
  sound = c.release.ensures.sound;
  apart = ap distinct c.release.ensures.released ∙ distinct-drop _ c.in_ok-place.place _ c.args.self.now.apart;
}

pub returns-clause-after : goal.returns-clause-after
returns-clause-after g c =
    kept_discard (g.L.Lent.rows c.args.self.now.lent) g.L.Lent.largest _ g.L.Lent.need c.args.name c.in_ok-place.place c.in_ok-place.ensures _ _ (as_long _ _ _ _ c.release.ensures.released) c.args.self.now.apart c.release.ensures.released
