use Rattle.store.proofs.Kept.{placed_at}
use Rattle.store.proofs.lent_store.LentStore.place.Goals as goal

pub returns : goal.returns
returns g c = rw c.ok_or.ensures.value (placed_at _ _ _ c.seek.ensures)
