use Rattle.std.proofs.Common.{arith, length}
use Rattle.store.proofs.Kept.{kept-units}
use Rattle.store.proofs.lent_store.LentStoreStore.used.Goals as goal

pub returns-clause-value : goal.returns-clause-value
returns-clause-value g c =
    let rs = g.L.Lent.rows c.args.self.now.lent in
    let u = kept-units rs g.L.Lent.largest (length rs) g.L.Lent.need c.args.self.now.apart in omega arith

pub returns-clause-within : goal.returns-clause-within
returns-clause-within g c =
    let rs = g.L.Lent.rows c.args.self.now.lent in
    let u = kept-units rs g.L.Lent.largest (length rs) g.L.Lent.need c.args.self.now.apart in omega arith
