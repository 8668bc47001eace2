use Rattle.split.proofs.Carrying.{copied}
use Rattle.split.proofs.carry.copy.Goals as goal

pub returns : goal.returns
returns g c =
    copied (g.X.Store.meaning c.args.from.now) (g.Y.Store.meaning c.args.to.now) (g.Y.Store.meaning c.make.new.self) (g.Y.Store.meaning c.carry.new.to) c.args.name c.args.size c.make.ensures.after c.carry.ensures
