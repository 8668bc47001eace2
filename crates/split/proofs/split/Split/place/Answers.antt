use Rattle.std.proofs.Common.{refl}
use Rattle.split.proofs.States.{nowhere, lies-near, lies-beyond}
use Rattle.split.proofs.split.Split.place.Goals as goal

pub returns-then-not-self : goal.returns-then-not-self
returns-then-not-self g c =
    let s = c.args.self.now in
    (refl, nowhere (g.N.Store.meaning s.near) (g.F.Store.meaning s.far) c.args.name s.clean c.if-not-self.true)

pub returns-in-Ok : goal.returns-in-Ok
returns-in-Ok g c =
    let s = c.args.self.now in
    lies-near (g.N.Store.meaning s.near) (g.F.Store.meaning s.far) c.args.name s.clean c.if-not-self.false c.in-Ok.size c.in-Ok.ensures

pub returns-in-Err : goal.returns-in-Err
returns-in-Err g c =
    let s = c.args.self.now in
    lies-beyond (g.N.Store.meaning s.near) (g.F.Store.meaning s.far) c.args.name s.clean c.if-not-self.false c.in-Err.ensures c.size-in-Err.result c.size-in-Err.ensures c.map.result
    c.map.ensures.cases
