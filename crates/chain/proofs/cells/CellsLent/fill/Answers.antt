use Rattle.std.proofs.Common.{◌<◌, ◌≤◌, length, set, Some, ap, ◌∙◌, arith, rules}
use Rattle.chain.specs.declared.head.Head.{Head}
use Rattle.chain.specs.Chains.{chain_rows}
use Rattle.chain.proofs.Changes.{free-head, spare-enough, spare-inside, fill_linked, fill_rows}
use Rattle.chain.proofs.cells.CellsLent.fill.Goals as goal

pub wipe-self-requires : goal.wipe-self-requires
wipe-self-requires c =
    let l = c.args.self.now in
    let v = c.need-amount.ensures in
    let r = spare-enough l c.requires.sound c.args.size c.args.place c.requires.vacant in
    spare-inside l c.requires.sound c.need-amount.result (omega arith)

pub overflow_sub-self : goal.overflow_sub-self
overflow_sub-self c =
    let r = spare-enough c.args.self.now c.requires.sound c.args.size c.args.place c.requires.vacant in
    let v = c.need-amount.ensures in
    let e = c.wipe-self.ensures.spare in search rules

pub offset_bounds-self-place : goal.offset_bounds-self-place
offset_bounds-self-place c =
    let w = (free-head c.args.self.now c.args.place c.requires.vacant.0).0 in
    let e = ap length c.wipe-self.ensures.heads in
    let lt : c.args.place < length c.wipe-self.new.self.heads.now = omega arith in
    search rules

pub bounds-self-place : goal.bounds-self-place
bounds-self-place c =
    let w = (free-head c.args.self.now c.args.place c.requires.vacant.0).0 in
    let e = ap length c.wipe-self.ensures.heads in
    omega arith

pub returns : goal.returns
returns c =
    let l = c.args.self.now in
    let p = c.args.place in
    let w = c.wipe-self.ensures in
    let f = free-head l p c.requires.vacant.0 in
    let v = c.need-amount.ensures in
    let r = spare-enough l c.requires.sound c.args.size p c.requires.vacant in
    let le : c.need-amount.result ≤ l.spare = omega arith in
    let new : Head = record { packet = Some (record { name = c.args.name; holder = c.args.name.maker; size = c.args.size; first = l.free }) } in
    record {
      sound = rw (w.heads, w.links, w.spare)
          (fill_linked l c.requires.sound p f.0 f.1 c.need-amount.result c.args.size v le c.args.name c.wipe-self.result w.behind c.wipe-self.new.self.memory.now w.wiped);
      filled = (λ t. chain_rows (set (w.heads t) p new) (w.links t) c.wipe-self.new.self.memory.now)
          ∙ fill_rows l c.requires.sound p f.0 f.1 c.need-amount.result c.args.size v le c.args.name c.wipe-self.result w.behind c.wipe-self.new.self.memory.now w.wiped;
    }
