use Rattle.std.proofs.Common.{◌≡◌, ℕ, suc, ◌+◌, ◌-◌, ◌*◌, ◌<◌, ◌≤◌, List, length, take, drop, replicate, sym, ap, ◌∙◌, subst, arith, length-drop, length-take, rules}
use borrow.Rule.Slice.PartMut.{put_mid}
use Rattle.chain.specs.Cells.{step, nth_cell, cells, count, Wiped}
use Rattle.chain.proofs.Linked.{nth_back}
use Rattle.chain.proofs.Wiping.{wiped_more, nth_inside}
use Rattle.chain.proofs.cells.Cells.wipe.Goals as goal

-- the cell at hand lies inside memory
fits : (links memory changed : List ℕ) (first k amount cell : ℕ) → k < amount → ((c : ℕ) → 1 ≤ count c (cells links first amount) → 32 * c + 32 ≤ length memory)
    → cell ≡ nth_cell links first k → Wiped links first k memory changed → 32 * cell + 32 ≤ length changed
fits links memory changed first k amount cell lt w e i =
    let n = nth_inside links first k amount (length memory) lt w in
    let m : 32 * cell ≡ 32 * nth_cell links first k = ap (λ (x : ℕ). 32 * x) e in
    let l = i.long in omega arith

pub overflow_mul-start : goal.overflow_mul-start
overflow_mul-start c = let f = fits _ _ c.loop.self.memory.now c.args.first c.loop.counter c.args.amount c.loop.cell c.loop-test.true c.requires c.loop.invariant.at c.loop.invariant.wiped in search rules

pub overflow_add-start : goal.overflow_add-start
overflow_add-start c = let f = fits _ _ c.loop.self.memory.now c.args.first c.loop.counter c.args.amount c.loop.cell c.loop-test.true c.requires c.loop.invariant.at c.loop.invariant.wiped in search rules

pub slice_bounds-clear-end : goal.slice_bounds-clear-end
slice_bounds-clear-end c = let f = fits _ _ c.loop.self.memory.now c.args.first c.loop.counter c.args.amount c.loop.cell c.loop-test.true c.requires c.loop.invariant.at c.loop.invariant.wiped in search rules

pub loop-preserved : goal.loop-preserved
loop-preserved c =
    let i = c.loop.invariant in
    let links = c.args.self.now.links.now in
    let changed = c.loop.self.memory.now in
    let k = c.loop.counter in
    let cell = c.loop.cell in
    let f = fits links _ changed c.args.first k c.args.amount cell c.loop-test.true c.requires i.at i.wiped in
    let n = nth_inside links c.args.first k c.args.amount (length c.args.self.now.memory.now) c.loop-test.true c.requires in
    let m : 32 * cell + 32 - 32 * cell ≡ 32 = omega arith in
    let t : length (take (32 * cell + 32 - 32 * cell) (drop (32 * cell) changed)) ≡ 32 = simp (length-take, length-drop) (omega arith) in
    let z : c.clear.new.part ≡ replicate 32 0 = c.clear.ensures ∙ ap (λ (x : ℕ). replicate x 0) t in
    let w : suc k ≡ k + 1 = omega arith in
    let more = wiped_more links c.args.first k c.args.self.now.memory.now changed c.clear.new.part (32 * cell + 32 - 32 * cell) i.wiped m n z in
    record {
      at = c.cell-cell.ensures ∙ ap (λ (ls : List ℕ). step ls cell) i.links ∙ ap (step links) i.at ∙ sym (nth_back links c.args.first k) ∙ ap (nth_cell links c.args.first) w;
      wiped = subst (λ (x : ℕ). Wiped links c.args.first (k + 1) c.args.self.now.memory.now (put_mid (32 * x) (32 * cell + 32 - 32 * cell) changed c.clear.new.part)) (sym i.at) more;
      links = i.links;
      heads = i.heads;
      spare = i.spare;
    }
