use Rattle.std.proofs.Common.{◌≡◌, ℕ, ◌+◌, ◌<◌, List, length, get_or, replicate, sym, ap, ◌∙◌, subst, arith}
use Rattle.chain.specs.declared.head.Head.{Head}
use Rattle.chain.specs.Chains.{chain_rows, Linked}
use Rattle.chain.specs.Heads.{no_head}
use Rattle.store.specs.Rows.{distinct, gathered}
use Rattle.chain.proofs.Rows.{start-rows, start-linked}
use Rattle.chain.proofs.cells.Cells.over.Goals as goal

-- all heads are without a packet
heads_free : (c : goal.After-loop-i) → c.fill.new.self ≡ replicate (length c.args.heads.now) no_head
heads_free c = c.fill.ensures.after (λ y e. e) ∙ ap (replicate (length c.args.heads.now)) c.free.ensures

pub returns-clause-sound : goal.returns-clause-sound
returns-clause-sound c =
    let n = length c.args.heads.now in
    let ti = c.loop-i-test.false in
    let ki = c.loop-i.auto.links in
    let j = c.requires.joins in
    let up : (k : ℕ) → k < n → get_or c.loop-i.links k 0 ≡ k + 1 = λ k h. c.loop-i.invariant k (omega arith) in
    subst (λ (m : ℕ). Linked c.fill.new.self c.loop-i.links c.args.memory.now 0 m) (sym c.fill.ensures.len)
    (subst (λ (x : List Head). Linked x c.loop-i.links c.args.memory.now 0 n) (sym (heads_free c)) (start-linked c.loop-i.links c.args.memory.now n c.requires.bytes (omega arith) up))

pub returns-clause-apart : goal.returns-clause-apart
returns-clause-apart c =
    ap (λ (x : List Head). distinct (chain_rows x c.loop-i.links c.args.memory.now)) (heads_free c) ∙ (start-rows c.loop-i.links c.args.memory.now (length c.args.heads.now)).1

pub returns-clause-packets : goal.returns-clause-packets
returns-clause-packets c =
    ap (λ (x : List Head). gathered (chain_rows x c.loop-i.links c.args.memory.now)) (heads_free c) ∙ (start-rows c.loop-i.links c.args.memory.now (length c.args.heads.now)).0
