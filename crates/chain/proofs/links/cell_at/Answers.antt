use Rattle.std.proofs.Common.{◌≡◌, ℕ, List, [], ◌∷◌, length, refl, ap, ◌∙◌, arith, rules}
use Rattle.std.specs.List.{fold, range_with_len}
use Rattle.std.proofs.lemmas.Iterator.{YieldsList-from_range}
use Rattle.std.proofs.lemmas.Iterator.Consumers.{fold_from_yields_List}
use Rattle.std.proofs.lemmas.List.FromFn.{length-range_with_len}
use Rattle.chain.specs.Cells.{step, nth_cell}
use Rattle.chain.proofs.links.cell_at.Goals as goal

-- a fold that takes one step for each item
fold_steps : (links xs : List ℕ) (c : ℕ) → fold (λ (cell x : ℕ). step links cell) c xs ≡ nth_cell links c (length xs)
fold_steps links [] c = refl
fold_steps links (x ∷ xs) c = fold_steps links xs (step links c)

pub returns : goal.returns
returns c =
    let links = c.args.links.now in
    let f = fold_from_yields_List _ (λ (cell x : ℕ). step links cell) c.args.first _ c.fold.ensures.ran (YieldsList-from_range 0 c.args.steps c.args.steps refl (omega arith)) (λ a x b q h. search rules) in
    f ∙ fold_steps links (range_with_len 0 c.args.steps) c.args.first ∙ ap (nth_cell links c.args.first) (length-range_with_len 0 c.args.steps)
