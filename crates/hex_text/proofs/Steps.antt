-- One byte of a text more.
use Rattle.std.proofs.Common.{◌≡◌, ℕ, ◌+◌, ◌<◌, List, ◌++◌, length, get_or, drop, Some, None, Ok, Err, Option, Result, sym, refl, ap, append_assoc, arith}
use Rattle.std.proofs.lemmas.List.{at_drop_more}
use Rattle.hex_text.specs.declared.symbols.State.{State}
use Rattle.hex_text.specs.declared.text.Misprint.{Misprint}
use Rattle.hex_text.specs.declared.text.Misprint.TheVariants.{Unknown}
use Rattle.hex_text.specs.Text.{step}
use Rattle.hex_text.specs.Spelling.{joined, listed, spelled}

joined-twice : (xs ys : List ℕ) (r : Result (List ℕ) Misprint) → joined xs (joined ys r) ≡ joined (xs ++ ys) r
joined-twice xs ys (Ok zs) = ap Ok (sym (append_assoc xs ys zs))
joined-twice xs ys (Err e) = refl

-- a byte that is no part of a text decides
pub step_bad : (xs text : List ℕ) (p : ℕ) (s : State) → p < length text → step s (get_or text p 0) ≡ None
    → joined xs (spelled p s (drop p text)) ≡ Err (Unknown p)
step_bad xs text p s l h = let more = at_drop_more (spelled p s) text p 0 l in grind arith

-- any other adds what it completes
pub step_good : (xs text : List ℕ) (p : ℕ) (s t : State) (o : Option ℕ) → p < length text → step s (get_or text p 0) ≡ Some (t, o)
    → joined xs (spelled p s (drop p text)) ≡ joined (xs ++ listed o) (spelled (p + 1) t (drop (p + 1) text))
step_good xs text p s t o l h =
    let more = at_drop_more (spelled p s) text p 0 l in
    let twice = joined-twice xs (listed o) (spelled (p + 1) t (drop (p + 1) text)) in
    grind arith
