-- The frames of a thread in the machine's memory, the bottom one first, as a list that begins with the top.
use Rattle.std.specs.Prelude.{slice_get}
use Rattle.std.proofs.Common.{◌≡◌, ℕ, zero, suc, ◌-◌, ◌<◌, List, [], ◌∷◌, ◌++◌, map, reverse, length, Some, None, Option, refl, sym, ap, ◌∙◌, subst, arith}
use Rattle.std.proofs.lemmas.List.{reverse-append}
use Rattle.std.proofs.lemmas.Option.{slice_get-get_or, slice_get_within}
use Rattle.rows.specs.declared.row.Row.{Row}
use Rattle.rows.specs.Rows.{items}
use Rattle.rules.specs.State as state
use Rattle.rules.specs.State.{running, frames}
use Rattle.frames.specs.declared.frame.Frame.{Frame}
use Rattle.frames.specs.declared.thread.Thread.{Thread}
use Rattle.frames.specs.declared.thread.Thread.TheVariants as t
use Rattle.frames.specs.Threads.{frame_of, thread_of, IsBelow}

-- the last of a list comes first when it is turned round
last_first : {A B : Type 0} (g : A → B) (xs : List A) (k : ℕ) (y : A) → suc k ≡ length xs → Some y ≡ slice_get xs k → (ys : List B) × (reverse (map g xs) ≡ g y ∷ ys)
last_first g [] k y l at = absurd (omega arith)
last_first g (x ∷ []) zero y l at = let same : x ≡ y = cc in ([], ap (λ z. g z ∷ []) same)
last_first g (x ∷ []) (suc k) y l at = absurd (omega arith)
last_first g (x ∷ z ∷ xs) zero y l at = absurd (omega arith)
last_first g (x ∷ z ∷ xs) (suc k) y l at =
    let (ys, is) = last_first g (z ∷ xs) k y (omega arith) at in
    (ys ++ g x ∷ [], reverse-append (g x ∷ []) (map g (z ∷ xs)) ∙ ap (λ zs. zs ++ g x ∷ []) is)

pub no_last : {A : Type 0} (xs : List A) → None ≡ slice_get xs (length xs - 1) → xs ≡ []
no_last [] none = refl
no_last (x ∷ xs) none = let some = slice_get-get_or (x ∷ xs) (length (x ∷ xs) - 1) x (omega arith) in cc

has_last : {A : Type 0} (xs : List A) → (xs ≡ [] → ⊥) → (o : Option A) → o ≡ slice_get xs (length xs - 1) → (y : A) × (Some y ≡ slice_get xs (length xs - 1))
has_last xs some None at = absurd (some (no_last xs at))
has_last xs some (Some y) at = (y, at)

module _ (b : List ℕ) (θ : Thread) (f : Frame) (r : Row Frame 7) (is : θ ≡ t.Running f r) where
  pub one_frame : items r ≡ [] → (g : state.Frame) × (thread_of b θ ≡ running g [])
  one_frame none = (frame_of b f, ap (thread_of b) is ∙ ap (λ fs. running (frame_of b f) (reverse (map (frame_of b) fs))) none)

  pub one_below : (h : Frame) → Some h ≡ slice_get (items r) (length (items r) - 1) → (g : state.Frame) × (fs : List state.Frame) × (thread_of b θ ≡ running g (frame_of b h ∷ fs))
  one_below h at =
      let within = slice_get_within (items r) (length (items r) - 1) h (sym at) in
      let (fs, turned) = last_first (frame_of b) (items r) (length (items r) - 1) h (omega arith) at in
      (frame_of b f, fs, ap (thread_of b) is ∙ ap (running (frame_of b f)) turned)

  pub next_below : (o : Option Frame) → o ≡ slice_get (items r) (length (items r) - 1) → IsBelow b θ o
  next_below None at =
      let (g, alone) = one_frame (no_last (items r) at) in
      subst (λ τ. length (frames τ) < 2) (sym alone) (omega arith)
  next_below (Some h) at = one_below h at

  pub more_frames : (items r ≡ [] → ⊥) → (g h : state.Frame) × (fs : List state.Frame) × (thread_of b θ ≡ running g (h ∷ fs))
  more_frames some =
      let (h, at) = has_last (items r) some (slice_get (items r) (length (items r) - 1)) refl in
      let (g, fs, stands) = one_below h at in
      (g, frame_of b h, fs, stands)
