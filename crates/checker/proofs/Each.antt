-- Functions one after the other: those that are left lead on to the whole.
use Rattle.std.proofs.Common.{◌≡◌, ℕ, zero, suc, ◌+◌, ◌<◌, ◌≤◌, List, [], ◌∷◌, length, drop, Ok, Err, Result, sym, refl, ap, ◌∙◌, add-one, arith, drop_of_length-le}
use mathlib.Core.Option.{some}
use lib.ListN.{get_elem?}
use Rattle.reader.specs.declared.faults.Fault.{Fault}
use Rattle.reader.specs.Fields.{then}
use Rattle.reader.specs.Syntax.{Function}
use Rattle.typing.specs.Layers.{each}

-- the function at a number
pub there : (Fs : List Function) (i : ℕ) → i < length Fs → (F : Function) × (get_elem? Fs i ≡ some F)
there [] i l = absurd (omega arith)
there (G ∷ Gs) zero l = (G, refl)
there (G ∷ Gs) (suc i) l = there Gs i (omega arith)

drop_at : (Fs : List Function) (i : ℕ) (F : Function) → get_elem? Fs i ≡ some F → drop i Fs ≡ F ∷ drop (i + 1) Fs
drop_at Fs i F h = rw add-one (at Fs i h)
  where
    at : (Fs : List Function) (i : ℕ) → get_elem? Fs i ≡ some F → drop i Fs ≡ F ∷ drop (suc i) Fs
    at [] i h = absurd (let z : ◌≡◌ {A = ℕ} 0 1 = cc in omega arith)
    at (G ∷ Gs) zero h = let e : G ≡ F = cc in ap (λ (K : Function). K ∷ Gs) e
    at (G ∷ Gs) (suc i) h = at Gs i h

module _ (asks : ℕ → Function → Result (Unit {0}) Fault) (Fs : List Function) where
  abbrev pub Led : ℕ → Type 0
  Led i = each asks i (drop i Fs) ≡ each asks 0 Fs

  step : (i : ℕ) (F : Function) → Led i → get_elem? Fs i ≡ some F → then (asks i F) (λ _. each asks (i + 1) (drop (i + 1) Fs)) ≡ each asks 0 Fs
  step i F g h = sym (ap (each asks i) (drop_at Fs i F h)) ∙ g

  pub led_next : (i : ℕ) → i < length Fs → Led i → ((F : Function) → get_elem? Fs i ≡ some F → Ok tt ≡ asks i F) → Led (i + 1)
  led_next i l g k =
      let x = there Fs i l in
      ap (λ r. then r (λ _. each asks (i + 1) (drop (i + 1) Fs))) (k x.0 x.1) ∙ step i x.0 g x.1

  pub led_fault : (i : ℕ) (e : Fault) → i < length Fs → Led i → ((F : Function) → get_elem? Fs i ≡ some F → Err e ≡ asks i F) → Err e ≡ each asks 0 Fs
  led_fault i e l g k =
      let x = there Fs i l in
      ap (λ r. then r (λ _. each asks (i + 1) (drop (i + 1) Fs))) (k x.0 x.1) ∙ step i x.0 g x.1

  pub led_all : (i : ℕ) → length Fs ≤ i → Led i → Ok tt ≡ each asks 0 Fs
  led_all i l g = sym (ap (each asks i) (drop_of_length-le Fs l)) ∙ g
