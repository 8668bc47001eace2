-- What a granted answer says of the questions before it, and back.
use Rattle.std.proofs.Common.{◌≡◌, ℕ, Bool, true, false, T, Ok, Err, Result, refl, ap, ◌∙◌, arith}
use mathlib.Core.Option.{Option, none, some}
use Rattle.reader.specs.declared.questions.Question.{Question}
use Rattle.reader.specs.declared.faults.Fault.{Fault}
use Rattle.reader.specs.Fields.{then}
use Rattle.typing.specs.Marks.{ask, known}

pub err≢ok : {X : Type 0} {e : Fault} {x : X} → ◌≡◌ {A = Result X Fault} (Err e) (Ok x) → ⊥
err≢ok h = let z : ◌≡◌ {A = ℕ} 0 1 = cc in omega arith

pub ask_ok : (k : Question) (i p : ℕ) (b : Bool) → ask k i p b ≡ Ok tt → T b
ask_ok k i p true h = tt
ask_ok k i p false h = absurd (err≢ok h)

pub ok_ask : (k : Question) (i p : ℕ) (b : Bool) → T b → ask k i p b ≡ Ok tt
ok_ask k i p true t = refl
ok_ask k i p false t = absurd t

pub asked_ok : {Y : Type 0} (k : Question) (i p : ℕ) (b : Bool) (g : Unit {0} → Result Y Fault) {y : Y} → then (ask k i p b) g ≡ Ok y → T b × (g tt ≡ Ok y)
asked_ok k i p true g h = (tt, h)
asked_ok k i p false g h = absurd (err≢ok h)

pub ok_asked : {Y : Type 0} (k : Question) (i p : ℕ) (b : Bool) (g : Unit {0} → Result Y Fault) {y : Y} → T b → g tt ≡ Ok y → then (ask k i p b) g ≡ Ok y
ok_asked k i p true g t h = h
ok_asked k i p false g t h = absurd t

pub known_ok : {X Y : Type 0} (k : Question) (i p : ℕ) (o : Option X) (g : X → Result Y Fault) {y : Y} → then (known k i p o) g ≡ Ok y → (x : X) × (o ≡ some x) × (g x ≡ Ok y)
known_ok k i p (some x) g h = (x, refl, h)
known_ok k i p none g h = absurd (err≢ok h)

pub ok_known : {X Y : Type 0} (k : Question) (i p : ℕ) (o : Option X) (g : X → Result Y Fault) (x : X) {y : Y} → o ≡ some x → g x ≡ Ok y → then (known k i p o) g ≡ Ok y
ok_known k i p o g x e h = ap (λ z. then (known k i p z) g) e ∙ h
