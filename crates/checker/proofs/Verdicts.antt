-- What the check answers is the verdict.
use Rattle.std.proofs.Common.{◌≡◌, ℕ, ◌↔◌, List, Ok, Err, Result, sym, ap, ◌∙◌}
use Rattle.reader.specs.declared.faults.Fault.{Fault}
use Rattle.reader.specs.Fields.{then}
use Rattle.reader.specs.Syntax.{Program}
use Rattle.reader.specs.Programs.{reading}
use Rattle.reader.specs.Encoding.{Bytes, Writes}
use Rattle.records.specs.declared.tables.Table.{Table}
use Rattle.records.specs.Tables.{Stands, Tabled}
use Rattle.typing.specs.Typing.{Accepted}
use Rattle.typing.specs.Layers.{outside, inside, each, layers, verdict}
use Rattle.typing.proofs.Whole.{encodings_decided}

-- a granted check is of an accepted program, and of no other
pub record Checked (b : List ℕ) (r : Result (Unit {0}) Fault) : Type 0 where
  pub answer : r ≡ verdict b
  pub granted : (r ≡ Ok tt) ↔ ((P : Program) × Writes P b × Accepted P)

checked : (b : List ℕ) → Bytes b → (r : Result (Unit {0}) Fault) → r ≡ verdict b → Checked b r
checked b small r h =
    let d = encodings_decided b small in
    record { answer = h; granted = (λ k. d.0 (sym h ∙ k), λ x. h ∙ d.1 x) }

pub unread : (b : List ℕ) → Bytes b → (r : Result (Unit {0}) Fault) (x : Fault) → r ≡ Err x → reading b ≡ Err x → Checked b r
unread b small r x e h = checked b small r (e ∙ sym (ap (λ y. then y layers) h))

-- the verdict on bytes that a table stands for
stood : (b : List ℕ) (t : Table) (P : Program) → t.program.now ≡ b → Stands t P → layers P ≡ verdict b
stood b t P same s = sym (ap (λ y. then y layers) (ap reading (sym same) ∙ s.reads))

pub denied-signature : (b : List ℕ) → Bytes b → (t : Table) → Tabled b (Ok t) → (r : Result (Unit {0}) Fault) (x : Fault) → r ≡ Err x
    → ((P : Program) → Stands t P → Err x ≡ each (outside P) 0 P.functions) → Checked b r
denied-signature b small t (same, (P, s)) r x e h =
    checked b small r (e ∙ ap (λ y. then y (λ _. each (inside P) 0 P.functions)) (h P s) ∙ stood b t P same s)

pub asked_bodies : (b : List ℕ) → Bytes b → (t : Table) → Tabled b (Ok t) → (r : Result (Unit {0}) Fault)
    → ((P : Program) → Stands t P → Ok tt ≡ each (outside P) 0 P.functions) → ((P : Program) → Stands t P → r ≡ each (inside P) 0 P.functions) → Checked b r
asked_bodies b small t (same, (P, s)) r h k =
    checked b small r (k P s ∙ ap (λ y. then y (λ _. each (inside P) 0 P.functions)) (h P s) ∙ stood b t P same s)
