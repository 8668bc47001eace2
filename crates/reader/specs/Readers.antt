-- A reader after a call: where it stands, and what the call answers.
use Rattle.std.specs.Prelude.{◌≡◌, ℕ, Ok, Err, Result}
use Rattle.std.specs.Borrow.{Bor}
use Rattle.reader.specs.declared.faults.Fault.{Fault}
use Rattle.reader.specs.declared.readers.Reader.{Reader}
use Rattle.reader.specs.declared.windows.Window.{Window}
use Rattle.reader.specs.Fields.{Read}

-- what was read, without the place after it
abbrev pub answer : {X : Type 0} → Read X → Result X Fault
answer (Ok x) = Ok x.0
answer (Err e) = Err e

-- the reader stands behind what was read; after a fault it stands where it stood
abbrev pub moved : {X : Type 0} → Reader → Read X → Reader
moved r (Ok x) = record { window = r.window; place = x.1 }
moved r (Err e) = r

-- a call that may read r at the reader's place answers it, and leaves the reader behind it
abbrev pub Steps : {X : Type 0} → (Bor Window → ℕ → Read X → Type 0) → Reader → Result X Fault → Reader → Type 0
Steps {X} reads before result after =
    (w : Bor Window) × (r : Read X) × (w.now ≡ before.window) × reads w before.place r × (result ≡ answer r) × (after ≡ moved before r)
