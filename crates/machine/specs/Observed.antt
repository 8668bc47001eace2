-- What is seen of a machine from outside.
use Rattle.std.specs.Prelude.{◌≡◌, ℕ, List, [], Some, None, Option}
use Rattle.rules.specs.State.{State}
use Rattle.rules.specs.Calls.{Machine, unloaded, loaded}
use Rattle.code.specs.Copies.{bytes_of}
use Rattle.machine.specs.declared.memory.Memory.{Memory}

-- what the state is, where a program is loaded
abbrev pub seen : {X : Type 0} → (what : State → X) → Machine → Option X
seen what (unloaded m) = None
seen what (loaded s) = Some (what s)

-- likewise, of a part that some programs have
abbrev pub Sees : {X : Type 0} → (has : State → Type 0) → (what : State → X) → Machine → Option X → Type 0
Sees has what (unloaded m) r = r ≡ None
Sees has what (loaded s) None = ¬ has s
Sees has what (loaded s) (Some x) = has s × (x ≡ what s)

-- the bytes of the program that is loaded
abbrev pub bytes_in : Option Memory → List ℕ
bytes_in None = []
bytes_in (Some c) = bytes_of c.code
