-- The text of what a machine holds.
use Rattle.std.specs.Prelude.{ℕ, List, ◌++◌, true, false, codes, decimal}
use Rattle.store.specs.declared.name.Name.{Name}
use Rattle.rules.specs.declared.held.Held.{Held}
use Rattle.rules.specs.declared.held.Held.TheVariants.{Nothing, Integer, Truth, Owner, Alias}

-- maker and count, with a dot between them
abbrev pub name_text : Name → List ℕ
name_text n = decimal n.maker ++ (codes "." ++ decimal n.count)

-- what a variable holds; an owner and an alias by their names
abbrev pub held_text : Held → List ℕ
held_text Nothing = codes "-"
held_text (Integer n) = codes "i" ++ decimal n
held_text (Truth false) = codes "b0"
held_text (Truth true) = codes "b1"
held_text (Owner n) = codes "o" ++ name_text n
held_text (Alias n) = codes "a" ++ name_text n
