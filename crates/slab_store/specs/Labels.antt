-- What a slot's label says.
use Rattle.std.specs.Prelude.{Some, None, Option}
use Rattle.store.specs.declared.name.Name.{Name}
use Rattle.store.specs.declared.label.Label.{Label}

abbrev pub name_of : Option Label → Option Name
name_of None = None
name_of (Some l) = Some l.name
