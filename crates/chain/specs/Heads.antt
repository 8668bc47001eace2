-- What a head keeps: the name of its packet, if it has one.
use Rattle.std.specs.Prelude.{None, Option}
use Rattle.std.specs.Option.{option_map}
use Rattle.store.specs.declared.name.Name.{Name}
use Rattle.chain.specs.declared.head.Head.{Head}
use Rattle.chain.specs.declared.head.Stored.{Stored}

-- a head without a packet
abbrev pub no_head : Head
no_head = record { packet = None }

abbrev pub name_of : Option Stored → Option Name
name_of o = option_map (λ s. s.name) o
