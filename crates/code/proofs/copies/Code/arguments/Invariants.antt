use Rattle.std.proofs.Common.{◌≡◌, ◌≤◌, length}
use Rattle.code.specs.Copies.{bytes_of}
use Rattle.code.proofs.Arguments.{Reading}
use Rattle.code.proofs.copies.Code.arguments.Given as goal

abbrev pub invariant-loop-i : goal.invariant-loop-i
invariant-loop-i g l = Reading (bytes_of l.self) l.fn.values g.row.N l.i l.place l.arguments × (length l.arguments ≡ g.row.N) × (l.i ≤ g.row.N)
