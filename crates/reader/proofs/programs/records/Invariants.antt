use Rattle.std.proofs.Common.{◌≡◌, ◌-◌, length}
use Rattle.reader.specs.Fields.{placed}
use Rattle.reader.specs.Programs.{records_at}
use Rattle.reader.proofs.programs.records.Given as goal

abbrev pub invariant-loop-function : goal.invariant-loop-function
invariant-loop-function l =
    placed (records_at l.program (length l.program) (l.count - l.function) l.function l.next)
    ≡ placed (records_at l.program (length l.program) l.count 0 l.place)
