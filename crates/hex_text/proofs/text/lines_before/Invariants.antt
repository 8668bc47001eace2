use Rattle.std.proofs.Common.{◌≡◌, take}
use Rattle.hex_text.specs.Spelling.{lines}
use Rattle.hex_text.proofs.text.lines_before.Given as goal

abbrev pub invariant-loop-byte : goal.invariant-loop-byte
invariant-loop-byte l = l.count ≡ lines (take l.byte-index l.before)
