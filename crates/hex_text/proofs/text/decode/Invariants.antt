use Rattle.std.proofs.Common.{◌≡◌, drop, vec_items}
use Rattle.hex_text.specs.Spelling.{joined, spelled, start}
use Rattle.hex_text.proofs.text.decode.Given as goal

abbrev pub invariant-loop-place : goal.invariant-loop-place
invariant-loop-place l = joined (vec_items l.bytes) (spelled l.place l.state (drop l.place l.text)) ≡ spelled 0 start l.text
