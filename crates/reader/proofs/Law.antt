-- What is read is what was written.
use Rattle.std.proofs.Common.{ℕ, List, Ok, refl, ap, ◌∙◌}
use Rattle.reader.specs.Encoding.{Bytes, ReadsBack, WrittenReads, encode}
use Rattle.reader.proofs.ReadsProgram.{program-reads}
use Rattle.reader.proofs.WritesProgram.{program_said}

pub reads_back : (b : List ℕ) → Bytes b → ReadsBack b
reads_back b small p = (program_said b small p, λ w. program-reads b p w.bytes w.limits ∙ ap Ok w.places)

pub written-reads : WrittenReads
written-reads p k = program-reads (encode p) p refl k
