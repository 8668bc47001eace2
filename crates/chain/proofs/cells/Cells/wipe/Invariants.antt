use Rattle.std.proofs.Common.{◌≡◌}
use Rattle.chain.specs.Cells.{nth_cell, Wiped}
use Rattle.chain.proofs.cells.Cells.wipe.Given as goal

abbrev pub invariant-loop : goal.invariant-loop
invariant-loop l = record {
  at : l.cell ≡ nth_cell l.initial.self.links.now l.first l.counter;
  wiped : Wiped l.initial.self.links.now l.first l.counter l.initial.self.memory.now l.self.memory.now;
  links : l.self.links.now ≡ l.initial.self.links.now;
  heads : l.self.heads.now ≡ l.initial.self.heads.now;
  spare : l.self.spare ≡ l.initial.self.spare;
}
