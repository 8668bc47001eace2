-- A chain's lent memory, links and heads: its rows, and what keeps its cells apart.
use Rattle.std.specs.Prelude.{List}
use Rattle.chain.specs.declared.cells.Cells.{Cells}
use Rattle.chain.specs.Chains.{chain_rows, Linked}
use Rattle.store.specs.Rows.{Row}

abbrev pub rows : Cells → List Row
rows p = chain_rows p.heads.now p.links.now p.memory.now

abbrev pub Sound : Cells → Type 0
Sound p = Linked p.heads.now p.links.now p.memory.now p.free p.spare
