use Rattle.tables.specs.Meaning.{means}
use Rattle.settling.proofs.Fills.{Filled}
use Rattle.area.specs.Networks.{number_at}
use Rattle.area.proofs.links.read_links.Given as goal

abbrev pub invariant-loop-place : goal.invariant-loop-place
invariant-loop-place g l = Filled (number_at (means g.T.LinkTable l.table)) 0 l.initial.number-items l.number-items l.place
