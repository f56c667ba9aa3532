use Rattle.std.proofs.Common.{◌≡◌, ℕ, ◌<◌, false}
use Rattle.squares.specs.Meaning.{network_of}
use Rattle.squares.specs.Known.{costs_in}
use Rattle.settling.specs.Trees.{passes}
use Rattle.settling.proofs.father_of.Given as goal

abbrev pub invariant-loop-from : goal.invariant-loop-from
invariant-loop-from g l =
    (x : ℕ) → x < l.from →
    passes (network_of g.C.Cost.costs g.L.LinkCosts l.links) (costs_in g.C.Cost.costs l.best l.known) l.router x ≡ false
