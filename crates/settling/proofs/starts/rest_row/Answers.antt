use Rattle.std.proofs.Common.{◌∙◌, arith}
use Rattle.squares.specs.Meaning.{network_of}
use Rattle.settling.proofs.Crossings.{not_climbed}
use Rattle.settling.proofs.Memory.{same_more}
use Rattle.settling.proofs.Offers.{not_held}
use Rattle.settling.proofs.starts.rest_row.Goals as goal

pub all_starts-requires : goal.all_starts-requires
all_starts-requires g c =
    let rule = g.C.Cost.costs in
    let N = network_of rule g.L.LinkCosts c.args.links.now in
    let sound = g.met.L.LinkCosts.sound c.args.links.now in
    record {
      places = omega (arith, c.requires.places, c.own_branch.ensures.memory.same_length);
      hops = c.requires.hops;
      linked = c.requires.linked;
      falls = c.own_branch.ensures.costs;
    }

pub returns : goal.returns
returns g c =
    let rule = g.C.Cost.costs in
    let N = network_of rule g.L.LinkCosts c.args.links.now in
    let sound = g.met.L.LinkCosts.sound c.args.links.now in
    record {
      costs = c.descend.ensures.costs;
      past = λ d l. not_held rule c.descend.new.row.costs.now c.descend.new.row.reached d
          (c.descend.ensures.past d l ∙ c.climb.ensures.costs d ∙ not_climbed N c.args.tree.now.root c.args.neighbour sound d l);
      memory = same_more c.own_branch.ensures.memory (same_more c.all_starts.ensures.memory (same_more c.climb.ensures.memory c.descend.ensures.memory));
    }
