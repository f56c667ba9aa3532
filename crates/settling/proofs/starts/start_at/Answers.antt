use Rattle.std.proofs.Common.{get_or, None, sym, refl, ap, ◌∙◌}
use Rattle.std.proofs.lemmas.Bool.{both_ways, cond-true, cond-false}
use Rattle.routes.specs.Leasts.{joined}
use Rattle.squares.specs.Meaning.{network_of}
use Rattle.squares.specs.Known.{with_offer}
use Rattle.settling.specs.Costs.{costs_of}
use Rattle.settling.specs.Rows.{other_hop}
use Rattle.settling.proofs.Memory.{same_row}
use Rattle.settling.proofs.Offers.{not_offered}
use Rattle.settling.proofs.starts.start_at.Goals as goal

pub returns-then-in_other_branch : goal.returns-then-in_other_branch
returns-then-in_other_branch g c =
    let rule = g.C.Cost.costs in
    let to = c.args.to in
    let f = costs_of rule c.args.row.now in
    let N = network_of rule g.L.LinkCosts c.args.links.now in
    let other = other_hop c.args.neighbour (get_or c.args.tree.now.hop to None) in
    let open_way = sym c.if-in_other_branch.ensures in
    record {
      costs = λ d. c.offer.ensures.costs d ∙ ap (λ o. with_offer rule f to o d)
          (c.onward-way.ensures ∙ ap (joined rule c.args.cost) c.link.ensures ∙ sym (cond-true other (joined rule c.args.cost (N.link c.args.from to)) None open_way));
      kept = λ k e. c.offer.ensures.others k (λ q. both_ways other (ap (λ z. other_hop c.args.neighbour (get_or c.args.tree.now.hop z None)) (sym q) ∙ e) open_way);
      memory = c.offer.ensures.memory;
    }

pub returns-else-in_other_branch : goal.returns-else-in_other_branch
returns-else-in_other_branch g c =
    let rule = g.C.Cost.costs in
    let to = c.args.to in
    let f = costs_of rule c.args.row.now in
    let N = network_of rule g.L.LinkCosts c.args.links.now in
    let other = other_hop c.args.neighbour (get_or c.args.tree.now.hop to None) in
    record {
      costs = λ d. not_offered rule c.args.row.now.costs.now c.args.row.now.reached to d
          ∙ ap (λ o. with_offer rule f to o d) (sym (cond-false other (joined rule c.args.cost (N.link c.args.from to)) None (sym c.if-in_other_branch.ensures)));
      kept = λ k _. refl;
      memory = same_row;
    }
