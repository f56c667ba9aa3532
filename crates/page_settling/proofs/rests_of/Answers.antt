use Rattle.std.proofs.Common.{sym, refl, ◌∙◌}
use Rattle.squares.specs.Meaning.{network_of}
use Rattle.settling.proofs.Falls.{nothing_in, holds_none}
use Rattle.page_settling.proofs.Rests.{rest_unlinked}
use Rattle.page_settling.proofs.rests_of.Goals as goal

pub returns-in-None : goal.returns-in-None
returns-in-None g c =
    let rule = g.C.Cost.costs in
    let N = network_of rule g.L.LinkCosts c.args.links.now in
    let sound = g.met.L.LinkCosts.sound c.args.links.now in
    record {
      costs = λ d l. nothing_in rule c.args.row.now.costs.now d ∙ sym (rest_unlinked N sound c.args.tree.now.root c.args.router d (sym c.in-None.ensures));
      past = λ d _. holds_none d;
      memory = record { same_memory = refl; same_length = refl };
    }
