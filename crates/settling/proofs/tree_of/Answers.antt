use Rattle.std.proofs.Common.{sym, refl, subst}
use Rattle.routes.specs.Tree.{lowest_father, hop}
use Rattle.squares.specs.Meaning.{network_of}
use Rattle.squares.specs.Sequences.{items}
use Rattle.settling.specs.Trees.{Hops, FathersFirst}
use Rattle.settling.proofs.Orders.{hops_table, fathers_first}
use Rattle.settling.proofs.tree_of.Goals as goal

pub tree_hops-hop-requires : goal.tree_hops-hop-requires
tree_hops-hop-requires g c =
    let rule = g.C.Cost.costs in
    let N = network_of rule g.L.LinkCosts c.args.links.now in
    let sound = g.met.L.LinkCosts.sound c.args.links.now in
    subst (λ t. FathersFirst t c.args.root (items c.args.found.order)) (sym c.fathers-father.ensures)
    (fathers_first N sound c.args.root (items c.args.found.order) c.requires.left.order)

pub returns : goal.returns
returns g c =
    let rule = g.C.Cost.costs in
    let N = network_of rule g.L.LinkCosts c.args.links.now in
    let sound = g.met.L.LinkCosts.sound c.args.links.now in
    let is = c.fathers-father.ensures in
    record {
      root = refl;
      found = refl;
      tree = record { father = is; order = c.requires.left.order };
      hops = c.tree_hops-hop.ensures (hop N (lowest_father N) c.args.root)
          (subst (λ t. Hops t c.args.root (hop N (lowest_father N) c.args.root)) (sym is) (hops_table N sound c.args.root));
    }
