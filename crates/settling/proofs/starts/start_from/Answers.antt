use Rattle.std.proofs.Common.{get_or, None, refl, ◌∙◌, arith}
use Rattle.settling.specs.Costs.{costs_of}
use Rattle.settling.proofs.Memory.{same_row, same_more}
use Rattle.settling.proofs.Trees.{unlinked}
use Rattle.squares.specs.Meaning.{network_of}
use Rattle.settling.specs.Rows.{crossing}
use Rattle.settling.proofs.Crossings.{crossed_first, crossed_more, crossed_all, not_crossed}
use Rattle.settling.proofs.starts.start_from.Goals as goal

pub loop-to-init : goal.loop-to-init
loop-to-init g c =
    let rule = g.C.Cost.costs in
    let N = network_of rule g.L.LinkCosts c.args.links.now in (
      crossed_first rule (costs_of rule c.args.row.now) (λ y. crossing N c.args.neighbour (get_or c.args.tree.now.hop y None) c.args.from c.args.cost y),
      same_row,
      λ k _. refl,
    )

pub start_at-requires : goal.start_at-requires
start_at-requires g c =
    record {
      inside = (c.requires.inside.0, omega (arith, c.count-to-end.ensures, c.loop-to-test.true), omega (arith, c.requires.inside.1, c.loop-to.invariant.1.same_length));
      joins = c.requires.joins c.loop-to.to;
    }

pub loop-to-preserved : goal.loop-to-preserved
loop-to-preserved g c =
    let rule = g.C.Cost.costs in
    let N = network_of rule g.L.LinkCosts c.args.links.now in (
      crossed_more rule (costs_of rule c.args.row.now) (λ y. crossing N c.args.neighbour (get_or c.args.tree.now.hop y None) c.args.from c.args.cost y)
          c.loop-to.invariant.0 c.start_at.ensures.costs,
      same_more c.loop-to.invariant.1 c.start_at.ensures.memory,
      λ k e. c.start_at.ensures.kept k e ∙ c.loop-to.invariant.2 k e,
    )

pub returns : goal.returns
returns g c =
    let rule = g.C.Cost.costs in
    let N = network_of rule g.L.LinkCosts c.args.links.now in
    record {
      costs = crossed_all rule (costs_of rule c.args.row.now) (λ y. crossing N c.args.neighbour (get_or c.args.tree.now.hop y None) c.args.from c.args.cost y)
          c.loop-to.invariant.0
          (λ d l. not_crossed N c.args.neighbour (get_or c.args.tree.now.hop d None) c.args.from c.args.cost d (unlinked N (g.met.L.LinkCosts.sound c.args.links.now) c.args.from d (omega arith)));
      kept = c.loop-to.invariant.2;
      memory = c.loop-to.invariant.1;
    }
