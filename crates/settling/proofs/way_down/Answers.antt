use Rattle.std.proofs.Common.{sym, ap, ◌∙◌, ap₂}
use Rattle.routes.specs.Leasts.{joined}
use Rattle.squares.specs.Meaning.{network_of}
use Rattle.settling.specs.Costs.{costs_of}
use Rattle.settling.specs.Rows.{by_father}
use Rattle.settling.proofs.way_down.Goals as goal

pub returns : goal.returns
returns g c =
    let rule = g.C.Cost.costs in
    let N = network_of rule g.L.LinkCosts c.args.links.now in
    c.onward.ensures ∙ ap₂ (joined rule) c.get.ensures c.link.ensures
    ∙ sym (ap (λ o. by_father N o (costs_of rule c.args.row.now) c.args.to) c.in_ok-p.was)
