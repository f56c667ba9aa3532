-- What a value of a type under the bound `LinkCosts` means.
use Rattle.costs.specs.Costs.{Costs}
use Rattle.routes.specs.Network.{Network}
use Rattle.squares.specs.Networks.{network}
use Rattle.squares.specs.declared.link_costs.LinkCosts.{Ghosts}

abbrev pub network_of : {C L : Type 0} → Costs C → Ghosts L C → L → Network C
network_of rule g links = network rule g.routers g.costs links
