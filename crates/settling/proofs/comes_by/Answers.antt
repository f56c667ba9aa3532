use Rattle.std.proofs.Common.{sym, ◌∙◌}
use Rattle.squares.proofs.Joins.{can_join}
use Rattle.settling.proofs.comes_by.Goals as goal

pub onward-way-requires : goal.onward-way-requires
onward-way-requires g c =
    let rule = g.C.Cost.costs in
    let laws = g.met.C.Cost.lawful in
    let sound = g.met.L.LinkCosts.sound c.args.links.now in
    λ a l ea el. can_join rule laws a l (c.requires.short c.args.from a c.requires.inside.0 (sym c.cost_of.ensures ∙ ea))
    (sound.costs c.args.from c.args.to l (sym c.link.ensures ∙ el))
