use Rattle.std.proofs.Common.{◌≡◌, map, length, ap, ◌∙◌}
use Rattle.std.specs.List.{range_with_len}
use Rattle.routes.specs.Transverse.{rest}
use Rattle.routes.specs.Tree.{lowest_father}
use Rattle.masks.specs.Sets.{holds}
use Rattle.squares.specs.Known.{costs_in}
use Rattle.squares.specs.Meaning.{network_of}
use Rattle.page_settling.specs.Hops.{cost_held}
use Rattle.settling.proofs.Memory.{same_more}
use Rattle.page_settling.proofs.Turns.{row_written, costs_written}
use Rattle.page_settling.proofs.row_of.Goals as goal

pub returns : goal.returns
returns g c =
    let rule = g.C.Cost.costs in
    let N = network_of rule g.L.LinkCosts c.args.links.now in
    let n = N.count in
    let row = c.rests_of.new.row in
    let next = c.clear_others.new.row in
    let long : length row.costs.now ≡ n = c.rests_of.ensures.memory.same_length ∙ c.requires.inside.2 in
    let is : next.costs.now ≡ map (cost_held rule row.costs.now row.reached) (range_with_len 0 n) = c.clear_others.ensures.costs ∙ ap (λ k. map (cost_held rule row.costs.now row.reached) (range_with_len 0 k)) long in
    let rests = rest N (lowest_father N) c.args.tree.now.root c.args.router in
    record {
      row = row_written rule row.costs.now next.costs.now row.reached n is rests c.rests_of.ensures.costs;
      costs = λ d l. ap (λ m. costs_in rule next.costs.now m d) c.clear_others.ensures.reached ∙ costs_written rule row.costs.now next.costs.now row.reached n is rests c.rests_of.ensures.costs d l;
      past = λ d l. ap (λ m. holds m d) c.clear_others.ensures.reached ∙ c.rests_of.ensures.past d l;
      memory = same_more c.rests_of.ensures.memory c.clear_others.ensures.memory;
    }
