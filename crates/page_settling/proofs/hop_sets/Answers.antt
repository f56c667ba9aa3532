use Rattle.std.proofs.Common.{◌≡◌, ◌*◌, ◌<◌, ◌≤◌, length, sym, subst, arith, rules}
use Rattle.std.proofs.lemmas.Nat.{mul-add-lt}
use Rattle.squares.specs.Meaning.{network_of}
use Rattle.settling.proofs.Trees.{places}
use Rattle.page_settling.proofs.Turns.{row_fits, Entered, entered_first, entered_more, entered_all}
use Rattle.page_settling.proofs.hop_sets.Goals as goal

pub loop-v-init : goal.loop-v-init
loop-v-init g c = entered_first (network_of g.C.Cost.costs g.L.LinkCosts c.args.links.now) c.args.tree.now.root c.args.rest.now

pub offset_bounds-rest-v : goal.offset_bounds-rest-v
offset_bounds-rest-v g c =
    let v = c.loop-v.v in
    let n = c.count-count.result in
    let room = subst (λ k. k * k ≤ length c.args.rest.now) (sym c.count-count.ensures) c.requires.inside.1 in
    let inside : v * n < length c.args.rest.now = omega (arith, mul-add-lt v n 0 n c.loop-v-test.true (omega arith), room) in
    search rules

pub slice_bounds-costs-end : goal.slice_bounds-costs-end
slice_bounds-costs-end g c =
    let v = c.loop-v.v in
    let n = c.count-count.result in
    let room = subst (λ k. k * k ≤ length c.args.rest.now) (sym c.count-count.ensures) c.requires.inside.1 in
    omega (arith, row_fits v n c.loop-v-test.true, room, c.loop-v.auto.rest)

pub reach_of-reached-requires-clause-best : goal.reach_of-reached-requires-clause-best
reach_of-reached-requires-clause-best g c =
    places (network_of g.C.Cost.costs g.L.LinkCosts c.args.links.now) (g.met.L.LinkCosts.sound c.args.links.now) c.args.tree.now.root c.args.best.now c.args.tree.now.found c.requires.left

pub loop-v-preserved : goal.loop-v-preserved
loop-v-preserved g c =
    let rule = g.C.Cost.costs in
    let N = network_of rule g.L.LinkCosts c.args.links.now in
    let sound = g.met.L.LinkCosts.sound c.args.links.now in
    let is = c.count-count.ensures in
    let made = c.reach_of-reached in
    entered_more N sound c.args.tree.now.root c.requires.left c.requires.inside.1 c.loop-v.invariant (omega (arith, is, c.loop-v-test.true)) made.new.costs made.result.0 made.result.1
    made.ensures.rests made.ensures.past made.ensures.near c.count-count.result is c.add_hop.new.sets c.add_hop-in-loop-v.new.sets made.ensures.row
    c.add_hop.ensures c.add_hop-in-loop-v.ensures

pub returns : goal.returns
returns g c =
    let N = network_of g.C.Cost.costs g.L.LinkCosts c.args.links.now in
    let all : c.loop-v.v ≡ N.count = omega (arith, c.count-count.ensures) in
    let done = subst (Entered N c.args.tree.now.root c.args.rest.now c.loop-v.rest c.loop-v.candidates c.loop-v.valid) all c.loop-v.invariant in
    record { candidates = done.candidates; valid = done.valid; rest = entered_all done }
