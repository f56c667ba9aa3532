use Rattle.std.proofs.Common.{◌≡◌, ℕ, ◌+◌, get_or, None, sym, refl, ap, ◌∙◌, subst, ap₂, arith}
use Rattle.routes.specs.Leasts.{lesser}
use Rattle.routes.specs.Lists.{is_number}
use Rattle.routes.specs.Tree.{lowest_father, hop}
use Rattle.routes.proofs.Members.{present_some}
use Rattle.squares.proofs.Joins.{can_join}
use Rattle.squares.specs.Meaning.{network_of}
use Rattle.settling.specs.Costs.{costs_of, SameMemory}
use Rattle.settling.specs.Rows.{other_hop, crossing}
use Rattle.settling.proofs.Crossings.{Begun, begun_first, begun_same, begun_next, begun_whole}
use Rattle.settling.proofs.Falls.{fall_short}
use Rattle.settling.proofs.Memory.{same_more}
use Rattle.settling.proofs.Orders.{at_hops}
use Rattle.settling.proofs.starts.all_starts.Goals as goal
use Rattle.settling.proofs.starts.all_starts.Goals.{then-in_branch, else-in_branch}

pub loop-from-init : goal.loop-from-init
loop-from-init g c =
    let rule = g.C.Cost.costs in
    let N = network_of rule g.L.LinkCosts c.args.links.now in
    let sound = g.met.L.LinkCosts.sound c.args.links.now in
    let w = present_some (N.link c.args.tree.now.root c.args.neighbour) c.requires.linked in (
      begun_first N c.args.tree.now.root c.args.neighbour sound c.args.row.now.costs.now c.args.row.now.reached c.with-row.result c.requires.linked c.requires.falls
          (c.with-row.ensures.added (omega (arith, sound.to c.args.tree.now.root c.args.neighbour w.0 w.1, sound.few))),
      record { same_memory = refl; same_length = refl },
    )

pub start_from-requires : goal.start_from-requires
start_from-requires g c =
    let rule = g.C.Cost.costs in
    let laws = g.met.C.Cost.lawful in
    let N = network_of rule g.L.LinkCosts c.args.links.now in
    let sound = g.met.L.LinkCosts.sound c.args.links.now in
    let x = c.loop-from.from in
    let hops : (d : ℕ) → get_or c.args.tree.now.hop d None ≡ hop N (lowest_father N) c.args.tree.now.root d = λ d. ap (λ t. get_or t d None) c.requires.hops ∙ at_hops N sound c.args.tree.now.root d in
    let in_it = ap (λ h. is_number h c.args.neighbour) (sym (hops x)) ∙ sym c.if-in_branch.ensures in
    let known = c.among-cost.ensures ∙ c.loop-from.invariant.0.own x (omega (arith, c.count-from-end.ensures, c.loop-from-test.true)) in_it in
    record {
      inside = (omega (arith, c.count-from-end.ensures, c.loop-from-test.true), omega (arith, c.requires.places, c.loop-from.invariant.1.same_length));
      joins = λ y a l ea el. can_join rule laws a l (fall_short N sound c.args.tree.now.root c.args.neighbour c.requires.linked x a (sym known ∙ ea))
          (sound.costs x y l el);
    }

pub loop-from-preserved : goal.loop-from-preserved
loop-from-preserved g c =
    let rule = g.C.Cost.costs in
    let N = network_of rule g.L.LinkCosts c.args.links.now in
    let sound = g.met.L.LinkCosts.sound c.args.links.now in
    let root = c.args.tree.now.root in
    let v = c.args.neighbour in
    let x = c.loop-from.from in
    let hops : (d : ℕ) → get_or c.args.tree.now.hop d None ≡ hop N (lowest_father N) c.args.tree.now.root d = λ d. ap (λ t. get_or t d None) c.requires.hops ∙ at_hops N sound c.args.tree.now.root d in
    let f = costs_of rule c.loop-from.row in
    let hop_x = ap (λ h. is_number h v) (sym (hops x)) in
    elim c.if-in_branch.branch [
      | then-in_branch w ↦
          let in_it = hop_x ∙ sym w.if-in_branch.ensures in (
            subst (λ t. Begun N root v t.costs.now c.args.row.now.reached t.reached (x + 1)) (sym w.row-is)
                (begun_next N root v sound c.loop-from.invariant.0 in_it
                (λ y. w.start_from.ensures.costs y
                ∙ ap₂ (λ h o. lesser rule (f y) (crossing N v h x o y)) (hops y) (w.among-cost.ensures ∙ c.loop-from.invariant.0.own x (omega (arith, c.count-from-end.ensures, c.loop-from-test.true)) in_it))
                (λ k e. w.start_from.ensures.kept k (ap (other_hop v) (hops k) ∙ e))),
            subst (SameMemory c.args.row.now) (sym w.row-is) (same_more c.loop-from.invariant.1 w.start_from.ensures.memory),
          )
      | else-in_branch w ↦ (
        subst (λ t. Begun N root v t.costs.now c.args.row.now.reached t.reached (x + 1)) (sym w.row-is) (begun_same N root v sound c.loop-from.invariant.0 (hop_x ∙ sym w.if-in_branch.ensures)),
        subst (SameMemory c.args.row.now) (sym w.row-is) c.loop-from.invariant.1,
      )
    ]

pub returns : goal.returns
returns g c =
    let rule = g.C.Cost.costs in
    let N = network_of rule g.L.LinkCosts c.args.links.now in
    let sound = g.met.L.LinkCosts.sound c.args.links.now in
    record {
      costs = begun_whole N c.args.tree.now.root c.args.neighbour sound c.loop-from.invariant.0 (omega arith);
      memory = c.loop-from.invariant.1;
    }
