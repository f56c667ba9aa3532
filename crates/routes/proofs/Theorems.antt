-- The theorems of specs/Theorems.antt.
use Rattle.std.proofs.Common.{◌≡◌, ℕ, suc, ◌-◌, ◌<◌, true, false, length, take, Some, Option, sym, refl, ◌∙◌, subst, ⊎_elim, lt_of_lt_of_le, arith, pow_mono}
use Rattle.std.proofs.lemmas.Bool.{both_ways, cases_Bool}
use Rattle.std.proofs.lemmas.List.{length-take-le}
use Rattle.routes.specs.Leasts.{below, joined}
use Rattle.routes.specs.Network.{Network, Sound}
use Rattle.routes.specs.Routes.{Route, stay, go, best}
use Rattle.routes.specs.Tree.{Fathers, Chooses}
use Rattle.routes.specs.Transverse.{Transverse, rest, valid, other, valid_set, other_set}
use Rattle.routes.specs.Theorems.{StandingIsSound, StandingIsTwoWay, BestIsLeast, RoutesAreShort, LowestFatherChooses, FatherIsLowest, TreeStands, PathStands, RestIsLeast, TreeHopIsValid, TransverseRoutesAvoid, ValidIsNearer, SecondCandidate, NothingWithoutRoute, SetsAreMasks, OwnFathersMatter, HopsArrive, EveryPickArrives, WalkArrives, RelaxedIsBest, SettlingSteps, PassesSolve, ClimbingSteps, WholeCostNeverBelow}
use Rattle.routes.proofs.Members.{some_inj, present_some}
use Rattle.masks.proofs.MaskLaws.{mask_fits, mask_holds}
use Rattle.routes.proofs.Order.{least_at, least_some}
use Rattle.routes.proofs.Standing.{standing_sound, standing_two_way}
use Rattle.routes.proofs.Routes.{go_at, widen, best_bounded, best_least, short, end_below}
use Rattle.routes.proofs.Fathers.{joined_both, lowest_chooses, lowest_is, father_some, father_is, father_lower, root_below}
use Rattle.routes.proofs.Branches.{branched, path_father, falls_best, falls_fall, path_root, path_hop, path_fits}
use Rattle.routes.proofs.Transverses.{transverse_through, transverse_neighbour}
use Rattle.routes.proofs.Rest.{rest_least}
use Rattle.routes.proofs.Valid.{below_both, rest_tree, tree_valid, valid_nearer, near_below, nothing, hops_arrive_lem as arrive}
use Rattle.routes.proofs.Crossings.{crossing}
use Rattle.routes.proofs.Passes.{climbed_lifted, rest_lowered, passes_rest}
use Rattle.routes.proofs.Climbing.{climbing_begins, climbing_steps_lem as climbs_on, climbing_ends}
use Rattle.routes.proofs.Relaxing.{relaxed_best, settling_begins, settling_steps_lem as steps, settling_ends}
use Rattle.routes.proofs.Own.{path_same, rest_same, page_same}
use Rattle.routes.proofs.Walks.{arrives, walks}

module _ (Cost : Type 0) where
  pub standing_is_sound_lem : StandingIsSound Cost
  standing_is_sound_lem rule laws count h kept = standing_sound rule count kept laws h

  pub standing_is_two_way_lem : StandingIsTwoWay Cost
  standing_is_two_way_lem rule count kept = standing_two_way rule count kept

  pub best_is_least_lem : BestIsLeast Cost
  best_is_least_lem N sound = best_bounded N sound

  pub routes_are_short_lem : RoutesAreShort Cost
  routes_are_short_lem N sound k a d c r = short N sound r

  pub lowest_father_chooses_lem : LowestFatherChooses Cost
  lowest_father_chooses_lem N sound = lowest_chooses N sound

  pub father_is_lowest_lem : FatherIsLowest Cost
  father_is_lowest_lem N sound root d x = lowest_is N sound root d x

  pub tree_stands_lem : TreeStands Cost
  tree_stands_lem N sound father chooses root d b e ne =
      let p = father_some N sound father chooses root d b e ne in
      let f = father_is N sound father chooses root d p.0 p.1 in
      let u = branched N sound father chooses root d b e ne in
      record {
        above = p.0;
        cost_above = f.before;
        father_is = p.1;
        best_above = f.best_before;
        nearer = subst (λ z. N.rule.lower f.before z ≡ true) (some_inj _ b (sym f.best_here ∙ e)) (father_lower N sound father chooses root d p.0 f);
        path_on = path_father N sound father chooses root d p.0 p.1;
        path_cost = falls_fall N sound father chooses root (sound.to p.0 d f.last f.linked) (falls_best N sound father chooses root d b e);
        head = u.head;
        first = u.first;
        hop_is = u.hop_here;
        neighbour = u.linked;
      }

  -- a router with a best cost is below the count
  best_inside : (N : Network Cost) (sound : Sound N) (root d : ℕ) (b : Cost) → best N root d ≡ Some b → d < N.count
  best_inside N sound root d b e =
      end_below N sound (least_some N.rule sound.lawful (λ c. (k : ℕ) × Route N k root d c) (best N root d) b (best_least N sound root d) e).holds.1

  pub path_stands_lem : PathStands Cost
  path_stands_lem N sound father chooses root d b e =
      record {
        of_root = path_root N sound father chooses root;
        by_hop = path_hop N sound father chooses root d b e;
        fits = path_fits N sound father chooses root d (best_inside N sound root d b e);
      }

  pub rest_is_least_lem : RestIsLeast Cost
  rest_is_least_lem N sound father chooses = rest_least N sound father chooses

  pub tree_hop_is_valid_lem : TreeHopIsValid Cost
  tree_hop_is_valid_lem N sound father chooses root d h e = (rest_tree N sound father chooses root d h e, tree_valid N sound father chooses root d h e)

  pub transverse_routes_avoid_lem : TransverseRoutesAvoid Cost
  transverse_routes_avoid_lem N sound father chooses root v d c t =
      let q = transverse_through N sound father chooses root v t in (q.0, omega (arith, q.1), q.2)

  pub valid_is_nearer_lem : ValidIsNearer Cost
  valid_is_nearer_lem N sound father chooses = valid_nearer N sound father chooses

  -- where a rest cost is there, so is a transverse route
  rest_route : (N : Network Cost) (sound : Sound N) (father : Fathers) → Chooses N father → (root v d : ℕ) (r : Cost) → rest N father root v d ≡ Some r → Transverse N father root v d r
  rest_route N sound father chooses root v d r e =
      (least_some N.rule sound.lawful (Transverse N father root v d) (rest N father root v d) r (rest_least N sound father chooses root v d) e).holds

  pub second_candidate_lem : SecondCandidate Cost
  second_candidate_lem N sound two_way father chooses root d h e = (
    λ q. let r = present_some (rest N father root q.0 d) q.2 in
        let t = rest_route N sound father chooses root q.0 d r.0 r.1 in
        let s = transverse_through N sound father chooses root q.0 t in
        let n = transverse_neighbour N sound father chooses root q.0 t in
        (q.0, q.1, (s.0, n.0, r.0, omega (arith, s.1), n.1, s.2)),
    λ q. let l = q.2 in
        let s = crossing N sound two_way father chooses root d h q.0 l.1 e q.1 l.4 l.5 e in
        let r = least_at N.rule sound.lawful (Transverse N father root s.0 d) (rest N father root s.0 d) s.2.0 (rest_least N sound father chooses root s.0 d) s.2.1 in
        (s.0, s.1, rw r.1 refl),
  )

  pub nothing_without_route_lem : NothingWithoutRoute Cost
  nothing_without_route_lem N sound father chooses root d e = nothing N sound father chooses root d e

  pub sets_are_masks_lem : SetsAreMasks Cost
  unfolding valid_set other_set
  sets_are_masks_lem N h father root d =
      record {
        valid_has = mask_holds N.count (λ v. valid N father root v d);
        other_has = mask_holds N.count (λ v. other N father root v d);
        valid_fits = lt_of_lt_of_le (mask_fits N.count (λ v. valid N father root v d)) (pow_mono h);
        other_fits = lt_of_lt_of_le (mask_fits N.count (λ v. other N father root v d)) (pow_mono h);
      }

  pub own_fathers_matter_lem : OwnFathersMatter Cost
  own_fathers_matter_lem N father father' root same = (page_same N father father' root same, path_same N father father' root same, rest_same N father father' root same)

  pub hops_arrive_lem : HopsArrive Cost
  hops_arrive_lem N sound father chooses = arrive N sound father chooses

  pub every_pick_arrives_lem : EveryPickArrives Cost
  every_pick_arrives_lem N sound father chooses a d b e =
      arrives N sound father chooses d _ a b e (omega (arith, near_below N sound d a (root_below N sound a d b e)))

  pub walk_arrives_lem : WalkArrives Cost
  walk_arrives_lem N sound father chooses a d b picks e h =
      let less = near_below N sound d a (root_below N sound a d b e) in
      let few : length (take (N.count - 1) picks) ≡ N.count - 1 = length-take-le (N.count - 1) picks h in
      let q = walks N sound father chooses d (take (N.count - 1) picks) a b e (omega arith) in
      (q.0 a, omega (arith, q.1))

  pub relaxed_is_best_lem : RelaxedIsBest Cost
  relaxed_is_best_lem N sound root f h r = relaxed_best N sound root f h r

  pub settling_steps_lem : SettlingSteps Cost
  settling_steps_lem N sound root h =
      record {
        begins = settling_begins N sound root h;
        goes_on = λ done f u c s n. steps N sound root done f u c s n;
        ends = λ done f s all. settling_ends N sound root done f h s all;
      }

  pub passes_solve_lem : PassesSolve Cost
  passes_solve_lem N sound father chooses root v =
      record {
        climbing = climbed_lifted N sound father chooses root v;
        descending = rest_lowered N sound father chooses root v;
        only = passes_rest N sound father chooses root v;
      }

  pub climbing_steps_lem : ClimbingSteps Cost
  climbing_steps_lem N sound father chooses root v =
      record {
        begins = climbing_begins N sound father chooses root v;
        goes_on = climbs_on N sound father chooses root v;
        ends = climbing_ends N sound father chooses root v;
      }

  -- a route from v, after the link from the root to v
  led : (N : Network Cost) (sound : Sound N) (root : ℕ) {k v d : ℕ} {c : Cost} → Route N k v d c → (w : Cost) → N.link root v ≡ Some w →
      (j : ℕ) × Route N j root d (N.rule.join w c)
  led N sound root (stay {a = v} h o) w l =
      (1, go_at N (λ x. true) 0 root root v N.rule.zero w _ (stay (sound.from root v w l) refl) l refl (sound.lawful.commutative w N.rule.zero))
  led N sound root (go {x = x} {d = d} {c = c} {w = w'} r l' o) w l =
      let q = led N sound root r w l in
      (suc q.0, go_at N (λ x. true) q.0 root x d _ w' _ q.1 l' refl (sym (sound.lawful.associative w c w')))

  pub whole_cost_never_below_lem : WholeCostNeverBelow Cost
  whole_cost_never_below_lem N sound father chooses root v d =
      ⊎_elim (λ t. absurd (impossible t)) (λ f. f) (cases_Bool (below N.rule whole (best N root d)))
    where
      whole : Option Cost
      whole = joined N.rule (N.link root v) (rest N father root v d)

      impossible : below N.rule whole (best N root d) ≡ true → ⊥
      impossible t =
          let p = below_both N.rule whole (best N root d) t in
          let j = joined_both N.rule (N.link root v) (rest N father root v d) p.0 p.2 in
          let s = transverse_through N sound father chooses root v (rest_route N sound father chooses root v d j.1 j.3) in
          let q = led N sound root (widen N (λ x. true) (λ x o. refl) s.2) j.0 j.2 in
          both_ways (N.rule.lower p.0 p.1)
          (subst (λ y. N.rule.lower y p.1 ≡ false) (sym j.4)
          ((least_some N.rule sound.lawful (λ c. (k : ℕ) × Route N k root d c) (best N root d) p.1 (best_least N sound root d) p.3).lowest _ q))
          p.4
