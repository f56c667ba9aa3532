-- The pages of Net K and of the counterexamples, by the tables that compute quickly.
use Rattle.std.proofs.Common.{[], ◌∷◌, sym, refl, ap, ◌∙◌, lit<, lit≤}
use Rattle.costs.specs.SumLaws.{sum_lawful}
use Rattle.costs.specs.PathLaws.{path_lawful}
use Rattle.masks.specs.Sets.{members, mask}
use Rattle.routes.specs.Leasts.{lesser, joined, same, below, least_below}
use Rattle.routes.specs.Lists.{lowest}
use Rattle.routes.specs.Network.{Sound}
use Rattle.routes.specs.Routes.{stay, go}
use Rattle.routes.specs.Walk.{picked}
use Rattle.routes.specs.NetK.{numbers_K, numbers_cut, numbers_wide, numbers_triangle, numbers_fork, K, W, Cut, Wide, Light, Triangle, Fork, hops_and_width, NetK, RulesOrder, EqualRestCost, ClimbingThroughRoot}
use Rattle.routes.proofs.Routes.{rounds}
use Rattle.routes.proofs.Standing.{standing_sound}
use Rattle.routes.proofs.Tables.{best_quick, father_quick, hop_quick, rest_quick, valid_set_quick, other_set_quick, walk_quick}

sound_K : Sound K
sound_K = standing_sound _ _ numbers_K sum_lawful (lit≤ tt)

sound_W : Sound W
sound_W = standing_sound _ _ numbers_K path_lawful (lit≤ tt)

sound_Cut : Sound Cut
sound_Cut = standing_sound _ _ numbers_cut sum_lawful (lit≤ tt)

pub net_K : NetK
unfolding lesser joined same below least_below lowest mask rounds members picked
net_K =
    record {
      best_0 = λ i. best_quick K sound_K 0 0 (lit< tt) i ∷ best_quick K sound_K 0 1 (lit< tt) i ∷ best_quick K sound_K 0 2 (lit< tt) i ∷ best_quick K sound_K 0 3 (lit< tt) i ∷ best_quick K sound_K 0 4 (lit< tt) i ∷ [];
      fathers_0 = λ i. father_quick K sound_K 0 1 (lit< tt) i ∷ father_quick K sound_K 0 2 (lit< tt) i ∷ father_quick K sound_K 0 3 (lit< tt) i ∷ father_quick K sound_K 0 4 (lit< tt) i ∷ [];
      rest_0_by_1 = λ i. rest_quick K sound_K 0 1 1 (lit< tt) i ∷ rest_quick K sound_K 0 1 2 (lit< tt) i ∷ rest_quick K sound_K 0 1 3 (lit< tt) i ∷ rest_quick K sound_K 0 1 4 (lit< tt) i ∷ [];
      rest_0_by_2 = λ i. rest_quick K sound_K 0 2 1 (lit< tt) i ∷ rest_quick K sound_K 0 2 2 (lit< tt) i ∷ rest_quick K sound_K 0 2 3 (lit< tt) i ∷ rest_quick K sound_K 0 2 4 (lit< tt) i ∷ [];
      valid_0 = λ i. valid_set_quick K sound_K 0 2 (lit< tt) i ∷ valid_set_quick K sound_K 0 3 (lit< tt) i ∷ valid_set_quick K sound_K 0 4 (lit< tt) i ∷ [];
      other_0_to_2 = other_set_quick K sound_K 0 2 (lit< tt);
      valid_3 = λ i. valid_set_quick K sound_K 3 0 (lit< tt) i ∷ valid_set_quick K sound_K 3 4 (lit< tt) i ∷ [];
      other_3 = λ i. other_set_quick K sound_K 3 0 (lit< tt) i ∷ other_set_quick K sound_K 3 4 (lit< tt) i ∷ [];
      best_2_to_1 = best_quick K sound_K 2 1 (lit< tt);
      valid_2_to_1 = valid_set_quick K sound_K 2 1 (lit< tt);
      rest_2_to_1 = (rest_quick K sound_K 2 0 1 (lit< tt), rest_quick K sound_K 2 3 1 (lit< tt));
      best_by_width = ap hops_and_width (best_quick W sound_W 0 3 (lit< tt));
      rest_by_width = (ap hops_and_width (rest_quick W sound_W 0 1 3 (lit< tt)), ap hops_and_width (rest_quick W sound_W 0 2 3 (lit< tt)));
      valid_by_width = valid_set_quick W sound_W 0 3 (lit< tt);
      walk_by_2 = walk_quick K sound_K 4 (lit< tt) (1 ∷ 0 ∷ 0 ∷ 0 ∷ []) 0;
      walk_by_1 = walk_quick K sound_K 4 (lit< tt) (0 ∷ 0 ∷ 0 ∷ 0 ∷ []) 0;
      cut_hop = hop_quick Cut sound_Cut 3 4 (lit< tt);
      cut_sets = (valid_set_quick Cut sound_Cut 3 4 (lit< tt), other_set_quick Cut sound_Cut 3 4 (lit< tt));
      cut_best = best_quick Cut sound_Cut 0 4 (lit< tt);
    }

sound_Wide : Sound Wide
sound_Wide = standing_sound _ _ numbers_wide path_lawful (lit≤ tt)

sound_Light : Sound Light
sound_Light = standing_sound _ _ numbers_wide sum_lawful (lit≤ tt)

sound_Triangle : Sound Triangle
sound_Triangle = standing_sound _ _ numbers_triangle sum_lawful (lit≤ tt)

sound_Fork : Sound Fork
sound_Fork = standing_sound _ _ numbers_fork sum_lawful (lit≤ tt)

pub rules_order_lem : RulesOrder
unfolding lesser joined same below least_below lowest mask rounds
rules_order_lem =
    record {
      wider = ap hops_and_width (best_quick Wide sound_Wide 0 3 (lit< tt));
      by_wider = father_quick Wide sound_Wide 0 3 (lit< tt);
      smaller = best_quick Light sound_Light 0 3 (lit< tt);
      by_smaller = father_quick Light sound_Light 0 3 (lit< tt);
    }

pub equal_rest_cost_lem : EqualRestCost
unfolding lesser joined same below least_below lowest mask rounds
equal_rest_cost_lem =
    record {
      there = rest_quick Triangle sound_Triangle 0 1 2 (lit< tt) ∙ sym (best_quick Triangle sound_Triangle 0 2 (lit< tt));
      back = rest_quick Triangle sound_Triangle 1 0 2 (lit< tt) ∙ sym (best_quick Triangle sound_Triangle 1 2 (lit< tt));
      not_there = valid_set_quick Triangle sound_Triangle 0 2 (lit< tt);
      not_back = valid_set_quick Triangle sound_Triangle 1 2 (lit< tt);
    }

pub climbing_through_root_lem : ClimbingThroughRoot
unfolding lesser joined same below least_below lowest mask rounds
climbing_through_root_lem =
    record {
      up_to_root = father_quick Fork sound_Fork 0 1 (lit< tt);
      down_from_root = father_quick Fork sound_Fork 0 2 (lit< tt);
      around = go {x = 0} {w = 1} (go {w = 1} (stay (lit< tt) refl) refl refl) refl refl;
      no_candidate = rest_quick Fork sound_Fork 0 1 2 (lit< tt);
    }
