-- A page depends on the fathers of its own root only.
use Rattle.std.proofs.Common.{◌≡◌, ℕ, zero, suc, cond, not, ◌&&◌, eqb, [], ◌∷◌, ◌++◌, is_some, Some, None, refl}
use mathlib.Core.Path.{fun_ext}
use Rattle.masks.specs.Sets.{mask}
use Rattle.routes.specs.Leasts.{below, joined, least_of, onward}
use Rattle.routes.specs.Lists.{gather, is_number, listed, when_some}
use Rattle.routes.specs.Network.{Network}
use Rattle.routes.specs.Routes.{best}
use Rattle.routes.specs.Tree.{Fathers, path_in, path, hop_in, hop, fall_in, fall}
use Rattle.routes.specs.Transverse.{starts, climbs, descents, rest, valid, other, valid_set, other_set}
use Rattle.routes.specs.Pages.{page}

module _ {Cost : Type 0} (N : Network Cost) (father father' : Fathers) (root : ℕ) (same : (d : ℕ) → father root d ≡ father' root d) where
  -- the tree
  path_in_same : (k d : ℕ) → path_in N father root k d ≡ path_in N father' root k d
  unfolding path_in
  path_in_same zero d = refl
  path_in_same (suc k) d = λ i. when_some (same d i) (d ∷ []) (λ x. path_in_same k x i ++ d ∷ [])

  pub path_same : (d : ℕ) → path N father root d ≡ path N father' root d
  unfolding path
  path_same d = path_in_same N.count d

  hop_in_same : (k d : ℕ) → hop_in N father root k d ≡ hop_in N father' root k d
  unfolding hop_in
  hop_in_same zero d = refl
  hop_in_same (suc k) d = λ i. when_some (same d i) None (λ x. cond (eqb x root) (Some d) (hop_in_same k x i))

  hop_same : (d : ℕ) → hop N father root d ≡ hop N father' root d
  unfolding hop
  hop_same d = hop_in_same N.count d

  fall_in_same : (k v x : ℕ) → fall_in N father root k v x ≡ fall_in N father' root k v x
  unfolding fall_in
  fall_in_same zero v x = refl
  fall_in_same (suc k) v x =
      λ i. cond (eqb v x) (Some N.rule.zero) (when_some (same x i) None (λ p. joined N.rule (fall_in_same k v p i) (N.link p x)))

  fall_same : (v x : ℕ) → fall N father root v x ≡ fall N father' root v x
  unfolding fall
  fall_same v x = fall_in_same N.count v x

  -- the transverse routes
  starts_same : (v y : ℕ) → starts N father root v y ≡ starts N father' root v y
  unfolding starts
  starts_same v y =
      λ i. cond (eqb v y && is_some (N.link root v)) (N.rule.zero ∷ []) [] ++
      gather N.count (λ x. cond (is_number (hop_same x i) v && (is_some (hop_same y i) && not (is_number (hop_same y i) v)))
      (onward N.rule (N.link x y) (listed (fall_same v x i))) [])

  climbs_same : (v k y : ℕ) → climbs N father root v k y ≡ climbs N father' root v k y
  unfolding climbs
  climbs_same v zero y = starts_same v y
  climbs_same v (suc k) y =
      λ i. starts_same v y i ++
      cond (eqb y root) [] (gather N.count (λ x. cond (is_number (same x i) y) (onward N.rule (N.link x y) (climbs_same v k x i)) []))

  descents_same : (v k y : ℕ) → descents N father root v k y ≡ descents N father' root v k y
  unfolding descents
  descents_same v zero y = climbs_same v N.count y
  descents_same v (suc k) y =
      λ i. climbs_same v N.count y i ++ when_some (same y i) [] (λ p. onward N.rule (N.link p y) (descents_same v k p i))

  pub rest_same : (v d : ℕ) → rest N father root v d ≡ rest N father' root v d
  unfolding rest
  rest_same v d = λ i. least_of N.rule (descents_same v N.count d i)

  -- the sets
  valid_set_same : (d : ℕ) → valid_set N father root d ≡ valid_set N father' root d
  unfolding valid_set valid
  valid_set_same d = λ i. mask N.count (λ v. below N.rule (rest_same v d i) (best N root d))

  other_set_same : (d : ℕ) → other_set N father root d ≡ other_set N father' root d
  unfolding other_set other valid
  other_set_same d = λ i. mask N.count (λ v. is_some (rest_same v d i) && not (below N.rule (rest_same v d i) (best N root d)))

  pub page_same : page N father root ≡ page N father' root
  page_same =
      λ i. record { father = fun_ext same i; hop = fun_ext hop_same i; valid = fun_ext valid_set_same i; other = fun_ext other_set_same i }
