-- Transverse routes of a root's neighbours, rest costs, and valid hops.
use Rattle.std.specs.Prelude.{◌≡◌, ℕ, zero, suc, Bool, cond, not, ◌&&◌, ◌≢◌, List, [], ◌∷◌, ◌++◌, is_some, Some, Option, ◌==◌}
use Rattle.masks.specs.Sets.{mask}
use Rattle.routes.specs.Leasts.{below, least_of, onward}
use Rattle.routes.specs.Lists.{gather, is_number, listed, when_some}
use Rattle.routes.specs.Network.{Network}
use Rattle.routes.specs.Routes.{best}
use Rattle.routes.specs.Tree.{Fathers, neighbour, hop, in_branch, fall, Falls}

module _ {Cost : Type 0} (N : Network Cost) (father : Fathers) (root v : ℕ) where
  -- Neighbour v starts at itself, and across each link from its branch into another.
  pub data Start : ℕ → Cost → Type 0 where
    itself : {w : Cost} → N.link root v ≡ Some w → Start v N.rule.zero
    across : {x y h : ℕ} {c w : Cost} → hop N father root x ≡ Some v → hop N father root y ≡ Some h → h ≢ v → Falls N father root v x c → N.link x y ≡ Some w → Start y (N.rule.join c w)

  -- From a start it climbs from child to father, never to the root.
  pub data Climb : ℕ → Cost → Type 0 where
    begin : {y : ℕ} {c : Cost} → Start y c → Climb y c
    up : {x y : ℕ} {c w : Cost} → Climb x c → father root x ≡ Some y → y ≢ root → N.link x y ≡ Some w → Climb y (N.rule.join c w)

  -- A transverse route of v: after the climbs it descends from father to child.
  pub data Transverse : ℕ → Cost → Type 0 where
    top : {y : ℕ} {c : Cost} → Climb y c → Transverse y c
    down : {y x : ℕ} {c w : Cost} → Transverse y c → father root x ≡ Some y → N.link y x ≡ Some w → Transverse x (N.rule.join c w)

  -- whether a link from x to y leads from the branch of v into another
  abbrev pub leaves_branch : ℕ → ℕ → Bool
  leaves_branch x y = in_branch N father root v x && (is_some (hop N father root y) && not (in_branch N father root v y))

  -- the costs at which v starts at y
  unfoldable pub starts : ℕ → List Cost
  starts y =
      cond (v == y && neighbour N root v) (N.rule.zero ∷ []) [] ++
      gather N.count (λ x. cond (leaves_branch x y) (onward N.rule (N.link x y) (listed (fall N father root v x))) [])

  -- the costs at y after at most k climbs
  unfoldable pub climbs : ℕ → ℕ → List Cost
  climbs zero y = starts y
  climbs (suc k) y = starts y ++
      cond (y == root) [] (gather N.count (λ x. cond (is_number (father root x) y) (onward N.rule (N.link x y) (climbs k x)) []))

  -- the costs at y after all climbs and at most k descents
  unfoldable pub descents : ℕ → ℕ → List Cost
  descents zero y = climbs N.count y
  descents (suc k) y = climbs N.count y ++
      when_some (father root y) [] (λ p. onward N.rule (N.link p y) (descents k p))

  -- the rest cost of v to d: the least cost of its transverse routes that end at d; v is a candidate for d where there is one
  unfoldable pub rest : ℕ → Option Cost
  rest d = least_of N.rule (descents N.count d)

  -- v is a valid hop for d: its rest cost is strictly below the best cost of d
  unfoldable pub valid : ℕ → Bool
  valid d = below N.rule (rest d) (best N root d)

  -- v is an other hop for d: a candidate that is not valid
  unfoldable pub other : ℕ → Bool
  other d = is_some (rest d) && not (valid d)

module _ {Cost : Type 0} (N : Network Cost) (father : Fathers) (root d : ℕ) where
  -- the set of the valid hops for d
  unfoldable pub valid_set : ℕ
  valid_set = mask N.count (λ v. valid N father root v d)

  -- the set of the other hops for d
  unfoldable pub other_set : ℕ
  other_set = mask N.count (λ v. other N father root v d)
