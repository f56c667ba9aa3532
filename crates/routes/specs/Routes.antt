-- Routes over the links, and the best cost from one router to another.
use Rattle.std.specs.Prelude.{◌≡◌, ℕ, zero, suc, ◌<◌, Bool, true, cond, not, ◌&&◌, List, [], ◌∷◌, Some, Option, ◌==◌, nat_lt}
use Rattle.routes.specs.Leasts.{least_of, onward}
use Rattle.routes.specs.Lists.{gather}
use Rattle.routes.specs.Network.{Network}

-- every router but one
abbrev pub avoids : ℕ → ℕ → Bool
avoids root x = not (x == root)

module _ {Cost : Type 0} (N : Network Cost) where
  -- A route of k links from a to d with cost c, all of whose routers pass the test: it stays at a, or goes on over one more link.
  pub data Through (ok : ℕ → Bool) : ℕ → ℕ → ℕ → Cost → Type 0 where
    stay : {a : ℕ} → a < N.count → ok a ≡ true → Through ok 0 a a N.rule.zero
    go : {k a x d : ℕ} {c w : Cost} → Through ok k a x c → N.link x d ≡ Some w → ok d ≡ true → Through ok (suc k) a d (N.rule.join c w)

  -- a route of k links from a to d with cost c
  abbrev pub Route : ℕ → ℕ → ℕ → Cost → Type 0
  Route = Through (λ x. true)

  -- the costs of the routes of k links from a to d
  unfoldable pub costs : ℕ → ℕ → ℕ → List Cost
  costs zero a d = cond (a == d && nat_lt a N.count) (N.rule.zero ∷ []) []
  costs (suc k) a d = gather N.count (λ x. onward N.rule (N.link x d) (costs k a x))

  -- the costs of the routes of at most 99 links from a to d
  unfoldable pub route_costs : ℕ → ℕ → List Cost
  route_costs a d = gather 100 (λ k. costs k a d)

  -- the best cost from a to d: the least cost over all routes, absent without a route
  unfoldable pub best : ℕ → ℕ → Option Cost
  best a d = least_of N.rule (route_costs a d)
