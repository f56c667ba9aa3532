-- Networks: routers, and the links that stand between them.
use Rattle.std.specs.Prelude.{◌≡◌, ℕ, ◌<◌, ◌≤◌, cond, ◌≢◌, Some, None, Option}
use Rattle.costs.specs.Costs.{Costs, Laws}
use Rattle.tables.specs.Links.{Links, is_pair, two_way}
use Rattle.routes.specs.Leasts.{LinkCost}
use Rattle.routes.specs.Lists.{when_some}

-- a cost rule, routers 0 to count - 1, and the cost of the link from one to another where there is one
pub record Network (Cost : Type 0) : Type 0 where
  pub rule : Costs Cost
  pub count : ℕ
  pub link : ℕ → ℕ → Option Cost

-- The network of a kept map: a link stands between two different routers where both directions have a number and the rule
-- reads the number of the link's own direction.
abbrev pub standing : {Cost : Type 0} → Costs Cost → ℕ → Links → Network Cost
standing rule count kept =
    record { rule = rule; count = count; link = λ a b. cond (is_pair count a b) (when_some (two_way kept a b) None rule.read) None }

-- the rule keeps the laws, there are at most 32 routers, and links lie between two different ones, at a link's cost
pub record Sound {Cost : Type 0} (N : Network Cost) : Type 0 where
  pub lawful : Laws N.rule
  pub few : N.count ≤ 32
  pub from : (a b : ℕ) (c : Cost) → N.link a b ≡ Some c → a < N.count
  pub to : (a b : ℕ) (c : Cost) → N.link a b ≡ Some c → b < N.count
  pub apart : (a b : ℕ) (c : Cost) → N.link a b ≡ Some c → a ≢ b
  pub costs : (a b : ℕ) (c : Cost) → N.link a b ≡ Some c → LinkCost N.rule c

-- every link has one back
abbrev pub TwoWay : {Cost : Type 0} → Network Cost → Type 0
TwoWay {Cost} N = (a b : ℕ) (c : Cost) → N.link a b ≡ Some c → (w : Cost) × (N.link b a ≡ Some w)
