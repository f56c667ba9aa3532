-- What a cost rule is: a zero cost, a joining, an order, and which numbers it reads as which costs.
use Rattle.std.specs.Prelude.{◌≡◌, ℕ, suc, ◌+◌, ◌≤◌, Bool, true, false, Some, None, Option}

pub record Costs (C : Type 0) : Type 0 where
  pub zero : C
  pub join : C → C → C
  -- whether the first cost is strictly lower than the second
  pub lower : C → C → Bool
  -- the cost of a link with this number, if the rule reads it
  pub read : ℕ → Option C

-- the laws of a rule; that strictly lower survives joining is none of them
pub record Laws {C : Type 0} (k : Costs C) : Type 0 where
  -- costs are ordered totally, and those of which neither is lower are the same
  pub irreflexive : (a : C) → k.lower a a ≡ false
  pub transitive : (a b c : C) → k.lower a b ≡ true → k.lower b c ≡ true → k.lower a c ≡ true
  pub total : (a b : C) → k.lower a b ≡ false → k.lower b a ≡ false → a ≡ b
  pub associative : (a b c : C) → k.join (k.join a b) c ≡ k.join a (k.join b c)
  pub commutative : (a b : C) → k.join a b ≡ k.join b a
  -- the zero cost joined to a cost gives that cost
  pub neutral : (a : C) → k.join k.zero a ≡ a
  -- where a is not above b, a joined with c is not above b joined with c
  pub monotone : (a b c : C) → k.lower b a ≡ false → k.lower (k.join b c) (k.join a c) ≡ false
  -- joined with a link's cost, a cost is strictly higher
  pub strict : (a c : C) (n : ℕ) → k.read n ≡ Some c → k.lower a (k.join a c) ≡ true
  pub zero_unread : k.read 0 ≡ None

-- `Joins k m c`: c joins the costs of m links
pub data Joins {C : Type 0} (k : Costs C) : ℕ → C → Type 0 where
  none : Joins k 0 k.zero
  more : {m : ℕ} {c : C} (n : ℕ) (l : C) → Joins k m c → k.read n ≡ Some l → Joins k (suc m) (k.join c l)

-- two costs that join at most 127 links together
pub record Joinable {C : Type 0} (k : Costs C) (a b : C) : Type 0 where
  pub m : ℕ
  pub n : ℕ
  pub left : Joins k m a
  pub right : Joins k n b
  pub few : m + n ≤ 127
