-- The network of a square of link costs.
use Rattle.std.specs.Prelude.{◌≡◌, ℕ, ◌+◌, ◌*◌, ◌<◌, ◌≤◌, Bool, true, false, cond, not, ◌&&◌, ◌≢◌, List, length, Some, None, Option, ◌==◌, nat_lt, slice_index_or, refl}
use Rattle.std.proofs.Common.{sym, ap, subst}
use Rattle.std.proofs.Math.Logic.{∥∥₁_map}
use Rattle.std.proofs.lemmas.Bool.{both_ways, and_parts, eqb-false, ltb-true, not-true}
use Rattle.std.proofs.lemmas.Option.{none-some}
use Rattle.costs.specs.Costs.{Costs, Laws}
use Rattle.routes.specs.Leasts.{LinkCost}
use Rattle.routes.specs.Network.{Network, Sound}
use Rattle.tables.specs.Links.{is_pair}
use Rattle.squares.specs.Chosen.{chosen}

-- the link from a to b has the cost that is read at place a * count + b; the places of a router and itself do not count
abbrev pub square : {C : Type 0} → Costs C → ℕ → (ℕ → Option C) → Network C
square rule count at = record { rule = rule; count = count; link = λ a b. cond (is_pair count a b) (at (a * count + b)) None }

-- each place has its cost
abbrev pub matrix : {C : Type 0} → Costs C → ℕ → List (Option C) → Network C
matrix rule count links = square rule count (λ k. slice_index_or links k None)

-- each cost is one that the rule reads from some number
abbrev pub EachRead : {C : Type 0} → Costs C → (ℕ → Option C) → Type 0
EachRead {C} rule at = (i : ℕ) (c : C) → at i ≡ Some c → LinkCost rule c

-- a square of link costs for at most 32 routers
pub record Square {C : Type 0} (rule : Costs C) (links : List (Option C)) (count : ℕ) : Type 0 where
  pub few : count ≤ 32
  pub full : count * count ≤ length links
  pub costs : EachRead rule (λ i. slice_index_or links i None)

module _ {C : Type 0} (rule : Costs C) (count : ℕ) (at : ℕ → Option C) where
  abbrev Placed : ℕ → ℕ → C → Type 0
  Placed a b c = (a < count) × (b < count) × (a ≢ b) × (at (a * count + b) ≡ Some c)

  placed : (a b : ℕ) (c : C) → (square rule count at).link a b ≡ Some c → Placed a b c
  placed a b c e = by (is_pair count a b) refl e
    where
      by : (t : Bool) → is_pair count a b ≡ t → cond t (at (a * count + b)) None ≡ Some c → Placed a b c
      by false et q = absurd (none-some c q)
      by true et q =
          let p = and_parts (nat_lt a count) (nat_lt b count && not (a == b)) et in
          let r = and_parts (nat_lt b count) (not (a == b)) p.1 in
          (ltb-true a count p.0, ltb-true b count r.0, eqb-false a b (not-true (a == b) r.1), q)

  -- the network of a square is sound, where each place has the cost of a link
  pub square_sound : Laws rule → count ≤ 32 → EachRead rule at → Sound (square rule count at)
  square_sound laws few costs =
      record {
        lawful = laws;
        few = few;
        from = λ a b c e. (placed a b c e).0;
        to = λ a b c e. (placed a b c e).1;
        apart = λ a b c e. (placed a b c e).2;
        costs = λ a b c e. costs (a * count + b) c (placed a b c e).3;
      }

-- whether this is the cost, as one of which neither is lower
abbrev is_cost : {C : Type 0} → Costs C → C → Option C → Bool
is_cost rule c None = false
is_cost rule c (Some d) = not (rule.lower c d) && not (rule.lower d c)

module _ {C : Type 0} (rule : Costs C) (laws : Laws rule) where
  told : (c : C) (o : Option C) → is_cost rule c o ≡ true → o ≡ Some c
  told c None t = absurd (both_ways false refl t)
  told c (Some d) t =
      let p = and_parts (not (rule.lower c d)) (not (rule.lower d c)) t in
      ap Some (laws.total d c (not-true (rule.lower d c) p.1) (not-true (rule.lower c d) p.0))

  tells : (c : C) (o : Option C) → o ≡ Some c → is_cost rule c o ≡ true
  tells c o e = subst (λ x. is_cost rule c x ≡ true) (sym e) (ap (λ b. not b && not b) (laws.irreflexive c))

  -- that each cost is read from some number names one: the least
  named : (at : ℕ → Option C) → ∥ EachRead rule at ∥₁ → EachRead rule at
  named at h i c e =
      let n = chosen (λ k. is_cost rule c (rule.read k)) (∥∥₁_map h (λ f. let q = f i c e in (q.0, tells c (rule.read q.0) q.1))) in
      (n.0, told c (rule.read n.0) n.1)

  pub matrix_sound : (links : List (Option C)) (count : ℕ) → count ≤ 32 → ∥ EachRead rule (λ i. slice_index_or links i None) ∥₁ → Sound (matrix rule count links)
  matrix_sound links count few costs =
      let at : ℕ → Option C = λ i. slice_index_or links i None in
      square_sound rule count at laws few (named at costs)
