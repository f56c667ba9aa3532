-- The network of a square of link numbers.
use Rattle.std.specs.Prelude.{ℕ, ◌*◌, ◌≤◌, List, length, slice_index}
use Rattle.costs.specs.Costs.{Costs, Laws}
use Rattle.routes.specs.Network.{Network, Sound}
use Rattle.squares.specs.Squares.{square, square_sound}

-- the rule reads the number at each place; 0 means no link: no rule reads it
abbrev pub number_matrix : {C : Type 0} → Costs C → ℕ → List ℕ → Network C
number_matrix rule count links = square rule count (λ k. rule.read (slice_index links k))

-- a square of link numbers for at most 32 routers
pub record NumberSquare (links : List ℕ) (count : ℕ) : Type 0 where
  pub few : count ≤ 32
  pub full : count * count ≤ length links

pub numbers_sound : {C : Type 0} (rule : Costs C) (links : List ℕ) (count : ℕ) → Laws rule → NumberSquare links count → Sound (number_matrix rule count links)
numbers_sound rule links count laws s = square_sound rule count (λ k. rule.read (slice_index links k)) laws s.few (λ i c e. (slice_index links i, e))
