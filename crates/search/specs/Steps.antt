-- What a search leans on, and its steps: a cost offered to a router, the links of a router relaxed, a router marked as done.
use Rattle.std.specs.Prelude.{◌≡◌, ℕ, ◌+◌, ◌*◌, ◌<◌, ◌≤◌, Bool, false, List, [], ◌∷◌, ◌++◌, length, drop, Some, Option, slice_index_or}
use Rattle.std.specs.List.{ContainsAt, AllByRecursion}
use Rattle.costs.specs.Costs.{Costs, Joinable}
use Rattle.entries.specs.declared.Entry.{Entry}
use Rattle.masks.specs.Sets.{holds}
use Rattle.routes.specs.Network.{Network}
use Rattle.routes.specs.Settling.{also}
use Rattle.squares.specs.Known.{costs_in}
use Rattle.squares.specs.Sequences.{items}
use Rattle.squares.specs.declared.found.Found.{Found}
use Rattle.waiting.specs.Waiting.{memory, queued}
use Rattle.waiting.specs.declared.list.Waiting.{Waiting}
use Rattle.waiting.specs.declared.ranked.Ranked.{Ghosts}

-- a search from a router of the network, with a place for the cost of each router and one to wait for each pair
pub record Ready {C : Type 0} (N : Network C) (root : ℕ) (best : List C) (waiting : List (Entry C)) : Type 0 where
  pub inside : root < N.count
  pub places : N.count ≤ length best
  pub room : N.count * N.count ≤ length waiting

-- a router that waits at a cost
abbrev pub entry : {C : Type 0} → C → ℕ → Entry C
entry c d = record { cost = c; router = d }

-- a cost that can be joined with the cost of a link, where there is one
abbrev pub CanGoOn : {C : Type 0} → Costs C → C → Option C → Type 0
CanGoOn {C} rule cost link = (l : C) → link ≡ Some l → Joinable rule cost l

-- an entry that is not below the known cost of its router
abbrev pub AboveKnown : {C : Type 0} → Costs C → (ℕ → Option C) → Entry C → Type 0
AboveKnown {C} rule f e = (a : C) × (f e.router ≡ Some a) × (rule.lower e.cost a ≡ false)

-- The waiting list of a search with the known costs f: each router that is not done waits at its known cost, and no entry is below
-- the known cost of its router.
pub record Waits {C : Type 0} {ranked : Ghosts (Entry C)} (rule : Costs C) (done : ℕ → Bool) (f : ℕ → Option C) (w : Waiting (Entry C) ranked) : Type 0 where
  pub each : (d : ℕ) (b : C) → done d ≡ false → f d ≡ Some b → ContainsAt (queued w) (entry b d)
  pub within : AllByRecursion (AboveKnown rule f) (queued w)

-- A step after which the known costs are f': it writes places below n, and adds at most m entries to the waiting list, which stays
-- that of the search. A router that is still unknown has what the memory held.
pub record Step {C : Type 0} {ranked : Ghosts (Entry C)} (rule : Costs C) (f' : ℕ → Option C) (n m : ℕ)
    (best : List C) (known : ℕ) (w : Waiting (Entry C) ranked) (best' : List C) (known' : ℕ) (w' : Waiting (Entry C) ranked) : Type 0 where
  pub costs : (d : ℕ) → costs_in rule best' known' d ≡ f' d
  pub absent : (d : ℕ) → holds known' d ≡ false → (holds known d ≡ false) × (slice_index_or best' d rule.zero ≡ slice_index_or best d rule.zero)
  pub past : (k : ℕ) → n ≤ k → drop k best' ≡ drop k best
  pub waits : (done : ℕ → Bool) → Waits rule done (costs_in rule best known) w → Waits rule done (costs_in rule best' known') w'
  pub len : w'.len ≤ w.len + m
  pub size : length (memory w') ≡ length (memory w)

-- one router more is done, and comes next in the sequence
pub record Marked (router : ℕ) (old new : Found) : Type 0 where
  pub done : (k : ℕ) → holds new.known k ≡ also (holds old.known) router k
  pub order : items new.order ≡ items old.order ++ router ∷ []
