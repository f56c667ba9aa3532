-- Lists of calls on an area, each on the area that the call before left.
use Rattle.std.specs.Prelude.{◌≡◌, ℕ, List, [], ◌∷◌, Option, Result}
use Rattle.area.specs.Areas.{Area, Put, Cut, Settle, hops_answer, path_answer, path_leaves, walk_answer, walk_leaves}
use Rattle.costs.specs.Costs.{Costs}
use Rattle.entries.specs.declared.Entry.{Entry}
use Rattle.faults.specs.declared.fault.Fault.{Fault}

-- a call with what is handed to it, memories as they are before it
pub data Call (C : Type 0) : Type 0 where
  -- from, to and number
  put : ℕ → ℕ → ℕ → Call C
  -- from and to
  cut : ℕ → ℕ → Call C
  -- root, best costs, rest costs, waiting entries
  settle : ℕ → List C → List C → List (Entry C) → Call C
  -- root and to
  hops : ℕ → ℕ → Call C
  -- root, to and memory
  path : ℕ → ℕ → List ℕ → Call C
  -- from, to, picks and trail
  walk : ℕ → ℕ → List ℕ → List ℕ → Call C

-- what comes back: the answer, and the memories as they are then
abbrev pub Reply : {C : Type 0} → Call C → Type 0
Reply (put from to number) = Result (Unit {0}) Fault
Reply (cut from to) = Result (Unit {0}) Fault
Reply {C} (settle root best rest waiting) = Result (Unit {0}) Fault × List C × List C × List (Entry C)
Reply (hops root to) = Result (Option ℕ × ℕ × ℕ) Fault
Reply (path root to out) = Result ℕ Fault × List ℕ
Reply (walk from to picks trail) = Result ℕ Fault × List ℕ

-- what each call promises of the area before it, its reply and the area after it: that is its contract
abbrev pub Step : {C : Type 0} → Costs C → (c : Call C) → Area → Reply c → Area → Type 0
Step k (put from to number) a r b = Put k from to number a r b
Step k (cut from to) a r b = Cut from to a r b
Step k (settle root best rest waiting) a r b = Settle k root a best rest waiting r.0 b r.1 r.2 r.3
Step k (hops root to) a r b = (r ≡ hops_answer a root to) × (b ≡ a)
Step k (path root to out) a r b = (r.0 ≡ path_answer a root to out) × (r.1 ≡ path_leaves a root to out) × (b ≡ a)
Step k (walk from to picks trail) a r b = (r.0 ≡ walk_answer a from to picks trail) × (r.1 ≡ walk_leaves a from to picks trail) × (b ≡ a)

-- a call and its reply
abbrev pub Event : Type 0 → Type 0
Event C = (c : Call C) × Reply c

-- The calls of a list are made one after another, from one value to another, each of which means an area.
abbrev pub Runs : {C X : Type 0} → Costs C → (X → Area) → X → List (Event C) → X → Type 0
Runs k area x [] z = x ≡ z
Runs {C} {X} k area x (e ∷ es) z = (y : X) × Step k e.0 (area x) e.1 (area y) × Runs k area y es z
