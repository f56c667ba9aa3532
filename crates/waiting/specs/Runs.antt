-- Lists of pushes and pops, and the service that they are.
use Rattle.std.specs.Prelude.{◌≡◌, ℕ, ◌<◌, ◌≤◌, Bool, false, List, [], ◌∷◌, ◌++◌, length, take, drop, Some, None, Ok, Err, Result}
use Rattle.faults.specs.declared.refusal.Refusal.{Refusal}
use Rattle.faults.specs.declared.refusal.Refusal.TheVariants.{Full, MemoryTooShort}
use Rattle.std.specs.List.{AllByRecursion}
use Rattle.std.specs.List.Sorted.{IsPermutation}
use Rattle.waiting.specs.Waiting.{memory, queued, PushAnswer, PopAnswer}
use Rattle.waiting.specs.declared.calls.Answer.{Answer}
use Rattle.waiting.specs.declared.calls.Answer.TheVariants.{Pushed, Popped}
use Rattle.waiting.specs.declared.calls.Call.{Call}
use Rattle.waiting.specs.declared.calls.Call.TheVariants.{Push, Pop}
use Rattle.waiting.specs.declared.list.Waiting.{Waiting}
use Rattle.waiting.specs.declared.ranked.Ranked.{Ghosts}

-- one call: its contract, from the list before it to the list after it
abbrev pub Step : {E : Type 0} {ranked : Ghosts E} → (E → E → Bool) → Waiting E ranked → Call E → Answer E → Waiting E ranked → Type 0
Step before w (Push e) (Pushed r) w' = PushAnswer e w w' r
Step before w (Push e) (Popped o) w' = ⊥
Step before w Pop (Pushed r) w' = ⊥
Step before w Pop (Popped o) w' = PopAnswer before w w' o

-- a list of calls, each on the list that the call before it left
abbrev pub Runs : {E : Type 0} {ranked : Ghosts E} → (E → E → Bool) → Waiting E ranked → List (Call E) → List (Answer E) → Waiting E ranked → Type 0
Runs before w [] [] w' = w ≡ w'
Runs before w [] (a ∷ answers) w' = ⊥
Runs before w (c ∷ calls) [] w' = ⊥
Runs {E} {ranked} before w (c ∷ calls) (a ∷ answers) w' = (m : Waiting E ranked) × Step before w c a m × Runs before m calls answers w'

-- the calls ran, and their answers stand in front
pub record Ran {E : Type 0} {ranked : Ghosts E} (before : E → E → Bool) (calls : List (Call E)) (w : Waiting E ranked) (answers : List (Answer E)) (w' : Waiting E ranked) (answers' : List (Answer E)) : Type 0 where
  pub room : length calls ≤ length answers
  pub runs : Runs before w calls (take (length calls) answers') w'
  pub rest : drop (length calls) answers' ≡ drop (length calls) answers

-- the answers had too few places, and nothing changed
pub record TooShort {E : Type 0} {ranked : Ghosts E} (x : Refusal) (calls : List (Call E)) (w : Waiting E ranked) (answers : List (Answer E)) (w' : Waiting E ranked) (answers' : List (Answer E)) : Type 0 where
  pub why : x ≡ MemoryTooShort
  pub short : length answers < length calls
  pub len : w'.len ≡ w.len
  pub same : memory w' ≡ memory w
  pub unwritten : answers' ≡ answers

-- what `serve` answers
abbrev pub ServeAnswer : {E : Type 0} {ranked : Ghosts E} → (E → E → Bool) → List (Call E) → Waiting E ranked → List (Answer E) → Waiting E ranked → List (Answer E) → Result (Unit {0}) Refusal → Type 0
ServeAnswer before calls w answers w' answers' (Ok _) = Ran before calls w answers w' answers'
ServeAnswer before calls w answers w' answers' (Err x) = TooShort x calls w answers w' answers'

-- One call of the service: a bag of entries, in no order, with room for so many.
-- A pop takes an entry of the bag before which no entry of the bag comes.
abbrev pub ServesOne : {E : Type 0} → (E → E → Bool) → ℕ → List E → Call E → Answer E → List E → Type 0
ServesOne before capacity bag (Push e) (Pushed (Ok _)) bag' = (length bag < capacity) × (bag' ≡ e ∷ bag)
ServesOne before capacity bag (Push e) (Pushed (Err x)) bag' = (x ≡ Full) × (length bag ≡ capacity) × (bag' ≡ bag)
ServesOne before capacity bag (Push e) (Popped o) bag' = ⊥
ServesOne before capacity bag Pop (Pushed r) bag' = ⊥
ServesOne before capacity bag Pop (Popped (Some e)) bag' = IsPermutation bag (e ∷ bag') × AllByRecursion (λ x. before x e ≡ false) bag
ServesOne before capacity bag Pop (Popped None) bag' = (bag ≡ []) × (bag' ≡ bag)

-- a list of calls, each on the bag that the call before it left
abbrev pub Serves : {E : Type 0} → (E → E → Bool) → ℕ → List E → List (Call E) → List (Answer E) → List E → Type 0
Serves before capacity bag [] [] bag' = bag ≡ bag'
Serves before capacity bag [] (a ∷ answers) bag' = ⊥
Serves before capacity bag (c ∷ calls) [] bag' = ⊥
Serves {E} before capacity bag (c ∷ calls) (a ∷ answers) bag' =
    (next : List E) × ServesOne before capacity bag c a next × Serves before capacity next calls answers bag'

-- the entries of the pushes that were taken
abbrev pub went_in : {E : Type 0} → List (Call E) → List (Answer E) → List E
went_in [] answers = []
went_in (c ∷ calls) [] = []
went_in (Push e ∷ calls) (Pushed (Ok _) ∷ answers) = e ∷ went_in calls answers
went_in (Push e ∷ calls) (Pushed (Err x) ∷ answers) = went_in calls answers
went_in (Push e ∷ calls) (Popped o ∷ answers) = went_in calls answers
went_in (Pop ∷ calls) (a ∷ answers) = went_in calls answers

-- the entries that pops answered
abbrev pub came_out : {E : Type 0} → List (Answer E) → List E
came_out [] = []
came_out (Pushed r ∷ answers) = came_out answers
came_out (Popped (Some e) ∷ answers) = e ∷ came_out answers
came_out (Popped None ∷ answers) = came_out answers

-- the calls with these answers, that left w', are the service on an empty bag
pub record Served {E : Type 0} {ranked : Ghosts E} (before : E → E → Bool) (capacity : ℕ) (calls : List (Call E)) (answers : List (Answer E)) (w' : Waiting E ranked) : Type 0 where
  pub bag : List E
  pub serves : Serves before capacity [] calls answers bag
  -- what is left in the bag still waits
  pub waits : IsPermutation bag (queued w')
  -- what went in came out or still waits, each entry as often
  pub kept : IsPermutation (went_in calls answers) (came_out answers ++ queued w')

-- so it is for every list of calls, from every empty list
abbrev pub LowestFirst : {E : Type 0} → Ghosts E → Type 0
LowestFirst {E} ranked =
    (w w' : Waiting E ranked) (calls : List (Call E)) (answers : List (Answer E)) → w.len ≡ 0 →
    Runs ranked.before w calls answers w' → Served ranked.before (length (memory w)) calls answers w'
