-- What the calls on a waiting list leave.
use Rattle.std.specs.Prelude.{◌≡◌, ℕ, ◌+◌, ◌<◌, Bool, false, List, [], ◌∷◌, ◌++◌, length, take, drop, Some, None, Ok, Err, Option, Result}
use Rattle.std.specs.Borrow.{GName}
use Rattle.faults.specs.declared.refusal.Refusal.{Refusal}
use Rattle.faults.specs.declared.refusal.Refusal.TheVariants.{Full}
use Rattle.std.specs.List.{AllByRecursion}
use Rattle.std.specs.List.Sorted.{IsPermutation}
use Rattle.waiting.specs.declared.list.Waiting.{Waiting}
use Rattle.waiting.specs.declared.ranked.Ranked.{Ghosts}

-- every place of the handed memory
abbrev pub memory : {E : Type 0} {ranked : Ghosts E} → Waiting E ranked → List E
memory w = w.entries.now

-- which memory was handed
abbrev pub handed : {E : Type 0} {ranked : Ghosts E} → Waiting E ranked → GName
handed w = w.entries.ghost_name

-- the entries that wait
abbrev pub queued : {E : Type 0} {ranked : Ghosts E} → Waiting E ranked → List E
queued w = take w.len (memory w)

-- the first n entries stand in another order, and the rest of the memory is as it was
pub record Stirred {E : Type 0} (n : ℕ) (xs ys : List E) : Type 0 where
  pub size : length ys ≡ length xs
  pub items : IsPermutation (take n xs) (take n ys)
  pub rest : drop n ys ≡ drop n xs

-- e waits besides
pub record Pushed {E : Type 0} {ranked : Ghosts E} (e : E) (w w' : Waiting E ranked) : Type 0 where
  pub room : w.len < length (memory w)
  pub len : w'.len ≡ w.len + 1
  pub size : length (memory w') ≡ length (memory w)
  pub items : IsPermutation (queued w ++ e ∷ []) (queued w')
  pub rest : drop (w.len + 1) (memory w') ≡ drop (w.len + 1) (memory w)

-- the list was full, and nothing changed
pub record Refused {E : Type 0} {ranked : Ghosts E} (x : Refusal) (w w' : Waiting E ranked) : Type 0 where
  pub why : x ≡ Full
  pub full : w.len ≡ length (memory w)
  pub len : w'.len ≡ w.len
  pub same : memory w' ≡ memory w

-- e, before which none of the entries comes, waits no more
pub record Popped {E : Type 0} {ranked : Ghosts E} (before : E → E → Bool) (e : E) (w w' : Waiting E ranked) : Type 0 where
  pub len : w.len ≡ w'.len + 1
  pub size : length (memory w') ≡ length (memory w)
  pub items : IsPermutation (queued w) (e ∷ queued w')
  pub rest : drop w.len (memory w') ≡ drop w.len (memory w)
  pub least : AllByRecursion (λ x. before x e ≡ false) (queued w)

-- none waits, and nothing changed
pub record Empty {E : Type 0} {ranked : Ghosts E} (w w' : Waiting E ranked) : Type 0 where
  pub none : w.len ≡ 0
  pub len : w'.len ≡ w.len
  pub same : memory w' ≡ memory w

-- what `push` answers: taken, or refused where the list is full
abbrev pub PushAnswer : {E : Type 0} {ranked : Ghosts E} → E → Waiting E ranked → Waiting E ranked → Result (Unit {0}) Refusal → Type 0
PushAnswer e w w' (Ok _) = Pushed e w w'
PushAnswer e w w' (Err x) = Refused x w w'

-- what `pop` answers: the lowest entry, or that none waits
abbrev pub PopAnswer : {E : Type 0} {ranked : Ghosts E} → (E → E → Bool) → Waiting E ranked → Waiting E ranked → Option E → Type 0
PopAnswer before w w' (Some e) = Popped before e w w'
PopAnswer before w w' None = Empty w w'
