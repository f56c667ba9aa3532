-- Lists of calls as a program makes them, with memories that the calls use in turn.
use Rattle.std.specs.Prelude.{◌≡◌, ℕ, List, [], ◌∷◌}
use Rattle.area.specs.Areas.{Area, opened}
use Rattle.costs.specs.Costs.{Costs}
use Rattle.entries.specs.declared.Entry.{Entry}
use Rattle.tables.specs.Tables.{Table}
use Rattle.runs.specs.Calls as runs
use Rattle.runs.specs.Calls.{Event, Step, Runs}
use Rattle.runs.specs.Laws.{New, Stands, AllArrive}
use Rattle.runs.specs.Ledgers.{empty, terms_of, after, Agrees}
use Rattle.operating.specs.declared.calls.Answer.{Answer}
use Rattle.operating.specs.declared.calls.Answer.TheVariants.{Done, Found, Wrote}
use Rattle.operating.specs.declared.calls.Call.{Call}
use Rattle.operating.specs.declared.calls.Call.TheVariants.{Put, Cut, Settle, Hops, Path, Walk}

-- what the handed memories hold
pub record Memories (C : Type 0) : Type 0 where
  pub best : List C
  pub rest : List C
  pub waiting : List (Entry C)
  pub path : List ℕ
  pub trail : List ℕ

module _ {C : Type 0} where
  -- the event of a call on these memories, its answer, and the memories then: what the call does not write is as it was
  abbrev pub Said : Call → Memories C → Answer → Memories C → Event C → Type 0
  Said (Put from to number) m (Done r) m' e = (e ≡ (runs.put from to number, r)) × (m' ≡ m)
  Said (Put from to number) m (Found r) m' e = ⊥
  Said (Put from to number) m (Wrote r) m' e = ⊥
  Said (Cut from to) m (Done r) m' e = (e ≡ (runs.cut from to, r)) × (m' ≡ m)
  Said (Cut from to) m (Found r) m' e = ⊥
  Said (Cut from to) m (Wrote r) m' e = ⊥
  Said (Settle root) m (Done r) m' e = (e ≡ (runs.settle root m.best m.rest m.waiting, (r, m'.best, m'.rest, m'.waiting))) × (m'.path ≡ m.path) × (m'.trail ≡ m.trail)
  Said (Settle root) m (Found r) m' e = ⊥
  Said (Settle root) m (Wrote r) m' e = ⊥
  Said (Hops root to) m (Done r) m' e = ⊥
  Said (Hops root to) m (Found r) m' e = (e ≡ (runs.hops root to, r)) × (m' ≡ m)
  Said (Hops root to) m (Wrote r) m' e = ⊥
  Said (Path root to) m (Done r) m' e = ⊥
  Said (Path root to) m (Found r) m' e = ⊥
  Said (Path root to) m (Wrote r) m' e =
      (e ≡ (runs.path root to m.path, (r, m'.path))) × (m' ≡ record { best = m.best; rest = m.rest; waiting = m.waiting; path = m'.path; trail = m.trail })
  Said (Walk from to picks) m (Done r) m' e = ⊥
  Said (Walk from to picks) m (Found r) m' e = ⊥
  Said (Walk from to picks) m (Wrote r) m' e =
      (e ≡ (runs.walk from to picks.now m.trail, (r, m'.trail))) × (m' ≡ record { best = m.best; rest = m.rest; waiting = m.waiting; path = m.path; trail = m'.trail })

  -- one call was made on an area and memories, with this answer: its event is a step to the area then
  abbrev pub Made : Costs C → Call → Area → Memories C → Answer → Area → Memories C → Type 0
  Made k c a m w b m' = (e : Event C) × Said c m w m' e × Step k e.0 a e.1 b

  -- the events of a list of calls, each on the memories that the call before left
  abbrev pub Told : Memories C → List Call → List Answer → List (Event C) → Memories C → Type 0
  Told m [] [] [] m' = m ≡ m'
  Told m [] [] (e ∷ es) m' = ⊥
  Told m [] (w ∷ ws) es m' = ⊥
  Told m (c ∷ cs) [] es m' = ⊥
  Told m (c ∷ cs) (w ∷ ws) [] m' = ⊥
  Told m (c ∷ cs) (w ∷ ws) (e ∷ es) m' = (m'' : Memories C) × Said c m w m'' e × Told m'' cs ws es m'

-- The calls were made in turn, with these answers, from one value to another: that is a run, and the law holds of it.
pub record Operated {C X : Type 0} (k : Costs C) (area : X → Area) (x : X) (m : Memories C) (calls : List Call) (answers : List Answer) (z : X) (m' : Memories C) : Type 0 where
  pub events : List (Event C)
  pub told : Told m calls answers events m'
  pub run : Runs k area x events z
  -- from a new area the ledger judges alike, and what then stands is right by its links
  pub law : New (area x) → Agrees k (terms_of (area x).table) empty events × Stands k (terms_of (area x).table) (area z) (after k (terms_of (area x).table) empty events)
  -- from an opened area no walk answers 15
  pub arrival : (t : Table) → area x ≡ opened t → AllArrive events
