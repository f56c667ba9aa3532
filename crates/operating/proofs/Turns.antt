-- Calls made in turn: one call more at the end of a list.
use Rattle.std.proofs.Common.{◌≡◌, ℕ, ◌+◌, ◌<◌, List, [], ◌∷◌, ◌++◌, length, get_or, take, set, sym, refl, subst, subst₂}
use Rattle.std.proofs.lemmas.List.{take_more, take_more_set}
use Rattle.area.specs.Areas.{Area}
use Rattle.costs.specs.Costs.{Costs, Laws}
use Rattle.runs.proofs.Theorems.{law, walks_arrive}
use Rattle.runs.specs.Calls.{Event, Step, Runs}
use Rattle.tables.specs.Tables.{Lawful}
use Rattle.operating.specs.Operations.{Memories, Said, Made, Told, Operated}
use Rattle.operating.specs.declared.calls.Answer.{Answer}
use Rattle.operating.specs.declared.calls.Call.{Call}

module _ {C : Type 0} (k : Costs C) where
  -- a call that is known to be another is made as that one
  pub made_as : {c d : Call} {a b : Area} (m n : Memories C) (w : Answer) → c ≡ d → Made k d a m w b n → Made k c a m w b n
  made_as {a} {b} m n w e made = subst (λ x. Made k x a m w b n) (sym e) made

  -- the events of a list, and that of a call behind it
  told_end : (m n p : Memories C) (cs : List Call) (ws : List Answer) (es : List (Event C)) (c : Call) (w : Answer) (e : Event C) →
      Told m cs ws es n → Said c n w p e → Told m (cs ++ (c ∷ [])) (ws ++ (w ∷ [])) (es ++ (e ∷ [])) p
  told_end m n p [] [] [] c w e t s = (p, subst (λ v. Said c v w p e) (sym t) s, refl)
  told_end m n p [] [] (f ∷ es) c w e t s = absurd t
  told_end m n p [] (v ∷ ws) es c w e t s = absurd t
  told_end m n p (b ∷ cs) [] es c w e t s = absurd t
  told_end m n p (b ∷ cs) (v ∷ ws) [] c w e t s = absurd t
  told_end m n p (b ∷ cs) (v ∷ ws) (f ∷ es) c w e t s = (t.0, t.1, told_end t.0 n p cs ws es c w e t.2 s)

  module _ {X : Type 0} (area : X → Area) where
    -- a run, and a step behind it
    runs_end : (x y z : X) (es : List (Event C)) (e : Event C) → Runs k area x es y → Step k e.0 (area y) e.1 (area z) → Runs k area x (es ++ (e ∷ [])) z
    runs_end x y z [] e r s = (z, subst (λ v. Step k e.0 (area v) e.1 (area z)) (sym r) s, refl)
    runs_end x y z (f ∷ es) e r s = (r.0, r.1, runs_end r.0 y z es e r.2 s)

    -- the calls were made in turn, with these answers, from one value to another
    abbrev pub InTurn : X → Memories C → List Call → List Answer → X → Memories C → Type 0
    InTurn x m cs ws z m' = (es : List (Event C)) × Told m cs ws es m' × Runs k area x es z

    -- one call more, whose answer is written at its place
    pub turn_more : (x y z : X) (m n p : Memories C) (cs : List Call) (ws : List Answer) (i : ℕ) (d : Call) (w : Answer) → i < length cs → i < length ws →
        InTurn x m (take i cs) (take i ws) y n → Made k (get_or cs i d) (area y) n w (area z) p → InTurn x m (take (i + 1) cs) (take (i + 1) (set ws i w)) z p
    turn_more x y z m n p cs ws i d w h j turn made =
        subst₂ (λ us vs. InTurn x m us vs z p) (sym (take_more cs i d h)) (sym (take_more_set ws i w j)) (
          turn.0 ++ (made.0 ∷ []),
          told_end m n p (take i cs) (take i ws) turn.0 (get_or cs i d) w made.0 turn.1 made.1,
          runs_end x y z turn.0 made.0 turn.2 made.2,
        )

    -- over the first n calls, made in turn, the law holds
    pub operated : Laws k → ((x : X) → Lawful (area x).table) → (x z : X) (m m' : Memories C) (cs : List Call) (ws : List Answer) (i n : ℕ) → i ≡ n →
        InTurn x m (take i cs) (take i ws) z m' → Operated k area x m (take n cs) (take n ws) z m'
    operated laws lawful x z m m' cs ws i n end turns =
        let turn = subst (λ j. InTurn x m (take j cs) (take j ws) z m') end turns in
        record {
          events = turn.0;
          told = turn.1;
          run = turn.2;
          law = λ new. law k laws area lawful x z turn.0 new turn.2;
          arrival = λ t opens. walks_arrive k laws area lawful x z turn.0 t opens turn.2;
        }
