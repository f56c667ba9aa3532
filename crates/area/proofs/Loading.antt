-- Directions put one after another, as a load does it.
use Rattle.std.proofs.Common.{◌≡◌, ℕ, Bool, true, false, cond, ◌||◌, List, [], ◌∷◌, Some, None, Ok, Err, Option, Result, sym, refl, ap, ◌∙◌, subst, arith}
use Rattle.costs.specs.Costs.{Costs}
use Rattle.directions.specs.Directions.{direction_read}
use Rattle.directions.specs.Files.{list_all}
use Rattle.directions.proofs.FileLaws.{list_all_some, list_all_none, list_all_err}
use Rattle.directions.specs.declared.direction.Direction.{Direction}
use Rattle.faults.specs.Calls.{done, granted}
use Rattle.faults.specs.declared.fault.Fault.{Fault}
use Rattle.linkfile.specs.Reading.{Standing}
use Rattle.pagetable.specs.Pages.{all_stale}
use Rattle.pagetable.specs.declared.table.PageTable.{PageTable}
use Rattle.tables.specs.Links.{with_link}
use Rattle.tables.specs.Tables.{Table, Changed}
use Rattle.area.specs.Areas.{Area, Put, put_fault}
use Rattle.area.specs.Loads.{Loaded, Loads, keeping, put_then, put_all, put_listed, fault_on}

-- two tables that judge a put alike
record Alike (t u : Table) : Type 0 where
  kept : t.kept ≡ u.kept
  count : t.count ≡ u.count
  greatest : t.greatest ≡ u.greatest
  limit : t.limit ≡ u.limit

module _ {C : Type 0} (rule : Costs C) where
  -- and so every list of puts
  put_all_alike : (ds : List Direction) (ended : Result (Unit {0}) Fault) (t u : Table) → Alike t u → put_all rule t ds ended ≡ put_all rule u ds ended
  unfolding put_all
  put_all_alike [] ended t u a = ap (λ kept. record { answer = ended; kept = kept; changed = false }) a.kept
  put_all_alike (d ∷ ds) ended t u a =
      let more = put_all_alike ds ended (keeping t (with_link t.kept d.from d.to (Some d.number))) (keeping u (with_link u.kept d.from d.to (Some d.number)))
      (record { kept = ap (λ kept. with_link kept d.from d.to (Some d.number)) a.kept; count = a.count; greatest = a.greatest; limit = a.limit }) in
      λ i. put_then d.line (a.kept i)
      (put_fault rule (record { kept = a.kept i; shown = t.shown; count = a.count i; greatest = a.greatest i; limit = a.limit i; plain = t.plain }) d.from d.to d.number)
      (more i)

  -- a list of puts that is granted to its end ends well
  pub put_all_ended : (ds : List Direction) (ended : Result (Unit {0}) Fault) (t : Table) → (put_all rule t ds ended).answer ≡ Ok tt → ended ≡ Ok tt
  unfolding put_all
  put_all_ended [] ended t e = e
  put_all_ended (d ∷ ds) ended t e =
      by (put_all_ended ds ended (keeping t (with_link t.kept d.from d.to (Some d.number)))) (put_fault rule t d.from d.to d.number) e
    where
      by : ((put_all rule (keeping t (with_link t.kept d.from d.to (Some d.number))) ds ended).answer ≡ Ok tt → ended ≡ Ok tt) → (f : Option Fault) →
          (put_then d.line t.kept f (put_all rule (keeping t (with_link t.kept d.from d.to (Some d.number))) ds ended)).answer ≡ Ok tt → ended ≡ Ok tt
      by more None e = more e
      by more (Some f) e = let z : ◌≡◌ {A = ℕ} 0 1 = cc in absurd (omega arith)

-- a load of which some puts are made: whether any, and what is left
abbrev after : Bool → Loaded → Loaded
after changed more = record { answer = more.answer; kept = more.kept; changed = changed || more.changed }

-- From area a and place s a load has come to area b and place t.
pub record Loading {C : Type 0} (rule : Costs C) (a : Area) (s : Standing) (b : Area) (t : Standing) : Type 0 where
  pub changed : Bool
  pub whole : put_listed rule a.table (list_all s) ≡ after changed (put_listed rule b.table (list_all t))
  pub shown : changed ≡ false → b.table.shown ≡ a.table.shown
  pub count : b.table.count ≡ a.table.count
  pub greatest : b.table.greatest ≡ a.table.greatest
  pub limit : b.table.limit ≡ a.table.limit
  pub plain : b.table.plain ≡ a.table.plain
  pub pages : b.pages ≡ cond changed (all_stale a.pages) a.pages

module _ {C : Type 0} (rule : Costs C) (a : Area) (s : Standing) (b : Area) (t : Standing) (l : Loading rule a s b t) where
  -- what is left begins with a direction
  begins : (d : Direction) → Ok (Some d) ≡ (direction_read t).answer →
      put_listed rule b.table (list_all t) ≡
      put_then d.line b.table.kept (put_fault rule b.table d.from d.to d.number)
      (put_listed rule (keeping b.table (with_link b.table.kept d.from d.to (Some d.number))) (list_all (direction_read t).standing))
  unfolding put_all
  begins d e = ap (put_listed rule b.table) (list_all_some t d e)

  -- the load ends here, with this answer and no more puts
  ends : (r : Result (Unit {0}) Fault) → put_listed rule b.table (list_all t) ≡ record { answer = r; kept = b.table.kept; changed = false } →
      Loads (put_listed rule a.table (list_all s)) a r b
  ends r e =
      let all = l.whole ∙ ap (after l.changed) e in
      let changed = ap (λ (m : Loaded). m.changed) all ∙ or_false l.changed in
      record {
        answer = sym (ap (λ (m : Loaded). m.answer) all);
        kept = sym (ap (λ (m : Loaded). m.kept) all);
        shown = λ n. l.shown (sym changed ∙ n);
        count = l.count;
        greatest = l.greatest;
        limit = l.limit;
        plain = l.plain;
        pages = l.pages ∙ ap (λ c. cond c (all_stale a.pages) a.pages) (sym changed);
      }
    where
      or_false : (x : Bool) → (x || false) ≡ x
      or_false true = refl
      or_false false = refl

  -- at the end of the file, or at a fault of its lines
  pub ends_well : Ok None ≡ (direction_read t).answer → Loads (put_listed rule a.table (list_all s)) a (Ok tt) b
  unfolding put_all
  ends_well e = ends (Ok tt) (ap (put_listed rule b.table) (list_all_none t e))

  pub ends_ill : (f : Fault) → Err f ≡ (direction_read t).answer → Loads (put_listed rule a.table (list_all s)) a (Err f) b
  unfolding put_all
  ends_ill f e = ends (Err f) (ap (put_listed rule b.table) (list_all_err t f e))

  module _ (d : Direction) (e : Ok (Some d) ≡ (direction_read t).answer) (b' : Area) where
    abbrev fault : Option Fault
    fault = put_fault rule b.table d.from d.to d.number

    -- a refused put ends it
    pub ends_refused : (f : Fault) → Put rule d.from d.to d.number b (done fault) b' → Err f ≡ done (fault_on d.line fault) →
        Loads (put_listed rule a.table (list_all s)) a (Err f) b'
    ends_refused f put answer = by fault refl put.table put.pages answer
      where
        by : (x : Option Fault) → fault ≡ x → Changed x d.from d.to (Some d.number) b.table b'.table → b'.pages ≡ granted x (all_stale b.pages) b.pages →
            Err f ≡ done (fault_on d.line x) → Loads (put_listed rule a.table (list_all s)) a (Err f) b'
        by None is c p q = let z : ◌≡◌ {A = ℕ} 0 1 = cc in absurd (omega arith)
        by (Some x) is c p q =
            let same : b' ≡ b = λ i. record {
              table = record { kept = c.kept i; shown = c.shown i; count = c.count i; greatest = c.greatest i; limit = c.limit i; plain = c.plain i };
              pages = p i;
            } in
            subst (λ z. Loads (put_listed rule a.table (list_all s)) a (Err f) z) (sym same)
            (ends (Err f) (begins d e
            ∙ ap (λ y. put_then d.line b.table.kept y (put_listed rule (keeping b.table (with_link b.table.kept d.from d.to (Some d.number))) (list_all (direction_read t).standing))) is
            ∙ ap (λ r. record { answer = r; kept = b.table.kept; changed = false }) (sym q)))

    -- a granted one goes on
    pub goes_on : (t' : Standing) → t' ≡ (direction_read t).standing → Put rule d.from d.to d.number b (done fault) b' → Ok tt ≡ done (fault_on d.line fault) → Loading rule a s b' t'
    goes_on t' stood put answer = by fault refl put.table put.pages answer
      where
        or_true : (x : Bool) → (x || true) ≡ true
        or_true true = refl
        or_true false = refl

        stale_once : (x : Bool) (p : PageTable) → all_stale (cond x (all_stale p) p) ≡ all_stale p
        stale_once true p = refl
        stale_once false p = refl

        by : (x : Option Fault) → fault ≡ x → Changed x d.from d.to (Some d.number) b.table b'.table → b'.pages ≡ granted x (all_stale b.pages) b.pages →
            Ok tt ≡ done (fault_on d.line x) → Loading rule a s b' t'
        by (Some x) is c p q = let z : ◌≡◌ {A = ℕ} 0 1 = cc in absurd (omega arith)
        by None is c p q =
            let put_next = keeping b.table (with_link b.table.kept d.from d.to (Some d.number)) in
            let rest = put_listed rule put_next (list_all (direction_read t).standing) in
            let alike = put_all_alike rule (list_all t').directions (list_all t').ended put_next b'.table
            (record { kept = sym c.kept; count = sym c.count; greatest = sym c.greatest; limit = sym c.limit }) in
            let left : rest ≡ put_listed rule b'.table (list_all t') = ap (λ z. put_listed rule put_next (list_all z)) (sym stood) ∙ alike in
            record {
              changed = true;
              whole = l.whole ∙ ap (after l.changed) (begins d e ∙ ap (λ y. put_then d.line b.table.kept y rest) is)
                  ∙ ap (λ y. record { answer = rest.answer; kept = rest.kept; changed = y }) (or_true l.changed)
                  ∙ ap (after true) left;
              shown = λ n. let z : ◌≡◌ {A = ℕ} 0 1 = cc in absurd (omega arith);
              count = c.count ∙ l.count;
              greatest = c.greatest ∙ l.greatest;
              limit = c.limit ∙ l.limit;
              plain = c.plain ∙ l.plain;
              pages = p ∙ ap all_stale l.pages ∙ stale_once l.changed a.pages;
            }
