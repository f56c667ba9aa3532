-- Beside a new area, the ledger's numbers are those kept and its current pages those of the area.
use Rattle.std.proofs.Common.{◌≡◌, ℕ, ◌<◌, Bool, true, false, cond, ◌&&◌, ◌||◌, eqb, length, get_or, set, is_some, Some, None, Option, Result, sym, refl, ap, ◌∙◌, subst, ⊎_elim, arith}
use Rattle.std.proofs.lemmas.List.{get_or-set_same, get_or-set_other}
use Rattle.std.proofs.lemmas.Bool.{cases_eq, eq-eqb, ne_eqb}
use Rattle.area.specs.Areas.{Area, opened, answered, Changes, Settles, put_fault, cut_fault, settle_fault, router_refusal, hops_fault}
use Rattle.costs.specs.Costs.{Costs}
use Rattle.faults.specs.Calls.{or_else, granted, in_area, in_table, done}
use Rattle.faults.specs.declared.fault.Fault.{Fault}
use Rattle.faults.specs.declared.refusal.Refusal.{Refusal}
use Rattle.faults.specs.declared.refusal.Refusal.TheVariants.{NumberNotRead, StalePage}
use Rattle.pagetable.specs.Pages.{is_current, page_of, hops_to}
use Rattle.routes.proofs.Members.{none_some, some_inj}
use Rattle.tables.specs.Links.{Links, with_link}
use Rattle.tables.specs.Tables.{Table, Lawful, pair_refusal, number_refusal, room_refusal}
use Rattle.runs.specs.Calls.{Call, put, cut, settle, hops, path, walk, Reply, Step}
use Rattle.runs.specs.Laws.{New}
use Rattle.runs.specs.Ledgers.{Ledger, empty, Terms, terms_of, fault_told, own_table, hops_judged, settle_judged, changed, settled, noted, Judged}
use Rattle.runs.proofs.Faithful.{Faithful, few, stale, settle_inside}

-- every number is one that the rule reads
abbrev pub Reads : {C : Type 0} → Costs C → Links → Type 0
Reads k m = (a b n : ℕ) → m a b ≡ Some n → is_some (k.read n) ≡ true

pub record Tied {C : Type 0} (k : Costs C) (t : Terms) (a : Area) (l : Ledger) : Type 0 where
  pub numbers : a.table.kept ≡ l.numbers
  pub current : (root : ℕ) → is_current a.pages root ≡ l.current root
  pub count : a.table.count ≡ t.count
  pub greatest : a.table.greatest ≡ t.greatest
  pub limit : a.table.limit ≡ t.limit
  pub plain : a.table.plain ≡ true
  pub reads : Reads k l.numbers

-- what an answer tells
told_done : (f : Option Fault) → fault_told (done f) ≡ f
told_done None = refl
told_done (Some x) = refl

told_answered : {X : Type 0} (f : Option Fault) (x : X) → fault_told (answered f x) ≡ f
told_answered None x = refl
told_answered (Some g) x = refl

-- a number more that the rule reads
reads_with : {C : Type 0} (k : Costs C) (m : Links) (from to : ℕ) (o : Option ℕ) → Reads k m → ((n : ℕ) → o ≡ Some n → is_some (k.read n) ≡ true) → Reads k (with_link m from to o)
reads_with k m from to o r h a b n e = by (eqb a from && eqb b to) e
  where
    by : (t : Bool) → cond t o (m a b) ≡ Some n → is_some (k.read n) ≡ true
    by true e = h n e
    by false e = r a b n e

-- a put that no condition refuses has a number that the rule reads
put_reads : {C : Type 0} (k : Costs C) (t : Table) (from to number : ℕ) → put_fault k t from to number ≡ None → is_some (k.read number) ≡ true
put_reads k t from to number e = by (pair_refusal t.count from to) (is_some (k.read number)) e
  where
    by : (p : Option Refusal) (s : Bool) →
        or_else (in_area p) (or_else (in_area (cond s None (Some NumberNotRead))) (or_else (in_table (number_refusal t.greatest number)) (in_table (room_refusal t.count t.limit t.kept from to)))) ≡ None → s ≡ true
    by None true e = refl
    by None false e = let z : ◌≡◌ {A = ℕ} 0 1 = cc in absurd (omega arith)
    by (Some x) s e = let z : ◌≡◌ {A = ℕ} 0 1 = cc in absurd (omega arith)

module _ {C : Type 0} (k : Costs C) (t : Terms) where
  pub tied_new : (a : Area) → New a → terms_of a.table ≡ t → Tied k t a empty
  tied_new a w e =
      record {
        numbers = ap (λ (b : Area). b.table.kept) w.opens ∙ w.nothing;
        current = λ root. ap (λ (b : Area). is_current b.pages root) w.opens ∙ stale (opened w.table).pages root;
        count = ap (λ (x : Terms). x.count) e;
        greatest = ap (λ (x : Terms). x.greatest) e;
        limit = ap (λ (x : Terms). x.limit) e;
        plain = ap (λ (b : Area). b.table.plain) w.opens ∙ w.plainly;
        reads = λ a b n q. absurd (none_some n q);
      }

  module _ (a : Area) (l : Ledger) (h : Tied k t a l) where
    -- the ledger judges by the same conditions
    same_put : (from to number : ℕ) → put_fault k a.table from to number ≡ put_fault k (own_table k t l) from to number
    same_put from to number = λ i. put_fault k (record { kept = h.numbers i; shown = a.table.shown; count = h.count i; greatest = h.greatest i; limit = h.limit i; plain = a.table.plain }) from to number

    same_cut : (from to : ℕ) → cut_fault a.table from to ≡ cut_fault (own_table k t l) from to
    same_cut from to = λ i. cut_fault (record { kept = h.numbers i; shown = a.table.shown; count = h.count i; greatest = h.greatest i; limit = h.limit i; plain = a.table.plain }) from to

    same_settle : (root best rest waiting : ℕ) → settle_fault a.table.count root best rest waiting ≡ settle_judged k t root best rest waiting
    same_settle root best rest waiting = ap (λ n. settle_fault n root best rest waiting) h.count

    same_hops : (root to : ℕ) → hops_fault a root to ≡ hops_judged k t l root to
    same_hops root to = λ i. in_area (or_else (router_refusal (h.count i) root) (or_else (router_refusal (h.count i) to) (cond (h.current root i) None (Some StalePage))))

    -- a change of one pair, judged by fault f
    tied_changes : (f : Option Fault) (from to : ℕ) (o : Option ℕ) (r : Result (Unit {0}) Fault) (b : Area) → Changes f from to o a r b →
        (f ≡ None → (n : ℕ) → o ≡ Some n → is_some (k.read n) ≡ true) → Tied k t b (granted f (changed k t l from to o) l)
    tied_changes None from to o r b c reads =
        record {
          numbers = c.table.kept ∙ ap (λ m. with_link m from to o) h.numbers;
          current = λ root. ap (λ p. is_current p root) c.pages ∙ stale a.pages root;
          count = c.table.count ∙ h.count;
          greatest = c.table.greatest ∙ h.greatest;
          limit = c.table.limit ∙ h.limit;
          plain = c.table.plain ∙ h.plain;
          reads = reads_with k l.numbers from to o h.reads (reads refl);
        }
    tied_changes (Some x) from to o r b c reads =
        record {
          numbers = c.table.kept ∙ h.numbers;
          current = λ root. ap (λ p. is_current p root) c.pages ∙ h.current root;
          count = c.table.count ∙ h.count;
          greatest = c.table.greatest ∙ h.greatest;
          limit = c.table.limit ∙ h.limit;
          plain = c.table.plain ∙ h.plain;
          reads = h.reads;
        }

    tied_same : (b : Area) → b ≡ a → Tied k t b l
    tied_same b e = subst (λ z. Tied k t z l) (sym e) h

    pub step_tied : (c : Call C) (r : Reply c) (b : Area) → Lawful a.table → Faithful k a → Step k c a r b → Judged k t l c r × Tied k t b (noted k t l c)
    step_tied (put from to number) r b lawful f s = (
      ap fault_told s.answer ∙ told_done (put_fault k a.table from to number) ∙ same_put from to number,
      subst (λ x. Tied k t b (granted x (changed k t l from to (Some number)) l)) (same_put from to number)
          (tied_changes (put_fault k a.table from to number) from to (Some number) r b s (λ e n q. ap (λ m. is_some (k.read m)) (sym (some_inj number n q)) ∙ put_reads k a.table from to number e)),
    )
    step_tied (cut from to) r b lawful f s = (
      ap fault_told s.answer ∙ told_done (cut_fault a.table from to) ∙ same_cut from to,
      subst (λ x. Tied k t b (granted x (changed k t l from to None) l)) (same_cut from to) (tied_changes (cut_fault a.table from to) from to None r b s (λ e n q. absurd (none_some n q))),
    )
    step_tied (settle root best rest waiting) r b lawful f s = (
      ap fault_told s.answer ∙ told_done (settle_fault a.table.count root (length best) (length rest) (length waiting)) ∙ same_settle root (length best) (length rest) (length waiting),
      subst (λ x. Tied k t b (granted x (settled k t l root) l)) (same_settle root (length best) (length rest) (length waiting))
          (by (settle_fault a.table.count root (length best) (length rest) (length waiting))
          (λ e. omega (arith, few a.table lawful, settle_inside k a.table.count root (length best) (length rest) (length waiting) e)) s),
    )
      where
        by : (x : Option Fault) → (x ≡ None → root < 32) → Settles k x root a best rest waiting r.0 b r.1 r.2 r.3 → Tied k t b (granted x (settled k t l root) l)
        by (Some x) in-range s =
            record {
              numbers = ap (λ (u : Table). u.kept) s.table ∙ h.numbers;
              current = λ at. ap (λ p. is_current p at) s.pages ∙ h.current at;
              count = ap (λ (u : Table). u.count) s.table ∙ h.count;
              greatest = ap (λ (u : Table). u.greatest) s.table ∙ h.greatest;
              limit = ap (λ (u : Table). u.limit) s.table ∙ h.limit;
              plain = ap (λ (u : Table). u.plain) s.table ∙ h.plain;
              reads = h.reads;
            }
        by None in-range s =
            record {
              numbers = ap (λ (u : Table). u.kept) s.table ∙ h.numbers;
              current = λ at. ap (λ p. is_current p at) s.pages ∙ ⊎_elim
                  (λ (q : at ≡ root). ap (λ z. get_or (set a.pages.current root true) z false) q ∙ get_or-set_same a.pages.current root true false (omega (arith, f.marks, in-range refl)) ∙ sym (ap (λ x. x || l.current at) (eq-eqb at root q)))
                  (λ ne. get_or-set_other a.pages.current root at true false ne ∙ h.current at ∙ sym (ap (λ x. x || l.current at) (ne_eqb at root ne)))
                  (cases_eq at root);
              count = ap (λ (u : Table). u.count) s.table ∙ h.count;
              greatest = ap (λ (u : Table). u.greatest) s.table ∙ h.greatest;
              limit = ap (λ (u : Table). u.limit) s.table ∙ h.limit;
              plain = ap (λ (u : Table). u.plain) s.table ∙ h.plain;
              reads = h.reads;
            }
    step_tied (hops root to) r b lawful f s = (
      ap fault_told s.0 ∙ told_answered (hops_fault a root to) (hops_to (page_of a.pages root) to) ∙ same_hops root to,
      tied_same b s.1,
    )
    step_tied (path root to out) r b lawful f s = (tt, tied_same b s.2)
    step_tied (walk from to picks trail) r b lawful f s = (tt, tied_same b s.2)
