-- What the calls of a list do to the table that it means.
use Rattle.std.proofs.Common.{◌≡◌, ℕ, ◌<◌, ◌≤◌, true, not, ◌&&◌, eqb, leb, List, length, set, Some, None, Ok, Err, Option, sym, refl, ap, ◌∙◌, subst, ap₂, arith, length-set}
use mathlib.Core.Path.{fun_ext}
use Rattle.faults.specs.Calls.{or_else, granted, in_table, done}
use Rattle.faults.specs.declared.fault.Fault.TheVariants.{Table}
use Rattle.faults.specs.declared.refusal.Refusal.{Refusal}
use Rattle.faults.specs.declared.refusal.Refusal.TheVariants.{Full, NotKept}
use Rattle.records.proofs.Places.{found_some, found_none}
use Rattle.records.proofs.Rooms.{place_room, place_full}
use Rattle.records.proofs.Slots.{Slot, number_kept, number_at, set_links, held_some, held_none}
use Rattle.records.proofs.Tidies.{tidy_set, held_slot}
use Rattle.records.specs.Lists.{find, found, held_at, place_of, link_of, list_count, list_links, list_table, tidy, Tidy, tidy_records}
use Rattle.records.specs.declared.record.Record.{Record}
use Rattle.std.proofs.lemmas.Bool.{and_from, or_right, cond-true, cond-false, le-leb, ne_eqb}
use Rattle.tables.proofs.Pairs.{pair_true, pair_granted}
use Rattle.tables.specs.Links.{with_link}
use Rattle.tables.specs.Tables as tables
use Rattle.tables.specs.Tables.{room_refusal, put_refusal, cut_refusal, kept_refusal, RefusedShows, Changed, Put, Cut}

-- a list with routers means what its records hold
pub links_find : (rs : List Record) (k : ℕ) → (k ≡ 0 → ⊥) → list_links rs k ≡ find rs
links_find rs k z = fun_ext λ a. fun_ext λ b. cond-false (eqb k 0) None (find rs a b) (ne_eqb k 0 z)

-- the number of a pair that is held, and of one that is not
module _ (rs : List Record) (k a b : ℕ) (z : k ≡ 0 → ⊥) where
  pub links_held : (i : ℕ) → Some i ≡ found (held_at rs a b) (length rs) → list_links rs k a b ≡ Some (number_at rs i)
  links_held i e =
      let p = found_some (held_at rs a b) (length rs) i e in
      cond-false (eqb k 0) None (find rs a b) (ne_eqb k 0 z) ∙ held_some a b rs p.1 ∙ ap (λ j. Some (number_at rs j)) (sym p.0)

  pub links_not_held : None ≡ found (held_at rs a b) (length rs) → list_links rs k a b ≡ None
  links_not_held e =
      cond-false (eqb k 0) None (find rs a b) (ne_eqb k 0 z) ∙ held_none a b rs (found_none (held_at rs a b) (length rs) e)

-- a refused call leaves the table
refused : (refusal : Option Refusal) (x : Refusal) (a b : ℕ) (number : Option ℕ) (t : tables.Table) → refusal ≡ Some x → Changed refusal a b number t t
refused refusal x a b number t e =
    record {
      kept = sym (ap (λ r. granted r (with_link t.kept a b number) t.kept) e);
      shown = subst (λ r. RefusedShows r t.shown t.shown) (sym e) refl;
      count = refl;
      greatest = refl;
      limit = refl;
      plain = refl;
    }

module _ (rs : List Record) (k a b : ℕ) (t : Tidy rs k) (f : a < k) (g : b < k) (d : a ≡ b → ⊥) where
  some_routers : k ≡ 0 → ⊥
  some_routers e = omega arith

  tidied : tidy k rs ≡ true
  tidied = tidy_records rs k t (ne_eqb k 0 some_routers)

  -- a record written at the pair's slot is a granted call
  module _ (i v : ℕ) (s : Slot rs i a b) where
    written_tidy : Tidy (set rs i (link_of a b v)) k
    written_tidy = (
      ap (λ n. list_count n k) (length-set rs i (link_of a b v)) ∙ t.0,
      or_right (eqb k 0) _ (tidy_set k a b v rs i s (pair_true k a b f g d) tidied),
    )

    written_links : list_links (set rs i (link_of a b v)) k ≡ with_link (list_links rs k) a b (number_kept v)
    written_links =
        links_find (set rs i (link_of a b v)) k some_routers
        ∙ set_links a b v rs i s
        ∙ ap (λ m. with_link m a b (number_kept v)) (sym (links_find rs k some_routers))

    written : (refusal : Option Refusal) (number : Option ℕ) → refusal ≡ None → number_kept v ≡ number → Changed refusal a b number (list_table rs k) (list_table (set rs i (link_of a b v)) k)
    written refusal number e q =
        record {
          kept = written_links ∙ ap (with_link (list_links rs k) a b) q ∙ sym (ap (λ r. granted r (with_link (list_links rs k) a b number) (list_links rs k)) e);
          shown = subst (λ r. RefusedShows r (list_links rs k) (list_links (set rs i (link_of a b v)) k)) (sym e) tt;
          count = refl;
          greatest = refl;
          limit = length-set rs i (link_of a b v);
          plain = refl;
        }

  -- put, where there is a place for the pair and where there is none
  put_slot : (i : ℕ) → Some i ≡ found (place_of rs a b) (length rs) → Slot rs i a b × (room_refusal k (length rs) (find rs) a b ≡ None)
  put_slot i e =
      let p = found_some (place_of rs a b) (length rs) i e in
      let q = place_room rs a b k tidied p.1 in
      (subst (λ j. Slot rs j a b) (sym p.0) q.0, q.1)

  module _ (v : ℕ) where
    put_refused_by : (o : Option Refusal) → (v ≡ 0 → ⊥) → v ≤ 4294967295 → room_refusal k (length rs) (find rs) a b ≡ o → put_refusal (list_table rs k) a b v ≡ o
    put_refused_by o z m e =
        ap₂ or_else (pair_granted k a b f g d)
        (ap₂ or_else (cond-true (not (eqb v 0) && leb v 4294967295) _ _ (and_from _ _ (ap not (ne_eqb v 0 z)) (le-leb v 4294967295 m)))
        (ap (λ n. room_refusal k (length rs) n a b) (links_find rs k some_routers) ∙ e))

    pub put_tidy : (i : ℕ) → Some i ≡ found (place_of rs a b) (length rs) → Tidy (set rs i (link_of a b v)) k
    put_tidy i e = written_tidy i v (put_slot i e).0

    pub put_granted : (i : ℕ) → Some i ≡ found (place_of rs a b) (length rs) → (v ≡ 0 → ⊥) → v ≤ 4294967295 → Put a b v (list_table rs k) (Ok tt) (list_table (set rs i (link_of a b v)) k)
    put_granted i e z m =
        let p = put_slot i e in
        let go = put_refused_by None z m p.1 in
        record {
          answer = sym (ap (λ o. done (in_table o)) go);
          changed = written i v p.0 _ (Some v) go (cond-false (eqb v 0) _ _ (ne_eqb v 0 z));
        }

    pub put_full : None ≡ found (place_of rs a b) (length rs) → (v ≡ 0 → ⊥) → v ≤ 4294967295 → Put a b v (list_table rs k) (Err (Table Full 0)) (list_table rs k)
    put_full e z m =
        let no = put_refused_by (Some Full) z m (place_full rs a b k tidied (found_none (place_of rs a b) (length rs) e)) in
        record { answer = sym (ap (λ o. done (in_table o)) no); changed = refused _ Full a b (Some v) (list_table rs k) no }

  -- cut, where the pair's number is held and where it is not
  cut_slot : (i : ℕ) → Some i ≡ found (held_at rs a b) (length rs) → Slot rs i a b
  cut_slot i e =
      let p = found_some (held_at rs a b) (length rs) i e in
      subst (λ j. Slot rs j a b) (sym p.0) (held_slot k a b rs p.1 tidied)

  cut_refused_by : (o : Option ℕ) → list_links rs k a b ≡ o → cut_refusal (list_table rs k) a b ≡ kept_refusal (λ x y. o) a b
  cut_refused_by o e = ap₂ or_else (pair_granted k a b f g d) (ap (λ q. kept_refusal (λ x y. q) a b) e)

  pub cut_tidy : (i : ℕ) → Some i ≡ found (held_at rs a b) (length rs) → Tidy (set rs i (link_of a b 0)) k
  cut_tidy i e = written_tidy i 0 (cut_slot i e)

  pub cut_granted : (i : ℕ) → Some i ≡ found (held_at rs a b) (length rs) → Cut a b (list_table rs k) (Ok tt) (list_table (set rs i (link_of a b 0)) k)
  cut_granted i e =
      let go = cut_refused_by (Some (number_at rs i)) (links_held rs k a b some_routers i e) in
      record { answer = sym (ap (λ o. done (in_table o)) go); changed = written i 0 (cut_slot i e) _ None go refl }

  pub cut_not_kept : None ≡ found (held_at rs a b) (length rs) → Cut a b (list_table rs k) (Err (Table NotKept 0)) (list_table rs k)
  cut_not_kept e =
      let no = cut_refused_by None (links_not_held rs k a b some_routers e) in
      record { answer = sym (ap (λ o. done (in_table o)) no); changed = refused _ NotKept a b None (list_table rs k) no }
