-- A list as it is made: empty where it has routers, and else as it was.
use Rattle.std.proofs.Common.{◌≡◌, ℕ, zero, suc, Bool, true, false, cond, eqb, List, length, replicate, None, sym, refl, ap, ◌∙◌, ⊎_elim}
use mathlib.Core.Path.{fun_ext}
use Rattle.records.specs.Lists.{find, emptied, list_refusal, list_count, list_links, list_table, list_empty, no_record, tidy, Tidy}
use Rattle.records.specs.declared.record.Record.{Record}
use Rattle.std.proofs.lemmas.List.{length-replicate}
use Rattle.std.proofs.lemmas.Bool.{cond_both, or_left, or_right, cases_Bool, cond-false}
use Rattle.tables.specs.Links.{no_links}
use Rattle.tables.proofs.Makings.{made_again}

-- free records hold nothing
free_find : (n a b : ℕ) → find (replicate n no_record) a b ≡ None
free_find zero a b = refl
free_find (suc n) a b = free_find n a b

free_tidy : (k n : ℕ) → tidy k (replicate n no_record) ≡ true
free_tidy k zero = refl
free_tidy k (suc n) = free_tidy k n

module _ (rs : List Record) (c n : ℕ) (e : n ≡ list_count (length rs) c) where
  length_emptied : length (emptied rs n) ≡ length rs
  length_emptied =
      cond_both (eqb n 0) rs (replicate (length rs) no_record) (λ xs. length xs ≡ length rs) (λ h. refl) (λ h. length-replicate (length rs) no_record)

  pub made_tidy : Tidy (emptied rs n) n
  made_tidy = (
    ap (λ k. list_count k n) length_emptied ∙ ap (list_count (length rs)) e ∙ made_again (list_refusal (length rs)) c ∙ sym e,
    ⊎_elim
        (λ (h : eqb n 0 ≡ true). or_left (eqb n 0) _ h)
        (λ (h : eqb n 0 ≡ false). or_right (eqb n 0) _ (ap (tidy n) (cond-false (eqb n 0) rs _ h) ∙ free_tidy n (length rs)))
        (cases_Bool (eqb n 0)),
  )

  emptied_links : list_links (emptied rs n) n ≡ no_links
  emptied_links = fun_ext λ a. fun_ext λ b. go a b (eqb n 0)
    where
      go : (a b : ℕ) (t : Bool) → cond t None (find (cond t rs (replicate (length rs) no_record)) a b) ≡ None
      go a b true = refl
      go a b false = free_find (length rs) a b

  pub made_table : list_table (emptied rs n) n ≡ list_empty (length rs) (list_count (length rs) c)
  made_table i =
      record { kept = emptied_links i; shown = emptied_links i; count = e i; greatest = 4294967295; limit = length_emptied i; plain = true }
