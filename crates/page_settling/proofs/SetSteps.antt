-- Sets of routers that grow by one router at a time.
use Rattle.std.proofs.Common.{◌≡◌, ℕ, ◌+◌, ◌<◌, ◌≤◌, Bool, true, false, ◌&&◌, ltb, List, map, get_or, sym, ap, ◌∙◌, ⊎_elim, arith}
use Rattle.std.proofs.lemmas.List.FromFn.{length-map-range_with_len, get_or-map-range_with_len, fill_by_all}
use Rattle.std.proofs.lemmas.Bool.{cases_Bool, cases_lt, and_from, and_left, and_right, cond-true, cond-false, lt-ltb, le-ltb}
use Rattle.std.specs.List.{range_with_len}
use Rattle.masks.specs.Sets.{holds, including, mask}
use Rattle.masks.proofs.MaskLaws.{mask_with, mask_without}
use Rattle.page_settling.specs.Hops.{sets_below, set_with}

-- A router joins the sets of those that are chosen: one more router is in the sets.
module _ (count chosen v : ℕ) (p : ℕ → ℕ → Bool) (few : count ≤ 32) (small : v < 32)
    (here : (d : ℕ) → d < count → holds chosen d ≡ p v d) (past : (d : ℕ) → count ≤ d → p v d ≡ false) (sets : List ℕ) (are : sets ≡ sets_below v p) where
  at_set : (d : ℕ) → d < 32 → get_or sets d 0 ≡ mask v (λ x. p x d)
  at_set d l = ap (λ t. get_or t d 0) are ∙ get_or-map-range_with_len (λ d. mask v (λ x. p x d)) 0 32 d d 0 l (omega arith)

  one_set : (d : ℕ) → d < 32 → set_with count chosen v sets d ≡ mask (v + 1) (λ x. p x d)
  one_set d l =
      ⊎_elim
      (λ (k : d < count). ⊎_elim
      (λ (t : holds chosen d ≡ true). cond-true (ltb d count && holds chosen d) _ _ (and_from _ _ (lt-ltb d count k) t)
      ∙ ap (λ m. including m v) (at_set d l) ∙ mask_with v (λ x. p x d) small (sym (here d k) ∙ t))
      (λ t. cond-false (ltb d count && holds chosen d) _ _ (and_right _ _ t) ∙ at_set d l ∙ mask_without v (λ x. p x d) (sym (here d k) ∙ t))
      (cases_Bool (holds chosen d)))
      (λ k. cond-false (ltb d count && holds chosen d) _ _ (and_left _ _ (le-ltb d count k)) ∙ at_set d l ∙ mask_without v (λ x. p x d) (past d k))
      (cases_lt d count)

  pub sets_more : map (set_with count chosen v sets) (range_with_len 0 32) ≡ sets_below (v + 1) p
  sets_more =
      fill_by_all (λ d. mask (v + 1) (λ x. p x d)) (map (set_with count chosen v sets) (range_with_len 0 32)) 32 0 (length-map-range_with_len (set_with count chosen v sets) 0 32)
      (λ d l. get_or-map-range_with_len (set_with count chosen v sets) 0 32 d d 0 l (omega arith) ∙ one_set d l)
