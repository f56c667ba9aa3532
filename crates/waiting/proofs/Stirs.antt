-- Exchanges among the entries that wait keep the entries, and the rest of the memory.
use Rattle.std.proofs.Common.{◌≡◌, ℕ, ◌<◌, ◌≤◌, List, [], ◌∷◌, length, get_or, take, drop, set, sym, refl, ap, ◌∙◌, arith}
use lib.Seq.{take-set-lt}
use Rattle.std.specs.List.{swap}
use Rattle.std.proofs.lemmas.List.{length-take-le, get_or-take, drop-set-lt}
use Rattle.std.proofs.lemmas.List.Edits.{swap_is, length-swap}
use Rattle.std.proofs.lemmas.List.Sorted.{IsPermutation-trans, IsPermutation-swap}
use Rattle.waiting.specs.Waiting.{Stirred}

module _ {E : Type 0} where
  -- with an element for a default
  take_exchanged_by : (d : E) (xs : List E) (n i j : ℕ) → i < n → j < n → n ≤ length xs → take n (swap xs i j) ≡ swap (take n xs) i j
  take_exchanged_by d xs n i j hi hj hn =
      let len = length-take-le n xs hn in
      let before = swap_is xs i j d (omega arith) (omega arith) in
      let after = swap_is (take n xs) i j d (omega arith) (omega arith) in
      ap (take n) (sym before)
      ∙ (take-set-lt n (set xs i (get_or xs j d)) j (get_or xs i d) hj
      ∙ (ap (λ l. set l j (get_or xs i d)) (take-set-lt n xs i (get_or xs j d) hi)
      ∙ (ap (λ x. set (set (take n xs) i x) j (get_or xs i d)) (sym (get_or-take n xs j d hj))
      ∙ (ap (λ x. set (set (take n xs) i (get_or (take n xs) j d)) j x) (sym (get_or-take n xs i d hi)) ∙ after))))

  pub take_exchanged : (xs : List E) (n i j : ℕ) → i < n → j < n → n ≤ length xs → take n (swap xs i j) ≡ swap (take n xs) i j
  take_exchanged [] n i j hi hj hn = absurd (omega arith)
  take_exchanged (d ∷ xs) n i j hi hj hn = take_exchanged_by d (d ∷ xs) n i j hi hj hn

  pub drop_exchanged : (xs : List E) (n i j : ℕ) → i < n → j < n → drop n (swap xs i j) ≡ drop n xs
  drop_exchanged [] n i j hi hj = refl
  drop_exchanged (d ∷ xs) n i j hi hj =
      drop-set-lt n (set (d ∷ xs) i (get_or (d ∷ xs) j d)) j (get_or (d ∷ xs) i d) hj ∙ drop-set-lt n (d ∷ xs) i (get_or (d ∷ xs) j d) hi

  -- one exchange more
  pub stirred_swap : (n : ℕ) (xs ys zs : List E) (i j : ℕ) → n ≤ length xs → Stirred n xs ys → zs ≡ swap ys i j → i < n → j < n → Stirred n xs zs
  stirred_swap n xs ys zs i j within s after hi hj =
      let fits : n ≤ length ys = omega (arith, s.size) in
      let l = length-take-le n ys fits in
      record {
        size = ap length after ∙ (length-swap ys i j ∙ s.size);
        items = IsPermutation-trans _ _ _ s.items (IsPermutation-swap (take n ys) (take n zs) i j (omega arith) (omega arith) (ap (take n) after ∙ take_exchanged ys n i j hi hj fits));
        rest = ap (drop n) after ∙ (drop_exchanged ys n i j hi hj ∙ s.rest);
      }
