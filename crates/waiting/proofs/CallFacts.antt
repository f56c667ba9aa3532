-- What `push` and `pop` leave, from what their steps leave. w is the list at the call, u the one after, and m what is sifted.
use Rattle.std.proofs.Common.{◌≡◌, ℕ, ◌+◌, ◌-◌, ◌<◌, ◌≤◌, Bool, false, List, [], ◌∷◌, ◌++◌, length, get_or, take, drop, set, sym, ap, ◌∙◌, subst, ap₂, arith}
use Rattle.std.specs.List.{swap}
use Rattle.std.specs.List.Sorted.{IsPermutation}
use Rattle.std.proofs.lemmas.List.{length-set, length-take-le, drop-set-lt, take_more_set, take_more, drop-drop, get_or-take}
use Rattle.std.proofs.ByRecursion.{All-from_get_or}
use Rattle.std.proofs.lemmas.List.Edits.{length-swap, swapped_from_swap}
use Rattle.std.proofs.lemmas.List.Sorted.{IsPermutation-trans, IsPermutation-swap, IsPermutation-to_front, IsPermutation-cons}
use Rattle.waiting.specs.Order.{Ordered}
use Rattle.waiting.specs.Heap.{Heaped}
use Rattle.waiting.specs.Waiting.{memory, queued, Stirred, Pushed, Popped}
use Rattle.waiting.specs.declared.list.Waiting.{Waiting}
use Rattle.waiting.specs.declared.ranked.Ranked.{Ghosts}
use Rattle.waiting.proofs.Sifts.{root_least}
use Rattle.waiting.proofs.Stirs.{take_exchanged, drop_exchanged}

module _ {E : Type 0} where
  pub pushed : {ranked : Ghosts E} (w u : Waiting E ranked) (e : E) → w.len < length (memory w) → u.len ≡ w.len + 1
      → Stirred u.len (set (memory w) w.len e) (memory u) → Pushed e w u
  pushed w u e room longer s =
      record {
        room = room;
        len = longer;
        size = s.size ∙ length-set (memory w) w.len e;
        items = subst (λ xs. IsPermutation xs (queued u))
            (ap (λ n. take n (set (memory w) w.len e)) longer ∙ take_more_set (memory w) w.len e room)
            s.items;
        rest = ap (λ n. drop n (memory u)) (sym longer) ∙ (s.rest ∙ (ap (λ n. drop n (set (memory w) w.len e)) longer ∙ drop-set-lt (w.len + 1) (memory w) w.len e (omega arith)));
      }

  -- the first entry, once it changed places with the last
  front_out : (xs ys : List E) (n : ℕ) (e : E) → 0 < n → n ≤ length xs → ys ≡ swap xs 0 (n - 1) → e ≡ get_or xs 0 e → IsPermutation (take n xs) (e ∷ take (n - 1) ys)
  front_out xs ys n e pos fits is first =
      let whole = length-take-le n xs fits in
      let swapped = swapped_from_swap xs ys 0 (n - 1) e (omega arith) (omega arith) is in
      let long : length ys ≡ length xs = ap length is ∙ length-swap xs 0 (n - 1) in
      let split : take n ys ≡ take (n - 1) ys ++ e ∷ [] =
      ap (λ k. take k ys) (omega arith) ∙ (take_more ys (n - 1) e (omega arith) ∙ ap (λ x. take (n - 1) ys ++ x ∷ []) (swapped.1 ∙ sym first)) in
      let exchange = IsPermutation-swap (take n xs) (take n ys) 0 (n - 1) (omega arith) (omega arith) (ap (take n) is ∙ take_exchanged xs n 0 (n - 1) pos (omega arith) fits) in
      IsPermutation-trans _ _ _ (subst (IsPermutation (take n xs)) split exchange) (IsPermutation-to_front (take (n - 1) ys) e)

  pub popped : {before : E → E → Bool} (o : Ordered before) {ranked : Ghosts E} (w u : Waiting E ranked) (m : List E) (e : E)
      → 0 < w.len → m ≡ swap (memory w) 0 (w.len - 1) → u.len ≡ w.len - 1 → e ≡ get_or (memory w) 0 e → Heaped before (memory w) w.len → Stirred u.len m (memory u) → Popped before e w u
  popped {before} o {ranked} w u m e pos after shorter first was s =
      let n = w.len in
      let out = front_out (memory w) m n e pos w.within after first in
      record {
        len = omega (arith, shorter);
        size = s.size ∙ (ap length after ∙ length-swap (memory w) 0 (n - 1));
        items = IsPermutation-trans _ _ _ (subst (λ k. IsPermutation (take n (memory w)) (e ∷ take k m)) (sym shorter) out)
            (IsPermutation-cons e _ _ s.items);
        rest = sym (rest_by (memory u)) ∙ (ap (drop 1) s.rest ∙ (rest_by m ∙ (ap (drop n) after ∙ drop_exchanged (memory w) n 0 (n - 1) pos (omega arith))));
        least = All-from_get_or (λ x. before x e ≡ false) (take n (memory w)) e (λ k kn.
            let inside : k < n = omega (arith, length-take-le n (memory w) w.within) in
            ap₂ before (get_or-take n (memory w) k e inside) first ∙ root_least o (memory w) n was k e inside);
      }
    where
      rest_by : (xs : List E) → drop 1 (drop u.len xs) ≡ drop w.len xs
      rest_by xs = drop-drop 1 u.len xs ∙ ap (λ k. drop k xs) (omega (arith, shorter))
