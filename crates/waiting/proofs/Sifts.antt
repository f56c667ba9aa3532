-- One step of an entry up or down a heap.
use Rattle.std.proofs.Common.{◌≡◌, ℕ, zero, suc, ◌+◌, ◌-◌, ◌*◌, ◌/◌, ◌<◌, ◌≤◌, Bool, true, false, List, length, get_or, sym, refl, ap, ◌∙◌, subst, ap₂, ⊎_elim, arith}
use Rattle.std.proofs.lemmas.Bool.{false_from_ne_true, cases_Bool, cases_eq, both_ways}
use Rattle.std.proofs.lemmas.List.Edits.{Swapped}
use Rattle.waiting.specs.Order.{Ordered}
use Rattle.waiting.specs.Heap.{Heaped, Light, Heavy, LeastChild}

module _ {E : Type 0} {before : E → E → Bool} (o : Ordered before) where
  pub asym : (a b : E) → before a b ≡ true → before b a ≡ false
  asym a b h = false_from_ne_true (before b a) (λ (k : before b a ≡ true). both_ways (before a a) (o.irrefl a) (o.trans a b a h k))

  -- "not before" is transitive
  pub not_trans : (a b c : E) → before a b ≡ false → before b c ≡ false → before a c ≡ false
  not_trans a b c h k =
      false_from_ne_true (before a c) (λ ac. ⊎_elim
      (λ (ba : before b a ≡ true). both_ways (before b c) k (o.trans b a c ba ac))
      (λ (ba : before b a ≡ false). both_ways (before b c) k (subst (λ x. before x c ≡ true) (o.same a b h ba) ac))
      (cases_Bool (before b a)))

  -- what is not before c is not before what comes before c
  pub not_below : (a b c : E) → before a c ≡ false → before b c ≡ true → before a b ≡ false
  not_below a b c h k = false_from_ne_true (before a b) (λ ab. both_ways (before a c) h (o.trans a b c ab k))

  -- a test between two places whose entries are those of two others
  moved : {a b c d : E} → a ≡ c → b ≡ d → before c d ≡ false → before a b ≡ false
  moved p q h = ap₂ before p q ∙ h

  -- the parent of k under another name
  at_parent : (xs : List E) (k p : ℕ) (d : E) → (k - 1) / 2 ≡ p → before (get_or xs k d) (get_or xs ((k - 1) / 2) d) ≡ false → before (get_or xs k d) (get_or xs p d) ≡ false
  at_parent xs k p d e h = subst (λ x. before (get_or xs k d) (get_or xs x d) ≡ false) e h

  -- one step up: the entry at `at` changes places with its parent, before which it comes
  pub light_step : (xs ys : List E) (n at : ℕ) → 0 < at → at < n
      → ((d : E) → before (get_or xs at d) (get_or xs ((at - 1) / 2) d) ≡ true)
      → ((d : E) → Swapped (λ i. get_or xs i d) (λ i. get_or ys i d) ((at - 1) / 2) at)
      → Light before xs n at → Light before ys n ((at - 1) / 2)
  light_step xs ys n at pos within lower swapped l = record {
    others = λ k kpos kn kp d. let s = swapped d in ⊎_elim
        (λ (e : k ≡ at). subst (λ x. before (get_or ys x d) (get_or ys ((x - 1) / 2) d) ≡ false) (sym e) (moved s.1 s.0 (asym _ _ (lower d))))
        (λ (ne : k ≡ at → ⊥). ⊎_elim
        (λ (e : (k - 1) / 2 ≡ at). moved (s.2 k kp ne) (ap (λ x. get_or ys x d) e ∙ s.1) (l.bridged k kpos kn e pos d))
        (λ (na : (k - 1) / 2 ≡ at → ⊥). ⊎_elim
        (λ (e : (k - 1) / 2 ≡ (at - 1) / 2). moved (s.2 k kp ne) (ap (λ x. get_or ys x d) e ∙ s.0) (not_below _ _ _ (at_parent xs k ((at - 1) / 2) d e (l.others k kpos kn ne d)) (lower d)))
        (λ (np : (k - 1) / 2 ≡ (at - 1) / 2 → ⊥). moved (s.2 k kp ne) (s.2 ((k - 1) / 2) np na) (l.others k kpos kn ne d))
        (cases_eq ((k - 1) / 2) ((at - 1) / 2)))
        (cases_eq ((k - 1) / 2) at))
        (cases_eq k at);
    bridged = λ k kpos kn kp ppos d.
        let s = swapped d in
        let pp = ((at - 1) / 2 - 1) / 2 in
        let gpp = s.2 pp (omega arith) (omega arith) in
        let up = l.others ((at - 1) / 2) ppos (omega arith) (omega arith) d in
        ⊎_elim
        (λ (e : k ≡ at). moved (ap (λ x. get_or ys x d) e ∙ s.1) gpp up)
        (λ (ne : k ≡ at → ⊥). moved (s.2 k (omega arith) ne) gpp (not_trans _ _ _ (at_parent xs k ((at - 1) / 2) d kp (l.others k kpos kn ne d)) up))
        (cases_eq k at);
  }

  -- the way up ends at the top, or where the entry does not come before its parent
  pub light_end : (xs : List E) (n at : ℕ) → (0 < at → (d : E) → before (get_or xs at d) (get_or xs ((at - 1) / 2) d) ≡ false) → Light before xs n at → Heaped before xs n
  light_end xs n at ends l k kpos kn d = ⊎_elim
      (λ (e : k ≡ at). subst (λ x. before (get_or xs x d) (get_or xs ((x - 1) / 2) d) ≡ false) (sym e) (ends (omega arith) d))
      (λ (ne : k ≡ at → ⊥). l.others k kpos kn ne d)
      (cases_eq k at)

  -- the right child, where it comes before the left one
  pub right_least : (xs : List E) (n at : ℕ) → 2 * at + 1 + 1 < n → ((d : E) → before (get_or xs (2 * at + 1 + 1) d) (get_or xs (2 * at + 1) d) ≡ true) → LeastChild before xs n at (2 * at + 1 + 1)
  right_least xs n at within lower = record {
    above = omega arith;
    within = within;
    child = omega arith;
    least = λ k kpos kn e d. ⊎_elim
        (λ (r : k ≡ 2 * at + 1 + 1). moved (ap (λ x. get_or xs x d) r) refl (o.irrefl _))
        (λ (nr : k ≡ 2 * at + 1 + 1 → ⊥). moved (ap (λ x. get_or xs x d) (omega arith)) refl (asym _ _ (lower d)))
        (cases_eq k (2 * at + 1 + 1));
  }

  -- one step down: the entry at `at` changes places with its least child, which comes before it
  pub heavy_step : (xs ys : List E) (n at c : ℕ) → n ≤ length xs → LeastChild before xs n at c
      → ((d : E) → before (get_or xs c d) (get_or xs at d) ≡ true)
      → ((d : E) → Swapped (λ i. get_or xs i d) (λ i. get_or ys i d) at c)
      → Heavy before xs n at → Heavy before ys n c
  heavy_step xs ys n at c within m lower swapped h =
      let cp = m.above in
      let cc = m.child in
      record {
        others = λ k kpos kn kc d. let s = swapped d in ⊎_elim
            (λ (e : (k - 1) / 2 ≡ at). ⊎_elim
            (λ (ec : k ≡ c). moved (ap (λ x. get_or ys x d) ec ∙ s.1) (ap (λ x. get_or ys x d) e ∙ s.0) (asym _ _ (lower d)))
            (λ (nc : k ≡ c → ⊥). moved (s.2 k (omega arith) nc) (ap (λ x. get_or ys x d) e ∙ s.0) (m.least k kpos kn e d))
            (cases_eq k c))
            (λ (ne : (k - 1) / 2 ≡ at → ⊥).
            let up = s.2 ((k - 1) / 2) ne kc in
            ⊎_elim
            (λ (ea : k ≡ at). moved (ap (λ x. get_or ys x d) ea ∙ s.0) (up ∙ ap (λ x. get_or xs ((x - 1) / 2) d) ea) (h.bridged c cp m.within cc (omega arith) d))
            (λ (na : k ≡ at → ⊥). moved (s.2 k na (λ ec. ne (ap (λ x. (x - 1) / 2) ec ∙ cc))) up (h.others k kpos kn ne d))
            (cases_eq k at))
            (cases_eq ((k - 1) / 2) at);
        bridged = λ k kpos kn kc ppos d.
            let s = swapped d in
            moved (s.2 k (omega arith) (omega arith)) (ap (λ x. get_or ys x d) cc ∙ s.0) (at_parent xs k c d kc (h.others k kpos kn (omega arith) d));
      }

  -- the way down ends where the least child does not come before its parent
  pub heavy_end : (xs : List E) (n at c : ℕ) → LeastChild before xs n at c
      → ((d : E) → before (get_or xs c d) (get_or xs at d) ≡ false) → Heavy before xs n at → Heaped before xs n
  heavy_end xs n at c m ends h k kpos kn d = ⊎_elim
      (λ (e : (k - 1) / 2 ≡ at). moved refl (ap (λ x. get_or xs x d) e) (not_trans _ _ _ (m.least k kpos kn e d) (ends d)))
      (λ (ne : (k - 1) / 2 ≡ at → ⊥). h.others k kpos kn ne d)
      (cases_eq ((k - 1) / 2) at)

  -- none comes before the first entry of a heap; m bounds k
  below_root : (xs : List E) (n : ℕ) → Heaped before xs n → (d : E) (m k : ℕ) → k ≤ m → k < n → before (get_or xs k d) (get_or xs 0 d) ≡ false
  below_root xs n h d zero k km kn = moved (ap (λ x. get_or xs x d) (omega arith)) refl (o.irrefl (get_or xs 0 d))
  below_root xs n h d (suc m) k km kn = ⊎_elim
      (λ (e : k ≡ 0). moved (ap (λ x. get_or xs x d) e) refl (o.irrefl (get_or xs 0 d)))
      (λ (ne : k ≡ 0 → ⊥). not_trans _ _ _ (h k (omega arith) kn d) (below_root xs n h d m ((k - 1) / 2) (omega arith) (omega arith)))
      (cases_eq k 0)

  pub root_least : (xs : List E) (n : ℕ) → Heaped before xs n → (k : ℕ) (d : E) → k < n → before (get_or xs k d) (get_or xs 0 d) ≡ false
  root_least xs n h k d kn = below_root xs n h d k k (omega arith) kn
