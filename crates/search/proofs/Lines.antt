-- The routers that are done, in the order in which they were done.
use Rattle.std.proofs.Common.{◌≡◌, ℕ, ◌+◌, ◌<◌, ◌≤◌, Bool, true, false, eqb, ◌≢◌, List, [], ◌∷◌, ◌++◌, length, get_or, Some, Option, sym, refl, ap, ◌∙◌, subst, ⊎_elim, arith}
use Rattle.std.proofs.lemmas.List.{get_or_append_left, length-append}
use Rattle.std.proofs.Math.Seq.{get_or-append_seam}
use Rattle.std.proofs.lemmas.Bool.{both_ways, cases_lt, or_cases, or_left, or_right, eqb-true, eq-eqb}
use Rattle.routes.specs.Network.{Network, Sound}
use Rattle.routes.specs.Settling.{also, Nearest, Settling, relaxed_by}
use Rattle.routes.proofs.Members.{some_inj}
use Rattle.routes.proofs.Relaxing.{done_kept, u_kept}
use Rattle.routes.proofs.Sizes.{size, size_less}

-- The routers of the sequence are the done routers, each once, and none is nearer than one before it.
pub record InLine {C : Type 0} (N : Network C) (done : ℕ → Bool) (f : ℕ → Option C) (order : List ℕ) : Type 0 where
  pub few : length order ≤ size N.count done
  pub marked : (i : ℕ) → i < length order → done (get_or order i 0) ≡ true
  pub placed : (d : ℕ) → done d ≡ true → (i : ℕ) × (i < length order) × (get_or order i 0 ≡ d)
  pub once : (i j : ℕ) → i < j → j < length order → get_or order i 0 ≢ get_or order j 0
  pub rising : (i j : ℕ) → i < j → j < length order → (a b : C) → f (get_or order i 0) ≡ Some a → f (get_or order j 0) ≡ Some b → N.rule.lower b a ≡ false

-- one router more is done, and more of the routers are
pub size_more : (n : ℕ) (done done' : ℕ → Bool) (u : ℕ) → ((x : ℕ) → done' x ≡ also done u x) → u < n → done u ≡ false → size n done < size n done'
size_more n done done' u h l waits =
    size_less n done done' (λ x _ t. h x ∙ or_left (done x) (eqb x u) t) u l waits (h u ∙ or_right (done u) (eqb u u) (eq-eqb u u refl))

module _ {C : Type 0} (N : Network C) (sound : Sound N) (root : ℕ) (done : ℕ → Bool) (f : ℕ → Option C) (u : ℕ) (c : C)
    (s : Settling N root done f) (n : Nearest N done f u c) (inside : u < N.count)
    (done' : ℕ → Bool) (f' : ℕ → Option C) (is-done : (x : ℕ) → done' x ≡ also done u x) (is-cost : (x : ℕ) → f' x ≡ relaxed_by N f u c x)
    (order : List ℕ) (l : InLine N done f order) where
  abbrev order' : List ℕ
  order' = order ++ u ∷ []

  abbrev many : ℕ
  many = length order

  longer : length order' ≡ many + 1
  longer = length-append order (u ∷ [])

  before : (i : ℕ) → i < many → get_or order' i 0 ≡ get_or order i 0
  before i h = get_or_append_left order (u ∷ []) 0 i h

  last : (i : ℕ) → i < length order' → many ≤ i → get_or order' i 0 ≡ u
  last i h k = let e : i ≡ many = omega (arith, longer) in ap (λ j. get_or order' j 0) e ∙ get_or-append_seam order u [] 0

  -- a router that was done has the cost that it had
  kept : (x : ℕ) (a : C) → done x ≡ true → f' x ≡ Some a → f x ≡ Some a
  kept x a d e =
      let q = s.known x d in
      q.1 ∙ sym (done_kept N sound root done f u c s n x q.0 d q.1) ∙ sym (is-cost x) ∙ e

  pub line_more : InLine N done' f' order'
  line_more =
      record {
        few = omega (arith, longer, l.few, size_more N.count done done' u is-done inside n.waits);
        marked = λ i h. is-done (get_or order' i 0) ∙ ⊎_elim
            (λ (k : i < many). or_left (done (get_or order' i 0)) (eqb (get_or order' i 0) u) (ap done (before i k) ∙ l.marked i k))
            (λ k. or_right (done (get_or order' i 0)) (eqb (get_or order' i 0) u) (eq-eqb (get_or order' i 0) u (last i h k)))
            (cases_lt i many);
        placed = λ d t. ⊎_elim
            (λ o. let q = l.placed d o in (q.0, omega (arith, longer, q.1), before q.0 q.1 ∙ q.2))
            (λ o. (many, omega (arith, longer), last many (omega (arith, longer)) (omega arith) ∙ sym (eqb-true d u o)))
            (or_cases (done d) (eqb d u) (sym (is-done d) ∙ t));
        once = λ i j h k e. ⊎_elim
            (λ (m : j < many). l.once i j h m (sym (before i (omega arith)) ∙ e ∙ before j m))
            (λ m. let b : i < many = omega (arith, longer) in both_ways (done u) n.waits (ap done (sym (last j k m) ∙ sym e ∙ before i b) ∙ l.marked i b))
            (cases_lt j many);
        rising = λ i j h k a b ea eb.
            let m : i < many = omega (arith, longer) in
            let old = kept (get_or order i 0) a (l.marked i m) (ap f' (sym (before i m)) ∙ ea) in
            ⊎_elim
            (λ (p : j < many). l.rising i j h p a b old (kept (get_or order j 0) b (l.marked j p) (ap f' (sym (before j p)) ∙ eb)))
            (λ p.
            let same = some_inj c b (sym (u_kept N sound root done f u c s n) ∙ sym (is-cost u) ∙ ap f' (sym (last j k p)) ∙ eb) in
            subst (λ z. N.rule.lower z a ≡ false) same (s.nearer (get_or order i 0) u a c (l.marked i m) n.waits old n.costs))
            (cases_lt j many);
      }
