-- Packets by valid hops arrive, and so do walks.
use Rattle.std.proofs.Common.{◌≡◌, ℕ, zero, suc, ◌%◌, ◌<◌, ◌≤◌, Bool, true, false, cond, eqb, ltb, ◌≢◌, List, [], ◌∷◌, length, get_or, Some, sym, refl, ap, ◌∙◌, subst, ⊎_elim, mod-lt, arith}
use mathlib.Core.List.Memᴰ
use mathlib.Core.List.{Memᴰ}
use Rattle.std.proofs.lemmas.Bool.{cases_eq, and_parts, and_from, lt-ltb, eqb-true, eqb-false}
use Rattle.masks.specs.Sets.{members}
use Rattle.routes.specs.Lists.{when_some}
use Rattle.routes.specs.Network.{Network, Sound}
use Rattle.routes.specs.Routes.{best}
use Rattle.routes.specs.Tree.{Fathers, Chooses}
use Rattle.routes.specs.Transverse.{valid, valid_set}
use Rattle.routes.specs.Walk.{Arrives, there, step, picked, walk, last_of}
use Rattle.masks.proofs.MaskLaws.{mask_holds, members_held, held_members}
use Rattle.routes.proofs.Branches.{branched}
use Rattle.routes.proofs.Transverses.{hop_below}
use Rattle.routes.proofs.Valid.{near, valid_near, valid_nearer, tree_valid}

pub getD_in : (xs : List ℕ) (i : ℕ) → i < length xs → Memᴰ (get_or xs i 0) xs
getD_in [] i h = absurd (omega arith)
getD_in (x ∷ xs) zero h = Memᴰ.head refl
getD_in (x ∷ xs) (suc i) h = Memᴰ.tail (getD_in xs i (omega arith))

picked_in : (k : ℕ) (xs : List ℕ) (x : ℕ) → Memᴰ x xs → (y : ℕ) × (picked k xs ≡ Some y) × Memᴰ y xs
unfolding picked
picked_in k [] x m = absurd (Memᴰ.not-nil m)
picked_in k (z ∷ zs) x m = (get_or (z ∷ zs) (k % length (z ∷ zs)) 0, refl, getD_in (z ∷ zs) (k % length (z ∷ zs)) (mod-lt k (omega arith)))

module _ {Cost : Type 0} (N : Network Cost) (sound : Sound N) (father : Fathers) (chooses : Chooses N father) (d : ℕ) where
  -- short of d some valid hop is there
  next_valid : (x : ℕ) (b : Cost) → best N x d ≡ Some b → x ≢ d → (v : ℕ) × (v < N.count) × (valid N father x v d ≡ true)
  next_valid x b e ne =
      let u = branched N sound father chooses x d b e (λ s. ne (sym s)) in
      (u.head, hop_below N sound father chooses x u.head u.head u.hop_head, tree_valid N sound father chooses x d u.head u.hop_here)

  -- Whichever valid hop is picked each time, d is reached.
  pub arrives : (k x : ℕ) (b : Cost) → best N x d ≡ Some b → near N sound d x ≤ k → Arrives N father d k x
  arrives zero x b e h =
      ⊎_elim (λ (s : x ≡ d). subst (Arrives N father d 0) (sym s) there)
      (λ ne. let v = next_valid x b e ne in absurd (omega (arith, valid_near N sound father chooses x v.0 d v.2))) (cases_eq x d)
  arrives (suc k) x b e h =
      ⊎_elim (λ (s : x ≡ d). subst (Arrives N father d (suc k)) (sym s) there)
      (λ ne. let v = next_valid x b e ne in
      step (v.0, v.2) (λ u ok. let q = valid_nearer N sound father chooses x u d ok in arrives k u q.0 q.2 (omega (arith, valid_near N sound father chooses x u d ok))))
      (cases_eq x d)

  -- the valid hops at x for d, and the one that a pick picks
  abbrev hops_at : ℕ → List ℕ
  hops_at x = members (valid_set N father x d) N.count

  pick_valid : (k x : ℕ) (b : Cost) → best N x d ≡ Some b → x ≢ d → (v : ℕ) × (picked k (hops_at x) ≡ Some v) × (valid N father x v d ≡ true)
  unfolding valid_set
  pick_valid k x b e ne =
      let v = next_valid x b e ne in
      let q = picked_in k (hops_at x) v.0 (held_members (valid_set N father x d) N.count v.0 v.1
      (mask_holds N.count (λ u. valid N father x u d) v.0 ∙ and_from (ltb v.0 N.count) (valid N father x v.0 d) (lt-ltb v.0 N.count v.1) v.2)) in
      let ok = sym (mask_holds N.count (λ u. valid N father x u d) q.0) ∙ members_held (valid_set N father x d) N.count q.0 q.2 in
      (q.0, q.1, (and_parts (ltb q.0 N.count) (valid N father x q.0 d) ok).1)

  abbrev Ends : List ℕ → ℕ → Type 0
  Ends ks x = ((a : ℕ) → last_of a (walk N father d ks x) ≡ d) × (length (walk N father d ks x) ≤ suc (near N sound d x))

  pub walks : (ks : List ℕ) (x : ℕ) (b : Cost) → best N x d ≡ Some b → near N sound d x ≤ length ks → Ends ks x
  unfolding walk
  walks [] x b e h =
      ⊎_elim (λ (s : x ≡ d). (λ a. s, omega arith))
      (λ ne. let v = next_valid x b e ne in absurd (omega (arith, valid_near N sound father chooses x v.0 d v.2))) (cases_eq x d)
  walks (k ∷ ks) x b e h = by (walks ks) (eqb x d) refl
    where
      met : Bool → List ℕ
      met t = cond t (x ∷ []) (x ∷ when_some (picked k (hops_at x)) [] (λ v. walk N father d ks v))

      by : ((y : ℕ) (c : Cost) → best N y d ≡ Some c → near N sound d y ≤ length ks → Ends ks y) → (t : Bool) → eqb x d ≡ t →
          ((a : ℕ) → last_of a (met t) ≡ d) × (length (met t) ≤ suc (near N sound d x))
      by more true t = (λ a. eqb-true x d t, omega arith)
      by more false t =
          let p = pick_valid k x b e (eqb-false x d t) in
          let q = valid_nearer N sound father chooses x p.0 d p.2 in
          let less = valid_near N sound father chooses x p.0 d p.2 in
          let r = more p.0 q.0 q.2 (omega arith) in (
            λ a. ap (λ o. last_of x (when_some o [] (λ v. walk N father d ks v))) p.1 ∙ r.0 x,
            omega (arith, ap (λ o. length (when_some o [] (λ v. walk N father d ks v))) p.1, r.1),
          )
