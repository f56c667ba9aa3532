-- The costs of the tree paths from one neighbour down to each router.
use Rattle.std.proofs.Common.{◌≡◌, ℕ, ◌+◌, ◌%◌, ◌^◌, ◌<◌, ◌≤◌, true, false, cond, eqb, ◌≢◌, ◌⊎◌, List, length, get_or, is_some, Some, None, Option, sym, refl, ap, ◌∙◌, subst, inl, inr, ⊎_elim, arith}
use native.Mathlib.Nat.{zero-div}
use Rattle.std.proofs.lemmas.Bool.{cases_eq, cases_lt, cond-true, cond-false, eq-eqb, ne_eqb}
use Rattle.costs.specs.Costs.{Costs}
use Rattle.masks.specs.Sets.{holds}
use Rattle.routes.specs.Leasts.{lesser, joined}
use Rattle.routes.specs.Network.{Network, Sound}
use Rattle.routes.specs.Routes.{best}
use Rattle.routes.specs.Transverse.{Transverse, itself, begin, top, down}
use Rattle.routes.specs.Tree.{Fathers, lowest_father, fall, Falls, at, on}
use Rattle.routes.proofs.Branches.{fall_falls, falls_fall}
use Rattle.routes.proofs.Fathers.{lowest_chooses, neighbour, joined_some}
use Rattle.routes.proofs.Members.{none_some, some_inj, cases_option, present_some}
use Rattle.squares.specs.Found.{NearestFirst}
use Rattle.squares.specs.Known.{costs_in, with_offer, Short}
use Rattle.settling.specs.Rows.{by_father, own_cost}
use Rattle.settling.proofs.Orders.{after_father, same_place}
use Rattle.settling.proofs.Rows.{transverse_short}

-- the empty mask has no router
pub holds_none : (d : ℕ) → holds 0 d ≡ false
holds_none d = ap (λ m. eqb (m % 2) 1) (zero-div (2 ^ d))

-- the empty mask has no costs
pub nothing_in : {C : Type 0} (rule : Costs C) (row : List C) (d : ℕ) → costs_in rule row 0 d ≡ None
nothing_in rule row d = ap (λ t. cond t (Some (get_or row d rule.zero)) None) (holds_none d)

-- The first i routers of the sequence have their costs, and the others none.
pub record Fallen {C : Type 0} (N : Network C) (root v : ℕ) (order : List ℕ) (f : ℕ → Option C) (i : ℕ) : Type 0 where
  pub at_place : (j : ℕ) → j < i → f (get_or order j 0) ≡ fall N (lowest_father N) root v (get_or order j 0)
  pub waits : (d : ℕ) → ((j : ℕ) → j < i → get_or order j 0 ≢ d) → f d ≡ None
  pub none : (d : ℕ) → d < N.count → lowest_father N root d ≡ None → d ≢ v → f d ≡ fall N (lowest_father N) root v d

module _ {C : Type 0} (N : Network C) (sound : Sound N) (root v : ℕ) (linked : is_some (N.link root v) ≡ true) where
  abbrev F : Fathers
  F = lowest_father N

  abbrev Last : ℕ → C → Type 0
  Last x c = (v ≡ x) ⊎ ((p : ℕ) × (b : C) × Falls N F root v p b × (F root x ≡ Some p))

  last : {x : ℕ} {c : C} → Falls N F root v x c → Last x c
  last at = inl refl
  last (on {p = p} {c = b} r e l) = inr (p, b, r, e)

  across : {x : ℕ} {c : C} → Falls N F root v x c → Transverse N F root v x c
  across at = top (begin (itself (present_some (N.link root v) linked).1))
  across (on r e l) = down (across r) e l

  pub fall_short : (d : ℕ) (c : C) → fall N F root v d ≡ Some c → Short N.rule c
  fall_short d c e = transverse_short N sound root v d c (across (fall_falls N sound F (lowest_chooses N sound) root v d c e))

  absent : (d : ℕ) → ((c : C) → Falls N F root v d c → ⊥) → fall N F root v d ≡ None
  absent d h = ⊎_elim (λ e. e) (λ q. absurd (h q.0 (fall_falls N sound F (lowest_chooses N sound) root v d q.0 q.1))) (cases_option (fall N F root v d))

  fall_own : (d : ℕ) → d < N.count → fall N F root v d ≡ own_cost N v (F root d) (fall N F root v) d
  fall_own d l =
      ⊎_elim
      (λ (e : v ≡ d). falls_fall N sound F (lowest_chooses N sound) root l (subst (λ z. Falls N F root v z N.rule.zero) e at)
      ∙ sym (cond-true (eqb v d) (Some N.rule.zero) (by_father N (F root d) (fall N F root v) d) (eq-eqb v d e)))
      (λ ne. by ne (F root d) refl ∙ sym (cond-false (eqb v d) (Some N.rule.zero) (by_father N (F root d) (fall N F root v) d) (ne_eqb v d ne)))
      (cases_eq v d)
    where
      by : (v ≡ d → ⊥) → (o : Option ℕ) → F root d ≡ o → fall N F root v d ≡ by_father N o (fall N F root v) d
      by ne None e = absent d (λ c r. ⊎_elim ne (λ q. none_some q.0 (sym e ∙ q.3)) (last r))
      by ne (Some p) e =
          let q = (lowest_chooses N sound).possible root d p e in
          ⊎_elim
          (λ n. absent d (λ c r. ⊎_elim ne (λ t.
          let same = some_inj t.0 p (sym t.3 ∙ e) in
          none_some t.1 (sym n ∙ falls_fall N sound F (lowest_chooses N sound) root (sound.from p d q.1 q.3) (subst (λ z. Falls N F root v z t.1) same t.2))) (last r))
          ∙ sym (ap (λ o. joined N.rule o (N.link p d)) n ∙ unfold joined in refl))
          (λ t. falls_fall N sound F (lowest_chooses N sound) root l (on (fall_falls N sound F (lowest_chooses N sound) root v p t.0 t.1) e q.3)
          ∙ sym (joined_some N.rule (fall N F root v p) (N.link p d) t.0 q.1 t.1 q.3))
          (cases_option (fall N F root v p))

  lesser_first : (o : Option C) → lesser N.rule None o ≡ o
  unfolding lesser
  lesser_first o = refl

  pub fallen_first : (order : List ℕ) (f : ℕ → Option C) → ((d : ℕ) → f d ≡ None) → Fallen N root v order f 0
  fallen_first order f h =
      record {
        at_place = λ j l. absurd (omega arith);
        waits = λ d _. h d;
        none = λ d l e ne. h d ∙ sym (fall_own d l ∙ cond-false (eqb v d) (Some N.rule.zero) (by_father N (F root d) (fall N F root v) d) (ne_eqb v d (λ q. ne (sym q)))
            ∙ ap (λ o. by_father N o (fall N F root v) d) e);
      }

  module _ {order : List ℕ} (line : NearestFirst N root order) {f : ℕ → Option C} {i : ℕ} (done : Fallen N root v order f i) where
    pub father_fallen : i < length order → (p : ℕ) → F root (get_or order i 0) ≡ Some p → f p ≡ fall N F root v p
    father_fallen l p e =
        let b = after_father N sound root order line (get_or order i 0) p e in
        ap f (sym b.4) ∙ done.at_place b.0 (omega (arith, b.2, same_place N sound root order line b.1 i b.3 l b.5)) ∙ ap (fall N F root v) b.4

    module _ {f' : ℕ → Option C} (l : i < length order) (s : (x : ℕ) → f' x ≡ with_offer N.rule f (get_or order i 0) (own_cost N v (F root (get_or order i 0)) f (get_or order i 0)) x) where
      abbrev d : ℕ
      d = get_or order i 0

      kept : (x : ℕ) → x ≢ d → f' x ≡ f x
      kept x ne = s x ∙ cond-false (eqb x d) (lesser N.rule (f x) (own_cost N v (F root d) f d)) (f x) (ne_eqb x d ne)

      value : f' d ≡ fall N F root v d
      value =
          s d ∙ cond-true (eqb d d) (lesser N.rule (f d) (own_cost N v (F root d) f d)) (f d) (eq-eqb d d refl)
          ∙ ap (λ o. lesser N.rule o (own_cost N v (F root d) f d)) (done.waits d (λ j h. line.once j i h l)) ∙ lesser_first (own_cost N v (F root d) f d)
          ∙ ap (cond (eqb v d) (Some N.rule.zero)) (by (F root d) refl) ∙ sym (fall_own d (line.reached i l).0)
        where
          by : (o : Option ℕ) → F root d ≡ o → by_father N o f d ≡ by_father N o (fall N F root v) d
          by None e = refl
          by (Some p) e = ap (λ o. joined N.rule o (N.link p d)) (father_fallen l p e)

      pub fallen_more : Fallen N root v order f' (i + 1)
      fallen_more =
          record {
            at_place = λ j k. ⊎_elim
                (λ (q : get_or order j 0 ≡ d). ap f' q ∙ value ∙ sym (ap (fall N F root v) q))
                (λ ne. kept (get_or order j 0) ne ∙ done.at_place j
                (⊎_elim (λ (b : j < i). b) (λ b. let q : j ≡ i = omega arith in absurd (ne (ap (λ z. get_or order z 0) q))) (cases_lt j i)))
                (cases_eq (get_or order j 0) d);
            waits = λ x n. kept x (λ q. n i (omega arith) (sym q)) ∙ done.waits x (λ j h. n j (omega arith));
            none = λ x lx e nv. ⊎_elim (λ (q : x ≡ d). ap f' q ∙ value ∙ sym (ap (fall N F root v) q)) (λ ne. kept x ne ∙ done.none x lx e nv) (cases_eq x d);
          }

    pub fallen_all : length order ≤ i → (d : ℕ) → d < N.count → f d ≡ fall N F root v d
    fallen_all h d l =
        ⊎_elim
        (λ e. ⊎_elim
        (λ (q : d ≡ v).
        let w = present_some (N.link root v) linked in
        let b = neighbour N sound root v w.0 w.1 in
        let p = line.each d l (ap is_some (subst (λ z. best N root z ≡ Some b.0) (sym q) b.1)) in
        ap f (sym p.2) ∙ done.at_place p.0 (omega (arith, p.1)) ∙ ap (fall N F root v) p.2)
        (λ ne. done.none d l e ne) (cases_eq d v))
        (λ q. let b = after_father N sound root order line d q.0 q.1 in
        ap f (sym b.5) ∙ done.at_place b.1 (omega (arith, b.3)) ∙ ap (fall N F root v) b.5)
        (cases_option (F root d))
