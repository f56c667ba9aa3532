-- The climbing pass of the rest costs of one neighbour.
use Rattle.std.proofs.Common.{◌≡◌, ℕ, ◌+◌, ◌<◌, ◌≤◌, Bool, true, false, not, ◌&&◌, eqb, ◌⊎◌, List, [], ◌∷◌, ◌++◌, length, get_or, Some, None, Option, sym, refl, ap, ◌∙◌, subst, inl, inr, ⊎_elim, arith}
use mathlib.Core.Path.{fun_ext}
use Rattle.std.proofs.Math.Seq.{get_or-append_seam}
use Rattle.std.proofs.lemmas.List.{get_or_append_left, length-append}
use Rattle.std.proofs.lemmas.Bool.{cases_eq, cond-true, cond-false, eq-eqb, ne_eqb, and_left, and_right, and_from, not_from_true, not_from_false, or_left, or_right}
use Rattle.routes.specs.Leasts.{lesser, joined}
use Rattle.routes.specs.Network.{Network, Sound}
use Rattle.routes.specs.Settling.{also, started, climbed, Climbing, FromChild}
use Rattle.routes.specs.Theorems.{Climbs}
use Rattle.routes.specs.Transverse.{Start, Climb, begin, up, top}
use Rattle.routes.specs.Tree.{Fathers, lowest_father}
use Rattle.routes.proofs.Fathers.{lowest_chooses}
use Rattle.routes.proofs.Order.{least_some, same_least}
use Rattle.routes.proofs.Theorems.{climbing_steps_lem}
use Rattle.squares.specs.Found.{NearestFirst}
use Rattle.squares.specs.Known.{costs_in, with_offer, Short}
use Rattle.settling.specs.Rows.{to_father}
use Rattle.settling.proofs.Offers.{closed}
use Rattle.settling.proofs.Orders.{after_father, same_place}
use Rattle.settling.proofs.Rows.{transverse_short}

-- no router is offered the way up to the root
pub up_to_root : {C : Type 0} (N : Network C) (root : ℕ) (row : List C) (reached x p d : ℕ) → p ≡ root →
    costs_in N.rule row reached d ≡ to_father N root (Some p) (costs_in N.rule row reached) x d
up_to_root N root row reached x p d r =
    closed N.rule row reached x (eqb p d && not (eqb d root)) (joined N.rule (costs_in N.rule row reached x) (N.link x d)) d
    (⊎_elim
    (λ (e : d ≡ p). and_right (eqb p d) (not (eqb d root)) (not_from_true (eqb d root) (eq-eqb d root (e ∙ r))))
    (λ ne. and_left (eqb p d) (not (eqb d root)) (ne_eqb p d (λ e. ne (sym e))))
    (cases_eq d p))

-- the father is offered the way up
pub up_to_father : {C : Type 0} (N : Network C) (root : ℕ) (row : List C) (reached x p d : ℕ) → (p ≡ root → ⊥) →
    with_offer N.rule (costs_in N.rule row reached) p (joined N.rule (costs_in N.rule row reached x) (N.link x p)) d ≡ to_father N root (Some p) (costs_in N.rule row reached) x d
up_to_father {C} N root row reached x p d nr =
    ⊎_elim
    (λ (e : d ≡ p).
    let open_way = and_from (eqb p d) (not (eqb d root)) (eq-eqb p d (sym e)) (not_from_false (eqb d root) (ne_eqb d root (λ r. nr (sym e ∙ r)))) in
    cond-true (eqb d p) (lesser N.rule (f d) (joined N.rule (f x) (N.link x p))) (f d) (eq-eqb d p e)
    ∙ ap (lesser N.rule (f d)) (ap (λ z. joined N.rule (f x) (N.link x z)) (sym e) ∙ sym (cond-true (eqb p d && not (eqb d root)) (joined N.rule (f x) (N.link x d)) None open_way)))
    (λ ne.
    cond-false (eqb d p) (lesser N.rule (f d) (joined N.rule (f x) (N.link x p))) (f d) (ne_eqb d p ne)
    ∙ closed N.rule row reached x (eqb p d && not (eqb d root)) (joined N.rule (f x) (N.link x d)) d (and_left (eqb p d) (not (eqb d root)) (ne_eqb p d (λ e. ne (sym e)))))
    (cases_eq d p)
  where
    f : ℕ → Option C
    f = costs_in N.rule row reached

-- The routers that are left are the front of the sequence, and those behind them are done.
pub record ClimbingOn {C : Type 0} (N : Network C) (root v : ℕ) (order : List ℕ) (f : ℕ → Option C) (left : List ℕ) : Type 0 where
  pub few : length left ≤ length order
  pub front : (j : ℕ) → j < length left → get_or left j 0 ≡ get_or order j 0
  pub done : ℕ → Bool
  pub climbing : Climbing N (lowest_father N) root v done f
  pub marked : (j : ℕ) → length left ≤ j → j < length order → done (get_or order j 0) ≡ true

module _ {C : Type 0} (N : Network C) (sound : Sound N) (root v : ℕ) where
  abbrev F : Fathers
  F = lowest_father N

  climbs : Climbs N F root v
  climbs = climbing_steps_lem C N sound F (lowest_chooses N sound) root v

  pub climbing_first : (order : List ℕ) (f : ℕ → Option C) → ((d : ℕ) → f d ≡ started N F root v d) → ClimbingOn N root v order f order
  climbing_first order f h =
      record {
        few = omega arith;
        front = λ j l. refl;
        done = λ x. false;
        climbing = subst (Climbing N F root v (λ x. false)) (fun_ext (λ d. sym (h d))) climbs.begins;
        marked = λ j l k. absurd (omega arith);
      }

  module _ {order : List ℕ} (line : NearestFirst N root order) {f : ℕ → Option C} {left : List ℕ} (on : ClimbingOn N root v order f left) where
    abbrev From : ℕ → C → Type 0
    From y c = Start N F root v y c ⊎ ((x : ℕ) × (on.done x ≡ true) × FromChild N F root v x y c)

    climb_of : (y : ℕ) (c : C) → From y c → Climb N F root v y c
    climb_of y c (inl s) = begin s
    climb_of y c (inr q) =
        let t = q.2.2 in
        subst (Climb N F root v y) (sym t.4) (up t.2 q.2.0 q.2.1 t.3)

    pub climbing_short : (y : ℕ) (c : C) → f y ≡ Some c → Short N.rule c
    climbing_short y c e =
        transverse_short N sound root v y c (top (climb_of y c (least_some N.rule sound.lawful (From y) (f y) c (on.climbing.each y) e).holds))

    -- x is the last of those that are left
    module _ (left' : List ℕ) (x : ℕ) (e : left ≡ left' ++ x ∷ []) where
      longer : length left ≡ length left' + 1
      longer = ap length e ∙ length-append left' (x ∷ [])

      at_last : x ≡ get_or order (length left') 0
      at_last = sym (ap (λ z. get_or z (length left') 0) e ∙ get_or-append_seam left' x [] 0) ∙ on.front (length left') (omega (arith, longer))

      is_there : length left' < length order
      is_there = omega (arith, longer, on.few)

      pub last_inside : x < N.count
      last_inside = subst (λ z. z < N.count) (sym at_last) (line.reached (length left') is_there).0

      module _ {f' : ℕ → Option C} (s : (y : ℕ) → f' y ≡ to_father N root (F root x) f x y) where
        children : (z : ℕ) → F root z ≡ Some x → on.done z ≡ true
        children z is =
            let b = after_father N sound root order line z x is in
            let q = same_place N sound root order line b.0 (length left') (omega (arith, b.2, b.3)) is_there (b.4 ∙ at_last) in
            ap on.done (sym b.5) ∙ on.marked b.1 (omega (arith, longer, b.2, q)) b.3

        pub climbing_more : ClimbingOn N root v order f' left'
        climbing_more =
            record {
              few = omega (arith, is_there);
              front = λ j h. sym (ap (λ z. get_or z j 0) e ∙ get_or_append_left left' (x ∷ []) 0 j h) ∙ on.front j (omega (arith, longer));
              done = also on.done x;
              climbing = subst (Climbing N F root v (also on.done x)) (fun_ext (λ y. sym (s y))) (climbs.goes_on on.done f x on.climbing children);
              marked = λ j h k. ⊎_elim
                  (λ (q : j ≡ length left'). or_right (on.done (get_or order j 0)) (eqb (get_or order j 0) x) (eq-eqb (get_or order j 0) x (ap (λ z. get_or order z 0) q ∙ sym at_last)))
                  (λ ne. or_left (on.done (get_or order j 0)) (eqb (get_or order j 0) x) (on.marked j (omega (arith, longer)) k))
                  (cases_eq j (length left'));
            }

    pub climbing_all : length left ≡ 0 → (d : ℕ) → f d ≡ climbed N F root v d
    climbing_all h = climbs.ends (λ x. true) f (record { each = λ y. same_least N.rule sound.lawful (From y) (AllFrom y) (f y) (λ c. wider y c) (λ c. narrower y c) (on.climbing.each y) }) (λ x _. refl)
      where
        AllFrom : ℕ → C → Type 0
        AllFrom y c = Start N F root v y c ⊎ ((x : ℕ) × (true ≡ true) × FromChild N F root v x y c)

        wider : (y : ℕ) (c : C) → From y c → AllFrom y c
        wider y c (inl s) = inl s
        wider y c (inr q) = inr (q.0, refl, q.2)

        narrower : (y : ℕ) (c : C) → AllFrom y c → From y c
        narrower y c (inl s) = inl s
        narrower y c (inr q) =
            let b = after_father N sound root order line q.0 y q.2.0 in
            inr (q.0, ap on.done (sym b.5) ∙ on.marked b.1 (omega (arith, h)) b.3, q.2)
