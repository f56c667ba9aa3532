-- Climbing router by router, each after its children.
use Rattle.std.proofs.Common.{◌≡◌, ℕ, ◌<◌, Bool, true, false, cond, ◌&&◌, ◌||◌, eqb, ◌⊎◌, Some, None, Option, refl, subst, inl, inr, ⊎_elim}
use Rattle.std.proofs.lemmas.Bool.{both_ways, and_parts, and_from, or_cases, or_left, or_right, eqb-true, eqb-false, eq-eqb, not-true}
use Rattle.routes.specs.Leasts.{IsLeast, joined, lesser}
use Rattle.routes.specs.Lists.{is_number}
use Rattle.routes.specs.Network.{Network, Sound}
use Rattle.routes.specs.Routes.{avoids}
use Rattle.routes.specs.Tree.{Fathers, Chooses}
use Rattle.routes.specs.Transverse.{Start, Climb, begin, up}
use Rattle.routes.specs.Settling.{climbed, started, FromChild, Climbing}
use Rattle.routes.proofs.Order.{same_least, unique, least_lesser, least_joined, least_cond}
use Rattle.routes.proofs.Fathers.{father_is}
use Rattle.routes.proofs.Rest.{climbed_is, number_is, number_at}
use Rattle.routes.proofs.Passes.{started_least}
use Rattle.routes.proofs.Transverses.{avoids_other}

module _ {Cost : Type 0} (N : Network Cost) (sound : Sound N) (father : Fathers) (chooses : Chooses N father) (root v : ℕ) where
  abbrev Known : (ℕ → Bool) → ℕ → Cost → Type 0
  Known done y c = Start N father root v y c ⊎ ((x : ℕ) × (done x ≡ true) × FromChild N father root v x y c)

  pub climbing_begins : Climbing N father root v (λ x. false) (started N father root v)
  climbing_begins =
      record {
        each = λ y. same_least N.rule sound.lawful (Start N father root v y) (Known (λ x. false) y) (started N father root v y)
            (λ c s. inl s) (λ c. ⊎_elim (λ s. s) (λ q. absurd (both_ways false refl q.1))) (started_least N sound father chooses root v y);
      }

  last_link : {y : ℕ} {c : Cost} → Climb N father root v y c → Start N father root v y c ⊎ ((x : ℕ) × FromChild N father root v x y c)
  last_link (begin s) = inl s
  last_link (up {x = x} {c = b} {w = w} t f ne l) = inr (x, (f, ne, (b, w, t, l, refl)))

  child_climb : (x y : ℕ) (c : Cost) → FromChild N father root v x y c → Climb N father root v y c
  child_climb x y c q = let o = q.2 in rw o.4 (up o.2 q.0 q.1 o.3)

  -- where the children of y are done, so is its cost
  finished : (done : ℕ → Bool) (up_to : ℕ → Option Cost) (y : ℕ) → Climbing N father root v done up_to → ((z : ℕ) → father root z ≡ Some y → done z ≡ true) →
      IsLeast N.rule (Climb N father root v y) (up_to y)
  finished done up_to y k h =
      same_least N.rule sound.lawful (Known done y) (Climb N father root v y) (up_to y)
      (λ c. ⊎_elim begin (λ q. child_climb q.0 y c q.2))
      (λ c t. ⊎_elim inl (λ q. inr (q.0, h q.0 q.1.0, q.1)) (last_link t)) (k.each y)

  pub climbing_steps_lem : (done : ℕ → Bool) (up_to : ℕ → Option Cost) (x : ℕ) → Climbing N father root v done up_to → ((z : ℕ) → father root z ≡ Some x → done z ≡ true) →
      Climbing N father root v (λ z. done z || eqb z x)
      (λ y. lesser N.rule (up_to y) (cond (is_number (father root x) y && avoids root y) (joined N.rule (up_to x) (N.link x y)) None))
  climbing_steps_lem done up_to x k h =
      record {
        each = λ y. same_least N.rule sound.lawful (λ c. Known done y c ⊎ Now y c) (Known (λ z. done z || eqb z x) y) _
            (λ c. ⊎_elim (⊎_elim inl (λ q. inr (q.0, or_left (done q.0) (eqb q.0 x) q.1, q.2)))
            (λ q. let t = and_parts (is_number (father root x) y) (avoids root y) q.0 in
            inr (x, or_right (done x) (eqb x x) (eq-eqb x x refl), (number_is (father root x) y t.0, eqb-false y root (not-true (eqb y root) t.1), q.1))))
            (λ c. ⊎_elim (λ s. inl (inl s)) (λ q. ⊎_elim (λ t. inl (inr (q.0, t, q.2))) (λ t. inr (now y c q.0 (eqb-true q.0 x t) q.2)) (or_cases (done q.0) (eqb q.0 x) q.1)))
            (least_lesser N.rule sound.lawful (Known done y) (Now y) (up_to y) _ (k.each y)
            (least_cond N.rule sound.lawful (is_number (father root x) y && avoids root y) _ (joined N.rule (up_to x) (N.link x y))
            (λ e. least_joined N.rule sound.lawful (Climb N father root v x) (up_to x) (N.link x y) (finished done up_to x k h))));
      }
    where
      Now : ℕ → Cost → Type 0
      Now y c = (is_number (father root x) y && avoids root y ≡ true) × ((b w : Cost) × Climb N father root v x b × (N.link x y ≡ Some w) × (c ≡ N.rule.join b w))

      now : (y : ℕ) (c : Cost) (z : ℕ) → z ≡ x → FromChild N father root v z y c → Now y c
      now y c z e q =
          let p = subst (λ i. FromChild N father root v i y c) e q in
          (and_from (is_number (father root x) y) (avoids root y) (number_at (father root x) y p.0) (avoids_other root y p.1), p.2)

  pub climbing_ends : (done : ℕ → Bool) (up_to : ℕ → Option Cost) → Climbing N father root v done up_to → ((x : ℕ) → x < N.count → done x ≡ true) →
      (y : ℕ) → up_to y ≡ climbed N father root v y
  climbing_ends done up_to k all y =
      unique N.rule sound.lawful (Climb N father root v y) (up_to y) (climbed N father root v y)
      (finished done up_to y k (λ z f. let q = father_is N sound father chooses root z y f in all z (sound.to y z q.last q.linked))) (climbed_is N sound father chooses root v y)
