-- Whatever solves the equations of the two passes, climbing and descending, is the rest cost.
use Rattle.std.proofs.Common.{◌≡◌, ℕ, zero, suc, ◌+◌, ◌<◌, ◌≤◌, true, cond, not, ◌&&◌, eqb, ◌⊎◌, is_some, Some, None, Option, sym, refl, ap, ◌∙◌, subst, inl, inr, ⊎_elim, arith}
use Rattle.std.proofs.lemmas.Bool.{and_parts, and_from, eqb-true, eqb-false, eq-eqb, ne_eqb, not-true}
use Rattle.routes.specs.Leasts.{IsLeast, joined}
use Rattle.routes.specs.Lists.{is_number}
use Rattle.routes.specs.Network.{Network, Sound}
use Rattle.routes.specs.Tree.{fall, Falls, Fathers, Chooses}
use Rattle.routes.specs.Transverse.{Start, itself, across, Climb, begin, up, Transverse, top, down, leaves_branch, rest}
use Rattle.routes.specs.Settling.{climbed, started, lifted, lowered}
use Rattle.routes.proofs.Members.{present_some, none_some, some_inj, cases_option}
use Rattle.routes.proofs.Order.{same_least, unique, least_lesser, least_joined, least_each, least_cond, least_when}
use Rattle.routes.proofs.Fathers.{depth, depth_below, father_depth, father_is}
use Rattle.routes.proofs.Branches.{fall_falls, falls_fall, tree_induction}
use Rattle.routes.proofs.Rest.{climbed_is, rest_least, leaves_known, known_leaves, number_is, number_at}

module _ {Cost : Type 0} (N : Network Cost) (sound : Sound N) (father : Fathers) (chooses : Chooses N father) (root v : ℕ) where
  -- c comes from a cost b for which P holds, over the link from x to y
  abbrev Over : (Cost → Type 0) → ℕ → ℕ → Cost → Type 0
  Over P x y c = (b w : Cost) × P b × (N.link x y ≡ Some w) × (c ≡ N.rule.join b w)

  abbrev AtItself : ℕ → Cost → Type 0
  AtItself y c = (eqb v y && is_some (N.link root v) ≡ true) × (c ≡ N.rule.zero)

  abbrev Entering : ℕ → Cost → Type 0
  Entering y c = (x : ℕ) × (x < N.count) × ((leaves_branch N father root v x y ≡ true) × Over (Falls N father root v x) x y c)

  fall_least : (x : ℕ) → x < N.count → IsLeast N.rule (Falls N father root v x) (fall N father root v x)
  fall_least x h = ⊎_elim none one (cases_option (fall N father root v x))
    where
      none : fall N father root v x ≡ None → IsLeast N.rule (Falls N father root v x) (fall N father root v x)
      none e = subst (IsLeast N.rule (Falls N father root v x)) (sym e) (λ c f. none_some c (sym e ∙ falls_fall N sound father chooses root h f))

      one : (a : Cost) × (fall N father root v x ≡ Some a) → IsLeast N.rule (Falls N father root v x) (fall N father root v x)
      one q =
          subst (IsLeast N.rule (Falls N father root v x)) (sym q.1)
          (record {
            holds = fall_falls N sound father chooses root v x q.0 q.1;
            lowest = λ c f. rw (some_inj c q.0 (sym (falls_fall N sound father chooses root h f) ∙ q.1)) (sound.lawful.irreflexive q.0);
          })

  start_parts : {y : ℕ} {c : Cost} → Start N father root v y c → AtItself y c ⊎ Entering y c
  start_parts (itself {w = w} l) = inl (and_from (eqb v v) (is_some (N.link root v)) (eq-eqb v v refl) (rw l refl), refl)
  start_parts (across {x = x} {y = y} {h = h} {c = c} {w = w} e e' ne f l) =
      inr (
        x,
        sound.from x y w l,
        (
          known_leaves N sound father chooses root v x y h e e' ne,
          (c, w, f, l, refl),
        ),
      )

  start_whole : (y : ℕ) (c : Cost) → AtItself y c ⊎ Entering y c → Start N father root v y c
  start_whole y c (inl q) =
      let t = and_parts (eqb v y) (is_some (N.link root v)) q.0 in
      rw (q.1, ← eqb-true v y t.0) (itself (present_some (N.link root v) t.1).1)
  start_whole y c (inr q) =
      let x = q.0 in let o = q.2.1 in
      let k = leaves_known N sound father chooses root v x y q.2.0 in
      rw o.4 (across k.0 k.1.1 k.1.2 o.2 o.3)

  pub started_least : (y : ℕ) → IsLeast N.rule (Start N father root v y) (started N father root v y)
  unfolding started
  started_least y =
      same_least N.rule sound.lawful (λ c. AtItself y c ⊎ Entering y c) (Start N father root v y) _ (start_whole y) (λ c s. start_parts s)
      (least_lesser N.rule sound.lawful (AtItself y) (Entering y) _ _
      (least_cond N.rule sound.lawful (eqb v y && is_some (N.link root v)) (λ c. c ≡ N.rule.zero) (Some N.rule.zero)
      (λ e. record { holds = refl; lowest = λ x p. rw p (sound.lawful.irreflexive N.rule.zero) }))
      (least_each N.rule sound.lawful N.count (λ x c. (leaves_branch N father root v x y ≡ true) × Over (Falls N father root v x) x y c)
      (λ x. cond (leaves_branch N father root v x y) (joined N.rule (fall N father root v x) (N.link x y)) None)
      (λ x h. least_cond N.rule sound.lawful (leaves_branch N father root v x y) (Over (Falls N father root v x) x y) (joined N.rule (fall N father root v x) (N.link x y))
      (λ e. least_joined N.rule sound.lawful (Falls N father root v x) (fall N father root v x) (N.link x y) (fall_least x h)))))

  abbrev Lifted : ℕ → Cost → Type 0
  Lifted y c = (not (eqb y root) ≡ true) × ((x : ℕ) × (x < N.count) × ((is_number (father root x) y ≡ true) × Over (Climb N father root v x) x y c))

  climb_parts : {y : ℕ} {c : Cost} → Climb N father root v y c → Start N father root v y c ⊎ Lifted y c
  climb_parts (begin s) = inl s
  climb_parts (up {x = x} {y = y} {c = c} {w = w} t f ne l) =
      inr (ap not (ne_eqb y root ne), (x, sound.from x y w l, (number_at (father root x) y f, (c, w, t, l, refl))))

  climb_whole : (y : ℕ) (c : Cost) → Start N father root v y c ⊎ Lifted y c → Climb N father root v y c
  climb_whole y c (inl s) = begin s
  climb_whole y c (inr q) =
      let p = q.1 in let o = p.2.1 in
      rw o.4 (up o.2 (number_is (father root p.0) y p.2.0) (eqb-false y root (not-true (eqb y root) q.0)) o.3)

  -- what the children of y climb to it with, where their costs are known
  lifted_least : (climbed : ℕ → Option Cost) (y : ℕ) → ((x : ℕ) → x < N.count → father root x ≡ Some y → IsLeast N.rule (Climb N father root v x) (climbed x)) →
      IsLeast N.rule (Climb N father root v y) (lifted N father root v climbed y)
  unfolding lifted
  lifted_least climbed y h =
      same_least N.rule sound.lawful (λ c. Start N father root v y c ⊎ Lifted y c) (Climb N father root v y) _ (climb_whole y) (λ c t. climb_parts t)
      (least_lesser N.rule sound.lawful (Start N father root v y) (Lifted y) (started N father root v y) _ (started_least y)
      (least_cond N.rule sound.lawful (not (eqb y root)) _ _
      (λ e. least_each N.rule sound.lawful N.count (λ x c. (is_number (father root x) y ≡ true) × Over (Climb N father root v x) x y c)
      (λ x. cond (is_number (father root x) y) (joined N.rule (climbed x) (N.link x y)) None)
      (λ x l. least_cond N.rule sound.lawful (is_number (father root x) y) (Over (Climb N father root v x) x y) (joined N.rule (climbed x) (N.link x y))
      (λ f. least_joined N.rule sound.lawful (Climb N father root v x) (climbed x) (N.link x y) (h x l (number_is (father root x) y f)))))))

  abbrev Lowered : ℕ → Cost → Type 0
  Lowered y c = (p : ℕ) × (father root y ≡ Some p) × Over (Transverse N father root v p) p y c

  transverse_parts : {y : ℕ} {c : Cost} → Transverse N father root v y c → Climb N father root v y c ⊎ Lowered y c
  transverse_parts (top t) = inl t
  transverse_parts (down {y = y} {x = x} {c = c} {w = w} t f l) = inr (y, f, (c, w, t, l, refl))

  transverse_whole : (y : ℕ) (c : Cost) → Climb N father root v y c ⊎ Lowered y c → Transverse N father root v y c
  transverse_whole y c (inl t) = top t
  transverse_whole y c (inr q) = let o = q.2 in rw o.4 (down o.2 q.1 o.3)

  lowered_least : (climbed reached : ℕ → Option Cost) (y : ℕ) → IsLeast N.rule (Climb N father root v y) (climbed y) →
      ((p : ℕ) → father root y ≡ Some p → IsLeast N.rule (Transverse N father root v p) (reached p)) →
      IsLeast N.rule (Transverse N father root v y) (lowered N father root v climbed reached y)
  unfolding lowered
  lowered_least climbed reached y hc h =
      same_least N.rule sound.lawful (λ c. Climb N father root v y c ⊎ Lowered y c) (Transverse N father root v y) _ (transverse_whole y) (λ c t. transverse_parts t)
      (least_lesser N.rule sound.lawful (Climb N father root v y) (Lowered y) (climbed y) _ hc
      (least_when N.rule sound.lawful (father root y) (λ p. Over (Transverse N father root v p) p y) (λ p. joined N.rule (reached p) (N.link p y))
      (λ p f. least_joined N.rule sound.lawful (Transverse N father root v p) (reached p) (N.link p y) (h p f))))

  -- the climbing costs and the rest costs solve the equations of the passes
  pub climbed_lifted : (y : ℕ) → climbed N father root v y ≡ lifted N father root v (climbed N father root v) y
  climbed_lifted y =
      unique N.rule sound.lawful (Climb N father root v y) (climbed N father root v y) (lifted N father root v (climbed N father root v) y) (climbed_is N sound father chooses root v y)
      (lifted_least (climbed N father root v) y (λ x l f. climbed_is N sound father chooses root v x))

  pub rest_lowered : (y : ℕ) → rest N father root v y ≡ lowered N father root v (climbed N father root v) (rest N father root v) y
  rest_lowered y =
      unique N.rule sound.lawful (Transverse N father root v y) (rest N father root v y) (lowered N father root v (climbed N father root v) (rest N father root v) y) (rest_least N sound father chooses root v y)
      (lowered_least (climbed N father root v) (rest N father root v) y (climbed_is N sound father chooses root v y) (λ p f. rest_least N sound father chooses root v p))

  -- and nothing else does
  module _ (up_to down_to : ℕ → Option Cost)
      (climbing : (y : ℕ) → y < N.count → up_to y ≡ lifted N father root v up_to y)
      (descending : (y : ℕ) → y < N.count → down_to y ≡ lowered N father root v up_to down_to y) where
    abbrev dep : ℕ → ℕ
    dep = depth N sound root

    -- from the farthest router to the nearest
    climbed_from : (k y : ℕ) → y < N.count → N.count ≤ k + dep y → IsLeast N.rule (Climb N father root v y) (up_to y)
    climbed_from zero y l h = absurd (omega (arith, depth_below N sound root y l))
    climbed_from (suc k) y l h =
        subst (IsLeast N.rule (Climb N father root v y)) (sym (climbing y l))
        (lifted_least up_to y (λ x l' f. climbed_from k x l' (omega (arith, father_depth N sound father chooses root x y f))))

    pub climbed_least : (y : ℕ) → y < N.count → IsLeast N.rule (Climb N father root v y) (up_to y)
    climbed_least y l = climbed_from N.count y l (omega arith)

    -- from the nearest router to the farthest
    pub reached_least : (y : ℕ) → y < N.count → IsLeast N.rule (Transverse N father root v y) (down_to y)
    reached_least = tree_induction N sound father chooses root (λ y. y < N.count → IsLeast N.rule (Transverse N father root v y) (down_to y)) step
      where
        step : (y : ℕ) → ((p : ℕ) → father root y ≡ Some p → p < N.count → IsLeast N.rule (Transverse N father root v p) (down_to p)) →
            y < N.count → IsLeast N.rule (Transverse N father root v y) (down_to y)
        step y more l =
            subst (IsLeast N.rule (Transverse N father root v y)) (sym (descending y l))
            (lowered_least up_to down_to y (climbed_least y l)
            (λ p f. let q = father_is N sound father chooses root y p f in more p f (sound.from p y q.last q.linked)))

    -- a solution of both passes is the rest cost
    pub passes_rest : (y : ℕ) → y < N.count → down_to y ≡ rest N father root v y
    passes_rest y l = unique N.rule sound.lawful (Transverse N father root v y) (down_to y) (rest N father root v y) (reached_least y l) (rest_least N sound father chooses root v y)
