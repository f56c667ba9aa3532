-- The rest cost is the least over the transverse routes.
use Rattle.std.proofs.Common.{◌≡◌, ℕ, zero, suc, ◌+◌, ◌≤◌, Bool, true, false, cond, not, ◌&&◌, eqb, ◌≢◌, List, [], ◌∷◌, is_some, Some, None, Option, sym, refl, ap, ◌∙◌, ⊎_elim, arith}
use mathlib.Core.List.Memᴰ
use mathlib.Core.List.{Memᴰ}
use Rattle.std.proofs.lemmas.Bool.{both_ways, and_parts, and_from, eqb-true, eqb-false, eq-eqb, ne_eqb, not-true, not_from_false}
use Rattle.routes.specs.Leasts.{IsLeast, onward, least_of}
use Rattle.routes.specs.Lists.{gather, is_number, listed, when_some}
use Rattle.routes.specs.Network.{Network, Sound}
use Rattle.routes.specs.Tree.{hop, fall, Fathers, Chooses}
use Rattle.routes.specs.Transverse.{Start, itself, across, Climb, begin, up, Transverse, top, down, leaves_branch, starts, climbs, descents, rest}
use Rattle.routes.specs.Settling.{climbed}
use Rattle.routes.proofs.Members.{present_some, gather_has, in_gather, onward_has, in_onward, cond_has, in_cond}
use Rattle.routes.proofs.Order.{same_least, least_list}
use Rattle.routes.proofs.Fathers.{depth, depth_below, father_depth}
use Rattle.routes.proofs.Branches.{fall_falls, falls_fall}
use Rattle.routes.proofs.Transverses.{climb_hop, transverse_hop, hop_below}

pub number_is : (o : Option ℕ) (v : ℕ) → is_number o v ≡ true → o ≡ Some v
number_is None v e = absurd (both_ways false refl e)
number_is (Some x) v e = ap Some (eqb-true x v e)

pub number_at : (o : Option ℕ) (v : ℕ) → o ≡ Some v → is_number o v ≡ true
number_at o v e = rw e (eq-eqb v v refl)

pub not_number : (h v : ℕ) (o : Option ℕ) → o ≡ Some h → h ≢ v → not (is_number o v) ≡ true
not_number h v o e ne = rw e (not_from_false (eqb h v) (ne_eqb h v ne))

listed_has : {A : Type 0} (o : Option A) (a : A) → Memᴰ a (listed o) → o ≡ Some a
listed_has None a m = absurd (Memᴰ.not-nil m)
listed_has (Some b) a m = ap Some (sym (Memᴰ.eq_of_singleton m))

in_listed : {A : Type 0} (o : Option A) (a : A) → o ≡ Some a → Memᴰ a (listed o)
in_listed o a e = rw e (Memᴰ.head refl)

module _ {Cost : Type 0} (N : Network Cost) (sound : Sound N) (father : Fathers) (chooses : Chooses N father) (root v : ℕ) where
  abbrev dep : ℕ → ℕ
  dep = depth N sound root

  -- what the test of a link out of the branch says
  pub leaves_known : (x y : ℕ) → leaves_branch N father root v x y ≡ true →
      (hop N father root x ≡ Some v) × ((h : ℕ) × (hop N father root y ≡ Some h) × (h ≢ v))
  leaves_known x y e =
      let t = and_parts (is_number (hop N father root x) v) (is_some (hop N father root y) && not (is_number (hop N father root y) v)) e in
      let t' = and_parts (is_some (hop N father root y)) (not (is_number (hop N father root y) v)) t.1 in
      let h = present_some (hop N father root y) t'.0 in
      let ne : h.0 ≢ v = λ e. both_ways (is_number (hop N father root y) v) (not-true (is_number (hop N father root y) v) t'.1) (number_at (hop N father root y) v (h.1 ∙ ap Some e)) in
      (number_is (hop N father root x) v t.0, (h.0, h.1, ne))

  pub known_leaves : (x y h : ℕ) → hop N father root x ≡ Some v → hop N father root y ≡ Some h → h ≢ v → leaves_branch N father root v x y ≡ true
  known_leaves x y h e e' ne =
      and_from (is_number (hop N father root x) v) (is_some (hop N father root y) && not (is_number (hop N father root y) v)) (number_at (hop N father root x) v e)
      (and_from (is_some (hop N father root y)) (not (is_number (hop N father root y) v)) (rw e' refl) (not_number h v (hop N father root y) e' ne))

  starts_start : (y : ℕ) (c : Cost) → Memᴰ c (starts N father root v y) → Start N father root v y c
  unfolding starts
  starts_start y c m =
      ⊎_elim
      (λ p. let q = cond_has (eqb v y && is_some (N.link root v)) (N.rule.zero ∷ []) c p in
      let t = and_parts (eqb v y) (is_some (N.link root v)) q.0 in
      rw (Memᴰ.eq_of_singleton q.1, ← eqb-true v y t.0) (itself (present_some (N.link root v) t.1).1))
      (λ p. let q = gather_has N.count (λ x. cond (leaves_branch N father root v x y) (onward N.rule (N.link x y) (listed (fall N father root v x))) []) c p in
      let x = q.0 in
      let r = cond_has (leaves_branch N father root v x y) (onward N.rule (N.link x y) (listed (fall N father root v x))) c q.2 in
      let k = leaves_known x y r.0 in
      let s = onward_has N.rule (N.link x y) (listed (fall N father root v x)) c r.1 in
      rw s.4 (across k.0 k.1.1 k.1.2 (fall_falls N sound father chooses root v x s.0 (listed_has (fall N father root v x) s.0 s.2)) s.3))
      (Memᴰ.append_cases (cond (eqb v y && is_some (N.link root v)) (N.rule.zero ∷ []) []) m)

  start_starts : {y : ℕ} {c : Cost} → Start N father root v y c → Memᴰ c (starts N father root v y)
  unfolding starts
  start_starts (itself {w = w} l) =
      Memᴰ.append_left _ (in_cond (eqb v v && is_some (N.link root v)) (N.rule.zero ∷ []) N.rule.zero
      (and_from (eqb v v) (is_some (N.link root v)) (eq-eqb v v refl) (rw l refl)) (Memᴰ.head refl))
  start_starts (across {x = x} {y = y} {h = h} {c = c} {w = w} e e' ne f l) =
      Memᴰ.append_right (cond (eqb v y && is_some (N.link root v)) (N.rule.zero ∷ []) [])
      (in_gather N.count (λ z. cond (leaves_branch N father root v z y) (onward N.rule (N.link z y) (listed (fall N father root v z))) []) (N.rule.join c w) x (sound.from x y w l)
      (in_cond (leaves_branch N father root v x y) (onward N.rule (N.link x y) (listed (fall N father root v x))) (N.rule.join c w)
      (known_leaves x y h e e' ne)
      (in_onward N.rule (N.link x y) (listed (fall N father root v x)) c w (in_listed (fall N father root v x) c (falls_fall N sound father chooses root (sound.from x y w l) f)) l)))

  abbrev children : (ℕ → List Cost) → ℕ → List Cost
  children f y = gather N.count (λ x. cond (is_number (father root x) y) (onward N.rule (N.link x y) (f x)) [])

  climbs_climb : (k y : ℕ) (c : Cost) → Memᴰ c (climbs N father root v k y) → Climb N father root v y c
  unfolding climbs
  climbs_climb zero y c m = begin (starts_start y c m)
  climbs_climb (suc k) y c m =
      ⊎_elim (λ p. begin (starts_start y c p)) (λ p. by (climbs_climb k) (eqb y root) refl p) (Memᴰ.append_cases (starts N father root v y) m)
    where
      by : ((x : ℕ) (b : Cost) → Memᴰ b (climbs N father root v k x) → Climb N father root v x b) → (t : Bool) → eqb y root ≡ t →
          Memᴰ c (cond t [] (children (climbs N father root v k) y)) → Climb N father root v y c
      by more true e p = absurd (Memᴰ.not-nil p)
      by more false e p =
          let q = gather_has N.count (λ x. cond (is_number (father root x) y) (onward N.rule (N.link x y) (climbs N father root v k x)) []) c p in
          let x = q.0 in
          let r = cond_has (is_number (father root x) y) (onward N.rule (N.link x y) (climbs N father root v k x)) c q.2 in
          let s = onward_has N.rule (N.link x y) (climbs N father root v k x) c r.1 in
          rw s.4 (up (more x s.0 s.2) (number_is (father root x) y r.0) (eqb-false y root e) s.3)

  start_climbs : (k y : ℕ) (c : Cost) → Memᴰ c (starts N father root v y) → Memᴰ c (climbs N father root v k y)
  unfolding climbs
  start_climbs zero y c m = m
  start_climbs (suc k) y c m = Memᴰ.append_left _ m

  climb_climbs : {y : ℕ} {c : Cost} → Climb N father root v y c → (k : ℕ) → N.count ≤ k + dep y → Memᴰ c (climbs N father root v k y)
  unfolding climbs
  climb_climbs (begin {y = y} {c = c} s) k h = start_climbs k y c (start_starts s)
  climb_climbs (up {y = y} t f ne l) zero h = absurd (omega (arith, depth_below N sound root y (hop_below N sound father chooses root y u.0 u.1)))
    where
      u : (h : ℕ) × (hop N father root y ≡ Some h)
      u = climb_hop N sound father chooses root v (up t f ne l)
  climb_climbs (up {x = x} {y = y} {c = c} {w = w} t f ne l) (suc k) h =
      Memᴰ.append_right (starts N father root v y)
      (rw (ne_eqb y root ne) (in_gather N.count (λ z. cond (is_number (father root z) y) (onward N.rule (N.link z y) (climbs N father root v k z)) []) (N.rule.join c w) x (sound.from x y w l)
      (in_cond (is_number (father root x) y) (onward N.rule (N.link x y) (climbs N father root v k x)) (N.rule.join c w) (number_at (father root x) y f)
      (in_onward N.rule (N.link x y) (climbs N father root v k x) c w (climb_climbs t k (omega (arith, father_depth N sound father chooses root x y f))) l))))

  descents_transverse : (k y : ℕ) (c : Cost) → Memᴰ c (descents N father root v k y) → Transverse N father root v y c
  unfolding descents
  descents_transverse zero y c m = top (climbs_climb N.count y c m)
  descents_transverse (suc k) y c m =
      ⊎_elim (λ p. top (climbs_climb N.count y c p)) (λ p. by (descents_transverse k) (father root y) refl p)
      (Memᴰ.append_cases (climbs N father root v N.count y) m)
    where
      by : ((x : ℕ) (b : Cost) → Memᴰ b (descents N father root v k x) → Transverse N father root v x b) → (o : Option ℕ) → father root y ≡ o →
          Memᴰ c (when_some o [] (λ p. onward N.rule (N.link p y) (descents N father root v k p))) → Transverse N father root v y c
      by more None e p = absurd (Memᴰ.not-nil p)
      by more (Some x) e p =
          let s = onward_has N.rule (N.link x y) (descents N father root v k x) c p in
          rw s.4 (down (more x s.0 s.2) e s.3)

  climb_descents : (k y : ℕ) (c : Cost) → Memᴰ c (climbs N father root v N.count y) → Memᴰ c (descents N father root v k y)
  unfolding descents
  climb_descents zero y c m = m
  climb_descents (suc k) y c m = Memᴰ.append_left _ m

  transverse_descents : {y : ℕ} {c : Cost} → Transverse N father root v y c → (k : ℕ) → dep y ≤ k → Memᴰ c (descents N father root v k y)
  unfolding descents
  transverse_descents (top {y = y} {c = c} t) k h = climb_descents k y c (climb_climbs t N.count (omega arith))
  transverse_descents (down {y = y} {x = x} t f l) zero h = absurd (omega (arith, father_depth N sound father chooses root x y f))
  transverse_descents (down {y = y} {x = x} {c = c} {w = w} t f l) (suc k) h =
      Memᴰ.append_right (climbs N father root v N.count x)
      (rw f (in_onward N.rule (N.link y x) (descents N father root v k y) c w (transverse_descents t k (omega (arith, father_depth N sound father chooses root x y f))) l))

  -- the rest cost is the least over the transverse routes that end at d
  pub rest_least : (d : ℕ) → IsLeast N.rule (Transverse N father root v d) (rest N father root v d)
  unfolding rest
  rest_least d =
      same_least N.rule sound.lawful (λ c. Memᴰ c (descents N father root v N.count d)) (Transverse N father root v d) (least_of N.rule (descents N father root v N.count d))
      (λ c m. descents_transverse N.count d c m)
      (λ c t. let u = transverse_hop N sound father chooses root v t in transverse_descents t N.count (omega (arith, depth_below N sound root d (hop_below N sound father chooses root d u.0 u.1))))
      (least_list N.rule sound.lawful (descents N father root v N.count d))

  pub climbed_is : (y : ℕ) → IsLeast N.rule (Climb N father root v y) (climbed N father root v y)
  unfolding climbed
  climbed_is y =
      same_least N.rule sound.lawful (λ c. Memᴰ c (climbs N father root v N.count y)) (Climb N father root v y) (least_of N.rule (climbs N father root v N.count y))
      (λ c m. climbs_climb N.count y c m) (λ c t. climb_climbs t N.count (omega arith))
      (least_list N.rule sound.lawful (climbs N father root v N.count y))
