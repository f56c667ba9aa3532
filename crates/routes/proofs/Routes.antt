-- Routes: the functions are the least over the relations, and a least route has fewer links than there are routers.
use Rattle.std.proofs.Common.{◌≡◌, ℕ, zero, suc, ◌-◌, ◌<◌, ◌≤◌, Bool, true, false, cond, not, ◌&&◌, eqb, ltb, ◌⊎◌, [], ◌∷◌, Some, None, Option, sym, refl, subst, inl, inr, ⊎_elim, arith}
use mathlib.Core.List.Memᴰ
use mathlib.Core.List.{Memᴰ}
use Rattle.std.proofs.lemmas.Bool.{both_ways, cases_Bool, cases_eq, and_parts, and_from, eqb-true, eq-eqb, ltb-true, lt-ltb, ne_eqb, not-true, not_from_false}
use Rattle.routes.specs.Leasts.{IsLeast, least_of, least_below, lesser, joined, onward}
use Rattle.routes.specs.Lists.{gather}
use Rattle.routes.specs.Network.{Network, Sound}
use Rattle.routes.specs.Routes.{Through, stay, go, Route, costs, route_costs, best}
use Rattle.routes.proofs.Members.{gather_has, in_gather, onward_has, in_onward, cond_has, in_cond}
use Rattle.routes.proofs.Order.{le_trans, le_join, extend, same_least, least_list, least_lesser, least_joined, least_each, unique}
use Rattle.routes.proofs.Sizes.{size, size_most, size_less}

module _ {Cost : Type 0} (N : Network Cost) where
  pub stay_at : (ok : ℕ → Bool) (a d : ℕ) (c : Cost) → a < N.count → ok a ≡ true → a ≡ d → c ≡ N.rule.zero → Through N ok 0 a d c
  stay_at ok a d c h o e z = rw (z, ← e) (stay h o)

  pub go_at : (ok : ℕ → Bool) (k a x d : ℕ) (b w c : Cost) → Through N ok k a x b → N.link x d ≡ Some w → ok d ≡ true → c ≡ N.rule.join b w →
      Through N ok (suc k) a d c
  go_at ok k a x d b w c r l o e = rw e (go r l o)

  -- a route stays, or has a last link
  abbrev pub Ends : (ℕ → Bool) → ℕ → ℕ → ℕ → Cost → Type 0
  Ends ok k a d c =
      ((k ≡ 0) × (a ≡ d) × (a < N.count) × (c ≡ N.rule.zero)) ⊎
      ((j x : ℕ) × (b w : Cost) × (k ≡ suc j) × Through N ok j a x b × (N.link x d ≡ Some w) × (ok d ≡ true) × (c ≡ N.rule.join b w))

  pub ends : {ok : ℕ → Bool} {k a d : ℕ} {c : Cost} → Through N ok k a d c → Ends ok k a d c
  ends (stay h o) = inl (refl, refl, h, refl)
  ends (go {k = j} {x = x} {c = b} {w = w} r l o) = inr (j, x, b, w, refl, r, l, o, refl)

  pub end_ok : {ok : ℕ → Bool} {k a d : ℕ} {c : Cost} → Through N ok k a d c → ok d ≡ true
  end_ok (stay h o) = o
  end_ok (go r l o) = o

  pub widen : {ok : ℕ → Bool} {k a d : ℕ} {c : Cost} → (ok' : ℕ → Bool) → ((x : ℕ) → ok x ≡ true → ok' x ≡ true) → Through N ok k a d c → Through N ok' k a d c
  widen {a = a} ok' f (stay h o) = stay h (f _ o)
  widen ok' f (go r l o) = go (widen ok' f r) l (f _ o)

  pub costs_route : (k a d : ℕ) (c : Cost) → Memᴰ c (costs N k a d) → Route N k a d c
  unfolding costs
  costs_route zero a d c m =
      let q = cond_has (eqb a d && ltb a N.count) (N.rule.zero ∷ []) c m in
      let t = and_parts (eqb a d) (ltb a N.count) q.0 in
      stay_at (λ x. true) a d c (ltb-true a N.count t.1) refl (eqb-true a d t.0) (Memᴰ.eq_of_singleton q.1)
  costs_route (suc k) a d c m =
      let q = gather_has N.count (λ x. onward N.rule (N.link x d) (costs N k a x)) c m in
      let p = onward_has N.rule (N.link q.0 d) (costs N k a q.0) c q.2 in
      go_at (λ x. true) k a q.0 d p.0 p.1 c (costs_route k a q.0 p.0 p.2) p.3 refl p.4

  module _ (sound : Sound N) where
    pub in_costs : {k a d : ℕ} {c : Cost} → Route N k a d c → Memᴰ c (costs N k a d)
    unfolding costs
    in_costs (stay {a = a} h o) =
        in_cond (eqb a a && ltb a N.count) (N.rule.zero ∷ []) N.rule.zero
        (and_from (eqb a a) (ltb a N.count) (eq-eqb a a refl) (lt-ltb a N.count h)) (Memᴰ.head refl)
    in_costs (go {k = k} {a = a} {x = x} {d = d} {c = c} {w = w} r l o) =
        in_gather N.count (λ y. onward N.rule (N.link y d) (costs N k a y)) (N.rule.join c w) x (sound.from x d w l)
        (in_onward N.rule (N.link x d) (costs N k a x) c w (in_costs r) l)

    pub end_below : {ok : ℕ → Bool} {k a d : ℕ} {c : Cost} → Through N ok k a d c → d < N.count
    end_below (stay h o) = h
    end_below (go {x = x} {d = d} {w = w} r l o) = sound.to x d w l

    -- no route is cheaper than to stay
    pub zero_least : {ok : ℕ → Bool} {k a d : ℕ} {c : Cost} → Through N ok k a d c → N.rule.lower c N.rule.zero ≡ false
    zero_least (stay h o) = sound.lawful.irreflexive N.rule.zero
    zero_least (go {x = x} {d = d} {c = c} {w = w} r l o) =
        le_trans N.rule sound.lawful N.rule.zero c (N.rule.join c w) (zero_least r)
        (le_join N.rule sound.lawful c w (sound.costs x d w l))

module _ {Cost : Type 0} (N : Network Cost) where
  -- The best costs by k rounds of relaxing, which compute quickly.
  unfoldable pub rounds : ℕ → ℕ → ℕ → Option Cost
  rounds zero a d = cond (eqb a d && ltb a N.count) (Some N.rule.zero) None
  rounds (suc k) a d = lesser N.rule (rounds k a d) (least_below N.rule N.count (λ x. joined N.rule (rounds k a x) (N.link x d)))

-- the test, for all but t
abbrev pub without : (ℕ → Bool) → ℕ → ℕ → Bool
without ok t x = ok x && not (eqb x t)

without_weaker : (ok : ℕ → Bool) (t x : ℕ) → without ok t x ≡ true → ok x ≡ true
without_weaker ok t x e = (and_parts (ok x) (not (eqb x t)) e).0

without_self : (ok : ℕ → Bool) (t : ℕ) → without ok t t ≡ false
without_self ok t =
    ⊎_elim (λ e. absurd (both_ways (eqb t t) (not-true (eqb t t) (and_parts (ok t) (not (eqb t t)) e).1) (eq-eqb t t refl))) (λ f. f)
    (cases_Bool (without ok t t))

without_other : (ok : ℕ → Bool) (t x : ℕ) → ok x ≡ true → (x ≡ t → ⊥) → without ok t x ≡ true
without_other ok t x o ne = and_from (ok x) (not (eqb x t)) o (not_from_false (eqb x t) (ne_eqb x t ne))

module _ {Cost : Type 0} (N : Network Cost) (sound : Sound N) where
  -- a route to t, no dearer than c, that meets t only at its end
  abbrev First : (ℕ → Bool) → ℕ → ℕ → Cost → Type 0
  First ok a t c =
      (a ≡ t) ⊎
      ((j y : ℕ) × (b w : Cost) × Through N (without ok t) j a y b × (N.link y t ≡ Some w) × (N.rule.lower c (N.rule.join b w) ≡ false))

  -- a route avoids t, or meets it a first time
  first : (ok : ℕ → Bool) (t : ℕ) {k a x : ℕ} {c : Cost} → Through N ok k a x c → Through N (without ok t) k a x c ⊎ First ok a t c
  first ok t (stay {a = a} h o) = ⊎_elim (λ e. inr (inl e)) (λ ne. inl (stay h (without_other ok t a o ne))) (cases_eq a t)
  first ok t (go {k = k} {a = a} {x = y} {d = d} {c = c} {w = w} r l o) = after (first ok t r)
    where
      dearer : N.rule.lower (N.rule.join c w) c ≡ false
      dearer = le_join N.rule sound.lawful c w (sound.costs y d w l)

      met : First ok a t c → First ok a t (N.rule.join c w)
      met (inl e) = inl e
      met (inr q) =
          inr (q.0, q.1, q.2, q.3, q.4, q.5, le_trans N.rule sound.lawful (N.rule.join q.2 q.3) c (N.rule.join c w) q.6 dearer)

      after : Through N (without ok t) k a y c ⊎ First ok a t c → Through N (without ok t) (suc k) a d (N.rule.join c w) ⊎ First ok a t (N.rule.join c w)
      after (inl s) =
          ⊎_elim (λ (e : d ≡ t). inr (inr (k, y, c, w, s, subst (λ z. N.link y z ≡ Some w) e l, sound.lawful.irreflexive (N.rule.join c w))))
          (λ ne. inl (go s l (without_other ok t d o ne))) (cases_eq d t)
      after (inr f) = inr (met f)

  -- a route through m routers can be had with fewer than m links, and no dearer
  shorten : (m : ℕ) (ok : ℕ → Bool) → size N.count ok ≤ m → {k a d : ℕ} {c : Cost} → Through N ok k a d c →
      (j : ℕ) × (b : Cost) × (j < m) × Through N ok j a d b × (N.rule.lower c b ≡ false)
  shorten zero ok h {k} {a} {d} {c} r =
      absurd (omega (arith, size_less N.count (λ x. false) ok (λ x l e. absurd (both_ways false refl e)) d (end_below N sound r) refl (end_ok N r)))
  shorten (suc m) ok h {k} {a} {d} {c} r =
      ⊎_elim (λ s. absurd (both_ways (without ok d d) (without_self ok d) (end_ok N s)))
      (cut (λ k' a' x c' s. shorten m (without ok d) fewer s)) (first ok d r)
    where
      fewer : size N.count (without ok d) ≤ m
      fewer = omega (arith, size_less N.count (without ok d) ok (λ x l. without_weaker ok d x) d (end_below N sound r) (without_self ok d) (end_ok N r))

      cut : ((k a x : ℕ) (c : Cost) → Through N (without ok d) k a x c → (j : ℕ) × (b : Cost) × (j < m) × Through N (without ok d) j a x b × (N.rule.lower c b ≡ false)) →
          First ok a d c → (j : ℕ) × (b : Cost) × (j < suc m) × Through N ok j a d b × (N.rule.lower c b ≡ false)
      cut below (inl e) =
          (0, N.rule.zero, omega arith, stay_at N ok a d N.rule.zero (subst (λ z. z < N.count) (sym e) (end_below N sound r)) (subst (λ z. ok z ≡ true) (sym e) (end_ok N r)) e refl, zero_least N sound r)
      cut below (inr q) =
          let s = below q.0 a q.1 q.2 q.4 in (
            suc s.0,
            N.rule.join s.1 q.3,
            omega (arith, s.2),
            go (widen N ok (without_weaker ok d) s.3) q.5 (end_ok N r),
            le_trans N.rule sound.lawful (N.rule.join s.1 q.3) (N.rule.join q.2 q.3) c (sound.lawful.monotone s.1 q.2 q.3 s.4) q.6,
          )

  -- some route with fewer links than there are routers is no dearer
  pub short : {k a d : ℕ} {c : Cost} → Route N k a d c →
      (j : ℕ) × (b : Cost) × (j < N.count) × Route N j a d b × (N.rule.lower c b ≡ false)
  short r = shorten N.count (λ x. true) (size_most N.count (λ x. true)) r

  -- best is the least over the routes of at most 99 links, and so over all routes
  pub best_bounded : (a d : ℕ) → IsLeast N.rule (λ c. (k : ℕ) × (k ≤ 99) × Route N k a d c) (best N a d)
  unfolding best route_costs
  best_bounded a d =
      same_least N.rule sound.lawful (λ c. Memᴰ c (gather 100 (λ k. costs N k a d))) (λ c. (k : ℕ) × (k ≤ 99) × Route N k a d c)
      (least_of N.rule (gather 100 (λ k. costs N k a d)))
      (λ c m. let q = gather_has 100 (λ k. costs N k a d) c m in (q.0, omega (arith, q.1), costs_route N q.0 a d c q.2))
      (λ c q. in_gather 100 (λ k. costs N k a d) c q.0 (omega (arith, q.1)) (in_costs N sound q.2))
      (least_list N.rule sound.lawful (gather 100 (λ k. costs N k a d)))

  pub best_least : (a d : ℕ) → IsLeast N.rule (λ c. (k : ℕ) × Route N k a d c) (best N a d)
  best_least a d =
      extend N.rule sound.lawful (λ c. (k : ℕ) × (k ≤ 99) × Route N k a d c) (λ c. (k : ℕ) × Route N k a d c) (best N a d)
      (λ c q. (q.0, q.2)) (λ c q. let s = short q.1 in (s.1, (s.0, omega (arith, s.2, sound.few), s.3), s.4)) (best_bounded a d)

  -- rounds is the least over the routes of at most k links
  pub rounds_least : (k a d : ℕ) → IsLeast N.rule (λ c. (j : ℕ) × (j ≤ k) × Route N j a d c) (rounds N k a d)
  unfolding rounds
  rounds_least zero a d = at (eqb a d && ltb a N.count) refl
    where
      still : (j : ℕ) (c : Cost) → j ≤ 0 → Ends N (λ x. true) j a d c → eqb a d && ltb a N.count ≡ true
      still j c h (inl q) = and_from (eqb a d) (ltb a N.count) (eq-eqb a d q.1) (lt-ltb a N.count q.2)
      still j c h (inr q) = absurd (omega (arith, q.4))

      at : (t : Bool) → eqb a d && ltb a N.count ≡ t → IsLeast N.rule (λ c. (j : ℕ) × (j ≤ 0) × Route N j a d c) (cond t (Some N.rule.zero) None)
      at true e =
          let p = and_parts (eqb a d) (ltb a N.count) e in
          record {
            holds = (0, omega arith, stay_at N (λ x. true) a d N.rule.zero (ltb-true a N.count p.1) refl (eqb-true a d p.0) refl);
            lowest = λ x q. zero_least N sound q.2;
          }
      at false e = λ x q. both_ways (eqb a d && ltb a N.count) e (still q.0 x q.1 (ends N q.2))
  rounds_least (suc k) a d =
      same_least N.rule sound.lawful (λ c. Old c ⊎ New c) (λ c. (j : ℕ) × (j ≤ suc k) × Route N j a d c)
      (lesser N.rule (rounds N k a d) (least_below N.rule N.count (λ x. joined N.rule (rounds N k a x) (N.link x d))))
      (λ c. ⊎_elim (λ q. (q.0, omega (arith, q.1), q.2))
      (λ q. let p = q.2 in (suc p.2.0, omega (arith, p.2.1), go_at N (λ x. true) p.2.0 a q.0 d p.0 p.1 c p.2.2 p.3 refl p.4)))
      (λ c q. last q.0 c q.1 (ends N q.2))
      (least_lesser N.rule sound.lawful Old New (rounds N k a d) (least_below N.rule N.count (λ x. joined N.rule (rounds N k a x) (N.link x d)))
      (rounds_least k a d)
      (least_each N.rule sound.lawful N.count (λ x c. (b w : Cost) × ((j : ℕ) × (j ≤ k) × Route N j a x b) × (N.link x d ≡ Some w) × (c ≡ N.rule.join b w))
      (λ x. joined N.rule (rounds N k a x) (N.link x d))
      (λ x h. least_joined N.rule sound.lawful (λ c. (j : ℕ) × (j ≤ k) × Route N j a x c) (rounds N k a x) (N.link x d) (rounds_least k a x))))
    where
      Old : Cost → Type 0
      Old c = (j : ℕ) × (j ≤ k) × Route N j a d c

      New : Cost → Type 0
      New c = (x : ℕ) × (x < N.count) × ((b w : Cost) × ((j : ℕ) × (j ≤ k) × Route N j a x b) × (N.link x d ≡ Some w) × (c ≡ N.rule.join b w))

      last : (j : ℕ) (c : Cost) → j ≤ suc k → Ends N (λ x. true) j a d c → Old c ⊎ New c
      last j c h (inl q) = inl (0, omega arith, stay_at N (λ x. true) a d c q.2 refl q.1 q.3)
      last j c h (inr q) = inr (q.1, sound.from q.1 d q.3 q.6, (q.2, q.3, (q.0, omega (arith, q.4), q.5), q.6, q.8))

  -- count - 1 rounds of relaxing give the best costs
  pub best_rounds : (a d : ℕ) → best N a d ≡ rounds N (N.count - 1) a d
  best_rounds a d =
      unique N.rule sound.lawful (λ c. (k : ℕ) × Route N k a d c) (best N a d) (rounds N (N.count - 1) a d) (best_least a d)
      (extend N.rule sound.lawful (λ c. (j : ℕ) × (j ≤ N.count - 1) × Route N j a d c) (λ c. (k : ℕ) × Route N k a d c)
      (rounds N (N.count - 1) a d) (λ c q. (q.0, q.2))
      (λ c q. let s = short q.1 in (s.1, (s.0, omega (arith, s.2), s.3), s.4)) (rounds_least (N.count - 1) a d))
