-- Relaxed costs are the best costs, and settling the nearest router first comes to them.
use Rattle.std.proofs.Common.{◌≡◌, ℕ, zero, suc, ◌<◌, Bool, true, false, cond, ◌||◌, eqb, ◌⊎◌, Some, None, Option, sym, refl, ap, ◌∙◌, subst, inl, inr, ⊎_elim, arith}
use Rattle.std.proofs.lemmas.Bool.{both_ways, cases_eq, or_cases, or_parts, or_left, or_right, eqb-true, eq-eqb}
use Rattle.routes.specs.Leasts.{IsLeast, lesser, joined}
use Rattle.routes.specs.Network.{Network, Sound}
use Rattle.routes.specs.Routes.{stay, go, Route, best}
use Rattle.routes.specs.Settling.{Comes, Within, Relaxed, Settling, Nearest}
use Rattle.routes.proofs.Members.{none_some, some_inj, cases_option}
use Rattle.routes.proofs.Order.{higher, le_trans, not_above, unique}
use Rattle.routes.proofs.Ranks.{rank, rank_less}
use Rattle.routes.proofs.Routes.{stay_at, go_at, best_least}

module _ {Cost : Type 0} (N : Network Cost) (sound : Sound N) (root : ℕ) where
  module _ (f : ℕ → Option Cost) (h : root < N.count) (r : Relaxed N root f) where
    -- no route is below f
    bound : {k a d : ℕ} {c : Cost} → Route N k a d c → a ≡ root → Within N f d c
    bound (stay l o) e =
        (N.rule.zero, rw e r.at_root, sound.lawful.irreflexive N.rule.zero)
    bound (go {x = x} {d = d} {c = c} {w = w} s l o) e =
        let q = bound s e in
        let p = r.within x d q.0 w q.1 l in
        (p.0, p.1, le_trans N.rule sound.lawful p.0 (N.rule.join q.0 w) (N.rule.join c w) p.2 (sound.lawful.monotone q.0 c w q.2))

    -- and f is the cost of a route
    route : (k d : ℕ) (b : Cost) → rank N.rule sound.lawful N.count f d < k → d < N.count → f d ≡ Some b → (j : ℕ) × Route N j root d b
    route zero d b m l e = absurd (omega arith)
    route (suc k) d b m l e =
        ⊎_elim (λ (s : d ≡ root). (0, stay_at N (λ x. true) root d b h refl (sym s) (some_inj b N.rule.zero (sym e ∙ ap f s ∙ r.at_root))))
        (λ ne.
        let q = r.comes d b l e ne in
        let x = q.0 in let c = q.1 in let w = q.2 in
        let lx = sound.from x d w q.5 in
        let lower = subst (λ z. N.rule.lower c z ≡ true) (sym q.6) (higher N.rule sound.lawful c w (sound.costs x d w q.5)) in
        let less = rank_less N.rule sound.lawful N.count f x d c b lx q.4 e lower in
        let s = route k x c (omega arith) lx q.4 in
        (suc s.0, go_at N (λ y. true) s.0 root x d c w b s.1 q.5 refl q.6))
        (cases_eq d root)

    pub relaxed_best : (d : ℕ) → d < N.count → f d ≡ best N root d
    relaxed_best d l =
        unique N.rule sound.lawful (λ c. (k : ℕ) × Route N k root d c) (f d) (best N root d) (⊎_elim none some' (cases_option (f d))) (best_least N sound root d)
      where
        none : f d ≡ None → IsLeast N.rule (λ c. (k : ℕ) × Route N k root d c) (f d)
        none e = subst (IsLeast N.rule (λ c. (k : ℕ) × Route N k root d c)) (sym e) (λ c q. let s = bound q.1 refl in none_some s.0 (sym e ∙ s.1))

        some' : (b : Cost) × (f d ≡ Some b) → IsLeast N.rule (λ c. (k : ℕ) × Route N k root d c) (f d)
        some' p =
            subst (IsLeast N.rule (λ c. (k : ℕ) × Route N k root d c)) (sym p.1)
            (record {
              holds = route (suc (rank N.rule sound.lawful N.count f d)) d p.0 (omega arith) l p.1;
              lowest = λ c q. let s = bound q.1 refl in subst (λ z. N.rule.lower c z ≡ false) (some_inj s.0 p.0 (sym s.1 ∙ p.1)) s.2;
            })

  pub settling_begins : root < N.count → Settling N root (λ x. false) (λ x. cond (eqb x root) (Some N.rule.zero) None)
  settling_begins h =
      record {
        at_root = ap (λ t. cond t (Some N.rule.zero) None) (eq-eqb root root refl);
        known = λ x e. absurd (both_ways false refl e);
        above_zero = λ d b e. rw (only d b e).1 (sound.lawful.irreflexive N.rule.zero);
        comes = λ d b e ne. absurd (ne (only d b e).0);
        within = λ x d c w e. absurd (both_ways false refl e);
        nearer = λ x y a b e. absurd (both_ways false refl e);
      }
    where
      by : (t : Bool) (d : ℕ) (b : Cost) → eqb d root ≡ t → cond t (Some N.rule.zero) None ≡ Some b → (d ≡ root) × (b ≡ N.rule.zero)
      by true d b t e = (eqb-true d root t, sym (some_inj N.rule.zero b e))
      by false d b t e = absurd (none_some b e)

      only : (d : ℕ) (b : Cost) → cond (eqb d root) (Some N.rule.zero) None ≡ Some b → (d ≡ root) × (b ≡ N.rule.zero)
      only d b e = by (eqb d root) d b refl e

  pub settling_ends : (done : ℕ → Bool) (f : ℕ → Option Cost) → root < N.count → Settling N root done f → ((x : ℕ) (c : Cost) → f x ≡ Some c → done x ≡ true) →
      (d : ℕ) → d < N.count → f d ≡ best N root d
  settling_ends done f h s all =
      relaxed_best f h
      (record {
        at_root = s.at_root;
        comes = λ d b l e ne. let q = s.comes d b e ne in (q.0, q.1, q.2, refl, q.4, q.5, q.6);
        within = λ x d c w e l. s.within x d c w (all x c e) e l;
      })

  module _ (done : ℕ → Bool) (f : ℕ → Option Cost) (u : ℕ) (c : Cost) (s : Settling N root done f) (n : Nearest N done f u c) where
    abbrev f' : ℕ → Option Cost
    f' d = lesser N.rule (f d) (joined N.rule (Some c) (N.link u d))

    abbrev done' : ℕ → Bool
    done' x = done x || eqb x u

    -- a cost after the step is the old one, or comes over a link from u, which improves on the old one if there was one
    abbrev New : ℕ → Cost → Type 0
    New d b = (f d ≡ Some b) ⊎ ((w : Cost) × (N.link u d ≡ Some w) × (b ≡ N.rule.join c w) × ((a : Cost) → f d ≡ Some a → N.rule.lower b a ≡ true))

    new : (d : ℕ) (b : Cost) → f' d ≡ Some b → New d b
    unfolding lesser joined
    new d b e = by (f d) refl (N.link u d) refl e
      where
        pick : (a w : Cost) (t : Bool) → f d ≡ Some a → N.link u d ≡ Some w → N.rule.lower (N.rule.join c w) a ≡ t → cond t (Some (N.rule.join c w)) (Some a) ≡ Some b → New d b
        pick a w true ef el et q =
            let eb = some_inj (N.rule.join c w) b q in
            inr (w, el, sym eb, λ a' ea. subst (λ z. N.rule.lower z a' ≡ true) eb (subst (λ z. N.rule.lower (N.rule.join c w) z ≡ true) (some_inj a a' (sym ef ∙ ea)) et))
        pick a w false ef el et q = inl (ef ∙ q)

        by : (o : Option Cost) → f d ≡ o → (l : Option Cost) → N.link u d ≡ l → lesser N.rule o (joined N.rule (Some c) l) ≡ Some b → New d b
        by None ef None el q = absurd (none_some b q)
        by None ef (Some w) el q = inr (w, el, sym (some_inj (N.rule.join c w) b q), λ a ea. absurd (none_some a (sym ef ∙ ea)))
        by (Some a) ef None el q = inl (ef ∙ q)
        by (Some a) ef (Some w) el q = pick a w (N.rule.lower (N.rule.join c w) a) ef el refl q

    -- after the step no cost is above the old one, nor above one over a link from u
    old_within : (d : ℕ) (a : Cost) → f d ≡ Some a → Within N f' d a
    unfolding lesser joined
    old_within d a e = subst (λ o. (b : Cost) × (lesser N.rule o (joined N.rule (Some c) (N.link u d)) ≡ Some b) × (N.rule.lower a b ≡ false)) (sym e) (by (N.link u d))
      where
        pick : (w : Cost) (t : Bool) → N.rule.lower (N.rule.join c w) a ≡ t → (b : Cost) × (cond t (Some (N.rule.join c w)) (Some a) ≡ Some b) × (N.rule.lower a b ≡ false)
        pick w true et = (N.rule.join c w, refl, not_above N.rule sound.lawful (N.rule.join c w) a et)
        pick w false et = (a, refl, sound.lawful.irreflexive a)

        by : (l : Option Cost) → (b : Cost) × (lesser N.rule (Some a) (joined N.rule (Some c) l) ≡ Some b) × (N.rule.lower a b ≡ false)
        by None = (a, refl, sound.lawful.irreflexive a)
        by (Some w) = pick w (N.rule.lower (N.rule.join c w) a) refl

    new_within : (d : ℕ) (w : Cost) → N.link u d ≡ Some w → Within N f' d (N.rule.join c w)
    unfolding lesser joined
    new_within d w e = subst (λ l. (b : Cost) × (lesser N.rule (f d) (joined N.rule (Some c) l) ≡ Some b) × (N.rule.lower (N.rule.join c w) b ≡ false)) (sym e) (by (f d))
      where
        pick : (a : Cost) (t : Bool) → N.rule.lower (N.rule.join c w) a ≡ t → (b : Cost) × (cond t (Some (N.rule.join c w)) (Some a) ≡ Some b) × (N.rule.lower (N.rule.join c w) b ≡ false)
        pick a true et = (N.rule.join c w, refl, sound.lawful.irreflexive (N.rule.join c w))
        pick a false et = (a, refl, et)

        by : (o : Option Cost) → (b : Cost) × (lesser N.rule o (Some (N.rule.join c w)) ≡ Some b) × (N.rule.lower (N.rule.join c w) b ≡ false)
        by None = (N.rule.join c w, refl, sound.lawful.irreflexive (N.rule.join c w))
        by (Some a) = pick a (N.rule.lower (N.rule.join c w) a) refl

    -- a link from u leads above c
    above : (d : ℕ) (w : Cost) → N.link u d ≡ Some w → N.rule.lower c (N.rule.join c w) ≡ true
    above d w l = higher N.rule sound.lawful c w (sound.costs u d w l)

    -- what is not above c stays as it is
    kept : (x : ℕ) (a : Cost) → f x ≡ Some a → N.rule.lower c a ≡ false → f' x ≡ Some a
    kept x a e h =
        let q = old_within x a e in
        q.1 ∙ sym (ap Some (⊎_elim (λ p. some_inj a q.0 (sym e ∙ p))
        (λ p. absurd (both_ways (N.rule.lower c a) h (sound.lawful.transitive c q.0 a (subst (λ z. N.rule.lower c z ≡ true) (sym p.2) (above x p.0 p.1)) (p.3 a e)))) (new x q.0 q.1)))

    pub done_kept : (x : ℕ) (a : Cost) → done x ≡ true → f x ≡ Some a → f' x ≡ Some a
    done_kept x a d e = kept x a e (s.nearer x u a c d n.waits e n.costs)

    pub u_kept : f' u ≡ Some c
    u_kept = kept u c n.costs (sound.lawful.irreflexive c)

    c_above_zero : N.rule.lower c N.rule.zero ≡ false
    c_above_zero = s.above_zero u c n.costs

    -- the cost of a done router after the step, and where it stands to c
    record Done (x : ℕ) (a : Cost) : Type 0 where
      was : f x ≡ Some a
      under : N.rule.lower c a ≡ false
      self : (done x ≡ true) ⊎ (x ≡ u)

    done_is : (x : ℕ) (a : Cost) → done' x ≡ true → f' x ≡ Some a → Done x a
    done_is x a t e =
        ⊎_elim
        (λ d. let q = s.known x d in
        let p = q.1 ∙ ap Some (some_inj q.0 a (sym (done_kept x q.0 d q.1) ∙ e)) in
        record { was = p; under = s.nearer x u a c d n.waits p n.costs; self = inl d })
        (λ d. let eu = eqb-true x u d in
        let ea = some_inj c a (sym u_kept ∙ sym (ap f' eu) ∙ e) in
        record { was = ap f eu ∙ n.costs ∙ ap Some ea; under = subst (λ z. N.rule.lower c z ≡ false) ea (sound.lawful.irreflexive c); self = inr eu })
        (or_cases (done x) (eqb x u) t)

    pub settling_steps_lem : Settling N root done' f'
    settling_steps_lem =
        record {
          at_root = kept root N.rule.zero s.at_root c_above_zero;
          known = λ x t. ⊎_elim (λ d. let q = s.known x d in (q.0, done_kept x q.0 d q.1)) (λ d. (c, ap f' (eqb-true x u d) ∙ u_kept)) (or_cases (done x) (eqb x u) t);
          above_zero = λ d b e. ⊎_elim (λ p. s.above_zero d b p) (λ p. over_zero d b p.0 p.1 p.2) (new d b e);
          comes = λ d b e ne. ⊎_elim (λ p. old d b (s.comes d b p ne)) (λ p. (u, c, p.0, or_right (done u) (eqb u u) (eq-eqb u u refl), u_kept, p.1, p.2)) (new d b e);
          within = λ x d a w t e l. relaxed x d a w (done_is x a t e) l;
          nearer = λ x y a b t t' e e'. apart x y a b (done_is x a t e) (or_parts (done y) (eqb y u) t') (new y b e');
        }
      where
        over_zero : (d : ℕ) (b w : Cost) → N.link u d ≡ Some w → b ≡ N.rule.join c w → N.rule.lower b N.rule.zero ≡ false
        over_zero d b w l eb =
            subst (λ z. N.rule.lower z N.rule.zero ≡ false) (sym eb)
            (le_trans N.rule sound.lawful N.rule.zero c (N.rule.join c w) c_above_zero (not_above N.rule sound.lawful c (N.rule.join c w) (above d w l)))

        old : (d : ℕ) (b : Cost) → Comes N done f d b → Comes N done' f' d b
        old d b q = (q.0, q.1, q.2, or_left (done q.0) (eqb q.0 u) q.3, done_kept q.0 q.1 q.3 q.4, q.5, q.6)

        lower_old : (d : ℕ) (b : Cost) → Within N f d b → Within N f' d b
        lower_old d b q =
            let p = old_within d q.0 q.1 in
            (p.0, p.1, le_trans N.rule sound.lawful p.0 q.0 b p.2 q.2)

        relaxed : (x d : ℕ) (a w : Cost) → Done x a → N.link x d ≡ Some w → Within N f' d (N.rule.join a w)
        relaxed x d a w i l =
            ⊎_elim (λ t. lower_old d (N.rule.join a w) (s.within x d a w t i.was l))
            (λ eu. let ea = some_inj c a (sym n.costs ∙ sym (ap f eu) ∙ i.was) in
            subst (λ z. Within N f' d (N.rule.join z w)) ea (new_within d w (subst (λ z. N.link z d ≡ Some w) eu l)))
            i.self

        apart : (x y : ℕ) (a b : Cost) → Done x a → (done y ≡ false) × (eqb y u ≡ false) → New y b → N.rule.lower b a ≡ false
        apart x y a b i t (inl p) = le_trans N.rule sound.lawful a c b i.under (n.least y b t.0 p)
        apart x y a b i t (inr p) =
            subst (λ z. N.rule.lower z a ≡ false) (sym p.2)
            (le_trans N.rule sound.lawful a c (N.rule.join c p.0) i.under (not_above N.rule sound.lawful c (N.rule.join c p.0) (above y p.0 p.1)))
