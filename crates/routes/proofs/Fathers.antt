-- The best costs of one root, and its tree: fathers, tree hops, and the costs of tree paths.
use Rattle.std.proofs.Common.{◌≡◌, ℕ, zero, suc, ◌<◌, true, false, not, ◌≢◌, ◌⊎◌, ◌↔◌, Some, None, Option, sym, refl, ap, ◌∙◌, subst, inl, inr, ⊎_elim, arith}
use Rattle.std.proofs.lemmas.Bool.{both_ways, cases_order, and_parts, not-true}
use Rattle.costs.specs.Costs.{Costs, Laws}
use Rattle.routes.specs.Leasts.{joined, same}
use Rattle.routes.specs.Network.{Network, Sound}
use Rattle.routes.specs.Routes.{stay, go, Route, best}
use Rattle.routes.specs.Tree.{Fathers, Chooses, possible_father, PossibleFather, lowest_father}
use Rattle.routes.proofs.Members.{none_some, some_inj, cases_option, lowest_passes, lowest_first_lem, lowest_some}
use Rattle.routes.proofs.Order.{higher, unique, least_at, least_some}
use Rattle.routes.proofs.Ranks.{rank, rank_below, rank_less}
use Rattle.routes.proofs.Routes.{Ends, ends, zero_least, best_least}

module _ {Cost : Type 0} (K : Costs Cost) where
  -- two costs that pass for the same are equal
  same_both : (laws : Laws K) (o o' : Option Cost) → same K o o' ≡ true → (a : Cost) × (o ≡ Some a) × (o' ≡ Some a)
  unfolding same
  same_both laws None o' e = absurd (both_ways false refl e)
  same_both laws (Some a) None e = absurd (both_ways false refl e)
  same_both laws (Some a) (Some b) e =
      let q = and_parts (not (K.lower a b)) (not (K.lower b a)) e in
      let d = laws.total a b (not-true (K.lower a b) q.0) (not-true (K.lower b a) q.1) in
      (a, refl, ap Some (sym d))

  same_self : (laws : Laws K) (a : Cost) → same K (Some a) (Some a) ≡ true
  unfolding same
  same_self laws a = rw (laws.irreflexive a) refl

  pub joined_both : (o l : Option Cost) (c : Cost) → joined K o l ≡ Some c → (a w : Cost) × (o ≡ Some a) × (l ≡ Some w) × (c ≡ K.join a w)
  unfolding joined
  joined_both None l c e = absurd (none_some c e)
  joined_both (Some a) None c e = absurd (none_some c e)
  joined_both (Some a) (Some w) c e = (a, w, refl, refl, sym (some_inj (K.join a w) c e))

  pub joined_some : (o l : Option Cost) (a w : Cost) → o ≡ Some a → l ≡ Some w → joined K o l ≡ Some (K.join a w)
  unfolding joined
  joined_some o l a w e e' = rw (e, e')

module _ {Cost : Type 0} (N : Network Cost) (sound : Sound N) (root : ℕ) where
  pub best_root : root < N.count → best N root root ≡ Some N.rule.zero
  best_root h =
      unique N.rule sound.lawful (λ c. (k : ℕ) × Route N k root root c) (best N root root) (Some N.rule.zero) (best_least N sound root root)
      (record { holds = (0, stay h refl); lowest = λ x q. zero_least N sound q.1 })

  -- a link leads to a router at no more than the costs so far and of the link
  pub best_link : (x d : ℕ) (c w : Cost) → best N root x ≡ Some c → N.link x d ≡ Some w →
      (b : Cost) × (best N root d ≡ Some b) × (N.rule.lower (N.rule.join c w) b ≡ false)
  best_link x d c w e l =
      let r = (least_some N.rule sound.lawful (λ c. (k : ℕ) × Route N k root x c) (best N root x) c (best_least N sound root x) e).holds in
      let q = least_at N.rule sound.lawful (λ c. (k : ℕ) × Route N k root d c) (best N root d) (N.rule.join c w) (best_least N sound root d) (suc r.0, go r.1 l refl) in
      (q.0, q.1, q.3)

  abbrev Reached : ℕ → Cost → Type 0
  Reached d b = (x : ℕ) × (c w : Cost) × (best N root x ≡ Some c) × (N.link x d ≡ Some w) × (b ≡ N.rule.join c w)

  -- a best cost is zero at the root, or that of another router and a link
  best_last : (d : ℕ) (b : Cost) → best N root d ≡ Some b → ((root ≡ d) × (root < N.count)) ⊎ Reached d b
  best_last d b e = by (ends N r.1)
    where
      r : (k : ℕ) × Route N k root d b
      r = (least_some N.rule sound.lawful (λ c. (k : ℕ) × Route N k root d c) (best N root d) b (best_least N sound root d) e).holds

      by : Ends N (λ x. true) r.0 root d b → ((root ≡ d) × (root < N.count)) ⊎ Reached d b
      by (inl q) = inl (q.1, q.2)
      by (inr q) =
          let x = q.1 in let w = q.3 in
          let p = least_at N.rule sound.lawful (λ c. (k : ℕ) × Route N k root x c) (best N root x) q.2 (best_least N sound root x) (q.0, q.5) in
          let s = best_link x d p.0 w p.1 q.6 in
          let up : N.rule.lower b (N.rule.join p.0 w) ≡ false = rw q.8 (sound.lawful.monotone p.0 q.2 w p.3) in
          let eb = some_inj s.0 b (sym s.1 ∙ e) in
          let down : N.rule.lower (N.rule.join p.0 w) b ≡ false = subst (λ z. N.rule.lower (N.rule.join p.0 w) z ≡ false) eb s.2 in
          inr (x, p.0, w, p.1, q.6, sound.lawful.total b (N.rule.join p.0 w) up down)

  pub root_below : (d : ℕ) (b : Cost) → best N root d ≡ Some b → root < N.count
  root_below d b e = start r.0 d b r.1
    where
      r : (k : ℕ) × Route N k root d b
      r = (least_some N.rule sound.lawful (λ c. (k : ℕ) × Route N k root d c) (best N root d) b (best_least N sound root d) e).holds

      start : (k d : ℕ) (b : Cost) → Route N k root d b → root < N.count
      start zero d b s = ⊎_elim (λ q. q.2) (λ q. absurd (omega (arith, q.4))) (ends N s)
      start (suc k) d b s = ⊎_elim (λ q. q.2) (λ q. start k q.1 q.2 (subst (λ j. Route N j root q.1 q.2) (omega (arith, q.4)) q.5)) (ends N s)

  pub depth : ℕ → ℕ
  depth = rank N.rule sound.lawful N.count (best N root)

  pub depth_below : (d : ℕ) → d < N.count → depth d < N.count
  unfolding depth
  depth_below = rank_below N.rule sound.lawful N.count (best N root)

  -- a neighbour of the root has a best cost, and is not the root
  pub neighbour : (v : ℕ) (w : Cost) → N.link root v ≡ Some w → (b : Cost) × (best N root v ≡ Some b) × (v ≢ root)
  neighbour v w l =
      let q = best_link root v N.rule.zero w (best_root (sound.from root v w l)) l in
      (q.0, q.1, λ e. sound.apart root v w l (sym e))

  -- the test of a possible father, and the statement
  possible_passes : (d x : ℕ) → PossibleFather N root x d → possible_father N root x d ≡ true
  unfolding possible_father
  possible_passes d x q =
      rw (joined_some N.rule (best N root x) (N.link x d) q.0 q.1 q.2 q.3, q.4) (same_self N.rule sound.lawful (N.rule.join q.0 q.1))

  passes_possible : (d x : ℕ) → possible_father N root x d ≡ true → PossibleFather N root x d
  unfolding possible_father
  passes_possible d x e =
      let s = same_both N.rule sound.lawful (joined N.rule (best N root x) (N.link x d)) (best N root d) e in
      let j = joined_both N.rule (best N root x) (N.link x d) s.0 s.1 in
      (j.0, j.1, j.2, j.3, s.2 ∙ ap Some j.4)

  -- the lowest possible father
  pub lowest_is : (d x : ℕ) → (lowest_father N root d ≡ Some x) ↔ (PossibleFather N root x d × ((y : ℕ) → y < x → PossibleFather N root y d → ⊥))
  unfolding lowest_father
  lowest_is d x = (
    λ e. (
      passes_possible d x (lowest_passes N.count (λ y. possible_father N root y d) x e).1,
      λ y h l. lowest_first_lem N.count (λ z. possible_father N root z d) x y e h (possible_passes d y l),
    ),
    λ q. let f = lowest_some N.count (λ y. possible_father N root y d) x (sound.from x d q.0.1 q.0.3) (possible_passes d x q.0) in
        let l = passes_possible d f.0 (lowest_passes N.count (λ y. possible_father N root y d) f.0 f.1).1 in
        f.1 ∙ ap Some (⊎_elim (λ e. e) (⊎_elim (λ h. absurd (q.1 f.0 h l)) (λ h. absurd (lowest_first_lem N.count (λ z. possible_father N root z d) f.0 x f.1 h (possible_passes d x q.0))))
        (cases_order f.0 x)),
  )

-- Taking the lowest chooses.
pub lowest_chooses : {Cost : Type 0} (N : Network Cost) → Sound N → Chooses N (lowest_father N)
unfolding lowest_father
lowest_chooses N sound =
    record {
      possible = λ root d x e. passes_possible N sound root d x (lowest_passes N.count (λ y. possible_father N root y d) x e).1;
      chosen = λ root d x p e.
          let q = lowest_some N.count (λ y. possible_father N root y d) x (sound.from x d p.1 p.3) (possible_passes N sound root d x p) in
          none_some q.0 (sym e ∙ q.1);
    }

-- The fathers that are chosen.
module _ {Cost : Type 0} (N : Network Cost) (sound : Sound N) (father : Fathers) (chooses : Chooses N father) (root : ℕ) where
  pub record Fathered (d x : ℕ) : Type 0 where
    pub before : Cost
    pub last : Cost
    pub best_before : best N root x ≡ Some before
    pub linked : N.link x d ≡ Some last
    pub best_here : best N root d ≡ Some (N.rule.join before last)

  pub father_is : (d x : ℕ) → father root d ≡ Some x → Fathered d x
  father_is d x e =
      let q = chooses.possible root d x e in
      record { before = q.0; last = q.1; best_before = q.2; linked = q.3; best_here = q.4 }

  pub father_some : (d : ℕ) (b : Cost) → best N root d ≡ Some b → d ≢ root → (x : ℕ) × (father root d ≡ Some x)
  father_some d b e ne = by (best_last N sound root d b e)
    where
      by : ((root ≡ d) × (root < N.count)) ⊎ Reached N sound root d b → (x : ℕ) × (father root d ≡ Some x)
      by (inl q) = absurd (ne (sym q.0))
      by (inr q) =
          ⊎_elim (λ n. absurd (chooses.chosen root d q.0 (q.1, q.2, q.3, q.4, e ∙ ap Some q.5) n)) (λ s. s) (cases_option (father root d))

  pub father_lower : (d x : ℕ) (f : Fathered d x) → N.rule.lower f.before (N.rule.join f.before f.last) ≡ true
  father_lower d x f = higher N.rule sound.lawful f.before f.last (sound.costs x d f.last f.linked)

  pub father_depth : (d x : ℕ) → father root d ≡ Some x → depth N sound root x < depth N sound root d
  unfolding depth
  father_depth d x e =
      let f = father_is d x e in
      rank_less N.rule sound.lawful N.count (best N root) x d f.before (N.rule.join f.before f.last) (sound.from x d f.last f.linked) f.best_before f.best_here (father_lower d x f)

  pub root_fatherless : father root root ≡ None
  root_fatherless = ⊎_elim (λ e. e) (λ q. absurd (none q.0 q.1)) (cases_option (father root root))
    where
      none : (x : ℕ) → father root root ≡ Some x → ⊥
      none x e =
          let f = father_is root x e in
          let r = (least_some N.rule sound.lawful (λ c. (k : ℕ) × Route N k root x c) (best N root x) f.before (best_least N sound root x) f.best_before).holds in
          let z = some_inj (N.rule.join f.before f.last) N.rule.zero (sym f.best_here ∙ best_root N sound root (root_below N sound root x f.before f.best_before)) in
          both_ways (N.rule.lower f.before N.rule.zero) (zero_least N sound r.1)
          (subst (λ b. N.rule.lower f.before b ≡ true) z (father_lower root x f))
