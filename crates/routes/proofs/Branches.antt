-- Tree hops and branches, and the costs of tree paths.
use Rattle.std.proofs.Common.{◌≡◌, ℕ, zero, suc, ◌<◌, ◌≤◌, Bool, true, false, cond, eqb, ◌≢◌, List, [], ◌∷◌, ◌++◌, length, Some, None, Option, sym, refl, ap, ◌∙◌, subst, ⊎_elim, arith, length-append}
use Rattle.std.proofs.lemmas.Bool.{cases_eq, eqb-true, eq-eqb, ne_eqb}
use Rattle.routes.specs.Leasts.{joined}
use Rattle.routes.specs.Lists.{when_some}
use Rattle.routes.specs.Network.{Network, Sound}
use Rattle.routes.specs.Routes.{best}
use Rattle.routes.specs.Tree.{second, hop_in, hop, path_in, path, fall_in, fall, Falls, at, on, Fathers, Chooses}
use Rattle.routes.proofs.Members.{none_some, some_inj, cases_option}
use Rattle.routes.proofs.Fathers.{joined_both, joined_some, father_is, father_some, best_root, root_below, root_fatherless, depth, depth_below, father_depth}

module _ {Cost : Type 0} (N : Network Cost) (sound : Sound N) (father : Fathers) (chooses : Chooses N father) (root : ℕ) where
  abbrev dep : ℕ → ℕ
  dep = depth N sound root

  father_below : (d x : ℕ) → father root d ≡ Some x → (d < N.count) × (x < N.count)
  father_below d x e =
      let f = father_is N sound father chooses root d x e in
      (sound.to x d f.last f.linked, sound.from x d f.last f.linked)

  top_fatherless : (d : ℕ) → dep d ≤ 0 → father root d ≡ None
  top_fatherless d h = ⊎_elim (λ e. e) (λ q. absurd (omega (arith, father_depth N sound father chooses root d q.0 q.1))) (cases_option (father root d))

  -- what each router has if its father has it, each router has
  pub tree_induction : (P : ℕ → Type 0) → ((d : ℕ) → ((x : ℕ) → father root d ≡ Some x → P x) → P d) → (d : ℕ) → P d
  tree_induction P step d = within (suc (dep d)) d (omega arith)
    where
      within : (k d : ℕ) → dep d < k → P d
      within zero d h = absurd (omega arith)
      within (suc k) d h = step d (λ x e. within k x (omega (arith, father_depth N sound father chooses root d x e)))

  -- enough steps are as good as more
  hop_stable : (k k' d : ℕ) → dep d < k → dep d < k' → hop_in N father root k d ≡ hop_in N father root k' d
  unfolding hop_in
  hop_stable zero k' d h h' = absurd (omega arith)
  hop_stable (suc k) zero d h h' = absurd (omega arith)
  hop_stable (suc k) (suc k') d h h' = by (hop_stable k k') (father root d) refl
    where
      by : ((x : ℕ) → dep x < k → dep x < k' → hop_in N father root k x ≡ hop_in N father root k' x) → (o : Option ℕ) → father root d ≡ o →
          when_some o None (λ x. cond (eqb x root) (Some d) (hop_in N father root k x)) ≡ when_some o None (λ x. cond (eqb x root) (Some d) (hop_in N father root k' x))
      by more None e = refl
      by more (Some x) e =
          let l = father_depth N sound father chooses root d x e in
          ap (cond (eqb x root) (Some d)) (more x (omega arith) (omega arith))

  hop_father : (d x : ℕ) → father root d ≡ Some x → hop N father root d ≡ cond (eqb x root) (Some d) (hop N father root x)
  unfolding hop hop_in
  hop_father d x e =
      let l = father_depth N sound father chooses root d x e in
      let q = father_below d x e in
      let s = depth_below N sound root d q.0 in
      hop_stable N.count (suc (dep d)) d s (omega arith)
      ∙ ap (λ o. when_some o None (λ y. cond (eqb y root) (Some d) (hop_in N father root (dep d) y))) e
      ∙ ap (cond (eqb x root) (Some d)) (hop_stable (dep d) N.count x l (omega arith))

  pub hop_top : (d : ℕ) → father root d ≡ Some root → hop N father root d ≡ Some d
  hop_top d e = hop_father d root e ∙ ap (λ t. cond t (Some d) (hop N father root root)) (eq-eqb root root refl)

  pub hop_on : (d x : ℕ) → father root d ≡ Some x → x ≢ root → hop N father root d ≡ hop N father root x
  hop_on d x e ne = hop_father d x e ∙ ap (λ t. cond t (Some d) (hop N father root x)) (ne_eqb x root ne)

  hop_fatherless : (d : ℕ) → father root d ≡ None → hop N father root d ≡ None
  unfolding hop
  hop_fatherless d e = none N.count
    where
      none : (k : ℕ) → hop_in N father root k d ≡ None
      none zero = unfold hop_in in refl
      none (suc k) = unfold hop_in in ap (λ o. when_some o None (λ y. cond (eqb y root) (Some d) (hop_in N father root k y))) e

  pub hop_root : hop N father root root ≡ None
  hop_root = hop_fatherless root (root_fatherless N sound father chooses root)

  -- a router with a tree hop is not the root, and has a father
  pub hop_inner : (d h : ℕ) → hop N father root d ≡ Some h → d ≢ root
  hop_inner d h e same = none_some h (sym hop_root ∙ subst (λ z. hop N father root z ≡ Some h) same e)

  pub hop_fathered : (d h : ℕ) → hop N father root d ≡ Some h → (x : ℕ) × (father root d ≡ Some x)
  hop_fathered d h e = ⊎_elim (λ n. absurd (none_some h (sym (hop_fatherless d n) ∙ e))) (λ q. q) (cases_option (father root d))

  -- the tree path of d from the root: by a link to its tree hop, and then down the branch
  pub record Branched (d : ℕ) (b : Cost) : Type 0 where
    pub head : ℕ
    pub first : Cost
    pub after : Cost
    pub hop_here : hop N father root d ≡ Some head
    pub linked : N.link root head ≡ Some first
    pub falls : Falls N father root head d after
    pub whole : b ≡ N.rule.join first after
    pub hop_head : hop N father root head ≡ Some head
    pub father_head : father root head ≡ Some root

  join_zero : (w : Cost) → N.rule.join N.rule.zero w ≡ N.rule.join w N.rule.zero
  join_zero w = sound.lawful.commutative N.rule.zero w

  pub branched : (d : ℕ) (b : Cost) → best N root d ≡ Some b → d ≢ root → Branched d b
  branched = tree_induction (λ d. (b : Cost) → best N root d ≡ Some b → d ≢ root → Branched d b) step
    where
      step : (d : ℕ) → ((x : ℕ) → father root d ≡ Some x → (b : Cost) → best N root x ≡ Some b → x ≢ root → Branched x b) →
          (b : Cost) → best N root d ≡ Some b → d ≢ root → Branched d b
      step d more b e ne =
          let p = father_some N sound father chooses root d b e ne in
          let f = father_is N sound father chooses root d p.0 p.1 in
          let eb = some_inj b (N.rule.join f.before f.last) (sym e ∙ f.best_here) in
          ⊎_elim (λ (r : p.0 ≡ root).
          let fr = subst (λ z. father root d ≡ Some z) r p.1 in
          let z = some_inj f.before N.rule.zero (sym f.best_before ∙ subst (λ y. best N root y ≡ Some N.rule.zero) (sym r) (best_root N sound root (root_below N sound root d b e))) in
          record {
            head = d;
            first = f.last;
            after = N.rule.zero;
            hop_here = hop_top d fr;
            linked = subst (λ y. N.link y d ≡ Some f.last) r f.linked;
            falls = at;
            whole = eb ∙ ap (λ y. N.rule.join y f.last) z ∙ join_zero f.last;
            hop_head = hop_top d fr;
            father_head = fr;
          })
          (λ n.
          let u = more p.0 p.1 f.before f.best_before n in
          record {
            head = u.head;
            first = u.first;
            after = N.rule.join u.after f.last;
            hop_here = hop_on d p.0 p.1 n ∙ u.hop_here;
            linked = u.linked;
            falls = on u.falls p.1 f.linked;
            whole = eb ∙ ap (λ y. N.rule.join y f.last) u.whole ∙ sound.lawful.associative u.first u.after f.last;
            hop_head = u.hop_head;
            father_head = u.father_head;
          })
          (cases_eq p.0 root)

  -- what a tree hop tells
  pub hop_known : (d h : ℕ) → hop N father root d ≡ Some h → (b : Cost) × (best N root d ≡ Some b) × (u : Branched d b) × (u.head ≡ h)
  hop_known d h e =
      let p = hop_fathered d h e in
      let f = father_is N sound father chooses root d p.0 p.1 in
      let u = branched d (N.rule.join f.before f.last) f.best_here (hop_inner d h e) in
      (N.rule.join f.before f.last, f.best_here, u, some_inj u.head h (sym u.hop_here ∙ e))

  -- descending leads away from the root
  pub falls_depth : {v x : ℕ} {c : Cost} → Falls N father root v x c → dep v ≤ dep x
  falls_depth at = omega arith
  falls_depth (on {p = p} {x = x} f g l) = omega (arith, falls_depth f, father_depth N sound father chooses root x p g)

  -- the cost of the tree path from the root is the best cost
  pub falls_best : (d : ℕ) (b : Cost) → best N root d ≡ Some b → Falls N father root root d b
  falls_best = tree_induction (λ d. (b : Cost) → best N root d ≡ Some b → Falls N father root root d b) step
    where
      step : (d : ℕ) → ((x : ℕ) → father root d ≡ Some x → (b : Cost) → best N root x ≡ Some b → Falls N father root root x b) →
          (b : Cost) → best N root d ≡ Some b → Falls N father root root d b
      step d more b e =
          ⊎_elim (λ (r : d ≡ root).
          let z = some_inj b N.rule.zero (sym e ∙ subst (λ y. best N root y ≡ Some N.rule.zero) (sym r) (best_root N sound root (root_below N sound root d b e))) in
          rw (z, r) at)
          (λ ne.
          let p = father_some N sound father chooses root d b e ne in
          let f = father_is N sound father chooses root d p.0 p.1 in
          rw (some_inj b (N.rule.join f.before f.last) (sym e ∙ f.best_here)) (on (more p.0 p.1 f.before f.best_before) p.1 f.linked))
          (cases_eq d root)

  fall_sound : (k v x : ℕ) (c : Cost) → fall_in N father root k v x ≡ Some c → Falls N father root v x c
  unfolding fall_in
  fall_sound zero v x c e = absurd (none_some c e)
  fall_sound (suc k) v x c e = by (fall_sound k v) (eqb v x) refl (father root x) refl e
    where
      by : ((p : ℕ) (b : Cost) → fall_in N father root k v p ≡ Some b → Falls N father root v p b) → (t : Bool) → eqb v x ≡ t → (o : Option ℕ) → father root x ≡ o →
          cond t (Some N.rule.zero) (when_some o None (λ p. joined N.rule (fall_in N father root k v p) (N.link p x))) ≡ Some c → Falls N father root v x c
      by more true et o eo q = rw (← eqb-true v x et, ← some_inj N.rule.zero c q) at
      by more false et None eo q = absurd (none_some c q)
      by more false et (Some p) eo q =
          let j = joined_both N.rule (fall_in N father root k v p) (N.link p x) c q in
          rw j.4 (on (more p j.0 j.2) eo j.3)

  fall_complete : {v x : ℕ} {c : Cost} → Falls N father root v x c → (k : ℕ) → dep x < k → fall_in N father root k v x ≡ Some c
  unfolding fall_in
  fall_complete at zero h = absurd (omega arith)
  fall_complete {v} at (suc k) h = rw (eq-eqb v v refl) refl
  fall_complete (on f g l) zero h = absurd (omega arith)
  fall_complete {v} (on {p = p} {x = x} {c = c} {w = w} f g l) (suc k) h =
      let lt = father_depth N sound father chooses root x p g in
      let ne : v ≡ x → ⊥ = λ e. absurd (omega (arith, falls_depth f, ap dep e)) in
      rw (ne_eqb v x ne, g) (joined_some N.rule (fall_in N father root k v p) (N.link p x) c w (fall_complete f k (omega arith)) l)

  -- fall is the cost of the tree path
  pub fall_falls : (v x : ℕ) (c : Cost) → fall N father root v x ≡ Some c → Falls N father root v x c
  unfolding fall
  fall_falls v x c e = fall_sound N.count v x c e

  pub falls_fall : {v x : ℕ} {c : Cost} → x < N.count → Falls N father root v x c → fall N father root v x ≡ Some c
  unfolding fall
  falls_fall {x = x} h f = fall_complete f N.count (depth_below N sound root x h)

  pub path_stable : (k k' d : ℕ) → dep d ≤ k → dep d ≤ k' → path_in N father root k d ≡ path_in N father root k' d
  unfolding path_in
  path_stable zero zero d h h' = refl
  path_stable zero (suc k') d h h' = ap (λ o. when_some o (d ∷ []) (λ x. path_in N father root k' x ++ d ∷ [])) (sym (top_fatherless d h))
  path_stable (suc k) zero d h h' = ap (λ o. when_some o (d ∷ []) (λ x. path_in N father root k x ++ d ∷ [])) (top_fatherless d h')
  path_stable (suc k) (suc k') d h h' = by (path_stable k k') (father root d) refl
    where
      by : ((x : ℕ) → dep x ≤ k → dep x ≤ k' → path_in N father root k x ≡ path_in N father root k' x) → (o : Option ℕ) → father root d ≡ o →
          when_some o (d ∷ []) (λ x. path_in N father root k x ++ d ∷ []) ≡ when_some o (d ∷ []) (λ x. path_in N father root k' x ++ d ∷ [])
      by more None e = refl
      by more (Some x) e =
          let l = father_depth N sound father chooses root d x e in
          ap (λ xs. xs ++ d ∷ []) (more x (omega arith) (omega arith))

  -- the tree path is that of the father, and then the router itself
  pub path_father : (d x : ℕ) → father root d ≡ Some x → path N father root d ≡ path N father root x ++ d ∷ []
  unfolding path path_in
  path_father d x e =
      let l = father_depth N sound father chooses root d x e in
      let q = father_below d x e in
      let s = depth_below N sound root d q.0 in
      path_stable N.count (suc (dep d)) d (omega arith) (omega arith)
      ∙ ap (λ o. when_some o (d ∷ []) (λ y. path_in N father root (dep d) y ++ d ∷ [])) e
      ∙ ap (λ xs. xs ++ d ∷ []) (path_stable (dep d) N.count x (omega arith) (omega arith))

  path_alone : (d : ℕ) → father root d ≡ None → path N father root d ≡ d ∷ []
  unfolding path
  path_alone d e = alone N.count
    where
      alone : (k : ℕ) → path_in N father root k d ≡ d ∷ []
      alone zero = unfold path_in in refl
      alone (suc k) = unfold path_in in ap (λ o. when_some o (d ∷ []) (λ y. path_in N father root k y ++ d ∷ [])) e

  pub path_root : path N father root root ≡ root ∷ []
  path_root = path_alone root (root_fatherless N sound father chooses root)

  second_append : (xs ys : List ℕ) (h : ℕ) → second xs ≡ Some h → second (xs ++ ys) ≡ Some h
  second_append [] ys h e = absurd (none_some h e)
  second_append (x ∷ []) ys h e = absurd (none_some h e)
  second_append (x ∷ z ∷ zs) ys h e = e

  -- the tree hop is the second router on the tree path
  pub path_hop : (d : ℕ) (b : Cost) → best N root d ≡ Some b → hop N father root d ≡ second (path N father root d)
  path_hop = tree_induction (λ d. (b : Cost) → best N root d ≡ Some b → hop N father root d ≡ second (path N father root d)) step
    where
      inner : (d x h : ℕ) → father root d ≡ Some x → hop N father root x ≡ Some h → hop N father root x ≡ second (path N father root x) → hop N father root d ≡ second (path N father root d)
      inner d x h f e more =
          hop_on d x f (hop_inner x h e) ∙ e ∙ sym (second_append (path N father root x) (d ∷ []) h (sym more ∙ e)) ∙ sym (ap second (path_father d x f))

      step : (d : ℕ) → ((x : ℕ) → father root d ≡ Some x → (b : Cost) → best N root x ≡ Some b → hop N father root x ≡ second (path N father root x)) →
          (b : Cost) → best N root d ≡ Some b → hop N father root d ≡ second (path N father root d)
      step d more b e =
          ⊎_elim (λ (r : d ≡ root). subst (λ z. hop N father root z ≡ second (path N father root z)) (sym r) (hop_root ∙ sym (ap second path_root)))
          (λ ne.
          let p = father_some N sound father chooses root d b e ne in
          let f = father_is N sound father chooses root d p.0 p.1 in
          ⊎_elim (λ (r : p.0 ≡ root).
          let fr = subst (λ z. father root d ≡ Some z) r p.1 in
          hop_top d fr ∙ sym (ap second (path_father d root fr ∙ ap (λ xs. xs ++ d ∷ []) path_root)))
          (λ n. let u = branched p.0 f.before f.best_before n in
          inner d p.0 u.head p.1 u.hop_here (more p.0 p.1 f.before f.best_before))
          (cases_eq p.0 root))
          (cases_eq d root)

  path_length : (d : ℕ) → length (path N father root d) ≤ suc (dep d)
  path_length = tree_induction (λ d. length (path N father root d) ≤ suc (dep d)) step
    where
      step : (d : ℕ) → ((x : ℕ) → father root d ≡ Some x → length (path N father root x) ≤ suc (dep x)) → length (path N father root d) ≤ suc (dep d)
      step d more =
          ⊎_elim (λ n. omega (arith, ap length (path_alone d n)))
          (λ q. let l = father_depth N sound father chooses root d q.0 q.1 in
          omega (arith, ap length (path_father d q.0 q.1), length-append (path N father root q.0) (d ∷ []), more q.0 q.1))
          (cases_option (father root d))

  pub path_fits : (d : ℕ) → d < N.count → length (path N father root d) ≤ N.count
  path_fits d h = omega (arith, path_length d, depth_below N sound root d h)
