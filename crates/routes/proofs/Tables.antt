-- The best costs, fathers, tree hops and rest costs by tables, which compute quickly.
use Rattle.std.proofs.Common.{◌≡◌, ℕ, zero, suc, ◌-◌, ◌<◌, Bool, true, false, cond, not, ◌&&◌, eqb, ◌⊎◌, List, [], ◌∷◌, ◌++◌, map, get_or, is_some, Some, None, Option, sym, refl, ap, ◌∙◌, subst, ap₂, ⊎_elim, zero-add, arith}
use mathlib.Core.Path.{fun_ext}
use Rattle.std.specs.List.{range_with_len}
use Rattle.std.proofs.lemmas.List.FromFn.{get_or-map-range_with_len}
use mathlib.Core.List.Memᴰ
use mathlib.Core.List.{Memᴰ}
use Rattle.costs.specs.Costs.{Costs, Laws}
use Rattle.masks.specs.Sets.{members, mask}
use Rattle.routes.specs.Leasts.{lesser, joined, same, below, least_of, least_below, onward}
use Rattle.routes.specs.Lists.{gather, lowest, is_number, listed, when_some}
use Rattle.routes.specs.Network.{Network, Sound}
use Rattle.routes.specs.Routes.{avoids, best}
use Rattle.routes.specs.Tree.{Fathers, Chooses, possible_father, lowest_father, hop_in, hop, fall_in, fall}
use Rattle.routes.specs.Transverse.{starts, climbs, descents, rest, valid, other, valid_set, other_set}
use Rattle.routes.specs.Walk.{picked, walk}
use Rattle.masks.proofs.MaskLaws.{mask_same}
use Rattle.routes.proofs.Members.{onward_has, in_onward}
use Rattle.routes.proofs.Order.{unique, same_least, least_list, least_lesser, least_joined}
use Rattle.routes.proofs.Routes.{rounds, best_rounds}
use Rattle.routes.proofs.Fathers.{father_is, lowest_chooses}

abbrev pub nth : {A : Type 0} → List (Option A) → ℕ → Option A
nth xs i = get_or xs i None

-- the values of f at 0 to n - 1
abbrev pub tab : {A : Type 0} → ℕ → (ℕ → Option A) → List (Option A)
tab n f = map f (range_with_len 0 n)

pub nth_tab : {A : Type 0} (n i : ℕ) (f : ℕ → Option A) → i < n → nth (tab n f) i ≡ f i
nth_tab n i f h = get_or-map-range_with_len f 0 n i i None h (zero-add i)

lowest_same : (n : ℕ) (p q : ℕ → Bool) → ((x : ℕ) → x < n → p x ≡ q x) → lowest n p ≡ lowest n q
unfolding lowest
lowest_same zero p q h = refl
lowest_same (suc n) p q h =
    ap₂ {C = Option ℕ} (λ (o : Option ℕ) (t : Bool). elim o [ Some x ↦ Some x | None ↦ cond t (Some n) None ]) (lowest_same n p q (λ x l. h x (omega arith))) (h n (omega arith))

module _ {Cost : Type 0} (K : Costs Cost) where
  below_same : (n : ℕ) (f g : ℕ → Option Cost) → ((x : ℕ) → x < n → f x ≡ g x) → least_below K n f ≡ least_below K n g
  unfolding least_below
  below_same zero f g h = refl
  below_same (suc n) f g h = ap₂ (lesser K) (below_same n f g (λ x l. h x (omega arith))) (h n (omega arith))

  module _ (laws : Laws K) where
    least_append : (xs ys : List Cost) → least_of K (xs ++ ys) ≡ lesser K (least_of K xs) (least_of K ys)
    least_append xs ys =
        unique K laws (λ c. Memᴰ c (xs ++ ys)) (least_of K (xs ++ ys)) (lesser K (least_of K xs) (least_of K ys)) (least_list K laws (xs ++ ys))
        (same_least K laws (λ c. Memᴰ c xs ⊎ Memᴰ c ys) (λ c. Memᴰ c (xs ++ ys)) (lesser K (least_of K xs) (least_of K ys))
        (λ c. ⊎_elim (Memᴰ.append_left ys) (Memᴰ.append_right xs)) (λ c. Memᴰ.append_cases xs)
        (least_lesser K laws (λ c. Memᴰ c xs) (λ c. Memᴰ c ys) (least_of K xs) (least_of K ys) (least_list K laws xs) (least_list K laws ys)))

    least_gather : (n : ℕ) (f : ℕ → List Cost) → least_of K (gather n f) ≡ least_below K n (λ x. least_of K (f x))
    unfolding gather least_below least_of
    least_gather zero f = refl
    least_gather (suc n) f = least_append (gather n f) (f n) ∙ ap (λ o. lesser K o (least_of K (f n))) (least_gather n f)

    least_onward : (l : Option Cost) (cs : List Cost) → least_of K (onward K l cs) ≡ joined K (least_of K cs) l
    least_onward l cs =
        unique K laws (λ c. Memᴰ c (onward K l cs)) (least_of K (onward K l cs)) (joined K (least_of K cs) l) (least_list K laws (onward K l cs))
        (same_least K laws (λ c. (b w : Cost) × Memᴰ b cs × (l ≡ Some w) × (c ≡ K.join b w)) (λ c. Memᴰ c (onward K l cs)) (joined K (least_of K cs) l)
        (λ c q. subst (λ z. Memᴰ z (onward K l cs)) (sym q.4) (in_onward K l cs q.0 q.1 q.2 q.3)) (onward_has K l cs)
        (least_joined K laws (λ c. Memᴰ c cs) (least_of K cs) l (least_list K laws cs)))

  least_if : (t : Bool) (xs : List Cost) → least_of K (cond t xs []) ≡ cond t (least_of K xs) None
  unfolding least_of
  least_if true xs = refl
  least_if false xs = refl

  least_unless : (t : Bool) (xs : List Cost) → least_of K (cond t [] xs) ≡ cond (not t) (least_of K xs) None
  unfolding least_of
  least_unless true xs = refl
  least_unless false xs = refl

  least_when_some : (o : Option ℕ) (f : ℕ → List Cost) → least_of K (when_some o [] f) ≡ when_some o None (λ p. least_of K (f p))
  unfolding least_of
  least_when_some None f = refl
  least_when_some (Some p) f = refl

  least_listed : (o : Option Cost) → least_of K (listed o) ≡ o
  unfolding least_of lesser
  least_listed None = refl
  least_listed (Some c) = refl

module _ {Cost : Type 0} (N : Network Cost) (root : ℕ) where
  -- best costs after k rounds
  abbrev bests_in : ℕ → List (Option Cost)
  bests_in zero = tab N.count (λ d. rounds N 0 root d)
  bests_in (suc k) =
      let t = bests_in k in
      tab N.count (λ d. lesser N.rule (nth t d) (least_below N.rule N.count (λ x. joined N.rule (nth t x) (N.link x d))))

  abbrev pub bests : List (Option Cost)
  bests = bests_in (N.count - 1)

  abbrev pub fathers : List (Option Cost) → List (Option ℕ)
  fathers t = tab N.count (λ d. lowest N.count (λ x. same N.rule (joined N.rule (nth t x) (N.link x d)) (nth t d)))

  abbrev hop_by : List (Option ℕ) → ℕ → ℕ → Option ℕ
  hop_by fs zero d = None
  hop_by fs (suc k) d = when_some (nth fs d) None (λ x. cond (eqb x root) (Some d) (hop_by fs k x))

  abbrev pub hops : List (Option ℕ) → List (Option ℕ)
  hops fs = tab N.count (hop_by fs N.count)

  abbrev fall_by : List (Option ℕ) → ℕ → ℕ → ℕ → Option Cost
  fall_by fs zero v x = None
  fall_by fs (suc k) v x =
      cond (eqb v x) (Some N.rule.zero) (when_some (nth fs x) None (λ p. joined N.rule (fall_by fs k v p) (N.link p x)))

  module _ (fs hs : List (Option ℕ)) (v : ℕ) where
    abbrev firsts : List (Option Cost) → List (Option Cost)
    firsts fl =
        tab N.count (λ y. lesser N.rule (cond (eqb v y && is_some (N.link root v)) (Some N.rule.zero) None)
        (least_below N.rule N.count (λ x. cond (is_number (nth hs x) v && (is_some (nth hs y) && not (is_number (nth hs y) v))) (joined N.rule (nth fl x) (N.link x y)) None)))

    abbrev up_in : List (Option Cost) → ℕ → List (Option Cost)
    up_in st zero = st
    up_in st (suc k) =
        let t = up_in st k in
        tab N.count (λ y. lesser N.rule (nth st y)
        (cond (avoids root y) (least_below N.rule N.count (λ x. cond (is_number (nth fs x) y) (joined N.rule (nth t x) (N.link x y)) None)) None))

    abbrev down_in : List (Option Cost) → ℕ → List (Option Cost)
    down_in ut zero = ut
    down_in ut (suc k) =
        let t = down_in ut k in
        tab N.count (λ y. lesser N.rule (nth ut y) (when_some (nth fs y) None (λ p. joined N.rule (nth t p) (N.link p y))))

    -- the rest costs of v
    abbrev pub rests : List (Option Cost)
    rests = down_in (up_in (firsts (tab N.count (fall_by fs N.count v))) N.count) N.count

module _ {Cost : Type 0} (N : Network Cost) (sound : Sound N) (root : ℕ) where
  bests_in_are : (k d : ℕ) → d < N.count → nth (bests_in N root k) d ≡ rounds N k root d
  unfolding rounds
  bests_in_are zero d h = nth_tab N.count d (λ d. rounds N 0 root d) h
  bests_in_are (suc k) d h =
      nth_tab N.count d _ h
      ∙ ap₂ (lesser N.rule) (bests_in_are k d h)
      (below_same N.rule N.count _ _ (λ x l. ap (λ o. joined N.rule o (N.link x d)) (bests_in_are k x l)))

  pub bests_are : (d : ℕ) → d < N.count → nth (bests N root) d ≡ best N root d
  bests_are d h = bests_in_are (N.count - 1) d h ∙ sym (best_rounds N sound root d)

  pub fathers_are : (d : ℕ) → d < N.count → nth (fathers N root (bests N root)) d ≡ lowest_father N root d
  unfolding lowest_father possible_father
  fathers_are d h =
      nth_tab N.count d _ h
      ∙ lowest_same N.count _ _ (λ x l. ap₂ (λ o o'. same N.rule (joined N.rule o (N.link x d)) o') (bests_are x l) (bests_are d h))

  module _ (father : Fathers) (chooses : Chooses N father) (fs : List (Option ℕ)) (known : (d : ℕ) → d < N.count → nth fs d ≡ father root d) where
    hop_by_is : (k d : ℕ) → d < N.count → hop_by N root fs k d ≡ hop_in N father root k d
    unfolding hop_in
    hop_by_is zero d h = refl
    hop_by_is (suc k) d h = ap (λ o. when_some o None (λ x. cond (eqb x root) (Some d) (hop_by N root fs k x))) (known d h) ∙ by (hop_by_is k) (father root d) refl
      where
        by : ((x : ℕ) → x < N.count → hop_by N root fs k x ≡ hop_in N father root k x) → (o : Option ℕ) → father root d ≡ o →
            when_some o None (λ x. cond (eqb x root) (Some d) (hop_by N root fs k x)) ≡ when_some o None (λ x. cond (eqb x root) (Some d) (hop_in N father root k x))
        by more None e = refl
        by more (Some x) e = let f = father_is N sound father chooses root d x e in ap (cond (eqb x root) (Some d)) (more x (sound.from x d f.last f.linked))

    fall_by_is : (k v x : ℕ) → x < N.count → fall_by N root fs k v x ≡ fall_in N father root k v x
    unfolding fall_in
    fall_by_is zero v x h = refl
    fall_by_is (suc k) v x h =
        ap (cond (eqb v x) (Some N.rule.zero))
        (ap (λ o. when_some o None (λ p. joined N.rule (fall_by N root fs k v p) (N.link p x))) (known x h) ∙ by (fall_by_is k v) (father root x) refl)
      where
        by : ((p : ℕ) → p < N.count → fall_by N root fs k v p ≡ fall_in N father root k v p) → (o : Option ℕ) → father root x ≡ o →
            when_some o None (λ p. joined N.rule (fall_by N root fs k v p) (N.link p x)) ≡ when_some o None (λ p. joined N.rule (fall_in N father root k v p) (N.link p x))
        by more None e = refl
        by more (Some p) e = let f = father_is N sound father chooses root x p e in ap (λ o. joined N.rule o (N.link p x)) (more p (sound.from p x f.last f.linked))

    pub hops_are : (d : ℕ) → d < N.count → nth (hops N root fs) d ≡ hop N father root d
    unfolding hop
    hops_are d h = nth_tab N.count d _ h ∙ hop_by_is N.count d h

    falls_are : (v x : ℕ) → x < N.count → nth (tab N.count (fall_by N root fs N.count v)) x ≡ fall N father root v x
    unfolding fall
    falls_are v x h = nth_tab N.count x _ h ∙ fall_by_is N.count v x h

    module _ (hs : List (Option ℕ)) (hopped : (d : ℕ) → d < N.count → nth hs d ≡ hop N father root d) (v : ℕ) where
      abbrev st : List (Option Cost)
      st = firsts N root fs hs v (tab N.count (fall_by N root fs N.count v))

      firsts_are : (y : ℕ) → y < N.count → nth st y ≡ least_of N.rule (starts N father root v y)
      unfolding starts
      firsts_are y h =
          nth_tab N.count y _ h
          ∙ ap₂ (lesser N.rule)
          (ap (λ o. cond (eqb v y && is_some (N.link root v)) o None) (sym (least_listed N.rule (Some N.rule.zero))) ∙ sym (least_if N.rule (eqb v y && is_some (N.link root v)) (N.rule.zero ∷ [])))
          (below_same N.rule N.count _ _ (λ x l.
          ap₂ (λ t o. cond t o None)
          (ap₂ (λ o o'. is_number o v && (is_some o' && not (is_number o' v))) (hopped x l) (hopped y h))
          (ap (λ o. joined N.rule o (N.link x y)) (falls_are v x l ∙ sym (least_listed N.rule (fall N father root v x))) ∙ sym (least_onward N.rule sound.lawful (N.link x y) (listed (fall N father root v x))))
          ∙ sym (least_if N.rule _ _))
          ∙ sym (least_gather N.rule sound.lawful N.count _))
          ∙ sym (least_append N.rule sound.lawful _ _)

      up_in_are : (k y : ℕ) → y < N.count → nth (up_in N root fs hs v st k) y ≡ least_of N.rule (climbs N father root v k y)
      unfolding climbs
      up_in_are zero y h = firsts_are y h
      up_in_are (suc k) y h =
          nth_tab N.count y _ h
          ∙ ap₂ (lesser N.rule) (firsts_are y h)
          (ap (λ o. cond (not (eqb y root)) o None)
          (below_same N.rule N.count _ _ (λ x l.
          ap₂ (λ t o. cond t o None) (ap (λ o. is_number o y) (known x l))
          (ap (λ o. joined N.rule o (N.link x y)) (up_in_are k x l) ∙ sym (least_onward N.rule sound.lawful (N.link x y) (climbs N father root v k x)))
          ∙ sym (least_if N.rule _ _))
          ∙ sym (least_gather N.rule sound.lawful N.count _))
          ∙ sym (least_unless N.rule (eqb y root) _))
          ∙ sym (least_append N.rule sound.lawful (starts N father root v y) _)

      abbrev ut : List (Option Cost)
      ut = up_in N root fs hs v st N.count

      down_in_are : (k y : ℕ) → y < N.count → nth (down_in N root fs hs v ut k) y ≡ least_of N.rule (descents N father root v k y)
      unfolding descents
      down_in_are zero y h = up_in_are N.count y h
      down_in_are (suc k) y h =
          nth_tab N.count y _ h
          ∙ ap₂ (lesser N.rule) (up_in_are N.count y h)
          (ap (λ o. when_some o None (λ p. joined N.rule (nth (down_in N root fs hs v ut k) p) (N.link p y))) (known y h)
          ∙ by (down_in_are k) (father root y) refl
          ∙ sym (least_when_some N.rule (father root y) (λ p. onward N.rule (N.link p y) (descents N father root v k p))))
          ∙ sym (least_append N.rule sound.lawful (climbs N father root v N.count y) _)
        where
          by : ((p : ℕ) → p < N.count → nth (down_in N root fs hs v ut k) p ≡ least_of N.rule (descents N father root v k p)) → (o : Option ℕ) → father root y ≡ o →
              when_some o None (λ p. joined N.rule (nth (down_in N root fs hs v ut k) p) (N.link p y)) ≡ when_some o None (λ p. least_of N.rule (onward N.rule (N.link p y) (descents N father root v k p)))
          by more None e = refl
          by more (Some p) e =
              let f = father_is N sound father chooses root y p e in
              ap (λ o. joined N.rule o (N.link p y)) (more p (sound.from p y f.last f.linked)) ∙ sym (least_onward N.rule sound.lawful (N.link p y) (descents N father root v k p))

      pub rests_are : (d : ℕ) → d < N.count → nth (rests N root fs hs v) d ≡ rest N father root v d
      unfolding rest
      rests_are d h = down_in_are N.count d h

-- The same for one root, with the tables shared.
module _ {Cost : Type 0} (N : Network Cost) (root : ℕ) where
  abbrev pub quick_father : ℕ → Option ℕ
  quick_father d = nth (fathers N root (bests N root)) d

  abbrev pub quick_hop : ℕ → Option ℕ
  quick_hop d = nth (hops N root (fathers N root (bests N root))) d

  abbrev pub quick_rest : ℕ → ℕ → Option Cost
  quick_rest v d = let fs = fathers N root (bests N root) in let hs = hops N root fs in nth (rests N root fs hs v) d

  abbrev pub quick_valid : ℕ → ℕ → Bool
  quick_valid v d = below N.rule (quick_rest v d) (nth (bests N root) d)

  abbrev pub quick_valid_set : ℕ → ℕ
  quick_valid_set d =
      let t = bests N root in let fs = fathers N root t in let hs = hops N root fs in
      mask N.count (λ v. below N.rule (nth (rests N root fs hs v) d) (nth t d))

  abbrev pub quick_other_set : ℕ → ℕ
  quick_other_set d =
      let t = bests N root in let fs = fathers N root t in let hs = hops N root fs in
      mask N.count (λ v. let r = nth (rests N root fs hs v) d in is_some r && not (below N.rule r (nth t d)))

module _ {Cost : Type 0} (N : Network Cost) (sound : Sound N) (root : ℕ) where
  pub best_quick : (d : ℕ) → d < N.count → best N root d ≡ nth (bests N root) d
  best_quick d h = sym (bests_are N sound root d h)

  pub father_quick : (d : ℕ) → d < N.count → lowest_father N root d ≡ quick_father N root d
  father_quick d h = sym (fathers_are N sound root d h)

  pub hop_quick : (d : ℕ) → d < N.count → hop N (lowest_father N) root d ≡ quick_hop N root d
  hop_quick d h = sym (hops_are N sound root (lowest_father N) (lowest_chooses N sound) (fathers N root (bests N root)) (fathers_are N sound root) d h)

  pub rest_quick : (v d : ℕ) → d < N.count → rest N (lowest_father N) root v d ≡ quick_rest N root v d
  rest_quick v d h =
      sym (rests_are N sound root (lowest_father N) (lowest_chooses N sound) (fathers N root (bests N root)) (fathers_are N sound root) (hops N root (fathers N root (bests N root)))
      (hops_are N sound root (lowest_father N) (lowest_chooses N sound) (fathers N root (bests N root)) (fathers_are N sound root)) v d h)

  pub valid_quick : (v d : ℕ) → d < N.count → valid N (lowest_father N) root v d ≡ quick_valid N root v d
  unfolding valid
  valid_quick v d h = ap₂ (below N.rule) (rest_quick v d h) (best_quick d h)

  pub valid_set_quick : (d : ℕ) → d < N.count → valid_set N (lowest_father N) root d ≡ quick_valid_set N root d
  unfolding valid_set
  valid_set_quick d h = mask_same N.count _ _ (λ v l. valid_quick v d h)

  pub other_set_quick : (d : ℕ) → d < N.count → other_set N (lowest_father N) root d ≡ quick_other_set N root d
  unfolding other_set other
  other_set_quick d h = mask_same N.count _ _ (λ v l. ap₂ (λ o t. is_some o && not t) (rest_quick v d h) (valid_quick v d h))

abbrev pub quick_walk : {Cost : Type 0} → Network Cost → ℕ → List ℕ → ℕ → List ℕ
quick_walk N d [] x = x ∷ []
quick_walk N d (k ∷ ks) x =
    cond (eqb x d) (x ∷ []) (x ∷ when_some (picked k (members (quick_valid_set N x d) N.count)) [] (λ v. quick_walk N d ks v))

pub walk_quick : {Cost : Type 0} (N : Network Cost) → Sound N → (d : ℕ) → d < N.count → (ks : List ℕ) (x : ℕ) → walk N (lowest_father N) d ks x ≡ quick_walk N d ks x
unfolding walk
walk_quick N sound d h [] x = refl
walk_quick N sound d h (k ∷ ks) x =
    ap₂ (λ s f. cond (eqb x d) (x ∷ []) (x ∷ when_some (picked k (members s N.count)) [] f)) (valid_set_quick N sound x d h) (fun_ext (walk_quick N sound d h ks))
