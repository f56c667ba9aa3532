-- What a gathered list, or a list of costs carried over a link, holds; and the lowest number that passes a test.
use Rattle.std.proofs.Common.{◌≡◌, ℕ, zero, suc, ◌<◌, Bool, true, false, cond, ◌⊎◌, List, [], ◌∷◌, map, is_some, Some, None, Option, sym, refl, ap, ◌∙◌, subst, inl, inr, ⊎_elim, arith}
use mathlib.Core.List.Memᴰ
use mathlib.Core.List.{Memᴰ}
use Rattle.std.proofs.lemmas.Bool.{both_ways, cases_eq}
use Rattle.costs.specs.Costs.{Costs}
use Rattle.routes.specs.Leasts.{onward}
use Rattle.routes.specs.Lists.{gather, lowest}

pub none_some : {A : Type 0} (a : A) → ◌≡◌ {A = Option A} None (Some a) → ⊥
none_some a e = let z : ◌≡◌ {A = ℕ} 0 1 = cc in omega arith

pub some_inj : {A : Type 0} (a b : A) → Some a ≡ Some b → a ≡ b
some_inj a b e = cc

pub cases_option : {A : Type 0} (o : Option A) → (o ≡ None) ⊎ ((a : A) × (o ≡ Some a))
cases_option None = inl refl
cases_option (Some a) = inr (a, refl)

pub present_some : {A : Type 0} (o : Option A) → is_some o ≡ true → (a : A) × (o ≡ Some a)
present_some None e = absurd (both_ways false refl e)
present_some (Some a) e = (a, refl)

pub gather_has : {A : Type 0} (n : ℕ) (f : ℕ → List A) (a : A) → Memᴰ a (gather n f) → (i : ℕ) × (i < n) × Memᴰ a (f i)
unfolding gather
gather_has zero f a m = absurd (Memᴰ.not-nil m)
gather_has (suc n) f a m =
    ⊎_elim (λ p. let q = gather_has n f a p in (q.0, omega (arith, q.1), q.2)) (λ p. (n, omega arith, p))
    (Memᴰ.append_cases (gather n f) m)

pub in_gather : {A : Type 0} (n : ℕ) (f : ℕ → List A) (a : A) (i : ℕ) → i < n → Memᴰ a (f i) → Memᴰ a (gather n f)
unfolding gather
in_gather zero f a i h m = absurd (omega arith)
in_gather (suc n) f a i h m =
    ⊎_elim (λ (e : i ≡ n). Memᴰ.append_right (gather n f) (subst (λ j. Memᴰ a (f j)) e m))
    (λ ne. Memᴰ.append_left (f n) (in_gather n f a i (omega arith) m)) (cases_eq i n)

map_has : {A B : Type 0} (f : A → B) (xs : List A) (b : B) → Memᴰ b (map f xs) → (a : A) × Memᴰ a xs × (b ≡ f a)
map_has f [] b m = absurd (Memᴰ.not-nil m)
map_has f (x ∷ xs) b m =
    ⊎_elim (λ e. (x, Memᴰ.head refl, e)) (λ p. let q = map_has f xs b p in (q.0, Memᴰ.tail q.1, q.2))
    (Memᴰ.cases_cons m)

in_map : {A B : Type 0} (f : A → B) (xs : List A) (a : A) → Memᴰ a xs → Memᴰ (f a) (map f xs)
in_map f [] a m = absurd (Memᴰ.not-nil m)
in_map f (x ∷ xs) a m = ⊎_elim (λ e. Memᴰ.head (ap f e)) (λ p. Memᴰ.tail (in_map f xs a p)) (Memᴰ.cases_cons m)

module _ {Cost : Type 0} (K : Costs Cost) where
  pub onward_has : (l : Option Cost) (cs : List Cost) (c : Cost) → Memᴰ c (onward K l cs) →
      (b w : Cost) × Memᴰ b cs × (l ≡ Some w) × (c ≡ K.join b w)
  unfolding onward
  onward_has None cs c m = absurd (Memᴰ.not-nil m)
  onward_has (Some w) cs c m = let q = map_has (λ b. K.join b w) cs c m in (q.0, w, q.1, refl, q.2)

  pub in_onward : (l : Option Cost) (cs : List Cost) (b w : Cost) → Memᴰ b cs → l ≡ Some w → Memᴰ (K.join b w) (onward K l cs)
  unfolding onward
  in_onward None cs b w m e = absurd (none_some w e)
  in_onward (Some w') cs b w m e = rw (sym (some_inj w' w e)) (in_map (λ c. K.join c w') cs b m)

-- a conditional list holds something only where its test passes
pub cond_has : {A : Type 0} (t : Bool) (xs : List A) (a : A) → Memᴰ a (cond t xs []) → (t ≡ true) × Memᴰ a xs
cond_has true xs a m = (refl, m)
cond_has false xs a m = absurd (Memᴰ.not-nil m)

pub in_cond : {A : Type 0} (t : Bool) (xs : List A) (a : A) → t ≡ true → Memᴰ a xs → Memᴰ a (cond t xs [])
in_cond true xs a e m = m
in_cond false xs a e m = absurd (both_ways false refl e)

-- the lowest number below n that passes a test passes it, and is below n
pub lowest_passes : (n : ℕ) (p : ℕ → Bool) (x : ℕ) → lowest n p ≡ Some x → (x < n) × (p x ≡ true)
unfolding lowest
lowest_passes zero p x e = absurd (none_some x e)
lowest_passes (suc n) p x e = go (lowest_passes n p x) (lowest n p) refl (p n) refl e
  where
    go : (lowest n p ≡ Some x → (x < n) × (p x ≡ true)) → (o : Option ℕ) → lowest n p ≡ o → (t : Bool) → p n ≡ t →
        elim o [ Some y ↦ Some y | None ↦ cond t (Some n) None ] ≡ Some x → (x < suc n) × (p x ≡ true)
    go below (Some y) eo t et e' = let q = below (eo ∙ e') in (omega (arith, q.0), q.1)
    go below None eo true et e' = let d = some_inj n x e' in (omega (arith, d), subst (λ z. p z ≡ true) d et)
    go below None eo false et e' = absurd (none_some x e')

-- where one passes the test there is a lowest
pub lowest_some : (n : ℕ) (p : ℕ → Bool) (x : ℕ) → x < n → p x ≡ true → (y : ℕ) × (lowest n p ≡ Some y)
unfolding lowest
lowest_some zero p x h e = absurd (omega arith)
lowest_some (suc n) p x h e = go (λ l. lowest_some n p x l e) (lowest n p) refl (p n) refl
  where
    go : (x < n → (y : ℕ) × (lowest n p ≡ Some y)) → (o : Option ℕ) → lowest n p ≡ o → (t : Bool) → p n ≡ t →
        (y : ℕ) × (elim o [ Some z ↦ Some z | None ↦ cond t (Some n) None ] ≡ Some y)
    go below (Some y) eo t et = (y, refl)
    go below None eo true et = (n, refl)
    go below None eo false et =
        ⊎_elim (λ (d : x ≡ n). absurd (both_ways (p n) et (subst (λ z. p z ≡ true) d e)))
        (λ ne. let q = below (omega arith) in absurd (none_some q.0 (sym eo ∙ q.1))) (cases_eq x n)

-- none below the lowest passes the test
pub lowest_first_lem : (n : ℕ) (p : ℕ → Bool) (x y : ℕ) → lowest n p ≡ Some x → y < x → p y ≡ true → ⊥
unfolding lowest
lowest_first_lem zero p x y e h t = none_some x e
lowest_first_lem (suc n) p x y e h t = go (λ q. lowest_first_lem n p x y q h t) (lowest n p) refl (p n) refl e
  where
    go : (lowest n p ≡ Some x → ⊥) → (o : Option ℕ) → lowest n p ≡ o → (s : Bool) → p n ≡ s →
        elim o [ Some z ↦ Some z | None ↦ cond s (Some n) None ] ≡ Some x → ⊥
    go below (Some z) eo s es q = below (eo ∙ q)
    go below None eo true es q =
        let f = lowest_some n p y (omega (arith, some_inj n x q)) t in
        none_some f.0 (sym eo ∙ f.1)
    go below None eo false es q = none_some x q
