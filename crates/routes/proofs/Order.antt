-- What follows from the laws of a cost rule: its order, and the least of several costs.
use Rattle.std.proofs.Common.{◌≡◌, ℕ, zero, suc, ◌<◌, Bool, true, false, cond, ◌⊎◌, List, [], ◌∷◌, Some, None, Option, sym, refl, ap, ◌∙◌, subst, inl, inr, ⊎_elim, arith}
use mathlib.Core.List.Memᴰ
use mathlib.Core.List.{Memᴰ}
use Rattle.std.proofs.lemmas.Bool.{both_ways, cases_Bool}
use Rattle.routes.specs.Lists.{when_some}
use Rattle.routes.proofs.Members.{none_some, some_inj}
use Rattle.costs.specs.Costs.{Costs, Laws}
use Rattle.routes.specs.Leasts.{LinkCost, Least, IsLeast, lesser, joined, below, least_of, least_below}

module _ {Cost : Type 0} (K : Costs Cost) (laws : Laws K) where
  pub not_above : (a b : Cost) → K.lower a b ≡ true → K.lower b a ≡ false
  not_above a b p =
      ⊎_elim (λ t. absurd (both_ways (K.lower a a) (laws.irreflexive a) (laws.transitive a b a p t))) (λ f. f)
      (cases_Bool (K.lower b a))

  pub lt_le : (a b c : Cost) → K.lower a b ≡ true → K.lower c b ≡ false → K.lower a c ≡ true
  lt_le a b c p q = ⊎_elim (λ t. laws.transitive a b c p t) (λ f. rw (laws.total c b q f) p) (cases_Bool (K.lower b c))

  pub le_lt : (a b c : Cost) → K.lower b a ≡ false → K.lower b c ≡ true → K.lower a c ≡ true
  le_lt a b c p q = ⊎_elim (λ t. laws.transitive a b c t q) (λ f. rw (laws.total a b f p) q) (cases_Bool (K.lower a b))

  pub le_trans : (a b c : Cost) → K.lower b a ≡ false → K.lower c b ≡ false → K.lower c a ≡ false
  le_trans a b c p q =
      ⊎_elim (λ t. absurd (both_ways (K.lower c b) q (lt_le c a b t p))) (λ f. f) (cases_Bool (K.lower c a))

  -- a cost joined with a link's cost is strictly higher, and so not below it
  pub higher : (a c : Cost) → LinkCost K c → K.lower a (K.join a c) ≡ true
  higher a c l = laws.strict a c l.0 l.1

  pub le_join : (a c : Cost) → LinkCost K c → K.lower (K.join a c) a ≡ false
  le_join a c l = not_above a (K.join a c) (higher a c l)

  pub unique : (P : Cost → Type 0) (o o' : Option Cost) → IsLeast K P o → IsLeast K P o' → o ≡ o'
  unique P None None h h' = refl
  unique P None (Some b) h h' = absurd (h b h'.holds)
  unique P (Some a) None h h' = absurd (h' a h.holds)
  unique P (Some a) (Some b) h h' = ap Some (laws.total a b (h'.lowest a h.holds) (h.lowest b h'.holds))

  -- the least stays the least where each new cost is not below an old one
  pub extend : (P Q : Cost → Type 0) (o : Option Cost) → ((c : Cost) → P c → Q c) →
      ((c : Cost) → Q c → (b : Cost) × P b × (K.lower c b ≡ false)) → IsLeast K P o → IsLeast K Q o
  extend P Q None f g h = λ x q. h (g x q).0 (g x q).1
  extend P Q (Some a) f g h =
      record { holds = f a h.holds; lowest = λ x q. le_trans a (g x q).0 x (h.lowest (g x q).0 (g x q).1) (g x q).2 }

  pub same_least : (P Q : Cost → Type 0) (o : Option Cost) → ((c : Cost) → P c → Q c) → ((c : Cost) → Q c → P c) →
      IsLeast K P o → IsLeast K Q o
  same_least P Q o f g = extend P Q o f (λ c q. (c, g c q, laws.irreflexive c))

  pub least_lesser : (P Q : Cost → Type 0) (o o' : Option Cost) → IsLeast K P o → IsLeast K Q o' →
      IsLeast K (λ c. P c ⊎ Q c) (lesser K o o')
  unfolding lesser
  least_lesser P Q None None h h' = λ x. ⊎_elim (h x) (h' x)
  least_lesser P Q None (Some b) h h' =
      record { holds = inr h'.holds; lowest = λ x. ⊎_elim (λ p. absurd (h x p)) (h'.lowest x) }
  least_lesser P Q (Some a) None h h' =
      record { holds = inl h.holds; lowest = λ x. ⊎_elim (h.lowest x) (λ p. absurd (h' x p)) }
  least_lesser P Q (Some a) (Some b) h h' = go (K.lower b a) refl
    where
      go : (t : Bool) → K.lower b a ≡ t → IsLeast K (λ c. P c ⊎ Q c) (cond t (Some b) (Some a))
      go true e =
          record { holds = inr h'.holds; lowest = λ x. ⊎_elim (λ p. le_trans b a x (not_above b a e) (h.lowest x p)) (h'.lowest x) }
      go false e =
          record { holds = inl h.holds; lowest = λ x. ⊎_elim (h.lowest x) (λ q. le_trans a b x e (h'.lowest x q)) }

  pub least_joined : (P : Cost → Type 0) (o l : Option Cost) → IsLeast K P o →
      IsLeast K (λ c. (b w : Cost) × P b × (l ≡ Some w) × (c ≡ K.join b w)) (joined K o l)
  unfolding joined
  least_joined P None l h = λ x q. h q.0 q.2
  least_joined P (Some a) None h = λ x q. absurd (none_some q.1 q.3)
  least_joined P (Some a) (Some w) h =
      record {
        holds = (a, w, h.holds, refl, refl);
        lowest = λ x q. let e : x ≡ K.join q.0 w = q.4 ∙ ap (K.join q.0) (some_inj q.1 w (sym q.3)) in
            rw e (laws.monotone a q.0 w (h.lowest q.0 q.2));
      }

  pub least_each : (n : ℕ) (P : ℕ → Cost → Type 0) (f : ℕ → Option Cost) → ((i : ℕ) → i < n → IsLeast K (P i) (f i)) →
      IsLeast K (λ c. (i : ℕ) × (i < n) × P i c) (least_below K n f)
  unfolding least_below
  least_each zero P f h = λ x q. omega (arith, q.1)
  least_each (suc n) P f h =
      same_least (λ c. ((i : ℕ) × (i < n) × P i c) ⊎ P n c) (λ c. (i : ℕ) × (i < suc n) × P i c)
      (lesser K (least_below K n f) (f n))
      (λ c. ⊎_elim (λ q. (q.0, omega (arith, q.1), q.2)) (λ p. (n, omega arith, p)))
      (λ c q. split c q.0 q.1 q.2)
      (least_lesser (λ c. (i : ℕ) × (i < n) × P i c) (P n) (least_below K n f) (f n)
      (least_each n P f (λ i l. h i (omega arith))) (h n (omega arith)))
    where
      split : (c : Cost) (i : ℕ) → i < suc n → P i c → ((i : ℕ) × (i < n) × P i c) ⊎ P n c
      split c i l p = ⊎_elim (λ (e : i ≡ n). inr (rw e at p)) (λ ne. inl (i, omega arith, p)) (Rattle.std.proofs.lemmas.Bool.cases_eq i n)

  pub least_list : (cs : List Cost) → IsLeast K (λ c. Memᴰ c cs) (least_of K cs)
  unfolding least_of
  least_list [] = λ x. Memᴰ.not-nil
  least_list (c ∷ cs) =
      same_least (λ b. (b ≡ c) ⊎ Memᴰ b cs) (λ b. Memᴰ b (c ∷ cs)) (lesser K (Some c) (least_of K cs))
      (λ b. ⊎_elim Memᴰ.head Memᴰ.tail) (λ b. Memᴰ.cases_cons)
      (least_lesser (λ b. b ≡ c) (λ b. Memᴰ b cs) (Some c) (least_of K cs)
      (record { holds = refl; lowest = λ x e. rw e (laws.irreflexive c) }) (least_list cs))

  -- where P holds for c, the least is there and not above c
  pub least_at : (P : Cost → Type 0) (o : Option Cost) (c : Cost) → IsLeast K P o → P c →
      (b : Cost) × (o ≡ Some b) × P b × (K.lower c b ≡ false)
  least_at P None c h p = absurd (h c p)
  least_at P (Some b) c h p = (b, refl, h.holds, h.lowest c p)

  pub least_some : (P : Cost → Type 0) (o : Option Cost) (b : Cost) → IsLeast K P o → o ≡ Some b → Least K P b
  least_some P o b h e = subst (IsLeast K P) e h

  pub below_self : (o : Option Cost) → below K o o ≡ false
  unfolding below
  below_self None = refl
  below_self (Some a) = laws.irreflexive a

  pub below_trans : (o : Option Cost) (a b : Cost) → below K o (Some a) ≡ true → K.lower a b ≡ true → below K o (Some b) ≡ true
  unfolding below
  below_trans None a b p q = p
  below_trans (Some c) a b p q = laws.transitive c a b p q

  -- the least under a test, and of a value that may be absent
  pub least_cond : (t : Bool) (P : Cost → Type 0) (o : Option Cost) → (t ≡ true → IsLeast K P o) →
      IsLeast K (λ c. (t ≡ true) × P c) (cond t o None)
  least_cond true P o h = same_least P (λ c. (true ≡ true) × P c) o (λ c p. (refl, p)) (λ c q. q.1) (h refl)
  least_cond false P o h = λ x q. both_ways false refl q.0

  pub least_when : (o : Option ℕ) (P : ℕ → Cost → Type 0) (f : ℕ → Option Cost) → ((p : ℕ) → o ≡ Some p → IsLeast K (P p) (f p)) →
      IsLeast K (λ c. (p : ℕ) × (o ≡ Some p) × P p c) (when_some o None f)
  least_when None P f h = λ x q. none_some q.0 q.1
  least_when (Some a) P f h =
      same_least (P a) (λ c. (p : ℕ) × (Some a ≡ Some p) × P p c) (f a) (λ c p. (a, refl, p)) (λ c q. subst (λ z. P z c) (sym (some_inj a q.0 q.1)) q.2) (h a refl)
