-- Valid hops: the tree hop is one, each comes strictly nearer, and so every walk by them arrives.
use Rattle.std.proofs.Common.{◌≡◌, ℕ, ◌+◌, ◌<◌, ◌≤◌, true, false, ◌⊎◌, Some, None, Option, sym, refl, ◌∙◌, subst, inl, inr, ⊎_elim, arith}
use Rattle.std.proofs.lemmas.Bool.{both_ways, cases_eq}
use Rattle.costs.specs.Costs.{Costs}
use Rattle.routes.specs.Leasts.{IsLeast, below}
use Rattle.routes.specs.Network.{Network, Sound}
use Rattle.routes.specs.Routes.{Route, best}
use Rattle.routes.specs.Tree.{hop, fall, Falls, Fathers, Chooses}
use Rattle.routes.specs.Transverse.{Transverse, rest, valid, other, valid_set, other_set}
use Rattle.routes.specs.Walk.{Hops, here, next}
use Rattle.masks.proofs.MaskLaws.{mask_none}
use Rattle.routes.proofs.Members.{none_some, some_inj, cases_option}
use Rattle.routes.proofs.Order.{higher, le_lt, unique, least_at, least_some}
use Rattle.routes.proofs.Ranks.{rank, rank_below, rank_less}
use Rattle.routes.proofs.Routes.{widen, best_least}
use Rattle.routes.proofs.Fathers.{root_below}
use Rattle.routes.proofs.Branches.{branched, hop_known, hop_inner, falls_fall}
use Rattle.routes.proofs.Transverses.{hop_below, transverse_hop, own_transverse, falls_transverse, transverse_through}
use Rattle.routes.proofs.Rest.{rest_least}

pub below_both : {Cost : Type 0} (K : Costs Cost) (o o' : Option Cost) → below K o o' ≡ true → (a b : Cost) × (o ≡ Some a) × (o' ≡ Some b) × (K.lower a b ≡ true)
unfolding below
below_both K None o' e = absurd (both_ways false refl e)
below_both K (Some a) None e = absurd (both_ways false refl e)
below_both K (Some a) (Some b) e = (a, b, refl, refl, e)

module _ {Cost : Type 0} (N : Network Cost) (sound : Sound N) where
  -- how many routers are nearer to d
  pub near : ℕ → ℕ → ℕ
  near d = rank N.rule sound.lawful N.count (λ x. best N x d)

  pub near_below : (d x : ℕ) → x < N.count → near d x < N.count
  unfolding near
  near_below d x h = rank_below N.rule sound.lawful N.count (λ y. best N y d) x h

module _ {Cost : Type 0} (N : Network Cost) (sound : Sound N) (father : Fathers) (chooses : Chooses N father) where
  -- the rest cost of the tree hop is that of the tree path
  pub rest_tree : (root d h : ℕ) → hop N father root d ≡ Some h → rest N father root h d ≡ fall N father root h d
  rest_tree root d h e =
      let q = hop_known N sound father chooses root d h e in
      let u = q.2 in
      let l : N.link root h ≡ Some u.first = subst (λ z. N.link root z ≡ Some u.first) q.3 u.linked in
      let f : Falls N father root h d u.after = subst (λ z. Falls N father root z d u.after) q.3 u.falls in
      let known = falls_fall N sound father chooses root (hop_below N sound father chooses root d h e) f in
      unique N.rule sound.lawful (Transverse N father root h d) (rest N father root h d) (fall N father root h d) (rest_least N sound father chooses root h d)
      (subst (IsLeast N.rule (Transverse N father root h d)) (sym known)
      (record {
        holds = falls_transverse N sound father chooses root h l f;
        lowest = λ x t.
            let s = some_inj x u.after (sym (falls_fall N sound father chooses root (hop_below N sound father chooses root d h e) (own_transverse N sound father chooses root h t e)) ∙ known) in
            rw s (sound.lawful.irreflexive u.after);
      }))

  -- the tree hop is valid
  pub tree_valid : (root d h : ℕ) → hop N father root d ≡ Some h → valid N father root h d ≡ true
  unfolding valid below
  tree_valid root d h e =
      let q = hop_known N sound father chooses root d h e in
      let u = q.2 in
      let f : Falls N father root h d u.after = subst (λ z. Falls N father root z d u.after) q.3 u.falls in
      let known = falls_fall N sound father chooses root (hop_below N sound father chooses root d h e) f in
      rw (rest_tree root d h e, known, q.1, u.whole, sound.lawful.commutative u.first u.after)
      (higher N.rule sound.lawful u.after u.first (sound.costs root u.head u.first u.linked))

  -- a rest cost is that of a route, so the best cost from the neighbour is not above it
  pub best_rest : (root v d : ℕ) (r : Cost) → rest N father root v d ≡ Some r →
      (b : Cost) × (best N v d ≡ Some b) × (N.rule.lower r b ≡ false)
  best_rest root v d r e =
      let t = (least_some N.rule sound.lawful (Transverse N father root v d) (rest N father root v d) r (rest_least N sound father chooses root v d) e).holds in
      let s = transverse_through N sound father chooses root v t in
      let q = least_at N.rule sound.lawful (λ c. (k : ℕ) × Route N k v d c) (best N v d) r (best_least N sound v d) (s.0, widen N (λ x. true) (λ x o. refl) s.2) in
      (q.0, q.1, q.3)

  -- a valid hop is strictly nearer to d
  pub valid_nearer : (root v d : ℕ) → valid N father root v d ≡ true →
      (a b : Cost) × (best N v d ≡ Some a) × (best N root d ≡ Some b) × (N.rule.lower a b ≡ true)
  unfolding valid
  valid_nearer root v d e =
      let q = below_both N.rule (rest N father root v d) (best N root d) e in
      let s = best_rest root v d q.0 q.2 in
      (s.0, q.1, s.1, q.3, le_lt N.rule sound.lawful s.0 q.0 q.1 s.2 q.4)

  pub valid_near : (root v d : ℕ) → valid N father root v d ≡ true → near N sound d v < near N sound d root
  unfolding near
  valid_near root v d e =
      let q = valid_nearer root v d e in
      rank_less N.rule sound.lawful N.count (λ x. best N x d) v root q.0 q.1 (root_below N sound v d q.0 q.2) q.2 q.3 q.4

  hops_near : (d : ℕ) {k a x : ℕ} → Hops N father d k a x → k + near N sound d x ≤ near N sound d a
  hops_near d here = omega arith
  hops_near d (next {x = x} {v = v} s e) = omega (arith, hops_near d s, valid_near x v d e)

  hops_known : (d : ℕ) (b : Cost) {k a x : ℕ} → best N a d ≡ Some b → Hops N father d k a x → (c : Cost) × (best N x d ≡ Some c)
  hops_known d b e here = (b, e)
  hops_known d b e (next {x = x} {v = v} s q) = let p = valid_nearer x v d q in (p.0, p.2)

  -- going by valid hops makes fewer hops than there are routers, and short of d there is always a next
  pub hops_arrive_lem : (a d k x : ℕ) (b : Cost) → best N a d ≡ Some b → Hops N father d k a x →
      (k < N.count) × ((x ≡ d) ⊎ ((v : ℕ) × (valid N father x v d ≡ true)))
  unfolding near
  hops_arrive_lem a d k x b e s =
      let p = hops_known d b e s in (
        omega (arith, hops_near d s, rank_below N.rule sound.lawful N.count (λ y. best N y d) a (root_below N sound a d b e)),
        ⊎_elim (λ (q : x ≡ d). inl q)
            (λ ne. let u = branched N sound father chooses x d p.0 p.1 (λ q. ne (sym q)) in inr (u.head, tree_valid x d u.head u.hop_here)) (cases_eq x d),
      )

  -- without a transverse route both sets are empty
  pub no_rest : (root d : ℕ) → ((v : ℕ) → rest N father root v d ≡ None) → (valid_set N father root d ≡ 0) × (other_set N father root d ≡ 0)
  unfolding valid_set other_set valid other below
  no_rest root d h = (mask_none N.count _ (λ v _. rw (h v) refl), mask_none N.count _ (λ v _. rw (h v) refl))

  pub nothing : (root d : ℕ) → (d ≡ root) ⊎ (best N root d ≡ None) → (hop N father root d ≡ None) × (valid_set N father root d ≡ 0) × (other_set N father root d ≡ 0)
  nothing root d e = (no_hop, sets.0, sets.1)
    where
      unknown : (h : ℕ) → hop N father root d ≡ Some h → ⊥
      unknown h q =
          ⊎_elim (λ s. hop_inner N sound father chooses root d h q s) (λ s. let k = hop_known N sound father chooses root d h q in none_some k.0 (sym s ∙ k.1)) e

      no_hop : hop N father root d ≡ None
      no_hop = ⊎_elim (λ s. s) (λ s. absurd (unknown s.0 s.1)) (cases_option (hop N father root d))

      no_transverse : (v : ℕ) → rest N father root v d ≡ None
      no_transverse v =
          ⊎_elim (λ s. s)
          (λ s. let t = (least_some N.rule sound.lawful (Transverse N father root v d) (rest N father root v d) s.0 (rest_least N sound father chooses root v d) s.1).holds in
          let h = transverse_hop N sound father chooses root v t in absurd (unknown h.0 h.1))
          (cases_option (rest N father root v d))

      sets : (valid_set N father root d ≡ 0) × (other_set N father root d ≡ 0)
      sets = no_rest root d no_transverse
