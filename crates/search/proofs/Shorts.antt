-- The costs known at some time of settling are those of routers of the network, and join few links.
use Rattle.std.proofs.Common.{◌≡◌, ℕ, zero, suc, ◌<◌, ◌≤◌, Bool, true, Some, Option, sym, ap, ◌∙◌, subst, ⊎_elim, arith}
use Rattle.std.proofs.lemmas.Bool.{cases_eq}
use Rattle.costs.specs.Costs.{Joins, none, more}
use Rattle.routes.specs.Network.{Network, Sound}
use Rattle.routes.specs.Settling.{Settling}
use Rattle.routes.proofs.Members.{some_inj}
use Rattle.routes.proofs.Order.{higher}
use Rattle.routes.proofs.Ranks.{rank, rank_below, rank_less}
use Rattle.squares.specs.Known.{Short}

module _ {C : Type 0} (N : Network C) (sound : Sound N) (root : ℕ) (inside : root < N.count) (done : ℕ → Bool) (f : ℕ → Option C) (s : Settling N root done f) where
  pub known_inside : (d : ℕ) (b : C) → f d ≡ Some b → d < N.count
  known_inside d b e =
      ⊎_elim (λ (r : d ≡ root). subst (λ x. x < N.count) (sym r) inside)
      (λ ne. let q = s.comes d b e ne in sound.to q.0 d q.2 q.5) (cases_eq d root)

  -- it joins no more links than there are routers with a lower cost
  joins : (k d : ℕ) (b : C) → rank N.rule sound.lawful N.count f d < k → f d ≡ Some b →
      (m : ℕ) × (m ≤ rank N.rule sound.lawful N.count f d) × Joins N.rule m b
  joins zero d b l e = absurd (omega arith)
  joins (suc k) d b l e =
      ⊎_elim
      (λ (r : d ≡ root). (0, omega arith, subst (Joins N.rule 0) (some_inj N.rule.zero b (sym (ap f r ∙ s.at_root) ∙ e)) none))
      (λ ne.
      let q = s.comes d b e ne in
      let x = q.0 in let c = q.1 in let w = q.2 in
      let lc = sound.costs x d w q.5 in
      let lower = subst (λ z. N.rule.lower c z ≡ true) (sym q.6) (higher N.rule sound.lawful c w lc) in
      let less = rank_less N.rule sound.lawful N.count f x d c b (sound.from x d w q.5) q.4 e lower in
      let r = joins k x c (omega arith) q.4 in
      (suc r.0, omega (arith, r.1), subst (Joins N.rule (suc r.0)) (sym q.6) (more lc.0 w r.2 lc.1)))
      (cases_eq d root)

  pub known_short : (d : ℕ) (b : C) → f d ≡ Some b → Short N.rule b
  known_short d b e =
      let r = joins (suc (rank N.rule sound.lawful N.count f d)) d b (omega arith) e in
      (r.0, omega (arith, r.1, rank_below N.rule sound.lawful N.count f d (known_inside d b e), sound.few), r.2)
