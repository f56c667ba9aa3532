-- With two-way links, a second candidate is there exactly where a route leaves the root another way.
use Rattle.std.proofs.Common.{◌≡◌, ℕ, true, eqb, ◌≢◌, Some, sym, ap, ◌∙◌, subst, ⊎_elim}
use Rattle.std.proofs.lemmas.Bool.{both_ways, cases_eq, not-true, eq-eqb}
use Rattle.routes.specs.Network.{Network, Sound, TwoWay}
use Rattle.routes.specs.Routes.{Through, stay, go, avoids, best}
use Rattle.routes.specs.Tree.{hop, Falls, at, on, Fathers, Chooses}
use Rattle.routes.specs.Transverse.{itself, across, Climb, begin, up, Transverse, top, down}
use Rattle.routes.proofs.Members.{some_inj}
use Rattle.routes.proofs.Routes.{end_ok}
use Rattle.routes.proofs.Fathers.{father_is, best_link, neighbour}
use Rattle.routes.proofs.Branches.{branched, hop_known, hop_on, hop_top, hop_fathered, tree_induction}

module _ {Cost : Type 0} (N : Network Cost) (sound : Sound N) (two_way : TwoWay N) (father : Fathers) (chooses : Chooses N father) (root : ℕ) where
  -- a climb can go on to the head of its branch
  climb_head : (v y : ℕ) (c : Cost) (h : ℕ) → Climb N father root v y c → hop N father root y ≡ Some h → (b : Cost) × Climb N father root v h b
  climb_head v y c h = tree_induction N sound father chooses root (λ y. (c : Cost) → Climb N father root v y c → hop N father root y ≡ Some h → (b : Cost) × Climb N father root v h b) step y c
    where
      step : (y : ℕ) → ((x : ℕ) → father root y ≡ Some x → (c : Cost) → Climb N father root v x c → hop N father root x ≡ Some h → (b : Cost) × Climb N father root v h b) →
          (c : Cost) → Climb N father root v y c → hop N father root y ≡ Some h → (b : Cost) × Climb N father root v h b
      step y more c t e =
          let p = hop_fathered N sound father chooses root y h e in
          let f = father_is N sound father chooses root y p.0 p.1 in
          let back = two_way p.0 y f.last f.linked in
          ⊎_elim (λ (r : p.0 ≡ root).
          let s = some_inj y h (sym (hop_top N sound father chooses root y (subst (λ z. father root y ≡ Some z) r p.1)) ∙ e) in
          (c, subst (λ z. Climb N father root v z c) s t))
          (λ ne. more p.0 p.1 (N.rule.join c back.0) (up t p.1 ne back.1) (sym (hop_on N sound father chooses root y p.0 p.1 ne) ∙ e))
          (cases_eq p.0 root)

  -- and from there descend to any router of the branch
  descend : (v h : ℕ) (b : Cost) → Transverse N father root v h b → {d : ℕ} {c : Cost} → Falls N father root h d c → (a : Cost) × Transverse N father root v d a
  descend v h b t at = (b, t)
  descend v h b t (on {w = w} f g l) = let q = descend v h b t f in (N.rule.join q.0 w, down q.1 g l)

  reach : (v y d h : ℕ) (c : Cost) → Climb N father root v y c → hop N father root y ≡ Some h → hop N father root d ≡ Some h → (a : Cost) × Transverse N father root v d a
  reach v y d h c t e e' =
      let q = climb_head v y c h t e in
      let u = hop_known N sound father chooses root d h e' in
      descend v h q.0 (top q.1) (subst (λ z. Falls N father root z d u.2.after) u.3 u.2.falls)

  inner : (x : ℕ) → avoids root x ≡ true → x ≢ root
  inner x e s = both_ways (eqb x root) (not-true (eqb x root) e) (eq-eqb x root s)

  known : (v : ℕ) (w : Cost) → N.link root v ≡ Some w → {k y : ℕ} {c : Cost} → Through N (avoids root) k v y c → (b : Cost) × (best N root y ≡ Some b)
  known v w l (stay h o) = let q = neighbour N sound root v w l in (q.0, q.1)
  known v w l (go {x = x} {d = y} {w = w'} r l' o) =
      let q = known v w l r in let s = best_link N sound root x y q.0 w' q.1 l' in (s.0, s.1)

  hop_of_lem : (v : ℕ) (w : Cost) → N.link root v ≡ Some w → {k y : ℕ} {c : Cost} → Through N (avoids root) k v y c → (h : ℕ) × (hop N father root y ≡ Some h)
  hop_of_lem v w l {k} {y} {c} r =
      let q = known v w l r in
      let u = branched N sound father chooses root y q.0 q.1 (inner y (end_ok N r)) in
      (u.head, u.hop_here)

  -- a route from another neighbour into the branch of h gives a candidate other than h
  pub crossing : (d h v : ℕ) (w : Cost) → hop N father root d ≡ Some h → v ≢ h → N.link root v ≡ Some w → {k y : ℕ} {c : Cost} → Through N (avoids root) k v y c → hop N father root y ≡ Some h →
      (u : ℕ) × (u ≢ h) × ((a : Cost) × Transverse N father root u d a)
  crossing d h v w e ne l (stay hv o) ey = (v, ne, reach v v d h N.rule.zero (begin (itself l)) ey e)
  crossing d h v w e ne l (go {x = x} {d = y} {w = w'} r l' o) ey = by (crossing d h v w e ne l r) (hop_of_lem v w l r)
    where
      by : (hop N father root x ≡ Some h → (u : ℕ) × (u ≢ h) × ((a : Cost) × Transverse N father root u d a)) → (g : ℕ) × (hop N father root x ≡ Some g) →
          (u : ℕ) × (u ≢ h) × ((a : Cost) × Transverse N father root u d a)
      by more q =
          ⊎_elim (λ (s : q.0 ≡ h). more (q.1 ∙ ap Some s))
          (λ s.
          let b = hop_known N sound father chooses root x q.0 q.1 in
          let f = subst (λ z. Falls N father root z x b.2.after) b.3 b.2.falls in
          (q.0, s, reach q.0 y d h (N.rule.join b.2.after w') (begin (across q.1 ey (λ t. s (sym t)) f l')) ey e))
          (cases_eq q.0 h)
