-- Transverse routes: their branches, and the routes that they are.
use Rattle.std.proofs.Common.{◌≡◌, ℕ, suc, ◌+◌, ◌*◌, ◌<◌, ◌≤◌, true, eqb, ◌≢◌, Some, sym, refl, ◌∙◌, subst, arith}
use Rattle.std.proofs.lemmas.Bool.{ne_eqb, not_from_false}
use Rattle.routes.specs.Network.{Network, Sound}
use Rattle.routes.specs.Routes.{avoids, Through, stay, go}
use Rattle.routes.specs.Tree.{hop, Falls, at, on, Fathers, Chooses}
use Rattle.routes.specs.Transverse.{Start, itself, across, Climb, begin, up, Transverse, top, down}
use Rattle.routes.proofs.Members.{none_some, some_inj}
use Rattle.routes.proofs.Fathers.{father_is, neighbour, root_fatherless, depth, depth_below, father_depth}
use Rattle.routes.proofs.Branches.{branched, hop_on, hop_inner, hop_known, hop_fathered}

pub avoids_other : (root x : ℕ) → x ≢ root → avoids root x ≡ true
avoids_other root x ne = not_from_false (eqb x root) (ne_eqb x root ne)

module _ {Cost : Type 0} (N : Network Cost) (sound : Sound N) (father : Fathers) (chooses : Chooses N father) (root : ℕ) where
  abbrev dep : ℕ → ℕ
  dep = depth N sound root

  -- a neighbour of the root lies in a branch
  pub neighbour_hop : (v : ℕ) (w : Cost) → N.link root v ≡ Some w → (h : ℕ) × (hop N father root v ≡ Some h)
  neighbour_hop v w l =
      let q = neighbour N sound root v w l in
      let u = branched N sound father chooses root v q.0 q.1 q.2 in
      (u.head, u.hop_here)

  pub hop_below : (d h : ℕ) → hop N father root d ≡ Some h → d < N.count
  hop_below d h e =
      let p = hop_fathered N sound father chooses root d h e in
      let f = father_is N sound father chooses root d p.0 p.1 in
      sound.to p.0 d f.last f.linked

  module _ (v : ℕ) where
    start_hop : {y : ℕ} {c : Cost} → Start N father root v y c → (h : ℕ) × (hop N father root y ≡ Some h)
    start_hop (itself {w = w} l) = neighbour_hop v w l
    start_hop (across {h = h} e e' ne f l) = (h, e')

    pub climb_hop : {y : ℕ} {c : Cost} → Climb N father root v y c → (h : ℕ) × (hop N father root y ≡ Some h)
    climb_hop (begin s) = start_hop s
    climb_hop (up {x = x} {y = y} k f ne l) =
        let q = climb_hop k in (q.0, sym (hop_on N sound father chooses root x y f ne) ∙ q.1)

    pub transverse_hop : {d : ℕ} {c : Cost} → Transverse N father root v d c → (h : ℕ) × (hop N father root d ≡ Some h)
    transverse_hop (top k) = climb_hop k
    transverse_hop (down {y = y} {x = x} t f l) =
        let q = transverse_hop t in (q.0, hop_on N sound father chooses root x y f (hop_inner N sound father chooses root y q.0 q.1) ∙ q.1)

    -- Within its own branch a neighbour only descends.
    own_start : {y : ℕ} {c : Cost} → Start N father root v y c → hop N father root y ≡ Some v → (y ≡ v) × (c ≡ N.rule.zero)
    own_start (itself l) e = (refl, refl)
    own_start (across {h = h} e₁ e₂ ne f l) e = absurd (ne (some_inj h v (sym e₂ ∙ e)))

    own_climb : {y : ℕ} {c : Cost} → Climb N father root v y c → hop N father root y ≡ Some v → (y ≡ v) × (c ≡ N.rule.zero)
    own_climb (begin s) e = own_start s e
    own_climb (up {x = x} {y = y} k f ne l) e =
        let q = own_climb k (hop_on N sound father chooses root x y f ne ∙ e) in
        let u = (hop_known N sound father chooses root y v e).2 in
        let fv : father root v ≡ Some root = subst (λ z. father root z ≡ Some root) (hop_known N sound father chooses root y v e).3 u.father_head in
        absurd (ne (some_inj y root (sym (subst (λ z. father root z ≡ Some y) q.0 f) ∙ fv)))

    pub own_transverse : {d : ℕ} {c : Cost} → Transverse N father root v d c → hop N father root d ≡ Some v → Falls N father root v d c
    own_transverse (top k) e = let q = own_climb k e in rw (q.0, q.1) at
    own_transverse (down {y = y} {x = x} t f l) e =
        let q = transverse_hop t in
        on (own_transverse t (sym (hop_on N sound father chooses root x y f (hop_inner N sound father chooses root y q.0 q.1)) ∙ e)) f l

    -- a tree path down from v is a transverse route of v
    pub falls_transverse : {d : ℕ} {c w : Cost} → N.link root v ≡ Some w → Falls N father root v d c → Transverse N father root v d c
    falls_transverse l at = top (begin (itself l))
    falls_transverse l (on f g l') = down (falls_transverse l f) g l'

    -- A transverse route is a route that never meets the root.
    falls_through : {x : ℕ} {c : Cost} → v < N.count → v ≢ root → Falls N father root v x c →
        (k : ℕ) × (k + dep v ≤ dep x) × Through N (avoids root) k v x c
    falls_through h ne at = (0, omega arith, stay h (avoids_other root v ne))
    falls_through h ne (on {p = p} {x = x} f g l) =
        let q = falls_through h ne f in
        (suc q.0, omega (arith, q.1, father_depth N sound father chooses root x p g), go q.2 l (avoids_other root x (fathered x p g)))
      where
        fathered : (x p : ℕ) → father root x ≡ Some p → x ≢ root
        fathered x p g e = none_some p (sym (root_fatherless N sound father chooses root) ∙ subst (λ z. father root z ≡ Some p) e g)

    start_through : {y : ℕ} {c : Cost} → Start N father root v y c → (k : ℕ) × (k ≤ N.count) × Through N (avoids root) k v y c
    start_through (itself {w = w} l) = (0, omega arith, stay (sound.to root v w l) (avoids_other root v (neighbour N sound root v w l).2))
    start_through (across {x = x} {y = y} {h = h} e e' ne f l) =
        let u = hop_known N sound father chooses root x v e in
        let hv : hop N father root v ≡ Some v = subst (λ z. hop N father root z ≡ Some z) u.3 u.2.hop_head in
        let q = falls_through (hop_below v v hv) (hop_inner N sound father chooses root v v hv) f in
        (suc q.0, omega (arith, q.1, depth_below N sound root x (hop_below x v e)), go q.2 l (avoids_other root y (hop_inner N sound father chooses root y h e')))

    climb_through : {y : ℕ} {c : Cost} → Climb N father root v y c → (k : ℕ) × (k + dep y < 2 * N.count) × Through N (avoids root) k v y c
    climb_through (begin {y = y} s) =
        let q = start_through s in let h = start_hop s in
        (q.0, omega (arith, q.1, depth_below N sound root y (hop_below y h.0 h.1)), q.2)
    climb_through (up {x = x} {y = y} k f ne l) =
        let q = climb_through k in
        (suc q.0, omega (arith, q.1, father_depth N sound father chooses root x y f), go q.2 l (avoids_other root y ne))

    transverse_within : {d : ℕ} {c : Cost} → Transverse N father root v d c → (k : ℕ) × (k < 2 * N.count + dep d) × Through N (avoids root) k v d c
    transverse_within (top k) = let q = climb_through k in (q.0, omega (arith, q.1), q.2)
    transverse_within (down {y = y} {x = x} t f l) =
        let q = transverse_within t in let h = transverse_hop t in
        let e = hop_on N sound father chooses root x y f (hop_inner N sound father chooses root y h.0 h.1) ∙ h.1 in
        (suc q.0, omega (arith, q.1, father_depth N sound father chooses root x y f), go q.2 l (avoids_other root x (hop_inner N sound father chooses root x h.0 e)))

    pub transverse_through : {d : ℕ} {c : Cost} → Transverse N father root v d c → (k : ℕ) × (k < 99) × Through N (avoids root) k v d c
    transverse_through {d} t =
        let q = transverse_within t in let h = transverse_hop t in
        (q.0, omega (arith, q.1, depth_below N sound root d (hop_below d h.0 h.1), sound.few), q.2)

    -- only neighbours of the root have transverse routes
    start_neighbour : {y : ℕ} {c : Cost} → Start N father root v y c → (w : Cost) × (N.link root v ≡ Some w)
    start_neighbour (itself {w = w} l) = (w, l)
    start_neighbour (across {x = x} e e' ne f l) =
        let u = hop_known N sound father chooses root x v e in (u.2.first, subst (λ z. N.link root z ≡ Some u.2.first) u.3 u.2.linked)

    climb_neighbour : {y : ℕ} {c : Cost} → Climb N father root v y c → (w : Cost) × (N.link root v ≡ Some w)
    climb_neighbour (begin s) = start_neighbour s
    climb_neighbour (up t f ne l) = climb_neighbour t

    pub transverse_neighbour : {d : ℕ} {c : Cost} → Transverse N father root v d c → (w : Cost) × (N.link root v ≡ Some w)
    transverse_neighbour (top t) = climb_neighbour t
    transverse_neighbour (down t f l) = transverse_neighbour t
