-- The hops of a page are right by the links.
use Rattle.std.proofs.Common.{◌≡◌, ℕ, ◌%◌, ◌^◌, ◌≤◌, Bool, true, not, ◌&&◌, eqb, ltb, ◌≢◌, ◌⊎◌, is_some, Some, None, Option, sym, refl, ap, ◌∙◌, inl, inr, ⊎_elim}
use native.Mathlib.Nat.{zero-div}
use Rattle.std.proofs.lemmas.Bool.{and_parts, and_from, cases_Bool, cases_eq, eq-eqb, lt-ltb, not_from_false, true≢false}
use Rattle.masks.specs.Sets.{holds}
use Rattle.routes.specs.Network.{Network, Sound, TwoWay}
use Rattle.routes.specs.Routes.{Through, stay, go, Route, avoids, best}
use Rattle.routes.specs.Theorems.{Leaves}
use Rattle.routes.specs.Transverse.{rest, valid, other, valid_set, other_set}
use Rattle.routes.specs.Tree.{Fathers, lowest_father, hop}
use Rattle.routes.proofs.Fathers.{lowest_chooses, neighbour, best_link}
use Rattle.routes.proofs.Members.{none_some, some_inj, cases_option, present_some}
use Rattle.routes.proofs.Order.{least_some, least_at}
use Rattle.routes.proofs.Theorems.{best_is_least_lem, tree_stands_lem, tree_hop_is_valid_lem, valid_is_nearer_lem, second_candidate_lem, nothing_without_route_lem, sets_are_masks_lem}
use Rattle.routes.proofs.Valid.{below_both}
use Rattle.page_settling.proofs.Rests.{rest_unlinked}
use Rattle.runs.specs.Laws.{RightHops}

module _ {C : Type 0} (N : Network C) (sound : Sound N) where
  abbrev F : Fathers
  F = lowest_father N

  -- a router that has a rest cost is a neighbour
  pub linked : (root v d : ℕ) (r : C) → rest N F root v d ≡ Some r → (w : C) × (N.link root v ≡ Some w)
  linked root v d r e =
      ⊎_elim (λ n. absurd (none_some r (sym (rest_unlinked N sound root v d n) ∙ e))) (λ q. q) (cases_option (N.link root v))

  -- a valid hop has a rest cost
  valid_rest : (root v d : ℕ) → valid N F root v d ≡ true → (r : C) × (rest N F root v d ≡ Some r)
  unfolding valid
  valid_rest root v d e = let p = below_both N.rule (rest N F root v d) (best N root d) e in (p.0, p.2)

  -- the valid set has exactly the valid hops
  pub valid_of : (root to v : ℕ) → holds (valid_set N F root to) v ≡ true → valid N F root v to ≡ true
  valid_of root to v h = (and_parts (ltb v N.count) (valid N F root v to) (sym ((sets_are_masks_lem C N sound.few F root to).valid_has v) ∙ h)).1

  inside : (root v d : ℕ) (r : C) → rest N F root v d ≡ Some r → ltb v N.count ≡ true
  inside root v d r e = let q = linked root v d r e in lt-ltb v N.count (sound.to root v q.0 q.1)

  pub of_valid : (root to v : ℕ) → valid N F root v to ≡ true → holds (valid_set N F root to) v ≡ true
  of_valid root to v e =
      let r = valid_rest root v to e in
      (sets_are_masks_lem C N sound.few F root to).valid_has v ∙ and_from (ltb v N.count) (valid N F root v to) (inside root v to r.0 r.1) e

  -- a valid hop is a neighbour of the root
  pub valid_linked : (root v d : ℕ) → valid N F root v d ≡ true → (w : C) × (N.link root v ≡ Some w)
  valid_linked root v d e = let r = valid_rest root v d e in linked root v d r.0 r.1

  -- a member of either set is a candidate, and a candidate is a member of either
  other_of : (root to v : ℕ) → holds (other_set N F root to) v ≡ true → is_some (rest N F root v to) ≡ true
  unfolding other
  other_of root to v h =
      (and_parts (is_some (rest N F root v to)) (not (valid N F root v to))
      (and_parts (ltb v N.count) (is_some (rest N F root v to) && not (valid N F root v to)) (sym ((sets_are_masks_lem C N sound.few F root to).other_has v) ∙ h)).1).0

  either_of : (root to v : ℕ) → (holds (valid_set N F root to) v ≡ true) ⊎ (holds (other_set N F root to) v ≡ true) → is_some (rest N F root v to) ≡ true
  either_of root to v (inl h) = let r = valid_rest root v to (valid_of root to v h) in ap is_some r.1
  either_of root to v (inr h) = other_of root to v h

  of_either : (root to v : ℕ) → is_some (rest N F root v to) ≡ true → (holds (valid_set N F root to) v ≡ true) ⊎ (holds (other_set N F root to) v ≡ true)
  unfolding other
  of_either root to v h =
      let r = present_some (rest N F root v to) h in
      ⊎_elim (λ e. inl (of_valid root to v e))
      (λ e. inr ((sets_are_masks_lem C N sound.few F root to).other_has v
      ∙ and_from (ltb v N.count) (is_some (rest N F root v to) && not (valid N F root v to)) (inside root v to r.0 r.1)
      (and_from (is_some (rest N F root v to)) (not (valid N F root v to)) h (not_from_false (valid N F root v to) e))))
      (cases_Bool (valid N F root v to))

  -- a route and a best cost
  pub route_of : (a d : ℕ) (b : C) → best N a d ≡ Some b → (j : ℕ) × (j ≤ 99) × Route N j a d b
  route_of a d b e = (least_some N.rule sound.lawful (λ c. (j : ℕ) × (j ≤ 99) × Route N j a d c) (best N a d) b (best_is_least_lem C N sound a d) e).holds

  pub best_of : (a d j : ℕ) (c : C) → j ≤ 99 → Route N j a d c → (b : C) × (best N a d ≡ Some b)
  best_of a d j c h r =
      let q = least_at N.rule sound.lawful (λ c. (j : ℕ) × (j ≤ 99) × Route N j a d c) (best N a d) c (best_is_least_lem C N sound a d) (j, h, r) in (q.0, q.1)

  -- towards another router with a route there is a tree hop
  pub hop_of_lem : (root to : ℕ) (b : C) → best N root to ≡ Some b → root ≢ to → (h : ℕ) × (hop N F root to ≡ Some h)
  hop_of_lem root to b e ne = let t = tree_stands_lem C N sound F (lowest_chooses N sound) root to b e (λ q. ne (sym q)) in (t.head, t.hop_is)

  -- where a route leads on, there is a best cost
  led : (root : ℕ) {ok : ℕ → Bool} {j v d : ℕ} {c : C} → Through N ok j v d c → (b : C) → best N root v ≡ Some b → (b' : C) × (best N root d ≡ Some b')
  led root (stay h o) b e = (b, e)
  led root (go {x = x} {d = d} {c = c} {w = w} r l o) b e =
      let q = led root r b e in
      let s = best_link N sound root x d q.0 w q.1 l in (s.0, s.1)

  -- a route that avoids the root ends elsewhere
  ends_apart : (root : ℕ) {j v d : ℕ} {c : C} → Through N (avoids root) j v d c → root ≢ d
  ends_apart root (stay {a = d} h o) e = true≢false (sym o ∙ ap not (eq-eqb d root (sym e)))
  ends_apart root (go {d = d} r l o) e = true≢false (sym o ∙ ap not (eq-eqb d root (sym e)))

  leaves_hop : (root v to : ℕ) → Leaves N root v to → (h : ℕ) × (hop N F root to ≡ Some h)
  leaves_hop root v to l =
      let n = neighbour N sound root v l.1 l.4 in
      let q = led root l.5 n.0 n.1 in
      hop_of_lem root to q.0 q.1 (ends_apart root l.5)

  -- without a tree hop there are no hops at all
  empty_sets : (root to v : ℕ) → hop N F root to ≡ None → (holds (valid_set N F root to) v ≡ true) ⊎ (holds (other_set N F root to) v ≡ true) → ⊥
  empty_sets root to v n h =
      let z = nothing_without_route_lem C N sound F (lowest_chooses N sound) root to (⊎_elim (λ (e : to ≡ root). inl e) (λ ne. inr (none ne)) (cases_eq to root)) in
      ⊎_elim (λ q. absurd (never (ap (λ m. holds m v) (sym z.1) ∙ q))) (λ q. absurd (never (ap (λ m. holds m v) (sym z.2) ∙ q))) h
    where
      none : (to ≡ root → ⊥) → best N root to ≡ None
      none ne = ⊎_elim (λ e. e) (λ q. let p = hop_of_lem root to q.0 q.1 (λ e. ne (sym e)) in absurd (none_some p.0 (sym n ∙ p.1))) (cases_option (best N root to))

      never : holds 0 v ≡ true → ⊥
      never e = true≢false (sym e ∙ ap (λ m. eqb (m % 2) 1) (zero-div (2 ^ v)))

  pub right_hops : TwoWay N → (root to : ℕ) → RightHops N root to (hop N F root to) (valid_set N F root to) (other_set N F root to)
  right_hops two root to =
      record {
        tree_is = refl;
        valid_is = refl;
        other_is = refl;
        descends = λ v h.
            let e = valid_of root to v h in
            let q = valid_linked root v to e in
            let p = valid_is_nearer_lem C N sound F (lowest_chooses N sound) root v to e in
            (q.0, p.0, p.1, q.1, p.2, p.3, p.4);
        reaches = λ ne. (
          (λ q. let p = valid_is_nearer_lem C N sound F (lowest_chooses N sound) root q.0 to (valid_of root to q.0 q.1) in
              let r = route_of root to p.1 p.3 in (r.0, p.1, r.1, r.2)),
          λ q. let b = best_of root to q.0 q.1 q.2 q.3 in
              let h = hop_of_lem root to b.0 b.1 ne in
              (h.0, of_valid root to h.0 (tree_hop_is_valid_lem C N sound F (lowest_chooses N sound) root to h.0 h.1).1),
        );
        second = by (hop N F root to) refl;
      }
    where
      by : (o : Option ℕ) → hop N F root to ≡ o →
          ((v : ℕ) × (o ≢ Some v) × ((holds (valid_set N F root to) v ≡ true) ⊎ (holds (other_set N F root to) v ≡ true))
          → (v : ℕ) × (o ≢ Some v) × Leaves N root v to)
          × ((v : ℕ) × (o ≢ Some v) × Leaves N root v to
          → (v : ℕ) × (o ≢ Some v) × ((holds (valid_set N F root to) v ≡ true) ⊎ (holds (other_set N F root to) v ≡ true)))
      by None e = (
        (λ q. absurd (empty_sets root to q.0 e q.2)),
        λ q. let h = leaves_hop root q.0 to q.2 in absurd (none_some h.0 (sym e ∙ h.1)),
      )
      by (Some h) e =
          let s = second_candidate_lem C N sound two F (lowest_chooses N sound) root to h e in (
            (λ q. let p = s.0 (q.0, (λ x. q.1 (ap Some (sym x))), either_of root to q.0 q.2) in
                (p.0, (λ x. p.1 (sym (some_inj h p.0 x))), p.2)),
            λ q. let p = s.1 (q.0, (λ x. q.1 (ap Some (sym x))), q.2) in
                (p.0, (λ x. p.1 (sym (some_inj h p.0 x))), of_either root to p.0 p.2),
          )
