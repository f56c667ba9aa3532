-- The passes of the rest costs of one neighbour.
use Rattle.std.proofs.Common.{◌≡◌, ℕ, ◌+◌, ◌<◌, ◌≤◌, eqb, ◌≢◌, List, length, get_or, Some, None, Option, sym, refl, ap, ◌∙◌, ap₂, ⊎_elim, arith}
use Rattle.std.proofs.lemmas.Bool.{cases_eq, cases_lt, cond-true, cond-false, eq-eqb, ne_eqb}
use Rattle.routes.specs.Leasts.{lesser, joined}
use Rattle.routes.specs.Network.{Network, Sound}
use Rattle.routes.specs.Settling.{climbed, lowered}
use Rattle.routes.specs.Transverse.{Transverse, rest}
use Rattle.routes.specs.Tree.{Fathers, lowest_father}
use Rattle.routes.proofs.Fathers.{lowest_chooses}
use Rattle.routes.proofs.Members.{cases_option}
use Rattle.routes.proofs.Order.{least_some}
use Rattle.routes.proofs.Theorems.{rest_is_least_lem, transverse_routes_avoid_lem, passes_solve_lem}
use Rattle.squares.specs.Found.{NearestFirst}
use Rattle.squares.specs.Known.{with_offer, Short}
use Rattle.settling.specs.Rows.{by_father}
use Rattle.squares.proofs.Offers.{lesser_none}
use Rattle.settling.proofs.Orders.{after_father, same_place}
use Rattle.settling.proofs.Trees.{joins_route}

-- The first i routers of the sequence have their rest costs, the others the costs of the best climbs.
pub record Descended {C : Type 0} (N : Network C) (root v : ℕ) (order : List ℕ) (f : ℕ → Option C) (i : ℕ) : Type 0 where
  pub at : (j : ℕ) → j < i → f (get_or order j 0) ≡ rest N (lowest_father N) root v (get_or order j 0)
  pub waits : (d : ℕ) → d < N.count → ((j : ℕ) → j < i → get_or order j 0 ≢ d) → f d ≡ climbed N (lowest_father N) root v d
  pub none : (d : ℕ) → d < N.count → lowest_father N root d ≡ None → f d ≡ rest N (lowest_father N) root v d

module _ {C : Type 0} (N : Network C) (sound : Sound N) (root v : ℕ) where
  abbrev F : Fathers
  F = lowest_father N

  pub father_inside : (d p : ℕ) → F root d ≡ Some p → p < N.count
  father_inside d p e = let q = (lowest_chooses N sound).possible root d p e in sound.from p d q.1 q.3

  -- a transverse route joins few links
  pub transverse_short : (d : ℕ) (c : C) → Transverse N F root v d c → Short N.rule c
  transverse_short d c t =
      let q = transverse_routes_avoid_lem C N sound F (lowest_chooses N sound) root v d c t in
      (q.0, omega (arith, q.1), joins_route N sound q.2)

  pub rest_short : (d : ℕ) (c : C) → rest N F root v d ≡ Some c → Short N.rule c
  rest_short d c e =
      transverse_short d c (least_some N.rule sound.lawful (Transverse N F root v d) (rest N F root v d) c (rest_is_least_lem C N sound F (lowest_chooses N sound) root v d) e).holds

  lowered_rest : (d : ℕ) → rest N F root v d ≡ lesser N.rule (climbed N F root v d) (by_father N (F root d) (rest N F root v) d)
  unfolding lowered
  lowered_rest d = (passes_solve_lem C N sound F (lowest_chooses N sound) root v).descending d

  pub descended_first : (order : List ℕ) (f : ℕ → Option C) → ((d : ℕ) → d < N.count → f d ≡ climbed N F root v d) → Descended N root v order f 0
  descended_first order f h =
      record {
        at = λ j l. absurd (omega arith);
        waits = λ d l _. h d l;
        none = λ d l e. h d l ∙ sym (lowered_rest d ∙ ap (λ o. lesser N.rule (climbed N F root v d) (by_father N o (rest N F root v) d)) e ∙ lesser_none N.rule (climbed N F root v d));
      }

  module _ {order : List ℕ} (line : NearestFirst N root order) {f : ℕ → Option C} {i : ℕ} (done : Descended N root v order f i) where
    -- the father of the next router has its rest cost
    pub father_done : i < length order → (p : ℕ) → F root (get_or order i 0) ≡ Some p → f p ≡ rest N F root v p
    father_done l p e =
        let b = after_father N sound root order line (get_or order i 0) p e in
        ap f (sym b.4) ∙ done.at b.0 (omega (arith, b.2, same_place N sound root order line b.1 i b.3 l b.5)) ∙ ap (rest N F root v) b.4

    module _ {f' : ℕ → Option C} (l : i < length order) (s : (x : ℕ) → f' x ≡ with_offer N.rule f (get_or order i 0) (by_father N (F root (get_or order i 0)) f (get_or order i 0)) x) where
      abbrev d : ℕ
      d = get_or order i 0

      kept : (x : ℕ) → x ≢ d → f' x ≡ f x
      kept x ne = s x ∙ cond-false (eqb x d) (lesser N.rule (f x) (by_father N (F root d) f d)) (f x) (ne_eqb x d ne)

      value : f' d ≡ rest N F root v d
      value =
          s d ∙ cond-true (eqb d d) (lesser N.rule (f d) (by_father N (F root d) f d)) (f d) (eq-eqb d d refl)
          ∙ ap₂ (lesser N.rule) (done.waits d (line.reached i l).0 (λ j h. line.once j i h l)) (by (F root d) refl) ∙ sym (lowered_rest d)
        where
          by : (o : Option ℕ) → F root d ≡ o → by_father N o f d ≡ by_father N o (rest N F root v) d
          by None e = refl
          by (Some p) e = ap (λ o. joined N.rule o (N.link p d)) (father_done l p e)

      pub descended_more : Descended N root v order f' (i + 1)
      descended_more =
          record {
            at = λ j k. ⊎_elim
                (λ (q : get_or order j 0 ≡ d). ap f' q ∙ value ∙ sym (ap (rest N F root v) q))
                (λ ne. kept (get_or order j 0) ne ∙ done.at j
                (⊎_elim (λ (b : j < i). b) (λ b. let q : j ≡ i = omega arith in absurd (ne (ap (λ z. get_or order z 0) q))) (cases_lt j i)))
                (cases_eq (get_or order j 0) d);
            waits = λ x lx n. kept x (λ q. n i (omega arith) (sym q)) ∙ done.waits x lx (λ j h. n j (omega arith));
            none = λ x lx e. ⊎_elim (λ (q : x ≡ d). ap f' q ∙ value ∙ sym (ap (rest N F root v) q)) (λ ne. kept x ne ∙ done.none x lx e) (cases_eq x d);
          }

    pub descended_all : length order ≤ i → (d : ℕ) → d < N.count → f d ≡ rest N F root v d
    descended_all h d l =
        ⊎_elim (λ e. done.none d l e)
        (λ q. let b = after_father N sound root order line d q.0 q.1 in
        ap f (sym b.5) ∙ done.at b.1 (omega (arith, b.3)) ∙ ap (rest N F root v) b.5)
        (cases_option (F root d))
