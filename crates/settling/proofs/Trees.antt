-- The lowest number that passes a test, the costs that a search left, and the hops by an order of fathers first.
use Rattle.std.proofs.Common.{◌≡◌, ℕ, zero, suc, ◌+◌, ◌<◌, ◌≤◌, Bool, true, false, cond, ◌&&◌, eqb, List, map, length, get_or, drop, set, replicate, is_some, Some, None, Option, sym, refl, ap, ◌∙◌, subst, ap₂, ⊎_elim, arith}
use Rattle.std.proofs.lemmas.List.FromFn.{length-map-range_with_len, get_or-map-range_with_len, fill_by_all}
use Rattle.std.proofs.lemmas.List.{get_or_append_left, length-append, length-set, get_or-set_same, get_or-set_other}
use Rattle.std.proofs.lemmas.Bool.{both_ways, cases_order, cases_eq, cases_lt, cond-true, lt-ltb, eq-eqb}
use Rattle.std.specs.List.{range_with_len}
use Rattle.costs.specs.Costs.{Joins, none, more}
use Rattle.routes.specs.Leasts.{same, joined}
use Rattle.routes.specs.Lists.{lowest, when_some}
use Rattle.routes.specs.Network.{Network, Sound}
use Rattle.routes.specs.Routes.{Through, stay, go, Route, best}
use Rattle.routes.specs.Tree.{lowest_father, possible_father}
use Rattle.routes.proofs.Fathers.{lowest_chooses}
use Rattle.routes.proofs.Members.{cases_option, lowest_passes, lowest_some, lowest_first_lem}
use Rattle.routes.proofs.Order.{least_some}
use Rattle.routes.proofs.Theorems.{best_is_least_lem}
use Rattle.squares.specs.Found.{Searched}
use Rattle.squares.specs.Known.{costs_in, Short}
use Rattle.squares.specs.declared.found.Found.{Found}
use Rattle.settling.specs.Trees.{Shorts, passes, father_by, hop_by, Hops, FathersFirst}

-- The hops of the first i routers of the sequence are written, and none of a router without a father.
pub record Hopped (fathers : List (Option ℕ)) (root : ℕ) (order : List ℕ) (hops : List (Option ℕ)) (i : ℕ) : Type 0 where
  pub long : length hops ≡ 32
  pub at : (h : ℕ → Option ℕ) → Hops fathers root h → (j : ℕ) → j < i → get_or hops (get_or order j 0) None ≡ h (get_or order j 0)
  pub none : (d : ℕ) → get_or fathers d None ≡ None → get_or hops d None ≡ None

pub lowest_at : (n : ℕ) (p : ℕ → Bool) (x : ℕ) → x < n → p x ≡ true → ((y : ℕ) → y < x → p y ≡ false) → lowest n p ≡ Some x
lowest_at n p x l e none_before =
    let q = lowest_some n p x l e in
    q.1 ∙ ap Some (⊎_elim (λ s. s) (⊎_elim
    (λ h. absurd (both_ways (p q.0) (none_before q.0 h) (lowest_passes n p q.0 q.1).1))
    (λ h. absurd (lowest_first_lem n p q.0 x q.1 h e))) (cases_order q.0 x))

pub lowest_none : (n : ℕ) (p : ℕ → Bool) → ((y : ℕ) → y < n → p y ≡ false) → lowest n p ≡ None
lowest_none n p h =
    ⊎_elim (λ e. e) (λ q. let r = lowest_passes n p q.0 q.1 in absurd (both_ways (p q.0) (h q.0 r.0) r.1)) (cases_option (lowest n p))

pub lowest_same : (n : ℕ) (p q : ℕ → Bool) → ((y : ℕ) → y < n → p y ≡ q y) → lowest n p ≡ lowest n q
unfolding lowest
lowest_same zero p q h = refl
lowest_same (suc n) p q h =
    ap₂ (λ (o : Option ℕ) (t : Bool). elim o [ Some x ↦ Some x | None ↦ cond t (Some n) None ]) (lowest_same n p q (λ y l. h y (omega arith))) (h n (omega arith))

-- the cost of a route joins as many links as it has
pub joins_route : {C : Type 0} (N : Network C) (sound : Sound N) {ok : ℕ → Bool} {k a d : ℕ} {c : C} → Through N ok k a d c → Joins N.rule k c
joins_route N sound (stay h o) = none
joins_route N sound (go {x = x} {d = d} {w = w} r l o) =
    let q = sound.costs x d w l in
    more q.0 w (joins_route N sound r) q.1

pub best_short : {C : Type 0} (N : Network C) (sound : Sound N) (root d : ℕ) (b : C) → best N root d ≡ Some b → Short N.rule b
best_short {C} N sound root d b e =
    let r = (least_some N.rule sound.lawful (λ c. (k : ℕ) × (k ≤ 99) × Route N k root d c) (best N root d) b (best_is_least_lem C N sound root d) e).holds in
    (r.0, omega (arith, r.1), joins_route N sound r.2)

-- there is no link to a router past the count
pub unlinked : {C : Type 0} (N : Network C) (sound : Sound N) (a b : ℕ) → N.count ≤ b → N.link a b ≡ None
unlinked N sound a b l = ⊎_elim (λ e. e) (λ q. absurd (omega (arith, sound.to a b q.0 q.1))) (cases_option (N.link a b))

-- a router past the count has no father
pub fatherless : {C : Type 0} (N : Network C) (sound : Sound N) (root d : ℕ) → N.count ≤ d → lowest_father N root d ≡ None
fatherless N sound root d l =
    ⊎_elim (λ e. e)
    (λ q. let p = (lowest_chooses N sound).possible root d q.0 q.1 in absurd (omega (arith, sound.to q.0 d p.1 p.3)))
    (cases_option (lowest_father N root d))

module _ {C : Type 0} (N : Network C) (sound : Sound N) (root : ℕ) (memory : List C) (found : Found) (s : Searched N root memory memory found) where
  abbrev f : ℕ → Option C
  f = costs_in N.rule memory found.known

  abbrev cost : ℕ → C
  cost d = when_some (best N root d) N.rule.zero (λ c. c)

  pub places : N.count ≤ length memory
  places =
      omega (arith, ap length s.memory ∙ length-append (map cost (range_with_len 0 N.count)) (drop N.count memory), length-map-range_with_len cost 0 N.count)

  written : (d : ℕ) → d < N.count → get_or memory d N.rule.zero ≡ cost d
  written d l =
      ap (λ m. get_or m d N.rule.zero) s.memory
      ∙ get_or_append_left (map cost (range_with_len 0 N.count)) (drop N.count memory) N.rule.zero d (omega (arith, length-map-range_with_len cost 0 N.count))
      ∙ get_or-map-range_with_len cost 0 N.count d d N.rule.zero l (omega arith)

  -- what a search left are the best costs
  pub known_best : (d : ℕ) → d < N.count → f d ≡ best N root d
  known_best d l =
      ap₂ (λ t c. cond t (Some c) None) (s.known d ∙ ap (λ t. t && is_some (best N root d)) (lt-ltb d N.count l)) (written d l) ∙ by (best N root d)
    where
      by : (o : Option C) → cond (is_some o) (Some (when_some o N.rule.zero (λ c. c))) None ≡ o
      by None = refl
      by (Some b) = refl

  pub shorts : Shorts N.rule N.count f
  shorts x a l e = best_short N sound root x a (sym (known_best x l) ∙ e)

  pub father_lowest : (d : ℕ) → d < N.count → father_by N f d ≡ lowest_father N root d
  unfolding lowest_father possible_father
  father_lowest d l =
      lowest_same N.count (passes N f d) (λ x. possible_father N root x d)
      (λ x h. ap₂ (λ o o'. same N.rule (joined N.rule o (N.link x d)) o') (known_best x h) (known_best d l))

-- an array without numbers
pub all_none : {A : Type 0} (n k : ℕ) → get_or {A = Option A} (replicate n None) k None ≡ None
all_none zero k = refl
all_none (suc n) zero = refl
all_none (suc n) (suc k) = all_none n k

-- The hops after some routers of the sequence, and the next, d.
module _ {fathers : List (Option ℕ)} {root : ℕ} {order : List ℕ} (first : FathersFirst fathers root order) {hops : List (Option ℕ)} {i : ℕ}
    (done : Hopped fathers root order hops i) where
  module _ {d : ℕ} {v : Option ℕ} (l : i < length order) (e : get_or order i 0 ≡ d) (ev : v ≡ hop_by fathers root (λ x. get_or hops x None) d) where
    inside : d < length hops
    inside = omega (arith, done.long, subst (λ z. z < 32) e (first.routers i l))

    value : (h : ℕ → Option ℕ) → Hops fathers root h → v ≡ h d
    value h s = ev ∙ by (get_or fathers d None) refl ∙ sym (s d)
      where
        by : (o : Option ℕ) → get_or fathers d None ≡ o →
            when_some o None (λ x. cond (eqb x root) (Some d) (get_or hops x None)) ≡ when_some o None (λ x. cond (eqb x root) (Some d) (h x))
        by None eo = refl
        by (Some x) eo =
            ⊎_elim
            (λ (r : x ≡ root). cond-true (eqb x root) (Some d) (get_or hops x None) (eq-eqb x root r) ∙ sym (cond-true (eqb x root) (Some d) (h x) (eq-eqb x root r)))
            (λ q. ap (cond (eqb x root) (Some d)) (ap (λ z. get_or hops z None) (sym q.2) ∙ done.at h s q.0 q.1 ∙ ap h q.2))
            (first.before i x l (ap (λ z. get_or fathers z None) e ∙ eo))

    pub hopped_more : Hopped fathers root order (set hops d v) (i + 1)
    hopped_more =
        record {
          long = length-set hops d v ∙ done.long;
          at = λ h s j k. ⊎_elim
              (λ (q : get_or order j 0 ≡ d). ap (λ z. get_or (set hops d v) z None) q ∙ get_or-set_same hops d v None inside ∙ value h s ∙ sym (ap h q))
              (λ ne. get_or-set_other hops d (get_or order j 0) v None ne ∙ done.at h s j
              (⊎_elim (λ (b : j < i). b) (λ b. let q : j ≡ i = omega arith in absurd (ne (ap (λ z. get_or order z 0) q ∙ e))) (cases_lt j i)))
              (cases_eq (get_or order j 0) d);
          none = λ x n. ⊎_elim
              (λ (q : x ≡ d). ap (λ z. get_or (set hops d v) z None) q ∙ get_or-set_same hops d v None inside ∙ ev
              ∙ ap (λ o. when_some o None (λ x. cond (eqb x root) (Some d) (get_or hops x None))) (ap (λ z. get_or fathers z None) (sym q) ∙ n))
              (λ ne. get_or-set_other hops d x v None ne ∙ done.none x n)
              (cases_eq x d);
        }

  pub hopped_all : length order ≤ i → (h : ℕ → Option ℕ) → Hops fathers root h → hops ≡ map h (range_with_len 0 32)
  hopped_all l h s =
      fill_by_all h hops 32 None done.long
      (λ k _. ⊎_elim
      (λ n. done.none k n ∙ sym (s k ∙ ap (λ o. when_some o None (λ x. cond (eqb x root) (Some k) (h x))) n))
      (λ q. let p = first.each k q.0 q.1 in
      ap (λ z. get_or hops z None) (sym p.2) ∙ done.at h s p.0 (omega (arith, p.1)) ∙ ap h p.2)
      (cases_option (get_or fathers k None)))
