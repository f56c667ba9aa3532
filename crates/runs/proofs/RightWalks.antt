-- What hops and walk answer on an area whose current pages are those of the links standing.
use Rattle.std.proofs.Common.{◌≡◌, ℕ, zero, suc, ◌+◌, ◌-◌, ◌%◌, ◌<◌, ◌≤◌, Bool, true, false, cond, ◌&&◌, eqb, ltb, leb, ◌≢◌, ◌⊎◌, List, [], ◌∷◌, length, get_or, take, is_some, Some, None, Ok, Err, Option, Result, sym, refl, ap, ◌∙◌, subst, ap₂, inl, inr, ⊎_elim, add-zero, add-suc, mod-lt, arith}
use mathlib.Core.List.{Memᴰ}
use Rattle.std.proofs.lemmas.Bool.{and_parts, and_left, cases_eq, cond-true, cond-false, eq-eqb, ne_eqb, lt-ltb, le-ltb, ltb-true, le-leb, leb-true}
use Rattle.area.specs.Areas.{Area, answered, hops_answer, route_refusal, walk_fault, walk_on, arrived, walk_answer, walked}
use Rattle.area.specs.Networks.{standing_on}
use Rattle.costs.specs.Costs.{Costs, Laws}
use Rattle.faults.specs.Calls.{or_else, granted, in_area}
use Rattle.faults.specs.declared.fault.Fault.{Fault}
use Rattle.faults.specs.declared.fault.Fault.TheVariants as fault
use Rattle.faults.specs.declared.refusal.Refusal.{Refusal}
use Rattle.faults.specs.declared.refusal.Refusal.TheVariants.{NoSuchRouter, MemoryTooShort, TooFewPicks, StalePage, NoRoute, NotArrived}
use Rattle.masks.specs.Sets.{holds, members}
use Rattle.masks.proofs.MaskLaws.{members_held}
use Rattle.memory.specs.Writes.{laid}
use Rattle.pagetable.specs.Pages.{is_current, page_of, hops_to}
use Rattle.pagetable.specs.Walks.{walk_by, valid_sets, all_current}
use Rattle.pagetable.specs.declared.table.PageTable.{PageTable}
use Rattle.settling.proofs.Orders.{at_table}
use Rattle.routes.specs.Lists.{when_some}
use Rattle.routes.specs.Network.{Network, Sound}
use Rattle.routes.specs.Routes.{best}
use Rattle.routes.specs.Transverse.{valid, valid_set, other_set}
use Rattle.routes.specs.Tree.{Fathers, lowest_father, hop}
use Rattle.routes.specs.Walk as walks
use Rattle.routes.specs.Walk.{picked, walk, trail, last_of}
use Rattle.routes.proofs.Fathers.{lowest_chooses, best_root}
use Rattle.routes.proofs.Members.{none_some, cases_option}
use Rattle.routes.proofs.Walks.{getD_in}
use Rattle.routes.proofs.Theorems.{standing_is_sound_lem, tree_stands_lem, sets_are_masks_lem, walk_arrives_lem}
use Rattle.page_settling.specs.Settled.{Answers}
use Rattle.page_settling.proofs.Rests.{answers}
use Rattle.tables.specs.Tables.{Lawful}
use Rattle.runs.specs.Laws.{MayGo, Arrives, there, step, RightWalk}
use Rattle.runs.proofs.Faithful.{Faithful, few}
use Rattle.runs.proofs.RightHops.{valid_of, of_valid, valid_linked}

-- ---- tests and refusals
-- hops is granted where both routers are the area's and the page is current
hops_tests : (p q s : Bool) → in_area (or_else (cond p None (Some NoSuchRouter)) (or_else (cond q None (Some NoSuchRouter)) (cond s None (Some StalePage)))) ≡ None → (p ≡ true) × (q ≡ true) × (s ≡ true)
hops_tests true true true e = (refl, refl, refl)
hops_tests false q s e = let z : ◌≡◌ {A = ℕ} 0 1 = cc in absurd (omega arith)
hops_tests true false s e = let z : ◌≡◌ {A = ℕ} 0 1 = cc in absurd (omega arith)
hops_tests true true false e = let z : ◌≡◌ {A = ℕ} 0 1 = cc in absurd (omega arith)

answered_ok : {X : Type 0} (f : Option Fault) (x y : X) → answered f x ≡ Ok y → (f ≡ None) × (x ≡ y)
answered_ok None x y e = (refl, cc)
answered_ok (Some g) x y e = let z : ◌≡◌ {A = ℕ} 0 1 = cc in absurd (omega arith)

-- the fault of a walk by its six tests
abbrev judged : Bool → Bool → Bool → Bool → Bool → Option Refusal → Option Fault
judged p q r s u o =
    in_area (or_else (cond p None (Some NoSuchRouter))
    (or_else (cond q None (Some NoSuchRouter))
    (or_else (cond r None (Some MemoryTooShort))
    (or_else (cond s None (Some TooFewPicks))
    (or_else (cond u None (Some StalePage)) o)))))

-- a walk that answers 15 passed all of them
record Passed (p q r s u : Bool) (o : Option Refusal) (w : Result ℕ Fault) : Type 0 where
  from_in : p ≡ true
  to_in : q ≡ true
  room : r ≡ true
  enough : s ≡ true
  current : u ≡ true
  routed : o ≡ None
  short : w ≡ Err (fault.Area NotArrived 0)

-- no refusal but the last is 15
abbrev Not15 : Option Refusal → Type 0
Not15 o = o ≢ Some NotArrived

passed : (p q r s u : Bool) (o : Option Refusal) → Not15 o → (w : Result ℕ Fault) → walked (judged p q r s u o) w ≡ Err (fault.Area NotArrived 0) → Passed p q r s u o w
passed true true true true true None n w e = record { from_in = refl; to_in = refl; room = refl; enough = refl; current = refl; routed = refl; short = e }
passed true true true true true (Some x) n w e = absurd (n (ap Some (let y : x ≡ NotArrived = cc in y)))
passed false q r s u o n w e = let z : ◌≡◌ {A = ℕ} 0 1 = cc in absurd (omega arith)
passed true false r s u o n w e = let z : ◌≡◌ {A = ℕ} 0 1 = cc in absurd (omega arith)
passed true true false s u o n w e = let z : ◌≡◌ {A = ℕ} 0 1 = cc in absurd (omega arith)
passed true true true false u o n w e = let z : ◌≡◌ {A = ℕ} 0 1 = cc in absurd (omega arith)
passed true true true true false o n w e = let z : ◌≡◌ {A = ℕ} 0 1 = cc in absurd (omega arith)

route_not_15 : (p q : Bool) → Not15 (cond p None (cond q None (Some NoRoute)))
route_not_15 true q e = let z : ◌≡◌ {A = ℕ} 0 1 = cc in omega arith
route_not_15 false true e = let z : ◌≡◌ {A = ℕ} 0 1 = cc in omega arith
route_not_15 false false e = let z : ◌≡◌ {A = ℕ} 0 1 = cc in omega arith

-- ---- pages that are current
pub all_of : (pages : PageTable) (n : ℕ) → all_current pages n ≡ true → (r : ℕ) → r < n → is_current pages r ≡ true
unfolding all_current
all_of pages zero e r l = absurd (omega arith)
all_of pages (suc n) e r l =
    let p = and_parts (all_current pages n) (is_current pages n) e in
    by (all_of pages n p.0 r) (cases_eq r n)
  where
    by : (r < n → is_current pages r ≡ true) → (r ≡ n) ⊎ (r ≡ n → ⊥) → is_current pages r ≡ true
    by below (inl q) = ap (is_current pages) q ∙ (and_parts (all_current pages n) (is_current pages n) e).1
    by below (inr ne) = below (omega arith)

pub of_all : (pages : PageTable) (n : ℕ) → ((r : ℕ) → r < n → is_current pages r ≡ true) → all_current pages n ≡ true
unfolding all_current
of_all pages zero h = refl
of_all pages (suc n) h = ap₂ ◌&&◌ (of_all pages n (λ r l. h r (omega arith))) (h n (omega arith))

-- ---- members
-- a set without members from n on
members_few : (m n : ℕ) → ((v : ℕ) → n ≤ v → holds m v ≡ false) → (j : ℕ) → members m (n + j) ≡ members m n
unfolding members
members_few m n h zero = ap (members m) (add-zero n)
members_few m n h (suc j) = ap (members m) (add-suc n j) ∙ cond-false (holds m (n + j)) _ _ (h (n + j) (omega arith)) ∙ members_few m n h j

-- what is picked is a member
picked_of : (pick : ℕ) (xs : List ℕ) (v : ℕ) → picked pick xs ≡ Some v → Memᴰ v xs
unfolding picked
picked_of pick [] v e = absurd (none_some v e)
picked_of pick (x ∷ xs) v e =
    let q : get_or (x ∷ xs) (pick % length (x ∷ xs)) 0 ≡ v = cc in
    subst (λ z. Memᴰ z (x ∷ xs)) q (getD_in (x ∷ xs) (pick % length (x ∷ xs)) (mod-lt pick (omega arith)))

module _ {C : Type 0} (k : Costs C) (laws : Laws k) (a : Area) (lawful : Lawful a.table) (f : Faithful k a) where
  abbrev pub N : Network C
  N = standing_on k a.table

  abbrev n : ℕ
  n = a.table.count

  abbrev F : Fathers
  F = lowest_father N

  pub sound : Sound N
  sound = standing_is_sound_lem C k laws n (few a.table lawful) a.table.shown

  -- a current page answers the hops of the definitions
  at_page : (root : ℕ) → is_current a.pages root ≡ true → Answers N root (page_of a.pages root)
  at_page root e = subst (Answers N root) (sym (f.right root e)) (answers N sound root)

  pub hops_told : (root to : ℕ) (tree : Option ℕ) (valid other : ℕ) → hops_answer a root to ≡ Ok (tree, valid, other) →
      (is_current a.pages root ≡ true) × (◌≡◌ {A = Option ℕ × ℕ × ℕ} (tree, valid, other) (hop N F root to, valid_set N F root to, other_set N F root to))
  hops_told root to tree chosen rest e =
      let q = answered_ok _ (hops_to (page_of a.pages root) to) (tree, chosen, rest) e in
      let t = hops_tests (ltb root n) (ltb to n) (is_current a.pages root) q.0 in
      (t.2, sym q.1 ∙ at_page root t.2 to)

  pub hops_granted : (root to : ℕ) → root < n → to < n → is_current a.pages root ≡ true → hops_answer a root to ≡ Ok (hop N F root to, valid_set N F root to, other_set N F root to)
  hops_granted root to lr lt e =
      (λ i. answered (in_area (or_else (cond (lt-ltb root n lr i) None (Some NoSuchRouter)) (or_else (cond (lt-ltb to n lt i) None (Some NoSuchRouter)) (cond (e i) None (Some StalePage)))))
      (hops_to (page_of a.pages root) to)) ∙ ap Ok (at_page root e to)

  module _ (all : (r : ℕ) → r < n → is_current a.pages r ≡ true) (d : ℕ) (inside : d < n) where
    -- the valid hops of the definitions are those that hops answers
    may_go : (x v : ℕ) → valid N F x v d ≡ true → MayGo a d x v
    may_go x v e =
        let w = valid_linked N sound x v d e in
        let lx = sound.from x v w.0 w.1 in
        (hop N F x d, valid_set N F x d, other_set N F x d, hops_granted x d lx inside (all x lx), of_valid N sound x d v e)

    may_valid : (x v : ℕ) → MayGo a d x v → valid N F x v d ≡ true
    may_valid x v m =
        let t = hops_told x d m.0 m.1 m.2 m.3 in
        valid_of N sound x d v (ap (λ s. holds s v) (sym (ap (λ (h : Option ℕ × ℕ × ℕ). h.1) t.1)) ∙ m.4)

    pub arriving : {j x : ℕ} → walks.Arrives N F d j x → Arrives a d j x
    arriving walks.there = there
    arriving (walks.step {x = x} v g) = step (v.0, may_go x v.0 v.1) (λ u m. arriving (g u (may_valid x u m)))

    -- the valid set of a page, and its members
    set_of : (x : ℕ) → x < n → valid_sets a.pages d x ≡ valid_set N F x d
    set_of x l = ap (λ (h : Option ℕ × ℕ × ℕ). h.1) (at_page x (all x l) d)

    members_of : (x : ℕ) → x < n → members (valid_sets a.pages d x) 32 ≡ members (valid_set N F x d) n
    members_of x l =
        let s : 32 ≡ n + (32 - n) = omega (arith, sound.few) in
        ap₂ members (set_of x l) s
        ∙ members_few (valid_set N F x d) n (λ v h. (sets_are_masks_lem C N sound.few F x d).valid_has v ∙ and_left (ltb v n) (valid N F x v d) (le-ltb v n h)) (32 - n)

    picked_inside : (pick x v : ℕ) → picked pick (members (valid_set N F x d) n) ≡ Some v → v < n
    picked_inside pick x v e =
        let w = valid_linked N sound x v d (valid_of N sound x d v (members_held (valid_set N F x d) n v (picked_of pick (members (valid_set N F x d) n) v e))) in
        sound.to x v w.0 w.1

    same_walk : (picks : List ℕ) (x : ℕ) → x < n → walk_by (valid_sets a.pages d) d picks x ≡ walk N F d picks x
    unfolding walk_by walk
    same_walk [] x l = refl
    same_walk (pick ∷ picks) x l =
        ap (λ t. cond (eqb x d) (x ∷ []) (x ∷ t))
        (ap (λ ms. when_some (picked pick ms) [] (λ v. walk_by (valid_sets a.pages d) d picks v)) (members_of x l)
        ∙ by (same_walk picks) (picked pick (members (valid_set N F x d) n)) refl)
      where
        by : ((v : ℕ) → v < n → walk_by (valid_sets a.pages d) d picks v ≡ walk N F d picks v) → (o : Option ℕ) → picked pick (members (valid_set N F x d) n) ≡ o →
            when_some o [] (λ v. walk_by (valid_sets a.pages d) d picks v) ≡ when_some o [] (λ v. walk N F d picks v)
        by more None e = refl
        by more (Some v) e = more v (picked_inside pick x v e)

  -- a walk's last test: there is a route
  father_on : (from to : ℕ) → is_current a.pages from ≡ true → get_or (page_of a.pages from).father to None ≡ F from to
  father_on from to e = ap (λ p. get_or p.father to None) (f.right from e) ∙ at_table N sound from to

  pub routed : (from to : ℕ) (c : C) → is_current a.pages from ≡ true → best N from to ≡ Some c → route_refusal (page_of a.pages from) from to ≡ None
  routed from to c e b =
      ⊎_elim (λ (q : to ≡ from). cond-true (eqb to from) None _ (eq-eqb to from q))
      (λ ne. let t = tree_stands_lem C N sound F (lowest_chooses N sound) from to c b ne in
      cond-false (eqb to from) None _ (ne_eqb to from ne) ∙ ap (λ o. cond (is_some o) None (Some NoRoute)) (father_on from to e ∙ t.father_is))
      (cases_eq to from)

  pub unrouted : (from to : ℕ) → from < n → is_current a.pages from ≡ true → best N from to ≡ None → route_refusal (page_of a.pages from) from to ≡ Some NoRoute
  unrouted from to l e b =
      cond-false (eqb to from) None _ (ne_eqb to from (λ q. none_some k.zero (sym (ap (best N from) (sym q) ∙ b) ∙ best_root N sound from l)))
      ∙ ap (λ o. cond (is_some o) None (Some NoRoute)) (father_on from to e ∙ fatherless)
    where
      fatherless : F from to ≡ None
      fatherless = ⊎_elim (λ q. q) (λ q. let p = (lowest_chooses N sound).possible from to q.0 q.1 in absurd (none_some _ (sym b ∙ p.4))) (cases_option (F from to))

  module _ (from to : ℕ) (picks old : List ℕ) where
    -- the tests of a walk, one by one
    fault_is : from < n → to < n → n ≤ length old → n - 1 ≤ length picks → all_current a.pages n ≡ true → (o : Option Refusal) → route_refusal (page_of a.pages from) from to ≡ o →
        walk_fault a from to (length picks) (length old) ≡ in_area o
    fault_is lf lt room enough all o e =
        λ i. judged (lt-ltb from n lf i) (lt-ltb to n lt i) (le-leb n (length old) room i) (le-leb (n - 1) (length picks) enough i) (all i) (e i)

    pub right_walk : ((r : ℕ) → r < n → is_current a.pages r ≡ true) → from < n → to < n → n ≤ length old → n - 1 ≤ length picks → RightWalk N a from to picks old
    right_walk all lf lt room enough =
        let now = of_all a.pages n all in
        let met : walk_on a from to picks ≡ trail N F to picks from = same_walk all to lt (take (n - 1) picks) from lf in
        record {
          arrives = λ c b.
              let none = fault_is lf lt room enough now None (routed from to c (all from lf) b) in
              let ends = walk_arrives_lem C N sound F (lowest_chooses N sound) from to c picks b enough in (
                (λ i. walked (none i) (arrived from to (met i))) ∙ cond-true (eqb (last_of from (trail N F to picks from)) to) _ _ (eq-eqb _ to ends.0),
                (λ i. granted (none i) (laid old 0 (met i)) old),
                ends.0,
                ends.1,
              );
          no_route = λ b.
              let some = fault_is lf lt room enough now (Some NoRoute) (unrouted from to lf (all from lf) b) in
              ((λ i. walked (some i) (arrived from to (walk_on a from to picks))), λ i. granted (some i) (laid old 0 (walk_on a from to picks)) old);
        }

    pub never_short : walk_answer a from to picks old ≢ Err (fault.Area NotArrived 0)
    never_short e =
        let p = passed (ltb from n) (ltb to n) (leb n (length old)) (leb (n - 1) (length picks)) (all_current a.pages n) (route_refusal (page_of a.pages from) from to)
        (route_not_15 (eqb to from) (is_some (get_or (page_of a.pages from).father to None))) (arrived from to (walk_on a from to picks)) e in
        let lf = ltb-true from n p.from_in in
        let lt = ltb-true to n p.to_in in
        let all = all_of a.pages n p.current in
        let w = right_walk all lf lt (leb-true n (length old) p.room) (leb-true (n - 1) (length picks) p.enough) in
        ⊎_elim
        (λ none. let z : ◌≡◌ {A = ℕ} 0 1 = (let q = sym (w.no_route none).0 ∙ e in cc) in omega arith)
        (λ q. let z : ◌≡◌ {A = ℕ} 0 1 = (let r = sym (w.arrives q.0 q.1).0 ∙ e in cc) in omega arith)
        (cases_option (best N from to))
