-- Rest costs that are absent, and what a page answers.
use Rattle.std.proofs.Common.{◌≡◌, ℕ, ◌<◌, ◌≤◌, Bool, true, false, List, ◌++◌, map, length, get_or, drop, is_some, Some, None, Option, sym, refl, ap, ◌∙◌, ap₂, ⊎_elim, arith}
use Rattle.std.proofs.lemmas.List.FromFn.{length-map-range_with_len, get_or-map-range_with_len}
use Rattle.std.proofs.lemmas.List.{drop_at, get_or_past}
use Rattle.std.proofs.lemmas.Bool.{cases_Bool, cases_lt, cond-true, cond-false}
use Rattle.std.specs.List.{range_with_len}
use Rattle.costs.specs.Costs.{Costs}
use Rattle.masks.specs.Sets.{holds, mask, besides}
use Rattle.routes.specs.Leasts.{below}
use Rattle.routes.specs.Lists.{when_some}
use Rattle.routes.specs.Network.{Network, Sound}
use Rattle.routes.specs.Routes.{best}
use Rattle.routes.specs.Transverse.{Transverse, rest, valid, other, valid_set, other_set}
use Rattle.routes.specs.Tree.{Fathers, lowest_father, hop}
use Rattle.routes.proofs.Branches.{hop_known}
use Rattle.routes.proofs.Fathers.{lowest_chooses}
use Rattle.routes.proofs.Members.{none_some, cases_option}
use Rattle.routes.proofs.Order.{least_some}
use Rattle.routes.proofs.Routes.{end_below}
use Rattle.routes.proofs.Theorems.{rest_is_least_lem}
use Rattle.routes.proofs.Transverses.{transverse_neighbour, transverse_through}
use Rattle.squares.specs.Found.{Searched}
use Rattle.squares.specs.Known.{costs_in}
use Rattle.squares.specs.declared.found.Found.{Found}
use Rattle.pagetable.specs.declared.page.Page.{Page}
use Rattle.settling.proofs.Orders.{at_table, at_hops}
use Rattle.settling.proofs.Rows.{father_inside}
use Rattle.page_settling.specs.Hops.{cost_held, sets_below}
use Rattle.page_settling.specs.Settled.{page_kept, Answers}
use Rattle.masks.proofs.MaskLaws.{mask_none, mask_besides}

-- What a row holds for a router of the mask, and for another.
module _ {C : Type 0} (rule : Costs C) (row : List C) (reached d : ℕ) where
  pub cost_in : holds reached d ≡ true → costs_in rule row reached d ≡ Some (get_or row d rule.zero)
  cost_in h = cond-true _ _ _ h

  pub cost_not_in : holds reached d ≡ false → costs_in rule row reached d ≡ None
  cost_not_in h = cond-false _ _ _ h

  pub held_at : holds reached d ≡ true → cost_held rule row reached d ≡ get_or row d rule.zero
  held_at h = ap (λ o. when_some o rule.zero (λ c. c)) (cost_in h)

  pub held_not : holds reached d ≡ false → cost_held rule row reached d ≡ rule.zero
  held_not h = ap (λ o. when_some o rule.zero (λ c. c)) (cost_not_in h)

-- past its end a row holds nothing
pub held_past : {C : Type 0} (rule : Costs C) (row : List C) (reached d : ℕ) → length row ≤ d → get_or row d rule.zero ≡ cost_held rule row reached d
held_past rule row reached d l =
    get_or_past row d rule.zero l
    ∙ ⊎_elim (λ h. sym (held_at rule row reached d h ∙ get_or_past row d rule.zero l)) (λ h. sym (held_not rule row reached d h)) (cases_Bool (holds reached d))

-- nothing is below an absent cost
pub below_none : {C : Type 0} (rule : Costs C) (o : Option C) → below rule o None ≡ false
unfolding below
below_none rule None = refl
below_none rule (Some a) = refl

module _ {C : Type 0} (N : Network C) (sound : Sound N) (root : ℕ) where
  abbrev F : Fathers
  F = lowest_father N

  -- where a rest cost is there, so is a transverse route
  route : (v d : ℕ) (c : C) → rest N F root v d ≡ Some c → Transverse N F root v d c
  route v d c e =
      (least_some N.rule sound.lawful (Transverse N F root v d) (rest N F root v d) c (rest_is_least_lem C N sound F (lowest_chooses N sound) root v d) e).holds

  -- a router that is no neighbour of the root has no rest costs
  pub rest_unlinked : (v d : ℕ) → N.link root v ≡ None → rest N F root v d ≡ None
  rest_unlinked v d n =
      ⊎_elim (λ e. e)
      (λ q. let p = transverse_neighbour N sound F (lowest_chooses N sound) root v (route v d q.0 q.1) in absurd (none_some p.0 (sym n ∙ p.1)))
      (cases_option (rest N F root v d))

  -- there are no rest costs to a router past the count
  pub rest_past : (v d : ℕ) → N.count ≤ d → rest N F root v d ≡ None
  rest_past v d l =
      ⊎_elim (λ e. e)
      (λ q. let p = transverse_through N sound F (lowest_chooses N sound) root v (route v d q.0 q.1) in absurd (omega (arith, end_below N sound p.2)))
      (cases_option (rest N F root v d))

  pub candidate_past : (v d : ℕ) → N.count ≤ d → is_some (rest N F root v d) ≡ false
  candidate_past v d l = ap is_some (rest_past v d l)

  pub valid_past : (v d : ℕ) → N.count ≤ d → valid N F root v d ≡ false
  unfolding valid below
  valid_past v d l = ap (λ o. below N.rule o (best N root d)) (rest_past v d l)

  -- a table of 32 sets has the set of each router, where those past the count have none
  at_sets : (p : ℕ → ℕ → Bool) → ((v d : ℕ) → N.count ≤ d → p v d ≡ false) → (d : ℕ) →
      get_or (map (λ d. mask N.count (λ v. p v d)) (range_with_len 0 32)) d 0 ≡ mask N.count (λ v. p v d)
  at_sets p past d =
      ⊎_elim (λ (l : d < 32). get_or-map-range_with_len set 0 32 d d 0 l (omega arith))
      (λ l. get_or_past (map set (range_with_len 0 32)) d 0 (omega (arith, length-map-range_with_len set 0 32))
      ∙ sym (mask_none N.count (λ v. p v d) (λ v _. past v d (omega (arith, sound.few)))))
      (cases_lt d 32)
    where
      set : ℕ → ℕ
      set d = mask N.count (λ v. p v d)

  -- a page by its four lists
  pub page_is : (p : Page) → p.father ≡ map (F root) (range_with_len 0 32) → p.hop ≡ map (hop N F root) (range_with_len 0 32) →
      p.candidates ≡ sets_below N.count (λ v d. is_some (rest N F root v d)) → p.valid ≡ sets_below N.count (valid N F root) → p ≡ page_kept N root
  unfolding valid_set
  page_is p father hop candidates valid = λ i. record { father = father i; hop = hop i; candidates = candidates i; valid = valid i }

  pub answers : Answers N root (page_kept N root)
  unfolding valid_set other_set other
  answers d =
      let c = at_sets (λ v d. is_some (rest N F root v d)) candidate_past d in
      let w = at_sets (λ v d. valid N F root v d) valid_past d in
      let o = ap₂ besides c w ∙ mask_besides N.count (λ v. is_some (rest N F root v d)) (λ v. valid N F root v d) sound.few in
      λ i. (at_hops N sound root d i, w i, o i)

  -- fathers and tree hops are routers of the network
  pub father_small : (k x : ℕ) → get_or (map (F root) (range_with_len 0 32)) k None ≡ Some x → x < 256
  father_small k x e = omega (arith, father_inside N sound root 0 k x (sym (at_table N sound root k) ∙ e), sound.few)

  pub hop_small : (k x : ℕ) → get_or (map (hop N F root) (range_with_len 0 32)) k None ≡ Some x → x < 256
  hop_small k x e =
      let q = hop_known N sound F (lowest_chooses N sound) root k x (sym (at_hops N sound root k) ∙ e) in
      let u = q.2 in
      omega (arith, sound.to root u.head u.first u.linked, q.3, sound.few)

  -- what a search left over any memory, it left over its own
  pub searched_again : (old new : List C) (found : Found) → Searched N root old new found → Searched N root new new found
  searched_again old new found s =
      record {
        memory = s.memory ∙ ap (λ t. costs ++ t) (sym (ap (drop N.count) s.memory ∙ drop_at costs (drop N.count old) N.count (length-map-range_with_len cost 0 N.count)));
        known = s.known;
        order = s.order;
      }
    where
      cost : ℕ → C
      cost d = when_some (best N root d) N.rule.zero (λ c. c)

      costs : List C
      costs = map cost (range_with_len 0 N.count)
