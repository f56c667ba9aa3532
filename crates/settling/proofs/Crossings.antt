-- The starts of one neighbour: at itself, and over the links from the routers of its branch, one after the other.
use Rattle.std.proofs.Common.{◌≡◌, ℕ, ◌+◌, ◌<◌, ◌≤◌, Bool, true, false, cond, not, ◌&&◌, ◌||◌, eqb, ◌≢◌, ◌⊎◌, List, get_or, is_some, Some, None, Option, sym, refl, ap, ◌∙◌, ap₂, inl, inr, ⊎_elim, add-one, arith}
use Rattle.std.proofs.lemmas.Bool.{cases_eq, cases_lt, cond-true, cond-false, eq-eqb, ne_eqb, and_left, and_right, and_from, not_from_true}
use Rattle.costs.specs.Costs.{Costs, Laws}
use Rattle.masks.specs.Sets.{holds}
use Rattle.routes.specs.Leasts.{IsLeast, lesser, joined, least_below}
use Rattle.routes.specs.Lists.{is_number}
use Rattle.routes.specs.Network.{Network, Sound}
use Rattle.routes.specs.Settling.{started, climbed}
use Rattle.routes.specs.Transverse.{Climb, leaves_branch}
use Rattle.routes.specs.Tree.{Fathers, lowest_father, hop, in_branch, fall, at}
use Rattle.routes.proofs.Branches.{falls_fall}
use Rattle.routes.proofs.Fathers.{lowest_chooses}
use Rattle.routes.proofs.Members.{none_some, some_inj, cases_option, present_some}
use Rattle.routes.proofs.Order.{unique, same_least, least_lesser, least_some}
use Rattle.routes.proofs.Rest.{climbed_is}
use Rattle.routes.proofs.Transverses.{hop_below, climb_hop}
use Rattle.squares.specs.Known.{costs_in, with_offer}
use Rattle.settling.specs.Rows.{other_hop, crossing}
use Rattle.settling.proofs.Falls.{nothing_in}
use Rattle.squares.proofs.Offers.{lesser_none}
use Rattle.settling.proofs.Offers.{cost_there}

module _ {C : Type 0} (rule : Costs C) (laws : Laws rule) where
  itself_least : (o : Option C) → IsLeast rule (λ c. o ≡ Some c) o
  itself_least None = λ x e. none_some x e
  itself_least (Some a) = record { holds = refl; lowest = λ x e. ap (λ z. rule.lower z a) (sym (some_inj a x e)) ∙ laws.irreflexive a }

  lesser_assoc : (a b c : Option C) → lesser rule (lesser rule a b) c ≡ lesser rule a (lesser rule b c)
  lesser_assoc a b c =
      unique rule laws (λ x. ((a ≡ Some x) ⊎ (b ≡ Some x)) ⊎ (c ≡ Some x)) (lesser rule (lesser rule a b) c) (lesser rule a (lesser rule b c))
      (least_lesser rule laws (λ x. (a ≡ Some x) ⊎ (b ≡ Some x)) (λ x. c ≡ Some x) (lesser rule a b) c
      (least_lesser rule laws (λ x. a ≡ Some x) (λ x. b ≡ Some x) a b (itself_least a) (itself_least b)) (itself_least c))
      (same_least rule laws (λ x. (a ≡ Some x) ⊎ ((b ≡ Some x) ⊎ (c ≡ Some x))) (λ x. ((a ≡ Some x) ⊎ (b ≡ Some x)) ⊎ (c ≡ Some x)) (lesser rule a (lesser rule b c))
      (λ x. ⊎_elim (λ p. inl (inl p)) (⊎_elim (λ p. inl (inr p)) inr)) (λ x. ⊎_elim (⊎_elim inl (λ p. inr (inl p))) (λ p. inr (inr p)))
      (least_lesser rule laws (λ x. a ≡ Some x) (λ x. (b ≡ Some x) ⊎ (c ≡ Some x)) a (lesser rule b c) (itself_least a)
      (least_lesser rule laws (λ x. b ≡ Some x) (λ x. c ≡ Some x) b c (itself_least b) (itself_least c))))

-- The routers below i have taken what they were offered, the others have what they had before.
pub record Crossed {C : Type 0} (rule : Costs C) (before offer f : ℕ → Option C) (i : ℕ) : Type 0 where
  pub done : (d : ℕ) → d < i → f d ≡ lesser rule (before d) (offer d)
  pub waits : (d : ℕ) → i ≤ d → f d ≡ before d

module _ {C : Type 0} (rule : Costs C) (before offer : ℕ → Option C) where
  pub crossed_first : Crossed rule before offer before 0
  crossed_first = record { done = λ d l. absurd (omega arith); waits = λ d l. refl }

  module _ {f : ℕ → Option C} {i : ℕ} (on : Crossed rule before offer f i) where
    pub crossed_more : {f' : ℕ → Option C} → ((d : ℕ) → f' d ≡ with_offer rule f i (offer i) d) → Crossed rule before offer f' (i + 1)
    crossed_more {f'} s =
        record {
          done = λ d l. ⊎_elim
              (λ (e : d ≡ i). s d ∙ cond-true (eqb d i) (lesser rule (f d) (offer i)) (f d) (eq-eqb d i e) ∙ ap₂ (lesser rule) (on.waits d (omega arith)) (ap offer (sym e)))
              (λ ne. kept d ne ∙ on.done d (omega arith))
              (cases_eq d i);
          waits = λ d l. let ne : d ≢ i = omega arith in kept d ne ∙ on.waits d (omega arith);
        }
      where
        kept : (d : ℕ) → d ≢ i → f' d ≡ f d
        kept d ne = s d ∙ cond-false (eqb d i) (lesser rule (f d) (offer i)) (f d) (ne_eqb d i ne)

    pub crossed_all : ((d : ℕ) → i ≤ d → offer d ≡ None) → (d : ℕ) → f d ≡ lesser rule (before d) (offer d)
    crossed_all none d =
        ⊎_elim (λ (l : d < i). on.done d l) (λ l. on.waits d l ∙ sym (ap (lesser rule (before d)) (none d l) ∙ lesser_none rule (before d)))
        (cases_lt d i)

-- a router without a link from x is not offered anything
pub not_crossed : {C : Type 0} (N : Network C) (v : ℕ) (h : Option ℕ) (x : ℕ) (cost : Option C) (y : ℕ) → N.link x y ≡ None → crossing N v h x cost y ≡ None
unfolding joined
not_crossed {C} N v h x cost y e = ap (λ l. cond (other_hop v h) (joined N.rule cost l) None) e ∙ by (other_hop v h) cost
  where
    by : (t : Bool) (o : Option C) → cond t (joined N.rule o None) None ≡ None
    by true None = refl
    by true (Some c) = refl
    by false o = refl

-- a router of the branch is in no other
pub in_no_other : (v : ℕ) (h : Option ℕ) → is_number h v ≡ true → other_hop v h ≡ false
in_no_other v h e = and_right (is_some h) (not (is_number h v)) (not_from_true (is_number h v) e)

module _ {C : Type 0} (N : Network C) (root v : ℕ) where
  abbrev F : Fathers
  F = lowest_father N

  -- what y is offered over the link from x
  abbrev way : ℕ → ℕ → Option C
  way y x = cond (leaves_branch N F root v x y) (joined N.rule (fall N F root v x) (N.link x y)) None

  -- the start of v at itself
  abbrev itself : ℕ → Option C
  itself y = cond (eqb v y && is_some (N.link root v)) (Some N.rule.zero) None

  -- the best start at y, at v itself or over the links from the routers below i
  abbrev begun : ℕ → ℕ → Option C
  begun i y = lesser N.rule (itself y) (least_below N.rule i (way y))

  -- The routers below i have offered their links. The places of the branch still have the costs of its tree paths, by their own mask.
  pub record Begun (row : List C) (below reached i : ℕ) : Type 0 where
    pub own : (x : ℕ) → x < N.count → in_branch N F root v x ≡ true → costs_in N.rule row below x ≡ fall N F root v x
    pub starts : (y : ℕ) → costs_in N.rule row reached y ≡ begun i y

  module _ (sound : Sound N) where
    begun_none : (y : ℕ) → begun 0 y ≡ itself y
    unfolding least_below
    begun_none y = lesser_none N.rule (itself y)

    begun_more : (i y : ℕ) → begun (i + 1) y ≡ lesser N.rule (begun i y) (way y i)
    unfolding least_below
    begun_more i y =
        ap (λ n. begun n y) (add-one i)
        ∙ sym (lesser_assoc N.rule sound.lawful (itself y) (least_below N.rule i (way y)) (way y i))

    begun_all : (y : ℕ) → begun N.count y ≡ started N F root v y
    unfolding started
    begun_all y = refl

    pub begun_first : (row : List C) (below reached : ℕ) → is_some (N.link root v) ≡ true → ((d : ℕ) → d < N.count → costs_in N.rule row below d ≡ fall N F root v d) →
        ((k : ℕ) → holds reached k ≡ (eqb k v || holds 0 k)) → Begun row below reached 0
    begun_first row below reached linked falls mask =
        record { own = λ x l _. falls x l; starts = λ y. ⊎_elim (here y) (elsewhere y) (cases_eq y v) ∙ sym (begun_none y) }
      where
        inside : v < N.count
        inside = let w = present_some (N.link root v) linked in sound.to root v w.0 w.1

        at_zero : get_or row v N.rule.zero ≡ N.rule.zero
        at_zero = cost_there N.rule row below v N.rule.zero (falls v inside ∙ falls_fall N sound F (lowest_chooses N sound) root inside at)

        here : (y : ℕ) → y ≡ v → costs_in N.rule row reached y ≡ itself y
        here y e =
            cond-true (holds reached y) (Some (get_or row y N.rule.zero)) None (mask y ∙ ap (λ t. t || holds 0 y) (eq-eqb y v e))
            ∙ ap Some (ap (λ k. get_or row k N.rule.zero) e ∙ at_zero)
            ∙ sym (cond-true (eqb v y && is_some (N.link root v)) (Some N.rule.zero) None (and_from (eqb v y) (is_some (N.link root v)) (eq-eqb v y (sym e)) linked))

        elsewhere : (y : ℕ) → (y ≡ v → ⊥) → costs_in N.rule row reached y ≡ itself y
        elsewhere y ne =
            ap (λ t. cond t (Some (get_or row y N.rule.zero)) None) (mask y ∙ ap (λ t. t || holds 0 y) (ne_eqb y v ne)) ∙ nothing_in N.rule row y
            ∙ sym (cond-false (eqb v y && is_some (N.link root v)) (Some N.rule.zero) None (and_left (eqb v y) (is_some (N.link root v)) (ne_eqb v y (λ e. ne (sym e)))))

    module _ {row : List C} {below reached i : ℕ} (on : Begun row below reached i) where
      -- a router outside the branch offers nothing
      pub begun_same : in_branch N F root v i ≡ false → Begun row below reached (i + 1)
      begun_same e =
          record {
            own = on.own;
            starts = λ y. on.starts y ∙ sym (begun_more i y ∙ ap (lesser N.rule (begun i y)) (nothing y) ∙ lesser_none N.rule (begun i y));
          }
        where
          nothing : (y : ℕ) → way y i ≡ None
          nothing y = cond-false (leaves_branch N F root v i y) (joined N.rule (fall N F root v i) (N.link i y)) None (and_left (in_branch N F root v i) (other_hop v (hop N F root y)) e)

      -- a router of the branch offers its links
      pub begun_next : {row' : List C} {reached' : ℕ} → in_branch N F root v i ≡ true →
          ((y : ℕ) → costs_in N.rule row' reached' y ≡ lesser N.rule (costs_in N.rule row reached y) (crossing N v (hop N F root y) i (fall N F root v i) y)) →
          ((k : ℕ) → other_hop v (hop N F root k) ≡ false → get_or row' k N.rule.zero ≡ get_or row k N.rule.zero) → Begun row' below reached' (i + 1)
      begun_next e s same =
          record {
            own = λ x l b. ap (λ c. cond (holds below x) (Some c) None) (same x (in_no_other v (hop N F root x) b)) ∙ on.own x l b;
            starts = λ y. s y ∙ ap₂ (lesser N.rule) (on.starts y) (open_way y) ∙ sym (begun_more i y);
          }
        where
          open_way : (y : ℕ) → crossing N v (hop N F root y) i (fall N F root v i) y ≡ way y i
          open_way y = ap (λ t. cond (t && other_hop v (hop N F root y)) (joined N.rule (fall N F root v i) (N.link i y)) None) (sym e)

      pub begun_whole : i ≡ N.count → (y : ℕ) → costs_in N.rule row reached y ≡ started N F root v y
      begun_whole e y = on.starts y ∙ ap (λ n. begun n y) e ∙ begun_all y

    -- no climb ends past the routers
    pub not_climbed : (d : ℕ) → N.count ≤ d → climbed N F root v d ≡ None
    not_climbed d l =
        ⊎_elim (λ e. e)
        (λ q. let t = (least_some N.rule sound.lawful (Climb N F root v d) (climbed N F root v d) q.0 (climbed_is N sound F (lowest_chooses N sound) root v d) q.1).holds in
        let h = climb_hop N sound F (lowest_chooses N sound) root v t in
        absurd (omega (arith, hop_below N sound F (lowest_chooses N sound) root d h.0 h.1)))
        (cases_option (climbed N F root v d))
