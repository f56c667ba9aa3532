-- What an offer leaves, taken or not.
use Rattle.std.proofs.Common.{◌≡◌, ℕ, ◌+◌, ◌<◌, true, false, cond, ◌||◌, eqb, List, [], ◌∷◌, ◌++◌, length, get_or, set, Some, None, Ok, Err, Option, Result, sym, refl, ap, ◌∙◌, subst, ⊎_elim, arith}
use Rattle.std.proofs.ByRecursion.{All-push, All-weaker, has_append_left, has_push, all_shuffled, has_shuffled}
use Rattle.std.proofs.lemmas.List.{get_or-set_same, get_or-set_other, drop-set-lt}
use Rattle.std.proofs.lemmas.Bool.{cases_eq, cond-true, cond-false, eq-eqb, ne_eqb, eqb-false, or_parts}
use Rattle.std.specs.List.{ContainsAt}
use Rattle.faults.specs.declared.refusal.Refusal.{Refusal}
use Rattle.costs.specs.Costs.{Costs, Laws}
use Rattle.entries.specs.declared.Entry.{Entry}
use Rattle.masks.specs.Sets.{holds}
use Rattle.routes.specs.Leasts.{lesser}
use Rattle.routes.proofs.Members.{some_inj, none_some}
use Rattle.routes.proofs.Order.{le_trans, not_above}
use Rattle.waiting.specs.Waiting.{memory, queued, Pushed, PushAnswer}
use Rattle.waiting.specs.declared.list.Waiting.{Waiting}
use Rattle.waiting.specs.declared.ranked.Ranked.{Ghosts}
use Rattle.squares.specs.Known.{costs_in, with_offer}
use Rattle.squares.proofs.Offers.{same_either, lesser_none, lesser_old, lesser_new}
use Rattle.search.specs.Steps.{entry, AboveKnown, Step}

-- a push with room is not refused
pub with_room : {E : Type 0} {ranked : Ghosts E} (e : E) (w w' : Waiting E ranked) (r : Result (Unit {0}) Refusal) → PushAnswer e w w' r → w.len < length (memory w) → Pushed e w w'
with_room e w w' (Ok _) p room = p
with_room e w w' (Err _) p room = absurd (omega (arith, p.full))

module _ {C : Type 0} {ranked : Ghosts (Entry C)} (rule : Costs C) where
  module _ (best : List C) (known : ℕ) (w : Waiting (Entry C) ranked) (to : ℕ) where
    abbrev f : ℕ → Option C
    f = costs_in rule best known

    -- what the memory holds for a router is its known cost, if it has one
    pub known_cost : (a : C) → holds known to ≡ true → f to ≡ Some a → get_or best to rule.zero ≡ a
    known_cost a h e = some_inj (get_or best to rule.zero) a (sym (cond-true (holds known to) (Some (get_or best to rule.zero)) None h) ∙ e)

    pub no_cost : (a : C) → holds known to ≡ false → f to ≡ Some a → ⊥
    no_cost a h e = none_some a (sym (cond-false (holds known to) (Some (get_or best to rule.zero)) None h) ∙ e)

    -- nothing changes
    pub still : (g : ℕ → Option C) (n m : ℕ) → ((d : ℕ) → f d ≡ g d) → Step rule g n m best known w best known w
    still g n m h =
        record {
          costs = h;
          absent = λ d e. (e, refl);
          past = λ k _. refl;
          waits = λ done q. q;
          len = omega arith;
          size = refl;
        }

    pub not_offered : Step rule (with_offer rule f to None) (to + 1) 1 best known w best known w
    not_offered = still (with_offer rule f to None) (to + 1) 1 (λ d. same_either (eqb d to) (lesser rule (f d) None) (f d) (lesser_none rule (f d)))

    pub not_taken : (c : C) → holds known to ≡ true → rule.lower c (get_or best to rule.zero) ≡ false →
        Step rule (with_offer rule f to (Some c)) (to + 1) 1 best known w best known w
    not_taken c there h = still (with_offer rule f to (Some c)) (to + 1) 1 (λ d. ⊎_elim (here d) (other d) (cases_eq d to))
      where
        at_to : f to ≡ Some (get_or best to rule.zero)
        at_to = cond-true (holds known to) (Some (get_or best to rule.zero)) None there

        here : (d : ℕ) → d ≡ to → f d ≡ with_offer rule f to (Some c) d
        here d e = same_either (eqb d to) (lesser rule (f d) (Some c)) (f d) (lesser_old rule (f d) (get_or best to rule.zero) c (ap f e ∙ at_to) h)

        other : (d : ℕ) → (d ≡ to → ⊥) → f d ≡ with_offer rule f to (Some c) d
        other d ne = sym (cond-false (eqb d to) (lesser rule (f d) (Some c)) (f d) (ne_eqb d to ne))

    module _ (laws : Laws rule) (c : C) (known' : ℕ) (w' : Waiting (Entry C) ranked) (inside : to < length best)
        (more : (k : ℕ) → holds known' k ≡ (eqb k to || holds known k)) (p : Pushed (entry c to) w w')
        (news : (a : C) → f to ≡ Some a → rule.lower c a ≡ true) where
      abbrev g : ℕ → Option C
      g = costs_in rule (set best to c) known'

      here : (d : ℕ) → d ≡ to → g d ≡ Some c
      here d e =
          cond-true (holds known' d) (Some (get_or (set best to c) d rule.zero)) None (more d ∙ ap (λ t. t || holds known d) (eq-eqb d to e))
          ∙ ap Some (ap (λ k. get_or (set best to c) k rule.zero) e ∙ get_or-set_same best to c rule.zero inside)

      there : (d : ℕ) → (d ≡ to → ⊥) → g d ≡ f d
      there d ne =
          ap (λ t. cond t (Some (get_or (set best to c) d rule.zero)) None) (more d ∙ ap (λ t. t || holds known d) (ne_eqb d to ne))
          ∙ ap (λ x. cond (holds known d) (Some x) None) (get_or-set_other best to d c rule.zero ne)

      pub taken : Step rule (with_offer rule f to (Some c)) (to + 1) 1 best known w (set best to c) known' w'
      taken =
          record {
            costs = λ d. ⊎_elim
                (λ (e : d ≡ to). here d e ∙ sym (cond-true (eqb d to) (lesser rule (f d) (Some c)) (f d) (eq-eqb d to e) ∙ lesser_new rule (f d) c (λ a ea. news a (ap f (sym e) ∙ ea))))
                (λ ne. there d ne ∙ sym (cond-false (eqb d to) (lesser rule (f d) (Some c)) (f d) (ne_eqb d to ne)))
                (cases_eq d to);
            absent = λ d e. let q = or_parts (eqb d to) (holds known d) (sym (more d) ∙ e) in (q.1, get_or-set_other best to d c rule.zero (eqb-false d to q.0));
            past = λ k h. drop-set-lt k best to c (omega arith);
            waits = λ done q.
                record {
                  each = λ d b nd e. has_shuffled (queued w ++ entry c to ∷ []) (queued w') (entry b d) p.items (⊎_elim
                      (λ (s : d ≡ to). subst (ContainsAt (queued w ++ entry c to ∷ [])) (same_entry c b to d (some_inj c b (sym (here d s) ∙ e)) (sym s)) (has_push (queued w) (entry c to)))
                      (λ ne. has_append_left (queued w) (entry c to ∷ []) (entry b d) (q.each d b nd (sym (there d ne) ∙ e)))
                      (cases_eq d to));
                  within = all_shuffled (AboveKnown rule g) (queued w ++ entry c to ∷ []) (queued w') p.items
                      (All-push (AboveKnown rule g) (queued w) (entry c to) (All-weaker (AboveKnown rule f) (AboveKnown rule g) lowered (queued w) q.within) (c, here to refl, laws.irreflexive c));
                };
            len = omega (arith, p.len);
            size = p.size;
          }
        where
          same_entry : (a b : C) (i j : ℕ) → a ≡ b → i ≡ j → entry a i ≡ entry b j
          same_entry a b i j p q = cc

          lowered : (e : Entry C) → AboveKnown rule f e → AboveKnown rule g e
          lowered e u =
              ⊎_elim
              (λ (s : e.router ≡ to).
              let below = news u.0 (ap f (sym s) ∙ u.1) in
              (c, here e.router s, le_trans rule laws c u.0 e.cost (not_above rule laws c u.0 below) u.2))
              (λ ne. (u.0, there e.router ne ∙ u.1, u.2))
              (cases_eq e.router to)
