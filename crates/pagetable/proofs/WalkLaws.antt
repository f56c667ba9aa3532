-- How a walk ends and goes on, and what each of its turns keeps.
use Rattle.std.proofs.Common.{◌≡◌, ℕ, zero, suc, ◌+◌, ◌%◌, ◌<◌, ◌≤◌, Bool, true, false, cond, eqb, List, [], ◌∷◌, ◌++◌, length, get_or, drop, take, set, Some, None, sym, refl, ap, ◌∙◌, ◌&&◌, append_assoc, add-one, arith}
use Rattle.std.proofs.lemmas.List.{drop_more, drop-set-lt, length_push, length-set, set-set, nil_from_length}
use Rattle.std.proofs.lemmas.List.Folds.{list_all_more}
use Rattle.std.specs.List.{list_all}
use Rattle.std.proofs.lemmas.Bool.{eq-eqb, ne_eqb, cond-true, cond-false}
use Rattle.memory.specs.Writes.{laid}
use Rattle.memory.proofs.WriteLaws.{set_laid, laid_more}
use Rattle.masks.specs.Sets.{members}
use Rattle.routes.specs.Lists.{when_some}
use Rattle.routes.specs.Walk.{picked}
use Rattle.pagetable.specs.Pages.{is_current}
use Rattle.pagetable.specs.Walks.{walk_by, all_current}
use Rattle.pagetable.specs.declared.table.PageTable.{PageTable}

-- ---- the picked hop
-- a pick of an empty list, and one of a list with a router at least
picked_none : (pick : ℕ) (routers : List ℕ) → length routers ≡ 0 → picked pick routers ≡ None
unfolding picked
picked_none pick routers e = ap (picked pick) (nil_from_length routers e)

picked_some : (pick : ℕ) (routers : List ℕ) → 0 < length routers → picked pick routers ≡ Some (get_or routers (pick % length routers) 0)
unfolding picked
picked_some pick [] h = absurd (omega arith)
picked_some pick (x ∷ xs) h = refl

-- ---- how a walk ends and goes on
module _ (sets : ℕ → ℕ) (to : ℕ) where
  pub walk_none : (here : ℕ) → walk_by sets to [] here ≡ here ∷ []
  unfolding walk_by
  walk_none here = refl

  pub walk_there : (picks : List ℕ) (here : ℕ) → here ≡ to → walk_by sets to picks here ≡ here ∷ []
  unfolding walk_by
  walk_there [] here e = refl
  walk_there (pick ∷ picks) here e = cond-true _ _ _ (eq-eqb here to e)

  -- there is no hop to choose
  pub walk_stuck : (picks : List ℕ) (here : ℕ) → length (members (sets here) 32) ≡ 0 → walk_by sets to picks here ≡ here ∷ []
  unfolding walk_by
  walk_stuck [] here e = refl
  walk_stuck (pick ∷ picks) here e =
      ap (λ o. cond (eqb here to) (here ∷ []) (here ∷ when_some o [] (λ v. walk_by sets to picks v))) (picked_none pick (members (sets here) 32) e)
      ∙ same (eqb here to)
    where
      same : (t : Bool) → cond t (here ∷ []) (here ∷ []) ≡ here ∷ []
      same true = refl
      same false = refl

  pub walk_hop : (pick : ℕ) (picks : List ℕ) (here : ℕ) → (here ≡ to → ⊥) → 0 < length (members (sets here) 32) →
      walk_by sets to (pick ∷ picks) here ≡ here ∷ walk_by sets to picks (get_or (members (sets here) 32) (pick % length (members (sets here) 32)) 0)
  unfolding walk_by
  walk_hop pick picks here away some =
      cond-false _ _ _ (ne_eqb here to away) ∙ ap (λ o. here ∷ when_some o [] (λ v. walk_by sets to picks v)) (picked_some pick (members (sets here) 32) some)

-- ---- a walk in the making
-- After i hops the walk stands at `here`: `trail` is `old` with the routers met before and `here`, and the walk goes on from there.
pub record Walking (sets : ℕ → ℕ) (to from : ℕ) (picks old trail : List ℕ) (here i : ℕ) : Type 0 where
  pub met : List ℕ
  pub many : length met ≡ i
  pub written : trail ≡ laid old 0 (met ++ here ∷ [])
  pub goes_on : met ++ walk_by sets to (drop i picks) here ≡ walk_by sets to picks from

module _ (sets : ℕ → ℕ) (to from : ℕ) (picks : List ℕ) where
  -- the start is written first
  pub walk_begins : (old trail : List ℕ) (here : ℕ) → here ≡ from → trail ≡ set old 0 from → 0 < length old → Walking sets to from picks trail trail here 0
  walk_begins old trail here h e room =
      record {
        met = [];
        many = refl;
        written = e ∙ sym (set-set old 0 from from) ∙ set_laid (set old 0 from) 0 from (omega (arith, length-set old 0 from)) ∙ (λ j. laid (sym e j) 0 (sym h j ∷ []));
        goes_on = ap (walk_by sets to picks) h;
      }

  -- one hop more
  pub walk_turns : (old trail : List ℕ) (here i next : ℕ) → Walking sets to from picks old trail here i → i < length picks → i + 1 < length old → (here ≡ to → ⊥) → 0 < length (members (sets here) 32) →
      next ≡ get_or (members (sets here) 32) (get_or picks i 0 % length (members (sets here) 32)) 0 → Walking sets to from picks old (set trail (i + 1) next) next (i + 1)
  walk_turns old trail here i next w lt room away some e =
      let so_far : List ℕ = w.met ++ here ∷ [] in
      let long : length so_far ≡ i + 1 = length_push w.met here ∙ ap (λ n. n + 1) w.many in
      let place : i + 1 ≡ 0 + length so_far = omega arith in
      let on : walk_by sets to (drop i picks) here ≡ here ∷ walk_by sets to (drop (i + 1) picks) next =
      ap (λ l. walk_by sets to l here) (drop_more picks i 0 lt) ∙ walk_hop sets to (get_or picks i 0) (drop (i + 1) picks) here away some
      ∙ ap (λ v. here ∷ walk_by sets to (drop (i + 1) picks) v) (sym e) in
      record {
        met = so_far;
        many = long;
        written = (λ j. set (w.written j) (place j) next) ∙ laid_more old 0 so_far next (omega arith);
        goes_on = append_assoc w.met (here ∷ []) (walk_by sets to (drop (i + 1) picks) next) ∙ ap (λ l. w.met ++ l) (sym on) ∙ w.goes_on;
      }

  -- a walk that goes no further, with the memory as it was before the start was written
  pub walk_ends : (was old trail : List ℕ) (here i : ℕ) → Walking sets to from picks old trail here i → old ≡ set was 0 from → walk_by sets to (drop i picks) here ≡ here ∷ [] →
      (i + 1 ≡ length (walk_by sets to picks from)) × (trail ≡ laid was 0 (walk_by sets to picks from))
  walk_ends was old trail here i w e end =
      let whole : w.met ++ here ∷ [] ≡ walk_by sets to picks from = ap (λ l. w.met ++ l) (sym end) ∙ w.goes_on in
      let long : i + 1 ≡ length (walk_by sets to picks from) = ap (λ n. n + 1) (sym w.many) ∙ sym (length_push w.met here) ∙ ap length whole in
      (long, w.written ∙ (λ j. laid (e j) 0 (whole j)) ∙ ap (λ l. walk_by sets to picks from ++ l) (drop-set-lt (0 + length (walk_by sets to picks from)) was 0 from (omega arith)))

-- ---- whether all pages are current
-- they are where each of the first n marks is set
pub all_marked : (pages : PageTable) (n : ℕ) → n ≤ length pages.current → list_all (λ b. b) (take n pages.current) ≡ all_current pages n
unfolding all_current
all_marked pages zero h = refl
all_marked pages (suc n) h =
    ap (λ k. list_all (λ b. b) (take k pages.current)) (sym (add-one n)) ∙ list_all_more (λ b. b) pages.current n false h
    ∙ ap (λ t. t && is_current pages n) (all_marked pages n (omega arith))
