-- The rows and the sets of hops after some routers.
use Rattle.std.proofs.Common.{◌≡◌, ℕ, zero, suc, ◌+◌, ◌-◌, ◌*◌, ◌<◌, ◌≤◌, Bool, true, false, cond, ◌&&◌, List, ◌++◌, map, length, get_or, take, drop, replicate, is_some, Some, None, Option, sym, refl, ap, ◌∙◌, subst, ap₂, ⊎_elim, add-mul, one-mul, zero-mul, arith}
use borrow.Rule.Slice.PartMut.{put_mid}
use Rattle.std.proofs.lemmas.Nat.{mul-add-lt}
use Rattle.std.proofs.lemmas.List.FromFn.{length-map-range_with_len, get_or-map-range_with_len, fill_by_all}
use Rattle.std.proofs.lemmas.List.{drop-drop}
use Rattle.std.proofs.lemmas.Bool.{cases_lt, and_left, lt-ltb, le-ltb}
use Rattle.std.specs.List.{range_with_len}
use Rattle.costs.specs.Costs.{Costs}
use Rattle.masks.specs.Sets.{holds, mask}
use Rattle.masks.proofs.MaskLaws.{mask_holds}
use Rattle.memory.specs.Writes.{laid}
use Rattle.memory.proofs.WriteLaws.{laid_none, Holds, holds_more}
use Rattle.routes.specs.Leasts.{below}
use Rattle.routes.specs.Lists.{gather, when_some}
use Rattle.routes.specs.Network.{Network, Sound}
use Rattle.routes.specs.Transverse.{rest, valid}
use Rattle.routes.specs.Tree.{lowest_father}
use Rattle.routes.proofs.Gathered.{gather_more}
use Rattle.squares.specs.Found.{Searched}
use Rattle.squares.specs.Known.{costs_in}
use Rattle.squares.specs.declared.found.Found.{Found}
use Rattle.settling.proofs.Trees.{known_best}
use Rattle.page_settling.specs.Hops.{sets_below, set_with, cost_held, is_nearer}
use Rattle.page_settling.specs.Settled.{rest_row, rest_memory}
use Rattle.page_settling.proofs.Rests.{candidate_past, valid_past}
use Rattle.page_settling.proofs.SetSteps.{sets_more}

-- A row after the zero cost was put to the routers that are not in the mask.
module _ {C : Type 0} (rule : Costs C) (row next : List C) (reached n : ℕ) (is : next ≡ map (cost_held rule row reached) (range_with_len 0 n))
    (f : ℕ → Option C) (are : (d : ℕ) → d < n → costs_in rule row reached d ≡ f d) where
  abbrev written : ℕ → C
  written d = when_some (f d) rule.zero (λ c. c)

  pub row_written : next ≡ map written (range_with_len 0 n)
  row_written =
      is ∙ fill_by_all written (map (cost_held rule row reached) (range_with_len 0 n)) n rule.zero (length-map-range_with_len (cost_held rule row reached) 0 n)
      (λ d l. get_or-map-range_with_len (cost_held rule row reached) 0 n d d rule.zero l (omega arith) ∙ ap (λ o. when_some o rule.zero (λ c. c)) (are d l))

  pub costs_written : (d : ℕ) → d < n → costs_in rule next reached d ≡ f d
  costs_written d l =
      ap (λ c. cond (holds reached d) (Some c) None) (ap (λ t. get_or t d rule.zero) is ∙ get_or-map-range_with_len (cost_held rule row reached) 0 n d d rule.zero l (omega arith))
      ∙ by (holds reached d) (get_or row d rule.zero) ∙ are d l
    where
      by : (t : Bool) (c : C) → cond t (Some (when_some (cond t (Some c) None) rule.zero (λ c. c))) None ≡ cond t (Some c) None
      by true c = refl
      by false c = refl

-- a part that is written whole is laid there
part_laid : {X : Type 0} (a k : ℕ) (xs ys : List X) → length ys ≡ k → put_mid a k xs ys ≡ laid xs a ys
part_laid a k xs ys e = ap (λ t. take a xs ++ (ys ++ t)) (drop-drop k a xs ∙ ap (λ m. drop (a + m) xs) (sym e))

-- the place behind a row, and that it fits
pub row_end : (v n : ℕ) → (v + 1) * n ≡ v * n + n
row_end v n = omega (arith, add-mul v 1 n, one-mul n)

pub row_fits : (v n : ℕ) → v < n → (v + 1) * n ≤ n * n
row_fits v (suc m) l = omega (arith, row_end v (suc m), mul-add-lt v (suc m) m (suc m) l (omega arith))
row_fits v zero l = absurd (omega arith)

-- The rows of the routers below v stand in the memory, and those of them that are hops are in the sets.
pub record Entered {C : Type 0} (N : Network C) (root : ℕ) (old now : List C) (cs vs : List ℕ) (v : ℕ) : Type 0 where
  pub candidates : cs ≡ sets_below v (λ x d. is_some (rest N (lowest_father N) root x d))
  pub valid : vs ≡ sets_below v (valid N (lowest_father N) root)
  pub rows : Holds old now 0 (v * N.count) (gather v (rest_row N root))

pub entered_first : {C : Type 0} (N : Network C) (root : ℕ) (old : List C) → Entered N root old old (replicate 32 0) (replicate 32 0) 0
unfolding mask gather
entered_first N root old = record { candidates = refl; valid = refl; rows = record { ends = zero-mul N.count; holds = sym (laid_none old 0) } }

-- One router more: its row, and the sets that it joins.
module _ {C : Type 0} (N : Network C) (sound : Sound N) (root : ℕ) {memory : List C} {found : Found} (s : Searched N root memory memory found)
    {old now : List C} {cs vs : List ℕ} {v : ℕ} (room : N.count * N.count ≤ length old) (h : Entered N root old now cs vs v) (l : v < N.count) where
  module _ (row : List C) (reached near : ℕ) (costs : (d : ℕ) → d < N.count → costs_in N.rule row reached d ≡ rest N (lowest_father N) root v d)
      (gone : (d : ℕ) → N.count ≤ d → holds reached d ≡ false) (nearer : near ≡ mask N.count (is_nearer N.rule row reached memory found.known)) where
    candidate_here : (d : ℕ) → holds reached d ≡ is_some (rest N (lowest_father N) root v d)
    candidate_here d =
        ⊎_elim (λ k. sym (by (holds reached d) (get_or row d N.rule.zero)) ∙ ap is_some (costs d k)) (λ k. gone d k ∙ sym (candidate_past N sound root v d k)) (cases_lt d N.count)
      where
        by : (t : Bool) (c : C) → is_some (cond t (Some c) None) ≡ t
        by true c = refl
        by false c = refl

    valid_here : (d : ℕ) → holds near d ≡ valid N (lowest_father N) root v d
    unfolding valid
    valid_here d =
        ap (λ m. holds m d) nearer ∙ mask_holds N.count (is_nearer N.rule row reached memory found.known) d
        ∙ ⊎_elim
        (λ k. ap (λ t. t && is_nearer N.rule row reached memory found.known d) (lt-ltb d N.count k) ∙ ap₂ (below N.rule) (costs d k) (known_best N sound root memory found s d k))
        (λ k. and_left _ _ (le-ltb d N.count k) ∙ sym (valid_past N sound root v d k))
        (cases_lt d N.count)

    abbrev next : ℕ → List C
    next n = put_mid (v * n) ((v + 1) * n - v * n) now row

    pub entered_more : (n : ℕ) → n ≡ N.count → (cs' vs' : List ℕ) → row ≡ rest_row N root v →
        cs' ≡ map (set_with n reached v cs) (range_with_len 0 32) → vs' ≡ map (set_with n near v vs) (range_with_len 0 32) → Entered N root old (next n) cs' vs' (v + 1)
    entered_more n en cs' vs' is ec ev =
        let long : length (rest_row N root v) ≡ N.count = length-map-range_with_len _ 0 N.count in
        let end = row_end v N.count in
        let small : v < 32 = omega (arith, sound.few) in
        record {
          candidates = ec ∙ sets_more n reached v (λ x d. is_some (rest N (lowest_father N) root x d)) (omega (arith, sound.few)) small (λ d _. candidate_here d) (λ d k. candidate_past N sound root v d (omega arith)) cs h.candidates;
          valid = ev ∙ sets_more n near v (valid N (lowest_father N) root) (omega (arith, sound.few)) small (λ d _. valid_here d) (λ d k. valid_past N sound root v d (omega arith)) vs h.valid;
          rows = subst (λ k. Holds old (next k) 0 ((v + 1) * N.count) (gather (v + 1) (rest_row N root))) (sym en)
              (subst (Holds old (next N.count) 0 ((v + 1) * N.count)) (sym (gather_more v (rest_row N root)))
              (holds_more old now (next N.count) 0 (v * N.count) ((v + 1) * N.count) (gather v (rest_row N root)) (rest_row N root v) h.rows
              (omega (arith, room, row_fits v N.count l)) (omega arith)
              (part_laid (v * N.count) ((v + 1) * N.count - v * N.count) now row (ap length is ∙ omega arith) ∙ ap (laid now (v * N.count)) is)));
        }

-- all rows are written
pub entered_all : {C : Type 0} {N : Network C} {root : ℕ} {old now : List C} {cs vs : List ℕ} → Entered N root old now cs vs N.count → now ≡ rest_memory N root old
entered_all {N = N} {root = root} {old = old} h = h.rows.holds ∙ ap (λ k. gather N.count (rest_row N root) ++ drop k old) (sym h.rows.ends)
