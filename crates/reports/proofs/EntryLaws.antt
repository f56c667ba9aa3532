-- The four lines towards a router: how long they are at most, and that one stands behind the other.
use Rattle.std.proofs.Common.{◌≡◌, ℕ, zero, suc, ◌+◌, ◌*◌, ◌<◌, ◌≤◌, Bool, true, false, not, ◌&&◌, eqb, ltb, List, ◌++◌, length, get_or, None, codes, decimal, Option, sym, refl, ap, ◌∙◌, subst, ⊎_elim, add-one, arith, length-append}
use Rattle.std.proofs.lemmas.Bool.{cases_Bool, and_right, not_from_true}
use Rattle.masks.specs.Sets.{holds, members, besides}
use Rattle.masks.proofs.SetLaws.{members_out}
use Rattle.masks.proofs.MaskLaws.{mask_holds}
use Rattle.decimals.specs.Lists.{listed, item}
use Rattle.decimals.proofs.ListLaws.{listed_in}
use Rattle.pagetable.specs.declared.page.Page.{Page}
use Rattle.pagetable.specs.Pages.{hops_to}
use Rattle.reports.specs.Reports.{line, tree_text, set_text, entry_text}
use Rattle.decimals.proofs.NumberLaws.{two_digits}
use Rattle.reports.specs.declared.lines.Text.{Text}
use Rattle.reports.specs.Texts.{Fits, Adds}
use Rattle.reports.proofs.LineLaws.{length_line, adds_four}

-- ---- how many bytes two sets take that share no router
-- a number of a list takes at most two digits and a comma
length_item : (first : Bool) (n : ℕ) → n < 100 → length (item first n) ≤ 3
length_item true n h = omega (arith, two_digits n h)
length_item false n h = omega (arith, two_digits n h)

-- how many bytes the members below n take
abbrev bytes_below : ℕ → ℕ → ℕ
bytes_below mask n = length (listed (members mask n))

-- a router that is not in the set takes none, and any other at most three
stays : (mask n : ℕ) → holds mask n ≡ false → bytes_below mask (n + 1) ≡ bytes_below mask n
stays mask n o = ap (λ l. length (listed l)) (members_out mask n o)

grows : (mask n : ℕ) → n < 32 → bytes_below mask (n + 1) ≤ bytes_below mask n + 3
grows mask n h =
    let first : Bool = eqb (bytes_below mask n) 0 in
    ⊎_elim
    (λ i. omega (arith, ap length (listed_in mask n first h i refl), length-append (listed (members mask n)) (item first n), length_item first n (omega arith)))
    (λ o. omega (arith, stays mask n o))
    (cases_Bool (holds mask n))

-- two sets that share no router take at most three bytes for each number below n
apart_below : (a b : ℕ) → ((v : ℕ) → holds a v ≡ true → holds b v ≡ false) → (n : ℕ) → n ≤ 32 → bytes_below a n + bytes_below b n ≤ 3 * n
unfolding members listed
apart_below a b apart zero h = omega arith
apart_below a b apart (suc n) h =
    let before = apart_below a b apart n (omega arith) in
    subst (λ k. bytes_below a k + bytes_below b k ≤ 3 * k) (add-one n)
    (⊎_elim
    (λ i. omega (arith, before, grows a n (omega arith), stays b n (apart n i)))
    (λ o. omega (arith, before, grows b n (omega arith), stays a n o))
    (cases_Bool (holds a n)))

-- what is left of a set without another shares no router with that other
besides_apart : (set other v : ℕ) → holds other v ≡ true → holds (besides set other) v ≡ false
besides_apart set other v h =
    mask_holds 32 (λ u. holds set u && not (holds other u)) v ∙ and_right (ltb v 32) _ (and_right (holds set v) _ (not_from_true (holds other v) h))

-- ---- the four lines
abbrev pub to_line : ℕ → List ℕ
to_line d = line (codes "to") (decimal d)

abbrev pub tree_line : Option ℕ → List ℕ
tree_line hop = line (codes "tree") (tree_text hop)

abbrev pub valid_line : ℕ → List ℕ
valid_line set = line (codes "valid") (set_text set)

abbrev pub other_line : ℕ → List ℕ
other_line set = line (codes "other") (set_text set)

-- how long the line of the router is, and how long those of its two sets are together
pub to_bound : (d : ℕ) → d < 32 → length (to_line d) ≤ 6
to_bound d h = omega (arith, length_line (codes "to") (decimal d), two_digits d (omega arith))

pub tree_bound : (hop : Option ℕ) → length (tree_text hop) ≤ 3 → length (tree_line hop) ≤ 9
tree_bound hop h = omega (arith, length_line (codes "tree") (tree_text hop))

pub sets_bound : (page : Page) (d : ℕ) (hops : Option ℕ × ℕ × ℕ) → hops ≡ hops_to page d → length (valid_line hops.1) + length (other_line hops.2) ≤ 110
sets_bound page d hops e =
    let valid : ℕ = get_or page.valid d 0 in
    let other : ℕ = besides (get_or page.candidates d 0) valid in
    let both = apart_below valid other (besides_apart (get_or page.candidates d 0) valid) 32 (omega arith) in
    let bound : length (valid_line valid) + length (other_line other) ≤ 110 = omega (arith, both, length_line (codes "valid") (set_text valid), length_line (codes "other") (set_text other)) in
    subst (λ t. length (valid_line t.1) + length (other_line t.2) ≤ 110) (sym e) bound

-- the four lines one behind the other
module _ (page : Page) (d : ℕ) (hops : Option ℕ × ℕ × ℕ) (is : hops ≡ hops_to page d) where
  entry_parts : to_line d ++ tree_line (get_or page.hop d None) ++ valid_line hops.1 ++ other_line hops.2 ≡ entry_text page d
  unfolding entry_text
  entry_parts = ap (λ t. to_line d ++ tree_line (get_or page.hop d None) ++ valid_line t.1 ++ other_line t.2) is

  pub length_entry : length (entry_text page d) ≡ length (to_line d) + length (tree_line (get_or page.hop d None)) + length (valid_line hops.1) + length (other_line hops.2)
  length_entry = sym (ap length entry_parts) ∙ simp length-append

  pub entry_bound : d < 32 → length (tree_text (get_or page.hop d None)) ≤ 3 → length (entry_text page d) ≤ 125
  entry_bound few small = omega (arith, length_entry, to_bound d few, tree_bound (get_or page.hop d None) small, sets_bound page d hops is)

  pub entry_added : (old a b c new : Text) → Fits old (entry_text page d) → Adds old a (to_line d) → Adds a b (tree_line (get_or page.hop d None)) → Adds b c (valid_line hops.1) → Adds c new (other_line hops.2) → Adds old new (entry_text page d)
  entry_added old a b c new room first second third fourth =
      subst (Adds old new) entry_parts (adds_four old a b c new _ _ _ _ (subst (Fits old) (sym entry_parts) room) first second third fourth)
