-- The report as it grows: the line of the root, and then the lines towards one router after the other.
use Rattle.std.proofs.Common.{◌≡◌, ℕ, ◌+◌, ◌*◌, ◌<◌, ◌≤◌, cond, eqb, List, [], ◌++◌, length, codes, decimal, sym, refl, ap, ◌∙◌, subst, arith, length-append}
use Rattle.std.proofs.lemmas.List.{append-nil}
use Rattle.std.proofs.lemmas.Bool.{cond-true, cond-false, eq-eqb, ne_eqb}
use Rattle.decimals.proofs.NumberLaws.{two_digits}
use Rattle.routes.specs.Lists.{gather}
use Rattle.routes.proofs.Gathered.{gather_more}
use Rattle.pagetable.specs.declared.page.Page.{Page}
use Rattle.reports.specs.declared.lines.Text.{Text}
use Rattle.reports.specs.Reports.{line, entry_text, report_text}
use Rattle.reports.specs.Texts.{Fits, Adds}
use Rattle.reports.proofs.LineLaws.{length_line, adds_more, adds_none}

abbrev pub root_line : ℕ → List ℕ
root_line root = line (codes "root") (decimal root)

pub root_bound : (root : ℕ) → root < 32 → length (root_line root) ≤ 8
root_bound root h = omega (arith, length_line (codes "root") (decimal root), two_digits root (omega arith))

-- what the report has towards a router: nothing where it is the root
abbrev pub towards : ℕ → Page → ℕ → List ℕ
towards root page d = cond (eqb d root) [] (entry_text page d)

-- the lines towards the routers below d were added, at most 125 bytes for each
pub record Grown (old new : Text) (root : ℕ) (page : Page) (d : ℕ) : Type 0 where
  pub adds : Adds old new (gather d (towards root page))
  pub bound : length (gather d (towards root page)) ≤ 125 * d

module _ (old : Text) (root : ℕ) (page : Page) where
  pub grown_none : Grown old old root page 0
  unfolding gather
  grown_none = record { adds = adds_none old; bound = omega arith }

  -- the root has no lines
  pub grown_root : (new : Text) (d : ℕ) → Grown old new root page d → d ≡ root → Grown old new root page (d + 1)
  grown_root new d g e =
      let none : towards root page d ≡ [] = cond-true _ _ _ (eq-eqb d root e) in
      let same : gather d (towards root page) ≡ gather (d + 1) (towards root page) = sym (gather_more d (towards root page) ∙ ap (λ t. gather d (towards root page) ++ t) none ∙ append-nil _) in
      record { adds = subst (Adds old new) same g.adds; bound = omega (arith, g.bound, ap length same) }

  -- another router has its four lines
  pub grown_entry : (new next : Text) (d : ℕ) → old.at + 125 * d ≤ length old.out.now → Grown old new root page d → (d ≡ root → ⊥) → Adds new next (entry_text page d) → length (entry_text page d) ≤ 125 → Grown old next root page (d + 1)
  grown_entry new next d room g ne more small =
      let entry : towards root page d ≡ entry_text page d = cond-false _ _ _ (ne_eqb d root ne) in
      let longer : gather d (towards root page) ++ entry_text page d ≡ gather (d + 1) (towards root page) = sym (gather_more d (towards root page) ∙ ap (λ t. gather d (towards root page) ++ t) entry) in
      record {
        adds = subst (Adds old next) longer (adds_more old new next _ _ (omega (arith, g.bound)) g.adds more);
        bound = omega (arith, g.bound, small, ap length longer, length-append (gather d (towards root page)) (entry_text page d));
      }

-- the whole report
module _ (count root : ℕ) (page : Page) where
  report_parts : root_line root ++ gather count (towards root page) ≡ report_text count root page
  unfolding report_text
  report_parts = refl

  pub report_added : (old first new : Text) → Fits old (root_line root) → Adds old first (root_line root) → Grown first new root page count → Adds old new (report_text count root page)
  report_added old first new room a g = subst (Adds old new) report_parts (adds_more old first new _ _ room a g.adds)

  pub report_bound : (old new : Text) → root < 32 → count ≤ 32 → Grown old new root page count → length (report_text count root page) ≤ 4096
  report_bound old new r n g = omega (arith, root_bound root r, g.bound, length-append (root_line root) (gather count (towards root page)), ap length report_parts)
