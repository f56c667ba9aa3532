-- What settling a root leaves: its page as it is kept, and the handed memories.
use Rattle.std.specs.Prelude.{◌≡◌, ℕ, ◌*◌, ◌≤◌, List, ◌++◌, map, length, drop, is_some}
use Rattle.std.specs.List.{range_with_len}
use Rattle.entries.specs.declared.Entry.{Entry}
use Rattle.masks.specs.Sets.{mask}
use Rattle.pagetable.specs.Pages.{hops_to}
use Rattle.pagetable.specs.declared.page.Page.{Page}
use Rattle.routes.specs.Lists.{gather, when_some}
use Rattle.routes.specs.Network.{Network}
use Rattle.routes.specs.Pages as routes
use Rattle.routes.specs.Transverse.{rest, valid_set}
use Rattle.routes.specs.Tree.{lowest_father, hop}
use Rattle.search.specs.Steps.{Ready}

module _ {C : Type 0} (N : Network C) (root : ℕ) where
  -- the rest costs of v to each router, the zero cost where there is none
  abbrev pub rest_row : ℕ → List C
  rest_row v = map (λ d. when_some (rest N (lowest_father N) root v d) N.rule.zero (λ c. c)) (range_with_len 0 N.count)

  -- Rest costs as a memory holds them: the row of each router after that of the router before, and the rest of the memory as it was.
  -- So the rest cost of v to d stands at place v × count + d.
  abbrev pub rest_memory : List C → List C
  rest_memory old = gather N.count rest_row ++ drop (N.count * N.count) old

  -- the set of the candidates for d
  abbrev pub candidate_set : ℕ → ℕ
  candidate_set d = mask N.count (λ v. is_some (rest N (lowest_father N) root v d))

  -- the root's page as it is kept, by the lowest fathers
  abbrev pub page_kept : Page
  page_kept =
      record {
        father = map (lowest_father N root) (range_with_len 0 32);
        hop = map (hop N (lowest_father N) root) (range_with_len 0 32);
        candidates = map candidate_set (range_with_len 0 32);
        valid = map (valid_set N (lowest_father N) root) (range_with_len 0 32);
      }

  -- a page that answers towards each router the tree hop, the valid set and the other set
  abbrev pub Answers : Page → Type 0
  Answers p =
      let P : routes.Page = routes.page N (lowest_father N) root in
      (d : ℕ) → hops_to p d ≡ (P.hop d, P.valid d, P.other d)

-- a root that can be settled: a place for each best cost, and one for each rest cost and each entry that waits
pub record CanSettle {C : Type 0} (N : Network C) (root : ℕ) (best rest : List C) (waiting : List (Entry C)) : Type 0 where
  pub ready : Ready N root best waiting
  pub rows : N.count * N.count ≤ length rest
