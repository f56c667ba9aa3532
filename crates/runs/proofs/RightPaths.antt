-- Path writes the tree path of the links standing.
use Rattle.std.proofs.Common.{◌≡◌, ℕ, zero, suc, ◌-◌, ◌<◌, ◌≤◌, true, cond, List, [], ◌∷◌, ◌++◌, map, length, Some, None, Option, refl, ap, ◌∙◌, arith}
use Rattle.std.proofs.lemmas.Bool.{lt-ltb, le-leb}
use Rattle.std.specs.List.{range_with_len}
use Rattle.area.specs.Areas.{Area, answered, route_refusal, path_fault, path_on_page}
use Rattle.costs.specs.Costs.{Costs, Laws}
use Rattle.faults.specs.Calls.{or_else, granted, in_area}
use Rattle.faults.specs.declared.refusal.Refusal.{Refusal}
use Rattle.faults.specs.declared.refusal.Refusal.TheVariants.{NoSuchRouter, MemoryTooShort, StalePage, NoRoute}
use Rattle.memory.specs.Writes.{laid}
use Rattle.pagetable.specs.Pages.{is_current, page_of, path_by}
use Rattle.settling.proofs.Orders.{at_table}
use Rattle.routes.specs.Lists.{when_some}
use Rattle.routes.specs.Network.{Network, Sound}
use Rattle.routes.specs.Tree.{lowest_father, path_in, path}
use Rattle.routes.proofs.Branches.{path_stable}
use Rattle.routes.proofs.Fathers.{lowest_chooses, depth_below}
use Rattle.tables.specs.Tables.{Lawful}
use Rattle.runs.specs.Laws.{RightPath}
use Rattle.runs.proofs.Faithful.{Faithful}
use Rattle.runs.proofs.RightWalks.{N, sound, routed, unrouted}

-- a path by the fathers that a page keeps
module _ {C : Type 0} (M : Network C) (sound : Sound M) (root : ℕ) where
  abbrev kept : List (Option ℕ)
  kept = map (lowest_father M root) (range_with_len 0 32)

  by_fathers : (k d : ℕ) → path_by kept k d ≡ path_in M (lowest_father M) root k d
  unfolding path_by path_in
  by_fathers zero d = refl
  by_fathers (suc k) d =
      ap (λ o. when_some o (d ∷ []) (λ x. path_by kept k x ++ d ∷ [])) (at_table M sound root d) ∙ by (by_fathers k) (lowest_father M root d)
    where
      by : ((x : ℕ) → path_by kept k x ≡ path_in M (lowest_father M) root k x) → (o : Option ℕ) →
          when_some o (d ∷ []) (λ x. path_by kept k x ++ d ∷ []) ≡ when_some o (d ∷ []) (λ x. path_in M (lowest_father M) root k x ++ d ∷ [])
      by more None = refl
      by more (Some x) = ap (λ xs. xs ++ d ∷ []) (more x)

  pub tree_path_kept : (d : ℕ) → d < M.count → path_by kept (M.count - 1) d ≡ path M (lowest_father M) root d
  unfolding path
  tree_path_kept d l =
      let s = depth_below M sound root d l in
      by_fathers (M.count - 1) d ∙ path_stable M sound (lowest_father M) (lowest_chooses M sound) root (M.count - 1) M.count d (omega arith) (omega arith)

module _ {C : Type 0} (k : Costs C) (laws : Laws k) (a : Area) (lawful : Lawful a.table) (f : Faithful k a)
    (root to : ℕ) (old : List ℕ) (current : is_current a.pages root ≡ true) (lr : root < a.table.count) (lt : to < a.table.count) (room : a.table.count ≤ length old) where
  -- the tests of a path, one by one
  fault_is : (o : Option Refusal) → route_refusal (page_of a.pages root) root to ≡ o → path_fault a root to (length old) ≡ in_area o
  fault_is o e =
      λ i. in_area (or_else (cond (lt-ltb root a.table.count lr i) None (Some NoSuchRouter))
      (or_else (cond (lt-ltb to a.table.count lt i) None (Some NoSuchRouter))
      (or_else (cond (le-leb a.table.count (length old) room i) None (Some MemoryTooShort))
      (or_else (cond (current i) None (Some StalePage)) (e i)))))

  is_path : path_on_page a root to ≡ path (N k laws a lawful f) (lowest_father (N k laws a lawful f)) root to
  is_path =
      ap (λ p. path_by p.father (a.table.count - 1) to) (f.right root current)
      ∙ tree_path_kept (N k laws a lawful f) (sound k laws a lawful f) root to lt

  pub right_path : RightPath (N k laws a lawful f) a root to old
  right_path =
      record {
        written = λ c b.
            let none = fault_is None (routed k laws a lawful f root to c current b) in
            ((λ i. answered (none i) (length (is_path i))), λ i. granted (none i) (laid old 0 (is_path i)) old);
        no_route = λ b.
            let some = fault_is (Some NoRoute) (unrouted k laws a lawful f root to lr current b) in
            ((λ i. answered (some i) (length (path_on_page a root to))), λ i. granted (some i) (laid old 0 (path_on_page a root to)) old);
      }
