-- The law over every list of calls.
use Rattle.std.proofs.Common.{◌≡◌, ℕ, ◌-◌, ◌<◌, true, List, [], ◌∷◌, Some, Option, sym, refl, ap, ◌∙◌, subst, arith}
use Rattle.area.specs.Areas.{Area}
use Rattle.area.specs.Networks.{standing_on}
use Rattle.costs.specs.Costs.{Costs, Laws}
use Rattle.pagetable.specs.Pages.{is_current}
use Rattle.routes.specs.Network.{Network, standing}
use Rattle.routes.specs.Routes.{best}
use Rattle.routes.specs.Tree.{lowest_father}
use Rattle.routes.proofs.Fathers.{lowest_chooses}
use Rattle.routes.proofs.Routes.{end_below}
use Rattle.routes.proofs.Theorems.{standing_is_two_way_lem, every_pick_arrives_lem}
use Rattle.tables.specs.Tables.{Lawful}
use Rattle.runs.specs.Calls.{Call, put, cut, settle, hops, path, walk, Reply, Step, Event, Runs}
use Rattle.runs.specs.Laws.{RightHops, Arrives, RightWalk, RightPath, Stands, Law, Arriving, AllArrive, NeverShort}
use Rattle.runs.specs.Ledgers.{Ledger, empty, Terms, terms_of, own_links, noted, after, Agrees}
use Rattle.runs.proofs.Faithful.{Faithful, faithful_opened, step_faithful}
use Rattle.runs.proofs.RightHops.{right_hops, route_of}
use Rattle.runs.proofs.RightPaths.{right_path}
use Rattle.runs.proofs.RightWalks.{sound, hops_told, arriving, right_walk, never_short}
use Rattle.runs.proofs.Ties.{Tied, tied_new, step_tied}

module _ {C X : Type 0} (k : Costs C) (laws : Laws k) (area : X → Area) (lawful : (x : X) → Lawful (area x).table) where
  -- what stands where the ledger is tied to a faithful area
  module _ (t : Terms) (a : Area) (law : Lawful a.table) (l : Ledger) (f : Faithful k a) (h : Tied k t a l) where
    same_links : standing_on k a.table ≡ own_links k t l
    same_links = λ i. standing k (h.count i) ((law.plainly h.plain ∙ h.numbers) i)

    two : (N : Network C) → N ≡ own_links k t l → (a b : ℕ) (c : C) → N.link a b ≡ Some c → (w : C) × (N.link b a ≡ Some w)
    two N e = subst (λ M. (a b : ℕ) (c : C) → M.link a b ≡ Some c → (w : C) × (M.link b a ≡ Some w)) (sym e) (standing_is_two_way_lem C k t.count l.numbers h.reads)

    stands : Stands k t a l
    stands =
        record {
          hops_right = λ root to tree valid other e.
              let told = hops_told k laws a law f root to tree valid other e in
              let right = right_hops (standing_on k a.table) (sound k laws a law f) (two (standing_on k a.table) same_links) root to in
              subst (λ M. RightHops M root to tree valid other) same_links
              (subst (λ (x : Option ℕ × ℕ × ℕ). RightHops (standing_on k a.table) root to x.0 x.1 x.2) (sym told.1) right);
          paths = λ root to old e lr lt room.
              subst (λ M. RightPath M a root to old) same_links
              (right_path k laws a law f root to old (h.current root ∙ e) (omega (arith, h.count)) (omega (arith, h.count)) (omega (arith, h.count)));
          packets = λ all from to c lf b.
              let e : best (standing_on k a.table) from to ≡ Some c = ap (λ M. best M from to) same_links ∙ b in
              let lt = end_below (standing_on k a.table) (sound k laws a law f) (route_of (standing_on k a.table) (sound k laws a law f) from to c e).2 in
              let arrives = every_pick_arrives_lem C (standing_on k a.table) (sound k laws a law f) (lowest_father (standing_on k a.table)) (lowest_chooses (standing_on k a.table) (sound k laws a law f)) from to c e in
              subst (λ n. Arrives a to n from) (ap (λ n. n - 1) h.count) (arriving k laws a law f (current all) to lt arrives);
          walks = λ all from to picks old lf lt room enough.
              subst (λ M. RightWalk M a from to picks old) same_links
              (right_walk k laws a law f from to picks old (current all) (omega (arith, h.count)) (omega (arith, h.count)) (omega (arith, h.count)) (omega (arith, h.count)));
        }
      where
        current : ((r : ℕ) → r < t.count → l.current r ≡ true) → (r : ℕ) → r < a.table.count → is_current a.pages r ≡ true
        current all r lr = h.current r ∙ all r (omega (arith, h.count))

  -- along a run the area stays faithful, and the ledger tied to it
  along : (t : Terms) (es : List (Event C)) (x z : X) (l : Ledger) → Faithful k (area x) → Tied k t (area x) l → Runs k area x es z →
      Agrees k t l es × Stands k t (area z) (after k t l es)
  unfolding after
  along t [] x z l f h run = (tt, subst (λ y. Stands k t (area y) l) run (stands t (area x) (lawful x) l f h))
  along t (e ∷ es) x z l f h run =
      let y = run.0 in
      let s = step_tied k t (area x) l h e.0 e.1 (area y) (lawful x) f run.1 in
      let more = along t es y z (noted k t l e.0) (step_faithful k e.0 (area x) e.1 (area y) (lawful x) run.1 f) s.1 run.2 in
      ((s.0, more.0), more.1)

  pub law : Law k area
  law x z es new run =
      along (terms_of (area x).table) es x z empty (subst (Faithful k) (sym new.opens) (faithful_opened k new.table)) (tied_new k (terms_of (area x).table) (area x) new refl) run

  -- no step of a run is a walk that answers 15
  arrives_step : (c : Call C) (a : Area) (r : Reply c) (b : Area) → Lawful a.table → Faithful k a → Step k c a r b → Arriving c r
  arrives_step (put from to number) a r b w f s = tt
  arrives_step (cut from to) a r b w f s = tt
  arrives_step (settle root best rest waiting) a r b w f s = tt
  arrives_step (hops root to) a r b w f s = tt
  arrives_step (path root to out) a r b w f s = tt
  arrives_step (walk from to picks trail) a r b w f s = λ e. never_short k laws a w f from to picks trail (sym s.0 ∙ e)

  all_arrive : (es : List (Event C)) (x z : X) → Faithful k (area x) → Runs k area x es z → AllArrive es
  all_arrive [] x z f run = tt
  all_arrive (e ∷ es) x z f run =
      let y = run.0 in
      (arrives_step e.0 (area x) e.1 (area y) (lawful x) f run.1, all_arrive es y z (step_faithful k e.0 (area x) e.1 (area y) (lawful x) run.1 f) run.2)

  pub walks_arrive : NeverShort k area
  walks_arrive x z es t opens run = all_arrive es x z (subst (Faithful k) (sym opens) (faithful_opened k t)) run
