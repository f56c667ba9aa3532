-- What a search left has fathers first, and the tree hops go by the lowest fathers.
use Rattle.std.proofs.Common.{◌≡◌, ℕ, ◌<◌, ◌≤◌, cond, eqb, List, map, length, get_or, Some, None, Option, sym, refl, ap, ◌∙◌, subst, inr, ⊎_elim, arith}
use Rattle.std.proofs.lemmas.List.FromFn.{length-map-range_with_len, get_or-map-range_with_len}
use Rattle.std.proofs.lemmas.List.{get_or_past}
use Rattle.std.proofs.lemmas.Bool.{cases_eq, cases_lt, cases_order, cond-true, cond-false, eq-eqb, ne_eqb}
use Rattle.std.specs.List.{range_with_len}
use Rattle.routes.specs.Lists.{when_some}
use Rattle.routes.specs.Network.{Network, Sound}
use Rattle.routes.specs.Tree.{lowest_father, hop}
use Rattle.routes.proofs.Branches.{hop_top, hop_on, hop_fathered}
use Rattle.routes.proofs.Fathers.{lowest_chooses, father_is, father_lower}
use Rattle.routes.proofs.Members.{none_some, cases_option}
use Rattle.routes.proofs.Transverses.{hop_below}
use Rattle.squares.specs.Found.{NearestFirst}
use Rattle.squares.proofs.Befores.{Before, nearer_before}
use Rattle.settling.specs.Trees.{Hops, FathersFirst}
use Rattle.settling.proofs.Trees.{fatherless}

-- a table of 32 routers has the number of each, where none past them has one
at_numbers : (h : ℕ → Option ℕ) → ((d : ℕ) → 32 ≤ d → h d ≡ None) → (d : ℕ) → get_or (map h (range_with_len 0 32)) d None ≡ h d
at_numbers h past d =
    ⊎_elim (λ (l : d < 32). get_or-map-range_with_len h 0 32 d d None l (omega arith))
    (λ l. get_or_past (map h (range_with_len 0 32)) d None (omega (arith, length-map-range_with_len h 0 32)) ∙ sym (past d l))
    (cases_lt d 32)

module _ {C : Type 0} (N : Network C) (sound : Sound N) (root : ℕ) where
  abbrev pub table : List (Option ℕ)
  table = map (lowest_father N root) (range_with_len 0 32)

  pub at_table : (d : ℕ) → get_or table d None ≡ lowest_father N root d
  at_table = at_numbers (lowest_father N root) (λ d l. fatherless N sound root d (omega (arith, sound.few)))

  pub at_hops : (d : ℕ) → get_or (map (hop N (lowest_father N) root) (range_with_len 0 32)) d None ≡ hop N (lowest_father N) root d
  at_hops =
      at_numbers (hop N (lowest_father N) root)
      (λ d l. ⊎_elim (λ e. e) (λ q. absurd (omega (arith, hop_below N sound (lowest_father N) (lowest_chooses N sound) root d q.0 q.1, sound.few))) (cases_option (hop N (lowest_father N) root d)))

  pub hops_table : Hops table root (hop N (lowest_father N) root)
  hops_table d = by (lowest_father N root d) refl ∙ ap (λ o. when_some o None (λ x. cond (eqb x root) (Some d) (hop N (lowest_father N) root x))) (sym (at_table d))
    where
      by : (o : Option ℕ) → lowest_father N root d ≡ o → hop N (lowest_father N) root d ≡ when_some o None (λ x. cond (eqb x root) (Some d) (hop N (lowest_father N) root x))
      by None e =
          ⊎_elim (λ n. n) (λ q. let p = hop_fathered N sound (lowest_father N) (lowest_chooses N sound) root d q.0 q.1 in absurd (none_some p.0 (sym e ∙ p.1)))
          (cases_option (hop N (lowest_father N) root d))
      by (Some x) e =
          ⊎_elim
          (λ (r : x ≡ root). hop_top N sound (lowest_father N) (lowest_chooses N sound) root d (e ∙ ap Some r) ∙ sym (cond-true (eqb x root) (Some d) _ (eq-eqb x root r)))
          (λ ne. hop_on N sound (lowest_father N) (lowest_chooses N sound) root d x e ne ∙ sym (cond-false (eqb x root) (Some d) _ (ne_eqb x root ne)))
          (cases_eq x root)

  module _ (order : List ℕ) (line : NearestFirst N root order) where
    -- a router stands behind its father
    pub after_father : (d x : ℕ) → lowest_father N root d ≡ Some x → Before N sound root order line x d
    after_father d x e =
        let f = father_is N sound (lowest_father N) (lowest_chooses N sound) root d x e in
        nearer_before N sound root order line x d f.before (N.rule.join f.before f.last) (sound.from x d f.last f.linked) (sound.to x d f.last f.linked)
        f.best_before f.best_here (father_lower N sound (lowest_father N) (lowest_chooses N sound) root d x f)

    behind : (d x : ℕ) → get_or table d None ≡ Some x → Before N sound root order line x d
    behind d x e = after_father d x (sym (at_table d) ∙ e)

    pub same_place : (i j : ℕ) → i < length order → j < length order → get_or order i 0 ≡ get_or order j 0 → i ≡ j
    same_place i j li lj e =
        ⊎_elim (λ (q : i ≡ j). q) (⊎_elim (λ l. absurd (line.once i j l lj e)) (λ l. absurd (line.once j i l li (sym e)))) (cases_order i j)

    pub fathers_first : FathersFirst table root order
    fathers_first =
        record {
          fits = line.fits;
          routers = λ i l. omega (arith, (line.reached i l).0, sound.few);
          bounded = λ d x e. let b = behind d x e in subst (λ z. z < 32) b.4 (omega (arith, (line.reached b.0 (omega (arith, b.2, b.3))).0, sound.few));
          each = λ d x e. let b = behind d x e in (b.1, b.3, b.5);
          before = λ i x l e.
              let b = behind (get_or order i 0) x e in
              inr (b.0, omega (arith, b.2, same_place b.1 i b.3 l b.5), b.4);
        }
