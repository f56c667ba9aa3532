-- In an order that goes by best cost, a strictly nearer router stands before a farther one.
use Rattle.std.proofs.Common.{◌≡◌, ℕ, ◌<◌, true, false, List, length, get_or, is_some, Some, sym, ap, ◌∙◌, subst, subst₂, ⊎_elim}
use Rattle.std.proofs.lemmas.Bool.{both_ways, cases_order}
use Rattle.routes.specs.Leasts.{below}
use Rattle.routes.specs.Network.{Network, Sound}
use Rattle.routes.specs.Routes.{best}
use Rattle.routes.proofs.Members.{some_inj}
use Rattle.squares.specs.Found.{NearestFirst}

module _ {C : Type 0} (N : Network C) (sound : Sound N) (root : ℕ) (order : List ℕ) (line : NearestFirst N root order) where
  -- two routers by their places in the sequence
  abbrev pub Before : ℕ → ℕ → Type 0
  Before x d = (i j : ℕ) × (i < j) × (j < length order) × (get_or order i 0 ≡ x) × (get_or order j 0 ≡ d)

  pub nearer_before : (x d : ℕ) (a b : C) → x < N.count → d < N.count → best N root x ≡ Some a → best N root d ≡ Some b → N.rule.lower a b ≡ true → Before x d
  unfolding below
  nearer_before x d a b lx ld ex ed lower =
      let p = line.each x lx (ap is_some ex) in
      let q = line.each d ld (ap is_some ed) in
      ⊎_elim
      (λ (e : p.0 ≡ q.0).
      let same = some_inj a b (sym ex ∙ ap (best N root) (sym p.2 ∙ ap (λ k. get_or order k 0) e ∙ q.2) ∙ ed) in
      absurd (both_ways (N.rule.lower a a) (sound.lawful.irreflexive a) (subst (λ z. N.rule.lower a z ≡ true) (sym same) lower)))
      (⊎_elim
      (λ (l : p.0 < q.0). (p.0, q.0, l, q.1, p.2, q.2))
      (λ (l : q.0 < p.0).
      let turned = subst₂ (λ o o'. below N.rule o o' ≡ false) (ap (best N root) p.2 ∙ ex) (ap (best N root) q.2 ∙ ed) (line.rising q.0 p.0 l p.1) in
      absurd (both_ways (N.rule.lower a b) turned lower)))
      (cases_order p.0 q.0)
