-- A walk that is granted, and the router that it comes to.
use Rattle.std.proofs.Common.{◌≡◌, ℕ, zero, suc, ◌+◌, ◌-◌, List, [], ◌∷◌, length, get_or, drop, Ok, Err, sym, refl, ap, ◌∙◌, arith}
use Rattle.std.proofs.lemmas.List.{get_or_append_left}
use Rattle.std.proofs.lemmas.Bool.{eq-eqb, ne_eqb, cond-true, cond-false}
use Rattle.faults.specs.declared.fault.Fault.TheVariants as fault
use Rattle.faults.specs.declared.refusal.Refusal.TheVariants.{NotArrived}
use Rattle.memory.specs.Writes.{laid}
use Rattle.routes.specs.Walk.{last_of}
use Rattle.area.specs.Areas.{arrived}

-- the last of a list stands at its last place
last_at : (a : ℕ) (met : List ℕ) (hops : ℕ) → hops + 1 ≡ length met → get_or met hops 0 ≡ last_of a met
last_at a [] hops e = absurd (omega arith)
last_at a (x ∷ []) zero e = refl
last_at a (x ∷ []) (suc h) e = absurd (omega arith)
last_at a (x ∷ y ∷ ys) zero e = absurd (omega arith)
last_at a (x ∷ y ∷ ys) (suc h) e = last_at x (y ∷ ys) h (omega arith)

-- What a walk comes to, by the router at its last place.
module _ (from to : ℕ) (met old trail : List ℕ) (hops : ℕ) (many : hops + 1 ≡ length met) (wrote : trail ≡ laid old 0 met) where
  comes_to : get_or trail hops 0 ≡ last_of from met
  comes_to =
      ap (λ l. get_or l hops 0) wrote
      ∙ get_or_append_left met (drop (0 + length met) old) 0 hops (omega (arith, many))
      ∙ last_at from met hops many

  pub arrives_there : get_or trail hops 0 ≡ to → arrived from to met ≡ Ok hops
  arrives_there there =
      let last : length met - 1 ≡ hops = omega (arith, many) in
      cond-true _ _ _ (eq-eqb _ to (sym comes_to ∙ there)) ∙ ap Ok last

  pub arrives_not : (get_or trail hops 0 ≡ to → ⊥) → arrived from to met ≡ Err (fault.Area NotArrived 0)
  arrives_not away = cond-false _ _ _ (ne_eqb _ to (λ e. away (comes_to ∙ e)))
