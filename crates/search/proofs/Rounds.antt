-- One round of the loop over the links of a router.
use Rattle.std.proofs.Common.{◌≡◌, ℕ, ◌+◌, ◌<◌, ◌≤◌, cond, eqb, ltb, List, Some, None, Option, sym, refl, ap, ◌∙◌, ap₂, ⊎_elim, arith}
use Rattle.std.proofs.lemmas.Bool.{cases_eq, cases_lt, cond-true, cond-false, eq-eqb, ne_eqb, lt-ltb, le-ltb}
use Rattle.costs.specs.Costs.{Costs}
use Rattle.entries.specs.declared.Entry.{Entry}
use Rattle.routes.specs.Leasts.{lesser, joined}
use Rattle.routes.specs.Network.{Network, Sound}
use Rattle.routes.specs.Settling.{relaxed_by}
use Rattle.waiting.specs.declared.list.Waiting.{Waiting}
use Rattle.waiting.specs.declared.ranked.Ranked.{Ghosts}
use Rattle.squares.specs.Known.{costs_in, with_offer}
use Rattle.squares.proofs.Offers.{lesser_none}
use Rattle.search.specs.Steps.{Step}
use Rattle.search.proofs.Offers.{still}

-- one step after another
then : {C : Type 0} {ranked : Ghosts (Entry C)} (rule : Costs C) (f g h : ℕ → Option C) (n n₁ n₂ m m₁ m₂ : ℕ)
    (best best₁ best₂ : List C) (known known₁ known₂ : ℕ) (w w₁ w₂ : Waiting (Entry C) ranked) →
    Step rule f n₁ m₁ best known w best₁ known₁ w₁ → Step rule g n₂ m₂ best₁ known₁ w₁ best₂ known₂ w₂ →
    ((d : ℕ) → g d ≡ h d) → n₁ ≤ n → n₂ ≤ n → m₁ + m₂ ≤ m → Step rule h n m best known w best₂ known₂ w₂
then rule f g h n n₁ n₂ m m₁ m₂ best best₁ best₂ known known₁ known₂ w w₁ w₂ s t e l₁ l₂ l =
    record {
      costs = λ d. t.costs d ∙ e d;
      absent = λ d u. let q = t.absent d u in let p = s.absent d q.0 in (p.0, q.1 ∙ p.1);
      past = λ k b. t.past k (omega arith) ∙ s.past k (omega arith);
      waits = λ done q. t.waits done (s.waits done q);
      len = omega (arith, s.len, t.len);
      size = t.size ∙ s.size;
    }

-- no link leads past the routers
unlinked : {C : Type 0} (N : Network C) → Sound N → (a b : ℕ) → N.count ≤ b → N.link a b ≡ None
unlinked {C} N sound a b h = by (N.link a b) refl
  where
    by : (o : Option C) → N.link a b ≡ o → o ≡ None
    by None e = refl
    by (Some c) e = absurd (omega (arith, h, sound.to a b c e))

module _ {C : Type 0} {ranked : Ghosts (Entry C)} (N : Network C) (sound : Sound N) (from : ℕ) (cost : C) (best : List C) (known : ℕ) (w : Waiting (Entry C) ranked) where
  abbrev rule : Costs C
  rule = N.rule

  abbrev f : ℕ → Option C
  f = costs_in rule best known

  abbrev relaxed : ℕ → Option C
  relaxed = relaxed_by N f from cost

  -- the routers below `to` are relaxed
  abbrev pub up_to : ℕ → ℕ → Option C
  up_to to d = cond (ltb d to) (relaxed d) (f d)

  pub round_first : Step rule (up_to 0) 0 0 best known w best known w
  round_first = still rule best known w 0 (up_to 0) 0 0 (λ d. sym (cond-false (ltb d 0) (relaxed d) (f d) (le-ltb d 0 (omega arith))))

  module _ (best₁ : List C) (known₁ : ℕ) (w₁ : Waiting (Entry C) ranked) where
    pub round_more : (to : ℕ) (o : Option C) (best₂ : List C) (known₂ : ℕ) (w₂ : Waiting (Entry C) ranked) → Step rule (up_to to) to to best known w best₁ known₁ w₁ →
        o ≡ joined rule (Some cost) (N.link from to) →
        Step rule (with_offer rule (costs_in rule best₁ known₁) to o) (to + 1) 1 best₁ known₁ w₁ best₂ known₂ w₂ →
        Step rule (up_to (to + 1)) (to + 1) (to + 1) best known w best₂ known₂ w₂
    round_more to o best₂ known₂ w₂ s is t =
        then rule (up_to to) (with_offer rule f₁ to o) (up_to (to + 1)) (to + 1) to (to + 1) (to + 1) to 1 best best₁ best₂ known known₁ known₂ w w₁ w₂ s t
        (λ d. ⊎_elim (here d) (λ ne. other d ne) (cases_eq d to)) (omega arith) (omega arith) (omega arith)
      where
        f₁ : ℕ → Option C
        f₁ = costs_in rule best₁ known₁

        here : (d : ℕ) → d ≡ to → with_offer rule (costs_in rule best₁ known₁) to o d ≡ up_to (to + 1) d
        here d e =
            cond-true (eqb d to) _ _ (eq-eqb d to e)
            ∙ ap₂ (lesser rule) (s.costs d ∙ cond-false (ltb d to) (relaxed d) (f d) (le-ltb d to (omega arith))) (is ∙ ap (λ k. joined rule (Some cost) (N.link from k)) (sym e))
            ∙ sym (cond-true (ltb d (to + 1)) (relaxed d) (f d) (lt-ltb d (to + 1) (omega arith)))

        other : (d : ℕ) → (d ≡ to → ⊥) → with_offer rule (costs_in rule best₁ known₁) to o d ≡ up_to (to + 1) d
        other d ne =
            cond-false (eqb d to) _ _ (ne_eqb d to ne) ∙ s.costs d
            ∙ ⊎_elim
            (λ (l : d < to). ap (λ t. cond t (relaxed d) (f d)) (lt-ltb d to l ∙ sym (lt-ltb d (to + 1) (omega arith))))
            (λ (l : to ≤ d). ap (λ t. cond t (relaxed d) (f d)) (le-ltb d to l ∙ sym (le-ltb d (to + 1) (omega arith))))
            (cases_lt d to)

    pub round_last : (to : ℕ) → to ≡ N.count → Step rule (up_to to) to to best known w best₁ known₁ w₁ → Step rule relaxed N.count N.count best known w best₁ known₁ w₁
    round_last to e s =
        record {
          costs = λ d. s.costs d ∙ ⊎_elim
              (λ (l : d < to). cond-true (ltb d to) (relaxed d) (f d) (lt-ltb d to l))
              (λ (l : to ≤ d). cond-false (ltb d to) (relaxed d) (f d) (le-ltb d to l) ∙ sym (past_all d (omega arith)))
              (cases_lt d to);
          absent = s.absent;
          past = λ k l. s.past k (omega arith);
          waits = s.waits;
          len = omega (arith, s.len);
          size = s.size;
        }
      where
        no_way : (l : Option C) → l ≡ None → joined rule (Some cost) l ≡ None
        no_way l e = ap (joined rule (Some cost)) e ∙ (unfold joined in refl)

        past_all : (d : ℕ) → N.count ≤ d → relaxed d ≡ f d
        past_all d l = ap (lesser rule (f d)) (no_way (N.link from d) (unlinked N sound from d l)) ∙ lesser_none rule (f d)
