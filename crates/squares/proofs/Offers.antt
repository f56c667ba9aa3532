-- Which of two costs a router keeps.
use Rattle.std.proofs.Common.{◌≡◌, Bool, true, false, cond, Some, None, Option, sym, refl, ap, ◌∙◌}
use Rattle.std.proofs.lemmas.Bool.{cond-true, cond-false}
use Rattle.costs.specs.Costs.{Costs}
use Rattle.routes.specs.Leasts.{lesser}
use Rattle.routes.proofs.Members.{some_inj, none_some}

pub same_either : {A : Type 0} (b : Bool) (x y : A) → x ≡ y → y ≡ cond b x y
same_either true x y e = sym e
same_either false x y e = refl

module _ {C : Type 0} (rule : Costs C) where
  pub lesser_none : (o : Option C) → lesser rule o None ≡ o
  unfolding lesser
  lesser_none None = refl
  lesser_none (Some a) = refl

  -- a cost that is not lower changes nothing
  pub lesser_old : (o : Option C) (a c : C) → o ≡ Some a → rule.lower c a ≡ false → lesser rule o (Some c) ≡ o
  unfolding lesser
  lesser_old None a c e h = absurd (none_some a e)
  lesser_old (Some b) a c e h = cond-false (rule.lower c b) (Some c) (Some b) (ap (rule.lower c) (some_inj b a e) ∙ h)

  -- a cost that is lower, or the first, is taken
  pub lesser_new : (o : Option C) (c : C) → ((a : C) → o ≡ Some a → rule.lower c a ≡ true) → lesser rule o (Some c) ≡ Some c
  unfolding lesser
  lesser_new None c h = refl
  lesser_new (Some b) c h = cond-true (rule.lower c b) (Some c) (Some b) (h b refl)
