-- The rule `hops-width` keeps the laws, and the join of m link costs has m hops.
use Rattle.std.specs.Prelude.{◌≡◌, ℕ, ◌^◌, ◌<◌, Some, refl}
use Rattle.std.proofs.Common.{ap, sym, arith}
use mathlib.Core.HLevel.{is_prop→PathP}
use Rattle.std.proofs.Math.Bridge.{le_prop}
use Rattle.std.proofs.lemmas.Bool.Decides.{nat_tests}
use Rattle.std.proofs.lemmas.Option.{cond_some}
use Rattle.costs.specs.declared.path.PathCost.{PathCost}
use Rattle.costs.specs.Costs.{Laws, Joins, none, more}
use Rattle.costs.specs.Paths.{one_hop, path_read, hops_width}

-- costs with the same hops and the same width are the same: that the width fits is no third part
pub same_path : (a b : PathCost) → a.hops ≡ b.hops → a.width ≡ b.width → a ≡ b
same_path a b h w = λ i. record { hops = h i; width = w i; fits = is_prop→PathP (λ j. w j < 2 ^ 32) (λ j. le_prop) a.fits b.fits i }

link_hops : (n : ℕ) (l : PathCost) → path_read n ≡ Some l → l.hops ≡ 1
link_hops n l h = ap (λ (c : PathCost). c.hops) (sym (cond_some _ (one_hop n) l h).1)

pub path_lawful : Laws hops_width
path_lawful = record {
  irreflexive = λ a. grind (arith, nat_tests);
  transitive = λ a b c h k. grind (arith, nat_tests);
  total = λ a b h k. same_path a b (grind (arith, nat_tests)) (grind (arith, nat_tests));
  associative = λ a b c. same_path _ _ (omega arith) (omega arith);
  commutative = λ a b. same_path _ _ (omega arith) (omega arith);
  neutral = λ a. same_path _ _ (omega arith) (omega (arith, a.fits));
  monotone = λ a b c h. grind (arith, nat_tests);
  strict = λ a c n h. let e = link_hops n c h in grind (arith, nat_tests);
  zero_unread = refl;
}

-- the join of m link costs has m hops
pub joins_hops : {m : ℕ} {c : PathCost} → Joins hops_width m c → c.hops ≡ m
joins_hops none = refl
joins_hops (more n l j e) = omega (arith, joins_hops j, link_hops n l e)
