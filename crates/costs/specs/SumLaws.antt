-- The rule `sum` keeps the laws, and 127 link costs never pass 32 bits.
use Rattle.std.specs.Prelude.{◌≡◌, ℕ, ◌*◌, ◌≤◌, Some, refl}
use Rattle.std.proofs.Common.{arith}
use Rattle.std.proofs.lemmas.Bool.Decides.{nat_tests}
use Rattle.costs.specs.Costs.{Laws, Joins, none, more}
use Rattle.costs.specs.Sums.{sum}

pub sum_lawful : Laws sum
sum_lawful = record {
  irreflexive = λ a. grind (arith, nat_tests);
  transitive = λ a b c h k. grind (arith, nat_tests);
  total = λ a b h k. grind (arith, nat_tests);
  associative = λ a b c. omega arith;
  commutative = λ a b. omega arith;
  neutral = λ a. omega arith;
  monotone = λ a b c h. grind (arith, nat_tests);
  strict = λ a c n h. grind (arith, nat_tests);
  zero_unread = refl;
}

link_bound : (n l : ℕ) → sum.read n ≡ Some l → l ≤ 65535
link_bound n l h = grind (arith, nat_tests)

-- the join of m link costs is at most m times the greatest
pub joins_bound : {m c : ℕ} → Joins sum m c → c ≤ 65535 * m
joins_bound none = omega arith
joins_bound (more n l j e) = omega (arith, joins_bound j, link_bound n l e)
