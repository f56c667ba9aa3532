-- Tests on pairs of routers.
use Rattle.std.proofs.lemmas.Bool.Decides.{nat_tests}
use Rattle.std.proofs.Common.{◌≡◌, ℕ, ◌<◌, true, not, ◌&&◌, eqb, ltb, None, is_ok, ap, ◌∙◌, arith}
use Rattle.std.proofs.lemmas.Bool.{and_from, and_parts, cond-true, cond-false, lt-ltb, ltb-true, ne_eqb}
use Rattle.tables.specs.Links.{is_pair}
use Rattle.tables.specs.Tables.{checked, pair_refusal}

pub pair_true : (n a b : ℕ) → a < n → b < n → (a ≡ b → ⊥) → is_pair n a b ≡ true
pair_true n a b h k d = and_from _ _ (lt-ltb a n h) (and_from _ _ (lt-ltb b n k) (ap not (ne_eqb a b d)))

pub pair_parts : (n a b : ℕ) → is_pair n a b ≡ true → (a < n) × (b < n)
pair_parts n a b e =
    let p = and_parts (ltb a n) (ltb b n && not (eqb a b)) e in
    (ltb-true a n p.0, ltb-true b n (and_parts (ltb b n) (not (eqb a b)) p.1).0)

pub pair_granted : (n a b : ℕ) → a < n → b < n → (a ≡ b → ⊥) → pair_refusal n a b ≡ None
pair_granted n a b f t d =
    cond-true (ltb a n && ltb b n) _ _ (and_from _ _ (lt-ltb a n f) (lt-ltb b n t))
    ∙ cond-false (eqb a b) _ _ (ne_eqb a b d)

-- a pair that the check grants
pub pair_checked : (n a b : ℕ) → is_ok (checked (pair_refusal n a b)) ≡ true → (a < n) × (b < n) × (a ≡ b → ⊥)
pair_checked n a b e = grind (arith, nat_tests)
