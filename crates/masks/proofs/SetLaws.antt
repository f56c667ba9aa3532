-- The laws of sets of routers.
use Rattle.std.proofs.Common.{◌≡◌, ℕ, ◌+◌, ◌^◌, ◌<◌, ◌≤◌, true, false, ◌||◌, eqb, [], ◌∷◌, ◌++◌, ap, ◌∙◌, ⊎_elim, add-one, arith}
use lib.Bits.{bit_or}
use Rattle.std.specs.Int.{bit_at}
use Rattle.std.proofs.lemmas.Nat.Bits.{bit_at_or, bit_at_above, bit_at-lt, bit_at-pow_same, bit_at-pow_other}
use Rattle.std.proofs.lemmas.Bool.{cond-true, cond-false, eq-eqb, ne_eqb, cases_eq}
use Rattle.masks.specs.Sets.{holds, members}

-- one router more
pub members_in : (mask n : ℕ) → holds mask n ≡ true → members mask (n + 1) ≡ members mask n ++ n ∷ []
unfolding members
members_in mask n h = rw add-one (cond-true _ _ _ h)

pub members_out : (mask n : ℕ) → holds mask n ≡ false → members mask (n + 1) ≡ members mask n
unfolding members
members_out mask n h = rw add-one (cond-false _ _ _ h)

-- a mask of 32 bits has no member from 32 on
pub holds_past : (mask router : ℕ) → mask < 2 ^ 32 → 32 ≤ router → holds mask router ≡ false
holds_past mask router h k = ap (λ n. eqb n 1) (bit_at_above mask 32 router h k)

-- the set with one router more
pub holds_or : (mask r k : ℕ) → holds (bit_or mask (2 ^ r)) k ≡ (eqb k r || holds mask k)
holds_or mask r k =
    ap (λ n. eqb n 1) (bit_at_or mask (2 ^ r) k)
    ∙ ⊎_elim
    (λ (e : k ≡ r). let set : bit_at (2 ^ r) k ≡ 1 = ap (λ n. bit_at (2 ^ r) n) e ∙ bit_at-pow_same r in
    rw (eq-eqb k r e) (eq-eqb _ 1 (omega (arith, set, bit_at-lt mask k))))
    (λ (ne : k ≡ r → ⊥). rw (ne_eqb k r ne) (ap (λ n. eqb n 1) (omega (arith, bit_at-pow_other r k ne))))
    (cases_eq k r)
