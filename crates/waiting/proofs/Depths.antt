-- How deep a place of a heap stands. Each turn of a way up or down changes the depth by one, so it has few turns.
use Rattle.std.proofs.Common.{◌≡◌, ℕ, zero, suc, ◌+◌, ◌-◌, ◌/◌, ◌^◌, ◌<◌, ◌≤◌, refl, ap, ◌∙◌, arith, pow-add}

-- counted for at most f steps
depth_in : ℕ → ℕ → ℕ
depth_in zero k = 0
depth_in (suc f) zero = 0
depth_in (suc f) (suc k) = 1 + depth_in f (k / 2)

-- how many steps to the parent lead from place k to the top
pub depth : ℕ → ℕ
depth k = depth_in k k

-- k steps are enough
enough : (f g k : ℕ) → k ≤ f → k ≤ g → depth_in f k ≡ depth_in g k
unfolding depth_in
enough zero zero k hf hg = refl
enough zero (suc g) zero hf hg = refl
enough zero (suc g) (suc k) hf hg = absurd (omega arith)
enough (suc f) zero zero hf hg = refl
enough (suc f) zero (suc k) hf hg = absurd (omega arith)
enough (suc f) (suc g) zero hf hg = refl
enough (suc f) (suc g) (suc k) hf hg = ap (λ n. 1 + n) (enough f g (k / 2) (omega arith) (omega arith))

-- a place is one deeper than its parent
pub depth_more : (k : ℕ) → 0 < k → depth k ≡ 1 + depth ((k - 1) / 2)
unfolding depth depth_in
depth_more zero pos = absurd (omega arith)
depth_more (suc k) pos =
    let e : k ≡ suc k - 1 = omega arith in
    ap (λ n. 1 + n) (enough k (k / 2) (k / 2) (omega arith) (omega arith)) ∙ ap (λ n. 1 + depth_in (n / 2) (n / 2)) e

rising : (f j k : ℕ) → j ≤ k → depth_in f j ≤ depth_in f k
unfolding depth_in
rising zero j k h = omega arith
rising (suc f) zero k h = omega arith
rising (suc f) (suc j) zero h = absurd (omega arith)
rising (suc f) (suc j) (suc k) h = let below = rising f (j / 2) (k / 2) (omega arith) in omega arith

-- no place is deeper than a later one
pub depth_rises : (j k : ℕ) → j ≤ k → depth j ≤ depth k
unfolding depth
depth_rises j k h = omega (arith, enough j k j (omega arith) h, rising k j k h)

few : (f k : ℕ) → 2 ^ depth_in f k ≤ k + 1
unfolding depth_in
few zero k = omega arith
few (suc f) zero = omega arith
few (suc f) (suc k) = omega (arith, few f (k / 2), pow-add 2 1 (depth_in f (k / 2)))

-- the depth is at most the logarithm of the place's number from 1
pub depth_few : (k : ℕ) → 2 ^ depth k ≤ k + 1
unfolding depth
depth_few k = few k k
