-- The routers that a table is made with.
use Rattle.std.proofs.Common.{◌≡◌, ℕ, Some, None, Option, refl, ap}
use Rattle.faults.specs.Calls.{granted}
use Rattle.faults.specs.declared.refusal.Refusal.{Refusal}

-- a table can be made again with the routers that it was made with
pub made_again : (refusal : ℕ → Option Refusal) (count : ℕ) → let n = granted (refusal count) count 0 in granted (refusal n) n 0 ≡ n
made_again refusal count = go (refusal count) refl
  where
    go : (o : Option Refusal) → refusal count ≡ o → let n = granted o count 0 in granted (refusal n) n 0 ≡ n
    go None e = ap (λ o. granted o count 0) e
    go (Some x) e = by (refusal 0)
      where
        by : (o : Option Refusal) → ◌≡◌ {A = ℕ} (granted o 0 0) 0
        by None = refl
        by (Some y) = refl
