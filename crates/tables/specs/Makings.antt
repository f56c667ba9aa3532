-- Making a table: what it is refused for, and how many routers it then has.
use Rattle.std.specs.Prelude.{◌≡◌, ℕ, ◌≤◌, cond, ◌&&◌, ◌⊎◌, Some, None, Option, nat_le, refl}
use Rattle.std.proofs.Common.{inl, inr}
use Rattle.std.proofs.lemmas.Bool.{cond_both, and_parts, leb-true}
use Rattle.faults.specs.Calls.{granted}
use Rattle.faults.specs.declared.refusal.Refusal.{Refusal}
use Rattle.faults.specs.declared.refusal.Refusal.TheVariants.{MemoryTooShort, BadCount}

-- the count is not 2 to 32; there is less memory than the table needs
abbrev pub making_refusal : ℕ → ℕ → ℕ → Option Refusal
making_refusal count memory needed =
    cond (nat_le 2 count && nat_le count 32) (cond (nat_le needed memory) None (Some MemoryTooShort)) (Some BadCount)

-- the routers of a table: none where it cannot be made
abbrev pub routers_made : ℕ → ℕ → ℕ → ℕ
routers_made count memory needed = granted (making_refusal count memory needed) count 0

-- what holds of a count of 2 to 32 with memory enough, and of none, holds of them
pub made_by : (count memory needed : ℕ) (P : ℕ → Type 0) → (2 ≤ count → count ≤ 32 → needed ≤ memory → P count) → P 0 → P (routers_made count memory needed)
made_by count memory needed P some none =
    cond_both (nat_le 2 count && nat_le count 32) (cond (nat_le needed memory) None (Some MemoryTooShort)) (Some BadCount) (λ o. P (granted o count 0))
    (λ e.
    let p = and_parts (nat_le 2 count) (nat_le count 32) e in
    cond_both (nat_le needed memory) None (Some MemoryTooShort) (λ o. P (granted o count 0))
    (λ h. some (leb-true 2 count p.0) (leb-true count 32 p.1) (leb-true needed memory h))
    (λ h. none))
    (λ e. none)

-- a table has 2 to 32 routers and memory enough, or no routers
pub made_range : (count memory needed : ℕ) →
    (routers_made count memory needed ≡ 0) ⊎ ((2 ≤ routers_made count memory needed) × (routers_made count memory needed ≤ 32) × (needed ≤ memory))
made_range count memory needed =
    made_by count memory needed (λ k. (k ≡ 0) ⊎ ((2 ≤ k) × (k ≤ 32) × (needed ≤ memory))) (λ a b c. inr (a, b, c)) (inl refl)
