-- What a write into handed memory leaves there, and what it answers.
use Rattle.std.specs.Prelude.{ℕ, ◌+◌, Bool, cond, List, ◌++◌, length, take, drop, Ok, Err, Result, nat_le}
use Rattle.faults.specs.declared.refusal.Refusal.{Refusal}
use Rattle.faults.specs.declared.refusal.Refusal.TheVariants.{MemoryTooShort}

-- `news` stands from the place `at` on, and all else is as in `old`
abbrev pub laid : {A : Type 0} → List A → ℕ → List A → List A
laid old at news = take at old ++ (news ++ drop (at + length news) old)

-- whether so many items fit from the place on
abbrev pub fits : {A : Type 0} → List A → ℕ → ℕ → Bool
fits old at many = nat_le (at + many) (length old)

-- a write answers the place behind what it wrote, or refuses where that does not fit
abbrev pub write_answer : {A : Type 0} → List A → ℕ → List A → Result ℕ Refusal
write_answer old at news = cond (fits old at (length news)) (Ok (at + length news)) (Err MemoryTooShort)

-- a refused write leaves the memory as it was
abbrev pub write_leaves : {A : Type 0} → List A → ℕ → List A → List A
write_leaves old at news = cond (fits old at (length news)) (laid old at news) old
