-- What a link table means, and what its calls do.
use Rattle.std.specs.Prelude.{◌≡◌, ℕ, ◌≤◌, Bool, true, false, cond, not, ◌&&◌, ◌⊎◌, is_some, Some, None, Ok, Err, Option, Result, ◌==◌, nat_le, nat_lt}
use Rattle.faults.specs.Calls.{or_else, granted, in_table, done}
use Rattle.tables.specs.Links.{Links, no_links, is_pair, size, with_link}
use Rattle.faults.specs.declared.fault.Fault.{Fault}
use Rattle.faults.specs.declared.refusal.Refusal.{Refusal}
use Rattle.faults.specs.declared.refusal.Refusal.TheVariants.{NoSuchRouter, SameRouter, NumberOutOfRange, Full, NotKept}

pub record Table : Type 0 where
  pub kept : Links
  pub shown : Links
  pub count : ℕ
  pub greatest : ℕ
  pub limit : ℕ
  pub plain : Bool

-- what every table keeps to
pub record Lawful (t : Table) : Type 0 where
  -- 2 to 32 routers, or none
  pub counted : (t.count ≡ 0) ⊎ ((2 ≤ t.count) × (t.count ≤ 32))
  pub numbered : 1 ≤ t.greatest
  pub limited : (t.count ≡ 0) ⊎ (2 ≤ t.limit)
  -- only pairs of different routers have numbers
  pub keeps : (a b : ℕ) → is_pair t.count a b ≡ false → t.kept a b ≡ None
  pub shows : (a b : ℕ) → is_pair t.count a b ≡ false → t.shown a b ≡ None
  pub plainly : t.plain ≡ true → t.shown ≡ t.kept

-- the table that a value means, by the trait's members
abbrev pub table : {T : Type 0} → (T → Links) → (T → Links) → (T → ℕ) → (T → ℕ) → (T → ℕ) → (T → Bool) → T → Table
table kept shown count greatest limit plain t =
    record { kept = kept t; shown = shown t; count = count t; greatest = greatest t; limit = limit t; plain = plain t }

-- a plain table that keeps nothing
abbrev pub empty_table : ℕ → ℕ → ℕ → Table
empty_table count greatest limit =
    record { kept = no_links; shown = no_links; count = count; greatest = greatest; limit = limit; plain = true }

-- what a check answers: the refusal that it finds, or none
abbrev pub checked : Option Refusal → Result (Unit {0}) Refusal
checked None = Ok tt
checked (Some r) = Err r

-- a router is not below the count; one router is named twice
abbrev pub pair_refusal : ℕ → ℕ → ℕ → Option Refusal
pair_refusal count from to =
    cond (nat_lt from count && nat_lt to count) (cond (from == to) (Some SameRouter) None) (Some NoSuchRouter)

-- the number is 0 or above the greatest
abbrev pub number_refusal : ℕ → ℕ → Option Refusal
number_refusal greatest number = cond (not (number == 0) && nat_le number greatest) None (Some NumberOutOfRange)

-- the pair is not kept, and the kept pairs equal the limit
abbrev pub room_refusal : ℕ → ℕ → Links → ℕ → ℕ → Option Refusal
room_refusal count limit kept from to =
    cond (is_some (kept from to)) None (cond (size kept count == limit) (Some Full) None)

-- the pair is not kept
abbrev pub kept_refusal : Links → ℕ → ℕ → Option Refusal
kept_refusal kept from to = cond (is_some (kept from to)) None (Some NotKept)

abbrev pub put_refusal : Table → ℕ → ℕ → ℕ → Option Refusal
put_refusal t from to number =
    or_else (pair_refusal t.count from to)
    (or_else (number_refusal t.greatest number) (room_refusal t.count t.limit t.kept from to))

abbrev pub cut_refusal : Table → ℕ → ℕ → Option Refusal
cut_refusal t from to = or_else (pair_refusal t.count from to) (kept_refusal t.kept from to)

-- a refused call leaves what is shown
abbrev pub RefusedShows : {F : Type 0} → Option F → Links → Links → Type 0
RefusedShows None old new = Unit {0}
RefusedShows (Some x) old new = new ≡ old

-- a refused call leaves the whole value as it was, with the memory that it holds
abbrev pub Unchanged : {X : Type 0} → Result (Unit {0}) Fault → X → X → Type 0
Unchanged (Ok u) old new = Unit {0}
Unchanged (Err f) old new = new ≡ old

-- one pair's kept number set, or removed, unless there is a refusal
pub record Changed {F : Type 0} (refusal : Option F) (from to : ℕ) (number : Option ℕ) (t u : Table) : Type 0 where
  pub kept : u.kept ≡ granted refusal (with_link t.kept from to number) t.kept
  pub shown : RefusedShows refusal t.shown u.shown
  pub count : u.count ≡ t.count
  pub greatest : u.greatest ≡ t.greatest
  pub limit : u.limit ≡ t.limit
  pub plain : u.plain ≡ t.plain

pub record Put (from to number : ℕ) (t : Table) (r : Result (Unit {0}) Fault) (u : Table) : Type 0 where
  pub answer : r ≡ done (in_table (put_refusal t from to number))
  pub changed : Changed (put_refusal t from to number) from to (Some number) t u

pub record Cut (from to : ℕ) (t : Table) (r : Result (Unit {0}) Fault) (u : Table) : Type 0 where
  pub answer : r ≡ done (in_table (cut_refusal t from to))
  pub changed : Changed (cut_refusal t from to) from to None t u
