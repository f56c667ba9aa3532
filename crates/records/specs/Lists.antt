-- A list of records as a link table.
use Rattle.std.specs.Prelude.{◌≡◌, ℕ, ◌≤◌, Bool, true, false, cond, not, ◌&&◌, ◌||◌, ◌⊎◌, List, [], ◌∷◌, length, replicate, is_some, Some, None, Option, ◌==◌, nat_lt, refl}
use Rattle.std.specs.List.{position_or_len}
use Rattle.std.proofs.Common.{inl, inr, ⊎_elim, sym, ap₂, subst, ◌∙◌, lit≤}
use Rattle.faults.specs.Calls.{granted}
use Rattle.faults.specs.declared.refusal.Refusal.{Refusal}
use Rattle.records.specs.declared.record.Record.{Record}
use Rattle.std.proofs.lemmas.Bool.{cond_both, and_parts, cond-true, cond-false, cases_Bool, eqb-true, both_ways, or_cases}
use Rattle.tables.specs.Links.{Links, is_pair}
use Rattle.tables.specs.Makings.{making_refusal, made_range}
use Rattle.tables.specs.Tables.{Table, empty_table, Lawful}

-- making a list: the count is not 2 to 32; there are fewer than 2 records
abbrev pub list_refusal : ℕ → ℕ → Option Refusal
list_refusal records n = making_refusal n records 2

-- the routers of a list of so many records: none where it cannot be made
abbrev pub list_count : ℕ → ℕ → ℕ
list_count records n = granted (list_refusal records n) n 0

-- a record of a pair and its number
abbrev pub link_of : ℕ → ℕ → ℕ → Record
link_of a b v = record { from = a; to = b; number = v }

-- a free record that names no pair
abbrev pub no_record : Record
no_record = link_of 0 0 0

-- making a list of n routers frees every record; of none, it leaves them
abbrev pub emptied : List Record → ℕ → List Record
emptied rs n = cond (n == 0) rs (replicate (length rs) no_record)

-- whether a record is in use
abbrev pub live : Record → Bool
live r = not (r.number == 0)

-- whether it holds the number of a pair
abbrev pub holds : Record → ℕ → ℕ → Bool
holds r a b = live r && (a == r.from && b == r.to)

-- the number that the records hold for each pair
abbrev pub find : List Record → Links
find [] a b = None
find (r ∷ rs) a b = cond (holds r a b) (Some r.number) (find rs a b)

-- a place below the length
abbrev pub found : ℕ → ℕ → Option ℕ
found i n = cond (nat_lt i n) (Some i) None

-- where a pair's number is held, where the first free record is, and where a pair's number is to be written:
-- at the length, where there is no such record
abbrev pub held_at : List Record → ℕ → ℕ → ℕ
held_at rs a b = position_or_len (λ r. holds r a b) rs

abbrev pub free_at : List Record → ℕ
free_at rs = position_or_len (λ r. not (live r)) rs

abbrev pub place_of : List Record → ℕ → ℕ → ℕ
place_of rs a b = cond (is_some (find rs a b)) (held_at rs a b) (free_at rs)

-- the numbers of a list of n routers: none where there are no routers, whatever the memory holds
abbrev pub list_links : List Record → ℕ → Links
list_links rs n a b = cond (n == 0) None (find rs a b)

-- the table that a list's records mean
abbrev pub list_table : List Record → ℕ → Table
list_table rs n =
    record {
      kept = list_links rs n;
      shown = list_links rs n;
      count = n;
      greatest = 4294967295;
      limit = length rs;
      plain = true;
    }

-- an empty list of so many records, of n routers
abbrev pub list_empty : ℕ → ℕ → Table
list_empty records n = empty_table n 4294967295 records

-- each record in use holds a pair of n routers that no later one holds
abbrev pub tidy : ℕ → List Record → Bool
tidy n [] = true
tidy n (r ∷ rs) = cond (live r) (is_pair n r.from r.to && not (is_some (find rs r.from r.to))) true && tidy n rs

-- what is kept true of a list
abbrev pub Tidy : List Record → ℕ → Type 0
Tidy rs n = (list_count (length rs) n ≡ n) × ((n == 0 || tidy n rs) ≡ true)

pub tidy_records : (rs : List Record) (n : ℕ) → Tidy rs n → (n == 0) ≡ false → tidy n rs ≡ true
tidy_records rs n t e = ⊎_elim (λ z. absurd (both_ways (n == 0) e z)) (λ h. h) (or_cases (n == 0) (tidy n rs) t.1)

-- only pairs of different routers have numbers
find_pairs : (n : ℕ) (rs : List Record) → tidy n rs ≡ true → (a b : ℕ) → is_pair n a b ≡ false → find rs a b ≡ None
find_pairs n [] t a b e = refl
find_pairs n (r ∷ rs) t a b e =
    let p = and_parts (cond (live r) (is_pair n r.from r.to && not (is_some (find rs r.from r.to))) true) (tidy n rs) t in
    ⊎_elim
    (λ (h : holds r a b ≡ true).
    let q = and_parts (live r) (a == r.from && b == r.to) h in
    let s = and_parts (a == r.from) (b == r.to) q.1 in
    let w = and_parts (is_pair n r.from r.to) (not (is_some (find rs r.from r.to))) (sym (cond-true (live r) _ true q.0) ∙ p.0) in
    let same : is_pair n a b ≡ is_pair n r.from r.to = ap₂ (is_pair n) (eqb-true a r.from s.0) (eqb-true b r.to s.1) in
    absurd (both_ways (is_pair n a b) e (same ∙ w.0)))
    (λ (h : holds r a b ≡ false). cond-false (holds r a b) _ _ h ∙ find_pairs n rs p.1 a b e)
    (cases_Bool (holds r a b))

links_pairs : (rs : List Record) (n : ℕ) → Tidy rs n → (a b : ℕ) → is_pair n a b ≡ false → list_links rs n a b ≡ None
links_pairs rs n t a b h =
    cond_both (n == 0) None (find rs a b) (λ o. o ≡ None) (λ e. refl) (λ e. find_pairs n rs (tidy_records rs n t e) a b h)

pub list_lawful : (rs : List Record) (n : ℕ) → Tidy rs n → Lawful (list_table rs n)
list_lawful rs n t =
    record {
      counted = subst (λ k. (k ≡ 0) ⊎ ((2 ≤ k) × (k ≤ 32))) t.0 (⊎_elim inl (λ h. inr (h.0, h.1)) (made_range n (length rs) 2));
      numbered = lit≤ tt;
      limited = subst (λ k. (k ≡ 0) ⊎ (2 ≤ length rs)) t.0 (⊎_elim inl (λ h. inr h.2) (made_range n (length rs) 2));
      keeps = links_pairs rs n t;
      shows = links_pairs rs n t;
      plainly = λ _. refl;
    }
