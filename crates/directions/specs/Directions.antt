-- What the lines of a link file mean, in their order.
use Rattle.std.specs.Prelude.{ℕ, cond, List, Some, None, Ok, Err, codes, Option, Result}
use Rattle.std.specs.Borrow.{Bor}
use Rattle.std.specs.Str.{bytes_eq}
use Rattle.faults.specs.declared.fault.Fault.{Fault}
use Rattle.decimals.specs.Numbers.{numeral}
use Rattle.directions.specs.declared.direction.Direction.{Direction}
use Rattle.linkfile.specs.declared.line.Key.{Key}
use Rattle.linkfile.specs.Lines.{from, to, weight, end, same_key, Said, bad, Lies}
use Rattle.linkfile.specs.Reading.{Standing, next_said, onward, done}

-- ---- one line
-- a number, or the fault on its line
abbrev pub number_on : ℕ → Option ℕ → Result ℕ Fault
number_on line (Some n) = Ok n
number_on line None = Err (bad line)

-- the value under this key; a line with another key is out of place
abbrev pub value_under : Key → Said → Result (List ℕ) Fault
value_under k s = cond (same_key k s.kind) (Ok s.value) (Err (bad s.line))

abbrev pub number_under : Key → Said → Result ℕ Fault
number_under k s = cond (same_key k s.kind) (number_on s.line (numeral s.value)) (Err (bad s.line))

-- ---- lines one after another: the first fault ends the reading
abbrev pub and_then : {A B : Type 0} → Result A Fault → (A → Result B Fault) → Result B Fault
and_then (Ok a) next = next a
and_then (Err f) next = Err f

-- the next line, which must have this key
abbrev pub next_value : Key → Standing → Result (List ℕ) Fault
next_value k s = and_then (next_said s) (value_under k)

abbrev pub next_number : Key → Standing → Result ℕ Fault
next_number k s = and_then (next_said s) (number_under k)

-- what is read, and where the reader stands then
pub record Reading (A : Type 0) : Type 0 where
  pub answer : Result A Fault
  pub standing : Standing

abbrev pub go_on : {A B : Type 0} → Result A Fault → Standing → (A → Reading B) → Reading B
go_on (Ok a) s next = next a
go_on (Err f) s next = record { answer = Err f; standing = s }

-- ---- the directions of a file: `from`, `to` and `weight` for each, and `end=links` last
-- the lines `to` and `weight` behind a `from`
abbrev pub rest_read : ℕ → Standing → Reading Direction
rest_read a s =
    go_on (next_number to s) (onward s)
    (λ b. go_on (next_number weight (onward s)) (onward (onward s)) (λ w. record { answer = Ok (record { from = a; to = b; number = w; line = (onward s).line }); standing = onward (onward s) }))

-- the value of `end` is `links`, and nothing stands behind it
abbrev pub ending : List ℕ → ℕ → Standing → Result (Option Direction) Fault
ending value line behind =
    cond (bytes_eq value (codes "links")) (cond (done behind) (Ok None) (Err (bad behind.line))) (Err (bad line))

abbrev pub one_direction : Reading Direction → Reading (Option Direction)
one_direction r = go_on r.answer r.standing (λ d. record { answer = Ok (Some d); standing = r.standing })

-- a line that begins a direction or ends the file, and what belongs to it
abbrev pub begun : Said → Standing → Reading (Option Direction)
begun s behind =
    cond (same_key from s.kind) (go_on (number_on s.line (numeral s.value)) behind (λ a. one_direction (rest_read a behind)))
    (cond (same_key end s.kind) (record { answer = ending s.value s.line behind; standing = behind }) (record { answer = Err (bad s.line); standing = behind }))

-- the next direction, or none at the end
abbrev pub direction_read : Standing → Reading (Option Direction)
direction_read s = go_on (next_said s) (onward s) (λ first. begun first (onward s))

-- ---- an answer that is a part of the text
abbrev pub texts : Result (Bor (List ℕ)) Fault → Result (List ℕ) Fault
texts (Ok part) = Ok part.now
texts (Err f) = Err f

abbrev pub TextPart : Bor (List ℕ) → ℕ → Result (Bor (List ℕ)) Fault → Type 0
TextPart text place (Ok part) = Lies text part place
TextPart text place (Err f) = Unit {0}
