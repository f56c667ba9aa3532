-- The lines of a file, one after another.
use Rattle.std.proofs.Common.{◌≡◌, ℕ, zero, suc, ◌+◌, ◌<◌, ◌≤◌, [], ◌∷◌, length, Some, None, Ok, Err, Option, Result, sym, refl, ap, ◌∙◌, arith, length-drop}
use Rattle.std.proofs.lemmas.Bool.{cond_both}
use Rattle.faults.specs.declared.fault.Fault.{Fault}
use Rattle.decimals.specs.Numbers.{numeral}
use Rattle.directions.specs.declared.direction.Direction.{Direction}
use Rattle.linkfile.specs.Lines.{from, to, weight, end, same_key, Said, moved}
use Rattle.linkfile.specs.Reading.{Standing, left, next_said, onward}
use Rattle.directions.specs.Directions.{number_on, next_number, Reading, go_on, rest_read, begun, direction_read}
use Rattle.directions.specs.Files.{Listing, list_on, listing, list_all}
use Rattle.linkfile.proofs.LineLaws.{before_le, ended, told_ends}

-- ---- what a reading leaves of the text
onward_le : (s : Standing) → length (left (onward s)) ≤ length (left s)
onward_le s = omega (arith, length-drop (s.place + moved (left s)) s.text, length-drop s.place s.text)

onward_less : (s : Standing) (x : Said) → next_said s ≡ Ok x → length (left (onward s)) < length (left s)
onward_less s x e =
    let u = (told_ends (left s) s.line x (sym e)).0 in
    omega (arith, length-drop (s.place + moved (left s)) s.text, length-drop s.place s.text, (ended (left s) s.line u).1, before_le 10 (left s), u)

-- a reading leaves no more of the text than so many bytes
Leaves : {A : Type 0} → ℕ → Reading A → Type 0
Leaves n r = length (left r.standing) ≤ n

go_on_leaves : {A B : Type 0} (n : ℕ) (a : Result A Fault) (s : Standing) (next : A → Reading B) → length (left s) ≤ n → ((x : A) → Leaves n (next x)) → Leaves n (go_on a s next)
unfolding Leaves
go_on_leaves n (Ok x) s next h k = k x
go_on_leaves n (Err f) s next h k = h

rest_leaves : (n a : ℕ) (s : Standing) → length (left s) ≤ n → Leaves n (rest_read a s)
unfolding Leaves
rest_leaves n a s h =
    let one : length (left (onward s)) ≤ n = omega (arith, onward_le s) in
    let two : length (left (onward (onward s))) ≤ n = omega (arith, onward_le (onward s), one) in
    go_on_leaves n (next_number to s) (onward s) _ one (λ b. go_on_leaves n (next_number weight (onward s)) (onward (onward s)) _ two (λ w. two))

begun_leaves : (n : ℕ) (x : Said) (s : Standing) → length (left s) ≤ n → Leaves n (begun x s)
unfolding Leaves
begun_leaves n x s h =
    let first : Reading (Option Direction) → Type 0 = Leaves n in
    cond_both (same_key from x.kind) _ _ first
    (λ _. go_on_leaves n (number_on x.line (numeral x.value)) s _ h (λ a. let r = rest_leaves n a s h in go_on_leaves n (rest_read a s).answer (rest_read a s).standing _ r (λ d. r)))
    (λ _. cond_both (same_key end x.kind) _ _ first (λ _. h) (λ _. h))

-- ---- the directions in turn
-- the next direction by what its first line says
unfoldable pub read_by : Standing → Result Said Fault → Reading (Option Direction)
read_by s a = go_on a (onward s) (λ first. begun first (onward s))

less_by : (s : Standing) (a : Result Said Fault) (d : Direction) → next_said s ≡ a → (read_by s a).answer ≡ Ok (Some d) → length (left (read_by s a).standing) < length (left s)
unfolding read_by Leaves
less_by s (Ok x) d e g = omega (arith, onward_less s x e, begun_leaves (length (left (onward s))) x (onward s) (omega arith))
less_by s (Err f) d e g = let z : ◌≡◌ {A = ℕ} 0 1 = cc in absurd (omega arith)

pub direction_less : (s : Standing) (d : Direction) → (direction_read s).answer ≡ Ok (Some d) → length (left (direction_read s).standing) < length (left s)
unfolding read_by
direction_less s d e = less_by s (next_said s) d refl e

-- what follows matters only behind a direction
list_on_same : (a : Result (Option Direction) Fault) (x y : Listing) → ((d : Direction) → a ≡ Ok (Some d) → x ≡ y) → list_on a x ≡ list_on a y
list_on_same (Ok (Some d)) x y h = ap (list_on (Ok (Some d))) (h d refl)
list_on_same (Ok None) x y h = refl
list_on_same (Err f) x y h = refl

listing_enough : (j k : ℕ) (s : Standing) → length (left s) < j → length (left s) < k → listing j s ≡ listing k s
unfolding listing
listing_enough zero k s h i = absurd (omega arith)
listing_enough (suc j) zero s h i = absurd (omega arith)
listing_enough (suc j) (suc k) s h i =
    list_on_same (direction_read s).answer _ _ (λ d e. let l = direction_less s d e in listing_enough j k (direction_read s).standing (omega arith) (omega arith))

pub list_all_on : (s : Standing) → list_all s ≡ list_on (direction_read s).answer (list_all (direction_read s).standing)
unfolding listing
list_all_on s =
    list_on_same (direction_read s).answer _ _ (λ d e. let l = direction_less s d e in listing_enough (length (left s)) (suc (length (left (direction_read s).standing))) (direction_read s).standing (omega arith) (omega arith))

-- the same by what was read
pub list_all_some : (s : Standing) (d : Direction) → Ok (Some d) ≡ (direction_read s).answer → list_all s ≡ record { directions = d ∷ (list_all (direction_read s).standing).directions; ended = (list_all (direction_read s).standing).ended }
list_all_some s d e = list_all_on s ∙ ap (λ a. list_on a (list_all (direction_read s).standing)) (sym e)

pub list_all_none : (s : Standing) → Ok None ≡ (direction_read s).answer → list_all s ≡ record { directions = []; ended = Ok tt }
list_all_none s e = list_all_on s ∙ ap (λ a. list_on a (list_all (direction_read s).standing)) (sym e)

pub list_all_err : (s : Standing) (f : Fault) → Err f ≡ (direction_read s).answer → list_all s ≡ record { directions = []; ended = Err f }
list_all_err s f e = list_all_on s ∙ ap (λ a. list_on a (list_all (direction_read s).standing)) (sym e)
