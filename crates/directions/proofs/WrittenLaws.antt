-- The reader grants exactly what is written as a link file.
use Rattle.std.proofs.Common.{◌≡◌, ℕ, zero, suc, ◌+◌, ◌<◌, ◌≤◌, Bool, true, false, cond, ◌⊎◌, List, [], ◌∷◌, ◌++◌, length, get_or, drop, Some, None, Ok, Err, codes, decimal, Option, Result, sym, refl, ap, ◌∙◌, subst, inl, inr, ⊎_elim, append_assoc, arith, length-drop}
use Rattle.std.proofs.lemmas.Fmt.{decimal_by_steps}
use Rattle.std.proofs.lemmas.Slice.Eq.{bytes_eq-Decides}
use Rattle.std.proofs.lemmas.List.{drop-drop, drop_all}
use Rattle.std.proofs.lemmas.Bool.{eq-eqb, eqb-true, cond-true}
use Rattle.std.specs.Str.{bytes_eq}
use Rattle.faults.specs.declared.fault.Fault.{Fault}
use Rattle.decimals.specs.Numbers.{numeral}
use Rattle.decimals.proofs.NumberLaws.{reads_decimal}
use Rattle.directions.specs.declared.direction.Direction.{Direction}
use Rattle.linkfile.specs.declared.line.Key.{Key}
use Rattle.linkfile.specs.declared.line.Key.TheVariants as k
use Rattle.linkfile.specs.Lines.{rank, same_key, routers, rule, from, to, weight, end, spelling, Said, bad, before, moved}
use Rattle.linkfile.specs.Reading.{Standing, left, done, next_said, onward}
use Rattle.linkfile.proofs.LineLaws.{before_none, before_on, Lacks, lacks_append, ended, told_ends, told_bytes, line_told}
use Rattle.directions.specs.Directions.{number_on, and_then, next_value, next_number, Reading, go_on, rest_read, ending, one_direction, begun, direction_read}
use Rattle.directions.specs.Files.{Listing, list_all}
use Rattle.directions.specs.Written.{line_text, direction_text, links_text, FitsAt, Numbered}
use Rattle.directions.proofs.FileLaws.{read_by, direction_less, list_all_some, list_all_none, list_all_err}

-- ---- an answer that is no fault: each of its steps was none
pub never_err : {A : Type 0} (f : Fault) (a : A) → ◌≡◌ {A = Result A Fault} (Err f) (Ok a) → ⊥
never_err f a e = let z : ◌≡◌ {A = ℕ} 0 1 = cc in omega arith

pub and_then_ok : {A B : Type 0} (a : Result A Fault) (next : A → Result B Fault) (b : B) → and_then a next ≡ Ok b → (x : A) × (a ≡ Ok x) × (next x ≡ Ok b)
and_then_ok (Ok x) next b e = (x, refl, e)
and_then_ok (Err f) next b e = absurd (never_err f b e)

go_on_ok : {A B : Type 0} (a : Result A Fault) (s : Standing) (next : A → Reading B) (b : B) → (go_on a s next).answer ≡ Ok b → (x : A) × (a ≡ Ok x) × (go_on a s next ≡ next x)
go_on_ok (Ok x) s next b e = (x, refl, refl)
go_on_ok (Err f) s next b e = absurd (never_err f b e)

-- the answer of an equal reading
answer_along : {A : Type 0} {p q : Reading A} {a : A} → p ≡ q → p.answer ≡ Ok a → q.answer ≡ Ok a
answer_along is e = sym (ap (λ r. r.answer) is) ∙ e

cond_ok : {A : Type 0} (t : Bool) (r : Result A Fault) (f : Fault) (a : A) → cond t r (Err f) ≡ Ok a → (t ≡ true) × (r ≡ Ok a)
cond_ok true r f a e = (refl, e)
cond_ok false r f a e = absurd (never_err f a e)

number_on_ok : (line : ℕ) (o : Option ℕ) (n : ℕ) → number_on line o ≡ Ok n → o ≡ Some n
number_on_ok line (Some m) n e = cc
number_on_ok line None n e = absurd (never_err (bad line) n e)

-- ---- keys that test the same are the same
abbrev keys : List Key
keys = routers ∷ rule ∷ from ∷ to ∷ weight ∷ end ∷ []

key_at : (k : Key) → get_or keys (rank k) end ≡ k
key_at k.Routers = refl
key_at k.Rule = refl
key_at k.From = refl
key_at k.To = refl
key_at k.Weight = refl
key_at k.End = refl

same_key_true : (j k : Key) → same_key j k ≡ true → j ≡ k
same_key_true j k e = sym (key_at j) ∙ ap (λ n. get_or keys n end) (eqb-true (rank j) (rank k) e) ∙ key_at k

-- ---- one line, both ways
line_more : (k : Key) (value more : List ℕ) → line_text k value ++ more ≡ spelling k ++ 61 ∷ (value ++ 10 ∷ more)
line_more k value more = simp append_assoc

left_onward : (s : Standing) → drop (moved (left s)) (left s) ≡ left (onward s)
left_onward s = drop-drop (moved (left s)) s.place s.text

-- the line counts as one
line_counts : (s : Standing) (x : Said) → next_said s ≡ Ok x → (onward s).line ≡ s.line + 1
line_counts s x e = ap (λ n. s.line + n) (ended (left s) s.line (told_ends (left s) s.line x (sym e)).0).2

-- the next line has this key and this value
pub record LineAt (s : Standing) (k : Key) (value : List ℕ) : Type 0 where
  pub bytes : left s ≡ line_text k value ++ left (onward s)
  pub next : (onward s).line ≡ s.line + 1

line_sound : (s : Standing) (x : Said) → next_said s ≡ Ok x → LineAt s x.kind x.value
line_sound s x e = record {
  bytes = told_bytes (left s) s.line x (sym e) ∙ sym (line_more x.kind x.value _) ∙ ap (λ t. line_text x.kind x.value ++ t) (left_onward s);
  next = line_counts s x e;
}

-- the line with this key and this value is read, and this is left behind it
pub record LineRead (s : Standing) (k : Key) (value more : List ℕ) : Type 0 where
  pub said : next_said s ≡ Ok (record { kind = k; key = spelling k; value = value; line = s.line })
  pub rest : left (onward s) ≡ more
  pub next : (onward s).line ≡ s.line + 1

pub line_complete : (s : Standing) (k : Key) (value more : List ℕ) → Lacks 10 value → left s ≡ line_text k value ++ more → LineRead s k value more
line_complete s k value more h e =
    let (told, rest) = line_told k value more (left s) s.line h (e ∙ line_more k value more) in
    record { said = told; rest = sym (left_onward s) ∙ rest; next = line_counts s _ told }

-- ---- a line that must have this key
line_under : (s : Standing) (k : Key) (x : Said) → next_said s ≡ Ok x → same_key k x.kind ≡ true → LineAt s k x.value
line_under s k x said same = subst (λ j. LineAt s j x.value) (sym (same_key_true k x.kind same)) (line_sound s x said)

abbrev under : {A : Type 0} → Key → (Said → Result A Fault) → Said → Result A Fault
under k f x = cond (same_key k x.kind) (f x) (Err (bad x.line))

under_sound : {A : Type 0} (k : Key) (f : Said → Result A Fault) (s : Standing) (a : A) → and_then (next_said s) (under k f) ≡ Ok a → (x : Said) × LineAt s k x.value × (f x ≡ Ok a)
under_sound k f s a e =
    let (x, said, e1) = and_then_ok (next_said s) (under k f) a e in
    let (same, is) = cond_ok (same_key k x.kind) (f x) (bad x.line) a e1 in
    (x, line_under s k x said same, is)

under_complete : {A : Type 0} (k : Key) (f : Said → Result A Fault) (s : Standing) (value more : List ℕ) → LineRead s k value more → and_then (next_said s) (under k f) ≡ f (record { kind = k; key = spelling k; value = value; line = s.line })
under_complete k f s value more r = ap (λ a. and_then a (under k f)) r.said ∙ cond-true _ _ _ (eq-eqb (rank k) (rank k) refl)

pub value_sound : (k : Key) (s : Standing) (value : List ℕ) → next_value k s ≡ Ok value → LineAt s k value
value_sound k s value e =
    let (x, at, is) = under_sound k (λ x. Ok x.value) s value e in
    let same : x.value ≡ value = cc in
    subst (LineAt s k) same at

pub value_complete : (k : Key) (s : Standing) (value more : List ℕ) → LineRead s k value more → next_value k s ≡ Ok value
value_complete k s value more r = under_complete k (λ x. Ok x.value) s value more r

-- ---- numbers
pub number_sound : (k : Key) (s : Standing) (n : ℕ) → next_number k s ≡ Ok n → LineAt s k (decimal n) × (n ≤ 4294967295)
number_sound k s n e =
    let (x, at, is) = under_sound k (λ x. number_on x.line (numeral x.value)) s n e in
    let reads = number_on_ok x.line (numeral x.value) n is in
    (subst (LineAt s k) ((reads_decimal x.value).written n reads) at, (reads_decimal x.value).bounded n reads)

-- digits are no byte 10
lacks_one : (b : ℕ) → 10 < b → Lacks 10 (b ∷ [])
lacks_one b h = omega (arith, before_on 10 b [] (λ e. omega arith), before_none 10)

pub lacks_decimal : (n : ℕ) → n ≤ 4294967295 → Lacks 10 (decimal n)
lacks_decimal n h =
    decimal_by_steps (λ m ds. Lacks 10 ds)
    (λ m small. lacks_one _ (omega arith))
    (λ m ds big front. lacks_append 10 ds _ front (lacks_one _ (omega arith)))
    n (omega arith)

read_back : (n : ℕ) → n ≤ 4294967295 → numeral (decimal n) ≡ Some n
read_back n h = (reads_decimal (decimal n)).read n h refl

pub number_complete : (k : Key) (s : Standing) (n : ℕ) (more : List ℕ) → n ≤ 4294967295 → LineRead s k (decimal n) more → next_number k s ≡ Ok n
number_complete k s n more h r = under_complete k (λ x. number_on x.line (numeral x.value)) s (decimal n) more r ∙ ap (number_on s.line) (read_back n h)

-- ---- the lines `to` and `weight` of a direction, behind a `from` with this number
record RestAt (a : ℕ) (s : Standing) (d : Direction) : Type 0 where
  from_is : d.from ≡ a
  to_line : LineAt s to (decimal d.to) × (d.to ≤ 4294967295)
  weight_line : LineAt (onward s) weight (decimal d.number) × (d.number ≤ 4294967295)
  on_line : d.line ≡ (onward s).line
  stands_at : (rest_read a s).standing ≡ onward (onward s)

rest_sound : (a : ℕ) (s : Standing) (d : Direction) → (rest_read a s).answer ≡ Ok d → RestAt a s d
rest_sound a s d e =
    let (b, to_is, more) = go_on_ok (next_number to s) (onward s) _ d e in
    let (w, weight_is, all) = go_on_ok (next_number weight (onward s)) (onward (onward s)) _ d (answer_along more e) in
    let read : Direction = record { from = a; to = b; number = w; line = (onward s).line } in
    let is : rest_read a s ≡ record { answer = Ok read; standing = onward (onward s) } = more ∙ all in
    let ok : ◌≡◌ {A = Result Direction Fault} (Ok read) (Ok d) = answer_along is e in
    let same : read ≡ d = cc in
    subst (RestAt a s) same
    (record { from_is = refl; to_line = number_sound to s b to_is; weight_line = number_sound weight (onward s) w weight_is; on_line = refl; stands_at = ap (λ (r : Reading Direction). r.standing) is })

-- ---- the line that begins a direction or ends the file
-- two tests and a fault behind them: without a fault, one of them held
two_ways : {A : Type 0} (t u : Bool) (p q : Reading A) (s : Standing) (f : Fault) (a : A) → (cond t p (cond u q (record { answer = Err f; standing = s }))).answer ≡ Ok a → ((t ≡ true) × (p.answer ≡ Ok a)) ⊎ ((u ≡ true) × (q.answer ≡ Ok a))
two_ways true u p q s f a e = inl (refl, e)
two_ways false true p q s f a e = inr (refl, e)
two_ways false false p q s f a e = absurd (never_err f a e)

module _ (x : Said) (s : Standing) where
  abbrev if_from : Reading (Option Direction)
  if_from = go_on (number_on x.line (numeral x.value)) s (λ a. one_direction (rest_read a s))

  abbrev if_end : Reading (Option Direction)
  if_end = record { answer = ending x.value x.line s; standing = s }

  begun_ok : (o : Option Direction) → (begun x s).answer ≡ Ok o → ((same_key from x.kind ≡ true) × (if_from.answer ≡ Ok o)) ⊎ ((same_key end x.kind ≡ true) × (if_end.answer ≡ Ok o))
  begun_ok o e = two_ways (same_key from x.kind) (same_key end x.kind) if_from if_end s (bad x.line) o e

  -- a direction is read to its end
  if_from_ok : (o : Option Direction) → if_from.answer ≡ Ok o → (a : ℕ) × (d : Direction) × (numeral x.value ≡ Some a) × ((rest_read a s).answer ≡ Ok d) × (if_from ≡ record { answer = Ok (Some d); standing = (rest_read a s).standing })
  if_from_ok o e =
      let (a, number, is) = go_on_ok (number_on x.line (numeral x.value)) s (λ a. one_direction (rest_read a s)) o e in
      let (d, rest, all) = go_on_ok (rest_read a s).answer (rest_read a s).standing (λ d. record { answer = Ok (Some d); standing = (rest_read a s).standing }) o (answer_along is e) in
      (a, d, number_on_ok x.line (numeral x.value) a number, rest, is ∙ all)

  -- the file ends with `links`, and nothing is left
  if_end_ok : (o : Option Direction) → if_end.answer ≡ Ok o → (x.value ≡ codes "links") × (done s ≡ true) × (o ≡ None)
  if_end_ok o e =
      let (links, more) = cond_ok (bytes_eq x.value (codes "links")) _ (bad x.line) o e in
      let (last, is) = cond_ok (done s) (Ok None) (bad s.line) o more in
      ((bytes_eq-Decides x.value (codes "links")).0 links, last, cc)

-- ---- one direction, both ways
direction_more : (d : Direction) (more : List ℕ) → direction_text d ++ more ≡ line_text from (decimal d.from) ++ (line_text to (decimal d.to) ++ (line_text weight (decimal d.number) ++ more))
direction_more d more =
    let rest = line_text to (decimal d.to) ++ line_text weight (decimal d.number) in
    append_assoc (line_text from (decimal d.from)) rest more
    ∙ ap (λ t. line_text from (decimal d.from) ++ t) (append_assoc (line_text to (decimal d.to)) (line_text weight (decimal d.number)) more)

-- the next lines are those of this direction
record DirectionAt (s : Standing) (d : Direction) : Type 0 where
  bytes : left s ≡ direction_text d ++ left (direction_read s).standing
  fits : FitsAt s.line d
  next : (direction_read s).standing.line ≡ s.line + 3

-- a first line and a rest make a direction
direction_made : (s : Standing) (a : ℕ) (d : Direction) → LineAt s from (decimal a) → a ≤ 4294967295 → RestAt a (onward s) d → (direction_read s).standing ≡ (rest_read a (onward s)).standing → DirectionAt s d
direction_made s a d first fits rest stands =
    let third = onward (onward (onward s)) in
    let here : (direction_read s).standing ≡ third = stands ∙ rest.stands_at in
    let behind = rest.to_line.0.bytes ∙ ap (λ t. line_text to (decimal d.to) ++ t) rest.weight_line.0.bytes in
    record {
      bytes = first.bytes
          ∙ ap (λ n. line_text from (decimal n) ++ left (onward s)) (sym rest.from_is)
          ∙ ap (λ t. line_text from (decimal d.from) ++ t) behind
          ∙ sym (direction_more d (left third))
          ∙ ap (λ z. direction_text d ++ left z) (sym here);
      fits = record {
        from_fits = omega (arith, rest.from_is);
        to_fits = rest.to_line.1;
        number_fits = rest.weight_line.1;
        on_line = omega (arith, rest.on_line, first.next, rest.to_line.0.next);
      };
      next = omega (arith, ap (λ (z : Standing). z.line) here, first.next, rest.to_line.0.next, rest.weight_line.0.next);
    }

direction_sound : (s : Standing) (d : Direction) → (direction_read s).answer ≡ Ok (Some d) → DirectionAt s d
direction_sound s d e =
    let (x, said, is) = go_on_ok (next_said s) (onward s) (λ first. begun first (onward s)) (Some d) e in
    ⊎_elim
    (λ w.
    let (a, read, number, rest, all) = if_from_ok x (onward s) (Some d) w.1 in
    let whole = is ∙ cond-true (same_key from x.kind) _ _ w.0 ∙ all in
    let ok : ◌≡◌ {A = Result (Option Direction) Fault} (Ok (Some read)) (Ok (Some d)) = answer_along whole e in
    let same : read ≡ d = cc in
    let reads = reads_decimal x.value in
    direction_made s a d
    (subst (LineAt s from) (reads.written a number) (line_under s from x said w.0))
    (reads.bounded a number)
    (rest_sound a (onward s) d (rest ∙ ap Ok same))
    (ap (λ (r : Reading (Option Direction)). r.standing) whole))
    (λ w. let none = (if_end_ok x (onward s) (Some d) w.1).2 in let z : ◌≡◌ {A = ℕ} 0 1 = cc in absurd (omega arith))
    (begun_ok x (onward s) (Some d) (answer_along is e))

-- the last line ends the text
end_sound : (s : Standing) → (direction_read s).answer ≡ Ok None → left s ≡ line_text end (codes "links")
end_sound s e =
    let (x, said, is) = go_on_ok (next_said s) (onward s) (λ first. begun first (onward s)) None e in
    ⊎_elim
    (λ w.
    let (a, read, number, rest, all) = if_from_ok x (onward s) None w.1 in
    let ok : ◌≡◌ {A = Result (Option Direction) Fault} (Ok (Some read)) (Ok None) = answer_along all w.1 in
    let z : ◌≡◌ {A = ℕ} 0 1 = cc in absurd (omega arith))
    (λ w.
    let (links, last, none) = if_end_ok x (onward s) None w.1 in
    let nothing : left (onward s) ≡ [] = drop_all (onward s).place s.text (omega (arith, eqb-true (onward s).place (length s.text) last)) in
    (line_under s end x said w.0).bytes ∙ (λ i. line_text end (links i) ++ nothing i))
    (begun_ok x (onward s) None (answer_along is e))

-- the rest of a direction by what its two lines say
rest_by : (a : ℕ) (s : Standing) → Result ℕ Fault → Result ℕ Fault → Reading Direction
rest_by a s t w = go_on t (onward s) (λ b. go_on w (onward (onward s)) (λ n. record { answer = Ok (record { from = a; to = b; number = n; line = (onward s).line }); standing = onward (onward s) }))

rest_complete : (s : Standing) (d : Direction) → next_number to s ≡ Ok d.to → next_number weight (onward s) ≡ Ok d.number → (onward s).line ≡ d.line → rest_read d.from s ≡ record { answer = Ok d; standing = onward (onward s) }
unfolding rest_by
rest_complete s d t w on =
    let both : rest_read d.from s ≡ rest_by d.from s (Ok d.to) (Ok d.number) = λ i. rest_by d.from s (t i) (w i) in
    both ∙ (λ i. record { answer = Ok (record { from = d.from; to = d.to; number = d.number; line = on i }); standing = onward (onward s) })

-- a direction that is written is read
record DirectionDone (s : Standing) (d : Direction) (more : List ℕ) : Type 0 where
  answer : Ok (Some d) ≡ (direction_read s).answer
  rest : left (direction_read s).standing ≡ more
  next : (direction_read s).standing.line ≡ s.line + 3

direction_complete : (s : Standing) (d : Direction) (more : List ℕ) → FitsAt s.line d → left s ≡ direction_text d ++ more → DirectionDone s d more
unfolding read_by
direction_complete s d more fits e =
    let one = line_complete s from (decimal d.from) _ (lacks_decimal d.from fits.from_fits) (e ∙ direction_more d more) in
    let two = line_complete (onward s) to (decimal d.to) _ (lacks_decimal d.to fits.to_fits) one.rest in
    let three = line_complete (onward (onward s)) weight (decimal d.number) more (lacks_decimal d.number fits.number_fits) two.rest in
    let rest = rest_complete (onward s) d (number_complete to (onward s) d.to _ fits.to_fits two) (number_complete weight (onward (onward s)) d.number more fits.number_fits three) (omega (arith, one.next, two.next)) in
    let is : direction_read s ≡ record { answer = Ok (Some d); standing = onward (onward (onward s)) } =
    ap (read_by s) one.said
    ∙ ap (λ o. go_on (number_on s.line o) (onward s) (λ a. one_direction (rest_read a (onward s)))) (read_back d.from fits.from_fits)
    ∙ ap one_direction rest in
    record {
      answer = ap (λ (r : Reading (Option Direction)). r.answer) (sym is);
      rest = ap (λ (r : Reading (Option Direction)). left r.standing) is ∙ three.rest;
      next = omega (arith, ap (λ (r : Reading (Option Direction)). r.standing.line) is, one.next, two.next, three.next);
    }

-- the last line that is written is read, and nothing is left
end_complete : (s : Standing) → left s ≡ line_text end (codes "links") → Ok None ≡ (direction_read s).answer
unfolding before read_by
end_complete s e =
    let one = line_complete s end (codes "links") [] refl e in
    let last : done (onward s) ≡ true = eq-eqb (onward s).place (length s.text) (omega (arith, ap length e, ap moved e, length-drop s.place s.text)) in
    sym (ap (λ r. (read_by s r).answer) one.said ∙ cond-true (done (onward s)) _ _ last)

-- ---- the directions in turn, both ways
-- what is left of the text is these directions
abbrev ListedAt : Standing → List Direction → Type 0
ListedAt s ds = (left s ≡ links_text ds) × Numbered s.line ds

abbrev SoundAt : Standing → Type 0
SoundAt s = (list_all s).ended ≡ Ok tt → ListedAt s (list_all s).directions

-- one direction, by what is known of those behind it
sound_step : (s : Standing) → ((d : Direction) → (direction_read s).answer ≡ Ok (Some d) → SoundAt (direction_read s).standing) → (a : Result (Option Direction) Fault) → a ≡ (direction_read s).answer → SoundAt s
unfolding links_text
sound_step s more (Ok (Some d)) e h =
    let all = list_all_some s d e in
    let one = direction_sound s d (sym e) in
    let (bytes, numbered) = more d (sym e) (sym (ap (λ (l : Listing). l.ended) all) ∙ h) in
    subst (ListedAt s) (sym (ap (λ (l : Listing). l.directions) all))
    (one.bytes ∙ ap (λ t. direction_text d ++ t) bytes, (one.fits, subst (λ n. Numbered n (list_all (direction_read s).standing).directions) one.next numbered))
sound_step s more (Ok None) e h = subst (ListedAt s) (sym (ap (λ (l : Listing). l.directions) (list_all_none s e))) (end_sound s (sym e), tt)
sound_step s more (Err f) e h = absurd (never_err f tt (sym (ap (λ (l : Listing). l.ended) (list_all_err s f e)) ∙ h))

sound_by : (k : ℕ) (s : Standing) → length (left s) < k → SoundAt s
sound_by zero s l = absurd (omega arith)
sound_by (suc k) s l = sound_step s (λ d is. sound_by k (direction_read s).standing (omega (arith, direction_less s d is))) (direction_read s).answer refl

pub listed_sound : (s : Standing) → (list_all s).ended ≡ Ok tt → (left s ≡ links_text (list_all s).directions) × Numbered s.line (list_all s).directions
listed_sound s e = sound_by (suc (length (left s))) s (omega arith) e

pub listed_complete : (s : Standing) (ds : List Direction) → left s ≡ links_text ds → Numbered s.line ds → list_all s ≡ record { directions = ds; ended = Ok tt }
unfolding links_text
listed_complete s [] e fits = list_all_none s (end_complete s e)
listed_complete s (d ∷ ds) e fits =
    let one = direction_complete s d (links_text ds) fits.0 e in
    let more = listed_complete (direction_read s).standing ds one.rest (subst (λ n. Numbered n ds) (sym one.next) fits.1) in
    list_all_some s d one.answer ∙ (λ i. record { directions = d ∷ (more i).directions; ended = (more i).ended })
