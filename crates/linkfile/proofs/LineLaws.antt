-- Laws of the lines.
use Rattle.std.proofs.Common.{◌≡◌, ℕ, suc, ◌+◌, ◌≤◌, eqb, List, [], ◌∷◌, ◌++◌, length, get_or, take, drop, Some, None, Ok, Err, Option, Result, sym, refl, ap, ◌∙◌, subst, ⊎_elim, append_assoc, add-one, arith, length-append, Bor, cond, ltb, ltb-false}
use Rattle.std.specs.List.{position_or_len}
use Rattle.std.specs.Option.{unwrap_or}
use Rattle.std.proofs.lemmas.List.{take_at, drop_at, drop_more}
use Rattle.std.proofs.lemmas.List.Recursion.{is_position_or_len}
use Rattle.std.proofs.lemmas.Bool.{eq-eqb, ne_eqb, eqb-true, cases_Bool, cases_eq, cond-true, cond-false, cond_both}
use Rattle.faults.specs.declared.fault.Fault.{Fault}
use Rattle.linkfile.specs.declared.line.Key.{Key}
use Rattle.linkfile.specs.declared.line.Key.TheVariants as k
use Rattle.linkfile.specs.declared.line.Line.{Line}
use Rattle.linkfile.specs.declared.line.Line.TheVariants.{Routers, Rule, From, To, Weight, End}
use Rattle.linkfile.specs.Lines.{routers, rule, from, to, weight, end, spelling, Said, bad, valued, keyed, behind, apart, before, told, moved, counted, Lies, Lie, Parts, AnswerParts}

-- ---- the first byte b
pub before_here : (b x : ℕ) (text : List ℕ) → x ≡ b → before b (x ∷ text) ≡ 0
unfolding before
before_here b x text e = cond-true (eqb x b) _ _ (eq-eqb x b e)

pub before_on : (b x : ℕ) (text : List ℕ) → (x ≡ b → ⊥) → before b (x ∷ text) ≡ before b text + 1
unfolding before
before_on b x text e = cond-false (eqb x b) _ _ (ne_eqb x b e) ∙ sym (add-one (before b text))

pub before_none : (b : ℕ) → before b [] ≡ 0
unfolding before
before_none b = refl

pub before_le : (b : ℕ) (text : List ℕ) → before b text ≤ length text
unfolding before
before_le b [] = omega arith
before_le b (x ∷ text) = let ih = before_le b text in cond_both (eqb x b) 0 (suc (before b text)) (λ n. n ≤ suc (length text)) (λ _. omega arith) (λ _. omega arith)

before_position : (b : ℕ) (text : List ℕ) → before b text ≡ position_or_len (λ x. eqb x b) text
unfolding before
before_position b = is_position_or_len (before b) (λ x. eqb x b) refl (λ x xs. ap (cond (eqb x b) 0) (omega arith))

-- the place that a search for the byte tells, or the length
pub found : (b : ℕ) (text : List ℕ) (place : Option ℕ) → place ≡ cond (ltb (position_or_len (λ x. eqb x b) text) (length text)) (Some (position_or_len (λ x. eqb x b) text)) None → unwrap_or place (length text) ≡ before b text
found b text place e =
    let at = position_or_len (λ x. eqb x b) text in
    let is = before_position b text in
    ap (λ p. unwrap_or p (length text)) e
    ∙ ⊎_elim
    (λ h. ap (λ p. unwrap_or p (length text)) (cond-true (ltb at (length text)) _ _ h) ∙ sym is)
    (λ h. ap (λ p. unwrap_or p (length text)) (cond-false (ltb at (length text)) _ _ h) ∙ omega (arith, is, before_le b text, ltb-false))
    (cases_Bool (ltb at (length text)))

-- ---- the first line of a text
module _ (text : List ℕ) (line : ℕ) where
  pub unended : before 10 text ≡ length text → (told text line ≡ Err (bad line)) × (moved text ≡ 0) × (counted text ≡ 0)
  unended e = let t = eq-eqb (before 10 text) (length text) e in (cond-true _ _ _ t, cond-true _ _ _ t, cond-true _ _ _ t)

  pub ended : (before 10 text ≡ length text → ⊥) → (told text line ≡ apart (take (before 10 text) text) line) × (moved text ≡ before 10 text + 1) × (counted text ≡ 1)
  ended e = let t = ne_eqb (before 10 text) (length text) e in (cond-false _ _ _ t, cond-false _ _ _ t, cond-false _ _ _ t)

-- ---- parts of a part are parts of the text
lie_moved : (text body key value : Bor (List ℕ)) (place : ℕ) → Lies text body place → Lie body 0 key value → Lie text place key value
lie_moved text body key value place b l = record {
  key_lies = record { block = l.key_lies.block ∙ b.block; offset = omega (arith, l.key_lies.offset, b.offset) };
  value_lies = record { block = l.value_lies.block ∙ b.block; offset = omega (arith, l.value_lies.offset, b.offset) };
}

parts_moved : (text body : Bor (List ℕ)) (place : ℕ) → Lies text body place → (l : Line) → Parts body 0 l → Parts text place l
parts_moved text body place b (Routers key value line) p = lie_moved text body key value place b p
parts_moved text body place b (Rule key value line) p = lie_moved text body key value place b p
parts_moved text body place b (From key value line) p = lie_moved text body key value place b p
parts_moved text body place b (To key value line) p = lie_moved text body key value place b p
parts_moved text body place b (Weight key value line) p = lie_moved text body key value place b p
parts_moved text body place b (End key value line) p = lie_moved text body key value place b p

pub answer_parts_moved : (text body : Bor (List ℕ)) (place : ℕ) → Lies text body place → (r : Result Line Fault) → AnswerParts body 0 r → AnswerParts text place r
answer_parts_moved text body place b (Ok l) p = parts_moved text body place b l p
answer_parts_moved text body place b (Err f) p = tt

-- ---- a line that is taken apart is its key, the byte `=` and its value
behind_is : (key body value : List ℕ) → behind key body ≡ Some value → body ≡ key ++ value
behind_is [] body value e = cc
behind_is (k ∷ key) [] value e = let z : ◌≡◌ {A = ℕ} 0 1 = cc in absurd (omega arith)
behind_is (k ∷ key) (b ∷ body) value e =
    ⊎_elim
    (λ h. λ i. eqb-true b k h i ∷ behind_is key body value (sym (cond-true (eqb b k) _ _ h) ∙ e) i)
    (λ h. let z : ◌≡◌ {A = Option (List ℕ)} (Some value) None = sym e ∙ cond-false (eqb b k) _ _ h in let y : ◌≡◌ {A = ℕ} 0 1 = cc in absurd (omega arith))
    (cases_Bool (eqb b k))

-- ---- the bytes that a slice pattern names
-- the bytes of the key stand in the line, from place n on
abbrev pub Front : List ℕ → ℕ → List ℕ → Type 0
Front [] n body = Unit {0}
Front (k ∷ key) n body = (get_or body n 0 ≡ k) × Front key (suc n) body

pub front_is : (key : List ℕ) (n : ℕ) (body : List ℕ) → n + length key ≤ length body → Front key n body → drop n body ≡ key ++ drop (n + length key) body
front_is [] n body l f = ap (λ m. drop m body) (omega arith)
front_is (k ∷ key) n body l f =
    simp add-one at (drop_more body n 0 (omega arith))
    ∙ ap (λ x. x ∷ drop (suc n) body) f.0
    ∙ ap (λ t. k ∷ t) (front_is key (suc n) body (omega arith) f.1 ∙ ap (λ m. key ++ drop m body) (omega arith))

front_on : (key : List ℕ) (n b : ℕ) (body : List ℕ) → Front key n body → Front key (suc n) (b ∷ body)
front_on [] n b body f = tt
front_on (k ∷ key) n b body f = (f.0, front_on key (suc n) b body f.1)

-- a line that a pattern of these bytes does not match
pub not_behind : (key body : List ℕ) → (length key ≤ length body → Front key 0 body → ⊥) → behind key body ≡ None
not_behind [] body h = absurd (h (omega arith) tt)
not_behind (k ∷ key) [] h = refl
not_behind (k ∷ key) (b ∷ body) h =
    ⊎_elim
    (λ t. cond-true (eqb b k) _ _ t ∙ not_behind key body (λ l f. h (omega arith) (eqb-true b k t, front_on key 0 b body f)))
    (λ t. cond-false (eqb b k) _ _ t)
    (cases_Bool (eqb b k))

pub record Spelt (body : List ℕ) (line : ℕ) (s : Said) : Type 0 where
  pub bytes : body ≡ spelling s.kind ++ 61 ∷ s.value
  pub key_is : s.key ≡ spelling s.kind
  pub line_is : s.line ≡ line

abbrev AnswerSpelt : List ℕ → ℕ → Result Said Fault → Type 0
AnswerSpelt body line (Ok s) = Spelt body line s
AnswerSpelt body line (Err f) = Unit {0}

valued_spelt : (k : Key) (body : List ℕ) (line : ℕ) (o : Option (List ℕ)) (other : Result Said Fault) → behind (spelling k ++ 61 ∷ []) body ≡ o → AnswerSpelt body line other → AnswerSpelt body line (valued k line o other)
valued_spelt k body line (Some value) other e h = record { bytes = behind_is (spelling k ++ 61 ∷ []) body value e ∙ append_assoc (spelling k) (61 ∷ []) value; key_is = refl; line_is = refl }
valued_spelt k body line None other e h = h

keyed_spelt : (ks : List Key) (body : List ℕ) (line : ℕ) → AnswerSpelt body line (keyed ks body line)
keyed_spelt [] body line = tt
keyed_spelt (k ∷ ks) body line = valued_spelt k body line (behind (spelling k ++ 61 ∷ []) body) (keyed ks body line) refl (keyed_spelt ks body line)

pub apart_spelt : (body : List ℕ) (line : ℕ) (s : Said) → Ok s ≡ apart body line → Spelt body line s
apart_spelt body line s e = subst (AnswerSpelt body line) (sym e) (keyed_spelt (routers ∷ rule ∷ from ∷ to ∷ weight ∷ end ∷ []) body line)

-- a line that was told is ended
pub told_ends : (text : List ℕ) (line : ℕ) (s : Said) → Ok s ≡ told text line → (before 10 text ≡ length text → ⊥) × (Ok s ≡ apart (take (before 10 text) text) line)
told_ends text line s e =
    ⊎_elim
    (λ u. let z : ◌≡◌ {A = Result Said Fault} (Ok s) (Err (bad line)) = e ∙ (unended text line u).0 in let y : ◌≡◌ {A = ℕ} 0 1 = cc in absurd (omega arith))
    (λ u. (u, e ∙ (ended text line u).0))
    (cases_eq (before 10 text) (length text))

pub told_spelt : (text : List ℕ) (line : ℕ) (s : Said) → Ok s ≡ told text line → Spelt (take (before 10 text) text) line s
told_spelt text line s e = apart_spelt (take (before 10 text) text) line s (told_ends text line s e).1

-- ---- a text with no byte b, and a text up to its first one
abbrev pub Lacks : ℕ → List ℕ → Type 0
Lacks b text = before b text ≡ length text

before_append : (b : ℕ) (text more : List ℕ) → Lacks b text → before b (text ++ more) ≡ length text + before b more
before_append b [] more h = omega arith
before_append b (x ∷ text) more h =
    ⊎_elim
    (λ e. absurd (omega (arith, before_here b x text e)))
    (λ ne. let ih = before_append b text more (omega (arith, before_on b x text ne)) in omega (arith, before_on b x (text ++ more) ne))
    (cases_eq x b)

pub lacks_append : (b : ℕ) (text more : List ℕ) → Lacks b text → Lacks b more → Lacks b (text ++ more)
lacks_append b text more h i = omega (arith, before_append b text more h, length-append text more)

before_splits : (b : ℕ) (text : List ℕ) → (Lacks b text → ⊥) → text ≡ take (before b text) text ++ b ∷ drop (before b text + 1) text
before_splits b [] h = absurd (h (before_none b))
before_splits b (x ∷ text) h =
    ⊎_elim
    (λ e. rw (before_here b x text e) (ap (λ y. y ∷ text) e))
    (λ ne. let on = before_on b x text ne in simp (on, add-one) (ap (λ t. x ∷ t) (simp add-one at (before_splits b text (λ l. h (omega arith))))))
    (cases_eq x b)

-- ---- a line that was told stands at the front of the text
pub told_bytes : (text : List ℕ) (line : ℕ) (s : Said) → Ok s ≡ told text line → text ≡ spelling s.kind ++ 61 ∷ (s.value ++ 10 ∷ drop (moved text) text)
told_bytes text line s e =
    let u = (told_ends text line s e).0 in
    let rest = λ (n : ℕ). 10 ∷ drop n text in
    before_splits 10 text u
    ∙ ap (λ t. t ++ rest (before 10 text + 1)) (told_spelt text line s e).bytes
    ∙ append_assoc (spelling s.kind) (61 ∷ s.value) (rest (before 10 text + 1))
    ∙ ap (λ n. spelling s.kind ++ 61 ∷ (s.value ++ rest n)) (sym (ended text line u).1)

-- a line that stands there is told
lacks_key : (k : Key) → Lacks 10 (spelling k ++ 61 ∷ [])
unfolding before
lacks_key k.Routers = refl
lacks_key k.Rule = refl
lacks_key k.From = refl
lacks_key k.To = refl
lacks_key k.Weight = refl
lacks_key k.End = refl

apart_line : (k : Key) (value : List ℕ) (line : ℕ) → apart (spelling k ++ 61 ∷ value) line ≡ Ok (record { kind = k; key = spelling k; value = value; line = line })
apart_line k.Routers value line = refl
apart_line k.Rule value line = refl
apart_line k.From value line = refl
apart_line k.To value line = refl
apart_line k.Weight value line = refl
apart_line k.End value line = refl

told_body : (body more : List ℕ) (line : ℕ) → Lacks 10 body → (told (body ++ 10 ∷ more) line ≡ apart body line) × (drop (moved (body ++ 10 ∷ more)) (body ++ 10 ∷ more) ≡ more)
told_body body more line h =
    let text = body ++ 10 ∷ more in
    let n : before 10 text ≡ length body = omega (arith, before_append 10 body (10 ∷ more) h, before_here 10 10 more refl) in
    let (answer, place, count) = ended text line (λ e. omega (arith, length-append body (10 ∷ more))) in
    let past : moved text ≡ length (body ++ 10 ∷ []) = omega (arith, length-append body (10 ∷ [])) in (
      answer ∙ ap (λ j. apart (take j text) line) n ∙ ap (λ b. apart b line) (take_at body (10 ∷ more) (length body) refl),
      ap (λ j. drop j text) past ∙ simp append_assoc at (drop_at (body ++ 10 ∷ []) more (length (body ++ 10 ∷ [])) refl),
    )

pub line_told : (k : Key) (value more text : List ℕ) (line : ℕ) → Lacks 10 value → text ≡ spelling k ++ 61 ∷ (value ++ 10 ∷ more) → (told text line ≡ Ok (record { kind = k; key = spelling k; value = value; line = line })) × (drop (moved text) text ≡ more)
line_told k value more text line h e =
    let body = spelling k ++ 61 ∷ value in
    let clean : Lacks 10 body = subst (Lacks 10) (append_assoc (spelling k) (61 ∷ []) value) (lacks_append 10 (spelling k ++ 61 ∷ []) value (lacks_key k) h) in
    let is : text ≡ body ++ 10 ∷ more = e ∙ sym (append_assoc (spelling k) (61 ∷ value) (10 ∷ more)) in
    let (answer, rest) = told_body body more line clean in
    (ap (λ t. told t line) is ∙ answer ∙ apart_line k value line, ap (λ t. drop (moved t) t) is ∙ rest)
