use Rattle.std.proofs.Common.{◌≡◌, ℕ, ◌+◌, ◌-◌, ◌<◌, List, length, take, drop, Err, sym, refl, ap, ◌∙◌, arith, length-drop}
use Rattle.std.proofs.lemmas.List.{take_rest}
use Rattle.linkfile.specs.Lines.{before, apart, moved, counted}
use Rattle.linkfile.specs.Reading.{Standing}
use Rattle.linkfile.proofs.LineLaws.{before_le, unended, ended, answer_parts_moved}
use Rattle.linkfile.proofs.reader.Reader.next_line.Goals as goal

-- where the reader stands, field by field
stood : (text : List ℕ) (at line : ℕ) (rest : List ℕ) (place next : ℕ) → place ≡ at + moved rest → next ≡ line + counted rest → ◌≡◌ {A = Standing} (record { text = text; place = place; line = next }) (record { text = text; place = at + moved rest; line = line + counted rest })
stood text at line rest place next p l = λ i. record { text = text; place = p i; line = l i }

pub returns-then-len-rest : goal.returns-then-len-rest
returns-then-len-rest c =
    let reader = c.args.self.now in
    let text = reader.text.now in
    let same = take_rest text reader.at in
    let (answer, place, count) = unended (drop reader.at text) reader.line (sym (c.find-len.ensures.place ∙ ap (before 10) same) ∙ c.if-len-rest.true ∙ ap length same) in
    record {
      answer = ap Err c.bad_line.ensures ∙ sym answer;
      text = refl;
      parts = tt;
      reader = stood text reader.at reader.line (drop reader.at text) _ _ (omega (arith, place)) (omega (arith, count));
    }

-- the line's byte 10 stands within the text
ends_inside : (c : goal.Else-len-rest) → c.args.self.now.at + c.find-len.result < length c.args.self.now.text.now
ends_inside c =
    let text = c.args.self.now.text.now in
    let at = c.args.self.now.at in
    let same = take_rest text at in
    let n = c.find-len.ensures.place ∙ ap (before 10) same in
    let ne : c.find-len.result ≡ length (drop at text) → ⊥ = λ e. c.if-len-rest.false (e ∙ sym (ap length same)) in
    omega (arith, n, ne, before_le 10 (drop at text), length-drop at text, c.args.self.now.inside)

pub overflow_add-self : goal.overflow_add-self
overflow_add-self c = omega (arith, ends_inside c)

pub overflow_add-self-2 : goal.overflow_add-self-2
overflow_add-self-2 c = omega (arith, ends_inside c)

pub invariant_of-self : goal.invariant_of-self
invariant_of-self c = record { inside = omega (arith, ends_inside c); lines = omega (arith, c.args.self.now.lines) }

pub returns : goal.returns
returns c =
    let text = c.args.self.now.text in
    let at = c.args.self.now.at in
    let line = c.args.self.now.line in
    let same = take_rest text.now at in
    let rest = drop at text.now in
    let n = c.find-len.ensures.place ∙ ap (before 10) same in
    let more = ended rest line (λ e. c.if-len-rest.false (n ∙ e ∙ sym (ap length same))) in
    let body : take c.find-len.result (take (length text.now - at) rest) ≡ take (before 10 rest) rest = λ i. take (n i) (same i) in
    record {
      answer = c.take_apart.ensures.answer ∙ ap (λ b. apart b line) body ∙ sym more.0;
      text = refl;
      parts = answer_parts_moved text _ at (record { block = refl; offset = omega arith }) c.take_apart.result c.take_apart.ensures.parts;
      reader = stood text.now at line rest _ _ (omega (arith, more.1, n)) (omega (arith, more.2));
    }
