-- The summary is granted exactly of what is written as a link file.
use Rattle.std.proofs.Common.{◌≡◌, ℕ, Bool, true, false, cond, ◌⊎◌, List, ◌++◌, Some, None, Ok, decimal, Option, Result, sym, refl, ap, ◌∙◌, subst, inl, inr, ⊎_elim, arith}
use Rattle.std.proofs.lemmas.Slice.Eq.{bytes_eq-Decides}
use Rattle.std.specs.Str.{bytes_eq}
use Rattle.faults.specs.declared.fault.Fault.{Fault}
use Rattle.linkfile.specs.Lines.{routers, rule, bad, before}
use Rattle.linkfile.specs.Reading.{Standing, start, onward}
use Rattle.linkfile.proofs.LineLaws.{Lacks}
use Rattle.directions.specs.Directions.{and_then, next_value, next_number}
use Rattle.directions.specs.Files.{list_all}
use Rattle.directions.specs.Written.{line_text, links_text, Numbered}
use Rattle.directions.proofs.WrittenLaws.{never_err, and_then_ok, LineAt, LineRead, line_complete, value_sound, value_complete, number_sound, number_complete, lacks_decimal, listed_sound, listed_complete}
use Rattle.summary.specs.declared.names.RuleName.{RuleName}
use Rattle.summary.specs.declared.names.RuleName.TheVariants.{Sum, HopsWidth}
use Rattle.summary.specs.declared.outcome.Summary.{Summary}
use Rattle.summary.specs.Rules.{spelt, named}
use Rattle.summary.specs.Summaries.{rule_on, next_rule, how_many, summary, IsFile, GrantedExactly}

-- ---- the names of the rules, both ways
named_by : (t u : Bool) (r : RuleName) → cond t (Some Sum) (cond u (Some HopsWidth) None) ≡ Some r → ((t ≡ true) × (Sum ≡ r)) ⊎ ((u ≡ true) × (HopsWidth ≡ r))
named_by true u r e = inl (refl, cc)
named_by false true r e = inr (refl, cc)
named_by false false r e = let z : ◌≡◌ {A = ℕ} 0 1 = cc in absurd (omega arith)

named_sound : (name : List ℕ) (r : RuleName) → named name ≡ Some r → name ≡ spelt r
named_sound name r e =
    ⊎_elim
    (λ w. (bytes_eq-Decides name (spelt Sum)).0 w.0 ∙ ap spelt w.1)
    (λ w. (bytes_eq-Decides name (spelt HopsWidth)).0 w.0 ∙ ap spelt w.1)
    (named_by (bytes_eq name (spelt Sum)) (bytes_eq name (spelt HopsWidth)) r e)

named_spelt : (r : RuleName) → named (spelt r) ≡ Some r
named_spelt Sum = refl
named_spelt HopsWidth = refl

lacks_spelt : (r : RuleName) → Lacks 10 (spelt r)
unfolding before
lacks_spelt Sum = refl
lacks_spelt HopsWidth = refl

rule_on_ok : (line : ℕ) (o : Option RuleName) (r : RuleName) → rule_on line o ≡ Ok r → o ≡ Some r
rule_on_ok line (Some q) r e = cc
rule_on_ok line None r e = absurd (never_err (bad line) r e)

-- ---- the line of the rule, both ways
rule_sound : (s : Standing) (r : RuleName) → next_rule s ≡ Ok r → LineAt s rule (spelt r)
rule_sound s r e =
    let (name, value, on) = and_then_ok (next_value rule s) (λ name. rule_on s.line (named name)) r e in
    subst (LineAt s rule) (named_sound name r (rule_on_ok s.line (named name) r on)) (value_sound rule s name value)

rule_complete : (s : Standing) (r : RuleName) (more : List ℕ) → LineRead s rule (spelt r) more → next_rule s ≡ Ok r
rule_complete s r more h =
    ap (λ v. and_then v (λ name. rule_on s.line (named name))) (value_complete rule s (spelt r) more h) ∙ ap (rule_on s.line) (named_spelt r)

-- ---- the whole file, both ways
-- the summary by what its parts say
summary_by : Result ℕ Fault → Result RuleName Fault → Result ℕ Fault → Result Summary Fault
summary_by c n m = and_then c (λ count. and_then n (λ name. and_then m (λ many. Ok (record { routers = count; rule = name; directions = many }))))

module _ (text : List ℕ) where
  abbrev second : Standing
  second = onward (start text)

  abbrev third : Standing
  third = onward second

  file_sound : (s : Summary) → summary text ≡ Ok s → IsFile text s
  file_sound s e =
      let (count, c, e1) = and_then_ok (next_number routers (start text)) _ s e in
      let (name, n, e2) = and_then_ok (next_rule second) _ s e1 in
      let (many, m, e3) = and_then_ok (how_many (list_all third)) _ s e2 in
      let (unit, well, counts) = and_then_ok (list_all third).ended _ many m in
      let (one, small) = number_sound routers (start text) count c in
      let two = rule_sound second name n in
      let (rest, lines) = listed_sound third well in
      let on : third.line ≡ 3 = omega (arith, one.next, two.next) in
      let same : ◌≡◌ {A = Summary} (record { routers = count; rule = name; directions = many }) s = cc in
      subst (IsFile text) same
      (record {
        list = (list_all third).directions;
        bytes = one.bytes ∙ ap (λ t. line_text routers (decimal count) ++ t) (two.bytes ∙ ap (λ t. line_text rule (spelt name) ++ t) rest);
        fits = small;
        numbered = subst (λ k. Numbered k (list_all third).directions) on lines;
        counted = cc;
      })

  file_complete : (s : Summary) → IsFile text s → summary text ≡ Ok s
  unfolding summary_by
  file_complete s f =
      let one = line_complete (start text) routers (decimal s.routers) _ (lacks_decimal s.routers f.fits) f.bytes in
      let two = line_complete second rule (spelt s.rule) (links_text f.list) (lacks_spelt s.rule) one.rest in
      let on : 3 ≡ third.line = omega (arith, one.next, two.next) in
      let all = listed_complete third f.list two.rest (subst (λ k. Numbered k f.list) on f.numbered) in
      let c = number_complete routers (start text) s.routers _ f.fits one in
      let n = rule_complete second s.rule (links_text f.list) two in
      let m : how_many (list_all third) ≡ Ok s.directions = ap how_many all ∙ ap Ok f.counted in
      λ i. summary_by (c i) (n i) (m i)

pub granted_exactly : (text : List ℕ) → GrantedExactly text (summary text)
granted_exactly text = record { granted = file_sound text; files = file_complete text }

-- an answer that is the summary is granted exactly
pub exactly : (text : List ℕ) (r : Result Summary Fault) → r ≡ summary text → GrantedExactly text r
exactly text r is = subst (GrantedExactly text) (sym is) (granted_exactly text)
