-- A load goes to its end exactly on link files.
use Rattle.std.proofs.Common.{◌≡◌, ℕ, ◌≤◌, Bool, true, false, cond, ◌&&◌, eqb, leb, List, ◌++◌, length, Ok, Err, decimal, Result, refl, ap, ◌∙◌, subst, ap₂, arith}
use Rattle.std.proofs.lemmas.Slice.Eq.{bytes_eq-Decides}
use Rattle.std.proofs.lemmas.Bool.{and_parts, cond-true, eqb-true, leb-true}
use Rattle.std.specs.Str.{bytes_eq}
use Rattle.costs.specs.Costs.{Costs}
use Rattle.directions.specs.Directions.{and_then, next_number, next_value}
use Rattle.directions.specs.Files.{list_all}
use Rattle.directions.specs.Written.{line_text, links_text, Numbered}
use Rattle.directions.proofs.WrittenLaws.{never_err, and_then_ok, line_complete, value_sound, value_complete, number_sound, number_complete, lacks_decimal, listed_sound, listed_complete}
use Rattle.directions.specs.declared.direction.Direction.{Direction}
use Rattle.faults.specs.declared.fault.Fault.{Fault}
use Rattle.linkfile.specs.Lines.{routers, rule, before}
use Rattle.linkfile.specs.Reading.{Standing, start, onward}
use Rattle.tables.specs.Tables.{Table}
use Rattle.area.specs.Loads.{count_fits, count_judged, name_judged, head_read, put_all, put_listed, behind_head, loaded, file_text, ReadsFiles}
use Rattle.area.proofs.Loading.{put_all_ended}

-- a test that gives a fault where it fails
judged_ok : (b : Bool) (f : Fault) → ◌≡◌ {A = Result (Unit {0}) Fault} (cond b (Ok tt) (Err f)) (Ok tt) → b ≡ true
judged_ok true f e = refl
judged_ok false f e = absurd (never_err f tt e)

module _ {C : Type 0} (k : Costs C) (title : List ℕ) (t : Table) (text : List ℕ) where
  abbrev second : Standing
  second = onward (start text)

  abbrev third : Standing
  third = onward second

  -- a load that is granted read the head and put every direction
  behind_ok : (h : Result (Unit {0}) Fault) → (behind_head k t third h).answer ≡ Ok tt → (h ≡ Ok tt) × ((put_listed k t (list_all third)).answer ≡ Ok tt)
  behind_ok (Ok tt) e = (refl, e)
  behind_ok (Err f) e = absurd (never_err f tt e)

  granted : (loaded k title t text).answer ≡ Ok tt →
      (list : List Direction) × (text ≡ file_text t.count title list) × Numbered 3 list × (loaded k title t text ≡ put_all k t list (Ok tt))
  granted e =
      let (head, put) = behind_ok (head_read title t.count (start text)) e in
      let (u, counted, named) = and_then_ok (and_then (next_number routers (start text)) (count_judged t.count (start text).line)) _ tt head in
      let (n, number, fits) = and_then_ok (next_number routers (start text)) _ u counted in
      let (name, value, called) = and_then_ok (next_value rule second) _ tt named in
      let (one, small) = number_sound routers (start text) n number in
      let two = value_sound rule second name value in
      let well = put_all_ended k (list_all third).directions (list_all third).ended t put in
      let (rest, lines) = listed_sound third well in
      let is : n ≡ t.count =
      eqb-true n t.count (and_parts (leb n 32) (eqb n t.count) (and_parts (leb 2 n) (leb n 32 && eqb n t.count) (judged_ok (count_fits t.count n) _ fits)).1).1 in
      let same : name ≡ title = (bytes_eq-Decides name title).0 (judged_ok (bytes_eq name title) _ called) in
      let on : third.line ≡ 3 = omega (arith, one.next, two.next) in (
        (list_all third).directions,
        one.bytes ∙ ap (λ z. line_text routers (decimal n) ++ z) (two.bytes ∙ ap (λ z. line_text rule name ++ z) rest)
            ∙ ap₂ (λ c w. file_text c w (list_all third).directions) is same,
        subst (λ z. Numbered z (list_all third).directions) on lines,
        ap (behind_head k t third) head ∙ ap (λ z. put_all k t (list_all third).directions z) well,
      )

  files : (list : List Direction) → count_fits t.count t.count ≡ true → before 10 title ≡ length title → text ≡ file_text t.count title list → Numbered 3 list →
      loaded k title t text ≡ put_all k t list (Ok tt)
  files list fits lacks bytes numbered =
      let small : t.count ≤ 4294967295 =
      omega (arith, leb-true t.count 32 (and_parts (leb t.count 32) (eqb t.count t.count) (and_parts (leb 2 t.count) (leb t.count 32 && eqb t.count t.count) fits).1).0) in
      let one = line_complete (start text) routers (decimal t.count) _ (lacks_decimal t.count small) bytes in
      let two = line_complete second rule title (links_text list) lacks one.rest in
      let on : 3 ≡ third.line = omega (arith, one.next, two.next) in
      let all = listed_complete third list two.rest (subst (λ z. Numbered z list) on numbered) in
      let count : and_then (next_number routers (start text)) (count_judged t.count (start text).line) ≡ Ok tt =
      ap (λ z. and_then z (count_judged t.count (start text).line)) (number_complete routers (start text) t.count _ small one)
      ∙ cond-true (count_fits t.count t.count) (Ok tt) _ fits in
      let name : and_then (next_value rule second) (name_judged title second.line) ≡ Ok tt =
      ap (λ z. and_then z (name_judged title second.line)) (value_complete rule second title (links_text list) two)
      ∙ cond-true (bytes_eq title title) (Ok tt) _ ((bytes_eq-Decides title title).1 refl) in
      let head : head_read title t.count (start text) ≡ Ok tt = ap (λ z. and_then z (λ u. and_then (next_value rule second) (name_judged title second.line))) count ∙ name in
      ap (behind_head k t third) head ∙ ap (put_listed k t) all

  pub reads_files : ReadsFiles k title t text (loaded k title t text)
  reads_files = record { granted = granted; files = files }
