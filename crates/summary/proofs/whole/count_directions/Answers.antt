use Rattle.std.proofs.Common.{◌≡◌, ℕ, ◌+◌, ◌<◌, length, Some, None, Ok, Err, Result, sym, ap, ◌∙◌, arith, length-drop}
use Rattle.std.proofs.lemmas.Result.{err_from_is_err_and}
use Rattle.faults.specs.declared.fault.Fault.{Fault}
use Rattle.directions.specs.declared.direction.Direction.{Direction}
use Rattle.linkfile.specs.Reading.{Standing, stands, left}
use Rattle.directions.specs.Directions.{and_then, direction_read}
use Rattle.directions.specs.Files.{Listing, list_all}
use Rattle.directions.proofs.FileLaws.{direction_less, list_all_some, list_all_none, list_all_err}
use Rattle.summary.specs.Summaries.{how_many}
use Rattle.summary.proofs.whole.count_directions.Goals as goal

-- one direction more, from where a reader stood to where it stands
record Counted (s t : Standing) : Type 0 where
  one : length (list_all s).directions ≡ length (list_all t).directions + 1
  ends : (list_all s).ended ≡ (list_all t).ended
  less : length (left t) < length (left s)

counted : (s t : Standing) (d : Direction) → Ok (Some d) ≡ (direction_read s).answer → t ≡ (direction_read s).standing → Counted s t
counted s t d e stood =
    let all = list_all_some s d e in
    let behind = (direction_read s).standing in
    record {
      one = omega (arith, ap (λ (l : Listing). length l.directions) all, ap (λ z. length (list_all z).directions) stood);
      ends = ap (λ (l : Listing). l.ended) all ∙ ap (λ z. (list_all z).ended) (sym stood);
      less = omega (arith, direction_less s d (sym e), ap (λ z. length (left z)) stood);
    }

-- what a turn counted
turn : (c : goal.In-Some) → Counted (stands c.loop-many.reader) (stands c.next_direction.new.reader)
turn c =
    let line = c.in_ok-next_direction.ensures in
    counted _ _ c.in-Some.field-0 (ap Ok (sym c.in-Some.is) ∙ line.answer) line.reader

-- how the directions end, well or by a fault, from where the last reading began
module _ (many : ℕ) (s start : Standing) (n : many + length (list_all s).directions ≡ length (list_all start).directions) (ends : (list_all s).ended ≡ (list_all start).ended) where
  tallied : Result (Unit {0}) Fault → Result ℕ Fault
  tallied x = and_then x (λ _. Ok (length (list_all start).directions))

  ended_well : Ok None ≡ (direction_read s).answer → Ok many ≡ how_many (list_all start)
  unfolding tallied
  ended_well e =
      let all = list_all_none s e in
      let same : many ≡ length (list_all start).directions = omega (arith, ap (λ (l : Listing). length l.directions) all) in
      ap Ok same ∙ ap tallied (sym (ap (λ (l : Listing). l.ended) all) ∙ ends)

  ended_ill : (f : Fault) → Err f ≡ (direction_read s).answer → Err f ≡ how_many (list_all start)
  unfolding tallied
  ended_ill f e = ap tallied (sym (ap (λ (l : Listing). l.ended) (list_all_err s f e)) ∙ ends)

pub overflow_add-many : goal.overflow_add-many
overflow_add-many c =
    let t = turn c in
    let s = c.args.reader.now in
    omega (arith, t.less, c.loop-many.invariant.2, length-drop s.at s.text.now)

pub loop-many-preserved : goal.loop-many-preserved
loop-many-preserved c =
    let t = turn c in
    (omega (arith, t.one, c.loop-many.invariant.0), sym t.ends ∙ c.loop-many.invariant.1, omega (arith, t.less, c.loop-many.invariant.2))

pub loop-many-smaller : goal.loop-many-smaller
loop-many-smaller c = (turn c).less

pub returns-in_err-next_direction : goal.returns-in_err-next_direction
returns-in_err-next_direction c =
    let p = err_from_is_err_and c.from_residual.result c.from_residual.ensures.1 in
    let inv = c.loop-many.invariant in
    rw (p.1, p.2) (ended_ill c.loop-many.many (stands c.loop-many.reader) (stands c.args.reader.now) inv.0 inv.1 _ c.in_err-next_direction.ensures.answer)

pub returns : goal.returns
returns c =
    let inv = c.loop-many.invariant in
    ended_well c.loop-many.many (stands c.loop-many.reader) (stands c.args.reader.now) inv.0 inv.1 (ap Ok (sym c.in_default.is) ∙ c.in_ok-next_direction.ensures.answer)
