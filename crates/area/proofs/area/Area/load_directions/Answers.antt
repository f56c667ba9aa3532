use Rattle.std.proofs.Common.{◌<◌, length, Ok, sym, ap, ◌∙◌, subst}
use Rattle.std.proofs.lemmas.Result.{err_from_is_err_and}
use Rattle.directions.proofs.FileLaws.{direction_less}
use Rattle.linkfile.specs.Reading.{stands, left}
use Rattle.area.specs.Meaning.{area_of}
use Rattle.area.proofs.Loading.{goes_on, ends_well, ends_ill, ends_refused}
use Rattle.area.proofs.area.Area.load_directions.Goals as goal

pub returns-in_err-direction : goal.returns-in_err-direction
returns-in_err-direction g c =
    let p = err_from_is_err_and c.from_residual.result c.from_residual.ensures.1 in
    rw (p.1, p.2) (ends_ill g.C.Cost.costs _ _ _ _ c.loop-direction.invariant _ c.in_err-direction.ensures.answer)

pub loop-direction-smaller : goal.loop-direction-smaller
loop-direction-smaller g c =
    let line = c.in_ok-direction.ensures in
    subst (λ z. length (left z) < length (left (stands c.loop-direction.reader))) (sym line.reader)
    (direction_less (stands c.loop-direction.reader) c.in-Some.direction (sym (ap Ok (sym c.in-Some.is) ∙ line.answer)))

pub loop-direction-preserved : goal.loop-direction-preserved
loop-direction-preserved g c =
    let line = c.in_ok-direction.ensures in
    let put = c.in_ok-load_direction.ensures in
    goes_on g.C.Cost.costs _ _ _ _ c.loop-direction.invariant c.in-Some.direction (ap Ok (sym c.in-Some.is) ∙ line.answer) (area_of g.T.LinkTable c.load_direction.new.self)
    (stands c.next_direction.new.reader) line.reader put.area put.answer

pub returns-in_err-load_direction : goal.returns-in_err-load_direction
returns-in_err-load_direction g c =
    let p = err_from_is_err_and c.from_residual-in_err-load_direction.result c.from_residual-in_err-load_direction.ensures.1 in
    let line = c.in_ok-direction.ensures in
    let put = c.in_err-load_direction.ensures in
    rw (p.1, p.2) (ends_refused g.C.Cost.costs _ _ _ _ c.loop-direction.invariant c.in-Some.direction (ap Ok (sym c.in-Some.is) ∙ line.answer) (area_of g.T.LinkTable c.load_direction.new.self) _ put.area put.answer)

pub returns : goal.returns
returns g c =
    ends_well g.C.Cost.costs _ _ _ _ c.loop-direction.invariant (ap Ok (sym c.in_default.is) ∙ c.in_ok-direction.ensures.answer)
