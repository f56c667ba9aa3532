use Rattle.std.proofs.Common.{rules, ◌∙◌, eqb, arith}
use Rattle.linkfile.proofs.LineLaws.{found, before_le}
use Rattle.std.proofs.lemmas.Iterator.Search.{position_from_yields_List}
use Rattle.std.proofs.lemmas.Iterator.{YieldsList-from_slice}
use Rattle.linkfile.proofs.next_line.find.Goals as goal

pub returns : goal.returns
returns c =
    let text = c.args.text.now in
    let at = found c.args.b text c.position.result (position_from_yields_List (λ x. eqb x c.args.b) _ _ c.position.result c.position.ensures.ran (YieldsList-from_slice _ c.iter.ensures.rest) (λ x b q k. search rules)) in
    let place = c.unwrap_or.ensures ∙ at in
    record { place = place; bound = omega (arith, place, before_le c.args.b text) }
