use Rattle.std.proofs.Common.{not, ◌&&◌, eqb, ltb, sym, ◌∙◌}
use Rattle.std.proofs.lemmas.Bool.{and_from, cond-true, lt-ltb, ne_eqb, not_from_false}
use Rattle.squares.proofs.cost_square.CostSquareLinkCosts.link.Goals as goal

pub returns : goal.returns
returns g c =
    let a = c.args.from in
    let b = c.args.to in
    let n = c.args.self.now.count in
    c.cost_at.ensures
    ∙ sym (cond-true _ _ _ (and_from (ltb a n) (ltb b n && not (eqb a b)) (lt-ltb a n c.requires.0)
    (and_from (ltb b n) (not (eqb a b)) (lt-ltb b n c.requires.1) (not_from_false (eqb a b) (ne_eqb a b c.if-from-to.false)))))
