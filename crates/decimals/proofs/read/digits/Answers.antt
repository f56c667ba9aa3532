use Rattle.std.proofs.Common.{◌+◌, get_or, drop, sym, ap, ◌∙◌}
use Rattle.std.proofs.lemmas.List.{drop_more, drop_all}
use Rattle.decimals.specs.Digits.{digits_behind}
use Rattle.decimals.proofs.NumberLaws.{behind_end, behind_some, behind_none}
use Rattle.decimals.proofs.read.digits.Goals as goal

pub returns-in_err-n : goal.returns-in_err-n
returns-in_err-n c =
    let text = c.args.text.now in
    let i = c.loop-b.b-index in
    rw c.from_residual.ensures (behind_none c.loop-b.n (get_or text i 0) (drop (i + 1) text) c.in_err-n.ensures ∙ ap (digits_behind c.loop-b.n) (sym (drop_more text i 0 c.loop-b-test.true)) ∙ c.loop-b.invariant.0)

pub loop-b-preserved : goal.loop-b-preserved
loop-b-preserved c =
    let text = c.args.text.now in
    let i = c.loop-b.b-index in
    let (more, small) = behind_some c.loop-b.n _ (get_or text i 0) (drop (i + 1) text) c.in_ok-n.ensures in
    (more ∙ ap (digits_behind c.loop-b.n) (sym (drop_more text i 0 c.loop-b-test.true)) ∙ c.loop-b.invariant.0, small)

pub returns : goal.returns
returns c = behind_end c.loop-b.n c.loop-b.invariant.1 ∙ ap (digits_behind c.loop-b.n) (sym (drop_all c.loop-b.b-index c.args.text.now c.loop-b-test.false)) ∙ c.loop-b.invariant.0
