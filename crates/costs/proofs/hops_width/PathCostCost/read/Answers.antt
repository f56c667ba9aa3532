use Rattle.std.proofs.Common.{◌≡◌, Bool, true, false, ◌&&◌, cond, leb, Some, None, refl, ap₂, ◌∙◌, arith}
use Rattle.std.specs.Bool.{then_some}
use Rattle.std.proofs.lemmas.Bool.Decides.{nat_tests}
use Rattle.costs.specs.Paths.{one_hop}
use Rattle.costs.specs.PathLaws.{same_path}
use Rattle.costs.proofs.hops_width.PathCostCost.read.Goals as goal

by_cond : {X : Type 0} (b : Bool) (x : X) → then_some b x ≡ cond b (Some x) None
by_cond true x = refl
by_cond false x = refl

pub returns : goal.returns
returns c =
    let n = c.args.number in
    let widths : leb 1 n ≡ (leb 1 n && leb n 4294967295) = grind (arith, nat_tests) in
    c.then_some.ensures ∙ ap₂ then_some widths (same_path _ (one_hop n) refl (omega arith)) ∙ by_cond _ (one_hop n)
