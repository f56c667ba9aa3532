use Rattle.std.proofs.Common.{◌≢◌, None, sym, ◌∙◌, ⊎_elim, arith, below_more}
use Rattle.std.proofs.lemmas.List.{length-set, get_or-set_same, get_or-set_other, get_or_past}
use Rattle.std.proofs.lemmas.Bool.{cases_lt}
use Rattle.std.proofs.lemmas.Option.{none-some}
use Rattle.settling_tests.proofs.net_k.read_all.Goals as goal

pub loop-i-preserved : goal.loop-i-preserved
loop-i-preserved g c =
    let at = c.loop-i.i in
    let old = c.loop-i.costs in
    let cost = c.read.result in (
      length-set old at cost ∙ c.loop-i.invariant.0,
      below_more _ _
          (λ k h. let ne : k ≢ at = omega arith in let q = c.loop-i.invariant.1 k h in (q.0, q.1 ∙ sym (get_or-set_other old at k cost None ne)))
          (_, sym (get_or-set_same old at cost None (omega (arith, c.loop-i.invariant.0)) ∙ c.read.ensures)),
    )

pub returns : goal.returns
returns g c =
    record {
      size = c.loop-i.invariant.0;
      costs = λ k cost e. ⊎_elim
          (λ l. let q = c.loop-i.invariant.1 k (omega arith) in (q.0, q.1 ∙ e))
          (λ l. absurd (none-some cost (sym (get_or_past c.loop-i.costs k None (omega (arith, c.loop-i.invariant.0))) ∙ e)))
          (cases_lt k 25);
    }
