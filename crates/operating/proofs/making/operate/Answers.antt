use Rattle.std.proofs.Common.{sym, ◌∙◌, arith, rules}
use Rattle.std.proofs.lemmas.List.{drop-set-lt, get_or-take, length-take}
use Rattle.area.specs.Meaning.{area_of}
use Rattle.operating.proofs.Turns.{made_as, turn_more, operated}
use Rattle.operating.proofs.making.operate.Goals as goal

pub loop-i-preserved : goal.loop-i-preserved
loop-i-preserved g c =
    let few = length-take c.min-made.result c.args.calls.now in
    record {
      turns =
          turn_more g.C.Cost.costs (area_of g.T.LinkTable) c.args.area.now c.loop-i.area c.make_call.new.area _ _ _ c.args.calls.now c.loop-i.answers c.loop-i.i _ c.make_call.result
          (omega arith) (omega arith) c.loop-i.invariant.turns
          (made_as g.C.Cost.costs _ _ _ (sym (get_or-take c.min-made.result c.args.calls.now c.loop-i.i _ (omega arith))) c.make_call.ensures.made);
      left = λ k h. drop-set-lt k c.loop-i.answers c.loop-i.i c.make_call.result (omega arith) ∙ c.loop-i.invariant.left k (omega arith);
      same = search rules;
    }

pub returns-clause-run : goal.returns-clause-run
returns-clause-run g c =
    let few = length-take c.min-made.result c.args.calls.now in
    operated g.C.Cost.costs (area_of g.T.LinkTable) g.met.C.Cost.lawful (λ x. g.T.LinkTable.laws x.table.below)
    c.args.area.now c.loop-i.area _ _ c.args.calls.now c.loop-i.answers c.loop-i.i c.min-made.result (omega arith) c.loop-i.invariant.turns
