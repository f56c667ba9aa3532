use Rattle.std.proofs.Common.{refl}
use Rattle.runs.specs.Calls as runs
use Rattle.operating.proofs.Turns.{made_as}
use Rattle.operating.proofs.making.make_call.Goals as goal

pub returns-in-Put-clause-made : goal.returns-in-Put-clause-made
returns-in-Put-clause-made g c =
    made_as g.C.Cost.costs _ _ _ c.in-Put.is
    ((runs.put c.in-Put.from c.in-Put.to c.in-Put.number, c.put.result), (refl, refl), c.put.ensures.area)

pub returns-in-Cut-clause-made : goal.returns-in-Cut-clause-made
returns-in-Cut-clause-made g c =
    made_as g.C.Cost.costs _ _ _ c.in-Cut.is
    ((runs.cut c.in-Cut.from c.in-Cut.to, c.cut.result), (refl, refl), c.cut.ensures.area)

pub returns-in-Settle-clause-made : goal.returns-in-Settle-clause-made
returns-in-Settle-clause-made g c =
    made_as g.C.Cost.costs _ _ _ c.in-Settle.is (
      (
        runs.settle c.in-Settle.root c.args.memories.now.best.now c.args.memories.now.rest.now c.args.memories.now.waiting.now,
        (c.settle.result, c.settle.new.best, c.settle.new.rest, c.settle.new.waiting),
      ),
      (refl, refl, refl),
      c.settle.ensures.area,
    )

pub returns-in-Hops-clause-made : goal.returns-in-Hops-clause-made
returns-in-Hops-clause-made g c =
    made_as g.C.Cost.costs _ _ _ c.in-Hops.is
    ((runs.hops c.in-Hops.root c.in-Hops.to, c.hops.result), (refl, refl), (c.hops.ensures, refl))

pub returns-in-Path-clause-made : goal.returns-in-Path-clause-made
returns-in-Path-clause-made g c =
    made_as g.C.Cost.costs _ _ _ c.in-Path.is (
      (runs.path c.in-Path.root c.in-Path.to c.args.memories.now.path.now, (c.path.result, c.path.new.out)),
      (refl, refl),
      (c.path.ensures.answer, c.path.ensures.memory, refl),
    )

pub returns-in-Walk-clause-made : goal.returns-in-Walk-clause-made
returns-in-Walk-clause-made g c =
    made_as g.C.Cost.costs _ _ _ c.in-Walk.is (
      (runs.walk c.in-Walk.from c.in-Walk.to c.in-Walk.picks.now c.args.memories.now.trail.now, (c.walk.result, c.walk.new.trail)),
      (refl, refl),
      (c.walk.ensures.answer, c.walk.ensures.memory, refl),
    )
