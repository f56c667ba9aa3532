use Rattle.std.proofs.Common.{take, rules, tests, ◌∙◌}
use Rattle.std.proofs.lemmas.Iterator.{YieldsList-from_slice}
use Rattle.std.proofs.lemmas.Iterator.Search.{all_from_yields_List}
use Rattle.pagetable.proofs.WalkLaws.{all_marked}
use Rattle.pagetable.proofs.table.PageTable.all_current.Goals as goal

pub returns : goal.returns
returns c =
    all_from_yields_List (λ b. b) _ _ c.all.result c.all.ensures.ran (YieldsList-from_slice (take c.args.count c.args.self.now.current) (search rules)) (λ x b q k. search (rules, tests))
    ∙ all_marked c.args.self.now c.args.count (search rules)
