-- The names of the cost rules.
use Rattle.std.specs.Prelude.{ℕ, cond, List, Some, None, codes, Option}
use Rattle.std.specs.Str.{bytes_eq}
use Rattle.summary.specs.declared.names.RuleName.{RuleName}
use Rattle.summary.specs.declared.names.RuleName.TheVariants.{Sum, HopsWidth}

abbrev pub spelt : RuleName → List ℕ
spelt Sum = codes "sum"
spelt HopsWidth = codes "hops-width"

-- the rule of this name, if there is one
abbrev pub named : List ℕ → Option RuleName
named name = cond (bytes_eq name (spelt Sum)) (Some Sum) (cond (bytes_eq name (spelt HopsWidth)) (Some HopsWidth) None)
