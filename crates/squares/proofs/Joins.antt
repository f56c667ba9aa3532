-- A short cost can be joined with that of a link.
use Rattle.std.proofs.Common.{subst, arith}
use Rattle.costs.specs.Costs.{Costs, Laws, Joins, none, more, Joinable}
use Rattle.routes.specs.Leasts.{LinkCost}
use Rattle.squares.specs.Known.{Short}

-- a link's cost joins one link
joins_link : {C : Type 0} (rule : Costs C) → Laws rule → (l : C) → LinkCost rule l → Joins rule 1 l
joins_link rule laws l q = subst (Joins rule 1) (laws.neutral l) (more q.0 l none q.1)

pub can_join : {C : Type 0} (rule : Costs C) → Laws rule → (cost l : C) → Short rule cost → LinkCost rule l → Joinable rule cost l
can_join rule laws cost l s q =
    record { m = s.0; n = 1; left = s.2; right = joins_link rule laws l q; few = omega (arith, s.1) }
