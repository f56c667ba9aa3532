use Rattle.std.proofs.Common.{arith}
use Rattle.std.proofs.lemmas.Fmt.{length-decimal-le}
use Rattle.reports.proofs.entries.hop_value.Goals as goal

pub returns-in-Some-clause-bound : goal.returns-in-Some-clause-bound
returns-in-Some-clause-bound c = rw c.in-Some.is (omega (arith, length-decimal-le 3 c.in-Some.n (omega arith) (omega arith) (omega arith)))
