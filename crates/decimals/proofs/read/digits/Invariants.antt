use Rattle.std.proofs.Common.{◌≡◌, ◌≤◌, drop}
use Rattle.decimals.specs.Digits.{digits_behind}
use Rattle.decimals.proofs.read.digits.Given as goal

abbrev pub invariant-loop-b : goal.invariant-loop-b
invariant-loop-b l = (digits_behind l.n (drop l.b-index l.text) ≡ digits_behind 0 l.text) × (l.n ≤ 4294967295)
