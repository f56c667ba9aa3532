use Rattle.std.proofs.Common.{◌≡◌, ◌<◌, true, length, ◌∙◌, arith, ltb-false, ltb-true}
use Rattle.decimals.specs.Numbers.{unpadded}
use Rattle.decimals.proofs.NumberLaws.{numeral_plain, numeral_padded, unpadded_empty, unpadded_zero, unpadded_one}
use Rattle.decimals.proofs.read.read_number.Goals as goal
use Rattle.decimals.proofs.read.read_number.Goals.{in_default-via-then-text-lt2, in_default-via-else-text-lt2+in_default-1}

pub returns-in-empty-clause-value : goal.returns-in-empty-clause-value
returns-in-empty-clause-value c = numeral_padded c.args.text.now (unpadded_empty c.args.text.now (omega (arith, ltb-true)))

pub returns-in-48-clause-value : goal.returns-in-48-clause-value
returns-in-48-clause-value c = numeral_padded c.args.text.now (unpadded_zero c.args.text.now (omega arith) (omega (arith, ltb-false)))

pub returns-in_default-clause-value : goal.returns-in_default-clause-value
returns-in_default-clause-value c =
    let text = c.args.text.now in
    let some : 0 < length text = omega (arith, ltb-false) in
    let plain : unpadded text ≡ true = elim c.in_default.branch [
      | in_default-via-then-text-lt2 w ↦ unpadded_one text some (λ _. omega (arith, ltb-true))
      | in_default-via-else-text-lt2+in_default-1 w ↦ unpadded_one text some (λ z. absurd (omega arith))
    ] in
    c.digits.ensures ∙ numeral_plain text plain
