use Rattle.std.proofs.Common.{◌+◌, ◌≤◌, length, ap, arith, length-append}
use Rattle.decimals.proofs.NumberLaws.{two_digits}
use Rattle.decimals.proofs.sets.push_item.Goals as goal
use Rattle.decimals.proofs.sets.push_item.Goals.{After-format, then-not-is_empty, else-not-is_empty}

-- a comma is one byte, and the number behind it takes at most two
short : (c : goal.After-format) → length c.if-not-is_empty.text.bytes + length c.format.result.now ≤ length c.args.text.now.bytes + 3
short c =
    let comma : length c.if-not-is_empty.text.bytes ≤ length c.args.text.now.bytes + 1 = elim c.if-not-is_empty.branch [
      | then-not-is_empty w ↦ grind (arith, length-append, ap (λ t. length t.bytes) w.text-is)
      | else-not-is_empty w ↦ omega (arith, ap (λ t. length t.bytes) w.text-is)
    ] in
    omega (arith, comma, two_digits c.args.n c.requires.number, ap length c.format.ensures.text)

pub push_str-requires : goal.push_str-requires
push_str-requires c = omega (arith, short c, c.requires.room)

pub returns-clause-bound : goal.returns-clause-bound
returns-clause-bound c = omega (arith, short (goal.at.returns-clause-bound c).After-format, c.push_str.ensures.len)
