use Rattle.std.proofs.Common.{◌-◌, arith}
use lib.Bits.{bit_and}
use Rattle.std.proofs.lemmas.Nat.{and_le_l}
use Rattle.masks.proofs.MaskLaws.{same_set, holds_without}
use Rattle.masks.proofs.without.Goals as goal

pub returns : goal.returns
returns c =
    let m = c.args.mask in
    let o = c.args.other in
    same_set 32 (bit_and m (4294967295 - o)) _ (omega (arith, and_le_l m (4294967295 - o))) (λ v l. holds_without m o v (omega arith) l)
