use Rattle.std.proofs.Common.{◌^◌, ◌||◌, sym, ap, ◌∙◌, arith}
use lib.Bits.{bit_or}
use Rattle.std.proofs.lemmas.Nat.{one_shl, or_lt, pow_below}
use Rattle.std.proofs.lemmas.Bool.{ne_eqb}
use Rattle.masks.specs.Sets.{holds}
use Rattle.masks.proofs.MaskLaws.{same_set}
use Rattle.masks.proofs.SetLaws.{holds_or}
use Rattle.masks.proofs.with.Goals as goal

pub returns-then-router-lt32-clause-value : goal.returns-then-router-lt32-clause-value
returns-then-router-lt32-clause-value c =
    let below = c.if-router-lt32.true in
    ap (bit_or c.args.mask) (one_shl c.args.router 32 below)
    ∙ same_set 32 (bit_or c.args.mask (2 ^ c.args.router)) _ (or_lt 32 c.args.mask (2 ^ c.args.router) (omega arith) (pow_below c.args.router 32 below)) (λ k l. holds_or c.args.mask c.args.router k)

pub returns-then-router-lt32-clause-added : goal.returns-then-router-lt32-clause-added
returns-then-router-lt32-clause-added c h k =
    ap (λ n. holds (bit_or c.args.mask n) k) (one_shl c.args.router 32 c.if-router-lt32.true) ∙ holds_or c.args.mask c.args.router k

pub returns-else-router-lt32-clause-value : goal.returns-else-router-lt32-clause-value
returns-else-router-lt32-clause-value c = same_set 32 c.args.mask _ (omega arith) (λ k l. sym (ap (λ t. t || holds c.args.mask k) (ne_eqb k c.args.router (λ e. omega arith))))
