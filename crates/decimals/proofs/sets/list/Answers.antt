use Rattle.std.proofs.Common.{◌++◌, eqb, length, sym, ap, ◌∙◌, arith}
use Rattle.masks.specs.Sets.{members}
use Rattle.masks.proofs.SetLaws.{members_out}
use Rattle.decimals.specs.Lists.{listed, item}
use Rattle.decimals.proofs.ListLaws.{listed_in}
use Rattle.decimals.proofs.sets.list.Goals as goal
use Rattle.decimals.proofs.sets.list.Goals.{then-has, else-has}

pub loop-v-init : goal.loop-v-init
unfolding members listed
loop-v-init c = (c.new-text.ensures, omega (arith, ap length c.new-text.ensures))

pub loop-v-preserved : goal.loop-v-preserved
loop-v-preserved c =
    let mask = c.args.mask in
    let v = c.loop-v.v in
    let (is, short) = c.loop-v.invariant in
    elim c.if-has.branch [
      | then-has w ↦
          let first = eqb (length c.loop-v.text.bytes) 0 in (
            ap (λ t. t.bytes) w.text-is ∙ w.push_item.ensures.item ∙ ap (λ l. l ++ item first v) is ∙ sym (listed_in mask v first (omega arith) (sym w.if-has.ensures) (ap (λ l. eqb (length l) 0) is)),
            omega (arith, ap (λ t. length t.bytes) w.text-is, w.push_item.ensures.bound, short),
          )
      | else-has w ↦ (ap (λ t. t.bytes) w.text-is ∙ is ∙ sym (ap listed (members_out mask v (sym w.if-has.ensures))), omega (arith, ap (λ t. length t.bytes) w.text-is, short))
    ]
