use Rattle.std.proofs.Common.{◌≡◌, ℕ, ◌+◌, List, length, sym, ap, subst, arith, Bor}
use Rattle.linkfile.specs.declared.line.Line.{Line}
use Rattle.linkfile.specs.declared.line.Line.TheVariants.{Routers, Rule, From, To, Weight, End}
use Rattle.linkfile.specs.Lines.{said, held, rule, spelling, Parts}
use Rattle.linkfile.specs.Reading.{stands, left}
use Rattle.linkfile.proofs.LineLaws.{told_spelt}
use Rattle.directions.specs.Directions.{TextPart}
use Rattle.directions.proofs.read.read_rule.Goals as goal

-- the value stands behind the key `rule` and the byte `=`
rule_part : (text : Bor (List ℕ)) (place : ℕ) (l : Line) → Parts text place l → (said l).key ≡ spelling (said l).kind → TextPart text (place + 5) (held rule l)
rule_part text place (Rule key value line) p e = record { block = p.value_lies.block; offset = omega (arith, p.value_lies.offset, ap length e) }
rule_part text place (Routers key value line) p e = tt
rule_part text place (From key value line) p e = tt
rule_part text place (To key value line) p e = tt
rule_part text place (Weight key value line) p e = tt
rule_part text place (End key value line) p e = tt

pub returns-clause-parts : goal.returns-clause-parts
returns-clause-parts c =
    let reader = c.args.reader.now in
    let line = c.in_ok-next_line.ensures in
    let key = (told_spelt (left (stands reader)) reader.line _ line.answer).key_is in
    subst (TextPart reader.text (reader.at + 5)) (sym c.value_under.ensures) (rule_part reader.text reader.at c.in_ok-next_line.field-0 line.parts key)
