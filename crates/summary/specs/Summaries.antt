-- What a link file says, in short.
use Rattle.std.specs.Prelude.{◌≡◌, ℕ, ◌≤◌, List, ◌++◌, length, Some, None, Ok, Err, decimal, Option, Result}
use Rattle.faults.specs.declared.fault.Fault.{Fault}
use Rattle.linkfile.specs.Lines.{routers, rule, bad}
use Rattle.linkfile.specs.Reading.{Standing, start, onward}
use Rattle.directions.specs.Directions.{and_then, next_value, next_number}
use Rattle.directions.specs.declared.direction.Direction.{Direction}
use Rattle.directions.specs.Files.{Listing, list_all}
use Rattle.directions.specs.Written.{line_text, links_text, Numbered}
use Rattle.summary.specs.declared.names.RuleName.{RuleName}
use Rattle.summary.specs.declared.outcome.Summary.{Summary}
use Rattle.summary.specs.Rules.{spelt, named}

-- a rule, or the fault on its line
abbrev pub rule_on : ℕ → Option RuleName → Result RuleName Fault
rule_on line (Some r) = Ok r
rule_on line None = Err (bad line)

-- the next line, which must name a rule
abbrev pub next_rule : Standing → Result RuleName Fault
next_rule s = and_then (next_value rule s) (λ name. rule_on s.line (named name))

-- how many directions there are, if they end well
abbrev pub how_many : Listing → Result ℕ Fault
how_many l = and_then l.ended (λ _. Ok (length l.directions))

-- the count of routers, the rule and the number of directions; or the first fault
abbrev pub summary : List ℕ → Result Summary Fault
summary text =
    and_then (next_number routers (start text))
    (λ count. and_then (next_rule (onward (start text)))
    (λ name. and_then (how_many (list_all (onward (onward (start text)))))
    (λ many. Ok (record { routers = count; rule = name; directions = many }))))

-- the bytes of a file with this summary
pub record IsFile (text : List ℕ) (s : Summary) : Type 0 where
  pub list : List Direction
  pub bytes : text ≡ line_text routers (decimal s.routers) ++ (line_text rule (spelt s.rule) ++ links_text list)
  pub fits : s.routers ≤ 4294967295
  pub numbered : Numbered 3 list
  pub counted : length list ≡ s.directions

-- exactly the texts that are written so are granted, with that summary
pub record GrantedExactly (text : List ℕ) (r : Result Summary Fault) : Type 0 where
  pub granted : (s : Summary) → r ≡ Ok s → IsFile text s
  pub files : (s : Summary) → IsFile text s → r ≡ Ok s
