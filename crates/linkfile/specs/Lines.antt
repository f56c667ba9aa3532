-- The lines of a link file: a line is its key, the byte `=`, its value and the byte 10.
use Rattle.std.specs.Prelude.{◌≡◌, ℕ, Bool, suc, ◌+◌, cond, List, [], ◌∷◌, ◌++◌, length, take, Some, None, Ok, Err, codes, Option, Result, ◌==◌}
use Rattle.std.specs.Borrow.{Bor}
use Rattle.faults.specs.declared.fault.Fault.{Fault}
use Rattle.faults.specs.declared.fault.Fault.TheVariants.{Reader}
use Rattle.faults.specs.declared.refusal.Refusal.TheVariants.{BadLine}
use Rattle.linkfile.specs.declared.line.Key.{Key}
use Rattle.linkfile.specs.declared.line.Key.TheVariants as k
use Rattle.linkfile.specs.declared.line.Line.{Line}
use Rattle.linkfile.specs.declared.line.Line.TheVariants.{Routers, Rule, From, To, Weight, End}

-- the keys
abbrev pub routers : Key
routers = k.Routers

abbrev pub rule : Key
rule = k.Rule

abbrev pub from : Key
from = k.From

abbrev pub to : Key
to = k.To

abbrev pub weight : Key
weight = k.Weight

abbrev pub end : Key
end = k.End

abbrev pub spelling : Key → List ℕ
spelling k.Routers = codes "routers"
spelling k.Rule = codes "rule"
spelling k.From = codes "from"
spelling k.To = codes "to"
spelling k.Weight = codes "weight"
spelling k.End = codes "end"

-- the keys by their order in a file
abbrev pub rank : Key → ℕ
rank k.Routers = 0
rank k.Rule = 1
rank k.From = 2
rank k.To = 3
rank k.Weight = 4
rank k.End = 5

abbrev pub same_key : Key → Key → Bool
same_key j k = rank j == rank k

-- what a line says: which key, the bytes of key and value, and the line's number, from 1
pub record Said : Type 0 where
  pub kind : Key
  pub key : List ℕ
  pub value : List ℕ
  pub line : ℕ

abbrev pub said : Line → Said
said (Routers key value line) = record { kind = routers; key = key.now; value = value.now; line = line }
said (Rule key value line) = record { kind = rule; key = key.now; value = value.now; line = line }
said (From key value line) = record { kind = from; key = key.now; value = value.now; line = line }
said (To key value line) = record { kind = to; key = key.now; value = value.now; line = line }
said (Weight key value line) = record { kind = weight; key = key.now; value = value.now; line = line }
said (End key value line) = record { kind = end; key = key.now; value = value.now; line = line }

abbrev pub answered : Result Line Fault → Result Said Fault
answered (Ok line) = Ok (said line)
answered (Err fault) = Err fault

-- the fault of a line that breaks the file's form
abbrev pub bad : ℕ → Fault
bad line = Reader BadLine line

-- the value, a part of the lent text
abbrev pub value_of : Line → Bor (List ℕ)
value_of (Routers key value line) = value
value_of (Rule key value line) = value
value_of (From key value line) = value
value_of (To key value line) = value
value_of (Weight key value line) = value
value_of (End key value line) = value

-- the value under this key; a line with another key is out of place
abbrev pub held : Key → Line → Result (Bor (List ℕ)) Fault
held k l = cond (same_key k (said l).kind) (Ok (value_of l)) (Err (bad (said l).line))

-- what stands behind these bytes, where a line begins with them
abbrev pub behind : List ℕ → List ℕ → Option (List ℕ)
behind [] body = Some body
behind (k ∷ key) [] = None
behind (k ∷ key) (b ∷ body) = cond (b == k) (behind key body) None

abbrev pub valued : Key → ℕ → Option (List ℕ) → Result Said Fault → Result Said Fault
valued k line (Some value) other = Ok (record { kind = k; key = spelling k; value = value; line = line })
valued k line None other = other

-- the first of these keys that the line begins with, the byte `=` behind it
abbrev pub keyed : List Key → List ℕ → ℕ → Result Said Fault
keyed [] body line = Err (bad line)
keyed (k ∷ ks) body line = valued k line (behind (spelling k ++ 61 ∷ []) body) (keyed ks body line)

-- a line without its byte 10, taken apart
abbrev pub apart : List ℕ → ℕ → Result Said Fault
apart body line = keyed (routers ∷ rule ∷ from ∷ to ∷ weight ∷ end ∷ []) body line

-- how many bytes stand before the first b
unfoldable pub before : ℕ → List ℕ → ℕ
before b [] = 0
before b (x ∷ xs) = cond (x == b) 0 (suc (before b xs))

-- the first line of a text; a line that is missing or unended is at fault
abbrev pub told : List ℕ → ℕ → Result Said Fault
told text line = cond (before 10 text == length text) (Err (bad line)) (apart (take (before 10 text) text) line)

-- how many bytes, and how many lines, a reader moves on over it
abbrev pub moved : List ℕ → ℕ
moved text = cond (before 10 text == length text) 0 (before 10 text + 1)

abbrev pub counted : List ℕ → ℕ
counted text = cond (before 10 text == length text) 0 1

-- the part begins at this place of the text, in the same memory
pub record Lies (text part : Bor (List ℕ)) (place : ℕ) : Type 0 where
  pub block : part.ref_ptr.0 ≡ text.ref_ptr.0
  pub offset : part.ref_ptr.1 ≡ text.ref_ptr.1 + place

-- a key stands in the text from this place on, and its value behind the `=`
pub record Lie (text : Bor (List ℕ)) (place : ℕ) (key value : Bor (List ℕ)) : Type 0 where
  pub key_lies : Lies text key place
  pub value_lies : Lies text value (place + length key.now + 1)

abbrev pub Parts : Bor (List ℕ) → ℕ → Line → Type 0
Parts text place (Routers key value line) = Lie text place key value
Parts text place (Rule key value line) = Lie text place key value
Parts text place (From key value line) = Lie text place key value
Parts text place (To key value line) = Lie text place key value
Parts text place (Weight key value line) = Lie text place key value
Parts text place (End key value line) = Lie text place key value

abbrev pub AnswerParts : Bor (List ℕ) → ℕ → Result Line Fault → Type 0
AnswerParts text place (Ok line) = Parts text place line
AnswerParts text place (Err fault) = Unit {0}
