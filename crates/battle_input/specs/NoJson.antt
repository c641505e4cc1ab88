-- Where bytes stop being JSON (docs/PROGRAM.md, "Explanations"): what may come next, byte by byte.
use Rattle.std.specs.Prelude.{Bool, List, None, Option, Some, [], false, if◌then◌else◌, nat_le, nat_lt, not, option_map, true, ℕ, ◌%◌, ◌&&◌, ◌*◌, ◌+◌, ◌-◌, ◌/◌, ◌==◌, ◌^◌, ◌||◌, ◌∷◌}
use Rattle.battle_input.specs.declared.fault.JsonFault.{JsonFault}
use Rattle.battle_input.specs.declared.fault.JsonFault.TheVariants as faults
use Rattle.battle_input.specs.declared.no_json.Stand.{Stand}
use Rattle.battle_input.specs.declared.no_json.Stand.TheVariants.{Behind, Colon, Escape, FirstItem, FirstKey, Fraction, Hex, Key, Many, Mark, Minus, Point, Power, Sign, Text, Value, Whole, Word, Zero}

abbrev pub is_blank : ℕ → Bool
is_blank b = b == 32 || (b == 9 || (b == 10 || b == 13))

abbrev pub is_digit : ℕ → Bool
is_digit b = nat_le 48 b && nat_le b 57

abbrev pub is_hex : ℕ → Bool
is_hex b = is_digit b || (nat_le 65 b && nat_le b 70 || nat_le 97 b && nat_le b 102)

-- the open lists and objects stay as they are
abbrev pub go_on : Option Stand → ℕ → Option (Stand × ℕ)
go_on stand nest = option_map (λ s. (s, nest)) stand

-- into a list (0) or an object (1); at most 127 of them are open, with a 1 below them
abbrev pub enter : Stand → ℕ → ℕ → Option (Stand × ℕ)
enter stand nest kind = if nat_lt nest (2 ^ 127) then Some (stand, nest * 2 + kind) else None

-- and out of it
abbrev pub close : ℕ → ℕ → Option (Stand × ℕ)
close nest kind = if nat_lt 1 nest && nest % 2 == kind then Some (Behind, nest / 2) else None

abbrev pub after_comma : ℕ → Option Stand
after_comma nest = if nat_le nest 1 then None else if nest % 2 == 0 then Some Value else Some Key

-- after a value: blank, `,`, `]` or `}`
abbrev pub pass : ℕ → ℕ → Option (Stand × ℕ)
pass nest b =
    if is_blank b then Some (Behind, nest)
    else if b == 44 then go_on (after_comma nest) nest
    else if b == 93 then close nest 0
    else if b == 125 then close nest 1
    else None

-- after what may be the end of a number
abbrev pub number : Option Stand → ℕ → ℕ → Option (Stand × ℕ)
number None nest b = pass nest b
number (Some stand) nest b = Some (stand, nest)

abbrev pub digit : Stand → ℕ → Option Stand
digit later b = if is_digit b then Some later else None

abbrev pub behind_minus : ℕ → Option Stand
behind_minus b = if b == 48 then Some Zero else digit Whole b

-- `e` or `E`
abbrev pub behind_fraction : ℕ → Option Stand
behind_fraction b = if b == 101 || b == 69 then Some Mark else None

-- `.`, or as after a fraction
abbrev pub behind_whole : ℕ → Option Stand
behind_whole b = if b == 46 then Some Point else behind_fraction b

-- a value that holds no other begins with `"`, `t`, `f`, `n`, `-` or a digit
abbrev pub first : ℕ → Option Stand
first b =
    if b == 34 then Some (Text false)
    else if b == 116 then Some (Word 1)
    else if b == 102 then Some (Word 4)
    else if b == 110 then Some (Word 7)
    else if b == 45 then Some Minus
    else behind_minus b

-- any value, so also with `[` or `{`
abbrev pub begin : Stand → ℕ → ℕ → Option (Stand × ℕ)
begin stand nest b =
    if is_blank b then Some (stand, nest)
    else if b == 91 then enter FirstItem nest 0
    else if b == 123 then enter FirstKey nest 1
    else go_on (first b) nest

abbrev pub wait_for : Stand → ℕ → Stand → ℕ → ℕ → Option (Stand × ℕ)
wait_for stand due later nest b = if is_blank b then Some (stand, nest) else if b == due then Some (later, nest) else None

-- the first byte of a character of two, three or four
abbrev pub lead : Bool → ℕ → Option Stand
lead is_key b =
    if nat_lt b 194 then None
    else if nat_lt b 224 then Some (Many is_key 1)
    else if nat_lt b 240 then Some (Many is_key 2)
    else if nat_lt b 245 then Some (Many is_key 3)
    else None

-- `"`, a backslash, any character that is not a control
abbrev pub in_text : Bool → ℕ → Option Stand
in_text is_key b =
    if b == 34 then Some (if is_key then Colon else Behind)
    else if b == 92 then Some (Escape is_key)
    else if nat_lt b 32 then None
    else if nat_lt b 128 then Some (Text is_key)
    else lead is_key b

abbrev pub in_many : Bool → ℕ → ℕ → Option Stand
in_many is_key left b =
    if nat_lt b 128 || nat_lt 191 b then None
    else if nat_lt 1 left then Some (Many is_key (left - 1))
    else Some (Text is_key)

-- `u`, or one of `"`, `\`, `/`, `b`, `f`, `n`, `r` and `t`
abbrev pub in_escape : Bool → ℕ → Option Stand
in_escape is_key b =
    if b == 117 then Some (Hex is_key 4)
    else if b == 34 || (b == 92 || (b == 47 || (b == 98 || (b == 102 || (b == 110 || (b == 114 || b == 116)))))) then Some (Text is_key)
    else None

abbrev pub in_hex : Bool → ℕ → ℕ → Option Stand
in_hex is_key left b =
    if not (is_hex b) then None
    else if nat_lt 1 left then Some (Hex is_key (left - 1))
    else Some (Text is_key)

-- a letter of `rue`, of `alse` without its end, or of `ull`
abbrev pub letter : ℕ → ℕ
letter n =
    if n == 1 then 114 else if n == 2 then 117 else if n == 3 then 101
    else if n == 4 then 97 else if n == 5 then 108 else if n == 6 then 115
    else if n == 7 then 117 else 108

abbrev pub in_word : ℕ → ℕ → Option Stand
in_word n b =
    if not (b == letter n) then None
    else if n == 3 || n == 9 then Some Behind
    else if n == 6 then Some (Word 3)
    else if nat_lt n 9 then Some (Word (n + 1))
    else None

-- what may come after a byte, if the byte is allowed
abbrev pub next : Stand → ℕ → ℕ → Option (Stand × ℕ)
next Value nest b = begin Value nest b
next FirstItem nest b = if b == 93 then close nest 0 else begin FirstItem nest b
next FirstKey nest b = if b == 125 then close nest 1 else wait_for FirstKey 34 (Text true) nest b
next Key nest b = wait_for Key 34 (Text true) nest b
next Colon nest b = wait_for Colon 58 Value nest b
next Behind nest b = pass nest b
next (Text is_key) nest b = go_on (in_text is_key b) nest
next (Escape is_key) nest b = go_on (in_escape is_key b) nest
next (Hex is_key left) nest b = go_on (in_hex is_key left b) nest
next (Many is_key left) nest b = go_on (in_many is_key left b) nest
next (Word n) nest b = go_on (in_word n b) nest
next Minus nest b = go_on (behind_minus b) nest
next Zero nest b = number (behind_whole b) nest b
next Whole nest b = if is_digit b then Some (Whole, nest) else number (behind_whole b) nest b
next Point nest b = go_on (digit Fraction b) nest
next Fraction nest b = if is_digit b then Some (Fraction, nest) else number (behind_fraction b) nest b
next Mark nest b = if b == 43 || b == 45 then Some (Sign, nest) else go_on (digit Power b) nest
next Sign nest b = go_on (digit Power b) nest
next Power nest b = if is_digit b then Some (Power, nest) else pass nest b

-- the line and the column after a byte
abbrev pub line_after : ℕ → ℕ → ℕ
line_after line b = if b == 10 then line + 1 else line

abbrev pub column_after : ℕ → ℕ → ℕ
column_after column b = if b == 10 then 1 else column + 1

-- the first byte that is not allowed where it is, or the end
abbrev pub stop_at : ℕ → ℕ → Option (Stand × ℕ) → (Stand × ℕ → JsonFault) → JsonFault
stop_at line column None rest = faults.Text line column
stop_at line column (Some place) rest = rest place

unfoldable pub stops : List ℕ → ℕ → ℕ → Stand × ℕ → JsonFault
stops [] line column place = faults.Text line column
stops (b ∷ bs) line column place = stop_at line column (next place.0 place.1 b) (stops bs (line_after line b) (column_after column b))

abbrev pub no_json : List ℕ → JsonFault
no_json bytes = stops bytes 1 1 (Value, 1)
