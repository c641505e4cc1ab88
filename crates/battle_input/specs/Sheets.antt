-- What a JSON value asks for: a battle (a seed, two lists of members, rules and a turn limit), and what is done in it (pairs of
-- choices, or submissions to a room); or the first place at which it is not as expected (docs/PROGRAM.md, "Input", "JSON, to the
-- letter", "Explanations").
use Rattle.std.specs.Prelude.{Err, List, Ok, Result, [], codes, decimal, length, ℕ, ◌++◌, ◌∷◌, ◌≤◌, None, Option, Some, if◌then◌else◌, nat_le, nat_lt, ok_or, option_and_then, ◌&&◌, ◌+◌, ◌==◌, ◌≡◌, Bool}
use Rattle.std.specs.List.{flat_map}
use Rattle.battle_input.specs.declared.fault.Key.{Key}
use Rattle.battle_input.specs.declared.fault.Step.{Step}
use Rattle.battle_input.specs.declared.fault.Step.TheVariants.{At, Of}
use Rattle.battle_input.specs.declared.fault.Expected.{Expected}
use Rattle.battle_input.specs.declared.fault.Misfit.{Misfit}
use Rattle.std.specs.Str.{is_utf8}
use Rattle.serde_json.specs.Data.{Data, Items, no_items, item}
use Rattle.serde_json.specs.Read.{read}
use Rattle.serde_json.specs.Find.{as_array, as_number, as_str, as_u64, get, as_bool}
use Rattle.gen1_tables.specs.Names.{species_named, move_named}
use Rattle.gen1_stats.specs.Teams.{Sheet as MemberSheet}
use Rattle.gen1_machine.specs.declared.side.Side.{Side}
use Rattle.gen1_machine.specs.declared.side.Side.TheVariants.{One, Two}
use Rattle.gen1_machine.specs.Rules.{Rules, no_rules, rules_of as rules_of_bits}
use Rattle.battle_input.specs.NoJson.{no_json}
use Rattle.battle_input.specs.declared.fault.JsonFault.{JsonFault}
use Rattle.battle_input.specs.declared.fault.JsonFault.TheVariants.{Value}
use Rattle.battle_input.specs.declared.fault.SheetFault.{SheetFault}
use Rattle.battle_input.specs.declared.fault.SheetFault.TheVariants.{Json, Memory}
use Rattle.battle_input.specs.declared.sheet.BattleSheet.{BattleSheet}
use Rattle.battle_input.specs.declared.sheet.Sheet.{Sheet}
use Rattle.battle_input.specs.declared.sheet.CalcSheet.{CalcSheet}
use Rattle.battle_input.specs.declared.fault.Key.TheVariants as keys
use Rattle.battle_input.specs.declared.fault.Expected.TheVariants as expectations

-- Where a value is not as expected, and what is expected there (docs/PROGRAM.md, "Explanations").

abbrev pub name_of : Key → List ℕ
name_of keys.Seed = codes "seed"
name_of keys.One = codes "one"
name_of keys.Two = codes "two"
name_of keys.Rules = codes "rules"
name_of keys.Limit = codes "limit"
name_of keys.Choices = codes "choices"
name_of keys.Submissions = codes "submissions"
name_of keys.Attacker = codes "attacker"
name_of keys.Defender = codes "defender"
name_of keys.Move = codes "move"
name_of keys.Critical = codes "critical"
name_of keys.Species = codes "species"
name_of keys.Level = codes "level"
name_of keys.Dvs = codes "dvs"
name_of keys.Exp = codes "exp"
name_of keys.Moves = codes "moves"

-- the value itself is not as expected
abbrev pub expects : Expected → Misfit
expects e = record { path = []; expected = e }

-- what is wrong in a value, seen from the value that a step goes into
abbrev pub inside : {A : Type 0} → Step → Result A Misfit → Result A Misfit
inside step (Ok x) = Ok x
inside step (Err m) = Err (record { path = step ∷ m.path; expected = m.expected })

-- a function of what was read, if nothing is wrong with it

abbrev pub and_then : {A B E : Type 0} → (A → Result B E) → Result A E → Result B E
and_then f (Ok x) = f x
and_then f (Err e) = Err e

abbrev pub mapped : {A B E : Type 0} → (A → B) → Result A E → Result B E
mapped f (Ok x) = Ok (f x)
mapped f (Err e) = Err e

-- a path of at most this many steps
abbrev pub IsShort : {A : Type 0} → ℕ → Result A Misfit → Type 0
IsShort n (Ok x) = Unit {0}
IsShort n (Err m) = length m.path ≤ n

abbrev pub step_text : Step → List ℕ
step_text (Of key) = codes "." ++ name_of key
step_text (At number) = codes "[" ++ decimal number ++ codes "]"

-- such as `.one[2].moves[1][0]`
abbrev pub path_text : List Step → List ℕ
path_text [] = codes "."
path_text (step ∷ steps) = flat_map step_text (step ∷ steps)

abbrev pub expected_text : Expected → List ℕ
expected_text (expectations.With key) = codes "an object with the key \"" ++ name_of key ++ codes "\""
expected_text expectations.List = codes "a list"
expected_text (expectations.Items count) = codes "a list of " ++ decimal count ++ codes " items"
expected_text expectations.FewMoves = codes "a list of at most 4 moves"
expected_text expectations.Byte = codes "a whole number from 0 to 255"
expected_text expectations.Word = codes "a whole number from 0 to 65535"
expected_text expectations.Long = codes "a whole number from 0 to 4294967295"
expected_text expectations.Side = codes "the number of a side, 1 or 2"
expected_text expectations.Rules = codes "a whole number from 0 to 3"
expected_text expectations.Limit = codes "a whole number from 1 to 9999"
expected_text expectations.Species = codes "the name of a species"
expected_text expectations.Move = codes "the name of a move"
expected_text expectations.Truth = codes "true or false"

pub record BattleData : Type 0 where
  pub seed : List ℕ
  pub one : List MemberSheet
  pub two : List MemberSheet
  pub rules : Rules
  pub limit : ℕ

-- the value, or that it is not as expected
abbrev pub or_expected : {A : Type 0} → Expected → Option A → Result A Misfit
or_expected e found = ok_or found (expects e)

-- each item, numbered from n, up to the first that is not as expected
abbrev pub each_from : {A : Type 0} → ℕ → (Data → Result A Misfit) → Items → Result (List A) Misfit
each_from n f no_items = Ok []
each_from n f (item d ds) = and_then (λ x. mapped (λ xs. x ∷ xs) (each_from (n + 1) f ds)) (inside (At n) (f d))

abbrev pub list_of : {A : Type 0} → (Data → Result A Misfit) → Data → Result (List A) Misfit
list_of f d = and_then (each_from 0 f) (or_expected expectations.List (as_array d))

abbrev pub count_of : Items → ℕ
count_of no_items = 0
count_of (item d ds) = count_of ds + 1

-- a whole number below a bound
abbrev pub number_below : ℕ → Data → Option ℕ
number_below bound d = option_and_then (λ n. if nat_lt n bound then Some n else None) (option_and_then as_u64 (as_number d))

abbrev pub byte_of : Data → Result ℕ Misfit
byte_of d = or_expected expectations.Byte (number_below 256 d)

abbrev pub word_of : Data → Result ℕ Misfit
word_of d = or_expected expectations.Word (number_below 65536 d)

abbrev pub long_of : Data → Result ℕ Misfit
long_of d = or_expected expectations.Long (number_below 4294967296 d)

-- a list of this many numbers
abbrev pub numbers_of : (Data → Result ℕ Misfit) → ℕ → Data → Result (List ℕ) Misfit
numbers_of f n d =
    and_then (each_from 0 f) (or_expected (expectations.Items n) (option_and_then (λ ds. if count_of ds == n then Some ds else None) (as_array d)))

-- the two items of an array
abbrev pub both_of : {A B : Type 0} → (Data → Result A Misfit) → (Data → Result B Misfit) → Items → Result (A × B) Misfit
both_of f g (item d (item e no_items)) = and_then (λ x. mapped (λ y. (x, y)) (inside (At 1) (g e))) (inside (At 0) (f d))
both_of f g ds = Err (expects (expectations.Items 2))

abbrev pub pair_of : Data → Result (ℕ × ℕ) Misfit
pair_of d = and_then (both_of byte_of byte_of) (or_expected (expectations.Items 2) (as_array d))

abbrev pub side_numbered : ℕ → Option Side
side_numbered n = if n == 1 then Some One else if n == 2 then Some Two else None

abbrev pub side_of : Data → Result Side Misfit
side_of d = or_expected expectations.Side (option_and_then side_numbered (number_below 256 d))

-- the three items of an array
abbrev pub three_of : {A B C : Type 0} → (Data → Result A Misfit) → (Data → Result B Misfit) → (Data → Result C Misfit) → Items → Result (A × B × C) Misfit
three_of f g h (item d (item e (item i no_items))) =
    and_then (λ x. and_then (λ y. mapped (λ z. (x, y, z)) (inside (At 2) (h i))) (inside (At 1) (g e))) (inside (At 0) (f d))
three_of f g h ds = Err (expects (expectations.Items 3))

-- a side, the number of the pair, and the byte of a choice
abbrev pub submission_of : Data → Result (Side × ℕ × ℕ) Misfit
submission_of d = and_then (three_of side_of long_of byte_of) (or_expected (expectations.Items 3) (as_array d))

abbrev pub species_of : Data → Result ℕ Misfit
species_of d = or_expected expectations.Species (option_and_then species_named (as_str d))

abbrev pub move_name_of : Data → Result ℕ Misfit
move_name_of d = or_expected expectations.Move (option_and_then move_named (as_str d))

-- a move by its name, and its PP ups
abbrev pub move_of : Data → Result (ℕ × ℕ) Misfit
move_of d = and_then (both_of move_name_of byte_of) (or_expected (expectations.Items 2) (as_array d))

abbrev pub moves_of : Data → Result (List (ℕ × ℕ)) Misfit
moves_of d =
    and_then (each_from 0 move_of) (or_expected expectations.FewMoves (option_and_then (λ ds. if nat_le (count_of ds) 4 then Some ds else None) (as_array d)))

-- the value under f in an object
abbrev pub field_of : {A : Type 0} → Key → (Data → Result A Misfit) → Data → Result A Misfit
field_of key f d = and_then (λ e. inside (Of key) (f e)) (or_expected (expectations.With key) (get (name_of key) d))

-- a key that may be absent, and its default
abbrev pub unless_absent : {A : Type 0} → Key → A → (Data → Result A Misfit) → Option Data → Result A Misfit
unless_absent key default f None = Ok default
unless_absent key default f (Some d) = inside (Of key) (f d)

-- 0 to 3: bits of the sleep clause and the freeze clause
abbrev pub rules_numbered : Data → Result Rules Misfit
rules_numbered d = or_expected expectations.Rules (option_and_then (λ n. if nat_le n 3 then Some (rules_of_bits n) else None) (number_below 256 d))

-- neither if it is absent
abbrev pub rules_of : Data → Result Rules Misfit
rules_of d = unless_absent keys.Rules no_rules rules_numbered (get (name_of keys.Rules) d)

-- 1 to 9,999 turns
abbrev pub limit_numbered : Data → Result ℕ Misfit
limit_numbered d = or_expected expectations.Limit (option_and_then (λ n. if nat_le 1 n && nat_le n 9999 then Some n else None) (number_below 65536 d))

-- 1,000 if it is absent
abbrev pub limit_of : Data → Result ℕ Misfit
limit_of d = unless_absent keys.Limit 1000 limit_numbered (get (name_of keys.Limit) d)

abbrev pub member_of : Data → Result MemberSheet Misfit
member_of d =
    and_then (λ species. and_then (λ level. and_then (λ dvs. and_then (λ exp. mapped
    (λ moves. record { species = species; level = level; dvs = dvs; exp = exp; moves = moves })
    (field_of keys.Moves moves_of d)) (field_of keys.Exp (numbers_of word_of 5) d))
    (field_of keys.Dvs (numbers_of byte_of 4) d)) (field_of keys.Level byte_of d))
    (field_of keys.Species species_of d)

abbrev pub battle_of : Data → Result BattleData Misfit
battle_of d =
    and_then (λ seed. and_then (λ one. and_then (λ two. and_then (λ rules. mapped
    (λ limit. record { seed = seed; one = one; two = two; rules = rules; limit = limit })
    (limit_of d)) (rules_of d)) (field_of keys.Two (list_of member_of) d))
    (field_of keys.One (list_of member_of) d)) (field_of keys.Seed (numbers_of byte_of 10) d)

-- a battle, and a list under a key
abbrev pub sheet_of : {A : Type 0} → Key → (Data → Result A Misfit) → Data → Result (BattleData × List A) Misfit
sheet_of key meaning d = and_then (λ battle. mapped (λ items. (battle, items)) (field_of key (list_of meaning) d)) (battle_of d)

-- the JSON value of the bytes, or that they are not JSON
abbrev pub json_of : List ℕ → Result Data JsonFault
json_of bytes = if is_utf8 bytes then ok_or (read bytes) (no_json bytes) else Err (no_json bytes)

-- what is wrong with the value of an input
abbrev pub of_value : {A : Type 0} → Result A Misfit → Result A JsonFault
of_value (Ok x) = Ok x
of_value (Err m) = Err (Value m)

-- what a JSON input asks for, by its value
abbrev pub input_of : {A : Type 0} → (Data → Result A Misfit) → List ℕ → Result A JsonFault
input_of f bytes = and_then (λ d. of_value (f d)) (json_of bytes)

-- A request as the code holds it (docs/PROGRAM.md, "Input").

abbrev pub battle_view : BattleSheet → BattleData
battle_view s = record { seed = s.seed; one = s.one.items; two = s.two.items; rules = s.rules; limit = s.limit }

-- with a list next to it
abbrev pub sheet_view : {A : Type 0} → Sheet A → BattleData × List A
sheet_view s = (battle_view s.battle, s.items.items)

-- What a function returned, seen through `view`, is this, unless memory ran out.
abbrev pub Gives : {X Y : Type 0} → (X → Y) → Result X SheetFault → Result Y JsonFault → Type 0
Gives view (Ok x) r = r ≡ Ok (view x)
Gives view (Err (Json fault)) r = r ≡ Err fault
Gives view (Err Memory) r = Unit {0}

-- What a JSON value asks `calc` for: two members, a move, and whether the hit is critical (docs/PROGRAM.md, "calc", "JSON, to
-- the letter").

abbrev pub truth_of : Data → Result Bool Misfit
truth_of d = or_expected expectations.Truth (as_bool d)

abbrev pub calc_sheet_of : Data → Result CalcSheet Misfit
calc_sheet_of d =
    and_then (λ attacker. and_then (λ defender. and_then (λ id. mapped
    (λ critical. record { attacker = attacker; defender = defender; id = id; critical = critical })
    (field_of keys.Critical truth_of d)) (field_of keys.Move move_name_of d))
    (field_of keys.Defender member_of d)) (field_of keys.Attacker member_of d)
