-- The types: their numbers, which of them are special, and the factors between them (docs/TABLES.md, "Types", "Type
-- rows").
use Rattle.std.specs.Prelude.{ℕ, List, [], ◌∷◌, Bool, true, false, filter, ◌==◌, ◌&&◌, ◌||◌, ◌%◌, ◌*◌, ◌/◌}
use Rattle.gen1_tables.specs.declared.types.Element.{Element}
use Rattle.gen1_tables.specs.declared.types.Element.TheVariants.{Normal, Fighting, Flying, Poison, Ground, Rock, Bug, Ghost, Fire, Water, Grass, Electric, Psychic, Ice, Dragon}

abbrev pub number_of : Element → ℕ
number_of Normal = 0
number_of Fighting = 1
number_of Flying = 2
number_of Poison = 3
number_of Ground = 4
number_of Rock = 5
number_of Bug = 6
number_of Ghost = 7
number_of Fire = 8
number_of Water = 9
number_of Grass = 10
number_of Electric = 11
number_of Psychic = 12
number_of Ice = 13
number_of Dragon = 14

abbrev pub same_type : Element → Element → Bool
same_type t u = number_of t == number_of u

-- Whether damage by the type uses Special against Special.
abbrev pub is_special : Element → Bool
is_special Fire = true
is_special Water = true
is_special Grass = true
is_special Electric = true
is_special Psychic = true
is_special Ice = true
is_special Dragon = true
is_special physical = false

-- Whether an element of a list passes a test.
abbrev pub any : {A : Type 0} → (A → Bool) → List A → Bool
any test [] = false
any test (a ∷ more) = test a || any test more

-- A row: a move's type, a foe's type, and the factor of the damage in tenths.
pub record TypeRow : Type 0 where
  pub attacker : Element
  pub defender : Element
  pub tenths : ℕ

abbrev row : Element → Element → ℕ → TypeRow
row t u n = record { attacker = t; defender = u; tenths = n }

-- A row of the code.
abbrev pub row_of : Element × Element × ℕ → TypeRow
row_of r = row r.0 r.1 r.2

-- The rows, in the order in which they apply.
unfoldable pub type_rows : List TypeRow
type_rows =
    row Water Fire 20 ∷
    row Fire Grass 20 ∷
    row Fire Ice 20 ∷
    row Grass Water 20 ∷
    row Electric Water 20 ∷
    row Water Rock 20 ∷
    row Ground Flying 0 ∷
    row Water Water 5 ∷
    row Fire Fire 5 ∷
    row Electric Electric 5 ∷
    row Ice Ice 5 ∷
    row Grass Grass 5 ∷
    row Psychic Psychic 5 ∷
    row Fire Water 5 ∷
    row Grass Fire 5 ∷
    row Water Grass 5 ∷
    row Electric Grass 5 ∷
    row Normal Rock 5 ∷
    row Normal Ghost 0 ∷
    row Ghost Ghost 20 ∷
    row Fire Bug 20 ∷
    row Fire Rock 5 ∷
    row Water Ground 20 ∷
    row Electric Ground 0 ∷
    row Electric Flying 20 ∷
    row Grass Ground 20 ∷
    row Grass Bug 5 ∷
    row Grass Poison 5 ∷
    row Grass Rock 20 ∷
    row Grass Flying 5 ∷
    row Ice Water 5 ∷
    row Ice Grass 20 ∷
    row Ice Ground 20 ∷
    row Ice Flying 20 ∷
    row Fighting Normal 20 ∷
    row Fighting Poison 5 ∷
    row Fighting Flying 5 ∷
    row Fighting Psychic 5 ∷
    row Fighting Bug 5 ∷
    row Fighting Rock 20 ∷
    row Fighting Ice 20 ∷
    row Fighting Ghost 0 ∷
    row Poison Grass 20 ∷
    row Poison Poison 5 ∷
    row Poison Ground 5 ∷
    row Poison Bug 20 ∷
    row Poison Rock 5 ∷
    row Poison Ghost 5 ∷
    row Ground Fire 20 ∷
    row Ground Electric 20 ∷
    row Ground Grass 5 ∷
    row Ground Bug 5 ∷
    row Ground Rock 20 ∷
    row Ground Poison 20 ∷
    row Flying Electric 5 ∷
    row Flying Fighting 20 ∷
    row Flying Bug 20 ∷
    row Flying Grass 20 ∷
    row Flying Rock 5 ∷
    row Psychic Fighting 20 ∷
    row Psychic Poison 20 ∷
    row Bug Fire 5 ∷
    row Bug Grass 20 ∷
    row Bug Fighting 5 ∷
    row Bug Flying 5 ∷
    row Bug Psychic 20 ∷
    row Bug Ghost 5 ∷
    row Bug Poison 20 ∷
    row Rock Fire 20 ∷
    row Rock Fighting 5 ∷
    row Rock Ground 5 ∷
    row Rock Flying 20 ∷
    row Rock Bug 20 ∷
    row Rock Ice 20 ∷
    row Ghost Normal 0 ∷
    row Ghost Psychic 0 ∷
    row Fire Dragon 5 ∷
    row Water Dragon 5 ∷
    row Electric Dragon 5 ∷
    row Grass Dragon 5 ∷
    row Ice Dragon 20 ∷
    row Dragon Dragon 20 ∷
    []

-- The rows that apply to a move of a type against a foe of two types. The two may be the same.
abbrev pub rows_against : Element → Element → Element → List TypeRow
rows_against t first second =
    filter (λ row. same_type row.attacker t && (same_type row.defender first || same_type row.defender second)) type_rows

-- The factors of at most two rows. A factor of 10 tenths leaves the damage as it is.
abbrev pub tenths_of : List TypeRow → ℕ × ℕ
tenths_of [] = (10, 10)
tenths_of (row ∷ []) = (row.tenths, 10)
tenths_of (row ∷ next ∷ more) = (row.tenths, next.tenths)

-- The factors of a foe's two types, as an element of the code's table has them.

-- Two factors in tenths. The element is 16 times the first factor plus the second, both in fifths.
abbrev pub in_tenths : ℕ → ℕ × ℕ
in_tenths factors = (factors / 16 * 5, factors % 16 * 5)
