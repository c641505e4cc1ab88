-- Species and moves by their names, where only letters and digits count, in either case (docs/TEAM_TEXT.md, "Names").
use Rattle.std.specs.Prelude.{List, None, Option, Some, bytes_eq, codes, filter, if◌then◌else◌, map, option_map, position, ℕ, ◌+◌}
use Rattle.std.specs.Char.{is_ascii_alphanumeric, to_ascii_lowercase}
use Rattle.std.specs.Option.{option_or}
use Rattle.gen1_tables.specs.Names.{move_names, species_names}

-- the letters and digits of a name, in lower case
abbrev pub id_of : List ℕ → List ℕ
id_of text = map to_ascii_lowercase (filter is_ascii_alphanumeric text)

-- the place, counted from 1, of the name with the same letters as a text
unfoldable pub place_called : List (List ℕ) → List ℕ → Option ℕ
place_called names text = option_map (λ index. index + 1) (position (λ name. bytes_eq (id_of name) (id_of text)) names)

unfoldable pub species_called : List ℕ → Option ℕ
species_called text = place_called species_names text

-- two moves have other names in later games: Vise Grip (11) was Vice Grip, High Jump Kick (136) was Hi Jump Kick
abbrev pub other_name : List ℕ → Option ℕ
other_name text =
    if bytes_eq (id_of (codes "Vise Grip")) (id_of text) then Some 11
    else if bytes_eq (id_of (codes "Hi Jump Kick")) (id_of text) then Some 136
    else None

unfoldable pub move_called : List ℕ → Option ℕ
move_called text = option_or (place_called move_names text) (other_name text)
