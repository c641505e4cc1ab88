-- Random teams, and the sample teams (docs/MECHANICS.md, "Random teams").
use Rattle.std.specs.Prelude.{All, AllPairs, Bool, List, None, Option, Some, [], filter, if◌then◌else◌, length, map, nat_lt, not, remove, replicate, slice_index_or, suc, true, zero, ℕ, ◌%◌, ◌*◌, ◌++◌, ◌+◌, ◌-◌, ◌/◌, ◌==◌, ◌^◌, ◌∷◌, ◌≡◌, ◌≢◌, ◌≤◌}
use Rattle.std.specs.List.{list_any}
use Rattle.gen1_playouts.specs.Playouts.{next_state}
use Rattle.gen1_random.specs.declared.teams.Pool.{Pool}
use Rattle.gen1_random.specs.declared.teams.Pool.TheVariants.{Moves, SampleSpecies, Samples, Species}
use Rattle.gen1_random.specs.declared.sample_rows.TheConstants.{SAMPLE_ROWS}
use Rattle.gen1_stats.specs.Members.{IsBetween, is_left_out}
use Rattle.gen1_rolls.specs.Streams.{iterate}
use Rattle.gen1_random.specs.declared.teams.DrawnFrom.{DrawnFrom}
use Rattle.gen1_stats.specs.declared.team.TeamRefusal.{TeamRefusal}
use Rattle.gen1_stats.specs.declared.team.TeamRefusal.TheVariants.{Empty, TooMany}
use Rattle.gen1_stats.specs.Teams.{Sheet, team_refusal}
use Rattle.gen1_random.specs.declared.teams.DrawnFrom.TheVariants as from

-- the species and the moves of a member of the sample teams, by its row from 1
abbrev pub sample : ℕ → ℕ × List ℕ
sample row = slice_index_or SAMPLE_ROWS (row - 1) (0, [])

abbrev pub last : Pool → ℕ
last Species = 151
last SampleSpecies = 151
last (Samples species) = 72
last Moves = 164

abbrev pub has : Pool → ℕ → Bool
has Species n = true
has SampleSpecies n = list_any (λ row. row.0 == n) SAMPLE_ROWS
has (Samples species) n = (sample n).0 == species
has Moves n = not (is_left_out n)

-- the numbers from 1 to n
abbrev pub numbers_to : ℕ → List ℕ
numbers_to zero = []
numbers_to (suc n) = numbers_to n ++ suc n ∷ []

unfoldable pub numbers_in : Pool → List ℕ
numbers_in pool = filter (has pool) (numbers_to (last pool))

-- the index that is drawn: the upper 32 bits, modulo the number of items
abbrev pub index_of : ℕ → List ℕ → ℕ
index_of random numbers = next_state random / 2 ^ 32 % length numbers

abbrev pub taken : ℕ → List ℕ → ℕ
taken random numbers = slice_index_or numbers (index_of random numbers) 0

abbrev pub others : ℕ → List ℕ → List ℕ
others random numbers = remove numbers (index_of random numbers)

-- a member with a species and moves; its other values are those of a text that leaves them out (docs/TEAM_TEXT.md)
abbrev pub sheet_of : ℕ × List ℕ → Sheet
sheet_of row = record {
  species = row.0;
  level = 100;
  dvs = replicate 4 15;
  exp = replicate 5 63504;
  moves = map (λ id. (id, 3)) row.1;
}

-- numbers that were drawn, those that are left, and the state of the generator
pub record Draws : Type 0 where
  pub drawn : List ℕ
  pub left : List ℕ
  pub random : ℕ

unfoldable pub one_draw : Draws → Draws
one_draw d = record {
  drawn = d.drawn ++ taken d.random d.left ∷ [];
  left = others d.random d.left;
  random = next_state d.random;
}

-- different moves among all that a member may know
abbrev pub moves_drawn : ℕ → ℕ → Draws
moves_drawn count random = iterate count one_draw (record { drawn = []; left = numbers_in Moves; random = random })

-- a member, and the state of the generator after it
pub record OneMember : Type 0 where
  pub sheet : Sheet
  pub random : ℕ

-- a member of a species: one of the sample teams, or one with four moves that are drawn
abbrev pub member_drawn : DrawnFrom → ℕ → ℕ → OneMember
member_drawn from.Samples species random = record {
  sheet = sheet_of (sample (taken random (numbers_in (Samples species))));
  random = next_state random;
}
member_drawn from.All species random =
    let moves = moves_drawn 4 random in record { sheet = sheet_of (species, moves.drawn); random = moves.random }

abbrev pub species_of : DrawnFrom → Pool
species_of from.Samples = SampleSpecies
species_of from.All = Species

-- a species that may be drawn
abbrev pub IsDrawnFrom : DrawnFrom → ℕ → Type 0
IsDrawnFrom from.Samples species = 1 ≤ length (numbers_in (Samples species))
IsDrawnFrom from.All species = IsBetween 1 151 species

-- members, the species that are left, and the state of the generator
pub record Draft : Type 0 where
  pub team : List Sheet
  pub left : List ℕ
  pub random : ℕ

-- a member: first its species is drawn, then the rest of it
unfoldable pub one_more : DrawnFrom → Draft → Draft
one_more pool d =
    let one = member_drawn pool (taken d.random d.left) (next_state d.random) in
    record { team = d.team ++ one.sheet ∷ []; left = others d.random d.left; random = one.random }

abbrev pub draft : DrawnFrom → ℕ → ℕ → Draft
draft pool seed count = iterate count (one_more pool) (record { team = []; left = numbers_in (species_of pool); random = seed })

-- why a team can't have this many members
abbrev pub size_refusal : ℕ → Option TeamRefusal
size_refusal count = if count == 0 then Some Empty else if nat_lt 6 count then Some TooMany else None

-- a member of a random team: its numbers are of the tables, and it has four moves
pub record IsRandomMember (s : Sheet) : Type 0 where
  pub species : IsBetween 1 151 s.species
  pub four : length s.moves ≡ 4
  pub known : All (λ chosen. IsBetween 1 164 chosen.0) s.moves

-- a lawful team of this many members of different species
pub record IsRandomTeam (count : ℕ) (team : List Sheet) : Type 0 where
  pub size : length team ≡ count
  pub lawful : team_refusal team ≡ None
  pub species : AllPairs (λ a b. a.species ≢ b.species) team
  pub members : All IsRandomMember team

-- the members of a sample team, by its number from 1
unfoldable pub sample_team : ℕ → List Sheet
sample_team number = map (λ place. sheet_of (sample (6 * (number - 1) + place))) (numbers_to 6)
