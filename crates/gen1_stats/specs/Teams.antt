-- Members as they are specified, what they become, and why a list of members isn't a team (docs/MECHANICS.md,
-- "Teams").
use Rattle.std.specs.Prelude.{List, [], replicate, ℕ, Bool, None, Option, Some, false, if◌then◌else◌, length, map, nat_lt, slice_index, ◌+◌, ◌==◌, ◌||◌, ◌∷◌}
use Rattle.std.specs.List.{list_any}
use Rattle.std.specs.Option.{option_or}
use Rattle.gen1_tables.specs.Moves.{move_row, struggle}
use Rattle.gen1_tables.specs.Species.{species_row}
use Rattle.gen1_stats.specs.declared.member.KnownMove.{KnownMove}
use Rattle.gen1_stats.specs.declared.team.TeamRefusal.{TeamRefusal}
use Rattle.gen1_stats.specs.declared.team.TeamRefusal.TheVariants.{Dv, Empty, Level, MoveLeftOut, NoMove, PpUps, RepeatedMove, StruggleChosen, TooMany}
use Rattle.gen1_stats.specs.declared.member.Status.TheVariants.{Healthy}
use Rattle.gen1_stats.specs.Members.{Member, is_left_out}
use Rattle.gen1_stats.specs.Stats.{full_pp, hp_dv, hp_stat, stat}

-- The specification of a member (docs/MECHANICS.md, "Teams").

-- DVs of Attack, Defense, Speed and Special, experience of HP and of these four, and moves with their PP ups.
pub record Sheet : Type 0 where
  pub species : ℕ
  pub level : ℕ
  pub dvs : List ℕ
  pub exp : List ℕ
  pub moves : List (ℕ × ℕ)

-- A sheet that no team accepts. It fills the unused places of a list of sheets.
abbrev pub least_sheet : Sheet
least_sheet = record { species = 1; level = 1; dvs = replicate 4 0; exp = replicate 5 0; moves = [] }

-- A move with its PP at the beginning of a battle.
abbrev pub known_of : ℕ × ℕ → KnownMove
known_of chosen = record { id = chosen.0; pp = full_pp (move_row chosen.0).pp chosen.1 }

abbrev pub dv : ℕ → Sheet → ℕ
dv k s = slice_index s.dvs k

abbrev pub max_of : Sheet → ℕ
max_of s = hp_stat (species_row s.species).hp (hp_dv (dv 0 s) (dv 1 s) (dv 2 s) (dv 3 s)) (slice_index s.exp 0) s.level

-- One of the four stats, by its place among the DVs.
abbrev pub stat_of : ℕ → ℕ → Sheet → ℕ
stat_of k base s = stat base (dv k s) (slice_index s.exp (k + 1)) s.level

-- A member at the beginning of a battle, unhurt and healthy.
abbrev pub member_of : Sheet → Member
member_of s = let row = species_row s.species in record {
  species = s.species;
  level = s.level;
  max = max_of s;
  hp = max_of s;
  attack = stat_of 0 row.attack s;
  defense = stat_of 1 row.defense s;
  speed = stat_of 2 row.speed s;
  special = stat_of 3 row.special s;
  status = Healthy;
  moves = map known_of s.moves;
}

abbrev pub team_of : List Sheet → List Member
team_of sheets = map member_of sheets

-- Whether a move occurs twice among the chosen moves.
abbrev pub repeats : List (ℕ × ℕ) → Bool
repeats [] = false
repeats (first ∷ later) = list_any (λ chosen. chosen.0 == first.0) later || repeats later

-- The tests of a member in order, each with the refusal for it.
abbrev pub tests : ℕ → Sheet → List (Bool × TeamRefusal)
tests place s =
    (s.level == 0 || nat_lt 100 s.level, Level place)
    ∷ (list_any (λ dv. nat_lt 15 dv) s.dvs, Dv place)
    ∷ (length s.moves == 0, NoMove place)
    ∷ (list_any (λ chosen. is_left_out chosen.0) s.moves, MoveLeftOut place)
    ∷ (list_any (λ chosen. chosen.0 == struggle) s.moves, StruggleChosen place)
    ∷ (repeats s.moves, RepeatedMove place)
    ∷ (list_any (λ chosen. nat_lt 3 chosen.1) s.moves, PpUps place) ∷ []

abbrev pub first_failed : List (Bool × TeamRefusal) → Option TeamRefusal
first_failed [] = None
first_failed (test ∷ more) = if test.0 then Some test.1 else first_failed more

-- Why a member is refused at its place.
abbrev pub member_refusal : ℕ → Sheet → Option TeamRefusal
member_refusal place s = first_failed (tests place s)

-- The refusal of the first member that is refused. The list begins at this place.
abbrev pub first_refusal : ℕ → List Sheet → Option TeamRefusal
first_refusal place [] = None
first_refusal place (s ∷ sheets) = option_or (member_refusal place s) (first_refusal (place + 1) sheets)

-- Why a list of members isn't a team, or `None` if it is.
abbrev pub team_refusal : List Sheet → Option TeamRefusal
team_refusal sheets =
    if length sheets == 0 then Some Empty
    else (if nat_lt 6 (length sheets) then Some TooMany else first_refusal 1 sheets)
