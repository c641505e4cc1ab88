-- The refusals of a team (docs/MECHANICS.md, "Teams"): their numbers in the order of the tests, the place of the
-- member, and their texts.
use Rattle.std.specs.Prelude.{List, codes, if◌then◌else◌, ℕ, ◌++◌, ◌==◌}
use Rattle.std.specs.Fmt.{decimal}
use Rattle.gen1_stats.specs.declared.team.TeamRefusal.{TeamRefusal}
use Rattle.gen1_stats.specs.declared.team.TeamRefusal.TheVariants.{Dv, Empty, Level, MoveLeftOut, NoMove, PpUps, RepeatedMove, StruggleChosen, TooMany}

abbrev pub number_of : TeamRefusal → ℕ
number_of Empty = 1
number_of TooMany = 2
number_of (Level place) = 3
number_of (Dv place) = 4
number_of (NoMove place) = 5
number_of (MoveLeftOut place) = 6
number_of (StruggleChosen place) = 7
number_of (RepeatedMove place) = 8
number_of (PpUps place) = 9

-- The member's place, from 1. It is 0 if the number of members is wrong.
abbrev pub place_of : TeamRefusal → ℕ
place_of Empty = 0
place_of TooMany = 0
place_of (Level place) = place
place_of (Dv place) = place
place_of (NoMove place) = place
place_of (MoveLeftOut place) = place
place_of (StruggleChosen place) = place
place_of (RepeatedMove place) = place
place_of (PpUps place) = place

-- What is wrong, in words.
abbrev pub fault_of : TeamRefusal → List ℕ
fault_of Empty = codes "the team has no member"
fault_of TooMany = codes "the team has more than six members"
fault_of (Level place) = codes "the level is not 1 to 100"
fault_of (Dv place) = codes "a DV is above 15"
fault_of (NoMove place) = codes "there is no move"
fault_of (MoveLeftOut place) = codes "a move is left out of the engine"
fault_of (StruggleChosen place) = codes "Struggle can't be chosen"
fault_of (RepeatedMove place) = codes "a move stands twice"
fault_of (PpUps place) = codes "a move has more than three PP ups"

-- What is wrong, and where.
abbrev pub sentence_of : TeamRefusal → List ℕ
sentence_of refusal =
    if place_of refusal == 0 then fault_of refusal
    else (codes "member " ++ decimal (place_of refusal) ++ codes ": " ++ fault_of refusal)
