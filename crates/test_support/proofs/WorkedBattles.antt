-- Worked examples: whole battles, and teams (docs/PROOFS.md, "Worked examples").
use Rattle.std.proofs.Common.{List, [], codes, flat_map, length, map, refl, true, ℕ, ◌++◌, ◌==◌, ◌∷◌, ◌≡◌, None, Option, Some, replicate}
use Rattle.gen1_machine.specs.declared.side.Side.{Side}
use Rattle.gen1_machine.specs.declared.side.Side.TheVariants.{One, Two}
use Rattle.gen1_machine.specs.declared.side.Choice.{Choice}
use Rattle.gen1_machine.specs.Rules.{no_rules}
use Rattle.gen1_machine.specs.LogBytes.{codes_of}
use Rattle.gen1_machine.specs.Lines.{lines}
use Rattle.gen1_machine.specs.State.{usual_terms, first_state, State}
use Rattle.gen1_machine.specs.Step.{events_of, step, run, Answer, Stepped, Ran, Over, NotOffered, Refused}
use Rattle.gen1_machine.specs.View.{shown_at, first_view, sees_all, View}
use Rattle.gen1_machine.specs.Room.{room_of, replies_of, Submission, Stale, AlreadyChosen, ChoiceNotOffered, Waiting, Advanced, TurnedAway}
use Rattle.gen1_machine.specs.Layout.{bytes_of}
use Rattle.gen1_machine.proofs.Computing.{computing}
use Rattle.test_support.proofs.Reports.{as_number}
use Rattle.gen1_machine.proofs.WorkedRules.{tauros, knowing}
use Rattle.gen1_stats.specs.declared.team.TeamRefusal.{TeamRefusal}
use Rattle.gen1_stats.specs.declared.team.TeamRefusal.TheVariants.{Dv, Empty, Level, MoveLeftOut, NoMove, PpUps, RepeatedMove, StruggleChosen, TooMany}
use Rattle.gen1_stats.specs.Teams.{Sheet, team_of, team_refusal}
use Rattle.gen1_machine.specs.declared.terms.Outcome.TheVariants as outcomes
use Rattle.gen1_machine.specs.declared.terms.Request.TheVariants as requests
use Rattle.gen1_machine.specs.declared.side.Choice.TheVariants as choices

abbrev two_tauros : ℕ → State
two_tauros limit = first_state (record { rules = no_rules; limit = limit }) (tauros ∷ []) (tauros ∷ [])
    (1 ∷ 36 ∷ 255 ∷ 7 ∷ 31 ∷ 100 ∷ 179 ∷ 254 ∷ 127 ∷ 10 ∷ [])

abbrev three_pairs : List (Choice × Choice)
three_pairs = (choices.Pass, choices.Pass) ∷ (choices.Move 1, choices.Move 1) ∷ (choices.Move 1, choices.Move 1) ∷ []

abbrev texts : Ran → List ℕ
texts r = flat_map (λ answer. lines (events_of answer)) r.answers

abbrev log_lengths : Ran → List ℕ
log_lengths r = map (λ answer. length (codes_of (events_of answer))) r.answers

-- Two Tauros, to the end (docs/MECHANICS.md, "Action", "Lines")

abbrev the_battle : Ran
the_battle = run (two_tauros 1000) three_pairs

lines_of_the_battle : texts the_battle ≡
    codes "|switch|p1a: Tauros|Tauros|353/353\n"
    ++ codes "|switch|p2a: Tauros|Tauros|353/353\n"
    ++ codes "|turn|1\n"
    ++ codes "|move|p1a: Tauros|Strength|p2a: Tauros\n"
    ++ codes "|-crit|p2a: Tauros\n"
    ++ codes "|-damage|p2a: Tauros|149/353\n"
    ++ codes "|move|p2a: Tauros|Strength|p1a: Tauros\n"
    ++ codes "|-damage|p1a: Tauros|263/353\n"
    ++ codes "|turn|2\n"
    ++ codes "|move|p1a: Tauros|Strength|p2a: Tauros\n"
    ++ codes "|-crit|p2a: Tauros\n"
    ++ codes "|-damage|p2a: Tauros|0 fnt\n"
    ++ codes "|faint|p2a: Tauros\n"
    ++ codes "|win|p1\n"
unfolding computing
lines_of_the_battle = refl

logs_of_the_battle : log_lengths the_battle ≡ 23 ∷ 36 ∷ 23 ∷ []
unfolding computing
logs_of_the_battle = refl

-- The log of the first update (docs/MECHANICS.md, "Log bytes", "Switching in").
first_log : codes_of (events_of (step (two_tauros 1000) choices.Pass choices.Pass).answer) ≡
    0x02 ∷ 0x01 ∷ 0x80 ∷ 0x01 ∷ 0x64 ∷ 0x61 ∷ 0x01 ∷ 0x61 ∷ 0x01 ∷ 0x00 ∷ 0x02 ∷ 0x02 ∷ 0x80 ∷ 0x01 ∷ 0x64 ∷ 0x61 ∷ 0x01 ∷ 0x61
    ∷ 0x01 ∷ 0x00 ∷ 0x01 ∷ 0x01 ∷ 0x00 ∷ []
unfolding computing
first_log = refl

-- What a spectator sees of it (docs/MECHANICS.md, "Spectator's view").
abbrev seen : View
seen = sees_all (flat_map events_of the_battle.answers) (first_view (tauros ∷ []) (tauros ∷ []))

view_of_the_battle : (seen.one.place ∷ seen.two.place ∷ (shown_at 1 seen.one).hp ∷ (shown_at 1 seen.two).hp ∷ seen.turn ∷ [] ≡ 1 ∷ 1 ∷ 263 ∷ 0 ∷ 2 ∷ [])
    × (seen.outcome ≡ outcomes.WinOne)
unfolding computing
view_of_the_battle = (refl, refl)

-- A choice that isn't offered changes nothing (docs/MECHANICS.md, "Offered choices")

abbrev begun : State
begun = (step (two_tauros 1000) choices.Pass choices.Pass).state

abbrev wrong_slot : Stepped
wrong_slot = step begun (choices.Move 4) (choices.Move 1)

abbrev bytes_number : State → ℕ
bytes_number s = as_number (bytes_of s)

not_offered : (wrong_slot.answer ≡ Refused (NotOffered One)) × (bytes_number wrong_slot.state == bytes_number begun ≡ true)
unfolding computing
not_offered = (refl, refl)

-- The last turn ends without a winner (docs/MECHANICS.md, "Falls and requests", "Turn limit"): the battle is a tie,
-- and is over

abbrev at_the_last_turn : State
at_the_last_turn = record begun { field = record begun.field { turn = 1000 } }

abbrev after_the_last_turn : Ran
after_the_last_turn = run at_the_last_turn ((choices.Move 1, choices.Move 1) ∷ (choices.Move 1, choices.Move 1) ∷ [])

abbrev last_answer : List Answer → Answer
last_answer [] = Refused Over
last_answer (answer ∷ []) = answer
last_answer (answer ∷ next ∷ more) = last_answer (next ∷ more)

last_turn_is_a_tie : (after_the_last_turn.state.field.outcome ≡ outcomes.Tie) × (last_answer after_the_last_turn.answers ≡ Refused Over)
    × (length (codes_of (flat_map events_of after_the_last_turn.answers)) ≡ 34)
unfolding computing
last_turn_is_a_tie = (refl, refl, refl)

-- The last members fall by an explosion (docs/MECHANICS.md, "Falls and requests", "Recoil, drain and explosion"): a
-- tie

abbrev last_explosion : Ran
last_explosion = run
    (first_state usual_terms (knowing 153 5 ∷ []) (record tauros { hp = 1 } ∷ []) (1 ∷ 36 ∷ 255 ∷ 7 ∷ 31 ∷ 100 ∷ 179 ∷ 254 ∷ 127 ∷ 10 ∷ []))
    ((choices.Pass, choices.Pass) ∷ (choices.Move 1, choices.Move 1) ∷ [])

explosion_is_a_tie : last_explosion.state.field.outcome ≡ outcomes.Tie
unfolding computing
explosion_is_a_tie = refl

-- A last turn of 1 (docs/MECHANICS.md, "Turn limit"): the lines of the first turn, then a tie

abbrev short_battle : Ran
short_battle = run (two_tauros 1) three_pairs

limit_of_1 : (log_lengths short_battle ≡ 23 ∷ 34 ∷ 0 ∷ []) × (short_battle.state.field.outcome ≡ outcomes.Tie)
    × (last_answer short_battle.answers ≡ Refused Over)
unfolding computing
limit_of_1 = (refl, refl, refl)

-- A room, submission by submission (docs/MECHANICS.md, "Rooms")

abbrev submission : Side → ℕ → ℕ → Submission
submission s number byte = record { side = s; number = number; byte = byte }

abbrev submissions : List Submission
submissions = submission One 0 0x11 ∷ submission One 0 0x11 ∷ submission Two 1 0x11 ∷ submission Two 0 0x11 ∷ submission Two 0 0x11
    ∷ submission One 1 0x14 ∷ []

room_replies : replies_of (room_of (two_tauros 1000)) submissions ≡
    Waiting ∷ TurnedAway AlreadyChosen ∷ TurnedAway (Stale 0) ∷ Advanced outcomes.Ongoing requests.Move requests.Move
    ∷ TurnedAway (Stale 1) ∷ TurnedAway ChoiceNotOffered ∷ []
unfolding computing
room_replies = refl

-- Worked examples: teams (docs/PROOFS.md, "Worked examples").

-- A Tauros with full DVs and experience, at a level and with moves, each with its PP ups.
abbrev asked_for : ℕ → List (ℕ × ℕ) → Sheet
asked_for level moves = record { species = 128; level = level; dvs = replicate 4 15; exp = replicate 5 65535; moves = moves }

abbrev good : Sheet
good = asked_for 100 ((70, 3) ∷ [])

-- The members of a team (docs/MECHANICS.md, "Teams"): unhurt and healthy. Strength has 15 PP, and 3 more for each PP
-- up, so 24

team_as_it_begins : team_of (good ∷ []) ≡ tauros ∷ []
unfolding computing
team_as_it_begins = refl

-- Each refusal alone: levels 0 and 101, a DV of 16, Metronome, Mimic, Mirror Move and Transform, Struggle, Strength
-- twice, four PP ups

abbrev alone : ℕ → List (ℕ × ℕ) → Option TeamRefusal
alone level moves = team_refusal (asked_for level moves ∷ [])

how_many_members : team_refusal [] ∷ team_refusal (replicate 7 good) ∷ team_refusal (replicate 6 good) ∷ team_refusal (good ∷ []) ∷ []
    ≡ Some Empty ∷ Some TooMany ∷ None ∷ None ∷ []
unfolding computing
how_many_members = refl

levels_and_dvs : map (λ level. alone level ((70, 3) ∷ [])) (0 ∷ 1 ∷ 100 ∷ 101 ∷ []) ≡ Some (Level 1) ∷ None ∷ None ∷ Some (Level 1) ∷ []
unfolding computing
levels_and_dvs = refl

a_dv_of_16 : team_refusal (record good { dvs = 15 ∷ 15 ∷ 15 ∷ 16 ∷ [] } ∷ []) ≡ Some (Dv 1)
unfolding computing
a_dv_of_16 = refl

moves_that_are_left_out : map (λ move. alone 100 ((move, 0) ∷ [])) (118 ∷ 102 ∷ 119 ∷ 144 ∷ 165 ∷ 70 ∷ [])
    ≡ Some (MoveLeftOut 1) ∷ Some (MoveLeftOut 1) ∷ Some (MoveLeftOut 1) ∷ Some (MoveLeftOut 1) ∷ Some (StruggleChosen 1) ∷ None ∷ []
unfolding computing
moves_that_are_left_out = refl

other_moves : alone 100 [] ∷ alone 100 ((70, 0) ∷ (34, 0) ∷ (70, 1) ∷ []) ∷ alone 100 ((70, 3) ∷ (34, 4) ∷ []) ∷ []
    ≡ Some (NoMove 1) ∷ Some (RepeatedMove 1) ∷ Some (PpUps 1) ∷ []
unfolding computing
other_moves = refl

-- The order of the tests: the number of members is tested first. Then each member takes all its tests before the next
-- member, and each test covers all moves before the next test

first_refusals : team_refusal (asked_for 0 [] ∷ replicate 6 good) ∷ alone 0 [] ∷ alone 100 ((70, 4) ∷ (165, 0) ∷ (70, 0) ∷ [])
    ∷ alone 100 ((165, 0) ∷ (118, 0) ∷ []) ∷ team_refusal (asked_for 100 ((70, 4) ∷ []) ∷ asked_for 0 [] ∷ [])
    ∷ team_refusal (good ∷ good ∷ asked_for 100 ((70, 4) ∷ (70, 0) ∷ []) ∷ asked_for 0 [] ∷ []) ∷ []
    ≡ Some TooMany ∷ Some (Level 1) ∷ Some (StruggleChosen 1) ∷ Some (MoveLeftOut 1) ∷ Some (PpUps 1) ∷ Some (RepeatedMove 3) ∷ []
unfolding computing
first_refusals = refl
