-- What the examples do: a viewer that shows a log, players in a room, and a calculation (docs/MECHANICS.md, "Log bytes", "Lines",
-- "Spectator's view").
use Rattle.std.specs.Prelude.{if◌then◌else◌, List, None, Option, ◌-◌, ◌==◌, ℕ, ◌++◌, ◌≡◌, true, Bool, [], count_by, nat_le, option_map, replicate, ◌∷◌}
use Rattle.std.specs.List.{slice_get}
use Rattle.gen1_stats.specs.Members.{Member}
use Rattle.gen1_machine.specs.View.{shown_at, SideView, sees_all, View}
use Rattle.uses.specs.declared.viewer.shown.Shown.{Shown}
use Rattle.std.specs.Io.KnownBytes.{Appends}
use Rattle.gen1_machine.specs.declared.event.Event.{Event}
use Rattle.gen1_machine.specs.Lines.{lines}
use Rattle.gen1_events.specs.Reader.{part, Reading, IsReading, Reads}
use Rattle.gen1_machine.specs.Room.{Advanced, AlreadyChosen, ChoiceNotOffered, Reply, RoomOver, Stale, TurnedAway, Waiting}
use Rattle.uses.specs.declared.two_players.choice.Next.{Next}
use Rattle.uses.specs.declared.two_players.choice.Next.TheVariants.{Choose, Leave, Look, Wait}
use Rattle.gen1_machine.specs.declared.side.Choice.{Choice}
use Rattle.gen1_machine.specs.State.{State, is_over, Field, first_state, member_in, usual_terms}
use Rattle.gen1_machine.specs.Step.{run, step}
use Rattle.gen1_layout.specs.Parts.{Parts}
use Rattle.gen1_layout.specs.Shows.{Stands}
use Rattle.gen1_engine.specs.declared.result.BattleResult.{BattleResult}
use Rattle.gen1_engine.specs.Update.{result_of}
use Rattle.gen1_stats.specs.Teams.{Sheet, team_of}
use Rattle.gen1_machine.specs.declared.side.Choice.TheVariants.{Pass}
use Rattle.gen1_machine.specs.declared.side.Side.{Side}
use Rattle.gen1_machine.specs.CriticalHits.{critical_bound_in}
use Rattle.gen1_machine.specs.Damage.{numbers_in}
use Rattle.gen1_machine.specs.HitTest.{scaled_in}
use Rattle.gen1_machine.specs.Moves.{Move, accuracy_byte}
use Rattle.gen1_machine.specs.Sides.{other}
use Rattle.gen1_hits.specs.DamageNumbers.{damages}
use Rattle.uses.specs.declared.calculator.Calculation.{Calculation}

-- HP and status are those of the view, species and maximum HP those of the team; place 0 has no member
abbrev pub shown_of : SideView → List Member → Option Shown
shown_of x team =
    if x.place == 0 then None else option_map (λ (m : Member). record {
      species = m.species;
      hp = (shown_at x.place x).hp;
      max_hp = m.max;
      status = (shown_at x.place x).kind;
    }) (slice_get team (x.place - 1))

-- A new reader that took these bytes returned events, which the view has applied and whose lines were written. It holds the bytes
-- after them, and no event waits.
pub record HasShown (taken : List ℕ) (reader : Reading) (first now : View) (before after : Option (List ℕ)) : Type 0 where
  pub events : List Event
  pub held : List ℕ
  pub holds : reader ≡ part held
  pub handed : Reads taken events reader
  pub told : now ≡ sees_all events first
  pub printed : Appends before after (lines events)

-- if the bytes so far were shown, then these are shown too
abbrev pub ShowsMore : List ℕ → Reading → View → Option (List ℕ) → Reading → View → Option (List ℕ) → Type 0
ShowsMore bytes reader view out reader' view' out' =
    (taken : List ℕ) (first : View) (before : Option (List ℕ))
    → HasShown taken reader first view before out → HasShown (taken ++ bytes) reader' first view' before out'

-- the bytes are a log, and its events were shown
pub record ShowsLog (log : List ℕ) (first now : View) (before after : Option (List ℕ)) : Type 0 where
  pub events : List Event
  pub reading : IsReading log events
  pub told : now ≡ sees_all events first
  pub printed : Appends before after (lines events)

-- A battle that was played to its end.

abbrev pub next_of : Reply → Next
next_of Waiting = Wait
next_of (Advanced outcome one two) = Look (record { outcome = outcome; request_one = one; request_two = two })
next_of (TurnedAway RoomOver) = Leave
next_of (TurnedAway (Stale current)) = Choose
next_of (TurnedAway AlreadyChosen) = Wait
next_of (TurnedAway ChoiceNotOffered) = Choose

-- from s, by some pairs of choices: the battle represents the state that the machine's run by them leads to, and that is over
pub record PlayedOut (s : State) (battle : Parts) (result : BattleResult) : Type 0 where
  pub pairs : List (Choice × Choice)
  pub stands : Stands battle (run s pairs).state
  pub tells : result ≡ result_of (run s pairs).state
  pub over : is_over (run s pairs).state.field.outcome ≡ true

-- The damage and odds of a move in the present state of a battle, in the machine's terms.

-- a battle of two members, after its first update
abbrev pub faced_off : Sheet → Sheet → State
faced_off attacker defender =
    (step (first_state usual_terms (team_of (attacker ∷ [])) (team_of (defender ∷ [])) (replicate 10 0)) Pass Pass).state

-- how many of these damages are at least the remaining HP
abbrev pub taking_all : ℕ → List ℕ → ℕ
taking_all hp = count_by (λ damage. nat_le hp damage)

-- the calculation for a list of damages, with hits and critical hits
abbrev pub calculation_of : Side → Move → Field → List ℕ → Calculation
calculation_of s move f list = record {
  damages = list;
  knock_outs = taking_all (member_in (other s) f).hp list;
  hits = scaled_in s (accuracy_byte move) f;
  criticals = critical_bound_in s move f;
}

-- none if the damage is divided by 0
unfoldable pub calculation_in : Side → Move → Bool → Field → Option Calculation
calculation_in s move critical f = option_map (calculation_of s move f) (damages (numbers_in s move critical f))
