-- What the calls of a battle return in C, in the abstract machine's words (docs/PROVED.md).
use Rattle.std.specs.Prelude.{List, [], length, map, take, ℕ, ◌≡◌, ◌∷◌}
use Rattle.gen1_stats.specs.Members.{Member}
use Rattle.gen1_stats.specs.Teams.{team_of}
use Rattle.gen1_machine.specs.declared.side.Choice.{Choice}
use Rattle.gen1_machine.specs.declared.side.Side.TheVariants.{One, Two}
use Rattle.gen1_machine.specs.Choices.{byte_of_choice}
use Rattle.gen1_machine.specs.Layout.{bytes_of}
use Rattle.gen1_machine.specs.LogBytes.{codes_of}
use Rattle.gen1_machine.specs.OfferedChoices.{offered}
use Rattle.gen1_machine.specs.Rules.{rules_of}
use Rattle.gen1_machine.specs.State.{State, Terms, first_state}
use Rattle.gen1_machine.specs.Step.{Accepted, Answer, Refused, Stepped, events_of, run}
use Rattle.gen1_machine.specs.View.{shows}
use Rattle.gen1_events.specs.Reader.{part, IsReading}
use Rattle.gen1_engine.specs.Replay.{step_by_bytes}
use Rattle.gen1_engine.specs.Update.{refusal_of}
use Rattle.gen1_spectator.specs.Plain.{reading_of, view_of, AreRead, joined}
use Rattle.gen1_spectator.specs.declared.plain.PlainSpectator.{PlainSpectator}
use Rattle.gen1_c.specs.Battle.{new_fault, result_byte}
use Rattle.gen1_c.specs.Codes.{refusal_code, over_front}
use Rattle.gen1_c.specs.Teams.{sheets_of}
use Rattle.gen1_c.specs.declared.the_theorem.Beginning.{Beginning}
use Rattle.gen1_c.specs.declared.the_theorem.Update.{Update}

-- the code of what a battle can't be made of; 0 if there is nothing
abbrev pub fault_in : Beginning → ℕ
fault_in b = new_fault b.one b.two b.rules b.limit

-- the machine's first state
abbrev pub begun : Beginning → State
begun b = first_state (record { rules = rules_of b.rules; limit = b.limit }) (team_of (sheets_of b.one)) (team_of (sheets_of b.two)) b.seed

-- the machine's step by the bytes of both choices
abbrev pub stepped : State → Update → Stepped
stepped s u = step_by_bytes s (u.one, u.two)

-- the state that these steps lead to, one after the other
abbrev pub after : State → List Update → State
after s [] = s
after s (u ∷ updates) = after (stepped s u).state updates

-- what an update returns: the code of why the pair is refused, or 0
abbrev pub code_of : Answer → ℕ
code_of (Refused why) = refusal_code (refusal_of why)
code_of (Accepted events) = 0

-- the log bytes of a step; none if it is refused
abbrev pub log_of : State → Update → List ℕ
log_of s u = codes_of (events_of (stepped s u).answer)

-- what the calls of an update return and write in a state
abbrev pub called : State → Update → Update
called s u = record u {
  stored = bytes_of s;
  result = result_byte s.field;
  offered_one = over_front (map byte_of_choice (offered One s.field)) u.offered_one;
  count_one = length (offered One s.field);
  offered_two = over_front (map byte_of_choice (offered Two s.field)) u.offered_two;
  count_two = length (offered Two s.field);
  loaded = 0;
  code = code_of (stepped s u).answer;
  log = over_front (log_of s u) u.log;
  log_length = length (log_of s u);
}

-- and those of many updates, each in the state that the steps before it lead to
abbrev pub calls_in : State → List Update → List Update
calls_in s [] = []
calls_in s (u ∷ updates) = called s u ∷ calls_in (stepped s u).state updates

-- the log bytes of each update
abbrev pub log_in : Update → List ℕ
log_in u = take u.log_length u.log

abbrev pub logs_in : List Update → List (List ℕ)
logs_in updates = map log_in updates

-- for the functions inside

-- the log of an update decodes to the events of the machine's step
abbrev pub IsLogged : State → Update → Update → Type 0
IsLogged s asked done = IsReading (log_in done) (events_of (stepped s asked).answer)

-- if the bytes are the logs of a run from the start of a battle of these teams, the code is 0, and the view is what the battle shows
abbrev pub KnowsRuns : List Member → List Member → List ℕ → ℕ → PlainSpectator → Type 0
KnowsRuns one two bytes code watch = (t : Terms) (seed : List ℕ) (pairs : List (Choice × Choice)) (logs : List (List ℕ))
    → AreRead logs (run (first_state t one two seed) pairs).answers → bytes ≡ joined logs
    → (code ≡ 0) × (reading_of watch ≡ part []) × (view_of watch ≡ shows (run (first_state t one two seed) pairs).state.field)
