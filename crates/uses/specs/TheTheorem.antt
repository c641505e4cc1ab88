-- What the calls of a battle return, in the terms of the abstract machine (docs/PROVED.md).
use Rattle.std.specs.Prelude.{Err, List, Ok, Result, [], map, ℕ, ◌≡◌, ◌∷◌}
use Rattle.gen1_stats.specs.Members.{Member}
use Rattle.gen1_machine.specs.declared.side.Side.TheVariants.{One, Two}
use Rattle.gen1_machine.specs.declared.side.Choice.{Choice}
use Rattle.gen1_machine.specs.Layout.{bytes_of}
use Rattle.gen1_machine.specs.LogBytes.{codes_of}
use Rattle.gen1_machine.specs.OfferedChoices.{offered}
use Rattle.gen1_machine.specs.State.{State, Terms, first_state}
use Rattle.gen1_machine.specs.Step.{Accepted, Answer, Refused, events_of, run, step}
use Rattle.gen1_machine.specs.View.{View, shows}
use Rattle.gen1_events.specs.declared.reader.LogFault.{LogFault}
use Rattle.gen1_events.specs.Reader.{IsReading}
use Rattle.gen1_engine.specs.declared.result.BattleResult.{BattleResult}
use Rattle.gen1_engine.specs.declared.result.Refusal.{Refusal}
use Rattle.gen1_engine.specs.Update.{refusal_of, result_of}
use Rattle.gen1_spectator.specs.Plain.{AreRead, joined}
use Rattle.uses.specs.declared.the_theorem.Beginning.{Beginning}
use Rattle.uses.specs.declared.the_theorem.Update.{Update}

-- the machine's first state
abbrev pub begun : Beginning → State
begun b = first_state (record { rules = b.rules; limit = b.limit }) b.one b.two b.seed

abbrev pub pair_of : Update → Choice × Choice
pair_of u = (u.one, u.two)

-- the state that the machine's run by the pairs of these updates leads to
abbrev pub after : State → List Update → State
after s updates = (run s (map pair_of updates)).state

-- what an update returns: why the pair is refused, or the result of the next state
abbrev pub returned_by : Answer → State → Result BattleResult Refusal
returned_by (Refused why) next = Err (refusal_of why)
returned_by (Accepted events) next = Ok (result_of next)

-- what the calls of an update return in a state
abbrev pub called : State → Update → Update
called s u = record u {
  stored = bytes_of s;
  result = result_of s;
  offered_one = record { items = offered One s.field };
  offered_two = record { items = offered Two s.field };
  returned = returned_by (step s u.one u.two).answer (step s u.one u.two).state;
  log = record { items = codes_of (events_of (step s u.one u.two).answer) };
}

-- and those of many updates, each in the state that the steps before it lead to
abbrev pub calls_in : State → List Update → List Update
calls_in s [] = []
calls_in s (u ∷ updates) = called s u ∷ calls_in (step s u.one u.two).state updates

abbrev pub logs_of : List Update → List (List ℕ)
logs_of updates = map (λ (u : Update). u.log.items) updates

-- for the functions inside

-- the log of an update decodes to the events of the machine's step
abbrev pub IsLogged : State → Update → Update → Type 0
IsLogged s asked done = IsReading done.log.items (events_of (step s asked.one asked.two).answer)

-- if the bytes are the logs of a run from the start of a battle of these teams, the result is what the battle shows
abbrev pub KnowsRuns : List Member → List Member → List ℕ → Result View LogFault → Type 0
KnowsRuns one two bytes result = (t : Terms) (seed : List ℕ) (pairs : List (Choice × Choice)) (logs : List (List ℕ))
    → AreRead logs (run (first_state t one two seed) pairs).answers → bytes ≡ joined logs
    → result ≡ Ok (shows (run (first_state t one two seed) pairs).state.field)
