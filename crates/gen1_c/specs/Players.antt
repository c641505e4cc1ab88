-- The codes of players, and what they are told (include/gen1.h, "players").
use Rattle.std.specs.Prelude.{List, if◌then◌else◌, length, nat_le, replicate, ℕ, ◌&&◌, ◌+◌, ◌<◌, ◌==◌, ◌≡◌, ◌≢◌, ◌≤◌}
use Rattle.gen1_machine.specs.Rules.{rules_of}
use Rattle.gen1_machine.specs.declared.event.Event.{Event}
use Rattle.gen1_events.specs.declared.reader.LogFault.{LogFault}
use Rattle.gen1_events.specs.Faults.{number_of}
use Rattle.gen1_events.specs.Reader.{Breaks, IsReading, Splits}
use Rattle.gen1_player.specs.declared.player.PlayerTerms.{PlayerTerms}
use Rattle.gen1_player.specs.declared.teller.Teller.{Teller}
use Rattle.gen1_player.specs.Telling.{HasFault, form_number, form_of, meets_all, told_all}
use Rattle.gen1_c.specs.Codes.{over_front}
use Rattle.gen1_c.specs.declared.players.PlayerTermsForm.{PlayerTermsForm}
use Rattle.gen1_stats.specs.Teams.{team_of}
use Rattle.gen1_guesses.specs.declared.guess.GuessFault.{GuessFault}
use Rattle.gen1_guesses.specs.declared.guess.Guess.{Guess}
use Rattle.gen1_c.specs.Teams.{sheets_of}
use Rattle.gen1_c.specs.Battle.{fault_form}
use Rattle.gen1_c.specs.declared.players.GuessFaultForm.{GuessFaultForm}
use Rattle.gen1_c.specs.declared.players.GuessForm.{GuessForm}
use Rattle.gen1_c.specs.declared.battle.StateFaultForm.{StateFaultForm}
use Rattle.gen1_guesses.specs.declared.guess.GuessFault.TheVariants as faults

abbrev pub side_code : ℕ → ℕ
side_code side = if nat_le 1 side && nat_le side 2 then 0 else 40

abbrev pub terms_of : PlayerTermsForm → PlayerTerms
terms_of f = record { rules = rules_of f.rules; limit = f.limit; foes = f.foes; hp_form = form_of f.hp_form }

-- the first error of: the number of foes, the rules, the limit
abbrev pub terms_code : PlayerTermsForm → ℕ
terms_code f = if nat_le f.foes 6 then (if nat_le f.rules 3 then (if nat_le 1 f.limit && nat_le f.limit 9999 then 0 else 13) else 12) else 14

-- the first error of: the side, the terms, the team
abbrev pub begin_code : ℕ → PlayerTermsForm → ℕ → ℕ
begin_code side terms team = if nat_le 1 side && nat_le side 2 then (if terms_code terms == 0 then team else terms_code terms) else 40

abbrev pub log_code : LogFault → ℕ
log_code fault = 31 + number_of fault

-- the bytes have this error after some events
abbrev pub BreaksOff : LogFault → List ℕ → Type 0
BreaksOff fault bytes = (events : List Event) × (rest : List ℕ) × Splits bytes events rest × Breaks fault rest

abbrev pub first_teller : ℕ → ℕ → Teller
first_teller side hp_form = record { side = side; pixels = form_number (form_of hp_form); places = replicate 6 0 }

-- a teller, the caller's memory, and the number that it keeps beside it
pub record Telling : Type 0 where
  pub teller : Teller
  pub bytes : List ℕ
  pub count : ℕ

-- the events of the log are told
pub record IsTold (log : List ℕ) (old new : Telling) : Type 0 where
  pub events : List Event
  pub told : List ℕ
  pub read : IsReading log events
  pub means : IsReading told (told_all events old.teller)
  pub teller : new.teller ≡ meets_all events old.teller
  pub bytes : new.bytes ≡ over_front told old.bytes
  pub count : new.count ≡ length told

-- The first of: a log of more than 512 bytes, too little memory, bytes that are not a log. Then nothing has changed.
pub record Tells (log : List ℕ) (old new : Telling) (code : ℕ) : Type 0 where
  pub long : 512 < length log → code ≡ 28
  pub small : length log ≤ 512 → length old.bytes < length log → code ≡ 27
  pub read : length log ≤ 512 → length log ≤ length old.bytes → (events : List Event) → IsReading log events → code ≡ 0
  pub broken : length log ≤ 512 → length log ≤ length old.bytes → code ≢ 0 → (fault : LogFault) × (code ≡ log_code fault) × HasFault log fault
  pub told : code ≡ 0 → IsTold log old new
  pub kept : code ≢ 0 → new ≡ old

-- The guess of what a player can't know, and what does not fit, as plain structs (include/gen1.h, "players").

abbrev pub guess_of : GuessForm → Guess
guess_of f = record { team = team_of (sheets_of f.team); numbers = f.numbers }

-- What does not fit.
abbrev pub code_of : GuessFault → ℕ
code_of faults.NotGoingOn = 96
code_of (faults.Count count) = 97
code_of (faults.Member member) = 98
code_of (faults.Hp member) = 100
code_of (faults.Move member id) = 99
code_of (faults.State fault) = 23

abbrev pub no_state_fault : StateFaultForm
no_state_fault = record { value = 0; low = 0; high = 0; field = 0; side = 0; place = 0; index = 0 }

abbrev pub guess_form : StateFaultForm → ℕ → ℕ → ℕ → GuessFaultForm
guess_form state count member move = record { state = state; count = count; member = member; move_number = move; unused = 0 }

abbrev pub fault_form_of : GuessFault → GuessFaultForm
fault_form_of faults.NotGoingOn = guess_form no_state_fault 0 0 0
fault_form_of (faults.Count count) = guess_form no_state_fault count 0 0
fault_form_of (faults.Member member) = guess_form no_state_fault 0 member 0
fault_form_of (faults.Hp member) = guess_form no_state_fault 0 member 0
fault_form_of (faults.Move member id) = guess_form no_state_fault 0 member id
fault_form_of (faults.State fault) = guess_form (fault_form fault) 0 0 0
