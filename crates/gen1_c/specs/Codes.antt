-- The codes of errors that the crates below count from 1 (include/gen1.h, "errors").
use Rattle.std.specs.Prelude.{ℕ, ◌+◌, List, Option, Result, [], codes, if◌then◌else◌, nat_lt, ok_or, ◌-◌, ◌∷◌, Bool, Err, Ok, drop, false, length, true, ◌++◌, ◌≡◌}
use Rattle.gen1_layout.specs.Loading.{number_of as test_number}
use Rattle.gen1_layout.specs.declared.loading.LoadFault.{LoadFault}
use Rattle.gen1_engine.specs.Update.{refusal_number}
use Rattle.gen1_engine.specs.declared.result.Refusal.{Refusal}
use Rattle.gen1_events.specs.Faults.{number_of as fault_number}
use Rattle.gen1_events.specs.declared.reader.LogFault.{LogFault}
use Rattle.gen1_outcomes.specs.declared.successor.OutcomesFault.{OutcomesFault}
use Rattle.std.specs.List.{slice_get}
use Rattle.gen1_outcomes.specs.declared.successor.OutcomesFault.TheVariants as outcomes

-- 16 to 22: the first test that bytes fail
abbrev pub load_code : LoadFault → ℕ
load_code fault = 15 + test_number fault

-- 24 to 26: why an update was refused
abbrev pub refusal_code : Refusal → ℕ
refusal_code why = 23 + refusal_number why

-- 24 to 26, and 29 to 31: why no outcomes were listed
abbrev pub outcomes_code : OutcomesFault → ℕ
outcomes_code (outcomes.Refused why) = refusal_code why
outcomes_code outcomes.Places = 29
outcomes_code outcomes.Table = 30
outcomes_code outcomes.Size = 31

-- 32 to 34: what is wrong with the bytes of a log
abbrev pub log_code : LogFault → ℕ
log_code fault = 31 + fault_number fault

-- A code in words (include/gen1.h, "errors").

-- the sentences of each family of codes, from its first code on

-- teams and terms, from 0 on
abbrev pub team_sentences : List (List ℕ)
team_sentences =
    codes "nothing is at fault" ∷
    codes "the team has no member: it has 1 to 6" ∷
    codes "the team has more than 6 members" ∷
    codes "the level is not 1 to 100" ∷
    codes "a DV is above 15" ∷
    codes "the member has no move: it has 1 to 4" ∷
    codes "a move is left out of the engine: Mimic, Metronome, Mirror Move or Transform" ∷
    codes "Struggle cannot be chosen as a move" ∷
    codes "a move is there twice" ∷
    codes "a move has more than 3 PP ups" ∷
    codes "the species is not 1 to 151" ∷
    codes "a move is not 1 to 165" ∷
    codes "the rules are not 0 to 3" ∷
    codes "the turn limit is not 1 to 9,999" ∷
    codes "the number of the foe's members is above 6" ∷
    []

-- loading, from 16 on
abbrev pub load_sentences : List (List ℕ)
load_sentences =
    codes "there are not 384 bytes" ∷
    codes "the version, byte 0, is not 1, 2 or 3" ∷
    codes "a field of the header is out of its range" ∷
    codes "a member is out of its ranges, or stands behind an empty place" ∷
    codes "an active block is out of its ranges, or does not fit its current move" ∷
    codes "a current stat is not what stage and penalties make of the member's own" ∷
    codes "turn, outcome, requests and living members do not fit together" ∷
    codes "a field of the state is wrong" ∷
    []

-- updates, from 24 on
abbrev pub update_sentences : List (List ℕ)
update_sentences =
    codes "the battle is over" ∷
    codes "the choice of side 1 was not offered" ∷
    codes "the choice of side 2 was not offered" ∷
    codes "the room for the log is less than 512 bytes" ∷
    codes "the log is longer than that of an update, 512 bytes" ∷
    codes "the array has fewer places than there are outcomes" ∷
    codes "the table has fewer places than there are outcomes" ∷
    codes "the update has too many draws to list its outcomes" ∷
    []

-- logs and walks, from 32 on
abbrev pub log_sentences : List (List ℕ)
log_sentences =
    codes "a byte in a tag's place is no tag: these are 1 to 28" ∷
    codes "a field of an event is out of its range" ∷
    codes "the bytes end within an event" ∷
    codes "no event is left: the index is at the end of the log, or past it" ∷
    codes "no way is left: the walk has ended" ∷
    []

-- arguments, from 40 on
abbrev pub argument_sentences : List (List ℕ)
argument_sentences =
    codes "the side is neither 1 nor 2" ∷
    codes "the text does not fit its buffer: 128 bytes hold any" ∷
    codes "nothing has this number: species are 1 to 151, moves 1 to 165, types 0 to 14" ∷
    codes "the byte is no choice: these are 0, 16 to 20 and 33 to 38" ∷
    codes "there is no move in that slot, or no member at that place, or nobody is out" ∷
    codes "an array is not as long as that of the battles" ∷
    codes "the index is not 0 to 8" ∷
    codes "the place is not 1 to 6" ∷
    []

-- calculating, from 48 on
abbrev pub damage_sentences : List (List ℕ)
damage_sentences =
    codes "the move does not have the usual damage: it has no power, or a rule of its own" ∷
    codes "the defense that counts in this hit is 0, and the damage would be divided by it" ∷
    codes "nobody is out: the battle is before its first update" ∷
    []

-- rooms, hosts and words, from 52 on
abbrev pub room_sentences : List (List ℕ)
room_sentences =
    codes "the number is not that of the current pair of choices" ∷
    codes "the side has chosen" ∷
    codes "the choice is not offered to the side" ∷
    codes "the host does not let a side take its choice back" ∷
    codes "the side has made no choice that it could take back" ∷
    codes "the kind of the row is not 1 to 5" ∷
    codes "the words say no choice, such as move 1 or switch 2, or name no move or species" ∷
    codes "the words name two or more of the offered choices" ∷
    []

-- teams out of text: what was expected, and a team that has no text, from 64 on
abbrev pub text_sentences : List (List ℕ)
text_sentences =
    codes "expected: the name of a species of the first generation" ∷
    codes "expected: no item, because the first generation has none" ∷
    codes "expected: at most 6 members" ∷
    codes "expected: a level from 1 to 100" ∷
    codes "expected: EVs from 0 to 255, such as 252 HP / 4 Atk, or packed as 252,4,,,," ∷
    codes "expected: the same EVs for SpA and SpD, because the first generation has one Special" ∷
    codes "expected: IVs from 0 to 31, such as 14 HP / 0 Atk, or packed as 14,0,,,," ∷
    codes "expected: the same IVs for SpA and SpD" ∷
    codes "expected: the HP IV that follows from the others, or none" ∷
    codes "expected: the name of a move of the first generation" ∷
    codes "expected: at most 4 moves" ∷
    codes "expected: a line of a member, such as Level: 50, EVs: 252 HP, IVs: 0 Atk or - Body Slam" ∷
    codes "expected: twelve fields with | between them" ∷
    codes "expected: members that are a team" ∷
    codes "a move has other than 3 PP ups, and a text has no place for them" ∷
    []

-- hosts out of bytes: the test that fails, from 80 on
abbrev pub host_sentences : List (List ℕ)
host_sentences =
    codes "the number of the current pair leaves no place for the pairs that may still come" ∷
    codes "the bytes of the last pair are no log" ∷
    codes "the choice of side 1 is not offered, or is missing though nothing is asked" ∷
    codes "the choice of side 2 is not offered, or is missing though nothing is asked" ∷
    codes "both choices are there, and the battle goes on" ∷
    codes "the teller of side 1 is another's, or its places are out of order" ∷
    codes "the teller of side 2 is another's, or its places are out of order" ∷
    codes "the ending is above 3" ∷
    codes "the side that offers a draw is above 2" ∷
    codes "an option is above 1" ∷
    codes "an unused byte, or the forfeit of the room, is not 0" ∷
    []

-- guesses: what does not fit, from 96 on
abbrev pub guess_sentences : List (List ℕ)
guess_sentences =
    codes "the player is in no battle that has begun and is not over" ∷
    codes "the guessed team does not have as many members as the foe" ∷
    codes "a member of the guessed team is not the one that appeared" ∷
    codes "a member of the guessed team does not know a move that it was seen to use" ∷
    codes "the maximum HP of a member of the guessed team does not allow the HP that the player was told" ∷
    []

-- the sentence of a code, if the code exists
abbrev pub sentence_at : ℕ → Option (List ℕ)
sentence_at code =
    if nat_lt code 16 then slice_get team_sentences code
    else (if nat_lt code 24 then slice_get load_sentences (code - 16)
    else (if nat_lt code 32 then slice_get update_sentences (code - 24)
    else (if nat_lt code 40 then slice_get log_sentences (code - 32)
    else (if nat_lt code 48 then slice_get argument_sentences (code - 40)
    else (if nat_lt code 52 then slice_get damage_sentences (code - 48)
    else (if nat_lt code 64 then slice_get room_sentences (code - 52)
    else (if nat_lt code 80 then slice_get text_sentences (code - 64)
    else (if nat_lt code 96 then slice_get host_sentences (code - 80)
    else slice_get guess_sentences (code - 96)))))))))

-- the sentence of a code; the code 42 if there is none
abbrev pub sentence_due : ℕ → Result (List ℕ) ℕ
sentence_due code = ok_or (sentence_at code) 42

-- What is written to the beginning of a caller's memory (include/gen1.h, "playing", "telling", "naming").

-- these at the beginning, and after them what was there
abbrev pub over_front : {A : Type 0} → List A → List A → List A
over_front front old = front ++ drop (length front) old

-- a text and its final zero
abbrev pub ended : List ℕ → List ℕ
ended text = text ++ (0 ∷ [])

-- a caller's buffer for a text, and where its length is to be written
pub record Room : Type 0 where
  pub bytes : List ℕ
  pub count : ℕ

-- if the text fits with its final zero both are at the beginning, and the text's length is written; otherwise the code is 41, and the buffer is as it was
abbrev pub WritesIf : Bool → List ℕ → Room → Room → ℕ → Type 0
WritesIf true text old new code = (code ≡ 0) × (new ≡ record { bytes = over_front (ended text) old.bytes; count = length text })
WritesIf false text old new code = (code ≡ 41) × (new ≡ old)

-- a text is written if it fits, and otherwise the code is 41; or the code says why there is none
abbrev pub Writes : Result (List ℕ) ℕ → Room → Room → ℕ → Type 0
Writes (Ok text) old new code = WritesIf (nat_lt (length text) (length old.bytes)) text old new code
Writes (Err why) old new code = (code ≡ why) × (new ≡ old)
