-- What a subcommand reads and prints: by its five names, and by a FILE that was opened; the status of a complete run; and replies to
-- submissions.
use Rattle.std.proofs.Common.{◌≡◌, ◌||◌, ℕ, ◌<◌, ◌≤◌, Bool, true, false, nat_lt, List, [], length, Option, Some, None, Result, Ok, Err, IfSome, refl, sym, subst, ap, ◌∙◌, rules, arith, inl, inr, replicate, ◌∷◌, ◌⊎◌, option_map, codes, append-nil, append_assoc, ◌++◌}
use Rattle.std.proofs.KnownBytes.{Appends-nil}
use Rattle.serde_json.specs.Data.{Data}
use Rattle.gen1_machine.specs.State.{State, Terms, first_state, changed_active, changed_conditions, usual_terms}
use Rattle.battle_commands.specs.Asked.{Answers, IsInputFault, of_read, of_write, Asked, asked_of, begins, input_limit, Opens, Finds, Due, due_if, is_read_fault, log_due, run_due, room_due, Sent, Tells}
use Rattle.gen1_stats.specs.Members.{Member}
use Rattle.gen1_stats.specs.Teams.{Sheet as MemberSheet, team_of, team_refusal, member_of}
use Rattle.gen1_layout.specs.Parts.{Parts}
use Rattle.gen1_layout.specs.Shows.{Stands}
use Rattle.battle_input.specs.Sheets.{BattleData, input_of, sheet_of, Gives, sheet_view, calc_sheet_of}
use Rattle.battle_input.specs.declared.fault.SheetFault.{SheetFault}
use Rattle.battle_input.specs.declared.fault.SheetFault.TheVariants.{Json as NoSheet, Memory as NoMemory}
use Rattle.battle_input.specs.declared.fault.Key.{Key}
use Rattle.battle_input.specs.declared.fault.Misfit.{Misfit}
use Rattle.battle_commands.specs.Faults.{of_sheet, status_of}
use Rattle.battle_commands.specs.declared.input.Bout.{Bout}
use Rattle.battle_commands.specs.declared.fault.ToolFault.{ToolFault}
use Rattle.battle_commands.specs.declared.fault.ToolFault.TheVariants.{Json, TooLong, Team, Pair, Log, Calc, Read, Write, Memory}
use Rattle.gen1_machine.specs.Conditions.{without_trapping}
use Rattle.gen1_machine.specs.CurrentStats.{with_penalty_of}
use Rattle.gen1_machine.specs.Progress.{Progress}
use Rattle.gen1_machine.specs.Step.{opened}
use Rattle.gen1_machine.specs.SwitchingIn.{send_out, start, with_sent_out}
use Rattle.gen1_machine.specs.Valid.{IsStarted, IsState, IsUnstarted}
use Rattle.gen1_machine.specs.declared.side.Side.TheVariants.{One, Two}
use Rattle.gen1_layout.proofs.Words.{then-goes}
use Rattle.gen1_switching.proofs.SwitchingIn.{sends_as}
use Rattle.battle_commands.specs.Calc.{duel, PrintsDamages, damages_due, damages_of}
use Rattle.std.specs.Prelude.{ok_or, is_ok, is_some, Box, unwrap_or, ◌≢◌}
use Rattle.gen1_machine.specs.Moves.{move_at}
use Rattle.gen1_hits.specs.DamageNumbers.{has_usual_damage}
use Rattle.battle_commands.specs.Served.{PrintsLog, Serves, given, IsHelp, IsRefusal, IsReply, Replies, RepliesTo, Says, said_or_usage, usage, IsUnheld}
use Rattle.battle_input.specs.declared.sheet.CalcSheet.{CalcSheet}
use Rattle.std.specs.Box.{box_value}
use Rattle.clap.specs.Matches.{subcommand_name_of, first_value, found_of, has_subcommand}
use Rattle.clap.specs.Simple.{HasMatchesOf, subcommand_rows, subcommand_rows_of, Shape, argument_words, built, names_of}
use Rattle.clap.specs.Words.{App, Row, Text, is_simple, subcommand_of, fault_of, first_of, is_simple_and_free, rows_of}
use Rattle.clap.specs.declared.parser.matches.ArgMatches.{ArgMatches}
use Rattle.clap.specs.declared.parser.matches.ArgMatches.TheViews.{out-ArgMatches, out-SubCommand}
use Rattle.clap.specs.declared.parser.matches.SubCommand.{SubCommand}
use Rattle.battle_commands.specs.CommandLine.{AskFor, tool_app, faults, names_file}
use Rattle.clap.proofs.WalkLemmas.{first_value-rows}
use Rattle.clap.specs.Faults.{check_fault, defaults_fault, entered_fault, level_fault, settle_fault, walk_fault}
use Rattle.clap.specs.Kinds.{IsAmong, Kinds, or_else}
use Rattle.clap.specs.Walk.{Held, Names, finished, nothing_held, settled, stop_after, walk, walk_from}
use Rattle.clap.specs.declared.error.kind.ErrorKind.{ErrorKind}
use Rattle.clap.specs.declared.error.kind.ErrorKind.TheVariants.{DisplayHelp, DisplayVersion, MissingSubcommand, OutOfMemory}
use Rattle.gen1_devices.specs.Output.{Sends}
use Rattle.gen1_devices.specs.declared.io.DeviceFault.{DeviceFault}
use Rattle.gen1_machine.specs.Lines.{joined}

-- What is returned for an input: if nothing is printed, and if its battle is played.

-- a fact about what there may be follows from another
pub some_along : {A : Type 0} (o : Option A) (P Q : A → Type 0) → ((x : A) → P x → Q x) → IfSome o P → IfSome o Q
some_along None P Q f h = tt
some_along (Some x) P Q f h = f x h

pub some_all : {A : Type 0} (o : Option A) (P : A → Type 0) → ((x : A) → P x) → IfSome o P
some_all None P f = tt
some_all (Some x) P f = f x

-- nothing of the expected text was written

pub answers_unread : (due : Due) (old : Option (List ℕ)) → Answers {T = Unit {0}} due old old (Err Read)
answers_unread due old = record { front = []; rest = due.text; split = refl; written = Appends-nil old }

pub answers_unheld : (due : Due) (old : Option (List ℕ)) → Answers {T = Unit {0}} due old old (Err Memory)
answers_unheld due old = record { front = []; rest = due.text; split = refl; written = Appends-nil old }

too_long : {A : Type 0} (key : Key) (meaning : Data → Result A Misfit) (input : List ℕ) → input_limit < length input → asked_of key meaning input ≡ Err TooLong
unfolding asked_of
too_long key meaning input h = search rules

-- no input was read
pub opens_no_input : {A : Type 0} (key : Key) (meaning : Data → Result A Misfit) (fault : ToolFault) (told : Option (List ℕ)) → IsInputFault fault told
    → IfSome told (λ input. Opens (Err fault) (asked_of key meaning input))
opens_no_input key meaning Read told h = some_all told _ (λ input. tt)
opens_no_input key meaning Memory told h = some_all told _ (λ input. tt)
opens_no_input key meaning TooLong told h = some_along told (λ input. input_limit < length input) _ (too_long key meaning) h
opens_no_input key meaning (Json fault) told h = absurd h
opens_no_input key meaning (Team side place refusal) told h = absurd h
opens_no_input key meaning (Pair number refusal) told h = absurd h
opens_no_input key meaning (Log number) told h = absurd h
opens_no_input key meaning Calc told h = absurd h
opens_no_input key meaning Write told h = absurd h

-- no sheet can be read from the input
pub opens_no_sheet : {A : Type 0} (key : Key) (meaning : Data → Result A Misfit) (fault : SheetFault) (input : List ℕ) → length input ≤ input_limit
    → Gives sheet_view (Err fault) (input_of (sheet_of key meaning) input) → Opens (Err (of_sheet fault)) (asked_of key meaning input)
unfolding asked_of
opens_no_sheet key meaning NoMemory input fits is = tt
opens_no_sheet key meaning (NoSheet fault) input fits is =
    let short : nat_lt input_limit (length input) ≡ false = search rules in
    rw (short, is) refl

pub sheet_unread : (fault : SheetFault) → of_read (of_sheet fault) ≡ false
sheet_unread (NoSheet fault) = refl
sheet_unread NoMemory = refl

pub sheet_unwritten : (fault : SheetFault) → of_write (of_sheet fault) ≡ false
sheet_unwritten (NoSheet fault) = refl
sheet_unwritten NoMemory = refl

-- a battle is requested if neither team is refused
pub asks_for : {A : Type 0} (key : Key) (meaning : Data → Result A Misfit) (input : List ℕ) (sheet : BattleData × List A) → length input ≤ input_limit
    → input_of (sheet_of key meaning) input ≡ Ok sheet → team_refusal sheet.0.one ≡ None → team_refusal sheet.0.two ≡ None
    → asked_of key meaning input ≡ Ok (record { state = begins sheet.0; items = sheet.1 })
unfolding asked_of
asks_for key meaning input sheet fits is one two =
    let short : nat_lt input_limit (length input) ≡ false = search rules in
    rw (short, is, one, two) refl

-- and it begins with the two teams
pub stands_begun : (p : Parts) (t : Terms) (seed : List ℕ) (one two : List Member) (a b : List MemberSheet) → one ≡ team_of a → two ≡ team_of b
    → Stands p (first_state t one two seed) → Stands p (first_state t (team_of a) (team_of b) seed)
stands_begun p t seed one two a b e f h =
    subst (λ (x : List Member). Stands p (first_state t x (team_of b) seed)) e (subst (λ (y : List Member). Stands p (first_state t one y seed)) f h)

-- no battle was opened

unopened : {A : Type 0} (due : State → List A → Due) (fault : ToolFault) (asked : Result (Asked A) ToolFault) (old : Option (List ℕ)) → Opens (Err fault) asked
    → Answers {T = Unit {0}} (due_if due asked) old old (Err fault)
unopened due Memory asked old h = answers_unheld (due_if due asked) old
unopened due Read asked old h = answers_unread (due_if due asked) old
unopened due Write asked old h = absurd h
unopened due (Json fault) asked old h = subst (λ (d : Due). Answers {T = Unit {0}} d old old (Err (Json fault))) (sym (ap (due_if due) h)) (refl, Appends-nil old)
unopened due TooLong asked old h = subst (λ (d : Due). Answers {T = Unit {0}} d old old (Err TooLong)) (sym (ap (due_if due) h)) (refl, Appends-nil old)
unopened due (Team side place refusal) asked old h =
    subst (λ (d : Due). Answers {T = Unit {0}} d old old (Err (Team side place refusal))) (sym (ap (due_if due) h)) (refl, Appends-nil old)
unopened due (Pair number refusal) asked old h =
    subst (λ (d : Due). Answers {T = Unit {0}} d old old (Err (Pair number refusal))) (sym (ap (due_if due) h)) (refl, Appends-nil old)
unopened due (Log number) asked old h = subst (λ (d : Due). Answers {T = Unit {0}} d old old (Err (Log number))) (sym (ap (due_if due) h)) (refl, Appends-nil old)
unopened due Calc asked old h = subst (λ (d : Due). Answers {T = Unit {0}} d old old (Err Calc)) (sym (ap (due_if due) h)) (refl, Appends-nil old)

pub answers_unopened : {A : Type 0} (due : State → List A → Due) (asked : List ℕ → Result (Asked A) ToolFault) (fault : ToolFault) (told : Option (List ℕ)) (old : Option (List ℕ))
    → IfSome told (λ input. Opens (Err fault) (asked input)) → IfSome told (λ input. Answers {T = Unit {0}} (due_if due (asked input)) old old (Err fault))
answers_unopened due asked fault told old opens = some_along told _ _ (λ input h. unopened due fault (asked input) old h) opens

-- what is requested was done
pub answers_opened : {T A : Type 0} (due : State → List A → Due) (asked : List ℕ → Result (Asked A) ToolFault) (bout : Bout A) (told : Option (List ℕ)) (old new : Option (List ℕ)) (result : Result T ToolFault)
    → IfSome told (λ input. Opens (Ok bout) (asked input)) → ((x : Asked A) → Stands bout.battle x.state → bout.items.items ≡ x.items → Answers (due x.state x.items) old new result)
    → IfSome told (λ input. Answers (due_if due (asked input)) old new result)
answers_opened due asked bout told old new result opens done =
    some_along told (λ input. Opens (Ok bout) (asked input)) (λ input. Answers (due_if due (asked input)) old new result)
    (λ input h. subst (λ (d : Due). Answers d old new result) (sym (ap (due_if due) h.1)) (done h.0 h.2 h.3)) opens

-- what was opened was requested by the bytes that were read
pub opens_read : {A : Type 0} (asked : List ℕ → Result (Asked A) ToolFault) (opened : Result (Bout A) ToolFault) (told : Option (List ℕ)) (items slice : List ℕ)
    → slice ≡ items → Opens opened (asked slice) → IfSome told (λ input. items ≡ input) → IfSome told (λ input. Opens opened (asked input))
opens_read asked opened told items slice lent opens read =
    some_along told (λ input. items ≡ input) (λ input. Opens opened (asked input)) (λ input same. subst (λ bytes. Opens opened (asked bytes)) (lent ∙ same) opens) read

unfailed : (b : Bool) → b ≡ (b || false)
unfailed true = refl
unfailed false = refl

pub or_false : (b : Bool) → (b || false) ≡ b
or_false b = sym (unfailed b)

-- if nothing is written no write has failed
pub no_writes : (b c : Bool) → c ≡ false → b ≡ (b || c)
no_writes b c none = unfailed b ∙ ap (λ x. b || x) (sym none)

-- the same while an input is read
pub unwritten : (fault : ToolFault) (told : Option (List ℕ)) → IsInputFault fault told → of_write fault ≡ false
unwritten Write told h = absurd h
unwritten Read told h = refl
unwritten Memory told h = refl
unwritten TooLong told h = refl
unwritten (Json fault) told h = absurd h
unwritten (Team side place refusal) told h = absurd h
unwritten (Pair number refusal) told h = absurd h
unwritten (Log number) told h = absurd h
unwritten Calc told h = absurd h

-- What `calc` is to write and return, and what it and `print` return if no input was read.

-- nothing is drawn, so any seed will do
abbrev no_seed : List ℕ
no_seed = replicate 10 0

abbrev pub before : MemberSheet → MemberSheet → State
before a b = first_state usual_terms (member_of a ∷ []) (member_of b ∷ []) no_seed

pub unstarted : (a b : MemberSheet) → IsState (before a b) → IsUnstarted usual_terms (before a b).field
unstarted a b valid = by valid.field
  where
    by : IsUnstarted usual_terms (before a b).field ⊎ IsStarted usual_terms (before a b).field → IsUnstarted usual_terms (before a b).field
    by (inl u) = u
    by (inr v) = absurd (omega (arith, v.turn))

-- both members out, side 1's first
pub both_out : (a b : MemberSheet) → (start (opened (before a b))).field ≡ duel (member_of a) (member_of b)
unfolding start changed_active changed_conditions with_penalty_of with_sent_out without_trapping
both_out a b =
    let s = before a b in
    let one = sends_as One 1 (opened s) refl in
    ap (λ (q : Progress). q.field) (then-goes (send_out One 1) (send_out Two 1) (opened s) (ap (λ (q : Progress). q.stopped) one) ∙ ap (send_out Two 1) one ∙ sends_as Two 1 _ refl)

-- neither team is refused, and the move has the usual damage
pub due_found : (input : List ℕ) (s : CalcSheet) → length input ≤ input_limit → input_of calc_sheet_of input ≡ Ok s
    → team_refusal (s.attacker ∷ []) ≡ None → team_refusal (s.defender ∷ []) ≡ None → has_usual_damage (move_at s.id) ≡ true
    → damages_due input ≡ ok_or (damages_of s) Calc
unfolding damages_due
due_found input s fits sheet one two usual =
    let short : nat_lt input_limit (length input) ≡ false = search rules in
    rw (short, sheet, one, two, usual) refl

-- no sheet can be read from the input
pub finds_no_sheet : (fault : SheetFault) (input : List ℕ) → length input ≤ input_limit → Gives (λ (sheet : CalcSheet). sheet) (Err fault) (input_of calc_sheet_of input)
    → Finds (Err (of_sheet fault)) (damages_due input)
unfolding damages_due
finds_no_sheet NoMemory input fits is = tt
finds_no_sheet (NoSheet fault) input fits is =
    let short : nat_lt input_limit (length input) ≡ false = search rules in
    rw (short, is) refl

pub due_too_long : (input : List ℕ) → input_limit < length input → damages_due input ≡ Err TooLong
unfolding damages_due
due_too_long input h = search rules

-- no input was read, and nothing is written

pub prints_no_damages : (fault : ToolFault) (told old : Option (List ℕ)) → IsInputFault fault told
    → IfSome told (λ input. PrintsDamages {T = Unit {0}} (damages_due input) old old (Err fault))
prints_no_damages Read told old h = some_all told _ (λ input. Appends-nil old)
prints_no_damages Memory told old h = some_all told _ (λ input. Appends-nil old)
prints_no_damages TooLong told old h = some_along told (λ input. input_limit < length input) _ (λ input long. (due_too_long input long, Appends-nil old)) h
prints_no_damages (Json fault) told old h = absurd h
prints_no_damages (Team side place refusal) told old h = absurd h
prints_no_damages (Pair number refusal) told old h = absurd h
prints_no_damages (Log number) told old h = absurd h
prints_no_damages Calc told old h = absurd h
prints_no_damages Write told old h = absurd h

pub prints_no_log : (fault : ToolFault) (told old : Option (List ℕ)) → IsInputFault fault told
    → IfSome told (λ log. PrintsLog {T = Unit {0}} log old old (Err fault))
prints_no_log Read told old h = some_all told _ (λ log. Appends-nil old)
prints_no_log Memory told old h = some_all told _ (λ log. Appends-nil old)
prints_no_log TooLong told old h = some_along told (λ log. input_limit < length log) _ (λ log long. (long, Appends-nil old)) h
prints_no_log (Json fault) told old h = absurd h
prints_no_log (Team side place refusal) told old h = absurd h
prints_no_log (Pair number refusal) told old h = absurd h
prints_no_log (Log number) told old h = absurd h
prints_no_log Calc told old h = absurd h
prints_no_log Write told old h = absurd h

-- by the name
pub serves : (name : List ℕ) (told old new : Option (List ℕ)) (result : Result (Unit {0}) ToolFault)
    → (name ≡ codes "print" → IfSome told (λ input. PrintsLog input old new result))
    → (name ≡ codes "calc" → IfSome told (λ input. PrintsDamages (damages_due input) old new result))
    → (name ≡ codes "room" → IfSome told (λ input. Answers (room_due input) old new result))
    → (name ≡ codes "log" → IfSome told (λ input. Answers (log_due input) old new result))
    → (name ≡ codes "run" → IfSome told (λ input. Answers (run_due input) old new result))
    → IfSome told (λ input. Serves name input old new result)
serves name None old new result print calc room log run = tt
serves name (Some input) old new result print calc room log run = record { print = print; calc = calc; room = room; log = log; run = run }

-- no FILE is named, so standard input is read
pub without_file : {A : Type 0} (f : A → List ℕ) (found : Option A) (file : Option (List ℕ)) → option_map f found ≡ file → found ≡ None → file ≡ None
without_file f found file e none = sym e ∙ ap (option_map f) none

pub standard_serves : (file : Option (List ℕ)) (named : List ℕ → Option (List ℕ)) (name : List ℕ) (told old new : Option (List ℕ)) (result : Result (Unit {0}) ToolFault)
    → file ≡ None → IfSome told (λ input. Serves name input old new result) → IfSome (given named told file) (λ input. Serves name input old new result)
standard_serves file named name told old new result none h =
    subst (λ (o : Option (List ℕ)). IfSome (given named told o) (λ input. Serves name input old new result)) (sym none) h

pub file_is_none : (file : Option (List ℕ)) → file ≡ None → is_some file ≡ true → ⊥
file_is_none None e h = let k : false ≡ true = h in cc
file_is_none (Some x) e h = cc

-- a FILE is named
pub with_file : {A : Type 0} (f : A → List ℕ) (found : Option A) (x : A) (file : Option (List ℕ)) → option_map f found ≡ file → found ≡ Some x → file ≡ Some (f x)
with_file f found x file e some = sym e ∙ ap (option_map f) some

pub file_is_some : (file : Option (List ℕ)) (path : List ℕ) → file ≡ Some path → is_some file ≡ false → ⊥
file_is_some file path e h = let k : true ≡ is_some file = sym (ap is_some e) in let x : true ≡ false = k ∙ h in cc

file_serves : (file : Option (List ℕ)) (path : List ℕ) (named : List ℕ → Option (List ℕ)) (name : List ℕ) (standard old new : Option (List ℕ)) (result : Result (Unit {0}) ToolFault)
    → file ≡ Some path → IfSome (named path) (λ input. Serves name input old new result) → IfSome (given named standard file) (λ input. Serves name input old new result)
file_serves file path named name standard old new result some h =
    subst (λ (o : Option (List ℕ)). IfSome (given named standard o) (λ input. Serves name input old new result)) (sym some) h

-- what was opened by its name has the bytes that are known of it
by_bytes : (known told : Option (List ℕ)) (P : List ℕ → Type 0) → IfSome known (λ bytes. told ≡ Some bytes) → IfSome told P → IfSome known P
by_bytes None told P e h = tt
by_bytes (Some bytes) told P e h = subst (λ (o : Option (List ℕ)). IfSome o P) e h

pub opened_serves : (file : Option (List ℕ)) (path : List ℕ) (named : List ℕ → Option (List ℕ)) (name : List ℕ) (standard told old new : Option (List ℕ)) (result : Result (Unit {0}) ToolFault)
    → file ≡ Some path → IfSome (named path) (λ bytes. told ≡ Some bytes) → IfSome told (λ input. Serves name input old new result)
    → IfSome (given named standard file) (λ input. Serves name input old new result)
opened_serves file path named name standard told old new result some bytes h =
    file_serves file path named name standard old new result some (by_bytes (named path) told _ bytes h)

-- nothing was opened, and nothing is written
pub unopened_serves : (file : Option (List ℕ)) (path : List ℕ) (named : List ℕ → Option (List ℕ)) (name : List ℕ) (standard old : Option (List ℕ))
    → file ≡ Some path → IfSome (given named standard file) (λ input. Serves name input old old (Err Read))
unopened_serves file path named name standard old some = file_serves file path named name standard old old (Err Read) some (some_all (named path) _ (λ input. unread input))
  where
    unread : (input : List ℕ) → Serves name input old old (Err Read)
    unread input = record {
      print = λ e. Appends-nil old;
      calc = λ e. Appends-nil old;
      room = λ e. answers_unread (room_due input) old;
      log = λ e. answers_unread (log_due input) old;
      run = λ e. answers_unread (run_due input) old;
    }

-- if all was done no read has failed
pub read_well : (result : Result (Unit {0}) ToolFault) (failed fails : Bool) → fails ≡ (failed || is_read_fault result) → is_ok result ≡ true → fails ≡ failed
read_well (Ok x) failed fails e h = e ∙ or_false failed
read_well (Err fault) failed fails e h = absurd (let k : false ≡ true = h in cc)

-- no error has status 0
pub is_above_0 : (fault : ToolFault) → status_of fault ≡ 0 → ⊥
is_above_0 (Json fault) h = let k : 1 ≡ 0 = h in cc
is_above_0 TooLong h = let k : 1 ≡ 0 = h in cc
is_above_0 (Team side place refusal) h = let k : 1 ≡ 0 = h in cc
is_above_0 (Pair number refusal) h = let k : 1 ≡ 0 = h in cc
is_above_0 (Log number) h = let k : 1 ≡ 0 = h in cc
is_above_0 Calc h = let k : 1 ≡ 0 = h in cc
is_above_0 Read h = let k : 3 ≡ 0 = h in cc
is_above_0 Write h = let k : 3 ≡ 0 = h in cc
is_above_0 Memory h = let k : 4 ≡ 0 = h in cc

-- What is replied to words that ask for nothing to run, and that other words ask for a subcommand.

-- What words ask for, by what was found in them.

name_in : {Z : Type 0} (o : Option (Box SubCommand Z)) (asked : Text × List Row) → subcommand_rows o ≡ Some asked
    → option_map (λ b. (out-SubCommand (box_value b)).name.now) o ≡ Some asked.0
name_in None asked e = ap (option_map (λ p. p.0)) e
name_in (Some b) asked e = ap (option_map (λ p. p.0)) e

pub name_asked : (m : ArgMatches) (asked : Text × List Row) → subcommand_rows_of m ≡ Some asked → subcommand_name_of m ≡ Some asked.0
name_asked m asked e = name_in (out-ArgMatches m).subcommand asked e

pub some_same : {A : Type 0} (x y : A) → Some x ≡ Some y → x ≡ y
some_same x y e = ap (λ o. unwrap_or o x) e

-- clap says of this command line what is found in words
simple : is_simple tool_app ≡ true
simple = refl

pub rows_found : (app : App) (m : ArgMatches) (words : List Text) → app ≡ tool_app → HasMatchesOf app words m → subcommand_rows_of m ≡ subcommand_of tool_app words
rows_found app m words app_is has = (has (ap is_simple app_is ∙ simple)).1 ∙ ap (λ (x : App). subcommand_of x words) app_is

-- what accepted words ask for was found
pub rows_asked : (app : App) (m : ArgMatches) (words : List Text) (asked : Text × List Row) → app ≡ tool_app → HasMatchesOf app words m → AskFor words asked
    → subcommand_rows_of m ≡ Some asked
rows_asked app m words asked app_is has a = rows_found app m words app_is has ∙ a.1

-- the words are mistaken
pub refuses : (kind : ErrorKind) (out err : Sent) (status : ℕ) → (kind ≢ DisplayHelp) × (kind ≢ DisplayVersion) → IsRefusal out err status → IsReply kind out err status
refuses kind out err status mistaken r = record { asked = asks; refused = λ a b. r }
  where
    asks : (kind ≡ DisplayHelp) ⊎ (kind ≡ DisplayVersion) → IsHelp out err status
    asks (inl e) = absurd (mistaken.0 e)
    asks (inr e) = absurd (mistaken.1 e)

-- help is asked for
pub helps : (kind : ErrorKind) (out err : Sent) (status : ℕ) → ((kind ≢ DisplayHelp) × (kind ≢ DisplayVersion) → ⊥) → IsHelp out err status → IsReply kind out err status
helps kind out err status asked r = record { asked = λ e. r; refused = λ a b. absurd (asked (a, b)) }

-- the text of a reply
pub said_is : (text result : List ℕ) → (0 < length text → result ≡ text) → (length text ≡ 0 → result ≡ usage) → result ≡ said_or_usage text
said_is [] result same value = value refl
said_is (x ∷ xs) result same value = same (omega arith)

pub says_refused : (said text : List ℕ) (kind : ErrorKind) (out err : Sent) → text ≡ said → (kind ≢ DisplayHelp) × (kind ≢ DisplayVersion) → Tells err text → Says said kind out err
says_refused said text kind out err is mistaken told = record { asked = asks; refused = λ a b. subst (Tells err) is told }
  where
    asks : (kind ≡ DisplayHelp) ⊎ (kind ≡ DisplayVersion) → (result : Result (Unit {0}) DeviceFault) × Sends out.held out.holds out.failed out.fails said result
    asks (inl e) = absurd (mistaken.0 e)
    asks (inr e) = absurd (mistaken.1 e)

pub says_asked : (said text : List ℕ) (kind : ErrorKind) (out err : Sent) → text ≡ said → ((kind ≢ DisplayHelp) × (kind ≢ DisplayVersion) → ⊥)
    → (result : Result (Unit {0}) DeviceFault) → Sends out.held out.holds out.failed out.fails text result → Says said kind out err
says_asked said text kind out err is asked result sent = record {
  asked = λ e. (result, subst (λ (t : List ℕ). Sends out.held out.holds out.failed out.fails t result) is sent);
  refused = λ a b. absurd (asked (a, b));
}

pub not_both : (b : Bool) → b ≡ true → b ≡ false → ⊥
not_both b t f = let x : true ≡ false = sym t ∙ f in cc

-- memory ran out, whatever the words are
pub replies_unheld : (kinds : Kinds) (out err : Sent) (status : ℕ) → IsUnheld err status → Replies kinds out err status
replies_unheld [] out err status u = tt
replies_unheld (k ∷ ks) out err status u = inr u

-- words without a fault get no reply
pub unreplied : (kinds : Kinds) (out err : Sent) (status : ℕ) → kinds ≡ [] → Replies kinds out err status
unreplied [] out err status e = tt
unreplied (k ∷ ks) out err status e = absurd (let x : (k ∷ ks) ≡ [] = e in cc)

-- the reply to an error is that to one of the kinds that it may have
replied : (kinds : Kinds) (kind : ErrorKind) (out err : Sent) (status : ℕ) → (kind ≡ OutOfMemory) ⊎ IsAmong kind kinds
    → (kind ≡ OutOfMemory → IsUnheld err status) → RepliesTo kind out err status → Replies kinds out err status
replied [] kind out err status among unheld reply = tt
replied (k ∷ ks) kind out err status (inl e) unheld reply = inr (unheld e)
replied (k ∷ ks) kind out err status (inr a) unheld (inl reply) = inl (kind, a, reply)
replied (k ∷ ks) kind out err status (inr a) unheld (inr u) = inr u

-- clap says of this command line which kinds of error words may give
simple_and_free : is_simple_and_free tool_app ≡ true
simple_and_free = refl

-- words that give an error have one of its kinds as a fault
pub error_replied : (app : App) (words : List Text) (kind : ErrorKind) (out err : Sent) (status : ℕ) → app ≡ tool_app
    → (is_simple_and_free app ≡ true → (kind ≡ OutOfMemory) ⊎ IsAmong kind (fault_of app words)) → (kind ≡ OutOfMemory → IsUnheld err status)
    → RepliesTo kind out err status → Replies (faults words) out err status
error_replied app words kind out err status app_is fails unheld reply =
    replied (faults words) kind out err status
    (subst (λ (kinds : Kinds). (kind ≡ OutOfMemory) ⊎ IsAmong kind kinds) (ap (λ (x : App). fault_of x words) app_is)
    (fails (ap is_simple_and_free app_is ∙ simple_and_free)))
    unheld reply

-- and words that give none have no fault
pub faultless : (app : App) (words : List Text) → app ≡ tool_app → (is_simple_and_free app ≡ true → fault_of app words ≡ []) → faults words ≡ []
faultless app words app_is none = sym (ap (λ (x : App). fault_of x words) app_is) ∙ none (ap is_simple_and_free app_is ∙ simple_and_free)

later : (a b : Kinds) → or_else a b ≡ [] → b ≡ []
later [] b e = e
later (k ∷ ks) b e = absurd (let x : (k ∷ ks) ≡ [] = e in cc)

-- of one level of words the check for a subcommand comes last
last_fault : (s : Shape) (names : Names) (h : Held) (words : List Text) (has : Bool) (below : Kinds) → level_fault s names h words has below ≡ []
    → check_fault s (finished s.rules (walk s.rules names h words).held) has ≡ []
last_fault s names h words has below e =
    let end = (walk s.rules names h words).held in
    let first = walk_fault s names (walk_from h) words in
    let settling = settle_fault s.rules s.args_override_self end in
    let default = defaults_fault (settled s.rules end).rows s.rules in
    let checked = check_fault s (finished s.rules end) has in
    later default checked
    (later settling (or_else default checked)
    (later below (or_else settling (or_else default checked))
    (later first (or_else below (or_else settling (or_else default checked))) e)))

needs_one : (rows : List Row) (has : Bool) → check_fault (built tool_app).top rows has ≡ [] → has ≡ true
needs_one rows true e = refl
needs_one rows false e = absurd (let x : (MissingSubcommand ∷ []) ≡ [] = e in cc)

-- words without a fault ask for a subcommand
asks_for_one : (words : List Text) → faults words ≡ [] → is_some (subcommand_of tool_app words) ≡ true
asks_for_one words e =
    let a = built tool_app in
    let behind = argument_words tool_app words in
    needs_one (finished a.top.rules (walk a.top.rules (names_of a) nothing_held behind).held) (is_some (subcommand_of tool_app words))
    (last_fault a.top (names_of a) nothing_held behind (is_some (subcommand_of tool_app words)) (entered_fault a (stop_after a.top.rules (names_of a) behind)) e)

rows_there : {Z : Type 0} (o : Option (Box SubCommand Z)) → is_some (subcommand_rows o) ≡ is_some o
rows_there None = refl
rows_there (Some b) = refl

-- which is found
pub one_found : (app : App) (m : ArgMatches) (words : List Text) → app ≡ tool_app → HasMatchesOf app words m → faults words ≡ [] → has_subcommand m ≡ true
one_found app m words app_is has none = sym (rows_there (out-ArgMatches m).subcommand) ∙ ap is_some (rows_found app m words app_is has) ∙ asks_for_one words none

-- whether a FILE is named, by the rows
pub file_named : (m : ArgMatches) (asked : Text × List Row) → rows_of (found_of m) ≡ asked.1 → is_some (first_value (found_of m) (codes "FILE")) ≡ names_file asked
file_named m asked e = ap is_some (first_value-rows (found_of m) (codes "FILE") ∙ ap (first_of (codes "FILE")) e)

-- Pieces that are written one after the other.

more : (old new piece rest : List ℕ) → new ≡ old ++ piece → new ++ rest ≡ old ++ (piece ++ rest)
more old new piece rest e = ap (λ (b : List ℕ). b ++ rest) e ∙ append_assoc old piece rest

-- two more pieces, the second a number
two_more : (a b c piece number text rest : List ℕ) → b ≡ a ++ piece → c ≡ b ++ number → number ≡ text → c ++ rest ≡ a ++ (piece ++ (text ++ rest))
two_more a b c piece number text rest e f is =
    more b c text rest (f ∙ ap (λ (t : List ℕ). b ++ t) is) ∙ more a b piece (text ++ rest) e

pub four_pieces : (a b c d e p m x q n y : List ℕ) → a ≡ [] → b ≡ a ++ p → c ≡ b ++ m → m ≡ x → d ≡ c ++ q → e ≡ d ++ n → n ≡ y
    → e ≡ joined (p ∷ x ∷ q ∷ y ∷ [])
four_pieces a b c d e p m x q n y none first number is second another is_too =
    sym (append-nil e)
    ∙ two_more c d e q n y [] second another is_too
    ∙ two_more a b c p m x (q ++ (y ++ [])) first number is
    ∙ ap (λ (l : List ℕ). l ++ (p ++ (x ++ (q ++ (y ++ []))))) none

pub six_pieces : (a b c d e f g p m x q n y r o z : List ℕ) → a ≡ [] → b ≡ a ++ p → c ≡ b ++ m → m ≡ x → d ≡ c ++ q → e ≡ d ++ n → n ≡ y
    → f ≡ e ++ r → g ≡ f ++ o → o ≡ z → g ≡ joined (p ∷ x ∷ q ∷ y ∷ r ∷ z ∷ [])
six_pieces a b c d e f g p m x q n y r o z none first number is second another is_too third last is_last =
    sym (append-nil g)
    ∙ two_more e f g r o z [] third last is_last
    ∙ two_more c d e q n y (r ++ (z ++ [])) second another is_too
    ∙ two_more a b c p m x (q ++ (y ++ (r ++ (z ++ [])))) first number is
    ∙ ap (λ (l : List ℕ). l ++ (p ++ (x ++ (q ++ (y ++ (r ++ (z ++ []))))))) none
