-- The calls of a battle, one after the other.
use Rattle.std.proofs.Common.{Bool, Err, List, None, Ok, Option, Result, Some, [], ap, append-nil, append_assoc, arith, drop, drop-cons, drop-set-lt, false, get_or, if◌then◌else◌, inl, inr, length, nat_le, refl, set, subst, suc, sym, take, true, ℕ, ◌&&◌, ◌++◌, ◌+◌, ◌<◌, ◌∙◌, ◌∷◌, ◌≡◌, ◌≤◌, ◌⊎◌}
use Rattle.std.proofs.lemmas.List.{drop_all, get_or-map, length-map, take_all, take_at, take_more_set}
use Rattle.gen1_stats.specs.Members.{IsTeam, Member}
use Rattle.gen1_stats.specs.Teams.{Sheet, least_sheet, member_of, team_of}
use Rattle.gen1_machine.specs.declared.side.Choice.{Choice}
use Rattle.gen1_machine.specs.declared.event.Event.{Event}
use Rattle.gen1_machine.specs.declared.side.Side.{Side}
use Rattle.gen1_machine.specs.declared.side.Side.TheVariants.{One, Two}
use Rattle.gen1_machine.specs.Choices.{choice_at}
use Rattle.gen1_machine.specs.Layout.{bytes_of}
use Rattle.gen1_machine.specs.LogBytes.{codes_of}
use Rattle.gen1_machine.specs.OfferedChoices.{offered}
use Rattle.gen1_machine.specs.Progress.{Progress}
use Rattle.gen1_machine.specs.Rules.{Rules}
use Rattle.gen1_machine.specs.Ruling.{ruling_of}
use Rattle.gen1_machine.specs.State.{Field, State, Terms, first_state, is_over}
use Rattle.gen1_machine.specs.Step.{Accepted, Answer, Refusal, Refused, Stepped, answered, events_of, opened, run, run_by, step, update}
use Rattle.gen1_machine.specs.Valid.{IsMembersUnder, IsStarted, IsState, IsUnstarted}
use Rattle.gen1_events.specs.Reader.{IsReading}
use Rattle.gen1_layout.specs.Loading.{IsLoadedAs, version_three}
use Rattle.gen1_layout.specs.LoadingLaws.{IsBattle}
use Rattle.gen1_layout.specs.Parts.{Parts, parts_of}
use Rattle.gen1_layout.specs.declared.loading.LoadFault.{LoadFault}
use Rattle.gen1_layout.specs.Shows.{Stands}
use Rattle.gen1_layout.proofs.WaysBack.{parts-bytes_of}
use Rattle.gen1_engine.specs.Replay.{offers_if, or_pass, step_by_bytes}
use Rattle.gen1_engine.proofs.Played.{step_of_choices, accepted_offered}
use Rattle.gen1_spectator.specs.Plain.{AreRead, joined}
use Rattle.gen1_c.specs.Battle.{Loads, LoadsAs, teams_fault, Held, Logs, Offers, UpdatesAs, result_byte}
use Rattle.gen1_c.specs.Codes.{over_front}
use Rattle.gen1_c.specs.TheTheorem.{IsLogged, after, called, calls_in, code_of, log_in, log_of, logs_in, stepped}
use Rattle.gen1_c.specs.declared.the_theorem.Update.{Update}

-- the beginning

-- terms and teams without a fault are teams without one
pub no_fault : (one two rules limit : ℕ)
    → (if nat_le rules 3 then (if nat_le 1 limit && nat_le limit 9999 then teams_fault one two else 13) else 12) ≡ 0 → teams_fault one two ≡ 0
no_fault one two rules limit e = by (nat_le rules 3) (nat_le 1 limit && nat_le limit 9999) e
  where
    by : (a b : Bool) → (if a then (if b then teams_fault one two else 13) else 12) ≡ 0 → teams_fault one two ≡ 0
    by true true e = e
    by true false e = absurd (omega (arith, e))
    by false b e = absurd (omega (arith, e))

fresh_members : (rules : Rules) (sheets : List Sheet) → IsMembersUnder rules (team_of sheets) → IsTeam (team_of sheets)
fresh_members rules sheets h = record {
  size = h.size;
  members = λ k d inside.
      let sheet = get_or sheets k least_sheet in
      let same : get_or (team_of sheets) k d ≡ member_of sheet = get_or-map member_of sheets k least_sheet d (omega (arith, inside, length-map sheets member_of)) in
      record {
        member = (h.each k d inside).numbers;
        species = (h.each k d inside).species;
        moves = (h.each k d inside).moves;
        unhurt = ap (λ (m : Member). m.hp) same ∙ sym (ap (λ (m : Member). m.max) same);
        healthy = ap (λ (m : Member). m.status) same;
      };
}

-- sheets that a battle begins with make teams
pub begun_teams : (terms : Terms) (one two : List Sheet) (seed : List ℕ) (battle : Parts) → Stands battle (first_state terms (team_of one) (team_of two) seed)
    → IsTeam (team_of one) × IsTeam (team_of two)
begun_teams terms one two seed battle h = by h.valid.field
  where
    by : IsUnstarted terms (first_state terms (team_of one) (team_of two) seed).field ⊎ IsStarted terms (first_state terms (team_of one) (team_of two) seed).field
        → IsTeam (team_of one) × IsTeam (team_of two)
    by (inl u) = (fresh_members terms.rules one u.members_one, fresh_members terms.rules two u.members_two)
    by (inr s) = absurd (omega (arith, s.turn))

-- a step by two bytes

-- a refused pair leaves the state
refused_leaves : (s : State) (u : Update) {why : Refusal} → (stepped s u).answer ≡ Refused why → (stepped s u).state ≡ s
unfolding step_by_bytes answered
refused_leaves s u e =
    by (is_over s.field.outcome) (offers_if s One (choice_at u.one)) (offers_if s Two (choice_at u.two))
    (update (ruling_of s.terms) (or_pass (choice_at u.one)) (or_pass (choice_at u.two)) (opened s)) e
  where
    by : (over first second : Bool) (p : Progress) {why : Refusal} → (answered s over first second p).answer ≡ Refused why → (answered s over first second p).state ≡ s
    by true first second p e = refl
    by false false second p e = refl
    by false true false p e = refl
    by false true true p {why = why} e = absurd (let k : Accepted p.events ≡ Refused why = e in cc)

some_choice : (s : State) (side : Side) (o : Option Choice) → offers_if s side o ≡ true → (c : Choice) × (o ≡ Some c)
some_choice s side None h = absurd (let k : false ≡ true = h in cc)
some_choice s side (Some c) h = (c, refl)

-- an accepted pair is a pair of choices
accepted_pair : (s : State) (u : Update) (events : List Event) → (stepped s u).answer ≡ Accepted events → (pair : Choice × Choice) × (stepped s u ≡ step s pair.0 pair.1)
accepted_pair s u events e =
    let offered = accepted_offered s (u.one, u.two) events e in
    let one = some_choice s One (choice_at u.one) offered.0 in
    let two = some_choice s Two (choice_at u.two) offered.1 in
    ((one.0, two.0), step_of_choices s (u.one, u.two) one.0 two.0 one.1 two.1)

-- one update

-- what an update returns and writes
pub record Wrote (answer : Answer) (room log : List ℕ) (count code : ℕ) : Type 0 where
  pub code_is : code ≡ code_of answer
  pub log_is : log ≡ over_front (codes_of (events_of answer)) room
  pub count_is : count ≡ length (codes_of (events_of answer))
  pub reading : IsReading (codes_of (events_of answer)) (events_of answer)

pub by_answer : (answer : Answer) (next : State) (old new : Parts) (room log : List ℕ) (count code : ℕ)
    → UpdatesAs answer next (record { battle = old; log = room; count = 0 }) (record { battle = new; log = log; count = count }) code
    → Wrote answer room log count code
by_answer (Refused why) next old new room log count code h = record {
  code_is = h.0;
  log_is = ap (λ (x : Held). x.log) h.1;
  count_is = ap (λ (x : Held). x.count) h.1;
  reading = record { codes = refl; ranges = tt };
}
by_answer (Accepted events) next old new room log count code h =
    let told : Logs events room log count = h.2 in
    record {
      code_is = h.0;
      log_is = told.2 ∙ ap (λ (l : List ℕ). over_front l room) told.1.codes;
      count_is = told.3 ∙ ap (λ (l : List ℕ). length l) told.1.codes;
      reading = record { codes = refl; ranges = told.1.ranges };
    }

-- the battle continues in the next state
pub goes : (s : State) (u : Update) (old new : Parts) (room log : List ℕ) (before count code : ℕ) → Stands old s
    → UpdatesAs (stepped s u).answer (stepped s u).state (record { battle = old; log = room; count = before }) (record { battle = new; log = log; count = count }) code
    → Stands new (stepped s u).state
goes s u old new room log before count code h updates = by (stepped s u).answer refl updates
  where
    by : (answer : Answer) → (stepped s u).answer ≡ answer
        → UpdatesAs answer (stepped s u).state (record { battle = old; log = room; count = before }) (record { battle = new; log = log; count = count }) code
        → Stands new (stepped s u).state
    by (Refused why) e k = subst (λ (t : State). Stands new t) (sym (refused_leaves s u e)) (subst (λ (p : Parts). Stands p s) (sym (ap (λ (x : Held). x.battle) k.1)) h)
    by (Accepted events) e k = k.1

pub called_same : (s : State) (u : Update) (stored one two log : List ℕ) (result count_one count_two loaded code log_length : ℕ)
    → stored ≡ bytes_of s → result ≡ result_byte s.field → Offers (offered One s.field) u.offered_one one count_one → Offers (offered Two s.field) u.offered_two two count_two
    → loaded ≡ 0 → Wrote (stepped s u).answer u.log log log_length code
    → record u {
      stored = stored;
      result = result;
      offered_one = one;
      count_one = count_one;
      offered_two = two;
      count_two = count_two;
      loaded = loaded;
      code = code;
      log = log;
      log_length = log_length;
    } ≡ called s u
called_same s u stored one two log result count_one count_two loaded code log_length a b c d e f i = record u {
  stored = a i;
  result = b i;
  offered_one = c.1 i;
  count_one = c.0 i;
  offered_two = d.1 i;
  count_two = d.0 i;
  loaded = e i;
  code = f.code_is i;
  log = f.log_is i;
  log_length = f.count_is i;
}

-- its log is at the beginning of the buffer
pub called_logged : (s : State) (u : Update) (log : List ℕ) (count code : ℕ) → Wrote (stepped s u).answer u.log log count code
    → IsReading (take count log) (events_of (stepped s u).answer)
called_logged s u log count code h =
    let told = log_of s u in
    let same : take count log ≡ told =
    ap (λ (n : ℕ). take n log) h.count_is ∙ ap (take (length told)) h.log_is ∙ take_at told (drop (length told) u.log) (length told) refl in
    subst (λ (l : List ℕ). IsReading l (events_of (stepped s u).answer)) (sym same) h.reading

-- the bytes of a battle are loaded as the same battle

stored_battle : (s : State) → IsState s → length (bytes_of s) ≡ 384 → IsBattle (bytes_of s)
unfolding bytes_of
stored_battle s valid full = record {
  full = full;
  version = (omega arith, omega arith);
  keeps = record { limit = λ low. absurd (omega (arith, low)); rules = λ one. absurd (omega (arith, one)) };
  stands = record { state = s; valid = valid; same = refl };
}

in_version_three : (s : State) → version_three (bytes_of s) ≡ bytes_of s
unfolding bytes_of
in_version_three s = refl

few_one : (terms : Terms) (f : Field) → IsUnstarted terms f ⊎ IsStarted terms f → length f.one.members ≤ 6
few_one terms f (inl u) = u.members_one.size.1
few_one terms f (inr s) = s.field.one.members.size.1

few_two : (terms : Terms) (f : Field) → IsUnstarted terms f ⊎ IsStarted terms f → length f.two.members ≤ 6
few_two terms f (inl u) = u.members_two.size.1
few_two terms f (inr s) = s.field.two.members.size.1

pub loaded_same : (s : State) (stored : List ℕ) (old new : Parts) (code : ℕ) → Stands old s → stored ≡ bytes_of s → length stored ≡ 384
    → Loads stored old new code → (code ≡ 0 → IsBattle stored) × (IsBattle stored → code ≡ 0) → (code ≡ 0) × (new ≡ old)
loaded_same s stored old new code h is full loads accepts = by loads.0 loads.1 loads.2
  where
    zero : code ≡ 0
    zero = accepts.1 (subst IsBattle (sym is) (stored_battle s h.valid (sym (ap length is) ∙ full)))

    by : (read : Result Parts LoadFault) → IsLoadedAs read stored → LoadsAs read old new code → (code ≡ 0) × (new ≡ old)
    by (Ok loaded) read same = (
      zero,
      same.1 ∙ read.1 ∙ ap (λ (bytes : List ℕ). parts_of (version_three bytes)) is ∙ ap parts_of (in_version_three s)
          ∙ parts-bytes_of s (few_one s.terms s.field h.valid.field) (few_two s.terms s.field h.valid.field) ∙ sym h.same,
    )
    by (Err fault) read same = (zero, same.1)

-- updates, before and after their calls

abbrev pub AreCalled : State → List Update → List Update → Type 0
AreCalled s [] [] = Unit {0}
AreCalled s [] (v ∷ vs) = ⊥
AreCalled s (u ∷ us) [] = ⊥
AreCalled s (u ∷ us) (v ∷ vs) = (v ≡ called s u) × IsLogged s u v × AreCalled (stepped s u).state us vs

-- those before an index were called; the battle represents a state from which the others are
pub record Going (s : State) (old now : List Update) (place : ℕ) (battle : Parts) : Type 0 where
  pub state : State
  pub stands : Stands battle state
  pub leads : after s old ≡ after state (drop place now)
  pub rest : (later : List Update) → AreCalled state (drop place now) later → AreCalled s old (take place now ++ later)

pub going_first : (s : State) (updates : List Update) (battle : Parts) → Stands battle s → Going s updates updates 0 battle
going_first s updates battle h = record { state = s; stands = h; leads = refl; rest = λ later r. r }

pub going_more : (s : State) (old now : List Update) (place : ℕ) (before battle : Parts) (d new : Update) (g : Going s old now place before) → place < length now
    → new ≡ called g.state (get_or now place d) → IsLogged g.state (get_or now place d) new → Stands battle (stepped g.state (get_or now place d)).state
    → Going s old (set now place new) (place + 1) battle
going_more s old now place before battle d new g inside is logged stands =
    let u = get_or now place d in
    let next = (stepped g.state u).state in
    let on : suc place ≡ place + 1 = omega arith in
    let here : drop place now ≡ u ∷ drop (place + 1) now = drop-cons now place d inside ∙ ap (λ (n : ℕ). u ∷ drop n now) on in
    let same : drop (place + 1) (set now place new) ≡ drop (place + 1) now = drop-set-lt (place + 1) now place new (omega arith) in
    record {
      state = next;
      stands = stands;
      leads = g.leads ∙ ap (after g.state) here ∙ ap (after next) (sym same);
      rest = λ later r.
          let left : AreCalled next (drop (place + 1) now) later = subst (λ (l : List Update). AreCalled next l later) same r in
          let both : AreCalled g.state (drop place now) (new ∷ later) = subst (λ (l : List Update). AreCalled g.state l (new ∷ later)) (sym here) (is, logged, left) in
          subst (λ (l : List Update). AreCalled s old l)
          (sym (ap (λ (l : List Update). l ++ later) (take_more_set now place new inside) ∙ append_assoc (take place now) (new ∷ []) later))
          (g.rest (new ∷ later) both);
    }

pub going_end : (s : State) (old now : List Update) (place : ℕ) (battle : Parts) → Going s old now place battle → length now ≤ place
    → AreCalled s old now × Stands battle (after s old)
going_end s old now place battle g all =
    let left : drop place now ≡ [] = drop_all place now all in
    let none : AreCalled g.state (drop place now) [] = subst (λ (l : List Update). AreCalled g.state l []) (sym left) tt in (
      subst (λ (l : List Update). AreCalled s old l) (append-nil (take place now) ∙ take_all place now all) (g.rest [] none),
      subst (λ (t : State). Stands battle t) (sym (g.leads ∙ ap (after g.state) left)) g.stands,
    )

pub all_called : (s : State) (us vs : List Update) → AreCalled s us vs → vs ≡ calls_in s us
all_called s [] [] h = refl
all_called s [] (v ∷ vs) h = absurd h
all_called s (u ∷ us) [] h = absurd h
all_called s (u ∷ us) (v ∷ vs) h =
    ap (λ (x : Update). x ∷ vs) h.0 ∙ ap (λ (l : List Update). called s u ∷ l) (all_called (stepped s u).state us vs h.2)

-- The machine's run by pairs of choices: those that were accepted. A refused pair changes nothing, and has no log.
pub record Ran (s : State) (us vs : List Update) : Type 0 where
  pub pairs : List (Choice × Choice)
  pub logs : List (List ℕ)
  pub read : AreRead logs (run s pairs).answers
  pub whole : joined (logs_in vs) ≡ joined logs
  pub leads : (run s pairs).state ≡ after s us

pub all_ran : (s : State) (us vs : List Update) → AreCalled s us vs → Ran s us vs
unfolding run_by
all_ran s [] [] h = record { pairs = []; logs = []; read = tt; whole = refl; leads = refl }
all_ran s [] (v ∷ vs) h = absurd h
all_ran s (u ∷ us) [] h = absurd h
all_ran s (u ∷ us) (v ∷ vs) h = by (stepped s u).answer refl (all_ran (stepped s u).state us vs h.2)
  where
    by : (answer : Answer) → (stepped s u).answer ≡ answer → Ran (stepped s u).state us vs → Ran s (u ∷ us) (v ∷ vs)
    by (Refused why) e more =
        let same = refused_leaves s u e in
        let log : log_in v ≡ [] = h.1.codes ∙ ap (λ (a : Answer). codes_of (events_of a)) e in
        record {
          pairs = more.pairs;
          logs = more.logs;
          read = subst (λ (t : State). AreRead more.logs (run t more.pairs).answers) same more.read;
          whole = ap (λ (l : List ℕ). l ++ joined (logs_in vs)) log ∙ more.whole;
          leads = ap (λ (t : State). (run t more.pairs).state) (sym same) ∙ more.leads;
        }
    by (Accepted events) e more =
        let found = accepted_pair s u events e in
        let pair = found.0 in
        let is : stepped s u ≡ step s pair.0 pair.1 = found.1 in
        record {
          pairs = pair ∷ more.pairs;
          logs = log_in v ∷ more.logs;
          read = subst (λ (t : Stepped). IsReading (log_in v) (events_of t.answer) × AreRead more.logs (run t.state more.pairs).answers) is (h.1, more.read);
          whole = ap (λ (l : List ℕ). log_in v ++ l) more.whole;
          leads = ap (λ (t : Stepped). (run t.state more.pairs).state) (sym is) ∙ more.leads;
        }
