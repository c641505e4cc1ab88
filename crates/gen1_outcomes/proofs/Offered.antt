-- A pair that is accepted was offered.
use Rattle.std.proofs.Common.{◌≡◌, Bool, List, true, false, Err, Ok, Result, Some, ap, refl, subst, sym, ◌∙◌, ℕ}
use Rattle.gen1_rolls.specs.Steady.{draws_of, stream_of}
use Rattle.gen1_machine.specs.declared.side.Choice.{Choice}
use Rattle.gen1_machine.specs.declared.side.Side.TheVariants.{One, Two}
use Rattle.gen1_machine.specs.Choices.{choice_at}
use Rattle.gen1_machine.specs.Ruling.{ruling_of}
use Rattle.gen1_machine.specs.State.{State, is_over}
use Rattle.gen1_machine.specs.Step.{NotOffered, Over, answered, offers, opened, step, step_by, update}
use Rattle.gen1_layout.specs.Parts.{Parts}
use Rattle.gen1_engine.specs.declared.result.BattleResult.{BattleResult}
use Rattle.gen1_engine.specs.declared.result.Refusal.{Refusal}
use Rattle.gen1_engine.specs.declared.result.Refusal.TheVariants as refusals
use Rattle.gen1_layout.specs.Shows.{Telling}
use Rattle.gen1_engine.specs.Replay.{both, choices_at}
use Rattle.gen1_engine.specs.Update.{Answers, AnswersAs, AreOffered, Tests}
use Rattle.gen1_outcomes.specs.declared.log.Entry.{Entry}
use Rattle.gen1_outcomes.specs.declared.nodes.Nodes.{Nodes}
use Rattle.gen1_outcomes.specs.declared.explorer.Script.{Script}
use Rattle.gen1_outcomes.specs.Plain.{CanFollow, Leads}
use Rattle.gen1_outcomes.specs.Logs.{Agrees, IsLogged, NotesAll}
use Rattle.gen1_outcomes.specs.Nodes.{scripted}

pub accepted_offered : (s : State) (one two : Choice) (old new : Parts) (result : BattleResult) → Answers s one two old new (Ok result) → AreOffered s one two
unfolding step step_by answered
accepted_offered s one two old new result h = by (is_over s.field.outcome) (offers s One one) (offers s Two two) refl refl h
  where
    by : (over first second : Bool) → offers s One one ≡ first → offers s Two two ≡ second
        → AnswersAs (answered s over first second (update (ruling_of s.terms) one two (opened s))).answer
        (answered s over first second (update (ruling_of s.terms) one two (opened s))).state old new (Ok result)
        → AreOffered s one two
    by true first second e f h = absurd (let x = h.0 in cc)
    by false false second e f h = absurd (let x = h.0 in cc)
    by false true false e f h = absurd (let x = h.0 in cc)
    by false true true e f h = record { first = e; second = f }

same_error : (r : Result BattleResult Refusal) (a b : Refusal) → r ≡ Err a → r ≡ Err b → a ≡ b
same_error r a b e f = cc

-- A pair that is refused was refused for that reason.
pub refused_tests : (s : State) (one two : Choice) (old new : Parts) (why : Refusal) → Answers s one two old new (Err why) → Tests s one two (Some why)
unfolding step step_by answered
refused_tests s one two old new why h = by (is_over s.field.outcome) (offers s One one) (offers s Two two) refl h
  where
    by : (over first second : Bool)
        → step s one two ≡ answered s over first second (update (ruling_of s.terms) one two (opened s))
        → AnswersAs (answered s over first second (update (ruling_of s.terms) one two (opened s))).answer
        (answered s over first second (update (ruling_of s.terms) one two (opened s))).state old new (Err why)
        → Tests s one two (Some why)
    by true first second e h = (Over, same_error (Err why) why refusals.Over refl h.0, e)
    by false false second e h = (NotOffered One, same_error (Err why) why (refusals.NotOffered One) refl h.0, e)
    by false true false e h = (NotOffered Two, same_error (Err why) why (refusals.NotOffered Two) refl h.0, e)
    by false true true e h = absurd (let x = h.0 in cc)

-- The same by other names of the choices.
pub tests_as : (s : State) (a b one two : Choice) (why : Refusal) → a ≡ one → b ≡ two → Tests s a b (Some why) → Tests s one two (Some why)
tests_as s a b one two why e f h =
    subst (λ (x : Choice). Tests s x two (Some why)) e (subst (λ (y : Choice). Tests s a y (Some why)) f h)

pub offered_as : (s : State) (a b one two : Choice) → a ≡ one → b ≡ two → AreOffered s a b → AreOffered s one two
offered_as s a b one two e f h = subst (λ (x : Choice). AreOffered s x two) e (subst (λ (y : Choice). AreOffered s a y) f h)

pub leads_by : (s : State) (a b one two : Choice) (log : List Entry) (parts : Parts) (events : Telling) → a ≡ one → b ≡ two
    → (AreOffered s a b → Leads s a b log parts events) → AreOffered s one two → Leads s one two log parts events
leads_by s a b one two log parts events e f h =
    subst (λ (x : Choice). AreOffered s x two → Leads s x two log parts events) e
    (subst (λ (y : Choice). AreOffered s a y → Leads s a y log parts events) f h)

-- A way that was played can follow: its script's draws agree with its log.
pub can_follow : (script : Script) (old new : Nodes) (way : IsLogged script old new) (s : State) (one two : Choice) (parts : Parts) (events : Telling)
    → Leads s one two way.log parts events → CanFollow s one two parts events
can_follow script old new way s one two parts events leads =
    record { log = way.log; bytes = draws_of scripted script; agrees = way.own; leads = leads }

-- A way under other names of its script and of what was noted before it and after it.
abbrev pub way_as : (script script' : Script) (old old' new new' : Nodes) (P : List Entry → Type 0) → script ≡ script' → old ≡ old' → new ≡ new'
    → (way : IsLogged script old new) × P way.log → (way : IsLogged script' old' new') × P way.log
way_as script script' old old' new new' P e f h x = (
  record {
    log = x.0.log;
    own = subst (λ (y : Script). Agrees x.0.log (stream_of scripted y)) e x.0.own;
    noted =
        subst (λ (n : Nodes). NotesAll x.0.log old' n) h
        (subst (λ (y : Nodes). NotesAll x.0.log y new) f x.0.noted);
  },
  x.1,
)

some_same : (a b : Choice × Choice) → Some a ≡ Some b → a ≡ b
some_same a b e = cc

-- The same for the choices of two bytes.
pub leads_pair : (s : State) (bytes : ℕ × ℕ) (one two : Choice) (pair : Choice × Choice) (log : List Entry) (parts : Parts) (events : Telling)
    → Some one ≡ choice_at bytes.0 → Some two ≡ choice_at bytes.1 → choices_at bytes ≡ Some pair → (AreOffered s one two → Leads s one two log parts events)
    → AreOffered s pair.0 pair.1 → Leads s pair.0 pair.1 log parts events
leads_pair s bytes one two pair log parts events first second is =
    let read : both (choice_at bytes.0) (choice_at bytes.1) ≡ Some (one, two) = rw (sym first, sym second) refl in
    let same : (one, two) ≡ pair = some_same (one, two) pair (sym read ∙ is) in
    leads_by s one two pair.0 pair.1 log parts events (ap (λ (x : Choice × Choice). x.0) same) (ap (λ (x : Choice × Choice). x.1) same)
