-- What a viewer has shown, event by event; and that each side is offered something.
use Rattle.std.proofs.Common.{List, None, Ok, Option, Some, [], ap, append_assoc, drop, refl, subst, sym, take, take-append-drop, ℕ, ◌++◌, ◌≡◌, ◌∙◌, ◌∷◌, Bool, false, length, true, ◌+◌, ◌≤◌, Result}
use Rattle.std.specs.Io.KnownBytes.{Appends}
use Rattle.std.proofs.Math.Seq.{take-length}
use Rattle.std.proofs.KnownBytes.{Appends-nil, Appends-trans}
use Rattle.std.proofs.lemmas.List.{append-nil}
use Rattle.gen1_machine.specs.declared.event.Event.{Event}
use Rattle.gen1_machine.specs.LogBytes.{codes_of}
use Rattle.gen1_machine.specs.Lines.{line, lines}
use Rattle.gen1_machine.specs.View.{sees, sees_all, View}
use Rattle.gen1_events.specs.Reader.{failed, Feeds, Finishes, Hands, part, Reading, waiting, fed, handed, made, Reads}
use Rattle.gen1_events.proofs.Readings.{reads_part}
use Rattle.uses.specs.Examples.{HasShown, ShowsLog, ShowsMore}
use Rattle.gen1_printer.proofs.Standing.{lines_more}
use Rattle.std.specs.Prelude.{cond, count_by, is_ok}
use Rattle.std.proofs.lemmas.Bool.{false≢true}
use Rattle.gen1_machine.specs.declared.side.Side.{Side}
use Rattle.gen1_machine.specs.declared.side.Side.TheVariants.{One, Two}
use Rattle.gen1_machine.specs.declared.side.Choice.{Choice}
use Rattle.gen1_machine.specs.OfferedChoices.{offered}
use Rattle.gen1_machine.specs.State.{State, is_over}
use Rattle.gen1_machine.specs.Step.{is_among, offers, Accepted, Answer, Ran, Refused, Stepped, run, run_by, step}
use Rattle.gen1_machine.specs.Valid.{IsState}
use Rattle.std.proofs.lemmas.List.Sums.{sum_by_push}
use Rattle.gen1_machine.specs.Laws.{is_accepted}
use Rattle.gen1_machine.proofs.Runs.{runs_append}
use Rattle.gen1_layout.specs.Parts.{Parts}
use Rattle.gen1_layout.specs.Shows.{Stands}
use Rattle.gen1_switching.proofs.Stepped.{step_accepts}
use Rattle.gen1_engine.specs.declared.result.BattleResult.{BattleResult}
use Rattle.gen1_engine.specs.declared.result.Refusal.{Refusal}
use Rattle.gen1_engine.specs.Update.{Answers, AnswersAs}
use Rattle.gen1_engine.proofs.Making.{goes_on, Accepts, offers-some}

sees_one_more : (events : List Event) (event : Event) (v : View) → sees_all (events ++ event ∷ []) v ≡ sees event (sees_all events v)
unfolding sees_all
sees_one_more [] event v = refl
sees_one_more (e ∷ events) event v = sees_one_more events event (sees e v)

-- nothing was taken, and nothing shown
pub shown_first : (first : View) (before : Option (List ℕ)) → HasShown [] (part []) first first before before
unfolding sees_all
shown_first first before = record { events = []; held = []; holds = refl; handed = made; told = refl; printed = Appends-nil before }

none_waits : (reader after : Reading) (event : Event) → Hands reader (Some event) after → after ≡ part []
none_waits (part held) after event h = absurd cc
none_waits (waiting found) after event h = h.1
none_waits (failed fault) after event h = absurd cc

-- an event became complete, and was shown
shown_event : (reader next after : Reading) (rest : List ℕ) (n : ℕ) (event : Event) (view view' : View) (out out' : Option (List ℕ))
    → Feeds reader rest (Ok n) next → Hands next (Some event) after → view' ≡ sees event view → Appends out out' (line event)
    → ShowsMore (take n rest) reader view out after view' out'
shown_event reader next after rest n event view view' out out' f h t p = λ taken first before s. record {
  events = s.events ++ event ∷ [];
  held = [];
  holds = none_waits next after event h;
  handed = handed (taken ++ take n rest) s.events next after event (fed taken s.events reader next rest n s.handed f) h;
  told = t ∙ ap (sees event) s.told ∙ sym (sees_one_more s.events event first);
  printed = subst (Appends before out') (sym (lines_more s.events event)) (Appends-trans before out out' (lines s.events) (line event) s.printed p);
}

-- the events still to be shown are those of the remaining bytes
abbrev pub Remains : List ℕ → Reading → View → Option (List ℕ) → List ℕ → Reading → View → Option (List ℕ) → Type 0
Remains rest reader view out bytes reader' view' out' =
    (last : Reading) (shown : View) (written : Option (List ℕ))
    → ShowsMore rest reader view out last shown written → ShowsMore bytes reader' view' out' last shown written

pub one_more : (reader next after : Reading) (rest : List ℕ) (n : ℕ) (event : Event) (view view' : View) (out out' : Option (List ℕ))
    → Feeds reader rest (Ok n) next → Hands next (Some event) after → view' ≡ sees event view → Appends out out' (line event)
    → Remains (drop n rest) after view' out' rest reader view out
one_more reader next after rest n event view view' out out' f h t p = λ last shown written more taken first before s.
    subst (λ (l : List ℕ). HasShown l last first shown before written)
    (append_assoc taken (take n rest) (drop n rest) ∙ ap (λ (l : List ℕ). taken ++ l) (take-append-drop n rest))
    (more (taken ++ take n rest) first before (shown_event reader next after rest n event view view' out out' f h t p taken first before s))

-- no event is left, so all bytes were taken
all_taken : (held rest : List ℕ) (next after : Reading) (n : ℕ) → Feeds (part held) rest (Ok n) next → Hands next None after
    → (take n rest ≡ rest) × (after ≡ next) × (after ≡ part (held ++ rest))
all_taken held rest (part more) after n f h = (ap (λ (k : ℕ). take k rest) f.0 ∙ take-length rest, h.1, h.1 ∙ ap part f.1)
all_taken held rest (waiting event) after n f h = absurd (let e = h.0 in cc)
all_taken held rest (failed fault) after n f h = absurd f

pub none_more : (reader next after : Reading) (rest : List ℕ) (n : ℕ) (view : View) (out : Option (List ℕ))
    → Feeds reader rest (Ok n) next → Hands next None after → ShowsMore rest reader view out after view out
none_more reader next after rest n view out f h = λ taken first before s.
    let all = all_taken s.held rest next after n (subst (λ (r : Reading). Feeds r rest (Ok n) next) s.holds f) h in
    record {
      events = s.events;
      held = s.held ++ rest;
      holds = all.2;
      handed = subst (λ (r : Reading). Reads (taken ++ rest) s.events r) (sym all.1)
          (subst (λ (l : List ℕ). Reads (taken ++ l) s.events next) all.0 (fed taken s.events reader next rest n s.handed f));
      told = s.told;
      printed = s.printed;
    }

-- the whole log was taken, and does not end within an event
no_part : {T : Type 0} (held : List ℕ) (done : T) (after : Reading) → Finishes (part held) (Ok done) after → held ≡ []
no_part [] done after f = refl
no_part (tag ∷ fields) done after f = absurd (let wrong = f.0 in cc)

pub shown_whole : {T : Type 0} (log : List ℕ) (reader after : Reading) (done : T) (first view : View) (before out : Option (List ℕ))
    → HasShown log reader first view before out → Finishes reader (Ok done) after → ShowsLog log first view before out
shown_whole {T} log reader after done first view before out s f =
    let none = no_part s.held done after (subst (λ (r : Reading). Finishes {T = T} r (Ok done) after) s.holds f) in
    let split = reads_part log s.events [] (subst (λ (r : Reading). Reads log s.events r) (s.holds ∙ ap part none) s.handed) in
    record {
      events = s.events;
      reading = record { codes = split.parts ∙ append-nil (codes_of s.events); ranges = split.ranges };
      told = s.told;
      printed = s.printed;
    }

-- A choice picked among the offered choices is offered, and what is offered is accepted.

-- A choice picked among the offered choices is offered.
pub picked : (side : Side) (s : State) (items : List Choice) (c : Choice) → IsState s → is_over s.field.outcome ≡ false → items ≡ offered side s.field
    → (1 ≤ length items → is_among c items ≡ true) → offers s side c ≡ true
picked side s items c valid going e among =
    ap (is_among c) (sym e) ∙ among (subst (λ (l : List Choice). 1 ≤ length l) (sym e) (offers-some side s valid going))

answered : (answer : Answer) (next : State) (old new : Parts) (outcome : Result BattleResult Refusal) → is_ok outcome ≡ true
    → AnswersAs answer next old new outcome → Stands new next × (is_accepted answer ≡ true)
answered (Refused why) next old new outcome ok h = absurd (false≢true (sym (ap is_ok h.0) ∙ ok))
answered (Accepted events) next old new outcome ok h = (h.1, refl)

pub accepts-more : {s : State} {count : ℕ} {old : Parts} (new : Parts) (one two : Choice) (outcome : Result BattleResult Refusal) (h : Accepts s count old)
    → is_ok outcome ≡ true → Answers (run s h.pairs).state one two old new outcome → Accepts s (count + 1) new
unfolding run_by
accepts-more {s = s} {count = count} {old = old} new one two outcome h ok answers =
    let t = (run s h.pairs).state in
    let before = (run s h.pairs).answers in
    let last = step t one two in
    let is = answered last.answer last.state old new outcome ok answers in
    let ran : run s (h.pairs ++ (one, two) ∷ []) ≡ record { answers = before ++ last.answer ∷ []; state = last.state } = runs_append s h.pairs ((one, two) ∷ []) in
    record {
      pairs = h.pairs ++ (one, two) ∷ [];
      stands = subst (λ (r : Ran). Stands new r.state) (sym ran) is.0;
      counted =
          ap (λ (r : Ran). count_by is_accepted r.answers) ran ∙ sum_by_push (λ (a : Answer). cond (is_accepted a) 1 0) before last.answer
          ∙ ap (λ (b : Bool). count_by is_accepted before + cond b 1 0) is.1 ∙ ap (λ (n : ℕ). n + 1) h.counted;
    }

-- What is offered is accepted.
pub accepts-offered : (s : State) (one two : Choice) (old new : Parts) (outcome : Result BattleResult Refusal) → offers s One one ≡ true → offers s Two two ≡ true
    → Answers s one two old new outcome → is_ok outcome ≡ true
accepts-offered s one two old new outcome first second answers =
    let is = step_accepts s one two (goes_on s One one first) first second in
    ap is_ok (subst (λ (t : Stepped). AnswersAs t.answer t.state old new outcome) is answers).0
