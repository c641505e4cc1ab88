-- What was written so far, and what comes after it.
use Rattle.std.proofs.Common.{Err, List, Ok, Option, [], ap, append-nil, append_assoc, arith, drop, drop_of_length-le, get_or, length, refl, subst, suc, sym, ℕ, ◌++◌, ◌+◌, ◌<◌, ◌≡◌, ◌≤◌, ◌∙◌}
use Rattle.arrayvec.specs.ArrayVec.{ArrayVec}
use Rattle.std.specs.Io.KnownBytes.{Appends}
use Rattle.std.proofs.KnownBytes.{Appends-nil, Appends-trans}
use Rattle.std.proofs.Math.Seq.{drop-cons}
use Rattle.gen1_machine.specs.declared.event.Event.{Event}
use Rattle.gen1_machine.specs.LogBytes.{codes_of}
use Rattle.gen1_devices.specs.Output.{AppendsFront}
use Rattle.gen1_machine.specs.State.{State}
use Rattle.gen1_machine.specs.Step.{Accepted, Answer, Refused, Refusal}
use Rattle.gen1_devices.proofs.OutputLemmas.{appends_front_after}
use Rattle.gen1_layout.specs.Parts.{Parts}
use Rattle.gen1_layout.specs.Shows.{Stands}
use Rattle.gen1_engine.specs.Replay.{step_by_bytes}
use Rattle.gen1_engine.specs.Update.{AnswersAs, LogsAs, TellsAs, refusal_number, refusal_of}
use Rattle.gen1_engine.specs.declared.result.BattleResult.{BattleResult}
use Rattle.gen1_engine.specs.declared.result.Refusal.{Refusal as Why}
use Rattle.battle_commands.specs.Asked.{Answers, Due, after, due_by, due_from}
use Rattle.battle_commands.specs.declared.fault.ToolFault.TheVariants.{Memory, Pair, Write}

-- what an update by bytes returned

pub answered_ok : (answer : Answer) (next : State) (old new : Parts) (old_events events : ArrayVec Event) (result : BattleResult) → AnswersAs answer next old new (Ok result) → TellsAs answer old_events events
    → (answer ≡ Accepted events.items) × Stands new next
answered_ok (Refused reason) next old new old_events events result h t = absurd (let e = h.0 in cc)
answered_ok (Accepted told) next old new old_events events result h t = (ap Accepted (sym t), h.1)

pub answered_err : (answer : Answer) (next : State) (old new : Parts) (why : Why) → AnswersAs answer next old new (Err why)
    → (reason : Refusal) × (answer ≡ Refused reason) × (why ≡ refusal_of reason)
answered_err (Refused reason) next old new why h = (reason, refl, (let e = h.0 in cc))
answered_err (Accepted events) next old new why h = absurd (let e = h.0 in cc)

-- the pairs before an index were played, and their lines written: the whole text is these and the text of the remaining pairs
pub record Stood (tell : List Event → List ℕ) (s : State) (pairs : List (ℕ × ℕ)) (number : ℕ) (battle : Parts) (old now : Option (List ℕ)) : Type 0 where
  pub state : State
  pub stands : Stands battle state
  pub said : List ℕ
  pub written : Appends old now said
  pub goes_on : due_from tell 0 s pairs ≡ after said (due_from tell number state (drop number pairs))

pub stood_first : (tell : List Event → List ℕ) (s : State) (pairs : List (ℕ × ℕ)) (battle : Parts) (old : Option (List ℕ)) → Stands battle s → Stood tell s pairs 0 battle old old
stood_first tell s pairs battle old h = record { state = s; stands = h; said = []; written = Appends-nil old; goes_on = refl }

due_here : (tell : List Event → List ℕ) (number : ℕ) (t : State) (pairs : List (ℕ × ℕ)) → number < length pairs
    → due_from tell number t (drop number pairs)
    ≡ due_by tell number (step_by_bytes t (get_or pairs number (0, 0))).answer
    (due_from tell (number + 1) (step_by_bytes t (get_or pairs number (0, 0))).state (drop (number + 1) pairs))
unfolding due_from
due_here tell number t pairs inside =
    ap (λ (l : List (ℕ × ℕ)). due_from tell number t l) (drop-cons pairs number (0, 0) inside)
    ∙ ap (λ (n : ℕ). due_by tell number (step_by_bytes t (get_or pairs number (0, 0))).answer
    (due_from tell (number + 1) (step_by_bytes t (get_or pairs number (0, 0))).state (drop n pairs))) (let e : suc number ≡ number + 1 = omega arith in e)

pub after_after : (said more : List ℕ) (due : Due) → after said (after more due) ≡ after (said ++ more) due
after_after said more due = ap (λ (l : List ℕ). record { text = l; fault = due.fault }) (sym (append_assoc said more due.text))

-- by the machine's answer to the next pair
due_then : {tell : List Event → List ℕ} {s : State} (pairs : List (ℕ × ℕ)) (number : ℕ) {battle : Parts} {a b : Option (List ℕ)} (h : Stood tell s pairs number battle a b) (answer : Answer)
    → number < length pairs → (step_by_bytes h.state (get_or pairs number (0, 0))).answer ≡ answer
    → due_from tell 0 s pairs
    ≡ after h.said (due_by tell number answer (due_from tell (number + 1) (step_by_bytes h.state (get_or pairs number (0, 0))).state (drop (number + 1) pairs)))
due_then {tell = tell} pairs number h answer inside e =
    h.goes_on ∙ ap (after h.said) (due_here tell number h.state pairs inside)
    ∙ ap (λ (x : Answer). after h.said (due_by tell number x (due_from tell (number + 1) (step_by_bytes h.state (get_or pairs number (0, 0))).state (drop (number + 1) pairs)))) e

pub stood_more : {tell : List Event → List ℕ} {s : State} (pairs : List (ℕ × ℕ)) (number : ℕ) {battle new : Parts} {a b c : Option (List ℕ)} (h : Stood tell s pairs number battle a b) (events : List Event)
    → number < length pairs → (step_by_bytes h.state (get_or pairs number (0, 0))).answer ≡ Accepted events
    → Stands new (step_by_bytes h.state (get_or pairs number (0, 0))).state → Appends b c (tell events) → Stood tell s pairs (number + 1) new a c
stood_more {tell = tell} pairs number {a = a} {b = b} {c = c} h events inside e stands wrote = record {
  state = (step_by_bytes h.state (get_or pairs number (0, 0))).state;
  stands = stands;
  said = h.said ++ tell events;
  written = Appends-trans a b c h.said (tell events) h.written wrote;
  goes_on = due_then pairs number h (Accepted events) inside e ∙ after_after h.said (tell events) _;
}

pub answers_refused : (T : Type 0) {tell : List Event → List ℕ} {s : State} (pairs : List (ℕ × ℕ)) (number : ℕ) {battle : Parts} {a b : Option (List ℕ)} (h : Stood tell s pairs number battle a b) (why : Refusal)
    → number < length pairs → (step_by_bytes h.state (get_or pairs number (0, 0))).answer ≡ Refused why
    → Answers {T = T} (due_from tell 0 s pairs) a b (Err (Pair number (refusal_number (refusal_of why))))
answers_refused T {tell = tell} pairs number {a = a} {b = b} h why inside e =
    subst (λ (d : Due). Answers {T = T} d a b (Err (Pair number (refusal_number (refusal_of why))))) (sym (due_then pairs number h (Refused why) inside e))
    (refl, subst (λ (l : List ℕ). Appends a b l) (sym (append-nil h.said)) h.written)

pub answers_memory : (T : Type 0) {tell : List Event → List ℕ} {s : State} (pairs : List (ℕ × ℕ)) (number : ℕ) {battle : Parts} {a b : Option (List ℕ)} → Stood tell s pairs number battle a b
    → Answers {T = T} (due_from tell 0 s pairs) a b (Err Memory)
answers_memory T {tell = tell} pairs number {a = a} {b = b} h =
    subst (λ (d : Due). Answers {T = T} d a b (Err Memory)) (sym h.goes_on)
    (record { front = h.said; rest = (due_from tell number h.state (drop number pairs)).text; split = refl; written = h.written })

pub answers_write : (T : Type 0) {tell : List Event → List ℕ} {s : State} (pairs : List (ℕ × ℕ)) (number : ℕ) {battle : Parts} {a b c : Option (List ℕ)} (h : Stood tell s pairs number battle a b) (events : List Event)
    → number < length pairs → (step_by_bytes h.state (get_or pairs number (0, 0))).answer ≡ Accepted events → AppendsFront b c (tell events)
    → Answers {T = T} (due_from tell 0 s pairs) a c (Err Write)
answers_write T {tell = tell} pairs number {a = a} {c = c} h events inside e wrote =
    subst (λ (d : Due). Answers {T = T} d a c (Err Write)) (sym (due_then pairs number h (Accepted events) inside e))
    (appends_front_after a h.said _ h.written wrote)

pub answers_over : (T : Type 0) {tell : List Event → List ℕ} {s : State} (x : T) (pairs : List (ℕ × ℕ)) (number : ℕ) {battle : Parts} {a b : Option (List ℕ)} (h : Stood tell s pairs number battle a b) → length pairs ≤ number
    → Answers (due_from tell 0 s pairs) a b (Ok x)
unfolding due_from
answers_over T {tell = tell} x pairs number {a = a} {b = b} h end =
    let due = h.goes_on ∙ ap (λ (l : List (ℕ × ℕ)). after h.said (due_from tell number h.state l)) (drop_of_length-le pairs end) in
    subst (λ (d : Due). Answers d a b (Ok x)) (sym due) (refl, subst (λ (l : List ℕ). Appends a b l) (sym (append-nil h.said)) h.written)

-- what an update by bytes left in a log
pub logged : (answer : Answer) (next : State) (old new : Parts) (old_log log : ArrayVec ℕ) (result : BattleResult) → AnswersAs answer next old new (Ok result) → LogsAs answer old_log log
    → (events : List Event) × (answer ≡ Accepted events) × (log.items ≡ codes_of events) × Stands new next
logged (Refused reason) next old new old_log log result h l = absurd (let e = h.0 in cc)
logged (Accepted told) next old new old_log log result h l = (told, refl, l.codes, h.1)
