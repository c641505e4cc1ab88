-- The calls of a battle, one after the other.
use Rattle.std.proofs.Common.{List, Result, [], ap, append-nil, append_assoc, arith, drop, drop-cons, drop-set-lt, get_or, inl, inr, length, map, refl, set, subst, suc, sym, take, ℕ, ◌++◌, ◌+◌, ◌<◌, ◌∙◌, ◌∷◌, ◌≡◌, ◌≤◌, ◌⊎◌}
use Rattle.std.proofs.lemmas.List.{drop_all, take_all, take_more_set}
use Rattle.arrayvec.specs.ArrayVec.{ArrayVec}
use Rattle.gen1_machine.specs.declared.side.Side.TheVariants.{One, Two}
use Rattle.gen1_machine.specs.declared.side.Choice.{Choice}
use Rattle.gen1_machine.specs.Layout.{bytes_of}
use Rattle.gen1_machine.specs.LogBytes.{codes_of}
use Rattle.gen1_machine.specs.OfferedChoices.{offered}
use Rattle.gen1_machine.specs.State.{Field, State, Terms}
use Rattle.gen1_machine.specs.Step.{Accepted, Answer, Refused, events_of, run, run_by, step}
use Rattle.gen1_machine.specs.Valid.{IsStarted, IsState, IsUnstarted}
use Rattle.gen1_events.specs.Reader.{IsReading}
use Rattle.gen1_layout.specs.Loading.{version_three}
use Rattle.gen1_layout.specs.LoadingLaws.{IsBattle}
use Rattle.gen1_layout.specs.Parts.{Parts, parts_of}
use Rattle.gen1_layout.specs.Shows.{Stands}
use Rattle.gen1_layout.proofs.WaysBack.{parts-bytes_of}
use Rattle.gen1_engine.specs.Update.{AnswersAs, LogsAs, Updates, result_of}
use Rattle.gen1_engine.specs.declared.result.BattleResult.{BattleResult}
use Rattle.gen1_engine.specs.declared.result.Refusal.{Refusal}
use Rattle.gen1_engine.proofs.Making.{calls_are_the_run}
use Rattle.gen1_spectator.specs.Plain.{AreRead}
use Rattle.uses.specs.TheTheorem.{IsLogged, called, calls_in, logs_of, pair_of, returned_by}
use Rattle.uses.specs.declared.the_theorem.Update.{Update}

-- one update

pub by_answer : (answer : Answer) (next : State) (old new : Parts) (result : Result BattleResult Refusal) (before log : ArrayVec ℕ) → before.items ≡ []
    → AnswersAs answer next old new result → LogsAs answer before log
    → (result ≡ returned_by answer next) × IsReading log.items (events_of answer)
by_answer (Refused why) next old new result before log empty a l =
    (a.0, record { codes = ap (λ (v : ArrayVec ℕ). v.items) l ∙ empty; ranges = tt })
by_answer (Accepted events) next old new result before log empty a l = (a.0, l)

pub called_same : (s : State) (u : Update) (stored : List ℕ) (result : BattleResult) (one two : ArrayVec Choice) (returned : Result BattleResult Refusal) (log : ArrayVec ℕ)
    → stored ≡ bytes_of s → result ≡ result_of s → one.items ≡ offered One s.field → two.items ≡ offered Two s.field
    → returned ≡ returned_by (step s u.one u.two).answer (step s u.one u.two).state
    → log.items ≡ codes_of (events_of (step s u.one u.two).answer)
    → record u { stored = stored; result = result; offered_one = one; offered_two = two; returned = returned; log = log } ≡ called s u
called_same s u stored result one two returned log a b c d e f i =
    record u { stored = a i; result = b i; offered_one = record { items = c i }; offered_two = record { items = d i }; returned = e i; log = record { items = f i } }

pub goes : (s : State) (old new : Parts) (pair : Choice × Choice) (result : Result BattleResult Refusal) → Stands old s → Updates old pair result new
    → Stands new (step s pair.0 pair.1).state
unfolding run_by
goes s old new pair result h updates = calls_are_the_run s old new (pair ∷ []) (result ∷ []) h (new, updates, refl)

-- the bytes of a battle are loaded as the same battle

pub stored_battle : (s : State) → IsState s → length (bytes_of s) ≡ 384 → IsBattle (bytes_of s)
unfolding bytes_of
stored_battle s valid full = record {
  full = full;
  version = (omega arith, omega arith);
  keeps = record { limit = λ low. absurd (omega (arith, low)); rules = λ one. absurd (omega (arith, one)) };
  stands = record { state = s; valid = valid; same = refl };
}

in_version_three : (s : State) → version_three (bytes_of s) ≡ bytes_of s
unfolding bytes_of
in_version_three s = refl

few_one : (terms : Terms) (f : Field) → IsUnstarted terms f ⊎ IsStarted terms f → length f.one.members ≤ 6
few_one terms f (inl u) = u.members_one.size.1
few_one terms f (inr s) = s.field.one.members.size.1

few_two : (terms : Terms) (f : Field) → IsUnstarted terms f ⊎ IsStarted terms f → length f.two.members ≤ 6
few_two terms f (inl u) = u.members_two.size.1
few_two terms f (inr s) = s.field.two.members.size.1

pub loaded_same : (s : State) (old loaded : Parts) (stored : List ℕ) → Stands old s → stored ≡ bytes_of s → loaded ≡ parts_of (version_three stored) → loaded ≡ old
loaded_same s old loaded stored h is read =
    read ∙ ap (λ (bytes : List ℕ). parts_of (version_three bytes)) is ∙ ap parts_of (in_version_three s)
    ∙ parts-bytes_of s (few_one s.terms s.field h.valid.field) (few_two s.terms s.field h.valid.field) ∙ sym h.same

-- updates, before and after their calls

abbrev pub AreCalled : State → List Update → List Update → Type 0
AreCalled s [] [] = Unit {0}
AreCalled s [] (v ∷ vs) = ⊥
AreCalled s (u ∷ us) [] = ⊥
AreCalled s (u ∷ us) (v ∷ vs) = (v ≡ called s u) × IsLogged s u v × AreCalled (step s u.one u.two).state us vs

-- those before an index were called; the battle represents a state from which the others are
pub record Going (s : State) (old now : List Update) (place : ℕ) (battle : Parts) : Type 0 where
  pub state : State
  pub stands : Stands battle state
  pub rest : (later : List Update) → AreCalled state (drop place now) later → AreCalled s old (take place now ++ later)

pub going_first : (s : State) (updates : List Update) (battle : Parts) → Stands battle s → Going s updates updates 0 battle
going_first s updates battle h = record { state = s; stands = h; rest = λ later r. r }

pub going_more : (s : State) (old now : List Update) (place : ℕ) (before after : Parts) (d new : Update) (g : Going s old now place before) → place < length now
    → new ≡ called g.state (get_or now place d) → IsLogged g.state (get_or now place d) new
    → Stands after (step g.state (get_or now place d).one (get_or now place d).two).state
    → Going s old (set now place new) (place + 1) after
going_more s old now place before after d new g inside is logged stands =
    let u = get_or now place d in
    let next = (step g.state u.one u.two).state in
    let on : suc place ≡ place + 1 = omega arith in
    let here : drop place now ≡ u ∷ drop (place + 1) now = drop-cons now place d inside ∙ ap (λ (n : ℕ). u ∷ drop n now) on in
    record {
      state = next;
      stands = stands;
      rest = λ later r.
          let left : AreCalled next (drop (place + 1) now) later = subst (λ (l : List Update). AreCalled next l later) (drop-set-lt (place + 1) now place new (omega arith)) r in
          let both : AreCalled g.state (drop place now) (new ∷ later) = subst (λ (l : List Update). AreCalled g.state l (new ∷ later)) (sym here) (is, logged, left) in
          subst (λ (l : List Update). AreCalled s old l)
          (sym (ap (λ (l : List Update). l ++ later) (take_more_set now place new inside) ∙ append_assoc (take place now) (new ∷ []) later))
          (g.rest (new ∷ later) both);
    }

pub going_end : (s : State) (old now : List Update) (place : ℕ) (battle : Parts) → Going s old now place battle → length now ≤ place → AreCalled s old now
going_end s old now place battle g all =
    let none : AreCalled g.state (drop place now) [] = subst (λ (l : List Update). AreCalled g.state l []) (sym (drop_all place now all)) tt in
    subst (λ (l : List Update). AreCalled s old l) (append-nil (take place now) ∙ take_all place now all) (g.rest [] none)

pub all_called : (s : State) (us vs : List Update) → AreCalled s us vs → vs ≡ calls_in s us
all_called s [] [] h = refl
all_called s [] (v ∷ vs) h = absurd h
all_called s (u ∷ us) [] h = absurd h
all_called s (u ∷ us) (v ∷ vs) h =
    let next = (step s u.one u.two).state in
    ap (λ (x : Update). x ∷ vs) h.0 ∙ ap (λ (l : List Update). called s u ∷ l) (all_called next us vs h.2)

pub all_read : (s : State) (us vs : List Update) → AreCalled s us vs → AreRead (logs_of vs) (run s (map pair_of us)).answers
unfolding run_by
all_read s [] [] h = tt
all_read s [] (v ∷ vs) h = absurd h
all_read s (u ∷ us) [] h = absurd h
all_read s (u ∷ us) (v ∷ vs) h = (h.1, all_read (step s u.one u.two).state us vs h.2)
