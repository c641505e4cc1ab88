-- The laws of steps, of runs and of rooms.
use Rattle.std.proofs.Common.{Bool, List, None, Option, Some, [], ap, arith, false, if◌then◌else◌, inl, refl, sym, true, ℕ, ◌<◌, ◌∙◌, ◌∷◌, ◌≡◌, ◌≤◌}
use Rattle.gen1_machine.specs.declared.side.Side.TheVariants.{One, Two}
use Rattle.gen1_machine.specs.declared.side.Choice.{Choice}
use Rattle.gen1_rolls.specs.Streams.{byte_at, Link}
use Rattle.gen1_machine.specs.State.{is_over, usual_terms, Terms, State}
use Rattle.gen1_machine.specs.Progress.{Progress}
use Rattle.gen1_machine.specs.Ruling.{sleeps_under, freezes_under, ruling_of, ruling_without_clauses, ruling_with_clauses, Ruling}
use Rattle.gen1_machine.specs.Step.{opened, update, events_of, accepted, refused, answered, offers, step_by, step, step_before, step_two, and_then_ran, run_by, run, Refusal, Stepped, Ran, Over, Refused}
use Rattle.gen1_machine.specs.Room.{chosen, ended_by, with_submission, after, pair_of, pair_ended, accepted_pairs, course_of, Submission, Course}
use Rattle.gen1_machine.specs.Laws.{with_seed, OverStaysOver, RefusalChangesNothing, RoomRuns, TermsStay, RunsAppend, RunsAreLocal, SameAsBeforeRules, SameAsFixedLimit, UpdatesAreLocal, UpdatesAreTrees}
use Rattle.gen1_machine.proofs.Trees.{phase-local, phase-onward}
use Rattle.gen1_machine.proofs.TreeWalk.{ruling-tree, update-tree}

-- An update by a ruling, in the form that `answered` takes.
abbrev made : Ruling → State → Choice → Choice → Progress
made r s one two = update r one two (opened s)

step-over : (s : State) (one two : Choice) → is_over s.field.outcome ≡ true → step s one two ≡ refused s Over
unfolding step step_by answered
step-over s one two e = ap (λ over. answered s over (offers s One one) (offers s Two two) (made (ruling_of s.terms) s one two)) e

pub over_stays_over : OverStaysOver
unfolding run_by
over_stays_over s [] e = refl
over_stays_over s (pair ∷ pairs) e =
    let h = step-over s pair.0 pair.1 e in
    ap (λ (one : Stepped). and_then_ran one.answer (run one.state pairs)) h
    ∙ ap (λ (r : Ran). and_then_ran (Refused Over) r) (over_stays_over s pairs e)

answered-refused : (s : State) (over one two : Bool) (p : Progress) (why : Refusal)
    → (answered s over one two p).answer ≡ Refused why
    → (events_of (answered s over one two p).answer ≡ []) × ((answered s over one two p).state ≡ s)
unfolding answered
answered-refused s true one two p why e = (refl, refl)
answered-refused s false false two p why e = (refl, refl)
answered-refused s false true false p why e = (refl, refl)
answered-refused s false true true p why e = absurd (cc)

pub refusal_changes_nothing : RefusalChangesNothing
unfolding step step_by
refusal_changes_nothing s one two why e =
    answered-refused s (is_over s.field.outcome) (offers s One one) (offers s Two two) (made (ruling_of s.terms) s one two) why e

answered-terms : (s : State) (over one two : Bool) (p : Progress)
    → ((answered s over one two p).state.terms ≡ s.terms) × ((answered s over one two p).state.seed ≡ s.seed)
unfolding answered
answered-terms s true one two p = (refl, refl)
answered-terms s false false two p = (refl, refl)
answered-terms s false true false p = (refl, refl)
answered-terms s false true true p = (refl, refl)

step_by-terms : (ruling : Terms → Ruling) (s : State) (one two : Choice) → (step_by ruling s one two).state.terms ≡ s.terms
unfolding step_by
step_by-terms ruling s one two =
    (answered-terms s (is_over s.field.outcome) (offers s One one) (offers s Two two) (made (ruling s.terms) s one two)).0

pub terms_stay : TermsStay
unfolding step step_by
terms_stay s one two =
    answered-terms s (is_over s.field.outcome) (offers s One one) (offers s Two two) (made (ruling_of s.terms) s one two)

pub runs_append : RunsAppend
unfolding run_by
runs_append s [] more = refl
runs_append s (pair ∷ pairs) more =
    ap (λ (r : Ran). and_then_ran (step s pair.0 pair.1).answer r) (runs_append (step s pair.0 pair.1).state pairs more)

-- Two steps make the same runs if they agree wherever some fact holds that the second step keeps.
runs-agree : (next before : State → Choice → Choice → Stepped) (Holds : State → Type 0)
    → ((s : State) (one two : Choice) → Holds s → next s one two ≡ before s one two)
    → ((s : State) (one two : Choice) → Holds s → Holds (before s one two).state)
    → (s : State) (pairs : List (Choice × Choice)) → Holds s → run_by next s pairs ≡ run_by before s pairs
unfolding run_by
runs-agree next before Holds agree keeps s [] h = refl
runs-agree next before Holds agree keeps s (pair ∷ pairs) h =
    ap (λ (one : Stepped). and_then_ran one.answer (run_by next one.state pairs)) (agree s pair.0 pair.1 h)
    ∙ ap (λ (r : Ran). and_then_ran (before s pair.0 pair.1).answer r)
    (runs-agree next before Holds agree keeps (before s pair.0 pair.1).state pairs (keeps s pair.0 pair.1 h))

-- If two rulings are equal, so are their steps.
step_by-agree : (ruling before : Terms → Ruling) (s : State) (one two : Choice)
    → ruling s.terms ≡ before s.terms → step_by ruling s one two ≡ step_by before s one two
unfolding step_by
step_by-agree ruling before s one two e =
    ap (λ r. answered s (is_over s.field.outcome) (offers s One one) (offers s Two two) (made r s one two)) e

pub same_as_fixed_limit : SameAsFixedLimit
unfolding step step_two
same_as_fixed_limit = runs-agree step step_two (λ s. s.terms.limit ≡ 1000)
    (λ s one two h. step_by-agree ruling_of (λ terms. ruling_with_clauses terms.rules) s one two
    (ap (λ n. record (ruling_of s.terms) { last_turn = n }) h))
    (λ s one two h. ap (λ (t : Terms). t.limit) (step_by-terms (λ terms. ruling_with_clauses terms.rules) s one two) ∙ h)

pub same_as_before_rules : SameAsBeforeRules
unfolding step step_before sleeps_under freezes_under
same_as_before_rules = runs-agree step step_before (λ s. s.terms ≡ usual_terms)
    (λ s one two h. step_by-agree ruling_of (λ terms. ruling_without_clauses) s one two (ap ruling_of h))
    (λ s one two h. step_by-terms (λ terms. ruling_without_clauses) s one two ∙ h)

-- A room's battle is the run over the pairs that its submissions completed.

ended-run : (c : Course) (one two : Option Choice) → (ended_by c one two).state ≡ (run c.state (pair_of one two)).state
unfolding run_by
ended-run c (Some one) (Some two) = refl
ended-run c (Some one) None = refl
ended-run c None (Some two) = refl
ended-run c None None = refl

after-if : (over : Bool) (c : Course) (submission : Submission) (one two : Option Choice)
    → (if over then c else ended_by (with_submission c submission) one two).state
    ≡ (run c.state (if over then [] else pair_of one two)).state
unfolding run_by
after-if true c submission one two = refl
after-if false c submission one two = ended-run (with_submission c submission) one two

after-run : (c : Course) (submission : Submission) → (after c submission).state ≡ (run c.state (pair_ended c submission)).state
unfolding after
after-run c submission = let d = with_submission c submission in
    after-if (is_over c.state.field.outcome) c submission (chosen One d) (chosen Two d)

pub room_runs : RoomRuns
unfolding course_of accepted_pairs run_by
room_runs c [] = refl
room_runs c (submission ∷ more) =
    room_runs (after c submission) more
    ∙ ap (λ s. (run s (accepted_pairs (after c submission) more)).state) (after-run c submission)
    ∙ sym (ap (λ (r : Ran). r.state) (runs_append c.state (pair_ended c submission) (accepted_pairs (after c submission) more)))

-- Draws

pub updates_are_trees : UpdatesAreTrees
updates_are_trees terms one two p = let k = update-tree (ruling_of terms) one two (ruling-tree terms) in (k.tree p, k.leads p)

pub updates_are_local : UpdatesAreLocal
updates_are_local terms one two = phase-local (update-tree (ruling_of terms) one two (ruling-tree terms))

-- A stream that has the same bytes from one place up to another as that of a state.
abbrev SameBytes : List ℕ → State → ℕ → Type 0
SameBytes seed s m = (k : ℕ) → s.drawn ≤ k → k < m → byte_at (Link seed) k ≡ byte_at (Link s.seed) k

abbrev seeded_step : List ℕ → Stepped → Stepped
seeded_step seed one = record { answer = one.answer; state = with_seed seed one.state }

step-local : (s : State) (one two : Choice) (seed : List ℕ) → SameBytes seed s (step s one two).state.drawn
    → step (with_seed seed s) one two ≡ seeded_step seed (step s one two)
unfolding step step_by answered
step-local s one two seed = by (is_over s.field.outcome) (offers s One one) (offers s Two two)
  where
    by : (over first second : Bool)
        → SameBytes seed s (answered s over first second (made (ruling_of s.terms) s one two)).state.drawn
        → answered (with_seed seed s) over first second (made (ruling_of s.terms) (with_seed seed s) one two)
        ≡ seeded_step seed (answered s over first second (made (ruling_of s.terms) s one two))
    by true first second h = refl
    by false false second h = refl
    by false true false h = refl
    by false true true h = ap (λ p. accepted (with_seed seed s) p)
        (updates_are_local s.terms one two (opened s) (Link seed) (record { bytes = h; spans = inl refl }))

step-onward : (s : State) (one two : Choice) → s.drawn ≤ (step s one two).state.drawn
unfolding step step_by answered
step-onward s one two = by (is_over s.field.outcome) (offers s One one) (offers s Two two)
  where
    by : (over first second : Bool) → s.drawn ≤ (answered s over first second (made (ruling_of s.terms) s one two)).state.drawn
    by true first second = omega arith
    by false false second = omega arith
    by false true false = omega arith
    by false true true = phase-onward (update-tree (ruling_of s.terms) one two (ruling-tree s.terms)) (opened s)

run-onward : (s : State) (pairs : List (Choice × Choice)) → s.drawn ≤ (run s pairs).state.drawn
unfolding run_by
run-onward s [] = omega arith
run-onward s (pair ∷ pairs) =
    let next = (step s pair.0 pair.1).state in
    omega (arith, step-onward s pair.0 pair.1, run-onward next pairs)

pub runs_are_local : RunsAreLocal
unfolding run_by
runs_are_local s [] seed h = refl
runs_are_local s (pair ∷ pairs) seed h =
    let one = step s pair.0 pair.1 in
    let later = run-onward one.state pairs in
    let early = step-onward s pair.0 pair.1 in
    ap (λ (x : Stepped). and_then_ran x.answer (run x.state pairs))
    (step-local s pair.0 pair.1 seed (λ k from to. h k from (omega (arith, to, later))))
    ∙ ap (λ (r : Ran). and_then_ran one.answer r)
    (runs_are_local one.state pairs seed (λ k from to. h k (omega (arith, early, from)) to ∙ ap (λ x. byte_at (Link x) k) (sym (terms_stay s pair.0 pair.1).1)))
