-- A battle of two teams is valid before its first update, and every update of a valid state leads to a valid state.
use Rattle.std.proofs.Common.{Bool, List, [], arith, false, inl, inr, refl, subst, sym, true, ℕ, ◌∙◌, ◌∷◌, ◌≡◌, ◌⊎◌, length, ◌<◌}
use Rattle.std.proofs.lemmas.Bool.{false≢true, lt-ltb}
use Rattle.gen1_rolls.specs.Streams.{IsStream, Link}
use Rattle.gen1_machine.specs.declared.side.Choice.{Choice}
use Rattle.gen1_machine.specs.declared.side.Side.{Side}
use Rattle.gen1_machine.specs.declared.side.Side.TheVariants.{One, Two}
use Rattle.gen1_machine.specs.declared.terms.Outcome.{Outcome}
use Rattle.gen1_machine.specs.declared.terms.Request.{Request}
use Rattle.gen1_machine.specs.State.{is_over, with_requests, Field, State, Terms, member_at, not_sent_out}
use Rattle.gen1_machine.specs.Progress.{◌▸◌, Progress}
use Rattle.gen1_machine.specs.Ruling.{ruling_of}
use Rattle.gen1_machine.specs.SwitchingIn.{replace, start}
use Rattle.gen1_machine.specs.Falls.{ask_nothing, close, faint_if_fallen, faint_in_order, settle, the_fallen_faint}
use Rattle.gen1_machine.specs.OfferedChoices.{offered_for}
use Rattle.gen1_machine.specs.Step.{answered, close_update, is_among, offers, opened, run, run_by, step, step_by, update, update_for}
use Rattle.gen1_machine.specs.Valid.{IsField, IsStarted, IsTerms, IsUnstarted, KeepsAccuracy, FallenAreHealthy, IsMembersUnder, IsStatus}
use Rattle.gen1_machine.specs.Laws.{StatesStayValid, FirstStatesAreValid}
use Rattle.gen1_machine.proofs.Keeps.{choose-keeps, given-keeps, note-keeps, on_field-keeps, stay-keeps, then-keeps, told-keeps, Keeps, Spares, then-goes}
use Rattle.gen1_machine.proofs.Settled.{settle-settles, Done, Due, Next, Settled}
use Rattle.gen1_machine.proofs.RunsEnd.{offered-is, state-ready, step-lower, the_fallen_faint-goes, Ready, Waits}
use Rattle.gen1_machine.proofs.Fitting.{offered-fits}
use Rattle.gen1_machine.proofs.TiedTurns.{turn-tied}
use Rattle.gen1_machine.proofs.ValidSteps.{opened-sure, update-valid, Stands}
use Rattle.gen1_machine.proofs.Fallen.{replace-keeps, update-standing, Standing}
use Rattle.gen1_machine.proofs.Steady.{softens-fallen}
use Rattle.gen1_machine.proofs.KeptAccuracy.{at-steady, stands-alone}
use Rattle.gen1_machine.proofs.KeptTurns.{both-of, kept-tied, send_out-stands, Both}
use Rattle.gen1_stats.specs.declared.member.Status.{Status}
use Rattle.gen1_stats.specs.declared.member.Status.TheVariants.{Healthy}
use Rattle.gen1_stats.specs.Members.{is_living, nobody, IsTeam, Member}
use Rattle.gen1_machine.specs.Rules.{Rules}
use Rattle.gen1_machine.specs.declared.terms.Outcome.TheVariants as outcomes
use Rattle.gen1_machine.specs.declared.terms.Request.TheVariants as requests

-- The kept accuracy through the end of an update

faints : (s : Side) → Keeps Both (faint_if_fallen s)
unfolding faint_if_fallen
faints s = both-of (λ v. choose-keeps _ (told-keeps _ ((at-steady stands-alone v).member s _ softens-fallen)) stay-keeps)

the_fallen : Keeps Both the_fallen_faint
unfolding the_fallen_faint faint_in_order
the_fallen = given-keeps _ (λ s. then-keeps (faints _) (faints s))

requests-spared : (a b : Request) → Spares Both (with_requests a b)
unfolding with_requests
requests-spared a b = record { spared = λ f x w h. h }

fault-kept : (terms : Terms) (n : ℕ) → Keeps Both (close (ruling_of terms) (outcomes.Fault n))
unfolding close ask_nothing
fault-kept terms n = then-keeps (on_field-keeps (requests-spared _ _)) (note-keeps _)

abbrev Accurate : Field → Type 0
Accurate f = KeepsAccuracy f.one.active × KeepsAccuracy f.two.active

settled-kept : (limit : ℕ) (f g : Field) → Accurate f → Settled limit f g → Accurate g
settled-kept limit f g h (Done o d e) = rw e h
settled-kept limit f g h (Due undecided a b x y some e) = rw e h
settled-kept limit f g h (Next undecided none e) = rw e h

close-kept : (terms : Terms) (p : Progress) → Both p.field p.action p.stream → Accurate (close_update (ruling_of terms) p).field
unfolding close_update close
close-kept terms p h = by p.field.outcome
  where
    q : Progress
    q = record p { stopped = false }

    usual : Accurate ((the_fallen_faint ▸ settle (ruling_of terms)) q).field
    usual =
        let goes = the_fallen_faint-goes.goes q refl in
        subst (λ x. Accurate x.field) (sym (then-goes the_fallen_faint (settle (ruling_of terms)) q goes))
        (settled-kept terms.limit (the_fallen_faint q).field _ (the_fallen.kept q h) (settle-settles (ruling_of terms) (the_fallen_faint q) goes))

    by : (o : Outcome) → Accurate (close (ruling_of terms) o q).field
    by (outcomes.Fault n) = (fault-kept terms n).kept q h
    by outcomes.Ongoing = usual
    by outcomes.WinOne = usual
    by outcomes.WinTwo = usual
    by outcomes.Tie = usual

-- Through an update

replaced : (x y : Choice) (p : Progress) → Both p.field p.action p.stream → let q : Progress = replace x y p in Both q.field q.action q.stream
replaced x y p h = (replace-keeps (λ s place. both-of (λ v. send_out-stands v s place)) x y).kept p h

started-kept : (s : State) (x y : Choice) (q r : Request) → IsStream (Link s.seed) → IsField s.terms s.field → Waits q r s.terms.limit s.field → is_over s.field.outcome ≡ false
    → is_among x (offered_for q One s.field) ≡ true → is_among y (offered_for r Two s.field) ≡ true → Accurate s.field
    → let p : Progress = update_for (ruling_of s.terms) q r x y (opened s) in Both p.field p.action p.stream
unfolding update_for
started-kept s x y requests.Move requests.Move seed h w o a b k =
    (turn-tied s.terms (kept-tied s.terms) x y (opened s) (opened-sure s seed h) k (offered-fits One x s.field h a) (offered-fits Two y s.field h b)).1
started-kept s x y requests.Pass requests.Pass seed h (inl over) o a b k = absurd (false≢true (sym o ∙ over))
started-kept s x y requests.Pass requests.Pass seed h (inr nobody) o a b k = absurd (omega (arith, nobody.0, h.one.place))
started-kept s x y requests.Switch requests.Switch seed h w o a b k = replaced x y (opened s) k
started-kept s x y requests.Switch requests.Pass seed h w o a b k = replaced x y (opened s) k
started-kept s x y requests.Pass requests.Switch seed h w o a b k = replaced x y (opened s) k
started-kept s x y requests.Pass requests.Move seed h w o a b k = absurd w
started-kept s x y requests.Switch requests.Move seed h w o a b k = absurd w
started-kept s x y requests.Move requests.Pass seed h w o a b k = absurd w
started-kept s x y requests.Move requests.Switch seed h w o a b k = absurd w

start-kept : Keeps Both start
unfolding start
start-kept = then-keeps (both-of (λ v. send_out-stands v One 1)) (both-of (λ v. send_out-stands v Two 1))

nobody-accurate : (s : State) → IsUnstarted s.terms s.field → Accurate s.field
nobody-accurate s h = rw (h.nobody_one, h.nobody_two) (refl, refl)

abbrev Stood : State → Type 0
Stood s = IsUnstarted s.terms s.field ⊎ IsStarted s.terms s.field

update-kept : (s : State) (x y : Choice) → IsStream (Link s.seed) → Stood s → Ready s.terms.limit s.field → is_over s.field.outcome ≡ false
    → is_among x (offered_for s.field.request_one One s.field) ≡ true → is_among y (offered_for s.field.request_two Two s.field) ≡ true
    → Accurate (update (ruling_of s.terms) x y (opened s)).field
unfolding update update_for
update-kept s x y seed (inr h) ready o a b =
    close-kept s.terms _ (started-kept s x y s.field.request_one s.field.request_two seed h.field ready o a b (h.accuracy_one, h.accuracy_two))
update-kept s x y seed (inl h) ready o a b =
    let r = ruling_of s.terms in
    close-kept s.terms _
    (subst (λ q. let p : Progress = update_for r q s.field.request_two x y (opened s) in Both p.field p.action p.stream) (sym h.requests.one)
    (subst (λ q. let p : Progress = update_for r requests.Pass q x y (opened s) in Both p.field p.action p.stream) (sym h.requests.two)
    (start-kept.kept (opened s) (nobody-accurate s h))))

-- A step, and a run

stood-stands : (s : State) → Stood s → Stands s.terms s.field
stood-stands s (inl h) = inl h
stood-stands s (inr h) = inr h.field

stood-standing : (s : State) → Stood s → IsUnstarted s.terms s.field ⊎ (IsField s.terms s.field × Standing s.terms s.field)
stood-standing s (inl h) = inl h
stood-standing s (inr h) = inr (h.field, record { turn = h.turn; fallen_one = h.fallen_one; fallen_two = h.fallen_two; requests = h.requests })

started : (terms : Terms) (f : Field) → IsField terms f → Standing terms f → Accurate f → IsStarted terms f
started terms f h k l = record {
  field = h;
  turn = k.turn;
  fallen_one = k.fallen_one;
  fallen_two = k.fallen_two;
  accuracy_one = l.0;
  accuracy_two = l.1;
  requests = k.requests;
}

record Steps (terms : Terms) (seed : List ℕ) (t : State) : Type 0 where
  pub terms_stay : t.terms ≡ terms
  pub seed_stays : t.seed ≡ seed
  pub stood : Stood t

answered-stood : (s : State) (x y : Choice) (over a b : Bool) → IsTerms s.terms → IsStream (Link s.seed) → Stood s → Ready s.terms.limit s.field
    → is_over s.field.outcome ≡ over → offers s One x ≡ a → offers s Two y ≡ b
    → Steps s.terms s.seed (answered s over a b (update (ruling_of s.terms) x y (opened s))).state
unfolding answered
answered-stood s x y true a b t seed h ready o e k = record { terms_stay = refl; seed_stays = refl; stood = h }
answered-stood s x y false false b t seed h ready o e k = record { terms_stay = refl; seed_stays = refl; stood = h }
answered-stood s x y false true false t seed h ready o e k = record { terms_stay = refl; seed_stays = refl; stood = h }
answered-stood s x y false true true t seed h ready o e k =
    let one = subst (λ l. is_among x l ≡ true) (offered-is One s.field o) e in
    let two = subst (λ l. is_among y l ≡ true) (offered-is Two s.field o) k in
    record {
      terms_stay = refl;
      seed_stays = refl;
      stood = inr (started s.terms _ (update-valid s x y seed (stood-stands s h) ready o one two)
          (update-standing s x y t seed (stood-standing s h) ready o one two) (update-kept s x y seed h ready o one two));
    }

step-stood : (s : State) (x y : Choice) → IsTerms s.terms → IsStream (Link s.seed) → Stood s → Ready s.terms.limit s.field → Steps s.terms s.seed (step s x y).state
unfolding step step_by
step-stood s x y t seed h ready = answered-stood s x y (is_over s.field.outcome) (offers s One x) (offers s Two y) t seed h ready refl refl refl

run-stood : (terms : Terms) (seed : List ℕ) (s : State) (pairs : List (Choice × Choice)) → IsTerms terms → IsStream (Link seed) → Steps terms seed s → Ready s.terms.limit s.field
    → Steps terms seed (run s pairs).state
unfolding run_by
run-stood terms seed s [] t is h ready = h
run-stood terms seed s (pair ∷ pairs) t is h ready =
    let next = step-stood s pair.0 pair.1 (rw h.terms_stay t) (rw h.seed_stays is) h.stood ready in
    run-stood terms seed (step s pair.0 pair.1).state pairs t is
    (record { terms_stay = next.terms_stay ∙ h.terms_stay; seed_stays = next.seed_stays ∙ h.seed_stays; stood = next.stood })
    (step-lower s pair.0 pair.1 ready).ready

pub states_stay_valid : StatesStayValid
states_stay_valid s pairs h =
    let ran = run-stood s.terms s.seed s pairs h.terms h.seed (record { terms_stay = refl; seed_stays = refl; stood = h.field }) (state-ready s h) in
    record { terms = rw ran.terms_stay h.terms; seed = rw ran.seed_stays h.seed; field = ran.stood }

-- A battle of two teams is valid before its first update.

healthy-status : (rules : Rules) (status : Status) → status ≡ Healthy → IsStatus rules status
healthy-status rules status e = subst (IsStatus rules) (sym e) tt

team-members : (rules : Rules) (team : List Member) → IsTeam team → IsMembersUnder rules team
team-members rules team h = record {
  size = h.size;
  each = λ k d lt. record {
    numbers = (h.members k d lt).member;
    species = (h.members k d lt).species;
    moves = (h.members k d lt).moves;
    status = healthy-status rules _ (h.members k d lt).healthy;
  };
}

team-healthy : (team : List Member) → IsTeam team → FallenAreHealthy team
team-healthy team h k d lt fallen = (h.members k d lt).healthy

team-first : (team : List Member) → IsTeam team → is_living (member_at 1 (not_sent_out team)) ≡ true
team-first team h =
    let lt : 0 < length team = omega (arith, h.size) in
    lt-ltb _ _ (omega (arith, (h.members 0 nobody lt).unhurt, (h.members 0 nobody lt).member.max))

pub first_states_are_valid : FirstStatesAreValid
first_states_are_valid terms one two seed limit team_one team_two is_seed = record {
  terms = limit;
  seed = is_seed;
  field = inl (record {
    members_one = team-members terms.rules one team_one;
    members_two = team-members terms.rules two team_two;
    fallen_one = team-healthy one team_one;
    fallen_two = team-healthy two team_two;
    first_one = team-first one team_one;
    first_two = team-first two team_two;
    nobody_one = refl;
    nobody_two = refl;
    last_damage = omega arith;
    turn = refl;
    outcome = refl;
    requests = record { one = refl; two = refl };
  });
}
