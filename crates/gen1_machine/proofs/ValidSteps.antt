-- A turn, an update and a run keep a valid field.
use Rattle.std.proofs.Common.{Bool, List, [], arith, false, if◌then◌else◌, is_some, length, length-set, refl, subst, suc, sym, true, zero, ℕ, ◌-◌, ◌∙◌, ◌∷◌, ◌≡◌, inl, inr, ◌⊎◌}
use Rattle.std.proofs.lemmas.Bool.{false≢true}
use Rattle.gen1_tables.specs.declared.effect.Effect.{Effect}
use Rattle.gen1_rolls.specs.Streams.{Stream, IsStream, Link}
use Rattle.gen1_stats.specs.declared.member.KnownMove.{KnownMove}
use Rattle.gen1_stats.specs.Members.{IsBetween, Member, sleeps_or_freezes}
use Rattle.gen1_machine.specs.declared.side.Choice.{Choice}
use Rattle.gen1_machine.specs.declared.side.Pick.{Pick}
use Rattle.gen1_machine.specs.declared.side.Pick.TheVariants.{Continue, Held, Idle, Use}
use Rattle.gen1_machine.specs.declared.side.UsedMove.{UsedMove}
use Rattle.gen1_machine.specs.declared.side.UsedMove.TheVariants.{Slot, Struggle}
use Rattle.gen1_machine.specs.declared.side.Side.{Side}
use Rattle.gen1_machine.specs.declared.side.Side.TheVariants.{One, Two}
use Rattle.gen1_machine.specs.Sides.{other}
use Rattle.gen1_machine.specs.Conditions.{no_conditions, without_flinch, Underway, without_trapping}
use Rattle.gen1_machine.specs.State.{active_in, changed_active, changed_conditions, member_in, party, status_in, underway_in, with_party, with_picked_move, Active, Field, Party, Terms, is_over, member_at, with_requests, State}
use Rattle.gen1_machine.specs.Picks.{must_continue, pick_in, picked_after}
use Rattle.gen1_machine.specs.Progress.{given, on_action, on_active, on_conditions, on_field, Action, Phase, Progress, note, stay, unless_stopped, ◌▸◌}
use Rattle.gen1_machine.specs.Ruling.{ruling_of}
use Rattle.gen1_machine.specs.Action.{act, begin}
use Rattle.gen1_machine.specs.SwitchingIn.{send_out, sent_out, with_sent_out, replace, send_if_chosen, start}
use Rattle.gen1_machine.specs.TurnOrder.{in_order, in_order_of_rank, in_order_of_speed, toss}
use Rattle.gen1_machine.specs.Turn.{both_act, both_pick, both_switch, do_part, do_parts, end_spent_trapping, end_turn, of_side, one_picks, play_turn, set_picked, turn, Acts, Part, Sends, Suffers}
use Rattle.gen1_machine.specs.Valid.{effect_of, IsActive, IsConditions, IsUnderway, IsUsedMove, IsField, IsMembersUnder, IsOutcome, IsParty, IsStarted, IsUnstarted}
use Rattle.gen1_machine.specs.Plans.{with_plan, Any, Comes, Doing, FitsPick, HoldsPlan, InRange, IsPlanned, Plan, PlanOf, Plans}
use Rattle.gen1_machine.proofs.Keeps.{choose-keeps, note-keeps, on_conditions-keeps, stay-keeps, then-keeps, Keeps, given-keeps, on_field-keeps, told-keeps, Spares, choose-leads, given-leads, keeps-leads, leads-weaker, stay-leads, then-leads, Leads, then-goes}
use Rattle.gen1_machine.proofs.Tame.{penalty-tame, without_flinch-tame, without_trapping-tame, fallen-tame}
use Rattle.gen1_machine.proofs.Turns.{between-free, Between, FreeParty, part-suffers, send_one, sent-place}
use Rattle.gen1_machine.proofs.Free.{begin-free}
use Rattle.gen1_machine.proofs.Sound.{holds-after, out_of, party-valid, planned-holds, replanned, with_plan-is, with-party, planned-sound, draw-leads}
use Rattle.gen1_machine.proofs.SoundWalk.{conditions-spared, residual-sound}
use Rattle.gen1_machine.proofs.Acts.{act-stays, act-takes, begin-keeps}
use Rattle.gen1_machine.proofs.Fitting.{free-plain, Fits, offered-fits, offered-place, offered-passes, offered-replaces}
use Rattle.gen1_machine.specs.declared.terms.Outcome.{Outcome}
use Rattle.gen1_machine.specs.declared.terms.Request.{Request}
use Rattle.gen1_machine.specs.Rules.{Rules}
use Rattle.gen1_machine.specs.Falls.{ask_nothing, close, faint_if_fallen, faint_in_order, settle, the_fallen_faint}
use Rattle.gen1_machine.specs.OfferedChoices.{offered_for}
use Rattle.gen1_machine.specs.Step.{answered, close_update, is_among, offers, opened, run, run_by, step, step_by, update, update_for}
use Rattle.gen1_machine.specs.Laws.{FieldsStayValid}
use Rattle.gen1_machine.proofs.Settled.{settle-settles, Decides, Done, Due, Next, Settled}
use Rattle.gen1_machine.proofs.RunsEnd.{offered-is, state-ready, step-lower, the_fallen_faint-goes, Ready, Waits}
use Rattle.gen1_tables.specs.declared.effect.Effect.TheVariants as effects
use Rattle.gen1_machine.specs.declared.side.Choice.TheVariants as choices
use Rattle.gen1_machine.specs.declared.terms.Outcome.TheVariants as outcomes
use Rattle.gen1_machine.specs.declared.terms.Request.TheVariants as requests

-- A turn keeps a valid field.

-- A valid field without plans.
abbrev pub Sure : Terms → Field → Action → Stream → Type 0
Sure terms = IsPlanned terms (λ s. Any)

pub sure : {terms : Terms} {plan : Side → Plan} (f : Field) (a : Action) (w : Stream) → IsPlanned terms plan f a w → Sure terms f a w
sure f a w h = record { field = h.field; tested = h.tested; stream = h.stream; holds = λ s. tt }

act-fits : (terms : Terms) (plan : Side → Plan) (s : Side) (pick : Pick) → FitsPick pick (plan s) → Leads (IsPlanned terms plan) (IsPlanned terms (with_plan s Any plan)) (act (ruling_of terms) s pick)
act-fits terms plan s (Use used) fits = act-takes terms plan s used fits.0 fits.1
act-fits terms plan s Continue fits = act-stays terms plan s Continue (λ used. refl)
act-fits terms plan s Idle fits = act-stays terms plan s Idle (λ used. refl)
act-fits terms plan s Held fits = act-stays terms plan s Held (λ used. refl)

-- The picked move

picked-valid : {terms : Terms} (plan : Side → Plan) (s : Side) (pick : Pick) (f : Field) (a : Action) (w : Stream) → FitsPick pick (plan s) → IsPlanned terms plan f a w
    → IsUsedMove (length (member_in s f).moves) (picked_after pick (active_in s f).picked_move)
picked-valid plan s (Use used) f a w fits h =
    (planned-holds s f a w fits.1 h).0
picked-valid plan s Continue f a w fits h = (party-valid s f h.field).active.picked_move
picked-valid plan s Idle f a w fits h = (party-valid s f h.field).active.picked_move
picked-valid plan s Held f a w fits h = tt

same-plan : (x : Plan) (moves : List KnownMove) (a : Active) (used : UsedMove) → HoldsPlan x moves a → HoldsPlan x moves (record a { picked_move = used })
same-plan Any moves a used h = h
same-plan (Plans u e) moves a used h = h
same-plan (Doing e) moves a used h = h

module _ (terms : Terms) (plan : Side → Plan) (s : Side) where
  picks : (used : UsedMove) (f : Field) (a : Action) (w : Stream) → IsUsedMove (length (member_in s f).moves) used → IsPlanned terms plan f a w → IsPlanned terms plan (changed_active s (with_picked_move used) f) a w
  unfolding changed_active with_picked_move
  picks used f a w l h =
      let v = party-valid s f h.field in
      record {
        field = with-party s _ f (record {
          members = v.members;
          place = v.place;
          active = record { stages = v.active.stages; current_move = v.active.current_move; picked_move = l; kept_accuracy = v.active.kept_accuracy; conditions = v.active.conditions };
        }) h.field;
        tested = h.tested;
        stream = h.stream;
        holds = holds-after terms plan s (record (party s f) { active = record (active_in s f) { picked_move = used } }) f
            (same-plan (plan s) (member_in s f).moves (active_in s f) used (h.holds s)) h.holds;
      }

  pub set_picked-keeps : (pick : Pick) → FitsPick pick (plan s) → Keeps (IsPlanned terms plan) (set_picked s pick)
  unfolding set_picked given on_active on_field
  set_picked-keeps pick fits = record { kept = λ p h. picks _ p.field p.action p.stream (picked-valid plan s pick p.field p.action p.stream fits h) h }

  pub act_part : (pick : Pick) → FitsPick pick (plan s) → Leads (IsPlanned terms plan) (IsPlanned terms (with_plan s Any plan)) (do_part (ruling_of terms) (Acts s pick))
  unfolding do_part
  act_part pick fits = then-leads (keeps-leads (begin-keeps terms plan s))
      (choose-leads _ (stay-leads (λ f a w h. replanned s Any f a w tt h)) (act-fits terms plan s pick fits)) (λ f a w h. replanned s Any f a w tt h)

  pub suffers_part : Keeps (IsPlanned terms plan) (do_part (ruling_of terms) (Suffers s))
  unfolding do_part
  suffers_part = residual-sound (planned-sound terms plan) s

  pub end_spent : Keeps (IsPlanned terms plan) (end_spent_trapping s)
  unfolding end_spent_trapping
  end_spent = choose-keeps _ (on_conditions-keeps s _ (conditions-spared (planned-sound terms plan) s _ without_trapping-tame)) stay-keeps

-- Parts one after another. Each may be the last

module _ (terms : Terms) (plan : Side → Plan) where
  parts-end : Leads (IsPlanned terms plan) (Sure terms) (do_parts (ruling_of terms) [])
  unfolding do_parts end_turn
  parts-end = leads-weaker (keeps-leads (then-keeps (end_spent terms plan One) (end_spent terms plan Two))) sure

parts-then : (terms : Terms) {P Q : Field → Action → Stream → Type 0} (part : Part) (rest : List Part) → Leads P Q (do_part (ruling_of terms) part)
    → ((f : Field) (a : Action) (w : Stream) → Q f a w → Sure terms f a w) → Leads Q (Sure terms) (do_parts (ruling_of terms) rest) → Leads P (Sure terms) (do_parts (ruling_of terms) (part ∷ rest))
unfolding do_parts
parts-then terms part rest k weaker l = then-leads k (choose-leads _ (stay-leads weaker) l) weaker

module _ (terms : Terms) (plan : Side → Plan) where
  suffers-end : (s : Side) → Leads (IsPlanned terms plan) (Sure terms) (do_parts (ruling_of terms) (Suffers s ∷ []))
  suffers-end s = parts-then terms _ _ (keeps-leads (suffers_part terms plan s)) sure (parts-end terms plan)

act-end : (terms : Terms) (plan : Side → Plan) (s : Side) (pick : Pick) → FitsPick pick (plan s) → Leads (IsPlanned terms plan) (Sure terms) (do_parts (ruling_of terms) (Acts s pick ∷ Suffers s ∷ []))
act-end terms plan s pick fits = parts-then terms _ _ (act_part terms plan s pick fits) sure (suffers-end terms (with_plan s Any plan) s)

other-plan : (s : Side) (plan : Side → Plan) → with_plan s Any plan (other s) ≡ plan (other s)
other-plan One plan = refl
other-plan Two plan = refl

module _ (terms : Terms) (plan : Side → Plan) (one two : Pick) (fits_one : FitsPick one (plan One)) (fits_two : FitsPick two (plan Two)) where
  fits-of : (s : Side) → FitsPick (of_side s one two) (plan s)
  fits-of One = fits_one
  fits-of Two = fits_two

  both_act-leads : (s : Side) → Leads (IsPlanned terms plan) (Sure terms) (do_parts (ruling_of terms) (both_act one two s))
  both_act-leads s =
      let after = with_plan s Any plan in
      parts-then terms _ _ (act_part terms plan s (of_side s one two) (fits-of s)) sure
      (parts-then terms _ _ (keeps-leads (suffers_part terms after s)) sure
      (act-end terms after (other s) (of_side (other s) one two) (subst (λ x. FitsPick (of_side (other s) one two) x) (sym (other-plan s plan)) (fits-of (other s)))))

  in_order-leads : (begins : Side → Phase) → ((s : Side) → Leads (IsPlanned terms plan) (Sure terms) (begins s)) → Leads (IsPlanned terms plan) (Sure terms) (in_order begins)
  unfolding in_order in_order_of_rank in_order_of_speed toss
  in_order-leads begins k = given-leads _ (λ x. given-leads _ (λ y.
      choose-leads _ (k One) (choose-leads _ (k Two) (choose-leads _ (k One) (choose-leads _ (k Two) (draw-leads (λ b. choose-leads _ (k One) (k Two))))))))

  both_pick-leads : Leads (IsPlanned terms plan) (Sure terms) (both_pick (ruling_of terms) one two)
  unfolding both_pick
  both_pick-leads = then-leads (keeps-leads (set_picked-keeps terms plan One one fits_one))
      (then-leads (keeps-leads (set_picked-keeps terms plan Two two fits_two)) (in_order-leads _ both_act-leads) sure) sure

-- A member is sent out

no-conditions : (e : Effect) (n : ℕ) → IsConditions e n no_conditions
no-conditions e n = record {
  underway = record {
    bide = tt;
    thrash = tt;
    trapping = tt;
    bide_tied = λ on. absurd (false≢true on);
    thrash_tied = λ on. absurd (false≢true on);
    trapping_tied = λ on. absurd (false≢true on);
    charging_tied = λ on. absurd (false≢true on);
    recharge_tied = λ on. absurd (false≢true on);
    rage_tied = λ on. absurd (false≢true on);
  };
  confused = tt;
  substitute = tt;
  bad_poison = tt;
  disabled = tt;
}

pub sent-valid : (moves : List KnownMove) (place : ℕ) (m : Member) → IsActive moves (sent_out place m)
sent-valid moves place m = (penalty-tame m.status).valid moves _ (record {
  stages = record { attack = omega arith; defense = omega arith; speed = omega arith; special = omega arith; accuracy = omega arith; evasion = omega arith };
  current_move = tt;
  picked_move = tt;
  kept_accuracy = omega arith;
  conditions = no-conditions _ _;
})

abbrev pub Room : ℕ → Party → Type 0
Room n t = length t.members ≡ n

pub room-free : (n : ℕ) → FreeParty (Room n)
room-free n = record { member = λ t m h. length-set t.members (t.active.place - 1) m ∙ h; active = λ t a e h. h }

-- With the number of members of each party.
abbrev pub Roomy : Terms → (Side → Plan) → ℕ → ℕ → ℕ → Field → Action → Stream → Type 0
Roomy terms plan one two turn f a w = IsPlanned terms plan f a w × Between (Room one) (Room two) turn f a w

pub both-keep : {P Q : Field → Action → Stream → Type 0} {f : Phase} → Keeps P f → Keeps Q f → Keeps (λ x a w. P x a w × Q x a w) f
both-keep k l = record { kept = λ p h. (k.kept p h.0, l.kept p h.1) }

pub send_out-leads : (terms : Terms) (plan : Side → Plan) (s : Side) (place : ℕ) → plan s ≡ Any
    → Leads (λ f a w. IsPlanned terms plan f a w × IsBetween 1 (length (party s f).members) place) (IsPlanned terms plan) (send_out s place)
unfolding send_out on_active on_field changed_active with_sent_out
send_out-leads terms plan s place any = then-leads
    (given-leads _ (λ m. record { led = λ p h. comes m p.field p.action p.stream h.0 h.1 }))
    (keeps-leads (then-keeps (on_conditions-keeps (other s) _ (conditions-spared (planned-sound terms plan) (other s) _ without_trapping-tame)) (note-keeps _))) (λ f a w h. h)
  where
    comes : (m : Member) (f : Field) (a : Action) (w : Stream) → IsPlanned terms plan f a w → IsBetween 1 (length (party s f).members) place
        → IsPlanned terms plan (with_party s (record (party s f) { active = sent_out place m }) f) a w
    comes m f a w h l =
        let t : Party = record (party s f) { active = sent_out place m } in
        record {
          field = with-party s t f (record { members = (party-valid s f h.field).members; place = rw (sent-place place m) l; active = sent-valid _ place m }) h.field;
          tested = h.tested;
          stream = h.stream;
          holds = holds-after terms plan s t f (subst (λ x. HoldsPlan x (out_of t).moves t.active) (sym any) tt) h.holds;
        }

-- A place of a party stays one, since sending out changes no list of members

active-members : (s t : Side) (change : Active → Active) (f : Field) → (party t (changed_active s change f)).members ≡ (party t f).members
unfolding changed_active
active-members One One change f = refl
active-members One Two change f = refl
active-members Two One change f = refl
active-members Two Two change f = refl

pub range-kept : (s t : Side) (change : Active → Active) (place : ℕ) (f : Field) → InRange t place f → InRange t place (changed_active s change f)
range-kept s t change place f h = rw (active-members s t change f) h

pub send_part : (terms : Terms) (plan : Side → Plan) (s : Side) (place : ℕ) → plan s ≡ Any
    → Leads (λ f a w. IsPlanned terms plan f a w × InRange s place f) (IsPlanned terms plan) (do_part (ruling_of terms) (Sends s place))
unfolding do_part begin on_action
send_part terms plan s place any =
    then-leads (record { led = λ p h. ((begin-keeps terms plan s).kept p h.0, h.1) }) (send_out-leads terms plan s place any) (λ f a w h. h.0)

-- One side uses a move, and the other switches.
one_picks-leads : (terms : Terms) (plan : Side → Plan) (s : Side) (pick : Pick) (place : ℕ) → FitsPick pick (plan s) → plan (other s) ≡ Any
    → Leads (λ f a w. IsPlanned terms plan f a w × InRange (other s) place f) (Sure terms) (one_picks (ruling_of terms) s pick place)
unfolding one_picks set_picked given on_active on_field
one_picks-leads terms plan s pick place fits any = then-leads {Q = λ f a w. IsPlanned terms plan f a w × InRange (other s) place f}
    (record { led = λ p h. ((set_picked-keeps terms plan s pick fits).kept p h.0, range-kept s (other s) _ place p.field h.1) })
    (parts-then terms _ _ (send_part terms plan (other s) place any) sure
    (parts-then terms _ _ (keeps-leads (suffers_part terms plan (other s))) sure (act-end terms plan s pick fits)))
    (λ f a w h. sure f a w h.0)

-- Both switch

pub sends-room : (terms : Terms) (one two turn place : ℕ) → Leads (Between (Room one) (Room two) turn) (Between (Room one) (Room two) turn) (do_part (ruling_of terms) (Sends One place))
unfolding do_part
sends-room terms one two turn place = then-leads (keeps-leads (begin-free (between-free turn (room-free one) (room-free two)) One))
    (send_one turn place (room-free two) (λ t a e h. h)) (λ f a w h. h)

both_switch-leads : (terms : Terms) (plan : Side → Plan) (one two turn x y : ℕ) → plan One ≡ Any → plan Two ≡ Any → IsBetween 1 one x → IsBetween 1 two y
    → Leads (Roomy terms plan one two turn) (Sure terms) (do_parts (ruling_of terms) (both_switch x y))
both_switch-leads terms plan one two turn x y any_one any_two l m =
    parts-then terms {Q = Roomy terms plan one two turn} _ _ first (λ f a w h. sure f a w h.0)
    (parts-then terms {Q = Roomy terms plan one two turn} _ _ (keeps-leads (both-keep (suffers_part terms plan One) (part-suffers (between-free turn (room-free one) (room-free two)) terms One))) (λ f a w h. sure f a w h.0)
    (parts-then terms {Q = IsPlanned terms plan} _ _ second sure (suffers-end terms plan Two)))
  where
    first : Leads (Roomy terms plan one two turn) (Roomy terms plan one two turn) (do_part (ruling_of terms) (Sends One x))
    first = record {
      led = λ p h. ((send_part terms plan One x any_one).led p (h.0, rw h.1.one l), (sends-room terms one two turn x).led p h.1);
    }

    second : Leads (Roomy terms plan one two turn) (IsPlanned terms plan) (do_part (ruling_of terms) (Sends Two y))
    second = record { led = λ p h. (send_part terms plan Two y any_two).led p (h.0, rw h.1.two m) }

-- What choices plan

pub comes-kept : (c : Choice) (s t : Side) (change : Active → Active) (f : Field) → Comes c t f → Comes c t (changed_active s change f)
comes-kept (choices.Switch place) s t change f h = range-kept s t change place f h
comes-kept choices.Pass s t change f h = h
comes-kept (choices.Move k) s t change f h = h

pub record Picked (terms : Terms) (plan : Side → Plan) (s : Side) (pick : Pick) (f : Field) (a : Action) (w : Stream) : Type 0 where
  pub next : Side → Plan
  pub planned : IsPlanned terms next f a w
  pub fits : FitsPick pick (next s)
  pub rest : next (other s) ≡ plan (other s)

pub with_plan-other : (s : Side) (x : Plan) (plan : Side → Plan) → with_plan s x plan (other s) ≡ plan (other s)
with_plan-other One x plan = refl
with_plan-other Two x plan = refl

-- A move that explains nothing has nothing to go on with.
never : (b : Bool) → (b ≡ true → false ≡ true) → b ≡ false
never true h = absurd (false≢true (h refl))
never false h = refl

plain-free : (u : Underway) → IsUnderway effects.DamageOnly u → must_continue u ≡ false
plain-free u h =
    let a = never u.recharge h.recharge_tied in
    let b = never u.rage h.rage_tied in
    let c = never (is_some u.thrash) h.thrash_tied in
    let d = never u.charging h.charging_tied in
    let e = never (is_some u.bide) h.bide_tied in
    let f = never (is_some u.trapping) h.trapping_tied in
    rw (a, b, c, d, e, f) refl

pub pick-plan : {terms : Terms} (plan : Side → Plan) (s : Side) (j : ℕ) (f : Field) (a : Action) (w : Stream) → PlanOf (choices.Move j) (plan s) → IsPlanned terms plan f a w
    → Picked terms plan s (pick_in j s f) f a w
pick-plan plan s (suc k) f a w fits h = record { next = plan; planned = h; fits = (fits.0, fits.1, λ e. cc); rest = refl }
pick-plan {terms} plan s zero f a w fits h = by (must_continue (underway_in s f)) (sleeps_or_freezes (status_in s f)) (is_some (underway_in (other s) f).trapping) refl
  where
    by : (b c d : Bool) → must_continue (underway_in s f) ≡ b → Picked terms plan s (if b then Continue else if c then Idle else if d then Held else Use Struggle) f a w
    by true c d e =
        let effect = effect_of (active_in s f).current_move (member_in s f).moves in
        record {
          next = with_plan s (Doing effect) plan;
          planned = replanned s (Doing effect) f a w refl h;
          fits = (
            effect,
            with_plan-is s (Doing effect) plan,
            λ plain. absurd (false≢true (sym (plain-free (underway_in s f)
                (subst (λ (x : Effect). IsUnderway x (underway_in s f)) plain (party-valid s f h.field).active.conditions.underway)) ∙ e)),
          );
          rest = with_plan-other s (Doing effect) plan;
        }
    by false true d e = record { next = plan; planned = h; fits = tt; rest = refl }
    by false false true e = record { next = plan; planned = h; fits = tt; rest = refl }
    by false false false e =
        let effect = effect_of Struggle (member_in s f).moves in
        record {
          next = with_plan s (Plans Struggle effect) plan;
          planned = replanned s (Plans Struggle effect) f a w (tt, refl, free-plain s f h.field e) h;
          fits = (effect, with_plan-is s (Plans Struggle effect) plan, λ none. cc);
          rest = with_plan-other s (Plans Struggle effect) plan;
        }

-- The turn, by both choices

module _ (terms : Terms) (plan : Side → Plan) (x y : Choice) (plan_one : PlanOf x (plan One)) (plan_two : PlanOf y (plan Two)) where
  Chosen : Field → Action → Stream → Type 0
  Chosen f a w = IsPlanned terms plan f a w × Comes x One f × Comes y Two f

  chosen-sure : (f : Field) (a : Action) (w : Stream) → Chosen f a w → Sure terms f a w
  unfolding Chosen
  chosen-sure f a w h = sure f a w h.0

  flinch-chosen : (s : Side) → Keeps Chosen (on_conditions s without_flinch)
  unfolding Chosen on_conditions on_field changed_conditions
  flinch-chosen s = record {
    kept = λ p h. (
      (on_conditions-keeps s _ (conditions-spared (planned-sound terms plan) s _ without_flinch-tame)).kept p h.0,
      comes-kept x s One _ p.field h.1,
      comes-kept y s Two _ p.field h.2,
    );
  }

play_turn-leads : (terms : Terms) (plan : Side → Plan) (x y : Choice) → PlanOf x (plan One) → PlanOf y (plan Two)
    → Leads (λ f a w. IsPlanned terms plan f a w × Comes x One f × Comes y Two f) (Sure terms) (play_turn (ruling_of terms) x y)
unfolding play_turn given
play_turn-leads terms plan (choices.Move j) (choices.Move k) one two = record { led = by }
  where
    by : (p : Progress) → IsPlanned terms plan p.field p.action p.stream × Unit {0} × Unit {0}
        → let q : Progress = both_pick (ruling_of terms) (pick_in j One p.field) (pick_in k Two p.field) p in Sure terms q.field q.action q.stream
    by p h =
        let first = pick-plan plan One j p.field p.action p.stream one h.0 in
        let second = pick-plan first.next Two k p.field p.action p.stream (subst (λ z. PlanOf (choices.Move k) z) (sym first.rest) two) first.planned in
        (both_pick-leads terms second.next (pick_in j One p.field) (pick_in k Two p.field)
        (subst (λ z. FitsPick (pick_in j One p.field) z) (sym second.rest) first.fits) second.fits).led p second.planned
play_turn-leads terms plan (choices.Move j) (choices.Switch place) one two = record {
  led = λ p h. let first = pick-plan plan One j p.field p.action p.stream one h.0 in
      (one_picks-leads terms first.next One (pick_in j One p.field) place first.fits (first.rest ∙ two)).led p (first.planned, h.2);
}
play_turn-leads terms plan (choices.Switch place) (choices.Move k) one two = record {
  led = λ p h. let first = pick-plan plan Two k p.field p.action p.stream two h.0 in
      (one_picks-leads terms first.next Two (pick_in k Two p.field) place first.fits (first.rest ∙ one)).led p (first.planned, h.1);
}
play_turn-leads terms plan (choices.Switch x) (choices.Switch y) one two = record {
  led = λ p h. (both_switch-leads terms plan (length p.field.one.members) (length p.field.two.members) p.field.turn x y one two h.1 h.2).led p
      (h.0, record { turned = refl; one = refl; two = refl });
}
play_turn-leads terms plan _ _ one two = stay-leads (λ f a w h. sure f a w h.0)

pub turn-keeps : (terms : Terms) (plan : Side → Plan) (x y : Choice) → PlanOf x (plan One) → PlanOf y (plan Two)
    → Leads (λ f a w. IsPlanned terms plan f a w × Comes x One f × Comes y Two f) (Sure terms) (turn (ruling_of terms) x y)
unfolding turn Chosen
turn-keeps terms plan x y one two =
    then-leads (keeps-leads (flinch-chosen terms plan x y one two One))
    (then-leads (keeps-leads (flinch-chosen terms plan x y one two Two)) (play_turn-leads terms plan x y one two) (λ f a w h. sure f a w h.0)) (λ f a w h. sure f a w h.0)

-- From a valid field

pub choice_plan : Choice → Side → Field → Plan
choice_plan (choices.Move (suc k)) s f = Plans (Slot (suc k)) (effect_of (Slot (suc k)) (member_in s f).moves)
choice_plan _ s f = Any

pub both_plan : Choice → Choice → Field → Side → Plan
both_plan x y f One = choice_plan x One f
both_plan x y f Two = choice_plan y Two f

pub plan-of : (c : Choice) (s : Side) (f : Field) → PlanOf c (choice_plan c s f)
unfolding choice_plan
plan-of (choices.Move (suc k)) s f = (effect_of (Slot (suc k)) (member_in s f).moves, refl)
plan-of (choices.Move zero) s f = refl
plan-of (choices.Switch place) s f = refl
plan-of choices.Pass s f = refl

pub fits-plan : (c : Choice) (s : Side) (f : Field) → Fits c s f → HoldsPlan (choice_plan c s f) (member_in s f).moves (active_in s f)
unfolding choice_plan
fits-plan (choices.Move (suc k)) s f h = ((omega arith, h.0), refl, h.1)
fits-plan (choices.Move zero) s f h = tt
fits-plan (choices.Switch place) s f h = tt
fits-plan choices.Pass s f h = tt

pub fits-comes : (c : Choice) (s : Side) (f : Field) → Fits c s f → Comes c s f
fits-comes (choices.Move k) s f h = tt
fits-comes (choices.Switch place) s f h = h
fits-comes choices.Pass s f h = tt

pub both-plan_of : (x y : Choice) (f : Field) → PlanOf x (both_plan x y f One) × PlanOf y (both_plan x y f Two)
unfolding both_plan
both-plan_of x y f = (plan-of x One f, plan-of y Two f)

pub both-planned : {terms : Terms} (x y : Choice) (f : Field) (a : Action) (w : Stream) → Sure terms f a w → Fits x One f → Fits y Two f → IsPlanned terms (both_plan x y f) f a w
unfolding both_plan
both-planned x y f a w h one two = record { field = h.field; tested = h.tested; stream = h.stream; holds = by }
  where
    by : (s : Side) → HoldsPlan (both_plan x y f s) (member_in s f).moves (active_in s f)
    by One = fits-plan x One f one
    by Two = fits-plan y Two f two

pub turn-valid : (terms : Terms) (x y : Choice) (p : Progress) → Sure terms p.field p.action p.stream → Fits x One p.field → Fits y Two p.field
    → let q : Progress = turn (ruling_of terms) x y p in Sure terms q.field q.action q.stream
turn-valid terms x y p h one two =
    (turn-keeps terms (both_plan x y p.field) x y (both-plan_of x y p.field).0 (both-plan_of x y p.field).1).led p
    (both-planned x y p.field p.action p.stream h one two, fits-comes x One p.field one, fits-comes y Two p.field two)

-- An update is closed

requests-spared : (terms : Terms) (a b : Request) → Spares (Sure terms) (with_requests a b)
unfolding with_requests
requests-spared terms a b = record {
  spared = λ f x w h. record {
    field = record { one = h.field.one; two = h.field.two; last_damage = h.field.last_damage; turn = h.field.turn; outcome = h.field.outcome };
    tested = h.tested;
    stream = h.stream;
    holds = λ s. tt;
  };
}

fault-closes : (terms : Terms) (n : ℕ) → Keeps (Sure terms) (close (ruling_of terms) (outcomes.Fault n))
unfolding close ask_nothing
fault-closes terms n = then-keeps (on_field-keeps (requests-spared terms _ _)) (note-keeps _)

faints : (terms : Terms) (s : Side) → Keeps (Sure terms) (faint_if_fallen s)
unfolding faint_if_fallen
faints terms s = choose-keeps _ (told-keeps _ ((planned-sound terms (λ u. Any)).member s _ fallen-tame)) stay-keeps

the_fallen : (terms : Terms) → Keeps (Sure terms) the_fallen_faint
unfolding the_fallen_faint faint_in_order
the_fallen terms = given-keeps _ (λ s. then-keeps (faints terms _) (faints terms s))

decided-outcome : (o : Outcome) (limit : ℕ) (f : Field) → Decides o limit f → IsOutcome o
decided-outcome outcomes.Ongoing limit f d = tt
decided-outcome outcomes.WinOne limit f d = tt
decided-outcome outcomes.WinTwo limit f d = tt
decided-outcome outcomes.Tie limit f d = tt
decided-outcome (outcomes.Fault n) limit f d = absurd d

settled-valid : (terms : Terms) (f g : Field) → IsField terms f → Settled terms.limit f g → IsField terms g
settled-valid terms f g h (Done o d e) =
    rw e (record { one = h.one; two = h.two; last_damage = h.last_damage; turn = h.turn; outcome = decided-outcome o terms.limit f d })
settled-valid terms f g h (Due undecided a b x y some e) =
    rw e (record { one = h.one; two = h.two; last_damage = h.last_damage; turn = h.turn; outcome = h.outcome })
settled-valid terms f g h (Next undecided none e) =
    rw e (record { one = h.one; two = h.two; last_damage = h.last_damage; turn = omega (arith, undecided.2); outcome = h.outcome })

close-valid : (terms : Terms) (p : Progress) → Sure terms p.field p.action p.stream → IsField terms (close_update (ruling_of terms) p).field
unfolding close_update close
close-valid terms p h = by p.field.outcome
  where
    q : Progress
    q = record p { stopped = false }

    usual : IsField terms ((the_fallen_faint ▸ settle (ruling_of terms)) q).field
    usual =
        let goes = the_fallen_faint-goes.goes q refl in
        subst (λ x. IsField terms x.field) (sym (then-goes the_fallen_faint (settle (ruling_of terms)) q goes))
        (settled-valid terms (the_fallen_faint q).field _ ((the_fallen terms).kept q h).field (settle-settles (ruling_of terms) (the_fallen_faint q) goes))

    by : (o : Outcome) → IsField terms (close (ruling_of terms) o q).field
    by (outcomes.Fault n) = ((fault-closes terms n).kept q h).field
    by outcomes.Ongoing = usual
    by outcomes.WinOne = usual
    by outcomes.WinTwo = usual
    by outcomes.Tie = usual

-- The first members come out

out-first : (rules : Rules) (t : Party) → IsMembersUnder rules t.members → (m : Member)
    → IsParty rules (record t { active = record (sent_out 1 m) { conditions = without_trapping (sent_out 1 m).conditions } })
out-first rules t h m =
    let a = sent-valid (member_at (sent_out 1 m).place t).moves 1 m in
    record {
      members = h;
      place = rw (sent-place 1 m) (omega arith, omega (arith, h.size));
      active = record {
        stages = a.stages;
        current_move = a.current_move;
        picked_move = a.picked_move;
        kept_accuracy = a.kept_accuracy;
        conditions = without_trapping-tame.valid _ _ _ a.conditions;
      };
    }

out-second : (rules : Rules) (t : Party) → IsMembersUnder rules t.members → (m : Member) → IsParty rules (record t { active = sent_out 1 m })
out-second rules t h m = record {
  members = h;
  place = rw (sent-place 1 m) (omega arith, omega (arith, h.size));
  active = sent-valid (member_at (sent_out 1 m).place t).moves 1 m;
}

start-valid : (s : State) → IsStream (Link s.seed) → IsUnstarted s.terms s.field
    → let q : Progress = start (opened s) in Sure s.terms q.field q.action q.stream
unfolding start send_out given on_active on_conditions on_field changed_active changed_conditions with_sent_out note ◌▸◌ unless_stopped
start-valid s seed h = record {
  field = record {
    one = out-first s.terms.rules s.field.one h.members_one (member_at 1 s.field.one);
    two = out-second s.terms.rules s.field.two h.members_two (member_at 1 s.field.two);
    last_damage = h.last_damage;
    turn = rw h.turn (omega arith);
    outcome = rw h.outcome tt;
  };
  tested = tt;
  stream = seed;
  holds = λ u. tt;
}

-- Replacements

both_replace-valid : (terms : Terms) (x y : ℕ) (p : Progress) → IsBetween 1 (length p.field.one.members) x → IsBetween 1 (length p.field.two.members) y
    → Sure terms p.field p.action p.stream → let q : Progress = replace (choices.Switch x) (choices.Switch y) p in Sure terms q.field q.action q.stream
unfolding replace send_if_chosen
both_replace-valid terms x y p l m h =
    let one = length p.field.one.members in
    let two = length p.field.two.members in
    let first : Leads (λ f a w. Sure terms f a w × Between (Room one) (Room two) p.field.turn f a w) (λ f a w. Sure terms f a w × Between (Room one) (Room two) p.field.turn f a w) (send_out One x) = record {
      led = λ q k. ((send_out-leads terms (λ u. Any) One x refl).led q (k.0, rw k.1.one l), (send_one p.field.turn x (room-free two) (λ t a e n. n)).led q k.1);
    } in
    let second : Leads (λ f a w. Sure terms f a w × Between (Room one) (Room two) p.field.turn f a w) (Sure terms) (send_out Two y) = record {
      led = λ q k. (send_out-leads terms (λ u. Any) Two y refl).led q (k.0, rw k.1.two m);
    } in
    (then-leads first second (λ f a w k. k.0)).led p (h, record { turned = refl; one = refl; two = refl })

one_replaces-valid : (terms : Terms) (x : ℕ) (p : Progress) → IsBetween 1 (length p.field.one.members) x
    → Sure terms p.field p.action p.stream → let q : Progress = replace (choices.Switch x) choices.Pass p in Sure terms q.field q.action q.stream
unfolding replace send_if_chosen
one_replaces-valid terms x p l h = (then-leads (send_out-leads terms (λ u. Any) One x refl) (keeps-leads stay-keeps) (λ f a w k. k)).led p (h, l)

two_replaces-valid : (terms : Terms) (y : ℕ) (s : State) → IsBetween 1 (length s.field.two.members) y
    → Sure terms (opened s).field (opened s).action (opened s).stream → let q : Progress = replace choices.Pass (choices.Switch y) (opened s) in Sure terms q.field q.action q.stream
unfolding replace send_if_chosen stay ◌▸◌ unless_stopped
two_replaces-valid terms y s l h = (send_out-leads terms (λ u. Any) Two y refl).led (opened s) (h, l)

-- An update

abbrev pub Stands : Terms → Field → Type 0
Stands terms f = IsUnstarted terms f ⊎ IsField terms f

pub opened-sure : (s : State) → IsStream (Link s.seed) → IsField s.terms s.field → Sure s.terms s.field (opened s).action (Link s.seed)
opened-sure s seed h = record { field = h; tested = tt; stream = seed; holds = λ u. tt }

started-update : (s : State) (x y : Choice) (q r : Request) → IsStream (Link s.seed) → IsField s.terms s.field → Waits q r s.terms.limit s.field → is_over s.field.outcome ≡ false
    → is_among x (offered_for q One s.field) ≡ true → is_among y (offered_for r Two s.field) ≡ true
    → let p : Progress = update_for (ruling_of s.terms) q r x y (opened s) in Sure s.terms p.field p.action p.stream
unfolding update_for
started-update s x y requests.Move requests.Move seed h w o a b =
    turn-valid s.terms x y (opened s) (opened-sure s seed h) (offered-fits One x s.field h a) (offered-fits Two y s.field h b)
started-update s x y requests.Pass requests.Pass seed h (inl over) o a b = absurd (false≢true (sym o ∙ over))
started-update s x y requests.Pass requests.Pass seed h (inr nobody) o a b = absurd (omega (arith, nobody.0, h.one.place))
started-update s (choices.Switch j) (choices.Switch k) requests.Switch requests.Switch seed h w o a b =
    both_replace-valid s.terms j k (opened s) (offered-place One j s.field a) (offered-place Two k s.field b) (opened-sure s seed h)
started-update s (choices.Switch j) choices.Pass requests.Switch requests.Pass seed h w o a b =
    one_replaces-valid s.terms j (opened s) (offered-place One j s.field a) (opened-sure s seed h)
started-update s choices.Pass (choices.Switch k) requests.Pass requests.Switch seed h w o a b =
    two_replaces-valid s.terms k s (offered-place Two k s.field b) (opened-sure s seed h)
started-update s x y requests.Pass requests.Move seed h w o a b = absurd w
started-update s x y requests.Switch requests.Move seed h w o a b = absurd w
started-update s x y requests.Move requests.Pass seed h w o a b = absurd w
started-update s x y requests.Move requests.Switch seed h w o a b = absurd w
started-update s choices.Pass y requests.Switch r seed h w o a b = absurd (offered-replaces One choices.Pass s.field a)
started-update s (choices.Move k) y requests.Switch r seed h w o a b = absurd (offered-replaces One (choices.Move k) s.field a)
started-update s x choices.Pass q requests.Switch seed h w o a b = absurd (offered-replaces Two choices.Pass s.field b)
started-update s x (choices.Move k) q requests.Switch seed h w o a b = absurd (offered-replaces Two (choices.Move k) s.field b)
started-update s (choices.Move k) y requests.Pass r seed h w o a b = absurd (offered-passes (choices.Move k) a)
started-update s (choices.Switch k) y requests.Pass r seed h w o a b = absurd (offered-passes (choices.Switch k) a)
started-update s x (choices.Move k) q requests.Pass seed h w o a b = absurd (offered-passes (choices.Move k) b)
started-update s x (choices.Switch k) q requests.Pass seed h w o a b = absurd (offered-passes (choices.Switch k) b)

pub update-valid : (s : State) (x y : Choice) → IsStream (Link s.seed) → Stands s.terms s.field → Ready s.terms.limit s.field → is_over s.field.outcome ≡ false
    → is_among x (offered_for s.field.request_one One s.field) ≡ true → is_among y (offered_for s.field.request_two Two s.field) ≡ true
    → IsField s.terms (update (ruling_of s.terms) x y (opened s)).field
unfolding update update_for
update-valid s x y seed (inr h) ready o a b =
    close-valid s.terms _ (started-update s x y s.field.request_one s.field.request_two seed h ready o a b)
update-valid s x y seed (inl h) ready o a b =
    let r = ruling_of s.terms in
    close-valid s.terms _
    (subst (λ q. let p : Progress = update_for r q s.field.request_two x y (opened s) in Sure s.terms p.field p.action p.stream) (sym h.requests.one)
    (subst (λ q. let p : Progress = update_for r requests.Pass q x y (opened s) in Sure s.terms p.field p.action p.stream) (sym h.requests.two)
    (start-valid s seed h)))

record Steps (terms : Terms) (seed : List ℕ) (t : State) : Type 0 where
  pub terms_stay : t.terms ≡ terms
  pub seed_stays : t.seed ≡ seed
  pub stands : Stands terms t.field

answered-stands : (s : State) (x y : Choice) (over a b : Bool) → IsStream (Link s.seed) → Stands s.terms s.field → Ready s.terms.limit s.field
    → is_over s.field.outcome ≡ over → offers s One x ≡ a → offers s Two y ≡ b
    → Steps s.terms s.seed (answered s over a b (update (ruling_of s.terms) x y (opened s))).state
unfolding answered
answered-stands s x y true a b seed h ready o e k = record { terms_stay = refl; seed_stays = refl; stands = h }
answered-stands s x y false false b seed h ready o e k = record { terms_stay = refl; seed_stays = refl; stands = h }
answered-stands s x y false true false seed h ready o e k = record { terms_stay = refl; seed_stays = refl; stands = h }
answered-stands s x y false true true seed h ready o e k = record {
  terms_stay = refl;
  seed_stays = refl;
  stands = inr (update-valid s x y seed h ready o
      (subst (λ l. is_among x l ≡ true) (offered-is One s.field o) e) (subst (λ l. is_among y l ≡ true) (offered-is Two s.field o) k));
}

step-stands : (s : State) (x y : Choice) → IsStream (Link s.seed) → Stands s.terms s.field → Ready s.terms.limit s.field → Steps s.terms s.seed (step s x y).state
unfolding step step_by
step-stands s x y seed h ready = answered-stands s x y (is_over s.field.outcome) (offers s One x) (offers s Two y) seed h ready refl refl refl

run-stands : (terms : Terms) (seed : List ℕ) (s : State) (pairs : List (Choice × Choice)) → IsStream (Link seed) → Steps terms seed s → Ready s.terms.limit s.field
    → Stands terms (run s pairs).state.field
unfolding run_by
run-stands terms seed s [] is h ready = h.stands
run-stands terms seed s (pair ∷ pairs) is h ready =
    let next = step-stands s pair.0 pair.1 (rw h.seed_stays is) (rw h.terms_stay h.stands) ready in
    run-stands terms seed (step s pair.0 pair.1).state pairs is
    (record { terms_stay = next.terms_stay ∙ h.terms_stay; seed_stays = next.seed_stays ∙ h.seed_stays; stands = rw (← h.terms_stay) next.stands })
    (step-lower s pair.0 pair.1 ready).ready

pub fields_stay_valid : FieldsStayValid
fields_stay_valid s pairs h =
    run-stands s.terms s.seed s pairs h.seed (record { terms_stay = refl; seed_stays = refl; stands = by h.field }) (state-ready s h)
  where
    by : (IsUnstarted s.terms s.field ⊎ IsStarted s.terms s.field) → Stands s.terms s.field
    by (inl f) = inl f
    by (inr f) = inr f.field
