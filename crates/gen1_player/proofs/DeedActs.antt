-- What active members do, through a whole action.
use Rattle.std.proofs.Common.{[], Bool, List, ap, arith, false, if◌then◌else◌, inl, inr, is_some, length, length-set, nat_lt, not, refl, slice_index_or, subst, suc, sym, true, true≢false, zero, ℕ, ◌&&◌, ◌++◌, ◌-◌, ◌==◌, ◌∙◌, ◌∷◌, ◌≡◌, ◌≢◌, ◌≤◌, ◌⊎◌, ◌||◌}
use Rattle.std.proofs.lemmas.Bool.Decides.{eqb_tells}
use Rattle.gen1_tables.specs.declared.effect.Effect.{Effect}
use Rattle.gen1_tables.specs.declared.effect.Effect.TheVariants as effects
use Rattle.gen1_tables.specs.Effects.{bides, charges}
use Rattle.gen1_tables.specs.Moves.{move_row, move_rows, MoveRow}
use Rattle.gen1_rolls.specs.Streams.{Stream}
use Rattle.gen1_stats.specs.Members.{Member}
use Rattle.gen1_machine.specs.declared.side.Side.{Side}
use Rattle.gen1_machine.specs.declared.side.Side.TheVariants.{One, Two}
use Rattle.gen1_machine.specs.declared.event.CantReason.TheVariants as reasons
use Rattle.gen1_machine.specs.declared.event.DamageSource.TheVariants as sources
use Rattle.gen1_machine.specs.declared.event.Event.{Event}
use Rattle.gen1_machine.specs.declared.event.Event.TheVariants as events
use Rattle.gen1_machine.specs.declared.side.Pick.{Pick}
use Rattle.gen1_machine.specs.declared.side.Pick.TheVariants.{Continue, Held, Idle, Use}
use Rattle.gen1_machine.specs.declared.side.UsedMove.{UsedMove}
use Rattle.gen1_machine.specs.declared.side.UsedMove.TheVariants.{Struggle}
use Rattle.gen1_machine.specs.Moves.{move_at, Move}
use Rattle.gen1_machine.specs.Numbers.{side_number}
use Rattle.gen1_machine.specs.Picks.{is_idle, number_in, used_by}
use Rattle.gen1_machine.specs.Rules.{bit_of}
use Rattle.gen1_machine.specs.Sides.{other}
use Rattle.gen1_machine.specs.Conditions.{without_charging, without_invulnerability}
use Rattle.gen1_machine.specs.State.{active_in, changed_active, changed_conditions, changed_member, conditions_in, member_in, party, underway_in, who_in, with_current_move, with_member, with_pp_spent, Field, Party, Terms}
use Rattle.gen1_machine.specs.Progress.{choose, given, stay, stop, Action, Phase, Progress}
use Rattle.gen1_machine.specs.Gate.{confusion_test, gate, gate_of_move}
use Rattle.gen1_machine.specs.Action.{gate_or_held, move_taken_in}
use Rattle.gen1_machine.specs.Plans.{FitsPick, IsPlanned, Plan, Plans}
use Rattle.gen1_machine.proofs.Keeps.{Keeps}
use Rattle.gen1_machine.proofs.Sound.{party-valid, planned-holds}
use Rattle.gen1_machine.proofs.SoundWalk.{confusion_test-sound, disabled_test-sound, gate_of_status-sound, gate_of_turn-sound, paralysis_test-sound}
use Rattle.gen1_machine.proofs.Acts.{quiet-sound, Quiet}
use Rattle.gen1_machine.proofs.Watching.{BothOut, before-leads, given-tells, if-sees, stay-tells, stop-leads, ◌⊳◌, Lands, Leads, Rests, Runs}
use Rattle.gen1_player.specs.declared.public.Public.{Public}
use Rattle.gen1_player.specs.declared.public_side.PublicSide.{PublicSide}
use Rattle.gen1_player.specs.Public.{broken_off_if, ends_recharging, is_overtaken, on_out, on_seen, public_side, recharges_unless, settled_by, strikes, suffers_move, takes_damage, takes_in, uses_move}
use Rattle.gen1_player.proofs.Facts.{Sizes}
pub use Rattle.gen1_player.proofs.Stories.{with-keeps}
use Rattle.gen1_player.proofs.HeardSides.{foe-side, move-hears, out-side}
use Rattle.gen1_player.proofs.ToldActions.{spent-tame}
use Rattle.gen1_player.proofs.Deeds.{core, current-kept, current_of, deeds, deeds_of, does-in, even-fades, fades-side, pending-out, with_conditions, Core, Deeds, Does, Even, Fades}
use Rattle.gen1_player.proofs.DeedStory.{told_by, Lasts, Tale}
use Rattle.gen1_player.proofs.DeedGate.{acted-tale, confusion-deeds, disabled-deeds, light-cant, paralysis-deeds, status-deeds, turn-deeds, In, Near, Nothing_more, Opens, Over}

-- Another fact at a stop

pub rests-leads : {P Q S T : Progress → Type 0} {f : Phase} → ((p : Progress) → S p → T p) → Leads P Q S f → Leads P Q T f
rests-leads {P} {Q} {S} {T} {f} h k = record { leads = λ p r m. by (f p) (k.leads p r m) }
  where
    by : (q : Progress) → Lands Q S q → Lands Q T q
    by q (Runs r x) = Runs r x
    by q (Rests r x) = Rests r (h q x)

-- What is underway explains the move that is taken up

pub record Tie (s : Side) (pick : Pick) (f : Field) : Type 0 where
  pub charging : (underway_in s f).charging ≡ true → charges (move_taken_in s pick f).effect ≡ true
  pub bide : is_some (underway_in s f).bide ≡ true → bides (move_taken_in s pick f).effect ≡ true

pub tie-of : {terms : Terms} {plan : Side → Plan} (s : Side) (pick : Pick) (f : Field) (a : Action) (w : Stream) → FitsPick pick (plan s) → IsPlanned terms plan f a w → Tie s pick f
tie-of s (Use used) f a w fits h =
    let plans = planned-holds s f a w fits.1 h in
    record { charging = λ e. absurd (true≢false (sym (plans.2.charging_tied e))); bide = λ e. absurd (true≢false (sym (plans.2.bide_tied e))) }
tie-of s Continue f a w fits h = let u = (party-valid s f h.field).active.conditions.underway in record { charging = u.charging_tied; bide = u.bide_tied }
tie-of s Idle f a w fits h = let u = (party-valid s f h.field).active.conditions.underway in record { charging = u.charging_tied; bide = u.bide_tied }
tie-of s Held f a w fits h = let u = (party-valid s f h.field).active.conditions.underway in record { charging = u.charging_tied; bide = u.bide_tied }

-- An idle side has nothing underway.
abbrev pub IdleIsQuiet : Pick → Plan → Type 0
IdleIsQuiet pick x = is_idle pick ≡ true → (e : Effect) × (x ≡ Plans Struggle e)

pub record Calmed (s : Side) (f : Field) : Type 0 where
  pub bide : is_some (underway_in s f).bide ≡ false
  pub charging : (underway_in s f).charging ≡ false

never : (b : Bool) → (b ≡ true → false ≡ true) → b ≡ false
never true h = absurd (true≢false (sym (h refl)))
never false h = refl

calmed-of : {terms : Terms} {plan : Side → Plan} (s : Side) (e : Effect) (f : Field) (a : Action) (w : Stream) → plan s ≡ Plans Struggle e → IsPlanned terms plan f a w → Calmed s f
calmed-of s e f a w is h =
    let plans = planned-holds s f a w is h in
    record { bide = never _ plans.2.bide_tied; charging = never _ plans.2.charging_tied }

-- Announcements of a side with nothing underway

off-deeds : (place : ℕ) (c : Core) → c.bide ≡ false → c.charging ≡ false → record (deeds_of place c) { bide = 0; charging = 0 } ≡ deeds_of place c
off-deeds place c x y = ap (λ (b : Bool). record (deeds_of place c) { bide = bit_of b; charging = 0 }) (sym x) ∙ ap (λ (b : Bool). record (deeds_of place c) { charging = bit_of b }) (sym y)

does-idle : (x : PublicSide) (t : Party) → is_some t.active.conditions.underway.bide ≡ false → t.active.conditions.underway.charging ≡ false → Does x t → Does (takes_damage sources.Confusion x) t
does-idle x t a b m = record {
  same = ap (λ (k : Deeds). record k { bide = 0; charging = 0 }) m.same ∙ off-deeds t.active.place (core t.active.conditions) a b;
  reach = λ e. absurd (e refl);
  rests = m.rests;
  last = m.last;
  few = m.few;
}

off-either : (c d : Bool) (x : PublicSide) (t : Party) → is_some t.active.conditions.underway.bide ≡ false → t.active.conditions.underway.charging ≡ false
    → Does (broken_off_if (c && false) x) t → Does (broken_off_if (c && true) x) t
off-either true d x t a b m = does-idle x t a b m
off-either false d x t a b m = m

-- Nothing happens to an idle side, whether it has hit itself or not.
idle-settled : (s : Side) (f : Field) (p : Public) → Calmed s f → Even f (settled_by (side_number s) p) → Even f (settled_by 0 p)
idle-settled One f p h m = record { one = off-either (p.may_hit_itself == 1) true p.one f.one h.bide h.charging m.one; two = m.two }
idle-settled Two f p h m = record { one = m.one; two = off-either (p.may_hit_itself == 2) true p.two f.two h.bide h.charging m.two }

-- The gate

confusion-keeps : (terms : Terms) (plan : Side → Plan) (s : Side) → Keeps (Quiet terms plan) (given (λ p. (conditions_in s p.field).confused) (confusion_test s))
unfolding given
confusion-keeps terms plan s = record { kept = λ p h. (confusion_test-sound (quiet-sound terms plan) s (conditions_in s p.field).confused).led p (h, refl) }

module _ (terms : Terms) (plan : Side → Plan) {n : Sizes} {pre : List Event} (b : Bool) (s : Side) (pick : Pick) (idle : IdleIsQuiet pick (plan s)) where
  idle-stops : Leads (λ p. In n pre (Near b s) p × Quiet terms plan p.field p.action p.stream) (λ p. In n pre (Near b s) p × Quiet terms plan p.field p.action p.stream) (In n pre (Over b s))
      (choose (λ p. is_idle pick) stop stay)
  idle-stops = if-sees (is_idle pick)
      (λ e. stop-leads (λ p m. record {
        begun = m.0.begun;
        is = inl (record { even = idle-settled s p.field (told_by (pre ++ p.events)) (calmed-of s (idle e).0 p.field p.action p.stream (idle e).1 m.1.0) m.0.is.even; first = m.0.is.first });
      }))
      (λ e. stay-tells)

  move-deeds : Leads (λ p. In n pre (Opens b s) p × Quiet terms plan p.field p.action p.stream) (λ p. In n pre (Near b s) p × Quiet terms plan p.field p.action p.stream) (In n pre (Over b s)) (gate_of_move s pick)
  unfolding gate_of_move
  move-deeds = with-keeps (given-tells _ (confusion-deeds b s)) (confusion-keeps terms plan s)
      ⊳ with-keeps (disabled-deeds b s pick) (disabled_test-sound (quiet-sound terms plan) s pick)
      ⊳ with-keeps (paralysis-deeds b s) (paralysis_test-sound (quiet-sound terms plan) s)
      ⊳ idle-stops

  gate-deeds : Leads (λ p. In n pre (Opens b s) p × Quiet terms plan p.field p.action p.stream) (λ p. In n pre (Near b s) p × Quiet terms plan p.field p.action p.stream) (In n pre (Over b s)) (gate s pick)
  unfolding gate
  gate-deeds = with-keeps (status-deeds b s) (gate_of_status-sound (quiet-sound terms plan) s)
      ⊳ with-keeps (turn-deeds b s) (gate_of_turn-sound (quiet-sound terms plan) s) ⊳ move-deeds

pub gate_or_held-deeds : (terms : Terms) (plan : Side → Plan) {n : Sizes} {pre : List Event} (b : Bool) (s : Side) (pick : Pick) → IdleIsQuiet pick (plan s)
    → Leads (λ p. In n pre (Opens b s) p × Quiet terms plan p.field p.action p.stream) (λ p. In n pre (Near b s) p × Quiet terms plan p.field p.action p.stream) (In n pre (Over b s)) (gate_or_held s pick)
unfolding gate_or_held
gate_or_held-deeds terms plan b s Held idle = before-leads (λ p m. m.0) (light-cant b s reasons.PartiallyTrapped refl)
gate_or_held-deeds terms plan b s (Use used) idle = gate-deeds terms plan b s (Use used) idle
gate_or_held-deeds terms plan b s Continue idle = gate-deeds terms plan b s Continue idle
gate_or_held-deeds terms plan b s Idle idle = gate-deeds terms plan b s Idle idle

-- Moves of Bide's effect

pub is-bide : (e : Effect) → bides e ≡ true → e ≡ effects.Bide
is-bide effects.Bide h = refl
is-bide _ h = absurd (true≢false (sym h))

abbrev bides_weakly : MoveRow → Bool
bides_weakly row = not (bides row.effect) || row.power == 0

abbrev all_bide_weakly : List MoveRow → Bool
all_bide_weakly [] = true
all_bide_weakly (row ∷ rows) = bides_weakly row && all_bide_weakly rows

and-left : (a c : Bool) → (a && c) ≡ true → a ≡ true
and-left true c e = refl
and-left false c e = e

and-right : (a c : Bool) → (a && c) ≡ true → c ≡ true
and-right true c e = e
and-right false c e = absurd (true≢false (sym e))

row-weak : (rows : List MoveRow) (i : ℕ) (d : MoveRow) → all_bide_weakly rows ≡ true → bides_weakly d ≡ true → bides_weakly (slice_index_or rows i d) ≡ true
row-weak [] i d h e = e
row-weak (row ∷ rows) zero d h e = and-left (bides_weakly row) _ h
row-weak (row ∷ rows) (suc i) d h e = row-weak rows i d (and-right (bides_weakly row) _ h) e

all-weak : all_bide_weakly move_rows ≡ true
unfolding move_rows
all-weak = refl

move-weak : (k : ℕ) → bides_weakly (move_row k) ≡ true
unfolding move_row
move-weak k = row-weak move_rows (k - 1) _ all-weak refl

weak-power : (c : Bool) (power : ℕ) → c ≡ true → (not c || power == 0) ≡ true → nat_lt 0 power ≡ false
weak-power false power e h = absurd (true≢false (sym e))
weak-power true power e h = by (eqb_tells power 0)
  where
    by : (((power == 0) ≡ true) × (power ≡ 0)) ⊎ (((power == 0) ≡ false) × (power ≢ 0)) → nat_lt 0 power ≡ false
    by (inl x) = ap (nat_lt 0) x.1
    by (inr x) = absurd (true≢false (sym h ∙ x.0))

pub bide-power : (move : Move) → move ≡ move_at move.number → bides move.effect ≡ true → nat_lt 0 move.power ≡ false
bide-power move same h =
    let e = ap (λ (m : Move). m.effect) same in
    let k : nat_lt 0 (move_at move.number).power ≡ false = weak-power (bides (move_row move.number).effect) (move_row move.number).power (ap bides (sym e) ∙ h) (move-weak move.number) in
    ap (λ (m : Move). nat_lt 0 m.power) same ∙ k

-- Before the move is used

-- A move that is taken up, and what is underway.
pub record Ready (b : Bool) (s : Side) (pick : Pick) (move : Move) (f : Field) (es : List Event) : Type 0 where
  pub near : Near b s f es
  pub charging : (underway_in s f).charging ≡ true → charges move.effect ≡ true
  pub bide : is_some (underway_in s f).bide ≡ true → bides move.effect ≡ true
  pub named : number_in (used_by pick (active_in s f).current_move) (member_in s f).moves ≡ move.number

pub record Off (b : Bool) (s : Side) (pick : Pick) (move : Move) (f : Field) (es : List Event) : Type 0 where
  pub ready : Ready b s pick move f es
  pub off : is_some (underway_in s f).bide ≡ false

-- The use of the move will be heard.
pub record Strikes (x : PublicSide) (t : Party) : Type 0 where
  pub same : deeds (strikes x) ≡ deeds_of t.active.place (core t.active.conditions)
  pub reach : (strikes x).invulnerable ≢ 0 → t.active.conditions.invulnerable ≡ true
  pub few : length t.members ≤ 6

abbrev pub own_of : Side → List Event → PublicSide
own_of s es = public_side s (settled_by (side_number s) (told_by es))

abbrev pub foe_of : Side → List Event → PublicSide
foe_of s es = public_side (other s) (settled_by (side_number s) (told_by es))

pub record Due (s : Side) (pick : Pick) (move : Move) (f : Field) (es : List Event) : Type 0 where
  pub mine : Strikes (own_of s es) (party s f)
  pub theirs : Does (foe_of s es) (party (other s) f)
  pub named : number_in (used_by pick (active_in s f).current_move) (member_in s f).moves ≡ move.number

pub record Ending (s : Side) (pick : Pick) (move : Move) (f : Field) (es : List Event) : Type 0 where
  pub due : Due s pick move f es
  pub gone : (strikes (own_of s es)).invulnerable ≡ 0

-- Its move is the current one.
pub record Uses (s : Side) (move : Move) (f : Field) (es : List Event) : Type 0 where
  pub mine : Strikes (own_of s es) (party s f)
  pub theirs : Does (foe_of s es) (party (other s) f)
  pub current : current_of (party s f) ≡ move.number

pub theirs-in : (s : Side) {f : Field} {p : Public} → Even f p → Does (public_side (other s) p) (party (other s) f)
theirs-in One m = m.two
theirs-in Two m = m.one

pub reach-if : (c : Bool) (i : ℕ) → (if c then i else 0) ≢ 0 → i ≢ 0
reach-if true i h = h
reach-if false i h = absurd (h refl)

does-strikes : (x : PublicSide) (t : Party) → is_some t.active.conditions.underway.bide ≡ false → t.active.conditions.underway.charging ≡ false → Does x t → Strikes x t
does-strikes x t a c m = record {
  same = ap (λ (k : Deeds). record k { bide = 0; charging = 0 }) m.same ∙ off-deeds t.active.place (core t.active.conditions) a c;
  reach = λ e. m.reach (reach-if (x.announced.charging == 0) x.invulnerable e);
  few = m.few;
}

-- The second turn of a charged move
does-ends : (x : PublicSide) (t : Party) → is_some t.active.conditions.underway.bide ≡ false → t.active.conditions.underway.charging ≡ true → Does x t
    → Strikes x (with_conditions without_charging t) × ((strikes x).invulnerable ≡ 0)
unfolding without_charging
does-ends x t a c m =
    let on : x.announced.charging ≡ 1 = ap (λ (k : Deeds). k.charging) m.same ∙ ap bit_of c in
    let gone : (strikes x).invulnerable ≡ 0 = ap (λ (i : ℕ). if i == 0 then x.invulnerable else 0) on in (
      record {
        same = ap (λ (k : Deeds). record k { bide = 0; charging = 0 }) m.same
            ∙ ap (λ (d : Bool). record (deeds_of t.active.place (core t.active.conditions)) { bide = bit_of d; charging = 0 }) (sym a);
        reach = λ e. absurd (e gone);
        few = m.few;
      },
      gone,
    )

pub off-due : (b : Bool) (s : Side) (pick : Pick) (move : Move) (f : Field) (es : List Event) → (underway_in s f).charging ≡ false → Off b s pick move f es → Due s pick move f es
off-due b s pick move f es c m = record {
  mine = does-strikes (own_of s es) (party s f) m.off c (does-in s m.ready.near.even);
  theirs = theirs-in s m.ready.near.even;
  named = m.ready.named;
}

pub off-ending : (b : Bool) (s : Side) (pick : Pick) (move : Move) (f : Field) (es : List Event) → (underway_in s f).charging ≡ true → Off b s pick move f es
    → Ending s pick move (changed_conditions s without_charging f) es
unfolding changed_active changed_conditions
off-ending b One pick move f es c m =
    let e = does-ends (own_of One es) f.one m.off c m.ready.near.even.one in
    record { due = record { mine = e.0; theirs = m.ready.near.even.two; named = m.ready.named }; gone = e.1 }
off-ending b Two pick move f es c m =
    let e = does-ends (own_of Two es) f.two m.off c m.ready.near.even.two in
    record { due = record { mine = e.0; theirs = m.ready.near.even.one; named = m.ready.named }; gone = e.1 }

reached : (x : PublicSide) (t : Party) → (strikes x).invulnerable ≡ 0 → Strikes x t → Strikes x (with_conditions without_invulnerability t)
unfolding without_invulnerability
reached x t gone m = record { same = m.same; reach = λ e. absurd (e gone); few = m.few }

pub ending-due : (s : Side) (pick : Pick) (move : Move) (f : Field) (es : List Event) → Ending s pick move f es → Due s pick move (changed_conditions s without_invulnerability f) es
unfolding changed_active changed_conditions
ending-due One pick move f es m = record { mine = reached _ f.one m.gone m.due.mine; theirs = m.due.theirs; named = m.due.named }
ending-due Two pick move f es m = record { mine = reached _ f.two m.gone m.due.mine; theirs = m.due.theirs; named = m.due.named }

abbrev pub taken_up : Side → Pick → Field → Field
taken_up s pick f = changed_active s (with_current_move (used_by pick (active_in s f).current_move)) f

pub due-uses : (s : Side) (pick : Pick) (move : Move) (f : Field) (es : List Event) → Due s pick move f es → Uses s move (taken_up s pick f) es
unfolding changed_active with_current_move
due-uses One pick move f es m = record { mine = record { same = m.mine.same; reach = m.mine.reach; few = m.mine.few }; theirs = m.theirs; current = m.named }
due-uses Two pick move f es m = record { mine = record { same = m.mine.same; reach = m.mine.reach; few = m.mine.few }; theirs = m.theirs; current = m.named }

strikes-spent : (used : UsedMove) (m : Member) (x : PublicSide) (t : Party) → Strikes x t → Strikes x (with_member t.active.place (with_pp_spent used m) t)
strikes-spent used m x t k = record { same = k.same; reach = k.reach; few = rw (length-set t.members (t.active.place - 1) (with_pp_spent used m)) k.few }

pub uses-spent : (s : Side) (move : Move) (used : UsedMove) (f : Field) (es : List Event) → Uses s move f es → Uses s move (changed_member s (with_pp_spent used) f) es
unfolding changed_member
uses-spent One move used f es m = record {
  mine = strikes-spent used (member_in One f) _ f.one m.mine;
  theirs = m.theirs;
  current = current-kept (with_pp_spent used (member_in One f)) f.one (spent-tame used (member_in One f)) ∙ m.current;
}
uses-spent Two move used f es m = record {
  mine = strikes-spent used (member_in Two f) _ f.two m.mine;
  theirs = m.theirs;
  current = current-kept (with_pp_spent used (member_in Two f)) f.two (spent-tame used (member_in Two f)) ∙ m.current;
}

-- The use of the move

unfoldable pub UsedBy : Side → ℕ → Public → Type 0
UsedBy s k p = (public_side s p).last_move ≡ k

suffers-if : (c : Bool) (x : PublicSide) → Fades (recharges_unless c (on_seen is_overtaken x)) x
suffers-if true x = record { same = refl; reach = λ e. e; rests = λ e. absurd (e refl); last = refl }
suffers-if false x = record { same = refl; reach = λ e. e; rests = λ e. e; last = refl }

does-uses : (x : PublicSide) (t : Party) (k : ℕ) → current_of t ≡ k → Strikes x t → Does (uses_move k x) t
does-uses x t k e m = record { same = m.same; reach = m.reach; rests = λ i. absurd (i refl); last = sym e; few = m.few }

struck : (s : Side) (k : ℕ) (f : Field) (q : Public) → BothOut f → current_of (party s f) ≡ k → Strikes (public_side s q) (party s f) → Does (public_side (other s) q) (party (other s) f)
    → Even f (on_out s (uses_move k) q) × (public_side s (on_out s (uses_move k) q) ≡ uses_move k (public_side s q))
struck One k f q o e mine theirs =
    let at : q.one.place ≡ f.one.active.place = ap (λ (d : Deeds). d.place) mine.same in
    let is = out-side One (uses_move k) q (omega (arith, o.one.placed, at)) in (
      record {
        one = subst (λ (x : PublicSide). Does x f.one) (sym is) (does-uses q.one f.one k e mine);
        two = subst (λ (x : PublicSide). Does x f.two) (sym (foe-side One (uses_move k) q)) theirs;
      },
      is,
    )
struck Two k f q o e mine theirs =
    let at : q.two.place ≡ f.two.active.place = ap (λ (d : Deeds). d.place) mine.same in
    let is = out-side Two (uses_move k) q (omega (arith, o.two.placed, at)) in (
      record {
        one = subst (λ (x : PublicSide). Does x f.one) (sym (foe-side Two (uses_move k) q)) theirs;
        two = subst (λ (x : PublicSide). Does x f.two) (sym is) (does-uses q.two f.two k e mine);
      },
      is,
    )

pub uses-tale : (s : Side) (move : Move) (f : Field) (es : List Event) → BothOut f → Uses s move f es
    → Tale (UsedBy s move.number) f (es ++ events.Move (who_in s f) move.number (who_in (other s) f) ∷ [])
unfolding UsedBy
uses-tale s move f es o m =
    let k : ℕ = move.number in
    let e : Event = events.Move (who_in s f) k (who_in (other s) f) in
    let q : Public = settled_by (side_number s) (told_by es) in
    let q1 : Public = on_out s (uses_move k) q in
    let q2 : Public = on_out (other s) (suffers_move k) q1 in
    let is : takes_in e q ≡ q2 = move-hears (who_in s f) (who_in (other s) f) k q in
    let d = struck s k f q o m.current m.mine m.theirs in
    let fades : (u : Side) → Fades (public_side u q2) (public_side u q1) = λ u. fades-side (other s) u (suffers_move k) q1 (suffers-if (ends_recharging (move_at k).effect)) in
    acted-tale (UsedBy s k) (side_number s) f es e refl
    (subst (Even f) (sym is) (even-fades f q1 q2 fades d.0))
    (subst (λ (p : Public). p.may_hit_itself ≡ 0) (sym is) (pending-out (other s) (suffers_move k) q1 ∙ pending-out s (uses_move k) q))
    (subst (λ (p : Public). (public_side s p).last_move ≡ k) (sym is) ((fades s).last ∙ ap (λ (x : PublicSide). x.last_move) d.1))

pub used-lasts : (s : Side) (k : ℕ) → Lasts (UsedBy s k)
unfolding UsedBy
used-lasts s k = record { kept = λ p q h e. h s ∙ e }

pub nothing-lasts : Lasts Nothing_more
nothing-lasts = record { kept = λ p q h e. tt }
