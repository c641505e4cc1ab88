-- What active members do, through a turn.
use Rattle.std.proofs.Common.{[], Bool, List, None, Option, Some, ap, arith, false, if◌then◌else◌, inl, inr, is_some, length, max, nat_le, nat_lt, not, refl, subst, suc, sym, true, true≢false, zero, ℕ, ◌&&◌, ◌*◌, ◌+◌, ◌++◌, ◌/◌, ◌<◌, ◌∙◌, ◌∷◌, ◌≡◌, ◌≢◌, ◌≤◌, ◌⊎◌, ◌||◌}
use Rattle.std.proofs.lemmas.Bool.{le-leb, lt-ltb}
use Rattle.std.proofs.Math.Nat.{mul-pos}
use Rattle.gen1_tables.specs.declared.effect.Effect.{Effect}
use Rattle.gen1_tables.specs.declared.effect.Effect.TheVariants as effects
use Rattle.gen1_rolls.specs.Streams.{byte_at, Stream}
use Rattle.gen1_stats.specs.declared.member.Status.{Status}
use Rattle.gen1_stats.specs.declared.member.Status.TheVariants.{Burned, Poisoned}
use Rattle.gen1_stats.specs.Members.{is_living, sleeps_or_freezes, Member}
use Rattle.gen1_machine.specs.declared.side.Side.{Side}
use Rattle.gen1_machine.specs.declared.side.Side.TheVariants.{One, Two}
use Rattle.gen1_machine.specs.declared.side.Choice.{Choice}
use Rattle.gen1_machine.specs.declared.side.Choice.TheVariants as choices
use Rattle.gen1_machine.specs.declared.terms.Outcome.{Outcome}
use Rattle.gen1_machine.specs.declared.terms.Outcome.TheVariants as outcomes
use Rattle.gen1_machine.specs.declared.event.DamageSource.{DamageSource}
use Rattle.gen1_machine.specs.declared.event.DamageSource.TheVariants as sources
use Rattle.gen1_machine.specs.declared.event.Event.{Event}
use Rattle.gen1_machine.specs.declared.event.Event.TheVariants as events
use Rattle.gen1_machine.specs.declared.side.Pick.{Pick}
use Rattle.gen1_machine.specs.declared.side.Pick.TheVariants.{Continue, Held, Idle, Use}
use Rattle.gen1_machine.specs.declared.side.UsedMove.{UsedMove}
use Rattle.gen1_machine.specs.declared.side.UsedMove.TheVariants.{Struggle}
use Rattle.gen1_machine.specs.Health.{Health}
use Rattle.gen1_machine.specs.Picks.{must_continue, number_in, pick_in}
use Rattle.gen1_machine.specs.Sides.{other}
use Rattle.gen1_machine.specs.Numbers.{side_number}
use Rattle.gen1_machine.specs.Conditions.{one_more, with_worse_poison, without_flinch, without_trapping, ActiveConditions, Underway}
use Rattle.gen1_machine.specs.State.{active_in, changed_active, changed_conditions, changed_member, conditions_in, healed_by, health_in, hurt_by, is_over, member_at, member_in, party, status_in, underway_in, who_in, with_picked_move, Field, Party, Terms}
use Rattle.gen1_machine.specs.Progress.{draw, gain_hp, given, has_fallen, lose_hp, on_action, on_active, on_conditions, Action, Phase, Progress}
use Rattle.gen1_machine.specs.ResidualDamage.{drained_by, residual, residual_in, suffer, suffer_seed, suffer_status, times_poisoned, worsen}
use Rattle.gen1_machine.specs.Ruling.{ruling_of}
use Rattle.gen1_machine.specs.Action.{begin}
use Rattle.gen1_machine.specs.SwitchingIn.{switch_event, with_sent_out}
use Rattle.gen1_machine.specs.TurnOrder.{in_order, in_order_of_rank, in_order_of_speed, toss}
use Rattle.gen1_machine.specs.Turn.{both_act, both_pick, both_switch, do_part, do_parts, end_spent_trapping, end_turn, is_cut, of_side, one_picks, play_turn, set_picked, switch_then_act, turn, Acts, Part, Sends, Suffers}
use Rattle.gen1_machine.specs.Valid.{effect_of, IsUnderway}
use Rattle.gen1_machine.specs.Plans.{with_plan, Any, Doing, FitsPick, InRange, IsPlanned, Plan, PlanOf, Plans}
use Rattle.gen1_machine.proofs.Keeps.{on_conditions-keeps, Keeps}
use Rattle.gen1_machine.proofs.Keeps as steps
use Rattle.gen1_machine.proofs.Tame.{without_flinch-tame}
use Rattle.gen1_machine.proofs.Sound.{party-valid, planned-sound, replanned, with_plan-is}
use Rattle.gen1_machine.proofs.SoundWalk.{conditions-spared}
use Rattle.gen1_machine.proofs.Acts.{begin-keeps}
use Rattle.gen1_machine.proofs.Fitting.{free-plain, Fits}
use Rattle.gen1_machine.proofs.ValidSteps.{act_part, both-plan_of, both-planned, both_plan, send_part, set_picked-keeps, suffers_part, with_plan-other, Sure}
use Rattle.gen1_machine.proofs.Watching.{keeps-member, BothOut, after-leads, before-leads, choose-sees, choose-tells, given-sees, given-tells, stay-tells, ◌⊳◌, Lands, Leads, Rests, Runs}
use Rattle.gen1_machine.proofs.Watching as watching
use Rattle.gen1_player.specs.declared.public.Public.{Public}
use Rattle.gen1_player.specs.declared.public_side.PublicSide.{PublicSide}
use Rattle.gen1_player.specs.Public.{comes_out, first_public, on_public_side, settled, settled_by, takes_in}
use Rattle.gen1_player.specs.True.{is_fault}
use Rattle.gen1_player.proofs.Facts.{followed, fresh, is_dull, is_residual, sent, sent-standing, side_out, standing, Sizes, Standing}
use Rattle.gen1_player.proofs.Facts as facts
use Rattle.gen1_player.proofs.Stories.{begun-active, begun-member, Begun, MayFall, Now, Switching}
use Rattle.gen1_player.proofs.HeardSides.{hears-in, hears_all-last, switch-hears}
use Rattle.gen1_player.proofs.ToldActions.{begin-tells}
use Rattle.gen1_player.proofs.ToldEnds.{fits-now, or-left, or-right, send_out-tells, ChoiceFits}
use Rattle.gen1_player.proofs.Deeds.{core, deeds, deeds_of, does-conditions, does-lame, even-conditions, even-hurt, even-loosely, even-member, even-quiet, hurt_to, lame-conditions, loosely-even, loosely-quiet, loosely-worse, pending-out, quiet-loosely, with_active, Bland, Deeds, Does, Even, Loosely}
use Rattle.gen1_player.proofs.DeedStory.{deeding, even-before, quiet-settled, tale-active, tale-conditions, tells-next, told_by, LooseTale, Tale}
use Rattle.gen1_player.proofs.DeedGate.{acted-tale, at-conditions, at-field, at-told, at-weak, dull-tale, opens-past, tale-opens, tale-past, zero-not, In, Nothing_more, Opens, Over, Past}
use Rattle.gen1_player.proofs.DeedActs.{nothing-lasts, rests-leads, with-keeps, IdleIsQuiet}
use Rattle.gen1_player.proofs.DeedMoves.{act-deeds, plain_story}

-- A member comes out

and-true : (a b : Bool) → a ≡ true → b ≡ true → (a && b) ≡ true
and-true a b e h = ap (λ (x : Bool). x && b) e ∙ h

out-if : (c : Bool) (x y : PublicSide) → c ≡ true → (if c then x else y) ≡ x
out-if c x y e = ap (λ (d : Bool). if d then x else y) e

pub comes-is : (species place level : ℕ) (h : Health) (x : PublicSide) → 1 ≤ place → place ≤ 6 → comes_out species place level h x ≡ side_out species place level h x
comes-is species place level h x low high = out-if (nat_le 1 place && nat_le place 6) (side_out species place level h x) x (and-true (nat_le 1 place) (nat_le place 6) (le-leb 1 place low) (le-leb place 6 high))

does-sent : (species place level : ℕ) (h : Health) (x : PublicSide) (t : Party) → 1 ≤ place → place ≤ length t.members → length t.members ≤ 6 → x.unused ≡ 0
    → Does (comes_out species place level h x) (with_active (with_sent_out place (member_at place t) t.active) t)
does-sent species place level h x t low high few none =
    let e : standing (with_sent_out place (member_at place t) t.active) ≡ standing (fresh place (member_at place t)) = sent-standing place (member_at place t) t.active in
    subst (λ (y : PublicSide). Does y (with_active (with_sent_out place (member_at place t) t.active) t)) (sym (comes-is species place level h x low (omega (arith, high, few)))) (record {
      same = ap (λ (i : ℕ). record (deeds (side_out species place level h x)) { unused = i }) none ∙ sym (ap (λ (a : Standing). deeds_of a.place (core a.conditions)) e);
      reach = λ i. absurd (i refl);
      rests = λ i. absurd (i refl);
      last = sym (ap (λ (a : Standing). number_in a.current_move (member_at a.place t).moves) e);
      few = few;
    })

trapping-bland : Bland without_trapping
unfolding without_trapping
trapping-bland c = refl

pending-side : (s : Side) (h : PublicSide → PublicSide) (p : Public) → (on_public_side s h p).may_hit_itself ≡ p.may_hit_itself
pending-side One h p = refl
pending-side Two h p = refl

even-sent : (s : Side) (place : ℕ) (f : Field) (p : Public) (species level : ℕ) (h : Health) → 1 ≤ place → place ≤ length (party s f).members → Even f p
    → Even (sent s place f) (on_public_side s (comes_out species place level h) p)
unfolding changed_active changed_conditions
even-sent One place f p species level h low high m = record {
  one = does-sent species place level h p.one f.one low high m.one.few (ap (λ (k : Deeds). k.unused) m.one.same);
  two = does-conditions without_trapping trapping-bland p.two f.two m.two;
}
even-sent Two place f p species level h low high m = record {
  one = does-conditions without_trapping trapping-bland p.one f.one m.one;
  two = does-sent species place level h p.two f.two low high m.two.few (ap (λ (k : Deeds). k.unused) m.two.same);
}

tale-sent : (s : Side) (place : ℕ) (f : Field) (es : List Event) → 1 ≤ place → place ≤ length (party s f).members → Tale Nothing_more f es
    → Tale Nothing_more (sent s place f) (es ++ switch_event s place (sent s place f) ∷ [])
tale-sent s place f es low high m =
    let g : Field = sent s place f in
    let e : Event = switch_event s place g in
    let q : Public = settled e (told_by es) in
    let h : PublicSide → PublicSide = comes_out (who_in s g).species place (member_in s g).level (health_in s g) in
    let is : takes_in e q ≡ on_public_side s h q = switch-hears (who_in s g) place (member_in s g).level (health_in s g) q in
    tells-next Nothing_more g es e
    (subst (Even g) (sym is) (even-sent s place f q (who_in s g).species (member_in s g).level (health_in s g) low high (even-before e f (told_by es) m.quiet m.even)))
    (subst (λ (p : Public). p.may_hit_itself ≡ 0) (sym is) (pending-side s h q ∙ quiet-settled e (told_by es))) tt

loosely-sent : (s : Side) (place : ℕ) (f : Field) (p : Public) (species level : ℕ) (h : Health) → 1 ≤ place → place ≤ length (party s f).members → Loosely f p
    → Loosely (sent s place f) (on_public_side s (comes_out species place level h) p)
unfolding changed_active changed_conditions
loosely-sent One place f p species level h low high m = record {
  one = does-lame _ _ (does-sent species place level h p.one f.one low high m.one.few (ap (λ (k : Deeds). k.unused) m.one.but));
  two = lame-conditions without_trapping trapping-bland p.two f.two m.two;
}
loosely-sent Two place f p species level h low high m = record {
  one = lame-conditions without_trapping trapping-bland p.one f.one m.one;
  two = does-lame _ _ (does-sent species place level h p.two f.two low high m.two.few (ap (λ (k : Deeds). k.unused) m.two.but));
}

pub loose-sent : (s : Side) (place : ℕ) (f : Field) (es : List Event) → 1 ≤ place → place ≤ length (party s f).members → LooseTale f es
    → LooseTale (sent s place f) (es ++ switch_event s place (sent s place f) ∷ [])
unfolding settled
loose-sent s place f es low high m =
    let g : Field = sent s place f in
    let e : Event = switch_event s place g in
    let q : Public = settled e (told_by es) in
    let h : PublicSide → PublicSide = comes_out (who_in s g).species place (member_in s g).level (health_in s g) in
    let is : takes_in e q ≡ on_public_side s h q = switch-hears (who_in s g) place (member_in s g).level (health_in s g) q in
    let same : takes_in e q ≡ told_by (es ++ e ∷ []) = sym (hears_all-last es e first_public ∙ hears-in e (told_by es)) in
    record {
      loosely = subst (Loosely g) (sym is ∙ same)
          (loosely-sent s place f q (who_in s g).species (member_in s g).level (health_in s g) low high (loosely-quiet 0 f (told_by es) m.quiet m.loosely));
      quiet = subst (λ (p : Public). p.may_hit_itself ≡ 0) (sym is ∙ same) (pending-side s h q ∙ quiet-settled e (told_by es));
    }

pub plain-switches : Switching plain_story
unfolding deeding
plain-switches = record {
  sends = λ s place f es low high m. tale-sent s place f es low high m;
  loose_sends = λ s place f es low high m. tale-sent s place f es low high m;
}

-- Two facts at once

pub with-leads : {P Q S : Progress → Type 0} {K L : Field → Action → Stream → Type 0} {f : Phase} → Leads P Q S f → steps.Leads K L f
    → Leads (λ p. P p × K p.field p.action p.stream) (λ p. Q p × L p.field p.action p.stream) S f
with-leads {P} {Q} {S} {K} {L} {f} h k = record { leads = λ p r m. both (f p) (h.leads p r m.0) (k.led p m.1) }
  where
    both : (q : Progress) → Lands Q S q → L q.field q.action q.stream → Lands (λ p. Q p × L p.field p.action p.stream) S q
    both q (Runs r x) y = Runs r (x, y)
    both q (Rests r x) y = Rests r x

-- The second fact is a premise of the first.
joined-leads : {P Q S : Progress → Type 0} {K L : Field → Action → Stream → Type 0} {f : Phase} → Leads (λ p. P p × K p.field p.action p.stream) Q S f → steps.Leads K L f
    → Leads (λ p. P p × K p.field p.action p.stream) (λ p. Q p × L p.field p.action p.stream) S f
joined-leads {P} {Q} {S} {K} {L} {f} h k = record { leads = λ p r m. both (f p) (h.leads p r m) (k.led p m.1) }
  where
    both : (q : Progress) → Lands Q S q → L q.field q.action q.stream → Lands (λ p. Q p × L p.field p.action p.stream) S q
    both q (Runs r x) y = Runs r (x, y)
    both q (Rests r x) y = Rests r x

-- Residual damage after an act

past-conditions : (b : Bool) (u s : Side) (change : ActiveConditions → ActiveConditions) → Bland change → (f : Field) (es : List Event) → Past b u f es → Past b u (changed_conditions s change f) es
past-conditions b u s change h f es m = record { even = even-conditions s change h f _ m.even; first = m.first }

-- What is known of a hit on itself that no event has told of
pub record Been (R : ℕ → Type 0) (f : Field) (es : List Event) : Type 0 where
  pub even : Even f (settled_by 0 (told_by es))
  pub waits : R (told_by es).may_hit_itself

-- A member that has fallen may have worse poison than was told.
pub record Spent (R : ℕ → Type 0) (f : Field) (es : List Event) : Type 0 where
  pub loosely : Loosely f (settled_by 0 (told_by es))
  pub waits : R (told_by es).may_hit_itself

-- Poison has become worse, and no event has told so.
record Ailing (R : ℕ → Type 0) (s : Side) (f : Field) (es : List Event) : Type 0 where
  before : Field
  been : Been R before es
  is : changed_conditions s with_worse_poison before ≡ f

abbrev Lives : Side → Field → Type 0
Lives s f = is_living (member_in s f) ≡ true

abbrev Lately : (ℕ → Type 0) → Side → Field → List Event → Type 0
Lately R s f es = Been R f es ⊎ (Ailing R s f es × (is_living (member_in s f) ≡ false))

out-before : (s : Side) (f : Field) → BothOut (changed_conditions s with_worse_poison f) → BothOut f
unfolding changed_active changed_conditions
out-before One f o = record { one = record { placed = o.one.placed; within = o.one.within }; two = o.two }
out-before Two f o = record { one = o.one; two = record { placed = o.two.placed; within = o.two.within } }

lives-worse : (s : Side) (f : Field) → Lives s f → Lives s (changed_conditions s with_worse_poison f)
unfolding changed_active changed_conditions
lives-worse One f l = l
lives-worse Two f l = l

heals-worse : (s : Side) (change : Member → Member) (f : Field)
    → changed_conditions s with_worse_poison (changed_member (other s) change f) ≡ changed_member (other s) change (changed_conditions s with_worse_poison f)
unfolding changed_active changed_conditions changed_member
heals-worse One change f = refl
heals-worse Two change f = refl

other-kept : (s : Side) (change : Member → Member) (f : Field) → member_in s (changed_member (other s) change f) ≡ member_in s f
unfolding changed_member
other-kept One change f = refl
other-kept Two change f = refl

-- The amount is not 0.
times-positive : (o : Option ℕ) → 0 < times_poisoned (one_more o)
times-positive None = omega arith
times-positive (Some n) = omega arith

worse-positive : (s : Side) (f : Field) → 0 < residual_in s (changed_conditions s with_worse_poison f)
unfolding changed_active changed_conditions with_worse_poison
worse-positive One f = mul-pos (omega arith) (times-positive f.one.active.conditions.bad_poison)
worse-positive Two f = mul-pos (omega arith) (times-positive f.two.active.conditions.bad_poison)

hurt-tale : (s : Side) (source : DamageSource) → is_residual source ≡ true → (amount : ℕ) (f : Field) (es : List Event) → BothOut f → Even f (settled_by 0 (told_by es))
    → let g : Field = changed_member s (hurt_by amount) (changed_conditions s with_worse_poison f) in Tale Nothing_more g (es ++ events.Damage (who_in s g) (health_in s g) source ∷ [])
unfolding takes_in
hurt-tale s source r amount f es o m =
    let g : Field = changed_member s (hurt_by amount) (changed_conditions s with_worse_poison f) in
    let q : Public = settled_by 0 (told_by es) in
    let h : Health = health_in s g in
    acted-tale Nothing_more 0 g es (events.Damage (who_in s g) h source) refl (even-hurt s source r h.hp amount f q o m) (pending-out s (hurt_to source h.hp) q) tt

not-both : (a b : Bool) → a ≡ true → b ≡ true → (a && b) ≡ false → ⊥
not-both true true x y e = true≢false e
not-both true false x y e = true≢false (sym y)
not-both false b x y e = true≢false (sym x)

and-second : (a b : Bool) → a ≡ true → (a && b) ≡ false → b ≡ false
and-second true b x e = e
and-second false b x e = absurd (true≢false (sym x))

module _ {R : ℕ → Type 0} (free : R 0) where
  tale-been : (f : Field) (es : List Event) → Tale Nothing_more f es → Been R f es
  tale-been f es m = record { even = even-quiet 0 f (told_by es) m.quiet m.even; waits = subst R (sym m.quiet) free }

  ails-been : (s : Side) (source : DamageSource) → is_residual source ≡ true → (amount : ℕ) (f : Field) (es : List Event) → BothOut f → Ailing R s f es
      → let g : Field = changed_member s (hurt_by amount) f in Been R g (es ++ events.Damage (who_in s g) (health_in s g) source ∷ [])
  ails-been s source r amount f es o m =
      let g : Field → Field = changed_member s (hurt_by amount) in
      subst (λ (x : Field). Been R (g x) (es ++ events.Damage (who_in s (g x)) (health_in s (g x)) source ∷ [])) m.is
      (tale-been _ _ (hurt-tale s source r amount m.before es (out-before s m.before (subst BothOut (sym m.is) o)) m.been.even))

  heals-lately : (s : Side) (amount : ℕ) (f : Field) (es : List Event) → Lately R s f es
      → let g : Field = changed_member (other s) (healed_by amount) f in Lately R s g (es ++ events.Heal (who_in (other s) g) (health_in (other s) g) ∷ [])
  unfolding healed_by
  heals-lately s amount f es (inl m) = inl (tale-been _ _ (dull-tale 0 _ es _ refl refl (even-member (other s) (healed_by amount) (λ k. refl) f _ m.even)))
  heals-lately s amount f es (inr m) =
      let h : Field → Field = changed_member (other s) (healed_by amount) in
      inr (
        record {
          before = h m.0.before;
          been = tale-been _ _ (dull-tale 0 _ es _ refl refl (even-member (other s) (healed_by amount) (λ k. refl) m.0.before _ m.0.been.even));
          is = heals-worse s (healed_by amount) m.0.before ∙ ap h m.0.is;
        },
        ap is_living (other-kept s (healed_by amount) f) ∙ m.1,
      )

pub been-spent : {R : ℕ → Type 0} (f : Field) (es : List Event) → Been R f es → Spent R f es
been-spent f es m = record { loosely = even-loosely f _ m.even; waits = m.waits }

lately-spent : {R : ℕ → Type 0} (s : Side) (f : Field) (es : List Event) → Lately R s f es → Spent R f es
lately-spent s f es (inl m) = been-spent f es m
lately-spent s f es (inr m) = record {
  loosely = subst (λ (x : Field). Loosely x (settled_by 0 (told_by es))) m.0.is
      (loosely-worse s m.0.before _ (ap (λ (x : Field). is_living (member_in s x)) m.0.is ∙ m.1) m.0.been.even);
  waits = m.0.been.waits;
}

abbrev Hurts : Sizes → List Event → (ℕ → Type 0) → Side → ℕ → Progress → Type 0
Hurts n pre R s amount p = In n pre (λ f es. Ailing R s f es × Lives s f) p × (0 < amount)

hurts : {n : Sizes} {pre : List Event} {R : ℕ → Type 0} (s : Side) (amount : ℕ) (p : Progress) → In n pre (λ f es. Ailing R s f es × Lives s f) p × (residual_in s p.field ≡ amount) → Hurts n pre R s amount p
hurts s amount p m = (m.0, subst (λ (a : ℕ). 0 < a) (ap (residual_in s) m.0.is.0.is ∙ m.1) (worse-positive s m.0.is.0.before))

module _ {n : Sizes} {pre : List Event} {S : Progress → Type 0} {R : ℕ → Type 0} (free : R 0) where
  -- Poison or a burn

  worsens-living : (s : Side) → Leads (In n pre (λ f es. Been R f es × Lives s f)) (In n pre (λ f es. Ailing R s f es × Lives s f)) S (worsen s)
  unfolding worsen
  worsens-living s = at-conditions s with_worse_poison (λ f es o m. (record { before = f; been = m.0; is = refl }, lives-worse s f m.1))

  loses-living : (s : Side) (source : DamageSource) → is_residual source ≡ true → (amount : ℕ) → Leads (Hurts n pre R s amount) (In n pre (Been R)) S (lose_hp s source amount)
  unfolding lose_hp
  loses-living s source r amount = choose-sees _
      (before-leads (λ p m. m.0.0) (at-told {K = λ f es. Ailing R s f es × Lives s f} {L = Been R} (changed_member s (hurt_by amount)) (λ f. events.Damage (who_in s f) (health_in s f) source) (begun-member s (hurt_by amount))
      (λ f es o m. ails-been free s source r amount f es o m.0)))
      (before-leads (λ p m. absurd (not-both _ _ (lt-ltb 0 amount m.0.1) m.0.0.is.1 m.1)) stay-tells)

  suffers-living : (s : Side) (source : DamageSource) → is_residual source ≡ true → Leads (In n pre (λ f es. Been R f es × Lives s f)) (In n pre (Been R)) S (suffer s source)
  unfolding suffer
  suffers-living s source r = worsens-living s ⊳ given-sees (λ p. residual_in s p.field) (λ amount. before-leads (hurts s amount) (loses-living s source r amount))

  status-been : (s : Side) (status : Status) → Leads (In n pre (λ f es. Been R f es × Lives s f)) (In n pre (Been R)) S (suffer_status s status)
  unfolding suffer_status
  status-been s Poisoned = suffers-living s sources.Poison refl
  status-been s Burned = suffers-living s sources.Burn refl
  status-been s _ = before-leads (at-weak (λ f es m. m.0)) stay-tells

  -- Leech Seed, also of a member that has just fallen

  worsens-been : (s : Side) → Leads (In n pre (Been R)) (In n pre (Ailing R s)) S (worsen s)
  unfolding worsen
  worsens-been s = at-conditions s with_worse_poison (λ f es o m. record { before = f; been = m; is = refl })

  loses-been : (s : Side) (amount : ℕ) → Leads (λ p. In n pre (Ailing R s) p × (0 < amount)) (In n pre (Lately R s)) S (lose_hp s sources.LeechSeed amount)
  unfolding lose_hp
  loses-been s amount = choose-sees _
      (before-leads (λ p m. m.0.0) (at-told {K = Ailing R s} {L = Lately R s} (changed_member s (hurt_by amount)) (λ f. events.Damage (who_in s f) (health_in s f) sources.LeechSeed) (begun-member s (hurt_by amount))
      (λ f es o m. inl (ails-been free s sources.LeechSeed refl amount f es o m))))
      (before-leads {Q = In n pre (Lately R s)} (λ p m. record { begun = m.0.0.begun; is = inr (m.0.0.is, and-second _ _ (lt-ltb 0 amount m.0.1) m.1) }) stay-tells)

  gains-lately : (s : Side) (amount : ℕ) → Leads (In n pre (Lately R s)) (In n pre (Lately R s)) S (gain_hp (other s) amount)
  unfolding gain_hp
  gains-lately s amount = choose-tells _ (at-told (changed_member (other s) (healed_by amount)) (λ f. events.Heal (who_in (other s) f) (health_in (other s) f)) (begun-member (other s) (healed_by amount))
      (λ f es o m. heals-lately free s amount f es m)) stay-tells

  seeds-been : (s : Side) → Leads (In n pre (Been R)) (In n pre (Spent R)) S (suffer_seed s)
  unfolding suffer_seed drained_by
  seeds-been s = worsens-been s ⊳ given-sees (λ p. residual_in s p.field) (λ amount. before-leads
      (λ p m. (m.0, subst (λ (a : ℕ). 0 < a) (ap (residual_in s) m.0.is.is ∙ m.1) (worse-positive s m.0.is.before)))
      (loses-been s amount ⊳ after-leads (at-weak (lately-spent s)) (gains-lately s amount)))

  pub residual-been : (s : Side) → Leads (In n pre (Been R)) (In n pre (Spent R)) S (residual s)
  unfolding residual
  residual-been s = choose-sees _
      (before-leads (λ p m. record { begun = m.0.begun; is = (m.0.is, m.1) }) (given-tells _ (status-been s) ⊳ choose-tells _ (seeds-been s) (after-leads (at-weak been-spent) stay-tells)))
      (before-leads (λ p m. m.0) (after-leads (at-weak been-spent) stay-tells))

-- After an act of side u: b says whether it was the first.
abbrev pub Free : Bool → Side → ℕ → Type 0
Free b u k = b ≡ true → k ≢ side_number (other u)

-- After a switch nobody may have hit itself.
abbrev pub Silent : ℕ → Type 0
Silent k = k ≡ 0

-- The end of a turn

abbrev pub Settling : Field → List Event → Type 0
Settling f es = Loosely f (settled_by 0 (told_by es)) ⊎ (is_fault f.outcome ≡ true)

pub over-settling : (b : Bool) (s : Side) (f : Field) (es : List Event) → Over b s f es → Settling f es
over-settling b s f es (inl m) = inl (even-loosely f _ m.even)
over-settling b s f es (inr m) = inr m

pub past-settling : (b : Bool) (s : Side) (f : Field) (es : List Event) → Past b s f es → Settling f es
past-settling b s f es m = inl (even-loosely f _ m.even)

pub spent-settling : {R : ℕ → Type 0} (f : Field) (es : List Event) → Spent R f es → Settling f es
spent-settling f es m = inl m.loosely

pub now-settling : {n : Sizes} {pre : List Event} (p : Progress) → Now plain_story n pre p → In n pre Settling p
unfolding deeding
now-settling p m = record { begun = m.begun; is = inl (even-loosely p.field _ (tale-past false One p.field _ m.exact).even) }

pub may-settling : {n : Sizes} {pre : List Event} (p : Progress) → MayFall plain_story n pre p → In n pre Settling p
unfolding deeding
may-settling p m = record { begun = m.begun; is = inl (even-loosely p.field _ (tale-past false One p.field _ m.loose).even) }

pub loose-settling : {n : Sizes} {pre : List Event} (p : Progress) → In n pre LooseTale p → In n pre Settling p
loose-settling p m = record { begun = m.begun; is = inl (loosely-quiet 0 p.field _ m.is.quiet m.is.loosely) }

faults-over : (o : Outcome) → is_over o ≡ false → is_fault o ≡ true → ⊥
faults-over (outcomes.Fault k) e h = true≢false e
faults-over outcomes.Ongoing e h = true≢false (sym h)
faults-over outcomes.WinOne e h = true≢false (sym h)
faults-over outcomes.WinTwo e h = true≢false (sym h)
faults-over outcomes.Tie e h = true≢false (sym h)

uncut-over : (p : Progress) → is_cut p ≡ false → is_over p.field.outcome ≡ false
uncut-over p e = or-right (has_fallen One p || has_fallen Two p) (is_over p.field.outcome) e

not-false : (c : Bool) → not c ≡ false → c ≡ true
not-false true e = refl
not-false false e = absurd (true≢false e)

pub uncut-lives : (s : Side) (p : Progress) → is_cut p ≡ false → is_living (member_in s p.field) ≡ true
uncut-lives One p e = not-false _ (or-left (has_fallen One p) (has_fallen Two p) (or-left (has_fallen One p || has_fallen Two p) (is_over p.field.outcome) e))
uncut-lives Two p e = not-false _ (or-right (has_fallen One p) (has_fallen Two p) (or-left (has_fallen One p || has_fallen Two p) (is_over p.field.outcome) e))

pub uncut-past : {n : Sizes} {pre : List Event} (b : Bool) (s : Side) (p : Progress) → is_cut p ≡ false → In n pre (Over b s) p → In n pre (Past b s) p
uncut-past {n} {pre} b s p e m = record { begun = m.begun; is = by m.is }
  where
    by : Over b s p.field (pre ++ p.events) → Past b s p.field (pre ++ p.events)
    by (inl k) = k
    by (inr k) = absurd (faults-over p.field.outcome (uncut-over p e) k)

pub uncut-spent : {n : Sizes} {pre : List Event} (b : Bool) (s : Side) (p : Progress) → is_cut p ≡ false → In n pre (Spent (Free b s)) p → In n pre (Past b s) p
uncut-spent b s p e m = record { begun = m.begun; is = record { even = loosely-even p.field _ (uncut-lives One p e) (uncut-lives Two p e) m.is.loosely; first = m.is.waits } }

pub uncut-now : {n : Sizes} {pre : List Event} (p : Progress) → is_cut p ≡ false → In n pre (Spent Silent) p → Now plain_story n pre p
unfolding deeding
uncut-now {n} {pre} p e m = record {
  begun = m.begun;
  exact = record {
    even = loosely-even p.field _ (uncut-lives One p e) (uncut-lives Two p e) (quiet-loosely 0 p.field (told_by (pre ++ p.events)) m.is.waits m.is.loosely);
    quiet = m.is.waits;
    more = tt;
  };
}

-- The other side's act follows.
pub next-opens : {n : Sizes} {pre : List Event} (s : Side) (p : Progress) → is_cut p ≡ false → In n pre (Past true s) p → In n pre (Opens false (other s)) p
next-opens s p e m = record { begun = m.begun; is = record { even = m.is.even; free = m.is.first refl; first = λ h. absurd (true≢false (sym h)); lives = uncut-lives (other s) p e } }

pub now-opens : {n : Sizes} {pre : List Event} (b : Bool) (s : Side) (p : Progress) → is_living (member_in s p.field) ≡ true → Now plain_story n pre p → In n pre (Opens b s) p
unfolding deeding
now-opens b s p l m = record { begun = m.begun; is = tale-opens b s p.field _ l m.exact }

-- The parts of a turn

abbrev pub Ends : Sizes → List Event → Progress → Type 0
Ends n pre = In n pre Settling

abbrev pub Planned : Terms → (Side → Plan) → Progress → Type 0
Planned t plan p = IsPlanned t plan p.field p.action p.stream

-- A part, and the rest unless it cuts them off
pub then-part : (t : Terms) {P W E : Progress → Type 0} (part : Part) (rest : List Part) → Leads P W E (do_part (ruling_of t) part) → ((p : Progress) → W p → E p)
    → Leads (λ p. W p × (is_cut p ≡ false)) E E (do_parts (ruling_of t) rest) → Leads P E E (do_parts (ruling_of t) (part ∷ rest))
unfolding do_parts
then-part t part rest h cut l = h ⊳ watching.choose-sees is_cut (before-leads (λ p m. cut p m.0) stay-tells) l

module _ (t : Terms) {n : Sizes} {pre : List Event} where
  pub begin-in : {K : Field → List Event → Type 0} {S : Progress → Type 0} (s : Side) → Leads (In n pre K) (In n pre K) S (begin s)
  unfolding begin on_action
  begin-in s = record { leads = λ p r m. Runs r m }

  acts-part : (plan : Side → Plan) (b : Bool) (s : Side) (pick : Pick) → FitsPick pick (plan s) → IdleIsQuiet pick (plan s)
      → Leads (λ p. In n pre (Opens b s) p × Planned t plan p) (In n pre (Over b s)) (In n pre (Over b s)) (do_part (ruling_of t) (Acts s pick))
  unfolding do_part
  acts-part plan b s pick fits idle = with-keeps (begin-in s) (begin-keeps t plan s)
      ⊳ choose-tells _ (before-leads (λ p m. m.0) (after-leads (at-weak (λ f es m. inl (opens-past b s f es m))) stay-tells)) (act-deeds t plan b s pick fits idle)

  pub act-part : (plan : Side → Plan) (b : Bool) (s : Side) (pick : Pick) → FitsPick pick (plan s) → IdleIsQuiet pick (plan s)
      → Leads (λ p. In n pre (Opens b s) p × Planned t plan p) (λ p. In n pre (Over b s) p × Planned t (with_plan s Any plan) p) (Ends n pre) (do_part (ruling_of t) (Acts s pick))
  act-part plan b s pick fits idle = rests-leads (at-weak (λ f es m. over-settling b s f es m)) (joined-leads (acts-part plan b s pick fits idle) (act_part t plan s pick fits))

  pub ends-deeds : {S : Progress → Type 0} (b : Bool) (s : Side) → Leads (In n pre (Past b s)) (Ends n pre) S (do_parts (ruling_of t) [])
  unfolding do_parts end_turn end_spent_trapping
  ends-deeds b s = after-leads (at-weak (λ f es m. past-settling b s f es m))
      (choose-tells _ (at-conditions One without_trapping (λ f es o m. past-conditions b s One without_trapping trapping-bland f es m)) stay-tells
      ⊳ choose-tells _ (at-conditions Two without_trapping (λ f es o m. past-conditions b s Two without_trapping trapping-bland f es m)) stay-tells)

  pub suffers-part : {S : Progress → Type 0} (b : Bool) (u s : Side) → Leads (In n pre (Past b u)) (In n pre (Spent (Free b u))) S (do_part (ruling_of t) (Suffers s))
  unfolding do_part
  suffers-part b u s = before-leads (at-weak (λ f es m. record { even = m.even; waits = m.first })) (residual-been {R = Free b u} (λ h e. zero-not (other u) e) s)

  -- The last act of a turn
  last-act : (plan : Side → Plan) (b : Bool) (s : Side) (pick : Pick) → FitsPick pick (plan s) → IdleIsQuiet pick (plan s)
      → Leads (λ p. In n pre (Opens b s) p × Planned t plan p) (Ends n pre) (Ends n pre) (do_parts (ruling_of t) (Acts s pick ∷ Suffers s ∷ []))
  last-act plan b s pick fits idle = then-part t {W = In n pre (Over b s)} (Acts s pick) (Suffers s ∷ []) (after-leads (λ p m. m.0) (act-part plan b s pick fits idle)) (at-weak (λ f es m. over-settling b s f es m))
      (then-part t {W = In n pre (Spent (Free b s))} (Suffers s) [] (before-leads (λ p m. uncut-past b s p m.1 m.0) (suffers-part b s s)) (at-weak spent-settling)
      (before-leads (λ p m. uncut-spent b s p m.1 m.0) (ends-deeds b s)))

  both-deeds : (plan : Side → Plan) (one two : Pick) → ((s : Side) → FitsPick (of_side s one two) (plan s)) → ((s : Side) → IdleIsQuiet (of_side s one two) (plan s)) → (s : Side)
      → Leads (λ p. In n pre (Opens true s) p × Planned t plan p) (Ends n pre) (Ends n pre) (do_parts (ruling_of t) (both_act one two s))
  both-deeds plan one two fits idle s =
      let next : Side → Plan = with_plan s Any plan in
      let same : next (other s) ≡ plan (other s) = with_plan-other s Any plan in
      then-part t {W = λ p. In n pre (Over true s) p × Planned t next p} (Acts s (of_side s one two)) _ (act-part plan true s (of_side s one two) (fits s) (idle s)) (λ p m. at-weak (λ f es k. over-settling true s f es k) p m.0)
      (then-part t {W = λ p. In n pre (Spent (Free true s)) p × Planned t next p} (Suffers s) _
      (before-leads (λ p m. (uncut-past true s p m.1 m.0.0, m.0.1)) (with-keeps (suffers-part true s s) (suffers_part t next s))) (λ p m. at-weak spent-settling p m.0)
      (before-leads (λ p m. (next-opens s p m.1 (uncut-spent true s p m.1 m.0.0), m.0.1))
      (last-act next false (other s) (of_side (other s) one two) (subst (λ (x : Plan). FitsPick (of_side (other s) one two) x) (sym same) (fits (other s)))
      (subst (λ (x : Plan). IdleIsQuiet (of_side (other s) one two) x) (sym same) (idle (other s))))))

  -- Switches

  pub send-part : (s : Side) (place : ℕ) → facts.Fits n s place → Leads (Now plain_story n pre) (Now plain_story n pre) (Ends n pre) (do_part (ruling_of t) (Sends s place))
  unfolding do_part
  send-part s place fits = rests-leads may-settling (begin-tells s ⊳ send_out-tells plain-switches s place fits)

  pub hurts-part : (s : Side) → Leads (Now plain_story n pre) (In n pre (Spent Silent)) (Ends n pre) (do_part (ruling_of t) (Suffers s))
  unfolding do_part deeding
  hurts-part s = before-leads (λ p m. record { begun = m.begun; is = record { even = even-quiet 0 p.field _ m.exact.quiet m.exact.even; waits = m.exact.quiet } }) (residual-been {R = Silent} refl s)

  switch-deeds : (plan : Side → Plan) (s : Side) (pick : Pick) (place : ℕ) → FitsPick pick (plan s) → IdleIsQuiet pick (plan s) → plan (other s) ≡ Any → facts.Fits n (other s) place
      → Leads (λ p. Now plain_story n pre p × (Planned t plan p × InRange (other s) place p.field)) (Ends n pre) (Ends n pre) (do_parts (ruling_of t) (switch_then_act s pick place))
  switch-deeds plan s pick place fits idle any room =
      then-part t {W = λ p. Now plain_story n pre p × Planned t plan p} (Sends (other s) place) _
      (with-leads {K = λ f a w. IsPlanned t plan f a w × InRange (other s) place f} (send-part (other s) place room) (send_part t plan (other s) place any)) (λ p m. now-settling p m.0)
      (then-part t {W = λ p. In n pre (Spent Silent) p × Planned t plan p} (Suffers (other s)) _
      (before-leads (λ p m. m.0) (with-keeps (hurts-part (other s)) (suffers_part t plan (other s)))) (λ p m. at-weak spent-settling p m.0)
      (before-leads (λ p m. (now-opens false s p (uncut-lives s p m.1) (uncut-now p m.1 m.0.0), m.0.1)) (last-act plan false s pick fits idle)))

  now-ends : {S : Progress → Type 0} → Leads (Now plain_story n pre) (Ends n pre) S (do_parts (ruling_of t) [])
  unfolding deeding
  now-ends = before-leads (λ p m. record { begun = m.begun; is = tale-past false One p.field _ m.exact }) (ends-deeds false One)

  both_switch-deeds : (one two : ℕ) → facts.Fits n One one → facts.Fits n Two two → Leads (Now plain_story n pre) (Ends n pre) (Ends n pre) (do_parts (ruling_of t) (both_switch one two))
  both_switch-deeds one two a c =
      then-part t (Sends One one) _ (send-part One one a) now-settling
      (then-part t (Suffers One) _ (before-leads (λ p m. m.0) (hurts-part One)) (at-weak spent-settling)
      (then-part t (Sends Two two) _ (before-leads (λ p m. uncut-now p m.1 m.0) (send-part Two two c)) now-settling
      (then-part t (Suffers Two) [] (before-leads (λ p m. m.0) (hurts-part Two)) (at-weak spent-settling)
      (before-leads (λ p m. uncut-now p m.1 m.0) now-ends))))

-- Picks

never : (b : Bool) → (b ≡ true → false ≡ true) → b ≡ false
never true h = absurd (true≢false (sym (h refl)))
never false h = refl

plain-free : (u : Underway) → IsUnderway effects.DamageOnly u → must_continue u ≡ false
plain-free u h =
    let a = never u.recharge h.recharge_tied in
    let b = never u.rage h.rage_tied in
    let c = never (is_some u.thrash) h.thrash_tied in
    let d = never u.charging h.charging_tied in
    let e = never (is_some u.bide) h.bide_tied in
    let f = never (is_some u.trapping) h.trapping_tied in
    rw (a, b, c, d, e, f) refl

pub record Chosen (t : Terms) (plan : Side → Plan) (s : Side) (pick : Pick) (f : Field) (a : Action) (w : Stream) : Type 0 where
  pub next : Side → Plan
  pub planned : IsPlanned t next f a w
  pub fits : FitsPick pick (next s)
  pub idle : IdleIsQuiet pick (next s)
  pub rest : next (other s) ≡ plan (other s)

pub pick-chosen : {t : Terms} (plan : Side → Plan) (s : Side) (j : ℕ) (f : Field) (a : Action) (w : Stream) → PlanOf (choices.Move j) (plan s) → IsPlanned t plan f a w
    → Chosen t plan s (pick_in j s f) f a w
pick-chosen plan s (suc k) f a w fits h = record { next = plan; planned = h; fits = (fits.0, fits.1, λ e. cc); idle = λ e. absurd (true≢false (sym e)); rest = refl }
pick-chosen {t} plan s zero f a w fits h = by (must_continue (underway_in s f)) (sleeps_or_freezes (status_in s f)) (is_some (underway_in (other s) f).trapping) refl
  where
    by : (b c d : Bool) → must_continue (underway_in s f) ≡ b → Chosen t plan s (if b then Continue else if c then Idle else if d then Held else Use Struggle) f a w
    by true c d e =
        let effect = effect_of (active_in s f).current_move (member_in s f).moves in
        record {
          next = with_plan s (Doing effect) plan;
          planned = replanned s (Doing effect) f a w refl h;
          fits = (
            effect,
            with_plan-is s (Doing effect) plan,
            λ plain. absurd (true≢false (sym e ∙ plain-free (underway_in s f)
                (subst (λ (x : Effect). IsUnderway x (underway_in s f)) plain (party-valid s f h.field).active.conditions.underway))),
          );
          idle = λ i. absurd (true≢false (sym i));
          rest = with_plan-other s (Doing effect) plan;
        }
    by false true d e =
        let effect = effect_of Struggle (member_in s f).moves in
        record {
          next = with_plan s (Plans Struggle effect) plan;
          planned = replanned s (Plans Struggle effect) f a w (tt, refl, free-plain s f h.field e) h;
          fits = tt;
          idle = λ i. (effect, with_plan-is s (Plans Struggle effect) plan);
          rest = with_plan-other s (Plans Struggle effect) plan;
        }
    by false false true e = record { next = plan; planned = h; fits = tt; idle = λ i. absurd (true≢false (sym i)); rest = refl }
    by false false false e =
        let effect = effect_of Struggle (member_in s f).moves in
        record {
          next = with_plan s (Plans Struggle effect) plan;
          planned = replanned s (Plans Struggle effect) f a w (tt, refl, free-plain s f h.field e) h;
          fits = (effect, with_plan-is s (Plans Struggle effect) plan, λ none. cc);
          idle = λ i. absurd (true≢false (sym i));
          rest = with_plan-other s (Plans Struggle effect) plan;
        }

-- A turn

-- Nobody may have hit itself, and both active members live.
pub record Stood (f : Field) (es : List Event) : Type 0 where
  pub tale : Tale Nothing_more f es
  pub lives : (s : Side) → is_living (member_in s f) ≡ true

lives-conditions : (u : Side) (change : ActiveConditions → ActiveConditions) (f : Field) → ((s : Side) → is_living (member_in s f) ≡ true) → (s : Side) → is_living (member_in s (changed_conditions u change f)) ≡ true
unfolding changed_active changed_conditions
lives-conditions One change f l One = l One
lives-conditions One change f l Two = l Two
lives-conditions Two change f l One = l One
lives-conditions Two change f l Two = l Two

lives-picked : (u : Side) (used : UsedMove) (f : Field) → ((s : Side) → is_living (member_in s f) ≡ true) → (s : Side) → is_living (member_in s (changed_active u (with_picked_move used) f)) ≡ true
unfolding changed_active with_picked_move
lives-picked One used f l One = l One
lives-picked One used f l Two = l Two
lives-picked Two used f l One = l One
lives-picked Two used f l Two = l Two

flinch-bland : Bland without_flinch
unfolding without_flinch
flinch-bland c = refl

picked-tale : (u : Side) (used : UsedMove) (f : Field) (es : List Event) → Tale Nothing_more f es → Tale Nothing_more (changed_active u (with_picked_move used) f) es
unfolding with_picked_move
picked-tale u used f es m = tale-active nothing-lasts u (with_picked_move used) (λ a. refl) f es m

begun-picked : {n : Sizes} (u : Side) (used : UsedMove) (f : Field) → Begun n f → Begun n (changed_active u (with_picked_move used) f)
unfolding with_picked_move
begun-picked u used f b = begun-active u (with_picked_move used) f (λ a. refl) b

pub stood-opens : {n : Sizes} {pre : List Event} (b : Bool) (s : Side) (p : Progress) → In n pre Stood p → In n pre (Opens b s) p
stood-opens b s p m = record { begun = m.begun; is = tale-opens b s p.field _ (m.is.lives s) m.is.tale }

pub stood-now : {n : Sizes} {pre : List Event} (p : Progress) → In n pre Stood p → Now plain_story n pre p
unfolding deeding
stood-now p m = record { begun = m.begun; exact = m.is.tale }

pub in-range : {n : Sizes} (s : Side) (place : ℕ) (f : Field) → Begun n f → facts.Fits n s place → InRange s place f
in-range {n} s place f b fits = let high = fits-now n f s place b.sized fits in (omega (arith, fits.0), omega (arith, fits.0, high))

pub chosen-fits : {t : Terms} (plan : Side → Plan) (one two : Pick) (f : Field) (a : Action) (w : Stream) (first : Chosen t plan One one f a w) (second : Chosen t first.next Two two f a w)
    → ((s : Side) → FitsPick (of_side s one two) (second.next s)) × ((s : Side) → IdleIsQuiet (of_side s one two) (second.next s))
chosen-fits plan one two f a w first second = (fits, idle)
  where
    fits : (s : Side) → FitsPick (of_side s one two) (second.next s)
    fits One = subst (λ (x : Plan). FitsPick one x) (sym second.rest) first.fits
    fits Two = second.fits

    idle : (s : Side) → IdleIsQuiet (of_side s one two) (second.next s)
    idle One = subst (λ (x : Plan). IdleIsQuiet one x) (sym second.rest) first.idle
    idle Two = second.idle

module _ (t : Terms) {n : Sizes} {pre : List Event} where
  pub picks : {S : Progress → Type 0} (s : Side) (pick : Pick) → Leads (In n pre Stood) (In n pre Stood) S (set_picked s pick)
  unfolding set_picked on_active
  picks s pick = given-tells _ (λ a. at-field (changed_active s (with_picked_move _)) (begun-picked s _)
      (λ f es o m. record { tale = picked-tale s _ f es m.tale; lives = lives-picked s _ f m.lives }))

  pub flinches : {S : Progress → Type 0} (s : Side) → Leads (In n pre Stood) (In n pre Stood) S (on_conditions s without_flinch)
  flinches s = at-conditions s without_flinch (λ f es o m. record { tale = tale-conditions nothing-lasts s without_flinch flinch-bland f es m.tale; lives = lives-conditions s without_flinch f m.lives })

  draw-deeds : {plan : Side → Plan} {f : ℕ → Phase} → ((x : ℕ) → Leads (λ p. In n pre Stood p × Planned t plan p) (Ends n pre) (Ends n pre) (f x))
      → Leads (λ p. In n pre Stood p × Planned t plan p) (Ends n pre) (Ends n pre) (draw f)
  unfolding draw
  draw-deeds h = record { leads = λ p r m. (h (byte_at p.stream p.drawn)).leads (record p { drawn = p.drawn + 1 }) r m }

  order-deeds : {plan : Side → Plan} (begins : Side → Phase) → ((s : Side) → Leads (λ p. In n pre Stood p × Planned t plan p) (Ends n pre) (Ends n pre) (begins s))
      → Leads (λ p. In n pre Stood p × Planned t plan p) (Ends n pre) (Ends n pre) (in_order begins)
  unfolding in_order in_order_of_rank in_order_of_speed toss
  order-deeds begins h = given-tells _ (λ x. given-tells _ (λ y.
      choose-tells _ (h One) (choose-tells _ (h Two) (choose-tells _ (h One) (choose-tells _ (h Two) (draw-deeds (λ b. choose-tells _ (h One) (h Two))))))))

  both_pick-deeds : (plan : Side → Plan) (one two : Pick) → ((s : Side) → FitsPick (of_side s one two) (plan s)) → ((s : Side) → IdleIsQuiet (of_side s one two) (plan s))
      → Leads (λ p. In n pre Stood p × Planned t plan p) (Ends n pre) (Ends n pre) (both_pick (ruling_of t) one two)
  unfolding both_pick
  both_pick-deeds plan one two fits idle = with-keeps (picks One one) (set_picked-keeps t plan One one (fits One)) ⊳ with-keeps (picks Two two) (set_picked-keeps t plan Two two (fits Two))
      ⊳ order-deeds (λ s. do_parts (ruling_of t) (both_act one two s)) (λ s. before-leads (λ p m. (stood-opens true s p m.0, m.1)) (both-deeds t plan one two fits idle s))

  one_picks-deeds : (plan : Side → Plan) (s : Side) (pick : Pick) (place : ℕ) → FitsPick pick (plan s) → IdleIsQuiet pick (plan s) → plan (other s) ≡ Any → facts.Fits n (other s) place
      → Leads (λ p. In n pre Stood p × Planned t plan p) (Ends n pre) (Ends n pre) (one_picks (ruling_of t) s pick place)
  unfolding one_picks
  one_picks-deeds plan s pick place fits idle any room = with-keeps (picks s pick) (set_picked-keeps t plan s pick fits)
      ⊳ before-leads (λ p m. (stood-now p m.0, (m.1, in-range (other s) place p.field m.0.begun room))) (switch-deeds t plan s pick place fits idle any room)

  play-deeds : (plan : Side → Plan) (x y : Choice) → PlanOf x (plan One) → PlanOf y (plan Two) → ChoiceFits n One x → ChoiceFits n Two y
      → Leads (λ p. In n pre Stood p × Planned t plan p) (Ends n pre) (Ends n pre) (play_turn (ruling_of t) x y)
  unfolding play_turn given
  play-deeds plan (choices.Move j) (choices.Move k) one two a b = record {
    leads = λ p r m.
        let first = pick-chosen plan One j p.field p.action p.stream one m.1 in
        let second = pick-chosen first.next Two k p.field p.action p.stream (subst (λ (z : Plan). PlanOf (choices.Move k) z) (sym first.rest) two) first.planned in
        let fit = chosen-fits plan (pick_in j One p.field) (pick_in k Two p.field) p.field p.action p.stream first second in
        (both_pick-deeds second.next (pick_in j One p.field) (pick_in k Two p.field) fit.0 fit.1).leads p r (m.0, second.planned);
  }
  play-deeds plan (choices.Move j) (choices.Switch place) one two a b = record {
    leads = λ p r m.
        let first = pick-chosen plan One j p.field p.action p.stream one m.1 in
        (one_picks-deeds first.next One (pick_in j One p.field) place first.fits first.idle (first.rest ∙ two) b).leads p r (m.0, first.planned);
  }
  play-deeds plan (choices.Switch place) (choices.Move k) one two a b = record {
    leads = λ p r m.
        let first = pick-chosen plan Two k p.field p.action p.stream two m.1 in
        (one_picks-deeds first.next Two (pick_in k Two p.field) place first.fits first.idle (first.rest ∙ one) a).leads p r (m.0, first.planned);
  }
  play-deeds plan (choices.Switch x) (choices.Switch y) one two a b = before-leads (λ p m. stood-now p m.0) (both_switch-deeds t x y a b)
  play-deeds plan _ _ one two a b = before-leads (λ p m. now-settling p (stood-now p m.0)) stay-tells

  pub turn-deeds : (x y : Choice) (p : Progress) → p.stopped ≡ false → In n pre Stood p → Sure t p.field p.action p.stream → Fits x One p.field → Fits y Two p.field → ChoiceFits n One x → ChoiceFits n Two y
      → Lands (Ends n pre) (Ends n pre) (turn (ruling_of t) x y p)
  unfolding turn
  turn-deeds x y p r m h one two a b =
      let plan : Side → Plan = both_plan x y p.field in
      let flinch : (s : Side) → Keeps (IsPlanned t plan) (on_conditions s without_flinch) = λ s. on_conditions-keeps s _ (conditions-spared (planned-sound t plan) s _ without_flinch-tame) in
      (with-keeps (flinches One) (flinch One) ⊳ with-keeps (flinches Two) (flinch Two)
      ⊳ play-deeds plan x y (both-plan_of x y p.field).0 (both-plan_of x y p.field).1 a b).leads p r (m, both-planned x y p.field p.action p.stream h one two)
