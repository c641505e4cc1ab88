-- No trapping is on when both sides have switched. After one side's switch none begins on that side, whatever the other
-- side does.
use Rattle.std.proofs.Common.{is_some, ◌≡◌}
use Rattle.std.proofs.lemmas.Bool.{false≢true}
use Rattle.gen1_layout.proofs.Words.{Bool, Field, None, Option, Progress, Side, Some, ap, changed_active, choose-false, choose-true, false, on_active, on_conditions, on_field, refl, stay, subst, sym, then-goes, true, ℕ, ◌∙◌, ◌▸◌}
use Rattle.gen1_tables.specs.declared.effect.Effect.TheVariants as effects
use Rattle.gen1_rolls.specs.Streams.{Stream}
use Rattle.gen1_stats.specs.declared.member.Status.{Status}
use Rattle.gen1_stats.specs.declared.member.Status.TheVariants.{Burned, Poisoned}
use Rattle.gen1_stats.specs.Members.{Member}
use Rattle.gen1_machine.specs.declared.event.DamageSource.{DamageSource}
use Rattle.gen1_machine.specs.declared.side.Side.TheVariants.{One, Two}
use Rattle.gen1_machine.specs.declared.side.UsedMove.TheVariants.{Nothing}
use Rattle.gen1_machine.specs.Conditions.{nothing_underway, with_worse_poison, without_trapping, ActiveConditions, Underway}
use Rattle.gen1_machine.specs.Sides.{other}
use Rattle.gen1_machine.specs.State.{changed_conditions, changed_member, member_at, member_in, party, underway_in, Terms}
use Rattle.gen1_machine.specs.Progress.{gain_hp, given, lose_hp, note, on_action, told, underway, unless_stopped, Action}
use Rattle.gen1_machine.specs.Action.{begin}
use Rattle.gen1_machine.specs.ResidualDamage.{drained_by, residual, suffer, suffer_seed, suffer_status, worsen}
use Rattle.gen1_machine.specs.Ruling.{Ruling}
use Rattle.gen1_machine.specs.SwitchingIn.{send_out, sent_out, with_sent_out}
use Rattle.gen1_machine.specs.Turn.{do_part, end_spent_trapping, end_turn, is_spent, Sends}
use Rattle.gen1_machine.specs.Plans.{with_plan, Any, IsPlanned, Plan, Plans}
use Rattle.gen1_machine.specs.Valid.{effect_of, IsUnderway}
use Rattle.gen1_machine.proofs.Keeps.{keeps_rules, Keeps, Spares}
use Rattle.gen1_machine.proofs.Sound.{planned-holds, replanned, with_plan-is}
use Rattle.gen1_machine.proofs.Steady.{with_penalty_of-leaves}
use Rattle.gen1_machine.proofs.ValidSteps.{with_plan-other}

-- Residual damage leaves what is underway

abbrev Stays : {A : Type 0} → (Underway → A) → A → Side → Field → Action → Stream → Type 0
Stays read x t f a w = read (underway_in t f) ≡ x

module _ {A : Type 0} (read : Underway → A) (x : A) (t : Side) where
  member-stays : (s : Side) (change : Member → Member) → Spares (Stays read x t) (changed_member s change)
  unfolding changed_member
  member-stays s change = record { spared = λ f a w h. by s t f h }
    where
      by : (s t : Side) (f : Field) → read (underway_in t f) ≡ x → read (underway_in t (changed_member s change f)) ≡ x
      by One One f h = h
      by One Two f h = h
      by Two One f h = h
      by Two Two f h = h

  poison-stays : (s : Side) → Spares (Stays read x t) (changed_conditions s with_worse_poison)
  unfolding changed_conditions changed_active with_worse_poison
  poison-stays s = record { spared = λ f a w h. by s t f h }
    where
      by : (s t : Side) (f : Field) → read (underway_in t f) ≡ x → read (underway_in t (changed_conditions s with_worse_poison f)) ≡ x
      by One One f h = h
      by One Two f h = h
      by Two One f h = h
      by Two Two f h = h

  ruleset stays_rules = (keeps_rules, member-stays, poison-stays)

  worsen-stays : (s : Side) → Keeps (Stays read x t) (worsen s)
  unfolding worsen
  worsen-stays s = search (stays_rules) depth 14

  lose_hp-stays : (s : Side) (source : DamageSource) (amount : ℕ) → Keeps (Stays read x t) (lose_hp s source amount)
  unfolding lose_hp
  lose_hp-stays s source amount = search (stays_rules) depth 14

  gain_hp-stays : (s : Side) (amount : ℕ) → Keeps (Stays read x t) (gain_hp s amount)
  unfolding gain_hp
  gain_hp-stays s amount = search (stays_rules) depth 14

  suffer-stays : (s : Side) (source : DamageSource) → Keeps (Stays read x t) (suffer s source)
  unfolding suffer
  suffer-stays s source = search (stays_rules, worsen-stays, lose_hp-stays) depth 14

  drained_by-stays : (s : Side) (amount : ℕ) → Keeps (Stays read x t) (drained_by s amount)
  unfolding drained_by
  drained_by-stays s amount = search (stays_rules, lose_hp-stays, gain_hp-stays) depth 14

  suffer_seed-stays : (s : Side) → Keeps (Stays read x t) (suffer_seed s)
  unfolding suffer_seed
  suffer_seed-stays s = search (stays_rules, worsen-stays, drained_by-stays) depth 14

  suffer_status-stays : (s : Side) (status : Status) → Keeps (Stays read x t) (suffer_status s status)
  unfolding suffer_status
  suffer_status-stays s Poisoned = search (stays_rules, suffer-stays) depth 14
  suffer_status-stays s Burned = search (stays_rules, suffer-stays) depth 14
  suffer_status-stays s _ = search (stays_rules) depth 14

  residual-stays : (s : Side) → Keeps (Stays read x t) (residual s)
  unfolding residual
  residual-stays s = search (stays_rules, suffer_status-stays, suffer_seed-stays) depth 14

-- What a switch leaves

sent-field : (s : Side) (place : ℕ) (p : Progress) → p.stopped ≡ false → (send_out s place p).field
    ≡ changed_conditions (other s) without_trapping (changed_active s (with_sent_out place (member_at place (party s p.field))) p.field)
unfolding send_out given on_active on_conditions on_field note told ◌▸◌ unless_stopped
sent-field s place p goes =
    subst (λ (b : Bool). (send_out s place (record p { stopped = b })).field
    ≡ changed_conditions (other s) without_trapping (changed_active s (with_sent_out place (member_at place (party s p.field))) p.field)) (sym goes) refl

nothing-out : (place : ℕ) (m : Member) → (sent_out place m).conditions.underway ≡ nothing_underway
nothing-out place m = ap (λ (c : ActiveConditions). c.underway) ((with_penalty_of-leaves m.status).conditions _)

own-nothing : (s : Side) (place : ℕ) (m : Member) (f : Field)
    → underway_in s (changed_conditions (other s) without_trapping (changed_active s (with_sent_out place m) f)) ≡ nothing_underway
unfolding changed_conditions changed_active with_sent_out
own-nothing One place m f = nothing-out place m
own-nothing Two place m f = nothing-out place m

foe-free : (s : Side) (f : Field) → (underway_in (other s) (changed_conditions (other s) without_trapping f)).trapping ≡ None
unfolding changed_conditions changed_active without_trapping
foe-free One f = refl
foe-free Two f = refl

module _ (r : Ruling) (s : Side) (place : ℕ) (p : Progress) (goes : p.stopped ≡ false) where
  sends-field : (do_part r (Sends s place) p).field
      ≡ changed_conditions (other s) without_trapping (changed_active s (with_sent_out place (member_at place (party s p.field))) p.field)
  unfolding do_part begin on_action
  sends-field = ap (λ (q : Progress). q.field) (then-goes (begin s) (send_out s place) p goes) ∙ sent-field s place (begin s p) goes

  pub sends-nothing : underway_in s (residual s (do_part r (Sends s place) p)).field ≡ nothing_underway
  sends-nothing = (residual-stays (λ (u : Underway). u) nothing_underway s s).kept _
      (ap (λ (f : Field). underway_in s f) sends-field ∙ own-nothing s place _ p.field)

  pub sends-free : (t : Side) → (underway_in t (residual s (do_part r (Sends s place) p)).field).trapping ≡ None
  sends-free t = (residual-stays (λ (u : Underway). u.trapping) None t s).kept _ (ap (λ (f : Field). (underway_in t f).trapping) sends-field ∙ by s t)
    where
      by : (s t : Side) → (underway_in t (changed_conditions (other s) without_trapping (changed_active s (with_sent_out place (member_at place (party s p.field))) p.field))).trapping ≡ None
      by One One = ap (λ (u : Underway). u.trapping) (own-nothing One place _ p.field)
      by Two Two = ap (λ (u : Underway). u.trapping) (own-nothing Two place _ p.field)
      by One Two = foe-free One _
      by Two One = foe-free Two _

-- The end of a turn, where no trapping is on

spent-none : (s : Side) (p : Progress) → (underway s p).trapping ≡ None → end_spent_trapping s p ≡ p
unfolding end_spent_trapping stay
spent-none s p none = choose-false (λ q. is_spent (underway s q).trapping) (on_conditions s without_trapping) stay p (ap is_spent none)

pub end-none : (p : Progress) → p.stopped ≡ false → ((s : Side) → (underway s p).trapping ≡ None) → end_turn p ≡ p
unfolding end_turn
end-none p goes none =
    let one = spent-none One p (none One) in
    then-goes (end_spent_trapping One) (end_spent_trapping Two) p (ap (λ (q : Progress). q.stopped) one ∙ goes)
    ∙ ap (end_spent_trapping Two) one ∙ spent-none Two p (none Two)

spent-apart : (p : Progress) → ((underway Two (end_spent_trapping One p)).trapping ≡ (underway Two p).trapping) × ((end_spent_trapping One p).stopped ≡ p.stopped)
unfolding end_spent_trapping stay on_conditions on_field changed_conditions changed_active
spent-apart p = by (is_spent (underway One p).trapping) refl
  where
    by : (b : Bool) → is_spent (underway One p).trapping ≡ b
        → ((underway Two (end_spent_trapping One p)).trapping ≡ (underway Two p).trapping) × ((end_spent_trapping One p).stopped ≡ p.stopped)
    by true e =
        let is = choose-true (λ q. is_spent (underway One q).trapping) (on_conditions One without_trapping) stay p e in
        (ap (λ (q : Progress). (underway Two q).trapping) is, ap (λ (q : Progress). q.stopped) is)
    by false e =
        let is = choose-false (λ q. is_spent (underway One q).trapping) (on_conditions One without_trapping) stay p e in
        (ap (λ (q : Progress). (underway Two q).trapping) is, ap (λ (q : Progress). q.stopped) is)

pub end-one : (s : Side) (p : Progress) → p.stopped ≡ false → (underway (other s) p).trapping ≡ None → end_turn p ≡ end_spent_trapping s p
unfolding end_turn
end-one One p goes none =
    let apart = spent-apart p in
    then-goes (end_spent_trapping One) (end_spent_trapping Two) p (apart.1 ∙ goes) ∙ spent-none Two _ (apart.0 ∙ none)
end-one Two p goes none =
    let one = spent-none One p none in
    then-goes (end_spent_trapping One) (end_spent_trapping Two) p (ap (λ (q : Progress). q.stopped) one ∙ goes) ∙ ap (end_spent_trapping Two) one

-- A side that plans to use nothing has nothing underway

nothing-is : IsUnderway effects.DamageOnly nothing_underway
nothing-is = record {
  bide = tt;
  thrash = tt;
  trapping = tt;
  bide_tied = λ on. absurd (false≢true on);
  thrash_tied = λ on. absurd (false≢true on);
  trapping_tied = λ on. absurd (false≢true on);
  charging_tied = λ on. absurd (false≢true on);
  recharge_tied = λ on. absurd (false≢true on);
  rage_tied = λ on. absurd (false≢true on);
}

abbrev pub idle_plan : Side → Field → Plan
idle_plan s f = Plans Nothing (effect_of Nothing (member_in s f).moves)

pub idle-planned : {terms : Terms} (plan : Side → Plan) (s : Side) (p : Progress) → underway_in s p.field ≡ nothing_underway → IsPlanned terms plan p.field p.action p.stream
    → IsPlanned terms (with_plan s (idle_plan s p.field) plan) p.field p.action p.stream
idle-planned plan s p rests h =
    replanned s _ p.field p.action p.stream (tt, refl, subst (λ (u : Underway). IsUnderway effects.DamageOnly u) (sym rests) nothing-is) h

untied : (u : Underway) → IsUnderway effects.DamageOnly u → u.trapping ≡ None
untied u h = by u.trapping h.trapping_tied
  where
    by : (o : Option ℕ) → (is_some o ≡ true → false ≡ true) → o ≡ None
    by None tied = refl
    by (Some n) tied = absurd (false≢true (tied refl))

pub idle-untrapped : {terms : Terms} (plan : Side → Plan) (s : Side) (f : Field) (p : Progress)
    → IsPlanned terms (with_plan s Any (with_plan (other s) (idle_plan (other s) f) plan)) p.field p.action p.stream → (underway (other s) p).trapping ≡ None
idle-untrapped plan s f p h =
    let x = idle_plan (other s) f in
    let is = with_plan-other s Any (with_plan (other s) x plan) ∙ with_plan-is (other s) x plan in
    untied _ (planned-holds (other s) p.field p.action p.stream is h).2

pub own-plan : (s : Side) (x : Plan) (plan : Side → Plan) → with_plan (other s) x plan s ≡ plan s
own-plan One x plan = refl
own-plan Two x plan = refl
