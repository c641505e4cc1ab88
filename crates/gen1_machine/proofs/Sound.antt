-- Facts that include a valid field, and that each tame change keeps; and the ranges of the numbers of an action.
use Rattle.std.proofs.Common.{Bool, List, None, Option, Some, ap, arith, false, get_or, get_or-set_other, get_or-set_same, inl, inr, length, length-set, refl, set, subst, sym, true, ℕ, ◌+◌, ◌-◌, ◌<◌, ◌==◌, ◌∙◌, ◌≡◌, ◌≢◌, ◌≤◌, ◌⊎◌, [], cond, filter, if◌then◌else◌, ltb-true, mul-le-mul_left, nat_le, nat_lt, not, suc, zero, ◌&&◌, ◌*◌, ◌/◌, ◌||◌, ◌∷◌}
use Rattle.std.proofs.lemmas.Bool.{false≢true, leb-false, leb-true}
use Rattle.std.proofs.lemmas.Bool.Decides.{eqb_tells}
use Rattle.gen1_tables.specs.declared.effect.Effect.{Effect}
use Rattle.gen1_rolls.proofs.First.{first-finds, byte-small}
use Rattle.gen1_rolls.specs.Streams.{byte_at, first, span, IsStream, Stream, low_bits}
use Rattle.gen1_stats.specs.declared.member.KnownMove.{KnownMove}
use Rattle.gen1_stats.specs.Members.{nobody, IsBetween, Member}
use Rattle.gen1_machine.specs.declared.side.UsedMove.{UsedMove}
use Rattle.gen1_machine.specs.declared.side.UsedMove.TheVariants.{Nothing, Slot, Struggle}
use Rattle.gen1_machine.specs.declared.side.Side.{Side}
use Rattle.gen1_machine.specs.declared.side.Side.TheVariants.{One, Two}
use Rattle.gen1_machine.specs.Rules.{Rules}
use Rattle.gen1_machine.specs.Conditions.{ActiveConditions, Underway, one_less, one_turn_less, with_confusion_one_less, with_disable_one_less, with_disabled}
use Rattle.gen1_machine.specs.State.{active_in, changed_active, changed_conditions, changed_member, conditions_in, member_at, member_in, party, with_current_move, with_last_damage, with_member, with_outcome, with_party, Active, Field, Party, Terms, Stages}
use Rattle.gen1_machine.specs.Moves.{move_at, accuracy_byte, Move}
use Rattle.gen1_machine.specs.Picks.{number_in}
use Rattle.gen1_machine.specs.declared.event.Event.{Event}
use Rattle.gen1_machine.specs.Progress.{choose, draw, draw_until, given, on_field, told, Action, Phase, Progress, fail, fails_if, on_conditions}
use Rattle.gen1_machine.specs.Valid.{effect_of, IsActive, IsConditions, IsCount, IsField, IsMembersUnder, IsMemberUnder, IsParty, IsUnderway, IsUsedMove, IsDisabled, IsStages}
use Rattle.gen1_machine.specs.Plans.{with_plan, Any, Doing, HoldsPlan, IsPlanned, Plan, Plans}
use Rattle.gen1_machine.proofs.Keeps.{Keeps, Spares, SparesAction, Leads, choose-keeps, note-keeps, stay-keeps, stop-keeps, then-keeps}
use Rattle.gen1_machine.proofs.Tame.{SameMoves, TameActive, TameMember}
use Rattle.gen1_tables.specs.declared.effect.Stat.{Stat}
use Rattle.gen1_tables.specs.declared.effect.Stat.TheVariants.{Accuracy, Attack, Defense, Evasion, Special, Speed}
use Rattle.gen1_tables.specs.declared.types.Element.{Element}
use Rattle.gen1_tables.specs.Moves.{move_row, move_rows, MoveRow}
use Rattle.gen1_tables.specs.Types.{same_type, type_rows, TypeRow}
use Rattle.gen1_machine.specs.declared.side.DisabledSlot.{DisabledSlot}
use Rattle.gen1_machine.specs.CurrentStats.{stage_of}
use Rattle.gen1_machine.specs.Damage.{before_types, by_rows, divided, is_own_type, rotated_right_1, times_factor, type_steps, DamageNumbers}
use Rattle.gen1_machine.specs.HitTest.{base_of}
use Rattle.gen1_machine.specs.SideEffects.{names_slot}
use Rattle.gen1_tables.specs.declared.effect.Effect.TheVariants as effects
use Rattle.gen1_machine.specs.declared.terms.Outcome.TheVariants as outcomes
use Rattle.gen1_tables.specs.declared.types.Element.TheVariants as elements

-- What is known of the action stays in its range, and whether Bide lets go stays as it is.
pub record TameAction (change : Action → Action) : Type 0 where
  pub tested : (a : Action) → IsCount 0 255 a.accuracy_tested → IsCount 0 255 (change a).accuracy_tested
  pub letting_go : (a : Action) → (change a).letting_go ≡ a.letting_go

pub record Sound (terms : Terms) (P : Field → Action → Stream → Type 0) : Type 0 where
  pub field : (f : Field) (a : Action) (w : Stream) → P f a w → IsField terms f
  pub tested : (f : Field) (a : Action) (w : Stream) → P f a w → IsCount 0 255 a.accuracy_tested
  pub stream : (f : Field) (a : Action) (w : Stream) → P f a w → IsStream w
  pub member : (s : Side) (change : Member → Member) → TameMember terms.rules change → Spares P (changed_member s change)
  pub active : (s : Side) (change : Active → Active) → TameActive change → Spares P (changed_active s change)
  pub conditions : (s : Side) (change : ActiveConditions → ActiveConditions) (f : Field) (a : Action) (w : Stream) → P f a w
      → ((e : Effect) → IsConditions e (length (member_in s f).moves) (conditions_in s f) → IsConditions e (length (member_in s f).moves) (change (conditions_in s f)))
      → P (changed_conditions s change f) a w
  pub damage : (n : ℕ) → n ≤ 65535 → Spares P (with_last_damage n)
  pub outcome : (n : ℕ) → IsBetween 1 2 n → Spares P (with_outcome (outcomes.Fault n))
  pub action : (change : Action → Action) → TameAction change → SparesAction P change

-- A party of a valid field is valid, and may replace another valid party

pub party-valid : {terms : Terms} (s : Side) (f : Field) → IsField terms f → IsParty terms.rules (party s f)
party-valid One f h = h.one
party-valid Two f h = h.two

pub with-party : {terms : Terms} (s : Side) (t : Party) (f : Field) → IsParty terms.rules t → IsField terms f → IsField terms (with_party s t f)
with-party One t f k h = record { one = k; two = h.two; last_damage = h.last_damage; turn = h.turn; outcome = h.outcome }
with-party Two t f k h = record { one = h.one; two = k; last_damage = h.last_damage; turn = h.turn; outcome = h.outcome }

-- A side's plan holds.
pub planned-holds : {terms : Terms} {plan : Side → Plan} {x : Plan} (s : Side) (f : Field) (a : Action) (w : Stream) → plan s ≡ x → IsPlanned terms plan f a w
    → HoldsPlan x (member_in s f).moves (active_in s f)
planned-holds s f a w is h = subst (λ x. HoldsPlan x (member_in s f).moves (active_in s f)) is (h.holds s)

-- A change of the member that is out

same-number : (used : UsedMove) (before after : List KnownMove) → SameMoves before after → number_in used after ≡ number_in used before
same-number Nothing before after same = refl
same-number Struggle before after same = refl
same-number (Slot k) before after same = same.ids (k - 1)

same-effect : (used : UsedMove) (before after : List KnownMove) → SameMoves before after → effect_of used after ≡ effect_of used before
same-effect used before after same = ap (λ n. (move_at n).effect) (same-number used before after same)

same-used : (used : UsedMove) (before after : List KnownMove) → SameMoves before after → IsUsedMove (length before) used → IsUsedMove (length after) used
same-used used before after same h = rw same.count h

same-active : (before after : List KnownMove) (a : Active) → SameMoves before after → IsActive before a → IsActive after a
same-active before after a same h = record {
  stages = h.stages;
  current_move = same-used a.current_move before after same h.current_move;
  picked_move = same-used a.picked_move before after same h.picked_move;
  kept_accuracy = h.kept_accuracy;
  conditions = rw (same-effect a.current_move before after same, same.count) h.conditions;
}

same-plan : (plan : Plan) (before after : List KnownMove) (a : Active) → SameMoves before after → HoldsPlan plan before a → HoldsPlan plan after a
same-plan Any before after a same h = h
same-plan (Plans used e) before after a same h = (same-used used before after same h.0, same-effect used before after same ∙ h.1, h.2)
same-plan (Doing e) before after a same h = same-effect a.current_move before after same ∙ h

members-set : (rules : Rules) (members : List Member) (i : ℕ) (m : Member) → IsMemberUnder rules m → IsMembersUnder rules members → IsMembersUnder rules (set members i m)
members-set rules members i m k h = record { size = rw length-set h.size; each = λ j d l. by j d (eqb_tells j i) (rw length-set at l) }
  where
    by : (j : ℕ) (d : Member) → (((j == i) ≡ true) × (j ≡ i)) ⊎ (((j == i) ≡ false) × (j ≢ i)) → j < length members → IsMemberUnder rules (get_or (set members i m) j d)
    by j d (inl e) l = rw e.1 (rw (get_or-set_same members i m d (rw e.1 at l)) k)
    by j d (inr e) l = rw (get_or-set_other members i j m d e.1) (h.each j d l)

abbrev pub out_of : Party → Member
out_of t = member_at t.active.place t

module _ (rules : Rules) (t : Party) (h : IsParty rules t) (change : Member → Member) (tame : TameMember rules change) where
  inside : t.active.place - 1 < length t.members
  inside = omega (arith, h.place)

  out-after : member_at t.active.place (with_member t.active.place (change (out_of t)) t) ≡ change (out_of t)
  out-after = get_or-set_same t.members (t.active.place - 1) (change (out_of t)) nobody inside

  member-changed : IsParty rules (with_member t.active.place (change (out_of t)) t)
  member-changed = record {
    members = members-set rules t.members (t.active.place - 1) (change (out_of t)) (tame.valid (out_of t) (h.members.each (t.active.place - 1) nobody inside)) h.members;
    place = rw length-set h.place;
    active = rw out-after (same-active (out_of t).moves (change (out_of t)).moves t.active (tame.moves (out_of t)) h.active);
  }

  member-plan : (plan : Plan) → HoldsPlan plan (out_of t).moves t.active
      → HoldsPlan plan (member_at t.active.place (with_member t.active.place (change (out_of t)) t)).moves t.active
  member-plan plan k = rw out-after (same-plan plan (out_of t).moves (change (out_of t)).moves t.active (tame.moves (out_of t)) k)

active-plan : (plan : Plan) (moves : List KnownMove) (a b : Active) → b.current_move ≡ a.current_move → b.conditions ≡ a.conditions → HoldsPlan plan moves a → HoldsPlan plan moves b
active-plan Any moves a b e k h = h
active-plan (Plans used x) moves a b e k h = (h.0, h.1, rw k h.2)
active-plan (Doing x) moves a b e k h = rw e h

active-changed : (rules : Rules) (t : Party) (change : Active → Active) → TameActive change → IsParty rules t → IsParty rules (record t { active = change t.active })
active-changed rules t change tame h = record {
  members = h.members;
  place = rw (tame.place t.active) h.place;
  active = subst (λ n. IsActive (get_or t.members (n - 1) nobody).moves (change t.active)) (sym (tame.place t.active)) (tame.valid (out_of t).moves t.active h.active);
}

conditioned : (moves : List KnownMove) (a : Active) (c : ActiveConditions) → IsConditions (effect_of a.current_move moves) (length moves) c → IsActive moves a → IsActive moves (record a { conditions = c })
conditioned moves a c k h = record { stages = h.stages; current_move = h.current_move; picked_move = h.picked_move; kept_accuracy = h.kept_accuracy; conditions = k }

-- With another current effect.
retied : (e x : Effect) (n : ℕ) (c : ActiveConditions) → IsUnderway x c.underway → IsConditions e n c → IsConditions x n c
retied e x n c u h = record { underway = u; confused = h.confused; substitute = h.substitute; bad_poison = h.bad_poison; disabled = h.disabled }

conditions-plan : (plan : Plan) (moves : List KnownMove) (a : Active) (c : ActiveConditions)
    → ((e : Effect) → IsConditions e (length moves) a.conditions → IsConditions e (length moves) c) → IsActive moves a
    → HoldsPlan plan moves a → HoldsPlan plan moves (record a { conditions = c })
conditions-plan Any moves a c k v h = h
conditions-plan (Plans used x) moves a c k v h =
    (h.0, h.1, (k effects.DamageOnly (retied (effect_of a.current_move moves) effects.DamageOnly (length moves) a.conditions h.2 v.conditions)).underway)
conditions-plan (Doing x) moves a c k v h = h

module _ (terms : Terms) (plan : Side → Plan) where
  pub holds-after : (s : Side) (t : Party) (f : Field) → HoldsPlan (plan s) (out_of t).moves t.active
      → ((u : Side) → HoldsPlan (plan u) (member_in u f).moves (active_in u f))
      → (u : Side) → HoldsPlan (plan u) (member_in u (with_party s t f)).moves (active_in u (with_party s t f))
  holds-after One t f k h One = k
  holds-after One t f k h Two = h Two
  holds-after Two t f k h One = h One
  holds-after Two t f k h Two = k

  planned-member : (s : Side) (change : Member → Member) → TameMember terms.rules change → Spares (IsPlanned terms plan) (changed_member s change)
  unfolding changed_member
  planned-member s change tame = record {
    spared = λ f a w h. record {
      field = with-party s _ f (member-changed terms.rules (party s f) (party-valid s f h.field) change tame) h.field;
      tested = h.tested;
      stream = h.stream;
      holds = holds-after s _ f (member-plan terms.rules (party s f) (party-valid s f h.field) change tame (plan s) (h.holds s)) h.holds;
    };
  }

  planned-active : (s : Side) (change : Active → Active) → TameActive change → Spares (IsPlanned terms plan) (changed_active s change)
  unfolding changed_active
  planned-active s change tame = record {
    spared = λ f a w h. record {
      field = with-party s _ f (active-changed terms.rules (party s f) change tame (party-valid s f h.field)) h.field;
      tested = h.tested;
      stream = h.stream;
      holds = holds-after s (record (party s f) { active = change (active_in s f) }) f
          (subst (λ n. HoldsPlan (plan s) (get_or (party s f).members (n - 1) nobody).moves (change (active_in s f))) (sym (tame.place (active_in s f))) (active-plan (plan s) (member_in s f).moves (active_in s f) (change (active_in s f)) (tame.current_move (active_in s f)) (tame.conditions (active_in s f)) (h.holds s)))
          h.holds;
    };
  }

  planned-conditions : (s : Side) (change : ActiveConditions → ActiveConditions) (f : Field) (a : Action) (w : Stream) → IsPlanned terms plan f a w
      → ((e : Effect) → IsConditions e (length (member_in s f).moves) (conditions_in s f) → IsConditions e (length (member_in s f).moves) (change (conditions_in s f)))
      → IsPlanned terms plan (changed_conditions s change f) a w
  unfolding changed_conditions changed_active
  planned-conditions s change f a w h k =
      let v = party-valid s f h.field in
      record {
        field = with-party s _ f (record {
          members = v.members;
          place = v.place;
          active = conditioned (member_in s f).moves (active_in s f) _ (k _ v.active.conditions) v.active;
        }) h.field;
        tested = h.tested;
        stream = h.stream;
        holds = holds-after s (record (party s f) { active = record (active_in s f) { conditions = change (conditions_in s f) } }) f
            (conditions-plan (plan s) (member_in s f).moves (active_in s f) (change (conditions_in s f)) k v.active (h.holds s)) h.holds;
      }

  damaged : (n : ℕ) → n ≤ 65535 → Spares (IsPlanned terms plan) (with_last_damage n)
  unfolding with_last_damage
  damaged n l = record {
    spared = λ f a w h. record {
      field = record { one = h.field.one; two = h.field.two; last_damage = l; turn = h.field.turn; outcome = h.field.outcome };
      tested = h.tested;
      stream = h.stream;
      holds = same f n h.holds;
    };
  }
    where
      same : (f : Field) (n : ℕ) → ((u : Side) → HoldsPlan (plan u) (member_in u f).moves (active_in u f))
          → (u : Side) → HoldsPlan (plan u) (member_in u (record f { last_damage = n })).moves (active_in u (record f { last_damage = n }))
      same f n h One = h One
      same f n h Two = h Two

  faulted : (n : ℕ) → IsBetween 1 2 n → Spares (IsPlanned terms plan) (with_outcome (outcomes.Fault n))
  unfolding with_outcome
  faulted n l = record {
    spared = λ f a w h. record {
      field = record { one = h.field.one; two = h.field.two; last_damage = h.field.last_damage; turn = h.field.turn; outcome = l };
      tested = h.tested;
      stream = h.stream;
      holds = same f n h.holds;
    };
  }
    where
      same : (f : Field) (n : ℕ) → ((u : Side) → HoldsPlan (plan u) (member_in u f).moves (active_in u f))
          → (u : Side) → HoldsPlan (plan u) (member_in u (record f { outcome = outcomes.Fault n })).moves (active_in u (record f { outcome = outcomes.Fault n }))
      same f n h One = h One
      same f n h Two = h Two

  -- What the current move explains.
  pub planned-tied : (s : Side) (e : Effect) → plan s ≡ Doing e → (change : ActiveConditions → ActiveConditions) (f : Field) (a : Action) (w : Stream) → IsPlanned terms plan f a w
      → (IsConditions e (length (member_in s f).moves) (conditions_in s f) → IsConditions e (length (member_in s f).moves) (change (conditions_in s f)))
      → IsPlanned terms plan (changed_conditions s change f) a w
  unfolding changed_conditions changed_active
  planned-tied s e is change f a w h k =
      let v = party-valid s f h.field in
      let moves = (member_in s f).moves in
      let doing = planned-holds s f a w is h in
      record {
        field = with-party s _ f (record {
          members = v.members;
          place = v.place;
          active = conditioned moves (active_in s f) _
              (subst (λ x. IsConditions x (length moves) (change (conditions_in s f))) (sym doing) (k (subst (λ x. IsConditions x (length moves) (conditions_in s f)) doing v.active.conditions))) v.active;
        }) h.field;
        tested = h.tested;
        stream = h.stream;
        holds = holds-after s (record (party s f) { active = record (active_in s f) { conditions = change (conditions_in s f) } }) f
            (subst (λ x. HoldsPlan x moves (record (active_in s f) { conditions = change (conditions_in s f) })) (sym is) doing) h.holds;
      }

  pub planned-sound : Sound terms (IsPlanned terms plan)
  planned-sound = record {
    field = λ f a w h. h.field;
    tested = λ f a w h. h.tested;
    stream = λ f a w h. h.stream;
    member = planned-member;
    active = planned-active;
    conditions = planned-conditions;
    damage = damaged;
    outcome = faulted;
    action = λ change tame. record {
      spared = λ f a w h. record { field = h.field; tested = tame.tested a h.tested; stream = h.stream; holds = h.holds };
    };
  }

-- Further needs of the rules for phases: read values are in range, draws are bytes, and the last draw of a loop
-- passes its test

module _ {P : Field → Action → Stream → Type 0} where
  pub given-sees : {A : Type 0} (read : Progress → A) (Fact : A → Type 0) {f : A → Phase}
      → ((p : Progress) → P p.field p.action p.stream → Fact (read p)) → ((x : A) → Fact x → Keeps P (f x)) → Keeps P (given read f)
  unfolding given
  given-sees read Fact see k = record { kept = λ p h. (k (read p) (see p h)).kept p h }

  -- A test on plain numbers, with what it says.
  pub choose-sees : (b : Bool) {f g : Phase} → (b ≡ true → Keeps P f) → (b ≡ false → Keeps P g) → Keeps P (choose (λ p. b) f g)
  unfolding choose
  choose-sees true k l = record { kept = λ p h. (k refl).kept p h }
  choose-sees false k l = record { kept = λ p h. (l refl).kept p h }

module _ {P Q : Field → Action → Stream → Type 0} where
  pub choose-leads_sees : (b : Bool) {f g : Phase} → (b ≡ true → Leads P Q f) → (b ≡ false → Leads P Q g) → Leads P Q (choose (λ p. b) f g)
  unfolding choose
  choose-leads_sees true k l = record { led = λ p h. (k refl).led p h }
  choose-leads_sees false k l = record { led = λ p h. (l refl).led p h }

  pub told-leads : (change : Field → Field) (event : Field → Event) → ((f : Field) (a : Action) (w : Stream) → P f a w → Q (change f) a w) → Leads P Q (told change event)
  unfolding told
  told-leads change event k = record { led = λ p h. k p.field p.action p.stream h }

  pub on_field-leads : (change : Field → Field) → ((f : Field) (a : Action) (w : Stream) → P f a w → Q (change f) a w) → Leads P Q (on_field change)
  unfolding on_field
  on_field-leads change k = record { led = λ p h. k p.field p.action p.stream h }

module _ {terms : Terms} {P : Field → Action → Stream → Type 0} (sound : Sound terms P) where
  pub draw-sees : {f : ℕ → Phase} → ((b : ℕ) → b < 256 → Keeps P (f b)) → Keeps P (draw f)
  unfolding draw
  draw-sees k = record {
    kept = λ p h. (k (byte_at p.stream p.drawn) (byte-small p.stream p.drawn (sound.stream _ _ _ h))).kept (record p { drawn = p.drawn + 1 }) h;
  }

  pub draw_until-sees : (test : ℕ → Bool) {f : ℕ → Phase} → ((b : ℕ) → b < 256 → test b ≡ true → Keeps P (f b)) → Keeps P (draw_until test f)
  unfolding draw_until
  draw_until-sees test {f} k = record { kept = λ p h. by p (first p.stream p.drawn test) refl h }
    where
      by : (p : Progress) (o : Option ℕ) → first p.stream p.drawn test ≡ o → P p.field p.action p.stream → let q : Progress = elim o as (λ _. Progress) [
        | Some m ↦ f (byte_at p.stream m) (record p { drawn = m + 1 })
        | None ↦ record p { drawn = p.drawn + span p.stream }
      ] in P q.field q.action q.stream
      by p (Some m) e h = (k (byte_at p.stream m) (byte-small p.stream m (sound.stream _ _ _ h)) (first-finds p.stream p.drawn test m e).meets).kept (record p { drawn = m + 1 }) h
      by p None e h = h

-- A fact of one side's plan may replace another.
pub replanned : {terms : Terms} {plan : Side → Plan} (s : Side) (x : Plan) (f : Field) (a : Action) (w : Stream)
    → HoldsPlan x (member_in s f).moves (active_in s f) → IsPlanned terms plan f a w → IsPlanned terms (with_plan s x plan) f a w
replanned {terms} {plan} s x f a w k h = record { field = h.field; tested = h.tested; stream = h.stream; holds = by s k }
  where
    by : (s : Side) → HoldsPlan x (member_in s f).moves (active_in s f) → (u : Side) → HoldsPlan (with_plan s x plan u) (member_in u f).moves (active_in u f)
    by One k One = k
    by One k Two = h.holds Two
    by Two k One = h.holds One
    by Two k Two = k

pub with_plan-is : (s : Side) (x : Plan) (plan : Side → Plan) → with_plan s x plan s ≡ x
with_plan-is One x plan = refl
with_plan-is Two x plan = refl

-- The planned move becomes the current move

pub untied : (e : Effect) (u : Underway) → IsUnderway effects.DamageOnly u → IsUnderway e u
untied e u h = record {
  bide = h.bide;
  thrash = h.thrash;
  trapping = h.trapping;
  bide_tied = λ on. absurd (false≢true (h.bide_tied on));
  thrash_tied = λ on. absurd (false≢true (h.thrash_tied on));
  trapping_tied = λ on. absurd (false≢true (h.trapping_tied on));
  charging_tied = λ on. absurd (false≢true (h.charging_tied on));
  recharge_tied = λ on. absurd (false≢true (h.recharge_tied on));
  rage_tied = λ on. absurd (false≢true (h.rage_tied on));
}

pub taken-up : {terms : Terms} {plan : Side → Plan} (s : Side) (used : UsedMove) (e : Effect) (f : Field) (a : Action) (w : Stream) → plan s ≡ Plans used e
    → IsPlanned terms plan f a w → IsPlanned terms (with_plan s (Doing e) plan) (changed_active s (with_current_move used) f) a w
unfolding changed_active with_current_move
taken-up {terms} {plan} s used e f a w is h =
    let v = party-valid s f h.field in
    let moves = (member_in s f).moves in
    let active = active_in s f in
    let plans = planned-holds s f a w is h in
    let next : Party = record (party s f) { active = record active { current_move = used } } in
    record {
      field = with-party s next f (record {
        members = v.members;
        place = v.place;
        active = record {
          stages = v.active.stages;
          current_move = plans.0;
          picked_move = v.active.picked_move;
          kept_accuracy = v.active.kept_accuracy;
          conditions = retied (effect_of active.current_move moves) (effect_of used moves) (length moves) active.conditions (untied (effect_of used moves) active.conditions.underway plans.2) v.active.conditions;
        };
      }) h.field;
      tested = h.tested;
      stream = h.stream;
      holds = by s next plans.1;
    }
  where
    by : (s : Side) (next : Party) → HoldsPlan (Doing e) (out_of next).moves next.active
        → (u : Side) → HoldsPlan (with_plan s (Doing e) plan u) (member_in u (with_party s next f)).moves (active_in u (with_party s next f))
    by One next k One = k
    by One next k Two = h.holds Two
    by Two next k One = h.holds One
    by Two next k Two = k

-- Numbers of an action and their ranges: damage below 65,536, accuracy bytes, stages and counts.

-- Moves: an accuracy is at most 100, and a move that lowers a stage lowers it by at least one

abbrev pub LowersSome : Effect → Type 0
LowersSome (effects.StatDown stat n) = 1 ≤ n
LowersSome _ = Unit {0}

pub record IsMove (move : Move) : Type 0 where
  pub accuracy : move.accuracy ≤ 100
  pub lowers : LowersSome move.effect

lowers_some : Effect → Bool
lowers_some (effects.StatDown stat n) = nat_le 1 n
lowers_some _ = true

is_fine : MoveRow → Bool
is_fine row = nat_le row.accuracy 100 && lowers_some row.effect

all_fine : List MoveRow → Bool
all_fine [] = true
all_fine (row ∷ rows) = is_fine row && all_fine rows

both : (a b : Bool) → (a && b) ≡ true → (a ≡ true) × (b ≡ true)
both true b e = (refl, e)
both false b e = absurd (false≢true e)

fine-at : (rows : List MoveRow) (i : ℕ) (d : MoveRow) → all_fine rows ≡ true → is_fine d ≡ true → is_fine (get_or rows i d) ≡ true
unfolding all_fine
fine-at [] i d all default = default
fine-at (row ∷ rows) zero d all default = (both (is_fine row) (all_fine rows) all).0
fine-at (row ∷ rows) (suc i) d all default = fine-at rows i d (both (is_fine row) (all_fine rows) all).1 default

fine-row : (n : ℕ) → is_fine (move_row n) ≡ true
unfolding move_row move_rows all_fine is_fine lowers_some
fine-row n = fine-at move_rows (n - 1) (record { kind = elements.Normal; power = 0; accuracy = 0; pp = 0; effect = effects.DamageOnly }) refl refl

lowers-fine : (e : Effect) → lowers_some e ≡ true → LowersSome e
unfolding lowers_some
lowers-fine (effects.StatDown stat n) h = leb-true 1 n h
lowers-fine _ h = tt

pub is-move : (n : ℕ) → IsMove (move_at n)
unfolding is_fine
is-move n =
    let fine = both (nat_le (move_row n).accuracy 100) (lowers_some (move_row n).effect) (fine-row n) in
    record { accuracy = leb-true (move_row n).accuracy 100 fine.0; lowers = lowers-fine (move_row n).effect fine.1 }

-- Damage

times-most : (d r c : ℕ) → r ≤ c → d * r ≤ d * c
times-most d r c l = search (mul-le-mul_left, l)

pub varied-small : (d b : ℕ) → d ≤ 65535 → b < 256 → times_factor (rotated_right_1 b) d ≤ 65535
varied-small d b l byte =
    let factor : rotated_right_1 b ≤ 255 = omega arith in
    omega (arith, times-most d (rotated_right_1 b) 255 factor, l)

divided-small : (level power attack divisor : ℕ) → IsCount 0 999 (divided level power attack divisor)
divided-small level power attack zero = tt
divided-small level power attack (suc d) = (omega arith, omega arith)

pub before_types-small : (n : DamageNumbers) → IsCount 0 999 (before_types n)
before_types-small n = divided-small n.level n.power n.attack _

-- Each row at most doubles a damage, and at most four rows of a type apply

doubles : Element → TypeRow → Bool
doubles kind row = same_type row.attacker kind && not (nat_le row.tenths 10)

grown : Element → List TypeRow → ℕ → ℕ
grown kind [] d = d
grown kind (row ∷ rows) d = grown kind rows (cond (doubles kind row) (2 * d) d)

all_modest : List TypeRow → Bool
all_modest [] = true
all_modest (row ∷ rows) = nat_le row.tenths 20 && all_modest rows

one-row : (d e tenths : ℕ) (b : Bool) → d ≤ e → tenths ≤ 20 → nat_le tenths 10 ≡ b → d * tenths / 10 ≤ cond (not b) (2 * e) e
one-row d e tenths true l m h = omega (arith, times-most d tenths 10 (leb-true tenths 10 h), l)
one-row d e tenths false l m h = omega (arith, times-most d tenths 20 m, l)

abbrev applies : DamageNumbers → TypeRow → Bool
applies n row = same_type row.attacker n.kind && (same_type row.defender n.foe_first || same_type row.defender n.foe_second)

grows : (n : DamageNumbers) (rows : List TypeRow) (d e : ℕ) → all_modest rows ≡ true → d ≤ e → by_rows (filter (applies n) rows) d ≤ grown n.kind rows e
unfolding all_modest grown doubles
grows n [] d e all l = l
grows n (row ∷ rows) d e all l =
    by (same_type row.attacker n.kind) (same_type row.defender n.foe_first || same_type row.defender n.foe_second) (nat_le row.tenths 10) refl
    (leb-true row.tenths 20 (both (nat_le row.tenths 20) (all_modest rows) all).0)
    (λ x y k. grows n rows x y (both (nat_le row.tenths 20) (all_modest rows) all).1 k)
  where
    by : (attacks defends few : Bool) → nat_le row.tenths 10 ≡ few → row.tenths ≤ 20
        → ((x y : ℕ) → x ≤ y → by_rows (filter (applies n) rows) x ≤ grown n.kind rows y)
        → by_rows (cond (attacks && defends) (row ∷ filter (applies n) rows) (filter (applies n) rows)) d ≤ grown n.kind rows (cond (attacks && not few) (2 * e) e)
    by true true true h m more = more _ _ (one-row d e row.tenths true l m h)
    by true true false h m more = more _ _ (one-row d e row.tenths false l m h)
    by true false true h m more = more _ _ l
    by true false false h m more = more _ _ (omega (arith, l))
    by false defends few h m more = more _ _ l

all-modest : all_modest type_rows ≡ true
unfolding all_modest type_rows
all-modest = refl

grown-small : (kind : Element) → nat_le (grown kind type_rows 1498) 65535 ≡ true
unfolding grown doubles type_rows
grown-small elements.Normal = refl
grown-small elements.Fighting = refl
grown-small elements.Flying = refl
grown-small elements.Poison = refl
grown-small elements.Ground = refl
grown-small elements.Rock = refl
grown-small elements.Bug = refl
grown-small elements.Ghost = refl
grown-small elements.Fire = refl
grown-small elements.Water = refl
grown-small elements.Grass = refl
grown-small elements.Electric = refl
grown-small elements.Psychic = refl
grown-small elements.Ice = refl
grown-small elements.Dragon = refl

pub typed-small : (n : DamageNumbers) (d : ℕ) → d ≤ 999 → type_steps d n ≤ 65535
typed-small n d l =
    omega (arith, grows n type_rows (if is_own_type n then d + d / 2 else d) 1498 all-modest (own (is_own_type n)), leb-true (grown n.kind type_rows 1498) 65535 (grown-small n.kind))
  where
    own : (b : Bool) → (if b then d + d / 2 else d) ≤ 1498
    own true = omega (arith, l)
    own false = omega (arith, l)

-- Bytes, stages and members

pub base-small : (s : Side) (move : Move) (p : Progress) → IsMove move → (active_in s p.field).kept_accuracy ≤ 255 → base_of s move p ≤ 255
base-small s move p is kept = by p.action.going_on
  where
    by : (b : Bool) → (if b then (active_in s p.field).kept_accuracy else accuracy_byte move) ≤ 255
    by true = kept
    by false = omega (arith, is.accuracy)

pub out-valid : {terms : Terms} (s : Side) (f : Field) → IsField terms f → IsMemberUnder terms.rules (member_in s f)
out-valid s f h = let t = party-valid s f h in t.members.each _ _ (omega (arith, t.place))

pub stage-small : (stat : Stat) (s : Stages) → IsStages s → stage_of stat s ≤ 12
stage-small Attack s h = h.attack
stage-small Defense s h = h.defense
stage-small Speed s h = h.speed
stage-small Special s h = h.special
stage-small Accuracy s h = h.accuracy
stage-small Evasion s h = h.evasion

pub risen-small : (by n : ℕ) → 1 ≤ by → n ≤ 12 → nat_le n 0 ≡ false → n - by + 1 ≤ 12
risen-small by n some l e = omega (arith, leb-false n 0 e)

-- Counts that go on

pub confusion-less : (e : Effect) (n : ℕ) (c : ActiveConditions) (turns : ℕ) → c.confused ≡ Some turns → nat_le turns 1 ≡ false
    → IsConditions e n c → IsConditions e n (with_confusion_one_less c)
unfolding with_confusion_one_less
confusion-less e n c turns is more h = record {
  underway = h.underway;
  confused = subst (λ o. IsCount 1 5 (one_less o)) (sym is) (less (subst (λ o. IsCount 1 5 o) is h.confused));
  substitute = h.substitute;
  bad_poison = h.bad_poison;
  disabled = h.disabled;
}
  where
    less : IsBetween 1 5 turns → IsBetween 1 5 (turns - 1)
    less k = (omega (arith, leb-false turns 1 more), omega (arith, k.1))

pub disable-less : (e : Effect) (n : ℕ) (c : ActiveConditions) (d : DisabledSlot) → c.disabled ≡ Some d → nat_le d.turns 1 ≡ false
    → IsConditions e n c → IsConditions e n (with_disable_one_less c)
unfolding with_disable_one_less
disable-less e n c d is more h = record {
  underway = h.underway;
  confused = h.confused;
  substitute = h.substitute;
  bad_poison = h.bad_poison;
  disabled = subst (λ o. IsDisabled n (one_turn_less o)) (sym is) (less (subst (λ o. IsDisabled n o) is h.disabled));
}
  where
    less : IsBetween 1 n d.slot × IsBetween 1 8 d.turns → IsBetween 1 n d.slot × IsBetween 1 8 (d.turns - 1)
    less k = (k.0, (omega (arith, leb-false d.turns 1 more), omega (arith, k.1.1)))

pub disabled-valid : (e : Effect) (n : ℕ) (c : ActiveConditions) (b d : ℕ) → low_bits 2 b < n
    → IsConditions e n c → IsConditions e n (with_disabled (low_bits 2 b + 1) (low_bits 3 d + 1) c)
unfolding with_disabled
disabled-valid e n c b d l h = record {
  underway = h.underway;
  confused = h.confused;
  substitute = h.substitute;
  bad_poison = h.bad_poison;
  disabled = ((omega arith, omega (arith, l)), (omega arith, omega arith));
}

pub named : (moves : List KnownMove) (b : ℕ) → names_slot moves b ≡ true → low_bits 2 b < length moves
named moves b e = ltb-true (low_bits 2 b) (length moves) (both (nat_lt (low_bits 2 b) (length moves)) _ e).0

-- Phases that lead from one fact to another

pub fails_if-plain : {P : Field → Action → Stream → Type 0} (s : Side) (test : Progress → Bool) → Keeps P (fails_if s test)
unfolding fails_if fail
fails_if-plain s test = choose-keeps test (then-keeps (note-keeps _) stop-keeps) stay-keeps

module _ {P Q : Field → Action → Stream → Type 0} where
  pub leads-from : {f : Phase} → ((f : Field) (a : Action) (w : Stream) → P f a w → Q f a w) → Keeps Q f → Leads P Q f
  leads-from w k = record { led = λ p h. k.kept p (w _ _ _ h) }

  pub on_conditions-leads : (s : Side) (change : ActiveConditions → ActiveConditions)
      → ((f : Field) (a : Action) (w : Stream) → P f a w → Q (changed_conditions s change f) a w) → Leads P Q (on_conditions s change)
  unfolding on_conditions on_field
  on_conditions-leads s change k = record { led = λ p h. k p.field p.action p.stream h }

  pub draw-leads : {f : ℕ → Phase} → ((b : ℕ) → Leads P Q (f b)) → Leads P Q (draw f)
  unfolding draw
  draw-leads k = record { led = λ p h. (k (byte_at p.stream p.drawn)).led (record p { drawn = p.drawn + 1 }) h }

  pub draw_until-leads : (test : ℕ → Bool) {f : ℕ → Phase} → ((b : ℕ) → test b ≡ true → Leads P Q (f b))
      → ((f : Field) (a : Action) (w : Stream) → P f a w → Q f a w) → Leads P Q (draw_until test f)
  unfolding draw_until
  draw_until-leads test {f} k weaker = record { led = λ p h. by p (first p.stream p.drawn test) refl h }
    where
      by : (p : Progress) (o : Option ℕ) → first p.stream p.drawn test ≡ o → P p.field p.action p.stream → let q : Progress = elim o as (λ _. Progress) [
        | Some m ↦ f (byte_at p.stream m) (record p { drawn = m + 1 })
        | None ↦ record p { drawn = p.drawn + span p.stream }
      ] in Q q.field q.action q.stream
      by p (Some m) e h = (k (byte_at p.stream m) (first-finds p.stream p.drawn test m e).meets).led (record p { drawn = m + 1 }) h
      by p None e h = weaker p.field p.action p.stream h
