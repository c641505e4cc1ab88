-- What active members do, through the gate. A member that hits itself may not be seen to do so before the next event.
use Rattle.std.proofs.Common.{[], Bool, List, None, Option, Some, ap, arith, false, if◌then◌else◌, inl, inr, is_some, nat_lt, not, refl, subst, suc, sym, true, true≢false, zero, ℕ, ◌&&◌, ◌+◌, ◌++◌, ◌==◌, ◌∙◌, ◌∷◌, ◌≡◌, ◌≢◌, ◌≤◌, ◌⊎◌}
use Rattle.std.proofs.lemmas.Bool.{lt-ltb}
use Rattle.std.proofs.lemmas.Bool.Decides.{eqb_tells}
use Rattle.gen1_stats.specs.declared.member.Status.{Status}
use Rattle.gen1_stats.specs.declared.member.Status.TheVariants.{Asleep}
use Rattle.gen1_stats.specs.Members.{is_living, Member}
use Rattle.gen1_rolls.specs.Streams.{byte_at}
use Rattle.gen1_machine.specs.declared.side.Side.{Side}
use Rattle.gen1_machine.specs.declared.side.Side.TheVariants.{One, Two}
use Rattle.gen1_machine.specs.declared.terms.Outcome.TheVariants as outcomes
use Rattle.gen1_machine.specs.declared.event.CantReason.{CantReason}
use Rattle.gen1_machine.specs.declared.event.CantReason.TheVariants as reasons
use Rattle.gen1_machine.specs.declared.event.DamageSource.TheVariants as sources
use Rattle.gen1_machine.specs.declared.event.Volatile.{Volatile}
use Rattle.gen1_machine.specs.declared.event.Volatile.TheVariants as volatiles
use Rattle.gen1_machine.specs.declared.event.Event.{Event}
use Rattle.gen1_machine.specs.declared.event.Event.TheVariants as events
use Rattle.gen1_machine.specs.declared.event.Kind.TheVariants as kinds
use Rattle.gen1_machine.specs.declared.side.Pick.{Pick}
use Rattle.gen1_machine.specs.declared.side.DisabledSlot.{DisabledSlot}
use Rattle.gen1_machine.specs.Health.{Health}
use Rattle.gen1_machine.specs.Numbers.{side_number}
use Rattle.gen1_machine.specs.Rules.{bit_of}
use Rattle.gen1_machine.specs.Sides.{other}
use Rattle.gen1_machine.specs.Conditions.{broken_off, with_confusion_one_less, with_disable_one_less, with_substitute_hurt, without_charging, without_confusion, without_disable, without_flinch, without_invulnerability, without_recharge, without_substitute, ActiveConditions}
use Rattle.gen1_machine.specs.State.{changed_active, changed_conditions, changed_member, conditions_in, health_in, hurt_by, member_at, member_in, party, who_in, with_last_damage, with_member, with_outcome, with_party, with_sleep_one_less, Field, Party}
use Rattle.gen1_machine.specs.Progress.{draw, ends, fault, has_substitute, lasts, lose_hp, note, on_conditions, on_action, on_field, on_member, set_last_damage, stop, told, ◌▸◌, Phase, Progress}
use Rattle.gen1_machine.specs.Damage.{before_types, divided}
use Rattle.gen1_machine.specs.Landing.{land_on_hp, land_on_substitute, set_broke}
use Rattle.gen1_machine.specs.HitOnItself.{hurt_itself, hurt_itself_by, land_on_foes_substitute}
use Rattle.gen1_machine.specs.Gate.{cant, confusion_test, disable_count, disabled_test, flinch_test, frozen_test, gate_of_status, gate_of_turn, may_be_paralysed, may_hurt_itself, paralysis_test, recharge_test, sleep_on, sleep_test, trapped_test, wake}
use Rattle.gen1_machine.proofs.Watching.{BothOut, after-leads, before-leads, choose-sees, choose-tells, given-tells, stay-tells, stop-leads, ◌⊳◌, Leads, Runs}
use Rattle.gen1_player.specs.declared.public.Public.{Public}
use Rattle.gen1_player.specs.declared.public_side.PublicSide.{PublicSide}
use Rattle.gen1_player.specs.Public.{acting, activates, first_public, broken_off_if, has_hit_itself, is_kept, on_out, on_public_side, on_seen, public_side, set_volatile, settled, settled_by, takes_damage, takes_in, waiting_for, on_announced}
use Rattle.gen1_player.specs.True.{is_fault}
use Rattle.gen1_player.proofs.Facts.{confusion-calm, disable-calm, is_dull, substitute-calm, traits, Marks, Sizes, Tame}
use Rattle.gen1_player.proofs.Stories.{at_end, begun-conditions, begun-member, Begun}
use Rattle.gen1_player.proofs.HeardSides.{end-hears, foe-side, hears-in, hears_all-last, out-side}
use Rattle.gen1_player.proofs.Deeds.{calm-bland, core, deeds_of, does-in, does-member, dull-fades, dull-quiet, even-conditions, even-fades, even-member, even-party, even-quiet, even-settled, fades-side, pending-out, with_conditions, Bland, Deeds, Does, Even, Fades}
use Rattle.gen1_player.proofs.DeedStory.{does-marked, tells-next, told_by, Tale}

-- Numbers of sides

abbrev pub Nothing_more : Public → Type 0
Nothing_more p = Unit {0}

pub zero-not : (s : Side) → 0 ≢ side_number s
zero-not One e = omega (arith, e)
zero-not Two e = omega (arith, e)

pub own-not : (s : Side) → side_number s ≢ side_number (other s)
own-not One e = omega (arith, e)
own-not Two e = omega (arith, e)

not-eq : (m n : ℕ) → m ≢ n → (m == n) ≡ false
not-eq m n h = by (eqb_tells m n)
  where
    by : (((m == n) ≡ true) × (m ≡ n)) ⊎ (((m == n) ≡ false) × (m ≢ n)) → (m == n) ≡ false
    by (inl e) = absurd (h e.1)
    by (inr e) = e.0

-- States of an act of side s. `b` says whether it is the first of a turn.

pub record Past (b : Bool) (s : Side) (f : Field) (es : List Event) : Type 0 where
  pub even : Even f (settled_by 0 (told_by es))
  pub first : b ≡ true → (told_by es).may_hit_itself ≢ side_number (other s)

-- Before its first event
pub record Opens (b : Bool) (s : Side) (f : Field) (es : List Event) : Type 0 where
  pub even : Even f (settled_by 0 (told_by es))
  pub free : (told_by es).may_hit_itself ≢ side_number s
  pub first : b ≡ true → (told_by es).may_hit_itself ≢ side_number (other s)
  pub lives : is_living (member_in s f) ≡ true

-- All is right if the next event is its own.
pub record Near (b : Bool) (s : Side) (f : Field) (es : List Event) : Type 0 where
  pub even : Even f (settled_by (side_number s) (told_by es))
  pub first : b ≡ true → (told_by es).may_hit_itself ≢ side_number (other s)
  pub lives : is_living (member_in s f) ≡ true

-- Its confusion has been told of.
pub record Turned (s : Side) (f : Field) (es : List Event) : Type 0 where
  pub even : Even f (told_by es)
  pub waits : (told_by es).may_hit_itself ≡ waiting_for s volatiles.Confusion (public_side s (told_by es)).announced.substitute
  pub lives : is_living (member_in s f) ≡ true

abbrev pub hit : Side → Public → Public
hit s p = on_public_side s (takes_damage sources.Confusion) p

-- It has hit itself.
pub record Hurt (s : Side) (f : Field) (es : List Event) : Type 0 where
  pub even : Even f (hit s (told_by es))
  pub waits : (told_by es).may_hit_itself ≡ waiting_for s volatiles.Confusion (public_side s (told_by es)).announced.substitute
  pub lives : is_living (member_in s f) ≡ true

pub record Silent (s : Side) (f : Field) (es : List Event) : Type 0 where
  pub even : Even f (hit s (told_by es))
  pub waits : (told_by es).may_hit_itself ≡ side_number s

-- It is kept from acting.
abbrev pub Kept : CantReason → Side → Field → List Event → Type 0
Kept why s f es = Even f (on_out s (is_kept why) (settled_by (side_number s) (told_by es)))

abbrev pub Over : Bool → Side → Field → List Event → Type 0
Over b s f es = Past b s f es ⊎ (is_fault f.outcome ≡ true)

-- From one to another

settled-own : (s : Side) (f : Field) (p : Public) → p.may_hit_itself ≢ side_number s → Even f (settled_by 0 p) → Even f (settled_by (side_number s) p)
settled-own One f p h m = let e = not-eq p.may_hit_itself 1 h in record {
  one = subst (λ (c : Bool). Does (broken_off_if (c && false) p.one) f.one) (sym e) (subst (λ (c : Bool). Does (broken_off_if (c && true) p.one) f.one) e m.one);
  two = m.two;
}
settled-own Two f p h m = let e = not-eq p.may_hit_itself 2 h in record {
  one = m.one;
  two = subst (λ (c : Bool). Does (broken_off_if (c && false) p.two) f.two) (sym e) (subst (λ (c : Bool). Does (broken_off_if (c && true) p.two) f.two) e m.two);
}

pub opens-near : (b : Bool) (s : Side) (f : Field) (es : List Event) → Opens b s f es → Near b s f es
opens-near b s f es m = record { even = settled-own s f (told_by es) m.free m.even; first = m.first; lives = m.lives }

pub opens-past : (b : Bool) (s : Side) (f : Field) (es : List Event) → Opens b s f es → Past b s f es
opens-past b s f es m = record { even = m.even; first = m.first }

module _ {U : Public → Type 0} where
  pub tale-past : (b : Bool) (s : Side) (f : Field) (es : List Event) → Tale U f es → Past b s f es
  tale-past b s f es m = record { even = even-quiet 0 f (told_by es) m.quiet m.even; first = λ h e. zero-not (other s) (sym m.quiet ∙ e) }

  pub tale-opens : (b : Bool) (s : Side) (f : Field) (es : List Event) → is_living (member_in s f) ≡ true → Tale U f es → Opens b s f es
  tale-opens b s f es l m = record {
    even = even-quiet 0 f (told_by es) m.quiet m.even;
    free = λ e. zero-not s (sym m.quiet ∙ e);
    first = λ h e. zero-not (other s) (sym m.quiet ∙ e);
    lives = l;
  }

  pub tale-near : (b : Bool) (s : Side) (f : Field) (es : List Event) → is_living (member_in s f) ≡ true → Tale U f es → Near b s f es
  tale-near b s f es l m = opens-near b s f es (tale-opens b s f es l m)

-- A member whose act follows has not hit itself.
acts-on : (s : Side) (w : ℕ) → (w ≡ 0) ⊎ (w ≡ side_number s) → (has_hit_itself 1 (side_number s) w ≡ false) × (has_hit_itself 2 (side_number s) w ≡ false)
acts-on s w (inl e) = (ap (has_hit_itself 1 (side_number s)) e, ap (has_hit_itself 2 (side_number s)) e)
acts-on One w (inr e) = (ap (has_hit_itself 1 1) e, ap (has_hit_itself 2 1) e)
acts-on Two w (inr e) = (ap (has_hit_itself 1 2) e, ap (has_hit_itself 2 2) e)

waits-either : (s : Side) (w i : ℕ) → w ≡ waiting_for s volatiles.Confusion i → (w ≡ 0) ⊎ (w ≡ side_number s)
waits-either s w i e = by (i == 0) e
  where
    by : (c : Bool) → w ≡ (if c then 0 else side_number s) → (w ≡ 0) ⊎ (w ≡ side_number s)
    by true h = inl h
    by false h = inr h

either-not : (s : Side) (w : ℕ) → (w ≡ 0) ⊎ (w ≡ side_number s) → w ≢ side_number (other s)
either-not s w (inl e) h = zero-not (other s) (sym e ∙ h)
either-not s w (inr e) h = own-not s (sym e ∙ h)

pub turned-near : (b : Bool) (s : Side) (f : Field) (es : List Event) → Turned s f es → Near b s f es
turned-near b s f es m =
    let w : ℕ = (told_by es).may_hit_itself in
    let k : (w ≡ 0) ⊎ (w ≡ side_number s) = waits-either s w _ m.waits in
    let h = acts-on s w k in
    record { even = even-settled (side_number s) f (told_by es) h.0 h.1 m.even; first = λ i. either-not s w k; lives = m.lives }

-- A silent hit is settled by any event that is not its own.
silent-settled : (s : Side) (k : ℕ) (f : Field) (p : Public) → p.may_hit_itself ≡ side_number s → (k == side_number s) ≡ false → Even f (hit s p) → Even f (settled_by k p)
silent-settled One k f p w h m = record {
  one = subst (λ (c : Bool). Does (broken_off_if c p.one) f.one) (sym (ap (has_hit_itself 1 k) w ∙ ap not h)) m.one;
  two = subst (λ (c : Bool). Does (broken_off_if c p.two) f.two) (sym (ap (has_hit_itself 2 k) w)) m.two;
}
silent-settled Two k f p w h m = record {
  one = subst (λ (c : Bool). Does (broken_off_if c p.one) f.one) (sym (ap (has_hit_itself 1 k) w)) m.one;
  two = subst (λ (c : Bool). Does (broken_off_if c p.two) f.two) (sym (ap (has_hit_itself 2 k) w ∙ ap not h)) m.two;
}

zero-own : (s : Side) → (0 == side_number s) ≡ false
zero-own One = refl
zero-own Two = refl

foe-own : (s : Side) → (side_number (other s) == side_number s) ≡ false
foe-own One = refl
foe-own Two = refl

silent-past : (b : Bool) (s : Side) (f : Field) (es : List Event) → Silent s f es → Past b s f es
silent-past b s f es m = record {
  even = silent-settled s 0 f (told_by es) m.waits (zero-own s) m.even;
  first = λ h. either-not s _ (inr m.waits);
}

-- Events

-- The next event, by the side that acts in it.
pub acted-tale : (U : Public → Type 0) (k : ℕ) (g : Field) (es : List Event) (e : Event) → acting e ≡ k → let q : Public = takes_in e (settled_by k (told_by es)) in
    Even g q → q.may_hit_itself ≡ 0 → U q → Tale U g (es ++ e ∷ [])
unfolding settled
acted-tale U k g es e a x y z = tells-next U g es e
    (subst (λ (i : ℕ). Even g (takes_in e (settled_by i (told_by es)))) (sym a) x)
    (subst (λ (i : ℕ). (takes_in e (settled_by i (told_by es))).may_hit_itself ≡ 0) (sym a) y)
    (subst (λ (i : ℕ). U (takes_in e (settled_by i (told_by es)))) (sym a) z)

pub dull-tale : (k : ℕ) (g : Field) (es : List Event) (e : Event) → acting e ≡ k → is_dull e ≡ true → Even g (settled_by k (told_by es)) → Tale Nothing_more g (es ++ e ∷ [])
dull-tale k g es e a d m =
    let q : Public = settled_by k (told_by es) in
    acted-tale Nothing_more k g es e a (even-fades g q (takes_in e q) (λ u. dull-fades e d u q) m) (dull-quiet e d q refl) tt

-- A change of one side with its event.
pub out-tale : (U : Public → Type 0) (k : ℕ) (u : Side) (h : PublicSide → PublicSide) (t : Party) (f : Field) (es : List Event) (e : Event) → acting e ≡ k
    → let q : Public = settled_by k (told_by es) in takes_in e q ≡ on_out u h q → BothOut f → (Does (public_side u q) (party u f) → Does (h (public_side u q)) t) → Even f q
    → U (on_out u h q) → Tale U (with_party u t f) (es ++ e ∷ [])
out-tale U k u h t f es e a is o d m z =
    let q : Public = settled_by k (told_by es) in
    acted-tale U k (with_party u t f) es e a
    (subst (Even (with_party u t f)) (sym is) (even-party u h t f q o (d (does-in u m)) m))
    (subst (λ (p : Public). p.may_hit_itself ≡ 0) (sym is) (pending-out u h q))
    (subst U (sym is) z)

-- Being kept from acting

abbrev pub is_light : CantReason → Bool
is_light reasons.Disabled = false
is_light reasons.Paralysed = false
is_light _ = true

light-fades : (why : CantReason) → is_light why ≡ true → (x : PublicSide) → Fades (is_kept why x) x
light-fades reasons.Flinched h x = record { same = refl; reach = λ e. e; rests = λ e. absurd (e refl); last = refl }
light-fades reasons.Recharging h x = record { same = refl; reach = λ e. e; rests = λ e. absurd (e refl); last = refl }
light-fades reasons.Disabled h x = absurd (true≢false (sym h))
light-fades reasons.Paralysed h x = absurd (true≢false (sym h))
light-fades _ h x = record { same = refl; reach = λ e. e; rests = λ e. e; last = refl }

kept-light : (why : CantReason) → is_light why ≡ true → (s : Side) (f : Field) (es : List Event) → Even f (settled_by (side_number s) (told_by es)) → Kept why s f es
kept-light why h s f es m = even-fades f (settled_by (side_number s) (told_by es)) _ (λ u. fades-side s u (is_kept why) _ (light-fades why h)) m

cant-tale : (why : CantReason) (s : Side) (f : Field) (es : List Event) → Kept why s f es → Tale Nothing_more f (es ++ events.Cant (who_in s f) why ∷ [])
unfolding takes_in
cant-tale why s f es m = acted-tale Nothing_more (side_number s) f es (events.Cant (who_in s f) why) refl m (pending-out s (is_kept why) _) tt

kept-disabled : (s : Side) (f : Field) (es : List Event) → BothOut f → Even f (settled_by (side_number s) (told_by es)) → Kept reasons.Disabled s (changed_conditions s without_charging f) es
unfolding changed_active changed_conditions without_charging
kept-disabled s f es o m =
    let q : Public = settled_by (side_number s) (told_by es) in
    let d = does-in s m in
    even-party s (is_kept reasons.Disabled) (with_conditions without_charging (party s f)) f q o
    (record { same = ap (λ (k : Deeds). record k { charging = 0 }) d.same; reach = d.reach; rests = d.rests; last = d.last; few = d.few }) m

kept-paralysed : (s : Side) (f : Field) (es : List Event) → BothOut f → Even f (settled_by (side_number s) (told_by es)) → Kept reasons.Paralysed s (changed_conditions s broken_off f) es
unfolding changed_active changed_conditions broken_off
kept-paralysed s f es o m =
    let q : Public = settled_by (side_number s) (told_by es) in
    let d = does-in s m in
    even-party s (is_kept reasons.Paralysed) (with_conditions broken_off (party s f)) f q o
    (record { same = ap (λ (k : Deeds). record k { bide = 0; charging = 0 }) d.same; reach = d.reach; rests = d.rests; last = d.last; few = d.few }) m

-- The hit on itself

lives-conditions : (s : Side) (change : ActiveConditions → ActiveConditions) (f : Field) → is_living (member_in s f) ≡ true → is_living (member_in s (changed_conditions s change f)) ≡ true
unfolding changed_active changed_conditions
lives-conditions One change f l = l
lives-conditions Two change f l = l

does-hit : (x : PublicSide) (t : Party) → Does x t → Does (takes_damage sources.Confusion x) (with_conditions broken_off t)
unfolding broken_off
does-hit x t m = record { same = ap (λ (k : Deeds). record k { bide = 0; charging = 0 }) m.same; reach = λ e. absurd (e refl); rests = m.rests; last = m.last; few = m.few }

turned-hurt : (s : Side) (f : Field) (es : List Event) → Turned s f es → Hurt s (changed_conditions s broken_off f) es
unfolding changed_active changed_conditions
turned-hurt One f es m = record {
  even = record { one = does-hit (told_by es).one f.one m.even.one; two = m.even.two };
  waits = m.waits;
  lives = lives-conditions One broken_off f m.lives;
}
turned-hurt Two f es m = record {
  even = record { one = m.even.one; two = does-hit (told_by es).two f.two m.even.two };
  waits = m.waits;
  lives = lives-conditions Two broken_off f m.lives;
}

-- A change of reach, which is lost.
abbrev Level : (ActiveConditions → ActiveConditions) → Type 0
Level change = (place : ℕ) (c : ActiveConditions) → deeds_of place (core (change c)) ≡ deeds_of place (core c)

does-level : (change : ActiveConditions → ActiveConditions) → Level change → (x : PublicSide) (t : Party) → Does (takes_damage sources.Confusion x) t
    → Does (takes_damage sources.Confusion x) (with_conditions change t)
does-level change h x t m = record { same = m.same ∙ sym (h t.active.place t.active.conditions); reach = λ e. absurd (e refl); rests = m.rests; last = m.last; few = m.few }

hurt-level : (s : Side) (change : ActiveConditions → ActiveConditions) → Level change → (f : Field) (es : List Event) → Hurt s f es → Hurt s (changed_conditions s change f) es
unfolding changed_active changed_conditions
hurt-level One change h f es m = record {
  even = record { one = does-level change h (told_by es).one f.one m.even.one; two = m.even.two };
  waits = m.waits;
  lives = lives-conditions One change f m.lives;
}
hurt-level Two change h f es m = record {
  even = record { one = m.even.one; two = does-level change h (told_by es).two f.two m.even.two };
  waits = m.waits;
  lives = lives-conditions Two change f m.lives;
}

sub-told : (s : Side) (f : Field) (p : Public) (c : Bool) → Even f (hit s p) → is_some (conditions_in s f).substitute ≡ c → (public_side s p).announced.substitute ≡ bit_of c
sub-told One f p c m e = ap (λ (k : Deeds). k.substitute) m.one.same ∙ ap bit_of e
sub-told Two f p c m e = ap (λ (k : Deeds). k.substitute) m.two.same ∙ ap bit_of e

hurt-silent : (s : Side) (f : Field) (es : List Event) → is_some (conditions_in s f).substitute ≡ true → Hurt s f es → Silent s f es
hurt-silent s f es e m = record { even = m.even; waits = m.waits ∙ ap (waiting_for s volatiles.Confusion) (sub-told s f (told_by es) true m.even e) }

-- It is hurt, and its hit will be told of.
record Bare (s : Side) (f : Field) (es : List Event) : Type 0 where
  even : Even f (hit s (told_by es))
  none : (told_by es).may_hit_itself ≡ 0
  lives : is_living (member_in s f) ≡ true

hurt-bare : (s : Side) (f : Field) (es : List Event) → is_some (conditions_in s f).substitute ≡ false → Hurt s f es → Bare s f es
hurt-bare s f es e m = record { even = m.even; none = m.waits ∙ ap (waiting_for s volatiles.Confusion) (sub-told s f (told_by es) false m.even e); lives = m.lives }

hit-settled : (s : Side) (k : ℕ) (f : Field) (p : Public) → p.may_hit_itself ≡ 0 → Even f (hit s p) → Even f (hit s (settled_by k p))
hit-settled One k f p w m = record {
  one = subst (λ (c : Bool). Does (takes_damage sources.Confusion (broken_off_if c p.one)) f.one) (sym (ap (has_hit_itself 1 k) w)) m.one;
  two = subst (λ (c : Bool). Does (broken_off_if c p.two) f.two) (sym (ap (has_hit_itself 2 k) w)) m.two;
}
hit-settled Two k f p w m = record {
  one = subst (λ (c : Bool). Does (broken_off_if c p.one) f.one) (sym (ap (has_hit_itself 1 k) w)) m.one;
  two = subst (λ (c : Bool). Does (takes_damage sources.Confusion (broken_off_if c p.two)) f.two) (sym (ap (has_hit_itself 2 k) w)) m.two;
}

abbrev own_hurt : ℕ → PublicSide → PublicSide
own_hurt hp x = takes_damage sources.Confusion (on_seen (λ m. record m { hp = hp }) x)

does-hurt : (hp amount : ℕ) (x : PublicSide) (t : Party) → (n : Member) → traits n ≡ traits (member_at t.active.place t) → Does (takes_damage sources.Confusion x) t
    → Does (own_hurt hp x) (with_member t.active.place n t)
does-hurt hp amount x t n e m =
    let k = does-member n (takes_damage sources.Confusion x) t e m in
    record { same = k.same; reach = λ i. absurd (i refl); rests = k.rests; last = k.last; few = k.few }

even-hurt : (s : Side) (hp amount : ℕ) (f : Field) (q : Public) → BothOut f → Even f (hit s q) → Even (changed_member s (hurt_by amount) f) (on_out s (own_hurt hp) q)
unfolding changed_member hurt_by
even-hurt One hp amount f q o m =
    let e : q.one.place ≡ f.one.active.place = ap (λ (k : Deeds). k.place) m.one.same in
    let low : 1 ≤ q.one.place = omega (arith, o.one.placed, e) in
    record {
      one = subst (λ (x : PublicSide). Does x (with_member f.one.active.place (hurt_by amount (member_in One f)) f.one)) (sym (out-side One (own_hurt hp) q low))
          (does-hurt hp amount q.one f.one _ refl m.one);
      two = subst (λ (x : PublicSide). Does x f.two) (sym (foe-side One (own_hurt hp) q)) m.two;
    }
even-hurt Two hp amount f q o m =
    let e : q.two.place ≡ f.two.active.place = ap (λ (k : Deeds). k.place) m.two.same in
    let low : 1 ≤ q.two.place = omega (arith, o.two.placed, e) in
    record {
      one = subst (λ (x : PublicSide). Does x f.one) (sym (foe-side Two (own_hurt hp) q)) m.one;
      two = subst (λ (x : PublicSide). Does x (with_member f.two.active.place (hurt_by amount (member_in Two f)) f.two)) (sym (out-side Two (own_hurt hp) q low))
          (does-hurt hp amount q.two f.two _ refl m.two);
    }

bare-tale : (s : Side) (amount : ℕ) (f : Field) (es : List Event) → BothOut f → Bare s f es → let g : Field = changed_member s (hurt_by amount) f in
    Tale Nothing_more g (es ++ events.Damage (who_in s g) (health_in s g) sources.Confusion ∷ [])
unfolding takes_in
bare-tale s amount f es o m =
    let g : Field = changed_member s (hurt_by amount) f in
    let q : Public = settled_by 0 (told_by es) in
    let h : Health = health_in s g in
    acted-tale Nothing_more 0 g es (events.Damage (who_in s g) h sources.Confusion) refl
    (even-hurt s h.hp amount f q o (hit-settled s 0 f (told_by es) m.none m.even)) (pending-out s (own_hurt h.hp) q) tt

-- Damage before types is positive.
abbrev IsPositive : Option ℕ → Type 0
IsPositive None = Unit {0}
IsPositive (Some d) = nat_lt 0 d ≡ true

divided-positive : (level power attack defense : ℕ) → IsPositive (divided level power attack defense)
divided-positive level power attack zero = tt
divided-positive level power attack (suc d) = lt-ltb 0 _ (omega arith)

-- Phases

-- A fact of the field and of all events, in the middle of an update.
pub record At (n : Sizes) (pre : List Event) (K : Field → List Event → Type 0) (f : Field) (es : List Event) : Type 0 where
  pub begun : Begun n f
  pub is : K f (pre ++ es)

abbrev pub In : Sizes → List Event → (Field → List Event → Type 0) → Progress → Type 0
In n pre K p = At n pre K p.field p.events

module _ {n : Sizes} {pre : List Event} {K L : Field → List Event → Type 0} where
  pub at-weak : ((f : Field) (es : List Event) → K f es → L f es) → (p : Progress) → In n pre K p → In n pre L p
  at-weak h p m = record { begun = m.begun; is = h p.field (pre ++ p.events) m.is }

  pub at-stop : {Q : Progress → Type 0} → ((f : Field) (es : List Event) → K f es → L f es) → Leads (In n pre K) Q (In n pre L) stop
  at-stop h = stop-leads (λ p m. record { begun = m.begun; is = h p.field (pre ++ p.events) m.is })

module _ {n : Sizes} {pre : List Event} {K L : Field → List Event → Type 0} {S : Progress → Type 0} where
  pub at-field : (change : Field → Field) → ((f : Field) → Begun n f → Begun n (change f)) → ((f : Field) (es : List Event) → BothOut f → K f es → L (change f) es)
      → Leads (In n pre K) (In n pre L) S (on_field change)
  unfolding on_field
  at-field change b h = record { leads = λ p r m. Runs r (record { begun = b p.field m.begun; is = h p.field (pre ++ p.events) m.begun.both m.is }) }

  pub at-told : (change : Field → Field) (event : Field → Event) → ((f : Field) → Begun n f → Begun n (change f))
      → ((f : Field) (es : List Event) → BothOut f → K f es → L (change f) (es ++ event (change f) ∷ []))
      → Leads (In n pre K) (In n pre L) S (told change event)
  unfolding told
  at-told change event b h = record {
    leads = λ p r m. Runs r (record {
      begun = b p.field m.begun;
      is = at_end L (change p.field) pre p.events (event (change p.field)) (h p.field (pre ++ p.events) m.begun.both m.is);
    });
  }

  pub at-note : (event : Field → Event) → ((f : Field) (es : List Event) → BothOut f → K f es → L f (es ++ event f ∷ []))
      → Leads (In n pre K) (In n pre L) S (note event)
  unfolding note
  at-note event h = record {
    leads = λ p r m. Runs r (record { begun = m.begun; is = at_end L p.field pre p.events (event p.field) (h p.field (pre ++ p.events) m.begun.both m.is) });
  }

  pub at-conditions : (s : Side) (change : ActiveConditions → ActiveConditions) → ((f : Field) (es : List Event) → BothOut f → K f es → L (changed_conditions s change f) es)
      → Leads (In n pre K) (In n pre L) S (on_conditions s change)
  unfolding on_conditions
  at-conditions s change h = at-field (changed_conditions s change) (begun-conditions s change) h

  pub at-member : (s : Side) (change : Member → Member) → ((f : Field) (es : List Event) → BothOut f → K f es → L (changed_member s change f) es)
      → Leads (In n pre K) (In n pre L) S (on_member s change)
  unfolding on_member
  at-member s change h = at-field (changed_member s change) (begun-member s change) h

  pub at-draw : {f : ℕ → Phase} → ((x : ℕ) → Leads (In n pre K) (In n pre L) S (f x)) → Leads (In n pre K) (In n pre L) S (draw f)
  unfolding draw
  at-draw h = record { leads = λ p r m. (h (byte_at p.stream p.drawn)).leads (record p { drawn = p.drawn + 1 }) r m }

begun-damage : {n : Sizes} (damage : ℕ) (f : Field) → Begun n f → Begun n (with_last_damage damage f)
unfolding with_last_damage
begun-damage damage f b = record { both = record { one = b.both.one; two = b.both.two }; sized = record { one = b.sized.one; two = b.sized.two } }

begun-outcome : {n : Sizes} (k : ℕ) (f : Field) → Begun n f → Begun n (with_outcome (outcomes.Fault k) f)
unfolding with_outcome
begun-outcome k f b = record { both = record { one = b.both.one; two = b.both.two }; sized = record { one = b.sized.one; two = b.sized.two } }

hurt-damage : (s : Side) (damage : ℕ) (f : Field) (es : List Event) → Hurt s f es → Hurt s (with_last_damage damage f) es
unfolding with_last_damage
hurt-damage One damage f es m = record { even = record { one = m.even.one; two = m.even.two }; waits = m.waits; lives = m.lives }
hurt-damage Two damage f es m = record { even = record { one = m.even.one; two = m.even.two }; waits = m.waits; lives = m.lives }

bare-damage : (s : Side) (damage : ℕ) (f : Field) (es : List Event) → Bare s f es → Bare s (with_last_damage damage f) es
unfolding with_last_damage
bare-damage One damage f es m = record { even = record { one = m.even.one; two = m.even.two }; none = m.none; lives = m.lives }
bare-damage Two damage f es m = record { even = record { one = m.even.one; two = m.even.two }; none = m.none; lives = m.lives }

faulted : (k : ℕ) (f : Field) → is_fault (with_outcome (outcomes.Fault k) f).outcome ≡ true
unfolding with_outcome
faulted k f = refl

and-both : (a b : Bool) → a ≡ true → b ≡ true → (a && b) ≡ false → ⊥
and-both a b x y z = true≢false (sym (ap (λ (c : Bool). c && b) x ∙ y) ∙ z)

opens-conditions : (b : Bool) (s : Side) (change : ActiveConditions → ActiveConditions) → Bland change → (f : Field) (es : List Event) → Opens b s f es → Opens b s (changed_conditions s change f) es
opens-conditions b s change h f es m = record { even = even-conditions s change h f _ m.even; free = m.free; first = m.first; lives = lives-conditions s change f m.lives }

sleep-tame : Tame with_sleep_one_less
unfolding with_sleep_one_less
sleep-tame m = refl

-- A volatile of the actor ends.
near-ends : (b : Bool) (s : Side) (what : Volatile) (change : ActiveConditions → ActiveConditions) → Marks what false change → (f : Field) (es : List Event) → BothOut f → Near b s f es
    → let g : Field = changed_conditions s change f in Tale Nothing_more g (es ++ events.End (who_in s g) what ∷ [])
unfolding changed_active changed_conditions
near-ends b s what change h f es o m =
    let g : Field = changed_conditions s change f in
    out-tale Nothing_more (side_number s) s (on_announced (set_volatile what 0)) (with_conditions change (party s f)) f es (events.End (who_in s g) what) refl
    (end-hears (who_in s g) what _) o (does-marked what false change h _ (party s f)) m.even tt

record Turning (s : Side) (f : Field) (p : Public) : Type 0 where
  even : Even f p
  waits : p.may_hit_itself ≡ waiting_for s volatiles.Confusion (public_side s p).announced.substitute
  lives : is_living (member_in s f) ≡ true

turning : (s : Side) (f : Field) (q : Public) → Even f q → is_living (member_in s f) ≡ true → Turning s f (activates s volatiles.Confusion q)
turning One f q m l = record { even = record { one = m.one; two = m.two }; waits = refl; lives = l }
turning Two f q m l = record { even = record { one = m.one; two = m.two }; waits = refl; lives = l }

confused-told : (s : Side) (g : Field) (es : List Event) → activates s volatiles.Confusion (settled_by (side_number s) (told_by es)) ≡ told_by (es ++ events.Activate (who_in s g) volatiles.Confusion ∷ [])
unfolding takes_in settled
confused-told s g es =
    let e : Event = events.Activate (who_in s g) volatiles.Confusion in
    sym (hears_all-last es e first_public ∙ hears-in e (told_by es))

near-turned : (b : Bool) (s : Side) (f : Field) (es : List Event) → Near b s f es
    → let g : Field = changed_conditions s with_confusion_one_less f in Turned s g (es ++ events.Activate (who_in s g) volatiles.Confusion ∷ [])
near-turned b s f es m =
    let g : Field = changed_conditions s with_confusion_one_less f in
    let q : Public = settled_by (side_number s) (told_by es) in
    let t : Turning s g (told_by (es ++ events.Activate (who_in s g) volatiles.Confusion ∷ [])) =
    subst (Turning s g) (confused-told s g es) (turning s g q (even-conditions s with_confusion_one_less (calm-bland with_confusion_one_less confusion-calm) f q m.even)
    (lives-conditions s with_confusion_one_less f m.lives)) in
    record { even = t.even; waits = t.waits; lives = t.lives }

-- The substitute of the foe takes a silent hit.
silent-ends : (s : Side) (f : Field) (es : List Event) → BothOut f → Silent s f es → let g : Field = changed_conditions (other s) without_substitute f in
    Tale Nothing_more g (es ++ events.End (who_in (other s) g) volatiles.Substitute ∷ [])
unfolding changed_active changed_conditions without_substitute
silent-ends s f es o m =
    let g : Field = changed_conditions (other s) without_substitute f in
    let k : ℕ = side_number (other s) in
    out-tale Nothing_more k (other s) (on_announced (set_volatile volatiles.Substitute 0)) (with_conditions without_substitute (party (other s) f)) f es
    (events.End (who_in (other s) g) volatiles.Substitute) refl (end-hears (who_in (other s) g) volatiles.Substitute _) o
    (does-marked volatiles.Substitute false without_substitute (λ c. refl) _ (party (other s) f)) (silent-settled s k f (told_by es) m.waits (foe-own s) m.even) tt

silent-lasts : (s : Side) (damage : ℕ) (f : Field) (es : List Event) → Silent s f es → let g : Field = changed_conditions (other s) (with_substitute_hurt damage) f in
    Tale Nothing_more g (es ++ events.Activate (who_in (other s) g) volatiles.Substitute ∷ [])
silent-lasts s damage f es m =
    let g : Field = changed_conditions (other s) (with_substitute_hurt damage) f in
    let k : ℕ = side_number (other s) in
    dull-tale k g es (events.Activate (who_in (other s) g) volatiles.Substitute) refl refl
    (even-conditions (other s) (with_substitute_hurt damage) (calm-bland (with_substitute_hurt damage) (substitute-calm damage)) f _ (silent-settled s k f (told_by es) m.waits (foe-own s) m.even))

disable-ends : Marks volatiles.Disable false without_disable
unfolding without_disable
disable-ends c = refl

confusion-ends : Marks volatiles.Confusion false without_confusion
unfolding without_confusion
confusion-ends c = refl

flinch-bland : Bland without_flinch
unfolding without_flinch
flinch-bland c = refl

recharge-bland : Bland without_recharge
unfolding without_recharge
recharge-bland c = refl

level-flinch : Level without_flinch
unfolding without_flinch
level-flinch place c = refl

level-reach : Level without_invulnerability
unfolding without_invulnerability
level-reach place c = refl

module _ {n : Sizes} {pre : List Event} (b : Bool) (s : Side) where
  -- Being kept from acting

  kept-cant : {Q : Progress → Type 0} (why : CantReason) → Leads (In n pre (Kept why s)) Q (In n pre (Over b s)) (cant s why)
  unfolding cant
  kept-cant why = at-note {L = Past b s} (λ f. events.Cant (who_in s f) why) (λ f es o m. tale-past b s f _ (cant-tale why s f es m)) ⊳ at-stop (λ f es m. inl m)

  pub light-cant : {Q : Progress → Type 0} (why : CantReason) → is_light why ≡ true → Leads (In n pre (Opens b s)) Q (In n pre (Over b s)) (cant s why)
  light-cant why h = before-leads (at-weak (λ f es m. kept-light why h s f es (opens-near b s f es m).even)) (kept-cant why)

  light-after : {Q : Progress → Type 0} (why : CantReason) → is_light why ≡ true → (change : ActiveConditions → ActiveConditions) → Bland change
      → Leads (In n pre (Opens b s)) Q (In n pre (Over b s)) (on_conditions s change ▸ cant s why)
  light-after why h change c = at-conditions {L = Opens b s} s change (λ f es o m. opens-conditions b s change c f es m) ⊳ light-cant why h

  -- What rules out any action

  opens-wakes : {Q : Progress → Type 0} → Leads (In n pre (Opens b s)) Q (In n pre (Over b s)) (wake s)
  unfolding wake
  opens-wakes = at-told {L = Past b s} (changed_member s with_sleep_one_less) (λ f. events.Cure (who_in s f) kinds.Sleep) (begun-member s with_sleep_one_less)
      (λ f es o m. tale-past b s _ _ (dull-tale 0 _ es _ refl refl (even-member s with_sleep_one_less sleep-tame f _ m.even))) ⊳ at-stop (λ f es m. inl m)

  opens-sleeps : {Q : Progress → Type 0} → Leads (In n pre (Opens b s)) Q (In n pre (Over b s)) (sleep_on s)
  unfolding sleep_on
  opens-sleeps = at-member {L = Kept reasons.Asleep s} s with_sleep_one_less
      (λ f es o m. kept-light reasons.Asleep refl s _ es (even-member s with_sleep_one_less sleep-tame f _ (opens-near b s f es m).even)) ⊳ kept-cant reasons.Asleep

  sleep-deeds : (status : Status) → Leads (In n pre (Opens b s)) (In n pre (Opens b s)) (In n pre (Over b s)) (sleep_test s status)
  unfolding sleep_test
  sleep-deeds (Asleep turns marked) = choose-tells _ opens-wakes opens-sleeps
  sleep-deeds _ = stay-tells

  pub status-deeds : Leads (In n pre (Opens b s)) (In n pre (Opens b s)) (In n pre (Over b s)) (gate_of_status s)
  unfolding gate_of_status frozen_test trapped_test
  status-deeds = given-tells _ sleep-deeds ⊳ choose-tells _ (light-cant reasons.Frozen refl) stay-tells ⊳ choose-tells _ (light-cant reasons.PartiallyTrapped refl) stay-tells

  -- What has to pass first

  disable-deeds : (x : Option DisabledSlot) → Leads (In n pre (Opens b s)) (In n pre (Opens b s)) (In n pre (Over b s)) (disable_count s x)
  unfolding disable_count ends
  disable-deeds None = stay-tells
  disable-deeds (Some d) = choose-tells _
      (at-told (changed_conditions s without_disable) (λ f. events.End (who_in s f) volatiles.Disable) (begun-conditions s without_disable)
      (λ f es o m. tale-opens b s _ _ (lives-conditions s without_disable f m.lives) (near-ends b s volatiles.Disable without_disable disable-ends f es o (opens-near b s f es m))))
      (at-conditions s with_disable_one_less (λ f es o m. opens-conditions b s with_disable_one_less (calm-bland with_disable_one_less disable-calm) f es m))

  pub turn-deeds : Leads (In n pre (Opens b s)) (In n pre (Opens b s)) (In n pre (Over b s)) (gate_of_turn s)
  unfolding gate_of_turn flinch_test recharge_test
  turn-deeds = choose-tells _ (light-after reasons.Flinched refl without_flinch flinch-bland) stay-tells
      ⊳ choose-tells _ (light-after reasons.Recharging refl without_recharge recharge-bland) stay-tells
      ⊳ given-tells _ disable-deeds

  -- The hit on itself

  fault-deeds : {K : Field → List Event → Type 0} {Q : Progress → Type 0} (k : ℕ) → Leads (In n pre K) Q (In n pre (Over b s)) (fault k)
  unfolding fault
  fault-deeds k = at-field {L = λ f es. is_fault f.outcome ≡ true} (with_outcome (outcomes.Fault k)) (begun-outcome k) (λ f es o m. faulted k f) ⊳ at-stop (λ f es m. inr m)

  broke-deeds : {K : Field → List Event → Type 0} {S : Progress → Type 0} → Leads (In n pre K) (In n pre K) S set_broke
  unfolding set_broke on_action
  broke-deeds = record { leads = λ p r m. Runs r m }

  silent-lands : (damage hp : ℕ) → Leads (In n pre (Silent s)) (In n pre (Past b s)) (In n pre (Over b s)) (land_on_substitute (other s) damage hp)
  unfolding land_on_substitute ends lasts
  silent-lands damage hp = choose-tells _
      (broke-deeds ⊳ at-told (changed_conditions (other s) without_substitute) (λ f. events.End (who_in (other s) f) volatiles.Substitute) (begun-conditions (other s) without_substitute)
      (λ f es o m. tale-past b s _ _ (silent-ends s f es o m)))
      (at-told (changed_conditions (other s) (with_substitute_hurt damage)) (λ f. events.Activate (who_in (other s) f) volatiles.Substitute) (begun-conditions (other s) (with_substitute_hurt damage))
      (λ f es o m. tale-past b s _ _ (silent-lasts s damage f es m)))

  foes-deeds : (damage : ℕ) (x : Option ℕ) → Leads (In n pre (Silent s)) (In n pre (Past b s)) (In n pre (Over b s)) (land_on_foes_substitute s damage x)
  unfolding land_on_foes_substitute
  foes-deeds damage None = after-leads (at-weak (λ f es m. silent-past b s f es m)) stay-tells
  foes-deeds damage (Some hp) = silent-lands damage hp

  bare-loses : (damage : ℕ) → nat_lt 0 damage ≡ true → Leads (In n pre (Bare s)) (In n pre (Past b s)) (In n pre (Over b s)) (lose_hp s sources.Confusion damage)
  unfolding lose_hp
  bare-loses damage h = choose-sees _
      (before-leads (λ p m. m.0) (at-told (changed_member s (hurt_by damage)) (λ f. events.Damage (who_in s f) (health_in s f) sources.Confusion) (begun-member s (hurt_by damage))
      (λ f es o m. tale-past b s _ _ (bare-tale s damage f es o m))))
      (record { leads = λ p r m. absurd (and-both (nat_lt 0 damage) (is_living (member_in s p.field)) h m.0.is.lives m.1) })

  bare-lands : (damage : ℕ) → nat_lt 0 damage ≡ true → Leads (In n pre (Bare s)) (In n pre (Past b s)) (In n pre (Over b s)) (land_on_hp s sources.Confusion damage)
  unfolding land_on_hp set_last_damage
  bare-lands damage h = given-tells _ (λ m. at-field (with_last_damage _) (begun-damage _) (λ f es o k. bare-damage s _ f es k) ⊳ bare-loses damage h)

  hurt_by-deeds : (x : Option ℕ) → IsPositive x → Leads (In n pre (Hurt s)) (In n pre (Past b s)) (In n pre (Over b s)) (hurt_itself_by s x)
  unfolding hurt_itself_by set_last_damage
  hurt_by-deeds None h = fault-deeds 1
  hurt_by-deeds (Some damage) h = at-field {L = Hurt s} (with_last_damage damage) (begun-damage damage) (λ f es o m. hurt-damage s damage f es m) ⊳ choose-sees (has_substitute s)
      (before-leads (λ p m. record { begun = m.0.begun; is = hurt-silent s p.field _ m.1 m.0.is }) (given-tells _ (foes-deeds damage)))
      (before-leads (λ p m. record { begun = m.0.begun; is = hurt-bare s p.field _ m.1 m.0.is }) (bare-lands damage h))

  hurt-deeds : {Q : Progress → Type 0} → Leads (In n pre (Turned s)) Q (In n pre (Over b s)) (hurt_itself s)
  unfolding hurt_itself
  hurt-deeds = at-conditions {L = Hurt s} s broken_off (λ f es o m. turned-hurt s f es m)
      ⊳ at-conditions {L = Hurt s} s without_flinch (λ f es o m. hurt-level s without_flinch level-flinch f es m)
      ⊳ at-conditions {L = Hurt s} s without_invulnerability (λ f es o m. hurt-level s without_invulnerability level-reach f es m)
      ⊳ given-tells _ (λ x. hurt_by-deeds (before_types x) (divided-positive x.level x.power x.attack _)) ⊳ at-stop (λ f es m. inl m)

  -- What rules out this action

  pub confusion-deeds : (x : Option ℕ) → Leads (In n pre (Opens b s)) (In n pre (Near b s)) (In n pre (Over b s)) (confusion_test s x)
  unfolding confusion_test ends lasts may_hurt_itself
  confusion-deeds None = after-leads (at-weak (λ f es m. opens-near b s f es m)) stay-tells
  confusion-deeds (Some turns) = choose-tells _
      (at-told (changed_conditions s without_confusion) (λ f. events.End (who_in s f) volatiles.Confusion) (begun-conditions s without_confusion)
      (λ f es o m. tale-near b s _ _ (lives-conditions s without_confusion f m.lives) (near-ends b s volatiles.Confusion without_confusion confusion-ends f es o (opens-near b s f es m))))
      (at-told {L = Turned s} (changed_conditions s with_confusion_one_less) (λ f. events.Activate (who_in s f) volatiles.Confusion) (begun-conditions s with_confusion_one_less)
      (λ f es o m. near-turned b s f es (opens-near b s f es m))
      ⊳ at-draw (λ x. choose-tells _ hurt-deeds (after-leads (at-weak (λ f es m. turned-near b s f es m)) stay-tells)))

  pub disabled-deeds : (pick : Pick) → Leads (In n pre (Near b s)) (In n pre (Near b s)) (In n pre (Over b s)) (disabled_test s pick)
  unfolding disabled_test
  disabled-deeds pick = choose-tells _ (at-conditions {L = Kept reasons.Disabled s} s without_charging (λ f es o m. kept-disabled s f es o m.even) ⊳ kept-cant reasons.Disabled) stay-tells

  pub paralysis-deeds : Leads (In n pre (Near b s)) (In n pre (Near b s)) (In n pre (Over b s)) (paralysis_test s)
  unfolding paralysis_test may_be_paralysed
  paralysis-deeds = choose-tells _
      (at-draw (λ x. choose-tells _ (at-conditions {L = Kept reasons.Paralysed s} s broken_off (λ f es o m. kept-paralysed s f es o m.even) ⊳ kept-cant reasons.Paralysed) stay-tells)) stay-tells
