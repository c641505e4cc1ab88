-- What active members do, through an action whose move is settled, and through a whole action.
use Rattle.std.proofs.Common.{[], Bool, List, None, Option, Some, ap, arith, false, if◌then◌else◌, inl, inr, is_some, length, length-set, nat_lt, not, refl, subst, sym, true, true≢false, ℕ, ◌+◌, ◌++◌, ◌-◌, ◌==◌, ◌∙◌, ◌∷◌, ◌≡◌, ◌≢◌, ◌≤◌, ◌⊎◌}
use Rattle.gen1_tables.specs.declared.effect.Effect.{Effect}
use Rattle.gen1_tables.specs.declared.effect.Effect.TheVariants as effects
use Rattle.gen1_tables.specs.Effects.{bides, charges, hides, recharges, thrashes, traps}
use Rattle.gen1_rolls.specs.Streams.{low_bits, Stream}
use Rattle.gen1_stats.specs.Members.{Member}
use Rattle.gen1_machine.specs.declared.side.Side.{Side}
use Rattle.gen1_machine.specs.declared.side.Side.TheVariants.{One, Two}
use Rattle.gen1_machine.specs.declared.event.Volatile.TheVariants as volatiles
use Rattle.gen1_machine.specs.declared.event.Event.{Event}
use Rattle.gen1_machine.specs.declared.event.Event.TheVariants as events
use Rattle.gen1_machine.specs.declared.side.Pick.{Pick}
use Rattle.gen1_machine.specs.declared.side.UsedMove.{UsedMove}
use Rattle.gen1_machine.specs.Moves.{move_at, Move}
use Rattle.gen1_machine.specs.Numbers.{side_number}
use Rattle.gen1_machine.specs.Picks.{used_by}
use Rattle.gen1_machine.specs.Rules.{bit_of}
use Rattle.gen1_machine.specs.Sides.{other}
use Rattle.gen1_machine.specs.Conditions.{with_bide, with_bide_storing, with_charging, with_invulnerability, without_bide, without_charging, without_invulnerability, Storing}
use Rattle.gen1_machine.specs.State.{active_in, changed_active, changed_conditions, changed_member, member_in, party, underway_in, who_in, with_current_move, with_kept_accuracy, with_last_damage, with_member, with_pp_spent, is_over, Field, Party, Terms}
use Rattle.gen1_machine.specs.Progress.{choose, ends, given, lasts, on_action, on_active, on_conditions, on_field, set_last_damage, set_missed, starts, stay, stop, underway, ◌▸◌, Action, Progress}
use Rattle.gen1_machine.specs.Ruling.{ruling_of}
use Rattle.gen1_machine.specs.GoingOn.{bide_goes_on, bide_on, let_energy_go, set_letting_go, store_energy}
use Rattle.gen1_machine.specs.Charging.{begin_charge, charge, end_charge, make_current}
use Rattle.gen1_machine.specs.EarlyEffects.{is_early}
use Rattle.gen1_machine.specs.LateEffects.{bide_for, is_late, late_effect, start_bide}
use Rattle.gen1_machine.specs.Action.{accuracy_to_keep, act, action_parts, begin, carry_out, damage_of, keep_accuracy, lead_up, lets_energy_go, move_taken_in, prelude, resume, see_if_going_on, set_going_on, spend_pp, use_move}
use Rattle.gen1_machine.specs.Plans.{FitsPick, IsPlanned, Plan}
use Rattle.gen1_machine.proofs.Keeps.{choose-keeps, given-keeps, on_active-keeps, on_member-keeps, stay-keeps, then-keeps, Keeps}
use Rattle.gen1_machine.proofs.Sound.{choose-sees}
use Rattle.gen1_machine.proofs.SoundWalk.{see_if_going_on-sound}
use Rattle.gen1_machine.proofs.Acts.{begin-quiet, quiet-sound, Quiet}
use Rattle.gen1_machine.proofs.Watching.{BothOut, after-leads, before-leads, choose-tells, given-sees, given-tells, if-sees, stay-tells, stop-leads, ◌⊳◌, Lands, Leads, Rests, Runs}
use Rattle.gen1_machine.proofs.Watching as watching
use Rattle.gen1_player.specs.declared.public.Public.{Public}
use Rattle.gen1_player.specs.declared.public_side.PublicSide.{PublicSide}
use Rattle.gen1_player.specs.Public.{bide, on_announced, on_out, prepares, public_side, set_volatile, settled_by, starts_bide, takes_in}
use Rattle.gen1_player.specs.True.{is_fault}
use Rattle.gen1_player.proofs.Facts.{storing-calm, Sizes}
use Rattle.gen1_player.proofs.Stories.{begun-active, begun-conditions, Begun, MayFall, Now, Story, stop-tells}
use Rattle.gen1_player.proofs.HeardSides.{bide-hears, end-hears, foe-side, out-side, prepare-hears}
use Rattle.gen1_player.proofs.ToldEffects.{early_effect-tells, late_effect-tells, may_poison_by, not-toxic, ruling_of-tells}
use Rattle.gen1_player.proofs.ToldActions.{damage_of-tells, prelude-tells, spent-tame, strike-tells}
use Rattle.gen1_player.proofs.Appearing.{bide-number}
use Rattle.gen1_player.proofs.Deeds.{calm-bland, core, current-kept, current_of, deeds, deeds_of, even-active, even-conditions, pending-out, with_conditions, Deeds, Does, Even}
use Rattle.gen1_player.proofs.DeedStory.{Lasts, Tale, deeding, does-marked, told_by}
use Rattle.gen1_player.proofs.DeedGate.{acted-tale, at-conditions, at-draw, at-field, at-member, at-note, at-stop, at-told, at-weak, dull-tale, out-tale, tale-past, In, Near, Nothing_more, Opens, Over, Past}
use Rattle.gen1_player.proofs.DeedActs.{bide-power, due-uses, ending-due, gate_or_held-deeds, is-bide, nothing-lasts, off-due, off-ending, reach-if, rests-leads, tie-of, used-lasts, uses-spent, uses-tale, with-keeps, foe_of, own_of, taken_up, Due, Ending, IdleIsQuiet, Off, Ready, Tie, UsedBy, Uses}

-- The first turn of a charged move

record Raises (x : PublicSide) (t : Party) : Type 0 where
  same : record (deeds x) { charging = 1 } ≡ deeds_of t.active.place (core t.active.conditions)
  reach : x.invulnerable ≢ 0 → t.active.conditions.invulnerable ≡ true
  few : length t.members ≤ 6

record Plainly (x : PublicSide) (t : Party) : Type 0 where
  same : deeds x ≡ deeds_of t.active.place (core t.active.conditions)
  reach : x.invulnerable ≢ 0 → t.active.conditions.invulnerable ≡ true
  few : length t.members ≤ 6

record Taken (s : Side) (move : Move) (K : PublicSide → Party → Type 0) (f : Field) (es : List Event) : Type 0 where
  mine : K (own_of s es) (party s f)
  theirs : Does (foe_of s es) (party (other s) f)
  current : current_of (party s f) ≡ move.number

off-taken : (b : Bool) (s : Side) (pick : Pick) (move : Move) (f : Field) (es : List Event) → Off b s pick move f es → Taken s move Plainly (taken_up s pick f) es
unfolding changed_active with_current_move
off-taken b One pick move f es m = let e = m.ready.near.even in record { mine = record { same = e.one.same; reach = e.one.reach; few = e.one.few }; theirs = e.two; current = m.ready.named }
off-taken b Two pick move f es m = let e = m.ready.near.even in record { mine = record { same = e.two.same; reach = e.two.reach; few = e.two.few }; theirs = e.one; current = m.ready.named }

charging-raises : (x : PublicSide) (t : Party) → Plainly x t → Raises x (with_conditions with_charging t)
unfolding with_charging
charging-raises x t m = record { same = ap (λ (k : Deeds). record k { charging = 1 }) m.same; reach = m.reach; few = m.few }

taken-raises : (s : Side) (move : Move) (f : Field) (es : List Event) → Taken s move Plainly f es → Taken s move Raises (changed_conditions s with_charging f) es
unfolding changed_active changed_conditions
taken-raises One move f es m = record { mine = charging-raises _ f.one m.mine; theirs = m.theirs; current = m.current }
taken-raises Two move f es m = record { mine = charging-raises _ f.two m.mine; theirs = m.theirs; current = m.current }

-- Its event will be heard.
abbrev Primes : Move → PublicSide → Party → Type 0
Primes move x t = Does (prepares move.number x) t

hidden-primes : (move : Move) (x : PublicSide) (t : Party) → current_of t ≡ move.number → Raises x t → Primes move x (with_conditions with_invulnerability t)
unfolding with_invulnerability
hidden-primes move x t e m = record { same = m.same; reach = λ i. refl; rests = λ i. absurd (i refl); last = sym e; few = m.few }

plain-reach : (h : Bool) (i : ℕ) → h ≡ false → (if h then 1 else i) ≢ 0 → i ≢ 0
plain-reach h i e k = subst (λ (c : Bool). (if c then 1 else i) ≢ 0) e k

open-primes : (move : Move) (x : PublicSide) (t : Party) → hides (move_at move.number).effect ≡ false → current_of t ≡ move.number → Raises x t → Primes move x t
open-primes move x t h e m = record {
  same = m.same;
  reach = λ i. m.reach (plain-reach (hides (move_at move.number).effect) x.invulnerable h i);
  rests = λ i. absurd (i refl);
  last = sym e;
  few = m.few;
}

raises-hidden : (s : Side) (move : Move) (f : Field) (es : List Event) → Taken s move Raises f es → Taken s move (Primes move) (changed_conditions s with_invulnerability f) es
unfolding changed_active changed_conditions
raises-hidden One move f es m = record { mine = hidden-primes move _ f.one m.current m.mine; theirs = m.theirs; current = m.current }
raises-hidden Two move f es m = record { mine = hidden-primes move _ f.two m.current m.mine; theirs = m.theirs; current = m.current }

raises-open : (s : Side) (move : Move) (f : Field) (es : List Event) → hides (move_at move.number).effect ≡ false → Taken s move Raises f es → Taken s move (Primes move) f es
raises-open s move f es h m = record { mine = open-primes move _ (party s f) h m.current m.mine; theirs = m.theirs; current = m.current }

primed : (s : Side) (move : Move) (f : Field) (q : Public) → BothOut f → Primes move (public_side s q) (party s f) → Does (public_side (other s) q) (party (other s) f)
    → Even f (on_out s (prepares move.number) q)
primed One move f q o mine theirs =
    let at : q.one.place ≡ f.one.active.place = ap (λ (d : Deeds). d.place) mine.same in
    record {
      one = subst (λ (x : PublicSide). Does x f.one) (sym (out-side One (prepares move.number) q (omega (arith, o.one.placed, at)))) mine;
      two = subst (λ (x : PublicSide). Does x f.two) (sym (foe-side One (prepares move.number) q)) theirs;
    }
primed Two move f q o mine theirs =
    let at : q.two.place ≡ f.two.active.place = ap (λ (d : Deeds). d.place) mine.same in
    record {
      one = subst (λ (x : PublicSide). Does x f.one) (sym (foe-side Two (prepares move.number) q)) theirs;
      two = subst (λ (x : PublicSide). Does x f.two) (sym (out-side Two (prepares move.number) q (omega (arith, o.two.placed, at)))) mine;
    }

primes-tale : (s : Side) (move : Move) (f : Field) (es : List Event) → BothOut f → Taken s move (Primes move) f es
    → Tale Nothing_more f (es ++ events.Prepare (who_in s f) move.number ∷ [])
primes-tale s move f es o m =
    let e : Event = events.Prepare (who_in s f) move.number in
    let q : Public = settled_by (side_number s) (told_by es) in
    let is = prepare-hears (who_in s f) move.number q in
    acted-tale Nothing_more (side_number s) f es e refl
    (subst (Even f) (sym is) (primed s move f q o m.mine m.theirs))
    (subst (λ (p : Public). p.may_hit_itself ≡ 0) (sym is) (pending-out s (prepares move.number) q)) tt

-- Bide, of which events report only the start and the end

record Pending (x : PublicSide) (t : Party) : Type 0 where
  plainly : Plainly x t
  bide : is_some t.active.conditions.underway.bide ≡ false
  charging : t.active.conditions.underway.charging ≡ false

Stores : Side → Move → Field → List Event → Type 0
Stores s move f es = Taken s move Pending f es

uncharged : (c : Bool) {d : Bool} → (c ≡ true → d ≡ true) → d ≡ false → c ≡ false
uncharged true h e = absurd (true≢false (sym (h refl) ∙ e))
uncharged false h e = refl

off-stores : (b : Bool) (s : Side) (pick : Pick) (move : Move) → charges move.effect ≡ false → (f : Field) (es : List Event) → Off b s pick move f es → Stores s move (taken_up s pick f) es
unfolding changed_active with_current_move Stores
off-stores b One pick move c f es m =
    let e = m.ready.near.even in
    record {
      mine = record { plainly = record { same = e.one.same; reach = e.one.reach; few = e.one.few }; bide = m.off; charging = uncharged (underway_in One f).charging m.ready.charging c };
      theirs = e.two;
      current = m.ready.named;
    }
off-stores b Two pick move c f es m =
    let e = m.ready.near.even in
    record {
      mine = record { plainly = record { same = e.two.same; reach = e.two.reach; few = e.two.few }; bide = m.off; charging = uncharged (underway_in Two f).charging m.ready.charging c };
      theirs = e.one;
      current = m.ready.named;
    }

pending-spent : (used : UsedMove) (n : Member) (x : PublicSide) (t : Party) → Pending x t → Pending x (with_member t.active.place (with_pp_spent used n) t)
pending-spent used n x t k = record {
  plainly = record { same = k.plainly.same; reach = k.plainly.reach; few = rw (length-set t.members (t.active.place - 1) (with_pp_spent used n)) k.plainly.few };
  bide = k.bide;
  charging = k.charging;
}

stores-spent : (s : Side) (move : Move) (used : UsedMove) (f : Field) (es : List Event) → Stores s move f es → Stores s move (changed_member s (with_pp_spent used) f) es
unfolding Stores changed_member
stores-spent One move used f es m = record {
  mine = pending-spent used (member_in One f) _ f.one m.mine;
  theirs = m.theirs;
  current = current-kept (with_pp_spent used (member_in One f)) f.one (spent-tame used (member_in One f)) ∙ m.current;
}
stores-spent Two move used f es m = record {
  mine = pending-spent used (member_in Two f) _ f.two m.mine;
  theirs = m.theirs;
  current = current-kept (with_pp_spent used (member_in Two f)) f.two (spent-tame used (member_in Two f)) ∙ m.current;
}

stores-damage : (s : Side) (move : Move) (damage : ℕ) (f : Field) (es : List Event) → Stores s move f es → Stores s move (with_last_damage damage f) es
unfolding Stores with_last_damage
stores-damage One move damage f es m = record { mine = m.mine; theirs = m.theirs; current = m.current }
stores-damage Two move damage f es m = record { mine = m.mine; theirs = m.theirs; current = m.current }

-- Its use ends charging and recharging, and then Bide is on.
does-stored : (turns : ℕ) (x : PublicSide) (t : Party) → current_of t ≡ bide → Pending x t → Does (starts_bide x) (with_conditions (with_bide turns) t)
unfolding with_bide
does-stored turns x t e m = record {
  same = ap (λ (k : Deeds). record k { bide = 1; charging = 0 }) m.plainly.same
      ∙ ap (λ (d : Bool). record (deeds_of t.active.place (core t.active.conditions)) { bide = 1; charging = bit_of d }) (sym m.charging);
  reach = λ i. m.plainly.reach (reach-if (x.announced.charging == 0) x.invulnerable i);
  rests = λ i. absurd (i refl);
  last = sym e;
  few = m.plainly.few;
}

stored : (s : Side) (turns : ℕ) (f : Field) (q : Public) → BothOut f → current_of (party s f) ≡ bide → Pending (public_side s q) (party s f) → Does (public_side (other s) q) (party (other s) f)
    → Even (changed_conditions s (with_bide turns) f) (on_out s starts_bide q)
unfolding changed_active changed_conditions
stored One turns f q o e mine theirs =
    let at : q.one.place ≡ f.one.active.place = ap (λ (d : Deeds). d.place) mine.plainly.same in
    record {
      one = subst (λ (x : PublicSide). Does x (with_conditions (with_bide turns) f.one)) (sym (out-side One starts_bide q (omega (arith, o.one.placed, at)))) (does-stored turns q.one f.one e mine);
      two = subst (λ (x : PublicSide). Does x f.two) (sym (foe-side One starts_bide q)) theirs;
    }
stored Two turns f q o e mine theirs =
    let at : q.two.place ≡ f.two.active.place = ap (λ (d : Deeds). d.place) mine.plainly.same in
    record {
      one = subst (λ (x : PublicSide). Does x f.one) (sym (foe-side Two starts_bide q)) theirs;
      two = subst (λ (x : PublicSide). Does x (with_conditions (with_bide turns) f.two)) (sym (out-side Two starts_bide q (omega (arith, o.two.placed, at)))) (does-stored turns q.two f.two e mine);
    }

stores-tale : (s : Side) (move : Move) → bides (move_at move.number).effect ≡ true → (turns : ℕ) (f : Field) (es : List Event) → BothOut f → Stores s move f es
    → let g : Field = changed_conditions s (with_bide turns) f in Tale Nothing_more g (es ++ events.Start (who_in s g) volatiles.Bide ∷ [])
unfolding Stores
stores-tale s move h turns f es o m =
    let g : Field = changed_conditions s (with_bide turns) f in
    let e : Event = events.Start (who_in s g) volatiles.Bide in
    let q : Public = settled_by (side_number s) (told_by es) in
    let is : takes_in e q ≡ on_out s starts_bide q = bide-hears (who_in s g) q in
    acted-tale Nothing_more (side_number s) g es e refl
    (subst (Even g) (sym is) (stored s turns f q o (m.current ∙ bide-number move.number h) m.mine m.theirs))
    (subst (λ (p : Public). p.may_hit_itself ≡ 0) (sym is) (pending-out s starts_bide q)) tt

near-let : (b : Bool) (s : Side) (f : Field) (es : List Event) → BothOut f → Near b s f es
    → let g : Field = changed_conditions s without_bide f in Tale Nothing_more g (es ++ events.End (who_in s g) volatiles.Bide ∷ [])
unfolding changed_active changed_conditions without_bide
near-let b s f es o m =
    let g : Field = changed_conditions s without_bide f in
    out-tale Nothing_more (side_number s) s (on_announced (set_volatile volatiles.Bide 0)) (with_conditions without_bide (party s f)) f es (events.End (who_in s g) volatiles.Bide) refl
    (end-hears (who_in s g) volatiles.Bide _) o (does-marked volatiles.Bide false without_bide (λ c. refl) _ (party s f)) m.even tt

near-stores : (b : Bool) (s : Side) (damage : ℕ) (f : Field) (es : List Event) → Near b s f es
    → let g : Field = changed_conditions s (with_bide_storing damage) f in Tale Nothing_more g (es ++ events.Activate (who_in s g) volatiles.Bide ∷ [])
near-stores b s damage f es m =
    let g : Field = changed_conditions s (with_bide_storing damage) f in
    dull-tale (side_number s) g es (events.Activate (who_in s g) volatiles.Bide) refl refl
    (even-conditions s (with_bide_storing damage) (calm-bland (with_bide_storing damage) (storing-calm damage)) f _ m.even)

tale-damage : {U : Public → Type 0} (damage : ℕ) (f : Field) (es : List Event) → Tale U f es → Tale U (with_last_damage damage f) es
unfolding with_last_damage
tale-damage damage f es m = record { even = record { one = m.even.one; two = m.even.two }; quiet = m.quiet; more = m.more }

begun-last : {n : Sizes} (damage : ℕ) (f : Field) → Begun n f → Begun n (with_last_damage damage f)
unfolding with_last_damage
begun-last damage f b = record { both = record { one = b.both.one; two = b.both.two }; sized = record { one = b.sized.one; two = b.sized.two } }

-- Phases

module _ {n : Sizes} {pre : List Event} {K L : Field → List Event → Type 0} {S : Progress → Type 0} where
  current-deeds : (s : Side) (pick : Pick) → ((f : Field) (es : List Event) → K f es → L (taken_up s pick f) es) → Leads (In n pre K) (In n pre L) S (make_current s pick)
  unfolding make_current given on_active on_field with_current_move
  current-deeds s pick h = record {
    leads = λ p r m. Runs r (record {
      begun = begun-active s (with_current_move (used_by pick (active_in s p.field).current_move)) p.field (λ a. refl) m.begun;
      is = h p.field (pre ++ p.events) m.is;
    });
  }

-- The action doesn't let energy go.
abbrev Holds_back : Field → Action → Stream → Type 0
Holds_back f a w = a.letting_go ≡ false

module _ {n : Sizes} {pre : List Event} (b : Bool) (s : Side) (pick : Pick) (move : Move) (same : move ≡ move_at move.number) where
  hides-deeds : Leads (In n pre (Taken s move Raises)) (In n pre (Taken s move (Primes move))) (In n pre (Over b s)) (choose (λ p. hides move.effect) (on_conditions s with_invulnerability) stay)
  hides-deeds = if-sees (hides move.effect)
      (λ e. at-conditions s with_invulnerability (λ f es o m. raises-hidden s move f es m))
      (λ e. after-leads (at-weak (λ f es m. raises-open s move f es (ap (λ (k : Move). hides k.effect) (sym same) ∙ e) m)) stay-tells)

  begin-deeds : {Q : Progress → Type 0} → Leads (In n pre (Off b s pick move)) Q (In n pre (Over b s)) (begin_charge s pick move)
  unfolding begin_charge
  begin-deeds = current-deeds {L = Taken s move Plainly} s pick (λ f es m. off-taken b s pick move f es m)
      ⊳ at-conditions {L = Taken s move Raises} s with_charging (λ f es o m. taken-raises s move f es m)
      ⊳ hides-deeds
      ⊳ at-note {L = Past b s} (λ f. events.Prepare (who_in s f) move.number) (λ f es o m. tale-past b s f _ (primes-tale s move f es o m))
      ⊳ at-stop (λ f es m. inl m)

  end-deeds : Leads (λ p. In n pre (Off b s pick move) p × ((underway s p).charging ≡ true)) (In n pre (Due s pick move)) (In n pre (Over b s)) (end_charge s)
  unfolding end_charge on_conditions on_field
  end-deeds = record { leads = λ p r m. Runs r (record { begun = begun-conditions s without_charging p.field m.0.begun; is = off-ending b s pick move p.field _ m.1 m.0.is }) }
      ⊳ at-conditions {K = Ending s pick move} s without_invulnerability (λ f es o m. ending-due s pick move f es m)

  charge-deeds : Leads (In n pre (Off b s pick move)) (In n pre (Due s pick move)) (In n pre (Over b s)) (charge s pick move)
  unfolding charge
  charge-deeds = if-sees (charges move.effect)
      (λ c. watching.choose-sees (λ p. (underway s p).charging) end-deeds (before-leads (λ p m. m.0) begin-deeds))
      (λ c. after-leads (λ p m. record { begun = m.begun; is = off-due b s pick move p.field _ (uncharged (underway_in s p.field).charging m.is.ready.charging c) m.is }) stay-tells)

  spend-deeds : {S : Progress → Type 0} → Leads (In n pre (Uses s move)) (In n pre (Uses s move)) S (spend_pp s)
  unfolding spend_pp
  spend-deeds = given-tells _ (λ used. at-member s (with_pp_spent used) (λ f es o m. uses-spent s move used f es m))

  pub use-deeds : bides move.effect ≡ false → Leads (In n pre (Due s pick move)) (Now (deeding (UsedBy s move.number) (used-lasts s move.number)) n pre) (In n pre (Over b s)) (use_move s pick move)
  unfolding use_move deeding
  use-deeds h = current-deeds {L = Uses s move} s pick (λ f es m. due-uses s pick move f es m)
      ⊳ choose-tells _ stay-tells spend-deeds
      ⊳ if-sees (not (bides move.effect))
      (λ e. after-leads (λ p m. record { begun = m.begun; exact = m.is }) (at-note {L = Tale (UsedBy s move.number)} (λ f. events.Move (who_in s f) move.number (who_in (other s) f)) (λ f es o m. uses-tale s move f es o m)))
      (λ e. absurd (true≢false (sym (ap not h) ∙ e)))

-- The stories of an action that has used its move, and of any other

abbrev after_use : Side → Move → Story
after_use s move = deeding (UsedBy s move.number) (used-lasts s move.number)

abbrev pub plain_story : Story
plain_story = deeding Nothing_more nothing-lasts

acted-use : (s : Side) (move : Move) → (after_use s move).acted s move
unfolding deeding UsedBy
acted-use s move p u = u

upright-deeds : (U : Public → Type 0) (l : Lasts U) (s : Side) → (deeding U l).upright s
unfolding deeding
upright-deeds U l s = tt

lulled-use : (s : Side) (move : Move) (u : Side) (turns : ℕ) (marked : Bool) → (after_use s move).lulled u turns marked
unfolding deeding
lulled-use s move u turns marked = tt

knows-used : (s : Side) (move : Move) → move ≡ move_at move.number → bides move.effect ≡ false → (after_use s move).knows s move
unfolding deeding UsedBy
knows-used s move same h = (h, λ e p u. subst (λ (k : ℕ). recharges (move_at k).effect ≡ true) (sym u) (subst (λ (m : Move). recharges m.effect ≡ true) same e))

used-over : {n : Sizes} {pre : List Event} (b : Bool) (s : Side) (move : Move) (p : Progress) → MayFall (after_use s move) n pre p → In n pre (Over b s) p
unfolding deeding
used-over b s move p m = record { begun = m.begun; is = inl (tale-past b s p.field _ m.loose) }

pub plain-over : {n : Sizes} {pre : List Event} (b : Bool) (s : Side) (p : Progress) → MayFall plain_story n pre p → In n pre (Over b s) p
unfolding deeding
plain-over b s p m = record { begun = m.begun; is = inl (tale-past b s p.field _ m.loose) }

plain-now : {n : Sizes} {pre : List Event} (p : Progress) → In n pre (Tale Nothing_more) p → Now plain_story n pre p
unfolding deeding
plain-now p m = record { begun = m.begun; exact = m.is }

abbrev Readies : Sizes → List Event → Bool → Side → Pick → Move → Progress → Type 0
Readies n pre b s pick move p = In n pre (Ready b s pick move) p × (p.action.letting_go ≡ false)

abbrev Offs : Sizes → List Event → Bool → Side → Pick → Move → Progress → Type 0
Offs n pre b s pick move p = In n pre (Off b s pick move) p × (p.action.letting_go ≡ false)

-- Any move but Bide
module _ (t : Terms) {n : Sizes} {pre : List Event} (b : Bool) (s : Side) (pick : Pick) (move : Move) (same : move ≡ move_at move.number) (h : bides move.effect ≡ false) where
  no-bide : (o : Option Storing) (damage : ℕ) → Leads (λ p. Readies n pre b s pick move p × ((underway s p).bide ≡ o)) (Offs n pre b s pick move) (In n pre (Over b s)) (bide_on s o damage)
  unfolding bide_on
  no-bide None damage = after-leads (λ p m. (record { begun = m.0.0.begun; is = record { ready = m.0.0.is; off = ap is_some m.1 } }, m.0.1)) stay-tells
  no-bide (Some x) damage = record { leads = λ p r m. absurd (true≢false (sym (m.0.0.is.bide (ap is_some m.1)) ∙ h)) }

  none-goes : Leads (Readies n pre b s pick move) (Offs n pre b s pick move) (In n pre (Over b s)) (bide_goes_on s)
  unfolding bide_goes_on
  none-goes = given-sees (λ p. (underway s p).bide) (λ o. given-tells _ (no-bide o))

  lead-deeds : Leads (In n pre (Off b s pick move)) (Now (after_use s move) n pre) (In n pre (Over b s)) (lead_up s pick move)
  unfolding lead_up
  lead-deeds = charge-deeds b s pick move same ⊳ use-deeds b s pick move same h
      ⊳ rests-leads (used-over b s move) (choose-tells _ (early_effect-tells s move move.effect (acted-use s move) (λ e. lulled-use s move s 2 false) ⊳ stop-tells) stay-tells ⊳ prelude-tells s move)

  carry-plain : Leads (Readies n pre b s pick move) (In n pre (Over b s)) (In n pre (Over b s)) (carry_out (ruling_of t) s pick move)
  unfolding carry_out
  carry-plain = none-goes
      ⊳ watching.choose-sees lets_energy_go (record { leads = λ p r m. absurd (true≢false (sym m.1 ∙ m.0.1)) }) (before-leads (λ p m. m.0.0) lead-deeds)
      ⊳ rests-leads (used-over b s move) (choose-tells _ stay-tells (damage_of-tells s move move.effect))
      ⊳ rests-leads (used-over b s move) (choose-tells _ stay-tells (choose-tells _ (late_effect-tells (ruling_of t) (ruling_of-tells t) s move move.effect (λ e. (knows-used s move same h, e)) (λ e turns few. lulled-use s move (other s) turns t.rules.sleep_clause) ⊳ stop-tells) stay-tells))
      ⊳ after-leads (used-over b s move) (rests-leads (used-over b s move) (strike-tells (ruling_of t) (ruling_of-tells t) s move (upright-deeds _ _ s)
      (λ e. record { acts = acted-use s move; plain = not-toxic move.number (ap (λ (m : Move). may_poison_by m.effect) (sym same) ∙ e) }) (λ e. knows-used s move same h)))

-- Bide

letting-deeds : {n : Sizes} {pre : List Event} {K : Field → List Event → Type 0} {S : Progress → Type 0} → Leads (In n pre K) (λ p. In n pre K p × (p.action.letting_go ≡ true)) S set_letting_go
unfolding set_letting_go on_action
letting-deeds = record { leads = λ p r m. Runs r (m, refl) }

pub of-bide : {A : Type 0} (move : Move) → bides move.effect ≡ true → (test : Effect → A) → test move.effect ≡ test effects.Bide
of-bide move h test = ap test (is-bide move.effect h)

lead-keeps : (s : Side) (pick : Pick) (move : Move) → bides move.effect ≡ true → Keeps Holds_back (lead_up s pick move)
unfolding lead_up charge use_move prelude make_current spend_pp
lead-keeps s pick move h = then-keeps (choose-sees (charges move.effect) (λ c. absurd (true≢false (sym c ∙ of-bide move h charges))) (λ c. stay-keeps))
    (then-keeps (then-keeps (given-keeps _ (λ a. on_active-keeps s _ (record { spared = λ f a w k. k })))
    (then-keeps (choose-keeps _ stay-keeps (given-keeps _ (λ used. on_member-keeps s _ (record { spared = λ f a w k. k }))))
    (choose-sees (not (bides move.effect)) (λ c. absurd (true≢false (sym c ∙ ap not h))) (λ c. stay-keeps))))
    (then-keeps (choose-sees (is_early move.effect) (λ c. absurd (true≢false (sym c ∙ of-bide move h is_early))) (λ c. stay-keeps))
    (then-keeps (choose-sees (traps move.effect) (λ c. absurd (true≢false (sym c ∙ of-bide move h traps))) (λ c. stay-keeps))
    (choose-sees (thrashes move.effect) (λ c. absurd (true≢false (sym c ∙ of-bide move h thrashes))) (λ c. stay-keeps)))))

abbrev Mids : Sizes → List Event → Side → (Field → List Event → Type 0) → Progress → Type 0
Mids n pre s K p = (In n pre K p × (p.action.letting_go ≡ false)) ⊎ (In n pre (Tale Nothing_more) p × (p.action.letting_go ≡ true))

missed-deeds : {n : Sizes} {pre : List Event} {K : Field → List Event → Type 0} {S : Progress → Type 0} (s : Side) (missed : Bool)
    → Leads (λ p. In n pre (Tale Nothing_more) p × (p.action.letting_go ≡ true)) (Mids n pre s K) S (set_missed missed)
unfolding set_missed on_action
missed-deeds s missed = record { leads = λ p r m. Runs r (inr m) }

module _ (t : Terms) {n : Sizes} {pre : List Event} (b : Bool) (s : Side) (pick : Pick) (move : Move) (same : move ≡ move_at move.number) (h : bides move.effect ≡ true) where
  lets-go : {S : Progress → Type 0} (energy : ℕ) → Leads (In n pre (Near b s)) (Mids n pre s (Off b s pick move)) S (let_energy_go s energy)
  unfolding let_energy_go ends set_last_damage
  lets-go energy = at-told {L = Tale Nothing_more} (changed_conditions s without_bide) (λ f. events.End (who_in s f) volatiles.Bide) (begun-conditions s without_bide) (λ f es o m. near-let b s f es o m)
      ⊳ at-field {L = Tale Nothing_more} (with_last_damage _) (begun-last _) (λ f es o m. tale-damage _ f es m)
      ⊳ letting-deeds ⊳ missed-deeds s _

  stores-on : {Q : Progress → Type 0} (damage : ℕ) → Leads (In n pre (Near b s)) Q (In n pre (Over b s)) (store_energy s damage)
  unfolding store_energy lasts
  stores-on damage = at-told {L = Past b s} (changed_conditions s (with_bide_storing damage)) (λ f. events.Activate (who_in s f) volatiles.Bide) (begun-conditions s (with_bide_storing damage))
      (λ f es o m. tale-past b s _ _ (near-stores b s damage f es m)) ⊳ at-stop (λ f es m. inl m)

  some-goes : (o : Option Storing) (damage : ℕ) → Leads (λ p. Readies n pre b s pick move p × ((underway s p).bide ≡ o)) (Mids n pre s (Off b s pick move)) (In n pre (Over b s)) (bide_on s o damage)
  unfolding bide_on
  some-goes None damage = after-leads (λ p m. inl (record { begun = m.0.0.begun; is = record { ready = m.0.0.is; off = ap is_some m.1 } }, m.0.1)) stay-tells
  some-goes (Some x) damage = before-leads (λ p m. record { begun = m.0.0.begun; is = m.0.0.is.near }) (choose-tells _ (lets-go _) (stores-on damage))

  bide-goes : Leads (Readies n pre b s pick move) (Mids n pre s (Off b s pick move)) (In n pre (Over b s)) (bide_goes_on s)
  unfolding bide_goes_on
  bide-goes = given-sees (λ p. (underway s p).bide) (λ o. given-tells _ (some-goes o))

  lead-stores : Leads (In n pre (Off b s pick move)) (In n pre (Stores s move)) (In n pre (Over b s)) (lead_up s pick move)
  unfolding lead_up charge use_move prelude spend_pp
  lead-stores = if-sees (charges move.effect) (λ c. absurd (true≢false (sym c ∙ of-bide move h charges))) (λ c. stay-tells)
      ⊳ (current-deeds {L = Stores s move} s pick (λ f es m. off-stores b s pick move (of-bide move h charges) f es m)
      ⊳ choose-tells _ stay-tells (given-tells _ (λ used. at-member s (with_pp_spent used) (λ f es o m. stores-spent s move used f es m)))
      ⊳ if-sees (not (bides move.effect)) (λ c. absurd (true≢false (sym c ∙ ap not h))) (λ c. stay-tells))
      ⊳ if-sees (is_early move.effect) (λ c. absurd (true≢false (sym c ∙ of-bide move h is_early))) (λ c. stay-tells)
      ⊳ (if-sees (traps move.effect) (λ c. absurd (true≢false (sym c ∙ of-bide move h traps))) (λ c. stay-tells)
      ⊳ if-sees (thrashes move.effect) (λ c. absurd (true≢false (sym c ∙ of-bide move h thrashes))) (λ c. stay-tells))

  mid-of : {K : Field → List Event → Type 0} (p : Progress) → p.action.letting_go ≡ true → Mids n pre s K p → In n pre (Tale Nothing_more) p
  mid-of p e (inl m) = absurd (true≢false (sym e ∙ m.1))
  mid-of p e (inr m) = m.0

  mid-not : {K : Field → List Event → Type 0} (p : Progress) → p.action.letting_go ≡ false → Mids n pre s K p → In n pre K p × (p.action.letting_go ≡ false)
  mid-not p e (inl m) = m
  mid-not p e (inr m) = absurd (true≢false (sym m.1 ∙ e))

  bide-leads : Leads (Mids n pre s (Off b s pick move)) (Mids n pre s (Stores s move)) (In n pre (Over b s)) (choose lets_energy_go stay (lead_up s pick move))
  bide-leads = watching.choose-sees lets_energy_go
      (after-leads (λ p m. inr (mid-of p m.1 m.0, m.1)) stay-tells)
      (before-leads (λ p m. mid-not p m.1 m.0) (after-leads (λ p m. inl m) (with-keeps {K = Holds_back} lead-stores (lead-keeps s pick move h))))

  mid-damage : {S : Progress → Type 0} (damage : ℕ) → Leads (Mids n pre s (Stores s move)) (Mids n pre s (Stores s move)) S (set_last_damage damage)
  unfolding set_last_damage on_field
  mid-damage damage = record { leads = λ p r m. Runs r (by p m) }
    where
      by : (p : Progress) → Mids n pre s (Stores s move) p → Mids n pre s (Stores s move) (record p { field = with_last_damage damage p.field })
      by p (inl m) = inl (record { begun = begun-last damage p.field m.0.begun; is = stores-damage s move damage p.field _ m.0.is }, m.1)
      by p (inr m) = inr (record { begun = begun-last damage p.field m.0.begun; is = tale-damage damage p.field _ m.0.is }, m.1)

  bide-damage : (e : Effect) → bides e ≡ true → Leads (Mids n pre s (Stores s move)) (Mids n pre s (Stores s move)) (In n pre (Over b s)) (damage_of s move e)
  unfolding damage_of
  bide-damage effects.Bide k = if-sees (nat_lt 0 move.power) (λ c. absurd (true≢false (sym c ∙ bide-power move same h))) (λ c. mid-damage 0)
  bide-damage _ k = absurd (true≢false (sym k))

  bide-starts : (e : Effect) → bides e ≡ true → Leads (In n pre (Stores s move)) (In n pre (Past b s)) (In n pre (Over b s)) (late_effect (ruling_of t) s move e)
  unfolding late_effect start_bide bide_for starts
  bide-starts effects.Bide k = at-draw (λ x. at-told (changed_conditions s (with_bide (low_bits 1 x + 2))) (λ f. events.Start (who_in s f) volatiles.Bide) (begun-conditions s (with_bide (low_bits 1 x + 2)))
      (λ f es o m. tale-past b s _ _ (stores-tale s move (ap (λ (k : Move). bides k.effect) (sym same) ∙ h) (low_bits 1 x + 2) f es o m)))
  bide-starts _ k = absurd (true≢false (sym k))

  bide-late : Leads (Mids n pre s (Stores s move)) (Now plain_story n pre) (In n pre (Over b s))
      (choose lets_energy_go stay (choose (λ p. is_late move.effect) (late_effect (ruling_of t) s move move.effect ▸ stop) stay))
  bide-late = watching.choose-sees lets_energy_go
      (after-leads (λ p m. plain-now p (mid-of p m.1 m.0)) stay-tells)
      (before-leads (λ p m. (mid-not p m.1 m.0).0) (if-sees (is_late move.effect)
      (λ c. bide-starts move.effect h ⊳ at-stop (λ f es m. inl m))
      (λ c. absurd (true≢false (sym (of-bide move h is_late) ∙ c)))))

  carry-bide : Leads (Readies n pre b s pick move) (In n pre (Over b s)) (In n pre (Over b s)) (carry_out (ruling_of t) s pick move)
  unfolding carry_out
  carry-bide = bide-goes ⊳ bide-leads ⊳ choose-tells _ stay-tells (bide-damage move.effect h) ⊳ bide-late
      ⊳ after-leads (plain-over b s) (rests-leads (plain-over b s) (strike-tells (ruling_of t) (ruling_of-tells t) s move (upright-deeds _ _ s) (λ c. absurd (true≢false (sym c ∙ of-bide move h may_poison_by)))
      (λ c. absurd (true≢false (sym c ∙ of-bide move h recharges)))))

carry-deeds : (t : Terms) {n : Sizes} {pre : List Event} (b : Bool) (s : Side) (pick : Pick) (move : Move) → move ≡ move_at move.number
    → Leads (Readies n pre b s pick move) (In n pre (Over b s)) (In n pre (Over b s)) (carry_out (ruling_of t) s pick move)
carry-deeds t {n} {pre} b s pick move same = by (bides move.effect) refl
  where
    by : (c : Bool) → bides move.effect ≡ c → Leads (Readies n pre b s pick move) (In n pre (Over b s)) (In n pre (Over b s)) (carry_out (ruling_of t) s pick move)
    by true h = carry-bide t b s pick move same h
    by false h = carry-plain t b s pick move same h

-- A whole action

kept-fault : (u : Side) (byte : ℕ) (f : Field) → is_fault f.outcome ≡ true → is_fault (changed_active u (with_kept_accuracy byte) f).outcome ≡ true
unfolding changed_active
kept-fault One byte f e = e
kept-fault Two byte f e = e

begun-kept : {n : Sizes} (s : Side) (byte : ℕ) (f : Field) → Begun n f → Begun n (changed_active s (with_kept_accuracy byte) f)
unfolding with_kept_accuracy
begun-kept s byte f b = begun-active s (with_kept_accuracy byte) f (λ a. refl) b

over-active : (b : Bool) (s u : Side) (byte : ℕ) (f : Field) (es : List Event) → Over b s f es → Over b s (changed_active u (with_kept_accuracy byte) f) es
unfolding with_kept_accuracy
over-active b s u byte f es (inl m) = inl (record { even = even-active u (with_kept_accuracy byte) (λ a. refl) f _ m.even; first = m.first })
over-active b s u byte f es (inr m) = inr (kept-fault u byte f m)

module _ (t : Terms) (plan : Side → Plan) {n : Sizes} {pre : List Event} (b : Bool) (s : Side) (pick : Pick) (fits : FitsPick pick (plan s)) (idle : IdleIsQuiet pick (plan s)) where
  see-deeds : {K : Field → List Event → Type 0} {S : Progress → Type 0} → Leads (In n pre K) (In n pre K) S (see_if_going_on s pick)
  unfolding see_if_going_on set_going_on on_action
  see-deeds = given-tells _ (λ g. record { leads = λ p r m. Runs r m })

  takes-deeds : Leads (λ p. In n pre (Near b s) p × Quiet t plan p.field p.action p.stream) (In n pre (Over b s)) (In n pre (Over b s))
      (given (λ p. move_taken_in s pick p.field) (carry_out (ruling_of t) s pick))
  unfolding given
  takes-deeds = record {
    leads = λ p r m.
        let tie : Tie s pick p.field = tie-of s pick p.field p.action p.stream fits m.1.0 in
        (carry-deeds t b s pick (move_taken_in s pick p.field) refl).leads p r
        (record { begun = m.0.begun; is = record { near = m.0.is; charging = tie.charging; bide = tie.bide; named = refl } }, m.1.1);
  }

  parts-deeds : Leads (λ p. In n pre (Opens b s) p × Quiet t plan p.field p.action p.stream) (In n pre (Over b s)) (In n pre (Over b s)) (action_parts (ruling_of t) s pick)
  unfolding action_parts
  parts-deeds = gate_or_held-deeds t plan b s pick idle ⊳ with-keeps see-deeds (see_if_going_on-sound (quiet-sound t plan) s pick) ⊳ takes-deeds

  begins-deeds : {S : Progress → Type 0} → Leads (λ p. In n pre (Opens b s) p × IsPlanned t plan p.field p.action p.stream) (λ p. In n pre (Opens b s) p × Quiet t plan p.field p.action p.stream) S (begin s)
  unfolding begin on_action
  begins-deeds = record { leads = λ p r m. Runs r (m.0, (begin-quiet t plan s).led p m.1) }

by-end : {P : Progress → Type 0} (q : Progress) (c : Bool) → P (record q { stopped = c }) → Lands P P (record q { stopped = c })
by-end q true m = Rests refl m
by-end q false m = Runs refl m

landed : {P : Progress → Type 0} (q : Progress) → Lands P P q → P q
landed q (Runs r m) = m
landed q (Rests r m) = m

resumed : {n : Sizes} {pre : List Event} (b : Bool) (s : Side) (byte : ℕ) (q : Progress) → Lands (In n pre (Over b s)) (In n pre (Over b s)) q
    → Lands (In n pre (Over b s)) (In n pre (Over b s)) (resume (on_active s (with_kept_accuracy byte) q))
unfolding resume on_active on_field
resumed {n} {pre} b s byte q l =
    let m = landed {P = In n pre (Over b s)} q l in
    let g : Field = changed_active s (with_kept_accuracy byte) q.field in
    by-end {P = In n pre (Over b s)} (record q { field = g }) (is_over g.outcome) (record { begun = begun-kept s byte q.field m.begun; is = over-active b s s byte q.field _ m.is })

pub act-deeds : (t : Terms) (plan : Side → Plan) {n : Sizes} {pre : List Event} (b : Bool) (s : Side) (pick : Pick) → FitsPick pick (plan s) → IdleIsQuiet pick (plan s)
    → Leads (λ p. In n pre (Opens b s) p × IsPlanned t plan p.field p.action p.stream) (In n pre (Over b s)) (In n pre (Over b s)) (act (ruling_of t) s pick)
unfolding act keep_accuracy given begin on_action
act-deeds t plan b s pick fits idle = record {
  leads = λ p i m.
      let x : Progress = action_parts (ruling_of t) s pick (begin s p) in
      resumed b s (accuracy_to_keep s x) x ((parts-deeds t plan b s pick fits idle).leads (begin s p) i (m.0, (begin-quiet t plan s).led p m.1));
}
