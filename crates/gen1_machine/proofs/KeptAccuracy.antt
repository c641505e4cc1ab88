-- An accuracy is kept only with rage or thrashing. The foe's action leaves it as it is. A side's own action keeps the
-- accuracy of its hit test, which comes before rage starts.
use Rattle.std.proofs.Common.{Bool, List, None, Option, Some, [], ap, arith, false, get_or, if◌then◌else◌, is_some, nat_le, nat_lt, refl, subst, suc, sym, true, unwrap_or, zero, ℕ, ◌&&◌, ◌*◌, ◌+◌, ◌-◌, ◌/◌, ◌||◌, ◌∙◌, ◌∷◌, ◌≡◌, ◌≤◌}
use Rattle.std.proofs.lemmas.Bool.{false≢true, leb-true}
use Rattle.gen1_tables.specs.declared.effect.Effect.{Effect}
use Rattle.gen1_tables.specs.Moves.{move_row, move_rows, MoveRow}
use Rattle.gen1_rolls.specs.Streams.{byte_at, Stream, low_bits}
use Rattle.gen1_stats.specs.Members.{Member}
use Rattle.gen1_machine.specs.declared.side.Side.{Side}
use Rattle.gen1_machine.specs.declared.side.Side.TheVariants.{One, Two}
use Rattle.gen1_machine.specs.Sides.{other}
use Rattle.gen1_machine.specs.Conditions.{broken_off, with_thrash_one_less, without_thrash, one_less, ActiveConditions, with_thrash}
use Rattle.gen1_machine.specs.State.{active_in, changed_active, changed_conditions, changed_member, with_kept_accuracy, with_last_damage, with_outcome, Active, Field, underway_in, Terms}
use Rattle.gen1_tables.specs.Effects.{rages, thrashes, bides, charges, traps}
use Rattle.gen1_machine.specs.Moves.{accuracy_byte, move_at, Move}
use Rattle.gen1_machine.specs.Progress.{choose, draw, given, unless_stopped, ◌▸◌, Action, Phase, Progress, last_damage, on_action, on_active, on_conditions, on_field, stay}
use Rattle.gen1_machine.specs.Valid.{keeps_accuracy, IsKept, KeepsAccuracy}
use Rattle.gen1_machine.proofs.Keeps.{Spares, choose-keeps, draw-keeps, given-keeps, note-keeps, on_conditions-keeps, set_last_damage-keeps, stay-keeps, stop-keeps, then-keeps, Keeps, Leads, choose-false, keeps-leads, then-goes, then-leads}
use Rattle.gen1_machine.proofs.Acts.{either, After, IfStopped, Passes}
use Rattle.gen1_machine.proofs.Steady.{Breaks, Faults, Hurts, Leaves, Own, Steady, bide_goes_on-steady, build_rage-steady, charge-steady, confuse-steady, count_hit-steady, damage_of-steady, drain-steady, early_effect-steady, explode-steady, hits-steady, hits_below-steady, kept_away_effect-steady, land-steady, late_effect-steady, miss-steady, missed_move-steady, note_first_hit-steady, note_hit_count-steady, plan_hits-steady, recoil-steady, roll_critical-steady, roll_damage-steady, ruling-steady, set_planned-steady, side_effect-steady, trap-steady, use_move-steady, Acts}
use Rattle.gen1_machine.specs.declared.side.Pick.{Pick}
use Rattle.gen1_machine.specs.Ruling.{ruling_of}
use Rattle.gen1_machine.specs.HitTest.{base_of, hit_or_miss, hit_test, scaled_in, set_tested, settled_hit_in, test_by}
use Rattle.gen1_machine.specs.EarlyEffects.{is_early}
use Rattle.gen1_machine.specs.LateEffects.{is_late}
use Rattle.gen1_machine.specs.SideEffects.{side_effect}
use Rattle.gen1_machine.specs.GoingOn.{bide_goes_on, bide_on, thrash_about, thrash_for, thrash_less}
use Rattle.gen1_machine.specs.HitEffects.{hit_effect}
use Rattle.gen1_machine.specs.ManyHits.{hit_again, hit_once, hits, other_hits}
use Rattle.gen1_machine.specs.Action.{carry_out, damage_of, lands_at_once, lead_up, prelude, strike, usual_damage}
use Rattle.gen1_machine.proofs.Sound.{choose-sees}
use Rattle.gen1_tables.specs.declared.effect.Effect.TheVariants as effects
use Rattle.gen1_tables.specs.declared.types.Element.TheVariants as elements
use Rattle.gen1_machine.specs.declared.terms.Outcome.TheVariants as outcomes

-- Facts of one side's active block and of the action

abbrev pub At : (Active → Action → Type 0) → Side → Field → Action → Stream → Type 0
At B s f a w = B (active_in s f) a

abbrev pub On : Active → Bool
On a = keeps_accuracy a.conditions.underway

-- Facts that depend only on rage, thrashing and their accuracy.
pub record Alone (B : Active → Action → Type 0) : Type 0 where
  pub same : (a b : Active) (x y : Action) → b.kept_accuracy ≡ a.kept_accuracy → On b ≡ On a → y.accuracy_tested ≡ x.accuracy_tested
      → y.going_on ≡ x.going_on → y.letting_go ≡ x.letting_go → B a x → B b y

module _ {B : Active → Action → Type 0} (alone : Alone B) (s : Side) where
  by-member : (s u : Side) (change : Member → Member) (f : Field) (x : Action) → B (active_in s f) x → B (active_in s (changed_member u change f)) x
  unfolding changed_member
  by-member One One change f x h = h
  by-member One Two change f x h = h
  by-member Two One change f x h = h
  by-member Two Two change f x h = h

  by-active : (s u : Side) (change : Active → Active) (f : Field) (x : Action) → ((a : Active) → B a x → B (change a) x) → B (active_in s f) x → B (active_in s (changed_active u change f)) x
  unfolding changed_active
  by-active One One change f x k h = k f.one.active h
  by-active One Two change f x k h = h
  by-active Two One change f x k h = h
  by-active Two Two change f x k h = k f.two.active h

  pub active-at : (u : Side) (change : Active → Active) → ((a : Active) (x : Action) → B a x → B (change a) x) → Spares (At B s) (changed_active u change)
  active-at u change k = record { spared = λ f x w h. by-active s u change f x (λ a. k a x) h }

  pub conditions-at : (u : Side) (change : ActiveConditions → ActiveConditions) → ((a : Active) (x : Action) → B a x → B (record a { conditions = change a.conditions }) x)
      → Spares (At B s) (changed_conditions u change)
  unfolding changed_conditions
  conditions-at u change k = active-at u _ k

  by-field : (s : Side) (f g : Field) (x : Action) → g.one ≡ f.one → g.two ≡ f.two → B (active_in s f) x → B (active_in s g) x
  by-field One f g x e k h = rw e h
  by-field Two f g x e k h = rw k h

  pub at-steady : Steady (At B s)
  unfolding with_last_damage
  at-steady = record {
    member = λ u change soft. record { spared = λ f x w h. by-member s u change f x h };
    active = λ u change leaves. active-at u change (λ a x h. alone.same a (change a) x x (leaves.kept a) (ap (λ (c : ActiveConditions). keeps_accuracy c.underway) (leaves.conditions a)) refl refl refl h);
    conditions = λ u change leaves. conditions-at u change (λ a x h. alone.same a (record a { conditions = change a.conditions }) x x refl (leaves.left a.conditions) refl refl refl h);
    damage = λ n. record { spared = λ f x w h. by-field s f (record f { last_damage = n }) x refl refl h };
    action = λ change leaves. record { spared = λ f x w h. alone.same (active_in s f) (active_in s f) x (change x) refl refl (leaves.tested x) (leaves.going_on x) (leaves.letting_go x) h };
  }

  pub at-hurts : Hurts (At B s)
  at-hurts = record { hurt = λ u change. record { spared = λ f x w h. by-member s u change f x h } }

  pub at-faults : Faults (At B s)
  unfolding with_outcome
  at-faults = record { faulted = λ n. record { spared = λ f x w h. by-field s f (record f { outcome = outcomes.Fault n }) x refl refl h } }

  -- The foe of the side that acts.
  pub foe-own : (u : Side) → other u ≡ s → Own (At B s) u
  unfolding changed_active changed_conditions
  foe-own u e = record {
    conditions = λ change. record { spared = λ f x w h. by u s e (λ a. record a { conditions = change a.conditions }) f x h };
    kept = λ byte. record { spared = λ f x w h. by u s e (with_kept_accuracy byte) f x h };
  }
    where
      by : (u s : Side) → other u ≡ s → (change : Active → Active) (f : Field) (x : Action) → B (active_in s f) x → B (active_in s (changed_active u change f)) x
      by One s e change f x h = subst (λ s. B (active_in s f) x → B (active_in s (changed_active One change f)) x) e (λ k. k) h
      by Two s e change f x h = subst (λ s. B (active_in s f) x → B (active_in s (changed_active Two change f)) x) e (λ k. k) h

-- The facts

abbrev pub Stands : Active → Action → Type 0
Stands a x = KeepsAccuracy a

abbrev pub Off : Active → Action → Type 0
Off a x = On a ≡ false

-- Before a hit test.
abbrev pub Fresh : Active → Action → Type 0
Fresh a x = (x.accuracy_tested ≡ None) × (On a ≡ true → 1 ≤ a.kept_accuracy)

abbrev pub Ready : Active → Action → Type 0
Ready a x = (x.accuracy_tested ≡ None) × (On a ≡ true → 1 ≤ a.kept_accuracy) × (x.going_on ≡ true → 1 ≤ a.kept_accuracy) × (x.letting_go ≡ false)

abbrev pub Tested : Active → Action → Type 0
Tested a x = 1 ≤ unwrap_or x.accuracy_tested 0

-- As an action ends.
abbrev pub Keeps_on : Active → Action → Type 0
Keeps_on a x = On a ≡ true → 1 ≤ unwrap_or x.accuracy_tested a.kept_accuracy

pub stands-alone : Alone Stands
stands-alone = record { same = λ a b x y kept on tested going letting h. rw (kept, on) h }

pub off-alone : Alone Off
off-alone = record { same = λ a b x y kept on tested going letting h. on ∙ h }

pub fresh-alone : Alone Fresh
fresh-alone = record { same = λ a b x y kept on tested going letting h. (tested ∙ h.0, λ e. rw kept (h.1 (sym on ∙ e))) }

pub ready-alone : Alone Ready
ready-alone = record {
  same = λ a b x y kept on tested going letting h. (tested ∙ h.0, λ e. rw kept (h.1 (sym on ∙ e)), λ e. rw kept (h.2 (sym going ∙ e)), letting ∙ h.3);
}

pub tested-alone : Alone Tested
tested-alone = record { same = λ a b x y kept on tested going letting h. rw tested h }

pub tested-own : (s u : Side) → Own (At Tested s) u
tested-own s u = record { conditions = λ change. conditions-at tested-alone s u change (λ a x h. h); kept = λ byte. active-at tested-alone s u _ (λ a x h. h) }

pub fresh-keeps : (a : Active) (x : Action) → Fresh a x → Keeps_on a x
fresh-keeps a x h e = rw h.0 (h.1 e)

pub ready-keeps : (a : Active) (x : Action) → Ready a x → Keeps_on a x
ready-keeps a x h e = rw h.0 (h.1 e)

pub tested-keeps : (a : Active) (x : Action) → Tested a x → Keeps_on a x
tested-keeps a x h e = by x.accuracy_tested h
  where
    by : (o : Option ℕ) → 1 ≤ unwrap_or o 0 → 1 ≤ unwrap_or o a.kept_accuracy
    by None l = absurd (omega (arith, l))
    by (Some n) l = l

pub off-keeps : (a : Active) (x : Action) → Off a x → Keeps_on a x
off-keeps a x h e = absurd (false≢true (sym h ∙ e))

pub stands-fresh : (a : Active) (s : Side) → KeepsAccuracy a → On a ≡ true → 1 ≤ a.kept_accuracy
stands-fresh a s h e = subst (λ b. IsKept b a.kept_accuracy) e h

-- As the accuracy is kept.
pub kept-stands : (b : Bool) (n : ℕ) → (b ≡ true → 1 ≤ n) → IsKept b (if b then n else 0)
kept-stands true n h = h refl
kept-stands false n h = refl

-- Changes that can only turn rage and thrashing off

pub quench : (s u : Side) (change : ActiveConditions → ActiveConditions) → ((c : ActiveConditions) → keeps_accuracy (change c).underway ≡ true → keeps_accuracy c.underway ≡ true)
    → Spares (At Fresh s) (changed_conditions u change)
quench s u change k = conditions-at fresh-alone s u change (λ a x h. (h.0, λ e. h.1 (k a.conditions e)))

pub quench-ready : (s u : Side) (change : ActiveConditions → ActiveConditions) → ((c : ActiveConditions) → keeps_accuracy (change c).underway ≡ true → keeps_accuracy c.underway ≡ true)
    → Spares (At Ready s) (changed_conditions u change)
quench-ready s u change k = conditions-at ready-alone s u change (λ a x h. (h.0, λ e. h.1 (k a.conditions e), h.2, h.3))

weaker-or : (a b : Bool) → (a || false) ≡ true → (a || b) ≡ true
weaker-or true b e = refl
weaker-or false b e = absurd (false≢true e)

pub broken-quenches : (c : ActiveConditions) → keeps_accuracy (broken_off c).underway ≡ true → keeps_accuracy c.underway ≡ true
unfolding broken_off
broken-quenches c e = weaker-or c.underway.rage (is_some c.underway.thrash) e

pub unthrash-quenches : (c : ActiveConditions) → keeps_accuracy (without_thrash c).underway ≡ true → keeps_accuracy c.underway ≡ true
unfolding without_thrash
unthrash-quenches c e = weaker-or c.underway.rage (is_some c.underway.thrash) e

pub less-leaves : Leaves with_thrash_one_less
unfolding with_thrash_one_less
less-leaves = record { left = λ c. by c.underway.rage c.underway.thrash }
  where
    by : (r : Bool) (o : Option ℕ) → (r || is_some (one_less o)) ≡ (r || is_some o)
    by r None = refl
    by r (Some n) = refl

pub fresh-breaks : (s u : Side) → Breaks (At Fresh s) u
fresh-breaks s u = record { broken = quench s u _ broken-quenches }

-- Moves that thrash or rage have some power and an accuracy

abbrev pub keeps_on : Effect → Bool
keeps_on e = thrashes e || rages e

abbrev is_aimed : MoveRow → Bool
is_aimed row = if keeps_on row.effect then nat_lt 0 row.power && nat_le 1 (row.accuracy * 255 / 100) else true

abbrev all_aimed : List MoveRow → Bool
all_aimed [] = true
all_aimed (row ∷ rows) = is_aimed row && all_aimed rows

rows-aimed : all_aimed move_rows ≡ true
unfolding move_rows
rows-aimed = refl

both : (a b : Bool) → (a && b) ≡ true → (a ≡ true) × (b ≡ true)
both true b e = (refl, e)
both false b e = absurd (false≢true e)

at-aimed : (rows : List MoveRow) (i : ℕ) (d : MoveRow) → all_aimed rows ≡ true → is_aimed d ≡ true → is_aimed (get_or rows i d) ≡ true
at-aimed [] i d e k = k
at-aimed (row ∷ rows) zero d e k = (both (is_aimed row) (all_aimed rows) e).0
at-aimed (row ∷ rows) (suc i) d e k = at-aimed rows i d (both (is_aimed row) (all_aimed rows) e).1 k

row-aimed : (n : ℕ) → is_aimed (move_row n) ≡ true
unfolding move_row
row-aimed n = at-aimed move_rows (n - 1) (record { kind = elements.Normal; power = 0; accuracy = 0; pp = 0; effect = effects.DamageOnly }) rows-aimed refl

pub aimed : (n : ℕ) → keeps_on (move_at n).effect ≡ true → (nat_lt 0 (move_at n).power ≡ true) × (1 ≤ accuracy_byte (move_at n))
aimed n e =
    let h = both (nat_lt 0 (move_row n).power) (nat_le 1 ((move_row n).accuracy * 255 / 100)) (by (keeps_on (move_row n).effect) e (row-aimed n)) in
    (h.0, leb-true 1 ((move_row n).accuracy * 255 / 100) h.1)
  where
    by : (b : Bool) → b ≡ true → (if b then nat_lt 0 (move_row n).power && nat_le 1 ((move_row n).accuracy * 255 / 100) else true) ≡ true
        → (nat_lt 0 (move_row n).power && nat_le 1 ((move_row n).accuracy * 255 / 100)) ≡ true
    by true e h = h
    by false e h = absurd (false≢true e)

-- Phases that weren't stopped

pub record Runs (P Q R : Field → Action → Stream → Type 0) (f : Phase) : Type 0 where
  pub passed : (p : Progress) → p.stopped ≡ false → P p.field p.action p.stream → After Q R (f p)

pub runs-leads : {P Q R : Field → Action → Stream → Type 0} {f : Phase} → Leads P Q f → ((x : Field) (a : Action) (w : Stream) → Q x a w → R x a w) → Runs P Q R f
runs-leads {P} {Q} {R} {f} k weaker = record { passed = λ p going h. either (f p).stopped (weaker _ _ _ (k.led p h)) (k.led p h) }

module _ {P Q R : Field → Action → Stream → Type 0} where
  pub runs-choose : (test : Progress → Bool) {f g : Phase} → Runs P Q R f → Runs P Q R g → Runs P Q R (choose test f g)
  unfolding choose
  runs-choose test {f} {g} k l = record {
    passed = λ p going h. elim (test p) as (λ t. After Q R (elim t as (λ _. Progress) [ true ↦ f p | false ↦ g p ])) [ true ↦ k.passed p going h | false ↦ l.passed p going h ];
  }

  pub runs-sees : (b : Bool) {f g : Phase} → (b ≡ true → Runs P Q R f) → (b ≡ false → Runs P Q R g) → Runs P Q R (choose (λ p. b) f g)
  unfolding choose
  runs-sees true k l = record { passed = λ p going h. (k refl).passed p going h }
  runs-sees false k l = record { passed = λ p going h. (l refl).passed p going h }

  pub runs-given : {A : Type 0} (read : Progress → A) {f : A → Phase} → ((x : A) → Runs P Q R (f x)) → Runs P Q R (given read f)
  unfolding given
  runs-given read k = record { passed = λ p going h. (k (read p)).passed p going h }

  pub runs-draw : {f : ℕ → Phase} → ((b : ℕ) → Runs P Q R (f b)) → Runs P Q R (draw f)
  unfolding draw
  runs-draw k = record { passed = λ p going h. (k (byte_at p.stream p.drawn)).passed (record p { drawn = p.drawn + 1 }) going h }

module _ {Q R S : Field → Action → Stream → Type 0} where
  after-then : {g : Phase} → Runs Q S R g → (q : Progress) (b : Bool) → q.stopped ≡ b → After Q R q → After S R (unless_stopped g q)
  unfolding unless_stopped
  after-then {g} l q true e h = subst (λ x. After S R x) (sym (ap (λ (b : Bool). elim b as (λ _. Progress) [ true ↦ q | false ↦ g q ]) e))
      (subst (λ b. IfStopped b (R q.field q.action q.stream) (S q.field q.action q.stream)) (sym e)
      (subst (λ b. IfStopped b (R q.field q.action q.stream) (Q q.field q.action q.stream)) e h))
  after-then {g} l q false e h = subst (λ x. After S R x) (sym (ap (λ (b : Bool). elim b as (λ _. Progress) [ true ↦ q | false ↦ g q ]) e))
      (l.passed q e (subst (λ b. IfStopped b (R q.field q.action q.stream) (Q q.field q.action q.stream)) e h))

module _ {P Q R S : Field → Action → Stream → Type 0} where
  pub runs-then : {f g : Phase} → Runs P Q R f → Runs Q S R g → Runs P S R (f ▸ g)
  unfolding ◌▸◌
  runs-then {f} {g} k l = record { passed = λ p going h. after-then l (f p) (f p).stopped refl (k.passed p going h) }

  pub then-runs : {f g : Phase} → Passes P Q R f → Runs Q S R g → Passes P S R (f ▸ g)
  unfolding ◌▸◌
  then-runs {f} {g} k l = record { passed = λ p h. after-then l (f p) (f p).stopped refl (k.passed p h) }

-- An action keeps an accuracy only with rage or thrashing.

-- A move that neither rages nor thrashes turns neither on

off-acts : (s : Side) → Acts (At Off s)
off-acts s = record { action = λ change. record { spared = λ f x w h. h } }

module _ (terms : Terms) (s : Side) (move : Move) (thrashes_not : thrashes move.effect ≡ false) (rages_not : rages move.effect ≡ false) where
  steady : Steady (At Off s)
  steady = at-steady off-alone s

  hurts : Hurts (At Off s)
  hurts = at-hurts off-alone s

  hit_effect-off : (x : Effect) → rages x ≡ false → Keeps (At Off s) (hit_effect s move x)
  unfolding hit_effect
  hit_effect-off effects.MultiHit calm = plan_hits-steady steady
  hit_effect-off effects.DoubleHit calm = set_planned-steady steady 2
  hit_effect-off effects.Twineedle calm = set_planned-steady steady 2
  hit_effect-off effects.Recoil calm = recoil-steady steady s move hurts
  hit_effect-off effects.Drain calm = drain-steady steady s hurts
  hit_effect-off effects.DreamEater calm = drain-steady steady s hurts
  hit_effect-off effects.Rage calm = absurd (false≢true (sym calm))
  hit_effect-off effects.Explode calm = explode-steady steady s
  hit_effect-off _ calm = stay-keeps

  hit_once-off : Keeps (At Off s) (hit_once s move)
  unfolding hit_once
  hit_once-off = then-keeps (land-steady steady (other s) hurts) (then-keeps (choose-keeps _ (note-keeps _) stay-keeps) (then-keeps (count_hit-steady steady)
      (then-keeps (choose-keeps _ stay-keeps (hit_effect-off move.effect rages_not)) (choose-keeps _ stay-keeps (build_rage-steady steady (other s))))))

  hit_again-off : (k : ℕ) → Keeps (At Off s) (hit_again k s move)
  unfolding hit_again
  hit_again-off zero = stay-keeps
  hit_again-off (suc k) = choose-keeps _ stay-keeps (then-keeps hit_once-off (hit_again-off k))

  other_hits-off : Keeps (At Off s) (other_hits s move)
  unfolding other_hits
  other_hits-off = then-keeps (given-keeps _ (λ k. hit_again-off k)) (choose-keeps _ (given-keeps _ (λ n. note_hit_count-steady steady (other s) n)) stay-keeps)

  strike-off : Keeps (At Off s) (strike (ruling_of terms) s move)
  unfolding strike hits
  strike-off = then-keeps (choose-keeps _ (missed_move-steady steady s move hurts) stay-keeps)
      (then-keeps (then-keeps (note_first_hit-steady steady s move) (then-keeps hit_once-off (choose-keeps _ other_hits-off stay-keeps)))
      (choose-keeps _ stay-keeps (side_effect-steady steady (ruling_of terms) s move move.effect (ruling-steady steady terms hurts) hurts (off-acts s))))

  lead_up-off : (pick : Pick) → Keeps (At Off s) (lead_up s pick move)
  unfolding lead_up prelude
  lead_up-off pick = then-keeps (charge-steady steady s pick move) (then-keeps (use_move-steady steady s pick move)
      (then-keeps (choose-keeps _ (then-keeps (early_effect-steady steady s move move.effect hurts (off-acts s)) stop-keeps) stay-keeps)
      (then-keeps (choose-keeps _ (trap-steady steady s) stay-keeps) (choose-sees _ (λ tie. absurd (false≢true (sym thrashes_not ∙ tie))) (λ e. stay-keeps)))))

  pub carry_out-off : (pick : Pick) → Keeps (At Off s) (carry_out (ruling_of terms) s pick move)
  unfolding carry_out
  carry_out-off pick = then-keeps (bide_goes_on-steady steady s (off-acts s)) (then-keeps (choose-keeps _ stay-keeps (lead_up-off pick))
      (then-keeps (choose-keeps _ stay-keeps (damage_of-steady steady s move move.effect (at-faults off-alone s) (off-acts s)))
      (then-keeps (choose-keeps _ stay-keeps (choose-keeps _ (then-keeps (late_effect-steady steady (ruling_of terms) s move move.effect (ruling-steady steady terms hurts) (off-acts s)) stop-keeps) stay-keeps))
      strike-off)))

-- The hit test of a move that rages or thrashes

tested : (P : Field → Action → Stream → Type 0) (s : Side) (byte : ℕ) → 1 ≤ byte → Leads P (At Tested s) (set_tested byte)
unfolding set_tested on_action
tested P s byte l = record { led = λ p h. l }

module _ (P : Field → Action → Stream → Type 0) (s : Side) where
  test_by-tested : (base : ℕ) (o : Option Bool) → 1 ≤ base → Leads P (At Tested s) (test_by s base o)
  unfolding test_by given
  test_by-tested base (Some true) l = tested P s base l
  test_by-tested base (Some false) l = then-leads (tested P s base l) (keeps-leads (miss-steady (at-steady tested-alone s) s)) (λ f a w h. h)
  test_by-tested base None l = record {
    led = λ p h. (then-leads (tested P s (scaled_in s base p.field) (omega arith))
        (keeps-leads (draw-keeps (λ b. hits_below-steady (at-steady tested-alone s) s (scaled_in s base p.field) b))) (λ f a w h. h)).led p h;
  }

hit_or_miss-tested : (s : Side) (move : Move) → 1 ≤ accuracy_byte move → Leads (At Ready s) (At Tested s) (hit_or_miss s move)
unfolding hit_or_miss hit_test given
hit_or_miss-tested s move l = record {
  led = λ p h. (test_by-tested (At Ready s) s (base_of s move p) (settled_hit_in s move p.field) (by p.action.going_on (active_in s p.field).kept_accuracy h.2)).led p h;
}
  where
    by : (b : Bool) (kept : ℕ) → (b ≡ true → 1 ≤ kept) → 1 ≤ (if b then kept else accuracy_byte move)
    by true kept h = h refl
    by false kept h = l

-- The effect of such a move

abbrev Plain : Effect → Type 0
Plain e = (bides e ≡ false) × (traps e ≡ false) × (charges e ≡ false) × (is_early e ≡ false) × (is_late e ≡ false)

plain : (e : Effect) → keeps_on e ≡ true → Plain e
plain effects.Thrash h = (refl, refl, refl, refl, refl)
plain effects.Rage h = (refl, refl, refl, refl, refl)
plain _ h = absurd (false≢true h)

module _ (terms : Terms) (s : Side) (move : Move) (on : keeps_on move.effect ≡ true) (power : nat_lt 0 move.power ≡ true) (accuracy : 1 ≤ accuracy_byte move) where
  fact : Plain move.effect
  fact = plain move.effect on

  ready : Steady (At Ready s)
  ready = at-steady ready-alone s

  steady_tested : Steady (At Tested s)
  steady_tested = at-steady tested-alone s

  weaker : (f : Field) (a : Action) (w : Stream) → At Ready s f a w → At Keeps_on s f a w
  weaker f a w h = ready-keeps (active_in s f) a h

  weakest : (f : Field) (a : Action) (w : Stream) → At Tested s f a w → At Keeps_on s f a w
  weakest f a w h = tested-keeps (active_in s f) a h

  abbrev Same : Phase → Type 0
  Same f = Runs (At Ready s) (At Ready s) (At Keeps_on s) f

  same : {f : Phase} → Keeps (At Ready s) f → Same f
  same k = runs-leads (keeps-leads k) weaker

  thrash_less-same : (o : Option ℕ) → Keeps (At Ready s) (thrash_less s o)
  unfolding thrash_less
  thrash_less-same None = stay-keeps
  thrash_less-same (Some turns) = choose-keeps _ (then-keeps (on_conditions-keeps s _ (quench-ready s s _ unthrash-quenches)) (confuse-steady ready s))
      (on_conditions-keeps s _ (ready.conditions s _ less-leaves))

  thrash-kept : (s : Side) (n byte : ℕ) (f : Field) (x : Action) (w : Stream) → 1 ≤ byte → At Ready s f x w
      → At Ready s (changed_active s (with_kept_accuracy byte) (changed_conditions s (with_thrash n) f)) x w
  unfolding changed_active changed_conditions with_kept_accuracy
  thrash-kept One n byte f x w l h = (h.0, λ e. l, λ e. l, h.3)
  thrash-kept Two n byte f x w l h = (h.0, λ e. l, λ e. l, h.3)

  thrash-keeps : (n byte : ℕ) (f : Field) (x : Action) (w : Stream) → 1 ≤ byte → At Ready s f x w
      → At Keeps_on s (changed_active s (with_kept_accuracy byte) (changed_conditions s (with_thrash n) f)) x w
  thrash-keeps n byte f x w l h =
      ready-keeps (active_in s (changed_active s (with_kept_accuracy byte) (changed_conditions s (with_thrash n) f))) x (thrash-kept s n byte f x w l h)

  thrash_for-same : (b : ℕ) → Same (thrash_for s move b)
  unfolding thrash_for on_conditions on_active on_field
  thrash_for-same b = record {
    passed = λ p going h.
        subst (λ x. After (At Ready s) (At Keeps_on s) x) (sym (then-goes (on_conditions s (with_thrash (low_bits 1 b + 2))) (on_active s (with_kept_accuracy (accuracy_byte move))) p going))
        (either p.stopped (thrash-keeps (low_bits 1 b + 2) (accuracy_byte move) p.field p.action p.stream accuracy h)
        (thrash-kept s (low_bits 1 b + 2) (accuracy_byte move) p.field p.action p.stream accuracy h));
  }

  prelude-same : Same (prelude s move)
  unfolding prelude thrash_about
  prelude-same = runs-then (runs-sees _ (λ e. absurd (false≢true (sym fact.1 ∙ e))) (λ e. same stay-keeps))
      (runs-choose _ (runs-choose _ (runs-given _ (λ o. same (thrash_less-same o))) (runs-draw (λ b. thrash_for-same b))) (same stay-keeps))

  lead_up-same : (pick : Pick) → Same (lead_up s pick move)
  unfolding lead_up
  lead_up-same pick = runs-then (same (charge-steady ready s pick move)) (runs-then (same (use_move-steady ready s pick move))
      (runs-then (runs-sees _ (λ e. absurd (false≢true (sym fact.3 ∙ e))) (λ e. same stay-keeps)) prelude-same))

  usual-tests : Runs (At Ready s) (At Tested s) (At Keeps_on s) (usual_damage s move)
  unfolding usual_damage
  usual-tests = runs-then (same (set_last_damage-keeps 0 (ready.damage 0))) (runs-then (same (roll_critical-steady ready s move))
      (runs-then (same (roll_damage-steady ready s move (at-faults ready-alone s))) (runs-leads (hit_or_miss-tested s move accuracy) weakest)))

  damage-tests : (x : Effect) → keeps_on x ≡ true → Runs (At Ready s) (At Tested s) (At Keeps_on s) (damage_of s move x)
  unfolding damage_of
  damage-tests effects.Thrash h = runs-sees _ (λ e. usual-tests) (λ e. absurd (false≢true (sym e ∙ power)))
  damage-tests effects.Rage h = runs-sees _ (λ e. usual-tests) (λ e. absurd (false≢true (sym e ∙ power)))
  damage-tests _ h = absurd (false≢true h)

  side_effect-tested : (x : Effect) → keeps_on x ≡ true → Keeps (At Tested s) (side_effect (ruling_of terms) s move x)
  unfolding side_effect
  side_effect-tested effects.Thrash h = choose-keeps _ stay-keeps (kept_away_effect-steady steady_tested (ruling_of terms) s move effects.Thrash (ruling-steady steady_tested terms (at-hurts tested-alone s)) (at-hurts tested-alone s))
  side_effect-tested effects.Rage h = choose-keeps _ stay-keeps (kept_away_effect-steady steady_tested (ruling_of terms) s move effects.Rage (ruling-steady steady_tested terms (at-hurts tested-alone s)) (at-hurts tested-alone s))
  side_effect-tested _ h = absurd (false≢true h)

  strike-tested : Keeps (At Tested s) (strike (ruling_of terms) s move)
  unfolding strike
  strike-tested = then-keeps (choose-keeps _ (missed_move-steady steady_tested s move (at-hurts tested-alone s)) stay-keeps)
      (then-keeps (hits-steady steady_tested s move (at-hurts tested-alone s) (tested-own s s)) (choose-keeps _ stay-keeps (side_effect-tested move.effect on)))

  at_once-not : (going_on letting : Bool) → letting ≡ false → (letting || (going_on && traps move.effect)) ≡ false
  at_once-not true letting e = rw (e, fact.1) refl
  at_once-not false letting e = rw e refl

  lands : Runs (At Ready s) (At Tested s) (At Keeps_on s) (choose (lands_at_once move) stay (damage_of s move move.effect))
  lands = record {
    passed = λ p going h. subst (λ x. After (At Tested s) (At Keeps_on s) x)
        (sym (choose-false (lands_at_once move) stay (damage_of s move move.effect) p (at_once-not p.action.going_on p.action.letting_go h.3)))
        ((damage-tests move.effect on).passed p going h);
  }

  last : {f : Phase} → Keeps (At Tested s) f → Runs (At Tested s) (At Tested s) (At Keeps_on s) f
  last k = runs-leads (keeps-leads k) weakest

  bide-same : (p : Progress) → (underway_in s p.field).bide ≡ None → At Ready s p.field p.action p.stream → let q : Progress = bide_goes_on s p in At Ready s q.field q.action q.stream
  unfolding bide_goes_on given bide_on stay
  bide-same p none h = subst (λ o. let q : Progress = bide_on s o (last_damage p) p in At Ready s q.field q.action q.stream) (sym none) h

  bide-first : Runs (λ f a w. At Ready s f a w × ((underway_in s f).bide ≡ None)) (At Ready s) (At Keeps_on s) (bide_goes_on s)
  bide-first = record {
    passed = λ p going h. let k = bide-same p h.1 h.0 in let q : Progress = bide_goes_on s p in either q.stopped (ready-keeps (active_in s q.field) q.action k) k;
  }

  pub carry_out-runs : (pick : Pick) → Runs (λ f a w. At Ready s f a w × ((underway_in s f).bide ≡ None)) (At Tested s) (At Keeps_on s) (carry_out (ruling_of terms) s pick move)
  unfolding carry_out
  carry_out-runs pick = runs-then bide-first (runs-then (runs-choose _ (same stay-keeps) (lead_up-same pick)) (runs-then lands
      (runs-then (runs-choose _ (last stay-keeps) (runs-sees _ (λ e. absurd (false≢true (sym fact.4 ∙ e))) (λ e. last stay-keeps))) (last strike-tested))))
