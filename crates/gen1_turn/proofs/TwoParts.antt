-- An action in two parts: how its phases lead to a roll, and what is known there.
use Rattle.std.proofs.Common.{not, ◌&&◌, ◌==◌, ◌||◌, ◌≡◌, ◌≤◌}
use Rattle.std.proofs.lemmas.Bool.{false≢true}
use Rattle.gen1_layout.proofs.Words.{Action, Bool, Frame, None, Option, Parts, Phase, Progress, Shows, Side, Some, Telling, ap, arith, choose-false, choose-true, drawn_settled, false, given, nat_le, inl, inr, nat_lt, nat_tests, on_field, refl, set_last_damage, stay, stop, subst, sym, then-goes, true, ℕ, ◌∙◌, ◌▸◌}
use Rattle.gen1_rolls.specs.Draws.{Drawing, Source}
use Rattle.gen1_tables.specs.declared.effect.Effect.{Effect}
use Rattle.gen1_tables.specs.declared.effect.Effect.TheVariants as effects
use Rattle.gen1_machine.specs.declared.event.Volatile.TheVariants as volatiles
use Rattle.gen1_machine.specs.declared.side.Pick.{Pick}
use Rattle.gen1_machine.specs.Action.{act, action_parts, begin, damage_of, keep_accuracy, keeps_going, resume, see_if_going_on, set_going_on, usual_damage}
use Rattle.gen1_machine.specs.Conditions.{Storing, energy_with, without_bide}
use Rattle.gen1_machine.specs.Damage.{set_through_types}
use Rattle.gen1_machine.specs.GoingOn.{bide_goes_on, bide_on, let_energy_go, let_out, set_letting_go, store_energy}
use Rattle.gen1_machine.specs.LateEffects.{is_late}
use Rattle.gen1_machine.specs.Moves.{Move, move_at}
use Rattle.gen1_machine.specs.Picks.{is_use}
use Rattle.gen1_machine.specs.Progress.{ends, last_damage, new_action, on_action, set_missed, told, underway, unless, unless_stopped}
use Rattle.gen1_machine.specs.Ruling.{Ruling}
use Rattle.gen1_machine.specs.State.{is_over}
use Rattle.gen1_machine.specs.Turn.{do_part, Acts}
use Rattle.gen1_machine.proofs.Trees.{HasTree, RulingHasTrees, after-tree, then-tree, tree_rules}
use Rattle.gen1_machine.proofs.TreeWalk.{hit_or_miss-tree, keep_accuracy-tree, late_effect-tree, resume-tree, strike-tree, vary-tree}
use Rattle.gen1_hits.specs.declared.known.Known.{Known}
use Rattle.gen1_hits.specs.Knowing.{ShowsKnown, ShowsOver, action_of}
use Rattle.gen1_hits.specs.DamageNumbers.{has_own_damage, has_usual_damage}
use Rattle.gen1_hits.proofs.Knowledge.{stops-then}
use Rattle.gen1_turn.specs.declared.action.Way.TheVariants as ways
use Rattle.gen1_turn.specs.declared.action.two_parts.Roll.{Roll}
use Rattle.gen1_turn.specs.Action.{late_part, LikeDamage, way_of}
use Rattle.gen1_turn.specs.TwoParts.{IsFresh, from_roll, from_test, known_at}
use Rattle.gen1_turn.proofs.Damage.{damage-by, late-power}

-- Phases

pub then-then : (f g h : Phase) (p : Progress) → ((f ▸ g) ▸ h) p ≡ (f ▸ g ▸ h) p
unfolding ◌▸◌ unless_stopped
then-then f g h p = by (f p) (f p).stopped refl
  where
    by : (x : Progress) (b : Bool) → x.stopped ≡ b
        → unless_stopped h (elim b as (λ _. Progress) [ true ↦ x | false ↦ g x ]) ≡ elim b as (λ _. Progress) [ true ↦ x | false ↦ unless_stopped h (g x) ]
    by x true e = ap (λ (b : Bool). elim b as (λ _. Progress) [ true ↦ x | false ↦ h x ]) e
    by x false e = refl

pub then-same : (f g k : Phase) (p q : Progress) → f p ≡ g q → (f ▸ k) p ≡ (g ▸ k) q
unfolding ◌▸◌
then-same f g k p q e = ap (unless_stopped k) e

-- Moves with the usual damage

both : (a b : Bool) → (a && b) ≡ true → (a ≡ true) × (b ≡ true)
both true b e = (refl, e)
both false b e = absurd (false≢true e)

negated : (b : Bool) → not b ≡ true → b ≡ false
negated true e = absurd (false≢true e)
negated false e = refl

pub has-power : (move : Move) → has_usual_damage move ≡ true → nat_lt 0 move.power ≡ true
has-power move usual = (both (nat_lt 0 move.power) (not (has_own_damage move.effect)) usual).0

pub not-late : (n : ℕ) → has_usual_damage (move_at n) ≡ true → is_late (move_at n).effect ≡ false
not-late n usual = by (is_late (move_at n).effect) refl
  where
    by : (b : Bool) → is_late (move_at n).effect ≡ b → b ≡ false
    by true e = absurd (false≢true (sym (late-power n e) ∙ has-power (move_at n) usual))
    by false e = refl

usual-way : (e : Effect) → has_own_damage e ≡ false → way_of e ≡ ways.Usual
usual-way effects.Counter h = absurd (false≢true (sym h))
usual-way effects.FixedDamage h = absurd (false≢true (sym h))
usual-way effects.SuperFang h = absurd (false≢true (sym h))
usual-way effects.OneHitKnockOut h = absurd (false≢true (sym h))
usual-way _ h = refl

pub usual-is : (s : Side) (move : Move) (p : Progress) → has_usual_damage move ≡ true → damage_of s move move.effect p ≡ usual_damage s move p
usual-is s move p usual =
    let own = negated (has_own_damage move.effect) (both (nat_lt 0 move.power) (not (has_own_damage move.effect)) usual).1 in
    ap (λ (f : Phase). f p) (damage-by s move move.effect ways.Usual (usual-way move.effect own))
    ∙ choose-true (λ _. nat_lt 0 move.power) (usual_damage s move) (set_last_damage 0) p (has-power move usual)

-- The formula is used if the damage is the usual one and doesn't land at once.
pub formula-used : (a b : Bool) → (a && not b) ≡ true → (a ≡ true) × (b ≡ false)
formula-used a b e = let x = both a (not b) e in (x.0, negated b x.1)

pub either-none : (a b : Bool) → (a || b) ≡ false → a ≡ false
either-none true b e = absurd (false≢true (sym e))
either-none false b e = refl

-- What is known of an action that begins

abbrev IsNew : Side → Action → Type 0
IsNew s a = a ≡ record (new_action s) { going_on = a.going_on; critical = a.critical }

new-of : (s : Side) (going_on critical : Bool) (a : Action) → a ≡ record (new_action s) { going_on = going_on; critical = critical } → IsNew s a
new-of s going_on critical a e = subst (λ (x : Action). IsNew s x) (sym e) refl

pub begins-fresh : (s : Side) (p : Progress) → (begin s p).skips ≡ false → IsFresh s (begin s p)
unfolding begin on_action
begins-fresh s p skips quiet = (skips, refl)

pub sees-fresh : (s : Side) (pick : Pick) (p : Progress) → IsFresh s p → IsFresh s (see_if_going_on s pick p)
unfolding see_if_going_on set_going_on given on_action
sees-fresh s pick p fresh quiet =
    let f = fresh quiet in
    (f.0, ap (λ (a : Action). record a { going_on = (not (is_use pick) && keeps_going (underway s p)) }) f.1)

-- Bide that lets nothing out does nothing, unless it stops.

lets-go : (s : Side) (energy : ℕ) (p : Progress) → p.stopped ≡ false → (let_energy_go s energy p).action.letting_go ≡ true
unfolding let_energy_go ends told set_last_damage on_field set_letting_go set_missed on_action
lets-go s energy p goes =
    let out = set_last_damage (let_out energy) in
    let missed = set_missed (let_out energy == 0) in
    let q = ends s volatiles.Bide without_bide p in
    ap (λ (x : Progress). x.action.letting_go)
    (then-goes (ends s volatiles.Bide without_bide) (out ▸ set_letting_go ▸ missed) p goes
    ∙ then-goes out (set_letting_go ▸ missed) q goes
    ∙ then-goes set_letting_go missed (out q) goes)

bide-idle : (s : Side) (p : Progress) → p.stopped ≡ false → (bide_goes_on s p).stopped ≡ false → (bide_goes_on s p).action.letting_go ≡ false → bide_goes_on s p ≡ p
unfolding bide_goes_on bide_on store_energy given stay stop
bide-idle s p goes = by (underway s p).bide
  where
    d : ℕ
    d = last_damage p

    test : (b : Storing) (x : Bool) → nat_le b.turns 1 ≡ x → (bide_on s (Some b) d p).stopped ≡ false → (bide_on s (Some b) d p).action.letting_go ≡ false → bide_on s (Some b) d p ≡ p
    test b true e on quiet =
        let is = choose-true (λ _. nat_le b.turns 1) (let_energy_go s (energy_with d b)) (store_energy s d) p e in
        absurd (false≢true (sym quiet ∙ ap (λ (x : Progress). x.action.letting_go) is ∙ lets-go s (energy_with d b) p goes))
    test b false e on quiet =
        let is = choose-false (λ _. nat_le b.turns 1) (let_energy_go s (energy_with d b)) (store_energy s d) p e in
        absurd (false≢true (sym on ∙ ap (λ (x : Progress). x.stopped) is ∙ stops-then _ _ (λ q. refl) p))

    by : (o : Option Storing) → (bide_on s o d p).stopped ≡ false → (bide_on s o d p).action.letting_go ≡ false → bide_on s o d p ≡ p
    by None on quiet = refl
    by (Some b) on quiet = test b (nat_le b.turns 1) refl on quiet

pub bide-fresh : (s : Side) (p : Progress) → p.stopped ≡ false → (bide_goes_on s p).stopped ≡ false → IsFresh s p → IsFresh s (bide_goes_on s p)
bide-fresh s p goes on fresh quiet =
    let same = bide-idle s p goes on quiet in
    subst (λ (x : Progress). (x.skips ≡ false) × IsNew s x.action) (sym same) (fresh (ap (λ (x : Progress). x.action.letting_go) (sym same) ∙ quiet))

module _ {A : Type 0} {d : Drawing A} {source : Source A} where
  -- A part that learns nothing.
  pub fresh-still : {k k' : Known} (g : Frame) {parts parts' : Parts} {events events' : Telling} {now now' : A} {b b' : Bool} (s : Side) {p q : Progress} → k' ≡ k
      → ShowsKnown d source k g parts events now b p → ShowsKnown d source k' g parts' events' now' b' q → IsFresh s p → IsFresh s q
  fresh-still g s e x y fresh quiet =
      let same = y.shows.action ∙ ap action_of e ∙ sym x.shows.action in
      let f = fresh (ap (λ (a : Action). a.letting_go) (sym same) ∙ quiet) in
      (y.shows.skips ∙ ap (λ (k : Known). k.skips) e ∙ sym x.shows.skips ∙ f.0, subst (λ (a : Action). IsNew s a) (sym same) f.1)

  pub over-settled : (k : Known) (g : Frame) {parts : Parts} {events : Telling} {now : A} {b b' : Bool} {p : Progress} → b ≡ b'
      → ShowsOver d source k g parts events now b p → ShowsOver d source k g parts events now b' p
  over-settled k g e a = (a.0, drawn_settled e a.1)

  pub over-as : (k : Known) (g : Frame) {parts : Parts} {events : Telling} {now : A} {b : Bool} {p q : Progress} → p ≡ q
      → ShowsOver d source k g parts events now b q → ShowsOver d source k g parts events now b p
  over-as k g e a = rw e a

-- A critical draw.
pub critical-fresh : (s : Side) (critical : Bool) (p q : Progress) → q.skips ≡ p.skips → q.action ≡ record p.action { critical = critical } → IsFresh s p → IsFresh s q
critical-fresh s critical p q skips is fresh quiet =
    let f = fresh (ap (λ (a : Action). a.letting_go) (sym is) ∙ quiet) in
    (skips ∙ f.0, new-of s p.action.going_on critical q.action (is ∙ ap (λ (a : Action). record a { critical = critical }) f.1))

-- What is known at a roll.
pub known-there : (s : Side) (roll : Roll) (missed : Bool) (p : Progress) → IsNew s p.action → p.action.going_on ≡ roll.going_on → p.action.critical ≡ roll.critical → missed ≡ false
    → (set_missed missed (set_through_types p)).action ≡ action_of (known_at s roll)
unfolding set_missed set_through_types on_action
known-there s roll missed p new going_on critical hit =
    ap (λ (a : Action). record a { through_types = true; missed = missed }) new
    ∙ ap (λ (b : Bool). record (new_action s) { going_on = b; critical = p.action.critical; through_types = true; missed = missed }) going_on
    ∙ ap (λ (b : Bool). record (new_action s) { going_on = roll.going_on; critical = b; through_types = true; missed = missed }) critical
    ∙ ap (λ (b : Bool). record (new_action s) { going_on = roll.going_on; critical = roll.critical; through_types = true; missed = b }) hit

-- An action in a turn, after its beginning

pub acted-is : (r : Ruling) (s : Side) (pick : Pick) (p : Progress) → p.stopped ≡ false → p.skips ≡ false
    → do_part r (Acts s pick) p ≡ resume (keep_accuracy s (action_parts r s pick (begin s p)))
unfolding do_part act begin on_action
acted-is r s pick p goes acts =
    then-goes (begin s) (unless (λ q. q.skips) (act r s pick)) p goes ∙ choose-false (λ q. q.skips) stay (act r s pick) (begin s p) acts

-- The end of an action

pub shown-resumed : {g : Frame} {parts : Parts} {events : Telling} {b b' : Bool} {p : Progress} → b' ≡ is_over p.field.outcome → Shows g parts events b p → Shows g parts events b' (resume p)
unfolding resume
shown-resumed e h = record { within = h.within; written = h.written; ends = sym e; stream = h.stream; drawn = h.drawn; skips = h.skips; action = h.action }

pub resumed-goes : (p : Progress) → (resume p).stopped ≡ false → is_over (resume p).field.outcome ≡ false
unfolding resume
resumed-goes p e = e

pub not-zero : (n : ℕ) → 2 ≤ n → (n == 0) ≡ false
not-zero n h = by (n == 0) refl
  where
    by : (b : Bool) → (n == 0) ≡ b → b ≡ false
    by true e = let none : n ≡ 0 = grind (e, arith, nat_tests) in absurd (omega (arith, h, none))
    by false e = refl

-- Progresses whose damages do the same to the foe have the same draws

pub like-drawn : (s : Side) (q r : Progress) → LikeDamage s q r → q.drawn ≡ r.drawn
unfolding set_last_damage on_field
like-drawn s q r (inl same) = ap (λ (x : Progress). x.drawn) same
like-drawn s q r (inr a) = sym (ap (λ (x : Progress). x.drawn) a.changed)

-- The rest of an action from a roll on has a tree

late_part-tree : (r : Ruling) (s : Side) (move : Move) → RulingHasTrees r → HasTree (late_part r s move)
late_part-tree r s move ruling = search (tree_rules, late_effect-tree) depth 14

pub from_roll-tree : (r : Ruling) (s : Side) (roll : Roll) → RulingHasTrees r → HasTree (from_roll r s roll)
from_roll-tree r s roll ruling =
    let move = move_at roll.id in
    after-tree
    (after-tree (then-tree (vary-tree roll.damage) (then-tree (hit_or_miss-tree s move) (then-tree (late_part-tree r s move ruling) (strike-tree r s move ruling))))
    (keep_accuracy-tree s)) resume-tree

pub from_test-tree : (r : Ruling) (s : Side) (move : Move) → RulingHasTrees r → HasTree (from_test r s move)
from_test-tree r s move ruling =
    after-tree (after-tree (then-tree (late_part-tree r s move ruling) (strike-tree r s move ruling)) (keep_accuracy-tree s)) resume-tree
