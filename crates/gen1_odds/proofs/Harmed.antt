-- A side effect, by its draw.
use Rattle.std.proofs.Common.{Bool, None, Some, ap, arith, false, get_or-set_same, if◌then◌else◌, is_some, length, nat_le, nat_lt, not, refl, subst, sym, true, ℕ, ◌&&◌, ◌+◌, ◌-◌, ◌<◌, ◌∙◌, ◌||◌, ◌≡◌}
use Rattle.std.proofs.lemmas.Bool.Decides.{nat_tests}
use Rattle.gen1_tables.specs.declared.effect.Effect.{Effect}
use Rattle.gen1_tables.specs.declared.effect.Effect.TheVariants as effects
use Rattle.gen1_tables.specs.declared.effect.Stat.{Stat}
use Rattle.gen1_tables.specs.declared.effect.Stat.TheVariants.{Accuracy, Attack, Defense, Evasion, Special, Speed}
use Rattle.gen1_tables.specs.declared.types.Element.{Element}
use Rattle.gen1_tables.specs.declared.types.Element.TheVariants.{Poison}
use Rattle.gen1_rolls.specs.Streams.{byte_at, IsStream}
use Rattle.gen1_rolls.proofs.First.{byte-small}
use Rattle.gen1_stats.specs.declared.member.Status.{Status}
use Rattle.gen1_stats.specs.declared.member.Status.TheVariants.{Asleep, Burned, Frozen, Healthy, Paralysed, Poisoned}
use Rattle.gen1_stats.specs.Members.{is_healthy, nobody, IsBetween, Member}
use Rattle.gen1_machine.specs.declared.event.Event.TheVariants as events
use Rattle.gen1_machine.specs.declared.event.Kind.{Kind}
use Rattle.gen1_machine.specs.declared.event.Kind.TheVariants as kinds
use Rattle.gen1_machine.specs.declared.side.Side.{Side}
use Rattle.gen1_machine.specs.declared.side.Side.TheVariants.{One, Two}
use Rattle.gen1_machine.specs.Conditions.{with_confusion, with_flinch, with_recharge, without_recharge, ActiveConditions}
use Rattle.gen1_machine.specs.CurrentStats.{at_new_stage, recomputed_at, stage_of, with_penalty_of, with_stage}
use Rattle.gen1_machine.specs.EarlyEffects.{confuse, confused_by}
use Rattle.gen1_machine.specs.Moves.{Move}
use Rattle.gen1_machine.specs.Progress.{choose, conditions, draw, given, has_status, has_substitute, inflict, is_confused, is_of, note, on_active, on_conditions, on_field, on_member, only, starts, status_of, stay, told, unless, unless_stopped, when, ◌▸◌, Phase, Progress}
use Rattle.gen1_machine.specs.Ruling.{freeze_freely, freeze_only_one, freezes_under, has_frozen_member, ruling_of}
use Rattle.gen1_machine.specs.SideEffects.{by_chance, flinch, happens_below, kept_away_effect, may_confuse, may_inflict, may_poison, must_recharge, side_effect, thaw}
use Rattle.gen1_machine.specs.Sides.{other}
use Rattle.gen1_machine.specs.StageShift.{lower_from, lower_stage, note_unboost, shift_to, stage_in, stands_at, take_penalty_again}
use Rattle.gen1_machine.specs.State.{active_in, changed_active, changed_conditions, changed_member, conditions_in, member_at, member_in, party, status_in, underway_in, who_in, with_member, with_status, Active, Field, Party, Terms}
use Rattle.gen1_machine.specs.Valid.{IsField}
use Rattle.gen1_layout.proofs.Chain.{choose-false, choose-true, then-goes}
use Rattle.gen1_odds.specs.Laws.{shows, Hitting, SideEffectCounts}
use Rattle.gen1_odds.specs.Trials.{is_lowest, has_status_in, has_substitute_in}
use Rattle.gen1_odds.specs.Odds.{effect_draws, harm_draws, poison_draws, resists_freeze, resists_status, unless_guarded}

none-below : (b : ℕ) → nat_lt b 0 ≡ false
none-below b = grind (arith, nat_tests)

all-below : (b : ℕ) → b < 256 → nat_lt b 256 ≡ true
all-below b h = grind (arith, nat_tests)

-- The progress after the draw of a side effect
abbrev drawn : Progress → Progress
drawn p = record p { drawn = p.drawn + 1 }

-- What a change of a side leaves

active-there : (t : Side) (change : Active → Active) (f : Field) → active_in t (changed_active t change f) ≡ change (active_in t f)
unfolding changed_active
active-there One change f = refl
active-there Two change f = refl

conditions-there : (t : Side) (change : ActiveConditions → ActiveConditions) (f : Field) → conditions_in t (changed_conditions t change f) ≡ change (conditions_in t f)
unfolding changed_conditions changed_active
conditions-there One change f = refl
conditions-there Two change f = refl

-- The member that is out is one of its side.
abbrev IsPlaced : Side → Field → Type 0
IsPlaced t f = IsBetween 1 (length (party t f).members) (active_in t f).place

placed-there : (t : Side) (change : ActiveConditions → ActiveConditions) (f : Field) → IsPlaced t f → IsPlaced t (changed_conditions t change f)
unfolding changed_conditions changed_active
placed-there One change f h = h
placed-there Two change f h = h

placed-in : (terms : Terms) (t : Side) (f : Field) → IsField terms f → IsPlaced t f
placed-in terms One f h = h.one.place
placed-in terms Two f h = h.two.place

member-after : (t : Party) (m : Member) → IsBetween 1 (length t.members) t.active.place → member_at t.active.place (with_member t.active.place m t) ≡ m
member-after t m h = get_or-set_same t.members (t.active.place - 1) m nobody (omega (arith, h.0, h.1))

penalty-place : (status : Status) (a : Active) → (with_penalty_of status a).place ≡ a.place
unfolding with_penalty_of
penalty-place Paralysed a = refl
penalty-place Burned a = refl
penalty-place _ a = refl

-- A status that is inflicted shows.

abbrev set_status : Side → Status → Field → Field
set_status t status f = changed_active t (with_penalty_of status) (changed_member t (with_status status) f)

status-set : (t : Side) (status : Status) (f : Field) → IsPlaced t f → status_in t (set_status t status f) ≡ status
unfolding changed_member changed_active with_status
status-set One status f h =
    let m : Member = record (member_in One f) { status = status } in
    let g = with_member f.one.active.place m f.one in
    ap (λ (place : ℕ). (member_at place g).status) (penalty-place status f.one.active)
    ∙ ap (λ (it : Member). it.status) (member-after f.one m h)
status-set Two status f h =
    let m : Member = record (member_in Two f) { status = status } in
    let g = with_member f.two.active.place m f.two in
    ap (λ (place : ℕ). (member_at place g).status) (penalty-place status f.two.active)
    ∙ ap (λ (it : Member). it.status) (member-after f.two m h)

inflicted : (t : Side) (status : Status) (kind : Kind) (p : Progress) → p.stopped ≡ false → IsPlaced t p.field → is_healthy status ≡ false
    → has_status_in t (inflict t status kind p).field ≡ true
unfolding inflict on_member on_field told
inflicted t status kind p goes h ill =
    ap (λ (q : Progress). has_status_in t q.field) (then-goes (on_member t (with_status status)) (told (changed_active t (with_penalty_of status)) (λ f. events.Status (who_in t f) kind)) p goes)
    ∙ ap (λ (it : Status). not (is_healthy it)) (status-set t status p.field h) ∙ ap not ill

-- An effect by chance shows by its draw.
chance-shows : (n : ℕ) (f : Phase) (p : Progress) (show : Field → Bool) (x : Bool) → nat_lt (byte_at p.stream p.drawn) n ≡ x → show p.field ≡ false
    → show (f (drawn p)).field ≡ true → show (by_chance n f p).field ≡ x
unfolding by_chance draw happens_below stay
chance-shows n f p show true e before after =
    ap (λ (q : Progress). show q.field) (choose-true (λ _. nat_lt (byte_at p.stream p.drawn) n) f stay (drawn p) e) ∙ after
chance-shows n f p show false e before after =
    ap (λ (q : Progress). show q.field) (choose-false (λ _. nat_lt (byte_at p.stream p.drawn) n) f stay (drawn p) e) ∙ before

-- An effect that does nothing shows by no draw.
chance-hides : (n : ℕ) (f : Phase) (p : Progress) (show : Field → Bool) (x : Bool) → nat_lt (byte_at p.stream p.drawn) n ≡ x → show p.field ≡ false
    → show (f (drawn p)).field ≡ false → show (by_chance n f p).field ≡ false
unfolding by_chance draw happens_below stay
chance-hides n f p show true e before after =
    ap (λ (q : Progress). show q.field) (choose-true (λ _. nat_lt (byte_at p.stream p.drawn) n) f stay (drawn p) e) ∙ after
chance-hides n f p show false e before after =
    ap (λ (q : Progress). show q.field) (choose-false (λ _. nat_lt (byte_at p.stream p.drawn) n) f stay (drawn p) e) ∙ before

guards : (b n : ℕ) (guard : Bool) → guard ≡ true → nat_lt b (unless_guarded guard n) ≡ false
guards b n guard e = ap (λ (it : Bool). nat_lt b (unless_guarded it n)) e ∙ none-below b

lets : (b n : ℕ) (guard : Bool) → guard ≡ false → nat_lt b (unless_guarded guard n) ≡ nat_lt b n
lets b n guard e = ap (λ (it : Bool). nat_lt b (unless_guarded it n)) e

module _ (s : Side) (move : Move) (p : Progress) (goes : p.stopped ≡ false) (h : IsPlaced (other s) p.field) where
  abbrev byte : ℕ
  byte = byte_at p.stream p.drawn

  abbrev well : Type 0
  well = has_status_in (other s) p.field ≡ false

  -- Poison

  may_poison-shows : (n : ℕ) (typed : Bool) → well → is_of (other s) Poison p ≡ typed
      → has_status_in (other s) (may_poison s n p).field ≡ nat_lt byte (unless_guarded (has_status_in (other s) p.field || is_of (other s) Poison p) n)
  unfolding may_poison stay
  may_poison-shows n true fit e =
      let guard = ap (λ (x : Bool). x || is_of (other s) Poison p) fit ∙ e in
      ap (λ (q : Progress). has_status_in (other s) q.field) (choose-true (λ q. has_status (other s) q || is_of (other s) Poison q) stay _ p guard) ∙ fit
      ∙ sym (guards byte n _ guard)
  may_poison-shows n false fit e =
      let guard = ap (λ (x : Bool). x || is_of (other s) Poison p) fit ∙ e in
      ap (λ (q : Progress). has_status_in (other s) q.field) (choose-false (λ q. has_status (other s) q || is_of (other s) Poison q) stay _ p guard)
      ∙ chance-shows n (inflict (other s) Poisoned kinds.Poison) p (has_status_in (other s)) (nat_lt byte n) refl fit
      (inflicted (other s) Poisoned kinds.Poison (drawn p) goes h refl)
      ∙ sym (lets byte n _ guard)

  -- A burn, a freeze or paralysis

  resists-by : (typed : Bool) → well → is_of (other s) move.kind p ≡ typed → resists_status s move p.field ≡ typed
  resists-by typed fit e = ap (λ (x : Bool). x || is_of (other s) move.kind p) fit ∙ e

  may_inflict-is : (n : ℕ) (f : Phase) → well → may_inflict s move n f p ≡ unless (is_of (other s) move.kind) (by_chance n f) p
  unfolding may_inflict
  may_inflict-is n f fit = choose-false (has_status (other s)) (thaw s move) (unless (is_of (other s) move.kind) (by_chance n f)) p fit

  may_inflict-shows : (n : ℕ) (f : Phase) (typed refused : Bool) → well → is_of (other s) move.kind p ≡ typed
      → has_status_in (other s) (f (drawn p)).field ≡ not refused
      → has_status_in (other s) (may_inflict s move n f p).field ≡ nat_lt byte (unless_guarded (resists_status s move p.field || refused) n)
  unfolding stay
  may_inflict-shows n f true refused fit e ill =
      let guard = ap (λ (x : Bool). x || refused) (resists-by true fit e) in
      ap (λ (q : Progress). has_status_in (other s) q.field) (may_inflict-is n f fit ∙ choose-true (is_of (other s) move.kind) stay (by_chance n f) p e) ∙ fit
      ∙ sym (guards byte n _ guard)
  may_inflict-shows n f false true fit e ill =
      let guard = ap (λ (x : Bool). x || true) (resists-by false fit e) in
      ap (λ (q : Progress). has_status_in (other s) q.field) (may_inflict-is n f fit ∙ choose-false (is_of (other s) move.kind) stay (by_chance n f) p e)
      ∙ chance-hides n f p (has_status_in (other s)) (nat_lt byte n) refl fit ill
      ∙ sym (guards byte n _ guard)
  may_inflict-shows n f false false fit e ill =
      let guard = ap (λ (x : Bool). x || false) (resists-by false fit e) in
      ap (λ (q : Progress). has_status_in (other s) q.field) (may_inflict-is n f fit ∙ choose-false (is_of (other s) move.kind) stay (by_chance n f) p e)
      ∙ chance-shows n f p (has_status_in (other s)) (nat_lt byte n) refl fit ill
      ∙ sym (lets byte n _ guard)

  or-none : (x : Bool) → (x || false) ≡ x
  or-none true = refl
  or-none false = refl

  status-shows : (n : ℕ) (status : Status) (kind : Kind) → well → is_healthy status ≡ false
      → has_status_in (other s) (may_inflict s move n (inflict (other s) status kind) p).field ≡ nat_lt byte (unless_guarded (resists_status s move p.field) n)
  status-shows n status kind fit ill =
      may_inflict-shows n (inflict (other s) status kind) (is_of (other s) move.kind p) false fit refl (inflicted (other s) status kind (drawn p) goes h ill)
      ∙ ap (λ (x : Bool). nat_lt byte (unless_guarded x n)) (or-none (resists_status s move p.field))

  -- A freeze, which the freeze clause may refuse

  freely : has_status_in (other s) (freeze_freely s (drawn p)).field ≡ true
  unfolding freeze_freely on_conditions on_active on_field
  freely =
      let r = on_conditions (other s) without_recharge (drawn p) in
      ap (λ (x : Progress). has_status_in (other s) x.field) (then-goes (on_conditions (other s) without_recharge) (inflict (other s) Frozen kinds.Freeze) (drawn p) goes)
      ∙ inflicted (other s) Frozen kinds.Freeze r goes (placed-there (other s) without_recharge p.field h) refl

  frozen-shows : (clause taken : Bool) → well → has_frozen_member (other s) p ≡ taken
      → has_status_in (other s) (freezes_under clause s (drawn p)).field ≡ not (clause && taken)
  unfolding freezes_under freeze_only_one stay
  frozen-shows false taken fit e = freely
  frozen-shows true true fit e = ap (λ (q : Progress). has_status_in (other s) q.field) (choose-true (has_frozen_member (other s)) stay (freeze_freely s) (drawn p) e) ∙ fit
  frozen-shows true false fit e = ap (λ (q : Progress). has_status_in (other s) q.field) (choose-false (has_frozen_member (other s)) stay (freeze_freely s) (drawn p) e) ∙ freely

  -- A flinch

  flinch-shows : (n : ℕ) → (conditions (other s) p).flinch ≡ false → (conditions_in (other s) (by_chance n (flinch (other s)) p).field).flinch ≡ nat_lt byte n
  unfolding flinch on_conditions on_active on_field with_flinch without_recharge
  flinch-shows n calm =
      let f = changed_conditions (other s) with_flinch p.field in
      chance-shows n (flinch (other s)) p (λ g. (conditions_in (other s) g).flinch) (nat_lt byte n) refl calm
      (ap (λ (q : Progress). (conditions_in (other s) q.field).flinch) (then-goes (on_conditions (other s) with_flinch) (on_conditions (other s) without_recharge) (drawn p) goes)
      ∙ ap (λ (c : ActiveConditions). c.flinch) (conditions-there (other s) without_recharge f)
      ∙ ap (λ (c : ActiveConditions). c.flinch) (conditions-there (other s) with_flinch p.field))

  -- Confusion

  confusion-shows : (n : ℕ) → is_confused (other s) p ≡ false → is_some (conditions_in (other s) (may_confuse s n p).field).confused ≡ nat_lt byte n
  unfolding may_confuse confuse draw confused_by starts told with_confusion
  confusion-shows n clear =
      chance-shows n (unless (is_confused (other s)) (confuse (other s))) p (λ g. is_some (conditions_in (other s) g).confused) (nat_lt byte n) refl clear
      (ap (λ (q : Progress). is_some (conditions_in (other s) q.field).confused) (choose-false (is_confused (other s)) stay (confuse (other s)) (drawn p) clear)
      ∙ ap (λ (c : ActiveConditions). is_some c.confused) (conditions-there (other s) _ p.field))

-- Stages

with-stage : (stat : Stat) (n : ℕ) (a : Active) → stage_of stat (with_stage stat n a.stages) ≡ n
with-stage Attack n a = refl
with-stage Defense n a = refl
with-stage Speed n a = refl
with-stage Special n a = refl
with-stage Accuracy n a = refl
with-stage Evasion n a = refl

recomputed-stage : (stat : Stat) (n : ℕ) (a : Active) → stage_of stat (recomputed_at stat n a).stages ≡ n
unfolding recomputed_at
recomputed-stage Attack n a = refl
recomputed-stage Defense n a = refl
recomputed-stage Speed n a = refl
recomputed-stage Special n a = refl
recomputed-stage Accuracy n a = refl
recomputed-stage Evasion n a = refl

penalty-stages : (status : Status) (a : Active) → (with_penalty_of status a).stages ≡ a.stages
unfolding with_penalty_of
penalty-stages Paralysed a = refl
penalty-stages Burned a = refl
penalty-stages _ a = refl

new-stage : (t : Side) (stat : Stat) (n : ℕ) (f : Field) → stage_in stat t (changed_active t (at_new_stage stat n) f) ≡ n
unfolding at_new_stage
new-stage t stat n f = ap (λ (a : Active). stage_of stat a.stages) (active-there t (at_new_stage stat n) f) ∙ with-stage stat n (active_in t f)

told-stage : (t : Side) (stat : Stat) (lowered : ℕ) (q : Progress) → q.stopped ≡ false → (note_unboost t stat lowered q).field ≡ q.field
unfolding note_unboost note stay
told-stage t stat lowered q h = by (nat_lt 0 lowered) refl
  where
    by : (x : Bool) → nat_lt 0 lowered ≡ x → (note_unboost t stat lowered q).field ≡ q.field
    by true e = ap (λ (r : Progress). r.field) (choose-true (λ _. nat_lt 0 lowered) _ stay q e)
    by false e = ap (λ (r : Progress). r.field) (choose-false (λ _. nat_lt 0 lowered) _ stay q e)

last-stays : (f : Phase) (q : Progress) → ((f ▸ stay) q).field ≡ (f q).field
unfolding ◌▸◌ unless_stopped stay
last-stays f q = by (f q).stopped
  where
    by : (x : Bool) → (elim x as (λ _. Progress) [ true ↦ f q | false ↦ f q ]).field ≡ (f q).field
    by true = refl
    by false = refl

not-less : (n : ℕ) → nat_lt n n ≡ false
not-less n = grind (arith, nat_tests)

back-up : (n : ℕ) → nat_le n 0 ≡ false → nat_lt (n - 1 + 1) n ≡ false
back-up n h = grind (arith, nat_tests)

one-down : (n : ℕ) → nat_le n 0 ≡ false → nat_lt (n - 1) n ≡ true
one-down n h = grind (arith, nat_tests)

module _ (s : Side) (stat : Stat) (q : Progress) (goes : q.stopped ≡ false) where
  abbrev foe : Side
  foe = other s

  abbrev held_at : ℕ → Phase
  held_at n = on_active foe (at_new_stage stat (n - 1 + 1)) ▸ note_unboost foe stat (n - (n - 1 + 1)) ▸ stay

  abbrev lowered_to : ℕ → Phase
  lowered_to n = shift_to s foe stat (n - 1) ▸ note_unboost foe stat (n - (n - 1))

  held-stage : (n : ℕ) → stage_in stat foe (held_at n q).field ≡ n - 1 + 1
  unfolding on_active on_field
  held-stage n =
      let r = on_active foe (at_new_stage stat (n - 1 + 1)) q in
      ap (λ (it : Progress). stage_in stat foe it.field) (then-goes (on_active foe (at_new_stage stat (n - 1 + 1))) (note_unboost foe stat (n - (n - 1 + 1)) ▸ stay) q goes)
      ∙ ap (stage_in stat foe) (last-stays (note_unboost foe stat (n - (n - 1 + 1))) r ∙ told-stage foe stat (n - (n - 1 + 1)) r goes)
      ∙ new-stage foe stat (n - 1 + 1) q.field

  lowered-stage : (n : ℕ) → stage_in stat foe (lowered_to n q).field ≡ n - 1
  unfolding shift_to take_penalty_again given on_active on_field
  lowered-stage n =
      let r = on_active foe (recomputed_at stat (n - 1)) q in
      let t = on_active foe (with_penalty_of (status_of foe r)) r in
      let is = then-goes (on_active foe (recomputed_at stat (n - 1))) (take_penalty_again foe) q goes in
      ap (λ (it : Progress). stage_in stat foe it.field) (then-goes (shift_to s foe stat (n - 1)) (note_unboost foe stat (n - (n - 1))) q (ap (λ (it : Progress). it.stopped) is ∙ goes))
      ∙ ap (λ (it : Progress). stage_in stat foe (note_unboost foe stat (n - (n - 1)) it).field) is
      ∙ ap (stage_in stat foe) (told-stage foe stat (n - (n - 1)) t goes)
      ∙ ap (λ (a : Active). stage_of stat a.stages) (active-there foe (with_penalty_of (status_of foe r)) r.field)
      ∙ ap (stage_of stat) (penalty-stages (status_of foe r) (active_in foe r.field))
      ∙ ap (λ (a : Active). stage_of stat a.stages) (active-there foe (recomputed_at stat (n - 1)) q.field)
      ∙ recomputed-stage stat (n - 1) (active_in foe q.field)

  lowers : (n : ℕ) (last least : Bool) → stage_in stat foe q.field ≡ n → nat_le n 0 ≡ last
      → nat_lt (stage_in stat foe (lower_from s foe stat 1 stay n least q).field) n ≡ not (last || least)
  unfolding lower_from stay
  lowers n true least at e =
      ap (λ (it : Progress). nat_lt (stage_in stat foe it.field) n) (choose-true (λ _. nat_le n 0) stay (choose (λ _. least) (held_at n) (lowered_to n)) q e)
      ∙ ap (λ (it : ℕ). nat_lt it n) at ∙ not-less n
  lowers n false true at e =
      ap (λ (it : Progress). nat_lt (stage_in stat foe it.field) n)
      (choose-false (λ _. nat_le n 0) stay (choose (λ _. true) (held_at n) (lowered_to n)) q e ∙ choose-true (λ _. true) (held_at n) (lowered_to n) q refl)
      ∙ ap (λ (it : ℕ). nat_lt it n) (held-stage n) ∙ back-up n e
  lowers n false false at e =
      ap (λ (it : Progress). nat_lt (stage_in stat foe it.field) n)
      (choose-false (λ _. nat_le n 0) stay (choose (λ _. false) (held_at n) (lowered_to n)) q e ∙ choose-false (λ _. false) (held_at n) (lowered_to n) q refl)
      ∙ ap (λ (it : ℕ). nat_lt it n) (lowered-stage n) ∙ one-down n e

drop-shows : (s : Side) (stat : Stat) (p : Progress) (lowest : Bool) → p.stopped ≡ false → is_lowest stat (other s) p.field ≡ lowest
    → nat_lt (stage_in stat (other s) (by_chance 85 (lower_stage s (other s) stat 1 stay) p).field) (stage_in stat (other s) p.field)
    ≡ nat_lt (byte_at p.stream p.drawn) (unless_guarded (is_lowest stat (other s) p.field) 85)
unfolding lower_stage given
drop-shows s stat p true goes e =
    let n = stage_in stat (other s) p.field in
    chance-hides 85 (lower_stage s (other s) stat 1 stay) p (λ g. nat_lt (stage_in stat (other s) g) n) (nat_lt (byte_at p.stream p.drawn) 85) refl (not-less n)
    (lowers s stat (drawn p) goes n (nat_le n 0) (stands_at 1 stat (other s) p.field) refl refl ∙ ap not e)
    ∙ sym (guards (byte_at p.stream p.drawn) 85 _ e)
drop-shows s stat p false goes e =
    let n = stage_in stat (other s) p.field in
    chance-shows 85 (lower_stage s (other s) stat 1 stay) p (λ g. nat_lt (stage_in stat (other s) g) n) (nat_lt (byte_at p.stream p.drawn) 85) refl (not-less n)
    (lowers s stat (drawn p) goes n (nat_le n 0) (stands_at 1 stat (other s) p.field) refl refl ∙ ap not e)
    ∙ sym (lets (byte_at p.stream p.drawn) 85 _ e)

-- All of them

module _ (t : Terms) (s : Side) (move : Move) (p : Progress) (goes : p.stopped ≡ false) (h : IsField t p.field) (bytes : IsStream p.stream) where
  abbrev next : ℕ
  next = byte_at p.stream p.drawn

  abbrev there : IsPlaced (other s) p.field
  there = placed-in t (other s) p.field h

  harm-counts : (e : Effect) → shows e s p.field p.field ≡ false
      → shows e s p.field (kept_away_effect (ruling_of t) s move e p).field ≡ nat_lt next (harm_draws t.rules s move p.field e)
  unfolding kept_away_effect stay
  harm-counts (effects.PoisonChance n) clear = may_poison-shows s move p goes there n (is_of (other s) Poison p) clear refl
  harm-counts effects.Twineedle clear = may_poison-shows s move p goes there 52 (is_of (other s) Poison p) clear refl
  harm-counts (effects.BurnChance n) clear = status-shows s move p goes there n Burned kinds.Burn clear refl
  harm-counts effects.FreezeChance clear =
      may_inflict-shows s move p goes there 26 (freezes_under t.rules.freeze_clause s) (is_of (other s) move.kind p) (resists_freeze t.rules s p.field) clear refl
      (frozen-shows s move p goes there t.rules.freeze_clause (has_frozen_member (other s) p) clear refl)
  harm-counts (effects.ParalysisChance n) clear = status-shows s move p goes there n Paralysed kinds.Paralysis clear refl
  harm-counts (effects.FlinchChance n) clear = flinch-shows s move p goes there n clear
  harm-counts (effects.StatDownChance stat) clear = drop-shows s stat p (is_lowest stat (other s) p.field) goes refl
  harm-counts (effects.ConfusionChance n) clear = clear ∙ sym (none-below next)
  harm-counts effects.Recharge clear = clear ∙ sym (none-below next)
  harm-counts _ clear = sym (none-below next)

  away-counts : (e : Effect) (away : Bool) → has_substitute (other s) p ≡ away → shows e s p.field p.field ≡ false
      → shows e s p.field (unless (has_substitute (other s)) (kept_away_effect (ruling_of t) s move e) p).field
      ≡ nat_lt next (unless_guarded (has_substitute_in (other s) p.field) (harm_draws t.rules s move p.field e))
  unfolding stay
  away-counts e true covered clear =
      ap (λ (q : Progress). shows e s p.field q.field) (choose-true (has_substitute (other s)) stay (kept_away_effect (ruling_of t) s move e) p covered) ∙ clear
      ∙ sym (guards next (harm_draws t.rules s move p.field e) _ covered)
  away-counts e false covered clear =
      ap (λ (q : Progress). shows e s p.field q.field) (choose-false (has_substitute (other s)) stay (kept_away_effect (ruling_of t) s move e) p covered)
      ∙ harm-counts e clear ∙ sym (lets next (harm_draws t.rules s move p.field e) _ covered)

  recharge-shows : (underway_in s (must_recharge s p).field).recharge ≡ true
  unfolding must_recharge told with_recharge
  recharge-shows = ap (λ (c : ActiveConditions). c.underway.recharge) (conditions-there s _ p.field)

  effect-counts : (e : Effect) → shows e s p.field p.field ≡ false
      → shows e s p.field (side_effect (ruling_of t) s move e p).field ≡ nat_lt next (effect_draws t.rules s move p.field e)
  unfolding side_effect
  effect-counts (effects.ConfusionChance n) clear = confusion-shows s move p goes there n clear ∙ sym (lets next n _ clear)
  effect-counts effects.Disable clear = sym (none-below next)
  effect-counts effects.Recharge clear = recharge-shows ∙ sym (all-below next (byte-small p.stream p.drawn bytes))
  effect-counts e clear = away-counts e (has_substitute (other s) p) refl clear

pub side_effect_counts : SideEffectCounts
side_effect_counts t s move p a = effect-counts t s move p a.moves_on a.valid a.bytes move.effect a.unharmed
