-- A story stays true through the gate, the landing and the hit test.
use Rattle.gen1_machine.specs.declared.event.CantReason.TheVariants as reasons
use Rattle.gen1_machine.specs.declared.side.Side.TheVariants.{One, Two}
use Rattle.gen1_machine.proofs.Keeps.{Keeps, Spares, choose-keeps, draw-keeps, given-keeps, note-keeps, on_action-keeps, on_conditions-keeps, on_field-keeps, stay-keeps, stop-keeps, then-keeps}
use Rattle.gen1_stats.specs.Members.{Member, is_asleep, is_marked}
use Rattle.std.proofs.Common.{[], Bool, List, None, Option, Some, ap, false, if◌then◌else◌, nat_le, refl, sym, true, true≢false, ℕ, ◌-◌, ◌∙◌, ◌≡◌, ◌++◌, ◌∷◌, subst}
use Rattle.gen1_stats.specs.declared.member.Status.{Status}
use Rattle.gen1_stats.specs.declared.member.Status.TheVariants.{Asleep, Healthy}
use Rattle.gen1_machine.specs.declared.side.Side.{Side}
use Rattle.gen1_machine.specs.declared.event.Kind.TheVariants as kinds
use Rattle.gen1_machine.specs.declared.event.Who.{Who}
use Rattle.gen1_machine.specs.declared.event.CantReason.{CantReason}
use Rattle.gen1_machine.specs.declared.event.DamageSource.{DamageSource}
use Rattle.gen1_machine.specs.declared.event.DamageSource.TheVariants as sources
use Rattle.gen1_machine.specs.declared.event.Volatile.TheVariants as volatiles
use Rattle.gen1_machine.specs.declared.event.Event.{Event}
use Rattle.gen1_machine.specs.declared.event.Event.TheVariants as events
use Rattle.gen1_machine.specs.declared.side.Pick.{Pick}
use Rattle.gen1_machine.specs.declared.side.DisabledSlot.{DisabledSlot}
use Rattle.gen1_machine.specs.Conditions.{ActiveConditions, with_confusion_one_less}
use Rattle.gen1_machine.specs.Sides.{other}
use Rattle.gen1_machine.specs.State.{changed_active, changed_conditions, changed_member, member_in, one_turn_less_asleep, who_in, with_last_damage, with_sleep_one_less, Field}
use Rattle.gen1_machine.specs.Moves.{Move}
use Rattle.gen1_machine.specs.Progress.{Progress, fail, fails_if, on_member, set_last_damage, set_missed, status_of, told, note, on_field}
use Rattle.gen1_machine.specs.Damage.{before_types}
use Rattle.gen1_machine.specs.HitTest.{miss, set_tested, hits_below, test_by, hit_test, hit_or_miss, note_miss, must_hit}
use Rattle.gen1_machine.specs.Landing.{set_broke, land_on_substitute, land_on_hp, land_by, land_damage, land}
use Rattle.gen1_machine.specs.HitOnItself.{land_on_foes_substitute, hurt_itself_by, hurt_itself}
use Rattle.gen1_machine.specs.Gate.{cant, wake, sleep_on, sleep_test, frozen_test, trapped_test, flinch_test, recharge_test, disable_count, may_hurt_itself, confusion_test, disabled_test, may_be_paralysed, paralysis_test, gate_of_status, gate_of_turn, gate_of_move, gate}
use Rattle.gen1_machine.proofs.Watching.{Leads, Runs, before-leads, choose-sees, choose-tells, given-sees, given-tells, if-sees, seeing, stay-tells, stop-leads, ◌⊳◌}
use Rattle.gen1_player.proofs.Facts.{IsAwake, Restful, Sizes, Sparing, calm-mild, confusion-calm, disable-calm, is_telling, is_still, substitute-calm, is_doze}
use Rattle.gen1_player.proofs.Stories.{MayFall, Now, Outline, Story, Tells, action-tells, any-lasts, any-loses, any-note, conditions-tells, damage-tells, draw-tells, ends-tells, fault-tells, holds-cured, lasts-tells, loosened, lose-tells, member-tells, mild-tells, note-tells, stop-tells, Dozing, at_end, begun-member, Holds}

miss-noise : (b : Bool) (x y : Who) → is_still (if b then events.Immune x else events.Miss y) ≡ true
miss-noise true x y = refl
miss-noise false x y = refl

pub sleep-tame : Sparing with_sleep_one_less
unfolding with_sleep_one_less
sleep-tame m = refl

-- At the end of the count it wakes up.
wakes-up : (turns : ℕ) (marked : Bool) (m : Member) → m.status ≡ Asleep turns marked → nat_le turns 1 ≡ true → is_asleep (with_sleep_one_less m).status ≡ false
unfolding with_sleep_one_less
wakes-up turns marked m e h = ap (λ (x : Status). is_asleep (one_turn_less_asleep x)) e ∙ ap (λ (b : Bool). is_asleep (if b then Healthy else Asleep (turns - 1) marked)) h

-- The count of a sleeping member has fallen, and no event has told so.
pub record Nods (v : Story) (n : Sizes) (pre : List Event) (s : Side) (p : Progress) : Type 0 where
  pub before : Field
  pub now : Holds v n pre before p.events
  pub turns : ℕ
  pub marked : Bool
  pub asleep : (member_in s before).status ≡ Asleep turns marked
  pub more : nat_le turns 1 ≡ false
  pub is : changed_member s with_sleep_one_less before ≡ p.field

module _ {v : Story} {n : Sizes} {pre : List Event} where
  -- Misses and failures

  pub missed-tells : (missed : Bool) → Tells v n pre (set_missed missed)
  unfolding set_missed seeing
  missed-tells missed = action-tells _

  pub fail-tells : (s : Side) → Tells v n pre (fail s)
  unfolding fail seeing
  fail-tells s = note-tells _ (λ f. refl) ⊳ stop-tells

  -- A test that fails no move is not met.
  pub fails_if-sees : (s : Side) (test : Progress → Bool) → Leads (Now v n pre) (λ p. Now v n pre p × (test p ≡ false)) (MayFall v n pre) (fails_if s test)
  unfolding fails_if fail
  fails_if-sees s test = choose-sees test (before-leads (λ p m. m.0) (note-tells _ (λ f. refl) ⊳ stop-leads loosened)) stay-tells

  pub fails_if-tells : (s : Side) (test : Progress → Bool) → Tells v n pre (fails_if s test)
  unfolding fails_if seeing
  fails_if-tells s test = choose-tells test (fail-tells s) stay-tells

  -- The landing

  pub broke-tells : Tells v n pre set_broke
  unfolding set_broke seeing
  broke-tells = action-tells _

  pub on_substitute-tells : (s : Side) (damage hp : ℕ) → Tells v n pre (land_on_substitute s damage hp)
  unfolding land_on_substitute seeing
  on_substitute-tells s damage hp = choose-tells _ (broke-tells ⊳ ends-tells s _ _ (λ c. refl)) (lasts-tells s volatiles.Substitute (λ w. refl) _ (substitute-calm damage))

  pub on_hp-tells : (s : Side) (source : DamageSource) → is_telling source ≡ false → (damage : ℕ) → Tells v n pre (land_on_hp s source damage)
  unfolding land_on_hp seeing
  on_hp-tells s source e damage = given-tells _ (λ m. damage-tells _ ⊳ lose-tells s source e damage)

  pub land_by-tells : (s : Side) (damage : ℕ) (o : Option ℕ) → Tells v n pre (land_by s damage o)
  unfolding land_by seeing
  land_by-tells s damage (Some hp) = on_substitute-tells s damage hp
  land_by-tells s damage None = on_hp-tells s sources.Direct refl damage

  pub land_damage-tells : (s : Side) (damage : ℕ) → Tells v n pre (land_damage s damage)
  unfolding land_damage seeing
  land_damage-tells s damage = given-tells _ (land_by-tells s damage)

  pub land-tells : (s : Side) → Tells v n pre (land s)
  unfolding land seeing
  land-tells s = choose-tells _ (given-tells _ (land_damage-tells s)) stay-tells

-- The hit on itself, in an outline

module _ {v : Story} {n : Sizes} {pre : List Event} (o : Outline v) where
  pub own_hp-tells : (s : Side) (damage : ℕ) → Tells v n pre (land_on_hp s sources.Confusion damage)
  unfolding land_on_hp seeing
  own_hp-tells s damage = given-tells _ (λ m. damage-tells _ ⊳ any-loses o s sources.Confusion damage)

  pub on_foes_substitute-tells : (s : Side) (damage : ℕ) (x : Option ℕ) → Tells v n pre (land_on_foes_substitute s damage x)
  unfolding land_on_foes_substitute seeing
  on_foes_substitute-tells s damage None = stay-tells
  on_foes_substitute-tells s damage (Some hp) = on_substitute-tells (other s) damage hp

  pub hurt_itself_by-tells : (s : Side) (x : Option ℕ) → Tells v n pre (hurt_itself_by s x)
  unfolding hurt_itself_by seeing
  hurt_itself_by-tells s None = fault-tells 1
  hurt_itself_by-tells s (Some damage) = damage-tells damage ⊳ choose-tells _ (given-tells _ (on_foes_substitute-tells s damage)) (own_hp-tells s damage)

  pub hurt_itself-tells : (s : Side) → Tells v n pre (hurt_itself s)
  unfolding hurt_itself seeing
  hurt_itself-tells s = mild-tells o s _ (λ c. refl) ⊳ mild-tells o s _ (λ c. refl) ⊳ mild-tells o s _ (λ c. refl)
      ⊳ given-tells _ (λ n. hurt_itself_by-tells s (before_types n)) ⊳ stop-tells

  -- The gate

  pub cant-tells : (s : Side) (why : CantReason) → is_doze why ≡ false → Tells v n pre (cant s why)
  unfolding cant seeing
  cant-tells s why e = any-note o _ (λ f. e) ⊳ stop-tells

  pub wake-told : {S : Progress → Type 0} (s : Side) (turns : ℕ) (marked : Bool) → nat_le turns 1 ≡ true → Leads (λ p. Now v n pre p × (status_of s p ≡ Asleep turns marked)) (Now v n pre) S
      (told (changed_member s with_sleep_one_less) (λ f. events.Cure (who_in s f) kinds.Sleep))
  unfolding told
  wake-told s turns marked h = record {
    leads = λ p r m.
        Runs r (holds-cured s with_sleep_one_less kinds.Sleep sleep-tame p.field p.events (wakes-up turns marked (member_in s p.field) m.1 h) m.0);
  }

  pub wake-tells : (s : Side) (turns : ℕ) (marked : Bool) → nat_le turns 1 ≡ true → Leads (λ p. Now v n pre p × (status_of s p ≡ Asleep turns marked)) (Now v n pre) (MayFall v n pre) (wake s)
  unfolding wake
  wake-tells s turns marked h = wake-told s turns marked h ⊳ stop-tells

  pub nods-tells : {S : Progress → Type 0} (s : Side) (turns : ℕ) (marked : Bool) → nat_le turns 1 ≡ false
      → Leads (λ p. Now v n pre p × (status_of s p ≡ Asleep turns marked)) (Nods v n pre s) S (on_member s with_sleep_one_less)
  unfolding on_member on_field
  nods-tells s turns marked h = record { leads = λ p r m. Runs r (record { before = p.field; now = m.0; turns = turns; marked = marked; asleep = m.1; more = h; is = refl }) }

  pub dozes-tells : {S : Progress → Type 0} → Dozing v → (s : Side) → Leads (Nods v n pre s) (Now v n pre) S (note (λ f. events.Cant (who_in s f) reasons.Asleep))
  unfolding note
  dozes-tells w s = record {
    leads = λ p r m.
        let g : Field = changed_member s with_sleep_one_less m.before in
        let e : Event = events.Cant (who_in s g) reasons.Asleep in
        let told : Holds v n pre g (p.events ++ e ∷ []) = record {
          begun = begun-member s with_sleep_one_less m.before m.now.begun;
          exact = at_end v.exact g pre p.events e (w.dozes s m.turns m.marked m.before (pre ++ p.events) m.now.begun.both m.asleep m.more m.now.exact);
        } in
        Runs r (subst (λ (f : Field). Holds v n pre f (p.events ++ events.Cant (who_in s f) reasons.Asleep ∷ [])) m.is told);
  }

  pub sleep_on-tells : Dozing v → (s : Side) (turns : ℕ) (marked : Bool) → nat_le turns 1 ≡ false → Leads (λ p. Now v n pre p × (status_of s p ≡ Asleep turns marked)) (Now v n pre) (MayFall v n pre) (sleep_on s)
  unfolding sleep_on cant
  sleep_on-tells w s turns marked h = nods-tells s turns marked h ⊳ dozes-tells w s ⊳ stop-tells

  pub sleep-tells : Dozing v → (s : Side) (status : Status) → Leads (λ p. Now v n pre p × (status_of s p ≡ status)) (Now v n pre) (MayFall v n pre) (sleep_test s status)
  unfolding sleep_test
  sleep-tells w s (Asleep turns marked) = if-sees (nat_le turns 1) (λ h. wake-tells s turns marked h) (λ h. sleep_on-tells w s turns marked h)
  sleep-tells w s _ = before-leads (λ p m. m.0) stay-tells

  pub frozen-tells : (s : Side) → Tells v n pre (frozen_test s)
  unfolding frozen_test seeing
  frozen-tells s = choose-tells _ (cant-tells s _ refl) stay-tells

  pub trapped-tells : (s : Side) → Tells v n pre (trapped_test s)
  unfolding trapped_test seeing
  trapped-tells s = choose-tells _ (cant-tells s _ refl) stay-tells

  pub flinch-tells : (s : Side) → Tells v n pre (flinch_test s)
  unfolding flinch_test seeing
  flinch-tells s = choose-tells _ (conditions-tells s _ (λ c. refl) ⊳ cant-tells s _ refl) stay-tells

  pub recharge-tells : (s : Side) → Tells v n pre (recharge_test s)
  unfolding recharge_test seeing
  recharge-tells s = choose-tells _ (conditions-tells s _ (λ c. refl) ⊳ cant-tells s _ refl) stay-tells

  pub disable_count-tells : (s : Side) (x : Option DisabledSlot) → Tells v n pre (disable_count s x)
  unfolding disable_count seeing
  disable_count-tells s None = stay-tells
  disable_count-tells s (Some d) = choose-tells _ (ends-tells s _ _ (λ c. refl)) (conditions-tells s _ disable-calm)

  pub may_hurt_itself-tells : (s : Side) (b : ℕ) → Tells v n pre (may_hurt_itself s b)
  unfolding may_hurt_itself seeing
  may_hurt_itself-tells s b = choose-tells _ (hurt_itself-tells s) stay-tells

  pub confusion-tells : (s : Side) (x : Option ℕ) → Tells v n pre (confusion_test s x)
  unfolding confusion_test seeing
  confusion-tells s None = stay-tells
  confusion-tells s (Some turns) = choose-tells _ (ends-tells s _ _ (λ c. refl)) (any-lasts o s _ with_confusion_one_less (calm-mild with_confusion_one_less confusion-calm) ⊳ draw-tells (may_hurt_itself-tells s))

  pub disabled-tells : (s : Side) (pick : Pick) → Tells v n pre (disabled_test s pick)
  unfolding disabled_test seeing
  disabled-tells s pick = choose-tells _ (mild-tells o s _ (λ c. refl) ⊳ cant-tells s _ refl) stay-tells

  pub may_be_paralysed-tells : (s : Side) (b : ℕ) → Tells v n pre (may_be_paralysed s b)
  unfolding may_be_paralysed seeing
  may_be_paralysed-tells s b = choose-tells _ (mild-tells o s _ (λ c. refl) ⊳ cant-tells s _ refl) stay-tells

  pub paralysis-tells : (s : Side) → Tells v n pre (paralysis_test s)
  unfolding paralysis_test seeing
  paralysis-tells s = choose-tells _ (draw-tells (may_be_paralysed-tells s)) stay-tells

  pub gate_of_status-tells : Dozing v → (s : Side) → Tells v n pre (gate_of_status s)
  unfolding gate_of_status seeing
  gate_of_status-tells w s = given-sees (status_of s) (sleep-tells w s) ⊳ frozen-tells s ⊳ trapped-tells s

  pub gate_of_turn-tells : (s : Side) → Tells v n pre (gate_of_turn s)
  unfolding gate_of_turn seeing
  gate_of_turn-tells s = flinch-tells s ⊳ recharge-tells s ⊳ given-tells _ (disable_count-tells s)

  pub gate_of_move-tells : (s : Side) (pick : Pick) → Tells v n pre (gate_of_move s pick)
  unfolding gate_of_move seeing
  gate_of_move-tells s pick = given-tells _ (confusion-tells s) ⊳ disabled-tells s pick ⊳ paralysis-tells s ⊳ choose-tells _ stop-tells stay-tells

  pub gate-tells : Dozing v → (s : Side) (pick : Pick) → Tells v n pre (gate s pick)
  unfolding gate seeing
  gate-tells w s pick = gate_of_status-tells w s ⊳ gate_of_turn-tells s ⊳ gate_of_move-tells s pick

-- The hit test

module _ {v : Story} {n : Sizes} {pre : List Event} where
  pub miss-tells : (s : Side) → Tells v n pre (miss s)
  unfolding miss seeing
  miss-tells s = missed-tells true ⊳ damage-tells 0 ⊳ conditions-tells s _ (λ c. refl)

  pub tested-tells : (byte : ℕ) → Tells v n pre (set_tested byte)
  unfolding set_tested seeing
  tested-tells byte = action-tells _

  pub hits_below-tells : (s : Side) (byte b : ℕ) → Tells v n pre (hits_below s byte b)
  unfolding hits_below seeing
  hits_below-tells s byte b = choose-tells _ stay-tells (miss-tells s)

  pub test_by-tells : (s : Side) (base : ℕ) (o : Option Bool) → Tells v n pre (test_by s base o)
  unfolding test_by seeing
  test_by-tells s base (Some true) = tested-tells base
  test_by-tells s base (Some false) = tested-tells base ⊳ miss-tells s
  test_by-tells s base None = given-tells _ (λ byte. tested-tells byte ⊳ draw-tells (hits_below-tells s byte))

  pub hit_test-tells : (s : Side) (move : Move) (base : ℕ) → Tells v n pre (hit_test s move base)
  unfolding hit_test seeing
  hit_test-tells s move base = given-tells _ (test_by-tells s base)

  pub hit_or_miss-tells : (s : Side) (move : Move) → Tells v n pre (hit_or_miss s move)
  unfolding hit_or_miss seeing
  hit_or_miss-tells s move = given-tells _ (hit_test-tells s move)

  pub note_miss-tells : (s : Side) (move : Move) → Tells v n pre (note_miss s move)
  unfolding note_miss
  note_miss-tells s move = note-tells _ (λ f. miss-noise _ _ _)

  pub must_hit-tells : (s : Side) (move : Move) → Tells v n pre (must_hit s move)
  unfolding must_hit seeing
  must_hit-tells s move = hit_or_miss-tells s move ⊳ choose-tells _ (note_miss-tells s move ⊳ stop-tells) stay-tells

-- It leaves who sleeps.

pub awake-conditions : (u s : Side) (change : ActiveConditions → ActiveConditions) → Spares (λ f a w. IsAwake u f) (changed_conditions s change)
unfolding changed_conditions changed_active
awake-conditions One One change = record { spared = λ f a w h. h }
awake-conditions One Two change = record { spared = λ f a w h. h }
awake-conditions Two One change = record { spared = λ f a w h. h }
awake-conditions Two Two change = record { spared = λ f a w h. h }

awake-damage : (u : Side) (damage : ℕ) → Spares (λ f a w. IsAwake u f) (with_last_damage damage)
unfolding with_last_damage
awake-damage One damage = record { spared = λ f a w h. h }
awake-damage Two damage = record { spared = λ f a w h. h }

module _ (u : Side) where
  miss-awake : (s : Side) → Keeps (λ f a w. IsAwake u f) (miss s)
  unfolding miss set_missed set_last_damage
  miss-awake s = then-keeps (on_action-keeps (record { spared = λ f a w h. h })) (then-keeps (on_field-keeps (awake-damage u 0)) (on_conditions-keeps s _ (awake-conditions u s _)))

  tested-awake : (byte : ℕ) → Keeps (λ f a w. IsAwake u f) (set_tested byte)
  unfolding set_tested
  tested-awake byte = on_action-keeps (record { spared = λ f a w h. h })

  test-awake : (s : Side) (base : ℕ) (o : Option Bool) → Keeps (λ f a w. IsAwake u f) (test_by s base o)
  unfolding test_by hits_below
  test-awake s base (Some true) = tested-awake base
  test-awake s base (Some false) = then-keeps (tested-awake base) (miss-awake s)
  test-awake s base None = given-keeps _ (λ byte. then-keeps (tested-awake byte) (draw-keeps (λ b. choose-keeps _ stay-keeps (miss-awake s))))

  pub must_hit-awake : (s : Side) (move : Move) → Keeps (λ f a w. IsAwake u f) (must_hit s move)
  unfolding must_hit hit_or_miss hit_test note_miss
  must_hit-awake s move = then-keeps (given-keeps _ (λ base. given-keeps _ (test-awake s base))) (choose-keeps _ (then-keeps (note-keeps _) stop-keeps) stay-keeps)

  pub fails_if-awake : (s : Side) (test : Progress → Bool) → Keeps (λ f a w. IsAwake u f) (fails_if s test)
  unfolding fails_if fail
  fails_if-awake s test = choose-keeps _ (then-keeps (note-keeps _) stop-keeps) stay-keeps
