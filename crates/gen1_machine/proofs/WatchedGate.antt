-- A spectator can follow the gate, the landing, the hit test, a switch, and the beginning of a battle.
use Rattle.std.proofs.Common.{Bool, None, Option, Some, ap, false, if◌then◌else◌, nat_le, refl, sym, true, ℕ, ◌-◌, ◌∙◌, ◌≡◌, [], List, arith, get_or-set_same, length, length-set, map, nat_lt, not, slice_index_or, subst, ◌&&◌, ◌++◌, ◌==◌, ◌∷◌, ◌≤◌}
use Rattle.gen1_stats.specs.declared.member.Status.{Status}
use Rattle.gen1_stats.specs.declared.member.Status.TheVariants.{Asleep, Healthy}
use Rattle.gen1_machine.specs.declared.side.Side.{Side}
use Rattle.gen1_machine.specs.declared.event.Who.{Who}
use Rattle.gen1_machine.specs.declared.event.CantReason.{CantReason}
use Rattle.gen1_machine.specs.declared.event.DamageSource.{DamageSource}
use Rattle.gen1_machine.specs.declared.side.Pick.{Pick}
use Rattle.gen1_machine.specs.declared.side.DisabledSlot.{DisabledSlot}
use Rattle.gen1_machine.specs.Sides.{other}
use Rattle.gen1_machine.specs.State.{kind_of, who_in, changed_member, member_in, status_in, one_turn_less_asleep, with_sleep_one_less, party, member_at, has_fallen_in, health_of, health_in, changed_active, changed_conditions, nobody_out, Active, Party, Field}
use Rattle.gen1_machine.specs.Moves.{Move}
use Rattle.gen1_machine.specs.Progress.{set_missed, fail, fails_if, on_member, member, status_of, Progress, given, unless_stopped, ◌▸◌, on_field, on_active, on_conditions, note}
use Rattle.gen1_machine.specs.Damage.{before_types}
use Rattle.gen1_machine.specs.HitTest.{miss, set_tested, hits_below, test_by, hit_test, hit_or_miss, note_miss, must_hit}
use Rattle.gen1_machine.specs.Landing.{set_broke, land_on_substitute, land_on_hp, land_by, land_damage, land}
use Rattle.gen1_machine.specs.HitOnItself.{land_on_foes_substitute, hurt_itself_by, hurt_itself}
use Rattle.gen1_machine.specs.Gate.{cant, wake, sleep_on, sleep_test, frozen_test, trapped_test, flinch_test, recharge_test, disable_count, may_hurt_itself, confusion_test, disabled_test, may_be_paralysed, paralysis_test, gate_of_status, gate_of_turn, gate_of_move, gate}
use Rattle.gen1_machine.specs.View.{sees, shown, shows, View, side_view, on_side_view, not_shown, shown_at, if_out, on_named, on_shown, on_active_shown, cleared, sees_switch, sees_volatile, sees_rise, sees_drop, sees_all, side_shows, Shown, SideView}
use Rattle.gen1_machine.proofs.Watching.{keeps-member, unseen-member, told-member, seeing, Leads, Seen, Halted, Tells, before-leads, ◌⊳◌, choose-tells, if-sees, given-tells, given-sees, draw-tells, stay-tells, stop-tells, fault-tells, action-tells, conditions-tells, damage-tells, field-sees, note-tells, told-sees, ends-tells, lasts-tells, lose-tells, cure-seen, confusion-unseen, substitute-unseen, IsOut, ActiveView, active_view, side_of, active-shown, penalty-unseen, Runs, Lands, Behind, Anything, fallen_view, after-leads, sees_all-last}
use Rattle.std.proofs.lemmas.Bool.{le-leb}
use Rattle.std.proofs.lemmas.List.{length-map, map-set, set-get_or}
use Rattle.gen1_tables.specs.Species.{species_row}
use Rattle.gen1_stats.specs.Members.{nobody, Member}
use Rattle.gen1_machine.specs.declared.side.Side.TheVariants.{One, Two}
use Rattle.gen1_machine.specs.declared.event.Volatile.{Volatile}
use Rattle.gen1_machine.specs.declared.event.Event.{Event}
use Rattle.gen1_machine.specs.declared.side.Choice.{Choice}
use Rattle.gen1_machine.specs.Health.{Health}
use Rattle.gen1_machine.specs.Conditions.{without_trapping}
use Rattle.gen1_machine.specs.SwitchingIn.{with_sent_out, switch_event, send_out, start}
use Rattle.gen1_machine.specs.declared.event.Kind.TheVariants as kinds
use Rattle.gen1_machine.specs.declared.event.DamageSource.TheVariants as sources
use Rattle.gen1_machine.specs.declared.event.Event.TheVariants as events
use Rattle.gen1_machine.specs.declared.terms.Outcome.TheVariants as outcomes
use Rattle.gen1_machine.specs.declared.event.Volatile.TheVariants as volatiles
use Rattle.gen1_machine.specs.declared.side.Choice.TheVariants as choices

miss-unseen : (b : Bool) (x y : Who) (w : View) → sees (if b then events.Immune x else events.Miss y) w ≡ w
unfolding sees
miss-unseen true x y w = refl
miss-unseen false x y w = refl

less-asleep : (turns : ℕ) (marked : Bool) (status : Status) → status ≡ Asleep turns marked
    → kind_of (one_turn_less_asleep status) ≡ kind_of (if nat_le turns 1 then Healthy else Asleep (turns - 1) marked)
less-asleep turns marked status e = ap (λ s. kind_of (one_turn_less_asleep s)) e

module _ {v : View} where
  -- Misses and failures

  pub missed-tells : (missed : Bool) → Tells v (set_missed missed)
  unfolding set_missed seeing
  missed-tells missed = action-tells _

  pub fail-tells : (s : Side) → Tells v (fail s)
  unfolding fail seeing
  fail-tells s = note-tells _ (λ f w. refl) ⊳ stop-tells

  pub fails_if-tells : (s : Side) (test : Progress → Bool) → Tells v (fails_if s test)
  unfolding fails_if seeing
  fails_if-tells s test = choose-tells test (fail-tells s) stay-tells

  pub cant-tells : (s : Side) (why : CantReason) → Tells v (cant s why)
  unfolding cant seeing
  cant-tells s why = note-tells _ (λ f w. refl) ⊳ stop-tells

  -- The landing

  pub broke-tells : Tells v set_broke
  unfolding set_broke seeing
  broke-tells = action-tells _

  pub on_substitute-tells : (s : Side) (damage hp : ℕ) → Tells v (land_on_substitute s damage hp)
  unfolding land_on_substitute seeing
  on_substitute-tells s damage hp = choose-tells _ (broke-tells ⊳ ends-tells s _ _ (λ t. refl)) (lasts-tells s _ _ (substitute-unseen damage))

  pub on_hp-tells : (s : Side) (source : DamageSource) (damage : ℕ) → Tells v (land_on_hp s source damage)
  unfolding land_on_hp seeing
  on_hp-tells s source damage = given-tells _ (λ m. damage-tells _ ⊳ lose-tells s source damage)

  pub land_by-tells : (s : Side) (damage : ℕ) (o : Option ℕ) → Tells v (land_by s damage o)
  unfolding land_by seeing
  land_by-tells s damage (Some hp) = on_substitute-tells s damage hp
  land_by-tells s damage None = on_hp-tells s sources.Direct damage

  pub land_damage-tells : (s : Side) (damage : ℕ) → Tells v (land_damage s damage)
  unfolding land_damage seeing
  land_damage-tells s damage = given-tells _ (land_by-tells s damage)

  pub land-tells : (s : Side) → Tells v (land s)
  unfolding land seeing
  land-tells s = choose-tells _ (given-tells _ (land_damage-tells s)) stay-tells

  -- The hit on itself

  pub on_foes_substitute-tells : (s : Side) (damage : ℕ) (o : Option ℕ) → Tells v (land_on_foes_substitute s damage o)
  unfolding land_on_foes_substitute seeing
  on_foes_substitute-tells s damage None = stay-tells
  on_foes_substitute-tells s damage (Some hp) = on_substitute-tells (other s) damage hp

  pub hurt_itself_by-tells : (s : Side) (o : Option ℕ) → Tells v (hurt_itself_by s o)
  unfolding hurt_itself_by seeing
  hurt_itself_by-tells s None = fault-tells 1
  hurt_itself_by-tells s (Some damage) = damage-tells damage ⊳ choose-tells _ (given-tells _ (on_foes_substitute-tells s damage)) (on_hp-tells s sources.Confusion damage)

  pub hurt_itself-tells : (s : Side) → Tells v (hurt_itself s)
  unfolding hurt_itself seeing
  hurt_itself-tells s = conditions-tells s _ (λ c. refl) ⊳ conditions-tells s _ (λ c. refl) ⊳ conditions-tells s _ (λ c. refl)
      ⊳ given-tells _ (λ n. hurt_itself_by-tells s (before_types n)) ⊳ stop-tells

  -- The gate

  -- A sleeper wakes up exactly when its count is at its end

  pub wake-tells : (s : Side) (turns : ℕ) (marked : Bool) → nat_le turns 1 ≡ true
      → Leads (λ p. Seen v p × (status_of s p ≡ Asleep turns marked)) (Seen v) (Halted v) (wake s)
  unfolding wake with_sleep_one_less
  wake-tells s turns marked e = told-sees (changed_member s with_sleep_one_less) (λ f. events.Cure (who_in s f) kinds.Sleep)
      (keeps-member s with_sleep_one_less) (λ p m. m.0)
      (λ p m. cure-seen (who_in s (changed_member s with_sleep_one_less p.field)) kinds.Sleep (shows p.field)
      ∙ told-member s with_sleep_one_less (λ n x. record x { kind = None }) p.field m.0.out.both
      (ap (λ k. record (shown (member s p)) { kind = k }) (sym (less-asleep turns marked (status_of s p) m.1
      ∙ ap (λ (b : Bool). kind_of (if b then Healthy else Asleep (turns - 1) marked)) e))))
      ⊳ stop-tells

  pub sleep_on-tells : (s : Side) (turns : ℕ) (marked : Bool) → nat_le turns 1 ≡ false
      → Leads (λ p. Seen v p × (status_of s p ≡ Asleep turns marked)) (Seen v) (Halted v) (sleep_on s)
  unfolding sleep_on on_member with_sleep_one_less
  sleep_on-tells s turns marked e = field-sees _ (λ f. status_in s f ≡ Asleep turns marked) (keeps-member s with_sleep_one_less)
      (λ f h. unseen-member s with_sleep_one_less f
      (ap (λ k. record (shown (member_in s f)) { kind = k }) (less-asleep turns marked (status_in s f) h
      ∙ ap (λ (b : Bool). kind_of (if b then Healthy else Asleep (turns - 1) marked)) e ∙ sym (ap kind_of h))))
      ⊳ cant-tells s _

  pub sleep-tells : (s : Side) (status : Status) → Leads (λ p. Seen v p × (status_of s p ≡ status)) (Seen v) (Halted v) (sleep_test s status)
  unfolding sleep_test
  sleep-tells s (Asleep turns marked) = if-sees (nat_le turns 1) (λ e. wake-tells s turns marked e) (λ e. sleep_on-tells s turns marked e)
  sleep-tells s _ = before-leads (λ p m. m.0) stay-tells

  pub frozen-tells : (s : Side) → Tells v (frozen_test s)
  unfolding frozen_test seeing
  frozen-tells s = choose-tells _ (cant-tells s _) stay-tells

  pub trapped-tells : (s : Side) → Tells v (trapped_test s)
  unfolding trapped_test seeing
  trapped-tells s = choose-tells _ (cant-tells s _) stay-tells

  pub flinch-tells : (s : Side) → Tells v (flinch_test s)
  unfolding flinch_test seeing
  flinch-tells s = choose-tells _ (conditions-tells s _ (λ c. refl) ⊳ cant-tells s _) stay-tells

  pub recharge-tells : (s : Side) → Tells v (recharge_test s)
  unfolding recharge_test seeing
  recharge-tells s = choose-tells _ (conditions-tells s _ (λ c. refl) ⊳ cant-tells s _) stay-tells

  pub disable_count-tells : (s : Side) (o : Option DisabledSlot) → Tells v (disable_count s o)
  unfolding disable_count seeing
  disable_count-tells s None = stay-tells
  disable_count-tells s (Some d) = choose-tells _ (ends-tells s _ _ (λ t. refl)) (conditions-tells s _ (λ c. refl))

  pub may_hurt_itself-tells : (s : Side) (b : ℕ) → Tells v (may_hurt_itself s b)
  unfolding may_hurt_itself seeing
  may_hurt_itself-tells s b = choose-tells _ (hurt_itself-tells s) stay-tells

  pub confusion-tells : (s : Side) (o : Option ℕ) → Tells v (confusion_test s o)
  unfolding confusion_test seeing
  confusion-tells s None = stay-tells
  confusion-tells s (Some turns) = choose-tells _ (ends-tells s _ _ (λ t. refl)) (lasts-tells s _ _ confusion-unseen ⊳ draw-tells (may_hurt_itself-tells s))

  pub disabled-tells : (s : Side) (pick : Pick) → Tells v (disabled_test s pick)
  unfolding disabled_test seeing
  disabled-tells s pick = choose-tells _ (conditions-tells s _ (λ c. refl) ⊳ cant-tells s _) stay-tells

  pub may_be_paralysed-tells : (s : Side) (b : ℕ) → Tells v (may_be_paralysed s b)
  unfolding may_be_paralysed seeing
  may_be_paralysed-tells s b = choose-tells _ (conditions-tells s _ (λ c. refl) ⊳ cant-tells s _) stay-tells

  pub paralysis-tells : (s : Side) → Tells v (paralysis_test s)
  unfolding paralysis_test seeing
  paralysis-tells s = choose-tells _ (draw-tells (may_be_paralysed-tells s)) stay-tells

  pub gate_of_status-tells : (s : Side) → Tells v (gate_of_status s)
  unfolding gate_of_status seeing
  gate_of_status-tells s = given-sees (status_of s) (sleep-tells s) ⊳ frozen-tells s ⊳ trapped-tells s

  pub gate_of_turn-tells : (s : Side) → Tells v (gate_of_turn s)
  unfolding gate_of_turn seeing
  gate_of_turn-tells s = flinch-tells s ⊳ recharge-tells s ⊳ given-tells _ (disable_count-tells s)

  pub gate_of_move-tells : (s : Side) (pick : Pick) → Tells v (gate_of_move s pick)
  unfolding gate_of_move seeing
  gate_of_move-tells s pick = given-tells _ (confusion-tells s) ⊳ disabled-tells s pick ⊳ paralysis-tells s ⊳ choose-tells _ stop-tells stay-tells

  pub gate-tells : (s : Side) (pick : Pick) → Tells v (gate s pick)
  unfolding gate seeing
  gate-tells s pick = gate_of_status-tells s ⊳ gate_of_turn-tells s ⊳ gate_of_move-tells s pick

  -- The hit test

  pub miss-tells : (s : Side) → Tells v (miss s)
  unfolding miss seeing
  miss-tells s = missed-tells true ⊳ damage-tells 0 ⊳ conditions-tells s _ (λ c. refl)

  pub tested-tells : (byte : ℕ) → Tells v (set_tested byte)
  unfolding set_tested seeing
  tested-tells byte = action-tells _

  pub hits_below-tells : (s : Side) (byte b : ℕ) → Tells v (hits_below s byte b)
  unfolding hits_below seeing
  hits_below-tells s byte b = choose-tells _ stay-tells (miss-tells s)

  pub test_by-tells : (s : Side) (base : ℕ) (o : Option Bool) → Tells v (test_by s base o)
  unfolding test_by seeing
  test_by-tells s base (Some true) = tested-tells base
  test_by-tells s base (Some false) = tested-tells base ⊳ miss-tells s
  test_by-tells s base None = given-tells _ (λ byte. tested-tells byte ⊳ draw-tells (hits_below-tells s byte))

  pub hit_test-tells : (s : Side) (move : Move) (base : ℕ) → Tells v (hit_test s move base)
  unfolding hit_test seeing
  hit_test-tells s move base = given-tells _ (test_by-tells s base)

  pub hit_or_miss-tells : (s : Side) (move : Move) → Tells v (hit_or_miss s move)
  unfolding hit_or_miss seeing
  hit_or_miss-tells s move = given-tells _ (hit_test-tells s move)

  pub note_miss-tells : (s : Side) (move : Move) → Tells v (note_miss s move)
  unfolding note_miss
  note_miss-tells s move = note-tells _ (λ f w. miss-unseen _ _ _ w)

  pub must_hit-tells : (s : Side) (move : Move) → Tells v (must_hit s move)
  unfolding must_hit seeing
  must_hit-tells s move = hit_or_miss-tells s move ⊳ choose-tells _ (note_miss-tells s move ⊳ stop-tells) stay-tells

-- A spectator can follow a switch, and the beginning of a battle.

-- A view always shows the same number of members

record SameSize (w x : View) : Type 0 where
  one : length x.one.members ≡ length w.one.members
  two : length x.two.members ≡ length w.two.members

same-size : (w : View) → SameSize w w
same-size w = record { one = refl; two = refl }

side-size : (s : Side) (g : SideView → SideView) → ((x : SideView) → length (g x).members ≡ length x.members) → (w : View) → SameSize w (on_side_view s g w)
side-size One g h w = record { one = h w.one; two = refl }
side-size Two g h w = record { one = refl; two = h w.two }

out-size : (g : SideView → SideView) → ((x : SideView) → length (g x).members ≡ length x.members) → (x : SideView) → length (if_out g x).members ≡ length x.members
out-size g h x = elim (x.place == 0) as (λ b. length (if b then x else g x).members ≡ length x.members) [ true ↦ refl | false ↦ h x ]

shown-size : (f : Shown → Shown) (x : SideView) → length (on_shown f x).members ≡ length x.members
shown-size f x = length-set x.members (x.place - 1) (f (shown_at x.place x))

switch-size : (place : ℕ) (h : Health) (x : SideView) → length (sees_switch place h x).members ≡ length x.members
switch-size place h x = elim (nat_le 1 place && nat_le place (length x.members)) as (λ b. length (if b
    then on_shown (λ _. record { hp = h.hp; kind = h.kind }) (record (cleared x) { place = place; substitute = false }) else x).members ≡ length x.members) [
      | true ↦ length-set x.members (place - 1) (record { hp = h.hp; kind = h.kind })
      | false ↦ refl
    ]

volatile-size : (what : Volatile) (on : Bool) (x : SideView) → length (sees_volatile what on x).members ≡ length x.members
volatile-size volatiles.Confusion on x = refl
volatile-size volatiles.Substitute on x = refl
volatile-size volatiles.LightScreen on x = refl
volatile-size volatiles.Reflect on x = refl
volatile-size _ on x = refl

sees-size : (event : Event) (w : View) → SameSize w (sees event w)
unfolding sees on_named on_active_shown
sees-size (events.Switch u place level h) w = side-size u.side (sees_switch place h) (switch-size place h) w
sees-size (events.Damage u h source) w = side-size u.side _ (out-size (on_shown (λ m. record m { hp = h.hp })) (shown-size (λ m. record m { hp = h.hp }))) w
sees-size (events.Heal u h) w = side-size u.side _ (out-size (on_shown (λ m. record m { hp = h.hp })) (shown-size (λ m. record m { hp = h.hp }))) w
sees-size (events.Status u kind) w = side-size u.side _ (out-size (on_shown (λ m. record m { kind = Some kind })) (shown-size (λ m. record m { kind = Some kind }))) w
sees-size (events.Cure u kind) w = side-size u.side _ (out-size (on_shown (λ m. record m { kind = None })) (shown-size (λ m. record m { kind = None }))) w
sees-size (events.Faint u) w = side-size u.side _ (out-size (on_shown (λ m. not_shown)) (shown-size (λ m. not_shown))) w
sees-size (events.Boost u stat n) w = side-size u.side _ (out-size (sees_rise stat n) (λ x. refl)) w
sees-size (events.Unboost u stat n) w = side-size u.side _ (out-size (sees_drop stat n) (λ x. refl)) w
sees-size (events.Start u what) w = side-size u.side _ (out-size (sees_volatile what true) (volatile-size what true)) w
sees-size (events.End u what) w = side-size u.side _ (out-size (sees_volatile what false) (volatile-size what false)) w
sees-size _ w = record { one = refl; two = refl }

sees_all-size : (events : List Event) (w : View) → SameSize w (sees_all events w)
unfolding sees_all
sees_all-size [] w = same-size w
sees_all-size (event ∷ more) w =
    let a = sees-size event w in
    let b = sees_all-size more (sees event w) in
    record { one = b.one ∙ a.one; two = b.two ∙ a.two }

pub sized : (v : View) (f : Field) (events : List Event) → sees_all events v ≡ shows f → (s : Side) → length (party s f).members ≡ length (side_view s v).members
sized v f events e One = sym (length-map f.one.members shown) ∙ sym (ap (λ (w : View). length w.one.members) e) ∙ (sees_all-size events v).one
sized v f events e Two = sym (length-map f.two.members shown) ∙ sym (ap (λ (w : View). length w.two.members) e) ∙ (sees_all-size events v).two

-- A place that holds a member, and a choice that names one

abbrev pub Fits : View → Side → ℕ → Type 0
Fits v s place = (1 ≤ place) × (place ≤ length (side_view s v).members)

abbrev pub ChoiceFits : View → Side → Choice → Type 0
ChoiceFits v s (choices.Switch place) = Fits v s place
ChoiceFits v s _ = Unit {0}

fits-now : (v : View) (f : Field) (events : List Event) (s : Side) (place : ℕ) → Fits v s place → sees_all events v ≡ shows f → place ≤ length (party s f).members
fits-now v f events s place fits e = let h = sized v f events e s in omega (arith, h, fits.1)

-- A switch and its event

abbrev fresh : ℕ → Member → Active
fresh place m = record nobody_out {
  place = place;
  first_type = (species_row m.species).first_type;
  second_type = (species_row m.species).second_type;
}

and-true : (a b : Bool) → a ≡ true → b ≡ true → (a && b) ≡ true
and-true a b e h = ap (λ (x : Bool). x && b) e ∙ h

switched-side : (place : ℕ) (t : Party) → 1 ≤ place → place ≤ length t.members
    → sees_switch place (health_of (member_at place t)) (side_shows t) ≡ side_shows (record t { active = with_sent_out place (member_at place t) t.active })
unfolding with_sent_out
switched-side place t low high =
    let m : Member = member_at place t in
    let x : SideView = side_shows t in
    let y : SideView = on_shown (λ _. shown m) (record (cleared x) { place = place; substitute = false }) in
    let counted : length (map shown t.members) ≡ length t.members = length-map t.members shown in
    ap (λ (b : Bool). if b then y else x)
    (and-true (nat_le 1 place) (nat_le place (length (map shown t.members))) (le-leb 1 place low)
    (le-leb place (length (map shown t.members)) (omega (arith, high, counted))))
    ∙ ap (λ (ms : List Shown). side_of ms (active_view (fresh place m)))
    (sym (map-set shown t.members (place - 1) m) ∙ ap (λ (ms : List Member). map shown ms) (set-get_or t.members (place - 1) nobody))
    ∙ ap (λ (a : ActiveView). side_of (map shown t.members) a) (sym (penalty-unseen m.status (fresh place m)))

sent-place : (place : ℕ) (m : Member) (a : Active) → (with_sent_out place m a).place ≡ place
unfolding with_sent_out
sent-place place m a = ap (λ (w : ActiveView). w.place) (penalty-unseen m.status (fresh place m))

-- The field after a switch.
abbrev sent : Side → ℕ → Field → Field
sent s place f = changed_conditions (other s) without_trapping (changed_active s (with_sent_out place (member_at place (party s f))) f)

switch-seen : (w : Who) (place level : ℕ) (h : Health) (x : View) → sees (events.Switch w place level h) x ≡ on_side_view w.side (sees_switch place h) x
unfolding sees
switch-seen w place level h x = refl

switch-shows : (s : Side) (place : ℕ) (f : Field) → 1 ≤ place → place ≤ length (party s f).members → sees (switch_event s place (sent s place f)) (shows f) ≡ shows (sent s place f)
unfolding changed_active changed_conditions without_trapping
switch-shows One place f low high =
    let q : Field = sent One place f in
    switch-seen (who_in One q) place (member_in One q).level (health_in One q) (shows f)
    ∙ ap (λ n. record (shows f) { one = sees_switch place (health_of (slice_index_or f.one.members (n - 1) nobody)) (side_shows f.one) })
    (sent-place place (member_at place f.one) f.one.active)
    ∙ ap (λ (x : SideView). record (shows f) { one = x }) (switched-side place f.one low high)
switch-shows Two place f low high =
    let q : Field = sent Two place f in
    switch-seen (who_in Two q) place (member_in Two q).level (health_in Two q) (shows f)
    ∙ ap (λ n. record (shows f) { two = sees_switch place (health_of (slice_index_or f.two.members (n - 1) nobody)) (side_shows f.two) })
    (sent-place place (member_at place f.two) f.two.active)
    ∙ ap (λ (x : SideView). record (shows f) { two = x }) (switched-side place f.two low high)

-- All that shows, with a fact of each side.
pub record Even (v : View) (A B : Party → Type 0) (f : Field) (events : List Event) : Type 0 where
  pub agrees : sees_all events v ≡ shows f
  pub ongoing : f.outcome ≡ outcomes.Ongoing
  pub one : A f.one
  pub two : B f.two

-- A fact that depends only on the members and the place.
abbrev pub Steady : (Party → Type 0) → Type 0
Steady A = (t : Party) (a : Active) → a.place ≡ t.active.place → A t → A (record t { active = a })

pub steady-out : Steady IsOut
steady-out t a e o = record { placed = omega (arith, e, o.placed); within = omega (arith, e, o.within) }

pub steady-any : Steady (λ t. Unit {0})
steady-any t a e o = tt

out-now : (place : ℕ) (t : Party) → 1 ≤ place → place ≤ length t.members → IsOut (record t { active = with_sent_out place (member_at place t) t.active })
out-now place t low high = let e = sent-place place (member_at place t) t.active in record { placed = omega (arith, e, low); within = omega (arith, e, high) }

sent-agrees : (v : View) (events : List Event) (s : Side) (place : ℕ) (f : Field) → sees_all events v ≡ shows f → 1 ≤ place → place ≤ length (party s f).members
    → sees_all (events ++ switch_event s place (sent s place f) ∷ []) v ≡ shows (sent s place f)
sent-agrees v events s place f e low high =
    sees_all-last events (switch_event s place (sent s place f)) v ∙ ap (λ w. sees (switch_event s place (sent s place f)) w) e ∙ switch-shows s place f low high

send_out-at : (s : Side) (place : ℕ) (p : Progress) → p.stopped ≡ false
    → send_out s place p ≡ record p { field = sent s place p.field; events = p.events ++ switch_event s place (sent s place p.field) ∷ [] }
unfolding send_out given on_active on_conditions on_field note ◌▸◌ unless_stopped
send_out-at s place p r =
    let first : Progress = record p { field = changed_active s (with_sent_out place (member_at place (party s p.field))) p.field } in
    let second : Progress = record p { field = sent s place p.field } in
    let third : Progress = record p { field = sent s place p.field; events = p.events ++ switch_event s place (sent s place p.field) ∷ [] } in
    ap (λ (b : Bool). elim b as (λ _. Progress) [ true ↦ first | false ↦ elim b as (λ _. Progress) [ true ↦ second | false ↦ third ] ]) r

pub even-seen : {v : View} (p : Progress) → Even v IsOut IsOut p.field p.events → Seen v p
even-seen p m = record { out = record { both = record { one = m.one; two = m.two }; ongoing = m.ongoing }; agrees = m.agrees }

seen-even : {v : View} (p : Progress) → Seen v p → Even v IsOut IsOut p.field p.events
seen-even p m = record { agrees = m.agrees; ongoing = m.out.ongoing; one = m.out.both.one; two = m.out.both.two }

module _ {v : View} {S : Progress → Type 0} where
  pub send-one : (A B : Party → Type 0) → Steady B → (place : ℕ) → Fits v One place
      → Leads (λ p. Even v A B p.field p.events) (λ p. Even v IsOut B p.field p.events) S (send_out One place)
  unfolding changed_active changed_conditions without_trapping
  send-one A B steady place fits = record {
    leads = λ p r m.
        let high = fits-now v p.field p.events One place fits m.agrees in
        subst (λ (x : Progress). Lands (λ p. Even v IsOut B p.field p.events) S x) (sym (send_out-at One place p r))
        (Runs r (record {
          agrees = sent-agrees v p.events One place p.field m.agrees fits.0 high;
          ongoing = m.ongoing;
          one = out-now place p.field.one fits.0 high;
          two = steady p.field.two _ refl m.two;
        }));
  }

  pub send-two : (A B : Party → Type 0) → Steady A → (place : ℕ) → Fits v Two place
      → Leads (λ p. Even v A B p.field p.events) (λ p. Even v A IsOut p.field p.events) S (send_out Two place)
  unfolding changed_active changed_conditions without_trapping
  send-two A B steady place fits = record {
    leads = λ p r m.
        let high = fits-now v p.field p.events Two place fits m.agrees in
        subst (λ (x : Progress). Lands (λ p. Even v A IsOut p.field p.events) S x) (sym (send_out-at Two place p r))
        (Runs r (record {
          agrees = sent-agrees v p.events Two place p.field m.agrees fits.0 high;
          ongoing = m.ongoing;
          one = steady p.field.one _ refl m.one;
          two = out-now place p.field.two fits.0 high;
        }));
  }

  pub send_out-tells : (s : Side) (place : ℕ) → Fits v s place → Leads (Seen v) (Seen v) S (send_out s place)
  send_out-tells One place fits = after-leads even-seen (before-leads seen-even (send-one IsOut IsOut steady-out place fits))
  send_out-tells Two place fits = after-leads even-seen (before-leads seen-even (send-two IsOut IsOut steady-out place fits))

  -- Whatever member was out before.
  pub start-tells : (A B : Party → Type 0) → Steady B → Fits v One 1 → Fits v Two 1 → Leads (λ p. Even v A B p.field p.events) (Seen v) S start
  unfolding start
  start-tells A B steady one two = send-one A B steady 1 one ⊳ after-leads even-seen (send-two IsOut B steady-out 1 two)

-- A member that fell without an event has fallen

pub hidden-shown : {v : View} {f : Field} {events : List Event} (s : Side) → Behind v Anything (fallen_view s) f events → shown (member_in s f) ≡ not_shown
hidden-shown {v} {f} One m =
    let t : Party = m.before.one in
    let o = m.was.both.one in
    let counted : length (map shown t.members) ≡ length t.members = length-map t.members shown in
    sym (active-shown f.one) ∙ ap (λ (w : View). shown_at w.one.place w.one) m.ahead
    ∙ get_or-set_same (map shown t.members) (t.active.place - 1) not_shown not_shown (omega (arith, counted, o.placed, o.within))
hidden-shown {v} {f} Two m =
    let t : Party = m.before.two in
    let o = m.was.both.two in
    let counted : length (map shown t.members) ≡ length t.members = length-map t.members shown in
    sym (active-shown f.two) ∙ ap (λ (w : View). shown_at w.two.place w.two) m.ahead
    ∙ get_or-set_same (map shown t.members) (t.active.place - 1) not_shown not_shown (omega (arith, counted, o.placed, o.within))

pub hidden-fallen : {v : View} {f : Field} {events : List Event} (s : Side) → Behind v Anything (fallen_view s) f events → has_fallen_in s f ≡ true
hidden-fallen s m = ap (λ (k : Shown). not (nat_lt 0 k.hp)) (hidden-shown s m)
