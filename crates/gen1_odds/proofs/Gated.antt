-- The gate of a turn that begins, by its draws.
use Rattle.std.proofs.Common.{Bool, None, Option, Some, ap, false, if◌then◌else◌, is_some, nat_le, nat_lt, not, refl, subst, sym, true, ℕ, ◌&&◌, ◌+◌, ◌∙◌, ◌||◌, ◌≡◌}
use Rattle.gen1_rolls.specs.Streams.{byte_at, Stream}
use Rattle.gen1_stats.specs.declared.member.Status.{Status}
use Rattle.gen1_stats.specs.declared.member.Status.TheVariants.{Asleep, Burned, Frozen, Healthy, Paralysed, Poisoned}
use Rattle.gen1_stats.specs.Members.{is_frozen, is_paralysed, sleeps_or_freezes}
use Rattle.gen1_machine.specs.declared.event.CantReason.{CantReason}
use Rattle.gen1_machine.specs.declared.event.CantReason.TheVariants as reasons
use Rattle.gen1_machine.specs.declared.event.Volatile.TheVariants as volatiles
use Rattle.gen1_machine.specs.declared.side.DisabledSlot.{DisabledSlot}
use Rattle.gen1_machine.specs.declared.side.Pick.{Pick}
use Rattle.gen1_machine.specs.declared.side.Pick.TheVariants.{Continue, Held, Idle, Use}
use Rattle.gen1_machine.specs.declared.side.UsedMove.{UsedMove}
use Rattle.gen1_machine.specs.declared.side.Side.{Side}
use Rattle.gen1_machine.specs.declared.side.Side.TheVariants.{One, Two}
use Rattle.gen1_machine.specs.Action.{gate_or_held}
use Rattle.gen1_machine.specs.Conditions.{broken_off, with_confusion_one_less, with_disable_one_less, one_turn_less, without_charging, without_confusion, without_disable, without_flinch, without_recharge, ActiveConditions}
use Rattle.gen1_machine.specs.Gate.{cant, confusion_test, disable_count, disabled_test, flinch_test, frozen_test, gate, gate_of_move, gate_of_status, gate_of_turn, may_be_paralysed, may_hurt_itself, paralysis_test, recharge_test, sleep_on, sleep_test, trapped_test, wake}
use Rattle.gen1_machine.specs.HitOnItself.{hurt_itself}
use Rattle.gen1_machine.specs.Picks.{bars, is_disabled_in, is_idle, used_by}
use Rattle.gen1_machine.specs.Progress.{choose, conditions, draw, ends, given, is_trapping, lasts, on_active, on_conditions, on_field, only, status_of, stay, stop, told, underway, unless_stopped, when, ◌▸◌, Phase, Progress}
use Rattle.gen1_machine.specs.Sides.{other}
use Rattle.gen1_machine.specs.State.{active_in, changed_active, changed_conditions, conditions_in, status_in, underway_in, Field}
use Rattle.gen1_layout.proofs.Chain.{choose-false, choose-true, then-goes, then-stops}
use Rattle.gen1_status.specs.Gate.{is_held}
use Rattle.gen1_status.proofs.Told.{held-is, held-not}
use Rattle.gen1_odds.specs.Acting.{is_barred, is_out_of_action, is_stopped, still_confused, still_disabled}
use Rattle.gen1_odds.specs.Laws.{after_confusion, GateCounts}

abbrev halts : Progress → Bool
halts p = p.stopped

-- What ends in a stop stops, whatever comes before.

then-ends : (f k : Phase) (p : Progress) → ((q : Progress) → (k q).stopped ≡ true) → ((f ▸ k) p).stopped ≡ true
then-ends f k p h = by (f p).stopped refl
  where
    by : (x : Bool) → (f p).stopped ≡ x → ((f ▸ k) p).stopped ≡ true
    by true e = ap halts (then-stops f k p e) ∙ e
    by false e = ap halts (then-goes f k p e) ∙ h (f p)

stop-ends : (q : Progress) → (stop q).stopped ≡ true
unfolding stop
stop-ends q = refl

cant-ends : (s : Side) (why : CantReason) (p : Progress) → (cant s why p).stopped ≡ true
unfolding cant
cant-ends s why p = then-ends _ stop p stop-ends

hurt-ends : (s : Side) (p : Progress) → (hurt_itself s p).stopped ≡ true
unfolding hurt_itself
hurt-ends s p = then-ends _ _ p λ q. then-ends _ _ q λ r. then-ends _ _ r λ t. then-ends _ stop t stop-ends

-- A part that changes nothing, and one that stops
passes : (f k : Phase) (p : Progress) → f p ≡ p → p.stopped ≡ false → (f ▸ k) p ≡ k p
passes f k p e goes = then-goes f k p (ap halts e ∙ goes) ∙ ap k e

stopped : (f k : Phase) (p : Progress) → (f p).stopped ≡ true → ((f ▸ k) p).stopped ≡ true
stopped f k p e = ap halts (then-stops f k p e) ∙ e

when-ends : (test : Progress → Bool) (f : Phase) (p : Progress) → test p ≡ true → ((q : Progress) → (f q).stopped ≡ true) → (when test f p).stopped ≡ true
when-ends test f p e h = ap halts (choose-true test f stay p e) ∙ h p

when-passes : (test : Progress → Bool) (f : Phase) (p : Progress) → test p ≡ false → when test f p ≡ p
unfolding stay
when-passes test f p e = choose-false test f stay p e

-- The conditions of a side are changed, and nothing else of it

conditions-there : (s : Side) (change : ActiveConditions → ActiveConditions) (f : Field) → conditions_in s (changed_conditions s change f) ≡ change (conditions_in s f)
unfolding changed_conditions changed_active
conditions-there One change f = refl
conditions-there Two change f = refl

status-there : (s : Side) (change : ActiveConditions → ActiveConditions) (f : Field) → status_in s (changed_conditions s change f) ≡ status_in s f
unfolding changed_conditions changed_active
status-there One change f = refl
status-there Two change f = refl

current-there : (s : Side) (change : ActiveConditions → ActiveConditions) (f : Field)
    → (active_in s (changed_conditions s change f)).current_move ≡ (active_in s f).current_move
unfolding changed_conditions changed_active
current-there One change f = refl
current-there Two change f = refl

-- What rules out this action: the end of the gate

idle-ends : (pick : Pick) (q : Progress) (x : Bool) → is_idle pick ≡ x → q.stopped ≡ false → (only (is_idle pick) stop q).stopped ≡ x
idle-ends pick q true e h = when-ends (λ _. is_idle pick) stop q e stop-ends
idle-ends pick q false e h = ap halts (when-passes (λ _. is_idle pick) stop q e) ∙ h

abbrev at_last : Side → Pick → Phase
at_last s pick = paralysis_test s ▸ only (is_idle pick) stop

drawn-ends : (s : Side) (pick : Pick) (q : Progress) (b : ℕ) (x : Bool) → nat_lt b 63 ≡ x → q.stopped ≡ false
    → ((may_be_paralysed s b ▸ only (is_idle pick) stop) q).stopped ≡ (x || is_idle pick)
unfolding may_be_paralysed stay
drawn-ends s pick q b true e h =
    stopped (may_be_paralysed s b) (only (is_idle pick) stop) q
    (ap halts (choose-true (λ _. nat_lt b 63) _ stay q e) ∙ then-ends _ _ q (cant-ends s reasons.Paralysed))
drawn-ends s pick q b false e h =
    ap halts (passes (may_be_paralysed s b) (only (is_idle pick) stop) q (choose-false (λ _. nat_lt b 63) _ stay q e) h)
    ∙ idle-ends pick q (is_idle pick) refl h

follow : (f k : Phase) (p r : Progress) (x : Bool) → f p ≡ r → (unless_stopped k r).stopped ≡ x → ((f ▸ k) p).stopped ≡ x
unfolding ◌▸◌
follow f k p r x e h = ap (λ (q : Progress). (unless_stopped k q).stopped) e ∙ h

last-ends : (s : Side) (pick : Pick) (q : Progress) (x : Bool) → is_paralysed (status_of s q) ≡ x → q.stopped ≡ false
    → (at_last s pick q).stopped ≡ ((x && nat_lt (byte_at q.stream q.drawn) 63) || is_idle pick)
unfolding paralysis_test draw ◌▸◌
last-ends s pick q true e h =
    let b = byte_at q.stream q.drawn in
    let r : Progress = record q { drawn = q.drawn + 1 } in
    follow (paralysis_test s) (only (is_idle pick) stop) q (may_be_paralysed s b r) _
    (choose-true (λ p. is_paralysed (status_of s p)) (draw (may_be_paralysed s)) stay q e)
    (drawn-ends s pick r b (nat_lt b 63) refl h)
last-ends s pick q false e h =
    ap halts (passes (paralysis_test s) (only (is_idle pick) stop) q (when-passes (λ p. is_paralysed (status_of s p)) (draw (may_be_paralysed s)) q e) h)
    ∙ idle-ends pick q (is_idle pick) refl h

-- A disabled move, and what comes after

abbrev tested_move : Side → Pick → Phase
tested_move s pick = disabled_test s pick ▸ at_last s pick

-- What the rest of the gate finds, by what it reads.
abbrev stops_by : Pick → Bool → Bool → ℕ → Bool
stops_by pick barred paralysed b = barred || (paralysed && nat_lt b 63) || is_idle pick

move-ends : (s : Side) (pick : Pick) (q : Progress) (x : Bool) → is_disabled_in s pick q.field ≡ x → q.stopped ≡ false
    → (tested_move s pick q).stopped ≡ stops_by pick x (is_paralysed (status_of s q)) (byte_at q.stream q.drawn)
unfolding disabled_test
move-ends s pick q true e h =
    stopped (disabled_test s pick) (at_last s pick) q
    (when-ends (λ p. is_disabled_in s pick p.field) _ q e (λ r. then-ends _ _ r (cant-ends s reasons.Disabled)))
move-ends s pick q false e h =
    ap halts (passes (disabled_test s pick) (at_last s pick) q (when-passes (λ p. is_disabled_in s pick p.field) _ q e) h)
    ∙ last-ends s pick q (is_paralysed (status_of s q)) refl h

-- The same where the conditions of the member have changed, but not what is disabled.
disabled-there : (s : Side) (pick : Pick) (change : ActiveConditions → ActiveConditions) (f : Field)
    → (change (conditions_in s f)).disabled ≡ (conditions_in s f).disabled → is_disabled_in s pick (changed_conditions s change f) ≡ is_disabled_in s pick f
unfolding changed_conditions changed_active
disabled-there One Idle change f e = refl
disabled-there Two Idle change f e = refl
disabled-there One (Use used) change f e = ap (λ (d : Option DisabledSlot). bars d used) e
disabled-there Two (Use used) change f e = ap (λ (d : Option DisabledSlot). bars d used) e
disabled-there One Continue change f e = ap (λ (d : Option DisabledSlot). bars d (active_in One f).current_move) e
disabled-there Two Continue change f e = ap (λ (d : Option DisabledSlot). bars d (active_in Two f).current_move) e
disabled-there One Held change f e = ap (λ (d : Option DisabledSlot). bars d (active_in One f).current_move) e
disabled-there Two Held change f e = ap (λ (d : Option DisabledSlot). bars d (active_in Two f).current_move) e

-- Where only the conditions of a progress have changed, and its place in the stream.
changed-ends : (s : Side) (pick : Pick) (change : ActiveConditions → ActiveConditions) (q r : Progress)
    → r.field ≡ changed_conditions s change q.field → r.stopped ≡ false
    → (change (conditions s q)).disabled ≡ (conditions s q).disabled
    → (tested_move s pick r).stopped ≡ stops_by pick (is_disabled_in s pick q.field) (is_paralysed (status_of s q)) (byte_at r.stream r.drawn)
changed-ends s pick change q r field goes same =
    let barred = ap (λ (f : Field). is_disabled_in s pick f) field ∙ disabled-there s pick change q.field same in
    let status = ap (λ (f : Field). status_in s f) field ∙ status-there s change q.field in
    move-ends s pick r (is_disabled_in s pick r.field) refl goes
    ∙ ap (λ (x : Bool). stops_by pick x (is_paralysed (status_of s r)) (byte_at r.stream r.drawn)) barred
    ∙ ap (λ (x : Status). stops_by pick (is_disabled_in s pick q.field) (is_paralysed x) (byte_at r.stream r.drawn)) status

-- Confusion

hit-ends : (s : Side) (pick : Pick) (q r : Progress) (b : ℕ) (x : Bool) → nat_le 128 b ≡ x
    → r.field ≡ changed_conditions s with_confusion_one_less q.field → r.stopped ≡ false
    → ((may_hurt_itself s b ▸ tested_move s pick) r).stopped
    ≡ (x || stops_by pick (is_disabled_in s pick q.field) (is_paralysed (status_of s q)) (byte_at r.stream r.drawn))
unfolding may_hurt_itself stay with_confusion_one_less
hit-ends s pick q r b true e field goes =
    stopped (may_hurt_itself s b) (tested_move s pick) r (ap halts (choose-true (λ _. nat_le 128 b) (hurt_itself s) stay r e) ∙ hurt-ends s r)
hit-ends s pick q r b false e field goes =
    ap halts (passes (may_hurt_itself s b) (tested_move s pick) r (choose-false (λ _. nat_le 128 b) (hurt_itself s) stay r e) goes)
    ∙ changed-ends s pick with_confusion_one_less q r field goes refl

abbrev confused_by : Side → Pick → Option ℕ → Progress → Bool
confused_by s pick o q =
    (still_confused o && nat_le 128 (byte_at q.stream q.drawn))
    || stops_by pick (is_disabled_in s pick q.field) (is_paralysed (status_of s q)) (byte_at q.stream (after_confusion o q.drawn))

turns-ends : (s : Side) (pick : Pick) (q : Progress) (turns : ℕ) (x : Bool) → nat_le turns 1 ≡ x → q.stopped ≡ false
    → ((confusion_test s (Some turns) ▸ tested_move s pick) q).stopped ≡ confused_by s pick (Some turns) q
unfolding confusion_test ends lasts told draw ◌▸◌ without_confusion
turns-ends s pick q turns true e h =
    let r = ends s volatiles.Confusion without_confusion q in
    follow (confusion_test s (Some turns)) (tested_move s pick) q r _
    (choose-true (λ _. nat_le turns 1) (ends s volatiles.Confusion without_confusion) _ q e)
    (ap halts (then-goes (ends s volatiles.Confusion without_confusion) (tested_move s pick) q h) ∙ changed-ends s pick without_confusion q r refl h refl)
    ∙ sym (ap (λ (x : Bool). (not x && nat_le 128 (byte_at q.stream q.drawn)) || stops_by pick (is_disabled_in s pick q.field) (is_paralysed (status_of s q)) (byte_at q.stream (if not x then q.drawn + 1 else q.drawn))) e)
turns-ends s pick q turns false e h =
    let r = lasts s volatiles.Confusion with_confusion_one_less q in
    let b = byte_at q.stream q.drawn in
    let t : Progress = record r { drawn = q.drawn + 1 } in
    follow (confusion_test s (Some turns)) (tested_move s pick) q (may_hurt_itself s b t) _
    (choose-false (λ _. nat_le turns 1) _ (lasts s volatiles.Confusion with_confusion_one_less ▸ draw (may_hurt_itself s)) q e
    ∙ then-goes (lasts s volatiles.Confusion with_confusion_one_less) (draw (may_hurt_itself s)) q h)
    (hit-ends s pick q t b (nat_le 128 b) refl refl h)
    ∙ sym (ap (λ (x : Bool). (not x && nat_le 128 (byte_at q.stream q.drawn)) || stops_by pick (is_disabled_in s pick q.field) (is_paralysed (status_of s q)) (byte_at q.stream (if not x then q.drawn + 1 else q.drawn))) e)

confused-ends : (s : Side) (pick : Pick) (q : Progress) (o : Option ℕ) → (conditions s q).confused ≡ o → q.stopped ≡ false
    → (gate_of_move s pick q).stopped ≡ confused_by s pick o q
unfolding gate_of_move given confusion_test stay ◌▸◌
confused-ends s pick q None e h =
    ap halts (passes (λ p. confusion_test s (conditions s p).confused p) (tested_move s pick) q (ap (λ (o : Option ℕ). confusion_test s o q) e) h)
    ∙ move-ends s pick q (is_disabled_in s pick q.field) refl h
confused-ends s pick q (Some turns) e h =
    follow (λ p. confusion_test s (conditions s p).confused p) (tested_move s pick) q (confusion_test s (Some turns) q) _
    (ap (λ (o : Option ℕ). confusion_test s o q) e) (turns-ends s pick q turns (nat_le turns 1) refl h)

-- What has to pass first: recharging, and the count of Disable

-- A progress in which Disable has counted down, or ended.
record Counted (s : Side) (p q : Progress) : Type 0 where
  pub goes : q.stopped ≡ false
  pub confused : (conditions s q).confused ≡ (conditions s p).confused
  pub paralysed : is_paralysed (status_of s q) ≡ is_paralysed (status_of s p)
  pub barred : (pick : Pick) → is_idle pick ≡ false → is_disabled_in s pick q.field ≡ is_barred s pick p.field
  pub stream : q.stream ≡ p.stream
  pub drawn : q.drawn ≡ p.drawn

barred-is : (s : Side) (pick : Pick) (f : Field) → is_idle pick ≡ false
    → is_disabled_in s pick f ≡ bars (conditions_in s f).disabled (used_by pick (active_in s f).current_move)
barred-is s Idle f e = cc
barred-is s (Use used) f e = refl
barred-is s Continue f e = refl
barred-is s Held f e = refl

counted-by : (s : Side) (p q : Progress) (change : ActiveConditions → ActiveConditions)
    → q.field ≡ changed_conditions s change p.field → q.stopped ≡ false → q.stream ≡ p.stream → q.drawn ≡ p.drawn
    → (change (conditions s p)).confused ≡ (conditions s p).confused
    → ((used : UsedMove) → bars (change (conditions s p)).disabled used ≡ bars (still_disabled (conditions s p).disabled) used)
    → Counted s p q
counted-by s p q change field goes stream drawn confused barred =
    let there = ap (λ (f : Field). conditions_in s f) field ∙ conditions-there s change p.field in
    let current = ap (λ (f : Field). (active_in s f).current_move) field ∙ current-there s change p.field in
    record {
      goes = goes;
      confused = ap (λ (c : ActiveConditions). c.confused) there ∙ confused;
      paralysed = ap (λ (f : Field). is_paralysed (status_in s f)) field ∙ ap is_paralysed (status-there s change p.field);
      barred = λ pick e.
          barred-is s pick q.field e
          ∙ ap (λ (c : ActiveConditions). bars c.disabled (used_by pick (active_in s q.field).current_move)) there
          ∙ ap (λ (u : UsedMove). bars (change (conditions s p)).disabled (used_by pick u)) current
          ∙ barred (used_by pick (active_in s p.field).current_move);
      stream = stream;
      drawn = drawn;
    }

ended-bars : (d : DisabledSlot) (o : Option DisabledSlot) (used : UsedMove) → o ≡ Some d → nat_le d.turns 1 ≡ true
    → bars None used ≡ bars (still_disabled o) used
ended-bars d o used e last =
    sym (ap (λ (it : Option DisabledSlot). bars (still_disabled it) used) e ∙ ap (λ (x : Bool). bars (if x then None else Some d) used) last)

going-bars : (d : DisabledSlot) (o : Option DisabledSlot) (used : UsedMove) → o ≡ Some d → nat_le d.turns 1 ≡ false
    → bars (one_turn_less o) used ≡ bars (still_disabled o) used
going-bars d o used e last =
    ap (λ (it : Option DisabledSlot). bars (one_turn_less it) used) e
    ∙ sym (ap (λ (it : Option DisabledSlot). bars (still_disabled it) used) e ∙ ap (λ (x : Bool). bars (if x then None else Some d) used) last)

count-down : (s : Side) (p : Progress) (o : Option DisabledSlot) → (conditions s p).disabled ≡ o → p.stopped ≡ false
    → Counted s p (disable_count s o p)
unfolding disable_count stay ends told on_conditions on_active on_field with_disable_one_less without_disable
count-down s p None e h = record {
  goes = h;
  confused = refl;
  paralysed = refl;
  barred = λ pick busy.
      barred-is s pick p.field busy
      ∙ ap (λ (o : Option DisabledSlot). bars o (used_by pick (active_in s p.field).current_move)) e
      ∙ sym (ap (λ (o : Option DisabledSlot). bars (still_disabled o) (used_by pick (active_in s p.field).current_move)) e);
  stream = refl;
  drawn = refl;
}
count-down s p (Some d) e h = by (nat_le d.turns 1) refl
  where
    by : (x : Bool) → nat_le d.turns 1 ≡ x
        → Counted s p (choose (λ _. nat_le d.turns 1) (ends s volatiles.Disable without_disable) (on_conditions s with_disable_one_less) p)
    by true last =
        subst (Counted s p) (sym (choose-true (λ _. nat_le d.turns 1) (ends s volatiles.Disable without_disable) (on_conditions s with_disable_one_less) p last))
        (counted-by s p (ends s volatiles.Disable without_disable p) without_disable refl h refl refl refl
        (λ used. ended-bars d (conditions s p).disabled used e last))
    by false last =
        subst (Counted s p) (sym (choose-false (λ _. nat_le d.turns 1) (ends s volatiles.Disable without_disable) (on_conditions s with_disable_one_less) p last))
        (counted-by s p (on_conditions s with_disable_one_less p) with_disable_one_less refl h refl refl refl
        (λ used. going-bars d (conditions s p).disabled used e last))

-- The rest of the gate, after Disable has counted down

idle-true : (x z : Bool) → (x || z || true) ≡ true
idle-true true z = refl
idle-true false true = refl
idle-true false false = refl

idle-anyway : (pick : Pick) (x y z : Bool) → (is_idle pick ≡ false → x ≡ y) → (x || z || is_idle pick) ≡ (y || z || is_idle pick)
idle-anyway Idle x y z h = idle-true x z ∙ sym (idle-true y z)
idle-anyway (Use used) x y z h = ap (λ (it : Bool). it || z || false) (h refl)
idle-anyway Continue x y z h = ap (λ (it : Bool). it || z || false) (h refl)
idle-anyway Held x y z h = ap (λ (it : Bool). it || z || false) (h refl)

counted-ends : (s : Side) (pick : Pick) (p q : Progress) → Counted s p q
    → (gate_of_move s pick q).stopped
    ≡ ((still_confused (conditions s p).confused && nat_le 128 (byte_at p.stream p.drawn))
    || stops_by pick (is_barred s pick p.field) (is_paralysed (status_of s p)) (byte_at p.stream (after_confusion (conditions s p).confused p.drawn)))
counted-ends s pick p q c =
    let o = (conditions s p).confused in
    let there = λ (f : Stream) (n : ℕ) (barred paralysed : Bool). (still_confused o && nat_le 128 (byte_at f n)) || stops_by pick barred paralysed (byte_at f (after_confusion o n)) in
    confused-ends s pick q o c.confused c.goes
    ∙ ap (λ (x : Bool). there q.stream q.drawn (is_disabled_in s pick q.field) x) c.paralysed
    ∙ ap (λ (f : Stream). there f q.drawn (is_disabled_in s pick q.field) (is_paralysed (status_of s p))) c.stream
    ∙ ap (λ (n : ℕ). there p.stream n (is_disabled_in s pick q.field) (is_paralysed (status_of s p))) c.drawn
    ∙ ap (λ (x : Bool). (still_confused o && nat_le 128 (byte_at p.stream p.drawn)) || x)
    (idle-anyway pick (is_disabled_in s pick q.field) (is_barred s pick p.field) (is_paralysed (status_of s p) && nat_lt (byte_at p.stream (after_confusion o p.drawn)) 63) (c.barred pick))

abbrev then_moves : Side → Pick → Progress → Bool
then_moves s pick p =
    (still_confused (conditions s p).confused && nat_le 128 (byte_at p.stream p.drawn))
    || stops_by pick (is_barred s pick p.field) (is_paralysed (status_of s p)) (byte_at p.stream (after_confusion (conditions s p).confused p.drawn))

turn-ends : (s : Side) (pick : Pick) (p : Progress) (x : Bool) → (conditions s p).flinch ≡ false → (underway s p).recharge ≡ x → p.stopped ≡ false
    → ((gate_of_turn s ▸ gate_of_move s pick) p).stopped ≡ (x || then_moves s pick p)
unfolding gate_of_turn flinch_test recharge_test given
turn-ends s pick p true calm e h =
    stopped (gate_of_turn s) (gate_of_move s pick) p
    (ap halts (passes (flinch_test s) (recharge_test s ▸ given (λ q. (conditions s q).disabled) (disable_count s)) p (when-passes (λ q. (conditions s q).flinch) _ p calm) h)
    ∙ stopped (recharge_test s) (given (λ q. (conditions s q).disabled) (disable_count s)) p
    (when-ends (λ q. (underway s q).recharge) _ p e (λ r. then-ends _ _ r (cant-ends s reasons.Recharging))))
turn-ends s pick p false calm e h =
    let q = disable_count s (conditions s p).disabled p in
    let is = passes (flinch_test s) (recharge_test s ▸ given (λ q. (conditions s q).disabled) (disable_count s)) p (when-passes (λ q. (conditions s q).flinch) _ p calm) h
    ∙ passes (recharge_test s) (given (λ q. (conditions s q).disabled) (disable_count s)) p (when-passes (λ q. (underway s q).recharge) _ p e) h in
    let c = count-down s p (conditions s p).disabled refl h in
    ap halts (then-goes (gate_of_turn s) (gate_of_move s pick) p (ap halts is ∙ c.goes))
    ∙ ap (λ (r : Progress). (gate_of_move s pick r).stopped) is
    ∙ counted-ends s pick p q c

-- What rules out any action

awake : (s : Side) (status : Status) (p : Progress) → sleeps_or_freezes status ≡ false → (sleep_test s status p ≡ p) × (is_frozen status ≡ false)
unfolding sleep_test stay
awake s (Asleep turns marked) p e = cc
awake s Frozen p e = cc
awake s Healthy p e = (refl, refl)
awake s Poisoned p e = (refl, refl)
awake s Burned p e = (refl, refl)
awake s Paralysed p e = (refl, refl)

sleep-ends : (s : Side) (turns : ℕ) (marked : Bool) (p : Progress) → (sleep_test s (Asleep turns marked) p).stopped ≡ true
unfolding sleep_test wake sleep_on
sleep-ends s turns marked p = by (nat_le turns 1) refl
  where
    by : (x : Bool) → nat_le turns 1 ≡ x → (choose (λ _. nat_le turns 1) (wake s) (sleep_on s) p).stopped ≡ true
    by true e = ap halts (choose-true (λ _. nat_le turns 1) (wake s) (sleep_on s) p e) ∙ then-ends _ stop p stop-ends
    by false e = ap halts (choose-false (λ _. nat_le turns 1) (wake s) (sleep_on s) p e) ∙ then-ends _ _ p (cant-ends s reasons.Asleep)

status-ends : (s : Side) (p : Progress) (status : Status) → status_of s p ≡ status → sleeps_or_freezes status ≡ true → p.stopped ≡ false
    → (gate_of_status s p).stopped ≡ true
unfolding gate_of_status given frozen_test sleep_test stay
status-ends s p (Asleep turns marked) is e h =
    stopped (λ q. sleep_test s (status_of s q) q) (frozen_test s ▸ trapped_test s) p (ap (λ (it : Status). (sleep_test s it p).stopped) is ∙ sleep-ends s turns marked p)
status-ends s p Frozen is e h =
    ap halts (passes (λ q. sleep_test s (status_of s q) q) (frozen_test s ▸ trapped_test s) p (ap (λ (it : Status). sleep_test s it p) is) h)
    ∙ stopped (frozen_test s) (trapped_test s) p (when-ends (λ q. is_frozen (status_of s q)) _ p (ap is_frozen is) (cant-ends s reasons.Frozen))
status-ends s p Healthy is e h = cc
status-ends s p Poisoned is e h = cc
status-ends s p Burned is e h = cc
status-ends s p Paralysed is e h = cc

up-is : (s : Side) (p : Progress) → sleeps_or_freezes (status_of s p) ≡ false → p.stopped ≡ false → gate_of_status s p ≡ trapped_test s p
unfolding gate_of_status given frozen_test
up-is s p e h =
    let up = awake s (status_of s p) p e in
    passes (λ q. sleep_test s (status_of s q) q) (frozen_test s ▸ trapped_test s) p up.0 h
    ∙ passes (frozen_test s) (trapped_test s) p (when-passes (λ q. is_frozen (status_of s q)) _ p up.1) h

gate-by : (s : Side) (pick : Pick) (p : Progress) (asleep held : Bool) → (conditions s p).flinch ≡ false → p.stopped ≡ false
    → sleeps_or_freezes (status_of s p) ≡ asleep → is_trapping (other s) p ≡ held
    → (gate s pick p).stopped ≡ ((asleep || held || (underway s p).recharge) || then_moves s pick p)
unfolding gate trapped_test
gate-by s pick p true held calm h asleep is_held = stopped (gate_of_status s) (gate_of_turn s ▸ gate_of_move s pick) p (status-ends s p (status_of s p) refl asleep h)
gate-by s pick p false true calm h asleep is_held =
    stopped (gate_of_status s) (gate_of_turn s ▸ gate_of_move s pick) p
    (ap halts (up-is s p asleep h) ∙ when-ends (is_trapping (other s)) _ p is_held (cant-ends s reasons.PartiallyTrapped))
gate-by s pick p false false calm h asleep is_held =
    ap halts (passes (gate_of_status s) (gate_of_turn s ▸ gate_of_move s pick) p (up-is s p asleep h ∙ when-passes (is_trapping (other s)) _ p is_held) h)
    ∙ turn-ends s pick p (underway s p).recharge calm refl h

calm-ends : (s : Side) (pick : Pick) (p : Progress) (x : Bool) → (conditions s p).flinch ≡ false → p.stopped ≡ false → is_held pick ≡ x
    → (gate_or_held s pick p).stopped ≡ (x || is_out_of_action s p.field || then_moves s pick p)
calm-ends s pick p true calm h e = ap (λ (f : Phase). (f p).stopped) (held-is s pick e) ∙ cant-ends s reasons.PartiallyTrapped p
calm-ends s pick p false calm h e =
    ap (λ (f : Phase). (f p).stopped) (held-not s pick e)
    ∙ gate-by s pick p (sleeps_or_freezes (status_of s p)) (is_trapping (other s) p) calm h refl refl

-- The turn begins: any flinch is over.

apart : (s : Side) (pick : Pick) (f : Field) (b c : ℕ) → is_stopped s pick (changed_conditions s without_flinch f) b c ≡ is_stopped s pick f b c
unfolding changed_conditions changed_active without_flinch
apart One pick f b c = refl
apart Two pick f b c = refl

confused-apart : (s : Side) (f : Field) → (conditions_in s (changed_conditions s without_flinch f)).confused ≡ (conditions_in s f).confused
unfolding without_flinch
confused-apart s f = ap (λ (c : ActiveConditions). c.confused) (conditions-there s without_flinch f)

calm-there : (s : Side) (f : Field) → (conditions_in s (changed_conditions s without_flinch f)).flinch ≡ false
unfolding without_flinch
calm-there s f = ap (λ (c : ActiveConditions). c.flinch) (conditions-there s without_flinch f)

regroup : (held out hurt barred paralysed idle : Bool)
    → (held || out || (hurt || (barred || paralysed || idle))) ≡ (held || out || hurt || barred || paralysed || idle)
regroup true out hurt barred paralysed idle = refl
regroup false true hurt barred paralysed idle = refl
regroup false false true barred paralysed idle = refl
regroup false false false barred paralysed idle = refl

pub gate_counts : GateCounts
unfolding on_conditions on_active on_field
gate_counts s pick p h =
    let f = changed_conditions s without_flinch p.field in
    let b = byte_at p.stream p.drawn in
    let c = λ (o : Option ℕ). byte_at p.stream (after_confusion o p.drawn) in
    let kept : (gate_or_held s pick (on_conditions s without_flinch p)).stopped ≡ is_stopped s pick f b (c (conditions_in s f).confused) =
    calm-ends s pick (on_conditions s without_flinch p) (is_held pick) (calm-there s p.field) h refl
    ∙ regroup (is_held pick) (is_out_of_action s f) (still_confused (conditions_in s f).confused && nat_le 128 b) (is_barred s pick f)
    (is_paralysed (status_in s f) && nat_lt (c (conditions_in s f).confused) 63) (is_idle pick) in
    kept ∙ ap (λ (o : Option ℕ). is_stopped s pick f b (c o)) (confused-apart s p.field)
    ∙ apart s pick p.field b (c (conditions_in s p.field).confused)
