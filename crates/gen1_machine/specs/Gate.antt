-- The gate: what can keep a member from acting (docs/MECHANICS.md, "Gate"). The tests run in order, and the first
-- that stops decides.
use Rattle.std.specs.Prelude.{None, Option, Some, nat_le, nat_lt, ℕ}
use Rattle.gen1_stats.specs.declared.member.Status.{Status}
use Rattle.gen1_stats.specs.declared.member.Status.TheVariants.{Asleep}
use Rattle.gen1_machine.specs.declared.side.Side.{Side}
use Rattle.gen1_machine.specs.declared.event.Kind.TheVariants as kinds
use Rattle.gen1_machine.specs.declared.event.CantReason.{CantReason}
use Rattle.gen1_machine.specs.declared.event.CantReason.TheVariants as reasons
use Rattle.gen1_machine.specs.declared.event.Volatile.TheVariants as volatiles
use Rattle.gen1_machine.specs.declared.event.Event.TheVariants as events
use Rattle.gen1_machine.specs.declared.side.Pick.{Pick}
use Rattle.gen1_machine.specs.declared.side.DisabledSlot.{DisabledSlot}
use Rattle.gen1_stats.specs.Members.{is_frozen, is_paralysed}
use Rattle.gen1_machine.specs.Sides.{other}
use Rattle.gen1_machine.specs.Conditions.{without_charging, without_recharge, broken_off, without_flinch, with_confusion_one_less, without_confusion, with_disable_one_less, without_disable}
use Rattle.gen1_machine.specs.State.{who_in, changed_member, with_sleep_one_less}
use Rattle.gen1_machine.specs.Progress.{Phase, stay, ◌▸◌, choose, when, only, given, stop, draw, note, told, on_conditions, on_member, lasts, ends, conditions, underway, status_of, is_trapping}
use Rattle.gen1_machine.specs.Picks.{is_disabled_in, is_idle}
use Rattle.gen1_machine.specs.HitOnItself.{hurt_itself}

unfoldable pub cant : Side → CantReason → Phase
cant s why = note (λ f. events.Cant (who_in s f) why) ▸ stop

-- A turn of sleep is over. A member that wakes up doesn't act this turn either.

unfoldable pub wake : Side → Phase
wake s = told (changed_member s with_sleep_one_less) (λ f. events.Cure (who_in s f) kinds.Sleep) ▸ stop

unfoldable pub sleep_on : Side → Phase
sleep_on s = on_member s with_sleep_one_less ▸ cant s reasons.Asleep

unfoldable pub sleep_test : Side → Status → Phase
sleep_test s (Asleep turns marked) = choose (λ _. nat_le turns 1) (wake s) (sleep_on s)
sleep_test s _ = stay

-- The tests without a count

unfoldable pub frozen_test : Side → Phase
frozen_test s = when (λ p. is_frozen (status_of s p)) (cant s reasons.Frozen)

unfoldable pub trapped_test : Side → Phase
trapped_test s = when (is_trapping (other s)) (cant s reasons.PartiallyTrapped)

unfoldable pub flinch_test : Side → Phase
flinch_test s = when (λ p. (conditions s p).flinch) (on_conditions s without_flinch ▸ cant s reasons.Flinched)

unfoldable pub recharge_test : Side → Phase
recharge_test s = when (λ p. (underway s p).recharge) (on_conditions s without_recharge ▸ cant s reasons.Recharging)

-- Disable counts down, and ends at 0.
unfoldable pub disable_count : Side → Option DisabledSlot → Phase
disable_count s None = stay
disable_count s (Some d) =
    choose (λ _. nat_le d.turns 1) (ends s volatiles.Disable without_disable) (on_conditions s with_disable_one_less)

-- Confusion counts down, and ends at 0. Until then the member hits itself one time in two.

unfoldable pub may_hurt_itself : Side → ℕ → Phase
may_hurt_itself s b = choose (λ _. nat_le 128 b) (hurt_itself s) stay

unfoldable pub confusion_test : Side → Option ℕ → Phase
confusion_test s None = stay
confusion_test s (Some turns) =
    choose (λ _. nat_le turns 1)
    (ends s volatiles.Confusion without_confusion)
    (lasts s volatiles.Confusion with_confusion_one_less ▸ draw (may_hurt_itself s))

-- A disabled move isn't used. If it was charging, the charge is lost.
unfoldable pub disabled_test : Side → Pick → Phase
disabled_test s pick =
    when (λ p. is_disabled_in s pick p.field) (on_conditions s without_charging ▸ cant s reasons.Disabled)

-- Full paralysis occurs about one time in four.

unfoldable pub may_be_paralysed : Side → ℕ → Phase
may_be_paralysed s b = choose (λ _. nat_lt b 63) (on_conditions s broken_off ▸ cant s reasons.Paralysed) stay

unfoldable pub paralysis_test : Side → Phase
paralysis_test s = when (λ p. is_paralysed (status_of s p)) (draw (may_be_paralysed s))

-- The gate has three parts: what rules out any action, what has to pass first, and what rules out this action.

unfoldable pub gate_of_status : Side → Phase
gate_of_status s = given (status_of s) (sleep_test s) ▸ frozen_test s ▸ trapped_test s

unfoldable pub gate_of_turn : Side → Phase
gate_of_turn s = flinch_test s ▸ recharge_test s ▸ given (λ p. (conditions s p).disabled) (disable_count s)

-- A member that was asleep or frozen as the turn began picked nothing. It does nothing even if it has been cured
-- since.
unfoldable pub gate_of_move : Side → Pick → Phase
gate_of_move s pick =
    given (λ p. (conditions s p).confused) (confusion_test s)
    ▸ disabled_test s pick ▸ paralysis_test s ▸ only (is_idle pick) stop

unfoldable pub gate : Side → Pick → Phase
gate s pick = gate_of_status s ▸ gate_of_turn s ▸ gate_of_move s pick
