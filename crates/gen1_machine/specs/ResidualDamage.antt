-- The damage of poison, a burn and Leech Seed after an action (docs/MECHANICS.md, "Residual damage").
use Rattle.std.specs.Prelude.{None, Option, Some, max, ℕ, ◌*◌, ◌/◌}
use Rattle.gen1_stats.specs.declared.member.Status.{Status}
use Rattle.gen1_stats.specs.declared.member.Status.TheVariants.{Poisoned, Burned}
use Rattle.gen1_machine.specs.declared.side.Side.{Side}
use Rattle.gen1_machine.specs.declared.event.DamageSource.{DamageSource}
use Rattle.gen1_machine.specs.declared.event.DamageSource.TheVariants as sources
use Rattle.gen1_stats.specs.Members.{is_living}
use Rattle.gen1_machine.specs.Sides.{other}
use Rattle.gen1_machine.specs.Conditions.{with_worse_poison}
use Rattle.gen1_machine.specs.State.{conditions_in, member_in, Field}
use Rattle.gen1_machine.specs.Progress.{Phase, stay, ◌▸◌, when, given, on_conditions, conditions, member, status_of, lose_hp, gain_hp}

-- A badly poisoned member loses one portion the first time, two the second time, and so on.
abbrev pub times_poisoned : Option ℕ → ℕ
times_poisoned None = 1
times_poisoned (Some times) = times

abbrev pub residual_in : Side → Field → ℕ
residual_in s f = max 1 ((member_in s f).max / 16) * times_poisoned (conditions_in s f).bad_poison

unfoldable pub worsen : Side → Phase
worsen s = on_conditions s with_worse_poison

unfoldable pub suffer : Side → DamageSource → Phase
suffer s source = worsen s ▸ given (λ p. residual_in s p.field) (lose_hp s source)

-- The foe heals by the whole amount, even if the member had less HP left.
unfoldable pub drained_by : Side → ℕ → Phase
drained_by s amount = lose_hp s sources.LeechSeed amount ▸ gain_hp (other s) amount

unfoldable pub suffer_seed : Side → Phase
suffer_seed s = worsen s ▸ given (λ p. residual_in s p.field) (drained_by s)

unfoldable pub suffer_status : Side → Status → Phase
suffer_status s Poisoned = suffer s sources.Poison
suffer_status s Burned = suffer s sources.Burn
suffer_status s _ = stay

-- A member that has fallen already is spared.
unfoldable pub residual : Side → Phase
residual s = when (λ p. is_living (member s p))
    (given (status_of s) (suffer_status s) ▸ when (λ p. (conditions s p).seeded) (suffer_seed s))
