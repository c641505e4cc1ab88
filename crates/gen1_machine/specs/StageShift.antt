-- Stages that rise and fall in battle (docs/MECHANICS.md, "Stage shift").
use Rattle.std.specs.Prelude.{Bool, min, nat_le, nat_lt, ℕ, ◌&&◌, ◌+◌, ◌-◌, ◌==◌}
use Rattle.gen1_tables.specs.declared.effect.Stat.{Stat}
use Rattle.gen1_machine.specs.declared.side.Side.{Side}
use Rattle.gen1_machine.specs.declared.event.Event.TheVariants as events
use Rattle.gen1_stats.specs.Stats.{stat}
use Rattle.gen1_machine.specs.Sides.{other}
use Rattle.gen1_machine.specs.State.{active_in, who_in, Field}
use Rattle.gen1_machine.specs.CurrentStats.{stage_of, has_number, now_in, at_new_stage, recomputed_at, with_penalty_of}
use Rattle.gen1_machine.specs.Progress.{Phase, ◌▸◌, choose, only, given, note, on_active, status_of}

-- The event says by how much the stage moved. There is none if it didn't move.

unfoldable pub note_boost : Side → Stat → ℕ → Phase
note_boost s stat n = only (nat_lt 0 n) (note λ f. events.Boost (who_in s f) stat n)

unfoldable pub note_unboost : Side → Stat → ℕ → Phase
note_unboost s stat n = only (nat_lt 0 n) (note λ f. events.Unboost (who_in s f) stat n)

-- After a shift, the foe of the side that caused it takes its penalty once more.
unfoldable pub take_penalty_again : Side → Phase
take_penalty_again s = given (status_of s) λ status. on_active s (with_penalty_of status)

-- A stage moves, and the stat is recomputed.
unfoldable pub shift_to : Side → Side → Stat → ℕ → Phase
shift_to user target stat n = on_active target (recomputed_at stat n) ▸ take_penalty_again (other user)

abbrev pub raised : ℕ → ℕ → ℕ
raised by n = min 12 (n + by)

-- At +6 a rise fails. A stat of 999 rises, falls back by one stage, and the move fails.
unfoldable pub raise_from : Side → Side → Stat → ℕ → Phase → ℕ → Bool → Phase
raise_from user target stat by failing n full =
    choose (λ _. nat_le 12 n) failing
    (choose (λ _. full)
    (on_active target (at_new_stage stat (raised by n - 1)) ▸ note_boost target stat (raised by n - 1 - n) ▸ failing)
    (shift_to user target stat (raised by n) ▸ note_boost target stat (raised by n - n)))

-- At -6 a fall fails. A stat of 1 falls, rises back by one stage, and the move fails.
unfoldable pub lower_from : Side → Side → Stat → ℕ → Phase → ℕ → Bool → Phase
lower_from user target stat by failing n least =
    choose (λ _. nat_le n 0) failing
    (choose (λ _. least)
    (on_active target (at_new_stage stat (n - by + 1)) ▸ note_unboost target stat (n - (n - by + 1)) ▸ failing)
    (shift_to user target stat (n - by) ▸ note_unboost target stat (n - (n - by))))

abbrev pub stage_in : Stat → Side → Field → ℕ
stage_in stat s f = stage_of stat (active_in s f).stages

abbrev pub stands_at : ℕ → Stat → Side → Field → Bool
stands_at value stat s f = has_number stat && now_in stat s f == value

-- The user shifts one of the target's stages. `failing` is what happens if that fails.

unfoldable pub raise_stage : Side → Side → Stat → ℕ → Phase → Phase
raise_stage user target stat by failing =
    given (λ p. stage_in stat target p.field) λ n. given (λ p. stands_at 999 stat target p.field) λ full.
    raise_from user target stat by failing n full

unfoldable pub lower_stage : Side → Side → Stat → ℕ → Phase → Phase
lower_stage user target stat by failing =
    given (λ p. stage_in stat target p.field) λ n. given (λ p. stands_at 1 stat target p.field) λ least.
    lower_from user target stat by failing n least
