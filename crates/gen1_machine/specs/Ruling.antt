-- What a battle's terms settle (docs/MECHANICS.md, "Rules (sleep clause, freeze clause)", "Turn limit"): falling
-- asleep, freezing, and the last turn.
use Rattle.std.specs.Prelude.{Bool, false, nat_lt, true, ℕ}
use Rattle.gen1_stats.specs.declared.member.Status.TheVariants.{Asleep, Frozen}
use Rattle.gen1_machine.specs.declared.side.Side.{Side}
use Rattle.gen1_machine.specs.declared.event.Kind.TheVariants as kinds
use Rattle.gen1_rolls.specs.Streams.{low_bits}
use Rattle.gen1_stats.specs.Members.{is_marked, is_frozen}
use Rattle.gen1_machine.specs.Sides.{other}
use Rattle.gen1_machine.specs.Rules.{Rules}
use Rattle.gen1_machine.specs.Conditions.{without_recharge}
use Rattle.gen1_machine.specs.State.{party, any_living, Terms}
use Rattle.gen1_machine.specs.Progress.{Phase, ◌▸◌, unless, draw_until, on_conditions, fails_if, inflict, Progress}

-- What the terms settle for a battle.
pub record Ruling : Type 0 where
  pub sleeps : Side → Phase  -- what a sleep move of this side does after it has hit
  pub freezes : Side → Phase  -- what a freezing move of this side does after its draw was low enough
  pub last_turn : ℕ

-- Sleep lasts one to seven turns. Under the sleep clause it is marked as caused by the foe (docs/MECHANICS.md, "Rules
-- (sleep clause, freeze clause)").

abbrev pub is_sleep_count : ℕ → Bool
is_sleep_count b = nat_lt 0 (low_bits 3 b)

unfoldable pub sleep_for : Bool → Side → ℕ → Phase
sleep_for marked s b = inflict s (Asleep (low_bits 3 b) marked) kinds.Sleep

unfoldable pub fall_asleep : Bool → Side → Phase
fall_asleep marked s = draw_until is_sleep_count (sleep_for marked s)

-- Without clauses

unfoldable pub sleep_freely : Side → Phase
sleep_freely user = fall_asleep false (other user)

unfoldable pub freeze_freely : Side → Phase
freeze_freely user = on_conditions (other user) without_recharge ▸ inflict (other user) Frozen kinds.Freeze

-- The sleep clause: of each party at most one living member sleeps by the foe's moves.

abbrev pub has_marked_sleeper : Side → Progress → Bool
has_marked_sleeper s p = any_living (λ m. is_marked m.status) (party s p.field)

unfoldable pub sleep_only_one : Side → Phase
sleep_only_one user = fails_if user (has_marked_sleeper (other user)) ▸ fall_asleep true (other user)

-- The freeze clause: of each party at most one living member is frozen.

abbrev pub has_frozen_member : Side → Progress → Bool
has_frozen_member s p = any_living (λ m. is_frozen m.status) (party s p.field)

unfoldable pub freeze_only_one : Side → Phase
freeze_only_one user = unless (has_frozen_member (other user)) (freeze_freely user)

-- By whether the clause holds (docs/MECHANICS.md, "Rules (sleep clause, freeze clause)", "Turn limit").

unfoldable pub sleeps_under : Bool → Side → Phase
sleeps_under true user = sleep_only_one user
sleeps_under false user = sleep_freely user

unfoldable pub freezes_under : Bool → Side → Phase
freezes_under true user = freeze_only_one user
freezes_under false user = freeze_freely user

abbrev pub ruling_of : Terms → Ruling
ruling_of t = record {
  sleeps = sleeps_under t.rules.sleep_clause;
  freezes = freezes_under t.rules.freeze_clause;
  last_turn = t.limit;
}

-- Two older rulings: one without clauses, and one whose last turn is fixed. Laws compare them with the current one.

abbrev pub ruling_without_clauses : Ruling
ruling_without_clauses = record { sleeps = sleep_freely; freezes = freeze_freely; last_turn = 1000 }

abbrev pub ruling_with_clauses : Rules → Ruling
ruling_with_clauses rules = record {
  sleeps = sleeps_under rules.sleep_clause;
  freezes = freezes_under rules.freeze_clause;
  last_turn = 1000;
}
