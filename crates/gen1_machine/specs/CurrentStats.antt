-- The current stats of a member that is out (docs/MECHANICS.md, "Stages", "Penalties"): its own stats at their
-- stages, with the penalties of its status.
use Rattle.std.specs.Prelude.{Bool, false, true, ℕ, ◌+◌}
use Rattle.gen1_tables.specs.declared.effect.Stat.{Stat}
use Rattle.gen1_tables.specs.declared.effect.Stat.TheVariants.{Attack, Defense, Speed, Special, Accuracy, Evasion}
use Rattle.gen1_stats.specs.declared.member.Status.{Status}
use Rattle.gen1_stats.specs.declared.member.Status.TheVariants.{Burned, Paralysed}
use Rattle.gen1_machine.specs.declared.side.Side.{Side}
use Rattle.gen1_stats.specs.Members.{Member}
use Rattle.gen1_stats.specs.Stats.{stat}
use Rattle.gen1_machine.specs.Stages.{now_at}
use Rattle.gen1_machine.specs.State.{active_in, member_in, Stages, Active, Field}

abbrev pub stage_of : Stat → Stages → ℕ
stage_of Attack s = s.attack
stage_of Defense s = s.defense
stage_of Speed s = s.speed
stage_of Special s = s.special
stage_of Accuracy s = s.accuracy
stage_of Evasion s = s.evasion

abbrev pub with_stage : Stat → ℕ → Stages → Stages
with_stage Attack n s = record s { attack = n }
with_stage Defense n s = record s { defense = n }
with_stage Speed n s = record s { speed = n }
with_stage Special n s = record s { special = n }
with_stage Accuracy n s = record s { accuracy = n }
with_stage Evasion n s = record s { evasion = n }

-- A member's own stat. Accuracy and evasion have stages only.
abbrev pub unmodified : Stat → Member → ℕ
unmodified Attack m = m.attack
unmodified Defense m = m.defense
unmodified Speed m = m.speed
unmodified Special m = m.special
unmodified _ m = 0

abbrev pub has_number : Stat → Bool
has_number Accuracy = false
has_number Evasion = false
has_number _ = true

-- How many times a stat has been halved or quartered since it was last recomputed.
abbrev pub penalties_of : Stat → Active → ℕ
penalties_of Attack a = a.attack_penalties
penalties_of Speed a = a.speed_penalties
penalties_of _ a = 0

-- A current stat.
abbrev pub now : Stat → Member → Active → ℕ
now stat m a = now_at (unmodified stat m) (stage_of stat a.stages) stat (penalties_of stat a)

abbrev pub now_in : Stat → Side → Field → ℕ
now_in stat s f = now stat (member_in s f) (active_in s f)

-- The changes

-- Recomputing a stat drops its penalties.
abbrev pub without_penalties : Stat → Active → Active
without_penalties Attack a = record a { attack_penalties = 0 }
without_penalties Speed a = record a { speed_penalties = 0 }
without_penalties _ a = a

unfoldable pub at_new_stage : Stat → ℕ → Active → Active
at_new_stage stat n a = record a { stages = with_stage stat n a.stages }

unfoldable pub recomputed_at : Stat → ℕ → Active → Active
recomputed_at stat n a = without_penalties stat (record a { stages = with_stage stat n a.stages })

-- Paralysis quarters Speed once more, and a burn halves Attack once more.
unfoldable pub with_penalty_of : Status → Active → Active
with_penalty_of Paralysed a = record a { speed_penalties = a.speed_penalties + 1 }
with_penalty_of Burned a = record a { attack_penalties = a.attack_penalties + 1 }
with_penalty_of _ a = a
