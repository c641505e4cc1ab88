-- Changes that keep a member valid, or an active block valid.
use Rattle.std.proofs.Common.{Bool, List, None, Option, Some, arith, false, get_or, if◌then◌else◌, is_some, length, min, nat_le, refl, true, ℕ, ◌+◌, ◌-◌, ◌≡◌, ◌≤◌}
use Rattle.std.proofs.lemmas.Bool.{false≢true}
use Rattle.gen1_tables.specs.declared.effect.Effect.{Effect}
use Rattle.gen1_tables.specs.declared.effect.Stat.{Stat}
use Rattle.gen1_tables.specs.declared.effect.Stat.TheVariants.{Accuracy, Attack, Defense, Evasion, Special, Speed}
use Rattle.gen1_stats.specs.declared.member.KnownMove.{KnownMove}
use Rattle.gen1_stats.specs.declared.member.Status.{Status}
use Rattle.gen1_stats.specs.declared.member.Status.TheVariants.{Asleep, Burned, Frozen, Healthy, Paralysed, Poisoned}
use Rattle.gen1_stats.specs.Members.{nothing_known, IsBetween, IsMember, Member}
use Rattle.gen1_machine.specs.Rules.{Rules}
use Rattle.gen1_machine.specs.Conditions.{after_haze, broken_off, less_by, one_less, one_more, with_bad_poison, with_confusion, with_flinch, with_focus_energy, with_invulnerability, with_light_screen, with_mist, with_reflect, with_seed, with_substitute, with_substitute_hurt, with_trapping_one_less, with_worse_poison, without_bide, without_charging, without_confusion, without_disable, without_flinch, without_invulnerability, without_recharge, without_seed, without_substitute, without_thrash, without_trapping, ActiveConditions}
use Rattle.gen1_machine.specs.State.{fallen, healed_by, hurt_by, one_turn_less_asleep, with_kept_accuracy, with_sleep_one_less, with_status, with_types_of, Active, Stages}
use Rattle.gen1_machine.specs.CurrentStats.{at_new_stage, recomputed_at, with_penalty_of, with_stage}
use Rattle.gen1_machine.specs.EarlyEffects.{with_levelled_stats}
use Rattle.gen1_machine.specs.Valid.{IsActive, IsConditions, IsCount, IsMemberUnder, IsStages, IsStatus, OnlyWith}

-- Members

-- The same moves, possibly with other PP.
pub record SameMoves (before after : List KnownMove) : Type 0 where
  pub count : length after ≡ length before
  pub ids : (i : ℕ) → (get_or after i nothing_known).id ≡ (get_or before i nothing_known).id

pub record TameMember (rules : Rules) (change : Member → Member) : Type 0 where
  pub moves : (m : Member) → SameMoves m.moves (change m).moves
  pub valid : (m : Member) → IsMemberUnder rules m → IsMemberUnder rules (change m)

same-moves : (moves : List KnownMove) → SameMoves moves moves
same-moves moves = record { count = refl; ids = λ i. refl }

with-hp : (m : Member) (hp : ℕ) → hp ≤ m.max → IsMember m → IsMember (record m { hp = hp })
with-hp m hp l h = record {
  level = h.level;
  max = h.max;
  hp = l;
  attack = h.attack;
  defense = h.defense;
  speed = h.speed;
  special = h.special;
  slots = h.slots;
  known = h.known;
  distinct = h.distinct;
}

pub hurt-tame : {rules : Rules} (amount : ℕ) → TameMember rules (hurt_by amount)
unfolding hurt_by
hurt-tame amount = record {
  moves = λ m. same-moves m.moves;
  valid = λ m h. record { numbers = with-hp m (m.hp - amount) (omega (arith, h.numbers.hp)) h.numbers; species = h.species; moves = h.moves; status = h.status };
}

pub healed-tame : {rules : Rules} (amount : ℕ) → TameMember rules (healed_by amount)
unfolding healed_by
healed-tame amount = record {
  moves = λ m. same-moves m.moves;
  valid = λ m h. record { numbers = with-hp m (min m.max (m.hp + amount)) (omega arith) h.numbers; species = h.species; moves = h.moves; status = h.status };
}

with-status : (rules : Rules) (m : Member) (status : Status) → IsStatus rules status → IsMemberUnder rules m → IsMemberUnder rules (record m { status = status })
with-status rules m status k h = record {
  numbers = record {
    level = h.numbers.level;
    max = h.numbers.max;
    hp = h.numbers.hp;
    attack = h.numbers.attack;
    defense = h.numbers.defense;
    speed = h.numbers.speed;
    special = h.numbers.special;
    slots = h.numbers.slots;
    known = h.numbers.known;
    distinct = h.numbers.distinct;
  };
  species = h.species;
  moves = h.moves;
  status = k;
}

pub status-tame : {rules : Rules} (status : Status) → IsStatus rules status → TameMember rules (with_status status)
unfolding with_status
status-tame {rules} status k = record { moves = λ m. same-moves m.moves; valid = λ m h. with-status rules m status k h }

pub healthy-tame : {rules : Rules} → TameMember rules (with_status Healthy)
healthy-tame = status-tame Healthy tt

pub fallen-tame : {rules : Rules} → TameMember rules fallen
unfolding fallen
fallen-tame {rules} = record {
  moves = λ m. same-moves m.moves;
  valid = λ m h. let k = with-status rules m Healthy tt h in
      record { numbers = with-hp (record m { status = Healthy }) 0 (omega arith) k.numbers; species = h.species; moves = h.moves; status = tt };
}

pub sleep-tame : {rules : Rules} → TameMember rules with_sleep_one_less
unfolding with_sleep_one_less
sleep-tame {rules} = record { moves = λ m. same-moves m.moves; valid = λ m h. with-status rules m (one_turn_less_asleep m.status) (by m.status h.status) h }
  where
    less : (turns : ℕ) (marked b : Bool) → nat_le turns 1 ≡ b → IsStatus rules (Asleep turns marked) → IsStatus rules (if b then Healthy else Asleep (turns - 1) marked)
    less turns marked true e h = tt
    less turns marked false e h = (grind arith, h.1)

    by : (status : Status) → IsStatus rules status → IsStatus rules (one_turn_less_asleep status)
    by (Asleep turns marked) h = less turns marked (nat_le turns 1) refl h
    by Healthy h = tt
    by Poisoned h = tt
    by Burned h = tt
    by Frozen h = tt
    by Paralysed h = tt

-- The active block, without its conditions

pub record TameActive (change : Active → Active) : Type 0 where
  pub place : (a : Active) → (change a).place ≡ a.place
  pub current_move : (a : Active) → (change a).current_move ≡ a.current_move
  pub conditions : (a : Active) → (change a).conditions ≡ a.conditions
  pub valid : (moves : List KnownMove) (a : Active) → IsActive moves a → IsActive moves (change a)

pub types-tame : (foe : Active) → TameActive (with_types_of foe)
unfolding with_types_of
types-tame foe = record {
  place = λ a. refl;
  current_move = λ a. refl;
  conditions = λ a. refl;
  valid = λ moves a h. record { stages = h.stages; current_move = h.current_move; picked_move = h.picked_move; kept_accuracy = h.kept_accuracy; conditions = h.conditions };
}

pub accuracy-tame : (byte : ℕ) → byte ≤ 255 → TameActive (with_kept_accuracy byte)
unfolding with_kept_accuracy
accuracy-tame byte l = record {
  place = λ a. refl;
  current_move = λ a. refl;
  conditions = λ a. refl;
  valid = λ moves a h. record { stages = h.stages; current_move = h.current_move; picked_move = h.picked_move; kept_accuracy = l; conditions = h.conditions };
}

with-stage : (stat : Stat) (n : ℕ) (s : Stages) → n ≤ 12 → IsStages s → IsStages (with_stage stat n s)
with-stage Attack n s l h = record { attack = l; defense = h.defense; speed = h.speed; special = h.special; accuracy = h.accuracy; evasion = h.evasion }
with-stage Defense n s l h = record { attack = h.attack; defense = l; speed = h.speed; special = h.special; accuracy = h.accuracy; evasion = h.evasion }
with-stage Speed n s l h = record { attack = h.attack; defense = h.defense; speed = l; special = h.special; accuracy = h.accuracy; evasion = h.evasion }
with-stage Special n s l h = record { attack = h.attack; defense = h.defense; speed = h.speed; special = l; accuracy = h.accuracy; evasion = h.evasion }
with-stage Accuracy n s l h = record { attack = h.attack; defense = h.defense; speed = h.speed; special = h.special; accuracy = l; evasion = h.evasion }
with-stage Evasion n s l h = record { attack = h.attack; defense = h.defense; speed = h.speed; special = h.special; accuracy = h.accuracy; evasion = l }

staged : (moves : List KnownMove) (a : Active) (s : Stages) → IsStages s → IsActive moves a → IsActive moves (record a { stages = s })
staged moves a s l h = record { stages = l; current_move = h.current_move; picked_move = h.picked_move; kept_accuracy = h.kept_accuracy; conditions = h.conditions }

pub stage-tame : (stat : Stat) (n : ℕ) → n ≤ 12 → TameActive (at_new_stage stat n)
unfolding at_new_stage
stage-tame stat n l = record {
  place = λ a. refl;
  current_move = λ a. refl;
  conditions = λ a. refl;
  valid = λ moves a h. staged moves a _ (with-stage stat n a.stages l h.stages) h;
}

pub recomputed-tame : (stat : Stat) (n : ℕ) → n ≤ 12 → TameActive (recomputed_at stat n)
unfolding recomputed_at
recomputed-tame Attack n l = record {
  place = λ a. refl;
  current_move = λ a. refl;
  conditions = λ a. refl;
  valid = λ moves a h. record { stages = with-stage Attack n a.stages l h.stages; current_move = h.current_move; picked_move = h.picked_move; kept_accuracy = h.kept_accuracy; conditions = h.conditions };
}
recomputed-tame Speed n l = record {
  place = λ a. refl;
  current_move = λ a. refl;
  conditions = λ a. refl;
  valid = λ moves a h. record { stages = with-stage Speed n a.stages l h.stages; current_move = h.current_move; picked_move = h.picked_move; kept_accuracy = h.kept_accuracy; conditions = h.conditions };
}
recomputed-tame Defense n l = record { place = λ a. refl; current_move = λ a. refl; conditions = λ a. refl; valid = λ moves a h. staged moves a _ (with-stage Defense n a.stages l h.stages) h }
recomputed-tame Special n l = record { place = λ a. refl; current_move = λ a. refl; conditions = λ a. refl; valid = λ moves a h. staged moves a _ (with-stage Special n a.stages l h.stages) h }
recomputed-tame Accuracy n l = record { place = λ a. refl; current_move = λ a. refl; conditions = λ a. refl; valid = λ moves a h. staged moves a _ (with-stage Accuracy n a.stages l h.stages) h }
recomputed-tame Evasion n l = record { place = λ a. refl; current_move = λ a. refl; conditions = λ a. refl; valid = λ moves a h. staged moves a _ (with-stage Evasion n a.stages l h.stages) h }

pub penalty-tame : (status : Status) → TameActive (with_penalty_of status)
unfolding with_penalty_of
penalty-tame Paralysed = record {
  place = λ a. refl;
  current_move = λ a. refl;
  conditions = λ a. refl;
  valid = λ moves a h. record { stages = h.stages; current_move = h.current_move; picked_move = h.picked_move; kept_accuracy = h.kept_accuracy; conditions = h.conditions };
}
penalty-tame Burned = record {
  place = λ a. refl;
  current_move = λ a. refl;
  conditions = λ a. refl;
  valid = λ moves a h. record { stages = h.stages; current_move = h.current_move; picked_move = h.picked_move; kept_accuracy = h.kept_accuracy; conditions = h.conditions };
}
penalty-tame Healthy = record { place = λ a. refl; current_move = λ a. refl; conditions = λ a. refl; valid = λ moves a h. h }
penalty-tame (Asleep turns marked) = record { place = λ a. refl; current_move = λ a. refl; conditions = λ a. refl; valid = λ moves a h. h }
penalty-tame Poisoned = record { place = λ a. refl; current_move = λ a. refl; conditions = λ a. refl; valid = λ moves a h. h }
penalty-tame Frozen = record { place = λ a. refl; current_move = λ a. refl; conditions = λ a. refl; valid = λ moves a h. h }

pub levelled-tame : TameActive with_levelled_stats
unfolding with_levelled_stats
levelled-tame = record {
  place = λ a. refl;
  current_move = λ a. refl;
  conditions = λ a. refl;
  valid = λ moves a h. record {
    stages = record { attack = omega arith; defense = omega arith; speed = omega arith; special = omega arith; accuracy = omega arith; evasion = omega arith };
    current_move = h.current_move;
    picked_move = h.picked_move;
    kept_accuracy = h.kept_accuracy;
    conditions = h.conditions;
  };
}

-- Conditions, for any current move

pub record TameConditions (change : ActiveConditions → ActiveConditions) : Type 0 where
  pub valid : (e : Effect) (n : ℕ) (c : ActiveConditions) → IsConditions e n c → IsConditions e n (change c)

pub with_invulnerability-tame : TameConditions with_invulnerability
unfolding with_invulnerability
with_invulnerability-tame = record { valid = λ e n c h. record { underway = h.underway; confused = h.confused; substitute = h.substitute; bad_poison = h.bad_poison; disabled = h.disabled } }

pub without_invulnerability-tame : TameConditions without_invulnerability
unfolding without_invulnerability
without_invulnerability-tame = record { valid = λ e n c h. record { underway = h.underway; confused = h.confused; substitute = h.substitute; bad_poison = h.bad_poison; disabled = h.disabled } }

pub with_flinch-tame : TameConditions with_flinch
unfolding with_flinch
with_flinch-tame = record { valid = λ e n c h. record { underway = h.underway; confused = h.confused; substitute = h.substitute; bad_poison = h.bad_poison; disabled = h.disabled } }

pub without_flinch-tame : TameConditions without_flinch
unfolding without_flinch
without_flinch-tame = record { valid = λ e n c h. record { underway = h.underway; confused = h.confused; substitute = h.substitute; bad_poison = h.bad_poison; disabled = h.disabled } }

pub with_mist-tame : TameConditions with_mist
unfolding with_mist
with_mist-tame = record { valid = λ e n c h. record { underway = h.underway; confused = h.confused; substitute = h.substitute; bad_poison = h.bad_poison; disabled = h.disabled } }

pub with_focus_energy-tame : TameConditions with_focus_energy
unfolding with_focus_energy
with_focus_energy-tame = record { valid = λ e n c h. record { underway = h.underway; confused = h.confused; substitute = h.substitute; bad_poison = h.bad_poison; disabled = h.disabled } }

pub with_light_screen-tame : TameConditions with_light_screen
unfolding with_light_screen
with_light_screen-tame = record { valid = λ e n c h. record { underway = h.underway; confused = h.confused; substitute = h.substitute; bad_poison = h.bad_poison; disabled = h.disabled } }

pub with_reflect-tame : TameConditions with_reflect
unfolding with_reflect
with_reflect-tame = record { valid = λ e n c h. record { underway = h.underway; confused = h.confused; substitute = h.substitute; bad_poison = h.bad_poison; disabled = h.disabled } }

pub with_seed-tame : TameConditions with_seed
unfolding with_seed
with_seed-tame = record { valid = λ e n c h. record { underway = h.underway; confused = h.confused; substitute = h.substitute; bad_poison = h.bad_poison; disabled = h.disabled } }

pub without_seed-tame : TameConditions without_seed
unfolding without_seed
without_seed-tame = record { valid = λ e n c h. record { underway = h.underway; confused = h.confused; substitute = h.substitute; bad_poison = h.bad_poison; disabled = h.disabled } }

pub without_bide-tame : TameConditions without_bide
unfolding without_bide
without_bide-tame = record { valid = λ e n c h. record { underway = record { bide = tt; thrash = h.underway.thrash; trapping = h.underway.trapping; bide_tied = λ on. absurd (false≢true on); thrash_tied = h.underway.thrash_tied; trapping_tied = h.underway.trapping_tied; charging_tied = h.underway.charging_tied; recharge_tied = h.underway.recharge_tied; rage_tied = h.underway.rage_tied }; confused = h.confused; substitute = h.substitute; bad_poison = h.bad_poison; disabled = h.disabled } }

pub without_thrash-tame : TameConditions without_thrash
unfolding without_thrash
without_thrash-tame = record { valid = λ e n c h. record { underway = record { bide = h.underway.bide; thrash = tt; trapping = h.underway.trapping; bide_tied = h.underway.bide_tied; thrash_tied = λ on. absurd (false≢true on); trapping_tied = h.underway.trapping_tied; charging_tied = h.underway.charging_tied; recharge_tied = h.underway.recharge_tied; rage_tied = h.underway.rage_tied }; confused = h.confused; substitute = h.substitute; bad_poison = h.bad_poison; disabled = h.disabled } }

pub without_trapping-tame : TameConditions without_trapping
unfolding without_trapping
without_trapping-tame = record { valid = λ e n c h. record { underway = record { bide = h.underway.bide; thrash = h.underway.thrash; trapping = tt; bide_tied = h.underway.bide_tied; thrash_tied = h.underway.thrash_tied; trapping_tied = λ on. absurd (false≢true on); charging_tied = h.underway.charging_tied; recharge_tied = h.underway.recharge_tied; rage_tied = h.underway.rage_tied }; confused = h.confused; substitute = h.substitute; bad_poison = h.bad_poison; disabled = h.disabled } }

pub without_charging-tame : TameConditions without_charging
unfolding without_charging
without_charging-tame = record { valid = λ e n c h. record { underway = record { bide = h.underway.bide; thrash = h.underway.thrash; trapping = h.underway.trapping; bide_tied = h.underway.bide_tied; thrash_tied = h.underway.thrash_tied; trapping_tied = h.underway.trapping_tied; charging_tied = λ on. absurd (false≢true on); recharge_tied = h.underway.recharge_tied; rage_tied = h.underway.rage_tied }; confused = h.confused; substitute = h.substitute; bad_poison = h.bad_poison; disabled = h.disabled } }

pub without_recharge-tame : TameConditions without_recharge
unfolding without_recharge
without_recharge-tame = record { valid = λ e n c h. record { underway = record { bide = h.underway.bide; thrash = h.underway.thrash; trapping = h.underway.trapping; bide_tied = h.underway.bide_tied; thrash_tied = h.underway.thrash_tied; trapping_tied = h.underway.trapping_tied; charging_tied = h.underway.charging_tied; recharge_tied = λ on. absurd (false≢true on); rage_tied = h.underway.rage_tied }; confused = h.confused; substitute = h.substitute; bad_poison = h.bad_poison; disabled = h.disabled } }

pub broken_off-tame : TameConditions broken_off
unfolding broken_off
broken_off-tame = record { valid = λ e n c h. record { underway = record { bide = tt; thrash = tt; trapping = tt; bide_tied = λ on. absurd (false≢true on); thrash_tied = λ on. absurd (false≢true on); trapping_tied = λ on. absurd (false≢true on); charging_tied = λ on. absurd (false≢true on); recharge_tied = h.underway.recharge_tied; rage_tied = h.underway.rage_tied }; confused = h.confused; substitute = h.substitute; bad_poison = h.bad_poison; disabled = h.disabled } }

pub without_confusion-tame : TameConditions without_confusion
unfolding without_confusion
without_confusion-tame = record { valid = λ e n c h. record { underway = h.underway; confused = tt; substitute = h.substitute; bad_poison = h.bad_poison; disabled = h.disabled } }

pub without_substitute-tame : TameConditions without_substitute
unfolding without_substitute
without_substitute-tame = record { valid = λ e n c h. record { underway = h.underway; confused = h.confused; substitute = tt; bad_poison = h.bad_poison; disabled = h.disabled } }

pub without_disable-tame : TameConditions without_disable
unfolding without_disable
without_disable-tame = record { valid = λ e n c h. record { underway = h.underway; confused = h.confused; substitute = h.substitute; bad_poison = h.bad_poison; disabled = tt } }

pub with_bad_poison-tame : TameConditions with_bad_poison
unfolding with_bad_poison
with_bad_poison-tame = record { valid = λ e n c h. record { underway = h.underway; confused = h.confused; substitute = h.substitute; bad_poison = (omega arith, omega arith); disabled = h.disabled } }

pub after_haze-tame : TameConditions after_haze
unfolding after_haze
after_haze-tame = record { valid = λ e n c h. record { underway = h.underway; confused = tt; substitute = h.substitute; bad_poison = tt; disabled = tt } }

pub with_confusion-tame : (turns : ℕ) → IsBetween 1 5 turns → TameConditions (with_confusion turns)
unfolding with_confusion
with_confusion-tame turns l = record { valid = λ e n c h. record { underway = h.underway; confused = l; substitute = h.substitute; bad_poison = h.bad_poison; disabled = h.disabled } }

pub with_substitute-tame : (hp : ℕ) → hp ≤ 249 → TameConditions (with_substitute hp)
unfolding with_substitute
with_substitute-tame hp l = record { valid = λ e n c h. record { underway = h.underway; confused = h.confused; substitute = (omega arith, l); bad_poison = h.bad_poison; disabled = h.disabled } }

less-count : (low high : ℕ) (o : Option ℕ) (amount : ℕ) → low ≡ 0 → IsCount low high o → IsCount low high (less_by amount o)
less-count low high None amount e h = tt
less-count low high (Some n) amount e h = (omega (arith, e), omega (arith, h.1))

pub with_substitute_hurt-tame : (damage : ℕ) → TameConditions (with_substitute_hurt damage)
unfolding with_substitute_hurt
with_substitute_hurt-tame damage = record { valid = λ e n c h. record { underway = h.underway; confused = h.confused; substitute = less-count 0 249 c.substitute damage refl h.substitute; bad_poison = h.bad_poison; disabled = h.disabled } }

more-count : (o : Option ℕ) → IsCount 0 64 o → IsCount 0 64 (one_more o)
more-count None h = tt
more-count (Some n) h = (omega arith, omega arith)

pub with_worse_poison-tame : TameConditions with_worse_poison
unfolding with_worse_poison
with_worse_poison-tame = record { valid = λ e n c h. record { underway = h.underway; confused = h.confused; substitute = h.substitute; bad_poison = more-count c.bad_poison h.bad_poison; disabled = h.disabled } }

one-less-count : (o : Option ℕ) (high : ℕ) → IsCount 0 high o → IsCount 0 high (one_less o)
one-less-count None high h = tt
one-less-count (Some n) high h = (omega arith, omega (arith, h.1))

one-less-tied : (tie : Bool) (o : Option ℕ) → OnlyWith tie (is_some o) → OnlyWith tie (is_some (one_less o))
one-less-tied tie None h = h
one-less-tied tie (Some n) h = h

pub with_trapping_one_less-tame : TameConditions with_trapping_one_less
unfolding with_trapping_one_less
with_trapping_one_less-tame = record { valid = λ e n c h. record { underway = record { bide = h.underway.bide; thrash = h.underway.thrash; trapping = one-less-count c.underway.trapping 4 h.underway.trapping; bide_tied = h.underway.bide_tied; thrash_tied = h.underway.thrash_tied; trapping_tied = one-less-tied _ c.underway.trapping h.underway.trapping_tied; charging_tied = h.underway.charging_tied; recharge_tied = h.underway.recharge_tied; rage_tied = h.underway.rage_tied }; confused = h.confused; substitute = h.substitute; bad_poison = h.bad_poison; disabled = h.disabled } }

pub ruleset tame_rules = (hurt-tame, healed-tame, status-tame, healthy-tame, fallen-tame, sleep-tame, types-tame, accuracy-tame, stage-tame, recomputed-tame, penalty-tame, levelled-tame, with_invulnerability-tame, without_invulnerability-tame, with_flinch-tame, without_flinch-tame, with_mist-tame, with_focus_energy-tame, with_light_screen-tame, with_reflect-tame, with_seed-tame, without_seed-tame, without_bide-tame, without_thrash-tame, without_trapping-tame, without_charging-tame, without_recharge-tame, broken_off-tame, without_confusion-tame, without_substitute-tame, without_disable-tame, with_bad_poison-tame, after_haze-tame, with_confusion-tame, with_substitute-tame, with_substitute_hurt-tame, with_worse_poison-tame, with_trapping_one_less-tame)
