-- Names of species, moves and types, and their rows of the tables; and a member's stats (include/gen1.h, "naming"; docs/TABLES.md).
use Rattle.std.specs.Prelude.{if◌then◌else◌, negsuc, pos, ℕ, ℤ, ◌==◌, Err, List, Ok, Result, [], codes, map, nat_le, ok_or, ◌&&◌, ◌*◌, ◌/◌, ◌≡◌, ◌∷◌, slice_index_or, ◌%◌}
use Rattle.gen1_tables.specs.declared.effect.Effect.{Effect}
use Rattle.gen1_machine.specs.Moves.{counter_move, quick_attack, is_often_critical}
use Rattle.std.specs.List.{slice_get}
use Rattle.gen1_tables.specs.Moves.{move_row}
use Rattle.gen1_tables.specs.Names.{move_name, species_name}
use Rattle.gen1_tables.specs.Species.{base_of, species_row, types_of}
use Rattle.gen1_tables.specs.Types.{number_of, rows_against, tenths_of}
use Rattle.gen1_c.specs.declared.names.BaseForm.{BaseForm}
use Rattle.gen1_c.specs.declared.names.MoveForm.{MoveForm}
use Rattle.gen1_layout.specs.Parts.{element_of}
use Rattle.gen1_stats.specs.Members.{Member, nobody}
use Rattle.gen1_stats.specs.Teams.{team_of}
use Rattle.gen1_c.specs.Odds.{one_fault}
use Rattle.gen1_c.specs.Teams.{sheet_of}
use Rattle.gen1_c.specs.declared.teams.MemberForm.{MemberForm}
use Rattle.gen1_tables.specs.declared.effect.Effect.TheVariants as effects

-- The numbers of effects, and which moves come first (include/gen1.h, "naming"; docs/TABLES.md, "Effects").

-- in the order of docs/TABLES.md, from 0 on
abbrev pub effect_number : Effect → ℕ
effect_number effects.DamageOnly = 0
effect_number effects.AlwaysFails = 1
effect_number effects.MultiHit = 2
effect_number effects.PayDay = 3
effect_number effects.FreezeChance = 4
effect_number effects.Charge = 5
effect_number effects.ChargeInvulnerable = 6
effect_number effects.Trapping = 7
effect_number effects.OneHitKnockOut = 8
effect_number effects.DoubleHit = 9
effect_number effects.Twineedle = 10
effect_number effects.CrashOnMiss = 11
effect_number effects.Recoil = 12
effect_number effects.Thrash = 13
effect_number effects.InflictSleep = 14
effect_number effects.InflictConfusion = 15
effect_number effects.FixedDamage = 16
effect_number effects.Disable = 17
effect_number effects.Mist = 18
effect_number effects.Recharge = 19
effect_number effects.Counter = 20
effect_number effects.Drain = 21
effect_number effects.LeechSeed = 22
effect_number effects.InflictPoison = 23
effect_number effects.InflictParalysis = 24
effect_number effects.Rage = 25
effect_number effects.LeftOut = 26
effect_number effects.Heal = 27
effect_number effects.Screen = 28
effect_number effects.Haze = 29
effect_number effects.FocusEnergy = 30
effect_number effects.Bide = 31
effect_number effects.Explode = 32
effect_number effects.NeverMisses = 33
effect_number effects.DreamEater = 34
effect_number effects.Splash = 35
effect_number effects.Conversion = 36
effect_number effects.SuperFang = 37
effect_number effects.Substitute = 38
effect_number (effects.BurnChance bound) = 39
effect_number (effects.ParalysisChance bound) = 40
effect_number (effects.PoisonChance bound) = 41
effect_number (effects.FlinchChance bound) = 42
effect_number (effects.ConfusionChance bound) = 43
effect_number (effects.StatDownChance stat) = 44
effect_number (effects.StatUp stat stages) = 45
effect_number (effects.StatDown stat stages) = 46

-- 1 for Quick Attack, -1 for Counter, else 0
abbrev pub priority_of : ℕ → ℤ
priority_of move = if move == quick_attack then pos 1 else (if move == counter_move then negsuc 0 else pos 0)

-- the value for a number from 1 up to the last; the code 42 for any other
abbrev pub numbered : {A : Type 0} → ℕ → ℕ → A → Result A ℕ
numbered last number it = if nat_le 1 number && nat_le number last then Ok it else Err 42

abbrev pub species_text : ℕ → Result (List ℕ) ℕ
species_text number = numbered 151 number (species_name number)

abbrev pub move_text : ℕ → Result (List ℕ) ℕ
move_text number = numbered 165 number (move_name number)

abbrev pub type_names : List (List ℕ)
type_names =
    codes "Normal" ∷ codes "Fighting" ∷ codes "Flying" ∷ codes "Poison" ∷ codes "Ground" ∷ codes "Rock" ∷ codes "Bug"
    ∷ codes "Ghost" ∷ codes "Fire" ∷ codes "Water" ∷ codes "Grass" ∷ codes "Electric" ∷ codes "Psychic" ∷ codes "Ice"
    ∷ codes "Dragon" ∷ []

abbrev pub type_text : ℕ → Result (List ℕ) ℕ
type_text number = ok_or (slice_get type_names number) 42

-- base stats and types

abbrev pub base_row : ℕ → BaseForm
base_row species = record { stats = base_of (species_row species); types = map number_of (types_of (species_row species)) }

abbrev pub base_due : ℕ → Result BaseForm ℕ
base_due number = numbered 151 number (base_row number)

-- the row of a move, with its accuracy in 255ths

abbrev pub row_of_move : ℕ → MoveForm
row_of_move id = record {
  kind = number_of (move_row id).kind;
  power = (move_row id).power;
  accuracy = (move_row id).accuracy * 255 / 100;
  pp = (move_row id).pp;
  effect = effect_number (move_row id).effect;
  priority = priority_of id;
  high_critical = if is_often_critical id then 1 else 0;
}

abbrev pub move_due : ℕ → Result MoveForm ℕ
move_due number = numbered 165 number (row_of_move number)

-- a row is written; or there is none, and the code says why
abbrev pub Tells : {A : Type 0} → Result A ℕ → A → A → ℕ → Type 0
Tells (Ok row) old new code = (code ≡ 0) × (new ≡ row)
Tells (Err why) old new code = (code ≡ why) × (new ≡ old)

-- The type chart

-- the factor of the row of two types in tenths, or 10 if there is none; the code 42 if one of the numbers is not a type
abbrev pub effectiveness_due : ℕ → ℕ → Result ℕ ℕ
effectiveness_due attack foe =
    if nat_le attack 14 && nat_le foe 14 then Ok (tenths_of (rows_against (element_of attack) (element_of foe) (element_of foe))).0 else Err 42

-- A member's stats without a battle

abbrev pub stats_of : Member → List ℕ
stats_of m = m.max ∷ m.attack ∷ m.defense ∷ m.speed ∷ m.special ∷ []

-- the stats of a team's only member; or the code of its error
abbrev pub stats_due : MemberForm → Result (List ℕ) ℕ
stats_due m =
    if one_fault m == 0 then Ok (stats_of (slice_index_or (team_of (sheet_of m ∷ [])) 0 nobody)) else Err (one_fault m % 256)
