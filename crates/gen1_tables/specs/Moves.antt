-- The moves, 1 to 165 (docs/TABLES.md, "Moves").
use Rattle.std.specs.Prelude.{ℕ, List, [], ◌-◌, ◌∷◌, slice_index_or}
use Rattle.gen1_tables.specs.declared.types.Element.{Element}
use Rattle.gen1_tables.specs.declared.types.Element.TheVariants.{Normal, Fighting, Flying, Poison, Ground, Rock, Bug, Ghost, Fire, Water, Grass, Electric, Psychic, Ice, Dragon}
use Rattle.gen1_tables.specs.declared.effect.Stat.TheVariants.{Attack, Defense, Speed, Special, Accuracy, Evasion}
use Rattle.gen1_tables.specs.declared.effect.Effect.{Effect}
use Rattle.gen1_tables.specs.declared.effect.Effect.TheVariants.{AlwaysFails, Bide, BurnChance, Charge, ChargeInvulnerable, ConfusionChance, Conversion, Counter, CrashOnMiss, DamageOnly, Disable, DoubleHit, Drain, DreamEater, Explode, FixedDamage, FlinchChance, FocusEnergy, FreezeChance, Haze, Heal, InflictConfusion, InflictParalysis, InflictPoison, InflictSleep, LeechSeed, LeftOut, Mist, MultiHit, NeverMisses, OneHitKnockOut, ParalysisChance, PayDay, PoisonChance, Rage, Recharge, Recoil, Screen, Splash, StatDown, StatDownChance, StatUp, Substitute, SuperFang, Thrash, Trapping, Twineedle}

-- A move's type, power, accuracy in percent, PP without PP ups, and effect (docs/TABLES.md, "Moves", "Effects").
pub record MoveRow : Type 0 where
  pub kind : Element
  pub power : ℕ
  pub accuracy : ℕ
  pub pp : ℕ
  pub effect : Effect

abbrev row : Element → ℕ → ℕ → ℕ → Effect → MoveRow
row t p a n e = record { kind = t; power = p; accuracy = a; pp = n; effect = e }

-- The row that the code's values represent. The last one is the accuracy once more, in 255ths.
abbrev pub row_of : Element × ℕ × ℕ × ℕ × Effect × ℕ → MoveRow
row_of r = row r.0 r.1 r.2 r.3 r.4

unfoldable pub move_rows : List MoveRow
move_rows =
    row Normal 40 100 35 DamageOnly ∷  -- Pound
    row Normal 50 100 25 DamageOnly ∷  -- Karate Chop
    row Normal 15 85 10 MultiHit ∷  -- Double Slap
    row Normal 18 85 15 MultiHit ∷  -- Comet Punch
    row Normal 80 85 20 DamageOnly ∷  -- Mega Punch
    row Normal 40 100 20 PayDay ∷  -- Pay Day
    row Fire 75 100 15 (BurnChance 26) ∷  -- Fire Punch
    row Ice 75 100 15 FreezeChance ∷  -- Ice Punch
    row Electric 75 100 15 (ParalysisChance 26) ∷  -- Thunder Punch
    row Normal 40 100 35 DamageOnly ∷  -- Scratch
    row Normal 55 100 30 DamageOnly ∷  -- Vice Grip
    row Normal 1 30 5 OneHitKnockOut ∷  -- Guillotine
    row Normal 80 75 10 Charge ∷  -- Razor Wind
    row Normal 0 100 30 (StatUp Attack 2) ∷  -- Swords Dance
    row Normal 50 95 30 DamageOnly ∷  -- Cut
    row Normal 40 100 35 DamageOnly ∷  -- Gust
    row Flying 35 100 35 DamageOnly ∷  -- Wing Attack
    row Normal 0 85 20 AlwaysFails ∷  -- Whirlwind
    row Flying 70 95 15 ChargeInvulnerable ∷  -- Fly
    row Normal 15 75 20 Trapping ∷  -- Bind
    row Normal 80 75 20 DamageOnly ∷  -- Slam
    row Grass 35 100 10 DamageOnly ∷  -- Vine Whip
    row Normal 65 100 20 (FlinchChance 77) ∷  -- Stomp
    row Fighting 30 100 30 DoubleHit ∷  -- Double Kick
    row Normal 120 75 5 DamageOnly ∷  -- Mega Kick
    row Fighting 70 95 25 CrashOnMiss ∷  -- Jump Kick
    row Fighting 60 85 15 (FlinchChance 77) ∷  -- Rolling Kick
    row Normal 0 100 15 (StatDown Accuracy 1) ∷  -- Sand Attack
    row Normal 70 100 15 (FlinchChance 77) ∷  -- Headbutt
    row Normal 65 100 25 DamageOnly ∷  -- Horn Attack
    row Normal 15 85 20 MultiHit ∷  -- Fury Attack
    row Normal 1 30 5 OneHitKnockOut ∷  -- Horn Drill
    row Normal 35 95 35 DamageOnly ∷  -- Tackle
    row Normal 85 100 15 (ParalysisChance 77) ∷  -- Body Slam
    row Normal 15 85 20 Trapping ∷  -- Wrap
    row Normal 90 85 20 Recoil ∷  -- Take Down
    row Normal 90 100 20 Thrash ∷  -- Thrash
    row Normal 100 100 15 Recoil ∷  -- Double-Edge
    row Normal 0 100 30 (StatDown Defense 1) ∷  -- Tail Whip
    row Poison 15 100 35 (PoisonChance 52) ∷  -- Poison Sting
    row Bug 25 100 20 Twineedle ∷  -- Twineedle
    row Bug 14 85 20 MultiHit ∷  -- Pin Missile
    row Normal 0 100 30 (StatDown Defense 1) ∷  -- Leer
    row Normal 60 100 25 (FlinchChance 26) ∷  -- Bite
    row Normal 0 100 40 (StatDown Attack 1) ∷  -- Growl
    row Normal 0 100 20 AlwaysFails ∷  -- Roar
    row Normal 0 55 15 InflictSleep ∷  -- Sing
    row Normal 0 55 20 InflictConfusion ∷  -- Supersonic
    row Normal 1 90 20 FixedDamage ∷  -- Sonic Boom
    row Normal 0 55 20 Disable ∷  -- Disable
    row Poison 40 100 30 (StatDownChance Defense) ∷  -- Acid
    row Fire 40 100 25 (BurnChance 26) ∷  -- Ember
    row Fire 95 100 15 (BurnChance 26) ∷  -- Flamethrower
    row Ice 0 100 30 Mist ∷  -- Mist
    row Water 40 100 25 DamageOnly ∷  -- Water Gun
    row Water 120 80 5 DamageOnly ∷  -- Hydro Pump
    row Water 95 100 15 DamageOnly ∷  -- Surf
    row Ice 95 100 10 FreezeChance ∷  -- Ice Beam
    row Ice 120 90 5 FreezeChance ∷  -- Blizzard
    row Psychic 65 100 20 (ConfusionChance 25) ∷  -- Psybeam
    row Water 65 100 20 (StatDownChance Speed) ∷  -- Bubble Beam
    row Ice 65 100 20 (StatDownChance Attack) ∷  -- Aurora Beam
    row Normal 150 90 5 Recharge ∷  -- Hyper Beam
    row Flying 35 100 35 DamageOnly ∷  -- Peck
    row Flying 80 100 20 DamageOnly ∷  -- Drill Peck
    row Fighting 80 80 25 Recoil ∷  -- Submission
    row Fighting 50 90 20 (FlinchChance 77) ∷  -- Low Kick
    row Fighting 1 100 20 Counter ∷  -- Counter
    row Fighting 1 100 20 FixedDamage ∷  -- Seismic Toss
    row Normal 80 100 15 DamageOnly ∷  -- Strength
    row Grass 20 100 20 Drain ∷  -- Absorb
    row Grass 40 100 10 Drain ∷  -- Mega Drain
    row Grass 0 90 10 LeechSeed ∷  -- Leech Seed
    row Normal 0 100 40 (StatUp Special 1) ∷  -- Growth
    row Grass 55 95 25 DamageOnly ∷  -- Razor Leaf
    row Grass 120 100 10 Charge ∷  -- Solar Beam
    row Poison 0 75 35 InflictPoison ∷  -- Poison Powder
    row Grass 0 75 30 InflictParalysis ∷  -- Stun Spore
    row Grass 0 75 15 InflictSleep ∷  -- Sleep Powder
    row Grass 70 100 20 Thrash ∷  -- Petal Dance
    row Bug 0 95 40 (StatDown Speed 1) ∷  -- String Shot
    row Dragon 1 100 10 FixedDamage ∷  -- Dragon Rage
    row Fire 15 70 15 Trapping ∷  -- Fire Spin
    row Electric 40 100 30 (ParalysisChance 26) ∷  -- Thunder Shock
    row Electric 95 100 15 (ParalysisChance 26) ∷  -- Thunderbolt
    row Electric 0 100 20 InflictParalysis ∷  -- Thunder Wave
    row Electric 120 70 10 (ParalysisChance 26) ∷  -- Thunder
    row Rock 50 65 15 DamageOnly ∷  -- Rock Throw
    row Ground 100 100 10 DamageOnly ∷  -- Earthquake
    row Ground 1 30 5 OneHitKnockOut ∷  -- Fissure
    row Ground 100 100 10 ChargeInvulnerable ∷  -- Dig
    row Poison 0 85 10 InflictPoison ∷  -- Toxic
    row Psychic 50 100 25 (ConfusionChance 25) ∷  -- Confusion
    row Psychic 90 100 10 (StatDownChance Special) ∷  -- Psychic
    row Psychic 0 60 20 InflictSleep ∷  -- Hypnosis
    row Psychic 0 100 40 (StatUp Attack 1) ∷  -- Meditate
    row Psychic 0 100 30 (StatUp Speed 2) ∷  -- Agility
    row Normal 40 100 30 DamageOnly ∷  -- Quick Attack
    row Normal 20 100 20 Rage ∷  -- Rage
    row Psychic 0 100 20 AlwaysFails ∷  -- Teleport
    row Ghost 0 100 15 FixedDamage ∷  -- Night Shade
    row Normal 0 100 10 LeftOut ∷  -- Mimic
    row Normal 0 85 40 (StatDown Defense 2) ∷  -- Screech
    row Normal 0 100 15 (StatUp Evasion 1) ∷  -- Double Team
    row Normal 0 100 20 Heal ∷  -- Recover
    row Normal 0 100 30 (StatUp Defense 1) ∷  -- Harden
    row Normal 0 100 20 (StatUp Evasion 1) ∷  -- Minimize
    row Normal 0 100 20 (StatDown Accuracy 1) ∷  -- Smokescreen
    row Ghost 0 100 10 InflictConfusion ∷  -- Confuse Ray
    row Water 0 100 40 (StatUp Defense 1) ∷  -- Withdraw
    row Normal 0 100 40 (StatUp Defense 1) ∷  -- Defense Curl
    row Psychic 0 100 30 (StatUp Defense 2) ∷  -- Barrier
    row Psychic 0 100 30 Screen ∷  -- Light Screen
    row Ice 0 100 30 Haze ∷  -- Haze
    row Psychic 0 100 20 Screen ∷  -- Reflect
    row Normal 0 100 30 FocusEnergy ∷  -- Focus Energy
    row Normal 0 100 10 Bide ∷  -- Bide
    row Normal 0 100 10 LeftOut ∷  -- Metronome
    row Flying 0 100 20 LeftOut ∷  -- Mirror Move
    row Normal 130 100 5 Explode ∷  -- Self-Destruct
    row Normal 100 75 10 DamageOnly ∷  -- Egg Bomb
    row Ghost 20 100 30 (ParalysisChance 77) ∷  -- Lick
    row Poison 20 70 20 (PoisonChance 103) ∷  -- Smog
    row Poison 65 100 20 (PoisonChance 103) ∷  -- Sludge
    row Ground 65 85 20 (FlinchChance 26) ∷  -- Bone Club
    row Fire 120 85 5 (BurnChance 77) ∷  -- Fire Blast
    row Water 80 100 15 DamageOnly ∷  -- Waterfall
    row Water 35 75 10 Trapping ∷  -- Clamp
    row Normal 60 100 20 NeverMisses ∷  -- Swift
    row Normal 100 100 15 Charge ∷  -- Skull Bash
    row Normal 20 100 15 MultiHit ∷  -- Spike Cannon
    row Normal 10 100 35 (StatDownChance Speed) ∷  -- Constrict
    row Psychic 0 100 20 (StatUp Special 2) ∷  -- Amnesia
    row Psychic 0 80 15 (StatDown Accuracy 1) ∷  -- Kinesis
    row Normal 0 100 10 Heal ∷  -- Soft-Boiled
    row Fighting 85 90 20 CrashOnMiss ∷  -- High Jump Kick
    row Normal 0 75 30 InflictParalysis ∷  -- Glare
    row Psychic 100 100 15 DreamEater ∷  -- Dream Eater
    row Poison 0 55 40 InflictPoison ∷  -- Poison Gas
    row Normal 15 85 20 MultiHit ∷  -- Barrage
    row Bug 20 100 15 Drain ∷  -- Leech Life
    row Normal 0 75 10 InflictSleep ∷  -- Lovely Kiss
    row Flying 140 90 5 Charge ∷  -- Sky Attack
    row Normal 0 100 10 LeftOut ∷  -- Transform
    row Water 20 100 30 (StatDownChance Speed) ∷  -- Bubble
    row Normal 70 100 10 DamageOnly ∷  -- Dizzy Punch
    row Grass 0 100 15 InflictSleep ∷  -- Spore
    row Normal 0 70 20 (StatDown Accuracy 1) ∷  -- Flash
    row Psychic 1 80 15 FixedDamage ∷  -- Psywave
    row Normal 0 100 40 Splash ∷  -- Splash
    row Poison 0 100 40 (StatUp Defense 2) ∷  -- Acid Armor
    row Water 90 85 10 DamageOnly ∷  -- Crabhammer
    row Normal 170 100 5 Explode ∷  -- Explosion
    row Normal 18 80 15 MultiHit ∷  -- Fury Swipes
    row Ground 50 90 10 DoubleHit ∷  -- Bonemerang
    row Psychic 0 100 10 Heal ∷  -- Rest
    row Rock 75 90 10 DamageOnly ∷  -- Rock Slide
    row Normal 80 90 15 (FlinchChance 26) ∷  -- Hyper Fang
    row Normal 0 100 30 (StatUp Attack 1) ∷  -- Sharpen
    row Normal 0 100 30 Conversion ∷  -- Conversion
    row Normal 80 100 10 DamageOnly ∷  -- Tri Attack
    row Normal 1 90 10 SuperFang ∷  -- Super Fang
    row Normal 70 100 20 DamageOnly ∷  -- Slash
    row Normal 0 100 10 Substitute ∷  -- Substitute
    row Normal 50 100 10 Recoil ∷  -- Struggle
    []

-- The row for a number that no move has.
abbrev no_move : MoveRow
no_move = row Normal 0 0 0 DamageOnly

-- The move with a number.
unfoldable pub move_row : ℕ → MoveRow
move_row number = slice_index_or move_rows (number - 1) no_move

-- Struggle. No member knows it, and every member can use it.
abbrev pub struggle : ℕ
struggle = 165
