-- Properties of effects that rules ask for.
use Rattle.std.specs.Prelude.{Bool, false, true}
use Rattle.gen1_tables.specs.declared.effect.Effect.{Effect}
use Rattle.gen1_tables.specs.declared.effect.Effect.TheVariants as effects

abbrev pub explodes : Effect → Bool
explodes effects.Explode = true
explodes _ = false

abbrev pub crashes : Effect → Bool
crashes effects.CrashOnMiss = true
crashes _ = false

abbrev pub charges : Effect → Bool
charges effects.Charge = true
charges effects.ChargeInvulnerable = true
charges _ = false

abbrev pub hides : Effect → Bool
hides effects.ChargeInvulnerable = true
hides _ = false

abbrev pub traps : Effect → Bool
traps effects.Trapping = true
traps _ = false

abbrev pub thrashes : Effect → Bool
thrashes effects.Thrash = true
thrashes _ = false

abbrev pub bides : Effect → Bool
bides effects.Bide = true
bides _ = false

abbrev pub recharges : Effect → Bool
recharges effects.Recharge = true
recharges _ = false

abbrev pub rages : Effect → Bool
rages effects.Rage = true
rages _ = false

abbrev pub knocks_out : Effect → Bool
knocks_out effects.OneHitKnockOut = true
knocks_out _ = false

-- A move that may hit more than once.
abbrev pub hits_more : Effect → Bool
hits_more effects.MultiHit = true
hits_more effects.DoubleHit = true
hits_more effects.Twineedle = true
hits_more _ = false
