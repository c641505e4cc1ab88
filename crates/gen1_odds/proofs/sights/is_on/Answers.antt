use Rattle.std.proofs.Common.{Bool, ap, refl, sym, ◌∙◌, ◌≡◌}
use Rattle.gen1_machine.specs.declared.side.Side.{Side}
use Rattle.gen1_machine.specs.State.{Field}
use Rattle.gen1_odds.specs.declared.sights.Sight.{Sight}
use Rattle.gen1_odds.specs.Trials.{is_on_in}
use Rattle.gen1_odds.proofs.sights.is_on.Goals as goal

of : {sight known : Sight} {value : Bool} (s : Side) (f : Field) → sight ≡ known → value ≡ is_on_in known s f → value ≡ is_on_in sight s f
of s f is read = read ∙ ap (λ (it : Sight). is_on_in it s f) (sym is)

pub returns-in-Trapping : goal.returns-in-Trapping
returns-in-Trapping c = record { stands = λ g f h. of c.args.side f c.in-Trapping.is (c.is_on.ensures.stands 2 refl g f h) }

pub returns-in-Charging : goal.returns-in-Charging
returns-in-Charging c = record { stands = λ g f h. of c.args.side f c.in-Charging.is (c.is_on-in-Charging.ensures.stands 4 refl g f h) }

pub returns-in-Invulnerable : goal.returns-in-Invulnerable
returns-in-Invulnerable c = record { stands = λ g f h. of c.args.side f c.in-Invulnerable.is (c.is_on-in-Invulnerable.ensures.stands 5 refl g f h) }

pub returns-in-Mist : goal.returns-in-Mist
returns-in-Mist c = record { stands = λ g f h. of c.args.side f c.in-Mist.is (c.is_on-in-Mist.ensures.stands 7 refl g f h) }

pub returns-in-FocusEnergy : goal.returns-in-FocusEnergy
returns-in-FocusEnergy c = record { stands = λ g f h. of c.args.side f c.in-FocusEnergy.is (c.is_on-in-FocusEnergy.ensures.stands 8 refl g f h) }

pub returns-in-Recharge : goal.returns-in-Recharge
returns-in-Recharge c = record { stands = λ g f h. of c.args.side f c.in-Recharge.is (c.is_on-in-Recharge.ensures.stands 10 refl g f h) }

pub returns-in-Seeded : goal.returns-in-Seeded
returns-in-Seeded c = record { stands = λ g f h. of c.args.side f c.in-Seeded.is (c.is_on-in-Seeded.ensures.stands 12 refl g f h) }

pub returns-in-LightScreen : goal.returns-in-LightScreen
returns-in-LightScreen c = record { stands = λ g f h. of c.args.side f c.in-LightScreen.is (c.is_on-in-LightScreen.ensures.stands 14 refl g f h) }

pub returns-in-Reflect : goal.returns-in-Reflect
returns-in-Reflect c = record { stands = λ g f h. of c.args.side f c.in-Reflect.is (c.is_on-in-Reflect.ensures.stands 15 refl g f h) }
