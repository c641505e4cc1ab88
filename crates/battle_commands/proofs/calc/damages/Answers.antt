use Rattle.std.proofs.Common.{ap, ◌∙◌}
use Rattle.gen1_hits.specs.DamageNumbers.{damages}
use Rattle.battle_commands.specs.Calc.{damages_of}
use Rattle.battle_commands.proofs.calc.damages.Goals as goal

pub returns : goal.returns
unfolding damages_of
returns c a b one two =
    let (g, within) = c.begin_duel-battle.ensures a b one two in
    c.damage_list.ensures ∙ ap damages (c.numbers.ensures.stands g _ within)
