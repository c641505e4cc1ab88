use Rattle.gen1_layout.specs.Shows.{setting_of}
use Rattle.battle_commands.proofs.Serving.{before, both_out, unstarted}
use Rattle.battle_commands.proofs.calc.begin_duel.Goals as goal

pub returns : goal.returns
returns c a b one two =
    let stands = rw (one, two) at c.new-battle.ensures in
    let s = before a b in
    let out = c.send_both_first.ensures.shown s c.new.ensures stands (unstarted a b stands.valid) in
    (setting_of s, rw (← both_out a b) out.within)
