use Rattle.std.proofs.Common.{List, [], ap, sym, ◌∙◌, ◌∷◌, ℕ}
use Rattle.gen1_stats.specs.Members.{Member}
use Rattle.gen1_stats.specs.Teams.{team_of}
use Rattle.gen1_machine.specs.declared.side.Side.TheVariants.{One}
use Rattle.gen1_layout.specs.Shows.{setting_of}
use Rattle.gen1_c.specs.Odds.{facing, odds_of_state}
use Rattle.gen1_c.specs.Teams.{sheet_of}
use Rattle.gen1_c.proofs.Updates.{let_through}
use Rattle.gen1_c.proofs.OddsDue.{within_out}
use Rattle.gen1_c.proofs.odds.gen1_odds_between.Goals as goal

pub returns-clause-told : goal.returns-clause-told
returns-clause-told c zero =
    let id = let_through _ _ _ (sym c.new.ensures ∙ c.in-Some.is) in
    let user = c.in-Ok.team in
    let foe = c.in-Ok-team_of_one.team in
    let out = within_out {p = c.sent_out.result} {s = facing user foe} c.sent_out.ensures.stands c.sent_out.ensures.out in
    c.odds_of.ensures.stands (setting_of (facing user foe)) (facing user foe).field out
    ∙ ap (λ (n : ℕ). odds_of_state One n (facing user foe)) id.1
    ∙ ap (λ (one : List Member). odds_of_state One c.args.number (facing one foe)) c.in-Ok.ensures.made
    ∙ ap (λ (two : List Member). odds_of_state One c.args.number (facing (team_of (sheet_of c.args.user.now ∷ [])) two)) c.in-Ok-team_of_one.ensures.made
