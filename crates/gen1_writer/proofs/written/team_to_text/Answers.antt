use Rattle.std.proofs.Common.{ap, sym, ◌∙◌}
use Rattle.gen1_text.specs.Texts.{members_told, team_told}
use Rattle.gen1_writer.proofs.ReadBack.{team_back, text_back}
use Rattle.gen1_writer.proofs.Members.{none_of, of_none, writes}
use Rattle.gen1_writer.proofs.written.team_to_text.Goals as goal

pub returns-clause-members : goal.returns-clause-members
returns-clause-members c =
    let sheets = c.args.specs.now in
    let none = none_of c.refusal.result c.in_default.not-Some in
    let h = writes sheets (of_none c.refusal.result _ none c.refusal.ensures.allowed) (of_none c.refusal.result _ none c.refusal.ensures.dvs)
    (sym c.refusal.ensures.value ∙ none) in
    ap members_told c.text_of.ensures ∙ text_back sheets h.each h.some h.few

pub returns-clause-team : goal.returns-clause-team
returns-clause-team c =
    let sheets = c.args.specs.now in
    let none = none_of c.refusal.result c.in_default.not-Some in
    let dvs = of_none c.refusal.result _ none c.refusal.ensures.dvs in
    let h = writes sheets (of_none c.refusal.result _ none c.refusal.ensures.allowed) dvs (sym c.refusal.ensures.value ∙ none) in
    ap team_told c.text_of.ensures ∙ team_back sheets h.each dvs h.some h.few h.allowed
