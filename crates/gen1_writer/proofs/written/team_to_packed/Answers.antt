use Rattle.std.proofs.Common.{ap, sym, ◌∙◌}
use Rattle.gen1_text.specs.Packed.{members_packed, team_packed}
use Rattle.gen1_writer.proofs.PackedBack.{packed_back, packed_team_back}
use Rattle.gen1_writer.proofs.Members.{none_of, of_none, writes}
use Rattle.gen1_writer.proofs.written.team_to_packed.Goals as goal

pub returns-clause-members : goal.returns-clause-members
returns-clause-members c =
    let sheets = c.args.specs.now in
    let none = none_of c.refusal.result c.in_default.not-Some in
    let h = writes sheets (of_none c.refusal.result _ none c.refusal.ensures.allowed) (of_none c.refusal.result _ none c.refusal.ensures.dvs)
    (sym c.refusal.ensures.value ∙ none) in
    ap members_packed c.packed_of.ensures ∙ packed_back sheets h.each h.some h.few

pub returns-clause-team : goal.returns-clause-team
returns-clause-team c =
    let sheets = c.args.specs.now in
    let none = none_of c.refusal.result c.in_default.not-Some in
    let dvs = of_none c.refusal.result _ none c.refusal.ensures.dvs in
    let h = writes sheets (of_none c.refusal.result _ none c.refusal.ensures.allowed) dvs (sym c.refusal.ensures.value ∙ none) in
    ap team_packed c.packed_of.ensures ∙ packed_team_back sheets h.each dvs h.some h.few h.allowed
