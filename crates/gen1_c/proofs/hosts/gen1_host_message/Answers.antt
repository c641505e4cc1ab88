use Rattle.std.proofs.Common.{refl, subst}
use Rattle.std.proofs.Common.{◌∙◌}
use Rattle.gen1_machine.specs.declared.side.Side.{Side}
use Rattle.gen1_host.specs.Hosts.{IsSent}
use Rattle.gen1_host.specs.Messages.{message}
use Rattle.gen1_c.proofs.OddsDue.{same_side}
use Rattle.gen1_c.proofs.Replies.{found}
use Rattle.gen1_c.proofs.hosts.gen1_host_message.Goals as goal

pub returns-clause-sent : goal.returns-clause-sent
returns-clause-sent c t which h e =
    let side = same_side c.in-Some.side which (c.in-Some.ensures.exact ∙ e) in
    (refl, subst (λ (it : Side). IsSent c.message_to.result (message it t)) side (c.message_to.ensures.sent t h))

pub returns-in_default-clause-sent : goal.returns-in_default-clause-sent
returns-in_default-clause-sent c t which h e =
    absurd (found c.from_number.result c.args.side which c.from_number.ensures.numbered c.in_default.not-Some e)
