use Rattle.std.proofs.Common.{ap, arith, get_or, inr, length, refl, sym, ◌<◌, ◌≡◌, ◌∙◌}
use Rattle.std.proofs.lemmas.List.{get_or_default}
use Rattle.gen1_outcomes.specs.declared.nodes.Asked.TheVariants.{Next, Unknown}
use Rattle.gen1_outcomes.specs.declared.nodes.Node.{Node}
use Rattle.gen1_outcomes.specs.Nodes.{asked_at}
use Rattle.gen1_outcomes.proofs.nodes.Nodes.has_asked.Goals as goal

pub returns-then-ask_alike : goal.returns-then-ask_alike
returns-then-ask_alike c is =
    let old = c.args.self.now in
    let node = c.index-self-self.result in
    let inside : old.at < length old.list = omega arith in
    let same : (past : Node) → get_or old.list old.at node ≡ get_or old.list old.at past = λ past. get_or_default old.list old.at node past inside in
    let room : old.at < length old.asked = omega arith in
    let asks : asked_at old old.at ≡ c.args.asked = get_or_default old.asked old.at Unknown Next room ∙ c.if-ask_alike.ensures refl in
    inr (asks, λ past. (sym (ap (λ (n : Node). n.look) (same past)) ∙ c.is_as.ensures.look is, sym (ap (λ (n : Node). n.byte) (same past)) ∙ c.is_as.ensures.byte is))
