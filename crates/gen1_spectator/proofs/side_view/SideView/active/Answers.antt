use Rattle.std.proofs.Common.{ap, ℕ, ◌∙◌}
use Rattle.gen1_machine.specs.View.{SideView}
use Rattle.gen1_spectator.specs.Plain.{member_shown}
use Rattle.gen1_spectator.proofs.Following.{shown_there}
use Rattle.gen1_spectator.proofs.side_view.SideView.active.Goals as goal

pub returns : goal.returns
returns c =
    c.member.ensures ∙ ap (λ (n : ℕ). member_shown n c.args.self.now) (ap (λ (v : SideView). v.place) c.self.view_is)
    ∙ shown_there c.args.self.now.place c.args.self.now c.requires.out
