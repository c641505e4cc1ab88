use Rattle.std.proofs.Common.{ap, length, refl, ◌∙◌}
use Rattle.gen1_machine.specs.Rules.{bit_of}
use Rattle.gen1_machine.specs.View.{SideView}
use Rattle.gen1_spectator.specs.Plain.{plain_member, plain_stages}
use Rattle.gen1_spectator.proofs.PlainViews.{side_back}
use Rattle.gen1_spectator.proofs.side_view.SideView.plain.Goals as goal

pub returns-clause-view : goal.returns-clause-view
returns-clause-view c =
    let is = c.self.view_is in
    side_back c.args.self.now c.plain.result c.plain-2.result c.plain-3.result c.plain-4.result c.plain-5.result c.plain-6.result c.plain-7.result
    c.len.result c.self.inside.place c.bit.result c.bit-2.result c.bit-3.result c.bit-4.result
    (c.len.ensures.value ∙ ap (λ (v : SideView). length v.members) is) c.len.ensures.fits (ap (λ (v : SideView). v.place) is)
    (c.plain.ensures.shown ∙ c.member.ensures) (c.plain-2.ensures.shown ∙ c.member-2.ensures) (c.plain-3.ensures.shown ∙ c.member-3.ensures)
    (c.plain-4.ensures.shown ∙ c.member-4.ensures) (c.plain-5.ensures.shown ∙ c.member-5.ensures) (c.plain-6.ensures.shown ∙ c.member-6.ensures)
    (c.plain-7.ensures.stages ∙ ap (λ (v : SideView). v.stages) is)
    (c.bit.ensures.set ∙ ap (λ (v : SideView). v.substitute) is) (c.bit-2.ensures.set ∙ ap (λ (v : SideView). v.confused) is)
    (c.bit-3.ensures.set ∙ ap (λ (v : SideView). v.light_screen) is) (c.bit-4.ensures.set ∙ ap (λ (v : SideView). v.reflect) is)

pub returns-clause-exact : goal.returns-clause-exact
returns-clause-exact c =
    let is = c.self.view_is in
    rw (
      c.plain.ensures.exact ∙ ap plain_member c.member.ensures,
      c.plain-2.ensures.exact ∙ ap plain_member c.member-2.ensures,
      c.plain-3.ensures.exact ∙ ap plain_member c.member-3.ensures,
      c.plain-4.ensures.exact ∙ ap plain_member c.member-4.ensures,
      c.plain-5.ensures.exact ∙ ap plain_member c.member-5.ensures,
      c.plain-6.ensures.exact ∙ ap plain_member c.member-6.ensures,
      c.len.ensures.value ∙ ap (λ (v : SideView). length v.members) is,
      ap (λ (v : SideView). v.place) is,
      c.plain-7.ensures.exact ∙ ap (λ (v : SideView). plain_stages v.stages) is,
      c.bit.ensures.exact ∙ ap (λ (v : SideView). bit_of v.substitute) is,
      c.bit-2.ensures.exact ∙ ap (λ (v : SideView). bit_of v.confused) is,
      c.bit-3.ensures.exact ∙ ap (λ (v : SideView). bit_of v.light_screen) is,
      c.bit-4.ensures.exact ∙ ap (λ (v : SideView). bit_of v.reflect) is,
    ) refl
