use Rattle.std.proofs.Common.{◌≡◌, List, Some, ap, rules, subst, sym, ◌∙◌}
use Rattle.std.specs.Borrow.{GName}
use Rattle.gen1_layout.specs.Parts.{Parts}
use Rattle.gen1_layout.specs.Shows.{Stands, Within, setting_of}
use Rattle.gen1_machine.specs.State.{State}
use Rattle.gen1_engine.specs.Update.{AreOffered}
use Rattle.gen1_outcomes.specs.declared.beginning.Left.TheVariants as lefts
use Rattle.gen1_outcomes.specs.declared.log.Entry.{Entry}
use Rattle.gen1_outcomes.specs.declared.nodes.Nodes.{Nodes}
use Rattle.gen1_outcomes.specs.Plain.{Leads, Walk}
use Rattle.gen1_outcomes.specs.Listing.{untold}
use Rattle.gen1_outcomes.specs.Logs.{place_at}
use Rattle.gen1_outcomes.specs.Middles.{EndsAt, PlaysOn}
use Rattle.gen1_outcomes.proofs.Logs.{leads_of, logged_by, notes_keep, same_place}
use Rattle.gen1_outcomes.proofs.Offered.{leads_by, way_as}
use Rattle.gen1_outcomes.proofs.Rolling.{RollWay, plays_roll, plays_second, plays_whole, roll_way}
use Rattle.gen1_outcomes.proofs.ways.Ways.play_on.Goals as goal

pub returns-in-Some-Second-clause-plays : goal.returns-in-Some-Second-clause-plays
returns-in-Some-Second-clause-plays c =
    let w = c.args.self.now in
    let middle = c.args.middle.now in
    let rest = c.in-Some-Second.rest in
    let parts = c.end_second.new.battle in
    let start = c.new-explorer.result in
    let last = c.end_second.new.random in
    let kept : middle.rest ≡ Some (lefts.Second rest) = search rules in
    let same = same_place _ _ start last c.end_second.ensures.steps ∙ c.new-explorer.ensures.same_reference in
    let plays : (name : GName) → c.of.result.nodes.ghost_name ≡ name → (nodes : Nodes)
    → (name ≡ last.notes.nodes.ghost_name → nodes ≡ last.notes.nodes.now) → PlaysOn w middle c.args.nodes.now nodes parts =
    λ name is nodes rests.
    let way =
    way_as _ _ _ _ _ nodes (λ (log : List Entry). (s : State) → Stands w.start s → AreOffered s w.one w.two → EndsAt s middle.bytes (lefts.Second rest) log parts)
    c.new-explorer.ensures.script (c.new-explorer.ensures.noting ∙ c.of.ensures.nodes)
    (sym (rests (sym (same ∙ is)))) (
      logged_by _ _ start last c.new-explorer.ensures.log c.draws_a_stream.ensures c.end_second.ensures.steps,
      λ s h o stream agrees p at on begun.
          let ends =
          c.end_second.ensures.ends (record { source = record { origin = start; stream = stream }; agrees = agrees }) (setting_of s) p
          (subst (λ (b : Parts). Within (setting_of s) b p.field) (sym c.write_to.ensures) at.within) at.ready on
          (ap (λ (l : List Entry). place_at l stream 0) c.new-explorer.ensures.log ∙ sym begun)
          in
          record { within = ends.0; written = tt },
    )
    in
    plays_second w middle c.args.nodes.now nodes parts rest kept c.path-path.result c.path-path.ensures way.0 way.1
    in
    plays _ c.of.ensures.same_reference _ (search rules)

pub returns-in-Some-Roll-clause-plays : goal.returns-in-Some-Roll-clause-plays
returns-in-Some-Roll-clause-plays c =
    let w = c.args.self.now in
    let middle = c.args.middle.now in
    let side = c.in-Some-Roll.side in
    let roll = c.in-Some-Roll.roll in
    let parts = c.end_roll.new.battle in
    let start = c.new-explorer.result in
    let last = c.end_roll.new.random in
    let kept : middle.rest ≡ Some (lefts.Roll side roll) = search rules in
    let same = same_place _ _ start last c.end_roll.ensures.steps ∙ c.new-explorer.ensures.same_reference in
    let plays : (name : GName) → c.of.result.nodes.ghost_name ≡ name → (nodes : Nodes)
    → (name ≡ last.notes.nodes.ghost_name → nodes ≡ last.notes.nodes.now) → PlaysOn w middle c.args.nodes.now nodes parts =
    λ name is nodes rests.
    let way =
    way_as _ _ _ _ _ nodes (λ (log : List Entry). RollWay middle.bytes side roll log parts) c.new-explorer.ensures.script
    (c.new-explorer.ensures.noting ∙ c.of.ensures.nodes) (sym (rests (sym (same ∙ is)))) (
      logged_by _ _ start last c.new-explorer.ensures.log c.draws_a_stream.ensures c.end_roll.ensures.steps,
      roll_way _ _ start last _ parts side roll middle.bytes c.write_to-in-Some-Roll.ensures c.new-explorer.ensures.log c.end_roll.ensures.plays,
    )
    in
    plays_roll w middle c.args.nodes.now nodes parts side roll kept c.path-path.result c.path-path.ensures way.0 way.1
    in
    plays _ c.of.ensures.same_reference _ (search rules)

pub returns-in-None-clause-plays : goal.returns-in-None-clause-plays
returns-in-None-clause-plays c =
    let inside = c.self.inside in
    let w = c.args.self.now in
    let middle = c.args.middle.now in
    let parts = c.play.new.battle in
    let start = c.new-explorer.result in
    let last = c.play.result in
    let same = same_place _ _ start last c.play.ensures.steps ∙ c.new-explorer.ensures.same_reference in
    let plays : (name : GName) → c.of.result.nodes.ghost_name ≡ name → (nodes : Nodes)
    → (name ≡ last.notes.nodes.ghost_name → nodes ≡ last.notes.nodes.now) → PlaysOn w middle c.args.nodes.now nodes parts =
    λ name is nodes rests.
    let way =
    way_as _ _ _ _ _ nodes (λ (log : List Entry). (s : State) → Stands w.start s → AreOffered s w.one w.two → Leads s w.one w.two log parts untold)
    c.new-explorer.ensures.script (c.new-explorer.ensures.noting ∙ c.of.ensures.nodes)
    (sym (rests (sym (same ∙ is)))) (
      logged_by _ _ start last c.new-explorer.ensures.log c.draws_a_stream.ensures c.play.ensures.steps,
      λ s.
          subst (λ (x : Walk). Stands x.start s → AreOffered s x.one x.two → Leads s x.one x.two last.log.entries parts untold) c.self.view_is (λ h.
          leads_by s c.copied-one.result c.copied-two.result inside.one inside.two last.log.entries parts untold c.copied-one.ensures c.copied-two.ensures (λ o.
          let played = c.play.ensures.played s (subst (λ (p : Parts). Stands p s) (sym c.copy_of.ensures) h) o in
          leads_of _ _ start last s c.copied-one.result c.copied-two.result parts untold c.new-explorer.ensures.log played.by_turn (λ apart. (played.by_step apart).0))),
    )
    in
    plays_whole w middle c.args.nodes.now nodes parts c.in-None.is c.path-path.result c.path-path.ensures way.0 way.1
    in
    plays _ c.of.ensures.same_reference _ (search rules)

pub returns-in-Some-Second-clause-options : goal.returns-in-Some-Second-clause-options
returns-in-Some-Second-clause-options c = let way = (returns-in-Some-Second-clause-plays c).way in notes_keep way.log _ _ way.noted ∙ c.requires.options

pub returns-in-Some-Roll-clause-options : goal.returns-in-Some-Roll-clause-options
returns-in-Some-Roll-clause-options c = let way = (returns-in-Some-Roll-clause-plays c).way in notes_keep way.log _ _ way.noted ∙ c.requires.options

pub returns-in-None-clause-options : goal.returns-in-None-clause-options
returns-in-None-clause-options c = let way = (returns-in-None-clause-plays c).way in notes_keep way.log _ _ way.noted ∙ c.requires.options
