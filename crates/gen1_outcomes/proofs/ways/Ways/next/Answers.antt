use Rattle.std.proofs.Common.{List, Some, false, not, rules, true, ◌≡◌, subst, sym, ◌∙◌}
use Rattle.std.specs.Borrow.{GName}
use Rattle.gen1_layout.specs.Parts.{Parts}
use Rattle.gen1_layout.specs.Shows.{Stands}
use Rattle.gen1_machine.specs.State.{State}
use Rattle.gen1_engine.specs.Update.{AreOffered}
use Rattle.gen1_outcomes.specs.declared.log.Entry.{Entry}
use Rattle.gen1_outcomes.specs.declared.nodes.Nodes.{Nodes}
use Rattle.gen1_outcomes.specs.Nodes.{AllDone, IsChance, LeadsOn}
use Rattle.gen1_outcomes.specs.Plain.{Leads, PlaysNext, Walk}
use Rattle.gen1_outcomes.proofs.Logs.{leads_of, logged_by, same_place}
use Rattle.gen1_outcomes.proofs.Offered.{can_follow, leads_by, way_as}
use Rattle.gen1_outcomes.proofs.Walking.{goes_past}
use Rattle.gen1_outcomes.proofs.ways.Ways.next.Goals as goal

pub returns-in-Some-clause-next : goal.returns-in-Some-clause-next
returns-in-Some-clause-next g c =
    let inside = c.self.inside in
    let old : Walk = record { start = inside.start; one = inside.one; two = inside.two; options = inside.options; nodes = inside.nodes; over = inside.over } in
    let new : Walk = record old { nodes = c.advance.new.self; over = not c.advance.result } in
    let parts = c.play.new.battle in
    let events = g.S.EventSink.tells c.play.new.events in
    let start = c.new-explorer.result in
    let last = c.play.result in
    let same = same_place _ _ start last c.play.ensures.steps ∙ c.new-explorer.ensures.same_reference in
    let plays : (name : GName) → c.of.result.nodes.ghost_name ≡ name → (nodes : Nodes) → IsChance nodes c.in-Some.chance
    → (name ≡ last.notes.nodes.ghost_name → nodes ≡ last.notes.nodes.now) → (c.advance.result ≡ true → LeadsOn nodes c.advance.new.self)
    → (c.advance.result ≡ false → AllDone nodes) → PlaysNext (Some c.in-Some.chance) old new parts events =
    λ name is nodes chance rests leads done.
    let way =
    way_as _ _ _ _ _ nodes (λ (log : List Entry). (s : State) → Stands inside.start s → AreOffered s inside.one inside.two → Leads s inside.one inside.two log parts events)
    c.new-explorer.ensures.script (c.new-explorer.ensures.noting ∙ c.of.ensures.nodes)
    (sym (rests (sym (same ∙ is)))) (
      logged_by _ _ start last c.new-explorer.ensures.log c.draws_a_stream.ensures c.play.ensures.steps,
      λ s h.
          leads_by s c.copied.result c.copied-2.result inside.one inside.two last.log.entries parts events c.copied.ensures c.copied-2.ensures (λ o.
          let played = c.play.ensures.played s (subst (λ (p : Parts). Stands p s) (sym c.copy_of.ensures) h) o in
          leads_of _ _ start last s c.copied.result c.copied-2.result parts events c.new-explorer.ensures.log played.by_turn (λ apart. (played.by_step apart).0)),
    )
    in
    goes_past nodes c.advance.new.self c.in-Some.chance old c.advance.result parts events chance c.if-self.false leads done
    (record { path = c.path-path.result; is_path = c.path-path.ensures; way = way.0; leads = way.1 })
    in
    subst (λ (w : Walk). PlaysNext (Some c.in-Some.chance) w new parts events) c.self.view_is
    (plays _ c.of.ensures.same_reference _ c.in-Some.ensures.some (search rules) c.advance.ensures.on c.advance.ensures.done)

pub returns-in-Some-clause-follows : goal.returns-in-Some-clause-follows
returns-in-Some-clause-follows g c s h o =
    let plays = (returns-in-Some-clause-next g c).3 in
    can_follow _ _ _ plays.way s _ _ _ _ (plays.leads s h o)
