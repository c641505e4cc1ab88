use Rattle.std.proofs.Common.{List, [], ap, subst, sym, ◌∙◌, ◌≡◌, rules}
use Rattle.std.specs.Borrow.{GName}
use Rattle.gen1_machine.specs.declared.side.Choice.TheVariants as choices
use Rattle.gen1_machine.specs.declared.side.Side.TheVariants.{One, Two}
use Rattle.gen1_machine.specs.declared.terms.Request.TheVariants.{Move}
use Rattle.gen1_machine.specs.Picks.{pick_in}
use Rattle.gen1_machine.specs.Ruling.{ruling_of}
use Rattle.gen1_machine.specs.Turn.{turn}
use Rattle.gen1_layout.specs.Parts.{parts_of}
use Rattle.gen1_layout.specs.Shows.{Stands, setting_of}
use Rattle.gen1_switching.specs.SwitchingIn.{Plays, drawing_on}
use Rattle.gen1_outcomes.specs.declared.log.Entry.{Entry}
use Rattle.gen1_outcomes.specs.declared.nodes.Nodes.{Nodes}
use Rattle.gen1_outcomes.specs.Beginning.{Begins, unflinched}
use Rattle.gen1_outcomes.specs.Plain.{Walk}
use Rattle.gen1_outcomes.specs.Logs.{logged, place_at}
use Rattle.gen1_outcomes.specs.Middles.{Reaches}
use Rattle.gen1_outcomes.proofs.Closing.{within_bytes}
use Rattle.gen1_outcomes.proofs.Logs.{logged_by, notes_keep, same_place}
use Rattle.gen1_outcomes.proofs.Offered.{way_as}
use Rattle.gen1_outcomes.proofs.ways.Ways.begin.Goals as goal

pub returns-in-Some-clause-reaches : goal.returns-in-Some-clause-reaches
returns-in-Some-clause-reaches c =
    let path = c.path-path.result in
    let start = c.new-explorer.result in
    let last = c.begin-rest.new.random in
    let same = same_place _ _ start last c.begin-rest.ensures.steps ∙ c.new-explorer.ensures.same_reference in
    let reaches : (name : GName) → c.of.result.nodes.ghost_name ≡ name → (nodes : Nodes)
    → (name ≡ last.notes.nodes.ghost_name → nodes ≡ last.notes.nodes.now) → Reaches c.args.self.now c.args.nodes.now nodes c.new.result =
    λ name is nodes rests.
    let way =
    way_as _ _ _ _ _ nodes (λ (log : List Entry). Unit {0}) c.new-explorer.ensures.script
    (c.new-explorer.ensures.noting ∙ c.of.ensures.nodes) (sym (rests (sym (same ∙ is))))
    (logged_by _ _ start last c.new-explorer.ensures.log c.draws_a_stream.ensures c.begin-rest.ensures.steps, tt)
    in
    record {
      path = path;
      is_path = c.path-path.ensures;
      rest = c.begin-rest.result;
      kept = c.new.ensures.rest;
      way = way.0;
      begins = λ s j k stands plays ej ek stream agrees.
          let p = drawing_on stream 0 s in
          let begun = rw (c.copy_of-battle.ensures, c.copied-one.ensures, c.copied-two.ensures) at c.begin-rest.ensures.begins in
          subst (λ (w : Walk). Stands w.start s → Plays s Move w.one w.two → w.one ≡ choices.Move j → w.two ≡ choices.Move k
          → Begins logged (record { origin = []; stream = stream }) (setting_of s) (parts_of c.new.result.bytes) last.log.entries c.begin-rest.result
          (pick_in j One (unflinched p).field) (pick_in k Two (unflinched p).field) p (turn (ruling_of s.terms) w.one w.two p)) c.self.view_is
          (λ at going first second.
          let b = begun s j k at going first second (record { source = record { origin = start; stream = stream }; agrees = agrees }) 0 agrees.is
          (ap (λ (l : List Entry). place_at l stream 0) c.new-explorer.ensures.log)
          in
          record {
            here = b.here;
            within = within_bytes (setting_of s) c.begin-rest.new.battle c.new.result.bytes b.here.field c.new.ensures.bytes b.within;
            stands = b.stands;
            drawn = b.drawn;
            first = b.first;
            goes_on = b.goes_on;
            on = b.on;
            ready = b.ready;
            pick = b.pick;
            rests = b.rests;
          })
          stands plays ej ek;
    }
    in
    reaches _ c.of.ensures.same_reference _ (search rules)

pub returns-in-Some-clause-options : goal.returns-in-Some-clause-options
returns-in-Some-clause-options c = let way = (returns-in-Some-clause-reaches c).way in notes_keep way.log _ _ way.noted ∙ c.requires.options

pub returns-in-None-clause-options : goal.returns-in-None-clause-options
returns-in-None-clause-options c =
    let start = c.new-explorer.result in
    let last = c.begin-rest.new.random in
    let way = logged_by _ _ start last c.new-explorer.ensures.log c.draws_a_stream.ensures c.begin-rest.ensures.steps in
    let same = same_place _ _ start last c.begin-rest.ensures.steps ∙ c.new-explorer.ensures.same_reference ∙ c.of.ensures.same_reference in
    ap (λ (x : Nodes). x.options) (c.nodes-1.given.1 (sym same)) ∙ notes_keep way.log _ _ way.noted
    ∙ ap (λ (x : Nodes). x.options) (c.new-explorer.ensures.noting ∙ c.of.ensures.nodes)
    ∙ c.requires.options
