use Rattle.std.proofs.Common.{List, ap, inl, subst, sym, ◌∙◌, ◌≡◌, rules}
use Rattle.std.specs.Borrow.{GName}
use Rattle.gen1_layout.specs.Parts.{Parts}
use Rattle.gen1_layout.specs.Shows.{Within, setting_of}
use Rattle.gen1_outcomes.specs.declared.log.Entry.{Entry}
use Rattle.gen1_outcomes.specs.declared.nodes.Nodes.{Nodes}
use Rattle.gen1_outcomes.specs.Logs.{place_at}
use Rattle.gen1_outcomes.specs.Middles.{ReachesFrom}
use Rattle.gen1_outcomes.proofs.Closing.{within_bytes}
use Rattle.gen1_outcomes.proofs.Logs.{logged_by, notes_keep, same_place}
use Rattle.gen1_outcomes.proofs.Offered.{way_as}
use Rattle.gen1_outcomes.proofs.ways.Ways.lead.Goals as goal

pub returns-in-Ok-clause-reaches : goal.returns-in-Ok-clause-reaches
returns-in-Ok-clause-reaches c =
    let start = c.new-explorer.result in
    let last = c.lead-left.new.random in
    let same = same_place _ _ start last c.lead-left.ensures.steps ∙ c.new-explorer.ensures.same_reference in
    let reaches : (name : GName) → c.of.result.nodes.ghost_name ≡ name → (nodes : Nodes)
    → (name ≡ last.notes.nodes.ghost_name → nodes ≡ last.notes.nodes.now) → ReachesFrom c.args.self.now c.args.middle.now c.args.nodes.now nodes c.then.result =
    λ name is nodes rests.
    let way =
    way_as _ _ _ _ _ nodes (λ (log : List Entry). Unit {0}) c.new-explorer.ensures.script
    (c.new-explorer.ensures.noting ∙ c.of.ensures.nodes) (sym (rests (sym (same ∙ is))))
    (logged_by _ _ start last c.new-explorer.ensures.log c.draws_a_stream.ensures c.lead-left.ensures.steps, tt)
    in
    record {
      rest = c.in-Some-Second.rest;
      was = search rules;
      path = c.path-path.result;
      is_path = c.path-path.ensures;
      left = c.lead-left.result;
      kept = c.then.ensures.rest;
      way = way.0;
      goes = λ s stream agrees p at on begun.
          let b =
          c.lead-left.ensures.leads (record { source = record { origin = start; stream = stream }; agrees = agrees }) (setting_of s) p
          (subst (λ (x : Parts). Within (setting_of s) x p.field) (sym c.write_to.ensures) at.within) at.ready on
          (ap (λ (l : List Entry). place_at l stream 0) c.new-explorer.ensures.log ∙ sym begun)
          in
          record {
            here = b.here;
            within = within_bytes (setting_of s) c.lead-left.new.battle c.then.result.bytes b.here.field c.then.ensures.bytes b.within;
            stands = b.stands;
            on = b.on;
            ready = b.ready;
            rests = b.rests;
          };
    }
    in
    reaches _ c.of.ensures.same_reference _ (search rules)

pub returns-in-Ok-clause-options : goal.returns-in-Ok-clause-options
returns-in-Ok-clause-options c = let way = (returns-in-Ok-clause-reaches c).way in notes_keep way.log _ _ way.noted ∙ c.requires.options

pub returns-in-Err-clause-options : goal.returns-in-Err-clause-options
returns-in-Err-clause-options c =
    let start = c.new-explorer.result in
    let last = c.lead-left.new.random in
    let way = logged_by _ _ start last c.new-explorer.ensures.log c.draws_a_stream.ensures c.lead-left.ensures.steps in
    let same = same_place _ _ start last c.lead-left.ensures.steps ∙ c.new-explorer.ensures.same_reference ∙ c.of.ensures.same_reference in
    ap (λ (x : Nodes). x.options) (c.nodes-1.given.1 (sym same)) ∙ notes_keep way.log _ _ way.noted
    ∙ ap (λ (x : Nodes). x.options) (c.new-explorer.ensures.noting ∙ c.of.ensures.nodes)
    ∙ c.requires.options

pub returns-in-Err-clause-large : goal.returns-in-Err-clause-large
returns-in-Err-clause-large c = inl c.in-Err.ensures.large
