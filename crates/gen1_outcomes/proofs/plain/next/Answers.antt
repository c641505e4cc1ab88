use Rattle.std.proofs.Common.{Bool, List, Some, ◌⊎◌, ◌≡◌, ap, not, refl, rules, subst, sym, ◌∙◌}
use Rattle.std.specs.Borrow.{GName}
use Rattle.std.specs.Int.{from_bool}
use Rattle.gen1_machine.specs.declared.side.Choice.{Choice}
use Rattle.gen1_machine.specs.State.{State}
use Rattle.gen1_layout.specs.Parts.{Parts}
use Rattle.gen1_layout.specs.Shows.{Stands}
use Rattle.gen1_engine.specs.Replay.{choices_at}
use Rattle.gen1_engine.specs.Update.{AreOffered}
use Rattle.gen1_outcomes.specs.declared.log.Entry.{Entry}
use Rattle.gen1_outcomes.specs.declared.nodes.Nodes.{Nodes}
use Rattle.gen1_outcomes.specs.declared.plain.PlainWalk.{PlainWalk}
use Rattle.gen1_outcomes.specs.Plain.{Leads, EndsWith, GoesOnTo, PlaysPlain}
use Rattle.gen1_outcomes.specs.Nodes.{IsChance}
use Rattle.gen1_outcomes.proofs.Logs.{leads_of, logged_by, same_place}
use Rattle.gen1_outcomes.proofs.Offered.{can_follow, leads_pair, way_as}
use Rattle.gen1_outcomes.proofs.Walking.{next_is}
use Rattle.gen1_outcomes.proofs.plain.next.Goals as goal

pub returns-in-Some-chance-clause-underway : goal.returns-in-Some-chance-clause-underway
returns-in-Some-chance-clause-underway g c ne =
    record {
      going = c.if-walk-ne0.false;
      pair = (c.in-Some.one, c.in-Some-from_byte.two);
      choices = rw (sym c.in-Some.ensures.value, sym c.in-Some-from_byte.ensures.value) refl;
      has_draws = c.if-not-read_nodes.ensures.reads refl;
    }

pub returns-in-None-clause-underway : goal.returns-in-None-clause-underway
returns-in-None-clause-underway g c ne =
    record {
      going = c.if-walk-ne0.false;
      pair = (c.in-Some.one, c.in-Some-from_byte.two);
      choices = rw (sym c.in-Some.ensures.value, sym c.in-Some-from_byte.ensures.value) refl;
      has_draws = c.if-not-read_nodes.ensures.reads refl;
    }

pub returns-in-Some-chance-clause-plays : goal.returns-in-Some-chance-clause-plays
returns-in-Some-chance-clause-plays g c =
    let walk = c.args.walk.now in
    let one = c.in-Some.one in
    let two = c.in-Some-from_byte.two in
    let parts = c.play.new.battle in
    let events = g.S.EventSink.tells c.play.new.events in
    let start = c.new-explorer.result in
    let last = c.play.result in
    let before = c.read_nodes.new.nodes in
    let same = same_place _ _ start last c.play.ensures.steps ∙ c.new-explorer.ensures.same_reference in
    let plays : (name : GName) → c.of.result.nodes.ghost_name ≡ name → (nodes : Nodes) → IsChance nodes c.in-Some-chance.chance
    → (name ≡ last.notes.nodes.ghost_name → nodes ≡ last.notes.nodes.now) → (new : PlainWalk) → GoesOnTo nodes new ⊎ EndsWith nodes new
    → PlaysPlain c.in-Some-chance.chance walk new parts events =
    λ name is nodes chance rests new next.
    let way =
    way_as _ _ _ _ _ nodes (λ (log : List Entry). (s : State) → Stands walk.battle s → (pair : Choice × Choice)
    → choices_at (walk.one, walk.two) ≡ Some pair → AreOffered s pair.0 pair.1 → Leads s pair.0 pair.1 log parts events)
    c.new-explorer.ensures.script (c.new-explorer.ensures.noting ∙ c.of.ensures.nodes)
    (sym (rests (sym (same ∙ is)))) (
      logged_by _ _ start last c.new-explorer.ensures.log c.draws_a_stream.ensures c.play.ensures.steps,
      λ s h pair read.
          leads_pair s (walk.one, walk.two) one two pair last.log.entries parts events c.in-Some.ensures.value c.in-Some-from_byte.ensures.value read (λ o.
          let played = c.play.ensures.played s (subst (λ (p : Parts). Stands p s) (sym c.copy_of.ensures) h) o in
          leads_of _ _ start last s one two parts events c.new-explorer.ensures.log played.by_turn (λ apart. (played.by_step apart).0)),
    )
    in
    record {
      before = before;
      length = c.if-not-read_nodes.ensures.length refl;
      draws = c.if-not-read_nodes.ensures.draws refl;
      path = c.path-path.result;
      is_path = c.path-path.ensures;
      nodes = nodes;
      chance = chance;
      next = next;
      way = way.0;
      leads = way.1;
    }
    in
    plays _ c.of.ensures.same_reference _ c.in-Some-chance.ensures.some (search rules) _
    (next_is _ c.advance.new.self _ c.advance.result c.advance.ensures.on c.advance.ensures.done
    (λ on. c.from-walk.ensures ∙ ap (λ (b : Bool). from_bool (not b)) on) (λ off. c.from-walk.ensures ∙ ap (λ (b : Bool). from_bool (not b)) off)
    refl c.write_nodes.ensures.draws)

pub returns-in-Some-chance-clause-chance : goal.returns-in-Some-chance-clause-chance
returns-in-Some-chance-clause-chance g c =
    let plays = returns-in-Some-chance-clause-plays g c in record { nodes = plays.nodes; chance = plays.chance; next = plays.next }

pub returns-in-Some-chance-clause-follows : goal.returns-in-Some-chance-clause-follows
returns-in-Some-chance-clause-follows g c s h pair is offered =
    let plays = returns-in-Some-chance-clause-plays g c in
    can_follow _ _ _ plays.way s pair.0 pair.1 _ _ (plays.leads s h pair is offered)
