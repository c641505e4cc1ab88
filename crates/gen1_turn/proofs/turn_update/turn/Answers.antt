use Rattle.std.proofs.Common.{◌≡◌}
use Rattle.gen1_layout.proofs.Words.{false, refl, sym}
use Rattle.gen1_rolls.specs.Draws.{Since}
use Rattle.gen1_rolls.proofs.Standing.{stands_there}
use Rattle.gen1_machine.specs.declared.side.Side.TheVariants.{One}
use Rattle.gen1_machine.specs.declared.terms.Request.TheVariants as requests
use Rattle.gen1_machine.specs.Progress.{new_action, Progress}
use Rattle.gen1_machine.specs.Ruling.{ruling_of}
use Rattle.gen1_machine.specs.Turn.{turn}
use Rattle.gen1_machine.specs.Step.{close_update}
use Rattle.gen1_machine.proofs.ValidSteps.{both_plan, both-plan_of}
use Rattle.gen1_layout.specs.Shows.{Frame, setting_of}
use Rattle.gen1_layout.proofs.Storing.{within_of}
use Rattle.gen1_hits.specs.Knowing.{knowing, with_broke}
use Rattle.gen1_switching.specs.SwitchingIn.{drawing_on}
use Rattle.gen1_switching.proofs.Stepped.{planned, reopened, started}
use Rattle.gen1_turn.proofs.Living.{begins-whole, both-bring}
use Rattle.gen1_turn.proofs.turn_update.turn.Goals as goal

pub returns-clause-updated : goal.returns-clause-updated
unfolding close_update
returns-clause-updated t c s stands plays since drawn w at =
    let stream = since.source.stream in
    let one = c.args.one in let two = c.args.two in
    let apart : (requests.Pass ≡ requests.Move → ⊥) = λ e. cc in
    let v = started s requests.Move one two stands.valid apart plays in
    let g : Frame = record { setting = setting_of s; stream = stream; drawn = drawn; skips = false; action = new_action One } in
    let p = drawing_on stream drawn s in
    let shown = rw c.new-known.ensures at c.take_turn-cut.ensures.shown in
    let plans = both-plan_of one two s.field in
    let brings = both-bring s one two v plays in
    let earlier : Since t.R.Rolls.drawing c.take_turn-cut.new.random = record { source = since.source; agrees = rw c.by_side.view_is at since.agrees } in
    let a = shown earlier g p (both_plan one two s.field) (plans.0, plans.1, brings.0, brings.1, begins-whole s one two v plays) (planned s one two stream drawn v plays w) (
      false,
      record {
        shows = record { within = within_of _ s stands v.field; written = c.requires.empty; ends = refl; stream = refl; drawn = refl; skips = refl; action = refl };
        stands = at;
      },
    ) in
    let q : Progress = turn (ruling_of s.terms) one two p in
    let d = c.close_turn.ensures.shown (record (knowing (with_broke a.0.1.0 c.take_turn-cut.new.known) g) { drawn = q.drawn }) (record q { stopped = false }) refl a.1 (reopened a.0.1.1.shows) in
    record { within = d.1.within; written = d.1.written; stands = rw c.by_side.view_is (stands_there t.R.Rolls.drawing since.source _ a.0.1.1.stands (sym d.1.drawn)) }
