use Rattle.std.proofs.Common.{arith, refl, ◌∙◌}
use Rattle.gen1_outcomes.specs.Weights.{IsTreeFrom}
use Rattle.gen1_outcomes.proofs.Complete.{extends_none, extends_then, going_first, going_on, gone}
use Rattle.gen1_outcomes.proofs.Leading.{counts_then, past_led, since_led, spent_led}
use Rattle.gen1_outcomes.proofs.Lists.{still_then}
use Rattle.gen1_outcomes.proofs.Positions.{reached_from}
use Rattle.gen1_outcomes.proofs.Shares.{leaves_then, stay_then}
use Rattle.gen1_outcomes.proofs.Weights.{adds_part, by_bytes, weighed_from, weighed_on}
use Rattle.gen1_outcomes.proofs.outcomes.finish_in_parts.Goals as goal

pub walk-init : goal.walk-init
walk-init c =
    record {
      every = λ exact least. going_first _ _ _ c.restart-nodes.ensures.at c.restart-nodes.ensures.empty;
      parts = λ exact least are s of. weighed_from by_bytes IsTreeFrom c.args.ways.now c.args.middle.now s c.args.tally.now c.args.successors.now c.restart-nodes.result c.restart-nodes.ensures.empty;
      since = c.restart-nodes.ensures.before;
      keeps = extends_none _ _;
      within = omega arith;
      options = c.restart-nodes.ensures.options;
      others = c.restart-others.ensures.options;
      left_out = record { least = refl; none = λ l z. z };
      probable = λ are. are;
      ways = (0, omega arith);
      takes = refl;
      indexed = λ are. are;
      follow = λ s h o each. each;
    }

pub finish_at_once-requires-clause-reached : goal.finish_at_once-requires-clause-reached
finish_at_once-requires-clause-reached c =
    reached_from c.args.ways.now c.args.middle.now c.walk.nodes c.lead.new.nodes c.in-Some.to c.walk.invariant.options c.in-Some.ensures.fits c.in-Some.ensures.reaches c.requires.reached

pub walk-preserved : goal.walk-preserved
walk-preserved c =
    record {
      every = λ exact least.
          going_on _ _ c.lead.new.nodes c.advance.new.self (c.if-not-advance.ensures.on refl) (c.if-not-advance.ensures.left refl)
          (past_led c.args.ways.now c.args.middle.now c.walk.nodes c.lead.new.nodes c.in-Some.to c.walk.tally.count c.finish_at_once.new.tally.count c.walk.successors c.finish_at_once.new.successors exact c.walk.invariant.options c.in-Some.ensures.fits
          c.in-Some.ensures.reaches c.in_ok-finish_at_once.ensures.keeps (λ s of. c.in_ok-finish_at_once.ensures.every exact (c.walk.invariant.left_out.least ∙ least) s of) (c.walk.invariant.every exact least));
      parts = λ exact least are s of.
          weighed_on by_bytes IsTreeFrom c.args.ways.now c.args.middle.now s c.args.tally.now c.args.successors.now c.lead.new.nodes c.advance.new.self c.finish_at_once.new.tally c.finish_at_once.new.successors
          (c.if-not-advance.ensures.on refl)
          (spent_led c.args.ways.now c.args.middle.now c.walk.nodes c.lead.new.nodes c.in-Some.to c.args.tally.now c.walk.tally c.finish_at_once.new.tally c.args.successors.now c.walk.successors c.finish_at_once.new.successors
          c.in-Some.ensures.reaches exact c.walk.invariant.options c.in-Some.ensures.fits (c.if-not-is_past.ensures refl) c.walk.invariant.since c.in-Some.ensures.chance c.requires.reached (c.walk.invariant.every exact least) s of
          (c.in_ok-finish_at_once.ensures.every exact (c.walk.invariant.left_out.least ∙ least) s of) (c.in_ok-finish_at_once.ensures.parts exact (c.walk.invariant.left_out.least ∙ least) (c.walk.invariant.indexed are) s of)
          (c.walk.invariant.parts exact least are s of));
      since = (c.if-not-advance.ensures.on refl).since ∙ since_led c.args.ways.now c.args.middle.now c.walk.nodes c.lead.new.nodes c.in-Some.to c.in-Some.ensures.reaches c.walk.invariant.since;
      keeps = extends_then c.args.tally.now.count c.walk.tally.count c.finish_at_once.new.tally.count c.args.successors.now c.walk.successors c.finish_at_once.new.successors
          c.walk.invariant.keeps c.in_ok-finish_at_once.ensures.keeps;
      within = omega arith;
      options = (c.if-not-advance.ensures.on refl).options ∙ c.in-Some.ensures.options;
      others = c.finish_at_once.ensures.options;
      left_out = leaves_then _ _ _ c.walk.invariant.left_out c.in_ok-finish_at_once.ensures.left_out;
      probable = stay_then c.args.tally.now c.walk.tally c.finish_at_once.new.tally c.args.successors.now c.walk.successors c.finish_at_once.new.successors c.walk.invariant.probable c.in_ok-finish_at_once.ensures.probable;
      ways = counts_then c.args.middle.now.ways c.in-Some.to.ways c.args.tally.now c.walk.tally c.finish_at_once.new.tally c.in-Some.ensures.ways c.walk.invariant.ways c.in_ok-finish_at_once.ensures.ways;
      takes = omega (arith, c.walk.invariant.takes, c.finish_at_once.ensures.takes);
      indexed = λ are. c.in_ok-finish_at_once.ensures.indexed (c.walk.invariant.indexed are);
      follow = still_then c.args.ways.now c.args.ways.now c.args.tally.now.count c.walk.tally.count c.finish_at_once.new.tally.count c.args.successors.now c.walk.successors c.finish_at_once.new.successors refl
          c.walk.invariant.follow c.in_ok-finish_at_once.ensures.follow;
    }

pub returns-then-not-advance-clause-follow : goal.returns-then-not-advance-clause-follow
returns-then-not-advance-clause-follow c =
    still_then c.args.ways.now c.args.ways.now c.args.tally.now.count c.walk.tally.count c.finish_at_once.new.tally.count c.args.successors.now c.walk.successors c.finish_at_once.new.successors refl
    c.walk.invariant.follow c.in_ok-finish_at_once.ensures.follow

pub returns-then-not-advance-clause-left_out : goal.returns-then-not-advance-clause-left_out
returns-then-not-advance-clause-left_out c = leaves_then _ _ _ c.walk.invariant.left_out c.in_ok-finish_at_once.ensures.left_out

pub returns-then-not-advance-clause-probable : goal.returns-then-not-advance-clause-probable
returns-then-not-advance-clause-probable c =
    stay_then c.args.tally.now c.walk.tally c.finish_at_once.new.tally c.args.successors.now c.walk.successors c.finish_at_once.new.successors c.walk.invariant.probable c.in_ok-finish_at_once.ensures.probable

pub returns-then-not-advance-clause-ways : goal.returns-then-not-advance-clause-ways
returns-then-not-advance-clause-ways c = counts_then c.args.middle.now.ways c.in-Some.to.ways c.args.tally.now c.walk.tally c.finish_at_once.new.tally c.in-Some.ensures.ways c.walk.invariant.ways c.in_ok-finish_at_once.ensures.ways

pub returns-then-not-advance-clause-indexed : goal.returns-then-not-advance-clause-indexed
returns-then-not-advance-clause-indexed c are = c.in_ok-finish_at_once.ensures.indexed (c.walk.invariant.indexed are)

pub returns-then-not-advance-clause-keeps : goal.returns-then-not-advance-clause-keeps
returns-then-not-advance-clause-keeps c =
    extends_then c.args.tally.now.count c.walk.tally.count c.finish_at_once.new.tally.count c.args.successors.now c.walk.successors c.finish_at_once.new.successors
    c.walk.invariant.keeps c.in_ok-finish_at_once.ensures.keeps

pub returns-then-not-advance-clause-every : goal.returns-then-not-advance-clause-every
returns-then-not-advance-clause-every c exact least =
    gone _ _ c.lead.new.nodes (c.if-not-advance.ensures.done refl)
    (past_led c.args.ways.now c.args.middle.now c.walk.nodes c.lead.new.nodes c.in-Some.to c.walk.tally.count c.finish_at_once.new.tally.count c.walk.successors c.finish_at_once.new.successors exact c.walk.invariant.options c.in-Some.ensures.fits
    c.in-Some.ensures.reaches c.in_ok-finish_at_once.ensures.keeps (λ s of. c.in_ok-finish_at_once.ensures.every exact (c.walk.invariant.left_out.least ∙ least) s of) (c.walk.invariant.every exact least))

pub returns-then-not-advance-clause-parts : goal.returns-then-not-advance-clause-parts
returns-then-not-advance-clause-parts c exact least are s of =
    adds_part by_bytes IsTreeFrom c.args.ways.now c.args.middle.now s c.args.tally.now c.args.successors.now c.lead.new.nodes c.finish_at_once.new.tally c.finish_at_once.new.successors (c.if-not-advance.ensures.done refl)
    (spent_led c.args.ways.now c.args.middle.now c.walk.nodes c.lead.new.nodes c.in-Some.to c.args.tally.now c.walk.tally c.finish_at_once.new.tally c.args.successors.now c.walk.successors c.finish_at_once.new.successors
    c.in-Some.ensures.reaches exact c.walk.invariant.options c.in-Some.ensures.fits (c.if-not-is_past.ensures refl) c.walk.invariant.since c.in-Some.ensures.chance c.requires.reached (c.walk.invariant.every exact least) s of
    (c.in_ok-finish_at_once.ensures.every exact (c.walk.invariant.left_out.least ∙ least) s of) (c.in_ok-finish_at_once.ensures.parts exact (c.walk.invariant.left_out.least ∙ least) (c.walk.invariant.indexed are) s of)
    (c.walk.invariant.parts exact least are s of))
