use Rattle.std.proofs.Common.{arith, refl, subst, sym, ◌∙◌, ℕ}
use Rattle.gen1_outcomes.specs.Middles.{IsIndexed}
use Rattle.gen1_outcomes.proofs.Complete.{extends_more, extends_none, extends_then, going_first, going_on}
use Rattle.gen1_outcomes.proofs.Lists.{still_more}
use Rattle.gen1_outcomes.proofs.PlayedLists.{adds_played, listed_by, played_more}
use Rattle.gen1_outcomes.proofs.Positions.{follows_on}
use Rattle.gen1_outcomes.proofs.Shares.{counts_more, leaves_then, stay_more}
use Rattle.gen1_outcomes.proofs.Weights.{IsTreePlayed, adds_part, by_test, since_plays, spent_more, weighed_from, weighed_on}
use Rattle.gen1_outcomes.proofs.outcomes.finish_at_once.Goals as goal

pub walk-init : goal.walk-init
walk-init c =
    record {
      every = λ exact least. going_first _ _ _ c.clear.ensures.at c.clear.ensures.empty;
      parts = λ exact least are s of. weighed_from by_test IsTreePlayed c.args.ways.now c.args.middle.now s c.args.tally.now c.args.successors.now c.clear.new.self c.clear.ensures.empty;
      since = c.clear.ensures.before;
      keeps = extends_none _ _;
      within = omega arith;
      options = c.clear.ensures.options ∙ c.requires.options;
      left_out = record { least = refl; none = λ l z. z };
      probable = λ are. are;
      ways = (0, omega arith);
      takes = refl;
      indexed = λ are. are;
      follow = λ s h o each. each;
    }

pub walk-preserved : goal.walk-preserved
walk-preserved c =
    record {
      every = λ exact least.
          going_on _ _ c.go_on.new.nodes c.advance.new.self (c.if-not-advance.ensures.on refl) (c.if-not-advance.ensures.left refl)
          (played_more c.args.ways.now c.args.middle.now c.walk.nodes c.go_on.new.nodes c.go_on.new.battle c.in_ok-chance.chance c.args.tally.now c.walk.tally c.add.new.tally
          c.count_ways.new.self c.walk.successors c.add.new.successors exact least c.walk.invariant.left_out.least c.walk.invariant.options c.in_ok-chance.ensures.fits
          c.in_ok-chance.ensures.plays c.in_ok-add.ensures.adds c.in_ok-add.ensures.first c.in_ok-count_ways.ensures.count (c.walk.invariant.every exact least));
      parts = λ exact least are s of.
          weighed_on by_test IsTreePlayed c.args.ways.now c.args.middle.now s c.args.tally.now c.args.successors.now c.go_on.new.nodes c.advance.new.self c.count_ways.new.self c.add.new.successors
          (c.if-not-advance.ensures.on refl)
          (spent_more c.args.ways.now c.args.middle.now c.walk.nodes c.go_on.new.nodes c.go_on.new.battle c.in_ok-chance.chance c.args.tally.now c.walk.tally c.add.new.tally
          c.count_ways.new.self c.args.successors.now c.walk.successors c.add.new.successors c.add.new.table exact least c.walk.invariant.left_out.least c.walk.invariant.options
          c.in_ok-chance.ensures.fits c.walk.invariant.since c.in_ok-chance.ensures.plays c.in_ok-chance.ensures.chance c.in_ok-add.ensures.adds c.in_ok-add.ensures.first
          (c.in_ok-add.ensures.indexed (c.walk.invariant.indexed are)) c.in_ok-count_ways.ensures.counts (c.walk.invariant.every exact least).at (c.walk.invariant.every exact least).known s of
          (c.walk.invariant.parts exact least are s of));
      since = (c.if-not-advance.ensures.on refl).since
          ∙ since_plays c.args.ways.now c.args.middle.now c.walk.nodes c.go_on.new.nodes c.go_on.new.battle c.in_ok-chance.ensures.plays c.walk.invariant.since;
      keeps = extends_then c.args.tally.now.count c.walk.tally.count c.count_ways.new.self.count c.args.successors.now c.walk.successors c.add.new.successors c.walk.invariant.keeps
          (extends_more c.go_on.new.battle c.in_ok-chance.chance c.walk.tally c.add.new.tally c.count_ways.new.self c.walk.successors c.add.new.successors c.in_ok-add.ensures.adds
          c.in_ok-add.ensures.first c.in_ok-count_ways.ensures.count);
      within = omega arith;
      options = (c.if-not-advance.ensures.on refl).options ∙ c.in_ok-chance.ensures.options;
      probable = stay_more c.go_on.new.battle c.in_ok-chance.chance c.args.tally.now c.walk.tally c.add.new.tally c.count_ways.new.self
          c.args.successors.now c.walk.successors c.add.new.successors c.args.middle.now.ways c.walk.invariant.probable c.args.middle.now.some
          c.in_ok-add.ensures.adds c.in_ok-count_ways.ensures.counts;
      ways = counts_more c.go_on.new.battle c.in_ok-chance.chance c.args.tally.now c.walk.tally c.add.new.tally c.count_ways.new.self
          c.walk.successors c.add.new.successors c.args.middle.now.ways c.walk.invariant.ways c.in_ok-add.ensures.adds c.in_ok-count_ways.ensures.counts;
      takes = omega (arith, c.walk.invariant.takes, c.add.ensures.takes, c.count_ways.ensures.count);
      indexed = λ are.
          subst (λ (n : ℕ). IsIndexed c.add.new.table n c.add.new.successors) (sym c.in_ok-count_ways.ensures.count)
          (c.in_ok-add.ensures.indexed (c.walk.invariant.indexed are));
      left_out = leaves_then _ _ _ (leaves_then _ _ _ c.walk.invariant.left_out c.in_ok-add.ensures.left_out) c.in_ok-count_ways.ensures.left_out;
      follow = still_more c.args.ways.now c.args.ways.now c.go_on.new.battle c.args.tally.now.count c.walk.tally.count c.add.new.tally.count c.count_ways.new.self.count
          c.args.successors.now c.walk.successors c.add.new.successors refl c.walk.invariant.follow
          (follows_on c.args.ways.now c.args.middle.now c.walk.nodes c.go_on.new.nodes c.go_on.new.battle c.requires.reached c.walk.invariant.options
          c.in_ok-chance.ensures.fits c.in_ok-chance.ensures.plays)
          c.in_ok-add.ensures.battles c.in_ok-count_ways.ensures.count;
    }

pub returns-then-not-advance-clause-follow : goal.returns-then-not-advance-clause-follow
returns-then-not-advance-clause-follow c =
    still_more c.args.ways.now c.args.ways.now c.go_on.new.battle c.args.tally.now.count c.walk.tally.count c.add.new.tally.count c.count_ways.new.self.count
    c.args.successors.now c.walk.successors c.add.new.successors refl c.walk.invariant.follow
    (follows_on c.args.ways.now c.args.middle.now c.walk.nodes c.go_on.new.nodes c.go_on.new.battle c.requires.reached c.walk.invariant.options
    c.in_ok-chance.ensures.fits c.in_ok-chance.ensures.plays)
    c.in_ok-add.ensures.battles c.in_ok-count_ways.ensures.count

pub returns-then-not-advance-clause-left_out : goal.returns-then-not-advance-clause-left_out
returns-then-not-advance-clause-left_out c =
    leaves_then _ _ _ (leaves_then _ _ _ c.walk.invariant.left_out c.in_ok-add.ensures.left_out) c.in_ok-count_ways.ensures.left_out

pub returns-then-not-advance-clause-probable : goal.returns-then-not-advance-clause-probable
returns-then-not-advance-clause-probable c =
    stay_more c.go_on.new.battle c.in_ok-chance.chance c.args.tally.now c.walk.tally c.add.new.tally c.count_ways.new.self
    c.args.successors.now c.walk.successors c.add.new.successors c.args.middle.now.ways c.walk.invariant.probable c.args.middle.now.some
    c.in_ok-add.ensures.adds c.in_ok-count_ways.ensures.counts

pub returns-then-not-advance-clause-ways : goal.returns-then-not-advance-clause-ways
returns-then-not-advance-clause-ways c =
    counts_more c.go_on.new.battle c.in_ok-chance.chance c.args.tally.now c.walk.tally c.add.new.tally c.count_ways.new.self
    c.walk.successors c.add.new.successors c.args.middle.now.ways c.walk.invariant.ways c.in_ok-add.ensures.adds c.in_ok-count_ways.ensures.counts

pub returns-then-not-advance-clause-indexed : goal.returns-then-not-advance-clause-indexed
returns-then-not-advance-clause-indexed c are =
    subst (λ (n : ℕ). IsIndexed c.add.new.table n c.add.new.successors) (sym c.in_ok-count_ways.ensures.count)
    (c.in_ok-add.ensures.indexed (c.walk.invariant.indexed are))

pub returns-then-not-advance-clause-keeps : goal.returns-then-not-advance-clause-keeps
returns-then-not-advance-clause-keeps c =
    extends_then c.args.tally.now.count c.walk.tally.count c.count_ways.new.self.count c.args.successors.now c.walk.successors c.add.new.successors c.walk.invariant.keeps
    (extends_more c.go_on.new.battle c.in_ok-chance.chance c.walk.tally c.add.new.tally c.count_ways.new.self c.walk.successors c.add.new.successors c.in_ok-add.ensures.adds
    c.in_ok-add.ensures.first c.in_ok-count_ways.ensures.count)

pub returns-then-not-advance-clause-every : goal.returns-then-not-advance-clause-every
returns-then-not-advance-clause-every c exact least =
    listed_by c.args.ways.now c.args.middle.now c.go_on.new.nodes c.count_ways.new.self.count c.add.new.successors (c.if-not-advance.ensures.done refl) c.requires.reached
    (played_more c.args.ways.now c.args.middle.now c.walk.nodes c.go_on.new.nodes c.go_on.new.battle c.in_ok-chance.chance c.args.tally.now c.walk.tally c.add.new.tally
    c.count_ways.new.self c.walk.successors c.add.new.successors exact least c.walk.invariant.left_out.least c.walk.invariant.options c.in_ok-chance.ensures.fits
    c.in_ok-chance.ensures.plays c.in_ok-add.ensures.adds c.in_ok-add.ensures.first c.in_ok-count_ways.ensures.count (c.walk.invariant.every exact least))

pub returns-then-not-advance-clause-parts : goal.returns-then-not-advance-clause-parts
returns-then-not-advance-clause-parts c exact least are s of =
    adds_played c.args.ways.now c.args.middle.now s c.args.tally.now c.count_ways.new.self c.args.successors.now c.add.new.successors c.requires.reached of
    (listed_by c.args.ways.now c.args.middle.now c.go_on.new.nodes c.count_ways.new.self.count c.add.new.successors (c.if-not-advance.ensures.done refl) c.requires.reached
    (played_more c.args.ways.now c.args.middle.now c.walk.nodes c.go_on.new.nodes c.go_on.new.battle c.in_ok-chance.chance c.args.tally.now c.walk.tally c.add.new.tally
    c.count_ways.new.self c.walk.successors c.add.new.successors exact least c.walk.invariant.left_out.least c.walk.invariant.options c.in_ok-chance.ensures.fits
    c.in_ok-chance.ensures.plays c.in_ok-add.ensures.adds c.in_ok-add.ensures.first c.in_ok-count_ways.ensures.count (c.walk.invariant.every exact least))
    s of)
    (adds_part by_test IsTreePlayed c.args.ways.now c.args.middle.now s c.args.tally.now c.args.successors.now c.go_on.new.nodes c.count_ways.new.self c.add.new.successors
    (c.if-not-advance.ensures.done refl)
    (spent_more c.args.ways.now c.args.middle.now c.walk.nodes c.go_on.new.nodes c.go_on.new.battle c.in_ok-chance.chance c.args.tally.now c.walk.tally c.add.new.tally
    c.count_ways.new.self c.args.successors.now c.walk.successors c.add.new.successors c.add.new.table exact least c.walk.invariant.left_out.least c.walk.invariant.options
    c.in_ok-chance.ensures.fits c.walk.invariant.since c.in_ok-chance.ensures.plays c.in_ok-chance.ensures.chance c.in_ok-add.ensures.adds c.in_ok-add.ensures.first
    (c.in_ok-add.ensures.indexed (c.walk.invariant.indexed are)) c.in_ok-count_ways.ensures.counts (c.walk.invariant.every exact least).at
    (c.walk.invariant.every exact least).known s of (c.walk.invariant.parts exact least are s of)))
