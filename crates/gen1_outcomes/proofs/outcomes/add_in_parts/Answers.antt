use Rattle.std.proofs.Common.{arith, refl, ◌∙◌}
use Rattle.gen1_outcomes.proofs.Complete.{extends_those, going_first, going_on, gone, on_ok_map, past_kept}
use Rattle.gen1_outcomes.proofs.Lists.{on_ok_then, still_then, still_those}
use Rattle.gen1_outcomes.proofs.Positions.{reached_more}
use Rattle.gen1_outcomes.proofs.Shares.{leaves_then, on_ok_leaves, on_ok_stay, stay_then}
use Rattle.gen1_outcomes.proofs.Stages.{shared_all, shared_first, shared_next, shared_way, unit_begins, unit_next, unit_stays}
use Rattle.gen1_outcomes.proofs.Table.{indexed_kept, on_ok_then_indexed}
use Rattle.gen1_outcomes.proofs.outcomes.add_in_parts.Goals as goal

pub walk-init : goal.walk-init
walk-init c =
    record {
      reached = λ k past lt. absurd (omega (arith, lt, c.new-middles.ensures));
      within = omega arith;
      options = c.new-nodes.ensures.options ∙ c.options.ensures;
      every = λ exact least. going_first _ _ _ c.new-nodes.ensures.at c.new-nodes.ensures.empty;
      parts = λ exact least are.
          shared_first c.args.ways.now c.new-nodes.result c.new-middles.result c.args.tally.now c.args.successors.now c.new-nodes.ensures.empty c.new-middles.ensures;
      before = unit_begins c.new-nodes.result.before c.new-nodes.ensures.before;
      left_out = record { least = refl; none = λ l z. z };
      probable = λ are. are;
      takes = refl;
      indexed = λ are. are;
      follow = λ s h o each. each;
    }

pub go_on_from-requires-clause-reached : goal.go_on_from-requires-clause-reached
go_on_from-requires-clause-reached c =
    reached_more c.args.ways.now c.walk.nodes c.begin.new.nodes c.in-Some.middle c.make_room.new.middles c.keep.new.middles c.walk.invariant.options
    c.in-Some.ensures.fits c.in-Some.ensures.reaches c.requires.two c.in_ok-make_room.ensures.reached c.in_ok-keep.ensures.kept

pub walk-preserved : goal.walk-preserved
walk-preserved c =
    record {
      reached = reached_more c.args.ways.now c.walk.nodes c.begin.new.nodes c.in-Some.middle c.make_room.new.middles c.keep.new.middles c.walk.invariant.options
          c.in-Some.ensures.fits c.in-Some.ensures.reaches c.requires.two c.in_ok-make_room.ensures.reached c.in_ok-keep.ensures.kept;
      within = omega arith;
      options = (c.if-not-advance.ensures.on refl).options ∙ c.in-Some.ensures.options;
      every = λ exact least.
          going_on _ _ c.begin.new.nodes c.advance.new.self (c.if-not-advance.ensures.on refl) (c.if-not-advance.ensures.left refl)
          (past_kept c.args.ways.now c.walk.nodes c.begin.new.nodes c.in-Some.middle c.walk.middles c.make_room.new.middles c.keep.new.middles c.walk.tally.count c.make_room.new.tally.count
          c.keep.new.tally.count c.walk.successors c.make_room.new.successors c.keep.new.successors exact c.walk.invariant.options c.in-Some.ensures.fits c.in-Some.ensures.reaches
          (c.in_ok-make_room.ensures.every exact (c.walk.invariant.left_out.least ∙ least))
          (c.in_ok-keep.ensures.every (c.in_ok-make_room.ensures.left_out.least ∙ c.walk.invariant.left_out.least ∙ least))
          (extends_those c.make_room.new.tally.count c.keep.new.tally.count c.make_room.new.successors c.keep.new.successors c.in_ok-keep.ensures.count c.in_ok-keep.ensures.battles)
          (c.walk.invariant.every exact least));
      parts = λ exact least are.
          shared_next c.args.ways.now c.begin.new.nodes c.advance.new.self c.keep.new.middles c.args.tally.now c.keep.new.tally c.args.successors.now c.keep.new.successors
          (c.if-not-advance.ensures.on refl)
          (shared_way c.args.ways.now c.walk.nodes c.begin.new.nodes c.in-Some.middle c.walk.middles c.make_room.new.middles c.keep.new.middles
          c.args.tally.now c.walk.tally c.make_room.new.tally c.keep.new.tally
          c.args.successors.now c.walk.successors c.make_room.new.successors c.keep.new.successors
          c.in-Some.ensures.reaches exact c.walk.invariant.options c.in-Some.ensures.fits (c.walk.invariant.every exact least).at (c.walk.invariant.every exact least).known
          (c.if-not-is_past.ensures refl) c.in-Some.ensures.chance (unit_stays c.args.ways.now c.walk.nodes c.begin.new.nodes c.in-Some.middle c.in-Some.ensures.reaches c.walk.invariant.before)
          (c.in_ok-make_room.ensures.parts exact (c.walk.invariant.left_out.least ∙ least) (c.walk.invariant.indexed are))
          (c.in_ok-keep.ensures.every (c.in_ok-make_room.ensures.left_out.least ∙ c.walk.invariant.left_out.least ∙ least))
          (c.in_ok-keep.ensures.still (c.in_ok-make_room.ensures.left_out.least ∙ c.walk.invariant.left_out.least ∙ least)).0
          (c.in_ok-keep.ensures.still (c.in_ok-make_room.ensures.left_out.least ∙ c.walk.invariant.left_out.least ∙ least)).1
          (c.walk.invariant.parts exact least are));
      before = unit_next c.begin.new.nodes c.advance.new.self (c.if-not-advance.ensures.on refl)
          (unit_stays c.args.ways.now c.walk.nodes c.begin.new.nodes c.in-Some.middle c.in-Some.ensures.reaches c.walk.invariant.before);
      probable = stay_then c.args.tally.now c.make_room.new.tally c.keep.new.tally c.args.successors.now c.make_room.new.successors c.keep.new.successors
          (stay_then c.args.tally.now c.walk.tally c.make_room.new.tally c.args.successors.now c.walk.successors c.make_room.new.successors
          c.walk.invariant.probable c.in_ok-make_room.ensures.probable)
          c.in_ok-keep.ensures.probable;
      takes = omega (arith, c.walk.invariant.takes, c.make_room.ensures.takes, c.keep.ensures.count);
      indexed = λ are.
          indexed_kept c.make_room.new.table c.make_room.new.tally.count c.keep.new.tally.count c.make_room.new.successors c.keep.new.successors
          c.in_ok-keep.ensures.battles c.in_ok-keep.ensures.count (c.in_ok-make_room.ensures.indexed (c.walk.invariant.indexed are));
      left_out = leaves_then _ _ _ (leaves_then _ _ _ c.walk.invariant.left_out c.in_ok-make_room.ensures.left_out) c.in_ok-keep.ensures.left_out;
      follow = still_those c.args.ways.now c.args.tally.now.count c.make_room.new.tally.count c.keep.new.tally.count
          c.args.successors.now c.make_room.new.successors c.keep.new.successors
          (still_then c.args.ways.now c.args.ways.now c.args.tally.now.count c.walk.tally.count c.make_room.new.tally.count
          c.args.successors.now c.walk.successors c.make_room.new.successors refl c.walk.invariant.follow c.in_ok-make_room.ensures.follow)
          c.in_ok-keep.ensures.battles c.in_ok-keep.ensures.count;
    }

pub returns-then-not-advance-clause-follow : goal.returns-then-not-advance-clause-follow
returns-then-not-advance-clause-follow c =
    on_ok_then c.args.ways.now c.args.ways.now c.args.tally.now.count c.keep.new.tally.count c.go_on_from.new.tally.count
    c.args.successors.now c.keep.new.successors c.go_on_from.new.successors c.go_on_from.result refl
    (still_those c.args.ways.now c.args.tally.now.count c.make_room.new.tally.count c.keep.new.tally.count
    c.args.successors.now c.make_room.new.successors c.keep.new.successors
    (still_then c.args.ways.now c.args.ways.now c.args.tally.now.count c.walk.tally.count c.make_room.new.tally.count
    c.args.successors.now c.walk.successors c.make_room.new.successors refl c.walk.invariant.follow c.in_ok-make_room.ensures.follow)
    c.in_ok-keep.ensures.battles c.in_ok-keep.ensures.count)
    c.go_on_from.ensures.follow

pub returns-then-not-advance-clause-left_out : goal.returns-then-not-advance-clause-left_out
returns-then-not-advance-clause-left_out c =
    on_ok_leaves _ _ _ c.go_on_from.result
    (leaves_then _ _ _ (leaves_then _ _ _ c.walk.invariant.left_out c.in_ok-make_room.ensures.left_out) c.in_ok-keep.ensures.left_out)
    c.go_on_from.ensures.left_out

pub returns-then-not-advance-clause-probable : goal.returns-then-not-advance-clause-probable
returns-then-not-advance-clause-probable c =
    on_ok_stay c.args.tally.now c.keep.new.tally c.go_on_from.new.tally c.args.successors.now c.keep.new.successors c.go_on_from.new.successors c.go_on_from.result
    (stay_then c.args.tally.now c.make_room.new.tally c.keep.new.tally c.args.successors.now c.make_room.new.successors c.keep.new.successors
    (stay_then c.args.tally.now c.walk.tally c.make_room.new.tally c.args.successors.now c.walk.successors c.make_room.new.successors
    c.walk.invariant.probable c.in_ok-make_room.ensures.probable)
    c.in_ok-keep.ensures.probable)
    c.go_on_from.ensures.probable

pub returns-then-not-advance-clause-indexed : goal.returns-then-not-advance-clause-indexed
returns-then-not-advance-clause-indexed c =
    on_ok_then_indexed c.args.tally.now c.keep.new.tally c.go_on_from.new.tally c.args.successors.now c.keep.new.successors c.go_on_from.new.successors
    c.args.table.now c.make_room.new.table c.go_on_from.new.table c.go_on_from.result
    (λ are.
    indexed_kept c.make_room.new.table c.make_room.new.tally.count c.keep.new.tally.count c.make_room.new.successors c.keep.new.successors
    c.in_ok-keep.ensures.battles c.in_ok-keep.ensures.count (c.in_ok-make_room.ensures.indexed (c.walk.invariant.indexed are)))
    c.go_on_from.ensures.indexed

pub returns-then-not-advance-clause-every : goal.returns-then-not-advance-clause-every
returns-then-not-advance-clause-every c =
    on_ok_map c.go_on_from.result _ _ (λ lists exact least s of stream is.
    lists exact (c.in_ok-keep.ensures.left_out.least ∙ c.in_ok-make_room.ensures.left_out.least ∙ c.walk.invariant.left_out.least ∙ least) s of stream is
    (gone _ _ c.begin.new.nodes (c.if-not-advance.ensures.done refl)
    (past_kept c.args.ways.now c.walk.nodes c.begin.new.nodes c.in-Some.middle c.walk.middles c.make_room.new.middles c.keep.new.middles c.walk.tally.count c.make_room.new.tally.count
    c.keep.new.tally.count c.walk.successors c.make_room.new.successors c.keep.new.successors exact c.walk.invariant.options c.in-Some.ensures.fits c.in-Some.ensures.reaches
    (c.in_ok-make_room.ensures.every exact (c.walk.invariant.left_out.least ∙ least))
    (c.in_ok-keep.ensures.every (c.in_ok-make_room.ensures.left_out.least ∙ c.walk.invariant.left_out.least ∙ least))
    (extends_those c.make_room.new.tally.count c.keep.new.tally.count c.make_room.new.successors c.keep.new.successors c.in_ok-keep.ensures.count c.in_ok-keep.ensures.battles)
    (c.walk.invariant.every exact least))
    s of stream is))
    c.go_on_from.ensures.every

pub returns-then-not-advance-clause-weights : goal.returns-then-not-advance-clause-weights
returns-then-not-advance-clause-weights c =
    on_ok_map c.go_on_from.result _ _ (λ parts exact least are s of.
    shared_all c.args.ways.now c.begin.new.nodes c.keep.new.middles c.args.tally.now c.keep.new.tally c.go_on_from.new.tally
    c.args.successors.now c.keep.new.successors c.go_on_from.new.successors (c.if-not-advance.ensures.done refl)
    (shared_way c.args.ways.now c.walk.nodes c.begin.new.nodes c.in-Some.middle c.walk.middles c.make_room.new.middles c.keep.new.middles
    c.args.tally.now c.walk.tally c.make_room.new.tally c.keep.new.tally
    c.args.successors.now c.walk.successors c.make_room.new.successors c.keep.new.successors
    c.in-Some.ensures.reaches exact c.walk.invariant.options c.in-Some.ensures.fits (c.walk.invariant.every exact least).at (c.walk.invariant.every exact least).known
    (c.if-not-is_past.ensures refl) c.in-Some.ensures.chance (unit_stays c.args.ways.now c.walk.nodes c.begin.new.nodes c.in-Some.middle c.in-Some.ensures.reaches c.walk.invariant.before)
    (c.in_ok-make_room.ensures.parts exact (c.walk.invariant.left_out.least ∙ least) (c.walk.invariant.indexed are))
    (c.in_ok-keep.ensures.every (c.in_ok-make_room.ensures.left_out.least ∙ c.walk.invariant.left_out.least ∙ least))
    (c.in_ok-keep.ensures.still (c.in_ok-make_room.ensures.left_out.least ∙ c.walk.invariant.left_out.least ∙ least)).0
    (c.in_ok-keep.ensures.still (c.in_ok-make_room.ensures.left_out.least ∙ c.walk.invariant.left_out.least ∙ least)).1
    (c.walk.invariant.parts exact least are))
    (parts exact (c.in_ok-keep.ensures.left_out.least ∙ c.in_ok-make_room.ensures.left_out.least ∙ c.walk.invariant.left_out.least ∙ least)
    (indexed_kept c.make_room.new.table c.make_room.new.tally.count c.keep.new.tally.count c.make_room.new.successors c.keep.new.successors
    c.in_ok-keep.ensures.battles c.in_ok-keep.ensures.count (c.in_ok-make_room.ensures.indexed (c.walk.invariant.indexed are))))
    s of)
    c.go_on_from.ensures.parts
