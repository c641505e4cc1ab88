use Rattle.std.proofs.Common.{◌≡◌, ap, subst}
use Rattle.std.proofs.lemmas.Bool.{false≢true}
use Rattle.gen1_layout.proofs.Words.{Bool, Frame, Parts, Phase, Progress, Shows, ShowsDrawn, Side, drawn_as_list, drawn_from_list, false, on_conditions, quietly, refl, still, sym, then-goes, true, ℕ, ◌∙◌}
use Rattle.gen1_rolls.specs.Draws.{Drawing, Source, by_then}
use Rattle.gen1_machine.specs.declared.side.Pick.{Pick}
use Rattle.gen1_machine.specs.declared.side.Side.TheVariants.{One, Two}
use Rattle.gen1_machine.specs.declared.terms.Request.TheVariants as requests
use Rattle.gen1_machine.specs.Conditions.{without_flinch}
use Rattle.gen1_machine.specs.Falls.{close}
use Rattle.gen1_machine.specs.Plans.{with_plan, Any, FitsPick, Plan}
use Rattle.gen1_machine.specs.Progress.{new_action}
use Rattle.gen1_machine.specs.ResidualDamage.{residual}
use Rattle.gen1_machine.specs.Ruling.{ruling_of}
use Rattle.gen1_machine.specs.Sides.{other}
use Rattle.gen1_machine.specs.Step.{close_update}
use Rattle.gen1_machine.specs.TurnOrder.{in_order}
use Rattle.gen1_machine.specs.Turn.{Acts, both_act, both_pick, do_part, do_parts, of_side, set_picked, turn}
use Rattle.gen1_machine.proofs.ValidSteps.{act_part, both_plan, both-plan_of, set_picked-keeps, suffers_part, with_plan-other}
use Rattle.gen1_layout.specs.Shows.{setting_of}
use Rattle.gen1_layout.proofs.Storing.{within_of}
use Rattle.gen1_hits.specs.declared.known.Known.{Known}
use Rattle.gen1_hits.specs.Knowing.{ShowsOver, knowing, nothing_yet, with_broke}
use Rattle.gen1_switching.specs.SwitchingIn.{drawing_on}
use Rattle.gen1_hits.specs.Planned.{Follows}
use Rattle.gen1_switching.proofs.Stepped.{planned, reopened, started}
use Rattle.gen1_turn.specs.TwoParts.{PartLeaves}
use Rattle.gen1_turn.proofs.Turns.{flinch-planned, picked-both, picked-fits, play-moves}
use Rattle.gen1_outcomes.specs.Beginning.{Begins, picked, second_action, unflinched}
use Rattle.gen1_outcomes.specs.Listing.{untold}
use Rattle.gen1_outcomes.proofs.Closing.{IsClosed, closed}
use Rattle.gen1_outcomes.proofs.beginning.begin.Goals as goal

other-twice : (s : Side) → other (other s) ≡ s
other-twice One = refl
other-twice Two = refl

fits-of : (s : Side) (one two : Pick) (plan : Side → Plan) → FitsPick one (plan One) → FitsPick two (plan Two) → FitsPick (of_side s one two) (plan s)
fits-of One one two plan first second = first
fits-of Two one two plan first second = second

-- Where a turn is after its first action.
module _ {A : Type 0} {d : Drawing A} {source : Source A} where
  halfway : (k : Known) (g : Frame) (parts parts' : Parts) (now : A) (falls : Bool) (first : Side) (one two : Pick) (p q whole : Progress) (n : ℕ) (plan : Side → Plan)
      → whole ≡ do_parts (ruling_of g.setting.terms) (both_act one two first) q
      → ((begins : Side → Phase) → in_order begins (picked one two p) ≡ begins first (record (picked one two p) { drawn = n }))
      → FitsPick one (plan One) → FitsPick two (plan Two) → Follows g.setting.terms plan q
      → PartLeaves (λ b x. ShowsOver d source k g parts untold now b x) falls (do_part (ruling_of g.setting.terms) (Acts first (of_side first one two))) first q
      → (falls ≡ true → (h : Frame) (x : Progress) → h.action.side ≡ k.side → Shows h parts untold false x
      → (ends : Bool) × Shows h parts' untold ends (close (ruling_of h.setting.terms) x.field.outcome x))
      → (falls ≡ false → parts' ≡ parts)
      → Begins d source g.setting parts' now (record { second = other first; pick = of_side (other first) one two; skips = k.skips; is_cut = falls }) one two p whole
  unfolding do_parts do_part
  halfway k g parts parts' now true first one two p q whole n plan is order mine others v left closes still =
      let r = ruling_of g.setting.terms in
      let a = left (second_action r (other first) (of_side (other first) one two)) in
      let turn : Progress = do_parts r (both_act one two first) q in
      let h : Frame = record (knowing (with_broke a.1.0 k) g) { stream = source.stream; drawn = turn.drawn } in
      let x : IsClosed d source k g parts' now (close_update r whole) =
      rw is (closed k g a.0 parts' untold turn a.1 (closes refl h (record turn { stopped = false }) refl (reopened {g = h} a.1.1.shows)))
      in
      record {
        here = close_update r whole;
        within = x.within;
        stands = x.stands;
        drawn = n;
        first = λ begins. rw (other-twice first) (order begins);
        goes_on = record {
          skips = x.skips;
          cut = λ e. refl;
          uncut = λ e. absurd (false≢true (sym e));
          left = λ e. absurd (false≢true (sym e));
        };
        on = x.on;
        ready = λ e. absurd (false≢true (sym e));
        pick = refl;
        rests = refl;
      }
  halfway k g parts parts' now false first one two p q whole n plan is order mine others v left closes still =
      let r = ruling_of g.setting.terms in
      let rest : Phase = second_action r (other first) (of_side (other first) one two) in
      record {
        here = residual first (do_part r (Acts first (of_side first one two)) q);
        within = rw (still refl) left.0.1.shows.within;
        stands = left.0.1.stands;
        drawn = n;
        first = λ begins. rw (other-twice first) (order begins);
        goes_on = record {
          skips = left.0.1.shows.skips;
          cut = λ e. absurd (false≢true e);
          uncut = λ e. left.1;
          left = λ e. is ∙ left.2 rest;
        };
        on = left.0.1.shows.stream;
        ready = λ e. record {
          skips = left.0.1.shows.skips;
          uncut = left.1;
          going = left.0.1.shows.ends;
          plan = with_plan first Any plan;
          fits = subst (λ (x : Plan). FitsPick (of_side (other first) one two) x) (sym (with_plan-other first Any plan)) (fits-of (other first) one two plan mine others);
          follows = (suffers_part g.setting.terms (with_plan first Any plan) first).kept _
              ((act_part g.setting.terms plan first (of_side first one two) (fits-of first one two plan mine others)).led q v);
        };
        pick = refl;
        rests = ap (close_update r) (is ∙ left.2 rest);
      }

pub returns-clause-begins : goal.returns-clause-begins
unfolding turn both_pick
returns-clause-begins v c s j k stands plays ej ek since drawn w at =
    let one = c.args.one in
    let two = c.args.two in
    let mine = c.pick-mine.result in
    let others = c.pick-others.result in
    let first = c.first_side-first.result in
    let terms = s.terms in
    let stream = since.source.stream in
    let apart : (requests.Pass ≡ requests.Move → ⊥) = λ e. cc in
    let begun = started s requests.Move one two stands.valid apart plays in
    let g : Frame = record { setting = setting_of s; stream = stream; drawn = drawn; skips = false; action = new_action One } in
    let p : Progress = drawing_on stream drawn s in
    let shown = rw c.new-known.ensures at c.act_and_suffer_as-is_cut.ensures.shown in
    let h : ShowsDrawn v.R.Rolls.drawing since.source (knowing (with_broke false nothing_yet) g) c.args.battle.now untold c.args.random.now false p =
    record {
      shows = record { within = within_of _ s stands begun.field; written = tt; ends = refl; stream = refl; drawn = refl; skips = refl; action = refl };
      stands = at;
    }
    in
    let a = still {g' = knowing (with_broke false nothing_yet) g} h (quietly h.shows (c.end_flinch.ensures.shown _ _ _)) in
    let b = still {g' = knowing (with_broke false nothing_yet) g} a (quietly a.shows (c.end_flinch-2.ensures.shown _ _ _)) in
    let plans = both-plan_of one two s.field in
    let vb = (flinch-planned terms (both_plan one two s.field) Two).kept _ ((flinch-planned terms (both_plan one two s.field) One).kept p (planned s one two stream drawn begun plays w)) in
    let is_one = c.pick-mine.ensures.stands j ej _ _ b.shows.within in
    let is_two = c.pick-others.ensures.stands k ek _ _ b.shows.within in
    let ps = picked-both (both_plan one two s.field) one two j k mine others (unflinched p) ej ek is_one is_two plans.0 plans.1 vb in
    let e = still {g' = knowing (with_broke false nothing_yet) g} b
    (quietly b.shows (c.set_picked.ensures.shown _ _ _ (picked-fits terms ps.next One mine (unflinched p) ps.fits.0 ps.planned)))
    in
    let ve = (set_picked-keeps terms ps.next One mine ps.fits.0).kept (unflinched p) ps.planned in
    let f = still {g' = knowing (with_broke false nothing_yet) g} e
    (quietly e.shows (c.set_picked-2.ensures.shown _ _ _ (picked-fits terms ps.next Two others (set_picked One mine (unflinched p)) ps.fits.1 ve)))
    in
    let vf = (set_picked-keeps terms ps.next Two others ps.fits.1).kept _ ve in
    let order = c.first_side-first.ensures.shown (by_then c.act_and_suffer_as-is_cut.ensures.steps since) _ _ _ (drawn_as_list f) in
    let q : Progress = record (picked mine others p) { drawn = order.0 } in
    let fits : FitsPick c.of_side-picked.result (ps.next first) = rw c.of_side-picked.ensures (fits-of first mine others ps.next ps.fits.0 ps.fits.1) in
    let left = rw c.of_side-picked.ensures at (shown since g q ps.next fits vf (false, drawn_from_list f order.1)) in
    let is =
    then-goes (on_conditions One without_flinch) _ p a.shows.ends ∙ then-goes (on_conditions Two without_flinch) _ _ b.shows.ends
    ∙ play-moves (ruling_of terms) one two j k mine others (unflinched p) ej ek is_one is_two
    ∙ then-goes (set_picked One mine) _ _ e.shows.ends ∙ then-goes (set_picked Two others) _ _ f.shows.ends
    ∙ order.2 (λ x. do_parts (ruling_of terms) (both_act mine others x))
    in
    rw (← is_one, ← is_two, c.of_side.ensures, c.other-second.ensures)
    (halfway c.act_and_suffer_as-is_cut.new.known g c.act_and_suffer_as-is_cut.new.battle c.close_if.new.battle c.act_and_suffer_as-is_cut.new.random
    c.act_and_suffer_as-is_cut.result first mine others p q _ order.0 ps.next is order.2 ps.fits.0 ps.fits.1 vf left c.close_if.ensures.closes c.close_if.ensures.still)
