use Rattle.std.proofs.Common.{◌==◌, ◌≡◌}
use Rattle.gen1_layout.proofs.Words.{Action, None, Option, Progress, Some, ap, arith, choose-true, drawn_acted, drawn_seeing, drawn_stops, goes, halted, lit≤, nat_le, put, put_damage, set_last_damage, still, sym, then-goes, true, ℕ, ◌∙◌, ◌▸◌}
use Rattle.gen1_machine.specs.declared.terms.Outcome.TheVariants as outcomes
use Rattle.gen1_machine.specs.Action.{strike}
use Rattle.gen1_machine.specs.Damage.{before_types, damage_from, is_factor, numbers_in, roll_damage, set_through_types, type_steps, varied_by, vary, DamageNumbers}
use Rattle.gen1_machine.specs.HitTest.{hit_or_miss}
use Rattle.gen1_machine.specs.Moves.{move_at}
use Rattle.gen1_machine.specs.Progress.{draw_until, fault, given, on_action, on_field, set_missed}
use Rattle.gen1_machine.specs.Ruling.{ruling_of}
use Rattle.gen1_machine.specs.State.{with_outcome}
use Rattle.gen1_status.proofs.Statuses.{at_most}
use Rattle.gen1_hits.proofs.Knowledge.{over}
use Rattle.gen1_turn.specs.declared.action.two_parts.Roll.{Roll}
use Rattle.gen1_turn.specs.Action.{late_part}
use Rattle.gen1_turn.proofs.TwoParts.{known-there, not-zero, then-same}
use Rattle.gen1_turn.proofs.action.two_parts.damage_to_roll.Goals as goal

pub returns-in_default-clause-shown : goal.returns-in_default-clause-shown
unfolding roll_damage damage_from fault with_outcome
returns-in_default-clause-shown t c since g p begun usual quiet h =
    let n = c.numbers-numbers.ensures.stands _ _ h.shows.within ∙ ap (λ (a : Action). numbers_in c.args.side (move_at c.args.id) a.critical p.field) (sym h.shows.action) in
    let none : before_types c.numbers-numbers.result ≡ None = sym c.damage.ensures.is ∙ c.in_default.is in
    let a = put h.shows (with_outcome (outcomes.Fault 1)) (c.put_outcome.ensures.stands _ p.field h.shows.within (lit≤ tt, lit≤ tt)) in
    over c.args.known.now g (drawn_stops (roll_damage c.args.side (move_at c.args.id)) _
    (drawn_seeing _ (λ (n : DamageNumbers). damage_from n (before_types n)) n (rw none (still h (goes _ _ a (halted a))))))

pub returns-then-after-ge2-clause-shown : goal.returns-then-after-ge2-clause-shown
unfolding roll_damage damage_from set_through_types set_missed given on_action
returns-then-after-ge2-clause-shown t c since g p begun usual quiet h =
    let s = c.args.side in
    let k = c.args.known.now in
    let move = move_at c.args.id in
    let r = ruling_of g.setting.terms in
    let found = c.numbers-numbers.result in
    let damage = c.type_steps-after.result in
    let n = c.numbers-numbers.ensures.stands _ _ h.shows.within ∙ ap (λ (a : Action). numbers_in s move a.critical p.field) (sym h.shows.action) in
    let some : before_types found ≡ Some c.in-Some.before = sym c.damage.ensures.is ∙ c.in-Some.is in
    let after : damage ≡ type_steps c.in-Some.before found = c.type_steps-after.ensures.steps in
    let here = set_missed (damage == 0) (set_through_types p) in
    let is : roll_damage s move p ≡ vary damage here =
    ap (λ (k : DamageNumbers). damage_from k (before_types k) p) (sym n) ∙ ap (λ (o : Option ℕ). damage_from found o p) some
    ∙ ap (λ (k : ℕ). (set_through_types ▸ set_missed (k == 0) ▸ vary k) p) (sym after)
    ∙ then-goes set_through_types (set_missed (damage == 0) ▸ vary damage) p h.shows.ends
    ∙ then-goes (set_missed (damage == 0)) (vary damage) (set_through_types p) h.shows.ends in
    let new = begun quiet in
    let roll : Roll = record { id = c.args.id; damage = damage; going_on = k.going_on; critical = k.critical } in
    let there = known-there s roll (damage == 0) p new.1 (ap (λ (a : Action). a.going_on) h.shows.action) (ap (λ (a : Action). a.critical) h.shows.action)
    (not-zero damage (omega (arith, c.if-after-ge2.true))) in
    let shown = h.shows in
    record {
      here = here;
      shows = record {
        shows = record { within = shown.within; written = shown.written; ends = shown.ends; stream = shown.stream; drawn = shown.drawn; skips = new.0; action = there };
        stands = h.stands;
      };
      rolling = record { skips = new.0; going = shown.ends; action = there; usual = usual; damage = (omega (arith, c.if-after-ge2.true), c.type_steps-after.ensures.bound) };
      left = then-same (roll_damage s move) (vary damage) (hit_or_miss s move ▸ late_part r s move ▸ strike r s move) p here is;
    }

pub returns-clause-shown : goal.returns-clause-shown
unfolding roll_damage damage_from set_through_types set_missed set_last_damage vary given on_action on_field
returns-clause-shown t c since g p begun usual quiet h =
    let s = c.args.side in
    let move = move_at c.args.id in
    let r = ruling_of g.setting.terms in
    let found = c.numbers-numbers.result in
    let damage = c.type_steps-after.result in
    let n = c.numbers-numbers.ensures.stands _ _ h.shows.within ∙ ap (λ (a : Action). numbers_in s move a.critical p.field) (sym h.shows.action) in
    let some : before_types found ≡ Some c.in-Some.before = sym c.damage.ensures.is ∙ c.in-Some.is in
    let after : damage ≡ type_steps c.in-Some.before found = c.type_steps-after.ensures.steps in
    let a = drawn_acted (λ (x : Action). record x { through_types = true }) h in
    let b = drawn_acted (λ (x : Action). record x { missed = (damage == 0) }) a in
    let here = set_missed (damage == 0) (set_through_types p) in
    let q = set_last_damage damage here in
    let is : roll_damage s move p ≡ q =
    ap (λ (k : DamageNumbers). damage_from k (before_types k) p) (sym n) ∙ ap (λ (o : Option ℕ). damage_from found o p) some
    ∙ ap (λ (k : ℕ). (set_through_types ▸ set_missed (k == 0) ▸ vary k) p) (sym after)
    ∙ then-goes set_through_types (set_missed (damage == 0) ▸ vary damage) p h.shows.ends
    ∙ then-goes (set_missed (damage == 0)) (vary damage) (set_through_types p) h.shows.ends
    ∙ choose-true (λ _. nat_le damage 1) (set_last_damage damage) (draw_until is_factor (varied_by damage)) here (at_most damage 1 (omega (arith, c.if-after-ge2.false))) in
    let shown = still b (put_damage b.shows damage (c.put_last_damage.ensures.stands _ _ b.shows.within)) in
    let goes = then-goes (roll_damage s move) (hit_or_miss s move ▸ late_part r s move ▸ strike r s move) p (ap (λ (x : Progress). x.stopped) is ∙ h.shows.ends)
    ∙ ap (hit_or_miss s move ▸ late_part r s move ▸ strike r s move) is in
    over c.test_and_strike.new.known g (rw goes (c.test_and_strike.ensures.shown since g q usual shown))
