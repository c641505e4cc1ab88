use Rattle.std.proofs.Common.{min, ◌==◌, ◌≡◌}
use Rattle.gen1_layout.proofs.Words.{Action, None, Option, Some, ap, arith, drawn_acted, drawn_seeing, goes, halted, inl, lit≤, put, refl, set_last_damage, still, subst, sym, then-goes, true, ℕ, ◌∙◌, ◌▸◌}
use Rattle.gen1_rolls.specs.Streams.{limit_of}
use Rattle.gen1_machine.specs.declared.terms.Outcome.TheVariants as outcomes
use Rattle.gen1_machine.specs.Damage.{before_types, damage_from, numbers_in, roll_damage, set_through_types, type_steps, vary, DamageNumbers}
use Rattle.gen1_machine.specs.Moves.{move_at}
use Rattle.gen1_machine.specs.Progress.{fault, given, on_action, on_field, set_missed}
use Rattle.gen1_machine.specs.Sides.{other}
use Rattle.gen1_machine.specs.State.{with_last_damage, with_outcome}
use Rattle.gen1_hits.proofs.Knowledge.{varying}
use Rattle.gen1_turn.specs.Action.{limit_in}
use Rattle.gen1_turn.proofs.Damage.{like-of, limit-same}
use Rattle.gen1_turn.proofs.action.roll_damage.Goals as goal

pub returns-in_default-clause-shown : goal.returns-in_default-clause-shown
unfolding roll_damage damage_from fault with_outcome
returns-in_default-clause-shown t c events since g p h =
    let n = c.numbers-numbers.ensures.stands _ _ h.shows.within ∙ ap (λ (a : Action). numbers_in c.args.side (move_at c.args.id) a.critical p.field) (sym h.shows.action) in
    let none : before_types c.numbers-numbers.result ≡ None = sym c.damage.ensures.is ∙ c.in_default.is in
    let a = put h.shows (with_outcome (outcomes.Fault 1)) (c.put_outcome.ensures.stands _ p.field h.shows.within (lit≤ tt, lit≤ tt)) in (
      roll_damage c.args.side (move_at c.args.id) p,
      drawn_seeing _ (λ (n : DamageNumbers). damage_from n (before_types n)) n (rw none (still h (goes _ _ a (halted a)))),
      inl refl,
    )

pub returns-clause-shown : goal.returns-clause-shown
unfolding roll_damage damage_from set_through_types set_missed set_last_damage with_last_damage given on_action on_field
returns-clause-shown t c events since g p h =
    let s = c.args.side in
    let move = move_at c.args.id in
    let found = c.numbers-numbers.result in
    let damage = c.type_steps-after.result in
    let result = c.factor_up_to-varied.result in
    let n = c.numbers-numbers.ensures.stands _ _ h.shows.within ∙ ap (λ (a : Action). numbers_in s move a.critical p.field) (sym h.shows.action) in
    let some : before_types found ≡ Some c.in-Some.before = sym c.damage.ensures.is ∙ c.in-Some.is in
    let after : damage ≡ type_steps c.in-Some.before found = c.type_steps-after.ensures.steps in
    let a = drawn_acted (λ (x : Action). record x { through_types = true }) h in
    let b = drawn_acted (λ (x : Action). record x { missed = (damage == 0) }) a in
    let x = set_missed (damage == 0) (set_through_types p) in
    let edge = c.damage_edge-edge.result in
    let v = varying (limit_of edge.0 edge.1) damage result b (c.factor_up_to-varied.ensures.varies since) (c.put_last_damage.ensures.stands _ _ b.shows.within) in
    let q = set_last_damage result (record x { drawn = v.0 }) in
    let is : roll_damage s move p ≡ vary damage x =
    ap (λ (k : DamageNumbers). damage_from k (before_types k) p) (sym n) ∙ ap (λ (o : Option ℕ). damage_from found o p) some
    ∙ ap (λ (k : ℕ). (set_through_types ▸ set_missed (k == 0) ▸ vary k) p) (sym after)
    ∙ then-goes set_through_types (set_missed (damage == 0) ▸ vary damage) p h.shows.ends
    ∙ then-goes (set_missed (damage == 0)) (vary damage) (set_through_types p) h.shows.ends in
    let limit : limit_of edge.0 edge.1 ≡ limit_in (other s) (with_last_damage result p.field) =
    rw (c.damage_edge-edge.ensures.edge _ _ b.shows.within, c.damage_edge-edge.ensures.cut _ _ b.shows.within, c.other.ensures) (sym (limit-same (other s) result p.field)) in
    let alike = subst (λ (l : ℕ). min v.2 l ≡ min result l) limit v.4 in
    (q, v.1, like-of s q (roll_damage s move p) damage v.2 (is ∙ v.3) alike v.5 c.factor_up_to-varied.ensures.most (omega arith) refl h.shows.ends)
