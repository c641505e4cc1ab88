use Rattle.std.proofs.Common.{Err, Ok, ap, sym, refl, ◌∙◌}
use Rattle.gen1_machine.specs.Damage.{numbers_in}
use Rattle.gen1_machine.specs.Moves.{move_at}
use Rattle.gen1_layout.specs.Shows.{setting_of}
use Rattle.gen1_offers.proofs.OfferedSet.{packs_of}
use Rattle.gen1_hits.specs.DamageNumbers.{damages, has_usual_damage}
use Rattle.gen1_c.proofs.Updates.{kept_out, let_through}
use Rattle.gen1_c.proofs.OddsDue.{due_divisor, due_list, due_no_move, due_nobody, due_unusual, same_side, told, within_out}
use Rattle.gen1_c.proofs.odds.gen1_damage.Goals as goal

pub returns-in_default-new-clause-tells : goal.returns-in_default-new-clause-tells
returns-in_default-new-clause-tells c s which h e =
    told (Err 11) _ _ _ (due_no_move which c.args.number c.args.critical s.field (kept_out _ c.args.number (λ is. c.in_default-new.not-Some c.args.number (c.new.ensures ∙ is)))) (refl, refl)

pub returns-then-not-has_usual_damage-clause-tells : goal.returns-then-not-has_usual_damage-clause-tells
returns-then-not-has_usual_damage-clause-tells c s which h e =
    let id = let_through _ _ _ (sym c.new.ensures ∙ c.in-Some-new.is) in
    let usual = ap (λ n. has_usual_damage (move_at n)) (sym id.1) ∙ sym c.has_usual_damage.ensures ∙ c.if-not-has_usual_damage.true in
    told (Err 48) _ _ _ (due_unusual which c.args.number c.args.critical s.field id.0 usual) (refl, refl)

pub returns-then-turn-eq0-clause-tells : goal.returns-then-turn-eq0-clause-tells
returns-then-turn-eq0-clause-tells c s which h e =
    let id = let_through _ _ _ (sym c.new.ensures ∙ c.in-Some-new.is) in
    let usual = ap (λ n. has_usual_damage (move_at n)) (sym id.1) ∙ sym c.has_usual_damage.ensures ∙ c.if-not-has_usual_damage.false in
    let turn = sym (c.turn.ensures.packs (setting_of s) s.field (packs_of h)) ∙ c.if-turn-eq0.true in
    told (Err 50) _ _ _ (due_nobody which c.args.number c.args.critical s.field id.0 usual turn) (refl, refl)

pub returns-in-Some-damage_list-clause-tells : goal.returns-in-Some-damage_list-clause-tells
returns-in-Some-damage_list-clause-tells c s which h e =
    let id = let_through _ _ _ (sym c.new.ensures ∙ c.in-Some-new.is) in
    let usual = ap (λ n. has_usual_damage (move_at n)) (sym id.1) ∙ sym c.has_usual_damage.ensures ∙ c.if-not-has_usual_damage.false in
    let turn = c.turn.ensures.packs (setting_of s) s.field (packs_of h) in
    let side = same_side c.in-Some.side which (c.in-Some.ensures.exact ∙ e) in
    let numbers = c.numbers.ensures.stands (setting_of s) s.field (within_out h (λ z. c.if-turn-eq0.false (turn ∙ z))) in
    let due = ap (λ it. damages (numbers_in it (move_at c.args.number) c.args.critical s.field)) (sym side)
    ∙ ap (λ n. damages (numbers_in c.in-Some.side (move_at n) c.args.critical s.field)) (sym id.1)
    ∙ ap damages (sym numbers) ∙ sym c.damage_list.ensures ∙ c.in-Some-damage_list.is in
    told (Ok c.in-Some-damage_list.list) _ _ _
    (due_list which c.args.number c.args.critical s.field c.in-Some-damage_list.list id.0 usual (λ z. c.if-turn-eq0.false (turn ∙ z)) due) (refl, refl)

pub returns-in-None-clause-tells : goal.returns-in-None-clause-tells
returns-in-None-clause-tells c s which h e =
    let id = let_through _ _ _ (sym c.new.ensures ∙ c.in-Some-new.is) in
    let usual = ap (λ n. has_usual_damage (move_at n)) (sym id.1) ∙ sym c.has_usual_damage.ensures ∙ c.if-not-has_usual_damage.false in
    let turn = c.turn.ensures.packs (setting_of s) s.field (packs_of h) in
    let side = same_side c.in-Some.side which (c.in-Some.ensures.exact ∙ e) in
    let numbers = c.numbers.ensures.stands (setting_of s) s.field (within_out h (λ z. c.if-turn-eq0.false (turn ∙ z))) in
    let due = ap (λ it. damages (numbers_in it (move_at c.args.number) c.args.critical s.field)) (sym side)
    ∙ ap (λ n. damages (numbers_in c.in-Some.side (move_at n) c.args.critical s.field)) (sym id.1)
    ∙ ap damages (sym numbers) ∙ sym c.damage_list.ensures ∙ c.in-None.is in
    told (Err 49) _ _ _
    (due_divisor which c.args.number c.args.critical s.field id.0 usual (λ z. c.if-turn-eq0.false (turn ∙ z)) due) (refl, refl)
