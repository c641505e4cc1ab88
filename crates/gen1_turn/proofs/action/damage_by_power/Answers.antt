use Rattle.std.proofs.Common.{◌≡◌}
use Rattle.std.proofs.lemmas.Bool.{false≢true}
use Rattle.gen1_layout.proofs.Words.{Progress, ap, arith, choose-true, drawn_if_not, drawn_settled, false, inl, nat_lt, put_damage, refl, set_last_damage, still, subst, sym, then-goes, then-stops, true, ◌∙◌, ◌▸◌}
use Rattle.gen1_machine.specs.Action.{usual_damage}
use Rattle.gen1_machine.specs.CriticalHits.{roll_critical}
use Rattle.gen1_machine.specs.Damage.{roll_damage}
use Rattle.gen1_machine.specs.HitTest.{hit_or_miss}
use Rattle.gen1_machine.specs.Moves.{move_at}
use Rattle.gen1_machine.specs.Progress.{choose}
use Rattle.gen1_status.proofs.Statuses.{below}
use Rattle.gen1_hits.specs.Knowing.{knowing}
use Rattle.gen1_turn.specs.Action.{LikeDamage}
use Rattle.gen1_turn.proofs.Damage.{late-power, like-goes, like-halted, tested-like}
use Rattle.gen1_rolls.specs.Draws.{by_then}
use Rattle.gen1_turn.proofs.action.damage_by_power.Goals as goal

pub returns-then-power-eq0-clause-shown : goal.returns-then-power-eq0-clause-shown
returns-then-power-eq0-clause-shown t c events since g p h =
    let s = c.args.side in
    let move = move_at c.args.id in
    let none : nat_lt 0 move.power ≡ false = ap (nat_lt 0) (sym c.power.ensures ∙ c.if-power-eq0.true) in (
      choose (λ _. nat_lt 0 move.power) (usual_damage s move) (set_last_damage 0) p,
      drawn_if_not _ _ _ none (still h (put_damage h.shows 0 (c.put_last_damage.ensures.stands _ _ h.shows.within))),
      (inl refl, λ late. refl),
    )

pub returns-then-roll_damage-clause-shown : goal.returns-then-roll_damage-clause-shown
unfolding usual_damage
returns-then-roll_damage-clause-shown t c events since g p h =
    let s = c.args.side in
    let move = move_at c.args.id in
    let some : nat_lt 0 move.power ≡ true = ap (nat_lt 0) (sym c.power.ensures) ∙ below 0 c.power.result (omega (arith, c.if-power-eq0.false)) in
    let a = still h (put_damage h.shows 0 (c.put_last_damage.ensures.stands _ _ h.shows.within)) in
    let b = c.critical-known.ensures.shown events (by_then c.roll_damage.ensures.steps since) (knowing c.args.known.now g) _ a in
    let x = roll_critical s move (set_last_damage 0 p) in
    let d = c.roll_damage.ensures.shown events since g x b in
    let ends = d.1.shows.ends ∙ c.if-roll_damage.true in
    let same = like-halted s d.0 (roll_damage s move x) d.2 ends in
    let is = choose-true (λ _. nat_lt 0 move.power) (usual_damage s move) (set_last_damage 0) p some
    ∙ then-goes (set_last_damage 0) (roll_critical s move ▸ roll_damage s move ▸ hit_or_miss s move) p a.shows.ends
    ∙ then-goes (roll_critical s move) (roll_damage s move ▸ hit_or_miss s move) (set_last_damage 0 p) b.shows.ends
    ∙ then-stops (roll_damage s move) (hit_or_miss s move) x (ap (λ (q : Progress). q.stopped) (sym same) ∙ ends) in
    let all = same ∙ sym is in
    (d.0, drawn_settled c.if-roll_damage.true d.1, (inl all, λ late. all))

pub returns-clause-shown : goal.returns-clause-shown
unfolding usual_damage
returns-clause-shown t c events since g p h =
    let s = c.args.side in
    let move = move_at c.args.id in
    let some : nat_lt 0 move.power ≡ true = ap (nat_lt 0) (sym c.power.ensures) ∙ below 0 c.power.result (omega (arith, c.if-power-eq0.false)) in
    let a = still h (put_damage h.shows 0 (c.put_last_damage.ensures.stands _ _ h.shows.within)) in
    let b = c.critical-known.ensures.shown events (by_then c.roll_damage.ensures.steps (by_then c.hit_or_miss.ensures.steps since)) (knowing c.args.known.now g) _ a in
    let x = roll_critical s move (set_last_damage 0 p) in
    let d = c.roll_damage.ensures.shown events (by_then c.hit_or_miss.ensures.steps since) g x b in
    let found = drawn_settled c.if-roll_damage.false d.1 in
    let tested = c.hit_or_miss.ensures.shown events since g d.0 found in
    let is = choose-true (λ _. nat_lt 0 move.power) (usual_damage s move) (set_last_damage 0) p some
    ∙ then-goes (set_last_damage 0) (roll_critical s move ▸ roll_damage s move ▸ hit_or_miss s move) p a.shows.ends
    ∙ then-goes (roll_critical s move) (roll_damage s move ▸ hit_or_miss s move) (set_last_damage 0 p) b.shows.ends
    ∙ then-goes (roll_damage s move) (hit_or_miss s move) x (like-goes s d.0 (roll_damage s move x) d.2 found.shows.ends) in
    let like = tested-like s move d.0 (roll_damage s move x) d.2 tested.shows.ends in
    (hit_or_miss s move d.0, tested, (subst (LikeDamage s (hit_or_miss s move d.0)) (sym is) like, λ late. absurd (false≢true (sym (late-power c.args.id late) ∙ some))))
