use Rattle.std.proofs.Common.{arith, length, refl, ◌<◌}
use Rattle.std.specs.Prelude.{slice_index_or}
use Rattle.gen1_c.specs.declared.many_battles.BatchUpdate.{BatchUpdate}
use Rattle.gen1_c.proofs.Updates.{left_more, updated_here, updated_more}
use Rattle.gen1_c.proofs.many_battles.update_each.Goals as goal

pub loop-place-init : goal.loop-place-init
loop-place-init c = (λ i d u none. absurd (omega (arith, none)), λ i d all. refl, λ i d all. refl)

pub loop-place-preserved : goal.loop-place-preserved
loop-place-preserved c =
    let place = c.loop-place.place in
    let battles = c.loop-place.battles in
    let updates = c.loop-place.updates in
    let one : place < length battles = omega arith in
    let two : place < length updates = omega (arith, c.requires.same) in
    let old = c.index-battles-place.result in
    let none : BatchUpdate = record { one = 0; two = 0; result = 0; code = 0 } in
    let asked : BatchUpdate = slice_index_or updates place none in
    let done : BatchUpdate = record asked { result = c.gen1_result.result; code = c.gen1_update_silent-code.result } in
    let h = updated_here c.args.battles.now battles c.args.updates.now updates place old c.gen1_update_silent-code.new.battle none done one two
    c.loop-place.invariant.1 c.loop-place.invariant.2
    (record {
      answers = c.gen1_update_silent-code.ensures.answers;
      valid = c.gen1_update_silent-code.ensures.valid;
      stays = c.gen1_update_silent-code.ensures.kept;
      stands = c.gen1_result.ensures.stands;
      code = c.gen1_update_silent-code.ensures.code;
      listed = c.gen1_result.ensures.listed;
      choices = (refl, refl);
    }) in (
      updated_more c.args.battles.now battles c.args.updates.now updates place c.gen1_update_silent-code.new.battle done one two c.loop-place.invariant.0 h,
      left_more c.args.battles.now battles place c.gen1_update_silent-code.new.battle c.loop-place.invariant.1,
      left_more c.args.updates.now updates place done c.loop-place.invariant.2,
    )

pub returns : goal.returns
returns c = record { updates = λ i d u below. c.loop-place.invariant.0 i d u (omega (arith, below)) }
