use Rattle.std.proofs.Common.{refl, subst, sym, ℕ, ◌∙◌, ◌≡◌}
use Rattle.gen1_machine.specs.State.{is_over}
use Rattle.gen1_machine.specs.declared.side.Side.{Side}
use Rattle.gen1_c.specs.Rooms.{ForfeitsAs}
use Rattle.gen1_c.proofs.OddsDue.{same_side}
use Rattle.gen1_c.proofs.Replies.{found, over_code, refused_forfeit, taken_forfeit}
use Rattle.gen1_c.proofs.rooms.gen1_room_forfeit.Goals as goal

pub returns-in_default-clause-forfeits : goal.returns-in_default-clause-forfeits
returns-in_default-clause-forfeits c course which k e = absurd (found c.from_number.result c.args.side which c.from_number.ensures.numbered c.in_default.not-Some e)

pub returns-in-Ok-clause-forfeits : goal.returns-in-Ok-clause-forfeits
returns-in-Ok-clause-forfeits c course which k e =
    let side = same_side c.in-Some.side which (c.in-Some.ensures.exact ∙ e) in
    let over = is_over course.state.field.outcome in
    subst (λ (it : Side). ForfeitsAs over course it c.forfeit.new.room 0) side
    (taken_forfeit over course c.in-Some.side c.forfeit.new.room c.in-Ok.field-0 (c.in-Ok.ensures.forfeits course k))

pub returns-in-Err-clause-forfeits : goal.returns-in-Err-clause-forfeits
returns-in-Err-clause-forfeits c course which k e =
    let side = same_side c.in-Some.side which (c.in-Some.ensures.exact ∙ e) in
    let over = is_over course.state.field.outcome in
    subst (λ (it : Side). ForfeitsAs over course it c.forfeit.new.room c.code_of.result) side
    (subst (λ (n : ℕ). ForfeitsAs over course c.in-Some.side c.forfeit.new.room n) (sym c.code_of.ensures.value)
    (refused_forfeit over course c.in-Some.side c.forfeit.new.room c.in-Err.why (c.in-Err.ensures.forfeits course k)))

-- after a forfeit

pub returns-in_default-clause-forfeited : goal.returns-in_default-clause-forfeited
returns-in_default-clause-forfeited c which e h = absurd (found c.from_number.result c.args.side which c.from_number.ensures.numbered c.in_default.not-Some e)

pub returns-in-Ok-clause-forfeited : goal.returns-in-Ok-clause-forfeited
returns-in-Ok-clause-forfeited c which e h = absurd (let k = c.in-Ok.ensures.forfeited h in cc)

pub returns-in-Err-clause-forfeited : goal.returns-in-Err-clause-forfeited
returns-in-Err-clause-forfeited c which e h = c.code_of.ensures.value ∙ over_code c.in-Err.why refl (c.in-Err.ensures.forfeited h)

-- a forfeit is refused only if the room is over

pub returns-in-Err-clause-code : goal.returns-in-Err-clause-code
returns-in-Err-clause-code c some other = c.code_of.ensures.value ∙ over_code c.in-Err.why refl c.in-Err.ensures.over
