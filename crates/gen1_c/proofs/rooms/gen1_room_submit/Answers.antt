use Rattle.std.proofs.Common.{refl, subst, ◌≡◌, ◌∙◌}
use Rattle.gen1_machine.specs.declared.side.Side.{Side}
use Rattle.gen1_machine.specs.Room.{after, reply_to}
use Rattle.gen1_room.specs.Rooms.{Keeps, submission_of}
use Rattle.gen1_c.specs.Rooms.{reply_code}
use Rattle.gen1_c.proofs.OddsDue.{same_side}
use Rattle.gen1_c.proofs.Replies.{found, over_code, refused_code, taken_code}
use Rattle.gen1_c.proofs.rooms.gen1_room_submit.Goals as goal

pub returns-in_default-clause-submits : goal.returns-in_default-clause-submits
returns-in_default-clause-submits c course which k e = absurd (found c.from_number.result c.args.side which c.from_number.ensures.numbered c.in_default.not-Some e)

pub returns-in-Ok-clause-submits : goal.returns-in-Ok-clause-submits
returns-in-Ok-clause-submits c course which k e =
    let side = same_side c.in-Some.side which (c.in-Some.ensures.exact ∙ e) in
    let all = c.in-Ok.ensures.keeps course k in
    subst (λ (it : Side). Keeps c.submit.new.room (after course (submission_of it c.args.number c.args.choice))
    × (0 ≡ reply_code (reply_to course (submission_of it c.args.number c.args.choice)))) side
    (all.0, taken_code c.in-Ok.field-0 (reply_to course (submission_of c.in-Some.side c.args.number c.args.choice)) all.1)

pub returns-in-Err-clause-submits : goal.returns-in-Err-clause-submits
returns-in-Err-clause-submits c course which k e =
    let side = same_side c.in-Some.side which (c.in-Some.ensures.exact ∙ e) in
    let all = c.in-Err.ensures.keeps course k in
    subst (λ (it : Side). Keeps c.submit.new.room (after course (submission_of it c.args.number c.args.choice))
    × (c.code_of.result ≡ reply_code (reply_to course (submission_of it c.args.number c.args.choice)))) side
    (all.0, refused_code c.in-Err.why c.code_of.result (reply_to course (submission_of c.in-Some.side c.args.number c.args.choice)) c.code_of.ensures.value all.1)

-- after a forfeit

pub returns-in_default-clause-forfeited : goal.returns-in_default-clause-forfeited
returns-in_default-clause-forfeited c which e h = absurd (found c.from_number.result c.args.side which c.from_number.ensures.numbered c.in_default.not-Some e)

pub returns-in-Ok-clause-forfeited : goal.returns-in-Ok-clause-forfeited
returns-in-Ok-clause-forfeited c which e h = absurd (let k = c.in-Ok.ensures.forfeited h in cc)

pub returns-in-Err-clause-forfeited : goal.returns-in-Err-clause-forfeited
returns-in-Err-clause-forfeited c which e h = c.code_of.ensures.value ∙ over_code c.in-Err.why refl (c.in-Err.ensures.forfeited h)
