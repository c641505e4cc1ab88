use Rattle.std.proofs.Common.{subst, sym, ◌≤◌}
use Rattle.gen1_machine.specs.Room.{after, reply_to}
use Rattle.gen1_room.specs.declared.plain.PlainRoom.{PlainRoom}
use Rattle.gen1_room.specs.Rooms.{Keeps, submission_of}
use Rattle.gen1_host.specs.Table.{drawing}
use Rattle.gen1_host.proofs.Submissions.{taken, turned_away}
use Rattle.gen1_host.proofs.submission.submit_now.Goals as goal

pub returns-in-Ok-clause-follows : goal.returns-in-Ok-clause-follows
returns-in-Ok-clause-follows c t k =
    let d = drawing c.args.numbers.now t.course in
    let x = submission_of c.args.side c.args.number c.args.byte in
    let drawn = c.draw_from.ensures.keeps t.course (subst (λ (r : PlainRoom). Keeps r t.course) (sym c.copy_of-room.ensures) k.keeps) in
    let short = subst (λ (r : PlainRoom). r.log_length ≤ 512) (sym c.draw_from.ensures.others) (subst (λ (r : PlainRoom). r.log_length ≤ 512) (sym c.copy_of-room.ensures) k.short) in
    let room = c.in-Ok.ensures.keeps d drawn in
    taken c.in-Ok.submitted c.reply_to.result (reply_to d x) c.reply_to.ensures room.1 (c.go_on.ensures.hosts t (after d x) k room.0 (c.in-Ok.ensures.short short))

pub returns-in-Err-clause-follows : goal.returns-in-Err-clause-follows
returns-in-Err-clause-follows c t k =
    let d = drawing c.args.numbers.now t.course in
    let x = submission_of c.args.side c.args.number c.args.byte in
    let drawn = c.draw_from.ensures.keeps t.course (subst (λ (r : PlainRoom). Keeps r t.course) (sym c.copy_of-room.ensures) k.keeps) in
    let room = c.in-Err.ensures.keeps d drawn in
    turned_away c.in-Err.why c.refusal_of.result (reply_to d x) c.refusal_of.ensures room.1 k
