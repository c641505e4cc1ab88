use Rattle.std.proofs.Common.{Err}
use Rattle.std.proofs.lemmas.Result.{err_from_is_err_and}
use Rattle.gen1_machine.specs.Room.{room_of}
use Rattle.battle_commands.specs.Asked.{asked_of_room, replies_due, submissions_due}
use Rattle.battle_commands.proofs.Heard.{answers_behind, fault_first}
use Rattle.battle_commands.proofs.Serving.{answers_opened, answers_unopened, no_writes}
use Rattle.battle_commands.proofs.battles.play_room.Goals as goal

pub returns-in_err-bout-clause-answers : goal.returns-in_err-bout-clause-answers
returns-in_err-bout-clause-answers g c =
    let passed = err_from_is_err_and c.from_residual.result c.from_residual.ensures.1 in
    rw (passed.1, passed.2) (answers_unopened submissions_due asked_of_room c.in_err-bout.field-0.0 _ _ c.in_err-bout.ensures.opens)

pub returns-in_err-bout-clause-write : goal.returns-in_err-bout-clause-write
returns-in_err-bout-clause-write g c =
    let passed = err_from_is_err_and c.from_residual.result c.from_residual.ensures.1 in
    rw (passed.1, passed.2) (no_writes _ _ c.in_err-bout.ensures.write)

pub returns-in_err-send_lines-clause-answers : goal.returns-in_err-send_lines-clause-answers
returns-in_err-send_lines-clause-answers g c =
    let passed = err_from_is_err_and c.from_residual-in_err-send_lines.result c.from_residual-in_err-send_lines.ensures.1 in
    rw (passed.1, passed.2)
    (answers_opened {T = Unit {0}} submissions_due asked_of_room c.in_ok-bout.bout _ (g.W.Sink.contents c.args.writer.now) (g.W.Sink.contents c.send_lines.new.sink) (Err c.in_err-send_lines.field-0.0) c.in_ok-bout.ensures.opens
    (λ x stands items.
    fault_first _ (replies_due (room_of x.state) x.items) (g.W.Sink.contents c.args.writer.now) (g.W.Sink.contents c.send_lines.new.sink) c.in_err-send_lines.field-0.0
    (c.in_err-send_lines.ensures.answers _ (c.log.ensures _ (c.new-room.ensures x.state stands)))))

pub returns-clause-answers : goal.returns-clause-answers
returns-clause-answers g c =
    answers_opened {T = Unit {0}} submissions_due asked_of_room c.in_ok-bout.bout _ _ _ _ c.in_ok-bout.ensures.opens
    (λ x stands items.
    let holds = c.new-room.ensures x.state stands in
    answers_behind _ (replies_due (room_of x.state) x.items) _ _ _ _ (c.in_ok-send_lines.ensures.answers _ (c.log.ensures _ holds)).1
    (rw (c.as_slice.ensures.value, items) at (c.hand_in_all.ensures.answers (room_of x.state) holds)))
