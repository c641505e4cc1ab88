use Rattle.std.proofs.Common.{Ok, ap, refl, sym, ◌∙◌}
use Rattle.gen1_machine.specs.Room.{after as follows, reply_to}
use Rattle.gen1_room.specs.Rooms.{reply_of, submission_at}
use Rattle.battle_commands.proofs.Heard.{sent_reply}
use Rattle.battle_commands.proofs.battles.hand_in.Goals as goal

pub returns-in-Ok-Waiting-clause-answers : goal.returns-in-Ok-Waiting-clause-answers
returns-in-Ok-Waiting-clause-answers g c d h =
    let r = c.submit.ensures.holds d h in
    sent_reply (reply_to d (submission_at c.args.submission)) _ _ _ _ _ _ (sym r.1 ∙ ap reply_of (c.in-Ok-Waiting.is ∙ ap Ok c.in-Ok-Waiting.field-0-is)) refl c.send_text.ensures.answers

pub returns-in-Ok-Advanced-clause-answers : goal.returns-in-Ok-Advanced-clause-answers
returns-in-Ok-Advanced-clause-answers g c d h =
    let r = c.submit.ensures.holds d h in
    let after = follows d (submission_at c.args.submission) in
    sent_reply (reply_to d (submission_at c.args.submission)) _ after.events _ _ _ _ (sym r.1 ∙ ap reply_of (c.in-Ok-Advanced.is ∙ ap Ok c.in-Ok-Advanced.field-0-is)) refl
    (c.send_lines.ensures.answers after.events (c.log.ensures after r.0))

pub returns-in-Err-clause-answers : goal.returns-in-Err-clause-answers
returns-in-Err-clause-answers g c d h =
    let r = c.submit.ensures.holds d h in
    sent_reply (reply_to d (submission_at c.args.submission)) _ _ _ _ _ _ (sym r.1 ∙ ap reply_of c.in-Err.is) (c.as_str.ensures.value ∙ c.refusal_line.ensures) c.send_text-in-Err.ensures.answers
