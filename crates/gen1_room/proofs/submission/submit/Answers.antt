use Rattle.std.proofs.Common.{List, ap, sym, ◌∙◌}
use Rattle.gen1_machine.specs.declared.side.Choice.{Choice}
use Rattle.gen1_machine.specs.Room.{choice_by_byte}
use Rattle.gen1_room.specs.Rooms.{submission_of}
use Rattle.gen1_room.proofs.Rooms.{already, missing_of, over_reply, stale, taken, taken_reply, unoffered, holds_over}
use Rattle.gen1_room.proofs.submission.submit.Goals as goal

pub returns-then-is_over-clause-holds : goal.returns-then-is_over-clause-holds
returns-then-is_over-clause-holds c course h =
    let over = sym (c.is_over.ensures course.state h.stands) ∙ c.if-is_over.true in
    (holds_over (submission_of c.args.side c.args.number c.args.byte) h over, over_reply c.args.side c.args.number c.args.byte h over)

pub returns-then-number-held-clause-holds : goal.returns-then-number-held-clause-holds
returns-then-number-held-clause-holds c course h =
    stale c.args.side c.args.number c.args.byte h (sym (c.is_over.ensures course.state h.stands) ∙ c.if-is_over.false) c.if-number-held.true

pub returns-then-has_chosen-clause-holds : goal.returns-then-has_chosen-clause-holds
returns-then-has_chosen-clause-holds c course h =
    already c.args.side c.args.number c.args.byte h (sym (c.is_over.ensures course.state h.stands) ∙ c.if-is_over.false) c.if-number-held.false
    (sym c.has_chosen.ensures ∙ c.if-has_chosen.true)

pub choose-requires : goal.choose-requires
choose-requires c =
    let m = c.requires.valid in
    let going = sym (c.is_over.ensures m.course.state m.holds.stands) ∙ c.if-is_over.false in
    let offered = ap (λ (l : List Choice). choice_by_byte c.args.byte l) (c.as_slice.ensures.value ∙ c.choices.ensures m.course.state m.holds.stands) in
    let some = sym (c.choice_by_byte.ensures ∙ offered) ∙ c.in-Some.is in
    record {
      valid = record {
        course = m.course;
        submission = submission_of c.args.side c.args.number c.args.byte;
        holds = m.holds;
        going = going;
        missing = missing_of c.args.side m.holds (sym c.has_chosen.ensures ∙ c.if-has_chosen.false);
        made = taken c.args.side c.args.number c.args.byte c.in-Some.choice m.holds c.if-number-held.false some;
      };
    }

pub returns-in-Some-clause-holds : goal.returns-in-Some-clause-holds
returns-in-Some-clause-holds c course h =
    let going = sym (c.is_over.ensures course.state h.stands) ∙ c.if-is_over.false in
    let offered = ap (λ (l : List Choice). choice_by_byte c.args.byte l) (c.as_slice.ensures.value ∙ c.choices.ensures course.state h.stands) in
    let some = sym (c.choice_by_byte.ensures ∙ offered) ∙ c.in-Some.is in
    let missing = sym c.has_chosen.ensures ∙ c.if-has_chosen.false in
    let made = taken c.args.side c.args.number c.args.byte c.in-Some.choice h c.if-number-held.false some in
    let new = c.choose.ensures.holds course (submission_of c.args.side c.args.number c.args.byte) h going (missing_of c.args.side h missing) made in
    (new.0, new.1 ∙ taken_reply c.args.side c.args.number c.args.byte c.in-Some.choice h going c.if-number-held.false missing made)

pub returns-in-None-clause-holds : goal.returns-in-None-clause-holds
returns-in-None-clause-holds c course h =
    let offered = ap (λ (l : List Choice). choice_by_byte c.args.byte l) (c.as_slice.ensures.value ∙ c.choices.ensures course.state h.stands) in
    unoffered c.args.side c.args.number c.args.byte h (sym (c.is_over.ensures course.state h.stands) ∙ c.if-is_over.false) c.if-number-held.false
    (sym c.has_chosen.ensures ∙ c.if-has_chosen.false) (sym (c.choice_by_byte.ensures ∙ offered) ∙ c.in-None.is)
