use Rattle.std.proofs.Common.{Ok, ap, append-nil, arith, length, sym, ◌∙◌, ◌+◌, ◌<◌, ◌≡◌, ◌≤◌}
use Rattle.std.proofs.lemmas.Bool.Decides.{nat_tests}
use Rattle.std.proofs.lemmas.Grind.{common_steps}
use Rattle.std.proofs.lemmas.Result.{err_from_is_err_and}
use Rattle.gen1_text.specs.MemberLines.{pieces_left, behind}
use Rattle.gen1_text.specs.Texts.{at_line, members_told}
use Rattle.gen1_text.proofs.TextLemmas.{length-pieces_of, behind-more, behind-none, held, told-change_fault, told-change_made, told-end, told-end_of_member, told-head_fault, told-head_made, told-last, told-parting, told-seventh}
use Rattle.gen1_text.proofs.text.members_in_text.Goals as goal
use Rattle.gen1_text.proofs.text.members_in_text.Goals.{in-Some-current-2, in_default}

pub loop-piece-init : goal.loop-piece-init
unfolding members_told
loop-piece-init c =
    let left = ap pieces_left c.into_iter-piece-iterator.ensures.into_iter_gives ∙ c.new-piece-items.ensures in
    record {
      tells = rw (c.new-members.ensures, left) (behind-none _);
      counts = omega (arith, ap length left);
      fits = omega (arith, ap length c.new-members.ensures);
      has_room = tt;
    }

pub overflow_add-line : goal.overflow_add-line
overflow_add-line c = omega (arith, c.loop-piece.invariant.counts, ap length c.in-Some.ensures.steps, length-pieces_of 10 c.args.text.now)

pub returns-in-None-2 : goal.returns-in-None-2
returns-in-None-2 c =
    let members = c.loop-piece.members.items in
    let full : 6 ≤ length members = grind (arith, nat_tests) in
    let now = told-seventh (length members) c.loop-piece.line c.loop-piece.current _ _ c.in-Some.piece.now c.in-None-current.is c.in-Some.ensures.steps (sym c.if-parts_members.ensures) full in
    sym (ap (behind members) now) ∙ c.loop-piece.invariant.tells

pub returns-in_err-at_line-in-None-3 : goal.returns-in_err-at_line-in-None-3
returns-in_err-at_line-in-None-3 c =
    let members = c.loop-piece.members.items in
    let room : length members < 6 = grind (arith, nat_tests) in
    let said = c.at_line.ensures ∙ ap (at_line (c.loop-piece.line + 1)) c.headed.ensures in
    let now = told-head_fault (length members) c.loop-piece.line c.loop-piece.current _ _ c.in-Some.piece.now c.in-None-current.is c.in-Some.ensures.steps c.at_line.result _ (sym c.if-parts_members.ensures) room said c.in_err-at_line-in-None-3.was in
    let p = err_from_is_err_and c.from_residual.result c.from_residual.ensures.1 in
    rw (p.1, p.2) (sym (ap (behind members) now) ∙ c.loop-piece.invariant.tells)

pub returns-in_err-at_line-in-Some-2 : goal.returns-in_err-at_line-in-Some-2
returns-in_err-at_line-in-Some-2 c =
    let members = c.loop-piece.members.items in
    let said = c.at_line-in-Some-2.ensures ∙ ap (at_line (c.loop-piece.line + 1)) c.changed.ensures in
    let now = told-change_fault (length members) c.loop-piece.line c.loop-piece.current _ _ c.in-Some.piece.now c.in-Some-current.member c.in-Some-current.is c.in-Some.ensures.steps c.at_line-in-Some-2.result _ (sym c.if-parts_members-2.ensures) said c.in_err-at_line-in-Some-2.was in
    let p = err_from_is_err_and c.from_residual-in_err-at_line-in-Some-2.result c.from_residual-in_err-at_line-in-Some-2.ensures.1 in
    rw (p.1, p.2) (sym (ap (behind members) now) ∙ c.loop-piece.invariant.tells)

pub loop-piece-preserved-in-None-current : goal.loop-piece-preserved-in-None-current
loop-piece-preserved-in-None-current c =
    let members = c.loop-piece.members.items in
    let now = told-parting (length members) c.loop-piece.line c.loop-piece.current _ _ c.in-Some.piece.now c.in-None-current.is c.in-Some.ensures.steps (sym c.if-parts_members.ensures) in
    record {
      tells = sym (ap (behind members) now) ∙ c.loop-piece.invariant.tells;
      counts = omega (arith, ap length c.in-Some.ensures.steps);
      fits = c.loop-piece.invariant.fits;
      has_room = tt;
    }

pub loop-piece-preserved-in_ok-at_line-in-None-3 : goal.loop-piece-preserved-in_ok-at_line-in-None-3
loop-piece-preserved-in_ok-at_line-in-None-3 c =
    let members = c.loop-piece.members.items in
    let room : length members < 6 = grind (arith, nat_tests) in
    let said = c.at_line.ensures ∙ ap (at_line (c.loop-piece.line + 1)) c.headed.ensures in
    let now = told-head_made (length members) c.loop-piece.line c.loop-piece.current _ _ c.in-Some.piece.now c.in-None-current.is c.in-Some.ensures.steps c.at_line.result _ (sym c.if-parts_members.ensures) room said c.in_ok-at_line-in-None-3.was in
    record {
      tells = sym (ap (behind members) now) ∙ c.loop-piece.invariant.tells;
      counts = omega (arith, ap length c.in-Some.ensures.steps);
      fits = c.loop-piece.invariant.fits;
      has_room = room;
    }

pub loop-piece-preserved-in-Some-current : goal.loop-piece-preserved-in-Some-current
loop-piece-preserved-in-Some-current c =
    let members = c.loop-piece.members.items in
    let sheet = c.in-Some-current.member in
    let room = held c.loop-piece.current sheet (length members < 6) c.in-Some-current.is c.loop-piece.invariant.has_room in
    let count : length c.push.new.self.items ≡ length members + 1 = grind (arith, common_steps) in
    let now = told-end_of_member (length members) c.loop-piece.line c.loop-piece.current _ _ c.in-Some.piece.now sheet c.in-Some-current.is c.in-Some.ensures.steps (sym c.if-parts_members-2.ensures) in
    record {
      tells = rw (count, c.push.ensures.items, behind-more) (sym (ap (behind members) now) ∙ c.loop-piece.invariant.tells);
      counts = omega (arith, ap length c.in-Some.ensures.steps);
      fits = omega arith;
      has_room = tt;
    }

pub loop-piece-preserved : goal.loop-piece-preserved
loop-piece-preserved c =
    let members = c.loop-piece.members.items in
    let said = c.at_line-in-Some-2.ensures ∙ ap (at_line (c.loop-piece.line + 1)) c.changed.ensures in
    let now = told-change_made (length members) c.loop-piece.line c.loop-piece.current _ _ c.in-Some.piece.now c.in-Some-current.member c.in-Some-current.is c.in-Some.ensures.steps c.at_line-in-Some-2.result _ (sym c.if-parts_members-2.ensures) said c.in_ok-at_line-in-Some-2.was in
    record {
      tells = sym (ap (behind members) now) ∙ c.loop-piece.invariant.tells;
      counts = omega (arith, ap length c.in-Some.ensures.steps);
      fits = c.loop-piece.invariant.fits;
      has_room = held c.loop-piece.current c.in-Some-current.member (length members < 6) c.in-Some-current.is c.loop-piece.invariant.has_room;
    }

pub returns : goal.returns
returns c =
    let members = c.loop-piece.members.items in
    elim c.match-current-2.branch [
      | in-Some-current-2 w ↦
          (let now = told-last (length members) c.loop-piece.line c.loop-piece.current _ w.in-Some-current-2.member w.in-Some-current-2.is c.in-None.ensures.steps.0 in
          rw (w.members-is, w.push-in-Some-current-2.ensures.items) (sym (ap (behind members) now) ∙ c.loop-piece.invariant.tells))
      | in_default w ↦
          (let now = told-end (length members) c.loop-piece.line c.loop-piece.current _ w.in_default.is c.in-None.ensures.steps.0 in
          rw w.members-is (ap Ok (sym (append-nil members)) ∙ sym (ap (behind members) now) ∙ c.loop-piece.invariant.tells))
    ]
