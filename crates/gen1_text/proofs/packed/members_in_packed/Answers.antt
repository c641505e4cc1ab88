use Rattle.std.proofs.Common.{Ok, ap, append-nil, arith, length, sym, ◌+◌, ◌<◌, ◌∙◌, ◌≡◌, ◌≤◌}
use Rattle.std.proofs.lemmas.Bool.Decides.{nat_tests}
use Rattle.std.proofs.lemmas.Grind.{common_steps}
use Rattle.std.proofs.lemmas.Result.{err_from_is_err_and}
use Rattle.gen1_text.specs.Packed.{members_packed, unpacked}
use Rattle.gen1_text.specs.MemberLines.{pieces_left, behind}
use Rattle.gen1_text.proofs.PackedLemmas.{all-end, all-fault, all-made, all-seventh}
use Rattle.gen1_text.proofs.TextLemmas.{behind-more, behind-none}
use Rattle.gen1_text.proofs.packed.members_in_packed.Goals as goal

pub loop-piece-init : goal.loop-piece-init
unfolding members_packed
loop-piece-init c =
    let left = ap pieces_left c.into_iter-piece-iterator.ensures.into_iter_gives ∙ c.new-piece-items.ensures in
    record { tells = rw (c.new-members.ensures, left) (behind-none _); fits = omega (arith, ap length c.new-members.ensures) }

pub returns-then-is_full : goal.returns-then-is_full
returns-then-is_full c =
    let members = c.loop-piece.members.items in
    let full : 6 ≤ length members = grind (arith, nat_tests) in
    sym (ap (behind members) (all-seventh (length members) (pieces_left c.loop-piece.piece-iterator) _ c.in-Some.piece.now c.in-Some.ensures.steps full)) ∙ c.loop-piece.invariant.tells

pub returns-in_err-spec : goal.returns-in_err-spec
returns-in_err-spec c =
    let members = c.loop-piece.members.items in
    let room : length members < 6 = grind (arith, nat_tests) in
    let now = all-fault (length members) (pieces_left c.loop-piece.piece-iterator) _ c.in-Some.piece.now c.in-Some.ensures.steps _ room (sym (c.unpacked.ensures ∙ ap (λ n. unpacked (n + 1) c.in-Some.piece.now) c.len.ensures.value) ∙ c.in_err-spec.was) in
    let p = err_from_is_err_and c.from_residual.result c.from_residual.ensures.1 in
    rw (p.1, p.2) (sym (ap (behind members) now) ∙ c.loop-piece.invariant.tells)

pub loop-piece-preserved : goal.loop-piece-preserved
loop-piece-preserved c =
    let members = c.loop-piece.members.items in
    let room : length members < 6 = grind (arith, nat_tests) in
    let now = all-made (length members) (pieces_left c.loop-piece.piece-iterator) _ c.in-Some.piece.now c.in-Some.ensures.steps c.in_ok-spec.spec room (sym (c.unpacked.ensures ∙ ap (λ n. unpacked (n + 1) c.in-Some.piece.now) c.len.ensures.value) ∙ c.in_ok-spec.was) in
    let count : length c.push.new.self.items ≡ length members + 1 = grind (arith, common_steps) in
    record { tells = rw (count, c.push.ensures.items, behind-more) (sym (ap (behind members) now) ∙ c.loop-piece.invariant.tells); fits = omega arith }

pub returns : goal.returns
returns c =
    let members = c.loop-piece.members.items in
    ap Ok (sym (append-nil members)) ∙ sym (ap (behind members) (all-end (length members) (pieces_left c.loop-piece.piece-iterator) c.in-None.ensures.steps.0)) ∙ c.loop-piece.invariant.tells
