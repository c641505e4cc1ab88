use Rattle.std.proofs.Common.{Bool, List, ap, refl, sym, ℕ, ◌*◌, ◌++◌, ◌+◌, ◌∙◌}
use Rattle.gen1_machine.specs.declared.side.Choice.TheVariants as choices
use Rattle.gen1_machine.specs.Layout.{member_block, number_of_bits}
use Rattle.gen1_machine.specs.OfferedChoices.{moves_offered}
use Rattle.gen1_machine.specs.State.{member_at, party}
use Rattle.gen1_machine.specs.Step.{is_among}
use Rattle.gen1_layout.proofs.Steps.{packed_of}
use Rattle.gen1_offers.specs.OfferedChoices.{digits_of, living_of, mask_of, moves_and_pass, passing}
use Rattle.gen1_offers.proofs.MaskDigits.{six_below, both_digits}
use Rattle.gen1_offers.proofs.Benches.{out_is}
use Rattle.gen1_offers.proofs.masks.mask_to_move.Goals as goal

pub returns-then-is_committed-clause-stands : goal.returns-then-is_committed-clause-stands
unfolding mask_of
returns-then-is_committed-clause-stands c g f h known =
    let committed = sym (c.is_committed.ensures g f h) ∙ c.if-is_committed.true in
    rw committed refl

pub returns-clause-stands : goal.returns-clause-stands
unfolding mask_of
returns-clause-stands c g f h known =
    let s = c.args.side in
    let free = sym (c.is_committed.ensures g f h) ∙ c.if-is_committed.false in
    let bench = c.bench_or-bench.ensures.stands g f h known in
    let place = bench.out ∙ out_is g f s h in
    let block = c.member.ensures.packs g f (packed_of h) ∙ ap (λ (n : ℕ). member_block (member_at n (party s f))) place in
    let low : List Bool = digits_of moves_and_pass (moves_offered s f) in
    let among : ℕ → Bool = λ k. is_among (choices.Move k) (moves_offered s f) in
    let high : List Bool = passing 1 c.bench_or-bench.result.out (living_of s f) in
    let below = six_below (is_among choices.Pass (moves_offered s f)) (among 0) (among 1) (among 2) (among 3) (among 4) high in
    ap (λ (n : ℕ). n + 64 * c.bench_or-bench.result.digits) (c.moves.ensures.stands g f h block)
    ∙ ap (λ (n : ℕ). number_of_bits low + 64 * n) bench.digits ∙ below
    ∙ ap (λ (n : ℕ). number_of_bits (low ++ passing 1 n (living_of s f))) place
    ∙ sym (ap number_of_bits (both_digits s f free))
