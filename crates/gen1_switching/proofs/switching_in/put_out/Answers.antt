use Rattle.std.proofs.Common.{List, ap, get_or, sym, ℕ, ◌∙◌}
use Rattle.gen1_layout.proofs.Words.{packed_of, party}
use Rattle.gen1_layout.proofs.WaysBack.{ok_inside}
use Rattle.gen1_machine.specs.Layout.{member_block}
use Rattle.gen1_machine.specs.State.{member_at}
use Rattle.gen1_layout.specs.Shows.{own_stats_of}
use Rattle.gen1_switching.proofs.SwitchingIn.{own_stats_out}
use Rattle.gen1_switching.proofs.switching_in.put_out.Goals as goal

pub returns : goal.returns
returns c =
    record {
      stands = λ g f h there.
          let k = packed_of h in
          let m = member_at c.args.place (party c.args.side f) in
          let at = ap (λ (n : ℕ). member_at n (party c.args.side f)) c.number-at.ensures.value in
          let byte = ap (λ (l : List ℕ). get_or l 14 0) (c.member.ensures.packs g f k ∙ ap member_block at) in
          let penalty = c.has_penalty.ensures g.terms.rules m.status (ok_inside k c.args.side c.args.place there.0 there.1).status byte in
          c.put_out_with.ensures.stands g f h there
          (c.own_stats_at-stats.ensures.packs g f k ∙ ap own_stats_of at ∙ own_stats_out m (sym penalty ∙ c.if-has_penalty.false));
      packs = λ g f k there.
          let m = member_at c.args.place (party c.args.side f) in
          let at = ap (λ (n : ℕ). member_at n (party c.args.side f)) c.number-at.ensures.value in
          let byte = ap (λ (l : List ℕ). get_or l 14 0) (c.member.ensures.packs g f k ∙ ap member_block at) in
          let penalty = c.has_penalty.ensures g.terms.rules m.status (ok_inside k c.args.side c.args.place there.0 there.1).status byte in
          c.put_out_with.ensures.packs g f k there
          (c.own_stats_at-stats.ensures.packs g f k ∙ ap own_stats_of at ∙ own_stats_out m (sym penalty ∙ c.if-has_penalty.false));
    }
