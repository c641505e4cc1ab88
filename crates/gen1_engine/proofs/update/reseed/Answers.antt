use Rattle.std.proofs.Common.{List, ap, arith, refl, subst, ◌<◌, ◌∙◌, ℕ}
use Rattle.gen1_rolls.specs.Streams.{IsStream, Link}
use Rattle.gen1_machine.specs.Layout.{header_block}
use Rattle.gen1_layout.specs.Parts.{Parts}
use Rattle.gen1_engine.specs.Update.{reseeded}
use Rattle.gen1_engine.proofs.Played.{first_round, header_of, index_in_round, valid_with}
use Rattle.gen1_engine.proofs.update.reseed.Goals as goal

pub returns-clause-stands : goal.returns-clause-stands
returns-clause-stands c s h =
    let ring = c.args.numbers.now in
    let numbers = c.numbers-bytes.ensures in
    let stream = subst (λ (xs : List ℕ). IsStream (Link xs)) numbers c.put_numbers.ensures.numbers in
    let low : ring.index < 9 = omega (arith, c.index-index.ensures.value, c.index-index.ensures.below) in
    record {
      same = ap (λ (block : List ℕ). record c.args.battle.now { header = block })
          (rw (
            c.put_numbers.ensures.written,
            c.header_mut-header.ensures.value,
            header_of h,
            c.index-index.ensures.value ∙ index_in_round ring.index low,
            numbers ∙ first_round ring.numbers ring.index stream.0 low,
          ) refl)
          ∙ ap (λ (q : Parts). record q { header = header_block (reseeded ring s) }) h.same;
      valid = valid_with ring s stream h.valid;
    }

pub returns-clause-valid : goal.returns-clause-valid
returns-clause-valid c h = record { state = reseeded c.args.numbers.now h.state; stands = returns-clause-stands c h.state h.stands }
