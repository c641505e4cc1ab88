use Rattle.gen1_layout.proofs.Words.{List, Parts, ap, header_packs, packed_of, refl, still_within, ℕ, ◌∙◌}
use Rattle.gen1_rolls.specs.Steady.{Ring}
use Rattle.gen1_machine.specs.Layout.{header_block}
use Rattle.gen1_layout.specs.Shows.{state_in}
use Rattle.gen1_layout.proofs.WaysBack.{numbers_are}
use Rattle.gen1_layout.proofs.packed.Packed.put_generator.Goals as goal

pub returns-clause-packs : goal.returns-clause-packs
returns-clause-packs c g f drawn h is =
    let index = c.index-index.ensures.value ∙ ap (λ (r : Ring). r.index) is in
    let numbers = c.numbers-numbers.ensures ∙ ap (λ (r : Ring). r.numbers) is ∙ numbers_are g.seed drawn h.seed.0 in
    record {
      same = ap (λ (block : List ℕ). record c.args.self.now { header = block })
          (rw (c.copy_from_slice.ensures.after, c.header_mut-header.ensures.value, header_packs h, index, numbers) refl)
          ∙ ap (λ (q : Parts). record q { header = header_block (state_in (record g { drawn = drawn }) f) }) h.same;
      terms = h.terms;
      seed = h.seed;
      one = h.one;
      two = h.two;
      last_damage = h.last_damage;
      turn = h.turn;
      outcome = h.outcome;
    }

pub returns-clause-stands : goal.returns-clause-stands
returns-clause-stands c g f drawn h is = still_within h (returns-clause-packs c g f drawn (packed_of h) is) refl refl refl
