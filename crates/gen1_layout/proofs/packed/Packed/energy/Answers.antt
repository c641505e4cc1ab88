use Rattle.gen1_layout.proofs.Words.{[], active_ok, underway_in, word_back}
use Rattle.gen1_machine.specs.Layout.{energy_of}
use Rattle.gen1_layout.proofs.Counts.{energy_fits}
use Rattle.gen1_layout.proofs.packed.Packed.energy.Goals as goal

pub returns : goal.returns
returns c =
    record {
      stands = λ g f h.
          rw (c.read_u16.ensures, c.active.ensures.stands g f h) (word_back (energy_of (underway_in c.args.side f).bide) [] (energy_fits (underway_in c.args.side f).bide (active_ok c.args.side h).conditions.underway.bide));
    }
