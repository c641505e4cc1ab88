use Rattle.gen1_layout.proofs.Words.{Action, acted, goes, put_damage, put_on_conditions, refl, true}
use Rattle.gen1_machine.specs.Conditions.{without_trapping}
use Rattle.gen1_machine.specs.Progress.{set_missed}
use Rattle.gen1_machine.specs.HitTest.{miss}
use Rattle.gen1_hits.proofs.hit_tests.miss.Goals as goal

pub returns : goal.returns
unfolding miss set_missed without_trapping
returns c =
    record {
      shown = λ told g p h.
          let a = acted (λ (x : Action). record x { missed = true }) h in
          let b = put_damage a 0 (c.put_last_damage.ensures.stands _ _ a.within) in
          goes _ _ a (goes _ _ b (put_on_conditions b c.args.side without_trapping (c.end_trapping.ensures.stands _ _ without_trapping b.within refl)));
    }
