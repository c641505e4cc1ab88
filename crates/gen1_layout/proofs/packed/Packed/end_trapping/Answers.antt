use Rattle.std.proofs.Common.{sym, ◌∙◌}
use Rattle.gen1_layout.proofs.Words.{None, active_ok, conditions_in, lit<, refl, underway_in}
use Rattle.gen1_layout.proofs.Counts.{less_alone, not_trapping}
use Rattle.gen1_layout.proofs.Steps.{within_unchanged}
use Rattle.gen1_layout.proofs.packed.Packed.end_trapping.Goals as goal

pub returns-then-is_on : goal.returns-then-is_on
returns-then-is_on c =
    record {
      stands = λ g f change h makes.
          let known = (active_ok c.args.side h).conditions in
          let u = known.underway in
          c.put_count.ensures.stands 2 refl (lit< tt) g f change (record (conditions_in c.args.side f) { underway = record (underway_in c.args.side f) { trapping = None } }) h makes refl (rw (c.turns_without-turns.ensures.trapping g f h refl) refl)
          (record { underway = record { bide = u.bide; thrash = u.thrash; trapping = tt; alone = (less_alone (underway_in c.args.side f) u).2 }; confused = known.confused; substitute = known.substitute; bad_poison = known.bad_poison; disabled = known.disabled });
    }

pub returns-else-is_on : goal.returns-else-is_on
returns-else-is_on c =
    record {
      stands = λ g f change h makes.
          let off = sym (c.is_on.ensures.stands 2 refl g f h) ∙ c.if-is_on.false in
          within_unchanged h c.args.side change (makes ∙ not_trapping (conditions_in c.args.side f) off);
    }
