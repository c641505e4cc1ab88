use Rattle.std.proofs.Common.{sym, ◌≡◌, ◌∙◌}
use Rattle.gen1_layout.proofs.Words.{Field, Side, active_in, conditions_in, false, refl}
use Rattle.gen1_machine.specs.declared.side.Pick.{Pick}
use Rattle.gen1_machine.specs.declared.side.Pick.TheVariants.{Continue, Held, Idle, Use}
use Rattle.gen1_machine.specs.Picks.{bars, is_disabled_in, is_idle, used_by}
use Rattle.gen1_status.proofs.gate_tests.by_move.is_disabled.Goals as goal

not_idle : (s : Side) (pick : Pick) (f : Field) → is_idle pick ≡ false
    → is_disabled_in s pick f ≡ bars (conditions_in s f).disabled (used_by pick (active_in s f).current_move)
not_idle s Idle f e = cc
not_idle s (Use used) f e = refl
not_idle s Continue f e = refl
not_idle s Held f e = refl

pub returns : goal.returns
returns c =
    record {
      stands = λ g f h.
          c.bars.ensures ∙ rw (c.disabled.ensures.stands g f h, c.used_by.ensures.stands g f h) (sym (not_idle c.args.side c.args.pick f (sym c.is_idle.ensures ∙ c.if-is_idle.false)));
    }
