use Rattle.std.proofs.Common.{List, subst, sym, ℕ}
use Rattle.gen1_events.specs.Reader.{IsReading}
use Rattle.gen1_player.proofs.Retellings.{not_read}
use Rattle.gen1_host.proofs.loading.is_log.Goals as goal

pub returns-in-Err-clause-fails : goal.returns-in-Err-clause-fails
returns-in-Err-clause-fails c is k =
    not_read c.log_of.result.now c.in-Err.field-0 c.in-Err.ensures.fault k.1 (subst (λ (l : List ℕ). IsReading l k.1) (sym (c.log_of.ensures.value k.0)) k.2)
