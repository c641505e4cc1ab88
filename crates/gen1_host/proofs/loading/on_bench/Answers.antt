use Rattle.std.proofs.Common.{ap, length, refl, ℕ, ◌*◌, ◌∙◌}
use Rattle.gen1_machine.specs.OfferedChoices.{others_living_from}
use Rattle.gen1_machine.specs.State.{party}
use Rattle.gen1_host.proofs.LoadedHosts.{counted_bench, few_members}
use Rattle.gen1_host.proofs.loading.on_bench.Goals as goal

pub returns : goal.returns
returns c s h =
    let bench = c.new-bench.ensures.stands s h in
    c.count_of.ensures.value
    ∙ counted_bench c.args.side s.field c.new-bench.result.out c.new-bench.result.digits (64 * c.new-bench.result.digits) (few_members c.args.side s h.valid) bench.digits refl
    ∙ ap (λ (out : ℕ). length (others_living_from 1 out (party c.args.side s.field).members)) bench.out
