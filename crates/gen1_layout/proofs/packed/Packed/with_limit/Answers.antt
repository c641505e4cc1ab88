use Rattle.std.proofs.Common.{arith, rules}
use Rattle.gen1_machine.specs.State.{Terms}
use Rattle.gen1_machine.proofs.ValidStates.{first_states_are_valid}
use Rattle.gen1_layout.proofs.packed.Packed.with_limit.Goals as goal

pub returns : goal.returns
returns c =
    let terms : Terms = record { rules = c.args.rules; limit = c.args.limit } in
    record {
      same = first_of (search rules, grind arith);
      valid = first_states_are_valid terms c.args.one.now c.args.two.now c.args.seed c.header_bytes.ensures.terms c.members.ensures.team c.members-2.ensures.team
          c.header_bytes.ensures.seed;
    }
