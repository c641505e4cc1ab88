use Rattle.std.proofs.Common.{arith, false, refl, true, ◌≡◌}
use Rattle.gen1_c.proofs.hosts.gen1_host_load.Goals as goal

pub returns-in-Ok-clause-stored : goal.returns-in-Ok-clause-stored
returns-in-Ok-clause-stored c = (λ zero. c.in-Ok.ensures.stored.0 refl, λ stored. refl)

pub returns-in-Ok-clause-same : goal.returns-in-Ok-clause-same
returns-in-Ok-clause-same c k = (refl, (c.in-Ok.ensures.same k).1)

pub returns-in-Err-clause-stored : goal.returns-in-Err-clause-stored
returns-in-Err-clause-stored c =
    let some = c.code_of_fault.ensures.some in
    (λ zero. absurd (omega (arith, zero, some)), λ stored. absurd (let e : false ≡ true = c.in-Err.ensures.stored.1 stored in cc))

pub returns-in-Err-clause-same : goal.returns-in-Err-clause-same
returns-in-Err-clause-same c k = absurd (let e : false ≡ true = (c.in-Err.ensures.same k).0 in cc)

pub returns-in-Err-clause-fault : goal.returns-in-Err-clause-fault
returns-in-Err-clause-fault c some = record { fault = c.in-Err.fault; is = c.code_of_fault.ensures.value; fails = c.in-Err.ensures.fault }
