use Rattle.std.proofs.Common.{ap, false, refl, true, ◌≡◌, ◌∙◌}
use Rattle.gen1_layout.specs.Parts.{Parts}
use Rattle.gen1_host.specs.declared.host.Host.{Host}
use Rattle.gen1_host.proofs.LoadedHosts.{fails_test, host_stored, not_stored, read_as, stored}
use Rattle.gen1_host.proofs.loading.load.Goals as goal

pub returns-in-Ok-test-clause-stored : goal.returns-in-Ok-test-clause-stored
returns-in-Ok-test-clause-stored c =
    let r = read_as c.args.host.now c.in-Ok.battle c.as_bytes.result.now c.as_bytes.ensures.value (c.in-Ok.ensures.battle.0 refl) c.in-Ok.ensures.tests.1 c.in-Ok.ensures.stands in
    (λ ok. stored c.args.host.now c.in-Ok.battle r (λ s h. c.in-Ok-test.ensures s h), λ st. refl)

pub returns-in-Ok-test-clause-loaded : goal.returns-in-Ok-test-clause-loaded
returns-in-Ok-test-clause-loaded c =
    let host = c.args.host.now in
    let r = read_as host c.in-Ok.battle c.as_bytes.result.now c.as_bytes.ensures.value (c.in-Ok.ensures.battle.0 refl) c.in-Ok.ensures.tests.1 c.in-Ok.ensures.stands in
    ap (λ (p : Parts). let it : Host = record host { room = record host.room { battle = p } } in it) r.is

pub returns-in-Ok-test-clause-same : goal.returns-in-Ok-test-clause-same
returns-in-Ok-test-clause-same c k =
    let host = c.args.host.now in
    let r = read_as host c.in-Ok.battle c.as_bytes.result.now c.as_bytes.ensures.value (c.in-Ok.ensures.battle.0 refl) c.in-Ok.ensures.tests.1 c.in-Ok.ensures.stands in
    let kept = host_stored host c.as_bytes.result.now c.as_bytes.ensures.value c.as_bytes.ensures.stands c.as_bytes.ensures.len k in
    (refl, ap (λ (p : Parts). let it : Host = record host { room = record host.room { battle = p } } in it) r.is ∙ kept.1)

pub returns-in-Err-test-clause-stored : goal.returns-in-Err-test-clause-stored
returns-in-Err-test-clause-stored c =
    let host = c.args.host.now in
    let r = read_as host c.in-Ok.battle c.as_bytes.result.now c.as_bytes.ensures.value (c.in-Ok.ensures.battle.0 refl) c.in-Ok.ensures.tests.1 c.in-Ok.ensures.stands in
    (λ ok. absurd (let e : false ≡ true = ok in cc), λ st. absurd (not_stored host c.in-Ok.battle c.in-Err-test.fault r (λ s h. c.in-Err-test.ensures s h) st))

pub returns-in-Err-test-clause-same : goal.returns-in-Err-test-clause-same
returns-in-Err-test-clause-same c k =
    let host = c.args.host.now in
    let r = read_as host c.in-Ok.battle c.as_bytes.result.now c.as_bytes.ensures.value (c.in-Ok.ensures.battle.0 refl) c.in-Ok.ensures.tests.1 c.in-Ok.ensures.stands in
    let kept = host_stored host c.as_bytes.result.now c.as_bytes.ensures.value c.as_bytes.ensures.stands c.as_bytes.ensures.len k in
    absurd (not_stored host c.in-Ok.battle c.in-Err-test.fault r (λ s h. c.in-Err-test.ensures s h) kept.0)

pub returns-in-Err-test-clause-fault : goal.returns-in-Err-test-clause-fault
returns-in-Err-test-clause-fault c =
    let host = c.args.host.now in
    let r = read_as host c.in-Ok.battle c.as_bytes.result.now c.as_bytes.ensures.value (c.in-Ok.ensures.battle.0 refl) c.in-Ok.ensures.tests.1 c.in-Ok.ensures.stands in
    fails_test host c.in-Ok.battle c.in-Err-test.fault r (λ s h. c.in-Err-test.ensures s h)
