use Rattle.std.proofs.Common.{ap, sym, ◌∙◌}
use Rattle.gen1_machine.specs.State.{is_pass}
use Rattle.gen1_layout.specs.Shows.{setting_of}
use Rattle.gen1_offers.proofs.OfferedSet.{packs_of}
use Rattle.gen1_host.proofs.LoadedHosts.{lawful_missing, lawful_pass, lawful_stated, not_lawful, not_lawful_pass}
use Rattle.gen1_host.proofs.loading.is_lawful.Goals as goal

pub returns-then-is_pass-clause-passes : goal.returns-then-is_pass-clause-passes
returns-then-is_pass-clause-passes c s h zero =
    let is = c.is_pass.ensures ∙ ap is_pass (c.request.ensures.packs (setting_of s) s.field (packs_of h)) in
    lawful_pass c.args.side c.args.byte s (sym is ∙ c.if-is_pass.true) zero

pub returns-then-is_pass-clause-fails : goal.returns-then-is_pass-clause-fails
returns-then-is_pass-clause-fails c s h some k =
    let is = c.is_pass.ensures ∙ ap is_pass (c.request.ensures.packs (setting_of s) s.field (packs_of h)) in
    not_lawful_pass c.args.side c.args.byte s (sym is ∙ c.if-is_pass.true) some k

pub returns-then-byte-eq-NONE-clause-passes : goal.returns-then-byte-eq-NONE-clause-passes
returns-then-byte-eq-NONE-clause-passes c s h it =
    let is = c.is_pass.ensures ∙ ap is_pass (c.request.ensures.packs (setting_of s) s.field (packs_of h)) in
    lawful_missing c.args.side c.args.byte s (sym is ∙ c.if-is_pass.false) c.if-byte-eq-NONE.true

pub returns-clause-passes : goal.returns-clause-passes
returns-clause-passes c s h it =
    let is = c.is_pass.ensures ∙ ap is_pass (c.request.ensures.packs (setting_of s) s.field (packs_of h)) in
    lawful_stated c.args.side c.args.byte s c.as_slice.result.now (sym is ∙ c.if-is_pass.false) (c.as_slice.ensures.value ∙ c.offered.ensures s h) (c.is_stated.ensures.passes it)

pub returns-clause-fails : goal.returns-clause-fails
returns-clause-fails c s h it k =
    let is = c.is_pass.ensures ∙ ap is_pass (c.request.ensures.packs (setting_of s) s.field (packs_of h)) in
    not_lawful c.args.side c.args.byte s c.as_slice.result.now (sym is ∙ c.if-is_pass.false) (c.as_slice.ensures.value ∙ c.offered.ensures s h) c.if-byte-eq-NONE.false
    (c.is_stated.ensures.fails it) k
