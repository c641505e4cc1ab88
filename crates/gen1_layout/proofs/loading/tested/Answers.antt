use Rattle.std.proofs.Common.{subst, sym}
use Rattle.gen1_layout.specs.Loading.{PassesOfRequests, PassesOfStats}
use Rattle.gen1_layout.proofs.LoadingForms.{all_tests, before_requests, before_stats}
use Rattle.gen1_layout.proofs.loading.tested.Goals as goal

pub returns-then-not-pass-4 : goal.returns-then-not-pass-4
returns-then-not-pass-4 c = (
  before_stats c.args.bytes.now c.version_three-form.result c.version_three-form.ensures
      record {
        length = c.if-bytes-ne384.false;
        version = c.has_version.ensures.0 c.if-not-has_version.false;
        header = c.pass.ensures.passes.0 c.if-not-pass.false;
        members = c.pass-2.ensures.0 c.if-not-pass-2.false;
        actives = c.pass-3.ensures.0 c.if-not-pass-3.false;
      },
  λ passes. let yes = c.pass-4.ensures.passes.1 (subst PassesOfStats (sym c.version_three-form.ensures) passes) in cc (yes, c.if-not-pass-4.true),
)

pub returns-then-not-pass-5 : goal.returns-then-not-pass-5
returns-then-not-pass-5 c = (
  before_requests c.args.bytes.now c.version_three-form.result c.version_three-form.ensures
      record {
        length = c.if-bytes-ne384.false;
        version = c.has_version.ensures.0 c.if-not-has_version.false;
        header = c.pass.ensures.passes.0 c.if-not-pass.false;
        members = c.pass-2.ensures.0 c.if-not-pass-2.false;
        actives = c.pass-3.ensures.0 c.if-not-pass-3.false;
      }
      (c.pass-4.ensures.passes.0 c.if-not-pass-4.false),
  λ passes. let yes = c.pass-5.ensures.passes.1 (subst PassesOfRequests (sym c.version_three-form.ensures) passes) in cc (yes, c.if-not-pass-5.true),
)

pub returns : goal.returns
returns c = (
  all_tests c.args.bytes.now c.version_three-form.result c.version_three-form.ensures
      record {
        length = c.if-bytes-ne384.false;
        version = c.has_version.ensures.0 c.if-not-has_version.false;
        header = c.pass.ensures.passes.0 c.if-not-pass.false;
        members = c.pass-2.ensures.0 c.if-not-pass-2.false;
        actives = c.pass-3.ensures.0 c.if-not-pass-3.false;
      }
      (c.pass-4.ensures.passes.0 c.if-not-pass-4.false) (c.pass-5.ensures.passes.0 c.if-not-pass-5.false),
  c.version_three-form.ensures,
)
