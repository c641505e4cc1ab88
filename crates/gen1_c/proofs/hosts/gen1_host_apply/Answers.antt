use Rattle.std.proofs.Common.{ap, subst, ◌∙◌, ◌≡◌}
use Rattle.gen1_machine.specs.declared.side.Side.{Side}
use Rattle.gen1_host.specs.Hosts.{Hosts, row_at}
use Rattle.gen1_host.specs.Table.{Row, after_row, reply_to_row}
use Rattle.gen1_c.specs.Hosts.{reply_code, row_of}
use Rattle.gen1_c.proofs.OddsDue.{same_side}
use Rattle.gen1_c.proofs.Replies.{found, no_row, refused_row, taken_row, that_row}
use Rattle.gen1_c.proofs.hosts.gen1_host_apply.Goals as goal

pub returns-in_default-clause-takes : goal.returns-in_default-clause-takes
returns-in_default-clause-takes c t which it h e due =
    absurd (found c.from_number.result c.args.row.now.side which c.from_number.ensures.numbered c.in_default.not-Some e)

pub returns-in_default-row_of-clause-takes : goal.returns-in_default-row_of-clause-takes
returns-in_default-row_of-clause-takes c t which it h e due =
    let side = same_side c.in-Some.side which (c.in-Some.ensures.exact ∙ e) in
    absurd (no_row c.row_of.result it (row_of which c.args.row.now)
    (c.row_of.ensures ∙ ap (λ (by : Side). row_of by c.args.row.now) side) c.in_default-row_of.not-Some due)

pub returns-in-Ok-clause-takes : goal.returns-in-Ok-clause-takes
returns-in-Ok-clause-takes c t which it h e due =
    let side = same_side c.in-Some.side which (c.in-Some.ensures.exact ∙ e) in
    let row = that_row c.in-Some-row_of.row it (row_of which c.args.row.now)
    (c.in-Some-row_of.ensures ∙ ap (λ (by : Side). row_of by c.args.row.now) side) due in
    let all = c.in-Ok.ensures.takes t h in
    subst (λ (given : Row). Hosts c.apply.new.host (after_row given t) × (0 ≡ reply_code (reply_to_row given t))) row
    (all.hosts, taken_row c.in-Ok.field-0 (reply_to_row (row_at c.in-Some-row_of.row) t) all.replied)

pub returns-in-Err-clause-takes : goal.returns-in-Err-clause-takes
returns-in-Err-clause-takes c t which it h e due =
    let side = same_side c.in-Some.side which (c.in-Some.ensures.exact ∙ e) in
    let row = that_row c.in-Some-row_of.row it (row_of which c.args.row.now)
    (c.in-Some-row_of.ensures ∙ ap (λ (by : Side). row_of by c.args.row.now) side) due in
    let all = c.in-Err.ensures.takes t h in
    subst (λ (given : Row). Hosts c.apply.new.host (after_row given t) × (c.code_of.result ≡ reply_code (reply_to_row given t))) row
    (all.hosts, refused_row c.in-Err.why c.code_of.result (reply_to_row (row_at c.in-Some-row_of.row) t) c.code_of.ensures.value all.replied)
