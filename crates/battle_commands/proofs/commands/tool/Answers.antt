use Rattle.std.proofs.Common.{ap, inl, inr, map, option_map, sym, ◌∙◌}
use Rattle.clap.specs.Words.{App, has_subcommand, takes}
use Rattle.battle_commands.proofs.Serving.{name_asked, rows_asked, some_same, error_replied, faultless, file_named, not_both, one_found, replies_unheld, unreplied}
use Rattle.battle_commands.proofs.commands.tool.Goals as goal

pub returns-in_default-clause-ends : goal.returns-in_default-clause-ends
returns-in_default-clause-ends g c asked a = inr (record { status_is = c.report.ensures.status; line = c.report.ensures.told })

pub returns-in_default-clause-replies : goal.returns-in_default-clause-replies
returns-in_default-clause-replies g c = replies_unheld _ _ _ _ (record { status_is = c.report.ensures.status; line = c.report.ensures.told })

pub returns-in-Err-clause-ends : goal.returns-in-Err-clause-ends
returns-in-Err-clause-ends g c asked a =
    let words = map g.S.AsStr.text c.args.words.now in
    inr (c.answer_words.ensures.unheld (c.in-Err.ensures.passes (ap (λ (x : App). takes x words) c.in-Ok.ensures.app ∙ a.0)))

pub returns-in-Err-clause-replies : goal.returns-in-Err-clause-replies
returns-in-Err-clause-replies g c =
    let words = map g.S.AsStr.text c.args.words.now in
    error_replied _ words _ _ _ _ c.in-Ok.ensures.app c.in-Err.ensures.kinds c.answer_words.ensures.unheld c.answer_words.ensures.replies

pub unreachable-requires : goal.unreachable-requires
unreachable-requires g c =
    let words = map g.S.AsStr.text c.args.words.now in
    let m = c.in-Ok-try_get_matches_from.matches in
    let none = faultless _ words c.in-Ok.ensures.app c.in-Ok-try_get_matches_from.ensures.kinds in
    not_both (has_subcommand m) (one_found _ m words c.in-Ok.ensures.app c.in-Ok-try_get_matches_from.ensures.matches none) (sym c.in_default-subcommand.ensures.variant)

pub returns-clause-ends : goal.returns-clause-ends
returns-clause-ends g c asked a =
    let words = map g.S.AsStr.text c.args.words.now in
    let m = c.in-Ok-try_get_matches_from.matches in
    let found = rows_asked _ m words asked c.in-Ok.ensures.app c.in-Ok-try_get_matches_from.ensures.matches a in
    let name = some_same _ _ (c.in-Some.ensures.name ∙ name_asked m asked found) in
    let rows = some_same _ _ (c.in-Some.ensures.rows ∙ ap (option_map (λ p. p.1)) found) in
    inl (c.in-Some.inner.now, rows, rw name at c.run_and_tell.ensures.ends)

pub returns-clause-alone : goal.returns-clause-alone
returns-clause-alone g c asked a h =
    let words = map g.S.AsStr.text c.args.words.now in
    let found = rows_asked _ c.in-Ok-try_get_matches_from.matches words asked c.in-Ok.ensures.app c.in-Ok-try_get_matches_from.ensures.matches a in
    let rows = some_same _ _ (c.in-Some.ensures.rows ∙ ap (option_map (λ p. p.1)) found) in
    c.run_and_tell.ensures.alone (file_named c.in-Some.inner.now asked rows ∙ h)

pub returns-clause-unopened : goal.returns-clause-unopened
returns-clause-unopened g c asked a h =
    let words = map g.S.AsStr.text c.args.words.now in
    let found = rows_asked _ c.in-Ok-try_get_matches_from.matches words asked c.in-Ok.ensures.app c.in-Ok-try_get_matches_from.ensures.matches a in
    let rows = some_same _ _ (c.in-Some.ensures.rows ∙ ap (option_map (λ p. p.1)) found) in
    c.run_and_tell.ensures.unopened (file_named c.in-Some.inner.now asked rows ∙ h)

pub returns-clause-replies : goal.returns-clause-replies
returns-clause-replies g c =
    let words = map g.S.AsStr.text c.args.words.now in
    unreplied _ _ _ _ (faultless _ words c.in-Ok.ensures.app c.in-Ok-try_get_matches_from.ensures.kinds)

pub returns-clause-unread : goal.returns-clause-unread
returns-clause-unread g c h =
    let words = map g.S.AsStr.text c.args.words.now in
    absurd (h (faultless _ words c.in-Ok.ensures.app c.in-Ok-try_get_matches_from.ensures.kinds))

pub returns-clause-shut : goal.returns-clause-shut
returns-clause-shut g c h =
    let words = map g.S.AsStr.text c.args.words.now in
    absurd (h (faultless _ words c.in-Ok.ensures.app c.in-Ok-try_get_matches_from.ensures.kinds))
