use Rattle.std.proofs.Common.{Bool, ap, false, if◌then◌else◌, sym, true, ℕ, ◌*◌, ◌||◌, ◌∙◌, ◌≡◌}
use Rattle.gen1_stats.specs.Members.{is_paralysed}
use Rattle.gen1_machine.specs.declared.side.Pick.{Pick}
use Rattle.gen1_machine.specs.declared.side.Side.{Side}
use Rattle.gen1_machine.specs.Picks.{is_idle}
use Rattle.gen1_machine.specs.State.{conditions_in, status_in, Field}
use Rattle.gen1_status.specs.Gate.{is_held}
use Rattle.gen1_odds.specs.Acting.{acts_by, confusion_draws, how_many_pairs, is_barred, is_kept, is_out_of_action, paralysis_draws, still_confused}
use Rattle.gen1_odds.proofs.Counts.{pairs-many}
use Rattle.gen1_odds.proofs.acting.passing_pairs.Goals as goal

abbrev free : Side → Field → ℕ
free s f = confusion_draws (still_confused (conditions_in s f).confused) * paralysis_draws (is_paralysed (status_in s f))

counted : (s : Side) (pick : Pick) (f : Field) (kept : Bool) → kept ≡ is_kept s pick f
    → how_many_pairs (acts_by s pick f) ≡ (if kept then 0 else free s f)
counted s pick f kept is =
    pairs-many (is_held pick) (is_out_of_action s f) (still_confused (conditions_in s f).confused) (is_barred s pick f) (is_paralysed (status_in s f)) (is_idle pick)
    ∙ ap (λ (x : Bool). if x then 0 else free s f) (sym is)

pub returns-then-is_kept-clause-stands : goal.returns-then-is_kept-clause-stands
returns-then-is_kept-clause-stands c g f h =
    sym (counted c.args.side c.args.pick f true (sym c.if-is_kept.true ∙ c.is_kept.ensures.stands g f h))

pub returns-clause-stands : goal.returns-clause-stands
returns-clause-stands c g f h =
    let o = (conditions_in c.args.side f).confused in
    let status = status_in c.args.side f in
    let confusion : c.confusion_draws-confusion.result ≡ confusion_draws (still_confused o) =
    c.confusion_draws-confusion.ensures.value ∙ ap confusion_draws (c.still_confused.ensures ∙ ap still_confused (c.confused.ensures.stands g f h)) in
    let paralysis : c.paralysis_draws-paralysis.result ≡ paralysis_draws (is_paralysed status) =
    c.paralysis_draws-paralysis.ensures.value ∙ ap paralysis_draws (c.is_paralysed.ensures ∙ ap is_paralysed (c.status.ensures.stands g f h)) in
    ap (λ (n : ℕ). n * c.paralysis_draws-paralysis.result) confusion
    ∙ ap (λ (n : ℕ). confusion_draws (still_confused o) * n) paralysis
    ∙ sym (counted c.args.side c.args.pick f false (sym c.if-is_kept.false ∙ c.is_kept.ensures.stands g f h))
