-- The law of secrecy for the audience, row by row.
use Rattle.std.proofs.Common.{Bool, List, None, Option, Some, [], ap, false, inl, inr, is_some, refl, subst, sym, true, ℕ, ◌==◌, ◌≡◌, ◌∙◌, ◌∷◌, ◌⊎◌, ◌||◌}
use Rattle.std.specs.Prelude.{if◌then◌else◌, map, not}
use Rattle.gen1_rolls.specs.Steady.{Ring}
use Rattle.gen1_machine.specs.declared.side.Side.{Side}
use Rattle.gen1_machine.specs.declared.side.Side.TheVariants.{One, Two}
use Rattle.gen1_machine.specs.declared.terms.Outcome.{Outcome}
use Rattle.gen1_machine.specs.Room.{Course, Submission}
use Rattle.gen1_machine.specs.State.{is_over}
use Rattle.gen1_player.specs.declared.teller.Teller.{Teller}
use Rattle.gen1_host.specs.Table.{after_row, Agreed, Cancel, current_pair, Ended, Ending, Expire, first_due, Forfeit, Forfeited, HostReply, HouseRules, if_not_refused, is_closed, Kept, OfferDraw, Refused, Row, Submit, Table, taken_back}
use Rattle.gen1_host.specs.Messages.{Notice, notice, outcome_by, outcome_of}
use Rattle.gen1_host.specs.Secrecy.{AllEndAlike, AllSame, ends_pair, is_secret, KeepsSecretsFromAll, Matches, noticed, SameForAll}
use Rattle.gen1_host.proofs.QuietRows.{kept_seat, seat, submit_quiet, verdict_on, as_submission, cancel_reply, cancel_row_after, draw_table, forfeit_ends, late_quiet, offered_by}
use Rattle.gen1_host.proofs.Secrecy.{closed_table, goes, no_truth}

-- 1. What the audience can predict

abbrev public_next : Row → Notice → Notice
public_next (OfferDraw side) n = record n { draw = offered_by side n.draw }
public_next row n = n

either_way : (r : HostReply) (old new : Table) (n : Notice) → notice old ≡ n → notice new ≡ n → notice (if_not_refused r old new) ≡ n
either_way (Refused why) old new n e f = e
either_way Kept old new n e f = f
either_way Ended old new n e f = f

kept_notice : (n : Option Ring) (x : Submission) (c : Course) (a b : Teller) (w : Option Side) (k : HouseRules)
    → notice (kept_seat n x c a b w k) ≡ notice (seat c a b w k)
kept_notice None x c a b w k = refl
kept_notice (Some ring) x c a b w k = refl

submit_notice : (n : Option Ring) (x : Submission) (c : Course) (a b : Teller) (w : Option Side) (k : HouseRules) → is_over c.state.field.outcome ≡ false
    → ends_pair (Submit n x) (seat c a b w k) ≡ false → notice (after_row (Submit n x) (seat c a b w k)) ≡ notice (seat c a b w k)
submit_notice n x c a b w k going quiet =
    ap notice (submit_quiet n x c a b w k going quiet).table
    ∙ either_way (verdict_on x c) (seat c a b w k) (kept_seat n x c a b w k) (notice (seat c a b w k)) refl (kept_notice n x c a b w k)

noticed_in : (row : Row) (c : Course) (a b : Teller) (w : Option Side) (k : HouseRules) → is_over c.state.field.outcome ≡ false
    → ends_pair row (seat c a b w k) ≡ false → notice (after_row row (seat c a b w k)) ≡ public_next row (notice (seat c a b w k))
noticed_in (Submit n x) c a b w k going quiet = submit_notice n x c a b w k going quiet
noticed_in (Cancel side number) c a b w k going quiet =
    ap notice (cancel_row_after side number c a b w k going)
    ∙ either_way (cancel_reply number side c k) (seat c a b w k) (taken_back side (seat c a b w k)) (notice (seat c a b w k)) refl refl
noticed_in (Expire n side number) c a b w k going quiet = by k.late_forfeits refl
  where
    by : (late : Bool) → k.late_forfeits ≡ late → notice (after_row (Expire n side number) (seat c a b w k)) ≡ notice (seat c a b w k)
    by true l = ap notice (late_quiet n side number c a b w k going l quiet).table
    by false l =
        let same = (as_submission n side number c a b w k going l).table in
        ap notice same ∙ submit_notice n (first_due side number (seat c a b w k)) c a b w k going (subst (λ (t : Table). not (current_pair t == c.number) ≡ false) same quiet)
noticed_in (OfferDraw side) c a b w k going quiet = ap notice (draw_table side c a b w k going quiet).1
noticed_in (Forfeit side) c a b w k going quiet = absurd (no_truth (sym quiet ∙ forfeit_ends side c a b w k going))

closed_outcome : (t : Table) → is_over (notice t).outcome ≡ is_closed t
closed_outcome t = by t.ending t.course.state.field.outcome
  where
    by : (e : Option Ending) (o : Outcome) → is_over (elim e as (λ _. Outcome) [ Some ending ↦ outcome_by ending | None ↦ o ]) ≡ (is_some e || is_over o)
    by None o = refl
    by (Some (Forfeited One)) o = refl
    by (Some (Forfeited Two)) o = refl
    by (Some Agreed) o = refl

abbrev next_notice : Row → Notice → Notice
next_notice row n = if is_over n.outcome then n else public_next row n

notices : (row : Row) (t : Table) → ends_pair row t ≡ false → notice (after_row row t) ≡ next_notice row (notice t)
notices row t quiet = by (is_closed t) refl
  where
    by : (closed : Bool) → is_closed t ≡ closed → notice (after_row row t) ≡ next_notice row (notice t)
    by true e = rw (closed_outcome t ∙ e) (ap notice (closed_table row t e))
    by false e =
        let g = goes t e in
        rw (closed_outcome t ∙ e) (subst (λ (u : Table). notice (after_row row u) ≡ public_next row (notice u)) (sym g.seated)
        (noticed_in row t.course t.one t.two t.draw t.rules g.going (subst (λ (u : Table). ends_pair row u ≡ false) g.seated quiet)))

-- 2. Rows that the audience can't tell apart

matching : (r q : Row) (n : Notice) → Matches r q → public_next r n ≡ public_next q n
matching (Submit m x) (Submit l y) n h = refl
matching (Expire m side number) (Expire l by pair) n h = refl
matching r q n h = ap (λ (row : Row). public_next row n) h

hidden : (r : Row) (n : Notice) → is_secret r ≡ true → public_next r n ≡ n
hidden (Submit m x) n h = refl
hidden (Cancel side number) n h = refl
hidden (Expire m side number) n h = refl
hidden (OfferDraw side) n h = absurd (no_truth h)
hidden (Forfeit side) n h = refl

alike : (rows : Row × Row) (n : Notice) → SameForAll rows → next_notice rows.0 n ≡ next_notice rows.1 n
alike rows n h = by (is_over n.outcome) (public h)
  where
    public : SameForAll rows → public_next rows.0 n ≡ public_next rows.1 n
    public (inl e) = matching rows.0 rows.1 n e
    public (inr e) = hidden rows.0 n e.0 ∙ sym (hidden rows.1 n e.1)

    by : (over : Bool) → public_next rows.0 n ≡ public_next rows.1 n → (if over then n else public_next rows.0 n) ≡ (if over then n else public_next rows.1 n)
    by true e = refl
    by false e = e

step : (rows : Row × Row) (t u : Table) → notice t ≡ notice u → SameForAll rows
    → ((ends_pair rows.0 t || ends_pair rows.1 u) ≡ true → notice (after_row rows.0 t) ≡ notice (after_row rows.1 u))
    → notice (after_row rows.0 t) ≡ notice (after_row rows.1 u)
step rows t u same h ends = by (ends_pair rows.0 t) (ends_pair rows.1 u) refl refl ends
  where
    by : (a b : Bool) → ends_pair rows.0 t ≡ a → ends_pair rows.1 u ≡ b
        → ((a || b) ≡ true → notice (after_row rows.0 t) ≡ notice (after_row rows.1 u)) → notice (after_row rows.0 t) ≡ notice (after_row rows.1 u)
    by false false e f q = notices rows.0 t e ∙ alike rows (notice t) h ∙ ap (next_notice rows.1) same ∙ sym (notices rows.1 u f)
    by true b e f q = q refl
    by false true e f q = q refl

-- 3. All rows

more_alike : (m n : Notice) (l k : List Notice) → m ≡ n → l ≡ k → (m ∷ l) ≡ (n ∷ k)
more_alike m n l k e f = rw (e, f) refl

pub keeps_secrets_from_all : KeepsSecretsFromAll
unfolding noticed
keeps_secrets_from_all [] t u same rows ends = refl
keeps_secrets_from_all (two ∷ more) t u same rows ends =
    let it = step two t u same rows.0 ends.0 in
    more_alike (notice (after_row two.0 t)) (notice (after_row two.1 u))
    (noticed (map (λ (it : Row × Row). it.0) more) (after_row two.0 t)) (noticed (map (λ (it : Row × Row). it.1) more) (after_row two.1 u))
    it (keeps_secrets_from_all more (after_row two.0 t) (after_row two.1 u) it rows.1 ends.1)
