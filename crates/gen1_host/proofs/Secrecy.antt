-- The law of secrecy, row by row.
use Rattle.std.proofs.Common.{Bool, List, None, Option, Some, [], ap, arith, false, is_some, refl, subst, sym, true, ℕ, ◌+◌, ◌==◌, ◌≡◌, ◌∙◌, ◌||◌, inl, inr, ◌∷◌, ◌⊎◌}
use Rattle.std.specs.Prelude.{if◌then◌else◌, is_none, not, map}
use Rattle.gen1_rolls.specs.Steady.{Ring}
use Rattle.gen1_machine.specs.declared.side.Side.{Side}
use Rattle.gen1_machine.specs.declared.side.Side.TheVariants.{One, Two}
use Rattle.gen1_machine.specs.declared.side.Choice.{Choice}
use Rattle.gen1_machine.specs.Room.{advanced_to, after, choice_made, chosen, Course, ended_by, first_made, is_asked_to_pass, reply_to, Submission, Waiting, with_submission}
use Rattle.gen1_machine.specs.State.{is_over, is_pass, same_side}
use Rattle.gen1_player.specs.declared.teller.Teller.{Teller}
use Rattle.gen1_player.specs.Telling.{meets_all}
use Rattle.gen1_host.specs.Table.{after_row, Agreed, Cancel, current_pair, drawing, Ended, Ending, ends_as, Expire, first_due, Forfeit, Forfeited, goes_on, HasChosen, host_reply, HostReply, HouseRules, if_not_refused, is_closed, Kept, OfferDraw, OtherPair, Refused, reply_to_row, Row, Submit, Table, TableOver, taken_back, changed_by, draw_offered, submitted, first_byte}
use Rattle.gen1_host.specs.Messages.{chosen_at, message, own_at, Sent, own_by}
use Rattle.gen1_host.specs.Secrecy.{ends_pair, EndAlike, is_hidden, KeepsSecrets, Matches, Received, received, reply_for, SameRow, SameRows, Seen, seen_by, side_of}
use Rattle.gen1_host.proofs.QuietRows.{row_after, row_reply, same_number, seat, submit_settles, verdict, as_submission, cancel_reply, cancel_row_after, draw_reply, draw_row_after, draw_row_reply, drawn, late_reply, late_row_after, late_row_reply, foretold_submit, Foretold, hidden_submit, own_submit, pick, seat_seen, seen_submit, side_is, view, draw_quiet, foretold_cancel, forfeit_ends, hidden_cancel, late_quiet, off, on, own_cancel, seen_cancel, seen_draw}
use Rattle.gen1_machine.specs.declared.terms.Outcome.{Outcome}
use Rattle.gen1_player.specs.OwnSide.{own_side, OwnSide}
use Rattle.gen1_room.specs.Rooms.{submission_of}
use Rattle.gen1_machine.specs.declared.side.Choice.TheVariants as choices

-- A row that ends a pair: the reply to it, and whose choices are there after it.

-- Pass, of a side that is asked nothing
abbrev pub fresh : Sent → Option Choice
fresh m = if is_over m.own.outcome then None else if is_pass m.own.request then Some choices.Pass else None

pub record EndsIt (s : Side) (row : Row) (t : Table) : Type 0 where
  pub reply : reply_to_row row t ≡ Ended
  pub chosen : chosen_at s (after_row row t) ≡ fresh (message s (after_row row t))

-- a table that is closed

closed_fresh : (s : Side) (ending : Ending) (t : Table) → chosen_at s (ends_as ending t) ≡ fresh (message s (ends_as ending t))
closed_fresh s (Forfeited One) t = refl
closed_fresh s (Forfeited Two) t = refl
closed_fresh s Agreed t = refl

never : (n : ℕ) → not (n == n) ≡ true → ⊥
never n h = let no : false ≡ true = rw (same_number n) at h in cc

-- a pair that ended

since_ended : (d : Course) (one two : Option Choice) → ((ended_by d one two).number == d.number) ≡ false → (ended_by d one two).since ≡ []
since_ended d (Some one) (Some two) h = refl
since_ended d (Some one) None h = absurd (let no : true ≡ false = rw (same_number d.number) at h in cc)
since_ended d None two h = absurd (let no : true ≡ false = rw (same_number d.number) at h in cc)

after_since : (c : Course) (x : Submission) → is_over c.state.field.outcome ≡ false → ((after c x).number == c.number) ≡ false → (after c x).since ≡ []
unfolding after
after_since c x going h =
    let d = with_submission c x in
    let here : ((ended_by d (chosen One d) (chosen Two d)).number == d.number) ≡ false = rw going at h in
    rw going (since_ended d (chosen One d) (chosen Two d) here)

since_drawing : (n : Option Ring) (c : Course) (x : Submission) → is_over c.state.field.outcome ≡ false
    → ((after (drawing n c) x).number == c.number) ≡ false → (after (drawing n c) x).since ≡ []
since_drawing None c x going h = after_since c x going h
since_drawing (Some ring) c x going h = after_since (drawing (Some ring) c) x going h

fresh_seat : (s : Side) (d : Course) (a b : Teller) (w : Option Side) (k : HouseRules) → d.since ≡ []
    → chosen_at s (seat d a b w k) ≡ fresh (message s (seat d a b w k))
fresh_seat s d a b w k none = by (is_over d.state.field.outcome) (is_asked_to_pass s d) (ap (first_made s d) none)
  where
    by : (over pass : Bool) → first_made s d d.since ≡ None
        → (if over then None else if pass then Some choices.Pass else first_made s d d.since) ≡ (if over then None else if pass then Some choices.Pass else None)
    by true pass h = refl
    by false true h = refl
    by false false h = h

record SubmitEnds (s : Side) (r : HostReply) (new : Table) : Type 0 where
  pub reply : r ≡ Ended
  pub chosen : chosen_at s new ≡ fresh (message s new)

submit_ends : (s : Side) (same there none : Bool) (c : Course) (a b : Teller) (w : Option Side) (k : HouseRules) (d : Course)
    → ((d.number == c.number) ≡ false → d.since ≡ [])
    → not (current_pair (if_not_refused (verdict same there none c.number (host_reply (if d.number == c.number then Waiting else advanced_to d.state))) (seat c a b w k) (goes_on (seat c a b w k) d)) == c.number) ≡ true
    → SubmitEnds s (verdict same there none c.number (host_reply (if d.number == c.number then Waiting else advanced_to d.state)))
    (if_not_refused (verdict same there none c.number (host_reply (if d.number == c.number then Waiting else advanced_to d.state))) (seat c a b w k) (goes_on (seat c a b w k) d))
submit_ends s false there none c a b w k d since ends = absurd (never c.number ends)
submit_ends s true true none c a b w k d since ends = absurd (never c.number ends)
submit_ends s true false true c a b w k d since ends = absurd (never c.number ends)
submit_ends s true false false c a b w k d since ends = by (d.number == c.number) refl ends
  where
    by : (same : Bool) → (d.number == c.number) ≡ same
        → not (current_pair (if_not_refused (host_reply (if same then Waiting else advanced_to d.state)) (seat c a b w k) (goes_on (seat c a b w k) d)) == c.number) ≡ true
        → SubmitEnds s (host_reply (if same then Waiting else advanced_to d.state))
        (if_not_refused (host_reply (if same then Waiting else advanced_to d.state)) (seat c a b w k) (goes_on (seat c a b w k) d))
    by true here q = absurd (let no : false ≡ true = rw (here, here) at q in cc)
    by false here q = record { reply = refl; chosen = rw here (fresh_seat s d (meets_all c.events a) (meets_all c.events b) None k (since here)) }

ends_submit : (s : Side) (n : Option Ring) (x : Submission) (c : Course) (a b : Teller) (w : Option Side) (k : HouseRules) → is_over c.state.field.outcome ≡ false
    → ends_pair (Submit n x) (seat c a b w k) ≡ true → EndsIt s (Submit n x) (seat c a b w k)
ends_submit s n x c a b w k going ends =
    let is = submit_settles n x c a b w k going in
    let reply = row_reply n x c a b w k going in
    let table = row_after n x c a b w k going ∙ ap (λ (r : HostReply). if_not_refused r (seat c a b w k) (goes_on (seat c a b w k) (after (drawing n c) x))) is in
    let here = rw table at ends in
    let f = submit_ends s (x.number == c.number) (is_some (chosen x.side c)) (is_none (choice_made x.side c x)) c a b w k (after (drawing n c) x) (since_drawing n c x going) here in
    record { reply = reply ∙ is ∙ f.reply; chosen = subst (λ (t : Table). chosen_at s t ≡ fresh (message s t)) (sym table) f.chosen }

-- time that ran out

ends_late : (s : Side) (n : Option Ring) (side : Side) (number : ℕ) (c : Course) (a b : Teller) (w : Option Side) (k : HouseRules) → is_over c.state.field.outcome ≡ false
    → k.late_forfeits ≡ true → ends_pair (Expire n side number) (seat c a b w k) ≡ true → EndsIt s (Expire n side number) (seat c a b w k)
ends_late s n side number c a b w k going late ends =
    let table = late_row_after n side number c a b w k going late in
    let f = by (not (number == c.number)) (is_some (chosen side c)) (rw table at ends) in
    record {
      reply = late_row_reply n side number c a b w k going late ∙ f.reply;
      chosen = subst (λ (t : Table). chosen_at s t ≡ fresh (message s t)) (sym table) f.chosen;
    }
  where
    by : (differs there : Bool)
        → not (current_pair (if_not_refused (if differs then Refused (OtherPair c.number) else if there then Refused HasChosen else Ended) (seat c a b w k) (ends_as (Forfeited side) (seat c a b w k))) == c.number) ≡ true
        → SubmitEnds s (if differs then Refused (OtherPair c.number) else if there then Refused HasChosen else Ended)
        (if_not_refused (if differs then Refused (OtherPair c.number) else if there then Refused HasChosen else Ended) (seat c a b w k) (ends_as (Forfeited side) (seat c a b w k)))
    by true there q = absurd (never c.number q)
    by false true q = absurd (never c.number q)
    by false false q = record { reply = refl; chosen = closed_fresh s (Forfeited side) (seat c a b w k) }

ends_prompt : (s : Side) (n : Option Ring) (side : Side) (number : ℕ) (c : Course) (a b : Teller) (w : Option Side) (k : HouseRules) → is_over c.state.field.outcome ≡ false
    → k.late_forfeits ≡ false → ends_pair (Expire n side number) (seat c a b w k) ≡ true → EndsIt s (Expire n side number) (seat c a b w k)
ends_prompt s n side number c a b w k going prompt ends =
    let same = as_submission n side number c a b w k going prompt in
    let f = ends_submit s n (first_due side number (seat c a b w k)) c a b w k going (rw same.table at ends) in
    record { reply = same.reply ∙ f.reply; chosen = subst (λ (t : Table). chosen_at s t ≡ fresh (message s t)) (sym same.table) f.chosen }

-- the other rows

ends_cancel : (s side : Side) (number : ℕ) (c : Course) (a b : Teller) (w : Option Side) (k : HouseRules) → is_over c.state.field.outcome ≡ false
    → ends_pair (Cancel side number) (seat c a b w k) ≡ true → EndsIt s (Cancel side number) (seat c a b w k)
ends_cancel s side number c a b w k going ends = absurd (by (cancel_reply number side c k) (rw (cancel_row_after side number c a b w k going) at ends))
  where
    by : (r : HostReply) → not (current_pair (if_not_refused r (seat c a b w k) (taken_back side (seat c a b w k))) == c.number) ≡ true → ⊥
    by (Refused why) q = never c.number q
    by Kept q = never c.number q
    by Ended q = never c.number q

ends_draw : (s side : Side) (c : Course) (a b : Teller) (w : Option Side) (k : HouseRules) → is_over c.state.field.outcome ≡ false
    → ends_pair (OfferDraw side) (seat c a b w k) ≡ true → EndsIt s (OfferDraw side) (seat c a b w k)
ends_draw s side c a b w k going ends = by w (draw_row_reply side c a b w k going) (draw_row_after side c a b w k going) ends
  where
    by : (w : Option Side) → reply_to_row (OfferDraw side) (seat c a b w k) ≡ draw_reply side w
        → after_row (OfferDraw side) (seat c a b w k) ≡ if_not_refused (draw_reply side w) (seat c a b w k) (drawn side w (seat c a b w k))
        → ends_pair (OfferDraw side) (seat c a b w k) ≡ true → EndsIt s (OfferDraw side) (seat c a b w k)
    by None e f q = absurd (never c.number (rw f at q))
    by (Some o) e f q = two (same_side o side) refl
      where
        two : (same : Bool) → same_side o side ≡ same → EndsIt s (OfferDraw side) (seat c a b (Some o) k)
        two true is = absurd (never c.number (rw (f, is) at q))
        two false is = record { reply = rw is at e; chosen = subst (λ (t : Table). chosen_at s t ≡ fresh (message s t)) (sym (rw is at f)) (closed_fresh s Agreed (seat c a b (Some o) k)) }

ends_forfeit : (s side : Side) (c : Course) (a b : Teller) (w : Option Side) (k : HouseRules) → is_over c.state.field.outcome ≡ false → EndsIt s (Forfeit side) (seat c a b w k)
unfolding after_row reply_to_row
ends_forfeit s side c a b w k going = record { reply = rw going refl; chosen = rw going (closed_fresh s (Forfeited side) (seat c a b w k)) }

ends_seat : (s : Side) (row : Row) (c : Course) (a b : Teller) (w : Option Side) (k : HouseRules) → is_over c.state.field.outcome ≡ false
    → ends_pair row (seat c a b w k) ≡ true → EndsIt s row (seat c a b w k)
ends_seat s (Submit n x) c a b w k going ends = ends_submit s n x c a b w k going ends
ends_seat s (Cancel side number) c a b w k going ends = ends_cancel s side number c a b w k going ends
ends_seat s (OfferDraw side) c a b w k going ends = ends_draw s side c a b w k going ends
ends_seat s (Forfeit side) c a b w k going ends = ends_forfeit s side c a b w k going
ends_seat s (Expire n side number) c a b w k going ends = by k.late_forfeits refl
  where
    by : (late : Bool) → k.late_forfeits ≡ late → EndsIt s (Expire n side number) (seat c a b w k)
    by true e = ends_late s n side number c a b w k going e ends
    by false e = ends_prompt s n side number c a b w k going e ends

-- any table

pub record GoesOn (t : Table) : Type 0 where
  pub seated : t ≡ seat t.course t.one t.two t.draw t.rules
  pub going : is_over t.course.state.field.outcome ≡ false

pub goes : (t : Table) → is_closed t ≡ false → GoesOn t
goes t h = by t.ending (is_over t.course.state.field.outcome) refl refl h
  where
    by : (e : Option Ending) (over : Bool) → t.ending ≡ e → is_over t.course.state.field.outcome ≡ over → (is_some e || over) ≡ false → GoesOn t
    by None false e f q = record { seated = ap (λ (o : Option Ending). record { course = t.course; one = t.one; two = t.two; ending = o; draw = t.draw; rules = t.rules }) e; going = f }
    by None true e f q = absurd (let no : true ≡ false = q in cc)
    by (Some x) over e f q = absurd (let no : true ≡ false = q in cc)

pub closed_reply : (row : Row) (t : Table) → is_closed t ≡ true → reply_to_row row t ≡ Refused TableOver
unfolding reply_to_row
closed_reply row t h = rw h refl

pub closed_table : (row : Row) (t : Table) → is_closed t ≡ true → after_row row t ≡ t
unfolding after_row reply_to_row
closed_table row t h = rw h refl

pub ends_it : (s : Side) (row : Row) (t : Table) → ends_pair row t ≡ true → EndsIt s row t
ends_it s row t ends = by (is_closed t) refl
  where
    by : (closed : Bool) → is_closed t ≡ closed → EndsIt s row t
    by true e = absurd (never (current_pair t) (rw (closed_table row t e) at ends))
    by false e =
        let g = goes t e in
        subst (λ (u : Table). EndsIt s row u) (sym g.seated)
        (ends_seat s row t.course t.one t.two t.draw t.rules g.going (subst (λ (u : Table). ends_pair row u ≡ true) g.seated ends))

-- 1. What a side can predict of a row that ends no pair, from what it sees

abbrev due_submission : Side → ℕ → Seen → Submission
due_submission side number v = submission_of side number (first_byte (if is_some v.chosen then [] else v.message.choices))

abbrev foretold_late : ℕ → Seen → HostReply
foretold_late number v = if not (number == v.message.number) then Refused (OtherPair v.message.number) else if is_some v.chosen then Refused HasChosen else Ended

abbrev foretold : Row → Seen → HostReply
foretold (Submit n x) v = foretold_submit x v
foretold (Cancel side number) v = foretold_cancel number v
foretold (Expire n side number) v = if v.rules.late_forfeits then foretold_late number v else foretold_submit (due_submission side number v) v
foretold (OfferDraw side) v = Kept
foretold (Forfeit side) v = Ended

abbrev seen_next : Row → Seen → Seen
seen_next (Submit n x) v = seen_submit x v
seen_next (Cancel side number) v = seen_cancel number v
seen_next (Expire n side number) v = if v.rules.late_forfeits then v else seen_submit (due_submission side number v) v
seen_next (OfferDraw side) v = seen_draw side v
seen_next (Forfeit side) v = v

record Foreseen (s : Side) (row : Row) (t : Table) (v : Seen) : Type 0 where
  pub reply : same_side (side_of row) s ≡ true → reply_to_row row t ≡ foretold row v
  pub seen : seen_by s (after_row row t) ≡ (if is_hidden s row then v else seen_next row v)

pub no_truth : false ≡ true → ⊥
no_truth h = cc

foresee : (s : Side) (row : Row) (c : Course) (a b : Teller) (w : Option Side) (k : HouseRules) → is_over c.state.field.outcome ≡ false
    → ends_pair row (seat c a b w k) ≡ false → Foreseen s row (seat c a b w k) (view s c (pick s a b) w k)
foresee s (Submit n x) c a b w k going quiet = by (same_side x.side s) refl
  where
    by : (own : Bool) → same_side x.side s ≡ own → Foreseen s (Submit n x) (seat c a b w k) (view s c (pick s a b) w k)
    by true e = let f = own_submit s n x c a b w k going quiet e in record { reply = λ own. f.reply; seen = rw e f.seen }
    by false e = record { reply = λ own. absurd (no_truth (sym e ∙ own)); seen = rw e (hidden_submit s n x c a b w k going quiet e) }
foresee s (Cancel side number) c a b w k going quiet = by (same_side side s) refl
  where
    by : (own : Bool) → same_side side s ≡ own → Foreseen s (Cancel side number) (seat c a b w k) (view s c (pick s a b) w k)
    by true e =
        subst (λ (r : Side). Foreseen s (Cancel r number) (seat c a b w k) (view s c (pick s a b) w k)) (sym (side_is side s e))
        (let f = own_cancel s number c a b w k going in record { reply = λ own. f.reply; seen = rw (subst (λ (r : Side). same_side r s ≡ true) (side_is side s e) e) f.seen })
    by false e = record { reply = λ own. absurd (no_truth (sym e ∙ own)); seen = rw e (hidden_cancel s side number c a b w k going e) }
foresee s (Expire n side number) c a b w k going quiet = by (same_side side s) k.late_forfeits refl refl
  where
    v : Seen
    v = view s c (pick s a b) w k

    by : (own late : Bool) → same_side side s ≡ own → k.late_forfeits ≡ late → Foreseen s (Expire n side number) (seat c a b w k) (view s c (pick s a b) w k)
    by true true e l =
        let f = late_quiet n side number c a b w k going l quiet in
        record {
          reply = λ own.
              subst (λ (r : Side). reply_to_row (Expire n side number) (seat c a b w k) ≡ foretold_late number (view r c (pick s a b) w k)) (side_is side s e) f.reply
              ∙ sym (on k.late_forfeits (foretold_late number v) (foretold_submit (due_submission side number v) v) l);
          seen = rw e (ap (seen_by s) f.table ∙ seat_seen s c a b w k going ∙ sym (on k.late_forfeits v (seen_submit (due_submission side number v) v) l));
        }
    by false true e l =
        let f = late_quiet n side number c a b w k going l quiet in
        record { reply = λ own. absurd (no_truth (sym e ∙ own)); seen = rw e (ap (seen_by s) f.table ∙ seat_seen s c a b w k going) }
    by true false e l =
        let same = as_submission n side number c a b w k going l in
        let f = own_submit s n (first_due side number (seat c a b w k)) c a b w k going (subst (λ (t : Table). not (current_pair t == c.number) ≡ false) same.table quiet) e in
        let is : first_due side number (seat c a b w k) ≡ due_submission side number (view s c (pick s a b) w k) = due_is side s e in
        record {
          reply = λ own.
              same.reply ∙ f.reply ∙ ap (λ (x : Submission). foretold_submit x v) is
              ∙ sym (off k.late_forfeits (foretold_late number v) (foretold_submit (due_submission side number v) v) l);
          seen = rw e (ap (seen_by s) same.table ∙ f.seen ∙ ap (λ (x : Submission). seen_submit x v) is
              ∙ sym (off k.late_forfeits v (seen_submit (due_submission side number v) v) l));
        }
      where
        due_is : (r s : Side) → same_side r s ≡ true → first_due r number (seat c a b w k) ≡ due_submission r number (view s c (pick s a b) w k)
        due_is One One h = refl
        due_is Two Two h = refl
        due_is One Two h = absurd (no_truth h)
        due_is Two One h = absurd (no_truth h)
    by false false e l =
        let same = as_submission n side number c a b w k going l in
        record {
          reply = λ own. absurd (no_truth (sym e ∙ own));
          seen = rw e (ap (seen_by s) same.table ∙ hidden_submit s n (first_due side number (seat c a b w k)) c a b w k going (subst (λ (t : Table). not (current_pair t == c.number) ≡ false) same.table quiet) e);
        }
foresee s (OfferDraw side) c a b w k going quiet = by (same_side side s) (draw_quiet s side c a b w k going quiet)
  where
    visible : (own : Bool) → seen_draw side (view s c (pick s a b) w k) ≡ (if (if own then false else false) then view s c (pick s a b) w k else seen_draw side (view s c (pick s a b) w k))
    visible true = refl
    visible false = refl

    by : (own : Bool) → Foretold s (OfferDraw side) (seat c a b w k) Kept (seen_draw side (view s c (pick s a b) w k))
        → Foreseen s (OfferDraw side) (seat c a b w k) (view s c (pick s a b) w k)
    by own f = record { reply = λ it. f.reply; seen = f.seen ∙ visible (same_side side s) }
foresee s (Forfeit side) c a b w k going quiet = absurd (no_truth (sym quiet ∙ forfeit_ends side c a b w k going))

-- 2. Any table

closed_own : (s : Side) (t : Table) → is_over (own_at s t).outcome ≡ is_closed t
closed_own s t = by t.ending (own_side s t.course.state.field)
  where
    by : (e : Option Ending) (o : OwnSide)
        → is_over (elim e as (λ _. OwnSide) [ Some ending ↦ own_by ending o | None ↦ o ]).outcome ≡ (is_some e || is_over o.outcome)
    by None o = refl
    by (Some (Forfeited One)) o = refl
    by (Some (Forfeited Two)) o = refl
    by (Some Agreed) o = refl

abbrev next_seen : Side → Row → Seen → Seen
next_seen s row v = if is_over v.message.own.outcome then v else if is_hidden s row then v else seen_next row v

abbrev next_reply : Side → Row → Seen → Option HostReply
next_reply s row v = if same_side (side_of row) s then Some (if is_over v.message.own.outcome then Refused TableOver else foretold row v) else None

record Next (s : Side) (row : Row) (t : Table) : Type 0 where
  pub seen : seen_by s (after_row row t) ≡ next_seen s row (seen_by s t)
  pub reply : reply_for s row t ≡ next_reply s row (seen_by s t)

next_in : (s : Side) (row : Row) (c : Course) (a b : Teller) (w : Option Side) (k : HouseRules) → is_over c.state.field.outcome ≡ false
    → ends_pair row (seat c a b w k) ≡ false → Next s row (seat c a b w k)
next_in s row c a b w k going quiet =
    let f = foresee s row c a b w k going quiet in
    let v = seat_seen s c a b w k going in
    record {
      seen = f.seen ∙ subst (λ (u : Seen). (if is_hidden s row then view s c (pick s a b) w k else seen_next row (view s c (pick s a b) w k)) ≡ next_seen s row u) (sym v) (rw going refl);
      reply = by (same_side (side_of row) s) f.reply ∙ subst (λ (u : Seen). (if same_side (side_of row) s then Some (foretold row (view s c (pick s a b) w k)) else None) ≡ next_reply s row u) (sym v) (rw going refl);
    }
  where
    by : (own : Bool) → (own ≡ true → reply_to_row row (seat c a b w k) ≡ foretold row (view s c (pick s a b) w k))
        → (if own then Some (reply_to_row row (seat c a b w k)) else None) ≡ (if own then Some (foretold row (view s c (pick s a b) w k)) else None)
    by true h = ap (λ (r : HostReply). Some r) (h refl)
    by false h = refl

next : (s : Side) (row : Row) (t : Table) → ends_pair row t ≡ false → Next s row t
next s row t quiet = by (is_closed t) refl
  where
    by : (closed : Bool) → is_closed t ≡ closed → Next s row t
    by true e =
        let over = closed_own s t ∙ e in
        record {
          seen = rw over (ap (seen_by s) (closed_table row t e));
          reply = rw over (ap (λ (r : HostReply). if same_side (side_of row) s then Some r else None) (closed_reply row t e));
        }
    by false e =
        let g = goes t e in
        subst (λ (u : Table). Next s row u) (sym g.seated)
        (next_in s row t.course t.one t.two t.draw t.rules g.going (subst (λ (u : Table). ends_pair row u ≡ false) g.seated quiet))

-- 3. Rows that a side can't tell apart

record Alike (s : Side) (r q : Row) : Type 0 where
  pub own : same_side (side_of r) s ≡ same_side (side_of q) s
  pub seen : (v : Seen) → next_seen s r v ≡ next_seen s q v
  pub reply : (v : Seen) → next_reply s r v ≡ next_reply s q v

itself : (s : Side) (r : Row) → Alike s r r
itself s r = record { own = refl; seen = λ v. refl; reply = λ v. refl }

matching : (s : Side) (r q : Row) → Matches r q → Alike s r q
matching s (Submit n x) (Submit m y) h = subst (λ (z : Submission). Alike s (Submit n x) (Submit m z)) h (record { own = refl; seen = λ v. refl; reply = λ v. refl })
matching s (Expire n side number) (Expire m by pair) h =
    subst (λ (z : Side). Alike s (Expire n side number) (Expire m z pair)) h.0
    (subst (λ (z : ℕ). Alike s (Expire n side number) (Expire m side z)) h.1 (record { own = refl; seen = λ v. refl; reply = λ v. refl }))
matching s r q h = subst (λ (z : Row). Alike s r z) h (itself s r)

hidden_away : (own secret : Bool) → (if own then false else secret) ≡ true → own ≡ false
hidden_away true secret h = absurd (no_truth h)
hidden_away false secret h = refl

away : (s : Side) (r : Row) → is_hidden s r ≡ true → same_side (side_of r) s ≡ false
away s (Submit n x) h = hidden_away (same_side x.side s) true h
away s (Cancel side number) h = hidden_away (same_side side s) true h
away s (Expire n side number) h = hidden_away (same_side side s) true h
away s (OfferDraw side) h = hidden_away (same_side side s) false h
away s (Forfeit side) h = hidden_away (same_side side s) false h

alike : (s : Side) (rows : Row × Row) → SameRow s rows → Alike s rows.0 rows.1
alike s rows (inl h) = matching s rows.0 rows.1 h
alike s rows (inr h) =
    let a = away s rows.0 h.0 in
    let b = away s rows.1 h.1 in
    record { own = a ∙ sym b; seen = λ v. rw (h.0, h.1) refl; reply = λ v. rw (a, b) refl }

-- 4. One row at two tables

stays_by : (r : HostReply) (old new : Table) → new.rules ≡ old.rules → (if_not_refused r old new).rules ≡ old.rules
stays_by (Refused why) old new h = refl
stays_by Kept old new h = h
stays_by Ended old new h = h

record Step (s : Side) (r q : Row) (t u : Table) : Type 0 where
  pub seen : seen_by s (after_row r t) ≡ seen_by s (after_row q u)
  pub reply : reply_for s r t ≡ reply_for s q u

quiet_step : (s : Side) (rows : Row × Row) (t u : Table) → seen_by s t ≡ seen_by s u → Alike s rows.0 rows.1
    → ends_pair rows.0 t ≡ false → ends_pair rows.1 u ≡ false → Step s rows.0 rows.1 t u
quiet_step s rows t u same k a b =
    let f = next s rows.0 t a in
    let g = next s rows.1 u b in
    record {
      seen = f.seen ∙ k.seen (seen_by s t) ∙ ap (next_seen s rows.1) same ∙ sym g.seen;
      reply = f.reply ∙ k.reply (seen_by s t) ∙ ap (next_reply s rows.1) same ∙ sym g.reply;
    }

goes_rules : (t : Table) (c : Course) → (goes_on t c).rules ≡ t.rules
goes_rules t c = by (c.number == t.course.number)
  where
    by : (same : Bool)
        → (if same then record t { course = c } else record t { course = c; one = meets_all t.course.events t.one; two = meets_all t.course.events t.two; draw = None }).rules ≡ t.rules
    by true = refl
    by false = refl

changed_rules : (row : Row) (t : Table) → (changed_by row t).rules ≡ t.rules
changed_rules (Submit n x) t = goes_rules t (after (drawing n t.course) x)
changed_rules (Cancel side number) t = refl
changed_rules (Expire n side number) t = by t.rules.late_forfeits
  where
    by : (late : Bool) → (if late then ends_as (Forfeited side) t else submitted n (first_due side number t) t).rules ≡ t.rules
    by true = refl
    by false = goes_rules t (after (drawing n t.course) (first_due side number t))
changed_rules (OfferDraw side) t = by t.draw
  where
    two : (o : Side) (same : Bool) → (if same then t else ends_as Agreed t).rules ≡ t.rules
    two o true = refl
    two o false = refl

    by : (w : Option Side) → (elim w as (λ _. Table) [ Some o ↦ if same_side o side then t else ends_as Agreed t | None ↦ record t { draw = Some side } ]).rules ≡ t.rules
    by None = refl
    by (Some o) = two o (same_side o side)
changed_rules (Forfeit side) t = refl

rules_stay : (row : Row) (t : Table) → (after_row row t).rules ≡ t.rules
unfolding after_row
rules_stay row t = stays_by (reply_to_row row t) t (changed_by row t) (changed_rules row t)

abbrev seen_with : Sent → Option Choice → HouseRules → Seen
seen_with m a k = record { message = m; chosen = a; rules = k }

seen_of : (m n : Sent) (a b : Option Choice) (k l : HouseRules) → m ≡ n → a ≡ b → k ≡ l
    → seen_with m a k ≡ seen_with n b l
seen_of m n a b k l e f g = rw (e, f, g) refl

ending_step : (s : Side) (rows : Row × Row) (t u : Table) → seen_by s t ≡ seen_by s u → Alike s rows.0 rows.1
    → message s (after_row rows.0 t) ≡ message s (after_row rows.1 u) → ends_pair rows.0 t ≡ true → ends_pair rows.1 u ≡ true → Step s rows.0 rows.1 t u
ending_step s rows t u same k sent a b =
    let f = ends_it s rows.0 t a in
    let g = ends_it s rows.1 u b in
    record {
      seen = seen_of (message s (after_row rows.0 t)) (message s (after_row rows.1 u)) (chosen_at s (after_row rows.0 t)) (chosen_at s (after_row rows.1 u))
          (after_row rows.0 t).rules (after_row rows.1 u).rules sent (f.chosen ∙ ap fresh sent ∙ sym g.chosen)
          (rules_stay rows.0 t ∙ ap (λ (v : Seen). v.rules) same ∙ sym (rules_stay rows.1 u));
      reply =
          ap (λ (r : HostReply). if same_side (side_of rows.0) s then Some r else None) f.reply
          ∙ ap (λ (own : Bool). if own then Some Ended else None) k.own
          ∙ sym (ap (λ (r : HostReply). if same_side (side_of rows.1) s then Some r else None) g.reply);
    }

-- where the same is sent, both pairs end or neither
ends_both : (s : Side) (rows : Row × Row) (t u : Table) → seen_by s t ≡ seen_by s u
    → message s (after_row rows.0 t) ≡ message s (after_row rows.1 u) → ends_pair rows.0 t ≡ ends_pair rows.1 u
ends_both s rows t u same sent =
    ap (λ (n : ℕ). not (n == current_pair t)) (ap (λ (m : Sent). m.number) sent)
    ∙ ap (λ (n : ℕ). not (current_pair (after_row rows.1 u) == n)) (ap (λ (v : Seen). v.message.number) same)

step : (s : Side) (rows : Row × Row) (t u : Table) → seen_by s t ≡ seen_by s u → SameRow s rows
    → ((ends_pair rows.0 t || ends_pair rows.1 u) ≡ true → message s (after_row rows.0 t) ≡ message s (after_row rows.1 u)) → Step s rows.0 rows.1 t u
step s rows t u same h ends = by (ends_pair rows.0 t) (ends_pair rows.1 u) refl refl ends
  where
    k : Alike s rows.0 rows.1
    k = alike s rows h

    by : (a b : Bool) → ends_pair rows.0 t ≡ a → ends_pair rows.1 u ≡ b
        → ((a || b) ≡ true → message s (after_row rows.0 t) ≡ message s (after_row rows.1 u)) → Step s rows.0 rows.1 t u
    by false false e f q = quiet_step s rows t u same k e f
    by true b e f q = let sent = q refl in ending_step s rows t u same k sent e (sym (ends_both s rows t u same sent) ∙ e)
    by false true e f q = let sent = q refl in ending_step s rows t u same k sent (ends_both s rows t u same sent ∙ f) f

-- 5. All rows

abbrev received_more : Option HostReply → Seen → List Received → List Received
received_more a v l = record { reply = a; seen = v } ∷ l

received_with : (a b : Option HostReply) (v w : Seen) (l m : List Received) → a ≡ b → v ≡ w → l ≡ m → received_more a v l ≡ received_more b w m
received_with a b v w l m e f g = rw (e, f, g) refl

pub keeps_secrets : KeepsSecrets
unfolding received
keeps_secrets s [] t u same rows ends = refl
keeps_secrets s (two ∷ more) t u same rows ends =
    let it = step s two t u same rows.0 ends.0 in
    received_with (reply_for s two.0 t) (reply_for s two.1 u) (seen_by s (after_row two.0 t)) (seen_by s (after_row two.1 u))
    (received s (map (λ (it : Row × Row). it.0) more) (after_row two.0 t)) (received s (map (λ (it : Row × Row). it.1) more) (after_row two.1 u))
    it.reply it.seen (keeps_secrets s more (after_row two.0 t) (after_row two.1 u) it.seen rows.1 ends.1)
