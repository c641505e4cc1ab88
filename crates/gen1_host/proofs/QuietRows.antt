-- Rows other than submissions, and the rows of both kinds together: what a side sees of each that ends no pair.
use Rattle.std.proofs.Common.{Bool, List, None, Option, Some, [], ap, arith, false, inl, inr, is_some, refl, subst, sym, true, ℕ, ◌++◌, ◌+◌, ◌==◌, ◌≡◌, ◌∙◌, ◌∷◌, ◌⊎◌, ◌&&◌, ◌||◌}
use Rattle.std.specs.Prelude.{filter, if◌then◌else◌, is_none, not, cond}
use Rattle.std.proofs.lemmas.Bool.Decides.{nat_tests}
use Rattle.gen1_rolls.specs.Steady.{Ring}
use Rattle.gen1_machine.specs.declared.side.Side.{Side}
use Rattle.gen1_machine.specs.declared.side.Side.TheVariants.{One, Two}
use Rattle.gen1_machine.specs.declared.side.Choice.{Choice}
use Rattle.gen1_machine.specs.OfferedChoices.{offered}
use Rattle.gen1_machine.specs.Room.{after, choice_by_byte, choice_made, chosen, Course, ended_by, first_made, is_asked_to_pass, advanced_to, AlreadyChosen, ChoiceNotOffered, reply_to, reply_to_choice, Stale, Submission, TurnedAway, Waiting, with_submission}
use Rattle.gen1_machine.specs.State.{is_over, same_side, is_pass}
use Rattle.gen1_player.specs.declared.teller.Teller.{Teller}
use Rattle.gen1_player.specs.OwnSide.{own_side}
use Rattle.gen1_player.specs.Telling.{told_all}
use Rattle.gen1_room.specs.Rooms.{due, submission_of}
use Rattle.gen1_room.proofs.Rooms.{chosen_more, or_else}
use Rattle.gen1_host.specs.Table.{after_row, Cancel, changed_by, current_pair, drawing, Ended, Ending, Expire, first_byte, first_due, Forfeit, goes_on, has_none_to_cancel, HasChosen, host_reply, HostReply, HouseRules, if_not_refused, is_by, is_closed, Kept, NotAllowed, NothingChosen, NotOffered, OfferDraw, OtherPair, Refused, reply_in_turn, reply_to_row, reply_to_submission, Row, Submit, submitted, Table, TableOver, taken_back, ends_as, Forfeited, Agreed}
use Rattle.gen1_host.specs.Messages.{chosen_at, message, Sent, teller}
use Rattle.gen1_host.specs.Secrecy.{ends_pair, is_hidden, Matches, Seen, seen_by, side_of}
use Rattle.gen1_machine.specs.declared.side.Choice.TheVariants as choices

-- Unless a row ends a pair, what a side sees after it follows from what it saw before.

pub same_number : (n : ℕ) → (n == n) ≡ true
same_number n = grind (arith, nat_tests)

pub itself : (s : Side) → same_side s s ≡ true
itself One = refl
itself Two = refl

-- an open table

abbrev pub seat : Course → Teller → Teller → Option Side → HouseRules → Table
seat c a b w k = record { course = c; one = a; two = b; ending = None; draw = w; rules = k }

abbrev pub pick : Side → Teller → Teller → Teller
pick One a b = a
pick Two a b = b

pub teller_is : (s : Side) (c : Course) (a b : Teller) (w : Option Side) (k : HouseRules) → teller s (seat c a b w k) ≡ pick s a b
teller_is One c a b w k = refl
teller_is Two c a b w k = refl

abbrev pub view : Side → Course → Teller → Option Side → HouseRules → Seen
view s c t w k = record {
  message = record {
    number = c.number;
    events = told_all c.events t;
    own = own_side s c.state.field;
    choices = offered s c.state.field;
    draw = w;
  };
  chosen = chosen s c;
  rules = k;
}

pub seat_seen : (s : Side) (c : Course) (a b : Teller) (w : Option Side) (k : HouseRules) → is_over c.state.field.outcome ≡ false
    → seen_by s (seat c a b w k) ≡ view s c (pick s a b) w k
seat_seen s c a b w k going = rw (going, teller_is s c a b w k) refl

-- other numbers to draw change nothing that is seen

first_same : (s : Side) (c d : Course) (l : List Submission) → ((x : Submission) → choice_made s d x ≡ choice_made s c x) → first_made s d l ≡ first_made s c l
first_same s c d [] h = refl
first_same s c d (x ∷ l) h = by (choice_made s d x) (choice_made s c x) (h x) (first_same s c d l h)
  where
    by : (a b : Option Choice) → a ≡ b → first_made s d l ≡ first_made s c l
        → elim a as (λ _. Option Choice) [ Some y ↦ Some y | None ↦ first_made s d l ] ≡ elim b as (λ _. Option Choice) [ Some y ↦ Some y | None ↦ first_made s c l ]
    by None None e h = h
    by (Some y) (Some z) e h = e
    by None (Some z) e h = absurd (cc)
    by (Some y) None e h = absurd (cc)

pub chosen_drawing : (s : Side) (n : Option Ring) (c : Course) → chosen s (drawing n c) ≡ chosen s c
chosen_drawing s None c = refl
chosen_drawing s (Some ring) c = by (is_asked_to_pass s c) (first_same s c (drawing (Some ring) c) c.since (λ x. refl))
  where
    by : (b : Bool) → first_made s (drawing (Some ring) c) c.since ≡ first_made s c c.since
        → (if b then Some choices.Pass else first_made s (drawing (Some ring) c) c.since) ≡ (if b then Some choices.Pass else first_made s c c.since)
    by true h = refl
    by false h = h

-- a submission after which the same pair is current

abbrev pub made_from : Seen → Submission → Option Choice
made_from v x = if x.number == v.message.number then choice_by_byte x.byte v.message.choices else None

abbrev pub verdict : Bool → Bool → Bool → ℕ → HostReply → HostReply
verdict same there none n rest =
    if not same then Refused (OtherPair n) else if there then Refused HasChosen else if none then Refused NotOffered else rest

pub reply_is : (c : Course) (x : Submission) → is_over c.state.field.outcome ≡ false
    → host_reply (reply_to c x)
    ≡ verdict (x.number == c.number) (is_some (chosen x.side c)) (is_none (choice_made x.side c x)) c.number (host_reply (reply_to_choice c (after c x)))
unfolding reply_to
reply_is c x going = rw going (by (x.number == c.number) (is_some (chosen x.side c)) (is_none (choice_made x.side c x)))
  where
    by : (same there none : Bool)
        → host_reply (if not same then TurnedAway (Stale c.number) else if there then TurnedAway AlreadyChosen else if none then TurnedAway ChoiceNotOffered else reply_to_choice c (after c x))
        ≡ verdict same there none c.number (host_reply (reply_to_choice c (after c x)))
    by false there none = refl
    by true true none = refl
    by true false true = refl
    by true false false = refl

pub equal : (m n : ℕ) → (m == n) ≡ true → m ≡ n
equal m n h = grind (arith, nat_tests)

pub drawing_number : (n : Option Ring) (c : Course) → (drawing n c).number ≡ c.number
drawing_number None c = refl
drawing_number (Some ring) c = refl

drawing_over : (n : Option Ring) (c : Course) → (drawing n c).state.field ≡ c.state.field
drawing_over None c = refl
drawing_over (Some ring) c = refl

pub made_drawing : (s : Side) (n : Option Ring) (c : Course) (x : Submission) → choice_made s (drawing n c) x ≡ choice_made s c x
made_drawing s None c x = refl
made_drawing s (Some ring) c x = refl

kept_by : (d : Course) (one two : Option Choice) → (ended_by d one two).number ≡ d.number → ended_by d one two ≡ d
kept_by d (Some one) (Some two) h = absurd (omega arith)
kept_by d (Some one) None h = refl
kept_by d None two h = refl

-- where a submission ends no pair, it is kept
pub still : (c : Course) (x : Submission) → is_over c.state.field.outcome ≡ false → (after c x).number ≡ c.number → after c x ≡ with_submission c x
unfolding after
still c x going h =
    let d = with_submission c x in
    let here : (ended_by d (chosen One d) (chosen Two d)).number ≡ d.number = rw going at h in
    rw going (kept_by d (chosen One d) (chosen Two d) here)

pub row_reply : (n : Option Ring) (x : Submission) (c : Course) (a b : Teller) (w : Option Side) (k : HouseRules) → is_over c.state.field.outcome ≡ false
    → reply_to_row (Submit n x) (seat c a b w k) ≡ host_reply (reply_to (drawing n c) x)
unfolding reply_to_row
row_reply n x c a b w k going = rw going refl

pub row_after : (n : Option Ring) (x : Submission) (c : Course) (a b : Teller) (w : Option Side) (k : HouseRules) → is_over c.state.field.outcome ≡ false
    → after_row (Submit n x) (seat c a b w k)
    ≡ if_not_refused (host_reply (reply_to (drawing n c) x)) (seat c a b w k) (goes_on (seat c a b w k) (after (drawing n c) x))
unfolding after_row reply_to_row
row_after n x c a b w k going = rw going refl

pub record Settled (r : HostReply) (new : Table) (v : HostReply) (old kept : Table) : Type 0 where
  pub reply : r ≡ v
  pub table : new ≡ if_not_refused v old kept

settles : (same there none : Bool) (c : Course) (a b : Teller) (w : Option Side) (k : HouseRules) (d e : Course)
    → (d.number ≡ c.number → d ≡ e)
    → not (current_pair (if_not_refused (verdict same there none c.number (host_reply (if d.number == c.number then Waiting else advanced_to d.state))) (seat c a b w k) (goes_on (seat c a b w k) d)) == c.number) ≡ false
    → Settled (verdict same there none c.number (host_reply (if d.number == c.number then Waiting else advanced_to d.state)))
    (if_not_refused (verdict same there none c.number (host_reply (if d.number == c.number then Waiting else advanced_to d.state))) (seat c a b w k) (goes_on (seat c a b w k) d))
    (verdict same there none c.number Kept) (seat c a b w k) (seat e a b w k)
settles false there none c a b w k d e keeps quiet = record { reply = refl; table = refl }
settles true true none c a b w k d e keeps quiet = record { reply = refl; table = refl }
settles true false true c a b w k d e keeps quiet = record { reply = refl; table = refl }
settles true false false c a b w k d e keeps quiet = by (d.number == c.number) refl quiet
  where
    by : (same : Bool) → (d.number == c.number) ≡ same
        → not (current_pair (if_not_refused (host_reply (if same then Waiting else advanced_to d.state)) (seat c a b w k) (goes_on (seat c a b w k) d)) == c.number) ≡ false
        → Settled (host_reply (if same then Waiting else advanced_to d.state))
        (if_not_refused (host_reply (if same then Waiting else advanced_to d.state)) (seat c a b w k) (goes_on (seat c a b w k) d))
        Kept (seat c a b w k) (seat e a b w k)
    by true here q = record { reply = refl; table = rw here (ap (λ (y : Course). seat y a b w k) (keeps (equal d.number c.number here))) }
    by false here q = absurd (let no : true ≡ false = rw (here, here) at q in cc)

pub submit_settles : (n : Option Ring) (x : Submission) (c : Course) (a b : Teller) (w : Option Side) (k : HouseRules) → is_over c.state.field.outcome ≡ false
    → host_reply (reply_to (drawing n c) x)
    ≡ verdict (x.number == c.number) (is_some (chosen x.side c)) (is_none (choice_made x.side c x)) c.number
    (host_reply (if (after (drawing n c) x).number == c.number then Waiting else advanced_to (after (drawing n c) x).state))
submit_settles None x c a b w k going = reply_is c x going
submit_settles (Some ring) x c a b w k going =
    reply_is (drawing (Some ring) c) x going
    ∙ ap (λ (o : Option Choice). verdict (x.number == c.number) (is_some o) (is_none (choice_made x.side c x)) c.number
    (host_reply (if (after (drawing (Some ring) c) x).number == c.number then Waiting else advanced_to (after (drawing (Some ring) c) x).state))) (chosen_drawing x.side (Some ring) c)

still_drawing : (n : Option Ring) (c : Course) (x : Submission) → is_over c.state.field.outcome ≡ false
    → (after (drawing n c) x).number ≡ c.number → after (drawing n c) x ≡ with_submission (drawing n c) x
still_drawing None c x going h = still c x going h
still_drawing (Some ring) c x going h = still (drawing (Some ring) c) x going h

abbrev pub kept_seat : Option Ring → Submission → Course → Teller → Teller → Option Side → HouseRules → Table
kept_seat n x c a b w k = seat (with_submission (drawing n c) x) a b w k

abbrev pub verdict_on : Submission → Course → HostReply
verdict_on x c = verdict (x.number == c.number) (is_some (chosen x.side c)) (is_none (choice_made x.side c x)) c.number Kept

pub submit_quiet : (n : Option Ring) (x : Submission) (c : Course) (a b : Teller) (w : Option Side) (k : HouseRules) → is_over c.state.field.outcome ≡ false
    → ends_pair (Submit n x) (seat c a b w k) ≡ false
    → Settled (reply_to_row (Submit n x) (seat c a b w k)) (after_row (Submit n x) (seat c a b w k)) (verdict_on x c) (seat c a b w k) (kept_seat n x c a b w k)
submit_quiet n x c a b w k going quiet =
    let is = submit_settles n x c a b w k going in
    let reply = row_reply n x c a b w k going in
    let table = row_after n x c a b w k going in
    let here = rw (table, is) at quiet in
    let f = settles (x.number == c.number) (is_some (chosen x.side c)) (is_none (choice_made x.side c x)) c a b w k (after (drawing n c) x) (with_submission (drawing n c) x) (still_drawing n c x going) here in
    record {
      reply = reply ∙ is ∙ f.reply;
      table = table ∙ ap (λ (r : HostReply). if_not_refused r (seat c a b w k) (goes_on (seat c a b w k) (after (drawing n c) x))) is ∙ f.table;
    }

-- what is seen of a table that keeps a submission
seen_more : (s : Side) (n : Option Ring) (x : Submission) (c : Course) (a b : Teller) (w : Option Side) (k : HouseRules) → is_over c.state.field.outcome ≡ false
    → seen_by s (kept_seat n x c a b w k) ≡ record (view s c (pick s a b) w k) { chosen = or_else (chosen s c) (choice_made s c x) }
seen_more s None x c a b w k going =
    seat_seen s (with_submission c x) a b w k going ∙ ap (λ (o : Option Choice). record (view s c (pick s a b) w k) { chosen = o }) (chosen_more s c x)
seen_more s (Some ring) x c a b w k going =
    seat_seen s (with_submission (drawing (Some ring) c) x) a b w k going
    ∙ ap (λ (o : Option Choice). record (view s c (pick s a b) w k) { chosen = o })
    (chosen_more s (drawing (Some ring) c) x ∙ ap (λ (o : Option Choice). or_else o (choice_made s c x)) (chosen_drawing s (Some ring) c))

-- of the other side's submission nothing is seen

made_other : (s : Side) (c : Course) (x : Submission) → same_side x.side s ≡ false → choice_made s c x ≡ None
made_other s c x h = rw h refl

or_none : (o : Option Choice) → or_else o None ≡ o
or_none None = refl
or_none (Some x) = refl

pub unless_refused : (s : Side) (r : HostReply) (old new : Table) (v : Seen) → seen_by s old ≡ v → seen_by s new ≡ v → seen_by s (if_not_refused r old new) ≡ v
unless_refused s (Refused why) old new v e f = e
unless_refused s Kept old new v e f = f
unless_refused s Ended old new v e f = f

pub hidden_submit : (s : Side) (n : Option Ring) (x : Submission) (c : Course) (a b : Teller) (w : Option Side) (k : HouseRules) → is_over c.state.field.outcome ≡ false
    → ends_pair (Submit n x) (seat c a b w k) ≡ false → same_side x.side s ≡ false
    → seen_by s (after_row (Submit n x) (seat c a b w k)) ≡ view s c (pick s a b) w k
hidden_submit s n x c a b w k going quiet away =
    let f = submit_quiet n x c a b w k going quiet in
    let more = seen_more s n x c a b w k going ∙ ap (λ (o : Option Choice). record (view s c (pick s a b) w k) { chosen = o })
    (ap (or_else (chosen s c)) (made_other s c x away) ∙ or_none (chosen s c)) in
    ap (seen_by s) f.table ∙ unless_refused s (verdict_on x c) (seat c a b w k) (kept_seat n x c a b w k) (view s c (pick s a b) w k) (seat_seen s c a b w k going) more

-- the own submission

abbrev pub if_kept : HostReply → Seen → Seen → Seen
if_kept (Refused why) old new = old
if_kept _ old new = new

abbrev pub foretold_submit : Submission → Seen → HostReply
foretold_submit x v = verdict (x.number == v.message.number) (is_some v.chosen) (is_none (made_from v x)) v.message.number Kept

abbrev pub seen_submit : Submission → Seen → Seen
seen_submit x v = if_kept (foretold_submit x v) v (record v { chosen = made_from v x })

own_by : (s : Side) (same : Bool) (o m : Option Choice) (n : ℕ) (old new : Table) (v : Seen) → seen_by s old ≡ v → seen_by s new ≡ record v { chosen = or_else o m }
    → seen_by s (if_not_refused (verdict same (is_some o) (is_none m) n Kept) old new) ≡ if_kept (verdict same (is_some o) (is_none m) n Kept) v (record v { chosen = m })
own_by s false o m n old new v e f = e
own_by s true (Some x) m n old new v e f = e
own_by s true None None n old new v e f = e
own_by s true None (Some y) n old new v e f = f

made_own : (s : Side) (x : Submission) (c : Course) (t : Teller) (w : Option Side) (k : HouseRules) → same_side x.side s ≡ true
    → choice_made s c x ≡ made_from (view s c t w k) x
made_own s x c t w k own = rw own refl

pub side_is : (r s : Side) → same_side r s ≡ true → r ≡ s
side_is One One h = refl
side_is Two Two h = refl
side_is One Two h = absurd (let no : false ≡ true = h in cc)
side_is Two One h = absurd (let no : false ≡ true = h in cc)

pub record Foretold (s : Side) (row : Row) (t : Table) (r : HostReply) (v : Seen) : Type 0 where
  pub reply : reply_to_row row t ≡ r
  pub seen : seen_by s (after_row row t) ≡ v

verdict_own : (s : Side) (x : Submission) (c : Course) (t : Teller) (w : Option Side) (k : HouseRules) → same_side x.side s ≡ true
    → verdict_on x c ≡ foretold_submit x (view s c t w k)
verdict_own s x c t w k own =
    ap (λ (r : Side). verdict (x.number == c.number) (is_some (chosen r c)) (is_none (choice_made r c x)) c.number Kept) (side_is x.side s own)
    ∙ ap (λ (m : Option Choice). verdict (x.number == c.number) (is_some (chosen s c)) (is_none m) c.number Kept) (made_own s x c t w k own)

pub own_submit : (s : Side) (n : Option Ring) (x : Submission) (c : Course) (a b : Teller) (w : Option Side) (k : HouseRules) → is_over c.state.field.outcome ≡ false
    → ends_pair (Submit n x) (seat c a b w k) ≡ false → same_side x.side s ≡ true
    → Foretold s (Submit n x) (seat c a b w k) (foretold_submit x (view s c (pick s a b) w k)) (seen_submit x (view s c (pick s a b) w k))
own_submit s n x c a b w k going quiet own =
    let v = view s c (pick s a b) w k in
    let f = submit_quiet n x c a b w k going quiet in
    let is = verdict_own s x c (pick s a b) w k own in
    let more = seen_more s n x c a b w k going ∙ ap (λ (m : Option Choice). record v { chosen = or_else (chosen s c) m }) (made_own s x c (pick s a b) w k own) in
    record {
      reply = f.reply ∙ is;
      seen =
          ap (seen_by s) f.table
          ∙ ap (λ (r : HostReply). seen_by s (if_not_refused r (seat c a b w k) (kept_seat n x c a b w k))) is
          ∙ own_by s (x.number == c.number) (chosen s c) (made_from v x) c.number (seat c a b w k) (kept_seat n x c a b w k) v (seat_seen s c a b w k going) more;
    }

-- 1. Time that runs out

-- Where no side forfeits by time, it is the submission of the first choice that is due.

expire_reply : (same there none : Bool) (n : ℕ) (rest r : HostReply) → r ≡ verdict same there none n rest
    → (if not same then Refused (OtherPair n) else if there then Refused HasChosen else r) ≡ r
expire_reply false there none n rest r h = sym h
expire_reply true true none n rest r h = sym h
expire_reply true false none n rest r h = refl

pub on : {A : Type 0} (late : Bool) (x y : A) → late ≡ true → (if late then x else y) ≡ x
on late x y h = rw h refl

pub off : {A : Type 0} (late : Bool) (x y : A) → late ≡ false → (if late then x else y) ≡ y
off late x y h = rw h refl

both_settle : (r q : HostReply) (old new more : Table) → r ≡ q → new ≡ more → if_not_refused r old new ≡ if_not_refused q old more
both_settle r q old new more e f = rw (e, f) refl

pub record SameStep (row more : Row) (t : Table) : Type 0 where
  pub reply : reply_to_row row t ≡ reply_to_row more t
  pub table : after_row row t ≡ after_row more t

pub as_submission : (n : Option Ring) (side : Side) (number : ℕ) (c : Course) (a b : Teller) (w : Option Side) (k : HouseRules) → is_over c.state.field.outcome ≡ false
    → k.late_forfeits ≡ false
    → SameStep (Expire n side number) (Submit n (first_due side number (seat c a b w k))) (seat c a b w k)
unfolding after_row reply_to_row
as_submission n side number c a b w k going prompt =
    let x = first_due side number (seat c a b w k) in
    let r = host_reply (reply_to (drawing n c) x) in
    let e = expire_reply (number == c.number) (is_some (chosen side c)) (is_none (choice_made side c x)) c.number
    (host_reply (if (after (drawing n c) x).number == c.number then Waiting else advanced_to (after (drawing n c) x).state)) r (submit_settles n x c a b w k going) in
    let late = ap (λ (it : HostReply). if not (number == c.number) then Refused (OtherPair c.number) else if is_some (chosen side c) then Refused HasChosen else it)
    (off k.late_forfeits Ended r prompt) ∙ e in
    record {
      reply = rw going late;
      table = rw going (both_settle
          (if not (number == c.number) then Refused (OtherPair c.number) else if is_some (chosen side c) then Refused HasChosen else if k.late_forfeits then Ended else r) r
          (seat c a b w k) (if k.late_forfeits then ends_as (Forfeited side) (seat c a b w k) else submitted n x (seat c a b w k)) (submitted n x (seat c a b w k))
          late (off k.late_forfeits (ends_as (Forfeited side) (seat c a b w k)) (submitted n x (seat c a b w k)) prompt));
    }

-- Where a side forfeits by time, it ends the table, or it is refused.

abbrev pub late_reply : ℕ → Side → Course → HostReply
late_reply number side c = if not (number == c.number) then Refused (OtherPair c.number) else if is_some (chosen side c) then Refused HasChosen else Ended

pub late_row_reply : (n : Option Ring) (side : Side) (number : ℕ) (c : Course) (a b : Teller) (w : Option Side) (k : HouseRules) → is_over c.state.field.outcome ≡ false
    → k.late_forfeits ≡ true → reply_to_row (Expire n side number) (seat c a b w k) ≡ late_reply number side c
unfolding reply_to_row
late_row_reply n side number c a b w k going late = rw (going, late) refl

pub late_row_after : (n : Option Ring) (side : Side) (number : ℕ) (c : Course) (a b : Teller) (w : Option Side) (k : HouseRules) → is_over c.state.field.outcome ≡ false
    → k.late_forfeits ≡ true
    → after_row (Expire n side number) (seat c a b w k) ≡ if_not_refused (late_reply number side c) (seat c a b w k) (ends_as (Forfeited side) (seat c a b w k))
unfolding after_row reply_to_row
late_row_after n side number c a b w k going late = rw (going, late) refl

next_differs : (n : ℕ) → (n + 1 == n) ≡ false
next_differs n = grind (arith, nat_tests)

pub record Unchanged (row : Row) (t : Table) (r : HostReply) : Type 0 where
  pub reply : reply_to_row row t ≡ r
  pub table : after_row row t ≡ t

pub late_quiet : (n : Option Ring) (side : Side) (number : ℕ) (c : Course) (a b : Teller) (w : Option Side) (k : HouseRules) → is_over c.state.field.outcome ≡ false
    → k.late_forfeits ≡ true → ends_pair (Expire n side number) (seat c a b w k) ≡ false
    → Unchanged (Expire n side number) (seat c a b w k) (late_reply number side c)
late_quiet n side number c a b w k going late quiet =
    let e = late_row_after n side number c a b w k going late in
    record { reply = late_row_reply n side number c a b w k going late; table = e ∙ by (not (number == c.number)) (is_some (chosen side c)) (rw e at quiet) }
  where
    by : (differs there : Bool)
        → not (current_pair (if_not_refused (if differs then Refused (OtherPair c.number) else if there then Refused HasChosen else Ended) (seat c a b w k) (ends_as (Forfeited side) (seat c a b w k))) == c.number) ≡ false
        → if_not_refused (if differs then Refused (OtherPair c.number) else if there then Refused HasChosen else Ended) (seat c a b w k) (ends_as (Forfeited side) (seat c a b w k)) ≡ seat c a b w k
    by true there q = refl
    by false true q = refl
    by false false q = absurd (let no : true ≡ false = rw (next_differs c.number) at q in cc)

-- 2. A choice that is taken back

abbrev pub cancel_reply : ℕ → Side → Course → HouseRules → HostReply
cancel_reply number side c k =
    if not k.may_cancel then Refused NotAllowed
    else if not (number == c.number) then Refused (OtherPair c.number)
    else if is_asked_to_pass side c || is_none (chosen side c) then Refused NothingChosen
    else Kept

cancel_row_reply : (side : Side) (number : ℕ) (c : Course) (a b : Teller) (w : Option Side) (k : HouseRules) → is_over c.state.field.outcome ≡ false
    → reply_to_row (Cancel side number) (seat c a b w k) ≡ cancel_reply number side c k
unfolding reply_to_row
cancel_row_reply side number c a b w k going = rw going refl

pub cancel_row_after : (side : Side) (number : ℕ) (c : Course) (a b : Teller) (w : Option Side) (k : HouseRules) → is_over c.state.field.outcome ≡ false
    → after_row (Cancel side number) (seat c a b w k) ≡ if_not_refused (cancel_reply number side c k) (seat c a b w k) (taken_back side (seat c a b w k))
unfolding after_row reply_to_row
cancel_row_after side number c a b w k going = rw going refl

abbrev without : Side → Course → Course
without side c = record c { since = filter (λ (x : Submission). not (is_by side x)) c.since }

-- of a side itself nothing is left
first_none : (s : Side) (c d : Course) (l : List Submission) → first_made s d (filter (λ (x : Submission). not (is_by s x)) l) ≡ None
first_none s c d [] = refl
first_none s c d (x ∷ l) = by (same_side x.side s) refl (first_none s c d l)
  where
    other : (m : Option Choice) → m ≡ None → first_made s d (filter (λ (x : Submission). not (is_by s x)) l) ≡ None
        → elim m as (λ _. Option Choice) [ Some y ↦ Some y | None ↦ first_made s d (filter (λ (x : Submission). not (is_by s x)) l) ] ≡ None
    other None e h = h
    other (Some y) e h = e

    by : (own : Bool) → same_side x.side s ≡ own → first_made s d (filter (λ (x : Submission). not (is_by s x)) l) ≡ None
        → first_made s d (cond (not own) (x ∷ filter (λ (x : Submission). not (is_by s x)) l) (filter (λ (x : Submission). not (is_by s x)) l)) ≡ None
    by true e h = h
    by false e h = other (choice_made s d x) (rw e refl) h

-- of the other side's choices all is as before
first_others : (s o : Side) (c d : Course) (l : List Submission) → same_side o s ≡ false → ((x : Submission) → choice_made s d x ≡ choice_made s c x)
    → first_made s d (filter (λ (x : Submission). not (is_by o x)) l) ≡ first_made s c l
first_others s o c d [] apart same = refl
first_others s o c d (x ∷ l) apart same = by (same_side x.side o) refl (first_others s o c d l apart same)
  where
    tail : (m n : Option Choice) → m ≡ n → first_made s d (filter (λ (x : Submission). not (is_by o x)) l) ≡ first_made s c l
        → elim m as (λ _. Option Choice) [ Some y ↦ Some y | None ↦ first_made s d (filter (λ (x : Submission). not (is_by o x)) l) ]
        ≡ elim n as (λ _. Option Choice) [ Some y ↦ Some y | None ↦ first_made s c l ]
    tail None None e h = h
    tail (Some y) (Some z) e h = e
    tail None (Some z) e h = absurd (cc)
    tail (Some y) None e h = absurd (cc)

    not_own : same_side x.side o ≡ true → choice_made s c x ≡ None
    not_own e = let away : same_side x.side s ≡ false = rw (side_is x.side o e) apart in rw away refl

    skipped : (n : Option Choice) → n ≡ None → first_made s d (filter (λ (x : Submission). not (is_by o x)) l) ≡ first_made s c l
        → first_made s d (filter (λ (x : Submission). not (is_by o x)) l) ≡ elim n as (λ _. Option Choice) [ Some y ↦ Some y | None ↦ first_made s c l ]
    skipped None e h = h
    skipped (Some y) e h = absurd (cc)

    by : (theirs : Bool) → same_side x.side o ≡ theirs → first_made s d (filter (λ (x : Submission). not (is_by o x)) l) ≡ first_made s c l
        → first_made s d (cond (not theirs) (x ∷ filter (λ (x : Submission). not (is_by o x)) l) (filter (λ (x : Submission). not (is_by o x)) l)) ≡ first_made s c (x ∷ l)
    by true e h = skipped (choice_made s c x) (not_own e) h
    by false e h = tail (choice_made s d x) (choice_made s c x) (same x) h

chosen_others : (s o : Side) (c : Course) → same_side o s ≡ false → chosen s (without o c) ≡ chosen s c
chosen_others s o c apart = by (is_asked_to_pass s c) (first_others s o c (without o c) c.since apart (λ x. refl))
  where
    by : (pass : Bool) → first_made s (without o c) (without o c).since ≡ first_made s c c.since
        → (if pass then Some choices.Pass else first_made s (without o c) (without o c).since) ≡ (if pass then Some choices.Pass else first_made s c c.since)
    by true h = refl
    by false h = h

pub hidden_cancel : (s side : Side) (number : ℕ) (c : Course) (a b : Teller) (w : Option Side) (k : HouseRules) → is_over c.state.field.outcome ≡ false
    → same_side side s ≡ false → seen_by s (after_row (Cancel side number) (seat c a b w k)) ≡ view s c (pick s a b) w k
hidden_cancel s side number c a b w k going apart =
    let more = seat_seen s (without side c) a b w k going ∙ ap (λ (o : Option Choice). record (view s c (pick s a b) w k) { chosen = o }) (chosen_others s side c apart) in
    ap (seen_by s) (cancel_row_after side number c a b w k going)
    ∙ unless_refused s (cancel_reply number side c k) (seat c a b w k) (taken_back side (seat c a b w k)) (view s c (pick s a b) w k) (seat_seen s c a b w k going) more

abbrev pub foretold_cancel : ℕ → Seen → HostReply
foretold_cancel number v =
    if not v.rules.may_cancel then Refused NotAllowed
    else if not (number == v.message.number) then Refused (OtherPair v.message.number)
    else if is_pass v.message.own.request || is_none v.chosen then Refused NothingChosen
    else Kept

abbrev pub seen_cancel : ℕ → Seen → Seen
seen_cancel number v = if_kept (foretold_cancel number v) v (record v { chosen = None })

own_cancel_by : (s : Side) (c : Course) (a b : Teller) (w : Option Side) (k : HouseRules) (allowed same pass none : Bool) (v : Seen)
    → seen_by s (seat c a b w k) ≡ v → (pass ≡ false → seen_by s (taken_back s (seat c a b w k)) ≡ record v { chosen = None })
    → seen_by s (if_not_refused (if not allowed then Refused NotAllowed else if not same then Refused (OtherPair c.number) else if pass || none then Refused NothingChosen else Kept) (seat c a b w k) (taken_back s (seat c a b w k)))
    ≡ if_kept (if not allowed then Refused NotAllowed else if not same then Refused (OtherPair c.number) else if pass || none then Refused NothingChosen else Kept) v (record v { chosen = None })
own_cancel_by s c a b w k false same pass none v e f = e
own_cancel_by s c a b w k true false pass none v e f = e
own_cancel_by s c a b w k true true true none v e f = e
own_cancel_by s c a b w k true true false true v e f = e
own_cancel_by s c a b w k true true false false v e f = f refl

pub own_cancel : (s : Side) (number : ℕ) (c : Course) (a b : Teller) (w : Option Side) (k : HouseRules) → is_over c.state.field.outcome ≡ false
    → Foretold s (Cancel s number) (seat c a b w k) (foretold_cancel number (view s c (pick s a b) w k)) (seen_cancel number (view s c (pick s a b) w k))
own_cancel s number c a b w k going =
    let v = view s c (pick s a b) w k in
    record {
      reply = cancel_row_reply s number c a b w k going;
      seen =
          ap (seen_by s) (cancel_row_after s number c a b w k going)
          ∙ own_cancel_by s c a b w k k.may_cancel (number == c.number) (is_asked_to_pass s c) (is_none (chosen s c)) v (seat_seen s c a b w k going) (λ asked.
          seat_seen s (without s c) a b w k going ∙ ap (λ (o : Option Choice). record v { chosen = o }) (nothing asked));
    }
  where
    nothing : is_asked_to_pass s c ≡ false → chosen s (without s c) ≡ None
    nothing asked = rw asked (first_none s c (without s c) c.since)

-- 3. Offers of a draw, and forfeits

abbrev pub draw_reply : Side → Option Side → HostReply
draw_reply side w = elim w [ Some by ↦ if same_side by side then Kept else Ended | None ↦ Kept ]

abbrev pub drawn : Side → Option Side → Table → Table
drawn side w t = elim w [ Some by ↦ if same_side by side then t else ends_as Agreed t | None ↦ record t { draw = Some side } ]

pub draw_row_reply : (side : Side) (c : Course) (a b : Teller) (w : Option Side) (k : HouseRules) → is_over c.state.field.outcome ≡ false
    → reply_to_row (OfferDraw side) (seat c a b w k) ≡ draw_reply side w
unfolding reply_to_row
draw_row_reply side c a b w k going = rw going refl

pub draw_row_after : (side : Side) (c : Course) (a b : Teller) (w : Option Side) (k : HouseRules) → is_over c.state.field.outcome ≡ false
    → after_row (OfferDraw side) (seat c a b w k) ≡ if_not_refused (draw_reply side w) (seat c a b w k) (drawn side w (seat c a b w k))
unfolding after_row reply_to_row
draw_row_after side c a b w k going = rw going refl

abbrev pub offered_by : Side → Option Side → Option Side
offered_by side w = elim w [ Some by ↦ Some by | None ↦ Some side ]

abbrev pub seen_draw : Side → Seen → Seen
seen_draw side v = record v { message = record v.message { draw = offered_by side v.message.draw } }

pub draw_table : (side : Side) (c : Course) (a b : Teller) (w : Option Side) (k : HouseRules) → is_over c.state.field.outcome ≡ false
    → ends_pair (OfferDraw side) (seat c a b w k) ≡ false
    → (reply_to_row (OfferDraw side) (seat c a b w k) ≡ Kept) × (after_row (OfferDraw side) (seat c a b w k) ≡ seat c a b (offered_by side w) k)
draw_table side c a b w k going quiet = by w (draw_row_reply side c a b w k going) (draw_row_after side c a b w k going) quiet
  where
    by : (w : Option Side) → reply_to_row (OfferDraw side) (seat c a b w k) ≡ draw_reply side w
        → after_row (OfferDraw side) (seat c a b w k) ≡ if_not_refused (draw_reply side w) (seat c a b w k) (drawn side w (seat c a b w k))
        → ends_pair (OfferDraw side) (seat c a b w k) ≡ false
        → (reply_to_row (OfferDraw side) (seat c a b w k) ≡ Kept) × (after_row (OfferDraw side) (seat c a b w k) ≡ seat c a b (offered_by side w) k)
    by None e f q = (e, f)
    by (Some o) e f q = two (same_side o side) refl
      where
        two : (same : Bool) → same_side o side ≡ same
            → (reply_to_row (OfferDraw side) (seat c a b (Some o) k) ≡ Kept) × (after_row (OfferDraw side) (seat c a b (Some o) k) ≡ seat c a b (Some o) k)
        two true is = (rw is at e, rw is at f)
        two false is = absurd (let no : true ≡ false = rw (f, is, next_differs c.number) at q in cc)

pub draw_quiet : (s side : Side) (c : Course) (a b : Teller) (w : Option Side) (k : HouseRules) → is_over c.state.field.outcome ≡ false
    → ends_pair (OfferDraw side) (seat c a b w k) ≡ false
    → Foretold s (OfferDraw side) (seat c a b w k) Kept (seen_draw side (view s c (pick s a b) w k))
draw_quiet s side c a b w k going quiet =
    let f = draw_table side c a b w k going quiet in
    record { reply = f.0; seen = ap (seen_by s) f.1 ∙ seat_seen s c a b (offered_by side w) k going }

forfeit_row_after : (side : Side) (c : Course) (a b : Teller) (w : Option Side) (k : HouseRules) → is_over c.state.field.outcome ≡ false
    → after_row (Forfeit side) (seat c a b w k) ≡ ends_as (Forfeited side) (seat c a b w k)
unfolding after_row reply_to_row
forfeit_row_after side c a b w k going = rw going refl

pub forfeit_ends : (side : Side) (c : Course) (a b : Teller) (w : Option Side) (k : HouseRules) → is_over c.state.field.outcome ≡ false
    → ends_pair (Forfeit side) (seat c a b w k) ≡ true
forfeit_ends side c a b w k going = rw (forfeit_row_after side c a b w k going) (ap not (next_differs c.number))
