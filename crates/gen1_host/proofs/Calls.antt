-- Each row at an open table: its reply, and what it changes.
use Rattle.std.proofs.Common.{Bool, Err, None, Ok, Option, Result, Some, ap, arith, false, refl, subst, sym, true, ℕ, ◌==◌, ◌≡◌, ◌≢◌, ◌∙◌}
use Rattle.std.specs.Prelude.{if◌then◌else◌, is_some, not}
use Rattle.std.proofs.lemmas.Bool.Decides.{nat_tests}
use Rattle.gen1_rolls.specs.Steady.{Ring}
use Rattle.gen1_machine.specs.declared.side.Side.{Side}
use Rattle.gen1_machine.specs.declared.side.Side.TheVariants.{One, Two}
use Rattle.gen1_machine.specs.Numbers.{side_number}
use Rattle.gen1_machine.specs.Room.{chosen}
use Rattle.gen1_machine.specs.Rules.{bit_of}
use Rattle.gen1_machine.specs.Sides.{other}
use Rattle.gen1_machine.specs.State.{same_side}
use Rattle.gen1_room.specs.Rooms.{due, submission_of}
use Rattle.gen1_host.specs.declared.host.Host.{Host}
use Rattle.gen1_host.specs.declared.host.HostRefusal.{HostRefusal as Why}
use Rattle.gen1_host.specs.declared.host.HostRefusal.TheVariants as whys
use Rattle.gen1_host.specs.declared.host.Replied.{Replied}
use Rattle.gen1_host.specs.declared.host.Replied.TheVariants as replied
use Rattle.gen1_host.specs.Table.{Agreed, Cancel, changed_by, Ended, ends_as, Expire, first_byte, first_due, Forfeited, has_none_to_cancel, HasChosen, HostReply, Kept, NotAllowed, NothingChosen, OfferDraw, OtherPair, Refused, reply_in_turn, reply_to_submission, submitted, Table, taken_back}
use Rattle.gen1_host.specs.Messages.{why_of}
use Rattle.gen1_host.specs.Hosts.{draw_byte, Follows, Hosts}

-- what follows a reply

kept : (reply : HostReply) {t next u : Table} {new : Host} → reply ≡ Kept → next ≡ u → Hosts new u → Follows reply t next new (Ok replied.Kept)
kept reply {t = t} {next = next} {new = new} e f k =
    subst (λ (r : HostReply). Follows r t next new (Ok replied.Kept)) (sym e) (record { hosts = subst (λ (x : Table). Hosts new x) (sym f) k; replied = refl })

ended : (reply : HostReply) {t next u : Table} {new : Host} → reply ≡ Ended → next ≡ u → Hosts new u → Follows reply t next new (Ok replied.Ended)
ended reply {t = t} {next = next} {new = new} e f k =
    subst (λ (r : HostReply). Follows r t next new (Ok replied.Ended)) (sym e) (record { hosts = subst (λ (x : Table). Hosts new x) (sym f) k; replied = refl })

turned_away : (reply : HostReply) {t next : Table} {h : Host} (why : Why) → reply ≡ Refused (why_of why) → Hosts h t → Follows reply t next h (Err why)
turned_away reply {t = t} {next = next} {h = h} why e k =
    subst (λ (r : HostReply). Follows r t next h (Err why)) (sym e) (record { hosts = k; replied = refl })

-- forfeits

pub loses : {h : Host} {t : Table} (side : Side) (n : ℕ) → n ≡ side_number side → Hosts h t → Hosts (record h { ending = n }) (ends_as (Forfeited side) t)
loses side n e k = record {
  keeps = k.keeps;
  short = k.short;
  one = k.one;
  two = k.two;
  ending = e;
  draw = k.draw;
  may_cancel = k.may_cancel;
  late_forfeits = k.late_forfeits;
}

-- draws

ties : {h : Host} {t : Table} → Hosts h t → Hosts (record h { ending = 3 }) (ends_as Agreed t)
ties k = record {
  keeps = k.keeps;
  short = k.short;
  one = k.one;
  two = k.two;
  ending = refl;
  draw = k.draw;
  may_cancel = k.may_cancel;
  late_forfeits = k.late_forfeits;
}

offers : {h : Host} {t : Table} (n : ℕ) (o : Option Side) → n ≡ draw_byte o → Hosts h t → Hosts (record h { draw = n }) (record t { draw = o })
offers n o e k = record {
  keeps = k.keeps;
  short = k.short;
  one = k.one;
  two = k.two;
  ending = k.ending;
  draw = e;
  may_cancel = k.may_cancel;
  late_forfeits = k.late_forfeits;
}

by_the_other : (o : Option Side) (side : Side) → draw_byte o ≡ side_number (other side) → o ≡ Some (other side)
by_the_other None One h = absurd (omega arith)
by_the_other None Two h = absurd (omega arith)
by_the_other (Some One) One h = absurd (omega arith)
by_the_other (Some Two) One h = refl
by_the_other (Some One) Two h = refl
by_the_other (Some Two) Two h = absurd (omega arith)

by_itself : (it side : Side) → (side_number it ≡ side_number (other side) → ⊥) → it ≡ side
by_itself One One h = refl
by_itself Two One h = absurd (h refl)
by_itself One Two h = absurd (h refl)
by_itself Two Two h = refl

other_side : (side : Side) → same_side (other side) side ≡ false
other_side One = refl
other_side Two = refl

own_side : (side : Side) → same_side side side ≡ true
own_side One = refl
own_side Two = refl

pub accepts : {h : Host} {t : Table} (side : Side) (n : ℕ) → n ≡ side_number (other side) → Hosts h t → h.draw ≡ n
    → Follows (reply_in_turn (OfferDraw side) t) t (changed_by (OfferDraw side) t) (record h { ending = 3 }) (Ok replied.Ended)
accepts {h = h} {t = t} side n e k d =
    let drawn = by_the_other t.draw side (sym k.draw ∙ d ∙ e) in
    let apart = other_side side in
    ended (reply_in_turn (OfferDraw side) t) (rw (drawn, apart) refl) (rw (drawn, apart) refl) (ties k)

pub makes_offer : {h : Host} {t : Table} (side : Side) (n m : ℕ) → n ≡ side_number side → m ≡ side_number (other side) → Hosts h t → h.draw ≢ m
    → Follows (reply_in_turn (OfferDraw side) t) t (changed_by (OfferDraw side) t) (record h { draw = n }) (Ok replied.Kept)
makes_offer {h = h} {t = t} side n m e f k d = by t.draw refl
  where
    by : (o : Option Side) → t.draw ≡ o → Follows (reply_in_turn (OfferDraw side) t) t (changed_by (OfferDraw side) t) (record h { draw = n }) (Ok replied.Kept)
    by None drawn = kept (reply_in_turn (OfferDraw side) t) (rw drawn refl) (rw drawn refl) (offers n (Some side) e k)
    by (Some it) drawn =
        let same : it ≡ side = by_itself it side (λ x. d (k.draw ∙ ap draw_byte drawn ∙ x ∙ sym f)) in
        let own : t.draw ≡ Some side = drawn ∙ ap (λ (s : Side). let o : Option Side = Some s in o) same in
        let itself = own_side side in
        let next : changed_by (OfferDraw side) t ≡ record t { draw = Some side } = rw (own, itself) refl in
        kept (reply_in_turn (OfferDraw side) t) (rw (own, itself) refl) next (offers n (Some side) e k)

-- rules

pub is_off : (b : Bool) (n : ℕ) → n ≡ bit_of b → n ≡ 0 → b ≡ false
is_off false n h k = refl
is_off true n h k = absurd (omega arith)

pub is_on : (b : Bool) (n : ℕ) → n ≡ bit_of b → n ≢ 0 → b ≡ true
is_on true n h k = refl
is_on false n h k = absurd (k h)

same_pair : (m n r : ℕ) → n ≡ r → m ≡ n → (m == r) ≡ true
same_pair m n r h k = grind (arith, nat_tests)

other_pair : (m n r : ℕ) → n ≡ r → m ≢ n → (m == r) ≡ false
other_pair m n r h k = grind (arith, nat_tests)

-- a choice that is taken back

abbrev cancelled : Bool → Bool → Bool → ℕ → HostReply
cancelled may same none n =
    if not may then Refused NotAllowed else if not same then Refused (OtherPair n) else if none then Refused NothingChosen else Kept

cancel_is : (side : Side) (number : ℕ) (t : Table)
    → reply_in_turn (Cancel side number) t ≡ cancelled t.rules.may_cancel (number == t.course.number) (has_none_to_cancel side t.course) t.course.number
cancel_is side number t = refl

not_allowed : (may same none : Bool) (n : ℕ) → may ≡ false → cancelled may same none n ≡ Refused NotAllowed
not_allowed may same none n a = rw a refl

not_now : (may same none : Bool) (n : ℕ) → may ≡ true → same ≡ false → cancelled may same none n ≡ Refused (OtherPair n)
not_now may same none n a b = rw (a, b) refl

not_there : (may same none : Bool) (n : ℕ) → may ≡ true → same ≡ true → none ≡ true → cancelled may same none n ≡ Refused NothingChosen
not_there may same none n a b d = rw (a, b, d) refl

may_be : (may same none : Bool) (n : ℕ) → may ≡ true → same ≡ true → none ≡ false → cancelled may same none n ≡ Kept
may_be may same none n a b d = rw (a, b, d) refl

pub cancel_not_allowed : {h : Host} {t : Table} (side : Side) (number : ℕ) → Hosts h t → h.may_cancel ≡ 0
    → Follows (reply_in_turn (Cancel side number) t) t (changed_by (Cancel side number) t) h (Err whys.NotAllowed)
cancel_not_allowed {h = h} {t = t} side number k off =
    turned_away (reply_in_turn (Cancel side number) t) whys.NotAllowed
    (cancel_is side number t ∙ not_allowed _ (number == t.course.number) (has_none_to_cancel side t.course) t.course.number (is_off t.rules.may_cancel h.may_cancel k.may_cancel off)) k

pub cancel_stale : {h : Host} {t : Table} (side : Side) (number : ℕ) → Hosts h t → h.may_cancel ≢ 0 → number ≢ h.room.number
    → Follows (reply_in_turn (Cancel side number) t) t (changed_by (Cancel side number) t) h (Err (whys.Stale h.room.number))
cancel_stale {h = h} {t = t} side number k on apart =
    let counted : h.room.number ≡ t.course.number = k.keeps.holds.counted in
    turned_away (reply_in_turn (Cancel side number) t) (whys.Stale h.room.number)
    (cancel_is side number t
    ∙ not_now _ _ (has_none_to_cancel side t.course) t.course.number (is_on t.rules.may_cancel h.may_cancel k.may_cancel on) (other_pair number h.room.number t.course.number counted apart)
    ∙ ap (λ (n : ℕ). Refused (OtherPair n)) (sym counted)) k

pub cancel_nothing : {h : Host} {t : Table} (side : Side) (number : ℕ) → Hosts h t → h.may_cancel ≢ 0 → number ≡ h.room.number → has_none_to_cancel side t.course ≡ true
    → Follows (reply_in_turn (Cancel side number) t) t (changed_by (Cancel side number) t) h (Err whys.NothingChosen)
cancel_nothing {h = h} {t = t} side number k on current none =
    turned_away (reply_in_turn (Cancel side number) t) whys.NothingChosen
    (cancel_is side number t
    ∙ not_there _ _ _ t.course.number (is_on t.rules.may_cancel h.may_cancel k.may_cancel on) (same_pair number h.room.number t.course.number k.keeps.holds.counted current) none) k

pub cancels : {h new : Host} {t : Table} (side : Side) (number : ℕ) → Hosts h t → h.may_cancel ≢ 0 → number ≡ h.room.number → has_none_to_cancel side t.course ≡ false
    → Hosts new (taken_back side t)
    → Follows (reply_in_turn (Cancel side number) t) t (changed_by (Cancel side number) t) new (Ok replied.Kept)
cancels {h = h} {t = t} side number k on current some new =
    kept (reply_in_turn (Cancel side number) t)
    (cancel_is side number t
    ∙ may_be _ _ _ t.course.number (is_on t.rules.may_cancel h.may_cancel k.may_cancel on) (same_pair number h.room.number t.course.number k.keeps.holds.counted current) some) refl new

-- time that has run out

abbrev expired : Bool → Bool → Bool → ℕ → HostReply → HostReply
expired same there late n rest =
    if not same then Refused (OtherPair n) else if there then Refused HasChosen else if late then Ended else rest

expire_is : (numbers : Option Ring) (side : Side) (number : ℕ) (t : Table)
    → reply_in_turn (Expire numbers side number) t
    ≡ expired (number == t.course.number) (is_some (chosen side t.course)) t.rules.late_forfeits t.course.number (reply_to_submission numbers (first_due side number t) t)
expire_is numbers side number t = refl

is_stale : (same there late : Bool) (n : ℕ) (rest : HostReply) → same ≡ false → expired same there late n rest ≡ Refused (OtherPair n)
is_stale same there late n rest a = rw a refl

is_there : (same there late : Bool) (n : ℕ) (rest : HostReply) → same ≡ true → there ≡ true → expired same there late n rest ≡ Refused HasChosen
is_there same there late n rest a b = rw (a, b) refl

is_late : (same there late : Bool) (n : ℕ) (rest : HostReply) → same ≡ true → there ≡ false → late ≡ true → expired same there late n rest ≡ Ended
is_late same there late n rest a b d = rw (a, b, d) refl

is_made : (same there late : Bool) (n : ℕ) (rest : HostReply) → same ≡ true → there ≡ false → late ≡ false → expired same there late n rest ≡ rest
is_made same there late n rest a b d = rw (a, b, d) refl

pub expire_stale : {h : Host} {t : Table} (numbers : Option Ring) (side : Side) (number : ℕ) → Hosts h t → number ≢ h.room.number
    → Follows (reply_in_turn (Expire numbers side number) t) t (changed_by (Expire numbers side number) t) h (Err (whys.Stale h.room.number))
expire_stale {h = h} {t = t} numbers side number k apart =
    let counted : h.room.number ≡ t.course.number = k.keeps.holds.counted in
    turned_away (reply_in_turn (Expire numbers side number) t) (whys.Stale h.room.number)
    (expire_is numbers side number t
    ∙ is_stale _ (is_some (chosen side t.course)) t.rules.late_forfeits t.course.number (reply_to_submission numbers (first_due side number t) t) (other_pair number h.room.number t.course.number counted apart)
    ∙ ap (λ (n : ℕ). Refused (OtherPair n)) (sym counted)) k

pub expire_chosen : {h : Host} {t : Table} (numbers : Option Ring) (side : Side) (number : ℕ) → Hosts h t → number ≡ h.room.number → is_some (chosen side t.course) ≡ true
    → Follows (reply_in_turn (Expire numbers side number) t) t (changed_by (Expire numbers side number) t) h (Err whys.AlreadyChosen)
expire_chosen {h = h} {t = t} numbers side number k current there =
    turned_away (reply_in_turn (Expire numbers side number) t) whys.AlreadyChosen
    (expire_is numbers side number t
    ∙ is_there _ _ t.rules.late_forfeits t.course.number (reply_to_submission numbers (first_due side number t) t) (same_pair number h.room.number t.course.number k.keeps.holds.counted current) there) k

pub expire_loses : {h : Host} {t : Table} (numbers : Option Ring) (side : Side) (number n : ℕ) → Hosts h t → number ≡ h.room.number → is_some (chosen side t.course) ≡ false
    → h.late_forfeits ≢ 0 → n ≡ side_number side
    → Follows (reply_in_turn (Expire numbers side number) t) t (changed_by (Expire numbers side number) t) (record h { ending = n }) (Ok replied.Ended)
expire_loses {h = h} {t = t} numbers side number n k current missing on e =
    let late : t.rules.late_forfeits ≡ true = is_on t.rules.late_forfeits h.late_forfeits k.late_forfeits on in
    ended (reply_in_turn (Expire numbers side number) t)
    (expire_is numbers side number t
    ∙ is_late _ _ _ t.course.number (reply_to_submission numbers (first_due side number t) t) (same_pair number h.room.number t.course.number k.keeps.holds.counted current) missing late)
    (lost late) (loses side n e k)
  where
    lost : t.rules.late_forfeits ≡ true → changed_by (Expire numbers side number) t ≡ ends_as (Forfeited side) t
    lost late = by t.rules.late_forfeits late
      where
        by : (b : Bool) → b ≡ true → (if b then ends_as (Forfeited side) t else submitted numbers (first_due side number t) t) ≡ ends_as (Forfeited side) t
        by true e = refl
        by false e = absurd (let x : false ≡ true = e in cc)

pub expire_makes : {h new : Host} {t : Table} {result : Result Replied Why} (numbers : Option Ring) (side : Side) (number byte : ℕ) → Hosts h t → number ≡ h.room.number
    → is_some (chosen side t.course) ≡ false → h.late_forfeits ≡ 0 → byte ≡ first_byte (due side t.course)
    → Follows (reply_to_submission numbers (submission_of side number byte) t) t (submitted numbers (submission_of side number byte) t) new result
    → Follows (reply_in_turn (Expire numbers side number) t) t (changed_by (Expire numbers side number) t) new result
expire_makes {h = h} {new = new} {t = t} {result = result} numbers side number byte k current missing off first f =
    let early : t.rules.late_forfeits ≡ false = is_off t.rules.late_forfeits h.late_forfeits k.late_forfeits off in
    let reply = expire_is numbers side number t
    ∙ is_made _ _ _ t.course.number (reply_to_submission numbers (first_due side number t) t) (same_pair number h.room.number t.course.number k.keeps.holds.counted current) missing early in
    let due_now = subst (λ (b : ℕ). Follows (reply_to_submission numbers (submission_of side number b) t) t (submitted numbers (submission_of side number b) t) new result) first f in
    subst (λ (r : HostReply). Follows r t (changed_by (Expire numbers side number) t) new result) (sym reply)
    (subst (λ (next : Table). Follows (reply_to_submission numbers (first_due side number t) t) t next new result) (sym (made early)) due_now)
  where
    made : t.rules.late_forfeits ≡ false → changed_by (Expire numbers side number) t ≡ submitted numbers (first_due side number t) t
    made early = by t.rules.late_forfeits early
      where
        by : (b : Bool) → b ≡ false → (if b then ends_as (Forfeited side) t else submitted numbers (first_due side number t) t) ≡ submitted numbers (first_due side number t) t
        by false e = refl
        by true e = absurd (let x : true ≡ false = e in cc)
