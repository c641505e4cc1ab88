-- A submission at a table, and what its tellers make of the last log.
use Rattle.arrayvec.specs.ArrayVec.{ArrayVec}
use Rattle.std.proofs.Common.{Bool, Err, IfErr, IfOk, List, None, Ok, OnErr, Result, ap, arith, false, refl, subst, sym, true, ℕ, ◌==◌, ◌≡◌, ◌≢◌, ◌≤◌, ◌∙◌, Option, Some, [], inl, inr, ◌∷◌}
use Rattle.std.specs.Prelude.{if◌then◌else◌, take, cond, is_none, is_some, not, ◌&&◌, ◌||◌}
use Rattle.std.proofs.lemmas.Bool.Decides.{nat_tests}
use Rattle.gen1_machine.specs.declared.event.Event.{Event}
use Rattle.gen1_machine.specs.declared.side.Side.{Side}
use Rattle.gen1_machine.specs.Room.{Course, Reply, TurnedAway, choice_by_byte, choice_made, chosen, first_made, is_asked_to_pass, Submission}
use Rattle.gen1_events.specs.declared.reader.LogFault.{LogFault}
use Rattle.gen1_events.specs.Reader.{IsReading}
use Rattle.gen1_events.proofs.Readings.{one_reading}
use Rattle.gen1_player.specs.declared.teller.Teller.{Teller}
use Rattle.gen1_player.specs.Telling.{HasFault, meets_all, told_all, IsTeller}
use Rattle.gen1_player.proofs.Retellings.{not_read}
use Rattle.gen1_player.proofs.Slots.{meets_all-of, meets_all-pixels}
use Rattle.gen1_room.specs.declared.plain.PlainRoom.{PlainRoom}
use Rattle.gen1_room.specs.declared.submission.Submitted.{Submitted}
use Rattle.gen1_room.specs.declared.submission.RoomRefusal.{RoomRefusal}
use Rattle.gen1_room.specs.Rooms.{Keeps, reply_of_submitted, why_of}
use Rattle.gen1_host.specs.declared.host.Host.{Host}
use Rattle.gen1_host.specs.declared.host.HostRefusal.{HostRefusal as Why}
use Rattle.gen1_host.specs.declared.host.Replied.{Replied}
use Rattle.gen1_host.specs.Table.{goes_on, host_reply, Table, has_none_to_cancel, is_by, taken_back}
use Rattle.gen1_host.specs.Messages.{refusal_at, reply_to_submitted}
use Rattle.gen1_host.specs.Hosts.{Follows, Hosts}
use Rattle.std.specs.List.{filter}
use Rattle.gen1_machine.specs.declared.side.Choice.{Choice}
use Rattle.gen1_machine.specs.declared.side.Side.TheVariants.{One, Two}
use Rattle.gen1_machine.specs.OfferedChoices.{offered}
use Rattle.gen1_machine.specs.State.{same_side}
use Rattle.gen1_room.specs.declared.submission.Submitted.TheVariants as submitted
use Rattle.gen1_room.specs.declared.submission.RoomRefusal.TheVariants as whys

-- the replies of a room

pub taken : {t next : Table} {new : Host} (s : Submitted) (it : Replied) (reply : Reply) → it ≡ reply_to_submitted s → reply_of_submitted s ≡ reply
    → Hosts new next → Follows (host_reply reply) t next new (Ok it)
taken {t = t} {next = next} {new = new} submitted.Waiting it reply is e h =
    subst (λ (r : Reply). Follows (host_reply r) t next new (Ok it)) e
    (subst (λ (i : Replied). Follows (host_reply (reply_of_submitted submitted.Waiting)) t next new (Ok i)) (sym is) (record { hosts = h; replied = refl }))
taken {t = t} {next = next} {new = new} (submitted.Advanced r) it reply is e h =
    subst (λ (x : Reply). Follows (host_reply x) t next new (Ok it)) e
    (subst (λ (i : Replied). Follows (host_reply (reply_of_submitted (submitted.Advanced r))) t next new (Ok i)) (sym is) (record { hosts = h; replied = refl }))

turned_away_by : {t next : Table} {old : Host} (why : RoomRefusal) → Hosts old t
    → Follows (host_reply (TurnedAway (why_of why))) t next old (Err (refusal_at why))
turned_away_by whys.Over h = record { hosts = h; replied = refl }
turned_away_by (whys.Stale n) h = record { hosts = h; replied = refl }
turned_away_by whys.AlreadyChosen h = record { hosts = h; replied = refl }
turned_away_by whys.NotOffered h = record { hosts = h; replied = refl }

pub turned_away : {t next : Table} {old : Host} (why : RoomRefusal) (it : Why) (reply : Reply) → it ≡ refusal_at why → TurnedAway (why_of why) ≡ reply → Hosts old t
    → Follows (host_reply reply) t next old (Err it)
turned_away {t = t} {next = next} {old = old} why it reply is e h =
    subst (λ (i : Why). Follows (host_reply reply) t next old (Err i)) (sym is)
    (subst (λ (r : Reply). Follows (host_reply r) t next old (Err (refusal_at why))) e (turned_away_by why h))

-- the room of a table becomes another

same : (m n : ℕ) → m ≡ n → (m == n) ≡ true
same m n h = grind (arith, nat_tests)

apart : (m n : ℕ) → m ≢ n → (m == n) ≡ false
apart m n h = grind (arith, nat_tests)

pub goes_same : {h : Host} {t : Table} (c : Course) (next : PlainRoom) → Hosts h t → Keeps next c → next.log_length ≤ 512 → next.number ≡ h.room.number
    → Hosts (record h { room = next }) (goes_on t c)
goes_same {h = h} {t = t} c next k is short e =
    let number : c.number ≡ t.course.number = sym is.holds.counted ∙ e ∙ k.keeps.holds.counted in
    subst (λ (b : Bool). Hosts (record h { room = next })
    (if b then record t { course = c } else record t { course = c; one = meets_all t.course.events t.one; two = meets_all t.course.events t.two; draw = None }))
    (sym (same c.number t.course.number number)) (record {
      keeps = is;
      short = short;
      one = k.one;
      two = k.two;
      ending = k.ending;
      draw = k.draw;
      may_cancel = k.may_cancel;
      late_forfeits = k.late_forfeits;
    })

pub goes_further : {h met : Host} {t : Table} (c : Course) (next : PlainRoom) → Hosts h t → Keeps next c → next.log_length ≤ 512 → next.number ≢ h.room.number
    → Hosts met (record t { one = meets_all t.course.events t.one; two = meets_all t.course.events t.two; draw = None })
    → Hosts (record met { room = next }) (goes_on t c)
goes_further {h = h} {met = met} {t = t} c next k is short e m =
    let number : c.number ≢ t.course.number = λ n. e (is.holds.counted ∙ n ∙ sym k.keeps.holds.counted) in
    subst (λ (b : Bool). Hosts (record met { room = next })
    (if b then record t { course = c } else record t { course = c; one = meets_all t.course.events t.one; two = meets_all t.course.events t.two; draw = None }))
    (sym (apart c.number t.course.number number)) (record {
      keeps = is;
      short = short;
      one = m.one;
      two = m.two;
      ending = m.ending;
      draw = m.draw;
      may_cancel = m.may_cancel;
      late_forfeits = m.late_forfeits;
    })

-- the tellers

pub met : (log : List ℕ) (old new : Teller) (result : Result (ArrayVec ℕ) LogFault)
    → IfOk result (λ (bytes : ArrayVec ℕ). (events : List Event) × IsReading log events × IsReading bytes.items (told_all events old) × (new ≡ meets_all events old))
    → IfErr result (λ (fault : LogFault). HasFault log fault)
    → (events : List Event) → IsReading log events → new ≡ meets_all events old
met log old new (Ok bytes) told fault events r =
    told.3 ∙ ap (λ (l : List Event). meets_all l old) (one_reading log told.0 events told.1 r)
met log old new (Err why) told fault events r = absurd (not_read log why fault events r)

pub met_of : (side : Side) (log : List ℕ) (old new : Teller) (result : Result (ArrayVec ℕ) LogFault)
    → IfOk result (λ (bytes : ArrayVec ℕ). (events : List Event) × IsReading log events × IsReading bytes.items (told_all events old) × (new ≡ meets_all events old))
    → OnErr result (new ≡ old) → IsTeller side old → IsTeller side new
met_of side log old new (Ok bytes) told kept k = subst (IsTeller side) (sym told.3) (meets_all-of side told.0 old told.1.ranges k)
met_of side log old new (Err why) told kept k = subst (IsTeller side) (sym kept) k

pub met_pixels : (log : List ℕ) (old new : Teller) (result : Result (ArrayVec ℕ) LogFault)
    → IfOk result (λ (bytes : ArrayVec ℕ). (events : List Event) × IsReading log events × IsReading bytes.items (told_all events old) × (new ≡ meets_all events old))
    → OnErr result (new ≡ old) → new.pixels ≡ old.pixels
met_pixels log old new (Ok bytes) told kept = ap (λ (t : Teller). t.pixels) told.3 ∙ meets_all-pixels told.0 old
met_pixels log old new (Err why) told kept = ap (λ (t : Teller). t.pixels) kept

pub told_as : (log : List ℕ) (old new : Teller) (bytes : ArrayVec ℕ)
    → (events : List Event) × IsReading log events × IsReading bytes.items (told_all events old) × (new ≡ meets_all events old)
    → (events : List Event) → IsReading log events → IsReading bytes.items (told_all events old)
told_as log old new bytes told events r =
    subst (λ (l : List Event). IsReading bytes.items (told_all l old)) (one_reading log told.0 events told.1 r) told.2

-- the log of a room
pub last_reading : {h : Host} {t : Table} (log : List ℕ) → Hosts h t → (h.room.log_length ≤ 512 → log ≡ take h.room.log_length h.room.log)
    → IsReading log t.course.events
last_reading {t = t} log k e = subst (λ (l : List ℕ). IsReading l t.course.events) (sym (e k.short)) k.keeps.holds.logged

-- A choice that is taken back.

-- the same course without the submissions of a side
abbrev without : Side → Course → Course
without s c = record c { since = filter (λ (x : Submission). not (is_by s x)) c.since }

made_by_another : (s : Side) (c : Course) (x : Submission) → is_by s x ≡ false → choice_made s c x ≡ None
made_by_another s c x h = by (same_side x.side s) h
  where
    by : (b : Bool) → b ≡ false → (if b && x.number == c.number then choice_by_byte x.byte (offered s c.state.field) else None) ≡ None
    by false k = refl
    by true k = absurd (let e : true ≡ false = k in cc)

one_or_two : (side : Side) → same_side side One ≡ true → same_side side Two ≡ false
one_or_two One h = refl
one_or_two Two h = absurd (let e : false ≡ true = h in cc)

two_or_one : (side : Side) → same_side side Two ≡ true → same_side side One ≡ false
two_or_one Two h = refl
two_or_one One h = absurd (let e : false ≡ true = h in cc)

-- a side that has taken back all that it submitted has made no choice

none_made : (s : Side) (c d : Course) (xs : List Submission) → first_made s d (filter (λ (x : Submission). not (is_by s x)) xs) ≡ None
none_made s c d [] = refl
none_made s c d (x ∷ xs) = by (is_by s x) refl (none_made s c d xs)
  where
    rest : List Submission
    rest = filter (λ (y : Submission). not (is_by s y)) xs

    here : (o : Option Choice) → o ≡ None → first_made s d rest ≡ None → elim o as (λ _. Option Choice) [ Some choice ↦ Some choice | None ↦ first_made s d rest ] ≡ None
    here None e h = h
    here (Some y) e h = absurd (cc)

    by : (b : Bool) → is_by s x ≡ b → first_made s d rest ≡ None → first_made s d (cond (not b) (x ∷ rest) rest) ≡ None
    by true e h = h
    by false e h = here (choice_made s d x) (made_by_another s d x e) h

-- and the other side those that it made before

same_made : (s r : Side) (c d : Course) (xs : List Submission) → ((x : Submission) → choice_made r d x ≡ choice_made r c x)
    → ((x : Submission) → is_by s x ≡ true → choice_made r c x ≡ None)
    → first_made r d (filter (λ (x : Submission). not (is_by s x)) xs) ≡ first_made r c xs
same_made s r c d [] same others = refl
same_made s r c d (x ∷ xs) same others = by (is_by s x) refl (same_made s r c d xs same others)
  where
    rest : List Submission
    rest = filter (λ (y : Submission). not (is_by s y)) xs

    here : (o p : Option Choice) → o ≡ p → first_made r d rest ≡ first_made r c xs
        → elim o as (λ _. Option Choice) [ Some choice ↦ Some choice | None ↦ first_made r d rest ]
        ≡ elim p as (λ _. Option Choice) [ Some choice ↦ Some choice | None ↦ first_made r c xs ]
    here None None e h = h
    here (Some y) (Some z) e h = e
    here None (Some z) e h = absurd (cc)
    here (Some y) None e h = absurd (cc)

    past : (p : Option Choice) → p ≡ None → first_made r d rest ≡ first_made r c xs
        → first_made r d rest ≡ elim p as (λ _. Option Choice) [ Some choice ↦ Some choice | None ↦ first_made r c xs ]
    past None e h = h
    past (Some z) e h = absurd (cc)

    by : (b : Bool) → is_by s x ≡ b → first_made r d rest ≡ first_made r c xs → first_made r d (cond (not b) (x ∷ rest) rest) ≡ first_made r c (x ∷ xs)
    by true e h = past (choice_made r c x) (others x e) h
    by false e h = here (choice_made r d x) (choice_made r c x) (same x) h

chosen_by : (s : Side) (c d : Course) → is_asked_to_pass s d ≡ is_asked_to_pass s c → first_made s d d.since ≡ first_made s c c.since → chosen s d ≡ chosen s c
chosen_by s c d pass made = rw (pass, made) refl

chosen_none : (s : Side) (d : Course) → is_asked_to_pass s d ≡ false → first_made s d d.since ≡ None → chosen s d ≡ None
chosen_none s d pass made = rw (pass, made) refl

one_back : {h : Host} {t : Table} → Hosts h t → is_asked_to_pass One t.course ≡ false → Hosts (record h { room = record h.room { one = 255 } }) (taken_back One t)
one_back {h = h} {t = t} k asked =
    let d = without One t.course in
    let gone : chosen One d ≡ None = chosen_none One d asked (none_made One t.course d t.course.since) in
    let two : chosen Two d ≡ chosen Two t.course =
    chosen_by Two t.course d refl (same_made One Two t.course d t.course.since (λ x. refl) (λ x e. made_by_another Two t.course x (one_or_two x.side e))) in
    record {
      keeps = record {
        holds = record {
          stands = k.keeps.holds.stands;
          counted = k.keeps.holds.counted;
          counts = k.keeps.holds.counts;
          logged = k.keeps.holds.logged;
          one = sym gone;
          two = k.keeps.holds.two ∙ sym two;
          waits = λ going. inl refl;
        };
        unforfeited = k.keeps.unforfeited;
      };
      short = k.short;
      one = k.one;
      two = k.two;
      ending = k.ending;
      draw = k.draw;
      may_cancel = k.may_cancel;
      late_forfeits = k.late_forfeits;
    }

two_back : {h : Host} {t : Table} → Hosts h t → is_asked_to_pass Two t.course ≡ false → Hosts (record h { room = record h.room { two = 255 } }) (taken_back Two t)
two_back {h = h} {t = t} k asked =
    let d = without Two t.course in
    let gone : chosen Two d ≡ None = chosen_none Two d asked (none_made Two t.course d t.course.since) in
    let one : chosen One d ≡ chosen One t.course =
    chosen_by One t.course d refl (same_made Two One t.course d t.course.since (λ x. refl) (λ x e. made_by_another One t.course x (two_or_one x.side e))) in
    record {
      keeps = record {
        holds = record {
          stands = k.keeps.holds.stands;
          counted = k.keeps.holds.counted;
          counts = k.keeps.holds.counts;
          logged = k.keeps.holds.logged;
          one = k.keeps.holds.one ∙ sym one;
          two = sym gone;
          waits = λ going. inr refl;
        };
        unforfeited = k.keeps.unforfeited;
      };
      short = k.short;
      one = k.one;
      two = k.two;
      ending = k.ending;
      draw = k.draw;
      may_cancel = k.may_cancel;
      late_forfeits = k.late_forfeits;
    }

pub one_is_back : {h : Host} {t : Table} (side : Side) → side ≡ One → Hosts h t → is_asked_to_pass side t.course ≡ false
    → Hosts (record h { room = record h.room { one = 255 } }) (taken_back side t)
one_is_back {h = h} {t = t} side is k asked =
    subst (λ (s : Side). Hosts (record h { room = record h.room { one = 255 } }) (taken_back s t)) (sym is)
    (one_back k (subst (λ (s : Side). is_asked_to_pass s t.course ≡ false) is asked))

pub two_is_back : {h : Host} {t : Table} (side : Side) → side ≡ Two → Hosts h t → is_asked_to_pass side t.course ≡ false
    → Hosts (record h { room = record h.room { two = 255 } }) (taken_back side t)
two_is_back {h = h} {t = t} side is k asked =
    subst (λ (s : Side). Hosts (record h { room = record h.room { two = 255 } }) (taken_back s t)) (sym is)
    (two_back k (subst (λ (s : Side). is_asked_to_pass s t.course ≡ false) is asked))

-- whether a side has a choice that it can take back

pub is_not_asked : (s : Side) (c : Course) → has_none_to_cancel s c ≡ false → is_asked_to_pass s c ≡ false
is_not_asked s c h = by (is_asked_to_pass s c) h
  where
    by : (b : Bool) → (b || is_none (chosen s c)) ≡ false → b ≡ false
    by false k = refl
    by true k = absurd (let e : true ≡ false = k in cc)

pub not_some : (o : Option Choice) → not (is_some o) ≡ is_none o
not_some None = refl
not_some (Some x) = refl
