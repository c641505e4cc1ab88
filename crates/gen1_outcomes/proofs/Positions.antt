-- Positions that the parts of an update before them reach, and what follows from one.
use Rattle.std.proofs.Common.{◌≡◌, List, ℕ, ◌+◌, ap, arith, subst, ◌∙◌, ◌∷◌, ◌<◌, [], None, Option, Some, false, true, ◌⊎◌, inl, inr, get_or, refl, sym}
use Rattle.gen1_machine.specs.Progress.{Progress}
use Rattle.gen1_machine.specs.Ruling.{ruling_of}
use Rattle.gen1_machine.specs.State.{State, Terms}
use Rattle.gen1_machine.specs.declared.side.Choice.{Choice}
use Rattle.gen1_layout.specs.Parts.{Parts, parts_of}
use Rattle.gen1_layout.specs.Shows.{Stands, setting_of}
use Rattle.gen1_rolls.specs.Steady.{stream_of}
use Rattle.gen1_rolls.specs.Streams.{Drawn, IsStream, Stream}
use Rattle.gen1_machine.specs.Laws.{drawing_from}
use Rattle.gen1_engine.specs.Update.{AreOffered}
use Rattle.gen1_outcomes.specs.declared.beginning.Left.{Left}
use Rattle.gen1_outcomes.specs.declared.beginning.Left.TheVariants as lefts
use Rattle.gen1_outcomes.specs.declared.log.Entry.{Entry}
use Rattle.gen1_outcomes.specs.declared.middles.Middle.{Middle}
use Rattle.gen1_outcomes.specs.declared.middles.Middles.{Middles}
use Rattle.gen1_outcomes.specs.declared.nodes.Nodes.{Nodes}
use Rattle.gen1_outcomes.specs.declared.successor.OutcomeOptions.{OutcomeOptions}
use Rattle.gen1_outcomes.specs.Beginning.{GoesTo, have_two_actions, left_of}
use Rattle.gen1_outcomes.specs.Complete.{Offers, OffersTwo}
use Rattle.gen1_outcomes.specs.Plain.{Walk}
use Rattle.gen1_outcomes.specs.Listing.{FollowsBy, IsPart, log_of, width_of}
use Rattle.gen1_outcomes.specs.Logs.{Agrees, logged, place_at}
use Rattle.gen1_outcomes.specs.Middles.{AreReached, Arrives, IsAdded, IsAt, IsReached, IsReachedBy, LeadsFrom, PlaysOn, Reaches, ReachesFrom}
use Rattle.gen1_outcomes.specs.Nodes.{script_of, scripted}
use Rattle.gen1_outcomes.proofs.Complete.{none_missed}
use Rattle.gen1_outcomes.proofs.Lists.{same_or}
use Rattle.gen1_outcomes.proofs.Shifts.{none_ordered, ordered_agree, NoneMissed, agrees_first, agrees_then, arrives_by, arrives_there, dropped, follows_arrived, follows_from, joined_agree, none_both, on_whole, phase-dropped, phase-restarted, place-dropped, place_both, ready_on, rest-tree}

-- What is known of a position is known of each with the same bytes and the same rest.
reached_as : (w : Walk) (one other : Middle) → other.bytes ≡ one.bytes → other.rest ≡ one.rest → IsReached w one → IsReached w other
reached_as w one other bytes rest (inl none) = inl (rest ∙ none)
reached_as w one other bytes rest (inr by) =
    inr (record {
      played = by.played;
      arrives = λ s h o stream agrees.
          let arrived = by.arrives s h o stream agrees in
          let a = arrived.0 in (
            record {
              rest = a.rest;
              kept = rest ∙ a.kept;
              here = a.here;
              at = subst (λ (x : List ℕ). IsAt s x a.rest a.here) (sym bytes) a.at;
              on = a.on;
              rests = a.rests;
            },
            arrived.1,
          );
      bytes = by.bytes;
      agrees = by.agrees;
      two = by.two;
    })

-- So each position of a list is reached after another one is added.
reached_added : (w : Walk) (middle : Middle) (old new : Middles) → IsReached w middle → AreReached w old → IsAdded middle old new → AreReached w new
reached_added w middle old new is are (inl joins) k past lt =
    elim (same_or k joins.place) [
      | inl same ↦
          let gets = joins.here past in
          subst (λ (j : ℕ). IsReached w (get_or new.list j past)) (sym same)
          (reached_as w (get_or old.list joins.place past) (get_or new.list joins.place past) gets.bytes gets.rest (are joins.place past joins.within))
      | inr other ↦ subst (IsReached w) (sym (joins.others k past other)) (are k past (omega (arith, lt, joins.length)))
    ]
reached_added w middle old new is are (inr put) k past lt =
    elim (same_or k old.len) [
      | inl same ↦ subst (λ (j : ℕ). IsReached w (get_or new.list j past)) (sym same) (subst (IsReached w) (sym (put.here past)) is)
      | inr other ↦
          let less : k < old.len = omega (arith, lt, other, put.length) in
          subst (IsReached w) (sym (put.before k past less)) (are k past less)
    ]

reached_kept : (w : Walk) (middle : Middle) (old new : Middles) → IsReached w middle → AreReached w old → (new ≡ old) ⊎ IsAdded middle old new → AreReached w new
reached_kept w middle old new is are (inl same) = subst (AreReached w) (sym same) are
reached_kept w middle old new is are (inr added) = reached_added w middle old new is are added

-- What a part draws has no search that found nothing, and a stream agrees with it.
found_in : {form : OutcomeOptions} (part : IsPart form) → NoneMissed part.order
found_in part = none_ordered part.way.log part.order part.same (none_missed part.way.log _ _ part.way.noted part.fits)

own_stream : {form : OutcomeOptions} (part : IsPart form) → (bytes : ℕ → ℕ) × Agrees part.order (Drawn bytes 840)
own_stream part =
    ordered_agree part.way.log part.order (stream_of scripted (script_of part.path)) part.same (none_missed part.way.log _ _ part.way.noted part.fits) part.way.own

-- So it is of several parts, and of one more.
all_found : {form : OutcomeOptions} (played : List (IsPart form)) → NoneMissed (log_of played)
all_found [] = tt
all_found (last ∷ before) = none_both (log_of before) last.order (all_found before) (found_in last)

one_more : {form : OutcomeOptions} (last : IsPart form) (before : List (IsPart form)) (bytes : ℕ → ℕ) → Agrees (log_of before) (Drawn bytes (width_of before))
    → (more : ℕ → ℕ) × Agrees (log_of (last ∷ before)) (Drawn more (width_of (last ∷ before)))
one_more last before bytes agrees =
    let own = own_stream last in
    joined_agree (log_of before) last.order (Drawn bytes (width_of before)) (Drawn own.0 840) (all_found before) (found_in last) agrees own.1

-- A position is reached by the part that a way to it is.
reached_by : (w : Walk) (nodes after : Nodes) (middle : Middle) → nodes.options ≡ w.options → after.too_large ≡ false → Reaches w nodes after middle
    → ((s : State) → Stands w.start s → have_two_actions w.one w.two s.field ≡ true) → IsReachedBy w middle
reached_by w nodes after middle options fits reaches two =
    let part : IsPart w.options = record {
      nodes = nodes;
      options = options;
      path = reaches.path;
      is_path = reaches.is_path;
      after = after;
      way = reaches.way;
      fits = fits;
      order = reaches.way.log;
      same = inl refl;
    } in
    let stream = own_stream part in
    record {
      played = part ∷ [];
      arrives = λ s h o stream agrees.
          let of : OffersTwo w s = record { offers = record { stands = h; offered = o }; two = two s h } in (
            arrives_by w nodes after middle reaches s of stream agrees,
            arrives_there w nodes after middle reaches s of stream agrees,
          );
      bytes = stream.0;
      agrees = stream.1;
      two = two;
    }

-- All positions of a list stay reached when one that a way reaches is added.
pub reached_more : (w : Walk) (nodes after : Nodes) (middle : Middle) (old new : Middles) → nodes.options ≡ w.options → after.too_large ≡ false
    → Reaches w nodes after middle → ((s : State) → Stands w.start s → have_two_actions w.one w.two s.field ≡ true) → AreReached w old
    → (new ≡ old) ⊎ IsAdded middle old new → AreReached w new
reached_more w nodes after middle old new options fits reaches two are kept =
    reached_kept w middle old new (inr (reached_by w nodes after middle options fits reaches two)) are kept

some_same : (a b : Left) → Some a ≡ Some b → a ≡ b
some_same a b e = cc

-- What is left leads to the same as something else that is left further on, if it does on the rest of the stream.
rests_on : (one other : Left) (terms : Terms) (p q : Progress) (stream : Stream) → p.stream ≡ stream → q.stream ≡ dropped p.drawn stream
    → left_of one (ruling_of terms) (drawing_from (dropped p.drawn stream) 0 p) ≡ left_of other (ruling_of terms) q
    → left_of one (ruling_of terms) p ≡ left_of other (ruling_of terms) (drawing_from stream (p.drawn + q.drawn) q)
rests_on one other terms p q stream here there same =
    let Left = left_of one (ruling_of terms) in
    let Other = left_of other (ruling_of terms) in
    let v = dropped p.drawn stream in
    let whole : Left p ≡ on_whole stream p.drawn (Left (drawing_from v 0 p)) =
    phase-restarted (rest-tree one terms) p ∙ ap (λ (x : Stream). on_whole x p.drawn (Left (drawing_from (dropped p.drawn x) 0 p))) here
    in
    let at : Other q ≡ Other (drawing_from v q.drawn q) = ap (λ (x : Stream). Other (drawing_from x q.drawn q)) there in
    let back : Other (drawing_from stream (p.drawn + q.drawn) q) ≡ on_whole stream p.drawn (Other (drawing_from v q.drawn q)) =
    phase-dropped (rest-tree other terms) q stream p.drawn q.drawn
    in
    whole ∙ ap (on_whole stream p.drawn) (same ∙ at) ∙ sym back

-- A turn that arrives at a position arrives at another one, if it continues to this one on what is left of its stream.
abbrev GoesOn : State → Stream → Middle → List Entry → Left → Left → Progress → Type 0
GoesOn s stream to log second left p =
    GoesTo logged (record { origin = []; stream = dropped p.drawn stream }) (setting_of s) (parts_of to.bytes) log left
    (left_of second (ruling_of s.terms) (drawing_from (dropped p.drawn stream) 0 p))

arrives_next : (s : State) (one two : Choice) (stream : Stream) (from to : Middle) (log : List Entry) (second left : Left) → IsStream stream → to.rest ≡ Some left
    → (a : Arrives s one two stream from) → a.rest ≡ second → GoesOn s stream to log second left a.here
    → (b : Arrives s one two stream to) × (a.here.drawn + place_at log (dropped a.here.drawn stream) 0 ≡ b.here.drawn)
arrives_next s one two stream from to log second left is kept a whose go =
    let n = a.here.drawn in
    let m = go.here.drawn in (
      record {
        rest = left;
        kept = kept;
        here = drawing_from stream (n + m) go.here;
        at = record { within = go.within; ready = ready_on left s.terms go.here stream (n + m) is go.ready };
        on = refl;
        rests = a.rests ∙ ap (λ (l : Left). left_of l (ruling_of s.terms) a.here) whose
            ∙ rests_on second left s.terms a.here go.here stream a.on go.on go.rests;
      },
      ap (λ (k : ℕ). n + k) go.stands,
    )

-- So it continues there where what is left of its stream agrees with the log of a way that leads there.
goes_on_to : (w : Walk) (from to : Middle) (nodes after : Nodes) (by : ReachesFrom w from nodes after to) (s : State) (stream : Stream) → IsStream stream
    → (a : Arrives s w.one w.two stream from) → Agrees by.way.log (dropped a.here.drawn stream)
    → (b : Arrives s w.one w.two stream to) × (a.here.drawn + place_at by.way.log (dropped a.here.drawn stream) 0 ≡ b.here.drawn)
goes_on_to w from to nodes after by s stream is a agrees =
    let v = dropped a.here.drawn stream in
    let second = lefts.Second by.rest in
    let whose : a.rest ≡ second = some_same a.rest second (sym a.kept ∙ by.was) in
    let at : IsAt s from.bytes second a.here = subst (λ (l : Left). IsAt s from.bytes l a.here) whose a.at in
    let again : IsAt s from.bytes second (drawing_from v 0 a.here) = record { within = at.within; ready = ready_on second s.terms a.here v 0 agrees.is at.ready } in
    arrives_next s w.one w.two stream from to by.way.log second by.left is by.kept a whose (by.goes s v agrees (drawing_from v 0 a.here) again refl refl)

-- So a position to which a way leads from a reached one is reached.
pub reached_from : (w : Walk) (from : Middle) (nodes after : Nodes) (to : Middle) → nodes.options ≡ w.options → after.too_large ≡ false
    → ReachesFrom w from nodes after to → IsReached w from → IsReached w to
reached_from w from nodes after to options fits way (inl none) = absurd (let both : Some (lefts.Second way.rest) ≡ None = sym way.was ∙ none in cc)
reached_from w from nodes after to options fits way (inr by) =
    let log = way.way.log in
    let before = log_of by.played in
    let part : IsPart w.options = record { nodes = nodes; options = options; path = way.path; is_path = way.is_path; after = after; way = way.way; fits = fits; order = log; same = inl refl } in
    let stream = one_more part by.played by.bytes by.agrees in
    inr (record {
      played = part ∷ by.played;
      arrives = λ s h o stream agrees.
          let arrived = by.arrives s h o stream (agrees_first before log stream agrees) in
          let n = arrived.0.here.drawn in
          let from_there : n ≡ n + 0 = omega arith in
          let later = subst (λ (k : ℕ). Agrees log (dropped k stream)) arrived.1 (agrees_then before log stream agrees) in
          let goes = goes_on_to w from to nodes after way s stream agrees.is arrived.0 later in (
            goes.0,
            place_both before log stream 0 ∙ ap (place_at log stream) (arrived.1 ∙ from_there) ∙ place-dropped log stream n 0 ∙ goes.1,
          );
      bytes = stream.0;
      agrees = stream.1;
      two = by.two;
    })

-- A battle at a reached position.
pub at_reached : (w : Walk) (middle : Middle) (rest : Left) → IsReached w middle → middle.rest ≡ Some rest → (s : State) → Offers w s
    → (p : Progress) × IsAt s middle.bytes rest p
at_reached w middle rest (inl none) kept s of = absurd (let both : Some rest ≡ None = sym kept ∙ none in cc)
at_reached w middle rest (inr by) kept s of =
    let a = (by.arrives s of.stands of.offered (Drawn by.bytes (width_of by.played)) by.agrees).0 in
    (a.here, subst (λ (l : Left). IsAt s middle.bytes l a.here) (some_same a.rest rest (sym a.kept ∙ kept)) a.at)

-- A way that is played on from there follows.
pub follows_on : (w : Walk) (middle : Middle) (nodes after : Nodes) (parts : Parts) → IsReached w middle → nodes.options ≡ w.options → after.too_large ≡ false
    → PlaysOn w middle nodes after parts → (s : State) → Stands w.start s → AreOffered s w.one w.two → FollowsBy s w.one w.two w.options parts
follows_on w middle nodes after parts reached options fits plays s h o = by reached
  where
    part : IsPart w.options
    part = record {
      nodes = nodes;
      options = options;
      path = plays.path;
      is_path = plays.is_path;
      after = after;
      way = plays.way;
      fits = fits;
      order = plays.order;
      same = plays.same;
    }

    by : IsReached w middle → FollowsBy s w.one w.two w.options parts
    by (inl none) =
        let stream = own_stream part in
        record {
          played = part ∷ [];
          leads = subst (λ (rest : Option Left). LeadsFrom s w.one w.two middle.bytes rest plays.order parts) none (plays.leads fits s h o);
          bytes = stream.0;
          agrees = stream.1;
        }
    by (inr at) =
        let before = log_of at.played in
        let stream = one_more part at.played at.bytes at.agrees in
        record {
          played = part ∷ at.played;
          leads = λ stream agrees.
              let of : OffersTwo w s = record { offers = record { stands = h; offered = o }; two = at.two s h } in
              let arrived = at.arrives s h o stream (agrees_first before plays.order stream agrees) in
              let later = subst (λ (k : ℕ). Agrees plays.order (dropped k stream)) arrived.1 (agrees_then before plays.order stream agrees) in
              follows_arrived w s stream middle parts of arrived.0
              (follows_from s w.one w.two middle.bytes middle.rest plays.order parts (plays.leads fits s h o) (dropped arrived.0.here.drawn stream) later);
          bytes = stream.0;
          agrees = stream.1;
        }
