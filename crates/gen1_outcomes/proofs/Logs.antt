-- Logs with one entry more, and the draws of an explorer.
use Rattle.std.proofs.Common.{◌≡◌, ◌≢◌, inl, inr, ℕ, ◌+◌, ◌<◌, List, [], ◌∷◌, ◌++◌, Option, None, Some, IfNone, IfSome, IsFalse, IsTrue, ap, append-nil, append_assoc, arith, refl, subst, sym, ◌∙◌}
use Rattle.std.specs.Borrow.{GName}
use Rattle.gen1_rolls.specs.declared.rolls.ByteTest.{ByteTest}
use Rattle.gen1_rolls.specs.declared.rolls.Look.{Look}
use Rattle.gen1_rolls.specs.declared.rolls.Look.TheVariants.{Remainder}
use Rattle.gen1_rolls.specs.Draws.{Finds, IsNext, Misses, Since, StandsIn, StepsTo}
use Rattle.gen1_rolls.specs.Streams.{passes, sees, IsStream, Stream, byte_at, first, span}
use Rattle.gen1_rolls.specs.Steady.{StandsAt, steady, stream_of}
use Rattle.gen1_rolls.proofs.First.{byte-small}
use Rattle.gen1_rolls.proofs.Standing.{stands_at_itself}
use Rattle.gen1_machine.specs.declared.side.Choice.{Choice}
use Rattle.gen1_machine.specs.declared.terms.Request.TheVariants.{Move}
use Rattle.gen1_machine.specs.State.{State}
use Rattle.gen1_layout.specs.Parts.{Parts}
use Rattle.gen1_layout.specs.Shows.{Telling, setting_of}
use Rattle.gen1_switching.specs.SwitchingIn.{Steps, UpdatedDrawing}
use Rattle.gen1_outcomes.specs.declared.byte_set.ByteSet.{ByteSet}
use Rattle.gen1_outcomes.specs.declared.explorer.Explorer.{Explorer}
use Rattle.gen1_outcomes.specs.declared.log.Entry.{Entry}
use Rattle.gen1_outcomes.specs.declared.log.Entry.TheVariants.{Draw, Found, Missed}
use Rattle.gen1_outcomes.specs.declared.nodes.Asked.{Asked}
use Rattle.gen1_outcomes.specs.declared.nodes.Asked.TheVariants.{First, Next}
use Rattle.gen1_outcomes.specs.declared.nodes.Nodes.{Nodes}
use Rattle.gen1_outcomes.specs.declared.explorer.Script.{Script}
use Rattle.gen1_outcomes.specs.Plain.{Leads, turn_on}
use Rattle.gen1_outcomes.specs.Logs.{explored}
use Rattle.gen1_outcomes.specs.Logs.{AllFit, Draws, FindsAlike, Fits, IsLogged, NotesAll, NotesEntry, place_after, place_at, place_past}
use Rattle.gen1_outcomes.specs.Nodes.{Notes, Passes, scripted}

pub place_more : (es : List Entry) (e : Entry) (s : Stream) (n : ℕ) → place_at (es ++ e ∷ []) s n ≡ place_after e s (place_at es s n)
place_more [] e s n = refl
place_more (x ∷ es) e s n = place_more es e s (place_after x s n)

pub fit_more : (es : List Entry) (e : Entry) (s : Stream) (n : ℕ) → AllFit es s n → Fits e s (place_at es s n) → AllFit (es ++ e ∷ []) s n
fit_more [] e s n all fits = (fits, tt)
fit_more (x ∷ es) e s n all fits = (all.0, fit_more es e s (place_after x s n) all.1 fits)

pub fit_before : (es : List Entry) (e : Entry) (s : Stream) (n : ℕ) → AllFit (es ++ e ∷ []) s n → AllFit es s n × Fits e s (place_at es s n)
fit_before [] e s n all = (tt, all.0)
fit_before (x ∷ es) e s n all = let rest = fit_before es e s (place_after x s n) all.1 in ((all.0, rest.0), rest.1)

pub notes_more : (es : List Entry) (e : Entry) (old now new : Nodes) → NotesAll es old now → NotesEntry e now new → NotesAll (es ++ e ∷ []) old new
notes_more [] e old now new all step = (new, subst (λ (x : Nodes). NotesEntry e x new) all step, refl)
notes_more (x ∷ es) e old now new all step = (all.0, all.1, notes_more es e all.0 now new all.2 step)

module _ {N : Type 0} (noting : N → Nodes) (name : N → GName) where
  -- A draw or a search leads from one explorer to another.
  pub record StepBy (e : Entry) (old new : Explorer N) : Type 0 where
    pub log : new.log.entries ≡ old.log.entries ++ e ∷ []
    pub notes : NotesEntry e (noting old.notes) (noting new.notes)
    pub same : name new.notes ≡ name old.notes
    pub own : (origin : Script) (s : Stream) (n : ℕ) → StandsAt scripted origin s n old.script → Fits e s n × StandsAt scripted origin s (place_after e s n) new.script

  -- Where a log has an entry more, its stream agreed with those before it, and with that one.
  fits_last : (e : Entry) (old new : Explorer N) (s : Stream) → new.log.entries ≡ old.log.entries ++ e ∷ [] → AllFit new.log.entries s 0
      → AllFit old.log.entries s 0 × Fits e s (place_at old.log.entries s 0)
  fits_last e old new s is fit = fit_before old.log.entries e s 0 (subst (λ (l : List Entry). AllFit l s 0) is fit)

  -- The place after it.
  past_last : (e : Entry) (old new : Explorer N) (s : Stream) → new.log.entries ≡ old.log.entries ++ e ∷ []
      → place_at new.log.entries s 0 ≡ place_after e s (place_at old.log.entries s 0)
  past_last e old new s is = ap (λ (l : List Entry). place_at l s 0) is ∙ place_more old.log.entries e s 0

  draws_more : (e : Entry) (old new : Explorer N) (origin : Script) (s : Stream) → StepBy e old new → Draws origin s old.log.entries old.script
      → Draws origin s new.log.entries new.script
  draws_more e old new origin s by draws =
      let next = by.own origin s (place_at old.log.entries s 0) draws.stands in
      record {
        fit = subst (λ (l : List Entry). AllFit l s 0) (sym by.log) (fit_more old.log.entries e s 0 draws.fit next.0);
        stands = subst (λ (n : ℕ). StandsAt scripted origin s n new.script) (sym (past_last e old new s by.log)) next.1;
      }

  pub steps_by : (e : Entry) (old new : Explorer N) → StepBy e old new → StepsTo (explored noting name) old new
  steps_by e old new by =
      record {
        later = λ origin s a. record { is = a.is; fit = (fits_last e old new s by.log a.fit).0 };
        comes = λ before came. record {
          more = came.more ++ e ∷ [];
          log = by.log ∙ ap (λ (l : List Entry). l ++ e ∷ []) came.log ∙ append_assoc before.log.entries came.more (e ∷ []);
          notes = notes_more came.more e (noting before.notes) (noting old.notes) (noting new.notes) came.notes by.notes;
          same = by.same ∙ came.same;
          own = λ origin s draws. draws_more e old new origin s by (came.own origin s draws);
        };
      }

  -- A draw is of the next byte of each stream that agrees.
  pub next_by : (look : Look) (b : ℕ) (old new : Explorer N) → StepBy (Draw look b) old new → (since : Since (explored noting name) new) (n : ℕ)
      → StandsIn (explored noting name) since.source n old → IsNext (explored noting name) since.source n (λ byte. sees look b ≡ sees look byte) new
  next_by look b old new by since n at =
      let s = since.source.stream in
      record {
        is = subst (λ (m : ℕ). sees look b ≡ sees look (byte_at s m)) at (fits_last (Draw look b) old new s by.log since.agrees.fit).1;
        stands = past_last (Draw look b) old new s by.log ∙ ap (λ (m : ℕ). m + 1) at;
      }

  -- A byte of which all is seen is that of the stream.
  pub byte_by : (b : ℕ) (old new : Explorer N) → b < 256 → (since : Since (explored noting name) new) (n : ℕ)
      → IsNext (explored noting name) since.source n (λ byte. sees (Remainder 256) b ≡ sees (Remainder 256) byte) new
      → IsNext (explored noting name) since.source n (λ byte. b ≡ byte) new
  byte_by b old new small since n next =
      record { is = omega (arith, small, byte-small since.source.stream n since.agrees.is, next.is); stands = next.stands }

  -- A search finds the first byte that passes, on each stream that agrees.
  pub found_by : (test : ByteTest) (look : Look) (b : ℕ) (old new : Explorer N) → b < 256 → IsTrue (passes test b) → StepBy (Found test look b) old new
      → Finds (explored noting name) (passes test) old b (λ byte. sees look b ≡ sees look byte) new
  found_by test look b old new small meets by =
      record {
        fits = small;
        meets = meets;
        on = λ since n at.
            let s = since.source.stream in
            let x : FindsAlike test look b s n =
            subst (λ (m : ℕ). FindsAlike test look b s m) at (fits_last (Found test look b) old new s by.log since.agrees.fit).1 in
            record {
              place = x.place;
              found = x.found;
              fits = byte-small s x.place since.agrees.is;
              is = x.alike;
              stands =
                  past_last (Found test look b) old new s by.log ∙ ap (λ (m : ℕ). place_past (first s m (passes test)) m) at
                  ∙ ap (λ (o : Option ℕ). place_past o n) x.found;
            };
      }

  -- A search without a result finds none on each stream that agrees.
  pub missed_by : (test : ByteTest) (old new : Explorer N) → ((b : ℕ) → b < 256 → IsFalse (passes test b)) → StepBy (Missed test) old new
      → Misses (explored noting name) (passes test) old new
  missed_by test old new none by =
      record {
        none_meets = none;
        on = λ since n at.
            let s = since.source.stream in
            record {
              none = subst (λ (m : ℕ). first s m (passes test) ≡ None) at (fits_last (Missed test) old new s by.log since.agrees.fit).1;
              stands = past_last (Missed test) old new s by.log ∙ ap (λ (m : ℕ). m + span s) at;
            };
      }

  -- A draw of the script, noted and logged, is such a step, and so is a search.
  pub drawn_step : (look : Look) (b : ℕ) (old new : Explorer N) → new.log.entries ≡ old.log.entries ++ Draw look b ∷ []
      → NotesEntry (Draw look b) (noting old.notes) (noting new.notes) → name new.notes ≡ name old.notes
      → ((since : Since (steady scripted) new.script) (n : ℕ) → StandsIn (steady scripted) since.source n old.script
      → IsNext (steady scripted) since.source n (λ byte. b ≡ byte) new.script) → StepBy (Draw look b) old new
  drawn_step look b old new log notes same drawn =
      record {
        log = log;
        notes = notes;
        same = same;
        own = λ origin s n at.
            let x = drawn (record { source = record { origin = origin; stream = s }; agrees = tt }) n at in (ap (sees look) x.is, x.stands);
      }

  pub found_step : (test : ByteTest) (look : Look) (b : ℕ) (old new : Explorer N) → new.log.entries ≡ old.log.entries ++ Found test look b ∷ []
      → NotesEntry (Found test look b) (noting old.notes) (noting new.notes) → name new.notes ≡ name old.notes
      → Finds (steady scripted) (passes test) old.script b (λ byte. sees look b ≡ sees look byte) new.script → StepBy (Found test look b) old new
  found_step test look b old new log notes same finds =
      record {
        log = log;
        notes = notes;
        same = same;
        own = λ origin s n at.
            let x = finds.on (record { source = record { origin = origin; stream = s }; agrees = tt }) n at in (
              record { place = x.place; found = x.found; alike = x.is },
              subst (λ (m : ℕ). StandsAt scripted origin s m new.script) (sym (ap (λ (o : Option ℕ). place_past o n) x.found)) x.stands,
            );
      }

  pub missed_step : (test : ByteTest) (old new : Explorer N) → new.log.entries ≡ old.log.entries ++ Missed test ∷ []
      → NotesEntry (Missed test) (noting old.notes) (noting new.notes) → name new.notes ≡ name old.notes
      → Misses (steady scripted) (passes test) old.script new.script → StepBy (Missed test) old new
  missed_step test old new log notes same misses =
      record {
        log = log;
        notes = notes;
        same = same;
        own = λ origin s n at. let x = misses.on (record { source = record { origin = origin; stream = s }; agrees = tt }) n at in (x.none, x.stands);
      }

  -- What a search of the script returns, found or not.
  pub record Searched (test : ByteTest) (look : Look) (o : Option ℕ) (old new : Explorer N) : Type 0 where
    pub found : IfSome o (λ b. Finds (steady scripted) (passes test) old.script b (λ byte. sees look b ≡ sees look byte) new.script)
    pub none : IfNone o (Misses (steady scripted) (passes test) old.script new.script)
    pub logged : IfSome o (λ b. new.log.entries ≡ old.log.entries ++ Found test look b ∷ [])
    pub missed : IfNone o (new.log.entries ≡ old.log.entries ++ Missed test ∷ [])
    pub noted : IfSome o (λ b. NotesEntry (Found test look b) (noting old.notes) (noting new.notes))
    pub marks : IfNone o (NotesEntry (Missed test) (noting old.notes) (noting new.notes))
    pub same : name new.notes ≡ name old.notes

  pub finds_searched : (test : ByteTest) (look : Look) (o : Option ℕ) (old new : Explorer N) → Searched test look o old new
      → IfSome o (λ b. Finds (explored noting name) (passes test) old b (λ byte. sees look b ≡ sees look byte) new)
  finds_searched test look (Some b) old new s =
      found_by test look b old new s.found.fits s.found.meets (found_step test look b old new s.logged s.noted s.same s.found)
  finds_searched test look None old new s = tt

  pub misses_searched : (test : ByteTest) (look : Look) (o : Option ℕ) (old new : Explorer N) → Searched test look o old new
      → IfNone o (Misses (explored noting name) (passes test) old new)
  misses_searched test look (Some b) old new s = tt
  misses_searched test look None old new s = missed_by test old new s.none.none_meets (missed_step test old new s.missed s.marks s.same s.none)

  pub steps_searched : (test : ByteTest) (look : Look) (o : Option ℕ) (old new : Explorer N) → Searched test look o old new
      → StepsTo (explored noting name) old new
  steps_searched test look (Some b) old new s = steps_by (Found test look b) old new (found_step test look b old new s.logged s.noted s.same s.found)
  steps_searched test look None old new s = steps_by (Missed test) old new (missed_step test old new s.missed s.marks s.same s.none)

  -- What was asked since the beginning: the draws of the script agree with it, and all of it was noted.
  abbrev pub logged_by : (start last : Explorer N) → start.log.entries ≡ [] → IsStream (stream_of scripted start.script) → StepsTo (explored noting name) start last
      → IsLogged start.script (noting start.notes) (noting last.notes)
  logged_by start last empty is steps =
      let came = steps.comes start (record { more = []; log = sym (append-nil start.log.entries); notes = refl; same = refl; own = λ origin s draws. draws }) in
      let all : last.log.entries ≡ came.more = came.log ∙ ap (λ (l : List Entry). l ++ came.more) empty in
      let own = stream_of scripted start.script in
      record {
        log = last.log.entries;
        own = record { is = is; fit = (came.own start.script own (rw empty (record { fit = tt; stands = stands_at_itself scripted start.script }))).fit };
        noted = rw all came.notes;
      }

  -- It keeps the place where draws are noted.
  pub same_place : (start last : Explorer N) → StepsTo (explored noting name) start last → name last.notes ≡ name start.notes
  same_place start last steps =
      (steps.comes start (record { more = []; log = sym (append-nil start.log.entries); notes = refl; same = refl; own = λ origin s draws. draws })).same

  -- What an update with its draws leads to: the same on each stream that agrees with its log.
  pub leads_of : (start last : Explorer N) (s : State) (one two : Choice) (parts : Parts) (events : Telling) → start.log.entries ≡ []
      → (s.field.request_one ≡ Move → (since : Since (explored noting name) last) (drawn : ℕ) → IsStream since.source.stream
      → StandsIn (explored noting name) since.source drawn start
      → UpdatedDrawing (explored noting name) since.source (setting_of s) parts events last (turn_on s one two since.source.stream drawn))
      → (s.field.request_one ≢ Move → Steps s one two parts events) → Leads s one two last.log.entries parts events
  leads_of start last s one two parts events empty turn still stream agrees =
      record {
        by_turn = λ asked.
            let u = turn asked (record { source = record { origin = start; stream = stream }; agrees = agrees }) 0 agrees.is
            (ap (λ (l : List Entry). place_at l stream 0) empty)
            in
            record { within = u.within; written = u.written };
        by_step = still;
      }

-- No draw changes how they are noted.
pass_keeps : (b : ℕ) (asked : Asked) (look : Look) (old new : Nodes) → Passes b asked look old new → new.options ≡ old.options
pass_keeps b asked look old new passes =
    elim passes.past [
      | inl same ↦ ap (λ (x : Nodes). x.options) same.1
      | inr other ↦ ap (λ (x : Nodes). x.options) other
    ]

note_keeps : (b : ℕ) (asked : Asked) (look : Look) (may : ByteSet) (old new : Nodes) → Notes b asked look may old new → new.options ≡ old.options
note_keeps b asked look may old new (inl adds) = adds.options
note_keeps b asked look may old new (inr (inl same)) = ap (λ (x : Nodes). x.options) same.0
note_keeps b asked look may old new (inr (inr marked)) = marked.options

pub entry_keeps : (e : Entry) (old new : Nodes) → NotesEntry e old new → new.options ≡ old.options
entry_keeps (Draw look b) old new notes =
    elim notes [
      | inl passes ↦ pass_keeps b Next look old new passes
      | inr adds ↦ note_keeps b Next look adds.0 old new adds.2.noted
    ]
entry_keeps (Found test look b) old new notes =
    elim notes.2 [
      | inl passes ↦ pass_keeps b (First test) look old new passes
      | inr adds ↦ note_keeps b (First test) look adds.0 old new adds.2.noted
    ]
entry_keeps (Missed test) old new marks = ap (λ (x : Nodes). x.options) marks

pub notes_keep : (es : List Entry) (old new : Nodes) → NotesAll es old new → new.options ≡ old.options
notes_keep [] old new same = ap (λ (x : Nodes). x.options) same
notes_keep (e ∷ es) old new all = notes_keep es all.0 new all.2 ∙ entry_keeps e old all.0 all.1
