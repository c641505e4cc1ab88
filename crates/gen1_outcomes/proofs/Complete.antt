-- Every stream goes by the draws of some way, so a list in one stage has a battle for every stream.
use Rattle.std.proofs.Common.{◌≡◌, ◌⊎◌, inl, inr, ℕ, zero, suc, ◌*◌, ◌+◌, ◌<◌, ◌≤◌, ◌==◌, Bool, IsTrue, true, false, List, [], ◌∷◌, Option, None, Some, add-one, ap, arith, cond, get_or, length, refl, subst, sym, ◌∙◌, Err, IfOk, Ok, OnOk, Result}
use Rattle.std.proofs.lemmas.Bool.Decides.{nat_tests}
use Rattle.std.proofs.lemmas.List.{get_or_default}
use Rattle.gen1_rolls.specs.declared.rolls.ByteTest.{ByteTest}
use Rattle.gen1_rolls.specs.declared.rolls.Look.{Look}
use Rattle.gen1_rolls.specs.declared.rolls.Look.TheVariants.{Below, Factor, Remainder, RotatedBelow}
use Rattle.gen1_rolls.specs.Streams.{passes, sees, IsStream, Stream, byte_at, first}
use Rattle.gen1_rolls.proofs.First.{first-exists, first-finds, byte-small}
use Rattle.gen1_outcomes.specs.declared.byte_set.ByteSet.{ByteSet}
use Rattle.gen1_outcomes.specs.declared.log.Entry.{Entry}
use Rattle.gen1_outcomes.specs.declared.log.Entry.TheVariants.{Draw, Found, Missed}
use Rattle.gen1_outcomes.specs.declared.nodes.Asked.{Asked}
use Rattle.gen1_outcomes.specs.declared.nodes.Asked.TheVariants.{First, Next, Unknown}
use Rattle.gen1_outcomes.specs.declared.nodes.Node.{Node}
use Rattle.gen1_outcomes.specs.declared.nodes.Nodes.{Nodes}
use Rattle.gen1_outcomes.specs.declared.successor.OutcomeOptions.{OutcomeOptions}
use Rattle.gen1_outcomes.specs.Nodes.{AllDone, AreBytes, AreLeft, AreOn, AreToCome, IsSettled, LeadsOn, Notes, Passes, asked_at, script_of}
use Rattle.gen1_outcomes.specs.Bytes.{has, alike_in, told}
use Rattle.gen1_outcomes.specs.Complete.{GoesBy, IsExact, IsToCome, WaitsAfter, byte_for, byte_or_zero, place_asked, place_before, IsListed, ListsEvery, Extends, FollowsFrom, IsHandled, ArrivesAt, Lists, ListsFrom, ListsHandled, LosesNone, Offers, OffersTwo}
use Rattle.gen1_outcomes.specs.Logs.{AllFit, Fits, NotesAll, NotesEntry, place_after, place_at, place_past, Agrees, IsLogged}
use Rattle.gen1_outcomes.proofs.Logs.{entry_keeps}
use Rattle.gen1_outcomes.proofs.Shifts.{NoneMissed, arrives_by, dropped, dropped-is, follows_arrived}
use Rattle.gen1_outcomes.proofs.Walking.{at, some_node}
use Rattle.gen1_machine.specs.declared.side.Choice.{Choice}
use Rattle.gen1_machine.specs.State.{State}
use Rattle.gen1_layout.specs.Parts.{Parts, joined}
use Rattle.gen1_layout.specs.Shows.{Stands}
use Rattle.gen1_engine.specs.Update.{AreOffered}
use Rattle.gen1_outcomes.specs.declared.successor.OutcomesFault.{OutcomesFault}
use Rattle.gen1_outcomes.specs.declared.merging.Tally.{Tally}
use Rattle.gen1_outcomes.specs.declared.middles.Middle.{Middle}
use Rattle.gen1_outcomes.specs.declared.nodes.Chance.{Chance}
use Rattle.gen1_outcomes.specs.declared.outcomes.Outcomes.{Outcomes}
use Rattle.gen1_outcomes.specs.declared.successor.Successor.{Successor}
use Rattle.gen1_outcomes.specs.Plain.{IsBegun, Walk}
use Rattle.gen1_outcomes.specs.Listing.{AreThose, KeepsFirst}
use Rattle.gen1_outcomes.specs.Middles.{Arrives, IsAdded, IsAt, Reaches}
use Rattle.gen1_outcomes.specs.Weights.{Adds}
use Rattle.gen1_outcomes.specs.declared.beginning.Left.{Left}
use Rattle.gen1_outcomes.specs.declared.middles.Middles.{Middles}
use Rattle.gen1_outcomes.specs.declared.explorer.Script.{Script}
use Rattle.gen1_outcomes.proofs.Lists.{same_or}

three : (m n : ℕ) → (m < n) ⊎ (m ≡ n) ⊎ (n < m)
three m n = grind arith

same_of : (a b : ℕ) → (a == b) ≡ true → a ≡ b
same_of a b e = grind (arith, nat_tests)

-- Without classes of damage all that is seen is distinguished.
told_sees : (look : Look) (b : ℕ) → told 0 look b ≡ sees look b
told_sees (Below bound) b = refl
told_sees (RotatedBelow bound) b = refl
told_sees (Remainder divisor) b = refl
told_sees (Factor damage edge cut) b = refl

alike_sees : (classes : ℕ) (look : Look) (x y : ℕ) → classes ≡ 0 → alike_in classes look x y ≡ true → sees look x ≡ sees look y
alike_sees classes look x y none e =
    let here : alike_in 0 look x y ≡ true = subst (λ (n : ℕ). alike_in n look x y ≡ true) none e in
    sym (told_sees look x) ∙ same_of (told 0 look x) (told 0 look y) here ∙ told_sees look y

-- A byte can be asked for, and the look sees each part of it that is distinguished.
abbrev pub CanAsk : Asked → Type 0
CanAsk Next = Unit {0}
CanAsk (First test) = (b : ℕ) × (b < 256) × IsTrue (passes test b)
CanAsk Unknown = ⊥

pub record IsKnownAt (nodes : Nodes) (k : ℕ) : Type 0 where
  pub asks : CanAsk (asked_at nodes k)
  pub classes : (past : Node) → (at nodes k past).damage_classes ≡ 0

abbrev pub AreKnown : Nodes → Type 0
AreKnown nodes = (k : ℕ) → k < nodes.len → IsKnownAt nodes k

-- Bytes of a stream.

pub byte_or-small : (s : Stream) → IsStream s → (o : Option ℕ) → byte_or_zero s o < 256
byte_or-small s is (Some m) = byte-small s m is
byte_or-small s is None = omega arith

pub bytes_small : (asked : ℕ → Asked) (s : Stream) → IsStream s → AreBytes (byte_for asked s)
bytes_small asked s is k = byte_or-small s is (place_asked (asked k) s (place_before asked s k))

pub place_same : (f g : ℕ → Asked) (s : Stream) (n : ℕ) → ((k : ℕ) → k < n → f k ≡ g k) → place_before f s n ≡ place_before g s n
place_same f g s zero same = refl
place_same f g s (suc n) same =
    let before : place_before f s n ≡ place_before g s n = place_same f g s n (λ k lt. same k (omega (arith, lt))) in
    let here : f n ≡ g n = same n (omega arith) in
    ap (λ (p : ℕ). place_past (place_asked (f n) s p) p) before ∙ ap (λ (a : Asked). place_past (place_asked a s (place_before g s n)) (place_before g s n)) here

pub byte_same : (f g : ℕ → Asked) (s : Stream) (n : ℕ) → ((k : ℕ) → k < n → f k ≡ g k) → (k : ℕ) → k < n → byte_for f s k ≡ byte_for g s k
byte_same f g s n same k lt =
    ap (λ (p : ℕ). byte_or_zero s (place_asked (f k) s p)) (place_same f g s k (λ j less. same j (omega (arith, less, lt))))
    ∙ ap (λ (a : Asked). byte_or_zero s (place_asked a s (place_before g s k))) (same k lt)

pub on_same : (nodes : Nodes) (n : ℕ) (f g : ℕ → ℕ) → ((k : ℕ) → k < n → f k ≡ g k) → AreOn nodes n f → AreOn nodes n g
on_same nodes n f g same on k past lt =
    subst (λ (b : ℕ). alike_in (at nodes k past).damage_classes (at nodes k past).look (at nodes k past).byte b ≡ true) (same k lt) (on k past lt)

left_same : (nodes : Nodes) (f g : ℕ → ℕ) → ((k : ℕ) → k < nodes.len → f k ≡ g k) → AreLeft nodes f → AreLeft nodes g
left_same nodes f g same left =
    record {
      place = left.place;
      within = left.within;
      before = on_same nodes left.place f g (λ k lt. same k (omega (arith, lt, left.within))) left.before;
      here = λ past. subst (λ (b : ℕ). has (at nodes left.place past).rest b ≡ 1) (same left.place left.within) (left.here past);
    }

-- The byte that a stream has for a draw passes its test.
pub asked_passes : (asked : Asked) (test : ByteTest) (s : Stream) (n : ℕ) → IsStream s → asked ≡ First test → CanAsk asked
    → (m : ℕ) × (place_asked asked s n ≡ Some m) × IsTrue (passes test (byte_at s m))
asked_passes asked test s n is e can =
    let some : (b : ℕ) × (b < 256) × IsTrue (passes test b) = subst (λ (a : Asked). CanAsk a) e can in
    let found = first-exists s is n (passes test) some.0 some.1 some.2 in
    (found.0, ap (λ (a : Asked). place_asked a s n) e ∙ found.1, (first-finds s n (passes test) found.0 found.1).meets)

-- A draw of a way is an entry of its log.
abbrev pub IsEntry : Entry → Nodes → ℕ → Type 0
IsEntry (Draw look b) nodes k = (asked_at nodes k ≡ Next) × ((past : Node) → ((at nodes k past).look ≡ look) × ((at nodes k past).byte ≡ b))
IsEntry (Found test look b) nodes k = (asked_at nodes k ≡ First test) × ((past : Node) → ((at nodes k past).look ≡ look) × ((at nodes k past).byte ≡ b))
IsEntry (Missed test) nodes k = ⊥

entry_as : (e : Entry) (old new : Nodes) (k : ℕ) → asked_at new k ≡ asked_at old k → ((past : Node) → at new k past ≡ at old k past) → IsEntry e old k → IsEntry e new k
entry_as (Draw look b) old new k asked same is =
    (asked ∙ is.0, λ past. (ap (λ (n : Node). n.look) (same past) ∙ (is.1 past).0, ap (λ (n : Node). n.byte) (same past) ∙ (is.1 past).1))
entry_as (Found test look b) old new k asked same is =
    (asked ∙ is.0, λ past. (ap (λ (n : Node). n.look) (same past) ∙ (is.1 past).0, ap (λ (n : Node). n.byte) (same past) ∙ (is.1 past).1))
entry_as (Missed test) old new k asked same is = is

-- It is asked for at the same place, and if the stream goes by the draws, it agrees with the entry.
entry_place : (e : Entry) (nodes : Nodes) (k : ℕ) (s : Stream) (p : ℕ) → IsEntry e nodes k → place_past (place_asked (asked_at nodes k) s p) p ≡ place_after e s p
entry_place (Draw look b) nodes k s p is = ap (λ (a : Asked). place_past (place_asked a s p) p) is.0
entry_place (Found test look b) nodes k s p is = ap (λ (a : Asked). place_past (place_asked a s p) p) is.0
entry_place (Missed test) nodes k s p is = absurd is

sees_as : (nodes : Nodes) (k : ℕ) (look : Look) (b x : ℕ) (past : Node) → IsKnownAt nodes k → ((at nodes k past).look ≡ look) × ((at nodes k past).byte ≡ b)
    → alike_in (at nodes k past).damage_classes (at nodes k past).look (at nodes k past).byte x ≡ true → sees look b ≡ sees look x
sees_as nodes k look b x past known is e =
    let n = at nodes k past in
    subst (λ (c : ℕ). sees look c ≡ sees look x) is.1 (subst (λ (l : Look). sees l n.byte ≡ sees l x) is.0 (alike_sees n.damage_classes n.look n.byte x (known.classes past) e))

entry_fits : (e : Entry) (nodes : Nodes) (k : ℕ) (s : Stream) (past : Node) → IsStream s → k < nodes.len → IsKnownAt nodes k → IsEntry e nodes k → GoesBy nodes s
    → Fits e s (place_before (asked_at nodes) s k)
entry_fits (Draw look b) nodes k s past is lt known entry goes =
    let p = place_before (asked_at nodes) s k in
    let byte : byte_for (asked_at nodes) s k ≡ byte_at s p = ap (λ (a : Asked). byte_or_zero s (place_asked a s p)) entry.0 in
    sees_as nodes k look b (byte_for (asked_at nodes) s k) past known (entry.1 past) (goes k past lt) ∙ ap (sees look) byte
entry_fits (Found test look b) nodes k s past is lt known entry goes =
    let p = place_before (asked_at nodes) s k in
    let found = asked_passes (asked_at nodes k) test s p is entry.0 known.asks in
    let byte : byte_for (asked_at nodes) s k ≡ byte_at s found.0 = ap (byte_or_zero s) found.1 in
    record {
      place = found.0;
      found = sym (ap (λ (a : Asked). place_asked a s p) entry.0) ∙ found.1;
      alike = sees_as nodes k look b (byte_for (asked_at nodes) s k) past known (entry.1 past) (goes k past lt) ∙ ap (sees look) byte;
    }
entry_fits (Missed test) nodes k s past is lt known entry goes = absurd entry

-- What a draw or a search makes of the draws.
pub record Steps (e : Entry) (old new : Nodes) : Type 0 where
  pub known : AreKnown new
  pub past : new.at ≡ old.at + 1
  pub within : new.at ≤ new.len
  pub longer : old.len ≤ new.len
  pub asked : (k : ℕ) → k < old.len → asked_at new k ≡ asked_at old k
  pub same : (k : ℕ) (past : Node) → k < old.len → at new k past ≡ at old k past
  pub entry : IsEntry e new old.at
  pub to_come : (s : Stream) → IsStream s → IsToCome old s → IsToCome new s

-- How many draws a way has had so far changes nothing of that.
passed_come : (nodes : Nodes) (n : ℕ) (s : Stream) → IsToCome nodes s → IsToCome (record nodes { at = n }) s
passed_come nodes n s (inl on) = inl on
passed_come nodes n s (inr left) = inr (record { place = left.place; within = left.within; before = left.before; here = left.here })

-- One of a way is passed.
passed_as : (e : Entry) (b : ℕ) (asked : Asked) (look : Look) (old new : Nodes)
    → ((nodes : Nodes) (k : ℕ) → (asked_at nodes k ≡ asked) × ((past : Node) → ((at nodes k past).look ≡ look) × ((at nodes k past).byte ≡ b)) → IsEntry e nodes k)
    → AreKnown old → (new.too_large ≡ true → ⊥) → Passes b asked look old new → Steps e old new
passed_as e b asked look old new entry known fits passes =
    elim passes.past [
      | inl same ↦
          let here : (asked_at old old.at ≡ asked) × ((past : Node) → ((at old old.at past).look ≡ look) × ((at old old.at past).byte ≡ b)) =
          elim same.0 [
            | inl unknown ↦ absurd (subst (λ (a : Asked). CanAsk a) unknown (known old.at passes.within).asks)
            | inr has ↦ has
          ]
          in
          subst (λ (n : Nodes). Steps e old n) (sym same.1) (record {
            known = λ k lt. record { asks = (known k lt).asks; classes = (known k lt).classes };
            past = refl;
            within = omega (arith, passes.within);
            longer = omega arith;
            asked = λ k lt. refl;
            same = λ k past lt. refl;
            entry = entry (record old { at = old.at + 1 }) old.at here;
            to_come = λ s is come. passed_come old (old.at + 1) s come;
          })
      | inr other ↦ absurd (fits (ap (λ (n : Nodes). n.too_large) other))
    ]

-- One is added.
added_as : (e : Entry) (b : ℕ) (asked : Asked) (look : Look) (may : ByteSet) (old new : Nodes)
    → ((nodes : Nodes) (k : ℕ) → (asked_at nodes k ≡ asked) × ((past : Node) → ((at nodes k past).look ≡ look) × ((at nodes k past).byte ≡ b)) → IsEntry e nodes k)
    → CanAsk asked → ((s : Stream) (n : ℕ) → IsStream s → has may (byte_or_zero s (place_asked asked s n)) ≡ 1)
    → AreKnown old → IsExact old.options → old.at ≡ old.len → (new.too_large ≡ true → ⊥) → Notes b asked look may old new → Steps e old new
added_as e b asked look may old new entry can has_it known exact all fits (inl adds) =
    let more : (k : ℕ) → k < new.len → IsKnownAt new k =
    λ k lt.
    elim (three k old.len) [
      | inl less ↦
          record {
            asks = subst (λ (a : Asked). CanAsk a) (sym (adds.asked k less)) (known k less).asks;
            classes = λ past. ap (λ (n : Node). n.damage_classes) (adds.before k past less) ∙ (known k less).classes past;
          }
      | inr (inl is) ↦
          subst (λ (j : ℕ). IsKnownAt new j) (sym is) (record {
            asks = subst (λ (a : Asked). CanAsk a) (sym adds.asks) can;
            classes = λ past. adds.told past ∙ exact.classes;
          })
      | inr (inr more) ↦ absurd (omega (arith, lt, more, adds.length))
    ]
    in
    record {
      known = more;
      past = omega (arith, adds.at, adds.length, all);
      within = omega (arith, adds.at);
      longer = omega (arith, adds.length);
      asked = adds.asked;
      same = adds.before;
      entry = subst (λ (j : ℕ). IsEntry e new j) (sym all) (entry new old.len (adds.asks, λ past. (adds.look past, adds.byte past)));
      to_come = λ s is come.
          let f = byte_for (asked_at old) s in
          let g = byte_for (asked_at new) s in
          let same : (k : ℕ) → k < old.len → f k ≡ g k = byte_same (asked_at old) (asked_at new) s old.len (λ k lt. sym (adds.asked k lt)) in
          let small = bytes_small (asked_at new) s is in
          elim come [
            | inl on ↦
                let one : has may (g old.len) ≡ 1 =
                subst (λ (a : Asked). has may (byte_or_zero s (place_asked a s (place_before (asked_at new) s old.len))) ≡ 1) (sym adds.asks)
                (has_it s (place_before (asked_at new) s old.len) is)
                in
                adds.covers.on g small (on_same old old.len f g same on) one
            | inr left ↦ inr (adds.covers.left g small (left_same old f g same left))
          ];
    }
added_as e b asked look may old new entry can has_it known exact all fits (inr (inl left)) =
    let c = left.1.0 in
    let below = left.1.2 in
    absurd (omega (arith, below, ap (λ (n : ℕ). n * c.whole) exact.least))
added_as e b asked look may old new entry can has_it known exact all fits (inr (inr marked)) = absurd (fits marked.marked)

pub settled_not : (old : Nodes) → old.len ≤ old.at → old.options.least ≡ 0 → IsSettled old → ⊥
settled_not old after least (inl less) = omega (arith, less, after)
settled_not old after least (inr left) =
    let c = left.0 in let below = left.2 in omega (arith, below, ap (λ (n : ℕ). n * c.whole) least)

pub step_as : (e : Entry) (old new : Nodes) → AreKnown old → old.at ≤ old.len → IsExact old.options → (new.too_large ≡ true → ⊥) → NotesEntry e old new → Steps e old new
step_as (Draw look b) old new known within exact fits notes =
    elim notes [
      | inl passes ↦ passed_as (Draw look b) b Next look old new (λ nodes k is. is) known fits passes
      | inr adds ↦
          let fresh = adds.2.fresh in
          added_as (Draw look b) b Next look adds.0 old new (λ nodes k is. is) tt (λ s n is. adds.1 (byte_at s n) (byte-small s n is)) known exact
          (omega (arith, within, fresh)) fits adds.2.noted
    ]
step_as (Found test look b) old new known within exact fits notes =
    elim notes.2 [
      | inl passes ↦ passed_as (Found test look b) b (First test) look old new (λ nodes k is. is) known fits passes
      | inr adds ↦
          let fresh = adds.2.fresh in
          let can : CanAsk (First test) = (b, notes.0, notes.1) in
          let has_it : (s : Stream) (n : ℕ) → IsStream s → has adds.0 (byte_or_zero s (place_asked (First test) s n)) ≡ 1 =
          λ s n is.
          elim adds.1 [
            | inl passing ↦
                let found = asked_passes (First test) test s n is refl can in
                let x = byte_at s found.0 in
                subst (λ (o : Option ℕ). has adds.0 (byte_or_zero s o) ≡ 1) (sym found.1) (passing x (byte-small s found.0 is) ∙ ap (λ (t : Bool). cond t 1 0) found.2)
            | inr settled ↦ absurd (settled_not old fresh exact.least settled.0)
          ]
          in
          added_as (Found test look b) b (First test) look adds.0 old new (λ nodes k is. is) can has_it known exact
          (omega (arith, within, fresh)) fits adds.2.noted
    ]
step_as (Missed test) old new known within exact fits marks = absurd (fits (ap (λ (n : Nodes). n.too_large) marks))

-- A way that is marked stays so.
large_passed : (b : ℕ) (asked : Asked) (look : Look) (old new : Nodes) → Passes b asked look old new → old.too_large ≡ true → new.too_large ≡ true
large_passed b asked look old new passes is =
    elim passes.past [
      | inl same ↦ ap (λ (n : Nodes). n.too_large) same.1 ∙ is
      | inr other ↦ ap (λ (n : Nodes). n.too_large) other
    ]

large_noted : (b : ℕ) (asked : Asked) (look : Look) (may : ByteSet) (old new : Nodes) → Notes b asked look may old new → old.too_large ≡ true → new.too_large ≡ true
large_noted b asked look may old new (inl adds) is = adds.fits ∙ is
large_noted b asked look may old new (inr (inl left)) is = ap (λ (n : Nodes). n.too_large) left.0 ∙ is
large_noted b asked look may old new (inr (inr marked)) is = marked.marked

large_entry : (e : Entry) (old new : Nodes) → NotesEntry e old new → old.too_large ≡ true → new.too_large ≡ true
large_entry (Draw look b) old new notes is =
    elim notes [
      | inl passes ↦ large_passed b Next look old new passes is
      | inr adds ↦ large_noted b Next look adds.0 old new adds.2.noted is
    ]
large_entry (Found test look b) old new notes is =
    elim notes.2 [
      | inl passes ↦ large_passed b (First test) look old new passes is
      | inr adds ↦ large_noted b (First test) look adds.0 old new adds.2.noted is
    ]
large_entry (Missed test) old new marks is = ap (λ (n : Nodes). n.too_large) marks

pub large_all : (es : List Entry) (old new : Nodes) → NotesAll es old new → old.too_large ≡ true → new.too_large ≡ true
large_all [] old new same is = ap (λ (n : Nodes). n.too_large) same ∙ is
large_all (e ∷ es) old new all is = large_all es all.0 new all.2 (large_entry e old all.0 all.1 is)

pub not_both : (b : Bool) → b ≡ true → b ≡ false → ⊥
not_both b is off = cc

-- A way that isn't marked has no search that found nothing.
pub none_missed : (es : List Entry) (old new : Nodes) → NotesAll es old new → new.too_large ≡ false → NoneMissed es
none_missed [] old new all fits = tt
none_missed (Draw look b ∷ es) old new all fits = none_missed es all.0 new all.2 fits
none_missed (Found test look b ∷ es) old new all fits = none_missed es all.0 new all.2 fits
none_missed (Missed test ∷ es) old new all fits =
    absurd (not_both new.too_large (large_all es all.0 new all.2 (ap (λ (n : Nodes). n.too_large) all.1)) fits)

-- What a log makes of the draws. A stream that goes by them agrees with the log.
pub record IsNoted (es : List Entry) (old new : Nodes) : Type 0 where
  pub known : AreKnown new
  pub longer : old.len ≤ new.len
  pub asked : (k : ℕ) → k < old.len → asked_at new k ≡ asked_at old k
  pub same : (k : ℕ) (past : Node) → k < old.len → at new k past ≡ at old k past
  pub to_come : (s : Stream) → IsStream s → IsToCome old s → IsToCome new s
  pub fits : (s : Stream) → IsStream s → (past : Node) → GoesBy new s → AllFit es s (place_before (asked_at new) s old.at)
  pub within : new.at ≤ new.len
  pub place : (s : Stream) → place_at es s (place_before (asked_at new) s old.at) ≡ place_before (asked_at new) s new.at

none_noted : (old new : Nodes) → new ≡ old → AreKnown old → old.at ≤ old.len → IsNoted [] old new
none_noted old new is known within =
    subst (λ (n : Nodes). IsNoted [] old n) (sym is) (record {
      within = within;
      place = λ s. refl;
      known = known;
      longer = omega arith;
      asked = λ k lt. refl;
      same = λ k past lt. refl;
      to_come = λ s is come. come;
      fits = λ s is past goes. tt;
    })

more_noted : (e : Entry) (es : List Entry) (old now new : Nodes) → Steps e old now → IsNoted es now new → IsNoted (e ∷ es) old new
more_noted e es old now new step rest =
    record {
      known = rest.known;
      longer = omega (arith, step.longer, rest.longer);
      asked = λ k lt. rest.asked k (omega (arith, lt, step.longer)) ∙ step.asked k lt;
      same = λ k past lt. rest.same k past (omega (arith, lt, step.longer)) ∙ step.same k past lt;
      to_come = λ s is come. rest.to_come s is (step.to_come s is come);
      fits = λ s is past goes. (
        entry_fits e new k s past is inside (rest.known k inside) entry goes,
        subst (λ (p : ℕ). AllFit es s p) (place s) (rest.fits s is past goes),
      );
      within = rest.within;
      place = λ s. ap (place_at es s) (sym (place s)) ∙ rest.place s;
    }
  where
    k : ℕ
    k = old.at

    within : k < now.len
    within = omega (arith, step.past, step.within)

    inside : k < new.len
    inside = omega (arith, within, rest.longer)

    entry : IsEntry e new k
    entry = entry_as e now new k (rest.asked k within) (λ past. rest.same k past within) step.entry

    next : now.at ≡ suc k
    next = step.past ∙ add-one k

    place : (s : Stream) → place_before (asked_at new) s now.at ≡ place_after e s (place_before (asked_at new) s k)
    place s = ap (place_before (asked_at new) s) next ∙ entry_place e new k s (place_before (asked_at new) s k) entry

pub all_noted : (es : List Entry) (old new : Nodes) → AreKnown old → old.at ≤ old.len → IsExact old.options → new.too_large ≡ false → NotesAll es old new
    → IsNoted es old new
all_noted [] old new known within exact fits same = none_noted old new same known within
all_noted (e ∷ es) old new known within exact fits all =
    let now = all.0 in
    let step = step_as e old now known within exact (λ is. not_both new.too_large (large_all es now new all.2 is) fits) all.1 in
    let options = entry_keeps e old now all.1 in
    more_noted e es old now new step
    (all_noted es now new step.known step.within (subst (λ (o : OutcomeOptions). IsExact o) (sym options) exact) fits all.2)

-- After a way of which nothing is left, none is; and what is left is to come on the next way.
pub none_left : (nodes : Nodes) (s : Stream) (past : Node) → IsStream s → AllDone nodes → WaitsAfter nodes s → ⊥
none_left nodes s past is done left =
    let b = byte_for (asked_at nodes) s left.place in
    let zero : has (at nodes left.place past).rest b ≡ 0 = done left.place past left.within b (bytes_small (asked_at nodes) s is left.place) in
    let one : has (at nodes left.place past).rest b ≡ 1 = left.here past in
    omega (arith, zero, one)

pub next_to_come : (old new : Nodes) (s : Stream) → IsStream s → LeadsOn old new
    → ((bytes : ℕ → ℕ) → AreBytes bytes → AreLeft old bytes → AreToCome new bytes) → WaitsAfter old s → IsToCome new s
next_to_come old new s is leads to_come left =
    subst (λ (l : List Asked). AreToCome new (byte_for (λ k. get_or l k Unknown) s)) (sym leads.asked) (to_come (byte_for (asked_at old) s) (bytes_small (asked_at old) s is) left)

-- The draws of the next way are known.
pub next_known : (old new : Nodes) → LeadsOn old new → AreKnown old → AreKnown new
next_known old new leads known k lt =
    let inside : k < old.len = omega (arith, lt, leads.within, leads.length) in
    record {
      asks = subst (λ (l : List Asked). CanAsk (get_or l k Unknown)) (sym leads.asked) (known k inside).asks;
      classes = λ past.
          elim (three k leads.place) [
            | inl less ↦ ap (λ (n : Node). n.damage_classes) (leads.before k past less) ∙ (known k inside).classes past
            | inr (inl is) ↦
                subst (λ (j : ℕ). (at new j past).damage_classes ≡ 0) (sym is)
                ((leads.here past).takes.classes ∙ (known leads.place (subst (λ (j : ℕ). j < old.len) is inside)).classes past)
            | inr (inr more) ↦ absurd (omega (arith, lt, more, leads.length))
          ];
    }

-- Before a way: of each stream either it is to come, or something else holds.
pub record IsGoing (Of : State → Type 0) (Else : State → Stream → Type 0) (nodes : Nodes) : Type 0 where
  pub at : nodes.at ≡ 0
  pub known : AreKnown nodes
  pub streams : (s : State) → Of s → (stream : Stream) → IsStream stream → IsToCome nodes stream ⊎ Else s stream

-- After it.
pub record IsPast (Of : State → Type 0) (Else : State → Stream → Type 0) (nodes : Nodes) : Type 0 where
  pub known : AreKnown nodes
  pub streams : (s : State) → Of s → (stream : Stream) → IsStream stream → WaitsAfter nodes stream ⊎ Else s stream

-- Before the first way.
pub going_first : (Of : State → Type 0) (Else : State → Stream → Type 0) (nodes : Nodes) → nodes.at ≡ 0 → nodes.len ≡ 0 → IsGoing Of Else nodes
going_first Of Else nodes at empty =
    record {
      at = at;
      known = λ k lt. absurd (omega (arith, lt, empty));
      streams = λ s of stream is. inl (inl (λ k past lt. absurd (omega (arith, lt, empty))));
    }

-- A way is played.
pub past_way : (Of : State → Type 0) (Else : State → Stream → Type 0) (script : Script) (nodes after : Nodes) (way : IsLogged script nodes after)
    → IsExact nodes.options → after.too_large ≡ false → IsGoing Of Else nodes → IsPast Of (λ s stream. Agrees way.log stream ⊎ Else s stream) after
past_way Of Else script nodes after way exact fits going =
    let noted =
    all_noted way.log nodes after going.known (omega (arith, going.at)) exact fits way.noted
    in
    record {
      known = noted.known;
      streams = λ s of stream is.
          elim (going.streams s of stream is) [
            | inl come ↦
                elim (noted.to_come stream is come) [
                  | inl goes ↦
                      let fit : AllFit way.log stream 0 = subst (λ (k : ℕ). AllFit way.log stream (place_before (asked_at after) stream k)) going.at (noted.fits stream is some_node goes) in
                      inr (inl (record { is = is; fit = fit }))
                  | inr left ↦ inl left
                ]
            | inr other ↦ inr (inr other)
          ];
    }

-- What holds of the others leads to something else.
pub past_as : (Of : State → Type 0) (Else Now : State → Stream → Type 0) (nodes : Nodes) → ((s : State) → Of s → (stream : Stream) → IsStream stream → Else s stream → Now s stream)
    → IsPast Of Else nodes → IsPast Of Now nodes
past_as Of Else Now nodes now past =
    record {
      known = past.known;
      streams = λ s of stream is.
          elim (past.streams s of stream is) [
            | inl left ↦ inl left
            | inr other ↦ inr (now s of stream is other)
          ];
    }

-- The next way, or none.
pub going_on : (Of : State → Type 0) (Else : State → Stream → Type 0) (old new : Nodes) → LeadsOn old new
    → ((bytes : ℕ → ℕ) → AreBytes bytes → AreLeft old bytes → AreToCome new bytes) → IsPast Of Else old → IsGoing Of Else new
going_on Of Else old new leads to_come past =
    record {
      at = leads.at;
      known = next_known old new leads past.known;
      streams = λ s of stream is.
          elim (past.streams s of stream is) [
            | inl left ↦ inl (next_to_come old new stream is leads to_come left)
            | inr other ↦ inr other
          ];
    }

pub gone : (Of : State → Type 0) (Else : State → Stream → Type 0) (nodes : Nodes) → AllDone nodes → IsPast Of Else nodes
    → (s : State) → Of s → (stream : Stream) → IsStream stream → Else s stream
gone Of Else nodes done past s of stream is =
    elim (past.streams s of stream is) [
      | inl left ↦ absurd (none_left nodes stream some_node is done left)
      | inr other ↦ other
    ]

-- Lists that become longer.

pub extends_none : (count : ℕ) (xs : List Successor) → Extends count xs count xs
extends_none count xs = record { more = omega arith; first = λ k past lt. refl }

pub extends_then : (first before count : ℕ) (xs ys zs : List Successor) → Extends first xs before ys → Extends before ys count zs → Extends first xs count zs
extends_then first before count xs ys zs one then =
    record {
      more = omega (arith, one.more, then.more);
      first = λ k past lt. then.first k past (omega (arith, lt, one.more)) ∙ one.first k past lt;
    }

pub extends_those : (before count : ℕ) (xs ys : List Successor) → count ≡ before → AreThose xs ys → Extends before xs count ys
extends_those before count xs ys same those = record { more = omega (arith, same); first = λ k past lt. those k past }

pub lists_as : (Is : Parts → Type 0) (before count : ℕ) (xs ys : List Successor) → Extends before xs count ys → Lists Is before xs → Lists Is count ys
lists_as Is before count xs ys extends is =
    record {
      place = is.place;
      within = omega (arith, is.within, extends.more);
      battle = is.battle;
      is = is.is;
      bytes = λ past. ap joined (extends.first is.place past is.within) ∙ is.bytes past;
    }

-- A battle is added.
pub extends_more : (parts : Parts) (c : Chance) (old mid new : Tally) (xs ys : List Successor) → Adds parts c old mid xs ys → KeepsFirst old.count xs ys → new.count ≡ mid.count
    → Extends old.count xs new.count ys
extends_more parts c old mid new xs ys (inl gets) keeps same =
    record {
      more = elim gets.there [
        | inl there ↦ omega (arith, there.1, same)
        | inr next ↦ omega (arith, next.1, same)
      ];
      first = keeps;
    }
extends_more parts c old mid new xs ys (inr left) keeps same = record { more = omega (arith, left.count, same); first = keeps }

pub lists_added : (Is : Parts → Type 0) (parts : Parts) (c : Chance) (old mid new : Tally) (xs ys : List Successor) → old.least ≡ 0 → Adds parts c old mid xs ys → new.count ≡ mid.count
    → Is parts → Lists Is new.count ys
lists_added Is parts c old mid new xs ys least (inl gets) same is =
    record { place = gets.place; within = omega (arith, gets.within, same); battle = parts; is = is; bytes = gets.bytes }
lists_added Is parts c old mid new xs ys least (inr left) same is =
    let below = left.below in
    absurd (omega (arith, below, ap (λ (n : ℕ). n * c.whole) least))

-- Of each stream from a position, it is to come or a battle is listed.
abbrev pub IsGoingFrom : Walk → Middle → Nodes → ℕ → List Successor → Type 0
IsGoingFrom w middle nodes count xs = IsGoing (Offers w) (λ s stream. Lists (FollowsFrom s w.one w.two middle.bytes middle.rest stream) count xs) nodes

abbrev pub IsPastFrom : Walk → Middle → Nodes → ℕ → List Successor → Type 0
IsPastFrom w middle nodes count xs = IsPast (Offers w) (λ s stream. Lists (FollowsFrom s w.one w.two middle.bytes middle.rest stream) count xs) nodes

-- From the beginning of an update these are battles for every stream.
pub every_from : (w : Walk) (middle : Middle) (s : State) (count : ℕ) (xs : List Successor) → middle.rest ≡ None → ListsFrom w middle s count xs → ListsEvery s w.one w.two count xs
every_from w middle s count xs none lists =
    subst (λ (rest : Option Left). (stream : Stream) → IsStream stream → Lists (FollowsFrom s w.one w.two middle.bytes rest stream) count xs) none lists

-- Another position with the same bytes and rest.
arrives_as : (s : State) (one two : Choice) (stream : Stream) (old new : Middle) → new.bytes ≡ old.bytes → new.rest ≡ old.rest
    → Arrives s one two stream old → Arrives s one two stream new
arrives_as s one two stream old new bytes rest a =
    record {
      rest = a.rest;
      kept = rest ∙ a.kept;
      here = a.here;
      at = subst (λ (x : List ℕ). IsAt s x a.rest a.here) (sym bytes) a.at;
      on = a.on;
      rests = a.rests;
    }

-- A position is added: the turn arrives there, or where it arrived before.
pub arrives_added : (w : Walk) (s : State) (stream : Stream) (middle : Middle) (old new : Middles) → IsAdded middle old new → Arrives s w.one w.two stream middle
    → ArrivesAt w s stream new
arrives_added w s stream middle old new (inl joins) a =
    record {
      place = joins.place;
      within = omega (arith, joins.within, joins.length);
      arrives = λ past.
          let gets = joins.here past in
          let alike = joins.alike past in
          arrives_as s w.one w.two stream middle (get_or new.list joins.place past) (gets.bytes ∙ alike.bytes) (gets.rest ∙ alike.rest) a;
    }
arrives_added w s stream middle old new (inr put) a =
    record {
      place = old.len;
      within = omega (arith, put.length);
      arrives = λ past. subst (λ (m : Middle). Arrives s w.one w.two stream m) (sym (put.here past)) a;
    }

pub arrives_still : (w : Walk) (s : State) (stream : Stream) (middle : Middle) (old new : Middles) → IsAdded middle old new → ArrivesAt w s stream old → ArrivesAt w s stream new
arrives_still w s stream middle old new (inl joins) at =
    record {
      place = at.place;
      within = omega (arith, at.within, joins.length);
      arrives = λ past.
          elim (same_or at.place joins.place) [
            | inl same ↦
                let gets = joins.here past in
                let a = subst (λ (k : ℕ). Arrives s w.one w.two stream (get_or old.list k past)) same (at.arrives past) in
                subst (λ (k : ℕ). Arrives s w.one w.two stream (get_or new.list k past)) (sym same)
                (arrives_as s w.one w.two stream (get_or old.list joins.place past) (get_or new.list joins.place past) gets.bytes gets.rest a)
            | inr other ↦ subst (λ (m : Middle). Arrives s w.one w.two stream m) (sym (joins.others at.place past other)) (at.arrives past)
          ];
    }
arrives_still w s stream middle old new (inr put) at =
    record {
      place = at.place;
      within = omega (arith, at.within, put.length);
      arrives = λ past. subst (λ (m : Middle). Arrives s w.one w.two stream m) (sym (put.before at.place past at.within)) (at.arrives past);
    }

-- It has one for every stream from each of the first positions.
abbrev pub ListsFromEach : Walk → ℕ → List Middle → ℕ → List Successor → Type 0
ListsFromEach w first middles count xs =
    (k : ℕ) → (past : Middle) → k < first → (s : State) → Offers w s → ListsFrom w (get_or middles k past) s count xs

-- So where battles for every stream are listed from a position, one is for a stream on which the turn arrives there.
pub some_middle : Middle
some_middle =
    record {
      bytes = [];
      rest = None;
      hash = 0;
      draws = 0;
      chance = record { num = 1; whole = 1; positive = omega arith };
      ways = 1;
      few = omega arith;
      some = omega arith;
    }

pub listed_from : (w : Walk) (s : State) (stream : Stream) (middles : Middles) (count : ℕ) (xs : List Successor) → OffersTwo w s → IsStream stream
    → ListsFromEach w middles.len middles.list count xs → ArrivesAt w s stream middles → IsListed s w.one w.two stream count xs
listed_from w s stream middles count xs of is each at =
    let past = some_middle in
    let middle = get_or middles.list at.place past in
    let a = at.arrives past in
    let l = each at.place past at.within s of.offers (dropped a.here.drawn stream) (dropped-is a.here.drawn stream is) in
    record {
      place = l.place;
      within = l.within;
      battle = l.battle;
      is = follows_arrived w s stream middle l.battle of a l.is;
      bytes = l.bytes;
    }

-- After all kept positions were played on from, each stream that is handled has a battle in the list.
pub listed_all : (w : Walk) (middles : Middles) (before count : ℕ) (xs ys : List Successor) → ListsFromEach w middles.len middles.list count ys → Extends before xs count ys
    → ListsHandled w middles before xs count ys
listed_all w middles before count xs ys each extends s of stream is (inl at) = listed_from w s stream middles count ys of is each at
listed_all w middles before count xs ys each extends s of stream is (inr listed) = lists_as _ before count xs ys extends listed

-- Of each stream in the first part, it is to come, or it is handled.
abbrev pub IsGoingIn : Walk → Nodes → Middles → ℕ → List Successor → Type 0
IsGoingIn w nodes middles count xs = IsGoing (OffersTwo w) (λ s stream. IsHandled w s stream middles count xs) nodes

abbrev pub IsPastIn : Walk → Nodes → Middles → ℕ → List Successor → Type 0
IsPastIn w nodes middles count xs = IsPast (OffersTwo w) (λ s stream. IsHandled w s stream middles count xs) nodes

-- A way to a position is played, and the position is added, after room was made for it.
pub past_kept : (w : Walk) (nodes after : Nodes) (middle : Middle) (old room new : Middles) (first before count : ℕ) (xs ys zs : List Successor)
    → IsExact w.options → nodes.options ≡ w.options → after.too_large ≡ false → Reaches w nodes after middle → LosesNone w old first xs room before ys
    → IsAdded middle room new → Extends before ys count zs → IsGoingIn w nodes old first xs → IsPastIn w after new count zs
past_kept w nodes after middle old room new first before count xs ys zs exact options fits reaches loses added extends going =
    past_as (OffersTwo w) (λ s stream. Agrees reaches.way.log stream ⊎ IsHandled w s stream old first xs) (λ s stream. IsHandled w s stream new count zs) after
    (λ s of stream is other.
    elim other [
      | inl agrees ↦ inl (arrives_added w s stream middle room new added (arrives_by w nodes after middle reaches s of stream agrees))
      | inr handled ↦ elim (loses s of stream is handled) [
        | inl at ↦ inl (arrives_still w s stream middle room new added at)
        | inr listed ↦ inr (lists_as _ before count ys zs extends listed)
      ]
    ])
    (past_way (OffersTwo w) (λ s stream. IsHandled w s stream old first xs) (script_of reaches.path) nodes after reaches.way
    (subst (λ (o : OutcomeOptions). IsExact o) (sym options) exact) fits going)

-- From each of the first positions, and then from one more.
pub each_none : (w : Walk) (middles : List Middle) (count : ℕ) (xs : List Successor) → ListsFromEach w 0 middles count xs
each_none w middles count xs k past lt = absurd (omega (arith, lt))

pub each_more : (w : Walk) (middles : List Middle) (first before count : ℕ) (d : Middle) (xs ys : List Successor) → first < length middles → ListsFromEach w first middles before xs
    → Extends before xs count ys → ((s : State) → Offers w s → ListsFrom w (get_or middles first d) s count ys) → ListsFromEach w (first + 1) middles count ys
each_more w middles first before count d xs ys within each extends one k past lt s of =
    elim (same_or k first) [
      | inl same ↦
          let here : get_or middles first d ≡ get_or middles k past = get_or_default middles first d past within ∙ ap (λ (j : ℕ). get_or middles j past) (sym same) in
          subst (λ (m : Middle). ListsFrom w m s count ys) here (one s of)
      | inr other ↦ λ stream is. lists_as _ before count xs ys extends (each k past (omega (arith, lt, other)) s of stream is)
    ]

-- A result that has so many outcomes.
pub finished_every : (s : State) (one two : Choice) (count : ℕ) (xs : List Successor) (r : Result Outcomes OutcomesFault)
    → ListsEvery s one two count xs → IfOk r (λ o. o.count ≡ count) → IfOk r (λ o. ListsEvery s one two o.count xs)
finished_every s one two count xs (Ok o) every e = subst (λ (n : ℕ). ListsEvery s one two n xs) (sym e) every
finished_every s one two count xs (Err fault) every e = tt

-- What a walk lists it lists of the pair that it was made of.
pub of_walk : (Of : Choice → Choice → Outcomes → Type 0) (s : State) (one two : Choice) (options : OutcomeOptions) (battle : Parts) (w : Walk) → IsBegun battle one two options w
    → Stands battle s → AreOffered s one two → IsExact options → (r : Result Outcomes OutcomesFault) → (Offers w s → IsExact w.options → IfOk r (λ o. Of w.one w.two o))
    → IfOk r (λ o. Of one two o)
of_walk Of s one two options battle w is stands offered exact r all =
    subst (λ (a : Choice). AreOffered s a two → IfOk r (λ o. Of a two o)) is.one
    (subst (λ (b : Choice). AreOffered s w.one b → IfOk r (λ o. Of w.one b o)) is.two
    (λ o.
    all (record { stands = subst (λ (p : Parts). Stands p s) (sym is.start) stands; offered = o }) (subst (λ (m : OutcomeOptions). IsExact m) (sym is.options) exact))) offered

pub on_ok_of : (r : Result (Unit {0}) OutcomesFault) (P : Type 0) → P → OnOk r P
on_ok_of (Ok done) P p = p
on_ok_of (Err why) P p = tt

pub on_ok_map : (r : Result (Unit {0}) OutcomesFault) (P Q : Type 0) → (P → Q) → OnOk r P → OnOk r Q
on_ok_map (Ok done) P Q f p = f p
on_ok_map (Err why) P Q f p = tt
