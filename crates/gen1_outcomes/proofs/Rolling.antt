-- Code that draws the hit test of an action before the roll of its damage: which order of its draws leads to the same by the machine.
use Rattle.std.proofs.Common.{◌≡◌, List, ℕ, ◌+◌, ◌++◌, Bool, Option, Some, None, ap, arith, refl, sym, ◌∙◌, subst, ◌⊎◌, inl, inr, ◌-◌, ◌<◌, ◌≤◌, [], false, true, ◌∷◌, append-nil, append_assoc}
use Rattle.std.proofs.lemmas.Bool.{false≢true}
use Rattle.gen1_rolls.specs.Streams.{Drawn, IsFirst, IsStream, Stream, byte_at, first, span}
use Rattle.gen1_rolls.proofs.First.{first-finds, first_within-is, first-exists, byte-small, every_byte}
use Rattle.gen1_machine.specs.Laws.{Done, Draw, Search, Tree, drawing_from, leads_to}
use Rattle.gen1_machine.specs.Progress.{Phase, Progress, has_missed, on_field, set_last_damage, stay}
use Rattle.gen1_machine.proofs.Trees.{HasTree, searched, phase-onward}
use Rattle.gen1_outcomes.specs.declared.log.Entry.{Entry}
use Rattle.gen1_outcomes.specs.Logs.{Agrees, place_at, Came, IsLogged, explored, place_past}
use Rattle.gen1_outcomes.proofs.Shifts.{NoneMissed, joined-low, joined_bytes, joined_wide, place_both, agrees_first, agrees_then, dropped, none_both, on_whole, phase-dropped, ready_on, rest_after, none_each}
use Rattle.std.specs.Borrow.{GName}
use Rattle.gen1_rolls.specs.declared.rolls.ByteTest.TheVariants.{RotatedAtLeast}
use Rattle.gen1_rolls.specs.declared.rolls.Look.TheVariants.{Remainder}
use Rattle.gen1_rolls.specs.Draws.{Source, StepsTo}
use Rattle.gen1_rolls.specs.Steady.{stream_of}
use Rattle.gen1_layout.proofs.Chain.{choose-false, choose-true}
use Rattle.gen1_layout.specs.Parts.{Parts, parts_of}
use Rattle.gen1_layout.specs.Words.{Side, move_at}
use Rattle.gen1_layout.specs.Shows.{Stands, Within, setting_of}
use Rattle.gen1_machine.specs.Damage.{is_factor, vary}
use Rattle.gen1_machine.specs.HitTest.{hit_or_miss}
use Rattle.gen1_machine.specs.Ruling.{ruling_of}
use Rattle.gen1_machine.specs.State.{Field, State, Terms}
use Rattle.gen1_machine.proofs.TreeWalk.{hit_or_miss-tree, ruling-tree}
use Rattle.gen1_turn.specs.declared.action.two_parts.Roll.{Roll}
use Rattle.gen1_turn.specs.TwoParts.{IsRolling}
use Rattle.gen1_engine.specs.Update.{AreOffered}
use Rattle.gen1_outcomes.specs.declared.beginning.Left.{Left}
use Rattle.gen1_outcomes.specs.declared.beginning.Rest.{Rest}
use Rattle.gen1_outcomes.specs.declared.explorer.Explorer.{Explorer}
use Rattle.gen1_outcomes.specs.declared.log.Entry.TheVariants.{Found}
use Rattle.gen1_outcomes.specs.declared.middles.Middle.{Middle}
use Rattle.gen1_outcomes.specs.declared.nodes.Nodes.{Nodes}
use Rattle.gen1_outcomes.specs.Beginning.{from_damage}
use Rattle.gen1_outcomes.specs.Listing.{IsShownAt, PlaysRoll, after_test, roll_if_hit, tested_first, untold}
use Rattle.gen1_outcomes.specs.Plain.{AreOf, Leads, Walk}
use Rattle.gen1_outcomes.specs.Middles.{EndsAt, IsAt, IsPlayedIn, LeadsFrom, PlaysFrom, PlaysOn}
use Rattle.gen1_outcomes.specs.Nodes.{IsPathOf, script_of, scripted}
use Rattle.gen1_outcomes.proofs.Complete.{none_missed}
use Rattle.gen1_outcomes.proofs.Exchange.{after_test-tree, damaged_if_hit, large-damage, rolled_before, rolls, varied}
use Rattle.gen1_outcomes.specs.declared.beginning.Left.TheVariants as lefts

-- A tree of which no search fails leads to the same from any place of each stream with the same bytes. And a stream that agrees with one log and
-- then with another, byte by byte.

-- A tree leads on in the stream.
onward : (t : Tree) (s : Stream) (n : ℕ) → n ≤ (leads_to t s n).drawn
unfolding leads_to
onward (Done left) s n = omega arith
onward (Draw next) s n = omega (arith, onward (next (byte_at s n)) s (n + 1))
onward (Search test found none) s n =
    by (first s n test) refl (λ m. onward (found (byte_at s m)) s (m + 1)) (onward none s (n + span s))
  where
    by : (o : Option ℕ) → first s n test ≡ o → ((m : ℕ) → m + 1 ≤ (leads_to (found (byte_at s m)) s (m + 1)).drawn)
        → n + span s ≤ (leads_to none s (n + span s)).drawn
        → n ≤ (searched o (λ m. leads_to (found (byte_at s m)) s (m + 1)) (leads_to none s (n + span s))).drawn
    by (Some m) e h k = omega (arith, (first-finds s n test m e).from, h m)
    by None e h k = omega (arith, k)

-- The bytes of one stream from n to an end are those of another from m on.
abbrev pub AreMoved : Stream → ℕ → ℕ → Stream → ℕ → Type 0
AreMoved s n end w m = (k : ℕ) → n + k < end → byte_at w (m + k) ≡ byte_at s (n + k)

less : (a b : ℕ) → (a < b) ⊎ (b ≤ a)
less a b = grind arith

-- What a search found at j is found there too.
pub found-moved : (s w : Stream) (n m j end : ℕ) (test : ℕ → Bool) → IsStream w → IsFirst s n test j → AreMoved s n end w m → j < end
    → first w m test ≡ Some (m + (j - n))
unfolding first
found-moved s w n m j end test ok is moved lt =
    let there : n + (j - n) ≡ j = omega (arith, is.from) in
    let same : byte_at w (m + (j - n)) ≡ byte_at s j = moved (j - n) (omega (arith, there, lt)) ∙ ap (byte_at s) there in
    let small : byte_at s j < 256 = subst (λ (b : ℕ). b < 256) same (byte-small w (m + (j - n)) ok) in
    let at = every_byte w ok m (byte_at s j) small in
    let near : j - n ≤ at.0 = elim (less at.0 (j - n)) [
      | inl before ↦
          absurd (false≢true (sym (is.none_before (n + at.0) (omega arith) (omega (arith, before, there)))
          ∙ ap test (sym (moved at.0 (omega (arith, before, there, lt)))) ∙ ap test at.1.1 ∙ is.meets))
      | inr after ↦ after
    ] in
    first_within-is (span w) w m test (j - n) (omega (arith, near, at.1.0)) (ap test same ∙ is.meets)
    (λ i below. ap test (moved i (omega (arith, below, there, lt))) ∙ is.none_before (n + i) (omega arith) (omega (arith, below, there)))

pub tree-moved : (t : Tree) (s w : Stream) (n m : ℕ) → IsStream w → (leads_to t s n).drawn < n + span s → AreMoved s n (leads_to t s n).drawn w m
    → leads_to t w m ≡ drawing_from w (m + ((leads_to t s n).drawn - n)) (leads_to t s n)
unfolding leads_to
tree-moved (Done left) s w n m ok near moved = let same : m ≡ m + (n - n) = omega arith in ap (λ (k : ℕ). drawing_from w k left) same
tree-moved (Draw next) s w n m ok near moved =
    let t = next (byte_at s n) in
    let end = (leads_to t s (n + 1)).drawn in
    let on : n + 1 ≤ end = onward t s (n + 1) in
    let from_n : n + 0 ≡ n = omega arith in
    let from_m : m ≡ m + 0 = omega arith in
    let here : byte_at w m ≡ byte_at s n = ap (byte_at w) from_m ∙ moved 0 (omega (arith, on)) ∙ ap (byte_at s) from_n in
    let past : m + 1 + (end - (n + 1)) ≡ m + (end - n) = omega (arith, on) in
    ap (λ (b : ℕ). leads_to (next b) w (m + 1)) here
    ∙ tree-moved (next (byte_at s n)) s w (n + 1) (m + 1) ok (omega (arith, near)) (λ k lt.
    let one : m + 1 + k ≡ m + (1 + k) = omega arith in
    let other : n + (1 + k) ≡ n + 1 + k = omega arith in
    ap (byte_at w) one ∙ moved (1 + k) (omega (arith, lt)) ∙ ap (byte_at s) other)
    ∙ ap (λ (k : ℕ). drawing_from w k (leads_to t s (n + 1))) past
tree-moved (Search test found none) s w n m ok near moved =
    by (first s n test) refl near moved (λ j i. tree-moved (found (byte_at s j)) s w (j + 1) i ok)
  where
    by : (o : Option ℕ) → first s n test ≡ o
        → (searched o (λ j. leads_to (found (byte_at s j)) s (j + 1)) (leads_to none s (n + span s))).drawn < n + span s
        → AreMoved s n (searched o (λ j. leads_to (found (byte_at s j)) s (j + 1)) (leads_to none s (n + span s))).drawn w m
        → ((j i : ℕ) → (leads_to (found (byte_at s j)) s (j + 1)).drawn < j + 1 + span s
        → AreMoved s (j + 1) (leads_to (found (byte_at s j)) s (j + 1)).drawn w i
        → leads_to (found (byte_at s j)) w i
        ≡ drawing_from w (i + ((leads_to (found (byte_at s j)) s (j + 1)).drawn - (j + 1))) (leads_to (found (byte_at s j)) s (j + 1)))
        → searched (first w m test) (λ j. leads_to (found (byte_at w j)) w (j + 1)) (leads_to none w (m + span w))
        ≡ drawing_from w (m + ((searched o (λ j. leads_to (found (byte_at s j)) s (j + 1)) (leads_to none s (n + span s))).drawn - n))
        (searched o (λ j. leads_to (found (byte_at s j)) s (j + 1)) (leads_to none s (n + span s)))
    by (Some j) e near moved one =
        let is = first-finds s n test j e in
        let t = found (byte_at s j) in
        let end = (leads_to t s (j + 1)).drawn in
        let on : j + 1 ≤ end = onward t s (j + 1) in
        let from : n ≤ j = is.from in
        let there : n + (j - n) ≡ j = omega (arith, from) in
        let same : byte_at w (m + (j - n)) ≡ byte_at s j = moved (j - n) (omega (arith, there, on)) ∙ ap (byte_at s) there in
        let past : m + (j - n) + 1 + (end - (j + 1)) ≡ m + (end - n) = omega (arith, on, from) in
        ap (λ (o : Option ℕ). searched o (λ i. leads_to (found (byte_at w i)) w (i + 1)) (leads_to none w (m + span w)))
        (found-moved s w n m j end test ok is moved (omega (arith, on)))
        ∙ ap (λ (b : ℕ). leads_to (found b) w (m + (j - n) + 1)) same
        ∙ one j (m + (j - n) + 1) (omega (arith, near, from)) (λ k lt.
        let there : m + (j - n) + 1 + k ≡ m + (j - n + 1 + k) = omega arith in
        let here : n + (j - n + 1 + k) ≡ j + 1 + k = omega (arith, from) in
        ap (byte_at w) there ∙ moved (j - n + 1 + k) (omega (arith, lt, here)) ∙ ap (byte_at s) here)
        ∙ ap (λ (k : ℕ). drawing_from w k (leads_to t s (j + 1))) past
    by None e near moved one = absurd (omega (arith, near, onward none s (n + span s)))

-- So does a phase with a tree.
pub phase-moved : {f : Phase} → HasTree f → (p : Progress) (s w : Stream) (n m : ℕ) → IsStream w → (f (drawing_from s n p)).drawn < n + span s
    → AreMoved s n (f (drawing_from s n p)).drawn w m → f (drawing_from w m p) ≡ drawing_from w (m + ((f (drawing_from s n p)).drawn - n)) (f (drawing_from s n p))
phase-moved {f} h p s w n m ok near moved =
    let is = h.leads p s n in
    h.leads p w m
    ∙ tree-moved (h.tree p) s w n m ok (subst (λ (q : Progress). q.drawn < n + span s) is near) (subst (λ (q : Progress). AreMoved s n q.drawn w m) is moved)
    ∙ ap (λ (q : Progress). drawing_from w (m + (q.drawn - n)) q) (sym is)

-- A tree stays on its stream, and so does a phase with one.
tree-stays : (t : Tree) (s : Stream) (n : ℕ) → leads_to t s n ≡ drawing_from s (leads_to t s n).drawn (leads_to t s n)
unfolding leads_to
tree-stays (Done left) s n = refl
tree-stays (Draw next) s n = tree-stays (next (byte_at s n)) s (n + 1)
tree-stays (Search test found none) s n = by (first s n test) (λ j. tree-stays (found (byte_at s j)) s (j + 1)) (tree-stays none s (n + span s))
  where
    by : (o : Option ℕ)
        → ((j : ℕ) → leads_to (found (byte_at s j)) s (j + 1)
        ≡ drawing_from s (leads_to (found (byte_at s j)) s (j + 1)).drawn (leads_to (found (byte_at s j)) s (j + 1)))
        → leads_to none s (n + span s) ≡ drawing_from s (leads_to none s (n + span s)).drawn (leads_to none s (n + span s))
        → searched o (λ j. leads_to (found (byte_at s j)) s (j + 1)) (leads_to none s (n + span s))
        ≡ drawing_from s (searched o (λ j. leads_to (found (byte_at s j)) s (j + 1)) (leads_to none s (n + span s))).drawn
        (searched o (λ j. leads_to (found (byte_at s j)) s (j + 1)) (leads_to none s (n + span s)))
    by (Some j) one rest = one j
    by None one rest = rest

pub phase-stays : {f : Phase} → HasTree f → (p : Progress) (s : Stream) (n : ℕ) → f (drawing_from s n p) ≡ drawing_from s (f (drawing_from s n p)).drawn (f (drawing_from s n p))
phase-stays {f} h p s n = subst (λ (q : Progress). q ≡ drawing_from s q.drawn q) (sym (h.leads p s n)) (tree-stays (h.tree p) s n)

-- The first bytes of one stream, and then those of another, with a wider span.
abbrev pub wide_stream : ℕ → Stream → Stream → ℕ → Stream
wide_stream n s w extra = Drawn (joined_bytes n s w) (span s + span w + extra)

pub record Joined (xs ys : List Entry) (s w v : Stream) : Type 0 where
  pub agrees : Agrees (xs ++ ys) v
  pub before : (k : ℕ) → k < place_at xs s 0 → byte_at v k ≡ byte_at s k
  pub past : (k : ℕ) → byte_at v (place_at xs s 0 + k) ≡ byte_at w k
  pub first : place_at xs v 0 ≡ place_at xs s 0
  pub second : place_at ys v (place_at xs s 0) ≡ place_at xs s 0 + place_at ys w 0

pub joins : (xs ys : List Entry) (s w : Stream) (extra : ℕ) → NoneMissed xs → NoneMissed ys → Agrees xs s → Agrees ys w
    → Joined xs ys s w (wide_stream (place_at xs s 0) s w extra)
unfolding byte_at
joins xs ys s w extra none never one later =
    let v = wide_stream (place_at xs s 0) s w extra in
    let x = joined_wide xs ys s w (span s + span w + extra) (omega arith) none never one later in
    record {
      agrees = x.agrees;
      before = λ k lt. joined-low (place_at xs s 0) s w k lt;
      past = x.later;
      first = x.first;
      second = ap (place_at ys v) (sym x.first) ∙ sym (place_both xs ys v 0) ∙ x.place;
    }

-- The machine alone

-- A damage that is rolled ends after the first factor.
rolled_end : (d : ℕ) (stream : Stream) (n m : ℕ) (p q : Progress) → q ≡ set_last_damage d (drawing_from stream (m + 1) p) → q.drawn ≡ m + 1
unfolding set_last_damage on_field
rolled_end d stream n m p q is = ap (λ (x : Progress). x.drawn) is

-- With another last damage it draws from the same place.
set-later : (d : ℕ) (stream : Stream) (n : ℕ) (p : Progress) → set_last_damage d (drawing_from stream n p) ≡ drawing_from stream n (set_last_damage d p)
unfolding set_last_damage on_field
set-later d stream n p = refl

-- The bytes of the test and of the roll are in the other order, up to an end.
pub record AreExchanged (u w : Stream) (t n end : ℕ) : Type 0 where
  pub test : AreMoved u 0 t w n
  pub roll : AreMoved w 0 n u t
  pub rest : AreMoved u (t + n) end w (n + t)

-- Where the test hits, both orders lead to the same field.
pub exchanged_hit : (s : Side) (roll : Roll) (terms : Terms) (p : Progress) → IsRolling s roll p → (u w : Stream) (t n : ℕ) → IsStream u → IsStream w
    → (hit_or_miss s (move_at roll.id) (drawing_from u 0 p)).drawn ≡ t → has_missed (hit_or_miss s (move_at roll.id) (drawing_from u 0 p)) ≡ false
    → (vary roll.damage (drawing_from w 0 p)).drawn ≡ n
    → (tested_first s roll (ruling_of terms) (drawing_from u 0 p)).drawn < span u
    → AreExchanged u w t n (tested_first s roll (ruling_of terms) (drawing_from u 0 p)).drawn
    → (from_damage s roll (ruling_of terms) (drawing_from w 0 p)).field ≡ (tested_first s roll (ruling_of terms) (drawing_from u 0 p)).field
exchanged_hit s roll terms p at u w t n is ok tested hits rolled far moved =
    let move = move_at roll.id in
    let r = ruling_of terms in
    let after = after_test-tree s move r (ruling-tree terms) in
    let q : Progress = hit_or_miss s move (drawing_from u 0 p) in
    let large = large-damage s roll p at in
    let found = first-exists w ok 0 is_factor 255 (omega arith) refl in
    let m = found.0 in
    let d = varied roll.damage (byte_at w m) in
    let past : m + 1 ≡ n = sym (rolled_end d w 0 m p _ (rolls roll.damage large p w 0 m found.1)) ∙ rolled in
    let on_u : q ≡ drawing_from u t q = phase-stays (hit_or_miss-tree s move) p u 0 ∙ ap (λ (k : ℕ). drawing_from u k q) tested in
    let found_u : first u t is_factor ≡ Some (t + (m - 0)) =
    found-moved w u 0 t m n is_factor is (first-finds w 0 is_factor m found.1) moved.roll (omega (arith, past))
    in
    let whole_m : 0 + (m - 0) ≡ m = omega arith in
    let same : byte_at u (t + (m - 0)) ≡ byte_at w m = moved.roll (m - 0) (omega (arith, past)) ∙ ap (byte_at w) whole_m in
    let there : t + (m - 0) + 1 ≡ t + n = omega (arith, past) in
    let y : Progress = set_last_damage d q in
    let first : roll_if_hit roll q ≡ drawing_from u (t + n) y =
    choose-false has_missed stay (vary roll.damage) q hits ∙ ap (vary roll.damage) on_u ∙ rolls roll.damage large q u t (t + (m - 0)) found_u
    ∙ ap (λ (b : ℕ). set_last_damage (varied roll.damage b) (drawing_from u (t + (m - 0) + 1) q)) same
    ∙ ap (λ (k : ℕ). set_last_damage d (drawing_from u k q)) there ∙ set-later d u (t + n) q
    in
    let whole : tested_first s roll r (drawing_from u 0 p) ≡ after_test s move r (drawing_from u (t + n) y) = ap (after_test s move r) first in
    let end = (after_test s move r (drawing_from u (t + n) y)).drawn in
    let least : t + n ≤ end = phase-onward after (drawing_from u (t + n) y) in
    let near : end < span u = subst (λ (x : Progress). x.drawn < span u) whole far in
    let rest : AreMoved u (t + n) end w (n + t) = subst (λ (x : Progress). AreMoved u (t + n) x.drawn w (n + t)) whole moved.rest in
    let test : hit_or_miss s move (drawing_from w n p) ≡ drawing_from w (n + (q.drawn - 0)) q =
    phase-moved (hit_or_miss-tree s move) p u w 0 n ok (omega (arith, tested, least, near)) (λ k lt. moved.test k (omega (arith, lt, tested)))
    in
    let both : n + (q.drawn - 0) ≡ n + t = omega (arith, tested) in
    let landed : damaged_if_hit d (hit_or_miss s move (drawing_from w (m + 1) p)) ≡ drawing_from w (n + t) y =
    ap (λ (k : ℕ). damaged_if_hit d (hit_or_miss s move (drawing_from w k p))) past ∙ ap (damaged_if_hit d) test
    ∙ choose-false has_missed stay (set_last_damage d) (drawing_from w (n + (q.drawn - 0)) q) hits
    ∙ ap (λ (k : ℕ). set_last_damage d (drawing_from w k q)) both ∙ set-later d w (n + t) q
    in
    let last = phase-moved after y u w (t + n) (n + t) ok (omega (arith, near)) rest in
    ap (λ (x : Progress). x.field) (rolled_before s roll r p at w 0 m found.1 ∙ ap (after_test s move r) landed ∙ last)
    ∙ ap (λ (x : Progress). x.field) (sym whole)

-- Where it misses, the roll is forgotten.
pub exchanged_miss : (s : Side) (roll : Roll) (terms : Terms) (p : Progress) → IsRolling s roll p → (w : Stream) (n : ℕ) → IsStream w
    → (vary roll.damage (drawing_from w 0 p)).drawn ≡ n
    → has_missed (hit_or_miss s (move_at roll.id) (drawing_from (dropped n w) 0 p)) ≡ true
    → (from_damage s roll (ruling_of terms) (drawing_from w 0 p)).field ≡ (tested_first s roll (ruling_of terms) (drawing_from (dropped n w) 0 p)).field
unfolding stay
exchanged_miss s roll terms p at w n ok rolled misses =
    let move = move_at roll.id in
    let r = ruling_of terms in
    let v = dropped n w in
    let after = after_test-tree s move r (ruling-tree terms) in
    let q : Progress = hit_or_miss s move (drawing_from v 0 p) in
    let large = large-damage s roll p at in
    let found = first-exists w ok 0 is_factor 255 (omega arith) refl in
    let m = found.0 in
    let d = varied roll.damage (byte_at w m) in
    let ends : m + 1 ≡ n = sym (rolled_end d w 0 m p _ (rolls roll.damage large p w 0 m found.1)) ∙ rolled in
    let past : m + 1 ≡ n + 0 = omega (arith, ends) in
    let test : hit_or_miss s move (drawing_from w (n + 0) p) ≡ on_whole w n q = phase-dropped (hit_or_miss-tree s move) p w n 0 in
    let missed : damaged_if_hit d (hit_or_miss s move (drawing_from w (m + 1) p)) ≡ on_whole w n q =
    ap (λ (k : ℕ). damaged_if_hit d (hit_or_miss s move (drawing_from w k p))) past ∙ ap (damaged_if_hit d) test
    ∙ choose-true has_missed stay (set_last_damage d) (on_whole w n q) misses
    in
    let stays : roll_if_hit roll q ≡ drawing_from v q.drawn q =
    choose-true has_missed stay (vary roll.damage) q misses ∙ phase-stays (hit_or_miss-tree s move) p v 0
    in
    ap (λ (x : Progress). x.field) (rolled_before s roll r p at w 0 m found.1 ∙ ap (after_test s move r) missed ∙ phase-dropped after q w n q.drawn)
    ∙ ap (λ (x : Progress). (after_test s move r x).field) (sym stays)

-- A way from a roll on

-- What was asked by the test, by the roll and by what follows, and what it leads to.
pub record RollWay (bytes : List ℕ) (side : Side) (roll : Roll) (log : List Entry) (parts : Parts) : Type 0 where
  pub tested : List Entry
  pub rolled : List Entry
  pub rest : List Entry
  pub asked : log ≡ tested ++ (rolled ++ rest)
  pub missed : Bool
  pub tests : (s : State) (stream : Stream) → Agrees tested stream → (p : Progress) → IsAt s bytes (lefts.Roll side roll) p → p.stream ≡ stream → p.drawn ≡ 0
      → let q = hit_or_miss side (move_at roll.id) p in (has_missed q ≡ missed) × (place_at tested stream 0 ≡ q.drawn)
  pub rolls : missed ≡ false → (s : State) (stream : Stream) → Agrees (tested ++ rolled) stream → (p : Progress) → IsAt s bytes (lefts.Roll side roll) p
      → p.stream ≡ stream → p.drawn ≡ 0 → place_at (tested ++ rolled) stream 0 ≡ (vary roll.damage (hit_or_miss side (move_at roll.id) p)).drawn
  pub played : (s : State) (stream : Stream) → Agrees log stream → (p : Progress) → IsAt s bytes (lefts.Roll side roll) p → p.stream ≡ stream → p.drawn ≡ 0
      → let q = tested_first side roll (ruling_of s.terms) p in Within (setting_of s) parts q.field × (place_at log stream 0 ≡ q.drawn)

-- An explorer that played it has asked that.
module _ {N : Type 0} (noting : N → Nodes) (name : N → GName) where
  more_by : (old new : Explorer N) → StepsTo (explored noting name) old new → Came noting name old new
  more_by old new steps =
      steps.comes old (record { more = []; log = sym (append-nil old.log.entries); notes = refl; same = refl; own = λ origin s draws. draws })

  pub roll_way : (old new : Explorer N) (before after : Parts) (side : Side) (roll : Roll) (bytes : List ℕ) → before ≡ parts_of bytes → old.log.entries ≡ []
      → PlaysRoll (explored noting name) old new before after side roll → RollWay bytes side roll new.log.entries after
  roll_way old new before after side roll bytes is empty h =
      let to_roll = more_by h.tested h.rolled h.goes_on in
      let to_end = more_by h.rolled new h.ends in
      let source : Stream → Source (Explorer N) = λ stream. record { origin = old; stream = stream } in
      let shown : (s : State) (stream : Stream) (p : Progress) → IsAt s bytes (lefts.Roll side roll) p → p.stream ≡ stream → p.drawn ≡ 0
      → IsShownAt (explored noting name) (source stream) (setting_of s) before old side roll p =
      λ s stream p at on begun. record {
        within = subst (λ (x : Parts). Within (setting_of s) x p.field) (sym is) at.within;
        rolling = at.ready;
        on = on;
        stands = ap (λ (l : List Entry). place_at l stream 0) empty ∙ sym begun;
      }
      in
      record {
        tested = h.tested.log.entries;
        rolled = to_roll.more;
        rest = to_end.more;
        asked = to_end.log ∙ ap (λ (l : List Entry). l ++ to_end.more) to_roll.log ∙ append_assoc h.tested.log.entries to_roll.more to_end.more;
        missed = h.missed;
        tests = λ s stream agrees p at on begun.
            h.tests (record { source = source stream; agrees = agrees }) (setting_of s) p (shown s stream p at on begun);
        rolls = λ hit s stream agrees p at on begun.
            subst (λ (l : List Entry). place_at l stream 0 ≡ (vary roll.damage (hit_or_miss side (move_at roll.id) p)).drawn) to_roll.log
            (h.rolls hit (record { source = source stream; agrees = subst (λ (l : List Entry). Agrees l stream) (sym to_roll.log) agrees }) (setting_of s) p
            (shown s stream p at on begun));
        played = λ s stream agrees p at on begun.
            h.played (record { source = source stream; agrees = agrees }) (setting_of s) p (shown s stream p at on begun);
      }

-- A battle that draws from the beginning of its stream.
from_start : (p : Progress) (stream : Stream) → p.stream ≡ stream → p.drawn ≡ 0 → p ≡ drawing_from stream 0 p
from_start p stream on begun = ap (λ (v : Stream). drawing_from v p.drawn p) on ∙ ap (λ (k : ℕ). drawing_from stream k p) begun

at_start : (s : State) (bytes : List ℕ) (side : Side) (roll : Roll) (p : Progress) (stream : Stream) → IsStream stream → IsAt s bytes (lefts.Roll side roll) p
    → IsAt s bytes (lefts.Roll side roll) (drawing_from stream 0 p)
at_start s bytes side roll p stream is at = record { within = at.within; ready = ready_on (lefts.Roll side roll) s.terms p stream 0 is at.ready }

-- The roll of a hit ends where what it asked ends, on each stream that agrees with this.
rolled_place : (bytes : List ℕ) (side : Side) (roll : Roll) (log : List Entry) (parts : Parts) (way : RollWay bytes side roll log parts) → way.missed ≡ false
    → NoneMissed way.tested → NoneMissed way.rolled → (own : Stream) → Agrees way.tested own → (s : State) (stream : Stream) → Agrees way.rolled stream
    → (p : Progress) → IsAt s bytes (lefts.Roll side roll) p → p.stream ≡ stream → p.drawn ≡ 0 → place_at way.rolled stream 0 ≡ (vary roll.damage p).drawn
rolled_place bytes side roll log parts way hit none nor own first_agrees s stream agrees p at on begun =
    let move = move_at roll.id in
    let t = place_at way.tested own 0 in
    let v = wide_stream t own stream 0 in
    let j = joins way.tested way.rolled own stream 0 none nor first_agrees agrees in
    let o : Progress = drawing_from v 0 p in
    let at_v = at_start s bytes side roll p v j.agrees.is at in
    let x = way.tests s v (agrees_first way.tested way.rolled v j.agrees) o at_v refl refl in
    let y = way.rolls hit s v j.agrees o at_v refl refl in
    let q : Progress = hit_or_miss side move o in
    let tested_at : q.drawn ≡ t = sym x.1 ∙ j.first in
    let on_v : q ≡ drawing_from v t q = phase-stays (hit_or_miss-tree side move) p v 0 ∙ ap (λ (k : ℕ). drawing_from v k q) tested_at in
    let large = large-damage side roll p at.ready in
    let found = first-exists stream agrees.is 0 is_factor 255 (omega arith) refl in
    let m = found.0 in
    let found_v : first v t is_factor ≡ Some (t + (m - 0)) =
    found-moved stream v 0 t m (m + 1) is_factor j.agrees.is (first-finds stream 0 is_factor m found.1)
    (λ k lt. let same : k ≡ 0 + k = omega arith in j.past k ∙ ap (byte_at stream) same) (omega arith)
    in
    let rolled_v : (vary roll.damage q).drawn ≡ t + (m - 0) + 1 =
    ap (λ (x : Progress). (vary roll.damage x).drawn) on_v ∙ rolled_end _ v t (t + (m - 0)) q _ (rolls roll.damage large q v t (t + (m - 0)) found_v)
    in
    let rolled : (vary roll.damage p).drawn ≡ m + 1 =
    ap (λ (x : Progress). (vary roll.damage x).drawn) (from_start p stream on begun) ∙ rolled_end _ stream 0 m p _ (rolls roll.damage large p stream 0 m found.1)
    in
    let place : place_at (way.tested ++ way.rolled) v 0 ≡ t + place_at way.rolled stream 0 =
    place_both way.tested way.rolled v 0 ∙ ap (place_at way.rolled v) j.first ∙ j.second
    in
    let both : t + place_at way.rolled stream 0 ≡ t + (m - 0) + 1 = sym place ∙ y ∙ rolled_v in
    omega (arith, both, rolled)

-- The parts of the rest of an update, by the field that it leads to.
of_fields : (s : State) (parts : Parts) (p q : Progress) → p.field ≡ q.field → Within (setting_of s) parts q.field → AreOf s parts untold p
of_fields s parts p q same within = record { within = subst (λ (f : Field). Within (setting_of s) parts f) (sym same) within; written = tt }

-- What a hit leads to by the machine, on each stream that agrees with what was asked, the roll first.
leads_hit : (bytes : List ℕ) (side : Side) (roll : Roll) (log : List Entry) (parts : Parts) (way : RollWay bytes side roll log parts) → way.missed ≡ false
    → NoneMissed log → (own : Stream) → Agrees log own → (s : State) → EndsAt s bytes (lefts.Roll side roll) (way.rolled ++ (way.tested ++ way.rest)) parts
unfolding byte_at
leads_hit bytes side roll log parts way hit none own owned s w agrees p at on begun =
    let T = way.tested in
    let R = way.rolled in
    let E = way.rest in
    let move = move_at roll.id in
    let all = none_each T (R ++ E) (subst NoneMissed way.asked none) in
    let later = none_each R E all.1 in
    let own_first = agrees_first T (R ++ E) own (subst (λ (l : List Entry). Agrees l own) way.asked owned) in
    let rolled_w = agrees_first R (T ++ E) w agrees in
    let n = place_at R w 0 in
    let w1 = rest_after R w in
    let past_roll = agrees_then R (T ++ E) w agrees in
    let t = place_at T w1 0 in
    let w2 = rest_after T w1 in
    let last = agrees_then T E w1 past_roll in
    let v = wide_stream n w w2 0 in
    let two = joins R E w w2 0 later.0 later.1 rolled_w last in
    let extra = t + (n + place_at E w2 0) + 1 in
    let u = wide_stream t w1 v extra in
    let one = joins T (R ++ E) w1 v extra all.0 (none_both R E later.0 later.1) (agrees_first T E w1 past_roll) two.agrees in
    let u_agrees : Agrees log u = subst (λ (l : List Entry). Agrees l u) (sym way.asked) one.agrees in
    let at_u = at_start s bytes side roll p u one.agrees.is at in
    let o : Progress = drawing_from u 0 p in
    let x = way.tests s u (agrees_first T (R ++ E) u one.agrees) o at_u refl refl in
    let z = way.played s u u_agrees o at_u refl refl in
    let end = (tested_first side roll (ruling_of s.terms) o).drawn in
    let ends : end ≡ t + (n + place_at E w2 0) =
    sym z.1 ∙ ap (λ (l : List Entry). place_at l u 0) way.asked ∙ place_both T (R ++ E) u 0 ∙ ap (place_at (R ++ E) u) one.first ∙ one.second
    ∙ ap (λ (k : ℕ). t + k) (place_both R E v 0 ∙ ap (place_at E v) two.first ∙ two.second)
    in
    let rolled : (vary roll.damage (drawing_from w 0 p)).drawn ≡ n =
    ap (λ (y : Progress). (vary roll.damage y).drawn) (sym (from_start p w on begun))
    ∙ sym (rolled_place bytes side roll log parts way hit all.0 later.0 own own_first s w rolled_w p at on begun)
    in
    let same =
    exchanged_hit side roll s.terms p at.ready u w t n one.agrees.is agrees.is (sym x.1 ∙ one.first) (x.0 ∙ hit) rolled (omega (arith, ends)) (record {
      test = λ k lt. let from : k ≡ 0 + k = omega arith in sym (one.before k (omega (arith, lt))) ∙ ap (byte_at u) from;
      roll = λ k lt. let from : k ≡ 0 + k = omega arith in one.past k ∙ two.before k (omega (arith, lt)) ∙ ap (byte_at w) from;
      rest = λ k lt.
          let here : t + n + k ≡ t + (n + k) = omega arith in
          let there : n + (t + k) ≡ n + t + k = omega arith in
          sym (ap (byte_at u) here ∙ one.past (n + k) ∙ two.past k ∙ ap (byte_at w) there);
    })
    in
    of_fields s parts _ (tested_first side roll (ruling_of s.terms) o)
    (ap (λ (y : Progress). (from_damage side roll (ruling_of s.terms) y).field) (from_start p w on begun) ∙ same) z.0

-- What a miss leads to, on each stream that agrees with a search for a factor and then with what was asked.
abbrev unasked : Entry
unasked = Found (RotatedAtLeast 217) (Remainder 1) 255

leads_miss : (bytes : List ℕ) (side : Side) (roll : Roll) (log : List Entry) (parts : Parts) (way : RollWay bytes side roll log parts) → way.missed ≡ true
    → (s : State) → EndsAt s bytes (lefts.Roll side roll) (unasked ∷ log) parts
leads_miss bytes side roll log parts way miss s w agrees p at on begun =
    let n = place_at (unasked ∷ []) w 0 in
    let v = rest_after (unasked ∷ []) w in
    let later = agrees_then (unasked ∷ []) log w agrees in
    let at_v = at_start s bytes side roll p v later.is at in
    let o : Progress = drawing_from v 0 p in
    let x = way.tests s v (agrees_first way.tested (way.rolled ++ way.rest) v (subst (λ (l : List Entry). Agrees l v) way.asked later)) o at_v refl refl in
    let z = way.played s v later o at_v refl refl in
    let found = first-exists w agrees.is 0 is_factor 255 (omega arith) refl in
    let ends : n ≡ found.0 + 1 = ap (λ (o : Option ℕ). place_past o 0) found.1 in
    let rolled : (vary roll.damage (drawing_from w 0 p)).drawn ≡ n =
    rolled_end _ w 0 found.0 p _ (rolls roll.damage (large-damage side roll p at.ready) p w 0 found.0 found.1) ∙ sym ends
    in
    of_fields s parts _ (tested_first side roll (ruling_of s.terms) o)
    (ap (λ (y : Progress). (from_damage side roll (ruling_of s.terms) y).field) (from_start p w on begun)
    ∙ exchanged_miss side roll s.terms p at.ready w n agrees.is rolled (x.0 ∙ miss)) z.0

-- Ways from each kind of position

-- What is said of a walk from a position holds by another name of what is left there.
abbrev ByRest : Walk → (State → Option Left → Type 0) → Option Left → Type 0
ByRest w P rest = (s : State) → Stands w.start s → AreOffered s w.one w.two → P s rest

pub plays_second : (w : Walk) (middle : Middle) (nodes after : Nodes) (parts : Parts) (rest : Rest) → middle.rest ≡ Some (lefts.Second rest) → (path : List ℕ)
    → IsPathOf nodes path → (way : IsLogged (script_of path) nodes after)
    → ((s : State) → Stands w.start s → AreOffered s w.one w.two → EndsAt s middle.bytes (lefts.Second rest) way.log parts) → PlaysOn w middle nodes after parts
plays_second w middle nodes after parts rest kept path is_path way leads =
    record {
      path = path;
      is_path = is_path;
      way = way;
      order = way.log;
      same = inl refl;
      leads = λ fits. subst (ByRest w (λ s left. LeadsFrom s w.one w.two middle.bytes left way.log parts)) (sym kept) leads;
      drawn = λ fits. subst (ByRest w (λ s left. IsPlayedIn s middle.bytes left way.log way.log)) (sym kept) (λ s h o. refl);
      played = subst (ByRest w (λ s left. (stream : Stream) → Agrees way.log stream → PlaysFrom s w.one w.two middle.bytes left stream parts)) (sym kept) leads;
    }

pub plays_whole : (w : Walk) (middle : Middle) (nodes after : Nodes) (parts : Parts) → middle.rest ≡ None → (path : List ℕ) → IsPathOf nodes path
    → (way : IsLogged (script_of path) nodes after) → ((s : State) → Stands w.start s → AreOffered s w.one w.two → Leads s w.one w.two way.log parts untold)
    → PlaysOn w middle nodes after parts
plays_whole w middle nodes after parts kept path is_path way leads =
    record {
      path = path;
      is_path = is_path;
      way = way;
      order = way.log;
      same = inl refl;
      leads = λ fits. subst (ByRest w (λ s left. LeadsFrom s w.one w.two middle.bytes left way.log parts)) (sym kept) leads;
      drawn = λ fits. subst (ByRest w (λ s left. IsPlayedIn s middle.bytes left way.log way.log)) (sym kept) (λ s h o. refl);
      played = subst (ByRest w (λ s left. (stream : Stream) → Agrees way.log stream → PlaysFrom s w.one w.two middle.bytes left stream parts)) (sym kept) leads;
    }

pub plays_roll : (w : Walk) (middle : Middle) (nodes after : Nodes) (parts : Parts) (side : Side) (roll : Roll) → middle.rest ≡ Some (lefts.Roll side roll)
    → (path : List ℕ) → IsPathOf nodes path → (way : IsLogged (script_of path) nodes after) → RollWay middle.bytes side roll way.log parts
    → PlaysOn w middle nodes after parts
plays_roll w middle nodes after parts side roll kept path is_path way r = by r.missed refl
  where
    played : ByRest w (λ s left. (stream : Stream) → Agrees way.log stream → PlaysFrom s w.one w.two middle.bytes left stream parts) middle.rest
    played =
        subst (ByRest w (λ s left. (stream : Stream) → Agrees way.log stream → PlaysFrom s w.one w.two middle.bytes left stream parts)) (sym kept)
        (λ s h o stream agrees p at on begun. record { within = (r.played s stream agrees p at on begun).0; written = tt })

    own : Stream
    own = stream_of scripted (script_of path)

    by : (missed : Bool) → r.missed ≡ missed → PlaysOn w middle nodes after parts
    by false hit =
        record {
          path = path;
          is_path = is_path;
          way = way;
          order = r.rolled ++ (r.tested ++ r.rest);
          same = inr (inl (record { first = r.tested; second = r.rolled; rest = r.rest; asked = r.asked; is = refl }));
          leads = λ fits.
              subst (ByRest w (λ s left. LeadsFrom s w.one w.two middle.bytes left (r.rolled ++ (r.tested ++ r.rest)) parts)) (sym kept)
              (λ s h o. leads_hit middle.bytes side roll way.log parts r hit (none_missed way.log _ _ way.noted fits) own way.own s);
          drawn = λ fits.
              subst (ByRest w (λ s left. IsPlayedIn s middle.bytes left way.log (r.rolled ++ (r.tested ++ r.rest)))) (sym kept)
              (λ s h o.
              let all = none_each r.tested (r.rolled ++ r.rest) (subst NoneMissed r.asked (none_missed way.log _ _ way.noted fits)) in
              let later = none_each r.rolled r.rest all.1 in
              let first = agrees_first r.tested (r.rolled ++ r.rest) own (subst (λ (l : List Entry). Agrees l own) r.asked way.own) in
              inl (record {
                tested = r.tested;
                rolled = r.rolled;
                rest = r.rest;
                asked = r.asked;
                is = refl;
                hits = λ stream agrees p at on begun. let x = r.tests s stream agrees p at on begun in (x.0 ∙ hit, x.1);
                rolls = rolled_place middle.bytes side roll way.log parts r hit all.0 later.0 own first s;
              }));
          played = played;
        }
    by true miss =
        record {
          path = path;
          is_path = is_path;
          way = way;
          order = unasked ∷ way.log;
          same = inr (inr (record { test = RotatedAtLeast 217; byte = 255; small = omega arith; passes = refl; is = refl }));
          leads = λ fits.
              subst (ByRest w (λ s left. LeadsFrom s w.one w.two middle.bytes left (unasked ∷ way.log) parts)) (sym kept)
              (λ s h o. leads_miss middle.bytes side roll way.log parts r miss s);
          drawn = λ fits.
              subst (ByRest w (λ s left. IsPlayedIn s middle.bytes left way.log (unasked ∷ way.log))) (sym kept)
              (λ s h o. inr (record {
                byte = 255;
                small = omega arith;
                passes = refl;
                is = refl;
                misses = λ stream agrees p at on begun.
                    (r.tests s stream (agrees_first r.tested (r.rolled ++ r.rest) stream (subst (λ (l : List Entry). Agrees l stream) r.asked agrees)) p at on begun).0 ∙ miss;
              }));
          played = played;
        }
