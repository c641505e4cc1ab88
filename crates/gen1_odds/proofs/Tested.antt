-- The hit test by its draw, and the phases that contain it.
use Rattle.std.proofs.Common.{Bool, None, Option, Some, ap, false, if◌then◌else◌, is_some, not, nat_lt, refl, sym, true, ℕ, ◌+◌, ◌∙◌, ◌||◌, ◌≡◌, arith, ◌&&◌, ◌==◌}
use Rattle.std.proofs.lemmas.Bool.{false≢true}
use Rattle.gen1_rolls.specs.Streams.{byte_at}
use Rattle.gen1_machine.specs.declared.side.Side.{Side}
use Rattle.gen1_machine.specs.HitTest.{base_of, hit_or_miss, hit_test, hits_below, miss, must_hit, note_miss, scaled_in, set_tested, settled_hit_in, test_by}
use Rattle.gen1_machine.specs.Moves.{accuracy_byte, Move, toxic}
use Rattle.gen1_machine.specs.State.{Field, active_in, conditions_in, has_type}
use Rattle.gen1_machine.specs.Progress.{active, choose, draw, fail, fails_if, given, has_missed, note, on_action, on_active, on_conditions, on_field, set_last_damage, set_missed, stay, stop, unless_stopped, when, ◌▸◌, Phase, Progress, has_status, has_substitute, inflict, is_of, on_member, only, starts, told}
use Rattle.gen1_layout.proofs.Chain.{choose-false, choose-true, then-goes, then-stops}
use Rattle.gen1_odds.specs.declared.reasons.Reason.{Reason}
use Rattle.gen1_odds.specs.Laws.{fails_by, misses, Acting, BreaksIfNeeded, ConfusionCounts, MustHitCounts, ParalysisCounts, PoisonCounts, SeedCounts, TestCounts}
use Rattle.gen1_odds.specs.Odds.{hits_by, passes}
use Rattle.gen1_odds.specs.Trials.{first, settled_reason, why_settled, base_in}
use Rattle.std.proofs.lemmas.Bool.Decides.{nat_tests}
use Rattle.gen1_tables.specs.declared.types.Element.TheVariants.{Electric, Grass, Ground, Poison}
use Rattle.gen1_tables.specs.Types.{same_type}
use Rattle.gen1_stats.specs.declared.member.Status.{Status}
use Rattle.gen1_stats.specs.declared.member.Status.TheVariants.{Paralysed, Poisoned}
use Rattle.gen1_machine.specs.declared.event.Kind.{Kind}
use Rattle.gen1_machine.specs.Conditions.{with_bad_poison, with_seed, ActiveConditions}
use Rattle.gen1_machine.specs.EarlyEffects.{confuse, confuse_foe, confused_by, paralyse_foe, poison_foe, seed_foe}
use Rattle.gen1_machine.specs.Sides.{other}
use Rattle.gen1_machine.specs.declared.event.Volatile.{Volatile}
use Rattle.gen1_machine.specs.declared.event.Kind.TheVariants as kinds
use Rattle.gen1_machine.specs.declared.event.Volatile.TheVariants as volatiles
use Rattle.gen1_odds.specs.declared.reasons.Reason.TheVariants as reasons

or-none : (x : Bool) → (x || false) ≡ x
or-none true = refl
or-none false = refl

or-all : (x : Bool) → (x || true) ≡ true
or-all true = refl
or-all false = refl

abbrev ends : Progress → Bool
ends p = p.stopped

-- A test misses by its draw, or has missed before. It never stops.

below-misses : (s : Side) (byte b : ℕ) (x : Bool) (p : Progress) → nat_lt b byte ≡ x → p.stopped ≡ false
    → has_missed (hits_below s byte b p) ≡ (p.action.missed || not x)
unfolding hits_below miss set_missed set_last_damage on_conditions on_active on_field on_action ◌▸◌ unless_stopped choose stay
below-misses s byte b true p e h = rw e (sym (or-none p.action.missed))
below-misses s byte b false p e h = rw (e, h) (sym (or-all p.action.missed))

below-goes : (s : Side) (byte b : ℕ) (x : Bool) (p : Progress) → nat_lt b byte ≡ x → p.stopped ≡ false → (hits_below s byte b p).stopped ≡ false
unfolding hits_below miss set_missed set_last_damage on_conditions on_active on_field on_action ◌▸◌ unless_stopped choose stay
below-goes s byte b true p e h = rw e h
below-goes s byte b false p e h = rw (e, h) refl

by_draw-misses : (s : Side) (byte : ℕ) (p : Progress) → p.stopped ≡ false
    → has_missed ((set_tested byte ▸ draw (hits_below s byte)) p) ≡ (p.action.missed || not (nat_lt (byte_at p.stream p.drawn) byte))
unfolding set_tested on_action draw
by_draw-misses s byte p h =
    ap has_missed (then-goes (set_tested byte) (draw (hits_below s byte)) p h)
    ∙ below-misses s byte (byte_at p.stream p.drawn) (nat_lt (byte_at p.stream p.drawn) byte) (record (set_tested byte p) { drawn = p.drawn + 1 }) refl h

by_draw-goes : (s : Side) (byte : ℕ) (p : Progress) → p.stopped ≡ false → ((set_tested byte ▸ draw (hits_below s byte)) p).stopped ≡ false
unfolding set_tested on_action draw
by_draw-goes s byte p h =
    ap ends (then-goes (set_tested byte) (draw (hits_below s byte)) p h)
    ∙ below-goes s byte (byte_at p.stream p.drawn) (nat_lt (byte_at p.stream p.drawn) byte) (record (set_tested byte p) { drawn = p.drawn + 1 }) refl h

sure-misses : (s : Side) (base : ℕ) (p : Progress) → p.stopped ≡ false → has_missed ((set_tested base ▸ miss s) p) ≡ true
unfolding set_tested miss set_missed set_last_damage on_conditions on_active on_field on_action ◌▸◌ unless_stopped
sure-misses s base p h = rw h refl

sure-goes : (s : Side) (base : ℕ) (p : Progress) → p.stopped ≡ false → ((set_tested base ▸ miss s) p).stopped ≡ false
unfolding set_tested miss set_missed set_last_damage on_conditions on_active on_field on_action ◌▸◌ unless_stopped
sure-goes s base p h = rw h refl

test-misses : (s : Side) (base : ℕ) (o : Option Bool) (p : Progress) → p.stopped ≡ false
    → has_missed (test_by s base o p) ≡ (p.action.missed || not (hits_by o (scaled_in s base p.field) (byte_at p.stream p.drawn)))
unfolding test_by set_tested given on_action
test-misses s base (Some true) p h = sym (or-none p.action.missed)
test-misses s base (Some false) p h = sure-misses s base p h ∙ sym (or-all p.action.missed)
test-misses s base None p h = by_draw-misses s (scaled_in s base p.field) p h

test-goes : (s : Side) (base : ℕ) (o : Option Bool) (p : Progress) → p.stopped ≡ false → (test_by s base o p).stopped ≡ false
unfolding test_by set_tested given on_action
test-goes s base (Some true) p h = h
test-goes s base (Some false) p h = sure-goes s base p h
test-goes s base None p h = by_draw-goes s (scaled_in s base p.field) p h

-- The test of a move

base-same : (s : Side) (move : Move) (p : Progress) → Acting s move p → base_of s move p ≡ base_in s move p.field
base-same s move p a = ap (λ (x : Bool). if x then (active s p).kept_accuracy else accuracy_byte move) a.knows

pub hit-misses : (s : Side) (move : Move) (p : Progress) → Acting s move p
    → has_missed (hit_or_miss s move p) ≡ misses s move p.field (byte_at p.stream p.drawn)
unfolding hit_or_miss hit_test given
hit-misses s move p a =
    ap (λ (base : ℕ). has_missed (test_by s base (settled_hit_in s move p.field) p)) (base-same s move p a)
    ∙ test-misses s (base_in s move p.field) (settled_hit_in s move p.field) p a.moves_on
    ∙ ap (λ (x : Bool). x || misses s move p.field (byte_at p.stream p.drawn)) a.aims

pub hit-goes : (s : Side) (move : Move) (p : Progress) → p.stopped ≡ false → (hit_or_miss s move p).stopped ≡ false
unfolding hit_or_miss hit_test given
hit-goes s move p h = test-goes s (base_of s move p) (settled_hit_in s move p.field) p h

-- A miss that came before stays.
pub hit-late : (s : Side) (move : Move) (p : Progress) → p.stopped ≡ false → p.action.missed ≡ true → has_missed (hit_or_miss s move p) ≡ true
unfolding hit_or_miss hit_test given
hit-late s move p h m =
    let b = not (hits_by (settled_hit_in s move p.field) (scaled_in s (base_of s move p) p.field) (byte_at p.stream p.drawn)) in
    test-misses s (base_of s move p) (settled_hit_in s move p.field) p h ∙ ap (λ (x : Bool). x || b) m

-- A test whose miss ends the action

ended : (s : Side) (move : Move) (q : Progress) (x : Bool) → q.stopped ≡ false → has_missed q ≡ x → (when has_missed (note_miss s move ▸ stop) q).stopped ≡ x
unfolding note_miss note stop stay
ended s move q true h e = ap ends (choose-true has_missed (note_miss s move ▸ stop) stay q e) ∙ ap ends (then-goes (note_miss s move) stop q h)
ended s move q false h e = ap ends (choose-false has_missed (note_miss s move ▸ stop) stay q e) ∙ h

pub must-misses : (s : Side) (move : Move) (p : Progress) → Acting s move p
    → (must_hit s move p).stopped ≡ misses s move p.field (byte_at p.stream p.drawn)
unfolding must_hit
must-misses s move p a =
    let goes = hit-goes s move p a.moves_on in
    ap ends (then-goes (hit_or_miss s move) (when has_missed (note_miss s move ▸ stop)) p goes)
    ∙ ended s move (hit_or_miss s move p) (misses s move p.field (byte_at p.stream p.drawn)) goes (hit-misses s move p a)

-- An action continues after a hit.

after-hit : (s : Side) (move : Move) (k : Phase) (p : Progress) (x : Bool) → ((q : Progress) → q.stopped ≡ false → (k q).stopped ≡ false)
    → (must_hit s move p).stopped ≡ x → ((must_hit s move ▸ k) p).stopped ≡ x
after-hit s move k p true keeps e = ap ends (then-stops (must_hit s move) k p e) ∙ e
after-hit s move k p false keeps e = ap ends (then-goes (must_hit s move) k p e) ∙ keeps (must_hit s move p) e

settled-fails : (s : Side) (move : Move) (p : Progress) (why : Reason) (b : ℕ) (o : Option Bool) → settled_hit_in s move p.field ≡ o
    → fails_by (why_settled o why) s move p.field b ≡ misses s move p.field b
settled-fails s move p why b (Some true) e = refl
settled-fails s move p why b (Some false) e = rw e refl
settled-fails s move p why b None e = refl

pub last-fails : (s : Side) (move : Move) (k : Phase) (p : Progress) → Acting s move p → ((q : Progress) → q.stopped ≡ false → (k q).stopped ≡ false)
    → ((must_hit s move ▸ k) p).stopped ≡ fails_by (settled_reason s move p.field) s move p.field (byte_at p.stream p.drawn)
last-fails s move k p a keeps =
    let b = byte_at p.stream p.drawn in
    after-hit s move k p (misses s move p.field b) keeps (must-misses s move p a)
    ∙ sym (settled-fails s move p _ b (settled_hit_in s move p.field) refl)

-- A test before, by which the move fails

fail-ends : (s : Side) (p : Progress) → p.stopped ≡ false → (fail s p).stopped ≡ true
unfolding fail note stop ◌▸◌ unless_stopped
fail-ends s p h = rw h refl

guard-by : (s : Side) (test : Progress → Bool) (k : Phase) (p : Progress) (x : Bool) → p.stopped ≡ false → test p ≡ x
    → ((fails_if s test ▸ k) p).stopped ≡ (if x then true else (k p).stopped)
unfolding fails_if stay
guard-by s test k p true h e =
    let failed = choose-true test (fail s) stay p e in
    let ended = ap ends failed ∙ fail-ends s p h in
    ap ends (then-stops (fails_if s test) k p ended) ∙ ended
guard-by s test k p false h e =
    let past = choose-false test (fail s) stay p e in
    ap ends (then-goes (fails_if s test) k p (ap ends past ∙ h)) ∙ ap (λ (q : Progress). (k q).stopped) past

guard-reason : (s : Side) (move : Move) (p : Progress) (b : ℕ) (why : Reason) (reason : Option Reason) (rest : Bool) (x : Bool)
    → rest ≡ fails_by reason s move p.field b → (if x then true else rest) ≡ fails_by (if x then Some why else reason) s move p.field b
guard-reason s move p b why reason rest true h = refl
guard-reason s move p b why reason rest false h = h

pub guarded : (s : Side) (move : Move) (test : Progress → Bool) (k : Phase) (p : Progress) (why : Reason) (reason : Option Reason) → Acting s move p
    → (k p).stopped ≡ fails_by reason s move p.field (byte_at p.stream p.drawn)
    → ((fails_if s test ▸ k) p).stopped ≡ fails_by (if test p then Some why else reason) s move p.field (byte_at p.stream p.drawn)
guarded s move test k p why reason a h =
    guard-by s test k p (test p) a.moves_on refl ∙ guard-reason s move p (byte_at p.stream p.drawn) why reason (k p).stopped (test p) h

-- A test after the hit test. A hit leaves the field as it is.

below-field : (s : Side) (byte b : ℕ) (p : Progress) → nat_lt b byte ≡ true → (hits_below s byte b p).field ≡ p.field
unfolding hits_below choose stay
below-field s byte b p e = rw e refl

by_draw-field : (s : Side) (byte : ℕ) (p : Progress) → p.stopped ≡ false → nat_lt (byte_at p.stream p.drawn) byte ≡ true
    → ((set_tested byte ▸ draw (hits_below s byte)) p).field ≡ p.field
unfolding set_tested on_action draw
by_draw-field s byte p h e =
    ap (λ (q : Progress). q.field) (then-goes (set_tested byte) (draw (hits_below s byte)) p h)
    ∙ below-field s byte (byte_at p.stream p.drawn) (record (set_tested byte p) { drawn = p.drawn + 1 }) e

test-field : (s : Side) (base : ℕ) (o : Option Bool) (p : Progress) → p.stopped ≡ false
    → hits_by o (scaled_in s base p.field) (byte_at p.stream p.drawn) ≡ true → (test_by s base o p).field ≡ p.field
unfolding test_by set_tested given on_action
test-field s base (Some true) p h e = refl
test-field s base (Some false) p h e = absurd (false≢true e)
test-field s base None p h e = by_draw-field s (scaled_in s base p.field) p h e

hit-field : (s : Side) (move : Move) (p : Progress) → Acting s move p → passes s move p.field (byte_at p.stream p.drawn) ≡ true
    → (hit_or_miss s move p).field ≡ p.field
unfolding hit_or_miss hit_test given
hit-field s move p a e =
    ap (λ (base : ℕ). (test_by s base (settled_hit_in s move p.field) p).field) (base-same s move p a)
    ∙ test-field s (base_in s move p.field) (settled_hit_in s move p.field) p a.moves_on e

must-field : (s : Side) (move : Move) (p : Progress) → Acting s move p → passes s move p.field (byte_at p.stream p.drawn) ≡ true
    → (must_hit s move p).field ≡ p.field
unfolding must_hit stay
must-field s move p a e =
    let goes = hit-goes s move p a.moves_on in
    let hit = hit-misses s move p a ∙ ap not e in
    ap (λ (q : Progress). q.field) (then-goes (hit_or_miss s move) (when has_missed (note_miss s move ▸ stop)) p goes)
    ∙ ap (λ (q : Progress). q.field) (choose-false has_missed (note_miss s move ▸ stop) stay (hit_or_miss s move p) hit)
    ∙ hit-field s move p a e

first-missed : (s : Side) (move : Move) (f : Field) (b : ℕ) (reason after : Option Reason) → misses s move f b ≡ true → fails_by (first reason after) s move f b ≡ true
first-missed s move f b (Some why) after e = refl
first-missed s move f b None (Some why) e = refl
first-missed s move f b None None e = e

settled-none : (s : Side) (move : Move) (f : Field) (why : Reason) (b : ℕ) (o : Option Bool) → settled_hit_in s move f ≡ o → passes s move f b ≡ true
    → why_settled o why ≡ None
settled-none s move f why b (Some true) e h = refl
settled-none s move f why b (Some false) e h = absurd (false≢true (rw e at h))
settled-none s move f why b None e h = refl

first-hit : (s : Side) (move : Move) (f : Field) (b : ℕ) (after : Option Reason) → passes s move f b ≡ true → fails_by after s move f b ≡ is_some after
first-hit s move f b (Some why) h = refl
first-hit s move f b None h = ap not h

if-some : (x : Bool) (rest : Bool) → rest ≡ false → (if x then true else rest) ≡ x
if-some true rest h = refl
if-some false rest h = h

late-by : (s : Side) (move : Move) (test : Field → Bool) (k : Phase) (p : Progress) (after : Option Reason) (x : Bool) → Acting s move p
    → ((q : Progress) → q.stopped ≡ false → (k q).stopped ≡ false)
    → is_some after ≡ test p.field → passes s move p.field (byte_at p.stream p.drawn) ≡ x
    → ((must_hit s move ▸ (fails_if s (λ q. test q.field) ▸ k)) p).stopped
    ≡ fails_by (first (settled_reason s move p.field) after) s move p.field (byte_at p.stream p.drawn)
late-by s move test k p after false a keeps same e =
    let b = byte_at p.stream p.drawn in
    let missed = must-misses s move p a ∙ ap not e in
    ap ends (then-stops (must_hit s move) (fails_if s (λ q. test q.field) ▸ k) p missed) ∙ missed
    ∙ sym (first-missed s move p.field b (settled_reason s move p.field) after (ap not e))
late-by s move test k p after true a keeps same e =
    let b = byte_at p.stream p.drawn in
    let q = must_hit s move p in
    let hit = must-misses s move p a ∙ ap not e in
    let field = must-field s move p a e in
    ap ends (then-goes (must_hit s move) (fails_if s (λ q. test q.field) ▸ k) p hit)
    ∙ guard-by s (λ r. test r.field) k q (test q.field) hit refl
    ∙ if-some (test q.field) (k q).stopped (keeps q hit)
    ∙ ap test field ∙ sym same ∙ sym (first-hit s move p.field b after e)
    ∙ sym (ap (λ (r : Option Reason). fails_by (first r after) s move p.field b) (settled-none s move p.field _ b (settled_hit_in s move p.field) refl e))

pub late-fails : (s : Side) (move : Move) (test : Field → Bool) (k : Phase) (p : Progress) (after : Option Reason) → Acting s move p
    → ((q : Progress) → q.stopped ≡ false → (k q).stopped ≡ false) → is_some after ≡ test p.field
    → ((must_hit s move ▸ (fails_if s (λ q. test q.field) ▸ k)) p).stopped
    ≡ fails_by (first (settled_reason s move p.field) after) s move p.field (byte_at p.stream p.drawn)
late-fails s move test k p after a keeps same =
    late-by s move test k p after (passes s move p.field (byte_at p.stream p.drawn)) a keeps same refl

-- The laws of the hit test's draw.

pub test_counts : TestCounts
test_counts = hit-misses

pub must_hit_counts : MustHitCounts
must_hit_counts = must-misses

-- Statuses

inflict-goes : (t : Side) (status : Status) (kind : Kind) (q : Progress) → q.stopped ≡ false → (inflict t status kind q).stopped ≡ false
unfolding inflict told on_member on_field ◌▸◌ unless_stopped
inflict-goes t status kind q h = rw h refl

only-goes : (t : Side) (bad : Bool) (q : Progress) → q.stopped ≡ false → (only bad (on_conditions t with_bad_poison) q).stopped ≡ false
unfolding choose stay on_conditions on_active on_field
only-goes t true q h = h
only-goes t false q h = h

poison-goes : (t : Side) (bad : Bool) (q : Progress) → q.stopped ≡ false
    → ((inflict t Poisoned kinds.Poison ▸ only bad (on_conditions t with_bad_poison)) q).stopped ≡ false
poison-goes t bad q h =
    let inflicted = inflict-goes t Poisoned kinds.Poison q h in
    ap (λ (r : Progress). r.stopped) (then-goes (inflict t Poisoned kinds.Poison) (only bad (on_conditions t with_bad_poison)) q inflicted)
    ∙ only-goes t bad (inflict t Poisoned kinds.Poison q) inflicted

pub poison_counts : PoisonCounts
unfolding poison_foe
poison_counts s move p a =
    guarded s move (has_substitute (other s)) _ p reasons.Substitute _ a
    (guarded s move (has_status (other s)) _ p reasons.HasStatus _ a
    (guarded s move (is_of (other s) Poison) _ p reasons.OwnType (settled_reason s move p.field) a
    (last-fails s move _ p a (poison-goes (other s) (move.number == toxic)))))

pub paralysis_counts : ParalysisCounts
unfolding paralyse_foe
paralysis_counts s move p a =
    guarded s move (has_status (other s)) _ p reasons.HasStatus _ a
    (guarded s move (λ q. same_type move.kind Electric && is_of (other s) Ground q) _ p reasons.OwnType (settled_reason s move p.field) a
    (last-fails s move _ p a (inflict-goes (other s) Paralysed kinds.Paralysis)))

-- Conditions, of which the machine asks after the hit test

starts-goes : (t : Side) (what : Volatile) (change : ActiveConditions → ActiveConditions) (q : Progress) → q.stopped ≡ false
    → (starts t what change q).stopped ≡ false
unfolding starts told
starts-goes t what change q h = h

confuse-goes : (t : Side) (q : Progress) → q.stopped ≡ false → (confuse t q).stopped ≡ false
unfolding confuse draw confused_by starts told
confuse-goes t q h = h

seed-some : (x y : Bool) → is_some (if x then Some reasons.Seeded else if y then Some reasons.OwnType else None) ≡ (x || y)
seed-some true y = refl
seed-some false true = refl
seed-some false false = refl

confused-some : (x : Bool) → is_some (if x then Some reasons.Confused else None) ≡ x
confused-some true = refl
confused-some false = refl

pub seed_counts : SeedCounts
unfolding seed_foe
seed_counts s move p a =
    late-fails s move (λ f. (conditions_in (other s) f).seeded || has_type Grass (active_in (other s) f)) _ p _ a
    (starts-goes (other s) volatiles.LeechSeed with_seed) (seed-some _ _)

pub confusion_counts : ConfusionCounts
unfolding confuse_foe
confusion_counts s move p a =
    guarded s move (has_substitute (other s)) _ p reasons.Substitute _ a
    (late-fails s move (λ f. is_some (conditions_in (other s) f).confused) _ p _ a (confuse-goes (other s)) (confused-some _))

-- Substitutes

pub breaks_if_needed : BreaksIfNeeded
breaks_if_needed substitute hp damage small = grind (arith, nat_tests)
