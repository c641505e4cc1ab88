-- How many of the 256 possible draws are below a bound: as many as the bound, even after the bits of the draws are
-- rotated. Sums of ways over the damages of one use, and of up to three in a row.
use Rattle.std.proofs.Common.{Bool, None, Some, arith, false, if◌then◌else◌, inl, inr, nat_le, nat_lt, not, refl, suc, true, zero, ℕ, ◌&&◌, ◌*◌, ◌<◌, ◌==◌, ◌||◌, ◌≡◌, List, [], ap, get_or, length, slice_set, subst, sym, take, ◌++◌, ◌+◌, ◌∙◌, ◌∷◌, ◌≤◌, Option, min}
use Rattle.std.proofs.lemmas.Bool.{cases_eq, eqb-true}
use Rattle.gen1_machine.specs.CriticalHits.{rotated_left_3, critical_by, roll_critical, set_critical}
use Rattle.gen1_machine.proofs.Costs.{and-left, and-right}
use Rattle.gen1_odds.specs.Acting.{confusion_draws, how_many_pairs, paralysis_draws}
use Rattle.gen1_odds.specs.Odds.{hits_by, how_many, deals_usual, flag, hit_count, odds_in}
use Rattle.std.proofs.Math.Nat.{le_refl}
use Rattle.std.proofs.Math.Path.{fun_ext}
use Rattle.std.specs.List.{range_with_len, sum_by}
use Rattle.std.proofs.lemmas.List.{get_or-set_other, get_or-set_same, map-id, take_more}
use Rattle.std.proofs.lemmas.List.FromFn.{map-range_with_len_more}
use Rattle.std.proofs.lemmas.List.Sums.{sum_by_push}
use Rattle.std.proofs.lemmas.Nat.{mul-le}
use Rattle.gen1_odds.specs.KnockOut.{IsKnown, changed, no_change, over, two_uses, after_fixed, between_in, chances_in, chances_of, fixed_ways, halves_in, needed_in, target_in, three_chances_in, three_of, usual_chances, usual_three}
use Rattle.gen1_tables.specs.declared.effect.Effect.{Effect}
use Rattle.gen1_tables.specs.Effects.{traps}
use Rattle.gen1_machine.specs.declared.side.Side.{Side}
use Rattle.gen1_machine.specs.Moves.{Move}
use Rattle.gen1_machine.specs.Rules.{Rules}
use Rattle.gen1_machine.specs.Sides.{other}
use Rattle.gen1_machine.specs.State.{member_in, Field, active_in, with_last_damage}
use Rattle.gen1_odds.specs.declared.knock_outs.Between.{Between}
use Rattle.gen1_odds.specs.declared.knock_outs.Chances.{Chances}
use Rattle.gen1_odds.specs.declared.knock_outs.Target.{Target}
use Rattle.gen1_odds.specs.declared.knock_outs.ThreeChances.{ThreeChances}
use Rattle.gen1_odds.specs.declared.odds.Odds.{Odds}
use Rattle.gen1_odds.specs.Trials.{has_substitute_in, goes_on_in, is_slower_in}
use Rattle.gen1_rolls.specs.Streams.{byte_at, first, span}
use Rattle.gen1_machine.specs.declared.side.Side.TheVariants.{One, Two}
use Rattle.gen1_machine.specs.Counter.{can_counter, counter, counter_by}
use Rattle.gen1_machine.specs.Damage.{is_factor}
use Rattle.gen1_machine.specs.FixedDamage.{deal_everything, deal_fixed, fixed_damage, is_slower, knock_out, knock_out_by_type, psywave}
use Rattle.gen1_machine.specs.HitTest.{hit_or_miss, is_immune}
use Rattle.gen1_machine.specs.Progress.{active, choose, draw, draw_until, fault, given, has_missed, last_damage, on_action, on_field, set_last_damage, set_missed, stay, stop, unless, unless_stopped, ◌▸◌, Phase, Progress}
use Rattle.gen1_layout.proofs.Chain.{choose-false, choose-true, then-goes}
use Rattle.gen1_multiturn.specs.MoveHits.{can_counter_in}
use Rattle.gen1_odds.specs.Laws.{misses, Acting, CounterCounts, FixedCounts, ImmuneMisses, OneHitCounts, SlowerMisses}
use Rattle.gen1_odds.proofs.Tested.{hit-goes, hit-late, hit-misses}

-- Whether, for each bound below n, the number of draws that pass its test is the bound.
unfoldable counts : (ℕ → ℕ → Bool) → ℕ → Bool
counts test zero = true
counts test (suc n) = how_many (test n) == n && counts test n

counts-at : (test : ℕ → ℕ → Bool) (n bound : ℕ) → counts test n ≡ true → bound < n → how_many (test bound) ≡ bound
unfolding counts
counts-at test zero bound all below = absurd (omega (arith, below))
counts-at test (suc n) bound all below =
    let last = eqb-true (how_many (test n)) n (and-left (how_many (test n) == n) (counts test n) all) in
    let others = and-right (how_many (test n) == n) (counts test n) all in
    elim (cases_eq bound n) [
      | inl same ↦ rw same last
      | inr other ↦ counts-at test n bound others (omega (arith, below, other))
    ]

-- By computing each count

below_all : counts (λ bound draw. nat_lt draw bound) 256 ≡ true
unfolding counts how_many
below_all = refl

rotated_all : counts (λ bound draw. nat_lt (rotated_left_3 draw) bound) 256 ≡ true
unfolding counts how_many
rotated_all = refl

pub rotated-many : (bound : ℕ) → bound < 256 → how_many (λ draw. nat_lt (rotated_left_3 draw) bound) ≡ bound
rotated-many bound byte = counts-at (λ bound draw. nat_lt (rotated_left_3 draw) bound) 256 bound rotated_all byte

pub hits-many : (byte : ℕ) → byte < 256 → how_many (λ draw. hits_by None byte draw) ≡ byte
hits-many byte below = counts-at (λ bound draw. nat_lt draw bound) 256 byte below_all below

pub all-many : (byte : ℕ) → how_many (λ draw. hits_by (Some true) byte draw) ≡ 256
unfolding how_many
all-many byte = refl

pub none-many : (byte : ℕ) → how_many (λ draw. hits_by (Some false) byte draw) ≡ 0
unfolding how_many
none-many byte = refl

-- The pairs of draws by which a member acts, by what keeps it: a hold, its state, confusion, Disable, paralysis, and no pick.

abbrev acting : Bool → Bool → Bool → Bool → Bool → Bool → ℕ
acting held out confused barred paralysed idle =
    how_many_pairs (λ b c. not (held || out || (confused && nat_le 128 b) || barred || (paralysed && nat_lt c 63) || idle))

none-held : (out confused barred paralysed idle : Bool) → acting true out confused barred paralysed idle ≡ 0
unfolding how_many how_many_pairs
none-held out confused barred paralysed idle = refl

none-out : (confused barred paralysed idle : Bool) → acting false true confused barred paralysed idle ≡ 0
unfolding how_many how_many_pairs
none-out confused barred paralysed idle = refl

none-barred : (confused paralysed idle : Bool) → acting false false confused true paralysed idle ≡ 0
unfolding how_many how_many_pairs
none-barred true paralysed idle = refl
none-barred false paralysed idle = refl

none-idle-confused : (paralysed : Bool) → acting false false true false paralysed true ≡ 0
unfolding how_many how_many_pairs
none-idle-confused true = refl
none-idle-confused false = refl

none-idle : (paralysed : Bool) → acting false false false false paralysed true ≡ 0
unfolding how_many how_many_pairs
none-idle true = refl
none-idle false = refl

free-confused : (paralysed : Bool) → acting false false true false paralysed false ≡ confusion_draws true * paralysis_draws paralysed
unfolding how_many how_many_pairs
free-confused true = refl
free-confused false = refl

free-clear : (paralysed : Bool) → acting false false false false paralysed false ≡ confusion_draws false * paralysis_draws paralysed
unfolding how_many how_many_pairs
free-clear true = refl
free-clear false = refl

pub pairs-many : (held out confused barred paralysed idle : Bool)
    → acting held out confused barred paralysed idle
    ≡ (if held || out || barred || idle then 0 else confusion_draws confused * paralysis_draws paralysed)
pairs-many true out confused barred paralysed idle = none-held out confused barred paralysed idle
pairs-many false true confused barred paralysed idle = none-out confused barred paralysed idle
pairs-many false false confused true paralysed idle = none-barred confused paralysed idle
pairs-many false false true false paralysed true = none-idle-confused paralysed
pairs-many false false false false paralysed true = none-idle paralysed
pairs-many false false true false paralysed false = free-confused paralysed
pairs-many false false false false paralysed false = free-clear paralysed

-- Sums over the damages so far, the ways to which draws lead, and what is known of one use.

pub sum_more : {X : Type 0} (f : X → ℕ) (xs : List X) (i : ℕ) (d : X) → i < length xs → sum_by f (take (i + 1) xs) ≡ sum_by f (take i xs) + f (get_or xs i d)
sum_more f xs i d below = ap (sum_by f) (take_more xs i d below) ∙ sum_by_push f (take i xs) (get_or xs i d)

pub range_more : (f : ℕ → ℕ) (a n : ℕ) → sum_by f (range_with_len a (n + 1)) ≡ sum_by f (range_with_len a n) + f (a + n)
range_more f a n =
    let more = map-range_with_len_more (λ (x : ℕ). x) a n (a + n) refl in
    ap (sum_by f) (sym (map-id (range_with_len a (n + 1))) ∙ more ∙ ap (λ (xs : List ℕ). xs ++ (a + n) ∷ []) (map-id (range_with_len a n)))
    ∙ sum_by_push f (range_with_len a n) (a + n)

-- Of mixed ways there are at most 256 times as many as of either.
pub parted : (draws rest one another most : ℕ) → draws + rest ≡ 256 → one ≤ most → another ≤ most → draws * one + rest * another ≤ 256 * most
parted draws rest one another most all first second =
    let a = mul-le draws one draws most (le_refl draws) first in
    let b = mul-le rest another rest most (le_refl rest) second in
    let e = ap (λ (n : ℕ). n * most) all in
    omega (arith, a, b, e)

-- One number more is known.

pub known_none : (ways : ℕ → ℕ) (most : ℕ) (known : List ℕ) → IsKnown ways most known 0
known_none ways most known need below = absurd (omega (arith, below))

pub known_more : (ways : ℕ → ℕ) (most : ℕ) (known : List ℕ) (filled new : ℕ) → filled < length known → IsKnown ways most known filled
    → new ≡ ways filled → new ≤ most → IsKnown ways most (slice_set known filled new) (filled + 1)
known_more ways most known filled new inside so_far is few need below =
    elim (cases_eq need filled) [
      | inl same ↦ (
        ap (λ (n : ℕ). get_or (slice_set known filled new) n 0) same ∙ get_or-set_same known filled new 0 inside ∙ is ∙ ap ways (sym same),
        subst (λ (n : ℕ). n ≤ most) (is ∙ ap ways (sym same)) few,
      )
      | inr other ↦
          let before = so_far need (omega (arith, below, other)) in
          (get_or-set_other known filled need new 0 other ∙ before.0, before.1)
    ]

-- Without a change of the HP two uses follow each other at once.

unchanged : (need : ℕ) → changed 0 no_change need ≡ need
unchanged zero = refl
unchanged (suc n) = grind arith

pub twice_unchanged : (after : (ℕ → ℕ) → ℕ → ℕ) (need : ℕ) → two_uses after 0 no_change need ≡ after (after over) need
twice_unchanged after need = ap (λ (next : ℕ → ℕ). after next need) (fun_ext (λ (n : ℕ). ap (after over) (unchanged n)))

-- The chances of uses in a row are those of the definition.

-- One use and two

module _ (r : Rules) (s : Side) (move : Move) (f : Field) where
  abbrev usual : Chances
  usual = usual_chances (traps move.effect) (hit_count move.effect) (odds_in r s move f) (needed_in (other s) f) (flag (has_substitute_in (other s) f))

  abbrev fixed : Bool → Odds → ℕ → ℕ → Chances
  fixed halves o need breaks = chances_of (after_fixed halves o) (256 * fixed_ways o) need breaks

  pub fixed_is : (o : Odds) (halves : Bool) (need breaks : ℕ) → deals_usual s move f ≡ false → o ≡ odds_in r s move f → halves ≡ halves_in s move f
      → need ≡ needed_in (other s) f → breaks ≡ flag (has_substitute_in (other s) f) → fixed halves o need breaks ≡ chances_in r s move f
  fixed_is o halves need breaks unusual same halving much covered =
      ap (λ (x : Odds). fixed halves x need breaks) same
      ∙ ap (λ (x : Bool). fixed x (odds_in r s move f) need breaks) halving
      ∙ ap (λ (x : ℕ). fixed (halves_in s move f) (odds_in r s move f) x breaks) much
      ∙ ap (λ (x : ℕ). fixed (halves_in s move f) (odds_in r s move f) (needed_in (other s) f) x) covered
      ∙ sym (ap (λ (x : Bool). if x then usual else fixed (halves_in s move f) (odds_in r s move f) (needed_in (other s) f) (flag (has_substitute_in (other s) f))) unusual)

  abbrev by_effect : Effect → Odds → ℕ → ℕ → Chances
  by_effect e o need breaks = usual_chances (traps e) (hit_count e) o need breaks

  pub usual_is : (e : Effect) (o : Odds) (need breaks : ℕ) → deals_usual s move f ≡ true → e ≡ move.effect → o ≡ odds_in r s move f
      → need ≡ needed_in (other s) f → breaks ≡ flag (has_substitute_in (other s) f) → by_effect e o need breaks ≡ chances_in r s move f
  usual_is e o need breaks deals effect same much covered =
      ap (λ (x : Effect). by_effect x o need breaks) effect
      ∙ ap (λ (x : Odds). by_effect move.effect x need breaks) same
      ∙ ap (λ (x : ℕ). by_effect move.effect (odds_in r s move f) x breaks) much
      ∙ ap (λ (x : ℕ). by_effect move.effect (odds_in r s move f) (needed_in (other s) f) x) covered
      ∙ sym (ap (λ (x : Bool). if x then usual else fixed (halves_in s move f) (odds_in r s move f) (needed_in (other s) f) (flag (has_substitute_in (other s) f))) deals)

-- Up to three

abbrev made : ℕ → ℕ → Between → ℕ → Target
made n m b x = record { need = n; most = m; between = b; breaks_substitute = x }

pub target_is : (s : Side) (between : Between) (f : Field) (n m : ℕ) (b : Between) (x : ℕ)
    → n ≡ needed_in s f → m ≡ (member_in s f).max → b ≡ between_in s between f → x ≡ flag (has_substitute_in s f)
    → made n m b x ≡ target_in s between f
target_is s between f n m b x need most changes breaks =
    ap (λ (it : ℕ). made it m b x) need
    ∙ ap (λ (it : ℕ). made (needed_in s f) it b x) most
    ∙ ap (λ (it : Between). made (needed_in s f) (member_in s f).max it x) changes
    ∙ ap (λ (it : ℕ). made (needed_in s f) (member_in s f).max (between_in s between f) it) breaks

module _ (between : Between) (r : Rules) (s : Side) (move : Move) (f : Field) where
  abbrev by_usual : Effect → Odds → Target → ThreeChances
  by_usual e o t = usual_three (traps e) (hit_count e) o t

  abbrev by_fixed : Bool → Odds → Target → ThreeChances
  by_fixed halves o t = three_of (after_fixed halves o) (256 * fixed_ways o) t

  abbrev due : Bool → ThreeChances
  due deals =
      if deals then by_usual move.effect (odds_in r s move f) (target_in (other s) between f)
      else by_fixed (halves_in s move f) (odds_in r s move f) (target_in (other s) between f)

  pub three_usual_is : (e : Effect) (o : Odds) (t : Target) → deals_usual s move f ≡ true → e ≡ move.effect → o ≡ odds_in r s move f
      → t ≡ target_in (other s) between f → by_usual e o t ≡ three_chances_in between r s move f
  three_usual_is e o t deals effect odds target =
      ap (λ (it : Effect). by_usual it o t) effect
      ∙ ap (λ (it : Odds). by_usual move.effect it t) odds
      ∙ ap (λ (it : Target). by_usual move.effect (odds_in r s move f) it) target
      ∙ sym (ap due deals)

  pub three_fixed_is : (o : Odds) (halves : Bool) (t : Target) → deals_usual s move f ≡ false → o ≡ odds_in r s move f → halves ≡ halves_in s move f
      → t ≡ target_in (other s) between f → by_fixed halves o t ≡ three_chances_in between r s move f
  three_fixed_is o halves t deals odds halving target =
      ap (λ (it : Odds). by_fixed halves it t) odds
      ∙ ap (λ (it : Bool). by_fixed it (odds_in r s move f) t) halving
      ∙ ap (λ (it : Target). by_fixed (halves_in s move f) (odds_in r s move f) it) target
      ∙ sym (ap due deals)

-- Moves with their own damage rule, by the draw of their hit test.

-- The last damage matters neither to the test nor to whether a move continues.

goes_on-apart : (s : Side) (move : Move) (n : ℕ) (f : Field) → goes_on_in s move (with_last_damage n f) ≡ goes_on_in s move f
unfolding with_last_damage
goes_on-apart One move n f = refl
goes_on-apart Two move n f = refl

misses-apart : (s : Side) (move : Move) (n : ℕ) (f : Field) (b : ℕ) → misses s move (with_last_damage n f) b ≡ misses s move f b
unfolding with_last_damage
misses-apart One move n f b = refl
misses-apart Two move n f b = refl

slower-apart : (s : Side) (n : ℕ) (f : Field) → is_slower_in s (with_last_damage n f) ≡ is_slower_in s f
unfolding with_last_damage
slower-apart One n f = refl
slower-apart Two n f = refl

immune-apart : (s : Side) (move : Move) (n : ℕ) (f : Field)
    → is_immune move.kind (active_in (other s) (with_last_damage n f)) ≡ is_immune move.kind (active_in (other s) f)
unfolding with_last_damage
immune-apart One move n f = refl
immune-apart Two move n f = refl

with_damage-acts : (s : Side) (move : Move) (n : ℕ) (p : Progress) → Acting s move p → Acting s move (set_last_damage n p)
unfolding set_last_damage on_field
with_damage-acts s move n p a = record {
  moves_on = a.moves_on;
  aims = a.aims;
  knows = a.knows ∙ sym (goes_on-apart s move n p.field);
}

critical-acts : (s t : Side) (move other_move : Move) (p : Progress) → Acting s move p → Acting s move (roll_critical t other_move p)
unfolding roll_critical draw critical_by given set_critical on_action
critical-acts s t move other_move p a = record { moves_on = a.moves_on; aims = a.aims; knows = a.knows }

-- Fixed damage

either : (test : Progress → Bool) (f k : Phase) (q : Progress) (m x : Bool) → test q ≡ x → has_missed (f q) ≡ m → has_missed (k q) ≡ m
    → has_missed (choose test f k q) ≡ m
either test f k q m true e a b = ap has_missed (choose-true test f k q e) ∙ a
either test f k q m false e a b = ap has_missed (choose-false test f k q e) ∙ b

-- Where a search for a damage ends, by the place that it found.
abbrev searching : Progress → Option ℕ → Progress
searching q o = elim o as (λ _. Progress) [
  | Some m ↦ set_last_damage (byte_at q.stream m) (record q { drawn = m + 1 })
  | None ↦ record q { drawn = q.drawn + span q.stream }
]

searched : (test : ℕ → Bool) (q : Progress) (o : Option ℕ) → first q.stream q.drawn test ≡ o → has_missed (draw_until test set_last_damage q) ≡ has_missed q
unfolding draw_until set_last_damage on_field
searched test q (Some m) e = ap (λ (o : Option ℕ). has_missed (searching q o)) e
searched test q None e = ap (λ (o : Option ℕ). has_missed (searching q o)) e

faulted : (n : ℕ) (q : Progress) → q.stopped ≡ false → has_missed (fault n q) ≡ has_missed q
unfolding fault on_field stop ◌▸◌ unless_stopped
faulted n q h = rw h refl

psywave-keeps : (level : ℕ) (q : Progress) → q.stopped ≡ false → has_missed (psywave level q) ≡ has_missed q
unfolding psywave
psywave-keeps level q h = either _ _ _ q (has_missed q) _ refl (faulted 2 q h) (searched _ q (first q.stream q.drawn _) refl)

deal-keeps : (s : Side) (n : ℕ) (q : Progress) → q.stopped ≡ false → has_missed (deal_fixed s n q) ≡ has_missed q
unfolding deal_fixed set_last_damage on_field given
deal-keeps s n q h =
    either _ _ _ q (has_missed q) _ refl refl
    (either _ _ _ q (has_missed q) _ refl refl
    (either _ _ _ q (has_missed q) _ refl (psywave-keeps _ q h)
    (either _ _ _ q (has_missed q) _ refl refl refl)))

dealt : (s : Side) (n : ℕ) (q : Progress) (x : Bool) → q.stopped ≡ false → has_missed q ≡ x → has_missed (unless has_missed (deal_fixed s n) q) ≡ x
unfolding stay
dealt s n q true h e = ap has_missed (choose-true has_missed stay (deal_fixed s n) q e) ∙ e
dealt s n q false h e = ap has_missed (choose-false has_missed stay (deal_fixed s n) q e) ∙ deal-keeps s n q h ∙ e

pub fixed_counts : FixedCounts
unfolding fixed_damage
fixed_counts s move p a =
    let goes = hit-goes s move p a.moves_on in
    ap has_missed (then-goes (hit_or_miss s move) (unless has_missed (deal_fixed s move.number)) p goes)
    ∙ dealt s move.number (hit_or_miss s move p) _ goes (hit-misses s move p a)

-- Counter

countered-by : (s : Side) (move : Move) (n : ℕ) (q : Progress) → Acting s move q
    → has_missed (counter_by s move n q) ≡ misses s move q.field (byte_at q.stream q.drawn)
unfolding counter_by set_last_damage on_field
countered-by s move n q a =
    ap has_missed (then-goes (set_last_damage (min 65535 (2 * n))) (hit_or_miss s move) q a.moves_on)
    ∙ hit-misses s move (set_last_damage (min 65535 (2 * n)) q) (with_damage-acts s move _ q a)
    ∙ misses-apart s move _ q.field (byte_at q.stream q.drawn)

countered-if : (s : Side) (move : Move) (q : Progress) (x : Bool) → Acting s move q → can_counter_in s q.field ≡ x
    → has_missed (choose (can_counter s) (given last_damage (counter_by s move)) (set_missed true) q)
    ≡ (not x || misses s move q.field (byte_at q.stream q.drawn))
unfolding given set_missed on_action
countered-if s move q true a e = ap has_missed (choose-true (can_counter s) (given last_damage (counter_by s move)) (set_missed true) q e) ∙ countered-by s move q.field.last_damage q a
countered-if s move q false a e = ap has_missed (choose-false (can_counter s) (given last_damage (counter_by s move)) (set_missed true) q e)

pub counter_counts : CounterCounts
unfolding counter roll_critical draw critical_by given set_critical on_action
counter_counts s move p a =
    ap has_missed (then-goes (roll_critical s move) (choose (can_counter s) (given last_damage (counter_by s move)) (set_missed true)) p a.moves_on)
    ∙ countered-if s move (roll_critical s move p) (can_counter_in s p.field) (critical-acts s s move move p a) refl

-- One-hit moves

-- After the last damage is 0 and the critical draw is taken.
abbrev begun : Side → Move → Progress → Progress
begun s move p = roll_critical s move (set_last_damage 0 p)

abbrev by_speed : Side → Move → Phase
by_speed s move = choose (is_slower s) (set_missed true) (knock_out_by_type s move ▸ hit_or_miss s move)

begun-acts : (s : Side) (move : Move) (p : Progress) → Acting s move p → Acting s move (begun s move p)
begun-acts s move p a = critical-acts s s move move (set_last_damage 0 p) (with_damage-acts s move 0 p a)

one_hit-is : (s : Side) (move : Move) (p : Progress) → Acting s move p → knock_out s move p ≡ by_speed s move (begun s move p)
unfolding knock_out
one_hit-is s move p a =
    let first = with_damage-acts s move 0 p a in
    then-goes (set_last_damage 0) (roll_critical s move ▸ by_speed s move) p first.moves_on
    ∙ then-goes (roll_critical s move) (by_speed s move) (set_last_damage 0 p) (begun-acts s move p a).moves_on

begun-field : (s : Side) (move : Move) (p : Progress) → (begun s move p).field ≡ with_last_damage 0 p.field
unfolding set_last_damage on_field roll_critical draw critical_by given set_critical on_action
begun-field s move p = refl

pub slower_misses : SlowerMisses
unfolding set_missed on_action
slower_misses s move p a slow =
    let is = ap (λ (f : Field). is_slower_in s f) (begun-field s move p) ∙ slower-apart s 0 p.field ∙ slow in
    ap has_missed (one_hit-is s move p a ∙ choose-true (is_slower s) (set_missed true) (knock_out_by_type s move ▸ hit_or_miss s move) (begun s move p) is)

by_type-misses : (s : Side) (move : Move) (q : Progress) → Acting s move q → is_immune move.kind (active (other s) q) ≡ true
    → has_missed ((knock_out_by_type s move ▸ hit_or_miss s move) q) ≡ true
unfolding knock_out_by_type set_missed on_action
by_type-misses s move q a immune =
    let is = choose-true (λ p. is_immune move.kind (active (other s) p)) (set_missed true) (draw_until is_factor deal_everything) q immune in
    ap has_missed (then-goes (knock_out_by_type s move) (hit_or_miss s move) q (ap (λ (r : Progress). r.stopped) is ∙ a.moves_on))
    ∙ ap (λ (r : Progress). has_missed (hit_or_miss s move r)) is
    ∙ hit-late s move (set_missed true q) a.moves_on refl

pub immune_misses : ImmuneMisses
unfolding set_missed on_action
immune_misses s move p a immune =
    let q = begun s move p in
    let is = ap (λ (f : Field). is_immune move.kind (active_in (other s) f)) (begun-field s move p) ∙ immune-apart s move 0 p.field ∙ immune in
    ap has_missed (one_hit-is s move p a)
    ∙ either (is_slower s) (set_missed true) (knock_out_by_type s move ▸ hit_or_miss s move) q true (is_slower s q) refl refl (by_type-misses s move q (begun-acts s move p a) is)

-- The same of a search for a factor that is not used.
abbrev ending : Progress → Option ℕ → Progress
ending q o = elim o as (λ _. Progress) [
  | Some m ↦ deal_everything (byte_at q.stream m) (record q { drawn = m + 1 })
  | None ↦ record q { drawn = q.drawn + span q.stream }
]

found : (test : ℕ → Bool) (q : Progress) (m : ℕ) → first q.stream q.drawn test ≡ Some m
    → draw_until test deal_everything q ≡ set_last_damage 65535 (record q { drawn = m + 1 })
unfolding draw_until deal_everything
found test q m e = ap (λ (o : Option ℕ). ending q o) e

by_type-counts : (s : Side) (move : Move) (q : Progress) (m : ℕ) → Acting s move q → is_immune move.kind (active (other s) q) ≡ false
    → first q.stream q.drawn is_factor ≡ Some m
    → has_missed ((knock_out_by_type s move ▸ hit_or_miss s move) q) ≡ misses s move q.field (byte_at q.stream (m + 1))
unfolding knock_out_by_type set_last_damage on_field
by_type-counts s move q m a open_to e =
    let there : Acting s move (record q { drawn = m + 1 }) = record { moves_on = a.moves_on; aims = a.aims; knows = a.knows } in
    let is = choose-false (λ p. is_immune move.kind (active (other s) p)) (set_missed true) (draw_until is_factor deal_everything) q open_to ∙ found is_factor q m e in
    ap has_missed (then-goes (knock_out_by_type s move) (hit_or_miss s move) q (ap (λ (r : Progress). r.stopped) is ∙ a.moves_on))
    ∙ ap (λ (r : Progress). has_missed (hit_or_miss s move r)) is
    ∙ hit-misses s move (set_last_damage 65535 (record q { drawn = m + 1 })) (with_damage-acts s move 65535 _ there)
    ∙ misses-apart s move 65535 q.field (byte_at q.stream (m + 1))

begun-draws : (s : Side) (move : Move) (p : Progress) (test : ℕ → Bool) → first (begun s move p).stream (begun s move p).drawn test ≡ first p.stream (p.drawn + 1) test
unfolding set_last_damage on_field roll_critical draw critical_by given set_critical on_action
begun-draws s move p test = refl

begun-misses : (s : Side) (move : Move) (p : Progress) (n : ℕ) → misses s move (begun s move p).field (byte_at (begun s move p).stream n) ≡ misses s move p.field (byte_at p.stream n)
unfolding set_last_damage on_field roll_critical draw critical_by given set_critical on_action
begun-misses s move p n = misses-apart s move 0 p.field (byte_at p.stream n)

pub one_hit_counts : OneHitCounts
one_hit_counts s move p m a fast open_to e =
    let q = begun s move p in
    let quick = ap (λ (f : Field). is_slower_in s f) (begun-field s move p) ∙ slower-apart s 0 p.field ∙ fast in
    let harmed = ap (λ (f : Field). is_immune move.kind (active_in (other s) f)) (begun-field s move p) ∙ immune-apart s move 0 p.field ∙ open_to in
    ap has_missed (one_hit-is s move p a ∙ choose-false (is_slower s) (set_missed true) (knock_out_by_type s move ▸ hit_or_miss s move) q quick)
    ∙ by_type-counts s move q m (begun-acts s move p a) harmed (begun-draws s move p is_factor ∙ e)
    ∙ begun-misses s move p (m + 1)
