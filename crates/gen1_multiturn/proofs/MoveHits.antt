-- The hits of a move, by its effect: how many, the damage of moves of fixed damage, and the type rows that apply.
use Rattle.std.proofs.Common.{◌≡◌, ◌==◌, ◌≢◌, All, if◌then◌else◌, ◌≤◌, count_by, eqb-true, ◌∷◌}
use Rattle.gen1_layout.proofs.Words.{ActiveConditions, Phase, Side, ap, arith, false, refl, stay, suc, true, zero, ℕ, ◌▸◌, Progress, choose, choose-false, choose-true, given, nat_le, nat_tests, ◌∙◌, Bool, List, None, Some, length, lit≤, [], active_in, sym}
use Rattle.gen1_tables.specs.declared.effect.Effect.{Effect}
use Rattle.gen1_machine.specs.Conditions.{with_rage, without_seed}
use Rattle.gen1_machine.specs.HitEffects.{drain, explode, hit_effect, plan_hits, recoil, set_planned, start_rage}
use Rattle.gen1_machine.specs.ManyHits.{hit_again, hit_once, hits_end}
use Rattle.gen1_tables.specs.Effects.{hits_more, knocks_out}
use Rattle.gen1_machine.specs.Moves.{Move, dragon_rage, psywave_move, sonic_boom, super_fang}
use Rattle.gen1_machine.specs.Progress.{unless, draw_until, fault, member, set_last_damage}
use Rattle.gen1_layout.specs.Words.{SameNumbers}
use Rattle.gen1_multiturn.specs.declared.move_hits.hit_effects.Consequence.{Consequence}
use Rattle.gen1_multiturn.specs.MoveHits.{consequence_of, is_multi_hit, how_many, is_neutral}
use Rattle.gen1_machine.specs.FixedDamage.{deal_fixed, half_hp, is_psywave, psywave}
use Rattle.gen1_machine.specs.Sides.{other}
use Rattle.gen1_stats.specs.declared.member.KnownMove.{KnownMove}
use Rattle.gen1_stats.specs.Members.{IsBetween}
use Rattle.gen1_machine.specs.declared.side.UsedMove.{UsedMove}
use Rattle.gen1_machine.specs.declared.side.UsedMove.TheVariants.{Nothing, Slot, Struggle}
use Rattle.gen1_machine.specs.Picks.{number_in}
use Rattle.gen1_machine.specs.Valid.{IsUsedMove}
use Rattle.gen1_hits.proofs.Planning.{slot-number}
use Rattle.std.proofs.lemmas.Bool.{and_parts}
use Rattle.gen1_tables.specs.declared.types.Element.{Element}
use Rattle.gen1_tables.specs.Types.{TypeRow, rows_against, tenths_of}
use Rattle.gen1_machine.specs.Damage.{numbers, numbers_in, rows_of}
use Rattle.gen1_tables.specs.declared.effect.Effect.TheVariants as effects
use Rattle.gen1_multiturn.specs.declared.move_hits.hit_effects.Consequence.TheVariants as consequences

-- By the effect

pub plain-hit : (e : Effect) → hits_more e ≡ true → knocks_out e ≡ false
plain-hit effects.MultiHit h = refl
plain-hit effects.DoubleHit h = refl
plain-hit effects.Twineedle h = refl
plain-hit _ h = cc

pub planned-two : (s : Side) (move : Move) (e : Effect) → hits_more e ≡ true → is_multi_hit e ≡ false → hit_effect s move e ≡ set_planned 2
unfolding hit_effect
planned-two s move effects.MultiHit h k = cc
planned-two s move effects.DoubleHit h k = refl
planned-two s move effects.Twineedle h k = refl
planned-two s move _ h k = cc

pub planned-many : (s : Side) (move : Move) (e : Effect) → is_multi_hit e ≡ true → hit_effect s move e ≡ plan_hits
unfolding hit_effect
planned-many s move effects.MultiHit k = refl
planned-many s move _ k = cc

abbrev pub phase_of : Side → Move → Consequence → Phase
phase_of s move consequences.Recoil = recoil s move
phase_of s move consequences.Drain = drain s
phase_of s move consequences.Rage = start_rage s
phase_of s move consequences.Explosion = explode s
phase_of s move consequences.Nothing = stay

pub hit_effect-by : (s : Side) (move : Move) (e : Effect) (x : Consequence) → hits_more e ≡ false → consequence_of e ≡ x → hit_effect s move e ≡ phase_of s move x
unfolding hit_effect
hit_effect-by s move effects.MultiHit x h k = cc
hit_effect-by s move effects.DoubleHit x h k = cc
hit_effect-by s move effects.Twineedle x h k = cc
hit_effect-by s move effects.Recoil x h k = ap (phase_of s move) k
hit_effect-by s move effects.Drain x h k = ap (phase_of s move) k
hit_effect-by s move effects.DreamEater x h k = ap (phase_of s move) k
hit_effect-by s move effects.Rage x h k = ap (phase_of s move) k
hit_effect-by s move effects.Explode x h k = ap (phase_of s move) k
hit_effect-by s move _ x h k = ap (phase_of s move) k

-- This many more hits

pub again-none : (n : ℕ) (s : Side) (move : Move) → n ≡ 0 → hit_again n s move ≡ stay
unfolding hit_again
again-none zero s move e = refl
again-none (suc n) s move e = absurd (omega arith)

pub again-more : (n m : ℕ) (s : Side) (move : Move) → n ≡ suc m → hit_again n s move ≡ unless (hits_end s) (hit_once s move ▸ hit_again m s move)
unfolding hit_again
again-more n m s move e = ap (λ (k : ℕ). hit_again k s move) e

-- Setting or clearing a condition without a number keeps all numbers

pub raging-same : (c : ActiveConditions) → SameNumbers (with_rage c) c
unfolding with_rage
raging-same c = record { bide = refl; thrash = refl; trapping = refl; confused = refl; substitute = refl; bad_poison = refl; disabled = refl }

pub seedless-same : (c : ActiveConditions) → SameNumbers (without_seed c) c
unfolding without_seed
seedless-same c = record { bide = refl; thrash = refl; trapping = refl; confused = refl; substitute = refl; bad_poison = refl; disabled = refl }

-- The damage of a move of fixed damage, by its number.

unlike : (a b : ℕ) → a ≢ b → (a == b) ≡ false
unlike a b differ = grind (arith, nat_tests)

module _ (s : Side) (move : ℕ) (p : Progress) where
  pub booms : move ≡ sonic_boom → deal_fixed s move p ≡ set_last_damage 20 p
  unfolding deal_fixed choose
  booms e = rw e refl

  pub rages : move ≡ dragon_rage → deal_fixed s move p ≡ set_last_damage 40 p
  unfolding deal_fixed choose
  rages e = rw e refl

  pub waves : move ≡ psywave_move → deal_fixed s move p ≡ psywave (member s p).level p
  unfolding deal_fixed choose given
  waves e = rw e refl

  pub bites : move ≡ super_fang → deal_fixed s move p ≡ set_last_damage (half_hp (member (other s) p)) p
  unfolding deal_fixed choose given
  bites e = rw e refl

  pub deals_level : move ≢ sonic_boom → move ≢ dragon_rage → move ≢ psywave_move → move ≢ super_fang → deal_fixed s move p ≡ set_last_damage (member s p).level p
  unfolding deal_fixed given
  deals_level a b c d =
      choose-false _ _ _ p (unlike move _ a) ∙ choose-false _ _ _ p (unlike move _ b) ∙ choose-false _ _ _ p (unlike move _ c)
      ∙ choose-false _ _ _ p (unlike move _ d)

-- Psywave

pub at_level_one : (level : ℕ) (p : Progress) → nat_le level 1 ≡ true → psywave level p ≡ fault 2 p
unfolding psywave
at_level_one level p e = choose-true _ _ _ p e

pub above_level_one : (level : ℕ) (p : Progress) → nat_le level 1 ≡ false → psywave level p ≡ draw_until (is_psywave level) set_last_damage p
unfolding psywave
above_level_one level p e = choose-false _ _ _ p e

-- A value that exists if a test passes, and the number of a picked move.

pub missed-if : (b : Bool) (x : ℕ) → (if b then Some x else None) ≡ None → b ≡ false
missed-if false x e = refl
missed-if true x e = cc

pub dealt-if : (b : Bool) (x damage : ℕ) → (if b then Some x else None) ≡ Some damage → (b ≡ true) × (x ≡ damage)
dealt-if false x damage e = cc
dealt-if true x damage e = (refl, cc)

pub number-small : (used : UsedMove) (moves : List KnownMove) → All (λ (m : KnownMove). IsBetween 1 165 m.id) moves → IsUsedMove (length moves) used → number_in used moves ≤ 165
number-small (Slot k) moves all fits = (slot-number moves k all fits).1
number-small Struggle moves all fits = lit≤ tt
number-small Nothing moves all fits = lit≤ tt

-- How many type rows with a given factor apply to a hit: as many as there are among the factors of the foe's types.

-- A critical hit has the same types.
rows-are : (tenths : ℕ) (s : Side) (move : Move) (p : Progress)
    → rows_of tenths (numbers s move p)
    ≡ count_by (λ (row : TypeRow). row.tenths == tenths) (rows_against move.kind (active_in (other s) p.field).first_type (active_in (other s) p.field).second_type)
rows-are tenths s move p =
    elim p.action.critical as (λ b. rows_of tenths (numbers_in s move b p.field)
    ≡ count_by (λ (row : TypeRow). row.tenths == tenths) (rows_against move.kind (active_in (other s) p.field).first_type (active_in (other s) p.field).second_type)) [ true ↦ refl | false ↦ refl ]

-- At most two rows apply. A factor of 10 represents a missing row.
among_two : (tenths : ℕ) (rows : List TypeRow) (two : ℕ × ℕ) → two ≡ tenths_of rows → length rows ≤ 2 → (10 == tenths) ≡ false
    → count_by (λ (row : TypeRow). row.tenths == tenths) rows ≡ how_many tenths two
among_two tenths [] two is few no_ten = rw (is, no_ten) refl
among_two tenths (a ∷ []) two is few no_ten = rw (is, no_ten) (omega arith)
among_two tenths (a ∷ b ∷ []) two is few no_ten = rw is (omega arith)
among_two tenths (a ∷ b ∷ c ∷ rows) two is few no_ten = absurd (omega arith)

-- What the code counts, from what it read.
pub counted : (tenths : ℕ) (s : Side) (move : Move) (p : Progress) {n : ℕ} {two : ℕ × ℕ} {t u v : Element} → t ≡ move.kind → u ≡ (active_in (other s) p.field).first_type
    → v ≡ (active_in (other s) p.field).second_type → two ≡ tenths_of (rows_against t u v) → length (rows_against t u v) ≤ 2 → (10 == tenths) ≡ false
    → n ≡ how_many tenths two → rows_of tenths (numbers s move p) ≡ n
counted tenths s move p {two = two} kind first second is few no_ten n_is =
    rows-are tenths s move p ∙ among_two tenths _ two (rw (kind, first, second) at is) (rw (kind, first, second) at few) no_ten ∙ sym n_is

pub none_counted : (tenths : ℕ) (two : ℕ × ℕ) → is_neutral two ≡ true → (10 == tenths) ≡ false → how_many tenths two ≡ 0
none_counted tenths two neutral no_ten =
    let parts = and_parts _ _ neutral in
    rw (eqb-true two.0 10 parts.0, eqb-true two.1 10 parts.1, no_ten) refl
