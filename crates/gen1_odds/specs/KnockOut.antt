-- The chance that one use knocks out the foe, or two or three in a row, for independent draws. A chance is a number of ways
-- out of all of them. A use has 256 draws of the hit test. For the usual damage these come with 256 critical draws, 39
-- factors and 8 cases of the number of hits.
use Rattle.std.specs.Prelude.{Bool, List, None, Option, Some, get_or, if◌then◌else◌, max, min, not, replicate, suc, sum_by, zero, ℕ, ◌%◌, ◌&&◌, ◌*◌, ◌+◌, ◌-◌, ◌/◌, ◌<◌, ◌==◌, ◌≡◌, ◌≤◌}
use Rattle.std.specs.List.{range_with_len}
use Rattle.gen1_tables.specs.Effects.{traps}
use Rattle.gen1_machine.specs.declared.side.Side.{Side}
use Rattle.gen1_machine.specs.Moves.{super_fang, Move}
use Rattle.gen1_machine.specs.Rules.{Rules}
use Rattle.gen1_machine.specs.Sides.{other}
use Rattle.gen1_machine.specs.State.{conditions_in, member_in, Field}
use Rattle.gen1_odds.specs.declared.odds.HitCount.{HitCount}
use Rattle.gen1_odds.specs.declared.odds.HitCount.TheVariants.{Once, Several, Twice}
use Rattle.gen1_odds.specs.declared.fixed_uses.Fixed.{Fixed}
use Rattle.gen1_odds.specs.declared.knock_outs.Between.{Between}
use Rattle.gen1_odds.specs.declared.knock_outs.Chances.{Chances}
use Rattle.gen1_odds.specs.declared.knock_outs.Target.{Target}
use Rattle.gen1_odds.specs.declared.knock_outs.ThreeChances.{ThreeChances}
use Rattle.gen1_odds.specs.declared.usual_uses.Usual.{Usual}
use Rattle.gen1_odds.specs.declared.knock_outs.HpChange.{HpChange}
use Rattle.gen1_odds.specs.declared.knock_outs.Wide.{Wide}
use Rattle.gen1_odds.specs.declared.odds.Odds.{Odds}
use Rattle.gen1_odds.specs.Odds.{deals_usual, flag, hit_count, odds_in}
use Rattle.gen1_odds.specs.Trials.{has_substitute_in}

-- The damage that is needed: all HP, or one more than the substitute has.

abbrev pub needed : Option ℕ → ℕ → ℕ
needed (Some substitute) hp = substitute + 1
needed None hp = hp

abbrev pub needed_in : Side → Field → ℕ
needed_in s f = needed (conditions_in s f).substitute (member_in s f).hp

-- The one way in which nothing is needed any more.
abbrev pub over : ℕ → ℕ
over zero = 1
over (suc left) = 0

-- Of 256 draws some lead one way, and the others another.
abbrev pub mixed : ℕ → ℕ → ℕ → ℕ
mixed draws one another = draws * one + (256 - draws) * another

-- Ways from here, where `next` gives those from the damage that is then needed

-- After a number of hits of the same damage, over all damages.
abbrev pub after_hits : List ℕ → ℕ → (ℕ → ℕ) → ℕ → ℕ
after_hits list hits next need = sum_by (λ damage. next (need - hits * damage)) list

-- After hits that may be critical.
abbrev pub after_either : Odds → ℕ → (ℕ → ℕ) → ℕ → ℕ
after_either o hits next need =
    mixed o.critical_draws (after_hits o.critical.numbers hits next need) (after_hits o.usual.numbers hits next need)

-- After a number of hits that may vary, by what each number leads to.
abbrev pub by_count : HitCount → (ℕ → ℕ) → ℕ
by_count Once at = 8 * at 1
by_count Twice at = 8 * at 2
by_count Several at = 3 * at 2 + 3 * at 3 + at 4 + at 5

-- After a use, which may miss.
abbrev pub after_usual : HitCount → Odds → (ℕ → ℕ) → ℕ → ℕ
after_usual count o next need =
    mixed o.hit_draws (by_count count λ hits. after_either o hits next need) (79872 * next need)

-- Damage by its own rule: each number from the least to the most

-- Super Fang takes half of the HP that are left.
abbrev pub taken : Bool → ℕ → ℕ → ℕ
taken halves need damage = if halves then max 1 (need / 2) else damage

abbrev pub fixed_ways : Odds → ℕ
fixed_ways o = o.most + 1 - o.least

abbrev pub after_fixed : Bool → Odds → (ℕ → ℕ) → ℕ → ℕ
after_fixed halves o next need =
    mixed o.hit_draws
    (sum_by (λ damage. next (need - taken halves need damage)) (range_with_len o.least (fixed_ways o)))
    (fixed_ways o * next need)

-- Uses in a row

-- Between two uses a foe with HP gains some, up to its most, and then loses some.
abbrev pub changed : ℕ → HpChange → ℕ → ℕ
changed most change zero = 0
changed most change (suc left) = max (suc left) (min most (suc left + change.gained)) - change.lost

abbrev pub no_change : HpChange
no_change = record { gained = 0; lost = 0 }

-- Ways from the damage that is needed before a change of the HP.
abbrev pub after_change : ℕ → HpChange → (ℕ → ℕ) → ℕ → ℕ
after_change most change next need = next (changed most change need)

abbrev pub two_uses : ((ℕ → ℕ) → ℕ → ℕ) → ℕ → HpChange → ℕ → ℕ
two_uses after most change = after (after_change most change (after over))

abbrev pub three_uses : ((ℕ → ℕ) → ℕ → ℕ) → ℕ → Between → ℕ → ℕ
three_uses after most between = after (after_change most between.after_first (two_uses after most between.after_second))

-- Trapping: a use that hits continues. The next deals the same damage again, in each of its ways.

-- Over the damages of a hit that may be critical, with what is then needed.
abbrev pub after_each : Odds → (ℕ → ℕ → ℕ) → ℕ → ℕ
after_each o next need =
    mixed o.critical_draws
    (sum_by (λ damage. next damage (need - damage)) o.critical.numbers)
    (sum_by (λ damage. next damage (need - damage)) o.usual.numbers)

-- What is needed after a change of the HP, and the same damage again.
abbrev pub again : ℕ → HpChange → ℕ → ℕ → ℕ
again most change damage need = changed most change need - damage

abbrev pub two_trapping : Odds → ℕ → HpChange → ℕ → ℕ
two_trapping o most change need =
    mixed o.hit_draws
    (8 * after_each o (λ damage left. 20447232 * over (again most change damage left)) need)
    (79872 * after_usual Once o over (changed most change need))

-- The third use continues too with 5 chances of 8, and is otherwise a new one.
abbrev pub third_trapping : Odds → ℕ → HpChange → ℕ → ℕ → ℕ
third_trapping o most change damage need =
    5 * (20447232 * over (again most change damage need)) + 3 * after_usual Once o over (changed most change need)

abbrev pub three_trapping : Odds → ℕ → Between → ℕ → ℕ
three_trapping o most between need =
    mixed o.hit_draws
    (after_each o (λ damage left. 20447232 * third_trapping o most between.after_second damage (again most between.after_first damage left)) need)
    (79872 * two_trapping o most between.after_second (changed most between.after_first need))

-- The whole

abbrev pub chances_of : ((ℕ → ℕ) → ℕ → ℕ) → ℕ → ℕ → ℕ → Chances
chances_of after ways need breaks = record {
  once = after over need;
  once_of = ways;
  twice = after (after over) need;
  twice_of = ways * ways;
  breaks_substitute = breaks;
  zeros = replicate 7 0;
}

-- Two uses of a trapping move in a row.
abbrev pub usual_chances : Bool → HitCount → Odds → ℕ → ℕ → Chances
usual_chances traps count o need breaks = record (chances_of (after_usual count o) 20447232 need breaks) {
  twice = if traps then two_trapping o 0 no_change need else after_usual count o (after_usual count o over) need;
}

-- Super Fang doesn't halve a substitute.
abbrev pub halves_in : Side → Move → Field → Bool
halves_in s move f = move.number == super_fang && not (has_substitute_in (other s) f)

abbrev pub chances_in : Rules → Side → Move → Field → Chances
chances_in r s move f =
    if deals_usual s move f
    then usual_chances (traps move.effect) (hit_count move.effect) (odds_in r s move f) (needed_in (other s) f) (flag (has_substitute_in (other s) f))
    else chances_of (after_fixed (halves_in s move f) (odds_in r s move f)) (256 * fixed_ways (odds_in r s move f))
    (needed_in (other s) f) (flag (has_substitute_in (other s) f))

-- A number of 128 bits in two words.
abbrev pub in_words : ℕ → Wide
in_words n = record { low = n % 18446744073709551616; high = n / 18446744073709551616 }

abbrev pub three_of : ((ℕ → ℕ) → ℕ → ℕ) → ℕ → Target → ThreeChances
three_of after ways target = record {
  once = after over target.need;
  once_of = ways;
  twice = two_uses after target.most target.between.after_first target.need;
  twice_of = ways * ways;
  thrice = in_words (three_uses after target.most target.between target.need);
  thrice_of = in_words (ways * ways * ways);
  breaks_substitute = target.breaks_substitute;
  zeros = replicate 7 0;
}

abbrev pub usual_three : Bool → HitCount → Odds → Target → ThreeChances
usual_three traps count o target = record (three_of (after_usual count o) 20447232 target) {
  twice =
      if traps then two_trapping o target.most target.between.after_first target.need
      else two_uses (after_usual count o) target.most target.between.after_first target.need;
  thrice = in_words (
      if traps then three_trapping o target.most target.between target.need
      else three_uses (after_usual count o) target.most target.between target.need
      );
}

-- Of any bytes, valid or not: a flag, and zeros after it. The ways of two uses are those of one, twice over.

pub record AreChances (c : Chances) : Type 0 where
  pub square : c.twice_of ≡ c.once_of * c.once_of
  pub flag : c.breaks_substitute ≤ 1
  pub zeros : c.zeros ≡ replicate 7 0

pub record AreThree (c : ThreeChances) : Type 0 where
  pub square : c.twice_of ≡ c.once_of * c.once_of
  pub cube : c.thrice_of ≡ in_words (c.once_of * c.once_of * c.once_of)
  pub flag : c.breaks_substitute ≤ 1
  pub zeros : c.zeros ≡ replicate 7 0

-- Nothing changes the HP of a substitute between uses.
abbrev pub between_in : Side → Between → Field → Between
between_in s between f = if has_substitute_in s f then record { after_first = no_change; after_second = no_change } else between

abbrev pub target_in : Side → Between → Field → Target
target_in s between f = record {
  need = needed_in s f;
  most = (member_in s f).max;
  between = between_in s between f;
  breaks_substitute = flag (has_substitute_in s f);
}

abbrev pub three_chances_in : Between → Rules → Side → Move → Field → ThreeChances
three_chances_in between r s move f =
    let o = odds_in r s move f in
    let target = target_in (other s) between f in
    if deals_usual s move f then usual_three (traps move.effect) (hit_count move.effect) o target
    else three_of (after_fixed (halves_in s move f) o) (256 * fixed_ways o) target

-- What the code knows of one use

abbrev pub after_use : Usual → (ℕ → ℕ) → ℕ → ℕ
after_use u = after_usual u.count u.odds

abbrev pub after_fixed_use : Fixed → (ℕ → ℕ) → ℕ → ℕ
after_fixed_use u = after_fixed u.halves u.odds

-- The ways for each number below a bound, none of which are more than the most.
abbrev pub IsKnown : (ℕ → ℕ) → ℕ → List ℕ → ℕ → Type 0
IsKnown ways most known filled = (need : ℕ) → need < filled → (get_or known need 0 ≡ ways need) × (ways need ≤ most)

abbrev pub KnowsOnce : Usual → Type 0
KnowsOnce u = IsKnown (after_use u over) 20447232 u.known u.filled

abbrev pub KnowsOnceFixed : Fixed → Type 0
KnowsOnceFixed u = IsKnown (after_fixed_use u over) 16777216 u.known u.filled
