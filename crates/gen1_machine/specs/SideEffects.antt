-- What a move may do in addition to its damage (docs/MECHANICS.md, "Side effects").
use Rattle.std.specs.Prelude.{Bool, List, is_some, length, nat_lt, not, sum_by, ℕ, ◌&&◌, ◌+◌, ◌||◌}
use Rattle.gen1_tables.specs.declared.types.Element.TheVariants.{Poison, Fire}
use Rattle.gen1_tables.specs.declared.effect.Effect.{Effect}
use Rattle.gen1_tables.specs.declared.effect.Effect.TheVariants as effects
use Rattle.gen1_stats.specs.declared.member.KnownMove.{KnownMove}
use Rattle.gen1_stats.specs.declared.member.Status.TheVariants.{Poisoned, Burned, Paralysed}
use Rattle.gen1_machine.specs.declared.side.Side.{Side}
use Rattle.gen1_machine.specs.declared.event.Kind.TheVariants as kinds
use Rattle.gen1_machine.specs.declared.event.Volatile.TheVariants as volatiles
use Rattle.gen1_machine.specs.declared.event.Event.TheVariants as events
use Rattle.gen1_tables.specs.Types.{same_type}
use Rattle.gen1_rolls.specs.Streams.{low_bits}
use Rattle.gen1_stats.specs.Members.{is_frozen}
use Rattle.gen1_stats.specs.Stats.{stat}
use Rattle.gen1_machine.specs.Sides.{other}
use Rattle.gen1_machine.specs.Conditions.{with_recharge, without_recharge, with_flinch, with_disabled}
use Rattle.gen1_machine.specs.State.{who_in, changed_conditions, known_in}
use Rattle.gen1_machine.specs.Moves.{Move}
use Rattle.gen1_machine.specs.Progress.{Phase, stay, ◌▸◌, choose, when, unless, given, draw, draw_until, told, on_conditions, starts, conditions, member, status_of, has_status, has_substitute, is_confused, is_of, fails_if, inflict, cure}
use Rattle.gen1_machine.specs.HitTest.{must_hit}
use Rattle.gen1_machine.specs.StageShift.{lower_stage}
use Rattle.gen1_machine.specs.Ruling.{Ruling}
use Rattle.gen1_machine.specs.EarlyEffects.{confuse}

-- An effect by chance happens if a draw is below a number.

unfoldable pub happens_below : ℕ → Phase → ℕ → Phase
happens_below bound f b = choose (λ _. nat_lt b bound) f stay

unfoldable pub by_chance : ℕ → Phase → Phase
by_chance bound f = draw (happens_below bound f)

-- A Fire move thaws a frozen foe.
unfoldable pub thaw : Side → Move → Phase
thaw s move =
    when (λ p. same_type move.kind Fire && is_frozen (status_of (other s) p)) (cure (other s) kinds.Freeze)

-- A burn, a freeze or paralysis. Nothing is drawn if the foe has a status, or has the move's type.
unfoldable pub may_inflict : Side → Move → ℕ → Phase → Phase
may_inflict s move bound f =
    choose (has_status (other s)) (thaw s move) (unless (is_of (other s) move.kind) (by_chance bound f))

-- Poison. Nothing is drawn if the foe has a status, or is a Poison type.
unfoldable pub may_poison : Side → ℕ → Phase
may_poison s bound =
    unless (λ p. has_status (other s) p || is_of (other s) Poison p)
    (by_chance bound (inflict (other s) Poisoned kinds.Poison))

-- Confusion. The draw comes before the tests.
unfoldable pub may_confuse : Side → ℕ → Phase
may_confuse s bound = by_chance bound (unless (is_confused (other s)) (confuse (other s)))

-- A foe that flinches also loses its recharging.
unfoldable pub flinch : Side → Phase
flinch s = on_conditions s with_flinch ▸ on_conditions s without_recharge

-- A substitute of the foe keeps these effects away.
unfoldable pub kept_away_effect : Ruling → Side → Move → Effect → Phase
kept_away_effect r s move (effects.PoisonChance n) = may_poison s n
kept_away_effect r s move effects.Twineedle = may_poison s 52
kept_away_effect r s move (effects.BurnChance n) = may_inflict s move n (inflict (other s) Burned kinds.Burn)
kept_away_effect r s move effects.FreezeChance = may_inflict s move 26 (r.freezes s)
kept_away_effect r s move (effects.ParalysisChance n) = may_inflict s move n (inflict (other s) Paralysed kinds.Paralysis)
kept_away_effect r s move (effects.FlinchChance n) = by_chance n (flinch (other s))
kept_away_effect r s move (effects.StatDownChance stat) = by_chance 85 (lower_stage s (other s) stat 1 stay)
kept_away_effect r s move _ = stay

-- Disable draws a slot, and then a number of turns.

abbrev pub has_pp : List KnownMove → Bool
has_pp moves = nat_lt 0 (sum_by (λ (k : KnownMove). k.pp) moves)

-- A drawn slot has to hold a move. If any move has PP, that move must have PP.
abbrev pub names_slot : List KnownMove → ℕ → Bool
names_slot moves b =
    nat_lt (low_bits 2 b) (length moves) && (not (has_pp moves) || nat_lt 0 (known_in (low_bits 2 b + 1) moves).pp)

unfoldable pub disable_for : Side → ℕ → ℕ → Phase
disable_for s b c = starts s volatiles.Disable (with_disabled (low_bits 2 b + 1) (low_bits 3 c + 1))

-- If no move has PP, Disable fails between the two draws.
unfoldable pub disable_slot : Side → List KnownMove → ℕ → Phase
disable_slot s moves b = fails_if s (λ _. not (has_pp moves)) ▸ draw (disable_for (other s) b)

unfoldable pub disable : Side → Move → Phase
disable s move =
    must_hit s move ▸ fails_if s (λ p. is_some (conditions (other s) p).disabled)
    ▸ given (λ p. (member (other s) p).moves) λ moves. draw_until (names_slot moves) (disable_slot s moves)

-- The user has to recharge next turn.
unfoldable pub must_recharge : Side → Phase
must_recharge s = told (changed_conditions s with_recharge) λ f. events.MustRecharge (who_in s f)

-- By the effect of the move.
unfoldable pub side_effect : Ruling → Side → Move → Effect → Phase
side_effect r s move (effects.ConfusionChance n) = may_confuse s n
side_effect r s move effects.Disable = disable s move
side_effect r s move effects.Recharge = must_recharge s
side_effect r s move e = unless (has_substitute (other s)) (kept_away_effect r s move e)
