-- The hits of a move: how many it plans, what follows each, the damage of Counter and of moves of fixed damage, and how
-- effective a hit is (docs/MECHANICS.md, "Many hits", "Counter", "Fixed damage and one-hit moves").
use Rattle.std.specs.Prelude.{Bool, false, true, ◌≡◌, if◌then◌else◌, ℕ, ◌&&◌, ◌+◌, ◌==◌, None, Option, Some, min, nat_lt, ◌*◌}
use Rattle.gen1_tables.specs.declared.effect.Effect.{Effect}
use Rattle.gen1_machine.specs.Valid.{IsCount}
use Rattle.gen1_hits.specs.declared.known.Known.{Known}
use Rattle.gen1_multiturn.specs.declared.move_hits.hit_effects.Consequence.{Consequence}
use Rattle.gen1_multiturn.specs.declared.move_hits.hit_effects.Consequence.TheVariants.{Drain, Explosion, Nothing, Rage, Recoil}
use Rattle.gen1_layout.specs.Words.{Event, Frame, List, Phase, Progress, ShowsDrawn, Told}
use Rattle.gen1_rolls.specs.Draws.{Drawing, Ref, Since}
use Rattle.gen1_machine.specs.GoingOn.{draw_count}
use Rattle.gen1_layout.specs.Parts.{Parts}
use Rattle.gen1_machine.specs.declared.side.Side.{Side}
use Rattle.gen1_machine.specs.Counter.{can_be_countered}
use Rattle.gen1_machine.specs.Moves.{move_at}
use Rattle.gen1_machine.specs.Picks.{picked_move_in}
use Rattle.gen1_machine.specs.Sides.{other}
use Rattle.gen1_machine.specs.State.{Field}
use Rattle.gen1_machine.specs.Progress.{fault, set_last_damage}
use Rattle.gen1_tables.specs.declared.effect.Effect.TheVariants as effects

abbrev pub is_multi_hit : Effect → Bool
is_multi_hit effects.MultiHit = true
is_multi_hit _ = false

-- Two to five hits are planned, or none yet.
abbrev pub IsFew : Known → Type 0
IsFew k = IsCount 2 5 k.hits_planned

-- What follows the hit of a move that makes one.
abbrev pub consequence_of : Effect → Consequence
consequence_of effects.Recoil = Recoil
consequence_of effects.Drain = Drain
consequence_of effects.DreamEater = Drain
consequence_of effects.Rage = Rage
consequence_of effects.Explode = Explosion
consequence_of _ = Nothing

-- Drawing how many times a move hits or holds (docs/MECHANICS.md, "Many hits", "Going on").

-- A count was drawn. Nothing changes but the draws, and any phase that follows in the machine gets this count.
abbrev pub DrawsCount : {A : Type 0} → Drawing A → Ref A → ℕ → Type 0
DrawsCount d random result =
    (since : Since d random.exit.now) (g : Frame) (parts : Parts) (events : List Event) (p : Progress) → ShowsDrawn d since.source g parts (Told events) random.entry.now false p
    → (n : ℕ) × ShowsDrawn d since.source g parts (Told events) random.exit.now false (record p { drawn = n })
    × ((f : ℕ → Phase) → draw_count f p ≡ f result (record p { drawn = n }))

-- How many of the factors of a foe's two types have a given value (docs/MECHANICS.md, "Types").

abbrev pub as_number : Bool → ℕ
as_number b = if b then 1 else 0

abbrev pub how_many : ℕ → ℕ × ℕ → ℕ
how_many tenths two = as_number (two.0 == tenths) + as_number (two.1 == tenths)

-- Neither type changes the damage.
abbrev pub is_neutral : ℕ × ℕ → Bool
is_neutral two = two.0 == 10 && two.1 == 10

-- The damage of Counter before its hit test, from a field (docs/MECHANICS.md, "Counter").

abbrev pub can_counter_in : Side → Field → Bool
can_counter_in s f = can_be_countered (move_at (picked_move_in (other s) f)) && nat_lt 0 f.last_damage

-- Twice the last damage, or none if Counter misses.
abbrev pub countered : Side → Field → Option ℕ
countered s f = if can_counter_in s f then Some (min 65535 (2 * f.last_damage)) else None

-- The damage of a move of fixed damage, as a result of a call. No damage means the fault of Psywave at level 1
-- (docs/MECHANICS.md, "Fixed damage and one-hit moves").

abbrev pub deal : Option ℕ → Phase
deal (Some damage) = set_last_damage damage
deal None = fault 2

-- The generator has drawn up to n. The phase draws as far, and deals the result.
abbrev pub DealsAs : {A : Type 0} → Drawing A → Ref A → Parts → Option ℕ → Phase → Type 0
DealsAs d random parts result phase =
    (since : Since d random.exit.now) (g : Frame) (events : List Event) (p : Progress) → ShowsDrawn d since.source g parts (Told events) random.entry.now false p
    → (n : ℕ) × ShowsDrawn d since.source g parts (Told events) random.exit.now false (record p { drawn = n }) × (phase p ≡ deal result (record p { drawn = n }))
