-- Battles played by random choices, and how they end (include/gen1.h, "many battles").
use Rattle.std.specs.Prelude.{List, None, Option, Some, [], if◌then◌else◌, length, min, nat_lt, replicate, slice_index_or, suc, true, zero, ℕ, ◌%◌, ◌*◌, ◌++◌, ◌+◌, ◌/◌, ◌==◌, ◌^◌, ◌≡◌, ◌∷◌, ◌⊎◌}
use Rattle.std.specs.List.{AllByRecursion}
use Rattle.gen1_rolls.specs.Steady.{ring_of}
use Rattle.gen1_rolls.specs.Streams.{iterate}
use Rattle.gen1_machine.specs.declared.side.Choice.{Choice}
use Rattle.gen1_machine.specs.declared.side.Choice.TheVariants.{Move, Pass}
use Rattle.gen1_machine.specs.declared.side.Side.{Side}
use Rattle.gen1_machine.specs.declared.side.Side.TheVariants.{One, Two}
use Rattle.gen1_machine.specs.OfferedChoices.{offered}
use Rattle.gen1_machine.specs.declared.terms.Outcome.{Outcome}
use Rattle.gen1_machine.specs.declared.terms.Outcome.TheVariants.{Tie, WinOne, WinTwo}
use Rattle.gen1_machine.specs.Laws.{accepted_in}
use Rattle.gen1_machine.specs.State.{Field, Party, State, is_over, known_in, member_at, member_in, party}
use Rattle.gen1_machine.specs.Step.{run, step}
use Rattle.gen1_engine.specs.Update.{reseeded}
use Rattle.gen1_stats.specs.Members.{Member}
use Rattle.gen1_playouts.specs.declared.playouts.Playouts.{Playouts}
use Rattle.gen1_playouts.specs.declared.playouts.PlayoutOptions.{PlayoutOptions}

-- a battle that is played by random choices, and the state of their generator
pub record Playout : Type 0 where
  pub battle : State
  pub random : ℕ

-- the generator's next state: Knuth's multiplier and increment
abbrev pub next_state : ℕ → ℕ
next_state state = (state * 6364136223846793005 % 2 ^ 64 + 1442695040888963407) % 2 ^ 64

-- the choice at the index that is drawn: the upper 32 bits, modulo the number of choices
abbrev pub choice_by : ℕ → List Choice → Choice
choice_by state choices = slice_index_or choices (state / 2 ^ 32 % length choices) Pass

-- this choice was drawn, and that is the next state
abbrev pub IsDrawn : ℕ → List Choice → Choice → ℕ → Type 0
IsDrawn old choices choice new = (choice ≡ choice_by (next_state old) choices) × (new ≡ next_state old)

-- numbers that were drawn, and the generator's state after them
pub record Numbers : Type 0 where
  pub drawn : List ℕ
  pub random : ℕ

-- one more: the upper 32 bits, modulo 256
unfoldable pub one_number : Numbers → Numbers
one_number n = let next = next_state n.random in record { drawn = n.drawn ++ next / 2 ^ 32 % 256 ∷ []; random = next }

abbrev pub numbers_from : ℕ → ℕ → Numbers
numbers_from seed count = iterate count one_number (record { drawn = []; random = seed })

-- a round begins: the battle draws from ten numbers of the generator, from the first on (docs/MECHANICS.md, "Link numbers")
unfoldable pub begun : State → ℕ → Playout
begun s seed = let ten = numbers_from seed 10 in record { battle = reseeded (ring_of ten.drawn) s; random = ten.random }

-- a choice's weight in a table: by its move, where Move 0 counts as Struggle; a switch and Pass have the first
abbrev pub weight_in : List ℕ → Side → Field → Choice → ℕ
weight_in weights side f (Move slot) =
    slice_index_or weights (if slot == 0 then 165 else (known_in slot (member_in side f).moves).id) 0
weight_in weights side f _ = slice_index_or weights 0 0

abbrev pub IsZeros : List ℕ → Type 0
IsZeros weights = (number : ℕ) → slice_index_or weights number 0 ≡ 0

-- each choice as often as its weight says
abbrev pub repeated : (Choice → ℕ) → List Choice → List Choice
repeated weight [] = []
repeated weight (choice ∷ choices) = replicate (weight choice) choice ++ repeated weight choices

-- if all have the weight 0, each once
abbrev pub weighted : (Choice → ℕ) → List Choice → List Choice
weighted weight choices = if length (repeated weight choices) == 0 then choices else repeated weight choices

-- what a side draws from
abbrev pub drawn_from : List ℕ → Side → Field → List Choice
drawn_from weights side f = weighted (weight_in weights side f) (offered side f)

-- each side draws among its offered choices, side 1 first; a battle that is over does not change
unfoldable pub play_on : List ℕ → Playout → Playout
play_on weights p =
    let field = p.battle.field in
    let one = next_state p.random in
    let two = next_state one in
    if is_over field.outcome then p
    else record {
      battle = (step p.battle (choice_by one (drawn_from weights One field)) (choice_by two (drawn_from weights Two field))).state;
      random = two;
    }

-- that many updates, from a seed
abbrev pub played : List ℕ → ℕ → State → ℕ → Playout
played weights updates s seed = iterate updates (play_on weights) (record { battle = s; random = seed })

-- the value of a battle that is not over: the larger share of remaining HP wins

-- a number of each member, added up over that many places; an empty one has 0
abbrev pub sum_in : (Member → ℕ) → ℕ → Party → ℕ
sum_in number zero t = 0
sum_in number (suc places) t = sum_in number places t + number (member_at (places + 1) t)

abbrev pub hp_left : Side → Field → ℕ
hp_left s f = sum_in (λ m. m.hp) 6 (party s f)

abbrev pub hp_unhurt : Side → Field → ℕ
hp_unhurt s f = sum_in (λ m. m.max) 6 (party s f)

abbrev pub leading : ℕ → ℕ → Outcome
leading one two = if nat_lt two one then WinOne else if nat_lt one two then WinTwo else Tie

-- by the cross products of the shares
unfoldable pub leader : Field → Outcome
leader f = leading (hp_left One f * hp_unhurt Two f) (hp_left Two f * hp_unhurt One f)

abbrev pub end_in : Field → Outcome
end_in f = if is_over f.outcome then f.outcome else leader f

-- as many updates as any battle takes (docs/MECHANICS.md, "Turn limit"), or the depth, if that is fewer
abbrev pub most_updates : ℕ → Option ℕ → ℕ
most_updates limit None = limit + 11
most_updates limit (Some depth) = min (limit + 11) depth

abbrev pub played_out : PlayoutOptions → State → ℕ → Playout
played_out o s seed = played o.weights (most_updates s.terms.limit o.depth) s seed

-- s ends like this, and its choices leave that state of the generator
abbrev pub IsPlayedOut : PlayoutOptions → State → ℕ → Outcome → ℕ → Type 0
IsPlayedOut o s seed end random = (end ≡ end_in (played_out o s seed).battle.field) × (random ≡ (played_out o s seed).random)

-- a round: a copy of s is played out with ten numbers that were drawn for it
abbrev pub round : PlayoutOptions → State → ℕ → Playout
round o s seed = played_out o (begun s seed).battle (begun s seed).random

-- a round ends like this, and leaves that state of the generator
abbrev pub IsRound : PlayoutOptions → State → ℕ → Outcome → ℕ → Type 0
IsRound o s seed end random = (end ≡ end_in (round o s seed).battle.field) × (random ≡ (round o s seed).random)

-- a run of the machine from s ends like this, or has this value after as many updates as the depth
pub record EndsAs (depth : Option ℕ) (s : State) (end : Outcome) : Type 0 where
  pub pairs : List (Choice × Choice)
  pub tells : end ≡ end_in (run s pairs).state.field
  pub stops : (is_over (run s pairs).state.field.outcome ≡ true) ⊎ (depth ≡ Some (accepted_in s pairs))

-- with some ten numbers to draw, a run of the machine from s ends like this
abbrev pub MayEndAs : Option ℕ → State → Outcome → Type 0
MayEndAs depth s end = (numbers : List ℕ) × EndsAs depth (reseeded (ring_of numbers) s) end

-- counts

abbrev pub total : Playouts → ℕ
total c = c.wins_one + c.wins_two + c.ties + c.faults

abbrev pub no_counts : Playouts
no_counts = record { wins_one = 0; wins_two = 0; ties = 0; faults = 0 }

abbrev pub counting : Outcome → Playouts → Playouts
counting WinOne c = record c { wins_one = c.wins_one + 1 }
counting WinTwo c = record c { wins_two = c.wins_two + 1 }
counting Tie c = record c { ties = c.ties + 1 }
counting _ c = record c { faults = c.faults + 1 }

abbrev pub counts_of : List Outcome → Playouts
counts_of [] = no_counts
counts_of (end ∷ ends) = counting end (counts_of ends)

-- playouts of the same battle, one after the other, and the state of the generator after the last
pub record Tally : Type 0 where
  pub counts : Playouts
  pub random : ℕ

unfoldable pub one_more : PlayoutOptions → State → Tally → Tally
one_more o s t =
    let last = round o s t.random in
    record { counts = counting (end_in last.battle.field) t.counts; random = last.random }

abbrev pub tally : PlayoutOptions → State → ℕ → Tally
tally o s rounds = iterate rounds (one_more o s) (record { counts = no_counts; random = o.seed })

-- these are the counts of that many playouts, each of which ends as some run from s does, with some ten numbers to draw
pub record PlaysOut (o : PlayoutOptions) (s : State) (rounds : ℕ) (counts : Playouts) : Type 0 where
  pub exact : counts ≡ (tally o s rounds).counts
  pub ends : List Outcome
  pub each : AllByRecursion (MayEndAs o.depth s) ends
  pub many : length ends ≡ rounds
  pub counted : counts ≡ counts_of ends
