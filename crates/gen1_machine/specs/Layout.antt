-- The 384 bytes of a battle (docs/LAYOUT.md, "The 384 bytes of a battle"): a header of 24 bytes, then for each side
-- six members of 24 bytes and an active block of 36.
use Rattle.std.specs.Prelude.{Bool, List, None, Option, Some, [], flat_map, if◌then◌else◌, is_some, map, replicate, slice_index, take, unwrap_or, ℕ, ◌%◌, ◌*◌, ◌++◌, ◌+◌, ◌/◌, ◌==◌, ◌∷◌}
use Rattle.gen1_tables.specs.declared.effect.Stat.TheVariants.{Attack, Defense, Speed, Special}
use Rattle.gen1_stats.specs.declared.member.Status.{Status}
use Rattle.gen1_stats.specs.declared.member.Status.TheVariants.{Healthy, Asleep, Poisoned, Burned, Frozen, Paralysed}
use Rattle.gen1_machine.specs.declared.terms.Outcome.{Outcome}
use Rattle.gen1_machine.specs.declared.terms.Outcome.TheVariants as outcomes
use Rattle.gen1_machine.specs.declared.terms.Request.{Request}
use Rattle.gen1_machine.specs.declared.terms.Request.TheVariants as requests
use Rattle.gen1_machine.specs.declared.side.UsedMove.{UsedMove}
use Rattle.gen1_machine.specs.declared.side.UsedMove.TheVariants.{Nothing, Slot, Struggle}
use Rattle.gen1_machine.specs.declared.side.DisabledSlot.{DisabledSlot}
use Rattle.gen1_tables.specs.Types.{number_of}
use Rattle.gen1_rolls.specs.Streams.{byte_at, Link}
use Rattle.gen1_stats.specs.Members.{is_marked, Member}
use Rattle.gen1_machine.specs.Rules.{bit_of, bits_of_rules}
use Rattle.gen1_machine.specs.Conditions.{Storing, Underway, ActiveConditions}
use Rattle.gen1_machine.specs.State.{member_at, known_in, Active, Party, State}
use Rattle.gen1_machine.specs.CurrentStats.{now}

abbrev pub low_byte : ℕ → ℕ
low_byte n = n % 256

abbrev pub high_byte : ℕ → ℕ
high_byte n = n / 256 % 256

-- The header

abbrev pub outcome_byte : Outcome → ℕ
outcome_byte outcomes.Ongoing = 0
outcome_byte outcomes.WinOne = 1
outcome_byte outcomes.WinTwo = 2
outcome_byte outcomes.Tie = 3
outcome_byte (outcomes.Fault n) = 3 + n

abbrev pub request_byte : Request → ℕ
request_byte requests.Pass = 0
request_byte requests.Move = 1
request_byte requests.Switch = 2

-- The j-th of the nine numbers in use, after this many draws.
abbrev pub number_at : List ℕ → ℕ → ℕ → ℕ
number_at seed drawn j = byte_at (Link seed) (9 * (drawn / 9) + j)

-- The tenth number is never drawn.
abbrev pub header_block : State → List ℕ
header_block s =
    3 ∷ low_byte s.field.turn ∷ high_byte s.field.turn ∷ low_byte s.field.last_damage ∷ high_byte s.field.last_damage ∷ s.drawn % 9
    ∷ number_at s.seed s.drawn 0 ∷ number_at s.seed s.drawn 1 ∷ number_at s.seed s.drawn 2 ∷ number_at s.seed s.drawn 3
    ∷ number_at s.seed s.drawn 4 ∷ number_at s.seed s.drawn 5 ∷ number_at s.seed s.drawn 6 ∷ number_at s.seed s.drawn 7
    ∷ number_at s.seed s.drawn 8 ∷ slice_index s.seed 9
    ∷ outcome_byte s.field.outcome ∷ request_byte s.field.request_one ∷ request_byte s.field.request_two
    ∷ bits_of_rules s.terms.rules ∷ low_byte s.terms.limit ∷ high_byte s.terms.limit ∷ 0 ∷ 0 ∷ []

-- A member

abbrev pub status_byte : Status → ℕ
status_byte Healthy = 0
status_byte (Asleep turns marked) = turns
status_byte Poisoned = 8
status_byte Burned = 16
status_byte Frozen = 32
status_byte Paralysed = 64

-- The last byte is the mark of a member that the foe's move put to sleep under the sleep clause.
abbrev pub member_block : Member → List ℕ
member_block m =
    m.species ∷ m.level ∷ low_byte m.max ∷ high_byte m.max ∷ low_byte m.hp ∷ high_byte m.hp
    ∷ low_byte m.attack ∷ high_byte m.attack ∷ low_byte m.defense ∷ high_byte m.defense
    ∷ low_byte m.speed ∷ high_byte m.speed ∷ low_byte m.special ∷ high_byte m.special ∷ status_byte m.status
    ∷ (known_in 1 m.moves).id ∷ (known_in 2 m.moves).id ∷ (known_in 3 m.moves).id ∷ (known_in 4 m.moves).id
    ∷ (known_in 1 m.moves).pp ∷ (known_in 2 m.moves).pp ∷ (known_in 3 m.moves).pp ∷ (known_in 4 m.moves).pp
    ∷ bit_of (is_marked m.status) ∷ []

-- An active block

-- The conditions, from the lowest bit up.
abbrev pub condition_bits : ActiveConditions → List Bool
condition_bits c =
    is_some c.underway.bide ∷ is_some c.underway.thrash ∷ is_some c.underway.trapping ∷ c.flinch ∷ c.underway.charging
    ∷ c.invulnerable ∷ is_some c.confused ∷ c.mist ∷ c.focus_energy ∷ is_some c.substitute ∷ c.underway.recharge
    ∷ c.underway.rage ∷ c.seeded ∷ is_some c.bad_poison ∷ c.light_screen ∷ c.reflect ∷ is_some c.disabled ∷ []

abbrev pub number_of_bits : List Bool → ℕ
number_of_bits [] = 0
number_of_bits (b ∷ bs) = bit_of b + 2 * number_of_bits bs

abbrev pub conditions_number : ActiveConditions → ℕ
conditions_number c = number_of_bits (condition_bits c)

abbrev pub used_byte : UsedMove → ℕ
used_byte Nothing = 0
used_byte (Slot k) = k
used_byte Struggle = 5

abbrev pub disabled_slot : Option DisabledSlot → ℕ
disabled_slot None = 0
disabled_slot (Some d) = d.slot

abbrev pub disabled_turns : Option DisabledSlot → ℕ
disabled_turns None = 0
disabled_turns (Some d) = d.turns

abbrev pub energy_of : Option Storing → ℕ
energy_of None = 0
energy_of (Some b) = b.energy

-- Bide, thrashing and trapping can't be on at once, so their turns share one byte.
abbrev pub turns_byte : Option Storing → Option ℕ → Option ℕ → ℕ
turns_byte (Some bide) thrash trapping = bide.turns
turns_byte None (Some turns) trapping = turns
turns_byte None None trapping = unwrap_or trapping 0

abbrev pub turns_of : Underway → ℕ
turns_of u = turns_byte u.bide u.thrash u.trapping

abbrev pub active_block : Member → Active → List ℕ
active_block m a =
    a.place ∷ number_of a.first_type ∷ number_of a.second_type
    ∷ a.stages.attack ∷ a.stages.defense ∷ a.stages.speed ∷ a.stages.special ∷ a.stages.accuracy ∷ a.stages.evasion
    ∷ low_byte (now Attack m a) ∷ high_byte (now Attack m a) ∷ low_byte (now Defense m a) ∷ high_byte (now Defense m a)
    ∷ low_byte (now Speed m a) ∷ high_byte (now Speed m a) ∷ low_byte (now Special m a) ∷ high_byte (now Special m a)
    ∷ low_byte (conditions_number a.conditions) ∷ high_byte (conditions_number a.conditions)
    ∷ low_byte (conditions_number a.conditions / 65536) ∷ high_byte (conditions_number a.conditions / 65536)
    ∷ unwrap_or a.conditions.substitute 0 ∷ unwrap_or a.conditions.confused 0
    ∷ disabled_slot a.conditions.disabled ∷ disabled_turns a.conditions.disabled ∷ unwrap_or a.conditions.bad_poison 0
    ∷ turns_of a.conditions.underway
    ∷ low_byte (energy_of a.conditions.underway.bide) ∷ high_byte (energy_of a.conditions.underway.bide)
    ∷ used_byte a.current_move ∷ used_byte a.picked_move ∷ a.kept_accuracy ∷ 0 ∷ 0 ∷ 0 ∷ 0 ∷ []

-- The whole

-- If no member is out, the block is zeros.
abbrev pub active_block_of : Party → List ℕ
active_block_of t = if t.active.place == 0 then replicate 36 0 else active_block (member_at t.active.place t) t.active

-- The blocks of the members, and zeros for places without a member.
abbrev pub member_blocks : List Member → List (List ℕ)
member_blocks members = take 6 (map member_block members ++ replicate 6 (replicate 24 0))

abbrev pub party_bytes : Party → List ℕ
party_bytes t = flat_map (λ (block : List ℕ). block) (member_blocks t.members) ++ active_block_of t

unfoldable pub bytes_of : State → List ℕ
bytes_of s = header_block s ++ party_bytes s.field.one ++ party_bytes s.field.two
