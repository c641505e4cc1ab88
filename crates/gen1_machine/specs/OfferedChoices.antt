-- What each side may choose (docs/MECHANICS.md, "Offered choices").
use Rattle.std.specs.Prelude.{Bool, List, None, Option, Some, [], false, if◌then◌else◌, is_some, nat_lt, not, ℕ, ◌&&◌, ◌++◌, ◌+◌, ◌==◌, ◌||◌, ◌∷◌}
use Rattle.gen1_stats.specs.declared.member.KnownMove.{KnownMove}
use Rattle.gen1_machine.specs.declared.side.Side.{Side}
use Rattle.gen1_machine.specs.declared.terms.Request.{Request}
use Rattle.gen1_machine.specs.declared.terms.Request.TheVariants as requests
use Rattle.gen1_machine.specs.declared.side.DisabledSlot.{DisabledSlot}
use Rattle.gen1_machine.specs.declared.side.Choice.{Choice}
use Rattle.gen1_machine.specs.declared.side.Choice.TheVariants as choices
use Rattle.gen1_stats.specs.Members.{Member, is_living, sleeps_or_freezes}
use Rattle.gen1_machine.specs.Sides.{other}
use Rattle.gen1_machine.specs.Conditions.{Underway}
use Rattle.gen1_machine.specs.State.{party, request_of, active_in, conditions_in, underway_in, member_in, status_in, is_over, Field}

-- A committed member has no choice but to continue.
abbrev pub is_committed : Underway → Bool
is_committed u = u.recharge || u.rage || is_some u.thrash || u.charging

-- A member with no slot to pick can still be switched.
abbrev pub has_no_slot_in : Side → Field → Bool
has_no_slot_in s f =
    sleeps_or_freezes (status_in s f) || is_some (underway_in s f).bide
    || is_some (underway_in s f).trapping || is_some (underway_in (other s) f).trapping

-- The slots that have PP and aren't disabled, from slot k on.

abbrev pub bars_slot : Option DisabledSlot → ℕ → Bool
bars_slot None k = false
bars_slot (Some d) k = d.slot == k

abbrev pub usable_from : ℕ → Option DisabledSlot → List KnownMove → List Choice
usable_from k disabled [] = []
usable_from k disabled (m ∷ ms) =
    if nat_lt 0 m.pp && not (bars_slot disabled k)
    then choices.Move k ∷ usable_from (k + 1) disabled ms
    else usable_from (k + 1) disabled ms

-- A member without a usable slot can use Struggle.
abbrev pub or_struggle : List Choice → List Choice
or_struggle [] = choices.Move 0 ∷ []
or_struggle (c ∷ cs) = c ∷ cs

abbrev pub moves_offered : Side → Field → List Choice
moves_offered s f =
    if has_no_slot_in s f then choices.Move 0 ∷ []
    else or_struggle (usable_from 1 (conditions_in s f).disabled (member_in s f).moves)

-- Switches to the living members that aren't out, from a place on.

abbrev pub others_living_from : ℕ → ℕ → List Member → List Choice
others_living_from place out [] = []
others_living_from place out (m ∷ ms) =
    if is_living m && not (place == out)
    then choices.Switch place ∷ others_living_from (place + 1) out ms
    else others_living_from (place + 1) out ms

abbrev pub switches_offered : Side → Field → List Choice
switches_offered s f = others_living_from 1 (active_in s f).place (party s f).members

-- By the request.
abbrev pub offered_for : Request → Side → Field → List Choice
offered_for requests.Pass s f = choices.Pass ∷ []
offered_for requests.Switch s f = switches_offered s f
offered_for requests.Move s f =
    if is_committed (underway_in s f) then choices.Move 0 ∷ [] else moves_offered s f ++ switches_offered s f

-- Choices come by rising bytes. Once the battle is over, none is offered.
unfoldable pub offered : Side → Field → List Choice
offered s f = if is_over f.outcome then [] else offered_for (request_of s f) s f
