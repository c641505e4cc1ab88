-- How members are sent out (docs/MECHANICS.md, "Switching in").
use Rattle.std.specs.Prelude.{ℕ}
use Rattle.gen1_machine.specs.declared.side.Side.{Side}
use Rattle.gen1_machine.specs.declared.side.Side.TheVariants.{One, Two}
use Rattle.gen1_machine.specs.declared.event.Event.{Event}
use Rattle.gen1_machine.specs.declared.event.Event.TheVariants as events
use Rattle.gen1_machine.specs.declared.side.Choice.{Choice}
use Rattle.gen1_machine.specs.declared.side.Choice.TheVariants as choices
use Rattle.gen1_tables.specs.Species.{species_row}
use Rattle.gen1_stats.specs.Members.{Member}
use Rattle.gen1_machine.specs.Sides.{other}
use Rattle.gen1_machine.specs.Conditions.{without_trapping}
use Rattle.gen1_machine.specs.State.{party, member_at, member_in, who_in, health_in, nobody_out, Active, Field}
use Rattle.gen1_machine.specs.CurrentStats.{with_penalty_of}
use Rattle.gen1_machine.specs.Progress.{Phase, stay, ◌▸◌, given, note, on_active, on_conditions}

-- A member brings the penalty of its status, and nothing else.
abbrev pub sent_out : ℕ → Member → Active
sent_out place m = with_penalty_of m.status (record nobody_out {
  place = place;
  first_type = (species_row m.species).first_type;
  second_type = (species_row m.species).second_type;
})

unfoldable pub with_sent_out : ℕ → Member → Active → Active
with_sent_out place m a = sent_out place m

abbrev pub switch_event : Side → ℕ → Field → Event
switch_event s place f = events.Switch (who_in s f) place (member_in s f).level (health_in s f)

-- The foe's trapping ends.
unfoldable pub send_out : Side → ℕ → Phase
send_out s place =
    given (λ p. member_at place (party s p.field)) (λ m. on_active s (with_sent_out place m))
    ▸ on_conditions (other s) without_trapping
    ▸ note (switch_event s place)

unfoldable pub send_if_chosen : Side → Choice → Phase
send_if_chosen s (choices.Switch place) = send_out s place
send_if_chosen s _ = stay

-- Replacements for fallen members.
unfoldable pub replace : Choice → Choice → Phase
replace one two = send_if_chosen One one ▸ send_if_chosen Two two

-- The first members of both sides.
unfoldable pub start : Phase
start = send_out One 1 ▸ send_out Two 1
