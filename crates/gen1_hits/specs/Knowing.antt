-- What is known of an action, in the form of the code: the machine's record of the action, and whether Haze met a
-- sleeper. An operation that learns something is described by its phase like any other. If something is shown with
-- what was known before it, the result of the phase is shown with what is known after it.
use Rattle.std.specs.Prelude.{◌≡◌, Bool, Some, if◌then◌else◌, true, ℕ, None, Option, false, ◌==◌, ◌||◌}
use Rattle.gen1_layout.specs.Words.{Progress, ShowsDrawn, Side, Telling, Phase, Within, Field, health_in, who_in}
use Rattle.gen1_rolls.specs.Draws.{Drawing, Ref, Source, Since, StandsIn}
use Rattle.gen1_machine.specs.declared.side.Side.TheVariants.{One}
use Rattle.gen1_machine.specs.Progress.{Action}
use Rattle.gen1_layout.specs.Operations.{Scene, Premise}
use Rattle.gen1_layout.specs.Parts.{Parts}
use Rattle.gen1_hits.specs.declared.known.Known.{Known}
use Rattle.gen1_layout.specs.Shows.{Frame}
use Rattle.gen1_machine.specs.Ruling.{Ruling, ruling_of}
use Rattle.gen1_machine.specs.Landing.{breaks}
use Rattle.gen1_hits.specs.declared.landing.Landed.{Landed}
use Rattle.gen1_hits.specs.declared.landing.Landed.TheVariants.{Broke, Hp, Kept}
use Rattle.gen1_events.specs.declared.sink.Seen.{Seen}
use Rattle.gen1_events.specs.Fields.{IsHealth, IsWho, health_of, who_of}

abbrev pub action_of : Known → Action
action_of k = record {
  side = k.side;
  going_on = k.going_on;
  letting_go = k.letting_go;
  missed = k.missed;
  critical = k.critical;
  through_types = k.through_types;
  broke = k.broke;
  hits_made = k.hits_made;
  hits_planned = k.hits_planned;
  accuracy_tested = k.accuracy_tested;
}

-- Before the first action of an update.
abbrev pub nothing_yet : Known
nothing_yet = record {
  side = One;
  going_on = false;
  letting_go = false;
  missed = false;
  critical = false;
  through_types = false;
  broke = false;
  hits_made = 0;
  hits_planned = None;
  accuracy_tested = None;
  skips = false;
}

-- A new action knows nothing of the last. Which side is skipped stays known for the update.
abbrev pub begun : Side → Known → Known
begun s k = record nothing_yet { side = s; skips = k.skips }

-- A frame in which what is known replaces what it says about the action.
abbrev pub knowing : Known → Frame → Frame
knowing k g = record g { skips = k.skips; action = action_of k }

-- A scene with what is known of the action at the call and at the return.
abbrev pub aware : Ref Known → Scene → Scene
aware known s Then = s λ parts events _ parts' events' _. Then parts events (knowing known.entry.now) parts' events' (knowing known.exit.now)

-- A scene in which this is known of the action throughout.
abbrev pub aware_of : Known → Scene → Scene
aware_of known s Then = s λ parts events _ parts' events' _. Then parts events (knowing known) parts' events' (knowing known)

-- Code with draws, for any generator that it is given.
abbrev pub ShowsKnown : {A : Type 0} → Drawing A → Source A → Known → Frame → Parts → Telling → A → Bool → Progress → Type 0
ShowsKnown d source k g parts events now stopped p = ShowsDrawn d source (knowing k g) parts events now stopped p

-- After an action is over, it no longer matters whether a substitute broke in it.
abbrev pub with_broke : Bool → Known → Known
with_broke broke k = record k { broke = broke }

abbrev pub ShowsOver : {A : Type 0} → Drawing A → Source A → Known → Frame → Parts → Telling → A → Bool → Progress → Type 0
ShowsOver d source k g parts events now stopped p =
    (broke : Bool) × ShowsKnown d source (with_broke broke k) g parts events now stopped p

-- No hit has been made or planned yet.
abbrev pub IsUncounted : Known → Type 0
IsUncounted k = (k.hits_made ≡ 0) × (k.hits_planned ≡ None)

-- What is known of an action after a hit test (docs/MECHANICS.md, "Hit test").

-- Whether the hit is critical.
abbrev pub with_critical : Bool → Frame → Frame
with_critical critical g = record g { action = record g.action { critical = critical } }

-- A miss is known, or what was known before.
abbrev pub with_miss_unless : Bool → Frame → Frame
with_miss_unless hit g = record g { action = record g.action { missed = if hit then g.action.missed else true } }

-- A miss, as in `with_miss_unless`, and the byte that was tested.
abbrev pub with_test : Bool → ℕ → Frame → Frame
with_test hit byte g = record g { action = record g.action { missed = if hit then g.action.missed else true; accuracy_tested = Some byte } }

-- What a call by itself shows: an operation of an action that has just begun, of which nothing is known yet. Its
-- bytes, events and generator are those of its phase. Facts that only the phase learns don't matter.

-- What is known when a side's action, the first of its update, begins.
abbrev pub just_begun : Side → Known
just_begun s = begun s nothing_yet

-- The bytes, the events and the generator are those of a battle in the middle of an update.
pub record Remains {A : Type 0} (d : Drawing A) (source : Source A) (g : Frame) (parts : Parts) (events : Telling) (now : A) (p : Progress) : Type 0 where
  pub within : Within g.setting parts p.field
  pub written : events p.events
  pub stands : StandsIn d source p.drawn now

-- A scene at whose beginning the action of a side has just begun.
abbrev pub beginning : Side → Scene → Scene
beginning side s Then = s λ parts events _ parts' events' knows'. Then parts events (knowing (just_begun side)) parts' events' knows'

-- Code with draws leaves the bytes, the events and the generator of a phase under the rules of the battle, if a premise
-- holds.
abbrev pub Leaves : {A : Type 0} → Drawing A → Ref A → Premise → Scene → (Ruling → Phase) → Type 0
Leaves d random premise s phase = s λ parts events knows parts' events' _.
    (since : Since d random.exit.now) (g : Frame) (p : Progress) → premise g p
    (ShowsDrawn d since.source (knows g) parts events random.entry.now false p
    → Remains d since.source g parts' events' random.exit.now (phase (ruling_of g.setting.terms) p))

-- Where damage lands (docs/MECHANICS.md, "Landing"), and what is known of the action afterwards.

-- Where damage lands on a member whose substitute has this many HP, or that has none.
abbrev pub landed_on : ℕ → Option ℕ → Landed
landed_on damage None = Hp
landed_on damage (Some hp) = if damage == 0 then Hp else if breaks damage hp then Broke else Kept

abbrev pub has_broken : Landed → Bool
has_broken Broke = true
has_broken _ = false

-- Whether a substitute broke, with what was known before.
abbrev pub with_break : Bool → Frame → Frame
with_break broke g = record g { action = record g.action { broke = broke || g.action.broke } }

-- A member that is out, by the numbers of an event.

-- The numbers are those of the side's member, and in their ranges.
pub record Sees (s : Side) (f : Field) (seen : Seen) : Type 0 where
  pub who : who_of seen ≡ who_in s f
  pub health : health_of seen ≡ health_in s f
  pub ranges : IsWho (who_of seen) × IsHealth (health_of seen)
