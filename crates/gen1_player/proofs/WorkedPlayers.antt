-- Worked examples: what a side learns, what the log makes public, what a player knows, and what a side is shown of itself
-- (docs/PROOFS.md, "Worked examples").
use Rattle.std.proofs.Common.{List, None, [], refl, replicate, ℕ, ◌++◌, ◌∷◌, ◌≡◌, false, true}
use Rattle.gen1_machine.specs.declared.event.DamageSource.TheVariants.{Direct}
use Rattle.gen1_machine.specs.declared.event.DamageSource.TheVariants as sources
use Rattle.gen1_machine.specs.declared.event.CantReason.TheVariants as reasons
use Rattle.gen1_machine.specs.declared.event.Volatile.TheVariants as volatiles
use Rattle.gen1_machine.specs.declared.event.Event.{Event}
use Rattle.gen1_machine.specs.declared.event.Event.TheVariants as events
use Rattle.gen1_machine.specs.declared.event.Kind.TheVariants.{Poison, Sleep}
use Rattle.gen1_machine.specs.declared.event.Who.{Who}
use Rattle.gen1_machine.specs.declared.side.Side.TheVariants.{One, Two}
use Rattle.gen1_machine.specs.Health.{Health}
use Rattle.gen1_machine.proofs.Computing.{computing}
use Rattle.gen1_machine.proofs.WorkedRules.{tauros, as_is, knowing, set}
use Rattle.gen1_player.specs.declared.public.Public.{Public}
use Rattle.gen1_player.specs.declared.seen.SeenMove.{SeenMove}
use Rattle.gen1_player.specs.declared.teller.Teller.{Teller}
use Rattle.gen1_player.specs.Player.{first_known}
use Rattle.gen1_player.specs.Public.{first_public, hears, hears_all, settled, takes_in, not_seen, not_used, on_out, seen_at}
use Rattle.gen1_player.specs.Telling.{meets, told, told_all}
use Rattle.gen1_tables.specs.declared.effect.Stat.TheVariants.{Speed}
use Rattle.gen1_stats.specs.Members.{Member}
use Rattle.gen1_stats.specs.declared.member.Status.TheVariants.{Asleep, Paralysed}
use Rattle.gen1_machine.specs.declared.side.Choice.TheVariants as choices
use Rattle.gen1_machine.specs.declared.terms.Outcome.TheVariants as outcomes
use Rattle.gen1_machine.specs.declared.terms.Request.TheVariants as requests
use Rattle.gen1_machine.specs.Conditions.{with_trapping}
use Rattle.gen1_machine.specs.CurrentStats.{with_stage}
use Rattle.gen1_machine.specs.State.{Active, Field}
use Rattle.gen1_machine.specs.SwitchingIn.{sent_out}
use Rattle.gen1_player.specs.Fair.{offers}
use Rattle.gen1_player.specs.OwnSide.{own_side}

-- A Starmie of side 2, and a Tauros of side 1.
abbrev starmie : Who
starmie = record { side = Two; species = 121 }

abbrev bull : Who
bull = record { side = One; species = 128 }

abbrev health : ℕ → ℕ → Health
health hp max = record { hp = hp; max = max; kind = None }

abbrev comes : ℕ → Event
comes place = events.Switch starmie place 100 (health 323 323)

abbrev teller : ℕ → Teller
teller pixels = record { side = 1; pixels = pixels; places = replicate 6 0 }

-- Places (docs/MECHANICS.md, "What a side is told"): 3 appears first, then 5, and 3 again.
by_appearance : told_all (comes 3 ∷ comes 5 ∷ comes 3 ∷ []) (teller 0) ≡ comes 1 ∷ comes 2 ∷ comes 1 ∷ []
unfolding told_all told meets
by_appearance = refl

-- The bar (docs/MECHANICS.md, "What a side is told"): 12 * 322 / 80 is 48.3, 12 * 266 / 80 is 39.9, 48 * 254 / 255 is 47.8, and 12 * 6 / 80 is
-- 0.9, but some HP are left.
in_pixels : (told (events.Damage starmie (health 322 323) Direct) (teller 1) ≡ events.Damage starmie (health 48 48) Direct)
    × (told (events.Damage starmie (health 266 323) Direct) (teller 1) ≡ events.Damage starmie (health 39 48) Direct)
    × (told (events.Damage starmie (health 254 255) Direct) (teller 1) ≡ events.Damage starmie (health 47 48) Direct)
    × (told (events.Damage starmie (health 6 323) Direct) (teller 1) ≡ events.Damage starmie (health 1 48) Direct)
    × (told (events.Damage starmie (health 0 323) Direct) (teller 1) ≡ events.Damage starmie (health 0 48) Direct)
    × (told (events.Damage bull (health 6 353) Direct) (teller 1) ≡ events.Damage bull (health 6 353) Direct)
unfolding told
in_pixels = (refl, refl, refl, refl, refl, refl)

-- Hundredths: 100 * 322 / 323 is 99.7, 100 * 100 / 323 is 30.96, and 100 * 3 / 323 is 0.9.
in_hundredths : (told (events.Damage starmie (health 323 323) Direct) (teller 2) ≡ events.Damage starmie (health 100 100) Direct)
    × (told (events.Damage starmie (health 322 323) Direct) (teller 2) ≡ events.Damage starmie (health 99 100) Direct)
    × (told (events.Damage starmie (health 100 323) Direct) (teller 2) ≡ events.Damage starmie (health 31 100) Direct)
    × (told (events.Damage starmie (health 3 323) Direct) (teller 2) ≡ events.Damage starmie (health 1 100) Direct)
    × (told (events.Damage starmie (health 0 323) Direct) (teller 2) ≡ events.Damage starmie (health 0 100) Direct)
unfolding told
in_hundredths = (refl, refl, refl, refl, refl)

-- Starmie comes out at place 3, uses Surf twice, and Toxic on a Tauros, which it poisons.
abbrev poisoned : Public
poisoned =
    hears_all (events.Switch bull 1 100 (health 353 353) ∷ comes 3 ∷ events.Move starmie 57 bull ∷ events.Move starmie 57 bull
    ∷ events.Move starmie 92 bull ∷ events.Status bull Poison ∷ []) first_public

abbrev used : ℕ → ℕ → SeenMove
used id uses = record { id = id; uses = uses }

-- Moves, types and bad poison (docs/MECHANICS.md, "What the log makes public")
made_public : ((seen_at 3 poisoned.two).moves ≡ used 57 2 ∷ used 92 1 ∷ not_used ∷ not_used ∷ not_used ∷ [])
    × (poisoned.two.first_type ≡ 9) × (poisoned.two.second_type ≡ 12) × (poisoned.two.last_move ≡ 92) × (poisoned.one.announced.toxic ≡ 1)
    × ((seen_at 1 poisoned.one).status ≡ 2) × (seen_at 1 poisoned.two ≡ not_seen)
unfolding computing hears_all hears settled takes_in on_out
made_public = (refl, refl, refl, refl, refl, refl, refl)

-- A Tauros of side 1 with a Substitute and Bide, which is confused. It hits itself if the next event is not its act.
abbrev behind : Event → Public
behind next =
    hears_all (events.Switch bull 1 100 (health 353 353) ∷ comes 3 ∷ events.Start bull volatiles.Substitute ∷ events.Start bull volatiles.Bide
    ∷ events.Prepare bull 91 ∷ events.Activate bull volatiles.Confusion ∷ next ∷ []) first_public

-- A hit that no event reports (docs/MECHANICS.md, "What the log makes public"): the turn ends, the Substitute of the foe takes it, or the
-- member stores energy.
hit_behind : ((behind (events.Turn 2)).one.announced.bide ≡ 0) × ((behind (events.Turn 2)).one.announced.charging ≡ 0) × ((behind (events.Turn 2)).one.invulnerable ≡ 0)
    × ((behind (events.Activate starmie volatiles.Substitute)).one.announced.bide ≡ 0) × ((behind (events.Activate bull volatiles.Bide)).one.announced.bide ≡ 1)
unfolding computing hears_all hears settled takes_in on_out
hit_behind = (refl, refl, refl, refl, refl)

-- A Tauros of side 1 after these events.
abbrev after : List Event → Public
after es = hears_all (events.Switch bull 1 100 (health 353 353) ∷ comes 3 ∷ es) first_public

-- Bad poison (docs/MECHANICS.md, "Residual damage"): the hurts that make 331 and 287 of 353 HP count. A new Toxic begins again, and other
-- poison counts nothing.
abbrev hurts : List Event
hurts = events.Damage bull (health 331 353) sources.Poison ∷ events.Damage bull (health 287 353) sources.LeechSeed ∷ []

worse_and_worse : ((after (events.Move starmie 92 bull ∷ events.Status bull Poison ∷ hurts)).one.announced.toxic_count ≡ 2)
    × ((after (events.Move starmie 92 bull ∷ events.Status bull Poison ∷ hurts ++ events.Status bull Poison ∷ [])).one.announced.toxic_count ≡ 0)
    × ((after (events.Move starmie 77 bull ∷ events.Status bull Poison ∷ hurts)).one.announced.toxic_count ≡ 0)
unfolding computing hears_all hears settled takes_in on_out
worse_and_worse = (refl, refl, refl)

-- Turns asleep (docs/MECHANICS.md, "What the log makes public"): they count until the member wakes, and by a new sleep they begin again.
abbrev slept_after : List Event → ℕ
slept_after es = (seen_at 1 (after (events.Move starmie 95 bull ∷ events.Status bull Sleep ∷ events.Cant bull reasons.Asleep ∷ events.Cant bull reasons.Asleep ∷ es)).one).slept

turns_asleep : (slept_after [] ≡ 2) × (slept_after (events.Status bull Sleep ∷ []) ≡ 0) × (slept_after (events.Cure bull Sleep ∷ []) ≡ 0)
    × (slept_after (events.Cant bull reasons.Flinched ∷ events.Cant starmie reasons.Asleep ∷ []) ≡ 2)
unfolding computing hears_all hears settled takes_in on_out
turns_asleep = (refl, refl, refl, refl)

-- Dig (docs/MECHANICS.md, "What the log makes public"): its first turn hides the user and is no use. Full paralysis leaves it hidden.
digs : ((after (events.Prepare bull 91 ∷ [])).one.invulnerable ≡ 1) × ((after (events.Prepare bull 91 ∷ events.Move bull 91 starmie ∷ [])).one.invulnerable ≡ 0)
    × ((seen_at 1 (after (events.Prepare bull 91 ∷ [])).one).moves ≡ used 91 0 ∷ not_used ∷ not_used ∷ not_used ∷ not_used ∷ [])
    × ((after (events.Prepare bull 91 ∷ events.Cant bull reasons.Paralysed ∷ events.Move bull 70 starmie ∷ [])).one.invulnerable ≡ 1)
unfolding computing hears_all hears settled takes_in on_out
digs = (refl, refl, refl, refl)

-- Uses (docs/MECHANICS.md, "What the log makes public"): Wrap after itself may be continuing, Rage continues once it is announced, and Bide is
-- used as it starts.
abbrev uses_of : List Event → List SeenMove
uses_of es = (seen_at 1 (after es).one).moves

counted : (uses_of (events.Move bull 35 starmie ∷ events.Move bull 35 starmie ∷ events.Move bull 70 starmie ∷ events.Move bull 35 starmie ∷ []) ≡ used 35 2 ∷ used 70 1 ∷ replicate 3 not_used)
    × (uses_of (events.Move bull 99 starmie ∷ events.Start bull volatiles.Rage ∷ events.Move bull 99 starmie ∷ []) ≡ used 99 1 ∷ replicate 4 not_used)
    × (uses_of (events.Start bull volatiles.Bide ∷ events.End bull volatiles.Bide ∷ []) ≡ used 117 1 ∷ replicate 4 not_used)
    × ((after (events.Start bull volatiles.Bide ∷ [])).one.last_move ≡ 117)
unfolding computing hears_all hears settled takes_in on_out
counted = (refl, refl, refl, refl)

-- Before the battle (docs/MECHANICS.md, "Player's view"): its own Tauros of 353 HP is known, and nothing of the foe.
known_first : ((seen_at 1 (first_known One (tauros ∷ [])).one).hp ≡ 353) × (seen_at 2 (first_known One (tauros ∷ [])).one ≡ not_seen)
    × (seen_at 1 (first_known One (tauros ∷ [])).two ≡ not_seen)
known_first = (refl, refl, refl)

-- What a side is shown of itself

-- Side 1 has this member out, and the foe a Tauros that knows Wrap.
abbrev against_wrap : Member → (Active → Active) → (Active → Active) → Field
against_wrap m own foe = record {
  one = record { members = m ∷ []; active = own (sent_out 1 m) };
  two = record { members = knowing 35 20 ∷ []; active = foe (sent_out 1 (knowing 35 20)) };
  last_damage = 0;
  turn = 1;
  outcome = outcomes.Ongoing;
  request_one = requests.Move;
  request_two = requests.Move;
}

abbrev faster : Active → Active
faster a = record a { stages = with_stage Speed 7 a.stages; speed_penalties = 1 }

-- Current stats (docs/MECHANICS.md, "What a side is shown of itself"): 318 at stage +1 is 477, and a quarter of it 119.
paralysed_and_faster : (own_side One (against_wrap (record tauros { status = Paralysed }) faster as_is)).active.stats ≡ 298 ∷ 288 ∷ 119 ∷ 238 ∷ []
unfolding computing
paralysed_and_faster = refl

-- A sleep (docs/MECHANICS.md, "What a side is shown of itself"): 7 turns by the foe's move look as 1 turn of Rest.
sleep_without_turns : own_side One (against_wrap (record tauros { status = Asleep 7 true }) as_is as_is)
    ≡ own_side One (against_wrap (record tauros { status = Asleep 1 false }) as_is as_is)
unfolding computing
sleep_without_turns = refl

-- Held by Wrap (docs/MECHANICS.md, "What a side is shown of itself"), with 4 turns left or with none: only Move 0 is offered. The foe
-- traps and is not held.
held_by_wrap : ((own_side One (against_wrap tauros as_is (set (with_trapping 4)))).held ≡ true)
    × ((own_side One (against_wrap tauros as_is (set (with_trapping 0)))).held ≡ true)
    × (offers (own_side One (against_wrap tauros as_is (set (with_trapping 0)))) ≡ choices.Move 0 ∷ [])
    × ((own_side Two (against_wrap tauros as_is (set (with_trapping 4)))).held ≡ false)
unfolding computing
held_by_wrap = (refl, refl, refl, refl)
