-- What a spectator knows (docs/MECHANICS.md, "Spectator's view"). It is made from the events alone.
use Rattle.std.specs.Prelude.{Bool, List, None, Option, Some, [], false, if◌then◌else◌, is_some, length, map, min, nat_le, slice_index_or, slice_set, true, ℕ, ◌&&◌, ◌+◌, ◌-◌, ◌==◌, ◌∷◌}
use Rattle.gen1_tables.specs.declared.effect.Stat.{Stat}
use Rattle.gen1_machine.specs.declared.side.Side.{Side}
use Rattle.gen1_machine.specs.declared.side.Side.TheVariants.{One, Two}
use Rattle.gen1_machine.specs.declared.terms.Outcome.{Outcome}
use Rattle.gen1_machine.specs.declared.terms.Outcome.TheVariants as outcomes
use Rattle.gen1_machine.specs.declared.event.Kind.{Kind}
use Rattle.gen1_machine.specs.declared.event.Who.{Who}
use Rattle.gen1_machine.specs.declared.event.Volatile.{Volatile}
use Rattle.gen1_machine.specs.declared.event.Volatile.TheVariants as volatiles
use Rattle.gen1_machine.specs.declared.event.Event.{Event}
use Rattle.gen1_machine.specs.declared.event.Event.TheVariants as events
use Rattle.gen1_stats.specs.Members.{Member}
use Rattle.gen1_stats.specs.Stats.{stat}
use Rattle.gen1_machine.specs.Health.{Health}
use Rattle.gen1_machine.specs.State.{kind_of, level_stages, Stages, Party, Field}
use Rattle.gen1_machine.specs.CurrentStats.{stage_of, with_stage}

-- The visible part of a member.
pub record Shown : Type 0 where
  pub hp : ℕ
  pub kind : Option Kind

pub record SideView : Type 0 where
  pub place : ℕ  -- of the active member, 0 before there is one
  pub members : List Shown
  pub stages : Stages
  pub substitute : Bool
  pub confused : Bool
  pub light_screen : Bool
  pub reflect : Bool

pub record View : Type 0 where
  pub one : SideView
  pub two : SideView
  pub turn : ℕ
  pub outcome : Outcome

abbrev pub side_view : Side → View → SideView
side_view One v = v.one
side_view Two v = v.two

abbrev pub on_side_view : Side → (SideView → SideView) → View → View
on_side_view One f v = record v { one = f v.one }
on_side_view Two f v = record v { two = f v.two }

abbrev pub not_shown : Shown
not_shown = record { hp = 0; kind = None }

abbrev pub shown_at : ℕ → SideView → Shown
shown_at place x = slice_index_or x.members (place - 1) not_shown

-- Before the battle the members are known, and none is out.
abbrev pub first_side_view : List Member → SideView
first_side_view members = record {
  place = 0;
  members = map (λ (m : Member). record { hp = m.max; kind = None }) members;
  stages = level_stages;
  substitute = false;
  confused = false;
  light_screen = false;
  reflect = false;
}

abbrev pub first_view : List Member → List Member → View
first_view one two = record { one = first_side_view one; two = first_side_view two; turn = 0; outcome = outcomes.Ongoing }

-- An event changes the side that it names. It changes nothing while no member of that side is out.
abbrev pub if_out : (SideView → SideView) → SideView → SideView
if_out f x = if x.place == 0 then x else f x

unfoldable pub on_named : Who → (SideView → SideView) → View → View
on_named w f = on_side_view w.side (if_out f)

abbrev pub on_shown : (Shown → Shown) → SideView → SideView
on_shown f x = record x { members = slice_set x.members (x.place - 1) (f (shown_at x.place x)) }

unfoldable pub on_active_shown : Who → (Shown → Shown) → View → View
on_active_shown w f = on_named w (on_shown f)

abbrev pub cleared : SideView → SideView
cleared x = record x { stages = level_stages; confused = false; light_screen = false; reflect = false }

abbrev pub sees_switch : ℕ → Health → SideView → SideView
sees_switch place h x =
    if nat_le 1 place && nat_le place (length x.members)
    then on_shown (λ _. record { hp = h.hp; kind = h.kind }) (record (cleared x) { place = place; substitute = false })
    else x

abbrev pub sees_volatile : Volatile → Bool → SideView → SideView
sees_volatile volatiles.Confusion on x = record x { confused = on }
sees_volatile volatiles.Substitute on x = record x { substitute = on }
sees_volatile volatiles.LightScreen on x = record x { light_screen = on }
sees_volatile volatiles.Reflect on x = record x { reflect = on }
sees_volatile _ on x = x

abbrev pub sees_rise : Stat → ℕ → SideView → SideView
sees_rise stat n x = record x { stages = with_stage stat (min 12 (stage_of stat x.stages + n)) x.stages }

abbrev pub sees_drop : Stat → ℕ → SideView → SideView
sees_drop stat n x = record x { stages = with_stage stat (stage_of stat x.stages - n) x.stages }

abbrev pub won_by : Side → Outcome
won_by One = outcomes.WinOne
won_by Two = outcomes.WinTwo

unfoldable pub sees : Event → View → View
sees (events.Turn n) v = record v { turn = n }
sees (events.Switch w place level h) v = on_side_view w.side (sees_switch place h) v
sees (events.Damage w h source) v = on_active_shown w (λ m. record m { hp = h.hp }) v
sees (events.Heal w h) v = on_active_shown w (λ m. record m { hp = h.hp }) v
sees (events.Status w kind) v = on_active_shown w (λ m. record m { kind = Some kind }) v
sees (events.Cure w kind) v = on_active_shown w (λ m. record m { kind = None }) v
sees (events.Faint w) v = on_active_shown w (λ m. not_shown) v
sees (events.Boost w stat n) v = on_named w (sees_rise stat n) v
sees (events.Unboost w stat n) v = on_named w (sees_drop stat n) v
sees events.ClearAll v = record v { one = cleared v.one; two = cleared v.two }
sees (events.Start w what) v = on_named w (sees_volatile what true) v
sees (events.End w what) v = on_named w (sees_volatile what false) v
sees (events.Win s) v = record v { outcome = won_by s }
sees events.Tie v = record v { outcome = outcomes.Tie }
sees (events.Fault n) v = record v { outcome = outcomes.Fault n }
sees _ v = v

unfoldable pub sees_all : List Event → View → View
sees_all [] v = v
sees_all (event ∷ more) v = sees_all more (sees event v)

-- What a spectator should know about a battle, computed from its field.
abbrev pub shown : Member → Shown
shown m = record { hp = m.hp; kind = kind_of m.status }

abbrev pub side_shows : Party → SideView
side_shows t = let c = t.active.conditions in record {
  place = t.active.place;
  members = map shown t.members;
  stages = t.active.stages;
  substitute = is_some c.substitute;
  confused = is_some c.confused;
  light_screen = c.light_screen;
  reflect = c.reflect;
}

abbrev pub shows : Field → View
shows f = record { one = side_shows f.one; two = side_shows f.two; turn = f.turn; outcome = f.outcome }
