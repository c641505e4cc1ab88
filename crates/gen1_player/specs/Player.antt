-- What a player knows: a function of its own team and its terms, of the log bytes that were reported to it, and of what it was last shown of itself
-- (docs/MECHANICS.md, "Player's view").
use Rattle.std.specs.Prelude.{List, [], length, map, replicate, slice_index_or, take, ℕ, ◌++◌, ◌-◌, ◌≡◌, ◌≤◌, ◌∷◌}
use Rattle.gen1_stats.specs.Members.{Member}
use Rattle.gen1_machine.specs.declared.event.Event.{Event}
use Rattle.gen1_machine.specs.declared.side.Side.{Side}
use Rattle.gen1_machine.specs.Numbers.{side_number}
use Rattle.gen1_machine.specs.Rules.{bits_of_rules}
use Rattle.gen1_events.specs.Reader.{IsPart, Splits}
use Rattle.gen1_player.specs.declared.own.OwnSide.{OwnSide}
use Rattle.gen1_player.specs.declared.own.OwnMember.{OwnMember}
use Rattle.gen1_player.specs.declared.player.Player.{Player}
use Rattle.gen1_player.specs.declared.player.PlayerTerms.{PlayerTerms}
use Rattle.gen1_player.specs.declared.public.Public.{Public}
use Rattle.gen1_player.specs.declared.public_side.PublicSide.{PublicSide}
use Rattle.gen1_player.specs.declared.seen.Seen.{Seen}
use Rattle.gen1_player.specs.Public.{first_public, first_public_side, hears_all, not_seen, on_public_side}
use Rattle.gen1_player.specs.Telling.{form_number}

-- A side knows its own members before they appear.
abbrev pub known_member : Member → Seen
known_member m = record not_seen { hp = m.max; max = m.max; species = m.species; level = m.level }

abbrev pub known_at : ℕ → List Member → Seen
known_at k team = slice_index_or (map known_member team) k not_seen

abbrev pub known_side : List Member → PublicSide
known_side team = record first_public_side {
  members = known_at 0 team ∷ known_at 1 team ∷ known_at 2 team ∷ known_at 3 team ∷ known_at 4 team ∷ known_at 5 team ∷ [];
}

-- Of the foe it knows nothing.
abbrev pub first_known : Side → List Member → Public
first_known side team = on_public_side side (λ _. known_side team) first_public

-- Before it was shown itself for the first time
abbrev pub not_shown_member : OwnMember
not_shown_member = record {
  species = 0;
  level = 0;
  status = 0;
  unused = 0;
  moves = replicate 4 0;
  pp = replicate 4 0;
  hp = 0;
  max_hp = 0;
  stats = replicate 4 0;
}

abbrev pub not_shown : OwnSide
not_shown = record {
  members = replicate 6 not_shown_member;
  conditions = 0;
  stats = replicate 4 0;
  turn = 0;
  place = 0;
  types = replicate 2 0;
  stages = replicate 6 0;
  disabled_slot = 0;
  held = 0;
  request = 0;
  outcome = 0;
  count = 0;
}

-- What a side is shown of itself after an update, and the set of its choices.
pub record Shown : Type 0 where
  pub own : OwnSide
  pub offered : ℕ

-- The player after some events, with the bytes of an event that has come in part.
abbrev pub player_of : Side → List Member → PlayerTerms → List Event → List ℕ → Shown → Player
player_of side team terms events held shown = record {
  public = hears_all events (first_known side team);
  own = shown.own;
  offered = shown.offered;
  limit = terms.limit;
  side = side_number side;
  foes = terms.foes;
  rules = bits_of_rules terms.rules;
  hp_form = form_number terms.hp_form;
  held_count = length held;
  held = held ++ replicate (10 - length held) 0;
  unused = 0;
}

-- What a feed leaves of any bytes, valid or not: at most ten bytes are held, with zeros after them, and no more changes than these and
-- what is public.
pub record IsFed (old new : Player) : Type 0 where
  pub few : new.held_count ≤ 10
  pub zeros : new.held ≡ take new.held_count new.held ++ replicate (10 - new.held_count) 0
  pub others : new ≡ record old { public = new.public; held_count = new.held_count; held = new.held }

-- It knows what follows from its side, its team and its terms, the bytes that were reported to it, and what it was shown last; and nothing else.
pub record IsPlayer (side : Side) (team : List Member) (terms : PlayerTerms) (told : List ℕ) (shown : Shown) (player : Player) : Type 0 where
  pub events : List Event
  pub held : List ℕ
  pub splits : Splits told events held
  pub part : IsPart held
  pub is : player ≡ player_of side team terms events held shown
