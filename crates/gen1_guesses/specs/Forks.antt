-- The battle that fits what a player knows, its members, its state (docs/MECHANICS.md, "A battle that fits"), and what holds of it.
use Rattle.std.specs.Prelude.{Bool, List, [], if◌then◌else◌, max, min, slice_index, slice_index_or, ℕ, ◌&&◌, ◌*◌, ◌+◌, ◌-◌, ◌/◌, ◌==◌, ◌∷◌, false, not, replicate, ◌||◌, Err, None, Ok, Result, nat_le, Option, Some, length, true, ◌≡◌, ◌≢◌, ◌≤◌}
use Rattle.gen1_stats.specs.Members.{Member, nobody, IsTeam}
use Rattle.gen1_player.specs.Public.{not_seen, not_used, public_side}
use Rattle.gen1_player.specs.Player.{not_shown_member, IsPlayer}
use Rattle.gen1_player.specs.declared.own.OwnMember.{OwnMember}
use Rattle.gen1_player.specs.declared.seen.Seen.{Seen}
use Rattle.gen1_player.specs.declared.seen.SeenMove.{SeenMove}
use Rattle.gen1_states.specs.Plain.{no_member, bytes_of, on, ◌▸◌}
use Rattle.gen1_states.specs.Reading.{member_state}
use Rattle.gen1_states.specs.declared.plain.MemberState.{MemberState}
use Rattle.std.specs.Int.{bit_at}
use Rattle.gen1_tables.specs.Effects.{bides, charges, rages, recharges, traps}
use Rattle.gen1_tables.specs.Moves.{struggle}
use Rattle.gen1_layout.specs.Loading.{effect_of_number}
use Rattle.gen1_machine.specs.Layout.{number_of_bits}
use Rattle.gen1_machine.specs.Rules.{bit_of, rules_of}
use Rattle.gen1_player.specs.declared.own.OwnSide.{OwnSide}
use Rattle.gen1_player.specs.declared.public_side.PublicSide.{PublicSide}
use Rattle.gen1_states.specs.declared.plain.ActiveState.{ActiveState}
use Rattle.gen1_guesses.specs.declared.active.Known.{Known}
use Rattle.gen1_player.specs.Telling.{form_of, told_in, form_number, meets_all, told_all, IsTeller}
use Rattle.gen1_player.specs.declared.player.Player.{Player}
use Rattle.gen1_guesses.specs.declared.guess.GuessFault.{GuessFault}
use Rattle.gen1_machine.specs.declared.side.Side.{Side}
use Rattle.gen1_machine.specs.declared.side.Side.TheVariants.{One, Two}
use Rattle.gen1_machine.specs.Sides.{other}
use Rattle.gen1_player.specs.declared.teller.HpForm.{HpForm}
use Rattle.gen1_states.specs.declared.plain.BattleState.{BattleState}
use Rattle.gen1_states.specs.declared.plain.SideState.{SideState}
use Rattle.gen1_guesses.specs.declared.guess.Guess.{Guess}
use Rattle.gen1_rolls.specs.Streams.{IsStream, Link}
use Rattle.gen1_machine.specs.declared.side.Choice.{Choice}
use Rattle.gen1_machine.specs.State.{first_state, member_at as member_of, party, State, Terms}
use Rattle.gen1_machine.specs.Step.{run, Ran}
use Rattle.gen1_machine.specs.Valid.{IsTerms}
use Rattle.gen1_machine.specs.View.{shows}
use Rattle.gen1_events.specs.Reader.{IsReading}
use Rattle.gen1_layout.specs.Parts.{parts_of}
use Rattle.gen1_layout.specs.Shows.{Stands}
use Rattle.gen1_player.specs.declared.public.Public.{Public}
use Rattle.gen1_player.specs.declared.teller.Teller.{Teller}
use Rattle.gen1_player.specs.OwnSide.{own_side, plain_side}
use Rattle.gen1_player.specs.True.{as_known, events_in, first_teller, team_of, AgreesWith, BothDo, IsTold, SideHasAppeared, SideSleeps}
use Rattle.gen1_states.specs.Tests.{completed}
use Rattle.gen1_guesses.specs.declared.guess.GuessFault.TheVariants as faults

-- The members of both sides, as far as a player knows them (docs/MECHANICS.md, "A battle that fits").

-- The turns of sleep that are left after some: of two by Rest, and else three, while as many may be left.
abbrev pub turns_left : ℕ → ℕ → ℕ
turns_left asleep_by slept = if asleep_by == 2 then max 1 (2 - slept) else max 1 (min 3 (7 - slept))

-- A sleeping member has the kind 1.
abbrev pub sleep_of : ℕ → Seen → ℕ
sleep_of status s = if status == 1 then turns_left s.asleep_by s.slept else 0

-- Under the sleep clause it has the mark if a move of the foe put it to sleep.
abbrev pub mark_of : Bool → ℕ → ℕ → ℕ
mark_of clause status asleep_by = if clause && (status == 1 && asleep_by == 1) then 1 else 0

abbrev pub seen_in : ℕ → List Seen → Seen
seen_in k seen = slice_index_or seen k not_seen

-- An own member is as it was shown.
abbrev pub own_member : Bool → Seen → OwnMember → MemberState
own_member clause s m = record {
  species = m.species;
  level = m.level;
  status = m.status;
  sleep = sleep_of m.status s;
  marked = mark_of clause m.status s.asleep_by;
  moves = m.moves;
  pp = m.pp;
  hp = m.hp;
  max_hp = m.max_hp;
  stats = m.stats;
}

abbrev pub own_at : ℕ → Bool → List Seen → List OwnMember → MemberState
own_at k clause seen shown = own_member clause (seen_in k seen) (slice_index_or shown k not_shown_member)

abbrev pub own_members : Bool → List Seen → List OwnMember → List MemberState
own_members clause seen shown =
    own_at 0 clause seen shown ∷ own_at 1 clause seen shown ∷ own_at 2 clause seen shown ∷ own_at 3 clause seen shown
    ∷ own_at 4 clause seen shown ∷ own_at 5 clause seen shown ∷ []

-- The members of a team, at full HP and full PP.
abbrev fresh_at : ℕ → List Member → MemberState
fresh_at k team = member_state (slice_index_or team k nobody)

abbrev pub fresh_members : List Member → List MemberState
fresh_members team = fresh_at 0 team ∷ fresh_at 1 team ∷ fresh_at 2 team ∷ fresh_at 3 team ∷ fresh_at 4 team ∷ fresh_at 5 team ∷ []

-- The least HP of a member with this maximum that a player learns as this part of a whole. Of hundredths, which are rounded up, it is the most.
abbrev pub least_hp : ℕ → ℕ → ℕ → ℕ
least_hp told whole most = (told * most + (max whole 1 - 1)) / max whole 1

abbrev most_hp : ℕ → ℕ → ℕ
most_hp told most = max (told * most / 100) (min told 1)

abbrev pub hp_of : ℕ → ℕ → ℕ → ℕ
hp_of told whole most = min (if whole == 100 then most_hp told most else least_hp told whole most) most

-- How often a move was used: the count of the first slot that has it.
abbrev pub in_slot : ℕ → List SeenMove → SeenMove
in_slot k uses = slice_index_or uses k not_used

abbrev pub uses_of : ℕ → List SeenMove → ℕ
uses_of id uses =
    if (in_slot 0 uses).id == id then (in_slot 0 uses).uses
    else if (in_slot 1 uses).id == id then (in_slot 1 uses).uses
    else if (in_slot 2 uses).id == id then (in_slot 2 uses).uses
    else if (in_slot 3 uses).id == id then (in_slot 3 uses).uses
    else if (in_slot 4 uses).id == id then (in_slot 4 uses).uses
    else 0

-- The PP of the guess less these uses.
abbrev pp_in : ℕ → List SeenMove → MemberState → ℕ
pp_in k uses m = slice_index m.pp k - uses_of (slice_index m.moves k) uses

abbrev pub pp_left : List SeenMove → MemberState → List ℕ
pp_left uses m = pp_in 0 uses m ∷ pp_in 1 uses m ∷ pp_in 2 uses m ∷ pp_in 3 uses m ∷ []

-- A member of the foe that has appeared has the reported status and HP, and the PP that its uses have left.
abbrev pub told : Bool → Seen → MemberState → MemberState
told clause s m = record m {
  status = s.status;
  sleep = sleep_of s.status s;
  marked = mark_of clause s.status s.asleep_by;
  pp = pp_left s.moves m;
  hp = hp_of s.hp s.max m.max_hp;
}

abbrev pub told_if_seen : Bool → Seen → MemberState → MemberState
told_if_seen clause s m = if s.species == 0 then m else told clause s m

abbrev in_team : ℕ → List MemberState → MemberState
in_team k members = slice_index_or members k no_member

abbrev pub told_at : ℕ → Bool → List Seen → List MemberState → MemberState
told_at k clause seen fresh = told_if_seen clause (seen_in k seen) (in_team k fresh)

abbrev pub members_of : Bool → List Seen → List MemberState → List MemberState
members_of clause seen fresh =
    told_at 0 clause seen fresh ∷ told_at 1 clause seen fresh ∷ told_at 2 clause seen fresh ∷ told_at 3 clause seen fresh
    ∷ told_at 4 clause seen fresh ∷ told_at 5 clause seen fresh ∷ []

-- The member at a place, from 1; none past the sixth.
abbrev pub member_at : ℕ → List MemberState → MemberState
member_at place members = slice_index_or members (place - 1) no_member

-- The active members, as far as a player knows them (docs/MECHANICS.md, "A battle that fits").

abbrev pub is_on : ℕ → Bool
is_on flag = not (flag == 0)

-- The conditions of the foe's active member, from the lowest bit up: those that were announced, and Trapping if the player is held.
-- What belongs to a move is on only if the last move explains it. Thrash and Flinch are never known.
abbrev pub foe_bits : PublicSide → Bool → List Bool
foe_bits x held =
    let a = x.announced in
    let effect = effect_of_number x.last_move in
    (is_on a.bide && bides effect) ∷ false ∷ (held && traps effect) ∷ false ∷ (is_on a.charging && charges effect)
    ∷ is_on x.invulnerable ∷ is_on a.confused ∷ is_on a.mist ∷ is_on a.focus_energy ∷ is_on a.substitute
    ∷ (is_on a.recharging && recharges effect) ∷ (is_on a.rage && rages effect)
    ∷ is_on a.seeded ∷ is_on a.toxic ∷ is_on a.light_screen ∷ is_on a.reflect ∷ is_on a.disabled ∷ []

-- Parts of their sum.
abbrev pub of_moves : PublicSide → Bool → ℕ
of_moves x held =
    let a = x.announced in
    let effect = effect_of_number x.last_move in
    bit_of (is_on a.bide && bides effect) + 4 * bit_of (held && traps effect) + 16 * bit_of (is_on a.charging && charges effect)
    + 1024 * bit_of (is_on a.recharging && recharges effect) + 2048 * bit_of (is_on a.rage && rages effect)

abbrev pub is_free : PublicSide → ℕ
is_free x =
    let a = x.announced in
    32 * bit_of (is_on x.invulnerable) + 128 * bit_of (is_on a.mist) + 256 * bit_of (is_on a.focus_energy)
    + 4096 * bit_of (is_on a.seeded) + 16384 * bit_of (is_on a.light_screen) + 32768 * bit_of (is_on a.reflect)

-- The slot that Disable blocks: the first with PP left whose move is not the last one, else the first.
abbrev may_be_blocked : MemberState → ℕ → ℕ → Bool
may_be_blocked m last k = not (slice_index m.pp k == 0) && not (slice_index m.moves k == last)

abbrev pub blocked_slot : MemberState → ℕ → ℕ
blocked_slot m last =
    if may_be_blocked m last 0 then 1
    else if may_be_blocked m last 1 then 2
    else if may_be_blocked m last 2 then 3
    else if may_be_blocked m last 3 then 4
    else 1

-- What is known of an active member: of the own one what was shown, of the foe's what the log made public.
abbrev pub own_known : OwnSide → PublicSide → Known
own_known own x = record {
  conditions = own.conditions;
  stats = own.stats;
  place = own.place;
  types = own.types;
  stages = own.stages;
  disabled_slot = own.disabled_slot;
  bad_poison = x.announced.toxic_count;
  last_move = x.last_move;
}

abbrev pub foe_known : PublicSide → Bool → MemberState → Known
foe_known x held m = record {
  conditions = number_of_bits (foe_bits x held);
  stats = replicate 4 0;
  place = x.place;
  types = x.first_type ∷ x.second_type ∷ [];
  stages = x.stages.attack ∷ x.stages.defense ∷ x.stages.speed ∷ x.stages.special ∷ x.stages.accuracy ∷ x.stages.evasion ∷ [];
  disabled_slot = on (is_on x.announced.disabled) (blocked_slot m x.last_move);
  bad_poison = x.announced.toxic_count;
  last_move = x.last_move;
}

-- The slot of the last move: 5 for Struggle, 0 for no move, and for one that is in no slot.
abbrev pub used_slot : ℕ → List ℕ → ℕ
used_slot id ids =
    if id == 0 then 0
    else if id == struggle then 5
    else if slice_index ids 0 == id then 1
    else if slice_index ids 1 == id then 2
    else if slice_index ids 2 == id then 3
    else if slice_index ids 3 == id then 4
    else 0

-- Whether a condition is on, by the place of its bit.
abbrev pub has : ℕ → ℕ → Bool
has conditions bit = bit_at conditions bit == 1

-- The active member, with middle values of the hidden counts: three turns of confusion, four of Disable, two of Bide,
-- thrashing or trapping, and a Substitute of a quarter of the maximum HP.
abbrev pub active_state : Known → MemberState → ActiveState
active_state k m = record {
  conditions = k.conditions;
  stats = k.stats;
  energy = 0;
  place = k.place;
  types = k.types;
  stages = k.stages;
  current_move = used_slot k.last_move m.moves;
  picked_move = used_slot k.last_move m.moves;
  kept_accuracy = on (has k.conditions 1 || has k.conditions 11) 255;
  substitute = on (has k.conditions 9) (min (m.max_hp / 4) 249);
  confusion = on (has k.conditions 6) 3;
  disabled_slot = k.disabled_slot;
  disabled_turns = on (has k.conditions 16) 4;
  bad_poison = on (has k.conditions 13) k.bad_poison;
  turns = on ((has k.conditions 0 || has k.conditions 1) || has k.conditions 2) 2;
}

-- Whether a guess fits what a player knows (docs/MECHANICS.md, "A battle that fits").

-- Nothing is wrong, or this is.
abbrev pub Tested : Type 0
Tested = Result (Unit {0}) GuessFault

abbrev pub unless : Bool → GuessFault → Tested
unless holds fault = if holds then Ok tt else Err fault

-- Both sides have a member out, and the battle is not over.
abbrev pub tested_going : Player → PublicSide → Tested
tested_going p foe =
    unless ((not (p.own.place == 0) && not (foe.place == 0)) && (p.own.outcome == 0 && p.public.outcome == 0)) faults.NotGoingOn

-- The foe has as many members as the player knows, if it does.
abbrev pub tested_count : ℕ → ℕ → Tested
tested_count known count = unless (known == 0 || known == count) (faults.Count known)

abbrev pub knows : ℕ → MemberState → Bool
knows id m = slice_index m.moves 0 == id || slice_index m.moves 1 == id || slice_index m.moves 2 == id || slice_index m.moves 3 == id

-- Each member may use Struggle.
abbrev pub tested_use : ℕ → ℕ → MemberState → Tested
tested_use number id m = unless (id == 0 || id == struggle || knows id m) (faults.Move number id)

abbrev pub id_in : ℕ → Seen → ℕ
id_in k s = (slice_index_or s.moves k not_used).id

-- A member knows the moves that it was seen to prepare or to use.
unfoldable pub tested_uses : ℕ → Seen → MemberState → Tested
tested_uses number s m =
    tested_use number (id_in 0 s) m ▸ tested_use number (id_in 1 s) m ▸ tested_use number (id_in 2 s) m ▸ tested_use number (id_in 3 s) m
    ▸ tested_use number (id_in 4 s) m

-- In this form, HP of this maximum are reported as this number of this whole.
abbrev pub is_told_as : ℕ → ℕ → ℕ → ℕ → ℕ → Bool
is_told_as form n whole hp most =
    let h = told_in (form_of form) (record { hp = hp; max = most; kind = None }) in h.hp == n && h.max == whole

-- The reported HP of a member allow this maximum: its HP in the battle are reported so.
abbrev pub allows_max : ℕ → Seen → ℕ → Bool
allows_max form s most = (nat_le 11 most && nat_le most 999) && is_told_as form s.hp s.max (hp_of s.hp s.max most) most

abbrev pub tested_hp : ℕ → ℕ → Seen → MemberState → Tested
tested_hp form number s m = unless (allows_max form s m.max_hp) (faults.Hp number)

-- A member that has appeared is the one of the guess, which can have the reported HP.
abbrev pub tested_member : ℕ → ℕ → Seen → MemberState → Tested
tested_member form number s m =
    if s.species == 0 then Ok tt
    else if s.species == m.species && s.level == m.level then tested_hp form number s m ▸ tested_uses number s m
    else Err (faults.Member number)

abbrev pub at_index : ℕ → ℕ → List Seen → List MemberState → ℕ → Tested
at_index form k seen fresh number = tested_member form number (slice_index_or seen k not_seen) (slice_index_or fresh k no_member)

unfoldable pub tested_members : ℕ → List Seen → List MemberState → Tested
tested_members form seen fresh =
    at_index form 0 seen fresh 1 ▸ at_index form 1 seen fresh 2 ▸ at_index form 2 seen fresh 3 ▸ at_index form 3 seen fresh 4
    ▸ at_index form 4 seen fresh 5 ▸ at_index form 5 seen fresh 6

-- The first fact that does not fit, of a guess with so many members. The last is the move that the foe's active member used last.
unfoldable pub tested : Player → PublicSide → ℕ → List MemberState → Tested
tested p foe count fresh =
    tested_going p foe ▸ tested_count p.foes count ▸ tested_members p.hp_form foe.members fresh
    ▸ tested_use foe.place foe.last_move (member_at foe.place fresh)

abbrev pub side_of : ℕ → Option Side
side_of number = if number == 1 then Some One else if number == 2 then Some Two else None

-- The player's side: as it was shown.
unfoldable pub own_part : Bool → OwnSide → PublicSide → SideState
own_part clause own x =
    let members = own_members clause x.members own.members in
    record { members = members; active = active_state (own_known own x) (member_at own.place members) }

-- The foe's side: as the log made it public, and where it did not, as in the guess.
unfoldable pub foe_part : Bool → PublicSide → Bool → List MemberState → SideState
foe_part clause x held fresh =
    let members = members_of clause x.members fresh in
    let out = member_at x.place members in
    record { members = members; active = active_state (foe_known x held out) out }

-- The foe is asked for a move if the player is, and for a switch if its member has fallen.
unfoldable pub foe_request : ℕ → SideState → ℕ
foe_request request foe = if request == 1 then 1 else if (member_at foe.active.place foe.members).hp == 0 then 2 else 0

-- Both sides and their requests, that of side 1 first.
unfoldable pub in_order : Side → SideState → ℕ → SideState → ℕ → List SideState × List ℕ
in_order One own request foe asked = (own ∷ foe ∷ [], request ∷ asked ∷ [])
in_order Two own request foe asked = (foe ∷ own ∷ [], asked ∷ request ∷ [])

abbrev pub own_of : Bool → Side → Player → SideState
own_of clause s p = own_part clause p.own (public_side s p.public)

abbrev pub foe_of : Bool → Side → Player → List MemberState → SideState
foe_of clause s p fresh = foe_part clause (public_side (other s) p.public) (is_on p.own.held) fresh

abbrev both : Bool → Side → Player → List MemberState → List SideState × List ℕ
both clause s p fresh =
    let foe = foe_of clause s p fresh in in_order s (own_of clause s p) p.own.request foe (foe_request p.own.request foe)

-- Whether the sleep clause holds, as the player knows it.
abbrev pub clause_of : Player → Bool
clause_of p = (rules_of p.rules).sleep_clause

-- The turn, the limit and the rules are those of the player; the rest is guessed.
abbrev pub forked : Side → Player → Guess → List MemberState → BattleState
forked s p g fresh = record {
  sides = (both (clause_of p) s p fresh).0;
  turn = p.own.turn;
  limit = p.limit;
  last_damage = 0;
  rules = p.rules;
  outcome = 0;
  requests = (both (clause_of p) s p fresh).1;
  index = 0;
  numbers = g.numbers;
}

-- It, unless a fact does not fit.
abbrev pub if_fits : Tested → BattleState → Result BattleState GuessFault
if_fits (Ok fits) state = Ok state
if_fits (Err fault) state = Err fault

unfoldable pub guessed_for : Side → Player → Guess → Result BattleState GuessFault
guessed_for s p g =
    let fresh = fresh_members g.team in if_fits (tested p (public_side (other s) p.public) (length g.team) fresh) (forked s p g fresh)

abbrev by_side : Option Side → Player → Guess → Result BattleState GuessFault
by_side (Some s) p g = guessed_for s p g
by_side None p g = Err faults.NotGoingOn

abbrev pub guessed_state : Player → Guess → Result BattleState GuessFault
guessed_state p g = by_side (side_of p.side) p g

-- What holds of a battle that fits

-- The player of a side after a run of a battle by these terms, as the code can hold it: it was given them, fed what a teller told its side,
-- in the player's form of HP, and shown its own side last.
pub record HasPlayer (t : Terms) (s : Side) (one two : List Member) (r : Ran) (p : Player) : Type 0 where
  pub foes : ℕ
  pub form : HpForm
  pub offered : ℕ
  pub log : List ℕ
  pub told : IsReading log (told_all (events_in r) (first_teller s (form_number form)))
  pub slots : (k : ℕ) → length (seen_in k (public_side (other s) p.public).members).moves ≡ 5
  pub is : IsPlayer s (team_of s one two) (record { rules = t.rules; limit = t.limit; foes = foes; hp_form = form }) log
      (record { own = plain_side (own_side s r.state.field); offered = offered }) p

-- A guess as the code can hold it.
pub record IsGuess (g : Guess) : Type 0 where
  pub team : IsTeam g.team
  pub numbers : length g.numbers ≡ 10

-- The battle that `from_player` returns represents this state.
pub record IsFork (p : Player) (g : Guess) (f : State) : Type 0 where
  pub state : BattleState
  pub guessed : guessed_state p g ≡ Ok state
  pub stands : Stands (parts_of (bytes_of (completed state))) f

-- HP

-- A player learns these HP of a maximum as a number of a whole.
abbrev pub IsToldAs : ℕ → ℕ → ℕ → ℕ → ℕ → Type 0
IsToldAs form n whole hp most =
    let h = told_in (form_of form) (record { hp = hp; max = most; kind = None }) in (h.hp ≡ n) × (h.max ≡ whole)

-- It learns some HP of this maximum so.
abbrev pub MayBeTold : ℕ → ℕ → ℕ → ℕ → Type 0
MayBeTold form n whole most = (hp : ℕ) × (hp ≤ most) × IsToldAs form n whole hp most

-- The player learns the HP of a battle that fits as the number that it had learned, if it learns any HP of the guess's maximum so.
abbrev pub ForksTellHp : Type 0
ForksTellHp = (form n whole most : ℕ) → 11 ≤ most → MayBeTold form n whole most → IsToldAs form n whole (hp_of n whole most) most

-- A statement about a player after any run of a battle of two teams from its start.
abbrev pub OfPlayers : ((t : Terms) (s : Side) (one two : List Member) → Ran → Player → Type 0) → Type 0
OfPlayers says = (t : Terms) (one two : List Member) (seed : List ℕ) (pairs : List (Choice × Choice))
    → IsTerms t → IsStream (Link seed) → IsTeam one → IsTeam two
    → (s : Side) (p : Player) → HasPlayer t s one two (run (first_state t one two seed) pairs) p
    → says t s one two (run (first_state t one two seed) pairs) p

-- The place of the foe's member that has appeared with a number, which counts from 0.
abbrev pub place_of : ℕ → Side → Ran → Player → ℕ
place_of k s r p = slice_index_or (meets_all (events_in r) (first_teller s p.hp_form)).places k 0

-- No guess with the true maximum of a member is refused for the member's HP.
abbrev pub TrueHpFits : Type 0
TrueHpFits = OfPlayers λ t s one two r p. (k : ℕ) → (seen_in k (public_side (other s) p.public).members).species ≢ 0
    → allows_max p.hp_form (seen_in k (public_side (other s) p.public).members) (member_of (place_of k s r p) (party (other s) r.state.field)).max ≡ true

-- The whole

-- The battle has these terms, and the player is shown this side of it as its own. The public facts that it holds are what a side knows
-- (`PlayersHoldThePublic`) of something that agrees with the battle, as the log of a run does (`PublicAgrees`, `ConditionsAgree`,
-- `ActivesAgree`, `MembersAgree`, `SleepersAgree`).
pub record AgreesWithFork (t : Terms) (s : Side) (team : List Member) (p : Player) (f : State) : Type 0 where
  pub terms : f.terms ≡ t
  pub own : plain_side (own_side s f.field) ≡ p.own
  pub teller : Teller
  pub is_teller : IsTeller s teller
  pub form_is : teller.pixels ≡ p.hp_form
  pub public : Public
  pub known : p.public ≡ as_known s team teller public
  pub view : AgreesWith public (shows f.field)
  pub conditions : IsTold public f.field
  pub actives : BothDo public f.field
  pub own_members : SideHasAppeared (public_side s public) (party s f.field)
  pub foe_members : SideHasAppeared (public_side (other s) public) (party (other s) f.field)
  pub own_sleepers : SideSleeps t.rules.sleep_clause (public_side s public) (party s f.field)
  pub foe_sleepers : SideSleeps t.rules.sleep_clause (public_side (other s) public) (party (other s) f.field)

-- After any run of a battle of two teams from its start, of a player and any guess that fits.
abbrev pub ForksAgree : Type 0
ForksAgree = OfPlayers λ t s one two r p. (g : Guess) (f : State) → IsGuess g → IsFork p g f → AgreesWithFork t s (team_of s one two) p f
