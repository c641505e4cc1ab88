-- A walk as a plain struct that its caller keeps, and how it follows the ways of an update (include/gen1.h, "exact outcomes").
use Rattle.std.specs.Prelude.{Bool, List, None, Option, Some, false, true, ℕ, ◌≡◌, ◌≢◌, ◌⊎◌, min, replicate, slice_index, slice_index_or, suc, zero, ◌*◌, ◌+◌, ◌<◌, ◌≤◌}
use Rattle.gen1_rolls.specs.Draws.{Drawing}
use Rattle.gen1_rolls.specs.Streams.{Drawn, Stream}
use Rattle.gen1_machine.specs.declared.side.Choice.{Choice}
use Rattle.gen1_machine.specs.declared.terms.Request.TheVariants.{Move}
use Rattle.gen1_machine.specs.State.{State}
use Rattle.gen1_machine.specs.Progress.{Progress}
use Rattle.gen1_machine.specs.Ruling.{ruling_of}
use Rattle.gen1_machine.specs.Turn.{turn}
use Rattle.gen1_machine.specs.Step.{close_update}
use Rattle.gen1_layout.specs.Parts.{Parts}
use Rattle.gen1_layout.specs.Shows.{Telling, Stands, Within, setting_of}
use Rattle.gen1_layout.specs.Operations.{Scene}
use Rattle.gen1_engine.specs.Update.{AreOffered}
use Rattle.gen1_outcomes.specs.declared.log.Entry.{Entry}
use Rattle.gen1_outcomes.specs.declared.nodes.Chance.{Chance}
use Rattle.gen1_outcomes.specs.declared.nodes.Nodes.{Nodes}
use Rattle.gen1_outcomes.specs.declared.successor.OutcomeOptions.{OutcomeOptions}
use Rattle.gen1_outcomes.specs.Logs.{Agrees, IsLogged}
use Rattle.gen1_outcomes.specs.Nodes.{AllDone, IsChance, IsPathOf, LeadsOn, script_of}
use Rattle.gen1_switching.specs.SwitchingIn.{Steps, UpdatesDrawing, drawing_on}
use Rattle.gen1_rolls.specs.declared.rolls.Look.{Look}
use Rattle.gen1_rolls.specs.declared.rolls.Look.TheVariants.{Below, Factor, Remainder, RotatedBelow}
use Rattle.gen1_engine.specs.Replay.{choices_at}
use Rattle.gen1_outcomes.specs.declared.nodes.Node.{Node}
use Rattle.gen1_outcomes.specs.Bytes.{size}
use Rattle.gen1_outcomes.specs.declared.plain.PlainDraw.{PlainDraw}
use Rattle.gen1_outcomes.specs.declared.plain.PlainWalk.{PlainWalk}

-- What can follow from a pair of choices: what the machine makes of it, with some stream of bytes for its draws
-- (docs/MECHANICS.md, "Link numbers", "Falls and requests").

-- A walk through the ways of an update of a battle by a pair of choices: which of them are listed, the draws of the next one, and whether
-- all were played.
pub record Walk : Type 0 where
  pub start : Parts
  pub one : Choice
  pub two : Choice
  pub options : OutcomeOptions
  pub nodes : Nodes
  pub over : Bool

-- No way of a walk was played.
pub record IsBegun (battle : Parts) (first second : Choice) (form : OutcomeOptions) (w : Walk) : Type 0 where
  pub start : w.start ≡ battle
  pub one : w.one ≡ first
  pub two : w.two ≡ second
  pub options : w.options ≡ form
  pub noted : w.nodes.options ≡ form
  pub empty : w.nodes.len ≡ 0
  pub going : w.over ≡ false

-- A way was played, of these draws: they lead on to those of the next way, or nothing of them is left to be tried.
pub record GoesPast (nodes : Nodes) (old new : Walk) : Type 0 where
  pub start : new.start ≡ old.start
  pub one : new.one ≡ old.one
  pub two : new.two ≡ old.two
  pub options : new.options ≡ old.options
  pub going : old.over ≡ false
  pub next : ((new.over ≡ false) × LeadsOn nodes new.nodes) ⊎ ((new.over ≡ true) × AllDone nodes)

-- A turn, and its close, with the draws of a stream from a place on.
abbrev pub turn_on : State → Choice → Choice → Stream → ℕ → Progress
turn_on s one two stream n = close_update (ruling_of s.terms) (turn (ruling_of s.terms) one two (drawing_on stream n s))

-- An update by two offered choices with draws from a generator, as it was and as it is left: a turn with its draws, or
-- where no turn is due, which draws nothing, the machine's step.
pub record Plays {A : Type 0} (drawing : Drawing A) (old new : A) (s : State) (one two : Choice) (change : Scene) : Type 0 where
  pub by_turn : s.field.request_one ≡ Move → UpdatesDrawing drawing old new (setting_of s) change (turn_on s one two)
  pub by_step : s.field.request_one ≢ Move → (change λ _ _ _ parts events _. Steps s one two parts events) × (new ≡ old)

-- The bytes represent the field that it leaves, in the setting from before, and the events are its.
pub record AreOf (s : State) (parts : Parts) (events : Telling) (q : Progress) : Type 0 where
  pub within : Within (setting_of s) parts q.field
  pub written : events q.events

-- The battle and the events follow from a pair of choices with the draws of a stream: those of the turn, or where no
-- turn is due, which draws nothing, those of the machine's step.
pub record Follows (s : State) (one two : Choice) (stream : Stream) (parts : Parts) (events : Telling) : Type 0 where
  pub by_turn : s.field.request_one ≡ Move → AreOf s parts events (turn_on s one two stream 0)
  pub by_step : s.field.request_one ≢ Move → Steps s one two parts events

-- They follow with the draws of each stream that agrees with a log.
abbrev pub Leads : State → Choice → Choice → List Entry → Parts → Telling → Type 0
Leads s one two log parts events = (stream : Stream) → Agrees log stream → Follows s one two stream parts events

-- They follow with the draws of each stream that agrees with some log, and a stream does: of bytes, of which any 280 in a row hold every one.
pub record CanFollow (s : State) (one two : Choice) (parts : Parts) (events : Telling) : Type 0 where
  pub log : List Entry
  pub bytes : ℕ → ℕ
  pub agrees : Agrees log (Drawn bytes 280)
  pub leads : Leads s one two log parts events

-- The next way of a walk was played, and these are the nodes after it: it leads to a battle and events on each stream that agrees with its log.
pub record PlaysWay (w : Walk) (nodes : Nodes) (parts : Parts) (events : Telling) : Type 0 where
  pub path : List ℕ
  pub is_path : IsPathOf w.nodes path
  pub way : IsLogged (script_of path) w.nodes nodes
  pub leads : (s : State) → Stands w.start s → AreOffered s w.one w.two → Leads s w.one w.two way.log parts events

-- A walk plays a way of this probability; or all were played, and nothing happens.
abbrev pub PlaysNext : Option Chance → Walk → Walk → Parts → Telling → Type 0
PlaysNext (Some c) old new parts events = (nodes : Nodes) × IsChance nodes c × GoesPast nodes old new × PlaysWay old nodes parts events
PlaysNext None old new parts events = (old.over ≡ true) × (new ≡ old)

-- A place for a draw: zeros.
abbrev pub no_draw : PlainDraw
no_draw = record {
  num = replicate 2 0;
  whole = replicate 2 0;
  rest = replicate 4 0;
  total = 0;
  count = 0;
  look = replicate 2 0;
  kind = 0;
  byte = 0;
  unused = replicate 6 0;
}

-- The walk of an update of a battle by two bytes, before its first way.
abbrev pub walk_before : Parts → ℕ × ℕ → ℕ → PlainWalk
walk_before battle bytes classes = record {
  battle = battle;
  draws = replicate 24 no_draw;
  count = 0;
  one = bytes.0;
  two = bytes.1;
  damage_classes = classes;
  over = 0;
  unused = replicate 3 0;
}

-- The number of two words, its low 64 bits first.
abbrev pub number_of : List ℕ → ℕ
number_of words = slice_index words 1 * 18446744073709551616 + slice_index words 0

-- What is looked at, by its kind and its numbers.
abbrev pub look_at : ℕ → List ℕ → Option Look
look_at zero numbers = Some (Below (min (slice_index numbers 0) 255))
look_at (suc zero) numbers = Some (RotatedBelow (min (slice_index numbers 0) 255))
look_at (suc (suc zero)) numbers = Some (Remainder (slice_index numbers 0))
look_at (suc (suc (suc zero))) numbers = Some (Factor (slice_index numbers 0) (slice_index numbers 1) true)
look_at (suc (suc (suc (suc zero)))) numbers = Some (Factor (slice_index numbers 0) (slice_index numbers 1) false)
look_at (suc (suc (suc (suc (suc kind))))) numbers = None

-- A draw that can be read: the probability before it has a denominator, it may have no fewer bytes than are alike to the
-- one that it has or left, and its kind is known.
pub record IsDraw (draw : PlainDraw) : Type 0 where
  pub whole : number_of draw.whole ≢ 0
  pub few : draw.count + size (record { words = draw.rest }) ≤ draw.total
  pub kind : draw.kind ≤ 4

-- The draws of a walk can be read.
pub record HasDraws (walk : PlainWalk) : Type 0 where
  pub count : walk.count ≤ 24
  pub draws : (k : ℕ) → (none : PlainDraw) → k < walk.count → IsDraw (slice_index_or walk.draws k none)

-- A walk of which a way is left: it isn't over, and its bytes are choices and draws.
pub record IsUnderway (walk : PlainWalk) : Type 0 where
  pub going : walk.over ≡ 0
  pub pair : Choice × Choice
  pub choices : choices_at (walk.one, walk.two) ≡ Some pair
  pub has_draws : HasDraws walk

-- A draw as a plain struct.
pub record IsPlain (node : Node) (draw : PlainDraw) : Type 0 where
  pub num : number_of draw.num ≡ node.above.num
  pub whole : number_of draw.whole ≡ node.above.whole
  pub rest : draw.rest ≡ node.rest.words
  pub total : draw.total ≡ node.total
  pub count : draw.count ≡ node.count
  pub look : look_at draw.kind draw.look ≡ Some node.look
  pub byte : draw.byte ≡ node.byte

-- Each of the first draws is one of a walk.
abbrev pub ArePlain : ℕ → List Node → List PlainDraw → Type 0
ArePlain count nodes draws =
    (k : ℕ) → (node : Node) → (draw : PlainDraw) → k < count → IsPlain (slice_index_or nodes k node) (slice_index_or draws k draw)

-- The draws of a way lead on to those of the next one, which the walk has.
pub record GoesOnTo (nodes : Nodes) (walk : PlainWalk) : Type 0 where
  pub going : walk.over ≡ 0
  pub next : Nodes
  pub leads : LeadsOn nodes next
  pub count : walk.count ≡ next.len
  pub draws : ArePlain next.len next.list walk.draws

-- The draws of a way are the last ones, and the walk is over.
pub record EndsWith (nodes : Nodes) (walk : PlainWalk) : Type 0 where
  pub over : walk.over ≡ 1
  pub done : AllDone nodes

-- A probability is that of the draws of a way, after which a walk goes on, or ends.
pub record IsWay (c : Chance) (walk : PlainWalk) : Type 0 where
  pub nodes : Nodes
  pub chance : IsChance nodes c
  pub next : GoesOnTo nodes walk ⊎ EndsWith nodes walk

-- The next way of a plain walk was played: its probability is that of its draws, and it leads to a battle and events on each stream that agrees
-- with its log.
pub record PlaysPlain (c : Chance) (old new : PlainWalk) (parts : Parts) (events : Telling) : Type 0 where
  pub before : Nodes
  pub length : before.len ≡ old.count
  pub draws : ArePlain old.count before.list old.draws
  pub path : List ℕ
  pub is_path : IsPathOf before path
  pub nodes : Nodes
  pub chance : IsChance nodes c
  pub next : GoesOnTo nodes new ⊎ EndsWith nodes new
  pub way : IsLogged (script_of path) before nodes
  pub leads : (s : State) → Stands old.battle s → (pair : Choice × Choice) → choices_at (old.one, old.two) ≡ Some pair → AreOffered s pair.0 pair.1
      → Leads s pair.0 pair.1 way.log parts events

-- The bytes of draws that are always 0 are written with 0, or stay.
abbrev pub KeepsUnused : List PlainDraw → List PlainDraw → Type 0
KeepsUnused old new =
    (k : ℕ) → (draw : PlainDraw) → ((slice_index_or new k draw).unused ≡ replicate 6 0) ⊎ ((slice_index_or new k draw).unused ≡ (slice_index_or old k draw).unused)

-- Two walks are of the same update, in as many classes of damage.
pub record KeepsUpdate (old new : PlainWalk) : Type 0 where
  pub battle : new.battle ≡ old.battle
  pub one : new.one ≡ old.one
  pub two : new.two ≡ old.two
  pub classes : new.damage_classes ≡ old.damage_classes
  pub unused : new.unused ≡ old.unused
