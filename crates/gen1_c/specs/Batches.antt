-- Many battles in one call (include/gen1.h, "many battles").
use Rattle.std.specs.Prelude.{List, [], slice_index_or, ℕ, ◌<◌, ◌≡◌, ◌≢◌, ◌≤◌, ◌⊎◌, ◌∷◌, IsSome, None, Option, Some, false, if◌then◌else◌, length, ◌%◌, ◌+◌, ◌==◌, Err, Ok, Result}
use Rattle.gen1_machine.specs.declared.side.Side.{Side}
use Rattle.gen1_machine.specs.State.{State, is_over}
use Rattle.gen1_layout.specs.LoadingLaws.{StandsForSome}
use Rattle.gen1_layout.specs.Parts.{Parts}
use Rattle.gen1_layout.specs.Shows.{Stands}
use Rattle.gen1_engine.specs.Update.{offered_mask, refusal_of}
use Rattle.gen1_engine.specs.Replay.{step_by_bytes}
use Rattle.gen1_c.specs.Battle.{AnsweredAs, IsResult, result_byte}
use Rattle.gen1_c.specs.declared.many_battles.BatchUpdate.{BatchUpdate}
use Rattle.gen1_machine.specs.Choices.{byte_of_choice, choice_at}
use Rattle.gen1_machine.specs.declared.side.Side.TheVariants.{One, Two}
use Rattle.gen1_machine.specs.OfferedChoices.{offered}
use Rattle.gen1_machine.specs.Step.{Over}
use Rattle.gen1_c.specs.Codes.{refusal_code, load_code}
use Rattle.gen1_playouts.specs.Playouts.{Playout, begun, choice_by, next_state, play_on, PlaysOut}
use Rattle.gen1_layout.specs.Loading.{IsLoadedAs}
use Rattle.gen1_layout.specs.declared.loading.LoadFault.{LoadFault}
use Rattle.gen1_playouts.specs.declared.playouts.PlayoutOptions.{PlayoutOptions}
use Rattle.gen1_playouts.specs.declared.playouts.Playouts.{Playouts}
use Rattle.gen1_c.specs.declared.many_battles.PlayoutForm.{PlayoutForm}

-- the mask of a battle; of bytes that are none, any twelve bits
pub record IsMask (side : Side) (battle : Parts) (mask : ℕ) : Type 0 where
  pub stands : (s : State) → Stands battle s → mask ≡ offered_mask s side
  pub twelve : mask < 4096

-- each number is the mask of the battle at its index
abbrev pub AreMasks : Side → List Parts → List ℕ → Type 0
AreMasks side [] [] = Unit {0}
AreMasks side (battle ∷ battles) (mask ∷ masks) = IsMask side battle mask × AreMasks side battles masks
AreMasks side _ _ = ⊥

-- a battle before and after its update by the choices that were asked for, with its code and result
pub record IsUpdated (old new : Parts) (asked done : BatchUpdate) : Type 0 where
  pub answers : (s : State) → Stands old s → AnsweredAs (step_by_bytes s (asked.one, asked.two)).answer (step_by_bytes s (asked.one, asked.two)).state old new done.code
  pub valid : StandsForSome old → StandsForSome new
  pub stays : done.code ≢ 0 → new ≡ old
  pub stands : (s : State) → Stands new s → done.result ≡ result_byte s.field
  pub choices : (done.one ≡ asked.one) × (done.two ≡ asked.two)
  -- for any bytes, valid or not
  pub code : (done.code ≡ 0) ⊎ ((24 ≤ done.code) × (done.code ≤ 26))
  pub listed : IsResult done.result

-- the first battles were updated, each by the choices at its index, and code and result are there
abbrev pub AreUpdated : ℕ → List Parts → List Parts → List BatchUpdate → List BatchUpdate → Type 0
AreUpdated count olds news asked done = (i : ℕ) (d : Parts) (u : BatchUpdate) → i < count
    → IsUpdated (slice_index_or olds i d) (slice_index_or news i d) (slice_index_or asked i u) (slice_index_or done i u)

-- Random steps of many battles (include/gen1.h, "many battles").

-- a battle that is over starts again from its start, if it has one, as a round of a playout does
abbrev pub started_again : Option State → Playout → Playout
started_again None p = p
started_again (Some start) p = if is_over p.battle.field.outcome then begun start p.random else p

-- what is written of a step: the choices that both sides draw, side 1 first, and the result of the battle that they lead to
abbrev pub update_of : Playout → BatchUpdate
update_of p =
    let field = p.battle.field in
    let one = next_state p.random in
    let two = next_state one in
    if is_over field.outcome
    then record { one = 0; two = 0; result = result_byte field; code = refusal_code (refusal_of Over) }
    else record {
      one = byte_of_choice (choice_by one (offered One field));
      two = byte_of_choice (choice_by two (offered Two field));
      result = result_byte (play_on [] p).battle.field;
      code = 0;
    }

-- the bytes represent this battle, and its generator has this state
abbrev pub IsAt : Playout → Parts → ℕ → Type 0
IsAt p battle generator = Stands battle p.battle × (generator ≡ p.random)

-- a step of a playout without weights was played
abbrev pub IsStepped : Playout → Parts → ℕ → BatchUpdate → Type 0
IsStepped p battle generator update = IsAt (play_on [] p) battle generator × (update ≡ update_of p)

-- many battles, and the states of their generators
pub record Batch : Type 0 where
  pub battles : List Parts
  pub generators : List ℕ

-- the start of the battle at an index; none where it has none, or is not over
abbrev pub IsStart : List Parts → ℕ → State → Option State → Type 0
IsStart starts i s None = (length starts ≤ i) ⊎ (is_over s.field.outcome ≡ false)
IsStart starts i s (Some start) = (i < length starts) × ((d : Parts) → Stands (slice_index_or starts i d) start)

-- a step of each of the first battles was played
abbrev pub AreStepped : ℕ → List Parts → Batch → Batch → List BatchUpdate → Type 0
AreStepped count starts old new updates = (i : ℕ) (d : Parts) (u : BatchUpdate) (s : State) (start : Option State) → i < count
    → Stands (slice_index_or old.battles i d) s → IsStart starts i s start
    → IsStepped (started_again start (record { battle = s; random = slice_index_or old.generators i 0 }))
    (slice_index_or new.battles i d) (slice_index_or new.generators i 0) (slice_index_or updates i u)

-- two bytes that are choices, the result of some battle, and no code but that of one that is over
pub record IsListed (update : BatchUpdate) : Type 0 where
  pub one : IsSome (choice_at update.one)
  pub two : IsSome (choice_at update.two)
  pub result : IsResult update.result
  pub code : (update.code ≡ 0) ⊎ (update.code ≡ 24)

abbrev pub AreListed : ℕ → List BatchUpdate → Type 0
AreListed count updates = (i : ℕ) (u : BatchUpdate) → i < count → IsListed (slice_index_or updates i u)

-- how many battles are over

abbrev pub one_if_over : ℕ → ℕ
one_if_over result = if result % 8 == 0 then 0 else 1

abbrev pub over_in : List BatchUpdate → ℕ
over_in [] = 0
over_in (update ∷ updates) = one_if_over update.result + over_in updates

-- as many generators and updates as battles, and as many starts or none
abbrev pub HasLengths : ℕ → List Parts → List ℕ → List BatchUpdate → Type 0
HasLengths count starts generators updates =
    (length generators ≡ count) × (length updates ≡ count) × ((length starts ≡ 0) ⊎ (length starts ≡ count))

-- How playouts end, as numbers that C reads (include/gen1.h, "many battles").

-- a depth of 0 is none
abbrev pub depth_of : ℕ → Option ℕ
depth_of depth = if depth == 0 then None else Some depth

abbrev pub options_of : PlayoutForm → PlayoutOptions
options_of o = record { seed = o.seed; rounds = o.rounds; depth = depth_of o.depth; weights = o.weights }

-- The bytes are loaded, and the counts are those of playouts from each state that the loaded battle represents; or the code is the
-- first test that they fail, and the counts are as they were.
abbrev pub PlaysAs : Result Parts LoadFault → PlayoutOptions → Playouts → Playouts → ℕ → Type 0
PlaysAs (Ok loaded) o old new code = (code ≡ 0) × ((s : State) → Stands loaded s → PlaysOut o s o.rounds new)
PlaysAs (Err fault) o old new code = (code ≡ load_code fault) × (new ≡ old)

abbrev pub Plays : List ℕ → PlayoutOptions → Playouts → Playouts → ℕ → Type 0
Plays bytes o old new code = (read : Result Parts LoadFault) × IsLoadedAs read bytes × PlaysAs read o old new code
