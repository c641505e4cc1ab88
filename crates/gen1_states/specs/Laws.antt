-- What holds for all plain states (docs/LAYOUT.md, "Plain states").
use Rattle.std.specs.Prelude.{List, Ok, length, slice_index, ℕ, ◌<◌, ◌≡◌, ◌↔◌}
use Rattle.gen1_machine.specs.State.{State}
use Rattle.gen1_layout.specs.LoadingLaws.{AreBytes, IsBattle}
use Rattle.gen1_layout.specs.Parts.{parts_of, Parts}
use Rattle.gen1_layout.specs.Shows.{Stands}
use Rattle.gen1_states.specs.declared.plain.ActiveState.{ActiveState}
use Rattle.gen1_states.specs.declared.plain.BattleState.{BattleState}
use Rattle.gen1_states.specs.declared.plain.MemberState.{MemberState}
use Rattle.gen1_states.specs.declared.plain.SideState.{SideState}
use Rattle.gen1_states.specs.Plain.{bytes_of, first_side, member_at, second_side}
use Rattle.gen1_states.specs.Tests.{completed, tested}
use Rattle.gen1_states.specs.Reading.{state_of}

-- The plain state of a battle is accepted, and gives the same battle.
abbrev pub GoesBack : Type 0
GoesBack = (p : Parts) (s : State) → Stands p s
    → IsBattle (bytes_of (completed (state_of s))) × (parts_of (bytes_of (completed (state_of s))) ≡ p)

-- Plain states whose numbers fit the fields' types: arrays have their lengths, and numbers of two bytes fit two bytes

abbrev pub AreWords : List ℕ → Type 0
AreWords numbers = (k : ℕ) → slice_index numbers k < 65536

pub record IsPlainMember (m : MemberState) : Type 0 where
  pub moves : length m.moves ≡ 4
  pub pp : length m.pp ≡ 4
  pub stats : length m.stats ≡ 4
  pub hp : m.hp < 65536
  pub max_hp : m.max_hp < 65536
  pub words : AreWords m.stats

pub record IsPlainActive (a : ActiveState) : Type 0 where
  pub types : length a.types ≡ 2
  pub stages : length a.stages ≡ 6
  pub stats : length a.stats ≡ 4
  pub conditions : a.conditions < 4294967296
  pub energy : a.energy < 65536
  pub words : AreWords a.stats

pub record IsPlainSide (s : SideState) : Type 0 where
  pub count : length s.members ≡ 6
  pub members : (k : ℕ) → k < 6 → IsPlainMember (member_at k s)
  pub active : IsPlainActive s.active

pub record IsPlain (b : BattleState) : Type 0 where
  pub sides : length b.sides ≡ 2
  pub one : IsPlainSide (first_side b)
  pub two : IsPlainSide (second_side b)
  pub requests : length b.requests ≡ 2
  pub numbers : length b.numbers ≡ 10
  pub turn : b.turn < 65536
  pub limit : b.limit < 65536
  pub last_damage : b.last_damage < 65536

-- A battle that was made of a plain state with its current stats has this plain state.
abbrev pub ComesBack : Type 0
ComesBack = (b : BattleState) (s : State) → IsPlain b → Stands (parts_of (bytes_of b)) s → state_of s ≡ b

-- A plain state passes all tests of its fields exactly if it is a battle.
abbrev pub TestedAreBattles : Type 0
TestedAreBattles = (b : BattleState) → IsPlain b → AreBytes (bytes_of b) → (tested b ≡ Ok tt) ↔ IsBattle (bytes_of b)
