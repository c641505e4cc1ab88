-- A turn (docs/MECHANICS.md, "Order of a turn"): its parts, and the residual damage after each.
use Rattle.std.specs.Prelude.{Bool, List, None, Option, Some, [], false, ℕ, ◌==◌, ◌||◌, ◌∷◌}
use Rattle.gen1_machine.specs.declared.side.Side.{Side}
use Rattle.gen1_machine.specs.declared.side.Side.TheVariants.{One, Two}
use Rattle.gen1_machine.specs.declared.side.Pick.{Pick}
use Rattle.gen1_machine.specs.declared.side.Choice.{Choice}
use Rattle.gen1_machine.specs.declared.side.Choice.TheVariants as choices
use Rattle.gen1_machine.specs.Sides.{other}
use Rattle.gen1_machine.specs.Conditions.{without_trapping, without_flinch}
use Rattle.gen1_machine.specs.State.{with_picked_move, is_over}
use Rattle.gen1_machine.specs.Moves.{rest}
use Rattle.gen1_machine.specs.Progress.{Phase, stay, ◌▸◌, when, unless, given, on_active, on_conditions, active, underway, has_fallen, Progress}
use Rattle.gen1_machine.specs.Picks.{pick_in, picked_after}
use Rattle.gen1_machine.specs.ResidualDamage.{residual}
use Rattle.gen1_machine.specs.Ruling.{Ruling}
use Rattle.gen1_machine.specs.Action.{begin, act}
use Rattle.gen1_machine.specs.SwitchingIn.{send_out}
use Rattle.gen1_machine.specs.TurnOrder.{in_order}

pub data Part : Type 0 where
  Sends : (side : Side) → (place : ℕ) → Part
  Acts : (side : Side) → (pick : Pick) → Part
  Suffers : (side : Side) → Part

unfoldable pub do_part : Ruling → Part → Phase
do_part r (Sends s place) = begin s ▸ send_out s place
do_part r (Acts s pick) = begin s ▸ unless (λ p. p.skips) (act r s pick)
do_part r (Suffers s) = residual s

-- An active member has fallen, or the battle can't continue.
abbrev pub is_cut : Progress → Bool
is_cut p = has_fallen One p || has_fallen Two p || is_over p.field.outcome

-- Trapping with a count of 0 ends when a turn is played to its end.

abbrev pub is_spent : Option ℕ → Bool
is_spent None = false
is_spent (Some turns) = turns == 0

unfoldable pub end_spent_trapping : Side → Phase
end_spent_trapping s = when (λ p. is_spent (underway s p).trapping) (on_conditions s without_trapping)

unfoldable pub end_turn : Phase
end_turn = end_spent_trapping One ▸ end_spent_trapping Two

-- The rest of a turn is skipped if an active member has fallen.
unfoldable pub do_parts : Ruling → List Part → Phase
do_parts r [] = end_turn
do_parts r (part ∷ rest) = do_part r part ▸ unless is_cut (do_parts r rest)

-- Both sides use a move.

abbrev pub of_side : Side → Pick → Pick → Pick
of_side One one two = one
of_side Two one two = two

abbrev pub both_act : Pick → Pick → Side → List Part
both_act one two s =
    Acts s (of_side s one two) ∷ Suffers s ∷ Acts (other s) (of_side (other s) one two) ∷ Suffers (other s) ∷ []

unfoldable pub set_picked : Side → Pick → Phase
set_picked s pick = given (active s) λ a. on_active s (with_picked_move (picked_after pick a.picked_move))

unfoldable pub both_pick : Ruling → Pick → Pick → Phase
both_pick r one two = set_picked One one ▸ set_picked Two two ▸ in_order λ s. do_parts r (both_act one two s)

-- One side uses a move. The other switches first.

abbrev pub switch_then_act : Side → Pick → ℕ → List Part
switch_then_act s pick place = Sends (other s) place ∷ Suffers (other s) ∷ Acts s pick ∷ Suffers s ∷ []

unfoldable pub one_picks : Ruling → Side → Pick → ℕ → Phase
one_picks r s pick place = set_picked s pick ▸ do_parts r (switch_then_act s pick place)

-- Both sides switch, side 1 first.
abbrev pub both_switch : ℕ → ℕ → List Part
both_switch one two = Sends One one ∷ Suffers One ∷ Sends Two two ∷ Suffers Two ∷ []

-- Picks are settled before any switch.
unfoldable pub play_turn : Ruling → Choice → Choice → Phase
play_turn r (choices.Move j) (choices.Move k) =
    given (λ p. pick_in j One p.field) λ one. given (λ p. pick_in k Two p.field) λ two. both_pick r one two
play_turn r (choices.Move j) (choices.Switch place) = given (λ p. pick_in j One p.field) λ pick. one_picks r One pick place
play_turn r (choices.Switch place) (choices.Move k) = given (λ p. pick_in k Two p.field) λ pick. one_picks r Two pick place
play_turn r (choices.Switch one) (choices.Switch two) = do_parts r (both_switch one two)
play_turn r _ _ = stay

-- A flinch lasts until the next turn at most.
unfoldable pub turn : Ruling → Choice → Choice → Phase
turn r one two =
    on_conditions One without_flinch ▸ on_conditions Two without_flinch ▸ play_turn r one two
