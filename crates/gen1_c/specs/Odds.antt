-- The odds of a use of a move and its chance to knock out, and why there are none (include/gen1.h, "calculating").
use Rattle.std.specs.Prelude.{Err, List, Ok, Result, [], if◌then◌else◌, nat_le, replicate, ℕ, ◌&&◌, ◌+◌, ◌==◌, ◌≡◌, ◌∷◌, Bool, ok_or}
use Rattle.gen1_stats.specs.Members.{Member}
use Rattle.gen1_stats.specs.Teams.{team_refusal}
use Rattle.gen1_machine.specs.declared.side.Side.{Side}
use Rattle.gen1_machine.specs.Moves.{move_at, Move}
use Rattle.gen1_machine.specs.Rules.{Rules}
use Rattle.gen1_machine.specs.declared.side.Choice.TheVariants.{Pass}
use Rattle.gen1_machine.specs.State.{Field, first_state, State, usual_terms}
use Rattle.gen1_machine.specs.Step.{step}
use Rattle.gen1_odds.specs.declared.acting.ActionOdds.{ActionOdds}
use Rattle.gen1_odds.specs.declared.knock_outs.Between.{Between}
use Rattle.gen1_odds.specs.declared.knock_outs.Chances.{Chances}
use Rattle.gen1_odds.specs.declared.knock_outs.ThreeChances.{ThreeChances}
use Rattle.gen1_odds.specs.declared.odds.Odds.{Odds}
use Rattle.gen1_odds.specs.Acting.{action_odds_in}
use Rattle.gen1_odds.specs.KnockOut.{chances_in, three_chances_in}
use Rattle.gen1_odds.specs.Odds.{drained, odds_in, recoil, takes_hit_test}
use Rattle.gen1_c.specs.Battle.{teams_fault}
use Rattle.gen1_c.specs.Teams.{fault_of_any, member_fault, sheet_of}
use Rattle.gen1_c.specs.declared.teams.MemberForm.{MemberForm}
use Rattle.gen1_machine.specs.Damage.{numbers_in}
use Rattle.gen1_hits.specs.DamageNumbers.{damages, has_usual_damage}

-- the side and the move of a use; or a code: not a move, no active member yet
unfoldable pub use_due : Side → ℕ → Field → Result (Side × ℕ) ℕ
use_due side id f = if nat_le 1 id && nat_le id 165 then (if f.turn == 0 then Err 50 else Ok (side, id)) else Err 11

-- what a use has in the present state, or its code
abbrev pub due_of : {A : Type 0} → (Rules → Side → Move → Field → A) → Rules → Field → Result (Side × ℕ) ℕ → Result A ℕ
due_of read r f (Ok used) = Ok (read r used.0 (move_at used.1) f)
due_of read r f (Err why) = Err why

abbrev pub odds_due : Rules → Side → ℕ → Field → Result Odds ℕ
odds_due r side id f = due_of odds_in r f (use_due side id f)

abbrev pub action_odds_due : Rules → Side → ℕ → Field → Result ActionOdds ℕ
action_odds_due r side id f = due_of action_odds_in r f (use_due side id f)

abbrev pub chances_due : Rules → Side → ℕ → Field → Result Chances ℕ
chances_due r side id f = due_of chances_in r f (use_due side id f)

abbrev pub three_chances_due : Between → Rules → Side → ℕ → Field → Result ThreeChances ℕ
three_chances_due between r side id f = due_of (three_chances_in between) r f (use_due side id f)

abbrev pub Tells : {A : Type 0} → Result A ℕ → A → A → ℕ → Type 0
Tells (Ok value) old new code = (code ≡ 0) × (new ≡ value)
Tells (Err why) old new code = (code ≡ why) × (new ≡ old)

-- what a move makes of a damage; 0 for a number that is not a move
unfoldable pub made_of : (Move → ℕ → ℕ) → ℕ → ℕ → ℕ
made_of read id damage = if nat_le 1 id && nat_le id 165 then read (move_at id) damage else 0

abbrev pub drained_due : ℕ → ℕ → ℕ
drained_due = made_of drained

abbrev pub recoil_due : ℕ → ℕ → ℕ
recoil_due = made_of recoil

-- whether a move takes the hit test: 1 or 0; 0 for a number that is not a move
unfoldable pub hit_test_due : ℕ → ℕ
hit_test_due id =
    if nat_le 1 id && nat_le id 165 then (if takes_hit_test (move_at id) then 1 else 0) else 0

-- a battle whose first members have just been sent out
abbrev pub facing : List Member → List Member → State
facing one two = (step (first_state usual_terms one two (replicate 10 0)) Pass Pass).state

-- the error of a team of this member alone
abbrev pub one_fault : MemberForm → ℕ
one_fault m = if member_fault m == 0 then fault_of_any (team_refusal (sheet_of m ∷ [])) else 256 + member_fault m

-- the first error of: the move, the user, the foe
abbrev pub between_fault : MemberForm → MemberForm → ℕ → ℕ
between_fault user foe number = if nat_le 1 number && nat_le number 165 then teams_fault (one_fault user) (one_fault foe) else 11

-- the odds of a state, under its own rules
abbrev pub odds_of_state : Side → ℕ → State → Odds
odds_of_state side id s = odds_in s.terms.rules side (move_at id) s.field

-- The damage of a hit in the present state of a battle, and why there is none (include/gen1.h, "calculating").

-- the damage at each factor from 217 to 255; or a code: not a move, no usual damage, no active member yet, a divisor of 0
unfoldable pub damages_due : Side → ℕ → Bool → Field → Result (List ℕ) ℕ
damages_due side id critical f =
    if nat_le 1 id && nat_le id 165
    then (if has_usual_damage (move_at id)
    then (if f.turn == 0 then Err 50 else ok_or (damages (numbers_in side (move_at id) critical f)) 49)
    else Err 48)
    else Err 11

abbrev pub TellsDamages : Result (List ℕ) ℕ → List ℕ → List ℕ → ℕ → Type 0
TellsDamages (Ok list) old new code = (code ≡ 0) × (new ≡ list)
TellsDamages (Err why) old new code = (code ≡ why) × (new ≡ old)
