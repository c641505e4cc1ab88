-- What the action of a side shows, by its pick (docs/MECHANICS.md, "Action"). If something is shown before it, with
-- what is known of the last action, the result is shown with what is known after it. A broken substitute is an
-- exception, since it doesn't matter after an action is over.
use Rattle.std.specs.Prelude.{◌≡◌, ◌||◌, Bool, None, Option, Some, false, min, true, ℕ, ◌+◌, ◌≤◌, ◌⊎◌}
use Rattle.gen1_layout.specs.Words.{Frame, Phase, Progress, Side, Telling, stop, ◌▸◌, Field, conditions_in, member_in, other}
use Rattle.gen1_rolls.specs.Draws.{Drawing, Ref, Since}
use Rattle.gen1_machine.specs.declared.side.Pick.{Pick}
use Rattle.gen1_machine.specs.Ruling.{Ruling, ruling_of}
use Rattle.gen1_machine.specs.Plans.{FitsPick, Plan}
use Rattle.gen1_layout.specs.Operations.{Premise, Scene}
use Rattle.gen1_layout.specs.Parts.{Parts}
use Rattle.gen1_hits.specs.declared.known.Known.{Known}
use Rattle.gen1_hits.specs.Knowing.{ShowsKnown, ShowsOver, knowing, with_broke}
use Rattle.gen1_hits.specs.Planned.{Follows}
use Rattle.gen1_machine.specs.Action.{damage_of, lands_at_once, lets_energy_go, prelude, strike}
use Rattle.gen1_machine.specs.EarlyEffects.{early_effect, is_early}
use Rattle.gen1_machine.specs.LateEffects.{is_late, late_effect}
use Rattle.gen1_machine.specs.ManyHits.{hits, hits_end}
use Rattle.gen1_machine.specs.Moves.{Move}
use Rattle.gen1_machine.specs.Progress.{only, unless, set_last_damage}
use Rattle.gen1_machine.specs.SideEffects.{side_effect}
use Rattle.gen1_tables.specs.declared.effect.Effect.{Effect}
use Rattle.gen1_rolls.specs.Streams.{limit_of}
use Rattle.gen1_layout.specs.Shows.{ShowsDrawn}
use Rattle.gen1_turn.specs.declared.action.Way.{Way}
use Rattle.gen1_tables.specs.declared.effect.Effect.TheVariants as effects
use Rattle.gen1_turn.specs.declared.action.Way.TheVariants as ways

-- A scene with the value of what is known. Once an action is over, whether a substitute broke in it is left open.
abbrev pub Acting : Type 1
Acting = (Parts → Telling → Known → Parts → Telling → Known → Type 0) → Type 0

abbrev pub acting : Ref Known → Scene → Acting
acting known s Then = s λ parts events _ parts' events' _. Then parts events known.entry.now parts' events' known.exit.now

-- A scene that begins with what is known of an action that is over.
abbrev pub aware_after : Bool → Ref Known → Scene → Scene
aware_after broke known s Then = s λ parts events _ parts' events' _.
    Then parts events (knowing (with_broke broke known.entry.now)) parts' events' (knowing known.exit.now)

-- Premises: this holds of the plans of both sides; the plan of a side fits its pick; and no energy is let go yet.
abbrev pub planning : ((Side → Plan) → Progress → Type 0) → Premise
planning Holds g p Then = (plan : Side → Plan) → Holds plan p → Follows g.setting.terms plan p → Then

abbrev pub picked : Side → Pick → Premise
picked side pick g p Then = (plan : Side → Plan) → FitsPick pick (plan side) → Follows g.setting.terms plan p → Then

abbrev pub ready : Side → Pick → Premise
ready side pick g p Then = picked side pick g p (p.action.letting_go ≡ false → Then)

-- The parts of an action that has begun.
abbrev pub DoesParts : {A : Type 0} → Drawing A → Ref A → Premise → Acting → Bool → (Ruling → Phase) → Type 0
DoesParts d random premise s stopped phase = s λ parts events k parts' events' k'.
    (since : Since d random.exit.now) (g : Frame) (p : Progress) → premise g p
    (ShowsKnown d since.source k g parts events random.entry.now false p
    → ShowsOver d since.source k' g parts' events' random.exit.now stopped (phase (ruling_of g.setting.terms) p))

-- A whole action.
abbrev pub Acts : {A : Type 0} → Drawing A → Ref A → Premise → Acting → Bool → (Ruling → Phase) → Type 0
Acts d random premise s stopped phase = s λ parts events k parts' events' k'.
    (since : Since d random.exit.now) (g : Frame) (p : Progress) → premise g p
    (ShowsOver d since.source k g parts events random.entry.now false p
    → ShowsOver d since.source k' g parts' events' random.exit.now stopped (phase (ruling_of g.setting.terms) p))

-- The phases of an action from some step on, as in `carry_out` and `lead_up` of the machine (docs/MECHANICS.md,
-- "Action").

-- After the move is used.
abbrev pub begin_move : Side → Move → Phase
begin_move s move = only (is_early move.effect) (early_effect s move move.effect ▸ stop) ▸ prelude s move

abbrev pub late_part : Ruling → Side → Move → Phase
late_part r s move = unless lets_energy_go (only (is_late move.effect) (late_effect r s move move.effect ▸ stop))

-- After the lead-up.
abbrev pub damage_and_strike : Ruling → Side → Move → Phase
damage_and_strike r s move = unless (lands_at_once move) (damage_of s move move.effect) ▸ late_part r s move ▸ strike r s move

-- After the move is known to hit.
abbrev pub hits_with_effect : Ruling → Side → Move → Phase
hits_with_effect r s move = hits s move ▸ unless (λ p. lets_energy_go p || hits_end s p) (side_effect r s move move.effect)

-- The damage of an action (docs/MECHANICS.md, "Action", "Landing"): how it is found, by the effect of the move, and which
-- damages have the same effect. Until the damage has landed, the bytes may show another last damage than the machine's.

-- How the damage of a move is found.
abbrev pub way_of : Effect → Way
way_of effects.Counter = ways.Counter
way_of effects.FixedDamage = ways.Fixed
way_of effects.SuperFang = ways.Fixed
way_of effects.OneHitKnockOut = ways.KnockOut
way_of _ = ways.Usual

-- The least damage of a hit that fells a foe, or breaks its Substitute.
abbrev pub edge_of : Option ℕ → ℕ → ℕ
edge_of (Some left) hp = left + 1
edge_of None hp = hp

-- All damage that fells a foe has the same effect. A Substitute takes damage uncut.
abbrev pub cuts : Option ℕ → Bool
cuts (Some _) = false
cuts None = true

abbrev pub edge_in : Side → Field → ℕ
edge_in foe f = edge_of (conditions_in foe f).substitute (member_in foe f).hp

abbrev pub cuts_in : Side → Field → Bool
cuts_in foe f = cuts (conditions_in foe f).substitute

abbrev pub limit_in : Side → Field → ℕ
limit_in foe f = limit_of (edge_in foe f) (cuts_in foe f)

-- A move of s hits, and the machine's r is the shown q except for its last damage, which does the same to the foe.
pub record AlikeDamage (s : Side) (q r : Progress) : Type 0 where
  pub damage : ℕ
  pub changed : r ≡ set_last_damage damage q
  pub alike : min damage (limit_in (other s) q.field) ≡ min q.field.last_damage (limit_in (other s) q.field)
  pub most : damage ≤ 65535
  pub shown_most : q.field.last_damage ≤ 65535
  pub hits : q.action.missed ≡ false
  pub goes : q.stopped ≡ false

abbrev pub LikeDamage : Side → Progress → Progress → Type 0
LikeDamage s q r = (q ≡ r) ⊎ AlikeDamage s q r

-- A late effect finds the machine's last damage.
abbrev pub LikeUsual : Side → Move → Progress → Progress → Type 0
LikeUsual s move q r = LikeDamage s q r × (is_late move.effect ≡ true → q ≡ r)

-- Code with draws does what a phase does, up to damages with the same effect: the bytes show q, and the phase leads to r.
abbrev pub DrawsLike : {A : Type 0} → Drawing A → Ref A → Scene → Bool → (Progress → Progress → Type 0) → Phase → Type 0
DrawsLike d random s stopped Like phase = s λ parts events knows parts' events' knows'.
    (since : Since d random.exit.now) (g : Frame) (p : Progress) → ShowsDrawn d since.source (knows g) parts events random.entry.now false p
    → (q : Progress) × ShowsDrawn d since.source (knows' g) parts' events' random.exit.now stopped q × Like q (phase p)
