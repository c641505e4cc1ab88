-- A turn of a valid field, with one fact that holds as each part begins and one that holds as each part ends.
use Rattle.std.proofs.Common.{Bool, List, [], false, length, refl, subst, sym, true, ℕ, ◌∙◌, ◌∷◌, ◌≡◌}
use Rattle.gen1_rolls.specs.Streams.{Stream}
use Rattle.gen1_stats.specs.Members.{IsBetween}
use Rattle.gen1_machine.specs.declared.side.Choice.{Choice}
use Rattle.gen1_machine.specs.declared.side.Choice.TheVariants as choices
use Rattle.gen1_machine.specs.declared.side.Pick.{Pick}
use Rattle.gen1_machine.specs.declared.side.Side.{Side}
use Rattle.gen1_machine.specs.declared.side.Side.TheVariants.{One, Two}
use Rattle.gen1_machine.specs.Sides.{other}
use Rattle.gen1_machine.specs.Conditions.{without_flinch}
use Rattle.gen1_machine.specs.State.{changed_conditions, Field, Terms}
use Rattle.gen1_machine.specs.Picks.{pick_in}
use Rattle.gen1_machine.specs.Progress.{choose, given, on_active, on_conditions, on_field, stay, Action, Phase, Progress}
use Rattle.gen1_machine.specs.Ruling.{ruling_of}
use Rattle.gen1_machine.specs.TurnOrder.{in_order, in_order_of_rank, in_order_of_speed, toss}
use Rattle.gen1_machine.specs.Turn.{both_act, both_pick, both_switch, do_part, do_parts, end_spent_trapping, end_turn, is_cut, of_side, one_picks, play_turn, set_picked, turn, Acts, Part, Sends, Suffers}
use Rattle.gen1_machine.specs.Plans.{with_plan, Any, Comes, FitsPick, InRange, IsPlanned, Plan, PlanOf}
use Rattle.gen1_machine.proofs.Keeps.{on_conditions-keeps, then-keeps, Keeps, choose-leads, given-leads, keeps-leads, stay-leads, then-leads, Leads}
use Rattle.gen1_machine.proofs.Turns.{between-free, Between, part-suffers}
use Rattle.gen1_machine.proofs.Sound.{planned-sound, draw-leads}
use Rattle.gen1_machine.proofs.SoundWalk.{conditions-spared}
use Rattle.gen1_machine.proofs.Tame.{without_flinch-tame}
use Rattle.gen1_machine.proofs.Fitting.{Fits}
use Rattle.gen1_machine.proofs.ValidSteps.{act_part, both-keep, both-plan_of, both-planned, both_plan, comes-kept, end_spent, fits-comes, pick-plan, range-kept, room-free, send_part, sends-room, set_picked-keeps, suffers_part, sure, Room, Sure}

-- A fact for the beginning of a part, and one for its end. If no member has fallen and the battle goes on, the next
-- part may begin.
pub record Tied (terms : Terms) (In Out : Field → Action → Stream → Type 0) : Type 0 where
  pub weaker : (f : Field) (a : Action) (w : Stream) → In f a w → Out f a w
  pub uncut : (p : Progress) → is_cut p ≡ false → Out p.field p.action p.stream → In p.field p.action p.stream
  pub acts : (plan : Side → Plan) (s : Side) (pick : Pick) → FitsPick pick (plan s)
      → Leads (λ f a w. IsPlanned terms plan f a w × In f a w) Out (do_part (ruling_of terms) (Acts s pick))
  pub suffers : (s : Side) → Leads In Out (do_part (ruling_of terms) (Suffers s))
  pub sends : (s : Side) (place : ℕ) → Leads In Out (do_part (ruling_of terms) (Sends s place))
  pub ends : (s : Side) → Keeps Out (end_spent_trapping s)
  pub picked_move : (s : Side) (pick : Pick) → Keeps In (set_picked s pick)
  pub flinch : (s : Side) → Keeps In (on_conditions s without_flinch)

pub choose-cases : {P Q : Field → Action → Stream → Type 0} (test : Progress → Bool) (f g : Phase)
    → ((p : Progress) → test p ≡ true → P p.field p.action p.stream → Q (f p).field (f p).action (f p).stream)
    → ((p : Progress) → test p ≡ false → P p.field p.action p.stream → Q (g p).field (g p).action (g p).stream) → Leads P Q (choose test f g)
unfolding choose
choose-cases {P} {Q} test f g k l = record { led = λ p h. by p (test p) refl h }
  where
    by : (p : Progress) (b : Bool) → test p ≡ b → P p.field p.action p.stream
        → let q : Progress = elim b as (λ _. Progress) [ true ↦ f p | false ↦ g p ] in Q q.field q.action q.stream
    by p true e h = k p e h
    by p false e h = l p e h

module _ (terms : Terms) {In Out : Field → Action → Stream → Type 0} (tied : Tied terms In Out) where
  abbrev Inside : (Side → Plan) → Field → Action → Stream → Type 0
  Inside plan f a w = IsPlanned terms plan f a w × In f a w

  abbrev Outside : Field → Action → Stream → Type 0
  Outside f a w = Sure terms f a w × Out f a w

  gone : (plan : Side → Plan) (f : Field) (a : Action) (w : Stream) → Inside plan f a w → Outside f a w
  gone plan f a w h = (sure f a w h.0, tied.weaker f a w h.1)

  parts-end : (plan : Side → Plan) → Leads (Inside plan) Outside (do_parts (ruling_of terms) [])
  unfolding do_parts end_turn
  parts-end plan = record {
    led = λ p h. (
      sure _ _ _ ((then-keeps (end_spent terms plan One) (end_spent terms plan Two)).kept p h.0),
      (then-keeps (tied.ends One) (tied.ends Two)).kept p (tied.weaker _ _ _ h.1),
    );
  }

  parts-then : {P W : Field → Action → Stream → Type 0} (part : Part) (rest : List Part)
      → Leads P (λ f a w. W f a w × Out f a w) (do_part (ruling_of terms) part)
      → ((f : Field) (a : Action) (w : Stream) → W f a w → Sure terms f a w)
      → Leads (λ f a w. W f a w × In f a w) Outside (do_parts (ruling_of terms) rest) → Leads P Outside (do_parts (ruling_of terms) (part ∷ rest))
  unfolding do_parts stay
  parts-then {P} {W} part rest k weaker l = then-leads k
      (choose-cases is_cut _ _ (λ p e h. (weaker _ _ _ h.0, h.1)) (λ p e h. l.led p (h.0, tied.uncut p e h.1))) (λ f a w h. (weaker f a w h.0, h.1))

  suffers : (plan : Side → Plan) (s : Side) → Leads (Inside plan) (λ f a w. IsPlanned terms plan f a w × Out f a w) (do_part (ruling_of terms) (Suffers s))
  suffers plan s = record { led = λ p h. ((suffers_part terms plan s).kept p h.0, (tied.suffers s).led p h.1) }

  acts : (plan : Side → Plan) (s : Side) (pick : Pick) → FitsPick pick (plan s)
      → Leads (Inside plan) (λ f a w. IsPlanned terms (with_plan s Any plan) f a w × Out f a w) (do_part (ruling_of terms) (Acts s pick))
  acts plan s pick fits = record { led = λ p h. ((act_part terms plan s pick fits).led p h.0, (tied.acts plan s pick fits).led p h) }

  suffers-end : (plan : Side → Plan) (s : Side) → Leads (Inside plan) Outside (do_parts (ruling_of terms) (Suffers s ∷ []))
  suffers-end plan s = parts-then _ _ (suffers plan s) sure (parts-end plan)

  act-end : (plan : Side → Plan) (s : Side) (pick : Pick) → FitsPick pick (plan s) → Leads (Inside plan) Outside (do_parts (ruling_of terms) (Acts s pick ∷ Suffers s ∷ []))
  act-end plan s pick fits = parts-then _ _ (acts plan s pick fits) sure (suffers-end (with_plan s Any plan) s)

  other-plan : (s : Side) (plan : Side → Plan) → with_plan s Any plan (other s) ≡ plan (other s)
  other-plan One plan = refl
  other-plan Two plan = refl

  in_order-leads : (plan : Side → Plan) (begins : Side → Phase) → ((s : Side) → Leads (Inside plan) Outside (begins s)) → Leads (Inside plan) Outside (in_order begins)
  unfolding in_order in_order_of_rank in_order_of_speed toss
  in_order-leads plan begins k = given-leads _ (λ x. given-leads _ (λ y.
      choose-leads _ (k One) (choose-leads _ (k Two) (choose-leads _ (k One) (choose-leads _ (k Two) (draw-leads (λ b. choose-leads _ (k One) (k Two))))))))

  picked-inside : (plan : Side → Plan) (s : Side) (pick : Pick) → FitsPick pick (plan s) → Keeps (Inside plan) (set_picked s pick)
  picked-inside plan s pick fits = both-keep (set_picked-keeps terms plan s pick fits) (tied.picked_move s pick)

  fits-of : (plan : Side → Plan) (one two : Pick) → FitsPick one (plan One) → FitsPick two (plan Two) → (s : Side) → FitsPick (of_side s one two) (plan s)
  fits-of plan one two fits_one fits_two One = fits_one
  fits-of plan one two fits_one fits_two Two = fits_two

  both_act-leads : (plan : Side → Plan) (one two : Pick) → FitsPick one (plan One) → FitsPick two (plan Two) → (s : Side)
      → Leads (Inside plan) Outside (do_parts (ruling_of terms) (both_act one two s))
  both_act-leads plan one two fits_one fits_two s =
      let after = with_plan s Any plan in
      let fits = fits-of plan one two fits_one fits_two in
      parts-then _ _ (acts plan s (of_side s one two) (fits s)) sure
      (parts-then _ _ (suffers after s) sure
      (act-end after (other s) (of_side (other s) one two) (subst (λ x. FitsPick (of_side (other s) one two) x) (sym (other-plan s plan)) (fits (other s)))))

  both_pick-leads : (plan : Side → Plan) (one two : Pick) → FitsPick one (plan One) → FitsPick two (plan Two) → Leads (Inside plan) Outside (both_pick (ruling_of terms) one two)
  unfolding both_pick
  both_pick-leads plan one two fits_one fits_two = then-leads (keeps-leads (picked-inside plan One one fits_one))
      (then-leads (keeps-leads (picked-inside plan Two two fits_two)) (in_order-leads plan _ (both_act-leads plan one two fits_one fits_two)) (gone plan)) (gone plan)

  -- One side uses a move, and the other switches

  sends : (plan : Side → Plan) (s : Side) (place : ℕ) → plan s ≡ Any
      → Leads (λ f a w. Inside plan f a w × InRange s place f) (λ f a w. IsPlanned terms plan f a w × Out f a w) (do_part (ruling_of terms) (Sends s place))
  sends plan s place any = record { led = λ p h. ((send_part terms plan s place any).led p (h.0.0, h.1), (tied.sends s place).led p h.0.1) }

  picked-range : (plan : Side → Plan) (s : Side) (pick : Pick) (place : ℕ) → FitsPick pick (plan s)
      → Keeps (λ f a w. Inside plan f a w × InRange (other s) place f) (set_picked s pick)
  unfolding set_picked given on_active on_field
  picked-range plan s pick place fits = record { kept = λ p h. ((picked-inside plan s pick fits).kept p h.0, range-kept s (other s) _ place p.field h.1) }

  one_picks-leads : (plan : Side → Plan) (s : Side) (pick : Pick) (place : ℕ) → FitsPick pick (plan s) → plan (other s) ≡ Any
      → Leads (λ f a w. Inside plan f a w × InRange (other s) place f) Outside (one_picks (ruling_of terms) s pick place)
  unfolding one_picks
  one_picks-leads plan s pick place fits any = then-leads (keeps-leads (picked-range plan s pick place fits))
      (parts-then _ _ (sends plan (other s) place any) sure (parts-then _ _ (suffers plan (other s)) sure (act-end plan s pick fits)))
      (λ f a w h. gone plan f a w h.0)

  -- Both switch

  abbrev Spacious : (Side → Plan) → ℕ → ℕ → ℕ → Field → Action → Stream → Type 0
  Spacious plan one two turn f a w = IsPlanned terms plan f a w × Between (Room one) (Room two) turn f a w

  both_switch-leads : (plan : Side → Plan) (one two turn x y : ℕ) → plan One ≡ Any → plan Two ≡ Any → IsBetween 1 one x → IsBetween 1 two y
      → Leads (λ f a w. Spacious plan one two turn f a w × In f a w) Outside (do_parts (ruling_of terms) (both_switch x y))
  both_switch-leads plan one two turn x y any_one any_two l m =
      parts-then {W = Spacious plan one two turn} _ _ first (λ f a w h. sure f a w h.0)
      (parts-then {W = Spacious plan one two turn} _ _ middle (λ f a w h. sure f a w h.0)
      (parts-then {W = IsPlanned terms plan} _ _ second sure (suffers-end plan Two)))
    where
      first : Leads (λ f a w. Spacious plan one two turn f a w × In f a w) (λ f a w. Spacious plan one two turn f a w × Out f a w) (do_part (ruling_of terms) (Sends One x))
      first = record {
        led = λ p h. (
          ((send_part terms plan One x any_one).led p (h.0.0, rw h.0.1.one l), (sends-room terms one two turn x).led p h.0.1),
          (tied.sends One x).led p h.1,
        );
      }

      middle : Leads (λ f a w. Spacious plan one two turn f a w × In f a w) (λ f a w. Spacious plan one two turn f a w × Out f a w) (do_part (ruling_of terms) (Suffers One))
      middle = record {
        led = λ p h. (
          ((suffers_part terms plan One).kept p h.0.0, (part-suffers (between-free turn (room-free one) (room-free two)) terms One).kept p h.0.1),
          (tied.suffers One).led p h.1,
        );
      }

      second : Leads (λ f a w. Spacious plan one two turn f a w × In f a w) (λ f a w. IsPlanned terms plan f a w × Out f a w) (do_part (ruling_of terms) (Sends Two y))
      second = record { led = λ p h. ((send_part terms plan Two y any_two).led p (h.0.0, rw h.0.1.two m), (tied.sends Two y).led p h.1) }

  -- The turn, by both choices

  abbrev Chosen : (Side → Plan) → Choice → Choice → Field → Action → Stream → Type 0
  Chosen plan x y f a w = Inside plan f a w × Comes x One f × Comes y Two f

  chosen-gone : (plan : Side → Plan) (x y : Choice) (f : Field) (a : Action) (w : Stream) → Chosen plan x y f a w → Outside f a w
  chosen-gone plan x y f a w h = gone plan f a w h.0

  flinch-chosen : (plan : Side → Plan) (x y : Choice) (s : Side) → Keeps (Chosen plan x y) (on_conditions s without_flinch)
  unfolding on_conditions on_field changed_conditions
  flinch-chosen plan x y s = record { kept = λ p h. (inside p h.0, comes p h.1, second p h.2) }
    where
      inside : (p : Progress) → Inside plan p.field p.action p.stream → let q : Progress = on_conditions s without_flinch p in Inside plan q.field q.action q.stream
      inside p h = ((on_conditions-keeps s _ (conditions-spared (planned-sound terms plan) s _ without_flinch-tame)).kept p h.0, (tied.flinch s).kept p h.1)

      comes : (p : Progress) → Comes x One p.field → let q : Progress = on_conditions s without_flinch p in Comes x One q.field
      comes p h = comes-kept x s One _ p.field h

      second : (p : Progress) → Comes y Two p.field → let q : Progress = on_conditions s without_flinch p in Comes y Two q.field
      second p h = comes-kept y s Two _ p.field h

  play_turn-leads : (plan : Side → Plan) (x y : Choice) → PlanOf x (plan One) → PlanOf y (plan Two) → Leads (Chosen plan x y) Outside (play_turn (ruling_of terms) x y)
  unfolding play_turn given
  play_turn-leads plan (choices.Move j) (choices.Move k) one two = record { led = by }
    where
      by : (p : Progress) → Inside plan p.field p.action p.stream × Unit {0} × Unit {0}
          → let q : Progress = both_pick (ruling_of terms) (pick_in j One p.field) (pick_in k Two p.field) p in Outside q.field q.action q.stream
      by p h =
          let first = pick-plan plan One j p.field p.action p.stream one h.0.0 in
          let second = pick-plan first.next Two k p.field p.action p.stream (subst (λ z. PlanOf (choices.Move k) z) (sym first.rest) two) first.planned in
          (both_pick-leads second.next (pick_in j One p.field) (pick_in k Two p.field)
          (subst (λ z. FitsPick (pick_in j One p.field) z) (sym second.rest) first.fits) second.fits).led p (second.planned, h.0.1)
  play_turn-leads plan (choices.Move j) (choices.Switch place) one two = record {
    led = λ p h. let first = pick-plan plan One j p.field p.action p.stream one h.0.0 in
        (one_picks-leads first.next One (pick_in j One p.field) place first.fits (first.rest ∙ two)).led p ((first.planned, h.0.1), h.2);
  }
  play_turn-leads plan (choices.Switch place) (choices.Move k) one two = record {
    led = λ p h. let first = pick-plan plan Two k p.field p.action p.stream two h.0.0 in
        (one_picks-leads first.next Two (pick_in k Two p.field) place first.fits (first.rest ∙ one)).led p ((first.planned, h.0.1), h.1);
  }
  play_turn-leads plan (choices.Switch x) (choices.Switch y) one two = record {
    led = λ p h. (both_switch-leads plan (length p.field.one.members) (length p.field.two.members) p.field.turn x y one two h.1 h.2).led p
        ((h.0.0, record { turned = refl; one = refl; two = refl }), h.0.1);
  }
  play_turn-leads plan _ _ one two = stay-leads (λ f a w h. gone plan f a w h.0)

  turn-leads : (plan : Side → Plan) (x y : Choice) → PlanOf x (plan One) → PlanOf y (plan Two) → Leads (Chosen plan x y) Outside (turn (ruling_of terms) x y)
  unfolding turn
  turn-leads plan x y one two =
      then-leads (keeps-leads (flinch-chosen plan x y One))
      (then-leads (keeps-leads (flinch-chosen plan x y Two)) (play_turn-leads plan x y one two) (chosen-gone plan x y)) (chosen-gone plan x y)

  pub turn-tied : (x y : Choice) (p : Progress) → Sure terms p.field p.action p.stream → In p.field p.action p.stream → Fits x One p.field → Fits y Two p.field
      → let q : Progress = turn (ruling_of terms) x y p in Sure terms q.field q.action q.stream × Out q.field q.action q.stream
  turn-tied x y p h k one two =
      (turn-leads (both_plan x y p.field) x y (both-plan_of x y p.field).0 (both-plan_of x y p.field).1).led p
      ((both-planned x y p.field p.action p.stream h one two, k), fits-comes x One p.field one, fits-comes y Two p.field two)
