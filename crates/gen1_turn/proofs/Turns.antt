-- How the parts of a turn follow one another, how an action ends, and what is planned meanwhile.
use Rattle.std.proofs.Common.{◌+◌, ◌≡◌, Bool, false, refl, if◌then◌else◌, set, ◌&&◌, ◌-◌}
use Rattle.std.proofs.lemmas.Bool.{false≢true}
use Rattle.gen1_layout.proofs.Words.{Shows, ShowsDrawn, active_in, ap, choose-false, choose-true, draw, drawn_goes, given, goes, if_not, if_so, length, member_in, nat_lt, on_active, on_conditions, on_field, stay, stays, still, subst, sym, then-goes, true, ℕ, ◌∙◌, ◌▸◌, Active, Field, IsBetween, List, Member, None, Some, changed_member, nat_le, nobody}
use Rattle.gen1_rolls.specs.Draws.{Drawing, Source, Ref, Since}
use Rattle.gen1_rolls.specs.Streams.{byte_at}
use Rattle.gen1_machine.specs.declared.side.Choice.{Choice}
use Rattle.gen1_machine.specs.declared.side.Pick.{Pick}
use Rattle.gen1_machine.specs.declared.side.Pick.TheVariants.{Continue, Held, Idle, Use}
use Rattle.gen1_machine.specs.declared.side.Side.TheVariants.{One, Two}
use Rattle.gen1_machine.specs.Conditions.{ActiveConditions, without_flinch, without_trapping}
use Rattle.gen1_machine.specs.State.{changed_active, changed_conditions, with_picked_move, Terms, with_current_move, is_over}
use Rattle.gen1_machine.specs.Progress.{on_action, underway, unless, Phase, Progress, active}
use Rattle.gen1_machine.specs.Picks.{pick_in, picked_after}
use Rattle.gen1_machine.specs.ResidualDamage.{residual}
use Rattle.gen1_machine.specs.Ruling.{Ruling, ruling_of}
use Rattle.gen1_machine.specs.Action.{begin, resume}
use Rattle.gen1_machine.specs.TurnOrder.{in_order, in_order_of_rank, rank_in, toss}
use Rattle.gen1_machine.specs.Turn.{both_pick, both_switch, do_parts, end_spent_trapping, end_turn, is_cut, is_spent, one_picks, play_turn, set_picked, Acts as ActsPart, do_part}
use Rattle.gen1_machine.specs.Valid.{IsUsedMove}
use Rattle.gen1_machine.specs.Plans.{FitsPick, InRange, IsPlanned, Plan, PlanOf}
use Rattle.gen1_machine.proofs.Keeps.{on_conditions-keeps, Keeps}
use Rattle.gen1_machine.proofs.Sound.{party-valid, planned-holds, planned-sound}
use Rattle.gen1_machine.proofs.SoundWalk.{conditions-spared}
use Rattle.gen1_machine.proofs.Tame.{without_flinch-tame}
use Rattle.gen1_machine.proofs.ValidSteps.{pick-plan, Picked}
use Rattle.gen1_layout.specs.Operations.{Does, between, scene}
use Rattle.gen1_hits.specs.declared.known.Known.{Known}
use Rattle.gen1_hits.specs.Knowing.{begun, knowing, with_broke, ShowsOver, ShowsKnown}
use Rattle.gen1_hits.specs.Planned.{Follows}
use Rattle.gen1_turn.specs.TwoParts.{suffering, Ends, EndsCut, LeavesRest, PartLeaves, ActsAndSuffers, DoesTurn}
use Rattle.gen1_machine.specs.declared.side.Side.{Side}
use Rattle.gen1_layout.specs.Parts.{Parts}
use Rattle.gen1_layout.specs.Shows.{Frame, Telling}
use Rattle.gen1_turn.specs.Action.{Acts, DoesParts, acting, picked, planning, ready}
use Rattle.std.proofs.lemmas.List.{set-get_or}
use Rattle.gen1_machine.proofs.Acts.{unchanged}
use Rattle.gen1_status.proofs.Statuses.{at_most}
use Rattle.gen1_status.specs.declared.gate_answer.Gate.{Gate}
use Rattle.gen1_status.specs.declared.gate_answer.Gate.TheVariants.{Fault, Go, Stop}
use Rattle.gen1_status.specs.Gate.{TellsDrawn, stopped_by}
use Rattle.gen1_machine.specs.declared.side.Choice.TheVariants as choices

-- Residual damage, and whether the turn is cut after it

pub cut_before : (g : Frame) (parts : Parts) (events : Telling) (s : Side) (p : Progress) → is_cut p ≡ true → Shows g parts events false p
    → LeavesRest (Shows g parts events) true (suffering s) (residual s) p
cut_before g parts events s p cut h rest = (false, if_so _ _ _ cut (stays h))

pub cut_after : (g : Frame) (parts : Parts) (events : Telling) (s : Side) (p : Progress) (cut : Bool) → is_cut (residual s p) ≡ cut → is_cut p ≡ false
    → Shows g parts events false (residual s p) → LeavesRest (Shows g parts events) cut (suffering s) (residual s) p
cut_after g parts events s p true now whole a = λ rest. (false, if_not _ _ _ whole (goes _ _ a (if_so _ _ _ now (stays a))))
cut_after g parts events s p false now whole a = (
  a,
  now,
  λ rest. choose-false is_cut stay (residual s ▸ unless is_cut rest) p whole ∙ then-goes (residual s) _ p a.ends
      ∙ choose-false is_cut stay rest (residual s p) now,
)

-- A part, and the residual damage after it

pub sent_left : (g : Frame) {parts : Parts} {events : Telling} (parts' : Parts) (events' : Telling) (falls : Bool) (f : Phase) (s : Side) (p : Progress)
    → Shows g parts events false (f p) → LeavesRest (Shows g parts' events') falls (suffering s) (residual s) (f p)
    → PartLeaves (Shows g parts' events') falls f s p
sent_left g parts' events' true f s p a left = λ rest. let x = left rest in (x.0, goes f _ a x.1)
sent_left g parts' events' false f s p a left = (left.0, left.1, λ rest. then-goes f _ p a.ends ∙ left.2 rest)

module _ {A : Type 0} {d : Drawing A} {source : Source A} where
  pub acted_left : (k : Known) (g : Frame) {parts : Parts} {events : Telling} (parts' : Parts) (events' : Telling) (now : A) (falls : Bool) (f : Phase) (s : Side) (p : Progress)
      → (a : ShowsOver d source k g parts events now false (f p))
      → LeavesRest (Shows (record (knowing (with_broke a.0 k) g) { stream = source.stream; drawn = (f p).drawn }) parts' events') falls (suffering s) (residual s) (f p)
      → PartLeaves (λ b q. ShowsOver d source k g parts' events' now b q) falls f s p
  acted_left k g parts' events' now true f s p a left =
      λ rest. let x = left rest in (x.0, (a.0, drawn_goes f _ a.1 (still {g' = knowing (with_broke a.0 k) g} a.1 x.1)))
  acted_left k g parts' events' now false f s p a left = (
    (a.0, still {g' = knowing (with_broke a.0 k) g} a.1 left.0),
    left.1,
    λ rest. then-goes f _ p a.1.shows.ends ∙ left.2 rest,
  )

  -- What a switch shows, with a generator that hasn't moved.
  pub over_still : (k k' : Known) (g : Frame) {broke : Bool} {parts parts' : Parts} {events events' : Telling} {now : A} {b : Bool} {p q : Progress}
      → ShowsDrawn d source (knowing (with_broke broke k) g) parts events now false p → Shows (knowing k' (record g { stream = source.stream; drawn = p.drawn })) parts' events' b q
      → ShowsOver d source k' g parts' events' now b q
  over_still k k' g a h = (k'.broke, still {g' = knowing k' g} a h)

  pub ends_still : (k k' : Known) (g : Frame) {broke : Bool} {parts parts' : Parts} {events events' : Telling} {now : A} {p q : Progress}
      → ShowsDrawn d source (knowing (with_broke broke k) g) parts events now false p
      → (stopped : Bool) × Shows (knowing k' (record g { stream = source.stream; drawn = p.drawn })) parts' events' stopped q → Ends d source k' g parts' events' now q
  ends_still k k' g a x = (x.0, over_still k k' g a x.1)

  -- The end of a turn, and whether it was cut

  pub cut_as : (k : Known) (g : Frame) {parts : Parts} {events : Telling} {now : A} {cut : Bool} (q q' : Progress) → q ≡ q'
      → EndsCut d source k g parts events now cut q' → EndsCut d source k g parts events now cut q
  cut_as k g q q' e a = rw e a

  pub ends_as : (k : Known) (g : Frame) {parts : Parts} {events : Telling} {now : A} (q q' : Progress) → q ≡ q'
      → Ends d source k g parts events now q' → Ends d source k g parts events now q
  ends_as k g q q' e a = rw e a

  pub ended : (k : Known) (g : Frame) {parts parts' : Parts} {events events' : Telling} {now : A} {p : Progress} (f : Phase)
      → Does (between parts events parts' events') false f → ShowsOver d source k g parts events now false p → Ends d source k g parts' events' now (f p)
  ended k g f does (broke, a) = (false, (broke, still {g' = knowing (with_broke broke k) g} a (does _ _ a.shows)))

-- The end of a turn without a generator.
pub stops_as : {g : Frame} {parts : Parts} {events : Telling} (q q' : Progress) → q ≡ q' → (stopped : Bool) × Shows g parts events stopped q'
    → (stopped : Bool) × Shows g parts events stopped q
stops_as q q' e a = rw e a

-- An answer of true says nothing of the turn.
pub cut_short : {A : Type 0} → true ≡ false → A
cut_short e = absurd (false≢true (sym e))

-- Trapping that ends cuts no turn

conditions_cut : (s : Side) (change : ActiveConditions → ActiveConditions) (p : Progress) → is_cut (on_conditions s change p) ≡ is_cut p
unfolding on_conditions on_field changed_conditions changed_active
conditions_cut One change p = refl
conditions_cut Two change p = refl

spent_cut : (s : Side) (p : Progress) → (is_cut (end_spent_trapping s p) ≡ is_cut p) × ((end_spent_trapping s p).stopped ≡ p.stopped)
unfolding end_spent_trapping stay on_conditions on_field
spent_cut s p = by (is_spent (underway s p).trapping) refl
  where
    by : (b : Bool) → is_spent (underway s p).trapping ≡ b → (is_cut (end_spent_trapping s p) ≡ is_cut p) × ((end_spent_trapping s p).stopped ≡ p.stopped)
    by true e =
        let is = choose-true (λ q. is_spent (underway s q).trapping) (on_conditions s without_trapping) stay p e in
        (ap is_cut is ∙ conditions_cut s without_trapping p, ap (λ (q : Progress). q.stopped) is)
    by false e =
        let is = choose-false (λ q. is_spent (underway s q).trapping) (on_conditions s without_trapping) stay p e in
        (ap is_cut is, ap (λ (q : Progress). q.stopped) is)

pub ended_uncut : (q q' : Progress) → q ≡ end_turn q' → q'.stopped ≡ false → is_cut q' ≡ false → is_cut q ≡ false
unfolding end_turn
ended_uncut q q' e go uncut =
    let one = spent_cut One q' in
    ap is_cut (e ∙ then-goes (end_spent_trapping One) (end_spent_trapping Two) q' (one.1 ∙ go)) ∙ (spent_cut Two _).0 ∙ one.0 ∙ uncut

-- An action begins, and nothing of it is known.
pub begun_still : (k k' : Known) (g : Frame) (broke : Bool) {parts : Parts} {events : Telling} {b : Bool} {p : Progress} (s : Side) → k' ≡ begun s k
    → Shows (knowing (with_broke broke k) g) parts events b p → Shows (knowing k' g) parts events b (begin s p)
unfolding begin on_action
begun_still k k' g broke s is h =
    rw is (record { within = h.within; written = h.written; ends = h.ends; stream = h.stream; drawn = h.drawn; skips = h.skips; action = refl })

pub begins-in_range : (s t : Side) (place : ℕ) (p : Progress) → InRange t place p.field → InRange t place (begin s p).field
unfolding begin on_action
begins-in_range s t place p h = h

-- A draw for equal Speeds

pub tossed_one : (begins : Side → Phase) (p : Progress) (d : ℕ) → nat_lt d 128 ≡ nat_lt (byte_at p.stream p.drawn) 128 → nat_lt d 128 ≡ true → draw (toss begins) p ≡ begins One (record p { drawn = p.drawn + 1 })
unfolding draw toss
tossed_one begins p d at small = choose-true _ (begins One) (begins Two) (record p { drawn = p.drawn + 1 }) (sym at ∙ small)

pub tossed_two : (begins : Side → Phase) (p : Progress) (d : ℕ) → nat_lt d 128 ≡ nat_lt (byte_at p.stream p.drawn) 128 → nat_lt d 128 ≡ false → draw (toss begins) p ≡ begins Two (record p { drawn = p.drawn + 1 })
unfolding draw toss
tossed_two begins p d at large = choose-false _ (begins One) (begins Two) (record p { drawn = p.drawn + 1 }) (sym at ∙ large)

-- The order by ranks that were found as each pick was written down

pub picked-now : (s : Side) (pick : Pick) (p : Progress) → (active_in s (set_picked s pick p).field).picked_move ≡ picked_after pick (active_in s p.field).picked_move
unfolding set_picked given on_active on_field changed_active with_picked_move
picked-now One pick p = refl
picked-now Two pick p = refl

pub ranked : (begins : Side → Phase) (one two : ℕ) (x y : Pick) (p q : Progress) → let sent = set_picked Two y (set_picked One x p) in
    one ≡ rank_in One (set_picked One x p).field → two ≡ rank_in Two sent.field → in_order_of_rank one two begins sent ≡ q → in_order begins sent ≡ q
unfolding in_order given set_picked on_active on_field changed_active
ranked begins one two x y p q e f h =
    let sent = set_picked Two y (set_picked One x p) in
    subst (λ (n : ℕ). in_order_of_rank n (rank_in Two sent.field) begins sent ≡ q) e
    (subst (λ (n : ℕ). in_order_of_rank one n begins sent ≡ q) f h)

-- What is planned

pub picked-fits : (terms : Terms) (plan : Side → Plan) (s : Side) (pick : Pick) (p : Progress) → FitsPick pick (plan s) → Follows terms plan p
    → IsUsedMove (length (member_in s p.field).moves) (picked_after pick (active_in s p.field).picked_move)
picked-fits terms plan s (Use used) p fits h = (planned-holds s p.field p.action p.stream fits.1 h).0
picked-fits terms plan s Continue p fits h = (party-valid s p.field h.field).active.picked_move
picked-fits terms plan s Idle p fits h = (party-valid s p.field h.field).active.picked_move
picked-fits terms plan s Held p fits h = tt

-- A flinch that ends

pub flinch-planned : (terms : Terms) (plan : Side → Plan) (s : Side) → Keeps (IsPlanned terms plan) (on_conditions s without_flinch)
flinch-planned terms plan s = on_conditions-keeps s _ (conditions-spared (planned-sound terms plan) s _ without_flinch-tame)

-- A turn, by both choices

pub picked-one : {terms : Terms} (plan : Side → Plan) (s : Side) (x : Choice) (j : ℕ) (pick : Pick) (p : Progress) → x ≡ choices.Move j → pick ≡ pick_in j s p.field
    → PlanOf x (plan s) → Follows terms plan p → Picked terms plan s pick p.field p.action p.stream
picked-one {terms} plan s x j pick p ex is one h =
    subst (λ (z : Pick). Picked terms plan s z p.field p.action p.stream) (sym is)
    (pick-plan plan s j p.field p.action p.stream (subst (λ (z : Choice). PlanOf z (plan s)) ex one) h)

pub record PickedBoth (terms : Terms) (one two : Pick) (p : Progress) : Type 0 where
  pub next : Side → Plan
  pub planned : Follows terms next p
  pub fits : FitsPick one (next One) × FitsPick two (next Two)

pub picked-both : {terms : Terms} (plan : Side → Plan) (x y : Choice) (j k : ℕ) (one two : Pick) (p : Progress) → x ≡ choices.Move j → y ≡ choices.Move k
    → one ≡ pick_in j One p.field → two ≡ pick_in k Two p.field → PlanOf x (plan One) → PlanOf y (plan Two) → Follows terms plan p → PickedBoth terms one two p
picked-both plan x y j k one two p ex ey is_one is_two first second h =
    let a = picked-one plan One x j one p ex is_one first h in
    let b = picked-one a.next Two y k two p ey is_two (subst (λ (z : Plan). PlanOf y z) (sym a.rest) second) a.planned in
    record { next = b.next; planned = b.planned; fits = (subst (λ (z : Plan). FitsPick one z) (sym b.rest) a.fits, b.fits) }

pub play-moves : (r : Ruling) (x y : Choice) (j k : ℕ) (one two : Pick) (p : Progress) → x ≡ choices.Move j → y ≡ choices.Move k
    → one ≡ pick_in j One p.field → two ≡ pick_in k Two p.field → play_turn r x y p ≡ both_pick r one two p
unfolding play_turn given
play-moves r x y j k one two p ex ey is_one is_two = rw (ex, ey, is_one, is_two) refl

pub play-one : (r : Ruling) (x y : Choice) (j place : ℕ) (pick : Pick) (p : Progress) → x ≡ choices.Move j → y ≡ choices.Switch place
    → pick ≡ pick_in j One p.field → play_turn r x y p ≡ one_picks r One pick place p
unfolding play_turn given
play-one r x y j place pick p ex ey is = rw (ex, ey, is) refl

pub play-two : (r : Ruling) (x y : Choice) (k place : ℕ) (pick : Pick) (p : Progress) → x ≡ choices.Switch place → y ≡ choices.Move k
    → pick ≡ pick_in k Two p.field → play_turn r x y p ≡ one_picks r Two pick place p
unfolding play_turn given
play-two r x y k place pick p ex ey is = rw (ex, ey, is) refl

pub play-switches : (r : Ruling) (x y : Choice) (one two : ℕ) (p : Progress) → x ≡ choices.Switch one → y ≡ choices.Switch two
    → play_turn r x y p ≡ do_parts r (both_switch one two) p
unfolding play_turn
play-switches r x y one two p ex ey = rw (ex, ey) refl

pub play-second_passes : (r : Ruling) (x y : Choice) (p : Progress) → y ≡ choices.Pass → play_turn r x y p ≡ p
unfolding play_turn stay
play-second_passes r (choices.Move j) y p ey = rw ey refl
play-second_passes r (choices.Switch j) y p ey = rw ey refl
play-second_passes r choices.Pass y p ey = refl

pub play-first_passes : (r : Ruling) (x y : Choice) (p : Progress) → x ≡ choices.Pass → play_turn r x y p ≡ p
unfolding play_turn stay
play-first_passes r x (choices.Move j) p ex = rw ex refl
play-first_passes r x (choices.Switch j) p ex = rw ex refl
play-first_passes r x choices.Pass p ex = rw ex refl

-- The words of an action in a turn, spelled out (gen1_layout and gen1_hits, `Same`, have those of every operation).

module _ {S : Type 0} (tells : S → Telling) (battle : Ref Parts) (events : Ref S) (known : Ref Known) {A : Type 0} (d : Drawing A) (random : Ref A) where
  pub same-parts : (side : Side) (pick : Pick) (b : Bool) (phase : Ruling → Phase) → DoesParts d random (ready side pick) (acting known (scene tells battle events)) b phase
      ≡ ((since : Since d random.exit.now) (g : Frame) (p : Progress) (plan : Side → Plan) → FitsPick pick (plan side) → Follows g.setting.terms plan p → p.action.letting_go ≡ false
      → ShowsKnown d since.source known.entry.now g battle.entry.now (tells events.entry.now) random.entry.now false p
      → ShowsOver d since.source known.exit.now g battle.exit.now (tells events.exit.now) random.exit.now b (phase (ruling_of g.setting.terms) p))
  same-parts side pick b phase = refl

  pub same-acts : (side : Side) (pick : Pick) (b : Bool) (phase : Ruling → Phase) → Acts d random (picked side pick) (acting known (scene tells battle events)) b phase
      ≡ ((since : Since d random.exit.now) (g : Frame) (p : Progress) (plan : Side → Plan) → FitsPick pick (plan side) → Follows g.setting.terms plan p
      → ShowsOver d since.source known.entry.now g battle.entry.now (tells events.entry.now) random.entry.now false p
      → ShowsOver d since.source known.exit.now g battle.exit.now (tells events.exit.now) random.exit.now b (phase (ruling_of g.setting.terms) p))
  same-acts side pick b phase = refl

  pub same-suffers : (side : Side) (pick : Pick) (b : Bool) → ActsAndSuffers d random side pick (acting known (scene tells battle events)) b
      ≡ ((since : Since d random.exit.now) (g : Frame) (p : Progress) (plan : Side → Plan) → FitsPick pick (plan side) → Follows g.setting.terms plan p
      → ShowsOver d since.source known.entry.now g battle.entry.now (tells events.entry.now) random.entry.now false p
      → PartLeaves (ShowsOver d since.source known.exit.now g battle.exit.now (tells events.exit.now) random.exit.now) b (do_part (ruling_of g.setting.terms) (ActsPart side pick)) side p)
  same-suffers side pick b = refl

  pub same-turn : (holds : (Side → Plan) → Progress → Type 0) (cut : Bool) (phase : Ruling → Phase) → DoesTurn d random (planning holds) (acting known (scene tells battle events)) cut phase
      ≡ ((since : Since d random.exit.now) (g : Frame) (p : Progress) (plan : Side → Plan) → holds plan p → Follows g.setting.terms plan p
      → ShowsOver d since.source known.entry.now g battle.entry.now (tells events.entry.now) random.entry.now false p
      → EndsCut d since.source known.exit.now g battle.exit.now (tells events.exit.now) random.exit.now cut (phase (ruling_of g.setting.terms) p))
  same-turn holds cut phase = refl

-- The number of a used move, and a member that stays as it is.

-- The move of a number

pub made : (n id : ℕ) → (if nat_le 1 n && nat_le n 165 then Some n else None) ≡ Some id → id ≡ n
made n id e = by (nat_le 1 n && nat_le n 165) e
  where
    by : (b : Bool) → (if b then Some n else None) ≡ Some id → id ≡ n
    by true e = cc
    by false e = cc

pub some_made : (n : ℕ) → IsBetween 1 165 n → (if nat_le 1 n && nat_le n 165 then Some n else None) ≡ None → ⊥
some_made n h e =
    let low : nat_le 1 n ≡ true = at_most 1 n h.0 in
    let high : nat_le n 165 ≡ true = at_most n 165 h.1 in
    let gone : Some n ≡ None = rw (low, high) at e in cc

-- A change that leaves a member as it is

pub unchanged-member : (s : Side) (change : Member → Member) (f : Field) → change (member_in s f) ≡ member_in s f → changed_member s change f ≡ f
unfolding changed_member
unchanged-member One change f same =
    ap (λ (m : Member). record f { one = record f.one { members = set f.one.members (f.one.active.place - 1) m } }) same
    ∙ ap (λ (ms : List Member). record f { one = record f.one { members = ms } }) (set-get_or f.one.members (f.one.active.place - 1) nobody)
unchanged-member Two change f same =
    ap (λ (m : Member). record f { two = record f.two { members = set f.two.members (f.two.active.place - 1) m } }) same
    ∙ ap (λ (ms : List Member). record f { two = record f.two { members = ms } }) (set-get_or f.two.members (f.two.active.place - 1) nobody)

-- A pick without a move keeps the current move, and the picked move unless the foe holds the member

same_picked : (s : Side) (f : Field) → changed_active s (with_picked_move (active_in s f).picked_move) f ≡ f
unfolding changed_active with_picked_move
same_picked One f = refl
same_picked Two f = refl

module _ {g : Frame} {parts : Parts} {events : Telling} (s : Side) (p : Progress) where
  pub still_current : Shows g parts events false p → Shows g parts events false (given (active s) (λ (a : Active). on_active s (with_current_move a.current_move)) p)
  unfolding given on_active on_field
  still_current h = subst (λ (f : Field). Shows g parts events false (record p { field = f })) (sym (unchanged s p.field)) h

  pub still_picked : Shows g parts events false p → Shows g parts events false (given (active s) (λ (a : Active). on_active s (with_picked_move a.picked_move)) p)
  unfolding given on_active on_field
  still_picked h = subst (λ (f : Field). Shows g parts events false (record p { field = f })) (sym (same_picked s p.field)) h

-- An action after the gate, and its end.

module _ {A : Type 0} {d : Drawing A} {source : Source A} where
  -- An action that the gate ends may have broken a substitute.
  pub over_gate : (k : Known) (g : Frame) {parts : Parts} {events : Telling} {now : A} {p q : Progress} (answer : Gate) → stopped_by answer ≡ true
      → TellsDrawn d source (knowing k g) parts events now answer p q → ShowsOver d source k g parts events now true q
  over_gate k g Go e a = cc
  over_gate k g {q = q} Stop e a = (q.action.broke, a.shows)
  over_gate k g {q = q} Fault e a = (q.action.broke, a.shows)

  pub resumed : {g : Frame} {parts : Parts} {events : Telling} {now : A} {b b' : Bool} {p : Progress} → b' ≡ is_over p.field.outcome
      → ShowsDrawn d source g parts events now b p → ShowsDrawn d source g parts events now b' (resume p)
  unfolding resume
  resumed e a =
      let h = a.shows in
      record {
        shows = record { within = h.within; written = h.written; ends = sym e; stream = h.stream; drawn = h.drawn; skips = h.skips; action = h.action };
        stands = a.stands;
      }
