-- An action keeps a valid field.
use Rattle.std.proofs.Common.{None, Option, Some, arith, false, is_some, nat_le, refl, subst, suc, sym, true, zero, ℕ, ◌-◌, ◌≡◌, ◌≤◌, All, Bool, List, [], ap, get_or, if◌then◌else◌, length, length-set, set, unwrap_or, ◌<◌, ◌∙◌, ◌∷◌, ◌||◌}
use Rattle.std.proofs.lemmas.Bool.{leb-false, false≢true}
use Rattle.gen1_tables.specs.declared.effect.Effect.{Effect}
use Rattle.gen1_machine.specs.declared.side.Side.{Side}
use Rattle.gen1_stats.specs.Members.{IsBetween, nothing_known, IsKnown, Member}
use Rattle.gen1_machine.specs.Sides.{other}
use Rattle.gen1_machine.specs.Conditions.{one_less, stored, with_bide, with_bide_storing, with_charging, with_rage, with_recharge, with_thrash, with_thrash_one_less, with_trapping, ActiveConditions, Storing, with_invulnerability}
use Rattle.gen1_machine.specs.State.{conditions_in, underway_in, Terms, active_in, changed_active, member_in, with_current_move, with_less_pp, with_pp_spent, Field}
use Rattle.gen1_tables.specs.Effects.{bides, charges, rages, recharges, thrashes, traps, hides}
use Rattle.gen1_machine.specs.Moves.{accuracy_byte, Move, move_at}
use Rattle.gen1_machine.specs.Progress.{given, lasts, only, starts, stop, unless, ◌▸◌, choose, last_damage, on_action, on_active, on_conditions, on_field, stay, unless_stopped, Action, Phase, Progress}
use Rattle.gen1_machine.specs.Ruling.{Ruling, ruling_of}
use Rattle.gen1_machine.specs.LateEffects.{bide_for, is_late, late_effect, start_bide}
use Rattle.gen1_machine.specs.SideEffects.{must_recharge, side_effect}
use Rattle.gen1_machine.specs.GoingOn.{bide_goes_on, bide_on, let_energy_go, set_letting_go, store_energy, thrash_about, thrash_for, thrash_less, trap, trap_for}
use Rattle.gen1_machine.specs.HitEffects.{hit_effect, start_rage}
use Rattle.gen1_machine.specs.ManyHits.{hit_again, hit_once, hits, other_hits}
use Rattle.gen1_machine.specs.Action.{damage_of, lands_at_once, lets_energy_go, prelude, strike, act, action_parts, begin, carry_out, keep_accuracy, lead_up, move_taken_in, resume, spend_pp, use_move}
use Rattle.gen1_machine.specs.Valid.{IsConditions, IsCount, IsStoring, OnlyWith, effect_of, IsMemberUnder}
use Rattle.gen1_machine.specs.Plans.{Doing, IsPlanned, Plan, with_plan, Any, HoldsPlan, Plans}
use Rattle.gen1_machine.proofs.Keeps.{choose-keeps, draw-keeps, ends-keeps, given-keeps, note-keeps, on_action-keeps, on_active-keeps, on_conditions-keeps, told-keeps, set_last_damage-keeps, set_missed-keeps, stay-keeps, stop-keeps, then-keeps, Keeps, KeepsRuling, keeps-leads, stay-leads, then-leads, Leads, on_member-keeps, choose-false, leads-weaker}
use Rattle.gen1_machine.proofs.Tame.{accuracy-tame, with_trapping_one_less-tame, without_bide-tame, without_recharge-tame, without_thrash-tame, with_invulnerability-tame, without_charging-tame, without_invulnerability-tame, SameMoves, TameMember}
use Rattle.gen1_machine.proofs.Sound.{choose-leads_sees, choose-sees, told-leads, planned-sound, planned-tied, Sound, leads-from, on_conditions-leads, IsMove, LowersSome, given-sees, party-valid, planned-holds, replanned, taken-up, with_plan-is, is-move}
use Rattle.gen1_machine.proofs.SoundWalk.{build_rage-sound, damage_of-sound, fail-sound, conditions-spared, confuse-sound, count_hit-sound, disable-sound, drain-sound, draw_count-sound, explode-sound, kept_away_effect-sound, land-sound, lower_foes_stat-sound, may_confuse-sound, missed-spared, missed_move-sound, note_first_hit-sound, note_hit_count-sound, plan_hits-sound, put_to_sleep-sound, raise_stage-sound, recoil-sound, set_planned-sound, early_effect-sound, gate_or_held-sound, ruling-sound, see_if_going_on-sound}
use Rattle.gen1_rolls.specs.Streams.{Stream}
use Rattle.gen1_stats.specs.declared.member.KnownMove.{KnownMove}
use Rattle.gen1_machine.specs.declared.side.Pick.{Pick}
use Rattle.gen1_machine.specs.declared.side.Pick.TheVariants.{Use}
use Rattle.gen1_machine.specs.declared.side.UsedMove.{UsedMove}
use Rattle.gen1_machine.specs.declared.side.UsedMove.TheVariants.{Nothing, Slot, Struggle}
use Rattle.gen1_machine.specs.declared.side.Side.TheVariants.{One, Two}
use Rattle.gen1_machine.specs.Rules.{Rules}
use Rattle.gen1_machine.specs.Picks.{number_in, used_by}
use Rattle.gen1_machine.specs.Charging.{begin_charge, charge, end_charge, make_current}
use Rattle.gen1_tables.specs.declared.effect.Effect.TheVariants as effects

-- The phases of an action that touch what the current move explains keep a valid field.

-- Conditions that a move explains

bide-on : (e : Effect) (n turns : ℕ) (c : ActiveConditions) → bides e ≡ true → IsBetween 1 3 turns → IsConditions e n c → IsConditions e n (with_bide turns c)
unfolding with_bide
bide-on e n turns c tie l h = record {
  underway = record {
    bide = (l, omega arith);
    thrash = h.underway.thrash;
    trapping = h.underway.trapping;
    bide_tied = λ on. tie;
    thrash_tied = h.underway.thrash_tied;
    trapping_tied = h.underway.trapping_tied;
    charging_tied = h.underway.charging_tied;
    recharge_tied = h.underway.recharge_tied;
    rage_tied = h.underway.rage_tied;
  };
  confused = h.confused;
  substitute = h.substitute;
  bad_poison = h.bad_poison;
  disabled = h.disabled;
}

thrash-on : (e : Effect) (n turns : ℕ) (c : ActiveConditions) → thrashes e ≡ true → IsBetween 1 3 turns → IsConditions e n c → IsConditions e n (with_thrash turns c)
unfolding with_thrash
thrash-on e n turns c tie l h = record {
  underway = record {
    bide = h.underway.bide;
    thrash = l;
    trapping = h.underway.trapping;
    bide_tied = h.underway.bide_tied;
    thrash_tied = λ on. tie;
    trapping_tied = h.underway.trapping_tied;
    charging_tied = h.underway.charging_tied;
    recharge_tied = h.underway.recharge_tied;
    rage_tied = h.underway.rage_tied;
  };
  confused = h.confused;
  substitute = h.substitute;
  bad_poison = h.bad_poison;
  disabled = h.disabled;
}

trapping-on : (e : Effect) (n turns : ℕ) (c : ActiveConditions) → traps e ≡ true → turns ≤ 4 → IsConditions e n c → IsConditions e n (with_trapping turns c)
unfolding with_trapping
trapping-on e n turns c tie l h = record {
  underway = record {
    bide = h.underway.bide;
    thrash = h.underway.thrash;
    trapping = (omega arith, l);
    bide_tied = h.underway.bide_tied;
    thrash_tied = h.underway.thrash_tied;
    trapping_tied = λ on. tie;
    charging_tied = h.underway.charging_tied;
    recharge_tied = h.underway.recharge_tied;
    rage_tied = h.underway.rage_tied;
  };
  confused = h.confused;
  substitute = h.substitute;
  bad_poison = h.bad_poison;
  disabled = h.disabled;
}

pub charging-on : (e : Effect) (n : ℕ) (c : ActiveConditions) → charges e ≡ true → IsConditions e n c → IsConditions e n (with_charging c)
unfolding with_charging
charging-on e n c tie h = record {
  underway = record {
    bide = h.underway.bide;
    thrash = h.underway.thrash;
    trapping = h.underway.trapping;
    bide_tied = h.underway.bide_tied;
    thrash_tied = h.underway.thrash_tied;
    trapping_tied = h.underway.trapping_tied;
    charging_tied = λ on. tie;
    recharge_tied = h.underway.recharge_tied;
    rage_tied = h.underway.rage_tied;
  };
  confused = h.confused;
  substitute = h.substitute;
  bad_poison = h.bad_poison;
  disabled = h.disabled;
}

recharge-on : (e : Effect) (n : ℕ) (c : ActiveConditions) → recharges e ≡ true → IsConditions e n c → IsConditions e n (with_recharge c)
unfolding with_recharge
recharge-on e n c tie h = record {
  underway = record {
    bide = h.underway.bide;
    thrash = h.underway.thrash;
    trapping = h.underway.trapping;
    bide_tied = h.underway.bide_tied;
    thrash_tied = h.underway.thrash_tied;
    trapping_tied = h.underway.trapping_tied;
    charging_tied = h.underway.charging_tied;
    recharge_tied = λ on. tie;
    rage_tied = h.underway.rage_tied;
  };
  confused = h.confused;
  substitute = h.substitute;
  bad_poison = h.bad_poison;
  disabled = h.disabled;
}

rage-on : (e : Effect) (n : ℕ) (c : ActiveConditions) → rages e ≡ true → IsConditions e n c → IsConditions e n (with_rage c)
unfolding with_rage
rage-on e n c tie h = record {
  underway = record {
    bide = h.underway.bide;
    thrash = h.underway.thrash;
    trapping = h.underway.trapping;
    bide_tied = h.underway.bide_tied;
    thrash_tied = h.underway.thrash_tied;
    trapping_tied = h.underway.trapping_tied;
    charging_tied = h.underway.charging_tied;
    recharge_tied = h.underway.recharge_tied;
    rage_tied = λ on. tie;
  };
  confused = h.confused;
  substitute = h.substitute;
  bad_poison = h.bad_poison;
  disabled = h.disabled;
}

-- What goes on, whatever the move is

thrash-less : (e : Effect) (n turns : ℕ) (c : ActiveConditions) → c.underway.thrash ≡ Some turns → nat_le turns 1 ≡ false → IsConditions e n c → IsConditions e n (with_thrash_one_less c)
unfolding with_thrash_one_less
thrash-less e n turns c is more h = record {
  underway = record {
    bide = h.underway.bide;
    thrash = subst (λ o. IsCount 1 3 (one_less o)) (sym is) (less (subst (λ o. IsCount 1 3 o) is h.underway.thrash));
    trapping = h.underway.trapping;
    bide_tied = h.underway.bide_tied;
    thrash_tied = tied c.underway.thrash h.underway.thrash_tied;
    trapping_tied = h.underway.trapping_tied;
    charging_tied = h.underway.charging_tied;
    recharge_tied = h.underway.recharge_tied;
    rage_tied = h.underway.rage_tied;
  };
  confused = h.confused;
  substitute = h.substitute;
  bad_poison = h.bad_poison;
  disabled = h.disabled;
}
  where
    less : IsBetween 1 3 turns → IsBetween 1 3 (turns - 1)
    less k = (omega (arith, leb-false turns 1 more), omega (arith, k.1))

    tied : (o : Option ℕ) → OnlyWith (thrashes e) (is_some o) → OnlyWith (thrashes e) (is_some (one_less o))
    tied None k = k
    tied (Some n) k = k

bide-less : (e : Effect) (n damage : ℕ) (b : Storing) (c : ActiveConditions) → c.underway.bide ≡ Some b → nat_le b.turns 1 ≡ false → IsConditions e n c → IsConditions e n (with_bide_storing damage c)
unfolding with_bide_storing
bide-less e n damage b c is more h = record {
  underway = record {
    bide = subst (λ o. IsStoring (stored damage o)) (sym is) (less (subst (λ o. IsStoring o) is h.underway.bide));
    thrash = h.underway.thrash;
    trapping = h.underway.trapping;
    bide_tied = tied c.underway.bide h.underway.bide_tied;
    thrash_tied = h.underway.thrash_tied;
    trapping_tied = h.underway.trapping_tied;
    charging_tied = h.underway.charging_tied;
    recharge_tied = h.underway.recharge_tied;
    rage_tied = h.underway.rage_tied;
  };
  confused = h.confused;
  substitute = h.substitute;
  bad_poison = h.bad_poison;
  disabled = h.disabled;
}
  where
    less : IsStoring (Some b) → IsStoring (stored damage (Some b))
    less k = ((omega (arith, leb-false b.turns 1 more), omega (arith, k.0.1)), omega arith)

    tied : (o : Option Storing) → OnlyWith (bides e) (is_some o) → OnlyWith (bides e) (is_some (stored damage o))
    tied None k = k
    tied (Some b) k = k

-- Phases while a side uses a move with this effect

module _ (terms : Terms) (plan : Side → Plan) where
  planned : Sound terms (IsPlanned terms plan)
  planned = planned-sound terms plan

  let_go-keeps : Keeps (IsPlanned terms plan) set_letting_go
  unfolding set_letting_go
  let_go-keeps = on_action-keeps (record { spared = λ f a w h. record { field = h.field; tested = h.tested; stream = h.stream; holds = h.holds } })

  let_energy_go-keeps : (s : Side) (energy : ℕ) → Keeps (IsPlanned terms plan) (let_energy_go s energy)
  unfolding let_energy_go
  let_energy_go-keeps s energy = then-keeps (ends-keeps s _ _ (conditions-spared planned s _ without_bide-tame))
      (then-keeps (set_last_damage-keeps _ (planned.damage _ (omega arith))) (then-keeps let_go-keeps (set_missed-keeps _ (missed-spared planned _))))

  bide_on-keeps : (s : Side) (o : Option Storing) (damage : ℕ)
      → Leads (λ f a w. IsPlanned terms plan f a w × ((underway_in s f).bide ≡ o)) (IsPlanned terms plan) (bide_on s o damage)
  unfolding bide_on store_energy lasts
  bide_on-keeps s None damage = stay-leads (λ f a w h. h.0)
  bide_on-keeps s (Some b) damage = choose-leads_sees _
      (λ e. leads-from (λ f a w h. h.0) (let_energy_go-keeps s _))
      (λ e. then-leads (told-leads _ _ (λ f a w h. planned.conditions s (with_bide_storing damage) f a w h.0 (λ x k. bide-less x _ damage b (conditions_in s f) h.1 e k)))
      (keeps-leads stop-keeps) (λ f a w h. h))

  pub bide_goes_on-keeps : (s : Side) → Keeps (IsPlanned terms plan) (bide_goes_on s)
  unfolding bide_goes_on given
  bide_goes_on-keeps s = record { kept = λ p h. (bide_on-keeps s (underway_in s p.field).bide _).led p (h, refl) }

module _ (terms : Terms) (plan : Side → Plan) (s : Side) (move : Move) (is : IsMove move) (doing : plan s ≡ Doing move.effect) where
  valid : Sound terms (IsPlanned terms plan)
  valid = planned-sound terms plan

  start_bide-keeps : bides move.effect ≡ true → Keeps (IsPlanned terms plan) (start_bide s)
  unfolding start_bide bide_for starts
  start_bide-keeps tie = draw-keeps (λ b. told-keeps _ (record {
    spared = λ f a w k. planned-tied terms plan s move.effect doing _ f a w k (bide-on move.effect _ _ (conditions_in s f) tie (omega arith, omega arith));
  }))

  late_effect-keeps : (r : Ruling) (x : Effect) → KeepsRuling (IsPlanned terms plan) r → LowersSome x → (bides x ≡ true → bides move.effect ≡ true)
      → Keeps (IsPlanned terms plan) (late_effect r s move x)
  unfolding late_effect
  late_effect-keeps r (effects.StatUp stat n) ruling low tie = raise_stage-sound valid s s stat n _ (fail-sound valid s)
  late_effect-keeps r (effects.StatDown stat n) ruling low tie = lower_foes_stat-sound valid s move stat n low is
  late_effect-keeps r effects.InflictSleep ruling low tie = put_to_sleep-sound valid r s move ruling is
  late_effect-keeps r effects.Bide ruling low tie = start_bide-keeps (tie refl)
  late_effect-keeps r _ ruling low tie = stay-keeps

  trap_for-keeps : (n : ℕ) → traps move.effect ≡ true → n ≤ 3 → Keeps (IsPlanned terms plan) (trap_for s n)
  unfolding trap_for
  trap_for-keeps n tie l = on_conditions-keeps s _ (record {
    spared = λ f a w k. planned-tied terms plan s move.effect doing _ f a w k (trapping-on move.effect _ _ (conditions_in s f) tie (omega (arith, l)));
  })

  trap-keeps : traps move.effect ≡ true → Keeps (IsPlanned terms plan) (trap s)
  unfolding trap
  trap-keeps tie = choose-keeps _ (on_conditions-keeps s _ (conditions-spared valid s _ with_trapping_one_less-tame))
      (then-keeps (on_conditions-keeps (other s) _ (conditions-spared valid (other s) _ without_recharge-tame)) (draw_count-sound valid _ (λ n l. trap_for-keeps n tie l)))

  thrash_less-keeps : (o : Option ℕ) → Leads (λ f a w. IsPlanned terms plan f a w × ((underway_in s f).thrash ≡ o)) (IsPlanned terms plan) (thrash_less s o)
  unfolding thrash_less
  thrash_less-keeps None = stay-leads (λ f a w h. h.0)
  thrash_less-keeps (Some turns) = choose-leads_sees _
      (λ e. leads-from (λ f a w h. h.0) (then-keeps (on_conditions-keeps s _ (conditions-spared valid s _ without_thrash-tame)) (confuse-sound valid s)))
      (λ e. on_conditions-leads s with_thrash_one_less (λ f a w h. valid.conditions s with_thrash_one_less f a w h.0 (λ x k. thrash-less x _ turns (conditions_in s f) h.1 e k)))

  thrash_for-keeps : (b : ℕ) → thrashes move.effect ≡ true → Keeps (IsPlanned terms plan) (thrash_for s move b)
  unfolding thrash_for
  thrash_for-keeps b tie = then-keeps
      (on_conditions-keeps s _ (record {
        spared = λ f a w k. planned-tied terms plan s move.effect doing _ f a w k (thrash-on move.effect _ _ (conditions_in s f) tie (omega arith, omega arith));
      }))
      (on_active-keeps s _ (valid.active s _ (accuracy-tame (accuracy_byte move) (omega (arith, is.accuracy)))))

  thrash_about-keeps : thrashes move.effect ≡ true → Keeps (IsPlanned terms plan) (thrash_about s move)
  unfolding thrash_about given
  thrash_about-keeps tie = choose-keeps _
      (record { kept = λ p h. (thrash_less-keeps (underway_in s p.field).thrash).led p (h, refl) })
      (draw-keeps (λ b. thrash_for-keeps b tie))

  pub prelude-keeps : Keeps (IsPlanned terms plan) (prelude s move)
  unfolding prelude
  prelude-keeps = then-keeps (choose-sees _ (λ tie. trap-keeps tie) (λ e. stay-keeps)) (choose-sees _ (λ tie. thrash_about-keeps tie) (λ e. stay-keeps))

  must_recharge-keeps : recharges move.effect ≡ true → Keeps (IsPlanned terms plan) (must_recharge s)
  unfolding must_recharge
  must_recharge-keeps tie = told-keeps _ (record {
    spared = λ f a w k. planned-tied terms plan s move.effect doing _ f a w k (recharge-on move.effect _ (conditions_in s f) tie);
  })

  side_effect-keeps : (r : Ruling) (x : Effect) → KeepsRuling (IsPlanned terms plan) r → (recharges x ≡ true → recharges move.effect ≡ true)
      → Keeps (IsPlanned terms plan) (side_effect r s move x)
  unfolding side_effect
  side_effect-keeps r (effects.ConfusionChance n) ruling tie = may_confuse-sound valid s n
  side_effect-keeps r effects.Disable ruling tie = disable-sound valid s move is
  side_effect-keeps r effects.Recharge ruling tie = must_recharge-keeps (tie refl)
  side_effect-keeps r x ruling tie = choose-keeps _ stay-keeps (kept_away_effect-sound valid r s move x ruling is)

  start_rage-keeps : rages move.effect ≡ true → Keeps (IsPlanned terms plan) (start_rage s)
  unfolding start_rage starts
  start_rage-keeps tie = choose-keeps _ stay-keeps (told-keeps _ (record {
    spared = λ f a w k. planned-tied terms plan s move.effect doing _ f a w k (rage-on move.effect _ (conditions_in s f) tie);
  }))

  hit_effect-keeps : (x : Effect) → (rages x ≡ true → rages move.effect ≡ true) → Keeps (IsPlanned terms plan) (hit_effect s move x)
  unfolding hit_effect
  hit_effect-keeps effects.MultiHit tie = plan_hits-sound valid
  hit_effect-keeps effects.DoubleHit tie = set_planned-sound valid 2
  hit_effect-keeps effects.Twineedle tie = set_planned-sound valid 2
  hit_effect-keeps effects.Recoil tie = recoil-sound valid s move is
  hit_effect-keeps effects.Drain tie = drain-sound valid s
  hit_effect-keeps effects.DreamEater tie = drain-sound valid s
  hit_effect-keeps effects.Rage tie = start_rage-keeps (tie refl)
  hit_effect-keeps effects.Explode tie = explode-sound valid s
  hit_effect-keeps _ tie = stay-keeps

  hit_once-keeps : Keeps (IsPlanned terms plan) (hit_once s move)
  unfolding hit_once
  hit_once-keeps = then-keeps (land-sound valid (other s)) (then-keeps (choose-keeps _ (note-keeps _) stay-keeps) (then-keeps (count_hit-sound valid)
      (then-keeps (choose-keeps _ stay-keeps (hit_effect-keeps move.effect (λ t. t))) (choose-keeps _ stay-keeps (build_rage-sound valid (other s))))))

  hit_again-keeps : (k : ℕ) → Keeps (IsPlanned terms plan) (hit_again k s move)
  unfolding hit_again
  hit_again-keeps zero = stay-keeps
  hit_again-keeps (suc k) = choose-keeps _ stay-keeps (then-keeps hit_once-keeps (hit_again-keeps k))

  other_hits-keeps : Keeps (IsPlanned terms plan) (other_hits s move)
  unfolding other_hits
  other_hits-keeps = then-keeps (given-keeps _ (λ k. hit_again-keeps k)) (choose-keeps _ (given-keeps _ (λ n. note_hit_count-sound valid (other s) n)) stay-keeps)

  hits-keeps : Keeps (IsPlanned terms plan) (hits s move)
  unfolding hits
  hits-keeps = then-keeps (note_first_hit-sound valid s move is) (then-keeps hit_once-keeps (choose-keeps _ other_hits-keeps stay-keeps))

  strike-keeps : (r : Ruling) → KeepsRuling (IsPlanned terms plan) r → Keeps (IsPlanned terms plan) (strike r s move)
  unfolding strike
  strike-keeps r ruling = then-keeps (choose-keeps _ (missed_move-sound valid s move is) stay-keeps)
      (then-keeps hits-keeps (choose-keeps _ stay-keeps (side_effect-keeps r move.effect ruling (λ t. t))))

  -- After the move is settled.
  pub strikes-keeps : (r : Ruling) → KeepsRuling (IsPlanned terms plan) r
      → Keeps (IsPlanned terms plan) (unless (lands_at_once move) (damage_of s move move.effect)
      ▸ unless lets_energy_go (only (is_late move.effect) (late_effect r s move move.effect ▸ stop)) ▸ strike r s move)
  strikes-keeps r ruling = then-keeps (choose-keeps _ stay-keeps (damage_of-sound valid s move move.effect is))
      (then-keeps (choose-keeps _ stay-keeps (choose-keeps _ (then-keeps (late_effect-keeps r move.effect ruling is.lowers (λ t. t)) stop-keeps) stay-keeps))
      (strike-keeps r ruling))

-- Spending PP

in-range : (moves : List KnownMove) (i : ℕ) (a b : KnownMove) → i < length moves → get_or moves i a ≡ get_or moves i b
in-range [] i a b l = absurd (omega arith)
in-range (m ∷ moves) zero a b l = refl
in-range (m ∷ moves) (suc i) a b l = in-range moves i a b (omega arith)

spent : List KnownMove → ℕ → List KnownMove
spent moves j = set moves j (with_less_pp (get_or moves j nothing_known))

spent-ids : (moves : List KnownMove) (j i : ℕ) → (get_or (spent moves j) i nothing_known).id ≡ (get_or moves i nothing_known).id
unfolding spent
spent-ids [] j i = refl
spent-ids (m ∷ moves) zero zero = refl
spent-ids (m ∷ moves) zero (suc i) = refl
spent-ids (m ∷ moves) (suc j) zero = refl
spent-ids (m ∷ moves) (suc j) (suc i) = spent-ids moves j i

spent-same : (moves : List KnownMove) (j : ℕ) → SameMoves moves (spent moves j)
unfolding spent
spent-same moves j = record { count = length-set moves j _; ids = spent-ids moves j }

less_pp-known : (m : KnownMove) → IsKnown m → IsKnown (with_less_pp m)
less_pp-known m h = record { in_engine = h.in_engine; not_struggle = h.not_struggle; pp = grind (arith, h.pp) }

spent-known : (moves : List KnownMove) (j : ℕ) → All IsKnown moves → (k : ℕ) (d : KnownMove) → k < length moves → IsKnown (get_or (spent moves j) k d)
unfolding spent
spent-known [] j h k d l = absurd (omega arith)
spent-known (m ∷ moves) zero h zero d l = less_pp-known m (h 0 d (omega arith))
spent-known (m ∷ moves) zero h (suc k) d l = h (suc k) d (omega arith)
spent-known (m ∷ moves) (suc j) h zero d l = h 0 d (omega arith)
spent-known (m ∷ moves) (suc j) h (suc k) d l = spent-known moves j (λ i e n. h (suc i) e (omega arith)) k d (omega arith)

-- The same move numbers, in range.
same-id : (before after : List KnownMove) → SameMoves before after → (i : ℕ) (d : KnownMove) → i < length after → (get_or after i d).id ≡ (get_or before i d).id
same-id before after same i d l =
    ap (λ (m : KnownMove). m.id) (in-range after i d nothing_known l) ∙ same.ids i
    ∙ ap (λ (m : KnownMove). m.id) (in-range before i nothing_known d (omega (arith, same.count)))

spent-valid : (rules : Rules) (m : Member) (j : ℕ) → IsMemberUnder rules m → IsMemberUnder rules (record m { moves = spent m.moves j })
spent-valid rules m j h =
    let n = h.numbers in
    let same = spent-same m.moves j in
    record {
      numbers = record {
        level = n.level;
        max = n.max;
        hp = n.hp;
        attack = n.attack;
        defense = n.defense;
        speed = n.speed;
        special = n.special;
        slots = rw same.count n.slots;
        known = λ k d l. spent-known m.moves j n.known k d (omega (arith, same.count));
        distinct = λ i k d l under. rw (same-id m.moves (spent m.moves j) same i d (omega arith), same-id m.moves (spent m.moves j) same k d under) (n.distinct i k d l (omega (arith, same.count)));
      };
      species = h.species;
      moves = λ k d l. rw (same-id m.moves (spent m.moves j) same k d l) (h.moves k d (omega (arith, same.count)));
      status = h.status;
    }

pp-tame : {rules : Rules} (used : UsedMove) → TameMember rules (with_pp_spent used)
unfolding with_pp_spent spent
pp-tame {rules} (Slot k) = record { moves = λ m. spent-same m.moves (k - 1); valid = λ m h. spent-valid rules m (k - 1) h }
pp-tame Nothing = record { moves = λ m. record { count = refl; ids = λ i. refl }; valid = λ m h. h }
pp-tame Struggle = record { moves = λ m. record { count = refl; ids = λ i. refl }; valid = λ m h. h }

-- Phases that lead to one fact if they go on, and to another if they stop

abbrev pub IfStopped : Bool → Type 0 → Type 0 → Type 0
IfStopped true Stopped Going = Stopped
IfStopped false Stopped Going = Going

pub either : {A B : Type 0} (b : Bool) → A → B → IfStopped b A B
either true x y = x
either false x y = y

pub record Passes (P Q R : Field → Action → Stream → Type 0) (f : Phase) : Type 0 where
  pub passed : (p : Progress) → P p.field p.action p.stream
      → IfStopped (f p).stopped (R (f p).field (f p).action (f p).stream) (Q (f p).field (f p).action (f p).stream)

abbrev pub After : (Field → Action → Stream → Type 0) → (Field → Action → Stream → Type 0) → Progress → Type 0
After Q R x = IfStopped x.stopped (R x.field x.action x.stream) (Q x.field x.action x.stream)

module _ {P Q R : Field → Action → Stream → Type 0} where
  pub leads-passes : {f : Phase} → Leads P Q f → ((x : Field) (a : Action) (w : Stream) → Q x a w → R x a w) → Passes P Q R f
  leads-passes {f} k weaker = record { passed = λ p h. either (f p).stopped (weaker _ _ _ (k.led p h)) (k.led p h) }

  pub passes-stop : ((x : Field) (a : Action) (w : Stream) → P x a w → R x a w) → Passes P Q R stop
  unfolding stop
  passes-stop weaker = record { passed = λ p h. weaker _ _ _ h }

  pub passes-choose_sees : (b : Bool) {f g : Phase} → (b ≡ true → Passes P Q R f) → (b ≡ false → Passes P Q R g) → Passes P Q R (choose (λ p. b) f g)
  unfolding choose
  passes-choose_sees true k l = record { passed = λ p h. (k refl).passed p h }
  passes-choose_sees false k l = record { passed = λ p h. (l refl).passed p h }

  pub passes-choose : (test : Progress → Bool) {f g : Phase} → Passes P Q R f → Passes P Q R g → Passes P Q R (choose test f g)
  unfolding choose
  passes-choose test {f} {g} k l = record {
    passed = λ p h. elim (test p) as (λ t. After Q R (elim t as (λ _. Progress) [ true ↦ f p | false ↦ g p ])) [ true ↦ k.passed p h | false ↦ l.passed p h ];
  }

module _ {P Q R S : Field → Action → Stream → Type 0} where
  pub passes-then : {f g : Phase} → Passes P Q R f → Passes Q S R g → Passes P S R (f ▸ g)
  unfolding ◌▸◌ unless_stopped
  passes-then {f} {g} k l = record { passed = λ p h. by (f p) (f p).stopped refl (k.passed p h) }
    where
      by : (q : Progress) (b : Bool) → q.stopped ≡ b → After Q R q → After S R (unless_stopped g q)
      by q true e h = subst (λ x. After S R x) (sym (ap (λ (b : Bool). elim b as (λ _. Progress) [ true ↦ q | false ↦ g q ]) e))
          (subst (λ b. IfStopped b (R q.field q.action q.stream) (S q.field q.action q.stream)) (sym e)
          (subst (λ b. IfStopped b (R q.field q.action q.stream) (Q q.field q.action q.stream)) e h))
      by q false e h = subst (λ x. After S R x) (sym (ap (λ (b : Bool). elim b as (λ _. Progress) [ true ↦ q | false ↦ g q ]) e))
          (l.passed q (subst (λ b. IfStopped b (R q.field q.action q.stream) (Q q.field q.action q.stream)) e h))

pub passes-leads : {P R : Field → Action → Stream → Type 0} {f : Phase} → Passes P R R f → Leads P R f
passes-leads {P} {R} {f} k = record { led = λ p h. by (f p).stopped (k.passed p h) }
  where
    by : {A : Type 0} (b : Bool) → IfStopped b A A → A
    by true h = h
    by false h = h

-- The current move goes on

pub unchanged : (s : Side) (f : Field) → changed_active s (with_current_move (active_in s f).current_move) f ≡ f
unfolding changed_active with_current_move
unchanged One f = refl
unchanged Two f = refl

module _ (terms : Terms) (plan : Side → Plan) (s : Side) where
  sound : Sound terms (IsPlanned terms plan)
  sound = planned-sound terms plan

  pub spend_pp-keeps : Keeps (IsPlanned terms plan) (spend_pp s)
  unfolding spend_pp
  spend_pp-keeps = given-keeps _ (λ used. on_member-keeps s _ (sound.member s _ (pp-tame used)))

  pub end_charge-keeps : Keeps (IsPlanned terms plan) (end_charge s)
  unfolding end_charge
  end_charge-keeps = then-keeps (on_conditions-keeps s _ (conditions-spared sound s _ without_charging-tame)) (on_conditions-keeps s _ (conditions-spared sound s _ without_invulnerability-tame))

  tested-small : (o : Option ℕ) (kept : ℕ) (on : Bool) → IsCount 0 255 o → kept ≤ 255 → (if on then unwrap_or o kept else 0) ≤ 255
  tested-small o kept false h l = omega arith
  tested-small None kept true h l = l
  tested-small (Some n) kept true h l = h.1

  pub keep_accuracy-keeps : Keeps (IsPlanned terms plan) (keep_accuracy s)
  unfolding keep_accuracy
  keep_accuracy-keeps = given-sees _ (λ byte. byte ≤ 255)
      (λ p h. tested-small p.action.accuracy_tested (active_in s p.field).kept_accuracy ((underway_in s p.field).rage || is_some (underway_in s p.field).thrash) h.tested (party-valid s p.field h.field).active.kept_accuracy)
      (λ byte l. on_active-keeps s _ (sound.active s _ (accuracy-tame byte l)))

module _ (terms : Terms) (plan : Side → Plan) (s : Side) (move : Move) (is : IsMove move) (doing : plan s ≡ Doing move.effect) where
  begins_charge : charges move.effect ≡ true → Keeps (IsPlanned terms plan) (on_conditions s with_charging)
  begins_charge tie = on_conditions-keeps s _ (record {
    spared = λ f a w k. planned-tied terms plan s move.effect doing _ f a w k (charging-on move.effect _ (conditions_in s f) tie);
  })

  hidden : Keeps (IsPlanned terms plan) (choose (λ p. hides move.effect) (on_conditions s with_invulnerability) stay)
  hidden = choose-keeps _ (on_conditions-keeps s _ (conditions-spared (planned-sound terms plan) s _ with_invulnerability-tame)) stay-keeps

-- A side's plan is done.
pub forgotten : {terms : Terms} (plan : Side → Plan) (s : Side) (x : Plan) (f : Field) (a : Action) (w : Stream)
    → IsPlanned terms (with_plan s x plan) f a w → IsPlanned terms (with_plan s Any plan) f a w
forgotten {terms} plan s x f a w h = record { field = h.field; tested = h.tested; stream = h.stream; holds = by s h.holds }
  where
    by : (s : Side) → ((u : Side) → HoldsPlan (with_plan s x plan u) (member_in u f).moves (active_in u f))
        → (u : Side) → HoldsPlan (with_plan s Any plan u) (member_in u f).moves (active_in u f)
    by One k One = tt
    by One k Two = k Two
    by Two k One = k One
    by Two k Two = tt

pub unplanned : {terms : Terms} {plan : Side → Plan} (s : Side) (f : Field) (a : Action) (w : Stream) → IsPlanned terms plan f a w → IsPlanned terms (with_plan s Any plan) f a w
unplanned s f a w h = replanned s Any f a w tt h

-- The current move stays

module _ (terms : Terms) (plan : Side → Plan) (s : Side) (move : Move) (is : IsMove move) (doing : plan s ≡ Doing move.effect)
    (pick : Pick) (stays : (used : UsedMove) → used_by pick used ≡ used) where
  pub make_current-keeps : Keeps (IsPlanned terms plan) (make_current s pick)
  unfolding make_current given on_active on_field
  make_current-keeps = record {
    kept = λ p h. subst (λ u. IsPlanned terms plan (changed_active s (with_current_move u) p.field) p.action p.stream) (sym (stays (active_in s p.field).current_move))
        (subst (λ f. IsPlanned terms plan f p.action p.stream) (sym (unchanged s p.field)) h);
  }

  pub begin_charge-keeps : charges move.effect ≡ true → Keeps (IsPlanned terms plan) (begin_charge s pick move)
  unfolding begin_charge
  begin_charge-keeps tie = then-keeps make_current-keeps (then-keeps (begins_charge terms plan s move is doing tie)
      (then-keeps (hidden terms plan s move is doing) (then-keeps (note-keeps _) stop-keeps)))

  pub lead_up-keeps : Keeps (IsPlanned terms plan) (lead_up s pick move)
  unfolding lead_up charge use_move
  lead_up-keeps =
      then-keeps (choose-sees _ (λ tie. choose-keeps _ (end_charge-keeps terms plan s) (begin_charge-keeps tie)) (λ e. stay-keeps))
      (then-keeps (then-keeps make_current-keeps (then-keeps (choose-keeps _ stay-keeps (spend_pp-keeps terms plan s)) (choose-keeps _ (note-keeps _) stay-keeps)))
      (then-keeps (choose-keeps _ (then-keeps (early_effect-sound (planned-sound terms plan) s move move.effect is) stop-keeps) stay-keeps)
      (prelude-keeps terms plan s move is doing)))

  carry_out-keeps : Keeps (IsPlanned terms plan) (carry_out (ruling_of terms) s pick move)
  unfolding carry_out
  carry_out-keeps = then-keeps (bide_goes_on-keeps terms plan s) (then-keeps (choose-keeps _ stay-keeps lead_up-keeps)
      (strikes-keeps terms plan s move is doing (ruling_of terms) (ruling-sound (planned-sound terms plan))))

-- A planned move is taken up

abbrev pub Quiet : Terms → (Side → Plan) → Field → Action → Stream → Type 0
Quiet terms plan f a w = IsPlanned terms plan f a w × (a.letting_go ≡ false)

pub quiet-sound : (terms : Terms) (plan : Side → Plan) → Sound terms (Quiet terms plan)
quiet-sound terms plan =
    let sound = planned-sound terms plan in
    record {
      field = λ f a w h. h.0.field;
      tested = λ f a w h. h.0.tested;
      stream = λ f a w h. h.0.stream;
      member = λ s change tame. record { spared = λ f a w h. ((sound.member s change tame).spared f a w h.0, h.1) };
      active = λ s change tame. record { spared = λ f a w h. ((sound.active s change tame).spared f a w h.0, h.1) };
      conditions = λ s change f a w h k. (sound.conditions s change f a w h.0 k, h.1);
      damage = λ n l. record { spared = λ f a w h. ((sound.damage n l).spared f a w h.0, h.1) };
      outcome = λ n l. record { spared = λ f a w h. ((sound.outcome n l).spared f a w h.0, h.1) };
      action = λ change tame. record { spared = λ f a w h. ((sound.action change tame).spared f a w h.0, tame.letting_go a ∙ h.1) };
    }

pub no-bide : (o : Option Storing) → (is_some o ≡ true → false ≡ true) → o ≡ None
no-bide None k = refl
no-bide (Some b) k = absurd (false≢true (k refl))

module _ (terms : Terms) (plan : Side → Plan) (s : Side) (move : Move) (is : IsMove move) (used : UsedMove) (planned : plan s ≡ Plans used move.effect) where
  pub next : Side → Plan
  next = with_plan s (Doing move.effect) plan

  pub Over : Field → Action → Stream → Type 0
  Over = IsPlanned terms (with_plan s Any plan)

  pub doing : next s ≡ Doing move.effect
  unfolding next
  doing = with_plan-is s (Doing move.effect) plan

  pub ends : (f : Field) (a : Action) (w : Stream) → IsPlanned terms next f a w → Over f a w
  unfolding next Over
  ends f a w h = forgotten plan s (Doing move.effect) f a w h

  pub ends_at_once : (f : Field) (a : Action) (w : Stream) → IsPlanned terms plan f a w → Over f a w
  unfolding Over
  ends_at_once f a w h = unplanned s f a w h

  pub make_current-leads : Leads (IsPlanned terms plan) (IsPlanned terms next) (make_current s (Use used))
  unfolding make_current given on_active on_field next
  make_current-leads = record { led = λ p h. taken-up s used move.effect p.field p.action p.stream planned h }

  pub begin_charge-passes : {Q : Field → Action → Stream → Type 0} → charges move.effect ≡ true → Passes (IsPlanned terms plan) Q Over (begin_charge s (Use used) move)
  unfolding begin_charge
  begin_charge-passes tie = passes-then (leads-passes make_current-leads ends)
      (passes-then (leads-passes (keeps-leads (begins_charge terms next s move is doing tie)) ends)
      (passes-then (leads-passes (keeps-leads (hidden terms next s move is doing)) ends)
      (passes-then (leads-passes (keeps-leads (note-keeps _)) ends) (passes-stop ends))))

  pub lead_up-passes : Passes (IsPlanned terms plan) (IsPlanned terms next) Over (lead_up s (Use used) move)
  unfolding lead_up charge use_move
  lead_up-passes =
      passes-then (passes-choose_sees _
      (λ tie. passes-choose _ (leads-passes (keeps-leads (end_charge-keeps terms plan s)) ends_at_once) (begin_charge-passes tie))
      (λ e. leads-passes (keeps-leads stay-keeps) ends_at_once))
      (passes-then (leads-passes (then-leads make_current-leads
      (keeps-leads (then-keeps (choose-keeps _ stay-keeps (spend_pp-keeps terms next s)) (choose-keeps _ (note-keeps _) stay-keeps))) (λ f a w h. h)) ends)
      (leads-passes (keeps-leads (then-keeps
      (choose-keeps _ (then-keeps (early_effect-sound (planned-sound terms next) s move move.effect is) stop-keeps) stay-keeps)
      (prelude-keeps terms next s move is doing))) ends))

  pub bide-quiet : Keeps (Quiet terms plan) (bide_goes_on s)
  unfolding bide_goes_on given bide_on stay
  bide-quiet = record {
    kept = λ p h.
        let plans = planned-holds s p.field p.action p.stream planned h.0 in
        let none : (underway_in s p.field).bide ≡ None = no-bide (underway_in s p.field).bide plans.2.bide_tied in
        subst (λ o. let q : Progress = bide_on s o (last_damage p) p in Quiet terms plan q.field q.action q.stream) (sym none) h;
  }

  carry_out-leads : Leads (Quiet terms plan) Over (carry_out (ruling_of terms) s (Use used) move)
  unfolding carry_out
  carry_out-leads = passes-leads
      (passes-then (leads-passes (keeps-leads bide-quiet) (λ f a w h. ends_at_once f a w h.0))
      (passes-then (record {
        passed = λ p h. subst (λ x. After (IsPlanned terms next) Over x) (sym (choose-false lets_energy_go stay (lead_up s (Use used) move) p h.1)) (lead_up-passes.passed p h.0);
      })
      (leads-passes (leads-weaker (keeps-leads (strikes-keeps terms next s move is doing (ruling_of terms) (ruling-sound (planned-sound terms next)))) ends) (λ f a w h. h))))

-- The whole

module _ (terms : Terms) (plan : Side → Plan) (s : Side) where
  pub begin-quiet : Leads (IsPlanned terms plan) (Quiet terms plan) (begin s)
  unfolding begin on_action
  begin-quiet = record { led = λ p h. (record { field = h.field; tested = tt; stream = h.stream; holds = h.holds }, refl) }

  pub begin-keeps : Keeps (IsPlanned terms plan) (begin s)
  unfolding begin on_action
  begin-keeps = record { kept = λ p h. record { field = h.field; tested = tt; stream = h.stream; holds = h.holds } }

  parts-stay : (pick : Pick) → ((used : UsedMove) → used_by pick used ≡ used) → Leads (Quiet terms plan) (IsPlanned terms (with_plan s Any plan)) (action_parts (ruling_of terms) s pick)
  unfolding action_parts given
  parts-stay pick stays =
      let quiet = quiet-sound terms plan in
      then-leads (keeps-leads (gate_or_held-sound quiet s pick)) (then-leads (keeps-leads (see_if_going_on-sound quiet s pick)) (record { led = by }) weaker) weaker
    where
      weaker : (f : Field) (a : Action) (w : Stream) → Quiet terms plan f a w → IsPlanned terms (with_plan s Any plan) f a w
      weaker f a w h = unplanned s f a w h.0

      by : (p : Progress) → Quiet terms plan p.field p.action p.stream → let q : Progress = carry_out (ruling_of terms) s pick (move_taken_in s pick p.field) p in
          IsPlanned terms (with_plan s Any plan) q.field q.action q.stream
      by p h =
          let active = active_in s p.field in
          let moves = (member_in s p.field).moves in
          let move = move_taken_in s pick p.field in
          let e : effect_of active.current_move moves ≡ move.effect = ap (λ u. effect_of u moves) (sym (stays active.current_move)) in
          forgotten plan s (Doing move.effect) _ _ _
          ((carry_out-keeps terms (with_plan s (Doing move.effect) plan) s move (is-move _) (with_plan-is s (Doing move.effect) plan) pick stays).kept p
          (replanned s (Doing move.effect) p.field p.action p.stream e h.0))

  parts-take : (used : UsedMove) (e : Effect) → plan s ≡ Plans used e → Leads (Quiet terms plan) (IsPlanned terms (with_plan s Any plan)) (action_parts (ruling_of terms) s (Use used))
  unfolding action_parts given Over
  parts-take used e planned =
      let quiet = quiet-sound terms plan in
      then-leads (keeps-leads (gate_or_held-sound quiet s (Use used))) (then-leads (keeps-leads (see_if_going_on-sound quiet s (Use used))) (record { led = by }) weaker) weaker
    where
      weaker : (f : Field) (a : Action) (w : Stream) → Quiet terms plan f a w → IsPlanned terms (with_plan s Any plan) f a w
      weaker f a w h = unplanned s f a w h.0

      by : (p : Progress) → Quiet terms plan p.field p.action p.stream → let q : Progress = carry_out (ruling_of terms) s (Use used) (move_taken_in s (Use used) p.field) p in
          IsPlanned terms (with_plan s Any plan) q.field q.action q.stream
      by p h =
          let moves = (member_in s p.field).moves in
          let plans = planned-holds s p.field p.action p.stream planned h.0 in
          (carry_out-leads terms plan s (move_at (number_in used moves)) (is-move _) used (planned ∙ ap (λ x. Plans used x) (sym plans.1))).led p h

  act-from : (pick : Pick) → Leads (Quiet terms plan) (IsPlanned terms (with_plan s Any plan)) (action_parts (ruling_of terms) s pick)
      → Leads (IsPlanned terms plan) (IsPlanned terms (with_plan s Any plan)) (act (ruling_of terms) s pick)
  unfolding act resume
  act-from pick k = record { led = λ p h. (keep_accuracy-keeps terms (with_plan s Any plan) s).kept _ (k.led _ (begin-quiet.led p h)) }

  -- A move that goes on, and a move that was planned.
  pub act-stays : (pick : Pick) → ((used : UsedMove) → used_by pick used ≡ used) → Leads (IsPlanned terms plan) (IsPlanned terms (with_plan s Any plan)) (act (ruling_of terms) s pick)
  act-stays pick stays = act-from pick (parts-stay pick stays)

  pub act-takes : (used : UsedMove) (e : Effect) → plan s ≡ Plans used e → Leads (IsPlanned terms plan) (IsPlanned terms (with_plan s Any plan)) (act (ruling_of terms) s (Use used))
  act-takes used e planned = act-from (Use used) (parts-take used e planned)
