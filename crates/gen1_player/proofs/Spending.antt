-- Uses and PP through an action of the member's side, and of the other side.
use Rattle.std.proofs.Common.{[], All, Bool, List, None, Option, Some, ap, arith, false, get_or, get_or-set_same, if◌then◌else◌, inl, inr, is_some, length, length-set, map, not, refl, slice_set, subst, sym, true, true≢false, ℕ, ◌&&◌, ◌++◌, ◌-◌, ◌==◌, ◌∙◌, ◌∷◌, ◌≡◌, ◌≢◌, ◌≤◌, ◌⊎◌, ◌||◌}
use Rattle.std.proofs.lemmas.List.{get_or-set_other, map-set}
use Rattle.std.proofs.lemmas.Bool.Decides.{eqb_tells}
use Rattle.std.proofs.Math.ListN.{get_or-map}
use Rattle.gen1_tables.specs.declared.effect.Effect.{Effect}
use Rattle.gen1_tables.specs.declared.effect.Effect.TheVariants as effects
use Rattle.gen1_tables.specs.Moves.{move_row, move_rows}
use Rattle.gen1_tables.specs.Effects.{bides, charges, rages, recharges, thrashes, traps}
use Rattle.gen1_rolls.specs.Streams.{Stream}
use Rattle.gen1_stats.specs.declared.member.KnownMove.{KnownMove}
use Rattle.gen1_stats.specs.Members.{nobody, nothing_known, IsBetween, Member}
use Rattle.gen1_machine.specs.declared.side.Side.{Side}
use Rattle.gen1_machine.specs.declared.side.Side.TheVariants.{One, Two}
use Rattle.gen1_machine.specs.declared.event.Volatile.TheVariants as volatiles
use Rattle.gen1_machine.specs.declared.event.Event.{Event}
use Rattle.gen1_machine.specs.declared.event.Event.TheVariants as events
use Rattle.gen1_machine.specs.declared.side.Pick.{Pick}
use Rattle.gen1_machine.specs.declared.side.Pick.TheVariants.{Continue, Held, Idle, Use}
use Rattle.gen1_machine.specs.declared.side.UsedMove.{UsedMove}
use Rattle.gen1_machine.specs.declared.side.UsedMove.TheVariants.{Nothing, Slot, Struggle}
use Rattle.gen1_machine.specs.Moves.{move_at, Move}
use Rattle.gen1_machine.specs.Picks.{is_use, number_in, used_by}
use Rattle.gen1_machine.specs.Sides.{other}
use Rattle.gen1_machine.specs.Conditions.{with_bide, ActiveConditions, Storing, Underway}
use Rattle.gen1_machine.specs.State.{active_in, after_use, changed_active, changed_conditions, changed_member, member_at, member_in, party, underway_in, who_in, with_current_move, with_last_damage, with_member, with_pp_spent, Field, Party, Terms}
use Rattle.gen1_machine.specs.Progress.{choose, given, goes_on_now, note, on_action, on_active, on_field, on_member, starts, stay, stop, told, underway, ◌▸◌, Action, Phase, Progress}
use Rattle.gen1_machine.specs.Ruling.{ruling_of}
use Rattle.gen1_machine.specs.Gate.{cant, gate, gate_of_move, gate_of_status, gate_of_turn}
use Rattle.gen1_machine.specs.GoingOn.{bide_goes_on, bide_on, let_energy_go, set_letting_go, store_energy}
use Rattle.gen1_machine.specs.Charging.{begin_charge, charge, end_charge, make_current}
use Rattle.gen1_machine.specs.EarlyEffects.{early_effect, is_early}
use Rattle.gen1_machine.specs.LateEffects.{bide_for, late_effect, start_bide}
use Rattle.gen1_machine.specs.Action.{accuracy_to_keep, act, action_parts, begin, carry_out, gate_or_held, keep_accuracy, keeps_going, lands_at_once, lead_up, lets_energy_go, move_taken_in, prelude, see_if_going_on, set_going_on, spend_pp, use_move}
use Rattle.gen1_machine.specs.Valid.{effect_of, IsField, IsUnderway, IsUsedMove}
use Rattle.gen1_machine.specs.Plans.{FitsPick, IsPlanned, Plan}
use Rattle.gen1_machine.proofs.Keeps.{choose-keeps, ends-keeps, given-keeps, lasts-keeps, on_action-keeps, on_conditions-keeps, set_last_damage-keeps, set_missed-keeps, stay-keeps, stop-keeps, then-keeps, Keeps}
use Rattle.gen1_machine.proofs.Sound.{party-valid, planned-holds}
use Rattle.gen1_machine.proofs.SoundWalk.{see_if_going_on-sound}
use Rattle.gen1_machine.proofs.Acts.{begin-quiet, quiet-sound, Quiet}
use Rattle.gen1_machine.proofs.Watching.{BothOut, IsOut, after-leads, before-leads, choose-sees, choose-tells, given-sees, given-tells, if-sees, seeing, stay-tells, stop-leads, ◌⊳◌, Lands, Leads, Rests, Runs}
use Rattle.gen1_player.specs.declared.public.Public.{Public}
use Rattle.gen1_player.specs.declared.public_side.PublicSide.{PublicSide}
use Rattle.gen1_player.specs.declared.seen.Seen.{Seen}
use Rattle.gen1_player.specs.declared.seen.SeenMove.{SeenMove}
use Rattle.gen1_player.specs.Public.{bide, is_going_on, new_uses, not_seen, on_out, prepares, public_side, seen_at, settled, starts_bide, takes_in, used_more, uses_again, uses_move}
use Rattle.gen1_player.proofs.Facts.{Sizes}
use Rattle.gen1_player.proofs.Stories.{at_end, begun-conditions, begun-member, draw-tells, mild-tells, stop-tells, MayFall, Now}
use Rattle.gen1_player.proofs.ToldEffects.{early_effect-tells, late_effect-tells, may_poison_by, not-toxic, ruling_of-tells}
use Rattle.gen1_player.proofs.ToldActions.{bide_goes_on-tells, carry_out-tells, current-tells, damage_of-tells, end_charge-tells, gate_or_held-tells, prelude-tells, resume-lands, see_if-tells, strike-tells}
use Rattle.gen1_player.proofs.ToldEnds.{or-left}
use Rattle.gen1_player.proofs.DeedMoves.{of-bide}
use Rattle.gen1_player.proofs.HeardSides.{bide-hears, move-hears, out-side, prepare-hears}
use Rattle.gen1_player.proofs.Appearing.{bide-number, face, faces, no_face, settled-faces, shows_use, suffers-same, Face, Faces}
use Rattle.gen1_player.proofs.Deeds.{does-in, Deeds, Does}
use Rattle.gen1_player.proofs.DeedStory.{told_by}
use Rattle.gen1_player.proofs.DeedGate.{In, Near, Opens}
use Rattle.gen1_player.proofs.DeedRuns.{keeps-uncounted, valid-tied}
use Rattle.gen1_player.proofs.DeedActs.{gate_or_held-deeds, own_of, rests-leads, with-keeps, IdleIsQuiet}
use Rattle.gen1_player.proofs.Counting.{counted-as, counting, counting-outline, counts-conditions, kept-owes, kept-used, members_of, moves_at, owes-either, owes-used, place_of, seen_moves, set-at, spends-own, told-last, About, Against, Counted, Counts, Either, IsSlotOf, Kept, Owes, counting-dozes}

-- Two facts at once, of which the second may need the first

pub both-leads : {P Q S O R T : Progress → Type 0} {f : Phase} → Leads P Q S f → Leads O R T f → Leads (λ p. P p × O p) (λ p. Q p × R p) (λ p. S p × T p) f
both-leads {P} {Q} {S} {O} {R} {T} {f} h k = record { leads = λ p r m. by (f p) (h.leads p r m.0) (k.leads p r m.1) }
  where
    by : (q : Progress) → Lands Q S q → Lands R T q → Lands (λ p. Q p × R p) (λ p. S p × T p) q
    by q (Runs r x) (Runs s y) = Runs r (x, y)
    by q (Runs r x) (Rests s y) = absurd (true≢false (sym s ∙ r))
    by q (Rests r x) (Runs s y) = absurd (true≢false (sym r ∙ s))
    by q (Rests r x) (Rests s y) = Rests r (x, y)

pub guided-leads : {P Q S O R T : Progress → Type 0} {f : Phase} → Leads P Q S f → Leads (λ p. P p × O p) R T f → Leads (λ p. P p × O p) (λ p. Q p × R p) (λ p. S p × T p) f
guided-leads {P} {Q} {S} {O} {R} {T} {f} h k = before-leads (λ p m. (m.0, m)) (both-leads h k)

-- A phase of which nothing is asked.
any-leads : (f : Phase) → Leads (λ p. Unit {0}) (λ p. Unit {0}) (λ p. Unit {0}) f
any-leads f = record { leads = λ p r m. by (f p) (f p).stopped refl }
  where
    by : (q : Progress) (b : Bool) → q.stopped ≡ b → Lands (λ p. Unit {0}) (λ p. Unit {0}) q
    by q true e = Rests e tt
    by q false e = Runs e tt

-- Only a side that uses a move, or continues one, passes the gate.
abbrev Passes : Pick → Type 0
Passes Held = ⊥
Passes Idle = ⊥
Passes _ = Unit {0}

passes-gate : (s : Side) (pick : Pick) → Leads (λ p. Unit {0}) (λ p. Passes pick) (λ p. Unit {0}) (gate_or_held s pick)
unfolding gate_or_held cant gate gate_of_move
passes-gate s Held = any-leads _ ⊳ stop-leads (λ p m. tt)
passes-gate s Idle = any-leads (gate_of_status s) ⊳ any-leads (gate_of_turn s) ⊳ (any-leads _ ⊳ any-leads _ ⊳ any-leads _ ⊳ if-sees true (λ e. stop-leads (λ p m. tt)) (λ e. absurd (true≢false e)))
passes-gate s (Use used) = after-leads (λ p m. tt) (any-leads _)
passes-gate s Continue = after-leads (λ p m. tt) (any-leads _)

-- What an event of its own tells of the member

out-of : (σ : Side) {f : Field} → BothOut f → IsOut (party σ f)
out-of One o = o.one
out-of Two o = o.two

shown-use : (P : List SeenMove → Type 0) (more n i : ℕ) (x : PublicSide) → (x.place - 1 ≡ i → P (used_more more n (seen_moves i (faces x)))) → P (seen_moves i (faces x))
    → P (seen_moves i (faces (shows_use more n x)))
shown-use P more n i x new old =
    let k : ℕ = x.place - 1 in
    let was : Seen = seen_at x.place x in
    let now : Seen = uses_again more n was in
    let at : (get_or (map face x.members) k no_face).moves ≡ was.moves = ap (λ (s : Face). s.moves) (get_or-map face x.members k not_seen) in
    subst (λ (ss : List Face). P (get_or ss i no_face).moves) (sym (map-set face x.members k now))
    (set-at (λ (s : Face). P s.moves) (map face x.members) k i (face now) no_face
    (λ e. subst (λ (ms : List SeenMove). P (used_more more n ms)) (ap (λ (l : ℕ). seen_moves l (faces x)) (sym e) ∙ at) (new e)) old)

module _ (σ : Side) (i : ℕ) where
  own-told : (G H : About) (act : PublicSide → PublicSide) (more : PublicSide → ℕ) (n : ℕ) → ((x : PublicSide) → faces (act x) ≡ faces (shows_use (more x) n x))
      → (f : Field) (es : List Event) (e : Event) → ((p : Public) → faces (public_side σ (takes_in e p)) ≡ faces (public_side σ (on_out σ act p)))
      → BothOut f → ((known : List KnownMove) (seen : List SeenMove) → G (place_of σ f) known seen → H (place_of σ f) known seen)
      → ((known : List KnownMove) (seen : List SeenMove) → place_of σ f - 1 ≡ i → G (place_of σ f) known seen
      → H (place_of σ f) known (used_more (more (public_side σ (settled e (told_by es)))) n seen))
      → Counts σ i G f es → Counts σ i H f (es ++ e ∷ [])
  own-told G H act more n same f es e is o keep strike m =
      let p : Public = settled e (told_by es) in
      let x : PublicSide = public_side σ p in
      let was : Counted i G (place_of σ f) (members_of σ f) (faces x) = subst (Counted i G (place_of σ f) (members_of σ f)) (sym (settled-faces e σ (told_by es))) m in
      let at : x.place ≡ place_of σ f = was.placed in
      let low : 1 ≤ x.place = let out = (out-of σ o).placed in omega (arith, at, out) in
      subst (Counted i H (place_of σ f) (members_of σ f)) (sym (ap (λ (q : Public). faces (public_side σ q)) (told-last e es) ∙ is p ∙ ap faces (out-side σ act p low) ∙ same x)) (record {
        placed = at;
        few = was.few;
        is = shown-use (H (place_of σ f) (moves_at i (members_of σ f))) (more x) n i x
            (λ k. strike _ _ (ap (λ (l : ℕ). l - 1) (sym at) ∙ k) was.is) (keep _ _ was.is);
      })

  move-told : (G H : About) (n : ℕ) (f : Field) (es : List Event) → BothOut f → ((known : List KnownMove) (seen : List SeenMove) → G (place_of σ f) known seen → H (place_of σ f) known seen)
      → ((known : List KnownMove) (seen : List SeenMove) → place_of σ f - 1 ≡ i → G (place_of σ f) known seen
      → H (place_of σ f) known (used_more (new_uses n (own_of σ es)) n seen))
      → Counts σ i G f es → Counts σ i H f (es ++ events.Move (who_in σ f) n (who_in (other σ) f) ∷ [])
  unfolding settled
  move-told G H n f es o keep strike m = own-told G H (uses_move n) (new_uses n) n (λ x. refl) f es (events.Move (who_in σ f) n (who_in (other σ) f))
      (λ p. ap (λ (q : Public). faces (public_side σ q)) (move-hears (who_in σ f) (who_in (other σ) f) n p) ∙ suffers-same (other σ) σ n (on_out σ (uses_move n) p)) o keep strike m

  prepare-told : (G H : About) (n : ℕ) (f : Field) (es : List Event) → BothOut f → ((known : List KnownMove) (seen : List SeenMove) → G (place_of σ f) known seen → H (place_of σ f) known seen)
      → ((known : List KnownMove) (seen : List SeenMove) → place_of σ f - 1 ≡ i → G (place_of σ f) known seen → H (place_of σ f) known (used_more 0 n seen))
      → Counts σ i G f es → Counts σ i H f (es ++ events.Prepare (who_in σ f) n ∷ [])
  prepare-told G H n f es o keep strike m = own-told G H (prepares n) (λ x. 0) n (λ x. refl) f es (events.Prepare (who_in σ f) n)
      (λ p. ap (λ (q : Public). faces (public_side σ q)) (prepare-hears (who_in σ f) n p)) o keep strike m

  bide-told : (G H : About) (f : Field) (es : List Event) → BothOut f → ((known : List KnownMove) (seen : List SeenMove) → G (place_of σ f) known seen → H (place_of σ f) known seen)
      → ((known : List KnownMove) (seen : List SeenMove) → place_of σ f - 1 ≡ i → G (place_of σ f) known seen → H (place_of σ f) known (used_more 1 bide seen))
      → Counts σ i G f es → Counts σ i H f (es ++ events.Start (who_in σ f) volatiles.Bide ∷ [])
  bide-told G H f es o keep strike m = own-told G H starts_bide (λ x. 1) bide (λ x. refl) f es (events.Start (who_in σ f) volatiles.Bide)
      (λ p. ap (λ (q : Public). faces (public_side σ q)) (bide-hears (who_in σ f) p)) o keep strike m

-- One fact of a story for another

module _ (σ : Side) (i : ℕ) {z : Sizes} {pre : List Event} {G H : About} (h : (place : ℕ) (known : List KnownMove) (seen : List SeenMove) → G place known seen → H place known seen) where
  pub now-as : (p : Progress) → Now (counting σ i G) z pre p → Now (counting σ i H) z pre p
  unfolding counting
  now-as p m = record { begun = m.begun; exact = counted-as (h _ _ _) m.exact }

  pub may-as : (p : Progress) → MayFall (counting σ i G) z pre p → MayFall (counting σ i H) z pre p
  unfolding counting
  may-as p m = record { begun = m.begun; loose = counted-as (h _ _ _) m.loose }

  pub now-may : (p : Progress) → Now (counting σ i G) z pre p → MayFall (counting σ i H) z pre p
  unfolding counting
  now-may p m = record { begun = m.begun; loose = counted-as (h _ _ _) m.exact }

  pub may-now : (p : Progress) → MayFall (counting σ i G) z pre p → Now (counting σ i H) z pre p
  unfolding counting
  may-now p m = record { begun = m.begun; exact = counted-as (h _ _ _) m.loose }

acted-any : (σ : Side) (i : ℕ) (G : About) (s : Side) (move : Move) → (counting σ i G).acted s move
unfolding counting
acted-any σ i G s move = tt

upright-any : (σ : Side) (i : ℕ) (G : About) (s : Side) → (counting σ i G).upright s
unfolding counting
upright-any σ i G s = tt

lulled-any : (σ : Side) (i : ℕ) (G : About) (s : Side) (turns : ℕ) (marked : Bool) → (counting σ i G).lulled s turns marked
unfolding counting
lulled-any σ i G s turns marked = tt

knows-else : (σ : Side) (i : ℕ) (G : About) (s : Side) (move : Move) → bides move.effect ≡ false → (counting σ i G).knows s move
unfolding counting
knows-else σ i G s move h = inr h

-- PP of the active member is spent.

module _ {ids : List ℕ} {j m pp u : ℕ} (slot : IsSlotOf ids j m) (i : ℕ) where
  spent-party : (t : Party) (used : UsedMove) (n : ℕ) (y : Faces) → IsOut t → number_in used (member_at t.active.place t).moves ≡ n → Counted i (Kept ids j m pp u) t.active.place t.members y
      → Counted i (Owes ids j m pp u i n) t.active.place (with_member t.active.place (with_pp_spent used (member_at t.active.place t)) t).members y
  unfolding with_pp_spent
  spent-party t used n y o e k =
      let place : ℕ = t.active.place in
      let was : Member = member_at place t in
      let now : Member = record was { moves = after_use used was.moves } in
      let low = o.placed in
      let high = o.within in
      let by : (((place - 1 == i) ≡ true) × (place - 1 ≡ i)) ⊎ (((place - 1 == i) ≡ false) × (place - 1 ≢ i))
      → Owes ids j m pp u i n place (moves_at i (slice_set t.members (place - 1) now)) (seen_moves i y) = λ c. elim c as (λ _. Owes ids j m pp u i n place (moves_at i (slice_set t.members (place - 1) now)) (seen_moves i y)) [
        | inl x ↦ subst (λ (l : ℕ). Owes ids j m pp u i n place (moves_at l (slice_set t.members (place - 1) now)) (seen_moves i y)) x.1
            (subst (λ (ks : List KnownMove). Owes ids j m pp u i n place ks (seen_moves i y)) (sym (ap (λ (q : Member). q.moves) (get_or-set_same t.members (place - 1) now nobody (omega (arith, low, high)))))
            (spends-own slot i n used e (subst (λ (l : ℕ). Kept ids j m pp u place (moves_at l t.members) (seen_moves i y)) (sym x.1) k.is)))
        | inr x ↦ subst (λ (ks : List KnownMove). Owes ids j m pp u i n place ks (seen_moves i y))
            (sym (ap (λ (q : Member). q.moves) (get_or-set_other t.members (place - 1) i now nobody (λ s. x.1 (sym s)))))
            (kept-owes slot i n x.1 k.is)
      ] in
      record { placed = k.placed; few = rw (length-set t.members (place - 1) now) k.few; is = by (eqb_tells (place - 1) i) }

  spent-counts : (σ : Side) (n : ℕ) (f : Field) (es : List Event) → BothOut f → number_in (active_in σ f).current_move (member_in σ f).moves ≡ n → Counts σ i (Kept ids j m pp u) f es
      → Counts σ i (Owes ids j m pp u i n) (changed_member σ (with_pp_spent (active_in σ f).current_move) f) es
  unfolding changed_member
  spent-counts One n f es o e k = spent-party f.one f.one.active.current_move n (faces (public_side One (told_by es))) o.one e k
  spent-counts Two n f es o e k = spent-party f.two f.two.active.current_move n (faces (public_side Two (told_by es))) o.two e k

-- A new use, or a move that continues

record New (σ : Side) (pick : Pick) (n : ℕ) (f : Field) (a : Action) (w : Stream) : Type 0 where
  new : a.going_on ≡ false
  named : number_in (used_by pick (active_in σ f).current_move) (member_in σ f).moves ≡ n

record Taken (σ : Side) (n : ℕ) (f : Field) (a : Action) (w : Stream) : Type 0 where
  new : a.going_on ≡ false
  named : number_in (active_in σ f).current_move (member_in σ f).moves ≡ n

abbrev Fact : (Field → Action → Stream → Type 0) → Progress → Type 0
Fact K p = K p.field p.action p.stream

record Goes (σ : Side) (pre : List Event) (n : ℕ) (p : Progress) : Type 0 where
  old : p.action.going_on ≡ true
  uncounted : new_uses n (own_of σ (pre ++ p.events)) ≡ 0
  idle : is_some (underway_in σ p.field).bide ≡ false

few-new : (n : ℕ) (x : PublicSide) → new_uses n x ≤ 1
few-new n x = by (is_going_on n x)
  where
    by : (c : Bool) → (if c then 0 else 1) ≤ 1
    by true = omega arith
    by false = omega arith

conditions-named : (σ : Side) (pick : Pick) (n : ℕ) (change : ActiveConditions → ActiveConditions) (f : Field) (a : Action) (w : Stream) → New σ pick n f a w
    → New σ pick n (changed_conditions σ change f) a w
unfolding changed_active changed_conditions
conditions-named One pick n change f a w h = record { new = h.new; named = h.named }
conditions-named Two pick n change f a w h = record { new = h.new; named = h.named }

damage-named : (σ : Side) (pick : Pick) (n damage : ℕ) (f : Field) (a : Action) (w : Stream) → New σ pick n f a w → New σ pick n (with_last_damage damage f) a w
unfolding with_last_damage
damage-named One pick n damage f a w h = record { new = h.new; named = h.named }
damage-named Two pick n damage f a w h = record { new = h.new; named = h.named }

taken-named : (σ : Side) (pick : Pick) (n : ℕ) (f : Field) (a : Action) (w : Stream) → New σ pick n f a w
    → Taken σ n (changed_active σ (with_current_move (used_by pick (active_in σ f).current_move)) f) a w
unfolding changed_active with_current_move
taken-named One pick n f a w h = record { new = h.new; named = h.named }
taken-named Two pick n f a w h = record { new = h.new; named = h.named }

module _ (σ : Side) (pick : Pick) (n : ℕ) where
  bide_on-new : (o : Option Storing) (damage : ℕ) → Keeps (New σ pick n) (bide_on σ o damage)
  unfolding bide_on let_energy_go store_energy set_letting_go
  bide_on-new None damage = stay-keeps
  bide_on-new (Some b) damage = choose-keeps _
      (then-keeps (ends-keeps σ _ _ (record { spared = conditions-named σ pick n _ })) (then-keeps (set_last_damage-keeps _ (record { spared = damage-named σ pick n _ }))
      (then-keeps (on_action-keeps (record { spared = λ f a w h. record { new = h.new; named = h.named } })) (set_missed-keeps _ (record { spared = λ f a w h. record { new = h.new; named = h.named } })))))
      (then-keeps (lasts-keeps σ _ _ (record { spared = conditions-named σ pick n _ })) stop-keeps)

  bide-new : Keeps (New σ pick n) (bide_goes_on σ)
  unfolding bide_goes_on
  bide-new = given-keeps _ (λ o. given-keeps _ (bide_on-new o))

  end-new : Keeps (New σ pick n) (end_charge σ)
  unfolding end_charge
  end-new = then-keeps (on_conditions-keeps σ _ (record { spared = conditions-named σ pick n _ })) (on_conditions-keeps σ _ (record { spared = conditions-named σ pick n _ }))

module _ (t : Terms) (z : Sizes) (pre : List Event) (σ : Side) (i : ℕ) (ids : List ℕ) (j m pp u : ℕ) (slot : IsSlotOf ids j m) (pick : Pick) (move : Move) (same : move ≡ move_at move.number) (some : move.number ≢ 0) where
  abbrev K : Progress → Type 0
  K = Now (counting σ i (Kept ids j m pp u)) z pre

  abbrev E : Progress → Type 0
  E = Now (counting σ i (Either ids j m pp u)) z pre

  abbrev O : Progress → Type 0
  O = Now (counting σ i (Owes ids j m pp u i move.number)) z pre

  abbrev Done : Progress → Type 0
  Done = MayFall (counting σ i (Either ids j m pp u)) z pre

  kept-done : (p : Progress) → MayFall (counting σ i (Kept ids j m pp u)) z pre p → Done p
  kept-done = may-as σ i (λ place known seen k. inl k)

  owes-done : (p : Progress) → MayFall (counting σ i (Owes ids j m pp u i move.number)) z pre p → Done p
  owes-done = may-as σ i (λ place known seen k. owes-either i move.number k)

  kept-now : (p : Progress) → K p → E p
  kept-now = now-as σ i (λ place known seen k. inl k)

  owes-now : (p : Progress) → O p → E p
  owes-now = now-as σ i (λ place known seen k. owes-either i move.number k)

  -- The first turn of a charged move

  prepare-kept : {S : Progress → Type 0} → Leads K K S (note (λ f. events.Prepare (who_in σ f) move.number))
  unfolding note counting
  prepare-kept = record {
    leads = λ p r k. Runs r (record {
      begun = k.begun;
      exact = at_end (Counts σ i (Kept ids j m pp u)) p.field pre p.events (events.Prepare (who_in σ p.field) move.number)
          (prepare-told σ i (Kept ids j m pp u) (Kept ids j m pp u) move.number p.field (pre ++ p.events) k.begun.both (λ known seen h. h) (λ known seen e h. kept-used move.number some h) k.exact);
    });
  }

  begin-kept : {Q : Progress → Type 0} → Leads K Q Done (begin_charge σ pick move)
  unfolding begin_charge seeing
  begin-kept = rests-leads kept-done (current-tells (counting-outline σ i (Kept ids j m pp u)) σ pick)
      ⊳ rests-leads kept-done (mild-tells (counting-outline σ i (Kept ids j m pp u)) σ _ (λ c. refl))
      ⊳ rests-leads kept-done (choose-tells _ (mild-tells (counting-outline σ i (Kept ids j m pp u)) σ _ (λ c. refl)) stay-tells)
      ⊳ prepare-kept ⊳ stop-leads (λ p k. now-may σ i (λ place known seen h. inl h) p k)

  charge-kept : Leads (λ p. K p × Fact (New σ pick move.number) p) (λ p. K p × Fact (New σ pick move.number) p) Done (charge σ pick move)
  unfolding charge
  charge-kept = choose-tells _ (choose-tells _
      (rests-leads kept-done (with-keeps (end_charge-tells (counting-outline σ i (Kept ids j m pp u)) σ) (end-new σ pick move.number)))
      (before-leads (λ p k. k.0) begin-kept)) stay-tells

  -- The use of a move

  taken-new : Leads (Fact (New σ pick move.number)) (Fact (Taken σ move.number)) (λ p. Unit {0}) (make_current σ pick)
  unfolding make_current given on_active on_field
  taken-new = record { leads = λ p r k. Runs r (taken-named σ pick move.number p.field p.action p.stream k) }

  taken-kept : Leads (λ p. K p × Fact (New σ pick move.number) p) (λ p. K p × Fact (Taken σ move.number) p) Done (make_current σ pick)
  taken-kept = rests-leads (λ p k. kept-done p k.0) (both-leads (current-tells (counting-outline σ i (Kept ids j m pp u)) σ pick) taken-new)

  spends-new : {S : Progress → Type 0} → Leads (λ p. K p × Fact (Taken σ move.number) p) O S (spend_pp σ)
  unfolding spend_pp given on_member on_field counting
  spends-new = record {
    leads = λ p r k. Runs r (record {
      begun = begun-member σ (with_pp_spent (active_in σ p.field).current_move) p.field k.0.begun;
      exact = spent-counts slot i σ move.number p.field (pre ++ p.events) k.0.begun.both k.1.named k.0.exact;
    });
  }

  pays-new : {S : Progress → Type 0} → Leads (λ p. K p × Fact (Taken σ move.number) p) O S (choose goes_on_now stay (spend_pp σ))
  pays-new = choose-sees goes_on_now (record { leads = λ p r k. absurd (true≢false (sym k.1 ∙ k.0.1.new)) }) (before-leads (λ p k. k.0) spends-new)

  move-new : {S : Progress → Type 0} → Leads O E S (note (λ f. events.Move (who_in σ f) move.number (who_in (other σ) f)))
  unfolding note counting
  move-new = record {
    leads = λ p r k. Runs r (record {
      begun = k.begun;
      exact = at_end (Counts σ i (Either ids j m pp u)) p.field pre p.events (events.Move (who_in σ p.field) move.number (who_in (other σ) p.field))
          (move-told σ i (Owes ids j m pp u i move.number) (Either ids j m pp u) move.number p.field (pre ++ p.events) k.begun.both (λ known seen h. owes-either i move.number h)
          (λ known seen e h. owes-used i move.number (new_uses move.number (own_of σ (pre ++ p.events))) some (few-new move.number (own_of σ (pre ++ p.events))) e h) k.exact);
    });
  }

  use-new : bides move.effect ≡ false → Leads (λ p. K p × Fact (New σ pick move.number) p) E Done (use_move σ pick move)
  unfolding use_move
  use-new h = taken-kept ⊳ pays-new ⊳ if-sees (not (bides move.effect)) (λ e. move-new) (λ e. absurd (true≢false (sym (ap not h) ∙ e)))

  use-bides : bides move.effect ≡ true → Leads (λ p. K p × Fact (New σ pick move.number) p) O Done (use_move σ pick move)
  unfolding use_move
  use-bides h = taken-kept ⊳ pays-new ⊳ if-sees (not (bides move.effect)) (λ e. absurd (true≢false (sym e ∙ ap not h))) (λ e. stay-tells)

  -- A move that continues

  taken-old : Leads (Goes σ pre move.number) (λ p. (p.action.going_on ≡ true) × (new_uses move.number (own_of σ (pre ++ p.events)) ≡ 0)) (λ p. Unit {0}) (make_current σ pick)
  unfolding make_current given on_active on_field
  taken-old = record { leads = λ p r k. Runs r (k.old, k.uncounted) }

  move-old : {S : Progress → Type 0} → Leads (λ p. K p × ((p.action.going_on ≡ true) × (new_uses move.number (own_of σ (pre ++ p.events)) ≡ 0))) E S (note (λ f. events.Move (who_in σ f) move.number (who_in (other σ) f)))
  unfolding note counting
  move-old = record {
    leads = λ p r k. Runs r (record {
      begun = k.0.begun;
      exact = at_end (Counts σ i (Either ids j m pp u)) p.field pre p.events (events.Move (who_in σ p.field) move.number (who_in (other σ) p.field))
          (move-told σ i (Kept ids j m pp u) (Either ids j m pp u) move.number p.field (pre ++ p.events) k.0.begun.both (λ known seen h. inl h)
          (λ known seen e h. inl (subst (λ (x : ℕ). Kept ids j m pp u (place_of σ p.field) known (used_more x move.number seen)) (sym k.1.1) (kept-used move.number some h))) k.0.exact);
    });
  }

  use-old : bides move.effect ≡ false → Leads (λ p. K p × Goes σ pre move.number p) E Done (use_move σ pick move)
  unfolding use_move
  use-old h = rests-leads (λ p k. kept-done p k.0) (both-leads (current-tells (counting-outline σ i (Kept ids j m pp u)) σ pick) taken-old)
      ⊳ choose-sees goes_on_now (before-leads (λ p k. k.0) stay-tells) (record { leads = λ p r k. absurd (true≢false (sym k.0.1.0 ∙ k.1)) })
      ⊳ if-sees (not (bides move.effect)) (λ e. move-old) (λ e. absurd (true≢false (sym (ap not h) ∙ e)))

  -- After the use of any move but Bide

  after-new : Leads E E Done (choose (λ p. is_early move.effect) (early_effect σ move move.effect ▸ stop) stay ▸ prelude σ move)
  after-new = choose-tells _ (early_effect-tells σ move move.effect (acted-any σ i (Either ids j m pp u) σ move) (λ e. lulled-any σ i (Either ids j m pp u) σ 2 false) ⊳ stop-tells) stay-tells ⊳ prelude-tells σ move

  carry-with : {P R : Progress → Type 0} → bides move.effect ≡ false → Leads P R Done (bide_goes_on σ) → Leads R E Done (choose lets_energy_go stay (lead_up σ pick move))
      → Leads P Done Done (carry_out (ruling_of t) σ pick move)
  unfolding carry_out
  carry-with h a b = a ⊳ b
      ⊳ choose-tells _ stay-tells (damage_of-tells σ move move.effect)
      ⊳ choose-tells _ stay-tells (choose-tells _ (late_effect-tells (ruling_of t) (ruling_of-tells t) σ move move.effect (λ e. (knows-else σ i (Either ids j m pp u) σ move h, e))
      (λ e turns few. lulled-any σ i (Either ids j m pp u) (other σ) turns t.rules.sleep_clause) ⊳ stop-tells) stay-tells)
      ⊳ strike-tells (ruling_of t) (ruling_of-tells t) σ move (upright-any σ i (Either ids j m pp u) σ)
      (λ e. record { acts = acted-any σ i (Either ids j m pp u) σ move; plain = not-toxic move.number (ap (λ (x : Move). may_poison_by x.effect) (sym same) ∙ e) })
      (λ e. knows-else σ i (Either ids j m pp u) σ move h)

  bide-kept : Leads (λ p. K p × Fact (New σ pick move.number) p) (λ p. K p × Fact (New σ pick move.number) p) Done (bide_goes_on σ)
  bide-kept = rests-leads kept-done (with-keeps (bide_goes_on-tells (counting-outline σ i (Kept ids j m pp u)) σ) (bide-new σ pick move.number))

  lead-new : bides move.effect ≡ false → Leads (λ p. K p × Fact (New σ pick move.number) p) E Done (lead_up σ pick move)
  unfolding lead_up
  lead-new h = charge-kept ⊳ use-new h ⊳ after-new

  carry-new : bides move.effect ≡ false → Leads (λ p. K p × Fact (New σ pick move.number) p) Done Done (carry_out (ruling_of t) σ pick move)
  carry-new h = carry-with h bide-kept (choose-tells _ (before-leads (λ p k. kept-now p k.0) stay-tells) (lead-new h))

  no-bide : (o : Option Storing) (damage : ℕ) → Leads (λ p. (K p × Goes σ pre move.number p) × ((underway σ p).bide ≡ o)) (λ p. K p × Goes σ pre move.number p) Done (bide_on σ o damage)
  unfolding bide_on
  no-bide None damage = before-leads (λ p k. k.0) stay-tells
  no-bide (Some x) damage = record { leads = λ p r k. absurd (true≢false (sym (ap is_some k.1) ∙ k.0.1.idle)) }

  bide-old : Leads (λ p. K p × Goes σ pre move.number p) (λ p. K p × Goes σ pre move.number p) Done (bide_goes_on σ)
  unfolding bide_goes_on
  bide-old = given-sees (λ p. (underway σ p).bide) (λ o. given-tells _ (no-bide o))

  lead-old : bides move.effect ≡ false → charges move.effect ≡ false → Leads (λ p. K p × Goes σ pre move.number p) E Done (lead_up σ pick move)
  unfolding lead_up charge
  lead-old h c = if-sees (charges move.effect) (λ e. absurd (true≢false (sym e ∙ c))) (λ e. stay-tells) ⊳ use-old h ⊳ after-new

  carry-old : bides move.effect ≡ false → charges move.effect ≡ false → Leads (λ p. K p × Goes σ pre move.number p) Done Done (carry_out (ruling_of t) σ pick move)
  carry-old h c = carry-with h bide-old (choose-tells _ (before-leads (λ p k. kept-now p k.0) stay-tells) (lead-old h c))

  -- Bide, whose use is counted as it starts

  abbrev Mids : Progress → Type 0
  Mids p = (K p × (p.action.letting_go ≡ true)) ⊎ O p

  mids-owe : (p : Progress) → p.action.letting_go ≡ false → Mids p → O p
  mids-owe p e (inl k) = absurd (true≢false (sym k.1 ∙ e))
  mids-owe p e (inr k) = k

  mids-now : (p : Progress) → Mids p → E p
  mids-now p (inl k) = kept-now p k.0
  mids-now p (inr k) = owes-now p k

  lead-bides : bides move.effect ≡ true → Leads (λ p. K p × Fact (New σ pick move.number) p) O Done (lead_up σ pick move)
  unfolding lead_up
  lead-bides h = charge-kept ⊳ use-bides h
      ⊳ rests-leads owes-done (choose-tells _ (early_effect-tells σ move move.effect (acted-any σ i (Owes ids j m pp u i move.number) σ move)
      (λ e. lulled-any σ i (Owes ids j m pp u i move.number) σ 2 false) ⊳ stop-tells) stay-tells)
      ⊳ rests-leads owes-done (prelude-tells σ move)

  starts-told : (turns : ℕ) {S : Progress → Type 0} → bides move.effect ≡ true → Leads O E S (starts σ volatiles.Bide (with_bide turns))
  unfolding starts told counting
  starts-told turns h = record {
    leads = λ p r k.
        let g : Field = changed_conditions σ (with_bide turns) p.field in
        let begun = begun-conditions σ (with_bide turns) p.field k.begun in
        let is : move.number ≡ bide = bide-number move.number (ap (λ (x : Move). bides x.effect) (sym same) ∙ h) in
        Runs r (record {
          begun = begun;
          exact = at_end (Counts σ i (Either ids j m pp u)) g pre p.events (events.Start (who_in σ g) volatiles.Bide)
              (bide-told σ i (Owes ids j m pp u i move.number) (Either ids j m pp u) g (pre ++ p.events) begun.both (λ known seen x. owes-either i move.number x)
              (λ known seen e x. subst (λ (b : ℕ). Either ids j m pp u (place_of σ g) known (used_more 1 b seen)) is (owes-used i move.number 1 some (omega arith) e x))
              (counts-conditions σ i (Owes ids j m pp u i move.number) σ (with_bide turns) p.field (pre ++ p.events) k.exact));
        });
  }

  late-bides : (e : Effect) → bides e ≡ true → bides move.effect ≡ true → Leads O E Done (late_effect (ruling_of t) σ move e)
  unfolding late_effect start_bide bide_for
  late-bides effects.Bide k h = draw-tells (λ b. starts-told _ h)
  late-bides _ k h = absurd (true≢false (sym k))

  carry-bides : bides move.effect ≡ true → Leads (λ p. K p × Fact (New σ pick move.number) p) Done Done (carry_out (ruling_of t) σ pick move)
  unfolding carry_out
  carry-bides h = bide-kept
      ⊳ choose-sees lets_energy_go (after-leads (λ p k. inl (k.0.0, k.1)) stay-tells) (before-leads (λ p k. k.0) (after-leads (λ p k. inr k) (lead-bides h)))
      ⊳ choose-sees (lands_at_once move) (before-leads (λ p k. k.0) stay-tells)
      (before-leads (λ p k. mids-owe p (or-left p.action.letting_go _ k.1) k.0) (after-leads (λ p k. inr k) (rests-leads owes-done (damage_of-tells σ move move.effect))))
      ⊳ choose-sees lets_energy_go (before-leads (λ p k. mids-now p k.0) stay-tells)
      (before-leads (λ p k. mids-owe p k.1 k.0) (choose-tells _ (late-bides move.effect h h ⊳ stop-tells) (after-leads owes-now stay-tells)))
      ⊳ strike-tells (ruling_of t) (ruling_of-tells t) σ move (upright-any σ i _ σ) (λ c. absurd (true≢false (sym c ∙ of-bide move h may_poison_by))) (λ c. absurd (true≢false (sym c ∙ of-bide move h recharges)))

  carry-counts : Leads (λ p. K p × Fact (New σ pick move.number) p) Done Done (carry_out (ruling_of t) σ pick move)
  carry-counts = by (bides move.effect) refl
    where
      by : (b : Bool) → bides move.effect ≡ b → Leads (λ p. K p × Fact (New σ pick move.number) p) Done Done (carry_out (ruling_of t) σ pick move)
      by true h = carry-bides h
      by false h = carry-new h

-- The move that passes the gate

some-number : (used : UsedMove) (moves : List KnownMove) → used ≢ Nothing → IsUsedMove (length moves) used → All (λ (k : KnownMove). IsBetween 1 165 k.id) moves → number_in used moves ≢ 0
some-number Nothing moves h y a e = h refl
some-number Struggle moves h y a e = omega (arith, e)
some-number (Slot k) moves h y a e = let low = y.0 in let high = y.1 in let at = a (k - 1) nothing_known (omega (arith, low, high)) in let id = at.0 in omega (arith, id, e)

nothing-plain : (move_at 0).effect ≡ effects.DamageOnly
unfolding move_row move_rows
nothing-plain = refl

known-moves : {terms : Terms} (σ : Side) (f : Field) → IsField terms f → All (λ (k : KnownMove). IsBetween 1 165 k.id) (member_in σ f).moves
known-moves One f h = let low = h.one.place.0 in let high = h.one.place.1 in (h.one.members.each (f.one.active.place - 1) nobody (omega (arith, low, high))).moves
known-moves Two f h = let low = h.two.place.0 in let high = h.two.place.1 in (h.two.members.each (f.two.active.place - 1) nobody (omega (arith, low, high))).moves

use-some : {terms : Terms} {plan : Side → Plan} (σ : Side) (used : UsedMove) (f : Field) (a : Action) (w : Stream) → FitsPick (Use used) (plan σ) → IsPlanned terms plan f a w
    → number_in used (member_in σ f).moves ≢ 0
use-some σ used f a w fits h = some-number used (member_in σ f).moves fits.2 (planned-holds σ f a w fits.1 h).0 (known-moves σ f h.field)

current-some : (used : UsedMove) (moves : List KnownMove) (e : Effect) → effect_of used moves ≡ e → e ≢ effects.DamageOnly → used ≢ Nothing
current-some used moves e is plain none = plain (sym is ∙ ap (λ (x : UsedMove). effect_of x moves) none ∙ nothing-plain)

on-some : {terms : Terms} {plan : Side → Plan} (σ : Side) (f : Field) (a : Action) (w : Stream) → FitsPick Continue (plan σ) → IsPlanned terms plan f a w
    → number_in (active_in σ f).current_move (member_in σ f).moves ≢ 0
on-some σ f a w fits h = some-number (active_in σ f).current_move (member_in σ f).moves
    (current-some (active_in σ f).current_move (member_in σ f).moves fits.0 (planned-holds σ f a w fits.1 h) fits.2)
    (party-valid σ f h.field).active.current_move (known-moves σ f h.field)

-- A move that continues is neither Bide nor one that charges.

thrash-plain : (e : Effect) → thrashes e ≡ true → (bides e ≡ false) × (charges e ≡ false)
thrash-plain effects.Thrash h = (refl, refl)
thrash-plain _ h = absurd (true≢false (sym h))

trap-plain : (e : Effect) → traps e ≡ true → (bides e ≡ false) × (charges e ≡ false)
trap-plain effects.Trapping h = (refl, refl)
trap-plain _ h = absurd (true≢false (sym h))

rage-plain : (e : Effect) → rages e ≡ true → (bides e ≡ false) × (charges e ≡ false)
rage-plain effects.Rage h = (refl, refl)
rage-plain _ h = absurd (true≢false (sym h))

going-plain : (e : Effect) (u : Underway) → IsUnderway e u → keeps_going u ≡ true → (bides e ≡ false) × (charges e ≡ false)
going-plain e u h k = by _ _ _ refl refl refl k
  where
    by : (a b c : Bool) → is_some u.thrash ≡ a → is_some u.trapping ≡ b → u.rage ≡ c → (a || b || c) ≡ true → (bides e ≡ false) × (charges e ≡ false)
    by true b c x y z o = thrash-plain e (h.thrash_tied x)
    by false true c x y z o = trap-plain e (h.trapping_tied y)
    by false false true x y z o = rage-plain e (h.rage_tied z)
    by false false false x y z o = absurd (true≢false (sym o))

not-on : (c : Bool) {d : Bool} → (c ≡ true → d ≡ true) → d ≡ false → c ≡ false
not-on true h e = absurd (true≢false (sym (h refl) ∙ e))
not-on false h e = refl

module _ (t : Terms) (plan : Side → Plan) (z : Sizes) (pre : List Event) (b : Bool) (σ : Side) (i : ℕ) (ids : List ℕ) (j m pp u : ℕ) (slot : IsSlotOf ids j m) where
  abbrev Before : Pick → Progress → Type 0
  Before pick p = ((In z pre (Near b σ) p × Quiet t plan p.field p.action p.stream) × Now (counting σ i (Kept ids j m pp u)) z pre p)
      × (p.action.going_on ≡ (not (is_use pick) && keeps_going (underway_in σ p.field)))

  abbrev After : Progress → Type 0
  After = MayFall (counting σ i (Either ids j m pp u)) z pre

  goes-on : (p : Progress) → FitsPick Continue (plan σ) → p.action.going_on ≡ true → Before Continue p
      → Goes σ pre (number_in (active_in σ p.field).current_move (member_in σ p.field).moves) p × (bides (effect_of (active_in σ p.field).current_move (member_in σ p.field).moves) ≡ false)
      × (charges (effect_of (active_in σ p.field).current_move (member_in σ p.field).moves) ≡ false)
  goes-on p fits on k =
      let valid = (party-valid σ p.field k.0.0.1.0.field).active.conditions.underway in
      let going : keeps_going (underway_in σ p.field) ≡ true = sym k.1 ∙ on in
      let plain = going-plain _ (underway_in σ p.field) valid going in
      let does : Does (own_of σ (pre ++ p.events)) (party σ p.field) = does-in σ k.0.0.0.is.even in (
        record {
          old = on;
          uncounted = keeps-uncounted (own_of σ (pre ++ p.events)) (party σ p.field) (ap (λ (d : Deeds). d.rage) does.same) (valid-tied (party σ p.field) valid) does.last going;
          idle = not-on _ valid.bide_tied plain.0;
        },
        plain.0,
        plain.1,
      )

  continues : (p : Progress) → p.stopped ≡ false → FitsPick Continue (plan σ) → (c : Bool) → p.action.going_on ≡ c → Before Continue p
      → Lands After After (carry_out (ruling_of t) σ Continue (move_taken_in σ Continue p.field) p)
  continues p r fits false e k =
      (carry-counts t z pre σ i ids j m pp u slot Continue (move_taken_in σ Continue p.field) refl (on-some σ p.field p.action p.stream fits k.0.0.1.0)).leads p r (k.0.1, record { new = e; named = refl })
  continues p r fits true e k =
      let on = goes-on p fits e k in
      (carry-old t z pre σ i ids j m pp u slot Continue (move_taken_in σ Continue p.field) refl (on-some σ p.field p.action p.stream fits k.0.0.1.0) on.1 on.2).leads p r (k.0.1, on.0)

  takes-counts : (pick : Pick) → FitsPick pick (plan σ) → Passes pick → Leads (Before pick) After After (given (λ p. move_taken_in σ pick p.field) (carry_out (ruling_of t) σ pick))
  unfolding given
  takes-counts (Use used) fits k = record {
    leads = λ p r x. (carry-counts t z pre σ i ids j m pp u slot (Use used) (move_taken_in σ (Use used) p.field) refl (use-some σ used p.field p.action p.stream fits x.0.0.1.0)).leads p r
        (x.0.1, record { new = x.1; named = refl });
  }
  takes-counts Continue fits k = record { leads = λ p r x. continues p r fits p.action.going_on refl x }
  takes-counts Idle fits k = absurd k
  takes-counts Held fits k = absurd k

  see-counts : {S : Progress → Type 0} (pick : Pick) → Leads (λ p. (In z pre (Near b σ) p × Quiet t plan p.field p.action p.stream) × Now (counting σ i (Kept ids j m pp u)) z pre p) (Before pick) S (see_if_going_on σ pick)
  unfolding see_if_going_on set_going_on given on_action
  see-counts pick = record { leads = λ p r x. Runs r (((x.0.0, (see_if_going_on-sound (quiet-sound t plan) σ pick).kept p x.0.1), x.1), refl) }

  parts-counts : (pick : Pick) → FitsPick pick (plan σ) → IdleIsQuiet pick (plan σ)
      → Leads (λ p. (In z pre (Opens b σ) p × Quiet t plan p.field p.action p.stream) × Now (counting σ i (Kept ids j m pp u)) z pre p) After After (action_parts (ruling_of t) σ pick)
  unfolding action_parts
  parts-counts pick fits idle = before-leads (λ p x. (x, tt))
      (rests-leads (λ p x. may-as σ i (λ place known seen k. inl k) p x.0.1)
      (both-leads (both-leads (gate_or_held-deeds t plan b σ pick idle) (gate_or_held-tells (counting-outline σ i (Kept ids j m pp u)) (counting-dozes σ i (Kept ids j m pp u)) σ pick)) (passes-gate σ pick)))
      ⊳ passed pick fits
    where
      passed : (pick : Pick) → FitsPick pick (plan σ)
          → Leads (λ p. ((In z pre (Near b σ) p × Quiet t plan p.field p.action p.stream) × Now (counting σ i (Kept ids j m pp u)) z pre p) × Passes pick) After After
          (see_if_going_on σ pick ▸ given (λ p. move_taken_in σ pick p.field) (carry_out (ruling_of t) σ pick))
      passed (Use used) fits = before-leads (λ p x. x.0) (see-counts (Use used)) ⊳ takes-counts (Use used) fits tt
      passed Continue fits = before-leads (λ p x. x.0) (see-counts Continue) ⊳ takes-counts Continue fits tt
      passed Idle fits = record { leads = λ p r x. absurd x.1 }
      passed Held fits = record { leads = λ p r x. absurd x.1 }

  pub own-acts : (pick : Pick) → FitsPick pick (plan σ) → IdleIsQuiet pick (plan σ)
      → Leads (λ p. (In z pre (Opens b σ) p × IsPlanned t plan p.field p.action p.stream) × Now (counting σ i (Kept ids j m pp u)) z pre p) After After (act (ruling_of t) σ pick)
  unfolding act keep_accuracy given begin on_action
  own-acts pick fits idle = record {
    leads = λ p r x.
        let y : Progress = action_parts (ruling_of t) σ pick (begin σ p) in
        resume-lands σ (accuracy_to_keep σ y) y ((parts-counts pick fits idle).leads (begin σ p) r ((x.0.0, (begin-quiet t plan σ).led p x.0.1), x.1));
  }

-- An action of the other side

module _ (t : Terms) {z : Sizes} {pre : List Event} (σ : Side) (i : ℕ) (G : About) where
  far-carries : (s : Side) → Against σ s → (pick : Pick) → Leads (Now (counting σ i G) z pre) (MayFall (counting σ i G) z pre) (MayFall (counting σ i G) z pre)
      (given (λ p. move_taken_in s pick p.field) (carry_out (ruling_of t) s pick))
  unfolding given counting
  far-carries s a pick = record {
    leads = λ p r k. (carry_out-tells (counting-outline σ i G) (ruling_of t) (ruling_of-tells t) s pick (move_taken_in s pick p.field) refl a (λ u turns marked. tt) tt).leads p r k;
  }

  pub far-acts : (s : Side) → Against σ s → (pick : Pick) → Leads (Now (counting σ i G) z pre) (MayFall (counting σ i G) z pre) (MayFall (counting σ i G) z pre) (act (ruling_of t) s pick)
  unfolding act keep_accuracy given begin on_action action_parts
  far-acts s a pick = record {
    leads = λ p r k.
        let y : Progress = action_parts (ruling_of t) s pick (begin s p) in
        resume-lands s (accuracy_to_keep s y) y
        ((gate_or_held-tells (counting-outline σ i G) (counting-dozes σ i G) s pick ⊳ see_if-tells (counting-outline σ i G) s pick ⊳ far-carries s a pick).leads (begin s p) r k);
  }
