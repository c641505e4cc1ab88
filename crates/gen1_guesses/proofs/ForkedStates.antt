-- The state of a battle that fits, from its parts, and the state that the battle represents: its sides are those that were made.
use Rattle.std.proofs.Common.{List, length, refl, ℕ, ◌≡◌, Bool, Err, Ok, [], ap, arith, cond, false, inl, inr, lit<, slice_index, slice_index_or, subst, suc, sym, true, zero, ◌<◌, ◌==◌, ◌∙◌, ◌∷◌, ◌≤◌, ◌⊎◌, ◌+◌, ◌-◌, ◌≢◌, ◌||◌}
use Rattle.gen1_machine.specs.declared.side.Side.{Side}
use Rattle.gen1_machine.specs.Sides.{other}
use Rattle.gen1_player.specs.Public.{public_side}
use Rattle.gen1_player.specs.declared.player.Player.{Player}
use Rattle.gen1_player.specs.declared.public_side.PublicSide.{PublicSide}
use Rattle.gen1_states.specs.declared.plain.MemberState.{MemberState}
use Rattle.gen1_guesses.specs.Forks.{clause_of, forked, guessed_for, if_fits, foe_of, foe_request, guessed_state, in_order, own_of, IsFork, Tested, tested, fresh_members, used_slot}
use Rattle.gen1_guesses.specs.declared.guess.Guess.{Guess}
use Rattle.std.specs.Prelude.{if◌then◌else◌, min}
use Rattle.gen1_tables.specs.declared.effect.Stat.{Stat}
use Rattle.gen1_tables.specs.declared.effect.Stat.TheVariants.{Attack, Defense, Special, Speed}
use Rattle.gen1_stats.specs.Members.{nobody, Member}
use Rattle.gen1_machine.specs.declared.side.Side.TheVariants.{One, Two}
use Rattle.gen1_machine.specs.Layout.{outcome_byte, request_byte, used_byte}
use Rattle.gen1_machine.specs.Numbers.{side_number}
use Rattle.gen1_machine.specs.Rules.{bit_of, bits_of_rules, Rules}
use Rattle.gen1_machine.specs.Stages.{now_at}
use Rattle.gen1_machine.specs.State.{nobody_out, request_of, State, active_in, known_in, member_at, member_in, party, Field, Party, Terms}
use Rattle.gen1_layout.specs.Parts.{parts_of}
use Rattle.gen1_layout.specs.Shows.{Stands}
use Rattle.gen1_layout.proofs.WaysBack.{now_fits}
use Rattle.gen1_states.specs.Tests.{member_out, are_left, completed, completed_side, computed_stats, stat_at}
use Rattle.gen1_states.specs.Plain.{bytes_of, first_side, no_member, second_side}
use Rattle.gen1_states.specs.Laws.{AreWords, IsPlain, IsPlainSide}
use Rattle.gen1_states.specs.Reading.{side_state, state_of, active_state, member_state, no_active}
use Rattle.gen1_states.specs.declared.plain.ActiveState.{ActiveState}
use Rattle.gen1_states.specs.declared.plain.BattleState.{BattleState}
use Rattle.gen1_states.specs.declared.plain.SideState.{SideState}
use Rattle.gen1_states.proofs.ThereAndBack.{comes_back, not_zero}
use Rattle.std.proofs.lemmas.Bool.Decides.{eqb_tells, nat_tests}
use Rattle.std.proofs.lemmas.List.{get_or_past}
use Rattle.gen1_tables.specs.Moves.{struggle}
use Rattle.gen1_stats.specs.declared.member.KnownMove.{KnownMove}
use Rattle.gen1_machine.specs.declared.side.UsedMove.{UsedMove}
use Rattle.gen1_machine.specs.declared.side.UsedMove.TheVariants.{Nothing, Slot, Struggle}
use Rattle.gen1_machine.specs.Picks.{number_in}
use Rattle.gen1_machine.specs.Valid.{IsField, IsMembersUnder, IsParty, IsStarted, IsState, IsUnstarted, IsUsedMove}

pub made : (s : Side) (p : Player) (g : Guess) (foe : PublicSide) (count : ℕ) (fresh : List MemberState) (t : Tested)
    → foe ≡ public_side (other s) p.public → count ≡ length g.team → fresh ≡ fresh_members g.team → t ≡ tested p foe count fresh
    → if_fits t (forked s p g fresh) ≡ guessed_for s p g
unfolding guessed_for
made s p g foe count fresh t ef ec er et = rw (et, ef, ec, er) refl

-- The guess fits

if_ok : (t : Tested) (b state : BattleState) → if_fits t b ≡ Ok state → (t ≡ Ok tt) × (b ≡ state)
if_ok (Ok fits) b state e = (refl, cc)
if_ok (Err fault) b state e = absurd cc

by_side : (s : Side) (p : Player) (g : Guess) → p.side ≡ side_number s → guessed_state p g ≡ guessed_for s p g
by_side One p g e = subst (λ (q : Player). guessed_state q g ≡ guessed_for One q g) (ap (λ (n : ℕ). record p { side = n }) (sym e)) refl
by_side Two p g e = subst (λ (q : Player). guessed_state q g ≡ guessed_for Two q g) (ap (λ (n : ℕ). record p { side = n }) (sym e)) refl

pub fits : (s : Side) (p : Player) (g : Guess) (state : BattleState) → p.side ≡ side_number s → guessed_state p g ≡ Ok state
    → (tested p (public_side (other s) p.public) (length g.team) (fresh_members g.team) ≡ Ok tt) × (forked s p g (fresh_members g.team) ≡ state)
unfolding guessed_for
fits s p g state side e = if_ok _ _ state (sym (by_side s p g side) ∙ e)

-- Plain states

abbrev pub ordered : {A : Type 0} → Side → A → A → List A
ordered One a b = a ∷ b ∷ []
ordered Two a b = b ∷ a ∷ []

-- The sides of a battle that fits, with their current stats.
abbrev pub own_whole : Side → Player → Guess → SideState
own_whole s p g = completed_side (own_of (clause_of p) s p)

abbrev pub foe_whole : Side → Player → Guess → SideState
foe_whole s p g = completed_side (foe_of (clause_of p) s p (fresh_members g.team))

abbrev asked_of : Side → Player → Guess → ℕ
asked_of s p g = foe_request p.own.request (foe_of (clause_of p) s p (fresh_members g.team))

abbrev whole_of : Side → Player → Guess → BattleState
whole_of s p g = record (forked s p g (fresh_members g.team)) {
  sides = ordered s (own_whole s p g) (foe_whole s p g);
  requests = ordered s p.own.request (asked_of s p g);
}

whole_by : (s : Side) (p : Player) (g : Guess) → (p.own.turn ≡ 0 → ⊥) → completed (forked s p g (fresh_members g.team)) ≡ whole_of s p g
unfolding in_order
whole_by One p g out = ap (λ (b : Bool). cond b (forked One p g (fresh_members g.team)) (whole_of One p g)) (not_zero p.own.turn out)
whole_by Two p g out = ap (λ (b : Bool). cond b (forked Two p g (fresh_members g.team)) (whole_of Two p g)) (not_zero p.own.turn out)

stat_fits : (stat : Stat) (u n k : ℕ) → now_at u n stat k < 65536
stat_fits Attack u n k = now_fits Attack (record nobody { attack = u }) (record nobody_out { stages = record nobody_out.stages { attack = n }; attack_penalties = k })
stat_fits Speed u n k = now_fits Speed (record nobody { speed = u }) (record nobody_out { stages = record nobody_out.stages { speed = n }; speed_penalties = k })
stat_fits Defense u n k = now_fits Defense (record nobody { defense = u }) (record nobody_out { stages = record nobody_out.stages { defense = n } })
stat_fits Special u n k = now_fits Special (record nobody { special = u }) (record nobody_out { stages = record nobody_out.stages { special = n } })
stat_fits stat u n k = now_fits Defense (record nobody { defense = u }) (record nobody_out { stages = record nobody_out.stages { defense = n } })

pub words : (a b c d : ℕ) → a < 65536 → b < 65536 → c < 65536 → d < 65536 → AreWords (a ∷ b ∷ c ∷ d ∷ [])
words a b c d fa fb fc fd zero = fa
words a b c d fa fb fc fd (suc zero) = fb
words a b c d fa fb fc fd (suc (suc zero)) = fc
words a b c d fa fb fc fd (suc (suc (suc zero))) = fd
words a b c d fa fb fc fd (suc (suc (suc (suc k)))) = lit< tt

fits_at : (m : MemberState) (a : ActiveState) (index : ℕ) (stat : Stat) (penalties : ℕ) → stat_at m a index stat penalties < 65536
fits_at m a index stat penalties = stat_fits stat (slice_index m.stats index) (min (slice_index a.stages index) 12) penalties

computed_words : (m : MemberState) (a : ActiveState) → AreWords (computed_stats m a)
computed_words m a = words (stat_at m a 0 Attack (bit_of (m.status == 3))) (stat_at m a 1 Defense 0) (stat_at m a 2 Speed (bit_of (m.status == 5))) (stat_at m a 3 Special 0)
    (fits_at m a 0 Attack (bit_of (m.status == 3))) (fits_at m a 1 Defense 0) (fits_at m a 2 Speed (bit_of (m.status == 5))) (fits_at m a 3 Special 0)

plain_whole : (x : SideState) → IsPlainSide x → IsPlainSide (completed_side x)
unfolding completed_side
plain_whole x h = by (are_left x.active)
  where
    by : (b : Bool) → IsPlainSide (if b then record x { active = record x.active { stats = computed_stats (member_out x) x.active } } else x)
    by true = record {
      count = h.count;
      members = h.members;
      active = record {
        types = h.active.types;
        stages = h.active.stages;
        stats = refl;
        conditions = h.active.conditions;
        energy = h.active.energy;
        words = computed_words (member_out x) x.active;
      };
    }
    by false = h

-- What the state of a battle that fits has.
pub record HasSides (s : Side) (p : Player) (g : Guess) (f : State) : Type 0 where
  pub own : side_state s f.field ≡ own_whole s p g
  pub foe : side_state (other s) f.field ≡ foe_whole s p g
  pub turn : f.field.turn ≡ p.own.turn
  pub limit : f.terms.limit ≡ p.limit
  pub rules : bits_of_rules f.terms.rules ≡ p.rules
  pub outcome : outcome_byte f.field.outcome ≡ 0
  pub request : request_byte (request_of s f.field) ≡ p.own.request

whole_plain : (s : Side) (p : Player) (g : Guess) → IsPlainSide (own_of (clause_of p) s p) → IsPlainSide (foe_of (clause_of p) s p (fresh_members g.team))
    → p.own.turn < 65536 → p.limit < 65536 → length g.numbers ≡ 10 → IsPlain (whole_of s p g)
whole_plain One p g own foe turn limit ten = record {
  sides = refl;
  one = plain_whole _ own;
  two = plain_whole _ foe;
  requests = refl;
  numbers = ten;
  turn = turn;
  limit = limit;
  last_damage = lit< tt;
}
whole_plain Two p g own foe turn limit ten = record {
  sides = refl;
  one = plain_whole _ foe;
  two = plain_whole _ own;
  requests = refl;
  numbers = ten;
  turn = turn;
  limit = limit;
  last_damage = lit< tt;
}

sides_are : (s : Side) (p : Player) (g : Guess) (f : State) → state_of f ≡ whole_of s p g → HasSides s p g f
sides_are One p g f e = record {
  own = ap (λ (b : BattleState). first_side b) e;
  foe = ap (λ (b : BattleState). second_side b) e;
  turn = ap (λ (b : BattleState). b.turn) e;
  limit = ap (λ (b : BattleState). b.limit) e;
  rules = ap (λ (b : BattleState). b.rules) e;
  outcome = ap (λ (b : BattleState). b.outcome) e;
  request = ap (λ (b : BattleState). slice_index b.requests 0) e;
}
sides_are Two p g f e = record {
  own = ap (λ (b : BattleState). second_side b) e;
  foe = ap (λ (b : BattleState). first_side b) e;
  turn = ap (λ (b : BattleState). b.turn) e;
  limit = ap (λ (b : BattleState). b.limit) e;
  rules = ap (λ (b : BattleState). b.rules) e;
  outcome = ap (λ (b : BattleState). b.outcome) e;
  request = ap (λ (b : BattleState). slice_index b.requests 1) e;
}

pub has_sides : (s : Side) (p : Player) (g : Guess) (f : State) (h : IsFork p g f) → p.side ≡ side_number s → (p.own.turn ≡ 0 → ⊥)
    → IsPlainSide (own_of (clause_of p) s p) → IsPlainSide (foe_of (clause_of p) s p (fresh_members g.team))
    → p.own.turn < 65536 → p.limit < 65536 → length g.numbers ≡ 10 → HasSides s p g f
has_sides s p g f h side out own foe turn limit ten =
    let is : completed h.state ≡ whole_of s p g = ap completed (sym (fits s p g h.state side h.guessed).1) ∙ whole_by s p g out in
    let stands : Stands (parts_of (bytes_of (whole_of s p g))) f = subst (λ (b : BattleState). Stands (parts_of (bytes_of b)) f) is h.stands in
    sides_are s p g f (comes_back (whole_of s p g) f (whole_plain s p g own foe turn limit ten) stands)

-- What a side of a state has whose plain side is known

-- Without its current stats.
abbrev pub bare : ActiveState → ActiveState
bare a = record a { stats = [] }

pub record Holds (t : Party) (z : SideState) : Type 0 where
  pub members : (k : ℕ) → k < 6 → member_state (member_at (k + 1) t) ≡ slice_index_or z.members k no_member
  pub active : bare (active_state (member_at t.active.place t) t.active) ≡ bare z.active

listed : (s : Side) (f : Field) (k : ℕ) → k < 6 → slice_index_or (side_state s f).members k no_member ≡ member_state (member_at (k + 1) (party s f))
listed s f zero h = refl
listed s f (suc zero) h = refl
listed s f (suc (suc zero)) h = refl
listed s f (suc (suc (suc zero))) h = refl
listed s f (suc (suc (suc (suc zero)))) h = refl
listed s f (suc (suc (suc (suc (suc zero))))) h = refl
listed s f (suc (suc (suc (suc (suc (suc k)))))) h = absurd (omega (arith, h))

completed_same : (x : SideState) → ((completed_side x).members ≡ x.members) × (bare (completed_side x).active ≡ bare x.active)
unfolding completed_side
completed_same x = by (are_left x.active)
  where
    by : (b : Bool) → let y : SideState = (if b then record x { active = record x.active { stats = computed_stats (member_out x) x.active } } else x) in
        (y.members ≡ x.members) × (bare y.active ≡ bare x.active)
    by true = (refl, refl)
    by false = (refl, refl)

pub holds_side : (s : Side) (f : Field) (z : SideState) → (f.turn ≡ 0 → ⊥) → side_state s f ≡ completed_side z → Holds (party s f) z
holds_side s f z out e =
    let same = completed_same z in
    let now : (side_state s f).active ≡ active_state (member_in s f) (active_in s f) =
    ap (λ (b : Bool). cond b no_active (active_state (member_in s f) (active_in s f))) (not_zero f.turn out) in
    record {
      members = λ k low. sym (listed s f k low) ∙ ap (λ (x : SideState). slice_index_or x.members k no_member) e ∙ ap (λ (ms : List MemberState). slice_index_or ms k no_member) same.0;
      active = sym (ap bare now) ∙ ap (λ (x : SideState). bare x.active) e ∙ same.1;
    }

-- Valid sides

pub started : (s : State) → IsState s → (s.field.turn ≡ 0 → ⊥) → IsStarted s.terms s.field
started s h out = by h.field
  where
    by : IsUnstarted s.terms s.field ⊎ IsStarted s.terms s.field → IsStarted s.terms s.field
    by (inl u) = absurd (out u.turn)
    by (inr v) = v

pub party_valid : (s : Side) (terms : Terms) (f : Field) → IsField terms f → IsParty terms.rules (party s f)
party_valid One terms f v = v.one
party_valid Two terms f v = v.two

pub below_or : (a b : ℕ) → (a < b) ⊎ (b ≤ a)
below_or a b = grind arith

pub few_moves : (rules : Rules) (t : Party) → IsMembersUnder rules t.members → (place : ℕ) → length (member_at place t).moves ≤ 4
few_moves rules t v place = by (below_or (place - 1) (length t.members))
  where
    by : (place - 1 < length t.members) ⊎ (length t.members ≤ place - 1) → length (member_at place t).moves ≤ 4
    by (inl inside) = (v.each (place - 1) nobody inside).numbers.slots.1
    by (inr past) = subst (λ (m : Member). length m.moves ≤ 4) (sym (get_or_past t.members (place - 1) nobody past)) (omega arith)

pub past_six : (t : Party) → length t.members ≤ 6 → (place : ℕ) → 6 < place → member_at place t ≡ nobody
past_six t few place h = get_or_past t.members (place - 1) nobody (omega (arith, few, h))

-- The current move

abbrev by_byte : ℕ → List KnownMove → ℕ
by_byte n moves = if n == 0 then 0 else if n == 5 then struggle else (known_in n moves).id

number_by_byte : (u : UsedMove) (moves : List KnownMove) → IsUsedMove (length moves) u → length moves ≤ 4 → number_in u moves ≡ by_byte (used_byte u) moves
number_by_byte Nothing moves h few = refl
number_by_byte Struggle moves h few = refl
number_by_byte (Slot k) moves h few =
    let low = h.0 in
    let high = h.1 in
    let a : (k == 0) ≡ false = grind (arith, nat_tests) in
    let b : (k == 5) ≡ false = grind (arith, nat_tests) in
    rw (a, b) refl

abbrev ids_in : List KnownMove → List ℕ
ids_in moves = (known_in 1 moves).id ∷ (known_in 2 moves).id ∷ (known_in 3 moves).id ∷ (known_in 4 moves).id ∷ []

abbrev Tells : ℕ → ℕ → Type 0
Tells a b = (((a == b) ≡ true) × (a ≡ b)) ⊎ (((a == b) ≡ false) × (a ≢ b))

found : (last : ℕ) (moves : List KnownMove) → (last ≢ 0 → (last ≡ struggle) ⊎ ((slice_index (ids_in moves) 0 == last || slice_index (ids_in moves) 1 == last
    || slice_index (ids_in moves) 2 == last || slice_index (ids_in moves) 3 == last) ≡ true)) → by_byte (used_slot last (ids_in moves)) moves ≡ last
found last moves h = zero_or (eqb_tells last 0) (eqb_tells last struggle)
  where
    known : ((known_in 1 moves).id == last || (known_in 2 moves).id == last || (known_in 3 moves).id == last || (known_in 4 moves).id == last) ≡ true
        → Tells (known_in 1 moves).id last
        → Tells (known_in 2 moves).id last
        → Tells (known_in 3 moves).id last
        → Tells (known_in 4 moves).id last
        → by_byte (if (known_in 1 moves).id == last then 1 else if (known_in 2 moves).id == last then 2 else if (known_in 3 moves).id == last then 3
        else if (known_in 4 moves).id == last then 4 else 0) moves ≡ last
    known e (inl a) b c d = rw a.0 a.1
    known e (inr a) (inl b) c d = rw (a.0, b.0) b.1
    known e (inr a) (inr b) (inl c) d = rw (a.0, b.0, c.0) c.1
    known e (inr a) (inr b) (inr c) (inl d) = rw (a.0, b.0, c.0, d.0) d.1
    known e (inr a) (inr b) (inr c) (inr d) = absurd (let no : false ≡ true = subst (λ (x : Bool). x ≡ true) (rw (a.0, b.0, c.0, d.0) refl) e in cc)

    one_of : (last ≡ struggle) ⊎ (((known_in 1 moves).id == last || (known_in 2 moves).id == last || (known_in 3 moves).id == last || (known_in 4 moves).id == last) ≡ true)
        → (last == struggle) ≡ false → last ≢ struggle
        → by_byte (if (known_in 1 moves).id == last then 1 else if (known_in 2 moves).id == last then 2 else if (known_in 3 moves).id == last then 3
        else if (known_in 4 moves).id == last then 4 else 0) moves ≡ last
    one_of (inl e) x y = absurd (y e)
    one_of (inr e) x y = known e (eqb_tells _ last) (eqb_tells _ last) (eqb_tells _ last) (eqb_tells _ last)

    zero_or : (((last == 0) ≡ true) × (last ≡ 0)) ⊎ (((last == 0) ≡ false) × (last ≢ 0)) → (((last == struggle) ≡ true) × (last ≡ struggle)) ⊎ (((last == struggle) ≡ false) × (last ≢ struggle))
        → by_byte (used_slot last (ids_in moves)) moves ≡ last
    zero_or (inl e) x = rw e.0 (sym e.1)
    zero_or (inr e) (inl x) = rw (e.0, x.0) (sym x.1)
    zero_or (inr e) (inr x) = rw (e.0, x.0) (one_of (h e.1) x.0 x.1)

-- The number of the current move of a side whose plain side has the last move as current.
pub current_is : (u : UsedMove) (moves : List KnownMove) (last : ℕ) → IsUsedMove (length moves) u → length moves ≤ 4 → used_byte u ≡ used_slot last (ids_in moves)
    → (last ≢ 0 → (last ≡ struggle) ⊎ ((slice_index (ids_in moves) 0 == last || slice_index (ids_in moves) 1 == last || slice_index (ids_in moves) 2 == last || slice_index (ids_in moves) 3 == last) ≡ true))
    → number_in u moves ≡ last
current_is u moves last h few e known = number_by_byte u moves h few ∙ ap (λ (n : ℕ). by_byte n moves) e ∙ found last moves known
