-- The damage of an action: how it is found, by the effect of the move, and what the machine does after that with another
-- last damage that does the same to the foe.
use Rattle.std.proofs.Common.{get_or, min, not, suc, zero, ◌&&◌, ◌+◌, ◌-◌, ◌≡◌, ◌≤◌, ◌++◌, ◌==◌, ◌∷◌, ◌⊎◌, ◌||◌}
use Rattle.std.proofs.lemmas.Bool.{false≢true}
use Rattle.gen1_layout.proofs.Words.{Bool, Event, Field, List, None, Option, Phase, Progress, Side, Some, Who, [], ap, arith, choose, choose-false, choose-true, conditions_in, draw, false, given, inl, inr, member_in, nat_lt, nat_tests, note, on_conditions, on_field, refl, set_last_damage, stay, stop, subst, sym, then-goes, true, with_last_damage, ℕ, ◌∙◌, ◌▸◌}
use Rattle.gen1_tables.specs.declared.effect.Effect.{Effect}
use Rattle.gen1_tables.specs.declared.effect.Effect.TheVariants as effects
use Rattle.gen1_tables.specs.declared.types.Element.TheVariants as elements
use Rattle.gen1_tables.specs.Moves.{MoveRow, move_row, move_rows}
use Rattle.gen1_rolls.specs.Streams.{limit_of, byte_at}
use Rattle.gen1_stats.specs.Members.{Member, is_living}
use Rattle.gen1_machine.specs.declared.side.Side.TheVariants.{One, Two}
use Rattle.gen1_machine.specs.declared.event.DamageSource.{DamageSource}
use Rattle.gen1_machine.specs.declared.event.DamageSource.TheVariants as sources
use Rattle.gen1_machine.specs.declared.event.Event.TheVariants as events
use Rattle.gen1_tables.specs.Effects.{hits_more, knocks_out}
use Rattle.gen1_machine.specs.Action.{damage_of, lets_energy_go, strike, usual_damage}
use Rattle.gen1_machine.specs.Conditions.{ActiveConditions, without_trapping}
use Rattle.gen1_machine.specs.Counter.{counter}
use Rattle.gen1_machine.specs.Damage.{numbers}
use Rattle.gen1_machine.specs.FixedDamage.{fixed_damage, knock_out}
use Rattle.gen1_machine.specs.HitTest.{base_of, hit_or_miss, hit_test, hits_below, miss, scaled_in, set_tested, settled_hit_in, test_by}
use Rattle.gen1_machine.specs.HitEffects.{hit_effect}
use Rattle.gen1_machine.specs.Landing.{land, land_by, land_damage, land_on_hp}
use Rattle.gen1_machine.specs.LateEffects.{is_late, late_effect}
use Rattle.gen1_machine.specs.ManyHits.{build_rage, count_hit, hit_once, hits, hits_end, missed_move, note_critical, note_effectiveness, note_first_hit, other_hits}
use Rattle.gen1_machine.specs.Moves.{Move, move_at}
use Rattle.gen1_machine.specs.Progress.{broke_substitute, conditions, has_fallen, has_missed, last_damage, lose_hp, member, on_action, only, set_missed, told, unless, unless_stopped, when}
use Rattle.gen1_machine.specs.Plans.{Plan}
use Rattle.gen1_machine.specs.Ruling.{Ruling}
use Rattle.gen1_machine.specs.SideEffects.{side_effect}
use Rattle.gen1_machine.specs.Sides.{other}
use Rattle.gen1_machine.specs.State.{Terms, active_in, changed_member, health_in, hurt_by, party, who_in, with_member, with_party}
use Rattle.gen1_machine.proofs.Sound.{planned-sound}
use Rattle.gen1_hits.specs.Planned.{Follows}
use Rattle.gen1_turn.specs.Action.{late_part, AlikeDamage, LikeDamage, LikeUsual, cuts, edge_of, limit_in, way_of}
use Rattle.gen1_turn.specs.declared.action.Way.{Way}
use Rattle.gen1_turn.specs.declared.action.Way.TheVariants as ways

-- By the effect of the move

abbrev pub damage_by : Side → Move → Way → Phase
damage_by s move ways.Counter = counter s move
damage_by s move ways.Fixed = fixed_damage s move
damage_by s move ways.KnockOut = knock_out s move
damage_by s move ways.Usual = choose (λ _. nat_lt 0 move.power) (usual_damage s move) (set_last_damage 0)

pub damage-by : (s : Side) (move : Move) (e : Effect) (way : Way) → way_of e ≡ way → damage_of s move e ≡ damage_by s move way
unfolding damage_of
damage-by s move effects.Counter way is = ap (λ w. damage_by s move w) is
damage-by s move effects.FixedDamage way is = ap (λ w. damage_by s move w) is
damage-by s move effects.SuperFang way is = ap (λ w. damage_by s move w) is
damage-by s move effects.OneHitKnockOut way is = ap (λ w. damage_by s move w) is
damage-by s move _ way is = ap (λ w. damage_by s move w) is

-- A move with a late effect has no power, so it finds no damage

is_weak : MoveRow → Bool
is_weak row = not (is_late row.effect) || row.power == 0

all_weak : List MoveRow → Bool
all_weak [] = true
all_weak (row ∷ rows) = is_weak row && all_weak rows

both : (a b : Bool) → (a && b) ≡ true → (a ≡ true) × (b ≡ true)
both true b e = (refl, e)
both false b e = absurd (false≢true e)

weak-at : (rows : List MoveRow) (i : ℕ) (d : MoveRow) → all_weak rows ≡ true → is_weak d ≡ true → is_weak (get_or rows i d) ≡ true
unfolding all_weak
weak-at [] i d all default = default
weak-at (row ∷ rows) zero d all default = (both (is_weak row) (all_weak rows) all).0
weak-at (row ∷ rows) (suc i) d all default = weak-at rows i d (both (is_weak row) (all_weak rows) all).1 default

weak-row : (n : ℕ) → is_weak (move_row n) ≡ true
unfolding move_row move_rows all_weak is_weak
weak-row n = weak-at move_rows (n - 1) (record { kind = elements.Normal; power = 0; accuracy = 0; pp = 0; effect = effects.DamageOnly }) refl refl

pub late-power : (n : ℕ) → is_late (move_at n).effect ≡ true → nat_lt 0 (move_at n).power ≡ false
unfolding is_weak
late-power n late =
    let weak : ((move_at n).power == 0) ≡ true = ap (λ (b : Bool). not b || (move_at n).power == 0) (sym late) ∙ weak-row n in
    grind (weak, arith, nat_tests)

-- What is read of a field with another last damage

who-same : (s : Side) (d : ℕ) (f : Field) → who_in s (with_last_damage d f) ≡ who_in s f
unfolding with_last_damage
who-same One d f = refl
who-same Two d f = refl

member-same : (s : Side) (d : ℕ) (f : Field) → member_in s (with_last_damage d f) ≡ member_in s f
unfolding with_last_damage
member-same One d f = refl
member-same Two d f = refl

pub limit-same : (s : Side) (d : ℕ) (f : Field) → limit_in s (with_last_damage d f) ≡ limit_in s f
unfolding with_last_damage
limit-same One d f = refl
limit-same Two d f = refl

conditions-same : (s : Side) (d : ℕ) (f : Field) → conditions_in s (with_last_damage d f) ≡ conditions_in s f
unfolding with_last_damage
conditions-same One d f = refl
conditions-same Two d f = refl

numbers-same : (s : Side) (move : Move) (d : ℕ) (p : Progress) → numbers s move (set_last_damage d p) ≡ numbers s move p
unfolding set_last_damage on_field with_last_damage
numbers-same One move d p = refl
numbers-same Two move d p = refl

base-same : (s : Side) (move : Move) (d : ℕ) (p : Progress) → base_of s move (set_last_damage d p) ≡ base_of s move p
unfolding set_last_damage on_field with_last_damage
base-same One move d p = refl
base-same Two move d p = refl

settled-same : (s : Side) (move : Move) (d : ℕ) (f : Field) → settled_hit_in s move (with_last_damage d f) ≡ settled_hit_in s move f
unfolding with_last_damage
settled-same One move d f = refl
settled-same Two move d f = refl

scaled-same : (s : Side) (base d : ℕ) (f : Field) → scaled_in s base (with_last_damage d f) ≡ scaled_in s base f
unfolding with_last_damage
scaled-same One base d f = refl
scaled-same Two base d f = refl

-- A phase that doesn't look at the last damage, and leaves the field as it is

record Notes (f : Phase) : Type 0 where
  passes : (d : ℕ) (p : Progress) → f (set_last_damage d p) ≡ set_last_damage d (f p)
  leaves : (p : Progress) → (f p).field ≡ p.field
  goes : (p : Progress) → (f p).stopped ≡ p.stopped

stay-notes : Notes stay
unfolding stay
stay-notes = record { passes = λ d p. refl; leaves = λ p. refl; goes = λ p. refl }

note-notes : (event : Field → Event) → ((d : ℕ) (f : Field) → event (with_last_damage d f) ≡ event f) → Notes (note event)
unfolding note set_last_damage on_field
note-notes event same = record {
  passes = λ d p. ap (λ (e : Event). record p { field = with_last_damage d p.field; events = p.events ++ e ∷ [] }) (same d p.field);
  leaves = λ p. refl;
  goes = λ p. refl;
}

then-notes : (f k : Phase) → Notes f → Notes k → Notes (f ▸ k)
unfolding ◌▸◌ unless_stopped set_last_damage on_field
then-notes f k a b = record {
  passes = λ d p. ap (unless_stopped k) (a.passes d p) ∙ by d (f p) (f p).stopped refl;
  leaves = λ p. left (f p) (f p).stopped ∙ a.leaves p;
  goes = λ p. gone (f p) (f p).stopped refl ∙ a.goes p;
}
  where
    by : (d : ℕ) (x : Progress) (t : Bool) → x.stopped ≡ t
        → (elim t as (λ _. Progress) [ true ↦ set_last_damage d x | false ↦ k (set_last_damage d x) ]) ≡ set_last_damage d (elim t as (λ _. Progress) [ true ↦ x | false ↦ k x ])
    by d x true e = refl
    by d x false e = b.passes d x

    left : (x : Progress) (t : Bool) → (elim t as (λ _. Progress) [ true ↦ x | false ↦ k x ]).field ≡ x.field
    left x true = refl
    left x false = b.leaves x

    gone : (x : Progress) (t : Bool) → x.stopped ≡ t → (elim t as (λ _. Progress) [ true ↦ x | false ↦ k x ]).stopped ≡ x.stopped
    gone x true e = refl
    gone x false e = b.goes x

choose-notes : (test : Progress → Bool) (f k : Phase) → ((d : ℕ) (p : Progress) → test (set_last_damage d p) ≡ test p) → Notes f → Notes k → Notes (choose test f k)
unfolding choose
choose-notes test f k same a b = record {
  passes = λ d p.
      ap (λ (t : Bool). elim t as (λ _. Progress) [ true ↦ f (set_last_damage d p) | false ↦ k (set_last_damage d p) ]) (same d p) ∙ by d p (test p);
  leaves = λ p. left p (test p);
  goes = λ p. gone p (test p);
}
  where
    by : (d : ℕ) (p : Progress) (t : Bool)
        → (elim t as (λ _. Progress) [ true ↦ f (set_last_damage d p) | false ↦ k (set_last_damage d p) ]) ≡ set_last_damage d (elim t as (λ _. Progress) [ true ↦ f p | false ↦ k p ])
    by d p true = a.passes d p
    by d p false = b.passes d p

    left : (p : Progress) (t : Bool) → (elim t as (λ _. Progress) [ true ↦ f p | false ↦ k p ]).field ≡ p.field
    left p true = a.leaves p
    left p false = b.leaves p

    gone : (p : Progress) (t : Bool) → (elim t as (λ _. Progress) [ true ↦ f p | false ↦ k p ]).stopped ≡ p.stopped
    gone p true = a.goes p
    gone p false = b.goes p

given-notes : {A : Type 0} (read : Progress → A) (f : A → Phase) → ((d : ℕ) (p : Progress) → read (set_last_damage d p) ≡ read p) → ((a : A) → Notes (f a)) → Notes (given read f)
unfolding given
given-notes read f same a = record {
  passes = λ d p. ap (λ x. f x (set_last_damage d p)) (same d p) ∙ (a (read p)).passes d p;
  leaves = λ p. (a (read p)).leaves p;
  goes = λ p. (a (read p)).goes p;
}

noted-notes : (s : Side) (event : Who → Event) → Notes (note λ f. event (who_in (other s) f))
noted-notes s event = note-notes (λ f. event (who_in (other s) f)) (λ d f. ap event (who-same (other s) d f))

first-notes : (s : Side) (move : Move) → Notes (note_first_hit s move)
unfolding note_first_hit note_critical note_effectiveness set_last_damage on_field with_last_damage
first-notes s move =
    choose-notes _ _ stay (λ d p. refl)
    (then-notes _ _
    (choose-notes _ _ stay (λ d p. refl) (noted-notes s events.Crit) stay-notes)
    (given-notes (numbers s move) (note_effectiveness (other s)) (numbers-same s move) (λ n.
    choose-notes _ _ _ (λ d p. refl) (noted-notes s events.SuperEffective)
    (choose-notes _ _ stay (λ d p. refl) (noted-notes s events.Resisted) stay-notes))))
    stay-notes

-- Landing

both_false : (b : Bool) → (b && false) ≡ false
both_false true = refl
both_false false = refl

-- A member loses the same by two amounts that come to the same up to its HP.
lose-alike : (t : Side) (source : DamageSource) (a b : ℕ) (x : Progress) → min a (member t x).hp ≡ min b (member t x).hp → lose_hp t source a x ≡ lose_hp t source b x
unfolding lose_hp choose told stay hurt_by changed_member
lose-alike t source a b x e =
    ap (λ (y : Bool). elim y as (λ _. Progress) [ true ↦ lost (changed_member t (hurt_by a) x.field) | false ↦ x ]) tests
    ∙ ap (λ (f : Field). elim (nat_lt 0 b && is_living m) as (λ _. Progress) [ true ↦ lost f | false ↦ x ]) fields
  where
    m : Member
    m = member t x

    lost : Field → Progress
    lost f = record x { field = f; events = x.events ++ events.Damage (who_in t f) (health_in t f) source ∷ [] }

    living : (y : Bool) → is_living m ≡ y → (nat_lt 0 a && y) ≡ (nat_lt 0 b && y)
    living false is = both_false (nat_lt 0 a) ∙ sym (both_false (nat_lt 0 b))
    living true is = ap (λ (y : Bool). y && true) (grind (is, e, arith, nat_tests))

    tests : (nat_lt 0 a && is_living m) ≡ (nat_lt 0 b && is_living m)
    tests = living (is_living m) refl

    left : m.hp - a ≡ m.hp - b
    left = omega (arith, e)

    fields : changed_member t (hurt_by a) x.field ≡ changed_member t (hurt_by b) x.field
    fields = ap (λ (n : ℕ). with_party t (with_member (active_in t x.field).place (record m { hp = n }) (party t x.field)) x.field) left

abbrev landed : Side → ℕ → Phase
landed t n p = lose_hp t sources.Direct n (set_last_damage n p)

land-is : (t : Side) (p : Progress) → p.stopped ≡ false → (conditions t p).substitute ≡ None → land t p ≡ landed t (min p.field.last_damage (member t p).hp) p
unfolding land given land_by land_damage land_on_hp set_last_damage on_field with_last_damage stay lose_hp
land-is t p goes none = by (nat_lt 0 p.field.last_damage) refl
  where
    n : ℕ
    n = min p.field.last_damage (member t p).hp

    by : (b : Bool) → nat_lt 0 p.field.last_damage ≡ b → land t p ≡ landed t n p
    by true is =
        choose-true _ _ stay p is
        ∙ ap (λ (o : Option ℕ). land_by t p.field.last_damage o p) none
        ∙ then-goes (set_last_damage n) (lose_hp t sources.Direct p.field.last_damage) p goes
        ∙ lose-alike t sources.Direct p.field.last_damage n (set_last_damage n p) (omega (arith, ap (λ (m : Member). m.hp) (member-same t n p.field)))
    by false is =
        let zero : p.field.last_damage ≡ 0 = grind (is, arith, nat_tests) in
        let none : n ≡ 0 = omega (arith, zero) in
        choose-false (λ (x : Progress). nat_lt 0 (last_damage x)) (given last_damage (land_damage t)) stay p is ∙ ap (λ (k : ℕ). set_last_damage k p) (zero ∙ sym none)
        ∙ sym (choose-false (λ (x : Progress). nat_lt 0 n && is_living (member t x))
        (told (changed_member t (hurt_by n)) (λ f. events.Damage (who_in t f) (health_in t f) sources.Direct)) stay (set_last_damage n p)
        (ap (λ (k : ℕ). nat_lt 0 k && is_living (member t (set_last_damage n p))) none))

abbrev limit : Option ℕ → Member → ℕ
limit o m = limit_of (edge_of o m.hp) (cuts o)

pub land-alike : (t : Side) (q : Progress) (d : ℕ) → q.stopped ≡ false → d ≤ 65535 → q.field.last_damage ≤ 65535
    → min d (limit (conditions t q).substitute (member t q)) ≡ min q.field.last_damage (limit (conditions t q).substitute (member t q))
    → land t (set_last_damage d q) ≡ land t q
unfolding set_last_damage on_field with_last_damage
land-alike t q d goes small small' = by (conditions t q).substitute refl
  where
    by : (o : Option ℕ) → (conditions t q).substitute ≡ o → min d (limit o (member t q)) ≡ min q.field.last_damage (limit o (member t q)) → land t (set_last_damage d q) ≡ land t q
    by (Some h) is e = let same : d ≡ q.field.last_damage = omega (arith, e, small, small') in ap (λ (n : ℕ). land t (set_last_damage n q)) same
    by None is e =
        land-is t (set_last_damage d q) goes (ap (λ (c : ActiveConditions). c.substitute) (conditions-same t d q.field) ∙ is)
        ∙ ap (λ (m : Member). landed t (min d m.hp) q) (member-same t d q.field) ∙ ap (λ (n : ℕ). landed t n q) e ∙ sym (land-is t q goes is)

-- The hit test: a miss sets the last damage to 0, and a hit leaves it

miss-same : (s : Side) (d : ℕ) (x : Progress) → x.stopped ≡ false → miss s (set_last_damage d x) ≡ miss s x
unfolding miss set_missed on_action set_last_damage on_field with_last_damage
miss-same s d x goes =
    let ends = on_conditions s without_trapping in
    then-goes (set_missed true) (set_last_damage 0 ▸ ends) (set_last_damage d x) goes
    ∙ then-goes (set_last_damage 0) ends (set_missed true (set_last_damage d x)) goes
    ∙ sym (then-goes (set_missed true) (set_last_damage 0 ▸ ends) x goes ∙ then-goes (set_last_damage 0) ends (set_missed true x) goes)

abbrev Tested : Phase → ℕ → Progress → Type 0
Tested f d p =
    ((f (set_last_damage d p) ≡ set_last_damage d (f p)) × (((f p).field ≡ p.field) × ((f p).action.missed ≡ p.action.missed)))
    ⊎ (f (set_last_damage d p) ≡ f p)

hit-alike : (s : Side) (move : Move) (d : ℕ) (p : Progress) → p.stopped ≡ false → Tested (hit_or_miss s move) d p
unfolding hit_or_miss hit_test test_by given draw set_tested on_action set_last_damage on_field with_last_damage hits_below stay
hit-alike s move d p goes = shift (by (settled_hit_in s move p.field))
  where
    base : ℕ
    base = base_of s move p

    bound : ℕ
    bound = scaled_in s base p.field

    byte : ℕ
    byte = byte_at p.stream p.drawn

    x : Progress
    x = record (set_tested bound p) { drawn = p.drawn + 1 }

    drawn : (e : ℕ) → test_by s base None (set_last_damage e p) ≡ hits_below s bound byte (set_last_damage e x)
    drawn e =
        ap (λ (n : ℕ). (set_tested n ▸ draw (hits_below s n)) (set_last_damage e p)) (scaled-same s base e p.field)
        ∙ then-goes (set_tested bound) (draw (hits_below s bound)) (set_last_damage e p) goes

    shown : test_by s base None p ≡ hits_below s bound byte x
    shown = drawn p.field.last_damage

    below : (b : Bool) → nat_lt byte bound ≡ b → Tested (test_by s base None) d p
    below true is =
        let stays : (y : Progress) → hits_below s bound byte y ≡ y = λ y. choose-true (λ _. nat_lt byte bound) stay (miss s) y is in
        let at = shown ∙ stays x in
        inl ((drawn d ∙ stays (set_last_damage d x) ∙ ap (set_last_damage d) (sym at), (ap (λ (y : Progress). y.field) at, ap (λ (y : Progress). y.action.missed) at)))
    below false is =
        let misses : (y : Progress) → hits_below s bound byte y ≡ miss s y = λ y. choose-false (λ _. nat_lt byte bound) stay (miss s) y is in
        inr (drawn d ∙ misses (set_last_damage d x) ∙ miss-same s d x goes ∙ sym (shown ∙ misses x))

    by : (o : Option Bool) → Tested (test_by s base o) d p
    by (Some true) = inl ((refl, (refl, refl)))
    by (Some false) =
        inr (then-goes (set_tested base) (miss s) (set_last_damage d p) goes ∙ miss-same s d (set_tested base p) goes ∙ sym (then-goes (set_tested base) (miss s) p goes))
    by None = below (nat_lt byte bound) refl

    moved : hit_or_miss s move (set_last_damage d p) ≡ test_by s base (settled_hit_in s move p.field) (set_last_damage d p)
    moved =
        ap (λ (n : ℕ). test_by s n (settled_hit_in s move (with_last_damage d p.field)) (set_last_damage d p)) (base-same s move d p)
        ∙ ap (λ (o : Option Bool). test_by s base o (set_last_damage d p)) (settled-same s move d p.field)

    shift : Tested (test_by s base (settled_hit_in s move p.field)) d p → Tested (hit_or_miss s move) d p
    shift (inl t) = inl ((moved ∙ t.0, t.1))
    shift (inr e) = inr (moved ∙ e)

-- The strike

abbrev rest_of_hit : Side → Move → Phase
rest_of_hit s move =
    only (knocks_out move.effect) (note λ f. events.OneHitKnockOut) ▸ count_hit
    ▸ unless broke_substitute (hit_effect s move move.effect)
    ▸ unless (has_fallen (other s)) (build_rage (other s))

abbrev rest_of_hits : Side → Move → Phase
rest_of_hits s move = only (hits_more move.effect) (other_hits s move)

hits-alike : (s : Side) (move : Move) (q : Progress) (d : ℕ) → q.stopped ≡ false
    → land (other s) (set_last_damage d (note_first_hit s move q)) ≡ land (other s) (note_first_hit s move q)
    → hits s move (set_last_damage d q) ≡ hits s move q
unfolding hits hit_once set_last_damage on_field with_last_damage ◌▸◌
hits-alike s move q d goes same =
    let n = first-notes s move in
    let first = note_first_hit s move in
    let after = hit_once s move ▸ rest_of_hits s move in
    then-goes first after (set_last_damage d q) (n.goes (set_last_damage d q) ∙ goes)
    ∙ ap after (n.passes d q)
    ∙ ap (λ (x : Progress). unless_stopped (rest_of_hits s move) (unless_stopped (rest_of_hit s move) x)) same
    ∙ sym (then-goes first after q (n.goes q ∙ goes))

not_missed : (s : Side) (move : Move) (k : Phase) (x : Progress) → x.stopped ≡ false → x.action.missed ≡ false → (when has_missed (missed_move s move) ▸ k) x ≡ k x
unfolding stay
not_missed s move k x goes hit =
    let is = choose-false has_missed (missed_move s move) stay x hit in
    then-goes (when has_missed (missed_move s move)) k x (ap (λ (y : Progress). y.stopped) is ∙ goes) ∙ ap k is

strike-alike : (r : Ruling) (s : Side) (move : Move) (q q' : Progress) → AlikeDamage s q q' → strike r s move q' ≡ strike r s move q
unfolding strike ◌▸◌ set_last_damage on_field
strike-alike r s move q q' a =
    let n = first-notes s move in
    let first = note_first_hit s move q in
    let foe = other s in
    let under = subst (λ (f : Field). min a.damage (limit_in foe f) ≡ min f.last_damage (limit_in foe f)) (sym (n.leaves q)) a.alike in
    let small = subst (λ (f : Field). f.last_damage ≤ 65535) (sym (n.leaves q)) a.shown_most in
    let lands = land-alike foe first a.damage (n.goes q ∙ a.goes) a.most small under in
    let ends = unless_stopped (unless (λ p. lets_energy_go p || hits_end s p) (side_effect r s move move.effect)) in
    let after = hits s move ▸ unless (λ p. lets_energy_go p || hits_end s p) (side_effect r s move move.effect) in
    ap (strike r s move) a.changed
    ∙ not_missed s move after (set_last_damage a.damage q) a.goes a.hits
    ∙ ap ends (hits-alike s move q a.damage a.goes lands)
    ∙ sym (not_missed s move after q a.goes a.hits)

-- The hit test leads from damages with the same effect to one progress, or to damages with the same effect.
hit-like : (s : Side) (move : Move) (q r : Progress) → AlikeDamage s q r → (hit_or_miss s move q).stopped ≡ false
    → LikeDamage s (hit_or_miss s move q) (hit_or_miss s move r)
hit-like s move q r a goes = by (hit-alike s move a.damage q a.goes)
  where
    by : Tested (hit_or_miss s move) a.damage q → LikeDamage s (hit_or_miss s move q) (hit_or_miss s move r)
    by (inl t) = inr (record {
      damage = a.damage;
      changed = ap (hit_or_miss s move) a.changed ∙ t.0;
      alike = subst (λ (f : Field). min a.damage (limit_in (other s) f) ≡ min f.last_damage (limit_in (other s) f)) (sym t.1.0) a.alike;
      most = a.most;
      shown_most = subst (λ (f : Field). f.last_damage ≤ 65535) (sym t.1.0) a.shown_most;
      hits = t.1.1 ∙ a.hits;
      goes = goes;
    })
    by (inr e) = inl (sym (ap (hit_or_miss s move) a.changed ∙ e))

-- Damage that went through a factor, up to the limit. Without damage the move misses, and both have 0.
pub like-of : (s : Side) (q r : Progress) (damage dealt : ℕ) → r ≡ set_last_damage dealt q
    → min dealt (limit_in (other s) q.field) ≡ min q.field.last_damage (limit_in (other s) q.field)
    → dealt ≤ damage → q.field.last_damage ≤ damage → damage ≤ 65535 → q.action.missed ≡ (damage == 0) → q.stopped ≡ false → LikeDamage s q r
unfolding set_last_damage on_field with_last_damage
like-of s q r damage dealt changed alike most shown small missed goes = by (damage == 0) refl
  where
    by : (y : Bool) → (damage == 0) ≡ y → LikeDamage s q r
    by true is =
        let zero : damage ≡ 0 = grind (is, arith, nat_tests) in
        let same : dealt ≡ q.field.last_damage = omega (arith, zero, most, shown) in
        inl (sym (changed ∙ ap (λ (n : ℕ). set_last_damage n q) same))
    by false is = inr (record {
      damage = dealt;
      changed = changed;
      alike = alike;
      most = omega (arith, most, small);
      shown_most = omega (arith, shown, small);
      hits = missed ∙ is;
      goes = goes;
    })

-- A fault leaves nothing that differs.
pub like-halted : (s : Side) (q r : Progress) → LikeDamage s q r → q.stopped ≡ true → q ≡ r
like-halted s q r (inl same) ends = same
like-halted s q r (inr a) ends = absurd (false≢true (sym a.goes ∙ ends))

pub like-goes : (s : Side) (q r : Progress) → LikeDamage s q r → q.stopped ≡ false → r.stopped ≡ false
unfolding set_last_damage on_field
like-goes s q r (inl same) goes = ap (λ (x : Progress). x.stopped) (sym same) ∙ goes
like-goes s q r (inr a) goes = ap (λ (x : Progress). x.stopped) a.changed ∙ goes

pub tested-like : (s : Side) (move : Move) (q r : Progress) → LikeDamage s q r → (hit_or_miss s move q).stopped ≡ false
    → LikeDamage s (hit_or_miss s move q) (hit_or_miss s move r)
tested-like s move q r (inl same) goes = inl (ap (hit_or_miss s move) same)
tested-like s move q r (inr a) goes = hit-like s move q r a goes

-- A move without a late effect goes straight to its strike.
pub late-none : (r : Ruling) (s : Side) (move : Move) (q : Progress) → is_late move.effect ≡ false → late_part r s move q ≡ q
unfolding stay
late-none r s move q is = by (lets_energy_go q) refl
  where
    late : Phase
    late = late_effect r s move move.effect ▸ stop

    by : (b : Bool) → lets_energy_go q ≡ b → late_part r s move q ≡ q
    by true e = choose-true lets_energy_go stay (only (is_late move.effect) late) q e
    by false e = choose-false lets_energy_go stay (only (is_late move.effect) late) q e ∙ choose-false (λ _. is_late move.effect) late stay q is

pub late-stops : (r : Ruling) (s : Side) (move : Move) (q : Progress) → q.stopped ≡ false → (late_part r s move q).stopped ≡ true → is_late move.effect ≡ true
late-stops r s move q goes ends = by (is_late move.effect) refl
  where
    by : (b : Bool) → is_late move.effect ≡ b → is_late move.effect ≡ true
    by true e = e
    by false e = absurd (false≢true (sym goes ∙ ap (λ (x : Progress). x.stopped) (sym (late-none r s move q e)) ∙ ends))

pub struck-like : (r : Ruling) (s : Side) (move : Move) (q q' : Progress) → LikeUsual s move q q' → q.stopped ≡ false → (late_part r s move q).stopped ≡ false
    → (late_part r s move ▸ strike r s move) q' ≡ strike r s move (late_part r s move q)
struck-like r s move q q' like goes on = by like.0
  where
    late : Phase
    late = late_part r s move

    same : q ≡ q' → (late ▸ strike r s move) q' ≡ strike r s move (late q)
    same e = ap (late ▸ strike r s move) (sym e) ∙ then-goes late (strike r s move) q on

    other_damage : AlikeDamage s q q' → (b : Bool) → is_late move.effect ≡ b → (late ▸ strike r s move) q' ≡ strike r s move (late q)
    other_damage a true e = same (like.1 e)
    other_damage a false e =
        let none = late-none r s move q' e in
        then-goes late (strike r s move) q' (ap (λ (x : Progress). x.stopped) none ∙ like-goes s q q' (inr a) goes)
        ∙ ap (strike r s move) none ∙ strike-alike r s move q q' a ∙ ap (strike r s move) (sym (late-none r s move q e))

    by : LikeDamage s q q' → (late ▸ strike r s move) q' ≡ strike r s move (late q)
    by (inl e) = same e
    by (inr a) = other_damage a (is_late move.effect) refl

-- What is planned stays so with another last damage.
pub like-valid : (terms : Terms) (plan : Side → Plan) (s : Side) (q r : Progress) → LikeDamage s q r → Follows terms plan r → Follows terms plan q
unfolding set_last_damage on_field with_last_damage
like-valid terms plan s q r (inl same) v = subst (λ (x : Progress). Follows terms plan x) (sym same) v
like-valid terms plan s q r (inr a) v =
    let changed = subst (λ (x : Progress). Follows terms plan x) a.changed v in
    ((planned-sound terms plan).damage q.field.last_damage a.shown_most).spared (with_last_damage a.damage q.field) q.action q.stream changed
