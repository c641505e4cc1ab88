-- The bench: how many members of a party live in addition to the one that is out. Actions, switches and turns never
-- make it longer.
use Rattle.std.proofs.Common.{Bool, List, [], ap, arith, false, get_or, get_or-set_other, inl, inr, length, refl, set, suc, sym, true, zero, ℕ, ◌+◌, ◌-◌, ◌<◌, ◌∙◌, ◌∷◌, ◌≡◌, ◌≢◌, ◌≤◌, ◌⊎◌}
use Rattle.std.proofs.lemmas.Bool.Decides.{eqb_tells}
use Rattle.gen1_machine.specs.declared.side.Side.{Side}
use Rattle.gen1_machine.specs.declared.side.Side.TheVariants.{One, Two}
use Rattle.gen1_stats.specs.Members.{is_living, nobody, Member}
use Rattle.gen1_machine.specs.State.{changed_active, changed_member, member_at, with_last_damage, with_member, with_outcome, Active, Field, Party, changed_conditions, Terms}
use Rattle.gen1_rolls.specs.Streams.{Stream}
use Rattle.gen1_machine.specs.Progress.{Action, on_active, on_conditions, on_field, Phase}
use Rattle.gen1_machine.proofs.Free.{Free, LeavesPlace, act-free, begin-free, conditions-spared, penalty-leaves, picked-leaves, residual-free, ruling-free}
use Rattle.gen1_machine.specs.declared.side.Choice.{Choice}
use Rattle.gen1_machine.specs.declared.side.Pick.{Pick}
use Rattle.gen1_machine.specs.Sides.{other}
use Rattle.gen1_machine.specs.Conditions.{without_flinch, without_trapping}
use Rattle.gen1_machine.specs.Ruling.{ruling_of}
use Rattle.gen1_machine.specs.SwitchingIn.{send_out, sent_out, start, with_sent_out}
use Rattle.gen1_machine.specs.TurnOrder.{in_order, in_order_of_rank, in_order_of_speed, toss}
use Rattle.gen1_machine.specs.Turn.{both_act, both_pick, both_switch, do_part, do_parts, end_spent_trapping, end_turn, one_picks, play_turn, set_picked, turn, Acts, Part, Sends, Suffers}
use Rattle.gen1_machine.specs.Falls.{faint_if_fallen, faint_in_order, the_fallen_faint}
use Rattle.gen1_machine.proofs.Keeps.{choose-keeps, draw-keeps, given-keeps, keeps_rules, note-keeps, on_active-keeps, on_conditions-keeps, stay-keeps, then-keeps, Keeps, Spares, choose-leads, given-leads, keeps-leads, leads-weaker, stay-leads, then-leads, Leads}
use Rattle.gen1_machine.specs.declared.side.Choice.TheVariants as choices

-- The bench: how many members of a party live in addition to the one that is out. An action leaves the bench as it
-- is. A living member that replaces a fallen one makes it shorter by one.

unfoldable pub alive : Bool → ℕ
alive true = 1
alive false = 0

unfoldable pub living : List Member → ℕ
living [] = 0
living (m ∷ members) = alive (is_living m) + living members

-- The living members, without the one at an index.
unfoldable pub living_but : ℕ → List Member → ℕ
living_but i [] = 0
living_but zero (m ∷ members) = living members
living_but (suc i) (m ∷ members) = alive (is_living m) + living_but i members

abbrev pub bench : Party → ℕ
bench t = living_but (t.active.place - 1) t.members

bench-set : (members : List Member) (i : ℕ) (m : Member) → living_but i (set members i m) ≡ living_but i members
unfolding living_but
bench-set [] i m = refl
bench-set (x ∷ members) zero m = refl
bench-set (x ∷ members) (suc i) m = ap (λ n. alive (is_living x) + n) (bench-set members i m)

living-is : (members : List Member) (i : ℕ) → living_but i members + alive (is_living (get_or members i nobody)) ≡ living members
unfolding living_but living alive
living-is [] i = refl
living-is (x ∷ members) zero = omega arith
living-is (x ∷ members) (suc i) = omega (arith, living-is members i)

alive-most : (b : Bool) → alive b ≤ 1
unfolding alive
alive-most true = omega arith
alive-most false = omega arith

alive-true : (b : Bool) → b ≡ true → alive b ≡ 1
unfolding alive
alive-true b e = rw e refl

alive-false : (b : Bool) → b ≡ false → alive b ≡ 0
unfolding alive
alive-false b e = rw e refl

living-most : (members : List Member) → living members ≤ length members
unfolding living
living-most [] = omega arith
living-most (m ∷ members) = omega (arith, alive-most (is_living m), living-most members)

pub bench-most : (i : ℕ) (members : List Member) → i < length members → living_but i members + 1 ≤ length members
unfolding living_but
bench-most i [] h = absurd (omega arith)
bench-most zero (m ∷ members) h = omega (arith, living-most members)
bench-most (suc i) (m ∷ members) h = omega (arith, alive-most (is_living m), bench-most i members (omega arith))

-- With a living member out, the bench isn't longer than with any other, and one shorter than with a fallen one

lives-fewer : (members : List Member) (i j : ℕ) → is_living (get_or members j nobody) ≡ true → living_but j members ≤ living_but i members
lives-fewer members i j lives =
    omega (
      arith,
      living-is members i,
      living-is members j,
      alive-true (is_living (get_or members j nobody)) lives,
      alive-most (is_living (get_or members i nobody)),
    )

comes-shorter : (members : List Member) (i j : ℕ) → is_living (get_or members j nobody) ≡ true
    → is_living (get_or members i nobody) ≡ false → 1 + living_but j members ≤ living_but i members
comes-shorter members i j lives fell =
    omega (
      arith,
      living-is members i,
      living-is members j,
      alive-true (is_living (get_or members j nobody)) lives,
      alive-false (is_living (get_or members i nobody)) fell,
    )

-- Facts of a party that no action touches

pub record FreeParty (B : Party → Type 0) : Type 0 where
  pub member : (t : Party) (m : Member) → B t → B (with_member t.active.place m t)
  pub active : (t : Party) (a : Active) → a.place ≡ t.active.place → B t → B (record t { active = a })

-- The same member is out, and the same other members are on the bench.
pub record Alike (before t : Party) : Type 0 where
  pub place : t.active.place ≡ before.active.place
  pub bench : bench t ≡ bench before
  pub others : (i : ℕ) → i ≢ (before.active.place - 1) → get_or t.members i nobody ≡ get_or before.members i nobody

pub alike-itself : (t : Party) → Alike t t
alike-itself t = record { place = refl; bench = refl; others = λ i differs. refl }

pub alike-free : (before : Party) → FreeParty (Alike before)
alike-free before = record { member = by_member; active = by_active }
  where
    by_member : (t : Party) (m : Member) → Alike before t → Alike before (with_member t.active.place m t)
    by_member t m h = record {
      place = h.place;
      bench = bench-set t.members (t.active.place - 1) m ∙ h.bench;
      others = λ i differs. get_or-set_other t.members (t.active.place - 1) i m nobody (rw h.place differs) ∙ h.others i differs;
    }

    by_active : (t : Party) (a : Active) → a.place ≡ t.active.place → Alike before t → Alike before (record t { active = a })
    by_active t a e h = record { place = e ∙ h.place; bench = rw e h.bench; others = h.others }

-- At most this many members are on the bench.
pub record AtMost (n : ℕ) (t : Party) : Type 0 where
  pub most : bench t ≤ n

pub most-free : (n : ℕ) → FreeParty (AtMost n)
most-free n = record {
  member = λ t m h. record { most = rw (bench-set t.members (t.active.place - 1) m) h.most };
  active = λ t a e h. record { most = rw e h.most };
}

pub alike-most : (before t : Party) → Alike before t → AtMost (bench before) t
alike-most before t h = record { most = omega (arith, h.bench) }

-- A member that may be sent out is out already, or alive.
abbrev pub MaySend : ℕ → Party → Type 0
MaySend place t = ((place - 1) ≡ (t.active.place - 1)) ⊎ (is_living (member_at place t) ≡ true)

same-or-not : (i j : ℕ) → (i ≡ j) ⊎ (i ≢ j)
same-or-not i j = elim (eqb_tells i j) [ inl e ↦ inl e.1 | inr e ↦ inr e.1 ]

lives-still : (before t : Party) (place : ℕ) → Alike before t → is_living (member_at place before) ≡ true → MaySend place t
lives-still before t place h lives = by (same-or-not (place - 1) (before.active.place - 1))
  where
    by : ((place - 1) ≡ (before.active.place - 1)) ⊎ ((place - 1) ≢ (before.active.place - 1)) → MaySend place t
    by (inl same) = inl (rw h.place same)
    by (inr differs) = inr (ap is_living (h.others (place - 1) differs) ∙ lives)

-- The bench after a member is sent out.
pub sent-most : (before t : Party) (a : Active) (place : ℕ) → a.place ≡ place → Alike before t → MaySend place before
    → AtMost (bench before) (record t { active = a })
sent-most before t a place e h (inl same) =
    record { most = rw (e, same) (omega (arith, h.bench, ap (λ n. living_but (n - 1) t.members) (sym h.place))) }
sent-most before t a place e h (inr lives) = by (lives-still before t place h lives)
  where
    by : MaySend place t → AtMost (bench before) (record t { active = a })
    by (inl same) = record { most = rw (e, same) (omega (arith, h.bench)) }
    by (inr still) = record { most = rw e (omega (arith, h.bench, lives-fewer t.members (t.active.place - 1) (place - 1) still)) }

-- The bench is one shorter if that member lives and the one before it had fallen.
pub sent-shorter : (t : Party) (a : Active) (place : ℕ) → a.place ≡ place → is_living (member_at place t) ≡ true
    → is_living (member_at t.active.place t) ≡ false → AtMost (bench t - 1) (record t { active = a })
sent-shorter t a place e lives fell =
    record { most = rw e (omega (arith, comes-shorter t.members (t.active.place - 1) (place - 1) lives fell)) }

-- If a member lives while the one that is out has fallen, the bench isn't empty.
pub lives-behind : (t : Party) (place : ℕ) → is_living (member_at place t) ≡ true → is_living (member_at t.active.place t) ≡ false → 1 ≤ bench t
lives-behind t place lives fell = omega (arith, comes-shorter t.members (t.active.place - 1) (place - 1) lives fell)

-- A field at a turn, with a fact of each party

pub record Between (A B : Party → Type 0) (turn : ℕ) (f : Field) (a : Action) (w : Stream) : Type 0 where
  pub turned : f.turn ≡ turn
  pub one : A f.one
  pub two : B f.two

pub between-free : {A B : Party → Type 0} (turn : ℕ) → FreeParty A → FreeParty B → Free (Between A B turn)
unfolding changed_member changed_active with_last_damage with_outcome
between-free {A} {B} turn a b = record {
  member = λ s change. record { spared = λ f x w h. by_member s change f x w h };
  active = λ s change leaves. record { spared = λ f x w h. by_active s change leaves f x w h };
  damage = λ n. record { spared = λ f x w h. record { turned = h.turned; one = h.one; two = h.two } };
  action = λ change. record { spared = λ f x w h. record { turned = h.turned; one = h.one; two = h.two } };
  outcome = λ n. record { spared = λ f x w h. record { turned = h.turned; one = h.one; two = h.two } };
}
  where
    by_member : (s : Side) (change : Member → Member) (f : Field) (x : Action) (w : Stream) → Between A B turn f x w → Between A B turn (changed_member s change f) x w
    by_member One change f x w h = record { turned = h.turned; one = a.member f.one (change (member_at f.one.active.place f.one)) h.one; two = h.two }
    by_member Two change f x w h = record { turned = h.turned; one = h.one; two = b.member f.two (change (member_at f.two.active.place f.two)) h.two }

    by_active : (s : Side) (change : Active → Active) → LeavesPlace change → (f : Field) (x : Action) (w : Stream) → Between A B turn f x w → Between A B turn (changed_active s change f) x w
    by_active One change leaves f x w h =
        record { turned = h.turned; one = a.active f.one (change f.one.active) (leaves.left f.one.active) h.one; two = h.two }
    by_active Two change leaves f x w h =
        record { turned = h.turned; one = h.one; two = b.active f.two (change f.two.active) (leaves.left f.two.active) h.two }

pub between-weaker : {A B C D : Party → Type 0} {turn : ℕ} → ((t : Party) → A t → C t) → ((t : Party) → B t → D t)
    → (f : Field) (a : Action) (stream : Stream) → Between A B turn f a stream → Between C D turn f a stream
between-weaker v w f a stream h = record { turned = h.turned; one = v f.one h.one; two = w f.two h.two }

-- Parts of a turn that send out no member, and what follows them

module _ {P : Field → Action → Stream → Type 0} (free : Free P) (terms : Terms) where
  pub part-acts : (s : Side) (pick : Pick) → Keeps P (do_part (ruling_of terms) (Acts s pick))
  unfolding do_part
  part-acts s pick = then-keeps (begin-free free s) (choose-keeps _ stay-keeps (act-free free (ruling_of terms) s pick (ruling-free free terms)))

  pub part-suffers : (s : Side) → Keeps P (do_part (ruling_of terms) (Suffers s))
  unfolding do_part
  part-suffers s = residual-free free s

  pub end_spent-free : (s : Side) → Keeps P (end_spent_trapping s)
  unfolding end_spent_trapping
  end_spent-free s = choose-keeps _ (on_conditions-keeps s _ (conditions-spared free s _)) stay-keeps

  pub parts-end : Keeps P (do_parts (ruling_of terms) [])
  unfolding do_parts end_turn
  parts-end = then-keeps (end_spent-free One) (end_spent-free Two)

  parts-more : (part : Part) (rest : List Part) → Keeps P (do_part (ruling_of terms) part) → Keeps P (do_parts (ruling_of terms) rest)
      → Keeps P (do_parts (ruling_of terms) (part ∷ rest))
  unfolding do_parts
  parts-more part rest k l = then-keeps k (choose-keeps _ stay-keeps l)

  suffers-end : (s : Side) → Keeps P (do_parts (ruling_of terms) (Suffers s ∷ []))
  suffers-end s = parts-more _ _ (part-suffers s) parts-end

  acts-end : (s : Side) (pick : Pick) → Keeps P (do_parts (ruling_of terms) (Acts s pick ∷ Suffers s ∷ []))
  acts-end s pick = parts-more _ _ (part-acts s pick) (suffers-end s)

  pub suffers_acts-end : (t s : Side) (pick : Pick) → Keeps P (do_parts (ruling_of terms) (Suffers t ∷ Acts s pick ∷ Suffers s ∷ []))
  suffers_acts-end t s pick = parts-more _ _ (part-suffers t) (acts-end s pick)

  both_act-free : (one two : Pick) (s : Side) → Keeps P (do_parts (ruling_of terms) (both_act one two s))
  both_act-free one two s = parts-more _ _ (part-acts s _) (suffers_acts-end s (other s) _)

  pub set_picked-free : (s : Side) (pick : Pick) → Keeps P (set_picked s pick)
  unfolding set_picked
  set_picked-free s pick = given-keeps _ (λ a. on_active-keeps s _ (free.active s _ (picked-leaves _)))

  toss-free : (begins : Side → Phase) (b : ℕ) → ((s : Side) → Keeps P (begins s)) → Keeps P (toss begins b)
  unfolding toss
  toss-free begins b k = choose-keeps _ (k One) (k Two)

  by_speed-free : (begins : Side → Phase) → ((s : Side) → Keeps P (begins s)) → Keeps P (in_order_of_speed begins)
  unfolding in_order_of_speed
  by_speed-free begins k = choose-keeps _ (k One) (choose-keeps _ (k Two) (draw-keeps (λ b. toss-free begins b k)))

  by_rank-free : (one two : ℕ) (begins : Side → Phase) → ((s : Side) → Keeps P (begins s)) → Keeps P (in_order_of_rank one two begins)
  unfolding in_order_of_rank
  by_rank-free one two begins k = choose-keeps _ (k One) (choose-keeps _ (k Two) (by_speed-free begins k))

  in_order-free : (begins : Side → Phase) → ((s : Side) → Keeps P (begins s)) → Keeps P (in_order begins)
  unfolding in_order
  in_order-free begins k = given-keeps _ (λ one. given-keeps _ (λ two. by_rank-free one two begins k))

  both_pick-free : (one two : Pick) → Keeps P (both_pick (ruling_of terms) one two)
  unfolding both_pick
  both_pick-free one two =
      then-keeps (set_picked-free One one) (then-keeps (set_picked-free Two two) (in_order-free _ (λ s. both_act-free one two s)))

  faints-free : (s : Side) → Keeps P (faint_if_fallen s)
  unfolding faint_if_fallen
  faints-free s = search (keeps_rules, free.member)

  pub the_fallen_faint-free : Keeps P the_fallen_faint
  unfolding the_fallen_faint faint_in_order
  the_fallen_faint-free = given-keeps _ (λ s. then-keeps (faints-free (other s)) (faints-free s))

-- A member is sent out

pub sent-place : (place : ℕ) (m : Member) → (sent_out place m).place ≡ place
sent-place place m = (penalty-leaves m.status).left _

module _ {A B C : Party → Type 0} (turn place : ℕ) (free : FreeParty B)
    (sends : (t : Party) (a : Active) → a.place ≡ place → A t → C (record t { active = a })) where
  untrapped-two : Spares (Between C B turn) (changed_conditions Two without_trapping)
  unfolding changed_conditions changed_active
  untrapped-two = record { spared = λ f x w h. record { turned = h.turned; one = h.one; two = free.active f.two _ refl h.two } }

  pub send_one : Leads (Between A B turn) (Between C B turn) (send_out One place)
  unfolding send_out on_active on_field changed_active with_sent_out
  send_one = then-leads
      (given-leads _ (λ m. record { led = λ p h. record { turned = h.turned; one = sends p.field.one _ (sent-place place m) h.one; two = h.two } }))
      (keeps-leads (then-keeps (on_conditions-keeps Two _ untrapped-two) (note-keeps _))) (λ f x w h. h)

  untrapped-one : Spares (Between B C turn) (changed_conditions One without_trapping)
  unfolding changed_conditions changed_active
  untrapped-one = record { spared = λ f x w h. record { turned = h.turned; one = free.active f.one _ refl h.one; two = h.two } }

  pub send_two : Leads (Between B A turn) (Between B C turn) (send_out Two place)
  unfolding send_out on_active on_field changed_active with_sent_out
  send_two = then-leads
      (given-leads _ (λ m. record { led = λ p h. record { turned = h.turned; one = h.one; two = sends p.field.two _ (sent-place place m) h.two } }))
      (keeps-leads (then-keeps (on_conditions-keeps One _ untrapped-one) (note-keeps _))) (λ f x w h. h)

-- A choice implies that its member may be sent out.
abbrev pub Promises : Choice → Party → Type 0
Promises (choices.Switch place) t = MaySend place t
Promises _ t = Unit {0}

-- One side after the other, with a fact of the other party

module _ {B : Party → Type 0} (terms : Terms) (n place : ℕ) (free : FreeParty B) (before : Party) (may : MaySend place before) where
  one-sends : Leads (Between (Alike before) B n) (Between (AtMost (bench before)) B n) (do_part (ruling_of terms) (Sends One place))
  unfolding do_part
  one-sends = then-leads
      (keeps-leads (begin-free (between-free n (alike-free before) free) One))
      (send_one n place free (λ t a e h. sent-most before t a place e h may))
      (between-weaker (alike-most before) (λ t h. h))

  two-sends : Leads (Between B (Alike before) n) (Between B (AtMost (bench before)) n) (do_part (ruling_of terms) (Sends Two place))
  unfolding do_part
  two-sends = then-leads
      (keeps-leads (begin-free (between-free n free (alike-free before)) Two))
      (send_two n place free (λ t a e h. sent-most before t a place e h may))
      (between-weaker (λ t h. h) (alike-most before))

-- A turn keeps its number, and makes no bench longer

abbrev pub Begins : Party → Party → ℕ → Field → Action → Stream → Type 0
Begins one two n = Between (Alike one) (Alike two) n

abbrev pub NoMore : Party → Party → ℕ → Field → Action → Stream → Type 0
NoMore one two n = Between (AtMost (bench one)) (AtMost (bench two)) n

module _ (terms : Terms) (one two : Party) (n : ℕ) where
  pub begins-free : Free (Begins one two n)
  begins-free = between-free n (alike-free one) (alike-free two)

  pub begins-no_more : (f : Field) (a : Action) (w : Stream) → Begins one two n f a w → NoMore one two n f a w
  begins-no_more = between-weaker (alike-most one) (alike-most two)

  both_pick-leads : (picks_one picks_two : Pick) → Leads (Begins one two n) (NoMore one two n) (both_pick (ruling_of terms) picks_one picks_two)
  both_pick-leads picks_one picks_two = leads-weaker (keeps-leads (both_pick-free begins-free terms picks_one picks_two)) begins-no_more

  -- The turn is cut short, or its rest follows.
  parts-lead : {P Q R : Field → Action → Stream → Type 0} (part : Part) (rest : List Part) → Leads P Q (do_part (ruling_of terms) part)
      → ((f : Field) (a : Action) (w : Stream) → Q f a w → R f a w) → Leads Q R (do_parts (ruling_of terms) rest) → Leads P R (do_parts (ruling_of terms) (part ∷ rest))
  unfolding do_parts
  parts-lead part rest k w l = then-leads k (choose-leads _ (stay-leads w) l) w

  other_of : Side → Party
  other_of One = two
  other_of Two = one

  one_picks-leads : (s : Side) (pick : Pick) (place : ℕ) → MaySend place (other_of s)
      → Leads (Begins one two n) (NoMore one two n) (one_picks (ruling_of terms) s pick place)
  unfolding one_picks other_of
  one_picks-leads One pick place may = then-leads
      (keeps-leads (set_picked-free begins-free terms One pick))
      (parts-lead _ _ (two-sends terms n place (alike-free one) two may) (between-weaker (alike-most one) (λ t h. h))
      (leads-weaker (keeps-leads (suffers_acts-end (between-free n (alike-free one) (most-free (bench two))) terms Two One pick)) (between-weaker (alike-most one) (λ t h. h))))
      begins-no_more
  one_picks-leads Two pick place may = then-leads
      (keeps-leads (set_picked-free begins-free terms Two pick))
      (parts-lead _ _ (one-sends terms n place (alike-free two) one may) (between-weaker (λ t h. h) (alike-most two))
      (leads-weaker (keeps-leads (suffers_acts-end (between-free n (most-free (bench one)) (alike-free two)) terms One Two pick)) (between-weaker (λ t h. h) (alike-most two))))
      begins-no_more

  both_switch-leads : (place_one place_two : ℕ) → MaySend place_one one → MaySend place_two two
      → Leads (Begins one two n) (NoMore one two n) (do_parts (ruling_of terms) (both_switch place_one place_two))
  both_switch-leads place_one place_two may_one may_two =
      let weaker = between-weaker (λ t h. h) (alike-most two) in
      parts-lead _ _ (one-sends terms n place_one (alike-free two) one may_one) weaker
      (parts-lead _ _ (keeps-leads (part-suffers (between-free n (most-free (bench one)) (alike-free two)) terms One)) weaker
      (parts-lead _ _ (two-sends terms n place_two (most-free (bench one)) two may_two) (λ f x w h. h)
      (keeps-leads (suffers-end (between-free n (most-free (bench one)) (most-free (bench two))) terms Two))))

  play_turn-leads : (choice_one choice_two : Choice) → Promises choice_one one → Promises choice_two two
      → Leads (Begins one two n) (NoMore one two n) (play_turn (ruling_of terms) choice_one choice_two)
  unfolding play_turn other_of
  play_turn-leads (choices.Move j) (choices.Move k) a b = given-leads _ (λ x. given-leads _ (λ y. both_pick-leads x y))
  play_turn-leads (choices.Move j) (choices.Switch place) a b = given-leads _ (λ pick. one_picks-leads One pick place b)
  play_turn-leads (choices.Switch place) (choices.Move k) a b = given-leads _ (λ pick. one_picks-leads Two pick place a)
  play_turn-leads (choices.Switch x) (choices.Switch y) a b = both_switch-leads x y a b
  play_turn-leads _ _ a b = stay-leads begins-no_more

  flinch-free : (s : Side) → Keeps (Begins one two n) (on_conditions s without_flinch)
  flinch-free s = on_conditions-keeps s _ (conditions-spared begins-free s _)

  pub turn-leads : (choice_one choice_two : Choice) → Promises choice_one one → Promises choice_two two
      → Leads (Begins one two n) (NoMore one two n) (turn (ruling_of terms) choice_one choice_two)
  unfolding turn
  turn-leads choice_one choice_two a b = then-leads (keeps-leads (flinch-free One))
      (then-leads (keeps-leads (flinch-free Two)) (play_turn-leads choice_one choice_two a b) begins-no_more) begins-no_more

  -- The first members come out.
  pub start-leads : one.active.place ≡ 0 → two.active.place ≡ 0 → Leads (Begins one two n) (NoMore one two n) start
  unfolding start
  start-leads a b = then-leads
      (send_one n 1 (alike-free two) (λ t active e h. sent-most one t active 1 e h (inl (rw a refl))))
      (send_two n 1 (most-free (bench one)) (λ t active e h. sent-most two t active 1 e h (inl (rw b refl))))
      (between-weaker (λ t h. h) (alike-most two))
