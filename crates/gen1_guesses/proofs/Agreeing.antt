-- A battle that fits what a player knows after a run agrees with it.
use Rattle.gen1_machine.specs.LogBytes.{kind_or_0}
use Rattle.gen1_player.proofs.Sleeping.{sleepers_agree}
use Rattle.gen1_player.specs.Player.{known_at}
use Rattle.std.proofs.Common.{Bool, List, Option, Some, ap, arith, cond, false, inl, inr, is_some, length, refl, slice_index_or, subst, sym, true, unwrap_or, ℕ, ◌*◌, ◌+◌, ◌-◌, ◌<◌, ◌==◌, ◌∙◌, ◌≡◌, ◌≢◌, ◌≤◌, ◌⊎◌, suc, zero}
use Rattle.std.specs.Prelude.{None, nat_lt, if◌then◌else◌, nat_le, ◌&&◌}
use Rattle.std.proofs.lemmas.Bool.{false≢true}
use Rattle.std.proofs.lemmas.Bool.Decides.{eqb_tells, nat_tests}
use Rattle.std.proofs.lemmas.List.{get_or_past}
use Rattle.std.proofs.lemmas.List.Elements.{All-get_or}
use Rattle.gen1_tables.specs.Effects.{traps}
use Rattle.gen1_stats.specs.Members.{is_living, nobody, IsMember, Member}
use Rattle.gen1_machine.specs.declared.side.Side.{Side}
use Rattle.gen1_machine.specs.declared.side.Side.TheVariants.{One, Two}
use Rattle.gen1_machine.specs.declared.terms.Outcome.{Outcome}
use Rattle.gen1_machine.specs.declared.terms.Outcome.TheVariants as outcomes
use Rattle.gen1_machine.specs.Layout.{outcome_byte}
use Rattle.gen1_machine.specs.Numbers.{side_number}
use Rattle.gen1_machine.specs.Rules.{bit_of, bits_of_rules, rules_of, Rules}
use Rattle.gen1_machine.specs.Sides.{other}
use Rattle.gen1_machine.specs.State.{active_in, conditions_in, first_state, member_at, member_in, party, underway_in, Active, Field, Party, State, Terms}
use Rattle.gen1_machine.specs.Step.{run, Ran}
use Rattle.gen1_machine.specs.Valid.{IsMembersUnder, IsMemberUnder, IsStatus, IsParty, IsStarted, IsState, IsTerms, IsUnstarted}
use Rattle.gen1_machine.specs.View.{shows, side_shows, Shown}
use Rattle.gen1_machine.proofs.ValidStates.{first_states_are_valid, states_stay_valid}
use Rattle.gen1_player.specs.declared.teller.HpForm.{HpForm}
use Rattle.gen1_player.specs.declared.teller.HpForm.TheVariants.{Bar, Exact, Hundredths}
use Rattle.gen1_player.specs.declared.own.OwnSide.{OwnSide}
use Rattle.gen1_player.specs.declared.player.Player.{Player}
use Rattle.gen1_player.specs.declared.public.Public.{Public}
use Rattle.gen1_player.specs.declared.public_side.PublicSide.{PublicSide}
use Rattle.gen1_player.specs.declared.seen.Seen.{Seen}
use Rattle.gen1_player.specs.declared.teller.Teller.{Teller}
use Rattle.gen1_player.specs.OwnSide.{own_active, own_side, nobody_out as none_out, plain_out, plain_side}
use Rattle.gen1_player.specs.Public.{on_public_side, public_side, seen_at}
use Rattle.gen1_player.specs.Telling.{form_number, form_of, meets_all, told_in}
use Rattle.gen1_player.specs.True.{as_known, current_move_of, IsMoveOf, events_in, first_teller, foe_as_told, is_fault, own_as_known, public_of, team_of, with_hp_told, AgreesWith, BothDo, IsSeen, IsTold, SideAgrees, SideDoes, SideHasAppeared, SideIsTold, SideSleeps, own_known}
use Rattle.gen1_player.proofs.Conditions.{conditions_agree}
use Rattle.gen1_player.proofs.DeedRuns.{actives_agree}
use Rattle.gen1_player.proofs.Retellings.{tells_hp}
use Rattle.gen1_player.proofs.Lenses.{is-some, is-zero}
use Rattle.gen1_player.proofs.Members.{all-tellable, members_agree}
use Rattle.gen1_player.proofs.Placing.{agrees}
use Rattle.gen1_player.proofs.Slots.{meets_all-pixels}
use Rattle.gen1_player.proofs.ToldPublic.{holds, met, FoeKept, Known}
use Rattle.gen1_states.specs.Plain.{on as on_if, no_member}
use Rattle.gen1_states.specs.declared.plain.MemberState.{MemberState}
use Rattle.gen1_guesses.specs.Forks.{AgreesWithFork, ForksAgree, IsFork, IsGuess, HasPlayer, IsToldAs, TrueHpFits, clause_of, foe_part, own_part, allows_max, is_on, fresh_members, hp_of, seen_in}
use Rattle.gen1_guesses.specs.declared.guess.Guess.{Guess}
use Rattle.gen1_guesses.proofs.OwnForked.{short-of, IsShort, appeared-alike, does-alike, lives-alike, own_poison, shows_at, told-alike, view-alike, Alike, own_alike, own_plain, same_shown, slot_of_own, stats_of_own, Shows, shows as shows_own, own_sleeps}
use Rattle.gen1_guesses.proofs.FoeForked.{counted_if, foe_appeared, foe_does, foe_place, foe_told, foe_view, traps_on, and_same, exact, flag_of, guess_fits, on_is, told_there, Fits, Foe, IsFlag, foe_sleeps}
use Rattle.gen1_guesses.proofs.ForkedStates.{fits, has_sides, HasSides, below_or, holds_side, party_valid, started, Holds}
use Rattle.gen1_guesses.proofs.KnownFoes.{current_known, explained, foe_of_run, foe_plain, as_told, is_teller, numbered, out_told, teller_of, IsNumbered, forks_tell_hp, told_causes, told_short, known_told}

-- One side of what holds of both

told_of : (s : Side) (p : Public) (f : Field) → IsTold p f → SideIsTold (public_side s p) (party s f)
told_of One p f h = h.0
told_of Two p f h = h.1

does_of : (s : Side) (p : Public) (f : Field) → BothDo p f → SideDoes (public_side s p) (party s f)
does_of One p f h = h.one
does_of Two p f h = h.two

view_of : (s : Side) (p : Public) (f : Field) → AgreesWith p (shows f) → SideAgrees (public_side s p) (side_shows (party s f))
view_of One p f h = h.one
view_of Two p f h = h.two

appeared_of : (s : Side) (p : Public) (f : Field) → SideHasAppeared p.one f.one × SideHasAppeared p.two f.two → SideHasAppeared (public_side s p) (party s f)
appeared_of One p f h = h.0
appeared_of Two p f h = h.1

-- What the player knows of each side

foe_of_public : (s : Side) (team : List Member) (t : Teller) (p : Public) → public_side (other s) (as_known s team t p) ≡ foe_as_told t (public_side (other s) p)
foe_of_public One team t p = refl
foe_of_public Two team t p = refl

own_of_public : (s : Side) (team : List Member) (t : Teller) (p : Public) → public_side s (as_known s team t p) ≡ own_as_known team (public_side s p)
own_of_public One team t p = refl
own_of_public Two team t p = refl

abbrev with_foe : Side → PublicSide → Public → Public
with_foe s y p = on_public_side (other s) (λ z. y) p

known_with : (s : Side) (team : List Member) (t t1 : Teller) (p : Public) (y : PublicSide) → foe_as_told t1 y ≡ foe_as_told t (public_side (other s) p)
    → as_known s team t p ≡ as_known s team t1 (with_foe s y p)
known_with One team t t1 p y e = ap (λ (x : PublicSide). record p { one = own_as_known team p.one; two = x }) (sym e)
known_with Two team t t1 p y e = ap (λ (x : PublicSide). record p { one = x; two = own_as_known team p.two }) (sym e)

-- An own member that has appeared, as the log showed it.
own_kept : (team : List Member) (x : PublicSide) (k : ℕ) → k < 6 → (seen_in k x.members).species ≢ 0 → seen_in k (own_as_known team x).members ≡ seen_in k x.members
own_kept team x k low z = by k low z
  where
    shown : (k : ℕ) → (seen_in k x.members).species ≢ 0 → own_known team (k + 1) (seen_in k x.members) ≡ seen_in k x.members
    shown k z = ap (λ (b : Bool). if b then known_at (k + 1 - 1) team else seen_in k x.members) (is-some (seen_in k x.members).species z)

    by : (k : ℕ) → k < 6 → (seen_in k x.members).species ≢ 0 → seen_in k (own_as_known team x).members ≡ seen_in k x.members
    by zero l z = shown 0 z
    by (suc zero) l z = shown 1 z
    by (suc (suc zero)) l z = shown 2 z
    by (suc (suc (suc zero))) l z = shown 3 z
    by (suc (suc (suc (suc zero)))) l z = shown 4 z
    by (suc (suc (suc (suc (suc zero))))) l z = shown 5 z
    by (suc (suc (suc (suc (suc (suc k)))))) l z = absurd (omega (arith, l))

-- The whole, of its sides
whole_view : (s : Side) (p : Public) (y : PublicSide) (f : Field) → SideAgrees (public_side s p) (side_shows (party s f)) → SideAgrees y (side_shows (party (other s) f))
    → p.turn ≡ f.turn → p.outcome ≡ outcome_byte f.outcome → AgreesWith (with_foe s y p) (shows f)
whole_view One p y f a b t o = record { one = a; two = b; turn = t; outcome = o }
whole_view Two p y f a b t o = record { one = b; two = a; turn = t; outcome = o }

whole_told : (s : Side) (p : Public) (y : PublicSide) (f : Field) → SideIsTold (public_side s p) (party s f) → SideIsTold y (party (other s) f) → IsTold (with_foe s y p) f
whole_told One p y f a b = (a, b)
whole_told Two p y f a b = (b, a)

whole_does : (s : Side) (p : Public) (y : PublicSide) (f : Field) → SideDoes (public_side s p) (party s f) → SideDoes y (party (other s) f) → p.may_hit_itself ≡ 0 → BothDo (with_foe s y p) f
whole_does One p y f a b h = record { one = a; two = b; may_hit_itself = h }
whole_does Two p y f a b h = record { one = b; two = a; may_hit_itself = h }

own_side_of : (s : Side) (p : Public) (y : PublicSide) → public_side s (with_foe s y p) ≡ public_side s p
own_side_of One p y = refl
own_side_of Two p y = refl

foe_side_of : (s : Side) (p : Public) (y : PublicSide) → public_side (other s) (with_foe s y p) ≡ y
foe_side_of One p y = refl
foe_side_of Two p y = refl

-- The state after the run

place_of : (s : Side) (f : Field) → (plain_side (own_side s f)).place ≢ 0 → (active_in s f).place ≢ 0
place_of s f z e = z (ap (λ (b : Bool). (cond b none_out (plain_out (own_active (member_in s f) (active_in s f)))).place) (is-zero (active_in s f).place e))

begun : (s : Side) (b : State) → IsState b → (active_in s b.field).place ≢ 0 → b.field.turn ≡ 0 → ⊥
begun s b v z turn = by s v.field z
  where
    by : (s : Side) → IsUnstarted b.terms b.field ⊎ IsStarted b.terms b.field → (active_in s b.field).place ≢ 0 → ⊥
    by One (inl u) z = z (ap (λ (a : Active). a.place) u.nobody_one)
    by Two (inl u) z = z (ap (λ (a : Active). a.place) u.nobody_two)
    by s (inr w) z = let low = w.turn in omega (arith, low, turn)

no_fault : (o : Outcome) → outcome_byte o ≡ 0 → is_fault o ≡ false
no_fault outcomes.Ongoing e = refl
no_fault outcomes.WinOne e = refl
no_fault outcomes.WinTwo e = refl
no_fault outcomes.Tie e = refl
no_fault (outcomes.Fault n) e = absurd (omega (arith, e))

-- A member at an index, if there is one

member_ok : (rules : Rules) (t : Party) (i : ℕ) → IsMembersUnder rules t.members → (slice_index_or t.members i nobody).species ≢ 0 → IsMember (slice_index_or t.members i nobody)
member_ok rules t i v z = by (below_or i (length t.members))
  where
    by : (i < length t.members) ⊎ (length t.members ≤ i) → IsMember (slice_index_or t.members i nobody)
    by (inl inside) = let m : IsMemberUnder rules (slice_index_or t.members i nobody) = All-get_or (IsMemberUnder rules) t.members i nobody inside v.each in m.numbers
    by (inr past) = absurd (z (ap (λ (m : Member). m.species) (get_or_past t.members i nobody past)))

status_ok : (rules : Rules) (t : Party) (i : ℕ) → IsMembersUnder rules t.members → (slice_index_or t.members i nobody).species ≢ 0 → IsStatus rules (slice_index_or t.members i nobody).status
status_ok rules t i v z = by (below_or i (length t.members))
  where
    by : (i < length t.members) ⊎ (length t.members ≤ i) → IsStatus rules (slice_index_or t.members i nobody).status
    by (inl inside) = let m : IsMemberUnder rules (slice_index_or t.members i nobody) = All-get_or (IsMemberUnder rules) t.members i nobody inside v.each in m.status
    by (inr past) = absurd (z (ap (λ (m : Member). m.species) (get_or_past t.members i nobody past)))

-- HP of the foe

module _ (clause : Bool) (x : PublicSide) (held : Bool) (team : List Member) (t : Party) (rules : Rules) (p : Player)
    (h : Holds t (foe_part clause x held (fresh_members team))) (v : IsParty rules t) (f : Fits p x (fresh_members team)) where
  foe_member : (i : ℕ) → i < 6 → (seen_in i x.members).species ≢ 0 → IsMember (slice_index_or t.members i nobody)
  foe_member i low z = member_ok rules t i v.members (λ e. z ((f.members i low z).species ∙ sym (ap (λ (m : MemberState). m.species) (told_there clause x held (fresh_members team) t h i low z)) ∙ e))

  pub hp_told : (i : ℕ) → i < 6 → (seen_in i x.members).species ≢ 0
      → let m : Member = slice_index_or t.members i nobody in IsToldAs p.hp_form (seen_in i x.members).hp (seen_in i x.members).max m.hp m.max
  hp_told i low z =
      let s : Seen = seen_in i x.members in
      let fresh : MemberState = slice_index_or (fresh_members team) i no_member in
      let e = told_there clause x held (fresh_members team) t h i low z in
      let most : (slice_index_or t.members i nobody).max ≡ fresh.max_hp = ap (λ (m : MemberState). m.max_hp) e in
      let hp : (slice_index_or t.members i nobody).hp ≡ hp_of s.hp s.max fresh.max_hp = ap (λ (m : MemberState). m.hp) e in
      subst (λ (a : ℕ). IsToldAs p.hp_form s.hp s.max a (slice_index_or t.members i nobody).max) (sym hp)
      (subst (λ (b : ℕ). IsToldAs p.hp_form s.hp s.max (hp_of s.hp s.max fresh.max_hp) b) (sym most) (f.members i low z).hp)

  -- A member without HP in the log has none.
  pub fallen_if_told : (i : ℕ) → i < 6 → (seen_in i x.members).species ≢ 0 → (seen_in i x.members).hp ≡ 0 → (slice_index_or t.members i nobody).hp ≡ 0
  fallen_if_told i low z e =
      let m = foe_member i low z in
      (tells_hp (form_of p.hp_form) (slice_index_or t.members i nobody).hp (slice_index_or t.members i nobody).max m.hp m.max.0).0 ((hp_told i low z).0 ∙ e)

-- The foe's living member has HP in the log too: a member without HP has none there.

none_told : (form : HpForm) (most : ℕ) → (told_in form (record { hp = 0; max = most; kind = None })).hp ≡ 0
none_told Exact most = refl
none_told Bar most = refl
none_told Hundredths most = refl

lives_if : (hp : ℕ) → hp ≢ 0 → nat_lt 0 hp ≡ true
lives_if hp z = let some : 1 ≤ hp = omega (arith, z) in grind (arith, nat_tests)

not_living : (hp : ℕ) → hp ≡ 0 → nat_lt 0 hp ≡ true → ⊥
not_living hp e h = false≢true (sym (ap (λ (n : ℕ). nat_lt 0 n) e) ∙ h)

told_none : (t : Teller) (w : PublicSide) (u : Party) (k : FoeKept t.places w.place w.members) → SideAgrees w (side_shows u) → (foe_as_told t w).place ≢ 0
    → (member_at u.active.place u).hp ≡ 0 → (seen_in ((foe_as_told t w).place - 1) (foe_as_told t w).members).hp ≡ 0
told_none t w u k a z dead =
    let o = out_told t w k z in
    let i = k.out o.1 in
    let named : (seen_at w.place w).species ≢ 0 =
    subst (λ (n : ℕ). (seen_at n w).species ≢ 0) i.2 (k.appeared i.0 (λ e. o.1 (sym i.2 ∙ e))) in
    let hp : (seen_at w.place w).hp ≡ 0 =
    (a.members w.place named).0 ∙ ap (λ (m : Shown). m.hp) (shows_at u w.place) ∙ ap (λ (n : ℕ). (member_at n u).hp) a.place ∙ dead in
    ap (λ (s : Seen). s.hp) o.2 ∙ ap (λ (n : ℕ). (told_in (form_of t.pixels) (record { hp = n; max = (seen_at w.place w).max; kind = None })).hp) hp
    ∙ none_told (form_of t.pixels) (seen_at w.place w).max

none_left : (o : Option ℕ) → is_some o ≡ false → unwrap_or o 0 ≡ 0
none_left None e = refl
none_left (Some n) e = absurd (false≢true (sym e))

-- Without bad poison its counter is 0.
none_counted : (w : PublicSide) (u : Party) → SideDoes w u → is_living (member_at u.active.place u) ≡ true → is_on w.announced.toxic ≡ false → w.announced.toxic_count ≡ 0
none_counted w u d living off = d.toxic_count living ∙ none_left u.active.conditions.bad_poison (sym (on_is _ _ d.toxic) ∙ off)

count_in : (s : Side) (q : Public) (b : Field) → SideDoes (public_side s q) (party s b) → is_living (member_at (party s b).active.place (party s b)) ≡ true
    → (public_side s q).announced.toxic_count ≡ unwrap_or (conditions_in s b).bad_poison 0
count_in s q b d living = d.toxic_count living

rules_forth : (rules : Rules) → rules_of (bits_of_rules rules) ≡ rules
rules_forth rules = by rules.sleep_clause rules.freeze_clause
  where
    by : (sleep freeze : Bool) → rules_of (bit_of sleep + 2 * bit_of freeze) ≡ record { sleep_clause = sleep; freeze_clause = freeze }
    by false false = refl
    by false true = refl
    by true false = refl
    by true true = refl

terms_by : (a b : Terms) → a.rules ≡ b.rules → a.limit ≡ b.limit → a ≡ b
terms_by a b rules limit =
    ap (λ (r : Rules). record a { rules = r }) rules ∙ ap (λ (n : ℕ). record b { limit = n }) limit

-- All of it

module _ (s : Side) (team : List Member) (t : Teller) (q : Public) (b : State) (valid : IsState b)
    (known : Known s team t q) (view : AgreesWith q (shows b.field)) (told : IsTold q b.field) (does : BothDo q b.field)
    (members : SideHasAppeared q.one b.field.one × SideHasAppeared q.two b.field.two) (terms : Terms) (sleeps : (u : Side) → SideSleeps terms.rules.sleep_clause (public_side u q) (party u b.field))
    (p : Player) (few : p.hp_form ≤ 2) (side : p.side ≡ side_number s) (public : p.public ≡ as_known s team t q) (shown : p.own ≡ plain_side (own_side s b.field))
    (slots : (k : ℕ) → length (seen_in k (public_side (other s) p.public).members).moves ≡ 5)
    (terms_ok : IsTerms terms) (limit : p.limit ≡ terms.limit) (rules : p.rules ≡ bits_of_rules terms.rules)
    (g : Guess) (f : State) (guess : IsGuess g) (fork : IsFork p g f) where
  x_is : public_side (other s) p.public ≡ foe_as_told t (public_side (other s) q)
  x_is = ap (public_side (other s)) public ∙ foe_of_public s team t q

  own_is : public_side s p.public ≡ own_as_known team (public_side s q)
  own_is = ap (public_side s) public ∙ own_of_public s team t q

  fitting : Fits p (public_side (other s) p.public) (fresh_members g.team)
  fitting = guess_fits p (public_side (other s) p.public) (length g.team) (fresh_members g.team) (fits s p g fork.state side fork.guessed).0

  place_b : (active_in s b.field).place ≢ 0
  place_b = place_of s b.field (λ e. fitting.own_out (ap (λ (o : OwnSide). o.place) shown ∙ e))

  now_b : b.field.turn ≡ 0 → ⊥
  now_b = begun s b valid place_b

  starts_b : IsStarted b.terms b.field
  starts_b = started b valid now_b

  party_b : (u : Side) → IsParty b.terms.rules (party u b.field)
  party_b u = party_valid u b.terms b.field starts_b.field

  short_b : (u : Side) (place : ℕ) → (seen_at place (public_side u q)).species ≢ 0 → IsShort (seen_at place (public_side u q))
  short_b u place z = short-of terms.rules.sleep_clause b.terms.rules (seen_at place (public_side u q)) (member_at place (party u b.field))
      (status_ok b.terms.rules (party u b.field) (place - 1) (party_b u).members (λ e. z (((appeared_of u q b.field members).each place z).species ∙ e)))
      (((view_of u q b.field view).members place z).1 ∙ ap (λ (m : Shown). kind_or_0 m.kind) (shows_at (party u b.field) place)) (sleeps u place z)

  own_shows : Shows (plain_side (own_side s b.field)) s b.field
  own_shows = shows_own s b.field (is-some (active_in s b.field).place place_b)

  shows_p : Shows p.own s b.field
  shows_p = subst (λ (o : OwnSide). Shows o s b.field) (sym shown) own_shows

  turn_p : p.own.turn ≡ b.field.turn
  turn_p = ap (λ (o : OwnSide). o.turn) shown

  sides : HasSides s p g f
  sides = has_sides s p g f fork side (λ e. now_b (sym turn_p ∙ e)) (own_plain (clause_of p) p.own (public_side s p.public) s b valid shows_p)
      (foe_plain (clause_of p) (public_side (other s) p.public) (is_on p.own.held) g.team guess.team)
      (let limit = starts_b.field.turn in let most = valid.terms.limit.1 in let e = turn_p in omega (arith, limit, most, e))
      (let most = terms_ok.limit.1 in let e = limit in omega (arith, most, e)) guess.numbers

  clause_is : clause_of p ≡ terms.rules.sleep_clause
  clause_is = ap (λ (n : ℕ). (rules_of n).sleep_clause) rules ∙ ap (λ (r : Rules). r.sleep_clause) (rules_forth terms.rules)

  terms_are : f.terms ≡ terms
  terms_are = terms_by f.terms terms
      (sym (rules_forth f.terms.rules) ∙ ap rules_of (sides.rules ∙ rules) ∙ rules_forth terms.rules) (sides.limit ∙ limit)

  now_f : f.field.turn ≡ 0 → ⊥
  now_f e = now_b (sym turn_p ∙ sym sides.turn ∙ e)

  valid_f : IsState f
  valid_f = fork.stands.valid

  party_f : (u : Side) → IsParty f.terms.rules (party u f.field)
  party_f u = party_valid u f.terms f.field (started f valid_f now_f).field

  own_holds : Holds (party s f.field) (own_part (clause_of p) p.own (public_side s p.public))
  own_holds = holds_side s f.field (own_part (clause_of p) p.own (public_side s p.public)) now_f sides.own

  foe_holds : Holds (party (other s) f.field) (foe_part (clause_of p) (public_side (other s) p.public) (is_on p.own.held) (fresh_members g.team))
  foe_holds = holds_side (other s) f.field (foe_part (clause_of p) (public_side (other s) p.public) (is_on p.own.held) (fresh_members g.team)) now_f sides.foe

  -- The own side

  own_q : SideDoes (public_side s q) (party s b.field)
  own_q = does_of s q b.field does

  last_is : (public_side s p.public).last_move ≡ (public_side s q).last_move
  last_is = ap (λ (y : PublicSide). y.last_move) own_is

  alike : Alike (party s f.field) (party s b.field)
  alike = own_alike (clause_of p) p.own (public_side s p.public) s f b shows_p own_holds (party_f s) (party_b s) (last_is ∙ own_q.last_move)
      (subst (λ (n : ℕ). IsMoveOf (member_in s b.field) n) (sym last_is) (appeared_of s q b.field members).last_move)

  own_has : SideHasAppeared (public_side s q) (party s f.field)
  own_has = appeared-alike (public_side s q) (party s f.field) (party s b.field) alike (appeared_of s q b.field members)

  own_seen : (k : ℕ) → k < 6 → (seen_in k (public_side s q).members).species ≢ 0 → seen_in k (public_side s p.public).members ≡ seen_in k (public_side s q).members
  own_seen k low z = ap (λ (y : PublicSide). seen_in k y.members) own_is ∙ own_kept team (public_side s q) k low z

  -- The foe's side

  numbered_x : IsNumbered (public_side (other s) p.public)
  numbered_x = subst IsNumbered (sym x_is) (numbered t (public_side (other s) q) known.foe)

  foe_q : SideDoes (public_side (other s) q) (party (other s) b.field)
  foe_q = does_of (other s) q b.field does

  foe_x : Foe (public_side (other s) p.public)
  foe_x = subst Foe (sym x_is) (foe_of_run t (public_side (other s) q) (party (other s) b.field) b.terms.rules (party_b (other s)) (view_of (other s) q b.field view)
      (told_of (other s) q b.field told) foe_q (told_causes t (public_side (other s) q) known.foe (party (other s) b.field) (sleeps (other s))) (told_short t (public_side (other s) q) known.foe (short_b (other s))) (λ k. subst (λ (y : PublicSide). length (seen_in k y.members).moves ≡ 5) x_is (slots k))
      (numbered t (public_side (other s) q) known.foe))

  hp_x : (i : ℕ) → i < 6 → (seen_in i (public_side (other s) p.public).members).species ≢ 0 → let m : Member = slice_index_or (party (other s) f.field).members i nobody in
      IsToldAs p.hp_form (seen_in i (public_side (other s) p.public).members).hp (seen_in i (public_side (other s) p.public).members).max m.hp m.max
  hp_x = hp_told (clause_of p) (public_side (other s) p.public) (is_on p.own.held) g.team (party (other s) f.field) f.terms.rules p foe_holds (party_f (other s)) fitting

  -- The trapping of the foe

  held_f : bit_of (is_some (underway_in (other s) f.field).trapping) ≡ bit_of (is_some (underway_in (other s) b.field).trapping)
  held_f =
      let held_p : p.own.held ≡ bit_of (is_some (underway_in (other s) b.field).trapping) = ap (λ (o : OwnSide). o.held) shown in
      let on : is_on p.own.held ≡ is_some (underway_in (other s) b.field).trapping = on_is _ _ held_p in
      let last : (public_side (other s) p.public).last_move ≡ current_move_of (party (other s) b.field) = ap (λ (z : PublicSide). z.last_move) x_is ∙ foe_q.last_move in
      let tied = (party_b (other s)).active.conditions.underway.trapping_tied in
      ap bit_of (traps_on (clause_of p) (public_side (other s) p.public) (is_on p.own.held) (fresh_members g.team) (party (other s) f.field) f.terms.rules p foe_holds (party_f (other s)) foe_x fitting
      ∙ and_same _ _ (λ z. explained traps (party (other s) b.field) _ last (current_known b.terms.rules (party (other s) b.field) (party_b (other s))) (tied (sym on ∙ z))) ∙ on)

  -- Leech Seed and bad poison

  foe_lives : is_living (member_at (party (other s) f.field).active.place (party (other s) f.field)) ≡ true → is_living (member_at (party (other s) b.field).active.place (party (other s) b.field)) ≡ true
  foe_lives living = by (eqb_tells (member_at (party (other s) b.field).active.place (party (other s) b.field)).hp 0)
    where
      by : ((((member_at (party (other s) b.field).active.place (party (other s) b.field)).hp == 0) ≡ true) × ((member_at (party (other s) b.field).active.place (party (other s) b.field)).hp ≡ 0))
          ⊎ ((((member_at (party (other s) b.field).active.place (party (other s) b.field)).hp == 0) ≡ false) × ((member_at (party (other s) b.field).active.place (party (other s) b.field)).hp ≢ 0))
          → is_living (member_at (party (other s) b.field).active.place (party (other s) b.field)) ≡ true
      by (inr e) = lives_if _ e.1
      by (inl e) =
          let out : (foe_as_told t (public_side (other s) q)).place ≢ 0 = subst (λ (z : PublicSide). z.place ≢ 0) x_is fitting.foe_out in
          let none = told_none t (public_side (other s) q) (party (other s) b.field) known.foe (view_of (other s) q b.field view) out e.1 in
          let none_x : (seen_in ((public_side (other s) p.public).place - 1) (public_side (other s) p.public).members).hp ≡ 0 =
          subst (λ (z : PublicSide). (seen_in (z.place - 1) z.members).hp ≡ 0) (sym x_is) none in
          let o = numbered_x.out fitting.foe_out in
          let place = o.2 in
          let back : (public_side (other s) p.public).place - 1 ≡ o.0 = omega (arith, place) in
          let low : (public_side (other s) p.public).place - 1 < 6 = (let l = o.1 in omega (arith, place, l)) in
          let named : (seen_in ((public_side (other s) p.public).place - 1) (public_side (other s) p.public).members).species ≢ 0 =
          λ z. o.3 (ap (λ (i : ℕ). (seen_in i (public_side (other s) p.public).members).species) (sym back) ∙ z) in
          let dead = fallen_if_told (clause_of p) (public_side (other s) p.public) (is_on p.own.held) g.team (party (other s) f.field) f.terms.rules p foe_holds (party_f (other s)) fitting ((public_side (other s) p.public).place - 1) low named none_x in
          absurd (not_living _ (ap (λ (n : ℕ). (member_at n (party (other s) f.field)).hp) (foe_place (clause_of p) (public_side (other s) p.public) (is_on p.own.held) (fresh_members g.team) (party (other s) f.field) f.terms.rules p foe_holds (party_f (other s)) foe_x fitting) ∙ dead) living)

  seeded_x : is_living (member_at (party (other s) f.field).active.place (party (other s) f.field)) ≡ true → IsFlag (public_side (other s) p.public).announced.seeded
  seeded_x living = subst (λ (z : PublicSide). IsFlag z.announced.seeded) (sym x_is) (flag_of _ _ ((told_of (other s) q b.field told).seeded (foe_lives living)))

  count_x : is_living (member_at (party (other s) f.field).active.place (party (other s) f.field)) ≡ true → is_on (public_side (other s) p.public).announced.toxic ≡ false
      → (public_side (other s) p.public).announced.toxic_count ≡ 0
  count_x living = subst (λ (z : PublicSide). is_on z.announced.toxic ≡ false → z.announced.toxic_count ≡ 0) (sym x_is)
      (none_counted (public_side (other s) q) (party (other s) b.field) foe_q (foe_lives living))

  count_own : is_living (member_at (party s f.field).active.place (party s f.field)) ≡ true → (public_side s q).announced.toxic_count ≡ unwrap_or (party s f.field).active.conditions.bad_poison 0
  count_own living =
      let known : (public_side s p.public).announced.toxic_count ≡ (public_side s q).announced.toxic_count = ap (λ (y : PublicSide). y.announced.toxic_count) own_is in
      let o : Option ℕ = (conditions_in s b.field).bad_poison in
      let count : (public_side s q).announced.toxic_count ≡ unwrap_or o 0 = count_in s q b.field own_q (lives-alike _ _ alike living) in
      counted_if (is_some o) (public_side s q).announced.toxic_count (λ off. count ∙ none_left o off)
      ∙ ap (λ (n : ℕ). on_if (is_some o) n) (sym known) ∙ sym (own_poison (clause_of p) p.own (public_side s p.public) s (party s f.field) b.field shows_p own_holds)

  pub whole : AgreesWithFork terms s team p f
  whole = record {
    terms = terms_are;
    own = same_shown s f b alike (party_f s) (party_b s) (stats_of_own (clause_of p) p.own (public_side s p.public) s f.field b.field now_f sides.own shows_p) (slot_of_own (clause_of p) p.own (public_side s p.public) s f.field b.field own_holds shows_p) held_f (sides.turn ∙ turn_p)
        (sides.request ∙ ap (λ (o : OwnSide). o.request) shown)
        (sides.outcome ∙ sym fitting.going ∙ ap (λ (o : OwnSide). o.outcome) shown) ∙ sym shown;
    teller = teller_of s p.hp_form (public_side (other s) p.public);
    is_teller = is_teller (public_side (other s) p.public) numbered_x s p.hp_form few;
    form_is = refl;
    public = with_foe s (exact (party (other s) f.field) (public_side (other s) p.public)) q;
    known = public ∙ known_with s team t (teller_of s p.hp_form (public_side (other s) p.public)) q (exact (party (other s) f.field) (public_side (other s) p.public))
        (as_told (public_side (other s) p.public) numbered_x s p.hp_form (party (other s) f.field) hp_x fitting.foe_out ∙ x_is);
    view = whole_view s q _ f.field (view-alike (public_side s q) _ _ alike (view_of s q b.field view)) (foe_view (clause_of p) (public_side (other s) p.public) (is_on p.own.held) (fresh_members g.team) (party (other s) f.field) f.terms.rules p foe_holds (party_f (other s)) foe_x fitting)
        (turn_of view ∙ sym (sides.turn ∙ turn_p)) (outcome_of view ∙ sym (ap (λ (o : OwnSide). o.outcome) shown) ∙ fitting.going ∙ sym sides.outcome);
    conditions = whole_told s q _ f.field (told-alike (public_side s q) _ _ alike (told_of s q b.field told)) (foe_told (clause_of p) (public_side (other s) p.public) (is_on p.own.held) (fresh_members g.team) (party (other s) f.field) f.terms.rules p foe_holds (party_f (other s)) foe_x fitting seeded_x);
    actives = whole_does s q _ f.field (does-alike (public_side s q) _ _ alike count_own own_q) (foe_does (clause_of p) (public_side (other s) p.public) (is_on p.own.held) (fresh_members g.team) (party (other s) f.field) f.terms.rules p foe_holds (party_f (other s)) foe_x fitting count_x) does.may_hit_itself;
    own_members = subst (λ (z : PublicSide). SideHasAppeared z (party s f.field)) (sym (own_side_of s q _))
        own_has;
    foe_members = subst (λ (z : PublicSide). SideHasAppeared z (party (other s) f.field)) (sym (foe_side_of s q _))
        (foe_appeared (clause_of p) (public_side (other s) p.public) (is_on p.own.held) (fresh_members g.team) (party (other s) f.field) f.terms.rules p foe_holds (party_f (other s)) foe_x fitting);
    own_sleepers = subst (λ (z : PublicSide). SideSleeps terms.rules.sleep_clause z (party s f.field)) (sym (own_side_of s q _))
        (subst (λ (c : Bool). SideSleeps c (public_side s q) (party s f.field)) clause_is (own_sleeps (clause_of p) terms.rules.sleep_clause p.own (public_side s p.public) (public_side s q) s f.field b.field shows_p own_holds (party_f s).members.size.1 own_seen (view_of s q b.field view) own_has (short_b s) (sleeps s)));
    foe_sleepers = subst (λ (z : PublicSide). SideSleeps terms.rules.sleep_clause z (party (other s) f.field)) (sym (foe_side_of s q _))
        (subst (λ (c : Bool). SideSleeps c (exact (party (other s) f.field) (public_side (other s) p.public)) (party (other s) f.field)) clause_is
        (foe_sleeps (clause_of p) (public_side (other s) p.public) (is_on p.own.held) (fresh_members g.team) (party (other s) f.field) f.terms.rules p foe_holds (party_f (other s)) foe_x fitting));
  }
    where
      turn_of : AgreesWith q (shows b.field) → q.turn ≡ b.field.turn
      turn_of v = v.turn

      outcome_of : AgreesWith q (shows b.field) → q.outcome ≡ outcome_byte b.field.outcome
      outcome_of v = v.outcome

-- The form of a player

form_small : (form : HpForm) → form_number form ≤ 2
form_small Exact = omega arith
form_small Bar = omega arith
form_small Hundredths = omega arith

form_of_player : (t : Terms) (s : Side) (one two : List Member) (r : Ran) (p : Player) (player : HasPlayer t s one two r p) → p.hp_form ≡ form_number player.form
form_of_player t s one two r p player = ap (λ (z : Player). z.hp_form) player.is.is

form_few : (t : Terms) (s : Side) (one two : List Member) (r : Ran) (p : Player) → HasPlayer t s one two r p → p.hp_form ≤ 2
form_few t s one two r p player = subst (λ (n : ℕ). n ≤ 2) (sym (form_of_player t s one two r p player)) (form_small player.form)

pub forks_agree : ForksAgree
forks_agree t one two seed pairs terms stream team_one team_two s p player g f guess fork =
    let form : ℕ = form_number player.form in
    let r : Ran = run (first_state t one two seed) pairs in
    let team : List Member = team_of s one two in
    let tellable = all-tellable t one two seed pairs team_one team_two in
    let valid : IsState r.state = states_stay_valid (first_state t one two seed) pairs (first_states_are_valid t one two seed terms team_one team_two stream) in
    let view = agrees t one two seed pairs team_one team_two in
    let own : p.own ≡ plain_side (own_side s r.state.field) = ap (λ (z : Player). z.own) player.is.is in
    let side : p.side ≡ side_number s = ap (λ (z : Player). z.side) player.is.is in
    let going = (guess_fits p (public_side (other s) p.public) (length g.team) (fresh_members g.team) (fits s p g fork.state side fork.guessed).0).going in
    let does : BothDo (public_of r) r.state.field = actives_agree t one two seed pairs terms stream team_one team_two
    (no_fault r.state.field.outcome (sym (ap (λ (o : OwnSide). o.outcome) own) ∙ going)) in
    whole s team (meets_all (events_in r) (first_teller s form)) (public_of r) r.state valid (met s form team r tellable) view
    (conditions_agree t one two seed pairs team_one team_two) does (members_agree t one two seed pairs team_one team_two) t (sleepers_agree t one two seed pairs team_one team_two)
    p (form_few t s one two r p player) side (holds s form one two r tellable _ player.log _ p player.told player.is) own player.slots terms
    (ap (λ (z : Player). z.limit) player.is.is) (ap (λ (z : Player). z.rules) player.is.is) g f guess fork

-- True maxima

same : (a b : ℕ) → a ≡ b → (a == b) ≡ true
same a b e = by (eqb_tells a b)
  where
    by : (((a == b) ≡ true) × (a ≡ b)) ⊎ (((a == b) ≡ false) × (a ≢ b)) → (a == b) ≡ true
    by (inl t) = t.0
    by (inr t) = absurd (t.1 e)

-- A maximum of which any HP are reported so passes the test.
true_hp : (form : ℕ) (s : Seen) (hp most : ℕ) → hp ≤ most → 11 ≤ most → most ≤ 999 → IsToldAs form s.hp s.max hp most → allows_max form s most ≡ true
true_hp form s hp most few low high told =
    let again = forks_tell_hp form s.hp s.max most low (hp, few, told) in
    let a : nat_le 11 most ≡ true = grind (arith, nat_tests) in
    let b : nat_le most 999 ≡ true = grind (arith, nat_tests) in
    rw (a, b, same _ _ again.0, same _ _ again.1) refl

module _ (t : Teller) (w : PublicSide) (u : Party) (rules : Rules) (k : FoeKept t.places w.place w.members) where
  true_there : IsMembersUnder rules u.members → SideAgrees w (side_shows u) → SideHasAppeared w u → (i : ℕ) → (seen_in i (foe_as_told t w).members).species ≢ 0
      → allows_max t.pixels (seen_in i (foe_as_told t w).members) (member_at (slice_index_or t.places i 0) u).max ≡ true
  true_there v a h i z =
      let e = known_told t w k i z in
      let place : ℕ = slice_index_or t.places i 0 in
      let m : Member = member_at place u in
      let named : (seen_at place w).species ≢ 0 = k.appeared i e.0 in
      let is : IsSeen (seen_at place w) m = h.each place named in
      let ok : IsMember m = member_ok rules u (place - 1) v (λ n. named (is.species ∙ n)) in
      let hp : (seen_at place w).hp ≡ m.hp = (a.members place named).0 ∙ ap (λ (x : Shown). x.hp) (shows_at u place) in
      let most = is.max in
      let fits = ok.hp in
      let low = ok.max.0 in
      let high = ok.max.1 in
      let told : IsToldAs t.pixels (with_hp_told t (seen_at place w)).hp (with_hp_told t (seen_at place w)).max (seen_at place w).hp (seen_at place w).max = (refl, refl) in
      subst (λ (x : Seen). allows_max t.pixels x m.max ≡ true) (sym e.1) (subst (λ (n : ℕ). allows_max t.pixels (with_hp_told t (seen_at place w)) n ≡ true) most
      (true_hp t.pixels (with_hp_told t (seen_at place w)) (seen_at place w).hp (seen_at place w).max (omega (arith, hp, most, fits)) (omega (arith, most, low)) (omega (arith, most, high)) told))

members_under : (s : Side) (b : State) → IsState b → IsMembersUnder b.terms.rules (party s b.field).members
members_under s b v = by s v.field
  where
    by : (s : Side) → IsUnstarted b.terms b.field ⊎ IsStarted b.terms b.field → IsMembersUnder b.terms.rules (party s b.field).members
    by One (inl u) = u.members_one
    by Two (inl u) = u.members_two
    by s (inr w) = (party_valid s b.terms b.field w.field).members

pub true_hp_fits : TrueHpFits
true_hp_fits t one two seed pairs terms stream team_one team_two s p player k z =
    let r : Ran = run (first_state t one two seed) pairs in
    let team : List Member = team_of s one two in
    let tellable = all-tellable t one two seed pairs team_one team_two in
    let valid : IsState r.state = states_stay_valid (first_state t one two seed) pairs (first_states_are_valid t one two seed terms team_one team_two stream) in
    let teller : Teller = meets_all (events_in r) (first_teller s p.hp_form) in
    let foe : PublicSide = public_side (other s) (public_of r) in
    let known = subst (λ (n : ℕ). p.public ≡ as_known s team (meets_all (events_in r) (first_teller s n)) (public_of r)) (sym (form_of_player t s one two r p player))
    (holds s (form_number player.form) one two r tellable _ player.log _ p player.told player.is) in
    let is : public_side (other s) p.public ≡ foe_as_told teller foe = ap (public_side (other s)) known ∙ foe_of_public s team teller (public_of r) in
    let fits = true_there teller foe (party (other s) r.state.field) r.state.terms.rules (met s p.hp_form team r tellable).foe (members_under (other s) r.state valid)
    (view_of (other s) (public_of r) r.state.field (agrees t one two seed pairs team_one team_two))
    (appeared_of (other s) (public_of r) r.state.field (members_agree t one two seed pairs team_one team_two)) k
    (subst (λ (x : PublicSide). (seen_in k x.members).species ≢ 0) is z) in
    subst (λ (x : PublicSide). allows_max p.hp_form (seen_in k x.members) (member_at (slice_index_or teller.places k 0) (party (other s) r.state.field)).max ≡ true) (sym is)
    (subst (λ (n : ℕ). allows_max n (seen_in k (foe_as_told teller foe).members) (member_at (slice_index_or teller.places k 0) (party (other s) r.state.field)).max ≡ true)
    (meets_all-pixels (events_in r) (first_teller s p.hp_form)) fits)
