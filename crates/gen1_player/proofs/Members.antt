-- After any run, a member that has appeared is the member at its place, and it was seen to use its own moves or Struggle.
use Rattle.gen1_machine.specs.declared.event.CantReason.TheVariants as reasons
use Rattle.gen1_player.proofs.ToldGate.{sleep-tame}
use Rattle.gen1_player.proofs.DeedStory.{status-tame}
use Rattle.gen1_stats.specs.declared.member.Status.TheVariants.{Asleep}
use Rattle.std.proofs.Common.{[], Bool, List, ap, if◌then◌else◌, arith, get_or, false, inl, inr, length, length-set, map, nat_le, refl, subst, sym, true, ℕ, true≢false, ◌&&◌, ◌⊎◌, ◌||◌, ◌++◌, ◌-◌, ◌==◌, ◌∙◌, ◌∷◌, ◌≡◌, ◌≢◌, ◌<◌, ◌≤◌}
use Rattle.std.proofs.lemmas.List.{length-map}
use Rattle.std.proofs.Math.ListN.{get_or-map}
use Rattle.std.proofs.Math.Seq.{map-set_same}
use Rattle.gen1_stats.specs.declared.member.KnownMove.{KnownMove}
use Rattle.gen1_stats.specs.Members.{nobody, IsFresh, IsTeam, Member}
use Rattle.gen1_machine.specs.declared.side.Side.{Side}
use Rattle.gen1_machine.specs.declared.side.Side.TheVariants.{One, Two}
use Rattle.gen1_machine.specs.declared.event.Volatile.{Volatile}
use Rattle.gen1_machine.specs.declared.event.Volatile.TheVariants as volatiles
use Rattle.gen1_machine.specs.declared.event.Event.{Event}
use Rattle.gen1_machine.specs.declared.event.Event.TheVariants as events
use Rattle.gen1_machine.specs.declared.event.Who.{Who}
use Rattle.gen1_machine.specs.declared.side.Pick.{Pick}
use Rattle.gen1_machine.specs.Health.{Health}
use Rattle.gen1_machine.specs.declared.event.Kind.TheVariants as kinds
use Rattle.std.proofs.lemmas.Bool.{le-leb}
use Rattle.std.proofs.lemmas.Bool.Decides.{eqb_tells}
use Rattle.gen1_tables.specs.Effects.{bides, recharges}
use Rattle.gen1_tables.specs.Moves.{move_row, move_rows, struggle}
use Rattle.gen1_tables.specs.Types.{any}
use Rattle.gen1_machine.specs.Moves.{move_at, toxic, Move}
use Rattle.gen1_machine.specs.Sides.{other}
use Rattle.gen1_machine.specs.Conditions.{after_haze, with_bad_poison, with_bide, with_recharge, without_seed, ActiveConditions}
use Rattle.gen1_machine.specs.State.{Active, Field, Party, Terms, active_in, changed_active, changed_conditions, changed_member, fallen, first_state, health_in, member_at, member_in, party, who_in, with_current_move, with_pp_spent, with_status, with_types_of, with_sleep_one_less}
use Rattle.gen1_machine.specs.EarlyEffects.{with_levelled_stats}
use Rattle.gen1_machine.specs.Picks.{number_in, used_by}
use Rattle.gen1_machine.specs.Progress.{active, given, member, Progress}
use Rattle.gen1_machine.specs.Action.{move_taken_in}
use Rattle.gen1_machine.specs.Ruling.{ruling_of}
use Rattle.gen1_machine.specs.Step.{run, Ran}
use Rattle.gen1_machine.specs.SwitchingIn.{switch_event, with_sent_out}
use Rattle.gen1_machine.proofs.Watching.{keeps-conditions, BothOut, IsOut, Lands, Rests, Runs}
use Rattle.gen1_player.specs.declared.public.Public.{Public}
use Rattle.gen1_player.specs.declared.public_side.PublicSide.{PublicSide}
use Rattle.gen1_player.specs.Public.{begins, bide, comes_out, first_public, hears_all, new_uses, not_seen, on_announced, seen_at, on_out, prepares, public_side, settled, starts_bide, takes_in, uses_move}
use Rattle.gen1_player.specs.True.{events_in, public_of, MembersAgree, OfRuns, SideHasAppeared}
use Rattle.gen1_player.proofs.Facts.{Noise, Sizes, Standing, Tame, Traits, dull-noise, is_noise, noise-is, sent, sent-place, side_out, sparing-tame, traits, with_cleared}
use Rattle.gen1_player.proofs.Stories.{MayFall, Outline, Story, Switching, sickened, slept, Dozing}
use Rattle.gen1_player.proofs.ToldEffects.{ruling_of-tells}
use Rattle.gen1_player.proofs.ToldActions.{Says, act-tells, carry_out-tells, spent-tame}
use Rattle.gen1_player.proofs.ToldEnds.{sizes_of, story-runs}
use Rattle.gen1_player.proofs.Lenses.{tellable-last, AllTellable, Tellable}
use Rattle.gen1_player.proofs.HeardSides.{bide-hears, clear-hears, clear-less, end-hears, end-less, less-path, move-less, noise-less, prepare-less, rest-hears, settled-less, start-less, Less, foe-side, hears-in, hears_all-last, move-hears, out-side, prepare-hears, switch-hears}
use Rattle.gen1_player.proofs.Appearing.{allowed-is, bide-number, is_bide, rest-faces, starts-otherwise, AllShow, Allowed, Face, Faces, Shows, clear-faces, comes-face, comes-faces, comes-shows, end-faces, face, faces, no_face, no_traits, noise-faces, none-show, settled-faces, shows-seen, shows_use, start-faces, suffers-same, used-is-allowed, uses-face, uses-shows}

-- The members of two teams, as no battle changes them.
record Teams : Type 0 where
  one : List Traits
  two : List Traits

abbrev team_of : Side → Teams → List Traits
team_of One k = k.one
team_of Two k = k.two

record Appeared (ts : List Traits) (z : Faces) (t : Party) : Type 0 where
  same : map traits t.members ≡ ts
  place : z.place ≡ t.active.place
  six : length z.members ≡ 6
  few : length ts ≤ 6
  named : (i : ℕ) → i < length ts → (get_or ts i no_traits).species ≢ 0
  out : z.place ≢ 0 → (get_or z.members (z.place - 1) no_face).species ≢ 0
  last : Allowed (get_or ts (t.active.place - 1) no_traits).moves z.last_move
  shows : AllShow z.members ts

record Appears (k : Teams) (f : Field) (p : Public) : Type 0 where
  one : Appeared k.one (faces p.one) f.one
  two : Appeared k.two (faces p.two) f.two

-- Another active member at the same place.
appeared-active : (ts : List Traits) (z : Faces) (t : Party) (a : Active) → a.place ≡ t.active.place → Appeared ts z t → Appeared ts z (record t { active = a })
appeared-active ts z t a e m = record {
  same = m.same;
  place = m.place ∙ sym e;
  six = m.six;
  few = m.few;
  named = m.named;
  out = m.out;
  last = subst (λ (i : ℕ). Allowed (get_or ts (i - 1) no_traits).moves z.last_move) (sym e) m.last;
  shows = m.shows;
}

module _ {k : Teams} where
  appears-active : (s : Side) (change : Active → Active) → ((a : Active) → (change a).place ≡ a.place) → (f : Field) (p : Public) → Appears k f p → Appears k (changed_active s change f) p
  unfolding changed_active
  appears-active One change h f p m = record {
    one = appeared-active k.one (faces p.one) f.one (change f.one.active) (h f.one.active) m.one;
    two = m.two;
  }
  appears-active Two change h f p m = record {
    one = m.one;
    two = appeared-active k.two (faces p.two) f.two (change f.two.active) (h f.two.active) m.two;
  }

  appears-conditions : (s : Side) (change : ActiveConditions → ActiveConditions) (f : Field) (p : Public) → Appears k f p → Appears k (changed_conditions s change f) p
  unfolding changed_conditions
  appears-conditions s change f p m = appears-active s (λ a. record a { conditions = change a.conditions }) (λ a. refl) f p m

  appears-member : (s : Side) (change : Member → Member) → Tame change → (f : Field) (p : Public) → Appears k f p → Appears k (changed_member s change f) p
  unfolding changed_member
  appears-member One change h f p m = record {
    one = record {
      same = map-set_same traits f.one.members (f.one.active.place - 1) (change (member_in One f)) nobody (h (member_in One f)) ∙ m.one.same;
      place = m.one.place;
      six = m.one.six;
      few = m.one.few;
      named = m.one.named;
      out = m.one.out;
      last = m.one.last;
      shows = m.one.shows;
    };
    two = m.two;
  }
  appears-member Two change h f p m = record {
    one = m.one;
    two = record {
      same = map-set_same traits f.two.members (f.two.active.place - 1) (change (member_in Two f)) nobody (h (member_in Two f)) ∙ m.two.same;
      place = m.two.place;
      six = m.two.six;
      few = m.two.few;
      named = m.two.named;
      out = m.two.out;
      last = m.two.last;
      shows = m.two.shows;
    };
  }

  appears-apart : (f g : Field) (p : Public) → f.one ≡ g.one → f.two ≡ g.two → Appears k f p → Appears k g p
  appears-apart f g p a b m = record { one = subst (Appeared k.one (faces p.one)) a m.one; two = subst (Appeared k.two (faces p.two)) b m.two }

  appears-heard : (f : Field) (p q : Public) → ((u : Side) → faces (public_side u q) ≡ faces (public_side u p)) → Appears k f p → Appears k f q
  appears-heard f p q h m = record {
    one = subst (λ (z : Faces). Appeared k.one z f.one) (sym (h One)) m.one;
    two = subst (λ (z : Faces). Appeared k.two z f.two) (sym (h Two)) m.two;
  }

-- A move that the active member of a side may use.
abbrev Usable : Teams → Side → ℕ → Field → Type 0
Usable k s n f = Allowed (get_or (team_of s k) ((active_in s f).place - 1) no_traits).moves n

counted : (ts : List Traits) (z : Faces) (t : Party) → Appeared ts z t → length t.members ≤ 6
counted ts z t m = let e : length t.members ≡ length ts = sym (length-map t.members traits) ∙ ap length m.same in omega (arith, e, m.few)

-- A side whose member uses a move.
uses-appeared : (ts : List Traits) (x : PublicSide) (t : Party) (more n : ℕ) → IsOut t → Allowed (get_or ts (t.active.place - 1) no_traits).moves n
    → Appeared ts (faces x) t → Appeared ts (faces (shows_use more n x)) t
uses-appeared ts x t more n o h m =
    let six : length x.members ≡ 6 = sym (length-map x.members face) ∙ m.six in
    let e : x.place ≡ t.active.place = m.place in
    let few = counted ts (faces x) t m in
    let low : 1 ≤ x.place = omega (arith, e, o.placed) in
    let high : x.place ≤ length x.members = omega (arith, e, o.within, few, six) in
    record {
      same = m.same;
      place = m.place;
      six = length-map _ face ∙ length-set x.members (x.place - 1) _ ∙ six;
      few = m.few;
      named = m.named;
      out = λ z. subst (λ (i : ℕ). i ≢ 0) (sym (uses-face more n x low high)) (m.out z);
      last = h;
      shows = uses-shows more n x ts low high
          (subst (λ (i : ℕ). Allowed (get_or ts (i - 1) no_traits).moves n) (sym e) h) m.shows;
    }

acted : (k : Teams) (s : Side) (more : PublicSide → ℕ) (n : ℕ) (act : PublicSide → PublicSide) → ((x : PublicSide) → faces (act x) ≡ faces (shows_use (more x) n x))
    → (f : Field) (p : Public) → BothOut f → Usable k s n f → Appears k f p → Appears k f (on_out s act p)
acted k One more n act same f p o h m =
    let e : p.one.place ≡ f.one.active.place = m.one.place in
    let low : 1 ≤ p.one.place = omega (arith, e, o.one.placed) in
    record {
      one = subst (λ (z : Faces). Appeared k.one z f.one) (sym (ap faces (out-side One act p low) ∙ same p.one)) (uses-appeared k.one p.one f.one (more p.one) n o.one h m.one);
      two = subst (λ (x : PublicSide). Appeared k.two (faces x) f.two) (sym (foe-side One act p)) m.two;
    }
acted k Two more n act same f p o h m =
    let e : p.two.place ≡ f.two.active.place = m.two.place in
    let low : 1 ≤ p.two.place = omega (arith, e, o.two.placed) in
    record {
      one = subst (λ (x : PublicSide). Appeared k.one (faces x) f.one) (sym (foe-side Two act p)) m.one;
      two = subst (λ (z : Faces). Appeared k.two z f.two) (sym (ap faces (out-side Two act p low) ∙ same p.two)) (uses-appeared k.two p.two f.two (more p.two) n o.two h m.two);
    }

-- A side whose member comes out.
sent-appeared : (ts : List Traits) (x : PublicSide) (t : Party) (place : ℕ) (m : Member) (h : Health) → 1 ≤ place → place ≤ length t.members → h.max ≡ m.max → m ≡ member_at place t
    → (a : Active) → a.place ≡ place → Appeared ts (faces x) t → Appeared ts (faces (comes_out m.species place m.level h x)) (record t { active = a })
sent-appeared ts x t place m h low high e same a out k =
    let six : length x.members ≡ 6 = sym (length-map x.members face) ∙ k.six in
    let few = counted ts (faces x) t k in
    let at : get_or ts (place - 1) no_traits ≡ traits m =
    ap (λ (qs : List Traits). get_or qs (place - 1) no_traits) (sym k.same) ∙ get_or-map traits t.members (place - 1) nobody ∙ ap traits (sym same) in
    let inside : place ≤ length x.members = omega (arith, high, few, six) in
    let all : length t.members ≡ length ts = sym (length-map t.members traits) ∙ ap length k.same in
    let species : m.species ≢ 0 = subst (λ (q : Traits). q.species ≢ 0) at (k.named (place - 1) (omega (arith, low, high, all))) in
    subst (λ (z : Faces). Appeared ts z (record t { active = a })) (sym (comes-faces m.species place m.level h x low (omega (arith, high, few)))) (record {
      same = k.same;
      place = sym out;
      six = length-map _ face ∙ length-set x.members (place - 1) _ ∙ six;
      few = k.few;
      named = k.named;
      out = λ z. subst (λ (i : ℕ). i ≢ 0) (sym (comes-face m.species place m.level h x low inside)) species;
      last = λ e. absurd (e refl);
      shows = comes-shows m place x h ts low inside e at k.shows;
    })

member-out : (place : ℕ) (t : Party) → member_at (with_sent_out place (member_at place t) t.active).place t ≡ member_at place t
member-out place t = ap (λ (i : ℕ). member_at i t) (sent-place place (member_at place t) t.active)

sent-appears : (k : Teams) (s : Side) (place : ℕ) (f : Field) (p : Public) → 1 ≤ place → place ≤ length (party s f).members → Appears k f p
    → Appears k (sent s place f) (takes_in (switch_event s place (sent s place f)) p)
unfolding changed_active changed_conditions
sent-appears k One place f p low high m =
    let g : Field = sent One place f in
    subst (Appears k g) (sym (switch-hears (who_in One g) place (member_in One g).level (health_in One g) p)) (record {
      one = sent-appeared k.one p.one f.one place (member_in One g) (health_in One g) low high refl (member-out place f.one)
          (with_sent_out place (member_at place f.one) f.one.active) (sent-place place (member_at place f.one) f.one.active) m.one;
      two = record { same = m.two.same; place = m.two.place; six = m.two.six; few = m.two.few; named = m.two.named; out = m.two.out; last = m.two.last; shows = m.two.shows };
    })
sent-appears k Two place f p low high m =
    let g : Field = sent Two place f in
    subst (Appears k g) (sym (switch-hears (who_in Two g) place (member_in Two g).level (health_in Two g) p)) (record {
      one = record { same = m.one.same; place = m.one.place; six = m.one.six; few = m.one.few; named = m.one.named; out = m.one.out; last = m.one.last; shows = m.one.shows };
      two = sent-appeared k.two p.two f.two place (member_in Two g) (health_in Two g) low high refl (member-out place f.two)
          (with_sent_out place (member_at place f.two) f.two.active) (sent-place place (member_at place f.two) f.two.active) m.two;
    })

-- An event has the health of the member that shows, and a switch names one of six places

max-shown : (ts : List Traits) (x : PublicSide) (t : Party) → Appeared ts (faces x) t → x.place ≢ 0 → (member_at t.active.place t).max ≡ (seen_at x.place x).max
max-shown ts x t m z =
    let i : ℕ = x.place - 1 in
    let at : get_or ts i no_traits ≡ traits (member_at x.place t) =
    ap (λ (qs : List Traits). get_or qs i no_traits) (sym m.same) ∙ get_or-map traits t.members i nobody in
    ap (λ (place : ℕ). (member_at place t).max) (sym m.place) ∙ sym (ap (λ (q : Traits). q.max) at) ∙ sym ((m.shows i).is (m.out z)).2
    ∙ ap (λ (s : Face). s.max) (get_or-map face x.members i not_seen)

health-shown : (k : Teams) (s : Side) (f : Field) (p : Public) → Appears k f p → (public_side s p).place ≢ 0
    → (health_in s f).max ≡ (seen_at (public_side s p).place (public_side s p)).max
health-shown k One f p m z = max-shown k.one p.one f.one m.one z
health-shown k Two f p m z = max-shown k.two p.two f.two m.two z

noise-tellable : (k : Teams) (e : Event) (f : Field) → Noise f e → (p : Public) → Appears k f p → Tellable e p
noise-tellable k (events.Damage w h source) f n p m = λ z. ap (λ (q : Health). q.max) n ∙ health-shown k w.side f p m z
noise-tellable k (events.Heal w h) f n p m = λ z. ap (λ (q : Health). q.max) n ∙ health-shown k w.side f p m z
noise-tellable k (events.Switch w place level h) f n p m = absurd (true≢false (sym n))
noise-tellable k _ f n p m = tt

place-tellable : (ts : List Traits) (x : PublicSide) (t : Party) (place : ℕ) → Appeared ts (faces x) t → 1 ≤ place → place ≤ length t.members
    → (place ≤ 6) × ((member_at place t).species ≢ 0)
place-tellable ts x t place m low high =
    let few = counted ts (faces x) t m in
    let all : length t.members ≡ length ts = sym (length-map t.members traits) ∙ ap length m.same in
    let at : get_or ts (place - 1) no_traits ≡ traits (member_at place t) =
    ap (λ (qs : List Traits). get_or qs (place - 1) no_traits) (sym m.same) ∙ get_or-map traits t.members (place - 1) nobody in
    (omega (arith, high, few), subst (λ (q : Traits). q.species ≢ 0) at (m.named (place - 1) (omega (arith, low, high, all))))

sent-tellable : (k : Teams) (s : Side) (place : ℕ) (f : Field) (p : Public) → 1 ≤ place → place ≤ length (party s f).members → Appears k f p
    → Tellable (switch_event s place (sent s place f)) p
unfolding changed_active changed_conditions
sent-tellable k One place f p low high m =
    let is = place-tellable k.one p.one f.one place m.one low high in
    (low, is.0, subst (λ (x : Member). x.species ≢ 0) (sym (member-out place f.one)) is.1)
sent-tellable k Two place f p low high m =
    let is = place-tellable k.two p.two f.two place m.two low high in
    (low, is.0, subst (λ (x : Member). x.species ≢ 0) (sym (member-out place f.two)) is.1)

abbrev told_by : List Event → Public
told_by es = hears_all es first_public

-- The stories: of a whole battle, and of an action whose move is settled

start-begins : (w : Who) (what : Volatile) (p : Public) → takes_in (events.Start w what) p ≡ begins w.side what p
unfolding takes_in
start-begins w what p = refl

-- What a member that recharges knows

abbrev rests_by : List ℕ → Bool
rests_by ids = any (λ (j : ℕ). recharges (move_at j).effect) ids

abbrev ids_of : List Traits → Party → List ℕ
ids_of ts t = (get_or ts (t.active.place - 1) no_traits).moves

record Rest (k : Teams) (f : Field) (p : Public) : Type 0 where
  one : p.one.announced.recharging ≢ 0 → rests_by (ids_of k.one f.one) ≡ true
  two : p.two.announced.recharging ≢ 0 → rests_by (ids_of k.two f.two) ≡ true

module _ {k : Teams} where
  rest-active : (s : Side) (change : Active → Active) → ((a : Active) → (change a).place ≡ a.place) → (f : Field) (p : Public) → Rest k f p → Rest k (changed_active s change f) p
  unfolding changed_active
  rest-active One change h f p m = record { one = λ e. ap (λ (i : ℕ). rests_by (get_or k.one (i - 1) no_traits).moves) (h f.one.active) ∙ m.one e; two = m.two }
  rest-active Two change h f p m = record { one = m.one; two = λ e. ap (λ (i : ℕ). rests_by (get_or k.two (i - 1) no_traits).moves) (h f.two.active) ∙ m.two e }

  rest-member : (s : Side) (change : Member → Member) (f : Field) (p : Public) → Rest k f p → Rest k (changed_member s change f) p
  unfolding changed_member
  rest-member One change f p m = record { one = m.one; two = m.two }
  rest-member Two change f p m = record { one = m.one; two = m.two }

  rest-apart : (f g : Field) (p : Public) → f.one ≡ g.one → f.two ≡ g.two → Rest k f p → Rest k g p
  rest-apart f g p a b m = record {
    one = λ e. sym (ap (λ (t : Party). rests_by (ids_of k.one t)) a) ∙ m.one e;
    two = λ e. sym (ap (λ (t : Party). rests_by (ids_of k.two t)) b) ∙ m.two e;
  }

  rest-less : (f : Field) (p q : Public) → ((u : Side) → Less (public_side u q) (public_side u p)) → Rest k f p → Rest k f q
  rest-less f p q h m = record { one = λ e. m.one (h One e); two = λ e. m.two (h Two e) }

-- A member of which recharging is announced
rest-raised : {k : Teams} (s : Side) (f : Field) (p : Public) → rests_by (ids_of (team_of s k) (party s f)) ≡ true → Rest k f p
    → Rest k f (on_out s (on_announced (λ a. record a { recharging = 1 })) p)
unfolding on_out
rest-raised One f p h m = record { one = λ e. h; two = m.two }
rest-raised Two f p h m = record { one = m.one; two = λ e. h }

any-rests : (n : ℕ) (ids : List ℕ) → recharges (move_at n).effect ≡ true → any (λ (j : ℕ). j == n) ids ≡ true → rests_by ids ≡ true
any-rests n [] c e = e
any-rests n (j ∷ ids) c e = rests-or (eqb_tells j n) (any-rests n ids c)
  where
    later : (a b : Bool) → b ≡ true → (a || b) ≡ true
    later true b h = refl
    later false b h = h

    rest : (a b : Bool) → a ≡ false → (a || b) ≡ true → b ≡ true
    rest true b h k = absurd (true≢false h)
    rest false b h k = k

    rests-or : (((j == n) ≡ true) × (j ≡ n)) ⊎ (((j == n) ≡ false) × (j ≢ n)) → (any (λ (i : ℕ). i == n) ids ≡ true → rests_by ids ≡ true) → rests_by (j ∷ ids) ≡ true
    rests-or (inl x) k = ap (λ (b : Bool). b || rests_by ids) (ap (λ (i : ℕ). recharges (move_at i).effect) x.1 ∙ c)
    rests-or (inr x) k = later (recharges (move_at j).effect) (rests_by ids) (k (rest (j == n) (any (λ (i : ℕ). i == n) ids) x.0 e))

struggles-on : recharges (move_at struggle).effect ≡ false
unfolding move_rows move_row
struggles-on = refl

nothing-rests : recharges (move_at 0).effect ≡ false
unfolding move_rows move_row
nothing-rests = refl

allowed-rests : (n : ℕ) (ids : List ℕ) → Allowed ids n → recharges (move_at n).effect ≡ true → rests_by ids ≡ true
allowed-rests n ids h c = by (eqb_tells n 0)
  where
    of : (n ≡ struggle) ⊎ (any (λ (j : ℕ). j == n) ids ≡ true) → rests_by ids ≡ true
    of (inl e) = absurd (true≢false (sym c ∙ ap (λ (i : ℕ). recharges (move_at i).effect) e ∙ struggles-on))
    of (inr e) = any-rests n ids c e

    by : (((n == 0) ≡ true) × (n ≡ 0)) ⊎ (((n == 0) ≡ false) × (n ≢ 0)) → rests_by ids ≡ true
    by (inl e) = absurd (true≢false (sym c ∙ ap (λ (i : ℕ). recharges (move_at i).effect) e.1 ∙ nothing-rests))
    by (inr e) = of (h e.1)

usable-rests : (k : Teams) (s : Side) (n : ℕ) (f : Field) → Usable k s n f → recharges (move_at n).effect ≡ true → rests_by (ids_of (team_of s k) (party s f)) ≡ true
usable-rests k One n f h c = allowed-rests n _ h c
usable-rests k Two n f h c = allowed-rests n _ h c

-- A member that comes out

both-true : (a b : Bool) → a ≡ true → b ≡ true → (a && b) ≡ true
both-true a b e h = ap (λ (x : Bool). x && b) e ∙ h

out-rests : (species place level : ℕ) (h : Health) (x : PublicSide) → 1 ≤ place → place ≤ 6 → (comes_out species place level h x).announced.recharging ≡ 0
out-rests species place level h x low high = ap (λ (d : Bool). (if d then side_out species place level h x else x).announced.recharging) (both-true (nat_le 1 place) (nat_le place 6) (le-leb 1 place low) (le-leb place 6 high))

rest-comes : (k : Teams) (s : Side) (place : ℕ) (f : Field) (p : Public) → 1 ≤ place → place ≤ 6 → Rest k f p → Rest k (sent s place f) (takes_in (switch_event s place (sent s place f)) p)
unfolding changed_active changed_conditions
rest-comes k One place f p low high m =
    let g : Field = sent One place f in
    subst (Rest k g) (sym (switch-hears (who_in One g) place (member_in One g).level (health_in One g) p)) (record {
      one = λ e. absurd (e (out-rests (member_in One g).species place (member_in One g).level (health_in One g) p.one low high));
      two = m.two;
    })
rest-comes k Two place f p low high m =
    let g : Field = sent Two place f in
    subst (Rest k g) (sym (switch-hears (who_in Two g) place (member_in Two g).level (health_in Two g) p)) (record {
      one = m.one;
      two = λ e. absurd (e (out-rests (member_in Two g).species place (member_in Two g).level (health_in Two g) p.two low high));
    })

place-six : (k : Teams) (s : Side) (place : ℕ) (f : Field) (p : Public) → place ≤ length (party s f).members → Appears k f p → place ≤ 6
place-six k One place f p high m = let few = counted k.one (faces p.one) f.one m.one in omega (arith, high, few)
place-six k Two place f p high m = let few = counted k.two (faces p.two) f.two m.two in omega (arith, high, few)

rest-sent : (k : Teams) (s : Side) (place : ℕ) (f : Field) (es : List Event) → 1 ≤ place → place ≤ length (party s f).members → Appears k f (told_by es) → Rest k f (told_by es)
    → Rest k (sent s place f) (told_by (es ++ switch_event s place (sent s place f) ∷ []))
rest-sent k s place f es low high a m =
    let e : Event = switch_event s place (sent s place f) in
    let p : Public = settled e (told_by es) in
    subst (Rest k (sent s place f)) (sym (hears_all-last es e first_public ∙ hears-in e (told_by es)))
    (rest-comes k s place f p low (place-six k s place f (told_by es) high a) (rest-less f (told_by es) p (λ u. settled-less e u (told_by es)) m))

-- A further fact about the places of active members.
record Further (U : Field → Type 0) : Type 0 where
  active : (s : Side) (change : Active → Active) → ((a : Active) → (change a).place ≡ a.place) → (f : Field) → U f → U (changed_active s change f)
  member : (s : Side) (change : Member → Member) (f : Field) → U f → U (changed_member s change f)
  apart : (f g : Field) → f.one ≡ g.one → f.two ≡ g.two → U f → U g

record With (k : Teams) (U : Field → Type 0) (f : Field) (es : List Event) : Type 0 where
  appears : Appears k f (told_by es)
  more : U f
  each : AllTellable es first_public
  rest : Rest k f (told_by es)

out-conditions : (s : Side) (change : ActiveConditions → ActiveConditions) (f : Field) → BothOut f → BothOut (changed_conditions s change f)
out-conditions s change f o = (keeps-conditions s change).both f o

fallen-tame : Tame fallen
unfolding fallen
fallen-tame m = refl

module _ {k : Teams} {U : Field → Type 0} (u : Further U) where
  with-settled : (f : Field) (es : List Event) (e : Event) → With k U f es → Appears k f (settled e (told_by es))
  with-settled f es e m = appears-heard f (told_by es) (settled e (told_by es)) (λ s. settled-faces e s (told_by es)) m.appears

  rest-before : (f : Field) (es : List Event) (e : Event) → With k U f es → Rest k f (settled e (told_by es))
  rest-before f es e m = rest-less f (told_by es) (settled e (told_by es)) (λ s. settled-less e s (told_by es)) m.rest

  rest-next : (f : Field) (es : List Event) (e : Event) → Rest k f (takes_in e (settled e (told_by es))) → Rest k f (told_by (es ++ e ∷ []))
  rest-next f es e m = subst (Rest k f) (sym (hears_all-last es e first_public ∙ hears-in e (told_by es))) m

  with-last : (f : Field) (es : List Event) (e : Event) → ((s : Side) (p : Public) → faces (public_side s (takes_in e p)) ≡ faces (public_side s p))
      → ((s : Side) (p : Public) → Less (public_side s (takes_in e p)) (public_side s p)) → Tellable e (told_by es) → With k U f es → With k U f (es ++ e ∷ [])
  with-last f es e h l fits m = record {
    rest = rest-next f es e (rest-less f (settled e (told_by es)) _ (λ s. l s (settled e (told_by es))) (rest-before f es e m));
    appears = let p : Public = settled e (told_by es) in
        subst (Appears k f) (sym (hears_all-last es e first_public ∙ hears-in e (told_by es))) (appears-heard f p (takes_in e p) (λ s. h s p) (with-settled f es e m));
    more = m.more;
    each = tellable-last es e first_public m.each fits;
  }

  with-noise : (e : Event) (f : Field) → Noise f e → (es : List Event) → With k U f es → With k U f (es ++ e ∷ [])
  with-noise e f h es m = with-last f es e (λ s p. noise-faces e (noise-is f e h) s p) (λ s p. noise-less e (noise-is f e h) s p) (noise-tellable k e f h (told_by es) m.appears) m

  with-active : (s : Side) (change : Active → Active) → ((a : Active) → (change a).place ≡ a.place) → (f : Field) (es : List Event) → With k U f es → With k U (changed_active s change f) es
  with-active s change h f es m = record { appears = appears-active s change h f (told_by es) m.appears; more = u.active s change h f m.more; each = m.each; rest = rest-active s change h f (told_by es) m.rest }

  with-conditions : (s : Side) (change : ActiveConditions → ActiveConditions) (f : Field) (es : List Event) → With k U f es → With k U (changed_conditions s change f) es
  unfolding changed_conditions
  with-conditions s change f es m = with-active s (λ a. record a { conditions = change a.conditions }) (λ a. refl) f es m

  with-sickened : (s : Side) (move : Move) (f : Field) (es : List Event) → With k U f es → With k U (sickened s move f) es
  with-sickened s move f es m = by (move.number == toxic)
    where
      by : (e : Bool) → With k U (if e then changed_conditions (other s) with_bad_poison f else f) es
      by true = with-conditions (other s) with_bad_poison f es m
      by false = m

  with-member : (s : Side) (change : Member → Member) → Tame change → (f : Field) (es : List Event) → With k U f es → With k U (changed_member s change f) es
  with-member s change h f es m = record { appears = appears-member s change h f (told_by es) m.appears; more = u.member s change f m.more; each = m.each; rest = rest-member s change f (told_by es) m.rest }

  -- A change of a member that its event tells nothing of
  with-changed : (s : Side) (change : Member → Member) → Tame change → (event : Who → Event) → ((w : Who) → is_noise (event w) ≡ true) → ((w : Who) (p : Public) → Tellable (event w) p)
      → (f : Field) (es : List Event) → With k U f es → let g : Field = changed_member s change f in With k U g (es ++ event (who_in s g) ∷ [])
  with-changed s change h event n t f es m =
      let g : Field = changed_member s change f in
      let e : Event = event (who_in s g) in
      with-last g es e (λ u p. noise-faces e (n (who_in s g)) u p) (λ u p. noise-less e (n (who_in s g)) u p) (t (who_in s g) (told_by es)) (with-member s change h f es m)

  with-apart : (f g : Field) (es : List Event) → f.one ≡ g.one → f.two ≡ g.two → With k U f es → With k U g es
  with-apart f g es a b m = record { appears = appears-apart f g (told_by es) a b m.appears; more = u.apart f g a b m.more; each = m.each; rest = rest-apart f g (told_by es) a b m.rest }

  with-start : (w : Who) (what : Volatile) → is_bide what ≡ false → (f : Field) (es : List Event) → With k U f es → With k U f (es ++ events.Start w what ∷ [])
  with-start w what b f es m = with-last f es (events.Start w what)
      (λ s p. ap (λ (q : Public). faces (public_side s q)) (start-begins w what p) ∙ start-faces w.side what b s p) (λ s p. less-path s p (start-begins w what p) (start-less w.side what s p)) tt m

  with-end : (w : Who) (what : Volatile) (f : Field) (es : List Event) → With k U f es → With k U f (es ++ events.End w what ∷ [])
  with-end w what f es m = with-last f es (events.End w what)
      (λ s p. ap (λ (q : Public). faces (public_side s q)) (end-hears w what p) ∙ end-faces w.side what s p) (λ s p. less-path s p (end-hears w what p) (end-less w.side what s p)) tt m

  with-clear : (f : Field) (es : List Event) → With k U f es → With k U (with_cleared Two (with_cleared One f)) (es ++ events.ClearAll ∷ [])
  unfolding with_levelled_stats
  with-clear f es m = with-last _ es events.ClearAll
      (λ s p. ap (λ (q : Public). faces (public_side s q)) (clear-hears p) ∙ clear-faces s p) (λ s p. less-path s p (clear-hears p) (clear-less s p)) tt
      (with-conditions Two after_haze _ es (with-active Two with_levelled_stats (λ a. refl) _ es
      (with-conditions One after_haze _ es (with-active One with_levelled_stats (λ a. refl) f es m))))

  with-convert : (s : Side) (f : Field) (es : List Event) → With k U f es
      → let g : Field = changed_active s (with_types_of (active_in (other s) f)) f in With k U g (es ++ events.Start (who_in s g) volatiles.TypeChange ∷ [])
  unfolding with_types_of
  with-convert s f es m = with-start _ volatiles.TypeChange refl _ es (with-active s (with_types_of (active_in (other s) f)) (λ a. refl) f es m)

  with-move : (s : Side) (move : Move) → ((f : Field) → U f → Usable k s move.number f) → (f : Field) (es : List Event) → BothOut f → With k U f es
      → With k U f (es ++ events.Move (who_in s f) move.number (who_in (other s) f) ∷ [])
  with-move s move h f es o m =
      let n : ℕ = move.number in
      let e : Event = events.Move (who_in s f) n (who_in (other s) f) in
      let p : Public = settled e (told_by es) in
      record {
        appears = subst (Appears k f) (sym (hears_all-last es e first_public ∙ hears-in e (told_by es) ∙ move-hears (who_in s f) (who_in (other s) f) n p))
            (appears-heard f (on_out s (uses_move n) p) _ (λ t. suffers-same (other s) t n (on_out s (uses_move n) p))
            (acted k s (new_uses n) n (uses_move n) (λ x. refl) f p o (h f m.more) (with-settled f es e m)));
        more = m.more;
        each = tellable-last es e first_public m.each tt;
        rest = rest-next f es e (rest-less f p _ (λ t. less-path t p (move-hears (who_in s f) (who_in (other s) f) n p) (move-less s t n p)) (rest-before f es e m));
      }

  with-prepare : (s : Side) (move : Move) → ((f : Field) → U f → Usable k s move.number f) → (f : Field) (es : List Event) → BothOut f → With k U f es
      → With k U f (es ++ events.Prepare (who_in s f) move.number ∷ [])
  with-prepare s move h f es o m =
      let n : ℕ = move.number in
      let e : Event = events.Prepare (who_in s f) n in
      let p : Public = settled e (told_by es) in
      record {
        appears = subst (Appears k f) (sym (hears_all-last es e first_public ∙ hears-in e (told_by es) ∙ prepare-hears (who_in s f) n p))
            (acted k s (λ x. 0) n (prepares n) (λ x. refl) f p o (h f m.more) (with-settled f es e m));
        more = m.more;
        each = tellable-last es e first_public m.each tt;
        rest = rest-next f es e (rest-less f p _ (λ t. less-path t p (prepare-hears (who_in s f) n p) (prepare-less s t n p)) (rest-before f es e m));
      }

  with-stores : (s : Side) (move : Move) → ((f : Field) → U f → Usable k s move.number f) → bides (move_at move.number).effect ≡ true → (turns : ℕ) (f : Field) (es : List Event)
      → BothOut f → With k U f es → let g : Field = changed_conditions s (with_bide turns) f in With k U g (es ++ events.Start (who_in s g) volatiles.Bide ∷ [])
  with-stores s move h c turns f es o m =
      let g : Field = changed_conditions s (with_bide turns) f in
      let w : With k U g es = with-conditions s (with_bide turns) f es m in
      let e : Event = events.Start (who_in s g) volatiles.Bide in
      let p : Public = settled e (told_by es) in
      record {
        appears = subst (Appears k g) (sym (hears_all-last es e first_public ∙ hears-in e (told_by es) ∙ bide-hears (who_in s g) p))
            (acted k s (λ x. 1) bide starts_bide (λ x. refl) g p (out-conditions s (with_bide turns) f o)
            (subst (λ (i : ℕ). Usable k s i g) (bide-number move.number c) (h g w.more)) (with-settled g es e w));
        more = w.more;
        each = tellable-last es e first_public m.each tt;
        rest = rest-next g es e (rest-less g p _ (λ t. less-path t p (bide-hears (who_in s g) p) (start-less s volatiles.Bide t p)) (rest-before g es e w));
      }

  with-rest : (s : Side) (move : Move) → ((f : Field) → U f → Usable k s move.number f) → recharges (move_at move.number).effect ≡ true → (f : Field) (es : List Event) → With k U f es
      → let g : Field = changed_conditions s with_recharge f in With k U g (es ++ events.MustRecharge (who_in s g) ∷ [])
  with-rest s move h c f es m =
      let g : Field = changed_conditions s with_recharge f in
      let w : With k U g es = with-conditions s with_recharge f es m in
      let e : Event = events.MustRecharge (who_in s g) in
      let p : Public = settled e (told_by es) in
      record {
        appears = subst (Appears k g) (sym (hears_all-last es e first_public ∙ hears-in e (told_by es))) (appears-heard g p (takes_in e p) (λ t. rest-faces (who_in s g) t p) (with-settled g es e w));
        more = w.more;
        each = tellable-last es e first_public m.each tt;
        rest = rest-next g es e (subst (Rest k g) (sym (rest-hears (who_in s g) p)) (rest-raised s g p (usable-rests k s move.number g (h g w.more) c) (rest-before g es e w)));
      }

appearing : (k : Teams) (U : Field → Type 0) → Further U → Story
appearing k U u = record {
  exact = With k U;
  loose = With k U;
  said = λ s move. ((f : Field) → U f → Usable k s move.number f) × (move.effect ≡ (move_at move.number).effect);
  acted = λ s move. Unit {0};
  knows = λ s move. ((f : Field) → U f → Usable k s move.number f) × (move.effect ≡ (move_at move.number).effect);
  lulled = λ s turns marked. Unit {0};
  upright = λ s. Unit {0};
  loosen = λ f es m. m;
  tighten = λ f es m a b. m;
  member = λ s change h r f es w m. with-member u s change (sparing-tame change h) f es m;
  cures = λ s change kind h f es o a m. with-changed u s change (sparing-tame change h) (λ w. events.Cure w kind) (λ w. refl) (λ w p. tt) f es m;
  sleeps = λ s turns marked l f es o m. with-changed u s (with_status (Asleep turns marked)) (status-tame (Asleep turns marked)) (λ w. events.Status w kinds.Sleep) (λ w. refl) (λ w p. tt) f es m;
  active = λ s change h f es m. with-active u s change (λ a. ap (λ (x : Standing). x.place) (h a)) f es m;
  conditions = λ s change h f es m. with-conditions u s change f es m;
  apart = λ f g es a b m. with-apart u f g es a b m;
  noise = λ e f h es m. with-noise u e f (dull-noise f e h) es m;
  poisons = λ s move a f es o m. with-noise u (events.Status (who_in (other s) f) kinds.Poison) (sickened s move f) refl es (with-sickened u s move f es m);
  starts = λ s what change h f es o m. with-start u _ what (starts-otherwise what change h) _ es (with-conditions u s change f es m);
  stores = λ s move h e turns f es o m. with-stores u s move h.0 (ap bides (sym h.1) ∙ e) turns f es o m;
  ends = λ s what change h f es o m. with-end u _ what _ es (with-conditions u s change f es m);
  converts = λ s f es o m. with-convert u s f es m;
  clears = λ f es o m. with-clear u f es m;
  moves = λ s move h f es o m. with-move u s move h.0 f es o m;
  prepares = λ s move h f es o m. with-prepare u s move h.0 f es o m;
  explodes = λ s a f es o m. with-conditions u s without_seed _ es (with-member u s fallen fallen-tame f es m);
  rests = λ s move h e f es o m. with-rest u s move h.0 (ap recharges (sym h.1) ∙ e) f es m;
  loose_active = λ s change h f es m. with-active u s change (λ a. ap (λ (x : Standing). x.place) (h a)) f es m;
  loose_apart = λ f g es a b m. with-apart u f g es a b m;
  loose_noise = λ e f h es m. with-noise u e f (dull-noise f e h) es m;
  loose_falls = λ s f es o m. with-changed u s fallen fallen-tame (λ w. events.Faint w) (λ w. refl) (λ w p. tt) f es m;
}

appearing-outline : (k : Teams) (U : Field → Type 0) (u : Further U) → Outline (appearing k U u)
unfolding appearing with_current_move
appearing-outline k U u = record {
  takes = λ s used f es m. with-active u s (with_current_move used) (λ a. refl) f es m;
  spends = λ s move k used f es m. with-member u s (with_pp_spent used) (spent-tame used) f es m;
  mild = λ s change h f es m. with-conditions u s change f es m;
  noise = λ e f h es m. with-noise u e f h es m;
  acts = λ s move. tt;
  knows = λ s move h. h;
}

appearing-dozes : (k : Teams) (U : Field → Type 0) (u : Further U) → Dozing (appearing k U u)
unfolding appearing
appearing-dozes k U u = record {
  dozes = λ s turns marked f es o a h m. with-changed u s with_sleep_one_less (sparing-tame with_sleep_one_less sleep-tame) (λ w. events.Cant w reasons.Asleep) (λ w. refl) (λ w p. tt) f es m;
}

nothing-further : Further (λ f. Unit {0})
nothing-further = record { active = λ s change h f m. tt; member = λ s change f m. tt; apart = λ f g a b m. tt }

abbrev of_battle : Teams → Story
of_battle k = appearing k (λ f. Unit {0}) nothing-further

sent-last : (k : Teams) (s : Side) (place : ℕ) (f : Field) (es : List Event) → 1 ≤ place → place ≤ length (party s f).members → Appears k f (told_by es)
    → Appears k (sent s place f) (told_by (es ++ switch_event s place (sent s place f) ∷ []))
sent-last k s place f es low high m =
    let e : Event = switch_event s place (sent s place f) in
    let p : Public = settled e (told_by es) in
    subst (Appears k (sent s place f)) (sym (hears_all-last es e first_public ∙ hears-in e (told_by es)))
    (sent-appears k s place f p low high (appears-heard f (told_by es) p (λ u. settled-faces e u (told_by es)) m))

battle-switches : (k : Teams) → Switching (of_battle k)
unfolding appearing
battle-switches k = record {
  sends = λ s place f es low high m. record {
    appears = sent-last k s place f es low high m.appears;
    more = tt;
    each = tellable-last es _ first_public m.each (sent-tellable k s place f (told_by es) low high m.appears);
    rest = rest-sent k s place f es low high m.appears m.rest;
  };
  loose_sends = λ s place f es low high m. record {
    appears = sent-last k s place f es low high m.appears;
    more = tt;
    each = tellable-last es _ first_public m.each (sent-tellable k s place f (told_by es) low high m.appears);
    rest = rest-sent k s place f es low high m.appears m.rest;
  };
}

-- That a move is usable depends only on who is out

abbrev at_place : Teams → Side → ℕ → ℕ → Type 0
at_place k s n place = Allowed (get_or (team_of s k) (place - 1) no_traits).moves n

usable-active : (k : Teams) (n : ℕ) (t s : Side) (change : Active → Active) → ((a : Active) → (change a).place ≡ a.place) → (f : Field)
    → Usable k t n f → Usable k t n (changed_active s change f)
unfolding changed_active
usable-active k n One One change h f m = subst (at_place k One n) (sym (h f.one.active)) m
usable-active k n One Two change h f m = m
usable-active k n Two One change h f m = m
usable-active k n Two Two change h f m = subst (at_place k Two n) (sym (h f.two.active)) m

usable-member : (k : Teams) (n : ℕ) (t s : Side) (change : Member → Member) (f : Field) → Usable k t n f → Usable k t n (changed_member s change f)
unfolding changed_member
usable-member k n One One change f m = m
usable-member k n One Two change f m = m
usable-member k n Two One change f m = m
usable-member k n Two Two change f m = m

usable-apart : (k : Teams) (n : ℕ) (t : Side) (f g : Field) → f.one ≡ g.one → f.two ≡ g.two → Usable k t n f → Usable k t n g
usable-apart k n One f g a b m = subst (λ (x : Party). at_place k One n x.active.place) a m
usable-apart k n Two f g a b m = subst (λ (x : Party). at_place k Two n x.active.place) b m

usable-further : (k : Teams) (s : Side) (n : ℕ) → Further (Usable k s n)
usable-further k s n = record { active = usable-active k n s; member = usable-member k n s; apart = usable-apart k n s }

abbrev of_action : Teams → Side → ℕ → Story
of_action k s n = appearing k (Usable k s n) (usable-further k s n)

-- The move that a side takes up is usable.
taken-usable : (k : Teams) (s : Side) (pick : Pick) (f : Field) (p : Public) → Appears k f p → Usable k s (number_in (used_by pick (active_in s f).current_move) (member_in s f).moves) f
taken-usable k One pick f p m = subst (λ (q : Traits). Allowed q.moves (number_in (used_by pick f.one.active.current_move) (member_in One f).moves))
    (sym (ap (λ (qs : List Traits). get_or qs (f.one.active.place - 1) no_traits) (sym m.one.same) ∙ get_or-map traits f.one.members (f.one.active.place - 1) nobody))
    (used-is-allowed (used_by pick f.one.active.current_move) (member_in One f))
taken-usable k Two pick f p m = subst (λ (q : Traits). Allowed q.moves (number_in (used_by pick f.two.active.current_move) (member_in Two f).moves))
    (sym (ap (λ (qs : List Traits). get_or qs (f.two.active.place - 1) no_traits) (sym m.two.same) ∙ get_or-map traits f.two.members (f.two.active.place - 1) nobody))
    (used-is-allowed (used_by pick f.two.active.current_move) (member_in Two f))

forget : (k : Teams) (s : Side) (i : ℕ) (n : Sizes) (pre : List Event) (q : Progress) → Lands (MayFall (of_action k s i) n pre) (MayFall (of_action k s i) n pre) q
    → Lands (MayFall (of_battle k) n pre) (MayFall (of_battle k) n pre) q
unfolding appearing
forget k s i n pre q (Runs r m) = Runs r (record { begun = m.begun; loose = record { appears = m.loose.appears; more = tt; each = m.loose.each; rest = m.loose.rest } })
forget k s i n pre q (Rests r m) = Rests r (record { begun = m.begun; loose = record { appears = m.loose.appears; more = tt; each = m.loose.each; rest = m.loose.rest } })

says : (k : Teams) (n : Sizes) (pre : List Event) (t : Terms) → Says (of_battle k) n pre (ruling_of t)
unfolding given appearing
says k n pre t s pick = record {
  leads = λ p r m.
      let i : ℕ = number_in (used_by pick (active s p).current_move) (member s p).moves in
      forget k s i n pre _ ((carry_out-tells {v = of_action k s i} {z = n} {pre = pre} (appearing-outline k (Usable k s i) (usable-further k s i)) (ruling_of t) (ruling_of-tells t) s pick (move_taken_in s pick p.field) refl (λ f u. u, refl) (λ u turns marked. tt) tt).leads p r
      (record { begun = m.begun; exact = record { appears = m.exact.appears; more = taken-usable k s pick p.field (told_by (pre ++ p.events)) m.exact.appears; each = m.exact.each; rest = m.exact.rest } }));
}

-- What is left of it

any-known : (test : ℕ → Bool) (moves : List KnownMove) → any test (map (λ (k : KnownMove). k.id) moves) ≡ any (λ (k : KnownMove). test k.id) moves
any-known test [] = refl
any-known test (m ∷ ms) = ap (λ (b : Bool). test m.id || b) (any-known test ms)

side-appeared : (ts : List Traits) (x : PublicSide) (t : Party) → (x.announced.recharging ≢ 0 → rests_by (ids_of ts t) ≡ true) → Appeared ts (faces x) t → SideHasAppeared x t
side-appeared ts x t r m = record {
  recharging = λ e. sym (any-known (λ (j : ℕ). recharges (move_at j).effect) (member_at t.active.place t).moves)
      ∙ ap (λ (q : Traits). rests_by q.moves) (sym (get_or-map traits t.members (t.active.place - 1) nobody) ∙ ap (λ (qs : List Traits). get_or qs (t.active.place - 1) no_traits) m.same) ∙ r e;
  out = λ z. subst (λ (s : Face). s.species ≢ 0) (get_or-map face x.members (x.place - 1) not_seen) (m.out z);
  each = λ place e. shows-seen (seen_at place x) (member_at place t) e
      (subst (λ (s : Face). Shows s (traits (member_at place t))) (get_or-map face x.members (place - 1) not_seen)
      (subst (Shows (get_or (map face x.members) (place - 1) no_face))
      (ap (λ (qs : List Traits). get_or qs (place - 1) no_traits) (sym m.same) ∙ get_or-map traits t.members (place - 1) nobody) (m.shows (place - 1))));
  last_move = allowed-is (member_at t.active.place t) x.last_move (subst (λ (q : Traits). Allowed q.moves x.last_move)
      (ap (λ (qs : List Traits). get_or qs (t.active.place - 1) no_traits) (sym m.same) ∙ get_or-map traits t.members (t.active.place - 1) nobody) m.last);
}

team-named : (team : List Member) → IsTeam team → (i : ℕ) → i < length (map traits team) → (get_or (map traits team) i no_traits).species ≢ 0
team-named team h i low =
    let e = length-map team traits in
    let fresh : IsFresh (get_or team i nobody) = h.members i nobody (omega (arith, e, low)) in
    subst (λ (q : Traits). q.species ≢ 0) (sym (get_or-map traits team i nobody)) (λ z. omega (arith, z, fresh.species.0))

first-appeared : (team : List Member) → IsTeam team → (t : Party) → t.members ≡ team → t.active.place ≡ 0 → Appeared (map traits team) (faces first_public.one) t
first-appeared team h t e z = record {
  same = ap (λ (ms : List Member). map traits ms) e;
  place = sym z;
  six = refl;
  few = let c = length-map team traits in omega (arith, c, h.size.1);
  named = team-named team h;
  out = λ n. absurd (n refl);
  last = λ e. absurd (e refl);
  shows = none-show 6 (map traits team);
}

-- After any run the story of the battle is true.
abbrev Ends : List Member → List Member → Ran → Type 0
Ends one two r = With (record { one = map traits one; two = map traits two }) (λ f. Unit {0}) r.state.field (events_in r)

ends : OfRuns Ends
unfolding hears_all appearing
ends t one two seed pairs a b =
    let k : Teams = record { one = map traits one; two = map traits two } in
    story-runs (of_battle k) t one two seed pairs a b (appearing-outline k (λ f. Unit {0}) nothing-further) (battle-switches k)
    (λ pre. act-tells (appearing-outline k (λ f. Unit {0}) nothing-further) (appearing-dozes k (λ f. Unit {0}) nothing-further) (ruling_of t) (ruling_of-tells t) (says k (sizes_of one two) pre t)) (record {
      appears = record { one = first-appeared one a _ refl refl; two = first-appeared two b _ refl refl };
      more = tt;
      each = tt;
      rest = record { one = λ e. absurd (e refl); two = λ e. absurd (e refl) };
    })

pub members_agree : MembersAgree
members_agree t one two seed pairs a b =
    let r : Ran = run (first_state t one two seed) pairs in
    let m : Ends one two r = ends t one two seed pairs a b in
    (side-appeared (map traits one) (public_of r).one r.state.field.one m.rest.one m.appears.one, side-appeared (map traits two) (public_of r).two r.state.field.two m.rest.two m.appears.two)

pub all-tellable : OfRuns (λ one two r. AllTellable (events_in r) first_public)
all-tellable t one two seed pairs a b = (ends t one two seed pairs a b).each
