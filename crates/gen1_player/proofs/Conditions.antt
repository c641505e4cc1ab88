-- After any run, the types and conditions that the log told of are those of the active members.
use Rattle.gen1_machine.specs.declared.event.CantReason.TheVariants as reasons
use Rattle.std.proofs.Common.{[], Bool, List, ap, arith, false, if◌then◌else◌, length, length-set, not, refl, subst, sym, true, true≢false, ℕ, ◌++◌, ◌-◌, ◌==◌, ◌∙◌, ◌∷◌, ◌≡◌, ◌≤◌}
use Rattle.gen1_tables.specs.Types.{number_of}
use Rattle.gen1_stats.specs.Members.{is_living, Member}
use Rattle.gen1_machine.specs.declared.side.Side.{Side}
use Rattle.gen1_machine.specs.declared.side.Side.TheVariants.{One, Two}
use Rattle.gen1_machine.specs.declared.event.Volatile.{Volatile}
use Rattle.gen1_machine.specs.declared.event.Volatile.TheVariants as volatiles
use Rattle.gen1_machine.specs.declared.event.Event.{Event}
use Rattle.gen1_machine.specs.declared.event.Event.TheVariants as events
use Rattle.gen1_machine.specs.Health.{Health}
use Rattle.gen1_machine.specs.declared.event.Kind.TheVariants as kinds
use Rattle.gen1_machine.specs.declared.side.UsedMove.{UsedMove}
use Rattle.gen1_machine.specs.Moves.{toxic, Move}
use Rattle.gen1_machine.specs.Rules.{bit_of}
use Rattle.gen1_machine.specs.Sides.{other}
use Rattle.gen1_machine.specs.Conditions.{after_haze, with_bad_poison, with_bide, with_recharge, without_seed, without_trapping, ActiveConditions}
use Rattle.gen1_machine.specs.State.{Active, Field, Party, active_in, changed_active, changed_conditions, changed_member, fallen, has_fallen_in, health_in, member_at, member_in, party, who_in, with_current_move, with_member, with_pp_spent, with_types_of, with_sleep_one_less}
use Rattle.gen1_machine.specs.EarlyEffects.{with_levelled_stats}
use Rattle.gen1_machine.specs.SwitchingIn.{switch_event, with_sent_out}
use Rattle.gen1_machine.proofs.Watching.{member-after, BothOut, IsOut}
use Rattle.gen1_player.specs.declared.public.Public.{Public}
use Rattle.gen1_player.specs.declared.public_side.PublicSide.{PublicSide}
use Rattle.gen1_player.specs.Public.{comes_out, first_public, hears_all, is_cleared, on_announced, on_out, public_side, set_volatile, settled, takes_in, takes_types}
use Rattle.gen1_player.specs.True.{ConditionsAgree, SideIsTold}
use Rattle.gen1_player.proofs.Facts.{calm-mild, dull-noise, noise-is, noted, plain_of, sent-place, sent-standing, followed, is_noise, marked, plain, sent, standing, starts-marks, with_cleared, Followed, Marks, Mild, Placid, Plain, Standing, Starts}
use Rattle.gen1_player.proofs.Stories.{Outline, Story, Switching, sickened, slept, Dozing}
use Rattle.gen1_machine.specs.Ruling.{ruling_of}
use Rattle.gen1_player.proofs.ToldEffects.{ruling_of-tells}
use Rattle.gen1_player.proofs.ToldActions.{act-tells, says-any}
use Rattle.gen1_player.proofs.ToldEnds.{story-runs}
use Rattle.gen1_player.proofs.HeardSides.{bide-hears, bides-heard, clear-hears, come_out, comes-heard, end-hears, foe-side, heard, hears-in, hears_all-last, held, known_of, marked-known, move-hears, moves-heard, noise-heard, rest-heard, out-side, prepare-hears, prepares-heard, set-heard, settled-heard, start-hears, starts-begins, switch-hears, types-hears, with_mark, with_types, without_most, Known}

-- One side

record Exact (x : PublicSide) (t : Party) : Type 0 where
  same : heard x ≡ held t
  few : length t.members ≤ 6

abbrev hushed : Known → Known
hushed k = record k { seeded = 0 }

abbrev lives : Party → Bool
lives t = is_living (member_at t.active.place t)

-- A member that fell without an event may have lost Leech Seed.
record Loose (x : PublicSide) (t : Party) : Type 0 where
  rest : hushed (heard x) ≡ hushed (held t)
  living : lives t ≡ true → heard x ≡ held t
  few : length t.members ≤ 6

loosened : (x : PublicSide) (t : Party) → Exact x t → Loose x t
loosened x t m = record { rest = ap hushed m.same; living = λ e. m.same; few = m.few }

tightened : (x : PublicSide) (t : Party) → not (lives t) ≡ false → Loose x t → Exact x t
tightened x t e m = record { same = m.living (by (lives t) e); few = m.few }
  where
    by : (b : Bool) → not b ≡ false → b ≡ true
    by true h = refl
    by false h = absurd (true≢false h)

exact-heard : (x y : PublicSide) (t : Party) → heard y ≡ heard x → Exact x t → Exact y t
exact-heard x y t e m = record { same = e ∙ m.same; few = m.few }

loose-heard : (x y : PublicSide) (t : Party) → heard y ≡ heard x → Loose x t → Loose y t
loose-heard x y t e m = record { rest = ap hushed e ∙ m.rest; living = λ l. e ∙ m.living l; few = m.few }

abbrev with_active : Active → Party → Party
with_active a t = record t { active = a }

abbrev with_conditions : (ActiveConditions → ActiveConditions) → Party → Party
with_conditions change t = record t { active = record t.active { conditions = change t.active.conditions } }

placid-held : (change : Active → Active) → Placid change → (t : Party) → held t ≡ held (with_active (change t.active) t)
placid-held change h t = sym (ap (λ (a : Standing). known_of a (plain a.conditions)) (h t.active))

calm-held : (change : ActiveConditions → ActiveConditions) → Mild change → (t : Party) → held t ≡ held (with_conditions change t)
calm-held change h t = sym (ap (λ (c : Plain). known_of (standing t.active) c) (h t.active.conditions))

exact-active : (change : Active → Active) → Placid change → (x : PublicSide) (t : Party) → Exact x t → Exact x (with_active (change t.active) t)
exact-active change h x t m = record { same = m.same ∙ placid-held change h t; few = m.few }

loose-active : (change : Active → Active) → Placid change → (x : PublicSide) (t : Party) → Loose x t → Loose x (with_active (change t.active) t)
loose-active change h x t m = record {
  rest = m.rest ∙ ap hushed (placid-held change h t);
  living = λ e. m.living (sym (ap (λ (a : Standing). is_living (member_at a.place t)) (h t.active)) ∙ e) ∙ placid-held change h t;
  few = m.few;
}

exact-conditions : (change : ActiveConditions → ActiveConditions) → Mild change → (x : PublicSide) (t : Party) → Exact x t → Exact x (with_conditions change t)
exact-conditions change h x t m = record { same = m.same ∙ calm-held change h t; few = m.few }

loose-conditions : (change : ActiveConditions → ActiveConditions) → Mild change → (x : PublicSide) (t : Party) → Loose x t → Loose x (with_conditions change t)
loose-conditions change h x t m = record { rest = m.rest ∙ ap hushed (calm-held change h t); living = λ e. m.living e ∙ calm-held change h t; few = m.few }

exact-member : (i : ℕ) (n : Member) (x : PublicSide) (t : Party) → Exact x t → Exact x (with_member i n t)
exact-member i n x t m = record { same = m.same; few = rw (length-set t.members (i - 1) n) m.few }

not-living : (b : Bool) → b ≡ false → b ≡ true → ⊥
not-living b e h = true≢false (sym h ∙ e)

fallen-lives : (t : Party) → IsOut t → lives (with_member t.active.place (fallen (member_at t.active.place t)) t) ≡ false
unfolding fallen
fallen-lives t o = ap is_living (member-after t (fallen (member_at t.active.place t)) o)

loose-falls : (x : PublicSide) (t : Party) → IsOut t → Loose x t → Loose x (with_member t.active.place (fallen (member_at t.active.place t)) t)
loose-falls x t o m = record {
  rest = m.rest;
  living = λ e. absurd (not-living _ (fallen-lives t o) e);
  few = rw (length-set t.members (t.active.place - 1) (fallen (member_at t.active.place t))) m.few;
}

explodes-loose : (x : PublicSide) (t : Party) → IsOut t → Exact x t → Loose x (with_conditions without_seed (with_member t.active.place (fallen (member_at t.active.place t)) t))
unfolding without_seed
explodes-loose x t o m = record {
  rest = ap hushed m.same;
  living = λ e. absurd (not-living _ (fallen-lives t o) e);
  few = rw (length-set t.members (t.active.place - 1) (fallen (member_at t.active.place t))) m.few;
}

-- A volatile begins or ends

noted-plain : (what : Volatile) (on : Bool) (x : Followed) → plain_of (noted what on x) ≡ marked what on (plain_of x)
noted-plain volatiles.TypeChange on x = refl
noted-plain volatiles.Mist on x = refl
noted-plain volatiles.FocusEnergy on x = refl
noted-plain volatiles.Disable on x = refl
noted-plain volatiles.Rage on x = refl
noted-plain volatiles.LeechSeed on x = refl
noted-plain volatiles.Confusion on x = refl
noted-plain volatiles.Bide on x = refl
noted-plain volatiles.Substitute on x = refl
noted-plain volatiles.LightScreen on x = refl
noted-plain volatiles.Reflect on x = refl
noted-plain volatiles.Trapped on x = refl
noted-plain volatiles.Splash on x = refl

plain-marks : (what : Volatile) (on : Bool) (change : ActiveConditions → ActiveConditions) (c : ActiveConditions) → followed (change c) ≡ noted what on (followed c)
    → plain (change c) ≡ marked what on (plain c)
plain-marks what on change c e = ap plain_of e ∙ noted-plain what on (followed c)

marks-plain : (what : Volatile) (on : Bool) (change : ActiveConditions → ActiveConditions) → Marks what on change → (c : ActiveConditions) → plain (change c) ≡ marked what on (plain c)
marks-plain volatiles.TypeChange on change h c = absurd h
marks-plain volatiles.Mist on change h c = plain-marks volatiles.Mist on change c (h c)
marks-plain volatiles.FocusEnergy on change h c = plain-marks volatiles.FocusEnergy on change c (h c)
marks-plain volatiles.Disable on change h c = plain-marks volatiles.Disable on change c (h c)
marks-plain volatiles.Rage on change h c = plain-marks volatiles.Rage on change c (h c)
marks-plain volatiles.LeechSeed on change h c = plain-marks volatiles.LeechSeed on change c (h c)
marks-plain volatiles.Confusion on change h c = plain-marks volatiles.Confusion on change c (h c)
marks-plain volatiles.Bide on change h c = plain-marks volatiles.Bide on change c (h c)
marks-plain volatiles.Substitute on change h c = plain-marks volatiles.Substitute on change c (h c)
marks-plain volatiles.LightScreen on change h c = plain-marks volatiles.LightScreen on change c (h c)
marks-plain volatiles.Reflect on change h c = plain-marks volatiles.Reflect on change c (h c)
marks-plain volatiles.Trapped on change h c = plain-marks volatiles.Trapped on change c (h c)
marks-plain volatiles.Splash on change h c = plain-marks volatiles.Splash on change c (h c)

exact-marks : (what : Volatile) (on : Bool) (change : ActiveConditions → ActiveConditions) → Marks what on change → (x : PublicSide) (t : Party)
    → Exact x t → Exact (on_announced (set_volatile what (bit_of on)) x) (with_conditions change t)
exact-marks what on change h x t m = record {
  same = set-heard what (bit_of on) x ∙ ap (with_mark what (bit_of on)) m.same ∙ sym (marked-known what on (standing t.active) (plain t.active.conditions))
      ∙ sym (ap (λ (c : Plain). known_of (standing t.active) c) (marks-plain what on change h t.active.conditions));
  few = m.few;
}

-- A member comes out

sent-held : (place : ℕ) (t : Party) → held (with_active (with_sent_out place (member_at place t) t.active) t) ≡ come_out (member_at place t).species place
sent-held place t = ap (λ (a : Standing). known_of a (plain a.conditions)) (sent-standing place (member_at place t) t.active)

-- Both sides

record Both (f : Field) (p : Public) : Type 0 where
  one : Exact p.one f.one
  two : Exact p.two f.two

record Either (f : Field) (p : Public) : Type 0 where
  one : Loose p.one f.one
  two : Loose p.two f.two

both-active : (s : Side) (change : Active → Active) → Placid change → (f : Field) (p : Public) → Both f p → Both (changed_active s change f) p
unfolding changed_active
both-active One change h f p m = record { one = exact-active change h p.one f.one m.one; two = m.two }
both-active Two change h f p m = record { one = m.one; two = exact-active change h p.two f.two m.two }

both-takes : (s : Side) (used : UsedMove) (f : Field) (p : Public) → Both f p → Both (changed_active s (with_current_move used) f) p
unfolding changed_active with_current_move
both-takes One used f p m = record { one = record { same = m.one.same; few = m.one.few }; two = m.two }
both-takes Two used f p m = record { one = m.one; two = record { same = m.two.same; few = m.two.few } }

either-active : (s : Side) (change : Active → Active) → Placid change → (f : Field) (p : Public) → Either f p → Either (changed_active s change f) p
unfolding changed_active
either-active One change h f p m = record { one = loose-active change h p.one f.one m.one; two = m.two }
either-active Two change h f p m = record { one = m.one; two = loose-active change h p.two f.two m.two }

both-conditions : (s : Side) (change : ActiveConditions → ActiveConditions) → Mild change → (f : Field) (p : Public) → Both f p → Both (changed_conditions s change f) p
unfolding changed_active changed_conditions
both-conditions One change h f p m = record { one = exact-conditions change h p.one f.one m.one; two = m.two }
both-conditions Two change h f p m = record { one = m.one; two = exact-conditions change h p.two f.two m.two }

both-member : (s : Side) (change : Member → Member) (f : Field) (p : Public) → Both f p → Both (changed_member s change f) p
unfolding changed_member
both-member One change f p m = record { one = exact-member f.one.active.place (change (member_in One f)) p.one f.one m.one; two = m.two }
both-member Two change f p m = record { one = m.one; two = exact-member f.two.active.place (change (member_in Two f)) p.two f.two m.two }

both-apart : (f g : Field) (p : Public) → f.one ≡ g.one → f.two ≡ g.two → Both f p → Both g p
both-apart f g p a b m = record { one = subst (Exact p.one) a m.one; two = subst (Exact p.two) b m.two }

either-apart : (f g : Field) (p : Public) → f.one ≡ g.one → f.two ≡ g.two → Either f p → Either g p
either-apart f g p a b m = record { one = subst (Loose p.one) a m.one; two = subst (Loose p.two) b m.two }

both-heard : (f : Field) (p q : Public) → ((u : Side) → heard (public_side u q) ≡ heard (public_side u p)) → Both f p → Both f q
both-heard f p q h m = record { one = exact-heard p.one q.one f.one (h One) m.one; two = exact-heard p.two q.two f.two (h Two) m.two }

either-heard : (f : Field) (p q : Public) → ((u : Side) → heard (public_side u q) ≡ heard (public_side u p)) → Either f p → Either f q
either-heard f p q h m = record { one = loose-heard p.one q.one f.one (h One) m.one; two = loose-heard p.two q.two f.two (h Two) m.two }

placed : (x : PublicSide) (t : Party) → IsOut t → Exact x t → 1 ≤ x.place
placed x t o m = let e : x.place ≡ t.active.place = ap (λ (k : Known). k.place) m.same in omega (arith, o.placed, e)

both-marks : (s : Side) (what : Volatile) (on : Bool) (change : ActiveConditions → ActiveConditions) → Marks what on change → (f : Field) (p : Public)
    → BothOut f → Both f p → Both (changed_conditions s change f) (on_out s (on_announced (set_volatile what (bit_of on))) p)
unfolding changed_active changed_conditions
both-marks One what on change h f p o m = record {
  one = subst (λ (x : PublicSide). Exact x (with_conditions change f.one)) (sym (out-side One (on_announced (set_volatile what (bit_of on))) p (placed p.one f.one o.one m.one)))
      (exact-marks what on change h p.one f.one m.one);
  two = subst (λ (x : PublicSide). Exact x f.two) (sym (foe-side One (on_announced (set_volatile what (bit_of on))) p)) m.two;
}
both-marks Two what on change h f p o m = record {
  one = subst (λ (x : PublicSide). Exact x f.one) (sym (foe-side Two (on_announced (set_volatile what (bit_of on))) p)) m.one;
  two = subst (λ (x : PublicSide). Exact x (with_conditions change f.two)) (sym (out-side Two (on_announced (set_volatile what (bit_of on))) p (placed p.two f.two o.two m.two)))
      (exact-marks what on change h p.two f.two m.two);
}

exact-types : (x y : PublicSide) (t u : Party) → Exact x t → Exact y u → Exact (takes_types y x) (with_active (with_types_of u.active t.active) t)
unfolding with_types_of
exact-types x y t u m k = record {
  same = ap (λ (z : Known). with_types z.first_type z.second_type (heard x)) k.same
      ∙ ap (with_types (number_of u.active.first_type) (number_of u.active.second_type)) m.same;
  few = m.few;
}

both-types : (s : Side) (f : Field) (p : Public) → BothOut f → Both f p
    → Both (changed_active s (with_types_of (active_in (other s) f)) f) (on_out s (takes_types (public_side (other s) p)) p)
unfolding changed_active
both-types One f p o m = record {
  one = subst (λ (x : PublicSide). Exact x (with_active (with_types_of f.two.active f.one.active) f.one)) (sym (out-side One (takes_types p.two) p (placed p.one f.one o.one m.one)))
      (exact-types p.one p.two f.one f.two m.one m.two);
  two = subst (λ (x : PublicSide). Exact x f.two) (sym (foe-side One (takes_types p.two) p)) m.two;
}
both-types Two f p o m = record {
  one = subst (λ (x : PublicSide). Exact x f.one) (sym (foe-side Two (takes_types p.one) p)) m.one;
  two = subst (λ (x : PublicSide). Exact x (with_active (with_types_of f.one.active f.two.active) f.two)) (sym (out-side Two (takes_types p.one) p (placed p.two f.two o.two m.two)))
      (exact-types p.two p.one f.two f.one m.two m.one);
}

abbrev cleared_party : Party → Party
cleared_party t = with_conditions after_haze (with_active (with_levelled_stats t.active) t)

exact-cleared : (x : PublicSide) (t : Party) → Exact x t → Exact (is_cleared x) (cleared_party t)
unfolding after_haze with_levelled_stats
exact-cleared x t m = record { same = ap without_most m.same; few = m.few }

both-cleared : (f : Field) (p : Public) → BothOut f → Both f p → Both (with_cleared Two (with_cleared One f)) (on_out Two is_cleared (on_out One is_cleared p))
unfolding changed_active changed_conditions
both-cleared f p o m =
    let q : Public = on_out One is_cleared p in
    let two : q.two ≡ p.two = foe-side One is_cleared p in
    record {
      one = subst (λ (x : PublicSide). Exact x (cleared_party f.one)) (sym (foe-side Two is_cleared q ∙ out-side One is_cleared p (placed p.one f.one o.one m.one)))
          (exact-cleared p.one f.one m.one);
      two = subst (λ (x : PublicSide). Exact x (cleared_party f.two)) (sym (out-side Two is_cleared q (subst (λ (x : PublicSide). 1 ≤ x.place) (sym two) (placed p.two f.two o.two m.two)) ∙ ap is_cleared two))
          (exact-cleared p.two f.two m.two);
    }

exploded : (s : Side) (f : Field) (p : Public) → BothOut f → Both f p → Either (changed_conditions s without_seed (changed_member s fallen f)) p
unfolding changed_active changed_conditions changed_member
exploded One f p o m = record { one = explodes-loose p.one f.one o.one m.one; two = loosened p.two f.two m.two }
exploded Two f p o m = record { one = loosened p.one f.one m.one; two = explodes-loose p.two f.two o.two m.two }

either-falls : (s : Side) (f : Field) (p : Public) → BothOut f → Either f p → Either (changed_member s fallen f) p
unfolding changed_member
either-falls One f p o m = record { one = loose-falls p.one f.one o.one m.one; two = m.two }
either-falls Two f p o m = record { one = m.one; two = loose-falls p.two f.two o.two m.two }

sent-member : (place : ℕ) (t : Party) → member_at (with_sent_out place (member_at place t) t.active).place t ≡ member_at place t
sent-member place t = ap (λ (i : ℕ). member_at i t) (sent-place place (member_at place t) t.active)

exact-sent : (place level : ℕ) (h : Health) (x : PublicSide) (t : Party) → 1 ≤ place → place ≤ length t.members → length t.members ≤ 6
    → Exact (comes_out (member_at (with_sent_out place (member_at place t) t.active).place t).species place level h x) (with_active (with_sent_out place (member_at place t) t.active) t)
exact-sent place level h x t low high few = record {
  same = comes-heard (member_at (with_sent_out place (member_at place t) t.active).place t).species place level h x low (omega (arith, high, few)) ∙ ap (λ (n : Member). come_out n.species place) (sent-member place t) ∙ sym (sent-held place t);
  few = few;
}

trapping-calm : Mild without_trapping
unfolding without_trapping
trapping-calm c = refl

both-sent : (s : Side) (place : ℕ) (f : Field) (p : Public) → 1 ≤ place → place ≤ length (party s f).members → Both f p
    → Both (sent s place f) (takes_in (switch_event s place (sent s place f)) p)
unfolding changed_active changed_conditions
both-sent One place f p low high m =
    let g : Field = sent One place f in
    subst (Both g) (sym (switch-hears (who_in One g) place (member_in One g).level (health_in One g) p)) (record {
      one = exact-sent place (member_in One g).level (health_in One g) p.one f.one low high m.one.few;
      two = exact-conditions without_trapping trapping-calm p.two f.two m.two;
    })
both-sent Two place f p low high m =
    let g : Field = sent Two place f in
    subst (Both g) (sym (switch-hears (who_in Two g) place (member_in Two g).level (health_in Two g) p)) (record {
      one = exact-conditions without_trapping trapping-calm p.one f.one m.one;
      two = exact-sent place (member_in Two g).level (health_in Two g) p.two f.two low high m.two.few;
    })

either-sent : (s : Side) (place : ℕ) (f : Field) (p : Public) → 1 ≤ place → place ≤ length (party s f).members → Either f p
    → Either (sent s place f) (takes_in (switch_event s place (sent s place f)) p)
unfolding changed_active changed_conditions
either-sent One place f p low high m =
    let g : Field = sent One place f in
    subst (Either g) (sym (switch-hears (who_in One g) place (member_in One g).level (health_in One g) p)) (record {
      one = loosened _ _ (exact-sent place (member_in One g).level (health_in One g) p.one f.one low high m.one.few);
      two = loose-conditions without_trapping trapping-calm p.two f.two m.two;
    })
either-sent Two place f p low high m =
    let g : Field = sent Two place f in
    subst (Either g) (sym (switch-hears (who_in Two g) place (member_in Two g).level (health_in Two g) p)) (record {
      one = loose-conditions without_trapping trapping-calm p.one f.one m.one;
      two = loosened _ _ (exact-sent place (member_in Two g).level (health_in Two g) p.two f.two low high m.two.few);
    })

-- The story

abbrev told_by : List Event → Public
told_by es = hears_all es first_public

-- A hit on itself that no event reports changes nothing of these.

both-settled : (e : Event) (f : Field) (p : Public) → Both f p → Both f (settled e p)
both-settled e f p m = both-heard f p (settled e p) (λ u. settled-heard e u p) m

either-settled : (e : Event) (f : Field) (p : Public) → Either f p → Either f (settled e p)
either-settled e f p m = either-heard f p (settled e p) (λ u. settled-heard e u p) m

next : (K : Field → Public → Type 0) (g : Field) (es : List Event) (e : Event) → K g (takes_in e (settled e (told_by es))) → K g (told_by (es ++ e ∷ []))
next K g es e m = subst (K g) (sym (hears_all-last es e first_public ∙ hears-in e (told_by es))) m

starts-both : (s : Side) (what : Volatile) (change : ActiveConditions → ActiveConditions) → Starts what change → (f : Field) (es : List Event)
    → BothOut f → Both f (told_by es) → let g : Field = changed_conditions s change f in Both g (told_by (es ++ events.Start (who_in s g) what ∷ []))
starts-both s what change h f es o m =
    let g : Field = changed_conditions s change f in
    let e : Event = events.Start (who_in s g) what in
    let p : Public = settled e (told_by es) in
    next Both g es e (subst (Both g) (sym (start-hears (who_in s g) what p (starts-begins what change h)))
    (both-marks s what true change (starts-marks what change h) f p o (both-settled e f (told_by es) m)))

ends-both : (s : Side) (what : Volatile) (change : ActiveConditions → ActiveConditions) → Marks what false change → (f : Field) (es : List Event)
    → BothOut f → Both f (told_by es) → let g : Field = changed_conditions s change f in Both g (told_by (es ++ events.End (who_in s g) what ∷ []))
ends-both s what change h f es o m =
    let g : Field = changed_conditions s change f in
    let e : Event = events.End (who_in s g) what in
    let p : Public = settled e (told_by es) in
    next Both g es e (subst (Both g) (sym (end-hears (who_in s g) what p)) (both-marks s what false change h f p o (both-settled e f (told_by es) m)))

converts-both : (s : Side) (f : Field) (es : List Event) → BothOut f → Both f (told_by es)
    → let g : Field = changed_active s (with_types_of (active_in (other s) f)) f in Both g (told_by (es ++ events.Start (who_in s g) volatiles.TypeChange ∷ []))
converts-both s f es o m =
    let g : Field = changed_active s (with_types_of (active_in (other s) f)) f in
    let e : Event = events.Start (who_in s g) volatiles.TypeChange in
    let p : Public = settled e (told_by es) in
    next Both g es e (subst (Both g) (sym (types-hears (who_in s g) p)) (both-types s f p o (both-settled e f (told_by es) m)))

clears-both : (f : Field) (es : List Event) → BothOut f → Both f (told_by es) → Both (with_cleared Two (with_cleared One f)) (told_by (es ++ events.ClearAll ∷ []))
clears-both f es o m =
    let g : Field = with_cleared Two (with_cleared One f) in
    let p : Public = settled events.ClearAll (told_by es) in
    next Both g es events.ClearAll (subst (Both g) (sym (clear-hears p)) (both-cleared f p o (both-settled events.ClearAll f (told_by es) m)))

moves-both : (s : Side) (move : Move) (f : Field) (es : List Event) → Both f (told_by es) → Both f (told_by (es ++ events.Move (who_in s f) move.number (who_in (other s) f) ∷ []))
moves-both s move f es m =
    let e : Event = events.Move (who_in s f) move.number (who_in (other s) f) in
    let p : Public = settled e (told_by es) in
    next Both f es e (subst (Both f) (sym (move-hears (who_in s f) (who_in (other s) f) move.number p))
    (both-heard f p _ (λ u. moves-heard s (other s) u move.number p) (both-settled e f (told_by es) m)))

prepares-both : (s : Side) (move : Move) (f : Field) (es : List Event) → Both f (told_by es) → Both f (told_by (es ++ events.Prepare (who_in s f) move.number ∷ []))
prepares-both s move f es m =
    let e : Event = events.Prepare (who_in s f) move.number in
    let p : Public = settled e (told_by es) in
    next Both f es e (subst (Both f) (sym (prepare-hears (who_in s f) move.number p)) (both-heard f p _ (λ u. prepares-heard s u move.number p) (both-settled e f (told_by es) m)))

sickened-both : (s : Side) (move : Move) (f : Field) (p : Public) → Both f p → Both (sickened s move f) p
unfolding with_bad_poison
sickened-both s move f p m = by (move.number == toxic)
  where
    by : (e : Bool) → Both (if e then changed_conditions (other s) with_bad_poison f else f) p
    by true = both-conditions (other s) with_bad_poison (λ c. refl) f p m
    by false = m

noise-both : (e : Event) → is_noise e ≡ true → (f : Field) (es : List Event) → Both f (told_by es) → Both f (told_by (es ++ e ∷ []))
noise-both e h f es m =
    let p : Public = settled e (told_by es) in
    next Both f es e (both-heard f p (takes_in e p) (λ u. noise-heard e h u p) (both-settled e f (told_by es) m))

rests-both : (s : Side) (f : Field) (es : List Event) → Both f (told_by es)
    → let g : Field = changed_conditions s with_recharge f in Both g (told_by (es ++ events.MustRecharge (who_in s g) ∷ []))
unfolding with_recharge
rests-both s f es m =
    let g : Field = changed_conditions s with_recharge f in
    let e : Event = events.MustRecharge (who_in s g) in
    let p : Public = settled e (told_by es) in
    next Both g es e (both-conditions s with_recharge (λ c. refl) f _ (both-heard f p (takes_in e p) (λ u. rest-heard (who_in s g) u p) (both-settled e f (told_by es) m)))

stores-both : (s : Side) (turns : ℕ) (f : Field) (es : List Event) → Both f (told_by es)
    → let g : Field = changed_conditions s (with_bide turns) f in Both g (told_by (es ++ events.Start (who_in s g) volatiles.Bide ∷ []))
unfolding with_bide
stores-both s turns f es m =
    let g : Field = changed_conditions s (with_bide turns) f in
    let e : Event = events.Start (who_in s g) volatiles.Bide in
    let p : Public = settled e (told_by es) in
    next Both g es e (subst (Both g) (sym (bide-hears (who_in s g) p))
    (both-conditions s (with_bide turns) (λ c. refl) f _ (both-heard f p _ (λ u. bides-heard s u p) (both-settled e f (told_by es) m))))

noise-either : (e : Event) → is_noise e ≡ true → (f : Field) (es : List Event) → Either f (told_by es) → Either f (told_by (es ++ e ∷ []))
noise-either e h f es m =
    let p : Public = settled e (told_by es) in
    next Either f es e (either-heard f p (takes_in e p) (λ u. noise-heard e h u p) (either-settled e f (told_by es) m))

none-fallen : (s : Side) (f : Field) → has_fallen_in s f ≡ false → not (lives (party s f)) ≡ false
none-fallen One f e = e
none-fallen Two f e = e

telling : Story
telling = record {
  exact = λ f es. Both f (told_by es);
  loose = λ f es. Either f (told_by es);
  said = λ s move. Unit {0};
  acted = λ s move. Unit {0};
  knows = λ s move. Unit {0};
  lulled = λ s turns marked. Unit {0};
  upright = λ s. Unit {0};
  loosen = λ f es m. record { one = loosened _ _ m.one; two = loosened _ _ m.two };
  tighten = λ f es m a b. record { one = tightened _ _ (none-fallen One f a) m.one; two = tightened _ _ (none-fallen Two f b) m.two };
  member = λ s change h r f es w m. both-member s change f (told_by es) m;
  cures = λ s change kind h f es o a m. let g : Field = changed_member s change f in noise-both (events.Cure (who_in s g) kind) refl g es (both-member s change f (told_by es) m);
  sleeps = λ s turns marked k f es o m. noise-both (events.Status (who_in s (slept s turns marked f)) kinds.Sleep) refl (slept s turns marked f) es (both-member s _ f (told_by es) m);
  active = λ s change h f es m. both-active s change h f (told_by es) m;
  conditions = λ s change h f es m. both-conditions s change (calm-mild change h) f (told_by es) m;
  apart = λ f g es a b m. both-apart f g (told_by es) a b m;
  noise = λ e f h es m. noise-both e (noise-is f e (dull-noise f e h)) f es m;
  poisons = λ s move a f es o m. noise-both (events.Status (who_in (other s) f) kinds.Poison) refl (sickened s move f) es (sickened-both s move f (told_by es) m);
  starts = starts-both;
  ends = ends-both;
  converts = converts-both;
  clears = clears-both;
  moves = λ s move k f es o m. moves-both s move f es m;
  prepares = λ s move k f es o m. prepares-both s move f es m;
  explodes = λ s u f es o m. exploded s f (told_by es) o m;
  stores = λ s move k e turns f es o m. stores-both s turns f es m;
  rests = λ s move k e f es o m. rests-both s f es m;
  loose_active = λ s change h f es m. either-active s change h f (told_by es) m;
  loose_apart = λ f g es a b m. either-apart f g (told_by es) a b m;
  loose_noise = λ e f h es m. noise-either e (noise-is f e (dull-noise f e h)) f es m;
  loose_falls = λ s f es o m. let g : Field = changed_member s fallen f in noise-either (events.Faint (who_in s g)) refl g es (either-falls s f (told_by es) o m);
}

telling-outline : Outline telling
unfolding telling with_current_move changed_active
telling-outline = record {
  takes = λ s used f es m. both-takes s used f (told_by es) m;
  spends = λ s move k used f es m. both-member s (with_pp_spent used) f (told_by es) m;
  mild = λ s change h f es m. both-conditions s change h f (told_by es) m;
  noise = λ e f h es m. noise-both e (noise-is f e h) f es m;
  acts = λ s move. tt;
  knows = λ s move k. tt;
}

telling-dozes : Dozing telling
unfolding telling
telling-dozes = record {
  dozes = λ s turns marked f es o a h m. let g : Field = changed_member s with_sleep_one_less f in
      noise-both (events.Cant (who_in s g) reasons.Asleep) refl g es (both-member s with_sleep_one_less f (told_by es) m);
}

telling-switches : Switching telling
unfolding telling
telling-switches = record {
  sends = λ s place f es low high m.
      let e : Event = switch_event s place (sent s place f) in
      next Both (sent s place f) es e (both-sent s place f (settled e (told_by es)) low high (both-settled e f (told_by es) m));
  loose_sends = λ s place f es low high m.
      let e : Event = switch_event s place (sent s place f) in
      next Either (sent s place f) es e (either-sent s place f (settled e (told_by es)) low high (either-settled e f (told_by es) m));
}

-- What is left of it

side-told : (x : PublicSide) (t : Party) → Loose x t → SideIsTold x t
side-told x t m = record {
  first_type = ap (λ (k : Known). k.first_type) m.rest;
  second_type = ap (λ (k : Known). k.second_type) m.rest;
  mist = ap (λ (k : Known). k.mist) m.rest;
  focus_energy = ap (λ (k : Known). k.focus_energy) m.rest;
  disabled = ap (λ (k : Known). k.disabled) m.rest;
  rage = ap (λ (k : Known). k.rage) m.rest;
  seeded = λ e. ap (λ (k : Known). k.seeded) (m.living e);
}

pub conditions_agree : ConditionsAgree
unfolding hears_all telling
conditions_agree t one two seed pairs a b =
    let m = story-runs telling t one two seed pairs a b telling-outline telling-switches
    (λ pre. act-tells telling-outline telling-dozes (ruling_of t) (ruling_of-tells t) (says-any telling-outline (λ s move. tt) (λ u turns marked. tt) (λ u. tt) (ruling_of t) (ruling_of-tells t)))
    (record { one = record { same = refl; few = a.size.1 }; two = record { same = refl; few = b.size.1 } }) in
    (side-told _ _ m.one, side-told _ _ m.two)
