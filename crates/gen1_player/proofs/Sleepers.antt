-- Who put the members of a side to sleep, as the log tells it, and the mark of the sleep clause.
use Rattle.gen1_machine.specs.declared.event.CantReason.{CantReason}
use Rattle.gen1_stats.specs.declared.member.Status.{Status}
use Rattle.gen1_stats.specs.declared.member.Status.TheVariants.{Asleep, Healthy}
use Rattle.gen1_player.proofs.Stories.{slept}
use Rattle.gen1_machine.proofs.Watching.{BothOut, IsOut}
use Rattle.gen1_machine.specs.Sides.{other}
use Rattle.gen1_machine.specs.State.{Active, Field, Party, changed_active, changed_member, member_at, member_in, party, who_in, with_member, with_status, with_sleep_one_less, one_turn_less_asleep}
use Rattle.gen1_machine.specs.declared.event.Event.{Event}
use Rattle.gen1_machine.specs.declared.event.Kind.{Kind}
use Rattle.gen1_machine.specs.declared.side.Side.{Side}
use Rattle.gen1_machine.specs.declared.side.Side.TheVariants.{One, Two}
use Rattle.gen1_player.proofs.Facts.{Noise, Restful, SleepsOn, is_sleep, is_doze}
use Rattle.gen1_player.proofs.HeardSides.{foe-side, out-side, quiet-side, same-sides}
use Rattle.gen1_player.specs.Public.{activates, asleep_after, drops, gets_status, has_fainted, is_afflicted, is_cured, is_kept_by, is_overtaken, not_seen, on_announced, on_out, on_seen, public_side, put_to_sleep_by, recharges_unless, rests_no_more, rises, seen_at, takes_damage, takes_in, slept_on, is_kept, sleeps_on}
use Rattle.gen1_player.specs.declared.public.Public.{Public}
use Rattle.gen1_player.specs.declared.public_side.PublicSide.{PublicSide}
use Rattle.gen1_player.specs.declared.seen.Seen.{Seen}
use Rattle.gen1_stats.specs.Members.{Member, is_asleep, is_marked, nobody}
use Rattle.std.proofs.Common.{Bool, List, ap, arith, false, get_or-set_same, if◌then◌else◌, inl, inr, length, length-set, map, refl, slice_index_or, slice_set, subst, sym, true, true≢false, ℕ, ◌-◌, ◌<◌, ◌==◌, ◌∙◌, ◌≡◌, ◌≢◌, ◌≤◌, ◌⊎◌, nat_le, ◌+◌, suc, zero}
use Rattle.std.proofs.Math.ListN.{get_or-map}
use Rattle.std.proofs.Math.Seq.{map-set_same}
use Rattle.std.proofs.lemmas.Bool.Decides.{eqb_tells}
use Rattle.std.proofs.lemmas.List.{get_or-set_other, map-set, set_past}
use Rattle.gen1_machine.specs.declared.event.Event.TheVariants as events
use Rattle.gen1_machine.specs.declared.event.CantReason.TheVariants as reasons
use Rattle.gen1_machine.specs.declared.event.Kind.TheVariants as kinds

-- Who put members to sleep

-- What put a member to sleep, and how many turns it slept since.
pub record Cause : Type 0 where
  pub by : ℕ
  pub slept : ℕ

abbrev pub no_cause : Cause
no_cause = record { by = 0; slept = 0 }

-- The place of the active member, and the causes of all.
pub record Causes : Type 0 where
  pub place : ℕ
  pub by : List Cause

abbrev pub cause : Seen → Cause
cause m = record { by = m.asleep_by; slept = m.slept }

abbrev pub causes : PublicSide → Causes
causes x = record { place = x.place; by = map cause x.members }

-- That of the active member, and a change of it.
abbrev pub now_by : Causes → Cause
now_by x = slice_index_or x.by (x.place - 1) no_cause

abbrev pub with_by : (Cause → Cause) → Causes → Causes
with_by change x = record x { by = slice_set x.by (x.place - 1) (change (now_by x)) }

abbrev pub turns_of : Status → ℕ
turns_of (Asleep turns marked) = turns
turns_of _ = 0

-- A sleeping member sleeps by a move of the foe, and has the mark if the clause is on, or it sleeps by Rest, without mark.
abbrev pub IsCause : Bool → ℕ → Bool → Type 0
IsCause clause by marked = ((by ≡ 1) × (marked ≡ clause)) ⊎ ((by ≡ 2) × (marked ≡ false))

-- The turns that it slept, and those that are left.
abbrev pub Adds_up : Cause → ℕ → Type 0
Adds_up c turns = (c.by ≡ 1 → c.slept + turns ≤ 7) × (c.by ≡ 2 → c.slept + turns ≡ 2)

abbrev pub IsUp : Cause → Type 0
IsUp c = ((c.by ≢ 1) × (c.by ≢ 2)) × (c.slept ≡ 0)

-- Nothing is said of who put a member to sleep that is awake.
pub record Sleeps (clause : Bool) (c : Cause) (m : Member) : Type 0 where
  pub asleep : is_asleep m.status ≡ true → IsCause clause c.by (is_marked m.status)
  pub counted : (turns : ℕ) (marked : Bool) → m.status ≡ Asleep turns marked → Adds_up c turns
  pub awake : is_asleep m.status ≡ false → IsUp c

pub record Sleepers (clause : Bool) (x : Causes) (t : Party) : Type 0 where
  pub place : x.place ≡ t.active.place
  pub six : length x.by ≡ 6
  pub few : length t.members ≤ 6
  pub each : (i : ℕ) → Sleeps clause (slice_index_or x.by i no_cause) (slice_index_or t.members i nobody)

-- Changes of one side

pub below-or : (a b : ℕ) → (a < b) ⊎ (b ≤ a)
below-or a b = grind arith

pub set-there : {A : Type 0} (P : A → Type 0) (xs : List A) (k : ℕ) (v d : A) → (P (slice_index_or xs k d) → P v) → P (slice_index_or xs k d) → P (slice_index_or (slice_set xs k v) k d)
set-there {A} P xs k v d h p = by (below-or k (length xs))
  where
    by : (k < length xs) ⊎ (length xs ≤ k) → P (slice_index_or (slice_set xs k v) k d)
    by (inl low) = subst P (sym (get_or-set_same xs k v d low)) (h p)
    by (inr past) = subst (λ (ys : List A). P (slice_index_or ys k d)) (sym (set_past xs k v past)) p

pub awake-sleeps : (clause : Bool) (c : Cause) (m : Member) → is_asleep m.status ≡ false → IsUp c → Sleeps clause c m
awake-sleeps clause c m e k = record {
  asleep = λ h. absurd (true≢false (sym h ∙ e));
  counted = λ turns marked h. absurd (true≢false (sym (ap is_asleep h) ∙ e));
  awake = λ h. k;
}

-- What holds of an element of a list after a change of one of its elements.
pub set-each : {A : Type 0} (P : ℕ → A → Type 0) (xs : List A) (k : ℕ) (v d : A) → (k < length xs → P k v) → ((i : ℕ) → P i (slice_index_or xs i d)) → (i : ℕ) → P i (slice_index_or (slice_set xs k v) i d)
set-each {A} P xs k v d h each i = by (eqb_tells i k) (below-or k (length xs))
  where
    by : (((i == k) ≡ true) × (i ≡ k)) ⊎ (((i == k) ≡ false) × (i ≢ k)) → (k < length xs) ⊎ (length xs ≤ k) → P i (slice_index_or (slice_set xs k v) i d)
    by (inl e) (inl low) = subst (λ (j : ℕ). P j (slice_index_or (slice_set xs k v) j d)) (sym e.1) (subst (P k) (sym (get_or-set_same xs k v d low)) (h low))
    by (inl e) (inr past) = subst (λ (ys : List A). P i (slice_index_or ys i d)) (sym (set_past xs k v past)) (each i)
    by (inr e) b = subst (P i) (sym (get_or-set_other xs k i v d e.1)) (each i)

pub sleepers-by : (clause : Bool) (change : Cause → Cause) (x : Causes) (t : Party) → (let m : Member = member_at t.active.place t in Sleeps clause (now_by x) m → Sleeps clause (change (now_by x)) m)
    → Sleepers clause x t → Sleepers clause (with_by change x) t
sleepers-by clause change x t h k = record {
  place = k.place;
  six = length-set x.by (x.place - 1) (change (now_by x)) ∙ k.six;
  few = k.few;
  each = set-each (λ i n. Sleeps clause n (slice_index_or t.members i nobody)) x.by (x.place - 1) (change (now_by x)) no_cause
      (λ low. subst (λ (i : ℕ). Sleeps clause (change (now_by x)) (slice_index_or t.members (i - 1) nobody)) (sym k.place)
      (h (subst (λ (i : ℕ). Sleeps clause (now_by x) (slice_index_or t.members (i - 1) nobody)) k.place (k.each (x.place - 1))))) k.each;
}

pub sleepers-member : (clause : Bool) (m : Member) (x : Causes) (t : Party) → ((by : Cause) → Sleeps clause by (member_at t.active.place t) → Sleeps clause by m)
    → Sleepers clause x t → Sleepers clause x (with_member t.active.place m t)
sleepers-member clause m x t h k = record {
  place = k.place;
  six = k.six;
  few = subst (λ (n : ℕ). n ≤ 6) (sym (length-set t.members (t.active.place - 1) m)) k.few;
  each = set-each (λ i n. Sleeps clause (slice_index_or x.by i no_cause) n) t.members (t.active.place - 1) m nobody (λ low. h _ (k.each (t.active.place - 1))) k.each;
}

-- A member falls asleep, or wakes up.
pub sleepers-slept : (clause : Bool) (change : Cause → Cause) (m : Member) (x : Causes) (t : Party) → IsOut t → Sleeps clause (change (now_by x)) m
    → Sleepers clause x t → Sleepers clause (with_by change x) (with_member t.active.place m t)
sleepers-slept clause change m x t o h k = record {
  place = k.place;
  six = length-set x.by (x.place - 1) (change (now_by x)) ∙ k.six;
  few = subst (λ (n : ℕ). n ≤ 6) (sym (length-set t.members (t.active.place - 1) m)) k.few;
  each = λ i. by i (eqb_tells i (t.active.place - 1));
}
  where
    at : ℕ
    at = t.active.place - 1

    there : x.place - 1 ≡ at
    there = ap (λ (i : ℕ). i - 1) k.place

    by : (i : ℕ) → (((i == at) ≡ true) × (i ≡ at)) ⊎ (((i == at) ≡ false) × (i ≢ at))
        → Sleeps clause (slice_index_or (slice_set x.by (x.place - 1) (change (now_by x))) i no_cause) (slice_index_or (slice_set t.members at m) i nobody)
    by i (inl e) =
        let low = o.placed in
        let high = o.within in
        let few = k.few in
        let six = k.six in
        let inside : at < length t.members = omega (arith, low, high) in
        let within : x.place - 1 < length x.by = omega (arith, there, inside, few, six) in
        subst (λ (j : ℕ). Sleeps clause (slice_index_or (slice_set x.by (x.place - 1) (change (now_by x))) j no_cause) (slice_index_or (slice_set t.members at m) j nobody)) (sym e.1)
        (subst (λ (n : Cause). Sleeps clause n (slice_index_or (slice_set t.members at m) at nobody))
        (sym (ap (λ (j : ℕ). slice_index_or (slice_set x.by (x.place - 1) (change (now_by x))) j no_cause) (sym there) ∙ get_or-set_same x.by (x.place - 1) (change (now_by x)) no_cause within))
        (subst (λ (n : Member). Sleeps clause (change (now_by x)) n) (sym (get_or-set_same t.members at m nobody inside)) h))
    by i (inr e) =
        subst (λ (n : Cause). Sleeps clause n (slice_index_or (slice_set t.members at m) i nobody))
        (sym (get_or-set_other x.by (x.place - 1) i (change (now_by x)) no_cause (λ h. e.1 (h ∙ there))))
        (subst (λ (n : Member). Sleeps clause (slice_index_or x.by i no_cause) n) (sym (get_or-set_other t.members at i m nobody e.1)) (k.each i))

-- A member comes out, or only what is underway changes.
pub sleepers-active : (clause : Bool) (x y : Causes) (t : Party) (a : Active) → y.by ≡ x.by → y.place ≡ a.place → Sleepers clause x t → Sleepers clause y (record t { active = a })
sleepers-active clause x y t a same e k = record {
  place = e;
  six = ap length same ∙ k.six;
  few = k.few;
  each = λ i. subst (λ (l : List Cause). Sleeps clause (slice_index_or l i no_cause) (slice_index_or t.members i nobody)) (sym same) (k.each i);
}

-- What events change of a side

pub seen-same : (h : Seen → Seen) (x : PublicSide) → ((m : Seen) → cause (h m) ≡ cause m) → causes (on_seen h x) ≡ causes x
seen-same h x e = ap (λ (l : List Cause). record (causes x) { by = l }) (map-set_same cause x.members (x.place - 1) (h (seen_at x.place x)) not_seen (e (seen_at x.place x)))

pub seen-by : (h : Seen → Seen) (change : Cause → Cause) (x : PublicSide) → ((m : Seen) → cause (h m) ≡ change (cause m)) → causes (on_seen h x) ≡ with_by change (causes x)
seen-by h change x e = ap (λ (l : List Cause). record (causes x) { by = l }) (map-set cause x.members (x.place - 1) (h (seen_at x.place x))
    ∙ ap (slice_set (map cause x.members) (x.place - 1)) (e (seen_at x.place x) ∙ ap change (sym (get_or-map cause x.members (x.place - 1) not_seen))))

-- A side stays as it is, or its active member's cause changes.
abbrev pub Turns : (Cause → Cause) → Side → Side → Public → Public → Type 0
Turns change s u p q = (causes (public_side u q) ≡ causes (public_side u p)) ⊎ ((causes (public_side u q) ≡ with_by change (causes (public_side u p))) × (u ≡ s))

pub out-turns : (h : PublicSide → PublicSide) (change : Cause → Cause) → ((x : PublicSide) → causes (h x) ≡ with_by change (causes x)) → (s u : Side) (p : Public) → Turns change s u p (on_out s h p)
unfolding on_out
out-turns h change e One One p = elim (p.one.place == 0) as (λ b. (causes (if b then p.one else h p.one) ≡ causes p.one) ⊎ ((causes (if b then p.one else h p.one) ≡ with_by change (causes p.one)) × (One ≡ One)))
    [ true ↦ inl refl | false ↦ inr (e p.one, refl) ]
out-turns h change e One Two p = inl refl
out-turns h change e Two One p = inl refl
out-turns h change e Two Two p = elim (p.two.place == 0) as (λ b. (causes (if b then p.two else h p.two) ≡ causes p.two) ⊎ ((causes (if b then p.two else h p.two) ≡ with_by change (causes p.two)) × (Two ≡ Two)))
    [ true ↦ inl refl | false ↦ inr (e p.two, refl) ]

pub out-same : (h : PublicSide → PublicSide) → ((x : PublicSide) → causes (h x) ≡ causes x) → (s u : Side) (p : Public) → causes (public_side u (on_out s h p)) ≡ causes (public_side u p)
out-same h e s u p = quiet-side causes s u h p e

abbrev pub forgotten : Cause → Cause
forgotten c = no_cause

abbrev pub lulled_by : Cause → Cause
lulled_by c = record { by = put_to_sleep_by c.by; slept = 0 }

abbrev pub overtaken_by : Cause → Cause
overtaken_by c = record c { by = rests_no_more c.by }

abbrev pub dozed : Cause → Cause
dozed c = record c { slept = slept_on reasons.Asleep c.slept }

-- An event that a story doesn't follow.
pub noise-same : (e : Event) (f : Field) → Noise f e → (u : Side) (p : Public) → causes (public_side u (takes_in e p)) ≡ causes (public_side u p)
unfolding takes_in
noise-same (events.Turn i) f n u p = same-sides causes u (record p { turn = i }) p refl refl
noise-same (events.Switch w place level k) f n u p = absurd (true≢false (sym n))
noise-same (events.Move w move foe) f n u p = absurd (true≢false (sym n))
noise-same (events.Cant w why) f n u p = out-same (is_kept why) (λ x. seen-same (sleeps_on why) x (λ m. ap (λ (i : ℕ). record (cause m) { slept = i }) (kept-same why n m.slept))) w.side u p
  where
    kept-same : (why : CantReason) → is_doze why ≡ false → (n : ℕ) → slept_on why n ≡ n
    kept-same reasons.Asleep e n = absurd (true≢false e)
    kept-same _ e n = refl
noise-same (events.Damage w k source) f n u p = out-same (λ x. takes_damage source (on_seen (λ m. record m { hp = k.hp }) x)) (λ x. seen-same (λ m. record m { hp = k.hp }) x (λ m. refl)) w.side u p
noise-same (events.Heal w k) f n u p = out-same (on_seen (λ m. record m { hp = k.hp })) (λ x. seen-same (λ m. record m { hp = k.hp }) x (λ m. refl)) w.side u p
noise-same (events.Status w kind) f n u p = out-same (λ x. on_announced (gets_status kind (public_side (other w.side) p).last_move) (on_seen (is_afflicted kind) x))
    (λ x. seen-same (is_afflicted kind) x (afflicted-same kind n)) w.side u p
  where
    afflicted-same : (kind : Kind) → is_sleep kind ≡ false → (m : Seen) → cause (is_afflicted kind m) ≡ cause m
    afflicted-same kinds.Sleep e m = absurd (true≢false e)
    afflicted-same _ e m = refl
noise-same (events.Cure w kind) f n u p = absurd n
noise-same (events.Faint w) f n u p = absurd n
noise-same (events.Boost w stat i) f n u p = out-same (rises stat i) (λ x. refl) w.side u p
noise-same (events.Unboost w stat i) f n u p = out-same (drops stat i) (λ x. refl) w.side u p
noise-same events.ClearAll f n u p = absurd (true≢false (sym n))
noise-same (events.Start w what) f n u p = absurd (true≢false (sym n))
noise-same (events.End w what) f n u p = absurd (true≢false (sym n))
noise-same (events.Prepare w move) f n u p = absurd (true≢false (sym n))
noise-same (events.Activate w what) f n u p = same-sides causes u (activates w.side what p) p refl refl
noise-same (events.MustRecharge w) f n u p = absurd (true≢false (sym n))
noise-same (events.Win s) f n u p = same-sides causes u (takes_in (events.Win s) p) p refl refl
noise-same events.Tie f n u p = same-sides causes u (takes_in events.Tie p) p refl refl
noise-same (events.Fault i) f n u p = same-sides causes u (takes_in (events.Fault i) p) p refl refl
noise-same _ f n u p = refl

-- A cause of 3: the member has used Rest, and the foe no move since

abbrev pub Unrested : Side → Public → Public → Type 0
Unrested u p q = (now_by (causes (public_side u q))).by ≡ 3 → (now_by (causes (public_side u p))).by ≡ 3

pub same-unrested : (u : Side) (p q : Public) → causes (public_side u q) ≡ causes (public_side u p) → Unrested u p q
same-unrested u p q e h = sym (ap (λ (x : Causes). (now_by x).by) e) ∙ h

pub now-changed : (change : Cause → Cause) (x : Causes) → (now_by (with_by change x) ≡ change (now_by x)) ⊎ (now_by (with_by change x) ≡ now_by x)
now-changed change x = by (below-or (x.place - 1) (length x.by))
  where
    by : (x.place - 1 < length x.by) ⊎ (length x.by ≤ x.place - 1) → (now_by (with_by change x) ≡ change (now_by x)) ⊎ (now_by (with_by change x) ≡ now_by x)
    by (inl low) = inl (get_or-set_same x.by (x.place - 1) (change (now_by x)) no_cause low)
    by (inr past) = inr (ap (λ (l : List Cause). slice_index_or l (x.place - 1) no_cause) (set_past x.by (x.place - 1) (change (now_by x)) past))

pub with-unrested : (change : Cause → Cause) → ((c : Cause) → (change c).by ≡ 3 → c.by ≡ 3) → (x : Causes) → (now_by (with_by change x)).by ≡ 3 → (now_by x).by ≡ 3
with-unrested change h x e = by (now-changed change x)
  where
    by : (now_by (with_by change x) ≡ change (now_by x)) ⊎ (now_by (with_by change x) ≡ now_by x) → (now_by x).by ≡ 3
    by (inl k) = h (now_by x) (sym (ap (λ (c : Cause). c.by) k) ∙ e)
    by (inr k) = sym (ap (λ (c : Cause). c.by) k) ∙ e

pub turns-unrested : (change : Cause → Cause) → ((c : Cause) → (change c).by ≡ 3 → c.by ≡ 3) → (s u : Side) (p q : Public) → Turns change s u p q → Unrested u p q
turns-unrested change h s u p q (inl e) = same-unrested u p q e
turns-unrested change h s u p q (inr e) = λ k. with-unrested change h (causes (public_side u p)) (sym (ap (λ (x : Causes). (now_by x).by) e.0) ∙ k)

pub forgotten-not : (c : Cause) → (forgotten c).by ≡ 3 → c.by ≡ 3
forgotten-not c e = absurd (omega (arith, e))

pub put-not : (n : ℕ) → put_to_sleep_by n ≡ 3 → n ≡ 3
put-not n = by (n == 3)
  where
    by : (b : Bool) → let k : ℕ = (if b then 2 else 1) in k ≡ 3 → n ≡ 3
    by true e = absurd (omega (arith, e))
    by false e = absurd (omega (arith, e))

pub overtaken-not : (n : ℕ) → rests_no_more n ≢ 3
overtaken-not n = by (eqb_tells n 3)
  where
    by : (((n == 3) ≡ true) × (n ≡ 3)) ⊎ (((n == 3) ≡ false) × (n ≢ 3)) → (if n == 3 then 0 else n) ≢ 3
    by (inl k) = subst (λ (b : Bool). (if b then 0 else n) ≢ 3) (sym k.0) (λ e. omega (arith, e))
    by (inr k) = subst (λ (b : Bool). (if b then 0 else n) ≢ 3) (sym k.0) k.1

-- Both sides

pub each-side : (s : Side) (P : Side → Type 0) → P s → P (other s) → (u : Side) → P u
each-side One P a b One = a
each-side One P a b Two = b
each-side Two P a b One = b
each-side Two P a b Two = a

pub own-member : (s : Side) (change : Member → Member) (f : Field) → party s (changed_member s change f) ≡ with_member (party s f).active.place (change (member_in s f)) (party s f)
unfolding changed_member
own-member One change f = refl
own-member Two change f = refl

pub foe-member : (s : Side) (change : Member → Member) (f : Field) → party (other s) (changed_member s change f) ≡ party (other s) f
unfolding changed_member
foe-member One change f = refl
foe-member Two change f = refl

pub out-in : (s : Side) (f : Field) → BothOut f → IsOut (party s f)
out-in One f o = o.one
out-in Two f o = o.two

pub restful-sleeps : (clause : Bool) (change : Member → Member) → Restful change → (m : Member) → (is_asleep m.status ≡ true → is_asleep (change m).status ≡ true) → (by : Cause)
    → Sleeps clause by m → Sleeps clause by (change m)
restful-sleeps clause change r m w by k = record {
  asleep = λ e. subst (IsCause clause by.by) (sym (ap is_marked (r m e))) (k.asleep (sym (ap is_asleep (r m e)) ∙ e));
  counted = λ turns marked e. k.counted turns marked (sym (r m (ap is_asleep e)) ∙ e);
  awake = λ e. k.awake (still (is_asleep m.status) refl e);
}
  where
    still : (b : Bool) → is_asleep m.status ≡ b → is_asleep (change m).status ≡ false → b ≡ false
    still true h e = absurd (true≢false (sym (w h) ∙ e))
    still false h e = refl

pub sides-active : (clause : Bool) (s : Side) (change : Active → Active) → ((a : Active) → (change a).place ≡ a.place) → (f : Field) (p : Public) (u : Side)
    → Sleepers clause (causes (public_side u p)) (party u f) → Sleepers clause (causes (public_side u p)) (party u (changed_active s change f))
unfolding changed_active
sides-active clause One change h f p One m = sleepers-active clause _ _ f.one (change f.one.active) refl (m.place ∙ sym (h f.one.active)) m
sides-active clause One change h f p Two m = m
sides-active clause Two change h f p One m = m
sides-active clause Two change h f p Two m = sleepers-active clause _ _ f.two (change f.two.active) refl (m.place ∙ sym (h f.two.active)) m

pub sides-member : (clause : Bool) (s : Side) (change : Member → Member) → Restful change → (f : Field) → SleepsOn s change f → (p : Public) (u : Side)
    → Sleepers clause (causes (public_side u p)) (party u f) → Sleepers clause (causes (public_side u p)) (party u (changed_member s change f))
unfolding changed_member
sides-member clause One change r f w p One m = sleepers-member clause (change (member_in One f)) _ f.one (restful-sleeps clause change r (member_in One f) w) m
sides-member clause One change r f w p Two m = m
sides-member clause Two change r f w p One m = m
sides-member clause Two change r f w p Two m = sleepers-member clause (change (member_in Two f)) _ f.two (restful-sleeps clause change r (member_in Two f) w) m

pub sides-apart : (clause : Bool) (f g : Field) (p : Public) → f.one ≡ g.one → f.two ≡ g.two → (u : Side)
    → Sleepers clause (causes (public_side u p)) (party u f) → Sleepers clause (causes (public_side u p)) (party u g)
sides-apart clause f g p a b One m = subst (Sleepers clause (causes p.one)) a m
sides-apart clause f g p a b Two m = subst (Sleepers clause (causes p.two)) b m

pub sides-turned : (clause : Bool) (change : Cause → Cause) (s u : Side) (p q : Public) (t : Party) → Turns change s u p q
    → (u ≡ s → (by : Cause) → Sleeps clause by (member_at t.active.place t) → Sleeps clause (change by) (member_at t.active.place t))
    → Sleepers clause (causes (public_side u p)) t → Sleepers clause (causes (public_side u q)) t
sides-turned clause change s u p q t (inl e) h m = subst (λ (x : Causes). Sleepers clause x t) (sym e) m
sides-turned clause change s u p q t (inr e) h m = subst (λ (x : Causes). Sleepers clause x t) (sym e.0) (sleepers-by clause change (causes (public_side u p)) t (h e.1 (now_by (causes (public_side u p)))) m)

pub overtaken-sleeps : (clause : Bool) (c : Cause) (m : Member) → Sleeps clause c m → Sleeps clause (overtaken_by c) m
overtaken-sleeps clause c m k = record {
  asleep = λ e. kept (k.asleep e);
  counted = λ turns marked e. adds turns (k.asleep (ap is_asleep e)) (k.counted turns marked e);
  awake = λ e. (apart (k.awake e).0, (k.awake e).1);
}
  where
    kept : {marked : Bool} → IsCause clause c.by marked → IsCause clause (rests_no_more c.by) marked
    kept (inl x) = inl (ap rests_no_more x.0, x.1)
    kept (inr x) = inr (ap rests_no_more x.0, x.1)

    adds : {marked : Bool} (turns : ℕ) → IsCause clause c.by marked → Adds_up c turns → Adds_up (overtaken_by c) turns
    adds turns (inl x) h = (λ e. h.0 x.0, λ e. absurd (let one : rests_no_more c.by ≡ 1 = ap rests_no_more x.0 in omega (arith, e, one)))
    adds turns (inr x) h = (λ e. absurd (let two : rests_no_more c.by ≡ 2 = ap rests_no_more x.0 in omega (arith, e, two)), λ e. h.1 x.0)

    apart : (c.by ≢ 1) × (c.by ≢ 2) → (rests_no_more c.by ≢ 1) × (rests_no_more c.by ≢ 2)
    apart x = split (c.by == 3)
      where
        split : (b : Bool) → ((if b then 0 else c.by) ≢ 1) × ((if b then 0 else c.by) ≢ 2)
        split true = (λ e. omega (arith, e), λ e. omega (arith, e))
        split false = x

pub suffers-causes : (b : Bool) (x : PublicSide) → causes (recharges_unless b (on_seen is_overtaken x)) ≡ with_by overtaken_by (causes x)
suffers-causes true x = seen-by is_overtaken overtaken_by x (λ m. refl)
suffers-causes false x = seen-by is_overtaken overtaken_by x (λ m. refl)

-- A member falls asleep.

pub afflicted : (s : Side) (g : Field) (p : Public) → 1 ≤ (public_side s p).place
    → causes (public_side s (takes_in (events.Status (who_in s g) kinds.Sleep) p)) ≡ with_by lulled_by (causes (public_side s p))
unfolding takes_in
afflicted s g p low = ap causes (out-side s (λ x. on_announced (gets_status kinds.Sleep (public_side (other s) p).last_move) (on_seen (is_afflicted kinds.Sleep) x)) p low)
    ∙ seen-by (is_afflicted kinds.Sleep) lulled_by (public_side s p) (λ m. refl)

pub afflicted-foe : (s : Side) (g : Field) (p : Public) → causes (public_side (other s) (takes_in (events.Status (who_in s g) kinds.Sleep) p)) ≡ causes (public_side (other s) p)
unfolding takes_in
afflicted-foe s g p = ap causes (foe-side s (λ x. on_announced (gets_status kinds.Sleep (public_side (other s) p).last_move) (on_seen (is_afflicted kinds.Sleep) x)) p)

pub placed-at : (s : Side) (clause : Bool) (f : Field) (x : Causes) → BothOut f → Sleepers clause x (party s f) → 1 ≤ x.place
placed-at s clause f x o m = let low = (out-in s f o).placed in let e = m.place in omega (arith, low, e)

-- The active member sleeps by its cause.
pub now-sleeps : (clause : Bool) (s : Side) (f : Field) (x : Causes) → Sleepers clause x (party s f) → Sleeps clause (now_by x) (member_in s f)
now-sleeps clause One f x m = subst (λ (i : ℕ). Sleeps clause (now_by x) (slice_index_or f.one.members (i - 1) nobody)) m.place (m.each (x.place - 1))
now-sleeps clause Two f x m = subst (λ (i : ℕ). Sleeps clause (now_by x) (slice_index_or f.two.members (i - 1) nobody)) m.place (m.each (x.place - 1))

-- A member and its cause change at once.
pub sides-changed : (clause : Bool) (s : Side) (change : Member → Member) (turn : Cause → Cause) (f : Field) (p q : Public) → BothOut f
    → causes (public_side s q) ≡ with_by turn (causes (public_side s p)) → causes (public_side (other s) q) ≡ causes (public_side (other s) p)
    → Sleeps clause (turn (now_by (causes (public_side s p)))) (change (member_in s f)) → ((u : Side) → Sleepers clause (causes (public_side u p)) (party u f))
    → (u : Side) → Sleepers clause (causes (public_side u q)) (party u (changed_member s change f))
sides-changed clause s change turn f p q o own foe c m =
    let g : Field = changed_member s change f in
    each-side s (λ u. Sleepers clause (causes (public_side u q)) (party u g))
    (subst (Sleepers clause (causes (public_side s q))) (sym (own-member s change f))
    (subst (λ (x : Causes). Sleepers clause x (with_member (party s f).active.place (change (member_in s f)) (party s f))) (sym own)
    (sleepers-slept clause turn (change (member_in s f)) (causes (public_side s p)) (party s f) (out-in s f o) c (m s))))
    (subst (Sleepers clause (causes (public_side (other s) q))) (sym (foe-member s change f))
    (subst (λ (x : Causes). Sleepers clause x (party (other s) f)) (sym foe) (m (other s))))

pub cause-sleeps : (clause : Bool) (turns : ℕ) (marked : Bool) (c : Cause) (m : Member) → IsCause clause c.by marked → Adds_up c turns → Sleeps clause c (with_status (Asleep turns marked) m)
unfolding with_status
cause-sleeps clause turns marked c m k h = record {
  asleep = λ e. k;
  counted = λ n b e. subst (Adds_up c) (ap turns_of e) h;
  awake = λ e. absurd (true≢false e);
}

pub sides-slept : (clause : Bool) (s : Side) (turns : ℕ) (marked : Bool) (f : Field) (p : Public) → BothOut f → (let c : Cause = lulled_by (now_by (causes (public_side s p))) in IsCause clause c.by marked × Adds_up c turns)
    → ((u : Side) → Sleepers clause (causes (public_side u p)) (party u f))
    → let g : Field = slept s turns marked f in (u : Side) → Sleepers clause (causes (public_side u (takes_in (events.Status (who_in s g) kinds.Sleep) p))) (party u g)
sides-slept clause s turns marked f p o c m =
    let g : Field = slept s turns marked f in
    sides-changed clause s (with_status (Asleep turns marked)) lulled_by f p (takes_in (events.Status (who_in s g) kinds.Sleep) p) o (afflicted s g p (placed-at s clause f _ o (m s))) (afflicted-foe s g p)
    (cause-sleeps clause turns marked _ (member_in s f) c.0 c.1) m

-- It sleeps on.
pub dozes-on : (s : Side) (g : Field) (p : Public) → 1 ≤ (public_side s p).place → causes (public_side s (takes_in (events.Cant (who_in s g) reasons.Asleep) p)) ≡ with_by dozed (causes (public_side s p))
unfolding takes_in
dozes-on s g p low = ap causes (out-side s (is_kept reasons.Asleep) p low) ∙ seen-by (sleeps_on reasons.Asleep) dozed (public_side s p) (λ m. refl)

pub dozes-foe : (s : Side) (g : Field) (p : Public) → causes (public_side (other s) (takes_in (events.Cant (who_in s g) reasons.Asleep) p)) ≡ causes (public_side (other s) p)
unfolding takes_in
dozes-foe s g p = ap causes (foe-side s (is_kept reasons.Asleep) p)

less-status : (turns : ℕ) (marked : Bool) (m : Member) → m.status ≡ Asleep turns marked → nat_le turns 1 ≡ false → (with_sleep_one_less m).status ≡ Asleep (turns - 1) marked
unfolding with_sleep_one_less
less-status turns marked m e h = ap one_turn_less_asleep e ∙ ap (λ (b : Bool). if b then Healthy else Asleep (turns - 1) marked) h

more-turns : (turns : ℕ) → nat_le turns 1 ≡ false → 2 ≤ turns
more-turns zero e = absurd (true≢false e)
more-turns (suc zero) e = absurd (true≢false e)
more-turns (suc (suc n)) e = omega arith

dozes-sleeps : (clause : Bool) (turns : ℕ) (marked : Bool) (c : Cause) (m : Member) → m.status ≡ Asleep turns marked → nat_le turns 1 ≡ false → Sleeps clause c m → Sleeps clause (dozed c) (with_sleep_one_less m)
dozes-sleeps clause turns marked c m e h k =
    let now : (with_sleep_one_less m).status ≡ Asleep (turns - 1) marked = less-status turns marked m e h in
    let adds = k.counted turns marked e in
    let more = more-turns turns h in
    record {
      asleep = λ z. subst (IsCause clause c.by) (ap is_marked e ∙ sym (ap is_marked now)) (k.asleep (ap is_asleep e));
      counted = λ n b z. subst (Adds_up (dozed c)) (ap turns_of (sym now ∙ z)) (
        λ by. let sum = adds.0 by in omega (arith, sum, more),
        λ by. let sum = adds.1 by in omega (arith, sum, more),
      );
      awake = λ z. absurd (true≢false (sym (ap is_asleep now) ∙ z));
    }

pub sides-dozed : (clause : Bool) (s : Side) (turns : ℕ) (marked : Bool) (f : Field) (p : Public) → BothOut f → (member_in s f).status ≡ Asleep turns marked → nat_le turns 1 ≡ false
    → ((u : Side) → Sleepers clause (causes (public_side u p)) (party u f))
    → let g : Field = changed_member s with_sleep_one_less f in (u : Side) → Sleepers clause (causes (public_side u (takes_in (events.Cant (who_in s g) reasons.Asleep) p))) (party u g)
sides-dozed clause s turns marked f p o e h m =
    let g : Field = changed_member s with_sleep_one_less f in
    sides-changed clause s with_sleep_one_less dozed f p (takes_in (events.Cant (who_in s g) reasons.Asleep) p) o (dozes-on s g p (placed-at s clause f _ o (m s))) (dozes-foe s g p)
    (dozes-sleeps clause turns marked _ (member_in s f) e h (now-sleeps clause s f (causes (public_side s p)) (m s))) m

-- It wakes up, or falls.
pub ended : (s : Side) (h : Seen → Seen) → ((m : Seen) → cause (h m) ≡ no_cause) → (p : Public) → 1 ≤ (public_side s p).place
    → causes (public_side s (on_out s (on_seen h) p)) ≡ with_by forgotten (causes (public_side s p))
ended s h e p low = ap causes (out-side s (on_seen h) p low) ∙ seen-by h forgotten (public_side s p) e

pub cure-ends : (s : Side) (g : Field) (kind : Kind) (p : Public) → takes_in (events.Cure (who_in s g) kind) p ≡ on_out s (on_seen is_cured) p
unfolding takes_in
cure-ends s g kind p = refl

pub faint-ends : (s : Side) (g : Field) (p : Public) → takes_in (events.Faint (who_in s g)) p ≡ on_out s (on_seen has_fainted) p
unfolding takes_in
faint-ends s g p = refl

pub sides-ended : (clause : Bool) (s : Side) (change : Member → Member) (h : Seen → Seen) → ((m : Seen) → cause (h m) ≡ no_cause) → (f : Field) (p : Public) → BothOut f → is_asleep (change (member_in s f)).status ≡ false
    → ((u : Side) → Sleepers clause (causes (public_side u p)) (party u f))
    → (u : Side) → Sleepers clause (causes (public_side u (on_out s (on_seen h) p))) (party u (changed_member s change f))
sides-ended clause s change h e f p o a m = sides-changed clause s change forgotten f p (on_out s (on_seen h) p) o (ended s h e p (placed-at s clause f _ o (m s))) (ap causes (foe-side s (on_seen h) p))
    (awake-sleeps clause no_cause (change (member_in s f)) a ((λ z. omega (arith, z), λ z. omega (arith, z)), refl)) m

pub ended-unrested : (s : Side) (h : Seen → Seen) → ((m : Seen) → cause (h m) ≡ no_cause) → (p : Public) (u : Side) → Unrested u p (on_out s (on_seen h) p)
ended-unrested s h e p u = turns-unrested forgotten forgotten-not s u p _ (out-turns (on_seen h) forgotten (λ x. seen-by h forgotten x e) s u p)

pub slept-unrested : (s : Side) (g : Field) (p : Public) (u : Side) → Unrested u p (takes_in (events.Status (who_in s g) kinds.Sleep) p)
unfolding takes_in
slept-unrested s g p u = turns-unrested lulled_by (λ c. put-not c.by) s u p _
    (out-turns (λ x. on_announced (gets_status kinds.Sleep (public_side (other s) p).last_move) (on_seen (is_afflicted kinds.Sleep) x)) lulled_by
    (λ x. seen-by (is_afflicted kinds.Sleep) lulled_by x (λ m. refl)) s u p)
