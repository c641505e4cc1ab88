-- The cost of a phase: one bound for the case that it goes on, and one for the case that it stops.
use Rattle.std.proofs.Common.{[], Bool, List, None, Option, Some, ap, append-nil, append_assoc, arith, false, length, length-append, max, nat_le, refl, subst, sym, true, true≢false, unwrap_or, ℕ, ◌&&◌, ◌++◌, ◌+◌, ◌∙◌, ◌∷◌, ◌≡◌, ◌≤◌}
use Rattle.std.proofs.lemmas.Bool.{leb-true}
use Rattle.gen1_rolls.specs.Streams.{byte_at, span, first}
use Rattle.gen1_rolls.proofs.First.{first-finds, first-within}
use Rattle.gen1_stats.specs.Members.{Member}
use Rattle.gen1_machine.specs.declared.side.Side.{Side}
use Rattle.gen1_machine.specs.declared.event.Event.{Event}
use Rattle.gen1_machine.specs.LogBytes.{code, codes_of}
use Rattle.gen1_machine.specs.Conditions.{ActiveConditions}
use Rattle.gen1_machine.specs.State.{Active, Field}
use Rattle.gen1_machine.specs.Progress.{Action, Phase, stay, unless_stopped, ◌▸◌, choose, given, draw, draw_until, stop, fault, note, told, on_field, on_action, set_last_damage, on_active, on_conditions, on_member, Progress}
use Rattle.gen1_machine.specs.Bounds.{Spends}

-- Draws, events and bytes of their codes. A case that never occurs costs nothing.
pub data Cost : Type 0 where
  Never : Cost
  At : (draws : ℕ) → (events : ℕ) → (bytes : ℕ) → Cost

abbrev pub plus : Cost → Cost → Cost
plus Never c = Never
plus (At d e b) Never = Never
plus (At d e b) (At x y z) = At (d + x) (e + y) (b + z)

abbrev pub most : Cost → Cost → Cost
most Never c = c
most (At d e b) Never = At d e b
most (At d e b) (At x y z) = At (max d x) (max e y) (max b z)

abbrev pub covers : Cost → Cost → Bool
covers Never c = true
covers (At d e b) Never = false
covers (At d e b) (At x y z) = nat_le d x && (nat_le e y && nat_le b z)

pub record Bound : Type 0 where
  pub on : Cost
  pub off : Cost

-- One phase after another.
infixr 20 ◌⨟◌
abbrev pub ◌⨟◌ : Bound → Bound → Bound
◌⨟◌ b c = record { on = plus b.on c.on; off = most b.off (plus b.on c.off) }

-- One phase or another.
abbrev pub either : Bound → Bound → Bound
either b c = record { on = most b.on c.on; off = most b.off c.off }

abbrev pub all_covered : Bound → Bound → Bool
all_covered b c = covers b.on c.on && covers b.off c.off

abbrev pub goes : ℕ → ℕ → ℕ → Bound
goes d e b = record { on = At d e b; off = Never }

abbrev pub ends : ℕ → ℕ → ℕ → Bound
ends d e b = record { on = Never; off = At d e b }

abbrev pub both : ℕ → ℕ → ℕ → Bound
both d e b = record { on = At d e b; off = At d e b }

abbrev pub may_stop : (a b c x y z : ℕ) → Bound
may_stop a b c x y z = record { on = At a b c; off = At x y z }

-- What each case spends

codes_of-append : (es fs : List Event) → codes_of (es ++ fs) ≡ codes_of es ++ codes_of fs
codes_of-append [] fs = refl
codes_of-append (x ∷ es) fs = simp append_assoc (ap (λ r. code x ++ r) (codes_of-append es fs))

pub spends-trans : {p q r : Progress} {d e b x y z : ℕ} → Spends d e b p q → Spends x y z q r → Spends (d + x) (e + y) (b + z) p r
spends-trans {p} {q} {r} m n = record {
  forward = omega (arith, m.forward, n.forward);
  drawn = omega (arith, m.drawn, n.drawn);
  new = m.new ++ n.new;
  appended = n.appended ∙ ap (λ es. es ++ n.new) m.appended ∙ append_assoc p.events m.new n.new;
  counted = simp length-append (omega (arith, m.counted, n.counted));
  coded = rw codes_of-append (simp length-append (omega (arith, m.coded, n.coded)));
}

pub spends-more : {p q : Progress} {d e b x y z : ℕ} → d ≤ x → e ≤ y → b ≤ z → Spends d e b p q → Spends x y z p q
spends-more h i j m = record {
  forward = m.forward;
  drawn = omega (arith, h, m.drawn);
  new = m.new;
  appended = m.appended;
  counted = omega (arith, i, m.counted);
  coded = omega (arith, j, m.coded);
}

-- This many draws, and no event.
pub spends-draws : (p q : Progress) (k : ℕ) → p.drawn ≤ q.drawn → q.drawn ≤ p.drawn + k → q.events ≡ p.events → Spends k 0 0 p q
spends-draws p q k low high e = record {
  forward = low;
  drawn = high;
  new = [];
  appended = e ∙ sym (append-nil p.events);
  counted = omega arith;
  coded = omega arith;
}

-- One event, and no draw.
spends-note : (p q : Progress) (event : Event) (n : ℕ) → q.drawn ≡ p.drawn → q.events ≡ p.events ++ event ∷ []
    → length (code event) ≤ n → Spends 0 1 n p q
spends-note p q event n d e h = record {
  forward = omega (arith, d);
  drawn = omega (arith, d);
  new = event ∷ [];
  appended = e;
  counted = omega arith;
  coded = rw append-nil h;
}

-- Events are only ever added.
pub spends-grows : {p q : Progress} {d e b : ℕ} → Spends d e b p q → length p.events ≤ length q.events
spends-grows w = rw w.appended (simp length-append (omega arith))

-- Phases

abbrev pub hits_planned : Progress → ℕ
hits_planned p = unwrap_or p.action.hits_planned 1

-- At most this many hits are planned, and no loop makes more draws than in a link battle.
abbrev pub Limited : ℕ → Progress → Type 0
Limited limit p = (hits_planned p ≤ limit) × (span p.stream ≤ 2304)

-- q is reached from p at this cost or less, and is limited.
pub record Reached (limit : ℕ) (p q : Progress) (draws events bytes : ℕ) : Type 0 where
  pub spends : Spends draws events bytes p q
  pub limited : Limited limit q

abbrev pub Meets : ℕ → Progress → Progress → Cost → Type 0
Meets limit p q Never = ⊥
Meets limit p q (At d e b) = Reached limit p q d e b

pub data Ends (limit : ℕ) (p q : Progress) (b : Bound) : Type 0 where
  Goes : (running : q.stopped ≡ false) → (meets : Meets limit p q b.on) → Ends limit p q b
  Stops : (stopped : q.stopped ≡ true) → (meets : Meets limit p q b.off) → Ends limit p q b

-- From a limited start, a phase costs this and stays limited.
pub record Costs (limit : ℕ) (f : Phase) (b : Bound) : Type 0 where
  pub cost : (p : Progress) → p.stopped ≡ false → Limited limit p → Ends limit p (f p) b

pub and-left : (a b : Bool) → (a && b) ≡ true → a ≡ true
and-left true b e = refl
and-left false b e = e

pub and-right : (a b : Bool) → (a && b) ≡ true → b ≡ true
and-right true b e = e
and-right false b e = absurd (true≢false (sym e))

reached-more : {limit : ℕ} {p q : Progress} {d e b x y z : ℕ} → d ≤ x → e ≤ y → b ≤ z → Reached limit p q d e b → Reached limit p q x y z
reached-more h i j m = record { spends = spends-more h i j m.spends; limited = m.limited }

-- How costs add up

meets-limited : (limit : ℕ) (p q : Progress) (c : Cost) → Meets limit p q c → Limited limit q
meets-limited limit p q Never m = absurd m
meets-limited limit p q (At d e b) m = m.limited

meets-plus : (limit : ℕ) (p q r : Progress) (a c : Cost) → Meets limit p q a → Meets limit q r c → Meets limit p r (plus a c)
meets-plus limit p q r Never c m n = absurd m
meets-plus limit p q r (At d e b) Never m n = absurd n
meets-plus limit p q r (At d e b) (At x y z) m n = record { spends = spends-trans m.spends n.spends; limited = n.limited }

meets-left : (limit : ℕ) (p q : Progress) (a c : Cost) → Meets limit p q a → Meets limit p q (most a c)
meets-left limit p q Never c m = absurd m
meets-left limit p q (At d e b) Never m = m
meets-left limit p q (At d e b) (At x y z) m = reached-more (omega arith) (omega arith) (omega arith) m

meets-right : (limit : ℕ) (p q : Progress) (a c : Cost) → Meets limit p q c → Meets limit p q (most a c)
meets-right limit p q Never c m = m
meets-right limit p q (At d e b) Never m = absurd m
meets-right limit p q (At d e b) (At x y z) m = reached-more (omega arith) (omega arith) (omega arith) m

meets-more : (limit : ℕ) (p q : Progress) (a c : Cost) → covers a c ≡ true → Meets limit p q a → Meets limit p q c
meets-more limit p q Never c e m = absurd m
meets-more limit p q (At d n b) Never e m = absurd (true≢false (sym e))
meets-more limit p q (At d n b) (At x y z) e m =
    let i = and-right (nat_le d x) (nat_le n y && nat_le b z) e in
    reached-more
    (leb-true d x (and-left (nat_le d x) (nat_le n y && nat_le b z) e))
    (leb-true n y (and-left (nat_le n y) (nat_le b z) i))
    (leb-true b z (and-right (nat_le n y) (nat_le b z) i))
    m

meets-grows : (limit : ℕ) (p q : Progress) (c : Cost) → Meets limit p q c → length p.events ≤ length q.events
meets-grows limit p q Never m = absurd m
meets-grows limit p q (At d e n) m = spends-grows m.spends

module _ {limit : ℕ} where
  ends-more : (p q : Progress) (b c : Bound) → all_covered b c ≡ true → Ends limit p q b → Ends limit p q c
  ends-more p q b c e (Goes r m) = Goes r (meets-more limit p q b.on c.on (and-left (covers b.on c.on) (covers b.off c.off) e) m)
  ends-more p q b c e (Stops r m) = Stops r (meets-more limit p q b.off c.off (and-right (covers b.on c.on) (covers b.off c.off) e) m)

  -- A bound that is not lower.
  pub more : {f : Phase} {b : Bound} {c : Bound} → Costs limit f b → all_covered b c ≡ true → Costs limit f c
  more {f} {b} {c} h e = record { cost = λ p r i. ends-more p (f p) b c e (h.cost p r i) }

  -- What a caller learns from a cost

  pub ends-reached : (p q : Progress) (d e b : ℕ) → Ends limit p q (both d e b) → Reached limit p q d e b
  ends-reached p q d e b (Goes r m) = m
  ends-reached p q d e b (Stops r m) = m

  pub reached-ends : (p q : Progress) (d e b : ℕ) (t : Bool) → q.stopped ≡ t → Reached limit p q d e b → Ends limit p q (both d e b)
  reached-ends p q d e b true r m = Stops r m
  reached-ends p q d e b false r m = Goes r m

  pub where_on : {f : Phase} {d e b : ℕ} {off : Cost} → Costs limit f (record { on = At d e b; off = off })
      → (p : Progress) → p.stopped ≡ false → Limited limit p → (f p).stopped ≡ false → Spends d e b p (f p)
  where_on {f} {d} {e} {b} {off} h p r i t = by (f p) t (h.cost p r i)
    where
      by : (q : Progress) → q.stopped ≡ false → Ends limit p q (record { on = At d e b; off = off }) → Spends d e b p q
      by q t (Goes r m) = m.spends
      by q t (Stops r m) = absurd (true≢false (sym r ∙ t))

  pub where_off : {f : Phase} {d e b : ℕ} {on : Cost} → Costs limit f (record { on = on; off = At d e b })
      → (p : Progress) → p.stopped ≡ false → Limited limit p → (f p).stopped ≡ true → Spends d e b p (f p)
  where_off {f} {d} {e} {b} {on} h p r i t = by (f p) t (h.cost p r i)
    where
      by : (q : Progress) → q.stopped ≡ true → Ends limit p q (record { on = on; off = At d e b }) → Spends d e b p q
      by q t (Goes r m) = absurd (true≢false (sym t ∙ r))
      by q t (Stops r m) = m.spends

  ends-grows : (p q : Progress) (b : Bound) → Ends limit p q b → length p.events ≤ length q.events
  ends-grows p q b (Goes r m) = meets-grows limit p q b.on m
  ends-grows p q b (Stops r m) = meets-grows limit p q b.off m

  -- Events are only ever added, so what fits at the end fitted all along.
  pub grows : {f : Phase} {b : Bound} → Costs limit f b
      → (p : Progress) → p.stopped ≡ false → Limited limit p → length p.events ≤ length (f p).events
  grows {f} {b} h p r i = ends-grows p (f p) b (h.cost p r i)

  -- One phase after another

  after_first : (p q : Progress) (b c : Bound) (g : Phase) → Costs limit g c → Ends limit p q b → Ends limit p (unless_stopped g q) (b ⨟ c)
  unfolding unless_stopped
  after_first p q b c g hg (Stops r m) =
      subst (λ (t : Bool). Ends limit p (elim t as (λ _. Progress) [ true ↦ q | false ↦ g q ]) (b ⨟ c)) (sym r)
      (Stops r (meets-left limit p q b.off (plus b.on c.off) m))
  after_first p q b c g hg (Goes r m) =
      subst (λ (t : Bool). Ends limit p (elim t as (λ _. Progress) [ true ↦ q | false ↦ g q ]) (b ⨟ c)) (sym r)
      (by p q (g q) b c m (hg.cost q r (meets-limited limit p q b.on m)))
    where
      by : (p q x : Progress) (b c : Bound) → Meets limit p q b.on → Ends limit q x c → Ends limit p x (b ⨟ c)
      by p q x b c m (Goes r n) = Goes r (meets-plus limit p q x b.on c.on m n)
      by p q x b c m (Stops r n) = Stops r (meets-right limit p x b.off (plus b.on c.off) (meets-plus limit p q x b.on c.off m n))

  pub ▸-costs : {f g : Phase} {b c : Bound} → Costs limit f b → Costs limit g c → Costs limit (f ▸ g) (b ⨟ c)
  unfolding ◌▸◌
  ▸-costs {f} {g} {b} {c} hf hg = record { cost = λ p r i. after_first p (f p) b c g hg (hf.cost p r i) }

  -- What fits after both phases fits after the first.
  pub fits-before : {f g : Phase} {b c : Bound} (room : ℕ) → Costs limit f b → Costs limit g c
      → (p : Progress) → p.stopped ≡ false → Limited limit p → length ((f ▸ g) p).events ≤ room → length (f p).events ≤ room
  unfolding ◌▸◌ unless_stopped
  fits-before {f} {g} {b} {c} room hf hg p r i = by (f p) (hf.cost p r i)
    where
      by : (q : Progress) → Ends limit p q b → length (unless_stopped g q).events ≤ room → length q.events ≤ room
      by q (Stops r m) h =
          let e : unless_stopped g q ≡ q = ap (λ (t : Bool). elim t as (λ _. Progress) [ true ↦ q | false ↦ g q ]) r in
          subst (λ x. length x.events ≤ room) e h
      by q (Goes r m) h =
          let e : unless_stopped g q ≡ g q = ap (λ (t : Bool). elim t as (λ _. Progress) [ true ↦ q | false ↦ g q ]) r in
          let k : length (g q).events ≤ room = subst (λ x. length x.events ≤ room) e h in
          omega (arith, k, grows hg q r (meets-limited limit p q b.on m))

  -- One phase or another

  ends-left : (p q : Progress) (b c : Bound) → Ends limit p q b → Ends limit p q (either b c)
  ends-left p q b c (Goes r m) = Goes r (meets-left limit p q b.on c.on m)
  ends-left p q b c (Stops r m) = Stops r (meets-left limit p q b.off c.off m)

  ends-right : (p q : Progress) (b c : Bound) → Ends limit p q c → Ends limit p q (either b c)
  ends-right p q b c (Goes r m) = Goes r (meets-right limit p q b.on c.on m)
  ends-right p q b c (Stops r m) = Stops r (meets-right limit p q b.off c.off m)

  pub choose-costs : (test : Progress → Bool) {f g : Phase} {b c : Bound} → Costs limit f b → Costs limit g c
      → Costs limit (choose test f g) (either b c)
  unfolding choose
  choose-costs test {f} {g} {b} {c} hf hg = record {
    cost = λ p r i.
        elim (test p) as (λ v. Ends limit p (elim v as (λ _. Progress) [ true ↦ f p | false ↦ g p ]) (either b c)) [
          | true ↦ ends-left p (f p) b c (hf.cost p r i)
          | false ↦ ends-right p (g p) b c (hg.cost p r i)
        ];
  }

  -- A test that is known to fail.
  pub unchosen-costs : (f : Phase) {g : Phase} {c : Bound} (b : Bool) → b ≡ false → Costs limit g c → Costs limit (choose (λ _. b) f g) c
  unfolding choose
  unchosen-costs f {g} {c} b e hg = record {
    cost = λ p r i.
        subst (λ (t : Bool). Ends limit p (elim t as (λ _. Progress) [ true ↦ f p | false ↦ g p ]) c) (sym e) (hg.cost p r i);
  }

  pub given-costs : {A : Type 0} (read : Progress → A) {f : A → Phase} {b : Bound} → ((x : A) → Costs limit (f x) b) → Costs limit (given read f) b
  unfolding given
  given-costs read h = record { cost = λ p r i. (h (read p)).cost p r i }

  -- Phases without draws and events

  reached-draws : (p q : Progress) (k : ℕ) → p.drawn ≤ q.drawn → q.drawn ≤ p.drawn + k → q.events ≡ p.events → Limited limit q → Reached limit p q k 0 0
  reached-draws p q k low high e i = record { spends = spends-draws p q k low high e; limited = i }

  reached-same : (p q : Progress) → q.drawn ≡ p.drawn → q.events ≡ p.events → Limited limit q → Reached limit p q 0 0 0
  reached-same p q d e i = reached-draws p q 0 (omega (arith, d)) (omega (arith, d)) e i

  pub stay-costs : Costs limit stay (goes 0 0 0)
  unfolding stay
  stay-costs = record { cost = λ p r i. Goes r (reached-same p (stay p) refl refl i) }

  pub stop-costs : Costs limit stop (ends 0 0 0)
  unfolding stop
  stop-costs = record { cost = λ p r i. Stops refl (reached-same p (stop p) refl refl i) }

  -- A phase that changes neither the stop, nor the stream, nor what is known of the action.
  pub silent-costs : (f : Phase) → ((p : Progress) → ((f p).drawn ≡ p.drawn) × ((f p).events ≡ p.events) × ((f p).stopped ≡ p.stopped) × ((f p).action ≡ p.action) × ((f p).stream ≡ p.stream))
      → Costs limit f (goes 0 0 0)
  silent-costs f h = record {
    cost = λ p r i.
        Goes ((h p).2 ∙ r) (reached-same p (f p) (h p).0 (h p).1 (rw ((h p).3, (h p).4) i));
  }

  pub field-costs : (change : Field → Field) → Costs limit (on_field change) (goes 0 0 0)
  unfolding on_field
  field-costs change = record { cost = λ p r i. Goes r (reached-same p (on_field change p) refl refl i) }

  pub active-costs : (s : Side) (change : Active → Active) → Costs limit (on_active s change) (goes 0 0 0)
  unfolding on_active
  active-costs s change = field-costs _

  pub conditions-costs : (s : Side) (change : ActiveConditions → ActiveConditions) → Costs limit (on_conditions s change) (goes 0 0 0)
  unfolding on_conditions
  conditions-costs s change = field-costs _

  pub member-costs : (s : Side) (change : Member → Member) → Costs limit (on_member s change) (goes 0 0 0)
  unfolding on_member
  member-costs s change = field-costs _

  pub damage-costs : (damage : ℕ) → Costs limit (set_last_damage damage) (goes 0 0 0)
  unfolding set_last_damage
  damage-costs damage = field-costs _

  pub action-costs : (change : Action → Action)
      → ((a : Action) → unwrap_or a.hits_planned 1 ≤ limit → unwrap_or (change a).hits_planned 1 ≤ limit) → Costs limit (on_action change) (goes 0 0 0)
  unfolding on_action
  action-costs change h = record { cost = λ p r i. Goes r (reached-same p (on_action change p) refl refl (h p.action i.0, i.1)) }

  -- A phase that keeps the number of planned hits.
  pub action_else-costs : (change : Action → Action) → ((a : Action) → (change a).hits_planned ≡ a.hits_planned) → Costs limit (on_action change) (goes 0 0 0)
  action_else-costs change h = action-costs change (λ a i. rw (h a) i)

  pub fault-costs : (n : ℕ) → Costs limit (fault n) (ends 0 0 0)
  unfolding fault
  fault-costs n = ▸-costs (field-costs _) stop-costs

  -- Draws

  drew : (p q x : Progress) (k : ℕ) (b : Bound) → Reached limit p q k 0 0 → Ends limit q x b → Ends limit p x (goes k 0 0 ⨟ b)
  drew p q x k b w (Goes r m) = Goes r (meets-plus limit p q x (At k 0 0) b.on w m)
  drew p q x k b w (Stops r m) = Stops r (meets-plus limit p q x (At k 0 0) b.off w m)

  drew-to : (p : Progress) (k m : ℕ) → p.drawn ≤ m + 1 → m + 1 ≤ p.drawn + k → Limited limit p → Reached limit p (record p { drawn = m + 1 }) k 0 0
  drew-to p k m low high i = reached-draws p (record p { drawn = m + 1 }) k low high refl i

  pub draw-costs : {f : ℕ → Phase} {b : Bound} → ((x : ℕ) → Costs limit (f x) b) → Costs limit (draw f) (goes 1 0 0 ⨟ b)
  unfolding draw
  draw-costs {f} {b} h = record {
    cost = λ p r i.
        let q : Progress = record p { drawn = p.drawn + 1 } in
        drew p q (f (byte_at p.stream p.drawn) q) 1 b (drew-to p 1 p.drawn (omega arith) (omega arith) i)
        ((h (byte_at p.stream p.drawn)).cost q r i);
  }

  -- Loops

  loop-costs : {f : ℕ → Phase} {b : Bound} (p : Progress) (test : ℕ → Bool) (o : Option ℕ) → first p.stream p.drawn test ≡ o
      → ((x : ℕ) → Costs limit (f x) b) → p.stopped ≡ false → Limited limit p
      → Ends limit p (elim o as (λ _. Progress) [ Some m ↦ f (byte_at p.stream m) (record p { drawn = m + 1 }) | None ↦ record p { drawn = p.drawn + span p.stream } ])
      (either (goes 2304 0 0) (goes 2304 0 0 ⨟ b))
  loop-costs {f} {b} p test None e h r i =
      let q : Progress = record p { drawn = p.drawn + span p.stream } in
      ends-left p q (goes 2304 0 0) (goes 2304 0 0 ⨟ b)
      (Goes r (reached-draws p q 2304 (omega arith) (omega (arith, i.1)) refl i))
  loop-costs {f} {b} p test (Some m) e h r i =
      let w = first-within p.stream p.drawn test m e in
      let v = (first-finds p.stream p.drawn test m e).from in
      let q : Progress = record p { drawn = m + 1 } in
      let x : Progress = f (byte_at p.stream m) q in
      ends-right p x (goes 2304 0 0) (goes 2304 0 0 ⨟ b)
      (drew p q x 2304 b (drew-to p 2304 m (omega (arith, v)) (omega (arith, w, i.1)) i) ((h (byte_at p.stream m)).cost q r i))

  pub until-costs : (test : ℕ → Bool) {f : ℕ → Phase} {b : Bound} → ((x : ℕ) → Costs limit (f x) b)
      → Costs limit (draw_until test f) (either (goes 2304 0 0) (goes 2304 0 0 ⨟ b))
  unfolding draw_until
  until-costs test {f} {b} h = record { cost = λ p r i. loop-costs p test (first p.stream p.drawn test) refl h r i }

  -- Events

  pub note-costs : (event : Field → Event) (n : ℕ) → ((f : Field) → length (code (event f)) ≤ n) → Costs limit (note event) (goes 0 1 n)
  unfolding note
  note-costs event n h = record {
    cost = λ p r i.
        Goes r (record { spends = spends-note p (note event p) (event p.field) n refl refl (h p.field); limited = i });
  }

  pub told-costs : (change : Field → Field) (event : Field → Event) (n : ℕ) → ((f : Field) → length (code (event f)) ≤ n)
      → Costs limit (told change event) (goes 0 1 n)
  unfolding told
  told-costs change event n h = record {
    cost = λ p r i.
        Goes r (record { spends = spends-note p (told change event p) (event (change p.field)) n refl refl (h (change p.field)); limited = i });
  }

infixr 20 ◌⊳◌
pub ◌⊳◌ : {limit : ℕ} {f g : Phase} {b c : Bound} → Costs limit f b → Costs limit g c → Costs limit (f ▸ g) (b ⨟ c)
◌⊳◌ hf hg = ▸-costs hf hg
