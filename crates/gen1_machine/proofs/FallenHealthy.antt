-- The fallen have no status. A member that falls within a turn keeps its status until it faints. A fault comes before
-- any member falls.
use Rattle.std.proofs.Common.{Bool, List, [], arith, false, get_or, get_or-set_other, inl, inr, not, refl, set, suc, sym, true, zero, ℕ, ◌-◌, ◌||◌, ◌∷◌, ◌≡◌, ◌≢◌, ◌⊎◌}
use Rattle.std.proofs.lemmas.Bool.{false≢true, ltb-true}
use Rattle.std.proofs.lemmas.Bool.Decides.{eqb_tells}
use Rattle.gen1_rolls.specs.Streams.{Stream}
use Rattle.gen1_stats.specs.declared.member.Status.TheVariants.{Healthy}
use Rattle.gen1_stats.specs.Members.{is_living, nobody, Member}
use Rattle.gen1_machine.specs.declared.side.Side.{Side}
use Rattle.gen1_machine.specs.declared.side.Side.TheVariants.{One, Two}
use Rattle.gen1_machine.specs.declared.terms.Outcome.{Outcome}
use Rattle.gen1_machine.specs.declared.terms.Outcome.TheVariants as outcomes
use Rattle.gen1_machine.specs.State.{active_in, changed_active, changed_conditions, changed_member, has_fallen_in, is_over, member_at, party, with_kept_accuracy, with_last_damage, with_member, with_outcome, Active, Field, Party}
use Rattle.gen1_machine.specs.Progress.{Action, Progress}
use Rattle.gen1_machine.specs.Turn.{is_cut}
use Rattle.gen1_machine.specs.Valid.{FallenAreHealthy}
use Rattle.gen1_machine.proofs.Steady.{Acts, Breaks, Hurts, Own, Softens, Steady}

-- Members

abbrev pub Soft : Member → Type 0
Soft m = m.hp ≡ 0 → m.status ≡ Healthy

abbrev pub AllSoft : Party → Type 0
AllSoft t = (i : ℕ) → Soft (get_or t.members i nobody)

-- All members but the one that is out.
abbrev pub OthersSoft : Party → Type 0
OthersSoft t = (i : ℕ) → i ≢ (t.active.place - 1) → Soft (get_or t.members i nobody)

pub soft-at : (members : List Member) → FallenAreHealthy members → (i : ℕ) → Soft (get_or members i nobody)
soft-at [] h i = λ e. refl
soft-at (m ∷ members) h zero = h 0 m (omega arith)
soft-at (m ∷ members) h (suc i) = soft-at members (λ k d l. h (suc k) d (omega (arith, l))) i

pub soft-all : (members : List Member) → ((i : ℕ) → Soft (get_or members i nobody)) → FallenAreHealthy members
soft-all [] h k d l = absurd (omega (arith, l))
soft-all (m ∷ members) h zero d l = h 0
soft-all (m ∷ members) h (suc k) d l = soft-all members (λ i. h (suc i)) k d (omega (arith, l))

same-or-not : (i j : ℕ) → (i ≡ j) ⊎ (i ≢ j)
same-or-not i j = elim (eqb_tells i j) [ inl e ↦ inl e.1 | inr e ↦ inr e.1 ]

others-soft : (t : Party) → AllSoft t → OthersSoft t
others-soft t h i differs = h i

lives-soft : (m : Member) → is_living m ≡ true → Soft m
lives-soft m e none = absurd (omega (arith, ltb-true 0 m.hp e, none))

-- With the member that is out.
pub whole-soft : (t : Party) → Soft (member_at t.active.place t) → OthersSoft t → AllSoft t
whole-soft t m h i = by (same-or-not i (t.active.place - 1))
  where
    by : (i ≡ (t.active.place - 1)) ⊎ (i ≢ (t.active.place - 1)) → Soft (get_or t.members i nobody)
    by (inl e) = rw e m
    by (inr differs) = h i differs

set-soft : (members : List Member) (i : ℕ) (m : Member) → (Soft (get_or members i nobody) → Soft m) → ((k : ℕ) → Soft (get_or members k nobody))
    → (k : ℕ) → Soft (get_or (set members i m) k nobody)
set-soft [] i m soft h k = λ e. refl
set-soft (x ∷ members) zero m soft h zero = soft (h 0)
set-soft (x ∷ members) zero m soft h (suc k) = h (suc k)
set-soft (x ∷ members) (suc i) m soft h zero = h 0
set-soft (x ∷ members) (suc i) m soft h (suc k) = set-soft members i m soft (λ j. h (suc j)) k

member-soft : (t : Party) (change : Member → Member) → Softens change → AllSoft t → AllSoft (with_member t.active.place (change (member_at t.active.place t)) t)
member-soft t change soft h = set-soft t.members (t.active.place - 1) (change (member_at t.active.place t)) (soft.healthy (member_at t.active.place t)) h

member-others : (t : Party) (m : Member) → OthersSoft t → OthersSoft (with_member t.active.place m t)
member-others t m h i differs = rw (get_or-set_other t.members (t.active.place - 1) i m nobody differs) (h i differs)

-- Fields

-- As a part of a turn begins.
abbrev pub Sturdy : Field → Action → Stream → Type 0
Sturdy f a w = (f.outcome ≡ outcomes.Ongoing) × AllSoft f.one × AllSoft f.two

-- While a member may fall.
abbrev pub Falling : Field → Action → Stream → Type 0
Falling f a w = (f.outcome ≡ outcomes.Ongoing) × OthersSoft f.one × OthersSoft f.two

abbrev pub Ended : Outcome → Field → Type 0
Ended outcomes.Ongoing f = OthersSoft f.one × OthersSoft f.two
Ended (outcomes.Fault n) f = AllSoft f.one × AllSoft f.two
Ended _ f = ⊥

-- As a part of a turn ends.
abbrev pub Tired : Field → Action → Stream → Type 0
Tired f a w = Ended f.outcome f

pub sturdy-falling : (f : Field) (a : Action) (w : Stream) → Sturdy f a w → Falling f a w
sturdy-falling f a w h = (h.0, others-soft f.one h.1, others-soft f.two h.2)

pub falling-tired : (f : Field) (a : Action) (w : Stream) → Falling f a w → Tired f a w
falling-tired f a w h = rw h.0 (h.1, h.2)

pub sturdy-tired : (f : Field) (a : Action) (w : Stream) → Sturdy f a w → Tired f a w
sturdy-tired f a w h = falling-tired f a w (sturdy-falling f a w h)

pub faulted-tired : (n : ℕ) (f : Field) (a : Action) (w : Stream) → Sturdy f a w → Tired (with_outcome (outcomes.Fault n) f) a w
unfolding with_outcome
faulted-tired n f a w h = (h.1, h.2)

pub sturdy-steady : Steady Sturdy
unfolding changed_member changed_active changed_conditions with_last_damage
sturdy-steady = record {
  member = λ s change soft. record { spared = λ f a w h. by_member s change soft f h };
  active = λ s change leaves. record { spared = λ f a w h. by_active s (change (active_in s f)) f h };
  conditions = λ s change leaves. record { spared = λ f a w h. by_active s (record (active_in s f) { conditions = change (active_in s f).conditions }) f h };
  damage = λ n. record { spared = λ f a w h. h };
  action = λ change leaves. record { spared = λ f a w h. h };
}
  where
    by_member : (s : Side) (change : Member → Member) → Softens change → (f : Field) → (f.outcome ≡ outcomes.Ongoing) × AllSoft f.one × AllSoft f.two
        → let g : Field = changed_member s change f in (g.outcome ≡ outcomes.Ongoing) × AllSoft g.one × AllSoft g.two
    by_member One change soft f h = (h.0, member-soft f.one change soft h.1, h.2)
    by_member Two change soft f h = (h.0, h.1, member-soft f.two change soft h.2)

    by_active : (s : Side) (b : Active) (f : Field) → (f.outcome ≡ outcomes.Ongoing) × AllSoft f.one × AllSoft f.two
        → let g : Field = changed_active s (λ a. b) f in (g.outcome ≡ outcomes.Ongoing) × AllSoft g.one × AllSoft g.two
    by_active One b f h = h
    by_active Two b f h = h

pub sturdy-own : (s : Side) → Own Sturdy s
unfolding changed_conditions changed_active with_kept_accuracy
sturdy-own One = record { conditions = λ change. record { spared = λ f a w h. h }; kept = λ byte. record { spared = λ f a w h. h } }
sturdy-own Two = record { conditions = λ change. record { spared = λ f a w h. h }; kept = λ byte. record { spared = λ f a w h. h } }

pub sturdy-breaks : (s : Side) → Breaks Sturdy s
sturdy-breaks s = record { broken = (sturdy-own s).conditions _ }

pub sturdy-acts : Acts Sturdy
sturdy-acts = record { action = λ change. record { spared = λ f a w h. h } }

pub falling-steady : Steady Falling
unfolding changed_member changed_active changed_conditions with_last_damage
falling-steady = record {
  member = λ s change soft. record { spared = λ f a w h. by_member s (change (member_at (active_in s f).place (party s f))) f h };
  active = λ s change leaves. record { spared = λ f a w h. by_active s (change (active_in s f)) f (leaves.place (active_in s f)) h };
  conditions = λ s change leaves. record { spared = λ f a w h. by_active s (record (active_in s f) { conditions = change (active_in s f).conditions }) f refl h };
  damage = λ n. record { spared = λ f a w h. h };
  action = λ change leaves. record { spared = λ f a w h. h };
}
  where
    by_member : (s : Side) (m : Member) (f : Field) → (f.outcome ≡ outcomes.Ongoing) × OthersSoft f.one × OthersSoft f.two
        → let g : Field = changed_member s (λ x. m) f in (g.outcome ≡ outcomes.Ongoing) × OthersSoft g.one × OthersSoft g.two
    by_member One m f h = (h.0, member-others f.one m h.1, h.2)
    by_member Two m f h = (h.0, h.1, member-others f.two m h.2)

    by_active : (s : Side) (b : Active) (f : Field) → b.place ≡ (active_in s f).place → (f.outcome ≡ outcomes.Ongoing) × OthersSoft f.one × OthersSoft f.two
        → let g : Field = changed_active s (λ a. b) f in (g.outcome ≡ outcomes.Ongoing) × OthersSoft g.one × OthersSoft g.two
    by_active One b f e h = (h.0, rw e h.1, h.2)
    by_active Two b f e h = (h.0, h.1, rw e h.2)

pub falling-hurts : Hurts Falling
unfolding changed_member
falling-hurts = record { hurt = λ s change. record { spared = λ f a w h. by s (change (member_at (active_in s f).place (party s f))) f h } }
  where
    by : (s : Side) (m : Member) (f : Field) → (f.outcome ≡ outcomes.Ongoing) × OthersSoft f.one × OthersSoft f.two
        → let g : Field = changed_member s (λ x. m) f in (g.outcome ≡ outcomes.Ongoing) × OthersSoft g.one × OthersSoft g.two
    by One m f h = (h.0, member-others f.one m h.1, h.2)
    by Two m f h = (h.0, h.1, member-others f.two m h.2)

pub falling-own : (s : Side) → Own Falling s
unfolding changed_conditions changed_active with_kept_accuracy
falling-own One = record { conditions = λ change. record { spared = λ f a w h. h }; kept = λ byte. record { spared = λ f a w h. h } }
falling-own Two = record { conditions = λ change. record { spared = λ f a w h. h }; kept = λ byte. record { spared = λ f a w h. h } }

pub falling-acts : Acts Falling
falling-acts = record { action = λ change. record { spared = λ f a w h. h } }

-- If no member has fallen and the battle goes on, the next part may begin

pub stands-soft : (t : Party) → not (is_living (member_at t.active.place t)) ≡ false → Soft (member_at t.active.place t)
stands-soft t e = lives-soft (member_at t.active.place t) (by (is_living (member_at t.active.place t)) e)
  where
    by : (b : Bool) → not b ≡ false → b ≡ true
    by true e = refl
    by false e = absurd (false≢true (sym e))

three : (a b c : Bool) → (a || b || c) ≡ false → (a ≡ false) × (b ≡ false) × (c ≡ false)
three true b c e = absurd (false≢true (sym e))
three false true c e = absurd (false≢true (sym e))
three false false true e = absurd (false≢true (sym e))
three false false false e = (refl, refl, refl)

going : (o : Outcome) (f : Field) → is_over o ≡ false → Ended o f → (o ≡ outcomes.Ongoing) × OthersSoft f.one × OthersSoft f.two
going outcomes.Ongoing f e h = (refl, h.0, h.1)
going (outcomes.Fault n) f e h = absurd (false≢true (sym e))
going outcomes.WinOne f e h = absurd h
going outcomes.WinTwo f e h = absurd h
going outcomes.Tie f e h = absurd h

pub uncut-sturdy : (p : Progress) → is_cut p ≡ false → Tired p.field p.action p.stream → Sturdy p.field p.action p.stream
uncut-sturdy p e h =
    let f = p.field in
    let none = three (has_fallen_in One f) (has_fallen_in Two f) (is_over f.outcome) e in
    let on = going f.outcome f none.2 h in
    (on.0, whole-soft f.one (stands-soft f.one none.0) on.1, whole-soft f.two (stands-soft f.two none.1) on.2)
