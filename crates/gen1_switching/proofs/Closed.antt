-- The close of an update.
use Rattle.gen1_layout.proofs.Words.{Bool, Frame, IsBetween, None, Parts, Phase, Progress, Shows, Some, Telling, ap, arith, choose-false, false, if_not, nat_le, nat_tests, note, refl, stay, stays, then-goes, true, ℕ, ◌▸◌}
use Rattle.std.proofs.Common.{List, [], get_or, length, not, suc, sym, zero, ◌&&◌, ◌-◌, ◌<◌, ◌∷◌, ◌≡◌, ◌∙◌, ◌||◌}
use Rattle.std.proofs.lemmas.Bool.{false≢true}
use Rattle.gen1_tables.specs.Types.{any}
use Rattle.gen1_stats.specs.Members.{is_living, nobody}
use Rattle.gen1_machine.specs.declared.side.Side.{Side}
use Rattle.gen1_machine.specs.declared.side.Side.TheVariants.{One, Two}
use Rattle.gen1_machine.specs.Sides.{other}
use Rattle.gen1_machine.specs.State.{Field, has_fallen_in, is_over, member_in, party}
use Rattle.gen1_machine.specs.declared.event.Event.TheVariants as events
use Rattle.gen1_machine.specs.declared.terms.Outcome.{Outcome}
use Rattle.gen1_machine.specs.declared.terms.Outcome.TheVariants.{Fault, Ongoing, Tie, WinOne, WinTwo}
use Rattle.gen1_machine.specs.Falls.{ask_nothing, close, faint_if_fallen, faint_in_order, settle, the_fallen_faint}
use Rattle.gen1_machine.specs.Progress.{given, when}
use Rattle.gen1_machine.specs.Ruling.{Ruling}
use Rattle.gen1_machine.specs.Turn.{is_cut}
use Rattle.gen1_machine.specs.Valid.{IsOutcome}
use Rattle.gen1_switching.specs.SwitchingIn.{fault_in}

-- A test that fails, before the rest.
pub passed : (test : Progress → Bool) (f k : Phase) (p : Progress) → test p ≡ false → p.stopped ≡ false → (when test f ▸ k) p ≡ k p
unfolding stay
passed test f k p e go =
    let is : when test f p ≡ p = choose-false test f stay p e in
    then-goes (when test f) k p (ap (λ (q : Progress). q.stopped) is ∙ go) ∙ ap k is

-- A turn is left before the last one

pub turn_left : (limit turn : ℕ) → nat_le limit turn ≡ false → turn < limit
turn_left limit turn e = grind (arith, nat_tests)

-- A living member that is out is one of the living members

not_false : (b : Bool) → not b ≡ false → b ≡ true
not_false true e = refl
not_false false e = absurd (false≢true (sym e))

any_at : {A : Type 0} (test : A → Bool) (xs : List A) (k : ℕ) (d : A) → k < length xs → test (get_or xs k d) ≡ true → any test xs ≡ true
any_at test [] k d inside e = absurd (omega arith)
any_at test (x ∷ xs) zero d inside e = rw e refl
any_at test (x ∷ xs) (suc k) d inside e = rw (any_at test xs k d (omega arith) e) (or_true (test x))
  where
    or_true : (b : Bool) → (b || true) ≡ true
    or_true true = refl
    or_true false = refl

pub lives_out : (s : Side) (f : Field) → IsBetween 1 (length (party s f).members) (party s f).active.place → has_fallen_in s f ≡ false
    → any is_living (party s f).members ≡ true
lives_out s f h e = any_at is_living (party s f).members ((party s f).active.place - 1) nobody (omega (arith, h.0, h.1)) (lives s e)
  where
    lives : (s : Side) → has_fallen_in s f ≡ false → is_living (get_or (party s f).members ((party s f).active.place - 1) nobody) ≡ true
    lives One e = not_false (is_living (member_in One f)) e
    lives Two e = not_false (is_living (member_in Two f)) e

-- Both members that are out live

pub neither_lost : (a b : Bool) → a ≡ true → (not a && not b) ≡ false
neither_lost a b e = rw e refl

pub neither_fell : (a b : Bool) → a ≡ false → b ≡ false → (a || b) ≡ false
neither_fell a b one two = rw (one, two) refl

both_false : (a b : Bool) → (not a && not b) ≡ true → (a ≡ false) × (b ≡ false)
both_false false false e = (refl, refl)
both_false false true e = absurd (false≢true e)
both_false true b e = absurd (false≢true e)

pub nobody_fell : (both : Bool) (f : Field) → both ≡ (not (has_fallen_in One f) && not (has_fallen_in Two f)) → both ≡ true → (s : Side) → has_fallen_in s f ≡ false
nobody_fell both f e is One = (both_false (has_fallen_in One f) (has_fallen_in Two f) (sym e ∙ is)).0
nobody_fell both f e is Two = (both_false (has_fallen_in One f) (has_fallen_in Two f) (sym e ∙ is)).1

pub faints_not : {g : Frame} {parts : Parts} {events : Telling} {p : Progress} (s : Side) → has_fallen_in s p.field ≡ false → Shows g parts events false p
    → Shows g parts events false (faint_if_fallen s p)
unfolding faint_if_fallen
faints_not s e h = if_not _ _ _ e (stays h)

-- By whether there was a fault

pub closes_fault : (r : Ruling) (o : Outcome) (n : ℕ) (p : Progress) → fault_in o ≡ Some n → close r o p ≡ (ask_nothing ▸ note λ f. events.Fault n) p
unfolding close
closes_fault r (Fault m) n p e = let is : m ≡ n = cc in ap (λ (k : ℕ). (ask_nothing ▸ note λ f. events.Fault k) p) is
closes_fault r Ongoing n p e = cc
closes_fault r WinOne n p e = cc
closes_fault r WinTwo n p e = cc
closes_fault r Tie n p e = cc

pub closes : (r : Ruling) (o : Outcome) (p : Progress) → fault_in o ≡ None → close r o p ≡ (the_fallen_faint ▸ settle r) p
unfolding close
closes r (Fault m) p e = cc
closes r Ongoing p e = refl
closes r WinOne p e = refl
closes r WinTwo p e = refl
closes r Tie p e = refl

pub fault_range : (o : Outcome) (n : ℕ) → fault_in o ≡ Some n → IsOutcome o → IsBetween 1 2 n
fault_range (Fault m) n e h = let is : m ≡ n = cc in rw (← is) h
fault_range Ongoing n e h = cc
fault_range WinOne n e h = cc
fault_range WinTwo n e h = cc
fault_range Tie n e h = cc

-- A turn that isn't cut

none_of : (a b c : Bool) → (a || b || c) ≡ false → (a ≡ false) × (b ≡ false) × (c ≡ false)
none_of false false false e = (refl, refl, refl)
none_of false false true e = absurd (false≢true (sym e))
none_of false true c e = absurd (false≢true (sym e))
none_of true b c e = absurd (false≢true (sym e))

pub uncut_lives : (p : Progress) → is_cut p ≡ false → (s : Side) → has_fallen_in s p.field ≡ false
uncut_lives p e One = (none_of (has_fallen_in One p.field) (has_fallen_in Two p.field) (is_over p.field.outcome) e).0
uncut_lives p e Two = (none_of (has_fallen_in One p.field) (has_fallen_in Two p.field) (is_over p.field.outcome) e).1

goes_on : (o : Outcome) → is_over o ≡ false → fault_in o ≡ None
goes_on Ongoing e = refl
goes_on (Fault n) e = absurd (false≢true (sym e))
goes_on WinOne e = absurd (false≢true (sym e))
goes_on WinTwo e = absurd (false≢true (sym e))
goes_on Tie e = absurd (false≢true (sym e))

none_faint : (p : Progress) → ((s : Side) → has_fallen_in s p.field ≡ false) → p.stopped ≡ false → the_fallen_faint p ≡ p
unfolding the_fallen_faint given faint_in_order faint_if_fallen stay
none_faint p lives go =
    let actor = p.action.side in
    passed _ _ (faint_if_fallen actor) p (lives (other actor)) go ∙ choose-false _ _ stay p (lives actor)

pub closes_uncut : (r : Ruling) (p : Progress) → is_cut p ≡ false → p.stopped ≡ false → close r p.field.outcome p ≡ settle r p
closes_uncut r p e go =
    let same = none_faint p (uncut_lives p e) go in
    closes r p.field.outcome p (goes_on p.field.outcome (none_of (has_fallen_in One p.field) (has_fallen_in Two p.field) (is_over p.field.outcome) e).2)
    ∙ then-goes the_fallen_faint (settle r) p (ap (λ (q : Progress). q.stopped) same ∙ go) ∙ ap (settle r) same
