-- The slots that Disable may draw. The first four of a list are all there are, and a slot holds a move if it has a
-- number. Two bytes that look the same under the look of a slot lead to the same progress.
use Rattle.gen1_layout.proofs.Words.{Bool, IsBetween, List, Progress, Side, [], ap, arith, choose-true, draw, false, inl, inr, known_in, length, nat_lt, nat_tests, refl, stay, stop, suc, sym, then-stops, true, zero, ℕ, ◌∙◌, ◌▸◌}
use Rattle.std.proofs.Common.{All, slice_index_or, add-zero, get_or, if◌then◌else◌, not, ◌%◌, ◌&&◌, ◌+◌, ◌-◌, ◌<◌, ◌||◌, ◌∷◌, ◌≡◌, ◌≤◌, ◌⊎◌}
use Rattle.gen1_stats.specs.declared.member.KnownMove.{KnownMove}
use Rattle.gen1_stats.specs.Members.{nothing_known}
use Rattle.gen1_rolls.specs.declared.rolls.Look.TheVariants.{Remainder}
use Rattle.gen1_rolls.specs.Streams.{sees}
use Rattle.gen1_machine.specs.declared.event.Volatile.TheVariants as volatiles
use Rattle.gen1_machine.specs.Conditions.{with_disabled}
use Rattle.gen1_machine.specs.Progress.{fail, fails_if, starts}
use Rattle.gen1_machine.specs.Sides.{other}
use Rattle.gen1_machine.specs.SideEffects.{disable_for, disable_slot, has_pp, names_slot}
use Rattle.gen1_hits.proofs.Knowledge.{stops-then}
use Rattle.gen1_status.proofs.Statuses.{below, not_below}

either_pp : (a b : ℕ) → nat_lt 0 (a + b) ≡ (nat_lt 0 a || nat_lt 0 b)
either_pp a b = elim (some a) [
  | inl none ↦ (let e : a + b ≡ b = omega arith in rw (e, none) refl)
  | inr more ↦ rw (below 0 (a + b) (omega arith), below 0 a more) refl
]
  where
    some : (n : ℕ) → (n ≡ 0) ⊎ (0 < n)
    some n = grind arith

or_none : (x : Bool) → (x || false) ≡ x
or_none true = refl
or_none false = refl

or_three : (x y z : Bool) → ((x || y) || z) ≡ (x || (y || z))
or_three true y z = refl
or_three false y z = refl

abbrev pub four_pp : List KnownMove → Bool
four_pp moves = nat_lt 0 (known_in 1 moves).pp || (nat_lt 0 (known_in 2 moves).pp || (nat_lt 0 (known_in 3 moves).pp || nat_lt 0 (known_in 4 moves).pp))

pub has_pp-is : (moves : List KnownMove) → length moves ≤ 4 → has_pp moves ≡ four_pp moves
has_pp-is [] h = refl
has_pp-is (a ∷ []) h = simp (either_pp, add-zero, or_none, or_three) refl
has_pp-is (a ∷ b ∷ []) h = simp (either_pp, add-zero, or_none, or_three) refl
has_pp-is (a ∷ b ∷ c ∷ []) h = simp (either_pp, add-zero, or_none, or_three) refl
has_pp-is (a ∷ b ∷ c ∷ d ∷ []) h = simp (either_pp, add-zero, or_none, or_three) refl
has_pp-is (a ∷ b ∷ c ∷ d ∷ e ∷ more) h = absurd (omega arith)

beyond : (moves : List KnownMove) (k : ℕ) → length moves ≤ k → get_or moves k nothing_known ≡ nothing_known
beyond [] k h = refl
beyond (m ∷ moves) zero h = absurd (omega arith)
beyond (m ∷ moves) (suc k) h = beyond moves k (omega arith)

within_or : (k n : ℕ) → (k < n) ⊎ (n ≤ k)
within_or k n = grind arith

pub holds_move : (moves : List KnownMove) (k : ℕ) → All (λ (m : KnownMove). IsBetween 1 165 m.id) moves → nat_lt k (length moves) ≡ nat_lt 0 (known_in (k + 1) moves).id
holds_move moves k h =
    let e : k + 1 - 1 ≡ k = omega arith in
    rw e (elim (within_or k (length moves)) [
      | inl held ↦ below k (length moves) held ∙ sym (below 0 (get_or moves k nothing_known).id (omega (arith, (h k nothing_known held).0)))
      | inr past ↦ not_below k (length moves) past ∙ sym (ap (λ (m : KnownMove). nat_lt 0 m.id) (beyond moves k past))
    ])

-- A slot that a byte names holds a move.
pub named_holds : (moves : List KnownMove) (b : ℕ) → names_slot moves b ≡ true → b % 4 < length moves
named_holds moves b h = by (nat_lt (b % 4) (length moves)) _ h refl
  where
    by : (x y : Bool) → (x && y) ≡ true → nat_lt (b % 4) (length moves) ≡ x → b % 4 < length moves
    by true y h e = grind (arith, nat_tests)
    by false y h e = cc

-- The slots that bytes name, one for each of the four remainders.
pub named_by : (moves : List KnownMove) {one two three four : Bool} → one ≡ names_slot moves 0 → two ≡ names_slot moves 1 → three ≡ names_slot moves 2 → four ≡ names_slot moves 3
    → (b : ℕ) → slice_index_or (one ∷ two ∷ three ∷ four ∷ []) (b % 4) false ≡ names_slot moves b
named_by moves {one = one} {two = two} {three = three} {four = four} first second third fourth b = by (b % 4) refl (omega arith)
  where
    by : (k : ℕ) → b % 4 ≡ k → k < 4 → slice_index_or (one ∷ two ∷ three ∷ four ∷ []) (b % 4) false ≡ names_slot moves b
    by zero e lt = rw e first
    by (suc zero) e lt = rw e second
    by (suc (suc zero)) e lt = rw e third
    by (suc (suc (suc zero))) e lt = rw e fourth
    by (suc (suc (suc (suc k)))) e lt = absurd (omega arith)

-- Bytes that look the same

fail-stops : (s : Side) (p : Progress) → (fail s p).stopped ≡ true
unfolding fail stop
fail-stops s p = stops-then _ stop (λ q. refl) p

-- If a move has PP, only the slot is looked at. Otherwise Disable fails before anything is.
pub slot_alike : (s : Side) (moves : List KnownMove) (any : Bool) (x y : ℕ) → any ≡ has_pp moves
    → sees (if any then Remainder 4 else Remainder 1) x ≡ sees (if any then Remainder 4 else Remainder 1) y
    → (p : Progress) → disable_slot s moves x p ≡ disable_slot s moves y p
unfolding disable_slot fails_if disable_for stay
slot_alike s moves true x y is e p =
    ap (λ (n : ℕ). (fails_if s (λ _. not (has_pp moves)) ▸ draw (λ c. starts (other s) volatiles.Disable (with_disabled (n + 1) (c % 8 + 1)))) p) e
slot_alike s moves false x y is e p =
    let fails = fails_if s (λ _. not (has_pp moves)) in
    let ends : (fails p).stopped ≡ true =
    ap (λ (q : Progress). q.stopped) (choose-true (λ _. not (has_pp moves)) (fail s) stay p (ap not (sym is))) ∙ fail-stops s p in
    then-stops fails (draw (disable_for (other s) x)) p ends ∙ sym (then-stops fails (draw (disable_for (other s) y)) p ends)
