use Rattle.std.proofs.Common.{◌≡◌, ℕ, zero, suc, ◌⊎◌, inl, inr, ◌+◌, ◌-◌, ◌%◌, ◌<◌, ◌≤◌, Bool, true, false, refl, ap, ◌∙◌, arith, slice_index, nat_lt}
use Rattle.std.proofs.lemmas.Bool.Decides.{nat_tests}
use Rattle.gen1_rolls.specs.Steady.{draws_of, stream_of, one_up}
use Rattle.gen1_rolls.specs.Streams.{iterate, IsStream, HoldsEveryByte}
use Rattle.gen1_rolls.proofs.First.{iterate-add}
use Rattle.gen1_rolls.proofs.Standing.{stream_of-is, iterate-one_up}
use Rattle.gen1_outcomes.specs.declared.explorer.Script.{Script}
use Rattle.gen1_outcomes.specs.Nodes.{after_draw, next_byte, scripted}
use Rattle.gen1_outcomes.proofs.explorer.keeps_the_law.Goals as goal

-- Given bytes and number are bytes.
record AreBytes (s : Script) : Type 0 where
  given : (k : ℕ) → slice_index s.path k < 256
  number : s.number < 256

true_or : (b : Bool) → (b ≡ true) ⊎ (b ≡ false)
true_or true = inl refl
true_or false = inr refl

lt_of : (a b : ℕ) → nat_lt a b ≡ true → a < b
lt_of a b e = grind (arith, nat_tests)

byte-small : (s : Script) → AreBytes s → next_byte s < 256
byte-small s are =
    elim (true_or (nat_lt s.at 24)) [
      | inl e ↦ rw e (are.given s.at)
      | inr e ↦ rw e are.number
    ]

after-are : (s : Script) → AreBytes s → AreBytes (after_draw s)
after-are s are =
    elim (true_or (nat_lt s.at 24)) [
      | inl e ↦ rw e (record { given = are.given; number = are.number })
      | inr e ↦ rw e (record { given = are.given; number = omega arith })
    ]

later-are : (n : ℕ) (s : Script) → AreBytes s → AreBytes (iterate n after_draw s)
later-are zero s are = are
later-are (suc n) s are = after-are (iterate n after_draw s) (later-are n s are)

-- Behind the given bytes it counts up.
counts-up : (k : ℕ) (s : Script) → nat_lt s.at 24 ≡ false → iterate k after_draw s ≡ record s { number = iterate k one_up s.number }
counts-up zero s e = refl
counts-up (suc k) s e = ap after_draw (counts-up k s e) ∙ rw e refl

counted : (k : ℕ) (s : Script) → AreBytes s → nat_lt s.at 24 ≡ false → draws_of scripted s k ≡ (s.number + k) % 256
counted k s are e = ap next_byte (counts-up k s e) ∙ rw e (iterate-one_up k s.number are.number)

one-more : (s : Script) (k : ℕ) → draws_of scripted s (k + 1) ≡ draws_of scripted (after_draw s) k
one-more s k = ap next_byte (iterate-add after_draw 1 k s)

abbrev Holds : ℕ → Script → ℕ → Type 0
Holds m s b = (k : ℕ) × ((k < m + 256) × (draws_of scripted s k ≡ b))

-- Every byte is among the first 256 once it counts up.
holds-up : (m : ℕ) (s : Script) → AreBytes s → nat_lt s.at 24 ≡ false → (b : ℕ) → b < 256 → Holds m s b
holds-up m s are e b lt =
    let n : s.number < 256 = are.number in
    let k = (b + 256 - s.number) % 256 in
    let sum : (s.number + (b + 256 - s.number) % 256) % 256 ≡ b = omega arith in
    (k, (omega arith, counted k s are e ∙ sum))

-- m draws at most are given, so every byte is among the first m + 256.
holds : (m : ℕ) (s : Script) → AreBytes s → 24 ≤ s.at + m → (b : ℕ) → b < 256 → Holds m s b
holds zero s are few b lt =
    elim (true_or (nat_lt s.at 24)) [
      | inl e ↦ (let less : s.at < 24 = lt_of s.at 24 e in absurd (omega arith))
      | inr e ↦ holds-up zero s are e b lt
    ]
holds (suc m) s are few b lt =
    elim (true_or (nat_lt s.at 24)) [
      | inl e ↦
          let next : 24 ≤ (after_draw s).at + m = rw e (omega arith) in
          let at = holds m (after_draw s) (after-are s are) next b lt in
          (at.0 + 1, (omega (arith, at.1.0), one-more s at.0 ∙ at.1.1))
      | inr e ↦ holds-up (suc m) s are e b lt
    ]

full : (s : Script) → AreBytes s → HoldsEveryByte (draws_of scripted s) 280
full s are b lt = let at = holds 24 s are (omega arith) b lt in (at.0, (omega (arith, at.1.0), at.1.1))

script_is_stream : (s : Script) → AreBytes s → IsStream (stream_of scripted s)
script_is_stream s are =
    stream_of-is scripted s (λ n. byte-small (iterate n after_draw s) (later-are n s are)) (λ n. full (iterate n after_draw s) (later-are n s are))

pub returns-clause-stream : goal.returns-clause-stream
returns-clause-stream c =
    script_is_stream (record { path = c.args.path.now; at = c.args.at; number = c.args.number })
    (record { given = λ k. omega (arith, c.type_inv.path k); number = omega arith })
