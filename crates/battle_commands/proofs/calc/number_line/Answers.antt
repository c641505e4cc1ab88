use Rattle.std.proofs.Common.{List, [], ap, arith, codes, decimal, drop, get_or, length, refl, take, take_all, ℕ, ◌++◌, ◌≡◌, ◌≤◌, ◌∙◌, ◌∷◌}
use Rattle.std.specs.List.{flat_map}
use Rattle.battle_commands.specs.Calc.{behind_space, number_line}
use Rattle.battle_commands.proofs.calc.number_line.Goals as goal

-- after all numbers that follow the first one
all_written : (numbers rest bytes : List ℕ) (i : ℕ) → length numbers ≡ 39 → rest ≡ take 38 (drop 1 numbers) → length rest ≤ i
    → bytes ≡ decimal (get_or numbers 0 0) ++ flat_map behind_space (take i rest) → bytes ++ codes "\n" ≡ number_line numbers
all_written [] rest bytes i long is end written = absurd (omega arith)
all_written (first ∷ later) rest bytes i long is end written =
    let behind : take i rest ≡ later = take_all i rest end ∙ is ∙ take_all 38 later (omega arith) in
    ap (λ b. b ++ codes "\n") (written ∙ ap (λ l. decimal first ++ flat_map behind_space l) behind)

pub returns : goal.returns
returns c =
    c.push_str-2.ensures.bytes
    ∙ all_written c.args.numbers.now _ c.loop-number.line.bytes c.loop-number.number-index c.told-numbers refl c.loop-number-test.false c.loop-number.invariant.written
