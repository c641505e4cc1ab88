-- The factors of a foe's types, computed once for all types of a move and of a foe.
use Rattle.std.proofs.Common.{Bool, List, [], ap, arith, eqb-true, get_or, length, nat_le, refl, ◌&&◌, ◌*◌, ◌+◌, ◌<◌, ◌==◌, ◌∙◌, ◌∷◌, ◌≡◌, ◌≤◌, ℕ, true}
use Rattle.std.specs.List.{list_all}
use Rattle.std.proofs.lemmas.Bool.{and_parts, leb-true}
use Rattle.std.proofs.lemmas.List.Sums.{AllPass-from_list_all}
use Rattle.gen1_tables.specs.declared.types.Element.{Element}
use Rattle.gen1_tables.specs.declared.types.Element.TheVariants.{Normal, Fighting, Flying, Poison, Ground, Rock, Bug, Ghost, Fire, Water, Grass, Electric, Psychic, Ice, Dragon}
use Rattle.gen1_tables.specs.declared.types.TheConstants.{FACTORS}
use Rattle.gen1_tables.specs.Types.{in_tenths, TypeRow, number_of, rows_against, tenths_of, type_rows}

abbrev elements : List Element
elements = Normal ∷ Fighting ∷ Flying ∷ Poison ∷ Ground ∷ Rock ∷ Bug ∷ Ghost ∷ Fire ∷ Water ∷ Grass ∷ Electric ∷ Psychic ∷ Ice ∷ Dragon ∷ []

at_number : (t : Element) → t ≡ get_or elements (number_of t) Normal
at_number Normal = refl
at_number t = refl

number-lt : (t : Element) → number_of t < length elements
number-lt Normal = omega arith
number-lt t = omega arith

of_each : (p : Element → Bool) → list_all p elements ≡ true → (t : Element) → p t ≡ true
of_each p all t = ap p (at_number t) ∙ AllPass-from_list_all p elements all (number_of t) Normal (number-lt t)

-- The factors in the code's table, by the numbers of the three types. d is the default.
abbrev pub factors_at : ℕ → ℕ → ℕ → ℕ → ℕ × ℕ
factors_at d t u v = in_tenths (get_or FACTORS (15 * (15 * t + u) + v) d)

-- The factors are those of the specification. None is lost, and none is large.
abbrev Agrees : List TypeRow → ℕ × ℕ → Type 0
Agrees rows two = (two ≡ tenths_of rows) × (length rows ≤ 2) × (two.0 ≤ 20) × (two.1 ≤ 20)

abbrev agrees : List TypeRow → ℕ × ℕ → Bool
agrees rows two = (two.0 == (tenths_of rows).0 && two.1 == (tenths_of rows).1) && (nat_le (length rows) 2 && (nat_le two.0 20 && nat_le two.1 20))

agrees-is : (rows : List TypeRow) (two : ℕ × ℕ) → agrees rows two ≡ true → Agrees rows two
agrees-is rows two h =
    let parts = and_parts _ _ h in let same = and_parts _ _ parts.0 in let rest = and_parts _ _ parts.1 in let small = and_parts _ _ rest.1 in (
      (λ i. (eqb-true two.0 (tenths_of rows).0 same.0 i, eqb-true two.1 (tenths_of rows).1 same.1 i)),
      leb-true (length rows) 2 rest.0,
      leb-true two.0 20 small.0,
      leb-true two.1 20 small.1,
    )

abbrev agree_at : ℕ → Element → Element → Element → Bool
agree_at d t u v = agrees (rows_against t u v) (factors_at d (number_of t) (number_of u) (number_of v))

all-agree : (d : ℕ) → list_all (λ t. list_all (λ u. list_all (λ v. agree_at d t u v) elements) elements) elements ≡ true
unfolding type_rows
all-agree d = refl

pub agree : (d : ℕ) (t u v : Element) {i j k : ℕ} → i ≡ number_of t → j ≡ number_of u → k ≡ number_of v → Agrees (rows_against t u v) (factors_at d i j k)
agree d t u v kind first second =
    let of_all = of_each (λ x. list_all (λ y. list_all (λ z. agree_at d x y z) elements) elements) (all-agree d) t in
    let of_kind = of_each (λ y. list_all (λ z. agree_at d t y z) elements) of_all u in
    rw (kind, first, second) (agrees-is _ _ (of_each (λ z. agree_at d t u z) of_kind v))
