-- The digits of the members that may come out, after an update.
use Rattle.std.proofs.Common.{Bool, List, [], ap, arith, false, get_or, get_or-set_other, get_or-set_same, inl, inr, length, length-set, not, refl, set, suc, sym, true, zero, ℕ, ◌%◌, ◌&&◌, ◌*◌, ◌+◌, ◌-◌, ◌<◌, ◌==◌, ◌^◌, ◌∙◌, ◌∷◌, ◌≡◌, ◌≢◌, ◌≤◌, ◌⊎◌}
use Rattle.std.specs.Prelude.{max}
use Rattle.std.proofs.lemmas.Bool.Decides.{eqb_tells}
use Rattle.gen1_stats.specs.Members.{is_living, nobody}
use Rattle.gen1_machine.specs.declared.side.Choice.{Choice}
use Rattle.gen1_machine.specs.declared.side.Choice.TheVariants as choices
use Rattle.gen1_machine.specs.declared.side.Side.{Side}
use Rattle.gen1_machine.specs.declared.side.Side.TheVariants.{One, Two}
use Rattle.gen1_machine.specs.Layout.{number_of_bits}
use Rattle.gen1_machine.specs.Rules.{bit_of}
use Rattle.gen1_machine.specs.State.{Active, Field, Party, Terms, active_in, member_at, party}
use Rattle.gen1_machine.specs.Valid.{IsUnstarted}
use Rattle.gen1_layout.specs.Parts.{Parts}
use Rattle.gen1_layout.specs.Shows.{Setting, Within}
use Rattle.gen1_offers.specs.OfferedChoices.{Follows, KeepsOut, living_of, passing}
use Rattle.gen1_offers.proofs.MaskDigits.{and_false}

-- the place of a member that is out

at-least : (n : ℕ) → 1 ≤ n → max 1 n ≡ n
at-least n h = grind arith

pub out_is : (g : Setting) (f : Field) (s : Side) {p : Parts} → Within g p f → max 1 (active_in s f).place ≡ (active_in s f).place
out_is g f One h = at-least f.one.active.place h.storable.one.place.0
out_is g f Two h = at-least f.two.active.place h.storable.two.place.0

pub out-index : (out place : ℕ) → out ≡ max 1 place → out - 1 ≡ place - 1
out-index out place e = grind arith

at-least-one : (out place : ℕ) → out ≡ max 1 place → 1 ≤ out
at-least-one out place e = grind arith

pub keeps-place : (choice : Choice) (old new : Party) → ((place : ℕ) → choice ≡ choices.Switch place → ⊥) → KeepsOut choice old new
    → max 1 new.active.place ≡ max 1 old.active.place
keeps-place choices.Pass old new apart h = h
keeps-place (choices.Move slot) old new apart h = h
keeps-place (choices.Switch place) old new apart h = absurd (apart place refl)

-- two lists that differ at most at one place

passing-same : (k out : ℕ) (xs ys : List Bool) → length xs ≡ length ys
    → ((i : ℕ) → i < length xs → k + i ≢ out → get_or xs i false ≡ get_or ys i false) → passing k out xs ≡ passing k out ys
passing-same k out [] [] long same = refl
passing-same k out (x ∷ xs) [] long same = absurd (omega (arith, long))
passing-same k out [] (y ∷ ys) long same = absurd (omega (arith, long))
passing-same k out (x ∷ xs) (y ∷ ys) long same =
    by (eqb_tells k out)
    (passing-same (k + 1) out xs ys (omega (arith, long)) (λ i inside differs. same (suc i) (omega (arith, inside)) (λ e. differs (omega (arith, e)))))
  where
    by : (((k == out) ≡ true) × (k ≡ out)) ⊎ (((k == out) ≡ false) × (k ≢ out)) → passing (k + 1) out xs ≡ passing (k + 1) out ys
        → passing k out (x ∷ xs) ≡ passing k out (y ∷ ys)
    by (inl t) rest = rw (t.0, rest) (ap (λ (b : Bool). b ∷ passing (k + 1) out ys) (and_false x ∙ sym (and_false y)))
    by (inr t) rest =
        rw (t.0, rest)
        (ap (λ (b : Bool). (b && not false) ∷ passing (k + 1) out ys) (same 0 (omega arith) (λ e. t.1 (omega (arith, e)))))

living-at : (s : Side) (f : Field) (i : ℕ) → i < 6 → get_or (living_of s f) i false ≡ is_living (get_or (party s f).members i nobody)
living-at s f zero inside = refl
living-at s f (suc zero) inside = refl
living-at s f (suc (suc zero)) inside = refl
living-at s f (suc (suc (suc zero))) inside = refl
living-at s f (suc (suc (suc (suc zero)))) inside = refl
living-at s f (suc (suc (suc (suc (suc zero))))) inside = refl
living-at s f (suc (suc (suc (suc (suc (suc i)))))) inside = absurd (omega (arith, inside))

-- an update without a switch

pub stays-same : (s : Side) (old new : Field) (choice : Choice) (out : ℕ) → out ≡ max 1 (active_in s old).place → out ≡ max 1 (active_in s new).place
    → Follows choice (party s old) (party s new) → passing 1 out (living_of s old) ≡ passing 1 out (living_of s new)
stays-same s old new choice out before after h = passing-same 1 out (living_of s old) (living_of s new) refl by
  where
    some : 1 ≤ out
    some = at-least-one out (active_in s old).place before

    by : (i : ℕ) → i < 6 → 1 + i ≢ out → get_or (living_of s old) i false ≡ get_or (living_of s new) i false
    by i inside differs =
        let one = out-index out (active_in s old).place before in
        let two = out-index out (active_in s new).place after in
        living-at s old i inside
        ∙ ap is_living (sym (h.others i (λ e. differs (omega (arith, e, one, some))) (λ e. differs (omega (arith, e, two, some)))))
        ∙ sym (living-at s new i inside)

-- an update with a switch

pub comes-same : (s : Side) (old new : Field) (choice : Choice) (out now : ℕ) → out ≡ max 1 (active_in s old).place → now ≡ (active_in s new).place
    → 1 ≤ now → Follows choice (party s old) (party s new)
    → passing 1 now (set (living_of s old) (out - 1) (is_living (member_at out (party s new)))) ≡ passing 1 now (living_of s new)
comes-same s old new choice out now before after low h =
    passing-same 1 now (set all (out - 1) back) (living_of s new) (length-set all (out - 1) back) by
  where
    all : List Bool
    all = living_of s old

    back : Bool
    back = is_living (member_at out (party s new))

    by : (i : ℕ) → i < length (set all (out - 1) back) → 1 + i ≢ now → get_or (set all (out - 1) back) i false ≡ get_or (living_of s new) i false
    by i inside differs = of (eqb_tells i (out - 1))
      where
        few : i < 6
        few = omega (arith, inside, length-set all (out - 1) back)

        of : (((i == (out - 1)) ≡ true) × (i ≡ out - 1)) ⊎ (((i == (out - 1)) ≡ false) × (i ≢ out - 1))
            → get_or (set all (out - 1) back) i false ≡ get_or (living_of s new) i false
        of (inl t) =
            ap (λ (j : ℕ). get_or (set all j back) i false) (sym t.1) ∙ get_or-set_same all i back false few
            ∙ ap (λ (j : ℕ). is_living (get_or (party s new).members j nobody)) (sym t.1) ∙ sym (living-at s new i few)
        of (inr t) =
            let one = out-index out (active_in s old).place before in
            get_or-set_other all (out - 1) i back false t.1 ∙ living-at s old i few
            ∙ ap is_living (sym (h.others i (λ e. t.1 (e ∙ sym one)) (λ e. differs (omega (arith, e, after, low)))))
            ∙ sym (living-at s new i few)

-- before the first update

pub nobody-out : (s : Side) (terms : Terms) (f : Field) → IsUnstarted terms f → (active_in s f).place ≡ 0
nobody-out One terms f h = ap (λ (a : Active). a.place) h.nobody_one
nobody-out Two terms f h = ap (λ (a : Active). a.place) h.nobody_two

-- numbers of six digits

pub length-passing : (k out : ℕ) (bs : List Bool) → length (passing k out bs) ≡ length bs
length-passing k out [] = refl
length-passing k out (b ∷ bs) = omega (arith, length-passing (k + 1) out bs)

bit-most : (b : Bool) → bit_of b ≤ 1
bit-most true = omega arith
bit-most false = omega arith

pub bits-below : (bs : List Bool) (n : ℕ) → length bs ≡ n → number_of_bits bs < 2 ^ n
bits-below [] n long = rw (sym long) (omega arith)
bits-below (b ∷ bs) zero long = absurd (omega (arith, long))
bits-below (b ∷ bs) (suc n) long = omega (arith, bit-most b, bits-below bs n (omega (arith, long)))

pub shifted : (b : Bool) (n k : ℕ) → n ≡ bit_of b → k < 6 → n * 2 ^ k % 2 ^ 32 ≡ bit_of b * 2 ^ k
shifted b n k e few = rw e (by b k few)
  where
    by : (b : Bool) (k : ℕ) → k < 6 → bit_of b * 2 ^ k % 2 ^ 32 ≡ bit_of b * 2 ^ k
    by true zero few = refl
    by true (suc zero) few = refl
    by true (suc (suc zero)) few = refl
    by true (suc (suc (suc zero))) few = refl
    by true (suc (suc (suc (suc zero)))) few = refl
    by true (suc (suc (suc (suc (suc zero))))) few = refl
    by true (suc (suc (suc (suc (suc (suc k)))))) few = absurd (omega (arith, few))
    by false k few = omega arith
