-- What a player knows of the foe: HP in a form, members in the order of their appearance, and what holds of it after a run.
use Rattle.std.proofs.Common.{Bool, ap, arith, false, if◌then◌else◌, inl, inr, refl, subst, sym, true, ℕ, ◌*◌, ◌+◌, ◌-◌, ◌/◌, ◌<◌, ◌==◌, ◌∙◌, ◌≡◌, ◌≢◌, ◌≤◌, ◌⊎◌, List, None, [], get_or, length, lit<, slice_index_or, suc, zero, ◌∷◌, All}
use Rattle.std.specs.Prelude.{None, max, min, nat_le, if◌then◌else◌}
use Rattle.std.proofs.Math.Nat.{add-mul, div-mul-le_self, mul-add}
use Rattle.std.proofs.lemmas.Bool.Decides.{eqb_tells, leb_tells}
use Rattle.std.proofs.lemmas.Nat.{div_below, le-div, mul-le}
use Rattle.gen1_player.specs.declared.teller.HpForm.{HpForm}
use Rattle.gen1_player.specs.declared.teller.HpForm.TheVariants.{Bar, Exact, Hundredths}
use Rattle.gen1_player.specs.Telling.{bar, bar_divisor, bar_factor, filled, form_of, hundredths, told_in, slot_of, IsInSlot, IsTeller}
use Rattle.gen1_player.proofs.Retellings.{bar_few}
use Rattle.gen1_guesses.specs.Forks.{ForksTellHp, IsToldAs, foe_part, hp_of, seen_in, fresh_members, members_of, told, told_if_seen, foe_bits}
use Rattle.std.proofs.lemmas.List.{get_or-map, length-map, get_or_past}
use Rattle.gen1_stats.specs.Members.{nobody, Member, nothing_known, IsBetween, IsFresh, IsTeam}
use Rattle.gen1_machine.specs.declared.side.Side.{Side}
use Rattle.gen1_machine.specs.Numbers.{side_number}
use Rattle.gen1_machine.specs.State.{Party, known_in, member_at}
use Rattle.gen1_player.specs.declared.public_side.PublicSide.{PublicSide}
use Rattle.gen1_player.specs.declared.seen.Seen.{Seen}
use Rattle.gen1_player.specs.declared.teller.Teller.{Teller}
use Rattle.gen1_player.specs.Public.{not_seen, seen_at}
use Rattle.gen1_player.specs.True.{foe_as_told, foe_known, with_hp_told, current_move_of, SideAgrees, SideDoes, SideIsTold, SideSleeps, HasCause}
use Rattle.gen1_player.proofs.Lenses.{is-some, is-zero, left, taken}
use Rattle.gen1_player.proofs.Slots.{kept-slot}
use Rattle.gen1_player.proofs.ToldPublic.{FoeKept}
use Rattle.gen1_guesses.proofs.ForkedStates.{below_or, words}
use Rattle.gen1_guesses.proofs.OwnForked.{IsShort}
use Rattle.gen1_guesses.proofs.FoeForked.{exact, exact_in, exact_seen, effect_is, flag_of, on_is, Foe}
use Rattle.std.proofs.lemmas.List.Elements.{All-get_or}
use Rattle.gen1_tables.specs.declared.effect.Effect.{Effect}
use Rattle.gen1_tables.specs.Effects.{bides, charges, rages}
use Rattle.gen1_stats.specs.declared.member.KnownMove.{KnownMove}
use Rattle.gen1_layout.specs.Loading.{effect_of_number}
use Rattle.gen1_layout.proofs.Counts.{bits_of-is, bits_of-lt}
use Rattle.gen1_machine.specs.declared.side.UsedMove.{UsedMove}
use Rattle.gen1_machine.specs.declared.side.UsedMove.TheVariants.{Nothing, Slot, Struggle}
use Rattle.gen1_machine.specs.Layout.{number_of_bits}
use Rattle.gen1_machine.specs.Picks.{number_in}
use Rattle.gen1_machine.specs.Rules.{Rules}
use Rattle.gen1_machine.specs.Valid.{effect_of, IsMemberUnder, IsParty}
use Rattle.gen1_machine.specs.View.{side_shows}
use Rattle.gen1_states.specs.Laws.{IsPlainMember, IsPlainSide}
use Rattle.gen1_states.specs.Plain.{no_member}
use Rattle.gen1_states.specs.Reading.{member_state}
use Rattle.gen1_states.specs.declared.plain.MemberState.{MemberState}

-- Quotients

quotient : (x d n : ℕ) → 1 ≤ d → n * d ≤ x → x < (n + 1) * d → x / d ≡ n
quotient x d n low a b =
    let least : n ≤ x / d = le-div n x d (omega (arith, low)) a in
    let most : x / d < n + 1 = div_below x d (n + 1) (omega (arith, low)) b in omega (arith, least, most)

times_one_more : (n d : ℕ) → (n + 1) * d ≡ n * d + d
times_one_more n d = let e : (n + 1) * d ≡ n * d + 1 * d = add-mul n 1 d in omega (arith, e)

-- What a bar says of the HP: at least this many pixels are filled, or one is shown, and not one more

pixels : (hp most n : ℕ) → 1 ≤ bar_divisor most → 1 ≤ hp → bar hp most ≡ n → (1 ≤ n) × ((n * bar_divisor most ≤ bar_factor most * hp) ⊎ (n ≡ 1)) × (bar_factor most * hp < (n + 1) * bar_divisor most)
pixels hp most n low some is = by (eqb_tells hp 0) (leb_tells 1 (filled hp most))
  where
    f : ℕ
    f = filled hp most

    bound : bar_factor most * hp < (f + 1) * bar_divisor most
    bound = by_least (leb_tells ((f + 1) * bar_divisor most) (bar_factor most * hp))
      where
        by_least : ((nat_le ((f + 1) * bar_divisor most) (bar_factor most * hp) ≡ true) × ((f + 1) * bar_divisor most ≤ bar_factor most * hp))
            ⊎ ((nat_le ((f + 1) * bar_divisor most) (bar_factor most * hp) ≡ false) × (bar_factor most * hp < (f + 1) * bar_divisor most))
            → bar_factor most * hp < (f + 1) * bar_divisor most
        by_least (inl e) = absurd (let k : f + 1 ≤ f = le-div (f + 1) (bar_factor most * hp) (bar_divisor most) low e.1 in omega (arith, k))
        by_least (inr e) = e.1

    by : (((hp == 0) ≡ true) × (hp ≡ 0)) ⊎ (((hp == 0) ≡ false) × (hp ≢ 0)) → ((nat_le 1 f ≡ true) × (1 ≤ f)) ⊎ ((nat_le 1 f ≡ false) × (f < 1))
        → (1 ≤ n) × ((n * bar_divisor most ≤ bar_factor most * hp) ⊎ (n ≡ 1)) × (bar_factor most * hp < (n + 1) * bar_divisor most)
    by (inl e) p = absurd (let none = e.1 in omega (arith, none, some))
    by (inr e) (inl p) =
        let many = p.1 in
        let same : f ≡ n = (let m : f ≡ max 1 f = omega (arith, many) in m) ∙ sym (ap (λ (b : Bool). if b then 0 else max 1 f) e.0) ∙ is in
        subst (λ (k : ℕ). (1 ≤ k) × ((k * bar_divisor most ≤ bar_factor most * hp) ⊎ (k ≡ 1)) × (bar_factor most * hp < (k + 1) * bar_divisor most)) same
        (many, inl (div-mul-le_self (bar_factor most * hp) (bar_divisor most)), bound)
    by (inr e) (inr p) =
        let few = p.1 in
        let same : 1 ≡ n = (let m : 1 ≡ max 1 f = omega (arith, few) in m) ∙ sym (ap (λ (b : Bool). if b then 0 else max 1 f) e.0) ∙ is in
        let none : f ≡ 0 = omega (arith, few) in
        let below : bar_factor most * hp < (0 + 1) * bar_divisor most = subst (λ (k : ℕ). bar_factor most * hp < (k + 1) * bar_divisor most) none bound in
        subst (λ (k : ℕ). (1 ≤ k) × ((k * bar_divisor most ≤ bar_factor most * hp) ⊎ (k ≡ 1)) × (bar_factor most * hp < (k + 1) * bar_divisor most)) same
        (omega arith, inr refl, omega (arith, below))

-- and HP that fill so many show them.
shows_pixels : (hp most n : ℕ) → 1 ≤ bar_divisor most → 1 ≤ hp → 1 ≤ n → n * bar_divisor most ≤ bar_factor most * hp → bar_factor most * hp < (n + 1) * bar_divisor most → bar hp most ≡ n
shows_pixels hp most n low some one a b = by (eqb_tells hp 0)
  where
    by : (((hp == 0) ≡ true) × (hp ≡ 0)) ⊎ (((hp == 0) ≡ false) × (hp ≢ 0)) → bar hp most ≡ n
    by (inl e) = absurd (let none = e.1 in omega (arith, none, some))
    by (inr e) = ap (λ (c : Bool). if c then 0 else max 1 (filled hp most)) e.0
        ∙ ap (λ (k : ℕ). max 1 k) (quotient (bar_factor most * hp) (bar_divisor most) n low a b) ∙ (let m : max 1 n ≡ n = omega (arith, one) in m)

-- The least HP of the bar

least : ℕ → ℕ → ℕ
least n most = (n * most + 47) / 48

some_left : (n most : ℕ) → 11 ≤ most → 1 ≤ n → most ≤ n * most
some_left n most low one = let k : 1 * most ≤ n * most = mul-le 1 most n most one (omega arith) in omega (arith, k)

no_more : (n most : ℕ) → n ≤ 48 → n * most ≤ 48 * most
no_more n most few = mul-le n most 48 most few (omega arith)

least_small : (n most hp : ℕ) → 11 ≤ most → most < 256 → 1 ≤ hp → 1 ≤ n → n ≤ 48 → (n * most ≤ 48 * hp) ⊎ (n ≡ 1) → 48 * hp < (n + 1) * most
    → (1 ≤ least n most) × (least n most ≤ most) × (n * most ≤ 48 * least n most) × (48 * least n most < (n + 1) * most)
unfolding least
least_small n most hp low short some one few a b = by (leb_tells 48 most) a
  where
    more : (n + 1) * most ≡ n * most + most
    more = times_one_more n most

    at_least : most ≤ n * most
    at_least = some_left n most low one

    at_most : n * most ≤ 48 * most
    at_most = no_more n most few

    by : ((nat_le 48 most ≡ true) × (48 ≤ most)) ⊎ ((nat_le 48 most ≡ false) × (most < 48)) → (n * most ≤ 48 * hp) ⊎ (n ≡ 1)
        → (1 ≤ (n * most + 47) / 48) × ((n * most + 47) / 48 ≤ most) × (n * most ≤ 48 * ((n * most + 47) / 48)) × (48 * ((n * most + 47) / 48) < (n + 1) * most)
    by (inl e) c = let long = e.1 in (omega (arith, at_least, low), omega (arith, at_most), omega arith, omega (arith, more, long))
    by (inr e) (inl c) = (omega (arith, at_least, low), omega (arith, at_most), omega arith, omega (arith, more, b, c))
    by (inr e) (inr c) =
        let brief = e.1 in
        let is : n * most ≡ 1 * most = ap (λ (k : ℕ). k * most) c in
        (omega (arith, at_least, low), omega (arith, at_most), omega arith, omega (arith, more, b, is, brief, some))

least_large : (n most : ℕ) → 256 ≤ most → 1 ≤ n → n ≤ 48
    → (1 ≤ least n most) × (least n most ≤ most) × (n * (most / 4) ≤ 12 * least n most) × (12 * least n most < (n + 1) * (most / 4))
unfolding least
least_large n most long one few =
    let q : ℕ = most / 4 in
    let r : ℕ = most - 4 * q in
    let split : most ≡ q + q + (q + q) + r = omega arith in
    let rest : r ≤ 3 = omega arith in
    let e0 : n * most ≡ n * (q + q + (q + q) + r) = ap (λ (k : ℕ). n * k) split in
    let e1 : n * (q + q + (q + q) + r) ≡ n * (q + q + (q + q)) + n * r = mul-add n (q + q + (q + q)) r in
    let e2 : n * (q + q + (q + q)) ≡ n * (q + q) + n * (q + q) = mul-add n (q + q) (q + q) in
    let e3 : n * (q + q) ≡ n * q + n * q = mul-add n q q in
    let e4 : n * r ≤ 48 * 3 = mul-le n r 48 3 few rest in
    let more : (n + 1) * q ≡ n * q + q = times_one_more n q in
    let at_least = some_left n most (omega (arith, long)) one in
    let at_most = no_more n most few in
    (omega (arith, at_least, long), omega (arith, at_most), omega (arith, e0, e1, e2, e3), omega (arith, e0, e1, e2, e3, e4, more, long))

-- A bar of no pixels is that of no HP.
none_shown : (hp most : ℕ) → bar hp most ≡ 0 → hp ≡ 0
none_shown hp most is = by (eqb_tells hp 0)
  where
    by : (((hp == 0) ≡ true) × (hp ≡ 0)) ⊎ (((hp == 0) ≡ false) × (hp ≢ 0)) → hp ≡ 0
    by (inl e) = e.1
    by (inr e) = absurd (let m : max 1 (filled hp most) ≡ 0 = sym (ap (λ (c : Bool). if c then 0 else max 1 (filled hp most)) e.0) ∙ is in omega (arith, m))

bar_again : (n hp most : ℕ) → hp ≤ most → 11 ≤ most → bar hp most ≡ n → bar (hp_of n 48 most) most ≡ n
unfolding least
bar_again n hp most fits low is = by (eqb_tells n 0) (leb_tells 256 most)
  where
    few : n ≤ 48
    few = subst (λ (k : ℕ). k ≤ 48) is (bar_few hp most fits low)

    some : n ≢ 0 → 1 ≤ hp
    some z = by_hp (eqb_tells hp 0)
      where
        by_hp : (((hp == 0) ≡ true) × (hp ≡ 0)) ⊎ (((hp == 0) ≡ false) × (hp ≢ 0)) → 1 ≤ hp
        by_hp (inl e) = absurd (z (sym is ∙ ap (λ (c : Bool). if c then 0 else max 1 (filled hp most)) e.0))
        by_hp (inr e) = let no = e.1 in omega (arith, no)

    by : (((n == 0) ≡ true) × (n ≡ 0)) ⊎ (((n == 0) ≡ false) × (n ≢ 0)) → ((nat_le 256 most ≡ true) × (256 ≤ most)) ⊎ ((nat_le 256 most ≡ false) × (most < 256))
        → bar (min ((n * most + 47) / 48) most) most ≡ n
    by (inl e) k =
        let none : min ((0 * most + 47) / 48) most ≡ 0 = omega arith in
        ap (λ (i : ℕ). bar (min ((i * most + 47) / 48) most) most) e.1 ∙ ap (λ (i : ℕ). bar i most) none ∙ sym e.1
    by (inr e) (inl k) =
        let one : 1 ≤ n = (let no = e.1 in omega (arith, no)) in
        let l = least_large n most k.1 one few in
        let all : (n * most + 47) / 48 ≡ min ((n * most + 47) / 48) most = (let c = l.1 in omega (arith, c)) in
        let long = k.1 in
        let p : (1 ≤ (n * most + 47) / 48) × (n * bar_divisor most ≤ bar_factor most * ((n * most + 47) / 48)) × (bar_factor most * ((n * most + 47) / 48) < (n + 1) * bar_divisor most) =
        rw k.0 (l.0, l.2, l.3) in
        let d : 1 ≤ bar_divisor most = rw k.0 (omega (arith, long)) in
        subst (λ (i : ℕ). bar i most ≡ n) all (shows_pixels ((n * most + 47) / 48) most n d p.0 one p.1 p.2)
    by (inr e) (inr k) =
        let one : 1 ≤ n = (let no = e.1 in omega (arith, no)) in
        let d : 1 ≤ bar_divisor most = rw k.0 (omega (arith, low)) in
        let x = pixels hp most n d (some e.1) is in
        let y : ((n * most ≤ 48 * hp) ⊎ (n ≡ 1)) × (48 * hp < (n + 1) * most) =
        subst (λ (c : Bool). ((n * (if c then most / 4 else most) ≤ (if c then 12 else 48) * hp) ⊎ (n ≡ 1)) × ((if c then 12 else 48) * hp < (n + 1) * (if c then most / 4 else most))) k.0 (x.1, x.2) in
        let l = least_small n most hp low k.1 (some e.1) one few y.0 y.1 in
        let all : (n * most + 47) / 48 ≡ min ((n * most + 47) / 48) most = (let c = l.1 in omega (arith, c)) in
        let p : (1 ≤ (n * most + 47) / 48) × (n * bar_divisor most ≤ bar_factor most * ((n * most + 47) / 48)) × (bar_factor most * ((n * most + 47) / 48) < (n + 1) * bar_divisor most) =
        rw k.0 (l.0, l.2, l.3) in
        subst (λ (i : ℕ). bar i most ≡ n) all (shows_pixels ((n * most + 47) / 48) most n d p.0 one p.1 p.2)

-- Hundredths

part : ℕ → ℕ → ℕ
part hp most = (100 * hp + most - 1) / most

part_is : (n most hp : ℕ) → 11 ≤ most → 1 ≤ n → 100 * hp ≤ n * most → n * most < 100 * hp + most → part hp most ≡ n
unfolding part
part_is n most hp low one a b =
    let more = times_one_more n most in
    quotient (100 * hp + most - 1) most n (omega (arith, low)) (omega (arith, b)) (omega (arith, more, a, low))

part_tells : (n most hp : ℕ) → 11 ≤ most → 1 ≤ hp → part hp most ≡ n → (100 * hp ≤ n * most) × (n * most < 100 * hp + most)
unfolding part
part_tells n most hp low some is =
    let x : ℕ = 100 * hp + most - 1 in
    let below : x / most * most ≤ x = div-mul-le_self x most in
    let least_part : n * most ≤ x = subst (λ (k : ℕ). k * most ≤ x) is below in
    (above (leb_tells (100 * hp) (n * most)), omega (arith, least_part, low))
  where
    above : ((nat_le (100 * hp) (n * most) ≡ true) × (100 * hp ≤ n * most)) ⊎ ((nat_le (100 * hp) (n * most) ≡ false) × (n * most < 100 * hp)) → 100 * hp ≤ n * most
    above (inl e) = e.1
    above (inr e) =
        let more = times_one_more n most in
        let over = e.1 in
        absurd (let k : n + 1 ≤ (100 * hp + most - 1) / most = le-div (n + 1) (100 * hp + most - 1) most (omega (arith, low)) (omega (arith, more, over, low)) in omega (arith, k, is))

-- HP that are neither none nor all, and fewer hundredths than all.
abbrev short_of : ℕ → ℕ → ℕ
short_of hp most = if hp == 0 then 0 else if hp == most then 100 else min 99 (part hp most)

shown_short : (n most hp : ℕ) → 1 ≤ hp → hp < most → n ≤ 99 → part hp most ≡ n → short_of hp most ≡ n
shown_short n most hp some short few is = by (eqb_tells hp 0) (eqb_tells hp most)
  where
    by : (((hp == 0) ≡ true) × (hp ≡ 0)) ⊎ (((hp == 0) ≡ false) × (hp ≢ 0)) → (((hp == most) ≡ true) × (hp ≡ most)) ⊎ (((hp == most) ≡ false) × (hp ≢ most))
        → short_of hp most ≡ n
    by (inl e) k = absurd (let none = e.1 in omega (arith, none, some))
    by (inr e) (inl k) = absurd (let all = k.1 in omega (arith, all, short))
    by (inr e) (inr k) = rw (e.0, k.0) (omega (arith, is, few))

-- The most HP of a number of hundredths.
most_short : (n most : ℕ) → 11 ≤ most → 1 ≤ n → n ≤ 99 → 1 ≤ n * most / 100 → n * most < 100 * (n * most / 100) + most
    → short_of (min (max (n * most / 100) (min n 1)) most) most ≡ n
most_short n most low one few some near =
    let at_most : n * most ≤ 99 * most = mul-le n most 99 most few (omega arith) in
    let all : n * most / 100 ≡ min (max (n * most / 100) (min n 1)) most = omega (arith, some, at_most) in
    subst (λ (i : ℕ). short_of i most ≡ n) all
    (shown_short n most (n * most / 100) some (omega (arith, at_most, low)) few (part_is n most (n * most / 100) low one (omega arith) near))

abbrev back_from : ℕ → ℕ → ℕ
back_from most k = short_of (min (max (k * most / 100) (min k 1)) most) most

hundredths_again : (n hp most : ℕ) → hp ≤ most → 11 ≤ most → short_of hp most ≡ n → short_of (min (max (n * most / 100) (min n 1)) most) most ≡ n
hundredths_again n hp most fits low is = by (eqb_tells hp 0) (eqb_tells hp most)
  where
    whole : short_of most most ≡ 100
    whole = full (eqb_tells most 0) (eqb_tells most most)
      where
        full : (((most == 0) ≡ true) × (most ≡ 0)) ⊎ (((most == 0) ≡ false) × (most ≢ 0)) → (((most == most) ≡ true) × (most ≡ most)) ⊎ (((most == most) ≡ false) × (most ≢ most))
            → short_of most most ≡ 100
        full (inl e) k = absurd (let none = e.1 in omega (arith, none, low))
        full (inr e) (inl k) = rw (e.0, k.0) refl
        full (inr e) (inr k) = absurd (k.1 refl)

    inside : (c : ℕ) → part hp most ≡ c → 1 ≤ hp → hp < most → min 99 c ≡ n → ((nat_le c 99 ≡ true) × (c ≤ 99)) ⊎ ((nat_le c 99 ≡ false) × (99 < c)) → back_from most n ≡ n
    inside c e some short m (inl k) =
        let few = k.1 in
        let same : c ≡ n = (let x : c ≡ min 99 c = omega (arith, few) in x ∙ m) in
        let tells = part_tells n most hp low some (e ∙ same) in
        let one : 1 ≤ n = positive (eqb_tells n 0) tells.0 in
        let l0 = tells.0 in
        let l1 = tells.1 in
        most_short n most low one (omega (arith, few, same)) (omega (arith, l0, some)) (omega (arith, l0, l1))
      where
        positive : (((n == 0) ≡ true) × (n ≡ 0)) ⊎ (((n == 0) ≡ false) × (n ≢ 0)) → 100 * hp ≤ n * most → 1 ≤ n
        positive (inl z) b = absurd (let none : 100 * hp ≤ 0 * most = subst (λ (k : ℕ). 100 * hp ≤ k * most) z.1 b in omega (arith, none, some))
        positive (inr z) b = let no = z.1 in omega (arith, no)
    inside c e some short m (inr k) =
        let many = k.1 in
        let same : 99 ≡ n = (let x : 99 ≡ min 99 c = omega (arith, many) in x ∙ m) in
        let tells = part_tells c most hp low some e in
        let l1 = tells.1 in
        let over : 100 * most ≤ c * most = mul-le 100 most c most many (omega arith) in
        subst (λ (k : ℕ). back_from most k ≡ k) same (most_short 99 most low (omega arith) (omega arith) (omega (arith, low)) (omega (arith, l1, over, short)))

    by : (((hp == 0) ≡ true) × (hp ≡ 0)) ⊎ (((hp == 0) ≡ false) × (hp ≢ 0)) → (((hp == most) ≡ true) × (hp ≡ most)) ⊎ (((hp == most) ≡ false) × (hp ≢ most)) → back_from most n ≡ n
    by (inl e) k =
        let same : 0 ≡ n = sym (ap (λ (c : Bool). if c then 0 else if hp == most then 100 else min 99 (part hp most)) e.0) ∙ is in
        let none : min (max (0 * most / 100) (min 0 1)) most ≡ 0 = omega arith in
        subst (λ (k : ℕ). back_from most k ≡ k) same (ap (λ (i : ℕ). short_of i most) none)
    by (inr e) (inl k) =
        subst (λ (k : ℕ). back_from most k ≡ k) (sym (ap (λ (c : Bool). if c then 100 else min 99 (part hp most)) k.0) ∙ sym (ap (λ (c : Bool). if c then 0 else if hp == most then 100 else min 99 (part hp most)) e.0) ∙ is)
        ((let all : min (max (100 * most / 100) (min 100 1)) most ≡ most = omega (arith, low) in ap (λ (i : ℕ). short_of i most) all) ∙ whole)
    by (inr e) (inr k) =
        let apart = k.1 in
        let no = e.1 in
        inside (part hp most) refl (omega (arith, no)) (omega (arith, apart, fits))
        (sym (ap (λ (c : Bool). if c then 100 else min 99 (part hp most)) k.0) ∙ sym (ap (λ (c : Bool). if c then 0 else if hp == most then 100 else min 99 (part hp most)) e.0) ∙ is)
        (leb_tells (part hp most) 99)

-- The law

exact_again : (n most : ℕ) → n ≤ most → 11 ≤ most → hp_of n most most ≡ n
exact_again n most fits low = by (eqb_tells most 100)
  where
    by : (((most == 100) ≡ true) × (most ≡ 100)) ⊎ (((most == 100) ≡ false) × (most ≢ 100)) → hp_of n most most ≡ n
    by (inl e) = rw e.0 (let all = e.1 in subst (λ (k : ℕ). min (max (n * k / 100) (min n 1)) k ≡ n) (sym all) (omega (arith, fits, all)))
    by (inr e) =
        let m : max most 1 ≡ most = omega (arith, low) in
        let q : (n * most + (most - 1)) / most ≡ n = (let more = times_one_more n most in quotient (n * most + (most - 1)) most n (omega (arith, low)) (omega arith) (omega (arith, more, low))) in
        rw (e.0, m, q) (omega (arith, fits))

pub forks_tell_hp : ForksTellHp
unfolding part
forks_tell_hp form n whole most low may = by (form_of form) may.1 may.2.0 may.2.1
  where
    by : (f : HpForm) {hp : ℕ} → hp ≤ most → (told_in f (record { hp = hp; max = most; kind = None })).hp ≡ n → (told_in f (record { hp = hp; max = most; kind = None })).max ≡ whole
        → ((told_in f (record { hp = hp_of n whole most; max = most; kind = None })).hp ≡ n) × ((told_in f (record { hp = hp_of n whole most; max = most; kind = None })).max ≡ whole)
    by Exact {hp} fits is max_is = (subst (λ (w : ℕ). hp_of n w most ≡ n) max_is (exact_again n most (omega (arith, fits, is)) low), max_is)
    by Bar {hp} fits is max_is = (subst (λ (w : ℕ). bar (hp_of n w most) most ≡ n) max_is (bar_again n hp most fits low is), max_is)
    by Hundredths {hp} fits is max_is = (subst (λ (w : ℕ). hundredths (hp_of n w most) most ≡ n) max_is (hundredths_again n hp most fits low is), max_is)

-- The order of appearance

-- The shape of it: places in the order of appearance, without a gap.
pub record IsNumbered (x : PublicSide) : Type 0 where
  pub six : length x.members ≡ 6
  pub blank : (i : ℕ) → i < 6 → (seen_in i x.members).species ≡ 0 → seen_in i x.members ≡ not_seen
  pub order : (i j : ℕ) → i < 6 → j < i → (seen_in i x.members).species ≢ 0 → (seen_in j x.members).species ≢ 0
  pub out : x.place ≢ 0 → (i : ℕ) × (i < 6) × (x.place ≡ i + 1) × ((seen_in i x.members).species ≢ 0)

module _ (t : Teller) (w : PublicSide) (k : FoeKept t.places w.place w.members) where
  seen_told : (i : ℕ) → i < 6 → seen_in i (foe_as_told t w).members ≡ foe_known t (get_or t.places i 0) (seen_at (get_or t.places i 0) w)
  seen_told i low = get_or-map (λ (p : ℕ). foe_known t p (seen_at p w)) t.places i 0 not_seen (let full = k.full in omega (arith, low, full))

  free : (i : ℕ) → i < 6 → get_or t.places i 0 ≡ 0 → seen_in i (foe_as_told t w).members ≡ not_seen
  free i low e = seen_told i low ∙ taken (get_or t.places i 0 == 0) not_seen (with_hp_told t (seen_at (get_or t.places i 0) w)) (is-zero (get_or t.places i 0) e)

  held : (i : ℕ) → i < 6 → get_or t.places i 0 ≢ 0 → (seen_in i (foe_as_told t w).members).species ≢ 0
  held i low z e = k.appeared i z (sym (ap (λ (s : Seen). s.species) (seen_told i low
      ∙ left (get_or t.places i 0 == 0) not_seen (with_hp_told t (seen_at (get_or t.places i 0) w)) (is-some (get_or t.places i 0) z))) ∙ e)

  met : (i : ℕ) → i < 6 → (seen_in i (foe_as_told t w).members).species ≢ 0 → get_or t.places i 0 ≢ 0
  met i low z e = z (ap (λ (s : Seen). s.species) (free i low e))

  pub numbered : IsNumbered (foe_as_told t w)
  numbered = record {
    six = length-map t.places (λ (p : ℕ). foe_known t p (seen_at p w)) ∙ k.full;
    blank = λ i low e. by i low e (eqb_tells (get_or t.places i 0) 0);
    order = λ i j low less z. held j (omega (arith, low, less)) (k.kept i j less (met i low z)).0;
    out = λ z. placed z (eqb_tells w.place 0);
  }
    where
      by : (i : ℕ) → i < 6 → (seen_in i (foe_as_told t w).members).species ≡ 0
          → (((get_or t.places i 0 == 0) ≡ true) × (get_or t.places i 0 ≡ 0)) ⊎ (((get_or t.places i 0 == 0) ≡ false) × (get_or t.places i 0 ≢ 0))
          → seen_in i (foe_as_told t w).members ≡ not_seen
      by i low e (inl z) = free i low z.1
      by i low e (inr z) = absurd (held i low z.1 e)

      placed : (foe_as_told t w).place ≢ 0 → (((w.place == 0) ≡ true) × (w.place ≡ 0)) ⊎ (((w.place == 0) ≡ false) × (w.place ≢ 0))
          → (i : ℕ) × (i < 6) × ((foe_as_told t w).place ≡ i + 1) × ((seen_in i (foe_as_told t w).members).species ≢ 0)
      placed z (inl e) = absurd (z (taken (w.place == 0) 0 (slot_of w.place t.places + 1) e.0))
      placed z (inr e) =
          let o = k.out e.1 in
          let at : slot_of w.place t.places ≡ o.0 = kept-slot w.place t.places o.0 k.full k.kept o.1 o.2 e.1 in
          (o.0, o.1, left (w.place == 0) 0 (slot_of w.place t.places + 1) e.0 ∙ ap (λ (n : ℕ). n + 1) at, held o.0 o.1 (λ q. e.1 (sym o.2 ∙ q)))

  -- A member that has appeared, as its side knows it.
  pub known_told : (i : ℕ) → (seen_in i (foe_as_told t w).members).species ≢ 0
      → (get_or t.places i 0 ≢ 0) × (seen_in i (foe_as_told t w).members ≡ with_hp_told t (seen_at (get_or t.places i 0) w))
  known_told i z = by (below_or i 6)
    where
      by : (i < 6) ⊎ (6 ≤ i) → (get_or t.places i 0 ≢ 0) × (seen_in i (foe_as_told t w).members ≡ with_hp_told t (seen_at (get_or t.places i 0) w))
      by (inl low) =
          let there = met i low z in
          (there, seen_told i low ∙ left (get_or t.places i 0 == 0) not_seen (with_hp_told t (seen_at (get_or t.places i 0) w)) (is-some (get_or t.places i 0) there))
      by (inr past) = absurd (z (ap (λ (s : Seen). s.species) (get_or_past (foe_as_told t w).members i not_seen (let six = numbered.six in omega (arith, past, six)))))

  -- The active member, as the log shows it.
  pub out_told : (foe_as_told t w).place ≢ 0
      → ((foe_as_told t w).place - 1 < 6) × (w.place ≢ 0) × (seen_in ((foe_as_told t w).place - 1) (foe_as_told t w).members ≡ with_hp_told t (seen_at w.place w))
  out_told z = by (eqb_tells w.place 0)
    where
      by : (((w.place == 0) ≡ true) × (w.place ≡ 0)) ⊎ (((w.place == 0) ≡ false) × (w.place ≢ 0))
          → ((foe_as_told t w).place - 1 < 6) × (w.place ≢ 0) × (seen_in ((foe_as_told t w).place - 1) (foe_as_told t w).members ≡ with_hp_told t (seen_at w.place w))
      by (inl e) = absurd (z (taken (w.place == 0) 0 (slot_of w.place t.places + 1) e.0))
      by (inr e) =
          let o = k.out e.1 in
          let low = o.1 in
          let at : slot_of w.place t.places ≡ o.0 = kept-slot w.place t.places o.0 k.full k.kept o.1 o.2 e.1 in
          let place : (foe_as_told t w).place ≡ o.0 + 1 = left (w.place == 0) 0 (slot_of w.place t.places + 1) e.0 ∙ ap (λ (n : ℕ). n + 1) at in
          let back : o.0 ≡ (foe_as_told t w).place - 1 = omega (arith, place) in (
            omega (arith, place, low),
            e.1,
            ap (λ (i : ℕ). seen_in i (foe_as_told t w).members) (sym back) ∙ seen_told o.0 o.1
                ∙ ap (λ (q : ℕ). foe_known t q (seen_at q w)) o.2 ∙ left (w.place == 0) not_seen (with_hp_told t (seen_at w.place w)) e.0,
          )

  -- What put a member to sleep, as the log shows it
  pub told_causes : {truth : Bool} (u : Party) → SideSleeps truth w u → (i : ℕ) → HasCause (seen_in i (foe_as_told t w).members)
  told_causes u sleeps i = by (below_or i 6)
    where
      p : ℕ
      p = get_or t.places i 0

      nobody_sleeps : seen_in i (foe_as_told t w).members ≡ not_seen → HasCause (seen_in i (foe_as_told t w).members)
      nobody_sleeps e = subst HasCause (sym e) (record { asleep = λ h. absurd (omega (arith, h)); awake = λ h. (λ z. omega (arith, z), λ z. omega (arith, z)); rested = λ h. refl })

      known : (((p == 0) ≡ true) × (p ≡ 0)) ⊎ (((p == 0) ≡ false) × (p ≢ 0)) → i < 6 → HasCause (seen_in i (foe_as_told t w).members)
      known (inl e) low = nobody_sleeps (free i low e.1)
      known (inr e) low =
          let is : seen_in i (foe_as_told t w).members ≡ with_hp_told t (seen_at p w) = seen_told i low ∙ left (p == 0) not_seen (with_hp_told t (seen_at p w)) e.0 in
          let c = (sleeps p (k.appeared i e.1)).cause in
          subst HasCause (sym is) (record { asleep = c.asleep; awake = c.awake; rested = c.rested })

      by : (i < 6) ⊎ (6 ≤ i) → HasCause (seen_in i (foe_as_told t w).members)
      by (inr past) = nobody_sleeps (get_or_past (foe_as_told t w).members i not_seen (let six = numbered.six in omega (arith, past, six)))
      by (inl low) = known (eqb_tells p 0) low

  -- and for how long it may go on
  pub told_short : ((place : ℕ) → (seen_at place w).species ≢ 0 → IsShort (seen_at place w)) → (i : ℕ) → IsShort (seen_in i (foe_as_told t w).members)
  told_short short i = by (below_or i 6)
    where
      p : ℕ
      p = get_or t.places i 0

      nobody_sleeps : seen_in i (foe_as_told t w).members ≡ not_seen → IsShort (seen_in i (foe_as_told t w).members)
      nobody_sleeps e = subst IsShort (sym e) (λ h. absurd (omega (arith, h)))

      known : (((p == 0) ≡ true) × (p ≡ 0)) ⊎ (((p == 0) ≡ false) × (p ≢ 0)) → i < 6 → IsShort (seen_in i (foe_as_told t w).members)
      known (inl e) low = nobody_sleeps (free i low e.1)
      known (inr e) low =
          let is : seen_in i (foe_as_told t w).members ≡ with_hp_told t (seen_at p w) = seen_told i low ∙ left (p == 0) not_seen (with_hp_told t (seen_at p w)) e.0 in
          subst IsShort (sym is) (λ h. short p (k.appeared i e.1) h)

      by : (i < 6) ⊎ (6 ≤ i) → IsShort (seen_in i (foe_as_told t w).members)
      by (inr past) = nobody_sleeps (get_or_past (foe_as_told t w).members i not_seen (let six = numbered.six in omega (arith, past, six)))
      by (inl low) = known (eqb_tells p 0) low

-- The teller of a battle in which the places are these numbers.

abbrev number : PublicSide → ℕ → ℕ
number x i = if (seen_in i x.members).species == 0 then 0 else i + 1

abbrev pub numbers : PublicSide → List ℕ
numbers x = number x 0 ∷ number x 1 ∷ number x 2 ∷ number x 3 ∷ number x 4 ∷ number x 5 ∷ []

abbrev pub teller_of : Side → ℕ → PublicSide → Teller
teller_of s form x = record { side = side_number s; pixels = form; places = numbers x }

number_at : (x : PublicSide) (i : ℕ) → i < 6 → get_or (numbers x) i 0 ≡ number x i
number_at x zero h = refl
number_at x (suc zero) h = refl
number_at x (suc (suc zero)) h = refl
number_at x (suc (suc (suc zero))) h = refl
number_at x (suc (suc (suc (suc zero)))) h = refl
number_at x (suc (suc (suc (suc (suc zero))))) h = refl
number_at x (suc (suc (suc (suc (suc (suc i)))))) h = absurd (omega (arith, h))

number_past : (x : PublicSide) (i : ℕ) → 6 ≤ i → get_or (numbers x) i 0 ≡ 0
number_past x zero h = absurd (omega (arith, h))
number_past x (suc zero) h = absurd (omega (arith, h))
number_past x (suc (suc zero)) h = absurd (omega (arith, h))
number_past x (suc (suc (suc zero))) h = absurd (omega (arith, h))
number_past x (suc (suc (suc (suc zero)))) h = absurd (omega (arith, h))
number_past x (suc (suc (suc (suc (suc zero))))) h = absurd (omega (arith, h))
number_past x (suc (suc (suc (suc (suc (suc i)))))) h = refl

number_some : (x : PublicSide) (i : ℕ) → (seen_in i x.members).species ≢ 0 → number x i ≡ i + 1
number_some x i z = left ((seen_in i x.members).species == 0) 0 (i + 1) (is-some (seen_in i x.members).species z)

module _ (x : PublicSide) (n : IsNumbered x) where
  -- A number in use.
  used : (i : ℕ) → get_or (numbers x) i 0 ≢ 0 → (i < 6) × ((seen_in i x.members).species ≢ 0) × (get_or (numbers x) i 0 ≡ i + 1)
  used i z = by (below_or i 6)
    where
      by : (i < 6) ⊎ (6 ≤ i) → (i < 6) × ((seen_in i x.members).species ≢ 0) × (get_or (numbers x) i 0 ≡ i + 1)
      by (inr past) = absurd (z (number_past x i past))
      by (inl low) =
          let some : (seen_in i x.members).species ≢ 0 = λ e. z (number_at x i low ∙ taken ((seen_in i x.members).species == 0) 0 (i + 1) (is-zero (seen_in i x.members).species e)) in
          (low, some, number_at x i low ∙ number_some x i some)

  there : (i : ℕ) → i < 6 → (seen_in i x.members).species ≢ 0 → get_or (numbers x) i 0 ≡ i + 1
  there i low z = number_at x i low ∙ number_some x i z

  kept : (i j : ℕ) → j < i → get_or (numbers x) i 0 ≢ 0 → (get_or (numbers x) j 0 ≢ 0) × (get_or (numbers x) j 0 ≢ get_or (numbers x) i 0)
  kept i j less z =
      let u = used i z in
      let low = u.0 in
      let here : get_or (numbers x) j 0 ≡ j + 1 = there j (omega (arith, low, less)) (n.order i j low less u.1) in
      let that = u.2 in
      (λ e. omega (arith, e, here), λ e. omega (arith, e, here, that, less))

  in_slot : (i : ℕ) → i < 6 → (seen_in i x.members).species ≢ 0 → slot_of (i + 1) (numbers x) ≡ i
  in_slot i low z = kept-slot (i + 1) (numbers x) i refl kept low (there i low z) (λ e. omega (arith, e))

  pub is_teller : (s : Side) (form : ℕ) → form ≤ 2 → IsTeller s (teller_of s form x)
  is_teller s form few = record { side = refl; pixels = few; full = refl; slots = λ slot low. in_its_slot slot }
    where
      in_its_slot : (slot : ℕ) → IsInSlot (numbers x) slot
      in_its_slot slot z =
          let u = used slot z in
          let low = u.0 in
          let that = u.2 in
          (omega (arith, that, low), ap (λ (p : ℕ). slot_of p (numbers x)) that ∙ in_slot slot low u.1)

  -- What its side learns of such a battle, whose members have HP that it learns so.
  module _ (s : Side) (form : ℕ) (t : Party)
      (told : (i : ℕ) → i < 6 → (seen_in i x.members).species ≢ 0
      → let m : Member = slice_index_or t.members i nobody in IsToldAs form (seen_in i x.members).hp (seen_in i x.members).max m.hp m.max) where
    one_told : (i : ℕ) → i < 6 → foe_known (teller_of s form x) (number x i) (seen_at (number x i) (exact t x)) ≡ seen_in i x.members
    one_told i low = by (eqb_tells (seen_in i x.members).species 0)
      where
        by : ((((seen_in i x.members).species == 0) ≡ true) × ((seen_in i x.members).species ≡ 0)) ⊎ ((((seen_in i x.members).species == 0) ≡ false) × ((seen_in i x.members).species ≢ 0))
            → foe_known (teller_of s form x) (number x i) (seen_at (number x i) (exact t x)) ≡ seen_in i x.members
        by (inl e) = ap (λ (p : ℕ). foe_known (teller_of s form x) p (seen_at p (exact t x))) (taken ((seen_in i x.members).species == 0) 0 (i + 1) e.0)
            ∙ sym (n.blank i low e.1)
        by (inr e) =
            let back : i + 1 - 1 ≡ i = omega arith in
            let m : Member = slice_index_or t.members i nobody in
            let at : seen_at (i + 1) (exact t x) ≡ record (seen_in i x.members) { hp = m.hp; max = m.max } =
            ap (λ (q : ℕ). seen_in q (exact t x).members) back ∙ exact_in t x i low ∙ exact_seen t i x e.1 in
            let some : (i + 1 == 0) ≡ false = is-some (i + 1) (λ q. omega (arith, q)) in
            let h = told i low e.1 in
            ap (λ (p : ℕ). foe_known (teller_of s form x) p (seen_at p (exact t x))) (number_some x i e.1)
            ∙ ap (foe_known (teller_of s form x) (i + 1)) at
            ∙ left (i + 1 == 0) not_seen (with_hp_told (teller_of s form x) (record (seen_in i x.members) { hp = m.hp; max = m.max })) some
            ∙ ap (λ (hp : ℕ). record (seen_in i x.members) { hp = hp; max = (with_hp_told (teller_of s form x) (record (seen_in i x.members) { hp = m.hp; max = m.max })).max }) h.0
            ∙ ap (λ (most : ℕ). record (seen_in i x.members) { max = most }) h.1

    pub as_told : x.place ≢ 0 → foe_as_told (teller_of s form x) (exact t x) ≡ x
    as_told z =
        let o = n.out z in
        let place : (if x.place == 0 then 0 else slot_of x.place (numbers x) + 1) ≡ x.place =
        left (x.place == 0) 0 (slot_of x.place (numbers x) + 1) (is-some x.place z) ∙ ap (λ (p : ℕ). slot_of p (numbers x) + 1) o.2 ∙ ap (λ (i : ℕ). i + 1) (in_slot o.0 o.1 o.3) ∙ sym o.2 in
        ap (λ (ms : List Seen). record x { members = ms; place = (if x.place == 0 then 0 else slot_of x.place (numbers x) + 1) })
        (six_made (one_told 0 (lit< tt)) (one_told 1 (lit< tt)) (one_told 2 (lit< tt)) (one_told 3 (lit< tt)) (one_told 4 (lit< tt)) (one_told 5 (lit< tt)) ∙ sym (six_seen x.members n.six))
        ∙ ap (λ (p : ℕ). record x { place = p }) place
      where
        six_made : {a b c d e f a' b' c' d' e' f' : Seen} → a ≡ a' → b ≡ b' → c ≡ c' → d ≡ d' → e ≡ e' → f ≡ f' → a ∷ b ∷ c ∷ d ∷ e ∷ f ∷ [] ≡ a' ∷ b' ∷ c' ∷ d' ∷ e' ∷ f' ∷ []
        six_made ea eb ec ed ee ef = rw (ea, eb, ec, ed, ee, ef) refl

        six_seen : (ms : List Seen) → length ms ≡ 6 → ms ≡ seen_in 0 ms ∷ seen_in 1 ms ∷ seen_in 2 ms ∷ seen_in 3 ms ∷ seen_in 4 ms ∷ seen_in 5 ms ∷ []
        six_seen [] long = absurd (omega (arith, long))
        six_seen (a ∷ []) long = absurd (omega (arith, long))
        six_seen (a ∷ b ∷ []) long = absurd (omega (arith, long))
        six_seen (a ∷ b ∷ c ∷ []) long = absurd (omega (arith, long))
        six_seen (a ∷ b ∷ c ∷ d ∷ []) long = absurd (omega (arith, long))
        six_seen (a ∷ b ∷ c ∷ d ∷ e ∷ []) long = absurd (omega (arith, long))
        six_seen (a ∷ b ∷ c ∷ d ∷ e ∷ f ∷ []) long = refl
        six_seen (a ∷ b ∷ c ∷ d ∷ e ∷ f ∷ g ∷ more) long = absurd (omega (arith, long))

-- After a run

-- Moves have numbers up to 165

current_few : (u : UsedMove) (moves : List KnownMove) → All (λ (k : KnownMove). IsBetween 1 165 k.id) moves → number_in u moves ≤ 165
current_few Nothing moves h = omega arith
current_few Struggle moves h = omega arith
current_few (Slot k) moves h = by (below_or (k - 1) (length moves))
  where
    by : (k - 1 < length moves) ⊎ (length moves ≤ k - 1) → (known_in k moves).id ≤ 165
    by (inl inside) = (h (k - 1) nothing_known inside).1
    by (inr past) = subst (λ (m : KnownMove). m.id ≤ 165) (sym (get_or_past moves (k - 1) nothing_known past)) (omega arith)

pub current_known : (rules : Rules) (t : Party) → IsParty rules t → current_move_of t ≤ 165
current_known rules t v =
    let low = v.place.0 in
    let high = v.place.1 in
    let m : IsMemberUnder rules (member_at t.active.place t) = All-get_or (IsMemberUnder rules) t.members (t.active.place - 1) nobody (omega (arith, low, high)) v.members.each in
    current_few t.active.current_move (member_at t.active.place t).moves m.moves

-- What belongs to a move is explained by the last one.
pub explained : (test : Effect → Bool) (t : Party) (last : ℕ) → last ≡ current_move_of t → current_move_of t ≤ 165
    → test (effect_of t.active.current_move (member_at t.active.place t).moves) ≡ true → test (effect_of_number last) ≡ true
explained test t last e few h = ap (λ (n : ℕ). test (effect_of_number n)) e ∙ ap test (sym (effect_is (current_move_of t) few)) ∙ h

pub foe_of_run : (t : Teller) (w : PublicSide) (u : Party) (rules : Rules) → IsParty rules u → SideAgrees w (side_shows u) → SideIsTold w u → SideDoes w u
    → ((i : ℕ) → HasCause (seen_in i (foe_as_told t w).members)) → ((i : ℕ) → IsShort (seen_in i (foe_as_told t w).members))
    → ((k : ℕ) → length (seen_in k (foe_as_told t w).members).moves ≡ 5) → IsNumbered (foe_as_told t w) → Foe (foe_as_told t w)
foe_of_run t w u rules v a b d causes short slots n =
    let few = current_known rules u v in
    let ties = v.active.conditions.underway in
    record {
      substitute = flag_of _ _ a.substitute;
      confused = flag_of _ _ a.confused;
      mist = flag_of _ _ b.mist;
      focus_energy = flag_of _ _ b.focus_energy;
      light_screen = flag_of _ _ a.light_screen;
      reflect = flag_of _ _ a.reflect;
      toxic = flag_of _ _ d.toxic;
      unused = d.unused;
      disabled = flag_of _ _ b.disabled;
      rage = flag_of _ _ b.rage;
      bide = flag_of _ _ d.bide;
      charging = flag_of _ _ d.charging;
      bides = λ z. explained bides u w.last_move d.last_move few (ties.bide_tied (sym (on_is _ _ d.bide) ∙ z));
      charges = λ z. explained charges u w.last_move d.last_move few (ties.charging_tied (sym (on_is _ _ d.charging) ∙ z));
      rests = d.rests;
      causes = causes;
      short = short;
      rages = λ z. explained rages u w.last_move d.last_move few (ties.rage_tied (sym (on_is _ _ b.rage) ∙ z));
      slots = slots;
      out = λ z e. let o = n.out z in
          let place = o.2 in
          let back : (foe_as_told t w).place - 1 ≡ o.0 = omega (arith, place) in
          o.3 (ap (λ (i : ℕ). (seen_in i (foe_as_told t w).members).species) (sym back) ∙ e);
    }

-- The plain side

fresh_plain : (team : List Member) → IsTeam team → (k : ℕ) → IsPlainMember (member_state (slice_index_or team k nobody))
fresh_plain team h k = by (below_or k (length team))
  where
    plain : (m : Member) → m.hp < 65536 → m.max < 65536 → m.attack < 65536 → m.defense < 65536 → m.speed < 65536 → m.special < 65536 → IsPlainMember (member_state m)
    plain m hp most a d s c = record { moves = refl; pp = refl; stats = refl; hp = hp; max_hp = most; words = words _ _ _ _ a d s c }

    by : (k < length team) ⊎ (length team ≤ k) → IsPlainMember (member_state (slice_index_or team k nobody))
    by (inl inside) =
        let f : IsFresh (slice_index_or team k nobody) = h.members k nobody inside in
        let m = f.member in
        plain (slice_index_or team k nobody) (omega (arith, m.hp, m.max.1)) (omega (arith, m.max.1)) (omega (arith, m.attack.1)) (omega (arith, m.defense.1)) (omega (arith, m.speed.1)) (omega (arith, m.special.1))
    by (inr past) = subst (λ (m : Member). IsPlainMember (member_state m)) (sym (get_or_past team k nobody past))
        (plain nobody (lit< tt) (lit< tt) (lit< tt) (lit< tt) (lit< tt) (lit< tt))

told_plain : (clause : Bool) (s : Seen) (m : MemberState) → IsPlainMember m → IsPlainMember (told_if_seen clause s m)
told_plain clause s m h = by (s.species == 0)
  where
    by : (b : Bool) → IsPlainMember (if b then m else told clause s m)
    by true = h
    by false = record { moves = h.moves; pp = refl; stats = h.stats; hp = (let most = h.max_hp in omega (arith, most)); max_hp = h.max_hp; words = h.words }

bits_small : (x : PublicSide) (held : Bool) → number_of_bits (foe_bits x held) < 131072
bits_small x held = let e = bits_of-is (foe_bits x held) in let small = bits_of-lt (foe_bits x held) in omega (arith, e, small)

pub foe_plain : (clause : Bool) (x : PublicSide) (held : Bool) (team : List Member) → IsTeam team → IsPlainSide (foe_part clause x held (fresh_members team))
unfolding foe_part
foe_plain clause x held team h =
    let small = bits_small x held in
    record {
      count = refl;
      members = by;
      active = record {
        types = refl;
        stages = refl;
        stats = refl;
        conditions = omega (arith, small);
        energy = lit< tt;
        words = words 0 0 0 0 (lit< tt) (lit< tt) (lit< tt) (lit< tt);
      };
    }
  where
    by : (i : ℕ) → i < 6 → IsPlainMember (slice_index_or (members_of clause x.members (fresh_members team)) i no_member)
    by zero low = told_plain clause (seen_in 0 x.members) _ (fresh_plain team h 0)
    by (suc zero) low = told_plain clause (seen_in 1 x.members) _ (fresh_plain team h 1)
    by (suc (suc zero)) low = told_plain clause (seen_in 2 x.members) _ (fresh_plain team h 2)
    by (suc (suc (suc zero))) low = told_plain clause (seen_in 3 x.members) _ (fresh_plain team h 3)
    by (suc (suc (suc (suc zero)))) low = told_plain clause (seen_in 4 x.members) _ (fresh_plain team h 4)
    by (suc (suc (suc (suc (suc zero))))) low = told_plain clause (seen_in 5 x.members) _ (fresh_plain team h 5)
    by (suc (suc (suc (suc (suc (suc i)))))) low = absurd (omega (arith, low))
