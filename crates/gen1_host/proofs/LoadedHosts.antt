-- The bytes of a host: what the tests mean, and that they are passed exactly by the bytes of hosts.
use Rattle.std.proofs.Common.{[], Bool, List, None, Option, Some, ap, arith, false, if◌then◌else◌, inl, inr, is_some, length, nat_le, refl, subst, sym, true, ℕ, ◌&&◌, ◌*◌, ◌++◌, ◌+◌, ◌-◌, ◌<◌, ◌==◌, ◌∙◌, ◌∷◌, ◌≡◌, ◌≢◌, ◌≤◌, ◌⊎◌}
use Rattle.std.proofs.lemmas.Bool.{eqb-true}
use Rattle.std.proofs.lemmas.Bool.Decides.{eqb_tells, leb_tells}
use Rattle.gen1_machine.specs.declared.side.Choice.{Choice}
use Rattle.gen1_machine.specs.declared.side.Choice.TheVariants as choices
use Rattle.gen1_machine.specs.declared.event.Event.{Event}
use Rattle.gen1_machine.specs.declared.side.Side.{Side}
use Rattle.gen1_machine.specs.declared.side.Side.TheVariants.{One, Two}
use Rattle.gen1_machine.specs.Choices.{byte_of_choice, choice_at}
use Rattle.gen1_machine.specs.Layout.{bytes_of, number_of_bits}
use Rattle.gen1_machine.specs.OfferedChoices.{offered, others_living_from}
use Rattle.gen1_machine.specs.Room.{choice_by_byte, choice_made, chosen, Course, first_made, Submission}
use Rattle.gen1_machine.specs.Rules.{bit_of}
use Rattle.gen1_machine.specs.State.{Field, is_over, is_pass, party, request_of, same_side, State, Terms}
use Rattle.gen1_machine.specs.Valid.{IsStarted, IsState, IsUnstarted}
use Rattle.gen1_layout.specs.Loading.{version_three}
use Rattle.gen1_layout.specs.LoadingLaws.{IsBattle, StandsForSome}
use Rattle.gen1_layout.specs.Parts.{joined, parts_of, Parts}
use Rattle.gen1_layout.specs.Shows.{blocks_of, Stands}
use Rattle.gen1_layout.proofs.WaysBack.{parts-bytes_of}
use Rattle.gen1_offers.specs.OfferedChoices.{all_choices, choices_in, chosen_by, living_of, passing, switches}
use Rattle.gen1_offers.proofs.OfferedSet.{places_living}
use Rattle.gen1_offers.proofs.MaskChoices.{chosen-picked, picked_ifs}
use Rattle.gen1_room.specs.Rooms.{Counts, is_replaced, on_bench, pairs_left, submission_of}
use Rattle.gen1_host.specs.declared.host.Host.{Host}
use Rattle.gen1_host.specs.declared.loading.HostFault.{HostFault}
use Rattle.gen1_host.specs.declared.loading.HostFault.TheVariants as faults
use Rattle.gen1_host.specs.Hosts.{draw_byte, ending_byte}
use Rattle.gen1_host.specs.Loading.{FailsTest, in_version_three, IsHost, IsLawful, IsLawfulAs, IsStated, IsStored, PassesTest}
use Rattle.gen1_host.specs.Table.{Agreed, Ending, Forfeited}

-- Bytes and choices

byte_back : (b : ℕ) (x : Choice) → choice_at b ≡ Some x → byte_of_choice x ≡ b
byte_back b x h = by (b == 0) (nat_le 16 b) (nat_le b 20) (nat_le 33 b) (nat_le b 38) refl refl refl h
  where
    zero_is : (eqb : Bool) → (b == 0) ≡ eqb → eqb ≡ true → 0 ≡ b
    zero_is eqb e t = of (eqb_tells b 0)
      where
        of : (((b == 0) ≡ true) × (b ≡ 0)) ⊎ (((b == 0) ≡ false) × (b ≢ 0)) → 0 ≡ b
        of (inl z) = sym z.1
        of (inr z) = absurd (let k : true ≡ false = sym t ∙ sym e ∙ z.0 in cc)

    least : (n : ℕ) (leb : Bool) → nat_le n b ≡ leb → leb ≡ true → n ≤ b
    least n leb e t = of (leb_tells n b)
      where
        of : ((nat_le n b ≡ true) × (n ≤ b)) ⊎ ((nat_le n b ≡ false) × (b < n)) → n ≤ b
        of (inl z) = z.1
        of (inr z) = absurd (let k : true ≡ false = sym t ∙ sym e ∙ z.0 in cc)

    by : (p q r u v : Bool) → (b == 0) ≡ p → nat_le 16 b ≡ q → nat_le 33 b ≡ u
        → (if p then Some choices.Pass else if q && r then Some (choices.Move (b - 16)) else if u && v then Some (choices.Switch (b - 32)) else None) ≡ Some x
        → byte_of_choice x ≡ b
    by true q r u v e f g k = let same : choices.Pass ≡ x = cc in ap byte_of_choice (sym same) ∙ zero_is true e refl
    by false true true u v e f g k =
        let same : choices.Move (b - 16) ≡ x = cc in
        let low = least 16 true f refl in
        ap byte_of_choice (sym same) ∙ (let is : 16 + (b - 16) ≡ b = omega (arith, low) in is)
    by false true false true true e f g k = switched e g k
      where
        switched : (b == 0) ≡ false → nat_le 33 b ≡ true → Some (choices.Switch (b - 32)) ≡ Some x → byte_of_choice x ≡ b
        switched e g k =
            let same : choices.Switch (b - 32) ≡ x = cc in
            let low = least 33 true g refl in
            ap byte_of_choice (sym same) ∙ (let is : 32 + (b - 32) ≡ b = omega (arith, low) in is)
    by false false r true true e f g k =
        let same : choices.Switch (b - 32) ≡ x = cc in
        let low = least 33 true g refl in
        ap byte_of_choice (sym same) ∙ (let is : 32 + (b - 32) ≡ b = omega (arith, low) in is)
    by false true false true false e f g k = absurd (let z : None ≡ Some x = k in cc)
    by false true false false v e f g k = absurd (let z : None ≡ Some x = k in cc)
    by false false r true false e f g k = absurd (let z : None ≡ Some x = k in cc)
    by false false r false v e f g k = absurd (let z : None ≡ Some x = k in cc)

by_byte : (b : ℕ) (l : List Choice) (x : Choice) → choice_by_byte b l ≡ Some x → byte_of_choice x ≡ b
by_byte b [] x h = absurd (let e : None ≡ Some x = h in cc)
by_byte b (c ∷ cs) x h = by (eqb_tells (byte_of_choice c) b) h (by_byte b cs x)
  where
    by : (((byte_of_choice c == b) ≡ true) × (byte_of_choice c ≡ b)) ⊎ (((byte_of_choice c == b) ≡ false) × (byte_of_choice c ≢ b))
        → (if byte_of_choice c == b then Some c else choice_by_byte b cs) ≡ Some x → (choice_by_byte b cs ≡ Some x → byte_of_choice x ≡ b)
        → byte_of_choice x ≡ b
    by (inl e) k more = let some : Some c ≡ Some x = rw (e.0) at k in let same : c ≡ x = cc in ap byte_of_choice (sym same) ∙ e.1
    by (inr e) k more = more (rw (e.0) at k)

-- A choice that was made is that of its byte.
made_by : (s : Side) (c : Course) (y : Submission) (x : Choice) → choice_made s c y ≡ Some x → choice_by_byte y.byte (offered s c.state.field) ≡ Some x
made_by s c y x h = by (same_side y.side s && y.number == c.number) h
  where
    by : (t : Bool) → (if t then choice_by_byte y.byte (offered s c.state.field) else None) ≡ Some x → choice_by_byte y.byte (offered s c.state.field) ≡ Some x
    by true e = e
    by false e = absurd (let k : None ≡ Some x = e in cc)

made_first : (s : Side) (c : Course) (l : List Submission) (x : Choice) → first_made s c l ≡ Some x → choice_by_byte (byte_of_choice x) (offered s c.state.field) ≡ Some x
made_first s c [] x h = absurd (let k : None ≡ Some x = h in cc)
made_first s c (y ∷ l) x h = by (choice_made s c y) refl h (made_first s c l x)
  where
    by : (o : Option Choice) → choice_made s c y ≡ o → elim o as (λ _. Option Choice) [ Some z ↦ Some z | None ↦ first_made s c l ] ≡ Some x
        → (first_made s c l ≡ Some x → choice_by_byte (byte_of_choice x) (offered s c.state.field) ≡ Some x)
        → choice_by_byte (byte_of_choice x) (offered s c.state.field) ≡ Some x
    by None e k more = more k
    by (Some z) e k more =
        let some = made_by s c y x (e ∙ k) in
        subst (λ (b : ℕ). choice_by_byte b (offered s c.state.field) ≡ Some x) (sym (by_byte y.byte (offered s c.state.field) x some)) some

-- A byte that is there in a course is lawful

lawful : (s : Side) (c : Course) (byte : ℕ) → choice_at byte ≡ chosen s c → (choice_at byte ≡ None → byte ≡ 255) → IsLawful s byte c.state
lawful s c byte there marked = by (is_pass (request_of s c.state.field)) there
  where
    missing : (o : Option Choice) → choice_at byte ≡ o → first_made s c c.since ≡ o → IsLawfulAs false s byte c.state.field
    missing None e f = inl (marked e)
    missing (Some x) e f =
        inr (x, e, subst (λ (b : ℕ). choice_by_byte b (offered s c.state.field) ≡ Some x) (byte_back byte x e) (made_first s c c.since x f))

    by : (b : Bool) → choice_at byte ≡ (if b then Some choices.Pass else first_made s c c.since) → IsLawfulAs b s byte c.state.field
    by true e = sym (byte_back byte choices.Pass e)
    by false e = missing (first_made s c c.since) e refl

-- and one that is lawful is there in the course of its submission

same_itself : (n : ℕ) → (n == n) ≡ true
same_itself n = by (eqb_tells n n)
  where
    by : (((n == n) ≡ true) × (n ≡ n)) ⊎ (((n == n) ≡ false) × (n ≢ n)) → (n == n) ≡ true
    by (inl e) = e.0
    by (inr e) = absurd (e.1 refl)

abbrev submitted_by : Side → ℕ → ℕ → List Submission
submitted_by s number byte = if is_some (choice_at byte) then submission_of s number byte ∷ [] else []

abbrev course_in : State → ℕ → List Event → ℕ → ℕ → Course
course_in s number events one two = record { state = s; number = number; events = events; since = submitted_by One number one ++ submitted_by Two number two }

marks : (s : State) (side : Side) (byte : ℕ) → IsLawful side byte s → choice_at byte ≡ None → byte ≡ 255
marks s side byte h none = by (is_pass (request_of side s.field)) h
  where
    by : (b : Bool) → IsLawfulAs b side byte s.field → byte ≡ 255
    by true e = absurd (let k : Some choices.Pass ≡ None = ap choice_at (sym e) ∙ none in cc)
    by false (inl e) = e
    by false (inr e) = absurd (let k : Some e.0 ≡ None = sym e.1 ∙ none in cc)

found : (s : Side) (c : Course) (y : Submission) (l : List Submission) (x : Choice) → choice_made s c y ≡ Some x → Some x ≡ first_made s c (y ∷ l)
found s c y l x h = by (choice_made s c y) h
  where
    by : (o : Option Choice) → o ≡ Some x → Some x ≡ elim o as (λ _. Option Choice) [ Some z ↦ Some z | None ↦ first_made s c l ]
    by None e = absurd (cc)
    by (Some z) e = sym e

there_one : (s : State) (number : ℕ) (events : List Event) (one two : ℕ) → IsLawful One one s → choice_at one ≡ chosen One (course_in s number events one two)
there_one s number events one two h = by (is_pass (request_of One s.field)) h
  where
    c : Course
    c = course_in s number events one two

    others : (b : Bool) → None ≡ first_made One c (if b then submission_of Two number two ∷ [] else [])
    others true = refl
    others false = refl

    by : (b : Bool) → IsLawfulAs b One one s.field → choice_at one ≡ (if b then Some choices.Pass else first_made One c c.since)
    by true e = ap choice_at e
    by false (inl e) =
        ap choice_at e ∙ others (is_some (choice_at two))
        ∙ ap (λ (n : ℕ). first_made One c (submitted_by One number n ++ submitted_by Two number two)) (sym e)
    by false (inr e) =
        let x : Choice = e.0 in
        let some : is_some (choice_at one) ≡ true = ap is_some e.1 in
        let made : choice_made One c (submission_of One number one) ≡ Some x = rw (same_itself number) e.2 in
        e.1 ∙ found One c (submission_of One number one) (submitted_by Two number two) x made
        ∙ ap (λ (b : Bool). first_made One c ((if b then submission_of One number one ∷ [] else []) ++ submitted_by Two number two)) (sym some)

there_two : (s : State) (number : ℕ) (events : List Event) (one two : ℕ) → IsLawful Two two s → choice_at two ≡ chosen Two (course_in s number events one two)
there_two s number events one two h = by (is_pass (request_of Two s.field)) h
  where
    c : Course
    c = course_in s number events one two

    past : (b : Bool) (l : List Submission) → first_made Two c l ≡ first_made Two c ((if b then submission_of One number one ∷ [] else []) ++ l)
    past true l = refl
    past false l = refl

    by : (b : Bool) → IsLawfulAs b Two two s.field → choice_at two ≡ (if b then Some choices.Pass else first_made Two c c.since)
    by true e = ap choice_at e
    by false (inl e) =
        ap choice_at e ∙ past (is_some (choice_at one)) []
        ∙ ap (λ (n : ℕ). first_made Two c (submitted_by One number one ++ submitted_by Two number n)) (sym e)
    by false (inr e) =
        let x : Choice = e.0 in
        let some : is_some (choice_at two) ≡ true = ap is_some e.1 in
        let made : choice_made Two c (submission_of Two number two) ≡ Some x = rw (same_itself number) e.2 in
        let own : Some x ≡ first_made Two c (submitted_by Two number two) =
        found Two c (submission_of Two number two) [] x made ∙ ap (λ (b : Bool). first_made Two c (if b then submission_of Two number two ∷ [] else [])) (sym some) in
        e.1 ∙ own ∙ past (is_some (choice_at one)) (submitted_by Two number two)

-- The numbers of a host's own fields

ending_in : (n : ℕ) → n ≤ 3 → (e : Option Ending) × (n ≡ ending_byte e)
ending_in n h = by (eqb_tells n 0) (eqb_tells n 1) (eqb_tells n 2)
  where
    by : (((n == 0) ≡ true) × (n ≡ 0)) ⊎ (((n == 0) ≡ false) × (n ≢ 0)) → (((n == 1) ≡ true) × (n ≡ 1)) ⊎ (((n == 1) ≡ false) × (n ≢ 1))
        → (((n == 2) ≡ true) × (n ≡ 2)) ⊎ (((n == 2) ≡ false) × (n ≢ 2)) → (e : Option Ending) × (n ≡ ending_byte e)
    by (inl a) b c = (None, a.1)
    by (inr a) (inl b) c = (Some (Forfeited One), b.1)
    by (inr a) (inr b) (inl c) = (Some (Forfeited Two), c.1)
    by (inr a) (inr b) (inr c) = let x = a.1 in let y = b.1 in let z = c.1 in (Some Agreed, (let is : n ≡ 3 = omega (arith, h, x, y, z) in is))

draw_in : (n : ℕ) → n ≤ 2 → (o : Option Side) × (n ≡ draw_byte o)
draw_in n h = by (eqb_tells n 0) (eqb_tells n 1)
  where
    by : (((n == 0) ≡ true) × (n ≡ 0)) ⊎ (((n == 0) ≡ false) × (n ≢ 0)) → (((n == 1) ≡ true) × (n ≡ 1)) ⊎ (((n == 1) ≡ false) × (n ≢ 1))
        → (o : Option Side) × (n ≡ draw_byte o)
    by (inl a) b = (None, a.1)
    by (inr a) (inl b) = (Some One, b.1)
    by (inr a) (inr b) = let x = a.1 in let y = b.1 in (Some Two, (let is : n ≡ 2 = omega (arith, h, x, y) in is))

bit_in : (n : ℕ) → n ≤ 1 → (b : Bool) × (n ≡ bit_of b)
bit_in n h = by (eqb_tells n 0)
  where
    by : (((n == 0) ≡ true) × (n ≡ 0)) ⊎ (((n == 0) ≡ false) × (n ≢ 0)) → (b : Bool) × (n ≡ bit_of b)
    by (inl a) = (false, a.1)
    by (inr a) = let x = a.1 in (true, (let is : n ≡ 1 = omega (arith, h, x) in is))

ending_few : (e : Option Ending) → ending_byte e ≤ 3
ending_few None = omega arith
ending_few (Some (Forfeited One)) = omega arith
ending_few (Some (Forfeited Two)) = omega arith
ending_few (Some Agreed) = omega arith

bit_few : (b : Bool) → bit_of b ≤ 1
bit_few true = omega arith
bit_few false = omega arith

-- Bytes that pass all tests are those of a host

pub passes_all : (h : Host) (s : State) → Stands h.room.battle s → ((fault : HostFault) → PassesTest fault h s) → IsHost h
passes_all h s stands p =
    let one = p (faults.Choice One) in
    let two = p (faults.Choice Two) in
    let log = p faults.Log in
    let c = course_in s h.room.number log.1 h.room.one h.room.two in
    let ending = ending_in h.ending (p faults.Ending) in
    let draw = draw_in h.draw (p faults.Draw) in
    let cancel = bit_in h.may_cancel (p faults.Rules).0 in
    let late = bit_in h.late_forfeits (p faults.Rules).1 in
    record {
      within = record {
        room = record {
          short = log.0;
          marked = record { one = marks s One h.room.one one; two = marks s Two h.room.two two };
          unused = (p faults.Unused).1;
        };
        one = p (faults.Teller One);
        two = (p (faults.Teller Two)).0;
        pixels = (p (faults.Teller Two)).1;
        ending = p faults.Ending;
        draw = p faults.Draw;
      };
      table = record {
        course = c;
        one = h.one;
        two = h.two;
        ending = ending.0;
        draw = draw.0;
        rules = record { may_cancel = cancel.0; late_forfeits = late.0 };
      };
      hosts = record {
        keeps = record {
          holds = record {
            stands = stands;
            counted = refl;
            counts = p faults.Number;
            logged = log.2;
            one = there_one s h.room.number log.1 h.room.one h.room.two one;
            two = there_two s h.room.number log.1 h.room.one h.room.two two;
            waits = p faults.Choices;
          };
          unforfeited = (p faults.Unused).0;
        };
        short = log.0;
        one = refl;
        two = refl;
        ending = ending.1;
        draw = draw.1;
        may_cancel = cancel.1;
        late_forfeits = late.1;
      };
    }

-- and those of a host pass each

pub host_passes : (h : Host) (k : IsHost h) (fault : HostFault) → PassesTest fault h k.table.course.state
host_passes h k fault = by fault
  where
    c : Course
    c = k.table.course

    by : (fault : HostFault) → PassesTest fault h c.state
    by (faults.Battle why) = tt
    by faults.Number = subst (λ (n : ℕ). Counts n c.state) (sym k.hosts.keeps.holds.counted) k.hosts.keeps.holds.counts
    by faults.Log = (k.hosts.short, c.events, k.hosts.keeps.holds.logged)
    by (faults.Choice One) = lawful One c h.room.one k.hosts.keeps.holds.one k.within.room.marked.one
    by (faults.Choice Two) = lawful Two c h.room.two k.hosts.keeps.holds.two k.within.room.marked.two
    by faults.Choices = k.hosts.keeps.holds.waits
    by (faults.Teller One) = k.within.one
    by (faults.Teller Two) = (k.within.two, k.within.pixels)
    by faults.Ending = k.within.ending
    by faults.Draw = k.within.draw
    by faults.Rules =
        let cancel = bit_few k.table.rules.may_cancel in
        let late = bit_few k.table.rules.late_forfeits in
        let one = k.hosts.may_cancel in
        let two = k.hosts.late_forfeits in
        (omega (arith, cancel, one), omega (arith, late, two))
    by faults.Unused = (k.hosts.keeps.unforfeited, k.within.room.unused)

-- The battle

stored_battle : (s : State) → IsState s → length (bytes_of s) ≡ 384 → IsBattle (bytes_of s)
unfolding bytes_of
stored_battle s valid full = record {
  full = full;
  version = (omega arith, omega arith);
  keeps = record { limit = λ low. absurd (omega (arith, low)); rules = λ one. absurd (omega (arith, one)) };
  stands = record { state = s; valid = valid; same = refl };
}

three_itself : (s : State) → version_three (bytes_of s) ≡ bytes_of s
unfolding bytes_of
three_itself s = refl

few_one : (terms : Terms) (f : Field) → IsUnstarted terms f ⊎ IsStarted terms f → length f.one.members ≤ 6
few_one terms f (inl u) = u.members_one.size.1
few_one terms f (inr s) = s.field.one.members.size.1

few_two : (terms : Terms) (f : Field) → IsUnstarted terms f ⊎ IsStarted terms f → length f.two.members ≤ 6
few_two terms f (inl u) = u.members_two.size.1
few_two terms f (inr s) = s.field.two.members.size.1

parts_back : (s : State) → IsState s → parts_of (bytes_of s) ≡ blocks_of s
parts_back s valid = parts-bytes_of s (few_one s.terms s.field valid.field) (few_two s.terms s.field valid.field)

-- The bytes of a battle, as they are loaded.
pub kept_battle : (p : Parts) (s : State) (bytes : List ℕ) → Stands p s → bytes ≡ bytes_of s → length bytes ≡ 384
    → IsBattle bytes × (parts_of (version_three bytes) ≡ p)
kept_battle p s bytes stands is full =
    subst (λ (b : List ℕ). IsBattle b × (parts_of (version_three b) ≡ p)) (sym is)
    (stored_battle s stands.valid (ap length (sym is) ∙ full), ap parts_of (three_itself s) ∙ parts_back s stands.valid ∙ sym stands.same)

-- The members on the bench, by their digits

pub counted_bench : (s : Side) (f : Field) (out digits mask : ℕ) → length (party s f).members ≤ 6 → digits ≡ number_of_bits (passing 1 out (living_of s f)) → mask ≡ 64 * digits
    → length (choices_in mask) ≡ length (others_living_from 1 out (party s f).members)
unfolding choices_in
counted_bench s f out digits mask few is by64 =
    let bits : List Bool = passing 1 out (living_of s f) in
    let mask_is : mask ≡ number_of_bits (false ∷ false ∷ false ∷ false ∷ false ∷ false ∷ bits) = omega (arith, by64, is) in
    ap (λ (n : ℕ). length (chosen_by n all_choices)) mask_is
    ∙ ap length (chosen-picked (false ∷ false ∷ false ∷ false ∷ false ∷ false ∷ bits) all_choices ∙ picked_ifs bits switches ∙ places_living s f out few)

pub few_members : (side : Side) (s : State) → IsState s → length (party side s.field).members ≤ 6
few_members One s valid = few_one s.terms s.field valid.field
few_members Two s valid = few_two s.terms s.field valid.field

pub pairs_are : (s : State) (this turns one two : ℕ) → is_over s.field.outcome ≡ false → this ≡ (if is_replaced s.field.request_one s.field.request_two then 0 else 1)
    → turns ≡ s.terms.limit - s.field.turn → one ≡ length (on_bench One s.field) → two ≡ length (on_bench Two s.field) → this + turns + (one + two) ≡ pairs_left s
pairs_are s this turns one two going a b d e = rw (going, a, b, d, e) refl

pub counts_by : (s : State) (number a b l : ℕ) → a ≡ number → b ≡ pairs_left s → l ≡ s.terms.limit → nat_le (a + b) (l + 11) ≡ true → Counts number s
counts_by s number a b l x y z is = by (leb_tells (a + b) (l + 11))
  where
    by : ((nat_le (a + b) (l + 11) ≡ true) × (a + b ≤ l + 11)) ⊎ ((nat_le (a + b) (l + 11) ≡ false) × (l + 11 < a + b)) → Counts number s
    by (inl e) = let low = e.1 in omega (arith, low, x, y, z)
    by (inr e) = absurd (let k : true ≡ false = sym is ∙ e.0 in cc)

pub counts_not : (s : State) (number a b l : ℕ) → a ≡ number → b ≡ pairs_left s → l ≡ s.terms.limit → nat_le (a + b) (l + 11) ≡ false → Counts number s → ⊥
counts_not s number a b l x y z is k = by (leb_tells (a + b) (l + 11))
  where
    by : ((nat_le (a + b) (l + 11) ≡ true) × (a + b ≤ l + 11)) ⊎ ((nat_le (a + b) (l + 11) ≡ false) × (l + 11 < a + b)) → ⊥
    by (inl e) = absurd (let k : true ≡ false = sym e.0 ∙ is in cc)
    by (inr e) = let high = e.1 in omega (arith, high, x, y, z, k)

-- A side's byte

module _ (side : Side) (byte : ℕ) (s : State) where
  pub lawful_pass : is_pass (request_of side s.field) ≡ true → (byte == 0) ≡ true → IsLawful side byte s
  lawful_pass asked zero = subst (λ (b : Bool). IsLawfulAs b side byte s.field) (sym asked) (eqb-true byte 0 zero)

  pub not_lawful_pass : is_pass (request_of side s.field) ≡ true → (byte == 0) ≡ false → IsLawful side byte s → ⊥
  not_lawful_pass asked some k =
      let is : byte ≡ 0 = subst (λ (b : Bool). IsLawfulAs b side byte s.field) asked k in
      let e : true ≡ false = sym (ap (λ (n : ℕ). n == 0) is) ∙ some in
      absurd (cc)

  pub lawful_missing : is_pass (request_of side s.field) ≡ false → byte ≡ 255 → IsLawful side byte s
  lawful_missing asked is = subst (λ (b : Bool). IsLawfulAs b side byte s.field) (sym asked) (inl is)

  pub lawful_stated : (l : List Choice) → is_pass (request_of side s.field) ≡ false → l ≡ offered side s.field → IsStated byte l → IsLawful side byte s
  lawful_stated l asked is k =
      subst (λ (b : Bool). IsLawfulAs b side byte s.field) (sym asked) (inr (subst (IsStated byte) is k))

  pub not_lawful : (l : List Choice) → is_pass (request_of side s.field) ≡ false → l ≡ offered side s.field → byte ≢ 255 → (IsStated byte l → ⊥)
      → IsLawful side byte s → ⊥
  not_lawful l asked is apart none k = by (subst (λ (b : Bool). IsLawfulAs b side byte s.field) asked k)
    where
      by : (byte ≡ 255) ⊎ IsStated byte (offered side s.field) → ⊥
      by (inl e) = apart e
      by (inr e) = none (subst (IsStated byte) (sym is) e)

-- What loading returns

-- The tests besides that of the battle don't look at it.
same_tests : (h : Host) (p : Parts) (s : State) (fault : HostFault) → PassesTest fault h s → PassesTest fault (record h { room = record h.room { battle = p } }) s
same_tests h p s (faults.Battle why) k = k
same_tests h p s faults.Number k = k
same_tests h p s faults.Log k = k
same_tests h p s (faults.Choice One) k = k
same_tests h p s (faults.Choice Two) k = k
same_tests h p s faults.Choices k = k
same_tests h p s (faults.Teller One) k = k
same_tests h p s (faults.Teller Two) k = k
same_tests h p s faults.Ending k = k
same_tests h p s faults.Draw k = k
same_tests h p s faults.Rules k = k
same_tests h p s faults.Unused k = k

tests_back : (h : Host) (p : Parts) (s : State) (fault : HostFault) → PassesTest fault (record h { room = record h.room { battle = p } }) s → PassesTest fault h s
tests_back h p s (faults.Battle why) k = k
tests_back h p s faults.Number k = k
tests_back h p s faults.Log k = k
tests_back h p s (faults.Choice One) k = k
tests_back h p s (faults.Choice Two) k = k
tests_back h p s faults.Choices k = k
tests_back h p s (faults.Teller One) k = k
tests_back h p s (faults.Teller Two) k = k
tests_back h p s faults.Ending k = k
tests_back h p s faults.Draw k = k
tests_back h p s faults.Rules k = k
tests_back h p s faults.Unused k = k

-- The battle that was loaded from the bytes.
pub record Read (h : Host) (loaded : Parts) : Type 0 where
  pub battle : IsBattle (joined h.room.battle)
  pub is : loaded ≡ parts_of (version_three (joined h.room.battle))
  pub some : StandsForSome loaded

pub read_as : (h : Host) (loaded : Parts) (bytes : List ℕ) → bytes ≡ joined h.room.battle → IsBattle bytes → loaded ≡ parts_of (version_three bytes) → StandsForSome loaded
    → Read h loaded
read_as h loaded bytes e battle is some =
    record { battle = subst IsBattle e battle; is = is ∙ ap (λ (b : List ℕ). parts_of (version_three b)) e; some = some }

pub stored : (h : Host) (loaded : Parts) → Read h loaded → ((s : State) → Stands loaded s → (fault : HostFault) → PassesTest fault h s) → IsStored h
stored h loaded r tested =
    let s = r.some.state in
    let p : Parts = parts_of (version_three (joined h.room.battle)) in
    record {
      battle = r.battle;
      host = passes_all (in_version_three h) s (subst (λ (q : Parts). Stands q s) r.is r.some.stands)
          (λ fault. same_tests h p s fault (tested s r.some.stands fault));
    }

pub not_stored : (h : Host) (loaded : Parts) (fault : HostFault) → Read h loaded → ((s : State) → Stands loaded s → PassesTest fault h s → ⊥) → IsStored h → ⊥
not_stored h loaded fault r fails st =
    let k = st.host in
    let s = k.table.course.state in
    let p : Parts = parts_of (version_three (joined h.room.battle)) in
    fails s (subst (λ (q : Parts). Stands q s) (sym r.is) k.hosts.keeps.holds.stands) (tests_back h p s fault (host_passes (in_version_three h) k fault))

pub fails_test : (h : Host) (loaded : Parts) (fault : HostFault) → Read h loaded → ((s : State) → Stands loaded s → PassesTest fault h s → ⊥) → FailsTest fault h
fails_test h loaded fault r fails = by fault fails
  where
    each : (fault : HostFault) → ((s : State) → Stands loaded s → PassesTest fault h s → ⊥)
        → (s : State) → Stands (parts_of (version_three (joined h.room.battle))) s → PassesTest fault h s → ⊥
    each fault f s stands k = f s (subst (λ (q : Parts). Stands q s) (sym r.is) stands) k

    by : (fault : HostFault) → ((s : State) → Stands loaded s → PassesTest fault h s → ⊥) → FailsTest fault h
    by (faults.Battle why) f = absurd (f r.some.state r.some.stands tt)
    by faults.Number f = (r.battle, each faults.Number f)
    by faults.Log f = (r.battle, each faults.Log f)
    by (faults.Choice side) f = (r.battle, each (faults.Choice side) f)
    by faults.Choices f = (r.battle, each faults.Choices f)
    by (faults.Teller side) f = (r.battle, each (faults.Teller side) f)
    by faults.Ending f = (r.battle, each faults.Ending f)
    by faults.Draw f = (r.battle, each faults.Draw f)
    by faults.Rules f = (r.battle, each faults.Rules f)
    by faults.Unused f = (r.battle, each faults.Unused f)

-- The bytes of a host are stored as they are.
pub host_stored : (h : Host) (bytes : List ℕ) → bytes ≡ joined h.room.battle → ((s : State) → h.room.battle ≡ blocks_of s → bytes ≡ bytes_of s) → length bytes ≡ 384
    → IsHost h → IsStored h × (in_version_three h ≡ h)
host_stored h bytes e reads full k =
    let s = k.table.course.state in
    let stands = k.hosts.keeps.holds.stands in
    let kept = kept_battle h.room.battle s bytes stands (reads s stands.same) full in
    let is : parts_of (version_three (joined h.room.battle)) ≡ h.room.battle = ap (λ (b : List ℕ). parts_of (version_three b)) (sym e) ∙ kept.1 in
    let same : in_version_three h ≡ h = ap (λ (p : Parts). let it : Host = record h { room = record h.room { battle = p } } in it) is in
    (record { battle = subst IsBattle e kept.0; host = subst IsHost (sym same) k }, same)
