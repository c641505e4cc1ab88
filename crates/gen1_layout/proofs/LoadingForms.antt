-- The packings of valid states are exactly the bytes that pass all tests.
use Rattle.gen1_layout.proofs.Words.{Active, Bool, IsBetween, List, Member, ap, arith, false, inl, inr, length, nat_tests, nobody, refl, slice_index, subst, sym, ℕ, ◌∙◌}
use Rattle.std.proofs.Common.{All, replicate, if◌then◌else◌, ◌*◌, ◌++◌, ◌+◌, ◌-◌, ◌<◌, ◌==◌, ◌≡◌, ◌≤◌, Err, IsOk, ◌↔◌, Ok, Result, slice_set, suc, true, zero, ◌∷◌, []}
use Rattle.std.proofs.lemmas.Bool.{cases_lt, eqb-true}
use Rattle.std.proofs.lemmas.List.{get_or-take, length-set}
use Rattle.std.proofs.lemmas.List.Elements.{All-replicate}
use Rattle.gen1_rolls.specs.Streams.{IsStream, Link}
use Rattle.gen1_machine.specs.Rules.{rules_of, Rules}
use Rattle.gen1_machine.specs.State.{member_at, nobody_out, not_sent_out, Party, State}
use Rattle.gen1_machine.specs.Layout.{active_block, active_block_of, bytes_of, header_block, member_block, member_blocks, party_bytes}
use Rattle.gen1_machine.specs.Valid.{FallenAreHealthy, IsActive, IsField, IsMembersUnder, IsOutcome, IsParty, IsStarted, IsTerms, IsUnstarted, KeepsAccuracy}
use Rattle.gen1_layout.specs.Loading.{active_bytes, header_of, member_bytes, places_of, side_one, side_two, word, out_bytes, PassesActive, PassesMembers, PassesStats, IsReadAs, PassesBefore, PassesTest, version_three, number_of, PassesOfActives, PassesOfMembers, PassesOfRequests, PassesOfStats, PassesHeader, PassesVersion}
use Rattle.gen1_layout.specs.LoadingLaws.{FormsStand, PassesForm, beside_stats, out_of, AreBytes, StandsFor, StandsForHeader, StandsForMembers, IsBattle}
use Rattle.gen1_layout.proofs.LoadingActives.{actives_law, first_of_block}
use Rattle.gen1_layout.proofs.LoadingBlocks.{part_bytes, part_length, two_back, form_split, joined, parts_of_state, party_split, side_split, holds}
use Rattle.gen1_layout.proofs.LoadingLaws.{headers_law, rules_forth, requests_law, starts_law, split_stats, stats_law}
use Rattle.gen1_layout.proofs.LoadingMembers.{all_zero, members_law}
use Rattle.gen1_layout.specs.declared.loading.LoadFault.{LoadFault}
use Rattle.gen1_layout.specs.declared.loading.LoadFault.TheVariants as faults

-- A side with a member out, from its bytes

record HasParty (rules : Rules) (members : List Member) (side : List ℕ) : Type 0 where
  pub active : Active
  pub place : IsBetween 1 (length members) active.place
  pub valid : IsActive (out_of members active).moves active
  pub kept : KeepsAccuracy active
  pub at : slice_index side 144 ≡ active.place
  pub same : active_bytes side ≡ active_block (out_of members active) active

-- The member that is out has the bytes of its place.
out_is : (byte : ℕ) (side : List ℕ) (members : List Member) (a : Active) → IsMembersUnder (rules_of byte) members
    → places_of side ≡ member_blocks members → IsBetween 1 (length members) a.place → slice_index side 144 ≡ a.place
    → out_bytes side ≡ member_block (out_of members a)
out_is byte side members a valid same range is =
    ap (λ (at : ℕ). member_bytes at side) is ∙ holds side members a.place same valid.size.1 range

party_of : (byte : ℕ) (side : List ℕ) (members : List Member) → length side ≡ 180 → AreBytes side → IsMembersUnder (rules_of byte) members
    → places_of side ≡ member_blocks members → PassesActive side → PassesStats (out_bytes side) (active_bytes side)
    → HasParty (rules_of byte) members side
party_of byte side members full fit valid same passes stats =
    let s = (actives_law byte side members full fit valid same).0 passes in
    let a : Active = s.active in
    let low = s.place.0 in
    let high = s.place.1 in
    let m : Member = out_of members a in
    let block_full : length (active_bytes side) ≡ 36 = part_length 144 36 side (omega arith) in
    let at : slice_index side 144 ≡ a.place =
    sym (first_of_block side) ∙ ap (λ (l : List ℕ). slice_index l 0) (split_stats (active_bytes side) (beside_stats (active_block m a)) block_full s.same) in
    let known = valid.each (a.place - 1) nobody (omega arith) in
    let st = (stats_law m a (active_bytes side) block_full (part_bytes 144 36 side fit) known.numbers s.same).0
    (subst (λ (l : List ℕ). PassesStats l (active_bytes side)) (out_is byte side members a valid same s.place at) stats) in
    record {
      active = record a { attack_penalties = st.halved; speed_penalties = st.quartered };
      place = s.place;
      valid = record {
        stages = s.valid.stages;
        current_move = s.valid.current_move;
        picked_move = s.valid.picked_move;
        kept_accuracy = s.valid.kept_accuracy;
        conditions = s.valid.conditions;
      };
      kept = s.kept;
      at = at;
      same = st.same;
    }

not_zero : (n : ℕ) → 1 ≤ n → (n == 0) ≡ false
not_zero n low = grind (arith, nat_tests)

-- A member is out.
placed : (t : Party) → 1 ≤ t.active.place → active_block_of t ≡ active_block (member_at t.active.place t) t.active
placed t low = ap (λ (b : Bool). if b then replicate 36 0 else active_block (member_at t.active.place t) t.active) (not_zero t.active.place low)

-- A side is the bytes of its members and of its active block.
side_is : (side : List ℕ) (t : Party) → length side ≡ 180 → places_of side ≡ member_blocks t.members → active_bytes side ≡ active_block_of t
    → side ≡ party_bytes t
side_is side t full places active =
    side_split side full ∙ ap (λ (bs : List (List ℕ)). joined bs ++ active_bytes side) places
    ∙ ap (λ (a : List ℕ). joined (member_blocks t.members) ++ a) active

form_is : (form : List ℕ) (s : State) → length form ≡ 384 → header_of form ≡ header_block s → side_one form ≡ party_bytes s.field.one
    → side_two form ≡ party_bytes s.field.two → form ≡ bytes_of s
unfolding bytes_of
form_is form s full header one two =
    form_split form full ∙ ap (λ (h : List ℕ). h ++ side_one form ++ side_two form) header
    ∙ ap (λ (l : List ℕ). header_block s ++ l ++ side_two form) one ∙ ap (λ (l : List ℕ). header_block s ++ party_bytes s.field.one ++ l) two

-- The header's bytes come first.
header_at : (form : List ℕ) (k : ℕ) → k < 24 → slice_index (header_of form) k ≡ slice_index form k
header_at form k low = get_or-take 24 form k 0 low

rules_are : (form : List ℕ) (s : State) → header_of form ≡ header_block s → rules_of (slice_index form 19) ≡ s.terms.rules
rules_are form s same =
    ap rules_of (sym (header_at form 19 (omega arith)) ∙ ap (λ (l : List ℕ). slice_index l 19) same) ∙ rules_forth s.terms.rules

turn_is : (form : List ℕ) (s : State) → header_of form ≡ header_block s → s.field.turn ≤ s.terms.limit → IsTerms s.terms → word form 1 ≡ s.field.turn
turn_is form s same low terms =
    let high = terms.limit.1 in
    ap (λ (n : ℕ). n + 256 * slice_index form 2) (sym (header_at form 1 (omega arith)))
    ∙ ap (λ (n : ℕ). slice_index (header_of form) 1 + 256 * n) (sym (header_at form 2 (omega arith))) ∙ ap (λ (l : List ℕ). word l 1) same
    ∙ two_back s.field.turn (omega arith)

start_from : (form : List ℕ) → length form ≡ 384 → AreBytes form → PassesForm form → (h : StandsForHeader (header_of form)) → h.state.field.turn ≡ 0
    → StandsForMembers (rules_of (slice_index form 19)) (side_one form) → StandsForMembers (rules_of (slice_index form 19)) (side_two form)
    → StandsFor form
start_from form full fit p h none one two =
    let s0 : State = h.state in
    let t1 : Party = not_sent_out one.members in
    let t2 : Party = not_sent_out two.members in
    let s : State = record s0 { field = record s0.field { one = t1; two = t2 } } in
    let rules = rules_are form s0 h.same in
    let zero_turn : word form 1 ≡ 0 = turn_is form s0 h.same h.turn h.terms ∙ none in
    let full1 : length (side_one form) ≡ 180 = part_length 24 180 form (omega arith) in
    let full2 : length (side_two form) ≡ 180 = part_length 204 180 form (omega arith) in
    let v1 = subst (λ (r : Rules). IsMembersUnder r one.members) rules one.valid in
    let v2 = subst (λ (r : Rules). IsMembersUnder r two.members) rules two.valid in
    let zeros1 = all_zero 36 (active_bytes (side_one form)) (part_length 144 36 (side_one form) (omega arith)) (p.actives.0.before zero_turn) in
    let zeros2 = all_zero 36 (active_bytes (side_two form)) (part_length 144 36 (side_two form) (omega arith)) (p.actives.1.before zero_turn) in
    let r = (starts_law s (header_of form) (side_one form) (side_two form) h.same h.outcome none v1 v2 one.same two.same).0 p.requests in
    record {
      state = s;
      valid = record {
        terms = h.terms;
        seed = h.seed;
        field = inl (record {
          members_one = v1;
          members_two = v2;
          fallen_one = one.fallen;
          fallen_two = two.fallen;
          first_one = r.2;
          first_two = r.3;
          nobody_one = refl;
          nobody_two = refl;
          last_damage = h.last_damage;
          turn = none;
          outcome = r.0;
          requests = r.1;
        });
      };
      same =
          form_is form s full h.same (side_is (side_one form) t1 full1 one.same zeros1) (side_is (side_two form) t2 full2 two.same zeros2);
    }

later_from : (form : List ℕ) → length form ≡ 384 → AreBytes form → PassesForm form → (h : StandsForHeader (header_of form)) → 1 ≤ h.state.field.turn
    → StandsForMembers (rules_of (slice_index form 19)) (side_one form) → StandsForMembers (rules_of (slice_index form 19)) (side_two form)
    → StandsFor form
later_from form full fit p h begun one two =
    let s0 : State = h.state in
    let byte : ℕ = slice_index form 19 in
    let rules = rules_are form s0 h.same in
    let turn = turn_is form s0 h.same h.turn h.terms in
    let begun' : 1 ≤ word form 1 = rw turn begun in
    let full1 : length (side_one form) ≡ 180 = part_length 24 180 form (omega arith) in
    let full2 : length (side_two form) ≡ 180 = part_length 204 180 form (omega arith) in
    let p1 = party_of byte (side_one form) one.members full1 (part_bytes 24 180 form fit) one.valid one.same (p.actives.0.later begun') (p.stats.0.later begun') in
    let p2 = party_of byte (side_two form) two.members full2 (part_bytes 204 180 form fit) two.valid two.same (p.actives.1.later begun') (p.stats.1.later begun') in
    let t1 : Party = record { members = one.members; active = p1.active } in
    let t2 : Party = record { members = two.members; active = p2.active } in
    let s : State = record s0 { field = record s0.field { one = t1; two = t2 } } in
    let v1 = subst (λ (r : Rules). IsMembersUnder r one.members) rules one.valid in
    let v2 = subst (λ (r : Rules). IsMembersUnder r two.members) rules two.valid in
    let field : IsField s.terms s.field = record {
      one = record { members = v1; place = p1.place; active = p1.valid };
      two = record { members = v2; place = p2.place; active = p2.valid };
      last_damage = h.last_damage;
      turn = h.turn;
      outcome = h.outcome;
    } in
    record {
      state = s;
      valid = record {
        terms = h.terms;
        seed = h.seed;
        field = inr (record {
          field = field;
          turn = begun;
          fallen_one = one.fallen;
          fallen_two = two.fallen;
          accuracy_one = p1.kept;
          accuracy_two = p2.kept;
          requests =
              (requests_law s (header_of form) (side_one form) (side_two form) h.same h.terms field begun one.same two.same p1.at p2.at).0
              p.requests;
        });
      };
      same =
          form_is form s full h.same (side_is (side_one form) t1 full1 one.same (p1.same ∙ sym (placed t1 p1.place.0)))
          (side_is (side_two form) t2 full2 two.same (p2.same ∙ sym (placed t2 p2.place.0)));
    }

forms_from : (form : List ℕ) → length form ≡ 384 → AreBytes form → slice_index form 0 ≡ 3 → PassesForm form → StandsFor form
forms_from form full fit three p =
    let h = (headers_law (header_of form) (part_length 0 24 form (omega arith)) (part_bytes 0 24 form fit) (header_at form 0 (omega arith) ∙ three)).0 p.header in
    let one = (members_law (slice_index form 19) (side_one form) (part_length 24 180 form (omega arith)) (part_bytes 24 180 form fit)).0 p.members.0 in
    let two = (members_law (slice_index form 19) (side_two form) (part_length 204 180 form (omega arith)) (part_bytes 204 180 form fit)).0 p.members.1 in
    elim (cases_lt 0 h.state.field.turn) [
      | inl begun ↦ later_from form full fit p h (omega arith) one two
      | inr none ↦ start_from form full fit p h (omega arith) one two
    ]

-- From a state to bytes

record SideIs (t : Party) (side : List ℕ) : Type 0 where
  pub places : places_of side ≡ member_blocks t.members
  pub active : active_bytes side ≡ active_block_of t

side_parts : (t : Party) (side : List ℕ) → side ≡ party_bytes t → SideIs t side
side_parts t side same = let split = party_split t in
    record { places = ap places_of same ∙ split.places; active = ap active_bytes same ∙ split.active }

members_back : (byte : ℕ) (rules : Rules) (t : Party) (side : List ℕ) → length side ≡ 180 → AreBytes side → rules_of byte ≡ rules
    → IsMembersUnder rules t.members → FallenAreHealthy t.members → SideIs t side → PassesMembers byte side
members_back byte rules t side full fit is valid fallen parts =
    (members_law byte side full fit).1
    record {
      members = t.members;
      valid = subst (λ (r : Rules). IsMembersUnder r t.members) (sym is) valid;
      fallen = fallen;
      same = parts.places;
    }

party_back : (byte : ℕ) (rules : Rules) (t : Party) (side : List ℕ) → length side ≡ 180 → AreBytes side → rules_of byte ≡ rules → IsParty rules t
    → KeepsAccuracy t.active → SideIs t side → PassesActive side × PassesStats (out_bytes side) (active_bytes side) × (slice_index side 144 ≡ t.active.place)
party_back byte rules t side full fit is valid kept parts =
    let a : Active = t.active in
    let low = valid.place.0 in
    let high = valid.place.1 in
    let m : Member = out_of t.members a in
    let known_all = subst (λ (r : Rules). IsMembersUnder r t.members) (sym is) valid.members in
    let known = valid.members.each (a.place - 1) nobody (omega arith) in
    let block : active_bytes side ≡ active_block m a = parts.active ∙ placed t low in
    let block_full : length (active_bytes side) ≡ 36 = part_length 144 36 side (omega arith) in
    let at : slice_index side 144 ≡ a.place = sym (first_of_block side) ∙ ap (λ (l : List ℕ). slice_index l 0) block in (
      (actives_law byte side t.members full fit known_all parts.places).1
          record { active = a; place = valid.place; valid = valid.active; kept = kept; same = ap beside_stats block },
      subst (λ (l : List ℕ). PassesStats l (active_bytes side)) (sym (out_is byte side t.members a known_all parts.places valid.place at))
          ((stats_law m a (active_bytes side) block_full (part_bytes 144 36 side fit) known.numbers (ap beside_stats block)).1
          record { halved = a.attack_penalties; quartered = a.speed_penalties; same = block }),
      at,
    )

nobody_back : (t : Party) (side : List ℕ) → t.active ≡ nobody_out → SideIs t side → All (λ byte. byte ≡ 0) (active_bytes side)
nobody_back t side nobody parts =
    let zeros : active_bytes side ≡ replicate 36 0 =
    parts.active ∙ ap (λ (a : Active). active_block_of (record { members = t.members; active = a })) nobody in
    subst (λ (l : List ℕ). All (λ byte. byte ≡ 0) l) (sym zeros) (All-replicate (λ byte. byte ≡ 0) 36 0 refl)

start_back : (form : List ℕ) → length form ≡ 384 → AreBytes form → (s : State) → IsTerms s.terms → IsStream (Link s.seed) → IsUnstarted s.terms s.field
    → slice_index form 0 ≡ 3 → header_of form ≡ header_block s → SideIs s.field.one (side_one form) → SideIs s.field.two (side_two form) → PassesForm form
start_back form full fit s terms seed u three header one two =
    let byte : ℕ = slice_index form 19 in
    let limit = terms.limit.0 in
    let none = u.turn in
    let low : s.field.turn ≤ s.terms.limit = omega arith in
    let outcome : IsOutcome s.field.outcome = subst IsOutcome (sym u.outcome) tt in
    let rules = rules_are form s header in
    let turn = turn_is form s header low terms in
    let full1 : length (side_one form) ≡ 180 = part_length 24 180 form (omega arith) in
    let full2 : length (side_two form) ≡ 180 = part_length 204 180 form (omega arith) in
    record {
      header =
          (headers_law (header_of form) (part_length 0 24 form (omega arith)) (part_bytes 0 24 form fit) (header_at form 0 (omega arith) ∙ three)).1
          record { state = s; terms = terms; seed = seed; turn = low; last_damage = u.last_damage; outcome = outcome; same = header };
      members = (
        members_back byte s.terms.rules s.field.one (side_one form) full1 (part_bytes 24 180 form fit) rules u.members_one u.fallen_one one,
        members_back byte s.terms.rules s.field.two (side_two form) full2 (part_bytes 204 180 form fit) rules u.members_two u.fallen_two two,
      );
      actives = (
        record { before = λ _. nobody_back s.field.one (side_one form) u.nobody_one one; later = λ begun. absurd (omega arith) },
        record { before = λ _. nobody_back s.field.two (side_two form) u.nobody_two two; later = λ begun. absurd (omega arith) },
      );
      stats = (record { later = λ begun. absurd (omega arith) }, record { later = λ begun. absurd (omega arith) });
      requests =
          (starts_law s (header_of form) (side_one form) (side_two form) header outcome none u.members_one u.members_two one.places two.places).1
          (u.outcome, u.requests, u.first_one, u.first_two);
    }

later_back : (form : List ℕ) → length form ≡ 384 → AreBytes form → (s : State) → IsTerms s.terms → IsStream (Link s.seed) → IsStarted s.terms s.field
    → slice_index form 0 ≡ 3 → header_of form ≡ header_block s → SideIs s.field.one (side_one form) → SideIs s.field.two (side_two form) → PassesForm form
later_back form full fit s terms seed u three header one two =
    let byte : ℕ = slice_index form 19 in
    let begun = u.turn in
    let rules = rules_are form s header in
    let turn = turn_is form s header u.field.turn terms in
    let full1 : length (side_one form) ≡ 180 = part_length 24 180 form (omega arith) in
    let full2 : length (side_two form) ≡ 180 = part_length 204 180 form (omega arith) in
    let p1 = party_back byte s.terms.rules s.field.one (side_one form) full1 (part_bytes 24 180 form fit) rules u.field.one u.accuracy_one one in
    let p2 = party_back byte s.terms.rules s.field.two (side_two form) full2 (part_bytes 204 180 form fit) rules u.field.two u.accuracy_two two in
    record {
      header =
          (headers_law (header_of form) (part_length 0 24 form (omega arith)) (part_bytes 0 24 form fit) (header_at form 0 (omega arith) ∙ three)).1
          record {
            state = s;
            terms = terms;
            seed = seed;
            turn = u.field.turn;
            last_damage = u.field.last_damage;
            outcome = u.field.outcome;
            same = header;
          };
      members = (
        members_back byte s.terms.rules s.field.one (side_one form) full1 (part_bytes 24 180 form fit) rules u.field.one.members u.fallen_one one,
        members_back byte s.terms.rules s.field.two (side_two form) full2 (part_bytes 204 180 form fit) rules u.field.two.members u.fallen_two two,
      );
      actives = (
        record { before = λ none. absurd (omega arith); later = λ _. p1.0 },
        record { before = λ none. absurd (omega arith); later = λ _. p2.0 },
      );
      stats = (record { later = λ _. p1.1 }, record { later = λ _. p2.1 });
      requests =
          (requests_law s (header_of form) (side_one form) (side_two form) header terms u.field begun one.places two.places p1.2 p2.2).1
          u.requests;
    }

forms_back : (form : List ℕ) → length form ≡ 384 → AreBytes form → slice_index form 0 ≡ 3 → StandsFor form → PassesForm form
forms_back form full fit three st =
    let s : State = st.state in
    let parts = parts_of_state s in
    let header = ap header_of st.same ∙ parts.header in
    let one = side_parts s.field.one (side_one form) (ap side_one st.same ∙ parts.one) in
    let two = side_parts s.field.two (side_two form) (ap side_two st.same ∙ parts.two) in
    elim st.valid.field [
      | inl u ↦ start_back form full fit s st.valid.terms st.valid.seed u three header one two
      | inr u ↦ later_back form full fit s st.valid.terms st.valid.seed u three header one two
    ]

pub forms_law : FormsStand
forms_law form full fit three = (forms_from form full fit three, forms_back form full fit three)

-- The results of reading, and the bytes that represent a battle.

-- The form of version 3 is bytes of that version.

set_bytes : (bytes : List ℕ) (i v : ℕ) → v < 256 → AreBytes bytes → AreBytes (slice_set bytes i v)
set_bytes [] i v low fit k = fit k
set_bytes (b ∷ bytes) zero v low fit zero = low
set_bytes (b ∷ bytes) zero v low fit (suc k) = fit (suc k)
set_bytes (b ∷ bytes) (suc i) v low fit zero = fit zero
set_bytes (b ∷ bytes) (suc i) v low fit (suc k) = set_bytes bytes i v low (λ j. fit (suc j)) k

record IsForm (form : List ℕ) : Type 0 where
  pub full : length form ≡ 384
  pub fit : AreBytes form
  pub version : slice_index form 0 ≡ 3

mended : (bytes : List ℕ) → length bytes ≡ 384 → AreBytes bytes → IsForm (slice_set (slice_set (slice_set bytes 0 3) 20 232) 21 3)
mended [] full fit = absurd (omega arith)
mended (b ∷ bytes) full fit = record {
  full =
      length-set (slice_set (slice_set (b ∷ bytes) 0 3) 20 232) 21 3 ∙ length-set (slice_set (b ∷ bytes) 0 3) 20 232
      ∙ length-set (b ∷ bytes) 0 3 ∙ full;
  fit =
      set_bytes (slice_set (slice_set (b ∷ bytes) 0 3) 20 232) 21 3 (omega arith)
      (set_bytes (slice_set (b ∷ bytes) 0 3) 20 232 (omega arith) (set_bytes (b ∷ bytes) 0 3 (omega arith) fit));
  version = refl;
}

form_of : (bytes : List ℕ) → length bytes ≡ 384 → AreBytes bytes → IsForm (version_three bytes)
form_of bytes full fit = by (slice_index bytes 0 == 3) refl
  where
    by : (b : Bool) → (slice_index bytes 0 == 3) ≡ b
        → IsForm (if b then bytes else slice_set (slice_set (slice_set bytes 0 3) 20 232) 21 3)
    by true is = record { full = full; fit = fit; version = eqb-true _ _ is }
    by false is = mended bytes full fit

-- Bytes that pass all tests represent a battle

battle_from : (bytes : List ℕ) → AreBytes bytes → PassesBefore 8 bytes → IsBattle bytes
battle_from bytes fit p =
    let full : length bytes ≡ 384 = p faults.Length (omega arith) in
    let header = p faults.Header (omega arith) in
    let form = form_of bytes full fit in
    record {
      full = full;
      version = p faults.Version (omega arith);
      keeps = header.0;
      stands =
          (forms_law (version_three bytes) form.full form.fit form.version).0
          record {
            header = header.1;
            members = p faults.Member (omega arith);
            actives = p faults.Active (omega arith);
            stats = p faults.Stat (omega arith);
            requests = p faults.Request (omega arith);
          };
    }

battle_passes : (bytes : List ℕ) → AreBytes bytes → IsBattle bytes → (fault : LoadFault) → PassesTest fault bytes
battle_passes bytes fit b fault =
    let form = form_of bytes b.full fit in
    let p = (forms_law (version_three bytes) form.full form.fit form.version).1 b.stands in
    by p fault
  where
    by : PassesForm (version_three bytes) → (fault : LoadFault) → PassesTest fault bytes
    by p faults.Length = b.full
    by p faults.Version = b.version
    by p faults.Header = (b.keeps, p.header)
    by p faults.Member = p.members
    by p faults.Active = p.actives
    by p faults.Stat = p.stats
    by p faults.Request = p.requests

pub read_stands : (bytes : List ℕ) (result : Result (List ℕ) LoadFault) → AreBytes bytes → IsReadAs result bytes → IsOk result ↔ IsBattle bytes
read_stands bytes (Ok form) fit is = (λ ok. battle_from bytes fit is.0, λ battle. refl)
read_stands bytes (Err fault) fit is = (λ ok. cc, λ battle. absurd (is.1 (battle_passes bytes fit battle fault)))

-- What the tests of reading say together, after some have passed.

-- The tests before that of the current stats.
pub record PassesFive (bytes form : List ℕ) : Type 0 where
  pub length : length bytes ≡ 384
  pub version : IsBetween 1 3 (slice_index bytes 0)
  pub header : PassesVersion bytes × PassesHeader (header_of form)
  pub members : PassesOfMembers form
  pub actives : PassesOfActives form

pub before_stats : (bytes form : List ℕ) → form ≡ version_three bytes → PassesFive bytes form → (fault : LoadFault) → number_of fault < 6
    → PassesTest fault bytes
before_stats bytes form is p faults.Length low = p.length
before_stats bytes form is p faults.Version low = p.version
before_stats bytes form is p faults.Header low = (p.header.0, subst (λ f. PassesHeader (header_of f)) is p.header.1)
before_stats bytes form is p faults.Member low = subst PassesOfMembers is p.members
before_stats bytes form is p faults.Active low = subst PassesOfActives is p.actives
before_stats bytes form is p faults.Stat low = absurd (omega arith)
before_stats bytes form is p faults.Request low = absurd (omega arith)

pub before_requests : (bytes form : List ℕ) → form ≡ version_three bytes → PassesFive bytes form → PassesOfStats form → (fault : LoadFault)
    → number_of fault < 7 → PassesTest fault bytes
before_requests bytes form is p stats faults.Length low = p.length
before_requests bytes form is p stats faults.Version low = p.version
before_requests bytes form is p stats faults.Header low = before_stats bytes form is p faults.Header (omega arith)
before_requests bytes form is p stats faults.Member low = before_stats bytes form is p faults.Member (omega arith)
before_requests bytes form is p stats faults.Active low = before_stats bytes form is p faults.Active (omega arith)
before_requests bytes form is p stats faults.Stat low = subst PassesOfStats is stats
before_requests bytes form is p stats faults.Request low = absurd (omega arith)

pub all_tests : (bytes form : List ℕ) → form ≡ version_three bytes → PassesFive bytes form → PassesOfStats form → PassesOfRequests form
    → (fault : LoadFault) → number_of fault < 8 → PassesTest fault bytes
all_tests bytes form is p stats requests faults.Length low = p.length
all_tests bytes form is p stats requests faults.Version low = p.version
all_tests bytes form is p stats requests faults.Header low = before_stats bytes form is p faults.Header (omega arith)
all_tests bytes form is p stats requests faults.Member low = before_stats bytes form is p faults.Member (omega arith)
all_tests bytes form is p stats requests faults.Active low = before_stats bytes form is p faults.Active (omega arith)
all_tests bytes form is p stats requests faults.Stat low = subst PassesOfStats is stats
all_tests bytes form is p stats requests faults.Request low = subst PassesOfRequests is requests
