-- A header, current stats, and turn, outcome and requests pass their tests exactly if they are those of some valid
-- state.
use Rattle.std.proofs.Common.{All, Bool, List, [], ap, arith, false, inl, inr, length, map, nat_lt, not, refl, replicate, slice_index, slice_index_or, subst, suc, sym, take, true, zero, ℕ, ◌++◌, ◌+◌, ◌-◌, ◌<◌, ◌||◌, ◌∙◌, ◌∷◌, ◌≡◌, ◌≤◌, ◌%◌, ◌*◌, ◌/◌, drop}
use Rattle.std.proofs.lemmas.List.{take-replicate}
use Rattle.std.proofs.lemmas.List.Elements.{All-head, All-tail, All-from_get_or}
use Rattle.gen1_tables.specs.Types.{any}
use Rattle.gen1_stats.specs.Members.{is_living, nobody, IsBetween, Member, IsMember}
use Rattle.gen1_machine.specs.declared.side.Side.TheVariants.{One, Two}
use Rattle.gen1_machine.specs.declared.terms.Outcome.{Outcome}
use Rattle.gen1_machine.specs.declared.terms.Request.{Request}
use Rattle.gen1_machine.specs.Rules.{Rules, bit_of, bits_of_rules, rules_of}
use Rattle.gen1_machine.specs.State.{member_at, member_in, State, not_sent_out, Active}
use Rattle.gen1_machine.specs.Layout.{header_block, member_block, member_blocks, outcome_byte, request_byte, high_byte, low_byte, active_block}
use Rattle.gen1_machine.specs.Valid.{lives_in, AsksNothing, IsAsked, IsField, IsMembersUnder, IsMemberUnder, IsOutcome, IsTerms, IsTie, StandsAs}
use Rattle.gen1_layout.specs.Loading.{member_bytes, places_of, word, out_bytes, any_lives, lives, Asks, PassesAsked, PassesLater, PassesRequests, PassesTie, PassesHeader, PassesStats}
use Rattle.gen1_layout.specs.LoadingLaws.{RequestsStand, StartsStand, HeadersStand, AreBytes, StandsForHeader, StatsStand, beside_stats, StandsForStats}
use Rattle.gen1_layout.proofs.LoadingBlocks.{two_back, holds, bytes_from, listed, part_bytes, two_high, two_low}
use Rattle.gen1_rolls.specs.Streams.{byte_at, Link}
use Rattle.std.proofs.lemmas.Bool.{cases_lt}
use Rattle.gen1_tables.specs.declared.effect.Stat.TheVariants.{Attack, Defense, Speed, Special}
use Rattle.gen1_machine.specs.Stages.{at_stage, divided_times}
use Rattle.gen1_machine.specs.CurrentStats.{now}
use Rattle.gen1_machine.specs.declared.terms.Outcome.TheVariants as outcomes
use Rattle.gen1_machine.specs.declared.terms.Request.TheVariants as requests

-- Living members

lives_same : (rules : Rules) (m : Member) → IsMemberUnder rules m → lives (member_block m) ≡ is_living m
lives_same rules m valid =
    let high = valid.numbers.max.1 in
    let less = valid.numbers.hp in
    ap (λ (v : ℕ). nat_lt 0 v) (two_back m.hp (omega arith))

nobody_lives : (n : ℕ) → any lives (replicate n (replicate 24 0)) ≡ false
nobody_lives zero = refl
nobody_lives (suc n) = nobody_lives n

any_same : (rules : Rules) (n : ℕ) (members : List Member) → length members ≤ n → n ≤ 6 → All (IsMemberUnder rules) members
    → any lives (take n (map member_block members ++ replicate 6 (replicate 24 0))) ≡ any is_living members
any_same rules n [] fit few valid = ap (any lives) (take-replicate n 6 (replicate 24 0) few) ∙ nobody_lives n
any_same rules zero (m ∷ members) fit few valid = absurd (omega arith)
any_same rules (suc n) (m ∷ members) fit few valid =
    let first = lives_same rules m (All-head (IsMemberUnder rules) m members valid) in
    let rest = any_same rules n members (omega arith) (omega arith) (All-tail (IsMemberUnder rules) m members valid) in
    ap (λ (b : Bool). b || any lives (take n (map member_block members ++ replicate 6 (replicate 24 0)))) first
    ∙ ap (λ (b : Bool). is_living m || b) rest

side_lives : (rules : Rules) (side : List ℕ) (members : List Member) → IsMembersUnder rules members → places_of side ≡ member_blocks members
    → any_lives side ≡ any is_living members
side_lives rules side members valid same = ap (any lives) same ∙ any_same rules 6 members valid.size.1 (omega arith) valid.each

place_lives : (rules : Rules) (side : List ℕ) (members : List Member) (place : ℕ) → IsMembersUnder rules members
    → places_of side ≡ member_blocks members → IsBetween 1 (length members) place
    → lives (member_bytes place side) ≡ is_living (slice_index_or members (place - 1) nobody)
place_lives rules side members place valid same range =
    let low = range.0 in
    let high = range.1 in
    ap lives (holds side members place same valid.size.1 range)
    ∙ lives_same rules (slice_index_or members (place - 1) nobody) (valid.each (place - 1) nobody (omega arith))

-- Requests by their bytes

is_pass_byte : (r : Request) → request_byte r ≡ 0 → r ≡ requests.Pass
is_pass_byte requests.Pass is = refl
is_pass_byte requests.Move is = absurd (omega arith)
is_pass_byte requests.Switch is = absurd (omega arith)

is_move_byte : (r : Request) → request_byte r ≡ 1 → r ≡ requests.Move
is_move_byte requests.Pass is = absurd (omega arith)
is_move_byte requests.Move is = refl
is_move_byte requests.Switch is = absurd (omega arith)

is_switch_byte : (r : Request) → request_byte r ≡ 2 → r ≡ requests.Switch
is_switch_byte requests.Pass is = absurd (omega arith)
is_switch_byte requests.Move is = absurd (omega arith)
is_switch_byte requests.Switch is = refl

nothing_asked : (s : State) → Asks (header_block s) 0 0 → AsksNothing s.field
nothing_asked s asks = record { one = is_pass_byte s.field.request_one asks.0; two = is_pass_byte s.field.request_two asks.1 }

nothing_back : (s : State) → AsksNothing s.field → Asks (header_block s) 0 0
nothing_back s asks = (ap request_byte asks.one, ap request_byte asks.two)

turn_word : (s : State) → s.field.turn ≤ s.terms.limit → IsTerms s.terms → word (header_block s) 1 ≡ s.field.turn
turn_word s low terms = let high = terms.limit.1 in two_back s.field.turn (omega arith)

limit_word : (s : State) → IsTerms s.terms → word (header_block s) 20 ≡ s.terms.limit
limit_word s terms = let high = terms.limit.1 in two_back s.terms.limit (omega arith)

below : (s : State) → s.field.turn ≤ s.terms.limit → IsTerms s.terms → word (header_block s) 1 < word (header_block s) 20 → s.field.turn < s.terms.limit
below s low terms less = rw (turn_word s low terms, limit_word s terms) at less

below_back : (s : State) → s.field.turn ≤ s.terms.limit → IsTerms s.terms → s.field.turn < s.terms.limit → word (header_block s) 1 < word (header_block s) 20
below_back s low terms less = rw (turn_word s low terms, limit_word s terms) less

asked_from : (one two : Bool) (s : State) → s.field.turn ≤ s.terms.limit → IsTerms s.terms → PassesAsked one two (header_block s)
    → IsAsked (not one) (not two) s.terms s.field
asked_from true true s low terms p = (is_move_byte s.field.request_one p.0, is_move_byte s.field.request_two p.1)
asked_from false true s low terms p =
    (is_switch_byte s.field.request_one p.0.0, is_pass_byte s.field.request_two p.0.1, below s low terms p.1)
asked_from true false s low terms p =
    (is_pass_byte s.field.request_one p.0.0, is_switch_byte s.field.request_two p.0.1, below s low terms p.1)
asked_from false false s low terms p =
    (is_switch_byte s.field.request_one p.0.0, is_switch_byte s.field.request_two p.0.1, below s low terms p.1)

asked_back : (one two : Bool) (s : State) → s.field.turn ≤ s.terms.limit → IsTerms s.terms → IsAsked (not one) (not two) s.terms s.field
    → PassesAsked one two (header_block s)
asked_back true true s low terms p = (ap request_byte p.0, ap request_byte p.1)
asked_back false true s low terms p = ((ap request_byte p.0, ap request_byte p.1), below_back s low terms p.2)
asked_back true false s low terms p = ((ap request_byte p.0, ap request_byte p.1), below_back s low terms p.2)
asked_back false false s low terms p = ((ap request_byte p.0, ap request_byte p.1), below_back s low terms p.2)

-- The whole, with the living members from the bytes of the sides

record SaysWhoLives (s : State) (one two : List ℕ) : Type 0 where
  pub any_one : any_lives one ≡ lives_in One s.field
  pub any_two : any_lives two ≡ lives_in Two s.field
  pub out_one : lives (out_bytes one) ≡ is_living (member_in One s.field)
  pub out_two : lives (out_bytes two) ≡ is_living (member_in Two s.field)

later_from : (s : State) (one two : List ℕ) (o : Outcome) → s.field.outcome ≡ o → s.field.turn ≤ s.terms.limit → IsTerms s.terms
    → SaysWhoLives s one two → PassesLater (header_block s) one two → StandsAs o s.terms s.field
later_from s one two outcomes.Ongoing is low terms w p =
    let q = p.ongoing (ap outcome_byte is) in (
      sym w.any_one ∙ q.0,
      sym w.any_two ∙ q.1,
      asked_from (is_living (member_in One s.field)) (is_living (member_in Two s.field)) s low terms
          (subst (λ (b : Bool). PassesAsked (is_living (member_in One s.field)) b (header_block s)) w.out_two
          (subst (λ (b : Bool). PassesAsked b (lives (out_bytes two)) (header_block s)) w.out_one q.2)),
    )
later_from s one two outcomes.WinOne is low terms w p =
    let n : outcome_byte s.field.outcome ≡ 1 = ap outcome_byte is in
    let q = p.win_one n in
    (nothing_asked s (p.over (omega arith)), sym w.any_one ∙ q.0, sym w.any_two ∙ q.1)
later_from s one two outcomes.WinTwo is low terms w p =
    let n : outcome_byte s.field.outcome ≡ 2 = ap outcome_byte is in
    let q = p.win_two n in
    (nothing_asked s (p.over (omega arith)), sym w.any_one ∙ q.0, sym w.any_two ∙ q.1)
later_from s one two outcomes.Tie is low terms w p =
    let n : outcome_byte s.field.outcome ≡ 3 = ap outcome_byte is in
    (nothing_asked s (p.over (omega arith)), by (p.tie n))
  where
    by : PassesTie (any_lives one) (any_lives two) (header_block s) → IsTie s.terms s.field
    by (inl none) = inl (sym w.any_one ∙ none.0, sym w.any_two ∙ none.1)
    by (inr last) = inr (rw (turn_word s low terms, limit_word s terms) at last.0, sym w.any_one ∙ last.1, sym w.any_two ∙ last.2)
later_from s one two (outcomes.Fault k) is low terms w p =
    let n : outcome_byte s.field.outcome ≡ 3 + k = ap outcome_byte is in
    nothing_asked s (p.over (omega arith))

later_back : (s : State) (one two : List ℕ) (o : Outcome) → s.field.outcome ≡ o → IsOutcome o → s.field.turn ≤ s.terms.limit → IsTerms s.terms
    → SaysWhoLives s one two → StandsAs o s.terms s.field → PassesLater (header_block s) one two
later_back s one two outcomes.Ongoing is valid low terms w q =
    let n : outcome_byte s.field.outcome ≡ 0 = ap outcome_byte is in
    record {
      ongoing = λ _. (
        w.any_one ∙ q.0,
        w.any_two ∙ q.1,
        subst (λ (b : Bool). PassesAsked b (lives (out_bytes two)) (header_block s)) (sym w.out_one)
            (subst (λ (b : Bool). PassesAsked (is_living (member_in One s.field)) b (header_block s)) (sym w.out_two)
            (asked_back (is_living (member_in One s.field)) (is_living (member_in Two s.field)) s low terms q.2)),
      );
      over = λ some. absurd (omega arith);
      win_one = λ e. absurd (omega arith);
      win_two = λ e. absurd (omega arith);
      tie = λ e. absurd (omega arith);
    }
later_back s one two outcomes.WinOne is valid low terms w q =
    let n : outcome_byte s.field.outcome ≡ 1 = ap outcome_byte is in
    record {
      ongoing = λ e. absurd (omega arith);
      over = λ _. nothing_back s q.0;
      win_one = λ _. (w.any_one ∙ q.1, w.any_two ∙ q.2);
      win_two = λ e. absurd (omega arith);
      tie = λ e. absurd (omega arith);
    }
later_back s one two outcomes.WinTwo is valid low terms w q =
    let n : outcome_byte s.field.outcome ≡ 2 = ap outcome_byte is in
    record {
      ongoing = λ e. absurd (omega arith);
      over = λ _. nothing_back s q.0;
      win_one = λ e. absurd (omega arith);
      win_two = λ _. (w.any_one ∙ q.1, w.any_two ∙ q.2);
      tie = λ e. absurd (omega arith);
    }
later_back s one two outcomes.Tie is valid low terms w q =
    let n : outcome_byte s.field.outcome ≡ 3 = ap outcome_byte is in
    record {
      ongoing = λ e. absurd (omega arith);
      over = λ _. nothing_back s q.0;
      win_one = λ e. absurd (omega arith);
      win_two = λ e. absurd (omega arith);
      tie = λ _. by q.1;
    }
  where
    by : IsTie s.terms s.field → PassesTie (any_lives one) (any_lives two) (header_block s)
    by (inl none) = inl (w.any_one ∙ none.0, w.any_two ∙ none.1)
    by (inr last) = inr (rw (turn_word s low terms, limit_word s terms) last.0, w.any_one ∙ last.1, w.any_two ∙ last.2)
later_back s one two (outcomes.Fault k) is valid low terms w q =
    let n : outcome_byte s.field.outcome ≡ 3 + k = ap outcome_byte is in
    let some = valid.0 in
    record {
      ongoing = λ e. absurd (omega arith);
      over = λ _. nothing_back s q;
      win_one = λ e. absurd (omega arith);
      win_two = λ e. absurd (omega arith);
      tie = λ e. absurd (omega arith);
    }

says : (s : State) (one two : List ℕ) → IsField s.terms s.field → places_of one ≡ member_blocks s.field.one.members
    → places_of two ≡ member_blocks s.field.two.members → slice_index one 144 ≡ s.field.one.active.place
    → slice_index two 144 ≡ s.field.two.active.place → SaysWhoLives s one two
says s one two field same_one same_two place_one place_two = record {
  any_one = side_lives s.terms.rules one s.field.one.members field.one.members same_one;
  any_two = side_lives s.terms.rules two s.field.two.members field.two.members same_two;
  out_one =
      ap (λ (at : ℕ). lives (member_bytes at one)) place_one
      ∙ place_lives s.terms.rules one s.field.one.members s.field.one.active.place field.one.members same_one field.one.place;
  out_two =
      ap (λ (at : ℕ). lives (member_bytes at two)) place_two
      ∙ place_lives s.terms.rules two s.field.two.members s.field.two.active.place field.two.members same_two field.two.place;
}

pub requests_law : RequestsStand
requests_law s header one two same terms field begun same_one same_two place_one place_two =
    let w = says s one two field same_one same_two place_one place_two in
    let low = field.turn in
    let turn = turn_word s low terms in (
      λ p. elim (subst (λ (l : List ℕ). PassesRequests l one two) same p) [
        | inl start ↦ absurd (let none = start.0 in omega arith)
        | inr later ↦ later_from s one two s.field.outcome refl low terms w later.1
      ],
      λ q. subst (λ (l : List ℕ). PassesRequests l one two) (sym same)
          (inr (rw turn begun, later_back s one two s.field.outcome refl field.outcome low terms w q)),
    )

is_ongoing_byte : (o : Outcome) → outcome_byte o ≡ 0 → o ≡ outcomes.Ongoing
is_ongoing_byte outcomes.Ongoing is = refl
is_ongoing_byte outcomes.WinOne is = absurd (omega arith)
is_ongoing_byte outcomes.WinTwo is = absurd (omega arith)
is_ongoing_byte outcomes.Tie is = absurd (omega arith)
is_ongoing_byte (outcomes.Fault n) is = absurd (omega arith)

pub starts_law : StartsStand
starts_law s header one two same outcome none valid_one valid_two same_one same_two =
    let turn : word (header_block s) 1 ≡ 0 = two_back s.field.turn (omega arith) ∙ none in
    let few_one = valid_one.size.0 in
    let few_two = valid_two.size.0 in
    let first_one : lives (member_bytes 1 one) ≡ is_living (member_at 1 s.field.one) =
    place_lives s.terms.rules one s.field.one.members 1 valid_one same_one (omega arith, few_one) in
    let first_two : lives (member_bytes 1 two) ≡ is_living (member_at 1 s.field.two) =
    place_lives s.terms.rules two s.field.two.members 1 valid_two same_two (omega arith, few_two) in (
      λ p. elim (subst (λ (l : List ℕ). PassesRequests l one two) same p) [
        | inl start ↦ (is_ongoing_byte s.field.outcome start.1.ongoing, nothing_asked s start.1.asks, sym first_one ∙ start.1.first_one, sym first_two ∙ start.1.first_two)
        | inr later ↦ absurd (let some = later.0 in omega arith)
      ],
      λ q. subst (λ (l : List ℕ). PassesRequests l one two) (sym same)
          (inl (turn, record { ongoing = ap outcome_byte q.0; asks = nothing_back s q.1; first_one = first_one ∙ q.2; first_two = first_two ∙ q.3 })),
    )

-- A header passes its test exactly if it is the header of some state with numbers in range.

record HasOutcome (byte : ℕ) : Type 0 where
  pub outcome : Outcome
  pub valid : IsOutcome outcome
  pub same : byte ≡ outcome_byte outcome

outcome_of : (byte : ℕ) → byte ≤ 5 → HasOutcome byte
outcome_of zero low = record { outcome = outcomes.Ongoing; valid = tt; same = refl }
outcome_of (suc zero) low = record { outcome = outcomes.WinOne; valid = tt; same = refl }
outcome_of (suc (suc zero)) low = record { outcome = outcomes.WinTwo; valid = tt; same = refl }
outcome_of (suc (suc (suc zero))) low = record { outcome = outcomes.Tie; valid = tt; same = refl }
outcome_of (suc (suc (suc (suc zero)))) low = record { outcome = outcomes.Fault 1; valid = (omega arith, omega arith); same = refl }
outcome_of (suc (suc (suc (suc (suc zero))))) low = record { outcome = outcomes.Fault 2; valid = (omega arith, omega arith); same = refl }
outcome_of (suc (suc (suc (suc (suc (suc more)))))) low = absurd (omega arith)

outcome_byte-low : (outcome : Outcome) → IsOutcome outcome → outcome_byte outcome ≤ 5
outcome_byte-low outcomes.Ongoing valid = omega arith
outcome_byte-low outcomes.WinOne valid = omega arith
outcome_byte-low outcomes.WinTwo valid = omega arith
outcome_byte-low outcomes.Tie valid = omega arith
outcome_byte-low (outcomes.Fault n) valid = let high = valid.1 in omega arith

record HasRequest (byte : ℕ) : Type 0 where
  pub request : Request
  pub same : byte ≡ request_byte request

request_of : (byte : ℕ) → byte ≤ 2 → HasRequest byte
request_of zero low = record { request = requests.Pass; same = refl }
request_of (suc zero) low = record { request = requests.Move; same = refl }
request_of (suc (suc zero)) low = record { request = requests.Switch; same = refl }
request_of (suc (suc (suc more))) low = absurd (omega arith)

request_byte-low : (request : Request) → request_byte request ≤ 2
request_byte-low requests.Pass = omega arith
request_byte-low requests.Move = omega arith
request_byte-low requests.Switch = omega arith

rules_back : (byte : ℕ) → byte ≤ 3 → byte ≡ bits_of_rules (rules_of byte)
rules_back zero low = refl
rules_back (suc zero) low = refl
rules_back (suc (suc zero)) low = refl
rules_back (suc (suc (suc zero))) low = refl
rules_back (suc (suc (suc (suc more)))) low = absurd (omega arith)

pub rules_forth : (rules : Rules) → rules_of (bits_of_rules rules) ≡ rules
rules_forth rules = by rules.sleep_clause rules.freeze_clause
  where
    by : (sleep freeze : Bool) → rules_of (bit_of sleep + 2 * bit_of freeze) ≡ record { sleep_clause = sleep; freeze_clause = freeze }
    by false false = refl
    by false true = refl
    by true false = refl
    by true true = refl

bits_of_rules-low : (rules : Rules) → bits_of_rules rules ≤ 3
bits_of_rules-low rules = by rules.sleep_clause rules.freeze_clause
  where
    by : (sleep freeze : Bool) → bit_of sleep + 2 * bit_of freeze ≤ 3
    by false false = omega arith
    by false true = omega arith
    by true false = omega arith
    by true true = omega arith

-- With at most eight draws, the numbers in use are the first nine seed bytes.
first_round : (seed : List ℕ) (drawn j : ℕ) → drawn ≤ 8 → j ≤ 8 → byte_at (Link seed) (9 * (drawn / 9) + j) ≡ slice_index seed j
unfolding byte_at
first_round seed drawn j few low =
    let none : 9 * (drawn / 9) + j ≡ j = omega arith in
    let whole : j / 9 ≡ 0 = omega arith in
    let rest : j % 9 ≡ j = omega arith in
    rw (none, whole, rest) refl

header_made : (b1 b2 b3 b4 b5 s0 s1 s2 s3 s4 s5 s6 s7 s8 s9 b16 b17 b18 b19 b20 b21 b22 b23 : ℕ) → b1 < 256 → b2 < 256 → b3 < 256 → b4 < 256
    → b20 < 256 → b21 < 256 → All (λ x. x < 256) (s0 ∷ s1 ∷ s2 ∷ s3 ∷ s4 ∷ s5 ∷ s6 ∷ s7 ∷ s8 ∷ s9 ∷ []) → HasOutcome b16 → HasRequest b17 → HasRequest b18
    → PassesHeader (3 ∷ b1 ∷ b2 ∷ b3 ∷ b4 ∷ b5 ∷ s0 ∷ s1 ∷ s2 ∷ s3 ∷ s4 ∷ s5 ∷ s6 ∷ s7 ∷ s8 ∷ s9 ∷ b16 ∷ b17 ∷ b18 ∷ b19 ∷ b20 ∷ b21 ∷ b22 ∷ b23 ∷ []) → StandsForHeader (3 ∷ b1 ∷ b2 ∷ b3 ∷ b4 ∷ b5 ∷ s0 ∷ s1 ∷ s2 ∷ s3 ∷ s4 ∷ s5 ∷ s6 ∷ s7 ∷ s8 ∷ s9 ∷ b16 ∷ b17 ∷ b18 ∷ b19 ∷ b20 ∷ b21 ∷ b22 ∷ b23 ∷ [])
header_made b1 b2 b3 b4 b5 s0 s1 s2 s3 s4 s5 s6 s7 s8 s9 b16 b17 b18 b19 b20 b21 b22 b23 f1 f2 f3 f4 f20 f21 small o one two p =
    let seed : List ℕ = s0 ∷ s1 ∷ s2 ∷ s3 ∷ s4 ∷ s5 ∷ s6 ∷ s7 ∷ s8 ∷ s9 ∷ [] in
    let index = p.index in
    let rest = p.rest in
    let same_index : b5 % 9 ≡ b5 = omega arith in
    let same_rules : bits_of_rules (rules_of b19) ≡ b19 = sym (rules_back b19 p.rules) in
    let none22 : b22 ≡ 0 = omega arith in
    let none23 : b23 ≡ 0 = omega arith in
    record {
      state = record {
        terms = record { rules = rules_of b19; limit = b20 + 256 * b21 };
        field = record {
          one = not_sent_out [];
          two = not_sent_out [];
          last_damage = b3 + 256 * b4;
          turn = b1 + 256 * b2;
          outcome = o.outcome;
          request_one = one.request;
          request_two = two.request;
        };
        seed = seed;
        drawn = b5;
      };
      terms = record { limit = p.limit };
      seed = (refl, small);
      turn = p.turn;
      last_damage = omega arith;
      outcome = o.valid;
      same =
          rw (two_low b1 b2 f1, two_high b1 b2 f1 f2, two_low b3 b4 f3, two_high b3 b4 f3 f4, same_index, first_round seed b5 0 index (omega arith), first_round seed b5 1 index (omega arith), first_round seed b5 2 index (omega arith), first_round seed b5 3 index (omega arith), first_round seed b5 4 index (omega arith), first_round seed b5 5 index (omega arith), first_round seed b5 6 index (omega arith), first_round seed b5 7 index (omega arith), first_round seed b5 8 index (omega arith), o.same, one.same, two.same, same_rules, two_low b20 b21 f20, two_high b20 b21 f20 f21, none22, none23) refl;
    }

headers_from : (header : List ℕ) → length header ≡ 24 → AreBytes header → slice_index header 0 ≡ 3 → PassesHeader header → StandsForHeader header
headers_from header long fit three p =
    let b : ℕ → ℕ = λ k. slice_index header k in
    let q : PassesHeader (bytes_from 24 0 header) = subst PassesHeader (listed 24 header long) p in
    let small : All (λ x. x < 256) (bytes_from 10 6 header) =
    All-from_get_or (λ x. x < 256) (bytes_from 10 6 header) 0 (λ i low. part_bytes 6 10 (bytes_from 24 0 header) (subst AreBytes (listed 24 header long) fit) i) in
    let whole : header ≡ 3 ∷ bytes_from 23 1 header = listed 24 header long ∙ ap (λ first. first ∷ bytes_from 23 1 header) three in
    subst StandsForHeader (sym whole)
    (header_made (b 1) (b 2) (b 3) (b 4) (b 5) (b 6) (b 7) (b 8) (b 9) (b 10) (b 11) (b 12) (b 13) (b 14) (b 15) (b 16) (b 17) (b 18) (b 19) (b 20) (b 21) (b 22) (b 23) (fit 1) (fit 2) (fit 3) (fit 4) (fit 20) (fit 21) small
    (outcome_of (b 16) q.outcome) (request_of (b 17) q.request_one) (request_of (b 18) q.request_two)
    (subst PassesHeader (ap (λ first. first ∷ bytes_from 23 1 header) three) q))

headers_back : (s : State) → s.field.turn ≤ s.terms.limit → IsBetween 1 9999 s.terms.limit → IsOutcome s.field.outcome → PassesHeader (header_block s)
headers_back s turn limit outcome =
    let high = limit.1 in
    let same_turn : low_byte s.field.turn + 256 * high_byte s.field.turn ≡ s.field.turn = two_back s.field.turn (omega arith) in
    let same_limit : low_byte s.terms.limit + 256 * high_byte s.terms.limit ≡ s.terms.limit = two_back s.terms.limit (omega arith) in
    record {
      limit = rw same_limit limit;
      turn = rw (same_turn, same_limit) turn;
      index = omega arith;
      outcome = outcome_byte-low s.field.outcome outcome;
      request_one = request_byte-low s.field.request_one;
      request_two = request_byte-low s.field.request_two;
      rules = bits_of_rules-low s.terms.rules;
      rest = refl;
    }

pub headers_law : HeadersStand
headers_law header long fit three = (
  headers_from header long fit three,
  λ s. subst PassesHeader (sym s.same) (headers_back s.state s.turn s.terms.limit s.outcome),
)

-- Current stats pass their test exactly if they are those of the active member after some penalties.

-- An active block from these current stats and the bytes around them.
abbrev pub with_stats : List ℕ → ℕ → ℕ → ℕ → ℕ → ℕ → ℕ → ℕ → ℕ → List ℕ
with_stats beside s9 s10 s11 s12 s13 s14 s15 s16 =
    take 9 beside ++ (s9 ∷ s10 ∷ s11 ∷ s12 ∷ s13 ∷ s14 ∷ s15 ∷ s16 ∷ drop 9 beside)

pub split_stats : (block beside : List ℕ) → length block ≡ 36 → beside_stats block ≡ beside
    → block ≡ with_stats beside (slice_index block 9) (slice_index block 10) (slice_index block 11) (slice_index block 12) (slice_index block 13) (slice_index block 14) (slice_index block 15) (slice_index block 16)
split_stats block beside long same =
    let whole = listed 36 block long in
    let is : beside_stats (bytes_from 36 0 block) ≡ beside = ap beside_stats (sym whole) ∙ same in
    whole ∙ ap (λ l. with_stats l (slice_index block 9) (slice_index block 10) (slice_index block 11) (slice_index block 12) (slice_index block 13) (slice_index block 14) (slice_index block 15) (slice_index block 16)) is

-- Penalties

halved_below : (k v bound : ℕ) → 1 ≤ bound → divided_times 2 k v ≤ 2 * bound + 1 → divided_times 2 (suc k) v ≤ bound
halved_below k v bound some low = omega arith

quartered_below : (k v bound : ℕ) → 1 ≤ bound → divided_times 4 k v ≤ 4 * bound + 3 → divided_times 4 (suc k) v ≤ bound
quartered_below k v bound some low = omega arith

halved_9 : (v : ℕ) → v ≤ 999 → divided_times 2 9 v ≤ 1
halved_9 v low =
    halved_below 8 v 1 (omega arith) (halved_below 7 v 3 (omega arith) (halved_below 6 v 7 (omega arith) (halved_below 5 v 15 (omega arith)
    (halved_below 4 v 31 (omega arith) (halved_below 3 v 63 (omega arith) (halved_below 2 v 127 (omega arith) (halved_below 1 v 255 (omega arith)
    (halved_below 0 v 511 (omega arith) (omega arith)))))))))

quartered_5 : (v : ℕ) → v ≤ 999 → divided_times 4 5 v ≤ 1
quartered_5 v low =
    quartered_below 4 v 1 (omega arith) (quartered_below 3 v 7 (omega arith) (quartered_below 2 v 31 (omega arith)
    (quartered_below 1 v 127 (omega arith) (quartered_below 0 v 511 (omega arith) (omega arith)))))

-- More penalties change nothing

halved_late : (j v : ℕ) → v ≤ 999 → divided_times 2 (suc (suc (suc (suc (suc (suc (suc (suc (suc (j)))))))))) v ≤ 1
halved_late zero v low = halved_9 v low
halved_late (suc j) v low = let before = halved_late j v low in omega arith

quartered_late : (j v : ℕ) → v ≤ 999 → divided_times 4 (suc (suc (suc (suc (suc (j)))))) v ≤ 1
quartered_late zero v low = quartered_5 v low
quartered_late (suc j) v low = let before = quartered_late j v low in omega arith

halved_from : (k v : ℕ) → v ≤ 999 → 9 ≤ k → divided_times 2 k v ≡ 1
halved_from k v low late =
    let is : k ≡ suc (suc (suc (suc (suc (suc (suc (suc (suc (k - 9))))))))) = omega arith in
    let small = halved_late (k - 9) v low in
    rw is (omega arith)

quartered_from : (k v : ℕ) → v ≤ 999 → 5 ≤ k → divided_times 4 k v ≡ 1
quartered_from k v low late =
    let is : k ≡ suc (suc (suc (suc (suc (k - 5))))) = omega arith in
    let small = quartered_late (k - 5) v low in
    rw is (omega arith)

record Penalised (divisor most k v : ℕ) : Type 0 where
  pub times : ℕ
  pub few : times ≤ most
  pub same : divided_times divisor k v ≡ divided_times divisor times v

halved_few : (k v : ℕ) → v ≤ 999 → Penalised 2 9 k v
halved_few k v low = elim (cases_lt k 9) [
  | inl few ↦ (record { times = k; few = omega arith; same = refl })
  | inr many ↦ (record { times = 9; few = omega arith; same = halved_from k v low many ∙ sym (halved_from 9 v low (omega arith)) })
]

quartered_few : (k v : ℕ) → v ≤ 999 → Penalised 4 5 k v
quartered_few k v low = elim (cases_lt k 5) [
  | inl few ↦ (record { times = k; few = omega arith; same = refl })
  | inr many ↦ (record { times = 5; few = omega arith; same = quartered_from k v low many ∙ sym (quartered_from 5 v low (omega arith)) })
]

halved-low : (k v : ℕ) → v ≤ 999 → divided_times 2 k v ≤ 999
halved-low zero v low = low
halved-low (suc k) v low = let before = halved-low k v low in omega arith

quartered-low : (k v : ℕ) → v ≤ 999 → divided_times 4 k v ≤ 999
quartered-low zero v low = low
quartered-low (suc k) v low = let before = quartered-low k v low in omega arith

at_stage-low : (stage v : ℕ) → at_stage stage v ≤ 999
at_stage-low stage v = omega arith

-- From bytes to stats

low_of : (low high v : ℕ) → low < 256 → low + 256 * high ≡ v → low ≡ low_byte v
low_of low high v small is = omega arith

high_of : (low high v : ℕ) → low < 256 → high < 256 → low + 256 * high ≡ v → high ≡ high_byte v
high_of low high v small less is = omega arith

stats_from : (member : Member) (a : Active) (block : List ℕ) → length block ≡ 36 → AreBytes block → IsMember member
    → beside_stats block ≡ beside_stats (active_block member a) → PassesStats (member_block member) block → StandsForStats member a block
stats_from member a block long fit is same p =
    let split = split_stats block (beside_stats (active_block member a)) long same in
    let at : (k : ℕ) → slice_index block k ≡ slice_index (with_stats (beside_stats (active_block member a)) (slice_index block 9) (slice_index block 10) (slice_index block 11) (slice_index block 12) (slice_index block 13) (slice_index block 14) (slice_index block 15) (slice_index block 16)) k =
    λ k. ap (λ (l : List ℕ). slice_index l k) split in
    let attack_high = is.attack.1 in
    let defense_high = is.defense.1 in
    let speed_high = is.speed.1 in
    let special_high = is.special.1 in
    let a' : Active = record a { attack_penalties = p.attack.times; speed_penalties = p.speed.times } in
    let attack : word block 9 ≡ now Attack member a' = rw (two_back member.attack (omega arith), at 3) at p.attack.same in
    let defense : word block 11 ≡ now Defense member a' = rw (two_back member.defense (omega arith), at 4) at p.defense.same in
    let speed : word block 13 ≡ now Speed member a' = rw (two_back member.speed (omega arith), at 5) at p.speed.same in
    let special : word block 15 ≡ now Special member a' = rw (two_back member.special (omega arith), at 6) at p.special.same in
    record {
      halved = p.attack.times;
      quartered = p.speed.times;
      same =
          split
          ∙ rw (
            low_of _ _ _ (fit 9) attack,
            high_of _ _ _ (fit 9) (fit 10) attack,
            low_of _ _ _ (fit 11) defense,
            high_of _ _ _ (fit 11) (fit 12) defense,
            low_of _ _ _ (fit 13) speed,
            high_of _ _ _ (fit 13) (fit 14) speed,
            low_of _ _ _ (fit 15) special,
            high_of _ _ _ (fit 15) (fit 16) special,
          ) refl;
    }

stats_back : (member : Member) (a : Active) → IsMember member → PassesStats (member_block member) (active_block member a)
stats_back member a is =
    let attack_high = is.attack.1 in
    let defense_high = is.defense.1 in
    let speed_high = is.speed.1 in
    let special_high = is.special.1 in
    let attack : ℕ = at_stage a.stages.attack member.attack in
    let speed : ℕ = at_stage a.stages.speed member.speed in
    let few = halved_few a.attack_penalties attack (at_stage-low a.stages.attack member.attack) in
    let slow = quartered_few a.speed_penalties speed (at_stage-low a.stages.speed member.speed) in
    let attack_low = halved-low a.attack_penalties attack (at_stage-low a.stages.attack member.attack) in
    let speed_low = quartered-low a.speed_penalties speed (at_stage-low a.stages.speed member.speed) in
    let defense_low = at_stage-low a.stages.defense member.defense in
    let special_low = at_stage-low a.stages.special member.special in
    record {
      attack = record {
        times = few.times;
        few = few.few;
        same = rw (two_back member.attack (omega arith)) (two_back (now Attack member a) (omega arith) ∙ few.same);
      };
      defense = record {
        times = 0;
        few = omega arith;
        same = rw (two_back member.defense (omega arith)) (two_back (now Defense member a) (omega arith));
      };
      speed = record {
        times = slow.times;
        few = slow.few;
        same = rw (two_back member.speed (omega arith)) (two_back (now Speed member a) (omega arith) ∙ slow.same);
      };
      special = record {
        times = 0;
        few = omega arith;
        same = rw (two_back member.special (omega arith)) (two_back (now Special member a) (omega arith));
      };
    }

pub stats_law : StatsStand
stats_law member a block long fit is same = (
  stats_from member a block long fit is same,
  λ s. subst (PassesStats (member_block member)) (sym s.same)
      (stats_back member (record a { attack_penalties = s.halved; speed_penalties = s.quartered }) is),
)
