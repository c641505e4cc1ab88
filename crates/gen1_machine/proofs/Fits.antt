-- The bytes of a valid state are bytes: each number fits its place in the 384 (docs/LAYOUT.md).
use Rattle.std.proofs.Common.{All, Bool, List, None, Option, Some, [], arith, false, flat_map, get_or, if◌then◌else◌, inl, inr, length, map, replicate, suc, take, true, unwrap_or, zero, ℕ, ◌*◌, ◌++◌, ◌+◌, ◌-◌, ◌/◌, ◌<◌, ◌==◌, ◌∷◌, ◌≡◌, ◌≤◌, ◌⊎◌}
use Rattle.std.proofs.lemmas.List.Elements.{All-get_or}
use Rattle.gen1_tables.specs.declared.types.Element.{Element}
use Rattle.gen1_tables.specs.declared.types.Element.TheVariants as elements
use Rattle.gen1_tables.specs.Types.{number_of}
use Rattle.gen1_rolls.specs.Streams.{IsStream, Link}
use Rattle.gen1_rolls.proofs.First.{byte-small}
use Rattle.gen1_stats.specs.declared.member.KnownMove.{KnownMove}
use Rattle.gen1_stats.specs.declared.member.Status.{Status}
use Rattle.gen1_stats.specs.declared.member.Status.TheVariants.{Asleep, Burned, Frozen, Healthy, Paralysed, Poisoned}
use Rattle.gen1_stats.specs.Members.{is_marked, nobody, nothing_known, Member}
use Rattle.gen1_machine.specs.declared.side.DisabledSlot.{DisabledSlot}
use Rattle.gen1_machine.specs.declared.side.UsedMove.{UsedMove}
use Rattle.gen1_machine.specs.declared.side.UsedMove.TheVariants.{Nothing, Slot, Struggle}
use Rattle.gen1_machine.specs.declared.terms.Outcome.{Outcome}
use Rattle.gen1_machine.specs.declared.terms.Outcome.TheVariants as outcomes
use Rattle.gen1_machine.specs.declared.terms.Request.{Request}
use Rattle.gen1_machine.specs.declared.terms.Request.TheVariants as requests
use Rattle.gen1_machine.specs.Rules.{bit_of, bits_of_rules, Rules}
use Rattle.gen1_machine.specs.Conditions.{Storing}
use Rattle.gen1_machine.specs.State.{member_at, nobody_out, Active, Party, State}
use Rattle.gen1_machine.specs.Layout.{active_block, active_block_of, bytes_of, disabled_slot, disabled_turns, header_block, member_block, member_blocks, outcome_byte, party_bytes, request_byte, status_byte, turns_byte, used_byte}
use Rattle.gen1_machine.specs.Valid.{IsActive, IsCount, IsDisabled, IsMembersUnder, IsMemberUnder, IsOutcome, IsParty, IsStarted, IsStatus, IsStoring, IsUnstarted, IsUsedMove}
use Rattle.gen1_machine.specs.Laws.{StatesFit}

-- A list of bytes, part by part.
abbrev Bytes : List ℕ → Type 0
Bytes [] = Unit {0}
Bytes (b ∷ bs) = (b < 256) × Bytes bs

bytes-all : (bs : List ℕ) → Bytes bs → All (λ b. b < 256) bs
bytes-all [] h k d l = absurd (omega arith)
bytes-all (b ∷ bs) h zero d l = h.0
bytes-all (b ∷ bs) h (suc k) d l = bytes-all bs h.1 k d (omega arith)

bytes-append : (xs ys : List ℕ) → Bytes xs → Bytes ys → Bytes (xs ++ ys)
bytes-append [] ys h k = k
bytes-append (x ∷ xs) ys h k = (h.0, bytes-append xs ys h.1 k)

zeros : (n : ℕ) → Bytes (replicate n 0)
zeros zero = tt
zeros (suc n) = (omega arith, zeros n)

-- The header

bit-small : (b : Bool) → bit_of b ≤ 1
bit-small true = omega arith
bit-small false = omega arith

rules-small : (rules : Rules) → bits_of_rules rules < 256
rules-small rules = omega (arith, bit-small rules.sleep_clause, bit-small rules.freeze_clause)

outcome-small : (o : Outcome) → IsOutcome o → outcome_byte o < 256
outcome-small outcomes.Ongoing h = omega arith
outcome-small outcomes.WinOne h = omega arith
outcome-small outcomes.WinTwo h = omega arith
outcome-small outcomes.Tie h = omega arith
outcome-small (outcomes.Fault n) h = omega (arith, h.1)

request-small : (r : Request) → request_byte r < 256
request-small requests.Pass = omega arith
request-small requests.Move = omega arith
request-small requests.Switch = omega arith

header-bytes : (s : State) → IsStream (Link s.seed) → IsOutcome s.field.outcome → Bytes (header_block s)
header-bytes s seed o =
    let number = λ (j : ℕ). byte-small (Link s.seed) (9 * (s.drawn / 9) + j) seed in (
      omega arith,
      (
        omega arith,
        (
          omega arith,
          (
            omega arith,
            (
              omega arith,
              (
                omega arith,
                (
                  number 0,
                  (
                    number 1,
                    (
                      number 2,
                      (
                        number 3,
                        (
                          number 4,
                          (
                            number 5,
                            (
                              number 6,
                              (
                                number 7,
                                (
                                  number 8,
                                  (
                                    All-get_or (λ x. x < 256) s.seed 9 0 (omega (arith, seed.0)) seed.1,
                                    (
                                      outcome-small s.field.outcome o,
                                      (
                                        request-small s.field.request_one,
                                        (
                                          request-small s.field.request_two,
                                          (rules-small s.terms.rules, (omega arith, (omega arith, (omega arith, (omega arith, tt))))),
                                        ),
                                      ),
                                    ),
                                  ),
                                ),
                              ),
                            ),
                          ),
                        ),
                      ),
                    ),
                  ),
                ),
              ),
            ),
          ),
        ),
      ),
    )

-- A member

id-small : (moves : List KnownMove) (i : ℕ) → All (λ (k : KnownMove). (k.id < 256) × (k.pp < 256)) moves
    → ((get_or moves i nothing_known).id < 256) × ((get_or moves i nothing_known).pp < 256)
id-small [] i h = (omega arith, omega arith)
id-small (m ∷ moves) zero h = h 0 nothing_known (omega arith)
id-small (m ∷ moves) (suc i) h = id-small moves i (λ k d l. h (suc k) d (omega arith))

status-small : (rules : Rules) (status : Status) → IsStatus rules status → status_byte status < 256
status-small rules Healthy h = omega arith
status-small rules (Asleep turns marked) h = omega (arith, h.0)
status-small rules Poisoned h = omega arith
status-small rules Burned h = omega arith
status-small rules Frozen h = omega arith
status-small rules Paralysed h = omega arith

member-bytes : (rules : Rules) (m : Member) → IsMemberUnder rules m → Bytes (member_block m)
member-bytes rules m h =
    let moves : All (λ (k : KnownMove). (k.id < 256) × (k.pp < 256)) m.moves =
    λ k d l. (omega (arith, h.moves k d l), omega (arith, (h.numbers.known k d l).pp)) in
    let at = λ (i : ℕ). id-small m.moves i moves in (
      omega (arith, h.species),
      (
        omega (arith, h.numbers.level),
        (
          omega arith,
          (
            omega arith,
            (
              omega arith,
              (
                omega arith,
                (
                  omega arith,
                  (
                    omega arith,
                    (
                      omega arith,
                      (
                        omega arith,
                        (
                          omega arith,
                          (
                            omega arith,
                            (
                              omega arith,
                              (
                                omega arith,
                                (
                                  status-small rules m.status h.status,
                                  ((at 0).0, ((at 1).0, ((at 2).0, ((at 3).0, ((at 0).1, ((at 1).1, ((at 2).1, ((at 3).1, (omega (arith, bit-small (is_marked m.status)), tt))))))))),
                                ),
                              ),
                            ),
                          ),
                        ),
                      ),
                    ),
                  ),
                ),
              ),
            ),
          ),
        ),
      ),
    )

-- An active block

type-small : (t : Element) → number_of t < 256
type-small elements.Normal = omega arith
type-small elements.Fighting = omega arith
type-small elements.Flying = omega arith
type-small elements.Poison = omega arith
type-small elements.Ground = omega arith
type-small elements.Rock = omega arith
type-small elements.Bug = omega arith
type-small elements.Ghost = omega arith
type-small elements.Fire = omega arith
type-small elements.Water = omega arith
type-small elements.Grass = omega arith
type-small elements.Electric = omega arith
type-small elements.Psychic = omega arith
type-small elements.Ice = omega arith
type-small elements.Dragon = omega arith

count-small : (low high : ℕ) (o : Option ℕ) → high < 256 → IsCount low high o → unwrap_or o 0 < 256
count-small low high None l h = omega arith
count-small low high (Some n) l h = omega (arith, h.1)

disabled-small : (count : ℕ) (o : Option DisabledSlot) → count < 256 → IsDisabled count o → (disabled_slot o < 256) × (disabled_turns o < 256)
disabled-small count None l h = (omega arith, omega arith)
disabled-small count (Some d) l h = (omega (arith, h.0.1), omega (arith, h.1.1))

turns-small : (bide : Option Storing) (thrash trapping : Option ℕ) → IsStoring bide → IsCount 1 3 thrash → IsCount 0 4 trapping → turns_byte bide thrash trapping < 256
turns-small (Some b) thrash trapping h k l = omega (arith, h.0.1)
turns-small None (Some n) trapping h k l = omega (arith, k.1)
turns-small None None trapping h k l = count-small 0 4 trapping (omega arith) l

used-small : (count : ℕ) (used : UsedMove) → count < 256 → IsUsedMove count used → used_byte used < 256
used-small count Nothing l h = omega arith
used-small count (Slot k) l h = omega (arith, h.1)
used-small count Struggle l h = omega arith

active-bytes : (m : Member) (a : Active) (count : ℕ) → length m.moves ≤ 4 → a.place < 256 → IsActive m.moves a → Bytes (active_block m a)
active-bytes m a count few place h =
    let some : length m.moves < 256 = omega (arith, few) in
    let c = h.conditions in
    let disabled = disabled-small (length m.moves) a.conditions.disabled some c.disabled in (
      place,
      (
        type-small a.first_type,
        (
          type-small a.second_type,
          (
            omega (arith, h.stages.attack),
            (
              omega (arith, h.stages.defense),
              (
                omega (arith, h.stages.speed),
                (
                  omega (arith, h.stages.special),
                  (
                    omega (arith, h.stages.accuracy),
                    (
                      omega (arith, h.stages.evasion),
                      (
                        omega arith,
                        (
                          omega arith,
                          (
                            omega arith,
                            (
                              omega arith,
                              (
                                omega arith,
                                (
                                  omega arith,
                                  (
                                    omega arith,
                                    (
                                      omega arith,
                                      (
                                        omega arith,
                                        (
                                          omega arith,
                                          (
                                            omega arith,
                                            (
                                              omega arith,
                                              (
                                                count-small 0 249 a.conditions.substitute (omega arith) c.substitute,
                                                (
                                                  count-small 1 5 a.conditions.confused (omega arith) c.confused,
                                                  (
                                                    disabled.0,
                                                    (
                                                      disabled.1,
                                                      (
                                                        count-small 0 64 a.conditions.bad_poison (omega arith) c.bad_poison,
                                                        (
                                                          turns-small a.conditions.underway.bide a.conditions.underway.thrash a.conditions.underway.trapping c.underway.bide c.underway.thrash c.underway.trapping,
                                                          (
                                                            omega arith,
                                                            (
                                                              omega arith,
                                                              (
                                                                used-small (length m.moves) a.current_move some h.current_move,
                                                                (
                                                                  used-small (length m.moves) a.picked_move some h.picked_move,
                                                                  (omega (arith, h.kept_accuracy), (omega arith, (omega arith, (omega arith, (omega arith, tt))))),
                                                                ),
                                                              ),
                                                            ),
                                                          ),
                                                        ),
                                                      ),
                                                    ),
                                                  ),
                                                ),
                                              ),
                                            ),
                                          ),
                                        ),
                                      ),
                                    ),
                                  ),
                                ),
                              ),
                            ),
                          ),
                        ),
                      ),
                    ),
                  ),
                ),
              ),
            ),
          ),
        ),
      ),
    )

-- The parties

abbrev EachBytes : List (List ℕ) → Type 0
EachBytes [] = Unit {0}
EachBytes (b ∷ bs) = Bytes b × EachBytes bs

flat-bytes : (blocks : List (List ℕ)) → EachBytes blocks → Bytes (flat_map (λ (block : List ℕ). block) blocks)
flat-bytes [] h = tt
flat-bytes (b ∷ blocks) h = bytes-append b _ h.0 (flat-bytes blocks h.1)

taken : (n : ℕ) (blocks : List (List ℕ)) → EachBytes blocks → EachBytes (take n blocks)
taken zero blocks h = tt
taken (suc n) [] h = tt
taken (suc n) (b ∷ blocks) h = (h.0, taken n blocks h.1)

each-append : (xs ys : List (List ℕ)) → EachBytes xs → EachBytes ys → EachBytes (xs ++ ys)
each-append [] ys h k = k
each-append (x ∷ xs) ys h k = (h.0, each-append xs ys h.1 k)

each-zeros : (n : ℕ) → EachBytes (replicate n (replicate 24 0))
each-zeros zero = tt
each-zeros (suc n) = (zeros 24, each-zeros n)

each-member : (rules : Rules) (members : List Member) → All (IsMemberUnder rules) members → EachBytes (map member_block members)
each-member rules [] h = tt
each-member rules (m ∷ members) h = (member-bytes rules m (h 0 m (omega arith)), each-member rules members (λ k d l. h (suc k) d (omega arith)))

members-bytes : (rules : Rules) (members : List Member) → IsMembersUnder rules members → Bytes (flat_map (λ (block : List ℕ). block) (member_blocks members))
members-bytes rules members h = flat-bytes _ (taken 6 _ (each-append _ _ (each-member rules members h.each) (each-zeros 6)))

out-bytes : (rules : Rules) (t : Party) → IsParty rules t → Bytes (active_block_of t)
out-bytes rules t h = by (t.active.place == 0)
  where
    inside : IsMemberUnder rules (member_at t.active.place t)
    inside = h.members.each (t.active.place - 1) nobody (omega (arith, h.place))

    by : (b : Bool) → Bytes (if b then replicate 36 0 else active_block (member_at t.active.place t) t.active)
    by true = zeros 36
    by false = active-bytes (member_at t.active.place t) t.active 0 (omega (arith, inside.numbers.slots)) (omega (arith, h.place, h.members.size)) h.active

party-valid-bytes : (rules : Rules) (t : Party) → IsParty rules t → Bytes (party_bytes t)
party-valid-bytes rules t h = bytes-append _ _ (members-bytes rules t.members h.members) (out-bytes rules t h)

unstarted-bytes : (rules : Rules) (t : Party) → IsMembersUnder rules t.members → t.active ≡ nobody_out → Bytes (party_bytes t)
unstarted-bytes rules t h e = bytes-append _ _ (members-bytes rules t.members h) (rw e (zeros 36))

pub states_fit : StatesFit
unfolding bytes_of
states_fit s h = bytes-all (header_block s ++ party_bytes s.field.one ++ party_bytes s.field.two) (by h.field)
  where
    by : (IsUnstarted s.terms s.field ⊎ IsStarted s.terms s.field) → Bytes (header_block s ++ party_bytes s.field.one ++ party_bytes s.field.two)
    by (inl f) = bytes-append (header_block s) (party_bytes s.field.one ++ party_bytes s.field.two) (header-bytes s h.seed (rw f.outcome tt))
        (bytes-append (party_bytes s.field.one) (party_bytes s.field.two) (unstarted-bytes s.terms.rules s.field.one f.members_one f.nobody_one) (unstarted-bytes s.terms.rules s.field.two f.members_two f.nobody_two))
    by (inr f) = bytes-append (header_block s) (party_bytes s.field.one ++ party_bytes s.field.two) (header-bytes s h.seed f.field.outcome)
        (bytes-append (party_bytes s.field.one) (party_bytes s.field.two) (party-valid-bytes s.terms.rules s.field.one f.field.one) (party-valid-bytes s.terms.rules s.field.two f.field.two))
