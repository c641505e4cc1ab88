-- A position that is played on from at once: each stream on which that is done has a battle for the update's stream, and what is listed is the share
-- of the tree of the update.
use Rattle.std.proofs.Common.{◌≡◌, ◌⊎◌, inl, inr, ℕ, ◌+◌, ◌<◌, ◌++◌, Bool, true, false, if◌then◌else◌, List, Option, None, Some, ap, arith, nat_lt, refl, subst, sym, ◌∙◌, ◌*◌}
use Rattle.std.proofs.lemmas.Bool.{false≢true}
use Rattle.gen1_rolls.specs.declared.rolls.ByteTest.TheVariants.{RotatedAtLeast}
use Rattle.gen1_rolls.specs.Streams.{IsStream, Stream, byte_at, first}
use Rattle.gen1_rolls.proofs.First.{first-exists}
use Rattle.gen1_layout.specs.Words.{move_at}
use Rattle.gen1_machine.specs.declared.side.Side.{Side}
use Rattle.gen1_machine.specs.Damage.{is_factor}
use Rattle.gen1_machine.specs.HitTest.{base_of, hit_or_miss, set_tested, settled_hit_in}
use Rattle.gen1_machine.specs.Laws.{drawing_from, IsShare, Tree, leads_to}
use Rattle.gen1_machine.specs.Moves.{Move}
use Rattle.gen1_machine.specs.Progress.{Progress, has_missed, on_action, on_conditions, on_field, set_last_damage, set_missed}
use Rattle.gen1_machine.specs.State.{State, Field}
use Rattle.gen1_turn.specs.declared.action.two_parts.Roll.{Roll}
use Rattle.gen1_outcomes.specs.declared.beginning.Left.{Left}
use Rattle.gen1_outcomes.specs.declared.log.Entry.{Entry}
use Rattle.gen1_outcomes.specs.Logs.{Agrees, place_at, place_past}
use Rattle.gen1_outcomes.specs.Middles.{IsAt, IsPlayedIn, PlaysHit, PlaysMiss, IsReached, PlaysOn}
use Rattle.gen1_outcomes.proofs.Exchange.{large-damage, limit_at, one_of, rolls, test-is, tested_by, exchanged_share, tested_first-tree, shares_by_tests}
use Rattle.gen1_outcomes.proofs.Shifts.{none_each, swapped, swapped-first, swapped-found, swapped-is, swapped_agrees, unasked_agrees, NoneMissed, agrees_first, agrees_then, dropped, dropped-is, follows_from}
use Rattle.gen1_outcomes.proofs.Stages.{at_on, bytes_test, rest_at, tree_tells}
use Rattle.gen1_layout.specs.Parts.{Parts, joined}
use Rattle.gen1_machine.specs.Ruling.{ruling_of}
use Rattle.gen1_machine.proofs.Shares.{shares_are_probabilities}
use Rattle.gen1_machine.proofs.TreeWalk.{ruling-tree}
use Rattle.gen1_machine.proofs.Trees.{HasTree}
use Rattle.gen1_outcomes.specs.declared.merging.Tally.{Tally}
use Rattle.gen1_outcomes.specs.declared.middles.Middle.{Middle}
use Rattle.gen1_outcomes.specs.declared.nodes.Chance.{Chance}
use Rattle.gen1_outcomes.specs.declared.nodes.Nodes.{Nodes}
use Rattle.gen1_outcomes.specs.declared.successor.OutcomeOptions.{OutcomeOptions}
use Rattle.gen1_outcomes.specs.declared.successor.Successor.{Successor}
use Rattle.gen1_outcomes.specs.Complete.{FollowsFrom, IsExact, Lists, ListsFrom, Offers}
use Rattle.gen1_outcomes.specs.Listing.{KeepsFirst, tested_first}
use Rattle.gen1_outcomes.specs.Plain.{Walk}
use Rattle.gen1_outcomes.specs.Nodes.{AllDone, script_of}
use Rattle.gen1_outcomes.specs.Weights.{Adds, AddsPart, AreEqual, Fraction, HasPart, HasRest, IsTreeFrom, are_of, of_chance, plus, share_of, times}
use Rattle.gen1_outcomes.proofs.Complete.{IsGoing, IsPast, extends_more, gone, lists_added, lists_as, none_missed, past_as, past_way}
use Rattle.gen1_outcomes.proofs.Fractions.{equal-refl, equal-trans, plus-equal, times-equal}
use Rattle.gen1_outcomes.proofs.Positions.{at_reached}
use Rattle.gen1_outcomes.proofs.Weights.{AddsPartOf, IsTreePlayed, part_as, part_positive, same_told, tells_of}
use Rattle.gen1_outcomes.specs.declared.beginning.Left.TheVariants as lefts

-- The stream on which a walk plays what an update does from the roll of a damage on, and what each way lists of it.

-- A hit test on a stream.
abbrev tested_on : Side → Move → Progress → Stream → Progress
tested_on side move p stream = hit_or_miss side move (drawing_from stream 0 p)

one-drawn : (side : Side) (hits : Bool) (q : Progress) → (one_of side hits q).drawn ≡ q.drawn
unfolding set_missed on_action on_conditions set_last_damage on_field
one-drawn side true q = refl
one-drawn side false q = refl

one-missed : (side : Side) (hits : Bool) (q r : Progress) → q.action.missed ≡ r.action.missed → has_missed (one_of side hits q) ≡ has_missed (one_of side hits r)
unfolding set_missed on_action on_conditions set_last_damage on_field
one-missed side true q r same = same
one-missed side false q r same = refl

-- It draws the first byte at most, so it is the same on each stream with this byte.
test-moved : (side : Side) (move : Move) (p : Progress) (u v : Stream) → p.stopped ≡ false → (0 < (tested_on side move p u).drawn → byte_at v 0 ≡ byte_at u 0)
    → ((tested_on side move p v).drawn ≡ (tested_on side move p u).drawn) × (has_missed (tested_on side move p v) ≡ has_missed (tested_on side move p u))
unfolding set_tested on_action
test-moved side move p u v goes same =
    let on_u = test-is side move (drawing_from u 0 p) goes in
    let on_v = test-is side move (drawing_from v 0 p) goes in
    let facts = by (settled_hit_in side move p.field) (λ some. same (subst (λ (q : Progress). 0 < q.drawn) (sym on_u) some)) in (
      ap (λ (q : Progress). q.drawn) on_v ∙ facts.0 ∙ sym (ap (λ (q : Progress). q.drawn) on_u),
      ap has_missed on_v ∙ facts.1 ∙ sym (ap has_missed on_u),
    )
  where
    base : ℕ
    base = base_of side move p

    limit : ℕ
    limit = limit_at side move p

    by : (o : Option Bool) → (0 < (tested_by side base o limit (drawing_from u 0 p)).drawn → byte_at v 0 ≡ byte_at u 0)
        → ((tested_by side base o limit (drawing_from v 0 p)).drawn ≡ (tested_by side base o limit (drawing_from u 0 p)).drawn)
        × (has_missed (tested_by side base o limit (drawing_from v 0 p)) ≡ has_missed (tested_by side base o limit (drawing_from u 0 p)))
    by (Some t) byte = (
      one-drawn side t (set_tested base (drawing_from v 0 p)) ∙ sym (one-drawn side t (set_tested base (drawing_from u 0 p))),
      one-missed side t (set_tested base (drawing_from v 0 p)) (set_tested base (drawing_from u 0 p)) refl,
    )
    by None byte =
        let t = nat_lt (byte_at u 0) limit in
        let here = drawing_from u 1 (set_tested limit (drawing_from u 0 p)) in
        let there = drawing_from v 1 (set_tested limit (drawing_from v 0 p)) in
        let one : (one_of side t here).drawn ≡ 1 = one-drawn side t here in
        let e = byte (omega (arith, one)) in
        let also : nat_lt (byte_at v 0) limit ≡ t = ap (λ (b : ℕ). nat_lt b limit) e in (
          one-drawn side (nat_lt (byte_at v 0) limit) there ∙ sym one,
          ap (λ (k : Bool). has_missed (one_of side k there)) also ∙ one-missed side t there here refl,
        )

-- Where the search for a factor ends.
abbrev pub rolled_at : Stream → ℕ
rolled_at u = place_past (first u 0 is_factor) 0

-- The stream of the hit test before the roll: after a hit the test's byte comes before those of the roll, and after a miss these are left out.
abbrev pub tested_stream : Side → Roll → Progress → Stream → Stream
tested_stream side roll p u =
    let q = tested_on side (move_at roll.id) p (dropped (rolled_at u) u) in
    if has_missed q then dropped (rolled_at u) u else swapped (rolled_at u) q.drawn u

pub tested_stream-is : (side : Side) (roll : Roll) (p : Progress) (u : Stream) → IsStream u → IsStream (tested_stream side roll p u)
tested_stream-is side roll p u is = by (has_missed q)
  where
    q : Progress
    q = tested_on side (move_at roll.id) p (dropped (rolled_at u) u)

    by : (b : Bool) → IsStream (if b then dropped (rolled_at u) u else swapped (rolled_at u) q.drawn u)
    by true = dropped-is (rolled_at u) u is
    by false = swapped-is (rolled_at u) q.drawn u is

-- A walk plays on this stream what an update leads to on another one.
abbrev pub IsPlayedOn : State → List ℕ → Option Left → Stream → Stream → Type 0
IsPlayedOn s bytes None u v = v ≡ u
IsPlayedOn s bytes (Some (lefts.Second rest)) u v = v ≡ u
IsPlayedOn s bytes (Some (lefts.Roll side roll)) u v = (p : Progress) × IsAt s bytes (lefts.Roll side roll) p × (v ≡ tested_stream side roll p u)

module _ (s : State) (bytes : List ℕ) (side : Side) (roll : Roll) (p : Progress) (at : IsAt s bytes (lefts.Roll side roll) p) (u : Stream) (is : IsStream u) where
  abbrev move : Move
  move = move_at roll.id

  -- The search for a factor finds one.
  found : (m : ℕ) × (first u 0 is_factor ≡ Some m)
  found = first-exists u is 0 is_factor 255 (omega arith) refl

  ends : rolled_at u ≡ found.0 + 1
  ends = ap (λ (o : Option ℕ). place_past o 0) found.1

  abbrev j : ℕ
  j = rolled_at u

  abbrev q : Progress
  q = tested_on side move p (dropped j u)

  -- A way whose log agrees with the stream of a hit is in an order that agrees with the update's stream.
  hit_agrees : (log order : List Entry) → NoneMissed log → PlaysHit s bytes side roll log order → Agrees log (swapped j q.drawn u)
      → Agrees order u
  unfolding set_last_damage on_field
  hit_agrees log order none plays agrees =
      let k = q.drawn in
      let v = swapped j k u in
      let going = at.ready.going in
      let all : Agrees (plays.tested ++ (plays.rolled ++ plays.rest)) v = subst (λ (l : List Entry). Agrees l v) plays.asked agrees in
      let each = none_each plays.tested (plays.rolled ++ plays.rest) (subst NoneMissed plays.asked none) in
      let later = none_each plays.rolled plays.rest each.1 in
      let moved = test-moved side move p (dropped j u) v going (λ some. swapped-first j k u 0 some) in
      let h = plays.hits v (agrees_first plays.tested (plays.rolled ++ plays.rest) v all) (drawing_from v 0 p) (at_on s bytes (lefts.Roll side roll) p v (swapped-is j k u is) at) refl refl in
      let first_ends : place_at plays.tested v 0 ≡ k = h.1 ∙ moved.0 in
      let w = dropped k v in
      let so : IsStream w = dropped-is k v (swapped-is j k u is) in
      let left : Agrees (plays.rolled ++ plays.rest) w =
      subst (λ (n : ℕ). Agrees (plays.rolled ++ plays.rest) (dropped n v)) first_ends (agrees_then plays.tested (plays.rolled ++ plays.rest) v all)
      in
      let r = plays.rolls w (agrees_first plays.rolled plays.rest w left) (drawing_from w 0 p) (at_on s bytes (lefts.Roll side roll) p w so at) refl refl in
      let there : first w 0 is_factor ≡ Some found.0 = swapped-found j k u is_factor found.0 is found.1 (omega (arith, ends)) in
      let second_ends : place_at plays.rolled w 0 ≡ j =
      r ∙ ap (λ (x : Progress). x.drawn) (rolls roll.damage (large-damage side roll p at.ready) p w 0 found.0 there) ∙ sym ends
      in
      subst (λ (l : List Entry). Agrees l u) (sym plays.is)
      (swapped_agrees plays.tested plays.rolled plays.rest j k u is each.0 later.0 later.1 all first_ends second_ends)

  -- So is one whose log agrees with the stream of a miss.
  miss_agrees : (log order : List Entry) → PlaysMiss s bytes side roll log order → Agrees log (dropped j u) → Agrees order u
  miss_agrees log order plays agrees =
      subst (λ (l : List Entry). Agrees l u) (sym plays.is)
      (unasked_agrees log (RotatedAtLeast 217) plays.byte found.0 u is found.1 (subst (λ (n : ℕ). Agrees log (dropped n u)) ends agrees))

  -- A way plays a hit on the stream of a hit, and a miss on that of a miss.
  roll_agrees : (log order : List Entry) → NoneMissed log → PlaysHit s bytes side roll log order ⊎ PlaysMiss s bytes side roll log order
      → Agrees log (tested_stream side roll p u) → Agrees order u
  roll_agrees log order none plays agrees = by (has_missed q) refl agrees
    where
      by : (b : Bool) → has_missed q ≡ b → Agrees log (if b then dropped j u else swapped j q.drawn u) → Agrees order u
      by true missed there =
          elim plays [
            | inl hit ↦
                let all = subst (λ (l : List Entry). Agrees l (dropped j u)) hit.asked there in
                let h = hit.hits (dropped j u) (agrees_first hit.tested (hit.rolled ++ hit.rest) (dropped j u) all) (drawing_from (dropped j u) 0 p)
                (at_on s bytes (lefts.Roll side roll) p (dropped j u) (dropped-is j u is) at) refl refl
                in
                absurd (false≢true (sym h.0 ∙ missed))
            | inr miss ↦ miss_agrees log order miss there
          ]
      by false hits there =
          elim plays [
            | inl hit ↦ hit_agrees log order none hit there
            | inr miss ↦
                let v = swapped j q.drawn u in
                let moved = test-moved side move p (dropped j u) v at.ready.going (λ some. swapped-first j q.drawn u 0 some) in
                let m = miss.misses v there (drawing_from v 0 p) (at_on s bytes (lefts.Roll side roll) p v (swapped-is j q.drawn u is) at) refl refl in
                absurd (false≢true (sym hits ∙ sym moved.1 ∙ m))
          ]

-- Where the log of a way agrees with the stream on which an update's stream is played, its order agrees with this.
pub order_agrees : (s : State) (bytes : List ℕ) (rest : Option Left) (log order : List Entry) (u v : Stream) → IsStream u → NoneMissed log
    → IsPlayedIn s bytes rest log order → IsPlayedOn s bytes rest u v → Agrees log v → Agrees order u
order_agrees s bytes None log order u v is none plays on agrees =
    subst (λ (l : List Entry). Agrees l u) (sym plays) (subst (λ (x : Stream). Agrees log x) on agrees)
order_agrees s bytes (Some (lefts.Second rest)) log order u v is none plays on agrees =
    subst (λ (l : List Entry). Agrees l u) (sym plays) (subst (λ (x : Stream). Agrees log x) on agrees)
order_agrees s bytes (Some (lefts.Roll side roll)) log order u v is none plays on agrees =
    roll_agrees s bytes side roll on.0 on.1 u is log order none plays (subst (λ (x : Stream). Agrees log x) on.2 agrees)

-- For each stream of the update that is played on a stream, a battle is listed.
abbrev pub ListsOn : Walk → Middle → ℕ → List Successor → State → Stream → Type 0
ListsOn w middle count xs s v =
    (u : Stream) → IsStream u → IsPlayedOn s middle.bytes middle.rest u v → Lists (FollowsFrom s w.one w.two middle.bytes middle.rest u) count xs

-- Of each stream that is played on, it is to come, or this is so.
abbrev pub IsGoingBy : Walk → Middle → Nodes → ℕ → List Successor → Type 0
IsGoingBy w middle nodes count xs = IsGoing (Offers w) (ListsOn w middle count xs) nodes

abbrev pub IsPastBy : Walk → Middle → Nodes → ℕ → List Successor → Type 0
IsPastBy w middle nodes count xs = IsPast (Offers w) (ListsOn w middle count xs) nodes

-- A way is played and added.
pub played_more : (w : Walk) (middle : Middle) (nodes after : Nodes) (parts : Parts) (c : Chance) (first old mid new : Tally) (xs ys : List Successor)
    → IsExact w.options → first.least ≡ 0 → old.least ≡ first.least → nodes.options ≡ w.options → after.too_large ≡ false
    → PlaysOn w middle nodes after parts → Adds parts c old mid xs ys → KeepsFirst old.count xs ys → new.count ≡ mid.count → IsGoingBy w middle nodes old.count xs
    → IsPastBy w middle after new.count ys
played_more w middle nodes after parts c first old mid new xs ys exact least stays options fits plays adds keeps same going =
    past_as (Offers w) (λ s v. Agrees plays.way.log v ⊎ ListsOn w middle old.count xs s v) (ListsOn w middle new.count ys) after
    (λ s of v so other u is on.
    elim other [
      | inl agrees ↦
          let none = none_missed plays.way.log nodes after plays.way.noted fits in
          let ordered = order_agrees s middle.bytes middle.rest plays.way.log plays.order u v is none (plays.drawn fits s of.stands of.offered) on agrees in
          lists_added (FollowsFrom s w.one w.two middle.bytes middle.rest u) parts c old mid new xs ys (stays ∙ least) adds same
          (follows_from s w.one w.two middle.bytes middle.rest plays.order parts (plays.leads fits s of.stands of.offered) u ordered)
      | inr listed ↦
          lists_as (FollowsFrom s w.one w.two middle.bytes middle.rest u) old.count new.count xs ys (extends_more parts c old mid new xs ys adds keeps same) (listed u is on)
    ])
    (past_way (Offers w) (ListsOn w middle old.count xs) (script_of plays.path) nodes after plays.way
    (subst (λ (o : OutcomeOptions). IsExact o) (sym options) exact) fits going)

-- After the last way each stream of the update has a battle: it is played on one.
played_of : (w : Walk) (middle : Middle) (s : State) → IsReached w middle → Offers w s → (u : Stream) → IsStream u
    → (v : Stream) × IsStream v × IsPlayedOn s middle.bytes middle.rest u v
played_of w middle s reached of u is = by middle.rest refl
  where
    by : (rest : Option Left) → middle.rest ≡ rest → (v : Stream) × IsStream v × IsPlayedOn s middle.bytes rest u v
    by None kept = (u, is, refl)
    by (Some (lefts.Second rest)) kept = (u, is, refl)
    by (Some (lefts.Roll side roll)) kept =
        let p = at_reached w middle (lefts.Roll side roll) reached kept s of in
        (tested_stream side roll p.0 u, tested_stream-is side roll p.0 u is, (p.0, p.1, refl))

pub listed_by : (w : Walk) (middle : Middle) (nodes : Nodes) (count : ℕ) (xs : List Successor) → AllDone nodes → IsReached w middle → IsPastBy w middle nodes count xs
    → (s : State) → Offers w s → ListsFrom w middle s count xs
listed_by w middle nodes count xs done reached past s of u is =
    let v = played_of w middle s reached of u is in
    gone (Offers w) (ListsOn w middle count xs) nodes done past s of v.0 v.1 u is v.2

-- The tree of what is played from a roll on.
module _ (s : State) (battle : Parts) (bytes : List ℕ) (side : Side) (roll : Roll) (h : HasRest s (are_of s battle) bytes (lefts.Roll side roll)) where
  abbrev has : HasTree (tested_first side roll (ruling_of s.terms))
  has = tested_first-tree side roll (ruling_of s.terms) (ruling-tree s.terms)

  abbrev played : Tree
  played = has.tree h.here

  played_tells : (w : Walk) → IsTreePlayed s w.one w.two bytes (Some (lefts.Roll side roll)) (are_of s battle) battle played
  played_tells w stream is parts plays =
      let q = tested_first side roll (ruling_of s.terms) (drawing_from stream 0 h.here) in
      let follows = plays (drawing_from stream 0 h.here) (at_on s bytes (lefts.Roll side roll) h.here stream is h.at) refl refl in
      tells_of s battle parts (are_of s battle) played stream q.field (bytes_test s battle) (ap (λ (p : Progress). p.field) (has.leads h.here stream 0))
      (ap joined (sym follows.within.same))

  -- Its share is that of the tree of the update.
  played_share : (whole share : ℕ) → IsShare played (are_of s battle) whole share → h.share * whole ≡ share * h.whole
  played_share whole share is =
      exchanged_share side roll s.terms h.here h.at.ready h.tree played (λ stream n. h.leads stream n) (λ stream n. has.leads h.here stream n) (are_of s battle)
      h.whole h.share whole share h.is is

-- The tree of a position says of each stream what any tree of what follows says.
rest_told : (w : Walk) (middle : Middle) (s : State) (battle : Parts) (passes : Field → Bool) (tree : Tree) (rest : Left) (count : ℕ) (xs : List Successor)
    → middle.rest ≡ Some rest → ListsFrom w middle s count xs → IsTreeFrom s w.one w.two middle.bytes middle.rest passes battle tree
    → (h : HasRest s (are_of s battle) middle.bytes rest) → (stream : Stream) → IsStream stream
    → are_of s battle (leads_to h.tree stream 0).field ≡ passes (leads_to tree stream 0).field
rest_told w middle s battle passes tree rest count xs kept lists is h stream so =
    let l = lists stream so in
    let there = is stream so l.battle l.is in
    let here =
    tree_tells w s battle (are_of s battle) middle.bytes rest (bytes_test s battle) h stream so l.battle
    (subst (λ (r : Option Left). FollowsFrom s w.one w.two middle.bytes r stream l.battle) kept l.is)
    in
    same_told (joined l.battle ≡ joined battle) (are_of s battle (leads_to h.tree stream 0).field) (passes (leads_to tree stream 0).field)
    here.passed here.of there.passed there.of

-- What is added by what is played is what the position adds.
pub adds_played : (w : Walk) (middle : Middle) (s : State) (first t : Tally) (ws xs : List Successor) → IsReached w middle → Offers w s → ListsFrom w middle s t.count xs
    → AddsPartOf IsTreePlayed w middle s first ws t xs → AddsPart w middle s first ws t xs
adds_played w middle s first t ws xs reached of lists adds battle passes tree is whole share some part x given = by middle.rest refl
  where
    c : Fraction
    c = of_chance middle.chance

    y : Fraction
    y = record { num = share; whole = whole }

    same : (rest : Option Left) → middle.rest ≡ rest → IsTreePlayed s w.one w.two middle.bytes rest passes battle tree → HasPart battle t xs (plus x (times c y))
    same rest kept plays =
        adds battle passes tree (subst (λ (r : Option Left). IsTreePlayed s w.one w.two middle.bytes r passes battle tree) (sym kept) plays) whole share some part x given

    tree_of : (rest : Option Left) → middle.rest ≡ rest → IsTreeFrom s w.one w.two middle.bytes rest passes battle tree
    tree_of rest kept = subst (λ (r : Option Left). IsTreeFrom s w.one w.two middle.bytes r passes battle tree) kept is

    rolled : (side : Side) (roll : Roll) → middle.rest ≡ Some (lefts.Roll side roll) → HasPart battle t xs (plus x (times c y))
    rolled side roll kept =
        let rest = lefts.Roll side roll in
        let test = are_of s battle in
        let p = at_reached w middle rest reached kept s of in
        let h = rest_at s test middle.bytes rest p.0 p.1 in
        let u = played s battle middle.bytes side roll h in
        let some_u = (shares_are_probabilities u).some in
        let z = some_u.1.1 test in
        let tells : IsTreePlayed s w.one w.two middle.bytes middle.rest test battle u =
        subst (λ (r : Option Left). IsTreePlayed s w.one w.two middle.bytes r test battle u) (sym kept) (played_tells s battle middle.bytes side roll h w)
        in
        let one : AreEqual (record { num = z.0; whole = some_u.0 }) (share_of h) =
        record { one = some_u.1.0; other = h.some; cross = sym (played_share s battle middle.bytes side roll h some_u.0 z.0 z.1) }
        in
        let other : AreEqual (share_of h) y =
        record {
          one = h.some;
          other = some;
          cross = shares_by_tests h.tree tree test passes h.whole h.share whole share (rest_told w middle s battle passes tree rest t.count xs kept lists is h) h.is part;
        }
        in
        part_as battle t xs (plus x (times c (record { num = z.0; whole = some_u.0 }))) (plus x (times c y))
        (plus-equal (equal-refl x (part_positive battle first ws x given)) (times-equal (equal-refl c middle.chance.positive) (equal-trans one other)))
        (adds battle test u tells some_u.0 z.0 some_u.1.0 z.1 x given)

    by : (rest : Option Left) → middle.rest ≡ rest → HasPart battle t xs (plus x (times c y))
    by None kept = same None kept (tree_of None kept)
    by (Some (lefts.Second rest)) kept = same (Some (lefts.Second rest)) kept (tree_of (Some (lefts.Second rest)) kept)
    by (Some (lefts.Roll side roll)) kept = rolled side roll kept
