-- One lemma for each part that code writes: afterwards the parts represent the field with that part changed.
use Rattle.std.proofs.Common.{Bool, List, [], ap, arith, cond, false, length, map, nat_eq, replicate, sym, take, ℕ, ◌++◌, ◌-◌, ◌<◌, ◌≡◌, ◌≤◌, ◌∙◌, get_or, set, length-set, refl, subst, inl, inr, suc, zero, ◌+◌, ◌∷◌}
use Rattle.std.proofs.lemmas.Bool.Decides.{nat_tests}
use Rattle.std.proofs.lemmas.List.{get_or-map, get_or-take, get_or_append_left, length-map, map-set, set-append_left, get_or-set_same, get_or-set_other}
use Rattle.std.proofs.Math.Seq.{take-set-lt}
use Rattle.gen1_stats.specs.Members.{Member, nobody, nothing_known, IsBetween, IsKnown}
use Rattle.gen1_machine.specs.declared.side.Side.{Side}
use Rattle.gen1_machine.specs.declared.side.Side.TheVariants.{One, Two}
use Rattle.gen1_machine.specs.State.{active_in, member_at, member_in, party, Field, Party, changed_active, changed_conditions, changed_member, conditions_in, with_member as with_member_at, with_party, Active, Terms, known_in}
use Rattle.gen1_machine.specs.Layout.{active_block, active_block_of, header_block, member_block, member_blocks}
use Rattle.gen1_layout.specs.Parts.{active_of, member_of, Parts, with_active, with_member}
use Rattle.gen1_layout.specs.Shows.{IsStorable, IsStorableParty, state_in, Setting, Within, IsStorableActive, IsStorableConditions, blocks_of, Packs}
use Rattle.std.proofs.lemmas.List.Elements.{All-get_or, All-set}
use Rattle.std.specs.List.{refill}
use Rattle.gen1_machine.specs.Rules.{Rules}
use Rattle.gen1_machine.specs.Conditions.{ActiveConditions}
use Rattle.gen1_machine.specs.Valid.{IsMemberUnder, IsOutcome, IsMembersUnder}
use Rattle.std.proofs.lemmas.Bool.{cases_eq}
use Rattle.gen1_stats.specs.declared.member.KnownMove.{KnownMove}

-- The contents of each part when the parts represent a field, and what a replaced block represents.

-- Members

-- A place that holds a member has that member's block.
pub blocks_get : (ms : List Member) (k : ℕ) → length ms ≤ 6 → k < length ms → get_or (member_blocks ms) k [] ≡ member_block (get_or ms k nobody)
blocks_get ms k few within =
    let blocks = map member_block ms in
    let inside : k < length blocks = rw length-map within in
    get_or-take 6 (blocks ++ replicate 6 (replicate 24 0)) k [] (omega arith)
    ∙ get_or_append_left blocks (replicate 6 (replicate 24 0)) [] k inside ∙ get_or-map member_block ms k nobody [] within

-- Replacing a member's block replaces the member.
pub blocks_set : (ms : List Member) (k : ℕ) (m : Member) → length ms ≤ 6 → k < length ms → set (member_blocks ms) k (member_block m) ≡ member_blocks (set ms k m)
blocks_set ms k m few within =
    let blocks = map member_block ms in
    let rest : List (List ℕ) = replicate 6 (replicate 24 0) in
    let inside : k < length blocks = rw length-map within in
    sym (take-set-lt 6 (blocks ++ rest) k (member_block m) (omega arith))
    ∙ ap (λ (l : List (List ℕ)). take 6 l) (set-append_left blocks rest k (member_block m) inside
    ∙ ap (λ (l : List (List ℕ)). l ++ rest) (sym (map-set member_block ms k m)))

-- Sides

pub party_in : (g : Setting) (f : Field) (s : Side) → IsStorable g.terms f → IsStorableParty g.terms.rules (party s f)
party_in g f One v = v.one
party_in g f Two v = v.two

not_zero : (n : ℕ) → 1 ≤ n → nat_eq n 0 ≡ false
not_zero n h = grind (arith, nat_tests)

-- A member that is out has an active block.
pub block_out : (t : Party) → 1 ≤ t.active.place → active_block_of t ≡ active_block (member_at t.active.place t) t.active
block_out t h = ap (λ (b : Bool). cond b (replicate 36 0) (active_block (member_at t.active.place t) t.active)) (not_zero t.active.place h)

-- The contents of the parts

module _ {g : Setting} {p : Parts} {f : Field} (h : Within g p f) where
  pub header_holds : p.header ≡ header_block (state_in g f)
  header_holds = ap (λ (q : Parts). q.header) h.same

  side_active : (s : Side) → active_of s p ≡ active_block_of (party s f)
  side_active One = ap (λ (q : Parts). q.one.active) h.same
  side_active Two = ap (λ (q : Parts). q.two.active) h.same

  pub active_holds : (s : Side) → active_of s p ≡ active_block (member_in s f) (active_in s f)
  active_holds s = side_active s ∙ block_out (party s f) (party_in g f s h.storable).place.0

  pub side_member : (s : Side) (place : ℕ) → member_of s place p ≡ get_or (member_blocks (party s f).members) (place - 1) []
  side_member One place = ap (λ (q : Parts). get_or q.one.members (place - 1) []) h.same
  side_member Two place = ap (λ (q : Parts). get_or q.two.members (place - 1) []) h.same

  pub member_holds : (s : Side) (place : ℕ) → 1 ≤ place → place ≤ length (party s f).members
      → member_of s place p ≡ member_block (member_at place (party s f))
  member_holds s place low high =
      let v = party_in g f s h.storable in
      side_member s place ∙ blocks_get (party s f).members (place - 1) v.members.size.1 (omega arith)

  -- The contents of the member that is out.
  pub out_holds : (s : Side) (place : ℕ) → place ≡ (active_in s f).place → member_of s place p ≡ member_block (member_in s f)
  out_holds s place e =
      let v = party_in g f s h.storable in
      ap (λ (k : ℕ). member_of s k p) e ∙ member_holds s (active_in s f).place v.place.0 v.place.1

-- With a member out on both sides.
pub within_packed : {g : Setting} {p : Parts} {f : Field} → Packs g p f → IsStorable g.terms f → Within g p f
within_packed h storable = record { same = h.same; terms = h.terms; seed = h.seed; storable = storable }

pub packed_of : {g : Setting} {p : Parts} {f : Field} → Within g p f → Packs g p f
packed_of h = record {
  same = h.same;
  terms = h.terms;
  seed = h.seed;
  one = h.storable.one.members;
  two = h.storable.two.members;
  last_damage = h.storable.last_damage;
  turn = h.storable.turn;
  outcome = h.storable.outcome;
}

-- A write to the header

pub header_packed : {g : Setting} {p : Parts} {f : Field} (new : Field) (w : List ℕ) → Packs g p f
    → refill 24 p.header w ≡ header_block (state_in g new) → new.one ≡ f.one → new.two ≡ f.two
    → new.last_damage ≤ 65535 → new.turn ≤ g.terms.limit → IsOutcome new.outcome
    → Packs g (record p { header = refill 24 p.header w }) new
header_packed {g = g} {f = f} new w h e one two damage turn outcome = record {
  same = rw (e, h.same, sym one, sym two) refl;
  terms = h.terms;
  seed = h.seed;
  one = subst (λ (x : Party). IsMembersUnder g.terms.rules x.members) (sym one) h.one;
  two = subst (λ (x : Party). IsMembersUnder g.terms.rules x.members) (sym two) h.two;
  last_damage = damage;
  turn = turn;
  outcome = outcome;
}

-- The members that are out stay out.
pub still_within : {g g' : Setting} {p q : Parts} {f new : Field} → Within g p f → Packs g' q new → g'.terms ≡ g.terms
    → new.one ≡ f.one → new.two ≡ f.two → Within g' q new
still_within {g' = g'} {f = f} h k terms one two = within_packed k (record {
  one = subst (λ (x : Party). IsStorableParty g'.terms.rules x) (sym one) (subst (λ (t : Terms). IsStorableParty t.rules f.one) (sym terms) h.storable.one);
  two = subst (λ (x : Party). IsStorableParty g'.terms.rules x) (sym two) (subst (λ (t : Terms). IsStorableParty t.rules f.two) (sym terms) h.storable.two);
  last_damage = k.last_damage;
  turn = k.turn;
  outcome = k.outcome;
})

-- A write to an active block

with_party_storable : (g : Setting) (f : Field) (s : Side) (t : Party) → IsStorable g.terms f → IsStorableParty g.terms.rules t → IsStorable g.terms (with_party s t f)
with_party_storable g f One t v new = record { one = new; two = v.two; last_damage = v.last_damage; turn = v.turn; outcome = v.outcome }
with_party_storable g f Two t v new = record { one = v.one; two = new; last_damage = v.last_damage; turn = v.turn; outcome = v.outcome }

active_put : (g : Setting) (f : Field) (s : Side) (a : Active) → 1 ≤ a.place → a.place ≡ (active_in s f).place
    → with_active s (active_block (member_in s f) a) (blocks_of (state_in g f)) ≡ blocks_of (state_in g (with_party s (record (party s f) { active = a }) f))
active_put g f One a low e =
    let t : Party = record f.one { active = a } in
    ap (λ (block : List ℕ). with_active One block (blocks_of (state_in g f)))
    (ap (λ (k : ℕ). active_block (member_at k f.one) a) (sym e) ∙ sym (block_out t low))
active_put g f Two a low e =
    let t : Party = record f.two { active = a } in
    ap (λ (block : List ℕ). with_active Two block (blocks_of (state_in g f)))
    (ap (λ (k : ℕ). active_block (member_at k f.two) a) (sym e) ∙ sym (block_out t low))

pub active_step : {g : Setting} {p : Parts} {f : Field} (s : Side) (change : Active → Active) (w : List ℕ) → Within g p f
    → refill 36 (active_of s p) w ≡ active_block (member_in s f) (change (active_in s f))
    → (change (active_in s f)).place ≡ (active_in s f).place
    → IsStorableActive (length (member_in s f).moves) (change (active_in s f))
    → Within g (with_active s (refill 36 (active_of s p) w) p) (changed_active s change f)
unfolding changed_active
active_step {g = g} {p = p} {f = f} s change w h e place storable =
    let a = change (active_in s f) in
    let v = party_in g f s h.storable in
    let low : 1 ≤ a.place = subst (λ (k : ℕ). 1 ≤ k) (sym place) v.place.0 in
    record {
      same = ap (λ (block : List ℕ). with_active s block p) e
          ∙ ap (λ (q : Parts). with_active s (active_block (member_in s f) a) q) h.same ∙ active_put g f s a low place;
      terms = h.terms;
      seed = h.seed;
      storable = with_party_storable g f s (record (party s f) { active = a }) h.storable (record {
        members = v.members;
        place = subst (λ (k : ℕ). (1 ≤ k) × (k ≤ length (party s f).members)) (sym place) v.place;
        active = subst (λ (k : ℕ). IsStorableActive (length (member_at k (party s f)).moves) a) (sym place) storable;
      });
    }

pub conditions_step : {g : Setting} {p : Parts} {f : Field} (s : Side) (change : ActiveConditions → ActiveConditions) (w : List ℕ) → Within g p f
    → refill 36 (active_of s p) w ≡ active_block (member_in s f) (record (active_in s f) { conditions = change (conditions_in s f) })
    → IsStorableConditions (length (member_in s f).moves) (change (conditions_in s f))
    → Within g (with_active s (refill 36 (active_of s p) w) p) (changed_conditions s change f)
unfolding changed_conditions
conditions_step {g = g} {f = f} s change w h e storable =
    let v = (party_in g f s h.storable).active in
    active_step s (λ a. record a { conditions = change a.conditions }) w h e refl (record {
      stages = v.stages;
      current_move = v.current_move;
      picked_move = v.picked_move;
      kept_accuracy = v.kept_accuracy;
      conditions = storable;
    })

-- A write to the block of the member that is out

-- What a change of a member in battle leaves as it is.
pub record SameStats (m n : Member) : Type 0 where
  pub attack : m.attack ≡ n.attack
  pub defense : m.defense ≡ n.defense
  pub speed : m.speed ≡ n.speed
  pub special : m.special ≡ n.special

pub same_active : (m n : Member) (a : Active) → SameStats m n → active_block m a ≡ active_block n a
same_active m n a e = rw (e.attack, e.defense, e.speed, e.special) refl

member_put : (g : Setting) (f : Field) (s : Side) (m : Member) → IsStorable g.terms f → SameStats m (member_in s f)
    → with_member s (active_in s f).place (member_block m) (blocks_of (state_in g f))
    ≡ blocks_of (state_in g (with_party s (with_member_at (active_in s f).place m (party s f)) f))
member_put g f One m v e =
    let ms = f.one.members in let k = f.one.active.place - 1 in
    let inside : k < length ms = omega (arith, v.one.place.0, v.one.place.1) in
    let t : Party = with_member_at f.one.active.place m f.one in
    let blocks = blocks_set ms k m v.one.members.size.1 inside in
    let there : member_at f.one.active.place t ≡ m = get_or-set_same ms k m nobody inside in
    let active : active_block_of f.one ≡ active_block_of t =
    block_out f.one v.one.place.0 ∙ sym (same_active m (member_in One f) f.one.active e)
    ∙ ap (λ (n : Member). active_block n f.one.active) (sym there) ∙ sym (block_out t v.one.place.0) in
    rw (blocks, active) refl
member_put g f Two m v e =
    let ms = f.two.members in let k = f.two.active.place - 1 in
    let inside : k < length ms = omega (arith, v.two.place.0, v.two.place.1) in
    let t : Party = with_member_at f.two.active.place m f.two in
    let blocks = blocks_set ms k m v.two.members.size.1 inside in
    let there : member_at f.two.active.place t ≡ m = get_or-set_same ms k m nobody inside in
    let active : active_block_of f.two ≡ active_block_of t =
    block_out f.two v.two.place.0 ∙ sym (same_active m (member_in Two f) f.two.active e)
    ∙ ap (λ (n : Member). active_block n f.two.active) (sym there) ∙ sym (block_out t v.two.place.0) in
    rw (blocks, active) refl

member_storable : (rules : Rules) (t : Party) (m : Member) → IsStorableParty rules t → IsMemberUnder rules m
    → length m.moves ≡ length (member_at t.active.place t).moves → IsStorableParty rules (with_member_at t.active.place m t)
member_storable rules t m v ok count =
    let k = t.active.place - 1 in
    let inside : k < length t.members = omega (arith, v.place.0, v.place.1) in
    let long = length-set t.members k m in
    record {
      members = record {
        size = rw long v.members.size;
        each = All-set (IsMemberUnder rules) t.members k m ok v.members.each;
      };
      place = rw long v.place;
      active = rw (get_or-set_same t.members k m nobody inside, count) v.active;
    }

pub member_step : {g : Setting} {p : Parts} {f : Field} (s : Side) (place : ℕ) (change : Member → Member) (w : List ℕ) → Within g p f
    → place ≡ (active_in s f).place → refill 24 (member_of s place p) w ≡ member_block (change (member_in s f))
    → SameStats (change (member_in s f)) (member_in s f) → length (change (member_in s f)).moves ≡ length (member_in s f).moves
    → IsMemberUnder g.terms.rules (change (member_in s f))
    → Within g (with_member s place (refill 24 (member_of s place p) w) p) (changed_member s change f)
unfolding changed_member
member_step {g = g} {p = p} {f = f} s place change w h at e stats count ok =
    let m = change (member_in s f) in
    record {
      same = ap (λ (block : List ℕ). with_member s place block p) e ∙ ap (λ (k : ℕ). with_member s k (member_block m) p) at
          ∙ ap (λ (q : Parts). with_member s (active_in s f).place (member_block m) q) h.same ∙ member_put g f s m h.storable stats;
      terms = h.terms;
      seed = h.seed;
      storable = with_party_storable g f s (with_member_at (active_in s f).place m (party s f)) h.storable
          (member_storable g.terms.rules (party s f) m (party_in g f s h.storable) ok count);
    }

-- What is known about a member that is out.
pub member_ok : {g : Setting} {p : Parts} {f : Field} (s : Side) → Within g p f → IsMemberUnder g.terms.rules (member_in s f)
member_ok {g = g} {f = f} s h =
    let v = party_in g f s h.storable in
    All-get_or (IsMemberUnder g.terms.rules) (party s f).members ((active_in s f).place - 1) nobody (omega (arith, v.place.0, v.place.1)) v.members.each

-- Writes of a member, of an active block and of its conditions, for a change that is given by its result

pub member_written : {g : Setting} {p : Parts} {f : Field} (s : Side) (place : ℕ) (change : Member → Member) (new : Member) (w : List ℕ) → Within g p f
    → place ≡ (active_in s f).place → change (member_in s f) ≡ new → refill 24 (member_of s place p) w ≡ member_block new
    → SameStats new (member_in s f) → length new.moves ≡ length (member_in s f).moves → IsMemberUnder g.terms.rules new
    → Within g (with_member s place (refill 24 (member_of s place p) w) p) (changed_member s change f)
member_written {g = g} {f = f} s place change new w h at makes e stats count ok =
    let is = sym makes in
    member_step s place change w h at (e ∙ ap member_block is) (subst (λ (m : Member). SameStats m (member_in s f)) is stats)
    (ap (λ (m : Member). length m.moves) makes ∙ count) (subst (λ (m : Member). IsMemberUnder g.terms.rules m) is ok)

pub active_written : {g : Setting} {p : Parts} {f : Field} (s : Side) (change : Active → Active) (new : Active) (w : List ℕ) → Within g p f
    → change (active_in s f) ≡ new → refill 36 (active_of s p) w ≡ active_block (member_in s f) new
    → new.place ≡ (active_in s f).place → IsStorableActive (length (member_in s f).moves) new
    → Within g (with_active s (refill 36 (active_of s p) w) p) (changed_active s change f)
active_written {f = f} s change new w h makes e place ok =
    let is = sym makes in
    active_step s change w h (e ∙ ap (active_block (member_in s f)) is) (ap (λ (a : Active). a.place) makes ∙ place)
    (subst (IsStorableActive (length (member_in s f).moves)) is ok)

pub conditions_written : {g : Setting} {p : Parts} {f : Field} (s : Side) (change : ActiveConditions → ActiveConditions) (new : ActiveConditions) (w : List ℕ) → Within g p f
    → change (conditions_in s f) ≡ new
    → refill 36 (active_of s p) w ≡ active_block (member_in s f) (record (active_in s f) { conditions = new })
    → IsStorableConditions (length (member_in s f).moves) new
    → Within g (with_active s (refill 36 (active_of s p) w) p) (changed_conditions s change f)
conditions_written {f = f} s change new w h makes e ok =
    let is = sym makes in
    conditions_step s change w h (e ∙ ap (λ (c : ActiveConditions). active_block (member_in s f) (record (active_in s f) { conditions = c })) is)
    (subst (IsStorableConditions (length (member_in s f).moves)) is ok)

-- What is known about the conditions of a member that is out.
pub active_ok : {g : Setting} {p : Parts} {f : Field} (s : Side) → Within g p f → IsStorableActive (length (member_in s f).moves) (active_in s f)
active_ok {g = g} {f = f} s h = (party_in g f s h.storable).active

-- Another member is sent out

sent_put : (g : Setting) (f : Field) (s : Side) (a : Active) → 1 ≤ a.place
    → with_active s (active_block (member_at a.place (party s f)) a) (blocks_of (state_in g f)) ≡ blocks_of (state_in g (with_party s (record (party s f) { active = a }) f))
sent_put g f One a low = ap (λ (block : List ℕ). with_active One block (blocks_of (state_in g f))) (sym (block_out (record f.one { active = a }) low))
sent_put g f Two a low = ap (λ (block : List ℕ). with_active Two block (blocks_of (state_in g f))) (sym (block_out (record f.two { active = a }) low))

pub sent_written : {g : Setting} {p : Parts} {f : Field} (s : Side) (change : Active → Active) (new : Active) (w : List ℕ) → Within g p f
    → change (active_in s f) ≡ new → 1 ≤ new.place → new.place ≤ length (party s f).members
    → refill 36 (active_of s p) w ≡ active_block (member_at new.place (party s f)) new
    → IsStorableActive (length (member_at new.place (party s f)).moves) new
    → Within g (with_active s (refill 36 (active_of s p) w) p) (changed_active s change f)
unfolding changed_active
sent_written {g = g} {p = p} {f = f} s change new w h makes low high e ok =
    let v = party_in g f s h.storable in
    let P : Active → Type 0 = λ a. Within g (with_active s (refill 36 (active_of s p) w) p) (with_party s (record (party s f) { active = a }) f) in
    subst P (sym makes) (record {
      same = ap (λ (block : List ℕ). with_active s block p) e
          ∙ ap (λ (q : Parts). with_active s (active_block (member_at new.place (party s f)) new) q) h.same ∙ sent_put g f s new low;
      terms = h.terms;
      seed = h.seed;
      storable = with_party_storable g f s (record (party s f) { active = new }) h.storable (record { members = v.members; place = (low, high); active = ok });
    })

pub first_written : {g : Setting} {p : Parts} {f : Field} (s : Side) (change : Active → Active) (new : Active) (w : List ℕ) → Packs g p f
    → change (active_in s f) ≡ new → 1 ≤ new.place
    → refill 36 (active_of s p) w ≡ active_block (member_at new.place (party s f)) new
    → Packs g (with_active s (refill 36 (active_of s p) w) p) (changed_active s change f)
unfolding changed_active
first_written {g = g} {p = p} {f = f} s change new w h makes low e =
    let P : Active → Type 0 = λ a. Packs g (with_active s (refill 36 (active_of s p) w) p) (with_party s (record (party s f) { active = a }) f) in
    subst P (sym makes) (record {
      same = ap (λ (block : List ℕ). with_active s block p) e
          ∙ ap (λ (q : Parts). with_active s (active_block (member_at new.place (party s f)) new) q) h.same ∙ sent_put g f s new low;
      terms = h.terms;
      seed = h.seed;
      one = members_one s new;
      two = members_two s new;
      last_damage = damage s new;
      turn = turn s new;
      outcome = outcome s new;
    })
  where
    damage : (s : Side) (a : Active) → (with_party s (record (party s f) { active = a }) f).last_damage ≤ 65535
    damage One a = h.last_damage
    damage Two a = h.last_damage

    turn : (s : Side) (a : Active) → (with_party s (record (party s f) { active = a }) f).turn ≤ g.terms.limit
    turn One a = h.turn
    turn Two a = h.turn

    outcome : (s : Side) (a : Active) → IsOutcome (with_party s (record (party s f) { active = a }) f).outcome
    outcome One a = h.outcome
    outcome Two a = h.outcome

    members_one : (s : Side) (a : Active) → IsMembersUnder g.terms.rules (with_party s (record (party s f) { active = a }) f).one.members
    members_one One a = h.one
    members_one Two a = h.one

    members_two : (s : Side) (a : Active) → IsMembersUnder g.terms.rules (with_party s (record (party s f) { active = a }) f).two.members
    members_two One a = h.two
    members_two Two a = h.two

-- No write is needed if the conditions stay as they are

pub within_unchanged : {g : Setting} {p : Parts} {f : Field} → Within g p f → (s : Side) (change : ActiveConditions → ActiveConditions)
    → change (conditions_in s f) ≡ conditions_in s f → Within g p (changed_conditions s change f)
unfolding changed_active changed_conditions
within_unchanged {g = g} {p = p} {f = f} h One change e =
    subst (λ (c : ActiveConditions). Within g p (record f { one = record f.one { active = record f.one.active { conditions = c } } })) (sym e) h
within_unchanged {g = g} {p = p} {f = f} h Two change e =
    subst (λ (c : ActiveConditions). Within g p (record f { two = record f.two { active = record f.two.active { conditions = c } } })) (sym e) h

-- A member with other PP in a slot.

abbrev pub with_pp : ℕ → ℕ → Member → Member
with_pp slot pp m = record m { moves = set m.moves (slot - 1) (record (known_in slot m.moves) { pp = pp }) }

default_free : {A : Type 0} (xs : List A) (k : ℕ) (d e : A) → k < length xs → get_or xs k d ≡ get_or xs k e
default_free [] k d e h = absurd (omega arith)
default_free (x ∷ xs) zero d e h = refl
default_free (x ∷ xs) (suc k) d e h = default_free xs k d e (omega arith)

same_id : (ms : List KnownMove) (k pp : ℕ) → k < length ms → (i : ℕ) (d : KnownMove) → i < length ms
    → (get_or (set ms k (record (get_or ms k nothing_known) { pp = pp })) i d).id ≡ (get_or ms i d).id
same_id ms k pp inside i d within =
    let x : KnownMove = record (get_or ms k nothing_known) { pp = pp } in
    elim (cases_eq i k) [
      | inl same ↦ (rw (same, get_or-set_same ms k x d inside) (ap (λ (m : KnownMove). m.id) (default_free ms k nothing_known d inside)))
      | inr differ ↦ ap (λ (m : KnownMove). m.id) (get_or-set_other ms k i x d differ)
    ]

pub pp_ok : (rules : Rules) (slot pp : ℕ) (m : Member) → 1 ≤ slot → slot ≤ length m.moves → pp ≤ 63 → IsMemberUnder rules m → IsMemberUnder rules (with_pp slot pp m)
pp_ok rules slot pp m low high small ok =
    let k = slot - 1 in
    let inside : k < length m.moves = omega arith in
    let x : KnownMove = record (get_or m.moves k nothing_known) { pp = pp } in
    let long = length-set m.moves k x in
    let known = All-get_or IsKnown m.moves k nothing_known inside ok.numbers.known in
    let id = All-get_or (λ (a : KnownMove). IsBetween 1 165 a.id) m.moves k nothing_known inside ok.moves in
    let same = same_id m.moves k pp inside in
    record {
      numbers = record {
        level = ok.numbers.level;
        max = ok.numbers.max;
        hp = ok.numbers.hp;
        attack = ok.numbers.attack;
        defense = ok.numbers.defense;
        speed = ok.numbers.speed;
        special = ok.numbers.special;
        slots = rw long ok.numbers.slots;
        known = All-set IsKnown m.moves k x (record { in_engine = known.in_engine; not_struggle = known.not_struggle; pp = small }) ok.numbers.known;
        distinct = λ i j d lt within e.
            let low_end : i < length m.moves = omega (arith, long) in let high_end : j < length m.moves = omega (arith, long) in
            ok.numbers.distinct i j d lt high_end (sym (same i d low_end) ∙ e ∙ same j d high_end);
      };
      species = ok.species;
      moves = All-set (λ (a : KnownMove). IsBetween 1 165 a.id) m.moves k x id ok.moves;
      status = ok.status;
    }

-- Its bytes.
pub pp_block : (slot pp : ℕ) (m : Member) → 1 ≤ slot → slot ≤ 4 → slot ≤ length m.moves → set (member_block m) (slot + 18) pp ≡ member_block (with_pp slot pp m)
pp_block zero pp m low high inside = absurd (omega arith)
pp_block (suc zero) pp m low high inside =
    let x : KnownMove = record (get_or m.moves 0 nothing_known) { pp = pp } in let here : 0 < length m.moves = omega arith in
    rw (get_or-set_same m.moves 0 x nothing_known here, get_or-set_other m.moves 0 1 x nothing_known (λ e. absurd (omega (arith, e))), get_or-set_other m.moves 0 2 x nothing_known (λ e. absurd (omega (arith, e))), get_or-set_other m.moves 0 3 x nothing_known (λ e. absurd (omega (arith, e)))) refl
pp_block (suc (suc zero)) pp m low high inside =
    let x : KnownMove = record (get_or m.moves 1 nothing_known) { pp = pp } in let here : 1 < length m.moves = omega arith in
    rw (get_or-set_same m.moves 1 x nothing_known here, get_or-set_other m.moves 1 0 x nothing_known (λ e. absurd (omega (arith, e))), get_or-set_other m.moves 1 2 x nothing_known (λ e. absurd (omega (arith, e))), get_or-set_other m.moves 1 3 x nothing_known (λ e. absurd (omega (arith, e)))) refl
pp_block (suc (suc (suc zero))) pp m low high inside =
    let x : KnownMove = record (get_or m.moves 2 nothing_known) { pp = pp } in let here : 2 < length m.moves = omega arith in
    rw (get_or-set_same m.moves 2 x nothing_known here, get_or-set_other m.moves 2 0 x nothing_known (λ e. absurd (omega (arith, e))), get_or-set_other m.moves 2 1 x nothing_known (λ e. absurd (omega (arith, e))), get_or-set_other m.moves 2 3 x nothing_known (λ e. absurd (omega (arith, e)))) refl
pp_block (suc (suc (suc (suc zero)))) pp m low high inside =
    let x : KnownMove = record (get_or m.moves 3 nothing_known) { pp = pp } in let here : 3 < length m.moves = omega arith in
    rw (get_or-set_same m.moves 3 x nothing_known here, get_or-set_other m.moves 3 0 x nothing_known (λ e. absurd (omega (arith, e))), get_or-set_other m.moves 3 1 x nothing_known (λ e. absurd (omega (arith, e))), get_or-set_other m.moves 3 2 x nothing_known (λ e. absurd (omega (arith, e)))) refl
pp_block (suc (suc (suc (suc (suc k))))) pp m low high inside = absurd (omega arith)
