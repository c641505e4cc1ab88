-- A member that comes out: the bytes, and the event.
use Rattle.gen1_layout.proofs.Words.{Active, Field, List, Member, None, Option, Parts, Progress, Setting, Shows, Side, Telling, [], ap, arith, changed_active, changed_conditions, given, lit≤, note, on_active, on_conditions, on_field, party, refl, subst, sym, then-goes, underway_in, ℕ}
use Rattle.std.proofs.Common.{false, max, not, ◌++◌, ◌/◌, ◌==◌, ◌∷◌, ◌≡◌, ◌≤◌, ◌∙◌}
use Rattle.std.specs.Int.RustNames.{bit_and}
use Rattle.gen1_layout.specs.Words.{Packs}
use Rattle.gen1_tables.specs.Species.{species_row}
use Rattle.gen1_tables.specs.declared.types.Element.{Element}
use Rattle.gen1_stats.specs.declared.member.Status.{Status}
use Rattle.gen1_stats.specs.declared.member.Status.TheVariants.{Asleep, Burned, Frozen, Healthy, Paralysed, Poisoned}
use Rattle.gen1_stats.specs.Members.{IsMember}
use Rattle.gen1_machine.specs.declared.side.Side.TheVariants.{One, Two}
use Rattle.gen1_machine.specs.Rules.{Rules}
use Rattle.gen1_machine.specs.Sides.{other}
use Rattle.gen1_machine.specs.Conditions.{without_trapping}
use Rattle.gen1_machine.specs.CurrentStats.{with_penalty_of}
use Rattle.gen1_machine.specs.Stages.{at_stage}
use Rattle.gen1_machine.specs.State.{member_at, nobody_out, State, Terms}
use Rattle.gen1_machine.specs.SwitchingIn.{send_out, sent_out, start, switch_event, with_sent_out}
use Rattle.gen1_machine.specs.Step.{opened}
use Rattle.gen1_machine.specs.Layout.{status_byte}
use Rattle.gen1_machine.specs.Valid.{IsMembersUnder, IsOutcome, IsStatus, IsUnstarted}
use Rattle.gen1_machine.specs.Plans.{InRange}
use Rattle.gen1_layout.specs.Shows.{own_stats_of, sent_as, stats_of, ShowsPacked, IsStorable, IsStorableParty}
use Rattle.gen1_layout.proofs.Counts.{none_above}
use Rattle.gen1_layout.proofs.Steps.{within_packed}
use Rattle.gen1_switching.specs.SwitchingIn.{coming_out, halvings_of, has_penalty, quarterings_of, stats_out, stats_sent_out, with_out, frame_of}

-- The machine's member that comes out is that of the code, by the penalty of its status.
pub sent_made : (place : ℕ) (m : Member)
    → sent_out place m ≡ sent_as place (species_row m.species).first_type (species_row m.species).second_type (halvings_of m.status) (quarterings_of m.status)
unfolding with_penalty_of
sent_made place m = by m.status
  where
    by : (status : Status) → with_penalty_of status (record nobody_out { place = place; first_type = (species_row m.species).first_type; second_type = (species_row m.species).second_type })
        ≡ sent_as place (species_row m.species).first_type (species_row m.species).second_type (halvings_of status) (quarterings_of status)
    by Healthy = refl
    by (Asleep turns marked) = refl
    by Poisoned = refl
    by Burned = refl
    by Frozen = refl
    by Paralysed = refl

-- A member that comes out has its own stats, apart from that penalty

at_level : (v : ℕ) → 5 ≤ v → v ≤ 999 → at_stage 6 v ≡ v
at_level v low high = omega arith

four : (a b c d a' b' c' d' : ℕ) → a ≡ a' → b ≡ b' → c ≡ c' → d ≡ d' → (a ∷ b ∷ c ∷ d ∷ []) ≡ (a' ∷ b' ∷ c' ∷ d' ∷ [])
four a b c d a' b' c' d' e f g h = rw (e, f, g, h) refl

pub stats_made : (place : ℕ) (first second : Element) (m : Member) → IsMember m
    → stats_out m.status m.attack m.defense m.speed m.special ≡ stats_of m (sent_as place first second (halvings_of m.status) (quarterings_of m.status))
stats_made place first second m ok = by m.status
  where
    attack : m.attack ≡ at_stage 6 m.attack
    attack = sym (at_level m.attack ok.attack.0 ok.attack.1)

    defense : m.defense ≡ at_stage 6 m.defense
    defense = sym (at_level m.defense ok.defense.0 ok.defense.1)

    speed : m.speed ≡ at_stage 6 m.speed
    speed = sym (at_level m.speed ok.speed.0 ok.speed.1)

    special : m.special ≡ at_stage 6 m.special
    special = sym (at_level m.special ok.special.0 ok.special.1)

    by : (status : Status) → stats_out status m.attack m.defense m.speed m.special ≡ stats_of m (sent_as place first second (halvings_of status) (quarterings_of status))
    by Healthy = four _ _ _ _ _ _ _ _ attack defense speed special
    by (Asleep turns marked) = four _ _ _ _ _ _ _ _ attack defense speed special
    by Poisoned = four _ _ _ _ _ _ _ _ attack defense speed special
    by Burned = four _ _ _ _ _ _ _ _ (ap (λ (v : ℕ). max 1 (v / 2)) attack) defense speed special
    by Frozen = four _ _ _ _ _ _ _ _ attack defense speed special
    by Paralysed = four _ _ _ _ _ _ _ _ attack defense (ap (λ (v : ℕ). max 1 (v / 4)) speed) special

-- A status that brings no penalty leaves the stats as they are.
pub own_stats_out : (m : Member) → has_penalty m.status ≡ false → own_stats_of m ≡ stats_sent_out m
own_stats_out m = by m.status
  where
    by : (status : Status) → has_penalty status ≡ false → own_stats_of m ≡ stats_out status m.attack m.defense m.speed m.special
    by Healthy none = refl
    by (Asleep turns marked) none = refl
    by Poisoned none = refl
    by Burned none = cc
    by Frozen none = refl
    by Paralysed none = cc

-- The bits of a mask find the two that do.
pub penalised : (rules : Rules) (status : Status) → IsStatus rules status → not (bit_and (status_byte status) 80 == 0) ≡ has_penalty status
penalised rules Healthy ok = refl
penalised rules (Asleep turns marked) ok = ap (λ (n : ℕ). not (n == 0)) (none_above turns 80 ok.0.1 refl)
penalised rules Poisoned ok = refl
penalised rules Burned ok = refl
penalised rules Frozen ok = refl
penalised rules Paralysed ok = refl

-- The phase as one record

abbrev pub out_and_free : Side → ℕ → Field → Field
out_and_free s place f = changed_conditions (other s) without_trapping (with_out s place f)

pub sends_as : (s : Side) (place : ℕ) (p : Progress) → p.stopped ≡ false
    → send_out s place p ≡ record p { field = out_and_free s place p.field; events = p.events ++ switch_event s place (out_and_free s place p.field) ∷ [] }
unfolding send_out given on_active on_conditions on_field note
sends_as s place p e = then-goes _ _ p e ∙ then-goes _ _ _ e

-- What the event reports is known before the member comes out

place_out : (place : ℕ) (m : Member) → (sent_out place m).place ≡ place
place_out place m = ap (λ (a : Active). a.place) (sent_made place m)

pub told_is : (s : Side) (place : ℕ) (f : Field) → switch_event s place (out_and_free s place f) ≡ coming_out s place (member_at place (party s f))
unfolding changed_active changed_conditions with_sent_out
told_is One place f = ap (λ (k : ℕ). coming_out One place (member_at k f.one)) (place_out place (member_at place f.one))
told_is Two place f = ap (λ (k : ℕ). coming_out Two place (member_at k f.two)) (place_out place (member_at place f.two))

-- A side that doesn't trap has no trapping to end

pub untrapped : (s : Side) (f : Field) → (underway_in s f).trapping ≡ None → f ≡ changed_conditions s without_trapping f
unfolding changed_active changed_conditions without_trapping
untrapped One f e =
    ap (λ (x : Option ℕ). record f { one = record f.one { active = record f.one.active { conditions = record f.one.active.conditions { underway = record f.one.active.conditions.underway { trapping = x } } } } }) e
untrapped Two f e =
    ap (λ (x : Option ℕ). record f { two = record f.two { active = record f.two.active { conditions = record f.two.active.conditions { underway = record f.two.active.conditions.underway { trapping = x } } } } }) e

pub foe_stays : (s : Side) (place : ℕ) (f : Field) → (underway_in (other s) f).trapping ≡ None → (underway_in (other s) (with_out s place f)).trapping ≡ None
unfolding changed_active
foe_stays One place f e = e
foe_stays Two place f e = e

pub packs_so : {g : Setting} {parts : Parts} {f f' : Field} → f ≡ f' → Packs g parts f → Packs g parts f'
packs_so {g = g} {parts = parts} e h = subst (λ (x : Field). Packs g parts x) e h

-- A member that just came out is storable, also after its trapping is ended

out_storable : (rules : Rules) (members : List Member) → IsMembersUnder rules members → (a : Active) (x y : Element) (halved quartered : ℕ) → a ≡ sent_as 1 x y halved quartered
    → IsStorableParty rules (record { members = members; active = a })
out_storable rules members h a x y halved quartered e = subst (λ (b : Active). IsStorableParty rules (record { members = members; active = b })) (sym e) (record {
  members = h;
  place = (lit≤ tt, h.size.0);
  active = record {
    stages = record { attack = lit≤ tt; defense = lit≤ tt; speed = lit≤ tt; special = lit≤ tt; accuracy = lit≤ tt; evasion = lit≤ tt };
    current_move = tt;
    picked_move = tt;
    kept_accuracy = lit≤ tt;
    conditions = record { underway = record { bide = tt; thrash = tt; trapping = tt; alone = lit≤ tt }; confused = tt; substitute = tt; bad_poison = tt; disabled = tt };
  };
})

freed : (place : ℕ) (m : Member) → let a = sent_out place m in record a { conditions = without_trapping a.conditions }
    ≡ sent_as place (species_row m.species).first_type (species_row m.species).second_type (halvings_of m.status) (quarterings_of m.status)
unfolding without_trapping
freed place m = ap (λ (a : Active). record a { conditions = without_trapping a.conditions }) (sent_made place m)

both_storable : (terms : Terms) (f : Field) → IsUnstarted terms f → IsStorable terms (out_and_free Two 1 (out_and_free One 1 f))
unfolding changed_active changed_conditions with_sent_out
both_storable terms f h = record {
  one = out_storable terms.rules f.one.members h.members_one _ _ _ _ _ (freed 1 (member_at 1 f.one));
  two = out_storable terms.rules f.two.members h.members_two _ _ _ _ _ (sent_made 1 (member_at 1 f.two));
  last_damage = h.last_damage;
  turn = omega (arith, h.turn);
  outcome = subst IsOutcome (sym h.outcome) tt;
}

-- The first member of side 1 is out, and none of side 2 yet

pub room_two : (s : State) → IsUnstarted s.terms s.field → InRange Two 1 (send_out One 1 (opened s)).field
unfolding changed_active changed_conditions
room_two s h = subst (λ (q : Progress). InRange Two 1 q.field) (sym (sends_as One 1 (opened s) refl)) (lit≤ tt, h.members_two.size.0)

pub free_one : (s : State) → (underway_in One (send_out One 1 (opened s)).field).trapping ≡ None
unfolding changed_active changed_conditions with_sent_out
free_one s = subst (λ (q : Progress). (underway_in One q.field).trapping ≡ None) (sym (sends_as One 1 (opened s) refl))
    (ap (λ (a : Active). a.conditions.underway.trapping) (sent_made 1 (member_at 1 s.field.one)))

-- Both first members are out.
pub both_begun : (s : State) {parts : Parts} {events : Telling} → IsUnstarted s.terms s.field
    → ShowsPacked (frame_of s) parts events (send_out Two 1 (send_out One 1 (opened s))) → Shows (frame_of s) parts events false (start (opened s))
unfolding start
both_begun s un h =
    let one = sends_as One 1 (opened s) refl in
    rw (then-goes (send_out One 1) (send_out Two 1) (opened s) (ap (λ (q : Progress). q.stopped) one)) (record {
      within = within_packed h.packs (subst (λ (q : Progress). IsStorable s.terms q.field) (sym (ap (send_out Two 1) one ∙ sends_as Two 1 _ refl)) (both_storable s.terms s.field un));
      written = h.written;
      ends = h.ends;
      stream = h.stream;
      drawn = h.drawn;
      skips = h.skips;
      action = h.action;
    })
