-- What a side may choose follows from what it is shown, and what it is shown says nothing of what is hidden.
use Rattle.std.proofs.Common.{All, List, [], ap, arith, drop, false, inl, inr, is_some, length, map, refl, slice_index_or, subst, suc, true, zero, ℕ, ◌*◌, ◌+◌, ◌-◌, ◌==◌, ◌≡◌, ◌≤◌, ◌∷◌, ◌⊎◌, Bool, None, Option, Some, sym, ◌&&◌, ◌++◌, ◌∙◌, Err, Ok, replicate, take}
use Rattle.std.proofs.lemmas.Bool.Decides.{nat_tests}
use Rattle.gen1_stats.specs.Members.{Member, nobody, sleeps_or_freezes}
use Rattle.gen1_machine.specs.declared.side.Side.{Side}
use Rattle.gen1_machine.specs.declared.side.Side.TheVariants.{One, Two}
use Rattle.gen1_machine.specs.declared.terms.Outcome.{Outcome}
use Rattle.gen1_machine.specs.Conditions.{ActiveConditions, Storing}
use Rattle.gen1_machine.specs.Layout.{condition_bits, conditions_number, number_of_bits, disabled_slot}
use Rattle.gen1_machine.specs.Rules.{Rules, bit_of, bits_of_rules}
use Rattle.gen1_machine.specs.State.{Field, State, active_in, nobody_out, party, Active, Party, kind_of, member_at, member_in, not_sent_out, request_of}
use Rattle.gen1_machine.specs.Valid.{IsMembersUnder, IsOutcome, IsStarted, IsUnstarted}
use Rattle.gen1_layout.specs.Parts.{Parts}
use Rattle.gen1_layout.specs.Shows.{Packs, Setting, Stands, Within, setting_of}
use Rattle.gen1_layout.proofs.Storing.{within_of}
use Rattle.gen1_player.specs.OwnSide.{own_conditions, own_member, is_present, no_member, shown_bits, own_active, own_side, OwnSide, plain_side}
use Rattle.gen1_stats.specs.declared.member.KnownMove.{KnownMove}
use Rattle.gen1_stats.specs.declared.member.Status.{Status}
use Rattle.gen1_stats.specs.declared.member.Status.TheVariants.{Asleep, Burned, Frozen, Healthy, Paralysed, Poisoned}
use Rattle.gen1_machine.specs.declared.side.Choice.{Choice}
use Rattle.gen1_machine.specs.declared.event.Event.{Event}
use Rattle.gen1_machine.specs.declared.side.DisabledSlot.{DisabledSlot}
use Rattle.gen1_machine.specs.declared.terms.Request.{Request}
use Rattle.gen1_machine.specs.OfferedChoices.{bars_slot, offered, offered_for, others_living_from, usable_from}
use Rattle.gen1_machine.specs.Step.{events_of, step, run, run_by}
use Rattle.gen1_player.specs.Fair.{Fair, Given, HidesTheCounts, HidesTheFoe, Logging, OffersWhatIsShown, Played, begun, given, given_from, if_asleep, if_disabled, if_on, if_storing, offered_from, offered_in, offers, offers_for, own_team, sleeps_or_is_frozen, switches_from, uncounted, uncounted_active, uncounted_conditions, uncounted_member, uncounted_party, usable_slots_from, FairPlayer, all_logs, end_of, told_by}
use Rattle.std.proofs.lemmas.List.{take_at}
use Rattle.gen1_events.specs.declared.reader.LogFault.{LogFault}
use Rattle.gen1_events.specs.Reader.{Breaks, IsPart, part, Reading, Splits}
use Rattle.gen1_events.proofs.Readings.{one_split}
use Rattle.gen1_spectator.proofs.Following.{splits_more}
use Rattle.gen1_machine.specs.Numbers.{side_number}
use Rattle.gen1_player.specs.declared.own.OwnSide.{OwnSide as PlainOwnSide}
use Rattle.gen1_player.specs.declared.player.Player.{Player}
use Rattle.gen1_player.specs.declared.player.PlayerTerms.{PlayerTerms}
use Rattle.gen1_player.specs.declared.public.Public.{Public}
use Rattle.gen1_player.specs.Telling.{Applies, applied, IsApplied, form_number}
use Rattle.gen1_player.specs.Player.{first_known, IsFed, IsPlayer, not_shown, player_of, Shown}
use Rattle.gen1_player.specs.Public.{hears, hears_all}
use Rattle.gen1_machine.specs.declared.terms.Outcome.TheVariants as outcomes
use Rattle.gen1_machine.specs.declared.terms.Request.TheVariants as requests

-- What a side is shown of itself: its members by their places, how many there are, and the bits of its conditions.

-- a member is shown at its place
pub shown_at : (members : List Member) (n : ℕ)
    → slice_index_or (map own_member members) n no_member ≡ own_member (slice_index_or members n nobody)
shown_at [] n = refl
shown_at (m ∷ ms) zero = refl
shown_at (m ∷ ms) (suc n) = shown_at ms n

pub as_many : (members : List Member) → length (map own_member members) ≡ length members
as_many [] = refl
as_many (m ∷ ms) = ap suc (as_many ms)

pub not_zero : (n : ℕ) → (n ≡ 0 → ⊥) → (n == 0) ≡ false
not_zero n apart = grind (arith, nat_tests)

pub counts_one : (m : Member) → 1 ≤ m.species → is_present m ≡ 1
counts_one m some = rw (not_zero m.species (λ none. absurd (let e : 1 ≤ 0 = rw (← none) some in omega arith))) refl

-- the places with a member are as many as the members
pub counted : (members : List Member) → length members ≤ 6 → All (λ (m : Member). 1 ≤ m.species) members
    → is_present (slice_index_or members 0 nobody) + is_present (slice_index_or members 1 nobody) + is_present (slice_index_or members 2 nobody)
    + is_present (slice_index_or members 3 nobody) + is_present (slice_index_or members 4 nobody) + is_present (slice_index_or members 5 nobody)
    ≡ length members
counted [] few each = refl
counted (a ∷ []) few each = rw (counts_one a (each 0 a (omega arith))) refl
counted (a ∷ b ∷ []) few each = rw (counts_one a (each 0 a (omega arith)), counts_one b (each 1 b (omega arith))) refl
counted (a ∷ b ∷ c ∷ []) few each =
    rw (counts_one a (each 0 a (omega arith)), counts_one b (each 1 b (omega arith)), counts_one c (each 2 c (omega arith))) refl
counted (a ∷ b ∷ c ∷ d ∷ []) few each =
    rw (counts_one a (each 0 a (omega arith)), counts_one b (each 1 b (omega arith)), counts_one c (each 2 c (omega arith)), counts_one d (each 3 d (omega arith))) refl
counted (a ∷ b ∷ c ∷ d ∷ e ∷ []) few each =
    rw (
      counts_one a (each 0 a (omega arith)),
      counts_one b (each 1 b (omega arith)),
      counts_one c (each 2 c (omega arith)),
      counts_one d (each 3 d (omega arith)),
      counts_one e (each 4 e (omega arith)),
    ) refl
counted (a ∷ b ∷ c ∷ d ∷ e ∷ g ∷ []) few each =
    rw (
      counts_one a (each 0 a (omega arith)),
      counts_one b (each 1 b (omega arith)),
      counts_one c (each 2 c (omega arith)),
      counts_one d (each 3 d (omega arith)),
      counts_one e (each 4 e (omega arith)),
      counts_one g (each 5 g (omega arith)),
    ) refl
counted (a ∷ b ∷ c ∷ d ∷ e ∷ g ∷ h ∷ more) few each = absurd (omega arith)

-- members of a battle have a species, and they are at most six

pub members_under : {g : Setting} {p : Parts} {f : Field} (side : Side) → Packs g p f → IsMembersUnder g.terms.rules (party side f).members
members_under One h = h.one
members_under Two h = h.two

pub have_species : (rules : Rules) (members : List Member) → IsMembersUnder rules members → All (λ (m : Member). 1 ≤ m.species) members
have_species rules members h k d within = (h.each k d within).species.0

-- before the first update nobody is out, and after it both sides have a member out

pub nobody_before : {p : Parts} {s : State} (side : Side) → Stands p s → s.field.turn ≡ 0 → active_in side s.field ≡ nobody_out
nobody_before {s = s} side h start = by side h.valid.field
  where
    by : (side : Side) → IsUnstarted s.terms s.field ⊎ IsStarted s.terms s.field → active_in side s.field ≡ nobody_out
    by One (inl u) = u.nobody_one
    by Two (inl u) = u.nobody_two
    by side (inr v) = absurd (let e : 1 ≤ 0 = rw (← start) v.turn in omega arith)

pub within_out : {p : Parts} {s : State} → Stands p s → (s.field.turn ≡ 0 → ⊥) → Within (setting_of s) p s.field
within_out {p = p} {s = s} h out = by h.valid.field
  where
    by : IsUnstarted s.terms s.field ⊎ IsStarted s.terms s.field → Within (setting_of s) p s.field
    by (inl u) = absurd (out u.turn)
    by (inr v) = within_of p s h v.field

pub place_out : {p : Parts} {s : State} (side : Side) → Stands p s → (s.field.turn ≡ 0 → ⊥) → ((active_in side s.field).place == 0) ≡ false
place_out {s = s} side h out = by side h.valid.field
  where
    by : (side : Side) → IsUnstarted s.terms s.field ⊎ IsStarted s.terms s.field → ((active_in side s.field).place == 0) ≡ false
    by side (inl u) = absurd (out u.turn)
    by One (inr v) = let low = v.field.one.place.0 in grind (arith, nat_tests)
    by Two (inr v) = let low = v.field.two.place.0 in grind (arith, nat_tests)

-- the conditions without Flinch, whose bit counts 8

less_8 : (a b c rest : ℕ) → a + 2 * (b + 2 * (c + 2 * (1 + 2 * rest))) - 8 ≡ a + 2 * (b + 2 * (c + 2 * (0 + 2 * rest)))
less_8 a b c rest = omega arith

pub flinch_hidden : (c : ActiveConditions) → c.flinch ≡ true → conditions_number c - 8 ≡ number_of_bits (shown_bits (own_conditions c))
flinch_hidden c on =
    rw on (less_8 (bit_of (is_some c.underway.bide)) (bit_of (is_some c.underway.thrash)) (bit_of (is_some c.underway.trapping)) (number_of_bits (drop 4 (condition_bits c))))

pub no_flinch : (c : ActiveConditions) → c.flinch ≡ false → conditions_number c ≡ number_of_bits (shown_bits (own_conditions c))
no_flinch c off = rw off refl

-- the outcome of a battle has a byte

pub fault_fits : (o : Outcome) → IsOutcome o → (code : ℕ) → o ≡ outcomes.Fault code → code ≤ 2
fault_fits outcomes.Ongoing fits code is = absurd (let e = is in cc)
fault_fits outcomes.WinOne fits code is = absurd (let e = is in cc)
fault_fits outcomes.WinTwo fits code is = absurd (let e = is in cc)
fault_fits outcomes.Tie fits code is = absurd (let e = is in cc)
fault_fits (outcomes.Fault n) fits code is = let same : n ≡ code = cc in subst (λ (k : ℕ). k ≤ 2) same fits.1

-- the offered choices

bars : (d : Option DisabledSlot) (k : ℕ) → (is_some d && disabled_slot d == k) ≡ bars_slot d k
bars None k = refl
bars (Some d) k = refl

slots_shown : (k : ℕ) (m : Member) (a : Active) (moves : List KnownMove)
    → usable_slots_from k (own_active m a) moves ≡ usable_from k a.conditions.disabled moves
slots_shown k m a [] = refl
slots_shown k m a (x ∷ xs) = rw (bars a.conditions.disabled k, slots_shown (k + 1) m a xs) refl

switches_same : (place out : ℕ) (members : List Member) → switches_from place out (map own_member members) ≡ others_living_from place out members
switches_same place out [] = refl
switches_same place out (m ∷ ms) = rw (switches_same (place + 1) out ms) refl

sleeps_same : (status : Status) → sleeps_or_is_frozen (kind_of status) ≡ sleeps_or_freezes status
sleeps_same Healthy = refl
sleeps_same (Asleep turns marked) = refl
sleeps_same Poisoned = refl
sleeps_same Burned = refl
sleeps_same Frozen = refl
sleeps_same Paralysed = refl

offers_by : (r : Request) (s : Side) (f : Field) → offered_for r s f ≡ offers_for r (own_side s f)
offers_by requests.Pass s f = refl
offers_by requests.Switch s f = sym (switches_same 1 (active_in s f).place (party s f).members)
offers_by requests.Move s f =
    rw (
      shown_at (party s f).members ((active_in s f).place - 1),
      sleeps_same (member_in s f).status,
      slots_shown 1 (member_in s f) (active_in s f) (member_in s f).moves,
      switches_same 1 (active_in s f).place (party s f).members,
    ) refl

pub offers_what_is_shown : OffersWhatIsShown
unfolding offered
offers_what_is_shown s f = rw (offers_by (request_of s f) s f) refl

-- the foe

pub hides_the_foe : HidesTheFoe
hides_the_foe One f t same = ap (λ (b : Bool). record (own_side One f) { held = b }) same
hides_the_foe Two f t same = ap (λ (b : Bool). record (own_side Two f) { held = b }) same

-- the counts

on_same : (n : Option ℕ) → is_some (if_on n) ≡ is_some n
on_same None = refl
on_same (Some n) = refl

storing_same : (b : Option Storing) → is_some (if_storing b) ≡ is_some b
storing_same None = refl
storing_same (Some b) = refl

disabled_same : (d : Option DisabledSlot) → is_some (if_disabled d) ≡ is_some d
disabled_same None = refl
disabled_same (Some d) = refl

slot_same : (d : Option DisabledSlot) → disabled_slot (if_disabled d) ≡ disabled_slot d
slot_same None = refl
slot_same (Some d) = refl

kind_same : (status : Status) → kind_of (if_asleep status) ≡ kind_of status
kind_same Healthy = refl
kind_same (Asleep turns marked) = refl
kind_same Poisoned = refl
kind_same Burned = refl
kind_same Frozen = refl
kind_same Paralysed = refl

member_same : (m : Member) → own_member (uncounted_member m) ≡ own_member m
member_same m = rw (kind_same m.status) refl

members_same : (members : List Member) → map own_member (map uncounted_member members) ≡ map own_member members
members_same [] = refl
members_same (m ∷ ms) = rw (member_same m, members_same ms) refl

uncounted_at : (members : List Member) (n : ℕ) → slice_index_or (map uncounted_member members) n nobody ≡ uncounted_member (slice_index_or members n nobody)
uncounted_at [] n = refl
uncounted_at (m ∷ ms) zero = refl
uncounted_at (m ∷ ms) (suc n) = uncounted_at ms n

conditions_same : (c : ActiveConditions) → own_conditions (uncounted_conditions c) ≡ own_conditions c
conditions_same c =
    rw (
      storing_same c.underway.bide,
      on_same c.underway.thrash,
      on_same c.underway.trapping,
      on_same c.confused,
      on_same c.substitute,
      on_same c.bad_poison,
      disabled_same c.disabled,
    ) refl

active_same : (m : Member) (a : Active) → own_active (uncounted_member m) (uncounted_active a) ≡ own_active m a
active_same m a = rw (conditions_same a.conditions, slot_same a.conditions.disabled) refl

out_same : (t : Party) → own_active (member_at t.active.place (uncounted_party t)) (uncounted_active t.active) ≡ own_active (member_at t.active.place t) t.active
out_same t = rw (uncounted_at t.members (t.active.place - 1)) (active_same (member_at t.active.place t) t.active)

uncounted_same : (s : Side) (f : Field) → own_side s (uncounted s f) ≡ own_side s f
uncounted_same One f = rw (members_same f.one.members, out_same f.one) refl
uncounted_same Two f = rw (members_same f.two.members, out_same f.two) refl

pub hides_the_counts : HidesTheCounts
hides_the_counts s f g same = sym (uncounted_same s f) ∙ ap (own_side s) same ∙ uncounted_same s g

-- a player

offers_after : (log_of : Logging) (s : Side) (before : List Event) (b : State) (pairs : List (Choice × Choice))
    → offered_from s b pairs ≡ map (λ (g : Given). offers g.own) (given_from log_of s before b pairs)
offers_after log_of s before b [] = refl
offers_after log_of s before b (pair ∷ pairs) =
    let after = step b pair.0 pair.1 in
    rw (offers_what_is_shown s after.state.field, offers_after log_of s (before ++ events_of after.answer) after.state pairs) refl

offered_same : (log_of : Logging) (s : Side) (a b : Played) → given log_of s a ≡ given log_of s b → offered_in s a ≡ offered_in s b
offered_same log_of s a b same =
    offers_after log_of s [] (begun a) a.pairs ∙ ap (λ (l : List Given). map (λ (g : Given). offers g.own) l) same
    ∙ sym (offers_after log_of s [] (begun b) b.pairs)

pub begins_same : (s : Side) (a b : Played) → own_team s a ≡ own_team s b → own_side s (begun a).field ≡ own_side s (begun b).field
begins_same One a b team = ap (λ (l : List Member). own_side One (record (begun a).field { one = not_sent_out l })) team
begins_same Two a b team = ap (λ (l : List Member). own_side Two (record (begun a).field { two = not_sent_out l })) team

pub fair : Fair
fair player log_of s a b team same =
    let offers : offered_in s a ≡ offered_in s b = offered_same log_of s a b same in
    record { begins = begins_same s a b team; offers = offers; computes = rw (team, same, offers) refl }

-- A player that was fed log bytes, piece by piece, and the players of two battles that give a side the same.

hears_more : (es fs : List Event) (p : Public) → hears_all (es ++ fs) p ≡ applied hears fs (hears_all es p)
unfolding hears_all applied
hears_more [] [] p = refl
hears_more [] (f ∷ fs) p = hears_more [] fs (hears f p)
hears_more (e ∷ es) fs p = hears_more es fs (hears e p)

-- the bytes that a player holds are those after the last event
pub held_is : {side : Side} {team : List Member} {terms : PlayerTerms} {told : List ℕ} {shown : Shown} {p : Player}
    → (h : IsPlayer side team terms told shown p) → take p.held_count p.held ≡ h.held
held_is h =
    ap (λ (x : Player). take x.held_count x.held) h.is ∙ take_at h.held (replicate (10 - length h.held) 0) (length h.held) refl

pub held_part : {side : Side} {team : List Member} {terms : PlayerTerms} {told : List ℕ} {shown : Shown} {p : Player}
    → IsPlayer side team terms told shown p → IsPart (take p.held_count p.held)
held_part h = subst IsPart (sym (held_is h)) h.part

part_is : {a b : List ℕ} → part a ≡ part b → a ≡ b
part_is h = cc

pub fed : {side : Side} {team : List Member} {terms : PlayerTerms} {told : List ℕ} {shown : Shown} (p q : Player) (bytes held : List ℕ) (new : Public)
    → IsPlayer side team terms told shown p → Applies hears (part (take p.held_count p.held)) bytes p.public (Ok tt) (part held) new
    → q ≡ record p { public = new; held_count = length held; held = held ++ replicate (10 - length held) 0 }
    → IsPlayer side team terms (told ++ bytes) shown q
fed {side} {team} {terms} {told} {shown} p q bytes held new h a is =
    let more : IsApplied hears (h.held ++ bytes) p.public (Ok tt) (part held) new =
    subst (λ (l : List ℕ). IsApplied hears (l ++ bytes) p.public (Ok tt) (part held) new) (held_is h) a in
    let left : held ≡ more.rest = part_is more.leaves.0 in
    let public : new ≡ hears_all (h.events ++ more.events) (first_known side team) =
    more.became ∙ ap (λ (x : Player). applied hears more.events x.public) h.is ∙ sym (hears_more h.events more.events (first_known side team)) in
    record {
      events = h.events ++ more.events;
      held = more.rest;
      splits = splits_more told bytes h.held more.rest h.events more.events h.splits more.splits;
      part = more.leaves.1;
      is =
          is ∙ ap (λ (x : Player). record x { public = new; held_count = length held; held = held ++ replicate (10 - length held) 0 }) h.is
          ∙ ap (λ (x : Public). record (player_of side team terms h.events h.held shown) { public = x; held_count = length held; held = held ++ replicate (10 - length held) 0 }) public
          ∙ ap (λ (l : List ℕ). player_of side team terms (h.events ++ more.events) l shown) left;
    }

-- what a feed leaves
pub fed_left : (p q : Player) (held : List ℕ) (new : Public) → q.held_count ≤ 10
    → q ≡ record p { public = new; held_count = length held; held = held ++ replicate (10 - length held) 0 } → IsFed p q
fed_left p q held new few is =
    subst (IsFed p) (sym is) (record {
      few = subst (λ (x : Player). x.held_count ≤ 10) is few;
      zeros = ap (λ (l : List ℕ). l ++ replicate (10 - length held) 0) (sym (take_at held (replicate (10 - length held) 0) (length held) refl));
      others = refl;
    })

pub broken : {side : Side} {team : List Member} {terms : PlayerTerms} {told : List ℕ} {shown : Shown} (p : Player) (bytes : List ℕ) (fault : LogFault) (last : Reading) (new : Public)
    → IsPlayer side team terms told shown p → Applies hears (part (take p.held_count p.held)) bytes p.public (Err fault) last new
    → (events : List Event) × (rest : List ℕ) × Splits (told ++ bytes) events rest × Breaks fault rest
broken {told = told} p bytes fault last new h a =
    let more : IsApplied hears (h.held ++ bytes) p.public (Err fault) last new =
    subst (λ (l : List ℕ). IsApplied hears (l ++ bytes) p.public (Err fault) last new) (held_is h) a in
    (h.events ++ more.events, more.rest, splits_more told bytes h.held more.rest h.events more.events h.splits more.splits, more.leaves.1)

-- A player is a function of what it was given.
pub one_player : (side : Side) (team : List Member) (terms : PlayerTerms) (told : List ℕ) (shown : Shown) (a b : Player)
    → IsPlayer side team terms told shown a → IsPlayer side team terms told shown b → a ≡ b
one_player side team terms told shown a b h k =
    let same = one_split told h.events k.events h.held k.held h.splits k.splits in
    h.is ∙ ap (λ (es : List Event). player_of side team terms es h.held shown) same.0
    ∙ ap (λ (l : List ℕ). player_of side team terms k.events l shown) same.1 ∙ sym k.is

pub new_player : (side : Side) (team : List Member) (terms : PlayerTerms) (limit number rules form : ℕ) (public : Public) (own : PlainOwnSide) → public ≡ first_known side team → own ≡ not_shown
    → limit ≡ terms.limit → number ≡ side_number side → rules ≡ bits_of_rules terms.rules → form ≡ form_number terms.hp_form
    → record { public = public; own = own; offered = 0; limit = limit; side = number; foes = terms.foes; rules = rules; hp_form = form; held_count = 0; held = replicate 10 0; unused = 0 }
    ≡ player_of side team terms [] [] (record { own = not_shown; offered = 0 })
unfolding hears_all
new_player side team terms limit number rules form public own a b l n r f = rw (a, b, l, n, r, f) refl

-- Two battles

-- what was shown last, or this if nothing was
abbrev last_own : OwnSide → List Given → OwnSide
last_own o [] = o
last_own o (g ∷ gs) = last_own g.own gs

-- a side is shown last what the battle is in the end
ends_shown : (log_of : Logging) (s : Side) (before : List Event) (b : State) (pairs : List (Choice × Choice))
    → own_side s (run b pairs).state.field ≡ last_own (own_side s b.field) (given_from log_of s before b pairs)
unfolding run_by
ends_shown log_of s before b [] = refl
ends_shown log_of s before b (pair ∷ pairs) =
    let after = step b pair.0 pair.1 in ends_shown log_of s (before ++ events_of after.answer) after.state pairs

ends_same : (log_of : Logging) (s : Side) (a b : Played) → own_team s a ≡ own_team s b → given log_of s a ≡ given log_of s b
    → own_side s (end_of a) ≡ own_side s (end_of b)
ends_same log_of s a b team same =
    ends_shown log_of s [] (begun a) a.pairs ∙ ap (λ (o : OwnSide). last_own o (given log_of s a)) (begins_same s a b team)
    ∙ ap (λ (l : List Given). last_own (own_side s (begun b).field) l) same ∙ sym (ends_shown log_of s [] (begun b) b.pairs)

pub fair_player : FairPlayer
fair_player set_of first s terms a b p q team same of_a of_b =
    let own : own_side s (end_of a) ≡ own_side s (end_of b) = ends_same (told_by first) s a b team same in
    let choices : offered s (end_of a) ≡ offered s (end_of b) =
    offers_what_is_shown s (end_of a) ∙ ap offers own ∙ sym (offers_what_is_shown s (end_of b)) in
    let logs : List ℕ = all_logs (given (told_by first) s a) in
    let shown : Shown = record { own = plain_side (own_side s (end_of a)); offered = set_of (offered s (end_of a)) } in
    let with_team = subst (λ (t : List Member). IsPlayer s t terms logs shown p) team of_a in
    let with_logs = subst (λ (l : List ℕ). IsPlayer s (own_team s b) terms l shown p) (ap all_logs same) with_team in
    let with_own = subst (λ (o : OwnSide). IsPlayer s (own_team s b) terms (all_logs (given (told_by first) s b)) (record shown { own = plain_side o }) p) own with_logs in
    let with_all = subst (λ (l : List Choice). IsPlayer s (own_team s b) terms (all_logs (given (told_by first) s b))
    (record { own = plain_side (own_side s (end_of b)); offered = set_of l }) p) choices with_own in
    one_player s (own_team s b) terms (all_logs (given (told_by first) s b))
    (record { own = plain_side (own_side s (end_of b)); offered = set_of (offered s (end_of b)) }) p q with_all of_b
