-- Lists of successors: what is added, what of it follows, and which array is too short for it.
use Rattle.std.proofs.Common.{◌≡◌, ◌≢◌, ℕ, Err, IfOk, Ok, OnErr, OnOk, Result, ◌+◌, ◌<◌, ◌≤◌, List, length, get_or-set_other, get_or-set_same, set, ◌⊎◌, inl, inr, ap, subst, sym, ◌∙◌, arith, get_or}
use Rattle.std.proofs.lemmas.List.{get_or_default}
use Rattle.std.specs.Prelude.{slice_index}
use Rattle.gen1_machine.specs.declared.side.Choice.{Choice}
use Rattle.gen1_machine.specs.State.{State}
use Rattle.gen1_layout.specs.Parts.{Parts}
use Rattle.gen1_outcomes.specs.declared.successor.OutcomesFault.{OutcomesFault}
use Rattle.gen1_outcomes.specs.declared.successor.OutcomeOptions.{OutcomeOptions}
use Rattle.gen1_outcomes.specs.declared.outcomes.Outcomes.{Outcomes}
use Rattle.gen1_outcomes.specs.declared.successor.Successor.{Successor}
use Rattle.gen1_layout.specs.Shows.{Stands}
use Rattle.gen1_engine.specs.Update.{AreOffered}
use Rattle.gen1_outcomes.specs.Plain.{IsBegun, Walk}
use Rattle.gen1_outcomes.specs.Middles.{IsFull, Gets, GoOnAlike, HasTooMuch, IsTooMuch, Joins}
use Rattle.gen1_outcomes.specs.declared.middles.Middle.{Middle}
use Rattle.gen1_outcomes.specs.declared.middles.Middles.{Middles}
use Rattle.gen1_outcomes.specs.Listing.{AreThose, AreThoseOr, EachFollows, FollowsBy, KeepsFirst, StillFollow, battle_at}

pub same_or : (m n : ℕ) → (m ≡ n) ⊎ (m ≢ n)
same_or m n = grind arith

-- The same battles are those from before.
pub those_or : (battle : Parts) (count : ℕ) (old new : List Successor) → AreThose old new → AreThoseOr battle count old count new
those_or battle count old new those k none lt = inl (lt, those k none)

-- First the same battles, then one more.
pub those_then : (battle : Parts) (before count : ℕ) (old now new : List Successor) → AreThose old now → AreThoseOr battle before now count new
    → AreThoseOr battle before old count new
those_then battle before count old now new those more k none lt =
    elim (more k none lt) [
      | inl h ↦ inl (h.0, h.1 ∙ those k none)
      | inr e ↦ inr e
    ]

pub on_ok_those : (battle other : Parts) (before at count : ℕ) (old now new : List Successor) (r : Result (Unit {0}) OutcomesFault) → at ≡ before → other ≡ battle
    → AreThose old now → OnOk r (AreThoseOr other at now count new) → OnOk r (AreThoseOr battle before old count new)
on_ok_those battle other before at count old now new (Ok done) e f those more =
    those_then battle before count old now new those
    (subst (λ (b : Parts). AreThoseOr b before now count new) f (subst (λ (n : ℕ). AreThoseOr other n now count new) e more))
on_ok_those battle other before at count old now new (Err why) e f those more = tt

-- The first battles stay where all do, and where one is put after them.
pub on_ok_stay : (count : ℕ) (old new : List Successor) (r : Result (Unit {0}) OutcomesFault) → AreThose old new → OnOk r (KeepsFirst count old new)
on_ok_stay count old new (Ok done) those = λ k none lt. those k none
on_ok_stay count old new (Err why) those = tt

pub on_ok_stay_both : (count : ℕ) (old now new : List Successor) (r : Result (Unit {0}) OutcomesFault) → AreThose old now → AreThose now new → OnOk r (KeepsFirst count old new)
on_ok_stay_both count old now new r one other = on_ok_stay count old new r (λ k none. other k none ∙ one k none)

pub on_ok_put : (count at : ℕ) (old now new : List Successor) (x : Successor) (r : Result (Unit {0}) OutcomesFault) → AreThose old now → at ≡ count
    → OnOk r (new ≡ set now at x) → OnOk r (KeepsFirst count old new)
on_ok_put count at old now new x (Ok done) those e is =
    λ k none lt.
    let ne : k ≢ at = omega (arith, lt, e) in
    ap (λ (xs : List Successor). battle_at xs k none) is ∙ ap (λ (y : Successor). y.battle) (get_or-set_other now at k x none ne) ∙ those k none
on_ok_put count at old now new x (Err why) those e is = tt

-- A place is written.
pub written : (xs : List Successor) (at : ℕ) (x : Successor) → at < length xs → AreThoseOr x.battle at xs (at + 1) (set xs at x)
written xs at x within k none lt =
    elim (same_or k at) [
      | inl e ↦ inr (ap (λ (j : ℕ). battle_at (set xs at x) j none) e ∙ ap (λ (y : Successor). y.battle) (get_or-set_same xs at x none within))
      | inr ne ↦ inl (omega (arith, ne), ap (λ (y : Successor). y.battle) (get_or-set_other xs at k x none ne))
    ]

-- A place is written with the battle that it has.
pub rewritten : (xs : List Successor) (at : ℕ) (x : Successor) → at < length xs → ((none : Successor) → x.battle ≡ battle_at xs at none) → AreThose xs (set xs at x)
rewritten xs at x within e k none =
    elim (same_or k at) [
      | inl same ↦
          ap (λ (j : ℕ). battle_at (set xs at x) j none) same ∙ ap (λ (y : Successor). y.battle) (get_or-set_same xs at x none within) ∙ e none
          ∙ sym (ap (λ (j : ℕ). battle_at xs j none) same)
      | inr ne ↦ ap (λ (y : Successor). y.battle) (get_or-set_other xs at k x none ne)
    ]

-- Where each battle follows, and one that follows is added, each follows.
pub follows_more : (s : State) (one two : Choice) (options : OutcomeOptions) (battle : Parts) (before count : ℕ) (old new : List Successor)
    → EachFollows s one two options before old → FollowsBy s one two options battle → AreThoseOr battle before old count new → EachFollows s one two options count new
follows_more s one two options battle before count old new each follows those k none lt =
    elim (those k none lt) [
      | inl h ↦ subst (λ (p : Parts). FollowsBy s one two options p) (sym h.1) (each k none h.0)
      | inr e ↦ subst (λ (p : Parts). FollowsBy s one two options p) (sym e) follows
    ]

-- The same of a place that is read at some default.
pub rewritten_at : (xs : List Successor) (at : ℕ) (x d : Successor) → at < length xs → x.battle ≡ battle_at xs at d → AreThose xs (set xs at x)
rewritten_at xs at x d within e = rewritten xs at x within (λ none. e ∙ ap (λ (y : Successor). y.battle) (get_or_default xs at d none within))

-- A result that has so many outcomes.
pub finished_follows : (s : State) (one two : Choice) (options : OutcomeOptions) (count : ℕ) (xs : List Successor) (r : Result Outcomes OutcomesFault)
    → EachFollows s one two options count xs → IfOk r (λ o. o.count ≡ count) → IfOk r (λ o. EachFollows s one two options o.count xs)
finished_follows s one two options count xs (Ok o) each e = subst (λ (n : ℕ). EachFollows s one two options n xs) (sym e) each
finished_follows s one two options count xs (Err fault) each e = tt

-- What a walk lists follows from the pair that it was made of.
pub follows_walk : (s : State) (one two : Choice) (options : OutcomeOptions) (battle : Parts) (w : Walk) → IsBegun battle one two options w → Stands battle s
    → AreOffered s one two → (xs : List Successor) (r : Result Outcomes OutcomesFault)
    → (Stands w.start s → AreOffered s w.one w.two → IfOk r (λ o. EachFollows s w.one w.two w.options o.count xs))
    → IfOk r (λ o. EachFollows s one two options o.count xs)
follows_walk s one two options battle w is stands offered xs r all =
    subst (λ (m : OutcomeOptions). IfOk r (λ o. EachFollows s one two m o.count xs)) is.options
    (subst (λ (a : Choice). AreOffered s a two → IfOk r (λ o. EachFollows s a two w.options o.count xs)) is.one
    (subst (λ (b : Choice). AreOffered s w.one b → IfOk r (λ o. EachFollows s w.one b w.options o.count xs)) is.two
    (all (subst (λ (p : Parts). Stands p s) (sym is.start) stands))) offered)

-- Where a battle that follows is added, what a walk lists still follows, also under another name of the walk.
pub still_more : (w v : Walk) (battle : Parts) (first before count now : ℕ) (start old new : List Successor) → v ≡ w → StillFollow w first start before old
    → ((s : State) → Stands v.start s → AreOffered s v.one v.two → FollowsBy s v.one v.two v.options battle) → AreThoseOr battle before old count new → now ≡ count
    → StillFollow w first start now new
still_more w v battle first before count now start old new is still follows those e s h o each =
    let this : FollowsBy s w.one w.two w.options battle =
    subst (λ (x : Walk). Stands x.start s → AreOffered s x.one x.two → FollowsBy s x.one x.two x.options battle) is (follows s) h o
    in
    subst (λ (n : ℕ). EachFollows s w.one w.two w.options n new) (sym e) (follows_more s w.one w.two w.options battle before count old new (still s h o each) this those)

-- The same where the battles stay.
pub still_those : (w : Walk) (first before now : ℕ) (start old new : List Successor) → StillFollow w first start before old → AreThose old new → now ≡ before
    → StillFollow w first start now new
still_those w first before now start old new still those e s h o each k none lt =
    subst (λ (p : Parts). FollowsBy s w.one w.two w.options p) (sym (those k none)) (still s h o each k none (omega (arith, e, lt)))

-- The same where more is listed.
pub still_then : (w v : Walk) (first before count : ℕ) (start old new : List Successor) → v ≡ w → StillFollow w first start before old
    → StillFollow v before old count new → StillFollow w first start count new
still_then w v first before count start old new is still more s h o each =
    subst (λ (x : Walk). StillFollow x before old count new) is more s h o (still s h o each)

pub on_ok_then : (w v : Walk) (first before count : ℕ) (start old new : List Successor) (r : Result (Unit {0}) OutcomesFault) → v ≡ w
    → StillFollow w first start before old → OnOk r (StillFollow v before old count new) → OnOk r (StillFollow w first start count new)
on_ok_then w v first before count start old new (Ok done) is still more = still_then w v first before count start old new is still more
on_ok_then w v first before count start old new (Err fault) is still more = tt

-- The last places of a table before one, in a circle, are taken.
abbrev pub AreTaken : List ℕ → ℕ → ℕ → Type 0
AreTaken table slot count =
    (k : ℕ) → k < length table → ((k < slot) × (slot ≤ k + count)) ⊎ ((slot ≤ k) × (slot + length table ≤ k + count)) → slice_index table k ≢ 0

less_or : (m n : ℕ) → (m < n) ⊎ (n ≤ m)
less_or m n = grind arith

pub all_taken : (table : List ℕ) (slot count : ℕ) → length table ≤ count → slot < length table → AreTaken table slot count → IsFull table
all_taken table slot count enough within those k inside =
    those k inside
    (elim (less_or k slot) [
      | inl less ↦ inl (less, omega (arith, enough, within))
      | inr more ↦ inr (more, omega (arith, enough, more))
    ])

-- One of a list of middles gets the ways of another.
pub joins : (added mine joined : Middle) (old new : Middles) (place : ℕ) (d : Middle) → new.list ≡ set old.list place joined → new.len ≡ old.len
    → place < old.len → place < length old.list → mine ≡ get_or old.list place d → ((past : Middle) → GoOnAlike (get_or old.list place past) added)
    → Gets added mine joined → Joins added old new
joins added mine joined old new place d is same within inside at alike gets =
    record {
      place = place;
      within = within;
      alike = alike;
      here = λ past.
          let after : get_or new.list place past ≡ joined = ap (λ (l : List Middle). get_or l place past) is ∙ get_or-set_same old.list place joined past inside in
          let before : mine ≡ get_or old.list place past = at ∙ get_or_default old.list place d past inside in
          subst (λ (y : Middle). Gets added (get_or old.list place past) y) (sym after) (subst (λ (x : Middle). Gets added x joined) before gets);
      others = λ k past ne. ap (λ (l : List Middle). get_or l k past) is ∙ get_or-set_other old.list place k joined past ne;
      length = same;
    }

-- What can't be added to a position of a list.
pub too_much : (added : Middle) (count : ℕ) (list : List Middle) (place : ℕ) (r : Result (Unit {0}) OutcomesFault) → place < count
    → ((past : Middle) → OnErr r (IsTooMuch added (get_or list place past))) → OnErr r (HasTooMuch added count list)
too_much added count list place (Ok done) lt large = tt
too_much added count list place (Err why) lt large = record { place = place; within = lt; here = large }
