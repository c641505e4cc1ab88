-- What is drawn: lists from which items are taken, what pools hold, moves, and members.
use Rattle.std.proofs.Common.{All, Bool, List, None, Option, Some, [], ap, arith, false, filter, get_or, length, refl, subst, suc, sym, true, zero, ℕ, ◌*◌, ◌++◌, ◌+◌, ◌-◌, ◌<◌, ◌∙◌, ◌∷◌, ◌≡◌, ◌≢◌, ◌≤◌}
use Rattle.std.specs.Prelude.{AllPairs, drop, if◌then◌else◌, nat_le, nat_lt, not, remove, slice_index_or, take, ◌&&◌, ◌==◌}
use Rattle.std.proofs.lemmas.Bool.{and_parts, cases_lt, eqb-true, le-ltb, leb-true, ltb-true, ne_eqb}
use Rattle.std.proofs.lemmas.List.Edits.{get_or-remove_above, get_or-remove_below, length-remove}
use Rattle.std.proofs.lemmas.List.Elements.{All-append, All-drop, All-filter, All-from_get_or, All-map, All-push, All-tail, All-take, All-weaker, filter-append, filter_passes}
use Rattle.std.proofs.lemmas.List.Quantifiers.{all_pairs_push, all_pairs_remove}
use Rattle.std.proofs.lemmas.Nat.{mod_below}
use mathlib.Core.Logic.{⊎_elim}
use Rattle.gen1_random.specs.Teams.{Draft, Draws, IsDrawnFrom, IsRandomMember, IsRandomTeam, draft, has, index_of, last, member_drawn, moves_drawn, numbers_in, numbers_to, one_draw, one_more, others, sample, sample_team, sheet_of, species_of, taken}
use Rattle.gen1_stats.specs.Members.{IsBetween, is_left_out}
use Rattle.std.specs.List.{list_all}
use Rattle.std.specs.Option.{is_none}
use Rattle.std.proofs.lemmas.List.Kept.{AllPairs-filter}
use Rattle.std.proofs.lemmas.List.Sums.{AllPass-from_list_all}
use Rattle.gen1_random.specs.declared.teams.Pool.{Pool}
use Rattle.gen1_random.specs.declared.teams.Pool.TheVariants.{Moves, SampleSpecies, Samples, Species}
use Rattle.gen1_random.specs.declared.sample_rows.TheConstants.{SAMPLE_ROWS}
use Rattle.gen1_random.specs.declared.teams.DrawnFrom.{DrawnFrom}
use Rattle.gen1_stats.specs.Teams.{first_refusal, member_refusal, team_refusal, Sheet}
use Rattle.gen1_tables.specs.Moves.{move_row, move_rows, struggle}
use Rattle.std.proofs.lemmas.List.{length-append, length-map}
use Rattle.gen1_playouts.specs.Playouts.{next_state}
use Rattle.gen1_rolls.proofs.Standing.{iterate-more}
use Rattle.gen1_random.specs.declared.teams.DrawnFrom.TheVariants as from

-- One more number.
pub numbers_to-more : (n : ℕ) → numbers_to (n + 1) ≡ numbers_to n ++ (n + 1) ∷ []
numbers_to-more n = let e : n + 1 ≡ suc n = omega arith in rw e refl

pub filter-more : (p : ℕ → Bool) (n : ℕ) → filter p (numbers_to (n + 1)) ≡ filter p (numbers_to n) ++ (if p (n + 1) then (n + 1) ∷ [] else [])
filter-more p n = ap (filter p) (numbers_to-more n) ∙ filter-append p (numbers_to n) ((n + 1) ∷ [])

pub numbers_to-between : (n : ℕ) → All (IsBetween 1 n) (numbers_to n)
numbers_to-between zero = λ k d low. absurd (omega arith)
numbers_to-between (suc n) =
    All-push (IsBetween 1 (suc n)) (numbers_to n) (suc n)
    (All-weaker (IsBetween 1 n) (IsBetween 1 (suc n)) (λ x h. (h.0, omega (arith, h.1))) (numbers_to n) (numbers_to-between n))
    (omega arith, omega arith)

pub numbers_to-apart : (n : ℕ) → AllPairs (λ a b. a ≢ b) (numbers_to n)
numbers_to-apart zero = λ i j d lt low. absurd (omega arith)
numbers_to-apart (suc n) =
    all_pairs_push (λ a b. a ≢ b) (numbers_to n) (suc n) (numbers_to-apart n)
    (λ k d low same. let at = numbers_to-between n k d low in omega (arith, at.1, same))

-- An index that is drawn is inside.
pub index-below : (random : ℕ) (numbers : List ℕ) → 1 ≤ length numbers → index_of random numbers < length numbers
index-below random numbers some = mod_below _ (length numbers) (omega (arith, some))

pub All-remove : {X : Type 0} (P : X → Type 0) (xs : List X) (i : ℕ) → All P xs → All P (remove xs i)
All-remove P xs i all = All-append P (take i xs) (drop (suc i) xs) (All-take P i xs all) (All-drop P (suc i) xs all)

-- What is taken is not among the others.
pub not-left : (left : List ℕ) (i : ℕ) → i < length left → AllPairs (λ a b. a ≢ b) left → All (λ n. get_or left i 0 ≢ n) (remove left i)
not-left left i inside apart =
    let long = length-remove left i inside in
    All-from_get_or (λ n. get_or left i 0 ≢ n) (remove left i) 0 (λ k low. ⊎_elim
    (λ below. rw (get_or-remove_below left i 0 k below inside) (λ same. apart k i 0 below inside (sym same)))
    (λ above. rw (get_or-remove_above left i 0 k above inside) (apart i (k + 1) 0 (omega (arith, above)) (omega (arith, low, long))))
    (cases_lt k i))

-- Items have different keys, and none of the numbers that are left.
pub record Apart {X : Type 0} (key : X → ℕ) (items : List X) (left : List ℕ) : Type 0 where
  pub items_apart : AllPairs (λ a b. key a ≢ key b) items
  pub left_apart : AllPairs (λ a b. a ≢ b) left
  pub between : All (λ x. All (λ n. key x ≢ n) left) items

pub apart-more : {X : Type 0} (key : X → ℕ) (items : List X) (left : List ℕ) (i : ℕ) (x : X) → i < length left → key x ≡ get_or left i 0
    → Apart key items left → Apart key (items ++ x ∷ []) (remove left i)
apart-more key items left i x inside is h = record {
  items_apart = all_pairs_push (λ a b. key a ≢ key b) items x h.items_apart (λ k d low. rw is (h.between k d low i 0 inside));
  left_apart = all_pairs_remove (λ a b. a ≢ b) left i inside h.left_apart;
  between = All-push (λ y. All (λ n. key y ≢ n) (remove left i)) items x
      (λ k d low. All-remove (λ n. key (get_or items k d) ≢ n) left i (h.between k d low))
      (rw is (not-left left i inside h.left_apart));
}

pub held-between : (pool : Pool) → All (IsBetween 1 (last pool)) (numbers_in pool)
unfolding numbers_in
held-between pool = All-filter (has pool) (IsBetween 1 (last pool)) (numbers_to (last pool)) (numbers_to-between (last pool))

pub held-pass : (pool : Pool) → All (λ n. has pool n ≡ true) (numbers_in pool)
unfolding numbers_in
held-pass pool = filter_passes (has pool) (numbers_to (last pool))

pub held-apart : (pool : Pool) → AllPairs (λ a b. a ≢ b) (numbers_in pool)
unfolding numbers_in
held-apart pool = AllPairs-filter (λ a b. a ≢ b) (has pool) (numbers_to (last pool)) (numbers_to-apart (last pool))

-- the moves

abbrev pub IsMove : ℕ → Type 0
IsMove n = IsBetween 1 164 n × (is_left_out n ≡ false)

passed : (b : Bool) → not b ≡ true → b ≡ false
passed true h = absurd (let e : false ≡ true = h in cc)
passed false h = refl

pub moves-known : All IsMove (numbers_in Moves)
moves-known k d low = (held-between Moves k d low, passed _ (held-pass Moves k d low))

pub moves-many : length (numbers_in Moves) ≡ 160
unfolding numbers_in move_rows move_row
moves-many = refl

-- the species

species-many : length (numbers_in Species) ≡ 151
unfolding numbers_in
species-many = refl

sample_species-many : length (numbers_in SampleSpecies) ≡ 40
unfolding numbers_in
sample_species-many = refl

pub six-species : (pool : DrawnFrom) → 6 ≤ length (numbers_in (species_of pool))
six-species from.Samples = rw sample_species-many (omega arith)
six-species from.All = rw species-many (omega arith)

all-sampled : list_all (λ n. nat_lt 0 (length (numbers_in (Samples n)))) (numbers_in SampleSpecies) ≡ true
unfolding numbers_in
all-sampled = refl

pub species-drawn : (pool : DrawnFrom) → All (IsDrawnFrom pool) (numbers_in (species_of pool))
species-drawn from.Samples = λ k d low. ltb-true _ _ (AllPass-from_list_all (λ n. nat_lt 0 (length (numbers_in (Samples n)))) (numbers_in SampleSpecies) all-sampled k d low)
species-drawn from.All = held-between Species

-- the rows of the sample teams

-- what a row passes: numbers in their ranges, four moves, and no refusal at any place

abbrev in_table : ℕ × List ℕ → Bool
in_table row = nat_le 1 row.0 && nat_le row.0 151

abbrev in_moves : ℕ → Bool
in_moves n = nat_le 1 n && nat_le n 164

abbrev is_fine : ℕ → ℕ × List ℕ → Bool
is_fine place row = is_none (member_refusal place (sheet_of row))

abbrev is_row : ℕ → ℕ × List ℕ → Bool
is_row place row = in_table row && (list_all in_moves row.1 && (length row.1 == 4 && is_fine place row))

rows-pass : (place : ℕ) → list_all (is_row place) SAMPLE_ROWS ≡ true
unfolding move_rows move_row
rows-pass place = refl

none-is : {X : Type 0} (o : Option X) → is_none o ≡ true → o ≡ None
none-is None h = refl
none-is (Some x) h = absurd (let e : false ≡ true = h in cc)

pub record IsRow (row : ℕ × List ℕ) : Type 0 where
  pub species : IsBetween 1 151 row.0
  pub moves : All (IsBetween 1 164) row.1
  pub many : length row.1 ≡ 4
  pub lawful : (place : ℕ) → member_refusal place (sheet_of row) ≡ None

from-tests : (row : ℕ × List ℕ) → ((place : ℕ) → is_row place row ≡ true) → IsRow row
from-tests row passes =
    let parts = λ (place : ℕ). and_parts (in_table row) (list_all in_moves row.1 && (length row.1 == 4 && is_fine place row)) (passes place) in
    let rest = λ (place : ℕ). and_parts (list_all in_moves row.1) (length row.1 == 4 && is_fine place row) (parts place).1 in
    let last_two = λ (place : ℕ). and_parts (length row.1 == 4) (is_fine place row) (rest place).1 in
    let range = and_parts (nat_le 1 row.0) (nat_le row.0 151) (parts 0).0 in record {
      species = (leb-true 1 row.0 range.0, leb-true row.0 151 range.1);
      moves = λ k e inside.
          let one = AllPass-from_list_all in_moves row.1 (rest 0).0 k e inside in
          let two = and_parts (nat_le 1 (get_or row.1 k e)) (nat_le (get_or row.1 k e) 164) one in
          (leb-true 1 (get_or row.1 k e) two.0, leb-true (get_or row.1 k e) 164 two.1);
      many = eqb-true (length row.1) 4 (last_two 0).0;
      lawful = λ place. none-is (member_refusal place (sheet_of row)) (last_two place).1;
    }

pub row-is : (index : ℕ) → index < 72 → (d : ℕ × List ℕ) → IsRow (slice_index_or SAMPLE_ROWS index d)
row-is index low d =
    from-tests (slice_index_or SAMPLE_ROWS index d) (λ place. AllPass-from_list_all (is_row place) SAMPLE_ROWS (rows-pass place) index d low)

pub sampled-is : (species row : ℕ) → has (Samples species) row ≡ true → (sample row).0 ≡ species
sampled-is species row h = eqb-true (sample row).0 species h

-- So many moves were drawn.
pub record Drew (n : ℕ) (d : Draws) : Type 0 where
  pub size : length d.drawn ≡ n
  pub long : length d.left + n ≡ 160
  pub known : All IsMove d.drawn
  pub left_known : All IsMove d.left
  pub apart : Apart (λ (n : ℕ). n) d.drawn d.left

pub drew-more : (n : ℕ) (d : Draws) → n < 160 → Drew n d → Drew (suc n) (one_draw d)
unfolding one_draw
drew-more n d low h =
    let inside = index-below d.random d.left (omega (arith, low, h.long)) in
    let shorter = length-remove d.left (index_of d.random d.left) inside in record {
      size = length-append d.drawn _ ∙ omega (arith, h.size);
      long = omega (arith, shorter, h.long);
      known = All-push IsMove d.drawn _ h.known (h.left_known (index_of d.random d.left) 0 inside);
      left_known = All-remove IsMove d.left (index_of d.random d.left) h.left_known;
      apart = apart-more (λ (n : ℕ). n) d.drawn d.left (index_of d.random d.left) _ inside refl h.apart;
    }

pub drew-none : (random : ℕ) → Drew 0 (moves_drawn 0 random)
drew-none random = record {
  size = refl;
  long = rw moves-many refl;
  known = λ k d low. absurd (omega arith);
  left_known = moves-known;
  apart = record {
    items_apart = λ i j d lt low. absurd (omega arith);
    left_apart = held-apart Moves;
    between = λ k d low. absurd (omega arith);
  };
}

pub drew-four : (random : ℕ) → Drew 4 (moves_drawn 4 random)
drew-four random =
    drew-more 3 _ (omega arith) (drew-more 2 _ (omega arith) (drew-more 1 _ (omega arith) (drew-more 0 _ (omega arith) (drew-none random))))

-- Four different moves that a member may know are lawful.
pub lawful-moves : (species : ℕ) (moves : List ℕ) → length moves ≡ 4 → All IsMove moves → AllPairs (λ a b. a ≢ b) moves
    → (place : ℕ) → member_refusal place (sheet_of (species, moves)) ≡ None
lawful-moves species (a ∷ b ∷ c ∷ d ∷ []) long known apart place =
    let at = λ (k : ℕ) (low : k < 4). (known k 0 low).1 in
    let other = λ (k : ℕ) (low : k < 4). ne_eqb (get_or (a ∷ b ∷ c ∷ d ∷ []) k 0) struggle (λ same. let most = (known k 0 low).0.1 in absurd (omega (arith, most, same))) in
    let differ = λ (i j : ℕ) (lt : i < j) (low : j < 4). ne_eqb (get_or (a ∷ b ∷ c ∷ d ∷ []) j 0) (get_or (a ∷ b ∷ c ∷ d ∷ []) i 0) (λ same. apart i j 0 lt low (sym same)) in
    rw (
      at 0 (omega arith),
      at 1 (omega arith),
      at 2 (omega arith),
      at 3 (omega arith),
      other 0 (omega arith),
      other 1 (omega arith),
      other 2 (omega arith),
      other 3 (omega arith),
      differ 0 1 (omega arith) (omega arith),
      differ 0 2 (omega arith) (omega arith),
      differ 0 3 (omega arith) (omega arith),
      differ 1 2 (omega arith) (omega arith),
      differ 1 3 (omega arith) (omega arith),
      differ 2 3 (omega arith) (omega arith),
    ) refl
lawful-moves species [] long known apart place = absurd (omega (arith, long))
lawful-moves species (a ∷ []) long known apart place = absurd (omega (arith, long))
lawful-moves species (a ∷ b ∷ []) long known apart place = absurd (omega (arith, long))
lawful-moves species (a ∷ b ∷ c ∷ []) long known apart place = absurd (omega (arith, long))
lawful-moves species (a ∷ b ∷ c ∷ d ∷ e ∷ more) long known apart place = absurd (omega (arith, long))

-- A lawful member with four moves.
pub record IsFine (s : Sheet) : Type 0 where
  pub lawful : (place : ℕ) → member_refusal place s ≡ None
  pub random : IsRandomMember s

row-fine : (row : ℕ × List ℕ) → IsRow row → IsFine (sheet_of row)
row-fine row is =
    let ups : ℕ → ℕ × ℕ = λ id. (id, 3) in record {
      lawful = is.lawful;
      random = record {
        species = is.species;
        four = length-map row.1 ups ∙ is.many;
        known = All-map (λ (chosen : ℕ × ℕ). IsBetween 1 164 chosen.0) ups row.1 is.moves;
      };
    }

-- A row of the sample teams that is drawn for a species.
pub row-drawn : (species random : ℕ) → 1 ≤ length (numbers_in (Samples species))
    → let row = taken random (numbers_in (Samples species)) in (1 ≤ row) × (row ≤ 72) × ((sample row).0 ≡ species)
row-drawn species random some =
    let inside = index-below random (numbers_in (Samples species)) some in
    let range = held-between (Samples species) (index_of random (numbers_in (Samples species))) 0 inside in (
      range.0,
      range.1,
      sampled-is species (taken random (numbers_in (Samples species))) (held-pass (Samples species) (index_of random (numbers_in (Samples species))) 0 inside),
    )

pub member-fine : (pool : DrawnFrom) (species random : ℕ) → IsDrawnFrom pool species
    → IsFine (member_drawn pool species random).sheet × ((member_drawn pool species random).sheet.species ≡ species)
member-fine from.Samples species random some =
    let row = row-drawn species random some in
    (row-fine _ (row-is (taken random (numbers_in (Samples species)) - 1) (omega (arith, row.0, row.1)) (0, [])), row.2)
member-fine from.All species random some =
    let four = drew-four random in
    let drawn = (moves_drawn 4 random).drawn in (
      row-fine (species, drawn) (record {
        species = some;
        moves = All-weaker IsMove (IsBetween 1 164) (λ x h. h.0) drawn four.known;
        many = four.size;
        lawful = lawful-moves species drawn four.size four.known four.apart.items_apart;
      }),
      refl,
    )

-- So many members were drawn.
pub record Drafted (pool : DrawnFrom) (n : ℕ) (d : Draft) : Type 0 where
  pub size : length d.team ≡ n
  pub long : 6 ≤ length d.left + n
  pub left : All (IsDrawnFrom pool) d.left
  pub members : All IsFine d.team
  pub apart : Apart (λ (s : Sheet). s.species) d.team d.left

pub drafted-more : (pool : DrawnFrom) (n : ℕ) (d : Draft) → n < 6 → Drafted pool n d → Drafted pool (suc n) (one_more pool d)
unfolding one_more
drafted-more pool n d low h =
    let inside = index-below d.random d.left (omega (arith, low, h.long)) in
    let shorter = length-remove d.left (index_of d.random d.left) inside in
    let one = member-fine pool (taken d.random d.left) _ (h.left (index_of d.random d.left) 0 inside) in record {
      size = length-append d.team _ ∙ omega (arith, h.size);
      long = omega (arith, shorter, h.long);
      left = All-remove (IsDrawnFrom pool) d.left (index_of d.random d.left) h.left;
      members = All-push IsFine d.team _ h.members one.0;
      apart = apart-more (λ (s : Sheet). s.species) d.team d.left (index_of d.random d.left) _ inside one.1 h.apart;
    }

pub drafted : (pool : DrawnFrom) (seed n : ℕ) → n ≤ 6 → Drafted pool n (draft pool seed n)
drafted pool seed zero few = record {
  size = refl;
  long = let many = six-species pool in omega (arith, many);
  left = species-drawn pool;
  members = λ k d low. absurd (omega arith);
  apart = record {
    items_apart = λ i j d lt low. absurd (omega arith);
    left_apart = held-apart (species_of pool);
    between = λ k d low. absurd (omega arith);
  };
}
drafted pool seed (suc n) few = drafted-more pool n (draft pool seed n) (omega (arith, few)) (drafted pool seed n (omega (arith, few)))

none-refused : (place : ℕ) (team : List Sheet) → All IsFine team → first_refusal place team ≡ None
none-refused place [] fine = refl
none-refused place (s ∷ team) fine =
    rw ((fine 0 s (omega arith)).lawful place) (none-refused (place + 1) team (All-tail IsFine s team fine))

pub random-team : (pool : DrawnFrom) (seed count : ℕ) → 1 ≤ count → count ≤ 6 → IsRandomTeam count (draft pool seed count).team
random-team pool seed count some few =
    let h = drafted pool seed count few in record {
      size = h.size;
      lawful = rw (h.size, ne_eqb count 0 (λ none. absurd (omega (arith, some, none))), le-ltb 6 count few) (none-refused 1 _ h.members);
      species = h.apart.items_apart;
      members = λ k d low. (h.members k d low).random;
    }

-- This is the draft so far.
pub record IsDraft (pool : DrawnFrom) (seed n : ℕ) (team : List Sheet) (left : List ℕ) (random : ℕ) : Type 0 where
  pub team_is : team ≡ (draft pool seed n).team
  pub left_is : left ≡ (draft pool seed n).left
  pub random_is : random ≡ (draft pool seed n).random

drafts-more : (pool : DrawnFrom) (seed n : ℕ) {team : List Sheet} {left : List ℕ} {random : ℕ} → IsDraft pool seed n team left random
    → draft pool seed (n + 1) ≡ one_more pool (record { team = team; left = left; random = random })
drafts-more pool seed n h = iterate-more (one_more pool) n _ ∙ rw (h.team_is, h.left_is, h.random_is) refl

pub is-draft-more : (pool : DrawnFrom) (seed n : ℕ) {team : List Sheet} {left others_left : List ℕ} {random one middle after : ℕ} {sheet : Sheet}
    → IsDraft pool seed n team left random → one ≡ taken random left → others_left ≡ others random left → middle ≡ next_state random
    → sheet ≡ (member_drawn pool one middle).sheet → after ≡ (member_drawn pool one middle).random
    → IsDraft pool seed (n + 1) (team ++ sheet ∷ []) others_left after
unfolding one_more
is-draft-more pool seed n h one rest middle sheet after = record {
  team_is = rw (drafts-more pool seed n h, sheet, middle, one) refl;
  left_is = rw (drafts-more pool seed n h, rest) refl;
  random_is = rw (drafts-more pool seed n h, after, middle, one) refl;
}

-- A species that is taken may be drawn.
pub taken-fits : (pool : DrawnFrom) (random : ℕ) (left : List ℕ) {one : ℕ} → 1 ≤ length left → All (IsDrawnFrom pool) left → one ≡ taken random left
    → IsDrawnFrom pool one
taken-fits pool random left some all is = subst (IsDrawnFrom pool) (sym is) (all (index_of random left) 0 (index-below random left some))

-- The sample teams are lawful.
sample-fine : (number : ℕ) → 1 ≤ number → number ≤ 12 → All IsFine (sample_team number)
unfolding sample_team
sample-fine number low high =
    All-map IsFine (λ (place : ℕ). sheet_of (sample (6 * (number - 1) + place))) (numbers_to 6) (λ k d inside.
    let range = numbers_to-between 6 k d inside in
    row-fine _ (row-is (6 * (number - 1) + get_or (numbers_to 6) k d - 1) (omega (arith, low, high, range.0, range.1)) (0, [])))

pub sample-lawful : (number : ℕ) → 1 ≤ number → number ≤ 12 → team_refusal (sample_team number) ≡ None
unfolding sample_team
sample-lawful number low high = none-refused 1 (sample_team number) (sample-fine number low high)

pub sample-members : (number : ℕ) → 1 ≤ number → number ≤ 12 → All IsRandomMember (sample_team number)
sample-members number low high = λ k d inside. (sample-fine number low high k d inside).random
