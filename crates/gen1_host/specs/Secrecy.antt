-- What no message and no reply reveals (docs/MECHANICS.md, "Hosts"). Each law is the contract of a function in src/laws.rt.
use Rattle.std.specs.Prelude.{Bool, List, None, Option, Some, [], false, if◌then◌else◌, map, not, true, ℕ, ◌==◌, ◌||◌, ◌≡◌, ◌∷◌, ◌⊎◌}
use Rattle.gen1_machine.specs.declared.side.Choice.{Choice}
use Rattle.gen1_machine.specs.declared.side.Side.{Side}
use Rattle.gen1_machine.specs.Room.{Submission}
use Rattle.gen1_machine.specs.State.{same_side}
use Rattle.gen1_host.specs.Table.{after_row, Cancel, current_pair, Expire, Forfeit, HostReply, HouseRules, OfferDraw, reply_to_row, Row, Submit, Table}
use Rattle.gen1_host.specs.Messages.{chosen_at, message, Notice, notice, Sent}

-- What a side sees of a table: what it is sent, its own choice, and the rules.
pub record Seen : Type 0 where
  pub message : Sent
  pub chosen : Option Choice
  pub rules : HouseRules

abbrev pub seen_by : Side → Table → Seen
seen_by s t = record { message = message s t; chosen = chosen_at s t; rules = t.rules }

-- The side that a row is of: it sent it, or its time ran out.
abbrev pub side_of : Row → Side
side_of (Submit numbers x) = x.side
side_of (Cancel side number) = side
side_of (Expire numbers side number) = side
side_of (OfferDraw side) = side
side_of (Forfeit side) = side

-- Rows of the other side that a side does not see: a choice, one that is taken back, and one that is made when time has run out.
abbrev pub is_secret : Row → Bool
is_secret (Submit numbers x) = true
is_secret (Cancel side number) = true
is_secret (Expire numbers side number) = true
is_secret _ = false

abbrev pub is_hidden : Side → Row → Bool
is_hidden s row = if same_side (side_of row) s then false else is_secret row

-- The same row, with any numbers to draw.
abbrev pub Matches : Row → Row → Type 0
Matches (Submit numbers x) (Submit more y) = x ≡ y
Matches (Expire numbers side number) (Expire more by pair) = (side ≡ by) × (number ≡ pair)
Matches row other = row ≡ other

-- A side can't tell these rows apart: they are the same but for the numbers, or both are hidden from it.
abbrev pub SameRow : Side → Row × Row → Type 0
SameRow s rows = Matches rows.0 rows.1 ⊎ ((is_hidden s rows.0 ≡ true) × (is_hidden s rows.1 ≡ true))

abbrev pub ends_pair : Row → Table → Bool
ends_pair row t = not (current_pair (after_row row t) == current_pair t)

-- Wherever a row ends a pair at either table, the side is sent the same after it.
abbrev pub EndAlike : Side → List (Row × Row) → Table → Table → Type 0
EndAlike s [] t u = Unit {0}
EndAlike s (rows ∷ more) t u =
    ((ends_pair rows.0 t || ends_pair rows.1 u) ≡ true → message s (after_row rows.0 t) ≡ message s (after_row rows.1 u))
    × EndAlike s more (after_row rows.0 t) (after_row rows.1 u)

-- What a side receives: the reply to each of its rows, and what it sees after each row.
pub record Received : Type 0 where
  pub reply : Option HostReply
  pub seen : Seen

abbrev pub reply_for : Side → Row → Table → Option HostReply
reply_for s row t = if same_side (side_of row) s then Some (reply_to_row row t) else None

unfoldable pub received : Side → List Row → Table → List Received
received s [] t = []
received s (row ∷ more) t =
    record { reply = reply_for s row t; seen = seen_by s (after_row row t) } ∷ received s more (after_row row t)

abbrev pub SameRows : Side → List (Row × Row) → Type 0
SameRows s [] = Unit {0}
SameRows s (rows ∷ more) = SameRow s rows × SameRows s more

-- Take two tables of which a side sees the same, and rows of both that it can't tell apart. If it is sent the same whenever a pair
-- ends, then it receives the same throughout: until a pair has ended, nothing shows what the other side has chosen, or whether it has.
abbrev pub KeepsSecrets : Type 0
KeepsSecrets = (s : Side) (rows : List (Row × Row)) (t u : Table)
    → seen_by s t ≡ seen_by s u → SameRows s rows → EndAlike s rows t u
    → received s (map (λ (two : Row × Row). two.0) rows) t ≡ received s (map (λ (two : Row × Row). two.1) rows) u

-- Nor does the audience learn it. It sees no row but offers of a draw and forfeits, of any side.

abbrev pub SameForAll : Row × Row → Type 0
SameForAll rows = Matches rows.0 rows.1 ⊎ ((is_secret rows.0 ≡ true) × (is_secret rows.1 ≡ true))

abbrev pub AllSame : List (Row × Row) → Type 0
AllSame [] = Unit {0}
AllSame (rows ∷ more) = SameForAll rows × AllSame more

abbrev pub AllEndAlike : List (Row × Row) → Table → Table → Type 0
AllEndAlike [] t u = Unit {0}
AllEndAlike (rows ∷ more) t u =
    ((ends_pair rows.0 t || ends_pair rows.1 u) ≡ true → notice (after_row rows.0 t) ≡ notice (after_row rows.1 u))
    × AllEndAlike more (after_row rows.0 t) (after_row rows.1 u)

unfoldable pub noticed : List Row → Table → List Notice
noticed [] t = []
noticed (row ∷ more) t = notice (after_row row t) ∷ noticed more (after_row row t)

abbrev pub KeepsSecretsFromAll : Type 0
KeepsSecretsFromAll = (rows : List (Row × Row)) (t u : Table)
    → notice t ≡ notice u → AllSame rows → AllEndAlike rows t u
    → noticed (map (λ (two : Row × Row). two.0) rows) t ≡ noticed (map (λ (two : Row × Row). two.1) rows) u
