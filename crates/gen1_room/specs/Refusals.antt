-- The numbers of a room's refusals (docs/MECHANICS.md, "Rooms"), and their texts.
use Rattle.std.specs.Prelude.{List, codes, ℕ, ◌++◌}
use Rattle.std.specs.Fmt.{decimal}
use Rattle.gen1_room.specs.declared.submission.RoomRefusal.{RoomRefusal}
use Rattle.gen1_room.specs.declared.submission.RoomRefusal.TheVariants.{AlreadyChosen, NotOffered, Over, Stale}

abbrev pub number_of : RoomRefusal → ℕ
number_of Over = 1
number_of (Stale current) = 2
number_of AlreadyChosen = 3
number_of NotOffered = 4

-- What is wrong, in words.
abbrev pub words_of : RoomRefusal → List ℕ
words_of Over = codes "the battle is over"
words_of (Stale current) = codes "the current pair is " ++ decimal current
words_of AlreadyChosen = codes "the side has chosen"
words_of NotOffered = codes "the choice is not offered"
