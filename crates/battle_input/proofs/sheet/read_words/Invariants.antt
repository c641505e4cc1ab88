use Rattle.std.proofs.Common.{◌≡◌, take, drop, length}
use Rattle.serde_json.specs.View.{items_view}
use Rattle.battle_input.specs.Sheets.{each_from, word_of}
use Rattle.battle_input.proofs.Reading.{with_front}
use Rattle.battle_input.proofs.sheet.read_words.Given as goal

abbrev pub invariant-loop-i : goal.invariant-loop-i
invariant-loop-i g l = (with_front (take l.i l.words) (each_from l.i word_of (items_view (drop l.i l.items.items))) ≡ each_from 0 word_of (items_view l.items.items))
    × (length l.words ≡ g.row.N)
