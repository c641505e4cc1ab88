use Rattle.std.proofs.Common.{◌≡◌, drop}
use Rattle.serde_json.specs.View.{items_view}
use Rattle.battle_input.specs.Sheets.{each_from}
use Rattle.battle_input.proofs.Reading.{with_front}
use Rattle.battle_input.proofs.sheet.read_list.Given as goal

abbrev pub invariant-loop-number : goal.invariant-loop-number
invariant-loop-number g l =
    with_front l.items.items (each_from l.number g.T.Item.meaning (items_view (drop l.number l.value-items))) ≡ each_from 0 g.T.Item.meaning (items_view l.value-items)
