use Rattle.std.proofs.Common.{ap, sym, ◌∙◌}
use Rattle.gen1_machine.specs.Lines.{joined}
use Rattle.battle_commands.specs.Faults.{pieces_of}
use Rattle.battle_commands.specs.declared.fault.ToolFault.{ToolFault}
use Rattle.battle_commands.proofs.Serving.{four_pieces, six_pieces}
use Rattle.battle_commands.proofs.fault.ToolFault.words.Goals as goal

pub returns-in-Team : goal.returns-in-Team
returns-in-Team c =
    six_pieces _ _ _ _ _ _ _ _ _ _ _ _ _ _ _ _ c.new-words.ensures
    c.push_str-in-Team.ensures.bytes c.push_str-in-Team-2.ensures.bytes c.format.ensures.text
    c.push_str-in-Team-3.ensures.bytes c.push_str-in-Team-4.ensures.bytes c.format-in-Team.ensures.text
    c.push_str-in-Team-5.ensures.bytes c.push_str-in-Team-6.ensures.bytes c.format-in-Team-2.ensures.text
    ∙ ap (λ (f : ToolFault). joined (pieces_of f)) (sym c.in-Team.is)

pub returns-in-Pair : goal.returns-in-Pair
returns-in-Pair c =
    four_pieces _ _ _ _ _ _ _ _ _ _ _ c.new-words.ensures
    c.push_str-in-Pair.ensures.bytes c.push_str-in-Pair-2.ensures.bytes c.format-in-Pair.ensures.text
    c.push_str-in-Pair-3.ensures.bytes c.push_str-in-Pair-4.ensures.bytes c.format-in-Pair-2.ensures.text
    ∙ ap (λ (f : ToolFault). joined (pieces_of f)) (sym c.in-Pair.is)
