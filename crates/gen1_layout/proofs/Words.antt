-- Reexports of what most proofs about the bytes use.
pub use Rattle.std.proofs.Common.{Bool, List, None, Option, Some, [], add-one, ap, arith, false, inl, inr, is_some, length, lit<, lit≤, map, nat_le, nat_lt, refl, rules, slice_index, slice_index_or, slice_set, subst, suc, sym, true, zero, ℕ, ◌∙◌}
pub use Rattle.std.proofs.lemmas.Bool.Decides.{nat_tests}
pub use Rattle.gen1_stats.specs.Members.{IsBetween, Member, nobody}
pub use Rattle.gen1_machine.specs.declared.side.Side.{Side}
pub use Rattle.gen1_machine.specs.declared.event.Event.{Event}
pub use Rattle.gen1_machine.specs.declared.event.Who.{Who}
pub use Rattle.gen1_machine.specs.declared.side.DisabledSlot.{DisabledSlot}
pub use Rattle.gen1_machine.specs.Conditions.{ActiveConditions}
pub use Rattle.gen1_machine.specs.State.{Active, Field, active_in, conditions_in, health_in, known_in, member_in, party, underway_in, who_in}
unfoldable pub use Rattle.gen1_machine.specs.State.{changed_active, changed_conditions, changed_member, with_last_damage}
pub use Rattle.gen1_machine.specs.Progress.{Action, Phase, Progress}
unfoldable pub use Rattle.gen1_machine.specs.Progress.{choose, draw, ends, given, note, on_active, on_conditions, on_field, on_member, set_last_damage, stay, stop, ◌▸◌}
pub use Rattle.gen1_layout.specs.Parts.{Parts}
pub use Rattle.gen1_layout.specs.Shows.{Setting, Within, Frame, Shows, ShowsDrawn, Telling, Told}
pub use Rattle.gen1_layout.proofs.Steps.{active_holds, header_holds, out_holds, active_ok, active_written, conditions_written, header_packed, member_ok, member_written, packed_of, still_within}
pub use Rattle.gen1_layout.proofs.Counts.{number_small}
pub use Rattle.gen1_layout.proofs.WaysBack.{header_packs, none_back, top_byte, word_back}
pub use Rattle.gen1_layout.proofs.Chain.{acted, as_list, choose-false, choose-true, drawing, drawn_acted, drawn_as_list, drawn_from_list, drawn_goes, drawn_if_not, drawn_if_so, drawn_next, drawn_quietly, drawn_seeing, drawn_settled, drawn_stays, drawn_stops, from_list, goes, halted, if_not, if_so, noted, passing, past, put, put_damage, put_on_active, put_on_conditions, put_on_member, quietly, seeing, settled, stays, still, stops, then-goes, then-stops, told_so}
