use Rattle.std.proofs.Common.{ℕ, ◌+◌, ◌<◌, ◌≡◌, ◌≢◌, length, slice_index}
use Rattle.gen1_layout.specs.Parts.{joined}
use Rattle.gen1_outcomes.specs.declared.successor.Successor.{Successor}
use Rattle.gen1_outcomes.specs.Listing.{battle_at}
use Rattle.gen1_outcomes.specs.Middles.{slot_of}
use Rattle.gen1_outcomes.proofs.Lists.{AreTaken}
use Rattle.gen1_outcomes.proofs.merging.find.Given as goal

abbrev pub invariant-slots : goal.invariant-slots
invariant-slots l =
    record {
      within : l.slot < length l.table;
      taken : AreTaken l.table l.slot l.counter;
      at : l.slot ≡ slot_of l.table (joined l.battle) l.counter;
      past : (j : ℕ) → j < l.counter → slice_index l.table (slot_of l.table (joined l.battle) j) ≢ 0;
      others : (j : ℕ) → j < l.counter → (k : ℕ) → (other : Successor) → k < length l.successors
          → slice_index l.table (slot_of l.table (joined l.battle) j) ≡ k + 1 → joined (battle_at l.successors k other) ≢ joined l.battle;
    }
