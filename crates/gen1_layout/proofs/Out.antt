-- The member that is out: where its bytes begin, and the effect of writing them.
use Rattle.std.proofs.Common.{ap, arith, length, refl, ℕ, List, ◌+◌, ◌-◌, ◌≡◌, ◌∙◌}
use Rattle.std.specs.Prelude.{slice_index}
use Rattle.std.specs.List.{refill}
use Rattle.gen1_stats.specs.Members.{Member}
use Rattle.gen1_machine.specs.declared.side.Side.{Side}
use Rattle.gen1_machine.specs.State.{active_in, changed_member, member_in, Field}
use Rattle.gen1_machine.specs.Layout.{member_block}
use Rattle.gen1_machine.specs.Valid.{IsMemberUnder}
use Rattle.gen1_layout.specs.Parts.{active_of, joined, member_at, out_at, parts_of, rewritten, side_at, Parts}
use Rattle.gen1_layout.specs.Shows.{Setting, Within}
use Rattle.gen1_layout.proofs.Steps.{active_holds, out_holds, party_in, member_written, SameStats}
use Rattle.gen1_layout.proofs.Views.{member-leaves}

module _ {g : Setting} {p : Parts} {f : Field} (h : Within g p f) where
  pub out_starts : (s : Side) → out_at s p ≡ member_at s (active_in s f).place
  out_starts s =
      let v = party_in g f s h.storable in
      let byte : slice_index (active_of s p) 0 ≡ (active_in s f).place = ap (λ (l : List ℕ). slice_index l 0) (active_holds h s) in
      let start : ℕ = side_at s in
      omega (arith, byte, v.place.0, v.place.1, v.members.size.1)

  pub out_written : (s : Side) (change : Member → Member) (new : Member) (w : List ℕ) → length (joined p) ≡ 384 → parts_of (joined p) ≡ p
      → change (member_in s f) ≡ new → refill 24 (member_block (member_in s f)) w ≡ member_block new
      → SameStats new (member_in s f) → length new.moves ≡ length (member_in s f).moves → IsMemberUnder g.terms.rules new
      → Within g (parts_of (rewritten (out_at s p) (out_at s p + 24 - out_at s p) w (joined p))) (changed_member s change f)
  out_written s change new w long same makes e stats count ok =
      let v = party_in g f s h.storable in
      let place = (active_in s f).place in
      let many : out_at s p + 24 - out_at s p ≡ 24 = omega arith in
      rw (many, out_starts s, member-leaves p long same s place w v.place.0 (omega (arith, v.place.1, v.members.size.1)))
      (member_written s place change new w h refl makes (ap (λ (l : List ℕ). refill 24 l w) (out_holds h s place refl) ∙ e) stats count ok)
