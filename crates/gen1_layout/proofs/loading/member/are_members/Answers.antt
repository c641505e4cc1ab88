use Rattle.std.proofs.Common.{◌-◌, ◌≤◌, below_more, ℕ}
use Rattle.gen1_layout.specs.Loading.{member_bytes, PassesPlace}
use Rattle.gen1_layout.proofs.loading.member.are_members.Goals as goal

pub places-preserved : goal.places-preserved
places-preserved c =
    let P : ℕ → Type 0 = λ place. 2 ≤ place → PassesPlace c.args.rules (member_bytes (place - 1) c.args.side.now) (member_bytes place c.args.side.now) in
    λ place low high. below_more P c.places.place (λ k below from. c.places.invariant k from below)
    (λ from. rw (c.member_bytes-in-places.ensures.value, c.member_bytes-in-places-2.ensures.value) at (c.is_place.ensures.passes.0 c.if-not-is_place.false))
    place high low
