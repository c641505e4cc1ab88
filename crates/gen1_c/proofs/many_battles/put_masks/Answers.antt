use Rattle.std.proofs.Common.{ap, arith, length, subst, sym, take, ℕ, ◌<◌, ◌∙◌, ◌≡◌}
use Rattle.std.proofs.Math.Seq.{take-length}
use Rattle.gen1_layout.specs.Parts.{Parts}
use Rattle.gen1_layout.specs.Shows.{Stands}
use Rattle.gen1_c.proofs.Updates.{masks_more}
use Rattle.gen1_c.proofs.many_battles.put_masks.Goals as goal

pub loop-place-init : goal.loop-place-init
loop-place-init c = tt

pub loop-place-preserved : goal.loop-place-preserved
loop-place-preserved c =
    let place = c.loop-place.place in
    let inside : place < length c.args.battles.now = omega arith in
    let room : place < length c.loop-place.masks = omega (arith, c.requires.same) in
    let battle = c.index-battles-place.result in
    masks_more c.args.side c.args.battles.now c.loop-place.masks place battle c.offered_mask.result inside room c.loop-place.invariant
    (record {
      stands = λ s h. c.offered_mask.ensures.stands s (subst (λ (p : Parts). Stands p s) (sym c.index-battles-place.is) h);
      twelve = c.offered_mask.ensures.twelve;
    })

pub returns : goal.returns
returns c =
    let battles = c.args.battles.now in
    let masks = c.loop-place.masks in
    let all : take c.loop-place.place battles ≡ battles = ap (λ (n : ℕ). take n battles) (let e : c.loop-place.place ≡ length battles = omega arith in e) ∙ take-length battles in
    let every : take c.loop-place.place masks ≡ masks = ap (λ (n : ℕ). take n masks) (let e : c.loop-place.place ≡ length masks = omega (arith, c.requires.same) in e) ∙ take-length masks in
    record { masks = rw (all, every) at c.loop-place.invariant }
