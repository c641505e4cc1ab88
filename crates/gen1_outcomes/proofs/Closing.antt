-- The close of an update, and the bytes of a position.
use Rattle.std.proofs.Common.{◌≡◌, List, ℕ, ◌+◌, ap, arith, drop, length, subst, take, ◌∙◌, false, true, refl, sym}
use Rattle.std.proofs.lemmas.List.{drop-drop, length-drop, length-take-le, take_all}
use Rattle.std.specs.List.{refill}
use Rattle.gen1_layout.proofs.Words.{Bool, Frame, Phase, Progress, Shows, Side, Telling}
use Rattle.gen1_rolls.specs.Draws.{Drawing, Source, StandsIn}
use Rattle.gen1_rolls.proofs.Standing.{stands_there}
use Rattle.gen1_machine.specs.declared.side.Pick.{Pick}
use Rattle.gen1_machine.specs.declared.side.Side.TheVariants.{One}
use Rattle.gen1_machine.specs.Action.{begin}
use Rattle.gen1_machine.specs.Falls.{close}
use Rattle.gen1_machine.specs.Progress.{on_action, ◌▸◌}
use Rattle.gen1_machine.specs.ResidualDamage.{residual}
use Rattle.gen1_machine.specs.Ruling.{Ruling, ruling_of}
use Rattle.gen1_machine.specs.Step.{close_update}
use Rattle.gen1_machine.specs.Turn.{do_part, do_parts, end_turn, is_cut}
use Rattle.gen1_machine.specs.Layout.{bytes_of}
use Rattle.gen1_machine.specs.State.{Field, State}
use Rattle.gen1_layout.specs.Parts.{Parts, bytes_of_sides, joined, part, parts_of, with_sides}
use Rattle.gen1_layout.specs.Shows.{Setting, Within, blocks_of, state_in}
use Rattle.gen1_layout.proofs.WaysBack.{parts-bytes_of}
use Rattle.gen1_layout.proofs.Views.{refill-same}
use Rattle.gen1_hits.specs.declared.known.Known.{Known}
use Rattle.gen1_hits.specs.Knowing.{ShowsOver, knowing, with_broke}
use Rattle.gen1_turn.specs.TwoParts.{PartLeaves, suffering}
use Rattle.gen1_outcomes.specs.Beginning.{second_action}
use Rattle.gen1_outcomes.specs.Listing.{untold}

-- An action begins, whatever was known of another one.
pub acts_again : (r : Ruling) (s : Side) (pick : Pick) (p : Progress) → second_action r s pick (begin One p) ≡ second_action r s pick p
unfolding do_parts do_part begin on_action ◌▸◌
acts_again r s pick p = refl

-- The bytes and the generator are those of an update.
pub record IsClosed {A : Type 0} (d : Drawing A) (source : Source A) (k : Known) (g : Frame) (parts : Parts) (now : A) (q : Progress) : Type 0 where
  pub within : Within g.setting parts q.field
  pub stands : StandsIn d source q.drawn now
  pub on : q.stream ≡ source.stream
  pub skips : q.skips ≡ k.skips

module _ {A : Type 0} {d : Drawing A} {source : Source A} where
  -- What shows the close of a turn shows the close of its update.
  pub closed : (k : Known) (g : Frame) {parts : Parts} {events : Telling} {now : A} (stopped : Bool) (parts' : Parts) (events' : Telling) (q : Progress)
      → (a : ShowsOver d source k g parts events now stopped q)
      → (ends : Bool)
      × Shows (record (knowing (with_broke a.0 k) g) { stream = source.stream; drawn = q.drawn }) parts' events' ends
      (close (ruling_of g.setting.terms) q.field.outcome (record q { stopped = false }))
      → IsClosed d source k g parts' now (close_update (ruling_of g.setting.terms) q)
  unfolding close_update
  closed k g stopped parts' events' q a (ends, x) =
      record { within = x.within; stands = stands_there d source _ a.1.stands (sym x.drawn); on = x.stream; skips = x.skips }

  -- What shows an action and its residual damage shows the update that ends with them, after the code of its close.
  pub closes_turn : (k : Known) (g : Frame) (parts parts' : Parts) (now : A) (falls : Bool) (f : Phase) (s : Side) (p : Progress)
      → PartLeaves (λ b q. ShowsOver d source k g parts untold now b q) falls f s p
      → (falls ≡ true → (h : Frame) (q : Progress) (stopped : Bool) → h.action.side ≡ k.side → Shows h parts untold stopped q
      → (ends : Bool) × Shows h parts' untold ends (close_update (ruling_of h.setting.terms) q))
      → (falls ≡ false → (h : Frame) (q : Progress) → is_cut q ≡ false → Shows h parts untold false q
      → (ends : Bool) × Shows h parts' untold ends (close_update (ruling_of h.setting.terms) (end_turn q)))
      → IsClosed d source k g parts' now (close_update (ruling_of g.setting.terms) ((f ▸ suffering s end_turn) p))
  closes_turn k g parts parts' now true f s p left cut whole =
      let q : Progress = (f ▸ suffering s end_turn) p in
      let a = left end_turn in
      let h : Frame = record (knowing (with_broke a.1.0 k) g) { stream = source.stream; drawn = q.drawn } in
      let x = (cut refl h q a.0 refl a.1.1.shows).1 in
      record { within = x.within; stands = stands_there d source _ a.1.1.stands (sym x.drawn); on = x.stream; skips = x.skips }
  closes_turn k g parts parts' now false f s p left cut whole =
      let before : Progress = residual s (f p) in
      let a = left.0 in
      let h : Frame = record (knowing (with_broke a.0 k) g) { stream = source.stream; drawn = before.drawn } in
      let x = (whole refl h before left.1 a.1.shows).1 in
      subst (λ (q : Progress). IsClosed d source k g parts' now (close_update (ruling_of g.setting.terms) q)) (sym (left.2 end_turn))
      (record { within = x.within; stands = stands_there d source _ a.1.stands (sym x.drawn); on = x.stream; skips = x.skips })

-- Parts that represent a field are those of their bytes.
pub within_bytes : (g : Setting) (parts : Parts) (bytes : List ℕ) (f : Field) → bytes ≡ joined parts → Within g parts f → Within g (parts_of bytes) f
unfolding bytes_of
within_bytes g parts bytes f is h =
    let s : State = state_in g f in
    let back : parts_of (bytes_of s) ≡ blocks_of s = parts-bytes_of s h.storable.one.members.size.1 h.storable.two.members.size.1 in
    let same : parts_of bytes ≡ parts = ap parts_of (is ∙ ap joined h.same) ∙ back ∙ sym h.same in
    subst (λ (p : Parts). Within g p f) (sym same) h

-- The bytes of a battle, written over another one.
part_moved : (at count : ℕ) (bytes : List ℕ) → part at count (drop 24 bytes) ≡ part (24 + at) count bytes
part_moved at count bytes = ap (take count) (drop-drop at 24 bytes)

pub bytes_written : (bytes front back : List ℕ) (p : Parts) → length bytes ≡ 384 → front ≡ take 24 bytes → back ≡ take 360 (drop 24 bytes)
    → with_sides back (record p { header = refill 24 p.header front }) ≡ parts_of bytes
bytes_written bytes front back p long first then =
    let rest : back ≡ drop 24 bytes = then ∙ take_all 360 (drop 24 bytes) (omega (arith, length-drop 24 bytes, long)) in
    let short : length front ≡ 24 = ap length first ∙ length-take-le 24 bytes (omega (arith, long)) in
    let wide : length back ≡ 360 = omega (arith, ap length rest, length-drop 24 bytes, long) in
    rw (
      refill-same 24 p.header front short,
      refill-same 360 (bytes_of_sides p) back wide,
      first,
      rest,
      part_moved 24 24 bytes,
      part_moved 48 24 bytes,
      part_moved 72 24 bytes,
      part_moved 96 24 bytes,
      part_moved 120 24 bytes,
      part_moved 144 36 bytes,
      part_moved 180 24 bytes,
      part_moved 204 24 bytes,
      part_moved 228 24 bytes,
      part_moved 252 24 bytes,
      part_moved 276 24 bytes,
      part_moved 300 24 bytes,
      part_moved 324 36 bytes,
    ) refl
