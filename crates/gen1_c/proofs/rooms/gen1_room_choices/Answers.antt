use Rattle.std.proofs.Common.{List, ap, length, map, sym, ◌∙◌, ℕ}
use Rattle.std.proofs.lemmas.List.{length-map}
use Rattle.gen1_machine.specs.declared.side.Side.{Side}
use Rattle.gen1_machine.specs.Choices.{byte_of_choice}
use Rattle.gen1_room.specs.Rooms.{due}
use Rattle.gen1_c.specs.Codes.{over_front}
use Rattle.gen1_c.proofs.OddsDue.{same_side}
use Rattle.gen1_c.proofs.Writing.{rest_of}
use Rattle.gen1_c.proofs.rooms.gen1_room_choices.Goals as goal

pub returns-clause-offers : goal.returns-clause-offers
returns-clause-offers c course which k e =
    let side = same_side c.in-Some.side which (c.in-Some.ensures.exact ∙ e) in
    let bytes = c.choices-bytes.ensures.keeps course k ∙ ap (λ (it : Side). map byte_of_choice (due it course)) side in (
      c.len.ensures.value ∙ ap (λ (l : List ℕ). length l) bytes ∙ length-map (due which course) byte_of_choice,
      c.put_front.ensures ∙ ap (λ (l : List ℕ). over_front l c.args.front.now) (c.as_slice.ensures.value ∙ bytes),
    )

pub returns-clause-forfeited : goal.returns-clause-forfeited
returns-clause-forfeited c h =
    c.len.ensures.value ∙ ap (λ (l : List ℕ). length l) (c.choices-bytes.ensures.forfeited h)

pub returns-clause-rest : goal.returns-clause-rest
returns-clause-rest c =
    let bytes = c.as_slice.result.now in
    rest_of bytes c.args.front.now c.put_front.new.room c.len.result (c.len.ensures.value ∙ ap (λ (l : List ℕ). length l) (sym c.as_slice.ensures.value)) c.put_front.ensures
