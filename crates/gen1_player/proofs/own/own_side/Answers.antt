use Rattle.std.proofs.Common.{[], refl, sym, ◌∙◌, ◌∷◌}
use Rattle.std.proofs.lemmas.List.Elements.{All-from_recursion}
use Rattle.gen1_layout.specs.Shows.{setting_of}
use Rattle.gen1_machine.specs.State.{party}
use Rattle.gen1_offers.proofs.OfferedSet.{packs_of}
use Rattle.gen1_player.specs.OwnSide.{IsListedMember}
use Rattle.gen1_player.proofs.Fairness.{as_many, fault_fits, shown_at}
use Rattle.gen1_player.proofs.own.own_side.Goals as goal

pub returns-clause-stands : goal.returns-clause-stands
returns-clause-stands c s h =
    let g = setting_of s in let f = s.field in let k = packs_of h in let members = (party c.args.side f).members in
    rw (
      c.active-out.ensures s h,
      c.member.ensures.packs g f k,
      c.member-2.ensures.packs g f k,
      c.member-3.ensures.packs g f k,
      c.member-4.ensures.packs g f k,
      c.member-5.ensures.packs g f k,
      c.member-6.ensures.packs g f k,
      c.held.ensures.stands s h,
      c.turn.ensures.packs g f k,
      c.byte_of_request.ensures.value,
      c.request.ensures.packs g f k,
      c.byte_of_outcome.ensures.value (λ code is. fault_fits f.outcome k.outcome code (sym (c.outcome.ensures.packs g f k) ∙ is)),
      c.outcome.ensures.packs g f k,
      c.count.ensures.packs g f k,
      shown_at members 0,
      shown_at members 1,
      shown_at members 2,
      shown_at members 3,
      shown_at members 4,
      shown_at members 5,
      as_many members,
    ) refl

pub returns-clause-listed : goal.returns-clause-listed
returns-clause-listed c =
    record {
      members = All-from_recursion IsListedMember
          (c.member.result ∷ c.member-2.result ∷ c.member-3.result ∷ c.member-4.result ∷ c.member-5.result ∷ c.member-6.result ∷ []) (c.member.ensures.listed, (c.member-2.ensures.listed, (c.member-3.ensures.listed, (c.member-4.ensures.listed, (c.member-5.ensures.listed, (c.member-6.ensures.listed, tt))))));
      held = c.held.ensures.flag;
      request = c.byte_of_request.ensures.small;
      outcome = c.byte_of_outcome.ensures.small;
      count = c.count.ensures.few;
    }
